use Rattle.std.proofs.Common.{◌∙◌, length, refl, sym, ap, arith}
use Rattle.std.specs.Prelude.{slice_get}
use Rattle.std.proofs.lemmas.Option.{slice_get_read, slice_get_past}
use Rattle.c_typed.specs.Typed.{ProgramTree}
use Rattle.c_interp.proofs.CallSteps.{call_cut, call_of_none, call_begun_step, call_not_begun, one-deeper}
use Rattle.c_interp.proofs.calls.call.Goals as goal

pub returns-then-machine-eq0 : goal.returns-then-machine-eq0
returns-then-machine-eq0 c = call_cut c.args.program.now.typed.now c.args.program.now.bound c.args.function c.args.count c.args.machine.now c.args.machine.now c.if-machine-eq0.true

pub returns-in_default : goal.returns-in_default
returns-in_default c = call_of_none c.args.program.now.typed.now c.args.program.now.bound c.args.function c.args.count _ c.args.machine.now c.args.machine.now (one-deeper _ (omega arith))
    (ap (λ l. slice_get l c.args.function) (sym (c.deref.ensures.value ∙ ap (λ (x : ProgramTree). x.functions) c.typed.view_is)) ∙ slice_get_past c.deref.result.now c.args.function c.in_default.ensures.lookup.3)

pub frame_of-requires-clause-there : goal.frame_of-requires-clause-there
frame_of-requires-clause-there c =
    (ap (λ l. slice_get l c.args.function) (sym (c.deref.ensures.value ∙ ap (λ (x : ProgramTree). x.functions) c.typed.view_is))
    ∙ slice_get_read c.deref.result.now (length c.deref.result.now) c.args.function c.in-Some.f.now refl c.in-Some.ensures.lookup.3.0 c.in-Some.ensures.lookup.1)

pub returns-in-Ok : goal.returns-in-Ok
returns-in-Ok c = call_begun_step c.args.program.now.typed.now c.args.program.now.bound c.args.function c.args.count c.begin_call.result c.args.machine.now c.frame_of.new.machine c.begin_call.new.machine c.in-Some.f.now c.in-Ok.active
    (one-deeper _ (omega arith))
    (ap (λ l. slice_get l c.args.function) (sym (c.deref.ensures.value ∙ ap (λ (x : ProgramTree). x.functions) c.typed.view_is))
    ∙ slice_get_read c.deref.result.now (length c.deref.result.now) c.args.function c.in-Some.f.now refl c.in-Some.ensures.lookup.3.0 c.in-Some.ensures.lookup.1)
    c.in-Ok.ensures c.begin_call.ensures

pub returns-in-Err : goal.returns-in-Err
returns-in-Err c = call_not_begun c.args.program.now.typed.now c.args.program.now.bound c.args.function c.args.count c.in-Err.stop c.args.machine.now c.frame_of.new.machine c.frame_of.new.machine c.in-Some.f.now (one-deeper _ (omega arith))
    (ap (λ l. slice_get l c.args.function) (sym (c.deref.ensures.value ∙ ap (λ (x : ProgramTree). x.functions) c.typed.view_is))
    ∙ slice_get_read c.deref.result.now (length c.deref.result.now) c.args.function c.in-Some.f.now refl c.in-Some.ensures.lookup.3.0 c.in-Some.ensures.lookup.1)
    c.in-Err.ensures
