-- The memory, the parameters and the arguments are those with which the definition begins the call.
use Rattle.std.proofs.Common.{Vec, Global, ◌≡◌, ◌-◌, min, length, take, drop, refl, ap, ◌∙◌, arith}
use Rattle.c_typed.specs.Typed.{FunctionTree}
use Rattle.c_typed.specs.WellTyped.{params_of}
use Rattle.c_mean.specs.Run.{objects_of}
use Rattle.c_interp_store.specs.Blocks.{shapes_of}
use Rattle.c_interp_store.specs.Holding.{opened_of}
use Rattle.c_interp_def.specs.declared.task.Slot.{Slot}
use Rattle.c_interp.proofs.Layouts.{shapes_read}
use Rattle.c_interp.proofs.Frames.{params-read, args-read, begins, begins_err}
use Rattle.c_interp.proofs.calls.frame_of.Goals as goal

pub returns-in-Ok : goal.returns-in-Ok
returns-in-Ok c =
    let fn = c.args.f.now in
    let old = c.args.machine.now in
    let ops = old.operands.items in
    let shapes = c.deref-2.result.now in
    let variables = c.deref-3.result.now in
    let all = c.deref-4.result.now in
    let at = c.saturating_sub-first.result in
    let first : at ≡ length ops - c.args.count = omega (arith, c.saturating_sub-first.ensures, c.len.ensures, old.operands.ok.0) in
    let laid : shapes_of shapes ≡ objects_of c.args.program.now.typed.now.structs fn.variables =
    shapes_read c.args.program.now.typed.now c.args.program.now.layouts.now c.args.function fn c.deref.result.now c.in-Some.layout.now shapes c.requires.laid c.requires.there c.deref.ensures.value c.in-Some.ensures.lookup.3.0
    c.in-Some.ensures.lookup.1 c.deref-2.ensures.value in
    let few : c.min-params.result ≡ min c.f.inside.params (length variables) = omega (arith, c.min-params.ensures, c.len-2.ensures, c.deref-3.ensures.len) in
    let are_params : take c.min-params.result variables ≡ params_of fn =
    params-read fn variables c.f.inside.params c.min-params.result (c.deref-3.ensures.value ∙ ap (λ (x : FunctionTree). x.variables) c.f.view_is) (ap (λ (x : FunctionTree). x.params) c.f.view_is) few in
    begins c.args.program.now.typed.now c.args.function c.args.count fn old shapes (opened_of c.in_ok-objects.objects) c.open.new.self (take c.min-params.result variables) (take (length all - at) (drop at all)) c.requires.there laid
    (λ calls m h. c.in_ok-objects.ensures calls m h) are_params (args-read ops all c.args.count at c.deref-4.ensures.value first)
    _ c.take_arguments-taken.new.store c.truncate.new.self c.blank_slots.new.spare (λ calls m h. c.in-Ok.ensures.stored calls m h) refl refl refl c.in-Ok.ensures.slots (c.truncate.ensures.items ∙ ap (λ k. take k ops) first)

pub returns-in-Err : goal.returns-in-Err
returns-in-Err c =
    let fn = c.args.f.now in
    let old = c.args.machine.now in
    let ops = old.operands.items in
    let shapes = c.deref-2.result.now in
    let variables = c.deref-3.result.now in
    let all = c.deref-4.result.now in
    let at = c.saturating_sub-first.result in
    let first : at ≡ length ops - c.args.count = omega (arith, c.saturating_sub-first.ensures, c.len.ensures, old.operands.ok.0) in
    let laid : shapes_of shapes ≡ objects_of c.args.program.now.typed.now.structs fn.variables =
    shapes_read c.args.program.now.typed.now c.args.program.now.layouts.now c.args.function fn c.deref.result.now c.in-Some.layout.now shapes c.requires.laid c.requires.there c.deref.ensures.value c.in-Some.ensures.lookup.3.0
    c.in-Some.ensures.lookup.1 c.deref-2.ensures.value in
    let few : c.min-params.result ≡ min c.f.inside.params (length variables) = omega (arith, c.min-params.ensures, c.len-2.ensures, c.deref-3.ensures.len) in
    let are_params : take c.min-params.result variables ≡ params_of fn =
    params-read fn variables c.f.inside.params c.min-params.result (c.deref-3.ensures.value ∙ ap (λ (x : FunctionTree). x.variables) c.f.view_is) (ap (λ (x : FunctionTree). x.params) c.f.view_is) few in
    begins_err c.args.program.now.typed.now c.args.function c.args.count fn old shapes (opened_of c.in_ok-objects.objects) c.open.new.self (take c.min-params.result variables) (take (length all - at) (drop at all)) c.requires.there laid
    (λ calls m h. c.in_ok-objects.ensures calls m h) are_params (args-read ops all c.args.count at c.deref-4.ensures.value first)
    (Vec Slot Global) c.take_arguments-taken.new.store old c.in-Err.stop (λ calls m h. c.in-Err.ensures.stored calls m h)
