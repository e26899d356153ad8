use Rattle.std.proofs.Common.{◌≡◌, ◌+◌, length, get_or, sym, ap, subst, ◌∙◌, arith}
use Rattle.c_typed.specs.Typed.{FunctionTree, ProgramTree}
use Rattle.log_check.specs.Log.{PlainPart}
use Rattle.log_check.proofs.Named.{all-named, goes-on, line-fits, names-differ, names-same, one-missing, other-name, HasCome}
use Rattle.log_check.proofs.names.first_other_name.Goals as goal

pub returns-then-ne-clause-some : goal.returns-then-ne-clause-some
returns-then-ne-clause-some c =
    let i = c.loop-index.index in
    let d = c.index-log-index.result in
    let f = c.index-function.result.now in
    let own = ap (λ (x : PlainPart). x.name) (sym c.index-log-index.is ∙ sym c.part.view_is) ∙ sym c.as_slice.ensures in
    let functions = ap (λ (t : ProgramTree). get_or t.functions i f) (sym c.typed.view_is) in
    let its = ap (λ (x : FunctionTree). x.name) (functions ∙ (sym c.index-function.ensures ∙ sym c.function.view_is)) ∙ sym c.as_slice-in-loop-index.ensures in
    let many = ap (λ (t : ProgramTree). length t.functions) c.typed.view_is in
    other-name c.args.typed.now c.args.log.now i c.loop-index.line d f c.loop-index.invariant c.loop-index-test.true
    (omega (arith, c.if-index-len.false, c.len.ensures, c.typed.inside.functions.ok.0, many))
    (λ e. names-differ c.as_slice.result.now c.as_slice-in-loop-index.result.now c.ne.result c.ne.ensures c.if-ne.true (sym own ∙ (e ∙ its)))

pub overflow_cast-line : goal.overflow_cast-line
overflow_cast-line c =
    let i = c.loop-index.index in
    let d = c.index-log-index.result in
    let steps = ap (λ (x : PlainPart). length x.steps) (sym c.index-log-index.is ∙ sym c.part.view_is) in
    let fits = line-fits c.args.typed.now c.args.log.now i c.loop-index.line d c.loop-index.invariant c.loop-index-test.true in
    record { fits = omega (arith, steps, fits, c.len-in-loop-index.ensures, c.part.inside.steps.ok.0, c.requires) }

pub overflow_add-line : goal.overflow_add-line
overflow_add-line c =
    let i = c.loop-index.index in
    let d = c.index-log-index.result in
    let steps = ap (λ (x : PlainPart). length x.steps) (sym c.index-log-index.is ∙ sym c.part.view_is) in
    let fits = line-fits c.args.typed.now c.args.log.now i c.loop-index.line d c.loop-index.invariant c.loop-index-test.true in
    record { fits = omega (arith, steps, fits, c.len-in-loop-index.ensures, c.part.inside.steps.ok.0, c.requires) }

pub overflow_add-line-in-loop-index : goal.overflow_add-line-in-loop-index
overflow_add-line-in-loop-index c =
    let i = c.loop-index.index in
    let d = c.index-log-index.result in
    let steps = ap (λ (x : PlainPart). length x.steps) (sym c.index-log-index.is ∙ sym c.part.view_is) in
    let fits = line-fits c.args.typed.now c.args.log.now i c.loop-index.line d c.loop-index.invariant c.loop-index-test.true in
    record { fits = omega (arith, steps, fits, c.len-in-loop-index.ensures, c.part.inside.steps.ok.0, c.requires) }

pub loop-index-preserved : goal.loop-index-preserved
loop-index-preserved c =
    let p = c.args.typed.now in
    let log = c.args.log.now in
    let i = c.loop-index.index in
    let line = c.loop-index.line in
    let d = c.index-log-index.result in
    let f = c.index-function.result.now in
    let own = ap (λ (x : PlainPart). x.name) (sym c.index-log-index.is ∙ sym c.part.view_is) ∙ sym c.as_slice.ensures in
    let functions = ap (λ (t : ProgramTree). get_or t.functions i f) (sym c.typed.view_is) in
    let its = ap (λ (x : FunctionTree). x.name) (functions ∙ (sym c.index-function.ensures ∙ sym c.function.view_is)) ∙ sym c.as_slice-in-loop-index.ensures in
    let many = ap (λ (t : ProgramTree). length t.functions) c.typed.view_is in
    let steps = ap (λ (x : PlainPart). length x.steps) (sym c.index-log-index.is ∙ sym c.part.view_is) in
    let counted : length (get_or log i d).steps ≡ c.len-in-loop-index.result = omega (arith, steps, c.len-in-loop-index.ensures, c.part.inside.steps.ok.0) in
    let same = names-same c.as_slice.result.now c.as_slice-in-loop-index.result.now c.ne.result c.ne.ensures c.if-ne.false in
    subst (λ n. HasCome p log (i + 1) (line + (1 + n))) counted
    (goes-on p log i line d f c.loop-index.invariant c.loop-index-test.true (omega (arith, c.if-index-len.false, c.len.ensures, c.typed.inside.functions.ok.0, many))
    (own ∙ (same ∙ sym its)))

pub returns-then-log-len-clause-some : goal.returns-then-log-len-clause-some
returns-then-log-len-clause-some c =
    let many = ap (λ (t : ProgramTree). length t.functions) c.typed.view_is in
    one-missing c.args.typed.now c.args.log.now c.loop-index.index c.loop-index.line c.loop-index.invariant c.loop-index-test.false
    (omega (arith, c.loop-index.auto.index-end, c.if-log-len.true, c.len-2.ensures, c.typed.inside.functions.ok.0, many))

pub returns-clause-none : goal.returns-clause-none
returns-clause-none c =
    let many = ap (λ (t : ProgramTree). length t.functions) c.typed.view_is in
    all-named c.args.typed.now c.args.log.now c.loop-index.index c.loop-index.line c.loop-index.invariant (omega (arith, c.loop-index.auto.index-end, c.loop-index-test.false))
    (omega (arith, c.if-log-len.false, c.len-2.ensures, c.typed.inside.functions.ok.0, many))
