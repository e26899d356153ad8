use Rattle.std.proofs.Common.{◌+◌, ◌||◌, drop, sym, ◌∙◌}
use Rattle.g_graph.specs.declared.op.Origin.TheVariants.{Arg}
use Rattle.g_graph.specs.Scope.{same_origin}
use Rattle.g_graph.specs.WellFormed.{some_of}
use Rattle.r_edit.specs.Places.{kept}
use Rattle.r_dne.proofs.Tests.{kept_some_more}
use Rattle.r_dne.proofs.gamma.is_among_kept.Goals as goal

pub returns-then-is_kept_argument : goal.returns-then-is_kept_argument
returns-then-is_kept_argument c =
    let test = same_origin (Arg c.args.index) in
    let i = c.loop-i.i in
    let rest = some_of test (kept (drop (i + 1) c.args.exits.now) (drop (i + 1) c.args.results.now)) in
    let here = sym c.is_kept_argument.ensures ∙ c.if-is_kept_argument.true in
    (λ j. sym here j || rest) ∙ sym (kept_some_more test c.args.exits.now c.args.results.now i (Arg 0) c.loop-i-test.true) ∙ c.loop-i.invariant

pub loop-i-preserved : goal.loop-i-preserved
loop-i-preserved c =
    let test = same_origin (Arg c.args.index) in
    let i = c.loop-i.i in
    let rest = some_of test (kept (drop (i + 1) c.args.exits.now) (drop (i + 1) c.args.results.now)) in
    let here = sym c.is_kept_argument.ensures ∙ c.if-is_kept_argument.false in
    (λ j. sym here j || rest) ∙ sym (kept_some_more test c.args.exits.now c.args.results.now i (Arg 0) c.loop-i-test.true) ∙ c.loop-i.invariant
