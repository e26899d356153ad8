use Rattle.std.proofs.Common.{◌≡◌, ◌<◌, length, map, sym, ap, ◌∙◌, arith}
use Rattle.std.specs.Prelude.{get_or}
use Rattle.std.proofs.lemmas.List.{get_or-map, length-map}
use Rattle.std.proofs.lemmas.List.Elements.{Contains-get_or}
use Rattle.std.specs.Arc.{arc_value}
use Rattle.g_pass_def.specs.Answers.{lambdas_of}
use Rattle.log_check.proofs.Made.{callee-more}
use Rattle.log_check.proofs.callees.callees_of.Goals as goal

pub bounds-made-number : goal.bounds-made-number
bounds-made-number c =
    let numbers = c.args.numbers.now in
    c.requires (get_or numbers c.loop-number.number-index 0) (Contains-get_or numbers c.loop-number.number-index 0 c.loop-number-test.true)

pub loop-number-preserved : goal.loop-number-preserved
loop-number-preserved c =
    let made = c.args.made.now in
    let numbers = c.args.numbers.now in
    let n = get_or numbers c.loop-number.number-index 0 in
    let callee = c.index-made-number.result in
    let there : n < length made = c.requires n (Contains-get_or numbers c.loop-number.number-index 0 c.loop-number-test.true) in
    let many : n < length (map arc_value made) = omega (arith, there, length-map made arc_value) in
    let is : arc_value callee ≡ get_or (map arc_value made) n (arc_value callee) = ap arc_value c.index-made-number.is ∙ sym (get_or-map arc_value made n callee (arc_value callee) there) in
    ap lambdas_of c.in_ok-push_callee.ensures
    ∙ callee-more (map arc_value made) (map arc_value c.loop-number.callees.items) numbers c.loop-number.number-index (arc_value callee) c.loop-number-test.true many is c.loop-number.invariant
