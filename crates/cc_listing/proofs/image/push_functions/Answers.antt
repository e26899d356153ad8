-- One function more: its words come first among those that are left.
use Rattle.std.proofs.Common.{◌≡◌, ◌+◌, ◌-◌, ◌*◌, ◌/◌, ◌≤◌, ◌++◌, sym, ap, subst, ◌∙◌, drop_of_length-le, length, map, arith}
use Rattle.std.proofs.lemmas.List.{length-drop}
use Rattle.std.specs.Arc.{arc_value}
use Rattle.r_rule.specs.Optimised.{PlainOptimised}
use Rattle.s_linear.specs.declared.frame.CodeForm.TheVariants.{Plain}
use Rattle.cc_emit.specs.Image.{code_size, lambdas_of}
use Rattle.cc_emit.specs.Laws.{IsFunction}
use Rattle.cc_listing.specs.Lines.{function_text}
use Rattle.cc_listing.proofs.Listed.{answer_at, own_there, left_there, listed_step, listed_end, four_code}
use Rattle.cc_listing.proofs.image.push_functions.Goals as goal

pub push_function-requires-clause-function : goal.push_function-requires-clause-function
push_function-requires-clause-function c =
    let a = c.index-answers-number.result in
    let same = c.behind-answer.view_is ∙ c.deref.ensures in
    subst (λ (o : PlainOptimised). IsFunction o.lambda) (sym same)
    (c.requires.functions c.loop-number.number (arc_value a).lambda
    (answer_at arc_value c.args.answers.now c.loop-number.number a c.loop-number-test.true c.index-answers-number.is))

pub push_function-requires-clause-whole : goal.push_function-requires-clause-whole
push_function-requires-clause-whole c =
    let same = c.behind-answer.view_is ∙ c.deref.ensures in
    subst (λ (o : PlainOptimised). code_size Plain o.lambda ≤ 4 * length c.loop-number.rest.now) (sym same)
    (own_there arc_value c.args.answers.now c.loop-number.number c.index-answers-number.result c.loop-number-test.true c.index-answers-number.is
    (4 * length c.loop-number.rest.now) c.loop-number.invariant.whole)

pub push_function-requires-clause-end : goal.push_function-requires-clause-end
push_function-requires-clause-end c = omega (arith, push_function-requires-clause-whole c, c.loop-number.invariant.end, c.requires.end)

pub loop-number-preserved : goal.loop-number-preserved
loop-number-preserved c =
    let xs = c.args.answers.now in
    let i = c.loop-number.number in
    let a = c.index-answers-number.result in
    let is = c.index-answers-number.is in
    let within = c.loop-number-test.true in
    let before = c.loop-number.invariant in
    let here = c.loop-number.here in
    let rest = c.loop-number.rest.now in
    let end = c.in_ok-end.end in
    let out = c.loop-number.out.items in
    let names = c.args.names.now in
    let name = c.name_at-name.result.now in
    let same = c.behind-answer.view_is ∙ c.deref.ensures in
    let ends : end ≡ here + code_size Plain (arc_value a).lambda = c.in_ok-end.ensures.end ∙ ap (λ (o : PlainOptimised). here + code_size Plain o.lambda) same in
    let own = own_there arc_value xs i a within is (4 * length rest) before.whole in
    let left = left_there arc_value xs i a within is (4 * length rest) before.whole in
    let later = c.cut.result.1.now in
    let words : length later ≡ length rest - (end - here) / 4 = ap length c.cut.ensures.back ∙ length-drop ((end - here) / 4) rest in
    let four = four_code (arc_value a).lambda in
    record {
      text =
          listed_step arc_value xs i a within is names here end rest later out c.push_function.new.out.items _ ends c.cut.ensures.back before.text
          (c.in_ok-end.ensures.text ∙ ap (λ (o : PlainOptimised). out ++ function_text names name o.lambda here rest) same
          ∙ ap (λ n. out ++ function_text names n (arc_value a).lambda here rest) c.name_at-name.ensures);
      whole = omega (arith, ends, own, left, words, four);
      end = omega (arith, ends, own, words, four, before.end);
    }

pub returns : goal.returns
returns c =
    listed_end c.args.names.now c.loop-number.number c.loop-number.here _ c.loop-number.rest.now c.loop-number.out.items _
    (ap (λ ys. lambdas_of (map arc_value ys)) (drop_of_length-le c.args.answers.now c.loop-number-test.false)) c.loop-number.invariant.text
