use Rattle.std.proofs.Common.{◌≡◌, ◌+◌, ◌∷◌, [], ◌++◌, length, length-append, append-nil, ap, sym, ◌∙◌, arith}
use Rattle.r_rule.specs.Names.{rule_name}
use Rattle.g_pass.specs.Recipe.{later_text, recipe_text}
use Rattle.g_pass.proofs.Letters.{on_none}
use Rattle.g_pass.proofs.Texts.{begun, begun_more, ended, goes_on, empty_is, ends_or_goes_on}
use Rattle.g_pass.proofs.recipe.sweeps.Goals as goal

pub returns-in_err-rule-clause-none : goal.returns-in_err-rule-clause-none
returns-in_err-rule-clause-none c =
    on_none _ c.from_residual.result
    (λ rule rules short e. let g = goes_on c.loop.recipe rule rules c.loop.left.now (sym c.loop.invariant.text ∙ e) in c.in_err-rule.ensures.none g.rule (later_text g.rules) g.left_is)

pub returns-then-is_empty-clause-some : goal.returns-then-is_empty-clause-some
returns-then-is_empty-clause-some c =
    let rest = empty_is c.in_ok-rule.rest.now c.if-is_empty.ensures in
    c.loop.invariant.text
    ∙ ap (λ t. begun c.loop.recipe ++ t) (c.in_ok-rule.ensures.some ∙ ap (λ t. rule_name c.in_ok-rule.rule ++ t) rest ∙ append-nil (rule_name c.in_ok-rule.rule))
    ∙ ended c.loop.recipe c.in_ok-rule.rule
    ∙ ap recipe_text (sym c.push.ensures)

pub returns-in_err-left-clause-none : goal.returns-in_err-left-clause-none
returns-in_err-left-clause-none c =
    on_none _ c.from_residual-in_err-left.result
    (λ rule rules short e.
    let g = goes_on c.loop.recipe rule rules c.loop.left.now (sym c.loop.invariant.text ∙ e) in
    ends_or_goes_on c.in_ok-rule.rule g.rule c.in_ok-rule.rest.now g.rules (sym c.in_ok-rule.ensures.some ∙ g.left_is) (sym c.if-is_empty.false ∙ c.is_empty.ensures) c.in_err-left.ensures.none)

pub loop-preserved : goal.loop-preserved
loop-preserved c = record {
  text =
      c.loop.invariant.text
      ∙ ap (λ t. begun c.loop.recipe ++ t) (c.in_ok-rule.ensures.some ∙ ap (λ t. rule_name c.in_ok-rule.rule ++ t) c.in_ok-left.ensures.some)
      ∙ sym (begun_more c.loop.recipe c.in_ok-rule.rule c.in_ok-left.left.now)
      ∙ ap (λ rs. begun rs ++ c.in_ok-left.left.now) (sym c.push.ensures);
  count = ap length c.push.ensures ∙ length-append c.loop.recipe (c.in_ok-rule.rule ∷ []) ∙ ap (λ n. n + 1) c.loop.invariant.count;
}

pub returns-clause-none : goal.returns-clause-none
returns-clause-none c rule rules short e =
    let g = goes_on c.loop.recipe rule rules c.loop.left.now (sym c.loop.invariant.text ∙ e) in
    let all : length (rule ∷ rules) ≡ length c.loop.recipe + length (g.rule ∷ g.rules) = ap length g.are ∙ length-append c.loop.recipe (g.rule ∷ g.rules) in
    omega (arith, short, all, c.loop.invariant.count, c.loop-test.false)
