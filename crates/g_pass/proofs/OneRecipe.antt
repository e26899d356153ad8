-- No two recipes have one text.
use Rattle.std.proofs.Common.{◌≡◌, ℕ, List, [], ◌∷◌, ◌++◌, refl, sym, ap, ◌∙◌, arith}
use Rattle.std.specs.Prelude.{codes, slice_index_or}
use Rattle.std.proofs.lemmas.List.{append_cancel_left}
use Rattle.r_rule.specs.declared.steps.Rule.{Rule}
use Rattle.r_rule.specs.declared.steps.Rule.TheVariants.{Fold, Cne, Dne, Inv, Push, Pull, Invert, Unroll, Inline}
use Rattle.r_rule.specs.Names.{rule_name}
use Rattle.g_pass.specs.Recipe.{later_text, recipe_text, OneRecipe}
use Rattle.g_pass.proofs.Letters.{same_rule}
use Rattle.g_pass.proofs.Texts.{rest_is}

abbrev first_letter : List ℕ → ℕ
first_letter xs = slice_index_or xs 0 0

-- the text of no sweep begins with the name of no rule
no_rule : (r : Rule) (rs : List Rule) → codes "none" ≡ recipe_text (r ∷ rs) → ⊥
no_rule Fold rs e = let first : 110 ≡ 102 = ap first_letter e in omega (arith, first)
no_rule Cne rs e = let first : 110 ≡ 99 = ap first_letter e in omega (arith, first)
no_rule Dne rs e = let first : 110 ≡ 100 = ap first_letter e in omega (arith, first)
no_rule Inv rs e = let first : 110 ≡ 105 = ap first_letter e in omega (arith, first)
no_rule Push rs e = let first : 110 ≡ 112 = ap first_letter e in omega (arith, first)
no_rule Pull rs e = let first : 110 ≡ 112 = ap first_letter e in omega (arith, first)
no_rule Invert rs e = let first : 110 ≡ 105 = ap first_letter e in omega (arith, first)
no_rule Unroll rs e = let first : 110 ≡ 117 = ap first_letter e in omega (arith, first)
no_rule Inline rs e = let first : 110 ≡ 105 = ap first_letter e in omega (arith, first)

same_later : (rs ks : List Rule) → later_text rs ≡ later_text ks → rs ≡ ks
same_later [] [] e = refl
same_later [] (k ∷ ks) e = absurd cc
same_later (r ∷ rs) [] e = absurd cc
same_later (r ∷ rs) (k ∷ ks) e =
    let flat = append_cancel_left (44 ∷ []) (rule_name r ++ later_text rs) (rule_name k ++ later_text ks) e in
    ap (λ q. q ∷ rs) (same_rule r k (later_text rs) (later_text ks) flat)
    ∙ ap (λ qs. k ∷ qs) (same_later rs ks (rest_is r k (later_text rs) (later_text ks) flat))

pub one_recipe : OneRecipe
one_recipe [] [] e = refl
one_recipe [] (k ∷ ks) e = absurd (no_rule k ks e)
one_recipe (r ∷ rs) [] e = absurd (no_rule r rs (sym e))
one_recipe (r ∷ rs) (k ∷ ks) e =
    ap (λ q. q ∷ rs) (same_rule r k (later_text rs) (later_text ks) e)
    ∙ ap (λ qs. k ∷ qs) (same_later rs ks (rest_is r k (later_text rs) (later_text ks) e))
