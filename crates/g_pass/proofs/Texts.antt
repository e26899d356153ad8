-- What a text is that names some rules, each with a comma after it, and goes on.
use Rattle.std.proofs.Common.{◌≡◌, ℕ, ◌==◌, true, false, List, [], ◌∷◌, ◌++◌, length, refl, sym, ap, ◌∙◌, append_assoc, append-nil}
use Rattle.std.proofs.lemmas.List.{append_cancel_left}
use Rattle.std.proofs.lemmas.Bool.{eqb-true, false≢true}
use Rattle.r_rule.specs.declared.steps.Rule.{Rule}
use Rattle.r_rule.specs.Names.{rule_name}
use Rattle.g_pass.specs.Recipe.{later_text, recipe_text}
use Rattle.g_pass.proofs.Letters.{same_rule}

-- these names, each with a comma after it
abbrev pub begun : List Rule → List ℕ
begun [] = []
begun (r ∷ rs) = rule_name r ++ (44 ∷ begun rs)

pub begun_more : (rs : List Rule) (r : Rule) (rest : List ℕ) → begun (rs ++ r ∷ []) ++ rest ≡ begun rs ++ (rule_name r ++ (44 ∷ rest))
begun_more [] r rest = append_assoc (rule_name r) (44 ∷ []) rest
begun_more (k ∷ rs) r rest =
    append_assoc (rule_name k) (44 ∷ begun (rs ++ r ∷ [])) rest
    ∙ ap (λ t. rule_name k ++ (44 ∷ t)) (begun_more rs r rest)
    ∙ sym (append_assoc (rule_name k) (44 ∷ begun rs) (rule_name r ++ (44 ∷ rest)))

-- the last name has no comma
pub ended : (rs : List Rule) (r : Rule) → begun rs ++ rule_name r ≡ recipe_text (rs ++ r ∷ [])
ended [] r = sym (append-nil (rule_name r))
ended (k ∷ []) r =
    append_assoc (rule_name k) (44 ∷ []) (rule_name r) ∙ ap (λ t. rule_name k ++ (44 ∷ t)) (sym (append-nil (rule_name r)))
ended (k ∷ j ∷ rs) r =
    append_assoc (rule_name k) (44 ∷ begun (j ∷ rs)) (rule_name r) ∙ ap (λ t. rule_name k ++ (44 ∷ t)) (ended (j ∷ rs) r)

-- how a text of names goes on after some of them
pub record GoesOn (rs all : List Rule) (left : List ℕ) : Type 0 where
  pub rule : Rule
  pub rules : List Rule
  pub are : all ≡ rs ++ rule ∷ rules
  pub left_is : left ≡ recipe_text (rule ∷ rules)

pub goes_on : (rs : List Rule) (k : Rule) (ks : List Rule) (left : List ℕ) → begun rs ++ left ≡ recipe_text (k ∷ ks) → GoesOn rs (k ∷ ks) left
goes_on [] k ks left e = record { rule = k; rules = ks; are = refl; left_is = e }
goes_on (r ∷ rs) k ks left e = by ks (append_cancel_left (rule_name r) _ _ (flat ∙ ap (λ j. rule_name j ++ later_text ks) (sym same))) (λ j js d. goes_on rs j js left d)
  where
    flat : rule_name r ++ (44 ∷ (begun rs ++ left)) ≡ rule_name k ++ later_text ks
    flat = sym (append_assoc (rule_name r) (44 ∷ begun rs) left) ∙ e

    same : r ≡ k
    same = same_rule r k _ _ flat

    by : (js : List Rule) → 44 ∷ (begun rs ++ left) ≡ later_text js → ((j : Rule) (is : List Rule) → begun rs ++ left ≡ recipe_text (j ∷ is) → GoesOn rs (j ∷ is) left) →
        GoesOn (r ∷ rs) (k ∷ js) left
    by [] d go = absurd cc
    by (j ∷ js) d go =
        let next = go j js (append_cancel_left (44 ∷ []) _ _ d) in
        record { rule = next.rule; rules = next.rules; are = ap (λ q. q ∷ j ∷ js) (sym same) ∙ ap (λ qs. r ∷ qs) next.are; left_is = next.left_is }

-- ---- what follows a name

pub rest_is : (r k : Rule) (rest others : List ℕ) → rule_name r ++ rest ≡ rule_name k ++ others → rest ≡ others
rest_is r k rest others e = append_cancel_left (rule_name r) rest others (e ∙ ap (λ j. rule_name j ++ others) (sym (same_rule r k rest others e)))

pub empty_is : (bytes : List ℕ) → true ≡ (length bytes == 0) → bytes ≡ []
empty_is bytes e = by bytes (eqb-true (length bytes) 0 (sym e))
  where
    by : (bs : List ℕ) → length bs ≡ 0 → bs ≡ []
    by [] h = refl
    by (b ∷ bs) h = absurd cc

-- after a name the text ends, or goes on with a comma
pub ends_or_goes_on : (r k : Rule) (rest : List ℕ) (ks : List Rule) → rule_name r ++ rest ≡ rule_name k ++ later_text ks → false ≡ (length rest == 0) →
    ((more : List ℕ) → rest ≡ 44 ∷ more → ⊥) → ⊥
ends_or_goes_on r k rest [] e some comma = false≢true (some ∙ ap (λ bs. length bs == 0) (rest_is r k rest [] e))
ends_or_goes_on r k rest (j ∷ js) e some comma = comma (rule_name j ++ later_text js) (rest_is r k rest (later_text (j ∷ js)) e)
