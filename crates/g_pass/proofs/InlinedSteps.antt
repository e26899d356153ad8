-- Inlining makes a step where the callees are held.
use Rattle.std.specs.Prelude.{◌==◌, if◌then◌else◌, option_map, option_and_then}
use Rattle.std.proofs.Common.{◌≡◌, ℕ, Bool, true, false, List, [], ◌∷◌, Option, Some, None, slice_get, refl, subst}
use Rattle.std.proofs.lemmas.Option.{none-some, same_Some}
use Rattle.std.specs.List.{AllByRecursion}
use Rattle.g_graph.specs.Plain.{PlainLambda}
use Rattle.g_graph.specs.WellFormed.{IsWellFormed}
use Rattle.r_edit.specs.Steps.{HasEach, MayStandFor}
use Rattle.r_inline.specs.Rule as inline_rule
use Rattle.r_inline.specs.Called.{called_at}
use Rattle.r_inline.specs.Laws.{InlineIsAStep}
use Rattle.r_inline.specs.Callees.{numbered, inlined_at}

-- ---- a held lambda, by its number

pub numbered_all : (P : PlainLambda → Type 0) (f : ℕ) (held : List PlainLambda) (c : PlainLambda) → numbered f held ≡ Some c → AllByRecursion P held → P c
numbered_all P f [] c e all = absurd (none-some c e)
numbered_all P f (h ∷ held) c e all = by (h.number == f) e (λ e. numbered_all P f held c e all.1)
  where
    by : (t : Bool) → (if t then Some h else numbered f held) ≡ Some c → (numbered f held ≡ Some c → P c) → P c
    by true e go = subst P (same_Some h c e) all.0
    by false e go = go e

pub numbered_there : (ls : List PlainLambda) (f : ℕ) (held : List PlainLambda) (c : PlainLambda) → numbered f held ≡ Some c → HasEach held ls → slice_get ls c.number ≡ Some c
numbered_there ls f [] c e each = absurd (none-some c e)
numbered_there ls f (h ∷ held) c e each = by (h.number == f) e (λ e. numbered_there ls f held c e each.1)
  where
    by : (t : Bool) → (if t then Some h else numbered f held) ≡ Some c → (numbered f held ≡ Some c → slice_get ls c.number ≡ Some c) → slice_get ls c.number ≡ Some c
    by true e go = subst (λ (d : PlainLambda). slice_get ls d.number ≡ Some d) (same_Some h c e) each.0
    by false e go = go e

-- ---- what is made

-- Inlining makes of a lambda what the rule makes of it with a held callee, where that applies.
pub record IsInlined (held : List PlainLambda) (n : ℕ) (l k : PlainLambda) : Type 0 where
  pub number : ℕ
  pub callee : PlainLambda
  pub found : numbered number held ≡ Some callee
  pub can : inline_rule.applies l n callee ≡ true
  pub is : inline_rule.lambda_inlined n callee l ≡ k

inlined_by : (held : List PlainLambda) (n f : ℕ) (l k : PlainLambda) → (found : Option PlainLambda) → numbered f held ≡ found →
    option_map (λ c. inline_rule.lambda_inlined n c l) (option_and_then (λ c. if inline_rule.applies l n c then Some c else None) found) ≡ Some k → IsInlined held n l k
inlined_by held n f l k None at e = absurd (none-some k e)
inlined_by held n f l k (Some c) at e = by (inline_rule.applies l n c) refl e
  where
    by : (t : Bool) → inline_rule.applies l n c ≡ t → option_map (λ d. inline_rule.lambda_inlined n d l) (if t then Some c else None) ≡ Some k → IsInlined held n l k
    by true t e = record { number = f; callee = c; found = at; can = t; is = same_Some (inline_rule.lambda_inlined n c l) k e }
    by false t e = absurd (none-some k e)

pub is_inlined : (held : List PlainLambda) (n : ℕ) (l k : PlainLambda) → option_map (λ c. inline_rule.lambda_inlined n c l) (inlined_at held n l) ≡ Some k → IsInlined held n l k
is_inlined held n l k e = by (called_at n l) e
  where
    by : (called : Option ℕ) →
        option_map (λ c. inline_rule.lambda_inlined n c l)
        (option_and_then (λ f. option_and_then (λ c. if inline_rule.applies l n c then Some c else None) (numbered f held)) called) ≡ Some k → IsInlined held n l k
    by None e = absurd (none-some k e)
    by (Some f) e = inlined_by held n f l k (numbered f held) refl e

-- ---- the step

pub inlined_is_a_step : InlineIsAStep → (held : List PlainLambda) (n : ℕ) (l k : PlainLambda) → IsWellFormed l → AllByRecursion IsWellFormed held →
    option_map (λ c. inline_rule.lambda_inlined n c l) (inlined_at held n l) ≡ Some k → MayStandFor held l k
inlined_is_a_step inline held n l k well all e =
    let at = is_inlined held n l k e in
    let one = inline n at.callee l (numbered_all IsWellFormed at.number held at.callee at.found all) well at.can in
    let made : MayStandFor held l (inline_rule.lambda_inlined n at.callee l) = record {
      interface = one.interface;
      well_formed = one.well_formed;
      values = one.values;
      lists = λ ls there each. one.lists ls there (numbered_there ls at.number held at.callee at.found each, tt);
    } in
    subst (MayStandFor held l) at.is made
