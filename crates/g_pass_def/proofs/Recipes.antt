-- Recipes are steps.
use Rattle.std.proofs.Common.{◌≡◌, ℕ, List, [], ◌∷◌, ◌++◌, Option, None, Some, refl, sym, ap, subst, ◌∙◌}
use Rattle.std.specs.Prelude.{option_and_then}
use Rattle.std.specs.List.{fold}
use Rattle.std.proofs.lemmas.Option.{same_Some}
use Rattle.r_rule.specs.declared.steps.Rule.{Rule}
use Rattle.r_rule.specs.declared.steps.Step.{Step}
use Rattle.g_graph.specs.Plain.{PlainLambda}
use Rattle.g_graph.specs.WellFormed.{IsWellFormed}
use Rattle.g_graph.specs.Ids.{region_ids}
use Rattle.r_edit.specs.Steps.{IsApartFrom, MayStandFor}
use Rattle.r_edit.proofs.lemmas.Steps.{no_step_is_a_step, steps_compose}
use Rattle.g_pass_def.specs.Sweep.{RuleTable, Swept, stepped, tried, in_order, sweep, swept, replayed}
use Rattle.g_pass_def.specs.Laws.{ReplaysAreSteps, RecipesReplay, RecipesAreSteps}

and_then-Some : {A : Type 0} (o : Option A) → option_and_then (λ a. Some a) o ≡ o
and_then-Some None = refl
and_then-Some (Some a) = refl

and_then-both : {A : Type 0} (f g h : A → Option A) (o : Option A) → ((a : A) → f a ≡ option_and_then g (h a)) → option_and_then f o ≡ option_and_then g (option_and_then h o)
and_then-both f g h None same = refl
and_then-both f g h (Some a) same = same a

fold-keeps : {A B : Type 0} (f : B → A → B) (P : B → Type 0) → ((b : B) (a : A) → P b → P (f b a)) → (xs : List A) (b : B) → P b → P (fold f b xs)
fold-keeps f P step [] b h = h
fold-keeps f P step (x ∷ xs) b h = fold-keeps f P step xs (f b x) (step b x h)

module _ (t : RuleTable) (callees : List PlainLambda) where
  -- what a step makes
  abbrev made_by : Step → PlainLambda → Option PlainLambda
  made_by s l = t.step s.rule callees s.node l

  replayed-push : (steps : List Step) (s : Step) (l : PlainLambda) → replayed t callees (steps ++ s ∷ []) l ≡ option_and_then (made_by s) (replayed t callees steps l)
  replayed-push [] s l = and_then-Some (made_by s l)
  replayed-push (r ∷ steps) s l =
      and_then-both (replayed t callees (steps ++ s ∷ [])) (made_by s) (replayed t callees steps) (made_by r l) (λ k. replayed-push steps s k)

  abbrev Replays : PlainLambda → Swept → Type 0
  Replays l s = replayed t callees s.steps l ≡ Some s.lambda

  replays-tried : (l : PlainLambda) (r : Rule) (s : Swept) (n : ℕ) → Replays l s → Replays l (tried t callees r s n)
  replays-tried l r s n h = by (t.step r callees n s.lambda) refl
    where
      by : (o : Option PlainLambda) → t.step r callees n s.lambda ≡ o → Replays l (stepped r n s o)
      by None e = h
      by (Some k) e =
          let one : Step = record { rule = r; node = n } in
          replayed-push s.steps one l ∙ (ap (option_and_then (made_by one)) h ∙ e)

  replays-swept : (l : PlainLambda) (s : Swept) (r : Rule) → Replays l s → Replays l (sweep t callees s r)
  replays-swept l s r h =
      fold-keeps (tried t callees r) (Replays l) (λ b n e. replays-tried l r b n e) (in_order t r (region_ids s.lambda.body)) s h

pub recipes_replay : RecipesReplay
recipes_replay t callees rules l =
    fold-keeps (sweep t callees) (Replays t callees l) (λ s r e. replays-swept t callees l s r e) rules (record { lambda = l; steps = [] }) refl

pub replays_are_steps : ReplaysAreSteps
replays_are_steps t rows callees [] l k well all apart e = subst (MayStandFor callees l) (same_Some l k e) (no_step_is_a_step callees l well)
replays_are_steps t rows callees (s ∷ steps) l k well all apart e =
    by (t.step s.rule callees s.node l) refl e (λ m fine else made. replays_are_steps t rows callees steps m k fine all else made)
  where
    by : (o : Option PlainLambda) → t.step s.rule callees s.node l ≡ o → option_and_then (replayed t callees steps) o ≡ Some k →
        ((m : PlainLambda) → IsWellFormed m → IsApartFrom m.number callees → replayed t callees steps m ≡ Some k → MayStandFor callees m k) → MayStandFor callees l k
    by None is made rest = absurd cc
    by (Some m) is made rest =
        let first = rows s.rule callees s.node l m well all apart is in
        steps_compose callees l m k apart first
        (rest m first.well_formed (subst (λ n. IsApartFrom n callees) (sym first.interface.number) apart) made)

pub recipes_are_steps : RecipesAreSteps
recipes_are_steps t rows callees rules l well all apart =
    replays_are_steps t rows callees (swept t callees rules l).steps l (swept t callees rules l).lambda well all apart (recipes_replay t callees rules l)
