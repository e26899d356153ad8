-- A complete list, and one of which an image can be made, stays so where a lambda gives way to one that makes calls of
-- the list and names globals of the program.
use Rattle.std.specs.Prelude.{slice_set, ◌+◌}
use Rattle.std.proofs.Common.{◌≡◌, ◌⊎◌, ℕ, zero, suc, List, [], ◌∷◌, map, length, Some, slice_get, refl, sym, ap, subst, ◌∙◌, inl, inr}
use Rattle.std.proofs.lemmas.Option.{same_Some}
use Rattle.g_graph.specs.Lists.{RegionOps, HasCallee, Calls, NamesGlobal, IsComplete}
use Rattle.g_graph.specs.Plain.{PlainLambda, PlainOmega}
use Rattle.g_graph.specs.Program.{HasMain, IsProgram}
use Rattle.g_graph.specs.WellFormed.{IsWellFormed}
use Rattle.g_graph.proofs.lemmas.Complete.{calls_follow}
use Rattle.g_graph.proofs.lemmas.Ops.{region_follows}

-- what stands at an index afterwards
stands : (ls : List PlainLambda) (f : ℕ) (l k : PlainLambda) → slice_get ls f ≡ Some l → (g : ℕ) →
    ((g ≡ f) × (slice_get (slice_set ls f k) g ≡ Some k)) ⊎ (slice_get (slice_set ls f k) g ≡ slice_get ls g)
stands [] f l k e g = absurd cc
stands (j ∷ ls) zero l k e zero = inl (refl, refl)
stands (j ∷ ls) zero l k e (suc g) = inr refl
stands (j ∷ ls) (suc f) l k e zero = inr refl
stands (j ∷ ls) (suc f) l k e (suc g) =
    elim (stands ls f l k e g) [
      | inl h ↦ inl (ap suc h.0, h.1)
      | inr h ↦ inr h
    ]

all-params : (ls : List PlainLambda) (f : ℕ) (l k : PlainLambda) → k.params ≡ l.params → slice_get ls f ≡ Some l →
    map (λ (m : PlainLambda). m.params) (slice_set ls f k) ≡ map (λ (m : PlainLambda). m.params) ls
all-params [] f l k d e = absurd cc
all-params (j ∷ ls) zero l k d e = ap (λ n. n ∷ map (λ (m : PlainLambda). m.params) ls) (d ∙ ap (λ (m : PlainLambda). m.params) (same_Some l j (sym e)))
all-params (j ∷ ls) (suc f) l k d e = ap (λ ns. j.params ∷ ns) (all-params ls f l k d e)

module _ (ls : List PlainLambda) (f : ℕ) (l k : PlainLambda) (at : slice_get ls f ≡ Some l) (well : IsWellFormed k) (number : k.number ≡ l.number) (params : k.params ≡ l.params) where
  abbrev ks : List PlainLambda
  ks = slice_set ls f k

  callee-there : (g count : ℕ) → HasCallee ls g count → HasCallee ks g count
  callee-there g count h =
      elim (stands ls f l k at g) [
        | inl s ↦
            record {
              callee = k;
              there = s.1;
              fits = h.fits ∙ ap (λ (m : PlainLambda). m.params + 2) (same_Some h.callee l (sym h.there ∙ ap (slice_get ls) s.0 ∙ at)) ∙ ap (λ n. n + 2) (sym params);
            }
        | inr s ↦ record { callee = h.callee; there = s ∙ h.there; fits = h.fits }
      ]

  -- a property that the other lambda has, and each of the list
  all-have : (P : PlainLambda → Type 0) → P k → ((g : ℕ) (m : PlainLambda) → slice_get ls g ≡ Some m → P m) → (g : ℕ) (m : PlainLambda) → slice_get ks g ≡ Some m → P m
  all-have P own rest g m e =
      elim (stands ls f l k at g) [
        | inl s ↦ subst P (same_Some k m (sym s.1 ∙ e)) own
        | inr s ↦ rest g m (sym s ∙ e)
      ]

  pub exchanged-complete : IsComplete ls → RegionOps (Calls ls) k.body → IsComplete ks
  exchanged-complete complete calls =
      let follow = calls_follow ls ks callee-there in
      record {
        well_formed = all-have (λ m. IsWellFormed m) well complete.well_formed;
        numbered = λ g m e.
            elim (stands ls f l k at g) [
              | inl s ↦ ap (λ (j : PlainLambda). j.number) (same_Some m k (sym e ∙ s.1)) ∙ number ∙ complete.numbered f l at ∙ sym s.0
              | inr s ↦ complete.numbered g m (sym s ∙ e)
            ];
        calls = all-have (λ m. RegionOps (Calls ks) m.body) (region_follows (Calls ls) (Calls ks) follow k.body calls)
            (λ g m e. region_follows (Calls ls) (Calls ks) follow m.body (complete.calls g m e));
      }

  main-there : (names : List (List ℕ)) → HasMain names ls → HasMain names ks
  main-there names h =
      elim (stands ls f l k at h.index) [
        | inl s ↦
            record {
              index = h.index;
              lambda = k;
              named = h.named;
              there = s.1;
              params = params ∙ ap (λ (m : PlainLambda). m.params) (same_Some l h.lambda (sym at ∙ ap (slice_get ls) (sym s.0) ∙ h.there)) ∙ h.params;
            }
        | inr s ↦ record { index = h.index; lambda = h.lambda; named = h.named; there = s ∙ h.there; params = h.params }
      ]

  pub exchanged-program : (omega : PlainOmega) → IsProgram omega ls → RegionOps (Calls ls) k.body → RegionOps (NamesGlobal (length omega.deltas)) k.body → IsProgram omega ks
  exchanged-program omega program calls named =
      record {
        complete = exchanged-complete program.complete calls;
        params = all-params ls f l k params at ∙ program.params;
        main = main-there omega.names program.main;
        named = all-have (λ m. RegionOps (NamesGlobal (length omega.deltas)) m.body) named program.named;
        globals = program.globals;
      }
