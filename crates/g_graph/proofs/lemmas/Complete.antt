-- A complete list, and one of which an image can be made, stays so where one of its lambdas is exchanged for another.
use Rattle.std.proofs.Common.{◌≡◌, ◌⊎◌, ℕ, zero, suc, ◌+◌, List, [], ◌∷◌, map, length, Some, slice_get, refl, sym, ap, subst, ◌∙◌, inl, inr}
use Rattle.std.specs.Prelude.{slice_set}
use Rattle.std.proofs.lemmas.Option.{same_Some}
use Rattle.g_graph.specs.declared.op.Op.{Op}
use Rattle.g_graph.specs.declared.op.Op.TheVariants.{Const, Undef, Local, Delta, Bin, Un, Load, Store, Clear, PtrEq, Apply, Put, Exit, Get, Gamma, Theta}
use Rattle.g_graph.specs.Plain.{PlainLambda}
use Rattle.g_graph.specs.WellFormed.{IsWellFormed}
use Rattle.g_graph.specs.Lists.{RegionOps, HasCallee, Calls, NamesGlobal, IsComplete}
use Rattle.g_graph.specs.Program.{HasMain, KeepsPrograms}
use Rattle.g_graph.proofs.lemmas.Ops.{region_follows}

set_get : (ls : List PlainLambda) (f g : ℕ) (k m : PlainLambda) → slice_get (slice_set ls f k) g ≡ Some m → ((g ≡ f) × (m ≡ k)) ⊎ (slice_get ls g ≡ Some m)
set_get [] f g k m e = inr e
set_get (l ∷ ls) zero zero k m e = inl (refl, sym (same_Some k m e))
set_get (l ∷ ls) zero (suc g) k m e = inr e
set_get (l ∷ ls) (suc f) zero k m e = inr e
set_get (l ∷ ls) (suc f) (suc g) k m e =
    elim (set_get ls f g k m e) [
      | inl h ↦ inl (ap suc h.0, h.1)
      | inr h ↦ inr h
    ]

callee_kept : (ls : List PlainLambda) (f : ℕ) (l k : PlainLambda) → slice_get ls f ≡ Some l → k.params ≡ l.params → (g : ℕ) (m : PlainLambda) → slice_get ls g ≡ Some m →
    (c : PlainLambda) × (slice_get (slice_set ls f k) g ≡ Some c) × (c.params ≡ m.params)
callee_kept [] f l k e d g m h = absurd (cc)
callee_kept (j ∷ ls) zero l k e d zero m h = (k, refl, d ∙ ap (λ (x : PlainLambda). x.params) (sym (same_Some j l e) ∙ same_Some j m h))
callee_kept (j ∷ ls) zero l k e d (suc g) m h = (m, h, refl)
callee_kept (j ∷ ls) (suc f) l k e d zero m h = (m, h, refl)
callee_kept (j ∷ ls) (suc f) l k e d (suc g) m h = callee_kept ls f l k e d g m h

-- a call of the one list is a call of the other, where each callee is there with as many parameters
pub calls_follow : (ls ks : List PlainLambda) → ((f count : ℕ) → HasCallee ls f count → HasCallee ks f count) → (op : Op) (n : ℕ) → Calls ls op n → Calls ks op n
calls_follow ls ks follows (Apply f) n h = follows f n h
calls_follow ls ks follows (Bin op) n h = tt
calls_follow ls ks follows (Un op) n h = tt
calls_follow ls ks follows (Const w) n h = tt
calls_follow ls ks follows Undef n h = tt
calls_follow ls ks follows (Local k) n h = tt
calls_follow ls ks follows (Delta k) n h = tt
calls_follow ls ks follows (Load w) n h = tt
calls_follow ls ks follows (Store w) n h = tt
calls_follow ls ks follows (Clear k) n h = tt
calls_follow ls ks follows PtrEq n h = tt
calls_follow ls ks follows Put n h = tt
calls_follow ls ks follows Exit n h = tt
calls_follow ls ks follows Get n h = tt
calls_follow ls ks follows Gamma n h = tt
calls_follow ls ks follows Theta n h = tt

-- the other lambda is well formed, has the number and parameters of the one, and makes calls of each list that the one
-- makes calls of
module _ (l k : PlainLambda) (well : IsWellFormed k) (number : k.number ≡ l.number) (params : k.params ≡ l.params)
    (calls : (ls : List PlainLambda) → RegionOps (Calls ls) l.body → RegionOps (Calls ls) k.body) (ls : List PlainLambda) (f : ℕ) (at : slice_get ls f ≡ Some l) (complete : IsComplete ls) where
  abbrev ks : List PlainLambda
  ks = slice_set ls f k

  keep : (g count : ℕ) → HasCallee ls g count → HasCallee ks g count
  keep g count h =
      let s = callee_kept ls f l k at params g h.callee h.there in
      record { callee = s.0; there = s.1; fits = h.fits ∙ ap (λ (m : ℕ). m + 2) (sym s.2) }

  well_kept : (g : ℕ) (m : PlainLambda) → slice_get ks g ≡ Some m → IsWellFormed m
  well_kept g m e =
      elim (set_get ls f g k m e) [
        | inl h ↦ subst (λ (x : PlainLambda). IsWellFormed x) (sym h.1) well
        | inr h ↦ complete.well_formed g m h
      ]

  number_kept : (g : ℕ) (m : PlainLambda) → slice_get ks g ≡ Some m → m.number ≡ g
  number_kept g m e =
      elim (set_get ls f g k m e) [
        | inl h ↦ ap (λ (x : PlainLambda). x.number) h.1 ∙ number ∙ complete.numbered f l at ∙ sym h.0
        | inr h ↦ complete.numbered g m h
      ]

  calls_kept : (g : ℕ) (m : PlainLambda) → slice_get ks g ≡ Some m → RegionOps (Calls ks) m.body
  calls_kept g m e =
      elim (set_get ls f g k m e) [
        | inl h ↦
            subst (λ (x : PlainLambda). RegionOps (Calls ks) x.body) (sym h.1)
            (region_follows (Calls ls) (Calls ks) (calls_follow ls ks keep) k.body (calls ls (complete.calls f l at)))
        | inr h ↦ region_follows (Calls ls) (Calls ks) (calls_follow ls ks keep) m.body (complete.calls g m h)
      ]

  pub complete_set : IsComplete (slice_set ls f k)
  complete_set = record { well_formed = well_kept; numbered = number_kept; calls = calls_kept }

-- ---- the lambdas of an image

params_kept : (ls : List PlainLambda) (f : ℕ) (l k : PlainLambda) → slice_get ls f ≡ Some l → k.params ≡ l.params →
    map (λ (m : PlainLambda). m.params) (slice_set ls f k) ≡ map (λ (m : PlainLambda). m.params) ls
params_kept [] f l k e d = absurd (cc)
params_kept (j ∷ ls) zero l k e d = ap (λ n. n ∷ map (λ (m : PlainLambda). m.params) ls) (d ∙ ap (λ (m : PlainLambda). m.params) (sym (same_Some j l e)))
params_kept (j ∷ ls) (suc f) l k e d = ap (λ ns. j.params ∷ ns) (params_kept ls f l k e d)

-- and names no more globals
module _ (l k : PlainLambda) (well : IsWellFormed k) (number : k.number ≡ l.number) (params : k.params ≡ l.params)
    (calls : (ls : List PlainLambda) → RegionOps (Calls ls) l.body → RegionOps (Calls ls) k.body)
    (globals : (n : ℕ) → RegionOps (NamesGlobal n) l.body → RegionOps (NamesGlobal n) k.body) where
  main_kept : (names : List (List ℕ)) (ls : List PlainLambda) (f : ℕ) → slice_get ls f ≡ Some l → HasMain names ls → HasMain names (slice_set ls f k)
  main_kept names ls f at h =
      let s = callee_kept ls f l k at params h.index h.lambda h.there in
      record { index = h.index; lambda = s.0; named = h.named; there = s.1; params = s.2 ∙ h.params }

  named_kept : (count : ℕ) (ls : List PlainLambda) (f : ℕ) → slice_get ls f ≡ Some l →
      ((g : ℕ) (m : PlainLambda) → slice_get ls g ≡ Some m → RegionOps (NamesGlobal count) m.body) → (g : ℕ) (m : PlainLambda) → slice_get (slice_set ls f k) g ≡ Some m →
      RegionOps (NamesGlobal count) m.body
  named_kept count ls f at h g m e =
      elim (set_get ls f g k m e) [
        | inl s ↦ subst (λ (x : PlainLambda). RegionOps (NamesGlobal count) x.body) (sym s.1) (globals count (h f l at))
        | inr s ↦ h g m s
      ]

  pub program_set : KeepsPrograms l k
  program_set omega ls f at program =
      record {
        complete = complete_set l k well number params calls ls f at program.complete;
        params = params_kept ls f l k at params ∙ program.params;
        main = main_kept omega.names ls f at program.main;
        named = named_kept (length omega.deltas) ls f at program.named;
        globals = program.globals;
      }
