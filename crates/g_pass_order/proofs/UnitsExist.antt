-- Functions that call each other have units and ranks.
use Rattle.std.proofs.Common.{◌≡◌, ℕ, zero, suc, ◌<◌, ◌≤◌, Bool, true, false, List, [], ◌∷◌, length, map, slice_index, Contains, refl, sym, subst, ◌∙◌, inl, inr, arith}
use Rattle.std.specs.Prelude.{◌&&◌, ◌||◌, not}
use Rattle.std.specs.Bool.{Decides}
use Rattle.std.specs.List.{range_with_len}
use Rattle.std.proofs.lemmas.Bool.{cases_lt, false_from_ne_true}
use Rattle.std.proofs.lemmas.Bool.Decides.{Decides-and, Decides-below_or, Decides-like, Decides-not}
use Rattle.std.proofs.lemmas.List.{get_or_past}
use Rattle.std.proofs.lemmas.List.FromFn.{length-map-range_with_len, get_or-map-range_with_len}
use Rattle.call_order.specs.Units.{Calls, AllKnown, CallsOut, IsMutual, IsRankOf, IsUnitOf, IsUnits, Reaches}
use Rattle.g_pass_order.proofs.Least.{bound_of, bound-above, bound-same, bound-tight, count_below, count-less, count-most, least-of}
use Rattle.g_pass_order.proofs.Ways.{calls_at, calls-decided, leads, leads-itself, mutual-decided, reaches-decided, reaches-trans}

module _ (calls : List (List ℕ)) (known : AllKnown calls) where
  abbrev many : ℕ
  many = length calls

  abbrev mutual_at : ℕ → ℕ → Bool
  mutual_at j k = leads calls many j k && leads calls many k j

  -- ---- units

  unit-of : (j : ℕ) → (unit : ℕ) × IsUnitOf calls j unit
  unit-of j =
      let itself : Reaches calls j j = ([], refl) in
      let found = least-of (mutual_at j) j ((mutual-decided calls known j j).1 (itself, itself)) in (
        found.0,
        record {
          within = (mutual-decided calls known j found.0).0 found.1;
          least = λ k both. found.2 k ((mutual-decided calls known j k).1 both);
        },
      )

  -- ---- the functions of other units that a unit calls

  abbrev leaves_by : (j k caller : ℕ) → Bool
  leaves_by j k caller = mutual_at j caller && calls_at calls caller k

  abbrev some_leaves : (j k n : ℕ) → Bool
  some_leaves j k zero = false
  some_leaves j k (suc n) = leaves_by j k n || some_leaves j k n

  abbrev leaves : ℕ → ℕ → Bool
  leaves j k = some_leaves j k many && not (mutual_at j k)

  caller-known : (j k : ℕ) → Calls calls j k → j < many
  caller-known j k called =
      elim (cases_lt j many) [ inl inside ↦ inside | inr past ↦ (let none = subst (λ xs. Contains xs k) (get_or_past calls j [] past) called in absurd (omega (arith, none.1))) ]

  leaves-decided : (j k : ℕ) → Decides (leaves j k) (CallsOut calls j k)
  leaves-decided j k =
      let by_one : (caller : ℕ) → Decides (leaves_by j k caller) (IsMutual calls j caller × Calls calls caller k) =
      λ caller. Decides-and (mutual_at j caller) (calls_at calls caller k) (mutual-decided calls known j caller) (calls-decided calls caller k) in
      let by_some = Decides-below_or (leaves_by j k) (λ caller. IsMutual calls j caller × Calls calls caller k) (some_leaves j k) by_one refl (λ n. refl) many in
      Decides-like (leaves j k)
      (λ h. record { caller = h.0.0; within = h.0.2.0; called = h.0.2.1; outside = h.1 })
      (λ h. ((h.caller, caller-known h.caller k h.called, (h.within, h.called)), h.outside))
      (Decides-and (some_leaves j k many) (not (mutual_at j k)) by_some (Decides-not (mutual_at j k) (mutual-decided calls known j k)))

  -- ---- ranks

  abbrev rank_by : (bound j : ℕ) → ℕ
  rank_by zero j = 0
  rank_by (suc bound) j = bound_of (leaves j) (λ k. rank_by bound k) many

  -- how many functions calls lead to from j
  abbrev reached : ℕ → ℕ
  reached j = count_below (leads calls many j) many

  some-reached : (j : ℕ) → j < many → 0 < reached j
  some-reached j inside =
      omega (arith, count-less (leads calls many j) (λ k. false) many j (λ k e. let clash : false ≡ true = e in absurd cc) inside (leads-itself calls many j) refl)

  fewer-reached : (j k : ℕ) → j < many → CallsOut calls j k → reached k < reached j
  fewer-reached j k inside out =
      let called : Reaches calls out.caller k = (k ∷ [], (out.called, refl)) in
      let there = reaches-trans calls j out.caller k out.within.0 called in
      count-less (leads calls many j) (leads calls many k) many j
      (λ m on. (reaches-decided calls known j m).1 (reaches-trans calls j k m there ((reaches-decided calls known k m).0 on))) inside (leads-itself calls many j)
      (false_from_ne_true (leads calls many k j) (λ back. out.outside (there, (reaches-decided calls known k j).0 back)))

  -- bounds that are great enough give one rank
  one-rank : (a b j : ℕ) → j < many → reached j ≤ a → reached j ≤ b → rank_by a j ≡ rank_by b j
  one-rank zero b j inside small large = absurd (omega (arith, some-reached j inside, small))
  one-rank (suc a) zero j inside small large = absurd (omega (arith, some-reached j inside, large))
  one-rank (suc a) (suc b) j inside small large =
      bound-same (leaves j) (rank_by a) (rank_by b) many
      (λ k within out.
      let fewer = fewer-reached j k inside ((leaves-decided j k).0 out) in
      one-rank a b k within (omega (arith, small, fewer)) (omega (arith, large, fewer)))

  abbrev rank_of : ℕ → ℕ
  rank_of j = rank_by many j

  rank-is : (j : ℕ) → j < many → rank_of j ≡ bound_of (leaves j) rank_of many
  rank-is j inside =
      let most = count-most (leads calls many j) many in one-rank many (suc many) j inside most (omega (arith, most))

  -- ---- of all functions

  abbrev units : List ℕ
  units = map (λ j. (unit-of j).0) (range_with_len 0 many)

  abbrev ranks : List ℕ
  ranks = map rank_of (range_with_len 0 many)

  unit-at : (j : ℕ) → j < many → slice_index units j ≡ (unit-of j).0
  unit-at j inside = get_or-map-range_with_len (λ j. (unit-of j).0) 0 many j j 0 inside (omega arith)

  rank-at : (j : ℕ) → j < many → slice_index ranks j ≡ rank_of j
  rank-at j inside = get_or-map-range_with_len rank_of 0 many j j 0 inside (omega arith)

  rank-fits : (j : ℕ) → j < many → IsRankOf calls (slice_index ranks) j
  rank-fits j inside =
      record {
        above = λ k out.
            let within = known out.caller k out.called in
            omega (arith, rank-at j inside, rank-at k within, rank-is j inside, bound-above (leaves j) rank_of many k within ((leaves-decided j k).1 out));
        tight = elim (bound-tight (leaves j) rank_of many) [
          | inl none ↦ inl (rank-at j inside ∙ (rank-is j inside ∙ none))
          | inr some ↦
              let out = (leaves-decided j some.0).0 some.1 in
              inr (some.0, out, omega (arith, rank-at j inside, rank-is j inside, some.2, rank-at some.0 (known out.caller some.0 out.called)))
        ];
      }

  pub units-exist : (unit : List ℕ) × (rank : List ℕ) × IsUnits calls unit rank
  units-exist = (
    units,
    ranks,
    record {
      unit_length = length-map-range_with_len (λ j. (unit-of j).0) 0 many;
      rank_length = length-map-range_with_len rank_of 0 many;
      unit_of = λ j inside. subst (λ u. IsUnitOf calls j u) (sym (unit-at j inside)) (unit-of j).1;
      rank_of = rank-fits;
    },
  )
