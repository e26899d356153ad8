-- The units and ranks of a search that has closed all functions.
use Rattle.std.proofs.Common.{◌≡◌, ◌≢◌, ℕ, ◌<◌, true, inl, inr, List, length, map, slice_index, refl, sym, ap, subst, ◌∙◌, arith}
use Rattle.std.proofs.lemmas.List.{length-map, get_or-map, get_or_past}
use Rattle.std.proofs.lemmas.Bool.{cases_lt}
use Rattle.call_order.specs.declared.stages.Stage.{Stage}
use Rattle.call_order.specs.declared.stages.Stage.TheVariants.{New, Held, Closed}
use Rattle.call_order.specs.declared.search.Group.{Group}
use Rattle.call_order.specs.Units.{IsUnitOf, IsRankOf, IsUnits}
use Rattle.call_order.specs.Search.{is_closed, unit_in, rank_in, stage_of, IsSearch}
use Rattle.call_order.proofs.StageLemmas.{closed-parts}

map-at : (f : Stage → ℕ) → f New ≡ 0 → (stages : List Stage) (k : ℕ) → slice_index (map f stages) k ≡ f (stage_of stages k)
map-at f none stages k =
    elim (cases_lt k (length stages)) [
      | inl inside ↦ get_or-map f stages k New 0 inside
      | inr past ↦
          get_or_past (map f stages) k 0 (omega (arith, length-map stages f)) ∙ (sym none ∙ ap f (sym (get_or_past stages k New past)))
    ]

module _ (calls : List (List ℕ)) (stages : List Stage) (members pending : List ℕ) (groups : List Group) (was : IsSearch calls stages members pending groups) (idle : length groups ≡ 0)
    (entered : (k : ℕ) → k < length calls → stage_of stages k ≢ New) where
  closed-of : (k : ℕ) (stage : Stage) → stage_of stages k ≡ stage → stage ≢ New → is_closed stage ≡ true
  closed-of k New is apart = absurd (apart refl)
  closed-of k (Held index) is apart = absurd (omega (arith, (was.index k index is).0, was.empty idle))
  closed-of k (Closed unit rank) is apart = refl

  parts : (k : ℕ) → k < length calls → (unit : ℕ) × (rank : ℕ) × (stage_of stages k ≡ Closed unit rank)
  parts k h = closed-parts (stage_of stages k) (closed-of k (stage_of stages k) refl (entered k h))

  rank-at : (k : ℕ) → slice_index (map rank_in stages) k ≡ rank_in (stage_of stages k)
  rank-at k = map-at rank_in refl stages k

  unit-is : (j : ℕ) → j < length calls → IsUnitOf calls j (slice_index (map unit_in stages) j)
  unit-is j h =
      let p = parts j h in
      let same : slice_index (map unit_in stages) j ≡ p.0 = map-at unit_in refl stages j ∙ ap unit_in p.2 in
      let family : ℕ → Type 0 = λ x. IsUnitOf calls j x in
      subst family (sym same) (was.closed j p.0 p.1 p.2).unit_of

  rank-is : (j : ℕ) → j < length calls → IsRankOf calls (slice_index (map rank_in stages)) j
  rank-is j h =
      let p = parts j h in
      let same : slice_index (map rank_in stages) j ≡ p.1 = rank-at j ∙ ap rank_in p.2 in
      let it = was.closed j p.0 p.1 p.2 in
      record {
        above = λ k leaves. omega (arith, same, rank-at k, it.above k leaves);
        tight = elim it.tight [
          | inl none ↦ inl (same ∙ none)
          | inr some ↦ inr (some.0, some.1, omega (arith, same, some.2, rank-at some.0))
        ];
      }

  pub units-found : IsUnits calls (map unit_in stages) (map rank_in stages)
  units-found =
      record {
        unit_length = length-map stages unit_in ∙ was.counted;
        rank_length = length-map stages rank_in ∙ was.counted;
        unit_of = unit-is;
        rank_of = rank-is;
      }
