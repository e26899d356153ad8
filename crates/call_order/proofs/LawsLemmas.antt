-- The laws of units and ranks.
use Rattle.std.proofs.Common.{◌≡◌, ℕ, zero, suc, ◌<◌, ◌≤◌, inl, inr, List, length, slice_index, subst, arith}
use Rattle.std.proofs.lemmas.List.{ext_get_or}
use Rattle.call_order.specs.Units.{AllKnown, IsMutual, IsUnitOf, IsRankOf}
use Rattle.call_order.specs.Laws.{CalleeRanksBelow, UnitsAreMutual, UnitsAreUnique}
use Rattle.call_order.proofs.ReachLemmas.{reaches-self, mutual-sym, mutual-trans}

units-below : (calls : List (List ℕ)) (j k u v : ℕ) → IsUnitOf calls j u → IsUnitOf calls k v → IsMutual calls j k → u ≤ v
units-below calls j k u v of_j of_k h = of_j.least v (mutual-trans calls j k v h of_k.within)

units-same : (calls : List (List ℕ)) (j k u v : ℕ) → IsUnitOf calls j u → IsUnitOf calls k v → IsMutual calls j k → u ≡ v
units-same calls j k u v of_j of_k h =
    omega (arith, units-below calls j k u v of_j of_k h, units-below calls k j v u of_k of_j (mutual-sym calls j k h))

units-join : (calls : List (List ℕ)) (j k u v : ℕ) → IsUnitOf calls j u → IsUnitOf calls k v → u ≡ v → IsMutual calls j k
units-join calls j k u v of_j of_k e =
    let family : ℕ → Type 0 = λ x. IsMutual calls j x in
    mutual-trans calls j v k (subst family e of_j.within) (mutual-sym calls k v of_k.within)

pub units-are-mutual : UnitsAreMutual
units-are-mutual calls unit rank are j k inside within =
    (units-same calls j k _ _ (are.unit_of j inside) (are.unit_of k within), units-join calls j k _ _ (are.unit_of j inside) (are.unit_of k within))

pub callee-ranks-below : CalleeRanksBelow
callee-ranks-below calls unit rank known are j k inside called apart =
    (are.rank_of j inside).above k
    (record {
      caller = j;
      within = (reaches-self calls j, reaches-self calls j);
      called = called;
      outside = λ h. apart (units-same calls j k _ _ (are.unit_of j inside) (are.unit_of k (known j k called)) h);
    })

-- below a rank at which two rankings agree, they agree at it
rank-same-next : (calls : List (List ℕ)) (r s : ℕ → ℕ) → AllKnown calls → (j : ℕ) → IsRankOf calls r j → IsRankOf calls s j → ((k : ℕ) → k < length calls → r k < r j → r k ≡ s k) → r j ≡ s j
rank-same-next calls r s known j of_r of_s below =
    elim of_r.tight [
      | inl none ↦
          elim of_s.tight [
            | inl same ↦ omega arith
            | inr some ↦ absurd (omega (arith, of_r.above some.0 some.1))
          ]
      | inr some ↦
          let here = below some.0 (known some.1.caller some.0 some.1.called) (omega (arith, some.2)) in
          elim of_s.tight [
            | inl none ↦ absurd (omega (arith, of_s.above some.0 some.1))
            | inr other ↦
                let there = below other.0 (known other.1.caller other.0 other.1.called) (of_r.above other.0 other.1) in
                omega (arith, here, there, some.2, other.2, of_s.above some.0 some.1, of_r.above other.0 other.1)
          ]
    ]

rank-same : (calls : List (List ℕ)) (r s : ℕ → ℕ) → AllKnown calls → ((j : ℕ) → j < length calls → IsRankOf calls r j) → ((j : ℕ) → j < length calls → IsRankOf calls s j) → (n j : ℕ)
    → j < length calls → r j < n → r j ≡ s j
rank-same calls r s known of_r of_s zero j inside small = absurd (omega arith)
rank-same calls r s known of_r of_s (suc n) j inside small =
    rank-same-next calls r s known j (of_r j inside) (of_s j inside)
    (λ k within lower. rank-same calls r s known of_r of_s n k within (omega arith))

pub units-are-unique : UnitsAreUnique
units-are-unique calls unit rank unit' rank' known are are' = (
  ext_get_or 0 unit unit' (omega (arith, are.unit_length, are'.unit_length))
      (λ j h.
      let inside : j < length calls = omega (arith, are.unit_length) in
      units-same calls j j _ _ (are.unit_of j inside) (are'.unit_of j inside) (reaches-self calls j, reaches-self calls j)),
  ext_get_or 0 rank rank' (omega (arith, are.rank_length, are'.rank_length))
      (λ j h.
      let inside : j < length calls = omega (arith, are.rank_length) in
      rank-same calls (slice_index rank) (slice_index rank') known are.rank_of are'.rank_of (suc (slice_index rank j)) j inside (omega arith)),
)
