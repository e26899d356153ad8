-- Rank by rank it gets known which functions are stale.
use Rattle.std.proofs.Common.{◌≡◌, ◌<◌, ◌+◌, ℕ, Bool, true, List, [], length, slice_index, slice_index_or, Contains, subst, inl, inr, arith}
use Rattle.std.proofs.lemmas.Bool.{cases_eq, cases_lt}
use Rattle.std.proofs.lemmas.List.{get_or_past}
use Rattle.call_order.specs.Units.{AllKnown}
use Rattle.g_pass_work.specs.Ranks.{DepsAreBelow, IsByRank, IsSettled}
use Rattle.g_pass_work.proofs.Settled.{settled-past}

module _ (ranks : List ℕ) (lists deps : List (List ℕ)) (changed : List Bool) (by_rank : IsByRank ranks lists) (long : length ranks ≡ length deps) where
  -- it is known of the functions whose rank is below r
  abbrev pub UpTo : List Bool → ℕ → Type 0
  UpTo stale r = (j : ℕ) → j < length deps → slice_index ranks j < r → IsSettled deps changed stale j

  pub inside : (r f : ℕ) → Contains (slice_index_or lists r []) f → f < length deps
  inside r f h = omega (arith, (by_rank.each r f h).0, long)

  pub deps-settled : AllKnown deps → DepsAreBelow ranks deps → (stale : List Bool) (r : ℕ) → UpTo stale r → (f d : ℕ) → Contains (slice_index_or lists r []) f →
      Contains (slice_index_or deps f []) d → IsSettled deps changed stale d
  deps-settled known below stale r upto f d h called = upto d (known f d called) (omega (arith, below f d called, (by_rank.each r f h).1))

  pub next-rank : (stale stale' : List Bool) (r : ℕ) → UpTo stale r → ((f : ℕ) → Contains (slice_index_or lists r []) f → IsSettled deps changed stale' f) →
      ((j : ℕ) → IsSettled deps changed stale j → IsSettled deps changed stale' j) → UpTo stale' (r + 1)
  next-rank stale stale' r upto here kept j low rank =
      elim (cases_eq (slice_index ranks j) r) [
        | inl same ↦ here j (subst (λ q. Contains (slice_index_or lists q []) j) same (by_rank.all j (omega (arith, low, long))))
        | inr apart ↦ kept j (upto j low (omega (arith, rank, apart)))
      ]

  rank-inside : (j : ℕ) → j < length ranks → slice_index ranks j < length lists
  rank-inside j low =
      elim (cases_lt (slice_index ranks j) (length lists)) [
        | inl inside' ↦ inside'
        | inr past ↦
            let none : Contains [] j = subst (λ (xs : List ℕ). Contains xs j) (get_or_past lists (slice_index ranks j) [] past) (by_rank.all j low) in
            absurd (omega (arith, none.1))
      ]

  pub all-settled : (stale : List Bool) → length changed ≡ length deps → length stale ≡ length deps → UpTo stale (length lists) → (j : ℕ) → IsSettled deps changed stale j
  all-settled stale long' as_many upto j =
      elim (cases_lt j (length deps)) [
        | inl low ↦ upto j low (rank-inside j (omega (arith, low, long)))
        | inr past ↦ settled-past deps changed stale j (get_or_past stale j true (omega (arith, past, as_many))) (get_or_past changed j true (omega (arith, past, long')))
      ]
