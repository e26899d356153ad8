use Rattle.std.proofs.Common.{◌≡◌, ◌==◌, ◌||◌, ℕ, drop}
use Rattle.std.specs.BTreeSet.{contains}
use Rattle.std.specs.Ordering.{nat_cmp}
use Rattle.g_graph.specs.WellFormed.{some_of}
use Rattle.a_place.proofs.sweep.insert_all.Given as goal

abbrev pub invariant-loop-number : goal.invariant-loop-number
invariant-loop-number l =
    (q : ℕ) → (some_of (λ p. p == q) (drop l.number-index l.numbers) || contains nat_cmp l.set q)
    ≡ (some_of (λ p. p == q) l.numbers || contains nat_cmp l.fn.set q)
