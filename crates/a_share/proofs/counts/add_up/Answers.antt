use Rattle.std.proofs.Common.{◌≡◌, ◌+◌, refl, inl, inr, get_or, arith}
use Rattle.a_share.specs.Sums.{one_at}
use Rattle.a_share.proofs.Adding.{IsAdding, next, one_cases, tree_again}
use Rattle.a_share.proofs.counts.add_up.Goals as goal

pub loop-entry-preserved : goal.loop-entry-preserved
loop-entry-preserved c =
    next c.args.sums.now c.args.last c.loop-entry.entry c.loop-entry.sums _ c.requires.inside c.loop-entry-test.true c.loop-entry.invariant refl

pub returns-clause-tree : goal.returns-clause-tree
returns-clause-tree c =
    let z : c.loop-entry.entry ≡ 0 = omega (arith, c.loop-entry-test.false) in
    let a : IsAdding c.args.sums.now c.args.last 0 c.loop-entry.sums = rw z at c.loop-entry.invariant in
    λ size l b t. tree_again c.args.sums.now c.loop-entry.sums c.args.last a size l b t

pub returns-clause-others : goal.returns-clause-others
returns-clause-others c =
    let z : c.loop-entry.entry ≡ 0 = omega (arith, c.loop-entry-test.false) in
    let a : IsAdding c.args.sums.now c.args.last 0 c.loop-entry.sums = rw z at c.loop-entry.invariant in
    λ size k l b p.
    let is : get_or c.loop-entry.sums k 0 + one_at 0 k ≡ get_or c.args.sums.now k 0 + one_at c.args.last k = a.others size k l b p in
    elim (one_cases 0 k) [
      | inl here ↦ let same : 0 ≡ k = here.0 in absurd (omega (arith, c.requires.inside))
      | inr other ↦ let none : one_at 0 k ≡ 0 = other.1 in omega arith
    ]
