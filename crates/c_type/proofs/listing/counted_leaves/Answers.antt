use Rattle.std.proofs.Common.{◌≡◌, ℕ, ◌+◌, ◌-◌, ◌≤◌, length, sym, ap, ◌∙◌, subst, arith}
use Rattle.c_type.specs.Pending.{all_listed, CanListAll, all_work}
use Rattle.c_type.proofs.PendingLemmas.{listed-snoc, work-snoc, can-last}
use Rattle.c_type.proofs.listing.counted_leaves.Goals as goal

pub list-requires : goal.list-requires
list-requires g c =
    let inv = c.loop-next.invariant in
    can-last c.args.types.now c.pop.new.self.items c.in-Some.next _ inv.ordered (subst (λ ps. CanListAll c.args.types.now ps c.loop-next.out.items) c.in-Some.ensures.items inv.can)

pub loop-next-smaller : goal.loop-next-smaller
loop-next-smaller g c =
    let n = work-snoc c.args.types.now c.pop.new.self.items c.in-Some.next in
    let r = c.in_ok-list.ensures in
    rw c.in-Some.ensures.items (omega (arith, n, r.cost, r.grows))

-- the steps so far, and the work that is left
counted : (steps new all others next left after before had has most : ℕ) → steps + all ≤ most → all ≡ others + next → left + 1 + after ≤ others + next + before → before ≤ after → had ≡ before →
    has ≡ after →
    new ≡ steps + (1 + (has - had)) → new + left ≤ most
counted steps new all others next left after before had has most a b c d e f g = omega arith

pub loop-next-preserved : goal.loop-next-preserved
loop-next-preserved g c =
    let inv = c.loop-next.invariant in
    let r = c.in_ok-list.ensures in
    let popped = ap (all_work c.args.types.now) c.in-Some.ensures.items ∙ work-snoc c.args.types.now c.pop.new.self.items c.in-Some.next in
    let before = c.loop-next.out in
    let after = c.list.new.out in
    let had : c.len-had.result ≡ length before.items = omega (arith, c.len-had.ensures, before.ok.0) in
    let has : c.len.result ≡ length after.items = omega (arith, c.len.ensures, after.ok.0) in
    record {
      ordered = inv.ordered;
      same = r.same ∙ sym (listed-snoc c.args.types.now c.pop.new.self.items c.in-Some.next _) ∙ ap (λ ps. all_listed c.args.types.now ps c.loop-next.out.items) (sym c.in-Some.ensures.items)
          ∙ inv.same;
      can = r.can;
      cost = counted _ _ _ _ _ _ _ _ _ _ _ inv.cost popped r.cost r.grows had has c.add.ensures;
    }
