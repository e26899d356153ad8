use Rattle.std.proofs.Common.{◌≡◌, ◌≤◌, ◌<◌, ◌-◌, ◌%◌, get_or, refl, sym, arith}
use Rattle.std.proofs.lemmas.List.{get_or_read}
use Rattle.a_share.specs.Counts.{between}
use Rattle.a_share.proofs.Counting.{entry_fits, entry_there, summing_begun, tree_there}
use Rattle.a_share.proofs.Summing.{IsSumming, left_taken, left_even, right_taken, right_even}
use Rattle.a_share.proofs.counts.Counts.sums.Goals as goal
use Rattle.a_share.proofs.counts.Counts.sums.Goals.{then-left-eq1, else-left-eq1, then-right-eq1, else-right-eq1}

pub loop-left-init : goal.loop-left-init
loop-left-init c = record {
  own = summing_begun c.args.self.now c.args.self.now.size c.args.from c.args.to refl c.requires.order c.requires.inside;
  other = summing_begun c.args.others.now c.args.self.now.size c.args.from c.args.to (sym c.requires.size) c.requires.order c.requires.inside;
}

pub overflow_add-own : goal.overflow_add-own
overflow_add-own c =
    let n = c.args.self.now.size in
    let l = c.loop-left in
    let s = c.args.self.now in
    let filled = c.requires.counts.some c.if-self-eq0.false in
    let there = entry_there s filled n c.args.from c.args.to l.own l.left l.right refl c.requires.order c.requires.inside l.invariant.own l.left c.loop-left-test.true in
    let v : c.index.result.now ≡ get_or s.sums.items l.left 0 = get_or_read s.sums.items _ _ there c.index.ensures 0 in
    let fits = entry_fits s filled n c.args.from c.args.to l.own l.left l.right refl c.requires.order c.requires.inside l.invariant.own l.left c.index.result.now (omega arith) c.loop-left-test.true v in
    omega (arith, fits)

pub overflow_add-other : goal.overflow_add-other
overflow_add-other c =
    let n = c.args.self.now.size in
    let l = c.loop-left in
    let t = c.args.others.now in
    let filled = c.requires.others.some c.if-others-eq0.false in
    let there = entry_there t filled n c.args.from c.args.to l.other l.left l.right (sym c.requires.size) c.requires.order c.requires.inside l.invariant.other l.left c.loop-left-test.true in
    let v : c.index-then-left-eq1.result.now ≡ get_or t.sums.items l.left 0 = get_or_read t.sums.items _ _ there c.index-then-left-eq1.ensures 0 in
    let fits = entry_fits t filled n c.args.from c.args.to l.other l.left l.right (sym c.requires.size) c.requires.order c.requires.inside l.invariant.other l.left c.index-then-left-eq1.result.now (omega arith) c.loop-left-test.true v in
    omega (arith, fits)

pub overflow_add-own-then-right-eq1 : goal.overflow_add-own-then-right-eq1
overflow_add-own-then-right-eq1 c =
    let n = c.args.self.now.size in
    let l = c.loop-left in
    let s = c.args.self.now in
    let filled = c.requires.counts.some c.if-self-eq0.false in
    let own_mid : IsSumming s.sums.items n (between s c.args.from c.args.to) c.if-left-eq1.own c.if-left-eq1.left l.right × (c.if-left-eq1.left % 2 ≡ 0) =
    elim c.if-left-eq1.branch [
      | then-left-eq1 w ↦
          left_taken s.sums.items n (between s c.args.from c.args.to) l.own l.left l.right w.index.result.now c.if-left-eq1.own c.if-left-eq1.left
          c.loop-left-test.true (omega (arith, w.if-left-eq1.true))
          (get_or_read s.sums.items _ _ (entry_there s filled n c.args.from c.args.to l.own l.left l.right refl c.requires.order c.requires.inside l.invariant.own l.left c.loop-left-test.true) w.index.ensures 0)
          w.own-is w.left-is l.invariant.own
      | else-left-eq1 w ↦
          left_even s.sums.items n (between s c.args.from c.args.to) l.own l.left l.right c.if-left-eq1.own c.if-left-eq1.left
          (omega (arith, w.if-left-eq1.false)) w.own-is w.left-is l.invariant.own
    ] in
    let m = c.if-left-eq1 in
    let order : m.left ≤ l.right = own_mid.0.order in
    let low : m.left ≤ l.right - 1 = omega (arith, c.if-right-eq1.true, own_mid.1, order) in
    let high : l.right - 1 < l.right = omega (arith, c.if-right-eq1.true) in
    let there = entry_there s filled n c.args.from c.args.to m.own m.left l.right refl c.requires.order c.requires.inside own_mid.0 (l.right - 1) high in
    let v : c.index-then-right-eq1.result.now ≡ get_or s.sums.items (l.right - 1) 0 = get_or_read s.sums.items _ _ there c.index-then-right-eq1.ensures 0 in
    let fits = entry_fits s filled n c.args.from c.args.to m.own m.left l.right refl c.requires.order c.requires.inside own_mid.0 (l.right - 1) c.index-then-right-eq1.result.now low high v in
    omega (arith, fits)

pub overflow_add-other-then-right-eq1 : goal.overflow_add-other-then-right-eq1
overflow_add-other-then-right-eq1 c =
    let n = c.args.self.now.size in
    let l = c.loop-left in
    let t = c.args.others.now in
    let filled = c.requires.others.some c.if-others-eq0.false in
    let other_mid : IsSumming t.sums.items n (between t c.args.from c.args.to) c.if-left-eq1.other c.if-left-eq1.left l.right × (c.if-left-eq1.left % 2 ≡ 0) =
    elim c.if-left-eq1.branch [
      | then-left-eq1 w ↦
          left_taken t.sums.items n (between t c.args.from c.args.to) l.other l.left l.right w.index-then-left-eq1.result.now c.if-left-eq1.other c.if-left-eq1.left
          c.loop-left-test.true (omega (arith, w.if-left-eq1.true))
          (get_or_read t.sums.items _ _ (entry_there t filled n c.args.from c.args.to l.other l.left l.right (sym c.requires.size) c.requires.order c.requires.inside l.invariant.other l.left c.loop-left-test.true) w.index-then-left-eq1.ensures 0)
          w.other-is w.left-is l.invariant.other
      | else-left-eq1 w ↦
          left_even t.sums.items n (between t c.args.from c.args.to) l.other l.left l.right c.if-left-eq1.other c.if-left-eq1.left
          (omega (arith, w.if-left-eq1.false)) w.other-is w.left-is l.invariant.other
    ] in
    let m = c.if-left-eq1 in
    let order : m.left ≤ l.right = other_mid.0.order in
    let low : m.left ≤ l.right - 1 = omega (arith, c.if-right-eq1.true, other_mid.1, order) in
    let high : l.right - 1 < l.right = omega (arith, c.if-right-eq1.true) in
    let there = entry_there t filled n c.args.from c.args.to m.other m.left l.right (sym c.requires.size) c.requires.order c.requires.inside other_mid.0 (l.right - 1) high in
    let v : c.index-then-right-eq1-2.result.now ≡ get_or t.sums.items (l.right - 1) 0 = get_or_read t.sums.items _ _ there c.index-then-right-eq1-2.ensures 0 in
    let fits = entry_fits t filled n c.args.from c.args.to m.other m.left l.right (sym c.requires.size) c.requires.order c.requires.inside other_mid.0 (l.right - 1) c.index-then-right-eq1-2.result.now low high v in
    omega (arith, fits)

pub loop-left-preserved : goal.loop-left-preserved
loop-left-preserved c =
    let n = c.args.self.now.size in
    let l = c.loop-left in
    let s = c.args.self.now in
    let t = c.args.others.now in
    let own_mid : IsSumming s.sums.items n (between s c.args.from c.args.to) c.if-left-eq1.own c.if-left-eq1.left l.right × (c.if-left-eq1.left % 2 ≡ 0) =
    elim c.if-left-eq1.branch [
      | then-left-eq1 w ↦
          left_taken s.sums.items n (between s c.args.from c.args.to) l.own l.left l.right w.index.result.now c.if-left-eq1.own c.if-left-eq1.left
          c.loop-left-test.true (omega (arith, w.if-left-eq1.true))
          (get_or_read s.sums.items _ _ (entry_there s (c.requires.counts.some c.if-self-eq0.false) n c.args.from c.args.to l.own l.left l.right refl c.requires.order c.requires.inside l.invariant.own l.left c.loop-left-test.true) w.index.ensures 0)
          w.own-is w.left-is l.invariant.own
      | else-left-eq1 w ↦
          left_even s.sums.items n (between s c.args.from c.args.to) l.own l.left l.right c.if-left-eq1.own c.if-left-eq1.left
          (omega (arith, w.if-left-eq1.false)) w.own-is w.left-is l.invariant.own
    ] in
    let other_mid : IsSumming t.sums.items n (between t c.args.from c.args.to) c.if-left-eq1.other c.if-left-eq1.left l.right × (c.if-left-eq1.left % 2 ≡ 0) =
    elim c.if-left-eq1.branch [
      | then-left-eq1 w ↦
          left_taken t.sums.items n (between t c.args.from c.args.to) l.other l.left l.right w.index-then-left-eq1.result.now c.if-left-eq1.other c.if-left-eq1.left
          c.loop-left-test.true (omega (arith, w.if-left-eq1.true))
          (get_or_read t.sums.items _ _ (entry_there t (c.requires.others.some c.if-others-eq0.false) n c.args.from c.args.to l.other l.left l.right (sym c.requires.size) c.requires.order c.requires.inside l.invariant.other l.left c.loop-left-test.true) w.index-then-left-eq1.ensures 0)
          w.other-is w.left-is l.invariant.other
      | else-left-eq1 w ↦
          left_even t.sums.items n (between t c.args.from c.args.to) l.other l.left l.right c.if-left-eq1.other c.if-left-eq1.left
          (omega (arith, w.if-left-eq1.false)) w.other-is w.left-is l.invariant.other
    ] in
    record {
      own = elim c.if-right-eq1.branch [
        | then-right-eq1 w ↦
            (let high : l.right - 1 < l.right = omega (arith, w.if-right-eq1.true) in
            let there = entry_there s (c.requires.counts.some c.if-self-eq0.false) n c.args.from c.args.to c.if-left-eq1.own c.if-left-eq1.left l.right refl c.requires.order c.requires.inside own_mid.0 (l.right - 1) high in
            right_taken s.sums.items n (between s c.args.from c.args.to) c.if-left-eq1.own c.if-left-eq1.left l.right w.index-then-right-eq1.result.now c.if-right-eq1.own c.if-right-eq1.right
            own_mid.1 (omega (arith, w.if-right-eq1.true)) (get_or_read s.sums.items _ _ there w.index-then-right-eq1.ensures 0) w.own-is w.right-is
            (tree_there s (c.requires.counts.some c.if-self-eq0.false) n c.args.from c.args.to l.own l.left l.right refl c.requires.order c.requires.inside l.invariant.own) own_mid.0)
        | else-right-eq1 w ↦
            right_even s.sums.items n (between s c.args.from c.args.to) c.if-left-eq1.own c.if-left-eq1.left l.right c.if-right-eq1.own c.if-right-eq1.right
            own_mid.1 (omega (arith, w.if-right-eq1.false)) w.own-is w.right-is
            (tree_there s (c.requires.counts.some c.if-self-eq0.false) n c.args.from c.args.to l.own l.left l.right refl c.requires.order c.requires.inside l.invariant.own) own_mid.0
      ];
      other = elim c.if-right-eq1.branch [
        | then-right-eq1 w ↦
            (let high : l.right - 1 < l.right = omega (arith, w.if-right-eq1.true) in
            let there = entry_there t (c.requires.others.some c.if-others-eq0.false) n c.args.from c.args.to c.if-left-eq1.other c.if-left-eq1.left l.right (sym c.requires.size) c.requires.order c.requires.inside other_mid.0 (l.right - 1) high in
            right_taken t.sums.items n (between t c.args.from c.args.to) c.if-left-eq1.other c.if-left-eq1.left l.right w.index-then-right-eq1-2.result.now c.if-right-eq1.other c.if-right-eq1.right
            other_mid.1 (omega (arith, w.if-right-eq1.true)) (get_or_read t.sums.items _ _ there w.index-then-right-eq1-2.ensures 0) w.other-is w.right-is
            (tree_there t (c.requires.others.some c.if-others-eq0.false) n c.args.from c.args.to l.other l.left l.right (sym c.requires.size) c.requires.order c.requires.inside l.invariant.other) other_mid.0)
        | else-right-eq1 w ↦
            right_even t.sums.items n (between t c.args.from c.args.to) c.if-left-eq1.other c.if-left-eq1.left l.right c.if-right-eq1.other c.if-right-eq1.right
            other_mid.1 (omega (arith, w.if-right-eq1.false)) w.other-is w.right-is
            (tree_there t (c.requires.others.some c.if-others-eq0.false) n c.args.from c.args.to l.other l.left l.right (sym c.requires.size) c.requires.order c.requires.inside l.invariant.other) other_mid.0
      ];
    }
