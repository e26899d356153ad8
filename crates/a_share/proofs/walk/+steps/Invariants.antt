-- What holds in the loops of the functions of the walk, which are one recursion.
use Rattle.std.proofs.Common.{◌≡◌, ◌≤◌, ◌+◌, ◌*◌, ℕ, suc, map, length}
use Rattle.std.specs.BTreeSet.{contains}
use Rattle.std.specs.Ordering.{nat_cmp}
use Rattle.s_linear.specs.Views.{line_of}
use Rattle.a_place.specs.Share.{Names}
use Rattle.s_linear.specs.Linear.{Codes}
use Rattle.a_share.specs.Rows.{Row, end_label}
use Rattle.a_share.specs.Walking.{IsAt, HasRoom, RowStands, ChoiceStands}
use Rattle.a_share.proofs.Heads.{Left}
use Rattle.a_share.proofs.Forking.{AtChoice}
use Rattle.a_share.proofs.walk.+steps.Given as goal

abbrev pub decreases-code : goal.decreases-code
decreases-code l = 2 * l.end

abbrev pub decreases-turn : goal.decreases-turn
decreases-turn l = 2 * l.end + 1

abbrev pub decreases-choice : goal.decreases-choice
decreases-choice l = 2 * l.end + 1

abbrev pub decreases-code-back : goal.decreases-code-back
decreases-code-back l = l.at

abbrev pub invariant-code-back : goal.invariant-code-back
invariant-code-back l = record {
  bound : l.at ≤ l.fn.end;
  depths : length l.needs.depths.items ≡ length l.fn.needs.depths.items;
  copies : length l.needs.copies.items ≡ length l.fn.needs.copies.items;
  walked : (a : ℕ) (r : Row) (N : Names) → HasRoom (map line_of l.lines) (contains nat_cmp l.jumped) l.fn.needs
      → RowStands (map line_of l.lines) (contains nat_cmp l.jumped) l.stop a r l.fn.end N → IsAt l.fn.needs l.fn.end N
      → Left (map line_of l.lines) (contains nat_cmp l.jumped) l.stop l.depth l.fn.needs a r l.fn.end N l.needs l.at;
}

abbrev pub decreases-choice-codes : goal.decreases-choice-codes
decreases-choice-codes l = l.start

abbrev pub invariant-choice-codes : goal.invariant-choice-codes
invariant-choice-codes l = record {
  bound : l.branches + l.start ≤ l.fn.end;
  depths : length l.needs.depths.items ≡ length l.fn.needs.depths.items;
  copies : length l.needs.copies.items ≡ length l.fn.needs.copies.items;
  walked : (a p first : ℕ) (cs : Codes) (N : Names) → HasRoom (map line_of l.lines) (contains nat_cmp l.jumped) l.fn.needs
      → ChoiceStands (map line_of l.lines) (contains nat_cmp l.jumped) a first p cs (suc l.fn.end) N → l.label ≡ end_label first cs → IsAt l.fn.needs (suc l.fn.end) N
      → AtChoice (map line_of l.lines) (contains nat_cmp l.jumped) l.depth l.fn.needs a first p cs l.fn.end N l.start l.needs l.union.added.items
      l.union.dropped.items l.branches;
}
