-- What holds before each turn of the loops of `moves_back`.
use Rattle.std.proofs.Common.{◌≡◌, ◌≤◌, ◌<◌, ℕ, Bool, List, map, length}
use Rattle.s_linear.specs.Linear.{Instr}
use Rattle.s_linear.specs.Lines.{done}
use Rattle.s_linear.specs.Views.{line_of}
use Rattle.a_place.specs.Share.{Names}
use Rattle.a_share.specs.Bounds.{need_at, needed_now}
use Rattle.a_share.specs.Rows.{StandAt}
use Rattle.a_share.specs.Walking.{HasRoom}
use Rattle.a_share.proofs.Moving.{AreMoving}
use Rattle.a_share.proofs.walk.moves_back.Given as goal

abbrev pub decreases-moves : goal.decreases-moves
decreases-moves l = l.at

abbrev pub invariant-moves : goal.invariant-moves
invariant-moves l = record {
  moving : (J : ℕ → Bool) (is : List Instr) (L : Names) → StandAt (map line_of l.lines) l.at (map done is) l.jump → HasRoom (map line_of l.lines) J l.fn.needs
      → ((x k : ℕ) → l.back < k → k ≤ l.jump → need_at l.fn.needs.toggles x k ≡ L x) → ((x : ℕ) → needed_now l.fn.needs.toggles x ≡ L x)
      → (names : List ℕ) × AreMoving l.depth L l.fn.needs l.needs l.back l.at l.jump is names;
  low : l.back ≤ l.jump → l.back ≤ l.at;
  high : l.at ≤ l.jump;
  depths : length l.needs.depths.items ≡ length l.fn.needs.depths.items;
  copies : length l.needs.copies.items ≡ length l.fn.needs.copies.items;
}
