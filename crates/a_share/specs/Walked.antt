-- What the walk back finds of a function's lines, of all names.
use Rattle.std.specs.Prelude.{◌≡◌, ◌<◌, ℕ, List, vec_len}
use Rattle.s_linear.specs.Linear.{LinearFunction}
use Rattle.s_linear.specs.Lines.{Line, lines}
use Rattle.a_place.specs.Marks.{Mark, marks}
use Rattle.a_place.specs.Turns.{HasOwnTurns}
use Rattle.a_share.specs.Walk.{AreNeedOf, AreDepthsOf, AreCopiesOf}
use Rattle.a_share.specs.Sound.{segments_in}
use Rattle.a_share.specs.declared.walk.Walk.{Walk}

pub record IsWalkOf (ls : List Line) (ms : List Mark) (w : Walk) : Type 0 where
  pub need : (x : ℕ) → x < vec_len w.segments → AreNeedOf ls ms x (segments_in w x)
  pub depths : AreDepthsOf ls ms w.depths.items
  pub copies : AreCopiesOf ls ms w.copies.items

-- of each function that has these lines
abbrev pub WalksBack : List Line → Walk → Type 0
WalksBack ls w = (f : LinearFunction) → lines f ≡ ls → HasOwnTurns f → IsWalkOf (lines f) (marks f) w
