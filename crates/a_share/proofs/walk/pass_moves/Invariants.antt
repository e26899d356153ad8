-- What holds before each turn of the loops of `pass_moves`.
use Rattle.std.proofs.Common.{◌≡◌, ◌≤◌, List, map, length}
use Rattle.std.specs.Prelude.{IsTrue}
use Rattle.g_graph.specs.WellFormed.{all_of}
use Rattle.s_linear.specs.Linear.{Instr}
use Rattle.s_linear.specs.Lines.{done, names_below}
use Rattle.s_linear.specs.Views.{line_of}
use Rattle.a_share.specs.Changes.{ArePassed}
use Rattle.a_share.specs.Rows.{StandAt}
use Rattle.a_share.proofs.walk.pass_moves.Given as goal

abbrev pub decreases-moves : goal.decreases-moves
decreases-moves l = l.at

abbrev pub invariant-moves : goal.invariant-moves
invariant-moves l = record {
  passed : (is : List Instr) → StandAt (map line_of l.lines) l.at (map done is) l.jump
      → IsTrue (all_of (names_below (length l.fn.needs.toggles)) (map line_of l.lines)) → ArePassed is l.fn.needs l.needs l.bound;
  low : l.back ≤ l.jump → l.back ≤ l.at;
  high : l.at ≤ l.jump;
  depths : l.needs.depths ≡ l.fn.needs.depths;
  copies : l.needs.copies ≡ l.fn.needs.copies;
}
