-- What holds before each turn of the loops of `jumped`.
use Rattle.std.proofs.Common.{◌≡◌, ◌||◌, ℕ, map, drop}
use Rattle.std.specs.BTreeSet.{contains}
use Rattle.std.specs.Ordering.{nat_cmp}
use Rattle.g_graph.specs.WellFormed.{some_of}
use Rattle.s_linear.specs.Views.{line_of}
use Rattle.a_share.specs.Walking.{is_jump_to}
use Rattle.a_share.proofs.walk.jumped.Given as goal

abbrev pub invariant-loop-line : goal.invariant-loop-line
invariant-loop-line l =
    (q : ℕ) → (some_of (is_jump_to q) (map line_of (drop l.line-index l.lines)) || contains nat_cmp l.jumped q) ≡ some_of (is_jump_to q) (map line_of l.lines)
