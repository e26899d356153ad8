-- What is left decides.
use Rattle.std.proofs.Common.{◌≡◌, [], map, drop}
use Rattle.g_graph.specs.WellFormed.{all_of}
use Rattle.r_push.specs.Walk.{Cursor, goes_along}
use Rattle.r_walk.specs.Walk.{origin_now}
use Rattle.r_push.specs.Walks.{IsCursor}
use Rattle.r_push.proofs.leaving.all_go_along.Given as goal

abbrev pub invariant-loop-origin : goal.invariant-loop-origin
invariant-loop-origin l = (k : Cursor) → IsCursor k l.place l.moves → all_of (goes_along k l.args) (map (origin_now k.moved []) (drop l.origin-index l.origins)) ≡ all_of (goes_along k l.args) (map (origin_now k.moved []) l.origins)
