-- The regions of the segments of a `switch`, one after the other.
use Rattle.std.specs.Prelude.{Bool, true, false, List, [], ◌∷◌, if◌then◌else◌}
use Rattle.c_typed.specs.Typed.{GroupTrees, no_groups, group_then}
use Rattle.g_build_def.specs.Writer.{Point, Built, nothing}
use Rattle.g_build_def.specs.Exits.{Exits, no_exits, either_exits, items_exits, groups_exits}
use Rattle.g_build_def.specs.Switch.{ends_segment}
use Rattle.g_build_expression.specs.Work.{Work, made, closed}

abbrev pub first_region : List (Point → Built (Unit {0})) → Point → Built (Unit {0})
first_region [] = nothing
first_region (f ∷ fs) = f

-- each of these regions is made and closed
abbrev pub regions_closed : Work → List (Point → Built (Unit {0})) → Work
regions_closed w [] = w
regions_closed w (f ∷ fs) = regions_closed (closed [] (made w (f w.point))) fs

-- how the segment can be left that the first of these groups begins, or goes on in
abbrev pub segment_exits : GroupTrees → Exits
segment_exits no_groups = no_exits
segment_exits (group_then cases d is gs) = if ends_segment is gs then items_exits is else either_exits (items_exits is) (segment_exits gs)

-- those that are left of these, where the first is a segment that has begun before
abbrev pub pending_regions : (begins : Bool) → List (Point → Built (Unit {0})) → List (Point → Built (Unit {0}))
pending_regions true fs = fs
pending_regions false [] = []
pending_regions false (f ∷ fs) = fs

abbrev pub later_exits : GroupTrees → Exits
later_exits no_groups = no_exits
later_exits (group_then cases d is gs) = if ends_segment is gs then groups_exits gs else later_exits gs

abbrev pub pending_exits : (begins : Bool) → GroupTrees → Exits
pending_exits true gs = groups_exits gs
pending_exits false gs = later_exits gs
