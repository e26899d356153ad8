-- The segments of a `switch` (ISO/IEC 9899:2011, 6.8.4.2): a segment is a longest run of groups each of which, but the last,
-- goes on into the next one. The number of a segment chooses the region; in a segment of several groups the variable
-- `from` says at which of them it begins.
use Rattle.std.specs.Prelude.{ℕ, suc, ◌+◌, ◌-◌, ◌%◌, ◌^◌, Bool, true, false, not, ◌||◌, if◌then◌else◌, List, [], ◌∷◌, ◌++◌, map}
use Rattle.val_core.specs.declared.operation.Op2.TheVariants as op
use Rattle.c_typed.specs.Typed.{StmtTree, break, continue, return_value, return_none, ItemTrees, no_items, stmt_then, declare_then, GroupTrees, no_groups, group_then}
use Rattle.g_graph.specs.declared.op.Origin.{Origin}
use Rattle.g_build_def.specs.Writer.{hidden, newest, slot_origin, Point, pushed, popped, Built, given, nothing, bind, no_value, choices, choice}
use Rattle.g_build_def.specs.Operations.{const_made, bin_made}
use Rattle.g_build_def.specs.Exits.{some_items, groups_exits}
use Rattle.g_build_def.specs.Jumps.{unless_left, break_ended}

-- ---- segments

abbrev pub is_jump : StmtTree → Bool
is_jump break = true
is_jump continue = true
is_jump (return_value e) = true
is_jump return_none = true
is_jump _ = false

-- the last of these statements is a jump
abbrev pub ends_with_jump : ItemTrees → Bool
ends_with_jump no_items = false
ends_with_jump (stmt_then a is) = if some_items is then ends_with_jump is else is_jump a
ends_with_jump (declare_then d is) = ends_with_jump is

abbrev pub some_groups : GroupTrees → Bool
some_groups no_groups = false
some_groups (group_then cases d is gs) = true

-- a group with these statements, before these groups, is the last of its segment
abbrev pub ends_segment : ItemTrees → GroupTrees → Bool
ends_segment is gs = ends_with_jump is || not (some_groups gs)

abbrev pub next_segment : (segment : ℕ) → ItemTrees → GroupTrees → ℕ
next_segment k is gs = if ends_segment is gs then suc k else k

abbrev pub some_segment_has_several : GroupTrees → Bool
some_segment_has_several no_groups = false
some_segment_has_several (group_then cases d is gs) = not (ends_segment is gs) || some_segment_has_several gs

-- the segment and the group of a label
pub record Target : Type 0 where
  pub segment : ℕ
  pub group : ℕ

-- Where `default` leads, among groups from this segment and this group on: after the last ones where there is none.
abbrev pub default_target : (segment group : ℕ) → GroupTrees → Target
default_target k g no_groups = record { segment = k; group = g }
default_target k g (group_then cases true is gs) = record { segment = k; group = g }
default_target k g (group_then cases false is gs) = default_target (next_segment k is gs) (suc g) gs

pub record Label : Type 0 where
  pub word : ℕ
  pub target : Target

-- the `case` labels in order
abbrev pub labels_of : (segment group : ℕ) → GroupTrees → List Label
labels_of k g no_groups = []
labels_of k g (group_then cases d is gs) =
    map (λ w. record { word = w; target = record { segment = k; group = g } }) cases ++ labels_of (next_segment k is gs) (suc g) gs

-- ---- the number of the segment, and `from`

-- as words
abbrev pub word_difference : ℕ → ℕ → ℕ
word_difference a b = (a + 2 ^ 32 - b) % 2 ^ 32

-- a number becomes greater by a difference where `equal` is 1
abbrev pub moved_where : (equal : Origin) → (difference : ℕ) → (number : Origin) → Point → Built Origin
moved_where q d n s = bind (const_made d s) (λ k t. bind (bin_made op.Mul q k t) (λ m u. bin_made op.Add n m u))

-- the number of the segment, and for each label whether the value is equal to its word
pub record Selected : Type 0 where
  pub number : Origin
  pub equals : List Origin

abbrev pub labels_made : (value : Origin) → (default : ℕ) → List Label → (number : Origin) → Point → Built Selected
labels_made p d [] n s = given (record { number = n; equals = [] }) s
labels_made p d (l ∷ ls) n s =
    bind (const_made l.word s) (λ w t.
    bind (bin_made op.Eq p w t) (λ q u.
    bind (moved_where q (word_difference l.target.segment d) n u) (λ m v.
    bind (labels_made p d ls m v) (λ x w2. given (record { number = x.number; equals = q ∷ x.equals }) w2))))

abbrev pub segment_made : (value : Origin) → (default : ℕ) → List Label → Point → Built Selected
segment_made p d ls s = bind (const_made d s) (λ n t. labels_made p d ls n t)

abbrev pub groups_moved : (default : ℕ) → List Label → (equals : List Origin) → (from : Origin) → Point → Built Origin
groups_moved d (l ∷ ls) (q ∷ qs) n s = bind (moved_where q (word_difference l.target.group d) n s) (λ m t. groups_moved d ls qs m t)
groups_moved d _ _ n s = given n s

-- where some segment has several groups, `from` comes into scope
abbrev pub from_made : (several : Bool) → (default : ℕ) → List Label → (equals : List Origin) → Point → Built (Unit {0})
from_made false d ls qs s = nothing s
from_made true d ls qs s = bind (const_made d s) (λ n t. bind (groups_moved d ls qs n t) (λ m u. nothing (pushed (hidden m) u)))

abbrev pub from_popped : (several : Bool) → Point → Point
from_popped false s = s
from_popped true s = popped s

-- ---- regions

-- group g of a segment of several: its statements are done where `from`, the newest variable, is at most g
abbrev pub group_made : (group : ℕ) → (statements : Point → Built (Unit {0})) → Point → Built (Unit {0})
group_made g f s =
    bind (const_made (suc g) s) (λ k t.
    bind (bin_made op.Sltu (slot_origin (newest t.carried.variables)) k t) (λ p u. choice no_value u p nothing f))

-- A group stands before the segments of the groups after it. It begins a segment or goes on in one, and ends it or not.
abbrev pub segments_with : (begins ends : Bool) → (group : ℕ) → (leaves : Bool) → (statements : Point → Built (Unit {0})) →
    (later : List (Point → Built (Unit {0}))) → List (Point → Built (Unit {0}))
segments_with true true g l f later = f ∷ later
segments_with false true g l f later = group_made g f ∷ later
segments_with begins false g l f [] = group_made g f ∷ []
segments_with begins false g l f (rest ∷ later) = (λ s. bind (group_made g f s) (λ _ t. unless_left l rest t)) ∷ later

-- ---- the whole

-- the groups from the one with the label on, by a value and the regions of the segments
abbrev pub chosen_made : (value : Origin) → GroupTrees → (segments : List (Point → Built (Unit {0}))) → Point → Built (Unit {0})
chosen_made p gs fs s =
    let d : Target = default_target 0 0 gs in
    let ls : List Label = labels_of 0 0 gs in
    let several : Bool = some_segment_has_several gs in
    bind (segment_made p d.segment ls s) (λ x t.
    bind (from_made several d.group ls x.equals t) (λ _ u.
    bind (choices no_value u x.number (fs ++ nothing ∷ [])) (λ _ v. break_ended (groups_exits gs).breaks (from_popped several v))))

abbrev pub switch_made : (value : Origin) → GroupTrees → (segments : List (Point → Built (Unit {0}))) → Point → Built (Unit {0})
switch_made p no_groups fs s = nothing s
switch_made p (group_then cases d is gs) fs s = chosen_made p (group_then cases d is gs) fs s
