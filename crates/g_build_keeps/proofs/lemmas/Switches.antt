-- The graph of a `switch`.
use Rattle.std.proofs.Common.{◌≡◌, ℕ, suc, Bool, true, false, List, [], ◌∷◌, ◌++◌, refl, sym, subst}
use Rattle.std.specs.Prelude.{not, ◌||◌}
use Rattle.val_core.specs.declared.operation.Op2.TheVariants as op
use Rattle.c_typed.specs.Typed.{GroupTrees, no_groups, group_then}
use Rattle.g_graph.specs.declared.op.Kind.TheVariants.{Value}
use Rattle.g_graph.specs.declared.op.Origin.{Origin}
use Rattle.g_build_keeps.specs.Formation.{Standing}
use Rattle.g_build_def.specs.Writer.{hidden, newest, slot_origin, Point, pushed, Built, given, nothing, bind, no_value, choice, choices}
use Rattle.g_build_def.specs.Operations.{const_made, bin_made}
use Rattle.g_build_def.specs.Exits.{groups_exits}
use Rattle.g_build_def.specs.Jumps.{break_ended, unless_left}
use Rattle.g_build_def.specs.Switch.{some_segment_has_several, Target, default_target, Label, labels_of, word_difference, moved_where, Selected, labels_made, segment_made, groups_moved, from_made, from_popped, group_made, segments_with, switch_made}
use Rattle.g_build_keeps.proofs.Stands.{Frame, Mark, a_hidden, allowed, with_mark, IsValue, NoValue, SlotsFit, Stands, Made, MadeInside}
use Rattle.g_build_keeps.proofs.Parts.{bind_made, then_made, given_made, nothing_made, AllInside, no_value_fits, choices_made, choice_made}
use Rattle.g_build_keeps.proofs.Operations.{const_ok, bin_ok, AreValues, values_grown, value_then}
use Rattle.g_build_keeps.proofs.PlaceGraphs.{newest_hidden, stands_pushed, stands_popped}
use Rattle.g_build_keeps.proofs.lemmas.Exits.{MayJump}
use Rattle.g_build_keeps.proofs.lemmas.Jumps.{break_ended_ok, unless_left_ok}

-- ---- the number of the segment

moved_where_ok : (f : Frame) (c : Standing) (s : Point) (q : Origin) (d : ℕ) (n : Origin) → Stands f c s → IsValue c q → IsValue c n → Made f IsValue c (moved_where q d n s)
moved_where_ok f c s q d n h x y =
    let k = const_made d s in
    value_then f c k (λ k t. bind (bin_made op.Mul q k t) (λ m u. bin_made op.Add n m u)) (const_ok f c s d h) (λ e z.
    let m = bin_made op.Mul q k.value k.after in
    value_then f e m (λ m u. bin_made op.Add n m u) (bin_ok f e k.after op.Mul q k.value z.stands (z.grown q Value x) z.value) (λ g w.
    bin_ok f g m.after op.Add n m.value w.stands (w.grown n Value (z.grown n Value y)) w.value))

record SelectedFits (c : Standing) (x : Selected) : Type 0 where
  number : IsValue c x.number
  equals : AreValues c x.equals

labels_made_ok : (f : Frame) (c : Standing) (s : Point) (p : Origin) (d : ℕ) (ls : List Label) (n : Origin) → Stands f c s → IsValue c p → IsValue c n → Made f SelectedFits c (labels_made p d ls n s)
labels_made_ok f c s p d [] n h x y = given_made f SelectedFits c s (record { number = n; equals = [] }) h (record { number = y; equals = tt })
labels_made_ok f c s p d (l ∷ ls) n h x y =
    let w = const_made l.word s in
    let q = bin_made op.Eq p w.value w.after in
    let m = moved_where q.value (word_difference l.target.segment d) n q.after in
    let r = labels_made p d ls m.value m.after in
    then_made f IsValue SelectedFits c w
    (λ w t. bind (bin_made op.Eq p w t) (λ q u. bind (moved_where q (word_difference l.target.segment d) n u) (λ m v. bind (labels_made p d ls m v)
    (λ x w2. given (record { number = x.number; equals = q ∷ x.equals }) w2))))
    (const_ok f c s l.word h) (λ d1 x1.
    then_made f IsValue SelectedFits d1 q
    (λ q u. bind (moved_where q (word_difference l.target.segment d) n u) (λ m v. bind (labels_made p d ls m v) (λ x w2. given (record { number = x.number; equals = q ∷ x.equals }) w2)))
    (bin_ok f d1 w.after op.Eq p w.value x1.stands (x1.grown p Value x) x1.value) (λ d2 x2.
    then_made f IsValue SelectedFits d2 m (λ m v. bind (labels_made p d ls m v) (λ x w2. given (record { number = x.number; equals = q.value ∷ x.equals }) w2))
    (moved_where_ok f d2 q.after q.value (word_difference l.target.segment d) n x2.stands x2.value (x2.grown n Value (x1.grown n Value y))) (λ d3 x3.
    then_made f SelectedFits SelectedFits d3 r (λ x w2. given (record { number = x.number; equals = q.value ∷ x.equals }) w2)
    (labels_made_ok f d3 m.after p d ls m.value x3.stands (x3.grown p Value (x2.grown p Value (x1.grown p Value x))) x3.value) (λ d4 x4.
    given_made f SelectedFits d4 r.after (record { number = r.value.number; equals = q.value ∷ r.value.equals }) x4.stands
    (record { number = x4.value.number; equals = (x4.grown q.value Value (x3.grown q.value Value x2.value), x4.value.equals) })))))

segment_made_ok : (f : Frame) (c : Standing) (s : Point) (p : Origin) (d : ℕ) (ls : List Label) → Stands f c s → IsValue c p → Made f SelectedFits c (segment_made p d ls s)
segment_made_ok f c s p d ls h x =
    let n = const_made d s in
    then_made f IsValue SelectedFits c n (λ n t. labels_made p d ls n t) (const_ok f c s d h) (λ e y. labels_made_ok f e n.after p d ls n.value y.stands (y.grown p Value x) y.value)

groups_moved_ok : (f : Frame) (c : Standing) (s : Point) (d : ℕ) (ls : List Label) (qs : List Origin) (n : Origin) → Stands f c s → AreValues c qs → IsValue c n →
    Made f IsValue c (groups_moved d ls qs n s)
groups_moved_ok f c s d [] qs n h x y = given_made f IsValue c s n h y
groups_moved_ok f c s d (l ∷ ls) [] n h x y = given_made f IsValue c s n h y
groups_moved_ok f c s d (l ∷ ls) (q ∷ qs) n h x y =
    let m = moved_where q (word_difference l.target.group d) n s in
    value_then f c m (λ m t. groups_moved d ls qs m t) (moved_where_ok f c s q (word_difference l.target.group d) n h x.0 y) (λ e z.
    groups_moved_ok f e m.after d ls qs m.value z.stands (values_grown c e qs z.grown x.1) z.value)

-- ---- `from`

-- the frame in the regions of a `switch`
abbrev pub from_frame : (several : Bool) → Frame → Frame
from_frame true f = with_mark f a_hidden
from_frame false f = f

from_made_ok : (several : Bool) (f : Frame) (c : Standing) (s : Point) (d : ℕ) (ls : List Label) (qs : List Origin) → Stands f c s → AreValues c qs →
    Made (from_frame several f) NoValue c (from_made several d ls qs s)
from_made_ok false f c s d ls qs h x = nothing_made f c s h
from_made_ok true f c s d ls qs h x =
    let n = const_made d s in
    let m = groups_moved d ls qs n.value n.after in
    bind_made f (with_mark f a_hidden) IsValue NoValue c n (λ n t. bind (groups_moved d ls qs n t) (λ m u. nothing (pushed (hidden m) u))) refl (const_ok f c s d h) (λ d1 x1.
    bind_made f (with_mark f a_hidden) IsValue NoValue d1 m (λ m u. nothing (pushed (hidden m) u)) refl
    (groups_moved_ok f d1 n.after d ls qs n.value x1.stands (values_grown c d1 qs x1.grown x) x1.value) (λ d2 x2.
    nothing_made (with_mark f a_hidden) d2 (pushed (hidden m.value) m.after) (stands_pushed f d2 m.after a_hidden (hidden m.value) x2.stands x2.value)))

from_popped_stands : (several : Bool) (f : Frame) (c : Standing) (s : Point) → Stands (from_frame several f) c s → Stands f c (from_popped several s)
from_popped_stands false f c s h = h
from_popped_stands true f c s h = stands_popped f c s a_hidden h

-- ---- regions

-- where `from` is asked for, it is the newest
abbrev pub HasFrom : Bool → Frame → Type 0
HasFrom b f = b ≡ true → (ms : List Mark) × (f.marks ≡ ms ++ a_hidden ∷ [])

group_made_ok : (f : Frame) (c : Standing) (s : Point) (g : ℕ) (k : Point → Built (Unit {0})) → HasFrom true f → Stands f c s → MadeInside f NoValue k → Made f NoValue c (group_made g k s)
group_made_ok f c s g k from h inner =
    let w = const_made (suc g) s in
    let is_hidden = from refl in
    let value : (d : Standing) → Stands f d w.after → IsValue d (slot_origin (newest w.after.carried.variables)) =
    λ d x. newest_hidden f.objects d is_hidden.0 w.after.carried.variables (subst (λ ms. SlotsFit f.objects d ms w.after.carried.variables) is_hidden.1 x.slots) in
    let p = bin_made op.Sltu (slot_origin (newest w.after.carried.variables)) w.value w.after in
    then_made f IsValue NoValue c w (λ k2 t. bind (bin_made op.Sltu (slot_origin (newest t.carried.variables)) k2 t) (λ p u. choice no_value u p nothing k)) (const_ok f c s (suc g) h) (λ d1 x1.
    then_made f IsValue NoValue d1 p (λ p u. choice no_value u p nothing k)
    (bin_ok f d1 w.after op.Sltu (slot_origin (newest w.after.carried.variables)) w.value x1.stands (value d1 x1.stands) x1.value) (λ d2 x2.
    choice_made f NoValue NoValue d2 p.after no_value [] p.value nothing k x2.stands x2.value (no_value_fits f d2 p.after.next) (λ d t y. nothing_made f d t y) inner))

pub segments_with_ok : (f : Frame) (begins ends : Bool) (g : ℕ) (l : Bool) (k : Point → Built (Unit {0})) (later : List (Point → Built (Unit {0}))) → HasFrom (not begins || not ends) f →
    MayJump f.form l →
    MadeInside f NoValue k → AllInside f NoValue later → AllInside f NoValue (segments_with begins ends g l k later)
segments_with_ok f true true g l k later from m a b = (a, b)
segments_with_ok f false true g l k later from m a b = (λ c s h. group_made_ok f c s g k from h a, b)
segments_with_ok f true false g l k [] from m a b = (λ c s h. group_made_ok f c s g k from h a, tt)
segments_with_ok f false false g l k [] from m a b = (λ c s h. group_made_ok f c s g k from h a, tt)
segments_with_ok f true false g l k (rest ∷ later) from m a b = (
  λ c s h. then_made f NoValue NoValue c (group_made g k s) (λ _ t. unless_left l rest t) (group_made_ok f c s g k from h a)
      (λ d x. unless_left_ok f d (group_made g k s).after l rest m x.stands b.0),
  b.1,
)
segments_with_ok f false false g l k (rest ∷ later) from m a b = (
  λ c s h. then_made f NoValue NoValue c (group_made g k s) (λ _ t. unless_left l rest t) (group_made_ok f c s g k from h a)
      (λ d x. unless_left_ok f d (group_made g k s).after l rest m x.stands b.0),
  b.1,
)

-- ---- the whole

and_nothing : (f : Frame) (gs : List (Point → Built (Unit {0}))) → AllInside f NoValue gs → AllInside f NoValue (gs ++ nothing ∷ [])
and_nothing f [] h = (λ c s k. nothing_made f c s k, tt)
and_nothing f (g ∷ gs) h = (h.0, and_nothing f gs h.1)

some_choices : (f : Frame) (c : Standing) (s : Point) (p : Origin) (gs : List (Point → Built (Unit {0}))) → Stands f c s → IsValue c p → AllInside f NoValue gs →
    Made f NoValue c (choices no_value s p (gs ++ nothing ∷ []))
some_choices f c s p [] h x inner = choices_made f NoValue NoValue c s no_value [] p nothing [] h x (no_value_fits f c s.next) (and_nothing f [] inner)
some_choices f c s p (g ∷ gs) h x inner = choices_made f NoValue NoValue c s no_value [] p g (gs ++ nothing ∷ []) h x (no_value_fits f c s.next) (and_nothing f (g ∷ gs) inner)

chosen_ok : (several : Bool) (f : Frame) (c : Standing) (s : Point) (p : Origin) (d : Target) (ls : List Label) (leaves : Bool) (fs : List (Point → Built (Unit {0}))) → Stands f c s → IsValue c p →
    MayJump f.form leaves →
    allowed f ≡ allowed (from_frame several f) → AllInside (from_frame several f) NoValue fs →
    Made f NoValue c
    (bind (segment_made p d.segment ls s) (λ x t. bind (from_made several d.group ls x.equals t) (λ _ u. bind (choices no_value u x.number (fs ++ nothing ∷ []))
    (λ _ v. break_ended leaves (from_popped several v)))))
chosen_ok several f c s p d ls leaves fs h x m same inner =
    let g = from_frame several f in
    let n = segment_made p d.segment ls s in
    let b = from_made several d.group ls n.value.equals n.after in
    let r = choices no_value b.after n.value.number (fs ++ nothing ∷ []) in
    then_made f SelectedFits NoValue c n
    (λ x t. bind (from_made several d.group ls x.equals t) (λ _ u. bind (choices no_value u x.number (fs ++ nothing ∷ [])) (λ _ v. break_ended leaves (from_popped several v))))
    (segment_made_ok f c s p d.segment ls h x) (λ d1 x1.
    bind_made g f NoValue NoValue d1 b (λ _ u. bind (choices no_value u n.value.number (fs ++ nothing ∷ [])) (λ _ v. break_ended leaves (from_popped several v))) (sym same)
    (from_made_ok several f d1 n.after d.group ls n.value.equals x1.stands x1.value.equals) (λ d2 x2.
    bind_made g f NoValue NoValue d2 r (λ _ v. break_ended leaves (from_popped several v)) (sym same)
    (some_choices g d2 b.after n.value.number fs x2.stands (x2.grown n.value.number Value x1.value.number) inner) (λ d3 x3.
    break_ended_ok f d3 (from_popped several r.after) leaves m (from_popped_stands several f d3 r.after x3.stands))))

same_allowed : (several : Bool) (f : Frame) → allowed f ≡ allowed (from_frame several f)
same_allowed true f = refl
same_allowed false f = refl

pub switch_made_ok : (f : Frame) (c : Standing) (s : Point) (p : Origin) (gs : GroupTrees) (fs : List (Point → Built (Unit {0}))) → Stands f c s → IsValue c p →
    MayJump f.form (groups_exits gs).breaks →
    AllInside (from_frame (some_segment_has_several gs) f) NoValue fs → Made f NoValue c (switch_made p gs fs s)
switch_made_ok f c s p no_groups fs h x m inner = nothing_made f c s h
switch_made_ok f c s p (group_then cases d is gs) fs h x m inner =
    let whole = group_then cases d is gs in
    chosen_ok (some_segment_has_several whole) f c s p (default_target 0 0 whole) (labels_of 0 0 whole) (groups_exits whole).breaks fs h x m (same_allowed (some_segment_has_several whole) f) inner
