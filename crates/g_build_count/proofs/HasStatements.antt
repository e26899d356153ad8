-- How many values the construction of a statement has.
use Rattle.std.proofs.Common.{◌≡◌, ℕ, suc, ◌+◌, ◌*◌, Bool, true, false, ◌&&◌, not, List, [], ◌∷◌, ◌++◌, map, length, refl, sym, ap, ◌∙◌, arith, length-append}
use Rattle.std.proofs.lemmas.List.{length-map}
use Rattle.std.specs.Prelude.{if◌then◌else◌}
use Rattle.std.proofs.Math.Bool.{or-true}
use Rattle.val_core.specs.declared.operation.Op2.TheVariants as op
use Rattle.c_typed.specs.Typed.{ExprTree, StmtTree, null, value, block, if_else, loop, do_while, break, continue, return_value, return_none, switch, ItemTrees, no_items, stmt_then, declare_then, GroupTrees, no_groups, group_then, VariableTree}
use Rattle.g_graph.specs.declared.op.Origin.{Origin}
use Rattle.g_build_def.specs.Writer.{hidden, newest, slot_origin, Point, pushed, Built, given, nothing, bind, no_value, choice, choices, choice_one_first}
use Rattle.g_build_def.specs.Operations.{const_made, undef_made, bin_made}
use Rattle.g_build_def.specs.Expressions.{expr_made, tested}
use Rattle.g_build_def.specs.Exits.{stmt_exits, items_exits, groups_exits, can_leave, some_items}
use Rattle.g_build_def.specs.Jumps.{return_made, break_ended, unless_left}
use Rattle.g_build_def.specs.Switch.{ends_with_jump, ends_segment, next_segment, some_segment_has_several, Target, default_target, Label, labels_of, word_difference, moved_where, Selected, labels_made, segment_made, groups_moved, from_made, group_made, segments_with, chosen_made}
use Rattle.g_build_def.specs.Statements.{declared_made, stmt_made, items_made, segments_made}
use Rattle.g_build_def.proofs.lemmas.Later.{EachKeeps}
use Rattle.g_build_def.proofs.lemmas.Programs.{values_in, values_append}
use Rattle.g_build_def.proofs.lemmas.LaterStatements.{chosen_end, chosen_end_later, items_later, segments_later}
use Rattle.g_build_count.specs.Values.{choice_values, expr_values, leaving_values, jump_ended_values, declared_object, label_count, segment_count, group_values, selected_values, segments_values, with_from, stmt_values, items_values, groups_values}
use Rattle.g_build_count.proofs.Has.{Seen, Sees, Has, Counts, has_equal, given_has, bind_has, dropped_has, no_value_gives, choice_has, choice_one_first_has, EachCounts, total, choices_has}
use Rattle.g_build_count.proofs.HasExpressions.{const_has, bin_has, expr_has, tested_has}
use Rattle.g_build_count.proofs.HasDeclarations.{sees_later, seen_more, seen_hidden, hidden_pushed, undef_has, jump_has, return_has, break_ended_has, unless_left_has, loop_has, do_has, declared_has}

-- ---- switch

moved_has : (v : Seen) (q : Origin) (d : ℕ) (n : Origin) → Counts 6 v (moved_where q d n)
moved_has v q d n s h =
    bind_has v v (const_made d s) (λ k t. bind (bin_made op.Mul q k t) (λ m u. bin_made op.Add n m u)) (const_has v d s h)
    (λ k t a. bind_has v v (bin_made op.Mul q k t) (λ m u. bin_made op.Add n m u) (bin_has v op.Mul q k t a) (λ m. bin_has v op.Add n m))

labels_has : (v : Seen) (p : Origin) (d : ℕ) (ls : List Label) (n : Origin) → Counts (10 * length ls) v (labels_made p d ls n)
labels_has v p d [] n s h = given_has v (record { number = n; equals = [] }) s h
labels_has v p d (l ∷ ls) n s h =
    let k : ℕ = word_difference l.target.segment d in
    let e : 2 + (2 + (6 + (10 * length ls + 0))) ≡ 10 * length (l ∷ ls) = omega arith in
    has_equal (2 + (2 + (6 + (10 * length ls + 0)))) (10 * length (l ∷ ls)) v (labels_made p d (l ∷ ls) n s) e
    (bind_has v v (const_made l.word s)
    (λ w t.
    bind (bin_made op.Eq p w t)
    (λ q u. bind (moved_where q k n u) (λ m x. bind (labels_made p d ls m x) (λ y z. given (record { number = y.number; equals = q ∷ y.equals }) z))))
    (const_has v l.word s h)
    (λ w t a.
    bind_has v v (bin_made op.Eq p w t)
    (λ q u. bind (moved_where q k n u) (λ m x. bind (labels_made p d ls m x) (λ y z. given (record { number = y.number; equals = q ∷ y.equals }) z)))
    (bin_has v op.Eq p w t a)
    (λ q u b.
    bind_has v v (moved_where q k n u) (λ m x. bind (labels_made p d ls m x) (λ y z. given (record { number = y.number; equals = q ∷ y.equals }) z))
    (moved_has v q k n u b)
    (λ m x c.
    bind_has v v (labels_made p d ls m x) (λ y z. given (record { number = y.number; equals = q ∷ y.equals }) z) (labels_has v p d ls m x c)
    (λ y z f. given_has v (record { number = y.number; equals = q ∷ y.equals }) z f)))))

equals_counted : (p : Origin) (d : ℕ) (ls : List Label) (n : Origin) (s : Point) → length (labels_made p d ls n s).value.equals ≡ length ls
equals_counted p d [] n s = refl
equals_counted p d (l ∷ ls) n s =
    let w : Built Origin = const_made l.word s in
    let q : Built Origin = bin_made op.Eq p w.value w.after in
    let m : Built Origin = moved_where q.value (word_difference l.target.segment d) n q.after in ap suc (equals_counted p d ls m.value m.after)

segment_has : (v : Seen) (p : Origin) (d : ℕ) (ls : List Label) → Counts (2 + 10 * length ls) v (segment_made p d ls)
segment_has v p d ls s h = bind_has v v (const_made d s) (λ n t. labels_made p d ls n t) (const_has v d s h) (λ n. labels_has v p d ls n)

groups_moved_has : (v : Seen) (d : ℕ) (ls : List Label) (qs : List Origin) (n : Origin) → length qs ≡ length ls → Counts (6 * length ls) v (groups_moved d ls qs n)
groups_moved_has v d [] qs n e s h = given_has v n s h
groups_moved_has v d (l ∷ ls) [] n e s h = let no : ⊥ = omega (arith, e) in absurd no
groups_moved_has v d (l ∷ ls) (q ∷ qs) n e s h =
    let k : ℕ = word_difference l.target.group d in
    let x : 6 + 6 * length ls ≡ 6 * length (l ∷ ls) = omega arith in
    let f : length qs ≡ length ls = omega (arith, e) in
    has_equal (6 + 6 * length ls) (6 * length (l ∷ ls)) v (groups_moved d (l ∷ ls) (q ∷ qs) n s) x
    (bind_has v v (moved_where q k n s) (λ m t. groups_moved d ls qs m t) (moved_has v q k n s h) (λ m. groups_moved_has v d ls qs m f))

-- `from` is one more variable without a slot
abbrev seen_from : Bool → Seen → Seen
seen_from true v = seen_hidden v
seen_from false v = v

abbrev from_values : Bool → ℕ → ℕ
from_values several n = if several then 2 + 6 * n else 0

from_has : (v : Seen) (several : Bool) (d : ℕ) (ls : List Label) (qs : List Origin) (s : Point) → length qs ≡ length ls → Sees v s →
    Has (from_values several (length ls)) (seen_from several v) (from_made several d ls qs s)
from_has v false d ls qs s e h = given_has v tt s h
from_has v true d ls qs s e h =
    let w : Seen = seen_hidden v in
    let x : 2 + (6 * length ls + 0) ≡ 2 + 6 * length ls = omega arith in
    has_equal (2 + (6 * length ls + 0)) (2 + 6 * length ls) w (from_made true d ls qs s) x
    (bind_has v w (const_made d s) (λ n t. bind (groups_moved d ls qs n t) (λ m u. nothing (pushed (hidden m) u))) (const_has v d s h)
    (λ n t a.
    bind_has v w (groups_moved d ls qs n t) (λ m u. nothing (pushed (hidden m) u)) (groups_moved_has v d ls qs n e t a)
    (λ m u b. given_has w tt (pushed (hidden m) u) (hidden_pushed v u m b))))

group_has : (v : Seen) (n g : ℕ) (f : Point → Built (Unit {0})) → Counts n v f → Counts (2 + (2 + choice_values v.carried 0 0 n)) v (group_made g f)
group_has v n g f c s h =
    bind_has v v (const_made (suc g) s)
    (λ k t. bind (bin_made op.Sltu (slot_origin (newest t.carried.variables)) k t) (λ p u. choice no_value u p nothing f)) (const_has v (suc g) s h)
    (λ k t a.
    bind_has v v (bin_made op.Sltu (slot_origin (newest t.carried.variables)) k t) (λ p u. choice no_value u p nothing f)
    (bin_has v op.Sltu (slot_origin (newest t.carried.variables)) k t a) (λ p u b. choice_has v no_value 0 u p nothing f no_value_gives b (given_has v tt) c))

-- functions that have so many values together, and are so many
record HaveTogether (n : ℕ) (k : ℕ) (v : Seen) (fs : List (Point → Built (Unit {0}))) : Type 0 where
  counts : List ℕ
  each : EachCounts v fs counts
  together : total counts ≡ n
  number : length fs ≡ k

abbrev IsCons : {A : Type 0} → List A → Type 0
IsCons [] = ⊥
IsCons (x ∷ xs) = Unit {0}

abbrev one_if_true : Bool → ℕ
one_if_true b = if b then 1 else 0

together_joined : (v : Seen) (g : ℕ) (l : Bool) (f r : Point → Built (Unit {0})) (fs : List (Point → Built (Unit {0}))) (n m : ℕ) (ns : List ℕ) → Counts n v f →
    EachCounts v (r ∷ fs) ns → total ns ≡ m →
    HaveTogether (group_values v.carried false l n + m) (length (r ∷ fs)) v ((λ s. bind (group_made g f s) (λ _ t. unless_left l r t)) ∷ fs)
together_joined v g l f r fs n m [] c h t = absurd h
together_joined v g l f r fs n m (a ∷ ns) c h t =
    let x : ℕ = 2 + (2 + choice_values v.carried 0 0 n) + (leaving_values v.carried l + a) in
    record {
      counts = x ∷ ns;
      each =
          ((λ s k. bind_has v v (group_made g f s) (λ _ u. unless_left l r u) (group_has v n g f c s k) (λ _ u i. unless_left_has v a l r h.0 u i)), h.1);
      together = omega (arith, t);
      number = refl;
    }

segments_joined : (v : Seen) (g : ℕ) (l : Bool) (f r : Point → Built (Unit {0})) (fs : List (Point → Built (Unit {0}))) (n m k : ℕ) → Counts n v f →
    HaveTogether m k v (r ∷ fs) → HaveTogether (group_values v.carried false l n + m) (0 + k) v ((λ s. bind (group_made g f s) (λ _ t. unless_left l r t)) ∷ fs)
segments_joined v g l f r fs n m k c h =
    let made = together_joined v g l f r fs n m h.counts c h.each h.together in
    let q = h.number in record { counts = made.counts; each = made.each; together = made.together; number = omega (arith, q) }

segments_have : (v : Seen) (begins ends : Bool) (g : ℕ) (l : Bool) (f : Point → Built (Unit {0})) (fs : List (Point → Built (Unit {0}))) (n m k : ℕ) →
    (ends ≡ false → IsCons fs) → Counts n v f → HaveTogether m k v fs →
    HaveTogether (group_values v.carried (begins && ends) (not ends && l) n + m) (one_if_true ends + k) v (segments_with begins ends g l f fs)
segments_have v true true g l f fs n m k e c h =
    let t = h.together in
    let q = h.number in record { counts = n ∷ h.counts; each = (c, h.each); together = omega (arith, t); number = omega (arith, q) }
segments_have v false true g l f fs n m k e c h =
    let x : ℕ = 2 + (2 + choice_values v.carried 0 0 n) in
    let t = h.together in
    let q = h.number in record { counts = x ∷ h.counts; each = (group_has v n g f c, h.each); together = omega (arith, t); number = omega (arith, q) }
segments_have v true false g l f [] n m k e c h = absurd (e refl)
segments_have v false false g l f [] n m k e c h = absurd (e refl)
segments_have v true false g l f (r ∷ fs) n m k e c h = segments_joined v g l f r fs n m k c h
segments_have v false false g l f (r ∷ fs) n m k e c h = segments_joined v g l f r fs n m k c h

with_nothing : (v : Seen) (fs : List (Point → Built (Unit {0}))) (ns : List ℕ) → EachCounts v fs ns → EachCounts v (fs ++ nothing ∷ []) (ns ++ 0 ∷ [])
with_nothing v [] [] h = (given_has v tt, tt)
with_nothing v [] (n ∷ ns) h = absurd h
with_nothing v (f ∷ fs) [] h = absurd h
with_nothing v (f ∷ fs) (n ∷ ns) h = (h.0, with_nothing v fs ns h.1)

total_with_nothing : (ns : List ℕ) → total (ns ++ 0 ∷ []) ≡ total ns
total_with_nothing [] = refl
total_with_nothing (n ∷ ns) = ap (λ m. n + m) (total_with_nothing ns)

labels_counted : (k g : ℕ) (gs : GroupTrees) → length (labels_of k g gs) ≡ label_count gs
labels_counted k g no_groups = refl
labels_counted k g (group_then cases d is gs) =
    let rest = labels_counted (next_segment k is gs) (suc g) gs in
    let one = length-append {A = Label} (map (λ w. record { word = w; target = record { segment = k; group = g } }) cases) (labels_of (next_segment k is gs) (suc g) gs) in
    let here = length-map {B = Label} cases (λ w. record { word = w; target = record { segment = k; group = g } }) in omega (arith, rest, one, here)

from_carried : (several : Bool) (v : Seen) → (seen_from several v).carried ≡ with_from several v.carried
from_carried true v = refl
from_carried false v = refl

choices_sum : (a k m : ℕ) → 1 + (0 + a) + (suc k * (1 + 2 * a + 0) + m) ≡ segments_values a k + m
choices_sum a k m = let e : 1 + 2 * a + 0 ≡ 1 + 2 * a = omega arith in let p = ap (λ y. suc k * y) e in omega (arith, p)

-- the regions of the segments, and one with nothing
segments_counted : (v : Seen) (several : Bool) (s : Point) (p : Origin) (f : Point → Built (Unit {0})) (fs : List (Point → Built (Unit {0}))) (m k : ℕ) →
    Sees (seen_from several v) s → HaveTogether m k (seen_from several v) (f ∷ fs) →
    values_in (choices no_value s p (f ∷ (fs ++ nothing ∷ []))).nodes ≡ segments_values (with_from several v.carried) k + m
segments_counted v several s p f fs m k sees h =
    let w : Seen = seen_from several v in
    let ns : List ℕ = h.counts ++ 0 ∷ [] in
    let made = choices_has w no_value 0 s p f (fs ++ nothing ∷ []) ns no_value_gives sees (with_nothing w (f ∷ fs) h.counts h.each) in
    let joined = length-append fs (nothing ∷ []) in
    let number = h.number in
    let many : length (fs ++ nothing ∷ []) ≡ k = omega (arith, joined, number) in
    let sum : total ns ≡ m = total_with_nothing h.counts ∙ h.together in
    made.values ∙ ap (λ z. 1 + (0 + w.carried) + (suc z * (1 + 2 * w.carried + 0) + total ns)) many
    ∙ ap (λ z. 1 + (0 + w.carried) + (suc k * (1 + 2 * w.carried + 0) + z)) sum ∙ choices_sum w.carried k m
    ∙ ap (λ z. segments_values z k + m) (from_carried several v)

-- a `switch` with groups, after its value
chosen_has : (v : Seen) (p : Origin) (gs : GroupTrees) (f : Point → Built (Unit {0})) (fs : List (Point → Built (Unit {0}))) (m k : ℕ) → EachKeeps (f ∷ fs) →
    HaveTogether m k (seen_from (some_segment_has_several gs) v) (f ∷ fs) →
    Counts
    (selected_values (some_segment_has_several gs) (label_count gs)
    + segments_values (with_from (some_segment_has_several gs) v.carried) k
    + m
    + jump_ended_values (groups_exits gs).breaks) v (chosen_made p gs (f ∷ fs))
chosen_has v p gs f fs m k keep h s sees =
    let several : Bool = some_segment_has_several gs in
    let d : Target = default_target 0 0 gs in
    let ls : List Label = labels_of 0 0 gs in
    let x : Built Selected = segment_made p d.segment ls s in
    let i : Built (Unit {0}) = from_made several d.group ls x.value.equals x.after in
    let c : Built (Unit {0}) = choices no_value i.after x.value.number (f ∷ (fs ++ nothing ∷ [])) in
    let e : Point = chosen_end p gs (f ∷ fs) s in
    let b : Built (Unit {0}) = break_ended (groups_exits gs).breaks e in
    let n : Built Origin = const_made d.segment s in
    let same : length x.value.equals ≡ length ls = equals_counted p d.segment ls n.value n.after in
    let number = segment_has v p d.segment ls s sees in
    let begun = from_has v several d.group ls x.value.equals x.after same number.sees in
    let ended = break_ended_has v (groups_exits gs).breaks e (sees_later v s e (chosen_end_later p gs (f ∷ fs) keep s) sees) in
    let labels : length ls ≡ label_count gs = labels_counted 0 0 gs in
    let first : values_in x.nodes ≡ 2 + 10 * label_count gs = number.values ∙ ap (λ a. 2 + 10 * a) labels in
    let second : values_in i.nodes ≡ from_values several (label_count gs) = begun.values ∙ ap (from_values several) labels in
    let third = segments_counted v several i.after x.value.number f fs m k begun.sees h in
    let fourth = ended.values in
    let one = values_append x.nodes (i.nodes ++ (c.nodes ++ b.nodes)) in
    let two = values_append i.nodes (c.nodes ++ b.nodes) in
    let three = values_append c.nodes b.nodes in
    record { values = omega (arith, one, two, three, first, second, third, fourth); sees = ended.sees }

chosen_with : (v : Seen) (p : Origin) (gs : GroupTrees) (fs : List (Point → Built (Unit {0}))) (m k : ℕ) → IsCons fs → EachKeeps fs →
    HaveTogether m k (seen_from (some_segment_has_several gs) v) fs →
    Counts
    (selected_values (some_segment_has_several gs) (label_count gs)
    + segments_values (with_from (some_segment_has_several gs) v.carried) k
    + m
    + jump_ended_values (groups_exits gs).breaks) v (chosen_made p gs fs)
chosen_with v p gs [] m k some keep h = absurd some
chosen_with v p gs (f ∷ fs) m k some keep h = chosen_has v p gs f fs m k keep h

from_objects : (several : Bool) (v : Seen) → (seen_from several v).objects ≡ v.objects
from_objects true v = refl
from_objects false v = refl

segments_are_some : (begins ends : Bool) (g : ℕ) (l : Bool) (f : Point → Built (Unit {0})) (fs : List (Point → Built (Unit {0}))) → IsCons (segments_with begins ends g l f fs)
segments_are_some true true g l f fs = tt
segments_are_some false true g l f fs = tt
segments_are_some true false g l f [] = tt
segments_are_some false false g l f [] = tt
segments_are_some true false g l f (r ∷ fs) = tt
segments_are_some false false g l f (r ∷ fs) = tt

others_follow : (vs : List VariableTree) (b : Bool) (g : ℕ) (is : ItemTrees) (gs : GroupTrees) → ends_segment is gs ≡ false → IsCons (segments_made vs b g gs)
others_follow vs b g is no_groups e = let no : true ≡ false = sym (or-true (ends_with_jump is)) ∙ e in cc
others_follow vs b g is (group_then cases d js gs) e =
    segments_are_some b (ends_segment js gs) g (can_leave (items_exits js)) (items_made vs js) (segments_made vs (ends_segment js gs) (suc g) gs)

switch_has : (v : Seen) (vs : List VariableTree) (e : ExprTree) (gs : GroupTrees) →
    ((w : Seen) → HaveTogether (groups_values vs w.carried w.objects true gs) (segment_count gs) w (segments_made vs true 0 gs)) →
    Counts (stmt_values vs v.carried v.objects (switch e gs)) v (stmt_made vs (switch e gs))
switch_has v vs e no_groups each s h =
    let n : ℕ = expr_values v.carried v.objects e in
    let q : n + 0 ≡ n = omega arith in
    has_equal (n + 0) n v (stmt_made vs (switch e no_groups) s) q (bind_has v v (expr_made e s) (λ p t. nothing t) (expr_has v e s h) (λ p t k. given_has v tt t k))
switch_has v vs e (group_then cases d is gs) each s h =
    let all : GroupTrees = group_then cases d is gs in
    let several : Bool = some_segment_has_several all in
    let w : Seen = seen_from several v in
    let fs : List (Point → Built (Unit {0})) = segments_made vs true 0 all in
    let some : IsCons fs =
    segments_are_some true (ends_segment is gs) 0 (can_leave (items_exits is)) (items_made vs is) (segments_made vs (ends_segment is gs) 1 gs) in
    let m : ℕ = groups_values vs w.carried w.objects true all in
    let c : ℕ = with_from several v.carried in
    let x : ℕ = selected_values several (label_count all) in
    let y : ℕ = segments_values c (segment_count all) in
    let z : ℕ = jump_ended_values (groups_exits all).breaks in
    let n : ℕ = expr_values v.carried v.objects e in
    let made =
    bind_has v v (expr_made e s) (λ p t. chosen_made p all fs t) (expr_has v e s h)
    (λ p. chosen_with v p all fs m (segment_count all) some (segments_later vs true 0 all) (each w)) in
    let same : m ≡ groups_values vs c v.objects true all =
    ap (λ a. groups_values vs a w.objects true all) (from_carried several v) ∙ ap (λ os. groups_values vs c os true all) (from_objects several v) in
    let sum : n + (x + y + m + z) ≡ n + x + y + groups_values vs c v.objects true all + z = omega (arith, same) in
    has_equal (n + (x + y + m + z)) (n + x + y + groups_values vs c v.objects true all + z) v (stmt_made vs (switch e all) s) sum made

-- ---- statements

mutual
  pub stmt_has : (v : Seen) (vs : List VariableTree) (a : StmtTree) → Counts (stmt_values vs v.carried v.objects a) v (stmt_made vs a)
  stmt_has v vs null s h = given_has v tt s h
  stmt_has v vs (value e) s h = dropped_has v (expr_made e s) (expr_has v e s h)
  stmt_has v vs (block is) s h = items_have v vs is s h
  stmt_has v vs (if_else e a b) s h =
      bind_has v v (tested e s) (λ p t. choice_one_first no_value t p (stmt_made vs b) (stmt_made vs a)) (tested_has v e s h)
      (λ p t k. choice_one_first_has v t p (stmt_made vs b) (stmt_made vs a) k (stmt_has v vs b) (stmt_has v vs a))
  stmt_has v vs (loop d step a) s h = loop_has v (stmt_values vs v.carried v.objects a) d step (can_leave (stmt_exits a)) (stmt_made vs a) (stmt_has v vs a) s h
  stmt_has v vs (do_while a e) s h = do_has v (stmt_values vs v.carried v.objects a) e (can_leave (stmt_exits a)) (stmt_made vs a) (stmt_has v vs a) s h
  stmt_has v vs break s h = jump_has v 1 s h
  stmt_has v vs continue s h = jump_has v 2 s h
  stmt_has v vs (return_value e) s h = bind_has v v (expr_made e s) return_made (expr_has v e s h) (return_has v)
  stmt_has v vs return_none s h = bind_has v v (undef_made s) return_made (undef_has v s h) (return_has v)
  stmt_has v vs (switch e gs) s h = switch_has v vs e gs (λ w. segments_counts w vs true 0 gs) s h

  pub items_have : (v : Seen) (vs : List VariableTree) (is : ItemTrees) → Counts (items_values vs v.carried v.objects is) v (items_made vs is)
  items_have v vs no_items s h = given_has v tt s h
  items_have v vs (stmt_then a is) s h =
      let l : Bool = can_leave (stmt_exits a) && some_items is in
      bind_has v v (stmt_made vs a s) (λ _ t. unless_left l (items_made vs is) t) (stmt_has v vs a s h)
      (λ _ t k. unless_left_has v (items_values vs v.carried v.objects is) l (items_made vs is) (items_have v vs is) t k)
  items_have v vs (declare_then d is) s h =
      let w : Seen = seen_more (declared_object vs d) v in
      let a : Built (Unit {0}) = declared_made vs d s in
      let b : Built (Unit {0}) = items_made vs is a.after in
      let first = declared_has v vs d s h in
      let second = (items_have w vs is a.after first.sees).values in
      let begun = first.values in
      let one = values_append a.nodes (b.nodes ++ []) in
      let two = values_append b.nodes [] in
      record {
        values = omega (arith, one, two, begun, second);
        sees = sees_later v s (items_made vs (declare_then d is) s).after (items_later vs (declare_then d is) s) h;
      }

  segments_counts : (v : Seen) (vs : List VariableTree) (begins : Bool) (g : ℕ) (gs : GroupTrees) →
      HaveTogether (groups_values vs v.carried v.objects begins gs) (segment_count gs) v (segments_made vs begins g gs)
  segments_counts v vs begins g no_groups = record { counts = []; each = tt; together = refl; number = refl }
  segments_counts v vs begins g (group_then cases d is gs) =
      let ends : Bool = ends_segment is gs in
      segments_have v begins ends g (can_leave (items_exits is)) (items_made vs is) (segments_made vs ends (suc g) gs) (items_values vs v.carried v.objects is)
      (groups_values vs v.carried v.objects ends gs) (segment_count gs) (others_follow vs ends (suc g) is gs) (items_have v vs is) (segments_counts v vs ends (suc g) gs)
