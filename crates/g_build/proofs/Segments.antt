-- The segments of a `switch`.
use Rattle.std.proofs.Common.{◌≡◌, ℕ, zero, suc, ◌+◌, ◌≤◌, ◌<◌, cond, Bool, true, false, List, [], ◌∷◌, ◌++◌, append_assoc, map, drop, length, refl, sym, ap, ◌∙◌, arith}
use Rattle.std.specs.Prelude.{None, not, ◌||◌, min}
use Rattle.std.proofs.lemmas.List.{append-nil}
use Rattle.c_typed.specs.Typed.{ItemTrees, GroupTrees, no_groups, group_then, VariableTree}
use Rattle.g_graph.specs.declared.op.Op.TheVariants.{Gamma}
use Rattle.g_graph.specs.declared.op.Origin.{Origin}
use Rattle.g_build_def.specs.Writer.{Carried, Point, Built, given, nothing, bind, no_value, inside, regions_made, region_made, choices}
use Rattle.g_build_def.specs.Exits.{Exits, either_exits, items_exits, groups_exits, can_leave}
use Rattle.g_build_def.specs.Jumps.{unless_left, break_ended}
use Rattle.g_build_def.specs.Switch as s
use Rattle.g_build_def.specs.Switch.{some_groups, ends_segment, some_segment_has_several, segments_with, group_made, groups_moved}
use Rattle.g_build_def.specs.Statements.{items_made, segments_made}
use Rattle.g_build_def.proofs.lemmas.Later.{Keeps, EachKeeps, later_here}
use Rattle.g_build_count.specs.Values.{first_ends}
use Rattle.g_build_count.proofs.lemmas.Steps.{either_assoc}
use Rattle.g_build_expression.specs.declared.choices.RegionOrder.TheVariants.{ZeroFirst}
use Rattle.g_build_expression.specs.Work.{Enclosing, Work, made, moved_to, begun, closed, with_regions}
use Rattle.g_build_expression.specs.Choices.{chosen}
use Rattle.g_build_expression.proofs.lemmas.Made.{Makes, bind_makes, made_given}
use Rattle.g_build_expression.proofs.lemmas.Choices.{open_in, close_from, end_from, gamma_enclosing}
use Rattle.c_typed.specs.StmtViews.{items_of, groups_of}
use Rattle.c_typed.specs.declared.statement.Group.{Group}
use Rattle.g_build.specs.LabelParts.{segment_chosen}
use Rattle.g_build.specs.Segments.{first_region, regions_closed, segment_exits, pending_regions, later_exits, pending_exits}

abbrev Part : Type 0
Part = Point → Built (Unit {0})

-- ---- labels

pub several_step : (all : GroupTrees) (r : Bool) → r ≡ first_ends all → r ≡ true → (rest : GroupTrees) (c : List ℕ) (d : Bool) (is : ItemTrees) → all ≡ group_then c d is rest →
    some_segment_has_several all ≡ some_segment_has_several rest
several_step all r h k rest c d is e =
    let ends : ends_segment is rest ≡ true = sym (ap first_ends e) ∙ sym h ∙ k in ap some_segment_has_several e ∙ ap (λ b. not b || some_segment_has_several rest) ends

moved_none : (ls : List s.Label) (d : ℕ) (n : Origin) (p : Point) → groups_moved d ls [] n p ≡ given n p
moved_none [] d n p = refl
moved_none (l ∷ ls) d n p = refl

pub moved_end : (ls : List s.Label) (qs : List Origin) (k d : ℕ) (n : Origin) (p : Point) → min (length ls) (length qs) ≤ k → groups_moved d (drop k ls) (drop k qs) n p ≡ given n p
moved_end [] qs zero d n p h = refl
moved_end [] qs (suc k) d n p h = refl
moved_end (l ∷ ls) [] zero d n p h = refl
moved_end (l ∷ ls) [] (suc k) d n p h = moved_none (drop k ls) d n p
moved_end (l ∷ ls) (q ∷ qs) zero d n p h = absurd (omega (arith, h))
moved_end (l ∷ ls) (q ∷ qs) (suc k) d n p h = moved_end ls qs k d n p (omega (arith, h))

pub drop_map : {X Y : Type 0} → (f : X → Y) (xs : List X) (k : ℕ) → map f (drop k xs) ≡ drop k (map f xs)
drop_map f xs zero = refl
drop_map f [] (suc k) = refl
drop_map f (x ∷ xs) (suc k) = drop_map f xs k

-- ---- segments

pub with_cons : (b e : Bool) (g : ℕ) (l : Bool) (f : Part) (later : List Part) →
    segments_with b e g l f later ≡ first_region (segments_with b e g l f later) ∷ pending_regions false (segments_with b e g l f later)
with_cons true true g l f later = refl
with_cons false true g l f later = refl
with_cons true false g l f [] = refl
with_cons false false g l f [] = refl
with_cons true false g l f (x ∷ xs) = refl
with_cons false false g l f (x ∷ xs) = refl

with_more : (b : Bool) (g : ℕ) (l : Bool) (f : Part) (later : List Part) (x : Part) (xs : List Part) → later ≡ x ∷ xs →
    pending_regions false (segments_with b false g l f later) ≡ pending_regions false later
with_more true g l f later x xs e = ap (λ ys. pending_regions false (segments_with true false g l f ys)) e ∙ sym (ap (pending_regions false) e)
with_more false g l f later x xs e = ap (λ ys. pending_regions false (segments_with false false g l f ys)) e ∙ sym (ap (pending_regions false) e)

pub pending_with : (b e : Bool) (g : ℕ) (l : Bool) (f : Part) (vs : List VariableTree) (k : ℕ) (gs : GroupTrees) → (e ≡ false → some_groups gs ≡ true) →
    pending_regions false (segments_with b e g l f (segments_made vs e k gs)) ≡ pending_regions e (segments_made vs e k gs)
pending_with true true g l f vs k gs h = refl
pending_with false true g l f vs k gs h = refl
pending_with b false g l f vs k no_groups h = let no : false ≡ true = h refl in absurd cc
pending_with b false g l f vs k (group_then c d is gs) h =
    with_more b g l f (segments_made vs false k (group_then c d is gs)) (first_region (segments_made vs false k (group_then c d is gs)))
    (pending_regions false (segments_made vs false k (group_then c d is gs)))
    (with_cons false (ends_segment is gs) k (can_leave (items_exits is)) (items_made vs is) (segments_made vs (ends_segment is gs) (suc k) gs))

pub first_keeps : (fs : List Part) → EachKeeps fs → Keeps (first_region fs)
first_keeps [] h = later_here
first_keeps (f ∷ fs) h = h.0

-- ---- exits

pub segment_then_later : (gs : GroupTrees) → either_exits (segment_exits gs) (later_exits gs) ≡ groups_exits gs
segment_then_later no_groups = refl
segment_then_later (group_then c d is gs) =
    elim (ends_segment is gs)
    as (λ e. either_exits (cond e (items_exits is) (either_exits (items_exits is) (segment_exits gs))) (cond e (groups_exits gs) (later_exits gs))
    ≡ either_exits (items_exits is) (groups_exits gs)) [
      | true ↦ refl
      | false ↦ either_assoc (items_exits is) (segment_exits gs) (later_exits gs) ∙ ap (either_exits (items_exits is)) (segment_then_later gs)
    ]

pub later_step : (gs : GroupTrees) (e : Bool) (c : List ℕ) (d : Bool) (is : ItemTrees) (rest : GroupTrees) → gs ≡ group_then c d is rest → e ≡ first_ends gs → later_exits gs ≡ pending_exits e rest
later_step gs e c d is rest h k =
    let ends : ends_segment is rest ≡ e = sym (ap first_ends h) ∙ sym k in
    ap later_exits h ∙ ap (λ b. cond b (groups_exits rest) (later_exits rest)) ends
    ∙ elim e as (λ b. cond b (groups_exits rest) (later_exits rest) ≡ pending_exits b rest) [ true ↦ refl | false ↦ refl ]

-- ---- all regions

regions_from : (a : Enclosing) (rest : List Enclosing) (k : Carried) (m : ℕ) (fs : List Part) (w : Work) → EachKeeps fs → w ≡ open_in a rest k m →
    regions_closed w fs ≡ open_in (with_regions a (a.regions ++ (regions_made no_value k m fs).regions)) rest k (regions_made no_value k m fs).next
regions_from a rest k m [] w h e = e ∙ ap (λ rs. open_in (with_regions a rs) rest k m) (sym (append-nil a.regions))
regions_from a rest k m (f ∷ fs) w h e =
    let b : Built (Unit {0}) = f (inside k m) in
    let r = region_made no_value k b in
    let first = close_from no_value a rest k m f w (made w (f w.point)) (closed [] (made w (f w.point))) [] h.0 e refl refl refl in
    regions_from (with_regions a (a.regions ++ r ∷ [])) rest k b.after.next fs (closed [] (made w (f w.point))) h.1 first
    ∙ ap (λ rs. open_in (with_regions a rs) rest k (regions_made no_value k b.after.next fs).next) (append_assoc a.regions (r ∷ []) (regions_made no_value k b.after.next fs).regions)

closed_append : (w : Work) (fs : List Part) → regions_closed w (fs ++ nothing ∷ []) ≡ closed [] (regions_closed w fs)
closed_append w [] = let v : Unit {0} = tt in ap (closed []) (made_given w v)
closed_append w (f ∷ fs) = closed_append (closed [] (made w (f w.point))) fs

each_append : (fs : List Part) → EachKeeps fs → EachKeeps (fs ++ nothing ∷ [])
each_append [] h = (later_here, tt)
each_append (f ∷ fs) h = (h.0, each_append fs h.1)

pub choices_makes : (w w1 w2 w3 : Work) (p : Origin) (fs : List Part) → EachKeeps fs → w1 ≡ begun (p ∷ []) w → w2 ≡ regions_closed w1 fs → w3 ≡ chosen ZeroFirst None w2 →
    w3 ≡ made w (choices no_value w.point p (fs ++ nothing ∷ []))
choices_makes w w1 w2 w3 p fs h e1 e2 e3 =
    let k : Carried = w.point.carried in
    let n : ℕ = w.point.next in
    let a : Enclosing = gamma_enclosing p w in
    let gs : List Part = fs ++ nothing ∷ [] in
    let last : Work = closed [] w2 in
    let all : last ≡ open_in (with_regions a (regions_made no_value k (suc n) gs).regions) w.enclosing k (regions_made no_value k (suc n) gs).next =
    ap (closed []) e2 ∙ sym (closed_append w1 fs) ∙ regions_from a w.enclosing k (suc n) gs w1 (each_append fs h) e1 in
    end_from (with_regions a (regions_made no_value k (suc n) gs).regions) w.enclosing k (regions_made no_value k (suc n) gs).next Gamma false (λ j. j) last w3 (λ j. refl) all e3

-- ---- groups by index

pub groups_at : (gs : List Group) (i : ℕ) → i < length gs →
    (g : Group) × (groups_of (drop i gs) ≡ group_then g.cases.items g.is_default (items_of g.body.items) (groups_of (drop (i + 1) gs)))
groups_at [] i h = absurd (omega (arith, h))
groups_at (g ∷ gs) zero h = (g, refl)
groups_at (g ∷ gs) (suc i) h =
    let r = groups_at gs i (omega (arith, h)) in
    let n : suc (i + 1) ≡ suc i + 1 = omega arith in
    (r.0, r.1 ∙ ap (λ k. group_then r.0.cases.items r.0.is_default (items_of r.0.body.items) (groups_of (drop k (g ∷ gs)))) n)

ends_false : (j m : Bool) → (j || not m) ≡ false → m ≡ true
ends_false true m h = absurd cc
ends_false false true h = refl
ends_false false false h = absurd cc

follow : (is : ItemTrees) (gs : GroupTrees) → ends_segment is gs ≡ false → some_groups gs ≡ true
follow is gs h = ends_false (s.ends_with_jump is) (some_groups gs) h

-- what is left after the first group
later_regions : (vs : List VariableTree) (b e : Bool) (i : ℕ) (all rest : GroupTrees) (c : List ℕ) (d : Bool) (is : ItemTrees) → all ≡ group_then c d is rest → e ≡ first_ends all →
    pending_regions false (segments_made vs b i all) ≡ pending_regions e (segments_made vs e (suc i) rest)
later_regions vs b e i all rest c d is h k =
    let ends : ends_segment is rest ≡ e = sym (ap first_ends h) ∙ sym k in
    ap (λ gs. pending_regions false (segments_made vs b i gs)) h
    ∙ pending_with b (ends_segment is rest) i (can_leave (items_exits is)) (items_made vs is) vs (suc i) rest (follow is rest)
    ∙ ap (λ x. pending_regions x (segments_made vs x (suc i) rest)) ends

made_cons : (vs : List VariableTree) (b : Bool) (i : ℕ) (all rest : GroupTrees) (c : List ℕ) (d : Bool) (is : ItemTrees) → all ≡ group_then c d is rest →
    segments_made vs b i all ≡ first_region (segments_made vs b i all) ∷ pending_regions false (segments_made vs b i all)
made_cons vs b i all rest c d is h =
    ap (segments_made vs b i) h
    ∙ with_cons b (ends_segment is rest) i (can_leave (items_exits is)) (items_made vs is) (segments_made vs (ends_segment is rest) (suc i) rest)
    ∙ sym (ap (λ gs. first_region (segments_made vs b i gs) ∷ pending_regions false (segments_made vs b i gs)) h)

-- the region of a segment is closed
pub closed_step : (vs : List VariableTree) (w w1 w2 u : Work) (i j : ℕ) (b e : Bool) (all rest : GroupTrees) (c : List ℕ) (d : Bool) (is : ItemTrees) → all ≡ group_then c d is rest →
    e ≡ first_ends all → j ≡ suc i → b ≡ true → w1 ≡ made w (first_region (segments_made vs true i all) w.point) → w2 ≡ closed [] w1 →
    regions_closed w (pending_regions b (segments_made vs b i all)) ≡ u → regions_closed w2 (pending_regions e (segments_made vs e j rest)) ≡ u
closed_step vs w w1 w2 u i j b e all rest c d is h k q f e1 e2 inv =
    let fs : List Part = segments_made vs true i all in
    let one : w2 ≡ closed [] (made w (first_region fs w.point)) = e2 ∙ ap (closed []) e1 in
    ap (λ n. regions_closed w2 (pending_regions e (segments_made vs e n rest))) q
    ∙ sym (ap (regions_closed w2) (later_regions vs true e i all rest c d is h k))
    ∙ ap (λ x. regions_closed x (pending_regions false fs)) one
    ∙ sym (ap (regions_closed w) (made_cons vs true i all rest c d is h))
    ∙ sym (ap (λ x. regions_closed w (pending_regions x (segments_made vs x i all))) f) ∙ inv

-- a group that goes on in a segment is in its region
pub passed_step : (vs : List VariableTree) (w u : Work) (i j : ℕ) (b e : Bool) (all rest : GroupTrees) (c : List ℕ) (d : Bool) (is : ItemTrees) → all ≡ group_then c d is rest →
    e ≡ first_ends all → j ≡ suc i → b ≡ false → regions_closed w (pending_regions b (segments_made vs b i all)) ≡ u →
    regions_closed w (pending_regions e (segments_made vs e j rest)) ≡ u
passed_step vs w u i j b e all rest c d is h k q f inv =
    ap (λ n. regions_closed w (pending_regions e (segments_made vs e n rest))) q
    ∙ sym (ap (regions_closed w) (later_regions vs false e i all rest c d is h k))
    ∙ sym (ap (λ x. regions_closed w (pending_regions x (segments_made vs x i all))) f) ∙ inv

pub closed_exits : (l m left total : Exits) (b e : Bool) (all rest : GroupTrees) (c : List ℕ) (d : Bool) (is : ItemTrees) → all ≡ group_then c d is rest → e ≡ first_ends all → b ≡ true →
    left ≡ segment_exits all → m ≡ either_exits l left → either_exits l (pending_exits b all) ≡ total → either_exits m (pending_exits e rest) ≡ total
closed_exits l m left total b e all rest c d is h k f g q inv =
    ap (λ x. either_exits x (pending_exits e rest)) (q ∙ ap (either_exits l) g) ∙ either_assoc l (segment_exits all) (pending_exits e rest)
    ∙ ap (λ x. either_exits l (either_exits (segment_exits all) x)) (sym (later_step all e c d is rest h k))
    ∙ ap (either_exits l) (segment_then_later all) ∙ sym (ap (λ x. either_exits l (pending_exits x all)) f) ∙ inv

pub passed_exits : (l m total : Exits) (b e : Bool) (all rest : GroupTrees) (c : List ℕ) (d : Bool) (is : ItemTrees) → all ≡ group_then c d is rest → e ≡ first_ends all → b ≡ false → m ≡ l →
    either_exits l (pending_exits b all) ≡ total → either_exits m (pending_exits e rest) ≡ total
passed_exits l m total b e all rest c d is h k f q inv =
    ap (λ x. either_exits x (pending_exits e rest)) q ∙ ap (either_exits l) (sym (later_step all e c d is rest h k))
    ∙ sym (ap (λ x. either_exits l (pending_exits x all)) f) ∙ inv

-- ---- one segment

first_of : (b : Bool) (g : ℕ) (l : Bool) (f : Part) (later : List Part) (x : Part) (xs : List Part) (p : Point) → later ≡ x ∷ xs →
    first_region (segments_with b false g l f later) p ≡ bind (group_made g f p) (λ _ t. unless_left l (first_region later) t)
first_of true g l f later x xs p e =
    ap (λ ys. first_region (segments_with true false g l f ys) p) e ∙ sym (ap (λ ys. bind (group_made g f p) (λ _ t. unless_left l (first_region ys) t)) e)
first_of false g l f later x xs p e =
    ap (λ ys. first_region (segments_with false false g l f ys) p) e ∙ sym (ap (λ ys. bind (group_made g f p) (λ _ t. unless_left l (first_region ys) t)) e)

rest_cons : (vs : List VariableTree) (n : ℕ) (gs : GroupTrees) → some_groups gs ≡ true →
    segments_made vs false n gs ≡ first_region (segments_made vs false n gs) ∷ pending_regions false (segments_made vs false n gs)
rest_cons vs n no_groups h = absurd cc
rest_cons vs n (group_then c d is rest) h = made_cons vs false n (group_then c d is rest) rest c d is refl

pub segment_step : (vs : List VariableTree) (b : Bool) (n : ℕ) (gs rest : GroupTrees) (c : List ℕ) (d : Bool) (is : ItemTrees) (p : Point) → gs ≡ group_then c d is rest →
    false ≡ first_ends gs →
    first_region (segments_made vs b n gs) p
    ≡ bind (group_made n (items_made vs is) p) (λ _ t. unless_left (can_leave (items_exits is)) (first_region (segments_made vs false (suc n) rest)) t)
segment_step vs b n gs rest c d is p h k =
    let ends : ends_segment is rest ≡ false = sym (ap first_ends h) ∙ sym k in
    let l : Bool = can_leave (items_exits is) in
    let f : Part = items_made vs is in
    ap (λ x. first_region (segments_made vs b n x) p) h
    ∙ ap (λ e. first_region (segments_with b e n l f (segments_made vs e (suc n) rest)) p) ends
    ∙ first_of b n l f (segments_made vs false (suc n) rest) (first_region (segments_made vs false (suc n) rest)) (pending_regions false (segments_made vs false (suc n) rest)) p
    (rest_cons vs (suc n) rest (follow is rest ends))

-- ---- the whole

pub switch_is : (p : Origin) (gs rest : GroupTrees) (c : List ℕ) (d : Bool) (is : ItemTrees) (fs : List Part) (q : Point) → gs ≡ group_then c d is rest →
    s.switch_made p gs fs q ≡ s.chosen_made p gs fs q
switch_is p gs rest c d is fs q h = ap (λ x. s.switch_made p x fs q) h ∙ sym (ap (λ x. s.chosen_made p x fs q) h)

pub chosen_makes : (p n : Origin) (gs : GroupTrees) (fs : List Part) (w w1 w4 w5 w6 : Work) → w1 ≡ made w (segment_chosen p gs w.point) → n ≡ (segment_chosen p gs w.point).value →
    w4 ≡ made w1 (choices no_value w1.point n (fs ++ nothing ∷ [])) → w5 ≡ moved_to w4 (s.from_popped (some_segment_has_several gs) w4.point) →
    w6 ≡ made w5 (break_ended (groups_exits gs).breaks w5.point) → w6 ≡ made w (s.chosen_made p gs fs w.point)
chosen_makes p n gs fs w w1 w4 w5 w6 e1 en e4 e5 e6 =
    let d : s.Target = s.default_target 0 0 gs in
    let ls : List s.Label = s.labels_of 0 0 gs in
    let several : Bool = some_segment_has_several gs in
    let breaks : Bool = (groups_exits gs).breaks in
    let a : Built s.Selected = s.segment_made p d.segment ls w.point in
    let b : Built (Unit {0}) = s.from_made several d.group ls a.value.equals a.after in
    let g : Origin → Point → Built (Unit {0}) = λ m u. bind (choices no_value u m (fs ++ nothing ∷ [])) (λ _ v. break_ended breaks (s.from_popped several v)) in
    let last : w6 ≡ made w4 (break_ended breaks (s.from_popped several w4.point)) = e6 ∙ ap (λ x. made x (break_ended breaks x.point)) e5 in
    let v : Unit {0} = tt in
    let rest : Makes w1 (g n w1.point) w6 v =
    bind_makes w1 w4 w6 (choices no_value w1.point n (fs ++ nothing ∷ [])) (λ _ q. break_ended breaks (s.from_popped several q)) v v (record { work = e4; value = refl })
    (record { work = last; value = refl }) in
    let all = (bind_makes w w1 w6 (segment_chosen p gs w.point) g n v (record { work = e1; value = en }) rest).work in
    let c : Built (Unit {0}) = g a.value.number b.after in
    all
    ∙ ap (λ ns. record { enclosing = w.enclosing; nodes = w.nodes ++ ns; point = c.after })
    (ap (λ ns. (a.nodes ++ ns) ++ c.nodes) (append-nil b.nodes) ∙ append_assoc a.nodes b.nodes c.nodes)
