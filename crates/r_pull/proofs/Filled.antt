-- The regions with their new lists, as a loop makes them and as a loop takes them.
use Rattle.std.specs.Prelude.{slice_index_or, slice_get, slice_set, replicate, vec_capacity}
use Rattle.std.proofs.Common.{◌≡◌, ◌≤◌, ◌<◌, ◌+◌, ℕ, zero, suc, Bool, true, false, cond, None, Some, option_map, List, [], ◌∷◌, ◌++◌, length, take, drop, refl, sym, ap, ap₂, ◌∙◌, subst, subst₂, arith}
use Rattle.std.proofs.Math.ListN.{drop_of_length-le}
use Rattle.std.proofs.lemmas.List.{append_assoc, append-nil}
use Rattle.std.proofs.lemmas.Option.{same_Some}
use Rattle.g_graph.specs.declared.op.Kind.TheVariants.{Value}
use Rattle.g_graph.specs.declared.op.Op.{Op}
use Rattle.g_graph.specs.declared.op.Origin.{Origin}
use Rattle.g_graph.specs.declared.op.Origin.TheVariants.{Arg}
use Rattle.g_graph.specs.Plain.{RegionTree, region, NodeTree, node, NodeTrees, no_nodes, node_then, RegionTrees, no_regions}
use Rattle.g_graph.specs.Plain.{region_then, nodes_of, regions_of, nodes_in, args_of, id_of, op_of, inputs_in, regions_in}
use Rattle.g_graph.specs.Replace.{nodes_redirected, region_redirected}
use Rattle.r_edit.specs.Removal.{region_without}
use Rattle.r_edit.specs.Uses.{is_read}
use Rattle.r_edit.specs.Entries.{is_gone_argument, node_taking}
use Rattle.r_pull.specs.declared.find.Found.{Found}
use Rattle.r_pull.specs.declared.plan.NewLists.{NewLists}
use Rattle.r_pull.specs.declared.plan.Plan.{Plan}
use Rattle.r_pull.specs.Rule.{other_entries, inputs_carried, args_from, copy_used, begun_with, copies_in}
use Rattle.r_pull.specs.Rule.{copies, regions_filled, only_user, gamma_pulled, pull_at, region_pulled, pull_here}
use Rattle.r_pull.specs.Edit.{entries_of, pull_into, begun, begun_where, region_with, regions_with, count_nodes, HasRoom}
use Rattle.r_pull.specs.Edit.{HaveRoom, AreListsOf, AreListsOfAll, taking, pull_seen, IsPlanFor, planned, FitsPlanned}
use Rattle.r_pull.proofs.Found.{changed_alike, only_is_first}

pub count_nodes_of : (xs : List NodeTree) → count_nodes (nodes_of xs) ≡ length xs
count_nodes_of [] = refl
count_nodes_of (x ∷ xs) = ap suc (count_nodes_of xs)

pub redirected_count : (f : Origin → Origin) (ns : NodeTrees) → count_nodes (nodes_redirected f ns) ≡ count_nodes ns
redirected_count f no_nodes = refl
redirected_count f (node_then x ns) = ap suc (redirected_count f ns)

-- ---- a region that begins with new nodes

pub begun_none : (stays : List Bool) (front : List NodeTree) (r : RegionTree) → slice_get front 0 ≡ None → begun_where stays front r ≡ r
begun_none stays [] r e = refl
begun_none stays (x ∷ front) r e = absurd cc

pub begun_some : (stays : List Bool) (front : List NodeTree) (x : NodeTree) (r : RegionTree) → slice_get front 0 ≡ Some x → begun_where stays front r ≡ begun stays (id_of x) (nodes_of front) r
begun_some stays [] x r e = absurd cc
begun_some stays (y ∷ front) x r e = ap (λ z. begun stays (id_of z) (nodes_of (y ∷ front)) r) (same_Some y x e)

-- the lists of a region that takes no copy, and of one that does
module _ (stays : List Bool) (copy first : ℕ) (op : Op) (inputs : List Origin) where
  pub lists_without : (r : RegionTree) (m : NewLists) → is_read (is_gone_argument stays) r ≡ false → m.args.items ≡ args_of r ++ replicate (length inputs) Value → m.nodes.items ≡ [] →
      AreListsOf stays copy first op inputs r m
  lists_without (region args nodes results) m e a n =
      record {
        filled =
            ap₂ (λ front more. begun_where stays front (region more nodes results)) n a
            ∙ sym (ap (λ t. cond t (begun_with (node copy op (args_from first inputs) no_regions)
            (region_redirected (copy_used stays copy) (region (args ++ replicate (length inputs) Value) nodes results)))
            (region (args ++ replicate (length inputs) Value) nodes results)) e);
        count = ap length n ∙ sym (ap (λ t. cond t 1 0) e);
        room = λ h. absurd (omega (arith, h, ap length n));
      }

  pub lists_with : (r : RegionTree) (m : NewLists) → is_read (is_gone_argument stays) r ≡ true → m.args.items ≡ args_of r ++ replicate (length inputs) Value →
      m.nodes.items ≡ node copy op (args_from first inputs) no_regions ∷ [] → 1 + count_nodes (nodes_in r) ≤ vec_capacity m.nodes → AreListsOf stays copy first op inputs r m
  lists_with (region args nodes results) m e a n room =
      record {
        filled =
            ap₂ (λ front more. begun_where stays front (region more nodes results)) n a
            ∙ sym (ap (λ t. cond t (begun_with (node copy op (args_from first inputs) no_regions)
            (region_redirected (copy_used stays copy) (region (args ++ replicate (length inputs) Value) nodes results)))
            (region (args ++ replicate (length inputs) Value) nodes results)) e);
        count = ap length n ∙ sym (ap (λ t. cond t 1 0) e);
        room = λ h. omega (arith, room, ap length n);
      }

pub arguments_step : (first : ℕ) (inputs : List Origin) (k : ℕ) → k < length inputs → args_from (first + k) (drop k inputs) ≡ Arg (first + k) ∷ args_from (first + suc k) (drop (suc k) inputs)
arguments_step first [] k h = absurd (omega (arith, h))
arguments_step first (a ∷ inputs) zero h = ap (λ j. Arg (first + 0) ∷ args_from j inputs) (omega arith)
arguments_step first (a ∷ inputs) (suc k) h =
    let e : first + suc k ≡ suc first + k = omega arith in
    let f : first + suc (suc k) ≡ suc first + suc k = omega arith in
    subst₂ (λ i j. args_from i (drop k inputs) ≡ Arg i ∷ args_from j (drop (suc k) inputs)) (sym e) (sym f) (arguments_step (suc first) inputs k (omega (arith, h)))

-- ---- all new lists are those of the definition

module _ (stays : List Bool) (first : ℕ) (op : Op) (inputs : List Origin) where
  pub all-filled : (copy : ℕ) (rs : RegionTrees) (ms : List NewLists) → AreListsOfAll stays copy first op inputs rs ms → regions_with stays ms rs ≡ regions_filled stays copy first op inputs rs
  all-filled copy no_regions [] h = refl
  all-filled copy (region_then r rs) (m ∷ ms) h = λ i. region_then (h.0.filled i) (all-filled (copy + copies_in stays r) rs ms h.1 i)
  all-filled copy no_regions (m ∷ ms) h = absurd h
  all-filled copy (region_then r rs) [] h = absurd h

  pub all-room : (copy : ℕ) (rs : RegionTrees) (ms : List NewLists) → AreListsOfAll stays copy first op inputs rs ms → HaveRoom ms rs
  all-room copy no_regions [] h = h
  all-room copy (region_then r rs) (m ∷ ms) h = (h.0.room, all-room (copy + copies_in stays r) rs ms h.1)
  all-room copy no_regions (m ∷ ms) h = absurd h
  all-room copy (region_then r rs) [] h = absurd h

pub arguments_more : (first k : ℕ) (inputs all more : List Origin) → k < length inputs → more ≡ all ++ Arg (first + k) ∷ [] → all ++ args_from (first + k) (drop k inputs) ≡ args_from first inputs →
    more ++ args_from (first + suc k) (drop (suc k) inputs) ≡ args_from first inputs
arguments_more first k inputs all more h e inv =
    ap (λ zs. zs ++ args_from (first + suc k) (drop (suc k) inputs)) e
    ∙ append_assoc all (Arg (first + k) ∷ []) (args_from (first + suc k) (drop (suc k) inputs))
    ∙ ap (λ zs. all ++ zs) (sym (arguments_step first inputs k h))
    ∙ inv

-- ---- the plan

pub plan_is : (next n : ℕ) (x g : NodeTree) (p : Plan) (entries carried : List Origin) → entries ≡ entries_of g → carried ≡ inputs_carried n (pull_into x g) → p.stays.items ≡ other_entries n entries →
    p.inputs.items ≡ inputs_in g ++ carried → AreListsOfAll (other_entries n entries) next (length entries) (op_of x) carried (regions_in g) p.lists.items → IsPlanFor next n x g p
plan_is next n (node xid op xs qs) (node id gop ges rs) p entries carried e c s i l =
    let all = subst₂ (λ es cs. AreListsOfAll (other_entries n es) next (length es) op cs rs p.lists.items) e c l in
    let stays = s ∙ ap (other_entries n) e in
    let inputs = i ∙ ap (λ cs. ges ++ cs) c in
    let h = pull_into (node xid op xs qs) (node id gop ges rs) in
    let same = ap (λ ts. regions_with ts p.lists.items rs) stays ∙ all-filled (other_entries n (drop 1 ges)) (length (drop 1 ges)) op (inputs_carried n h) next rs p.lists.items all in
    record {
      taken = λ k. node_taking (stays k) (node id gop (inputs k) (same k));
      room = all-room (other_entries n (drop 1 ges)) (length (drop 1 ges)) op (inputs_carried n h) next rs p.lists.items all;
    }

pub planned_is : (values next n : ℕ) (r : RegionTree) (f : Found) (p : Plan) → Some (pull_seen f) ≡ pull_at values next n r → only_user n (nodes_in r) ≡ Some f.user.now →
    IsPlanFor next n f.node.now f.user.now p → planned n r (Some p) ≡ pull_here values next n r
planned_is values next n (region args nodes results) f p e u h =
    ap (λ ns. Some (region_without n (region args ns results)))
    (changed_alike n (taking p) (gamma_pulled next n (pull_seen f)) nodes
    (λ g first.
    let same : f.user.now ≡ g = same_Some f.user.now g (sym (only_is_first n nodes f.user.now u) ∙ first) in
    subst (λ z. taking p z ≡ gamma_pulled next n (pull_seen f) z) same h.taken))
    ∙ ap (option_map (region_pulled next n (region args nodes results))) e

pub planned_none : (values next n : ℕ) (r : RegionTree) → None ≡ pull_at values next n r → planned n r None ≡ pull_here values next n r
planned_none values next n r e = ap (option_map (region_pulled next n r)) e

pub planned_fits : (next n : ℕ) (r : RegionTree) (f : Found) (p : Plan) → only_user n (nodes_in r) ≡ Some f.user.now → IsPlanFor next n f.node.now f.user.now p → FitsPlanned n (nodes_in r) (Some p)
planned_fits next n r f p u h g first =
    let same : f.user.now ≡ g = same_Some f.user.now g (sym (only_is_first n (nodes_in r) f.user.now u) ∙ first) in
    subst (λ z. HaveRoom p.lists.items (regions_in z)) same h.room

-- ---- the loop that makes them

-- What is made, with lists of the regions that are left, are lists of all, and the numbers go on.
pub record Making (stays : List Bool) (next first : ℕ) (op : Op) (inputs : List Origin) (i copy : ℕ) (regions : List RegionTree) (lists : List NewLists) : Type 0 where
  pub more : (ms : List NewLists) → AreListsOfAll stays copy first op inputs (regions_of (drop i regions)) ms → AreListsOfAll stays next first op inputs (regions_of regions) (lists ++ ms)
  pub count : copy + copies stays (regions_of (drop i regions)) ≡ next + copies stays (regions_of regions)

drop-at : (xs : List RegionTree) (i : ℕ) (x : RegionTree) → i < length xs → x ≡ slice_index_or xs i x → drop i xs ≡ x ∷ drop (suc i) xs
drop-at [] i x h e = absurd (omega (arith, h))
drop-at (y ∷ ys) zero x h e = ap (λ z. z ∷ ys) (sym e)
drop-at (y ∷ ys) (suc i) x h e = drop-at ys i x (omega (arith, h)) e

pub made_more : (stays : List Bool) (next first : ℕ) (op : Op) (inputs : List Origin) (i copy : ℕ) (regions : List RegionTree) (lists : List NewLists) (r : RegionTree) (m : NewLists) →
    Making stays next first op inputs i copy regions lists → i < length regions → r ≡ slice_index_or regions i r → AreListsOf stays copy first op inputs r m →
    Making stays next first op inputs (suc i) (copy + length m.nodes.items) regions (lists ++ m ∷ [])
made_more stays next first op inputs i copy regions lists r m made h e own =
    let here = drop-at regions i r h e in
    record {
      more = λ ms rest.
          subst (λ zs. AreListsOfAll stays next first op inputs (regions_of regions) zs) (sym (append_assoc lists (m ∷ []) ms))
          (made.more (m ∷ ms)
          (subst (λ zs. AreListsOfAll stays copy first op inputs (regions_of zs) (m ∷ ms)) (sym here)
          (own, subst (λ k. AreListsOfAll stays (copy + k) first op inputs (regions_of (drop (suc i) regions)) ms) own.count rest)));
      count = omega (arith, made.count, ap (λ zs. copies stays (regions_of zs)) here, own.count);
    }

-- the next number of a copy suffices
pub made_small : (stays : List Bool) (next first : ℕ) (op : Op) (inputs : List Origin) (i copy : ℕ) (regions : List RegionTree) (lists : List NewLists) (r : RegionTree) (m : NewLists) →
    Making stays next first op inputs i copy regions lists → i < length regions → r ≡ slice_index_or regions i r → AreListsOf stays copy first op inputs r m →
    copy + length m.nodes.items ≤ next + copies stays (regions_of regions)
made_small stays next first op inputs i copy regions lists r m made h e own =
    omega (arith, made.count, ap (λ zs. copies stays (regions_of zs)) (drop-at regions i r h e), own.count)

pub made_begin : (stays : List Bool) (next first : ℕ) (op : Op) (inputs : List Origin) (regions : List RegionTree) → Making stays next first op inputs 0 next regions []
made_begin stays next first op inputs regions = record { more = λ ms h. h; count = refl }

pub made_all : (stays : List Bool) (next first : ℕ) (op : Op) (inputs : List Origin) (i copy : ℕ) (regions : List RegionTree) (lists : List NewLists) →
    Making stays next first op inputs i copy regions lists → length regions ≤ i → AreListsOfAll stays next first op inputs (regions_of regions) lists
made_all stays next first op inputs i copy regions lists made h =
    subst (λ zs. AreListsOfAll stays next first op inputs (regions_of regions) zs) (append-nil lists)
    (made.more [] (subst (λ zs. AreListsOfAll stays copy first op inputs (regions_of zs) []) (sym (drop_of_length-le regions h)) tt))

-- ---- the loop that takes them

abbrev with-all : (stays : List Bool) → List NewLists → List RegionTree → List RegionTree
with-all stays (m ∷ ms) (r ∷ rs) = region_with stays m r ∷ with-all stays ms rs
with-all stays ms rs = rs

-- The first regions are filled, the others are old; the lists of these are there.
pub record Filling (stays : List Bool) (i : ℕ) (old regions : List RegionTree) (made lists : List NewLists) : Type 0 where
  pub regions_are : regions ≡ take i (with-all stays made old) ++ drop i old
  pub regions_count : length regions ≡ length old
  pub lists_are : (k : ℕ) (d : NewLists) → i ≤ k → slice_index_or lists k d ≡ slice_index_or made k d
  pub lists_count : length lists ≡ length made

with-length : (stays : List Bool) (ms : List NewLists) (rs : List RegionTree) → length (with-all stays ms rs) ≡ length rs
with-length stays [] rs = refl
with-length stays (m ∷ ms) [] = refl
with-length stays (m ∷ ms) (r ∷ rs) = ap suc (with-length stays ms rs)

with-index : (stays : List Bool) (ms : List NewLists) (rs : List RegionTree) (i : ℕ) (m : NewLists) (r d : RegionTree) → i < length ms → i < length rs → m ≡ slice_index_or ms i m →
    r ≡ slice_index_or rs i r → slice_index_or (with-all stays ms rs) i d ≡ region_with stays m r
with-index stays [] rs i m r d a b e g = absurd (omega (arith, a))
with-index stays (n ∷ ms) [] i m r d a b e g = absurd (omega (arith, b))
with-index stays (n ∷ ms) (q ∷ rs) zero m r d a b e g = sym (ap₂ (region_with stays) e g)
with-index stays (n ∷ ms) (q ∷ rs) (suc i) m r d a b e g = with-index stays ms rs i m r d (omega (arith, a)) (omega (arith, b)) e g

with-of : (stays : List Bool) (ms : List NewLists) (rs : List RegionTree) → regions_of (with-all stays ms rs) ≡ regions_with stays ms (regions_of rs)
with-of stays [] [] = refl
with-of stays [] (r ∷ rs) = refl
with-of stays (m ∷ ms) [] = refl
with-of stays (m ∷ ms) (r ∷ rs) = ap (region_then (region_with stays m r)) (with-of stays ms rs)

module _ {X : Type 0} where
  front-index : (i : ℕ) (ys xs : List X) (d : X) → length ys ≡ length xs → slice_index_or (take i ys ++ drop i xs) i d ≡ slice_index_or xs i d
  front-index zero ys xs d e = refl
  front-index (suc i) [] [] d e = refl
  front-index (suc i) [] (x ∷ xs) d e = absurd (omega (arith, e))
  front-index (suc i) (y ∷ ys) [] d e = absurd (omega (arith, e))
  front-index (suc i) (y ∷ ys) (x ∷ xs) d e = front-index i ys xs d (omega (arith, e))

  set-step : (i : ℕ) (ys xs : List X) (v : X) → length ys ≡ length xs → i < length xs → v ≡ slice_index_or ys i v → slice_set (take i ys ++ drop i xs) i v ≡ take (suc i) ys ++ drop (suc i) xs
  set-step i ys [] v e h d = absurd (omega (arith, h))
  set-step i [] (x ∷ xs) v e h d = absurd (omega (arith, e))
  set-step zero (y ∷ ys) (x ∷ xs) v e h d = ap (λ z. z ∷ xs) d
  set-step (suc i) (y ∷ ys) (x ∷ xs) v e h d = ap (λ zs. y ∷ zs) (set-step i ys xs v (omega (arith, e)) (omega (arith, h)) d)

  all-done : (i : ℕ) (ys xs : List X) → length ys ≡ length xs → length xs ≤ i → take i ys ++ drop i xs ≡ ys
  all-done zero [] [] e h = refl
  all-done (suc i) [] [] e h = refl
  all-done i [] (x ∷ xs) e h = absurd (omega (arith, e))
  all-done i (y ∷ ys) [] e h = absurd (omega (arith, e))
  all-done zero (y ∷ ys) (x ∷ xs) e h = absurd (omega (arith, h))
  all-done (suc i) (y ∷ ys) (x ∷ xs) e h = ap (λ zs. y ∷ zs) (all-done i ys xs (omega (arith, e)) (omega (arith, h)))

pub room-count : (ms : List NewLists) (rs : List RegionTree) → HaveRoom ms (regions_of rs) → length ms ≡ length rs
room-count [] [] h = refl
room-count (m ∷ ms) (r ∷ rs) h = ap suc (room-count ms rs h.1)
room-count [] (r ∷ rs) h = absurd h
room-count (m ∷ ms) [] h = absurd h

pub room-at : (ms : List NewLists) (rs : List RegionTree) (i : ℕ) (m : NewLists) (r : RegionTree) → HaveRoom ms (regions_of rs) → i < length rs → m ≡ slice_index_or ms i m →
    r ≡ slice_index_or rs i r → HasRoom m r
room-at [] [] i m r h b e g = absurd (omega (arith, b))
room-at (n ∷ ms) (q ∷ rs) zero m r h b e g = subst₂ (λ (u : NewLists) (v : RegionTree). HasRoom u v) (sym e) (sym g) h.0
room-at (n ∷ ms) (q ∷ rs) (suc i) m r h b e g = room-at ms rs i m r h.1 (omega (arith, b)) e g
room-at [] (r ∷ rs) i m q h b e g = absurd h
room-at (m ∷ ms) [] i n r h b e g = absurd h

pub filling-begin : (stays : List Bool) (old : List RegionTree) (made : List NewLists) → Filling stays 0 old old made made
filling-begin stays old made = record { regions_are = refl; regions_count = refl; lists_are = λ k d h. refl; lists_count = refl }

set-other : {X : Type 0} (xs : List X) (i k : ℕ) (v d : X) → suc i ≤ k → slice_index_or (slice_set xs i v) k d ≡ slice_index_or xs k d
set-other [] zero k v d h = refl
set-other [] (suc i) k v d h = refl
set-other (x ∷ xs) i zero v d h = absurd (omega (arith, h))
set-other (x ∷ xs) zero (suc k) v d h = refl
set-other (x ∷ xs) (suc i) (suc k) v d h = set-other xs i k v d (omega (arith, h))

set-count : {X : Type 0} (xs : List X) (i : ℕ) (v : X) → length (slice_set xs i v) ≡ length xs
set-count [] zero v = refl
set-count [] (suc i) v = refl
set-count (x ∷ xs) zero v = refl
set-count (x ∷ xs) (suc i) v = ap suc (set-count xs i v)

pub filling-now : (stays : List Bool) (i : ℕ) (old regions : List RegionTree) (made lists : List NewLists) (r : RegionTree) → Filling stays i old regions made lists →
    r ≡ slice_index_or regions i r → r ≡ slice_index_or old i r
filling-now stays i old regions made lists r inv e =
    e ∙ ap (λ zs. slice_index_or zs i r) inv.regions_are ∙ front-index i (with-all stays made old) old r (with-length stays made old)

pub filling-room : (stays : List Bool) (i : ℕ) (old regions : List RegionTree) (made lists : List NewLists) (r : RegionTree) (m : NewLists) → Filling stays i old regions made lists →
    HaveRoom made (regions_of old) → i < length old → r ≡ slice_index_or regions i r → m ≡ slice_index_or lists i m → HasRoom m r
filling-room stays i old regions made lists r m inv room h e g =
    room-at made old i m r room h (g ∙ inv.lists_are i m (omega arith)) (filling-now stays i old regions made lists r inv e)

pub filling-more : (stays : List Bool) (i : ℕ) (old regions : List RegionTree) (made lists : List NewLists) (r t : RegionTree) (m none : NewLists) → Filling stays i old regions made lists →
    HaveRoom made (regions_of old) → i < length old → r ≡ slice_index_or regions i r → m ≡ slice_index_or lists i m → t ≡ region_with stays m r →
    Filling stays (suc i) old (slice_set regions i t) made (slice_set lists i none)
filling-more stays i old regions made lists r t m none inv room h e g d =
    let here = filling-now stays i old regions made lists r inv e in
    let within : i < length made = omega (arith, h, room-count made old room) in
    record {
      regions_are =
          ap (λ zs. slice_set zs i t) inv.regions_are
          ∙ set-step i (with-all stays made old) old t (with-length stays made old) h (d ∙ sym (with-index stays made old i m r t within h (g ∙ inv.lists_are i m (omega arith)) here));
      regions_count = set-count regions i t ∙ inv.regions_count;
      lists_are = λ k v b. set-other lists i k none v b ∙ inv.lists_are k v (omega (arith, b));
      lists_count = set-count lists i none ∙ inv.lists_count;
    }

pub filling-all : (stays : List Bool) (i : ℕ) (old regions : List RegionTree) (made lists : List NewLists) → Filling stays i old regions made lists → length old ≤ i →
    regions_of regions ≡ regions_with stays made (regions_of old)
filling-all stays i old regions made lists inv h =
    ap regions_of (inv.regions_are ∙ all-done i (with-all stays made old) old (with-length stays made old) h) ∙ with-of stays made old
