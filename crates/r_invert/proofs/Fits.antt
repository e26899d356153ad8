-- A lambda stays well formed where the inverted loop stands in the place of the loop.
use Rattle.std.specs.Prelude.{◌&&◌, ◌-◌, ◌^◌, nat_le, nat_lt, count_by, if◌then◌else◌}
use Rattle.std.proofs.Common.{◌≡◌, ◌<◌, ◌≤◌, ◌+◌, ℕ, zero, suc, Bool, true, false, List, [], ◌∷◌, ◌++◌, append_assoc, map, length, Some, refl, sym, ap, subst, ◌∙◌, inl, arith}
use Rattle.std.proofs.lemmas.Bool.{and_parts, and_from, false_from_ne_true}
use Rattle.std.proofs.lemmas.Bool.Decides.{nat_tests}
use Rattle.std.proofs.lemmas.List.Sums.{sum_by-append, sum_by-cons}
use Rattle.g_graph.specs.declared.op.Kind.{Kind}
use Rattle.g_graph.specs.declared.op.Origin.{Origin}
use Rattle.g_graph.specs.Plain.{RegionTree, region, NodeTree, NodeTrees, node_then, args_of, id_of, PlainLambda}
use Rattle.g_graph.specs.Ids.{region_ids, nodes_ids}
use Rattle.g_graph.specs.Change.{has_node, region_changed}
use Rattle.g_graph.specs.Replace.{region_redirected, nodes_redirected}
use Rattle.g_graph.specs.Scope.{known}
use Rattle.g_graph.specs.Signatures.{result_kinds, output_kinds}
use Rattle.g_graph.specs.Splice.{args_to_inputs, outputs_to_results, joined_nodes, region_spliced}
use Rattle.g_graph.specs.WellFormed.{all_of, are, distinct, every_region, region_fits, leaves_fit, body_fits, numbers_fit, well_formed, IsWellFormed}
use Rattle.g_graph.proofs.lemmas.SpliceKept.{ReplacementFits, region_spliced_kept}
use Rattle.g_graph.proofs.lemmas.Nests.{region_changed_ids, numbers_numbered, changed_well_formed}
use Rattle.g_graph.proofs.lemmas.Numbers.{Numbered, numbered_left, numbered_right}
use Rattle.g_graph.proofs.lemmas.Redirects.{nodes_ids-redirected}
use Rattle.g_graph.proofs.lemmas.Splices.{nodes_ids-joined}
use Rattle.g_graph.proofs.lemmas.Unique.{times, times_append, all_of_append, all_of_holds, counts_of_distinct, distinct_of_counts}
use Rattle.g_mean.specs.Copies.{IsAmong}
use Rattle.g_mean.proofs.lemmas.Copies.{among-left, among-right}
use Rattle.g_mean.proofs.lemmas.Edits.{distinct-split}
use Rattle.g_mean.proofs.lemmas.Holds.{distinct-apart}
use Rattle.val_core.specs.Numbers.{numbers_from}
use Rattle.r_edit.proofs.lemmas.Numbering.{from-not-below, from-once, from-below, none-above}
use Rattle.r_edit.proofs.lemmas.Loops.{loop_node}
use Rattle.r_edit.proofs.lemmas.Numbers.{below}
use Rattle.r_invert.specs.Laws.{IsLoopRegion}
use Rattle.r_edit.specs.Size.{may_change_size}
use Rattle.r_invert.specs.Rule.{inverted, new_nodes, growth, loop_values, can_count, invert_here, with_body}
use Rattle.r_invert.proofs.At.{Inverts, inverts-at}
use Rattle.r_invert.proofs.First.{loop-says}
use Rattle.r_invert.proofs.PartsFit.{NodeSays}
use Rattle.r_invert.proofs.Pieces.{Piece, among-numbers, has-among}
use Rattle.r_invert.proofs.Replaced.{loop-node-says, loop-region}
use Rattle.r_invert.proofs.Whole.{inverted-piece}

-- ---- counts of numbers

count-append : (next : ℕ) (xs ys : List ℕ) → count_by (λ m. nat_le next m) (xs ++ ys) ≡ count_by (λ m. nat_le next m) xs + count_by (λ m. nat_le next m) ys
count-append next xs ys = sum_by-append (λ m. if nat_le next m then 1 else 0) xs ys

count-cons : (next x : ℕ) (xs : List ℕ) → count_by (λ m. nat_le next m) (x ∷ xs) ≡ (if nat_le next x then 1 else 0) + count_by (λ m. nat_le next m) xs
count-cons next x xs = sum_by-cons (λ m. if nat_le next m then 1 else 0) x xs

none-counted : (next : ℕ) (ns : List ℕ) → all_of (λ n. nat_lt n next) ns ≡ true → count_by (λ m. nat_le next m) ns ≡ 0
none-counted next [] e = refl
none-counted next (n ∷ ns) e =
    let p = and_parts (nat_lt n next) (all_of (λ k. nat_lt k next) ns) e in
    let less : nat_lt n next ≡ true = p.0 in
    let not : nat_le next n ≡ false = grind (arith, nat_tests) in
    omega (arith, count-cons next n ns ∙ ap (λ t. (if t then 1 else 0) + count_by (λ m. nat_le next m) ns) not, none-counted next ns p.1)

all-counted : (next first count : ℕ) → next ≤ first → count_by (λ m. nat_le next m) (numbers_from first count) ≡ count
all-counted next first zero h = refl
all-counted next first (suc count) h =
    let least : nat_le next first ≡ true = grind (arith, nat_tests) in
    omega (
      arith,
      count-cons next first (numbers_from (suc first) count) ∙ ap (λ t. (if t then 1 else 0) + count_by (λ m. nat_le next m) (numbers_from (suc first) count)) least,
      all-counted next (suc first) count (omega (arith, h)),
    )

-- numbers of which some in the middle give way to the next ones
pub record Renewed (next count : ℕ) (is js : List ℕ) : Type 0 where
  pub before : List ℕ
  pub middle : List ℕ
  pub after : List ℕ
  pub old : is ≡ before ++ (middle ++ after)
  pub new : js ≡ before ++ (numbers_from next count ++ after)

pub renewed-within : (next count : ℕ) (xs is js ys : List ℕ) → Renewed next count is js → Renewed next count ((xs ++ is) ++ ys) ((xs ++ js) ++ ys)
renewed-within next count xs is js ys h =
    record { before = xs ++ h.before; middle = h.middle; after = h.after ++ ys; old = all h.middle is h.old; new = all (numbers_from next count) js h.new }
  where
    all : (ms ks : List ℕ) → ks ≡ h.before ++ (ms ++ h.after) → (xs ++ ks) ++ ys ≡ (xs ++ h.before) ++ (ms ++ (h.after ++ ys))
    all ms ks e =
        append_assoc xs ks ys
        ∙ ap (λ k. xs ++ k) (ap (λ k. k ++ ys) e ∙ append_assoc h.before (ms ++ h.after) ys ∙ ap (λ k. h.before ++ k) (append_assoc ms h.after ys))
        ∙ sym (append_assoc xs h.before (ms ++ (h.after ++ ys)))

module _ (next count : ℕ) (is js : List ℕ) (h : Renewed next count is js) (old : Numbered next is) where
  parts-below : (all_of (λ n. nat_lt n next) h.before ≡ true) × (all_of (λ n. nat_lt n next) h.after ≡ true)
  parts-below =
      let test : ℕ → Bool = λ n. nat_lt n next in
      let p = and_parts (all_of test h.before) (all_of test (h.middle ++ h.after)) (sym (ap (all_of test) h.old ∙ all_of_append test h.before (h.middle ++ h.after)) ∙ old.below) in
      (p.0, (and_parts (all_of test h.middle) (all_of test h.after) (sym (all_of_append test h.middle h.after) ∙ p.1)).1)

  pub renewed-count : count_by (λ m. nat_le next m) js ≡ count
  renewed-count =
      omega (
        arith,
        ap (count_by (λ m. nat_le next m)) h.new,
        count-append next h.before (numbers_from next count ++ h.after),
        count-append next (numbers_from next count) h.after,
        none-counted next h.before parts-below.0,
        none-counted next h.after parts-below.1,
        all-counted next next count (omega arith),
      )

  more-times : (m : ℕ) → times m js ≤ times m is + times m (numbers_from next count)
  more-times m =
      omega (
        arith,
        ap (times m) h.new,
        ap (times m) h.old,
        times_append m h.before (numbers_from next count ++ h.after),
        times_append m (numbers_from next count) h.after,
        times_append m h.before (h.middle ++ h.after),
        times_append m h.middle h.after,
      )

  pub renewed-unique : distinct js ≡ true
  renewed-unique = distinct_of_counts js (λ m. by m (nat_lt m next) refl)
    where
      by : (m : ℕ) (t : Bool) → nat_lt m next ≡ t → times m js ≤ 1
      by m true e =
          let less : m < next = grind (arith, nat_tests) in
          omega (arith, more-times m, counts_of_distinct is old.unique m, from-not-below m next count less)
      by m false e =
          let least : next ≤ m = grind (arith, nat_tests) in
          omega (arith, more-times m, none-above m next is least old.below, from-once m next count)

  pub renewed-below : all_of (λ n. nat_lt n (next + count)) js ≡ true
  renewed-below =
      let test : ℕ → Bool = λ n. nat_lt n (next + count) in
      let wider = λ (ns : List ℕ) (e : all_of (λ n. nat_lt n next) ns ≡ true). all_of_holds (λ n. nat_lt n next) test (λ n d. grind (arith, nat_tests)) ns e in
      ap (all_of test) h.new ∙ all_of_append test h.before (numbers_from next count ++ h.after)
      ∙ and_from (all_of test h.before) (all_of test (numbers_from next count ++ h.after)) (wider h.before parts-below.0)
      (all_of_append test (numbers_from next count) h.after
      ∙ and_from (all_of test (numbers_from next count)) (all_of test h.after) (from-below next count (next + count) (omega arith)) (wider h.after parts-below.1))

-- ---- the region

module _ (objects values next n : ℕ) (args : List Kind) (nodes : NodeTrees) (results : List Origin) (s : RegionTree) (at : Inverts values next n args nodes results s)
    (fits : every_region (region_fits objects) (region args nodes results) ≡ true) (numbers : Numbered next (nodes_ids nodes)) where
  abbrev x : NodeTree
  x = loop_node n at.inputs at.body

  whole : nodes ≡ joined_nodes at.split.before (node_then x at.split.after)
  whole = at.split.whole ∙ ap (λ y. joined_nodes at.split.before (node_then y at.split.after)) at.here

  own-fits : every_region (region_fits objects) (region args (joined_nodes at.split.before (node_then x at.split.after)) results) ≡ true
  own-fits = ap (λ ns. every_region (region_fits objects) (region args ns results)) (sym whole) ∙ fits

  says : NodeSays objects args at.split.before x
  says = loop-node-says objects args at.split.before n at.inputs at.body at.split.after results own-fits

  loop : IsLoopRegion objects at.body
  loop = loop-region objects args at.split.before n at.inputs at.body at.split.after results own-fits (subst (λ ns. distinct (nodes_ids ns) ≡ true) whole numbers.unique)

  piece : Piece objects next (new_nodes at.parts) (args_of at.body) (args_of at.body) (inverted next at.parts)
  piece = let h = loop-says objects at.body at.parts loop at.form in inverted-piece objects (args_of at.body) h.entries at.parts h.fit next

  abbrev inner : List ℕ
  inner = n ∷ (region_ids at.body ++ [])

  ids : nodes_ids nodes ≡ nodes_ids at.split.before ++ (inner ++ nodes_ids at.split.after)
  ids = ap nodes_ids whole ∙ nodes_ids-joined at.split.before (node_then x at.split.after)

  unique : distinct (nodes_ids at.split.before ++ (inner ++ nodes_ids at.split.after)) ≡ true
  unique = subst (λ is. distinct is ≡ true) ids numbers.unique

  old-below : (m : ℕ) → IsAmong m (nodes_ids at.split.before ++ (inner ++ nodes_ids at.split.after)) → m < next
  old-below m h = below m next (nodes_ids at.split.before ++ (inner ++ nodes_ids at.split.after)) (subst (λ is. all_of (λ k. nat_lt k next) is ≡ true) ids numbers.below) h

  module _ (own : List Kind) (ns : NodeTrees) (gets : List Origin) (is : inverted next at.parts ≡ region own ns gets) where
    new-above : (m : ℕ) → has_node m ns ≡ true → next ≤ m
    new-above m h = (among-numbers m next (new_nodes at.parts) (subst (IsAmong m) (ap region_ids (sym is) ∙ piece.ids) (has-among m ns h))).0

    takes : own ≡ args_of at.body
    takes = ap args_of (sym is) ∙ piece.takes

    in-before : (m : ℕ) → has_node m at.split.before ≡ true → IsAmong m (nodes_ids at.split.before)
    in-before m h = has-among m at.split.before h

    in-after : (m : ℕ) → has_node m at.split.after ≡ true → IsAmong m (inner ++ nodes_ids at.split.after)
    in-after m h = among-right m inner (nodes_ids at.split.after) (has-among m at.split.after h)

    number : id_of at.split.here ≡ n
    number = ap id_of at.here

    replacement : ReplacementFits objects args at.split.before at.split.here at.split.after own ns gets at.inputs
    replacement = record {
      inside = ap (every_region (region_fits objects)) (sym is) ∙ piece.fits;
      entries = ap (are (map (known args at.split.before) at.inputs)) takes ∙ says.inputs;
      entries_last = says.last;
      exits = ap result_kinds (sym is) ∙ piece.gives ∙ ap output_kinds (sym at.here);
      replacement_before = λ m a b. omega (arith, new-above m a, old-below m (among-left m (nodes_ids at.split.before) (inner ++ nodes_ids at.split.after) (in-before m b)));
      replacement_after = λ m a b. omega (arith, new-above m a, old-below m (among-right m (nodes_ids at.split.before) (inner ++ nodes_ids at.split.after) (in-after m b)));
      before_after = λ m a b. distinct-apart (nodes_ids at.split.before) (inner ++ nodes_ids at.split.after) unique m (in-before m a) (in-after m b);
      at_before = false_from_ne_true (has_node (id_of at.split.here) at.split.before)
          (λ h. distinct-apart (nodes_ids at.split.before) (inner ++ nodes_ids at.split.after) unique n (in-before n (ap (λ m. has_node m at.split.before) (sym number) ∙ h)) (inl refl));
      at_after = false_from_ne_true (has_node (id_of at.split.here) at.split.after)
          (λ h. distinct-apart (n ∷ []) ((region_ids at.body ++ []) ++ nodes_ids at.split.after) own-unique n (inl refl)
          (among-right n (region_ids at.body ++ []) (nodes_ids at.split.after) (has-among n at.split.after (ap (λ m. has_node m at.split.after) (sym number) ∙ h))));
    }
      where
        own-unique : distinct (inner ++ nodes_ids at.split.after) ≡ true
        own-unique = (distinct-split (nodes_ids at.split.before) (inner ++ nodes_ids at.split.after) unique).1

    spliced-kept : (args_of s ≡ args) × (result_kinds s ≡ result_kinds (region args nodes results)) × (every_region (region_fits objects) s ≡ true)
    spliced-kept =
        let kept = region_spliced_kept objects n args nodes results own ns gets at.inputs at.split replacement fits in
        let same : s ≡ region_spliced n (region_redirected (args_to_inputs at.inputs) (region own ns gets)) (region args nodes results) =
        at.result ∙ ap (λ r. region_spliced n (region_redirected (args_to_inputs at.inputs) r) (region args nodes results)) is in
        (ap args_of same ∙ kept.args, ap result_kinds same ∙ kept.results, ap (every_region (region_fits objects)) same ∙ kept.inside)

    ids-now : region_ids s ≡ nodes_ids at.split.before ++ (numbers_from next (new_nodes at.parts) ++ nodes_ids at.split.after)
    ids-now =
        let part = nodes_redirected (args_to_inputs at.inputs) ns in
        let outputs = map (args_to_inputs at.inputs) gets in
        ap region_ids at.result ∙ ap (λ r. region_ids (region_spliced n (region_redirected (args_to_inputs at.inputs) r) (region args nodes results))) is
        ∙ ap nodes_ids (at.split.spliced part outputs)
        ∙ nodes_ids-joined at.split.before (joined_nodes part (nodes_redirected (outputs_to_results n outputs) at.split.after))
        ∙ ap (λ js. nodes_ids at.split.before ++ js)
        (nodes_ids-joined part (nodes_redirected (outputs_to_results n outputs) at.split.after)
        ∙ (λ i. (nodes_ids-redirected (args_to_inputs at.inputs) ns ∙ ap region_ids (sym is) ∙ piece.ids) i ++ nodes_ids-redirected (outputs_to_results n outputs) at.split.after i))

has-room : (m : ℕ) → nat_le m 4294967295 ≡ true → m < 4294967296
has-room m e = grind (arith, nat_tests)

-- what is known of the new region
pub record Kept (objects next : ℕ) (r s : RegionTree) : Type 0 where
  pub count : ℕ
  pub args : args_of s ≡ args_of r
  pub results : result_kinds s ≡ result_kinds r
  pub inside : every_region (region_fits objects) s ≡ true
  pub ids : Renewed next count (region_ids r) (region_ids s)
  pub room : next + count < 2 ^ 32

here-keeps : (objects values next n : ℕ) (r s : RegionTree) → invert_here values next n r ≡ Some s → every_region (region_fits objects) r ≡ true → Numbered next (region_ids r) → Kept objects next r s
here-keeps objects values next n (region args nodes results) s e fits numbers =
    let at = inverts-at values next n args nodes results s e in
    by at (inverted next at.parts) refl
  where
    by : (at : Inverts values next n args nodes results s) (part : RegionTree) → inverted next at.parts ≡ part → Kept objects next (region args nodes results) s
    by at (region own ns gets) is =
        let kept = spliced-kept objects values next n args nodes results s at fits numbers own ns gets is in
        record {
          count = new_nodes at.parts;
          args = kept.0;
          results = kept.1;
          inside = kept.2;
          ids = record {
            before = nodes_ids at.split.before;
            middle = n ∷ (region_ids at.body ++ []);
            after = nodes_ids at.split.after;
            old = ids objects values next n args nodes results s at fits numbers;
            new = ids-now objects values next n args nodes results s at fits numbers own ns gets is;
          };
          room = has-room (next + new_nodes at.parts)
              (and_parts (can_count at.body at.parts) (nat_le (next + new_nodes at.parts) (2 ^ 32 - 1))
              (and_parts (can_count at.body at.parts && nat_le (next + new_nodes at.parts) (2 ^ 32 - 1)) (may_change_size values (growth at.parts) (loop_values at.body)) at.may).0).1;
        }

-- ---- the lambda

pub changed-fits : (values n : ℕ) (l : PlainLambda) → IsWellFormed l → (s : RegionTree) → region_changed (invert_here values l.next n) l.body ≡ Some s → well_formed (with_body l s) ≡ true
changed-fits values n l w s e =
    let objects = length l.objects in
    let f = invert_here values l.next n in
    let nest = every_region (region_fits objects) l.body in
    let front = (and_parts (body_fits l && numbers_fit l && nest) (all_of (λ o. leaves_fit o.size 0 o.leaves) l.objects) w).0 in
    let inner = and_parts (body_fits l && numbers_fit l) nest front in
    let old = numbers_numbered l (and_parts (body_fits l) (numbers_fit l) inner.0).1 in
    let x = region_changed_ids objects f l.body s e inner.1 in
    let inside = numbered_right l.next x.before (region_ids x.old) (numbered_left l.next (x.before ++ region_ids x.old) x.after (subst (Numbered l.next) x.old_ids old)) in
    let here = here-keeps objects values l.next n x.old x.new x.here x.fits inside in
    let renewed : Renewed l.next here.count (region_ids l.body) (region_ids s) =
    subst (λ is. Renewed l.next here.count is (region_ids s)) (sym x.old_ids)
    (subst (Renewed l.next here.count ((x.before ++ region_ids x.old) ++ x.after)) (sym x.new_ids)
    (renewed-within l.next here.count x.before (region_ids x.old) (region_ids x.new) x.after here.ids)) in
    let count = renewed-count l.next here.count (region_ids l.body) (region_ids s) renewed old in
    let unique = renewed-unique l.next here.count (region_ids l.body) (region_ids s) renewed old in
    let below : all_of (λ m. nat_lt m (l.next + count_by (λ m. nat_le l.next m) (region_ids s))) (region_ids s) ≡ true
    = ap (λ k. all_of (λ m. nat_lt m (l.next + k)) (region_ids s)) count ∙ renewed-below l.next here.count (region_ids l.body) (region_ids s) renewed old in
    changed_well_formed f l s (l.next + count_by (λ m. nat_le l.next m) (region_ids s))
    (record {
      kept = λ r t q fits numbers.
          let k = here-keeps objects values l.next n r t q fits numbers in
          record { args = k.args; results = k.results; inside = k.inside };
    })
    e w (λ i. unique i && below i)

-- there are numbers for what comes
pub changed-next : (values n : ℕ) (l : PlainLambda) → IsWellFormed l → (s : RegionTree) → region_changed (invert_here values l.next n) l.body ≡ Some s →
    l.next + count_by (λ m. nat_le l.next m) (region_ids s) < 2 ^ 32
changed-next values n l w s e =
    let objects = length l.objects in
    let f = invert_here values l.next n in
    let nest = every_region (region_fits objects) l.body in
    let front = (and_parts (body_fits l && numbers_fit l && nest) (all_of (λ o. leaves_fit o.size 0 o.leaves) l.objects) w).0 in
    let inner = and_parts (body_fits l && numbers_fit l) nest front in
    let old = numbers_numbered l (and_parts (body_fits l) (numbers_fit l) inner.0).1 in
    let x = region_changed_ids objects f l.body s e inner.1 in
    let inside = numbered_right l.next x.before (region_ids x.old) (numbered_left l.next (x.before ++ region_ids x.old) x.after (subst (Numbered l.next) x.old_ids old)) in
    let here = here-keeps objects values l.next n x.old x.new x.here x.fits inside in
    let renewed : Renewed l.next here.count (region_ids l.body) (region_ids s) =
    subst (λ is. Renewed l.next here.count is (region_ids s)) (sym x.old_ids)
    (subst (Renewed l.next here.count ((x.before ++ region_ids x.old) ++ x.after)) (sym x.new_ids)
    (renewed-within l.next here.count x.before (region_ids x.old) (region_ids x.new) x.after here.ids)) in
    omega (arith, here.room, renewed-count l.next here.count (region_ids l.body) (region_ids s) renewed old)

-- what is known of the body of a well-formed lambda
pub body-sound : (l : PlainLambda) → IsWellFormed l → (every_region (region_fits (length l.objects)) l.body ≡ true) × (distinct (region_ids l.body) ≡ true)
body-sound l w =
    let nest = every_region (region_fits (length l.objects)) l.body in
    let front = (and_parts (body_fits l && numbers_fit l && nest) (all_of (λ o. leaves_fit o.size 0 o.leaves) l.objects) w).0 in
    let inner = and_parts (body_fits l && numbers_fit l) nest front in
    (inner.1, (numbers_numbered l (and_parts (body_fits l) (numbers_fit l) inner.0).1).unique)
