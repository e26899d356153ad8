-- A node of a region that fits, and changes there that keep the region well formed and add no numbers.
use Rattle.std.proofs.Common.{◌≡◌, ◌≤◌, ◌+◌, ◌⊎◌, inl, inr, ℕ, ◌==◌, Bool, true, false, ◌&&◌, ◌||◌, List, [], ◌∷◌, ◌++◌, map, Option, None, Some, refl, sym, ap, ◌∙◌, arith}
use Rattle.std.specs.Prelude.{if◌then◌else◌, slice_get}
use Rattle.std.proofs.lemmas.Bool.{and_parts, false_from_ne_true, or_parts, or_left, cases_Bool}
use Rattle.g_graph.specs.declared.op.Kind.{Kind}
use Rattle.g_graph.specs.declared.op.Kind.TheVariants.{Value, Memory, Io}
use Rattle.g_graph.specs.declared.op.Origin.{Origin}
use Rattle.g_graph.specs.declared.op.Origin.TheVariants.{Arg, Out}
use Rattle.g_graph.specs.Plain.{RegionTree, region, NodeTree, node, NodeTrees, no_nodes, node_then, nodes_of, id_of}
use Rattle.g_graph.specs.Ids.{region_ids, node_ids, nodes_ids, regions_ids}
use Rattle.g_graph.specs.Signatures.{joined, output_kinds, kind_after}
use Rattle.g_graph.specs.Scope.{same_kind, known, each_node}
use Rattle.g_graph.specs.Change.{has_node}
use Rattle.g_graph.specs.WellFormed.{all_of, are, same, inputs_fit, inputs_are_last, is_last, node_has_one_state_each, has_its_regions, regions_fit, theta_has_states, has_its_width, has_its_object, node_fits, nodes_fit, results_are_last, returns_state, region_has_one_state_each, region_fits, every_region, every_in_node, every_in_nodes}
use Rattle.g_graph.specs.Replace.{nodes_redirected, region_redirected}
use Rattle.g_graph.specs.Splice.{args_to_inputs, outputs_to_results, joined_nodes, region_spliced}
use Rattle.g_graph.proofs.lemmas.Redirects.{nodes_ids-redirected}
use Rattle.g_graph.proofs.lemmas.Splices.{joined_none, joined_following, Split, nodes_ids-joined, every_in_nodes-joined, kind_after-joined}
use Rattle.g_graph.proofs.lemmas.Unique.{times, times_append, times_cons, counts_of_distinct}
use Rattle.g_graph.proofs.lemmas.Numbers.{Numbered}
use Rattle.g_graph.proofs.lemmas.Indexes.{same_number_true, same_kind_true, has_node-joined, kind_absent, kind_known}
use Rattle.g_graph.proofs.lemmas.Moved.{ValueFor}
use Rattle.g_graph.proofs.NestLemmas.{RegionKept}
use Rattle.g_graph.proofs.lemmas.SpliceKept.{ReplacementFits, region_spliced_kept}

-- ---- numbers

-- a number that a node has stands among the numbers
pub has_times : (m : ℕ) (ns : NodeTrees) → has_node m ns ≡ true → 1 ≤ times m (nodes_ids ns)
has_times m no_nodes e = absurd (cc)
has_times m (node_then (node id op inputs rs) ns) e =
    by_test (id == m) e (times_append m (id ∷ regions_ids rs) (nodes_ids ns)) (times_cons m id (regions_ids rs)) (has_times m ns)
  where
    by_test : (t : Bool) → (t || has_node m ns) ≡ true → times m ((id ∷ regions_ids rs) ++ nodes_ids ns) ≡ times m (id ∷ regions_ids rs) + times m (nodes_ids ns) →
        times m (id ∷ regions_ids rs) ≡ (if t then 1 else 0) + times m (regions_ids rs) → (has_node m ns ≡ true → 1 ≤ times m (nodes_ids ns)) → 1 ≤ times m ((id ∷ regions_ids rs) ++ nodes_ids ns)
    by_test true q a b h = omega (arith, a, b)
    by_test false q a b h = omega (arith, a, b, h q)

pub own_times : (x : NodeTree) → 1 ≤ times (id_of x) (node_ids x)
own_times (node id op inputs rs) = omega (arith, times_cons id id (regions_ids rs) ∙ ap (λ t. (if t then 1 else 0) + times id (regions_ids rs)) (same_number_true id))

-- of a node and what stands before and after it each number stands once at most
once_in : (next : ℕ) (before : NodeTrees) (x : NodeTree) (after : NodeTrees) → Numbered next (nodes_ids (joined_nodes before (node_then x after))) → (m : ℕ) →
    times m (nodes_ids before) + times m (node_ids x) + times m (nodes_ids after) ≤ 1
once_in next before x after numbers m =
    omega (
      arith,
      counts_of_distinct (nodes_ids (joined_nodes before (node_then x after))) numbers.unique m,
      ap (times m) (nodes_ids-joined before (node_then x after)),
      times_append m (nodes_ids before) (node_ids x ++ nodes_ids after),
      times_append m (node_ids x) (nodes_ids after),
    )

-- ---- kinds

pub are_kinds : (xs : List (Option Kind)) (ks : List Kind) → are xs ks ≡ true → xs ≡ map Some ks
are_kinds [] [] e = refl
are_kinds [] (k ∷ ks) e = absurd (cc)
are_kinds (None ∷ xs) ks e = absurd (cc)
are_kinds (Some j ∷ xs) [] e = absurd (cc)
are_kinds (Some j ∷ xs) (k ∷ ks) e = λ i. Some (same_kind_true j k (and_parts (same_kind j k) (are xs ks) e).0 i) ∷ are_kinds xs ks (and_parts (same_kind j k) (are xs ks) e).1 i

pub same_kinds : (js ks : List Kind) → same js ks ≡ true → js ≡ ks
same_kinds [] [] e = refl
same_kinds [] (k ∷ ks) e = absurd (cc)
same_kinds (j ∷ js) [] e = absurd (cc)
same_kinds (j ∷ js) (k ∷ ks) e = λ i. same_kind_true j k (and_parts (same_kind j k) (same js ks) e).0 i ∷ same_kinds js ks (and_parts (same_kind j k) (same js ks) e).1 i

pub first_kind : (x : Option Kind) (xs : List (Option Kind)) (k : Kind) (ks : List Kind) → are (x ∷ xs) (k ∷ ks) ≡ true → (x ≡ Some k) × (are xs ks ≡ true)
first_kind None xs k ks e = absurd (cc)
first_kind (Some j) xs k ks e = (ap Some (same_kind_true j k (and_parts (same_kind j k) (are xs ks) e).0), (and_parts (same_kind j k) (are xs ks) e).1)

-- ---- the node in its region

pub record NodeFits (objects : ℕ) (args : List Kind) (before : NodeTrees) (x : NodeTree) (after : NodeTrees) : Type 0 where
  pub inputs : inputs_fit args before x ≡ true
  pub last : inputs_are_last args before x ≡ true
  pub regions : regions_fit x ≡ true
  pub inside : every_in_node (region_fits objects) x ≡ true
  pub once : (m : ℕ) → times m (nodes_ids before) + times m (node_ids x) + times m (nodes_ids after) ≤ 1

pub each_here : (test : NodeTrees → NodeTree → Bool) (earlier : List NodeTree) (before : NodeTrees) (x : NodeTree) (after : NodeTrees) →
    each_node test earlier (joined_nodes before (node_then x after)) ≡ true → test (joined_nodes (nodes_of earlier) before) x ≡ true
each_here test earlier no_nodes x after e =
    ap (λ ns. test ns x) (joined_none (nodes_of earlier)) ∙ (and_parts (test (nodes_of earlier) x) (each_node test (earlier ++ x ∷ []) after) e).0
each_here test earlier (node_then y before) x after e =
    ap (λ ns. test ns x) (sym (joined_following earlier y before))
    ∙ each_here test (earlier ++ y ∷ []) before x after (and_parts (test (nodes_of earlier) y) (each_node test (earlier ++ y ∷ []) (joined_nodes before (node_then x after))) e).1

pub node_fits_here : (objects next : ℕ) (args : List Kind) (before : NodeTrees) (x : NodeTree) (after : NodeTrees) (results : List Origin) →
    every_region (region_fits objects) (region args (joined_nodes before (node_then x after)) results) ≡ true → Numbered next (nodes_ids (joined_nodes before (node_then x after))) →
    NodeFits objects args before x after
node_fits_here objects next args before x after results e numbers =
    let ns = joined_nodes before (node_then x after) in
    let r = region args ns results in
    let own = (and_parts (region_fits objects r) (every_in_nodes (region_fits objects) ns) e).0 in
    let nest = (and_parts (region_fits objects r) (every_in_nodes (region_fits objects) ns) e).1 in
    let to_io = (and_parts (nodes_fit objects r && results_are_last r && returns_state Memory r && returns_state Io r) (region_has_one_state_each r) own).0 in
    let to_memory = (and_parts (nodes_fit objects r && results_are_last r && returns_state Memory r) (returns_state Io r) to_io).0 in
    let to_last = (and_parts (nodes_fit objects r && results_are_last r) (returns_state Memory r) to_memory).0 in
    let fit = each_here (node_fits objects args) [] before x after (and_parts (nodes_fit objects r) (results_are_last r) to_last).0 in
    let to_width =
    (and_parts
    (inputs_fit args before x && inputs_are_last args before x && node_has_one_state_each args before x && has_its_regions x && regions_fit x && theta_has_states x && has_its_width x)
    (has_its_object objects x) fit).0 in
    let to_theta =
    (and_parts (inputs_fit args before x && inputs_are_last args before x && node_has_one_state_each args before x && has_its_regions x && regions_fit x && theta_has_states x) (has_its_width x)
    to_width).0 in
    let to_regions = (and_parts (inputs_fit args before x && inputs_are_last args before x && node_has_one_state_each args before x && has_its_regions x && regions_fit x) (theta_has_states x)
    to_theta).0 in
    let to_shape = (and_parts (inputs_fit args before x && inputs_are_last args before x && node_has_one_state_each args before x && has_its_regions x) (regions_fit x) to_regions).0 in
    let to_states = (and_parts (inputs_fit args before x && inputs_are_last args before x && node_has_one_state_each args before x) (has_its_regions x) to_shape).0 in
    let to_both = (and_parts (inputs_fit args before x && inputs_are_last args before x) (node_has_one_state_each args before x) to_states).0 in
    let inner =
    (and_parts (every_in_nodes (region_fits objects) before) (every_in_nodes (region_fits objects) (node_then x after))
    (sym (every_in_nodes-joined (region_fits objects) before (node_then x after)) ∙ nest)).1 in
    record {
      inputs = (and_parts (inputs_fit args before x) (inputs_are_last args before x) to_both).0;
      last = (and_parts (inputs_fit args before x) (inputs_are_last args before x) to_both).1;
      regions = (and_parts (inputs_fit args before x && inputs_are_last args before x && node_has_one_state_each args before x && has_its_regions x) (regions_fit x) to_regions).1;
      inside = (and_parts (every_in_node (region_fits objects) x) (every_in_nodes (region_fits objects) after) inner).0;
      once = once_in next before x after numbers;
    }

-- ---- what a change of the region keeps

pub record KeptWithin (objects : ℕ) (r s : RegionTree) : Type 0 where
  pub kept : RegionKept objects r s
  pub fewer : (m : ℕ) → times m (region_ids s) ≤ times m (region_ids r)

-- a replacement that gives what the node gives, and has no other numbers
pub record ReplacementGives (objects : ℕ) (args : List Kind) (before : NodeTrees) (x : NodeTree) (own : List Kind) (nodes : NodeTrees) (outs is : List Origin) : Type 0 where
  pub inside : every_region (region_fits objects) (region own nodes outs) ≡ true
  pub entries : are (map (known args before) is) own ≡ true
  pub entries_last : all_of (is_last args before) is ≡ true
  pub exits : map (known own nodes) outs ≡ output_kinds x
  pub ids : (m : ℕ) → times m (nodes_ids nodes) ≤ times m (node_ids x)

replacement_fits : (objects : ℕ) (args : List Kind) (before : NodeTrees) (x : NodeTree) (after : NodeTrees) (own : List Kind) (nodes : NodeTrees) (outs is : List Origin) →
    NodeFits objects args before x after → ReplacementGives objects args before x own nodes outs is → ReplacementFits objects args before x after own nodes outs is
replacement_fits objects args before x after own nodes outs is here g = record {
  inside = g.inside;
  entries = g.entries;
  entries_last = g.entries_last;
  exits = g.exits;
  replacement_before = λ m a b. omega (arith, has_times m nodes a, has_times m before b, g.ids m, here.once m);
  replacement_after = λ m a b. omega (arith, has_times m nodes a, has_times m after b, g.ids m, here.once m);
  before_after = λ m a b. omega (arith, has_times m before a, has_times m after b, here.once m);
  at_before = false_from_ne_true (has_node (id_of x) before) (λ h. omega (arith, has_times (id_of x) before h, own_times x, here.once (id_of x)));
  at_after = false_from_ne_true (has_node (id_of x) after) (λ h. omega (arith, has_times (id_of x) after h, own_times x, here.once (id_of x)));
}

pub replacement_keeps : (objects n : ℕ) (args : List Kind) (ns : NodeTrees) (results : List Origin) (split : Split n ns) (own : List Kind) (nodes : NodeTrees) (outs is : List Origin) →
    every_region (region_fits objects) (region args ns results) ≡ true → NodeFits objects args split.before split.here split.after →
    ReplacementGives objects args split.before split.here own nodes outs is →
    KeptWithin objects (region args ns results) (region_spliced n (region_redirected (args_to_inputs is) (region own nodes outs)) (region args ns results))
replacement_keeps objects n args ns results split own nodes outs is e here g =
    let placed_nodes = nodes_redirected (args_to_inputs is) nodes in
    let outputs = map (args_to_inputs is) outs in
    let moved_after = nodes_redirected (outputs_to_results n outputs) split.after in
    record {
      kept = region_spliced_kept objects n args ns results own nodes outs is split (replacement_fits objects args split.before split.here split.after own nodes outs is here g) e;
      fewer = λ m.
          omega (
            arith,
            ap (λ zs. times m (nodes_ids zs)) split.whole,
            ap (λ zs. times m (nodes_ids zs)) (split.spliced placed_nodes outputs),
            ap (times m) (nodes_ids-joined split.before (node_then split.here split.after)),
            times_append m (nodes_ids split.before) (node_ids split.here ++ nodes_ids split.after),
            times_append m (node_ids split.here) (nodes_ids split.after),
            ap (times m) (nodes_ids-joined split.before (joined_nodes placed_nodes moved_after)),
            times_append m (nodes_ids split.before) (nodes_ids (joined_nodes placed_nodes moved_after)),
            ap (times m) (nodes_ids-joined placed_nodes moved_after),
            times_append m (nodes_ids placed_nodes) (nodes_ids moved_after),
            ap (times m) (nodes_ids-redirected (args_to_inputs is) nodes),
            ap (times m) (nodes_ids-redirected (outputs_to_results n outputs) split.after),
            g.ids m,
          );
    }

-- ---- another value for the uses of the node

or_rest : (a b : Bool) → a ≡ false → (a || b) ≡ true → b ≡ true
or_rest true b e h = absurd (cc)
or_rest false b e h = h

-- nodes up to a number that does not stand in the first of them
record Reached (before : NodeTrees) (x : NodeTree) (after front rest : NodeTrees) : Type 0 where
  between : NodeTrees
  front_is : front ≡ joined_nodes before (node_then x between)
  after_is : after ≡ joined_nodes between rest

reached : (n : ℕ) (before : NodeTrees) (x : NodeTree) (after front rest : NodeTrees) → joined_nodes before (node_then x after) ≡ joined_nodes front rest →
    has_node n before ≡ false → has_node n front ≡ true → Reached before x after front rest
reached n before x after no_nodes rest e b h = absurd (cc)
reached n no_nodes x after (node_then y front) rest e b h =
    let first : x ≡ y = cc in
    let more : after ≡ joined_nodes front rest = cc in
    record { between = front; front_is = ap (λ z. node_then z front) (sym first); after_is = more }
reached n (node_then z before) x after (node_then y front) rest e b h =
    let first : z ≡ y = cc in
    let more : joined_nodes before (node_then x after) ≡ joined_nodes front rest = cc in
    let r = reached n before x after front rest more (or_parts (id_of z == n) (has_node n before) b).1 (or_rest (id_of y == n) (has_node n front) (ap (λ t. id_of t == n) (sym first)
    ∙ (or_parts (id_of z == n) (has_node n before) b).0) h) in
    record { between = r.between; front_is = (λ i. node_then (sym first i) (r.front_is i)); after_is = r.after_is }

more_node : (m : ℕ) (x : NodeTree) (between rest after : NodeTrees) → after ≡ joined_nodes between rest → has_node m (node_then x between) ≡ true → has_node m (node_then x after) ≡ true
more_node m x between rest after e h =
    ap (λ ns. has_node m (node_then x ns)) e ∙ has_node-joined m (node_then x between) rest ∙ or_left (has_node m (node_then x between)) (has_node m rest) h

-- after nodes that know the one, the first output of the node, both are values
pub value_for : (objects n : ℕ) (args : List Kind) (before : NodeTrees) (x : NodeTree) (after : NodeTrees) → NodeFits objects args before x after → id_of x ≡ n → output_kinds x ≡ Some Value ∷ [] →
    (b : Origin) → known args before b ≡ Some Value → ValueFor args (joined_nodes before (node_then x after)) (Out n 0) b
value_for objects n args before x after here number gives_value b value = record { after = λ front rest w. by_front front rest w (cases_Bool (has_node n front)) }
  where
    not_before : has_node n before ≡ false
    not_before = false_from_ne_true (has_node n before) (λ h. omega (arith, has_times n before h, ap (λ k. times k (node_ids x)) number, own_times x, here.once n))

    apart_own : (between rest : NodeTrees) → after ≡ joined_nodes between rest → has_node n between ≡ false
    apart_own between rest q =
        false_from_ne_true (has_node n between)
        (λ h. omega (
          arith,
          has_times n between h,
          ap (λ ns. times n (nodes_ids ns)) q,
          ap (times n) (nodes_ids-joined between rest),
          times_append n (nodes_ids between) (nodes_ids rest),
          ap
              (λ k. times k (node_ids x)) number,
          own_times x,
          here.once n,
        ))

    own_value : (between rest : NodeTrees) → after ≡ joined_nodes between rest → known args (joined_nodes before (node_then x between)) (Out n 0) ≡ Some Value
    own_value between rest q =
        kind_after-joined before (node_then x between) n 0 None
        ∙ kind_absent between n 0 (if id_of x == n then joined (slice_get (output_kinds x) 0) else kind_after before n 0 None) (apart_own between rest q)
        ∙ ap (λ t. if t then joined (slice_get (output_kinds x) 0) else kind_after before n 0 None) (ap (λ k. k == n) number ∙ same_number_true n)
        ∙ ap (λ ks. joined (slice_get ks 0)) gives_value

    other_value : (between rest : NodeTrees) → after ≡ joined_nodes between rest → (o : Origin) → known args before o ≡ Some Value →
        known args (joined_nodes before (node_then x between)) o ≡ Some Value
    other_value between rest q (Arg k) v = v
    other_value between rest q (Out m p) v =
        kind_after-joined before (node_then x between) m p None
        ∙ kind_absent (node_then x between) m p (kind_after before m p None)
        (false_from_ne_true (has_node m (node_then x between))
        (λ h.
        omega (
          arith,
          has_times m before (kind_known before m p Value v),
          has_times m (node_then x after) (more_node m x between rest after q h),
          times_append m (node_ids x) (nodes_ids after),
          here.once m,
        )))
        ∙ v

    by_front : (front rest : NodeTrees) → joined_nodes before (node_then x after) ≡ joined_nodes front rest → (has_node n front ≡ true) ⊎ (has_node n front ≡ false) →
        (known args front (Out n 0) ≡ None) ⊎ ((known args front (Out n 0) ≡ Some Value) × (known args front b ≡ Some Value))
    by_front front rest w (inr h) = inl (kind_absent front n 0 None h)
    by_front front rest w (inl h) =
        let r = reached n before x after front rest w not_before h in
        inr (ap (λ ns. known args ns (Out n 0)) r.front_is ∙ own_value r.between rest r.after_is, ap (λ ns. known args ns b) r.front_is ∙ other_value r.between rest r.after_is b value)
