-- A folded lambda is well formed.
use Rattle.std.proofs.Common.{◌≡◌, ℕ, zero, suc, ◌==◌, Bool, true, false, not, ◌&&◌, ◌||◌, List, [], ◌∷◌, ◌++◌, map, Option, None, Some, option_map, option_and_then, refl, sym, ap, subst, ◌∙◌, arith}
use Rattle.std.specs.Prelude.{if◌then◌else◌, slice_get, unwrap_or}
use Rattle.std.proofs.lemmas.Option.{same_Some}
use Rattle.std.proofs.lemmas.Bool.{and_parts}
use Rattle.val_core.specs.declared.operation.Op2.{Op2}
use Rattle.val_core.specs.declared.operation.Op1.{Op1}
use Rattle.val_core.specs.Words.{word1, word2}
use Rattle.g_graph.specs.declared.op.Kind.{Kind}
use Rattle.g_graph.specs.declared.op.Kind.TheVariants.{Value, Memory, Io}
use Rattle.g_graph.specs.declared.op.Op.{Op}
use Rattle.g_graph.specs.declared.op.Op.TheVariants.{Const, Undef, Local, Delta, Bin, Un, Load, Store, Clear, PtrEq, Apply, Put, Exit, Get, Gamma, Theta}
use Rattle.g_graph.specs.declared.op.Origin.{Origin}
use Rattle.g_graph.specs.declared.op.Origin.TheVariants.{Arg, Out}
use Rattle.g_graph.specs.Plain.{RegionTree, region, NodeTree, node, NodeTrees, no_nodes, node_then, RegionTrees, no_regions, region_then, id_of}
use Rattle.g_graph.specs.Ids.{region_ids, nodes_ids, regions_ids}
use Rattle.g_graph.specs.Signatures.{first_args, output_kinds}
use Rattle.g_graph.specs.Scope.{is_of, known}
use Rattle.g_graph.specs.WellFormed.{all_of, some_of, are, one_state_each, gives, is_last, nodes_fit, results_are_last, returns_state, region_has_one_state_each, region_fits, every_region, every_in_nodes}
use Rattle.g_graph.specs.Replace.{nodes_redirected, region_redirected, origin_replaced}
use Rattle.g_graph.specs.Splice.{args_to_inputs, outputs_to_results, joined_nodes, nodes_spliced, region_spliced}
use Rattle.g_graph.proofs.lemmas.Redirects.{region_ids-redirected, all_unmoved, nodes_unmoved}
use Rattle.g_graph.proofs.lemmas.Splices.{Split, split_at}
use Rattle.g_graph.proofs.lemmas.Unique.{same_number, times, times_append, times_cons}
use Rattle.g_graph.proofs.lemmas.Numbers.{Numbered}
use Rattle.g_graph.proofs.lemmas.Indexes.{same_number_true}
use Rattle.g_graph.proofs.lemmas.Found.{found_node, node_at-joined}
use Rattle.g_graph.proofs.lemmas.Moved.{ValueFor, moved_kept}
use Rattle.g_graph.proofs.lemmas.Nodes.{NodeFits, node_fits_here, KeptWithin, ReplacementGives, replacement_keeps, are_kinds, first_kind, value_for}
use Rattle.r_fold.proofs.Chosen.{chosen_inside, chosen_times, chosen_kinds}
use Rattle.g_graph.specs.Nodes.{node_at, node_set, constant, is_used}
use Rattle.r_fold.specs.Rule.{is_word, left_neutral, right_neutral, Folded, word, input, replacement, bin_folded, gamma_folded, theta_folded, chosen_region, folding, folded, fold_here}

-- ---- a constant, as a part of one node

abbrev const_nodes : ℕ → ℕ → NodeTrees
const_nodes n w = node_then (node n (Const w) [] no_regions) no_nodes

const_inside : (objects n w : ℕ) → every_region (region_fits objects) (region [] (const_nodes n w) (Out n 0 ∷ [])) ≡ true
const_inside objects n w = let t : (n == n) ≡ true = same_number_true n in rw t

const_given : (n w : ℕ) → map (known [] (const_nodes n w)) (Out n 0 ∷ []) ≡ Some Value ∷ []
const_given n w = let t : (n == n) ≡ true = same_number_true n in rw t

const_gives : (objects : ℕ) (args : List Kind) (before : NodeTrees) (id : ℕ) (op : Op) (ins : List Origin) (rs : RegionTrees) (w : ℕ) → output_kinds (node id op ins rs) ≡ Some Value ∷ [] →
    ReplacementGives objects args before (node id op ins rs) [] (const_nodes id w) (Out id 0 ∷ []) []
const_gives objects args before id op ins rs w e = record {
  inside = const_inside objects id w;
  entries = refl;
  entries_last = refl;
  exits = const_given id w ∙ sym e;
  ids = λ m. omega (arith, times_cons m id [], times_cons m id (regions_ids rs));
}

-- its output stays where it was
const_output : (n : ℕ) (o : Origin) → outputs_to_results n (Out n 0 ∷ []) o ≡ o
const_output n (Arg k) = refl
const_output n (Out m p) = by_test (m == n) refl p
  where
    by_test : (t : Bool) → (m == n) ≡ t → (p : ℕ) → (if t then unwrap_or (slice_get (Out n 0 ∷ []) p) (Out m p) else Out m p) ≡ Out m p
    by_test true q zero = ap (λ k. Out k 0) (sym (same_number m n q))
    by_test true q (suc p) = refl
    by_test false q p = refl

set_spliced : (n w : ℕ) (ns : NodeTrees) → nodes_spliced n (const_nodes n w) (Out n 0 ∷ []) ns ≡ node_set n (node n (Const w) [] no_regions) ns
set_spliced n w no_nodes = refl
set_spliced n w (node_then x ns) = by_test (id_of x == n) (set_spliced n w ns)
  where
    by_test : (t : Bool) → nodes_spliced n (const_nodes n w) (Out n 0 ∷ []) ns ≡ node_set n (node n (Const w) [] no_regions) ns →
        (if t then joined_nodes (const_nodes n w) (nodes_redirected (outputs_to_results n (Out n 0 ∷ [])) ns) else node_then x (nodes_spliced n (const_nodes n w) (Out n 0 ∷ []) ns))
        ≡ (if t then node_then (node n (Const w) [] no_regions) ns else node_then x (node_set n (node n (Const w) [] no_regions) ns))
    by_test true h = ap (node_then (node n (Const w) [] no_regions)) (nodes_unmoved (outputs_to_results n (Out n 0 ∷ [])) (const_output n) ns)
    by_test false h = ap (node_then x) h

word_spliced : (n w : ℕ) (args : List Kind) (ns : NodeTrees) (results : List Origin) →
    region_spliced n (region_redirected (args_to_inputs []) (region [] (const_nodes n w) (Out n 0 ∷ []))) (region args ns results)
    ≡ region args (node_set n (node n (Const w) [] no_regions) ns) results
word_spliced n w args ns results = λ i. region args (set_spliced n w ns i) (all_unmoved (outputs_to_results n (Out n 0 ∷ [])) (const_output n) results i)

-- ---- the region of a Theta that runs once

-- without a result that is a value
tail_inside : (objects : ℕ) (own : List Kind) (ns : NodeTrees) (p : Origin) (outs : List Origin) → known own ns p ≡ Some Value → every_region (region_fits objects) (region own ns (p ∷ outs)) ≡ true →
    every_region (region_fits objects) (region own ns outs) ≡ true
tail_inside objects own ns p outs v e =
    let r = region own ns (p ∷ outs) in
    let kinds = map (known own ns) outs in
    let fits = (and_parts (region_fits objects r) (every_in_nodes (region_fits objects) ns) e).0 in
    let nest = (and_parts (region_fits objects r) (every_in_nodes (region_fits objects) ns) e).1 in
    let to_io = (and_parts (nodes_fit objects r && results_are_last r && returns_state Memory r && returns_state Io r) (region_has_one_state_each r) fits).0 in
    let states = (and_parts (nodes_fit objects r && results_are_last r && returns_state Memory r && returns_state Io r) (region_has_one_state_each r) fits).1 in
    let to_memory = (and_parts (nodes_fit objects r && results_are_last r && returns_state Memory r) (returns_state Io r) to_io).0 in
    let io = (and_parts (nodes_fit objects r && results_are_last r && returns_state Memory r) (returns_state Io r) to_io).1 in
    let to_last = (and_parts (nodes_fit objects r && results_are_last r) (returns_state Memory r) to_memory).0 in
    let memory = (and_parts (nodes_fit objects r && results_are_last r) (returns_state Memory r) to_memory).1 in
    let fit = (and_parts (nodes_fit objects r) (results_are_last r) to_last).0 in
    let last = (and_parts (is_last own ns p) (all_of (is_last own ns) outs) (and_parts (nodes_fit objects r) (results_are_last r) to_last).1).1 in
    let memory_now : (not (gives Memory ns) || some_of (is_of Memory) kinds) ≡ true = ap (λ k. not (gives Memory ns) || (is_of Memory k || some_of (is_of Memory) kinds)) (sym v) ∙ memory in
    let io_now : (not (gives Io ns) || some_of (is_of Io) kinds) ≡ true = ap (λ k. not (gives Io ns) || (is_of Io k || some_of (is_of Io) kinds)) (sym v) ∙ io in
    let states_now : (one_state_each (map Some own) && one_state_each kinds) ≡ true = ap (λ k. one_state_each (map Some own) && one_state_each (k ∷ kinds)) (sym v) ∙ states in
    λ i. fit i && last i && memory_now i && io_now i && states_now i && nest i

theta_gives : (objects : ℕ) (args : List Kind) (before : NodeTrees) (id : ℕ) (ins : List Origin) (own : List Kind) (ns : NodeTrees) (p : Origin) (outs : List Origin) (after : NodeTrees) →
    NodeFits objects args before (node id Theta ins (region_then (region own ns (p ∷ outs)) no_regions)) after →
    ReplacementGives objects args before (node id Theta ins (region_then (region own ns (p ∷ outs)) no_regions)) own ns outs ins
theta_gives objects args before id ins own ns p outs after here =
    let kinds = map (known own ns) outs in
    let results = first_kind (known own ns p) kinds Value own (and_parts (are (known own ns p ∷ kinds) (Value ∷ own)) true here.regions).0 in
    record {
      inside = tail_inside objects own ns p outs results.0 (and_parts (every_region (region_fits objects) (region own ns (p ∷ outs))) true here.inside).0;
      entries = here.inputs;
      entries_last = here.last;
      exits = are_kinds kinds own results.1;
      ids = λ m. omega (arith, times_cons m id (nodes_ids ns ++ []), times_append m (nodes_ids ns) []);
    }

-- ---- the region of a Gamma that is chosen

gamma_gives : (objects : ℕ) (args : List Kind) (before : NodeTrees) (id : ℕ) (p : Origin) (entries : List Origin) (rs : RegionTrees) (after : NodeTrees) →
    NodeFits objects args before (node id Gamma (p ∷ entries) rs) after → (w : ℕ) (own : List Kind) (ns : NodeTrees) (outs : List Origin) → chosen_region w rs ≡ Some (region own ns outs) →
    ReplacementGives objects args before (node id Gamma (p ∷ entries) rs) own ns outs entries
gamma_gives objects args before id p entries rs after here w own ns outs e =
    let kinds = chosen_kinds id w (p ∷ entries) rs (region own ns outs) e here.regions in
    let inputs = first_kind (known args before p) (map (known args before) entries) Value (first_args rs) here.inputs in
    record {
      inside = chosen_inside (region_fits objects) w rs (region own ns outs) e here.inside;
      entries = ap (are (map (known args before) entries)) kinds.0 ∙ inputs.1;
      entries_last = (and_parts (is_last args before p) (all_of (is_last args before) entries) here.last).1;
      exits = kinds.1;
      ids = λ m. omega (arith, chosen_times m w rs (region own ns outs) e, times_cons m id (regions_ids rs));
    }

-- ---- whatever folds

module _ (objects next n : ℕ) (args : List Kind) (ns : NodeTrees) (results : List Origin) (split : Split n ns) (fits : every_region (region_fits objects) (region args ns results) ≡
    true) (numbers : Numbered next (nodes_ids ns)) where
  abbrev whole : RegionTree
  whole = region args ns results

  split_here : NodeFits objects args split.before split.here split.after
  split_here =
      node_fits_here objects next args split.before split.here split.after results (ap (λ ms. every_region (region_fits objects) (region args ms results)) (sym split.whole) ∙ fits)
      (subst (λ ms. Numbered next (nodes_ids ms)) split.whole numbers)

  here_is : (x : NodeTree) → split.here ≡ x → NodeFits objects args split.before x split.after
  here_is x e = subst (λ y. NodeFits objects args split.before y split.after) e split_here

  replacement_kept_by : (x : NodeTree) → split.here ≡ x → (own : List Kind) (nodes : NodeTrees) (outs is : List Origin) → ReplacementGives objects args split.before x own nodes outs is →
      KeptWithin objects whole (region_spliced n (region_redirected (args_to_inputs is) (region own nodes outs)) whole)
  replacement_kept_by x e own nodes outs is g =
      replacement_keeps objects n args ns results split own nodes outs is fits split_here (subst (λ y. ReplacementGives objects args split.before y own nodes outs is) (sym e) g)

  word_keeps : (op : Op) (ins : List Origin) (rs : RegionTrees) → split.here ≡ node n op ins rs → output_kinds (node n op ins rs) ≡ Some Value ∷ [] → (w : ℕ) →
      KeptWithin objects whole (region args (node_set n (node n (Const w) [] no_regions) ns) results)
  word_keeps op ins rs e o w =
      subst (λ s. KeptWithin objects whole s) (word_spliced n w args ns results)
      (replacement_kept_by (node n op ins rs) e [] (const_nodes n w) (Out n 0 ∷ []) [] (const_gives objects args split.before n op ins rs w o))

  input_keeps : (op : Op) (ins : List Origin) (rs : RegionTrees) → split.here ≡ node n op ins rs → output_kinds (node n op ins rs) ≡ Some Value ∷ [] → (b : Origin) →
      known args split.before b ≡ Some Value →
      KeptWithin objects whole (region_redirected (origin_replaced (Out n 0) b) whole)
  input_keeps op ins rs e o b v =
      let value = value_for objects n args split.before split.here split.after split_here (ap id_of e) (ap output_kinds e ∙ o) b v in
      record {
        kept = moved_kept objects (Out n 0) b args ns results (subst (λ ms. ValueFor args ms (Out n 0) b) (sym split.whole) value) fits;
        fewer = λ m. omega (arith, ap (times m) (region_ids-redirected (origin_replaced (Out n 0) b) whole));
      }

  word_change : (op : Op) (ins : List Origin) (rs : RegionTrees) → split.here ≡ node n op ins rs → output_kinds (node n op ins rs) ≡ Some Value ∷ [] → (w : ℕ) (f : Folded) → word w ≡ f →
      (s : RegionTree) →
      folded n whole f ≡ Some s → KeptWithin objects whole s
  word_change op ins rs e o w f q s d =
      let same : folded n whole (word w) ≡ Some s = ap (folded n whole) q ∙ d in
      let is : region args (node_set n (node n (Const w) [] no_regions) ns) results ≡ s = cc in
      subst (λ t. KeptWithin objects whole t) is (word_keeps op ins rs e o w)

  input_change : (op : Op) (ins : List Origin) (rs : RegionTrees) → split.here ≡ node n op ins rs → output_kinds (node n op ins rs) ≡ Some Value ∷ [] → (b : Origin) →
      known args split.before b ≡ Some Value →
      (f : Folded) → input b ≡ f → (s : RegionTree) → folded n whole f ≡ Some s → KeptWithin objects whole s
  input_change op ins rs e o b v f q s d =
      by_use (is_used (Out n 0) whole) (ap (folded n whole) q ∙ d)
    where
      by_use : (t : Bool) → (if t then Some (region_redirected (origin_replaced (Out n 0) b) whole) else None) ≡ Some s → KeptWithin objects whole s
      by_use true h =
          let is : region_redirected (origin_replaced (Out n 0) b) whole ≡ s = cc in
          subst (λ t. KeptWithin objects whole t) is (input_keeps op ins rs e o b v)
      by_use false h = absurd (cc)

  replacement_change : (x : NodeTree) → split.here ≡ x → (own : List Kind) (nodes : NodeTrees) (outs is : List Origin) → ReplacementGives objects args split.before x own nodes outs is →
      (f : Folded) → replacement (region own nodes outs) is ≡ f →
      (s : RegionTree) → folded n whole f ≡ Some s → KeptWithin objects whole s
  replacement_change x e own nodes outs is g f q s d =
      let same : Some (region_spliced n (region_redirected (args_to_inputs is) (region own nodes outs)) whole) ≡ Some s = ap (folded n whole) q ∙ d in
      subst (λ t. KeptWithin objects whole t) (same_Some _ _ same) (replacement_kept_by x e own nodes outs is g)

  inputs_keep : (op : Op2) (a b : Origin) (rs : RegionTrees) → split.here ≡ node n (Bin op) (a ∷ b ∷ []) rs → (u v : Option ℕ) (f : Folded) →
      (if is_word (left_neutral op) u then Some (input b) else if is_word (right_neutral op) v then Some (input a) else None) ≡ Some f → (s : RegionTree) → folded n whole f ≡ Some s →
      KeptWithin objects whole s
  inputs_keep op a b rs e u v f q s d =
      let here = here_is (node n (Bin op) (a ∷ b ∷ []) rs) e in
      let first = first_kind (known args split.before a) (known args split.before b ∷ []) Value (Value ∷ []) here.inputs in
      let second = first_kind (known args split.before b) [] Value [] first.1 in
      by_tests (is_word (left_neutral op) u) (is_word (right_neutral op) v) first.0 second.0 q
    where
      by_tests : (l r : Bool) → known args split.before a ≡ Some Value → known args split.before b ≡ Some Value → (if l then Some (input b) else if r then Some (input a) else None) ≡ Some f →
          KeptWithin objects whole s
      by_tests true r va vb h = input_change (Bin op) (a ∷ b ∷ []) rs e refl b vb f (same_Some _ _ h) s d
      by_tests false true va vb h = input_change (Bin op) (a ∷ b ∷ []) rs e refl a va f (same_Some _ _ h) s d
      by_tests false false va vb h = absurd (cc)

  bin_keeps : (op : Op2) (a b : Origin) (rs : RegionTrees) → split.here ≡ node n (Bin op) (a ∷ b ∷ []) rs → (u v : Option ℕ) (f : Folded) → bin_folded op a b u v ≡ Some f → (s : RegionTree) →
      folded n whole f ≡ Some s → KeptWithin objects whole s
  bin_keeps op a b rs e (Some u) (Some v) f q s d = word_change (Bin op) (a ∷ b ∷ []) rs e refl (word2 op u v) f (same_Some _ _ q) s d
  bin_keeps op a b rs e None v f q s d = inputs_keep op a b rs e None v f q s d
  bin_keeps op a b rs e (Some u) None f q s d = inputs_keep op a b rs e (Some u) None f q s d

  un_keeps : (op : Op1) (a : Origin) (rs : RegionTrees) → split.here ≡ node n (Un op) (a ∷ []) rs → (u : Option ℕ) (f : Folded) → option_map (λ v. word (word1 op v)) u ≡ Some f → (s : RegionTree) →
      folded n whole f ≡ Some s → KeptWithin objects whole s
  un_keeps op a rs e None f q s d = absurd (cc)
  un_keeps op a rs e (Some u) f q s d = word_change (Un op) (a ∷ []) rs e refl (word1 op u) f (same_Some _ _ q) s d

  gamma_keeps : (p : Origin) (entries : List Origin) (rs : RegionTrees) → split.here ≡ node n Gamma (p ∷ entries) rs → (u : Option ℕ) (f : Folded) → gamma_folded rs entries u ≡ Some f →
      (s : RegionTree) →
      folded n whole f ≡ Some s → KeptWithin objects whole s
  gamma_keeps p entries rs e None f q s d = absurd (cc)
  gamma_keeps p entries rs e (Some w) f q s d = by_choice (chosen_region w rs) refl q
    where
      by_choice : (c : Option RegionTree) → chosen_region w rs ≡ c → option_map (λ r. replacement r entries) c ≡ Some f → KeptWithin objects whole s
      by_choice None h g = absurd (cc)
      by_choice (Some (region own nodes outs)) h g =
          replacement_change (node n Gamma (p ∷ entries) rs) e own nodes outs entries
          (gamma_gives objects args split.before n p entries rs split.after (here_is (node n Gamma (p ∷ entries) rs) e) w own nodes outs h) f (same_Some _ _ g) s d

  theta_keeps : (ins : List Origin) (r : RegionTree) → split.here ≡ node n Theta ins (region_then r no_regions) → (f : Folded) → theta_folded r ins ≡ Some f → (s : RegionTree) →
      folded n whole f ≡ Some s →
      KeptWithin objects whole s
  theta_keeps ins (region own nodes []) e f q s d = absurd (cc)
  theta_keeps ins (region own nodes (p ∷ outs)) e f q s d = by_word (is_word (Some 0) (constant nodes p)) q
    where
      by_word : (t : Bool) → (if t then Some (replacement (region own nodes outs) ins) else None) ≡ Some f → KeptWithin objects whole s
      by_word true h =
          replacement_change (node n Theta ins (region_then (region own nodes (p ∷ outs)) no_regions)) e own nodes outs ins
          (theta_gives objects args split.before n ins own nodes p outs split.after (here_is (node n Theta ins (region_then (region own nodes (p ∷ outs)) no_regions)) e)) f (same_Some _ _ h) s d
      by_word false h = absurd (cc)

  node_keeps : (op : Op) (ins : List Origin) (rs : RegionTrees) → split.here ≡ node n op ins rs → (f : Folded) → folding ns (node n op ins rs) ≡ Some f → (s : RegionTree) → folded n whole f ≡ Some s →
      KeptWithin objects whole s
  node_keeps (Bin op) (a ∷ b ∷ []) rs e f q s d = bin_keeps op a b rs e (constant ns a) (constant ns b) f q s d
  node_keeps (Un op) (a ∷ []) rs e f q s d = un_keeps op a rs e (constant ns a) f q s d
  node_keeps Gamma (p ∷ entries) rs e f q s d = gamma_keeps p entries rs e (constant ns p) f q s d
  node_keeps Theta ins (region_then r no_regions) e f q s d = theta_keeps ins r e f q s d
  node_keeps (Bin op) [] rs e f q s d = absurd (cc)
  node_keeps (Bin op) (a ∷ []) rs e f q s d = absurd (cc)
  node_keeps (Bin op) (a ∷ b ∷ c ∷ ins) rs e f q s d = absurd (cc)
  node_keeps (Un op) [] rs e f q s d = absurd (cc)
  node_keeps (Un op) (a ∷ b ∷ ins) rs e f q s d = absurd (cc)
  node_keeps Gamma [] rs e f q s d = absurd (cc)
  node_keeps Theta ins no_regions e f q s d = absurd (cc)
  node_keeps Theta ins (region_then r (region_then t rs)) e f q s d = absurd (cc)
  node_keeps (Const w) ins rs e f q s d = absurd (cc)
  node_keeps Undef ins rs e f q s d = absurd (cc)
  node_keeps (Local k) ins rs e f q s d = absurd (cc)
  node_keeps (Delta k) ins rs e f q s d = absurd (cc)
  node_keeps (Load w) ins rs e f q s d = absurd (cc)
  node_keeps (Store w) ins rs e f q s d = absurd (cc)
  node_keeps (Clear k) ins rs e f q s d = absurd (cc)
  node_keeps PtrEq ins rs e f q s d = absurd (cc)
  node_keeps (Apply g) ins rs e f q s d = absurd (cc)
  node_keeps Put ins rs e f q s d = absurd (cc)
  node_keeps Exit ins rs e f q s d = absurd (cc)
  node_keeps Get ins rs e f q s d = absurd (cc)

-- ---- a region, and the lambda

renumbered : (x : NodeTree) (n : ℕ) → id_of x ≡ n → (op : Op) × (ins : List Origin) × (rs : RegionTrees) × (x ≡ node n op ins rs)
renumbered (node id op ins rs) n e = (op, ins, rs, λ i. node (e i) op ins rs)

region_keeps : (objects next n : ℕ) (args : List Kind) (ns : NodeTrees) (results : List Origin) (x : NodeTree) → node_at n ns ≡ Some x →
    every_region (region_fits objects) (region args ns results) ≡ true →
    Numbered next (nodes_ids ns) → (f : Folded) → folding ns x ≡ Some f → (s : RegionTree) → folded n (region args ns results) f ≡ Some s → KeptWithin objects (region args ns results) s
region_keeps objects next n args ns results x e fits numbers f q s d =
    let split = split_at n ns (found_node n ns x e) in
    let number = same_number (id_of split.here) n split.numbered in
    let found : split.here ≡ x = same_Some _ _ (sym (node_at-joined n split.before split.here split.after split.none_before split.numbered) ∙ ap (node_at n) (sym split.whole) ∙ e) in
    let named = renumbered split.here n number in
    node_keeps objects next n args ns results split fits numbers named.0 named.1 named.2 named.3 f (ap (folding ns) (sym named.3 ∙ found) ∙ q) s d

pub fold_here_keeps : (objects next n : ℕ) (r s : RegionTree) → fold_here n r ≡ Some s → every_region (region_fits objects) r ≡ true → Numbered next (region_ids r) → KeptWithin objects r s
fold_here_keeps objects next n (region args ns results) s e fits numbers = by_node (node_at n ns) refl e
  where
    by_folding : (x : NodeTree) → node_at n ns ≡ Some x → (f : Option Folded) → folding ns x ≡ f → option_and_then (λ g. folded n (region args ns results) g) f ≡ Some s →
        KeptWithin objects (region args ns results) s
    by_folding x a None b c = absurd (cc)
    by_folding x a (Some f) b c = region_keeps objects next n args ns results x a fits numbers f b s c

    by_node : (x : Option NodeTree) → node_at n ns ≡ x → option_and_then (λ g. folded n (region args ns results) g) (option_and_then (folding ns) x) ≡ Some s →
        KeptWithin objects (region args ns results) s
    by_node None a c = absurd (cc)
    by_node (Some x) a c = by_folding x a (folding ns x) refl c
