-- What a well-formed region reads is there.
use Rattle.std.proofs.Common.{◌≡◌, ◌≤◌, ◌<◌, ℕ, zero, suc, ◌==◌, ◌&&◌, not, nat_lt, Bool, true, false, Option, None, Some, List, [], ◌∷◌, ◌++◌, map, length, refl, sym, ap, subst, ◌∙◌, arith}
use Rattle.std.specs.Prelude.{slice_get, if◌then◌else◌}
use Rattle.std.proofs.lemmas.Bool.{and_parts, or_parts, or_from}
use Rattle.std.proofs.lemmas.Bool.Decides.{nat_tests}
use Rattle.g_graph.specs.declared.op.Kind.{Kind}
use Rattle.g_graph.specs.declared.op.Kind.TheVariants.{Memory, Io}
use Rattle.g_graph.specs.declared.op.Origin.{Origin}
use Rattle.g_graph.specs.declared.op.Origin.TheVariants.{Arg, Out}
use Rattle.g_graph.specs.Plain.{region, NodeTree, node, NodeTrees, no_nodes, node_then, nodes_of, id_of}
use Rattle.g_graph.specs.Signatures.{joined, inputs_of, output_kinds, kind_after}
use Rattle.g_graph.specs.Scope.{known, each_node}
use Rattle.g_graph.specs.Change.{has_node}
use Rattle.g_graph.specs.Splice.{joined_nodes}
use Rattle.g_graph.specs.WellFormed.{all_of, some_of, are, is_last, is_last_of, inputs_fit, inputs_are_last, node_has_one_state_each, has_its_regions, regions_fit, theta_has_states, has_its_width, has_its_object, node_fits, nodes_fit, results_are_last, returns_state, region_has_one_state_each, region_fits, every_region, every_in_nodes}
use Rattle.g_graph.proofs.lemmas.Nodes.{are_kinds}
use Rattle.g_graph.proofs.lemmas.Splices.{joined_following}
use Rattle.g_graph.proofs.lemmas.Unique.{same_number}
use Rattle.r_edit.specs.Uses.{nodes_read, is_read}
use Rattle.r_sweep.proofs.lemmas.FromLast.{is_beyond, is_argument_beyond}

-- ---- outputs

-- each of these nodes of number n has at most so many outputs
abbrev pub AreShort : (n count : ℕ) → NodeTrees → Type 0
AreShort n c no_nodes = Unit {0}
AreShort n c (node_then x xs) = ((id_of x == n) ≡ true → length (output_kinds x) ≤ c) × AreShort n c xs

pub short_none : (n c : ℕ) (ns : NodeTrees) → has_node n ns ≡ false → AreShort n c ns
short_none n c no_nodes h = tt
short_none n c (node_then x xs) h =
    let both = or_parts (id_of x == n) (has_node n xs) h in
    (λ e. absurd (different (id_of x == n) e both.0), short_none n c xs both.1)
  where
    different : (t : Bool) → t ≡ true → t ≡ false → ⊥
    different true e f = cc
    different false e f = cc

pub short_joined : (n c : ℕ) (xs ys : NodeTrees) → AreShort n c xs → AreShort n c ys → AreShort n c (joined_nodes xs ys)
short_joined n c no_nodes ys h g = g
short_joined n c (node_then x xs) ys h g = (h.0, short_joined n c xs ys h.1 g)

port_within : (xs : List (Option Kind)) (q : ℕ) (k : Kind) → joined (slice_get xs q) ≡ Some k → q < length xs
port_within [] q k e = absurd cc
port_within (x ∷ xs) zero k e = omega arith
port_within (x ∷ xs) (suc q) k e = omega (arith, port_within xs q k e)

kind_within : (n c : ℕ) (ns : NodeTrees) → AreShort n c ns → (q : ℕ) (k : Kind) (b : Option Kind) → (b ≡ Some k → q < c) → kind_after ns n q b ≡ Some k → q < c
kind_within n c no_nodes h q k b g e = g e
kind_within n c (node_then x xs) h q k b g e = kind_within n c xs h.1 q k (if id_of x == n then joined (slice_get (output_kinds x) q) else b) (by (id_of x == n) refl) e
  where
    by : (t : Bool) → (id_of x == n) ≡ t → (if t then joined (slice_get (output_kinds x) q) else b) ≡ Some k → q < c
    by true t d = omega (arith, h.0 t, port_within (output_kinds x) q k d)
    by false t d = g d

-- ---- a test that fails for each origin that is known

abbrev IsNever : (test : Origin → Bool) → List Kind → NodeTrees → Type 0
IsNever test args before = (o : Origin) (k : Kind) → known args before o ≡ Some k → test o ≡ false

never_beyond : (n c : ℕ) (args : List Kind) (before : NodeTrees) → AreShort n c before → IsNever (is_beyond n c) args before
never_beyond n c args before h (Arg j) k e = refl
never_beyond n c args before h (Out m q) k e = by (m == n) refl
  where
    by : (t : Bool) → (m == n) ≡ t → (t && not (nat_lt q c)) ≡ false
    by false t = refl
    by true t =
        let within : q < c = kind_within n c before h q k None (λ d. absurd cc) (ap (λ i. kind_after before i q None) (sym (same_number m n t)) ∙ e) in
        grind (arith, nat_tests)

never_argument : (args : List Kind) (before : NodeTrees) → IsNever (is_argument_beyond (length args)) args before
never_argument args before (Arg q) k e =
    let within : q < length args = within_list args q k e in
    grind (arith, nat_tests)
  where
    within_list : (xs : List Kind) (q : ℕ) (k : Kind) → slice_get xs q ≡ Some k → q < length xs
    within_list [] q k e = absurd cc
    within_list (x ∷ xs) zero k e = omega arith
    within_list (x ∷ xs) (suc q) k e = omega (arith, within_list xs q k e)
never_argument args before (Out m q) k e = refl

known_unread : (test : Origin → Bool) (args : List Kind) (before : NodeTrees) → IsNever test args before → (os : List Origin) (ks : List Kind) →
    map (known args before) os ≡ map Some ks → some_of test os ≡ false
known_unread test args before h [] ks e = refl
known_unread test args before h (o ∷ os) [] e = absurd cc
known_unread test args before h (o ∷ os) (k ∷ ks) e =
    let first : known args before o ≡ Some k = cc in
    let rest : map (known args before) os ≡ map Some ks = cc in
    or_from (test o) (some_of test os) (h o k first) (known_unread test args before h os ks rest)

-- ---- along the nodes

fits_inputs : (objects : ℕ) (args : List Kind) (before : NodeTrees) (x : NodeTree) → node_fits objects args before x ≡ true → inputs_fit args before x ≡ true
fits_inputs objects args before x e =
    let a = inputs_fit args before x in
    let b = a && inputs_are_last args before x in
    let c = b && node_has_one_state_each args before x in
    let d = c && has_its_regions x in
    let f = d && regions_fit x in
    let g = f && theta_has_states x in
    let h = g && has_its_width x in
    let to_h = (and_parts h (has_its_object objects x) e).0 in
    let to_g = (and_parts g (has_its_width x) to_h).0 in
    let to_f = (and_parts f (theta_has_states x) to_g).0 in
    let to_d = (and_parts d (regions_fit x) to_f).0 in
    let to_c = (and_parts c (has_its_regions x) to_d).0 in
    let to_b = (and_parts b (node_has_one_state_each args before x) to_c).0 in
    (and_parts a (inputs_are_last args before x) to_b).0

-- the test fails for what is known after any nodes that satisfy the property
nodes_unread : (test : Origin → Bool) (P : NodeTrees → Type 0) (objects : ℕ) (args : List Kind) → ((before : NodeTrees) → P before → IsNever test args before) → (done : List NodeTree) (ns : NodeTrees) →
    P (nodes_of done) → ((more : List NodeTree) (x : NodeTree) (after : NodeTrees) → P (joined_nodes (nodes_of more) (node_then x after)) → P (nodes_of (more ++ x ∷ []))) →
    P (joined_nodes (nodes_of done) ns) → each_node (node_fits objects args) done ns ≡ true → nodes_read test ns ≡ false
nodes_unread test P objects args never done no_nodes own step all e = refl
nodes_unread test P objects args never done (node_then (node id op inputs rs) xs) own step all e =
    let both = and_parts (node_fits objects args (nodes_of done) (node id op inputs rs)) (each_node (node_fits objects args) (done ++ node id op inputs rs ∷ []) xs) e in
    let fits = fits_inputs objects args (nodes_of done) (node id op inputs rs) both.0 in
    let ks = inputs_of op (length inputs) rs in
    let now : P (nodes_of (done ++ node id op inputs rs ∷ [])) = step done (node id op inputs rs) xs all in
    or_from (some_of test inputs) (nodes_read test xs)
    (known_unread test args (nodes_of done) (never (nodes_of done) own) inputs ks (are_kinds (map (known args (nodes_of done)) inputs) ks fits))
    (nodes_unread test P objects args never (done ++ node id op inputs rs ∷ []) xs now step (subst P (sym (joined_following done (node id op inputs rs) xs)) all) both.1)

last_known : (args : List Kind) (before : NodeTrees) (o : Origin) → is_last args before o ≡ true → (k : Kind) × (known args before o ≡ Some k)
last_known args before o e = by (known args before o) refl e
  where
    by : (x : Option Kind) → known args before o ≡ x → is_last_of x args before o ≡ true → (k : Kind) × (known args before o ≡ Some k)
    by None n e = absurd cc
    by (Some k) n e = (k, n)

results_unread : (test : Origin → Bool) (args : List Kind) (before : NodeTrees) → IsNever test args before → (os : List Origin) → all_of (is_last args before) os ≡ true → some_of test os ≡ false
results_unread test args before h [] e = refl
results_unread test args before h (o ∷ os) e =
    let both = and_parts (is_last args before o) (all_of (is_last args before) os) e in
    let k = last_known args before o both.0 in
    or_from (test o) (some_of test os) (h o k.0 k.1) (results_unread test args before h os both.1)

-- ---- a region

pub record RegionFits (objects : ℕ) (args : List Kind) (ns : NodeTrees) (results : List Origin) : Type 0 where
  pub nodes : each_node (node_fits objects args) [] ns ≡ true
  pub last : all_of (is_last args ns) results ≡ true

pub region_parts : (objects : ℕ) (args : List Kind) (ns : NodeTrees) (results : List Origin) → every_region (region_fits objects) (region args ns results) ≡ true → RegionFits objects args ns results
region_parts objects args ns results e =
    let r = region args ns results in
    let a = nodes_fit objects r in
    let b = a && results_are_last r in
    let c = b && returns_state Memory r in
    let d = c && returns_state Io r in
    let own = (and_parts (region_fits objects r) (every_in_nodes (region_fits objects) ns) e).0 in
    let to_d = (and_parts d (region_has_one_state_each r) own).0 in
    let to_c = (and_parts c (returns_state Io r) to_d).0 in
    let to_b = (and_parts b (returns_state Memory r) to_c).0 in
    let both = and_parts a (results_are_last r) to_b in
    record { nodes = both.0; last = both.1 }

short_front : (n c : ℕ) (more : List NodeTree) (x : NodeTree) (after : NodeTrees) → AreShort n c (joined_nodes (nodes_of more) (node_then x after)) → AreShort n c (nodes_of (more ++ x ∷ []))
short_front n c [] x after h = (h.0, tt)
short_front n c (y ∷ more) x after h = (h.0, short_front n c more x after h.1)

-- no output of node n beyond so many is read; and no argument that is not there
pub none_beyond : (n c objects : ℕ) (args : List Kind) (ns : NodeTrees) (results : List Origin) → RegionFits objects args ns results → AreShort n c ns → is_read (is_beyond n c) (region args ns results) ≡ false
none_beyond n c objects args ns results fits h =
    or_from (nodes_read (is_beyond n c) ns) (some_of (is_beyond n c) results)
    (nodes_unread (is_beyond n c) (AreShort n c) objects args (λ before s. never_beyond n c args before s) [] ns tt (λ more x after s. short_front n c more x after s) h fits.nodes)
    (results_unread (is_beyond n c) args ns (never_beyond n c args ns h) results fits.last)

pub none_beyond_arguments : (objects : ℕ) (args : List Kind) (ns : NodeTrees) (results : List Origin) → RegionFits objects args ns results → is_read (is_argument_beyond (length args)) (region args ns results) ≡ false
none_beyond_arguments objects args ns results fits =
    or_from (nodes_read (is_argument_beyond (length args)) ns) (some_of (is_argument_beyond (length args)) results)
    (nodes_unread (is_argument_beyond (length args)) (λ ms. Unit {0}) objects args (λ before s. never_argument args before) [] ns tt (λ more x after s. tt) tt fits.nodes)
    (results_unread (is_argument_beyond (length args)) args ns (never_argument args ns) results fits.last)

each_front : (test : NodeTrees → NodeTree → Bool) (done : List NodeTree) (xs ys : NodeTrees) → each_node test done (joined_nodes xs ys) ≡ true → each_node test done xs ≡ true
each_front test done no_nodes ys e = refl
each_front test done (node_then x xs) ys e =
    let both = and_parts (test (nodes_of done) x) (each_node test (done ++ x ∷ []) (joined_nodes xs ys)) e in
    λ i. both.0 i && each_front test (done ++ x ∷ []) xs ys both.1 i

-- nodes before a node read no output of it
pub none_before : (n objects : ℕ) (args : List Kind) (before rest : NodeTrees) (results : List Origin) → RegionFits objects args (joined_nodes before rest) results → has_node n before ≡ false →
    nodes_read (is_beyond n 0) before ≡ false
none_before n objects args before rest results fits h =
    nodes_unread (is_beyond n 0) (AreShort n 0) objects args (λ front s. never_beyond n 0 args front s) [] before tt (λ more x after s. short_front n 0 more x after s) (short_none n 0 before h)
    (each_front (node_fits objects args) [] before rest fits.nodes)

-- nor does the node itself
pub none_own : (n : ℕ) (args : List Kind) (before : NodeTrees) (inputs : List Origin) (ks : List Kind) → are (map (known args before) inputs) ks ≡ true → has_node n before ≡ false → some_of (is_beyond n 0) inputs ≡ false
none_own n args before inputs ks e h =
    known_unread (is_beyond n 0) args before (never_beyond n 0 args before (short_none n 0 before h)) inputs ks (are_kinds (map (known args before) inputs) ks e)
