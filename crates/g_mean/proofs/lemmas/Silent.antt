-- Nodes that give no state are silent.
use Rattle.std.proofs.Common.{◌≡◌, ℕ, zero, suc, Bool, true, false, ◌&&◌, ◌||◌, not, List, [], ◌∷◌, ◌++◌, map, Option, None, Some, refl, sym, ap, subst, ◌∙◌}
use Rattle.std.proofs.lemmas.Bool.{and_parts, or_parts, or_from}
use Rattle.val_core.specs.declared.values.Value.{Value}
use Rattle.val_core.specs.declared.values.Value.TheVariants.{Num, At, Bad}
use Rattle.val_core.specs.Memory.{Memory as Blocks, load, pointers_equal}
use Rattle.val_core.specs.Answers.{Answer, Returned, Cut, Exited, Undefined, before, then_on, on_number, on_defined}
use Rattle.g_graph.specs.declared.op.Kind.{Kind}
use Rattle.g_graph.specs.declared.op.Kind.TheVariants.{Memory, Io}
use Rattle.g_graph.specs.declared.op.Origin.{Origin}
use Rattle.g_graph.specs.declared.op.Op.TheVariants.{Const, Undef, Local, Delta, Bin, Un, Load, Store, Clear, PtrEq, Apply, Put, Exit, Get, Gamma, Theta}
use Rattle.g_graph.specs.Plain.{RegionTree, region, NodeTree, node, NodeTrees, no_nodes, node_then, RegionTrees, no_regions, region_then, nodes_of, id_of, args_of}
use Rattle.g_graph.specs.Signatures.{output_kinds, result_kinds}
use Rattle.g_graph.specs.Scope.{is_of, same_kind, each_node}
use Rattle.g_graph.specs.WellFormed.{same, inputs_fit, inputs_are_last, node_has_one_state_each, has_its_width, has_its_object, results_are_last, region_has_one_state_each, every_region, some_of, are, kinds_of, all_regions, gives, returns_state, every_in_node, every_in_nodes, every_in_regions, has_its_regions, regions_fit, theta_has_states, node_fits, nodes_fit, region_fits}
use Rattle.g_graph.proofs.lemmas.Indexes.{same_kind_true}
use Rattle.g_mean.specs.Data.{Datum, val, memory, input, on_memory, at_port, value_of, value_at}
use Rattle.g_mean.specs.Meaning.{Meaning, Context, chosen, branched, given, Outputs, no_outputs, extended, read, node_run, nodes_run, region_meaning, meanings}
use Rattle.g_mean.specs.Silent.{IsSilent, GivesNoState, StatelessNodesAreSilent}

-- ---- answers

then-silent : {A B : Type 0} (a : Answer A) (next : A → Answer B) → IsSilent a → ((x : A) → IsSilent (next x)) → IsSilent (then_on a next)
then-silent (Returned x o) next h go = subst (λ p. IsSilent (before p (next x))) (sym h) (go x)
then-silent (Undefined o) next h go = h
then-silent (Cut o) next h go = absurd h
then-silent (Exited o s) next h go = absurd h

number-silent : {A : Type 0} (v : Value) (next : ℕ → Answer A) → ((w : ℕ) → IsSilent (next w)) → IsSilent (on_number v next)
number-silent (Num w) next h = h w
number-silent (At b o) next h = refl
number-silent Bad next h = refl

memory-silent : {A : Type 0} (x : Datum) (next : Blocks → Answer A) → ((m : Blocks) → IsSilent (next m)) → IsSilent (on_memory x next)
memory-silent (memory m) next h = h m
memory-silent (val v) next h = refl
memory-silent (input i) next h = refl

defined-silent : {A X : Type 0} (a : Option X) (next : X → Answer A) → ((x : X) → IsSilent (next x)) → IsSilent (on_defined a next)
defined-silent (Some x) next h = h x
defined-silent None next h = refl

load-silent : (w : ℕ) (xs : List Datum) → IsSilent (on_memory (at_port xs 1) (λ m. on_defined (load w (value_at xs 0) m) given))
load-silent w xs =
    memory-silent (at_port xs 1) (λ m. on_defined (load w (value_at xs 0) m) given) (λ m. defined-silent (load w (value_at xs 0) m) given (λ v. refl))

pointers-silent : (xs : List Datum) → IsSilent (on_memory (at_port xs 2) (λ m. on_defined (pointers_equal (value_at xs 0) (value_at xs 1) m) (λ n. given (Num n))))
pointers-silent xs =
    memory-silent (at_port xs 2) (λ m. on_defined (pointers_equal (value_at xs 0) (value_at xs 1) m) (λ n. given (Num n)))
    (λ m. defined-silent (pointers_equal (value_at xs 0) (value_at xs 1) m) (λ n. given (Num n)) (λ n. refl))

abbrev AllSilent : List Meaning → Type 0
AllSilent [] = Unit {0}
AllSilent (m ∷ ms) = ((xs : List Datum) → IsSilent (m xs)) × AllSilent ms

chosen-silent : (w : ℕ) (ms : List Meaning) → AllSilent ms → (xs : List Datum) → IsSilent (chosen w ms xs)
chosen-silent w [] h xs = refl
chosen-silent w (m ∷ []) h xs = h.0 xs
chosen-silent zero (m ∷ l ∷ ms) h xs = h.0 xs
chosen-silent (suc w) (m ∷ l ∷ ms) h xs = chosen-silent w (l ∷ ms) h.1 xs

branched-silent : (ms : List Meaning) → AllSilent ms → (xs : List Datum) → IsSilent (branched ms xs)
branched-silent ms h [] = refl
branched-silent ms h (p ∷ xs) = number-silent (value_of p) (λ w. chosen w ms xs) (λ w. chosen-silent w ms h xs)

-- ---- kinds

-- where none of the first kinds is this one, and others are the same kinds, none of them is either
same-none : (k : Kind) (wanted : List (Option Kind)) (found : List (Option Kind)) → are found (kinds_of wanted) ≡ true → some_of (is_of k) wanted ≡ false → some_of (is_of k) found ≡ false
same-none k [] [] e none = refl
same-none k [] (None ∷ xs) e none = absurd cc
same-none k [] (Some i ∷ xs) e none = absurd cc
same-none k (None ∷ ws) found e none = same-none k ws found e none
same-none k (Some j ∷ ws) [] e none = absurd cc
same-none k (Some j ∷ ws) (None ∷ xs) e none = absurd cc
same-none k (Some j ∷ ws) (Some i ∷ xs) e none =
    let both = and_parts (same_kind i j) (are xs (kinds_of ws)) e in
    or_from (same_kind k i) (some_of (is_of k) xs)
    (ap (same_kind k) (same_kind_true i j both.0) ∙ (or_parts (same_kind k j) (some_of (is_of k) ws) none).0)
    (same-none k ws xs both.1 ((or_parts (same_kind k j) (some_of (is_of k) ws) none).1))

-- a region with a node that gives this state does not give it back: there is no such node
no-giver : (a b : Bool) → (not a || b) ≡ true → b ≡ false → a ≡ false
no-giver false b e d = refl
no-giver true true e d = absurd cc
no-giver true false e d = absurd cc

theta-by : (test : Bool) (a b : Bool) → (a ≡ true → b ≡ true) → (test || a) ≡ true → (test || b) ≡ true
theta-by true a b h e = refl
theta-by false a b h e = h e

pub theta-gives : (k : Kind) (ks : List Kind) → some_of (same_kind k) ks ≡ true → some_of (is_of k) (map Some ks) ≡ true
theta-gives k [] e = e
theta-gives k (j ∷ ks) e = theta-by (same_kind k j) (some_of (same_kind k) ks) (some_of (is_of k) (map Some ks)) (theta-gives k ks) e

-- ---- the parts of a node's tests

pub record NodeParts (x : NodeTree) : Type 0 where
  pub has : has_its_regions x ≡ true
  pub regions : regions_fit x ≡ true
  pub states : theta_has_states x ≡ true

eight : (a b c d e f g h : Bool) → (a && b && c && d && e && f && g && h) ≡ true → (d ≡ true) × (e ≡ true) × (f ≡ true)
eight a b c d e f g h t =
    let p = and_parts (a && b && c && d && e && f && g) h t in
    let q = and_parts (a && b && c && d && e && f) g p.0 in
    let r = and_parts (a && b && c && d && e) f q.0 in
    let s = and_parts (a && b && c && d) e r.0 in
    let u = and_parts (a && b && c) d s.0 in
    (u.1, s.1, r.1)

node-parts : (objects : ℕ) (args : List Kind) (before : NodeTrees) (x : NodeTree) → node_fits objects args before x ≡ true → NodeParts x
node-parts objects args before x t =
    let p = eight (inputs_fit args before x) (inputs_are_last args before x) (node_has_one_state_each args before x) (has_its_regions x) (regions_fit x) (theta_has_states x) (has_its_width x)
    (has_its_object objects x) t in
    record { has = p.0; regions = p.1; states = p.2 }

-- a region that fits and gives neither state, but for its nodes
pub record RegionParts (objects : ℕ) (args : List Kind) (nodes : NodeTrees) : Type 0 where
  pub fits : each_node (node_fits objects args) [] nodes ≡ true
  pub memory : gives Memory nodes ≡ false
  pub io : gives Io nodes ≡ false

region-parts : (objects : ℕ) (args : List Kind) (nodes : NodeTrees) (results : List Origin) → region_fits objects (region args nodes results) ≡ true →
    some_of (is_of Memory) (result_kinds (region args nodes results)) ≡ false → some_of (is_of Io) (result_kinds (region args nodes results)) ≡ false → RegionParts objects args nodes
region-parts objects args nodes results t none_memory none_io =
    let r = region args nodes results in
    let p = and_parts (nodes_fit objects r && results_are_last r && returns_state Memory r && returns_state Io r) (region_has_one_state_each r) t in
    let q = and_parts (nodes_fit objects r && results_are_last r && returns_state Memory r) (returns_state Io r) p.0 in
    let u = and_parts (nodes_fit objects r && results_are_last r) (returns_state Memory r) q.0 in
    let v = and_parts (nodes_fit objects r) (results_are_last r) u.0 in
    record {
      fits = v.0;
      memory = no-giver (gives Memory nodes) (some_of (is_of Memory) (result_kinds r)) u.1 none_memory;
      io = no-giver (gives Io nodes) (some_of (is_of Io) (result_kinds r)) q.1 none_io;
    }

-- ---- nodes

mutual
  node-silent : (objects : ℕ) (x : NodeTree) → NodeParts x → every_in_node (region_fits objects) x ≡ true → GivesNoState x → (c : Context) (xs : List Datum) (o : Outputs) →
      IsSilent (node_run c x xs o)
  node-silent objects (node id (Const w) inputs rs) p nested none c xs o = refl
  node-silent objects (node id Undef inputs rs) p nested none c xs o = refl
  node-silent objects (node id (Local k) inputs rs) p nested none c xs o = refl
  node-silent objects (node id (Delta k) inputs rs) p nested none c xs o = refl
  node-silent objects (node id (Bin op) inputs rs) p nested none c xs o = refl
  node-silent objects (node id (Un op) inputs rs) p nested none c xs o = refl
  node-silent objects (node id (Load w) inputs rs) p nested none c xs o =
      load-silent w (map (read xs o) inputs)
  node-silent objects (node id PtrEq inputs rs) p nested none c xs o =
      pointers-silent (map (read xs o) inputs)
  node-silent objects (node id (Store w) inputs rs) p nested none c xs o = let h = none.memory in absurd cc
  node-silent objects (node id (Clear k) inputs rs) p nested none c xs o = let h = none.memory in absurd cc
  node-silent objects (node id (Apply f) inputs rs) p nested none c xs o = let h = none.memory in absurd cc
  node-silent objects (node id Put inputs rs) p nested none c xs o = let h = none.io in absurd cc
  node-silent objects (node id Exit inputs rs) p nested none c xs o = let h = none.io in absurd cc
  node-silent objects (node id Get inputs rs) p nested none c xs o = let h = none.io in absurd cc
  node-silent objects (node id Theta inputs no_regions) p nested none c xs o = let h = p.has in absurd cc
  node-silent objects (node id Theta inputs (region_then r rs)) p nested none c xs o =
      let all = and_parts (some_of (same_kind Memory) (args_of r) && some_of (same_kind Io) (args_of r))
      (all_regions (λ s. some_of (same_kind Memory) (args_of s) && some_of (same_kind Io) (args_of s)) rs) p.states in
      let both = and_parts (some_of (same_kind Memory) (args_of r)) (some_of (same_kind Io) (args_of r)) all.0 in
      let gives_it = theta-gives Memory (args_of r) both.0 in
      let gives_none = none.memory in
      absurd cc
  node-silent objects (node id Gamma inputs no_regions) p nested none c xs o = let h = p.has in absurd cc
  node-silent objects (node id Gamma inputs (region_then r rs)) p nested none c xs o =
      branched-silent (meanings c (region_then r rs)) (regions-silent objects (result_kinds r) (args_of r) (region_then r rs) p.regions nested none.memory none.io c) (map (read xs o) inputs)

  regions-silent : (objects : ℕ) (ks : List (Option Kind)) (first : List Kind) (rs : RegionTrees) → all_regions (λ r. same (args_of r) first && are (result_kinds r) (kinds_of ks)) rs ≡ true →
      every_in_regions (region_fits objects) rs ≡ true → some_of (is_of Memory) ks ≡ false → some_of (is_of Io) ks ≡ false → (c : Context) → AllSilent (meanings c rs)
  regions-silent objects ks first no_regions t nested none_memory none_io c = tt
  regions-silent objects ks first (region_then r rs) t nested none_memory none_io c =
      let p = and_parts (same (args_of r) first && are (result_kinds r) (kinds_of ks)) (all_regions (λ s. same (args_of s) first && are (result_kinds s) (kinds_of ks)) rs) t in
      let q = and_parts (same (args_of r) first) (are (result_kinds r) (kinds_of ks)) p.0 in
      let u = and_parts (every_region (region_fits objects) r) (every_in_regions (region_fits objects) rs) nested in (
        region-silent objects r u.0 (same-none Memory ks (result_kinds r) q.1 none_memory)
            (same-none Io ks (result_kinds r) q.1 none_io) c,
        regions-silent objects ks first rs p.1 u.1 none_memory none_io c,
      )

  region-silent : (objects : ℕ) (r : RegionTree) → every_region (region_fits objects) r ≡ true → some_of (is_of Memory) (result_kinds r) ≡ false → some_of (is_of Io) (result_kinds r) ≡ false →
      (c : Context) (xs : List Datum) → IsSilent (region_meaning c r xs)
  region-silent objects (region args nodes results) t none_memory none_io c xs =
      let p = and_parts (region_fits objects (region args nodes results)) (every_in_nodes (region_fits objects) nodes) t in
      let q = region-parts objects args nodes results p.0 none_memory none_io in
      then-silent (nodes_run c nodes xs no_outputs) (λ o. Returned (map (read xs o) results) []) (nodes-silent objects args [] nodes q.fits p.1 q.memory q.io c xs no_outputs) (λ o. refl)

  nodes-silent : (objects : ℕ) (args : List Kind) (earlier : List NodeTree) (ns : NodeTrees) → each_node (node_fits objects args) earlier ns ≡ true →
      every_in_nodes (region_fits objects) ns ≡ true → gives Memory ns ≡ false → gives Io ns ≡ false → (c : Context) (xs : List Datum) (o : Outputs) → IsSilent (nodes_run c ns xs o)
  nodes-silent objects args earlier no_nodes t nested none_memory none_io c xs o = refl
  nodes-silent objects args earlier (node_then x ns) t nested none_memory none_io c xs o =
      let p = and_parts (node_fits objects args (nodes_of earlier) x) (each_node (node_fits objects args) (earlier ++ x ∷ []) ns) t in
      let q = and_parts (every_in_node (region_fits objects) x) (every_in_nodes (region_fits objects) ns) nested in
      then-silent (node_run c x xs o) (λ ys. nodes_run c ns xs (extended o (id_of x) ys))
      (node-silent objects x (node-parts objects args (nodes_of earlier) x p.0) q.0
      (record {
        memory = (or_parts (some_of (is_of Memory) (output_kinds x)) (gives Memory ns) none_memory).0;
        io =
            (or_parts (some_of (is_of Io) (output_kinds x)) (gives Io ns) none_io).0;
      }) c xs o)
      (λ ys. nodes-silent objects args (earlier ++ x ∷ []) ns p.1 q.1 ((or_parts (some_of (is_of Memory) (output_kinds x)) (gives Memory ns) none_memory).1)
      ((or_parts (some_of (is_of Io) (output_kinds x)) (gives Io ns) none_io).1) c xs (extended o (id_of x) ys))

pub stateless_nodes_are_silent : StatelessNodesAreSilent
stateless_nodes_are_silent objects args before x fits none c xs o =
    node-silent objects x (node-parts objects args before x fits.fits) fits.nested none c xs o
