-- Data keep their kinds.
use Rattle.std.proofs.Common.{◌≡◌, ℕ, zero, suc, ◌-◌, ◌%◌, ◌==◌, ◌⊎◌, Bool, true, false, ◌&&◌, cond, List, [], ◌∷◌, ◌++◌, map, length, slice_get, Option, None, Some, refl, sym, ap, ap₂, subst, subst₂, ◌∙◌, ◌+◌, ◌*◌, inl, inr, le_refl}
use Rattle.std.proofs.lemmas.Bool.{and_parts}
use Rattle.val_core.specs.declared.values.Value.{Value}
use Rattle.val_core.specs.declared.values.Value.TheVariants.{Num, At, Bad}
use Rattle.val_core.specs.Values.{IsLessDefined}
use Rattle.val_core.specs.Memory.{Memory as Blocks, load, store, pointers_equal, closed, cleared_at}
use Rattle.val_core.specs.Events.{wrote}
use Rattle.val_core.specs.Answers.{Answer, Returned, Cut, Exited, Undefined, Gives, on_number, on_defined}
use Rattle.val_core.proofs.lemmas.Answers.{gives-then, gives-active}
use Rattle.g_graph.specs.declared.op.Kind.{Kind}
use Rattle.g_graph.specs.declared.op.Kind.TheVariants.{Value as ValueKind, Memory, Io}
use Rattle.g_graph.specs.declared.op.Op.{Op}
use Rattle.g_graph.specs.declared.op.Op.TheVariants.{Const, Undef, Local, Delta, Bin, Un, Load, Store, Clear, PtrEq, Apply, Put, Exit, Get, Gamma, Theta}
use Rattle.g_graph.specs.declared.op.Origin.{Origin}
use Rattle.g_graph.specs.declared.op.Origin.TheVariants.{Arg, Out}
use Rattle.g_graph.specs.Plain.{RegionTree, region, NodeTree, node, NodeTrees, no_nodes, node_then, RegionTrees, no_regions, region_then, nodes_of, id_of, args_of, PlainLambda, shapes_of}
use Rattle.g_graph.specs.Signatures.{result_kinds, output_kinds, kind_after, joined}
use Rattle.g_graph.specs.Splice.{joined_nodes}
use Rattle.g_graph.specs.Scope.{each_node, known}
use Rattle.g_graph.specs.WellFormed.{IsWellFormed, are, same, kinds_of, all_regions, inputs_fit, inputs_are_last, node_has_one_state_each, has_its_regions, regions_fit, theta_has_states, has_its_width, has_its_object, node_fits, nodes_fit, results_are_last, returns_state, region_has_one_state_each, region_fits, every_region, every_in_node, every_in_nodes, every_in_regions, body_fits, numbers_fit, leaves_fit, all_of, well_formed}
use Rattle.g_graph.proofs.lemmas.Nodes.{are_kinds, same_kinds}
use Rattle.g_graph.proofs.lemmas.Splices.{joined_none, joined_following}
use Rattle.g_mean.specs.Data.{Datum, val, memory, input, at_port, value_of, value_at, on_memory, on_input, with_memory, changed_at}
use Rattle.g_mean.specs.Meaning.{Meaning, Context, given, given_memory, got, done, chosen, branched, again, turns, Outputs, no_outputs, extended, read, node_run, nodes_run, region_meaning, meanings}
use Rattle.g_mean.specs.Calls.{inside, entered, applied, lambda_at}
use Rattle.val_core.specs.Refinement.{Direction, Forward, Backward, Refines, no_deeper}
use Rattle.val_core.specs.Objects.{opened}
use Rattle.val_core.proofs.lemmas.Refinement.{forward-within, backward-within, backward-defined, backward-no-deeper, no_deeper-output, no_deeper-depth}
use Rattle.g_mean.specs.Replacement.{IsTwice}
use Rattle.g_mean.proofs.lemmas.Replacement.{lambda-refines}
use Rattle.g_mean.specs.LessDefined.{Paired, IsLessDefinedDatum}
use Rattle.g_mean.specs.Kinds.{IsOfKind, AreOfKinds, AreWellFormed, call_takes, call_gives, KeepsKinds, CallsKeepKinds, OutputsHaveKinds, MapHasKinds, RegionsKeepKinds, NodesKeepKinds, MapsKeepKinds, AppliedKeepsKinds, LambdasKeepKinds, ReturnsRefine, WellFormedKeepMeaning}

-- ---- lists of kinds

-- the kinds of some origins, where each has one, are those of what they carry
origins-kinds : (find : Origin → Option Kind) (carry : Origin → Datum) → ((a : Origin) (k : Kind) → find a ≡ Some k → IsOfKind k (carry a)) → (origins : List Origin) (ks : List Kind) →
    map find origins ≡ map Some ks → AreOfKinds ks (map carry origins)
origins-kinds find carry h [] [] e = tt
origins-kinds find carry h [] (k ∷ ks) e = absurd cc
origins-kinds find carry h (a ∷ origins) [] e = absurd cc
origins-kinds find carry h (a ∷ origins) (k ∷ ks) e =
    let first : find a ≡ Some k = cc in
    let rest : map find origins ≡ map Some ks = cc in
    (h a k first, origins-kinds find carry h origins ks rest)

at-kind : (ks : List Kind) (xs : List Datum) → AreOfKinds ks xs → (p : ℕ) (k : Kind) → slice_get ks p ≡ Some k → IsOfKind k (at_port xs p)
at-kind [] [] h p k e = absurd cc
at-kind [] (x ∷ xs) h p k e = absurd h
at-kind (j ∷ ks) [] h p k e = absurd h
at-kind (j ∷ ks) (x ∷ xs) h zero k e = let same : j ≡ k = cc in subst (λ z. IsOfKind z x) same h.0
at-kind (j ∷ ks) (x ∷ xs) h (suc p) k e = at-kind ks xs h.1 p k e

pub joined-some : (ks : List Kind) (p : ℕ) (k : Kind) → joined (slice_get (map Some ks) p) ≡ Some k → slice_get ks p ≡ Some k
joined-some [] p k e = absurd cc
joined-some (j ∷ ks) zero k e = e
joined-some (j ∷ ks) (suc p) k e = joined-some ks p k e

-- ---- answers

defined-gives : {A X : Type 0} (P : A → Type 0) (a : Option X) (next : X → Answer A) → ((x : X) → Gives P (next x)) → Gives P (on_defined a next)
defined-gives P (Some x) next h = h x
defined-gives P None next h = tt

memory-gives : {A : Type 0} (P : A → Type 0) (x : Datum) (next : Blocks → Answer A) → ((m : Blocks) → x ≡ memory m → Gives P (next m)) → Gives P (on_memory x next)
memory-gives P (memory m) next h = h m refl
memory-gives P (val v) next h = tt
memory-gives P (input i) next h = tt

input-gives : {A : Type 0} (P : A → Type 0) (x : Datum) (next : List ℕ → Answer A) → ((i : List ℕ) → Gives P (next i)) → Gives P (on_input x next)
input-gives P (input i) next h = h i
input-gives P (val v) next h = tt
input-gives P (memory m) next h = tt

number-gives : {A : Type 0} (P : A → Type 0) (v : Value) (next : ℕ → Answer A) → ((w : ℕ) → Gives P (next w)) → Gives P (on_number v next)
number-gives P (Num w) next h = h w
number-gives P (At b o) next h = tt
number-gives P Bad next h = tt

got-gives : (i : List ℕ) → Gives (AreOfKinds (ValueKind ∷ Io ∷ [])) (got i)
got-gives [] = (tt, (tt, tt))
got-gives (b ∷ i) = (tt, (tt, tt))

-- ---- one node

kinds-out : (ks : List Kind) (ys : List Datum) → AreOfKinds ks ys → OutputsHaveKinds (map Some ks) ys
kinds-out ks ys h p k e = at-kind ks ys h p k (joined-some ks p k e)

abbrev AllKeep : List Kind → List Kind → List Meaning → Type 0
AllKeep takes gives [] = Unit {0}
AllKeep takes gives (m ∷ ms) = KeepsKinds takes gives m × AllKeep takes gives ms

chosen-keeps : (takes gives : List Kind) (w : ℕ) (ms : List Meaning) → AllKeep takes gives ms → KeepsKinds takes gives (chosen w ms)
chosen-keeps takes gives w [] h xs k = tt
chosen-keeps takes gives w (m ∷ []) h xs k = h.0 xs k
chosen-keeps takes gives zero (m ∷ l ∷ ms) h xs k = h.0 xs k
chosen-keeps takes gives (suc w) (m ∷ l ∷ ms) h xs k = chosen-keeps takes gives w (l ∷ ms) h.1 xs k

branched-keeps : (takes gives : List Kind) (ms : List Meaning) → AllKeep takes gives ms → KeepsKinds (ValueKind ∷ takes) gives (branched ms)
branched-keeps takes gives ms h [] k = absurd k
branched-keeps takes gives ms h (p ∷ xs) k =
    number-gives (AreOfKinds gives) (value_of p) (λ w. chosen w ms xs) (λ w. chosen-keeps takes gives w ms h xs k.1)

again-keeps : (ks : List Kind) (next : Meaning) → KeepsKinds ks ks next → (ys : List Datum) → AreOfKinds (ValueKind ∷ ks) ys → Gives (AreOfKinds ks) (again next ys)
again-keeps ks next h [] k = absurd k
again-keeps ks next h (p ∷ ys) k =
    number-gives (AreOfKinds ks) (value_of p) (λ w. cond (w == 0) (Returned ys []) (next ys)) (λ w. by (w == 0))
  where
    by : (test : Bool) → Gives (AreOfKinds ks) (cond test (Returned ys []) (next ys))
    by true = k.1
    by false = h ys k.1

turns-keep : (ks : List Kind) (n : ℕ) (body : Meaning) → KeepsKinds ks (ValueKind ∷ ks) body → KeepsKinds ks ks (turns n body)
turns-keep ks zero body h xs k = tt
turns-keep ks (suc n) body h xs k =
    gives-then (AreOfKinds (ValueKind ∷ ks)) (AreOfKinds ks) (body xs) (again (turns n body)) (h xs k)
    (λ ys j. again-keeps ks (turns n body) (λ us i. turns-keep ks n body h us i) ys j)

gives-out : (ks : List Kind) (a : Answer (List Datum)) → Gives (AreOfKinds ks) a → Gives (OutputsHaveKinds (map Some ks)) a
gives-out ks (Returned ys o) h = kinds-out ks ys h
gives-out ks (Cut o) h = tt
gives-out ks (Exited o s) h = tt
gives-out ks (Undefined o) h = tt

-- ---- the map

pub after-more : (before : List NodeTree) (x : NodeTree) (n p : ℕ) (found : Option Kind) →
    kind_after (nodes_of (before ++ x ∷ [])) n p found ≡ cond (id_of x == n) (joined (slice_get (output_kinds x) p)) (kind_after (nodes_of before) n p found)
after-more [] x n p found = refl
after-more (y ∷ before) x n p found = after-more before x n p (cond (id_of y == n) (joined (slice_get (output_kinds y) p)) found)

map-more : (before : List NodeTree) (x : NodeTree) (o : Outputs) → MapHasKinds (nodes_of before) o → (ys : List Datum) → OutputsHaveKinds (output_kinds x) ys →
    MapHasKinds (nodes_of (before ++ x ∷ [])) (extended o (id_of x) ys)
map-more before x o h ys k n p j e = by (id_of x == n) (sym (after-more before x n p None) ∙ e)
  where
    by : (test : Bool) → cond test (joined (slice_get (output_kinds x) p)) (kind_after (nodes_of before) n p None) ≡ Some j → IsOfKind j (cond test (at_port ys p) (o n p))
    by true d = k p j d
    by false d = h n p j d

read-kind : (args : List Kind) (xs : List Datum) → AreOfKinds args xs → (ns : NodeTrees) (o : Outputs) → MapHasKinds ns o → (a : Origin) (k : Kind) → known args ns a ≡ Some k →
    IsOfKind k (read xs o a)
read-kind args xs h ns o m (Arg n) k e = at-kind args xs h n k e
read-kind args xs h ns o m (Out n p) k e = m n p k e

-- ---- the tests of a node and of a region

pub record NodeTests (args : List Kind) (earlier : NodeTrees) (x : NodeTree) : Type 0 where
  pub inputs : inputs_fit args earlier x ≡ true
  pub last : inputs_are_last args earlier x ≡ true
  pub has : has_its_regions x ≡ true
  pub regions : regions_fit x ≡ true
  pub states : theta_has_states x ≡ true

eight : (a b c d e f g h : Bool) → (a && b && c && d && e && f && g && h) ≡ true → (a ≡ true) × (b ≡ true) × (d ≡ true) × (e ≡ true) × (f ≡ true)
eight a b c d e f g h t =
    let p = and_parts (a && b && c && d && e && f && g) h t in
    let q = and_parts (a && b && c && d && e && f) g p.0 in
    let r = and_parts (a && b && c && d && e) f q.0 in
    let s = and_parts (a && b && c && d) e r.0 in
    let u = and_parts (a && b && c) d s.0 in
    let v = and_parts (a && b) c u.0 in
    let w = and_parts a b v.0 in
    (w.0, w.1, u.1, s.1, r.1)

pub node-tests : (k : ℕ) (args : List Kind) (b : NodeTrees) (x : NodeTree) → node_fits k args b x ≡ true → NodeTests args b x
node-tests k args b x t =
    let w = eight (inputs_fit args b x) (inputs_are_last args b x) (node_has_one_state_each args b x) (has_its_regions x) (regions_fit x) (theta_has_states x) (has_its_width x)
    (has_its_object k x) t in
    record { inputs = w.0; last = w.1; has = w.2; regions = w.3; states = w.4 }

region-nodes : (k : ℕ) (r : RegionTree) → region_fits k r ≡ true → nodes_fit k r ≡ true
region-nodes k r t =
    let p = and_parts (nodes_fit k r && results_are_last r && returns_state Memory r && returns_state Io r) (region_has_one_state_each r) t in
    let q = and_parts (nodes_fit k r && results_are_last r && returns_state Memory r) (returns_state Io r) p.0 in
    let u = and_parts (nodes_fit k r && results_are_last r) (returns_state Memory r) q.0 in
    (and_parts (nodes_fit k r) (results_are_last r) u.0).0

-- ---- regions

module _ (objects : ℕ) (c : Context) (calls : CallsKeepKinds c.call) where
  done-gives : (ks : List Kind) (op : Op) (us : List Datum) → Gives (AreOfKinds ks) (done c.addresses op us) → Gives (OutputsHaveKinds (map Some ks)) (done c.addresses op us)
  done-gives ks op us h = gives-out ks (done c.addresses op us) h

  mutual
    region-keeps : (r : RegionTree) → every_region (region_fits objects) r ≡ true → (gives : List Kind) → result_kinds r ≡ map Some gives → KeepsKinds (args_of r) gives (region_meaning c r)
    region-keeps (region args nodes results) t gives e xs kinds =
        let p = and_parts (region_fits objects (region args nodes results)) (every_in_nodes (region_fits objects) nodes) t in
        gives-then (MapHasKinds nodes) (AreOfKinds gives) (nodes_run c nodes xs no_outputs) (λ o. Returned (map (read xs o) results) [])
        (nodes-keep args [] nodes (region-nodes objects (region args nodes results) p.0) p.1 xs kinds no_outputs (λ n q k d. absurd cc))
        (λ o m. origins-kinds (known args nodes) (read xs o) (λ a k d. read-kind args xs kinds nodes o m a k d) results gives e)

    nodes-keep : (args : List Kind) (before : List NodeTree) (ns : NodeTrees) → each_node (node_fits objects args) before ns ≡ true → every_in_nodes (region_fits objects) ns ≡ true →
        (xs : List Datum) → AreOfKinds args xs → (o : Outputs) → MapHasKinds (nodes_of before) o → Gives (MapHasKinds (joined_nodes (nodes_of before) ns)) (nodes_run c ns xs o)
    nodes-keep args before no_nodes t nested xs kinds o m = subst (λ ns. MapHasKinds ns o) (sym (joined_none (nodes_of before))) m
    nodes-keep args before (node_then x ns) t nested xs kinds o m =
        let p = and_parts (node_fits objects args (nodes_of before) x) (each_node (node_fits objects args) (before ++ x ∷ []) ns) t in
        let q = and_parts (every_in_node (region_fits objects) x) (every_in_nodes (region_fits objects) ns) nested in
        gives-then (OutputsHaveKinds (output_kinds x)) (MapHasKinds (joined_nodes (nodes_of before) (node_then x ns))) (node_run c x xs o) (λ us. nodes_run c ns xs (extended o (id_of x) us))
        (node-keeps args (nodes_of before) x (node-tests objects args (nodes_of before) x p.0) q.0 xs kinds o m)
        (λ us h. subst (λ ms. Gives (MapHasKinds ms) (nodes_run c ns xs (extended o (id_of x) us))) (joined_following before x ns)
        (nodes-keep args (before ++ x ∷ []) ns p.1 q.1 xs kinds (extended o (id_of x) us) (map-more before x o m us h)))

    node-keeps : (args : List Kind) (b : NodeTrees) (x : NodeTree) → NodeTests args b x → every_in_node (region_fits objects) x ≡ true → (xs : List Datum) → AreOfKinds args xs → (o : Outputs) →
        MapHasKinds b o → Gives (OutputsHaveKinds (output_kinds x)) (node_run c x xs o)
    node-keeps args b (node id (Const w) inputs rs) t nested xs kinds o m = done-gives (ValueKind ∷ []) (Const w) (map (read xs o) inputs) (tt, tt)
    node-keeps args b (node id Undef inputs rs) t nested xs kinds o m = done-gives (ValueKind ∷ []) Undef (map (read xs o) inputs) (tt, tt)
    node-keeps args b (node id (Local k) inputs rs) t nested xs kinds o m = done-gives (ValueKind ∷ []) (Local k) (map (read xs o) inputs) (tt, tt)
    node-keeps args b (node id (Delta k) inputs rs) t nested xs kinds o m = done-gives (ValueKind ∷ []) (Delta k) (map (read xs o) inputs) (tt, tt)
    node-keeps args b (node id (Bin op) inputs rs) t nested xs kinds o m = done-gives (ValueKind ∷ []) (Bin op) (map (read xs o) inputs) (tt, tt)
    node-keeps args b (node id (Un op) inputs rs) t nested xs kinds o m = done-gives (ValueKind ∷ []) (Un op) (map (read xs o) inputs) (tt, tt)
    node-keeps args b (node id (Load w) inputs rs) t nested xs kinds o m =
        let us = map (read xs o) inputs in
        done-gives (ValueKind ∷ []) (Load w) us
        (memory-gives (AreOfKinds (ValueKind ∷ [])) (at_port us 1) (λ j. on_defined (load w (value_at us 0) j) given)
        (λ j e. defined-gives (AreOfKinds (ValueKind ∷ [])) (load w (value_at us 0) j) given (λ v. (tt, tt))))
    node-keeps args b (node id (Store w) inputs rs) t nested xs kinds o m =
        let us = map (read xs o) inputs in
        done-gives (Memory ∷ []) (Store w) us
        (memory-gives (AreOfKinds (Memory ∷ [])) (at_port us 2) (λ j. on_defined (store w (value_at us 0) (value_at us 1) j) given_memory)
        (λ j e. defined-gives (AreOfKinds (Memory ∷ [])) (store w (value_at us 0) (value_at us 1) j) given_memory (λ v. (tt, tt))))
    node-keeps args b (node id (Clear k) inputs rs) t nested xs kinds o m =
        let us = map (read xs o) inputs in
        done-gives (Memory ∷ []) (Clear k) us
        (memory-gives (AreOfKinds (Memory ∷ [])) (at_port us 0) (λ j. on_defined (cleared_at (c.addresses.local k) j) given_memory)
        (λ j e. defined-gives (AreOfKinds (Memory ∷ [])) (cleared_at (c.addresses.local k) j) given_memory (λ v. (tt, tt))))
    node-keeps args b (node id PtrEq inputs rs) t nested xs kinds o m =
        let us = map (read xs o) inputs in
        done-gives (ValueKind ∷ []) PtrEq us
        (memory-gives (AreOfKinds (ValueKind ∷ [])) (at_port us 2) (λ j. on_defined (pointers_equal (value_at us 0) (value_at us 1) j) (λ n. given (Num n)))
        (λ j e. defined-gives (AreOfKinds (ValueKind ∷ [])) (pointers_equal (value_at us 0) (value_at us 1) j) (λ n. given (Num n)) (λ v. (tt, tt))))
    node-keeps args b (node id Put inputs rs) t nested xs kinds o m =
        let us = map (read xs o) inputs in
        done-gives (Io ∷ []) Put us
        (number-gives (AreOfKinds (Io ∷ [])) (value_at us 0) (λ w. on_input (at_port us 1) (λ i. Returned (input i ∷ []) (wrote (w % 256) ∷ [])))
        (λ w. input-gives (AreOfKinds (Io ∷ [])) (at_port us 1) (λ i. Returned (input i ∷ []) (wrote (w % 256) ∷ [])) (λ i. (tt, tt))))
    node-keeps args b (node id Exit inputs rs) t nested xs kinds o m =
        let us = map (read xs o) inputs in
        done-gives (Io ∷ []) Exit us (number-gives (AreOfKinds (Io ∷ [])) (value_at us 0) (λ w. Exited [] (w % 256)) (λ w. tt))
    node-keeps args b (node id Get inputs rs) t nested xs kinds o m =
        let us = map (read xs o) inputs in
        done-gives (ValueKind ∷ Io ∷ []) Get us (input-gives (AreOfKinds (ValueKind ∷ Io ∷ [])) (at_port us 0) got got-gives)
    node-keeps args b (node id (Apply f) inputs rs) t nested xs kinds o m =
        let us = origins-kinds (known args b) (read xs o) (λ a k d. read-kind args xs kinds b o m a k d) inputs (call_takes (length inputs - 2))
        (are_kinds (map (known args b) inputs) (call_takes (length inputs - 2)) t.inputs) in
        gives-out call_gives (c.call f (map (read xs o) inputs)) (calls f (length inputs - 2) (map (read xs o) inputs) us)
    node-keeps args b (node id Gamma inputs no_regions) t nested xs kinds o m = let h = t.has in absurd cc
    node-keeps args b (node id Gamma inputs (region_then r rs)) t nested xs kinds o m =
        let ks = result_kinds r in
        let takes = ValueKind ∷ args_of r in
        let us = origins-kinds (known args b) (read xs o) (λ a k d. read-kind args xs kinds b o m a k d) inputs takes (are_kinds (map (known args b) inputs) takes t.inputs) in
        let first = and_parts (same (args_of r) (args_of r) && are (result_kinds r) (kinds_of ks))
        (all_regions (λ s. same (args_of s) (args_of r) && are (result_kinds s) (kinds_of ks)) rs) t.regions in
        let own = are_kinds ks (kinds_of ks) (and_parts (same (args_of r) (args_of r)) (are (result_kinds r) (kinds_of ks)) first.0).1 in
        subst (λ js. Gives (OutputsHaveKinds js) (branched (meanings c (region_then r rs)) (map (read xs o) inputs))) (sym own)
        (gives-out (kinds_of ks) (branched (meanings c (region_then r rs)) (map (read xs o) inputs))
        (branched-keeps (args_of r) (kinds_of ks) (meanings c (region_then r rs)) (regions-keep (args_of r) (kinds_of ks) (region_then r rs) t.regions nested) (map (read xs o) inputs) us))
    node-keeps args b (node id Theta inputs no_regions) t nested xs kinds o m = let h = t.has in absurd cc
    node-keeps args b (node id Theta inputs (region_then r rs)) t nested xs kinds o m =
        let us = origins-kinds (known args b) (read xs o) (λ a k d. read-kind args xs kinds b o m a k d) inputs (args_of r) (are_kinds (map (known args b) inputs) (args_of r) t.inputs) in
        let first = and_parts (are (result_kinds r) (ValueKind ∷ args_of r)) (all_regions (λ s. are (result_kinds s) (ValueKind ∷ args_of s)) rs) t.regions in
        let fits = and_parts (every_region (region_fits objects) r) (every_in_regions (region_fits objects) rs) nested in
        gives-out (args_of r) (turns c.bound (region_meaning c r) (map (read xs o) inputs))
        (turns-keep (args_of r) c.bound (region_meaning c r) (region-keeps r fits.0 (ValueKind ∷ args_of r) (are_kinds (result_kinds r) (ValueKind ∷ args_of r) first.0)) (map (read xs o) inputs) us)

    regions-keep : (takes gives : List Kind) (rs : RegionTrees) → all_regions (λ s. same (args_of s) takes && are (result_kinds s) gives) rs ≡ true →
        every_in_regions (region_fits objects) rs ≡ true → AllKeep takes gives (meanings c rs)
    regions-keep takes gives no_regions t nested = tt
    regions-keep takes gives (region_then r rs) t nested =
        let p = and_parts (same (args_of r) takes && are (result_kinds r) gives) (all_regions (λ s. same (args_of s) takes && are (result_kinds s) gives) rs) t in
        let q = and_parts (same (args_of r) takes) (are (result_kinds r) gives) p.0 in
        let fits = and_parts (every_region (region_fits objects) r) (every_in_regions (region_fits objects) rs) nested in (
          subst (λ ks. KeepsKinds ks gives (region_meaning c r)) (same_kinds (args_of r) takes q.0)
              (region-keeps r fits.0 gives (are_kinds (result_kinds r) gives q.1)),
          regions-keep takes gives rs p.1 fits.1,
        )

-- ---- calls

changed-kinds : (ks : List Kind) (n : ℕ) (f : Blocks → Blocks) (xs : List Datum) → AreOfKinds ks xs → AreOfKinds ks (changed_at n (with_memory f) xs)
changed-kinds [] n f [] h = tt
changed-kinds [] n f (x ∷ xs) h = absurd h
changed-kinds (k ∷ ks) n f [] h = absurd h
changed-kinds (k ∷ ks) zero f (x ∷ xs) h = (by k x h.0, h.1)
  where
    by : (k : Kind) (x : Datum) → IsOfKind k x → IsOfKind k (with_memory f x)
    by ValueKind (val v) h = tt
    by Memory (memory m) h = tt
    by Io (input i) h = tt
    by ValueKind (memory m) h = absurd h
    by ValueKind (input i) h = absurd h
    by Memory (val v) h = absurd h
    by Memory (input i) h = absurd h
    by Io (val v) h = absurd h
    by Io (memory m) h = absurd h
changed-kinds (k ∷ ks) (suc n) f (x ∷ xs) h = (h.0, changed-kinds ks n f xs h.1)

-- the memory stands after the values
memory-place : (count : ℕ) (xs : List Datum) → AreOfKinds (call_takes count) xs → (n : ℕ) (m : Blocks) → at_port xs n ≡ memory m → n ≡ count
memory-place zero [] h n m e = absurd h
memory-place zero (x ∷ []) h n m e = absurd h.1
memory-place zero (x ∷ y ∷ xs) h zero m e = refl
memory-place zero (x ∷ val v ∷ xs) h (suc zero) m e = absurd h.1.0
memory-place zero (x ∷ memory k ∷ xs) h (suc zero) m e = absurd h.1.0
memory-place zero (x ∷ input i ∷ xs) h (suc zero) m e = absurd cc
memory-place zero (x ∷ y ∷ []) h (suc (suc n)) m e = absurd cc
memory-place zero (x ∷ y ∷ z ∷ xs) h (suc (suc n)) m e = absurd h.1.1
memory-place (suc count) [] h n m e = absurd h
memory-place (suc count) (val v ∷ xs) h zero m e = absurd cc
memory-place (suc count) (memory k ∷ xs) h zero m e = absurd h.0
memory-place (suc count) (input i ∷ xs) h zero m e = absurd h.0
memory-place (suc count) (x ∷ xs) h (suc n) m e = ap suc (memory-place count xs h.1 n m e)

pub found-well : (ls : List PlainLambda) → AreWellFormed ls → (f : ℕ) (l : PlainLambda) → slice_get ls f ≡ Some l → well_formed l ≡ true
found-well [] h f l e = absurd cc
found-well (k ∷ ls) h zero l e = let same : k ≡ l = cc in subst (λ z. well_formed z ≡ true) same h.0
found-well (k ∷ ls) h (suc f) l e = found-well ls h.1 f l e

entered-keeps : (n : ℕ) (call : ℕ → Meaning) (global : ℕ → Value) → CallsKeepKinds call → (l : PlainLambda) → well_formed l ≡ true → (count : ℕ) →
    KeepsKinds (call_takes count) call_gives (entered n call global (Some l))
entered-keeps n call global calls l well count xs kinds =
    memory-gives (AreOfKinds call_gives) (at_port xs l.params) _ (λ m e.
    let p = and_parts (body_fits l && numbers_fit l && every_region (region_fits (length l.objects)) l.body) (all_of (λ o. leaves_fit o.size 0 o.leaves) l.objects) well in
    let q = and_parts (body_fits l && numbers_fit l) (every_region (region_fits (length l.objects)) l.body) p.0 in
    let r = and_parts (body_fits l) (numbers_fit l) q.0 in
    let b = and_parts (same (args_of l.body) (call_takes l.params)) (are (result_kinds l.body) call_gives) r.0 in
    let place = memory-place count xs kinds l.params m e in
    let args : call_takes count ≡ args_of l.body = ap call_takes (sym place) ∙ sym (same_kinds (args_of l.body) (call_takes l.params) b.0) in
    let body = region-keeps (length l.objects) (inside n call global l.objects m) calls l.body q.1 call_gives (are_kinds (result_kinds l.body) call_gives b.1) in
    gives-then (AreOfKinds call_gives) (AreOfKinds call_gives)
    (region_meaning (inside n call global l.objects m) l.body (changed_at l.params (with_memory (λ k. k ++ opened (shapes_of l.objects))) xs))
    (λ ys. Returned (changed_at 1 (with_memory (closed (length m) (length l.objects))) ys) [])
    (body (changed_at l.params (with_memory (λ k. k ++ opened (shapes_of l.objects))) xs)
    (subst (λ ks. AreOfKinds ks (changed_at l.params (with_memory (λ k. k ++ opened (shapes_of l.objects))) xs)) args
    (changed-kinds (call_takes count) l.params (λ k. k ++ opened (shapes_of l.objects)) xs kinds)))
    (λ ys h. changed-kinds call_gives 1 (closed (length m) (length l.objects)) ys h))

found-keeps : (n : ℕ) (call : ℕ → Meaning) (global : ℕ → Value) → CallsKeepKinds call → (found : Option PlainLambda) → ((l : PlainLambda) → found ≡ Some l → well_formed l ≡ true) → (count : ℕ) →
    KeepsKinds (call_takes count) call_gives (entered n call global found)
found-keeps n call global calls None well count xs kinds = tt
found-keeps n call global calls (Some l) well count xs kinds = entered-keeps n call global calls l (well l refl) count xs kinds

applied-keeps : (ls : List PlainLambda) (global : ℕ → Value) → AreWellFormed ls → (n : ℕ) → CallsKeepKinds (applied ls global n)
applied-keeps ls global well zero f count xs kinds = tt
applied-keeps ls global well (suc n) f count xs kinds =
    gives-active (AreOfKinds call_gives) f (entered n (applied ls global n) global (slice_get ls f) xs)
    (found-keeps n (applied ls global n) global (applied-keeps ls global well n) (slice_get ls f) (λ l e. found-well ls well f l e) count xs kinds)

pub regions_keep_kinds : RegionsKeepKinds
regions_keep_kinds objects c calls r fits gives e = region-keeps objects c calls r fits gives e

pub nodes_keep_kinds : NodesKeepKinds
nodes_keep_kinds objects c calls args before x well xs kinds o m =
    node-keeps objects c calls args before x (node-tests objects args before x well.fits) well.nested xs kinds o m

pub maps_keep_kinds : MapsKeepKinds
maps_keep_kinds objects c calls args nodes results fits xs kinds =
    let p = and_parts (region_fits objects (region args nodes results)) (every_in_nodes (region_fits objects) nodes) fits in
    nodes-keep objects c calls args [] nodes (region-nodes objects (region args nodes results) p.0) p.1 xs kinds no_outputs (λ n q k d. absurd cc)

pub applied_keeps_kinds : AppliedKeepsKinds
applied_keeps_kinds n ls global well = applied-keeps ls global well n

-- a list whose lambdas are well formed by number
pub all-well-formed : (ls : List PlainLambda) → ((f : ℕ) (l : PlainLambda) → slice_get ls f ≡ Some l → IsWellFormed l) → AreWellFormed ls
all-well-formed [] h = tt
all-well-formed (l ∷ ls) h = (h 0 l refl, all-well-formed ls (λ f k e. h (suc f) k e))

pub lambdas_keep_kinds : LambdasKeepKinds
lambdas_keep_kinds n ls global f count xs well kinds = applied-keeps ls global well (suc n) f count xs kinds

-- ---- the replacement law

value-is : (x : Datum) → IsOfKind ValueKind x → (v : Value) × (x ≡ val v)
value-is (val v) h = (v, refl)
value-is (memory m) h = absurd h
value-is (input i) h = absurd h

memory-is : (x : Datum) → IsOfKind Memory x → (m : Blocks) × (x ≡ memory m)
memory-is (memory m) h = (m, refl)
memory-is (val v) h = absurd h
memory-is (input i) h = absurd h

input-is : (x : Datum) → IsOfKind Io x → (i : List ℕ) × (x ≡ input i)
input-is (input i) h = (i, refl)
input-is (val v) h = absurd h
input-is (memory m) h = absurd h

pub record Three (xs : List Datum) : Type 0 where
  value : Value
  blocks : Blocks
  left : List ℕ
  is : xs ≡ val value ∷ memory blocks ∷ input left ∷ []

three : (xs : List Datum) → AreOfKinds call_gives xs → Three xs
three [] h = absurd h
three (x ∷ []) h = absurd h.1
three (x ∷ y ∷ []) h = absurd h.1.1
three (x ∷ y ∷ z ∷ w ∷ xs) h = absurd h.1.1.1
three (x ∷ y ∷ z ∷ []) h =
    let a = value-is x h.0 in
    let b = memory-is y h.1.0 in
    let c = input-is z h.1.1.0 in
    record {
      value = a.0;
      blocks = b.0;
      left = c.0;
      is = ap (λ u. u ∷ y ∷ z ∷ []) a.1 ∙ ap₂ (λ u w. val a.0 ∷ u ∷ w ∷ []) b.1 c.1;
    }

same-blocks : (m k : Blocks) → (memory m ≡ memory k) ⊎ (memory m ≡ val Bad) → m ≡ k
same-blocks m k (inl e) = cc
same-blocks m k (inr e) = absurd cc

same-left : (i j : List ℕ) → (input i ≡ input j) ⊎ (input i ≡ val Bad) → i ≡ j
same-left i j (inl e) = cc
same-left i j (inr e) = absurd cc

less-values : (v w : Value) → (val v ≡ val w) ⊎ (val v ≡ val Bad) → IsLessDefined v w
less-values v w (inl e) = inl cc
less-values v w (inr e) = inr cc

pub return-refine : (xs ys : List Datum) → AreOfKinds call_gives xs → AreOfKinds call_gives ys → Paired IsLessDefinedDatum xs ys → ReturnsRefine xs ys
return-refine xs ys h g p =
    let a = three xs h in
    let b = three ys g in
    let near = subst₂ (λ us ws. Paired IsLessDefinedDatum us ws) a.is b.is p in
    record {
      near = a.value;
      far = b.value;
      blocks = a.blocks;
      left = a.left;
      near_is = a.is;
      far_is = b.is ∙ ap₂ (λ m l. val b.value ∷ memory m ∷ input l ∷ []) (sym (same-blocks a.blocks b.blocks near.1.0.0)) (sym (same-left a.left b.left near.1.1.0.0));
      less = less-values a.value b.value near.0.0;
    }

-- what is known of the results on both sides, and a relation that follows
refines-both : (direction : Direction) (P : List Datum → Type 0) (R S : List Datum → List Datum → Type 0) (a b : Answer (List Datum)) → Gives P a → Gives P b →
    ((xs ys : List Datum) → P xs → P ys → R xs ys → S xs ys) → Refines no_deeper direction R a b → Refines no_deeper direction S a b
refines-both direction P R S (Undefined o) b g h more l = tt
refines-both direction P R S (Returned x o) (Returned y p) g h more l = (more x y g h l.0, l.1)
refines-both direction P R S (Exited o s) (Exited p t) g h more l = l
refines-both Forward P R S (Cut o) (Returned y p) g h more l = l
refines-both Forward P R S (Cut o) (Exited p t) g h more l = l
refines-both Forward P R S (Cut o) (Cut p) g h more l = l
refines-both Forward P R S (Cut o) (Undefined p) g h more l = tt
refines-both Backward P R S (Returned x o) (Cut p) g h more l = l
refines-both Backward P R S (Exited o s) (Cut p) g h more l = l
refines-both Backward P R S (Cut o) (Cut p) g h more l = l
refines-both direction P R S _ _ g h more l = absurd l

pub well_formed_keep_meaning : WellFormedKeepMeaning
well_formed_keep_meaning ls ks well well' same global f count xs globals sound kinds right n =
    let more = 2 * n + 2 in
    let most = 2 * more + 2 in
    let forward = calls-refines Forward n more (le_refl _) in
    let back = calls-refines Backward more n (le_refl _) in
    record {
      forward = forward-within no_deeper no_deeper-output ReturnsRefine (lambda_at n ls global f xs) (lambda_at more ks global f xs) forward (right n)
          (λ wrong. backward-defined no_deeper ReturnsRefine (lambda_at most ls global f xs) (lambda_at more ks global f xs) (calls-refines Backward most more (le_refl _)) (right most) wrong);
      back = backward-within no_deeper no_deeper-output ReturnsRefine (lambda_at more ls global f xs) (lambda_at n ks global f xs) back (right more);
      no_deeper = λ sizes. backward-no-deeper no_deeper no_deeper-depth ReturnsRefine (lambda_at more ls global f xs) (lambda_at n ks global f xs) back (right more) sizes;
    }
  where
    calls-refines : (direction : Direction) (n m : ℕ) → IsTwice direction 2 n m → Refines no_deeper direction ReturnsRefine (lambda_at n ls global f xs) (lambda_at m ks global f xs)
    calls-refines direction n m twice =
        refines-both direction (AreOfKinds call_gives) (Paired IsLessDefinedDatum) ReturnsRefine (lambda_at n ls global f xs) (lambda_at m ks global f xs)
        (lambdas_keep_kinds n ls global f count xs well kinds) (lambdas_keep_kinds m ks global f count xs well' kinds) return-refine
        (lambda-refines ls ks same direction global globals f n m twice xs sound)
