-- A region and its code agree, by one induction over the tree with one step for each node.
use Rattle.std.proofs.Common.{◌≡◌, ◌≤◌, ℕ, ◌+◌, Bool, true, ◌&&◌, List, [], ◌∷◌, ◌++◌, map, Some, refl, sym, subst, ◌∙◌, arith}
use Rattle.std.proofs.lemmas.Bool.{and_parts}
use Rattle.val_core.specs.Objects.{Addresses}
use Rattle.g_graph.specs.declared.op.Kind.{Kind}
use Rattle.g_graph.specs.declared.op.Kind.TheVariants.{Value as ValueKind, Memory, Io}
use Rattle.g_graph.specs.declared.op.Op.TheVariants.{Gamma, Theta}
use Rattle.g_graph.specs.Plain.{RegionTree, region, NodeTree, node, NodeTrees, no_nodes, node_then, RegionTrees, no_regions, region_then, nodes_of, id_of, args_of}
use Rattle.g_graph.specs.Signatures.{result_kinds}
use Rattle.g_graph.specs.Ids.{region_ids, node_ids, nodes_ids, regions_ids}
use Rattle.g_graph.specs.Scope.{same_kind, each_node}
use Rattle.g_graph.specs.WellFormed.{some_of, are, same, kinds_of, all_regions, every_region, every_in_node, every_in_nodes, every_in_regions, node_fits, region_fits}
use Rattle.g_graph.specs.Splice.{joined_nodes}
use Rattle.g_graph.proofs.lemmas.Nodes.{are_kinds, same_kinds}
use Rattle.g_graph.proofs.lemmas.Splices.{joined_none, joined_following}
use Rattle.g_graph.proofs.lemmas.Unique.{times, times_append, times_cons}
use Rattle.g_mean.specs.Data.{Datum}
use Rattle.g_mean.specs.Meaning as graph
use Rattle.g_mean.specs.Meaning.{Meaning, Outputs, no_outputs, extended, read, node_run, nodes_run, meanings}
use Rattle.s_linear.specs.Linear.{no_steps}
use Rattle.s_linear.specs.Meaning as linear
use Rattle.s_linear.specs.Meaning.{State, Call, step_run, code_run, codes_runs}
use Rattle.s_sequence.specs.Sequence.{values_in, value_args, Names, no_names, node_names, nodes_names, outputs_at, bases, named, nodes_named, name_of, nodes_code, node_step, branch_codes}
use Rattle.g_mean.proofs.lemmas.Kinds.{NodeTests, node-tests}
use Rattle.s_sequence_keeps.specs.Agreement.{Agrees}
use Rattle.s_sequence_keeps.proofs.AgreeingAnswers.{agrees-then}
use Rattle.s_sequence_keeps.proofs.Held.{Held}
use Rattle.s_sequence_keeps.proofs.Running.{Running, NodeDone, started}
use Rattle.s_sequence_keeps.proofs.Ops.{AllCallsAgree}
use Rattle.s_sequence_keeps.proofs.Claims.{graph_context, code_context, StepDone, RegionClaim, AllAgree}
use Rattle.s_sequence_keeps.proofs.Branches.{region-tests, branch-agrees, AllFit, bases-fit}
use Rattle.s_sequence_keeps.proofs.Loops.{loop-agrees}
use Rattle.s_sequence_keeps.proofs.Nodes.{AtMostOnce, times-more, not-before, advance, theta-states, inputs-held, op-agrees, gamma-agrees}

pub every-here : (test : RegionTree → Bool) (r : RegionTree) → every_region test r ≡ true → test r ≡ true
every-here test (region args nodes results) t = (and_parts (test (region args nodes results)) (every_in_nodes test nodes) t).0

module _ (objects n : ℕ) (call : ℕ → Meaning) (callees : ℕ → Call) (addresses : Addresses) (agree : AllCallsAgree call callees) where
  abbrev c : graph.Context
  c = graph_context n call addresses

  abbrev d : linear.Context
  d = code_context n callees addresses

  mutual
    pub region-agrees : (r : RegionTree) → every_region (region_fits objects) r ≡ true → AtMostOnce (region_ids r) → RegionClaim c d r
    region-agrees (region args nodes results) t once = λ base xs s h.
        let p = and_parts (region_fits objects (region args nodes results)) (every_in_nodes (region_fits objects) nodes) t in
        let tests = region-tests objects (region args nodes results) p.0 in
        nodes-agree args base xs s [] nodes tests.nodes p.1 (λ m. let one = once m in
        omega (arith, one)) nodes refl no_names (base + value_args args) (base + value_args args + nodes_names nodes) refl
        no_outputs s (started args base xs s h)

    nodes-agree : (args : List Kind) (base : ℕ) (xs : List Datum) (start : State) (before : List NodeTree) (ns : NodeTrees) →
        each_node (node_fits objects args) before ns ≡ true →
        every_in_nodes (region_fits objects) ns ≡ true → ((m : ℕ) → times m (nodes_ids (nodes_of before)) + times m (nodes_ids ns) ≤ 1) → (whole : NodeTrees) →
        joined_nodes (nodes_of before) ns ≡ whole → (names : Names) (next last : ℕ) → next + nodes_names ns ≡ last → (o : Outputs) (s : State) →
        Running args base xs start (nodes_of before) names next o s →
        Agrees (Running args base xs start whole (nodes_named ns next names) last) (nodes_run c ns xs o) (code_run d (nodes_code args base names next ns no_steps) s)
    nodes-agree args base xs start before no_nodes t nested once whole e names next last f o s run =
        let same : nodes_of before ≡ whole = sym (joined_none (nodes_of before)) ∙ e in
        let end : next ≡ last = omega (arith, f) in
        (subst (λ l. Running args base xs start whole names l o s) end (subst (λ ns. Running args base xs start ns names next o s) same run), refl)
    nodes-agree args base xs start before (node_then x ns) t nested once whole e names next last f o s run =
        let p = and_parts (node_fits objects args (nodes_of before) x) (each_node (node_fits objects args) (before ++ x ∷ []) ns) t in
        let q = and_parts (every_in_node (region_fits objects) x) (every_in_nodes (region_fits objects) ns) nested in
        let fresh = not-before before x ns once in
        let end : next + node_names x + nodes_names ns ≡ last = omega (arith, f) in
        agrees-then (StepDone x next s) (Running args base xs start whole (nodes_named ns (next + node_names x) (named x next names)) last) (node_run c x xs o)
        (step_run d (node_step args base names next x) s) (λ ys. nodes_run c ns xs (extended o (id_of x) ys))
        (code_run d (nodes_code args base (named x next names) (next + node_names x) ns no_steps))
        (node-agrees args base xs start (nodes_of before) names next o s run x (node-tests objects args (nodes_of before) x p.0) q.0
        (λ m. let one = once m in let sum = times_append m (node_ids x) (nodes_ids ns) in omega (arith, one, sum)))
        (λ ys u done. nodes-agree args base xs start (before ++ x ∷ []) ns p.1 q.1
        (λ m. let one = once m in let sum = times_append m (node_ids x) (nodes_ids ns) in let more = times-more m before x in omega (arith, one, sum, more)) whole
        (joined_following before x ns ∙ e) (named x next names) (next + node_names x) last end (extended o (id_of x) ys) u
        (advance args base xs start before names next o s run x fresh ys u done))

    node-agrees : (args : List Kind) (base : ℕ) (xs : List Datum) (start : State) (earlier : NodeTrees) (names : Names) (next : ℕ) (o : Outputs) (s : State) →
        (run : Running args base xs start earlier names next o s) → (x : NodeTree) → NodeTests args earlier x → every_in_node (region_fits objects) x ≡ true →
        AtMostOnce (node_ids x) →
        Agrees (StepDone x next s) (node_run c x xs o) (step_run d (node_step args base names next x) s)
    node-agrees args base xs start earlier names next o s run (node id Gamma inputs no_regions) t nested once = let h = t.has in absurd cc
    node-agrees args base xs start earlier names next o s run (node id Gamma inputs (region_then r rs)) t nested once =
        let ks = result_kinds r in
        let own = are_kinds ks (kinds_of ks) (and_parts (same (args_of r) (args_of r)) (are ks (kinds_of ks))
        (and_parts (same (args_of r) (args_of r) && are ks (kinds_of ks)) (all_regions (λ q. same (args_of q) (args_of r) && are (result_kinds q) (kinds_of ks)) rs)
        t.regions).0).1 in
        gamma-agrees objects n call callees addresses agree args base xs start earlier names next o s run id inputs r rs t
        (λ entries us h.
        subst (λ js. AllAgree (NodeDone next (outputs_at next (region_then r rs)) js s) us s (meanings c (region_then r rs))
        (codes_runs d (branch_codes entries (outputs_at next (region_then r rs)) (bases next (values_in js) (region_then r rs)) (region_then r rs)))) (sym own)
        (regions-agree base next (outputs_at next (region_then r rs)) (args_of r) (kinds_of ks) s entries us h (omega arith) (region_then r rs)
        (bases next (values_in (map Some (kinds_of ks))) (region_then r rs)) (bases-fit next (values_in (map Some (kinds_of ks))) (region_then r rs)) t.regions nested
        (λ m. let one = once m in let sum = times_cons m id (regions_ids (region_then r rs)) in omega (arith, one, sum))))
    node-agrees args base xs start earlier names next o s run (node id Theta inputs no_regions) t nested once = let h = t.has in absurd cc
    node-agrees args base xs start earlier names next o s run (node id Theta inputs (region_then r (region_then q rs))) t nested once = let h = t.has in absurd cc
    node-agrees args base xs start earlier names next o s run (node id Theta inputs (region_then r no_regions)) t nested once =
        let all-held = inputs-held objects n call callees addresses agree args base xs start earlier names next o s run inputs t.last (args_of r) t.inputs in
        let here = and_parts (every_region (region_fits objects) r) true nested in
        let kinds = and_parts (are (result_kinds r) (ValueKind ∷ args_of r)) true t.regions in
        let both = and_parts (some_of (same_kind Memory) (args_of r) && some_of (same_kind Io) (args_of r)) true t.states in
        loop-agrees n call callees addresses objects r
        (region-agrees r here.0
        (λ m. let one = once m in
        let sum = times_cons m id (region_ids r ++ []) in
        let more = times_append m (region_ids r) [] in
        omega (arith, one, sum, more))) (every-here (region_fits objects) r here.0)
        (are_kinds (result_kinds r) (ValueKind ∷ args_of r) kinds.0) (theta-states (args_of r) both.0) base next (map (name_of args base names) inputs)
        (map (read xs o) inputs) s all-held
    node-agrees args base xs start earlier names next o s run (node id op inputs rs) t nested once =
        op-agrees objects n call callees addresses agree args base xs start earlier names next o s run id op inputs rs refl t

    regions-agree : (first next out : ℕ) (takes gives : List Kind) (s : State) (entries : List ℕ) (us : List Datum) → Held first next takes us entries s →
        next ≤ out → (rs : RegionTrees) (bs : List ℕ) →
        AllFit next out (value_args gives) bs rs → all_regions (λ r. same (args_of r) takes && are (result_kinds r) gives) rs ≡ true →
        every_in_regions (region_fits objects) rs ≡ true →
        AtMostOnce (regions_ids rs) → AllAgree (NodeDone next out (map Some gives) s) us s (meanings c rs) (codes_runs d (branch_codes entries out bs rs))
    regions-agree first next out takes gives s entries us h low no_regions [] place t nested once = tt
    regions-agree first next out takes gives s entries us h low no_regions (b ∷ bs) place t nested once = absurd place
    regions-agree first next out takes gives s entries us h low (region_then r rs) [] place t nested once = absurd place
    regions-agree first next out takes gives s entries us h low (region_then r rs) (b ∷ bs) place t nested once =
        let p = and_parts (same (args_of r) takes && are (result_kinds r) gives) (all_regions (λ q. same (args_of q) takes && are (result_kinds q) gives) rs) t in
        let q = and_parts (same (args_of r) takes) (are (result_kinds r) gives) p.0 in
        let here = and_parts (every_region (region_fits objects) r) (every_in_regions (region_fits objects) rs) nested in (
          branch-agrees c d objects r
              (region-agrees r here.0 (λ m. let one = once m in let sum = times_append m (region_ids r) (regions_ids rs) in omega (arith, one, sum)))
              (every-here (region_fits objects) r here.0) gives (are_kinds (result_kinds r) gives q.1) first next out b place.0 low entries us s
              (subst (λ ks. Held first next ks us entries s) (sym (same_kinds (args_of r) takes q.0)) h),
          regions-agree first next out takes gives s entries us h low rs bs place.1 p.1 here.1
              (λ m. let one = once m in let sum = times_append m (region_ids r) (regions_ids rs) in omega (arith, one, sum)),
        )
