-- Nodes, regions and their code agree, by one induction over the tree.
use Rattle.std.proofs.Common.{◌≡◌, ◌≤◌, ℕ, ◌+◌, ◌-◌, Bool, true, false, ◌&&◌, List, [], ◌∷◌, ◌++◌, map, length, Option, Some, refl, ap, subst, ◌∙◌, arith}
use Rattle.std.proofs.lemmas.Bool.{and_parts}
use Rattle.val_core.specs.declared.values.Value.TheVariants.{Bad}
use Rattle.val_core.specs.Objects.{Addresses}
use Rattle.g_graph.specs.declared.op.Kind.{Kind}
use Rattle.g_graph.specs.declared.op.Kind.TheVariants.{Value as ValueKind, Memory, Io}
use Rattle.g_graph.specs.declared.op.Op.{Op}
use Rattle.g_graph.specs.declared.op.Op.TheVariants.{Const, Undef, Local, Delta, Bin, Un, Load, Store, Clear, PtrEq, Apply, Put, Exit, Get, Gamma, Theta}
use Rattle.g_graph.specs.declared.op.Origin.{Origin}
use Rattle.g_graph.specs.Plain.{RegionTree, NodeTree, node, NodeTrees, no_nodes, node_then, RegionTrees, no_regions, region_then, nodes_of, id_of, args_of}
use Rattle.g_graph.specs.Signatures.{inputs_of, result_kinds}
use Rattle.g_graph.specs.Ids.{node_ids, nodes_ids}
use Rattle.g_graph.specs.Scope.{is_of, same_kind, known}
use Rattle.g_graph.specs.WellFormed.{all_of, some_of, are, is_last}
use Rattle.g_graph.specs.Change.{has_node}
use Rattle.g_graph.proofs.lemmas.Nodes.{are_kinds, has_times, own_times}
use Rattle.g_graph.proofs.lemmas.Splices.{nodes_of_append, nodes_ids-joined}
use Rattle.g_graph.proofs.lemmas.Unique.{times, times_append}
use Rattle.g_mean.specs.Data.{Datum, value_of}
use Rattle.g_mean.specs.Meaning as graph
use Rattle.g_mean.specs.Meaning.{Meaning, Outputs, extended, read, node_run, meanings}
use Rattle.g_mean.proofs.lemmas.Silent.{theta-gives}
use Rattle.s_linear.specs.Meaning as linear
use Rattle.s_linear.specs.Meaning.{State, Call, step_run, codes_runs}
use Rattle.s_sequence.specs.Sequence.{values_in, Names, node_names, outputs_at, bases, named, name_of, node_step, branch_codes}
use Rattle.s_sequence.proofs.lemmas.Named.{standing_names}
use Rattle.g_mean.proofs.lemmas.Kinds.{NodeTests}
use Rattle.s_sequence_keeps.specs.Agreement.{Agrees}
use Rattle.s_sequence_keeps.proofs.Held.{IsState, tied-less, Held}
use Rattle.s_sequence_keeps.proofs.Running.{Running, NodeDone, advanced, held}
use Rattle.s_sequence_keeps.proofs.Ops.{AllCallsAgree, binary-agrees, unary-agrees, load-op-agrees, store-op-agrees, clear-op-agrees, pointers-op-agree, put-agrees, exit-agrees, get-agrees, constant-agrees, word-agrees, call-agrees}
use Rattle.s_sequence_keeps.proofs.Claims.{graph_context, code_context, StepDone, AllAgree, chosen-by-agree}

-- ---- numbers

abbrev pub AtMostOnce : List ℕ → Type 0
AtMostOnce ids = (m : ℕ) → times m ids ≤ 1

pub times-more : (m : ℕ) (before : List NodeTree) (x : NodeTree) →
    times m (nodes_ids (nodes_of (before ++ x ∷ []))) ≡ times m (nodes_ids (nodes_of before)) + times m (node_ids x)
times-more m before x =
    let whole : nodes_ids (nodes_of (before ++ x ∷ [])) ≡ nodes_ids (nodes_of before) ++ (node_ids x ++ []) =
    ap nodes_ids (nodes_of_append before (x ∷ [])) ∙ nodes_ids-joined (nodes_of before) (node_then x no_nodes) in
    ap (times m) whole ∙ times_append m (nodes_ids (nodes_of before)) (node_ids x ++ [])
    ∙ ap (λ k. times m (nodes_ids (nodes_of before)) + k) (times_append m (node_ids x) [] ∙ omega arith)

pub not-before : (before : List NodeTree) (x : NodeTree) (ns : NodeTrees) → ((m : ℕ) → times m (nodes_ids (nodes_of before)) + times m (node_ids x ++ nodes_ids ns) ≤ 1) →
    has_node (id_of x) (nodes_of before) ≡ false
not-before before x ns once = by (has_node (id_of x) (nodes_of before)) refl
  where
    by : (test : Bool) → has_node (id_of x) (nodes_of before) ≡ test → has_node (id_of x) (nodes_of before) ≡ false
    by false e = e
    by true e =
        let one = has_times (id_of x) (nodes_of before) e in
        let other = own_times x in
        let sum = times_append (id_of x) (node_ids x) (nodes_ids ns) in
        let all = once (id_of x) in
        absurd (omega (arith, one, other, sum, all))

-- ---- names

pub advance : (args : List Kind) (base : ℕ) (xs : List Datum) (start : State) (before : List NodeTree) (names : Names) (next : ℕ) (o : Outputs) (s : State) →
    Running args base xs start (nodes_of before) names next o s → (x : NodeTree) → has_node (id_of x) (nodes_of before) ≡ false → (ys : List Datum) (t : State) →
    StepDone x next s ys t →
    Running args base xs start (nodes_of (before ++ x ∷ [])) (named x next names) (next + node_names x) (extended o (id_of x) ys) t
advance args base xs start before names next o s run (node id op inputs rs) fresh ys t done =
    let low = standing_names rs in
    advanced args base xs start before names next o s run id op inputs rs fresh (next + node_names (node id op inputs rs)) (omega arith) (omega (arith, low)) ys t done

-- ---- the states of a loop

pub theta-states : (ks : List Kind) → (some_of (same_kind Memory) ks && some_of (same_kind Io) ks) ≡ true → (k : Kind) → IsState k →
    some_of (is_of k) (map Some ks) ≡ true
theta-states ks t ValueKind state = absurd state
theta-states ks t Memory state = theta-gives Memory ks (and_parts (some_of (same_kind Memory) ks) (some_of (same_kind Io) ks) t).0
theta-states ks t Io state = theta-gives Io ks (and_parts (some_of (same_kind Memory) ks) (some_of (same_kind Io) ks) t).1

-- ---- ops without regions

abbrev pub is_simple : Op → Bool
is_simple Gamma = false
is_simple Theta = false
is_simple op = true

module _ (objects n : ℕ) (call : ℕ → Meaning) (callees : ℕ → Call) (addresses : Addresses) (agree : AllCallsAgree call callees) where
  abbrev c : graph.Context
  c = graph_context n call addresses

  abbrev d : linear.Context
  d = code_context n callees addresses

  module _ (args : List Kind) (base : ℕ) (xs : List Datum) (start : State) (earlier : NodeTrees) (names : Names) (next : ℕ) (o : Outputs) (s : State)
      (run : Running args base xs start earlier names next o s) where
    abbrev pub StepAgrees : NodeTree → Type 0
    StepAgrees x = Agrees (StepDone x next s) (node_run c x xs o) (step_run d (node_step args base names next x) s)

    pub inputs-held : (inputs : List Origin) → all_of (is_last args earlier) inputs ≡ true → (ks : List Kind) → are (map (known args earlier) inputs) ks ≡ true →
        Held base next ks (map (read xs o) inputs) (map (name_of args base names) inputs) s
    inputs-held inputs last ks fit = held args base xs start earlier names next o s run inputs ks (are_kinds (map (known args earlier) inputs) ks fit) last

    -- a node without regions has its outputs where its names begin
    at-next : (id : ℕ) (op : Op) (inputs : List Origin) (kinds : List (Option Kind)) →
        Agrees (NodeDone next next kinds s) (node_run c (node id op inputs no_regions) xs o)
        (step_run d (node_step args base names next (node id op inputs no_regions)) s) →
        Agrees (NodeDone next (outputs_at next no_regions) kinds s) (node_run c (node id op inputs no_regions) xs o)
        (step_run d (node_step args base names next (node id op inputs no_regions)) s)
    at-next id op inputs kinds h =
        let same : next ≡ next + 0 = omega arith in
        subst (λ at. Agrees (NodeDone next at kinds s) (node_run c (node id op inputs no_regions) xs o)
        (step_run d (node_step args base names next (node id op inputs no_regions)) s)) same h

    pub op-agrees : (id : ℕ) (op : Op) (inputs : List Origin) (rs : RegionTrees) → is_simple op ≡ true → NodeTests args earlier (node id op inputs rs) →
        StepAgrees (node id op inputs rs)
    op-agrees id Gamma inputs rs simple t = absurd cc
    op-agrees id Theta inputs rs simple t = absurd cc
    op-agrees id (Const w) inputs no_regions simple t =
        at-next id (Const w) inputs (Some ValueKind ∷ [])
        (word-agrees n callees addresses base next s w (map (read xs o) inputs) (map (name_of args base names) inputs))
    op-agrees id Undef inputs no_regions simple t = at-next id Undef inputs (Some ValueKind ∷ []) (constant-agrees n callees addresses base next s Bad)
    op-agrees id (Local k) inputs no_regions simple t =
        at-next id (Local k) inputs (Some ValueKind ∷ []) (constant-agrees n callees addresses base next s (addresses.local k))
    op-agrees id (Delta k) inputs no_regions simple t =
        at-next id (Delta k) inputs (Some ValueKind ∷ []) (constant-agrees n callees addresses base next s (addresses.global k))
    op-agrees id (Bin op) inputs no_regions simple t =
        at-next id (Bin op) inputs (Some ValueKind ∷ []) (binary-agrees n callees addresses base next s op (map (read xs o) inputs) (map (name_of args base names) inputs)
        (inputs-held inputs t.last (ValueKind ∷ ValueKind ∷ []) t.inputs))
    op-agrees id (Un op) inputs no_regions simple t =
        at-next id (Un op) inputs (Some ValueKind ∷ []) (unary-agrees n callees addresses base next s op (map (read xs o) inputs) (map (name_of args base names) inputs)
        (inputs-held inputs t.last (ValueKind ∷ []) t.inputs))
    op-agrees id (Load w) inputs no_regions simple t =
        at-next id (Load w) inputs (Some ValueKind ∷ []) (load-op-agrees n callees addresses base next s w (map (read xs o) inputs) (map (name_of args base names) inputs)
        (inputs-held inputs t.last (ValueKind ∷ Memory ∷ []) t.inputs))
    op-agrees id (Store w) inputs no_regions simple t =
        at-next id (Store w) inputs (Some Memory ∷ []) (store-op-agrees n callees addresses base next s w (map (read xs o) inputs) (map (name_of args base names) inputs)
        (inputs-held inputs t.last (ValueKind ∷ ValueKind ∷ Memory ∷ []) t.inputs))
    op-agrees id (Clear k) inputs no_regions simple t =
        at-next id (Clear k) inputs (Some Memory ∷ []) (clear-op-agrees n callees addresses base next s k (map (read xs o) inputs) (map (name_of args base names) inputs)
        (inputs-held inputs t.last (Memory ∷ []) t.inputs))
    op-agrees id PtrEq inputs no_regions simple t =
        at-next id PtrEq inputs (Some ValueKind ∷ []) (pointers-op-agree n callees addresses base next s (map (read xs o) inputs) (map (name_of args base names) inputs)
        (inputs-held inputs t.last (ValueKind ∷ ValueKind ∷ Memory ∷ []) t.inputs))
    op-agrees id Put inputs no_regions simple t =
        at-next id Put inputs (Some Io ∷ []) (put-agrees n callees addresses base next s (map (read xs o) inputs) (map (name_of args base names) inputs)
        (inputs-held inputs t.last (ValueKind ∷ Io ∷ []) t.inputs))
    op-agrees id Exit inputs no_regions simple t =
        at-next id Exit inputs (Some Io ∷ []) (exit-agrees n callees addresses base next s (map (read xs o) inputs) (map (name_of args base names) inputs)
        (inputs-held inputs t.last (ValueKind ∷ Io ∷ []) t.inputs))
    op-agrees id Get inputs no_regions simple t =
        at-next id Get inputs (Some ValueKind ∷ Some Io ∷ []) (get-agrees n callees addresses base next s (map (read xs o) inputs) (map (name_of args base names) inputs)
        (inputs-held inputs t.last (Io ∷ []) t.inputs))
    op-agrees id (Apply f) inputs no_regions simple t =
        at-next id (Apply f) inputs (Some ValueKind ∷ Some Memory ∷ Some Io ∷ [])
        (call-agrees n callees addresses base next s call agree f (length inputs - 2) (map (read xs o) inputs) (map (name_of args base names) inputs)
        (inputs-held inputs t.last (inputs_of (Apply f) (length inputs) no_regions) t.inputs))
    op-agrees id op inputs (region_then r rs) simple t = let h = t.has in absurd cc

    -- a Gamma whose regions and branches agree
    pub gamma-agrees : (id : ℕ) (inputs : List Origin) (r : RegionTree) (rs : RegionTrees) → NodeTests args earlier (node id Gamma inputs (region_then r rs)) →
        ((entries : List ℕ) (us : List Datum) → Held base next (args_of r) us entries s →
        AllAgree (NodeDone next (outputs_at next (region_then r rs)) (result_kinds r) s) us s (meanings c (region_then r rs))
        (codes_runs d (branch_codes entries (outputs_at next (region_then r rs)) (bases next (values_in (result_kinds r)) (region_then r rs)) (region_then r rs)))) →
        StepAgrees (node id Gamma inputs (region_then r rs))
    gamma-agrees id [] r rs t all = let h = t.inputs in absurd cc
    gamma-agrees id (p ∷ entries) r rs t all =
        let both = inputs-held (p ∷ entries) t.last (ValueKind ∷ args_of r) t.inputs in
        let less = tied-less base next (read xs o p) (name_of args base names p) s both.0 in
        let agreed = all (map (name_of args base names) entries) (map (read xs o) entries) both.1 in
        chosen-by-agree (NodeDone next (outputs_at next (region_then r rs)) (result_kinds r) s) (map (read xs o) entries) s (value_of (read xs o p))
        (name_of args base names p) less
        (meanings c (region_then r rs)) _ agreed
