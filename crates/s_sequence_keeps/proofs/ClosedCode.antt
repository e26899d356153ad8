-- The linear code of a well-formed lambda is closed, by one induction over its body.
use Rattle.std.proofs.Common.{◌≡◌, ◌<◌, ℕ, ◌+◌, true, ◌&&◌, List, [], ◌∷◌, ◌++◌, map, length, refl, sym, ap, subst, ◌∙◌, arith}
use Rattle.std.proofs.lemmas.Bool.{and_parts}
use Rattle.g_graph.specs.declared.op.Kind.{Kind}
use Rattle.g_graph.specs.declared.op.Kind.TheVariants.{Value, Memory, Io}
use Rattle.g_graph.specs.declared.op.Op.TheVariants.{Gamma, Theta}
use Rattle.g_graph.specs.Plain.{RegionTree, region, NodeTree, node, NodeTrees, no_nodes, node_then, RegionTrees, no_regions, region_then, nodes_of, args_of}
use Rattle.g_graph.specs.Signatures.{result_kinds}
use Rattle.g_graph.specs.Scope.{each_node, known}
use Rattle.g_graph.specs.WellFormed.{are, same, kinds_of, all_regions, every_region, every_in_node, every_in_nodes, every_in_regions, node_fits, region_fits}
use Rattle.g_graph.specs.Splice.{joined_nodes}
use Rattle.g_graph.proofs.lemmas.Nodes.{are_kinds, same_kinds}
use Rattle.g_graph.proofs.lemmas.Splices.{joined_none, joined_following}
use Rattle.s_linear.specs.Linear.{choice, no_steps}
use Rattle.s_sequence.specs.Sequence.{values_in, value_args, Names, no_names, node_names, outputs_at, bases, named, nodes_named, name_of, nodes_code, node_step, branch_codes, body_code, value_name}
use Rattle.s_sequence.proofs.lemmas.Named.{body_values}
use Rattle.g_mean.proofs.lemmas.Kinds.{NodeTests, node-tests}
use Rattle.s_sequence_keeps.specs.Closed.{NameSet, after_step, after_code, after_each, StepIsClosed, CodeIsClosed, AreClosed}
use Rattle.s_sequence_keeps.specs.Laws.{SequencedCodeIsClosed}
use Rattle.s_sequence_keeps.proofs.Branches.{region-tests}
use Rattle.s_sequence_keeps.proofs.Functions.{BodyFits, lambda-body}
use Rattle.s_sequence_keeps.proofs.Written.{step-grows, AreKnown, known-at}
use Rattle.s_sequence_keeps.proofs.Known.{OriginsKnown, NodeWrites, KnownClaim, arguments-known, list-known, known-more, op-writes, branch-writes, loop-writes}

reads-of : (D : NameSet) (args : List Kind) (base : ℕ) (names : Names) (next : ℕ) (x : NodeTree) → NodeWrites D args base names next x →
    StepIsClosed D (node_step args base names next x)
reads-of D args base names next (node id op inputs rs) w = w.reads

-- a Gamma of a region or more has a code or more
each-written : (D : NameSet) (p : ℕ) (entries : List ℕ) (out next count : ℕ) (r : RegionTree) (rs : RegionTrees) (x : ℕ) →
    after_each D (branch_codes entries out (bases next count (region_then r rs)) (region_then r rs)) x →
    after_step D (choice p (branch_codes entries out (bases next count (region_then r rs)) (region_then r rs))) x
each-written D p entries out next count r no_regions x h = h
each-written D p entries out next count r (region_then q no_regions) x h = h
each-written D p entries out next count r (region_then q (region_then u rs)) x h = h

module _ (objects : ℕ) where
  mutual
    region-known : (r : RegionTree) → every_region (region_fits objects) r ≡ true → KnownClaim r
    region-known (region args nodes results) t = λ base E h.
        let p = and_parts (region_fits objects (region args nodes results)) (every_in_nodes (region_fits objects) nodes) t in
        let tests = region-tests objects (region args nodes results) p.0 in
        nodes-known args base [] nodes tests.nodes p.1 nodes refl no_names (base + value_args args) E h

    nodes-known : (args : List Kind) (base : ℕ) (before : List NodeTree) (ns : NodeTrees) → each_node (node_fits objects args) before ns ≡ true →
        every_in_nodes (region_fits objects) ns ≡ true →
        (whole : NodeTrees) → joined_nodes (nodes_of before) ns ≡ whole → (names : Names) (next : ℕ) (D : NameSet) → OriginsKnown args base names (nodes_of before) D →
        CodeIsClosed D (nodes_code args base names next ns no_steps)
        × OriginsKnown args base (nodes_named ns next names) whole (after_code D (nodes_code args base names next ns no_steps))
    nodes-known args base before no_nodes t nested whole e names next D h =
        let same : nodes_of before ≡ whole = sym (joined_none (nodes_of before)) ∙ e in
        (tt, subst (λ ns. OriginsKnown args base names ns D) same h)
    nodes-known args base before (node_then x ns) t nested whole e names next D h =
        let p = and_parts (node_fits objects args (nodes_of before) x) (each_node (node_fits objects args) (before ++ x ∷ []) ns) t in
        let q = and_parts (every_in_node (region_fits objects) x) (every_in_nodes (region_fits objects) ns) nested in
        let w = node-writes args base names (nodes_of before) D h next x (node-tests objects args (nodes_of before) x p.0) q.0 in
        let more = nodes-known args base (before ++ x ∷ []) ns p.1 q.1 whole (joined_following before x ns ∙ e) (named x next names) (next + node_names x)
        (after_step D (node_step args base names next x)) (known-more args base names before D h next x (step-grows D (node_step args base names next x)) w) in
        ((reads-of D args base names next x w, more.0), more.1)

    node-writes : (args : List Kind) (base : ℕ) (names : Names) (earlier : NodeTrees) (D : NameSet) → OriginsKnown args base names earlier D → (next : ℕ) (x : NodeTree) →
        NodeTests args earlier x → every_in_node (region_fits objects) x ≡ true → NodeWrites D args base names next x
    node-writes args base names earlier D h next (node id Gamma inputs no_regions) t nested = let has = t.has in absurd cc
    node-writes args base names earlier D h next (node id Gamma [] (region_then r rs)) t nested = let fit = t.inputs in absurd cc
    node-writes args base names earlier D h next (node id Gamma (p ∷ entries) (region_then r rs)) t nested =
        let ks = result_kinds r in
        let own = are_kinds ks (kinds_of ks) (and_parts (same (args_of r) (args_of r)) (are ks (kinds_of ks))
        (and_parts (same (args_of r) (args_of r) && are ks (kinds_of ks)) (all_regions (λ q. same (args_of q) (args_of r) && are (result_kinds q) (kinds_of ks)) rs)
        t.regions).0).1 in
        let all = list-known args base names earlier D h (p ∷ entries) (Value ∷ args_of r)
        (are_kinds (map (known args earlier) (p ∷ entries)) (Value ∷ args_of r) t.inputs) in
        let each = regions-known D (outputs_at next (region_then r rs)) (args_of r) (kinds_of ks) (map (name_of args base names) entries) all.1 (region_then r rs)
        (bases next (values_in ks) (region_then r rs)) t.regions nested in
        record {
          own = kinds_of ks;
          are = own;
          reads = (all.0, each.0);
          outputs = λ k low.
              each-written D (name_of args base names p) (map (name_of args base names) entries) (outputs_at next (region_then r rs)) next (values_in ks) r rs
              (outputs_at next (region_then r rs) + k) (each.1 k low);
        }
    node-writes args base names earlier D h next (node id Theta inputs no_regions) t nested = let has = t.has in absurd cc
    node-writes args base names earlier D h next (node id Theta inputs (region_then r (region_then q rs))) t nested = let has = t.has in absurd cc
    node-writes args base names earlier D h next (node id Theta inputs (region_then r no_regions)) t nested =
        let all = list-known args base names earlier D h inputs (args_of r) (are_kinds (map (known args earlier) inputs) (args_of r) t.inputs) in
        let here = and_parts (every_region (region_fits objects) r) true nested in
        let kinds = and_parts (are (result_kinds r) (Value ∷ args_of r)) true t.regions in
        loop-writes D r (region-known r here.0) (are_kinds (result_kinds r) (Value ∷ args_of r) kinds.0) next (map (name_of args base names) inputs) all
    node-writes args base names earlier D h next (node id op inputs rs) t nested = op-writes args base names earlier D h next id op inputs rs refl t

    regions-known : (D : NameSet) (out : ℕ) (takes gives : List Kind) (entries : List ℕ) → AreKnown D takes entries → (rs : RegionTrees) (bs : List ℕ) →
        all_regions (λ r. same (args_of r) takes && are (result_kinds r) gives) rs ≡ true → every_in_regions (region_fits objects) rs ≡ true →
        AreClosed D (branch_codes entries out bs rs) × ((k : ℕ) → k < value_args gives → after_each D (branch_codes entries out bs rs) (out + k))
    regions-known D out takes gives entries h rs [] t nested = (tt, λ k low. tt)
    regions-known D out takes gives entries h no_regions (b ∷ bs) t nested = (tt, λ k low. tt)
    regions-known D out takes gives entries h (region_then r rs) (b ∷ bs) t nested =
        let p = and_parts (same (args_of r) takes && are (result_kinds r) gives) (all_regions (λ q. same (args_of q) takes && are (result_kinds q) gives) rs) t in
        let q = and_parts (same (args_of r) takes) (are (result_kinds r) gives) p.0 in
        let here = and_parts (every_region (region_fits objects) r) (every_in_regions (region_fits objects) rs) nested in
        let first = branch-writes D r (region-known r here.0) gives (are_kinds (result_kinds r) gives q.1) out b entries
        (subst (λ ks. AreKnown D ks entries) (sym (same_kinds (args_of r) takes q.0)) h) in
        let rest = regions-known D out takes gives entries h rs bs p.1 here.1 in
        ((first.0, rest.0), λ k low. (first.1 k low, rest.1 k low))

-- ---- a function

record BodyIsClosed (params : ℕ) (body : RegionTree) : Type 0 where
  code : CodeIsClosed (λ x. x < params) (body_code body)
  value : after_code (λ x. x < params) (body_code body) (value_name body)

body-closed : (objects params : ℕ) (body : RegionTree) → BodyFits objects params body → BodyIsClosed params body
body-closed objects params (region args nodes results) fits =
    record {
      code = whole.0;
      value =
          known-at (after_code parameters (nodes_code args 0 no_names (value_args args) nodes no_steps)) (Value ∷ Memory ∷ Io ∷ [])
          (map (name_of args 0 (nodes_named nodes (value_args args) no_names)) results)
          (list-known args 0 (nodes_named nodes (value_args args) no_names) nodes (after_code parameters (nodes_code args 0 no_names (value_args args) nodes no_steps))
          whole.1 results
          (Value ∷ Memory ∷ Io ∷ []) fits.results) 0 refl;
    }
  where
    parameters : NameSet
    parameters x = x < params

    count : value_args args ≡ params
    count = ap value_args fits.args ∙ body_values params

    Whole : ℕ → Type 0
    Whole first =
        CodeIsClosed parameters (nodes_code args 0 no_names first nodes no_steps)
        × OriginsKnown args 0 (nodes_named nodes first no_names) nodes (after_code parameters (nodes_code args 0 no_names first nodes no_steps))

    whole : Whole (value_args args)
    whole =
        let same : 0 + value_args args ≡ value_args args = omega arith in
        subst Whole same (region-known objects (region args nodes results) fits.regions 0 parameters
        (arguments-known args 0 parameters (λ k low. omega (arith, low, count))))

pub sequenced_code_is_closed : SequencedCodeIsClosed
sequenced_code_is_closed l well =
    let b = body-closed (length l.objects) l.params l.body (lambda-body l well) in
    record { code = b.code; value = b.value }
