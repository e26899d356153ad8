-- Each choice of the linear code of a well-formed lambda has a code.
use Rattle.std.proofs.Common.{◌≡◌, ◌≤◌, ℕ, ◌+◌, true, List, [], ◌∷◌, ◌++◌, map, length, arith}
use Rattle.std.specs.Prelude.{◌&&◌}
use Rattle.std.proofs.lemmas.Bool.{and_parts}
use Rattle.g_graph.specs.declared.op.Kind.{Kind}
use Rattle.g_graph.specs.declared.op.Kind.TheVariants.{Memory, Io}
use Rattle.g_graph.specs.declared.op.Origin.{Origin}
use Rattle.g_graph.specs.declared.op.Op.TheVariants.{Const, Undef, Local, Delta, Bin, Un, Load, Store, Clear, PtrEq, Apply, Put, Exit, Get, Gamma, Theta}
use Rattle.g_graph.specs.Plain.{RegionTree, region, NodeTree, node, NodeTrees, no_nodes, node_then, nodes_of, RegionTrees, no_regions, region_then, PlainLambda}
use Rattle.g_graph.specs.Scope.{each_node}
use Rattle.g_graph.specs.Signatures.{output_kinds}
use Rattle.g_graph.specs.WellFormed.{all_of, every_region, every_in_node, every_in_nodes, every_in_regions, has_its_regions, has_its_width, has_its_object, regions_fit, theta_has_states, node_fits, results_are_last, returns_state, region_has_one_state_each, region_fits, body_fits, numbers_fit, leaves_fit, IsWellFormed}
use Rattle.s_linear.specs.Linear.{Instr, Code, no_steps}
use Rattle.s_linear.specs.Lines.{counted}
use Rattle.s_sequence.specs.Sequence.{values_in, value_args, Names, no_names, node_names, outputs_at, bases, named, name_of, instrs_then, nodes_code, node_step, branch_codes, branch_code, loop_step, body_code, sequenced}
use Rattle.a_place_keeps.specs.Laws.{StepChooses, CodeChooses, CodesChoose}

instrs_choose : (is : List Instr) (k : Code) → CodeChooses k → CodeChooses (instrs_then is k)
instrs_choose [] k h = h
instrs_choose (i ∷ is) k h = (tt, instrs_choose is k h)

-- a Gamma of a region has a code
some_code : (entries : List ℕ) (outputs next count : ℕ) (r : RegionTree) (rs : RegionTrees)
    → 1 ≤ counted (branch_codes entries outputs (bases next count (region_then r rs)) (region_then r rs))
some_code entries outputs next count r no_regions = omega arith
some_code entries outputs next count r (region_then s no_regions) = omega arith
some_code entries outputs next count r (region_then s (region_then t rs)) = omega arith

module _ (objects : ℕ) where
  regions_there : (args : List Kind) (before : NodeTrees) (x : NodeTree) → node_fits objects args before x ≡ true → has_its_regions x ≡ true
  regions_there args before x e =
      (and_parts _ (has_its_regions x)
      ((and_parts _ (regions_fit x)
      ((and_parts _ (theta_has_states x) ((and_parts _ (has_its_width x) ((and_parts _ (has_its_object objects x) e).0)).0)).0)).0)).1

  nodes_fit : (args : List Kind) (nodes : NodeTrees) (results : List Origin) → every_region (region_fits objects) (region args nodes results) ≡ true
      → each_node (node_fits objects args) [] nodes ≡ true
  nodes_fit args nodes results e =
      let here : region_fits objects (region args nodes results) ≡ true = (and_parts _ (every_in_nodes (region_fits objects) nodes) e).0 in
      (and_parts _ (results_are_last (region args nodes results))
      ((and_parts _ (returns_state Memory (region args nodes results))
      ((and_parts _ (returns_state Io (region args nodes results)) ((and_parts _ (region_has_one_state_each (region args nodes results)) here).0)).0)).0)).0

  mutual
    nodes_choose : (args : List Kind) (base : ℕ) (names : Names) (next : ℕ) (before : List NodeTree) (ns : NodeTrees) (k : Code)
        → each_node (node_fits objects args) before ns ≡ true → every_in_nodes (region_fits objects) ns ≡ true → CodeChooses k
        → CodeChooses (nodes_code args base names next ns k)
    nodes_choose args base names next before no_nodes k e inside h = h
    nodes_choose args base names next before (node_then x xs) k e inside h = (
      node_chooses args base names next (nodes_of before) x ((and_parts (node_fits objects args (nodes_of before) x) _ e).0)
          ((and_parts (every_in_node (region_fits objects) x) _ inside).0),
      nodes_choose args base (named x next names) (next + node_names x) (before ++ x ∷ []) xs k
          ((and_parts (node_fits objects args (nodes_of before) x) _ e).1) ((and_parts (every_in_node (region_fits objects) x) _ inside).1) h,
    )

    node_chooses : (args : List Kind) (base : ℕ) (names : Names) (next : ℕ) (before : NodeTrees) (x : NodeTree) → node_fits objects args before x ≡ true
        → every_in_node (region_fits objects) x ≡ true → StepChooses (node_step args base names next x)
    node_chooses args base names next before (node id (Const w) inputs rs) e inside = tt
    node_chooses args base names next before (node id Undef inputs rs) e inside = tt
    node_chooses args base names next before (node id (Local k) inputs rs) e inside = tt
    node_chooses args base names next before (node id (Delta k) inputs rs) e inside = tt
    node_chooses args base names next before (node id (Bin o) inputs rs) e inside = tt
    node_chooses args base names next before (node id (Un o) inputs rs) e inside = tt
    node_chooses args base names next before (node id (Load width) inputs rs) e inside = tt
    node_chooses args base names next before (node id (Store width) inputs rs) e inside = tt
    node_chooses args base names next before (node id (Clear k) inputs rs) e inside = tt
    node_chooses args base names next before (node id PtrEq inputs rs) e inside = tt
    node_chooses args base names next before (node id (Apply f) inputs rs) e inside = tt
    node_chooses args base names next before (node id Put inputs rs) e inside = tt
    node_chooses args base names next before (node id Exit inputs rs) e inside = tt
    node_chooses args base names next before (node id Get inputs rs) e inside = tt
    node_chooses args base names next before (node id Gamma [] rs) e inside = tt
    node_chooses args base names next before (node id Gamma (o ∷ entries) no_regions) e inside =
        let never = regions_there args before (node id Gamma (o ∷ entries) no_regions) e in absurd cc
    node_chooses args base names next before (node id Gamma (o ∷ entries) (region_then r rs)) e inside =
        let count = values_in (output_kinds (node id Gamma (o ∷ entries) (region_then r rs))) in (
          some_code (map (name_of args base names) entries) (outputs_at next (region_then r rs)) next count r rs,
          branches_choose (map (name_of args base names) entries) (outputs_at next (region_then r rs)) (bases next count (region_then r rs)) (region_then r rs) inside,
        )
    node_chooses args base names next before (node id Theta inputs no_regions) e inside = tt
    node_chooses args base names next before (node id Theta inputs (region_then r no_regions)) e inside =
        loop_chooses (map (name_of args base names) inputs) next r ((and_parts (every_region (region_fits objects) r) _ inside).0)
    node_chooses args base names next before (node id Theta inputs (region_then r (region_then s rs))) e inside = tt

    branches_choose : (entries : List ℕ) (outputs : ℕ) (bs : List ℕ) (rs : RegionTrees) → every_in_regions (region_fits objects) rs ≡ true
        → CodesChoose (branch_codes entries outputs bs rs)
    branches_choose entries outputs [] rs inside = tt
    branches_choose entries outputs (b ∷ bs) no_regions inside = tt
    branches_choose entries outputs (b ∷ bs) (region_then r rs) inside = (
      branch_chooses entries outputs b r ((and_parts (every_region (region_fits objects) r) _ inside).0),
      branches_choose entries outputs bs rs ((and_parts (every_region (region_fits objects) r) _ inside).1),
    )

    branch_chooses : (entries : List ℕ) (outputs base : ℕ) (r : RegionTree) → every_region (region_fits objects) r ≡ true
        → CodeChooses (branch_code entries outputs base r)
    branch_chooses entries outputs base (region args nodes results) inside =
        instrs_choose _ _
        (nodes_choose args base no_names (base + value_args args) [] nodes _ (nodes_fit args nodes results inside)
        ((and_parts (region_fits objects (region args nodes results)) _ inside).1) (instrs_choose _ no_steps tt))

    loop_chooses : (entries : List ℕ) (next : ℕ) (r : RegionTree) → every_region (region_fits objects) r ≡ true → StepChooses (loop_step entries next r)
    loop_chooses entries next (region args nodes results) inside =
        nodes_choose args next no_names (next + value_args args) [] nodes _ (nodes_fit args nodes results inside)
        ((and_parts (region_fits objects (region args nodes results)) _ inside).1) (instrs_choose _ no_steps tt)

  body_chooses : (r : RegionTree) → every_region (region_fits objects) r ≡ true → CodeChooses (body_code r)
  body_chooses (region args nodes results) inside =
      nodes_choose args 0 no_names (value_args args) [] nodes no_steps (nodes_fit args nodes results inside)
      ((and_parts (region_fits objects (region args nodes results)) _ inside).1) tt

pub sequenced_chooses : (l : PlainLambda) → IsWellFormed l → CodeChooses (sequenced l).code
sequenced_chooses l w =
    let own : (body_fits l && numbers_fit l && every_region (region_fits (length l.objects)) l.body) ≡ true =
    (and_parts (body_fits l && numbers_fit l && every_region (region_fits (length l.objects)) l.body) (all_of (λ o. leaves_fit o.size 0 o.leaves) l.objects) w).0 in
    body_chooses (length l.objects) l.body ((and_parts (body_fits l && numbers_fit l) (every_region (region_fits (length l.objects)) l.body) own).1)
