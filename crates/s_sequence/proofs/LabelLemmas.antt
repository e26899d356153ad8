-- The numbers of labels of nodes and regions: those of their codes, and at most those of their values.
use Rattle.std.proofs.Common.{◌≡◌, ◌≤◌, ◌<◌, ℕ, ◌+◌, List, [], ◌∷◌, map, refl, arith}
use Rattle.std.specs.declared.option.Option.TheVariants.{Some}
use Rattle.g_graph.specs.declared.op.Kind.{Kind}
use Rattle.g_graph.specs.declared.op.Origin.{Origin}
use Rattle.g_graph.specs.declared.op.Op.{Op}
use Rattle.g_graph.specs.declared.op.Op.TheVariants.{Gamma, Theta}
use Rattle.g_graph.specs.Plain.{RegionTree, region, NodeTree, node, NodeTrees, no_nodes, node_then, RegionTrees, no_regions, region_then, count_of}
use Rattle.g_graph.specs.Signatures.{outputs_of, result_kinds}
use Rattle.g_graph.specs.Count.{region_values, node_values, nodes_values, regions_values}
use Rattle.s_linear.specs.Linear.{Instr, Code, no_steps}
use Rattle.s_linear.specs.Lines.{counted, step_labels, code_labels, codes_labels}
use Rattle.s_sequence.specs.Sequence.{value_args, kept, Names, no_names, node_names, nodes_names, named, nodes_named, name_of, moves, instrs_then, loop_results, outputs_at, bases, bases_from, nodes_code, node_step, branch_codes, branch_code, loop_step, region_names, last_names, values_in}
use Rattle.s_sequence.specs.Shape.{HasShape, RegionShaped, NodeShaped, NodesShaped, RegionsShaped}
use Rattle.s_sequence.specs.Written.{own_labels, region_labels, node_labels, nodes_labels, regions_labels}

own_least : (op : Op) (inputs : List Origin) (rs : RegionTrees) → HasShape op inputs rs → own_labels op rs ≤ 1 + count_of rs
own_least Gamma inputs rs h = omega arith
own_least Theta inputs no_regions h = absurd h
own_least Theta inputs (region_then r rs) h = omega arith
own_least op inputs rs h = omega arith

mutual
  pub region_labels_values : (r : RegionTree) → RegionShaped r → region_labels r < region_values r
  region_labels_values (region args nodes results) h = omega (arith, nodes_labels_values nodes h)

  pub node_labels_values : (x : NodeTree) → NodeShaped x → node_labels x ≤ node_values x
  node_labels_values (node id op inputs rs) h = omega (arith, own_least op inputs rs h.0, regions_labels_values rs h.1)

  pub nodes_labels_values : (ns : NodeTrees) → NodesShaped ns → nodes_labels ns ≤ nodes_values ns
  nodes_labels_values no_nodes h = omega arith
  nodes_labels_values (node_then x ns) h = omega (arith, node_labels_values x h.0, nodes_labels_values ns h.1)

  pub regions_labels_values : (rs : RegionTrees) → RegionsShaped rs → count_of rs + regions_labels rs ≤ regions_values rs
  regions_labels_values no_regions h = omega arith
  regions_labels_values (region_then r rs) h = omega (arith, region_labels_values r h.0, regions_labels_values rs h.1)

-- a base for each region
abbrev pub HasBases : List ℕ → RegionTrees → Type 0
HasBases [] no_regions = Unit {0}
HasBases (b ∷ bs) (region_then r rs) = HasBases bs rs
HasBases [] (region_then r rs) = ⊥
HasBases (b ∷ bs) no_regions = ⊥

from_has : (next at : ℕ) (rs : RegionTrees) → HasBases (bases_from next at rs) rs
from_has next at no_regions = tt
from_has next at (region_then r no_regions) = tt
from_has next at (region_then r (region_then s rs)) = from_has next (at + region_names r) (region_then s rs)

pub bases_has : (next outputs : ℕ) (rs : RegionTrees) → HasBases (bases next outputs rs) rs
bases_has next outputs no_regions = tt
bases_has next outputs (region_then r no_regions) = tt
bases_has next outputs (region_then r (region_then s no_regions)) = tt
bases_has next outputs (region_then r (region_then s (region_then t rs))) =
    from_has next (next + last_names (region_then t rs) + outputs) (region_then r (region_then s (region_then t rs)))

pub instrs_labels : (is : List Instr) (k : Code) → code_labels (instrs_then is k) ≡ code_labels k
instrs_labels [] k = refl
instrs_labels (i ∷ is) k = omega (arith, instrs_labels is k)

mutual
  pub nodes_labels_are : (args : List Kind) (base : ℕ) (names : Names) (next : ℕ) (ns : NodeTrees) (k : Code) → NodesShaped ns →
      code_labels (nodes_code args base names next ns k) ≡ nodes_labels ns + code_labels k
  nodes_labels_are args base names next no_nodes k h = omega arith
  nodes_labels_are args base names next (node_then x ns) k h =
      omega (arith, step_labels_are args base names next x h.0, nodes_labels_are args base (named x next names) (next + node_names x) ns k h.1)

  pub step_labels_are : (args : List Kind) (base : ℕ) (names : Names) (next : ℕ) (x : NodeTree) → NodeShaped x →
      step_labels (node_step args base names next x) ≡ node_labels x
  step_labels_are args base names next (node id Gamma [] rs) h = absurd h.0
  step_labels_are args base names next (node id Gamma (p ∷ entries) no_regions) h = absurd h.0
  step_labels_are args base names next (node id Gamma (p ∷ entries) (region_then r rs)) h =
      choice_labels_are (map (name_of args base names) entries) (outputs_at next (region_then r rs))
      (bases next (values_in (outputs_of Gamma (region_then r rs))) (region_then r rs))
      (region_then r rs)
      (bases_has next (values_in (outputs_of Gamma (region_then r rs))) (region_then r rs)) h.1
  step_labels_are args base names next (node id Theta inputs no_regions) h = absurd h.0
  step_labels_are args base names next (node id Theta inputs (region_then r no_regions)) h = loop_labels_are (map (name_of args base names) inputs) next r h.1.0
  step_labels_are args base names next (node id Theta inputs (region_then r (region_then s rs))) h = absurd h.0
  step_labels_are args base names next (node id op inputs no_regions) h = refl
  step_labels_are args base names next (node id op inputs (region_then r rs)) h = absurd h.0

  choice_labels_are : (entries : List ℕ) (outputs : ℕ) (bs : List ℕ) (rs : RegionTrees) → HasBases bs rs → RegionsShaped rs →
      counted (branch_codes entries outputs bs rs) + codes_labels (branch_codes entries outputs bs rs) ≡ count_of rs + regions_labels rs
  choice_labels_are entries outputs [] no_regions b h = refl
  choice_labels_are entries outputs [] (region_then r rs) b h = absurd b
  choice_labels_are entries outputs (x ∷ bs) no_regions b h = absurd b
  choice_labels_are entries outputs (x ∷ bs) (region_then r rs) b h =
      omega (arith, branch_labels_are entries outputs x r h.0, choice_labels_are entries outputs bs rs b h.1)

  pub branch_labels_are : (entries : List ℕ) (outputs base : ℕ) (r : RegionTree) → RegionShaped r → code_labels (branch_code entries outputs base r) ≡ region_labels r
  branch_labels_are entries outputs base (region args nodes results) h =
      let exits : List Instr = moves outputs (kept (result_kinds (region args nodes results))
      (map (name_of args base (nodes_named nodes (base + value_args args) no_names)) results)) in
      omega (
        arith,
        instrs_labels (moves base (kept (map Some args) entries)) (nodes_code args base no_names (base + value_args args) nodes (instrs_then exits no_steps)),
        nodes_labels_are args base no_names (base + value_args args) nodes (instrs_then exits no_steps) h,
        instrs_labels exits no_steps,
      )

  loop_labels_are : (entries : List ℕ) (next : ℕ) (r : RegionTree) → RegionShaped r → step_labels (loop_step entries next r) ≡ 2 + (region_labels r + 0)
  loop_labels_are entries next (region args nodes results) h =
      let outputs : ℕ = next + value_args args + nodes_names nodes in
      let exits : List Instr = moves outputs (loop_results args (map (name_of args next (nodes_named nodes (next + value_args args) no_names)) results)) in
      omega (arith, nodes_labels_are args next no_names (next + value_args args) nodes (instrs_then exits no_steps) h, instrs_labels exits no_steps)
