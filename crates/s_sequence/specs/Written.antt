-- What is written of regions: the lines of parts of choices, and the numbers of labels.
use Rattle.std.specs.Prelude.{◌≡◌, ℕ, zero, suc, ◌+◌, ◌<◌, ◌^◌, List, [], ◌∷◌, ◌++◌, map}
use Rattle.std.specs.declared.option.Option.TheVariants.{Some, None}
use Rattle.g_graph.specs.declared.op.Kind.{Kind}
use Rattle.g_graph.specs.declared.op.Origin.{Origin}
use Rattle.g_graph.specs.declared.op.Op.{Op}
use Rattle.g_graph.specs.declared.op.Op.TheVariants.{Gamma, Theta}
use Rattle.g_graph.specs.Plain.{RegionTree, region, NodeTree, node, NodeTrees, no_nodes, node_then, RegionTrees, no_regions, region_then, count_of}
use Rattle.g_graph.specs.Signatures.{kind_of, kind_after, outputs_of}
use Rattle.s_linear.specs.Linear.{Code}
use Rattle.s_linear.specs.Lines.{Line, jump, label, branch_equal, code_lines, step_lines}
use Rattle.s_sequence.specs.declared.ports.Port.{Port}
use Rattle.s_sequence.specs.declared.scope.Scope.{Scope}
use Rattle.s_sequence.specs.Sequence.{value_args, no_names, nodes_named, name_of, kept, moves, instrs_then, outputs_at, region_names, nodes_code, node_step, branch_code}
use Rattle.s_sequence.specs.Ports.{PlainPorts, ports_from}
use Rattle.s_sequence.specs.Scope.{names_in}
use Rattle.s_sequence.specs.Writer.{PlainWriter}

-- names are left for so many values, and so many labels
pub record HasRoom (w : PlainWriter) (values labels : ℕ) : Type 0 where
  pub for_names : w.next + values < 2 ^ 32
  pub for_labels : w.label + labels < 2 ^ 32

abbrev pub own_labels : Op → RegionTrees → ℕ
own_labels Gamma rs = count_of rs
own_labels Theta rs = 2
own_labels op rs = 0

-- how many labels the codes of nodes and regions have
abbrev mutual
  pub region_labels : RegionTree → ℕ
  region_labels (region args nodes results) = nodes_labels nodes

  pub node_labels : NodeTree → ℕ
  node_labels (node id op inputs rs) = own_labels op rs + regions_labels rs

  pub nodes_labels : NodeTrees → ℕ
  nodes_labels no_nodes = 0
  nodes_labels (node_then x ns) = node_labels x + nodes_labels ns

  pub regions_labels : RegionTrees → ℕ
  regions_labels no_regions = 0
  regions_labels (region_then r rs) = region_labels r + regions_labels rs

-- the code of a region's nodes, and then `k`
abbrev pub region_code : (base : ℕ) → RegionTree → Code → Code
region_code base (region args nodes results) k = nodes_code args base no_names (base + value_args args) nodes k

-- what an origin is after a region's nodes
abbrev pub region_port : (base : ℕ) → RegionTree → Origin → Port
region_port base (region args nodes results) o =
    record { name = name_of args base (nodes_named nodes (base + value_args args) no_names) o; kind = kind_of args (λ n p. kind_after nodes n p None) o }

-- the moves into a region, its nodes, and then `k`
abbrev pub entered_code : (entries : List ℕ) → (base : ℕ) → RegionTree → Code → Code
entered_code entries base (region args nodes results) k = instrs_then (moves base (kept (map Some args) entries)) (region_code base (region args nodes results) k)

-- the step of a node in any region whose arguments the scope has
abbrev pub StepWritten : (old new : PlainWriter) → Scope → NodeTree → Type 0
StepWritten old new scope x =
    (args : List Kind) (base : ℕ) → scope.args ≡ ports_from base (map Some args) →
    new.lines ≡ old.lines ++ step_lines old.label (node_step args base (names_in scope) old.next x)

abbrev pub node_ports : (next : ℕ) → NodeTree → PlainPorts
node_ports next (node id op inputs rs) = ports_from (outputs_at next rs) (outputs_of op rs)

-- branches on so many numbers from `number` on
abbrev pub branch_lines : (predicate number first count : ℕ) → List Line
branch_lines p r first zero = []
branch_lines p r first (suc n) = branch_equal p r (first + r) ∷ branch_lines p (suc r) first n

-- a branch after a jump to the end and its label
abbrev pub other_lines : (entries : List ℕ) → (outputs label end first_label next : ℕ) → RegionTree → List Line
other_lines entries outputs l end k next r = jump end ∷ label l ∷ code_lines k (branch_code entries outputs next r)

-- these branches, labelled from `first` on
abbrev pub others_lines : (entries : List ℕ) → (outputs first end first_label next : ℕ) → RegionTrees → List Line
others_lines entries outputs first end k next no_regions = []
others_lines entries outputs first end k next (region_then r rs) =
    other_lines entries outputs first end k next r ++ others_lines entries outputs (suc first) end (k + region_labels r) (next + region_names r) rs

-- the branch that stands first, the others, labelled from `first` on, and the label of the end
abbrev pub cases_lines : (entries : List ℕ) → (first first_label next : ℕ) → RegionTree → (outputs : ℕ) → RegionTrees → List Line
cases_lines entries first k next r outputs rs =
    code_lines k (branch_code entries (next + region_names r) next r)
    ++ others_lines entries (next + region_names r) first (first + count_of rs) (k + region_labels r) (next + region_names r + outputs) rs
    ++ label (first + count_of rs) ∷ []
