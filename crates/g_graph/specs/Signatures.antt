-- The one table of ops: the inputs and the outputs of each, in number and kind. What a Gamma takes and gives is what
-- its regions take and give, and so it is with a Theta, whose region also gives its predicate.
use Rattle.std.specs.Prelude.{ℕ, ◌-◌, ◌==◌, Bool, true, false, List, [], ◌∷◌, ◌++◌, map, replicate, if◌then◌else◌, slice_get}
use Rattle.std.specs.declared.option.Option.{Option}
use Rattle.std.specs.declared.option.Option.TheVariants.{Some, None}
use Rattle.g_graph.specs.declared.op.Kind.{Kind}
use Rattle.g_graph.specs.declared.op.Kind.TheVariants.{Value, Memory, Io}
use Rattle.g_graph.specs.declared.op.Origin.{Origin}
use Rattle.g_graph.specs.declared.op.Origin.TheVariants.{Arg, Out}
use Rattle.g_graph.specs.declared.op.Op.{Op}
use Rattle.g_graph.specs.declared.op.Op.TheVariants.{Const, Undef, Local, Delta, Bin, Un, Load, Store, Clear, PtrEq, Apply, Put, Exit, Get, Gamma, Theta}
use Rattle.g_graph.specs.Plain.{RegionTree, region, NodeTree, node, NodeTrees, no_nodes, node_then, RegionTrees, no_regions, region_then, id_of, args_of}

abbrev pub first_args : RegionTrees → List Kind
first_args no_regions = []
first_args (region_then r rs) = args_of r

-- the inputs of an op, where they depend on the op alone
abbrev pub op_inputs : Op → List Kind
op_inputs (Const w) = []
op_inputs Undef = []
op_inputs (Local k) = []
op_inputs (Delta k) = []
op_inputs (Bin op) = Value ∷ Value ∷ []
op_inputs (Un op) = Value ∷ []
op_inputs (Load width) = Value ∷ Memory ∷ []
op_inputs (Store width) = Value ∷ Value ∷ Memory ∷ []
op_inputs (Clear k) = Memory ∷ []
op_inputs PtrEq = Value ∷ Value ∷ Memory ∷ []
op_inputs (Apply f) = []
op_inputs Put = Value ∷ Io ∷ []
op_inputs Exit = Value ∷ Io ∷ []
op_inputs Get = Io ∷ []
op_inputs Gamma = []
op_inputs Theta = []

-- the inputs of an op that has so many, with these regions
abbrev pub inputs_of : Op → (count : ℕ) → RegionTrees → List Kind
inputs_of (Apply f) n rs = replicate (n - 2) Value ++ Memory ∷ Io ∷ []
inputs_of Gamma n rs = Value ∷ first_args rs
inputs_of Theta n rs = first_args rs
inputs_of op n rs = op_inputs op

abbrev pub joined : {X : Type 0} → Option (Option X) → Option X
joined None = None
joined (Some x) = x

-- The kind of an origin, where the region has these arguments and the outputs of its nodes, by node and port, have
-- these kinds: None where there is no such origin.
abbrev pub kind_of : List Kind → (ℕ → ℕ → Option Kind) → Origin → Option Kind
kind_of args outputs (Arg k) = slice_get args k
kind_of args outputs (Out n p) = outputs n p

-- the outputs of an op without regions
abbrev pub op_outputs : Op → List Kind
op_outputs (Const w) = Value ∷ []
op_outputs Undef = Value ∷ []
op_outputs (Local k) = Value ∷ []
op_outputs (Delta k) = Value ∷ []
op_outputs (Bin op) = Value ∷ []
op_outputs (Un op) = Value ∷ []
op_outputs (Load width) = Value ∷ []
op_outputs (Store width) = Memory ∷ []
op_outputs (Clear k) = Memory ∷ []
op_outputs PtrEq = Value ∷ []
op_outputs (Apply f) = Value ∷ Memory ∷ Io ∷ []
op_outputs Put = Io ∷ []
op_outputs Exit = Io ∷ []
op_outputs Get = Value ∷ Io ∷ []
op_outputs Gamma = []
op_outputs Theta = []

-- The outputs of an op with these regions, the results of a region, the outputs of a node, and the kind of an output by
-- node and port after these nodes, where it had the kind `before`. Of nodes with one number the last counts.
abbrev mutual
  pub outputs_of : Op → RegionTrees → List (Option Kind)
  outputs_of Gamma no_regions = []
  outputs_of Gamma (region_then r rs) = result_kinds r
  outputs_of Theta rs = map Some (first_args rs)
  outputs_of op rs = map Some (op_outputs op)

  pub result_kinds : RegionTree → List (Option Kind)
  result_kinds (region args nodes results) = map (kind_of args (λ n p. kind_after nodes n p None)) results

  pub output_kinds : NodeTree → List (Option Kind)
  output_kinds (node id op inputs rs) = outputs_of op rs

  pub kind_after : NodeTrees → (id : ℕ) → (port : ℕ) → (before : Option Kind) → Option Kind
  kind_after no_nodes n p before = before
  kind_after (node_then x xs) n p before = kind_after xs n p (if id_of x == n then joined (slice_get (output_kinds x) p) else before)

-- A pure op reads and gives no state: its output is a function of its inputs.
abbrev pub is_pure : Op → Bool
is_pure (Const w) = true
is_pure Undef = true
is_pure (Local k) = true
is_pure (Delta k) = true
is_pure (Bin op) = true
is_pure (Un op) = true
is_pure op = false
