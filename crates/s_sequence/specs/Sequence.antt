-- The linear code of a lambda: each node is one step, in list order. Names are numbered in the order of first writing, by
-- arithmetic over the tree; states have none.
use Rattle.std.specs.Prelude.{ℕ, suc, ◌+◌, ◌^◌, ◌%◌, ◌==◌, if◌then◌else◌, List, [], ◌∷◌, map, take, slice_index_or}
use Rattle.std.specs.declared.option.Option.{Option}
use Rattle.std.specs.declared.option.Option.TheVariants.{Some}
use Rattle.g_graph.specs.declared.op.Kind.{Kind}
use Rattle.g_graph.specs.declared.op.Kind.TheVariants.{Value}
use Rattle.g_graph.specs.declared.op.Origin.{Origin}
use Rattle.g_graph.specs.declared.op.Origin.TheVariants.{Arg, Out}
use Rattle.g_graph.specs.declared.op.Op.{Op}
use Rattle.g_graph.specs.declared.op.Op.TheVariants.{Const, Undef, Local, Delta, Bin, Un, Load, Store, Clear, PtrEq, Apply, Put, Exit, Get, Gamma, Theta}
use Rattle.g_graph.specs.Plain.{RegionTree, region, NodeTree, node, NodeTrees, no_nodes, node_then, RegionTrees, no_regions, region_then, PlainLambda}
use Rattle.g_graph.specs.Signatures.{result_kinds, output_kinds}
use Rattle.s_linear.specs.Linear.{Instr, const, undef, object_address, global_address, binary, unary, load, store, clear, equal_pointers, move, call, put, get, exit, Step, plain, choice, loop, Code, no_steps, step_then, Codes, no_codes, code_then, LinearFunction}
use Rattle.val_core.specs.Numbers.{numbers_from}

-- ---- names

-- how many of these are values
abbrev pub values_in : List (Option Kind) → ℕ
values_in [] = 0
values_in (Some Value ∷ ks) = suc (values_in ks)
values_in (_ ∷ ks) = values_in ks

abbrev pub value_args : List Kind → ℕ
value_args args = values_in (map Some args)

-- of as many names those of values
abbrev pub kept : List (Option Kind) → List ℕ → List ℕ
kept (Some Value ∷ ks) (x ∷ xs) = x ∷ kept ks xs
kept (_ ∷ ks) (x ∷ xs) = kept ks xs
kept _ _ = []

-- how many names a node, nodes and regions write first: a region those of its arguments too
abbrev mutual
  pub node_names : NodeTree → ℕ
  node_names (node id op inputs rs) = regions_names rs + values_in (output_kinds (node id op inputs rs))

  pub nodes_names : NodeTrees → ℕ
  nodes_names no_nodes = 0
  nodes_names (node_then x ns) = node_names x + nodes_names ns

  pub region_names : RegionTree → ℕ
  region_names (region args nodes results) = value_args args + nodes_names nodes

  pub regions_names : RegionTrees → ℕ
  regions_names no_regions = 0
  regions_names (region_then r rs) = region_names r + regions_names rs

abbrev pub last_names : RegionTrees → ℕ
last_names no_regions = 0
last_names (region_then r no_regions) = region_names r
last_names (region_then r rs) = last_names rs

-- The names of the region whose code stands first: of two the first, of another number the last.
abbrev pub first_standing : RegionTrees → ℕ
first_standing (region_then r (region_then s no_regions)) = region_names r
first_standing rs = last_names rs

-- where the names of a node's outputs begin, when its own begin at `next`
abbrev pub outputs_at : (next : ℕ) → RegionTrees → ℕ
outputs_at next rs = next + first_standing rs

-- where the names of each region but the last begin, from `at` on, and those of the last at `next`
abbrev pub bases_from : (next at : ℕ) → RegionTrees → List ℕ
bases_from next at no_regions = []
bases_from next at (region_then r no_regions) = next ∷ []
bases_from next at (region_then r rs) = at ∷ bases_from next (at + region_names r) rs

-- Where the names of each region begin: the region whose code stands first begins, the outputs follow, then the others.
abbrev pub bases : (next outputs : ℕ) → RegionTrees → List ℕ
bases next outputs (region_then r (region_then s no_regions)) = next ∷ (next + region_names r + outputs) ∷ []
bases next outputs rs = bases_from next (next + last_names rs + outputs) rs

-- the names of outputs by node and port
abbrev pub Names : Type 0
Names = ℕ → ℕ → ℕ

abbrev pub no_names : Names
no_names n p = 0

-- after a node whose own names begin at `next`
abbrev pub named : NodeTree → (next : ℕ) → Names → Names
named (node id op inputs rs) next names n p =
    if n == id then outputs_at next rs + values_in (take p (output_kinds (node id op inputs rs))) else names n p

abbrev pub nodes_named : NodeTrees → (next : ℕ) → Names → Names
nodes_named no_nodes next names = names
nodes_named (node_then x ns) next names = nodes_named ns (next + node_names x) (named x next names)

-- the name of an origin in a region whose names begin at `base`
abbrev pub name_of : (args : List Kind) → (base : ℕ) → Names → Origin → ℕ
name_of args base names (Arg k) = base + value_args (take k args)
name_of args base names (Out n p) = names n p

-- ---- code

-- to the names from `target` on, from these
abbrev pub moves : (target : ℕ) → (sources : List ℕ) → List Instr
moves t [] = []
moves t (x ∷ xs) = move t x ∷ moves (suc t) xs

abbrev pub name_at : List ℕ → ℕ → ℕ
name_at xs k = slice_index_or xs k 0

-- all but the last two: the arguments of a call, without its states
abbrev pub without_states : List ℕ → List ℕ
without_states (x ∷ y ∷ z ∷ xs) = x ∷ without_states (y ∷ z ∷ xs)
without_states xs = []

-- the instruction of an op without regions, with this target and these names of its inputs: a Const's number is its low word
abbrev pub op_instr : Op → (target : ℕ) → List ℕ → Instr
op_instr (Const w) t xs = const t (w % 2 ^ 32)
op_instr Undef t xs = undef t
op_instr (Local k) t xs = object_address t k
op_instr (Delta k) t xs = global_address t k
op_instr (Bin o) t xs = binary o t (name_at xs 0) (name_at xs 1)
op_instr (Un o) t xs = unary o t (name_at xs 0)
op_instr (Load width) t xs = load width t (name_at xs 0)
op_instr (Store width) t xs = store width (name_at xs 0) (name_at xs 1)
op_instr (Clear k) t xs = clear k
op_instr PtrEq t xs = equal_pointers t (name_at xs 0) (name_at xs 1)
op_instr (Apply f) t xs = call f t (without_states xs)
op_instr Put t xs = put (name_at xs 0)
op_instr Get t xs = get t
op_instr Exit t xs = exit (name_at xs 0)
op_instr o t xs = undef t

abbrev pub instrs_then : List Instr → Code → Code
instrs_then [] k = k
instrs_then (i ∷ is) k = step_then (plain i) (instrs_then is k)

-- of a Theta's region the name of its predicate, and those of its other results that are values
abbrev pub predicate_name : List ℕ → ℕ
predicate_name xs = name_at xs 0

abbrev pub loop_results : List Kind → List ℕ → List ℕ
loop_results args [] = []
loop_results args (p ∷ xs) = kept (map Some args) xs

-- the code of a region's nodes, and then `k`
abbrev mutual
  pub nodes_code : (args : List Kind) → (base : ℕ) → Names → (next : ℕ) → NodeTrees → Code → Code
  nodes_code args base names next no_nodes k = k
  nodes_code args base names next (node_then x ns) k =
      step_then (node_step args base names next x) (nodes_code args base (named x next names) (next + node_names x) ns k)

  pub node_step : (args : List Kind) → (base : ℕ) → Names → (next : ℕ) → NodeTree → Step
  node_step args base names next (node id Gamma (p ∷ entries) rs) =
      choice (name_of args base names p)
      (branch_codes (map (name_of args base names) entries) (outputs_at next rs) (bases next (values_in (output_kinds (node id Gamma (p ∷ entries) rs))) rs) rs)
  node_step args base names next (node id Theta inputs (region_then r no_regions)) = loop_step (map (name_of args base names) inputs) next r
  node_step args base names next (node id op inputs rs) = plain (op_instr op next (map (name_of args base names) inputs))

  -- each region: moves from the entries to its arguments, its nodes, moves from its results to the outputs
  pub branch_codes : (entries : List ℕ) → (outputs : ℕ) → (bases : List ℕ) → RegionTrees → Codes
  branch_codes entries outputs [] rs = no_codes
  branch_codes entries outputs (b ∷ bs) no_regions = no_codes
  branch_codes entries outputs (b ∷ bs) (region_then r rs) = code_then (branch_code entries outputs b r) (branch_codes entries outputs bs rs)

  pub branch_code : (entries : List ℕ) → (outputs base : ℕ) → RegionTree → Code
  branch_code entries outputs base (region args nodes results) =
      instrs_then (moves base (kept (map Some args) entries))
      (nodes_code args base no_names (base + value_args args) nodes
      (instrs_then (moves outputs (kept (result_kinds (region args nodes results))
      (map (name_of args base (nodes_named nodes (base + value_args args) no_names)) results)))
      no_steps))

  -- a loop: its outputs are named after its nodes
  pub loop_step : (entries : List ℕ) → (next : ℕ) → RegionTree → Step
  loop_step entries next (region args nodes results) =
      let names = map (name_of args next (nodes_named nodes (next + value_args args) no_names)) results in
      let outputs = next + value_args args + nodes_names nodes in
      loop (moves next (kept (map Some args) entries))
      (nodes_code args next no_names (next + value_args args) nodes (instrs_then (moves outputs (loop_results args names)) no_steps))
      (predicate_name names)
      (moves next (numbers_from outputs (value_args args)))

abbrev pub body_code : RegionTree → Code
body_code (region args nodes results) = nodes_code args 0 no_names (value_args args) nodes no_steps

-- the name of the value that the body of a lambda gives
abbrev pub value_name : RegionTree → ℕ
value_name (region args nodes results) = name_at (map (name_of args 0 (nodes_named nodes (value_args args) no_names)) results) 0

abbrev pub sequenced : PlainLambda → LinearFunction
sequenced l = record { number = l.number; params = l.params; objects = l.objects; code = body_code l.body; value = value_name l.body }
