-- Worked rows of dead node elimination.
use Rattle.std.proofs.Common.{◌≡◌, ℕ, List, [], ◌∷◌, None, Some, refl}
use Rattle.val_core.specs.declared.operation.Op2.TheVariants.{Add}
use Rattle.g_graph.specs.declared.op.Kind.{Kind}
use Rattle.g_graph.specs.declared.op.Kind.TheVariants.{Value as ValueKind, Memory, Io}
use Rattle.g_graph.specs.declared.op.Op.{Op}
use Rattle.g_graph.specs.declared.op.Op.TheVariants.{Const, Bin, Load, Get, Gamma, Theta}
use Rattle.g_graph.specs.declared.op.Origin.{Origin}
use Rattle.g_graph.specs.declared.op.Origin.TheVariants.{Arg, Out}
use Rattle.g_graph.specs.Plain.{RegionTree, region, NodeTree, node, no_regions, nodes_of, regions_of}
use Rattle.r_dne.specs.Rule.{dne_here}

abbrev plain : ℕ → Op → List Origin → NodeTree
plain id op inputs = node id op inputs no_regions

abbrev kinds : List Kind
kinds = ValueKind ∷ Memory ∷ Io ∷ []

abbrev of_nodes : List NodeTree → Origin → RegionTree
of_nodes nodes value = region kinds (nodes_of nodes) (value ∷ Arg 1 ∷ Arg 2 ∷ [])

-- ---- a node

load_goes : dne_here 1 (of_nodes (plain 0 (Const 7) [] ∷ plain 1 (Load 4) (Arg 0 ∷ Arg 1 ∷ []) ∷ plain 2 (Bin Add) (Out 0 0 ∷ Arg 0 ∷ []) ∷ []) (Out 2 0))
    ≡ Some (of_nodes (plain 0 (Const 7) [] ∷ plain 2 (Bin Add) (Out 0 0 ∷ Arg 0 ∷ []) ∷ []) (Out 2 0))
load_goes = refl

used_stays : dne_here 0 (of_nodes (plain 0 (Const 7) [] ∷ plain 2 (Bin Add) (Out 0 0 ∷ Arg 0 ∷ []) ∷ []) (Out 2 0)) ≡ None
used_stays = refl

-- a byte is read
state_stays : dne_here 0 (region kinds (nodes_of (plain 0 Get (Arg 2 ∷ []) ∷ [])) (Arg 0 ∷ Arg 1 ∷ Out 0 1 ∷ [])) ≡ None
state_stays = refl

-- ---- a Gamma of two regions, which take the parameter twice, and give two values

abbrev two_in : List Kind
two_in = ValueKind ∷ ValueKind ∷ Memory ∷ Io ∷ []

abbrev choice : (predicate : Origin) → List Origin → (regions : List RegionTree) → List Origin → RegionTree
choice predicate entries rs results = region kinds (nodes_of (node 0 Gamma (predicate ∷ entries) (regions_of rs) ∷ [])) results

-- the first exit variable is not used, and then its argument is not
exit_and_entry : dne_here 0 (choice (Arg 0) (Arg 0 ∷ Arg 0 ∷ Arg 1 ∷ Arg 2 ∷ [])
    (region two_in (nodes_of []) (Arg 0 ∷ Arg 1 ∷ Arg 2 ∷ Arg 3 ∷ []) ∷ region two_in (nodes_of (plain 1 (Const 3) [] ∷ [])) (Out 1 0 ∷ Arg 1 ∷ Arg 2 ∷ Arg 3 ∷ []) ∷ [])
    (Out 0 1 ∷ Out 0 2 ∷ Out 0 3 ∷ []))
    ≡ Some (choice (Arg 0) (Arg 0 ∷ Arg 1 ∷ Arg 2 ∷ [])
    (region kinds (nodes_of []) (Arg 0 ∷ Arg 1 ∷ Arg 2 ∷ []) ∷ region kinds (nodes_of (plain 1 (Const 3) [] ∷ [])) (Arg 0 ∷ Arg 1 ∷ Arg 2 ∷ []) ∷ [])
    (Out 0 0 ∷ Out 0 1 ∷ Out 0 2 ∷ []))
exit_and_entry = refl

-- all is used
all_used : dne_here 0 (choice (Arg 0) (Arg 0 ∷ Arg 1 ∷ Arg 2 ∷ [])
    (region kinds (nodes_of []) (Arg 0 ∷ Arg 1 ∷ Arg 2 ∷ []) ∷ region kinds (nodes_of []) (Arg 0 ∷ Arg 1 ∷ Arg 2 ∷ []) ∷ [])
    (Out 0 0 ∷ Out 0 1 ∷ Out 0 2 ∷ [])) ≡ None
all_used = refl

-- a state exit variable stays that nothing uses; the whole Gamma does, as it gives states
state_exit : dne_here 0 (choice (Arg 0) (Arg 1 ∷ []) (region (Memory ∷ []) (nodes_of []) (Arg 0 ∷ []) ∷ []) (Arg 0 ∷ Arg 1 ∷ Arg 2 ∷ [])) ≡ None
state_exit = refl

-- One of four values is used, which each region makes itself.
abbrev wide : List Kind
wide = ValueKind ∷ ValueKind ∷ ValueKind ∷ ValueKind ∷ Memory ∷ Io ∷ []

abbrev read_and_choose : NodeTree → List Origin → RegionTree
read_and_choose x results =
    region (Memory ∷ Io ∷ []) (nodes_of (plain 0 Get (Arg 1 ∷ []) ∷ plain 1 (Const 1) [] ∷ plain 2 (Const 2) [] ∷ plain 3 (Const 3) [] ∷ x ∷ [])) results

most_go : dne_here 4 (read_and_choose
    (node 4 Gamma (Out 0 0 ∷ Out 0 0 ∷ Out 1 0 ∷ Out 2 0 ∷ Out 3 0 ∷ Arg 0 ∷ Out 0 1 ∷ []) (regions_of
    (region wide (nodes_of (plain 7 (Const 7) [] ∷ [])) (Arg 0 ∷ Arg 1 ∷ Out 7 0 ∷ Arg 3 ∷ Arg 4 ∷ Arg 5 ∷ [])
    ∷ region wide (nodes_of (plain 5 (Const 5) [] ∷ plain 6 (Const 6) [] ∷ [])) (Arg 0 ∷ Out 5 0 ∷ Out 6 0 ∷ Arg 3 ∷ Arg 4 ∷ Arg 5 ∷ []) ∷ [])))
    (Out 4 2 ∷ Out 4 4 ∷ Out 4 5 ∷ []))
    ≡ Some (read_and_choose
    (node 4 Gamma (Out 0 0 ∷ Arg 0 ∷ Out 0 1 ∷ []) (regions_of
    (region (Memory ∷ Io ∷ []) (nodes_of (plain 7 (Const 7) [] ∷ [])) (Out 7 0 ∷ Arg 0 ∷ Arg 1 ∷ [])
    ∷ region (Memory ∷ Io ∷ []) (nodes_of (plain 5 (Const 5) [] ∷ plain 6 (Const 6) [] ∷ [])) (Out 6 0 ∷ Arg 0 ∷ Arg 1 ∷ []) ∷ [])))
    (Out 4 0 ∷ Out 4 1 ∷ Out 4 2 ∷ []))
most_go = refl

-- ---- a Theta with two values

abbrev loop : List Kind → List Origin → List NodeTree → List Origin → List Origin → RegionTree
loop own inputs nodes outs results = region kinds (nodes_of (node 0 Theta inputs (regions_of (region own (nodes_of nodes) outs ∷ [])) ∷ [])) results

-- its own result alone reads the second variable
variable_goes : dne_here 0 (loop two_in (Arg 0 ∷ Arg 0 ∷ Arg 1 ∷ Arg 2 ∷ []) [] (Arg 0 ∷ Arg 0 ∷ Arg 1 ∷ Arg 2 ∷ Arg 3 ∷ []) (Out 0 0 ∷ Out 0 2 ∷ Out 0 3 ∷ []))
    ≡ Some (loop kinds (Arg 0 ∷ Arg 1 ∷ Arg 2 ∷ []) [] (Arg 0 ∷ Arg 0 ∷ Arg 1 ∷ Arg 2 ∷ []) (Out 0 0 ∷ Out 0 1 ∷ Out 0 2 ∷ []))
variable_goes = refl

-- another result reads it
variable_stays : dne_here 0 (loop two_in (Arg 0 ∷ Arg 0 ∷ Arg 1 ∷ Arg 2 ∷ []) [] (Arg 0 ∷ Arg 1 ∷ Arg 1 ∷ Arg 2 ∷ Arg 3 ∷ []) (Out 0 0 ∷ Out 0 2 ∷ Out 0 3 ∷ [])) ≡ None
variable_stays = refl

-- the first variable's argument is the second one's result, which nothing else reads
swapped : dne_here 0 (loop two_in (Arg 0 ∷ Arg 0 ∷ Arg 1 ∷ Arg 2 ∷ []) (plain 1 (Const 0) [] ∷ []) (Out 1 0 ∷ Arg 1 ∷ Arg 0 ∷ Arg 2 ∷ Arg 3 ∷ []) (Arg 0 ∷ Out 0 2 ∷ Out 0 3 ∷ [])) ≡ None
swapped = refl
