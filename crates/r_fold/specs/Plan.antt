-- Folding as it is done: a plan for a node is made first, and then carried out.
use Rattle.std.specs.Prelude.{ℕ, Bool, false, if◌then◌else◌, List, [], ◌∷◌, option_map}
use Rattle.std.specs.declared.option.Option.{Option}
use Rattle.std.specs.declared.option.Option.TheVariants.{Some, None}
use Rattle.val_core.specs.declared.operation.Op2.{Op2}
use Rattle.val_core.specs.declared.operation.Op1.{Op1}
use Rattle.val_core.specs.Words.{word1}
use Rattle.g_graph.specs.declared.op.Op.TheVariants.{Const, Bin, Un, Gamma, Theta}
use Rattle.g_graph.specs.declared.op.Origin.{Origin}
use Rattle.g_graph.specs.declared.op.Origin.TheVariants.{Out}
use Rattle.g_graph.specs.Plain.{RegionTree, region, NodeTree, node, NodeTrees, RegionTrees, no_regions, region_then}
use Rattle.g_graph.specs.Replace.{region_redirected, origin_replaced}
use Rattle.g_graph.specs.Splice.{args_to_inputs, region_spliced}
use Rattle.r_fold.specs.declared.plan.Plan.{Plan}
use Rattle.r_fold.specs.declared.plan.Plan.TheVariants.{Word, Input, Replacement}
use Rattle.g_graph.specs.Nodes.{constant, node_set, is_used}
use Rattle.r_fold.specs.Rule.{is_word, Folded, word, input, replacement, bin_folded, gamma_folded, theta_folded}

-- the inputs of a replacement are put instead of its arguments
abbrev pub planned : Folded → Plan
planned (word w) = Word w
planned (input a) = Input a
planned (replacement r inputs) = Replacement (region_redirected (args_to_inputs inputs) r)

-- ---- the cases of the rule, by op

abbrev pub bin_case : NodeTrees → Op2 → List Origin → Option Folded
bin_case nodes op (a ∷ b ∷ []) = bin_folded op a b (constant nodes a) (constant nodes b)
bin_case nodes op inputs = None

abbrev pub un_case : NodeTrees → Op1 → List Origin → Option Folded
un_case nodes op (a ∷ []) = option_map (λ u. word (word1 op u)) (constant nodes a)
un_case nodes op inputs = None

abbrev pub gamma_case : NodeTrees → List Origin → RegionTrees → Option Folded
gamma_case nodes [] rs = None
gamma_case nodes (p ∷ entries) rs = gamma_folded rs entries (constant nodes p)

abbrev pub theta_case : List Origin → RegionTrees → Option Folded
theta_case inputs (region_then r no_regions) = theta_folded r inputs
theta_case inputs rs = None

-- the cases of nodes without regions, and of those with
abbrev pub plain_case : NodeTrees → NodeTree → Option Folded
plain_case nodes (node id (Bin op) inputs rs) = bin_case nodes op inputs
plain_case nodes (node id (Un op) inputs rs) = un_case nodes op inputs
plain_case nodes (node id op inputs rs) = None

abbrev pub replacement_case : NodeTrees → NodeTree → Option Folded
replacement_case nodes (node id Gamma inputs rs) = gamma_case nodes inputs rs
replacement_case nodes (node id Theta inputs rs) = theta_case inputs rs
replacement_case nodes (node id op inputs rs) = None

-- whether the predicate is a constant 0 of the region
abbrev pub runs_once : RegionTree → Bool
runs_once (region args nodes []) = false
runs_once (region args nodes (p ∷ results)) = is_word (Some 0) (constant nodes p)

abbrev pub has_one_turn : RegionTrees → Bool
has_one_turn (region_then r no_regions) = runs_once r
has_one_turn rs = false

-- ---- the change

abbrev pub with_word : ℕ → ℕ → RegionTree → RegionTree
with_word n w (region args nodes results) = region args (node_set n (node n (Const w) [] no_regions) nodes) results

abbrev pub with_input : ℕ → Origin → RegionTree → Option RegionTree
with_input n a r = if is_used (Out n 0) r then Some (region_redirected (origin_replaced (Out n 0) a) r) else None

abbrev pub carried_out : ℕ → RegionTree → Plan → Option RegionTree
carried_out n r (Word w) = Some (with_word n w r)
carried_out n r (Input a) = with_input n a r
carried_out n r (Replacement s) = Some (region_spliced n s r)
