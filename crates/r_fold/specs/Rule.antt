-- Folding: a node whose inputs are constants becomes what it gives (ISO/IEC 9899:2011, 6.6p10, leaves such evaluation
-- to the translator).
use Rattle.std.specs.Prelude.{ℕ, zero, suc, ◌==◌, if◌then◌else◌, Bool, false, List, [], ◌∷◌, Option, None, Some, option_map, option_and_then, is_some}
use Rattle.val_core.specs.declared.operation.Op2.{Op2}
use Rattle.val_core.specs.declared.operation.Op2.TheVariants.{Add, Sub, Mul, Or, Xor, Sll, Srl, Sra}
use Rattle.val_core.specs.Words.{word1, word2}
use Rattle.g_graph.specs.declared.op.Op.TheVariants.{Const, Bin, Un, Gamma, Theta}
use Rattle.g_graph.specs.declared.op.Origin.{Origin}
use Rattle.g_graph.specs.declared.op.Origin.TheVariants.{Out}
use Rattle.g_graph.specs.Plain.{RegionTree, region, NodeTree, node, NodeTrees, RegionTrees, no_regions, region_then, PlainLambda}
use Rattle.g_graph.specs.Change.{region_changed, lambda_changed}
use Rattle.g_graph.specs.Replace.{region_redirected, origin_replaced}
use Rattle.g_graph.specs.Splice.{args_to_inputs, region_spliced}
use Rattle.g_graph.specs.Nodes.{node_at, node_set, constant, is_used}

-- ---- constants

abbrev pub is_word : Option ℕ → Option ℕ → Bool
is_word (Some k) (Some u) = k == u
is_word _ _ = false

-- the word with which, on the left, an operation gives its right operand
abbrev pub left_neutral : Op2 → Option ℕ
left_neutral Add = Some 0
left_neutral Or = Some 0
left_neutral Xor = Some 0
left_neutral Mul = Some 1
left_neutral op = None

-- the word with which, on the right, an operation gives its left operand
abbrev pub right_neutral : Op2 → Option ℕ
right_neutral Sub = Some 0
right_neutral Sll = Some 0
right_neutral Srl = Some 0
right_neutral Sra = Some 0
right_neutral op = left_neutral op

-- ---- what comes instead of a node

-- a constant; another origin for its uses; or a region, whose arguments are these
pub data Folded : Type 0 where
  word : ℕ → Folded
  input : Origin → Folded
  replacement : RegionTree → (inputs : List Origin) → Folded

abbrev pub bin_folded : Op2 → (a b : Origin) → Option ℕ → Option ℕ → Option Folded
bin_folded op a b (Some u) (Some v) = Some (word (word2 op u v))
bin_folded op a b u v =
    if is_word (left_neutral op) u then Some (input b) else if is_word (right_neutral op) v then Some (input a) else None

-- of n regions the one numbered min(w, n - 1)
abbrev pub chosen_region : ℕ → RegionTrees → Option RegionTree
chosen_region w no_regions = None
chosen_region w (region_then r no_regions) = Some r
chosen_region zero (region_then r rs) = Some r
chosen_region (suc w) (region_then r rs) = chosen_region w rs

-- its place
abbrev pub chosen_place : ℕ → RegionTrees → ℕ
chosen_place w no_regions = 0
chosen_place w (region_then r no_regions) = 0
chosen_place zero (region_then r rs) = 0
chosen_place (suc w) (region_then r rs) = suc (chosen_place w rs)

abbrev pub gamma_folded : RegionTrees → List Origin → Option ℕ → Option Folded
gamma_folded rs entries None = None
gamma_folded rs entries (Some w) = option_map (λ r. replacement r entries) (chosen_region w rs)

-- a region that is repeated while a constant 0 is not 0
abbrev pub theta_folded : RegionTree → List Origin → Option Folded
theta_folded (region args nodes []) inputs = None
theta_folded (region args nodes (p ∷ results)) inputs =
    if is_word (Some 0) (constant nodes p) then Some (replacement (region args nodes results) inputs) else None

abbrev pub folding : NodeTrees → NodeTree → Option Folded
folding nodes (node id (Bin op) (a ∷ b ∷ []) rs) = bin_folded op a b (constant nodes a) (constant nodes b)
folding nodes (node id (Un op) (a ∷ []) rs) = option_map (λ u. word (word1 op u)) (constant nodes a)
folding nodes (node id Gamma (p ∷ entries) rs) = gamma_folded rs entries (constant nodes p)
folding nodes (node id Theta inputs (region_then r no_regions)) = theta_folded r inputs
folding nodes _ = None

-- ---- the change

-- Uses are replaced only where there is one.
abbrev pub folded : ℕ → RegionTree → Folded → Option RegionTree
folded n (region args nodes results) (word w) = Some (region args (node_set n (node n (Const w) [] no_regions) nodes) results)
folded n r (input a) = if is_used (Out n 0) r then Some (region_redirected (origin_replaced (Out n 0) a) r) else None
folded n r (replacement s inputs) = Some (region_spliced n (region_redirected (args_to_inputs inputs) s) r)

-- the region that holds node n, with that node folded, where it can be
abbrev pub fold_here : ℕ → RegionTree → Option RegionTree
fold_here n (region args nodes results) =
    option_and_then (λ f. folded n (region args nodes results) f) (option_and_then (folding nodes) (node_at n nodes))

-- whether the rule applies at a node, and the changed lambda
abbrev pub applies : PlainLambda → ℕ → Bool
applies l n = is_some (region_changed (fold_here n) l.body)

abbrev pub fold : ℕ → PlainLambda → PlainLambda
fold n l = lambda_changed (fold_here n) l
