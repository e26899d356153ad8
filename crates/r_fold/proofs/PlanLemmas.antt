-- A plan for a node says what folding gives, and regions are found by index.
use Rattle.std.specs.Option.{option_or}
use Rattle.std.proofs.Common.{◌≡◌, ◌≤◌, ◌<◌, get_or, ℕ, zero, suc, ◌==◌, Bool, true, false, List, [], ◌∷◌, Option, None, Some, option_map, option_and_then, length, refl, sym, ap, ◌∙◌, arith}
use Rattle.std.proofs.Math.Dec.{eqb-suc-zero, eqb-suc-suc}
use Rattle.std.specs.Prelude.{is_some, if◌then◌else◌, slice_get, ◌-◌}
use Rattle.g_graph.specs.declared.op.Op.TheVariants.{Const, Undef, Local, Delta, Bin, Un, Load, Store, Clear, PtrEq, Apply, Put, Exit, Get, Gamma, Theta}
use Rattle.g_graph.specs.declared.op.Origin.{Origin}
use Rattle.g_graph.specs.Plain.{RegionTree, region, NodeTree, node, NodeTrees, RegionTrees, no_regions, region_then, regions_of, nodes_in}
use Rattle.g_graph.specs.Nodes.{node_at, constant}
use Rattle.r_fold.specs.Rule.{is_word, Folded, word, input, replacement, gamma_folded, theta_folded, chosen_region, chosen_place, folding, folded, fold_here}
use Rattle.r_fold.specs.Plan.{planned, bin_case, un_case, theta_case, plain_case, replacement_case, has_one_turn, carried_out}

-- ---- the cases of the rule

first_none : {X : Type 0} (a : Option X) → a ≡ option_or a None
first_none None = refl
first_none (Some x) = refl

pub folding_cases : (nodes : NodeTrees) (x : NodeTree) → folding nodes x ≡ option_or (plain_case nodes x) (replacement_case nodes x)
folding_cases nodes (node id (Bin op) [] rs) = refl
folding_cases nodes (node id (Bin op) (a ∷ []) rs) = refl
folding_cases nodes (node id (Bin op) (a ∷ b ∷ []) rs) = first_none (bin_case nodes op (a ∷ b ∷ []))
folding_cases nodes (node id (Bin op) (a ∷ b ∷ c ∷ os) rs) = refl
folding_cases nodes (node id (Un op) [] rs) = refl
folding_cases nodes (node id (Un op) (a ∷ []) rs) = first_none (un_case nodes op (a ∷ []))
folding_cases nodes (node id (Un op) (a ∷ b ∷ os) rs) = refl
folding_cases nodes (node id Gamma [] rs) = refl
folding_cases nodes (node id Gamma (p ∷ os) rs) = refl
folding_cases nodes (node id Theta os no_regions) = refl
folding_cases nodes (node id Theta os (region_then r no_regions)) = refl
folding_cases nodes (node id Theta os (region_then r (region_then s rs))) = refl
folding_cases nodes (node id (Const w) os rs) = refl
folding_cases nodes (node id Undef os rs) = refl
folding_cases nodes (node id (Local k) os rs) = refl
folding_cases nodes (node id (Delta k) os rs) = refl
folding_cases nodes (node id (Load w) os rs) = refl
folding_cases nodes (node id (Store w) os rs) = refl
folding_cases nodes (node id (Clear k) os rs) = refl
folding_cases nodes (node id PtrEq os rs) = refl
folding_cases nodes (node id (Apply f) os rs) = refl
folding_cases nodes (node id Put os rs) = refl
folding_cases nodes (node id Exit os rs) = refl
folding_cases nodes (node id Get os rs) = refl

pub planned_first : (a b : Option Folded) → option_map planned (option_or a b) ≡ option_or (option_map planned a) (option_map planned b)
planned_first None b = refl
planned_first (Some f) b = refl

pub folding_planned : (nodes : NodeTrees) (x : NodeTree) → option_map planned (folding nodes x) ≡ option_or (option_map planned (plain_case nodes x)) (option_map planned (replacement_case nodes x))
folding_planned nodes x = ap (option_map planned) (folding_cases nodes x) ∙ planned_first (plain_case nodes x) (replacement_case nodes x)

pub theta_turn : (inputs : List Origin) (rs : RegionTrees) → is_some (theta_case inputs rs) ≡ has_one_turn rs
theta_turn inputs no_regions = refl
theta_turn inputs (region_then (region args nodes []) no_regions) = refl
theta_turn inputs (region_then (region args nodes (p ∷ results)) no_regions) = by_test (is_word (Some 0) (constant nodes p))
  where
    by_test : (t : Bool) → is_some (if t then Some (replacement (region args nodes results) inputs) else None) ≡ t
    by_test true = refl
    by_test false = refl
theta_turn inputs (region_then r (region_then s rs)) = refl

-- ---- the change

pub carried_out_planned : (n : ℕ) (r : RegionTree) (f : Folded) → carried_out n r (planned f) ≡ folded n r f
carried_out_planned n (region args nodes results) (word w) = refl
carried_out_planned n r (input a) = refl
carried_out_planned n r (replacement s inputs) = refl

mapped_then : (n : ℕ) (r : RegionTree) (f : Option Folded) → option_and_then (λ g. folded n r g) f ≡ option_and_then (λ p. carried_out n r p) (option_map planned f)
mapped_then n r None = refl
mapped_then n r (Some f) = sym (carried_out_planned n r f)

pub fold_here_planned : (n : ℕ) (r : RegionTree) → fold_here n r ≡ option_and_then (λ p. carried_out n r p) (option_map planned (option_and_then (folding (nodes_in r)) (node_at n (nodes_in r))))
fold_here_planned n (region args nodes results) = mapped_then n (region args nodes results) (option_and_then (folding nodes) (node_at n nodes))

pub fold_here_node : (n : ℕ) (r : RegionTree) → fold_here n r ≡ option_and_then (λ f. folded n r f) (option_and_then (folding (nodes_in r)) (node_at n (nodes_in r)))
fold_here_node n (region args nodes results) = refl

gamma_stays : (n : ℕ) (r : RegionTree) (os : List Origin) (s : Option RegionTree) → is_some (option_and_then (λ f. folded n r f) (option_map (λ t. replacement t os) s)) ≡
    is_some (option_map (λ t. replacement t os) s)
gamma_stays n r os None = refl
gamma_stays n r os (Some s) = refl

gamma_folds : (n : ℕ) (r : RegionTree) (rs : RegionTrees) (os : List Origin) (w : Option ℕ) → is_some (option_and_then (λ f. folded n r f) (gamma_folded rs os w)) ≡ is_some (gamma_folded rs os w)
gamma_folds n r rs os None = refl
gamma_folds n r rs os (Some w) = gamma_stays n r os (chosen_region w rs)

theta_folds : (n : ℕ) (r s : RegionTree) (os : List Origin) → is_some (option_and_then (λ f. folded n r f) (theta_folded s os)) ≡ is_some (theta_folded s os)
theta_folds n r (region args nodes []) os = refl
theta_folds n r (region args nodes (p ∷ results)) os = by_test (is_word (Some 0) (constant nodes p))
  where
    by_test : (t : Bool) → is_some (option_and_then (λ f. folded n r f) (if t then Some (replacement (region args nodes results) os) else None)) ≡
        is_some (if t then Some (replacement (region args nodes results) os) else None)
    by_test true = refl
    by_test false = refl

-- what comes instead of a node with regions can always be put there
pub replacement_folds : (n : ℕ) (r : RegionTree) (nodes : NodeTrees) (x : NodeTree) → is_some (option_and_then (λ f. folded n r f) (replacement_case nodes x)) ≡ is_some (replacement_case nodes x)
replacement_folds n r nodes (node id Gamma [] rs) = refl
replacement_folds n r nodes (node id Gamma (p ∷ os) rs) = gamma_folds n r rs os (constant nodes p)
replacement_folds n r nodes (node id Theta os no_regions) = refl
replacement_folds n r nodes (node id Theta os (region_then s no_regions)) = theta_folds n r s os
replacement_folds n r nodes (node id Theta os (region_then s (region_then t rs))) = refl
replacement_folds n r nodes (node id _ os rs) = refl

-- ---- regions by index

pub chosen_within : (w : ℕ) (rs : List RegionTree) (r : RegionTree) → w < length rs → r ≡ get_or rs w r → chosen_region w (regions_of rs) ≡ Some r
chosen_within w [] r h e = absurd (omega arith)
chosen_within zero (s ∷ []) r h e = ap Some (sym e)
chosen_within (suc w) (s ∷ []) r h e = absurd (omega arith)
chosen_within zero (s ∷ t ∷ rs) r h e = ap Some (sym e)
chosen_within (suc w) (s ∷ t ∷ rs) r h e = chosen_within w (t ∷ rs) r (omega arith) e

pub chosen_last : (w : ℕ) (rs : List RegionTree) → length rs ≤ w → chosen_region w (regions_of rs) ≡ slice_get rs (length rs - 1)
chosen_last w [] h = refl
chosen_last zero (s ∷ rs) h = absurd (omega arith)
chosen_last (suc w) (s ∷ []) h = refl
chosen_last (suc w) (s ∷ t ∷ rs) h =
    let index : suc (length (t ∷ rs) - 1) ≡ length (s ∷ t ∷ rs) - 1 = omega arith in
    chosen_last w (t ∷ rs) (omega arith) ∙ ap (slice_get (s ∷ t ∷ rs)) index

-- the place of the region that is chosen
pub place_within : (w : ℕ) (rs : List RegionTree) → w < length rs → w ≡ chosen_place w (regions_of rs)
place_within w [] h = absurd (omega arith)
place_within zero (s ∷ []) h = refl
place_within (suc w) (s ∷ []) h = absurd (omega arith)
place_within zero (s ∷ t ∷ rs) h = refl
place_within (suc w) (s ∷ t ∷ rs) h = ap suc (place_within w (t ∷ rs) (omega arith))

pub place_last : (w : ℕ) (rs : List RegionTree) → length rs ≤ w → length rs - 1 ≡ chosen_place w (regions_of rs)
place_last w [] h = refl
place_last zero (s ∷ rs) h = absurd (omega arith)
place_last (suc w) (s ∷ []) h = refl
place_last (suc w) (s ∷ t ∷ rs) h =
    let index : length (s ∷ t ∷ rs) - 1 ≡ suc (length (t ∷ rs) - 1) = omega arith in
    index ∙ ap suc (place_last w (t ∷ rs) (omega arith))

pub theta_none : (inputs : List Origin) (rs : List RegionTree) → (length rs ≡ 1 → ⊥) → theta_case inputs (regions_of rs) ≡ None
theta_none inputs [] h = refl
theta_none inputs (r ∷ []) h = absurd (h refl)
theta_none inputs (r ∷ s ∷ rs) h = refl

pub no_turn : (rs : List RegionTree) → (length rs ≡ 1 → ⊥) → (length rs == 1) ≡ has_one_turn (regions_of rs)
no_turn [] h = refl
no_turn (r ∷ []) h = absurd (h refl)
no_turn (r ∷ s ∷ rs) h = eqb-suc-suc (suc (length rs)) 0 ∙ eqb-suc-zero (length rs)
