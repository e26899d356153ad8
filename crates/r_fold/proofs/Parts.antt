-- What is said of a node is what the rule says of it.
use Rattle.std.proofs.Common.{◌≡◌, ◌==◌, ℕ, zero, suc, Bool, true, false, cond, List, [], ◌∷◌, Option, None, Some, option_map, unwrap_or, refl, sym, ap, subst, ◌∙◌, length, get_or, arith}
use Rattle.std.specs.declared.result.Result.{Result}
use Rattle.std.specs.Result.{IfOk}
use Rattle.std.proofs.lemmas.Result.{IfOk-weaker}
use Rattle.val_core.specs.declared.operation.Op2.{Op2}
use Rattle.val_core.specs.declared.operation.Op1.{Op1}
use Rattle.val_core.specs.Words.{word1}
use Rattle.g_graph.specs.declared.op.Op.{Op}
use Rattle.g_graph.specs.declared.op.Op.TheVariants.{Bin, Un, Gamma, Theta}
use Rattle.g_graph.specs.declared.op.Origin.{Origin}
use Rattle.g_graph.specs.declared.op.Origin.TheVariants.{Out}
use Rattle.g_graph.specs.Nodes.{constant}
use Rattle.g_graph.specs.Plain.{RegionTree, region, NodeTree, node, NodeTrees, RegionTrees, no_regions, region_then, regions_of}
use Rattle.r_fold.specs.declared.plan.Plan.{Plan}
use Rattle.r_fold.specs.Plan.{planned, un_case, plain_case}
use Rattle.r_fold.specs.Rule.{is_word, left_neutral, right_neutral, Folded, word, input, replacement, bin_folded, chosen_region, chosen_place, gamma_folded, folding}
use Rattle.r_fold.specs.Asked.{part_of, fold_asked}
use Rattle.r_fold.specs.Said.{plan_said, opened_on, choice_said, loop_said}
use Rattle.r_walk.specs.Around.{AreWords, IsAround, uses_in}
use Rattle.r_walk.specs.Asks.{said_of}
use Rattle.r_walk.specs.declared.rule.Said.{Said}
use Rattle.r_walk.specs.declared.uses.Uses.{Uses}
use Rattle.r_walk.specs.declared.words.Words.{Words}
use Rattle.r_walk.specs.Walk.{stays, opened, is_in}

-- ---- a node without regions

-- no region comes
abbrev IsPlain : Option Folded → Type 0
IsPlain None = Unit {0}
IsPlain (Some (word w)) = Unit {0}
IsPlain (Some (input a)) = Unit {0}
IsPlain (Some (replacement r inputs)) = ⊥

neutral_is_plain : (l r : Bool) (a b : Origin) → IsPlain (cond l (Some (input b)) (cond r (Some (input a)) None))
neutral_is_plain true r a b = tt
neutral_is_plain false true a b = tt
neutral_is_plain false false a b = tt

bin_is_plain : (op : Op2) (a b : Origin) (u v : Option ℕ) → IsPlain (bin_folded op a b u v)
bin_is_plain op a b (Some u) (Some v) = tt
bin_is_plain op a b None v = neutral_is_plain (is_word (left_neutral op) None) (is_word (right_neutral op) v) a b
bin_is_plain op a b (Some u) None = neutral_is_plain (is_word (left_neutral op) (Some u)) (is_word (right_neutral op) None) a b

un_is_plain : (op : Op1) (u : Option ℕ) → IsPlain (option_map (λ w. word (word1 op w)) u)
un_is_plain op None = tt
un_is_plain op (Some w) = tt

case_is_plain : (before : NodeTrees) (x : NodeTree) → IsPlain (plain_case before x)
case_is_plain before (node id (Bin op) [] rs) = tt
case_is_plain before (node id (Bin op) (a ∷ []) rs) = tt
case_is_plain before (node id (Bin op) (a ∷ b ∷ []) rs) = bin_is_plain op a b (constant before a) (constant before b)
case_is_plain before (node id (Bin op) (a ∷ b ∷ c ∷ os) rs) = tt
case_is_plain before (node id (Un op) [] rs) = tt
case_is_plain before (node id (Un op) (a ∷ []) rs) = un_is_plain op (constant before a)
case_is_plain before (node id (Un op) (a ∷ b ∷ os) rs) = tt
case_is_plain before (node id _ os rs) = tt

-- the plan for an operation on one operand
pub un_is : (op : Op1) (ins : List Origin) (d : Origin) (before : NodeTrees) (u : Option ℕ) → length ins ≡ 1 → u ≡ constant before (get_or ins 0 d) →
    option_map planned (option_map (λ w. word (word1 op w)) u) ≡ option_map planned (un_case before op ins)
un_is op [] d before u one e = absurd (omega arith)
un_is op (a ∷ []) d before u one e = ap (λ t. option_map planned (option_map (λ w. word (word1 op w)) t)) e
un_is op (a ∷ b ∷ os) d before u one e = absurd (omega arith)

plan_part : (before : NodeTrees) (os : List Origin) (id : ℕ) (op : Op) (ins : List Origin) (rs : RegionTrees) (f : Option Folded) → IsPlain f →
    plan_said (is_in os (Out id 0)) id op ins (option_map planned f) ≡ part_of before os (node id op ins rs) f
plan_part before os id op ins rs None h = refl
plan_part before os id op ins rs (Some (word w)) h = refl
plan_part before os id op ins rs (Some (input a)) h = refl
plan_part before os id op ins rs (Some (replacement r inputs)) h = absurd h

case_folds : (before : NodeTrees) (id : ℕ) (op : Op) (ins : List Origin) (rs : RegionTrees) → (op ≡ Gamma → ⊥) → (op ≡ Theta → ⊥) →
    plain_case before (node id op ins rs) ≡ folding before (node id op ins rs)
case_folds before id (Bin op) [] rs g t = refl
case_folds before id (Bin op) (a ∷ []) rs g t = refl
case_folds before id (Bin op) (a ∷ b ∷ []) rs g t = refl
case_folds before id (Bin op) (a ∷ b ∷ c ∷ os) rs g t = refl
case_folds before id (Un op) [] rs g t = refl
case_folds before id (Un op) (a ∷ []) rs g t = refl
case_folds before id (Un op) (a ∷ b ∷ os) rs g t = refl
case_folds before id Gamma ins rs g t = absurd (g refl)
case_folds before id Theta ins rs g t = absurd (t refl)
case_folds before id _ ins rs g t = refl

-- ---- a node with regions

-- where there are regions one is chosen
chosen_there : (w : ℕ) (s : RegionTree) (ss : RegionTrees) → chosen_region w (region_then s ss) ≡ None → ⊥
chosen_there w s no_regions e = absurd cc
chosen_there zero s (region_then t ss) e = absurd cc
chosen_there (suc w) s (region_then t ss) e = chosen_there w t ss e

choice_part : (before : NodeTrees) (os : List Origin) (id : ℕ) (ins : List Origin) (rs : RegionTrees) → choice_said before ins rs ≡ part_of before os (node id Gamma ins rs) (folding before (node id Gamma ins rs))
choice_part before os id [] rs = refl
choice_part before os id (p ∷ entries) no_regions = by (constant before p)
  where
    by : (u : Option ℕ) → stays ≡ part_of before os (node id Gamma (p ∷ entries) no_regions) (gamma_folded no_regions entries u)
    by None = refl
    by (Some w) = refl
choice_part before os id (p ∷ entries) (region_then r rs) = by (constant before p) refl
  where
    x : NodeTree
    x = node id Gamma (p ∷ entries) (region_then r rs)

    chosen : (w : ℕ) → constant before p ≡ Some w → (c : Option RegionTree) → chosen_region w (region_then r rs) ≡ c →
        opened (chosen_place w (region_then r rs)) entries 0 ≡ part_of before os x (option_map (λ t. replacement t entries) c)
    chosen w is None e = absurd (chosen_there w r rs e)
    chosen w is (Some t) e = sym (ap (λ u. opened (chosen_place (unwrap_or u 0) (region_then r rs)) entries 0) is)

    by : (u : Option ℕ) → constant before p ≡ u → opened_on entries (region_then r rs) (constant before p) ≡ part_of before os x (gamma_folded (region_then r rs) entries (constant before p))
    by None is = ap (opened_on entries (region_then r rs)) is ∙ sym (ap (λ u. part_of before os x (gamma_folded (region_then r rs) entries u)) is)
    by (Some w) is =
        ap (opened_on entries (region_then r rs)) is ∙ chosen w is (chosen_region w (region_then r rs)) refl
        ∙ sym (ap (λ u. part_of before os x (gamma_folded (region_then r rs) entries u)) is)

-- what is said of a Gamma
pub opens_on : {E : Type 0} (r : Result Said E) (entries : List Origin) (regions : List RegionTree) (u : Option ℕ) (w place : ℕ) → u ≡ Some w → place ≡ chosen_place w (regions_of regions) →
    (length regions == 0) ≡ false → IfOk r (λ said. said_of said ≡ opened place entries 0) → IfOk r (λ said. said_of said ≡ opened_on entries (regions_of regions) u)
opens_on r entries regions u w place is at some =
    IfOk-weaker r _ (λ said. said_of said ≡ opened_on entries (regions_of regions) u)
    (λ said e. e ∙ ap (λ k. opened k entries 0) at ∙ there regions some ∙ sym (ap (opened_on entries (regions_of regions)) is))
  where
    there : (ss : List RegionTree) → (length ss == 0) ≡ false → opened (chosen_place w (regions_of ss)) entries 0 ≡ opened_on entries (regions_of ss) (Some w)
    there [] h = absurd cc
    there (s ∷ ss) h = refl

pub choice_is : {E : Type 0} (r : Result Said E) (words : Words) (ins entries : List Origin) (p : Origin) (rs : RegionTrees) (u : Option ℕ) → ins ≡ p ∷ entries →
    ((before : NodeTrees) → AreWords words before → u ≡ constant before p) → IfOk r (λ said. said_of said ≡ opened_on entries rs u) →
    IfOk r (λ said. (before : NodeTrees) → AreWords words before → said_of said ≡ choice_said before ins rs)
choice_is r words ins entries p rs u first known =
    IfOk-weaker r _ (λ said. (before : NodeTrees) → AreWords words before → said_of said ≡ choice_said before ins rs)
    (λ said e before h. e ∙ ap (opened_on entries rs) (known before h) ∙ sym (ap (λ is. choice_said before is rs) first))

loop_part : (before : NodeTrees) (os : List Origin) (id : ℕ) (ins : List Origin) (rs : RegionTrees) → loop_said ins rs ≡ part_of before os (node id Theta ins rs) (folding before (node id Theta ins rs))
loop_part before os id ins no_regions = refl
loop_part before os id ins (region_then (region args nodes []) no_regions) = refl
loop_part before os id ins (region_then (region args nodes (p ∷ results)) no_regions) = by (is_word (Some 0) (constant nodes p))
  where
    x : NodeTree
    x = node id Theta ins (region_then (region args nodes (p ∷ results)) no_regions)

    by : (t : Bool) → cond t (opened 0 ins 1) stays ≡ part_of before os x (cond t (Some (replacement (region args nodes results) ins)) None)
    by true = refl
    by false = refl
loop_part before os id ins (region_then r (region_then s rs)) = refl

-- ---- what is asked

module _ {E : Type 0} (r : Result Said E) (words : Words) (uses : Uses) (values next id : ℕ) (ins : List Origin) (rs : RegionTrees) where
  abbrev IsAsked : Op → Said → Type 0
  IsAsked op said = (before : NodeTrees) (os : List Origin) → IsAround true words uses before os → said_of said ≡ fold_asked values next before os (node id op ins rs)

  pub asked_choice : (op : Op) → op ≡ Gamma → IfOk r (λ said. (before : NodeTrees) → AreWords words before → said_of said ≡ choice_said before ins rs) → IfOk r (IsAsked op)
  asked_choice op is given =
      subst (λ o. IfOk r (IsAsked o)) (sym is) (IfOk-weaker r _ (IsAsked Gamma) (λ said e before os around. e before (around refl).0 ∙ choice_part before os id ins rs) given)

  pub asked_loop : (op : Op) → op ≡ Theta → IfOk r (λ said. said_of said ≡ loop_said ins rs) → IfOk r (IsAsked op)
  asked_loop op is given = subst (λ o. IfOk r (IsAsked o)) (sym is) (IfOk-weaker r _ (IsAsked Theta) (λ said e before os around. e ∙ loop_part before os id ins rs) given)

  pub asked_plan : (op : Op) (plan : Option Plan) → (op ≡ Gamma → ⊥) → (op ≡ Theta → ⊥) →
      ((before : NodeTrees) (n : ℕ) (ss : RegionTrees) → AreWords words before → plan ≡ option_map planned (plain_case before (node n op ins ss))) →
      IfOk r (λ said. said_of said ≡ plan_said (uses_in uses id 0) id op ins plan) → IfOk r (IsAsked op)
  asked_plan op plan no_gamma no_theta is =
      IfOk-weaker r _ (IsAsked op)
      (λ said e before os around.
      e ∙ ap (λ t. plan_said t id op ins plan) ((around refl).1 id 0 (omega arith))
      ∙ ap (plan_said (is_in os (Out id 0)) id op ins) (is before id rs (around refl).0)
      ∙ plan_part before os id op ins rs (plain_case before (node id op ins rs)) (case_is_plain before (node id op ins rs))
      ∙ ap (part_of before os (node id op ins rs)) (case_folds before id op ins rs no_gamma no_theta))
