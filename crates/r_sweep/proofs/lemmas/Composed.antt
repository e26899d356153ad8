-- Variables of a node go one by one: what becomes of the node, its regions and the uses around it.
use Rattle.std.proofs.Common.{◌≡◌, ◌≤◌, ℕ, zero, suc, Bool, true, false, List, [], ◌∷◌, map, length, refl, sym, ap, ◌∙◌, arith}
use Rattle.std.specs.Prelude.{if◌then◌else◌}
use Rattle.std.specs.List.{remove}
use Rattle.g_graph.specs.declared.op.Kind.{Kind}
use Rattle.g_graph.specs.declared.op.Origin.{Origin}
use Rattle.g_graph.specs.Plain.{RegionTree, RegionTrees, no_regions, region_then, PlainLambda, count_of}
use Rattle.g_graph.specs.Ids.{regions_ids}
use Rattle.g_arena_def.specs.Flat.{place_in}
use Rattle.g_arena_def.specs.Edits.{output_less, argument_removed, result_removed, input_removed}
use Rattle.r_sweep.specs.Removals.{from_last, each_of, exit_removed, entry_removed, variable_removed}
use Rattle.r_sweep.proofs.lemmas.Inputs.{map_map, map_id, regions_with}
use Rattle.r_sweep.proofs.lemmas.Blocks.{Within, result_gone, argument_gone, result_ids, argument_ids, HaveNumbers, state, state_output, state_input, state_result, state_argument}
use Rattle.r_sweep.proofs.lemmas.FromLast.{origin_out}

-- ---- all regions of a node

abbrev pub regions_each : (RegionTree → RegionTree) → RegionTrees → RegionTrees
regions_each f no_regions = no_regions
regions_each f (region_then r rs) = region_then (f r) (regions_each f rs)

each_more : (f : RegionTree → RegionTree) (c : ℕ) (r : RegionTree) (rs : RegionTrees) →
    each_of (λ j. regions_with j f) (suc c) (region_then r rs) ≡ region_then (f r) (each_of (λ j. regions_with j f) c rs)
each_more f zero r rs = refl
each_more f (suc c) r rs = ap (regions_with (suc c) f) (each_more f c r rs)

pub each_is : (f : RegionTree → RegionTree) (rs : RegionTrees) → each_of (λ j. regions_with j f) (count_of rs) rs ≡ regions_each f rs
each_is f no_regions = refl
each_is f (region_then r rs) = each_more f (count_of rs) r rs ∙ ap (region_then (f r)) (each_is f rs)

pub with_count : (k : ℕ) (f : RegionTree → RegionTree) (rs : RegionTrees) → count_of (regions_with k f rs) ≡ count_of rs
with_count k f no_regions = refl
with_count zero f (region_then r rs) = refl
with_count (suc k) f (region_then r rs) = ap suc (with_count k f rs)

each_count : (c : ℕ) (f : RegionTree → RegionTree) (rs : RegionTrees) → count_of (each_of (λ j. regions_with j f) c rs) ≡ count_of rs
each_count zero f rs = refl
each_count (suc c) f rs = with_count c f (each_of (λ j. regions_with j f) c rs) ∙ each_count c f rs

-- numbers and the count of regions stay, where they do in each
pub record Keeps (f : RegionTrees → RegionTrees) : Type 0 where
  pub ids : (rs : RegionTrees) → regions_ids (f rs) ≡ regions_ids rs
  pub count : (rs : RegionTrees) → count_of (f rs) ≡ count_of rs

each_keeps : (c : ℕ) (f : RegionTree → RegionTree) → ((j : ℕ) (rs : RegionTrees) → regions_ids (regions_with j f rs) ≡ regions_ids rs) → Keeps (each_of (λ j. regions_with j f) c)
each_keeps c f h = record { ids = ids c; count = each_count c f }
  where
    ids : (d : ℕ) (rs : RegionTrees) → regions_ids (each_of (λ j. regions_with j f) d rs) ≡ regions_ids rs
    ids zero rs = refl
    ids (suc d) rs = h d (each_of (λ j. regions_with j f) d rs) ∙ ids d rs

pub from_last-keeps : (f : ℕ → RegionTrees → RegionTrees) → ((k : ℕ) → Keeps (f k)) → (k : ℕ) (ts : List Bool) → Keeps (from_last f k ts)
from_last-keeps f h k [] = record { ids = λ rs. refl; count = λ rs. refl }
from_last-keeps f h k (true ∷ ts) = from_last-keeps f h (suc k) ts
from_last-keeps f h k (false ∷ ts) =
    let r = from_last-keeps f h (suc k) ts in
    record {
      ids = λ rs. (h k).ids (from_last f (suc k) ts rs) ∙ r.ids rs;
      count = λ rs. (h k).count (from_last f (suc k) ts rs) ∙ r.count rs;
    }

-- the results of so many regions at a place go; and the arguments
abbrev pub results_gone : (count : ℕ) → (index : ℕ) → RegionTrees → RegionTrees
results_gone c k rs = each_of (λ j. regions_with j (result_gone k)) c rs

abbrev pub arguments_gone : (count : ℕ) → (index : ℕ) → RegionTrees → RegionTrees
arguments_gone c k rs = each_of (λ j. regions_with j (argument_gone k)) c rs

-- the argument and the result of a loop variable go
abbrev pub variable_gone : (index : ℕ) → RegionTrees → RegionTrees
variable_gone k rs = regions_with 0 (argument_gone k) (regions_with 0 (result_gone (suc k)) rs)

pub results_keep : (c k : ℕ) → Keeps (results_gone c k)
results_keep c k = each_keeps c (result_gone k) (λ j rs. result_ids k j rs)

pub arguments_keep : (c k : ℕ) → Keeps (arguments_gone c k)
arguments_keep c k = each_keeps c (argument_gone k) (λ j rs. argument_ids k j rs)

pub variable_keeps : (k : ℕ) → Keeps (variable_gone k)
variable_keeps k = record {
  ids = λ rs. argument_ids k 0 (regions_with 0 (result_gone (suc k)) rs) ∙ result_ids (suc k) 0 rs;
  count = λ rs. with_count 0 (argument_gone k) (regions_with 0 (result_gone (suc k)) rs) ∙ with_count 0 (result_gone (suc k)) rs;
}

-- ---- inputs of the node

-- inputs, where uses follow and then one goes, one by one
abbrev pub inputs_left : (n k : ℕ) → (stays : List Bool) → (outputs : List Kind) → List Origin → List Origin
inputs_left n k [] outs is = is
inputs_left n k (t ∷ ts) outs is =
    if t then inputs_left n (suc k) ts outs is
    else remove (map (output_less n k (length (from_last (λ j ys. remove ys j) (suc k) ts outs))) (inputs_left n (suc k) ts outs is)) k

-- ---- the changes

module _ (n : ℕ) (l : PlainLambda) (w : Within n l) where
  pub results_state : (c k : ℕ) (f : Origin → Origin) (outs : List Kind) (is : List Origin) (rs : RegionTrees) →
      each_of (λ j. result_removed (place_in n j) k) c (state n l w f outs is rs) ≡ state n l w f outs is (results_gone c k rs)
  results_state zero k f outs is rs = refl
  results_state (suc c) k f outs is rs =
      ap (result_removed (place_in n c) k) (results_state c k f outs is rs) ∙ state_result n l w k c f outs is (results_gone c k rs)

  arguments_state : (c k : ℕ) (f : Origin → Origin) (outs : List Kind) (is : List Origin) (rs : RegionTrees) → HaveNumbers n l w rs → c ≤ count_of rs →
      each_of (λ j. argument_removed (place_in n j) k) c (state n l w f outs is rs) ≡ state n l w f outs is (arguments_gone c k rs)
  arguments_state zero k f outs is rs h b = refl
  arguments_state (suc c) k f outs is rs h b =
      ap (argument_removed (place_in n c) k) (arguments_state c k f outs is rs h (omega (arith, b)))
      ∙ state_argument n l w k c f outs is (arguments_gone c k rs) ((arguments_keep c k).ids rs ∙ h) (omega (arith, b, (arguments_keep c k).count rs))

  pub exits_state : (c k : ℕ) (ts : List Bool) (outs : List Kind) (is : List Origin) (rs : RegionTrees) → HaveNumbers n l w rs →
      from_last (exit_removed n c) k ts (state n l w (λ o. o) outs is rs)
      ≡ state n l w (origin_out n k ts outs) (from_last (λ j ys. remove ys j) k ts outs) (map (origin_out n k ts outs) is) (from_last (results_gone c) k ts rs)
  exits_state c k [] outs is rs h = ap (λ js. state n l w (λ o. o) outs js rs) (sym (map_id is))
  exits_state c k (true ∷ ts) outs is rs h = exits_state c (suc k) ts outs is rs h
  exits_state c k (false ∷ ts) outs is rs h =
      let g = origin_out n (suc k) ts outs in
      let left = from_last (λ j ys. remove ys j) (suc k) ts outs in
      let less = output_less n k (length left) in
      let qs = from_last (results_gone c) (suc k) ts rs in
      ap (exit_removed n c k) (exits_state c (suc k) ts outs is rs h)
      ∙ ap (λ a. each_of (λ j. result_removed (place_in n j) k) c a) (state_output n l w k g left (map g is) qs ((from_last-keeps (results_gone c) (results_keep c) (suc k) ts).ids rs ∙ h))
      ∙ results_state c k (λ o. less (g o)) (remove left k) (map less (map g is)) qs
      ∙ ap (λ js. state n l w (λ o. less (g o)) (remove left k) js (results_gone c k qs)) (map_map less g is)

  pub entries_state : (c k : ℕ) (ts : List Bool) (f : Origin → Origin) (outs : List Kind) (is : List Origin) (rs : RegionTrees) → HaveNumbers n l w rs → c ≤ count_of rs →
      from_last (entry_removed n c) k ts (state n l w f outs is rs)
      ≡ state n l w f outs (from_last (λ j ys. remove ys (suc j)) k ts is) (from_last (arguments_gone c) k ts rs)
  entries_state c k [] f outs is rs h b = refl
  entries_state c k (true ∷ ts) f outs is rs h b = entries_state c (suc k) ts f outs is rs h b
  entries_state c k (false ∷ ts) f outs is rs h b =
      let left = from_last (λ j ys. remove ys (suc j)) (suc k) ts is in
      let qs = from_last (arguments_gone c) (suc k) ts rs in
      let keeps = from_last-keeps (arguments_gone c) (arguments_keep c) (suc k) ts in
      ap (entry_removed n c k) (entries_state c (suc k) ts f outs is rs h b)
      ∙ ap (input_removed n (suc k)) (arguments_state c k f outs left qs (keeps.ids rs ∙ h) (omega (arith, b, keeps.count rs)))
      ∙ state_input n l w (suc k) f outs left (arguments_gone c k qs)

  pub variables_state : (k : ℕ) (ts : List Bool) (outs : List Kind) (is : List Origin) (rs : RegionTrees) → HaveNumbers n l w rs → 1 ≤ count_of rs →
      from_last (variable_removed n) k ts (state n l w (λ o. o) outs is rs)
      ≡ state n l w (origin_out n k ts outs) (from_last (λ j ys. remove ys j) k ts outs) (inputs_left n k ts outs is) (from_last variable_gone k ts rs)
  variables_state k [] outs is rs h b = refl
  variables_state k (true ∷ ts) outs is rs h b = variables_state (suc k) ts outs is rs h b
  variables_state k (false ∷ ts) outs is rs h b =
      let g = origin_out n (suc k) ts outs in
      let left = from_last (λ j ys. remove ys j) (suc k) ts outs in
      let less = output_less n k (length left) in
      let js = inputs_left n (suc k) ts outs is in
      let qs = from_last variable_gone (suc k) ts rs in
      let keeps = from_last-keeps variable_gone variable_keeps (suc k) ts in
      let ps = regions_with 0 (result_gone (suc k)) qs in
      ap (variable_removed n k) (variables_state (suc k) ts outs is rs h b)
      ∙ ap (λ a. input_removed n k (argument_removed (place_in n 0) k (result_removed (place_in n 0) (suc k) a))) (state_output n l w k g left js qs (keeps.ids rs ∙ h))
      ∙ ap (λ a. input_removed n k (argument_removed (place_in n 0) k a)) (state_result n l w (suc k) 0 (λ o. less (g o)) (remove left k) (map less js) qs)
      ∙ ap (input_removed n k)
      (state_argument n l w k 0 (λ o. less (g o)) (remove left k) (map less js) ps (result_ids (suc k) 0 qs ∙ keeps.ids rs ∙ h)
      (omega (arith, b, keeps.count rs, with_count 0 (result_gone (suc k)) qs)))
      ∙ state_input n l w k (λ o. less (g o)) (remove left k) (map less js) (regions_with 0 (argument_gone k) ps)
