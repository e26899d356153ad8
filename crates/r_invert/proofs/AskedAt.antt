-- What the walk asks is what the rule is said to be local by.
use Rattle.std.specs.Prelude.{◌&&◌, ◌^◌, ◌<◌, nat_le, option_and_then}
use Rattle.std.proofs.Common.{◌≡◌, ℕ, ◌+◌, List, true, cond, length, Option, None, Some, option_map, refl, sym, ap, subst, ◌∙◌, arith}
use Rattle.std.proofs.lemmas.Bool.{and_parts}
use Rattle.std.proofs.lemmas.Bool.Decides.{nat_tests}
use Rattle.std.proofs.lemmas.Option.{cond_some}
use Rattle.g_graph.specs.declared.op.Op.{Op}
use Rattle.g_graph.specs.declared.op.Op.TheVariants.{Theta}
use Rattle.g_graph.specs.declared.op.Origin.{Origin}
use Rattle.r_rule.specs.declared.steps.Rule.TheVariants.{Invert}
use Rattle.g_graph.specs.Ids.{region_ids}
use Rattle.g_graph.specs.Plain.{RegionTree, NodeTree, node, RegionTrees, no_regions, region_then, nodes_in, nodes_of, results_of}
use Rattle.g_graph.specs.Replace.{region_redirected}
use Rattle.g_graph.specs.Splice.{args_to_inputs}
use Rattle.g_graph.specs.WellFormed.{IsWellFormed}
use Rattle.g_graph.proofs.lemmas.Redirects.{region_ids-redirected}
use Rattle.r_edit.specs.Numbering.{node_count}
use Rattle.r_edit.specs.Size.{may_change_size}
use Rattle.r_invert.specs.Rule.{Parts, parts_of, can_count, growth, in_place, inverted, loop_values, may_invert, new_nodes}
use Rattle.r_invert.specs.Sound.{AreSound}
use Rattle.r_invert.proofs.Inverted.{inverted_count}
use Rattle.r_invert.specs.Asked.{part_of, invert_asked}
use Rattle.r_invert.specs.WalkLaws.{invert_change, InvertIsLocal}
use Rattle.r_invert.specs.AskedAt.{made_at}
use Rattle.r_sweep_def.specs.Swept.{Logged, swept_by}
use Rattle.r_walk.specs.Asks as asks
use Rattle.r_walk.specs.declared.rule.New.{New}
use Rattle.r_walk.specs.Laws.{WalksAreSweeps}
use Rattle.r_walk.specs.Walk.{walked}

asked_is : asks.asked_by made_at ≡ invert_asked
asked_is = λ i values next before uses x. by (in_place values next x) i
  where
    by : (o : Option RegionTree) → asks.part_of (option_map (λ r. record { nodes = nodes_in r; outputs = results_of r; taken = node_count r }) o) ≡ part_of o
    by None = refl
    by (Some r) = refl

pub walk_is_sweep : WalksAreSweeps → InvertIsLocal → (s : Logged) → IsWellFormed s.lambda → walked Invert (asks.asked_by made_at) s ≡ swept_by invert_change (region_ids s.lambda.body) s
walk_is_sweep law local s well = ap (λ ask. walked Invert ask s) asked_is ∙ law invert_change invert_asked s local well

-- ---- what is asked of a node

pub sound_so : (op : Op) (rs : RegionTrees) → asks.AreSoundIn op rs → AreSound op rs
sound_so op rs s = record { objects = s.objects; fits = s.fits; unique = s.unique; of_node = s.of_node; states = s.states }

-- there are numbers for all the nodes that come
few_come : (values next : ℕ) (x : NodeTree) (r : RegionTree) → Some r ≡ in_place values next x → node_count r < 2 ^ 32
few_come values next (node id Theta inputs (region_then body no_regions)) r e = by (parts_of body) (sym e)
  where
    few : (p : Parts) → may_invert values next body p ≡ true → node_count (region_redirected (args_to_inputs inputs) (inverted next p)) < 4294967296
    few p may =
        let all = and_parts (can_count body p && nat_le (next + new_nodes p) 4294967295) (may_change_size values (growth p) (loop_values body)) may in
        let fits : nat_le (next + new_nodes p) 4294967295 ≡ true = (and_parts (can_count body p) (nat_le (next + new_nodes p) 4294967295) all.0).1 in
        let same : node_count (region_redirected (args_to_inputs inputs) (inverted next p)) ≡ new_nodes p = ap length (region_ids-redirected (args_to_inputs inputs) (inverted next p)) ∙ inverted_count next p in
        grind (arith, nat_tests)

    by : (o : Option Parts) → option_and_then (λ p. cond (may_invert values next body p) (Some (region_redirected (args_to_inputs inputs) (inverted next p))) None) o ≡ Some r → node_count r < 4294967296
    by None d = absurd cc
    by (Some p) d =
        let c = cond_some (may_invert values next body p) (region_redirected (args_to_inputs inputs) (inverted next p)) r d in
        subst (λ t. node_count t < 4294967296) c.1 (few p c.0)
few_come values next (node id Theta inputs no_regions) r e = absurd cc
few_come values next (node id Theta inputs (region_then body (region_then t rs))) r e = absurd cc
few_come values next (node id _ inputs rs) r e = absurd cc

pub few_made : (values next : ℕ) (op : Op) (inputs : List Origin) (rs : RegionTrees) (r : RegionTree) → ((id : ℕ) → Some r ≡ in_place values next (node id op inputs rs)) → node_count r < 2 ^ 32
few_made values next op inputs rs r e = few_come values next (node 0 op inputs rs) r (e 0)

-- what is answered
pub none_so : (values next : ℕ) (x : NodeTree) → None ≡ in_place values next x → asks.made_of None ≡ made_at values next x
none_so values next x e = ap (option_map (λ r. record { nodes = nodes_in r; outputs = results_of r; taken = node_count r })) e

pub made_so : (values next : ℕ) (x : NodeTree) (r : RegionTree) (new : New) → Some r ≡ in_place values next x → nodes_of new.nodes.items ≡ nodes_in r → new.outputs.items ≡ results_of r →
    new.taken ≡ node_count r → asks.made_of (Some new) ≡ made_at values next x
made_so values next x r new e nodes outputs taken =
    (λ i. Some (record { nodes = nodes i; outputs = outputs i; taken = taken i })) ∙ ap (option_map (λ s. record { nodes = nodes_in s; outputs = results_of s; taken = node_count s })) e
