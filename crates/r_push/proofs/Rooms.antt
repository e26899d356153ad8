-- A room is what is around a region while nodes leave it: it tells what a step at a node of the region makes of the lambda.
use Rattle.std.specs.Option.{option_or}
use Rattle.std.specs.Prelude.{is_some}
use Rattle.std.proofs.Common.{◌≡◌, ℕ, suc, ◌+◌, ◌||◌, true, false, List, [], ◌∷◌, ◌++◌, length, None, option_map, sym, ap, ap₂, subst, ◌∙◌}
use Rattle.g_graph.specs.declared.op.Kind.{Kind}
use Rattle.g_graph.specs.declared.op.Origin.{Origin}
use Rattle.g_graph.specs.Change.{region_changed, node_changed}
use Rattle.g_graph.specs.Ids.{node_ids, nodes_ids, regions_ids}
use Rattle.g_graph.specs.Plain.{RegionTree, region, NodeTree, node, NodeTrees, node_then, id_of, args_of, results_of, regions_in, PlainLambda}
use Rattle.g_graph.specs.Program.{lambda_values}
use Rattle.g_graph.specs.Replace.{node_redirected}
use Rattle.g_graph.specs.Splice.{args_to_inputs, joined_nodes}
use Rattle.g_graph.specs.WellFormed.{IsWellFormed}
use Rattle.g_graph.proofs.lemmas.Splices.{nodes_ids-joined}
use Rattle.g_mean.specs.Copies.{IsAmong}
use Rattle.g_mean.proofs.lemmas.Copies.{among-left, among-right}
use Rattle.g_mean.proofs.lemmas.Holds.{id-among}
use Rattle.r_push.specs.Rule.{push_here, applies, lambda_pushed}
use Rattle.r_push.specs.Walk.{Exit, shut, is_open, is_loop, growth_of, outputs_of_left}
use Rattle.r_push.proofs.Around.{regions_lack, nodes_lack, nodes_hold-joined, none_around, IsAround, body_around}
use Rattle.r_push.proofs.Pushed.{push_around, leaves_now, without}
use Rattle.r_walk.specs.Context.{IsContext}
use Rattle.r_walk.proofs.lemmas.Contexts.{nodes_changed_within, regions_unchanged_without}
use Rattle.r_walk.proofs.lemmas.Local.{not_in_before, not_in_after, not_inside}

-- ---- what a room tells

-- The rule applies at a node of the region, and the node leaves.
pub record HasLeft (exit : Exit) (given : List Origin) (room : List NodeTree → RegionTree → RegionTree) (l : PlainLambda) (left : List NodeTree)
    (own : List Kind) (first : NodeTrees) (y : NodeTree) (last : NodeTrees) (outs : List Origin) : Type 0 where
  pub applied : applies l (id_of y) ≡ true
  pub changed : lambda_pushed (id_of y) l ≡
      record l { body = room (left ++ node_redirected (args_to_inputs (given ++ outputs_of_left left)) y ∷ []) (without own first y last outs (is_loop exit)) }
  pub values : lambda_values (lambda_pushed (id_of y) l) ≡ lambda_values l + growth_of exit

-- The region's arguments come from these inputs, and then from what the nodes that left give. A loop has a result for each
-- argument, and one more.
pub record IsRoom (exit : Exit) (given : List Origin) (room : List NodeTree → RegionTree → RegionTree) : Type 0 where
  pub around : (left : List NodeTree) → IsAround (room left)
  pub many : (l : PlainLambda) → IsWellFormed l → (left : List NodeTree) (r : RegionTree) → l.body ≡ room left r → is_open exit ≡ true → length (given ++ outputs_of_left left) ≡ length (args_of r)
  pub turns : (l : PlainLambda) → IsWellFormed l → (left : List NodeTree) (r : RegionTree) → l.body ≡ room left r → is_loop exit ≡ true → length (results_of r) ≡ suc (length (args_of r))
  pub leaves : (l : PlainLambda) → IsWellFormed l → (left : List NodeTree) → (is_open exit ≡ false → left ≡ []) →
      (own : List Kind) (first : NodeTrees) (y : NodeTree) (last : NodeTrees) (outs : List Origin) → l.body ≡ room left (region own (joined_nodes first (node_then y last)) outs) →
      leaves_now (lambda_values l) exit (region own (joined_nodes first (node_then y last)) outs) y ≡ true → HasLeft exit given room l left own first y last outs
  pub stays : (l : PlainLambda) → IsWellFormed l → (left : List NodeTree) → (is_open exit ≡ false → left ≡ []) →
      (own : List Kind) (first : NodeTrees) (y : NodeTree) (last : NodeTrees) (outs : List Origin) → l.body ≡ room left (region own (joined_nodes first (node_then y last)) outs) →
      leaves_now (lambda_values l) exit (region own (joined_nodes first (node_then y last)) outs) y ≡ false → applies l (id_of y) ≡ false

-- ---- within the region itself nothing is changed

module _ (l : PlainLambda) (context : RegionTree → RegionTree) (is : IsContext context) (well : IsWellFormed l) (own : List Kind) (first : NodeTrees) (y : NodeTree) (last : NodeTrees) (outs : List Origin)
    (at : l.body ≡ context (region own (joined_nodes first (node_then y last)) outs)) where
  abbrev n : ℕ
  n = id_of y

  not_first : IsAmong n (nodes_ids first) → ⊥
  not_first = not_in_before l context own first y last outs is well at n (id-among y)

  not_last : IsAmong n (nodes_ids last) → ⊥
  not_last = not_in_after l context own first y last outs is well at n (id-among y)

  not_within : IsAmong n (regions_ids (regions_in y)) → ⊥
  not_within = not_inside l context own first y last outs is well at

  pub in_own : IsAmong (id_of y) (nodes_ids (joined_nodes first (node_then y last)))
  in_own =
      subst (IsAmong n) (sym (nodes_ids-joined first (node_then y last)))
      (among-right n (nodes_ids first) (node_ids y ++ nodes_ids last) (among-left n (node_ids y) (nodes_ids last) (id-among y)))

  module _ (v : ℕ) where
    node_none : (z : NodeTree) → (IsAmong n (regions_ids (regions_in z)) → ⊥) → node_changed (push_here v n) z ≡ None
    node_none (node id op inputs rs) h = ap (option_map (λ ss. node id op inputs ss)) (regions_unchanged_without n (push_here v n) (none_around n (push_here v n) (push_around v n)) rs h)

    pub own_unchanged : region_changed (push_here v (id_of y)) (region own (joined_nodes first (node_then y last)) outs) ≡ None
    own_unchanged =
        ap₂ (λ a b. option_or a (option_map (λ ns. region own ns outs) b))
        (push_around v n (region own (joined_nodes first (node_then y last)) outs)
        (nodes_hold-joined n first (node_then y last)
        ∙ (λ i. nodes_lack n first not_first i || (regions_lack n (regions_in y) not_within i || nodes_lack n last not_last i))))
        (nodes_changed_within n (push_here v n) (none_around n (push_here v n) (push_around v n)) first y last not_first not_last
        ∙ ap (option_map (λ z. joined_nodes first (node_then z last))) (node_none y not_within))

-- ---- the room of the body

pub body_room : IsRoom shut [] (λ left r. r)
body_room = record {
  around = λ left. body_around;
  many = λ l well left r at opens. absurd cc;
  turns = λ l well left r at loops. absurd cc;
  leaves = λ l well left empty own first y last outs at e. absurd cc;
  stays = λ l well left empty own first y last outs at e.
      ap is_some (ap (region_changed (push_here (lambda_values l) (id_of y))) at ∙ own_unchanged l (λ r. r) body_around.is well own first y last outs at (lambda_values l));
}
