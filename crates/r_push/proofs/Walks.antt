-- A walk of push is a sweep: by recursion over the old tree, where what is written stands before the cursor.
use Rattle.std.proofs.Common.{◌≡◌, ℕ, suc, false, List, [], ◌∷◌, ◌++◌, map, length, refl, sym, ap, subst, ◌∙◌}
use Rattle.std.proofs.lemmas.List.Sums.{fold-append}
use Rattle.g_graph.specs.declared.op.Kind.{Kind}
use Rattle.g_graph.specs.declared.op.Op.{Op}
use Rattle.g_graph.specs.declared.op.Op.TheVariants.{Gamma, Theta}
use Rattle.g_graph.specs.declared.op.Origin.{Origin}
use Rattle.g_graph.specs.declared.op.Origin.TheVariants.{Out}
use Rattle.g_graph.specs.Ids.{region_ids, nodes_ids, regions_ids}
use Rattle.g_graph.specs.Plain.{RegionTree, region, NodeTree, node, NodeTrees, no_nodes, node_then, RegionTrees, no_regions, region_then, nodes_of, PlainLambda, count_of}
use Rattle.g_graph.specs.Program.{lambda_values}
use Rattle.g_graph.specs.Replace.{nodes_redirected}
use Rattle.g_graph.specs.Splice.{joined_nodes}
use Rattle.g_graph.specs.WellFormed.{IsWellFormed}
use Rattle.g_graph.proofs.lemmas.Redirects.{nodes_ids-redirected, nodes_unmoved, all_unmoved}
use Rattle.g_graph.proofs.lemmas.Splices.{joined_assoc}
use Rattle.r_push.specs.Edit.{outer}
use Rattle.r_push.specs.Rule.{lambda_pushed}
use Rattle.r_push.specs.WalkLaws.{push_change, WalkIsSweep}
use Rattle.r_push.specs.Walk.{Exit, choice, shut, exit_of, is_loop, Walking, Cursor, WrittenNodes, WrittenRegion, WrittenRegions, grown, all_grown, outputs_of_left, after, at_start, walk_region, walk_regions, walk_nodes, walk_node}
use Rattle.r_push.proofs.Grown.{all_grown_joined}
use Rattle.r_push.proofs.Inner.{inner_room}
use Rattle.r_push.proofs.Rooms.{IsRoom, body_room}
use Rattle.r_sweep_def.specs.Swept.{tried_by}
use Rattle.r_walk.specs.Context.{joined_regions}
use Rattle.r_walk.specs.Walk.{origin_now, inputs_of_nodes, is_in}
use Rattle.r_walk.proofs.lemmas.Moves.{nothing_moved}
use Rattle.r_push.proofs.Node.{logged, swept, Room, IsState, IsAt, Reaches, Ends, region_with, lambda_with, node_in, RegionsAre, node_is}

abbrev RegionIs : RegionTree → Type 0
RegionIs r =
    (given : List Origin) (room : Room) (exit : Exit) → IsRoom exit given room → (w : Walking) (l : PlainLambda) → IsState given exit w l →
    l.body ≡ room w.left (grown (is_loop exit) (length w.left) r) →
    Reaches given exit (region_ids r) l w
    (record l { body = room (walk_region r exit w).now.left (grown (is_loop exit) (length (walk_region r exit w).now.left) (walk_region r exit w).region) }) (walk_region r exit w).now

abbrev NodesAre : NodeTrees → Type 0
NodesAre ns =
    (given : List Origin) (room : Room) (k : Cursor) → IsRoom k.exit given room → (args : List Kind) (before : NodeTrees) (w : Walking) (l : PlainLambda) →
    IsAt given room args before k (nodes_ids ns) (nodes_redirected (origin_now k.moved []) ns) w l →
    Reaches given k.exit (nodes_ids ns) l w
    (record l {
      body = room (walk_nodes ns k w).now.left
          (region_with (is_loop k.exit) (walk_nodes ns k w).now.left args before (walk_nodes ns k w).nodes k.results (walk_nodes ns k w).moved);
    })
    (walk_nodes ns k w).now

-- ---- regions

regions_after : (first : RegionTrees) (r : RegionTree) (rs : RegionTrees) → joined_regions (joined_regions first (region_then r no_regions)) rs ≡ joined_regions first (region_then r rs)
regions_after no_regions r rs = refl
regions_after (region_then q first) r rs = ap (region_then q) (regions_after first r rs)

as_many : (first : RegionTrees) (r q : RegionTree) (rs : RegionTrees) → count_of (joined_regions first (region_then r rs)) ≡ count_of (joined_regions first (region_then q rs))
as_many no_regions r q rs = refl
as_many (region_then s first) r q rs = ap suc (as_many first r q rs)

-- another region in the place of one: the exit is the same
exit_same : (id : ℕ) (op : Op) (ins : List Origin) (first : RegionTrees) (r q : RegionTree) (rs : RegionTrees) →
    exit_of (node id op ins (joined_regions first (region_then r rs))) ≡ exit_of (node id op ins (joined_regions first (region_then q rs)))
exit_same id Gamma [] first r q rs = refl
exit_same id Gamma (p ∷ entries) first r q rs = ap choice (as_many first r q rs)
exit_same id Theta ins no_regions r q no_regions = refl
exit_same id Theta ins no_regions r q (region_then s rs) = refl
exit_same id Theta ins (region_then d no_regions) r q rs = refl
exit_same id Theta ins (region_then d (region_then e first)) r q rs = refl
exit_same id op ins first r q rs = refl

with_same : (l : PlainLambda) (body : RegionTree) → l.body ≡ body → l ≡ record l { body = body }
with_same l body e = λ i. record l { body = e i }

nothing_reached : (given : List Origin) (exit : Exit) (l l' : PlainLambda) (w : Walking) → IsState given exit w l → l ≡ l' → Reaches given exit [] l w l' w
nothing_reached given exit l l' w state e = record { swept_so = ap (λ z. logged z w) e; state = subst (IsState given exit w) e state }

no_regions_are : RegionsAre no_regions
no_regions_are context around args before id op ins first after results exit same w l state body =
    nothing_reached (outer (node id op ins no_regions)) exit l (record l { body = node_in context args before id op ins after results (is_loop exit) w.left (joined_regions first no_regions) }) w state
    (with_same l (node_in context args before id op ins after results (is_loop exit) w.left (joined_regions first no_regions)) body)

regions_are : (r : RegionTree) (rs : RegionTrees) → RegionIs r → RegionsAre rs → RegionsAre (region_then r rs)
regions_are r rs h g context around args before id op ins first after results exit same w l state body =
    record {
      swept_so = fold-append (tried_by push_change) (logged l w) (region_ids r) (regions_ids rs) ∙ ap (swept (regions_ids rs)) one.swept_so ∙ two.swept_so ∙ ap (λ z. logged z t.now) end;
      state = subst (IsState given exit t.now) end two.state;
    }
  where
    given : List Origin
    given = outer (node id op ins no_regions)

    node_so : List NodeTree → RegionTrees → RegionTree
    node_so left qs = node_in context args before id op ins after results (is_loop exit) left qs

    with_regions : List NodeTree → RegionTrees → RegionTree
    with_regions left qs = context (region args (joined_nodes (joined_nodes before (nodes_of left)) (node_then (node id op (ins ++ outputs_of_left left) qs) after)) results)

    room : Room
    room left q =
        with_regions left (joined_regions (all_grown (is_loop exit) (length left) first) (region_then q (all_grown (is_loop exit) (length left) rs)))

    s : WrittenRegion
    s = walk_region r exit w

    t : WrittenRegions
    t = walk_regions rs exit s.now

    first' : RegionTrees
    first' = joined_regions first (region_then s.region no_regions)

    l1 : PlainLambda
    l1 = record l { body = room s.now.left (grown (is_loop exit) (length s.now.left) s.region) }

    one : Reaches given exit (region_ids r) l w l1 s.now
    one =
        h given room exit (inner_room context around args before id op ins first rs after results exit (λ q. exit_same id op ins first q r rs ∙ same)) w l state
        (body ∙ ap (with_regions w.left) (all_grown_joined (is_loop exit) (length w.left) first r rs))

    body1 : l1.body ≡ node_so s.now.left (joined_regions first' rs)
    body1 = ap (with_regions s.now.left) (sym (all_grown_joined (is_loop exit) (length s.now.left) first s.region rs) ∙ ap (all_grown (is_loop exit) (length s.now.left)) (sym (regions_after first s.region rs)))

    two : Reaches given exit (regions_ids rs) l1 s.now (record l { body = node_so t.now.left (joined_regions first' t.regions) }) t.now
    two =
        g context around args before id op ins first' after results exit
        (ap (λ qs. exit_of (node id op ins qs)) (regions_after first s.region rs) ∙ exit_same id op ins first s.region r rs ∙ same) s.now l1 one.state body1

    end : record l { body = node_so t.now.left (joined_regions first' t.regions) } ≡ record l { body = node_so t.now.left (joined_regions first (region_then s.region t.regions)) }
    end = ap (λ qs. record l { body = node_so t.now.left qs }) (regions_after first s.region t.regions)

region_is : (args : List Kind) (nodes : NodeTrees) (results : List Origin) → NodesAre nodes → RegionIs (region args nodes results)
region_is args nodes results h given room exit is w l state body =
    h given room (at_start exit nodes results) is args no_nodes w l
    (record {
      state = state;
      body = body ∙ (λ i. room w.left (grown (is_loop exit) (length w.left) (region args (sym nodes_stay i) (sym results_stay i))));
      uses = λ n p. λ i. is_in (inputs_of_nodes (sym nodes_stay i) ++ sym results_stay i) (Out n 0);
      ahead = record { fresh = λ n p i. refl; apart = λ o n p i e. sym (nothing_moved o) ∙ e };
      numbers = nodes_ids-redirected (origin_now [] []) nodes;
    })
  where
    nodes_stay : nodes_redirected (origin_now [] []) nodes ≡ nodes
    nodes_stay = nodes_unmoved (origin_now [] []) nothing_moved nodes

    results_stay : map (origin_now [] []) results ≡ results
    results_stay = all_unmoved (origin_now [] []) nothing_moved results

-- ---- nodes

no_nodes_are : NodesAre no_nodes
no_nodes_are given room k is args before w l at =
    nothing_reached given k.exit l (record l { body = room w.left (region_with (is_loop k.exit) w.left args before no_nodes k.results k.moved) }) w at.state
    (with_same l (room w.left (region_with (is_loop k.exit) w.left args before no_nodes k.results k.moved)) at.body)

module _ (keeps : (n : ℕ) (l : PlainLambda) → IsWellFormed l → IsWellFormed (lambda_pushed n l)) where
  nodes_are : (id : ℕ) (op : Op) (ins : List Origin) (rs : RegionTrees) (xs : NodeTrees) → RegionsAre rs → NodesAre xs → NodesAre (node_then (node id op ins rs) xs)
  nodes_are id op ins rs xs h g given room k is args before w l at =
      record {
        swept_so = fold-append (tried_by push_change) (logged l w) (id ∷ regions_ids rs) (nodes_ids xs) ∙ ap (swept (nodes_ids xs)) one.swept_so ∙ two.swept_so ∙ ap (λ z. logged z t.now) end;
        state = subst (IsState given k.exit t.now) end two.state;
      }
    where
      s : WrittenNodes
      s = walk_node (node id op ins rs) k w

      t : WrittenNodes
      t = walk_nodes xs (after s k) s.now

      one : Ends given room k is args before id op ins rs xs w l at s
      one = node_is given room k is args before id op ins rs xs w l at keeps h

      end_with : NodeTrees → PlainLambda
      end_with ns = record l { body = room t.now.left (grown (is_loop k.exit) (length t.now.left) (region args ns (map (origin_now t.moved []) k.results))) }

      two : Reaches given k.exit (nodes_ids xs) (lambda_with room args before k xs s l) s.now (end_with (joined_nodes (joined_nodes before s.nodes) t.nodes)) t.now
      two = g given room (after s k) is args (joined_nodes before s.nodes) s.now (lambda_with room args before k xs s l) one.others

      end : end_with (joined_nodes (joined_nodes before s.nodes) t.nodes) ≡ end_with (joined_nodes before (joined_nodes s.nodes t.nodes))
      end = ap end_with (joined_assoc before s.nodes t.nodes)

  mutual
    walks_region : (r : RegionTree) → RegionIs r
    walks_region (region args nodes results) = region_is args nodes results (walks_nodes nodes)

    walks_nodes : (ns : NodeTrees) → NodesAre ns
    walks_nodes no_nodes = no_nodes_are
    walks_nodes (node_then (node id op ins rs) xs) = nodes_are id op ins rs xs (walks_regions rs) (walks_nodes xs)

    walks_regions : (rs : RegionTrees) → RegionsAre rs
    walks_regions no_regions = no_regions_are
    walks_regions (region_then r rs) = regions_are r rs (walks_region r) (walks_regions rs)

  pub walk_is_sweep : WalkIsSweep
  walk_is_sweep s well =
      (λ i. record { lambda = record s.lambda { body = grown false (length (sym (reached.state.empty refl) i)) t.region }; steps = t.now.steps }) ∙ sym reached.swept_so
    where
      w : Walking
      w = record { values = lambda_values s.lambda; steps = s.steps; inputs = []; left = [] }

      t : WrittenRegion
      t = walk_region s.lambda.body shut w

      reached : Reaches [] shut (region_ids s.lambda.body) s.lambda w (record s.lambda { body = grown false (length t.now.left) t.region }) t.now
      reached = walks_region s.lambda.body [] (λ left r. r) shut body_room w s.lambda (record { well = well; values = refl; inputs = refl; empty = λ e. refl }) refl
