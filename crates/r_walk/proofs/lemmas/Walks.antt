-- A walk is a sweep: by recursion over the old tree, where what is written stands before the cursor.
use Rattle.std.specs.Prelude.{◌||◌}
use Rattle.std.proofs.Common.{◌≡◌, ℕ, zero, suc, ◌+◌, ◌-◌, ◌<◌, ◌≤◌, ◌==◌, ◌⊎◌, Bool, true, false, cond, if◌then◌else◌, List, [], ◌∷◌, ◌++◌, map, drop, length, slice_get, Option, None, Some, option_map, unwrap_or, refl, sym, ap, ap₂, subst, subst₂, ◌∙◌, inl, inr, arith}
use Rattle.std.proofs.lemmas.List.{append_assoc, append-nil, map-append, length-map}
use Rattle.std.proofs.lemmas.List.Sums.{fold-append}
use Rattle.std.proofs.lemmas.Option.{slice_get-map}
use Rattle.std.proofs.lemmas.Bool.Decides.{nat_tests}
use Rattle.g_graph.specs.declared.op.Kind.{Kind}
use Rattle.g_graph.specs.declared.op.Op.{Op}
use Rattle.g_graph.specs.declared.op.Origin.{Origin}
use Rattle.g_graph.specs.declared.op.Origin.TheVariants.{Arg, Out}
use Rattle.g_graph.specs.Count.{region_values, node_values, nodes_values}
use Rattle.g_graph.specs.Ids.{region_ids, node_ids, nodes_ids, regions_ids}
use Rattle.g_graph.specs.Plain.{RegionTree, region, NodeTree, node, NodeTrees, no_nodes, node_then, RegionTrees, no_regions, region_then, PlainLambda}
use Rattle.g_graph.specs.Program.{lambda_values}
use Rattle.g_graph.specs.Replace.{nodes_redirected}
use Rattle.g_graph.specs.Splice.{args_to_inputs, outputs_to_results, joined_nodes}
use Rattle.g_graph.specs.WellFormed.{IsWellFormed, distinct}
use Rattle.g_graph.proofs.lemmas.Redirects.{nodes_ids-redirected, nodes_values-redirected, nodes_unmoved, all_unmoved}
use Rattle.g_graph.proofs.lemmas.Splices.{joined_assoc, joined_none, nodes_ids-joined, nodes_values-joined}
use Rattle.g_mean.specs.Copies.{IsAmong, IsRead, AreRead, NodesRead, known_after, is_argument, IsClosed, AllClosed}
use Rattle.g_mean.specs.Edits.{IsPartOf}
use Rattle.g_mean.proofs.lemmas.Copies.{among-left, among-right, among-split}
use Rattle.g_mean.proofs.lemmas.Edits.{distinct-split}
use Rattle.g_mean.proofs.lemmas.Holds.{distinct-apart}
use Rattle.g_mean.proofs.lemmas.Inside.{inputs-read, regions-closed}
use Rattle.g_mean.proofs.lemmas.Splices.{joined-known, joined-read, known-among, all-among}
use Rattle.r_edit.proofs.lemmas.Numbers.{below}
use Rattle.r_sweep_def.specs.Swept.{Logged, Change, tried_by, swept_by}
use Rattle.r_walk.specs.Context.{joined_regions, IsContext}
use Rattle.r_walk.specs.Laws.{IsOutputAmong, AreOutputsAmong, region_at, Becomes, Opens, IsSaid, IsLocal, WalksAreSweeps}
use Rattle.r_walk.specs.Walk.{Part, stays, becomes, opened, Asked, output_now, origin_now, inputs_of_nodes, Walking, Cursor, WrittenNodes, WrittenRegion, WrittenRegions, stepped, results_from, unmoved, both_written, is_in, results_used, cursor_after, cursor_in, with_outputs, node_now, part_written, walk_region, walk_regions, walk_nodes, walk_node, open_at, open_region, walked}
use Rattle.r_walk.proofs.lemmas.Contexts.{body_context, whole_part, inner_context}
use Rattle.r_walk.proofs.lemmas.Moves.{AreOf, of_more, of_both, IsAhead, ahead_less, nothing_moved, argument_now, not_moved, none_moved, both_moves, origins_twice, nodes_twice, nodes_redirected-joined, inputs-joined, inputs-redirected}
use Rattle.r_walk.proofs.lemmas.Uses.{in_append, in_moved, not_read, nodes_not_read, used_now}

-- ---- lambdas with another body

with_same : (l : PlainLambda) (body : RegionTree) (next : ℕ) → l.body ≡ body → next ≡ l.next → l ≡ record l { body = body; next = next }
with_same l body next e d = λ i. record l { body = e i; next = sym d i }

-- ---- numbers of a region

among_known : (before : NodeTrees) (n : ℕ) → IsAmong n (known_after [] before) → IsAmong n (nodes_ids before)
among_known before n h = by (known-among [] before n h)
  where
    by : IsAmong n [] ⊎ IsAmong n (nodes_ids before) → IsAmong n (nodes_ids before)
    by (inl k) = absurd k
    by (inr k) = k

module _ (context : RegionTree → RegionTree) (is : IsContext context) (args : List Kind) (results : List Origin) where
  part_here : (l : PlainLambda) → IsWellFormed l → (nodes : NodeTrees) → l.body ≡ context (region args nodes results) → IsPartOf l (region args nodes results)
  part_here l well nodes e = is.part l (region args nodes results) (subst (λ r. IsPartOf l r) e (whole_part l well))

  -- the numbers before, here and after are unique
  three : (l : PlainLambda) → IsWellFormed l → (before here after : NodeTrees) → l.body ≡ context (region args (joined_nodes before (joined_nodes here after)) results) →
      distinct (nodes_ids before ++ (nodes_ids here ++ nodes_ids after)) ≡ true
  three l well before here after e =
      subst (λ ns. distinct ns ≡ true) (nodes_ids-joined before (joined_nodes here after) ∙ ap (λ ns. nodes_ids before ++ ns) (nodes_ids-joined here after))
      (part_here l well (joined_nodes before (joined_nodes here after)) e).unique

  -- those of the whole body are these
  whole : (before here after : NodeTrees) →
      region_ids (context (region args (joined_nodes before (joined_nodes here after)) results)) ≡ is.first ++ (nodes_ids before ++ (nodes_ids here ++ nodes_ids after)) ++ is.last
  whole before here after =
      is.numbers (region args (joined_nodes before (joined_nodes here after)) results)
      ∙ ap (λ ns. is.first ++ ns ++ is.last) (nodes_ids-joined before (joined_nodes here after) ∙ ap (λ ns. nodes_ids before ++ ns) (nodes_ids-joined here after))

  -- an output of a node that does not stand before a node is none of its inputs
  not_by_itself : (l : PlainLambda) → IsWellFormed l → (before : NodeTrees) (y : NodeTree) (after : NodeTrees) → l.body ≡ context (region args (joined_nodes before (node_then y after)) results) →
      (n p : ℕ) → (IsAmong n (nodes_ids before) → ⊥) → (os : List Origin) → is_in (inputs_of_nodes (node_then y no_nodes) ++ os) (Out n p) ≡ is_in os (Out n p)
  not_by_itself l well before (node id op ins rs) after e n p h os =
      in_append (ins ++ []) os (Out n p)
      ∙ ap (λ t. t || is_in os (Out n p))
      (ap (λ is. is_in is (Out n p)) (append-nil ins)
      ∙ not_read (is_argument (length args)) (known_after [] before) n p refl (λ k. h (among_known before n k)) ins
      (inputs-read l args before id op ins rs after results (part_here l well (joined_nodes before (node_then (node id op ins rs) after)) e)))

-- a number of the middle of a list whose numbers are unique is in no other part of it
module _ (bs hs zs : List ℕ) (unique : distinct (bs ++ (hs ++ zs)) ≡ true) (n : ℕ) (h : IsAmong n hs) where
  not_before : IsAmong n bs → ⊥
  not_before k = distinct-apart bs (hs ++ zs) unique n k (among-left n hs zs h)

  not_after : IsAmong n zs → ⊥
  not_after k = distinct-apart hs zs (distinct-split bs (hs ++ zs) unique).1 n h k

-- a number of the rest of such a list is in no earlier part
module _ (bs hs zs : List ℕ) (unique : distinct (bs ++ (hs ++ zs)) ≡ true) (n : ℕ) (a : IsAmong n zs) where
  rest_before : IsAmong n bs → ⊥
  rest_before k = distinct-apart bs (hs ++ zs) unique n k (among-right n hs zs a)

  rest_here : IsAmong n hs → ⊥
  rest_here k = distinct-apart hs zs (distinct-split bs (hs ++ zs) unique).1 n k a

-- ---- sweeps

abbrev logged : PlainLambda → Walking → Logged
logged l w = record { lambda = l; steps = w.steps }

module _ (c : Change) where
  none_applies : (ns : List ℕ) (s : Logged) → ((n : ℕ) → IsAmong n ns → c.applies s.lambda n ≡ false) → swept_by c ns s ≡ s
  none_applies [] s h = refl
  none_applies (n ∷ ns) s h =
      ap (λ t. swept_by c ns (if t then record { lambda = c.changed n s.lambda; steps = s.steps ++ record { rule = c.rule; node = n } ∷ [] } else s)) (h n (inl refl))
      ∙ none_applies ns s (λ m k. h m (inr k))

  -- From one lambda to another by a sweep of these numbers. No number below the next one comes anew.
  pub record IsSweep (ids new : List ℕ) (l : PlainLambda) (w : Walking) (l' : PlainLambda) (w' : Walking) : Type 0 where
    pub swept : swept_by c ids (logged l w) ≡ logged l' w'
    pub well : IsWellFormed l'
    pub values : w'.values ≡ lambda_values l'
    pub next : w'.next ≡ l'.next
    pub grows : w.next ≤ w'.next
    pub gone : (n : ℕ) → n < w.next → (IsAmong n ids → ⊥) → IsAmong n new → ⊥

  sweep_twice : (is js ms ns : List ℕ) (l k j : PlainLambda) (w v u : Walking) → IsSweep is ms l w k v → IsSweep js ns k v j u → IsSweep (is ++ js) (ms ++ ns) l w j u
  sweep_twice is js ms ns l k j w v u s t =
      record {
        swept = fold-append (tried_by c) (logged l w) is js ∙ ap (λ z. swept_by c js z) s.swept ∙ t.swept;
        well = t.well;
        values = t.values;
        next = t.next;
        grows = omega (arith, s.grows, t.grows);
        gone = λ n b h m. by n b h (among-split n ms ns m);
      }
    where
      by : (n : ℕ) → n < w.next → (IsAmong n (is ++ js) → ⊥) → IsAmong n ms ⊎ IsAmong n ns → ⊥
      by n b h (inl m) = s.gone n b (λ i. h (among-left n is js i)) m
      by n b h (inr m) = t.gone n (omega (arith, b, s.grows)) (λ i. h (among-right n is js i)) m

  -- numbers at which it does not apply may follow
  sweep_more : (is js ms : List ℕ) (l k : PlainLambda) (w v : Walking) → IsSweep is ms l w k v → ((n : ℕ) → IsAmong n js → c.applies k n ≡ false) → IsSweep (is ++ js) ms l w k v
  sweep_more is js ms l k w v s h =
      record {
        swept = fold-append (tried_by c) (logged l w) is js ∙ ap (λ z. swept_by c js z) s.swept ∙ none_applies js (logged k v) h;
        well = s.well;
        values = s.values;
        next = s.next;
        grows = s.grows;
        gone = λ n b i m. s.gone n b (λ q. i (among-left n is js q)) m;
      }

  -- and so may come before
  sweep_before : (is js ms : List ℕ) (l k : PlainLambda) (w v : Walking) → ((n : ℕ) → IsAmong n is → c.applies l n ≡ false) → IsSweep js ms l w k v → IsSweep (is ++ js) ms l w k v
  sweep_before is js ms l k w v h s =
      record {
        swept = fold-append (tried_by c) (logged l w) is js ∙ ap (λ z. swept_by c js z) (none_applies is (logged l w) h) ∙ s.swept;
        well = s.well;
        values = s.values;
        next = s.next;
        grows = s.grows;
        gone = λ n b i m. s.gone n b (λ q. i (among-right n is js q)) m;
      }

-- ---- at the cursor

regions_after : (first : RegionTrees) (r : RegionTree) (rs : RegionTrees) → joined_regions (joined_regions first (region_then r no_regions)) rs ≡ joined_regions first (region_then r rs)
regions_after no_regions r rs = refl
regions_after (region_then q first) r rs = ap (λ ss. region_then q ss) (regions_after first r rs)

-- the lambda in which these nodes were written
abbrev lambda_with : (context : RegionTree → RegionTree) → (args : List Kind) → (before after : NodeTrees) → (results : List Origin) → WrittenNodes → PlainLambda → PlainLambda
lambda_with context args before after results t l =
    record l {
      body = context (region args (joined_nodes before (joined_nodes t.nodes (nodes_redirected (origin_now t.moved []) after))) (map (origin_now t.moved []) results));
      next = t.now.next;
    }

-- A well-formed lambda, in a region of which these nodes stand here, whose numbers are to be swept. Their outputs have the
-- uses that they have now.
pub record IsAt (context : RegionTree → RegionTree) (args : List Kind) (k : Cursor) (ids : List ℕ) (here after : NodeTrees) (results : List Origin) (w : Walking) (l : PlainLambda) : Type 0 where
  pub well : IsWellFormed l
  pub body : l.body ≡ context (region args (joined_nodes k.before (joined_nodes here after)) results)
  pub values : w.values ≡ lambda_values l
  pub next : w.next ≡ l.next
  pub uses : (n p : ℕ) → IsAmong n ids → is_in k.uses (Out n p) ≡ is_in (inputs_of_nodes here ++ (inputs_of_nodes after ++ results)) (Out n p)
  pub ahead : IsAhead k.moved k.inputs ids
  pub numbers : nodes_ids here ≡ ids

-- What is written for these nodes is what the sweep makes of them. Moved outputs became origins that are known.
pub record IsWritten (c : Change) (context : RegionTree → RegionTree) (args : List Kind) (k : Cursor) (ids : List ℕ) (after : NodeTrees) (results : List Origin) (w : Walking) (l : PlainLambda) (t : WrittenNodes) : Type 0 where
  pub sweep : IsSweep c ids (nodes_ids t.nodes) l w (lambda_with context args k.before after results t l) t.now
  pub of : AreOf ids t.moved
  pub known : (o : Origin) (n p : ℕ) → (IsAmong n (nodes_ids k.before) → ⊥) → (IsAmong n ids → ⊥) → (IsAmong n (nodes_ids t.nodes) → ⊥) →
      origin_now t.moved [] o ≡ Out n p → o ≡ Out n p

-- no node: nothing is written, and the lambda is as it was
none_written : (c : Change) (context : RegionTree → RegionTree) (args : List Kind) (k : Cursor) (after : NodeTrees) (results : List Origin) (w : Walking) (l : PlainLambda) →
    IsAt context args k [] no_nodes after results w l → IsWritten c context args k [] after results w l (unmoved no_nodes w)
none_written c context args k after results w l at =
    let same : l ≡ lambda_with context args k.before after results (unmoved no_nodes w) l =
    with_same l (context (region args (joined_nodes k.before (nodes_redirected (origin_now [] []) after)) (map (origin_now [] []) results))) w.next
    (at.body ∙ ap₂ (λ ns os. context (region args (joined_nodes k.before ns) os)) (sym (nodes_unmoved (origin_now [] []) nothing_moved after)) (sym (all_unmoved (origin_now [] []) nothing_moved results)))
    at.next in
    record {
      sweep = record {
        swept = ap (λ z. logged z w) same;
        well = subst IsWellFormed same at.well;
        values = at.values ∙ ap lambda_values same;
        next = refl;
        grows = omega arith;
        gone = λ n b h m. m;
      };
      of = tt;
      known = λ o n p b h i e. sym (nothing_moved o) ∙ e;
    }

-- ---- one node, and then the others

module _ (c : Change) (context : RegionTree → RegionTree) (is : IsContext context) (args : List Kind) (k : Cursor) (x : NodeTree) (xs after : NodeTrees) (results : List Origin) (w : Walking) (l : PlainLambda)
    (at : IsAt context args k (node_ids x ++ nodes_ids xs) (nodes_redirected (origin_now k.moved k.inputs) (node_then x xs)) after results w l) where
  ids_now : node_ids (node_now k x) ≡ node_ids x
  ids_now = own x
    where
      own : (y : NodeTree) → node_ids (node_now k y) ≡ node_ids y
      own (node id op inputs rs) = refl

  -- the inputs of the node, of the others, and what is read after them
  inputs-apart : inputs_of_nodes (nodes_redirected (origin_now k.moved k.inputs) (node_then x xs)) ++ (inputs_of_nodes after ++ results)
      ≡ inputs_of_nodes (node_then (node_now k x) no_nodes) ++ (inputs_of_nodes (nodes_redirected (origin_now k.moved k.inputs) xs) ++ (inputs_of_nodes after ++ results))
  inputs-apart =
      ap (λ os. os ++ (inputs_of_nodes after ++ results)) (inputs-joined (node_then (node_now k x) no_nodes) (nodes_redirected (origin_now k.moved k.inputs) xs))
      ∙ append_assoc (inputs_of_nodes (node_then (node_now k x) no_nodes)) (inputs_of_nodes (nodes_redirected (origin_now k.moved k.inputs) xs)) (inputs_of_nodes after ++ results)

  at_node : IsAt context args k (node_ids x) (node_then (node_now k x) no_nodes) (joined_nodes (nodes_redirected (origin_now k.moved k.inputs) xs) after) results w l
  at_node =
      record {
        well = at.well;
        body = at.body;
        values = at.values;
        next = at.next;
        uses = λ n p h. at.uses n p (among-left n (node_ids x) (nodes_ids xs) h) ∙ ap (λ os. is_in os (Out n p)) inputs-apart
            ∙ ap (λ os. is_in (inputs_of_nodes (node_then (node_now k x) no_nodes) ++ os) (Out n p))
            (sym (append_assoc (inputs_of_nodes (nodes_redirected (origin_now k.moved k.inputs) xs)) (inputs_of_nodes after) results)
            ∙ ap (λ os. os ++ results) (sym (inputs-joined (nodes_redirected (origin_now k.moved k.inputs) xs) after)));
        ahead = ahead_less k.moved k.inputs (node_ids x ++ nodes_ids xs) (node_ids x) (λ n h. among-left n (node_ids x) (nodes_ids xs) h) at.ahead;
        numbers = append-nil (node_ids (node_now k x)) ∙ ids_now;
      }

  module _ (s : WrittenNodes) (done : IsWritten c context args k (node_ids x) (joined_nodes (nodes_redirected (origin_now k.moved k.inputs) xs) after) results w l s) where
    abbrev now : Origin → Origin
    now = origin_now s.moved []

    -- before the node was walked its number, and those within it, were apart from all others
    unique : distinct (nodes_ids k.before ++ (node_ids x ++ (nodes_ids xs ++ nodes_ids after))) ≡ true
    unique =
        subst (λ ns. distinct (nodes_ids k.before ++ ns) ≡ true)
        (ap (λ ns. ns ++ nodes_ids after) at.numbers ∙ append_assoc (node_ids x) (nodes_ids xs) (nodes_ids after))
        (three context is args results l at.well k.before (nodes_redirected (origin_now k.moved k.inputs) (node_then x xs)) after at.body)

    abbrev l1 : PlainLambda
    l1 = lambda_with context args k.before (joined_nodes (nodes_redirected (origin_now k.moved k.inputs) xs) after) results s l

    later_ids : nodes_ids (nodes_redirected (origin_now s.moved []) (joined_nodes (nodes_redirected (origin_now k.moved k.inputs) xs) after)) ≡ nodes_ids xs ++ nodes_ids after
    later_ids =
        nodes_ids-redirected (origin_now s.moved []) (joined_nodes (nodes_redirected (origin_now k.moved k.inputs) xs) after)
        ∙ nodes_ids-joined (nodes_redirected (origin_now k.moved k.inputs) xs) after
        ∙ ap (λ ns. ns ++ nodes_ids after) (nodes_ids-redirected (origin_now k.moved k.inputs) xs)

    unique-1 : distinct (nodes_ids k.before ++ (nodes_ids s.nodes ++ (nodes_ids xs ++ nodes_ids after))) ≡ true
    unique-1 =
        subst (λ ns. distinct (nodes_ids k.before ++ (nodes_ids s.nodes ++ ns)) ≡ true) later_ids
        (three context is args (map (origin_now s.moved []) results) l1 done.sweep.well k.before s.nodes
        (nodes_redirected (origin_now s.moved []) (joined_nodes (nodes_redirected (origin_now k.moved k.inputs) xs) after)) refl)

    -- of the numbers of the other nodes
    module _ (n : ℕ) (h : IsAmong n (nodes_ids xs)) where
      far : IsAmong n (nodes_ids xs ++ nodes_ids after)
      far = among-left n (nodes_ids xs) (nodes_ids after) h

      other_before : IsAmong n (nodes_ids k.before) → ⊥
      other_before = rest_before (nodes_ids k.before) (node_ids x) (nodes_ids xs ++ nodes_ids after) unique n far

      other_here : IsAmong n (node_ids x) → ⊥
      other_here = rest_here (nodes_ids k.before) (node_ids x) (nodes_ids xs ++ nodes_ids after) unique n far

      other_written : IsAmong n (nodes_ids s.nodes) → ⊥
      other_written = rest_here (nodes_ids k.before) (nodes_ids s.nodes) (nodes_ids xs ++ nodes_ids after) unique-1 n far

    both_now : (o : Origin) → origin_now (s.moved ++ k.moved) k.inputs o ≡ origin_now s.moved [] (origin_now k.moved k.inputs o)
    both_now = both_moves k.moved s.moved k.inputs (node_ids x) at_node.ahead done.of

    ahead-1 : IsAhead (s.moved ++ k.moved) k.inputs (nodes_ids xs)
    ahead-1 = record {
      fresh = λ n p h. not_moved (node_ids x) k.moved s.moved n p done.of (other_here n h) ∙ at.ahead.fresh n p (among-right n (node_ids x) (nodes_ids xs) h);
      apart = λ o n p h e.
          at.ahead.apart o n p (among-right n (node_ids x) (nodes_ids xs) h)
          (done.known (origin_now k.moved k.inputs o) n p (other_before n h) (other_here n h) (other_written n h) (sym (both_now o) ∙ e));
    }

    -- what moved for the node, as seen by the others
    ahead-s : IsAhead s.moved [] (nodes_ids xs)
    ahead-s = record {
      fresh = λ n p h. none_moved (node_ids x) s.moved n p done.of (other_here n h);
      apart = λ o n p h e. done.known o n p (other_before n h) (other_here n h) (other_written n h) e;
    }

    body-1 : l1.body ≡ context (region args
        (joined_nodes (joined_nodes k.before s.nodes) (joined_nodes (nodes_redirected (origin_now (s.moved ++ k.moved) k.inputs) xs) (nodes_redirected (origin_now s.moved []) after)))
        (map (origin_now s.moved []) results))
    body-1 =
        ap (λ ns. context (region args ns (map (origin_now s.moved []) results)))
        (ap (λ ns. joined_nodes k.before (joined_nodes s.nodes ns))
        (nodes_redirected-joined (origin_now s.moved []) (nodes_redirected (origin_now k.moved k.inputs) xs) after
        ∙ ap (λ ns. joined_nodes ns (nodes_redirected (origin_now s.moved []) after))
        (nodes_twice (origin_now k.moved k.inputs) (origin_now s.moved []) (origin_now (s.moved ++ k.moved) k.inputs) both_now xs))
        ∙ sym (joined_assoc k.before s.nodes (joined_nodes (nodes_redirected (origin_now (s.moved ++ k.moved) k.inputs) xs) (nodes_redirected (origin_now s.moved []) after))))

    inputs-1 : map (origin_now s.moved []) (inputs_of_nodes (nodes_redirected (origin_now k.moved k.inputs) xs) ++ (inputs_of_nodes after ++ results))
        ≡ inputs_of_nodes (nodes_redirected (origin_now (s.moved ++ k.moved) k.inputs) xs) ++ (inputs_of_nodes (nodes_redirected (origin_now s.moved []) after) ++ map (origin_now s.moved []) results)
    inputs-1 =
        map-append (origin_now s.moved []) (inputs_of_nodes (nodes_redirected (origin_now k.moved k.inputs) xs)) (inputs_of_nodes after ++ results)
        ∙ ap₂ (λ os us. os ++ us)
        (sym (inputs-redirected (origin_now s.moved []) (nodes_redirected (origin_now k.moved k.inputs) xs))
        ∙ ap inputs_of_nodes (nodes_twice (origin_now k.moved k.inputs) (origin_now s.moved []) (origin_now (s.moved ++ k.moved) k.inputs) both_now xs))
        (map-append (origin_now s.moved []) (inputs_of_nodes after) results
        ∙ ap (λ os. os ++ map (origin_now s.moved []) results) (sym (inputs-redirected (origin_now s.moved []) after)))

    at_others : IsAt context args (cursor_after s k) (nodes_ids xs) (nodes_redirected (origin_now (s.moved ++ k.moved) k.inputs) xs) (nodes_redirected (origin_now s.moved []) after)
        (map (origin_now s.moved []) results) s.now l1
    at_others =
        record {
          well = done.sweep.well;
          body = body-1;
          values = done.sweep.values;
          next = refl;
          uses = λ n p h. at.uses n p (among-right n (node_ids x) (nodes_ids xs) h) ∙ ap (λ os. is_in os (Out n p)) inputs-apart
              ∙ not_by_itself context is args results l at.well k.before (node_now k x) (joined_nodes (nodes_redirected (origin_now k.moved k.inputs) xs) after) at.body n p (other_before n h)
              (inputs_of_nodes (nodes_redirected (origin_now k.moved k.inputs) xs) ++ (inputs_of_nodes after ++ results))
              ∙ sym (in_moved n p (origin_now s.moved []) (λ o e. ahead-s.apart o n p h e) (ahead-s.fresh n p h)
              (inputs_of_nodes (nodes_redirected (origin_now k.moved k.inputs) xs) ++ (inputs_of_nodes after ++ results)))
              ∙ ap (λ os. is_in os (Out n p)) inputs-1;
          ahead = ahead-1;
          numbers = nodes_ids-redirected (origin_now (s.moved ++ k.moved) k.inputs) xs;
        }

    module _ (t : WrittenNodes) (rest : IsWritten c context args (cursor_after s k) (nodes_ids xs) (nodes_redirected (origin_now s.moved []) after) (map (origin_now s.moved []) results) s.now l1 t) where
      then_now : (o : Origin) → origin_now (t.moved ++ s.moved) [] o ≡ origin_now t.moved [] (origin_now s.moved [] o)
      then_now = both_moves s.moved t.moved [] (nodes_ids xs) ahead-s rest.of

      same-end : lambda_with context args (joined_nodes k.before s.nodes) (nodes_redirected (origin_now s.moved []) after) (map (origin_now s.moved []) results) t l1
          ≡ lambda_with context args k.before after results (both_written s t) l
      same-end =
          ap₂ (λ ns os. record l { body = context (region args ns os); next = t.now.next })
          (joined_assoc k.before s.nodes (joined_nodes t.nodes (nodes_redirected (origin_now t.moved []) (nodes_redirected (origin_now s.moved []) after)))
          ∙ ap (joined_nodes k.before)
          (sym (joined_assoc s.nodes t.nodes (nodes_redirected (origin_now t.moved []) (nodes_redirected (origin_now s.moved []) after)))
          ∙ ap (joined_nodes (joined_nodes s.nodes t.nodes)) (nodes_twice (origin_now s.moved []) (origin_now t.moved []) (origin_now (t.moved ++ s.moved) []) then_now after)))
          (origins_twice (origin_now s.moved []) (origin_now t.moved []) (origin_now (t.moved ++ s.moved) []) then_now results)

      both_are : IsWritten c context args k (node_ids x ++ nodes_ids xs) after results w l (both_written s t)
      both_are =
          record {
            sweep = subst₂ (λ ns z. IsSweep c (node_ids x ++ nodes_ids xs) ns l w z t.now) (sym (nodes_ids-joined s.nodes t.nodes)) same-end
                (sweep_twice c (node_ids x) (nodes_ids xs) (nodes_ids s.nodes) (nodes_ids t.nodes) l l1
                (lambda_with context args (joined_nodes k.before s.nodes) (nodes_redirected (origin_now s.moved []) after) (map (origin_now s.moved []) results) t l1) w s.now t.now done.sweep rest.sweep);
            of = of_both (node_ids x ++ nodes_ids xs) t.moved s.moved
                (of_more (nodes_ids xs) (node_ids x ++ nodes_ids xs) (λ n h. among-right n (node_ids x) (nodes_ids xs) h) t.moved rest.of)
                (of_more (node_ids x) (node_ids x ++ nodes_ids xs) (λ n h. among-left n (node_ids x) (nodes_ids xs) h) s.moved done.of);
            known = λ o n p b h i e. are_known o n p b h i e;
          }
        where
          are_known : (o : Origin) (n p : ℕ) → (IsAmong n (nodes_ids k.before) → ⊥) → (IsAmong n (node_ids x ++ nodes_ids xs) → ⊥) → (IsAmong n (nodes_ids (joined_nodes s.nodes t.nodes)) → ⊥) →
              origin_now (t.moved ++ s.moved) [] o ≡ Out n p → o ≡ Out n p
          are_known o n p b h i e =
              let not_s : IsAmong n (nodes_ids s.nodes) → ⊥ = λ q. i (subst (IsAmong n) (sym (nodes_ids-joined s.nodes t.nodes)) (among-left n (nodes_ids s.nodes) (nodes_ids t.nodes) q)) in
              let not_t : IsAmong n (nodes_ids t.nodes) → ⊥ = λ q. i (subst (IsAmong n) (sym (nodes_ids-joined s.nodes t.nodes)) (among-right n (nodes_ids s.nodes) (nodes_ids t.nodes) q)) in
              let not_x : IsAmong n (node_ids x) → ⊥ = λ q. h (among-left n (node_ids x) (nodes_ids xs) q) in
              let not_xs : IsAmong n (nodes_ids xs) → ⊥ = λ q. h (among-right n (node_ids x) (nodes_ids xs) q) in
              done.known o n p b not_x not_s (rest.known (origin_now s.moved [] o) n p (not_both n b not_s) not_xs not_t (sym (then_now o) ∙ e))
            where
              not_both : (m : ℕ) → (IsAmong m (nodes_ids k.before) → ⊥) → (IsAmong m (nodes_ids s.nodes) → ⊥) → IsAmong m (nodes_ids (joined_nodes k.before s.nodes)) → ⊥
              not_both m f g q = either m f g (among-split m (nodes_ids k.before) (nodes_ids s.nodes) (subst (IsAmong m) (nodes_ids-joined k.before s.nodes) q))
                where
                  either : (j : ℕ) → (IsAmong j (nodes_ids k.before) → ⊥) → (IsAmong j (nodes_ids s.nodes) → ⊥) → IsAmong j (nodes_ids k.before) ⊎ IsAmong j (nodes_ids s.nodes) → ⊥
                  either j f g (inl q) = f q
                  either j f g (inr q) = g q

-- ---- origins where one node's outputs moved

one_moved : (n : ℕ) (outputs : List Origin) (o : Origin) → outputs_to_results n outputs o ≡ origin_now (record { node = n; outputs = outputs } ∷ []) [] o
one_moved n outputs (Arg k) = sym (argument_now (record { node = n; outputs = outputs } ∷ []) k)
one_moved n outputs (Out m p) = refl

redirected_same : (f g : Origin → Origin) → ((o : Origin) → f o ≡ g o) → (before ns after : NodeTrees) (args : List Kind) (results : List Origin) →
    region args (joined_nodes before (joined_nodes ns (nodes_redirected f after))) (map f results) ≡ region args (joined_nodes before (joined_nodes ns (nodes_redirected g after))) (map g results)
redirected_same f g e before ns after args results =
    let same : f ≡ g = λ i o. e o i in
    ap (λ h. region args (joined_nodes before (joined_nodes ns (nodes_redirected h after))) (map h results)) same

among_outputs : (ns : List ℕ) (os : List Origin) → AreOutputsAmong ns os → (q : ℕ) (a : Origin) → slice_get os q ≡ Some a → IsOutputAmong ns a
among_outputs ns [] h q a e = absurd cc
among_outputs ns (o ∷ os) h zero a e = let same : o ≡ a = cc in subst (IsOutputAmong ns) same h.0
among_outputs ns (o ∷ os) h (suc q) a e = among_outputs ns os h.1 q a e

-- an output that a moved one became is one of these
moved_known : (ns : List ℕ) (m : ℕ) (os : List Origin) → AreOutputsAmong ns os → (o : Origin) (n p : ℕ) → (IsAmong n ns → ⊥) → outputs_to_results m os o ≡ Out n p → o ≡ Out n p
moved_known ns m os h (Arg k) n p b e = e
moved_known ns m os h (Out j q) n p b e = by (j == m) refl
  where
    found : (a : Option Origin) → slice_get os q ≡ a → unwrap_or a (Out j q) ≡ Out n p → Out j q ≡ Out n p
    found None d f = f
    found (Some a) d f = absurd (b (let g = among_outputs ns os h q a d in let same : a ≡ Out n p = f in subst (IsOutputAmong ns) same g))

    by : (t : Bool) → (j == m) ≡ t → Out j q ≡ Out n p
    by true d = found (slice_get os q) refl (ap (λ t. cond t (unwrap_or (slice_get os q) (Out j q)) (Out j q)) (sym d) ∙ e)
    by false d = ap (λ t. cond t (unwrap_or (slice_get os q) (Out j q)) (Out j q)) (sym d) ∙ e

-- ---- a node

module _ (c : Change) (ask : Asked) (local : IsLocal c ask) where
  -- what is to be shown of nodes, of regions that are walked, and of the regions of an opened node
  abbrev NodesAre : NodeTrees → Type 0
  NodesAre ns =
      (context : RegionTree → RegionTree) → IsContext context → (args : List Kind) (k : Cursor) (after : NodeTrees) (results : List Origin) (w : Walking) (l : PlainLambda) →
      IsAt context args k (nodes_ids ns) (nodes_redirected (origin_now k.moved k.inputs) ns) after results w l → IsWritten c context args k (nodes_ids ns) after results w l (walk_nodes c.rule ask ns k w)

  abbrev NodeIs : NodeTree → Type 0
  NodeIs x =
      (context : RegionTree → RegionTree) → IsContext context → (args : List Kind) (k : Cursor) (after : NodeTrees) (results : List Origin) (w : Walking) (l : PlainLambda) →
      IsAt context args k (node_ids x) (node_then (node_now k x) no_nodes) after results w l → IsWritten c context args k (node_ids x) after results w l (walk_node c.rule ask x k w)

  -- a well-formed lambda with this body, and the walk there
  record IsBody (body : RegionTree) (w : Walking) (l : PlainLambda) : Type 0 where
    well : IsWellFormed l
    is : l.body ≡ body
    values : w.values ≡ lambda_values l
    next : w.next ≡ l.next

  abbrev RegionIs : RegionTree → Type 0
  RegionIs r =
      (context : RegionTree → RegionTree) → IsContext context → (w : Walking) (l : PlainLambda) → IsBody (context r) w l →
      IsSweep c (region_ids r) (region_ids (walk_region c.rule ask r w).region) l w
      (record l { body = context (walk_region c.rule ask r w).region; next = (walk_region c.rule ask r w).now.next }) (walk_region c.rule ask r w).now

  -- the body where a node has these regions
  abbrev node_with : (context : RegionTree → RegionTree) → (args : List Kind) → (before : NodeTrees) → (id : ℕ) → Op → (ins : List Origin) → (after : NodeTrees) → (results : List Origin) → RegionTrees → RegionTree
  node_with context args before id op ins after results rs = context (region args (joined_nodes before (node_then (node id op ins rs) after)) results)

  abbrev RegionsAre : RegionTrees → Type 0
  RegionsAre rs =
      (context : RegionTree → RegionTree) → IsContext context → (args : List Kind) (before : NodeTrees) (id : ℕ) (op : Op) (ins : List Origin) (first : RegionTrees) (after : NodeTrees) (results : List Origin)
      (w : Walking) (l : PlainLambda) → IsBody (node_with context args before id op ins after results (joined_regions first rs)) w l →
      IsSweep c (regions_ids rs) (regions_ids (walk_regions c.rule ask rs w).regions) l w
      (record l { body = node_with context args before id op ins after results (joined_regions first (walk_regions c.rule ask rs w).regions); next = (walk_regions c.rule ask rs w).now.next })
      (walk_regions c.rule ask rs w).now

  module _ (context : RegionTree → RegionTree) (is : IsContext context) (args : List Kind) (k : Cursor) (id : ℕ) (op : Op) (ins : List Origin) (rs : RegionTrees) (after : NodeTrees)
      (results : List Origin) (w : Walking) (l : PlainLambda)
      (at : IsAt context args k (id ∷ regions_ids rs) (node_then (node id op ins rs) no_nodes) after results w l) where
    -- the node stays, and its regions are walked
    stays_written : RegionsAre rs → c.applies l id ≡ false →
        IsWritten c context args k (id ∷ regions_ids rs) after results w l
        (unmoved (node_then (node id op ins (walk_regions c.rule ask rs w).regions) no_nodes) (walk_regions c.rule ask rs w).now)
    stays_written h unapplied =
        record {
          sweep = subst₂ (λ ns z. IsSweep c (id ∷ regions_ids rs) ns l w z t.now) (sym (append-nil (id ∷ regions_ids t.regions))) same
              (sweep_twice c (id ∷ []) (regions_ids rs) (id ∷ []) (regions_ids t.regions) l l k1 w w t.now first
              (h context is args k.before id op ins no_regions after results w l (record { well = at.well; is = at.body; values = at.values; next = at.next })));
          of = tt;
          known = λ o n p b i m e. sym (nothing_moved o) ∙ e;
        }
      where
        t : WrittenRegions
        t = walk_regions c.rule ask rs w

        k1 : PlainLambda
        k1 = record l { body = node_with context args k.before id op ins after results t.regions; next = t.now.next }

        same : k1 ≡ lambda_with context args k.before after results (unmoved (node_then (node id op ins t.regions) no_nodes) t.now) l
        same =
            ap₂ (λ ns os. record l { body = context (region args (joined_nodes k.before (node_then (node id op ins t.regions) ns)) os); next = t.now.next })
            (sym (nodes_unmoved (origin_now [] []) nothing_moved after)) (sym (all_unmoved (origin_now [] []) nothing_moved results))

        first : IsSweep c (id ∷ []) (id ∷ []) l w l w
        first = record {
          swept = none_applies c (id ∷ []) (logged l w) (λ n i. only n i);
          well = at.well;
          values = at.values;
          next = at.next;
          grows = omega arith;
          gone = λ n b i m. i m;
        }
          where
            only : (n : ℕ) → IsAmong n (id ∷ []) → c.applies l n ≡ false
            only n (inl e) = subst (λ m. c.applies l m ≡ false) (sym e) unapplied
            only n (inr e) = absurd e

    -- other nodes come in its place, and are not walked
    module _ (nodes : NodeTrees) (outputs : List Origin) (taken : ℕ) (said : Becomes c l context args k.before (node id op ins rs) after results nodes outputs taken) where
      abbrev t-becomes : WrittenNodes
      t-becomes = record {
        nodes = nodes;
        moved = record { node = id; outputs = outputs } ∷ [];
        now = stepped c.rule id (node_values (node id op ins rs)) (nodes_values nodes) taken w;
      }

      abbrev l-becomes : PlainLambda
      l-becomes = lambda_with context args k.before after results t-becomes l

      changed-becomes : c.changed id l ≡ l-becomes
      changed-becomes =
          said.changed
          ∙ (λ i. record l {
            body = context (redirected_same (outputs_to_results id outputs) (origin_now (record { node = id; outputs = outputs } ∷ []) []) (one_moved id outputs) k.before nodes after args results i);
            next = sym at.next i + taken;
          })

      values-becomes : w.values + nodes_values nodes - node_values (node id op ins rs) ≡ lambda_values l-becomes
      values-becomes =
          omega (
            arith,
            at.values ∙ ap region_values at.body,
            is.values (region args (joined_nodes k.before (node_then (node id op ins rs) after)) results)
                (region args (joined_nodes k.before (joined_nodes nodes (nodes_redirected (origin_now t-becomes.moved []) after))) (map (origin_now t-becomes.moved []) results))
                (record { args = refl; results = sym (length-map results (origin_now t-becomes.moved [])) }),
            length-map results (origin_now t-becomes.moved []),
            nodes_values-joined k.before (node_then (node id op ins rs) after),
            nodes_values-joined k.before (joined_nodes nodes (nodes_redirected (origin_now t-becomes.moved []) after)),
            nodes_values-joined nodes (nodes_redirected (origin_now t-becomes.moved []) after),
            nodes_values-redirected (origin_now t-becomes.moved []) after,
          )

      becomes_written : IsWritten c context args k (id ∷ regions_ids rs) after results w l t-becomes
      becomes_written =
          record {
            sweep = record {
              swept = ap (λ b. swept_by c (regions_ids rs) (if b then record { lambda = c.changed id l; steps = w.steps ++ record { rule = c.rule; node = id } ∷ [] } else logged l w)) said.applies
                  ∙ ap (λ z. swept_by c (regions_ids rs) (record { lambda = z; steps = w.steps ++ record { rule = c.rule; node = id } ∷ [] })) changed-becomes
                  ∙ none_applies c (regions_ids rs) (logged l-becomes t-becomes.now) (λ n i. subst (λ z. c.applies z n ≡ false) changed-becomes (said.inert n i));
              well = subst IsWellFormed changed-becomes (local.keeps l id at.well said.applies);
              values = values-becomes;
              next = refl;
              grows = omega arith;
              gone = λ n b i m. i (said.numbers n (subst (λ z. n < z) at.next b) m);
            };
            of = (inl refl, tt);
            known = λ o n p b i m e. moved_known (nodes_ids k.before ++ (id ∷ regions_ids rs) ++ nodes_ids nodes) id outputs said.known o n p (neither n b i m) (one_moved id outputs o ∙ e);
          }
        where
          neither : (n : ℕ) → (IsAmong n (nodes_ids k.before) → ⊥) → (IsAmong n (id ∷ regions_ids rs) → ⊥) → (IsAmong n (nodes_ids nodes) → ⊥) →
              IsAmong n (nodes_ids k.before ++ (id ∷ regions_ids rs) ++ nodes_ids nodes) → ⊥
          neither n b i m h = by (among-split n (nodes_ids k.before ++ (id ∷ regions_ids rs)) (nodes_ids nodes) h)
            where
              two : IsAmong n (nodes_ids k.before) ⊎ IsAmong n (id ∷ regions_ids rs) → ⊥
              two (inl q) = b q
              two (inr q) = i q

              by : IsAmong n (nodes_ids k.before ++ (id ∷ regions_ids rs)) ⊎ IsAmong n (nodes_ids nodes) → ⊥
              by (inl q) = two (among-split n (nodes_ids k.before) (id ∷ regions_ids rs) q)
              by (inr q) = m q

    -- ---- the nodes of one of its regions come in its place, and are walked

    module _ (which : ℕ) (inputs : List Origin) (from : ℕ) (said : Opens c l context args k.before (node id op ins rs) after results which inputs from) where
      abbrev given : List Origin
      given = results_from from inputs said.gives

      abbrev now-open : Origin → Origin
      now-open = outputs_to_results id given

      abbrev inner : Cursor
      inner = cursor_in id inputs from said.nodes said.gives k

      abbrev w-open : Walking
      w-open = stepped c.rule id (node_values (node id op ins rs)) (nodes_values said.nodes) 0 w

      abbrev l-open : PlainLambda
      l-open = c.changed id l

      -- the region is one of the node's, and closed
      part-open : IsPartOf l (region args (joined_nodes k.before (node_then (node id op ins rs) after)) results)
      part-open = part_here context is args results l at.well (joined_nodes k.before (node_then (node id op ins rs) after)) at.body

      closed_at : (ss : RegionTrees) (j : ℕ) (r : RegionTree) → AllClosed ss → region_at j ss ≡ Some r → IsClosed r
      closed_at no_regions j r h e = absurd cc
      closed_at (region_then s ss) zero r h e = let same : s ≡ r = cc in subst IsClosed same h.0
      closed_at (region_then s ss) (suc j) r h e = closed_at ss j r h.1 e

      closed : IsClosed (region said.own said.nodes said.gives)
      closed = closed_at rs which (region said.own said.nodes said.gives) (regions-closed l args k.before id op ins rs after results part-open) said.is

      within_at : (ss : RegionTrees) (j : ℕ) → region_at j ss ≡ Some (region said.own said.nodes said.gives) → (n : ℕ) → IsAmong n (nodes_ids said.nodes) → IsAmong n (regions_ids ss)
      within_at no_regions j e n h = absurd cc
      within_at (region_then s ss) zero e n h =
          let same : region said.own said.nodes said.gives ≡ s = cc in
          among-left n (region_ids s) (regions_ids ss) (subst (λ r. IsAmong n (region_ids r)) same h)
      within_at (region_then s ss) (suc j) e n h = among-right n (region_ids s) (regions_ids ss) (within_at ss j e n h)

      within : (n : ℕ) → IsAmong n (nodes_ids said.nodes) → IsAmong n (id ∷ regions_ids rs)
      within n h = inr (within_at rs which said.is n h)

      unique-open : distinct (nodes_ids k.before ++ ((id ∷ regions_ids rs) ++ nodes_ids after)) ≡ true
      unique-open =
          subst (λ ns. distinct (nodes_ids k.before ++ (ns ++ nodes_ids after)) ≡ true) at.numbers
          (three context is args results l at.well k.before (node_then (node id op ins rs) no_nodes) after at.body)

      -- the node's own number is none of those within
      own_number : IsAmong id (nodes_ids said.nodes) → ⊥
      own_number h =
          distinct-apart (id ∷ []) (regions_ids rs)
          (distinct-split (id ∷ regions_ids rs) (nodes_ids after) (distinct-split (nodes_ids k.before) ((id ∷ regions_ids rs) ++ nodes_ids after) unique-open).1).0
          id (inl refl) (within_at rs which said.is id h)

      -- inside, outputs are those of its own nodes, which did not move
      own_origin : (o : Origin) → IsRead (is_argument (length said.own)) (nodes_ids said.nodes) o → origin_now k.moved inputs o ≡ args_to_inputs inputs o
      own_origin (Arg j) h = refl
      own_origin (Out n p) (inl h) = absurd cc
      own_origin (Out n p) (inr h) = at.ahead.fresh n p (within n h)

      own_origins : (os : List Origin) → AreRead (is_argument (length said.own)) (nodes_ids said.nodes) os → map (args_to_inputs inputs) os ≡ map (origin_now k.moved inputs) os
      own_origins [] h = refl
      own_origins (o ∷ os) h = ap₂ (λ a os. a ∷ os) (sym (own_origin o h.0)) (own_origins os h.1)

      own_nodes : (known : List ℕ) → ((n : ℕ) → IsAmong n known → IsAmong n (nodes_ids said.nodes)) → (ns : NodeTrees) → ((n : ℕ) → IsAmong n (nodes_ids ns) → IsAmong n (nodes_ids said.nodes)) →
          NodesRead (is_argument (length said.own)) known ns → nodes_redirected (args_to_inputs inputs) ns ≡ nodes_redirected (origin_now k.moved inputs) ns
      own_nodes known f no_nodes g h = refl
      own_nodes known f (node_then (node m o os ss) ns) g h =
          ap₂ (λ is xs. node_then (node m o is ss) xs)
          (own_origins os (all-among (is_argument (length said.own)) known (nodes_ids said.nodes) f os h.0.0))
          (own_nodes (m ∷ known) more ns (λ n i. g n (among-right n (m ∷ regions_ids ss) (nodes_ids ns) i)) h.1)
        where
          more : (n : ℕ) → IsAmong n (m ∷ known) → IsAmong n (nodes_ids said.nodes)
          more n (inl e) = subst (λ z. IsAmong z (nodes_ids said.nodes)) (sym e) (g m (inl refl))
          more n (inr i) = f n i

      none-known : (n : ℕ) → IsAmong n [] → IsAmong n (nodes_ids said.nodes)
      none-known n h = absurd h

      nodes-now : nodes_redirected (args_to_inputs inputs) said.nodes ≡ nodes_redirected (origin_now k.moved inputs) said.nodes
      nodes-now = own_nodes [] none-known said.nodes (λ n h. h) closed.0

      known_ids : (n : ℕ) → IsAmong n (known_after [] said.nodes) → IsAmong n (nodes_ids said.nodes)
      known_ids n h = by (known-among [] said.nodes n h)
        where
          by : IsAmong n [] ⊎ IsAmong n (nodes_ids said.nodes) → IsAmong n (nodes_ids said.nodes)
          by (inl q) = absurd q
          by (inr q) = q

      gives-read : AreRead (is_argument (length said.own)) (nodes_ids said.nodes) said.gives
      gives-read = all-among (is_argument (length said.own)) (known_after [] said.nodes) (nodes_ids said.nodes) known_ids said.gives closed.1

      dropped : (S : Origin → Bool) (known : List ℕ) (j : ℕ) (os : List Origin) → AreRead S known os → AreRead S known (drop j os)
      dropped S known zero os h = h
      dropped S known (suc j) [] h = tt
      dropped S known (suc j) (o ∷ os) h = dropped S known j os h.1

      rest-read : AreRead (is_argument (length said.own)) (nodes_ids said.nodes) (drop from said.gives)
      rest-read = dropped (is_argument (length said.own)) (nodes_ids said.nodes) from said.gives gives-read

      given-now : given ≡ map (origin_now k.moved inputs) (drop from said.gives)
      given-now = own_origins (drop from said.gives) rest-read

      -- an input of the region is known before the node
      input_known : (j n p : ℕ) → args_to_inputs inputs (Arg j) ≡ Out n p → IsAmong n (nodes_ids k.before)
      input_known j n p e = by (slice_get inputs j) refl e
        where
          by : (a : Option Origin) → slice_get inputs j ≡ a → unwrap_or a (Arg j) ≡ Out n p → IsAmong n (nodes_ids k.before)
          by None d f = absurd cc
          by (Some a) d f = let g = among_outputs (nodes_ids k.before) inputs said.known j a d in let same : a ≡ Out n p = f in subst (IsOutputAmong (nodes_ids k.before)) same g

      apart-open : (o : Origin) (n p : ℕ) → IsAmong n (nodes_ids said.nodes) → origin_now k.moved inputs o ≡ Out n p → o ≡ Out n p
      apart-open (Arg j) n p h e =
          absurd (not_before (nodes_ids k.before) (id ∷ regions_ids rs) (nodes_ids after) unique-open n (within n h) (input_known j n p e))
      apart-open (Out m q) n p h e = at.ahead.apart (Out m q) n p (within n h) e

      ahead-open : IsAhead k.moved inputs (nodes_ids said.nodes)
      ahead-open = record { fresh = λ n p h. at.ahead.fresh n p (within n h); apart = apart-open }

      abbrev after-open : NodeTrees
      after-open = nodes_redirected now-open after

      abbrev results-open : List Origin
      results-open = map now-open results

      body-open : l-open.body ≡ context (region args (joined_nodes k.before (joined_nodes (nodes_redirected (origin_now k.moved inputs) said.nodes) after-open)) results-open)
      body-open =
          ap (λ z. z.body) said.changed
          ∙ ap (λ ns. context (region args (joined_nodes k.before (joined_nodes ns after-open)) results-open)) nodes-now

      values-open : w-open.values ≡ lambda_values l-open
      values-open =
          omega (
            arith,
            at.values ∙ ap region_values at.body,
            ap region_values body-open,
            is.values (region args (joined_nodes k.before (node_then (node id op ins rs) after)) results)
                (region args (joined_nodes k.before (joined_nodes (nodes_redirected (origin_now k.moved inputs) said.nodes) after-open)) results-open)
                (record { args = refl; results = sym (length-map results now-open) }),
            length-map results now-open,
            nodes_values-joined k.before (node_then (node id op ins rs) after),
            nodes_values-joined k.before (joined_nodes (nodes_redirected (origin_now k.moved inputs) said.nodes) after-open),
            nodes_values-joined (nodes_redirected (origin_now k.moved inputs) said.nodes) after-open,
            nodes_values-redirected (origin_now k.moved inputs) said.nodes,
            nodes_values-redirected now-open after,
          )

      -- what the nodes after it and the results read is no output of the region's nodes
      not-after : (n p : ℕ) → IsAmong n (nodes_ids said.nodes) → is_in (inputs_of_nodes after ++ results) (Out n p) ≡ false
      not-after n p h =
          in_append (inputs_of_nodes after) results (Out n p)
          ∙ ap₂ (λ s t. s || t)
          (nodes_not_read (is_argument (length args)) (id ∷ known_after [] k.before) n p refl not-known after
          (not_after (nodes_ids k.before) (id ∷ regions_ids rs) (nodes_ids after) unique-open n (within n h))
          (joined-read (is_argument (length args)) [] k.before (node_then (node id op ins rs) after) part-open.closed.0).1.1)
          (not_read (is_argument (length args)) (known_after [] (joined_nodes k.before (node_then (node id op ins rs) after))) n p refl not-at-end results part-open.closed.1)
        where
          not-known : IsAmong n (id ∷ known_after [] k.before) → ⊥
          not-known (inl e) = own_number (subst (λ z. IsAmong z (nodes_ids said.nodes)) e h)
          not-known (inr q) = not_before (nodes_ids k.before) (id ∷ regions_ids rs) (nodes_ids after) unique-open n (within n h) (among_known k.before n q)

          by : IsAmong n (id ∷ known_after [] k.before) ⊎ IsAmong n (nodes_ids after) → ⊥
          by (inl q) = not-known q
          by (inr q) = not_after (nodes_ids k.before) (id ∷ regions_ids rs) (nodes_ids after) unique-open n (within n h) q

          not-at-end : IsAmong n (known_after [] (joined_nodes k.before (node_then (node id op ins rs) after))) → ⊥
          not-at-end q =
              by (known-among (id ∷ known_after [] k.before) after n (subst (IsAmong n) (joined-known [] k.before (node_then (node id op ins rs) after)) q))

      -- the node's own outputs have the uses that they have after it
      own-uses : (p : ℕ) → is_in k.uses (Out id p) ≡ is_in (inputs_of_nodes after ++ results) (Out id p)
      own-uses p =
          at.uses id p (inl refl)
          ∙ not_by_itself context is args results l at.well k.before (node id op ins rs) after at.body id p
          (not_before (nodes_ids k.before) (id ∷ regions_ids rs) (nodes_ids after) unique-open id (inl refl)) (inputs_of_nodes after ++ results)

      uses-open : (n p : ℕ) → IsAmong n (nodes_ids said.nodes) →
          is_in (inputs_of_nodes said.nodes ++ results_used k.uses id 0 (drop from said.gives)) (Out n p)
          ≡ is_in (inputs_of_nodes (nodes_redirected (origin_now k.moved inputs) said.nodes) ++ (inputs_of_nodes after-open ++ results-open)) (Out n p)
      uses-open n p h =
          in_append (inputs_of_nodes said.nodes) (results_used k.uses id 0 (drop from said.gives)) (Out n p)
          ∙ ap₂ (λ s t. s || t)
          (sym (in_moved n p (origin_now k.moved inputs) (λ o e. ahead-open.apart o n p h e) (ahead-open.fresh n p h) (inputs_of_nodes said.nodes))
          ∙ ap (λ os. is_in os (Out n p)) (sym (inputs-redirected (origin_now k.moved inputs) said.nodes)))
          (used_now id inputs (drop from said.gives) n p (λ e. own_number (subst (λ z. IsAmong z (nodes_ids said.nodes)) e h)) args-apart k.uses (inputs_of_nodes after ++ results) (not-after n p h) own-uses
          ∙ ap (λ os. is_in os (Out n p)) (map-append now-open (inputs_of_nodes after) results ∙ ap (λ os. os ++ results-open) (sym (inputs-redirected now-open after))))
          ∙ sym (in_append (inputs_of_nodes (nodes_redirected (origin_now k.moved inputs) said.nodes)) (inputs_of_nodes after-open ++ results-open) (Out n p))
        where
          args-apart : (a : Origin) → args_to_inputs inputs a ≡ Out n p → a ≡ Out n p
          args-apart (Arg j) e = apart-open (Arg j) n p h e
          args-apart (Out m q) e = e

      at-open : IsAt context args inner (nodes_ids said.nodes) (nodes_redirected (origin_now k.moved inputs) said.nodes) after-open results-open w-open l-open
      at-open =
          record {
            well = local.keeps l id at.well said.applies;
            body = body-open;
            values = values-open;
            next = omega (arith, at.next, ap (λ z. z.next) said.changed);
            uses = uses-open;
            ahead = ahead-open;
            numbers = nodes_ids-redirected (origin_now k.moved inputs) said.nodes;
          }

      -- what is written for the nodes gives what is written for the node
      module _ (t : WrittenNodes) (done : IsWritten c context args inner (nodes_ids said.nodes) after-open results-open w-open l-open t) where
        abbrev t-open : WrittenNodes
        t-open = with_outputs id from said.gives inner t

        abbrev end-open : PlainLambda
        end-open = lambda_with context args k.before after results t-open l

        moves-open : (o : Origin) → origin_now (t.moved ++ k.moved) inputs o ≡ origin_now t.moved [] (origin_now k.moved inputs o)
        moves-open = both_moves k.moved t.moved inputs (nodes_ids said.nodes) ahead-open done.of

        outputs-open : map (origin_now (t.moved ++ k.moved) inputs) (drop from said.gives) ≡ map (origin_now t.moved []) given
        outputs-open =
            sym (origins_twice (origin_now k.moved inputs) (origin_now t.moved []) (origin_now (t.moved ++ k.moved) inputs) moves-open (drop from said.gives))
            ∙ ap (map (origin_now t.moved [])) (sym given-now)

        own_output : (p : ℕ) (a : Option Origin) → origin_now t.moved [] (unwrap_or a (Out id p)) ≡ unwrap_or (option_map (origin_now t.moved []) a) (Out id p)
        own_output p None = none_moved (nodes_ids said.nodes) t.moved id p done.of own_number
        own_output p (Some a) = refl

        now_twice : (o : Origin) → origin_now t-open.moved [] o ≡ origin_now t.moved [] (now-open o)
        now_twice (Arg j) = argument_now t-open.moved j ∙ sym (argument_now t.moved j)
        now_twice (Out n p) = by (n == id) refl
          where
            same : (n == id) ≡ true → n ≡ id
            same e = grind (arith, nat_tests)

            looked : unwrap_or (slice_get (map (origin_now (t.moved ++ k.moved) inputs) (drop from said.gives)) p) (Out id p) ≡ origin_now t.moved [] (unwrap_or (slice_get given p) (Out id p))
            looked =
                ap (λ os. unwrap_or (slice_get os p) (Out id p)) outputs-open ∙ ap (λ a. unwrap_or a (Out id p)) (slice_get-map (origin_now t.moved []) given p)
                ∙ sym (own_output p (slice_get given p))

            by : (b : Bool) → (n == id) ≡ b →
                cond b (unwrap_or (slice_get (map (origin_now (t.moved ++ k.moved) inputs) (drop from said.gives)) p) (Out n p)) (output_now t.moved n p)
                ≡ origin_now t.moved [] (cond b (unwrap_or (slice_get given p) (Out n p)) (Out n p))
            by true e =
                subst (λ m. unwrap_or (slice_get (map (origin_now (t.moved ++ k.moved) inputs) (drop from said.gives)) p) (Out m p) ≡ origin_now t.moved [] (unwrap_or (slice_get given p) (Out m p)))
                (sym (same e)) looked
            by false e = refl

        same-open : lambda_with context args inner.before after-open results-open t l-open ≡ end-open
        same-open =
            ap (λ (z : PlainLambda). record z { body = context (region args (joined_nodes k.before (joined_nodes t.nodes (nodes_redirected (origin_now t.moved []) after-open))) (map (origin_now t.moved []) results-open)); next = t.now.next }) said.changed
            ∙ ap₂ (λ ns os. record l { body = context (region args (joined_nodes k.before (joined_nodes t.nodes ns)) os); next = t.now.next })
            (nodes_twice now-open (origin_now t.moved []) (origin_now t-open.moved []) now_twice after)
            (origins_twice now-open (origin_now t.moved []) (origin_now t-open.moved []) now_twice results)

        given_known : (o : Origin) (n p : ℕ) → (IsAmong n (nodes_ids k.before) → ⊥) → (IsAmong n (nodes_ids said.nodes) → ⊥) → IsRead (is_argument (length said.own)) (nodes_ids said.nodes) o →
            args_to_inputs inputs o ≡ Out n p → ⊥
        given_known (Arg j) n p b h r e = b (input_known j n p e)
        given_known (Out m q) n p b h (inl r) e = absurd cc
        given_known (Out m q) n p b h (inr r) e = h (let same : m ≡ n = cc in subst (λ z. IsAmong z (nodes_ids said.nodes)) same r)

        -- an output of the node became one of its own, or one that was known before
        all_given : (n p : ℕ) → (IsAmong n (nodes_ids k.before) → ⊥) → (IsAmong n (nodes_ids said.nodes) → ⊥) → (os : List Origin) →
            AreRead (is_argument (length said.own)) (nodes_ids said.nodes) os → (q : ℕ) (a : Origin) → slice_get (map (args_to_inputs inputs) os) q ≡ Some a → a ≡ Out n p → ⊥
        all_given n p b h [] r q a e d = absurd cc
        all_given n p b h (o ∷ os) r zero a e d = given_known o n p b h r.0 (let same : args_to_inputs inputs o ≡ a = cc in same ∙ d)
        all_given n p b h (o ∷ os) r (suc q) a e d = all_given n p b h os r.1 q a e d

        open_known : (o : Origin) (n p : ℕ) → (IsAmong n (nodes_ids k.before) → ⊥) → (IsAmong n (nodes_ids said.nodes) → ⊥) → now-open o ≡ Out n p → o ≡ Out n p
        open_known (Arg j) n p b h e = e
        open_known (Out m q) n p b h e = by (m == id) refl
          where
            found : (a : Option Origin) → slice_get given q ≡ a → unwrap_or a (Out m q) ≡ Out n p → Out m q ≡ Out n p
            found None d f = f
            found (Some a) d f = absurd (all_given n p b h (drop from said.gives) rest-read q a d f)

            by : (z : Bool) → (m == id) ≡ z → Out m q ≡ Out n p
            by true d = found (slice_get given q) refl (ap (λ z. cond z (unwrap_or (slice_get given q) (Out m q)) (Out m q)) (sym d) ∙ e)
            by false d = ap (λ z. cond z (unwrap_or (slice_get given q) (Out m q)) (Out m q)) (sym d) ∙ e

        open_written : (ids : List ℕ) → ((n : ℕ) → IsAmong n (nodes_ids said.nodes) → IsAmong n ids) → IsSweep c ids (nodes_ids t.nodes) l-open w-open end-open t.now →
            IsWritten c context args k (id ∷ ids) after results w l t-open
        open_written ids more s =
            record {
              sweep = record {
                swept = ap (λ b. swept_by c ids (if b then record { lambda = c.changed id l; steps = w.steps ++ record { rule = c.rule; node = id } ∷ [] } else logged l w)) said.applies ∙ s.swept;
                well = s.well;
                values = s.values;
                next = s.next;
                grows = omega (arith, s.grows);
                gone = λ n b i m. s.gone n (omega (arith, b)) (λ q. i (inr q)) m;
              };
              of = (inl refl, of_more (nodes_ids said.nodes) (id ∷ ids) (λ n h. inr (more n h)) t.moved done.of);
              known = λ o n p b i m e.
                  let not_in : IsAmong n (nodes_ids said.nodes) → ⊥ = λ h. i (inr (more n h)) in
                  open_known o n p b not_in (done.known (now-open o) n p b not_in m (sym (now_twice o) ∙ e));
            }

      -- ---- the numbers that went with the other regions

      all-unique : distinct (is.first ++ (nodes_ids k.before ++ ((id ∷ regions_ids rs) ++ nodes_ids after)) ++ is.last) ≡ true
      all-unique =
          subst (λ ns. distinct ns ≡ true)
          (ap region_ids at.body ∙ whole context is args results k.before (node_then (node id op ins rs) no_nodes) after
          ∙ ap (λ ns. is.first ++ (nodes_ids k.before ++ (ns ++ nodes_ids after)) ++ is.last) at.numbers)
          (whole_part l at.well).unique

      -- a number within the node is none of those around, before and after
      module _ (n : ℕ) (h : IsAmong n (regions_ids rs)) where
        in_region : IsAmong n (nodes_ids k.before ++ ((id ∷ regions_ids rs) ++ nodes_ids after))
        in_region = among-right n (nodes_ids k.before) ((id ∷ regions_ids rs) ++ nodes_ids after) (among-left n (id ∷ regions_ids rs) (nodes_ids after) (inr h))

        inner_first : IsAmong n is.first → ⊥
        inner_first q =
            distinct-apart is.first (nodes_ids k.before ++ ((id ∷ regions_ids rs) ++ nodes_ids after))
            (distinct-split (is.first ++ (nodes_ids k.before ++ ((id ∷ regions_ids rs) ++ nodes_ids after))) is.last all-unique).0 n q in_region

        inner_last : IsAmong n is.last → ⊥
        inner_last q =
            distinct-apart (is.first ++ (nodes_ids k.before ++ ((id ∷ regions_ids rs) ++ nodes_ids after))) is.last all-unique n
            (among-right n is.first (nodes_ids k.before ++ ((id ∷ regions_ids rs) ++ nodes_ids after)) in_region) q

        inner_before : IsAmong n (nodes_ids k.before) → ⊥
        inner_before = not_before (nodes_ids k.before) (id ∷ regions_ids rs) (nodes_ids after) unique-open n (inr h)

        inner_after : IsAmong n (nodes_ids after) → ⊥
        inner_after = not_after (nodes_ids k.before) (id ∷ regions_ids rs) (nodes_ids after) unique-open n (inr h)

        -- so it is in no lambda in which other nodes stand there
        absent_with : (ns ms : NodeTrees) (os : List Origin) → (IsAmong n (nodes_ids ns) → ⊥) → nodes_ids ms ≡ nodes_ids after →
            IsAmong n (region_ids (context (region args (joined_nodes k.before (joined_nodes ns ms)) os))) → ⊥
        absent_with ns ms os not_in same q =
            outer (among-split n (is.first ++ (nodes_ids k.before ++ (nodes_ids ns ++ nodes_ids ms))) is.last (subst (IsAmong n) (whole context is args os k.before ns ms) q))
          where
            there : IsAmong n (nodes_ids ns) ⊎ IsAmong n (nodes_ids ms) → ⊥
            there (inl r) = not_in r
            there (inr r) = inner_after (subst (IsAmong n) same r)

            middle : IsAmong n (nodes_ids k.before) ⊎ IsAmong n (nodes_ids ns ++ nodes_ids ms) → ⊥
            middle (inl r) = inner_before r
            middle (inr r) = there (among-split n (nodes_ids ns) (nodes_ids ms) r)

            first_or : IsAmong n is.first ⊎ IsAmong n (nodes_ids k.before ++ (nodes_ids ns ++ nodes_ids ms)) → ⊥
            first_or (inl r) = inner_first r
            first_or (inr r) = middle (among-split n (nodes_ids k.before) (nodes_ids ns ++ nodes_ids ms) r)

            outer : IsAmong n (is.first ++ (nodes_ids k.before ++ (nodes_ids ns ++ nodes_ids ms))) ⊎ IsAmong n is.last → ⊥
            outer (inl r) = first_or (among-split n is.first (nodes_ids k.before ++ (nodes_ids ns ++ nodes_ids ms)) r)
            outer (inr r) = inner_last r

        below-next : n < w.next
        below-next =
            subst (λ z. n < z) (sym at.next)
            (below n l.next (region_ids l.body) (whole_part l at.well).below
            (subst (IsAmong n) (sym (ap region_ids at.body ∙ whole context is args results k.before (node_then (node id op ins rs) no_nodes) after
            ∙ ap (λ ns. is.first ++ (nodes_ids k.before ++ (ns ++ nodes_ids after)) ++ is.last) at.numbers))
            (among-left n (is.first ++ (nodes_ids k.before ++ ((id ∷ regions_ids rs) ++ nodes_ids after))) is.last
            (among-right n is.first (nodes_ids k.before ++ ((id ∷ regions_ids rs) ++ nodes_ids after)) in_region))))

        -- before the nodes are walked
        absent_first : (IsAmong n (nodes_ids said.nodes) → ⊥) → c.applies l-open n ≡ false
        absent_first not_in =
            local.absent l-open n
            (λ q. absent_with (nodes_redirected (origin_now k.moved inputs) said.nodes) after-open results-open
            (λ r. not_in (subst (IsAmong n) (nodes_ids-redirected (origin_now k.moved inputs) said.nodes) r)) (nodes_ids-redirected now-open after) (subst (λ z. IsAmong n (region_ids z)) body-open q))

        -- and after
        absent_last : (t : WrittenNodes) (done : IsWritten c context args inner (nodes_ids said.nodes) after-open results-open w-open l-open t) → (IsAmong n (nodes_ids said.nodes) → ⊥) →
            c.applies (end-open t done) n ≡ false
        absent_last t done not_in =
            local.absent (end-open t done) n
            (λ q. absent_with t.nodes (nodes_redirected (origin_now (t-open t done).moved []) after) (map (origin_now (t-open t done).moved []) results)
            (done.sweep.gone n (omega (arith, below-next)) not_in) (nodes_ids-redirected (origin_now (t-open t done).moved []) after) q)

      -- ---- the regions of the node, one of which is the one that is opened

      module _ (h : NodesAre said.nodes) where
        abbrev t-nodes : WrittenNodes
        t-nodes = walk_nodes c.rule ask said.nodes inner w-open

        nodes-written : IsWritten c context args inner (nodes_ids said.nodes) after-open results-open w-open l-open t-nodes
        nodes-written = h context is args inner after-open results-open w-open l-open at-open

        abbrev end-nodes : PlainLambda
        end-nodes = end-open t-nodes nodes-written

        -- a sweep of the numbers of these regions is one of the opened region
        open_sweep : (ss : RegionTrees) (j : ℕ) → region_at j ss ≡ Some (region said.own said.nodes said.gives) → ((n : ℕ) → IsAmong n (regions_ids ss) → IsAmong n (regions_ids rs)) →
            distinct (regions_ids ss) ≡ true → IsSweep c (regions_ids ss) (nodes_ids t-nodes.nodes) l-open w-open end-nodes t-nodes.now
        open_sweep no_regions j e f u = absurd cc
        open_sweep (region_then s ss) zero e f u =
            let same : region said.own said.nodes said.gives ≡ s = cc in
            sweep_more c (region_ids s) (regions_ids ss) (nodes_ids t-nodes.nodes) l-open end-nodes w-open t-nodes.now
            (subst₂ (λ r z. IsSweep c (region_ids r) (nodes_ids t-nodes.nodes) l-open w-open z t-nodes.now) same (same-open t-nodes nodes-written) nodes-written.sweep)
            (λ n i. absent_last n (f n (among-right n (region_ids s) (regions_ids ss) i)) t-nodes nodes-written
            (λ q. distinct-apart (region_ids s) (regions_ids ss) u n (subst (λ r. IsAmong n (region_ids r)) same q) i))
        open_sweep (region_then s ss) (suc j) e f u =
            sweep_before c (region_ids s) (regions_ids ss) (nodes_ids t-nodes.nodes) l-open end-nodes w-open t-nodes.now
            (λ n i. absent_first n (f n (among-left n (region_ids s) (regions_ids ss) i)) (λ q. distinct-apart (region_ids s) (regions_ids ss) u n i (within_at ss j e n q)))
            (open_sweep ss j e (λ n i. f n (among-right n (region_ids s) (regions_ids ss) i)) (distinct-split (region_ids s) (regions_ids ss) u).1)

        open_is : (ss : RegionTrees) (j : ℕ) → region_at j ss ≡ Some (region said.own said.nodes said.gives) →
            open_at c.rule ask ss id (node_values (node id op ins rs)) j inputs from k w ≡ t-open t-nodes nodes-written
        open_is no_regions j e = absurd cc
        open_is (region_then s ss) zero e =
            let same : s ≡ region said.own said.nodes said.gives = cc in
            ap (λ r. open_region c.rule ask r id (node_values (node id op ins rs)) inputs from k w) same
        open_is (region_then s ss) (suc j) e = open_is ss j e

        opened_written : IsWritten c context args k (id ∷ regions_ids rs) after results w l (open_at c.rule ask rs id (node_values (node id op ins rs)) which inputs from k w)
        opened_written =
            subst (λ t. IsWritten c context args k (id ∷ regions_ids rs) after results w l t) (sym (open_is rs which said.is))
            (open_written t-nodes nodes-written (regions_ids rs) (within_at rs which said.is)
            (open_sweep rs which said.is (λ n i. i)
            (distinct-split (id ∷ []) (regions_ids rs)
            (distinct-split (id ∷ regions_ids rs) (nodes_ids after) (distinct-split (nodes_ids k.before) ((id ∷ regions_ids rs) ++ nodes_ids after) unique-open).1).0).1))

  -- ---- by what the rule says

  abbrev NodesInAre : RegionTree → Type 0
  NodesInAre (region own nodes gives) = NodesAre nodes

  abbrev InnerAre : RegionTrees → Type 0
  InnerAre no_regions = Unit {0}
  InnerAre (region_then r rs) = NodesInAre r × InnerAre rs

  inner_at : (rs : RegionTrees) (j : ℕ) (r : RegionTree) → region_at j rs ≡ Some r → InnerAre rs → NodesInAre r
  inner_at no_regions j r e h = absurd cc
  inner_at (region_then s rs) zero r e h = let same : s ≡ r = cc in subst NodesInAre same h.0
  inner_at (region_then s rs) (suc j) r e h = inner_at rs j r e h.1

  node_is : (id : ℕ) (op : Op) (ins : List Origin) (rs : RegionTrees) → RegionsAre rs → InnerAre rs → NodeIs (node id op ins rs)
  node_is id op ins rs h inner context is args k after results w l at =
      by (ask w.values w.next k.before k.uses x)
      (subst (IsSaid c l context args k.before x after results) (λ i. ask (sym at.values i) (sym at.next i) k.before k.uses x)
      (local.said l context args k.before x after results k.uses is at.well at.body own-uses))
    where
      x : NodeTree
      x = node id op (map (origin_now k.moved k.inputs) ins) rs

      not_there : IsAmong id (nodes_ids k.before) → ⊥
      not_there =
          not_before (nodes_ids k.before) ((id ∷ regions_ids rs) ++ []) (nodes_ids after) (three context is args results l at.well k.before (node_then x no_nodes) after at.body) id (inl refl)

      own-uses : (p : ℕ) → is_in k.uses (Out id p) ≡ is_in (inputs_of_nodes after ++ results) (Out id p)
      own-uses p = at.uses id p (inl refl) ∙ not_by_itself context is args results l at.well k.before x after at.body id p not_there (inputs_of_nodes after ++ results)

      by : (p : Part) → IsSaid c l context args k.before x after results p →
          IsWritten c context args k (id ∷ regions_ids rs) after results w l
          (part_written c.rule x (walk_regions c.rule ask rs) (λ which inputs from. open_at c.rule ask rs id (node_values x) which inputs from k w) w p)
      by stays s = stays_written context is args k id op (map (origin_now k.moved k.inputs) ins) rs after results w l at h s
      by (becomes nodes outputs taken) s = becomes_written context is args k id op (map (origin_now k.moved k.inputs) ins) rs after results w l at nodes outputs taken s
      by (opened which inputs from) s =
          opened_written context is args k id op (map (origin_now k.moved k.inputs) ins) rs after results w l at which inputs from s
          (inner_at rs which (region s.own s.nodes s.gives) s.is inner)

  -- ---- the recursion

  region_is : (args : List Kind) (nodes : NodeTrees) (results : List Origin) → NodesAre nodes → RegionIs (region args nodes results)
  region_is args nodes results h context is w l at =
      subst₂ (λ ns z. IsSweep c (nodes_ids nodes) ns l w z t.now) refl same (h context is args k no_nodes results w l at_first).sweep
    where
      k : Cursor
      k = record { inputs = []; before = no_nodes; uses = inputs_of_nodes nodes ++ results; moved = [] }

      t : WrittenNodes
      t = walk_nodes c.rule ask nodes k w

      at_first : IsAt context args k (nodes_ids nodes) (nodes_redirected (origin_now [] []) nodes) no_nodes results w l
      at_first =
          record {
            well = at.well;
            body = at.is ∙ ap (λ ns. context (region args ns results)) (sym (joined_none (nodes_redirected (origin_now [] []) nodes) ∙ nodes_unmoved (origin_now [] []) nothing_moved nodes));
            values = at.values;
            next = at.next;
            uses = λ n p i. ap (λ ns. is_in (inputs_of_nodes ns ++ results) (Out n p)) (sym (nodes_unmoved (origin_now [] []) nothing_moved nodes));
            ahead = record { fresh = λ n p i. refl; apart = λ o n p i e. sym (nothing_moved o) ∙ e };
            numbers = nodes_ids-redirected (origin_now [] []) nodes;
          }

      same : lambda_with context args no_nodes no_nodes results t l ≡ record l { body = context (region args t.nodes (map (origin_now t.moved []) results)); next = t.now.next }
      same = ap (λ ns. record l { body = context (region args ns (map (origin_now t.moved []) results)); next = t.now.next }) (joined_none t.nodes)

  regions_are : (r : RegionTree) (rs : RegionTrees) → RegionIs r → RegionsAre rs → RegionsAre (region_then r rs)
  regions_are r rs h g context is args before id op ins first after results w l at =
      subst (λ z. IsSweep c (region_ids r ++ regions_ids rs) (region_ids s.region ++ regions_ids t.regions) l w z t.now) (ap with_regions (regions_after first s.region t.regions))
      (sweep_twice c (region_ids r) (regions_ids rs) (region_ids s.region) (regions_ids t.regions) l l1
      (record l1 { body = node_with context args before id op ins after results (joined_regions (joined_regions first (region_then s.region no_regions)) t.regions); next = t.now.next }) w s.now t.now one
      (g context is args before id op ins (joined_regions first (region_then s.region no_regions)) after results s.now l1 at_rest))
    where
      s : WrittenRegion
      s = walk_region c.rule ask r w

      t : WrittenRegions
      t = walk_regions c.rule ask rs s.now

      with_regions : RegionTrees → PlainLambda
      with_regions qs = record l { body = node_with context args before id op ins after results qs; next = t.now.next }

      l1 : PlainLambda
      l1 = record l { body = node_with context args before id op ins after results (joined_regions first (region_then s.region rs)); next = s.now.next }

      one : IsSweep c (region_ids r) (region_ids s.region) l w l1 s.now
      one = h (λ q. node_with context args before id op ins after results (joined_regions first (region_then q rs)))
          (inner_context context is args before id op ins first rs after results) w l at

      at_rest : IsBody (node_with context args before id op ins after results (joined_regions (joined_regions first (region_then s.region no_regions)) rs)) s.now l1
      at_rest =
          record {
            well = one.well;
            is = ap (node_with context args before id op ins after results) (sym (regions_after first s.region rs));
            values = one.values;
            next = refl;
          }

  no_regions_are : RegionsAre no_regions
  no_regions_are context is args before id op ins first after results w l at =
      record {
        swept = ap (λ z. logged z w) same;
        well = subst IsWellFormed same at.well;
        values = at.values ∙ ap lambda_values same;
        next = refl;
        grows = omega arith;
        gone = λ n b i m. m;
      }
    where
      same : l ≡ record l { body = node_with context args before id op ins after results (joined_regions first no_regions); next = w.next }
      same = with_same l (node_with context args before id op ins after results (joined_regions first no_regions)) w.next at.is at.next

  no_nodes_are : NodesAre no_nodes
  no_nodes_are context is args k after results w l at = none_written c context args k after results w l at

  nodes_are : (x : NodeTree) (xs : NodeTrees) → NodeIs x → NodesAre xs → NodesAre (node_then x xs)
  nodes_are x xs h g context is args k after results w l at =
      let s : WrittenNodes = walk_node c.rule ask x k w in
      let rest : NodeTrees = joined_nodes (nodes_redirected (origin_now k.moved k.inputs) xs) after in
      let done : IsWritten c context args k (node_ids x) rest results w l s =
      h context is args k rest results w l (at_node c context is args k x xs after results w l at) in
      both_are c context is args k x xs after results w l at s done (walk_nodes c.rule ask xs (cursor_after s k) s.now)
      (g context is args (cursor_after s k) (nodes_redirected (origin_now s.moved []) after) (map (origin_now s.moved []) results) s.now
      (lambda_with context args k.before rest results s l) (at_others c context is args k x xs after results w l at s done))

  mutual
    walks_region : (r : RegionTree) → RegionIs r × NodesInAre r
    walks_region (region args nodes results) = let h = walks_nodes nodes in (region_is args nodes results h, h)

    walks_node : (x : NodeTree) → NodeIs x
    walks_node (node id op ins rs) = let h = walks_regions rs in node_is id op ins rs h.0 h.1

    walks_nodes : (ns : NodeTrees) → NodesAre ns
    walks_nodes no_nodes = no_nodes_are
    walks_nodes (node_then x xs) = nodes_are x xs (walks_node x) (walks_nodes xs)

    walks_regions : (rs : RegionTrees) → RegionsAre rs × InnerAre rs
    walks_regions no_regions = (no_regions_are, tt)
    walks_regions (region_then r rs) =
        let h = walks_region r in
        let g = walks_regions rs in
        (regions_are r rs h.0 g.0, (h.1, g.1))

  pub walk_is_sweep : (s : Logged) → IsWellFormed s.lambda → walked c.rule ask s ≡ swept_by c (region_ids s.lambda.body) s
  walk_is_sweep s well =
      sym ((walks_region s.lambda.body).0 (λ r. r) body_context
      (record { values = lambda_values s.lambda; next = s.lambda.next; steps = s.steps }) s.lambda (record { well = well; is = refl; values = refl; next = refl })).swept

pub walks_are_sweeps : WalksAreSweeps
walks_are_sweeps c ask s local well = walk_is_sweep c ask local s well
