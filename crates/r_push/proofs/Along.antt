-- What is written with what is left makes the whole, node by node.
use Rattle.std.proofs.Common.{◌≡◌, ◌<◌, ◌≤◌, ◌+◌, ◌*◌, arith, if◌then◌else◌, Bool, true, false, ℕ, suc, List, [], ◌∷◌, ◌++◌, map, length, refl, sym, ap, ap₂, subst, ◌∙◌}
use denote.Param.Weighed.{most}
use Rattle.std.proofs.lemmas.List.{append_assoc}
use Rattle.std.specs.Prelude.{IfOk, OnOk}
use Rattle.std.specs.declared.result.Result.{Result}
use Rattle.std.specs.declared.result.Result.TheVariants.{Ok, Err}
use Rattle.g_graph.specs.declared.op.Kind.{Kind}
use Rattle.g_graph.specs.declared.op.Op.{Op}
use Rattle.g_graph.specs.declared.op.Op.TheVariants.{Gamma}
use Rattle.g_graph.specs.declared.op.Origin.{Origin}
use Rattle.g_graph.specs.declared.op.Origin.TheVariants.{Arg, Out}
use Rattle.r_rule.specs.declared.steps.Step.{Step}
use Rattle.g_graph.specs.Plain.{RegionTree, region, NodeTree, node, NodeTrees, no_nodes, node_then, RegionTrees, no_regions, region_then, nodes_of, regions_of, args_of, nodes_in, results_of, inputs_in, regions_in, region_size, node_size, nodes_size}
use Rattle.g_graph.specs.Splice.{joined_nodes}
use Rattle.g_graph.proofs.lemmas.Splices as splices
use Rattle.g_graph.proofs.lemmas.Splices.{joined_assoc, nodes_of_append}
use Rattle.r_push.specs.Edit.{outer}
use Rattle.r_push.specs.Walk.{Exit, exit_of, is_loop, Cursor, Walking, WrittenNodes, leaves, node_now, gone, stayed, all_grown, outputs_of_left, widened_by, entered, after, at_start, walk_nodes, walk_node, walk_region, walk_regions}
use Rattle.r_walk.specs.Moves.{AreMoves, origin_in}
use Rattle.r_walk.specs.Walks.{HasGained}
use Rattle.r_walk.specs.declared.moves.Moves.{Moves}
use Rattle.r_walk.specs.Context.{joined_regions}
use Rattle.r_walk.specs.Walk.{Moved, origin_now}
use Rattle.r_push.specs.declared.leaving.Place.{Place}
use Rattle.r_push.specs.Walks.{remade, IsCursor, IsWalked}
use Rattle.r_push.proofs.Exits.{exit_so}

pub origin_is : (m : Moves) (ms : List Moved) → AreMoves m ms → (o : Origin) → origin_in m [] o ≡ origin_now ms [] o
origin_is m ms h (Arg k) = refl
origin_is m ms h (Out n p) = h n p

pub origins_are : (m : Moves) (ms : List Moved) → AreMoves m ms → (os : List Origin) → map (origin_in m []) os ≡ map (origin_now ms []) os
origins_are m ms h [] = refl
origins_are m ms h (o ∷ os) = ap₂ (λ a bs. a ∷ bs) (origin_is m ms h o) (origins_are m ms h os)

-- ---- nodes

-- from a cursor on, the rest is walked to the end of the whole
pub record IsAlong (whole : NodeTrees) (first : Cursor) (start : Walking) (begun written : List NodeTree) (place : Place) (moves : Moves) (rest : NodeTrees) (now : Walking) : Type 0 where
  pub cursor : Cursor
  pub is : IsCursor cursor place moves
  pub nodes : joined_nodes (nodes_of written) (walk_nodes rest cursor now).nodes ≡ joined_nodes (nodes_of begun) (walk_nodes whole first start).nodes
  pub moves_are : (walk_nodes rest cursor now).moved ≡ (walk_nodes whole first start).moved
  pub now_is : (walk_nodes rest cursor now).now ≡ (walk_nodes whole first start).now

pub begins : (whole : NodeTrees) (first : Cursor) (start : Walking) (begun : List NodeTree) (place : Place) (moves : Moves) → IsCursor first place moves →
    IsAlong whole first start begun begun place moves whole start
begins whole first start begun place moves is = record { cursor = first; is = is; nodes = refl; moves_are = refl; now_is = refl }

pub goes_on : (whole : NodeTrees) (first : Cursor) (start : Walking) (begun written more : List NodeTree) (place : Place) (moves next : Moves) (x : NodeTree) (xs : NodeTrees) (now later : Walking) →
    IsAlong whole first start begun written place moves (node_then x xs) now → ((k : Cursor) → IsCursor k place moves → IsWalked (walk_node x k now) written more next later) →
    IsAlong whole first start begun more place next xs later
goes_on whole first start begun written more place moves next x xs now later a step =
    let h = step a.cursor a.is in
    let s : WrittenNodes = walk_node x a.cursor now in
    let k : Cursor = after s a.cursor in
    let t : WrittenNodes = walk_nodes xs k s.now in
    record {
      cursor = k;
      is = record { exit_is = a.is.exit_is; used = a.is.used; results_are = a.is.results_are; moved = h.moved };
      nodes = ap₂ (λ ns w. joined_nodes ns (walk_nodes xs k w).nodes) h.nodes h.now_is ∙ joined_assoc (nodes_of written) s.nodes t.nodes ∙ a.nodes;
      moves_are = ap (λ w. (walk_nodes xs k w).moved) h.now_is ∙ a.moves_are;
      now_is = ap (λ w. (walk_nodes xs k w).now) h.now_is ∙ a.now_is;
    }

pub ends : (whole : NodeTrees) (first : Cursor) (start : Walking) (begun written : List NodeTree) (place : Place) (moves : Moves) (now : Walking) →
    IsAlong whole first start begun written place moves no_nodes now → IsWalked (walk_nodes whole first start) begun written moves now
ends whole first start begun written place moves now a = record {
  nodes = sym (splices.joined_none (nodes_of written)) ∙ a.nodes;
  moved = subst (AreMoves moves) a.moves_are a.is.moved;
  now_is = a.now_is;
}

-- a region, once all its nodes are written
pub region_written : (r : RegionTree) (exit : Exit) (start now : Walking) (written : List NodeTree) (moves : Moves) →
    IsWalked (walk_nodes (nodes_in r) (at_start exit (nodes_in r) (results_of r)) start) [] written moves now →
    record { region = region (args_of r) (nodes_of written) (map (origin_in moves []) (results_of r)); now = now } ≡ walk_region r exit start
region_written (region args nodes results) exit start now written moves h =
    let t : WrittenNodes = walk_nodes nodes (at_start exit nodes results) start in
    let os : map (origin_in moves []) results ≡ map (origin_now t.moved []) results = origins_are moves t.moved h.moved results in
    λ i. record { region = region args (h.nodes i) (os i); now = h.now_is i }

-- ---- a node

exit_now : (ms : List Moved) (x : NodeTree) → exit_of x ≡ exit_of (node_now ms x)
exit_now ms (node id op ins rs) = exit_so (origin_now ms []) id op ins rs

outer_so : (f : Origin → Origin) (id : ℕ) (op : Op) (ins : List Origin) (rs : RegionTrees) → map f (outer (node id op ins rs)) ≡ outer (node id op (map f ins) rs)
outer_so f id Gamma [] rs = refl
outer_so f id Gamma (o ∷ os) rs = refl
outer_so f id _ ins rs = refl

outer_now : (ms : List Moved) (x : NodeTree) → map (origin_now ms []) (outer x) ≡ outer (node_now ms x)
outer_now ms (node id op ins rs) = outer_so (origin_now ms []) id op ins rs

module _ (k : Cursor) (place : Place) (moves : Moves) (w : Walking) (is : IsCursor k place moves) where
  abbrev chosen : Bool → RegionTrees → NodeTree → WrittenNodes
  chosen t rs x = if t then gone k w x else stayed k w x (walk_regions rs (exit_of x) (entered w x))

  node_is : (x : NodeTree) (t : Bool) → leaves k w (node_now k.moved x) ≡ t → chosen t (regions_in x) (node_now k.moved x) ≡ walk_node x k w
  node_is (node id op ins rs) t e = ap (λ b. chosen b rs (node_now k.moved (node id op ins rs))) (sym e)

  widened_is : (left : List NodeTree) (x : NodeTree) (exit : Exit) (regions : RegionTrees) → exit ≡ exit_of (node_now k.moved x) →
      remade x (map (origin_in moves []) (inputs_in x) ++ outputs_of_left left) (all_grown (is_loop exit) (length left) regions) ≡ widened_by left (node_now k.moved x) regions
  widened_is left (node id op ins rs) exit regions so =
      ap₂ (λ os e. node id op (os ++ outputs_of_left left) (all_grown (is_loop e) (length left) regions)) (origins_are moves k.moved is.moved ins) so

  -- it leaves
  pub left_walked : (x : NodeTree) (before more : List NodeTree) (next : Moves) (now : Walking) → leaves k w (node_now k.moved x) ≡ true →
      IsWalked (gone k w (node_now k.moved x)) before more next now → IsWalked (walk_node x k w) before more next now
  left_walked x before more next now e h = subst (λ s. IsWalked s before more next now) (node_is x true e) h

  -- it stays, where its regions are walked so from this state on
  pub stays_walked : (x : NodeTree) (before more : List NodeTree) (exit : Exit) (from inner : Walking) (regions : RegionTrees) → leaves k w (node_now k.moved x) ≡ false → exit ≡ exit_of x →
      from ≡ record w { inputs = map (origin_in moves []) (outer x); left = [] } → record { regions = regions; now = inner } ≡ walk_regions (regions_in x) exit from →
      more ≡ before ++ inner.left ++ remade x (map (origin_in moves []) (inputs_in x) ++ outputs_of_left inner.left) (all_grown (is_loop exit) (length inner.left) regions) ∷ [] →
      IsWalked (walk_node x k w) before more moves (record w { values = inner.values; steps = inner.steps })
  stays_walked x before more exit from inner regions e out begun made written =
      let now : Walking = record w { values = inner.values; steps = inner.steps } in
      let here : NodeTree = node_now k.moved x in
      let new : NodeTree = widened_by inner.left here regions in
      let so : exit ≡ exit_of here = out ∙ exit_now k.moved x in
      let start : from ≡ entered w here =
      begun ∙ ap (λ os. record w { inputs = os; left = [] }) (origins_are moves k.moved is.moved (outer x) ∙ outer_now k.moved x) in
      let same : record { regions = regions; now = inner } ≡ walk_regions (regions_in x) (exit_of here) (entered w here) = made ∙ ap₂ (λ o v. walk_regions (regions_in x) o v) so start in
      subst (λ s. IsWalked s before more moves now) (node_is x false e)
      (subst (λ t. IsWalked (stayed k w here t) before more moves now) same
      (record {
        nodes = ap nodes_of (written ∙ ap (λ y. before ++ inner.left ++ y ∷ []) (widened_is inner.left x exit regions so) ∙ append_assoc before inner.left (new ∷ []))
            ∙ nodes_of_append before (inner.left ++ new ∷ []) ∙ ap (joined_nodes (nodes_of before)) (nodes_of_append inner.left (new ∷ []));
        moved = is.moved;
        now_is = refl;
      }))

-- ---- regions one after the other: those made, and what is made of the rest

pub joined_more : (rs : List RegionTree) (r : RegionTree) (ss : RegionTrees) → joined_regions (regions_of (rs ++ r ∷ [])) ss ≡ joined_regions (regions_of rs) (region_then r ss)
joined_more [] r ss = refl
joined_more (q ∷ rs) r ss = ap (λ ts. region_then q ts) (joined_more rs r ss)

pub joined_none : (rs : RegionTrees) → joined_regions rs no_regions ≡ rs
joined_none no_regions = refl
joined_none (region_then r rs) = ap (λ ss. region_then r ss) (joined_none rs)

-- ---- promises

-- more steps, and then more again
pub gained_more : (a b c : List Step) → HasGained a b → HasGained b c → HasGained a c
gained_more a b c g h = (g.0 ++ h.0, h.1 ∙ ap (λ xs. xs ++ h.0) g.1 ∙ append_assoc a g.0 h.0)

-- what follows from a promise
pub if_ok : {X Y : Type 0} (r : Result X Y) (P Q : X → Type 0) → ((x : X) → P x → Q x) → IfOk r P → IfOk r Q
if_ok (Ok x) P Q f h = f x h
if_ok (Err e) P Q f h = tt

pub on_ok : {X Y : Type 0} (r : Result X Y) (P Q : Type 0) → (P → Q) → OnOk r P → OnOk r Q
on_ok (Ok x) P Q f h = f h
on_ok (Err e) P Q f h = tt

pub done : {X Y : Type 0} (r : Result X Y) (x : X) (P : Type 0) → r ≡ Ok x → OnOk r P → P
done r x P is h = subst (λ z. OnOk z P) is h

pub made_ok : {X Y : Type 0} (r : Result X Y) (x : X) (P : X → Type 0) → r ≡ Ok x → IfOk r P → P x
made_ok r x P is h = subst (λ z. IfOk z P) is h

-- ---- sizes

-- sizes as the measure of the walk has them
abbrev weight : ℕ → ℕ
weight n = 1 * (n + 1) + 0

abbrev most_of : List NodeTree → ℕ
most_of = most (λ x. weight (node_size x))

most_nodes : (ns : List NodeTree) → most_of ns ≤ nodes_size (nodes_of ns) + 1
most_nodes [] = omega arith
most_nodes (n ∷ ns) = omega (arith, most_nodes ns)

-- the nodes of a region are smaller than the region
pub nodes_smaller : (args : List Kind) (nodes given : List NodeTree) (results : List Origin) → given ≡ nodes → (t : ℕ) (r : RegionTree) → region args (nodes_of nodes) results ≡ r →
    2 * weight (region_size r) + 0 ≡ t → 2 * most_of given + 1 < t
nodes_smaller args nodes given results same t r is e =
    let whole : 2 * weight (suc (nodes_size (nodes_of nodes))) + 0 ≡ t = ap (λ q. 2 * weight (region_size q) + 0) is ∙ e in
    subst (λ ns. 2 * most_of ns + 1 < t) (sym same) (omega (arith, most_nodes nodes, whole))
