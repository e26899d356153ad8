-- The parts of the walk: nodes and regions in the order of the region again, and one more of them.
use Rattle.std.specs.Prelude.{OnOk, IfOk, reverse}
use Rattle.std.specs.declared.result.Result.{Result}
use Rattle.std.specs.declared.result.Result.TheVariants.{Ok, Err}
use Rattle.std.proofs.Common.{◌≡◌, ℕ, List, [], ◌∷◌, ◌++◌, refl, sym, ap, subst, ◌∙◌}
use Rattle.std.proofs.lemmas.List.{append_assoc, append-nil, reverse-append}
use Rattle.g_graph.specs.declared.op.Kind.{Kind}
use Rattle.g_graph.specs.declared.op.Op.{Op}
use Rattle.g_graph.specs.declared.op.Origin.{Origin}
use Rattle.r_rule.specs.declared.steps.Step.{Step}
use Rattle.g_graph.specs.Plain.{RegionTree, region, NodeTree, node, NodeTrees, no_nodes, node_then, RegionTrees, no_regions, region_then, nodes_of, regions_of}
use Rattle.r_pull.specs.Walk.{Behind, put_where, walk_region, walk_regions, walk_nodes, walk_node}
use Rattle.r_pull.specs.declared.users.Users.{Users}
use Rattle.r_pull.specs.Behind.{nodes_behind, regions_behind, behind, IsWritten}
use Rattle.r_pull.specs.Users.{AreUsers}
use Rattle.r_walk.specs.Walks.{HasGained}
use Rattle.r_walk.specs.Walk.{Walking, WrittenRegion, WrittenRegions}

-- ---- the order of the region

nodes_onto : (ws more : List NodeTree) → nodes_of (reverse ws ++ more) ≡ nodes_behind ws (nodes_of more)
nodes_onto [] more = refl
nodes_onto (x ∷ xs) more =
    ap (λ ys. nodes_of (ys ++ more)) (reverse-append (x ∷ []) xs) ∙ ap nodes_of (append_assoc (reverse xs) (x ∷ []) more) ∙ nodes_onto xs (x ∷ more)

pub nodes_in_order : (ws : List NodeTree) → nodes_of (reverse ws) ≡ nodes_behind ws no_nodes
nodes_in_order ws = ap nodes_of (sym (append-nil (reverse ws))) ∙ nodes_onto ws []

regions_onto : (qs more : List RegionTree) → regions_of (reverse qs ++ more) ≡ regions_behind qs (regions_of more)
regions_onto [] more = refl
regions_onto (q ∷ qs) more =
    ap (λ ys. regions_of (ys ++ more)) (reverse-append (q ∷ []) qs) ∙ ap regions_of (append_assoc (reverse qs) (q ∷ []) more) ∙ regions_onto qs (q ∷ more)

pub regions_in_order : (qs : List RegionTree) → regions_of (reverse qs) ≡ regions_behind qs no_regions
regions_in_order qs = ap regions_of (sym (append-nil (reverse qs))) ∙ regions_onto qs []

region_more : (qs : List RegionTree) (q : RegionTree) (rs : RegionTrees) → regions_behind (qs ++ q ∷ []) rs ≡ region_then q (regions_behind qs rs)
region_more [] q rs = refl
region_more (p ∷ qs) q rs = region_more qs q (region_then p rs)

-- ---- one more

pub nothing_written : (results : List Origin) (ws : List NodeTree) (users : Users) (w : Walking) → AreUsers users results [] → ws ≡ [] → IsWritten results (walk_nodes no_nodes results w) ws users w
nothing_written results ws users w are empty = record { is = ap (λ vs. behind vs w) empty; users_are = subst (AreUsers users results) (sym empty) are }

pub next_node : (results : List Origin) (x : NodeTree) (rest : NodeTrees) (start : Walking) (ws ws' : List NodeTree) (users users' : Users) (w w' : Walking) →
    IsWritten results (walk_nodes rest results start) ws users w →
    ((os : List Origin) → AreUsers users os ws → IsWritten os (walk_node x os (behind ws w)) ws' users' w') →
    IsWritten results (walk_nodes (node_then x rest) results start) ws' users' w'
next_node results x rest start ws ws' users users' w w' h step = subst (λ s. IsWritten results (walk_node x results s) ws' users' w') h.is (step results h.users_are)

pub next_region : (r q : RegionTree) (rest : RegionTrees) (start w w' : Walking) (made : List RegionTree) →
    record { regions = regions_behind made no_regions; now = w } ≡ walk_regions rest start → record { region = q; now = w' } ≡ walk_region r w →
    record { regions = regions_behind (made ++ q ∷ []) no_regions; now = w' } ≡ walk_regions (region_then r rest) start
next_region r q rest start w w' made e one =
    ap (λ rs. record { regions = rs; now = w' }) (region_more made q no_regions)
    ∙ ap (λ (z : WrittenRegion). record { regions = region_then z.region (regions_behind made no_regions); now = z.now }) one
    ∙ ap (λ (t : WrittenRegions). let s : WrittenRegion = walk_region r t.now in record { regions = region_then s.region t.regions; now = s.now }) e

pub node_walked : (id : ℕ) (op : Op) (inputs : List Origin) (rs made : RegionTrees) (results : List Origin) (ws : List NodeTree) (w w' : Walking) → record { regions = made; now = w' } ≡ walk_regions rs w →
    put_where (node id op inputs made) results (behind ws w') ≡ walk_node (node id op inputs rs) results (behind ws w)
node_walked id op inputs rs made results ws w w' e =
    ap (λ (t : WrittenRegions). put_where (node id op inputs t.regions) results (record { nodes = nodes_behind ws no_nodes; now = t.now })) e

pub region_walked : (args : List Kind) (nodes made : NodeTrees) (results : List Origin) (w w' : Walking) → record { nodes = made; now = w' } ≡ walk_nodes nodes results w →
    record { region = region args made results; now = w' } ≡ walk_region (region args nodes results) w
region_walked args nodes made results w w' e = ap (λ (s : Behind). record { region = region args s.nodes results; now = s.now }) e

-- ---- the log

pub gained_more : (a b c : List Step) → HasGained a b → HasGained b c → HasGained a c
gained_more a b c g h = (g.0 ++ h.0, h.1 ∙ ap (λ xs. xs ++ h.0) g.1 ∙ append_assoc a g.0 h.0)

-- what follows from a promise
pub on_ok : {X Y : Type 0} (r : Result X Y) (P Q : Type 0) → (P → Q) → OnOk r P → OnOk r Q
on_ok (Ok x) P Q f h = f h
on_ok (Err e) P Q f h = tt

pub on_value : {X Y : Type 0} (r : Result X Y) (P Q : X → Type 0) → ((x : X) → P x → Q x) → IfOk r P → IfOk r Q
on_value (Ok x) P Q f h = f x h
on_value (Err e) P Q f h = tt

pub on_both : {X Y : Type 0} (r : Result X Y) (P Q S : Type 0) → (P → Q → S) → OnOk r P → OnOk r Q → OnOk r S
on_both (Ok x) P Q S f h k = f h k
on_both (Err e) P Q S f h k = tt
