-- The body of a function takes as many numbers as it has nodes.
use Rattle.std.specs.Prelude.{if◌then◌else◌, ◌==◌}
use Rattle.std.proofs.Common.{◌≡◌, ◌≤◌, ℕ, suc, Bool, true, false, List, [], ◌∷◌, length, length-append, option_map, slice_get, Option, Some, None, sym, ◌∙◌, subst, arith}
use Rattle.std.proofs.lemmas.Option.{none-some, same_Some}
use Rattle.c_typed.specs.Typed.{ItemTrees, no_items, stmt_then, declare_then, StmtTree, return_value, return_none, VariableTree, FunctionTree}
use Rattle.c_typed.specs.Objects.{access_width}
use Rattle.c_typed.specs.WellTyped.{params_of}
use Rattle.g_graph.specs.declared.op.Origin.{Origin}
use Rattle.g_graph.specs.declared.op.Origin.TheVariants.{Arg}
use Rattle.g_graph.specs.Plain.{RegionTree, region, NodeTree, node, NodeTrees, no_nodes, node_then, RegionTrees, no_regions, region_then, PlainLambda, nodes_of}
use Rattle.g_graph.specs.Ids.{region_ids, node_ids, nodes_ids, regions_ids}
use Rattle.g_graph.specs.Count.{region_values, node_values, nodes_values, regions_values}
use Rattle.g_build_def.specs.Writer.{jumping, Point, with_jumps, Built, given, nothing, bind}
use Rattle.g_build_def.specs.Operations.{const_made}
use Rattle.g_build_def.specs.Exits.{some_items, body_jumps}
use Rattle.g_build_def.specs.Statements.{object_stored, declared_made, stmt_made, items_made}
use Rattle.g_build_def.specs.Functions.{params_stored, start_of, end_value, jumps_begun, straight_then, straight_made, jumping_body, straight_body, body_made, next_number, lambda_made}
use Rattle.g_build_def.specs.Laws.{LambdasStandAtTheirNumbers}
use Rattle.g_build_keeps.specs.NumberLaws.{NumbersAreFew, NumbersCountNodes}
use Rattle.g_build_keeps.proofs.Counted.{Counts, Keeps, counted_here, bind_counted}
use Rattle.g_build_keeps.proofs.ExpressionNumbers.{const_counted, expr_counted}
use Rattle.g_build_keeps.proofs.StatementNumbers.{undef_counted, stored_counted, declared_counted, stmt_counted, items_counted}

params_counted : (k a : ℕ) (ps : List VariableTree) → Keeps (params_stored k a ps)
params_counted k a [] s = counted_here s
params_counted k a (p ∷ ps) s = by p.is_object (params_counted (suc k) (suc a) ps) (params_counted k (suc a) ps s)
  where
    by : (t : Bool) → Keeps (params_stored (suc k) (suc a) ps) → Counts s (params_stored k (suc a) ps s) →
        Counts s (if t then bind (object_stored k (access_width p.type) (Arg a) s) (λ _ t. params_stored (suc k) (suc a) ps t) else params_stored k (suc a) ps s)
    by true h g =
        bind_counted s (object_stored k (access_width p.type) (Arg a) s) (λ _ t. params_stored (suc k) (suc a) ps t) (stored_counted k (access_width p.type) (Arg a) s) (λ _. h)
    by false h g = g

end_counted : (is_main : Bool) → Keeps (end_value is_main)
end_counted true s = const_counted 0 s
end_counted false s = undef_counted s

begun_counted : (is_main : Bool) → Keeps (jumps_begun is_main)
begun_counted is_main s =
    bind_counted s (const_made 0 s) (λ g t. bind (end_value is_main t) (λ r u. nothing (with_jumps u jumping g r))) (const_counted 0 s)
    (λ g t. bind_counted t (end_value is_main t) (λ r u. nothing (with_jumps u jumping g r)) (end_counted is_main t) (λ r u. counted_here u))

then_counted : (follows : Bool) (vs : List VariableTree) (a : StmtTree) (rest : Point → Built Origin) → Keeps rest → Keeps (straight_then follows vs a rest)
then_counted false vs (return_value e) rest h s = expr_counted e s
then_counted false vs return_none rest h s = undef_counted s
then_counted follows vs a rest h s = bind_counted s (stmt_made vs a s) (λ _ t. rest t) (stmt_counted vs a s) (λ _. h)

straight_counted : (is_main : Bool) (vs : List VariableTree) (is : ItemTrees) → Keeps (straight_made is_main vs is)
straight_counted is_main vs no_items s = end_counted is_main s
straight_counted is_main vs (stmt_then a is) s = then_counted (some_items is) vs a (straight_made is_main vs is) (straight_counted is_main vs is) s
straight_counted is_main vs (declare_then d is) s =
    bind_counted s (declared_made vs d s) (λ _ t. straight_made is_main vs is t) (declared_counted vs d s) (λ _. straight_counted is_main vs is)

jumping_counted : (is_main : Bool) (f : FunctionTree) → Counts (start_of f) (jumping_body is_main f)
jumping_counted is_main f =
    bind_counted (start_of f) (jumps_begun is_main (start_of f))
    (λ _ s. bind (params_stored 0 0 (params_of f) s) (λ _ t. bind (items_made f.variables f.body t) (λ _ u. given u.carried.ret u))) (begun_counted is_main (start_of f))
    (λ _ s.
    bind_counted s (params_stored 0 0 (params_of f) s) (λ _ t. bind (items_made f.variables f.body t) (λ _ u. given u.carried.ret u)) (params_counted 0 0 (params_of f) s)
    (λ _ t. bind_counted t (items_made f.variables f.body t) (λ _ u. given u.carried.ret u) (items_counted f.variables f.body t) (λ _ u. counted_here u)))

straight_body_counted : (is_main : Bool) (f : FunctionTree) → Counts (start_of f) (straight_body is_main f)
straight_body_counted is_main f =
    bind_counted (start_of f) (params_stored 0 0 (params_of f) (start_of f)) (λ _ s. straight_made is_main f.variables f.body s)
    (params_counted 0 0 (params_of f) (start_of f)) (λ _. straight_counted is_main f.variables f.body)

-- numbers begin with 0
from_start : (f : FunctionTree) (b : Built Origin) → Counts (start_of f) b → b.after.next ≡ length (nodes_ids (nodes_of b.nodes))
from_start f b h = omega (arith, h)

body_counted : (is_main : Bool) (f : FunctionTree) → next_number is_main f ≡ length (region_ids (body_made is_main f))
body_counted is_main f =
    elim (body_jumps f.body)
    as (λ b. (if b then jumping_body is_main f else straight_body is_main f).after.next
    ≡ length (nodes_ids (nodes_of (if b then jumping_body is_main f else straight_body is_main f).nodes))) [
      | true ↦ from_start f (jumping_body is_main f) (jumping_counted is_main f)
      | false ↦ from_start f (straight_body is_main f) (straight_body_counted is_main f)
    ]

pub numbers_count_nodes : LambdasStandAtTheirNumbers → NumbersCountNodes
numbers_count_nodes stand p k l e = by (slice_get p.functions k) (sym (stand p k) ∙ e)
  where
    by : (o : Option FunctionTree) → option_map (lambda_made p k) o ≡ Some l → l.next ≡ length (region_ids l.body)
    by None h = absurd (none-some l h)
    by (Some f) h =
        subst (λ (x : PlainLambda). x.next ≡ length (region_ids x.body)) (same_Some (lambda_made p k f) l h) (body_counted (k == p.main) f)

-- ---- values

-- a node is a value
mutual
  region_few : (r : RegionTree) → length (region_ids r) ≤ region_values r
  region_few (region args nodes results) = let inner = nodes_few nodes in omega (arith, inner)

  node_few : (x : NodeTree) → length (node_ids x) ≤ node_values x
  node_few (node id op inputs rs) = let inner = regions_few rs in omega (arith, inner)

  nodes_few : (ns : NodeTrees) → length (nodes_ids ns) ≤ nodes_values ns
  nodes_few no_nodes = omega arith
  nodes_few (node_then x ns) = let first = node_few x in let rest = nodes_few ns in omega (arith, first, rest, length-append (node_ids x) (nodes_ids ns))

  regions_few : (rs : RegionTrees) → length (regions_ids rs) ≤ regions_values rs
  regions_few no_regions = omega arith
  regions_few (region_then r rs) = let first = region_few r in let rest = regions_few rs in omega (arith, first, rest, length-append (region_ids r) (regions_ids rs))

pub numbers_are_few : LambdasStandAtTheirNumbers → NumbersAreFew
numbers_are_few stand p k l e = omega (arith, numbers_count_nodes stand p k l e, region_few l.body)
