use Rattle.std.specs.Prelude.{is_some}
use Rattle.std.proofs.Common.{◌≡◌, true, sym, ap, ◌∙◌, arith}
use Rattle.std.specs.declared.option.Option.TheVariants.{Some, None}
use Rattle.std.proofs.lemmas.Result.{on_ok_weaker}
use Rattle.g_graph.specs.Plain.{region, node, nodes_of}
use Rattle.g_graph.specs.Change.{node_index}
use Rattle.g_graph.proofs.lemmas.Splices.{index_within}
use Rattle.r_unroll.specs.Edit.{followed_at}
use Rattle.r_unroll.specs.Rule.{unroll_here}
use Rattle.r_unroll.proofs.Followed.{node_with, never-none, one-there, followed-there}
use Rattle.r_unroll.proofs.follow.follow_at.Goals as goal

pub index_mut-requires : goal.index_mut-requires
index_mut-requires c =
    omega (arith, index_within c.args.id c.in-Some.index c.deref.result.now (sym c.in-Some.ensures), c.deref.ensures.len)

pub follow_only-requires : goal.follow_only-requires
follow_only-requires c =
    let at : node_index c.args.id 0 (nodes_of c.region.inside.nodes.items) ≡ Some c.in-Some.index =
    ap (λ xs. node_index c.args.id 0 (nodes_of xs)) (sym c.deref.ensures.value) ∙ sym c.in-Some.ensures in
    let can : is_some (unroll_here c.args.values c.args.next c.args.id (region c.region.inside.args.items (nodes_of c.region.inside.nodes.items) c.region.inside.results.items)) ≡ true =
    ap (λ r. is_some (unroll_here c.args.values c.args.next c.args.id r)) c.region.view_is ∙ c.requires in
    one-there c.args.values c.args.next c.args.id c.in-Some.index c.region.inside.args.items c.region.inside.nodes.items c.region.inside.results.items can at c.index_mut.result.now
    c.index_mut.ensures.value c.behind-region.inside.id c.behind-region.inside.op c.behind-region.inside.inputs.items c.behind-region.inside.regions.items c.behind-region.view_is

pub unreachable-requires : goal.unreachable-requires
unreachable-requires c =
    let none : node_index c.args.id 0 (nodes_of c.region.inside.nodes.items) ≡ None =
    ap (λ xs. node_index c.args.id 0 (nodes_of xs)) (sym c.deref.ensures.value) ∙ sym c.in-None.ensures in
    let can : is_some (unroll_here c.args.values c.args.next c.args.id (region c.region.inside.args.items (nodes_of c.region.inside.nodes.items) c.region.inside.results.items)) ≡ true =
    ap (λ r. is_some (unroll_here c.args.values c.args.next c.args.id r)) c.region.view_is ∙ c.requires in
    never-none c.args.values c.args.next c.args.id 0 c.region.inside.args.items c.region.inside.nodes.items c.region.inside.results.items can none

pub returns-clause-ok : goal.returns-clause-ok
returns-clause-ok c =
    let at : node_index c.args.id 0 (nodes_of c.region.inside.nodes.items) ≡ Some c.in-Some.index =
    ap (λ xs. node_index c.args.id 0 (nodes_of xs)) (sym c.deref.ensures.value) ∙ sym c.in-Some.ensures in
    let can : is_some (unroll_here c.args.values c.args.next c.args.id (region c.region.inside.args.items (nodes_of c.region.inside.nodes.items) c.region.inside.results.items)) ≡ true =
    ap (λ r. is_some (unroll_here c.args.values c.args.next c.args.id r)) c.region.view_is ∙ c.requires in
    on_ok_weaker c.follow_only.result
    (λ ok. ap (followed_at c.args.values c.args.next c.args.id c.args.last c.args.results.items) (sym c.region.view_is)
    ∙ followed-there c.args.values c.args.next c.args.id c.in-Some.index c.region.inside.args.items c.region.inside.nodes.items c.region.inside.results.items can at c.index_mut.result.now
    c.index_mut.ensures.value c.args.last c.args.results.items _
    (ap (node c.behind-region.inside.id c.behind-region.inside.op c.behind-region.inside.inputs.items) ok ∙ ap (node_with c.args.last c.args.results.items) c.behind-region.view_is))
    c.follow_only.ensures.ok
