use Rattle.std.proofs.Common.{◌≡◌, ℕ, Option, Some, sym, ap, subst, subst₂, ◌∙◌}
use Rattle.std.specs.Prelude.{IfOk}
use Rattle.g_graph.specs.Plain.{RegionTree, nodes_of}
use Rattle.g_graph.specs.Nodes.{node_at}
use Rattle.g_graph.proofs.lemmas.Found.{found_at}
use Rattle.r_dne.specs.Rule.{eliminated, dne_here}
use Rattle.r_dne.specs.Plan.{planned}
use Rattle.r_dne.proofs.Tests.{here_at}
use Rattle.r_dne.proofs.find.plan_at.Goals as goal

pub returns-in-Some : goal.returns-in-Some
returns-in-Some c =
    let r = c.region.inside in
    let x = c.in-Some.node.now in
    let at : node_at c.args.id (nodes_of r.nodes.items) ≡ Some x = ap (λ xs. node_at c.args.id (nodes_of xs)) (sym c.deref.ensures.value) ∙ sym c.in-Some.ensures in
    let here = subst (λ (z : RegionTree). eliminated z x ≡ dne_here c.args.id z) c.region.view_is (here_at c.args.id r.args.items (nodes_of r.nodes.items) r.results.items x at) in
    subst₂ (λ (n : ℕ) (o : Option RegionTree). IfOk c.node_plan.result (λ plan. planned n c.args.region.now plan ≡ o)) (found_at c.args.id (nodes_of r.nodes.items) x at).number here
    c.node_plan.ensures
