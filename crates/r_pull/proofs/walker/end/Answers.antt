-- The nodes stand in the order of the region again.
use Rattle.std.specs.Prelude.{reverse}
use Rattle.std.proofs.Common.{◌≡◌, ap, ◌∙◌}
use Rattle.g_graph.specs.Plain.{region, no_nodes, args_of, nodes_of, results_of}
use Rattle.r_pull.specs.Behind.{nodes_behind}
use Rattle.r_pull.specs.declared.walker.Kept.{Kept}
use Rattle.r_pull.proofs.Loops.{nodes_in_order}
use Rattle.r_pull.proofs.walker.end.Goals as goal

pub returns : goal.returns
returns c =
    let written = c.args.kept.value.written.items in
    let args = c.in_ok-args.ensures.items ∙ c.deref.ensures.value in
    let results = c.in_ok-results.ensures.items ∙ c.deref-2.ensures.value in
    let nodes : nodes_of c.reverse.new.self.items ≡ nodes_behind written no_nodes =
    ap nodes_of (c.reverse.ensures.items ∙ ap (λ (k : Kept). reverse k.written.items) c.into_inner-users.ensures) ∙ nodes_in_order written in
    (λ i. region (args i) (nodes i) (results i)) ∙ ap (λ y. region (args_of y) (nodes_behind written no_nodes) (results_of y)) c.old.view_is
