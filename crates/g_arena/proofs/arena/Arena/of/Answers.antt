-- The rows of a lambda are indexed.
use Rattle.std.proofs.Common.{List, subst, sym, ap, ◌∙◌}
use Rattle.g_graph.specs.Plain.{PlainLambda}
use Rattle.g_arena_def.specs.Flat.{FlatNode, body_place, in_region}
use Rattle.g_arena.specs.Stores.{AreRows}
use Rattle.g_arena.proofs.StoreLemmas.{rows_are}
use Rattle.g_arena.proofs.arena.Arena.of.Goals as goal

pub parts_of-requires : goal.parts_of-requires
parts_of-requires g c =
    let P : List FlatNode → Type 0 = λ xs. AreRows xs in
    subst P (sym (c.in_ok-rows.ensures.nodes ∙ ap (λ (l : PlainLambda). in_region body_place l.body) c.lambda.view_is)) (rows_are c.args.lambda c.requires)
