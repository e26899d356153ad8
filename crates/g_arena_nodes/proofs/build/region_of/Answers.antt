-- The region that is made of the rows of a region is that region, and has as many contents.
use Rattle.std.proofs.Common.{ap, ◌∙◌, arith}
use Rattle.g_arena_def.specs.Flat.{body_place}
use Rattle.g_arena_nodes.specs.Made.{region_made}
use Rattle.g_arena_nodes.proofs.TreeLemmas.{body_made, body_counted}
use Rattle.g_arena_nodes.proofs.build.region_of.Goals as goal

pub returns-clause-made : goal.returns-clause-made
returns-clause-made g c = λ r l.
    c.in_ok-region.ensures.region ∙ ap (region_made c.args.rows.body body_place) c.in_ok-made.ensures.made ∙ body_made c.args.rows.body c.args.rows.nodes.items r c.requires l

pub returns-clause-cost : goal.returns-clause-cost
returns-clause-cost g c = λ r l. omega (arith, body_counted c.args.rows.body c.args.rows.nodes.items r l, c.look_at_part.ensures, c.in_ok-made.ensures.cost)

pub returns-clause-looks : goal.returns-clause-looks
returns-clause-looks g c = λ r l. omega (arith, body_counted c.args.rows.body c.args.rows.nodes.items r l, c.look_at_part.ensures, c.in_ok-made.ensures.looks)

pub returns-in_err-made-clause-looks : goal.returns-in_err-made-clause-looks
returns-in_err-made-clause-looks g c = λ r l. omega (arith, body_counted c.args.rows.body c.args.rows.nodes.items r l, c.look_at_part.ensures, c.in_err-made.ensures.looks)

pub returns-in_err-region-clause-looks : goal.returns-in_err-region-clause-looks
returns-in_err-region-clause-looks g c = λ r l. omega (arith, body_counted c.args.rows.body c.args.rows.nodes.items r l, c.look_at_part.ensures, c.in_ok-made.ensures.looks)
