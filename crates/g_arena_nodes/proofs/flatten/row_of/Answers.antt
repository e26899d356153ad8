-- Each part of the row is that of the node.
use Rattle.std.proofs.Common.{map, ap, ◌∙◌}
use Rattle.g_arena_def.specs.Flat.{region_flat}
use Rattle.g_arena_nodes.specs.Listed.{node_row}
use Rattle.g_arena_nodes.proofs.ListedLemmas.{flat_regions}
use Rattle.g_arena_nodes.proofs.flatten.row_of.Goals as goal

pub returns : goal.returns
returns c =
    (λ i. record {
      id = c.node.inside.id;
      op = c.node.inside.op;
      inputs = (c.in_ok-inputs.ensures.ok ∙ c.as_slice.ensures) i;
      outputs = c.in_ok-outputs.ensures i;
      regions = (c.in_ok-regions.ensures ∙ ap (map region_flat) c.deref.ensures.value ∙ flat_regions c.node.inside.regions.items) i;
      home = c.args.home;
    })
    ∙ ap (λ x. node_row c.args.home x c.args.outputs.now) c.node.view_is
