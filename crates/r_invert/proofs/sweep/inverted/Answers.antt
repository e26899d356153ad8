-- There are numbers for all the nodes that come.
use Rattle.std.proofs.Common.{sym, ◌∙◌}
use Rattle.g_graph.specs.Plain.{regions_of}
use Rattle.r_invert.proofs.AskedAt.{few_made}
use Rattle.r_invert.proofs.sweep.inverted.Goals as goal

pub new_of-requires : goal.new_of-requires
new_of-requires c = record {
  few = few_made c.args.values c.args.next c.args.op c.args.inputs.now (regions_of c.args.regions.now) c.in-Some.part (λ id. sym c.in-Some.is ∙ c.in_ok-part.ensures id);
}
