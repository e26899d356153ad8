-- What comes is the loop inverted.
use Rattle.std.proofs.Common.{sym, ◌∙◌}
use Rattle.g_graph.specs.Plain.{regions_of}
use Rattle.r_invert.proofs.Nodes.{only_made, no_loop, loop_place}
use Rattle.r_invert.proofs.node.inverted_loop.Goals as goal

pub returns-then-not-only_may : goal.returns-then-not-only_may
returns-then-not-only_may c = no_loop c.args.values c.args.next c.args.inputs.now (regions_of c.args.regions.now) (sym c.only_may.ensures ∙ c.if-not-only_may.true)

pub regions_part-requires : goal.regions_part-requires
regions_part-requires c = only_made c.args.values c.args.next (regions_of c.args.regions.now) c.requires.sound (sym c.only_may.ensures ∙ c.if-not-only_may.false)

pub returns : goal.returns
returns c =
    loop_place c.args.values c.args.next c.args.inputs.now (regions_of c.args.regions.now) c.in_ok-part.part c.with_inputs.result (sym c.only_may.ensures ∙ c.if-not-only_may.false)
    c.in_ok-part.ensures c.with_inputs.ensures
