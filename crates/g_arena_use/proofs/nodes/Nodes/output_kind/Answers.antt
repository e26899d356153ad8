-- The slot of the node has the output.
use Rattle.std.proofs.Common.{ap, ◌∙◌}
use Rattle.std.specs.Prelude.{option_and_then}
use Rattle.g_arena_use.specs.Plain.{output_in, slot_at}
use Rattle.g_arena_use.proofs.nodes.Nodes.output_kind.Goals as goal

pub returns-in-Some : goal.returns-in-Some
returns-in-Some c =
    c.output.ensures ∙ ap (output_in c.args.home c.args.port) c.slot.ensures.slot
    ∙ ap (option_and_then (λ i. output_in c.args.home c.args.port (slot_at c.args.self.now i))) c.in-Some.ensures.slot
