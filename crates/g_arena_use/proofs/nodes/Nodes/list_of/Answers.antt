-- The node of the place has the list.
use Rattle.std.proofs.Common.{ap, sym, ◌∙◌}
use Rattle.std.specs.Prelude.{option_and_then}
use Rattle.g_arena_use.specs.Plain.{number_in, results_number, slot_at}
use Rattle.g_arena_use.proofs.nodes.Nodes.list_of.Goals as goal

pub returns-in-Some-slot_of : goal.returns-in-Some-slot_of
returns-in-Some-slot_of c =
    c.list_of.ensures ∙ ap (λ s. number_in s c.args.home.region) c.slot.ensures.slot
    ∙ ap (option_and_then (λ i. number_in (slot_at c.args.self.now i) c.args.home.region)) c.in-Some-slot_of.ensures.slot
    ∙ ap (λ o. results_number o c.args.home.region c.args.self.now) (sym c.in-Some.is)
