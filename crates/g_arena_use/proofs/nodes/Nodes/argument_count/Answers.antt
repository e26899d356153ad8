-- The node of the place has the region.
use Rattle.std.proofs.Common.{List, length, option_map, ap, sym, ◌∙◌}
use Rattle.std.specs.Prelude.{option_and_then, slice_get}
use Rattle.g_graph.specs.declared.op.Kind.{Kind}
use Rattle.g_arena_use.specs.Plain.{PlainSlot, args_of, slot_at}
use Rattle.g_arena_use.proofs.nodes.Nodes.argument_count.Goals as goal

pub returns-in-Some-slot_of : goal.returns-in-Some-slot_of
returns-in-Some-slot_of c =
    c.argument_count.ensures ∙ ap (λ (s : PlainSlot). option_map (λ (ks : List Kind). length ks) (slice_get s.regions c.args.home.region)) c.slot.ensures.slot
    ∙ ap (λ o. option_map (λ (ks : List Kind). length ks) (option_and_then (λ i. slice_get (slot_at c.args.self.now i).regions c.args.home.region) o)) c.in-Some-slot_of.ensures.slot
    ∙ ap (λ o. option_map (λ (ks : List Kind). length ks) (args_of c.args.body.now o c.args.home.region c.args.self.now)) (sym c.in-Some.is)
