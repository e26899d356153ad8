-- The node of the place has the region.
use Rattle.std.proofs.Common.{List, ap, sym, ◌∙◌}
use Rattle.std.specs.Prelude.{option_and_then, slice_get}
use Rattle.g_graph.specs.declared.op.Kind.{Kind}
use Rattle.g_arena_use.specs.Plain.{PlainSlot, args_of, slot_at}
use Rattle.g_arena_use.proofs.nodes.Nodes.argument_kind.Goals as goal

pub returns-in-Some-slot_of : goal.returns-in-Some-slot_of
returns-in-Some-slot_of c =
    c.argument.ensures ∙ ap (λ (s : PlainSlot). option_and_then (λ (ks : List Kind). slice_get ks c.args.index) (slice_get s.regions c.args.home.region)) c.slot.ensures.slot
    ∙ ap (λ o. option_and_then (λ (ks : List Kind). slice_get ks c.args.index) (option_and_then (λ i. slice_get (slot_at c.args.self.now i).regions c.args.home.region) o)) c.in-Some-slot_of.ensures.slot
    ∙ ap (λ o. option_and_then (λ (ks : List Kind). slice_get ks c.args.index) (args_of c.args.body.now o c.args.home.region c.args.self.now)) (sym c.in-Some.is)
