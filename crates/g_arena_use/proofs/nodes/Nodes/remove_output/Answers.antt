-- The slot stays with its number.
use Rattle.std.proofs.Common.{◌<◌, length, ap, sym, subst, arith}
use Rattle.g_arena_use.specs.Plain.{PlainSlot, IsShort, is_live}
use Rattle.g_arena_use.proofs.SlotLemmas.{short_output}
use Rattle.g_arena_use.proofs.NodeLemmas.{numbered, are_numbered, slot_changed}
use Rattle.g_arena_use.proofs.nodes.Nodes.remove_output.Goals as goal

pub invariant_of-self : goal.invariant_of-self
invariant_of-self c =
    let inside : c.args.at < length c.self.inside.slots.items = omega (arith, c.requires.inside, ap length c.self.view_is) in
    let P : PlainSlot → Type 0 = λ y. IsShort y in
    are_numbered _ (slot_changed c.self.inside.slots.items c.self.inside.numbers.keys c.self.inside.order c.args.at c.index_mut.result.now c.remove_output.new.self (numbered c.self.inside c.self.invariant) inside
    c.index_mut.ensures.value (ap (λ (y : PlainSlot). y.id) c.remove_output.ensures) (ap is_live c.remove_output.ensures) (λ h. subst P (sym c.remove_output.ensures) (short_output c.args.port c.index_mut.result.now h)))
