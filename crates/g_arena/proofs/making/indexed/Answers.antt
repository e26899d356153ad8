-- The lists are those that were given, with a name for each use that can be.
use Rattle.std.proofs.Common.{List, refl, subst, sym, ap, arith}
use Rattle.g_arena_use.specs.Lists.{PlainUses, origins_in}
use Rattle.g_arena_use.specs.Plain.{PlainSlot, AreShort}
use Rattle.g_arena.proofs.StoreLemmas.{named_by}
use Rattle.g_arena.proofs.making.indexed.Goals as goal

pub names_of-requires-clause-slots : goal.names_of-requires-clause-slots
names_of-requires-clause-slots c = let P : List PlainSlot → Type 0 = λ ss. AreShort ss in subst P (sym c.deref-3.ensures.value) c.requires.ready.short

pub names_of-requires-2-clause-slots : goal.names_of-requires-2-clause-slots
names_of-requires-2-clause-slots c = let P : List PlainSlot → Type 0 = λ ss. AreShort ss in subst P (sym c.deref-5.ensures.value) c.requires.ready.short

pub returns : goal.returns
returns c = record {
  args = refl;
  nodes = c.in_ok-nodes.ensures;
  inputs = ap (λ (u : PlainUses). u.lists) c.in_ok-inputs.ensures;
  results = ap (λ (u : PlainUses). u.lists) c.in_ok-results.ensures;
  named_inputs = named_by c.args.args c.args.stored.slots.items _ _ c.in_ok-names.names c.in_ok-inputs.inputs c.in_ok-names.ensures c.deref-3.ensures.value (ap (λ (u : PlainUses). u.names) c.in_ok-inputs.ensures);
  named_results = named_by c.args.args c.args.stored.slots.items _ _ c.in_ok-names-2.names c.in_ok-results.results c.in_ok-names-2.ensures c.deref-5.ensures.value (ap (λ (u : PlainUses). u.names) c.in_ok-results.ensures);
  room = omega (
    arith,
    c.in_ok-has_room.ensures,
    ap origins_in c.deref.ensures.value,
    ap origins_in c.deref-2.ensures.value,
    ap (λ (u : PlainUses). u.room) c.in_ok-inputs.ensures,
    ap (λ (u : PlainUses). u.room) c.in_ok-results.ensures,
  );
}
