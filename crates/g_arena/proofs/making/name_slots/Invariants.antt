-- The slots so far are named.
use Rattle.std.proofs.Common.{◌≡◌, ℕ, ◌<◌, Some}
use Rattle.std.specs.Prelude.{slice_get}
use Rattle.g_arena_use.specs.Plain.{PlainSlot}
use Rattle.g_arena.specs.Stores.{AreKept, IsSlotNamed}
use Rattle.g_arena.proofs.making.name_slots.Given as goal

abbrev pub invariant-loop-i : goal.invariant-loop-i
invariant-loop-i l = record {
  kept : AreKept l.fn.names l.names;
  named : (j : ℕ) → j < l.i → (s : PlainSlot) → slice_get l.slots j ≡ Some s → IsSlotNamed l.names s;
}
