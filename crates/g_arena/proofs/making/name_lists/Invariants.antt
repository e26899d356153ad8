-- The uses in the lists so far are named.
use Rattle.std.proofs.Common.{◌≡◌, ℕ, ◌<◌, Some}
use Rattle.std.specs.Prelude.{slice_get}
use Rattle.g_arena_use.specs.Lists.{PlainList, AreNamedIn}
use Rattle.g_arena.specs.Stores.{AreKept}
use Rattle.g_arena.proofs.making.name_lists.Given as goal

abbrev pub invariant-loop-i : goal.invariant-loop-i
invariant-loop-i l = record {
  kept : AreKept l.fn.names l.names;
  named : (j : ℕ) → j < l.i → (x : PlainList) → slice_get l.lists j ≡ Some x → AreNamedIn l.names x.home x.origins;
}
