-- The looks so far, with those that are left, are all of them.
use Rattle.std.proofs.Common.{◌≡◌, ◌+◌, ◌*◌, drop}
use Rattle.g_arena_nodes.specs.Made.{parts_size}
use Rattle.g_arena_nodes.proofs.build.look_at_parts.Given as goal

abbrev pub invariant-loop-part : goal.invariant-loop-part
invariant-loop-part g l = l.looks + 2 * parts_size (drop l.part-index l.parts) ≡ l.fn.looks + 2 * parts_size l.parts
