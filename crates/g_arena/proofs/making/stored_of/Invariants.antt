-- What is stored of the nodes that came so far.
use Rattle.g_arena.specs.Stores.{AreStored}
use Rattle.g_arena.proofs.making.stored_of.Given as goal

abbrev pub invariant-loop-row : goal.invariant-loop-row
invariant-loop-row l = AreStored l.results l.yielded l.stored.slots.items l.stored.numbers.keys l.stored.inputs.items l.stored.results.items
