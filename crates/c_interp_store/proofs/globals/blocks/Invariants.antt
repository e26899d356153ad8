-- The store holds the blocks of the globals that were passed.
use Rattle.std.proofs.Common.{take}
use Rattle.c_interp_store.specs.Starts.{globals_in, HoldsGlobals}
use Rattle.c_interp_store.proofs.globals.blocks.Given as goal

abbrev pub invariant-loop-g : goal.invariant-loop-g
invariant-loop-g l = HoldsGlobals l.types (globals_in l.layouts) (take l.g-index l.globals) l.store
