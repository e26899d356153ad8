-- The sizes are those of the globals that were passed.
use Rattle.std.proofs.Common.{◌≡◌, map, take}
use Rattle.c_type.specs.Layout.{size}
use Rattle.c_typed.specs.Typed.{GlobalTree}
use Rattle.c_interp_store.proofs.layout.sizes.Given as goal

abbrev pub invariant-loop-g : goal.invariant-loop-g
invariant-loop-g l = l.sizes.items ≡ map (λ (g : GlobalTree). size l.types g.type) (take l.g-index l.globals)
