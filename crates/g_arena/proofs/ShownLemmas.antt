-- What is stored in an arena, and what contracts see of it.
use Rattle.std.proofs.Common.{◌≡◌, ap, sym}
use Rattle.g_arena_def.specs.Flat.{Flat}
use Rattle.g_arena_use.proofs.ReadLemmas.{Shown}
use Rattle.g_arena.specs.declared.arena.Arena.TheInside.{Inside}
use Rattle.g_arena.specs.Seen.{arena_seen, IsStored}

pub shown : (a : Inside) (v : Flat) → IsStored a → arena_seen a ≡ v → Shown a.args a.nodes a.inputs a.results v
shown a v i e = record { is = i.indexed; nodes = sym (ap (λ (r : Flat). r.nodes) e); body = sym (ap (λ (r : Flat). r.body) e) }
