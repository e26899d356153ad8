-- How keys are stored with their nodes.
use Rattle.std.specs.Prelude.{ℕ, List, map}
use Rattle.g_arena_use.specs.declared.keys.Key.{Key}
use Rattle.g_arena_use.specs.Kept.{Kept}

abbrev pub key_seen : Key × ℕ → Kept
key_seen k = record { home = k.0.home; op = k.0.op; inputs = k.0.inputs.items; node = k.1 }

abbrev pub keys_seen : List (Key × ℕ) → List Kept
keys_seen ks = map key_seen ks
