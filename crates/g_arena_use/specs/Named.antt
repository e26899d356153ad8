-- How uses are indexed: by their numbers.
use Rattle.std.specs.Prelude.{◌≡◌, ℕ, ◌<◌, false, List, [], ◌∷◌, map, length, slice_get}
use Rattle.std.specs.declared.option.Option.{Option}
use Rattle.std.specs.declared.option.Option.TheVariants.{Some, None}
use Rattle.cell_lists.specs.Keys.{Keys, key_at}
use Rattle.g_arena_use.specs.declared.use_index.Use.{Use}
use Rattle.g_arena_use.specs.UseCells.{UseCells, is_named}

-- no use stands twice
abbrev pub AreOnce : List Use → Type 0
AreOnce [] = Unit {0}
AreOnce (u ∷ us) = (is_named u us ≡ false) × AreOnce us

abbrev pub name_of : List Use → Option ℕ → Option Use
name_of names None = None
name_of names (Some k) = slice_get names k

abbrev pub uses_named : List Use → Keys → UseCells
uses_named names s = record { names = names; cells = map (name_of names) s.cells }

pub record AreNamed (names : List Use) (s : Keys) : Type 0 where
  pub once : AreOnce names
  pub count : s.count ≡ length names
  pub within : (c k : ℕ) → key_at s c ≡ Some k → k < length names
