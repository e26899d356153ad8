-- How lists of origins are stored: each has cells of the index, those of a list behind those of the one before it. The
-- first cells of a list hold its uses in order, and those that went left cells that hold none behind them.
use Rattle.std.specs.Prelude.{◌≡◌, ℕ, suc, ◌+◌, ◌-◌, ◌≤◌, List, [], ◌∷◌, ◌++◌, length, map, replicate}
use Rattle.std.specs.declared.option.Option.{Option}
use Rattle.std.specs.declared.option.Option.TheVariants.{Some, None}
use Rattle.g_graph.specs.declared.op.Origin.{Origin}
use Rattle.g_arena_def.specs.declared.place.Place.{Place}
use Rattle.g_arena_use.specs.declared.use_index.Use.{Use}
use Rattle.g_arena_use.specs.Lists.{PlainList, use_in}

pub record PlainSite : Type 0 where
  pub home : Place
  pub origins : List Origin
  pub cell : ℕ
  pub room : ℕ

abbrev pub list_seen : PlainSite → PlainList
list_seen s = record { home = s.home; origins = s.origins }

abbrev pub held : Place → List Origin → List (Option Use)
held p xs = map (λ o. Some (use_in p o)) xs

abbrev pub site_cells : PlainSite → List (Option Use)
site_cells s = held s.home s.origins ++ replicate (s.room - length s.origins) None

abbrev pub cells_of : List PlainSite → List (Option Use)
cells_of [] = []
cells_of (s ∷ ss) = site_cells s ++ cells_of ss

-- the cells stand so from a first one on, and there is room for what they hold
abbrev pub AreLaid : (first : ℕ) → List PlainSite → Type 0
AreLaid first [] = Unit {0}
AreLaid first (s ∷ ss) = (s.cell ≡ first) × (length s.origins ≤ s.room) × AreLaid (first + s.room) ss

-- the list of each cell, where lists are counted from a first one
abbrev pub owners_from : ℕ → List PlainSite → List ℕ
owners_from k [] = []
owners_from k (s ∷ ss) = replicate s.room k ++ owners_from (suc k) ss

-- no list has room for more than it has
abbrev pub AreFull : List PlainSite → Type 0
AreFull [] = Unit {0}
AreFull (s ∷ ss) = (s.room ≡ length s.origins) × AreFull ss
