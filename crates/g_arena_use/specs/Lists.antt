-- Lists of origins as contracts see them: the inputs of a node or the results of a region, with the place of the region
-- where they stand.
use Rattle.std.specs.Prelude.{ℕ, ◌+◌, ◌&&◌, Bool, if◌then◌else◌, List, [], ◌∷◌, length, map, slice_index_or}
use Rattle.std.specs.List.{remove}
use Rattle.g_graph.specs.declared.op.Origin.{Origin}
use Rattle.g_graph.specs.Scope.{same_origin}
use Rattle.g_graph.specs.WellFormed.{some_of}
use Rattle.g_arena_def.specs.declared.place.Place.{Place}
use Rattle.g_arena_def.specs.Flat.{body_place, same_place}
use Rattle.g_arena_def.specs.Reads.{times}
use Rattle.g_arena_def.specs.Edits.{first_with}
use Rattle.g_arena_use.specs.declared.use_index.Use.{Use}
use Rattle.g_arena_use.specs.UseCells.{IsNamed}

pub record PlainList : Type 0 where
  pub home : Place
  pub origins : List Origin

-- the uses that can be, the lists, and how many uses there were at the start
pub record PlainUses : Type 0 where
  pub names : List Use
  pub lists : List PlainList
  pub room : ℕ

abbrev pub origins_in : List PlainList → ℕ
origins_in [] = 0
origins_in (l ∷ ls) = length l.origins + origins_in ls

abbrev pub made_of : List Use → List PlainList → PlainUses
made_of names ls = record { names = names; lists = ls; room = origins_in ls }

abbrev pub no_list : PlainList
no_list = record { home = body_place; origins = [] }

abbrev pub origins_at : List PlainList → ℕ → List Origin
origins_at ls k = (slice_index_or ls k no_list).origins

abbrev pub use_in : Place → Origin → Use
use_in p o = record { home = p; of = o }

-- how often a use stands in a list, and in all of them
abbrev pub times_in : Use → PlainList → ℕ
times_in u l = if same_place u.home l.home then times u.of l.origins else 0

abbrev pub uses_of : Use → List PlainList → ℕ
uses_of u [] = 0
uses_of u (l ∷ ls) = times_in u l + uses_of u ls

-- the first of these uses comes from another origin
abbrev pub has_use : Use → PlainList → Bool
has_use u l = same_place u.home l.home && some_of (same_origin u.of) l.origins

abbrev pub use_moved : Use → (to : Origin) → List PlainList → List PlainList
use_moved u to [] = []
use_moved u to (l ∷ ls) = if has_use u l then record l { origins = first_with u.of to l.origins } ∷ ls else l ∷ use_moved u to ls

-- each origin in the region at a place is what f makes of it
abbrev pub renamed_in : Place → (Origin → Origin) → PlainList → PlainList
renamed_in p f l = if same_place p l.home then record l { origins = map f l.origins } else l

abbrev pub all_renamed : Place → (Origin → Origin) → List PlainList → List PlainList
all_renamed p f ls = map (renamed_in p f) ls

abbrev pub moved : (from to : Origin) → Origin → Origin
moved from to o = if same_origin from o then to else o

-- an origin goes from a list, or all do
abbrev pub without : (index : ℕ) → PlainList → PlainList
without k l = record l { origins = remove l.origins k }

abbrev pub emptied : PlainList → PlainList
emptied l = record l { origins = [] }

-- each use in a list has a name
abbrev pub AreNamedIn : List Use → Place → List Origin → Type 0
AreNamedIn names p [] = Unit {0}
AreNamedIn names p (o ∷ os) = IsNamed (use_in p o) names × AreNamedIn names p os

abbrev pub AllNamed : List Use → List PlainList → Type 0
AllNamed names [] = Unit {0}
AllNamed names (l ∷ ls) = AreNamedIn names l.home l.origins × AllNamed names ls
