-- How an arena is indexed: the inputs of each node and the results of each region are a list with its place, and each
-- use that can be has a name.
use Rattle.std.specs.Prelude.{◌≡◌, ℕ, ◌+◌, ◌^◌, ◌<◌, IsSome, List, [], ◌⊎◌, map, length, slice_get}
use Rattle.std.specs.declared.option.Option.TheVariants.{Some, None}
use Rattle.cell_lists.specs.Lists.{AreDistinct}
use Rattle.g_graph.specs.declared.op.Kind.{Kind}
use Rattle.g_graph.specs.declared.op.Origin.{Origin}
use Rattle.g_arena_def.specs.declared.place.Place.{Place}
use Rattle.g_arena_def.specs.Flat.{body_place, place_in}
use Rattle.g_arena_use.specs.UseCells.{IsNamed}
use Rattle.g_arena_use.specs.Lists.{PlainList, PlainUses, use_in, origins_at}
use Rattle.g_arena_use.specs.Plain.{PlainSlot, slot_at, numbers_of, kind_at}
use Rattle.g_arena_use.specs.Seen.{homes_of}

-- a list is that of the results of a region of a slot
pub record IsOfSlot (k : ℕ) (ss : List PlainSlot) : Type 0 where
  pub at : ℕ
  pub slot : PlainSlot
  pub region : ℕ
  pub there : slice_get ss at ≡ Some slot
  pub inside : region < length slot.regions
  pub own : k ≡ slot.results + region

-- the inputs: each list has the place of its node, and is empty where the node went
pub record AreInputs (xs : List PlainList) (ss : List PlainSlot) : Type 0 where
  pub homes : homes_of xs ≡ map (λ (s : PlainSlot). s.home) ss
  pub left : (k r : ℕ) → (slot_at ss k).gone ≡ Some r → origins_at xs k ≡ []

-- the results: the first list is that of the body, each other that of a region of a slot, and no two have one place
pub record AreResults (ls : List PlainList) (ss : List PlainSlot) : Type 0 where
  pub body : slice_get (homes_of ls) 0 ≡ Some body_place
  pub slots : (i k : ℕ) (s : PlainSlot) → slice_get ss i ≡ Some s → k < length s.regions → slice_get (homes_of ls) (s.results + k) ≡ Some (place_in s.id k)
  pub only : (k : ℕ) → k < length ls → (k ≡ 0) ⊎ IsOfSlot k ss
  pub apart : (j k : ℕ) (p : Place) → slice_get (homes_of ls) j ≡ Some p → slice_get (homes_of ls) k ≡ Some p → j ≡ k
  pub left : (i k r : ℕ) (s : PlainSlot) → slice_get ss i ≡ Some s → s.gone ≡ Some r → k < length s.regions → origins_at ls (s.results + k) ≡ []

pub record AreIndexed (args : List Kind) (ss : List PlainSlot) (xs ls : PlainUses) : Type 0 where
  pub once : AreDistinct (numbers_of ss)
  pub homes : (i : ℕ) (s : PlainSlot) → slice_get ss i ≡ Some s → s.home.node ≡ None → s.home.region ≡ 0
  pub inputs : AreInputs xs.lists ss
  pub results : AreResults ls.lists ss
  pub named_inputs : (p : Place) (o : Origin) → IsSome (kind_at args p o ss) → IsNamed (use_in p o) xs.names
  pub named_results : (p : Place) (o : Origin) → IsSome (kind_at args p o ss) → IsNamed (use_in p o) ls.names
  pub short : length args < 2 ^ 32
  pub room : xs.room + ls.room < 2 ^ 64
