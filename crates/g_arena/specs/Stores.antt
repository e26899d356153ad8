-- What is stored of the nodes of a list: a slot of each, and the lists of its inputs and of the results of its regions.
use Rattle.std.specs.Prelude.{◌≡◌, true, ℕ, suc, ◌+◌, ◌^◌, ◌<◌, IsSome, List, [], ◌∷◌, ◌++◌, length, map, slice_get}
use Rattle.std.specs.declared.option.Option.TheVariants.{Some, None}
use Rattle.cell_lists.specs.Lists.{AreDistinct}
use Rattle.g_graph.specs.declared.op.Kind.{Kind}
use Rattle.g_graph.specs.declared.op.Origin.{Origin}
use Rattle.g_graph.specs.declared.op.Origin.TheVariants.{Arg, Out}
use Rattle.g_arena_def.specs.declared.place.Place.{Place}
use Rattle.g_arena_def.specs.Flat.{FlatRegion, FlatNode, body_place, place_in}
use Rattle.g_arena_use.specs.declared.use_index.Use.{Use}
use Rattle.g_arena_use.specs.UseCells.{IsNamed}
use Rattle.g_arena_use.specs.Lists.{PlainList, PlainUses, use_in, origins_at, AllNamed}
use Rattle.g_arena_use.specs.Plain.{PlainSlot, AreShort, numbers_of, all_live, kind_at}
use Rattle.g_arena_use.specs.Seen.{nodes_seen}
use Rattle.g_arena_use.specs.Indexed.{AreIndexed}
use Rattle.g_arena.specs.Gone.{AreGone}

abbrev pub ids_of : List FlatNode → List ℕ
ids_of xs = map (λ (x : FlatNode). x.id) xs

abbrev pub args_of : List FlatRegion → List (List Kind)
args_of rs = map (λ (r : FlatRegion). r.args) rs

abbrev pub slot_of : (results : ℕ) → FlatNode → PlainSlot
slot_of k x = record { id = x.id; op = x.op; outputs = x.outputs; regions = args_of x.regions; results = k; home = x.home; gone = None }

abbrev pub slots_of : (results : ℕ) → List FlatNode → List PlainSlot
slots_of k [] = []
slots_of k (x ∷ xs) = slot_of k x ∷ slots_of (k + length x.regions) xs

abbrev pub inputs_list : FlatNode → PlainList
inputs_list x = record { home = x.home; origins = x.inputs }

abbrev pub lists_of : (id index : ℕ) → List FlatRegion → List PlainList
lists_of n k [] = []
lists_of n k (r ∷ rs) = record { home = place_in n k; origins = r.results } ∷ lists_of n (suc k) rs

abbrev pub results_of : List FlatNode → List PlainList
results_of [] = []
results_of (x ∷ xs) = lists_of x.id 0 x.regions ++ results_of xs

abbrev pub body_list : List Origin → PlainList
body_list os = record { home = body_place; origins = os }

-- 32 bits count each of these
abbrev pub AreCounted : List (List Kind) → Type 0
AreCounted kss = (r : ℕ) (ks : List Kind) → slice_get kss r ≡ Some ks → length ks < 2 ^ 32

-- no number stands twice, and a node that is in no node is in the body
pub record AreRows (xs : List FlatNode) : Type 0 where
  pub once : AreDistinct (ids_of xs)
  pub homes : (i : ℕ) (x : FlatNode) → slice_get xs i ≡ Some x → x.home.node ≡ None → x.home.region ≡ 0

-- a name stays, and others come
abbrev pub AreKept : (names more : List Use) → Type 0
AreKept us vs = (u : Use) → IsNamed u us → IsNamed u vs

-- the outputs of a node, and the arguments of its regions, are named
pub record IsSlotNamed (names : List Use) (s : PlainSlot) : Type 0 where
  pub outputs : (q : ℕ) → q < length s.outputs → IsNamed (use_in s.home (Out s.id q)) names
  pub args : (r k : ℕ) (ks : List Kind) → slice_get s.regions r ≡ Some ks → k < length ks → IsNamed (use_in (place_in s.id r) (Arg k)) names

pub record AreCovered (ks : List Kind) (ss : List PlainSlot) (ls : List PlainList) (names : List Use) : Type 0 where
  pub body : (k : ℕ) → k < length ks → IsNamed (use_in body_place (Arg k)) names
  pub slots : (i : ℕ) (s : PlainSlot) → slice_get ss i ≡ Some s → IsSlotNamed names s
  pub lists : AllNamed names ls

-- what is stored of a list
pub record AreStored (os : List Origin) (xs : List FlatNode) (ss : List PlainSlot) (ns : List ℕ) (us ls : List PlainList) : Type 0 where
  pub slots : ss ≡ slots_of 1 xs
  pub keys : ns ≡ ids_of xs
  pub inputs : us ≡ map inputs_list xs
  pub results : ls ≡ body_list os ∷ results_of xs
  pub short : AreShort ss

pub record AreReady (ss : List PlainSlot) (ns : List ℕ) : Type 0 where
  pub keys : ns ≡ numbers_of ss
  pub once : AreDistinct (numbers_of ss)
  pub live : all_live ss ≡ true
  pub short : AreShort ss

-- these are indexed, with a name for each use that can be
pub record AreMade (ks : List Kind) (ss : List PlainSlot) (us ls : List PlainList) (ks' : List Kind) (ss' : List PlainSlot) (xs rs : PlainUses) : Type 0 where
  pub args : ks' ≡ ks
  pub nodes : ss' ≡ ss
  pub inputs : xs.lists ≡ us
  pub results : rs.lists ≡ ls
  pub named_inputs : (p : Place) (o : Origin) → IsSome (kind_at ks p o ss) → IsNamed (use_in p o) xs.names
  pub named_results : (p : Place) (o : Origin) → IsSome (kind_at ks p o ss) → IsNamed (use_in p o) rs.names
  pub room : xs.room + rs.room < 2 ^ 64

-- what is indexed of a list
pub record AreParts (body : FlatRegion) (xs : List FlatNode) (ks : List Kind) (ss : List PlainSlot) (us ls : PlainUses) : Type 0 where
  pub indexed : AreIndexed ks ss us ls
  pub gone : AreGone ss
  pub args : ks ≡ body.args
  pub results : origins_at ls.lists 0 ≡ body.results
  pub seen : nodes_seen us.lists ls.lists ss ≡ xs
