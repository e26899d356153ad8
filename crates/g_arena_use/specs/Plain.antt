-- What is stored of nodes, as plain records, and how they are found.
use Rattle.std.specs.Prelude.{ℕ, zero, suc, ◌+◌, ◌==◌, ◌^◌, ◌<◌, ◌≡◌, nat_lt, Bool, true, false, ◌&&◌, if◌then◌else◌, is_none, option_map, option_and_then, List, [], ◌∷◌, length, map, slice_get, slice_index_or, slice_set}
use Rattle.std.specs.List.{remove}
use Rattle.std.specs.declared.option.Option.{Option}
use Rattle.std.specs.declared.option.Option.TheVariants.{Some, None}
use Rattle.cell_lists.specs.Lists.{Lists}
use Rattle.g_graph.specs.declared.op.Kind.{Kind}
use Rattle.g_graph.specs.declared.op.Op.{Op}
use Rattle.g_graph.specs.declared.op.Origin.{Origin}
use Rattle.g_graph.specs.declared.op.Origin.TheVariants.{Arg, Out}
use Rattle.g_graph.specs.declared.op.Op.TheVariants.{Undef}
use Rattle.g_arena_def.specs.declared.place.Place.{Place}
use Rattle.g_arena_def.specs.Flat.{body_place, same_place}

-- a node, the arguments of its regions, the number of the results of the first of them, and the node that it went with
pub record PlainSlot : Type 0 where
  pub id : ℕ
  pub op : Op
  pub outputs : List Kind
  pub regions : List (List Kind)
  pub results : ℕ
  pub home : Place
  pub gone : Option ℕ

abbrev pub is_live : PlainSlot → Bool
is_live s = is_none s.gone

abbrev pub no_slot : PlainSlot
no_slot = record { id = 0; op = Undef; outputs = []; regions = []; results = 0; home = body_place; gone = None }

abbrev pub slot_at : List PlainSlot → ℕ → PlainSlot
slot_at ss k = slice_index_or ss k no_slot

-- a slot is there, with its node
pub record IsThere (k : ℕ) (ss : List PlainSlot) : Type 0 where
  pub inside : k < length ss
  pub live : is_live (slot_at ss k) ≡ true

abbrev pub numbers_of : List PlainSlot → List ℕ
numbers_of ss = map (λ (s : PlainSlot). s.id) ss

-- the indexes of the nodes that are there, counted from a first one
abbrev pub live_from : ℕ → List PlainSlot → List ℕ
live_from k [] = []
live_from k (s ∷ ss) = if is_live s then k ∷ live_from (suc k) ss else live_from (suc k) ss

abbrev pub all_live : List PlainSlot → Bool
all_live [] = true
all_live (s ∷ ss) = is_live s && all_live ss

-- 32 bits count what a slot has, and 64 bits the numbers of its results
pub record IsShort (s : PlainSlot) : Type 0 where
  pub outputs : length s.outputs < 2 ^ 32
  pub regions : length s.regions < 2 ^ 32
  pub args : (r : ℕ) (ks : List Kind) → slice_get s.regions r ≡ Some ks → length ks < 2 ^ 32
  pub results : s.results + length s.regions < 2 ^ 64

abbrev pub AreShort : List PlainSlot → Type 0
AreShort ss = (k : ℕ) (s : PlainSlot) → slice_get ss k ≡ Some s → IsShort s

-- the number of the node of a slot
abbrev pub id_at : List PlainSlot → ℕ → ℕ
id_at ss k = (slot_at ss k).id

-- the index of the node of a number, whether it is there or went
abbrev pub number_index : ℕ → List PlainSlot → Option ℕ
number_index n [] = None
number_index n (s ∷ ss) = if s.id == n then Some 0 else option_map suc (number_index n ss)

-- the node of a number went with that of an index
abbrev pub is_index : ℕ → Option ℕ → Bool
is_index r None = false
is_index r (Some k) = k == r

abbrev pub went_at : (root : ℕ) → List PlainSlot → Option ℕ → Bool
went_at r ss None = false
went_at r ss (Some k) = is_index r (slot_at ss k).gone

abbrev pub node_went : (root : ℕ) → List PlainSlot → Option ℕ → Bool
node_went r ss None = false
node_went r ss (Some n) = went_at r ss (number_index n ss)

-- the index of the node of a number, if it is there
abbrev pub live_slot : ℕ → List PlainSlot → Option ℕ
live_slot n [] = None
live_slot n (s ∷ ss) = if s.id == n then (if is_live s then Some 0 else None) else option_map suc (live_slot n ss)

-- a node goes with another
abbrev pub slot_gone : (root : ℕ) → PlainSlot → PlainSlot
slot_gone r s = record s { gone = Some r }

-- an output of a node goes, or an argument of a region of it
abbrev pub output_gone : (port : ℕ) → PlainSlot → PlainSlot
output_gone q s = record s { outputs = remove s.outputs q }

abbrev pub argument_gone : (region index : ℕ) → PlainSlot → PlainSlot
argument_gone r k s = record s { regions = slice_set s.regions r (remove (slice_index_or s.regions r []) k) }

-- the number of the results of a region, and its arguments, where the body has these
abbrev pub number_in : PlainSlot → (region : ℕ) → Option ℕ
number_in s r = if nat_lt r (length s.regions) then Some (s.results + r) else None

abbrev pub results_number : Option ℕ → (region : ℕ) → List PlainSlot → Option ℕ
results_number None r ss = if r == 0 then Some 0 else None
results_number (Some n) r ss = option_and_then (λ i. number_in (slot_at ss i) r) (live_slot n ss)

abbrev pub args_of : (body : List Kind) → Option ℕ → (region : ℕ) → List PlainSlot → Option (List Kind)
args_of args None r ss = if r == 0 then Some args else None
args_of args (Some n) r ss = option_and_then (λ i. slice_get (slot_at ss i).regions r) (live_slot n ss)

-- the kind of an origin in the region at a place
abbrev pub output_in : Place → (port : ℕ) → PlainSlot → Option Kind
output_in p q s = if same_place s.home p then slice_get s.outputs q else None

abbrev pub kind_at : (body : List Kind) → Place → Origin → List PlainSlot → Option Kind
kind_at args p (Arg k) ss = option_and_then (λ ks. slice_get ks k) (args_of args p.node p.region ss)
kind_at args p (Out n q) ss = option_and_then (λ i. output_in p q (slot_at ss i)) (live_slot n ss)

-- numbers in order from a first one on, and so many slots of which the first are in a list
abbrev pub counted : (first count : ℕ) → List ℕ
counted k zero = []
counted k (suc n) = k ∷ counted (suc k) n

abbrev pub in_order : (slots count : ℕ) → Lists
in_order slots n = record { cells = slots; lists = counted 0 n ∷ [] }
