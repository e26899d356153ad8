-- What functions and globals must meet so that they can be laid out.
use Rattle.std.specs.Prelude.{◌≡◌, ℕ, ◌+◌, ◌%◌, ◌^◌, ◌==◌, ◌<◌, ◌≤◌, nat_lt, nat_le, Bool, true, ◌&&◌, ◌||◌, IsTrue, List, [], ◌∷◌, length, Option, unwrap_or}
use Rattle.elf_file.specs.Image.{stack_size}
use Rattle.g_graph.specs.declared.link.Link.{Link}
use Rattle.g_graph.specs.Plain.{PlainDelta}
use Rattle.g_graph.specs.WellFormed.{all_of}
use Rattle.rv_layout.specs.declared.item.Item.{Item}
use Rattle.rv_layout.specs.declared.item.Item.TheVariants.{Jump, Call, Stub, Address}
use Rattle.rv_layout.specs.Items.{items_size, marks}
use Rattle.rv_layout.specs.Layout.{stack_address}

-- a label that is jumped to is marked once among these items
abbrev pub is_marked_once : List Item → Item → Bool
is_marked_once items (Jump l) = marks l items == 1
is_marked_once items _ = true

abbrev pub labels_are_marked : List Item → Bool
labels_are_marked items = all_of (is_marked_once items) items

-- so short that a jump reaches from everywhere to everywhere: 21 bits, signed
abbrev pub is_within_reach : List Item → Bool
is_within_reach items = nat_lt (items_size items) (2 ^ 20)

-- a called function is one of so many
abbrev pub has_callee : (functions : ℕ) → Item → Bool
has_callee functions (Call f) = nat_lt f functions
has_callee functions _ = true

-- a named global is one of so many
abbrev pub has_global : (globals : ℕ) → Item → Bool
has_global globals (Address r k) = nat_lt k globals
has_global globals _ = true

-- a stub is one of the two
abbrev pub has_stub : Item → Bool
has_stub (Stub s) = nat_lt s 2
has_stub _ = true

-- the register of an address is below 32
abbrev pub has_register : Item → Bool
has_register (Address r k) = nat_lt r 32
has_register _ = true

-- a label's address is so near that a jump reaches it, and both are multiples of 4
pub record CanJump (from to : ℕ) : Type 0 where
  pub back : from < to + 2 ^ 20
  pub forth : to < from + 2 ^ 20
  pub from_aligned : from % 4 ≡ 0
  pub to_aligned : to % 4 ≡ 0

-- a jump at an address reaches its label
abbrev pub Reaches : (labels : ℕ → Option ℕ) → (at : ℕ) → Item → Type 0
Reaches labels at (Jump l) = CanJump at (unwrap_or (labels l) 0)
Reaches labels at _ = Unit {0}

-- a link's global is one of so many
abbrev pub link_has_global : (globals : ℕ) → Link → Bool
link_has_global globals link = nat_lt link.delta globals

-- a link's four bytes are among so many
abbrev pub link_is_within : (size : ℕ) → Link → Bool
link_is_within size link = nat_le (link.at + 4) size

-- the four bytes of two links have none in common
abbrev pub are_apart : Link → Link → Bool
are_apart l m = nat_le (l.at + 4) m.at || nat_le (m.at + 4) l.at

abbrev pub links_are_apart : List Link → Bool
links_are_apart [] = true
links_are_apart (l ∷ ls) = all_of (are_apart l) ls && links_are_apart ls

-- ---- all of them

abbrev pub item_fits : (functions globals : ℕ) → Item → Bool
item_fits functions globals i = has_callee functions i && has_global globals i && has_stub i && has_register i

-- the items of a function, of so many functions and globals
abbrev pub function_fits : (functions globals : ℕ) → List Item → Bool
function_fits functions globals items = labels_are_marked items && is_within_reach items && all_of (item_fits functions globals) items

-- a global, of so many
abbrev pub global_fits : (globals : ℕ) → PlainDelta → Bool
global_fits globals d =
    all_of (link_has_global globals) d.links && all_of (link_is_within (length d.bytes)) d.links && links_are_apart d.links

-- every address of a program, up to the end of its stack, is below 2^32
abbrev pub FitsMemory : List (List Item) → List PlainDelta → Type 0
FitsMemory fs ds = stack_address fs ds + stack_size ≤ 2 ^ 32

-- These functions and globals can be laid out, and the program begins with function `main`.
pub record CanLayOut (functions : List (List Item)) (globals : List PlainDelta) (main : ℕ) : Type 0 where
  pub functions_fit : IsTrue (all_of (function_fits (length functions) (length globals)) functions)
  pub globals_fit : IsTrue (all_of (global_fits (length globals)) globals)
  pub has_main : main < length functions
  pub fits_memory : FitsMemory functions globals
