-- Where the parts of a program stand, and the bytes of its sections.
use Rattle.std.specs.Prelude.{ℕ, ◌+◌, ◌-◌, ◌*◌, ◌%◌, ◌^◌, ◌==◌, if◌then◌else◌, true, false, List, [], ◌∷◌, ◌++◌, replicate, map, sum_by, slice_index, Option, unwrap_or}
use Rattle.std.specs.declared.vec.Vec.{Vec}
use Rattle.std.specs.List.{flat_map}
use Rattle.elf_file.specs.Image.{Sections, text_at, next_page}
use Rattle.rv_isa.specs.Registers.{x0}
use Rattle.rv_isa.specs.declared.instruction.Instr.{Instr}
use Rattle.rv_isa.specs.declared.instruction.Instr.TheVariants.{Jal}
use Rattle.g_graph.specs.Plain.{PlainDelta}
use Rattle.rv_layout.specs.declared.item.Item.{Item}
use Rattle.rv_layout.specs.declared.item.Item.TheVariants.{Word, Mark, Jump, Call, Stub, Address}
use Rattle.rv_layout.specs.Sequences.{load_address, call, start_code, put_stub, get_stub, bytes_of}
use Rattle.rv_layout.specs.Items.{item_size, items_size, label_at}
use Rattle.rv_layout.specs.Globals.{global_room, globals_where, globals_from, global_bytes}

-- ---- addresses

-- The text: the start code of 8 instructions, the put stub of 9, the get stub of 12, then the functions.
abbrev pub put_at : ℕ
put_at = text_at + 4 * 8

abbrev pub get_at : ℕ
get_at = put_at + 4 * 9

abbrev pub functions_at : ℕ
functions_at = get_at + 4 * 12

-- stub 0 puts a byte, and stub 1 gets one
abbrev pub stub_at : (stub : ℕ) → ℕ
stub_at s = if s == 0 then put_at else get_at

-- the addresses of functions, one after the other
abbrev pub functions_from : (at : ℕ) → List (List Item) → List ℕ
functions_from at [] = []
functions_from at (f ∷ fs) = at ∷ functions_from (at + items_size f) fs

-- the items of each function
abbrev pub item_lists : {A : Type 0} → List (Vec Item A) → List (List Item)
item_lists fs = map (λ f. f.items) fs

-- where everything stands
pub record Addresses : Type 0 where
  pub functions : List ℕ
  pub globals : List ℕ
  pub fixed_at : ℕ
  pub data_at : ℕ
  pub stack_at : ℕ

-- The text, the fixed globals, the others and the stack each begin on a page of their own. The first word with the other
-- globals is the stubs' buffer, and 4 zero bytes follow it.
abbrev pub fixed_address : List (List Item) → ℕ
fixed_address fs = next_page (functions_at + sum_by items_size fs)

abbrev pub data_address : List (List Item) → List PlainDelta → ℕ
data_address fs ds = next_page (fixed_address fs + sum_by global_room (globals_where true ds))

abbrev pub stack_address : List (List Item) → List PlainDelta → ℕ
stack_address fs ds = next_page (data_address fs ds + 8 + sum_by global_room (globals_where false ds))

abbrev pub addresses_of : List (List Item) → List PlainDelta → Addresses
addresses_of fs ds = record {
  functions = functions_from functions_at fs;
  globals = globals_from (fixed_address fs) (data_address fs ds + 8) ds;
  fixed_at = fixed_address fs;
  data_at = data_address fs ds;
  stack_at = stack_address fs ds;
}

-- ---- text

-- how far an address is from another, as a word
abbrev pub offset_to : (from to : ℕ) → ℕ
offset_to from to = (to + 2 ^ 32 - from) % 2 ^ 32

-- an item's instructions at an address, with the addresses of the labels of its function
abbrev pub item_code : Addresses → (labels : ℕ → Option ℕ) → (at : ℕ) → Item → List Instr
item_code a labels at (Word i) = i ∷ []
item_code a labels at (Mark l) = []
item_code a labels at (Jump l) = Jal x0 (offset_to at (unwrap_or (labels l) 0)) ∷ []
item_code a labels at (Call f) = call (offset_to at (slice_index a.functions f))
item_code a labels at (Stub s) = call (offset_to at (stub_at s))
item_code a labels at (Address r k) = load_address r (slice_index a.globals k)

abbrev pub items_code : Addresses → (labels : ℕ → Option ℕ) → (at : ℕ) → List Item → List Instr
items_code a labels at [] = []
items_code a labels at (i ∷ is) = item_code a labels at i ++ items_code a labels (at + item_size i) is

abbrev pub function_code : Addresses → (at : ℕ) → List Item → List Instr
function_code a at items = items_code a (λ l. label_at l at items) at items

abbrev pub functions_code : Addresses → (at : ℕ) → List (List Item) → List Instr
functions_code a at [] = []
functions_code a at (f ∷ fs) = function_code a at f ++ functions_code a (at + items_size f) fs

abbrev pub text_of : Addresses → List (List Item) → (main : ℕ) → List Instr
text_of a fs main =
    start_code a.stack_at (slice_index a.functions main) ++ put_stub a.data_at ++ get_stub a.data_at ++ functions_code a functions_at fs

-- ---- sections

abbrev pub sections_at : Addresses → List (List Item) → List PlainDelta → (main : ℕ) → Sections
sections_at a fs ds main = record {
  text = bytes_of (text_of a fs main);
  fixed = flat_map (global_bytes a.globals) (globals_where true ds);
  fixed_at = a.fixed_at;
  globals = replicate 8 0 ++ flat_map (global_bytes a.globals) (globals_where false ds);
  data_at = a.data_at;
  stack_at = a.stack_at;
}

-- the sections of a program: these functions, these globals, and the number of the function that it begins with
abbrev pub laid_out : List (List Item) → List PlainDelta → (main : ℕ) → Sections
laid_out fs ds main = sections_at (addresses_of fs ds) fs ds main
