-- That the instructions of items fit their formats.
use Rattle.std.specs.Prelude.{ℕ, ◌+◌, ◌^◌, ◌<◌, ◌≤◌, IsTrue, List, [], ◌∷◌, Option}
use Rattle.g_graph.specs.Plain.{PlainObject, PlainDelta}
use Rattle.rv_isa.specs.Words.{FitsFormat}
use Rattle.rv_machine.specs.Standing.{AllFit}
use Rattle.rv_layout.specs.declared.item.Item.{Item}
use Rattle.rv_layout.specs.declared.item.Item.TheVariants.{Word, Address}
use Rattle.rv_layout.specs.Conditions.{Reaches, CanLayOut}
use Rattle.rv_layout.specs.Items.{item_size}
use Rattle.rv_layout.specs.Layout.{Addresses, items_code, addresses_of, text_of}
use Rattle.s_linear.specs.Frame.{PlainPlaces, object_at, frame_size}
use Rattle.s_linear.specs.Linear.{const}
use Rattle.s_linear.specs.Lines.{Line, done, branch_equal, does}
use Rattle.s_select.specs.Conditions.{has_few_arguments, has_few_params}
use Rattle.s_select.specs.Templates.{size_of, line_items}

-- each instruction among items fits its format, and registers of addresses are below 32
abbrev pub WordsFit : List Item → Type 0
WordsFit [] = Unit {0}
WordsFit (Word i ∷ is) = FitsFormat i × WordsFit is
WordsFit (Address r k ∷ is) = (r < 32) × WordsFit is
WordsFit (_ ∷ is) = WordsFit is

-- At most four places are registers that a call loses. The size of the frame is a word, and so is each offset and size of an object in it.
pub record IsInRange (p : PlainPlaces) (os : List PlainObject) : Type 0 where
  pub temporaries : p.temporaries ≤ 4
  pub frame : frame_size p.count os < 2 ^ 32
  pub objects : (k : ℕ) → object_at p.count os k < 2 ^ 32
  pub sizes : (k : ℕ) → size_of os k + 3 < 2 ^ 32

-- the numbers of a line are words
abbrev pub NumbersFit : Line → Type 0
NumbersFit (done (const t w)) = w < 2 ^ 32
NumbersFit (branch_equal x n l) = n < 2 ^ 32
NumbersFit _ = Unit {0}

-- The template of each line is of instructions that fit their formats.
abbrev pub TemplatesFit : Type 0
TemplatesFit =
    (p : PlainPlaces) (os : List PlainObject) (line : Line) → IsInRange p os → NumbersFit line → IsTrue (has_few_params line) → IsTrue (does has_few_arguments line)
    → WordsFit (line_items p os line)

-- each jump among items from an address on reaches its label
abbrev pub JumpsReach : (labels : ℕ → Option ℕ) → (at : ℕ) → List Item → Type 0
JumpsReach labels at [] = Unit {0}
JumpsReach labels at (i ∷ is) = Reaches labels at i × JumpsReach labels (at + item_size i) is

-- So are the instructions that items become, where jumps reach their labels.
abbrev pub ItemsFit : Type 0
ItemsFit = (addresses : Addresses) (labels : ℕ → Option ℕ) (at : ℕ) (items : List Item) → WordsFit items → JumpsReach labels at items
    → AllFit (items_code addresses labels at items)

-- the items of each function do
abbrev pub EachFits : List (List Item) → Type 0
EachFits [] = Unit {0}
EachFits (f ∷ fs) = WordsFit f × EachFits fs

-- The whole text of a program that can be laid out is of instructions that fit their formats.
abbrev pub TextFits : Type 0
TextFits = (fs : List (List Item)) (ds : List PlainDelta) (main : ℕ) → CanLayOut fs ds main → EachFits fs → AllFit (text_of (addresses_of fs ds) fs main)
