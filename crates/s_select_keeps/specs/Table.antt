-- What the items of an instruction do, over places: the whole table but calls.
use Rattle.std.specs.Prelude.{◌≡◌, ℕ, ◌+◌, ◌^◌, ◌<◌, false, IsTrue, List, length, slice_index, Option, All}
use Rattle.val_core.specs.declared.values.BlockName.{BlockName}
use Rattle.val_core.specs.declared.values.Value.{Value}
use Rattle.val_core.specs.declared.values.Value.TheVariants.{At}
use Rattle.val_core.specs.Memory.{Memory, Block}
use Rattle.val_core.specs.Objects as objects
use Rattle.g_graph.specs.Plain.{PlainObject}
use Rattle.g_graph.specs.WellFormed.{all_of}
use Rattle.rv_machine.specs.Machine as machine
use Rattle.rv_machine.specs.Standing.{Text}
use Rattle.rv_layout.specs.Layout.{Addresses}
use Rattle.s_linear.specs.Frame.{PlainPlaces, object_at}
use Rattle.s_linear.specs.Linear.{Instr, const, call}
use Rattle.s_linear.specs.Lines.{instr_names}
use Rattle.s_linear.specs.Meaning as linear
use Rattle.s_linear.specs.Meaning.{Context, instr_run}
use Rattle.s_linear.specs.Operands.{has_its_object, has_its_global}
use Rattle.a_place.specs.Placed.{placed_instr}
use Rattle.s_select.specs.Conditions.{has_place}
use Rattle.s_select.specs.Templates.{size_of, instr_items}
use Rattle.s_select_keeps.specs.Relation.{Shows, Lives, Frame, HasWords, Represents}
use Rattle.s_select_keeps.specs.Standing.{ItemsStand}
use Rattle.s_select_keeps.specs.Steps.{Follows}
use Rattle.s_select_keeps.specs.Streams.{IsBuffer, StubsStand}

-- the place of a name
abbrev pub place_at : PlainPlaces → (name : ℕ) → ℕ
place_at p x = slice_index p.of x

-- the frame is for these places
abbrev pub HasPlaces : Frame → PlainPlaces → Type 0
HasPlaces f p = (f.count ≡ p.count) × (f.temporaries ≡ p.temporaries)

-- Object k of a function is a block that lives and may be written, and stands in the frame.
pub record ObjectStands (f : Frame) (p : PlainPlaces) (os : List PlainObject) (address : Value) (blocks : Memory) (k : ℕ) : Type 0 where
  pub name : BlockName
  pub block : Block
  pub is : address ≡ At name 0
  pub size : name.size ≡ size_of os k
  pub base : f.bases name.number ≡ f.sp + object_at p.count os k
  pub lives : Lives blocks name.number block
  pub block_size : block.size ≡ name.size
  pub free : block.fixed ≡ false

-- The frame is that of a body with these places and objects, in a program laid out at these addresses: its objects and the globals
-- stand where the body finds them, and the stubs and their buffer are there.
pub record IsBody (text : Text) (f : Frame) (addresses : Addresses) (p : PlainPlaces) (os : List PlainObject) (named : objects.Addresses) (blocks : Memory) : Type 0 where
  pub places : HasPlaces f p
  pub objects : (k : ℕ) → k < length os → ObjectStands f p os (named.local k) blocks k
  pub globals : (k : ℕ) → k < length addresses.globals → (slice_index addresses.globals k < 2 ^ 32) × Shows f.bases (named.global k) (slice_index addresses.globals k)
  pub buffer : IsBuffer text f blocks addresses.data_at
  pub stubs : StubsStand text addresses.data_at

-- a constant is a word, and no function is called
abbrev pub IsPlain : Instr → Type 0
IsPlain (const t w) = w < 2 ^ 32
IsPlain (call f t xs) = ⊥
IsPlain _ = Unit {0}

-- The items of an instruction do what the instruction means over places.
abbrev pub InstrIsDone : Type 0
InstrIsDone =
    (text : Text) (f : Frame) (addresses : Addresses) (labels : ℕ → Option ℕ) (p : PlainPlaces) (os : List PlainObject) (c : Context) (q : linear.State)
    (s : machine.State) (i : Instr) (b least : ℕ)
    → HasWords text f → Represents text f q s → IsBody text f addresses p os c.addresses q.memory → All (λ byte. byte < 2 ^ 8) q.input
    → IsTrue (all_of (has_place p) (instr_names i)) → IsTrue (has_its_object (length os) i) → IsTrue (has_its_global (length addresses.globals) i) → IsPlain i
    → ItemsStand text addresses labels s.pc (instr_items p os i) b → b < 2 ^ 32
    → Follows text f b least (instr_run c (placed_instr (place_at p) i) q) s q.input
