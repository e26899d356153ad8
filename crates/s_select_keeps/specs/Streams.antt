-- What the templates of output and input do, over places.
use Rattle.std.specs.Prelude.{◌≡◌, ℕ, ◌%◌, ◌^◌, ◌<◌, true, [], ◌∷◌, All}
use Rattle.val_core.specs.declared.values.Value.TheVariants.{Num}
use Rattle.val_core.specs.Events.{wrote}
use Rattle.val_core.specs.Memory.{Memory}
use Rattle.rv_isa.specs.Registers.{a0}
use Rattle.rv_machine.specs.Memory.{has_flag, to_read, to_write}
use Rattle.rv_machine.specs.Standing.{Text, CodeStands}
use Rattle.rv_layout.specs.Layout as layout
use Rattle.rv_layout.specs.Layout.{offset_to, get_at}
use Rattle.rv_layout.specs.Sequences.{call, put_stub, get_stub}
use Rattle.s_linear.specs.Meaning.{got}
use Rattle.s_select.specs.Operands as select
use Rattle.s_select.specs.Operands.{location_of, get}
use Rattle.s_select_keeps.specs.Relation.{IsOutside, Frame, IsPlaceOf}
use Rattle.s_select_keeps.specs.Rows.{InBody}
use Rattle.s_select_keeps.specs.Steps.{Comes, Follows}

-- The buffer of the stubs: a byte below the frame and outside each block that lives, which may be read and written.
pub record IsBuffer (text : Text) (f : Frame) (blocks : Memory) (buffer : ℕ) : Type 0 where
  pub below : buffer < f.sp
  pub outside : IsOutside f.bases blocks buffer
  pub readable : has_flag (text.flags buffer) to_read ≡ true
  pub writable : has_flag (text.flags buffer) to_write ≡ true

-- the stubs stand at their addresses
pub record StubsStand (text : Text) (buffer : ℕ) : Type 0 where
  pub put_end : ℕ
  pub put : CodeStands text layout.put_at (put_stub buffer) put_end
  pub put_low : put_end < 2 ^ 32
  pub get_end : ℕ
  pub get : CodeStands text get_at (get_stub buffer) get_end
  pub get_low : get_end < 2 ^ 32

abbrev pub PutIsDone : Type 0
PutIsDone =
    InBody (λ text f q s. (a w buffer m b : ℕ) → IsPlaceOf f a → q.names a ≡ Num w → IsBuffer text f q.memory buffer → StubsStand text buffer
    → CodeStands text s.pc (get a0 (location_of f.temporaries a)) m → CodeStands text m (call (offset_to m layout.put_at)) b → b < 2 ^ 32
    → Comes text f b q (wrote (w % 256) ∷ []) s q.input)

-- The input is of bytes.
abbrev pub GetIsDone : Type 0
GetIsDone =
    InBody (λ text f q s. (t buffer m b least : ℕ) → IsPlaceOf f t → All (λ byte. byte < 2 ^ 8) q.input → IsBuffer text f q.memory buffer → StubsStand text buffer
    → CodeStands text s.pc (call (offset_to s.pc get_at)) m → CodeStands text m (select.put (location_of f.temporaries t) a0) b → b < 2 ^ 32
    → Follows text f b least (got q t q.input) s q.input)
