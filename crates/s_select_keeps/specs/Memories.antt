-- What the templates of instructions with memory do, over places.
use Rattle.std.specs.Prelude.{◌≡◌, ℕ, ◌+◌, false, [], ◌∷◌, ◌++◌, Some}
use Rattle.val_core.specs.declared.operation.Op2.TheVariants.{Eq}
use Rattle.val_core.specs.declared.values.BlockName.{BlockName}
use Rattle.val_core.specs.declared.values.Value.{Value}
use Rattle.val_core.specs.declared.values.Value.TheVariants.{Num}
use Rattle.val_core.specs.Memory as mem
use Rattle.rv_isa.specs.Registers.{t0, t1}
use Rattle.s_linear.specs.Meaning.{set}
use Rattle.s_select.specs.Operands.{location_of, in_of, load_in}
use Rattle.s_select.specs.Templates.{binary_code, clear_code, load_instr, store_instr, with_two, with_one}
use Rattle.s_select_keeps.specs.Relation.{Lives, IsPlaceOf}
use Rattle.s_select_keeps.specs.Rows.{Does, InBody}

abbrev pub LoadIsDone : Type 0
LoadIsDone =
    InBody (λ text f q s. (width t a : ℕ) (v : Value) → IsPlaceOf f t → IsPlaceOf f a → mem.load width (q.names a) q.memory ≡ Some v
    → Does text f s (with_one (location_of f.temporaries t) (location_of f.temporaries a) (λ rd r. load_instr width rd r ∷ [])) (set q t v))

abbrev pub StoreIsDone : Type 0
StoreIsDone =
    InBody (λ text f q s. (width a v : ℕ) (m : mem.Memory) → IsPlaceOf f a → IsPlaceOf f v → mem.store width (q.names a) (q.names v) q.memory ≡ Some m
    → Does text f s
    (load_in t0 (location_of f.temporaries a) ++ load_in t1 (location_of f.temporaries v) ++ store_instr width (in_of (location_of f.temporaries a) t0) (in_of (location_of f.temporaries v) t1) ∷ [])
    (record { names = q.names; memory = m; input = q.input }))

abbrev pub EqualPointersIsDone : Type 0
EqualPointersIsDone =
    InBody (λ text f q s. (t a b n : ℕ) → IsPlaceOf f t → IsPlaceOf f a → IsPlaceOf f b → mem.pointers_equal (q.names a) (q.names b) q.memory ≡ Some n
    → Does text f s (with_two (location_of f.temporaries t) (location_of f.temporaries a) (location_of f.temporaries b) (binary_code Eq)) (set q t (Num n)))

-- the object of a block that lives, at an offset from the stack pointer
abbrev pub ClearIsDone : Type 0
ClearIsDone =
    InBody (λ text f q s. (offset : ℕ) (b : BlockName) (k : mem.Block) → Lives q.memory b.number k → k.size ≡ b.size → k.fixed ≡ false → f.bases b.number ≡ f.sp + offset
    → Does text f s (clear_code offset b.size) (record { names = q.names; memory = mem.cleared b q.memory; input = q.input }))
