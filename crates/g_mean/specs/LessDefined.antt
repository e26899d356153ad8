-- How data of two sides relate, of which one is nearer to the source.
use Rattle.std.specs.Prelude.{◌≡◌, ℕ, ◌<◌, ◌≤◌, ◌⊎◌, List, [], ◌∷◌}
use Rattle.val_core.specs.declared.values.Value.TheVariants.{Bad}
use Rattle.val_core.specs.Values.{IsSound}
use Rattle.val_core.specs.Memory.{IsSoundMemory}
use Rattle.val_core.specs.declared.leaf.Leaf.{Leaf}
use Rattle.g_mean.specs.Data.{Datum, val, memory, input}
use Rattle.g_graph.specs.Plain.{PlainDelta}

abbrev pub AreBytes : List ℕ → Type 0
AreBytes [] = Unit {0}
AreBytes (b ∷ bs) = (b < 256) × AreBytes bs

-- words have 32 bits, addresses are within their blocks, and the input is bytes
abbrev pub IsSoundDatum : Datum → Type 0
IsSoundDatum (val v) = IsSound v
IsSoundDatum (memory m) = IsSoundMemory m
IsSoundDatum (input i) = AreBytes i

abbrev pub AreSound : List Datum → Type 0
AreSound [] = Unit {0}
AreSound (x ∷ xs) = IsSoundDatum x × AreSound xs

-- The second datum may stand for the first: nothing is asked of a value without meaning. Both are sound.
abbrev pub IsLessDefinedDatum : Datum → Datum → Type 0
IsLessDefinedDatum x y = ((x ≡ y) ⊎ (x ≡ val Bad)) × IsSoundDatum x × IsSoundDatum y

-- as many data, and each relates to the one in its place
abbrev pub Paired : (Datum → Datum → Type 0) → List Datum → List Datum → Type 0
Paired N [] [] = Unit {0}
Paired N (x ∷ xs) (y ∷ ys) = N x y × Paired N xs ys
Paired N _ _ = ⊥

abbrev pub AreNarrow : List Leaf → Type 0
AreNarrow [] = Unit {0}
AreNarrow (l ∷ ls) = (l.width ≤ 4) × AreNarrow ls

-- the bytes of globals are bytes, and a leaf has at most four
pub record IsSoundDelta (d : PlainDelta) : Type 0 where
  pub bytes : AreBytes d.bytes
  pub leaves : AreNarrow d.leaves

abbrev pub AreSoundDeltas : List PlainDelta → Type 0
AreSoundDeltas [] = Unit {0}
AreSoundDeltas (d ∷ ds) = IsSoundDelta d × AreSoundDeltas ds
