-- Lemmas on the offsets and sizes of memory objects.
use Rattle.std.proofs.Common.{◌≡◌, ℕ, zero, suc, ◌+◌, ◌<◌, refl, ap, ◌∙◌, List, [], ◌∷◌, length, slice_index, sum_by, take, arith}
use Rattle.std.proofs.lemmas.List.Sums.{sum_by-cons}
use Rattle.g_graph.specs.Plain.{PlainObject}
use Rattle.s_linear.specs.Frame.{object_room}
use Rattle.s_select.specs.Operands.{offsets_from}

pub length-offsets_from : (at : ℕ) (os : List PlainObject) → length (offsets_from at os) ≡ length os
length-offsets_from at [] = refl
length-offsets_from at (o ∷ os) = ap suc (length-offsets_from (at + object_room o) os)

pub offsets_from-at : (at : ℕ) (os : List PlainObject) (k : ℕ) → k < length os → slice_index (offsets_from at os) k ≡ at + sum_by object_room (take k os)
offsets_from-at at [] k h = absurd (omega arith)
offsets_from-at at (o ∷ os) zero h = omega arith
offsets_from-at at (o ∷ os) (suc k) h =
    let rest : slice_index (offsets_from (at + object_room o) os) k ≡ at + object_room o + sum_by object_room (take k os) =
    offsets_from-at (at + object_room o) os k (omega arith) in
    let sum : sum_by object_room (o ∷ take k os) ≡ object_room o + sum_by object_room (take k os) = sum_by-cons object_room o (take k os) in
    rest ∙ omega arith
