-- Where the objects of a frame stand: one after the other, below the words that save registers.
use Rattle.std.proofs.Common.{◌≡◌, ℕ, zero, suc, ◌+◌, ◌%◌, ◌<◌, ◌≤◌, List, [], ◌∷◌, take, slice_get, Some, refl, ap, arith}
use Rattle.std.specs.List.{sum_by}
use Rattle.std.proofs.lemmas.List.Sums.{sum_by-cons}
use Rattle.std.proofs.lemmas.Option.{same_Some}
use Rattle.g_graph.specs.Plain.{PlainObject}
use Rattle.s_linear.specs.Frame.{object_room}

-- the bytes of these objects
abbrev rooms : List PlainObject → ℕ
rooms os = sum_by object_room os

room-more : (o : PlainObject) (os : List PlainObject) → rooms (o ∷ os) ≡ object_room o + rooms os
room-more o os = sum_by-cons object_room o os

pub rooms-even : (os : List PlainObject) (k : ℕ) → rooms (take k os) % 4 ≡ 0
rooms-even os zero = refl
rooms-even [] (suc k) = refl
rooms-even (o ∷ os) (suc k) = let e = room-more o (take k os) in let h = rooms-even os k in omega (arith, e, h)

pub rooms-within : (os : List PlainObject) (k : ℕ) (o : PlainObject) → slice_get os k ≡ Some o → rooms (take k os) + object_room o ≤ rooms os
rooms-within [] k o there = absurd cc
rooms-within (x ∷ os) zero o there =
    let e = room-more x os in
    let same : object_room x ≡ object_room o = ap object_room (same_Some x o there) in
    let none : rooms [] ≡ 0 = refl in
    omega (arith, e, same, none)
rooms-within (x ∷ os) (suc k) o there =
    let e = room-more x os in
    let d = room-more x (take k os) in
    let h = rooms-within os k o there in
    omega (arith, e, d, h)

pub rooms-order : (os : List PlainObject) (j k : ℕ) (o u : PlainObject) → slice_get os j ≡ Some o → slice_get os k ≡ Some u → j < k
    → rooms (take j os) + object_room o ≤ rooms (take k os)
rooms-order [] j k o u there there' less = absurd cc
rooms-order (x ∷ os) j zero o u there there' less = absurd (omega (arith, less))
rooms-order (x ∷ os) zero (suc k) o u there there' less =
    let e = room-more x (take k os) in
    let same : object_room x ≡ object_room o = ap object_room (same_Some x o there) in
    let none : rooms [] ≡ 0 = refl in
    omega (arith, e, same, none)
rooms-order (x ∷ os) (suc j) (suc k) o u there there' less =
    let e = room-more x (take k os) in
    let d = room-more x (take j os) in
    let h = rooms-order os j k o u there there' (omega (arith, less)) in
    omega (arith, e, d, h)
