-- Pointers move, are compared and have members within one live object.
use Rattle.std.specs.Prelude.{◌≡◌, ◌≤◌, ◌<◌, ◌+◌, ◌-◌, ◌*◌, ◌^◌, ◌==◌, ◌&&◌, ◌↔◌, ◌-ℤ◌, ◌*ℤ◌, ℕ, zero, suc, ℤ, pos, nat_le, nat_lt, Bool, true, false, if◌then◌else◌, Option, Some, None, IsSome}
use Rattle.std.proofs.Common.{refl, sym, ap, ap₂, arith}
use Rattle.std.proofs.lemmas.Bool.Decides.{nat_tests}
use Rattle.std.proofs.lemmas.Int.{ints}
use Rattle.std.proofs.Math.IntN.{neg_ℤ, negsuc-*ℤ-pos}
use Rattle.val_core.specs.declared.values.BlockName.{BlockName}
use Rattle.val_core.specs.declared.values.Value.{Value}
use Rattle.val_core.specs.declared.values.Value.TheVariants.{Num, At, Bad}
use Rattle.val_core.specs.Values.{same_block}
use Rattle.val_core.specs.Memory.{Memory, Block, block_named, is_live, pointers_equal}
use Rattle.c_typed.specs.declared.operator.Relation.{Relation}
use Rattle.c_mean.specs.State.{is_unsigned, is_negative, at_offset, moved_up, moved_down, elements_on, addresses_ordered, pointer_difference, member_address}
use Rattle.c_mean.proofs.Tests.{is-not, none-some, some-same, both, and, holds-where-some, some-where-holds, is-within, tests-within}
use Rattle.c_mean.specs.DefinedLaws.{Lives, integer, destination, IsPlace, PointersMoveWithin, OnlyPointersMove, AreInOne, OrderIsOfOneObject, DifferenceIsOfOneObject, AreComparable, EqualityIsOfLiveObjects, MembersAreWithin}

-- ---- live objects

lives : (b : BlockName) (m : Memory) → is_live (block_named b m) ≡ true → Lives b m
lives b m is = by_block (block_named b m) refl is where
  by_block : (o : Option Block) → block_named b m ≡ o → is_live o ≡ true → Lives b m
  by_block None at is = is-not is
  by_block (Some k) at is = (k, at, is)

tests-live : (b : BlockName) (m : Memory) → Lives b m → is_live (block_named b m) ≡ true
tests-live b m (k, at, live) = rw at live

-- ---- a place in an object

up-is-place : (b : BlockName) (o n : ℕ) (v : Value) → moved_up b o n ≡ Some v → IsPlace b (pos (o + n)) v
up-is-place b o n v e = by_test (nat_le (o + n) b.size) refl e where
  by_test : (t : Bool) → nat_le (o + n) b.size ≡ t → at_offset b t (o + n) ≡ Some v → IsPlace b (pos (o + n)) v
  by_test true is e = (o + n, some-same e, refl, is-within (o + n) b.size is)
  by_test false is e = none-some e

place-is-up : (b : BlockName) (o n : ℕ) (v : Value) → IsPlace b (pos (o + n)) v → moved_up b o n ≡ Some v
place-is-up b o n v (p, is, place, inside) =
    let same : p ≡ o + n = omega (arith, ints) in
    rw is (rw same (rw (tests-within (o + n) b.size (omega arith)) refl))

down-is-place : (b : BlockName) (o n : ℕ) (v : Value) → o ≤ b.size → moved_down b o n ≡ Some v → IsPlace b (pos o -ℤ pos n) v
down-is-place b o n v small e = by_test (nat_le n o) refl e where
  by_test : (t : Bool) → nat_le n o ≡ t → at_offset b t (o - n) ≡ Some v → IsPlace b (pos o -ℤ pos n) v
  by_test true is e = let less = is-within n o is in (o - n, some-same e, omega (arith, ints), omega arith)
  by_test false is e = none-some e

place-is-down : (b : BlockName) (o n : ℕ) (v : Value) → IsPlace b (pos o -ℤ pos n) v → moved_down b o n ≡ Some v
place-is-down b o n v (p, is, place, inside) =
    let sum : p + n ≡ o = omega (arith, ints) in
    let same : p ≡ o - n = omega arith in
    rw is (rw same (rw (tests-within n o (omega arith)) refl))

-- ---- the integer of a word, and the bytes that it moves by

positive : (u : Bool) (w : ℕ) → is_negative u w ≡ false → integer u w ≡ pos w
positive true w is = refl
positive false w is = by_test (nat_lt w (2 ^ 31)) refl where
  by_test : (t : Bool) → nat_lt w (2 ^ 31) ≡ t → (if t then pos w else pos w -ℤ pos (2 ^ 32)) ≡ pos w
  by_test true e = refl
  by_test false e = absurd (grind (arith, nat_tests))

negative : (u : Bool) (w : ℕ) → w < 2 ^ 32 → is_negative u w ≡ true → integer u w ≡ neg_ℤ (pos (2 ^ 32 - w))
negative true w small is = is-not is
negative false w small is = by_test (nat_lt w (2 ^ 31)) refl where
  by_test : (t : Bool) → nat_lt w (2 ^ 31) ≡ t → (if t then pos w else pos w -ℤ pos (2 ^ 32)) ≡ neg_ℤ (pos (2 ^ 32 - w))
  by_test true e = absurd (grind (arith, nat_tests))
  by_test false e = omega (arith, ints)

below-zero : (n size : ℕ) → neg_ℤ (pos n) *ℤ pos size ≡ neg_ℤ (pos (n * size))
below-zero zero size = omega (arith, ints)
below-zero (suc n) size = negsuc-*ℤ-pos n size

up-up : (o n size : ℕ) (i : ℤ) → i ≡ pos n → destination true o i size ≡ pos (o + n * size)
up-up o n size i is = rw is (omega (arith, ints))

up-down : (o n size : ℕ) (i : ℤ) → i ≡ neg_ℤ (pos n) → destination true o i size ≡ pos o -ℤ pos (n * size)
up-down o n size i is = rw is (rw (below-zero n size) (omega (arith, ints)))

down-down : (o n size : ℕ) (i : ℤ) → i ≡ pos n → destination false o i size ≡ pos o -ℤ pos (n * size)
down-down o n size i is = rw is (omega (arith, ints))

down-up : (o n size : ℕ) (i : ℤ) → i ≡ neg_ℤ (pos n) → destination false o i size ≡ pos (o + n * size)
down-up o n size i is = rw is (rw (below-zero n size) (omega (arith, ints)))

-- ---- a moved pointer

abbrev MovesTo : (up u : Bool) → (size : ℕ) → BlockName → (o w : ℕ) → Value → Type 0
MovesTo up u size b o w v = (elements_on up u size b o w ≡ Some v) ↔ IsPlace b (destination up o (integer u w) size) v

elements_move : (up u : Bool) (size : ℕ) (b : BlockName) (o w : ℕ) (v : Value) → o ≤ b.size → w < 2 ^ 32 → MovesTo up u size b o w v
elements_move true u size b o w v inside small = by_test (is_negative u w) refl where
  by_test : (t : Bool) → is_negative u w ≡ t →
      ((if t then moved_down b o ((2 ^ 32 - w) * size) else moved_up b o (w * size)) ≡ Some v) ↔ IsPlace b (destination true o (integer u w) size) v
  by_test true is = rw (up-down o (2 ^ 32 - w) size (integer u w) (negative u w small is)) (down-is-place b o _ v inside, place-is-down b o _ v)
  by_test false is = rw (up-up o w size (integer u w) (positive u w is)) (up-is-place b o _ v, place-is-up b o _ v)
elements_move false u size b o w v inside small = by_test (is_negative u w) refl where
  by_test : (t : Bool) → is_negative u w ≡ t →
      ((if t then moved_up b o ((2 ^ 32 - w) * size) else moved_down b o (w * size)) ≡ Some v) ↔ IsPlace b (destination false o (integer u w) size) v
  by_test true is = rw (down-up o (2 ^ 32 - w) size (integer u w) (negative u w small is)) (up-is-place b o _ v, place-is-up b o _ v)
  by_test false is = rw (down-down o w size (integer u w) (positive u w is)) (down-is-place b o _ v inside, place-is-down b o _ v)

-- a value in a live object: there is one exactly where the object lives and the value is there
in-live : (b : BlockName) (m : Memory) (o : Option Value) (v : Value) → (if is_live (block_named b m) then o else None) ≡ Some v → Lives b m × (o ≡ Some v)
in-live b m o v e = by_test (is_live (block_named b m)) refl e where
  by_test : (t : Bool) → is_live (block_named b m) ≡ t → (if t then o else None) ≡ Some v → Lives b m × (o ≡ Some v)
  by_test true is e = (lives b m is, e)
  by_test false is e = none-some e

live-in : (b : BlockName) (m : Memory) (o : Option Value) (v : Value) → Lives b m → o ≡ Some v → (if is_live (block_named b m) then o else None) ≡ Some v
live-in b m o v live is = rw (tests-live b m live) is

pub pointers_move_within : PointersMoveWithin
pointers_move_within up size t b o w m v sound small =
    let moves = elements_move up (is_unsigned t) size b o w v sound.0 small in
    let on = elements_on up (is_unsigned t) size b o w in
    (λ e. let h = in-live b m on v e in (h.0, moves.0 h.1), λ h. live-in b m on v h.0 (moves.1 h.1))

pub only_pointers_move : OnlyPointersMove
only_pointers_move up size t (At b o) (Num w) m e = (b, o, w, refl, refl)
only_pointers_move up size t (At b o) (At c p) m e = is-not e
only_pointers_move up size t (At b o) Bad m e = is-not e
only_pointers_move up size t (Num a) y m e = is-not e
only_pointers_move up size t Bad y m e = is-not e

-- ---- two pointers into one object

same-name : (b c : BlockName) → same_block b c ≡ true → b ≡ c
same-name b c e =
    let h = both (b.number == c.number) (b.size == c.size) e in
    let number : b.number ≡ c.number = grind (arith, nat_tests) in
    let size : b.size ≡ c.size = grind (arith, nat_tests) in
    ap₂ (λ n s. record { number = n; size = s }) number size

is-itself : (b : BlockName) → same_block b b ≡ true
is-itself b = grind (arith, nat_tests)

abbrev one_and_live : (b c : BlockName) → Memory → Bool
one_and_live b c m = same_block b c && is_live (block_named b m)

in-one : (b c : BlockName) (o p : ℕ) (m : Memory) → one_and_live b c m ≡ true → AreInOne (At b o) (At c p) m
in-one b c o p m e =
    let h = both (same_block b c) (is_live (block_named b m)) e in
    (b, o, p, refl, ap (λ n. At n p) (sym (same-name b c h.0)), lives b m h.1)

tests-one : (b : BlockName) (m : Memory) → Lives b m → one_and_live b b m ≡ true
tests-one b m live = and (is-itself b) (tests-live b m live)

ordered : (r : Relation) (x y : Value) (m : Memory) → IsSome (addresses_ordered r x y m) → AreInOne x y m
ordered r (At b o) (At c p) m e = in-one b c o p m (holds-where-some (one_and_live b c m) _ e)
ordered r (At b o) (Num w) m e = is-not e
ordered r (At b o) Bad m e = is-not e
ordered r (Num a) y m e = is-not e
ordered r Bad y m e = is-not e

orders : (r : Relation) (x y : Value) (m : Memory) → AreInOne x y m → IsSome (addresses_ordered r x y m)
orders r x y m (b, o, p, is_x, is_y, live) = rw is_x (rw is_y (some-where-holds _ (tests-one b m live)))

pub order_is_of_one_object : OrderIsOfOneObject
order_is_of_one_object r x y m = (ordered r x y m, orders r x y m)

apart : (size : ℕ) (x y : Value) (m : Memory) → IsSome (pointer_difference size x y m) → AreInOne x y m
apart size (At b o) (At c p) m e = in-one b c o p m (holds-where-some (one_and_live b c m) _ e)
apart size (At b o) (Num w) m e = is-not e
apart size (At b o) Bad m e = is-not e
apart size (Num a) y m e = is-not e
apart size Bad y m e = is-not e

have-difference : (size : ℕ) (x y : Value) (m : Memory) → AreInOne x y m → IsSome (pointer_difference size x y m)
have-difference size x y m (b, o, p, is_x, is_y, live) = rw is_x (rw is_y (some-where-holds _ (tests-one b m live)))

pub difference_is_of_one_object : DifferenceIsOfOneObject
difference_is_of_one_object size x y m = (apart size x y m, have-difference size x y m)

-- ---- equality

is-null : (w n : ℕ) → IsSome (if w == 0 then Some n else None) → w ≡ 0
is-null w n e = let h = holds-where-some (w == 0) n e in grind (arith, nat_tests)

null-is : (w n : ℕ) → w ≡ 0 → IsSome (if w == 0 then Some n else None)
null-is w n h = rw h refl

comparable : (x y : Value) (m : Memory) → IsSome (pointers_equal x y m) → AreComparable x y m
comparable (Num a) (Num b) m e = tt
comparable (At b o) (Num w) m e = is-null w 0 e
comparable (Num w) (At b o) m e = is-null w 0 e
comparable (At b o) (At c p) m e =
    let h = both (is_live (block_named b m)) (is_live (block_named c m)) (holds-where-some _ _ e) in
    (lives b m h.0, lives c m h.1)
comparable (Num a) Bad m e = is-not e
comparable (At b o) Bad m e = is-not e
comparable Bad y m e = is-not e

compares : (x y : Value) (m : Memory) → AreComparable x y m → IsSome (pointers_equal x y m)
compares (Num a) (Num b) m h = refl
compares (At b o) (Num w) m h = null-is w 0 h
compares (Num w) (At b o) m h = null-is w 0 h
compares (At b o) (At c p) m h = some-where-holds _ (and (tests-live b m h.0) (tests-live c m h.1))
compares (Num a) Bad m h = absurd h
compares (At b o) Bad m h = absurd h
compares Bad y m h = absurd h

pub equality_is_of_live_objects : EqualityIsOfLiveObjects
equality_is_of_live_objects x y m = (comparable x y m, compares x y m)

-- ---- members

abbrev IsMember : (x : Value) → ℕ → Memory → Value → Type 0
IsMember x n m v = (b : BlockName) × (o : ℕ) × (x ≡ At b o) × Lives b m × (o + n ≤ b.size) × (v ≡ At b (o + n))

member : (x : Value) (n : ℕ) (m : Memory) (v : Value) → member_address x n m ≡ Some v → IsMember x n m v
member (At b o) n m v e =
    let h = in-live b m (moved_up b o n) v e in
    by_test h.0 (nat_le (o + n) b.size) refl h.1 where
      by_test : Lives b m → (t : Bool) → nat_le (o + n) b.size ≡ t → at_offset b t (o + n) ≡ Some v → IsMember (At b o) n m v
      by_test live true is e = (b, o, refl, live, is-within (o + n) b.size is, some-same e)
      by_test live false is e = none-some e
member (Num a) n m v e = none-some e
member Bad n m v e = none-some e

has-member : (x : Value) (n : ℕ) (m : Memory) (v : Value) → IsMember x n m v → member_address x n m ≡ Some v
has-member x n m v (b, o, is_x, live, inside, is) = rw is_x (rw is (rw (tests-live b m live) (rw (tests-within (o + n) b.size inside) refl)))

pub members_are_within : MembersAreWithin
members_are_within x n m v = (member x n m v, has-member x n m v)
