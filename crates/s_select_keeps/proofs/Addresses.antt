-- Addresses of globals: those of one kind, fixed or not, stand one after the other.
use Rattle.std.proofs.Common.{◌≡◌, ℕ, zero, suc, ◌+◌, ◌%◌, ◌<◌, ◌≤◌, Bool, true, false, not, if◌then◌else◌, List, [], ◌∷◌, ◌++◌, length, take, slice_get, slice_index, Some, refl, sym, ap, ◌∙◌, arith}
use Rattle.std.specs.List.{sum_by, flat_map}
use Rattle.std.proofs.lemmas.List.{get_or_append_left, get_or-append-add}
use Rattle.std.proofs.lemmas.List.Sums.{sum_by-cons}
use Rattle.std.proofs.lemmas.Option.{same_Some}
use Rattle.g_graph.specs.Plain.{PlainDelta}
use Rattle.rv_layout.specs.Globals.{global_room, is_where, globals_where, globals_from}

-- the bytes that a global has among those of a kind
abbrev room_where : Bool → PlainDelta → ℕ
room_where fixed d = if is_where fixed d then global_room d else 0

-- the bytes of all of a kind
abbrev pub rooms_where : Bool → List PlainDelta → ℕ
rooms_where fixed ds = sum_by (room_where fixed) ds

-- how far after the first of its kind global k stands
abbrev pub offset_of : List PlainDelta → (k : ℕ) → PlainDelta → ℕ
offset_of ds k d = rooms_where d.fixed (take k ds)

rooms-cons : (fixed : Bool) (d : PlainDelta) (ds : List PlainDelta) → rooms_where fixed (d ∷ ds) ≡ room_where fixed d + rooms_where fixed ds
rooms-cons fixed d ds = sum_by-cons (room_where fixed) d ds

is_its_kind : (d : PlainDelta) → is_where d.fixed d ≡ true
is_its_kind d = by d.fixed
  where
    by : (b : Bool) → (if b then b else not b) ≡ true
    by true = refl
    by false = refl

room_is : (d : PlainDelta) → room_where d.fixed d ≡ global_room d
room_is d = ap (λ b. if b then global_room d else 0) (is_its_kind d)

pub rooms_are : (fixed : Bool) (ds : List PlainDelta) → sum_by global_room (globals_where fixed ds) ≡ rooms_where fixed ds
rooms_are fixed [] = refl
rooms_are fixed (d ∷ ds) = by (is_where fixed d) (rooms_are fixed ds) ∙ sym (rooms-cons fixed d ds)
  where
    by : (test : Bool) → sum_by global_room (globals_where fixed ds) ≡ rooms_where fixed ds
        → sum_by global_room (if test then d ∷ globals_where fixed ds else globals_where fixed ds) ≡ (if test then global_room d else 0) + rooms_where fixed ds
    by true same = sum_by-cons global_room d (globals_where fixed ds) ∙ ap (λ n. global_room d + n) same
    by false same = omega (arith, same)

-- the address of a global, from those of the first of each kind
pub address_is : (fixed other : ℕ) (ds : List PlainDelta) (k : ℕ) (d : PlainDelta) → slice_get ds k ≡ Some d
    → slice_index (globals_from fixed other ds) k ≡ (if d.fixed then fixed else other) + offset_of ds k d
address_is fixed other [] k d there = absurd cc
address_is fixed other (x ∷ ds) zero d there =
    by x.fixed ∙ ap (λ (y : PlainDelta). (if y.fixed then fixed else other) + 0) (same_Some x d there)
  where
    by : (b : Bool)
        → slice_index (if b then fixed ∷ globals_from (fixed + global_room x) other ds else other ∷ globals_from fixed (other + global_room x) ds) 0 ≡ (if b then fixed else other) + 0
    by true = omega arith
    by false = omega arith
address_is fixed other (x ∷ ds) (suc k) d there =
    by x.fixed d.fixed (rooms-cons d.fixed x (take k ds)) (address_is (fixed + global_room x) other ds k d there) (address_is fixed (other + global_room x) ds k d there)
  where
    by : (b c : Bool) → rooms_where d.fixed (x ∷ take k ds) ≡ (if (if c then b else not b) then global_room x else 0) + offset_of ds k d
        → slice_index (globals_from (fixed + global_room x) other ds) k ≡ (if c then fixed + global_room x else other) + offset_of ds k d
        → slice_index (globals_from fixed (other + global_room x) ds) k ≡ (if c then fixed else other + global_room x) + offset_of ds k d
        → slice_index (if b then fixed ∷ globals_from (fixed + global_room x) other ds else other ∷ globals_from fixed (other + global_room x) ds) (suc k)
        ≡ (if c then fixed else other) + rooms_where d.fixed (x ∷ take k ds)
    by true true sum one two = omega (arith, sum, one)
    by true false sum one two = omega (arith, sum, one)
    by false true sum one two = omega (arith, sum, two)
    by false false sum one two = omega (arith, sum, two)

pub offset_is_even : (fixed : Bool) (ds : List PlainDelta) → rooms_where fixed ds % 4 ≡ 0
offset_is_even fixed [] = refl
offset_is_even fixed (d ∷ ds) = by (is_where fixed d) (rooms-cons fixed d ds) (offset_is_even fixed ds)
  where
    by : (test : Bool) → rooms_where fixed (d ∷ ds) ≡ (if test then global_room d else 0) + rooms_where fixed ds → rooms_where fixed ds % 4 ≡ 0 → rooms_where fixed (d ∷ ds) % 4 ≡ 0
    by true sum even = omega (arith, sum, even)
    by false sum even = omega (arith, sum, even)

-- a global ends within the bytes of its kind
pub ends_within : (ds : List PlainDelta) (k : ℕ) (d : PlainDelta) → slice_get ds k ≡ Some d → offset_of ds k d + global_room d ≤ rooms_where d.fixed ds
ends_within [] k d there = absurd cc
ends_within (x ∷ ds) zero d there =
    let sum = rooms-cons d.fixed x ds in
    let room : room_where d.fixed x ≡ global_room d = ap (room_where d.fixed) (same_Some x d there) ∙ room_is d in
    let none : rooms_where d.fixed [] ≡ 0 = refl in
    omega (arith, sum, room, none)
ends_within (x ∷ ds) (suc k) d there =
    let whole = rooms-cons d.fixed x ds in
    let part = rooms-cons d.fixed x (take k ds) in
    let rest = ends_within ds k d there in
    omega (arith, whole, part, rest)

-- and before each later one of its kind
pub ends_before : (ds : List PlainDelta) (j k : ℕ) (d : PlainDelta) → slice_get ds j ≡ Some d → j < k → offset_of ds j d + global_room d ≤ rooms_where d.fixed (take k ds)
ends_before [] j k d there less = absurd cc
ends_before (x ∷ ds) j zero d there less = absurd (omega (arith, less))
ends_before (x ∷ ds) zero (suc k) d there less =
    let sum = rooms-cons d.fixed x (take k ds) in
    let room : room_where d.fixed x ≡ global_room d = ap (room_where d.fixed) (same_Some x d there) ∙ room_is d in
    let none : rooms_where d.fixed [] ≡ 0 = refl in
    omega (arith, sum, room, none)
ends_before (x ∷ ds) (suc j) (suc k) d there less =
    let whole = rooms-cons d.fixed x (take k ds) in
    let part = rooms-cons d.fixed x (take j ds) in
    let rest = ends_before ds j k d there (omega (arith, less)) in
    omega (arith, whole, part, rest)

-- the bytes of a global among those of its kind
pub byte_is : (f : PlainDelta → List ℕ) (ds : List PlainDelta) (k : ℕ) (d : PlainDelta) (j : ℕ)
    → ((i : ℕ) (x : PlainDelta) → slice_get ds i ≡ Some x → length (f x) ≡ global_room x) → slice_get ds k ≡ Some d → j < global_room d
    → slice_index (flat_map f (globals_where d.fixed ds)) (offset_of ds k d + j) ≡ slice_index (f d) j
byte_is f [] k d j sizes there below = absurd cc
byte_is f (x ∷ ds) zero d j sizes there below =
    let kind : is_where d.fixed x ≡ true = ap (is_where d.fixed) (same_Some x d there) ∙ is_its_kind d in
    let size : length (f x) ≡ global_room d = ap (λ y. length (f y)) (same_Some x d there) ∙ sizes 0 d there in
    let list : flat_map f (globals_where d.fixed (x ∷ ds)) ≡ f x ++ flat_map f (globals_where d.fixed ds) =
    ap (λ b. flat_map f (if b then x ∷ globals_where d.fixed ds else globals_where d.fixed ds)) kind in
    let first : 0 + j ≡ j = omega arith in
    ap (λ xs. slice_index xs (0 + j)) list
    ∙ ap (slice_index (f x ++ flat_map f (globals_where d.fixed ds))) first
    ∙ get_or_append_left (f x) (flat_map f (globals_where d.fixed ds)) 0 j (omega (arith, size, below))
    ∙ ap (λ y. slice_index (f y) j) (same_Some x d there)
byte_is f (x ∷ ds) (suc k) d j sizes there below =
    by (is_where d.fixed x) (rooms-cons d.fixed x (take k ds)) (byte_is f ds k d j (λ i y at. sizes (suc i) y at) there below)
  where
    by : (test : Bool) → rooms_where d.fixed (x ∷ take k ds) ≡ (if test then global_room x else 0) + offset_of ds k d
        → slice_index (flat_map f (globals_where d.fixed ds)) (offset_of ds k d + j) ≡ slice_index (f d) j
        → slice_index (flat_map f (if test then x ∷ globals_where d.fixed ds else globals_where d.fixed ds)) (rooms_where d.fixed (x ∷ take k ds) + j) ≡ slice_index (f d) j
    by true sum rest =
        let size = sizes 0 x refl in
        let at : rooms_where d.fixed (x ∷ take k ds) + j ≡ length (f x) + (offset_of ds k d + j) = omega (arith, sum, size) in
        ap (slice_index (f x ++ flat_map f (globals_where d.fixed ds))) at
        ∙ get_or-append-add (f x) (flat_map f (globals_where d.fixed ds)) (offset_of ds k d + j) 0
        ∙ rest
    by false sum rest =
        let at : rooms_where d.fixed (x ∷ take k ds) + j ≡ offset_of ds k d + j = omega (arith, sum) in
        ap (slice_index (flat_map f (globals_where d.fixed ds))) at ∙ rest
