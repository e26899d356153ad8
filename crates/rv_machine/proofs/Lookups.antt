-- The memory of segments that are apart.
use Rattle.std.proofs.Common.{◌≡◌, ◌≢◌, ℕ, zero, suc, ◌+◌, ◌-◌, ◌/◌, ◌%◌, ◌<◌, ◌≤◌, Bool, true, false, cond, not, eqb, List, [], ◌∷◌, length, map, get_or, set, refl, sym, ap, ◌∙◌, arith, inl, inr, get_or-set_other, get_or-set_same, eq-eqb}
use mathlib.Core.Path.{fun_ext}
use Rattle.std.specs.Prelude.{AllPairs}
use Rattle.std.proofs.lemmas.Bool.{cases_Bool, cases_eq, ne_eqb, both_ways, false_from_ne_true}
use Rattle.std.proofs.lemmas.Bool.Decides.{nat_tests}
use Rattle.std.proofs.lemmas.List.{get_or-map, length-map, length-set, set-get_or, set-set}
use Rattle.elf_file.specs.Loading.{LoadedSegment}
use Rattle.elf_file.specs.Segments.{AreApart}
use Rattle.rv_machine.specs.declared.block.Block.{Block}
use Rattle.rv_machine.specs.Block.{segment_of, outline_of}
use Rattle.rv_machine.specs.Memory.{holds, memory_of, flags_of, put_at, written, store_bytes}

-- the segment k, whose addresses none before it has
pub record IsAt (ss : List LoadedSegment) (k : ℕ) (s : LoadedSegment) : Type 0 where
  pub within : k < length ss
  pub is : get_or ss k s ≡ s
  pub before : (j x : ℕ) (d : LoadedSegment) → j < k → holds s x ≡ true → holds (get_or ss j d) x ≡ false

pub holds-above : (s : LoadedSegment) (x : ℕ) → holds s x ≡ true → s.at ≤ x
holds-above s x h = grind (arith, nat_tests)

pub holds-below : (s : LoadedSegment) (x : ℕ) → holds s x ≡ true → x < s.at + s.size
holds-below s x h = grind (arith, nat_tests)

pub holds-true : (s : LoadedSegment) (x : ℕ) → s.at ≤ x → x < s.at + s.size → holds s x ≡ true
holds-true s x above below = grind (arith, nat_tests)

tail : (y : LoadedSegment) (ys : List LoadedSegment) (k : ℕ) (s : LoadedSegment) → IsAt (y ∷ ys) (suc k) s → IsAt ys k s
tail y ys k s at = record {
  within = omega (arith, at.within);
  is = at.is;
  before = λ j x d below h. at.before (suc j) x d (omega arith) h;
}

-- the byte and the flags at an address of a segment
pub memory_at : (ss : List LoadedSegment) (k : ℕ) (s : LoadedSegment) (x : ℕ) → IsAt ss k s → holds s x ≡ true
    → memory_of ss x ≡ get_or s.bytes (x - s.at) 0
unfolding memory_of
memory_at [] k s x at h = absurd (omega (arith, at.within))
memory_at (y ∷ ys) zero s x at h = let e : y ≡ s = at.is in rw e rw h refl
memory_at (y ∷ ys) (suc k) s x at h =
    let other : holds y x ≡ false = at.before 0 x y (omega arith) h in
    rw other (memory_at ys k s x (tail y ys k s at) h)

pub flags_at : (ss : List LoadedSegment) (k : ℕ) (s : LoadedSegment) (x : ℕ) → IsAt ss k s → holds s x ≡ true
    → flags_of ss x ≡ s.flags
unfolding flags_of
flags_at [] k s x at h = absurd (omega (arith, at.within))
flags_at (y ∷ ys) zero s x at h = let e : y ≡ s = at.is in rw e rw h refl
flags_at (y ∷ ys) (suc k) s x at h =
    let other : holds y x ≡ false = at.before 0 x y (omega arith) h in
    rw other (flags_at ys k s x (tail y ys k s at) h)

-- no segment has the address
pub record NoneHolds (ss : List LoadedSegment) (x : ℕ) : Type 0 where
  pub none : (j : ℕ) (d : LoadedSegment) → j < length ss → holds (get_or ss j d) x ≡ false

none-tail : (y : LoadedSegment) (ys : List LoadedSegment) (x : ℕ) → NoneHolds (y ∷ ys) x → NoneHolds ys x
none-tail y ys x h = record { none = λ j d below. h.none (suc j) d (omega arith) }

pub flags_absent : (ss : List LoadedSegment) (x : ℕ) → NoneHolds ss x → flags_of ss x ≡ 0
unfolding flags_of
flags_absent [] x h = refl
flags_absent (y ∷ ys) x h =
    let other : holds y x ≡ false = h.none 0 y (omega arith) in
    rw other (flags_absent ys x (none-tail y ys x h))

pub bytes_absent : (ss : List LoadedSegment) (x : ℕ) → NoneHolds ss x → memory_of ss x ≡ 0
unfolding memory_of
bytes_absent [] x h = refl
bytes_absent (y ∷ ys) x h =
    let other : holds y x ≡ false = h.none 0 y (omega arith) in
    rw other (bytes_absent ys x (none-tail y ys x h))

-- the segment with other bytes
abbrev pub with_bytes : LoadedSegment → List ℕ → LoadedSegment
with_bytes s bytes = record { at = s.at; size = s.size; flags = s.flags; bytes = bytes }

same_place : (a x at : ℕ) → at ≤ a → at ≤ x → x ≢ a → x - at ≢ a - at
same_place a x at h g other e = other (omega arith)

in_segment : (s : LoadedSegment) (a n x : ℕ) → length s.bytes ≡ s.size → holds s a ≡ true → holds s x ≡ true
    → get_or (set s.bytes (a - s.at) n) (x - s.at) 0 ≡ cond (eqb x a) n (get_or s.bytes (x - s.at) 0)
in_segment s a n x long h g =
    let above : s.at ≤ a = holds-above s a h in
    let below : a < s.at + s.size = holds-below s a h in
    let above_x : s.at ≤ x = holds-above s x g in
    let inside : a - s.at < length s.bytes = omega arith in
    elim (cases_eq x a) [
      | inl here ↦ rw (eq-eqb x a here) rw here (get_or-set_same s.bytes (a - s.at) n 0 inside)
      | inr there ↦ rw (ne_eqb x a there) (get_or-set_other s.bytes (a - s.at) (x - s.at) n 0 (same_place a x s.at above above_x there))
    ]

other_address : (s : LoadedSegment) (a x : ℕ) (t : Bool) → holds s a ≡ t → holds s x ≡ not t → eqb x a ≡ false
other_address s a x true h g = ne_eqb x a (λ e. both_ways (holds s x) g (ap (holds s) e ∙ h))
other_address s a x false h g = ne_eqb x a (λ e. both_ways (holds s x) (ap (holds s) e ∙ h) g)

put_at_place : (ss : List LoadedSegment) (k : ℕ) (s : LoadedSegment) (a n x : ℕ) → IsAt ss k s → length s.bytes ≡ s.size → holds s a ≡ true
    → memory_of (set ss k (with_bytes s (set s.bytes (a - s.at) n))) x ≡ cond (eqb x a) n (memory_of ss x)
unfolding memory_of
put_at_place [] k s a n x at long h = absurd (omega (arith, at.within))
put_at_place (y ∷ ys) zero s a n x at long h =
    let is : y ≡ s = at.is in
    rw is elim (cases_Bool (holds s x)) [
      | inl held ↦ rw held (in_segment s a n x long h held)
      | inr free ↦ rw free rw (other_address s a x true h free) refl
    ]
put_at_place (y ∷ ys) (suc k) s a n x at long h =
    elim (cases_Bool (holds y x)) [
      | inl held ↦ rw held rw (other_address y a x false (at.before 0 a y (omega arith) h) held) refl
      | inr free ↦ rw free (put_at_place ys k s a n x (tail y ys k s at) long h)
    ]

-- one byte is written in a segment
memory-put : (ss : List LoadedSegment) (k : ℕ) (s : LoadedSegment) (a n : ℕ) → IsAt ss k s → length s.bytes ≡ s.size → holds s a ≡ true
    → memory_of (set ss k (with_bytes s (set s.bytes (a - s.at) n))) ≡ put_at (memory_of ss) a n
memory-put ss k s a n at long h = fun_ext (λ x. put_at_place ss k s a n x at long h)

at-set : (ss : List LoadedSegment) (k : ℕ) (s : LoadedSegment) (bytes : List ℕ) → IsAt ss k s → IsAt (set ss k (with_bytes s bytes)) k (with_bytes s bytes)
at-set ss k s bytes at = record {
  within = omega (arith, at.within, length-set ss k (with_bytes s bytes));
  is = get_or-set_same ss k (with_bytes s bytes) (with_bytes s bytes) at.within;
  before = λ j x d below h.
      rw (get_or-set_other ss k j (with_bytes s bytes) d (omega arith)) (at.before j x d below h);
}

-- several bytes are written in a segment
pub memory-written : (ss : List LoadedSegment) (k : ℕ) (s : LoadedSegment) (a n w : ℕ) → IsAt ss k s → length s.bytes ≡ s.size
    → s.at ≤ a → a + w ≤ s.at + s.size
    → memory_of (set ss k (with_bytes s (written s.bytes (a - s.at) n w))) ≡ store_bytes (memory_of ss) a n w
unfolding written store_bytes
memory-written ss k s a n zero at long above below = ap memory_of (ap (set ss k) (sym at.is) ∙ set-get_or ss k s)
memory-written ss k s a n (suc w) at long above below =
    let s1 : LoadedSegment = with_bytes s (set s.bytes (a - s.at) (n % 256)) in
    let ss1 : List LoadedSegment = set ss k s1 in
    let put : memory_of ss1 ≡ put_at (memory_of ss) a (n % 256) = memory-put ss k s a (n % 256) at long (holds-true s a above (omega arith)) in
    let rest : memory_of (set ss1 k (with_bytes s1 (written s1.bytes (suc a - s.at) (n / 256) w))) ≡ store_bytes (memory_of ss1) (suc a) (n / 256) w =
    memory-written ss1 k s1 (suc a) (n / 256) w (at-set ss k s s1.bytes at) (length-set s.bytes (a - s.at) (n % 256) ∙ long) (omega arith) (omega arith) in
    let e : suc (a - s.at) ≡ suc a - s.at = omega arith in
    let place : ℕ → LoadedSegment = λ i. with_bytes s (written s1.bytes i (n / 256) w) in
    ap (λ i. memory_of (set ss k (place i))) e
    ∙ ap memory_of (sym (set-set ss k s1 (place (suc a - s.at))))
    ∙ rest ∙ ap (λ mem. store_bytes mem (suc a) (n / 256) w) put

-- the segments of blocks that are apart
pub is_at : (xs : List Block) (k : ℕ) (b : Block) → AllPairs AreApart (map outline_of xs) → k < length xs → get_or xs k b ≡ b
    → IsAt (map segment_of xs) k (segment_of b)
is_at xs k b apart within is = record {
  within = omega (arith, length-map xs segment_of);
  is = get_or-map segment_of xs k b (segment_of b) within ∙ ap segment_of is;
  before = λ j x d below h.
      let e : get_or (map segment_of xs) j d ≡ segment_of (get_or xs j b) = get_or-map segment_of xs j b d (omega arith) in
      rw e (false_from_ne_true (holds (segment_of (get_or xs j b)) x) (λ g.
      apart j k (outline_of b) below (omega (arith, length-map xs outline_of)) x
      (let first : get_or (map outline_of xs) j (outline_of b) ≡ outline_of (get_or xs j b) = get_or-map outline_of xs j b (outline_of b) (omega arith) in
      rw first (holds-above (segment_of (get_or xs j b)) x g, holds-below (segment_of (get_or xs j b)) x g))
      (let second : get_or (map outline_of xs) k (outline_of b) ≡ outline_of b = get_or-map outline_of xs k b (outline_of b) within ∙ ap outline_of is in
      rw second (holds-above (segment_of b) x h, holds-below (segment_of b) x h))));
}

-- flags say nothing of the bytes
flags-outline : (xs : List Block) (x : ℕ) → flags_of (map segment_of xs) x ≡ flags_of (map outline_of xs) x
unfolding flags_of
flags-outline [] x = refl
flags-outline (y ∷ ys) x = ap (cond (holds (segment_of y) x) y.flags) (flags-outline ys x)

pub flags-same : (xs ys : List Block) → map outline_of xs ≡ map outline_of ys → flags_of (map segment_of xs) ≡ flags_of (map segment_of ys)
flags-same xs ys e = fun_ext (λ x. flags-outline xs x ∙ ap (λ ss. flags_of ss x) e ∙ sym (flags-outline ys x))
