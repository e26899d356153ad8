-- The segments of an executable, as sets of addresses.
use Rattle.std.proofs.Common.{◌≡◌, ◌<◌, ℕ, zero, suc, ◌+◌, ◌-◌, ◌≤◌, ◌^◌, ◌==◌, ◌&&◌, ◌||◌, Bool, true, false, inl, inr, List, [], ◌∷◌, length, map, drop, All, AllPairs, sum_by, Option, Some, None, Ok, is_none, refl, arith, sym, ap, ◌∙◌, nat_le}
use Rattle.std.proofs.lemmas.Bool.{and_parts, or_parts, or_cases, leb-true, leb-false, eqb-true, eqb-false}
use Rattle.std.proofs.lemmas.List.{length-map, length-take}
use Rattle.std.proofs.lemmas.List.Sums.{sum_by-cons, length-filter, count_by-le-length}
use Rattle.std.proofs.lemmas.List.Kept.{AllPairs-cons}
use Rattle.std.specs.List.{list_all}
use Rattle.std.specs.Result.{result_unwrap_or}
use Rattle.elf_file.specs.declared.fault.ElfFault.{ElfFault}
use Rattle.elf_file.specs.Header.{ProgramHeader}
use Rattle.elf_file.specs.Loading.{Executable, is_contained, is_apart, are_separate, total_memory, load_headers, loads_from, headers_from, headers_start, header_count, is_load, segment_at, executable, fault_of, unless_fault}
use Rattle.elf_file.specs.Segments.{IsContained, AreApart, AreSound}
use Rattle.elf_file.specs.Laws.{LoadedIsSound, OverlapHasAddress}
use Rattle.elf_file.proofs.SoundLemmas.{is_sound}

pub segment-contained : (bytes : List ℕ) (h : ProgramHeader) (size : ℕ) → is_contained size h ≡ true → IsContained (segment_at bytes h)
unfolding is_contained
segment-contained bytes h size e =
    let parts : Bool = nat_le h.file_size h.memory_size && nat_le (h.offset + h.file_size) size in
    let whole : Bool = nat_le (h.at + h.memory_size) (2 ^ 32) in
    let both : parts ≡ true = (and_parts parts whole e).0 in
    let small : h.file_size ≤ h.memory_size = leb-true h.file_size h.memory_size (and_parts _ (nat_le (h.offset + h.file_size) size) both).0 in
    let end : h.at + h.memory_size ≤ 2 ^ 32 = leb-true (h.at + h.memory_size) (2 ^ 32) (and_parts parts whole e).1 in
    let part = length-take (h.offset + h.file_size - h.offset) (drop h.offset bytes) in
    record { part = omega arith; end = end }

segments-apart : (bytes : List ℕ) (a b : ProgramHeader) → is_apart a b ≡ true → AreApart (segment_at bytes a) (segment_at bytes b)
unfolding is_apart
segments-apart bytes a b e address in_a in_b =
    let from_a = in_a.0 in
    let to_a = in_a.1 in
    let from_b = in_b.0 in
    let to_b = in_b.1 in
    let none_a : Bool = a.memory_size == 0 in
    let none_b : Bool = b.memory_size == 0 in
    let a_first : Bool = nat_le (a.at + a.memory_size) b.at in
    let b_first : Bool = nat_le (b.at + b.memory_size) a.at in
    elim (or_cases (none_a || none_b || a_first) b_first e) [
      | inr after ↦ (let below = leb-true (b.at + b.memory_size) a.at after in omega arith)
      | inl rest ↦ elim (or_cases (none_a || none_b) a_first rest) [
        | inr before ↦ (let below = leb-true (a.at + a.memory_size) b.at before in omega arith)
        | inl empty ↦ elim (or_cases none_a none_b empty) [
          | inl first ↦ (let none = eqb-true a.memory_size 0 first in omega arith)
          | inr second ↦ (let none = eqb-true b.memory_size 0 second in omega arith)
        ]
      ]
    ]

all-contained : (bytes : List ℕ) (size : ℕ) (hs : List ProgramHeader) → are_separate size hs ≡ true → All IsContained (map (segment_at bytes) hs)
unfolding are_separate
all-contained bytes size [] e k d below = omega arith
all-contained bytes size (h ∷ hs) e zero d below = segment-contained bytes h size (and_parts _ _ (and_parts _ _ e).0).0
all-contained bytes size (h ∷ hs) e (suc k) d below = all-contained bytes size hs (and_parts _ _ e).1 k d (omega arith)

all-apart : (bytes : List ℕ) (h : ProgramHeader) (hs : List ProgramHeader) → list_all (is_apart h) hs ≡ true
    → All (AreApart (segment_at bytes h)) (map (segment_at bytes) hs)
all-apart bytes h [] e k d below = omega arith
all-apart bytes h (x ∷ xs) e zero d below = segments-apart bytes h x (and_parts _ _ e).0
all-apart bytes h (x ∷ xs) e (suc k) d below = all-apart bytes h xs (and_parts _ _ e).1 k d (omega arith)

pairs-apart : (bytes : List ℕ) (size : ℕ) (hs : List ProgramHeader) → are_separate size hs ≡ true → AllPairs AreApart (map (segment_at bytes) hs)
unfolding are_separate
pairs-apart bytes size [] e = λ i j d before below. omega arith
pairs-apart bytes size (h ∷ hs) e =
    AllPairs-cons AreApart (segment_at bytes h) (map (segment_at bytes) hs)
    (all-apart bytes h hs (and_parts _ _ (and_parts _ _ e).0).1)
    (pairs-apart bytes size hs (and_parts _ _ e).1)

sum-sizes : (bytes : List ℕ) (hs : List ProgramHeader) → sum_by (λ s. s.size) (map (segment_at bytes) hs) ≡ total_memory hs
sum-sizes bytes [] = refl
sum-sizes bytes (h ∷ hs) =
    sum_by-cons (λ s. s.size) (segment_at bytes h) (map (segment_at bytes) hs)
    ∙ ap (λ n. h.memory_size + n) (sum-sizes bytes hs)
    ∙ sym (sum_by-cons (λ x. x.memory_size) h hs)

length-headers_from : (bytes : List ℕ) (at n : ℕ) → length (headers_from bytes at n) ≡ n
unfolding headers_from
length-headers_from bytes at zero = refl
length-headers_from bytes at (suc n) = ap (λ k. suc k) (length-headers_from bytes (at + 32) n)

pub segments-sound : (bytes : List ℕ) → is_none (fault_of bytes) ≡ true → AreSound (executable bytes).segments
unfolding executable loads_from
segments-sound bytes e =
    let sound = is_sound bytes e in
    let all : List ProgramHeader = headers_from bytes (headers_start bytes) (header_count bytes) in
    let mapped = length-map (load_headers bytes) (segment_at bytes) in
    let few = sound.few in
    let some = length-filter is_load all in
    let most = count_by-le-length is_load all in
    let many = length-headers_from bytes (headers_start bytes) (header_count bytes) in
    record {
      few = omega arith;
      contained = all-contained bytes (length bytes) (load_headers bytes) sound.separate;
      apart = pairs-apart bytes (length bytes) (load_headers bytes) sound.separate;
      memory = rw (sum-sizes bytes (load_headers bytes)) sound.memory;
    }

ok-only : (o : Option ElfFault) (x e : Executable) → unless_fault o x ≡ Ok e → (is_none o ≡ true) × (x ≡ e)
ok-only None x e is = (refl, ap (λ r. result_unwrap_or r x) is)
ok-only (Some f) x e is = cc

pub loaded_is_sound : LoadedIsSound
loaded_is_sound bytes e is =
    let both = ok-only (fault_of bytes) (executable bytes) e is in
    rw (sym both.1) (segments-sound bytes both.0)

later-start : (a b : ProgramHeader) (t : Bool) → nat_le a.at b.at ≡ t → 0 < a.memory_size → 0 < b.memory_size
    → b.at < a.at + a.memory_size → a.at < b.at + b.memory_size
    → (address : ℕ) × (a.at ≤ address) × (address < a.at + a.memory_size) × (b.at ≤ address) × (address < b.at + b.memory_size)
later-start a b true first some_a some_b end_a end_b =
    let order : a.at ≤ b.at = leb-true a.at b.at first in
    (b.at, order, end_a, omega arith, omega arith)
later-start a b false first some_a some_b end_a end_b =
    let order : b.at < a.at = leb-false a.at b.at first in
    (a.at, omega arith, omega arith, omega arith, end_b)

pub overlap_has_address : OverlapHasAddress
unfolding is_apart
overlap_has_address a b e =
    let none_a : Bool = a.memory_size == 0 in
    let none_b : Bool = b.memory_size == 0 in
    let a_first : Bool = nat_le (a.at + a.memory_size) b.at in
    let b_first : Bool = nat_le (b.at + b.memory_size) a.at in
    let last = or_parts (none_a || none_b || a_first) b_first e in
    let third = or_parts (none_a || none_b) a_first last.0 in
    let sizes = or_parts none_a none_b third.0 in
    let some_a = eqb-false a.memory_size 0 sizes.0 in
    let some_b = eqb-false b.memory_size 0 sizes.1 in
    later-start a b (nat_le a.at b.at) refl (omega arith) (omega arith)
    (leb-false (a.at + a.memory_size) b.at third.1)
    (leb-false (b.at + b.memory_size) a.at last.1)
