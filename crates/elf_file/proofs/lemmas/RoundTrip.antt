-- The file of an image loads as the image.
use Rattle.std.proofs.Common.{◌≡◌, ℕ, ◌+◌, ◌-◌, ◌≤◌, ◌<◌, ◌^◌, ◌==◌, ◌||◌, nat_le, Bool, true, false, if◌then◌else◌, List, [], ◌∷◌, ◌++◌, length, replicate, map, None, lit<, refl, arith, ap, ◌∙◌, length-append, append_assoc}
use Rattle.std.proofs.lemmas.List.{drop_at, take_at, take_all}
use Rattle.std.proofs.lemmas.Bool.{le-leb, le-ltb}
use Rattle.std.specs.List.{slice_range}
use Rattle.elf_file.specs.Image.{Sections, IsPlaced, text_at, next_page, data_size, memory_limit}
use Rattle.elf_file.specs.Header.{ProgramHeader}
use Rattle.elf_file.specs.Written.{fixed_offset, data_offset, text_header, fixed_header, data_header, program_headers, headers, padded, file_of}
use Rattle.elf_file.specs.Loading.{LoadedSegment, headers_end, is_contained, is_apart, are_separate, are_loadable, total_memory, file_limit, fault_of, segment_at, executable}
use Rattle.elf_file.specs.Laws.{text_segment, fixed_segment, data_segment, executable_for, WrittenLoads}
use Rattle.elf_file.proofs.WrittenLemmas.{le-next_page, headers-sections, lengths}
use Rattle.elf_file.proofs.ReadBack.{Read, read-headers}

-- the numbers of a placed image, with at most a page between its sections
pub record Places (i : Sections) : Type 0 where
  pub text_end : 65536 + length i.text ≤ i.fixed_at
  pub fixed_end : i.fixed_at + length i.fixed ≤ i.data_at
  pub text_file : 4096 + length i.text ≤ fixed_offset i
  pub fixed_file : fixed_offset i + length i.fixed ≤ data_offset i
  pub globals_size : length i.globals ≤ data_size i
  pub data_below : i.data_at < 2 ^ 32
  pub memory_end : i.data_at + data_size i ≤ 2 ^ 32
  pub file_end : data_offset i + length i.globals ≤ 268435456
  pub sum : length i.text + length i.fixed + data_size i ≤ 268435456

next_page-le : (n : ℕ) → next_page n ≤ n + 4095
next_page-le n = omega arith

places : (i : Sections) → IsPlaced i → Places i
places i p =
    let a = p.fixed_place in
    let a1 = le-next_page (65536 + length i.text) in
    let a2 = next_page-le (65536 + length i.text) in
    let b = p.globals_place in
    let b1 = le-next_page (i.fixed_at + length i.fixed) in
    let b2 = next_page-le (i.fixed_at + length i.fixed) in
    let c = p.stack_place in
    let c1 = le-next_page (i.data_at + length i.globals) in
    let d1 = le-next_page (4096 + length i.text) in
    let d2 = next_page-le (4096 + length i.text) in
    let e1 = le-next_page (fixed_offset i + length i.fixed) in
    let e2 = next_page-le (fixed_offset i + length i.fixed) in
    let sizes = p.sizes in
    record {
      text_end = omega arith;
      fixed_end = omega arith;
      text_file = d1;
      fixed_file = e1;
      globals_size = omega arith;
      data_below = omega arith;
      memory_end = omega arith;
      file_end = omega arith;
      sum = sizes;
    }

are_separate-two : (size : ℕ) (t d : ProgramHeader) → is_contained size t ≡ true → is_contained size d ≡ true → is_apart t d ≡ true
    → are_separate size (t ∷ d ∷ []) ≡ true
unfolding are_separate
are_separate-two size t d c1 c2 a = rw c1 rw c2 rw a refl

are_separate-three : (size : ℕ) (t f d : ProgramHeader) → is_contained size t ≡ true → is_contained size f ≡ true → is_contained size d ≡ true
    → is_apart t f ≡ true → is_apart t d ≡ true → is_apart f d ≡ true
    → are_separate size (t ∷ f ∷ d ∷ []) ≡ true
unfolding are_separate
are_separate-three size t f d c1 c2 c3 a b e = rw c1 rw c2 rw c3 rw a rw b rw e refl

or-third : (a b c d : Bool) → c ≡ true → (a || b || c || d) ≡ true
or-third true b c d e = refl
or-third false true c d e = refl
or-third false false c d e = rw e refl

apart-before : (a b : ProgramHeader) → a.at + a.memory_size ≤ b.at → is_apart a b ≡ true
unfolding is_apart
apart-before a b below = or-third (a.memory_size == 0) (b.memory_size == 0) _ (nat_le (b.at + b.memory_size) a.at) (le-leb (a.at + a.memory_size) b.at below)

contained : (size : ℕ) (h : ProgramHeader) → h.file_size ≤ h.memory_size → h.offset + h.file_size ≤ size → h.at + h.memory_size ≤ 2 ^ 32 → is_contained size h ≡ true
unfolding is_contained
contained size h a b c =
    rw (le-leb h.file_size h.memory_size a) rw (le-leb (h.offset + h.file_size) size b) rw (le-leb (h.at + h.memory_size) (2 ^ 32) c) refl

-- the middle of a list
part-of : (a x c : List ℕ) (n m : ℕ) → length a ≡ n → m ≡ n + length x → slice_range (a ++ (x ++ c)) n m ≡ x
part-of a x c n m len end =
    rw (drop_at a (x ++ c) n len) (take_at x c (m - n) (omega arith))

last-of : (a x : List ℕ) (n m : ℕ) → length a ≡ n → m ≡ n + length x → slice_range (a ++ x) n m ≡ x
last-of a x n m len end =
    rw (drop_at a x n len) (take_all (m - n) x (omega arith))

head-first : (h z t f g : List ℕ) → (h ++ z) ++ t ++ f ++ g ≡ h ++ (z ++ (t ++ (f ++ g)))
head-first h z t f g = append_assoc ((h ++ z) ++ t) f g ∙ append_assoc (h ++ z) t (f ++ g) ∙ append_assoc h z (t ++ (f ++ g))

text-between : (h t z f g : List ℕ) → h ++ (t ++ z) ++ f ++ g ≡ h ++ (t ++ (z ++ (f ++ g)))
text-between h t z f g = append_assoc (h ++ (t ++ z)) f g ∙ append_assoc h (t ++ z) (f ++ g) ∙ ap (λ l. h ++ l) (append_assoc t z (f ++ g))

fixed-between : (a f z g : List ℕ) → a ++ (f ++ z) ++ g ≡ a ++ (f ++ (z ++ g))
fixed-between a f z g = append_assoc a (f ++ z) g ∙ ap (λ l. a ++ l) (append_assoc f z g)

-- the bytes after a section, up to its page
gap : List ℕ → List ℕ
gap xs = replicate (next_page (length xs) - length xs) 0

text-back : (i : Sections) → slice_range (file_of i) 4096 (4096 + length i.text) ≡ i.text
unfolding file_of gap
text-back i =
    rw (text-between (padded (headers i)) i.text (gap i.text) (padded i.fixed) i.globals)
    (part-of (padded (headers i)) i.text (gap i.text ++ (padded i.fixed ++ i.globals)) 4096 (4096 + length i.text) (lengths i).head refl)

fixed-back : (i : Sections) → slice_range (file_of i) (fixed_offset i) (fixed_offset i + length i.fixed) ≡ i.fixed
unfolding file_of gap
fixed-back i =
    let before : List ℕ = padded (headers i) ++ padded i.text in
    rw (fixed-between before i.fixed (gap i.fixed) i.globals)
    (part-of before i.fixed (gap i.fixed ++ i.globals) (fixed_offset i) (fixed_offset i + length i.fixed) (lengths i).with_text refl)

globals-back : (i : Sections) → slice_range (file_of i) (data_offset i) (data_offset i + length i.globals) ≡ i.globals
unfolding file_of
globals-back i =
    let before : List ℕ = padded (headers i) ++ padded i.text ++ padded i.fixed in
    last-of before i.globals (data_offset i) (data_offset i + length i.globals) (lengths i).with_fixed refl

length-file : (i : Sections) → length (file_of i) ≡ data_offset i + length i.globals
unfolding file_of
length-file i =
    let before : List ℕ = padded (headers i) ++ padded i.text ++ padded i.fixed in
    length-append before i.globals ∙ ap (λ n. n + length i.globals) (lengths i).with_fixed

headers-back : (i : Sections) → Places i → Read (file_of i) (program_headers i)
unfolding file_of gap
headers-back i q =
    let rest : List ℕ = gap (headers i) ++ (padded i.text ++ (padded i.fixed ++ i.globals)) in
    let a = q.text_end in
    let b = q.fixed_end in
    let c = q.text_file in
    let d = q.fixed_file in
    let e = q.globals_size in
    let f = q.memory_end in
    let g = q.file_end in
    let h = q.sum in
    let k = q.data_below in
    read-headers (length i.fixed == 0) (text_header i) (fixed_header i) (data_header i) (file_of i) rest
    (record { kind = lit< tt; offset = lit< tt; at = lit< tt; file_size = omega arith; memory_size = omega arith; flags = lit< tt })
    (record { kind = lit< tt; offset = omega arith; at = omega arith; file_size = omega arith; memory_size = omega arith; flags = lit< tt })
    (record { kind = lit< tt; offset = omega arith; at = omega arith; file_size = omega arith; memory_size = omega arith; flags = lit< tt })
    refl refl refl
    (head-first (headers i) (gap (headers i)) (padded i.text) (padded i.fixed) i.globals ∙ ap (λ l. l ++ rest) (headers-sections i))

are_loadable-if : (size : ℕ) (b : Bool) (t f d : ProgramHeader) → is_contained size t ≡ true → is_contained size f ≡ true → is_contained size d ≡ true
    → is_apart t f ≡ true → is_apart t d ≡ true → is_apart f d ≡ true → t.memory_size + f.memory_size + d.memory_size ≤ memory_limit
    → are_loadable size (t ∷ (if b then [] else f ∷ []) ++ d ∷ []) ≡ true
unfolding are_loadable
are_loadable-if size true t f d c1 c2 c3 a1 a2 a3 sum =
    rw (are_separate-two size t d c1 c3 a2) rw (le-leb (total_memory (t ∷ d ∷ [])) memory_limit (omega arith)) refl
are_loadable-if size false t f d c1 c2 c3 a1 a2 a3 sum =
    rw (are_separate-three size t f d c1 c2 c3 a1 a2 a3) rw (le-leb (total_memory (t ∷ f ∷ d ∷ [])) memory_limit (omega arith)) refl

sound-file : (i : Sections) → Places i → fault_of (file_of i) ≡ None
unfolding fault_of
sound-file i q =
    let read = headers-back i q in
    let size = length (file_of i) in
    let long = length-file i in
    let a = q.text_end in
    let b = q.fixed_end in
    let c = q.text_file in
    let d = q.fixed_file in
    let e = q.globals_size in
    let f = q.memory_end in
    let g = q.file_end in
    let end = read.end in
    rw (le-ltb file_limit (length (file_of i)) (omega arith))
    rw (le-ltb (length (file_of i)) 52 (omega arith))
    rw read.magic rw read.profile
    rw (le-ltb (length (file_of i)) (headers_end (file_of i)) (omega arith))
    rw read.loads
    rw (are_loadable-if (length (file_of i)) (length i.fixed == 0) (text_header i) (fixed_header i) (data_header i)
    (contained (length (file_of i)) (text_header i) (omega arith) (omega arith) (omega arith))
    (contained (length (file_of i)) (fixed_header i) (omega arith) (omega arith) (omega arith))
    (contained (length (file_of i)) (data_header i) (omega arith) (omega arith) (omega arith))
    (apart-before (text_header i) (fixed_header i) (omega arith))
    (apart-before (text_header i) (data_header i) (omega arith))
    (apart-before (fixed_header i) (data_header i) (omega arith))
    q.sum)
    refl

segments-if : (bytes : List ℕ) (b : Bool) (t f d : ProgramHeader) (s1 s2 s3 : LoadedSegment)
    → segment_at bytes t ≡ s1 → segment_at bytes f ≡ s2 → segment_at bytes d ≡ s3
    → map (segment_at bytes) (t ∷ (if b then [] else f ∷ []) ++ d ∷ []) ≡ s1 ∷ (if b then [] else s2 ∷ []) ++ s3 ∷ []
segments-if bytes true t f d s1 s2 s3 e1 e2 e3 = rw e1 rw e3 refl
segments-if bytes false t f d s1 s2 s3 e1 e2 e3 = rw e1 rw e2 rw e3 refl

same-segment : (at size flags : ℕ) (bytes part : List ℕ) → bytes ≡ part
    → Path LoadedSegment (record { at = at; size = size; flags = flags; bytes = bytes }) (record { at = at; size = size; flags = flags; bytes = part })
same-segment at size flags bytes part e = rw e refl

executable-back : (i : Sections) → Places i → executable (file_of i) ≡ executable_for i
unfolding executable executable_for
executable-back i q =
    let read = headers-back i q in
    rw read.entry rw read.loads
    rw (segments-if (file_of i) (length i.fixed == 0) (text_header i) (fixed_header i) (data_header i)
    (text_segment i) (fixed_segment i) (data_segment i)
    (same-segment text_at (length i.text) 5 _ i.text (text-back i))
    (same-segment i.fixed_at (length i.fixed) 4 _ i.fixed (fixed-back i))
    (same-segment i.data_at (data_size i) 6 _ i.globals (globals-back i)))
    refl

pub written_loads : WrittenLoads
written_loads i p =
    let q = places i p in
    rw (sound-file i q) rw (executable-back i q) refl
