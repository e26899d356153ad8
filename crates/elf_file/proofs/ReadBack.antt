-- The headers that were written, as they are read.
use Rattle.std.proofs.Common.{◌≡◌, ℕ, ◌+◌, ◌≤◌, ◌<◌, ◌^◌, Bool, true, false, if◌then◌else◌, List, [], ◌∷◌, ◌++◌, length, slice_index, refl, arith, sym, ap, ◌∙◌, append_assoc, length-append}
use Rattle.std.specs.List.{flat_map}
use Rattle.std.proofs.lemmas.List.{append-nil}
use Rattle.std.proofs.lemmas.List.{get_or-append_right}
use Rattle.std.proofs.lemmas.Nat.{from_le_bytes-to_le_bytes_4}
use Rattle.elf_file.specs.Image.{text_at}
use Rattle.elf_file.specs.Header.{ProgramHeader, word_at, half_at, elf_header, program_header, header_at}
use Rattle.elf_file.specs.Loading.{has_magic, is_profile, headers_start, header_count, headers_end, headers_from, loads_from, load_headers}
use Rattle.elf_file.proofs.WrittenLemmas.{length-elf_header, length-program_header}

index-append : (pre xs : List ℕ) (at k m : ℕ) → length pre ≡ at → k ≡ at + m → slice_index (pre ++ xs) k ≡ slice_index xs m
index-append pre xs at k m len place =
    get_or-append_right pre xs at k 0 len (omega arith) ∙ ap (slice_index xs) (omega arith)

word_at-append : (pre xs : List ℕ) (at k m : ℕ) → length pre ≡ at → k ≡ at + m → word_at (pre ++ xs) k ≡ word_at xs m
unfolding word_at
word_at-append pre xs at k m len place =
    rw (index-append pre xs at k m len place)
    rw (index-append pre xs at (k + 1) (m + 1) len (omega arith))
    rw (index-append pre xs at (k + 2) (m + 2) len (omega arith))
    rw (index-append pre xs at (k + 3) (m + 3) len (omega arith))
    refl

header-eq : (h : ProgramHeader) (k o a f m l : ℕ) → k ≡ h.kind → o ≡ h.offset → a ≡ h.at → f ≡ h.file_size → m ≡ h.memory_size → l ≡ h.flags
    → Path ProgramHeader (record { kind = k; offset = o; at = a; file_size = f; memory_size = m; flags = l }) h
header-eq h k o a f m l e1 e2 e3 e4 e5 e6 = rw e1 rw e2 rw e3 rw e4 rw e5 rw e6 refl

pub header_at-append : (pre xs : List ℕ) (at : ℕ) → length pre ≡ at → header_at (pre ++ xs) at ≡ header_at xs 0
unfolding header_at
header_at-append pre xs at len =
    rw (word_at-append pre xs at at 0 len (omega arith))
    rw (word_at-append pre xs at (at + 4) 4 len refl)
    rw (word_at-append pre xs at (at + 8) 8 len refl)
    rw (word_at-append pre xs at (at + 16) 16 len refl)
    rw (word_at-append pre xs at (at + 20) 20 len refl)
    rw (word_at-append pre xs at (at + 24) 24 len refl)
    refl

-- each number fits a word
pub record FitsWords (h : ProgramHeader) : Type 0 where
  pub kind : h.kind < 2 ^ 32
  pub offset : h.offset < 2 ^ 32
  pub at : h.at < 2 ^ 32
  pub file_size : h.file_size < 2 ^ 32
  pub memory_size : h.memory_size < 2 ^ 32
  pub flags : h.flags < 2 ^ 32

pub header_at-program_header : (h : ProgramHeader) (xs : List ℕ) → FitsWords h → header_at (program_header h ++ xs) 0 ≡ h
unfolding header_at program_header word_at
header_at-program_header h xs fits =
    header-eq h _ _ _ _ _ _
    (from_le_bytes-to_le_bytes_4 h.kind fits.kind)
    (from_le_bytes-to_le_bytes_4 h.offset fits.offset)
    (from_le_bytes-to_le_bytes_4 h.at fits.at)
    (from_le_bytes-to_le_bytes_4 h.file_size fits.file_size)
    (from_le_bytes-to_le_bytes_4 h.memory_size fits.memory_size)
    (from_le_bytes-to_le_bytes_4 h.flags fits.flags)

pub header-back : (pre xs : List ℕ) (at : ℕ) (h : ProgramHeader) → length pre ≡ at → FitsWords h → header_at (pre ++ (program_header h ++ xs)) at ≡ h
header-back pre xs at h len fits = header_at-append pre (program_header h ++ xs) at len ∙ header_at-program_header h xs fits

-- what is read of the header of a file with this many program headers
pub record ReadsBack (bytes : List ℕ) (n : ℕ) : Type 0 where
  pub magic : has_magic bytes ≡ true
  pub profile : is_profile bytes ≡ true
  pub entry : word_at bytes 24 ≡ text_at
  pub start : headers_start bytes ≡ 52
  pub count : header_count bytes ≡ n

pub two-back : (xs : List ℕ) → ReadsBack (elf_header text_at 2 ++ xs) 2
unfolding elf_header is_profile word_at half_at
two-back xs = record { magic = refl; profile = refl; entry = refl; start = refl; count = refl }

pub three-back : (xs : List ℕ) → ReadsBack (elf_header text_at 3 ++ xs) 3
unfolding elf_header is_profile word_at half_at
three-back xs = record { magic = refl; profile = refl; entry = refl; start = refl; count = refl }

-- the headers of segments that are loaded, two of them or three
two-loads : (t d : ProgramHeader) (xs : List ℕ) → FitsWords t → FitsWords d → t.kind ≡ 1 → d.kind ≡ 1
    → load_headers (elf_header text_at 2 ++ (program_header t ++ (program_header d ++ xs))) ≡ t ∷ d ∷ []
unfolding loads_from headers_from
two-loads t d xs fits_t fits_d load_t load_d =
    let start : List ℕ = elf_header text_at 2 in
    let bytes : List ℕ = start ++ (program_header t ++ (program_header d ++ xs)) in
    let back = two-back (program_header t ++ (program_header d ++ xs)) in
    let n1 = length-elf_header text_at 2 in
    let n2 : length (start ++ program_header t) ≡ 84 = length-append start (program_header t) ∙ rw n1 rw (length-program_header t) refl in
    let at_1 : header_at bytes 52 ≡ t = header-back start (program_header d ++ xs) 52 t n1 fits_t in
    let at_2 : header_at bytes 84 ≡ d =
    ap (λ l. header_at l 84) (sym (append_assoc start (program_header t) (program_header d ++ xs)))
    ∙ header-back (start ++ program_header t) xs 84 d n2 fits_d in
    rw back.start rw back.count rw at_1 rw at_2 rw load_t rw load_d refl

three-loads : (t f d : ProgramHeader) (xs : List ℕ) → FitsWords t → FitsWords f → FitsWords d → t.kind ≡ 1 → f.kind ≡ 1 → d.kind ≡ 1
    → load_headers (elf_header text_at 3 ++ (program_header t ++ (program_header f ++ (program_header d ++ xs)))) ≡ t ∷ f ∷ d ∷ []
unfolding loads_from headers_from
three-loads t f d xs fits_t fits_f fits_d load_t load_f load_d =
    let start : List ℕ = elf_header text_at 3 in
    let second : List ℕ = start ++ program_header t in
    let rest : List ℕ = program_header d ++ xs in
    let bytes : List ℕ = start ++ (program_header t ++ (program_header f ++ rest)) in
    let back = three-back (program_header t ++ (program_header f ++ rest)) in
    let n1 = length-elf_header text_at 3 in
    let n2 : length second ≡ 84 = length-append start (program_header t) ∙ rw n1 rw (length-program_header t) refl in
    let n3 : length (second ++ program_header f) ≡ 116 = length-append second (program_header f) ∙ rw n2 rw (length-program_header f) refl in
    let at_1 : header_at bytes 52 ≡ t = header-back start (program_header f ++ rest) 52 t n1 fits_t in
    let grouped = sym (append_assoc start (program_header t) (program_header f ++ rest)) in
    let at_2 : header_at bytes 84 ≡ f = ap (λ l. header_at l 84) grouped ∙ header-back second rest 84 f n2 fits_f in
    let at_3 : header_at bytes 116 ≡ d =
    ap (λ l. header_at l 116) (grouped ∙ sym (append_assoc second (program_header f) rest))
    ∙ header-back (second ++ program_header f) xs 116 d n3 fits_d in
    rw back.start rw back.count rw at_1 rw at_2 rw at_3 rw load_t rw load_f rw load_d refl

-- what is read of a file that begins with these headers
pub record Read (bytes : List ℕ) (hs : List ProgramHeader) : Type 0 where
  pub magic : has_magic bytes ≡ true
  pub profile : is_profile bytes ≡ true
  pub entry : word_at bytes 24 ≡ text_at
  pub end : headers_end bytes ≤ 148
  pub loads : load_headers bytes ≡ hs

two-grouped : (s t d xs : List ℕ) → s ++ t ++ [] ++ d ++ xs ≡ s ++ (t ++ (d ++ xs))
two-grouped s t d xs = rw (append-nil (s ++ t)) (append_assoc (s ++ t) d xs ∙ append_assoc s t (d ++ xs))

three-grouped : (s t f d xs : List ℕ) → s ++ t ++ (f ++ []) ++ d ++ xs ≡ s ++ (t ++ (f ++ (d ++ xs)))
three-grouped s t f d xs =
    rw (append-nil f) (append_assoc (s ++ t ++ f) d xs ∙ append_assoc (s ++ t) f (d ++ xs) ∙ append_assoc s t (f ++ (d ++ xs)))

pub read-headers : (b : Bool) (t f d : ProgramHeader) (bytes xs : List ℕ) → FitsWords t → FitsWords f → FitsWords d
    → t.kind ≡ 1 → f.kind ≡ 1 → d.kind ≡ 1
    → bytes ≡ elf_header text_at (length (t ∷ (if b then [] else f ∷ []) ++ d ∷ [])) ++ program_header t
    ++ flat_map program_header (if b then [] else f ∷ []) ++ program_header d ++ xs
    → Read bytes (t ∷ (if b then [] else f ∷ []) ++ d ∷ [])
read-headers true t f d bytes xs fits_t fits_f fits_d load_t load_f load_d is =
    let rest : List ℕ = program_header t ++ (program_header d ++ xs) in
    let grouped : bytes ≡ elf_header text_at 2 ++ rest = is ∙ two-grouped (elf_header text_at 2) (program_header t) (program_header d) xs in
    let back = two-back rest in
    rw grouped (record {
      magic = back.magic;
      profile = back.profile;
      entry = back.entry;
      end = rw back.start rw back.count (omega arith);
      loads = two-loads t d xs fits_t fits_d load_t load_d;
    })
read-headers false t f d bytes xs fits_t fits_f fits_d load_t load_f load_d is =
    let rest : List ℕ = program_header t ++ (program_header f ++ (program_header d ++ xs)) in
    let grouped : bytes ≡ elf_header text_at 3 ++ rest =
    is ∙ three-grouped (elf_header text_at 3) (program_header t) (program_header f) (program_header d) xs in
    let back = three-back rest in
    rw grouped (record {
      magic = back.magic;
      profile = back.profile;
      entry = back.entry;
      end = rw back.start rw back.count (omega arith);
      loads = three-loads t f d xs fits_t fits_f fits_d load_t load_f load_d;
    })
