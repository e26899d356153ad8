-- The file of an image as it grows, section by section.
use Rattle.std.proofs.Common.{◌≡◌, ℕ, ◌+◌, ◌-◌, ◌≤◌, ◌==◌, Bool, true, false, if◌then◌else◌, List, [], ◌∷◌, ◌++◌, length, take, replicate, refl, arith, sym, ap, ◌∙◌, length-append, append_assoc}
use Rattle.std.proofs.lemmas.List.{take_all, length-replicate, append-nil}
use Rattle.elf_file.specs.Image.{Sections, text_at, next_page}
use Rattle.std.specs.List.{flat_map}
use Rattle.elf_file.specs.Header.{ProgramHeader, elf_header, program_header}
use Rattle.elf_file.specs.Written.{program_headers, text_header, fixed_header, fixed_headers, data_header, headers, padded, file_of, fixed_offset, data_offset}

pub next_page-add : (m n : ℕ) → m ≡ next_page m → next_page (m + n) ≡ m + next_page n
next_page-add m n whole = omega arith

pub le-next_page : (n : ℕ) → n ≤ next_page n
le-next_page n = omega arith

pub length-padded : (xs : List ℕ) → length (padded xs) ≡ next_page (length xs)
length-padded xs =
    let small = le-next_page (length xs) in
    rw (length-append xs (replicate (next_page (length xs) - length xs) 0))
    rw (length-replicate {A = ℕ} (next_page (length xs) - length xs) 0)
    (omega arith)

-- a file of whole pages, a section, and the zeros up to the next page
pub grown : (xs ys : List ℕ) (n : ℕ) → length xs ≡ next_page (length xs) → n ≡ next_page (length xs + length ys)
    → take n (xs ++ ys) ++ replicate (n - length (xs ++ ys)) 0 ≡ xs ++ padded ys
grown xs ys n whole e =
    let small = le-next_page (length xs + length ys) in
    let longer = length-append xs ys in
    let kept : take n (xs ++ ys) ≡ xs ++ ys = take_all n (xs ++ ys) (omega arith) in
    let shift = next_page-add (length xs) (length ys) whole in
    let gap : n - length (xs ++ ys) ≡ next_page (length ys) - length ys = omega arith in
    rw kept rw gap (append_assoc xs ys (replicate (next_page (length ys) - length ys) 0))

pub length-elf_header : (entry n : ℕ) → length (elf_header entry n) ≡ 52
unfolding elf_header
length-elf_header entry n = refl

pub length-program_header : (h : ProgramHeader) → length (program_header h) ≡ 32
unfolding program_header
length-program_header h = refl

-- the headers one after the other
headers-if : (b : Bool) (t f d : ProgramHeader)
    → flat_map program_header (t ∷ (if b then [] else f ∷ []) ++ d ∷ [])
    ≡ program_header t ++ (flat_map program_header (if b then [] else f ∷ []) ++ program_header d)
headers-if true t f d = ap (λ l. program_header t ++ l) (append-nil (program_header d))
headers-if false t f d = rw (append-nil (program_header f)) (ap (λ l. program_header t ++ (program_header f ++ l)) (append-nil (program_header d)))

pub headers-sections : (i : Sections) → headers i
    ≡ elf_header text_at (length (program_headers i))
    ++ program_header (text_header i) ++ flat_map program_header (fixed_headers i) ++ program_header (data_header i)
unfolding headers
headers-sections i =
    let start : List ℕ = elf_header text_at (length (program_headers i)) in
    let text : List ℕ = program_header (text_header i) in
    let fixed : List ℕ = flat_map program_header (fixed_headers i) in
    let globals : List ℕ = program_header (data_header i) in
    ap (λ l. start ++ l) (headers-if (length i.fixed == 0) (text_header i) (fixed_header i) (data_header i))
    ∙ sym (append_assoc start text (fixed ++ globals))
    ∙ sym (append_assoc (start ++ text) fixed globals)

length-fixed_headers : (b : Bool) (f : ProgramHeader) → length (flat_map program_header (if b then [] else f ∷ [])) ≤ 32
length-fixed_headers true f = omega arith
length-fixed_headers false f =
    let size = length-program_header f in
    rw (append-nil (program_header f)) (omega arith)

pub record IsShort (xs : List ℕ) : Type 0 where
  pub some : 1 ≤ length xs
  pub few : length xs ≤ 148

pub length-headers : (i : Sections) → IsShort (headers i)
length-headers i =
    let first = length-elf_header text_at (length (program_headers i)) in
    let second = length-program_header (text_header i) in
    let third = length-fixed_headers (length i.fixed == 0) (fixed_header i) in
    let fourth = length-program_header (data_header i) in
    let start : List ℕ = elf_header text_at (length (program_headers i)) in
    let text : List ℕ = program_header (text_header i) in
    let fixed : List ℕ = flat_map program_header (fixed_headers i) in
    let globals : List ℕ = program_header (data_header i) in
    let sum_1 = length-append start text in
    let sum_2 = length-append (start ++ text) fixed in
    let sum_3 = length-append (start ++ text ++ fixed) globals in
    rw (headers-sections i) (record { some = omega arith; few = omega arith })

next-part : (xs ys f g : List ℕ) (n : ℕ) → f ≡ xs ++ ys → g ≡ take n f ++ replicate (n - length f) 0
    → length xs ≡ next_page (length xs) → n ≡ next_page (length xs + length ys) → g ≡ xs ++ padded ys
next-part xs ys f g n made filled whole e = rw filled rw made (grown xs ys n whole e)

length-next : (xs ys : List ℕ) → length xs ≡ next_page (length xs) → length (xs ++ padded ys) ≡ next_page (length xs + length ys)
length-next xs ys whole =
    let shift = next_page-add (length xs) (length ys) whole in
    let part = length-padded ys in
    rw (length-append xs (padded ys)) (omega arith)

next_page-again : (m n : ℕ) → m ≡ next_page n → m ≡ next_page m
next_page-again m n e = omega arith

-- the lengths of the file up to each section
pub record Lengths (i : Sections) : Type 0 where
  pub head : length (padded (headers i)) ≡ 4096
  pub with_text : length (padded (headers i) ++ padded i.text) ≡ fixed_offset i
  pub with_fixed : length (padded (headers i) ++ padded i.text ++ padded i.fixed) ≡ data_offset i

pub lengths : (i : Sections) → Lengths i
lengths i =
    let low = (length-headers i).some in
    let high = (length-headers i).few in
    let page : 4096 ≡ next_page (length (headers i)) = omega arith in
    let head : List ℕ = padded (headers i) in
    let with_text : List ℕ = head ++ padded i.text in
    let n1 : length head ≡ 4096 = length-padded (headers i) ∙ sym page in
    let w1 : length head ≡ next_page (length head) = next_page-again (length head) (length (headers i)) (length-padded (headers i)) in
    let n2 : length with_text ≡ fixed_offset i = length-next head i.text w1 ∙ rw n1 refl in
    let w2 : length with_text ≡ next_page (length with_text) = next_page-again (length with_text) (4096 + length i.text) n2 in
    record { head = n1; with_text = n2; with_fixed = length-next with_text i.fixed w2 ∙ rw n2 refl }

-- the file after each of its sections: f2, f4 and f6 are filled up to a page
pub file-grown : (i : Sections) (f1 f2 f3 f4 f5 f6 f7 : List ℕ) → f1 ≡ headers i
    → f2 ≡ take 4096 f1 ++ replicate (4096 - length f1) 0
    → f3 ≡ f2 ++ i.text
    → f4 ≡ take (fixed_offset i) f3 ++ replicate (fixed_offset i - length f3) 0
    → f5 ≡ f4 ++ i.fixed
    → f6 ≡ take (data_offset i) f5 ++ replicate (data_offset i - length f5) 0
    → f7 ≡ f6 ++ i.globals
    → f7 ≡ file_of i
unfolding file_of
file-grown i f1 f2 f3 f4 f5 f6 f7 e1 e2 e3 e4 e5 e6 e7 =
    let low = (length-headers i).some in
    let high = (length-headers i).few in
    let page : 4096 ≡ next_page (0 + length (headers i)) = omega arith in
    let head : List ℕ = padded (headers i) in
    let with_text : List ℕ = head ++ padded i.text in
    let s2 : f2 ≡ head = next-part [] (headers i) f1 f2 4096 e1 e2 refl page in
    let n2 : length head ≡ 4096 = (lengths i).head in
    let w2 : length head ≡ next_page (length head) = next_page-again (length head) (length (headers i)) (length-padded (headers i)) in
    let s3 : f3 ≡ head ++ i.text = e3 ∙ ap (λ f. f ++ i.text) s2 in
    let s4 : f4 ≡ with_text = next-part head i.text f3 f4 (fixed_offset i) s3 e4 w2 (rw n2 refl) in
    let n4 : length with_text ≡ fixed_offset i = (lengths i).with_text in
    let w4 : length with_text ≡ next_page (length with_text) = next_page-again (length with_text) (4096 + length i.text) n4 in
    let s5 : f5 ≡ with_text ++ i.fixed = e5 ∙ ap (λ f. f ++ i.fixed) s4 in
    let s6 : f6 ≡ with_text ++ padded i.fixed = next-part with_text i.fixed f5 f6 (data_offset i) s5 e6 w4 (rw n4 refl) in
    e7 ∙ ap (λ f. f ++ i.globals) s6

-- what a resize leaves, at the length that was asked for
pub filled : (f g : List ℕ) (n m k : ℕ) → n ≡ m → k ≡ length f → g ≡ take n f ++ replicate (n - k) 0 → g ≡ take m f ++ replicate (m - length f) 0
filled f g n m k same len made = made ∙ ap (λ x. take x f ++ replicate (x - k) 0) same ∙ ap (λ x. take m f ++ replicate (m - x) 0) len
