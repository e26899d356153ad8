-- The headers of loaded segments, one after the other.
use Rattle.std.proofs.Common.{◌≡◌, ◌≢◌, ℕ, zero, suc, ◌+◌, ◌-◌, ◌*◌, ◌≤◌, ◌<◌, ◌&&◌, Bool, true, false, Some, length, slice_get, List, [], ◌∷◌, refl, eq-eqb, arith, sym, ap, ◌∙◌}
use Rattle.std.proofs.lemmas.Bool.{and_parts, ne_eqb, leb-true}
use Rattle.std.proofs.lemmas.List.Sums.{sum_by-cons}
use Rattle.std.specs.List.{list_all}
use Rattle.elf_file.specs.Header.{ProgramHeader, header_at}
use Rattle.elf_file.specs.Loading.{is_load, is_contained, is_apart, are_separate, total_memory, headers_from, loads_from, is_profile, header_count}

loads_from-suc : (b : List ℕ) (at n : ℕ) → is_load (header_at b at) ≡ true → loads_from b at (suc n) ≡ header_at b at ∷ loads_from b (at + 32) n
unfolding headers_from loads_from
loads_from-suc b at n load = rw load refl

loads_from-suc_other : (b : List ℕ) (at n : ℕ) → is_load (header_at b at) ≡ false → loads_from b at (suc n) ≡ loads_from b (at + 32) n
unfolding headers_from loads_from
loads_from-suc_other b at n other = rw other refl

loads_from-same : (b : List ℕ) (at at' n n' : ℕ) → at ≡ at' → n ≡ n' → loads_from b at n ≡ loads_from b at' n'
loads_from-same b at at' n n' e f = rw e rw f refl

-- before the header k of n
pub loads_from-load : (b : List ℕ) (at n k : ℕ) → k < n → is_load (header_at b (at + 32 * k)) ≡ true
    → loads_from b (at + 32 * k) (n - k) ≡ header_at b (at + 32 * k) ∷ loads_from b (at + 32 * (k + 1)) (n - (k + 1))
loads_from-load b at n k below load =
    let here : List ProgramHeader → List ProgramHeader = λ hs. header_at b (at + 32 * k) ∷ hs in
    loads_from-same b (at + 32 * k) (at + 32 * k) (n - k) (suc (n - (k + 1))) refl (omega arith)
    ∙ loads_from-suc b (at + 32 * k) (n - (k + 1)) load
    ∙ ap here (loads_from-same b (at + 32 * k + 32) (at + 32 * (k + 1)) (n - (k + 1)) (n - (k + 1)) (omega arith) refl)

pub loads_from-other : (b : List ℕ) (at n k : ℕ) → k < n → is_load (header_at b (at + 32 * k)) ≡ false
    → loads_from b (at + 32 * k) (n - k) ≡ loads_from b (at + 32 * (k + 1)) (n - (k + 1))
loads_from-other b at n k below other =
    loads_from-same b (at + 32 * k) (at + 32 * k) (n - k) (suc (n - (k + 1))) refl (omega arith)
    ∙ loads_from-suc_other b (at + 32 * k) (n - (k + 1)) other
    ∙ loads_from-same b (at + 32 * k + 32) (at + 32 * (k + 1)) (n - (k + 1)) (n - (k + 1)) (omega arith) refl

pub loads_from-start : (b : List ℕ) (at n : ℕ) → loads_from b (at + 32 * 0) (n - 0) ≡ loads_from b at n
loads_from-start b at n = loads_from-same b (at + 32 * 0) at (n - 0) n (omega arith) (omega arith)

loads_from-zero : (b : List ℕ) (at : ℕ) → loads_from b at 0 ≡ []
unfolding headers_from loads_from
loads_from-zero b at = refl

pub loads_from-end : (b : List ℕ) (at n k : ℕ) → n ≤ k → loads_from b (at + 32 * k) (n - k) ≡ []
loads_from-end b at n k past = loads_from-same b (at + 32 * k) (at + 32 * k) (n - k) 0 refl (omega arith) ∙ loads_from-zero b (at + 32 * k)

-- a test of each of them
pub all-bad : (p : ProgramHeader → Bool) (b : List ℕ) (at n k : ℕ) (h : ProgramHeader) → h ≡ header_at b (at + 32 * k) → k < n → h.kind ≡ 1
    → p h ≡ false → list_all p (loads_from b (at + 32 * k) (n - k)) ≡ false
all-bad p b at n k h is below load bad =
    let loading : is_load (header_at b (at + 32 * k)) ≡ true = ap is_load (sym is) ∙ eq-eqb h.kind 1 load in
    let test : p (header_at b (at + 32 * k)) ≡ false = ap p (sym is) ∙ bad in
    rw (loads_from-load b at n k below loading) rw test refl

pub all-good : (p : ProgramHeader → Bool) (b : List ℕ) (at n k : ℕ) (h : ProgramHeader) → h ≡ header_at b (at + 32 * k) → k < n → h.kind ≡ 1
    → p h ≡ true → list_all p (loads_from b (at + 32 * k) (n - k)) ≡ list_all p (loads_from b (at + 32 * (k + 1)) (n - (k + 1)))
all-good p b at n k h is below load good =
    let loading : is_load (header_at b (at + 32 * k)) ≡ true = ap is_load (sym is) ∙ eq-eqb h.kind 1 load in
    let test : p (header_at b (at + 32 * k)) ≡ true = ap p (sym is) ∙ good in
    rw (loads_from-load b at n k below loading) rw test refl

pub other-at : (b : List ℕ) (at n k : ℕ) (h : ProgramHeader) → h ≡ header_at b (at + 32 * k) → k < n → h.kind ≢ 1
    → loads_from b (at + 32 * k) (n - k) ≡ loads_from b (at + 32 * (k + 1)) (n - (k + 1))
other-at b at n k h is below other =
    loads_from-other b at n k below (ap is_load (sym is) ∙ ne_eqb h.kind 1 other)

pub all-end : (p : ProgramHeader → Bool) (b : List ℕ) (at n k : ℕ) → n ≤ k → list_all p (loads_from b (at + 32 * k) (n - k)) ≡ true
all-end p b at n k past = rw (loads_from-end b at n k past) refl

-- the segments of the headers from k on, where header k is of a segment that is loaded
pub separate-bad : (size : ℕ) (b : List ℕ) (at n k : ℕ) (h : ProgramHeader) → h ≡ header_at b (at + 32 * k) → k < n → h.kind ≡ 1
    → (is_contained size h && list_all (is_apart h) (loads_from b (at + 32 * (k + 1)) (n - (k + 1)))) ≡ false
    → are_separate size (loads_from b (at + 32 * k) (n - k)) ≡ false
unfolding are_separate
separate-bad size b at n k h is below load bad =
    let loading : is_load (header_at b (at + 32 * k)) ≡ true = ap is_load (sym is) ∙ eq-eqb h.kind 1 load in
    rw (loads_from-load b at n k below loading) rw (sym is) rw bad refl

pub separate-good : (size : ℕ) (b : List ℕ) (at n k : ℕ) (h : ProgramHeader) → h ≡ header_at b (at + 32 * k) → k < n → h.kind ≡ 1
    → (is_contained size h && list_all (is_apart h) (loads_from b (at + 32 * (k + 1)) (n - (k + 1)))) ≡ true
    → are_separate size (loads_from b (at + 32 * k) (n - k)) ≡ are_separate size (loads_from b (at + 32 * (k + 1)) (n - (k + 1)))
unfolding are_separate
separate-good size b at n k h is below load good =
    let loading : is_load (header_at b (at + 32 * k)) ≡ true = ap is_load (sym is) ∙ eq-eqb h.kind 1 load in
    rw (loads_from-load b at n k below loading) rw (sym is) rw good refl

pub memory-load : (b : List ℕ) (at n k : ℕ) (h : ProgramHeader) → h ≡ header_at b (at + 32 * k) → k < n → h.kind ≡ 1
    → total_memory (loads_from b (at + 32 * k) (n - k)) ≡ h.memory_size + total_memory (loads_from b (at + 32 * (k + 1)) (n - (k + 1)))
memory-load b at n k h is below load =
    let loading : is_load (header_at b (at + 32 * k)) ≡ true = ap is_load (sym is) ∙ eq-eqb h.kind 1 load in
    rw (loads_from-load b at n k below loading) rw (sym is) (sum_by-cons (λ x. x.memory_size) h (loads_from b (at + 32 * (k + 1)) (n - (k + 1))))

pub separate-end : (size : ℕ) (b : List ℕ) (at n k : ℕ) → n ≤ k → are_separate size (loads_from b (at + 32 * k) (n - k)) ≡ true
unfolding are_separate
separate-end size b at n k past = rw (loads_from-end b at n k past) refl

pub memory-end : (b : List ℕ) (at n k : ℕ) → n ≤ k → total_memory (loads_from b (at + 32 * k) (n - k)) ≡ 0
memory-end b at n k past = rw (loads_from-end b at n k past) refl

pub few-headers : (b : List ℕ) → is_profile b ≡ true → header_count b ≤ 16
unfolding is_profile
few-headers b e = leb-true (header_count b) 16 (and_parts _ _ e).1

-- the memory counted so far, with that of one more segment
pub counted : (all before now one counted_one rest rest_now : ℕ) → all ≡ before + rest → rest ≡ one + rest_now → now ≡ before + counted_one → counted_one ≡ one
    → all ≡ now + rest_now
counted all before now one counted_one rest rest_now e f g h = omega arith

-- how many there are from the header k on
pub length-load : (b : List ℕ) (at n k : ℕ) (h : ProgramHeader) → h ≡ header_at b (at + 32 * k) → k < n → h.kind ≡ 1
    → length (loads_from b (at + 32 * k) (n - k)) ≡ suc (length (loads_from b (at + 32 * (k + 1)) (n - (k + 1))))
length-load b at n k h is below load =
    let loading : is_load (header_at b (at + 32 * k)) ≡ true = ap is_load (sym is) ∙ eq-eqb h.kind 1 load in
    rw (loads_from-load b at n k below loading) refl

pub length-end : (b : List ℕ) (at n k : ℕ) → n ≤ k → length (loads_from b (at + 32 * k) (n - k)) ≡ 0
length-end b at n k past = rw (loads_from-end b at n k past) refl

-- one of them, from the header k on
pub get-first : (b : List ℕ) (at n k : ℕ) (h : ProgramHeader) → h ≡ header_at b (at + 32 * k) → k < n → h.kind ≡ 1
    → slice_get (loads_from b (at + 32 * k) (n - k)) 0 ≡ Some h
get-first b at n k h is below load =
    let loading : is_load (header_at b (at + 32 * k)) ≡ true = ap is_load (sym is) ∙ eq-eqb h.kind 1 load in
    rw (loads_from-load b at n k below loading) rw (sym is) refl

get-cons : (x : ProgramHeader) (xs : List ProgramHeader) (n : ℕ) → n ≢ 0 → slice_get (x ∷ xs) n ≡ slice_get xs (n - 1)
get-cons x xs zero some = absurd (some refl)
get-cons x xs (suc n) some = ap (slice_get xs) (omega arith)

pub get-later : (b : List ℕ) (at n k before : ℕ) (h : ProgramHeader) → h ≡ header_at b (at + 32 * k) → k < n → h.kind ≡ 1 → before ≢ 0
    → slice_get (loads_from b (at + 32 * k) (n - k)) before ≡ slice_get (loads_from b (at + 32 * (k + 1)) (n - (k + 1))) (before - 1)
get-later b at n k before h is below load some =
    let loading : is_load (header_at b (at + 32 * k)) ≡ true = ap is_load (sym is) ∙ eq-eqb h.kind 1 load in
    rw (loads_from-load b at n k below loading)
    (get-cons (header_at b (at + 32 * k)) (loads_from b (at + 32 * (k + 1)) (n - (k + 1))) before some)

-- one of a list, which is the first of those from the header i on
pub get-here : (all : List ProgramHeader) (b : List ℕ) (at n i k before : ℕ) (h : ProgramHeader)
    → slice_get all k ≡ slice_get (loads_from b (at + 32 * i) (n - i)) before → before ≡ 0 → h ≡ header_at b (at + 32 * i) → i < n → h.kind ≡ 1
    → slice_get all k ≡ Some h
get-here all b at n i k before h same none is below load =
    same ∙ ap (slice_get (loads_from b (at + 32 * i) (n - i))) none ∙ get-first b at n i h is below load
