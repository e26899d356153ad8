-- The bytes of a global, made item by item.
use Rattle.std.proofs.Common.{◌≡◌, ◌≤◌, ◌<◌, inl, inr, ℕ, zero, suc, ◌+◌, true, false, List, [], ◌∷◌, ◌++◌, length, take, refl, sym, ap, ◌∙◌, arith, subst, append_assoc, get_or, take_at, take_all, ext_get_or, shr-shr}
use Rattle.std.specs.Prelude.{◌⊎◌, ◌-◌, ◌*◌, ◌/◌, ◌%◌, ◌^◌, ◌&&◌, nat_le, nat_lt, if◌then◌else◌, replicate, slice_index_or}
use Rattle.std.proofs.lemmas.Bool.{le-leb, lt-leb, lt-ltb, le-ltb}
use Rattle.std.proofs.lemmas.Bool.Decides.{leb_tells}
use Rattle.std.proofs.lemmas.List.{append-nil, length-append}
use Rattle.val_core.specs.declared.leaf.Leaf.{Leaf}
use Rattle.c_typed.specs.Typed.{WrittenTree, word_at, link_at, characters_at}
use Rattle.c_typed.specs.WellTyped.{WrittenFits}
use Rattle.g_build_def.specs.Globals.{byte_at, bytes_from}
use Rattle.g_build.specs.Globals.{StandApart, bytes_end, item_bytes}
use Rattle.g_build_def.proofs.lemmas.Programs.{bytes_counted, bytes_same}

-- ---- bytes

bytes_append : (ws : List WrittenTree) (i m n : ℕ) → bytes_from ws i (m + n) ≡ bytes_from ws i m ++ bytes_from ws (i + m) n
bytes_append ws i zero n =
    let e : 0 + n ≡ n = omega arith in
    let f : i ≡ i + 0 = omega arith in
    ap (bytes_from ws i) e ∙ ap (λ j. bytes_from ws j n) f
bytes_append ws i (suc m) n =
    let e : suc m + n ≡ suc (m + n) = omega arith in
    let f : suc i + m ≡ i + suc m = omega arith in
    ap (bytes_from ws i) e
    ∙ ap (λ t. byte_at ws i ∷ t) (bytes_append ws (suc i) m n ∙ ap (λ j. bytes_from ws (suc i) m ++ bytes_from ws j n) f)

pub unwritten : (i n : ℕ) → bytes_from [] i n ≡ replicate n 0
unwritten i zero = refl
unwritten i (suc n) = ap (λ t. 0 ∷ t) (unwritten (suc i) n)

-- ---- items

-- where a byte is before an item, after it, and within it
before : (o e j b c : ℕ) → j < o → (if nat_le o j && nat_lt j e then b else c) ≡ c
before o e j b c h = ap (λ t. if t && nat_lt j e then b else c) (lt-leb o j h)

past_end : (o e j b c : ℕ) → o ≤ j → e ≤ j → (if nat_le o j && nat_lt j e then b else c) ≡ c
past_end o e j b c h k = ap (λ t. if t && nat_lt j e then b else c) (le-leb o j h) ∙ ap (λ t. if t then b else c) (le-ltb j e k)

inside : (o e j b c : ℕ) → o ≤ j → j < e → (if nat_le o j && nat_lt j e then b else c) ≡ b
inside o e j b c h k = ap (λ t. if t && nat_lt j e then b else c) (le-leb o j h) ∙ ap (λ t. if t then b else c) (lt-ltb j e k)

-- no byte is written before the first item
early : (ws : List WrittenTree) (from j : ℕ) → StandApart from ws → j < from → byte_at ws j ≡ 0
early [] from j h below = refl
early (word_at o width w ∷ ws) from j h below =
    before o (o + width) j (w / 2 ^ (8 * (j - o)) % 2 ^ 8) (byte_at ws j) (omega (arith, h.0, below)) ∙ early ws (o + width) j h.1 (omega (arith, h.0, below))
early (link_at o k ∷ ws) from j h below = early ws (o + 4) j h.1 (omega (arith, h.0, below))
early (characters_at o cs ∷ ws) from j h below =
    before o (o + length cs) j (slice_index_or cs (j - o) 0) (byte_at ws j) (omega (arith, h.0, below)) ∙ early ws (o + length cs) j h.1 (omega (arith, h.0, below))

sooner : (ws : List WrittenTree) (m n : ℕ) → m ≤ n → StandApart n ws → StandApart m ws
sooner [] m n le h = tt
sooner (word_at o width w ∷ ws) m n le h = (omega (arith, le, h.0), h.1)
sooner (link_at o k ∷ ws) m n le h = (omega (arith, le, h.0), h.1)
sooner (characters_at o cs ∷ ws) m n le h = (omega (arith, le, h.0), h.1)

rest_apart : (n : ℕ) (x : WrittenTree) (ws : List WrittenTree) → StandApart n (x ∷ ws) → StandApart (bytes_end n x) ws
rest_apart n (word_at o width w) ws h = h.1
rest_apart n (link_at o k) ws h = sooner ws n (o + 4) (omega (arith, h.0)) h.1
rest_apart n (characters_at o cs) ws h = h.1

ends_later : (n : ℕ) (x : WrittenTree) (ws : List WrittenTree) → StandApart n (x ∷ ws) → n ≤ bytes_end n x
ends_later n (word_at o width w) ws h = omega (arith, h.0)
ends_later n (link_at o k) ws h = omega arith
ends_later n (characters_at o cs) ws h = omega (arith, h.0)

within_item : (n j : ℕ) (x : WrittenTree) (ws : List WrittenTree) → StandApart n (x ∷ ws) → j < bytes_end n x → byte_at (x ∷ ws) j ≡ byte_at (x ∷ []) j
within_item n j (word_at o width w) ws h below =
    ap (λ b. if nat_le o j && nat_lt j (o + width) then w / 2 ^ (8 * (j - o)) % 2 ^ 8 else b) (early ws (o + width) j h.1 below)
within_item n j (link_at o k) ws h below = early ws (o + 4) j h.1 (omega (arith, h.0, below))
within_item n j (characters_at o cs) ws h below =
    ap (λ b. if nat_le o j && nat_lt j (o + length cs) then slice_index_or cs (j - o) 0 else b) (early ws (o + length cs) j h.1 below)

past_item : (n j : ℕ) (x : WrittenTree) (ws : List WrittenTree) → bytes_end n x ≤ j → byte_at (x ∷ ws) j ≡ byte_at ws j
past_item n j (word_at o width w) ws past =
    past_end o (o + width) j (w / 2 ^ (8 * (j - o)) % 2 ^ 8) (byte_at ws j) (omega (arith, past)) past
past_item n j (link_at o k) ws past = refl
past_item n j (characters_at o cs) ws past =
    past_end o (o + length cs) j (slice_index_or cs (j - o) 0) (byte_at ws j) (omega (arith, past)) past

item_first : (n k : ℕ) (x : WrittenTree) (ws : List WrittenTree) → StandApart n (x ∷ ws)
    → bytes_from (x ∷ ws) n (bytes_end n x - n + k) ≡ item_bytes n x ++ bytes_from ws (bytes_end n x) k
item_first n k x ws h =
    let later : n ≤ bytes_end n x = ends_later n x ws h in
    let at : n + (bytes_end n x - n) ≡ bytes_end n x = omega (arith, later) in
    let first : bytes_from (x ∷ ws) n (bytes_end n x - n) ≡ item_bytes n x
    = bytes_same (x ∷ ws) (x ∷ []) n (bytes_end n x - n) (λ j from below. within_item n j x ws h (omega (arith, below, later))) in
    let rest : bytes_from (x ∷ ws) (n + (bytes_end n x - n)) k ≡ bytes_from ws (bytes_end n x) k
    = ap (λ m. bytes_from (x ∷ ws) m k) at ∙ bytes_same (x ∷ ws) ws (bytes_end n x) k (λ j from below. past_item n j x ws from) in
    bytes_append (x ∷ ws) n (bytes_end n x - n) k ∙ (λ i. first i ++ rest i)

-- an item that begins at o
item_padded : (n o m : ℕ) (x : WrittenTree) → n ≤ o → StandApart o (x ∷ []) → bytes_end n x ≡ o + m
    → item_bytes n x ≡ replicate (o - n) 0 ++ bytes_from (x ∷ []) o m
item_padded n o m x le h end =
    let size : bytes_end n x - n ≡ (o - n) + m = omega (arith, end, le) in
    let at : n + (o - n) ≡ o = omega (arith, le) in
    let zeros : bytes_from (x ∷ []) n (o - n) ≡ replicate (o - n) 0
    = bytes_same (x ∷ []) [] n (o - n) (λ j from below. early (x ∷ []) o j h (omega (arith, below, le))) ∙ unwritten n (o - n) in
    ap (bytes_from (x ∷ []) n) size ∙ bytes_append (x ∷ []) n (o - n) m ∙ (λ i. zeros i ++ bytes_from (x ∷ []) (at i) m)

-- ---- words and characters

-- so many bytes, and zeros up to an item that begins at o
zeros_pushed : (bytes : List ℕ) (n o m : ℕ) (x : WrittenTree) → length bytes ≡ n → n ≤ o → StandApart o (x ∷ []) → bytes_end n x ≡ o + m
    → take o bytes ++ replicate (o - n) 0 ++ bytes_from (x ∷ []) o m ≡ bytes ++ item_bytes n x
zeros_pushed bytes n o m x size le h end =
    let all : take o bytes ≡ bytes = take_all o bytes (omega (arith, size, le)) in
    ap (λ t. t ++ replicate (o - n) 0 ++ bytes_from (x ∷ []) o m) all
    ∙ append_assoc bytes (replicate (o - n) 0) (bytes_from (x ∷ []) o m) ∙ ap (λ t. bytes ++ t) (sym (item_padded n o m x le h end))

pub word_pushed : (bytes : List ℕ) (n o width w : ℕ) → length bytes ≡ n → n ≤ o
    → take o bytes ++ replicate (o - n) 0 ++ bytes_from (word_at o width w ∷ []) o width ≡ bytes ++ item_bytes n (word_at o width w)
word_pushed bytes n o width w size le = zeros_pushed bytes n o width (word_at o width w) size le (omega arith, tt) refl

pub word_more : (start : List ℕ) (o width w i : ℕ) → i < width
    → start ++ bytes_from (word_at o width w ∷ []) o i ++ w / 2 ^ (8 * i) % 256 ∷ [] ≡ start ++ bytes_from (word_at o width w ∷ []) o (i + 1)
word_more start o width w i h =
    let at : i ≡ o + i - o = omega arith in
    append_assoc start (bytes_from (word_at o width w ∷ []) o i) (w / 2 ^ (8 * i) % 256 ∷ [])
    ∙ ap (λ b. start ++ (bytes_from (word_at o width w ∷ []) o i ++ b ∷ []))
    (ap (λ k. w / 2 ^ (8 * k) % 2 ^ 8) at ∙ sym (inside o (o + width) (o + i) (w / 2 ^ (8 * (o + i - o)) % 2 ^ 8) 0 (omega arith) (omega (arith, h))))
    ∙ ap (λ t. start ++ t) (sym (bytes_append (word_at o width w ∷ []) o i 1))

pub shifted_more : (w i : ℕ) → w / 2 ^ (8 * i) / 256 ≡ w / 2 ^ (8 * (i + 1))
shifted_more w i = let e : 8 * i + 8 ≡ 8 * (i + 1) = omega arith in shr-shr w (8 * i) 8 ∙ ap (λ k. w / 2 ^ k) e

pub ruleset words_pushed = (word_pushed, word_more, shifted_more)

byte_of : (ws : List WrittenTree) (i n k : ℕ) → k < n → get_or (bytes_from ws i n) k 0 ≡ byte_at ws (i + k)
byte_of ws i zero k h = absurd (omega (arith, h))
byte_of ws i (suc n) zero h = let e : i ≡ i + 0 = omega arith in ap (byte_at ws) e
byte_of ws i (suc n) (suc k) h =
    let e : suc i + k ≡ i + suc k = omega arith in byte_of ws (suc i) n k (omega (arith, h)) ∙ ap (byte_at ws) e

characters_at_start : (o : ℕ) (cs : List ℕ) → bytes_from (characters_at o cs ∷ []) o (length cs) ≡ cs
characters_at_start o cs =
    let size : length (bytes_from (characters_at o cs ∷ []) o (length cs)) ≡ length cs = bytes_counted (characters_at o cs ∷ []) o (length cs) in
    ext_get_or 0 (bytes_from (characters_at o cs ∷ []) o (length cs)) cs size
    (λ i below.
    let h : i < length cs = omega (arith, below, size) in
    let at : o + i - o ≡ i = omega arith in
    byte_of (characters_at o cs ∷ []) o (length cs) i h
    ∙ inside o (o + length cs) (o + i) (slice_index_or cs (o + i - o) 0) 0 (omega arith) (omega (arith, h))
    ∙ ap (λ k. slice_index_or cs k 0) at)

pub characters_pushed : (bytes : List ℕ) (n o : ℕ) (cs : List ℕ) → length bytes ≡ n → n ≤ o
    → take o bytes ++ replicate (o - n) 0 ++ cs ≡ bytes ++ item_bytes n (characters_at o cs)
characters_pushed bytes n o cs size le =
    ap (λ t. take o bytes ++ replicate (o - n) 0 ++ t) (sym (characters_at_start o cs))
    ∙ zeros_pushed bytes n o (length cs) (characters_at o cs) size le (omega arith, tt) refl

-- ---- all items

-- with the bytes of the items that are left
abbrev pub AreBytesBefore : (rest all : List WrittenTree) → List ℕ → Type 0
AreBytesBefore rest all bytes = (k : ℕ) → bytes ++ bytes_from rest (length bytes) k ≡ bytes_from all 0 (length bytes + k)

pub new_length : (bytes : List ℕ) (x : WrittenTree) (ws : List WrittenTree) → StandApart (length bytes) (x ∷ ws)
    → length (bytes ++ item_bytes (length bytes) x) ≡ bytes_end (length bytes) x
new_length bytes x ws h =
    let later : length bytes ≤ bytes_end (length bytes) x = ends_later (length bytes) x ws h in
    let size : length (item_bytes (length bytes) x) ≡ bytes_end (length bytes) x - length bytes
    = bytes_counted (x ∷ []) (length bytes) (bytes_end (length bytes) x - length bytes) in
    length-append bytes (item_bytes (length bytes) x) ∙ omega (arith, later, size)

bytes_after_item : (x : WrittenTree) (ws all : List WrittenTree) (bytes : List ℕ) → StandApart (length bytes) (x ∷ ws)
    → AreBytesBefore (x ∷ ws) all bytes → AreBytesBefore ws all (bytes ++ item_bytes (length bytes) x)
bytes_after_item x ws all bytes h made k =
    let later : length bytes ≤ bytes_end (length bytes) x = ends_later (length bytes) x ws h in
    let size : length (bytes ++ item_bytes (length bytes) x) ≡ bytes_end (length bytes) x = new_length bytes x ws h in
    let whole : length bytes + (bytes_end (length bytes) x - length bytes + k) ≡ length (bytes ++ item_bytes (length bytes) x) + k
    = omega (arith, later, size) in
    ap (λ m. bytes ++ item_bytes (length bytes) x ++ bytes_from ws m k) size
    ∙ append_assoc bytes (item_bytes (length bytes) x) (bytes_from ws (bytes_end (length bytes) x) k)
    ∙ ap (λ t. bytes ++ t) (sym (item_first (length bytes) k x ws h))
    ∙ made (bytes_end (length bytes) x - length bytes + k)
    ∙ ap (bytes_from all 0) whole

pub bytes_more : (x : WrittenTree) (ws all : List WrittenTree) (bytes new : List ℕ) → StandApart (length bytes) (x ∷ ws)
    → AreBytesBefore (x ∷ ws) all bytes → new ≡ bytes ++ item_bytes (length bytes) x → AreBytesBefore ws all new
bytes_more x ws all bytes new h made e = subst (AreBytesBefore ws all) (sym e) (bytes_after_item x ws all bytes h made)

pub apart_more : (x : WrittenTree) (ws : List WrittenTree) (bytes new : List ℕ) → StandApart (length bytes) (x ∷ ws)
    → new ≡ bytes ++ item_bytes (length bytes) x → StandApart (length new) ws
apart_more x ws bytes new h e =
    subst (λ n. StandApart n ws) (sym (ap length e ∙ new_length bytes x ws h)) (rest_apart (length bytes) x ws h)

pub bytes_ended : (all : List WrittenTree) (bytes : List ℕ) (n size : ℕ) → length bytes ≡ n → AreBytesBefore [] all bytes
    → take size bytes ++ replicate (size - n) 0 ≡ bytes_from all 0 size
bytes_ended all bytes n size e made = subst (λ m. take size bytes ++ replicate (size - m) 0 ≡ bytes_from all 0 size) e (by_size (leb_tells (length bytes) size))
  where
    by_size : ((nat_le (length bytes) size ≡ true) × (length bytes ≤ size)) ⊎ ((nat_le (length bytes) size ≡ false) × (size < length bytes))
        → take size bytes ++ replicate (size - length bytes) 0 ≡ bytes_from all 0 size
    by_size (inl t) =
        let short : length bytes ≤ size = t.1 in
        let whole : length bytes + (size - length bytes) ≡ size = omega (arith, short) in
        (λ i. take_all size bytes short i ++ sym (unwritten (length bytes) (size - length bytes)) i)
        ∙ made (size - length bytes) ∙ ap (bytes_from all 0) whole
    by_size (inr t) =
        let long : size < length bytes = t.1 in
        let none : size - length bytes ≡ 0 = omega (arith, long) in
        let whole : length bytes + 0 ≡ size + (length bytes - size) = omega (arith, long) in
        ap (λ m. take size bytes ++ replicate m 0) none ∙ append-nil (take size bytes)
        ∙ ap (take size) (sym (append-nil bytes) ∙ made 0 ∙ ap (bytes_from all 0) whole ∙ bytes_append all 0 size (length bytes - size))
        ∙ take_at (bytes_from all 0 size) (bytes_from all (0 + size) (length bytes - size)) size (bytes_counted all 0 size)

-- ---- of a well-typed program

pub fitting_apart : (ls : List Leaf) (n from : ℕ) (ws : List WrittenTree) → WrittenFits ls n from ws → StandApart from ws
fitting_apart ls n from [] h = tt
fitting_apart ls n from (word_at o width w ∷ ws) h = (h.0, fitting_apart ls n (o + width) ws h.3)
fitting_apart ls n from (link_at o k ∷ ws) h = (h.0, fitting_apart ls n (o + 4) ws h.3)
fitting_apart ls n from (characters_at o cs ∷ ws) h = (h.0, fitting_apart ls n (o + length cs) ws h.2)
