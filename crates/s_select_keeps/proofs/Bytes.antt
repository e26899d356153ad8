-- The bytes of a global with the addresses that its links name.
use Rattle.std.proofs.Common.{◌≡◌, ◌⊎◌, ℕ, zero, suc, ◌+◌, ◌-◌, ◌<◌, ◌≤◌, ◌==◌, nat_le, Bool, true, false, IsTrue, if◌then◌else◌, List, []}
use Rattle.std.proofs.Common.{◌∷◌, ◌++◌, length, take, drop, replicate, slice_get, slice_index, Some, refl, sym, ap, ◌∙◌, subst, arith, inl, inr, eqb-true, get_or-take}
use Rattle.std.proofs.lemmas.Bool.{and_parts, leb-true, or_cases}
use Rattle.std.proofs.lemmas.List.{get_or_append_left, get_or-append_right, get_or-drop, length-append, length-take, length-drop}
use Rattle.std.proofs.lemmas.Option.{same_Some}
use Rattle.elf_file.specs.Header.{word}
use Rattle.g_graph.specs.declared.link.Link.{Link}
use Rattle.g_graph.specs.Plain.{PlainDelta}
use Rattle.g_graph.specs.WellFormed.{all_of}
use Rattle.g_mean.specs.Calls.{link_at}
use Rattle.rv_layout.specs.Globals.{global_room, with_word, with_links, global_bytes}
use Rattle.rv_layout.specs.Conditions.{link_is_within, are_apart, links_are_apart}

-- the byte is none of a link's
abbrev pub IsUnlinkedBy : (j : ℕ) → Link → Type 0
IsUnlinkedBy j l = (j < l.at) ⊎ (l.at + 4 ≤ j)

abbrev IsUnlinked : ℕ → List Link → Type 0
IsUnlinked j ls = (i : ℕ) (l : Link) → slice_get ls i ≡ Some l → IsUnlinkedBy j l

abbrev pub AreWithin : (size : ℕ) → List Link → Type 0
AreWithin size ls = IsTrue (all_of (link_is_within size) ls)

-- ---- one word

word-size : (w : ℕ) → length (word w) ≡ 4
word-size w = refl

-- the address of a link takes the place of as many bytes
length-linked : (l : Link) (w : ℕ) (bytes : List ℕ) → l.at + 4 ≤ length bytes → length (with_word l.at w bytes) ≡ length bytes
length-linked l w bytes within = simp (length-append, length-take, length-drop) (omega arith)

-- the bytes before it
taken-size : (at : ℕ) (bytes : List ℕ) → at + 4 ≤ length bytes → length (take at bytes) ≡ at
taken-size at bytes within = omega (arith, length-take at bytes, within)

front-size : (at w : ℕ) (bytes : List ℕ) → at + 4 ≤ length bytes → length (take at bytes ++ word w) ≡ at + 4
front-size at w bytes within =
    let sum = length-append (take at bytes) (word w) in
    let first = taken-size at bytes within in
    let last = word-size w in
    omega (arith, sum, first, last)

with_word-before : (at w : ℕ) (bytes : List ℕ) (j : ℕ) → at + 4 ≤ length bytes → j < at → slice_index (with_word at w bytes) j ≡ slice_index bytes j
with_word-before at w bytes j within low =
    let first = taken-size at bytes within in
    let front = front-size at w bytes within in
    get_or_append_left (take at bytes ++ word w) (drop (at + 4) bytes) 0 j (omega (arith, front, low))
    ∙ get_or_append_left (take at bytes) (word w) 0 j (omega (arith, first, low))
    ∙ get_or-take at bytes j 0 low

with_word-here : (at w : ℕ) (bytes : List ℕ) (j : ℕ) → at + 4 ≤ length bytes → j < 4 → slice_index (with_word at w bytes) (at + j) ≡ slice_index (word w) j
with_word-here at w bytes j within low =
    let first = taken-size at bytes within in
    let front = front-size at w bytes within in
    let there : at + j - at ≡ j = omega arith in
    get_or_append_left (take at bytes ++ word w) (drop (at + 4) bytes) 0 (at + j) (omega (arith, front, low))
    ∙ get_or-append_right (take at bytes) (word w) at (at + j) 0 first (omega arith)
    ∙ ap (slice_index (word w)) there

with_word-after : (at w : ℕ) (bytes : List ℕ) (j : ℕ) → at + 4 ≤ length bytes → at + 4 ≤ j → slice_index (with_word at w bytes) j ≡ slice_index bytes j
with_word-after at w bytes j within past =
    let there : at + 4 + (j - (at + 4)) ≡ j = omega (arith, past) in
    get_or-append_right (take at bytes ++ word w) (drop (at + 4) bytes) (at + 4) j 0 (front-size at w bytes within) past
    ∙ get_or-drop (at + 4) bytes (j - (at + 4)) 0
    ∙ ap (slice_index bytes) there

with_word-elsewhere : (l : Link) (w : ℕ) (bytes : List ℕ) (j : ℕ) → l.at + 4 ≤ length bytes → IsUnlinkedBy j l → slice_index (with_word l.at w bytes) j ≡ slice_index bytes j
with_word-elsewhere l w bytes j within (inl low) = with_word-before l.at w bytes j within low
with_word-elsewhere l w bytes j within (inr past) = with_word-after l.at w bytes j within past

-- ---- links

record Within (size : ℕ) (l : Link) (ls : List Link) : Type 0 where
  here : l.at + 4 ≤ size
  rest : AreWithin size ls

within-parts : (size : ℕ) (l : Link) (ls : List Link) → AreWithin size (l ∷ ls) → Within size l ls
within-parts size l ls h = let parts = and_parts (link_is_within size l) (all_of (link_is_within size) ls) h in record { here = leb-true (l.at + 4) size parts.0; rest = parts.1 }

pub length_with_links : (globals : List ℕ) (ls : List Link) (bytes : List ℕ) → AreWithin (length bytes) ls → length (with_links globals ls bytes) ≡ length bytes
length_with_links globals [] bytes within = refl
length_with_links globals (l ∷ ls) bytes within =
    let parts = within-parts (length bytes) l ls within in
    let w = slice_index globals l.delta in
    let same = length-linked l w bytes parts.here in
    length_with_links globals ls (with_word l.at w bytes) (subst (λ n. AreWithin n ls) (sym same) parts.rest) ∙ same

-- a byte of no link stays
pub unlinked_byte : (globals : List ℕ) (ls : List Link) (bytes : List ℕ) (j : ℕ) → AreWithin (length bytes) ls → IsUnlinked j ls → slice_index (with_links globals ls bytes) j ≡ slice_index bytes j
unlinked_byte globals [] bytes j within unlinked = refl
unlinked_byte globals (l ∷ ls) bytes j within unlinked =
    let parts = within-parts (length bytes) l ls within in
    let w = slice_index globals l.delta in
    let same = length-linked l w bytes parts.here in
    unlinked_byte globals ls (with_word l.at w bytes) j (subst (λ n. AreWithin n ls) (sym same) parts.rest) (λ i k there. unlinked (suc i) k there)
    ∙ with_word-elsewhere l w bytes j parts.here (unlinked 0 l refl)

-- links that are apart from one leave its bytes
apart-unlinked : (l : Link) (ls : List Link) (j : ℕ) → IsTrue (all_of (are_apart l) ls) → j < 4 → IsUnlinked (l.at + j) ls
apart-unlinked l [] j apart low i m there = absurd cc
apart-unlinked l (x ∷ ls) j apart low zero m there =
    let parts = and_parts (are_apart l x) (all_of (are_apart l) ls) apart in
    subst (IsUnlinkedBy (l.at + j)) (same_Some x m there) (by (or_cases (nat_le (l.at + 4) x.at) (nat_le (x.at + 4) l.at) parts.0))
  where
    by : (nat_le (l.at + 4) x.at ≡ true) ⊎ (nat_le (x.at + 4) l.at ≡ true) → IsUnlinkedBy (l.at + j) x
    by (inl e) = let h = leb-true (l.at + 4) x.at e in inl (omega (arith, h, low))
    by (inr e) = let h = leb-true (x.at + 4) l.at e in inr (omega (arith, h))
apart-unlinked l (x ∷ ls) j apart low (suc i) m there = apart-unlinked l ls j (and_parts (are_apart l x) (all_of (are_apart l) ls) apart).1 low i m there

-- the bytes of a link are those of the address
pub linked_byte : (globals : List ℕ) (ls : List Link) (bytes : List ℕ) (offset k j : ℕ) → AreWithin (length bytes) ls → IsTrue (links_are_apart ls) → link_at offset ls ≡ Some k → j < 4
    → slice_index (with_links globals ls bytes) (offset + j) ≡ slice_index (word (slice_index globals k)) j
linked_byte globals [] bytes offset k j within apart found low = absurd cc
linked_byte globals (l ∷ ls) bytes offset k j within apart found low =
    by (l.at == offset) refl (linked_byte globals ls (with_word l.at (slice_index globals l.delta) bytes) offset k j rest two.1) found
  where
    parts : Within (length bytes) l ls
    parts = within-parts (length bytes) l ls within

    rest : AreWithin (length (with_word l.at (slice_index globals l.delta) bytes)) ls
    rest = subst (λ n. AreWithin n ls) (sym (length-linked l (slice_index globals l.delta) bytes parts.here)) parts.rest

    two : IsTrue (all_of (are_apart l) ls) × IsTrue (links_are_apart ls)
    two = and_parts (all_of (are_apart l) ls) (links_are_apart ls) apart

    by : (test : Bool) → (l.at == offset) ≡ test
        → (link_at offset ls ≡ Some k → j < 4
        → slice_index (with_links globals ls (with_word l.at (slice_index globals l.delta) bytes)) (offset + j) ≡ slice_index (word (slice_index globals k)) j)
        → (if test then Some l.delta else link_at offset ls) ≡ Some k
        → slice_index (with_links globals ls (with_word l.at (slice_index globals l.delta) bytes)) (offset + j) ≡ slice_index (word (slice_index globals k)) j
    by true same later is =
        let at = eqb-true l.at offset same in
        ap (λ o. slice_index (with_links globals ls (with_word l.at (slice_index globals l.delta) bytes)) (o + j)) (sym at)
        ∙ unlinked_byte globals ls (with_word l.at (slice_index globals l.delta) bytes) (l.at + j) rest (apart-unlinked l ls j two.0 low)
        ∙ with_word-here l.at (slice_index globals l.delta) bytes j parts.here low
        ∙ ap (λ n. slice_index (word (slice_index globals n)) j) (same_Some l.delta k is)
    by false other later is = later is low

-- in memory a global has these bytes, and zeros after them
pub global_byte : (globals : List ℕ) (d : PlainDelta) (j : ℕ) → AreWithin (length d.bytes) d.links → j < length d.bytes →
    slice_index (global_bytes globals d) j ≡ slice_index (with_links globals d.links d.bytes) j
global_byte globals d j within low =
    let same = length_with_links globals d.links d.bytes within in
    get_or_append_left (with_links globals d.links d.bytes) (replicate (global_room d - length d.bytes) 0) 0 j (omega (arith, same, low))
