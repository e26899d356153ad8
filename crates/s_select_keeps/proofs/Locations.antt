-- Where places are: registers that templates keep, or words of the frame, each apart from the others.
use Rattle.std.proofs.Common.{◌≡◌, ◌≢◌, ◌⊎◌, ℕ, suc, ◌+◌, ◌-◌, ◌*◌, ◌%◌, ◌<◌, ◌≤◌, ◌==◌, nat_lt, nat_le, Bool, true, false, cond, is_some, slice_get, refl, sym, ap, subst, ◌∙◌, arith, inl, inr, eqb-true}
use Rattle.std.proofs.lemmas.Bool.{cases_lt, lt-ltb, le-ltb, leb-true, eqb-false, and_parts}
use Rattle.rv_isa.specs.Registers.{ra, sp}
use Rattle.rv_machine.specs.Memory.{Bytes, load_bytes}
use Rattle.s_linear.specs.Frame.{PlainPlaces, registers, counted_for}
use Rattle.s_select.specs.Conditions.{has_place}
use Rattle.s_select.specs.declared.location.Location.{Location}
use Rattle.s_select.specs.declared.location.Location.TheVariants.{Register, Near, Far}
use Rattle.s_select.specs.Operands.{place_register, word_at, location_of}
use Rattle.s_select_keeps.specs.Relation.{IsPlaceRegister, IsSavedRegister, IsKept, held, Frame, IsPlaceOf, words_end}
use Rattle.s_select_keeps.specs.Table.{place_at, HasPlaces}

pub place-above : (r : ℕ) → IsPlaceRegister r → 8 < r
place-above r (inl e) = omega (arith, e)
place-above r (inr high) = omega (arith, high)

-- a temporary register is none of them
pub kept-apart : (r n : ℕ) → IsKept r → 2 < n → n < 8 → r ≢ n
kept-apart r n (inl e) low high same = absurd (omega (arith, e, same, low))
kept-apart r n (inr (inl e)) low high same = absurd (omega (arith, e, same, high))
kept-apart r n (inr (inr h)) low high same = let above = place-above r h in absurd (omega (arith, above, same, high))

-- a register that no template uses for an intermediate word
abbrev pub IsNoTemporary : ℕ → Type 0
IsNoTemporary r = (r ≡ sp) ⊎ (7 < r)

pub no-temporary : (r : ℕ) → IsKept r → IsNoTemporary r
no-temporary r (inl e) = inl e
no-temporary r (inr (inl e)) = inr (omega (arith, e))
no-temporary r (inr (inr place)) = let above = place-above r place in inr (omega (arith, above))

pub temporary-apart : (r n : ℕ) → IsNoTemporary r → 2 < n → n < 8 → r ≢ n
temporary-apart r n (inl e) low high same = absurd (omega (arith, e, same, low))
temporary-apart r n (inr above) low high same = absurd (omega (arith, above, same, high))

-- nor an argument register
pub kept-sides : (r : ℕ) → IsKept r → (r < 10) ⊎ (17 < r)
kept-sides r (inl e) = inl (omega (arith, e))
kept-sides r (inr (inl e)) = inl (omega (arith, e))
kept-sides r (inr (inr (inl e))) = inl (omega (arith, e))
kept-sides r (inr (inr (inr high))) = inr high

pub kept-argument : (r n : ℕ) → IsKept r → 9 < n → n < 18 → r ≢ n
kept-argument r n side low high same = by (kept-sides r side)
  where
    by : (r < 10) ⊎ (17 < r) → ⊥
    by (inl less) = omega (arith, less, same, low)
    by (inr more) = omega (arith, more, same, high)

-- nor the return address
pub kept-return : (r : ℕ) → IsKept r → r ≢ ra
kept-return r (inl e) same = absurd (omega (arith, e, same))
kept-return r (inr (inl e)) same = absurd (omega (arith, e, same))
kept-return r (inr (inr place)) same = let above = place-above r place in absurd (omega (arith, above, same))

-- the register of a place, or a word that is a place
abbrev pub LocationFits : Frame → Location → Type 0
LocationFits f (Register r) = IsPlaceRegister r
LocationFits f (Near offset) = (offset % 4 ≡ 0) × (f.sp + offset + 4 ≤ words_end f)
LocationFits f (Far offset) = (offset % 4 ≡ 0) × (f.sp + offset + 4 ≤ words_end f)

-- a register is not that of a location, and an address is not in its word
abbrev pub IsOtherRegister : Location → ℕ → Type 0
IsOtherRegister (Register q) r = r ≢ q
IsOtherRegister _ r = Unit {0}

abbrev pub IsOtherAddress : Frame → Location → ℕ → Type 0
IsOtherAddress f (Register q) a = Unit {0}
IsOtherAddress f (Near offset) a = (a < f.sp + offset) ⊎ (f.sp + offset + 4 ≤ a)
IsOtherAddress f (Far offset) a = (a < f.sp + offset) ⊎ (f.sp + offset + 4 ≤ a)

-- ---- place registers

register-is : (p : ℕ) → ((p ≡ 0) × (place_register p ≡ 9)) ⊎ ((0 < p) × (place_register p ≡ p + 17))
register-is p = by (p == 0) refl
  where
    by : (test : Bool) → (p == 0) ≡ test → ((p ≡ 0) × (cond test 9 (p + 17) ≡ 9)) ⊎ ((0 < p) × (cond test 9 (p + 17) ≡ p + 17))
    by true e = inl (eqb-true p 0 e, refl)
    by false e = let ne = eqb-false p 0 e in inr (omega (arith, ne), refl)

pub register-is-place : (p : ℕ) → IsPlaceRegister (place_register p)
register-is-place p = by (register-is p)
  where
    by : ((p ≡ 0) × (place_register p ≡ 9)) ⊎ ((0 < p) × (place_register p ≡ p + 17)) → IsPlaceRegister (place_register p)
    by (inl h) = inl h.1
    by (inr h) = let above = h.0 in let is = h.1 in inr (omega (arith, above, is))

pub register-is-saved : (p : ℕ) → p < registers → IsSavedRegister (place_register p)
register-is-saved p low = by (register-is p)
  where
    by : ((p ≡ 0) × (place_register p ≡ 9)) ⊎ ((0 < p) × (place_register p ≡ p + 17)) → IsSavedRegister (place_register p)
    by (inl h) = inl h.1
    by (inr h) = let above = h.0 in let is = h.1 in inr (omega (arith, above, is), omega (arith, low, is))

pub saved-is-place : (r : ℕ) → IsSavedRegister r → IsPlaceRegister r
saved-is-place r (inl nine) = inl nine
saved-is-place r (inr h) = inr h.0

pub registers-apart : (p t : ℕ) → p ≢ t → place_register p ≢ place_register t
registers-apart p t ne same = by (register-is p) (register-is t)
  where
    by : ((p ≡ 0) × (place_register p ≡ 9)) ⊎ ((0 < p) × (place_register p ≡ p + 17)) → ((t ≡ 0) × (place_register t ≡ 9)) ⊎ ((0 < t) × (place_register t ≡ t + 17)) → ⊥
    by (inl a) (inl b) = ne (a.0 ∙ sym b.0)
    by (inl a) (inr b) = let e : 9 ≡ t + 17 = sym a.1 ∙ same ∙ b.1 in absurd (omega (arith, e))
    by (inr a) (inl b) = let e : p + 17 ≡ 9 = sym a.1 ∙ same ∙ b.1 in absurd (omega (arith, e))
    by (inr a) (inr b) = let e : p + 17 ≡ t + 17 = sym a.1 ∙ same ∙ b.1 in ne (omega (arith, e))

-- ---- the frame's places

-- what is counted for a place: a saved register, a register that calls lose, or a word
pub counted-saved : (t p : ℕ) → p < registers → counted_for t p ≡ suc p
counted-saved t p low = rw (lt-ltb p 11 low) refl

pub counted-word : (t p : ℕ) → registers + t ≤ p → counted_for t p ≡ suc (p - t)
counted-word t p high = rw (le-ltb p 11 (omega (arith, high)), le-ltb p (11 + t) high) refl

-- a saved register that is a place, and a word
pub saved-within : (f : Frame) (p : ℕ) → IsPlaceOf f p → p < registers → p < f.count
saved-within f p inside low = subst (λ n. n ≤ f.count) (counted-saved f.temporaries p low) inside

pub word-within : (f : Frame) (p : ℕ) → IsPlaceOf f p → registers + f.temporaries ≤ p → suc (p - f.temporaries) ≤ f.count
word-within f p inside high = subst (λ n. n ≤ f.count) (counted-word f.temporaries p high) inside

-- the place of a name is one of the frame's
pub place-below : (p : PlainPlaces) (f : Frame) → HasPlaces f p → (x : ℕ) → has_place p x ≡ true → IsPlaceOf f (place_at p x)
place-below p f same x e =
    subst (λ n. n ≤ f.count) (ap (λ t. counted_for t (place_at p x)) (sym same.1))
    (subst (λ n. counted_for p.temporaries (place_at p x) ≤ n) (sym same.0)
    (leb-true (counted_for p.temporaries (place_at p x)) p.count
    (and_parts (is_some (slice_get p.of x)) (nat_le (counted_for p.temporaries (place_at p x)) p.count) e).1))

-- the frame has this name's place
abbrev pub HasPlaceIn : Frame → PlainPlaces → (name : ℕ) → Type 0
HasPlaceIn f p x = HasPlaces f p × IsPlaceOf f (place_at p x)

-- where the frame has places is where the places say
pub locations-same : (p : PlainPlaces) (f : Frame) → HasPlaces f p → location_of p.temporaries ≡ location_of f.temporaries
locations-same p f same = ap location_of (sym same.1)

-- ---- by the place

pub at-register : (t p : ℕ) → p < registers + t → location_of t p ≡ Register (place_register p)
at-register t p low = rw (lt-ltb p (11 + t) low) refl

-- the words of the places after the registers
abbrev word_of_place : (temporaries place : ℕ) → Location
word_of_place t p = word_at (4 * (p - (registers + t)))

pub at-word : (t p : ℕ) → registers + t ≤ p → location_of t p ≡ word_of_place t p
at-word t p high = rw (le-ltb p (11 + t) high) refl

pub location-fits : (f : Frame) (p : ℕ) → IsPlaceOf f p → LocationFits f (location_of f.temporaries p)
location-fits f p below =
    elim (cases_lt p (11 + f.temporaries)) [
      | inl low ↦ subst (LocationFits f) (sym (at-register f.temporaries p low)) (register-is-place p)
      | inr high ↦ subst (LocationFits f) (sym (at-word f.temporaries p high)) (word high (nat_lt (4 * (p - (11 + f.temporaries))) 2048))
    ]
  where
    word : 11 + f.temporaries ≤ p → (test : Bool) → LocationFits f (cond test (Near (4 * (p - (11 + f.temporaries)))) (Far (4 * (p - (11 + f.temporaries)))))
    word high true = let inside = word-within f p below high in (omega arith, omega (arith, inside, high))
    word high false = let inside = word-within f p below high in (omega arith, omega (arith, inside, high))

-- what a word of the frame holds
held-word : (stack : ℕ) (regs : ℕ → ℕ) (mem : Bytes) (offset : ℕ) (test : Bool)
    → held stack regs mem (cond test (Near offset) (Far offset)) ≡ load_bytes mem (stack + offset) 4
held-word stack regs mem offset true = refl
held-word stack regs mem offset false = refl

-- A location is left where its register and its word are.
pub held-same : (f : Frame) (l : Location) → LocationFits f l → (regs regs' : ℕ → ℕ) (mem mem' : Bytes) → ((r : ℕ) → IsPlaceRegister r → regs' r ≡ regs r) → mem' ≡ mem
    → held f.sp regs' mem' l ≡ held f.sp regs mem l
held-same f (Register r) fits regs regs' mem mem' same kept = same r fits
held-same f (Near offset) fits regs regs' mem mem' same kept = ap (λ m. load_bytes m (f.sp + offset) 4) kept
held-same f (Far offset) fits regs regs' mem mem' same kept = ap (λ m. load_bytes m (f.sp + offset) 4) kept

-- another place's register is another register, and its word has other addresses
pub other-register : (n p t : ℕ) → p ≢ t → IsOtherRegister (location_of n t) (place_register p)
other-register n p t ne =
    elim (cases_lt t (11 + n)) [
      | inl below ↦ subst (λ l. IsOtherRegister l (place_register p)) (sym (at-register n t below)) (registers-apart p t ne)
      | inr above ↦ subst (λ l. IsOtherRegister l (place_register p)) (sym (at-word n t above)) (word (nat_lt (4 * (t - (11 + n))) 2048))
    ]
  where
    word : (test : Bool) → IsOtherRegister (cond test (Near (4 * (t - (11 + n)))) (Far (4 * (t - (11 + n))))) (place_register p)
    word true = tt
    word false = tt

-- the address of the word of a place
abbrev pub word_address : Frame → (place : ℕ) → ℕ
word_address f p = f.sp + 4 * (p - (registers + f.temporaries))

pub other-addresses : (f : Frame) (p t j : ℕ) → p ≢ t → registers + f.temporaries ≤ p → j < 4 → IsOtherAddress f (location_of f.temporaries t) (word_address f p + j)
other-addresses f p t j ne high below =
    let n = f.temporaries in
    elim (cases_lt t (11 + n)) [
      | inl low ↦ subst (λ l. IsOtherAddress f l (word_address f p + j)) (sym (at-register n t low)) tt
      | inr above ↦ subst (λ l. IsOtherAddress f l (word_address f p + j)) (sym (at-word n t above)) (word above (cases_lt p t) (nat_lt (4 * (t - (11 + n))) 2048))
    ]
  where
    word : 11 + f.temporaries ≤ t → (p < t) ⊎ (t ≤ p) → (test : Bool)
        → IsOtherAddress f (cond test (Near (4 * (t - (11 + f.temporaries)))) (Far (4 * (t - (11 + f.temporaries))))) (word_address f p + j)
    word above (inl less) true = inl (omega (arith, less, high, below))
    word above (inl less) false = inl (omega (arith, less, high, below))
    word above (inr more) true = inr (omega (arith, more, ne, above))
    word above (inr more) false = inr (omega (arith, more, ne, above))

-- what a place holds
pub held-at-register : (f : Frame) (p : ℕ) (regs : ℕ → ℕ) (mem : Bytes) → p < registers + f.temporaries
    → held f.sp regs mem (location_of f.temporaries p) ≡ regs (place_register p)
held-at-register f p regs mem low = ap (held f.sp regs mem) (at-register f.temporaries p low)

pub held-at-word : (f : Frame) (p : ℕ) (regs : ℕ → ℕ) (mem : Bytes) → registers + f.temporaries ≤ p
    → held f.sp regs mem (location_of f.temporaries p) ≡ load_bytes mem (word_address f p) 4
held-at-word f p regs mem high =
    ap (held f.sp regs mem) (at-word f.temporaries p high)
    ∙ held-word f.sp regs mem (4 * (p - (11 + f.temporaries))) (nat_lt (4 * (p - (11 + f.temporaries))) 2048)

-- an address outside the words of the frame is in none of them
pub outside-words : (f : Frame) (t a : ℕ) → IsPlaceOf f t → (a < f.sp) ⊎ (words_end f ≤ a) → IsOtherAddress f (location_of f.temporaries t) a
outside-words f t a below out = other (location_of f.temporaries t) (location-fits f t below) out
  where
    other : (l : Location) → LocationFits f l → (a < f.sp) ⊎ (words_end f ≤ a) → IsOtherAddress f l a
    other (Register r) fits side = tt
    other (Near offset) fits (inl before) = inl (omega (arith, before))
    other (Near offset) fits (inr after) = let end = fits.1 in inr (omega (arith, after, end))
    other (Far offset) fits (inl before) = inl (omega (arith, before))
    other (Far offset) fits (inr after) = let end = fits.1 in inr (omega (arith, after, end))
