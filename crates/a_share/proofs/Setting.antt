-- Names that are set one after the other.
use Rattle.std.proofs.Common.{◌≡◌, ◌<◌, ℕ, zero, suc, ◌+◌, Bool, true, false, not, ◌&&◌, ◌||◌, if◌then◌else◌, List, [], ◌∷◌, ◌++◌, length, take, drop, get_or, refl, sym, ap, ◌∙◌, subst, eqb-true, inl, inr, arith}
use Rattle.std.specs.Prelude.{◌==◌, nat_lt, IsTrue}
use Rattle.std.proofs.lemmas.Bool.{cases_Bool}
use Rattle.std.proofs.lemmas.Bool.Decides.{nat_tests}
use Rattle.std.proofs.lemmas.List.{take_more}
use mathlib.Core.Bool.{beq}
use Rattle.s_linear.specs.Linear.{Instr}
use Rattle.s_linear.specs.Lines.{instr_names}
use Rattle.a_place.specs.Places.{among}
use Rattle.a_place.specs.Share.{targets, writes, reads}
use Rattle.a_share.specs.Bounds.{needed_now, has_bound, AreBelow}
use Rattle.a_share.specs.Changes.{ChangesAt, IsPassed}
use Rattle.a_share.specs.declared.needs.Needs.{Needs}
use Rattle.a_share.proofs.Moving.{changes_none, changes_more}

pub beq_not : (a b : Bool) → beq a b ≡ false → a ≡ not b
beq_not true true h = absurd (let e : true ≡ false = h in cc)
beq_not true false h = refl
beq_not false true h = refl
beq_not false false h = absurd (let e : true ≡ false = h in cc)

pub below_get : (n : ℕ) (xs : List ℕ) (i : ℕ) → AreBelow n xs → i < length xs → get_or xs i 0 < n
below_get n [] i b h = absurd (omega arith)
below_get n (x ∷ xs) zero b h =
    elim (cases_Bool (nat_lt x n)) [
      | inl low ↦ grind (arith, nat_tests)
      | inr high ↦ absurd (let e = rw high at b in cc)
    ]
below_get n (x ∷ xs) (suc i) b h =
    elim (cases_Bool (nat_lt x n)) [
      | inl low ↦ below_get n xs i (rw low at b) (omega arith)
      | inr high ↦ absurd (let e = rw high at b in cc)
    ]

among_push : (x y : ℕ) (xs : List ℕ) → among x (xs ++ y ∷ []) ≡ (among x xs || (y == x))
among_push x y [] = or_none (y == x)
  where
    or_none : (a : Bool) → (a || false) ≡ a
    or_none true = refl
    or_none false = refl
among_push x y (z ∷ xs) = ap (λ q. (z == x) || q) (among_push x y xs) ∙ sym (or_assoc (z == x) (among x xs) (y == x))
  where
    or_assoc : (a b c : Bool) → ((a || b) || c) ≡ (a || (b || c))
    or_assoc true b c = refl
    or_assoc false b c = refl

-- one name more is set
pub set_more : (names : List ℕ) (i x : ℕ) (needed old mid new : Bool) → i < length names → mid ≡ (if among x (take i names) then needed else old)
    → new ≡ (if get_or names i 0 == x then needed else mid) → new ≡ (if among x (take (i + 1) names) then needed else old)
set_more names i x needed old mid new h e f =
    f ∙ ap (λ z. if get_or names i 0 == x then needed else z) e
    ∙ turned (among x (take i names)) (get_or names i 0 == x)
    ∙ ap (λ z. if z then needed else old) (sym (among_push x (get_or names i 0) (take i names)) ∙ ap (among x) (sym (take_more names i 0 h)))
  where
    turned : (a b : Bool) → (if b then needed else (if a then needed else old)) ≡ (if a || b then needed else old)
    turned true true = refl
    turned true false = refl
    turned false true = refl
    turned false false = refl

-- ---- an instruction

pub below_drop : (n k : ℕ) (xs : List ℕ) → AreBelow n xs → AreBelow n (drop k xs)
below_drop n zero [] b = b
below_drop n zero (x ∷ xs) b = b
below_drop n (suc k) [] b = refl
below_drop n (suc k) (x ∷ xs) b =
    elim (cases_Bool (nat_lt x n)) [
      | inl low ↦ below_drop n k xs (rw low at b)
      | inr high ↦ absurd (let e = rw high at b in cc)
    ]

pub below_first : (n k t : ℕ) (xs : List ℕ) → t ∷ [] ≡ take k xs → AreBelow n xs → t < n
below_first n zero t [] e b = absurd cc
below_first n zero t (x ∷ xs) e b = absurd cc
below_first n (suc k) t [] e b = absurd cc
below_first n (suc k) t (x ∷ xs) e b =
    let same : t ≡ x = ap (λ z. first_or z) e in
    elim (cases_Bool (nat_lt x n)) [
      | inl low ↦ (let l : x < n = grind (arith, nat_tests) in omega arith)
      | inr high ↦ absurd (let f = rw high at b in cc)
    ]
  where
    first_or : List ℕ → ℕ
    first_or [] = 0
    first_or (y ∷ ys) = y

pub passed_of : (i : Instr) (old mid new : Needs) (b : ℕ) (ts sources : List ℕ) → ts ≡ take (targets i) (instr_names i)
    → sources ≡ drop (targets i) (instr_names i) → ChangesAt old mid b
    → ((x : ℕ) → needed_now mid.toggles x ≡ (if among x ts then false else needed_now old.toggles x))
    → ((x : ℕ) → among x ts ≡ true → needed_now old.toggles x ≡ true → has_bound mid.toggles x b ≡ true) → ChangesAt mid new b
    → ((x : ℕ) → needed_now new.toggles x ≡ (if among x sources then true else needed_now mid.toggles x)) → IsPassed i old new b
passed_of i old mid new b ts sources e f change now cut change' now' = record {
  changes = changes_more old mid new b change change';
  now = λ x.
      now' x ∙ ap (λ z. if among x z then true else needed_now mid.toggles x) f ∙ ap (λ z. if reads i x then true else z) (now x ∙ ap (λ z. if among x z then false else needed_now old.toggles x) e)
      ∙ turned (reads i x) (writes i x) (needed_now old.toggles x);
  cut = λ x w n. change'.1.toggled.kept x b (cut x (ap (among x) e ∙ w) n);
}
  where
    turned : (r w n : Bool) → (if r then true else (if w then false else n)) ≡ (r || (not w && n))
    turned true w n = refl
    turned false true n = refl
    turned false false n = refl

pub pass_some : (i : Instr) (old set mid new : Needs) (b t : ℕ) (sources : List ℕ) → mid ≡ set → t ∷ [] ≡ take (targets i) (instr_names i)
    → sources ≡ drop (targets i) (instr_names i) → AreBelow (length old.toggles) (instr_names i) → (t < length old.toggles → ChangesAt old set b)
    → (t < length old.toggles → (x : ℕ) → needed_now set.toggles x ≡ (if t == x then false else needed_now old.toggles x))
    → (t < length old.toggles → IsTrue (needed_now old.toggles t) → IsTrue (has_bound set.toggles t b))
    → (AreBelow (length mid.toggles) sources → ChangesAt mid new b)
    → (AreBelow (length mid.toggles) sources → (x : ℕ) → needed_now new.toggles x ≡ (if among x sources then true else needed_now mid.toggles x)) → IsPassed i old new b
pass_some i old set mid new b t sources m e f below change now cut change' now' =
    let low : t < length old.toggles = below_first (length old.toggles) (targets i) t (instr_names i) e below in
    let c : ChangesAt old mid b = subst (λ z. ChangesAt old z b) (sym m) (change low) in
    let size : length mid.toggles ≡ length old.toggles = c.1.toggled.size in
    let low' : AreBelow (length mid.toggles) sources =
    subst (λ z. AreBelow z sources) (sym size) (subst (λ z. AreBelow (length old.toggles) z) (sym f) (below_drop (length old.toggles) (targets i) (instr_names i) below)) in
    passed_of i old mid new b (t ∷ []) sources e f c
    (λ x. ap (λ z. needed_now z.toggles x) m ∙ now low x ∙ ap (λ z. if z then false else needed_now old.toggles x) (sym (or_none (t == x))))
    (λ x h n.
    let s : t ≡ x = eqb-true t x (sym (or_none (t == x)) ∙ h) in
    ap (λ z. has_bound z.toggles x b) m ∙ subst (λ z. has_bound set.toggles z b ≡ true) s (cut low (subst (λ z. needed_now old.toggles z ≡ true) (sym s) n)))
    (change' low') (now' low')
  where
    or_none : (a : Bool) → (a || false) ≡ a
    or_none true = refl
    or_none false = refl

pub pass_none : (i : Instr) (old mid new : Needs) (b : ℕ) (sources : List ℕ) → mid ≡ old → [] ≡ take (targets i) (instr_names i)
    → sources ≡ drop (targets i) (instr_names i) → AreBelow (length old.toggles) (instr_names i) → (AreBelow (length mid.toggles) sources → ChangesAt mid new b)
    → (AreBelow (length mid.toggles) sources → (x : ℕ) → needed_now new.toggles x ≡ (if among x sources then true else needed_now mid.toggles x)) → IsPassed i old new b
pass_none i old mid new b sources m e f below change' now' =
    let low' : AreBelow (length mid.toggles) sources =
    subst (λ z. AreBelow (length z.toggles) sources) (sym m) (subst (λ z. AreBelow (length old.toggles) z) (sym f) (below_drop (length old.toggles) (targets i) (instr_names i) below)) in
    passed_of i old mid new b [] sources e f (subst (λ z. ChangesAt old z b) (sym m) (changes_none old b)) (λ x. ap (λ z. needed_now z.toggles x) m) (λ x h n. absurd cc)
    (change' low') (now' low')
