-- What instructions write, read and need, as types and as tests.
use Rattle.std.proofs.Common.{◌≡◌, ◌≢◌, ◌⊎◌, ℕ, Bool, true, false, not, ◌&&◌, List, [], ◌∷◌, Option, None, Some, refl, sym, ap, ◌∙◌, inl, inr, eq-eqb, eqb-true}
use Rattle.std.specs.Prelude.{◌==◌, ◌||◌, nat_le}
use Rattle.std.proofs.lemmas.Bool.{cases_Bool, or_cases, or_left, or_right, and_from, and_parts, le-leb, leb-true, ne_eqb}
use Rattle.s_linear.specs.Linear.{Instr, const, undef, object_address, global_address, binary, unary, load, store, clear, equal_pointers, move, call, put, get, exit, Step, plain, choice, loop, Code, no_steps, step_then, Codes, no_codes, code_then}
use Rattle.s_linear.specs.Lines.{counted}
use Rattle.a_place.specs.Places.{among}
use Rattle.a_place.specs.Share.{Names, writes, reads}
use Rattle.a_place.specs.Share as share
use Rattle.s_sequence_keeps.specs.Closed.{target_of, sources_of, NameSet, none_written}
use Rattle.a_place_keeps.specs.Need.{IsIn, joined, needed_by, needed_by_instrs, after_body, needed_by_step, needed_by_code, needed_by_codes, at_label, at_branch}

-- each name of a set passes a test, and each that passes is of the set
abbrev pub IsBelow : NameSet → Names → Type 0
IsBelow N M = (x : ℕ) → N x → M x ≡ true

abbrev pub IsAbove : NameSet → Names → Type 0
IsAbove N M = (x : ℕ) → M x ≡ true → N x

-- ---- what is written and read

or_false : (b : Bool) → (b || false) ≡ b
or_false true = refl
or_false false = refl

abbrev is_named : Option ℕ → (name : ℕ) → Bool
is_named None x = false
is_named (Some t) x = t == x

writes_is : (i : Instr) (x : ℕ) → writes i x ≡ is_named (target_of i) x
writes_is (const t w) x = or_false (t == x)
writes_is (undef t) x = or_false (t == x)
writes_is (object_address t k) x = or_false (t == x)
writes_is (global_address t k) x = or_false (t == x)
writes_is (binary o t a b) x = or_false (t == x)
writes_is (unary o t a) x = or_false (t == x)
writes_is (load width t a) x = or_false (t == x)
writes_is (store width a v) x = refl
writes_is (clear k) x = refl
writes_is (equal_pointers t a b) x = or_false (t == x)
writes_is (move t a) x = or_false (t == x)
writes_is (call g t xs) x = or_false (t == x)
writes_is (put a) x = refl
writes_is (get t) x = or_false (t == x)
writes_is (exit a) x = refl

reads_is : (i : Instr) (x : ℕ) → reads i x ≡ among x (sources_of i)
reads_is (const t w) x = refl
reads_is (undef t) x = refl
reads_is (object_address t k) x = refl
reads_is (global_address t k) x = refl
reads_is (binary o t a b) x = refl
reads_is (unary o t a) x = refl
reads_is (load width t a) x = refl
reads_is (store width a v) x = refl
reads_is (clear k) x = refl
reads_is (equal_pointers t a b) x = refl
reads_is (move t a) x = refl
reads_is (call g t xs) x = refl
reads_is (put a) x = refl
reads_is (get t) x = refl
reads_is (exit a) x = refl

pub written_is : (i : Instr) (t : ℕ) → target_of i ≡ Some t → writes i t ≡ true
written_is i t e = writes_is i t ∙ ap (λ o. is_named o t) e ∙ eq-eqb t t refl

pub only_written : (i : Instr) (t x : ℕ) → target_of i ≡ Some t → t ≢ x → writes i x ≡ false
only_written i t x e ne = writes_is i x ∙ ap (λ o. is_named o x) e ∙ ne_eqb t x ne

named_is : (o : Option ℕ) (x : ℕ) → is_named o x ≡ true → o ≡ Some x
named_is None x e = cc
named_is (Some t) x e = ap Some (eqb-true t x e)

pub target_is_written : (i : Instr) (x : ℕ) → writes i x ≡ true → target_of i ≡ Some x
target_is_written i x e = named_is (target_of i) x (sym (writes_is i x) ∙ e)

pub not_written : (i : Instr) (x : ℕ) → target_of i ≢ Some x → writes i x ≡ false
not_written i x ne = elim (cases_Bool (writes i x)) [
  | inl e ↦ absurd (ne (target_is_written i x e))
  | inr e ↦ e
]

pub not_target : (i : Instr) (x : ℕ) → writes i x ≡ false → target_of i ≢ Some x
not_target i x e is = let w = written_is i x is in absurd cc

pub among_in : (x : ℕ) (xs : List ℕ) → IsIn x xs → among x xs ≡ true
among_in x [] h = absurd h
among_in x (y ∷ ys) (inl e) = or_left (y == x) (among x ys) (eq-eqb y x e)
among_in x (y ∷ ys) (inr h) = or_right (y == x) (among x ys) (among_in x ys h)

pub in_among : (x : ℕ) (xs : List ℕ) → among x xs ≡ true → IsIn x xs
in_among x [] e = absurd cc
in_among x (y ∷ ys) e = elim (or_cases (y == x) (among x ys) e) [
  | inl here ↦ inl (eqb-true y x here)
  | inr there ↦ inr (in_among x ys there)
]

-- ---- what is needed passes the test of what is needed

instr_below : (i : Instr) (N : NameSet) (M : Names) → IsBelow N M → IsBelow (needed_by i N) (share.needed_by i M)
instr_below i N M h x (inl read) = or_left (reads i x) (not (writes i x) && M x) (reads_is i x ∙ among_in x (sources_of i) read)
instr_below i N M h x (inr later) =
    or_right (reads i x) (not (writes i x) && M x) (and_from (not (writes i x)) (M x) (ap not (not_written i x later.0)) (h x later.1))

pub instrs_below : (is : List Instr) (N : NameSet) (M : Names) → IsBelow N M → IsBelow (needed_by_instrs is N) (share.needed_by_instrs is M)
instrs_below [] N M h x n = h x n
instrs_below (i ∷ is) N M h x n = instr_below i (needed_by_instrs is N) (share.needed_by_instrs is M) (instrs_below is N M h) x n

-- at the branch of a loop, whatever is needed after its moves back
branch_below : (p : ℕ) (back : List Instr) (N L : NameSet) (M K : Names) → IsBelow N M → IsBelow L K → (x : ℕ) → (p ≡ x) ⊎ joined N (needed_by_instrs back L) x
    → ((p == x) || (M x || share.needed_by_instrs back K x)) ≡ true
branch_below p back N L M K h l x (inl e) = or_left (p == x) (M x || share.needed_by_instrs back K x) (eq-eqb p x e)
branch_below p back N L M K h l x (inr (inl n)) =
    or_right (p == x) (M x || share.needed_by_instrs back K x) (or_left (M x) (share.needed_by_instrs back K x) (h x n))
branch_below p back N L M K h l x (inr (inr m)) =
    or_right (p == x) (M x || share.needed_by_instrs back K x) (or_right (M x) (share.needed_by_instrs back K x) (instrs_below back L K l x m))

none_below : IsBelow none_written (λ y. false)
none_below x z = absurd z

mutual
  step_below : (s : Step) (N : NameSet) (M : Names) → IsBelow N M → IsBelow (needed_by_step s N) (share.needed_by_step s M)
  step_below (plain i) N M h x n = instr_below i N M h x n
  step_below (choice p cs) N M h x (inl e) =
      or_left (nat_le 2 (counted cs) && (p == x)) (share.needed_by_codes cs M x) (and_from (nat_le 2 (counted cs)) (p == x) (le-leb 2 (counted cs) e.0) (eq-eqb p x e.1))
  step_below (choice p cs) N M h x (inr n) =
      or_right (nat_le 2 (counted cs) && (p == x)) (share.needed_by_codes cs M x) (codes_below cs N M h x n)
  step_below (loop moves body p back) N M h x n =
      instrs_below moves (at_label body p back N) (share.at_label body p back M)
      (λ y l.
      code_below body (after_body p back N) (share.after_body p back M)
      (λ z m. branch_below p back N none_written M (λ u. false) h none_below z m) y l) x n

  pub code_below : (c : Code) (N : NameSet) (M : Names) → IsBelow N M → IsBelow (needed_by_code c N) (share.needed_by_code c M)
  code_below no_steps N M h x n = h x n
  code_below (step_then s c) N M h x n =
      step_below s (needed_by_code c N) (share.needed_by_code c M) (λ y m. code_below c N M h y m) x n

  codes_below : (cs : Codes) (N : NameSet) (M : Names) → IsBelow N M → IsBelow (needed_by_codes cs N) (share.needed_by_codes cs M)
  codes_below no_codes N M h x n = absurd n
  codes_below (code_then c cs) N M h x (inl n) = or_left (share.needed_by_code c M x) (share.needed_by_codes cs M x) (code_below c N M h x n)
  codes_below (code_then c cs) N M h x (inr n) = or_right (share.needed_by_code c M x) (share.needed_by_codes cs M x) (codes_below cs N M h x n)

pub label_below : (body : Code) (p : ℕ) (back : List Instr) (N : NameSet) (M : Names) → IsBelow N M
    → IsBelow (at_label body p back N) (share.at_label body p back M)
label_below body p back N M h x l =
    code_below body (after_body p back N) (share.after_body p back M)
    (λ z m. branch_below p back N none_written M (λ u. false) h none_below z m) x l

pub branch_is_below : (body : Code) (p : ℕ) (back : List Instr) (N : NameSet) (M : Names) → IsBelow N M
    → IsBelow (at_branch body p back N) (share.at_branch body p back M)
branch_is_below body p back N M h x n =
    branch_below p back N (at_label body p back N) M (share.at_label body p back M) h (label_below body p back N M h) x n

-- ---- what passes the test is needed

instr_above : (i : Instr) (N : NameSet) (M : Names) → IsAbove N M → IsAbove (needed_by i N) (share.needed_by i M)
instr_above i N M h x e = elim (or_cases (reads i x) (not (writes i x) && M x) e) [
  | inl read ↦ inl (in_among x (sources_of i) (sym (reads_is i x) ∙ read))
  | inr later ↦ inr (not_target i x (not_true (writes i x) (and_parts (not (writes i x)) (M x) later).0), h x (and_parts (not (writes i x)) (M x) later).1)
]
  where
    not_true : (b : Bool) → not b ≡ true → b ≡ false
    not_true true e = cc
    not_true false e = refl

instrs_above : (is : List Instr) (N : NameSet) (M : Names) → IsAbove N M → IsAbove (needed_by_instrs is N) (share.needed_by_instrs is M)
instrs_above [] N M h x e = h x e
instrs_above (i ∷ is) N M h x e = instr_above i (needed_by_instrs is N) (share.needed_by_instrs is M) (instrs_above is N M h) x e

branch_above : (p : ℕ) (back : List Instr) (N L : NameSet) (M K : Names) → IsAbove N M → IsAbove L K → (x : ℕ)
    → ((p == x) || (M x || share.needed_by_instrs back K x)) ≡ true → (p ≡ x) ⊎ joined N (needed_by_instrs back L) x
branch_above p back N L M K h l x e = elim (or_cases (p == x) (M x || share.needed_by_instrs back K x) e) [
  | inl here ↦ inl (eqb-true p x here)
  | inr there ↦ elim (or_cases (M x) (share.needed_by_instrs back K x) there) [
    | inl n ↦ inr (inl (h x n))
    | inr m ↦ inr (inr (instrs_above back L K l x m))
  ]
]

none_above : IsAbove none_written (λ y. false)
none_above x e = absurd cc

mutual
  step_above : (s : Step) (N : NameSet) (M : Names) → IsAbove N M → IsAbove (needed_by_step s N) (share.needed_by_step s M)
  step_above (plain i) N M h x e = instr_above i N M h x e
  step_above (choice p cs) N M h x e = elim (or_cases (nat_le 2 (counted cs) && (p == x)) (share.needed_by_codes cs M x) e) [
    | inl here ↦
        let parts = and_parts (nat_le 2 (counted cs)) (p == x) here in
        inl (leb-true 2 (counted cs) parts.0, eqb-true p x parts.1)
    | inr there ↦ inr (codes_above cs N M h x there)
  ]
  step_above (loop moves body p back) N M h x e =
      instrs_above moves (at_label body p back N) (share.at_label body p back M)
      (λ y l.
      code_above body (after_body p back N) (share.after_body p back M)
      (λ z m. branch_above p back N none_written M (λ u. false) h none_above z m) y l) x e

  pub code_above : (c : Code) (N : NameSet) (M : Names) → IsAbove N M → IsAbove (needed_by_code c N) (share.needed_by_code c M)
  code_above no_steps N M h x e = h x e
  code_above (step_then s c) N M h x e =
      step_above s (needed_by_code c N) (share.needed_by_code c M) (λ y m. code_above c N M h y m) x e

  codes_above : (cs : Codes) (N : NameSet) (M : Names) → IsAbove N M → IsAbove (needed_by_codes cs N) (share.needed_by_codes cs M)
  codes_above no_codes N M h x e = absurd cc
  codes_above (code_then c cs) N M h x e = elim (or_cases (share.needed_by_code c M x) (share.needed_by_codes cs M x) e) [
    | inl here ↦ inl (code_above c N M h x here)
    | inr there ↦ inr (codes_above cs N M h x there)
  ]

pub label_above : (body : Code) (p : ℕ) (back : List Instr) (N : NameSet) (M : Names) → IsAbove N M
    → IsAbove (at_label body p back N) (share.at_label body p back M)
label_above body p back N M h x e =
    code_above body (after_body p back N) (share.after_body p back M)
    (λ z m. branch_above p back N none_written M (λ u. false) h none_above z m) x e

pub branch_is_above : (body : Code) (p : ℕ) (back : List Instr) (N : NameSet) (M : Names) → IsAbove N M
    → IsAbove (at_branch body p back N) (share.at_branch body p back M)
branch_is_above body p back N M h x e =
    branch_above p back N (at_label body p back N) M (share.at_label body p back M) h (label_above body p back N M h) x e
