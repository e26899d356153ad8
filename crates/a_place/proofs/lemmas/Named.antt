-- What is needed in a code, and what it writes, are names of the code, but for what is needed after it.
use Rattle.std.proofs.Common.{◌≡◌, ℕ, zero, suc, true, false, not, ◌&&◌, List, [], ◌∷◌, ◌++◌, take, drop, flat_map, inl, inr}
use Rattle.std.specs.Prelude.{◌==◌, ◌||◌, nat_le}
use Rattle.std.proofs.lemmas.Bool.{or_cases, and_parts, or_left, or_right}
use Rattle.s_linear.specs.Linear.{Instr, Step, plain, choice, loop, Code, no_steps, step_then, Codes, no_codes, code_then}
use Rattle.s_linear.specs.Lines.{counted, instr_names}
use Rattle.a_place.specs.Places.{among}
use Rattle.a_place.specs.Share.{Names, targets, writes, reads, needed_by, needed_by_instrs, after_body, needed_by_step, needed_by_code, needed_by_codes, at_label, at_branch, predicate_names, step_names, code_names, codes_names, Site, does, tests, instr_sites, last_of, others_of, as_they_stand, branch_sites, step_sites, code_sites, codes_sites}
use Rattle.a_place.proofs.lemmas.Order.{among_left, among_right}

-- ---- sets of names within a list

abbrev pub IsWithin : Names → List ℕ → Type 0
IsWithin N names = (x : ℕ) → N x ≡ true → among x names ≡ true

abbrev pub AreWithin : (some names : List ℕ) → Type 0
AreWithin xs names = (x : ℕ) → among x xs ≡ true → among x names ≡ true

among_take : (x k : ℕ) (xs : List ℕ) → among x (take k xs) ≡ true → among x xs ≡ true
among_take x zero xs e = cc
among_take x (suc k) [] e = e
among_take x (suc k) (y ∷ ys) e =
    elim (or_cases (y == x) (among x (take k ys)) e) [
      | inl here ↦ or_left (y == x) (among x ys) here
      | inr there ↦ or_right (y == x) (among x ys) (among_take x k ys there)
    ]

among_drop : (x k : ℕ) (xs : List ℕ) → among x (drop k xs) ≡ true → among x xs ≡ true
among_drop x zero xs e = e
among_drop x (suc k) [] e = e
among_drop x (suc k) (y ∷ ys) e = or_right (y == x) (among x ys) (among_drop x k ys e)

within_left : (xs ys names : List ℕ) → AreWithin (xs ++ ys) names → AreWithin xs names
within_left xs ys names h x e = h x (among_left x xs ys e)

within_right : (xs ys names : List ℕ) → AreWithin (xs ++ ys) names → AreWithin ys names
within_right xs ys names h x e = h x (among_right x xs ys e)

within_head : (p : ℕ) (xs names : List ℕ) → AreWithin (p ∷ xs) names → (x : ℕ) → (p == x) ≡ true → among x names ≡ true
within_head p xs names h x e = h x (or_left (p == x) (among x xs) e)

within_tail : (p : ℕ) (xs names : List ℕ) → AreWithin (p ∷ xs) names → AreWithin xs names
within_tail p xs names h x e = h x (or_right (p == x) (among x xs) e)

pub writes_within : (i : Instr) (names : List ℕ) → AreWithin (instr_names i) names → IsWithin (writes i) names
writes_within i names h x e = h x (among_take x (targets i) (instr_names i) e)

-- ---- what is needed

need_instr : (i : Instr) (N : Names) (names : List ℕ) → AreWithin (instr_names i) names → IsWithin N names → IsWithin (needed_by i N) names
need_instr i N names h n x e =
    elim (or_cases (reads i x) (not (writes i x) && N x) e) [
      | inl read ↦ h x (among_drop x (targets i) (instr_names i) read)
      | inr later ↦ n x (and_parts (not (writes i x)) (N x) later).1
    ]

need_instrs : (is : List Instr) (N : Names) (names : List ℕ) → AreWithin (flat_map instr_names is) names → IsWithin N names
    → IsWithin (needed_by_instrs is N) names
need_instrs [] N names h n x e = n x e
need_instrs (i ∷ is) N names h n x e =
    need_instr i (needed_by_instrs is N) names (within_left (instr_names i) (flat_map instr_names is) names h)
    (need_instrs is N names (within_right (instr_names i) (flat_map instr_names is) names h) n) x e

none_within : (names : List ℕ) → IsWithin (λ y. false) names
none_within names x e = cc

-- at the branch of a loop, whatever is needed after its moves back
need_branch : (p : ℕ) (back : List Instr) (N L : Names) (names : List ℕ) → AreWithin (p ∷ flat_map instr_names back) names → IsWithin N names
    → IsWithin L names → (x : ℕ) → ((p == x) || (N x || needed_by_instrs back L x)) ≡ true → among x names ≡ true
need_branch p back N L names h n l x e =
    elim (or_cases (p == x) (N x || needed_by_instrs back L x) e) [
      | inl here ↦ within_head p (flat_map instr_names back) names h x here
      | inr there ↦
          elim (or_cases (N x) (needed_by_instrs back L x) there) [
            | inl after ↦ n x after
            | inr read ↦ need_instrs back L names (within_tail p (flat_map instr_names back) names h) l x read
          ]
    ]

need_predicate : (p : ℕ) (cs : Codes) (names : List ℕ) → AreWithin (predicate_names p cs) names → (x : ℕ) → (nat_le 2 (counted cs) && (p == x)) ≡ true
    → among x names ≡ true
need_predicate p cs names h x e =
    let parts = and_parts (nat_le 2 (counted cs)) (p == x) e in
    h x (rw parts.0 (or_left (p == x) (among x []) parts.1))

mutual
  pub need_step : (s : Step) (N : Names) (names : List ℕ) → AreWithin (step_names s) names → IsWithin N names → IsWithin (needed_by_step s N) names
  need_step (plain i) N names h n x e = need_instr i N names h n x e
  need_step (choice p cs) N names h n x e =
      elim (or_cases (nat_le 2 (counted cs) && (p == x)) (needed_by_codes cs N x) e) [
        | inl here ↦ need_predicate p cs names (within_left (predicate_names p cs) (codes_names cs) names h) x here
        | inr there ↦ need_codes cs N names (within_right (predicate_names p cs) (codes_names cs) names h) n x there
      ]
  need_step (loop enter body p back) N names h n x e =
      let first = within_left (flat_map instr_names enter ++ code_names body) (p ∷ flat_map instr_names back) names h in
      let last = within_right (flat_map instr_names enter ++ code_names body) (p ∷ flat_map instr_names back) names h in
      need_instrs enter (at_label body p back N) names (within_left (flat_map instr_names enter) (code_names body) names first)
      (λ y l.
      need_code body (after_body p back N) names (within_right (flat_map instr_names enter) (code_names body) names first)
      (need_branch p back N (λ z. false) names last n (none_within names)) y l) x e

  pub need_code : (c : Code) (N : Names) (names : List ℕ) → AreWithin (code_names c) names → IsWithin N names → IsWithin (needed_by_code c N) names
  need_code no_steps N names h n x e = n x e
  need_code (step_then s c) N names h n x e =
      need_step s (needed_by_code c N) names (within_left (step_names s) (code_names c) names h)
      (λ y l. need_code c N names (within_right (step_names s) (code_names c) names h) n y l) x e

  need_codes : (cs : Codes) (N : Names) (names : List ℕ) → AreWithin (codes_names cs) names → IsWithin N names → IsWithin (needed_by_codes cs N) names
  need_codes no_codes N names h n x e = cc
  need_codes (code_then c cs) N names h n x e =
      elim (or_cases (needed_by_code c N x) (needed_by_codes cs N x) e) [
        | inl here ↦ need_code c N names (within_left (code_names c) (codes_names cs) names h) n x here
        | inr there ↦ need_codes cs N names (within_right (code_names c) (codes_names cs) names h) n x there
      ]

-- ---- sites

-- what an instruction writes and what is needed after it are among these names
abbrev pub IsNamed : List ℕ → Site → Type 0
IsNamed names (does d i N) = IsWithin (writes i) names × IsWithin N names
IsNamed names (tests d p) = Unit {0}

abbrev pub AreNamed : List ℕ → List Site → Type 0
AreNamed names [] = Unit {0}
AreNamed names (s ∷ ss) = IsNamed names s × AreNamed names ss

abbrev EachIsNamed : List ℕ → List (List Site) → Type 0
EachIsNamed names [] = Unit {0}
EachIsNamed names (k ∷ ks) = AreNamed names k × EachIsNamed names ks

named_append : (names : List ℕ) (ss ts : List Site) → AreNamed names ss → AreNamed names ts → AreNamed names (ss ++ ts)
named_append names [] ts a b = b
named_append names (s ∷ ss) ts a b = (a.0, named_append names ss ts a.1 b)

named_last : (names : List ℕ) (ks : List (List Site)) → EachIsNamed names ks → AreNamed names (last_of ks)
named_last names [] b = tt
named_last names (k ∷ []) b = b.0
named_last names (k ∷ l ∷ ks) b = named_last names (l ∷ ks) b.1

named_others : (names : List ℕ) (ks : List (List Site)) → EachIsNamed names ks → AreNamed names (others_of ks)
named_others names [] b = tt
named_others names (k ∷ []) b = tt
named_others names (k ∷ l ∷ ks) b = named_append names k (others_of (l ∷ ks)) b.0 (named_others names (l ∷ ks) b.1)

named_as_they_stand : (names : List ℕ) (ks : List (List Site)) → EachIsNamed names ks → AreNamed names (as_they_stand ks)
named_as_they_stand names [] b = tt
named_as_they_stand names (k ∷ []) b =
    named_append names (last_of (k ∷ [])) (others_of (k ∷ [])) (named_last names (k ∷ []) b) (named_others names (k ∷ []) b)
named_as_they_stand names (k ∷ l ∷ []) b = named_append names k l b.0 b.1.0
named_as_they_stand names (k ∷ l ∷ m ∷ ks) b =
    named_append names (last_of (k ∷ l ∷ m ∷ ks)) (others_of (k ∷ l ∷ m ∷ ks)) (named_last names (k ∷ l ∷ m ∷ ks) b)
    (named_others names (k ∷ l ∷ m ∷ ks) b)

named_branches : (names : List ℕ) (d p : ℕ) (cs : Codes) → AreNamed names (branch_sites d p cs)
named_branches names d p no_codes = tt
named_branches names d p (code_then c no_codes) = tt
named_branches names d p (code_then c (code_then k cs)) = (tt, named_branches names d p (code_then k cs))

named_instrs : (names : List ℕ) (d : ℕ) (is : List Instr) (N : Names) → AreWithin (flat_map instr_names is) names → IsWithin N names
    → AreNamed names (instr_sites d is N)
named_instrs names d [] N h n = tt
named_instrs names d (i ∷ is) N h n =
    let here = within_left (instr_names i) (flat_map instr_names is) names h in
    let later = within_right (instr_names i) (flat_map instr_names is) names h in
    ((writes_within i names here, need_instrs is N names later n), named_instrs names d is N later n)

mutual
  named_step : (names : List ℕ) (d : ℕ) (s : Step) (N : Names) → AreWithin (step_names s) names → IsWithin N names → AreNamed names (step_sites d s N)
  named_step names d (plain i) N h n = ((writes_within i names h, n), tt)
  named_step names d (choice p cs) N h n =
      named_append names (branch_sites d p cs) (as_they_stand (codes_sites d cs N)) (named_branches names d p cs)
      (named_as_they_stand names (codes_sites d cs N)
      (named_codes names d cs N (within_right (predicate_names p cs) (codes_names cs) names h) n))
  named_step names d (loop enter body p back) N h n =
      let first = within_left (flat_map instr_names enter ++ code_names body) (p ∷ flat_map instr_names back) names h in
      let last = within_right (flat_map instr_names enter ++ code_names body) (p ∷ flat_map instr_names back) names h in
      let inner = within_right (flat_map instr_names enter) (code_names body) names first in
      let label : IsWithin (at_label body p back N) names =
      λ y l. need_code body (after_body p back N) names inner (need_branch p back N (λ z. false) names last n (none_within names)) y l in
      named_append names (instr_sites d enter (at_label body p back N) ++ code_sites (suc d) body (at_branch body p back N))
      (tests (suc d) p ∷ instr_sites (suc d) back (at_label body p back N))
      (named_append names (instr_sites d enter (at_label body p back N)) (code_sites (suc d) body (at_branch body p back N))
      (named_instrs names d enter (at_label body p back N) (within_left (flat_map instr_names enter) (code_names body) names first) label)
      (named_code names (suc d) body (at_branch body p back N) inner (need_branch p back N (at_label body p back N) names last n label)))
      (tt, named_instrs names (suc d) back (at_label body p back N) (within_tail p (flat_map instr_names back) names last) label)

  pub named_code : (names : List ℕ) (d : ℕ) (c : Code) (N : Names) → AreWithin (code_names c) names → IsWithin N names → AreNamed names (code_sites d c N)
  named_code names d no_steps N h n = tt
  named_code names d (step_then s c) N h n =
      let later = within_right (step_names s) (code_names c) names h in
      named_append names (step_sites d s (needed_by_code c N)) (code_sites d c N)
      (named_step names d s (needed_by_code c N) (within_left (step_names s) (code_names c) names h) (λ y l. need_code c N names later n y l))
      (named_code names d c N later n)

  named_codes : (names : List ℕ) (d : ℕ) (cs : Codes) (N : Names) → AreWithin (codes_names cs) names → IsWithin N names
      → EachIsNamed names (codes_sites d cs N)
  named_codes names d no_codes N h n = tt
  named_codes names d (code_then c cs) N h n = (
    named_code names d c N (within_left (code_names c) (codes_names cs) names h) n,
    named_codes names d cs N (within_right (code_names c) (codes_names cs) names h) n,
  )
