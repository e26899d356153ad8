-- Shared places are safe: names that clash have different places, and so says each instruction of what is needed after it.
use Rattle.std.proofs.Common.{◌≡◌, ◌≢◌, ◌⊎◌, ℕ, suc, Bool, true, false, not, ◌&&◌, List, [], ◌∷◌, ◌++◌, slice_index, ap, inl, inr, arith, eq-eqb, eqb-true}
use Rattle.std.specs.Prelude.{◌==◌}
use Rattle.std.proofs.lemmas.Bool.{cases_Bool, and_from, or_left}
use Rattle.s_linear.specs.Frame.{is_lost}
use Rattle.s_linear.specs.Linear.{Instr, const, undef, object_address, global_address, binary, unary, load, store, clear, equal_pointers, move, call, put, get, exit, Step, plain, choice, loop, Code, no_steps, step_then, Codes, no_codes, code_then, LinearFunction}
use Rattle.a_place.specs.Share.{Names, writes, meets, moves_from, Site, does, tests, instr_sites, last_of, others_of, as_they_stand, branch_sites, step_sites, code_sites, codes_sites, shared}
use Rattle.a_place.specs.Share as share
use Rattle.a_place.specs.ShareLaws.{IsSafeAt, AreSafe, SharedSitesAreSafe, SharedParamsDiffer}
use Rattle.s_sequence_keeps.specs.Closed.{NameSet}
use Rattle.a_place_keeps.specs.Need.{these, needed_by_instrs, needed_by_code, at_label, at_branch, IsMoveFrom, KeepsPlace, SafeInstr, SafeInstrs, SafeStep, SafeCode, SafeCodes}
use Rattle.a_place_keeps.specs.Laws.{SharedFunctionsAgree}
use Rattle.a_place_keeps.proofs.Functions.{AreSafeFor, safe_functions_agree}
use Rattle.a_place_keeps.proofs.Names.{IsBelow, written_is, only_written, instrs_below, code_below, label_below, branch_is_below}

-- ---- one instruction

-- a move from a name
move_from : (i : Instr) (x : ℕ) → moves_from i x ≡ true → IsMoveFrom x i
move_from (const t w) x e = absurd cc
move_from (undef t) x e = absurd cc
move_from (object_address t k) x e = absurd cc
move_from (global_address t k) x e = absurd cc
move_from (binary o t a b) x e = absurd cc
move_from (unary o t a) x e = absurd cc
move_from (load width t a) x e = absurd cc
move_from (store width a v) x e = absurd cc
move_from (clear k) x e = absurd cc
move_from (equal_pointers t a b) x e = absurd cc
move_from (move t a) x e = eqb-true a x e
move_from (call g t xs) x e = absurd cc
move_from (put a) x e = absurd cc
move_from (get t) x e = absurd cc
move_from (exit a) x e = absurd cc

module _ (f : ℕ → ℕ) where
  abbrev lost : ℕ → Bool
  lost = is_lost 4

  kept_place : (d : ℕ) (i : Instr) (M : Names) (x : ℕ) → IsSafeAt f (does d i M) → M x ≡ true → writes i x ≡ false → KeepsPlace lost i (f x)
  kept_place d (const t w) M x safe m n = tt
  kept_place d (undef t) M x safe m n = tt
  kept_place d (object_address t k) M x safe m n = tt
  kept_place d (global_address t k) M x safe m n = tt
  kept_place d (binary o t a b) M x safe m n = tt
  kept_place d (unary o t a) M x safe m n = tt
  kept_place d (load width t a) M x safe m n = tt
  kept_place d (store width a v) M x safe m n = tt
  kept_place d (clear k) M x safe m n = tt
  kept_place d (equal_pointers t a b) M x safe m n = tt
  kept_place d (move t a) M x safe m n = tt
  kept_place d (call g t xs) M x safe m n = safe.kept x (and_from (M x) (not (writes (call g t xs) x)) m (ap not n))
  kept_place d (put a) M x safe m n = tt
  kept_place d (get t) M x safe m n = tt
  kept_place d (exit a) M x safe m n = tt

  instr_safe : (d : ℕ) (i : Instr) (N : NameSet) (M : Names) → IsBelow N M → IsSafeAt f (does d i M) → SafeInstr f lost i N
  instr_safe d i N M below safe t x only n ne = (by (cases_Bool (moves_from i x)), kept_place d i M x safe (below x n) other)
    where
      other : writes i x ≡ false
      other = only_written i t x only ne

      by : (moves_from i x ≡ true) ⊎ (moves_from i x ≡ false) → (f t ≢ f x) ⊎ IsMoveFrom x i
      by (inl moved) = inr (move_from i x moved)
      by (inr kept) =
          inl (safe.apart t x
          (or_left (writes i t && meets i M x) (writes i x && meets i M t)
          (and_from (writes i t) (meets i M x) (written_is i t only)
          (and_from (M x) (not (writes i x) && not (moves_from i x)) (below x n)
          (and_from (not (writes i x)) (not (moves_from i x)) (ap not other) (ap not kept))))))

  instrs_safe : (d : ℕ) (is : List Instr) (N : NameSet) (M : Names) → IsBelow N M → AreSafe f (instr_sites d is M) → SafeInstrs f lost is N
  instrs_safe d [] N M below safe = tt
  instrs_safe d (i ∷ is) N M below safe =
      (instr_safe d i (needed_by_instrs is N) (share.needed_by_instrs is M) (instrs_below is N M below) safe.0, instrs_safe d is N M below safe.1)

  -- ---- sites one after the other

  safe_left : (xs ys : List Site) → AreSafe f (xs ++ ys) → AreSafe f xs
  safe_left [] ys h = tt
  safe_left (x ∷ xs) ys h = (h.0, safe_left xs ys h.1)

  safe_right : (xs ys : List Site) → AreSafe f (xs ++ ys) → AreSafe f ys
  safe_right [] ys h = h
  safe_right (x ∷ xs) ys h = safe_right xs ys h.1

  abbrev EachSafe : List (List Site) → Type 0
  EachSafe [] = Unit {0}
  EachSafe (k ∷ ks) = AreSafe f k × EachSafe ks

  each_safe : (ks : List (List Site)) → AreSafe f (last_of ks) → AreSafe f (others_of ks) → EachSafe ks
  each_safe [] last others = tt
  each_safe (k ∷ []) last others = (last, tt)
  each_safe (k ∷ l ∷ ks) last others =
      (safe_left k (others_of (l ∷ ks)) others, each_safe (l ∷ ks) last (safe_right k (others_of (l ∷ ks)) others))

  standing_safe : (ks : List (List Site)) → AreSafe f (as_they_stand ks) → EachSafe ks
  standing_safe [] h = tt
  standing_safe (k ∷ []) h = each_safe (k ∷ []) (safe_left k [] h) tt
  standing_safe (k ∷ l ∷ []) h = (safe_left k l h, (safe_right k l h, tt))
  standing_safe (k ∷ l ∷ m ∷ ks) h =
      each_safe (k ∷ l ∷ m ∷ ks) (safe_left (last_of (k ∷ l ∷ m ∷ ks)) (others_of (k ∷ l ∷ m ∷ ks)) h)
      (safe_right (last_of (k ∷ l ∷ m ∷ ks)) (others_of (k ∷ l ∷ m ∷ ks)) h)

  -- ---- code

  mutual
    step_safe : (s : Step) (d : ℕ) (N : NameSet) (M : Names) → IsBelow N M → AreSafe f (step_sites d s M) → SafeStep f lost s N
    step_safe (plain i) d N M below safe = instr_safe d i N M below safe.0
    step_safe (choice p cs) d N M below safe =
        codes_safe cs d N M below (standing_safe (codes_sites d cs M) (safe_right (branch_sites d p cs) (as_they_stand (codes_sites d cs M)) safe))
    step_safe (loop enter body p back) d N M below safe =
        let first = instr_sites d enter (share.at_label body p back M) in
        let middle = code_sites (suc d) body (share.at_branch body p back M) in
        let last = instr_sites (suc d) back (share.at_label body p back M) in
        let begins = safe_left (first ++ middle) (tests (suc d) p ∷ last) safe in (
          instrs_safe d enter (at_label body p back N) (share.at_label body p back M) (label_below body p back N M below) (safe_left first middle begins),
          code_safe body (suc d) (at_branch body p back N) (share.at_branch body p back M) (branch_is_below body p back N M below) (safe_right first middle begins),
          instrs_safe (suc d) back (at_label body p back N) (share.at_label body p back M) (label_below body p back N M below)
              (safe_right (first ++ middle) (tests (suc d) p ∷ last) safe).1,
        )

    code_safe : (c : Code) (d : ℕ) (N : NameSet) (M : Names) → IsBelow N M → AreSafe f (code_sites d c M) → SafeCode f lost c N
    code_safe no_steps d N M below safe = tt
    code_safe (step_then s c) d N M below safe =
        let first = step_sites d s (share.needed_by_code c M) in (
          step_safe s d (needed_by_code c N) (share.needed_by_code c M) (code_below c N M below) (safe_left first (code_sites d c M) safe),
          code_safe c d N M below (safe_right first (code_sites d c M) safe),
        )

    codes_safe : (cs : Codes) (d : ℕ) (N : NameSet) (M : Names) → IsBelow N M → EachSafe (codes_sites d cs M) → SafeCodes f lost cs N
    codes_safe no_codes d N M below safe = tt
    codes_safe (code_then c cs) d N M below safe = (code_safe c d N M below safe.0, codes_safe cs d N M below safe.1)

-- ---- functions

value_below : (v : ℕ) → IsBelow (these (v ∷ [])) (λ x. v == x)
value_below v x (inl e) = eq-eqb v x e
value_below v x (inr z) = absurd z

shared_is_safe : SharedSitesAreSafe → SharedParamsDiffer → (f : LinearFunction) → AreSafeFor (shared f) f
shared_is_safe sites differ f = record {
  code = code_safe (slice_index (shared f).of) f.code 0 (these (f.value ∷ [])) (λ x. f.value == x) (value_below f.value) (sites f);
  params = λ x y ne a b. differ f x y (omega arith) (omega arith) ne;
}

pub shared_functions_agree : SharedSitesAreSafe → SharedParamsDiffer → SharedFunctionsAgree
shared_functions_agree sites differ fs closed = safe_functions_agree shared (λ f h. shared_is_safe sites differ f) fs closed
