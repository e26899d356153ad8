-- The loops that choose a place.
use Rattle.std.proofs.Common.{◌≡◌, ◌+◌, ◌-◌, ◌<◌, ℕ, suc, Bool, true, false, List, ◌∷◌, ◌++◌, map, filter, flat_map, drop, refl, ap, ◌∙◌, inl, inr, arith, Option}
use Rattle.std.specs.Prelude.{nat_lt, if◌then◌else◌}
use Rattle.std.proofs.lemmas.Bool.{cases_lt, lt-ltb, le-ltb}
use Rattle.val_core.specs.Numbers.{numbers_from}
use Rattle.a_place.specs.Share.{first_of}
use Rattle.a_share.specs.Chosen.{candidate}
use Rattle.a_share.specs.Giving.{as_list, shared_places}

-- what is left to try: of the partners from a number on, and then the others
abbrev pub left_from : (place : ℕ → Option ℕ) → List ℕ → ℕ → List ℕ
left_from place ys i = filter (λ p. nat_lt p 31) (flat_map (λ y. as_list (place y)) (drop i ys)) ++ shared_places

-- ---- the places that names share

abbrev pub others_from : ℕ → List ℕ
others_from k = map candidate (numbers_from k (31 - k))

pub others_all : shared_places ≡ others_from 0
others_all = refl

others_more : (k : ℕ) → k < 31 → others_from k ≡ candidate k ∷ others_from (k + 1)
others_more k h =
    let e : 31 - k ≡ suc (31 - (k + 1)) = omega arith in
    let s : suc k ≡ k + 1 = omega arith in
    ap (λ m. map candidate (numbers_from k m)) e ∙ ap (λ j. candidate k ∷ map candidate (numbers_from j (31 - (k + 1)))) s

pub other_left : (test : ℕ → Bool) (n k : ℕ) → k < 31 → test (candidate k) ≡ false → first_of test (others_from k) n ≡ first_of test (others_from (k + 1)) n
other_left test n k h t = ap (λ ps. first_of test ps n) (others_more k h) ∙ drops (test (candidate k)) t
  where
    drops : (b : Bool) → b ≡ false → (if b then candidate k else first_of test (others_from (k + 1)) n) ≡ first_of test (others_from (k + 1)) n
    drops true e = cc
    drops false e = refl

pub other_found : (test : ℕ → Bool) (n k : ℕ) → k < 31 → test (candidate k) ≡ true → first_of test (others_from k) n ≡ candidate k
other_found test n k h t = ap (λ ps. first_of test ps n) (others_more k h) ∙ takes (test (candidate k)) t
  where
    takes : (b : Bool) → b ≡ true → (if b then candidate k else first_of test (others_from (k + 1)) n) ≡ candidate k
    takes true e = refl
    takes false e = cc

pub candidate_below : (k : ℕ) → k < 31 → candidate k < 31
candidate_below k h =
    elim (cases_lt k 4) [
      | inl a ↦ let x : nat_lt k 4 ≡ true = lt-ltb k 4 a in rw x (omega arith)
      | inr b ↦
          let x : nat_lt k 4 ≡ false = le-ltb k 4 b in
          elim (cases_lt k 15) [
            | inl c ↦ let y : nat_lt k 15 ≡ true = lt-ltb k 15 c in rw (x, y) (omega arith)
            | inr d ↦ let y : nat_lt k 15 ≡ false = le-ltb k 15 d in rw (x, y) h
          ]
    ]
