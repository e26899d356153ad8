-- Accesses of several bytes.
use Rattle.std.proofs.Common.{◌≡◌, ℕ, zero, suc, ◌+◌, ◌<◌, ◌≤◌, Bool, true, false, ◌&&◌, List, [], ◌∷◌, length, take, get_or, refl, ap, ◌∙◌, arith}
use Rattle.std.proofs.lemmas.Bool.{and_left, and_right, both_ways, true_from_ne_false}
use Rattle.rv_machine.specs.Memory.{has_flag, allowed, load_bytes, number}

pub allowed_all : (flags : ℕ → ℕ) (flag a w : ℕ) → ((j : ℕ) → j < w → has_flag (flags (a + j)) flag ≡ true)
    → allowed flags flag a w ≡ true
unfolding allowed
allowed_all flags flag a zero all = refl
allowed_all flags flag a (suc w) all =
    let here : has_flag (flags a) flag ≡ true = ap (λ x. has_flag (flags x) flag) (omega arith) ∙ all 0 (omega arith) in
    rw here (allowed_all flags flag (suc a) w (λ j below.
    ap (λ x. has_flag (flags x) flag) (omega arith) ∙ all (suc j) (omega arith)))

pub allowed_bad : (flags : ℕ → ℕ) (flag a w i : ℕ) → i < w → has_flag (flags (a + i)) flag ≡ false
    → allowed flags flag a w ≡ false
unfolding allowed
allowed_bad flags flag a zero i below bad = absurd (omega arith)
allowed_bad flags flag a (suc w) zero below bad =
    and_left _ _ (ap (λ x. has_flag (flags x) flag) (omega arith) ∙ bad)
allowed_bad flags flag a (suc w) (suc i) below bad =
    and_right _ _ (allowed_bad flags flag (suc a) w i (omega arith) (ap (λ x. has_flag (flags x) flag) (omega arith) ∙ bad))

pub load_same : (mem : ℕ → ℕ) (a w : ℕ) (bs : List ℕ) → w ≤ length bs
    → ((j : ℕ) → j < w → mem (a + j) ≡ get_or bs j 0) → load_bytes mem a w ≡ number (take w bs)
unfolding load_bytes number
load_same mem a zero bs within same = refl
load_same mem a (suc w) [] within same = absurd (omega arith)
load_same mem a (suc w) (b ∷ bs) within same =
    let here : mem a ≡ b = ap mem (omega arith) ∙ same 0 (omega arith) in
    let rest : load_bytes mem (suc a) w ≡ number (take w bs) =
    load_same mem (suc a) w bs (omega arith) (λ j below. ap mem (omega arith) ∙ same (suc j) (omega arith)) in
    rw here rw rest refl

pub allowed_at : (flags : ℕ → ℕ) (flag a w i : ℕ) → i < w → allowed flags flag a w ≡ true → has_flag (flags (a + i)) flag ≡ true
allowed_at flags flag a w i below good =
    true_from_ne_false (has_flag (flags (a + i)) flag) (λ bad.
    both_ways (allowed flags flag a w) (allowed_bad flags flag a w i below bad) good)

allowed-suc : (flags : ℕ → ℕ) (flag a w : ℕ) → allowed flags flag a (suc w) ≡ (has_flag (flags a) flag && allowed flags flag (suc a) w)
unfolding allowed
allowed-suc flags flag a w = refl

allowed-zero : (flags : ℕ → ℕ) (flag a : ℕ) → allowed flags flag a 0 ≡ true
unfolding allowed
allowed-zero flags flag a = refl

and-true : (b : Bool) → (b && true) ≡ b
and-true true = refl
and-true false = refl

pub allowed-one : (flags : ℕ → ℕ) (flag a : ℕ) → allowed flags flag a 1 ≡ has_flag (flags a) flag
allowed-one flags flag a =
    allowed-suc flags flag a 0
    ∙ ap (λ rest. has_flag (flags a) flag && rest) (allowed-zero flags flag (suc a))
    ∙ and-true (has_flag (flags a) flag)
