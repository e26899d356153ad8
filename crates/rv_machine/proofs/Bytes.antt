-- Numbers as bytes, the lowest first.
use Rattle.std.proofs.Common.{◌≡◌, ℕ, suc, ◌+◌, ◌-◌, ◌*◌, ◌/◌, ◌%◌, ◌<◌, ◌≤◌, List, [], ◌∷◌, length, get_or, set, refl, ◌∙◌, arith}
use Rattle.std.specs.Int.{w32, from_le_bytes}
use Rattle.rv_machine.specs.Memory.{number, written}

written-same : (bs : List ℕ) (i n k i' k' : ℕ) → i ≡ i' → k ≡ k' → written bs i n k ≡ written bs i' n k'
written-same bs i n k i' k' e f = rw e rw f refl

written-suc : (bs : List ℕ) (i n k : ℕ) → written bs i n (suc k) ≡ written (set bs i (n % 256)) (suc i) (n / 256) k
unfolding written
written-suc bs i n k = refl

-- one more byte on the way to the offset `end`
pub written_more : (bs : List ℕ) (i n end : ℕ) → i < end
    → written bs i n (end - i) ≡ written (set bs i (n % 256)) (i + 1) (n / 256) (end - (i + 1))
written_more bs i n end below =
    written-same bs i n (end - i) i (suc (end - (i + 1))) refl (omega arith)
    ∙ written-suc bs i n (end - (i + 1))
    ∙ written-same (set bs i (n % 256)) (suc i) (n / 256) (end - (i + 1)) (i + 1) (end - (i + 1)) (omega arith) refl

pub written-zero : (bs : List ℕ) (i n : ℕ) → written bs i n 0 ≡ bs
unfolding written
written-zero bs i n = refl

pub written_all : (bs : List ℕ) (i n end : ℕ) → end ≤ i → written bs i n (end - i) ≡ bs
written_all bs i n end past = written-same bs i n (end - i) i 0 refl (omega arith) ∙ written-zero bs i n

pub number-one : (bs : List ℕ) → length bs ≡ 1 → number bs ≡ get_or bs 0 0
unfolding number
number-one [] e = absurd (omega arith)
number-one (a ∷ []) e = omega arith
number-one (a ∷ b ∷ bs) e = absurd (omega arith)

pub number-two : (bs : List ℕ) → length bs ≡ 2 → number bs ≡ get_or bs 0 0 + 256 * get_or bs 1 0
unfolding number
number-two [] e = absurd (omega arith)
number-two (a ∷ []) e = absurd (omega arith)
number-two (a ∷ b ∷ []) e = omega arith
number-two (a ∷ b ∷ c ∷ bs) e = absurd (omega arith)

pub number-four : (bs : List ℕ) → length bs ≡ 4
    → number bs ≡ from_le_bytes w32 (get_or bs 0 0 ∷ get_or bs 1 0 ∷ get_or bs 2 0 ∷ get_or bs 3 0 ∷ [])
unfolding number
number-four [] e = absurd (omega arith)
number-four (a ∷ []) e = absurd (omega arith)
number-four (a ∷ b ∷ []) e = absurd (omega arith)
number-four (a ∷ b ∷ c ∷ []) e = absurd (omega arith)
number-four (a ∷ b ∷ c ∷ d ∷ []) e = omega arith
number-four (a ∷ b ∷ c ∷ d ∷ x ∷ bs) e = absurd (omega arith)
