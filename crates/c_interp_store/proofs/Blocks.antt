-- Blocks that are listed, by their numbers.
use Rattle.std.proofs.Common.{◌≡◌, ℕ, zero, suc, ◌<◌, ◌≤◌, ◌++◌, true, false, Bool, List, [], ◌∷◌, length, get_or, set, map, Option, Some, None, refl, ap, arith}
use Rattle.std.specs.Prelude.{if◌then◌else◌, ◌==◌}
use Rattle.std.proofs.lemmas.Bool.Decides.{nat_tests}
use Rattle.std.proofs.lemmas.Bool.{eq-eqb, ne_eqb}
use Rattle.val_core.specs.Memory as m
use Rattle.c_interp_store.specs.declared.block.Block.{Block}
use Rattle.c_interp_store.specs.Ascending.{ascends, IsAbsent}
use Rattle.c_interp_store.specs.Blocks.{number_of, block_of, listed}
use Rattle.c_interp_store.proofs.Ascending.{first_ascends, is_above, AreBelow}

-- the first where there is one, else the second
abbrev pub or_else : Option m.Block → Option m.Block → Option m.Block
or_else (Some k) other = Some k
or_else None other = other

pub or_none : (o : Option m.Block) → or_else o None ≡ o
or_none None = refl
or_none (Some k) = refl

pub listed_none : (n : ℕ) (bs : List Block) → IsAbsent number_of bs n → listed n bs ≡ None
listed_none n [] none = refl
listed_none n (b ∷ bs) none = rw (ne_eqb b.number n (none 0 b (omega arith))) (listed_none n bs (λ i d lt. none (suc i) d (omega arith)))

pub listed_at : (n from : ℕ) (bs : List Block) (i : ℕ) (d : Block) → ascends number_of from bs ≡ true → i < length bs → number_of (get_or bs i d) ≡ n → listed n bs ≡ Some (block_of (get_or bs i d))
listed_at n from [] i d h lt same = absurd (omega arith)
listed_at n from (b ∷ bs) zero d h lt same = rw (eq-eqb b.number n same) refl
listed_at n from (b ∷ bs) (suc i) d h lt same =
    let f = first_ascends number_of from b bs h in
    let a = is_above number_of (suc (number_of b)) bs i d f.1 (omega arith) in
    rw (ne_eqb b.number n (λ e. omega (arith, a, same))) (listed_at n (suc (number_of b)) bs i d f.1 (omega arith) same)

pub listed_set : (n : ℕ) (bs : List Block) (i : ℕ) (b d : Block) → (from : ℕ) → ascends number_of from bs ≡ true → i < length bs → number_of b ≡ number_of (get_or bs i d) →
    listed n (set bs i b) ≡ (if b.number == n then Some (block_of b) else listed n bs)
listed_set n [] i b d from h lt same = absurd (omega arith)
listed_set n (x ∷ bs) zero b d from h lt same = by_test (b.number == n) (rw (← same) refl)
  where
    by_test : (t : Bool) → (x.number == n) ≡ t → (if t then Some (block_of b) else listed n bs) ≡ (if t then Some (block_of b) else (if x.number == n then Some (block_of x) else listed n bs))
    by_test true e = refl
    by_test false e = rw e refl
listed_set n (x ∷ bs) (suc i) b d from h lt same =
    let f = first_ascends number_of from x bs h in
    let a = is_above number_of (suc (number_of x)) bs i d f.1 (omega arith) in
    let next = listed_set n bs i b d (suc (number_of x)) f.1 (omega arith) same in
    by_test (x.number == n) refl (λ e. ne_eqb b.number n (λ (s : b.number ≡ n). omega (arith, a, same, s, e))) next
  where
    by_test : (t : Bool) → (x.number == n) ≡ t → (x.number ≡ n → (b.number == n) ≡ false) → listed n (set bs i b) ≡ (if b.number == n then Some (block_of b) else listed n bs) →
        (if x.number == n then Some (block_of x) else listed n (set bs i b)) ≡ (if b.number == n then Some (block_of b) else (if x.number == n then Some (block_of x) else listed n bs))
    by_test true e other next = rw (e, other (grind (arith, nat_tests))) refl
    by_test false e other next = rw e next

pub listed_append : (n : ℕ) (bs ks : List Block) → listed n (bs ++ ks) ≡ or_else (listed n bs) (listed n ks)
listed_append n [] ks = refl
listed_append n (b ∷ bs) ks = by_test (b.number == n) (listed_append n bs ks)
  where
    by_test : (t : Bool) → listed n (bs ++ ks) ≡ or_else (listed n bs) (listed n ks) → (if t then Some (block_of b) else listed n (bs ++ ks))
        ≡ or_else (if t then Some (block_of b) else listed n bs) (listed n ks)
    by_test true next = refl
    by_test false next = next

-- no number below the first one is there
pub listed_low : (n from : ℕ) (bs : List Block) → ascends number_of from bs ≡ true → n < from → listed n bs ≡ None
listed_low n from [] h lt = refl
listed_low n from (b ∷ bs) h lt =
    let f = first_ascends number_of from b bs h in
    rw (ne_eqb b.number n (λ e. omega (arith, f.0))) (listed_low n (suc (number_of b)) bs f.1 (omega (arith, f.0)))

-- nor one from the bound on
pub listed_high : (n bound : ℕ) (bs : List Block) → AreBelow bound (map number_of bs) → bound ≤ n → listed n bs ≡ None
listed_high n bound [] below le = refl
listed_high n bound (b ∷ bs) below le = rw (ne_eqb b.number n (λ e. omega (arith, below.0))) (listed_high n bound bs below.1 le)

pub numbers_set : (bs : List Block) (i : ℕ) (b d : Block) → i < length bs → number_of b ≡ number_of (get_or bs i d) → map number_of (set bs i b) ≡ map number_of bs
numbers_set [] i b d lt same = absurd (omega arith)
numbers_set (x ∷ bs) zero b d lt same = ap (λ n. n ∷ map number_of bs) same
numbers_set (x ∷ bs) (suc i) b d lt same = ap (λ ns. number_of x ∷ ns) (numbers_set bs i b d (omega arith) same)
