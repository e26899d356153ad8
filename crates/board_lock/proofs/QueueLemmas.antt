-- Tickets: one is drawn, and the one that is served is given up.
use Rattle.std.proofs.Common.{◌≡◌, ◌≢◌, ℕ, zero, suc, ◌+◌, ◌-◌, ◌%◌, ◌^◌, ◌<◌, ◌≤◌, ⊎_elim, Option, None, Some, List, [], ◌∷◌, ◌++◌, length, set, refl, sym, ap, ◌∙◌, subst, arith}
use mathlib.Core.Option.{some, some-injective, some-ne-none}
use lib.ListN.{get_elem?}
use Rattle.atomic_table.proofs.Lists.{at_set, at_snoc, one_turn}
use Rattle.board_lock.specs.Rule.{ticket_weight, drawn, IsQueue}

pub drawn-set : (tickets : List (Option ℕ)) (i : ℕ) (old new : Option ℕ) → get_elem? tickets i ≡ some old → drawn (set tickets i new) + ticket_weight old ≡ drawn tickets + ticket_weight new
drawn-set [] i old new at = absurd (some-ne-none old (sym at))
drawn-set (x ∷ xs) zero old new at = let is : ticket_weight x ≡ ticket_weight old = ap ticket_weight (some-injective x old at) in omega arith
drawn-set (x ∷ xs) (suc i) old new at = let rest = drawn-set xs i old new at in omega arith

pub drawn-push : (tickets : List (Option ℕ)) → drawn (tickets ++ None ∷ []) ≡ drawn tickets
drawn-push [] = refl
drawn-push (x ∷ xs) = ap (λ (n : ℕ). ticket_weight x + n) (drawn-push xs)

pub drawn-le : (tickets : List (Option ℕ)) → drawn tickets ≤ length tickets
drawn-le [] = omega arith
drawn-le (None ∷ xs) = let rest = drawn-le xs in omega arith
drawn-le (Some t ∷ xs) = let rest = drawn-le xs in omega arith

-- two tickets at different places of the row differ
apart : (served j k : ℕ) → j < k → k < 2 ^ 32 → (served + j) % 2 ^ 64 ≢ (served + k) % 2 ^ 64
apart served j k less few same = let one = one_turn (served + j) (served + k) (2 ^ 64) (omega arith) (omega arith) same in omega arith

Some-injective : {A : Type 0} (x y : A) → Some x ≡ Some y → x ≡ y
Some-injective x y same = cc

pub draws-ticket : (next served ticket : ℕ) (tickets : List (Option ℕ)) (i : ℕ) → IsQueue next served tickets → ticket ≡ next → length tickets < 2 ^ 32
    → get_elem? tickets i ≡ some None → IsQueue ((next + 1) % 2 ^ 64) served (set tickets i (Some ticket))
draws-ticket next served ticket tickets i queue is few at =
    let more : drawn (set tickets i (Some ticket)) + 0 ≡ drawn tickets + 1 = drawn-set tickets i None (Some ticket) at in
    let most = drawn-le tickets in
    let next_is = queue.next_is in
    let last : (t : ℕ) → ticket ≡ t → t ≡ (served + drawn tickets) % 2 ^ 64 = λ t e. sym e ∙ is ∙ next_is in
    let old : (j t : ℕ) → t ≡ (served + drawn tickets) % 2 ^ 64 → get_elem? tickets j ≢ some (Some t) =
    λ j t e there. let found = queue.within j t there in
    let k : ℕ = found.0 in let below : k < drawn tickets = found.1 in
    apart served k (drawn tickets) below (omega arith) (sym found.2 ∙ e) in
    record {
      next_is = omega arith;
      within =
          λ j t there.
          ⊎_elim (λ (e : (j ≡ i) × (Some ticket ≡ Some t)). (drawn tickets, omega arith, last t (Some-injective ticket t e.1)))
          (λ (e : (j ≢ i) × (get_elem? tickets j ≡ some (Some t))). let found = queue.within j t e.1 in
          let k : ℕ = found.0 in let below : k < drawn tickets = found.1 in (k, omega arith, found.2))
          (at_set tickets i j (Some ticket) (Some t) there);
      once =
          λ j k t here there.
          ⊎_elim
          (λ (e : (j ≡ i) × (Some ticket ≡ Some t)). ⊎_elim (λ (f : (k ≡ i) × (Some ticket ≡ Some t)). e.0 ∙ sym f.0)
          (λ (f : (k ≢ i) × (get_elem? tickets k ≡ some (Some t))). absurd (old k t (last t (Some-injective ticket t e.1)) f.1))
          (at_set tickets i k (Some ticket) (Some t) there))
          (λ (e : (j ≢ i) × (get_elem? tickets j ≡ some (Some t))). ⊎_elim
          (λ (f : (k ≡ i) × (Some ticket ≡ Some t)). absurd (old j t (last t (Some-injective ticket t f.1)) e.1))
          (λ (f : (k ≢ i) × (get_elem? tickets k ≡ some (Some t))). queue.once j k t e.1 f.1)
          (at_set tickets i k (Some ticket) (Some t) there))
          (at_set tickets i j (Some ticket) (Some t) here);
    }

-- what is left at a place that is set to none was there before, elsewhere
kept : (tickets : List (Option ℕ)) (i j t : ℕ) → get_elem? (set tickets i None) j ≡ some (Some t) → (j ≢ i) × (get_elem? tickets j ≡ some (Some t))
kept tickets i j t there =
    ⊎_elim (λ (e : (j ≡ i) × (None ≡ Some t)). absurd (let none = e.1 in cc))
    (λ (e : (j ≢ i) × (get_elem? tickets j ≡ some (Some t))). e) (at_set tickets i j None (Some t) there)

pub leaves-ticket : (next served : ℕ) (tickets : List (Option ℕ)) (i : ℕ) → IsQueue next served tickets → served < 2 ^ 64 → length tickets < 2 ^ 32
    → get_elem? tickets i ≡ some (Some served) → IsQueue next ((served + 1) % 2 ^ 64) (set tickets i None)
leaves-ticket next served tickets i queue small few at =
    let less : drawn (set tickets i None) + 1 ≡ drawn tickets + 0 = drawn-set tickets i (Some served) None at in
    let next_is = queue.next_is in
    record {
      next_is = omega arith;
      within =
          λ j t there.
          let old = kept tickets i j t there in
          let found = queue.within j t old.1 in
          let k : ℕ = found.0 in
          let below : k < drawn tickets = found.1 in
          let is : t ≡ (served + k) % 2 ^ 64 = found.2 in
          let later : k ≢ 0 = λ zero_is. old.0 (queue.once j i t old.1 (at ∙ ap (λ (n : ℕ). some (Some n)) (let same : served ≡ t = omega arith in same))) in
          (k - 1, omega arith, omega arith);
      once = λ j k t here there. queue.once j k t (kept tickets i j t here).1 (kept tickets i k t there).1;
    }

pub pushes-none : (next served : ℕ) (tickets : List (Option ℕ)) → IsQueue next served tickets → IsQueue next served (tickets ++ None ∷ [])
pushes-none next served tickets queue =
    let same = drawn-push tickets in
    let before : (j t : ℕ) → get_elem? (tickets ++ None ∷ []) j ≡ some (Some t) → get_elem? tickets j ≡ some (Some t) =
    λ j t there. ⊎_elim (λ (e : get_elem? tickets j ≡ some (Some t)). e) (λ (e : None ≡ Some t). absurd (cc)) (at_snoc tickets None (Some t) j there) in
    record {
      next_is = queue.next_is ∙ ap (λ (n : ℕ). (served + n) % 2 ^ 64) (sym same);
      within = λ j t there. let found = queue.within j t (before j t there) in (found.0, subst (λ (n : ℕ). found.0 < n) (sym same) found.1, found.2);
      once = λ j k t here there. queue.once j k t (before j t here) (before k t there);
    }
