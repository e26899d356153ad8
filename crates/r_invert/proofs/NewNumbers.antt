-- How many numbers are new: none of the old ones, and all of those that come.
use Rattle.std.specs.Prelude.{nat_le}
use Rattle.std.proofs.Common.{◌≡◌, ℕ, ◌+◌, ◌<◌, ◌≤◌, false, true, cond, List, [], ◌∷◌, ◌++◌, length, refl, ap, ◌∙◌, inl, inr, arith}
use Rattle.std.proofs.lemmas.Bool.Decides.{nat_tests}
use Rattle.std.proofs.lemmas.List.Sums.{sum_by-cons, sum_by-append}
use Rattle.r_invert.specs.Edit.{new_in}
use Rattle.g_mean.specs.Copies.{IsAmong}
use Rattle.g_mean.proofs.lemmas.Copies.{among-left, among-right}

new-append : (next : ℕ) (xs ys : List ℕ) → new_in next (xs ++ ys) ≡ new_in next xs + new_in next ys
new-append next xs ys = sum_by-append (λ m. cond (nat_le next m) 1 0) xs ys

new-cons : (next x : ℕ) (xs : List ℕ) → new_in next (x ∷ xs) ≡ cond (nat_le next x) 1 0 + new_in next xs
new-cons next x xs = sum_by-cons (λ m. cond (nat_le next m) 1 0) x xs

pub none_new : (next : ℕ) (ids : List ℕ) → ((n : ℕ) → IsAmong n ids → n < next) → new_in next ids ≡ 0
none_new next [] h = refl
none_new next (x ∷ ids) h =
    let less : x < next = h x (inl refl) in
    let old : nat_le next x ≡ false = grind (arith, nat_tests) in
    omega (arith, new-cons next x ids ∙ ap (λ t. cond t 1 0 + new_in next ids) old, none_new next ids (λ n k. h n (inr k)))

pub all_new : (next : ℕ) (ids : List ℕ) → ((n : ℕ) → IsAmong n ids → next ≤ n) → new_in next ids ≡ length ids
all_new next [] h = refl
all_new next (x ∷ ids) h =
    let least : next ≤ x = h x (inl refl) in
    let new : nat_le next x ≡ true = grind (arith, nat_tests) in
    omega (arith, new-cons next x ids ∙ ap (λ t. cond t 1 0 + new_in next ids) new, all_new next ids (λ n k. h n (inr k)))

-- of old numbers with new ones among them
pub new_within : (next : ℕ) (first before old new after last : List ℕ) → ((n : ℕ) → IsAmong n ((first ++ (before ++ (old ++ after))) ++ last) → n < next) →
    ((n : ℕ) → IsAmong n new → next ≤ n) → new_in next ((first ++ (before ++ (new ++ after))) ++ last) ≡ length new
new_within next first before old new after last h k =
    omega (
      arith,
      new-append next (first ++ (before ++ (new ++ after))) last,
      new-append next first (before ++ (new ++ after)),
      new-append next before (new ++ after),
      new-append next new after,
      none_new next first (λ n j. h n (among-left n (first ++ (before ++ (old ++ after))) last (among-left n first (before ++ (old ++ after)) j))),
      none_new next before
          (λ n j. h n (among-left n (first ++ (before ++ (old ++ after))) last (among-right n first (before ++ (old ++ after)) (among-left n before (old ++ after) j)))),
      all_new next new k,
      none_new next after
          (λ n j. h n (among-left n (first ++ (before ++ (old ++ after))) last (among-right n first (before ++ (old ++ after)) (among-right n before (old ++ after) (among-right n old after j))))),
      none_new next last (λ n j. h n (among-right n (first ++ (before ++ (old ++ after))) last j)),
    )
