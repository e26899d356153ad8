use Rattle.std.proofs.Common.{rules, ◌≡◌, ℕ, List, length, slice_index_or, Contains, ap, sym, subst, ◌∙◌}
use Rattle.std.specs.List.{range_with_len}
use Rattle.std.proofs.lemmas.List.FromFn.{length-range_with_len}
use Rattle.std.proofs.lemmas.List.Sorted.{Contains-permutation, length_permutation, IsPermutation-sym, IsNonDecreasingBy-from_sort_by_key}
use Rattle.g_pass_order.proofs.lemmas.Contained.{in-range, range-has}
use Rattle.cc_view.proofs.by_rank.by_rank.Goals as goal

pub returns-clause-counted : goal.returns-clause-counted
returns-clause-counted c =
    length_permutation _ _ c.sort_unstable_by_key.ensures.permutation ∙ (ap (λ (xs : List ℕ). length xs) c.in_ok-turns.ensures ∙ length-range_with_len 0 (length c.args.ranks.now))

pub returns-clause-all : goal.returns-clause-all
returns-clause-all c =
    let count = length c.args.ranks.now in
    let all : c.in_ok-turns.turns.items ≡ range_with_len 0 count = c.in_ok-turns.ensures in
    let moved = c.sort_unstable_by_key.ensures.permutation in
    λ f. (
      λ h. in-range count f (subst (λ (xs : List ℕ). Contains xs f) all (Contains-permutation _ _ f (IsPermutation-sym _ _ moved) h)),
      λ low. Contains-permutation _ _ f moved (subst (λ (xs : List ℕ). Contains xs f) (sym all) (range-has count f low)),
    )

pub returns-clause-sorted : goal.returns-clause-sorted
returns-clause-sorted c =
    IsNonDecreasingBy-from_sort_by_key (λ f. slice_index_or c.args.ranks.now f 0) _ c.sort_unstable_by_key.ensures.sorted (λ a r q k. search rules)
