use Rattle.std.proofs.Common.{◌≡◌, ◌∙◌, ◌++◌, subst, ap}
use Rattle.std.specs.List.Sorted.{IsPermutation}
use Rattle.std.proofs.lemmas.List.Sorted.{IsPermutation-trans}
use Rattle.std.proofs.lemmas.Result.{IfOk-weaker}
use Rattle.a_share.specs.Pairs.{pairs}
use Rattle.a_share.proofs.segments.segments_of.Goals as goal

pub returns : goal.returns
returns c =
    let copied : c.extend_from_slice.new.self.items ≡ c.args.bounds.now = c.in_ok-extend_from_slice.ensures.items ∙ ap (λ xs. xs ++ c.args.bounds.now) c.clear.ensures.items in
    let turned : IsPermutation c.args.bounds.now c.reverse.new.self.items = subst (λ xs. IsPermutation xs c.reverse.new.self.items) copied c.reverse.ensures.permutation in
    IfOk-weaker c.paired.result _ _
    (λ s made. record {
      sorted = c.sort_unstable.new.self.items;
      same = IsPermutation-trans c.args.bounds.now c.reverse.new.self.items c.sort_unstable.new.self.items turned c.sort_unstable.ensures.permutation;
      ascending = c.sort_unstable.ensures.sorted;
      pairs_of = made ∙ ap (pairs c.args.end) c.as_slice.ensures.value;
    }) c.paired.ensures
