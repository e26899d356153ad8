use Rattle.std.proofs.Common.{◌≡◌, ◌+◌, ◌∷◌, ◌∙◌, ap, sym, drop, drop_of_length-le, sum_by, arith}
use Rattle.std.proofs.lemmas.List.{drop_more}
use Rattle.std.proofs.lemmas.List.Sums.{sum_by-cons}
use Rattle.rv_layout.specs.Items.{items_size}
use Rattle.rv_layout.specs.Layout.{item_lists}
use Rattle.rv_layout.proofs.lemmas.Items.{all_first, all_rest, items_size-aligned, functions_step, functions_end}
use Rattle.rv_layout.proofs.items.push_functions.Goals as goal

pub push_function-requires-clause-fits : goal.push_function-requires-clause-fits
push_function-requires-clause-fits c =
    let more : item_lists (drop c.loop-items.items-index c.args.functions.now) ≡ c.deref.result.now
    ∷ item_lists (drop (c.loop-items.items-index + 1) c.args.functions.now) =
    ap item_lists (drop_more c.args.functions.now c.loop-items.items-index c.items-item.result c.loop-items-test.true)
    ∙ ap (λ x. x.items ∷ item_lists (drop (c.loop-items.items-index + 1) c.args.functions.now)) (sym c.items-item.is)
    ∙ ap (λ x. x ∷ item_lists (drop (c.loop-items.items-index + 1) c.args.functions.now)) (sym c.deref.ensures.value)
    in
    all_first _ _ _ _ more c.loop-items.invariant.fits

pub loop-items-preserved : goal.loop-items-preserved
loop-items-preserved c =
    let rest = item_lists (drop (c.loop-items.items-index + 1) c.args.functions.now) in
    let more : item_lists (drop c.loop-items.items-index c.args.functions.now) ≡ c.deref.result.now ∷ rest =
    ap item_lists (drop_more c.args.functions.now c.loop-items.items-index c.items-item.result c.loop-items-test.true)
    ∙ ap (λ x. x.items ∷ rest) (sym c.items-item.is)
    ∙ ap (λ x. x ∷ rest) (sym c.deref.ensures.value)
    in
    let sum : sum_by items_size (item_lists (drop c.loop-items.items-index c.args.functions.now)) ≡ items_size c.deref.result.now + sum_by items_size rest =
    ap (sum_by items_size) more ∙ sum_by-cons items_size c.deref.result.now rest
    in
    let size : c.items_size-at.result ≡ items_size c.deref.result.now =
    c.items_size-at.ensures ∙ ap items_size (c.deref-in-loop-items.ensures.value ∙ sym c.deref.ensures.value)
    in
    record {
      text =
          functions_step c.args.addresses.now c.loop-items.at c.deref.result.now rest (item_lists (drop c.loop-items.items-index c.args.functions.now)) _
          c.loop-items.text.items c.push_function.new.text.items _ more (ap (λ n. c.loop-items.at + n) size) c.loop-items.invariant.text c.in_ok-push_function.ensures;
      end = omega arith;
      aligned = omega (arith, items_size-aligned c.deref.result.now);
      fits = all_rest _ _ _ _ more c.loop-items.invariant.fits;
    }

pub returns : goal.returns
returns c =
    functions_end c.args.addresses.now c.loop-items.at (item_lists (drop c.loop-items.items-index c.args.functions.now)) c.loop-items.text.items _
    (ap item_lists (drop_of_length-le c.args.functions.now c.loop-items-test.false)) c.loop-items.invariant.text
