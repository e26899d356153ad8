use Rattle.std.proofs.Common.{◌≡◌, ◌+◌, ◌∷◌, ◌∙◌, ap, sym, length, drop, drop_of_length-le, arith}
use Rattle.std.proofs.lemmas.List.{drop_more}
use Rattle.std.proofs.lemmas.List.Sums.{sum_by-cons}
use Rattle.std.specs.Ordering.{nat_cmp}
use Rattle.std.specs.BTreeMap.{get}
use Rattle.rv_layout.specs.Items.{item_size, items_size, label_at}
use Rattle.rv_layout.proofs.lemmas.Items.{reaches, items_step, all_first, all_rest, items_short, items_end, item_size-aligned}
use Rattle.rv_layout.proofs.items.push_items.Goals as goal

pub push_item-requires-clause-reaches : goal.push_item-requires-clause-reaches
push_item-requires-clause-reaches c =
    let more : drop c.loop-item.item-index c.args.items.now ≡ c.item-item.result ∷ drop (c.loop-item.item-index + 1) c.args.items.now =
    drop_more c.args.items.now c.loop-item.item-index c.item-item.result c.loop-item-test.true
    ∙ ap (λ x. x ∷ drop (c.loop-item.item-index + 1) c.args.items.now) (sym c.item-item.is)
    in
    reaches (get nat_cmp c.args.labels.now) c.args.items.now c.args.at c.loop-item.here c.item-item.result c.requires.found
    (all_first _ _ _ _ more c.loop-item.invariant.marked)
    (items_short (length c.args.addresses.now.functions) (length c.args.addresses.now.globals) c.args.items.now c.requires.fits)
    c.requires.aligned c.loop-item.invariant.started (omega arith) c.loop-item.invariant.aligned

pub loop-item-preserved : goal.loop-item-preserved
loop-item-preserved c =
    let more : drop c.loop-item.item-index c.args.items.now ≡ c.item-item.result ∷ drop (c.loop-item.item-index + 1) c.args.items.now =
    drop_more c.args.items.now c.loop-item.item-index c.item-item.result c.loop-item-test.true
    ∙ ap (λ x. x ∷ drop (c.loop-item.item-index + 1) c.args.items.now) (sym c.item-item.is)
    in
    let sum : items_size (drop c.loop-item.item-index c.args.items.now) ≡ item_size c.item-item.result + items_size (drop (c.loop-item.item-index + 1) c.args.items.now) =
    ap items_size more ∙ sum_by-cons item_size c.item-item.result (drop (c.loop-item.item-index + 1) c.args.items.now)
    in
    record {
      text =
          items_step c.args.addresses.now (get nat_cmp c.args.labels.now) (λ q. label_at q c.args.at c.args.items.now) c.requires.found c.loop-item.here
          c.item-item.result
          (drop (c.loop-item.item-index + 1) c.args.items.now) (drop c.loop-item.item-index c.args.items.now) _ c.loop-item.text.items c.push_item.new.text.items _ more
          (ap (λ n. c.loop-item.here + n) c.item_size-here.ensures) c.loop-item.invariant.text c.in_ok-push_item.ensures;
      end = omega arith;
      started = omega arith;
      aligned = omega (arith, item_size-aligned c.item-item.result);
      fits = all_rest _ _ _ _ more c.loop-item.invariant.fits;
      marked = all_rest _ _ _ _ more c.loop-item.invariant.marked;
    }

pub returns : goal.returns
returns c =
    items_end c.args.addresses.now (λ q. label_at q c.args.at c.args.items.now) c.loop-item.here (drop c.loop-item.item-index c.args.items.now) c.loop-item.text.items _
    (drop_of_length-le c.args.items.now c.loop-item-test.false) c.loop-item.invariant.text
