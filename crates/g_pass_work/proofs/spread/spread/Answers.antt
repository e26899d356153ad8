use Rattle.std.proofs.Common.{◌≡◌, ◌++◌, ℕ, Bool, List, Vec, Global, take, drop, length, Contains, sym, ap, subst, ◌∙◌, arith}
use Rattle.std.proofs.lemmas.List.{length-map}
use Rattle.std.proofs.Math.Seq.{take-append_seam}
use Rattle.call_order.specs.Units.{call_lists}
use Rattle.g_pass_work.specs.Ranks.{IsByRank, IsSettled}
use Rattle.g_pass_work.proofs.Rows.{row}
use Rattle.g_pass_work.proofs.RankByRank.{inside, deps-settled, next-rank, all-settled}
use Rattle.g_pass_work.proofs.spread.spread.Goals as goal

-- what is written back is what was made of it
written : (new old : List Bool) (n : ℕ) → n ≡ length new → take n (new ++ drop (length new) old) ≡ new
written new old n e = ap (λ m. take m (new ++ drop (length new) old)) e ∙ take-append_seam new (drop (length new) old)

pub settle_all-requires-clause-inside : goal.settle_all-requires-clause-inside
settle_all-requires-clause-inside c f h =
    let lists = c.deref-functions-items.result.now in
    let deps = call_lists c.args.deps.now in
    let same = row lists c.loop-functions.functions-index c.functions-item.result c.loop-functions-test.true c.functions-item.is ∙ sym c.as_slice.ensures.value in
    let by_rank = subst (λ (xs : List (Vec ℕ Global)). IsByRank c.args.ranks.now (call_lists xs)) (sym c.deref-functions-items.ensures.value) c.in_ok-by_rank.ensures in
    let many = length-map c.args.deps.now (λ (v : Vec ℕ Global). v.items) in
    let long = c.requires.all_ranks ∙ sym many in
    omega (arith, inside c.args.ranks.now (call_lists lists) deps c.args.changed.now by_rank long c.loop-functions.functions-index f (subst (λ (xs : List ℕ). Contains xs f) (sym same) h), many)

pub settle_all-requires-clause-settled : goal.settle_all-requires-clause-settled
settle_all-requires-clause-settled c f d h called =
    let lists = c.deref-functions-items.result.now in
    let deps = call_lists c.args.deps.now in
    let same = row lists c.loop-functions.functions-index c.functions-item.result c.loop-functions-test.true c.functions-item.is ∙ sym c.as_slice.ensures.value in
    let by_rank = subst (λ (xs : List (Vec ℕ Global)). IsByRank c.args.ranks.now (call_lists xs)) (sym c.deref-functions-items.ensures.value) c.in_ok-by_rank.ensures in
    let long = c.requires.all_ranks ∙ sym (length-map c.args.deps.now (λ (v : Vec ℕ Global). v.items)) in
    subst (λ (s : List Bool). IsSettled deps c.args.changed.now s d) (sym c.deref_mut.ensures.value)
    (deps-settled c.args.ranks.now (call_lists lists) deps c.args.changed.now by_rank long c.requires.known c.requires.below c.loop-functions.stale.items c.loop-functions.functions-index
    c.loop-functions.invariant.1 f d (subst (λ (xs : List ℕ). Contains xs f) (sym same) h) called)

pub loop-functions-preserved : goal.loop-functions-preserved
loop-functions-preserved c =
    let lists = c.deref-functions-items.result.now in
    let deps = call_lists c.args.deps.now in
    let changed = c.args.changed.now in
    let i = c.loop-functions.functions-index in
    let before = c.loop-functions.stale in
    let after = c.settle_all.new.stale in
    let same = row lists i c.functions-item.result c.loop-functions-test.true c.functions-item.is ∙ sym c.as_slice.ensures.value in
    let by_rank = subst (λ (xs : List (Vec ℕ Global)). IsByRank c.args.ranks.now (call_lists xs)) (sym c.deref-functions-items.ensures.value) c.in_ok-by_rank.ensures in
    let long = c.requires.all_ranks ∙ sym (length-map c.args.deps.now (λ (v : Vec ℕ Global). v.items)) in
    let as_many : length after ≡ length before.items = omega (arith, c.settle_all.auto.stale, ap (λ (xs : List Bool). length xs) c.deref_mut.ensures.value) in
    let is = written after before.items before.len (omega (arith, before.ok.0, as_many)) in (
      ap (λ (xs : List Bool). length xs) is ∙ (as_many ∙ c.loop-functions.invariant.0),
      λ j low rank. subst (λ (s : List Bool). IsSettled deps changed s j) (sym is)
          (next-rank c.args.ranks.now (call_lists lists) deps changed by_rank long before.items after i c.loop-functions.invariant.1
          (λ f h. c.settle_all.ensures.settled f (subst (λ (xs : List ℕ). Contains xs f) same h))
          (λ k was. c.settle_all.ensures.kept k (subst (λ (s : List Bool). IsSettled deps changed s k) (sym c.deref_mut.ensures.value) was)) j low rank),
    )

pub returns-clause-each : goal.returns-clause-each
returns-clause-each c j =
    let lists = c.deref-functions-items.result.now in
    let deps = call_lists c.args.deps.now in
    let by_rank = subst (λ (xs : List (Vec ℕ Global)). IsByRank c.args.ranks.now (call_lists xs)) (sym c.deref-functions-items.ensures.value) c.in_ok-by_rank.ensures in
    let many = length-map c.args.deps.now (λ (v : Vec ℕ Global). v.items) in
    let long = c.requires.all_ranks ∙ sym many in
    let ranks_done : length (call_lists lists) ≡ c.loop-functions.functions-index =
    omega (arith, length-map lists (λ (v : Vec ℕ Global). v.items), c.loop-functions-test.false, c.loop-functions.auto.functions-index-end) in
    let upto = c.loop-functions.invariant.1 in
    all-settled c.args.ranks.now (call_lists lists) deps c.args.changed.now by_rank long c.loop-functions.stale.items (omega (arith, c.requires.all_changed, many))
    (omega (arith, c.loop-functions.invariant.0, many)) (λ k low rank. upto k low (omega (arith, rank, ranks_done))) j
