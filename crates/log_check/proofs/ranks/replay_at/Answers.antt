use Rattle.std.proofs.Common.{◌<◌, ◌+◌, length, map, sym, ap, subst, ◌∙◌, arith}
use Rattle.std.specs.Prelude.{slice_index, slice_set}
use Rattle.std.proofs.lemmas.List.{get_or_default}
use Rattle.std.specs.Arc.{arc_value}
use Rattle.call_order.specs.Units.{call_lists}
use Rattle.g_pass_def.specs.Answers.{lambdas_of}
use Rattle.log_check.specs.Right.{AreRightUntil}
use Rattle.log_check.proofs.Made.{written}
use Rattle.log_check.proofs.Taken.{passes}
use Rattle.log_check.proofs.ranks.replay_at.Goals as goal

pub returns-then-index-rank-clause-right : goal.returns-then-index-rank-clause-right
returns-then-index-rank-clause-right c =
    let ls = c.args.lambdas.now in
    let ranks = c.args.order.now.ranks.items in
    let deps = call_lists c.args.order.now.deps.items in
    let i = c.args.function in
    let ranked = c.orders_are_unique.ensures.ranked ls ranks deps c.requires.order in
    let inside : i < length ranks = omega (arith, c.requires.inside, ranked.ranks_length) in
    let is = c.index.ensures ∙ get_or_default ranks i c.index.result.now 0 inside in
    passes ls ranks deps c.args.log.now ranked c.args.rank i (lambdas_of (map arc_value c.args.made.now.items)) c.requires.before (λ e. c.if-index-rank.true (is ∙ e))

pub changed_at-requires-clause-before : goal.changed_at-requires-clause-before
changed_at-requires-clause-before c =
    let ls = c.args.lambdas.now in
    let ranks = c.args.order.now.ranks.items in
    let deps = call_lists c.args.order.now.deps.items in
    let i = c.args.function in
    let ranked = c.orders_are_unique.ensures.ranked ls ranks deps c.requires.order in
    let inside : i < length ranks = omega (arith, c.requires.inside, ranked.ranks_length) in
    let is = c.index.ensures ∙ get_or_default ranks i c.index.result.now 0 inside in
    let held = ap (λ xs. lambdas_of (map arc_value xs)) c.deref.ensures.value in
    subst (AreRightUntil ls ranks deps c.args.log.now (slice_index ranks i) i) (sym held)
    (subst (λ r. AreRightUntil ls ranks deps c.args.log.now r i (lambdas_of (map arc_value c.args.made.now.items))) (sym c.if-index-rank.false ∙ is) c.requires.before)

pub returns-clause-right : goal.returns-clause-right
returns-clause-right c =
    let ls = c.args.lambdas.now in
    let ranks = c.args.order.now.ranks.items in
    let deps = call_lists c.args.order.now.deps.items in
    let log = c.args.log.now in
    let made = c.args.made.now.items in
    let i = c.args.function in
    let ranked = c.orders_are_unique.ensures.ranked ls ranks deps c.requires.order in
    let inside : i < length ranks = omega (arith, c.requires.inside, ranked.ranks_length) in
    let same = sym (c.index.ensures ∙ get_or_default ranks i c.index.result.now 0 inside) ∙ c.if-index-rank.false in
    let held = ap (λ xs. lambdas_of (map arc_value xs)) c.deref.ensures.value in
    let changed = c.in_ok-changed.changed in
    let right = subst (λ ks. AreRightUntil ls ranks deps log (slice_index ranks i) (i + 1) (slice_set ks i changed)) held c.in_ok-changed.ensures.right in
    let is = written made i c.in_ok-made.field-0 ∙ ap (slice_set (lambdas_of (map arc_value made)) i) c.in_ok-made.ensures in
    subst (λ r. AreRightUntil ls ranks deps log r (i + 1) (lambdas_of (map arc_value (slice_set made i c.in_ok-made.field-0)))) same
    (subst (AreRightUntil ls ranks deps log (slice_index ranks i) (i + 1)) (sym is) right)
