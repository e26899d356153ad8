use Rattle.std.proofs.Common.{◌≡◌, ◌+◌, ◌<◌, ◌∙◌, ap, length, refl, arith}
use Rattle.std.specs.Vec.{with_items}
use Rattle.std.specs.Prelude.{◌^◌}
use Rattle.std.proofs.lemmas.List.{with_items_is}
use Rattle.a_share.specs.declared.counts.Counts.{Counts}
use Rattle.a_share.proofs.Counting.{added, counted, filled_again, one_in}
use Rattle.a_share.proofs.counts.Counts.add.Goals as goal

pub returns-clause-counts : goal.returns-clause-counts
returns-clause-counts c =
    let was = c.args.self.now in
    let old = c.fill.new.self in
    let filled = c.in_ok-fill.ensures in
    let new : Counts = record { sums = with_items old.sums c.add_up.new.sums; size = old.size; total = old.total + 1 } in
    let size : length c.add_up.new.sums ≡ old.sums.len = omega (arith, c.add_up.auto.sums, c.deref_mut.ensures.len, old.sums.ok.0) in
    let inside : c.args.position < old.size = omega (arith, c.requires.inside, filled.size) in
    let few : old.total < 4294967295 = omega (arith, filled.filled.fits, filled.total, c.if-self.false) in
    let small : old.size < 2 ^ 63 = omega (arith, c.requires.counts.small, filled.size) in
    counted new small (omega arith)
    (filled_again old new c.args.position c.deref_mut.result.now c.add_up.new.sums filled.filled inside refl refl few refl c.deref_mut.ensures.value
    (with_items_is old.sums c.add_up.new.sums size) c.add_up.ensures.tree c.add_up.ensures.others c.add_up.ensures.most)

pub returns-clause-added : goal.returns-clause-added
returns-clause-added c = λ l r a b.
    let old = c.fill.new.self in
    let filled = c.in_ok-fill.ensures in
    let new : Counts = record { sums = with_items old.sums c.add_up.new.sums; size = old.size; total = old.total + 1 } in
    let size : length c.add_up.new.sums ≡ old.sums.len = omega (arith, c.add_up.auto.sums, c.deref_mut.ensures.len, old.sums.ok.0) in
    let inside : c.args.position < old.size = omega (arith, c.requires.inside, filled.size) in
    let few : old.total < 4294967295 = omega (arith, filled.filled.fits, filled.total, c.if-self.false) in
    added old new c.args.position c.deref_mut.result.now c.add_up.new.sums filled.filled inside refl refl few refl c.deref_mut.ensures.value
    (with_items_is old.sums c.add_up.new.sums size) c.add_up.ensures.tree c.add_up.ensures.others c.add_up.ensures.most l r a (omega (arith, b, filled.size))
    ∙ ap (λ z. one_in l r c.args.position + z) (filled.same l r)
