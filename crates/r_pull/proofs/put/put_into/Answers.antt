-- The node moved into the Gamma of the place, or does not fit there.
use Rattle.std.proofs.Common.{◌≡◌, Some, length, slice_get, slice_set, refl, sym, ap, ◌∙◌, arith}
use Rattle.std.proofs.lemmas.Option.{slice_get_read, slice_get_past}
use Rattle.r_pull.specs.Walk.{put_where}
use Rattle.r_pull.specs.Behind.{behind, IsWritten}
use Rattle.r_pull.proofs.Loops.{on_both}
use Rattle.r_pull.proofs.Steps.{is_there, kept, moved}
use Rattle.r_pull.proofs.put.put_into.Goals as goal
use Rattle.r_walk.specs.Asks.{walking}

pub returns-in-Some-clause-ok : goal.returns-in-Some-clause-ok
returns-in-Some-clause-ok c =
    let ws = c.args.written.now.items in
    let g = c.index_mut.result.now in
    let w = walking c.args.counts.now.values c.args.counts.now.next c.args.log.now.items in
    let at : slice_get ws c.args.place ≡ Some g = slice_get_read ws (length ws) c.args.place g refl (omega arith) c.index_mut.ensures.value in
    on_both c.step.result _ _ _
    (λ noted now results are.
    moved c.args.node results ws w c.args.users.now are c.args.place c.requires.user c.requires.leaves g at c.in-Some.moved c.step.new.users _ _ (sym c.in-Some.is ∙ c.in_ok-moved.ensures.moved) (ap (slice_set ws c.args.place) c.in_ok-moved.ensures.user) noted now)
    c.step.ensures.users c.step.ensures.now

pub returns-in-None-clause-ok : goal.returns-in-None-clause-ok
returns-in-None-clause-ok c =
    let ws = c.args.written.now.items in
    let g = c.index_mut.result.now in
    let w = walking c.args.counts.now.values c.args.counts.now.next c.args.log.now.items in
    let at : slice_get ws c.args.place ≡ Some g = slice_get_read ws (length ws) c.args.place g refl (omega arith) c.index_mut.ensures.value in
    on_both c.write.result _ _ _
    (λ nodes noted results are.
    kept c.args.node results ws w c.args.users.now are c.args.place c.requires.user c.requires.leaves g at c.write.new.users _ _ (sym c.in-None.is ∙ c.in_ok-moved.ensures.moved) (ap (slice_set ws c.args.place) c.in_ok-moved.ensures.user) nodes noted)
    c.write.ensures.nodes c.write.ensures.users

pub returns-then-place-len-clause-ok : goal.returns-then-place-len-clause-ok
returns-then-place-len-clause-ok c = λ results are.
    let ws = c.args.written.now.items in
    let w = walking c.args.counts.now.values c.args.counts.now.next c.args.log.now.items in
    absurd {A = IsWritten results (put_where c.args.node results (behind ws w)) ws c.args.users.now w} (is_there c.args.node results ws w c.args.users.now are c.args.place c.requires.user c.requires.leaves (slice_get_past ws c.args.place (omega (arith, c.if-place-len.true))))
