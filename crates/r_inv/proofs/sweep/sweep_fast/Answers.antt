use Rattle.std.proofs.Common.{◌≡◌, [], length, arith, ap, sym, subst, ◌∙◌}
use Rattle.g_arena_def.specs.Reads.{first_node}
use Rattle.r_inv.specs.Cost.{numbers_left, cost_left}
use Rattle.r_inv.proofs.Going.{Start, IsGoing, no_ends, some_ends, start_at, next_goes, fewer_left, ended, stopped_at, spent_within, on_err}
use Rattle.r_inv.proofs.sweep.sweep_fast.Goals as goal
use Rattle.r_inv.proofs.sweep.sweep_fast.Goals.{in-Some, in-None}

pub loop-next-init : goal.loop-next-init
loop-next-init g c =
    let s : Start = record { nodes = c.args.arena.now; steps = c.args.log.now.items; looks = c.args.looks.now } in
    let first : c.match-ends.next ≡ first_node c.args.arena.now = elim c.match-ends.branch [
      | in-Some w ↦ w.next-is ∙ sym (some_ends c.args.arena.now w.in-Some.first w.in-Some.field-0-1 (sym c.ends.ensures.ends ∙ w.in-Some.is))
      | in-None w ↦ w.next-is ∙ sym (no_ends c.args.arena.now (sym c.ends.ensures.ends ∙ w.in-None.is))
    ] in
    start_at s c.requires c.match-ends.next c.ends.new.looks first c.ends.ensures.looks

pub returns-in_err-next-clause-err : goal.returns-in_err-next-clause-err
returns-in_err-next-clause-err g c = λ l stands well.
    let s : Start = record { nodes = c.args.arena.now; steps = c.args.log.now.items; looks = c.args.looks.now } in
    on_err _ c.from_residual.result
    (stopped_at c.inv_is_listed.ensures.sweep s c.loop-next.arena c.visit.new.arena c.loop-next.log.items c.visit.new.log.items c.loop-next.next c.loop-next.looks c.loop-next.invariant
    c.in_err-next.ensures.err_arena c.in_err-next.ensures.err_log l stands well)

pub returns-in_err-next-clause-looks : goal.returns-in_err-next-clause-looks
returns-in_err-next-clause-looks g c = λ l stands well.
    let s : Start = record { nodes = c.args.arena.now; steps = c.args.log.now.items; looks = c.args.looks.now } in
    omega (
      arith,
      spent_within s c.loop-next.arena c.loop-next.log.items c.loop-next.next c.loop-next.looks c.loop-next.invariant l stands,
      c.in_err-next.ensures.looks,
      ap (λ o. cost_left o c.loop-next.arena) c.in-Some-next.is,
    )

pub loop-next-smaller : goal.loop-next-smaller
loop-next-smaller g c =
    let h = subst (λ o. IsGoing (record { nodes = c.args.arena.now; steps = c.args.log.now.items; looks = c.args.looks.now }) c.loop-next.arena c.loop-next.log.items o c.loop-next.looks)
    c.in-Some-next.is c.loop-next.invariant in
    omega (
      arith,
      fewer_left c.inv_is_listed.ensures.node (λ m k well. (c.inv_keeps_meaning.ensures.step [] m k well).well_formed)
          c.loop-next.arena c.visit.new.arena c.in-Some-next.node h.there.0 h.whole h.there.1 c.in_ok-next.ensures.numbers,
      ap (λ o. length (numbers_left o c.visit.new.arena)) c.in_ok-next.ensures.next,
      ap (λ o. length (numbers_left o c.loop-next.arena)) c.in-Some-next.is,
    )

pub loop-next-preserved : goal.loop-next-preserved
loop-next-preserved g c =
    let s : Start = record { nodes = c.args.arena.now; steps = c.args.log.now.items; looks = c.args.looks.now } in
    let h = subst (λ o. IsGoing s c.loop-next.arena c.loop-next.log.items o c.loop-next.looks) c.in-Some-next.is c.loop-next.invariant in
    subst (λ o. IsGoing s c.visit.new.arena c.visit.new.log.items o c.visit.new.looks) (sym c.in_ok-next.ensures.next)
    (next_goes c.inv_is_listed.ensures.node (λ m k well. (c.inv_keeps_meaning.ensures.step [] m k well).well_formed)
    s c.loop-next.arena c.visit.new.arena c.loop-next.log.items c.visit.new.log.items c.in-Some-next.node c.loop-next.looks c.visit.new.looks h
    c.in_ok-next.ensures.step c.in_ok-next.ensures.numbers c.in_ok-next.ensures.looks)

pub returns-clause-ok : goal.returns-clause-ok
returns-clause-ok g c = λ l stands well.
    let s : Start = record { nodes = c.args.arena.now; steps = c.args.log.now.items; looks = c.args.looks.now } in
    let h = subst (λ o. IsGoing s c.loop-next.arena c.loop-next.log.items o c.loop-next.looks) c.in_default.is c.loop-next.invariant in
    ended c.inv_is_listed.ensures.sweep s c.loop-next.arena c.loop-next.log.items c.loop-next.looks h l stands well

pub returns-clause-looks : goal.returns-clause-looks
returns-clause-looks g c = λ l stands well.
    let s : Start = record { nodes = c.args.arena.now; steps = c.args.log.now.items; looks = c.args.looks.now } in
    omega (arith, spent_within s c.loop-next.arena c.loop-next.log.items c.loop-next.next c.loop-next.looks c.loop-next.invariant l stands)
