use Rattle.std.proofs.Common.{◌≡◌, [], arith, ap, sym, subst, ◌∙◌}
use Rattle.g_arena_def.specs.Reads.{last_node}
use Rattle.r_dne.proofs.Gammas.{on_err}
use Rattle.r_dne.proofs.Going.{Start, IsGoing, nodes_left, no_ends, some_ends, start_at, there, spent_here, next_goes, fewer_left, ended, stopped_at, all_within, spent_within}
use Rattle.r_dne.proofs.sweep.sweep_fast.Goals as goal
use Rattle.r_dne.proofs.sweep.sweep_fast.Goals.{in-Some, in-None}

pub loop-next-init : goal.loop-next-init
loop-next-init g c =
    let s : Start = record { nodes = c.args.arena.now; steps = c.args.log.now.items; looks = c.args.looks.now } in
    let last : c.match-ends.next ≡ last_node c.args.arena.now = elim c.match-ends.branch [
      | in-Some w ↦ w.next-is ∙ sym (some_ends c.args.arena.now w.in-Some.field-0-0 w.in-Some.last (sym c.ends.ensures.ends ∙ w.in-Some.is))
      | in-None w ↦ w.next-is ∙ sym (no_ends c.args.arena.now (sym c.ends.ensures.ends ∙ w.in-None.is))
    ] in
    start_at s c.requires c.match-ends.next c.ends.new.looks last c.ends.ensures.looks

pub visit-requires-clause-whole : goal.visit-requires-clause-whole
visit-requires-clause-whole g c = c.loop-next.invariant.whole

pub visit-requires-clause-there : goal.visit-requires-clause-there
visit-requires-clause-there g c =
    let s : Start = record { nodes = c.args.arena.now; steps = c.args.log.now.items; looks = c.args.looks.now } in
    there s c.loop-next.arena c.loop-next.log.items c.in-Some-next.node c.loop-next.looks (subst (λ o. IsGoing s c.loop-next.arena c.loop-next.log.items o c.loop-next.looks) c.in-Some-next.is c.loop-next.invariant)

pub returns-in_err-next-clause-err : goal.returns-in_err-next-clause-err
returns-in_err-next-clause-err g c = λ l stands well.
    let s : Start = record { nodes = c.args.arena.now; steps = c.args.log.now.items; looks = c.args.looks.now } in
    on_err _ c.from_residual.result
    (stopped_at c.dne_is_listed.ensures.sweep s c.loop-next.arena c.visit.new.arena c.loop-next.log.items c.visit.new.log.items c.loop-next.next c.loop-next.looks c.loop-next.invariant
    c.in_err-next.ensures.err_arena c.in_err-next.ensures.err_log l stands well)

pub returns-in_err-next-clause-looks : goal.returns-in_err-next-clause-looks
returns-in_err-next-clause-looks g c = λ l stands well.
    let s : Start = record { nodes = c.args.arena.now; steps = c.args.log.now.items; looks = c.args.looks.now } in
    let h = subst (λ o. IsGoing s c.loop-next.arena c.loop-next.log.items o c.loop-next.looks) c.in-Some-next.is c.loop-next.invariant in
    all_within s c.visit.new.looks (spent_here s c.loop-next.arena c.loop-next.log.items c.in-Some-next.node c.loop-next.looks h c.visit.new.looks c.in_err-next.ensures.looks) l stands

pub loop-next-smaller : goal.loop-next-smaller
loop-next-smaller g c =
    let s : Start = record { nodes = c.args.arena.now; steps = c.args.log.now.items; looks = c.args.looks.now } in
    let h = subst (λ o. IsGoing s c.loop-next.arena c.loop-next.log.items o c.loop-next.looks) c.in-Some-next.is c.loop-next.invariant in
    omega (
      arith,
      fewer_left s c.loop-next.arena c.loop-next.log.items c.in-Some-next.node c.loop-next.looks h c.dne_is_listed.ensures.node (λ m k well. (c.dne_keeps_meaning.ensures.step [] m k well).well_formed)
          c.visit.new.arena c.visit.new.log.items c.in_ok-next.ensures.step,
      ap (λ o. nodes_left o c.visit.new.arena) c.in_ok-next.ensures.next,
      ap (λ o. nodes_left o c.loop-next.arena) c.in-Some-next.is,
    )

pub loop-next-preserved : goal.loop-next-preserved
loop-next-preserved g c =
    let s : Start = record { nodes = c.args.arena.now; steps = c.args.log.now.items; looks = c.args.looks.now } in
    let h = subst (λ o. IsGoing s c.loop-next.arena c.loop-next.log.items o c.loop-next.looks) c.in-Some-next.is c.loop-next.invariant in
    subst (λ o. IsGoing s c.visit.new.arena c.visit.new.log.items o c.visit.new.looks) (sym c.in_ok-next.ensures.next)
    (next_goes s c.loop-next.arena c.loop-next.log.items c.in-Some-next.node c.loop-next.looks h c.dne_is_listed.ensures.node (λ m k well. (c.dne_keeps_meaning.ensures.step [] m k well).well_formed)
    c.visit.new.arena c.visit.new.log.items c.in_ok-next.ensures.step c.visit.new.looks c.in_ok-next.ensures.looks)

pub returns-clause-ok : goal.returns-clause-ok
returns-clause-ok g c = λ l stands well.
    let s : Start = record { nodes = c.args.arena.now; steps = c.args.log.now.items; looks = c.args.looks.now } in
    let h = subst (λ o. IsGoing s c.loop-next.arena c.loop-next.log.items o c.loop-next.looks) c.in_default.is c.loop-next.invariant in
    ended c.dne_is_listed.ensures.sweep s c.loop-next.arena c.loop-next.log.items c.loop-next.looks h l stands well

pub returns-clause-looks : goal.returns-clause-looks
returns-clause-looks g c = λ l stands well.
    let s : Start = record { nodes = c.args.arena.now; steps = c.args.log.now.items; looks = c.args.looks.now } in
    spent_within s c.loop-next.arena c.loop-next.log.items c.loop-next.next c.loop-next.looks c.loop-next.invariant l stands
