use Rattle.std.proofs.Common.{ℕ, suc, sym, ap, ◌∙◌, subst, arith}
use Rattle.board_lock.specs.Locks.{lock_of}
use Rattle.board_lock.specs.Seats.{sitting, with_split}
use Rattle.board_work.proofs.HiringLemmas.{each-snoc, split-member, crew-of}
use Rattle.board_work.specs.Crews.{IsMember, IsCrew, first_with}
use Rattle.board_work.specs.Workers.{Each, WorkerFor}
use Rattle.board_work.proofs.hiring.hire.Goals as goal

pub split-requires-clause-rests : goal.split-requires-clause-rests
split-requires-clause-rests g c κs within =
    let fresh = c.requires.fresh in
    ap (λ s. s.has_turn) (c.loop-number.invariant.2 fresh.0 fresh.1).0

pub split-requires-clause-first : goal.split-requires-clause-first
split-requires-clause-first g c κs within =
    let fresh = c.requires.fresh in
    ap (λ s. s.number) (c.loop-number.invariant.2 fresh.0 fresh.1).0

pub split-requires-clause-few : goal.split-requires-clause-few
split-requires-clause-few g c κs within =
    let fresh = c.requires.fresh in
    let at = (c.loop-number.invariant.2 fresh.0 fresh.1).0 in
    let splits = ap (λ s. s.splits) at in
    let number = c.loop-number.invariant.1 in
    let below = c.loop-number-test.true in
    (fresh.0, ap (λ s. s.program) at, omega (arith, splits, number, below, fresh.2))

pub loop-number-preserved : goal.loop-number-preserved
loop-number-preserved g c =
    let workers = c.loop-number.workers in
    let longer = c.in_ok-push.ensures.len in
    let hired = c.in_ok-hired.ensures in (
      c.split.ensures.seat,
      omega (arith, longer, c.loop-number.invariant.1),
      λ board is.
          let at = c.loop-number.invariant.2 board is in
          let holds : ℕ → WorkerFor g.row.W.Denot g.row.W-Made.Denot → Type 0 = λ k. IsMember (lock_of c.args.shared.now) board (suc k) in
          let member = split-member (lock_of c.args.shared.now) board (sitting c.loop-number.first) workers.len c.in_ok-hired.field-0 c.split.result at.0
          c.split.ensures.new c.split.ensures.is_new hired.0 hired.1 in (
            c.split.ensures.splits ∙ ap with_split at.0 ∙ ap (first_with board) (sym longer),
            subst (Each holds) (sym c.in_ok-push.ensures.items) (each-snoc holds workers.items c.in_ok-hired.field-0 at.1 (subst (λ n. holds n c.in_ok-hired.field-0) workers.ok.0 member)),
          ),
    )

pub returns-clause-crew : goal.returns-clause-crew
returns-clause-crew g c = λ board is.
    let at = c.loop-number.invariant.2 board is in
    let workers = c.loop-number.workers in
    let hired = c.in_ok-hired-2.ensures in
    subst (IsCrew (lock_of c.args.shared.now) board) (sym c.in_ok-insert.ensures.items)
    (crew-of (lock_of c.args.shared.now) board workers.len c.in_ok-hired-2.field-0 c.loop-number.first workers.items at.0 c.loop-number.invariant.0 hired.0 hired.1
    workers.ok.0 at.1)
