use Rattle.std.proofs.Common.{ℕ, suc, length, sym, ap, ◌∙◌, subst}
use Rattle.board_lock.specs.Locks.{lock_of}
use Rattle.board_lock.specs.Seats.{sitting, IsSeatOf}
use Rattle.board_work.proofs.HiringLemmas.{each-init, each-last, takes-in}
use Rattle.board_work.specs.Crews.{IsMember, IsTakingIn}
use Rattle.board_work.specs.Workers.{Each, WorkerFor}
use Rattle.board_work.proofs.hiring.take_in.Goals as goal

pub join-requires-clause-seat : goal.join-requires-clause-seat
join-requires-clause-seat g c κs within = (c.loop-worker.invariant c.requires.taking.0 c.requires.taking.1 c.requires.taking.2 c.requires.taking.3).0.of

pub join-requires-clause-other : goal.join-requires-clause-other
join-requires-clause-other g c κs within =
    let at = c.loop-worker.invariant c.requires.taking.0 c.requires.taking.1 c.requires.taking.2 c.requires.taking.3 in
    let holds : ℕ → WorkerFor g.row.W.Denot g.row.W-Made.Denot → Type 0 = λ k. IsMember (lock_of c.args.shared.now) c.requires.taking.0 (suc k) in
    let member = each-last holds c.pop.new.self.items c.in-Some.worker (subst (Each holds) c.in-Some.ensures.items at.1) in
    subst (IsSeatOf (lock_of c.args.shared.now)) (sym c.seat_of.ensures) member.rests.seated.0

pub join-requires-clause-rests : goal.join-requires-clause-rests
join-requires-clause-rests g c κs within = (c.loop-worker.invariant c.requires.taking.0 c.requires.taking.1 c.requires.taking.2 c.requires.taking.3).0.turn

pub join-requires-clause-other_rests : goal.join-requires-clause-other_rests
join-requires-clause-other_rests g c κs within =
    let at = c.loop-worker.invariant c.requires.taking.0 c.requires.taking.1 c.requires.taking.2 c.requires.taking.3 in
    let holds : ℕ → WorkerFor g.row.W.Denot g.row.W-Made.Denot → Type 0 = λ k. IsMember (lock_of c.args.shared.now) c.requires.taking.0 (suc k) in
    let member = each-last holds c.pop.new.self.items c.in-Some.worker (subst (Each holds) c.in-Some.ensures.items at.1) in
    ap (λ s. (sitting s).has_turn) c.seat_of.ensures ∙ member.rests.turn

pub join-requires-clause-first : goal.join-requires-clause-first
join-requires-clause-first g c κs within = (c.loop-worker.invariant c.requires.taking.0 c.requires.taking.1 c.requires.taking.2 c.requires.taking.3).0.number

pub loop-worker-preserved : goal.loop-worker-preserved
loop-worker-preserved g c = λ board front taking each.
    let lock = lock_of c.args.shared.now in
    let at = c.loop-worker.invariant board front taking each in
    let holds : ℕ → WorkerFor g.row.W.Denot g.row.W-Made.Denot → Type 0 = λ k. IsMember lock board (suc k) in
    let left = c.pop.new.self in
    let all = subst (Each holds) c.in-Some.ensures.items at.1 in
    let longer = subst (λ n. IsTakingIn lock board front n c.loop-worker.seat) (sym c.in-Some.ensures.len) at.0 in (
      takes-in lock board front (suc (length left.items)) left.len c.in-Some.worker c.seat_of.result c.loop-worker.seat c.join.new.seat
          (each-last holds left.items c.in-Some.worker all) (sym c.seat_of.ensures) longer c.join.ensures.seat c.join.ensures.takes_in,
      each-init holds left.items c.in-Some.worker all,
    )

pub returns : goal.returns
returns g c = λ board front taking each.
    let at = c.loop-worker.invariant board front taking each in
    subst (λ n. IsTakingIn (lock_of c.args.shared.now) board front n c.loop-worker.seat) c.in_default.ensures.cases.0 at.0
