-- Where all workers have finished, all jobs are out on the board at the end.
use Rattle.std.proofs.Common.{◌≡◌, ℕ, ◌++◌, Option, Some, List, [], ◌∷◌, refl, sym, ap, ◌∙◌, subst, arith}
use Rattle.std.specs.Prelude.{unwrap_or, is_some, IsSome}
use Rattle.atomic_table.specs.Seated.{TableId}
use Rattle.board_core.specs.declared.event.Event.{Event}
use Rattle.board_core.specs.Board.{Job, Open, Held, Out, Program, job_at, result_of, replay, IsLegal}
use Rattle.board_core.specs.Calls.{AllOut}
use Rattle.board_core.specs.History.{History, program_of, state_of}
use Rattle.board_core.specs.Beginnings.{ResultsStay}
use Rattle.board_lock.specs.Rule.{opening}
use Rattle.board_lock.specs.Seats.{sitting}
use Rattle.board_work.specs.Crews.{IsCrew, IsDismissed}
use Rattle.board_work.specs.Workers.{Each, WorkerFor, IsFinished}

module _ {M : Type 0} where
  is-out : (job : Job M) → IsSome (result_of job) → (made : M) × (job ≡ Out made)
  is-out Open some = absurd (cc)
  is-out (Held worker) some = absurd (cc)
  is-out (Out made) some = (made, refl)

  has-result : (job : Job M) (made : M) → job ≡ Out made → IsSome (result_of job)
  has-result job made is = ap (λ (o : Option M). is_some o) (ap result_of is)

  -- all jobs that are out after a beginning are out after the whole
  pub all-stay : ResultsStay M → (program : Program M) (front later events : List Event) → events ≡ front ++ later → IsLegal program events
      → AllOut program (replay program front) → AllOut program (replay program events)
  all-stay stay program front later events is legal out j inside =
      let job = is-out (job_at (replay program front) j) (out j inside) in
      let now = stay program front later (subst (IsLegal program) is legal) j job.0 job.1 in
      has-result (job_at (replay program events) j) job.0 (ap (λ es. job_at (replay program es) j) is ∙ now)

module _ {W M : Type 0} (made : W → ℕ → List M → M) where
  -- boards of one program
  pub same-program : (a b : History W) → opening a ≡ opening b → program_of made a ≡ program_of made b
  same-program a b is = ap (program_of made) is

  seat-program : (a b : History W) (p : Option (History W)) → p ≡ Some (opening a) → p ≡ Some (opening b) → opening a ≡ opening b
  seat-program a b p is at = ap (λ o. unwrap_or o (opening a)) (sym is ∙ at)

  pub all-are-out : ResultsStay M → (lock : TableId) (board closed : History W) (workers : List (WorkerFor W M)) → IsCrew lock board workers
      → Each (IsFinished made) workers → IsDismissed made board workers closed → AllOut (program_of made closed) (state_of made closed)
  all-are-out stay lock board closed [] crew finished dismissed = absurd (let some = crew.some in omega (arith, some))
  all-are-out stay lock board closed (worker ∷ workers) crew finished dismissed =
      let seen = (finished 0 worker crew.some).all_out in
      let front = (sitting worker.seat).front in
      let opened = seat-program seen.board board (sitting worker.seat).program seen.program_is (crew.each 0 worker crew.some).program in
      let same = same-program seen.board closed (opened ∙ sym dismissed.program) in
      let begins = dismissed.begins worker in
      all-stay stay (program_of made closed) front begins.0 closed.events begins.1 dismissed.legal
      (subst (λ (p : Program M). AllOut p (replay p front)) same seen.all_out)
