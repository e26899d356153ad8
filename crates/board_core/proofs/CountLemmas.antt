-- How many events a legal history has.
use Rattle.std.proofs.Common.{◌≡◌, ℕ, suc, ◌+◌, ◌*◌, ◌<◌, ◌≤◌, ◌⊎◌, Bool, true, false, inl, inr, List, [], ◌∷◌, length, map, slice_index_or, slice_set, refl, ap, ◌∙◌, arith}
use Rattle.std.specs.Prelude.{◌==◌}
use Rattle.std.specs.List.{sum_by}
use Rattle.std.proofs.lemmas.List.{length-set, length-replicate, get_or-set_same}
use Rattle.std.proofs.lemmas.List.Sums.{sum_by-cons, sum_by-set}
use Rattle.std.proofs.lemmas.List.Folds.{sum_by-replicate}
use Rattle.std.proofs.lemmas.Bool.{cases_Bool}
use Rattle.board_core.specs.declared.event.Event.{Event}
use Rattle.board_core.specs.declared.event.Event.TheVariants.{Claim, Publish, Stop}
use Rattle.board_core.specs.Board.{Job, Open, Held, Out, Program, State, job_at, released, NobodyStopped, MayHappen, after, start, replay, IsLegal}
use Rattle.board_core.specs.Laws.{HistoriesAreShort}
use Rattle.board_core.proofs.MachineLemmas.{legal-keeps, inside-from_job, held-or-open}

-- a worker may still stop where it has not
abbrev going : Bool → ℕ
going true = 0
going false = 1

module _ {M : Type 0} where
  -- how many events a job may still take, where somebody has stopped and where nobody has
  abbrev left : Bool → Job M → ℕ
  left true Open = 0
  left false Open = 2
  left stopped (Held worker) = 1
  left stopped (Out made) = 0

  record HasRoom (program : Program M) (count : ℕ) (state : State M) : Type 0 where
    somebody : Bool
    nobody : NobodyStopped state → somebody ≡ false
    workers : length state.stopped ≡ program.workers
    room : count + sum_by (left somebody) state.jobs + sum_by going state.stopped ≤ 2 * length program.deps + program.workers

  room-start : (program : Program M) → HasRoom program 0 (start program)
  room-start program =
      let open' : Job M = Open in
      record {
        somebody = false;
        nobody = λ h. refl;
        workers = length-replicate program.workers false;
        room = omega (arith, sum_by-replicate (left false) (length program.deps) open', sum_by-replicate going program.workers false);
      }

  left-held : (stopped : Bool) (worker : ℕ) (it : Job M) → it ≡ Held worker → left stopped it ≡ 1
  left-held true worker it e = ap (left true) e
  left-held false worker it e = ap (left false) e

  left-out : (stopped : Bool) (made : M) → left stopped (Out made) ≡ 0
  left-out true made = refl
  left-out false made = refl

  left-open : (it : Job M) (holder : ℕ) → (it ≡ Open) ⊎ (it ≡ Held holder) → left true it ≤ 1
  left-open it holder (inl e) = omega (arith, ap (left true) e)
  left-open it holder (inr e) = omega (arith, ap (left true) e)

  left-released : (worker : ℕ) (stopped : Bool) (it : Job M) → left true (released worker it) ≤ left stopped it
  left-released worker stopped Open = omega arith
  left-released worker stopped (Out made) = omega arith
  left-released worker stopped (Held holder) =
      omega (arith, left-open (released worker (Held holder)) holder (held-or-open (holder == worker) holder), left-held stopped holder (Held holder) refl)

  sum-released : (worker : ℕ) (stopped : Bool) (jobs : List (Job M)) → sum_by (left true) (map (released worker) jobs) ≤ sum_by (left stopped) jobs
  sum-released worker stopped [] = omega arith
  sum-released worker stopped (it ∷ jobs) =
      let rest = sum-released worker stopped jobs in
      let here = left-released worker stopped it in
      omega (arith, here, rest, sum_by-cons (left true) (released worker it) (map (released worker) jobs), sum_by-cons (left stopped) it jobs)

  room-claim : (program : Program M) (count : ℕ) (state : State M) (worker j : ℕ) → HasRoom program count state → NobodyStopped state → j < length state.jobs → job_at state j ≡ Open
      → HasRoom program (suc count) (record { jobs = slice_set state.jobs j (Held worker); stopped = state.stopped })
  room-claim program count state worker j now nobody inside open' =
      let it : Job M = Held worker in
      let none = now.nobody nobody in
      let sums = sum_by-set (left now.somebody) state.jobs j it Open inside in
      let was : left now.somebody (job_at state j) ≡ 2 = ap (λ x. left x (job_at state j)) none ∙ ap (left false) open' in
      record {
        somebody = now.somebody;
        nobody = now.nobody;
        workers = now.workers;
        room = omega (arith, sums, was, left-held now.somebody worker it refl, now.room);
      }

  room-publish : (program : Program M) (count : ℕ) (state : State M) (worker j : ℕ) (made : M) → HasRoom program count state → job_at state j ≡ Held worker
      → HasRoom program (suc count) (record { jobs = slice_set state.jobs j (Out made); stopped = state.stopped })
  room-publish program count state worker j made now held =
      let it : Job M = Out made in
      let inside = inside-from_job state j (λ e. cc) in
      let sums = sum_by-set (left now.somebody) state.jobs j it Open inside in
      let was : left now.somebody (job_at state j) ≡ 1 = left-held now.somebody worker (job_at state j) held in
      record {
        somebody = now.somebody;
        nobody = now.nobody;
        workers = now.workers;
        room = omega (arith, sums, was, left-out now.somebody made, now.room);
      }

  room-stop : (program : Program M) (count : ℕ) (state : State M) (worker : ℕ) → HasRoom program count state → worker < program.workers → slice_index_or state.stopped worker false ≡ false
      → HasRoom program (suc count) (record { jobs = map (released worker) state.jobs; stopped = slice_set state.stopped worker true })
  room-stop program count state worker now known going' =
      let inside : worker < length state.stopped = omega (arith, now.workers) in
      let sums = sum_by-set going state.stopped worker true false inside in
      let was = ap going going' in
      record {
        somebody = true;
        nobody = λ h. absurd (h worker (get_or-set_same state.stopped worker true false inside));
        workers = length-set state.stopped worker true ∙ now.workers;
        room = omega (arith, sums, was, now.room, sum-released worker now.somebody state.jobs);
      }

  room-step : (program : Program M) (count : ℕ) (state : State M) (event : Event) → HasRoom program count state → MayHappen program state event
      → HasRoom program (suc count) (after program state event)
  room-step program count state (Claim worker j) now may = room-claim program count state worker j now may.going may.next.ready.inside may.next.ready.still_open
  room-step program count state (Publish worker j) now may = room-publish program count state worker j _ now may.1
  room-step program count state (Stop worker) now may =
      room-stop program count state worker now may.0
      (elim (cases_Bool (slice_index_or state.stopped worker false)) [ inl stopped ↦ absurd (may.1 stopped) | inr going' ↦ going' ])

  pub histories-are-short : HistoriesAreShort M
  histories-are-short program events legal =
      let it = legal-keeps program (HasRoom program) (room-step program) events 0 (start program) legal (room-start program) in
      omega (arith, it.room)

  -- where an event may still happen, there is room for it
  pub room-more : (program : Program M) (events : List Event) (event : Event) → IsLegal program events → MayHappen program (replay program events) event
      → length events < 2 * length program.deps + program.workers
  room-more program events event legal may =
      let it = legal-keeps program (HasRoom program) (room-step program) events 0 (start program) legal (room-start program) in
      let next = room-step program (length events + 0) (replay program events) event it may in
      omega (arith, next.room)
