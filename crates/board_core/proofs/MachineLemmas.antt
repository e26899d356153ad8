-- Histories, and what each event of the board keeps.
use Rattle.std.proofs.Common.{◌≡◌, ◌≢◌, ℕ, suc, ◌+◌, ◌<◌, ◌⊎◌, Bool, true, false, inl, inr, List, [], ◌∷◌, ◌++◌, length, map, slice_index_or, slice_set, refl, sym, ap, subst, ◌∙◌, arith}
use Rattle.std.specs.Prelude.{◌==◌, if◌then◌else◌}
use Rattle.std.proofs.lemmas.List.{length-map, get_or-map, get_or_past, get_or-set_same, get_or-set_other}
use Rattle.std.proofs.lemmas.Bool.{cases_lt, cases_eq}
use Rattle.board_core.specs.declared.event.Event.{Event}
use Rattle.board_core.specs.Board.{Job, Open, Held, Out, Program, State, job_at, result_of, released, MayHappen, after, start, replay, replay_from, IsLegal, IsLegalFrom}

module _ {M : Type 0} where
  -- what holds at the start and is kept by each event holds after a legal history
  pub legal-keeps : (program : Program M) (Kept : ℕ → State M → Type 0)
      → ((k : ℕ) (state : State M) (event : Event) → Kept k state → MayHappen program state event → Kept (suc k) (after program state event)) → (events : List Event) (k : ℕ) (state : State M)
      → IsLegalFrom program state events → Kept k state → Kept (length events + k) (replay_from program state events)
  legal-keeps program Kept step [] k state legal now =
      let family : ℕ → Type 0 = λ n. Kept n state in
      subst family (omega arith) now
  legal-keeps program Kept step (event ∷ events) k state legal now =
      let family : ℕ → Type 0 = λ n. Kept n (replay_from program (after program state event) events) in
      subst family (omega arith)
      (legal-keeps program Kept step events (suc k) (after program state event) legal.1 (step k state event now legal.0))

  replay_from-push : (program : Program M) (state : State M) (events : List Event) (event : Event)
      → replay_from program state (events ++ event ∷ []) ≡ after program (replay_from program state events) event
  replay_from-push program state [] event = refl
  replay_from-push program state (first ∷ events) event = replay_from-push program (after program state first) events event

  -- the state after a history and one more event
  pub replay-push : (program : Program M) (events : List Event) (event : Event) → replay program (events ++ event ∷ []) ≡ after program (replay program events) event
  replay-push program events event = replay_from-push program (start program) events event

  legal_from-push : (program : Program M) (state : State M) (events : List Event) (event : Event) → IsLegalFrom program state events → MayHappen program (replay_from program state events) event
      → IsLegalFrom program state (events ++ event ∷ [])
  legal_from-push program state [] event legal may = (may, tt)
  legal_from-push program state (first ∷ events) event legal may =
      (legal.0, legal_from-push program (after program state first) events event legal.1 may)

  -- a legal history goes on by an event that may happen
  pub legal-push : (program : Program M) (events : List Event) (event : Event) → IsLegal program events → MayHappen program (replay program events) event → IsLegal program (events ++ event ∷ [])
  legal-push program events event legal may = legal_from-push program (start program) events event legal may

  -- a job that is not open is one of the list
  pub inside-from_job : (state : State M) (j : ℕ) → job_at state j ≢ Open → j < length state.jobs
  inside-from_job state j apart =
      elim (cases_lt j (length state.jobs)) [ inl inside ↦ inside | inr past ↦ absurd (apart (get_or_past state.jobs j Open past)) ]

  -- where a worker stops, each job is released
  pub job-released : (jobs : List (Job M)) (worker j : ℕ) → slice_index_or (map (released worker) jobs) j Open ≡ released worker (slice_index_or jobs j Open)
  job-released jobs worker j =
      elim (cases_lt j (length jobs)) [
        | inl inside ↦ get_or-map (released worker) jobs j Open Open inside
        | inr past ↦
            get_or_past (map (released worker) jobs) j Open (omega (arith, length-map jobs (released worker)))
            ∙ ap (released worker) (sym (get_or_past jobs j Open past))
      ]

  pub held-or-open : (b : Bool) (holder : ℕ) → (let job' : Job M = (if b then Open else Held holder) in (job' ≡ Open) ⊎ (job' ≡ Held holder))
  held-or-open true holder = inl refl
  held-or-open false holder = inr refl

  pub result-released : (worker : ℕ) (it : Job M) → result_of (released worker it) ≡ result_of it
  result-released worker Open = refl
  result-released worker (Out made) = refl
  result-released worker (Held holder) =
      elim (held-or-open (holder == worker) holder) [ inl e ↦ ap result_of e | inr e ↦ ap result_of e ]

  pub held-released : (worker : ℕ) (it : Job M) (holder : ℕ) → released worker it ≡ Held holder → it ≡ Held holder
  held-released worker Open holder e = cc
  held-released worker (Out made) holder e = cc
  held-released worker (Held other) holder e =
      elim (held-or-open (other == worker) other) [ inl open' ↦ cc | inr same ↦ cc ]

  pub out-released : (worker : ℕ) (it : Job M) (made : M) → released worker it ≡ Out made → it ≡ Out made
  out-released worker Open made e = cc
  out-released worker (Out other) made e = e
  out-released worker (Held other) made e =
      elim (held-or-open (other == worker) other) [ inl open' ↦ cc | inr same ↦ cc ]

  -- what holds of a job after one job was set
  pub job-set : (jobs : List (Job M)) (j : ℕ) (it : Job M) → j < length jobs → (k : ℕ)
      → ((k ≡ j) × (slice_index_or (slice_set jobs j it) k Open ≡ it)) ⊎ ((k ≢ j) × (slice_index_or (slice_set jobs j it) k Open ≡ slice_index_or jobs k Open))
  job-set jobs j it inside k =
      elim (cases_eq k j) [
        | inl same ↦ inl (same, ap (λ n. slice_index_or (slice_set jobs j it) n Open) same ∙ get_or-set_same jobs j it Open inside)
        | inr apart ↦ inr (apart, get_or-set_other jobs j k it Open apart)
      ]
