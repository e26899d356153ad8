-- A worker's own events decide what it holds, and whether it has stopped.
use Rattle.std.proofs.Common.{◌≡◌, ◌≢◌, ℕ, ◌<◌, ◌↔◌, ◌||◌, Bool, true, false, inl, inr, Option, None, Some, List, [], ◌∷◌, length, replicate, slice_index_or, slice_set, refl, sym, ap, ◌∙◌, arith}
use Rattle.std.proofs.lemmas.List.{length-set, length-replicate, get_or_past, get_or-set_same, get_or-set_other, get_or-replicate}
use Rattle.std.proofs.lemmas.Bool.{cases_lt, cases_eq, eq-eqb, ne_eqb}
use Rattle.std.proofs.Math.Bool.{or-false}
use Rattle.board_core.specs.declared.event.Event.{Event}
use Rattle.board_core.specs.declared.event.Event.TheVariants.{Claim, Publish, Stop}
use Rattle.board_core.specs.Board.{Job, Open, Held, Out, Program, State, job_at, released, MayHappen, after, start, replay_from, IsLegalFrom}
use Rattle.board_core.specs.OwnEvents.{worker_of, own_events, held_after, held_from, is_stop, has_stop, OwnEventsDecide, OwnStopsDecide, WorkersHoldOne}
use Rattle.board_core.proofs.BeginningLemmas.{job-released}

or-moves : (a b c : Bool) → (a || b) || c ≡ b || (a || c)
or-moves true true c = refl
or-moves true false c = refl
or-moves false true c = refl
or-moves false false c = refl

start-going : (n w : ℕ) → slice_index_or (replicate n false) w false ≡ false
start-going n w =
    elim (cases_lt w n) [
      | inl inside ↦ get_or-replicate n w false false inside
      | inr past ↦ get_or_past (replicate n false) w false (omega (arith, length-replicate n false))
    ]

module _ {M : Type 0} where
  -- the worker holds exactly this job in this state
  abbrev Holds : State M → ℕ → Option ℕ → Type 0
  Holds state worker held = (j : ℕ) → (job_at state j ≡ Held worker) ↔ (held ≡ Some j)

  held-apart : (v w : ℕ) → v ≢ w → (it : Job M) → it ≡ Held v → it ≢ Held w
  held-apart v w apart it is e = apart (cc)

  -- ---- another worker's event

  -- a job that this worker does not hold becomes another one that it does not hold
  set-apart : (jobs : List (Job M)) (k : ℕ) (it : Job M) (worker : ℕ) → slice_index_or jobs k Open ≢ Held worker → it ≢ Held worker → (j : ℕ)
      → (slice_index_or (slice_set jobs k it) j Open ≡ Held worker) ↔ (slice_index_or jobs j Open ≡ Held worker)
  set-apart jobs k it worker was is j =
      elim (cases_eq j k) [
        | inl same ↦ (
          λ e. absurd (elim (cases_lt k (length jobs)) [
            | inl inside ↦ is (sym (get_or-set_same jobs k it Open inside) ∙ ap (λ n. slice_index_or (slice_set jobs k it) n Open) (sym same) ∙ e)
            | inr past ↦ (let gone = get_or_past (slice_set jobs k it) k Open (omega (arith, length-set jobs k it)) in
                let e' = ap (λ n. slice_index_or (slice_set jobs k it) n Open) (sym same) ∙ e in cc)
          ]),
          λ e. absurd (was (ap (λ n. slice_index_or jobs n Open) (sym same) ∙ e)),
        )
        | inr other ↦ (λ e. sym (get_or-set_other jobs k j it Open other) ∙ e, λ e. get_or-set_other jobs k j it Open other ∙ e)
      ]

  released-held : (stopped worker : ℕ) → stopped ≢ worker → (it : Job M) → (released stopped it ≡ Held worker) ↔ (it ≡ Held worker)
  released-held v w apart Open = (λ e. e, λ e. e)
  released-held v w apart (Out made) = (λ e. cc, λ e. cc)
  released-held v w apart (Held holder) =
      elim (cases_eq holder v) [
        | inl same ↦ rw (eq-eqb holder v same) (λ e. cc, λ e. absurd (apart (sym same ∙ cc)))
        | inr other ↦ rw (ne_eqb holder v other) (λ e. e, λ e. e)
      ]

  other-step : (program : Program M) (state : State M) (event : Event) → MayHappen program state event → (w : ℕ) → worker_of event ≢ w → (j : ℕ)
      → (job_at (after program state event) j ≡ Held w) ↔ (job_at state j ≡ Held w)
  other-step program state (Claim v k) may w apart j =
      set-apart state.jobs k (Held v) w (λ e. let was = may.next.ready.still_open in cc) (held-apart v w apart (Held v) refl) j
  other-step program state (Publish v k) may w apart j =
      set-apart state.jobs k _ w (held-apart v w apart (job_at state k) may.1) (λ e. cc) j
  other-step program state (Stop v) may w apart j =
      let same = job-released state.jobs v j in
      let kept = released-held v w apart (job_at state j) in
      (λ e. kept.0 (sym same ∙ e), λ e. same ∙ kept.1 e)

  -- ---- its own event

  released-none : (w : ℕ) (it : Job M) → released w it ≢ Held w
  released-none w Open = λ e. cc
  released-none w (Out made) = λ e. cc
  released-none w (Held holder) =
      elim (cases_eq holder w) [
        | inl same ↦ rw (eq-eqb holder w same) (λ e. cc)
        | inr other ↦ rw (ne_eqb holder w other) (λ e. other cc)
      ]

  -- a job of those that the worker may hold is taken, and it holds that one alone
  claimed-step : (jobs : List (Job M)) (w k : ℕ) → k < length jobs → ((j : ℕ) → slice_index_or jobs j Open ≢ Held w) → (j : ℕ)
      → (slice_index_or (slice_set jobs k (Held w)) j Open ≡ Held w) ↔ (Some k ≡ Some j)
  claimed-step jobs w k inside idle j =
      elim (cases_eq j k) [
        | inl same ↦ (λ e. ap Some (sym same), λ e. ap (λ n. slice_index_or (slice_set jobs k (Held w)) n Open) same ∙ get_or-set_same jobs k (Held w) Open inside)
        | inr other ↦ (λ e. absurd (idle j (sym (get_or-set_other jobs k j (Held w) Open other) ∙ e)), λ e. absurd (other (sym cc)))
      ]

  published-step : (jobs : List (Job M)) (w k : ℕ) (made : M) (held : Option ℕ) → slice_index_or jobs k Open ≡ Held w
      → ((j : ℕ) → (slice_index_or jobs j Open ≡ Held w) ↔ (held ≡ Some j)) → (j : ℕ) → slice_index_or (slice_set jobs k (Out made)) j Open ≢ Held w
  published-step jobs w k made held was holds j e =
      elim (cases_eq j k) [
        | inl same ↦
            elim (cases_lt k (length jobs)) [
              | inl inside ↦
                  let here = get_or-set_same jobs k (Out made) Open inside in
                  let e' = ap (λ n. slice_index_or (slice_set jobs k (Out made)) n Open) (sym same) ∙ e in
                  cc
              | inr past ↦ (let gone = get_or_past jobs k Open past in cc)
            ]
        | inr other ↦
            let first = (holds k).0 was in
            let second = (holds j).0 (sym (get_or-set_other jobs k j (Out made) Open other) ∙ e) in
            other cc
      ]

  own-step : (program : Program M) (state : State M) (event : Event) → MayHappen program state event → (w : ℕ) (held : Option ℕ) → worker_of event ≡ w → Holds state w held
      → Holds (after program state event) w (held_after event)
  own-step program state (Claim v k) may w held same holds = λ j.
      rw (sym same) (claimed-step state.jobs v k may.next.ready.inside may.idle j)
  own-step program state (Publish v k) may w held same holds = λ j.
      (λ e. absurd (published-step state.jobs w k _ held (may.1 ∙ ap Held same) holds j e), λ e. cc)
  own-step program state (Stop v) may w held same holds = λ j.
      (λ e. absurd (released-none v (job_at state j) (sym (job-released state.jobs v j) ∙ e ∙ ap Held (sym same))), λ e. cc)

  -- ---- a history

  holds-from : (program : Program M) (state : State M) (events : List Event) → IsLegalFrom program state events → (w : ℕ) (held : Option ℕ) → Holds state w held
      → Holds (replay_from program state events) w (held_from held (own_events w events))
  holds-from program state [] legal w held holds = holds
  holds-from program state (event ∷ events) legal w held holds =
      elim (cases_eq (worker_of event) w) [
        | inl same ↦ rw (eq-eqb (worker_of event) w same)
            (holds-from program (after program state event) events legal.1 w (held_after event) (own-step program state event legal.0 w held same holds))
        | inr other ↦ rw (ne_eqb (worker_of event) w other)
            (holds-from program (after program state event) events legal.1 w held
            (λ j. let step = other-step program state event legal.0 w other j in (λ e. (holds j).0 (step.0 e), λ e. step.1 ((holds j).1 e))))
      ]

  start-open : (n j : ℕ) (it : Job M) → slice_index_or (replicate n it) j it ≡ it
  start-open n j it =
      elim (cases_lt j n) [
        | inl inside ↦ get_or-replicate n j it it inside
        | inr past ↦ get_or_past (replicate n it) j it (omega (arith, length-replicate n it))
      ]

  pub own-events-decide : OwnEventsDecide M
  own-events-decide program events legal worker j =
      holds-from program (start program) events legal worker None (λ k. (λ e. let begun = start-open (length program.deps) k Open in cc, λ e. cc)) j

  pub workers-hold-one : WorkersHoldOne M
  workers-hold-one program events legal worker j k first second =
      let same : Some j ≡ Some k = sym ((own-events-decide program events legal worker j).0 first) ∙ (own-events-decide program events legal worker k).0 second in
      cc

  -- ---- stops

  -- as many workers may stop as there are
  abbrev Counts : Program M → State M → Type 0
  Counts program state = length state.stopped ≡ program.workers

  counts-step : (program : Program M) (state : State M) (event : Event) → Counts program state → Counts program (after program state event)
  counts-step program state (Claim v k) same = same
  counts-step program state (Publish v k) same = same
  counts-step program state (Stop v) same = length-set state.stopped v true ∙ same

  stopped-step : (program : Program M) (state : State M) (event : Event) → Counts program state → MayHappen program state event → (w : ℕ) → worker_of event ≡ w
      → slice_index_or (after program state event).stopped w false ≡ is_stop event || slice_index_or state.stopped w false
  stopped-step program state (Claim v k) counts may w same = refl
  stopped-step program state (Publish v k) counts may w same = refl
  stopped-step program state (Stop v) counts may w same =
      ap (λ n. slice_index_or (slice_set state.stopped v true) n false) (sym same) ∙ get_or-set_same state.stopped v true false (omega (arith, counts, may.0))

  unstopped-step : (program : Program M) (state : State M) (event : Event) → (w : ℕ) → worker_of event ≢ w
      → slice_index_or (after program state event).stopped w false ≡ slice_index_or state.stopped w false
  unstopped-step program state (Claim v k) w apart = refl
  unstopped-step program state (Publish v k) w apart = refl
  unstopped-step program state (Stop v) w apart = get_or-set_other state.stopped v w true false (λ e. apart (sym e))

  stopped-from : (program : Program M) (state : State M) (events : List Event) → Counts program state → IsLegalFrom program state events → (w : ℕ)
      → slice_index_or (replay_from program state events).stopped w false ≡ slice_index_or state.stopped w false || has_stop (own_events w events)
  stopped-from program state [] counts legal w = sym (or-false (slice_index_or state.stopped w false))
  stopped-from program state (event ∷ events) counts legal w =
      let later = stopped-from program (after program state event) events (counts-step program state event counts) legal.1 w in
      elim (cases_eq (worker_of event) w) [
        | inl same ↦ rw (eq-eqb (worker_of event) w same)
            (later ∙ (ap (λ b. b || has_stop (own_events w events)) (stopped-step program state event counts legal.0 w same)
            ∙ or-moves (is_stop event) (slice_index_or state.stopped w false) (has_stop (own_events w events))))
        | inr other ↦ rw (ne_eqb (worker_of event) w other)
            (later ∙ ap (λ b. b || has_stop (own_events w events)) (unstopped-step program state event w other))
      ]

  pub own-stops-decide : OwnStopsDecide M
  own-stops-decide program events legal worker =
      let whole = stopped-from program (start program) events (length-replicate program.workers false) legal worker
      ∙ ap (λ b. b || has_stop (own_events worker events)) (start-going program.workers worker) in
      (λ e. sym whole ∙ e, λ e. whole ∙ e)
