-- What a board keeps, through each of its events.
use Rattle.std.proofs.Common.{◌≡◌, ◌≢◌, ℕ, suc, ◌<◌, ◌≤◌, Bool, true, false, inl, inr, Option, Some, None, List, [], ◌∷◌, ◌++◌, length, map, take, drop, slice_index, slice_index_or, slice_set, Contains, IsSome, refl, sym, ap, subst, ◌∙◌, arith}
use Rattle.std.specs.List.{filter_map, cons_option}
use Rattle.std.specs.Prelude.{is_some, option_map, MatchBool, IfSome, IfNone, ◌==◌, if◌then◌else◌}
use Rattle.std.proofs.lemmas.List.{append-nil, take_all, drop_all, length-map, map-set, set-get_or, get_or-map, get_or_past, get_or-set_same, get_or-set_other}
use Rattle.std.proofs.lemmas.List.Elements.{Contains-append_left, Contains-push, Contains-push_cases}
use Rattle.std.proofs.lemmas.Bool.{cases_lt, cases_eq, false≢true}
use Rattle.board_core.specs.declared.event.Event.{Event}
use Rattle.board_core.specs.declared.event.Event.TheVariants.{Claim, Publish, Stop}
use Rattle.board_core.specs.declared.job_state.JobState.{JobState}
use Rattle.board_core.specs.declared.job_state.JobState.TheVariants.{Open as OpenState, Held as HeldState, Out as OutState}
use Rattle.board_core.specs.Board.{Job, Open, Held, Out, Program, State, job_at, result_of, results, deps_of, released, IsReady, IsNext, HoldsNone, HasStopped, NobodyStopped, MayClaim, MayHappen, after, replay}
use Rattle.board_core.specs.JobStates.{job_state_at, released_state, AllCheckedOut, IsReadyState, IsNextState, IsSomeHeld}
use Rattle.board_core.specs.Calls.{SomebodyStopped, SomeHeld, AllOut}
use Rattle.board_core.specs.Kept.{job_state_of, IsKept}
use Rattle.board_core.proofs.MachineLemmas.{replay-push, legal-push, inside-from_job, result-released}
use Rattle.board_core.proofs.lemmas.Answers.{IsSound, sound-replay, idle-done}
use Rattle.board_core.proofs.CountLemmas.{room-more}

-- a history that goes on by an event that is no stop
no-stop-push : (events : List Event) (event : Event) → ((worker : ℕ) → event ≢ Stop worker) → ((worker : ℕ) → ¬ Contains events (Stop worker)) → (worker : ℕ)
    → ¬ Contains (events ++ event ∷ []) (Stop worker)
no-stop-push events event apart none worker h =
    elim (Contains-push_cases events event (Stop worker) h) [ inl old ↦ none worker old | inr e ↦ apart worker e ]

pub written-back : {X : Type 0} (xs new : List X) (n : ℕ) → n ≡ length xs → length new ≡ length xs → take n (new ++ drop (length new) xs) ≡ new
written-back xs new n e f =
    ap (λ ys. take n (new ++ ys)) (drop_all (length new) xs (omega arith)) ∙ (ap (take n) (append-nil new) ∙ take_all n new (omega arith))

module _ {M : Type 0} where
  out-some : (it : Job M) → job_state_of it ≡ OutState → IsSome (result_of it)
  out-some Open e = cc
  out-some (Held worker) e = cc
  out-some (Out made) e = refl

  some-out : (it : Job M) → IsSome (result_of it) → job_state_of it ≡ OutState
  some-out Open e = absurd (false≢true e)
  some-out (Held worker) e = absurd (false≢true e)
  some-out (Out made) e = refl

  open-of : (it : Job M) → job_state_of it ≡ OpenState → it ≡ Open
  open-of Open e = refl
  open-of (Held worker) e = cc
  open-of (Out made) e = cc

  held-of : (it : Job M) (worker : ℕ) → job_state_of it ≡ HeldState worker → it ≡ Held worker
  held-of Open worker e = cc
  held-of (Held other) worker e = let same : other ≡ worker = cc in ap Held same
  held-of (Out made) worker e = cc

  job_state-at : (job_states : List JobState) (jobs : List (Job M)) → job_states ≡ map job_state_of jobs → (j : ℕ) → job_state_at job_states j ≡ job_state_of (slice_index_or jobs j Open)
  job_state-at job_states jobs are j =
      ap (λ xs. job_state_at xs j) are
      ∙ elim (cases_lt j (length jobs)) [
        | inl inside ↦ get_or-map job_state_of jobs j Open OpenState inside
        | inr past ↦ get_or_past (map job_state_of jobs) j OpenState (omega (arith, length-map jobs job_state_of)) ∙ ap job_state_of (sym (get_or_past jobs j Open past))
      ]

  module _ (program : Program M) (state : State M) (job_states : List JobState) (are : job_states ≡ map job_state_of state.jobs) where
    same-length : length job_states ≡ length state.jobs
    same-length = ap (λ (xs : List JobState). length xs) are ∙ length-map state.jobs job_state_of

    pub ready-of : (j : ℕ) → IsReadyState program.deps job_states j → IsReady program state j
    ready-of j h =
        record {
          inside = omega (arith, h.inside, same-length);
          still_open = open-of (job_at state j) (sym (job_state-at job_states state.jobs are j) ∙ h.still_open);
          deps_out = λ d i. out-some (job_at state d) (sym (job_state-at job_states state.jobs are d) ∙ h.deps_out d i);
        }

    pub ready-job_state : (j : ℕ) → IsReady program state j → IsReadyState program.deps job_states j
    ready-job_state j h =
        record {
          inside = omega (arith, h.inside, same-length);
          still_open = job_state-at job_states state.jobs are j ∙ ap job_state_of h.still_open;
          deps_out = λ d i. job_state-at job_states state.jobs are d ∙ some-out (job_at state d) (h.deps_out d i);
        }

    pub next-of : (j : ℕ) → IsNextState program.deps job_states j → IsNext program state j
    next-of j h = record { ready = ready-of j h.ready; least = λ k l i. h.least k l (ready-job_state k i) }

  job_state-released-by : (holder : ℕ) (b : Bool) (it : Job M) (job_state : JobState) → it ≡ (if b then Open else Held holder) → job_state ≡ (if b then OpenState else HeldState holder)
      → job_state ≡ job_state_of it
  job_state-released-by holder true it job_state e f = f ∙ ap job_state_of (sym e)
  job_state-released-by holder false it job_state e f = f ∙ ap job_state_of (sym e)

  job_state-released-one : (worker : ℕ) (it : Job M) → released_state worker (job_state_of it) ≡ job_state_of (released worker it)
  job_state-released-one worker Open = refl
  job_state-released-one worker (Out made) = refl
  job_state-released-one worker (Held holder) = job_state-released-by holder (holder == worker) (released worker (Held holder)) (released_state worker (HeldState holder)) refl refl

  job_state-of-released : (worker : ℕ) (jobs : List (Job M)) → map (released_state worker) (map job_state_of jobs) ≡ map job_state_of (map (released worker) jobs)
  job_state-of-released worker [] = refl
  job_state-of-released worker (it ∷ jobs) =
      let here = job_state-released-one worker it in
      let rest = job_state-of-released worker jobs in
      cc

  results-released : (worker : ℕ) (jobs : List (Job M)) → map result_of jobs ≡ map result_of (map (released worker) jobs)
  results-released worker [] = refl
  results-released worker (it ∷ jobs) =
      let here = result-released worker it in
      let rest = results-released worker jobs in
      cc

  -- the same of a history and a capacity that a call made
  pub kept-logged : (program : Program M) (events events' : List Event) (job_states : List JobState) (made : List (Option M)) (checked : List ℕ) (is_stopped : Bool) (capacity capacity' : ℕ)
      → IsKept program events job_states made checked is_stopped capacity → events' ≡ events → capacity ≤ capacity' → IsKept program events' job_states made checked is_stopped capacity'
  kept-logged program events events' job_states made checked is_stopped capacity capacity' kept e f =
      let Events : List Event → Type 0 = λ x. IsKept program x job_states made checked is_stopped capacity' in
      subst Events (sym e)
      (record {
        ranked = kept.ranked;
        few = kept.few;
        legal = kept.legal;
        job_states_are = kept.job_states_are;
        results_are = kept.results_are;
        checked_length = kept.checked_length;
        checked_out = kept.checked_out;
        stopped = kept.stopped;
        going = kept.going;
        room = omega (arith, kept.room);
      })

  pub kept-made : (program : Program M) (events : List Event) (job_states : List JobState) (made made' : List (Option M)) (checked : List ℕ) (is_stopped : Bool) (capacity : ℕ)
      → IsKept program events job_states made checked is_stopped capacity → made' ≡ made → IsKept program events job_states made' checked is_stopped capacity
  kept-made program events job_states made made' checked is_stopped capacity kept e =
      let family : List (Option M) → Type 0 = λ x. IsKept program events job_states x checked is_stopped capacity in
      subst family (sym e) kept

  pub kept-job_states : (program : Program M) (events : List Event) (job_states job_states' : List JobState) (made : List (Option M)) (checked : List ℕ) (is_stopped : Bool) (capacity : ℕ)
      → IsKept program events job_states made checked is_stopped capacity → job_states' ≡ job_states → IsKept program events job_states' made checked is_stopped capacity
  kept-job_states program events job_states job_states' made checked is_stopped capacity kept e =
      let family : List JobState → Type 0 = λ x. IsKept program events x made checked is_stopped capacity in
      subst family (sym e) kept

  module _ (program : Program M) (events : List Event) (job_states : List JobState) (made : List (Option M)) (checked : List ℕ) (is_stopped : Bool) (capacity : ℕ)
      (kept : IsKept program events job_states made checked is_stopped capacity) where
    abbrev state : State M
    state = replay program events

    sound : IsSound program state
    sound = sound-replay program kept.ranked events kept.legal

    pub job_states-length : length job_states ≡ length program.deps
    job_states-length = ap (λ (xs : List JobState). length xs) kept.job_states_are ∙ (length-map state.jobs job_state_of ∙ sound.counted)

    pub made-length : length made ≡ length program.deps
    made-length = ap (λ (xs : List (Option M)). length xs) kept.results_are ∙ (length-map state.jobs result_of ∙ sound.counted)

    -- what was out stays so where one job that is not out is set
    checked-still : (j : ℕ) (it : JobState) → job_state_at job_states j ≢ OutState → AllCheckedOut program.deps (slice_set job_states j it) checked
    checked-still j it apart k h =
        let old = kept.checked_out k h in (
          old.0,
          λ e l.
              let d = slice_index (slice_index_or program.deps k []) e in
              let other : d ≢ j = λ same. apart (ap (job_state_at job_states) (sym same) ∙ old.1 e l) in
              get_or-set_other job_states j d it OpenState other ∙ old.1 e l,
        )

    -- and where one job is out from now on
    checked-more : (j : ℕ) → j < length job_states → AllCheckedOut program.deps (slice_set job_states j OutState) checked
    checked-more j inside k h =
        let old = kept.checked_out k h in (
          old.0,
          λ e l.
              let d = slice_index (slice_index_or program.deps k []) e in
              elim (cases_eq d j) [
                | inl same ↦ ap (job_state_at (slice_set job_states j OutState)) same ∙ get_or-set_same job_states j OutState OpenState inside
                | inr other ↦ get_or-set_other job_states j d OutState OpenState other ∙ old.1 e l
              ],
        )

    released-out : (worker : ℕ) (it : JobState) → it ≡ OutState → released_state worker it ≡ OutState
    released-out worker it e = ap (released_state worker) e

    job_state-released : (worker j : ℕ) → job_state_at (map (released_state worker) job_states) j ≡ released_state worker (job_state_at job_states j)
    job_state-released worker j =
        elim (cases_lt j (length job_states)) [
          | inl inside ↦ get_or-map (released_state worker) job_states j OpenState OpenState inside
          | inr past ↦
              get_or_past (map (released_state worker) job_states) j OpenState (omega (arith, length-map job_states (released_state worker)))
              ∙ ap (released_state worker) (sym (get_or_past job_states j OpenState past))
        ]

    checked-released : (worker : ℕ) → AllCheckedOut program.deps (map (released_state worker) job_states) checked
    checked-released worker k h =
        let old = kept.checked_out k h in
        (old.0, λ e l. job_state-released worker _ ∙ released-out worker _ (old.1 e l))

    -- another account of what was checked
    pub kept-checked : (checked' : List ℕ) → length checked' ≡ length checked → AllCheckedOut program.deps job_states checked' → IsKept program events job_states made checked' is_stopped capacity
    kept-checked checked' same out =
        record {
          ranked = kept.ranked;
          few = kept.few;
          legal = kept.legal;
          job_states_are = kept.job_states_are;
          results_are = kept.results_are;
          checked_length = same ∙ kept.checked_length;
          checked_out = out;
          stopped = kept.stopped;
          going = kept.going;
          room = kept.room;
        }

    -- the same, as a search for the next job leaves it
    pub kept-search : (written checked' : List ℕ) (deps' : List (List ℕ)) (job_states' : List JobState) → written ≡ checked' → length checked' ≡ length checked → deps' ≡ program.deps
        → job_states' ≡ job_states → AllCheckedOut deps' job_states' checked' → IsKept program events job_states made written is_stopped capacity
    kept-search written checked' deps' job_states' put same d s out =
        let family : List (List ℕ) → List JobState → Type 0 = λ x y. AllCheckedOut x y checked' in
        let kept' : List ℕ → Type 0 = λ x. IsKept program events job_states made x is_stopped capacity in
        subst kept' (sym put) (kept-checked checked' same (subst (λ x. family x job_states) d (subst (λ y. family deps' y) s out)))

    -- after an event
    kept-after : (event : Event) (job_states' : List JobState) (made' : List (Option M)) (is_stopped' : Bool) → MayHappen program state event
        → job_states' ≡ map job_state_of (after program state event).jobs → made' ≡ map result_of (after program state event).jobs → AllCheckedOut program.deps job_states' checked
        → (is_stopped' ≡ true → (worker : ℕ) × Contains (events ++ event ∷ []) (Stop worker) × HasStopped (after program state event) worker)
        → (is_stopped' ≡ false → NobodyStopped (after program state event) × ((worker : ℕ) → ¬ Contains (events ++ event ∷ []) (Stop worker)))
        → IsKept program (events ++ event ∷ []) job_states' made' checked is_stopped' capacity
    kept-after event job_states' made' is_stopped' may s r out stopped going =
        let there = sym (replay-push program events event) in
        let JobStates : State M → Type 0 = λ x. job_states' ≡ map job_state_of x.jobs in
        let Made : State M → Type 0 = λ x. made' ≡ map result_of x.jobs in
        let Nobody : State M → Type 0 = λ x. NobodyStopped x in
        record {
          ranked = kept.ranked;
          few = kept.few;
          legal = legal-push program events event kept.legal may;
          job_states_are = subst JobStates there s;
          results_are = subst Made there r;
          checked_length = kept.checked_length;
          checked_out = out;
          stopped = λ e.
              let it = stopped e in
              let Has : State M → Type 0 = λ x. HasStopped x it.0 in
              (it.0, it.1, subst Has there it.2);
          going = λ e. let it = going e in (subst Nobody there it.0, it.1);
          room = kept.room;
        }

    old-stop : (event : Event) → is_stopped ≡ true → (worker : ℕ) × Contains (events ++ event ∷ []) (Stop worker) × HasStopped state worker
    old-stop event e = let it = kept.stopped e in (it.0, Contains-append_left events (event ∷ []) (Stop it.0) it.1, it.2)

    pub kept-claim : (worker j : ℕ) → MayClaim program state worker j → IsKept program (events ++ Claim worker j ∷ []) (slice_set job_states j (HeldState worker)) made checked is_stopped capacity
    kept-claim worker j may =
        let it : Job M = Held worker in
        let was_open : job_state_at job_states j ≡ OpenState = job_state-at job_states state.jobs kept.job_states_are j ∙ ap job_state_of may.next.ready.still_open in
        let none : slice_index_or (map result_of state.jobs) j None ≡ None = get_or-map result_of state.jobs j Open None may.next.ready.inside ∙ ap result_of may.next.ready.still_open in
        kept-after (Claim worker j) (slice_set job_states j (HeldState worker)) made is_stopped may
        (ap (λ xs. slice_set xs j (HeldState worker)) kept.job_states_are ∙ sym (map-set job_state_of state.jobs j it))
        (kept.results_are ∙ (sym (set-get_or (map result_of state.jobs) j None) ∙ (ap (slice_set (map result_of state.jobs) j) none ∙ sym (map-set result_of state.jobs j it))))
        (checked-still j (HeldState worker) (λ e. cc))
        (old-stop (Claim worker j))
        (λ e. let was = kept.going e in (was.0, no-stop-push events (Claim worker j) (λ w h. cc) was.1))

    -- there is room for an event that may happen
    pub room-for : (event : Event) → MayHappen program state event → length events < capacity
    room-for event may = omega (arith, room-more program events event kept.legal may, kept.room)

    pub holder-known : (worker j : ℕ) → job_at state j ≡ Held worker → worker < program.workers
    holder-known worker j held = sound.known j worker held

    pub holder-inside : (worker j : ℕ) → job_at state j ≡ Held worker → j < length program.deps
    holder-inside worker j held = omega (arith, sound.counted, inside-from_job state j (λ e. cc))

    pub kept-publish : (worker j : ℕ) (value : M) → job_at state j ≡ Held worker → value ≡ program.made j (results state (deps_of program j))
        → IsKept program (events ++ Publish worker j ∷ []) (slice_set job_states j OutState) (slice_set made j (Some value)) checked is_stopped capacity
    kept-publish worker j value held is =
        let it : Job M = Out (program.made j (results state (deps_of program j))) in
        kept-after (Publish worker j) (slice_set job_states j OutState) (slice_set made j (Some value)) is_stopped (holder-known worker j held, held)
        (ap (λ xs. slice_set xs j OutState) kept.job_states_are ∙ sym (map-set job_state_of state.jobs j it))
        (ap (λ xs. slice_set xs j (Some value)) kept.results_are ∙ (ap (λ x. slice_set (map result_of state.jobs) j (Some x)) is ∙ sym (map-set result_of state.jobs j it)))
        (checked-more j (omega (arith, job_states-length, holder-inside worker j held)))
        (old-stop (Publish worker j))
        (λ e. let was = kept.going e in (was.0, no-stop-push events (Publish worker j) (λ w h. cc) was.1))

    pub kept-stop : (worker : ℕ) → worker < program.workers → ¬ (slice_index_or state.stopped worker false ≡ true)
        → IsKept program (events ++ Stop worker ∷ []) (map (released_state worker) job_states) made checked true capacity
    kept-stop worker known going =
        kept-after (Stop worker) (map (released_state worker) job_states) made true (known, going)
        (ap (map (released_state worker)) kept.job_states_are ∙ job_state-of-released worker state.jobs)
        (kept.results_are ∙ results-released worker state.jobs)
        (checked-released worker)
        (λ e. (worker, Contains-push events (Stop worker), get_or-set_same state.stopped worker true false (omega (arith, sound.workers))))
        (λ e. absurd (false≢true (sym e)))

    -- which worker holds which job, by the kept states
    pub no_holder : (b : Bool) (worker : ℕ) (job_states' : List JobState) → job_states' ≡ job_states
        → ((b ≡ true → (j : ℕ) → ¬ (job_state_at job_states' j ≡ HeldState worker)) × (((j : ℕ) → ¬ (job_state_at job_states' j ≡ HeldState worker)) → b ≡ true))
        → (b ≡ true → HoldsNone state worker) × (HoldsNone state worker → b ≡ true)
    no_holder b worker job_states' same h =
        let family : List JobState → Type 0 = λ xs. (j : ℕ) → ¬ (job_state_at xs j ≡ HeldState worker) in (
          λ e j held. subst family same (h.0 e) j (job_state-at job_states state.jobs kept.job_states_are j ∙ ap job_state_of held),
          λ none. h.1 (subst family (sym same) (λ j e. none j (held-of (job_at state j) worker (sym (job_state-at job_states state.jobs kept.job_states_are j) ∙ e)))),
        )

    pub holder_is : (b : Bool) (worker j : ℕ) (job_states' : List JobState) → job_states' ≡ job_states
        → ((b ≡ true → job_state_at job_states' j ≡ HeldState worker) × (job_state_at job_states' j ≡ HeldState worker → b ≡ true))
        → (b ≡ true → job_at state j ≡ Held worker) × (job_at state j ≡ Held worker → b ≡ true)
    holder_is b worker j job_states' same h =
        let family : List JobState → Type 0 = λ xs. job_state_at xs j ≡ HeldState worker in (
          λ e. held-of (job_at state j) worker (sym (job_state-at job_states state.jobs kept.job_states_are j) ∙ subst family same (h.0 e)),
          λ held. h.1 (subst family (sym same) (job_state-at job_states state.jobs kept.job_states_are j ∙ ap job_state_of held)),
        )

    -- some job is held where its kept state says so
    pub held-some : IsSomeHeld job_states → (j : ℕ) × (worker : ℕ) × (job_at state j ≡ Held worker)
    held-some it = (it.0, it.1, held-of (job_at state it.0) it.1 (sym (job_state-at job_states state.jobs kept.job_states_are it.0) ∙ it.2))

    pub held-none : ¬ IsSomeHeld job_states → ((j : ℕ) → ¬ IsReady program state j) → (j : ℕ) → j < length program.deps → IsSome (result_of (job_at state j))
    held-none none unready j inside =
        idle-done program kept.ranked state sound.counted unready
        (λ k worker held. none (k, worker, job_state-at job_states state.jobs kept.job_states_are k ∙ ap job_state_of held))
        (suc (slice_index program.ranks j)) j inside (omega arith)

    halted-by : (b : Bool) → is_stopped ≡ b → MatchBool b (SomebodyStopped events × (¬ NobodyStopped state)) (NobodyStopped state × (¬ SomebodyStopped events))
    halted-by true e = let it = kept.stopped e in ((it.0, it.1), λ nobody. nobody it.0 it.2)
    halted-by false e = let it = kept.going e in (it.0, λ h. it.1 h.0 h.1)

    pub halted : MatchBool is_stopped (SomebodyStopped events × (¬ NobodyStopped state)) (NobodyStopped state × (¬ SomebodyStopped events))
    halted = halted-by is_stopped refl

    pub busy : (b : Bool) (job_states' : List JobState) → job_states' ≡ job_states → ((b ≡ true → IsSomeHeld job_states') × (IsSomeHeld job_states' → b ≡ true))
        → MatchBool b (SomeHeld state × (¬ AllOut program state)) ((¬ SomeHeld state) × (((j : ℕ) → ¬ IsReady program state j) → AllOut program state))
    busy true job_states' same known =
        let family : List JobState → Type 0 = IsSomeHeld in
        let some = held-some (subst family same (known.0 refl)) in (
          some,
          λ all.
              let out = all some.0 (holder-inside some.1 some.0 some.2) in
              false≢true (ap (λ x. is_some (result_of x)) (sym some.2) ∙ out),
        )
    busy false job_states' same known =
        let family : List JobState → Type 0 = IsSomeHeld in
        let none : ¬ IsSomeHeld job_states = λ h. false≢true (known.1 (subst family (sym same) h)) in
        (λ it. none (it.0, it.1, job_state-at job_states state.jobs kept.job_states_are it.0 ∙ ap job_state_of it.2), held-none none)

    -- which job is ready, by the kept states
    pub next-some : (found : Option ℕ) (deps' : List (List ℕ)) (job_states' : List JobState) → deps' ≡ program.deps → job_states' ≡ job_states → IfSome found (IsNextState deps' job_states')
        → IfSome found (λ j. (j < length program.deps) × IsNext program state j)
    next-some None deps' job_states' d s h = h
    next-some (Some j) deps' job_states' d s h =
        let family : List (List ℕ) → List JobState → Type 0 = λ x y. IsNextState x y j in
        let next = next-of program state job_states kept.job_states_are j (subst (λ x. family x job_states) d (subst (λ y. family deps' y) s h)) in
        (omega (arith, sound.counted, next.ready.inside), next)

    pub next-none : (found : Option ℕ) (deps' : List (List ℕ)) (job_states' : List JobState) → deps' ≡ program.deps → job_states' ≡ job_states
        → IfNone found ((j : ℕ) → ¬ IsReadyState deps' job_states' j) → IfNone found ((j : ℕ) → ¬ IsReady program state j)
    next-none (Some j) deps' job_states' d s h = h
    next-none None deps' job_states' d s h =
        let family : List (List ℕ) → List JobState → Type 0 = λ x y. (j : ℕ) → ¬ IsReadyState x y j in
        let known = subst (λ x. family x job_states) d (subst (λ y. family deps' y) s h) in
        λ j ready. known j (ready-job_state program state job_states kept.job_states_are j ready)

    -- the results that are kept are those of the state
    pub given : {A : Type 0} (value : A → M) (found : List (Option A)) → map (option_map value) found ≡ made → (ds : List ℕ)
        → filter_map (λ d. option_map value (slice_index_or found d None)) ds ≡ results state ds
    given value found same [] = refl
    given value found same (d ∷ ds) =
        let kept-at : option_map value (slice_index_or found d None) ≡ slice_index_or made d None =
        elim (cases_lt d (length found)) [
          | inl inside ↦ sym (get_or-map (option_map value) found d None None inside) ∙ ap (λ xs. slice_index_or xs d None) same
          | inr past ↦
              let long = ap (λ (xs : List (Option M)). length xs) same in
              ap (option_map value) (get_or_past found d None past) ∙ sym (get_or_past made d None (omega (arith, length-map found (option_map value), long)))
        ] in
        let state-at : slice_index_or (map result_of state.jobs) d None ≡ result_of (job_at state d) =
        elim (cases_lt d (length state.jobs)) [
          | inl inside ↦ get_or-map result_of state.jobs d Open None inside
          | inr past ↦
              get_or_past (map result_of state.jobs) d None (omega (arith, length-map state.jobs result_of))
              ∙ ap result_of (sym (get_or_past state.jobs d Open past))
        ] in
        let here = kept-at ∙ (ap (λ xs. slice_index_or xs d None) kept.results_are ∙ state-at) in
        let rest = given value found same ds in
        ap (λ x. cons_option x (filter_map (λ e. option_map value (slice_index_or found e None)) ds)) here ∙ ap (cons_option (result_of (job_at state d))) rest
