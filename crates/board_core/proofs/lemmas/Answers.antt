-- The result of each job that is out is that of the recursion on ranks.
use Rattle.std.proofs.Common.{◌≡◌, ℕ, zero, suc, ◌<◌, ◌≤◌, true, false, inl, inr, Option, Some, None, List, [], ◌∷◌, length, map, slice_index, slice_index_or, slice_set, Contains, IsSome, refl, sym, ap, subst, ◌∙◌, arith}
use Rattle.std.specs.Prelude.{is_some, option_map, replicate}
use Rattle.std.specs.List.{cons_option}
use Rattle.std.proofs.lemmas.List.{length-map, length-set, length-replicate, get_or-replicate, get_or_past}
use Rattle.std.proofs.lemmas.Bool.{cases_lt, false≢true}
use Rattle.board_core.specs.declared.event.Event.{Event}
use Rattle.board_core.specs.declared.event.Event.TheVariants.{Claim, Publish, Stop}
use Rattle.board_core.specs.Board.{Job, Open, Held, Out, Program, State, job_at, result_of, deps_of, results, released, IsReady, MayHappen, after, start, replay, IsLegal}
use Rattle.board_core.specs.Answers.{IsRanked, all_some, answer_below, answer}
use Rattle.board_core.specs.Laws.{ResultsAreAnswers, DepsGiveAnswer, JobsHaveAnswers, AnswersComeOfDeps, IdleBoardsAreDone}
use Rattle.board_core.proofs.MachineLemmas.{legal-keeps, inside-from_job, job-released, result-released, held-released, out-released, job-set}

contains-head : (d : ℕ) (ds : List ℕ) → Contains (d ∷ ds) d
contains-head d ds = (0, omega arith, refl)

contains-tail : (d e : ℕ) (ds : List ℕ) → Contains ds e → Contains (d ∷ ds) e
contains-tail d e ds h = (suc h.0, omega (arith, h.1), h.2)

some-map : {X Y : Type 0} (f : X → Y) (o : Option X) → IsSome o → IsSome (option_map f o)
some-map f None h = h
some-map f (Some x) h = refl

module _ {M : Type 0} where
  pub some-of : (o : Option M) → IsSome o → (made : M) × (o ≡ Some made)
  some-of None h = absurd (false≢true h)
  some-of (Some made) h = (made, refl)

  out-of : (it : Job M) (made : M) → result_of it ≡ Some made → it ≡ Out made
  out-of Open made e = cc
  out-of (Held worker) made e = cc
  out-of (Out other) made e = let same : other ≡ made = cc in ap Out same

  pub all_some-cons : (x : Option M) (xs : List (Option M)) (made : List M) → all_some (x ∷ xs) ≡ Some made
      → (first : M) × (others : List M) × (x ≡ Some first) × (all_some xs ≡ Some others) × (made ≡ first ∷ others)
  all_some-cons None xs made e = cc
  all_some-cons (Some first) xs made e = all_some-cons-by first (all_some xs) made e where
    all_some-cons-by : (x : M) (rest : Option (List M)) (all : List M) → option_map (λ others. x ∷ others) rest ≡ Some all
        → (one : M) × (others : List M) × (Some x ≡ Some one) × (rest ≡ Some others) × (all ≡ one ∷ others)
    all_some-cons-by x None all e' = cc
    all_some-cons-by x (Some others) all e' = let same : all ≡ x ∷ others = cc in (x, others, refl, refl, same)

  -- what one gives the other gives too
  all_some-more : (f g : ℕ → Option M) → ((d : ℕ) (made : M) → f d ≡ Some made → g d ≡ Some made) → (ds : List ℕ) (made : List M) → all_some (map f ds) ≡ Some made → all_some (map g ds) ≡ Some made
  all_some-more f g more [] made e = e
  all_some-more f g more (d ∷ ds) made e =
      let parts = all_some-cons (f d) (map f ds) made e in
      let next = all_some-more f g more ds parts.1 parts.3 in
      let family : Option M → Type 0 = λ x. all_some (x ∷ map g ds) ≡ Some made in
      subst family (sym (more d parts.0 parts.2)) (ap (option_map (λ others. parts.0 ∷ others)) next ∙ ap Some (sym parts.4))

  answer-by : (make : List M → M) (more fewer : Option (List M)) (made : M) → ((all : List M) → fewer ≡ Some all → more ≡ Some all) → option_map make fewer ≡ Some made
      → option_map make more ≡ Some made
  answer-by make more None made grows e = cc
  answer-by make more (Some all) made grows e = ap (option_map make) (grows all refl) ∙ e

  -- more fuel gives the same
  answer_below-more : (program : Program M) (n m j : ℕ) (made : M) → n ≤ m → answer_below program n j ≡ Some made → answer_below program m j ≡ Some made
  answer_below-more program zero m j made le e = cc
  answer_below-more program (suc n) zero j made le e = absurd (omega arith)
  answer_below-more program (suc n) (suc m) j made le e =
      answer-by (program.made j) (all_some (map (answer_below program m) (deps_of program j))) (all_some (map (answer_below program n) (deps_of program j))) made
      (λ all h. all_some-more (answer_below program n) (answer_below program m) (λ d it i. answer_below-more program n m d it (omega arith) i) (deps_of program j) all h)
      e

  -- where each of the jobs is out with its answer, the answers of all are their results
  all-answers : (program : Program M) (state : State M) (bound : ℕ) (ds : List ℕ)
      → ((d : ℕ) → Contains ds d → (made : M) × (result_of (job_at state d) ≡ Some made) × (answer_below program bound d ≡ Some made))
      → all_some (map (answer_below program bound) ds) ≡ Some (results state ds)
  all-answers program state bound [] each = refl
  all-answers program state bound (d ∷ ds) each =
      let here = each d (contains-head d ds) in
      let rest = all-answers program state bound ds (λ e h. each e (contains-tail d e ds h)) in
      let answers : Option M → Type 0 = λ x. all_some (x ∷ map (answer_below program bound) ds) ≡ Some (cons_option (result_of (job_at state d)) (results state ds)) in
      let made : Option M → Type 0 = λ x. all_some (Some here.0 ∷ map (answer_below program bound) ds) ≡ Some (cons_option x (results state ds)) in
      subst answers (sym here.2) (subst made (sym here.1) (ap (option_map (λ others. here.0 ∷ others)) rest))

  -- what each event keeps
  pub record IsSound (program : Program M) (state : State M) : Type 0 where
    pub counted : length state.jobs ≡ length program.deps
    pub workers : length state.stopped ≡ program.workers
    pub held : (j worker : ℕ) → job_at state j ≡ Held worker → (d : ℕ) → Contains (deps_of program j) d → IsSome (result_of (job_at state d))
    pub out : (j : ℕ) (made : M) → job_at state j ≡ Out made → answer program j ≡ Some made
    pub known : (j worker : ℕ) → job_at state j ≡ Held worker → worker < program.workers

  job-start : (program : Program M) (j : ℕ) → job_at (start program) j ≡ Open
  job-start program j =
      elim (cases_lt j (length program.deps)) [
        | inl inside ↦ get_or-replicate (length program.deps) j Open Open inside
        | inr past ↦
            let open' : Job M = Open in
            get_or_past (replicate (length program.deps) open') j Open (omega (arith, length-replicate (length program.deps) open'))
      ]

  sound-start : (program : Program M) → IsSound program (start program)
  sound-start program =
      let open' : Job M = Open in
      record {
        counted = length-replicate (length program.deps) open';
        workers = length-replicate program.workers false;
        held = λ j worker e. let is = job-start program j in cc;
        out = λ j made e. let is = job-start program j in cc;
        known = λ j worker e. let is = job-start program j in cc;
      }

  -- results stay
  set-keeps : (jobs : List (Job M)) (j : ℕ) (it : Job M) → j < length jobs → (IsSome (result_of (slice_index_or jobs j Open)) → IsSome (result_of it)) → (d : ℕ)
      → IsSome (result_of (slice_index_or jobs d Open)) → IsSome (result_of (slice_index_or (slice_set jobs j it) d Open))
  set-keeps jobs j it inside kept d h =
      elim (job-set jobs j it inside d) [
        | inl here ↦
            let family : Job M → Type 0 = λ x. IsSome (result_of x) in
            let at : ℕ → Type 0 = λ n. IsSome (result_of (slice_index_or jobs n Open)) in
            subst family (sym here.1) (kept (subst at here.0 h))
        | inr there ↦
            let family : Job M → Type 0 = λ x. IsSome (result_of x) in
            subst family (sym there.1) h
      ]

  sound-claim : (program : Program M) (state : State M) (worker j : ℕ) → worker < program.workers → IsSound program state → IsReady program state j
      → IsSound program (record { jobs = slice_set state.jobs j (Held worker); stopped = state.stopped })
  sound-claim program state worker j low now ready =
      let it : Job M = Held worker in
      let stay = set-keeps state.jobs j it ready.inside (λ h. absurd (false≢true (ap (λ x. is_some (result_of x)) (sym ready.still_open) ∙ h))) in
      record {
        counted = length-set state.jobs j it ∙ now.counted;
        workers = now.workers;
        held = λ k holder e d h.
            elim (job-set state.jobs j it ready.inside k) [
              | inl here ↦
                  let family : ℕ → Type 0 = λ n. Contains (deps_of program n) d in
                  stay d (ready.deps_out d (subst family here.0 h))
              | inr there ↦ stay d (now.held k holder (sym there.1 ∙ e) d h)
            ];
        out = λ k made e.
            elim (job-set state.jobs j it ready.inside k) [
              | inl here ↦ let is = here.1 in cc
              | inr there ↦ now.out k made (sym there.1 ∙ e)
            ];
        known = λ k holder e.
            elim (job-set state.jobs j it ready.inside k) [
              | inl here ↦
                  let same : worker ≡ holder = let is = here.1 in cc in
                  omega arith
              | inr there ↦ now.known k holder (sym there.1 ∙ e)
            ];
      }

  -- what is made of deps that are all out is the answer
  made-answer : (program : Program M) → IsRanked program → (state : State M) → IsSound program state → (j : ℕ) → ((d : ℕ) → Contains (deps_of program j) d → IsSome (result_of (job_at state d)))
      → answer program j ≡ Some (program.made j (results state (deps_of program j)))
  made-answer program ranked state now j deps_out =
      ap (option_map (program.made j))
      (all-answers program state (slice_index program.ranks j) (deps_of program j)
      (λ d h.
      let some = some-of (result_of (job_at state d)) (deps_out d h) in (
        some.0,
        some.1,
        answer_below-more program (suc (slice_index program.ranks d)) (slice_index program.ranks j) d some.0 (ranked.smaller j d h)
            (now.out d some.0 (out-of (job_at state d) some.0 some.1)),
      )))

  sound-publish : (program : Program M) → IsRanked program → (state : State M) (worker j : ℕ) → IsSound program state → job_at state j ≡ Held worker
      → IsSound program (record { jobs = slice_set state.jobs j (Out (program.made j (results state (deps_of program j)))); stopped = state.stopped })
  sound-publish program ranked state worker j now held =
      let it : Job M = Out (program.made j (results state (deps_of program j))) in
      let inside = inside-from_job state j (λ e. cc) in
      let stay = set-keeps state.jobs j it inside (λ h. refl) in
      record {
        counted = length-set state.jobs j it ∙ now.counted;
        workers = now.workers;
        held = λ k holder e d h.
            elim (job-set state.jobs j it inside k) [
              | inl here ↦ let is = here.1 in cc
              | inr there ↦ stay d (now.held k holder (sym there.1 ∙ e) d h)
            ];
        out = λ k made e.
            elim (job-set state.jobs j it inside k) [
              | inl here ↦
                  let same : program.made j (results state (deps_of program j)) ≡ made = let is = here.1 in cc in
                  ap (answer program) here.0 ∙ (made-answer program ranked state now j (now.held j worker held) ∙ ap Some same)
              | inr there ↦ now.out k made (sym there.1 ∙ e)
            ];
        known = λ k holder e.
            elim (job-set state.jobs j it inside k) [
              | inl here ↦ let is = here.1 in cc
              | inr there ↦ now.known k holder (sym there.1 ∙ e)
            ];
      }

  sound-stop : (program : Program M) (state : State M) (worker : ℕ) → IsSound program state
      → IsSound program (record { jobs = map (released worker) state.jobs; stopped = slice_set state.stopped worker true })
  sound-stop program state worker now =
      let at = job-released state.jobs worker in
      record {
        counted = length-map state.jobs (released worker) ∙ now.counted;
        workers = length-set state.stopped worker true ∙ now.workers;
        held = λ k holder e d h.
            let was = held-released worker (job_at state k) holder (sym (at k) ∙ e) in
            ap (λ x. is_some (result_of x)) (at d) ∙ (ap is_some (result-released worker (job_at state d)) ∙ now.held k holder was d h);
        out = λ k made e. now.out k made (out-released worker (job_at state k) made (sym (at k) ∙ e));
        known = λ k holder e. now.known k holder (held-released worker (job_at state k) holder (sym (at k) ∙ e));
      }

  sound-step : (program : Program M) → IsRanked program → (state : State M) (event : Event) → IsSound program state → MayHappen program state event → IsSound program (after program state event)
  sound-step program ranked state (Claim worker j) now may = sound-claim program state worker j may.known now may.next.ready
  sound-step program ranked state (Publish worker j) now may = sound-publish program ranked state worker j now may.1
  sound-step program ranked state (Stop worker) now may = sound-stop program state worker now

  pub sound-replay : (program : Program M) → IsRanked program → (events : List Event) → IsLegal program events → IsSound program (replay program events)
  sound-replay program ranked events legal =
      legal-keeps program (λ k state. IsSound program state) (λ k state event now may. sound-step program ranked state event now may) events 0 (start program) legal (sound-start program)

  pub results-are-answers : ResultsAreAnswers M
  results-are-answers program events ranked legal j made e = (sound-replay program ranked events legal).out j made e

  pub deps-give-answer : DepsGiveAnswer M
  deps-give-answer program events ranked legal j (inl ready) =
      made-answer program ranked (replay program events) (sound-replay program ranked events legal) j ready.deps_out
  deps-give-answer program events ranked legal j (inr held) =
      let now = sound-replay program ranked events legal in
      made-answer program ranked (replay program events) now j (now.held j held.0 held.1)

  -- in a state where no job is ready and none is held, each job is out
  pub idle-done : (program : Program M) → IsRanked program → (state : State M) → length state.jobs ≡ length program.deps → ((j : ℕ) → ¬ IsReady program state j)
      → ((j worker : ℕ) → ¬ (job_at state j ≡ Held worker)) → (bound j : ℕ) → j < length program.deps → slice_index program.ranks j < bound → IsSome (result_of (job_at state j))
  idle-done program ranked state counted unready unheld zero j inside below = absurd (omega arith)
  idle-done program ranked state counted unready unheld (suc bound) j inside below =
      idle-done-by (job_at state j) refl (λ d h. idle-done program ranked state counted unready unheld bound d (ranked.known j d h) (omega (arith, ranked.smaller j d h))) where
        idle-done-by : (it : Job M) → job_at state j ≡ it → ((d : ℕ) → Contains (deps_of program j) d → IsSome (result_of (job_at state d))) → IsSome (result_of (job_at state j))
        idle-done-by Open is deps = absurd (unready j (record { inside = omega (arith, counted); still_open = is; deps_out = deps }))
        idle-done-by (Held worker) is deps = absurd (unheld j worker is)
        idle-done-by (Out made) is deps = ap (λ x. is_some (result_of x)) is

  pub idle-boards-are-done : IdleBoardsAreDone M
  idle-boards-are-done program events ranked legal unready unheld j inside =
      idle-done program ranked (replay program events) (sound-replay program ranked events legal).counted unready unheld (suc (slice_index program.ranks j)) j inside (omega arith)

  all_some-is : (f : ℕ → Option M) (ds : List ℕ) → ((d : ℕ) → Contains ds d → IsSome (f d)) → IsSome (all_some (map f ds))
  all_some-is f [] each = refl
  all_some-is f (d ∷ ds) each =
      let here = some-of (f d) (each d (contains-head d ds)) in
      let rest = all_some-is f ds (λ e h. each e (contains-tail d e ds h)) in
      let family : Option M → Type 0 = λ x. IsSome (all_some (x ∷ map f ds)) in
      subst family (sym here.1) (some-map (λ others. here.0 ∷ others) (all_some (map f ds)) rest)

  answer_below-is : (program : Program M) → IsRanked program → (bound j : ℕ) → slice_index program.ranks j < bound → IsSome (answer_below program bound j)
  answer_below-is program ranked zero j below = absurd (omega arith)
  answer_below-is program ranked (suc bound) j below =
      some-map (program.made j) (all_some (map (answer_below program bound) (deps_of program j)))
      (all_some-is (answer_below program bound) (deps_of program j) (λ d h. answer_below-is program ranked bound d (omega (arith, ranked.smaller j d h))))

  pub jobs-have-answers : JobsHaveAnswers M
  jobs-have-answers program ranked j inside = answer_below-is program ranked (suc (slice_index program.ranks j)) j (omega arith)

  -- lists of results at which two functions agree
  pub same-results : (f g : ℕ → Option M) (ds : List ℕ) → ((d : ℕ) → Contains ds d → f d ≡ g d) → map f ds ≡ map g ds
  same-results f g [] same = refl
  same-results f g (d ∷ ds) same =
      let here = same d (contains-head d ds) in
      let rest = same-results f g ds (λ e h. same e (contains-tail d e ds h)) in
      cc

  pub answers-come-of-deps : AnswersComeOfDeps M
  answers-come-of-deps program ranked j =
      let rank = slice_index program.ranks j in
      ap (λ xs. option_map (program.made j) (all_some xs)) (same-results (answer_below program rank) (answer program) (deps_of program j) (λ d h.
      let own = suc (slice_index program.ranks d) in
      let some = some-of (answer program d) (answer_below-is program ranked own d (omega arith)) in
      answer_below-more program own rank d some.0 (ranked.smaller j d h) some.1 ∙ sym some.1))
