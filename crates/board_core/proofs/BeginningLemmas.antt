-- Beginnings of a history, and what stays.
use Rattle.std.proofs.Common.{◌≡◌, ◌≢◌, ℕ, inl, inr, Some, List, [], ◌∷◌, ◌++◌, length, map, slice_index_or, slice_set, refl, sym, ap, ◌∙◌, arith}
use Rattle.std.proofs.lemmas.List.{length-map, get_or-map, get_or_past, get_or-set_other}
use Rattle.std.proofs.lemmas.Bool.{cases_lt, cases_eq}
use Rattle.board_core.specs.declared.event.Event.{Event}
use Rattle.board_core.specs.declared.event.Event.TheVariants.{Claim, Publish, Stop}
use Rattle.board_core.specs.Board.{Job, Open, Held, Out, Program, State, job_at, released, MayHappen, after, start, replay_from, IsLegalFrom}
use Rattle.board_core.specs.Laws.{DepsGiveAnswer}
use Rattle.board_core.specs.Beginnings.{HistoriesGrow, ReplaysGoOn, EventsGoOn, BeginningsAreLegal, ResultsStay, HeldJobsKeepResults}

module _ {M : Type 0} where
  replay_from-append : (program : Program M) (state : State M) (before later : List Event)
      → replay_from program state (before ++ later) ≡ replay_from program (replay_from program state before) later
  replay_from-append program state [] later = refl
  replay_from-append program state (event ∷ before) later = replay_from-append program (after program state event) before later

  legal_from-split : (program : Program M) (state : State M) (before later : List Event) → IsLegalFrom program state (before ++ later)
      → IsLegalFrom program state before × IsLegalFrom program (replay_from program state before) later
  legal_from-split program state [] later legal = (tt, legal)
  legal_from-split program state (event ∷ before) later legal =
      let rest = legal_from-split program (after program state event) before later legal.1 in
      ((legal.0, rest.0), rest.1)

  legal_from-push : (program : Program M) (state : State M) (events : List Event) (event : Event) → IsLegalFrom program state events
      → MayHappen program (replay_from program state events) event → IsLegalFrom program state (events ++ event ∷ [])
  legal_from-push program state [] event legal may = (may, tt)
  legal_from-push program state (first ∷ events) event legal may =
      (legal.0, legal_from-push program (after program state first) events event legal.1 may)

  pub histories-grow : HistoriesGrow M
  histories-grow program events event = (
    λ legal. let parts = legal_from-split program (start program) events (event ∷ []) legal in (parts.0, parts.1.0),
    λ both. legal_from-push program (start program) events event both.0 both.1,
  )

  pub replays-go-on : ReplaysGoOn M
  replays-go-on program before later = replay_from-append program (start program) before later

  pub events-go-on : EventsGoOn M
  events-go-on program events event = replay_from-append program (start program) events (event ∷ [])

  pub beginnings-are-legal : BeginningsAreLegal M
  beginnings-are-legal program before later legal = (legal_from-split program (start program) before later legal).0

  out-apart : (jobs : List (Job M)) (j k : ℕ) (it : Job M) (made : M) → slice_index_or jobs k Open ≡ Out made → (k ≡ j → slice_index_or jobs j Open ≢ Out made)
      → slice_index_or (slice_set jobs j it) k Open ≡ Out made
  out-apart jobs j k it made out apart =
      elim (cases_eq k j) [
        | inl same ↦ absurd (apart same (sym (ap (λ n. slice_index_or jobs n Open) same) ∙ out))
        | inr other ↦ get_or-set_other jobs j k it Open other ∙ out
      ]

  pub job-released : (jobs : List (Job M)) (worker j : ℕ) → slice_index_or (map (released worker) jobs) j Open ≡ released worker (slice_index_or jobs j Open)
  job-released jobs worker j =
      elim (cases_lt j (length jobs)) [
        | inl inside ↦ get_or-map (released worker) jobs j Open Open inside
        | inr past ↦
            get_or_past (map (released worker) jobs) j Open (omega (arith, length-map jobs (released worker)))
            ∙ ap (released worker) (sym (get_or_past jobs j Open past))
      ]

  out-step : (program : Program M) (state : State M) (event : Event) → MayHappen program state event → (k : ℕ) (made : M) → job_at state k ≡ Out made
      → job_at (after program state event) k ≡ Out made
  out-step program state (Claim worker j) may k made out =
      out-apart state.jobs j k (Held worker) made out (λ same e. let is = may.next.ready.still_open in cc)
  out-step program state (Publish worker j) may k made out =
      out-apart state.jobs j k _ made out (λ same e. let is = may.1 in cc)
  out-step program state (Stop worker) may k made out = job-released state.jobs worker k ∙ ap (released worker) out

  out-from : (program : Program M) (state : State M) (events : List Event) → IsLegalFrom program state events → (k : ℕ) (made : M) → job_at state k ≡ Out made
      → job_at (replay_from program state events) k ≡ Out made
  out-from program state [] legal k made out = out
  out-from program state (event ∷ events) legal k made out =
      out-from program (after program state event) events legal.1 k made (out-step program state event legal.0 k made out)

  pub results-stay : ResultsStay M
  results-stay program before later legal j made out =
      let rest = (legal_from-split program (start program) before later legal).1 in
      ap (λ state. job_at state j) (replays-go-on program before later)
      ∙ out-from program (replay_from program (start program) before) later rest j made out

  some-same : (x y : M) → Some x ≡ Some y → x ≡ y
  some-same x y e = cc

  pub held-jobs-keep-results : DepsGiveAnswer M → HeldJobsKeepResults M
  held-jobs-keep-results gives program before later ranked legal worker j was is =
      some-same _ _
      (sym (gives program before ranked (beginnings-are-legal program before later legal) j (inr (worker, was)))
      ∙ gives program (before ++ later) ranked legal j (inr (worker, is)))
