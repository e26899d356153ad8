-- What a run of the code has come to where it stops.
use Rattle.std.proofs.Common.{◌≡◌, ℕ, ◌+◌, ◌<◌, List, ◌++◌, Some, None, refl, sym, ap, ◌∙◌, subst, arith}
use Rattle.cc_io.proofs.lemmas.Sink.{append-none}
use Rattle.rv_machine.specs.Endings.{ending_of, stop_for}
use Rattle.rv_machine.specs.Machine.{State, Ending, Effect, stop}
use Rattle.rv_machine.specs.Machine as plain
use Rattle.rv_machine.specs.Run.{Hart, running, ended, after_output, follow, run_state, run}
use Rattle.rv_machine.specs.Port.{Port, IsDoneAt}
use Rattle.rv_machine.specs.Steps.{Streams, hart_effect, IsGet, IsPut, IsStopped, HasEnded, stop_of}
use Rattle.rv_machine.specs.Runs.{HasCome, IsSomeRun}
use Rattle.rv_machine.specs.declared.stop.Ending as rust
use Rattle.rv_machine.specs.declared.stop.Ending.TheVariants as ending
use Rattle.rv_machine.specs.declared.stop.Stop.{Stop}
use Rattle.rv_machine.specs.declared.stop.Stop.TheVariants.{Exit, Stack, Budget, Stuck, ReadFault, WriteFault}
use Rattle.rv_machine.specs.declared.machine.Machine.{Machine}
use Rattle.rv_machine.specs.View.{state_of, hart_from, hart_of}
use Rattle.rv_machine.proofs.Reached.{IsReached, reached_more, known, streams, is-known, input_is, come, has_come, stand, step-after}
use Rattle.rv_machine.proofs.lemmas.RunLaws.{ended_stays, run-ended}

module _ (flags : ℕ → ℕ) (n steps : ℕ) (old : Hart) (before : Port) (h : Hart) (now : Port) (r : IsReached flags n old before h now) where
  abbrev input : List ℕ
  input = r.taken ++ known now.left

  come-same : (h' : Hart) (after : Streams) → h' ≡ h → after ≡ streams now → HasCome (run flags n old input) h' (streams before) after
  come-same h' after e f = rw e rw f (has_come flags n old before h now r)

  -- the run ends with the next instruction
  come-ended : (h' : Hart) (e : Ending) (after : Streams) → n < steps → (h-runs : (s : State) × (h ≡ running s)) → hart_effect flags h ≡ stop e
      → h' ≡ ended e → after ≡ streams now → HasCome (run flags steps old input) h' (streams before) after
  come-ended h' e after below h-runs is e' f =
      let rest : List ℕ = known now.left in
      let so_far : run flags n old input ≡ record { hart = running h-runs.0; output = r.written; rest = rest } =
      come flags n old before h now r ∙ ap (λ x. record { hart = x; output = r.written; rest = rest }) h-runs.1 in
      let last : run flags (n + 1) old input ≡ record { hart = ended e; output = r.written; rest = rest } =
      step-after flags n old h-runs.0 r.written input rest so_far
      ∙ ap (λ m. after_output r.written (follow m (run_state flags 0) rest)) (sym (ap (hart_effect flags) h-runs.1) ∙ is)
      ∙ stand r.written (ended e) (ended e) rest refl in
      let long : run flags steps old input ≡ run flags (n + 1) old input =
      ended_stays flags (n + 1) steps old input e (ap (λ o. o.hart) last) (omega arith) in
      rw (long ∙ last) rw e' rw f (record { hart = refl; output = r.held; rest = is-known now.left })

  asks-get : (h' : Hart) → h' ≡ h → IsGet (hart_effect flags h) → IsGet (hart_effect flags h')
  asks-get h' e g = rw e g

  asks-put : (h' : Hart) → h' ≡ h → IsPut (hart_effect flags h) → IsPut (hart_effect flags h')
  asks-put h' e g = rw e g

  ended-come : (h' : Hart) (after : Streams) → n < steps → (s : State) × (h ≡ running s) → HasEnded (hart_effect flags h) h' (streams now) after
      → HasCome (run flags steps old input) h' (streams before) after
  ended-come h' after below runs d = come-ended h' d.0 after below runs d.1 d.2 d.3

  -- a step stopped the run
  pub stopped_run : (h' : Hart) (after : Streams) (s : Stop) → n < steps → (state : State) × (h ≡ running state)
      → IsStopped (hart_effect flags h) h h' (streams now) after s → IsSomeRun flags steps old h' (streams before) after s
  stopped_run h' after ReadFault below runs d =
      (input, input_is flags n old before h now r, (n, below, come-same h' after d.1 d.2, asks-get h' d.1 d.0))
  stopped_run h' after WriteFault below runs d =
      (input, input_is flags n old before h now r, (n, below, come-same h' after d.1 d.2, asks-put h' d.1 d.0))
  stopped_run h' after Budget below runs d = absurd d
  stopped_run h' after (Exit status) below runs d =
      (input, input_is flags n old before h now r, (ended-come h' after below runs d.0, sym d.1))
  stopped_run h' after Stack below runs d =
      (input, input_is flags n old before h now r, (ended-come h' after below runs d.0, sym d.1))
  stopped_run h' after (Stuck pc why) below runs d =
      (input, input_is flags n old before h now r, (ended-come h' after below runs d.0, sym d.1))

  -- all the instructions were done
  pub budget_run : n ≡ steps → (state : State) × (h ≡ running state) → IsSomeRun flags steps old h (streams before) (streams now) Budget
  budget_run e runs = (
    input,
    input_is flags n old before h now r,
    (
      (let P : ℕ → Type 0 = λ k. HasCome (run flags k old input) h (streams before) (streams now) in subst P e (has_come flags n old before h now r)),
      ap stop_of (sym runs.1),
    ),
  )

ended-come-at-once : (flags : ℕ → ℕ) (steps : ℕ) (e : Ending) (streams : Streams)
    → HasCome (run flags steps (ended e) (known streams.left)) (ended e) streams streams
ended-come-at-once flags steps e streams =
    rw (run-ended flags steps e (known streams.left))
    (record { hart = refl; output = sym (append-none streams.held); rest = is-known streams.left })

-- a run that had ended
pub ended_run : (flags : ℕ → ℕ) (steps : ℕ) (e : rust.Ending) (streams : Streams)
    → IsSomeRun flags steps (ended (ending_of e)) (ended (ending_of e)) streams streams (stop_for e)
ended_run flags steps (ending.Exit status) streams =
    (known streams.left, is-known streams.left, (ended-come-at-once flags steps (plain.exit status) streams, refl))
ended_run flags steps ending.Stack streams =
    (known streams.left, is-known streams.left, (ended-come-at-once flags steps plain.stack streams, refl))
ended_run flags steps (ending.Stuck pc why) streams =
    (known streams.left, is-known streams.left, (ended-come-at-once flags steps (plain.stuck pc why) streams, refl))

module _ (m : Machine) where
  pub hart-runs : m.ending ≡ None → hart_of m ≡ running (state_of m)
  hart-runs is = ap (λ ending. hart_from ending (state_of m)) is

  pub ended_machine : (flags : ℕ → ℕ) (steps : ℕ) (e : rust.Ending) (s : Stop) (streams : Streams) → m.ending ≡ Some e → s ≡ stop_for e
      → IsSomeRun flags steps (hart_of m) (hart_of m) streams streams s
  ended_machine flags steps e s streams is stopped =
      let h : hart_of m ≡ ended (ending_of e) = ap (λ ending. hart_from ending (state_of m)) is in
      let P : Hart → Type 0 = λ x. IsSomeRun flags steps x x streams streams s in
      subst P (sym h) (rw stopped (ended_run flags steps e streams))

-- the flags are as they were
pub reached_next : (flags flags' : ℕ → ℕ) (n : ℕ) (old : Hart) (before : Port) (h h' : Hart) (now after : Port) → flags' ≡ flags
    → IsReached flags n old before h now → IsDoneAt (hart_effect flags' h) h' now after → IsReached flags (n + 1) old before h' after
reached_next flags flags' n old before h h' now after e r d =
    let D : (ℕ → ℕ) → Type 0 = λ f. IsDoneAt (hart_effect f h) h' now after in
    reached_more flags n old before h h' now after r (subst D e d)

pub stopped_next : (flags flags' : ℕ → ℕ) (n steps : ℕ) (old : Hart) (before : Port) (h h' : Hart) (now : Port) (after : Streams) (s : Stop) → flags' ≡ flags
    → IsReached flags n old before h now → n < steps → (state : State) × (h ≡ running state) → IsStopped (hart_effect flags' h) h h' (streams now) after s
    → IsSomeRun flags steps old h' (streams before) after s
stopped_next flags flags' n steps old before h h' now after s e r below runs d =
    let D : (ℕ → ℕ) → Type 0 = λ f. IsStopped (hart_effect f h) h h' (streams now) after s in
    stopped_run flags n steps old before h now r h' after s below runs (subst D e d)

-- a step that stopped the run has taken nothing
pub stopped_left : (effect : Effect) (old new : Hart) (before after : Streams) (s : Stop) → IsStopped effect old new before after s → after.left ≡ before.left
stopped_left effect old new before after ReadFault d = ap (λ (x : Streams). x.left) d.2
stopped_left effect old new before after WriteFault d = ap (λ (x : Streams). x.left) d.2
stopped_left effect old new before after Budget d = absurd d
stopped_left effect old new before after (Exit status) d = ap (λ (x : Streams). x.left) d.0.3
stopped_left effect old new before after Stack d = ap (λ (x : Streams). x.left) d.0.3
stopped_left effect old new before after (Stuck pc why) d = ap (λ (x : Streams). x.left) d.0.3
