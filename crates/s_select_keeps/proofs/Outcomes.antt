-- What the machine does for an answer, one answer after another.
use Rattle.std.proofs.Common.{◌≡◌, ◌⊎◌, ℕ, ◌+◌, ◌≤◌, List, [], ◌++◌, sym, ap, subst, ◌∙◌, arith, inl, inr}
use Rattle.val_core.specs.Answers.{Answer, Returned, Cut, Exited, Undefined, before, then_on, events}
use Rattle.val_core.specs.Events.{Event, output, IsPrefixOf}
use Rattle.val_core.proofs.lemmas.Answers.{added, before-is, events-added}
use Rattle.val_core.proofs.lemmas.Events.{output_appends, deepest_appends, prefix-more, prefix-after}
use Rattle.rv_machine.specs.Laws.{Reaches}
use Rattle.rv_machine.specs.Machine.{State, exit, stack}
use Rattle.rv_machine.specs.Run.{RunResult, run, running, ended, after_output}
use Rattle.rv_machine.specs.Standing.{Text}
use Rattle.rv_machine.proofs.lemmas.RunLaws.{run-zero, run_goes_on, reaches_onwards}
use Rattle.s_linear.specs.Meaning as linear
use Rattle.s_select_keeps.specs.Relation.{Bases, Frame, at_bases, HasWords, Represents}
use Rattle.s_select_keeps.specs.Steps.{Steps, Arrives, Ends, GoesOn, Exceeds}

pub events-before : {A : Type 0} (o : List Event) (a : Answer A) → events (before o a) ≡ o ++ events a
events-before o a = ap events (before-is o a) ∙ events-added o a

-- more events only add to what exceeds the stack
pub exceeds-more : (flags sizes : ℕ → ℕ) (left : ℕ) (o p : List Event) (s : State) (input : List ℕ) → Exceeds flags sizes left o s input
    → Exceeds flags sizes left (o ++ p) s input
exceeds-more flags sizes left o p s input h = record {
  count = h.count;
  written = h.written;
  rest = h.rest;
  runs = h.runs;
  begins = subst (IsPrefixOf h.written) (sym (output_appends o p)) (prefix-more h.written (output o) (output p) h.begins);
  more = (let more = h.more in let all = deepest_appends sizes o p in omega (arith, more, all));
}

-- A state of the machine stands for one of linear code, with some addresses of blocks; Inv is what holds of each state of linear code.
pub record Shown (text : Text) (f : Frame) (Inv : Bases → linear.State → Type 0) (q : linear.State) (s : State) : Type 0 where
  pub bases : Bases
  pub inv : Inv bases q
  pub shows : Represents text (at_bases f bases) q s

-- to address b, as `Comes`
pub record Brings (text : Text) (f : Frame) (Inv : Bases → linear.State → Type 0) (b : ℕ) (q : linear.State) (did : List Event) (s : State)
    (input : List ℕ) : Type 0 where
  pub state : State
  pub count : ℕ
  pub reaches : Reaches text.flags count s input (output did) state q.input
  pub pc : state.pc ≡ b
  pub shown : Shown text f Inv q state

-- the words of a frame wherever blocks are
pub words-at : (text : Text) (f : Frame) (bases : Bases) → HasWords text f → HasWords text (at_bases f bases)
words-at text f bases has = record { aligned = has.aligned; low = has.low; readable = has.readable; writable = has.writable }

module _ (text : Text) (f : Frame) (sizes : ℕ → ℕ) (left : ℕ) (Inv : Bases → linear.State → Type 0) where
  -- the machine does what the answer says
  abbrev pub Reached : (b least : ℕ) → Answer linear.State → State → (input : List ℕ) → Type 0
  Reached b least (Returned q did) s input = Brings text f Inv b q did s input
  Reached b least (Cut did) s input = GoesOn text.flags least did s input
  Reached b least (Exited did status) s input = Ends text.flags did status s input
  Reached b least (Undefined did) s input = Unit {0}

  -- or the stack does not suffice
  abbrev pub Outcome : (b least : ℕ) → Answer linear.State → State → (input : List ℕ) → Type 0
  Outcome b least a s input = Exceeds text.flags sizes left (events a) s input ⊎ Reached b least a s input

  -- the rest of a run whose beginning wrote this
  rest-runs : (n k : ℕ) (s t : State) (input rest written : List ℕ) (r : RunResult) → Reaches text.flags n s input written t rest → run text.flags k (running t) rest ≡ r
      → run text.flags (n + k) (running s) input ≡ after_output written r
  rest-runs n k s t input rest written r reaches runs = run_goes_on text.flags n k s t input written rest reaches ∙ ap (after_output written) runs

  added-outcome : (did : List Event) (b least least' n : ℕ) (s t : State) (input rest : List ℕ) → Reaches text.flags n s input (output did) t rest → least' ≤ n + least
      → (a : Answer linear.State)
      → Outcome b least a t rest → Outcome b least' (added did a) s input
  added-outcome did b least least' n s t input rest reaches enough a (inl h) =
      inl
      (subst (λ es. Exceeds text.flags sizes left es s input) (sym (events-added did a))
      (record {
        count = n + h.count;
        written = output did ++ h.written;
        rest = h.rest;
        runs = rest-runs n h.count s t input rest (output did) (record { hart = ended stack; output = h.written; rest = h.rest }) reaches h.runs;
        begins = subst (IsPrefixOf (output did ++ h.written)) (sym (output_appends did (events a))) (prefix-after (output did) h.written (output (events a)) h.begins);
        more = (let more = h.more in let all = deepest_appends sizes did (events a) in omega (arith, more, all));
      }))
  added-outcome did b least least' n s t input rest reaches enough (Returned q o) (inr h) =
      inr
      (record {
        state = h.state;
        count = n + h.count;
        reaches =
            subst (λ out. Reaches text.flags (n + h.count) s input out h.state q.input) (sym (output_appends did o))
            (reaches_onwards text.flags n h.count s t h.state input (output did) rest (output o) q.input reaches h.reaches);
        pc = h.pc;
        shown = h.shown;
      })
  added-outcome did b least least' n s t input rest reaches enough (Cut o) (inr h) =
      inr
      (record {
        state = h.state;
        count = n + h.count;
        rest = h.rest;
        enough = (let more = h.enough in omega (arith, more, enough));
        reaches =
            subst (λ out. Reaches text.flags (n + h.count) s input out h.state h.rest) (sym (output_appends did o))
            (reaches_onwards text.flags n h.count s t h.state input (output did) rest (output o) h.rest reaches h.reaches);
      })
  added-outcome did b least least' n s t input rest reaches enough (Exited o status) (inr h) =
      inr
      (record {
        count = n + h.count;
        rest = h.rest;
        runs =
            rest-runs n h.count s t input rest (output did) (record { hart = ended (exit status); output = output o; rest = h.rest }) reaches h.runs
            ∙ ap (λ out. record { hart = ended (exit status); output = out; rest = h.rest }) (sym (output_appends did o));
      })
  added-outcome did b least least' n s t input rest reaches enough (Undefined o) (inr h) = inr tt

  -- after events, from the state that they lead to
  pub before-outcome : (did : List Event) (b least least' n : ℕ) (s t : State) (input rest : List ℕ) → Reaches text.flags n s input (output did) t rest
      → least' ≤ n + least
      → (a : Answer linear.State) → Outcome b least a t rest → Outcome b least' (before did a) s input
  before-outcome did b least least' n s t input rest reaches enough a h =
      subst (λ x. Outcome b least' x s input) (sym (before-is did a)) (added-outcome did b least least' n s t input rest reaches enough a h)

  -- after steps without events
  pub steps-outcome : (b least : ℕ) (s t : State) (input : List ℕ) (a : Answer linear.State) → Steps text.flags s t → Outcome b least a t input
      → Outcome b least a s input
  steps-outcome b least s t input a steps h = before-outcome [] b least least steps.count s t input input (steps.reaches input) (omega arith) a h

  -- one part, and on its result another
  pub then-outcome : (m b least : ℕ) (a : Answer linear.State) (next : linear.State → Answer linear.State) (s : State) (input : List ℕ) → Outcome m least a s input
      → ((q : linear.State) (t : State) → Shown text f Inv q t → t.pc ≡ m → Outcome b least (next q) t q.input) → Outcome b least (then_on a next) s input
  then-outcome m b least (Returned q o) next s input (inl h) go =
      inl (subst (λ es. Exceeds text.flags sizes left es s input) (sym (events-before o (next q))) (exceeds-more text.flags sizes left o (events (next q)) s input h))
  then-outcome m b least (Cut o) next s input (inl h) go = inl h
  then-outcome m b least (Exited o status) next s input (inl h) go = inl h
  then-outcome m b least (Undefined o) next s input (inl h) go = inl h
  then-outcome m b least (Returned q o) next s input (inr h) go =
      before-outcome o b least least h.count s h.state input q.input h.reaches (omega arith) (next q) (go q h.state h.shown h.pc)
  then-outcome m b least (Cut o) next s input (inr h) go = inr h
  then-outcome m b least (Exited o status) next s input (inr h) go = inr h
  then-outcome m b least (Undefined o) next s input (inr h) go = inr tt

  -- a smaller bound asks less
  pub weaker : (b least least' : ℕ) (s : State) (input : List ℕ) (a : Answer linear.State) → least' ≤ least → Outcome b least a s input → Outcome b least' a s input
  weaker b least least' s input a less (inl h) = inl h
  weaker b least least' s input (Returned q o) less (inr h) = inr h
  weaker b least least' s input (Cut o) less (inr h) =
      inr (record { state = h.state; count = h.count; rest = h.rest; enough = (let more = h.enough in omega (arith, more, less)); reaches = h.reaches })
  weaker b least least' s input (Exited o status) less (inr h) = inr h
  weaker b least least' s input (Undefined o) less (inr h) = inr tt

  -- nothing is left to do
  pub returns : (b least : ℕ) (q : linear.State) (s : State) → Shown text f Inv q s → s.pc ≡ b → Outcome b least (Returned q []) s q.input
  returns b least q s shown here =
      inr (record { state = s; count = 0; reaches = record { to = run-zero text.flags (running s) q.input }; pc = here; shown = shown })

  -- steps without events lead to a state for which something follows
  pub arrives-outcome : (m b least : ℕ) (q : linear.State) (s : State) (bases : Bases) (a : Answer linear.State) → Inv bases q → Arrives text (at_bases f bases) m q s
      → ((t : State) → Shown text f Inv q t → t.pc ≡ m → Outcome b least a t q.input) → Outcome b least a s q.input
  arrives-outcome m b least q s bases a inv h go =
      steps-outcome b least s h.state q.input a h.steps (go h.state (record { bases = bases; inv = inv; shows = h.shows }) h.pc)
