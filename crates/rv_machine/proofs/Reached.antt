-- Where a run of the code has come to after some instructions.
use Rattle.std.proofs.Common.{◌≡◌, ℕ, ◌+◌, true, false, List, [], ◌∷◌, ◌++◌, Option, Some, None, refl, sym, ap, ◌∙◌, subst, append_assoc}
use Rattle.std.proofs.lemmas.Bool.{false≢true}
use Rattle.std.proofs.lemmas.List.{append-nil}
use Rattle.cc_io.specs.Sink.{append}
use Rattle.cc_io.proofs.lemmas.Sink.{append-none, append-append}
use Rattle.cc_io.specs.Source.{prepend, IsAtEnd}
use Rattle.cc_io.proofs.lemmas.Prepends.{prepend-none, prepend-twice}
use Rattle.rv_machine.specs.Machine.{State, Effect, next, stop, put, get, next_effect}
use Rattle.rv_machine.specs.Run.{Hart, running, ended, standing, after_output, follow, run_state, run}
use Rattle.rv_machine.specs.Laws.{then_run}
use Rattle.rv_machine.specs.Port.{Port, IsDoneAt}
use Rattle.rv_machine.specs.Steps.{Streams, hart_effect}
use Rattle.rv_machine.specs.Runs.{IsLeft, HasCome}
use Rattle.rv_machine.proofs.lemmas.RunLaws.{runs_add, run-zero, run-one, run_state-zero}

pub record IsReached (flags : ℕ → ℕ) (n : ℕ) (old : Hart) (before : Port) (h : Hart) (now : Port) : Type 0 where
  pub taken : List ℕ
  pub written : List ℕ
  pub to : (rest : List ℕ) → (now.closed ≡ true → rest ≡ []) → run flags n old (taken ++ rest) ≡ record { hart = h; output = written; rest = rest }
  pub held : now.held ≡ append before.held written
  pub left : before.left ≡ prepend taken now.left
  pub at_end : now.closed ≡ true → IsAtEnd now.left

pub reached_none : (flags : ℕ → ℕ) (h : Hart) (p : Port) → p.closed ≡ false → IsReached flags 0 h p h p
reached_none flags h p open_ = record {
  taken = [];
  written = [];
  to = λ rest e. run-zero flags h rest;
  held = sym (append-none p.held);
  left = prepend-none p.left;
  at_end = λ e. absurd (false≢true (sym open_ ∙ e));
}

-- one instruction more of a hart that runs
pub step-after : (flags : ℕ → ℕ) (n : ℕ) (old : Hart) (s : State) (written input rest : List ℕ)
    → run flags n old input ≡ record { hart = running s; output = written; rest = rest }
    → run flags (n + 1) old input ≡ after_output written (follow (next_effect flags s) (run_state flags 0) rest)
step-after flags n old s written input rest e =
    runs_add flags n 1 old input ∙ ap (then_run flags 1) e ∙ ap (after_output written) (run-one flags s rest)

pub stand : (written : List ℕ) (h h' : Hart) (rest : List ℕ) → h' ≡ h
    → after_output written (standing h rest) ≡ record { hart = h'; output = written; rest = rest }
stand written h h' rest e =
    ap (λ out. record { hart = h; output = out; rest = rest }) (append-nil written)
    ∙ ap (λ x. record { hart = x; output = written; rest = rest }) (sym e)

-- one instruction that goes on
go : (flags : ℕ → ℕ) (n : ℕ) (old : Hart) (s t : State) (h : Hart) (effect : Effect) (written input rest rest' : List ℕ)
    → next_effect flags s ≡ effect → run flags n old input ≡ record { hart = running s; output = written; rest = rest }
    → follow effect (run_state flags 0) rest ≡ run_state flags 0 t rest' → h ≡ running t
    → run flags (n + 1) old input ≡ record { hart = h; output = written; rest = rest' }
go flags n old s t h effect written input rest rest' is so_far does e =
    step-after flags n old s written input rest so_far
    ∙ ap (λ m. after_output written (follow m (run_state flags 0) rest)) is
    ∙ ap (after_output written) (does ∙ run_state-zero flags t rest')
    ∙ stand written (running t) h rest' e

go-put : (flags : ℕ → ℕ) (n : ℕ) (old : Hart) (s t : State) (h : Hart) (byte : ℕ) (written input rest : List ℕ)
    → next_effect flags s ≡ put byte t → run flags n old input ≡ record { hart = running s; output = written; rest = rest } → h ≡ running t
    → run flags (n + 1) old input ≡ record { hart = h; output = written ++ byte ∷ []; rest = rest }
go-put flags n old s t h byte written input rest is so_far e =
    step-after flags n old s written input rest so_far
    ∙ ap (λ m. after_output written (follow m (run_state flags 0) rest)) is
    ∙ ap (λ o. after_output written (after_output (byte ∷ []) o)) (run_state-zero flags t rest)
    ∙ ap (λ x. record { hart = x; output = written ++ byte ∷ []; rest = rest }) (sym e)

reached_by : (flags : ℕ → ℕ) (n : ℕ) (old : Hart) (before : Port) (s : State) (h : Hart) (now after : Port) (effect : Effect)
    → next_effect flags s ≡ effect → IsReached flags n old before (running s) now → IsDoneAt effect h now after
    → IsReached flags (n + 1) old before h after
reached_by flags n old before s h now after (next t) is r d = record {
  taken = r.taken;
  written = r.written;
  to = λ rest e.
      go flags n old s t h (next t) r.written (r.taken ++ rest) rest rest is (r.to rest (λ c. e (ap (λ p. p.closed) d.1 ∙ c))) refl d.0;
  held = ap (λ p. p.held) d.1 ∙ r.held;
  left = r.left ∙ ap (λ p. prepend r.taken p.left) (sym d.1);
  at_end = λ c. let P : Port → Type 0 = λ p. IsAtEnd p.left in subst P (sym d.1) (r.at_end (sym (ap (λ p. p.closed) d.1) ∙ c));
}
reached_by flags n old before s h now after (stop e) is r d = absurd d
reached_by flags n old before s h now after (put byte t) is r d = record {
  taken = r.taken;
  written = r.written ++ byte ∷ [];
  to = λ rest e.
      go-put flags n old s t h byte r.written (r.taken ++ rest) rest is (r.to rest (λ c. e (ap (λ p. p.closed) d.1 ∙ c))) d.0;
  held = ap (λ p. p.held) d.1 ∙ ap (λ held. append held (byte ∷ [])) r.held ∙ append-append before.held r.written (byte ∷ []);
  left = r.left ∙ ap (λ p. prepend r.taken p.left) (sym d.1);
  at_end = λ c. let P : Port → Type 0 = λ p. IsAtEnd p.left in subst P (sym d.1) (r.at_end (sym (ap (λ p. p.closed) d.1) ∙ c));
}
reached_by flags n old before s h now after (get received) is r (None, h_is, held_is, got) = record {
  taken = r.taken;
  written = r.written;
  to = λ rest e.
      rw (e got.2)
      (go flags n old s (received None) h (get received) r.written (r.taken ++ []) [] [] is (r.to [] (λ c. refl)) refl h_is);
  held = held_is ∙ r.held;
  left = r.left ∙ ap (prepend r.taken) (sym got.0);
  at_end = λ c. got.1;
}
reached_by flags n old before s h now after (get received) is r (Some byte, h_is, held_is, got) = record {
  taken = r.taken ++ byte ∷ [];
  written = r.written;
  to = λ rest e.
      ap (run flags (n + 1) old) (append_assoc r.taken (byte ∷ []) rest)
      ∙ go flags n old s (received (Some byte)) h (get received) r.written (r.taken ++ byte ∷ rest) (byte ∷ rest) rest is
      (r.to (byte ∷ rest) (λ c. absurd (false≢true (sym got.1 ∙ c)))) refl h_is;
  held = held_is ∙ r.held;
  left = r.left ∙ ap (prepend r.taken) got.0 ∙ prepend-twice r.taken (byte ∷ []) after.left;
  at_end = λ c. absurd (false≢true (sym got.2 ∙ c));
}

-- one instruction more
pub reached_more : (flags : ℕ → ℕ) (n : ℕ) (old : Hart) (before : Port) (h h' : Hart) (now after : Port)
    → IsReached flags n old before h now → IsDoneAt (hart_effect flags h) h' now after → IsReached flags (n + 1) old before h' after
reached_more flags n old before (running s) h' now after r d = reached_by flags n old before s h' now after (next_effect flags s) refl r d
reached_more flags n old before (ended e) h' now after r d = absurd d

-- the known rest of the input
abbrev pub known : Option (List ℕ) → List ℕ
known None = []
known (Some bytes) = bytes

pub is-known : (left : Option (List ℕ)) → IsLeft left (known left)
is-known None = tt
is-known (Some bytes) = refl

at-end-known : (left : Option (List ℕ)) → IsAtEnd left → known left ≡ []
at-end-known None h = refl
at-end-known (Some bytes) h = h

is-input : (left left' : Option (List ℕ)) (taken : List ℕ) → left ≡ prepend taken left' → IsLeft left (taken ++ known left')
is-input left None taken e = rw e tt
is-input left (Some bytes) taken e = rw e refl

abbrev pub streams : Port → Streams
streams p = record { held = p.held; left = p.left }

-- the input that a run had: what it took, and what is left
pub input_is : (flags : ℕ → ℕ) (n : ℕ) (old : Hart) (before : Port) (h : Hart) (now : Port) (r : IsReached flags n old before h now)
    → IsLeft before.left (r.taken ++ known now.left)
input_is flags n old before h now r = is-input before.left now.left r.taken r.left

pub come : (flags : ℕ → ℕ) (n : ℕ) (old : Hart) (before : Port) (h : Hart) (now : Port) (r : IsReached flags n old before h now)
    → run flags n old (r.taken ++ known now.left) ≡ record { hart = h; output = r.written; rest = known now.left }
come flags n old before h now r = r.to (known now.left) (λ c. at-end-known now.left (r.at_end c))

pub has_come : (flags : ℕ → ℕ) (n : ℕ) (old : Hart) (before : Port) (h : Hart) (now : Port) (r : IsReached flags n old before h now)
    → HasCome (run flags n old (r.taken ++ known now.left)) h (streams before) (streams now)
has_come flags n old before h now r =
    let e : run flags n old (r.taken ++ known now.left) ≡ record { hart = h; output = r.written; rest = known now.left } = come flags n old before h now r in
    rw e (record { hart = refl; output = r.held; rest = is-known now.left })
