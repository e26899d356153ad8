-- How the reader goes from one argument to the next.
use Rattle.std.proofs.Common.{◌≡◌, inl, inr, true, false, ℕ, List, [], ◌∷◌, Option, Some, None, refl, ap₂}
use Rattle.std.specs.Prelude.{fold}
use Rattle.clap.specs.Kinds.{Kinds, or_else}
use Rattle.clap.specs.Walk.{Held, Row, Rule, Walk, arg_by_index, arg_by_long, arg_by_short, idle, option as waits_for, reacted, settled, to_positional, value, walked}
use Rattle.clap.specs.Simple.{Shape}
use Rattle.clap.specs.Faults.{bundle_fault, flags_fault, long_fault, settle_fault, short_fault, step_fault, turn_fault, use_fault, walk_fault}
use Rattle.cc_command.specs.ParsedArguments.{Text}
use Rattle.cc_command.proofs.Classes.{IsPositional, IsOption, IsLetters}
use Rattle.cc_command.proofs.Lookups.{IsHelpOrNone, help}
use Rattle.cc_command.proofs.Settled.{IsFaulty, faulty-left, faulty-right}
use Rattle.cc_command.proofs.AtEnd.{command_at, end_fault}

-- between two arguments, where nothing waits for a value
abbrev pub before : Held → ℕ → Walk
before held position = record { held = held; waiting = idle; position = position; is_trailing = false; stopped = None }

-- after an option that waits for its value
abbrev pub expecting : Text → Held → ℕ → Walk
expecting id held position = record { held = held; waiting = waits_for id; position = position; is_trailing = false; stopped = None }

-- after `--`
abbrev pub trailing : Held → ℕ → Walk
trailing held position = record { held = held; waiting = idle; position = position; is_trailing = true; stopped = None }

-- after `--` in place of a value
abbrev pub stuck : Text → Held → ℕ → Walk
stuck id held position = record { held = held; waiting = waits_for id; position = position; is_trailing = true; stopped = None }

-- ---- what asks for help is a fault

module _ (rules : List Rule) (h : Held) where
  pub asked : Kinds
  asked = or_else (settle_fault rules false h) (use_fault false help [] (settled rules h).rows)

  pub asked-faulty : IsFaulty asked
  unfolding asked
  asked-faulty = faulty-right (settle_fault rules false h) (use_fault false help [] (settled rules h).rows) refl

  pub short-refused : (found : Option Rule) (rest : Text) (further : Held → Kinds) → IsHelpOrNone found → IsFaulty (short_fault rules false found rest h further)
  unfolding asked
  short-refused found rest further (inl is) = rw is refl
  short-refused found rest further (inr is) = rw is (faulty-left asked (further (reacted rules help [] h)) asked-faulty)

  pub long-refused : (found : Option Rule) (v : Option Text) → IsHelpOrNone found → IsFaulty (long_fault rules false found v h)
  unfolding asked
  long-refused found v (inl is) = rw is refl
  long-refused found None (inr is) = rw is asked-faulty
  long-refused found (Some t) (inr is) = rw is refl

-- ---- one argument

abbrev pub outcome : {A : Type 0} → Shape → (List Row → Option A) → Walk → List Text → Option A
outcome s read w ws = command_at s read (walk_fault s [] w ws) (fold (walked s.rules []) w ws).held

module _ {A : Type 0} (s : Shape) (read : List Row → Option A) where
  pub refused : (w : Walk) (ws : List Text) → IsFaulty (walk_fault s [] w ws) → outcome s read w ws ≡ None
  refused w ws h = rw (faulty-left (walk_fault s [] w ws) (end_fault s (fold (walked s.rules []) w ws).held) h) refl

  -- an argument without a fault
  pub step : (w next : Walk) (a : Text) (ws : List Text) → turn_fault s [] w a ≡ [] → walked s.rules [] w a ≡ next → outcome s read w (a ∷ ws) ≡ outcome s read next ws
  unfolding walk_fault
  step w next a ws none to =
      ap₂ (λ fault (n : Walk). command_at s read (or_else fault (walk_fault s [] n ws)) (fold (walked s.rules []) n ws).held) none to

  -- an argument with a fault
  pub stop : (w : Walk) (a : Text) (ws : List Text) → IsFaulty (turn_fault s [] w a) → outcome s read w (a ∷ ws) ≡ None
  unfolding walk_fault
  stop w a ws h = refused w (a ∷ ws) (faulty-left (turn_fault s [] w a) (walk_fault s [] (walked s.rules [] w a) ws) h)

  pub step-end : (held : Held) (position : ℕ) (ws : List Text) → outcome s read (before held position) ((45 ∷ 45 ∷ []) ∷ ws) ≡ outcome s read (trailing held position) ws
  unfolding walk_fault walked
  step-end held position ws = refl

  pub step-end-expecting : (id : Text) (held : Held) (position : ℕ) (ws : List Text) → outcome s read (expecting id held position) ((45 ∷ 45 ∷ []) ∷ ws) ≡ outcome s read (stuck id held position) ws
  unfolding walk_fault walked
  step-end-expecting id held position ws = refl

module _ (s : Shape) (held : Held) (position : ℕ) (a : Text) where
  pub turn-positional : IsPositional a → turn_fault s [] (before held position) a ≡ step_fault s position held value
  turn-positional p = simp (p.not_end, p.not_long, p.not_short)

  pub walked-positional : IsPositional a → walked s.rules [] (before held position) a ≡ to_positional s.rules (arg_by_index s.rules position) a (before held position) held
  unfolding walked
  walked-positional p = simp (p.not_end, p.not_long, p.not_short)

  pub walked-trailing : walked s.rules [] (trailing held position) a ≡ to_positional s.rules (arg_by_index s.rules position) a (trailing held position) held
  unfolding walked
  walked-trailing = refl

  module _ (name : Text) (v : Option Text) (p : IsOption a name v) (fault : IsFaulty (long_fault s.rules s.args_override_self (arg_by_long s.rules name) v held)) where
    pub option-before : IsFaulty (turn_fault s [] (before held position) a)
    option-before = rw (p.not_end, p.long) (faulty-left _ _ fault)

    pub option-expecting : (id : Text) → IsFaulty (turn_fault s [] (expecting id held position) a)
    option-expecting id = rw (p.not_end, p.long) (faulty-left _ _ fault)

  module _ (c x : ℕ) (xs : Text) (p : IsLetters a c x xs) (unbundled : held.skip ≡ 0)
      (refuses : (rest : Text) (h : Held) (further : Held → Kinds) → IsFaulty (short_fault s.rules s.args_override_self (arg_by_short s.rules c) rest h further)) where
    pub letters-bundle : IsFaulty (bundle_fault s.rules s.args_override_self (x ∷ xs) held)
    unfolding flags_fault
    letters-bundle = rw (unbundled, p.first) (refuses _ _ _)

    pub letters-before : IsFaulty (turn_fault s [] (before held position) a)
    letters-before = rw (p.not_end, p.not_long, p.short) (faulty-left _ _ letters-bundle)

    pub letters-expecting : (id : Text) → IsFaulty (turn_fault s [] (expecting id held position) a)
    letters-expecting id = rw (p.not_end, p.not_long, p.short) (faulty-left _ _ letters-bundle)
