-- What is held between two arguments, and that it can be settled.
use Rattle.std.proofs.Common.{◌≡◌, ◌==◌, ◌||◌, ◌++◌, Bool, true, false, List, [], ◌∷◌, Option, Some, None, refl, sym, ap, ◌∙◌, length, rules, tests}
use Rattle.std.specs.Prelude.{is_some}
use Rattle.std.proofs.lemmas.Bool.{false≢true}
use Rattle.clap.specs.declared.error.ErrorKind.{ErrorKind}
use Rattle.clap.specs.Kinds.{Kinds, or_else}
use Rattle.clap.specs.Walk.{Held, Row, Rule, has_row, settled, used, used_by_id, with_values, without}
use Rattle.clap.specs.Faults.{repeat_fault, settle_fault, use_fault}
use Rattle.clap.specs.declared.builder.value_parser.Reading.TheVariants.{AsWritten}
use Rattle.clap.specs.declared.parser.matches.ValueSource.TheVariants.{CommandLine}
use Rattle.cc_command.specs.ParsedArguments.{Text, values_of}
use Rattle.cc_command.specs.Forms.{Positional, OptionForm}
use Rattle.cc_command.proofs.Lookups.{TakesOne, by_index, by_name, id-found, is_known, is_positional, rules_from}
use Rattle.cc_command.proofs.Rows.{first, new-row, rows_for, rows_for-append, says}

-- the arguments have a fault
abbrev pub IsFaulty : Kinds → Type 0
IsFaulty kinds = (length kinds == 0) ≡ false

pub faulty-some : (k : ErrorKind) (ks : Kinds) → IsFaulty (k ∷ ks)
faulty-some k ks = search (tests, rules)

pub faulty-left : (a b : Kinds) → IsFaulty a → IsFaulty (or_else a b)
faulty-left [] b h = absurd (false≢true (sym h))
faulty-left (k ∷ ks) b h = h

pub faulty-right : (a b : Kinds) → IsFaulty b → IsFaulty (or_else a b)
faulty-right [] b h = h
faulty-right (k ∷ ks) b h = faulty-some k ks

pub or_else-none : (kinds : Kinds) → or_else kinds [] ≡ kinds
or_else-none [] = refl
or_else-none (k ∷ ks) = refl

-- ---- one use of an argument of one value

pub use-one : (name v : Text) (a : Rule) (rows : List Row) → TakesOne name a → use_fault false a (v ∷ []) rows ≡ repeat_fault false name rows
use-one name v _ rows (by_index i) = or_else-none (repeat_fault false name rows)
use-one name v _ rows by_name = or_else-none (repeat_fault false name rows)

pub use-none : (name : Text) (a : Rule) (rows : List Row) → TakesOne name a → IsFaulty (use_fault false a [] rows)
use-none name _ rows (by_index i) = refl
use-none name _ rows by_name = refl

pub used-one : (name v : Text) (a : Rule) (rows : List Row) → TakesOne name a → used a (v ∷ []) rows ≡ with_values name AsWritten CommandLine (v ∷ []) (without name rows)
used-one name v _ rows (by_index i) = refl
used-one name v _ rows by_name = refl

pub repeat-new : (name : Text) (rows : List Row) → has_row name rows ≡ false → repeat_fault false name rows ≡ []
repeat-new name rows none = rw none refl

pub repeat-again : (name : Text) (rows : List Row) → has_row name rows ≡ true → IsFaulty (repeat_fault false name rows)
repeat-again name rows some = rw some refl

-- ---- what is held: the values read so far, and maybe one more that is not yet settled

abbrev pub Given : Type 0
Given = List (Text × Text)

abbrev pub last_pending : Option (Text × Text) → Option (Text × List Text)
last_pending None = None
last_pending (Some q) = Some (q.0, q.1 ∷ [])

abbrev pub held : Given → Option (Text × Text) → Held
held seen last = record { rows = rows_for seen; pending = last_pending last; skip = 0 }

-- an option waits for its value
abbrev pub waiting : Given → Text → Held
waiting seen name = record { rows = rows_for seen; pending = Some (name, []); skip = 0 }

abbrev pub whole : Given → Option (Text × Text) → Given
whole seen None = seen
whole seen (Some q) = seen ++ q ∷ []

pub no-row : (name : Text) (seen : Given) → values_of name seen ≡ [] → has_row name (rows_for seen) ≡ false
no-row name seen none = (says name seen).row ∙ ap (λ vs. is_some (first vs)) none

pub a-row : (name v : Text) (vs : List Text) (seen : Given) → values_of name seen ≡ v ∷ vs → has_row name (rows_for seen) ≡ true
a-row name v vs seen some = (says name seen).row ∙ ap (λ vs. is_some (first vs)) some

pub used-new : (name v : Text) (a : Rule) (seen : Given) → TakesOne name a → values_of name seen ≡ [] → used a (v ∷ []) (rows_for seen) ≡ rows_for (seen ++ (name, v) ∷ [])
used-new name v a seen one none =
    used-one name v a (rows_for seen) one
    ∙ new-row name v (rows_for seen) (no-row name seen none)
    ∙ sym (rows_for-append seen ((name, v) ∷ []))

module _ (ps : List Positional) (os : List OptionForm) where
  abbrev pub is_name : Text → Bool
  is_name name = is_positional ps name || is_known os name

  -- what is not settled can be
  abbrev pub Ready : Given → Option (Text × Text) → Type 0
  Ready seen None = Unit {0}
  Ready seen (Some q) = (is_name q.0 ≡ true) × (values_of q.0 seen ≡ [])

  pub settle-fault : (seen : Given) (last : Option (Text × Text)) → Ready seen last → settle_fault (rules_from 1 ps os) false (held seen last) ≡ []
  settle-fault seen None ready = refl
  settle-fault seen (Some q) ready =
      let found = id-found 1 ps os q.0 ready.0 in
      rw found.1 (use-one q.0 q.1 found.0 (rows_for seen) found.2 ∙ repeat-new q.0 (rows_for seen) (no-row q.0 seen ready.1))

  pub settled-held : (seen : Given) (last : Option (Text × Text)) → Ready seen last → settled (rules_from 1 ps os) (held seen last) ≡ held (whole seen last) None
  settled-held seen None ready = refl
  settled-held seen (Some q) ready =
      let found = id-found 1 ps os q.0 ready.0 in
      ap (λ (rows : List Row). record { rows = rows; pending = None; skip = 0 })
      (ap (λ a. used_by_id a (q.1 ∷ []) (rows_for seen)) found.1 ∙ used-new q.0 q.1 found.0 seen found.2 ready.1)

  pub settle-again : (seen : Given) (name v w : Text) (vs : List Text) → is_name name ≡ true → values_of name seen ≡ w ∷ vs →
      IsFaulty (settle_fault (rules_from 1 ps os) false (held seen (Some (name, v))))
  settle-again seen name v w vs known some =
      let found = id-found 1 ps os name known in
      let fault = use-one name v found.0 (rows_for seen) found.2 in
      rw (found.1, fault) (repeat-again name (rows_for seen) (a-row name w vs seen some))

  pub settle-waiting : (seen : Given) (name : Text) → is_name name ≡ true → IsFaulty (settle_fault (rules_from 1 ps os) false (waiting seen name))
  settle-waiting seen name known =
      let found = id-found 1 ps os name known in
      rw found.1 (use-none name found.0 (rows_for seen) found.2)
