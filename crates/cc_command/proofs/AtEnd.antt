-- After the last argument: what is held is read as the form says.
use Rattle.std.proofs.Common.{◌≡◌, ◌==◌, ◌+◌, ◌||◌, ◌&&◌, ◌⊎◌, inl, inr, Bool, true, false, ℕ, List, [], ◌∷◌, Option, Some, None, refl, sym, ap, ap₂, subst, ◌∙◌, length, min}
use Rattle.std.specs.Prelude.{fold, if◌then◌else◌, is_some, not, option_and_then}
use Rattle.std.specs.List.{list_any}
use Rattle.std.specs.Str.{bytes_eq}
use Rattle.clap.specs.declared.error.ErrorKind.TheVariants.{MissingRequiredArgument}
use Rattle.clap.specs.Kinds.{Kinds, or_else}
use Rattle.clap.specs.Walk.{Held, Row, Rule, finished, has_row, settled, with_default}
use Rattle.clap.specs.Simple.{Shape, new_shape}
use Rattle.clap.specs.Lexer.{usize_max}
use Rattle.clap.specs.Takes.{is_given}
use Rattle.clap.specs.Faults.{check_fault, default_fault, defaults_fault, settle_fault}
use Rattle.cc_command.specs.ParsedArguments.{Text, once, value_of, values_of}
use Rattle.cc_command.specs.Forms.{Form, Positional, OptionForm, command_with, option_values, positional_values}
use Rattle.cc_command.specs.Reading.{options_in, positionals_in, read_by}
use Rattle.cc_command.proofs.Lookups.{bytes-refl, help, is_known, named_rule, positional_rule, rules_from}
use Rattle.cc_command.proofs.Rows.{first, rows_for, says}
use Rattle.cc_command.proofs.Settled.{Given, Ready, held, settle-fault, settled-held, whole}
use Rattle.cc_command.proofs.ReadSoFar.{AtMostOne, IsRead, Required}

-- ---- a command of a form, as it is built

abbrev pub leaf : {A : Type 0} → Form A → Shape
leaf form = record (new_shape form.name) { rules = rules_from 1 form.positionals form.options; disable_help_subcommand = true; is_built = true }

-- an argument with no default
pub no-default : (a : Rule) (rows : List Row) → a.defaults ≡ [] → (with_default rows a ≡ rows) × (default_fault rows a ≡ [])
no-default a rows none = by_test (has_row a.id rows) refl where
  by_test : (t : Bool) → has_row a.id rows ≡ t → (with_default rows a ≡ rows) × (default_fault rows a ≡ [])
  by_test true is = (rw is refl, rw is refl)
  by_test false is = (rw (is, none) refl, rw (is, none) refl)

abbrev pub DefaultsNothing : List Row → List Rule → Type 0
DefaultsNothing rows c = (fold with_default rows c ≡ rows) × (defaults_fault rows c ≡ [])

pub defaults-first : (a : Rule) (c : List Rule) (rows : List Row) → a.defaults ≡ [] → DefaultsNothing rows c → DefaultsNothing rows (a ∷ c)
unfolding defaults_fault
defaults-first a c rows none rest =
    let here = no-default a rows none in
    (ap (λ rs. fold with_default rs c) here.0 ∙ rest.0, ap₂ (λ fault rs. or_else fault (defaults_fault rs c)) here.1 here.0 ∙ rest.1)

pub defaults-options : (i : ℕ) (os : List OptionForm) (rows : List Row) → DefaultsNothing rows (rules_from i [] os)
unfolding defaults_fault
defaults-options i [] rows = defaults-first help [] rows refl (refl, refl)
defaults-options i (o ∷ os) rows = defaults-first (named_rule o.name) (rules_from i [] os) rows refl (defaults-options i os rows)

pub defaults : (i : ℕ) (ps : List Positional) (os : List OptionForm) (rows : List Row) → DefaultsNothing rows (rules_from i ps os)
defaults i [] os rows = defaults-options i os rows
defaults i (p ∷ ps) os rows = defaults-first (positional_rule i p.name) (rules_from (min (i + 1) usize_max) ps os) rows refl (defaults (min (i + 1) usize_max) ps os rows)

-- ---- what is missing

abbrev pub is_missing : List Positional → List Row → Bool
is_missing ps rows = list_any (λ p. not (is_given p.name rows)) ps

abbrev pub is_wanted : List Row → Rule → Bool
is_wanted rows a = a.required && not (is_given a.id rows)

pub missing-options : (i : ℕ) (os : List OptionForm) (rows : List Row) → list_any (is_wanted rows) (rules_from i [] os) ≡ false
missing-options i [] rows = refl
missing-options i (o ∷ os) rows = missing-options i os rows

pub missing : (i : ℕ) (ps : List Positional) (os : List OptionForm) (rows : List Row) → list_any (is_wanted rows) (rules_from i ps os) ≡ is_missing ps rows
missing i [] os rows = missing-options i os rows
missing i (p ∷ ps) os rows = ap (λ t. not (is_given p.name rows) || t) (missing (min (i + 1) usize_max) ps os rows)

-- ---- the values

abbrev pub never : {A B : Type 0} → A → Option B
never a = None

pub never-some : {A B : Type 0} (o : Option A) → option_and_then (never {B = B}) o ≡ None
never-some None = refl
never-some (Some a) = refl

-- the required arguments are all there, or some are missing
abbrev pub AllOrMissing : List Positional → Given → List Text → Type 0
AllOrMissing ps seen xs =
    ((is_missing ps (rows_for seen) ≡ false) × (positionals_in ps (rows_for seen) ≡ positional_values ps xs)) ⊎ ((is_missing ps (rows_for seen) ≡ true) × (positional_values ps xs ≡ None))

pub all-or-missing : (ps : List Positional) (seen : Given) (xs : List Text) → Required ps xs seen → AllOrMissing ps seen xs
all-or-missing [] seen [] r = inl (refl, refl)
all-or-missing [] seen (x ∷ xs) r = absurd r
all-or-missing (p ∷ ps) seen [] r =
    let none = (says p.name seen).given ∙ ap (λ vs. is_some (first vs)) r.0 in
    inr (rw none refl, refl)
all-or-missing (p ∷ ps) seen (x ∷ xs) r = by_rest (all-or-missing ps seen xs r.1) where
  by_rest : AllOrMissing ps seen xs → AllOrMissing (p ∷ ps) seen (x ∷ xs)
  by_rest (inl all) =
      let some = (says p.name seen).given ∙ ap (λ vs. is_some (first vs)) r.0 in
      let value = (says p.name seen).value ∙ ap first r.0 in
      inl (rw some all.0, rw (value, all.1) refl)
  by_rest (inr some_missing) =
      let some = (says p.name seen).given ∙ ap (λ vs. is_some (first vs)) r.0 in
      inr (rw some some_missing.0, rw some_missing.1 (never-some (p.read x)))

pub once-first : (vs : List Text) → AtMostOne vs → once vs ≡ Some (first vs)
once-first [] one = refl
once-first (v ∷ []) one = refl
once-first (v ∷ w ∷ vs) one = absurd one

pub known-more : (o : OptionForm) (os : List OptionForm) (name : Text) → is_known os name ≡ true → is_known (o ∷ os) name ≡ true
known-more o os name known = by_test (bytes_eq o.name name) where
  by_test : (t : Bool) → (t || is_known os name) ≡ true
  by_test true = refl
  by_test false = known

pub options-read : (os : List OptionForm) (seen given : Given) → ((name : Text) → is_known os name ≡ true → values_of name seen ≡ values_of name given) →
    ((name : Text) → AtMostOne (values_of name seen)) →
    options_in os (rows_for seen) ≡ option_values os given
options-read [] seen given same one = refl
options-read (o ∷ os) seen given same one =
    let known : is_known (o ∷ os) o.name ≡ true = (let t = bytes-refl o.name in rw t refl) in
    let value = (says o.name seen).value in
    let given_once : value_of o.name given ≡ Some (first (values_of o.name seen)) = ap once (sym (same o.name known)) ∙ once-first (values_of o.name seen) (one o.name) in
    let rest = options-read os seen given (λ name h. same name (known-more o os name h)) one in
    rw (value, given_once, rest) refl

-- ---- the whole

abbrev pub end_fault : Shape → Held → Kinds
end_fault s end = or_else [] (or_else (settle_fault s.rules s.args_override_self end) (or_else (defaults_fault (settled s.rules end).rows s.rules) (check_fault s (finished s.rules end) false)))

-- the command of the arguments that are left
abbrev pub command_at : {A : Type 0} → Shape → (List Row → Option A) → Kinds → Held → Option A
command_at s read faults end = if length (or_else faults (end_fault s end)) == 0 then read (finished s.rules end) else None

module _ {A : Type 0} (form : Form A) (seen : Given) (last : Option (Text × Text)) (xs : List Text) (given : Given)
    (ready : Ready form.positionals form.options seen last) (read : IsRead form.positionals form.options (whole seen last) xs given) where
  pub finished-rows : finished (leaf form).rules (held seen last) ≡ rows_for (whole seen last)
  finished-rows =
      let rest = settled-held form.positionals form.options seen last ready in
      ap (λ (h : Held). fold with_default h.rows (rules_from 1 form.positionals form.options)) rest ∙ (defaults 1 form.positionals form.options (rows_for (whole seen last))).0

  abbrev pub missing_fault : Bool → Kinds
  missing_fault t = if t then MissingRequiredArgument ∷ [] else []

  pub fault-at-end : end_fault (leaf form) (held seen last) ≡ missing_fault (is_missing form.positionals (rows_for (whole seen last)))
  fault-at-end =
      let none = settle-fault form.positionals form.options seen last ready in
      let rest = settled-held form.positionals form.options seen last ready in
      let no_default = ap (λ (h : Held). defaults_fault h.rows (rules_from 1 form.positionals form.options)) rest ∙ (defaults 1 form.positionals form.options (rows_for (whole seen last))).1 in
      let wanted = ap (λ rows. list_any (is_wanted rows) (rules_from 1 form.positionals form.options)) finished-rows ∙ missing 1 form.positionals form.options (rows_for (whole seen last)) in
      let rules = (leaf form).rules in
      let wanted_now = list_any (is_wanted (finished rules (held seen last))) rules in
      let P : Kinds → Kinds → Bool → Type 0 = λ a b t. or_else [] (or_else a (or_else b (missing_fault t))) ≡ missing_fault (is_missing form.positionals (rows_for (whole seen last))) in
      subst (λ a. P a (defaults_fault (settled rules (held seen last)).rows rules) wanted_now) (sym none)
      (subst (λ b. P [] b wanted_now) (sym no_default)
      (ap missing_fault wanted))

  pub at-end : command_at (leaf form) (read_by form) [] (held seen last) ≡ command_with form (record { positionals = xs; options = given })
  at-end = by_rest (all-or-missing form.positionals (whole seen last) xs read.required) where
    by_rest : AllOrMissing form.positionals (whole seen last) xs → command_at (leaf form) (read_by form) [] (held seen last) ≡ command_with form (record { positionals = xs; options = given })
    by_rest (inl all) =
        let fault = fault-at-end ∙ ap missing_fault all.0 in
        let options = options-read form.options (whole seen last) given read.options read.once in
        rw (fault, finished-rows, all.1, options) refl
    by_rest (inr some_missing) =
        let fault = fault-at-end ∙ ap missing_fault some_missing.0 in
        rw (fault, some_missing.1) refl
