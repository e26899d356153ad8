-- What the definition says of the arguments that are left, after those that were read.
use Rattle.std.proofs.Common.{◌≡◌, ◌++◌, Bool, true, false, List, [], ◌∷◌, Option, Some, None, refl, sym, ap, ap₂, ◌∙◌, append_assoc, append-nil}
use Rattle.std.specs.Prelude.{option_and_then}
use Rattle.std.specs.Str.{bytes_eq}
use Rattle.std.proofs.lemmas.Bool.{false≢true}
use Rattle.cc_command.specs.ParsedArguments.{Text, ParsedArguments, once, value_of, values_of, with_option, with_positional}
use Rattle.cc_command.specs.Forms.{Form, Positional, OptionForm, command_with, option_values, positional_values, value_or_default}
use Rattle.cc_command.proofs.Lookups.{is_known, next_of, same-bytes}
use Rattle.cc_command.proofs.Rows.{values_of-append}
use Rattle.cc_command.proofs.Settled.{Given}
use Rattle.cc_command.proofs.ReadSoFar.{none-some}
use Rattle.cc_command.proofs.AtEnd.{never, never-some}

-- ---- what is refused

pub positionals-full : (ps : List Positional) (xs : List Text) (w : Text) (more : List Text) → next_of ps xs ≡ None → positional_values ps (xs ++ w ∷ more) ≡ None
positionals-full [] [] w more full = refl
positionals-full [] (x ∷ xs) w more full = refl
positionals-full (p ∷ ps) [] w more full = none-some p.name (sym full)
positionals-full (p ∷ ps) (x ∷ xs) w more full = rw (positionals-full ps xs w more full) (never-some (p.read x))

never-twice : {A B C : Type 0} (o : Option A) (f : A → Option B) → option_and_then (λ a. option_and_then (never {B = C}) (f a)) o ≡ None
never-twice None f = refl
never-twice (Some a) f = never-some (f a)

pub option-again : (os : List OptionForm) (name : Text) (given : Given) → is_known os name ≡ true → value_of name given ≡ None → option_values os given ≡ None
option-again [] name given known again = absurd (false≢true known)
option-again (o ∷ os) name given known again = by_test (bytes_eq o.name name) refl known (λ h. option-again os name given h again) where
  by_test : (t : Bool) → bytes_eq o.name name ≡ t → is_known (o ∷ os) name ≡ true → (is_known os name ≡ true → option_values os given ≡ None) → option_values (o ∷ os) given ≡ None
  by_test true is known rest =
      let none : value_of o.name given ≡ None = ap (λ n. value_of n given) (same-bytes o.name name is) ∙ again in
      rw none refl
  by_test false is known rest =
      let none = rest (rw is at known) in
      rw none (never-twice (value_of o.name given) (value_or_default o))

pub once-never : (v w : Text) (vs ws : List Text) → once ((v ∷ vs) ++ (w ∷ ws)) ≡ None
once-never v w [] ws = refl
once-never v w (x ∷ vs) ws = refl

-- ---- the arguments that are left

module _ {A : Type 0} (form : Form A) where
  -- after these positional arguments and these options
  abbrev pub after : List Text → Given → Option ParsedArguments → Option A
  after xs given = option_and_then (λ p. command_with form (record { positionals = xs ++ p.positionals; options = given ++ p.options }))

  pub after-none : (xs : List Text) (given : Given) → command_with form (record { positionals = xs; options = given }) ≡ after xs given (Some (record { positionals = []; options = [] }))
  after-none xs given = sym (ap₂ (λ a b. command_with form (record { positionals = a; options = b })) (append-nil xs) (append-nil given))

  pub after-positional : (xs : List Text) (given : Given) (w : Text) (rest : Option ParsedArguments) → after (xs ++ w ∷ []) given rest ≡ after xs given (with_positional w rest)
  after-positional xs given w None = refl
  after-positional xs given w (Some p) = ap (λ a. command_with form (record { positionals = a; options = given ++ p.options })) (append_assoc xs (w ∷ []) p.positionals)

  pub after-option : (xs : List Text) (given : Given) (name v : Text) (rest : Option ParsedArguments) → after xs (given ++ (name, v) ∷ []) rest ≡ after xs given (with_option name v rest)
  after-option xs given name v None = refl
  after-option xs given name v (Some p) = ap (λ b. command_with form (record { positionals = xs ++ p.positionals; options = b })) (append_assoc given ((name, v) ∷ []) p.options)

  pub after-full : (xs : List Text) (given : Given) (w : Text) (rest : Option ParsedArguments) → next_of form.positionals xs ≡ None → after xs given (with_positional w rest) ≡ None
  after-full xs given w None full = refl
  after-full xs given w (Some p) full = let none = positionals-full form.positionals xs w p.positionals full in rw none refl

  pub after-again : (xs : List Text) (given : Given) (name v w : Text) (vs : List Text) (rest : Option ParsedArguments) → is_known form.options name ≡ true → values_of name given ≡ w ∷ vs →
      (values_of name ((name, v) ∷ []) ≡ v ∷ []) → after xs given (with_option name v rest) ≡ None
  after-again xs given name v w vs None known some own = refl
  after-again xs given name v w vs (Some p) known some own =
      let all = values_of-append name given ((name, v) ∷ p.options) ∙ ap₂ (λ a b. a ++ b) some (values_of-append name ((name, v) ∷ []) p.options ∙ ap (λ b. b ++ values_of name p.options) own) in
      let again = ap once all ∙ once-never w v vs (values_of name p.options) in
      let none = option-again form.options name (given ++ (name, v) ∷ p.options) known again in
      rw none (never-some (positional_values form.positionals (xs ++ p.positionals)))
