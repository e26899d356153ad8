-- The arguments after the name of a command, parsed (POSIX.1-2017, 12.1 and 12.2, with long options as `getopt_long` reads them).
use Rattle.std.specs.Prelude.{ℕ, Bool, true, false, List, [], ◌∷◌, Option, Some, None, if◌then◌else◌, option_map, ◌==◌}
use Rattle.std.specs.List.{list_any, before_first, after_first}
use Rattle.std.specs.Str.{bytes_eq}

abbrev pub Text : Type 0
Text = List ℕ

-- ---- what an argument is

pub data Argument : Type 0 where
  -- an argument that is no option; a lone hyphen and the empty argument are such
  positional : Argument
  -- `--`, after which no argument is an option
  end : Argument
  -- `--NAME`, or `--NAME=VALUE`
  option : Text → Option Text → Argument
  -- a hyphen and letters
  letters : Argument

abbrev pub is_equals_sign : ℕ → Bool
is_equals_sign b = b == 61

-- what follows two hyphens
abbrev pub argument_after_two : Text → Argument
argument_after_two [] = end
argument_after_two (x ∷ xs) =
    option (before_first is_equals_sign (x ∷ xs)) (if list_any is_equals_sign (x ∷ xs) then Some (after_first is_equals_sign (x ∷ xs)) else None)

-- what follows one
abbrev pub argument_after_hyphen : Text → Argument
argument_after_hyphen [] = positional
argument_after_hyphen (x ∷ xs) = if x == 45 then argument_after_two xs else letters

abbrev pub argument_of : Text → Argument
argument_of [] = positional
argument_of (x ∷ xs) = if x == 45 then argument_after_hyphen xs else positional

-- ---- positional arguments and options

-- the positional arguments in order, and the options with their values in order
pub record ParsedArguments : Type 0 where
  pub positionals : List Text
  pub options : List (Text × Text)

abbrev pub positional_first : Text → ParsedArguments → ParsedArguments
positional_first a p = record p { positionals = a ∷ p.positionals }

abbrev pub option_first : Text → Text → ParsedArguments → ParsedArguments
option_first name value p = record p { options = (name, value) ∷ p.options }

abbrev pub with_positional : Text → Option ParsedArguments → Option ParsedArguments
with_positional a = option_map (positional_first a)

abbrev pub with_option : Text → Text → Option ParsedArguments → Option ParsedArguments
with_option name value = option_map (option_first name value)

-- the value of an option is the next argument, which is a positional one
abbrev pub with_value : Text → Text → Option ParsedArguments → Argument → Option ParsedArguments
with_value name value rest positional = with_option name value rest
with_value name value rest _ = None

-- An option has a value, and is one of those that the command knows.
abbrev pub with_known : Bool → Text → Option Text → (rest : Option ParsedArguments) → (next : Text → Option ParsedArguments) → Option ParsedArguments
with_known true name (Some value) rest next = with_option name value rest
with_known true name None rest next = next name
with_known false name value rest next = None

abbrev pub with_next : (known : List Text) → Text → (following : List Text) → (rest : Option ParsedArguments) → (next : Text → Option ParsedArguments) → Argument → Option ParsedArguments
with_next known a following rest next positional = with_positional a rest
with_next known a following rest next end = Some (record { positionals = following; options = [] })
with_next known a following rest next (option name value) = with_known (list_any (λ k. bytes_eq k name) known) name value rest next
with_next known a following rest next letters = None

-- The arguments parsed, where an option may wait for its value; none where an option is unknown or has no value.
abbrev pub parsed : (known : List Text) → (waiting : Option Text) → List Text → Option ParsedArguments
parsed known None [] = Some (record { positionals = []; options = [] })
parsed known (Some name) [] = None
parsed known None (a ∷ rest) = with_next known a rest (parsed known None rest) (λ name. parsed known (Some name) rest) (argument_of a)
parsed known (Some name) (a ∷ rest) = with_value name a (parsed known None rest) (argument_of a)

-- ---- the value of an option, which is given once or not at all

abbrev pub values_of : Text → List (Text × Text) → List Text
values_of name [] = []
values_of name (o ∷ os) = if bytes_eq name o.0 then o.1 ∷ values_of name os else values_of name os

abbrev pub once : List Text → Option (Option Text)
once [] = Some None
once (v ∷ []) = Some (Some v)
once _ = None

abbrev pub value_of : Text → List (Text × Text) → Option (Option Text)
value_of name options = once (values_of name options)
