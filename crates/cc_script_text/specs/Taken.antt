-- What a reader of a script takes of what is left of it.
use Rattle.std.specs.Prelude.{◌≡◌, ◌⊎◌, ◌≤◌, ◌<◌, ℕ, List, [], ◌∷◌, ◌++◌, length, Option, None, Some, Result, Ok, Err}
use Rattle.std.specs.List.{slice_range}
use Rattle.cc_io.specs.Source.{prepend, IsAtEnd}
use Rattle.cc_script_text.specs.Script.{First, begins, broken, lacks, first}
use Rattle.cc_script_text.specs.declared.command.Command.{Command}
use Rattle.cc_script_text.specs.declared.fault.ScriptFault.{ScriptFault}
use Rattle.cc_script_text.specs.declared.fault.ScriptFault.TheVariants.{Broken, Failed, NoMemory}
use Rattle.cc_script_text.specs.declared.reader.ScriptReader.{ScriptReader}

-- the bytes that were read, and not yet taken
abbrev pub read_ahead : ScriptReader → List ℕ
read_ahead reader = slice_range reader.buffer reader.at reader.end

-- how many commands were given
abbrev pub commands_read : ScriptReader → ℕ
commands_read reader = reader.count

-- all that is left, where it is known what the source has left
abbrev pub left_of : ScriptReader → Option (List ℕ) → Option (List ℕ)
left_of reader left = prepend (read_ahead reader) left

-- the next byte was taken, or there is none
abbrev pub IsByteTaken : Option ℕ → (before after : Option (List ℕ)) → Type 0
IsByteTaken (Some byte) before after = before ≡ prepend (byte ∷ []) after
IsByteTaken None before after = (after ≡ before) × IsAtEnd after

-- The next byte was there, and is taken of what was read ahead.
abbrev pub IsByteAhead : {E : Type 0} → Result (Option ℕ) E → (ahead ahead' : List ℕ) → Type 0
IsByteAhead (Ok (Some byte)) ahead ahead' = ahead ≡ byte ∷ ahead'
IsByteAhead (Ok None) ahead ahead' = ⊥
IsByteAhead (Err e) ahead ahead' = ⊥

-- Some bytes, no more than this many, went from the front of what was read ahead to the end of a text.
pub record IsMoved (most : ℕ) (text text' ahead ahead' : List ℕ) : Type 0 where
  pub moved : List ℕ
  pub some : 0 < length moved
  pub few : length moved ≤ most
  pub to_text : text' ≡ text ++ moved
  pub from_front : ahead ≡ moved ++ ahead'

-- ---- what the bytes that were taken say, by what bytes say

-- they are this command, and nothing more
pub record TakesCommand (says : List ℕ → First) (command : Command) (before after : Option (List ℕ)) : Type 0 where
  pub bytes : List ℕ
  pub taken : before ≡ prepend bytes after
  pub said : says bytes ≡ begins command []

-- they are no whole command
pub record TakesPart (says : List ℕ → First) (before after : Option (List ℕ)) : Type 0 where
  pub bytes : List ℕ
  pub taken : before ≡ prepend bytes after
  pub said : says bytes ≡ lacks

-- they are no command, whatever follows
pub record TakesBroken (says : List ℕ → First) (before after : Option (List ℕ)) : Type 0 where
  pub bytes : List ℕ
  pub taken : before ≡ prepend bytes after
  pub said : says bytes ≡ broken

-- Why there is no command at the place of this number.
abbrev pub IsFault : (says : List ℕ → First) → ScriptFault → (number : ℕ) → (before after : Option (List ℕ)) → Type 0
IsFault says (Broken at) number before after =
    (at ≡ number) × (TakesBroken says before after ⊎ (TakesPart says before after × IsAtEnd after))
IsFault says Failed number before after = TakesPart says before after
IsFault says NoMemory number before after = (bytes : List ℕ) × (before ≡ prepend bytes after)

-- ---- several commands

-- these commands were taken one after another
abbrev pub TakesAll : List Command → (before after : Option (List ℕ)) → Type 0
TakesAll [] before after = after ≡ before
TakesAll (command ∷ commands) before after =
    (mid : Option (List ℕ)) × TakesCommand first command before mid × TakesAll commands mid after
