-- Laws of what bytes say as a script, and of what a reader takes of it.
use Rattle.std.specs.Prelude.{◌≡◌, ◌≢◌, ◌↔◌, ◌+◌, ℕ, suc, List, ◌++◌, length, Option, Some}
use Rattle.std.specs.List.{AllByRecursion}
use Rattle.cc_io.specs.Source.{IsAtEnd}
use Rattle.cc_script_text.specs.Script.{first, begins, broken, Script, script, script_within, stops}
use Rattle.cc_script_text.specs.Script.{with_end, with_broken, with_lack}
use Rattle.cc_script_text.specs.Spelled.{Spells}
use Rattle.cc_script_text.specs.Taken.{TakesAll, TakesCommand, TakesPart, TakesBroken}
use Rattle.cc_script_text.specs.declared.command.Command.{Command}
use Rattle.cc_script_text.specs.declared.command.Command.TheVariants.{Build, Replace, End}

-- Bytes begin with a command exactly where they begin with how it is written.
abbrev pub CommandsAreSpelled : Type 0
CommandsAreSpelled =
    (command : Command) (bytes rest : List ℕ)
    → (first bytes ≡ begins command rest) ↔ ((text : List ℕ) × Spells command text × (bytes ≡ text ++ rest))

-- What follows a command is not read with it,
abbrev pub CommandsStand : Type 0
CommandsStand =
    (command : Command) (bytes rest more : List ℕ)
    → first bytes ≡ begins command rest → first (bytes ++ more) ≡ begins command (rest ++ more)

-- and nothing mends what is broken.
abbrev pub BreaksStand : Type 0
BreaksStand = (bytes more : List ℕ) → first bytes ≡ broken → first (bytes ++ more) ≡ broken

-- What follows `end`, or what breaks a command, changes nothing.
abbrev pub RestIsNotRead : Type 0
RestIsNotRead = (bytes more : List ℕ) → (script bytes).ending ≢ with_lack → script (bytes ++ more) ≡ script bytes

-- ---- what a reader takes, where it is known what is left

abbrev pub IsNoEnd : Command → Type 0
IsNoEnd Build = Unit {0}
IsNoEnd (Replace name text) = Unit {0}
IsNoEnd End = ⊥

-- these commands, and then the script
abbrev pub after_all : List Command → Script → Script
after_all commands script = record { commands = commands ++ script.commands; ending = script.ending }

-- Commands that are taken are the first ones of the script, and what is left is the rest of it.
abbrev pub TakenIsSaid : Type 0
TakenIsSaid =
    (commands : List Command) (most : ℕ) (bytes : List ℕ) (after : Option (List ℕ))
    → AllByRecursion IsNoEnd commands → TakesAll commands (Some bytes) after
    → (rest : List ℕ) × (after ≡ Some rest)
    × (script_within (length commands + most) bytes ≡ after_all commands (script_within most rest))

-- It ends where `end` is taken,
abbrev pub EndIsSaid : Type 0
EndIsSaid =
    (most : ℕ) (bytes : List ℕ) (after : Option (List ℕ))
    → TakesCommand first End (Some bytes) after → script_within (suc most) bytes ≡ stops with_end

-- where what is taken is no command,
abbrev pub BrokenIsSaid : Type 0
BrokenIsSaid =
    (most : ℕ) (bytes : List ℕ) (after : Option (List ℕ))
    → TakesBroken first (Some bytes) after → script_within (suc most) bytes ≡ stops with_broken

-- and where what is taken is no whole command, and nothing is left.
abbrev pub LackIsSaid : Type 0
LackIsSaid =
    (most : ℕ) (bytes : List ℕ) (after : Option (List ℕ))
    → TakesPart first (Some bytes) after → IsAtEnd after → script_within (suc most) bytes ≡ stops with_lack
