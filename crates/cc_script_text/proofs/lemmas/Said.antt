-- What a reader takes of a known script is what the script says.
use Rattle.std.proofs.Common.{◌≡◌, ◌+◌, ℕ, suc, List, [], ◌∷◌, ◌++◌, length, Option, None, Some, refl, ap, subst, ◌∙◌, append-nil, arith}
use Rattle.cc_io.specs.Source.{prepend}
use Rattle.cc_script_text.specs.declared.command.Command.{Command}
use Rattle.cc_script_text.specs.declared.command.Command.TheVariants.{Build, Replace, End}
use Rattle.cc_script_text.specs.Laws.{IsNoEnd, TakenIsSaid, EndIsSaid, BrokenIsSaid, LackIsSaid}
use Rattle.cc_script_text.specs.Script.{First, begins, broken, lacks, first, Script, goes_on, script_by, script_within}
use Rattle.cc_script_text.specs.Taken.{TakesAll, TakesCommand}
use Rattle.cc_script_text.proofs.lemmas.Scripts.{commands_stand, breaks_stand}

-- what is left after bytes were taken
rest_of : (bytes taken : List ℕ) (after : Option (List ℕ)) → Some bytes ≡ prepend taken after → (rest : List ℕ) × (after ≡ Some rest) × (bytes ≡ taken ++ rest)
rest_of bytes taken None e = absurd cc
rest_of bytes taken (Some rest) e = (rest, refl, cc)

-- known bytes begin with the command that is taken
first_is : (command : Command) (bytes : List ℕ) (after : Option (List ℕ)) → TakesCommand first command (Some bytes) after → (rest : List ℕ) × (after ≡ Some rest) × (first bytes ≡ begins command rest)
first_is command bytes after t =
    let left = rest_of bytes t.bytes after t.taken in
    (left.0, left.1, ap first left.2 ∙ commands_stand command t.bytes [] left.0 t.said)

-- the script after its first command
script_more : (most : ℕ) (bytes : List ℕ) (f : First) → first bytes ≡ f → script_within (suc most) bytes ≡ script_by (script_within most) f
unfolding script_within
script_more most bytes f e = ap (script_by (script_within most)) e

command_goes : (command : Command) → IsNoEnd command → (onward : List ℕ → Script) (rest : List ℕ) → script_by onward (begins command rest) ≡ goes_on command (onward rest)
command_goes Build h onward rest = refl
command_goes (Replace name text) h onward rest = refl
command_goes End h onward rest = absurd h

pub taken_is_said : TakenIsSaid
taken_is_said [] most bytes after all e =
    let same : length {A = Command} [] + most ≡ most = omega arith in
    (bytes, e, ap (λ n. script_within n bytes) same)
taken_is_said (command ∷ commands) most bytes after all (mid, t, more) =
    let found = first_is command bytes mid t in
    let later = taken_is_said commands most found.0 after all.1 (subst (λ m. TakesAll commands m after) found.1 more) in
    let count : length (command ∷ commands) + most ≡ suc (length commands + most) = omega arith in (
      later.0,
      later.1,
      ap (λ n. script_within n bytes) count
          ∙ (script_more (length commands + most) bytes (begins command found.0) found.2
          ∙ (command_goes command all.0 (script_within (length commands + most)) found.0 ∙ ap (goes_on command) later.2)),
    )

pub end_is_said : EndIsSaid
end_is_said most bytes after t =
    let found = first_is End bytes after t in
    script_more most bytes (begins End found.0) found.2

pub broken_is_said : BrokenIsSaid
broken_is_said most bytes after t =
    let left = rest_of bytes t.bytes after t.taken in
    script_more most bytes broken (ap first left.2 ∙ breaks_stand t.bytes left.0 t.said)

pub lack_is_said : LackIsSaid
lack_is_said most bytes None t end = let clash : Some bytes ≡ None = t.taken in absurd cc
lack_is_said most bytes (Some rest) t end =
    let whole : bytes ≡ t.bytes ++ rest = cc (t.taken) in
    script_more most bytes lacks (ap first (whole ∙ (ap (λ r. t.bytes ++ r) end ∙ append-nil t.bytes)) ∙ t.said)
