-- What bytes say as a script, command by command.
use Rattle.std.proofs.Common.{◌≡◌, ◌≢◌, ℕ, zero, suc, List, ◌++◌, refl, ap, ◌∙◌}
use Rattle.cc_script_text.specs.declared.command.Command.TheVariants.{Build, Replace, End}
use Rattle.cc_script_text.specs.Script.{First, begins, broken, lacks, first, with_lack, goes_on, script_by, script_within}
use Rattle.cc_script_text.specs.Laws.{CommandsStand, BreaksStand, RestIsNotRead}
use Rattle.cc_script_text.proofs.lemmas.Firsts.{extended, first_extends}

pub commands_stand : CommandsStand
commands_stand command bytes rest more e = first_extends bytes more (λ none. absurd cc) ∙ ap (extended more) e

pub breaks_stand : BreaksStand
breaks_stand bytes more e = first_extends bytes more (λ none. absurd cc) ∙ ap (extended more) e

within-rest : (most : ℕ) (bytes more : List ℕ) → (script_within most bytes).ending ≢ with_lack → script_within most (bytes ++ more) ≡ script_within most bytes
unfolding script_within
within-rest zero bytes more whole = refl
within-rest (suc most) bytes more whole =
    ap (script_by (script_within most)) (first_extends bytes more (λ none. whole (ap (λ f. (script_by (script_within most) f).ending) none)))
    ∙ by-first (λ rest. within-rest most rest more) (first bytes) whole
  where
    by-first : ((rest : List ℕ) → (script_within most rest).ending ≢ with_lack → script_within most (rest ++ more) ≡ script_within most rest) → (f : First) →
        (script_by (script_within most) f).ending ≢ with_lack → script_by (script_within most) (extended more f) ≡ script_by (script_within most) f
    by-first on (begins Build rest) some = ap (goes_on Build) (on rest some)
    by-first on (begins (Replace name text) rest) some = ap (goes_on (Replace name text)) (on rest some)
    by-first on (begins End rest) some = refl
    by-first on broken some = refl
    by-first on lacks some = refl

pub rest_is_not_read : RestIsNotRead
rest_is_not_read bytes more whole = within-rest 10000 bytes more whole
