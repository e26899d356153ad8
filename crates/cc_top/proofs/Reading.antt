-- Commands taken one after the other, and what the bytes that were taken say.
use Rattle.std.proofs.Common.{◌≡◌, ◌+◌, ◌-◌, ◌<◌, ◌≤◌, ℕ, suc, List, [], ◌∷◌, ◌++◌, length, Option, Some, refl, ap, sym, subst, ◌∙◌, append_assoc, append-nil, arith}
use Rattle.std.specs.List.{AllByRecursion}
use Rattle.cc_io.specs.Source.{prepend}
use Rattle.cc_io.proofs.lemmas.Prepends.{prepend-twice}
use Rattle.cc_script_text.specs.Script.{first, Script, script, script_within, stops, with_end, with_broken, with_lack, most_commands}
use Rattle.cc_script_text.specs.Taken.{TakesAll, TakesCommand, TakesPart, TakesBroken}
use Rattle.cc_script_text.specs.Laws.{IsNoEnd, after_all}
use Rattle.cc_script_text.specs.declared.command.Command.{Command}
use Rattle.cc_script_text.specs.declared.command.Command.TheVariants.{End}
use Rattle.cc_script_text.proofs.lemmas.Said.{taken_is_said, end_is_said, broken_is_said, lack_is_said}
use Rattle.cc_top.specs.ScriptEnds.{GoesOn}

-- ---- commands taken

-- what was taken is taken whatever follows it
pub at_front : (command : Command) (before after : Option (List ℕ)) (t : TakesCommand first command before after) (more : List ℕ) → TakesCommand first command (Some (t.bytes ++ more)) (Some more)
at_front command before after t more = record { bytes = t.bytes; taken = refl; said = t.said }

takes_after : (commands : List Command) (command : Command) (before mid after : Option (List ℕ)) → TakesAll commands before mid → TakesCommand first command mid after →
    TakesAll (commands ++ command ∷ []) before after
takes_after [] command before mid after all one = (after, subst (λ m. TakesCommand first command m after) all one, refl)
takes_after (c ∷ commands) command before mid after all one = (all.0, all.1, takes_after commands command all.0 mid after all.2 one)

pub takes_more : (commands : List Command) (taken : List ℕ) (command : Command) (before after : Option (List ℕ)) (t : TakesCommand first command before after)
    → ((more : List ℕ) → TakesAll commands (Some (taken ++ more)) (Some more)) → (more : List ℕ) → TakesAll (commands ++ command ∷ []) (Some ((taken ++ t.bytes) ++ more)) (Some more)
takes_more commands taken command before after t all more =
    subst (λ b. TakesAll (commands ++ command ∷ []) (Some b) (Some more)) (sym (append_assoc taken t.bytes more))
    (takes_after commands command (Some (taken ++ (t.bytes ++ more))) (Some (t.bytes ++ more)) (Some more) (all (t.bytes ++ more)) (at_front command before after t more))

-- ---- what the bytes say

-- the script after so many commands
abbrev pub script_after : (count : ℕ) → List ℕ → Script
script_after count bytes = script_within (most_commands - count) bytes

-- the commands that were taken, and then the script of the bytes that follow
pub said_of : (commands : List Command) (count : ℕ) (taken more : List ℕ) → AllByRecursion IsNoEnd commands → length commands ≡ count → count ≤ most_commands
    → TakesAll commands (Some (taken ++ more)) (Some more) → script (taken ++ more) ≡ after_all commands (script_after count more)
said_of commands count taken more none counted few all =
    let found = taken_is_said commands (most_commands - count) (taken ++ more) (Some more) none all in
    let same : found.0 ≡ more = cc (found.1) in
    let whole : length commands + (most_commands - count) ≡ most_commands = omega (arith, counted, few) in
    ap (λ n. script_within n (taken ++ more)) (sym whole) ∙ (found.2 ∙ ap (λ b. after_all commands (script_after count b)) same)

one_more : (count : ℕ) → count < most_commands → most_commands - count ≡ suc (most_commands - suc count)
one_more count low = omega (arith, low)

module _ (count : ℕ) (low : count < most_commands) (before after : Option (List ℕ)) (more : List ℕ) where
  within : (bytes : List ℕ) → script_after count bytes ≡ script_within (suc (most_commands - suc count)) bytes
  within bytes = ap (λ n. script_within n bytes) (one_more count low)

  pub ends_there : (t : TakesCommand first End before after) → script_after count (t.bytes ++ more) ≡ stops with_end
  ends_there t = within (t.bytes ++ more) ∙ end_is_said (most_commands - suc count) (t.bytes ++ more) (Some more) (at_front End before after t more)

  pub breaks_there : (t : TakesBroken first before after) → script_after count (t.bytes ++ more) ≡ stops with_broken
  breaks_there t = within (t.bytes ++ more) ∙ broken_is_said (most_commands - suc count) (t.bytes ++ more) (Some more) (record { bytes = t.bytes; taken = refl; said = t.said })

  pub lacks_there : (t : TakesPart first before after) → script_after count t.bytes ≡ stops with_lack
  lacks_there t =
      within t.bytes
      ∙ lack_is_said (most_commands - suc count) t.bytes (Some []) (record { bytes = t.bytes; taken = ap Some (sym (append-nil t.bytes)); said = t.said }) refl

  pub goes_there : (command : Command) → IsNoEnd command → (t : TakesCommand first command before after) → GoesOn (script_after count (t.bytes ++ more)) command
  goes_there command none t =
      let found =
      taken_is_said (command ∷ []) (most_commands - suc count) (t.bytes ++ more) (Some more) (none, tt) (Some more, at_front command before after t more, refl)
      in
      let one : length (command ∷ []) + (most_commands - suc count) ≡ suc (most_commands - suc count) = omega arith in
      let script_is = within (t.bytes ++ more) ∙ (ap (λ n. script_within n (t.bytes ++ more)) (sym one) ∙ found.2) in
      record { others = (script_within (most_commands - suc count) found.0).commands; commands = ap (λ (s : Script). s.commands) script_is }

pub is_full : (count : ℕ) (bytes : List ℕ) → count ≡ most_commands → script_after count bytes ≡ stops with_broken
unfolding script_within
is_full count bytes full =
    let none : most_commands - count ≡ 0 = omega (arith, full) in
    ap (λ n. script_within n bytes) none

-- ---- what was taken of the input

pub taken_twice : (before mid after : Option (List ℕ)) (first second : List ℕ) → before ≡ prepend first mid → mid ≡ prepend second after → before ≡ prepend (first ++ second) after
taken_twice before mid after first second one two = one ∙ (ap (prepend first) two ∙ prepend-twice first second after)
