-- Answers one after the other: commands, lines, and what OUT holds.
use Rattle.std.proofs.Common.{◌≡◌, ℕ, List, [], ◌∷◌, ◌++◌, Option, None, Some, option_map, refl, ap, subst, ◌∙◌, append-nil}
use Rattle.std.proofs.lemmas.Grind.{flat_map-append}
use Rattle.std.specs.List.{AllByRecursion}
use Rattle.cc_io.specs.Files.{Name, FileSet, put_file}
use Rattle.cc_io.specs.Laws.{PutTwice}
use Rattle.cc_session.specs.Session.{PlainSession}
use Rattle.cc_script_text.specs.Laws.{IsNoEnd}
use Rattle.cc_script_text.specs.declared.command.Command.{Command}
use Rattle.cc_script_text.specs.declared.command.Command.TheVariants.{Build, Replace, End}
use Rattle.cc_top.specs.declared.answer.Answer.{Answer}
use Rattle.cc_top.specs.declared.answer.Answer.TheVariants.{Replaced, Image, NoFunction, Refused, OtherNames}
use Rattle.cc_top.specs.Answers.{Held, held_first, IsAnswered, AreAnswered, line_of, lines_of}
use Rattle.cc_top.specs.ScriptEnds.{with_image}

-- ---- what OUT holds

-- what a command made, or else what OUT held
abbrev pub later : Option (List ℕ) → Option (List ℕ) → Option (List ℕ)
later held None = held
later held (Some bytes) = Some bytes

twice : PutTwice → (image : Name) (first second : List ℕ) (files : Option FileSet) →
    option_map (put_file image second) (option_map (put_file image first) files) ≡ option_map (put_file image second) files
twice put image first second None = refl
twice put image first second (Some files) = ap Some (put image first second files)

pub with_later : PutTwice → (image : Name) (held out : Option (List ℕ)) (files : Option FileSet) → with_image image out (with_image image held files) ≡ with_image image (later held out) files
with_later put image held None files = refl
with_later put image None (Some bytes) files = refl
with_later put image (Some before) (Some bytes) files = twice put image before bytes files

-- ---- one command

-- a session of which it is known what OUT holds answers as one of which it is not
pub answered_at : (old new : PlainSession) (out held : Option (List ℕ)) (command : Command) (answer : Answer)
    → IsAnswered (held_first old) command answer (record { session = new; image = out })
    → IsAnswered (record { session = old; image = held }) command answer (record { session = new; image = later held out })
answered_at old new out held (Replace name text) Replaced h = record { replaced = h.replaced; image = ap (later held) h.image }
answered_at old new out held (Replace name text) NoFunction h = (h.0, ap (λ (x : Held). record { session = x.session; image = later held x.image }) h.1)
answered_at old new out held (Replace name text) (Refused refusal) h =
    (record { cause = h.0.cause; new = h.0.new; refused = h.0.refused; told = h.0.told }, ap (λ (x : Held). record { session = x.session; image = later held x.image }) h.1)
answered_at old new out held (Replace name text) OtherNames h = (h.0, ap (λ (x : Held). record { session = x.session; image = later held x.image }) h.1)
answered_at old new out held Build (Image jobs) h = record {
  bytes = h.bytes;
  made = h.made;
  after_is = ap (λ (x : Held). record { session = x.session; image = later held x.image }) h.after_is;
}
answered_at old new out held _ _ h = absurd h

pub is_no_end : (before after : Held) (command : Command) (answer : Answer) → IsAnswered before command answer after → IsNoEnd command
is_no_end before after (Replace name text) answer h = tt
is_no_end before after Build answer h = tt
is_no_end before after End answer h = absurd h

-- ---- several

pub answered_more : (before mid after : Held) (commands : List Command) (answers : List Answer) (command : Command) (answer : Answer)
    → AreAnswered before commands answers mid → IsAnswered mid command answer after → AreAnswered before (commands ++ command ∷ []) (answers ++ answer ∷ []) after
answered_more before mid after [] [] command answer all one = (after, subst (λ (h : Held). IsAnswered h command answer after) all one, refl)
answered_more before mid after (c ∷ commands) (a ∷ answers) command answer all one =
    (all.0, all.1, answered_more all.0 mid after commands answers command answer all.2 one)
answered_more before mid after _ _ command answer all one = absurd all

pub are_no_end : (before after : Held) (commands : List Command) (answers : List Answer) → AreAnswered before commands answers after → AllByRecursion IsNoEnd commands
are_no_end before after [] [] all = tt
are_no_end before after (c ∷ commands) (a ∷ answers) all = (is_no_end before all.0 c a all.1, are_no_end all.0 after commands answers all.2)
are_no_end before after _ _ all = absurd all

pub lines_more : (answers : List Answer) (answer : Answer) → lines_of (answers ++ answer ∷ []) ≡ lines_of answers ++ line_of answer
lines_more answers answer = flat_map-append line_of answers (answer ∷ []) ∙ ap (λ l. lines_of answers ++ l) (append-nil (line_of answer))
