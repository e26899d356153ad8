-- What was taken in several steps.
use Rattle.std.proofs.Common.{◌≡◌, ◌≢◌, ◌⊎◌, ◌<◌, ◌≤◌, ◌+◌, ◌-◌, ℕ, suc, List, [], ◌∷◌, ◌++◌, length, take, drop, get_or, Option, None, Some, Result, Ok, Err, IfOk, IfErr, ap, sym, subst, ◌∙◌, inl, inr, drop-cons, append_assoc, append-nil, length-append, arith}
use Rattle.std.proofs.lemmas.Bool.{cases_lt}
use Rattle.std.specs.List.{slice_range}
use Rattle.std.proofs.Math.Seq.{take-append_seam, drop-append_seam}
use Rattle.cc_io.specs.Source.{prepend, IsAtEnd}
use Rattle.cc_io.proofs.lemmas.Prepends.{prepend-twice}
use Rattle.cc_script_text.specs.declared.command.Command.{Command}
use Rattle.cc_script_text.specs.declared.fault.ScriptFault.{ScriptFault}
use Rattle.cc_script_text.specs.declared.fault.ScriptFault.TheVariants.{Broken, Failed, NoMemory}
use Rattle.cc_script_text.specs.declared.command.Command.TheVariants.{Replace}
use Rattle.cc_script_text.specs.Script.{cut, First, lacks, first, with_line_end, with_text}
use Rattle.cc_script_text.specs.Taken.{TakesCommand, TakesPart, TakesBroken, IsFault}
use Rattle.cc_script_text.proofs.lemmas.Cuts.{cut_push}
use Rattle.cc_script_text.proofs.lemmas.Firsts.{first_lacks, first_long}

module _ (says onward : List ℕ → First) (front : List ℕ) (before mid after : Option (List ℕ)) (goes : (rest : List ℕ) → says (front ++ rest) ≡ onward rest) (taken : before ≡ prepend front mid) where
  both : (bytes : List ℕ) → mid ≡ prepend bytes after → before ≡ prepend (front ++ bytes) after
  both bytes e = taken ∙ (ap (prepend front) e ∙ prepend-twice front bytes after)

  pub command_after : (command : Command) → TakesCommand onward command mid after → TakesCommand says command before after
  command_after command t = record { bytes = front ++ t.bytes; taken = both t.bytes t.taken; said = goes t.bytes ∙ t.said }

  part_after : TakesPart onward mid after → TakesPart says before after
  part_after t = record { bytes = front ++ t.bytes; taken = both t.bytes t.taken; said = goes t.bytes ∙ t.said }

  broken_after : TakesBroken onward mid after → TakesBroken says before after
  broken_after t = record { bytes = front ++ t.bytes; taken = both t.bytes t.taken; said = goes t.bytes ∙ t.said }

  pub fault_after : (e : ScriptFault) (number : ℕ) → IsFault onward e number mid after → IsFault says e number before after
  fault_after (Broken at) number (same, inl t) = (same, inl (broken_after t))
  fault_after (Broken at) number (same, inr (t, end)) = (same, inr (part_after t, end))
  fault_after Failed number t = part_after t
  fault_after NoMemory number t = (front ++ t.0, both t.0 t.1)

  pub commands_after : (r : Result Command ScriptFault) → IfOk r (λ command. TakesCommand onward command mid after) → IfOk r (λ command. TakesCommand says command before after)
  commands_after (Ok command) t = command_after command t
  commands_after (Err e) t = tt

  pub faults_after : (n n' : ℕ) → n' ≡ n → (r : Result Command ScriptFault) → IfErr r (λ e. IsFault onward e (suc n') mid after) → IfErr r (λ e. IsFault says e (suc n) before after)
  faults_after n n' same (Ok command) t = tt
  faults_after n n' same (Err e) t = subst (λ m. IsFault says e (suc m) before after) same (fault_after e (suc n') t)

-- the fault of what is no command
pub broken_fault : (says : List ℕ → First) (e : ScriptFault) (n m : ℕ) (before after : Option (List ℕ)) → e ≡ Broken (suc n) → n ≡ m
    → TakesBroken says before after ⊎ (TakesPart says before after × IsAtEnd after) → IsFault says e (suc m) before after
broken_fault says e n m before after is same h = subst (λ x. IsFault says x (suc m) before after) (sym is) (ap suc same, h)

-- ---- texts

pub text_whole : (name text rest : List ℕ) → with_text (Some (name, length text)) (text ++ rest) ≡ with_line_end (Replace name text) rest
text_whole name text rest =
    ap (λ t. with_line_end (Replace name t) (drop (length text) (text ++ rest))) (take-append_seam text rest)
    ∙ ap (with_line_end (Replace name text)) (drop-append_seam text rest)

-- ---- what was read ahead

pub range_next : (bytes : List ℕ) (at end : ℕ) → at < end → end ≤ length bytes → slice_range bytes at end ≡ get_or bytes at 0 ∷ slice_range bytes (at + 1) end
range_next bytes at end some within =
    let low : at < length bytes = omega (arith, some, within) in
    let one : end - at ≡ suc (end - (at + 1)) = omega (arith, some) in
    let next : suc at ≡ at + 1 = omega arith in
    ap (λ n. take n (drop at bytes)) one
    ∙ (ap (λ t. take (suc (end - (at + 1))) t) (drop-cons bytes at 0 low) ∙ ap (λ n. get_or bytes at 0 ∷ take (end - (at + 1)) (drop n bytes)) next)

-- a byte is there where some are
pub some_ahead : (bytes : List ℕ) (at end : ℕ) → 0 < length (slice_range bytes at end) → at < end
some_ahead bytes at end some = by-order (cases_lt at end)
  where
    by-order : (at < end) ⊎ (end ≤ at) → at < end
    by-order (inl low) = low
    by-order (inr high) =
        let none : end - at ≡ 0 = omega (arith, high) in
        let empty : length (slice_range bytes at end) ≡ 0 = ap (λ n. length (take n (drop at bytes))) none in
        absurd (omega (arith, some, empty))

-- ---- lines

-- a line of which no more was taken
pub line_part : (before mid after : Option (List ℕ)) (line : List ℕ) → before ≡ prepend line mid → after ≡ mid → cut 10 line ≡ None → length line ≤ 100 → TakesPart first before after
line_part before mid after line e same none few = record { bytes = line; taken = e ∙ ap (prepend line) (sym same); said = first_lacks line none few }

pub line_pushed : (before mid after : Option (List ℕ)) (line : List ℕ) (b : ℕ) → before ≡ prepend line mid → mid ≡ prepend (b ∷ []) after → before ≡ prepend (line ++ b ∷ []) after
line_pushed before mid after line b e f = e ∙ (ap (prepend line) f ∙ prepend-twice line (b ∷ []) after)

pub line_long : (before mid after : Option (List ℕ)) (line : List ℕ) (b : ℕ) → before ≡ prepend line mid → mid ≡ prepend (b ∷ []) after → cut 10 line ≡ None → b ≢ 10 → 100 ≤ length line
    → TakesBroken first before after
line_long before mid after line b e f none other long = record {
  bytes = line ++ b ∷ [];
  taken = line_pushed before mid after line b e f;
  said = first_long (line ++ b ∷ []) (cut_push 10 line b none other) (omega (arith, long, length-append line (b ∷ [])));
}

-- a line that is not whole lacks bytes, so there are some ahead where the command is
pub line_ahead : (line all ahead : List ℕ) → all ≡ line ++ ahead → cut 10 line ≡ None → length line ≤ 100 → first all ≢ lacks → 0 < length ahead
line_ahead line all [] e none few whole = absurd (whole (ap first (e ∙ append-nil line) ∙ first_lacks line none few))
line_ahead line all (b ∷ ahead) e none few whole = omega arith

-- a byte goes from what is ahead to the line
pub line_goes_on : (line all ahead ahead' : List ℕ) (b : ℕ) → all ≡ line ++ ahead → ahead ≡ b ∷ ahead' → all ≡ (line ++ b ∷ []) ++ ahead'
line_goes_on line all ahead ahead' b e f = e ∙ (ap (λ t. line ++ t) f ∙ sym (append_assoc line (b ∷ []) ahead'))
