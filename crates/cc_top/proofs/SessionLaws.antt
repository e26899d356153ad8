-- Two sessions that are done leave the same.
use Rattle.std.proofs.Common.{◌≡◌, ◌≢◌, ℕ, List, ◌++◌, Option, None, Some, ap, sym, subst, ◌∙◌, append-nil}
use Rattle.g_pass_order.specs.Laws.{OrdersAreUnique}
use Rattle.cc_io.specs.Files.{Name, FileSet}
use Rattle.cc_io.specs.Source.{prepend}
use Rattle.cc_io.specs.Sink.{append}
use Rattle.cc_io.specs.Outside.{Outside}
use Rattle.cc_source.specs.Accepted as source
use Rattle.cc_compile.specs.Compiled.{OneImage}
use Rattle.cc_session.specs.Session.{PlainSession}
use Rattle.cc_script_text.specs.Script.{Script, script, stops, with_end, with_lack, Ending}
use Rattle.cc_script_text.specs.Laws.{after_all, RestIsNotRead}
use Rattle.cc_script_text.specs.declared.command.Command.{Command}
use Rattle.cc_top.specs.Answers.{held_first, AreAnswered, lines_of}
use Rattle.cc_top.specs.ScriptEnds.{IsPlayed, with_image}
use Rattle.cc_top.specs.SessionEnds.{opened}
use Rattle.cc_top.specs.SessionLaws.{SessionsLeaveTheSame}
use Rattle.cc_top.proofs.Same.{one_list}

-- ---- the commands of a script that ends

not_lack : (e : Ending) → e ≡ with_end → e ≢ with_lack
not_lack e is lack = let clash : with_end ≡ with_lack = sym is ∙ lack in absurd cc

-- the whole script says what was taken of it
whole_says : RestIsNotRead → (bytes taken : List ℕ) (left : Option (List ℕ)) (commands : List Command) → Some bytes ≡ prepend taken left → script taken ≡ after_all commands (stops with_end)
    → script bytes ≡ after_all commands (stops with_end)
whole_says rest bytes taken None commands is said = absurd cc
whole_says rest bytes taken (Some left) commands is said =
    let whole : bytes ≡ taken ++ left = cc (is) in
    ap script whole ∙ (rest taken left (not_lack (script taken).ending (ap (λ (s : Script). s.ending) said)) ∙ said)

module _ (not_read : RestIsNotRead) (first : PlainSession) (image : Name) (bytes : List ℕ) where
  says : (before after : Outside) (p : IsPlayed first image before after) → before.input.bytes ≡ Some bytes → script bytes ≡ after_all p.has.commands (stops with_end)
  says before after p input =
      whole_says not_read bytes p.has.taken after.input.bytes p.has.commands (sym input ∙ p.has.input)
      (p.has.said ∙ ap (after_all p.has.commands) p.ended)

  one_script : (before after other_before other_after : Outside) (p : IsPlayed first image before after) (q : IsPlayed first image other_before other_after)
      → before.input.bytes ≡ Some bytes → other_before.input.bytes ≡ Some bytes → p.has.commands ≡ q.has.commands
  one_script before after other_before other_after p q one two =
      sym (append-nil p.has.commands)
      ∙ (ap (λ (s : Script). s.commands) (sym (says before after p one) ∙ says other_before other_after q two) ∙ append-nil q.has.commands)

module _ (not_read : RestIsNotRead) (one_program : source.OneProgram) (orders : OrdersAreUnique) (one_image : OneImage) (one_fault : source.OneFault) (not_refused : source.AcceptedIsNotRefused) where
  leave_the_same : (first : PlainSession) (image : Name) (before after other_before other_after : Outside) (files : FileSet) (bytes : List ℕ)
      → IsPlayed first image before after → IsPlayed first image other_before other_after → before.files.known ≡ Some files → other_before.files.known ≡ Some files
      → before.input.bytes ≡ Some bytes → other_before.input.bytes ≡ Some bytes → before.output.bytes ≡ other_before.output.bytes
      → (after.files.known ≡ other_after.files.known) × (after.output.bytes ≡ other_after.output.bytes)
  leave_the_same first image before after other_before other_after files bytes p q known other_known input other_input output =
      let commands = one_script not_read first image bytes before after other_before other_after p q input other_input in
      let same =
      one_list one_program orders one_image one_fault not_refused (held_first first) p.has.held q.has.held q.has.commands p.has.answers q.has.answers
      (subst (λ c. AreAnswered (held_first first) c p.has.answers p.has.held) commands p.has.answered) q.has.answered
      in (
        p.leaves.0
            ∙ (ap (with_image image p.has.held.image) (known ∙ sym other_known)
            ∙ (ap (λ h. with_image image h.image other_before.files.known) same.1 ∙ sym q.leaves.0)),
        p.leaves.1 ∙ (ap (λ a. append before.output.bytes (lines_of a)) same.0 ∙ (ap (λ held. append held (lines_of q.has.answers)) output ∙ sym q.leaves.1)),
      )

  pub sessions_leave_the_same : SessionsLeaveTheSame
  sessions_leave_the_same recipe form source_name image before after other_before other_after files bytes a b known other_known input other_input output =
      let texts : a.text ≡ b.text = a.read files known ∙ sym (b.read files other_known) in
      leave_the_same (opened b.text recipe form) image before after other_before other_after files bytes
      (subst (λ t. IsPlayed (opened t recipe form) image before after) texts a.so) b.so known other_known input other_input output
