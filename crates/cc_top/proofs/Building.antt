-- What a `build` comes to, from what its parts say.
use Rattle.std.proofs.Common.{◌≡◌, ◌⊎◌, ◌≤◌, ℕ, List, length, take, Some, option_map, refl, ap, ◌∙◌, inl, inr}
use Rattle.cc_io.specs.Files.{Name, put_file}
use Rattle.cc_io.specs.Outside.{FilesSeen, WriteFails, WritesPrefix}
use Rattle.cc_report.specs.declared.outcome.Outcome.TheVariants as outcome
use Rattle.cc_session.specs.Session.{PlainSession}
use Rattle.cc_script_text.specs.declared.command.Command.TheVariants.{Build}
use Rattle.cc_top.specs.declared.answer.Answer.TheVariants.{Image}
use Rattle.cc_top.specs.Answers.{IsMade}
use Rattle.cc_top.specs.Steps.{IsCarriedOut, IsNotCarriedOut}

module _ (image : Name) (old new : PlainSession) (before after : FilesSeen) (bytes read : List ℕ) (jobs : ℕ) (made : IsMade old bytes jobs) (same : read ≡ bytes) where
  -- OUT was written
  pub is_built : new ≡ record old { last = Some old.source } → after.known ≡ option_map (put_file image read) before.known → IsCarriedOut image Build (Image jobs) old new before after
  is_built last files = record {
    out = Some bytes;
    answered = record { bytes = bytes; made = made; after_is = ap (λ (s : PlainSession). record { session = s; image = Some bytes }) last };
    files = files ∙ ap (λ b. option_map (put_file image b) before.known) same;
  }

  -- it was not
  pub is_not_built : WriteFails image before after
      → (after.known ≡ before.known) ⊎ ((k : ℕ) × (k ≤ length read) × (after.known ≡ option_map (put_file image (take k read)) before.known))
      → IsNotCarriedOut image Build outcome.WriteFault old before after
  is_not_built fails files = (refl, record { fails = fails; bytes = bytes; jobs = jobs; made = made; files = prefix files })
    where
      prefix : (after.known ≡ before.known) ⊎ ((k : ℕ) × (k ≤ length read) × (after.known ≡ option_map (put_file image (take k read)) before.known)) → WritesPrefix image bytes before after
      prefix (inl kept) = inl kept
      prefix (inr cut) = inr (cut.0, cut.2 ∙ ap (λ b. option_map (put_file image (take cut.0 b)) before.known) same)
