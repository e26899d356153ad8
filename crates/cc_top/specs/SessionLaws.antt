-- Laws of sessions.
use Rattle.std.specs.Prelude.{◌≡◌, ℕ, List, Some}
use Rattle.r_rule.specs.declared.steps.Rule.{Rule}
use Rattle.s_linear.specs.declared.frame.CodeForm.{CodeForm}
use Rattle.cc_io.specs.Files.{Name, FileSet}
use Rattle.cc_io.specs.Outside.{Outside}
use Rattle.cc_report.specs.declared.outcome.Outcome.TheVariants.{Done}
use Rattle.cc_top.specs.SessionEnds.{SessionEnds}

-- Two sessions that are done, on the same known files, input and output, leave the same files and output.
abbrev pub SessionsLeaveTheSame : Type 0
SessionsLeaveTheSame =
    (recipe : List Rule) (form : CodeForm) (source image : Name) (before after other_before other_after : Outside) (files : FileSet) (script : List ℕ) →
    SessionEnds recipe form source image Done before after → SessionEnds recipe form source image Done other_before other_after →
    before.files.known ≡ Some files → other_before.files.known ≡ Some files → before.input.bytes ≡ Some script → other_before.input.bytes ≡ Some script →
    before.output.bytes ≡ other_before.output.bytes → (after.files.known ≡ other_after.files.known) × (after.output.bytes ≡ other_after.output.bytes)
