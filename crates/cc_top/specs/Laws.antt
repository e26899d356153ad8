-- The law of what a build reports.
use Rattle.std.specs.Prelude.{◌≡◌, ◌≤◌, ℕ, List, [], Some, length}
use Rattle.base.specs.Limits.{most_sweeps}
use Rattle.r_rule.specs.declared.steps.Rule.{Rule}
use Rattle.s_linear.specs.declared.frame.CodeForm.{CodeForm}
use Rattle.cc_watch.specs.Rows.{PlainRow}
use Rattle.cc_io.specs.Files.{Name}
use Rattle.cc_source.specs.SourceLaws.{AreBytes}
use Rattle.cc_io.specs.Outside.{FilesSeen}
use Rattle.cc_top.specs.BuildEnds.{HasBuilt, rows_built}
use Rattle.cc_top.specs.Watchers.{watcher_named, IsReportOf}
use Rattle.log_check.specs.Judgement.{Certifies}

-- A build of a source of bytes was done. What a watcher that stood for no row reports of it certifies OUT of the source.
abbrev pub ReportsCertify : {W : Type 0} (named : W → List ℕ) (stands_for : W → List PlainRow → Type 0) (text_of : W → List PlainRow → List ℕ) → Type 0
ReportsCertify {W} named stands_for text_of =
    (recipe : List Rule) → length recipe ≤ most_sweeps → (form : CodeForm) (name : List ℕ) (source image : Name) (said : List ℕ) (before after : FilesSeen) (ws : List W) (w : W) →
    (built : HasBuilt recipe form source image before after) → AreBytes built.text → watcher_named named name ws ≡ Some w → stands_for w [] →
    IsReportOf named stands_for text_of (Some name) (rows_built built) ws said → Certifies built.text form said built.bytes
