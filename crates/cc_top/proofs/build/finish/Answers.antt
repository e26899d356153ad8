use Rattle.std.proofs.Common.{◌∙◌, ap, inl, inr, option_map, refl}
use Rattle.cc_io.specs.Files.{put_file}
use Rattle.cc_top.proofs.BuildLemmas.{a_prefix}
use Rattle.cc_top.proofs.WatcherLemmas.{report-gained}
use Rattle.cc_top.proofs.build.finish.Goals as goal

pub returns-in-Err-clause-ends : goal.returns-in-Err-clause-ends
returns-in-Err-clause-ends g c = inl (refl, rw c.deref.ensures.value at c.in-Err.ensures.err)

pub returns-in-Err-save-clause-ends : goal.returns-in-Err-save-clause-ends
returns-in-Err-save-clause-ends g c = (
  c.in-Err-save.ensures.cause,
  a_prefix c.args.image.now c.deref-in-Ok.result.now c.args.compiled.now.image.items (g.F.Files.known c.args.files.now) (g.F.Files.known c.save.new.files)
      c.deref-in-Ok.ensures.value c.in-Err-save.ensures.err,
  rw c.deref.ensures.value at c.in-Ok.ensures.ok,
)

pub returns-in-Err-report_of-clause-ends : goal.returns-in-Err-report_of-clause-ends
returns-in-Err-report_of-clause-ends g c =
    inr (
      c.in-Ok-save.ensures.ok ∙ ap (λ bs. option_map (put_file c.args.image.now bs) (g.F.Files.known c.args.files.now)) c.deref-in-Ok.ensures.value,
      rw c.deref.ensures.value at c.in-Ok.ensures.ok,
    )

pub returns-in-Ok-report_of-clause-ends : goal.returns-in-Ok-report_of-clause-ends
returns-in-Ok-report_of-clause-ends g c =
    let name = option_map (λ s. s.now) c.args.report in
    let rows = c.args.compiled.now.rows.items in
    let gained = rw c.deref.ensures.value at c.in-Ok.ensures.ok in
    let report = rw c.deref-in-Ok-save.ensures.value at c.in-Ok-report_of.ensures in (
      c.in-Ok-save.ensures.ok ∙ ap (λ bs. option_map (put_file c.args.image.now bs) (g.F.Files.known c.args.files.now)) c.deref-in-Ok.ensures.value,
      gained,
      report-gained _ _ _ name rows c.args.watchers.now.items c.tell_all.new.watchers.items c.in-Ok-report_of.text.items gained report,
    )
