use Rattle.std.proofs.Common.{refl, ◌∙◌}
use Rattle.cc_top.proofs.Causes.{judged-so, unread-so}
use Rattle.cc_top.proofs.certifying.check.Goals as goal

-- nothing was judged
pub returns-in-Err : goal.returns-in-Err
returns-in-Err g c =
    record { cause = unread-so c.args.source.now c.args.log.now c.args.image.now c.args.form c.in-Err.outcome _ _ c.in-Err.ensures.fault; files = c.in-Err.ensures.kept }

-- what was read was judged
pub returns : goal.returns
returns g c =
    let source = c.deref.result.now in
    record {
      cause =
          judged-so c.args.form c.args.source.now c.args.log.now c.args.image.now (g.F.Files.known c.args.files.now) source c.deref-2.result.now c.deref-3.result.now
          (λ files is. c.deref.ensures.value ∙ c.in-Ok.ensures.source files is) (λ files is. c.deref-2.ensures.value ∙ c.in-Ok.ensures.log files is)
          (λ files is. c.deref-3.ensures.value ∙ c.in-Ok.ensures.image files is)
          (λ p accepted functions ks right. c.images_are_short.ensures c.args.form source c.judged-ended.ensures.bytes p accepted functions ks right) _ _ refl c.judged-ended.result
          c.judged-ended.ensures.judged;
      files = c.in-Ok.ensures.kept;
    }
