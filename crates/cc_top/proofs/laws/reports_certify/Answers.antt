use Rattle.std.proofs.Common.{[], refl, sym, subst}
use Rattle.cc_top.specs.BuildEnds.{rows_built}
use Rattle.log_check.specs.Judgement.{Certifies}
use Rattle.cc_top.proofs.laws.reports_certify.Goals as goal

pub returns : goal.returns
returns c = λ recipe short form name source image said before after ws w built bytes found stands report.
    subst (λ l. Certifies built.text form l built.bytes) (sym (report w found [] stands))
    (c.logs_certify_images.ensures built.text bytes built.program built.accepted recipe short form built.bytes (rows_built built) (built.compiled, refl))
