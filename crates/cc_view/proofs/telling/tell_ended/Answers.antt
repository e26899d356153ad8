use Rattle.std.proofs.Common.{ℕ, List, sym, subst}
use Rattle.cc_report.specs.Report.{IsReported}
use Rattle.cc_view.proofs.Ends.{said-as}
use Rattle.cc_view.proofs.telling.tell_ended.Goals as goal

pub returns-in_default : goal.returns-in_default
returns-in_default g c =
    subst
    (λ (t : List ℕ). IsReported c.args.ended t c.tell.result (g.E.Sink.held c.args.report.now) (g.E.Sink.held c.tell.new.report) (g.E.Sink.faults c.args.report.now) (g.E.Sink.faults c.tell.new.report))
    (sym (said-as c.args.ended c.in_default.not-Usage)) c.tell.ensures
