use Rattle.std.proofs.Common.{[]}
use Rattle.g_pass.proofs.rule_step.apply.Goals as goal

pub returns-in-Cne-clause-kept : goal.returns-in-Cne-clause-kept
returns-in-Cne-clause-kept c = (c.apply-in-Cne.ensures.step []).well_formed
