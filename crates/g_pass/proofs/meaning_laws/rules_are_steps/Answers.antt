use Rattle.g_pass.proofs.Steps.{rules_are_steps}
use Rattle.g_pass.proofs.meaning_laws.rules_are_steps.Goals as goal

pub returns : goal.returns
returns c =
    rules_are_steps c.fold_keeps_meaning.ensures.step c.cne_keeps_meaning.ensures.step c.dne_keeps_meaning.ensures.step c.inv_keeps_meaning.ensures.step
    c.push_keeps_meaning.ensures.step c.pull_keeps_meaning.ensures.step c.invert_keeps_meaning.ensures.step c.unroll_keeps_meaning.ensures.step c.inline_keeps_meaning.ensures.step
