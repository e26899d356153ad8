use Rattle.g_pass.proofs.Twice as twice
use Rattle.g_pass.proofs.meaning_laws.rules_keep_meaning.Goals as goal

pub returns : goal.returns
returns c =
    twice.rules_keep_meaning c.fold_keeps_meaning.ensures.replaces c.cne_keeps_meaning.ensures.replaces c.dne_keeps_meaning.ensures.replaces c.inv_keeps_meaning.ensures.replaces
    c.push_keeps_meaning.ensures.replaces c.pull_keeps_meaning.ensures.replaces c.invert_keeps_meaning.ensures.replaces c.unroll_keeps_meaning.ensures.replaces
    c.inline_keeps_meaning.ensures.replaces
