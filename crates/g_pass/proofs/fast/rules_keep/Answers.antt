use Rattle.g_pass.proofs.FastSweeps as sweeps
use Rattle.g_pass.proofs.fast.rules_keep.Goals as goal

pub returns : goal.returns
returns c =
    sweeps.rules_keep c.fold_keeps_meaning.ensures.step c.cne_keeps_meaning.ensures.step c.dne_keeps_meaning.ensures.step c.inv_keeps_meaning.ensures.step c.push_keeps_meaning.ensures.step
    c.pull_keeps_meaning.ensures.step c.unroll_keeps_meaning.ensures.step c.invert_keeps_meaning.ensures.step
