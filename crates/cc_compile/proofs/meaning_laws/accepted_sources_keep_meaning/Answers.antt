use Rattle.g_build_def.specs.Functions.{graph}
use Rattle.cc_compile.proofs.meaning_laws.accepted_sources_keep_meaning.Goals as goal

pub returns : goal.returns
returns c form source bytes p accepted =
    c.kept_lists_keep_meaning.ensures form source bytes p accepted (graph p) (c.steps_keep_lists.ensures.itself (graph p))
