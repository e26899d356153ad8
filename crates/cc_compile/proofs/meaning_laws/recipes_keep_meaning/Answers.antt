use Rattle.std.proofs.Common.{length}
use Rattle.g_build_def.specs.Functions.{graph}
use Rattle.cc_emit.specs.Image.{lambdas_of}
use Rattle.cc_compile.proofs.meaning_laws.recipes_keep_meaning.Goals as goal

pub returns : goal.returns
returns c form source bytes p accepted recipe answers made =
    let checks = accepted.checks in
    let has = checks.has_tree in
    let typed = c.checked_are_well_typed.ensures source bytes has.tokens has.lexed checks.tree has.tree.shaped.0 has.tree.spells (length source) p checks.checked in
    let kept = c.answers_keep_lists.ensures.lists recipe (graph p) answers (c.well_typed_are_built.ensures p typed.0).complete made in
    c.kept_lists_keep_meaning.ensures form source bytes p accepted (lambdas_of answers) kept
