use Rattle.std.proofs.Common.{length}
use Rattle.g_build_def.specs.Functions.{graph}
use Rattle.g_pass_def.specs.Laws.{with_answers}
use Rattle.g_pass.specs.Sweep.{rules}
use Rattle.cc_compile.proofs.meaning_laws.some_answers_keep_meaning.Goals as goal

pub returns-clause-calls : goal.returns-clause-calls
returns-clause-calls c source bytes p accepted recipe answers all chosen holds =
    let checks = accepted.checks in
    let has = checks.has_tree in
    let typed = c.checked_are_well_typed.ensures source bytes has.tokens has.lexed checks.tree has.tree.shaped.0 has.tree.spells (length source) p checks.checked in
    c.kept_lists_have_meaning.ensures source bytes p accepted (with_answers chosen (graph p) answers)
    (c.answers_keep_lists.ensures.some rules c.rules_are_steps.ensures recipe (graph p) answers (c.well_typed_are_built.ensures p typed.0).complete all chosen holds)

pub returns-clause-images : goal.returns-clause-images
returns-clause-images c form source bytes p accepted recipe answers all chosen holds =
    let checks = accepted.checks in
    let has = checks.has_tree in
    let typed = c.checked_are_well_typed.ensures source bytes has.tokens has.lexed checks.tree has.tree.shaped.0 has.tree.spells (length source) p checks.checked in
    c.kept_lists_keep_meaning.ensures form source bytes p accepted (with_answers chosen (graph p) answers)
    (c.answers_keep_lists.ensures.some rules c.rules_are_steps.ensures recipe (graph p) answers (c.well_typed_are_built.ensures p typed.0).complete all chosen holds)
