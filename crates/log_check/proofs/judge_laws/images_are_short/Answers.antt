use Rattle.std.proofs.Common.{length}
use Rattle.elf_file.specs.Laws.{executable_for}
use Rattle.g_build_def.specs.Functions.{graph}
use Rattle.g_build_def.specs.Functions as built
use Rattle.g_pass.specs.Sweep.{rules}
use Rattle.cc_emit.specs.Image.{file_of_program, image_of}
use Rattle.log_check.specs.Right.{steps_of}
use Rattle.log_check.proofs.Files.{loaded_is_short}
use Rattle.log_check.proofs.judge_laws.images_are_short.Goals as goal

pub returns : goal.returns
returns c form source bytes p accepted log ks right =
    let o = built.omega p in
    let checks = accepted.checks in
    let has = checks.has_tree in
    let typed = c.checked_are_well_typed.ensures source bytes has.tokens has.lexed checks.tree has.tree.shaped.0 has.tree.spells (length source) p checks.checked in
    let own = c.programs_can_be_emitted.ensures.graphs p typed.0 typed.1 accepted.within in
    let kept = c.replayed_keep_lists.ensures.kept rules c.rules_are_steps.ensures (graph p) (steps_of log) ks own.program.complete right.replayed in
    let can = c.programs_can_be_emitted.ensures.lists p typed.0 typed.1 accepted.within ks kept in
    loaded_is_short (file_of_program form o ks) (executable_for (image_of form o ks)) (c.program_loads.ensures form o ks can)
