use Rattle.std.proofs.Common.{length, sym, subst}
use Rattle.g_build_def.specs.Functions.{graph}
use Rattle.cc_emit.specs.Image.{lambdas_of}
use Rattle.cc_source.specs.Meaning.{KeepsMeaning}
use Rattle.cc_compile.proofs.HeardExits.{exits_are_defined, kept_files_exit}
use Rattle.cc_compile.proofs.run_laws.heard_exits_are_kept.Goals as goal

pub returns-clause-defined : goal.returns-clause-defined
returns-clause-defined c = exits_are_defined c.heard_is_run.ensures.extends

pub returns-clause-files : goal.returns-clause-files
returns-clause-files c = kept_files_exit c.heard_is_run.ensures.agrees c.heard_is_run.ensures.undefined c.heard_is_run.ensures.extends

pub returns-clause-images : goal.returns-clause-images
returns-clause-images c text text_bytes p accepted n i are_bytes status exits =
    let checks = accepted.checks in
    let has = checks.has_tree in
    let typed = c.checked_are_well_typed.ensures text text_bytes has.tokens has.lexed checks.tree has.tree.shaped.0 has.tree.spells (length text) p checks.checked in
    let complete = (c.well_typed_are_built.ensures p typed.0).complete in (
      exits_are_defined c.heard_is_run.ensures.extends p n i status exits,
      λ recipe form bytes image.
          let kept = c.answers_keep_lists.ensures.lists recipe (graph p) image.answers complete image.made in
          let keeps = subst (KeepsMeaning form p (lambdas_of image.answers)) (sym image.file) (c.kept_lists_keep_meaning.ensures form text text_bytes p accepted (lambdas_of image.answers) kept) in
          kept_files_exit c.heard_is_run.ensures.agrees c.heard_is_run.ensures.undefined c.heard_is_run.ensures.extends form p (lambdas_of image.answers) bytes keeps n i are_bytes status exits,
    )
