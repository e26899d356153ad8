use Rattle.std.proofs.Common.{length}
use Rattle.cc_source.proofs.Calls.{kept_means}
use Rattle.cc_source.proofs.meaning_laws.kept_lists_have_meaning.Goals as goal

pub returns : goal.returns
returns c source bytes p accepted ks kept =
    let checks = accepted.checks in
    let has = checks.has_tree in
    let typed = c.checked_are_well_typed.ensures source bytes has.tokens has.lexed checks.tree has.tree.shaped.0 has.tree.spells (length source) p checks.checked in
    let means = c.accepted_keep_meaning.ensures source bytes has.tokens has.lexed checks.tree has.tree.shaped.0 has.tree.spells (length source) p checks.checked in
    kept_means c.lists_compose.ensures.calls p ks means.0 (c.well_typed_are_built.ensures p typed.0).complete kept.stands
