use Rattle.std.proofs.Common.{length}
use Rattle.cc_source.proofs.meaning_laws.kept_lists_keep_meaning.Goals as goal

pub returns : goal.returns
returns c form source bytes p accepted ks kept =
    let checks = accepted.checks in
    let has = checks.has_tree in
    let typed = c.checked_are_well_typed.ensures source bytes has.tokens has.lexed checks.tree has.tree.shaped.0 has.tree.spells (length source) p checks.checked in
    let few = c.checked_have_few_groups.ensures source bytes has.tokens has.lexed checks.tree has.tree.shaped.0 has.tree.spells (length source) p checks.checked in
    let can = c.programs_can_be_emitted.ensures.lists p typed.0 typed.1 accepted.within ks kept in
    c.programs_keep_meaning.ensures.lists form p typed.0 few ks kept.stands can
