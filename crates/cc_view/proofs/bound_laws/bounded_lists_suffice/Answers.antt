-- An accepted source is well typed, its lambdas can be emitted, and so can those of a list that keeps them.
use Rattle.std.proofs.Common.{length}
use Rattle.cc_view.proofs.Suffices.{suffices}
use Rattle.cc_view.proofs.bound_laws.bounded_lists_suffice.Goals as goal

pub returns : goal.returns
returns c source bytes p accepted ks kept =
    let checks = accepted.checks in
    let has = checks.has_tree in
    let typed = c.checked_are_well_typed.ensures source bytes has.tokens has.lexed checks.tree has.tree.shaped.0 has.tree.spells (length source) p checks.checked in
    let few = c.checked_have_few_groups.ensures source bytes has.tokens has.lexed checks.tree has.tree.shaped.0 has.tree.spells (length source) p checks.checked in
    let can = c.programs_can_be_emitted.ensures.lists p typed.0 typed.1 accepted.within ks kept in
    suffices c.stacks_are_bounded.ensures c.images_keep_meaning.ensures p ks (c.well_typed_are_built.ensures p typed.0)
    (c.construction_keeps_programs.ensures p typed.0 few) kept.stands can
