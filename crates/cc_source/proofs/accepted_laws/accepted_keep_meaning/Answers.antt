use Rattle.cc_source.proofs.accepted_laws.accepted_keep_meaning.Goals as goal

pub returns : goal.returns
returns c source all ts lexed t follows spells n p h =
    let typed = c.checked_are_well_typed.ensures source all ts lexed t follows spells n p h in
    let few = c.checked_have_few_groups.ensures source all ts lexed t follows spells n p h in
    (c.construction_keeps_meaning.ensures p typed.0 few, c.construction_keeps_programs.ensures p typed.0 few)
