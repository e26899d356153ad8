use Rattle.std.proofs.Common.{sym, ◌∙◌}
use Rattle.c_ast.specs.Expressions.{expr_tree}
use Rattle.c_check_declaration.proofs.BegunLemmas.{begun-text, begun-other, begun-value}
use Rattle.c_check_declaration.proofs.initialisers.whole_value.Goals as goal

pub returns-in-Some-character_length-clause-made : goal.returns-in-Some-character_length-clause-made
returns-in-Some-character_length-clause-made c =
    rw (begun-text c.args.is_static c.args.ty.now c.args.object_offset (expr_tree c.args.e.now) c.args.state.now c.in-Some.characters c.in-Some-character_length.length c.start.result
    c.in_ok-characters.ensures.plain (sym c.in_ok-characters.ensures.text ∙ c.in-Some.is) (sym c.character_length.ensures ∙ c.in-Some-character_length.is) c.start.ensures)
    c.characters_begun.ensures.made

pub returns-in-Some-character_length-clause-state : goal.returns-in-Some-character_length-clause-state
returns-in-Some-character_length-clause-state c =
    rw (begun-text c.args.is_static c.args.ty.now c.args.object_offset (expr_tree c.args.e.now) c.args.state.now c.in-Some.characters c.in-Some-character_length.length c.start.result
    c.in_ok-characters.ensures.plain (sym c.in_ok-characters.ensures.text ∙ c.in-Some.is) (sym c.character_length.ensures ∙ c.in-Some-character_length.is) c.start.ensures)
    c.characters_begun.ensures.state

pub returns-in-None-character_length-clause-made : goal.returns-in-None-character_length-clause-made
returns-in-None-character_length-clause-made c =
    rw (begun-other c.args.is_static c.args.ty.now c.args.object_offset (expr_tree c.args.e.now) c.args.state.now c.in_ok-characters.ensures.plain
    (sym c.character_length.ensures ∙ c.in-None-character_length.is)) c.value.ensures.made

pub returns-in-None-character_length-clause-state : goal.returns-in-None-character_length-clause-state
returns-in-None-character_length-clause-state c =
    rw (begun-other c.args.is_static c.args.ty.now c.args.object_offset (expr_tree c.args.e.now) c.args.state.now c.in_ok-characters.ensures.plain
    (sym c.character_length.ensures ∙ c.in-None-character_length.is)) c.value.ensures.state

pub returns-in-None-clause-made : goal.returns-in-None-clause-made
returns-in-None-clause-made c =
    rw (begun-value c.args.is_static c.args.ty.now c.args.object_offset (expr_tree c.args.e.now) c.args.state.now c.in_ok-characters.ensures.plain
    (sym c.in_ok-characters.ensures.text ∙ c.in-None.is)) c.value-in-None.ensures.made

pub returns-in-None-clause-state : goal.returns-in-None-clause-state
returns-in-None-clause-state c =
    rw (begun-value c.args.is_static c.args.ty.now c.args.object_offset (expr_tree c.args.e.now) c.args.state.now c.in_ok-characters.ensures.plain
    (sym c.in_ok-characters.ensures.text ∙ c.in-None.is)) c.value-in-None.ensures.state
