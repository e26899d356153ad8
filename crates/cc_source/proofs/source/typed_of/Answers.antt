use Rattle.std.proofs.Common.{◌^◌, ◌<◌, length}
use Rattle.std.proofs.lemmas.List.Elements.{All-from_get_or}
use Rattle.c_ast.specs.Externals.{unit_tree}
use Rattle.cc_source.proofs.Short.{short_source}
use Rattle.cc_source.proofs.source.typed_of.Goals as goal

pub overflow_cast-source : goal.overflow_cast-source
overflow_cast-source c =
    let has = c.in_ok-unit.ensures.tree in
    record { fits = short_source c.args.source.now has.tokens has.lexed }

pub returns-clause-typed : goal.returns-clause-typed
returns-clause-typed c =
    let source = c.args.source.now in
    let has = c.in_ok-unit.ensures.tree in
    let bytes = All-from_get_or (λ b. b < 2 ^ 8) source 0 (λ k within. (c.type_inv.source k).fits) in
    (c.checked_are_well_typed.ensures source bytes has.tokens has.lexed (unit_tree c.in_ok-unit.unit) has.tree.shaped.0 has.tree.spells (length source)
    c.in_ok-checked.field-0 c.in_ok-checked.ensures.ok).0
