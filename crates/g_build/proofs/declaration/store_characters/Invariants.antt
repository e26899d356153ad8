use Rattle.std.proofs.Common.{◌≡◌, drop}
use Rattle.g_build_def.specs.Statements.{characters_made}
use Rattle.g_build_expression.specs.Work.{made}
use Rattle.g_build.proofs.declaration.store_characters.Given as goal

abbrev pub invariant-loop-c : goal.invariant-loop-c
invariant-loop-c l =
    made l.b (characters_made l.number l.at (drop l.c-index l.characters) l.b.point)
    ≡ made l.initial.b (characters_made l.number l.initial.at l.characters l.initial.b.point)
