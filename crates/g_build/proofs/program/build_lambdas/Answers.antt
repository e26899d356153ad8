use Rattle.std.proofs.Common.{◌<◌, length, sym, ap, ◌∙◌, arith}
use Rattle.std.specs.Prelude.{slice_get}
use Rattle.c_typed.specs.Typed.{ProgramTree}
use Rattle.g_build_expression.proofs.lemmas.Scopes.{within_get}
use Rattle.g_build.proofs.program.build_lambdas.Goals as goal

pub build_lambda-requires : goal.build_lambda-requires
build_lambda-requires c =
    let i = c.loop-i.i in
    let within : i < length c.typed.inside.functions.items = omega (arith, c.loop-i-test.true, c.len-i-end.ensures, c.typed.inside.functions.ok.0) in
    let at = within_get c.typed.inside.functions.items i c.index.result.now within c.index.ensures in
    (c.requires.functions i c.index.result.now (ap (λ (p : ProgramTree). slice_get p.functions i) (sym c.typed.view_is) ∙ at)).variables
