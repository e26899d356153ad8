use Rattle.std.proofs.Common.{◌<◌, length, sym, ap, ◌∙◌, arith, subst}
use Rattle.std.specs.Prelude.{slice_get}
use Rattle.c_typed.specs.Typed.{ProgramTree}
use Rattle.c_type.specs.Layout.{IsLaidOut}
use Rattle.c_typed.specs.WellTyped.{GlobalIsTyped}
use Rattle.g_build_expression.proofs.lemmas.Scopes.{within_get}
use Rattle.g_build.proofs.WrittenBytes.{fitting_apart}
use Rattle.g_build.proofs.globals.build_globals.Goals as goal

pub build_global-requires : goal.build_global-requires
build_global-requires c =
    let i = c.loop-i.i in
    let g = c.index.result.now in
    let within : i < length c.typed.inside.globals.items = omega (arith, c.loop-i-test.true, c.len-i-end.ensures, c.typed.inside.globals.ok.0) in
    let at = within_get c.typed.inside.globals.items i g within c.index.ensures in
    let typed : GlobalIsTyped c.args.typed.now g = c.requires.globals i g (ap (λ (p : ProgramTree). slice_get p.globals i) (sym c.typed.view_is) ∙ at) in
    record {
      laid_out = subst (λ (p : ProgramTree). IsLaidOut p.structs g.type) (sym c.typed.view_is) typed.laid_out;
      apart = fitting_apart _ _ _ _ typed.written;
    }
