use Rattle.std.proofs.Common.{◌≡◌, refl}
use Rattle.std.specs.Prelude.{slice_get, None}
use Rattle.std.proofs.lemmas.Option.{slice_get_past}
use Rattle.c_interp_answer.proofs.Pushed.{pushed_none}
use Rattle.c_interp_answer.proofs.statement.initial.Goals as goal

pub returns-in-None : goal.returns-in-None
returns-in-None c =
    let past : slice_get c.args.variables.now c.args.d.now.variable ≡ None =
    slice_get_past c.args.variables.now c.args.d.now.variable c.in-None.ensures.lookup.3 in
    rw past (pushed_none _ _ refl)
