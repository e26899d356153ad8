use Rattle.std.proofs.Common.{true, false, Some, sym, ap, ◌∙◌, arith}
use Rattle.std.proofs.lemmas.List.{drop_all}
use Rattle.r_edit.specs.InPlace.{all_stay}
use Rattle.r_edit.proofs.lemmas.InPlace.{stay_more}
use Rattle.r_edit.proofs.stays.all_stay.Goals as goal

pub returns-then-not-keeps : goal.returns-then-not-keeps
returns-then-not-keeps g c =
    let xs = g.S.Stays.stays c.args.variables.now in
    sym (stay_more xs c.loop-i.i false (c.keeps.ensures ∙ ap Some c.if-not-keeps.true)) ∙ c.loop-i.invariant

pub loop-i-preserved : goal.loop-i-preserved
loop-i-preserved g c =
    let xs = g.S.Stays.stays c.args.variables.now in
    sym (stay_more xs c.loop-i.i true (c.keeps.ensures ∙ ap Some c.if-not-keeps.false)) ∙ c.loop-i.invariant

pub returns : goal.returns
returns g c =
    let xs = g.S.Stays.stays c.args.variables.now in
    sym (ap all_stay (drop_all c.loop-i.i xs (omega (arith, c.count-i-end.ensures)))) ∙ c.loop-i.invariant
