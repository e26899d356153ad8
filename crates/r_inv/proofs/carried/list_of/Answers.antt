use Rattle.std.proofs.Common.{◌++◌, ◌∷◌, [], sym, ap, ◌∙◌, arith}
use Rattle.std.proofs.lemmas.List.{take_all}
use Rattle.r_edit.proofs.lemmas.InPlace.{take_get}
use Rattle.r_inv.proofs.carried.list_of.Goals as goal

pub loop-i-preserved : goal.loop-i-preserved
loop-i-preserved g c =
    let xs = g.C.Carried.carried c.args.variables.now in
    c.in_ok-push.ensures.items ∙ ap (λ ys. ys ++ c.carries.result ∷ []) c.loop-i.invariant ∙ sym (take_get xs c.loop-i.i c.carries.result c.carries.ensures)

pub returns : goal.returns
returns g c =
    let xs = g.C.Carried.carried c.args.variables.now in
    c.loop-i.invariant ∙ take_all c.loop-i.i xs (omega (arith, c.count-i-end.ensures))
