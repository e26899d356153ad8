use Rattle.std.proofs.Common.{◌+◌, ◌||◌, drop, sym, ap, ◌∙◌, arith}
use Rattle.std.proofs.lemmas.List.{drop_all}
use Rattle.r_inv.specs.Rule.{some_used}
use Rattle.r_inv.proofs.Lists.{used_more}
use Rattle.r_inv.proofs.carried.some_used.Goals as goal

pub returns-then-is_moved : goal.returns-then-is_moved
returns-then-is_moved g c =
    let xs = g.C.Carried.carried c.args.variables.now in
    let i = c.loop-port.port in
    let rest = some_used c.args.id c.args.region.now (i + 1) (drop (i + 1) xs) in
    let here = sym c.is_moved.ensures ∙ c.if-is_moved.true in
    (λ j. sym here j || rest) ∙ sym (used_more c.args.id c.args.region.now xs i c.carries.result c.carries.ensures) ∙ c.loop-port.invariant

pub loop-port-preserved : goal.loop-port-preserved
loop-port-preserved g c =
    let xs = g.C.Carried.carried c.args.variables.now in
    let i = c.loop-port.port in
    let rest = some_used c.args.id c.args.region.now (i + 1) (drop (i + 1) xs) in
    let here = sym c.is_moved.ensures ∙ c.if-is_moved.false in
    (λ j. sym here j || rest) ∙ sym (used_more c.args.id c.args.region.now xs i c.carries.result c.carries.ensures) ∙ c.loop-port.invariant

pub returns : goal.returns
returns g c =
    let xs = g.C.Carried.carried c.args.variables.now in
    let i = c.loop-port.port in
    sym (ap (some_used c.args.id c.args.region.now i) (drop_all i xs (omega (arith, c.count-port-end.ensures)))) ∙ c.loop-port.invariant
