use Rattle.std.proofs.Common.{◌∙◌, sym, ap, arith}
use Rattle.c_mean.specs.Statements.{has_case}
use Rattle.c_interp.proofs.Groups.{case-here, case-later, case-none, chosen-here}
use Rattle.c_interp.proofs.statement.chosen.Goals as goal

pub returns-then-contains-clause-chosen : goal.returns-then-contains-clause-chosen
returns-then-contains-clause-chosen c =
    let gs = c.args.groups.now in
    let here = c.loop-i.invariant ∙ case-here c.args.w gs c.loop-i.i c.index-groups-i.result c.loop-i-test.true c.index-groups-i.is (sym (c.contains.ensures.value ∙ ap (has_case c.args.w) c.deref.ensures.value) ∙ c.if-contains.true) in
    sym (chosen-here c.args.w gs _ here)

pub loop-i-preserved : goal.loop-i-preserved
loop-i-preserved c =
    c.loop-i.invariant ∙ case-later c.args.w c.args.groups.now c.loop-i.i c.index-groups-i.result c.loop-i-test.true c.index-groups-i.is (sym (c.contains.ensures.value ∙ ap (has_case c.args.w) c.deref.ensures.value) ∙ c.if-contains.false)

pub returns-clause-chosen : goal.returns-clause-chosen
returns-clause-chosen c =
    let gs = c.args.groups.now in
    c.default_of.ensures.chosen ∙ sym (chosen-here c.args.w gs _ (c.loop-i.invariant ∙ case-none c.args.w gs c.loop-i.i (omega arith)))
