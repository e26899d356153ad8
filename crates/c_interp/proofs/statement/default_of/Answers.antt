use Rattle.std.proofs.Common.{◌∙◌, length, sym, ap, arith}
use Rattle.std.proofs.lemmas.List.{drop_all}
use Rattle.c_typed.specs.StmtViews.{groups_of}
use Rattle.c_interp.proofs.Groups.{default-here, default-later, default-none}
use Rattle.c_interp.proofs.statement.default_of.Goals as goal

pub returns-then-group-clause-chosen : goal.returns-then-group-clause-chosen
returns-then-group-clause-chosen c =
    sym (c.loop-i.invariant ∙ default-here c.args.groups.now c.loop-i.i c.index-groups-i.result c.loop-i-test.true c.index-groups-i.is c.if-group.true)

pub loop-i-preserved : goal.loop-i-preserved
loop-i-preserved c =
    c.loop-i.invariant ∙ default-later c.args.groups.now c.loop-i.i c.index-groups-i.result c.loop-i-test.true c.index-groups-i.is c.if-group.false

pub returns-clause-chosen : goal.returns-clause-chosen
returns-clause-chosen c =
    let gs = c.args.groups.now in
    ap groups_of (drop_all (length gs) gs (omega arith))
    ∙ sym (c.loop-i.invariant ∙ default-none gs c.loop-i.i c.loop-i-test.false ∙ ap groups_of (drop_all c.loop-i.i gs c.loop-i-test.false))
