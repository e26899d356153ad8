use Rattle.std.proofs.Common.{sym, ◌∙◌, drop}
use Rattle.c_typed.specs.StmtViews.{items_of, groups_of}
use Rattle.g_build.proofs.Segments.{groups_at, several_step}
use Rattle.g_build.proofs.labels.has_several.Goals as goal

pub loop-i-preserved : goal.loop-i-preserved
loop-i-preserved c =
    let g = groups_at c.args.groups.now c.loop-i.i c.loop-i-test.true in
    sym (several_step (groups_of (drop c.loop-i.i c.args.groups.now)) c.ends_segment.result c.ends_segment.ensures c.if-not-ends_segment.false _ g.0.cases.items g.0.is_default
    (items_of g.0.body.items) g.1)
    ∙ c.loop-i.invariant
