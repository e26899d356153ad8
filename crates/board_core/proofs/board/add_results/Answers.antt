use Rattle.std.proofs.Common.{arith}
use Rattle.std.specs.Arc.{arc_value}
use Rattle.board_core.proofs.ResultLemmas.{results-more}
use Rattle.board_core.proofs.board.add_results.Goals as goal

pub loop-dep-preserved : goal.loop-dep-preserved
loop-dep-preserved g c = (
  results-more arc_value c.args.results.now c.args.deps.now c.loop-dep.dep-index c.index-results-dep.result c.args.out.now.items c.loop-dep.out.items c.add_result.new.out.items
      c.loop-dep-test.true (c.requires.known c.loop-dep.dep-index c.loop-dep-test.true) c.index-results-dep.is c.loop-dep.invariant.0 c.in_ok-add_result.ensures.ok,
  omega (arith, c.loop-dep.invariant.1, c.in_ok-add_result.ensures.room),
)
