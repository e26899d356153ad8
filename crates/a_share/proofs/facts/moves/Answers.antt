use Rattle.std.proofs.Common.{drop, arith}
use Rattle.a_share.specs.Tables.{move_depths}
use Rattle.a_share.proofs.Tables.{seen, grown_all, moves_end}
use Rattle.a_share.proofs.facts.moves.Goals as goal

pub returns : goal.returns
returns c =
    grown_all c.loop-position.moves.items (move_depths (seen (drop c.loop-position.position c.args.lines.now)) (drop c.loop-position.position c.args.depths.now))
    (move_depths (seen c.args.lines.now) c.args.depths.now) (moves_end c.loop-position.position c.args.lines.now c.args.depths.now (omega (arith, c.loop-position-test.false)))
    c.loop-position.invariant
