use Rattle.std.proofs.Common.{arith, ◌≤◌}
use Rattle.c_ast.specs.Nesting.{depth_of}
use Rattle.c_parse_tokens.proofs.lemmas.FirstDeep.{scan_more, scan_here, scan_end}
use Rattle.c_parse_tokens.proofs.nesting.first_too_deep.Goals as goal

pub returns-then-depth-gt-MAX_DEPTH : goal.returns-then-depth-gt-MAX_DEPTH
returns-then-depth-gt-MAX_DEPTH c =
    scan_here c.args.tokens.now c.loop-i.i c.index-tokens-i.result c.loop-i.counters c.pass.new.self c.index-tokens-i.is (omega arith) c.loop-i.invariant.0 c.pass.ensures (omega (
      arith,
      c.depth.ensures,
    ))

pub loop-i-preserved : goal.loop-i-preserved
loop-i-preserved c =
    let low : depth_of c.pass.new.self ≤ 200 = omega (arith, c.depth.ensures) in
    (scan_more c.args.tokens.now c.loop-i.i c.index-tokens-i.result c.loop-i.counters c.pass.new.self c.index-tokens-i.is (omega arith) c.loop-i.invariant.0 c.pass.ensures low, low)

pub returns : goal.returns
returns c = scan_end c.args.tokens.now c.loop-i.i c.loop-i.counters (omega arith) c.loop-i.invariant.0
