use Rattle.std.proofs.Common.{◌<◌, ◌∙◌, ◌++◌, length, drop, length-drop, sym, ap, arith}
use Rattle.std.proofs.lemmas.List.{append-nil}
use Rattle.a_share.proofs.Paired.{pairs_short}
use Rattle.a_share.proofs.segments.paired.Goals as goal

pub returns : goal.returns
returns c =
    let long = length-drop c.loop-k.k c.args.bounds.now in
    let short : length (drop c.loop-k.k c.args.bounds.now) < 2 = omega (arith, long, c.loop-k.invariant.low, c.loop-k-test.false) in
    sym (append-nil c.loop-k.segments.items) ∙ ap (λ z. c.loop-k.segments.items ++ z) (sym (pairs_short c.args.end (drop c.loop-k.k c.args.bounds.now) short))
    ∙ c.loop-k.invariant.pairs
