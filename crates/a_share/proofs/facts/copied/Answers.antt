use Rattle.std.proofs.Common.{◌∙◌, [], ◌++◌, ap, drop, get_or, length, arith}
use Rattle.std.proofs.lemmas.List.{length-replicate}
use Rattle.a_share.specs.Tables.{copied_in}
use Rattle.a_share.proofs.Tables.{seen, line_below, grown_all, none_in, copied_end}
use Rattle.a_share.proofs.facts.copied.Goals as goal

pub loop-position-init : goal.loop-position-init
loop-position-init c = record {
  count = ap length c.in_ok-copied.ensures ∙ length-replicate c.args.count [];
  copied = λ x h. ap (λ z. get_or z x [] ++ copied_in x (seen c.args.lines.now) c.args.chosen.now) c.in_ok-copied.ensures
      ∙ ap (λ z. z ++ copied_in x (seen c.args.lines.now) c.args.chosen.now) (none_in c.args.count x);
}

pub add_move-requires : goal.add_move-requires
add_move-requires c =
    let below = line_below c.args.lines.now c.loop-position.position c.index-lines-position.result c.loop-position-test.true c.index-lines-position.is in
    omega (arith, below, c.requires.names, c.loop-position.invariant.count)

pub returns-clause-copied : goal.returns-clause-copied
returns-clause-copied c = λ x h.
    grown_all (get_or c.loop-position.copied x []) (copied_in x (seen (drop c.loop-position.position c.args.lines.now)) (drop c.loop-position.position c.args.chosen.now))
    (copied_in x (seen c.args.lines.now) c.args.chosen.now) (copied_end x c.loop-position.position c.args.lines.now c.args.chosen.now (omega (arith, c.loop-position-test.false)))
    (c.loop-position.invariant.copied x h)
