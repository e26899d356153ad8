use Rattle.std.proofs.Common.{◌+◌, ◌∙◌, [], ◌∷◌, ◌++◌, ap, drop, get_or, length, if◌then◌else◌, arith}
use Rattle.std.proofs.lemmas.List.{length-replicate}
use Rattle.s_linear.specs.Views.{line_of}
use Rattle.a_share.specs.Tables.{does_write, positions}
use Rattle.a_share.proofs.Tables.{seen, line_below, grown, grown_all, none_in, positions_more, positions_end}
use Rattle.a_share.proofs.facts.writes.Goals as goal

pub loop-position-init : goal.loop-position-init
loop-position-init c = record {
  count = ap length c.in_ok-writes.ensures ∙ length-replicate c.args.count [];
  writes = λ x h. ap (λ z. get_or z x [] ++ positions (does_write x) 0 (seen c.args.lines.now)) c.in_ok-writes.ensures
      ∙ ap (λ z. z ++ positions (does_write x) 0 (seen c.args.lines.now)) (none_in c.args.count x);
}

pub add_write-requires : goal.add_write-requires
add_write-requires c =
    let below = line_below c.args.lines.now c.loop-position.position c.index-lines-position.result c.loop-position-test.true c.index-lines-position.is in
    omega (arith, below, c.requires, c.loop-position.invariant.count)

pub loop-position-preserved : goal.loop-position-preserved
loop-position-preserved c =
    let before = c.loop-position.invariant in
    let i = c.loop-position.position in
    let lines = c.args.lines.now in
    let line = c.index-lines-position.result in
    record {
      count = c.in_ok-add_write.ensures.count ∙ before.count;
      writes = λ x h.
          grown (get_or c.loop-position.writes x []) (if does_write x (line_of line) then i ∷ [] else []) (positions (does_write x) (i + 1) (seen (drop (i + 1) lines)))
          (get_or c.add_write.new.writes x []) (positions (does_write x) i (seen (drop i lines))) (positions (does_write x) 0 (seen lines))
          (c.in_ok-add_write.ensures.writes x (omega (arith, before.count))) (positions_more x i lines line c.loop-position-test.true c.index-lines-position.is) (before.writes x h);
    }

pub returns-clause-writes : goal.returns-clause-writes
returns-clause-writes c = λ x h.
    grown_all (get_or c.loop-position.writes x []) (positions (does_write x) c.loop-position.position (seen (drop c.loop-position.position c.args.lines.now)))
    (positions (does_write x) 0 (seen c.args.lines.now)) (positions_end x c.loop-position.position c.args.lines.now (omega (arith, c.loop-position-test.false)))
    (c.loop-position.invariant.writes x h)
