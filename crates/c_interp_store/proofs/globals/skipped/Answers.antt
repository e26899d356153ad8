use Rattle.std.proofs.Common.{sym, ◌∙◌, arith}
use Rattle.c_interp_store.proofs.Written.{first_is, skip_is}
use Rattle.c_interp_store.proofs.globals.skipped.Goals as goal

pub returns-then-not-is_past-clause-next : goal.returns-then-not-is_past-clause-next
returns-then-not-is_past-clause-next c =
    first_is c.args.offset c.args.written.now c.loop-i.i c.index-written-i.result c.loop-i-test.true c.index-written-i.is ∙ sym c.is_past.ensures ∙ c.if-not-is_past.true

pub loop-i-preserved : goal.loop-i-preserved
loop-i-preserved c = record {
  within = omega (arith, c.loop-i-test.true);
  same = λ global q le.
      c.loop-i.invariant.same global q le
      ∙ skip_is global c.args.offset q c.args.written.now c.loop-i.i c.index-written-i.result c.loop-i-test.true c.index-written-i.is (sym c.is_past.ensures ∙ c.if-not-is_past.false) le;
}
