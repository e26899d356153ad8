use Rattle.std.proofs.Common.{sym, arith}
use Rattle.std.proofs.lemmas.List.{length-take, take_all}
use Rattle.cc_view.proofs.call.front.Goals as goal

pub returns-then-text-gt-MOST_SOURCE_BYTES-clause-small : goal.returns-then-text-gt-MOST_SOURCE_BYTES-clause-small
returns-then-text-gt-MOST_SOURCE_BYTES-clause-small c = omega (arith, length-take 1048577 c.args.text.now)

pub returns-else-text-gt-MOST_SOURCE_BYTES-clause-value : goal.returns-else-text-gt-MOST_SOURCE_BYTES-clause-value
returns-else-text-gt-MOST_SOURCE_BYTES-clause-value c = sym (take_all 1048577 c.args.text.now (omega (arith, c.if-text-gt-MOST_SOURCE_BYTES.false)))
