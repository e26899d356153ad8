-- How many bytes come before the first line end, where there is one and where there is none.
use Rattle.std.proofs.Common.{ℕ, ap, length, Option}
use Rattle.std.specs.Prelude.{unwrap_or}
use Rattle.cc_report.proofs.lines.line_length.Goals as goal

pub returns-in-Some-clause-value : goal.returns-in-Some-clause-value
returns-in-Some-clause-value c = ap (λ (o : Option ℕ). unwrap_or o (length c.args.bytes.now)) c.in-Some.ensures.value

pub returns-in-None-clause-value : goal.returns-in-None-clause-value
returns-in-None-clause-value c = ap (λ (o : Option ℕ). unwrap_or o (length c.args.bytes.now)) c.in-None.ensures.value
