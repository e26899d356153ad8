use Rattle.a_place_keeps.proofs.Standing.{intervals_span_code}
use Rattle.a_place_keeps.proofs.laws.intervals_span_code.Goals as goal

pub returns : goal.returns
returns c = intervals_span_code
