use Rattle.log_check.proofs.OneReading.{one_reading}
use Rattle.log_check.proofs.laws.texts_have_one_reading.Goals as goal

pub returns : goal.returns
returns c = one_reading
