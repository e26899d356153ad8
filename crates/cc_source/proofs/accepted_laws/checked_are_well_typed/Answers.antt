use Rattle.cc_source.proofs.Checked.{checked_well_typed}
use Rattle.cc_source.proofs.accepted_laws.checked_are_well_typed.Goals as goal

pub returns : goal.returns
returns c = checked_well_typed c.tokens_are_longest.ensures c.tokens_are_in_range.ensures c.accepted_are_well_typed.ensures
