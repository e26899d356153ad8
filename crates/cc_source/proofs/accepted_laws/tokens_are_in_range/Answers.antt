use Rattle.cc_source.proofs.Tokens.{tokens_in_range}
use Rattle.cc_source.proofs.accepted_laws.tokens_are_in_range.Goals as goal

pub returns : goal.returns
returns c = tokens_in_range c.tokens_are_longest.ensures
