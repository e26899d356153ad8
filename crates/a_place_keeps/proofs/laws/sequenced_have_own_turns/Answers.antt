-- The code of a lambda is closed, and each of its choices has a code.
use Rattle.a_place_keeps.proofs.Sequenced as sequenced
use Rattle.a_place_keeps.proofs.laws.sequenced_have_own_turns.Goals as goal

pub returns : goal.returns
returns c = sequenced.sequenced_have_own_turns c.sequenced_code_is_closed.ensures c.closed_have_own_turns.ensures
