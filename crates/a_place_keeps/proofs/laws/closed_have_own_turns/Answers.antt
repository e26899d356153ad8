-- Each choice of closed code has a code, so its turns are its own.
use Rattle.a_place_keeps.proofs.Turns as turns
use Rattle.a_place_keeps.proofs.laws.closed_have_own_turns.Goals as goal

pub returns : goal.returns
returns c = turns.closed_have_own_turns
