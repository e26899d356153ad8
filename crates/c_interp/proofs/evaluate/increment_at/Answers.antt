use Rattle.c_interp.proofs.evaluate.increment_at.Goals as goal

pub returns-in-Some : goal.returns-in-Some
returns-in-Some c = c.increment_known.ensures
