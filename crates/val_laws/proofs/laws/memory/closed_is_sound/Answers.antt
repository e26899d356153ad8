use Rattle.val_laws.proofs.lemmas.Sound.{closed_is_sound}
use Rattle.val_laws.proofs.laws.memory.closed_is_sound.Goals as goal

pub returns : goal.returns
returns c = closed_is_sound
