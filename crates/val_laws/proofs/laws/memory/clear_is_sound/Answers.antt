use Rattle.val_laws.proofs.lemmas.Sound.{clear_is_sound}
use Rattle.val_laws.proofs.laws.memory.clear_is_sound.Goals as goal

pub returns : goal.returns
returns c = clear_is_sound
