use Rattle.val_laws.proofs.lemmas.Sound.{store_is_sound}
use Rattle.val_laws.proofs.laws.memory.store_is_sound.Goals as goal

pub returns : goal.returns
returns c = store_is_sound
