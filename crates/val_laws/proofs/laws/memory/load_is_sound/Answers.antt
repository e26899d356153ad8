use Rattle.val_laws.proofs.lemmas.Sound.{load_is_sound}
use Rattle.val_laws.proofs.laws.memory.load_is_sound.Goals as goal

pub returns : goal.returns
returns c = load_is_sound
