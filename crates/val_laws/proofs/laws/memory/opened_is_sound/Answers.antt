use Rattle.val_core.proofs.lemmas.Objects.{opened_is_sound, addresses_are_sound}
use Rattle.val_laws.proofs.laws.memory.opened_is_sound.Goals as goal

pub returns-clause-memory : goal.returns-clause-memory
returns-clause-memory c = opened_is_sound

pub returns-clause-addresses : goal.returns-clause-addresses
returns-clause-addresses c = addresses_are_sound
