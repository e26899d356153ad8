use Rattle.cc_compile.proofs.ConstantExits.{constant_exits}
use Rattle.cc_compile.proofs.meaning_laws.constant_exits.Goals as goal

pub returns : goal.returns
returns c = constant_exits c.loaded_is_sound.ensures
