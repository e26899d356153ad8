use Rattle.r_inline.proofs.Said as said
use Rattle.r_inline.proofs.walk_laws.inline_is_local.Goals as goal

pub returns : goal.returns
returns c = said.inline_is_local c.inline_keeps_meaning.ensures.step
