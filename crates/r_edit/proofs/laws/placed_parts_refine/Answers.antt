use Rattle.r_edit.proofs.lemmas.Parts as parts
use Rattle.r_edit.proofs.laws.placed_parts_refine.Goals as goal

pub returns : goal.returns
returns c = parts.placed_parts_refine
