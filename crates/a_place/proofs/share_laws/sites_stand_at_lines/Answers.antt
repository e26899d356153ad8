use Rattle.a_place.proofs.lemmas.Marked.{sites_stand_at_lines}
use Rattle.a_place.proofs.share_laws.sites_stand_at_lines.Goals as goal

pub returns : goal.returns
returns c = sites_stand_at_lines
