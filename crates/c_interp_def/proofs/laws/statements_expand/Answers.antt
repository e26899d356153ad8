use Rattle.c_interp_def.proofs.StmtLaws.{statement-expands, items-expand, groups-expand, elements-expand, turns-expand, again-expands}
use Rattle.c_interp_def.proofs.laws.statements_expand.Goals as goal

pub returns : goal.returns
returns c = record { statements = statement-expands; items = items-expand; groups = groups-expand; elements = elements-expand; turns = turns-expand; again = again-expands }
