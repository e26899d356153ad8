use Rattle.c_interp_def.proofs.ExprLaws.{expression-expands, place-expands, dropped-expand, passed-expand}
use Rattle.c_interp_def.proofs.laws.expressions_expand.Goals as goal

pub returns : goal.returns
returns c = record { expressions = expression-expands; places = place-expands; dropped = dropped-expand; passed = passed-expand }
