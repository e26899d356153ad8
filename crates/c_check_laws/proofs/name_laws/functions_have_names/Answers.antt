use Rattle.c_check_laws.proofs.Functions.{functions_have_names}
use Rattle.c_check_laws.proofs.name_laws.functions_have_names.Goals as goal

pub returns : goal.returns
returns c = functions_have_names c.tokens_are_longest.ensures (record { widths = c.alignment_is_width.ensures; members = c.member_is_within.ensures })
