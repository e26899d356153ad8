use Rattle.c_lex.proofs.Tables.{punct_by_first}
use Rattle.c_lex.proofs.punct.Punct.at_front.Goals as goal

pub returns-in-len1-up : goal.returns-in-len1-up
returns-in-len1-up c =
    punct_by_first c.args.text.now c.beginning_with.result.now c.first_of.result c.in-len1-up.len_at_least c.beginning_with.ensures c.first_of.ensures
