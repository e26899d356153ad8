use Rattle.std.proofs.Common.{sym, ◌∙◌}
use Rattle.c_lex.proofs.Scans.{comment_goes}
use Rattle.c_lex.proofs.trivia.comment_end.Goals as goal

pub loop-i-preserved : goal.loop-i-preserved
loop-i-preserved c =
    sym (comment_goes c.loop-i.i c.args.text.now c.starts_with.result c.starts_with.ensures.value c.if-starts_with.false c.loop-i-test.true) ∙ c.loop-i.invariant
