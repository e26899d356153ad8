use Rattle.std.proofs.Common.{sym}
use Rattle.cc_view.proofs.Shows.{no-explanation}
use Rattle.cc_view.proofs.shown.refusal_shown.Goals as goal

pub refused_text-requires-clause-refused : goal.refused_text-requires-clause-refused
refused_text-requires-clause-refused c = sym c.in-Some.ensures

pub returns-in_default : goal.returns-in_default
returns-in_default c recipe = no-explanation recipe c.args.source.now c.nothing.result.ended c.nothing.result.text.items c.nothing.ensures.ended c.nothing.ensures.text

pub returns-in-Ok : goal.returns-in-Ok
returns-in-Ok c recipe = (c.args.fault, c.requires.refused, sym c.in-Some.ensures, c.in-Ok.ensures)

pub returns-in-Err : goal.returns-in-Err
returns-in-Err c recipe =
    let shown = c.nothing-in-Err.result in
    no-explanation recipe c.args.source.now shown.ended shown.text.items c.nothing-in-Err.ensures.ended c.nothing-in-Err.ensures.text
