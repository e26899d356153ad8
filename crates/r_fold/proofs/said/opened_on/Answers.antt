-- There are regions, and one is chosen.
use Rattle.std.proofs.Common.{sym, ◌∙◌}
use Rattle.r_fold.proofs.Parts.{opens_on}
use Rattle.r_fold.proofs.said.opened_on.Goals as goal

pub returns-in-Some : goal.returns-in-Some
returns-in-Some c =
    opens_on c.opened.result c.args.entries.now c.args.regions.now c.args.word c.in-Some.word c.chosen_place.result c.in-Some.is c.chosen_place.ensures
    (sym c.is_empty.ensures ∙ c.if-is_empty.false) c.opened.ensures
