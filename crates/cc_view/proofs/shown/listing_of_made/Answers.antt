use Rattle.std.proofs.Common.{map, sym, subst}
use Rattle.std.specs.Arc.{arc_value}
use Rattle.cc_view.specs.declared.shown.Shown.{Shown}
use Rattle.cc_view.specs.Shown.{ListingShows}
use Rattle.cc_view.proofs.Shows.{no-listing}
use Rattle.cc_view.proofs.shown.listing_of_made.Goals as goal

pub listing_of-requires : goal.listing_of-requires
listing_of-requires c = c.requires.2.made.fits

pub returns-in-Ok : goal.returns-in-Ok
returns-in-Ok c recipe source made =
    subst (λ (s : Shown). ListingShows recipe source s.ended s.text.items) (sym c.done.ensures) (c.args.made.now.omega, map arc_value c.args.made.now.answers.items, made, c.in-Ok.ensures)

pub returns-in-Err : goal.returns-in-Err
returns-in-Err c recipe source made = no-listing recipe source c.nothing.result.ended c.nothing.result.text.items c.nothing.ensures.ended c.nothing.ensures.text
