use Rattle.std.proofs.Common.{sym, subst}
use Rattle.std.proofs.lemmas.Result.{on_ok_weaker}
use Rattle.c_type.specs.Pending.{CanGoOn, HasGoneOn}
use Rattle.c_type.proofs.PendingLemmas.{gone_elements}
use Rattle.c_type.proofs.listing.list.Goals as goal

pub returns-in-Elements : goal.returns-in-Elements
returns-in-Elements c =
    let defs = c.args.types.now in
    let others = c.args.pending.now.items in
    let out = c.args.out.now.items in
    let new = c.list_elements.new.out.items in
    let can = subst (λ p. CanGoOn defs p others out) c.in-Elements.is c.requires in
    on_ok_weaker c.list_elements.result
    (λ h. subst (λ p. HasGoneOn defs p others others out new) (sym c.in-Elements.is)
    (gone_elements defs c.in-Elements.of c.in-Elements.count c.in-Elements.at c.in-Elements.first others out new can h))
    c.list_elements.ensures
