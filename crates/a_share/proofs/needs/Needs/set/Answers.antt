use Rattle.std.proofs.Common.{[], ◌∷◌, ◌∙◌, sym}
use Rattle.a_share.proofs.Toggling.{one_toggled, one_below, set_now}
use Rattle.a_share.proofs.Setting.{beq_not}
use Rattle.a_share.proofs.needs.Needs.set.Goals as goal

pub returns-clause-changes : goal.returns-clause-changes
returns-clause-changes c = λ h. (
  c.args.name ∷ [],
  record {
    changed = c.in_ok-push.ensures.items;
    below = one_below _ c.args.name h;
    toggled = one_toggled c.args.self.now.toggles c.add.new.self c.args.name c.args.bound h c.in_ok-add.ensures;
  },
)

pub returns-clause-now : goal.returns-clause-now
returns-clause-now c = λ h.
    set_now c.args.self.now.toggles c.add.new.self c.args.name c.args.bound c.args.needed
    (sym c.is_odd.ensures ∙ beq_not c.is_odd.result c.args.needed c.if-is_odd-needed.false)
    (one_toggled c.args.self.now.toggles c.add.new.self c.args.name c.args.bound h c.in_ok-add.ensures)
