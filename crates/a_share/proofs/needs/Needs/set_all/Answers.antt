use Rattle.std.proofs.Common.{◌≡◌, ◌<◌, ◌∙◌, length, get_or, arith}
use Rattle.a_share.specs.Bounds.{AreBelow, needed_now}
use Rattle.a_share.proofs.Moving.{changes_more}
use Rattle.a_share.proofs.Setting.{below_get, set_more}
use Rattle.a_share.proofs.needs.Needs.set_all.Goals as goal

pub loop-name-preserved : goal.loop-name-preserved
loop-name-preserved c =
    let before = c.loop-name.invariant in
    let i = c.loop-name.name-index in
    let names = c.args.names.now in
    let step = c.in_ok-set.ensures in
    let low : AreBelow (length c.args.self.now.toggles) names → get_or names i 0 < length c.loop-name.self.toggles = λ b.
    (let size : length c.loop-name.self.toggles ≡ length c.args.self.now.toggles = (before.changes b).1.toggled.size in
    let less : get_or names i 0 < length c.args.self.now.toggles = below_get (length c.args.self.now.toggles) names i b c.loop-name-test.true in
    omega (arith, size, less)) in
    record {
      changes = λ b. changes_more c.args.self.now c.loop-name.self c.set.new.self c.args.bound (before.changes b) (step.changes (low b));
      now = λ b x.
          set_more names i x c.args.needed (needed_now c.args.self.now.toggles x) (needed_now c.loop-name.self.toggles x) (needed_now c.set.new.self.toggles x)
          c.loop-name-test.true (before.now b x) (step.now (low b) x);
      depths = step.depths ∙ before.depths;
      copies = step.copies ∙ before.copies;
    }
