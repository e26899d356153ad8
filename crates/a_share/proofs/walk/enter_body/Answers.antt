use Rattle.std.proofs.Common.{◌≡◌, ◌<◌, ◌∙◌, ◌&&◌, ◌||◌, ◌-◌, [], ℕ, map, length, drop, refl, sym, ap, subst}
use Rattle.std.specs.Prelude.{◌==◌, true, Some, slice_get}
use Rattle.s_linear.specs.Lines.{branch_zero}
use Rattle.s_linear.specs.Views.{line_of}
use Rattle.a_place.specs.Places.{among}
use Rattle.a_share.specs.Bounds.{is_as, needed_now}
use Rattle.a_share.specs.Changes.{IsEntered}
use Rattle.a_share.proofs.Choosing.{IsRestored}
use Rattle.a_share.proofs.Joining.{body_entered, predicate_below}
use Rattle.a_share.proofs.Moving.{names_at, changes_beside}
use Rattle.a_share.proofs.walk.enter_body.Goals as goal

pub returns-clause-entered : goal.returns-clause-entered
returns-clause-entered c = λ p l is g s names.
    let ls = map line_of c.args.lines.now in
    let old = c.args.needs.now in
    let wa = c.pass_moves.new.needs in
    let wc = c.set_all.new.self in
    let b = c.saturating_sub-branch.result in
    let at : b ≡ c.args.back - 1 = c.saturating_sub-branch.ensures in
    let mark : c.len-mark.result ≡ length c.args.needs.now.changed.items = c.len-mark.ensures ∙ c.args.needs.now.changed.ok.0 in
    let back = c.in_ok-restore.ensures in
    let r : IsRestored c.pass_moves.new.needs c.restore.new.self c.len-mark.result c.saturating_sub-branch.result = record {
      toggled = back.toggled;
      changed = back.changed;
      depths = back.depths;
      copies = back.copies;
    } in
    let chosen : (x : ℕ) → among x c.deref-2.result.now
    ≡ ((among x (drop (length c.args.needs.now.changed.items) c.pass_moves.new.needs.changed.items) && is_as true (needed_now c.pass_moves.new.needs.toggles x)) || among x []) =
    λ x.
    ap (among x) c.deref-2.ensures.value ∙ c.in_ok-choose.ensures x
    ∙ ap (λ z. (among x (drop c.len-mark.result z) && is_as true (needed_now wa.toggles x)) || among x c.in_ok-read.read.items) c.deref.ensures.value
    ∙ ap (λ z. (among x (drop c.len-mark.result wa.changed.items) && is_as true (needed_now wa.toggles x)) || among x z) c.in_ok-read.ensures.items
    ∙ ap (λ z. (among x (drop z wa.changed.items) && is_as true (needed_now wa.toggles x)) || among x []) mark in
    let there : slice_get (map line_of c.args.lines.now) c.saturating_sub-branch.result ≡ Some (branch_zero p l) = subst (λ z. slice_get ls z ≡ Some (branch_zero p l)) (sym at) g in
    let test = c.in_ok-pass_branch.ensures in
    let inside : p < length c.set_all.new.self.toggles → p < length c.stand.new.self.toggles = λ h. subst (λ z. p < length z) (sym c.stand.ensures.toggles) h in
    subst (λ z. IsEntered p is old c.pass_branch.new.needs z) at
    (body_entered old wa c.restore.new.self wc c.pass_branch.new.needs p b is c.deref-2.result.now (c.in_ok-pass_moves.ensures.passed is s names) chosen
    (subst (λ z. IsRestored wa c.restore.new.self z b) mark r) c.in_ok-set_all.ensures.changes c.in_ok-set_all.ensures.now
    (predicate_below (length old.toggles) p (names_at (length old.toggles) ls (c.args.back - 1) (branch_zero p l) names g))
    (λ h. changes_beside wc c.stand.new.self c.pass_branch.new.needs b c.stand.ensures.toggles c.stand.ensures.changed (test.changes p (branch_zero p l) there refl (inside h)))
    (λ h x. test.now p (branch_zero p l) there refl (inside h) x ∙ ap (λ z. (p == x) || needed_now z x) c.stand.ensures.toggles))
