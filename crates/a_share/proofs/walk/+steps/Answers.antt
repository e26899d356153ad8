use Rattle.std.proofs.Common.{◌≡◌, ◌≤◌, ◌<◌, ◌-◌, ◌&&◌, ◌||◌, ◌∙◌, [], true, false, map, length, length-set, drop, slice_get, refl, sym, ap, subst, arith}
use Rattle.std.specs.Prelude.{Some}
use Rattle.std.specs.BTreeSet.{contains}
use Rattle.std.specs.Ordering.{nat_cmp}
use Rattle.s_linear.specs.Views.{line_of}
use Rattle.a_place.specs.Places.{among}
use Rattle.a_share.specs.Bounds.{is_as, needed_now, AreBelow}
use Rattle.a_share.specs.Changes.{AreTurnedOver}
use Rattle.a_share.specs.Walking.{RowStands, is_label_line}
use Rattle.a_share.proofs.Choosing.{IsRestored}
use Rattle.a_share.proofs.Forking.{choice_begun, choice_next, choice_done}
use Rattle.a_share.proofs.Turned.{turned_all}
use Rattle.a_share.proofs.Goings.{left_first, left_later, goes_nothing, goes_label, goes_instr, goes_loop, goes_choice}
use Rattle.a_share.proofs.walk.+steps.Goals as goal
use Rattle.a_share.proofs.walk.+steps.Goals.{choice-then-codes-test+else-is_label, choice-else-codes-test}

pub code-back-init : goal.code-back-init
code-back-init t c = record {
  bound = omega arith;
  depths = refl;
  copies = refl;
  walked = λ a r N room s h.
      left_first (map line_of c.args.lines.now) (contains nat_cmp c.args.jumped.now) c.args.stop c.args.depth c.args.needs.now a r c.args.end N room s h;
}

pub code-returns-in-Nothing-clause-walked : goal.code-returns-in-Nothing-clause-walked
code-returns-in-Nothing-clause-walked t c = λ a r N room s h.
    goes_nothing (map line_of c.args.lines.now) (contains nat_cmp c.args.jumped.now) c.args.stop c.args.depth c.args.needs.now a r c.args.end N room c.back.needs c.back.at
    (c.back.invariant.walked a r N room s h) (sym c.step_before.ensures ∙ c.in-Nothing.is)

pub code-back-preserved-in-Label : goal.code-back-preserved-in-Label
code-back-preserved-in-Label t c = record {
  bound = omega (arith, c.back.invariant.bound);
  depths = c.back.invariant.depths;
  copies = c.back.invariant.copies;
  walked = λ a r N room s h.
      goes_label (map line_of c.args.lines.now) (contains nat_cmp c.args.jumped.now) c.args.stop c.args.depth c.args.needs.now a r c.args.end N room c.back.needs c.back.at
      (c.back.invariant.walked a r N room s h) (sym c.step_before.ensures ∙ c.in-Label.is);
}

pub code-back-preserved-in-Instr : goal.code-back-preserved-in-Instr
code-back-preserved-in-Instr t c =
    let step = c.in_ok-instr-in-Instr.ensures in
    record {
      bound = omega (arith, c.back.invariant.bound);
      depths = ap length step.depths ∙ length-set c.back.needs.depths.items (c.back.at - 1) c.args.depth ∙ c.back.invariant.depths;
      copies = step.size ∙ c.back.invariant.copies;
      walked = λ a r N room s h.
          goes_instr (map line_of c.args.lines.now) (contains nat_cmp c.args.jumped.now) c.args.stop c.args.depth c.args.needs.now a r c.args.end N room c.back.needs
          c.instr.new.self c.back.at (c.back.invariant.walked a r N room s h) (sym c.step_before.ensures ∙ c.in-Instr.is) step.passed step.depths step.size step.others
          step.copy;
    }

pub code-back-preserved-in-Loop : goal.code-back-preserved-in-Loop
code-back-preserved-in-Loop t c =
    let step = c.in_ok-at-in-Loop.ensures in
    record {
      bound = omega (arith, c.back.invariant.bound, step.bound);
      depths = step.depths ∙ c.back.invariant.depths;
      copies = step.copies ∙ c.back.invariant.copies;
      walked = λ a r N room s h.
          goes_loop (map line_of c.args.lines.now) (contains nat_cmp c.args.jumped.now) c.args.stop c.args.depth c.args.needs.now a r c.args.end N room c.back.needs
          c.turn.new.needs c.back.at c.in-Loop.label c.in_ok-at-in-Loop.at (c.back.invariant.walked a r N room s h) (sym c.step_before.ensures ∙ c.in-Loop.is)
          step.walked;
    }

pub code-back-preserved : goal.code-back-preserved
code-back-preserved t c =
    let step = c.in_ok-at-in-Choice.ensures in
    record {
      bound = omega (arith, c.back.invariant.bound, step.bound);
      depths = step.depths ∙ c.back.invariant.depths;
      copies = step.copies ∙ c.back.invariant.copies;
      walked = λ a r N room s h.
          goes_choice (map line_of c.args.lines.now) (contains nat_cmp c.args.jumped.now) c.args.stop c.args.depth c.args.needs.now a r c.args.end N room c.back.needs
          c.choice.new.needs c.back.at c.in-Choice.label c.in_ok-at-in-Choice.at (c.back.invariant.walked a r N room s h)
          (sym c.step_before.ensures ∙ c.in-Choice.is) step.walked;
    }

pub code-returns-clause-walked : goal.code-returns-clause-walked
code-returns-clause-walked t c = λ a r N room s h.
    let later : 0 < c.back.at =
    left_later (map line_of c.args.lines.now) (contains nat_cmp c.args.jumped.now) c.args.stop c.args.depth c.args.needs.now a r c.args.end N room c.back.needs c.back.at
    (c.back.invariant.walked a r N room s h) in
    absurd (omega (arith, c.back-test.false))

pub turn-returns-clause-walked : goal.turn-returns-clause-walked
turn-returns-clause-walked t c = λ a p body back N room s h.
    let mark : c.len-mark.result ≡ length c.args.needs.now.changed.items = c.len-mark.ensures ∙ c.args.needs.now.changed.ok.0 in
    let first = c.start_of_moves-back.ensures in
    let enter = c.in_ok-enter_body.ensures in
    let over = c.in_ok-turn_over.ensures in
    let w2 = c.code.new.needs in
    let turned = subst (λ z. AreBelow (length w2.toggles) (drop z w2.changed.items)
    → AreTurnedOver w2.toggles c.turn_over.new.self.toggles (drop z w2.changed.items) c.start_of_moves-back.result c.saturating_sub-jump.result) mark over.turned in
    let all =
    turned_all (map line_of c.args.lines.now) (contains nat_cmp c.args.jumped.now) c.args.depth c.args.label body p back N a c.args.end c.args.needs.now
    c.enter_body.new.needs c.code.new.needs c.turn_over.new.self c.moves_back.new.needs c.in_ok-start.start c.saturating_sub-jump.result c.start_of_moves-back.result
    c.saturating_sub-branch.result room s h c.saturating_sub-jump.ensures c.saturating_sub-branch.ensures first.bound first.within first.before enter.entered enter.depths
    enter.copies c.in_ok-start.ensures.walked turned over.changed over.depths over.copies c.in_ok-moves_back.ensures.moved in
    (c.saturating_sub.ensures ∙ all.0, all.1)

pub choice-codes-init : goal.choice-codes-init
choice-codes-init t c = record {
  bound = omega (arith, c.in_ok-start.ensures.bound);
  depths = c.in_ok-start.ensures.depths;
  copies = c.in_ok-start.ensures.copies;
  walked = λ a p first cs N room s e h.
      let mark : c.len-mark.result ≡ length c.args.needs.now.changed.items = c.len-mark.ensures ∙ c.args.needs.now.changed.ok.0 in
      let w = c.code.new.needs in
      choice_begun (map line_of c.args.lines.now) (contains nat_cmp c.args.jumped.now) c.args.depth c.args.needs.now c.code.new.needs a first p cs c.args.end N
      c.in_ok-start.start c.in_ok-union.union.added.items c.in_ok-union.union.dropped.items room s h
      (λ b r M ro rs q.
      c.in_ok-start.ensures.walked b r M ro
      (subst (λ z. RowStands (map line_of c.args.lines.now) (contains nat_cmp c.args.jumped.now) (Some z) b r c.args.end M) (sym e) rs) q)
      (λ x. c.in_ok-union.ensures.added x ∙ ap (λ z. (among x (drop z w.changed.items) && is_as true (needed_now w.toggles x)) || among x []) mark)
      (λ x. c.in_ok-union.ensures.dropped x ∙ ap (λ z. (among x (drop z w.changed.items) && is_as false (needed_now w.toggles x)) || among x []) mark);
}

pub choice-codes-preserved : goal.choice-codes-preserved
choice-codes-preserved t c = record {
  bound = omega (arith, c.codes.invariant.bound, c.in_ok-start-2.ensures.bound, c.codes-test.true);
  depths = c.in_ok-start-2.ensures.depths ∙ ap (λ z. length z.items) c.in_ok-restore.ensures.depths ∙ c.codes.invariant.depths;
  copies = c.in_ok-start-2.ensures.copies ∙ ap (λ z. length z.items) c.in_ok-restore.ensures.copies ∙ c.codes.invariant.copies;
  walked = λ a p first cs N room s e h.
      let mark : c.len-mark.result ≡ length c.args.needs.now.changed.items = c.len-mark.ensures ∙ c.args.needs.now.changed.ok.0 in
      let back = c.in_ok-restore.ensures in
      let r : IsRestored c.codes.needs c.restore.new.self c.len-mark.result (c.codes.start - 1) = record {
        toggled = back.toggled;
        changed = back.changed;
        depths = back.depths;
        copies = back.copies;
      } in
      let u = c.code-in-codes.new.needs in
      choice_next (map line_of c.args.lines.now) (contains nat_cmp c.args.jumped.now) c.args.depth c.args.needs.now c.codes.needs c.restore.new.self c.code-in-codes.new.needs
      a first p cs c.args.end N c.codes.start c.in_ok-start-2.start c.codes.branches c.codes.union.added.items c.codes.union.dropped.items c.add.new.self.added.items
      c.add.new.self.dropped.items room h (c.codes.invariant.walked a p first cs N room s e h) c.codes-test.true (sym c.is_label.ensures ∙ c.if-is_label.true)
      (subst (λ z. IsRestored c.codes.needs c.restore.new.self z (c.codes.start - 1)) mark r)
      (λ b r M ro rs q.
      c.in_ok-start-2.ensures.walked b r M ro
      (subst (λ z. RowStands (map line_of c.args.lines.now) (contains nat_cmp c.args.jumped.now) (Some z) b r (c.codes.start - 2) M) (sym e) rs) q)
      (λ x. c.in_ok-add.ensures.added x
      ∙ ap (λ z. (among x (drop z u.changed.items) && is_as true (needed_now u.toggles x)) || among x c.codes.union.added.items) mark)
      (λ x. c.in_ok-add.ensures.dropped x);
}

pub choice-returns-clause-walked : goal.choice-returns-clause-walked
choice-returns-clause-walked t c = λ a p first cs N room s e h.
    let mark : c.len-mark.result ≡ length c.args.needs.now.changed.items = c.len-mark.ensures ∙ c.args.needs.now.changed.ok.0 in
    let back = c.in_ok-restore-2.ensures in
    let r : IsRestored c.codes.needs c.restore-2.new.self c.len-mark.result c.saturating_sub-first.result = record {
      toggled = back.toggled;
      changed = back.changed;
      depths = back.depths;
      copies = back.copies;
    } in
    let unlabelled : 2 ≤ c.codes.start → is_label_line (slice_get (map line_of c.args.lines.now) (c.codes.start - 1)) ≡ false = λ two.
    elim c.codes-test.branch [
      | choice-then-codes-test+else-is_label w ↦ sym w.is_label.ensures ∙ w.if-is_label.false
      | choice-else-codes-test w ↦ absurd (omega (arith, two, w.codes-test.false))
    ] in
    let join = c.in_ok-join.ensures in
    let all = c.stand_all.ensures in
    let test = c.in_ok-pass_branch.ensures in
    choice_done (map line_of c.args.lines.now) (contains nat_cmp c.args.jumped.now) c.args.depth c.args.needs.now c.codes.needs c.restore-2.new.self c.join.new.needs
    c.stand_all.new.needs c.pass_branch.new.needs a first p cs c.args.end N c.codes.start c.codes.branches c.saturating_sub-first.result c.codes.union.added.items
    c.codes.union.dropped.items room h (c.codes.invariant.walked a p first cs N room s e h) unlabelled c.saturating_sub-first.ensures
    (subst (λ z. IsRestored c.codes.needs c.restore-2.new.self z c.saturating_sub-first.result) mark r) join.changes join.now join.depths join.copies all.toggles all.changed
    all.copies all.size all.depths all.others test.changes test.now test.depths test.copies
