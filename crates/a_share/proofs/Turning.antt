-- The walk over a loop.
use Rattle.std.proofs.Common.{◌≡◌, ◌<◌, ◌≤◌, ℕ, suc, ◌+◌, true, false, ◌&&◌, List, [], ◌∷◌, ◌++◌, map, length, drop, set, slice_get, refl, sym, ap, ◌∙◌, subst, length-set, inl, inr, arith}
use Rattle.std.specs.Prelude.{nat_le}
use Rattle.std.proofs.lemmas.Bool.Decides.{nat_tests}
use Rattle.s_linear.specs.Linear.{Instr, Code}
use Rattle.s_linear.specs.Lines.{Line, done, jump, label, branch_zero, code_lines}
use Rattle.a_place.specs.Share.{Names, needed_by_code, at_label, at_branch}
use Rattle.a_place.specs.Marks.{mark, instr_marks, code_marks}
use Rattle.a_place.specs.Turns.{IsWrittenOr}
use Rattle.a_share.specs.Bounds.{differ, need_at, needed_now, is_odd_in, AreToggled}
use Rattle.a_share.specs.Changes.{AreTurnedOver, IsEntered}
use Rattle.a_share.specs.Rows.{StandAt, turn_lines, turn_marks}
use Rattle.a_share.specs.Walking.{IsAt, IsHeldAt, AreHeld, Keeps, IsWalked, AreMovedBack}
use Rattle.a_share.specs.declared.needs.Needs.{Needs}
use Rattle.a_share.proofs.Gets.{get_set_same, get_set_other, drop_added}
use Rattle.a_share.proofs.Parity.{differ_false, differ_twice}
use Rattle.a_share.proofs.Standing.{stand_end, stand_le}
use Rattle.a_share.proofs.Holding.{IsSame, still_held, held_append, keeps_more}
use Rattle.a_share.proofs.Passing.{keeps_after}
use Rattle.a_share.proofs.Heads.{label_held, jump_held}
use Rattle.a_share.proofs.Needing.{label_alike}

-- what two bounds change: between them all that these names change, and nothing else
turned_between : (ts us vs : List (List ℕ)) (names : List ℕ) (low high x k : ℕ) → low ≤ high → AreToggled ts vs names high → AreToggled vs us names low
    → low < k → k ≤ high → need_at us x k ≡ differ (need_at ts x k) (is_odd_in x names)
turned_between ts us vs names low high x k l p q m n =
    let a : nat_le k low ≡ false = grind (arith, nat_tests) in
    let b : nat_le k high ≡ true = grind (arith, nat_tests) in
    q.need x k ∙ rw a (differ_false (need_at vs x k)) ∙ p.need x k ∙ rw b refl

turned_below : (ts us vs : List (List ℕ)) (names : List ℕ) (low high x k : ℕ) → low ≤ high → AreToggled ts vs names high → AreToggled vs us names low
    → k ≤ low → need_at us x k ≡ need_at ts x k
turned_below ts us vs names low high x k l p q m =
    let a : nat_le k low ≡ true = grind (arith, nat_tests) in
    let b : nat_le k high ≡ true = grind (arith, nat_tests) in
    q.need x k ∙ ap (λ z. differ z (nat_le k low && is_odd_in x names)) (p.need x k) ∙ rw (a, b) (differ_twice (need_at ts x k) (is_odd_in x names))

turned_above : (ts us vs : List (List ℕ)) (names : List ℕ) (low high x k : ℕ) → low ≤ high → AreToggled ts vs names high → AreToggled vs us names low
    → high < k → need_at us x k ≡ need_at ts x k
turned_above ts us vs names low high x k l p q m =
    let a : nat_le k low ≡ false = grind (arith, nat_tests) in
    let b : nat_le k high ≡ false = grind (arith, nat_tests) in
    q.need x k ∙ rw a (differ_false (need_at vs x k)) ∙ p.need x k ∙ rw b (differ_false (need_at ts x k))

-- The states of the walk over a loop: before it, in its body, at its label, when the moves back are turned over, and at the end.
pub record AreTurned (d l : ℕ) (body : Code) (p : ℕ) (back : List Instr) (N : Names) (a branch to : ℕ) (w0 w1 w2 w3 w4 : Needs) : Type 0 where
  pub before : IsAt w0 (suc (suc to)) N
  pub entered : IsEntered p back w0 w1 branch
  pub depths1 : w1.depths.items ≡ set w0.depths.items branch (suc d)
  pub copies1 : w1.copies ≡ w0.copies
  pub room : branch < length w0.depths.items
  pub walked : IsWalked w1 w2 (suc a) branch (code_lines (2 + l) body) (code_marks (suc d) body (at_branch body p back N)) (needed_by_code body (at_branch body p back N))
  pub turned : AreTurnedOver w2.toggles w3.toggles (drop (length w0.changed.items) w2.changed.items) (suc branch) to
  pub changed3 : w3.changed ≡ w2.changed
  pub depths3 : w3.depths ≡ w2.depths
  pub copies3 : w3.copies ≡ w2.copies
  pub moved : ((x k : ℕ) → suc branch < k → k ≤ to → need_at w3.toggles x k ≡ at_label body p back N x)
      → ((x : ℕ) → needed_now w3.toggles x ≡ at_label body p back N x) → AreMovedBack (suc d) back (at_label body p back N) w3 w4 (suc branch) to

module _ (d l : ℕ) (body : Code) (p : ℕ) (back : List Instr) (N : Names) (a branch to : ℕ) (w0 w1 w2 w3 w4 : Needs) (lines : List Line)
    (stands : StandAt lines (suc a) (code_lines (2 + l) body) branch) (moves : StandAt lines (suc branch) (map done back) to)
    (own : IsWrittenOr (at_label body p back N) back N) (t : AreTurned d l body p back N a branch to w0 w1 w2 w3 w4) where
  abbrev L : Names
  L = at_label body p back N

  low : suc a ≤ branch
  low = stand_le lines (suc a) branch (code_lines (2 + l) body) stands

  high : suc branch ≤ to
  high = stand_le lines (suc branch) to (map done back) moves

  -- in the body, from the branch on
  keeps1 : Keeps w0 w1 (suc branch) t.entered.changes.0
  keeps1 =
      keeps_after w0 w1 branch (suc branch) t.entered.changes.0 (omega arith) t.entered.changes.1
      (λ i h. ap (λ z. slice_get z i) t.depths1 ∙ get_set_other w0.depths.items branch i (suc d) (λ e. absurd (omega arith)))
      (λ i h. ap (λ z. slice_get z.items i) t.copies1) (ap length t.depths1 ∙ length-set w0.depths.items branch (suc d)) (ap (λ z. length z.items) t.copies1)

  keeps2 : Keeps w0 w2 (suc branch) (t.entered.changes.0 ++ t.walked.keeps.0)
  keeps2 = keeps_more w0 w1 w2 (suc branch) branch t.entered.changes.0 t.walked.keeps.0 (omega arith) keeps1 t.walked.keeps.1

  -- the names that changed since
  changed2 : drop (length w0.changed.items) w2.changed.items ≡ t.entered.changes.0 ++ t.walked.keeps.0
  changed2 = drop_added w0.changed.items (t.entered.changes.0 ++ t.walked.keeps.0) w2.changed.items keeps2.changed

  turned_high : AreToggled w2.toggles t.turned.0 (t.entered.changes.0 ++ t.walked.keeps.0) to
  turned_high = subst (λ z. AreToggled w2.toggles t.turned.0 z to) changed2 t.turned.1

  turned_low : AreToggled t.turned.0 w3.toggles (t.entered.changes.0 ++ t.walked.keeps.0) (suc branch)
  turned_low = subst (λ z. AreToggled t.turned.0 w3.toggles z (suc branch)) changed2 t.turned.2

  -- at the label
  at_its_label : (x k : ℕ) → k ≤ suc a → need_at w2.toggles x k ≡ L x
  at_its_label x k h = t.walked.here x k h ∙ label_alike body p back N own x

  label_now : (x : ℕ) → needed_now w3.toggles x ≡ L x
  label_now x =
      turned_below w2.toggles w3.toggles t.turned.0 (t.entered.changes.0 ++ t.walked.keeps.0) (suc branch) to x 0 high turned_high turned_low (omega arith)
      ∙ at_its_label x 0 (omega arith)

  before_now : (x : ℕ) → needed_now w0.toggles x ≡ N x
  before_now x = t.before x 0 (omega arith)

  between : (x k : ℕ) → suc branch < k → k ≤ to → need_at w3.toggles x k ≡ L x
  between x k m n =
      turned_between w2.toggles w3.toggles t.turned.0 (t.entered.changes.0 ++ t.walked.keeps.0) (suc branch) to x k high turned_high turned_low m n
      ∙ ap (λ z. differ z (is_odd_in x (t.entered.changes.0 ++ t.walked.keeps.0))) (keeps2.need x k m ∙ t.before x k (omega arith) ∙ sym (before_now x))
      ∙ sym (keeps2.now x) ∙ at_its_label x 0 (omega arith)

  moved : AreMovedBack (suc d) back (at_label body p back N) w3 w4 (suc branch) to
  moved = t.moved between label_now

  -- nothing that was found in the body changes afterwards
  same4 : IsSame w2 w4 a (suc branch)
  same4 = record {
    need = λ x k m n. moved.low x k n
        ∙ turned_below w2.toggles w3.toggles t.turned.0 (t.entered.changes.0 ++ t.walked.keeps.0) (suc branch) to x k high turned_high turned_low n;
    kept = λ x c h. moved.kept x c (turned_low.kept x c (turned_high.kept x c h));
    depths = λ i m n. moved.depths i (inl n) ∙ ap (λ z. slice_get z.items i) t.depths3;
    copies = λ i m n. moved.copies i (inl n) ∙ ap (λ z. slice_get z.items i) t.copies3;
  }

  branch_held : IsHeldAt w4 branch (branch_zero p (suc l)) (mark (suc d) N)
  branch_held = record {
    depth = λ e.
        moved.depths branch (inl (omega arith)) ∙ ap (λ z. slice_get z.items branch) t.depths3 ∙ t.walked.keeps.1.depths branch (omega arith)
        ∙ ap (λ z. slice_get z branch) t.depths1 ∙ get_set_same w0.depths.items branch (suc d) t.room;
    after = λ i e. absurd cc;
    cut = λ i e. absurd cc;
    copy = λ i c e. absurd cc;
  }

  held : AreHeld w4 a (turn_lines l body p back) (turn_marks d body p back N)
  held =
      let last : to ≡ suc branch + length (map done back) = stand_end lines (suc branch) to (map done back) moves in
      let body_end : branch ≡ suc a + length (code_lines (2 + l) body) = stand_end lines (suc a) branch (code_lines (2 + l) body) stands in (
        label_held w4 a l (mark d N),
        held_append w4 (suc a) branch (code_lines (2 + l) body) (branch_zero p (suc l) ∷ (map done back ++ (jump l ∷ label (suc l) ∷ [])))
            (code_marks (suc d) body (at_branch body p back N)) (mark (suc d) N ∷ (instr_marks (suc d) back (at_label body p back N) ++ (mark d N ∷ mark d N ∷ [])))
            body_end
            (still_held w2 w4 a (suc branch) (suc a) (code_lines (2 + l) body) (code_marks (suc d) body (at_branch body p back N)) (omega arith) (omega arith) same4
            t.walked.held) (
              branch_held,
              held_append w4 (suc branch) to (map done back) (jump l ∷ label (suc l) ∷ []) (instr_marks (suc d) back (at_label body p back N)) (mark d N ∷ mark d N ∷ [])
                  last moved.held (jump_held w4 to l (mark d N), (label_held w4 (suc to) (suc l) (mark d N), tt)),
            ),
      )

  pub turn_walked : IsWalked w0 w4 a (suc (suc to)) (turn_lines l body p back) (turn_marks d body p back N) (at_label body p back N)
  turn_walked =
      let lo : suc a ≤ branch = low in
      let hi : suc branch ≤ to = high in
      record {
        here = λ x k h. moved.low x k (omega arith)
            ∙ turned_below w2.toggles w3.toggles t.turned.0 (t.entered.changes.0 ++ t.walked.keeps.0) (suc branch) to x k high turned_high turned_low (omega arith)
            ∙ at_its_label x k (omega arith);
        held = held;
        keeps = (
          t.entered.changes.0 ++ t.walked.keeps.0,
          record {
            changed = moved.changed ∙ ap (λ z. z.items) t.changed3 ∙ keeps2.changed;
            below = keeps2.below;
            now = λ x. moved.low x 0 (omega arith)
                ∙ turned_below w2.toggles w3.toggles t.turned.0 (t.entered.changes.0 ++ t.walked.keeps.0) (suc branch) to x 0 high turned_high turned_low (omega arith)
                ∙ keeps2.now x;
            need = λ x k h. moved.high x k (omega arith)
                ∙ turned_above w2.toggles w3.toggles t.turned.0 (t.entered.changes.0 ++ t.walked.keeps.0) (suc branch) to x k high turned_high turned_low (omega arith)
                ∙ keeps2.need x k (omega arith);
            size = moved.size ∙ turned_low.size ∙ turned_high.size ∙ keeps2.size;
            kept = λ x c h. moved.kept x c (turned_low.kept x c (turned_high.kept x c (keeps2.kept x c h)));
            depths = λ i h. moved.depths i (inr (omega arith)) ∙ ap (λ z. slice_get z.items i) t.depths3 ∙ keeps2.depths i (omega arith);
            copies = λ i h. moved.copies i (inr (omega arith)) ∙ ap (λ z. slice_get z.items i) t.copies3 ∙ keeps2.copies i (omega arith);
            depths_size = moved.depths_size ∙ ap (λ z. length z.items) t.depths3 ∙ keeps2.depths_size;
            copies_size = moved.copies_size ∙ ap (λ z. length z.items) t.copies3 ∙ keeps2.copies_size;
          },
        );
      }
