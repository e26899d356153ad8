-- How the walk goes on over what stands before a position.
use Rattle.std.proofs.Common.{◌≡◌, ◌≢◌, ◌<◌, ◌≤◌, ℕ, suc, ◌-◌, Bool, not, ◌&&◌, List, [], ◌∷◌, length, set, slice_get, Option, Some, sym, ap, ◌∙◌, subst, arith}
use Rattle.std.specs.Prelude.{◌==◌}
use Rattle.s_linear.specs.Linear.{Instr, move, choice, Code, Codes}
use Rattle.s_linear.specs.Lines.{Line, done, instr_names, step_lines}
use Rattle.a_place.specs.Share.{Names, needed_by, needed_by_step, at_label}
use Rattle.a_place.specs.Marks.{mark, step_marks}
use Rattle.a_share.specs.Bounds.{needed_now, AreBelow}
use Rattle.a_share.specs.Changes.{IsPassed}
use Rattle.a_share.specs.Rows.{Row, row_lines, row_marks, row_needed, turn_lines, turn_marks, end_label}
use Rattle.a_share.specs.Walking.{IsAt, IsWalked, HasRoom, RowStands, LoopStands, ChoiceStands}
use Rattle.a_share.specs.declared.walk.Before.{Before}
use Rattle.a_share.specs.declared.walk.Before.TheVariants.{Nothing, Instr as AnInstr, Label as ALabel, Loop as ALoop, Choice as AChoice}
use Rattle.a_share.specs.declared.needs.Needs.{Needs}
use Rattle.a_share.proofs.Holding.{keeps_room}
use Rattle.a_share.proofs.Passing.{instr_walked}
use Rattle.a_share.proofs.Rests.{none_kept}
use Rattle.a_share.proofs.Heads.{Left, Head, is_end, is_instr, is_label, is_loop, is_choice, kind_at, here_row, stops_later}
use Rattle.a_share.proofs.Standing.{stand_le}
use Rattle.a_share.proofs.Moving.{noted_at}

abbrev loop_label : Before → ℕ
loop_label (ALoop l) = l
loop_label _ = 0

abbrev choice_label : Before → ℕ
choice_label (AChoice l) = l
choice_label _ = 0

module _ (lines : List Line) (J : ℕ → Bool) (stop : Option ℕ) (d : ℕ) (old : Needs) (a : ℕ) (whole : Row) (b : ℕ) (N : Names) (room : HasRoom lines J old) where
  abbrev LeftAt : (w : Needs) (at : ℕ) → Type 0
  LeftAt w at = Left lines J stop d old a whole b N w at

  -- nothing is walked yet
  pub left_first : RowStands lines J stop a whole b N → IsAt old b N → LeftAt old b
  left_first s h = (whole, N, record { stands = s; here = h; keeps = ([], none_kept old b); low = omega arith; then = λ v q. q })

  head_at : (w : Needs) (at : ℕ) → LeftAt w at → Head lines J stop d old a whole b N w at (kind_at lines J stop (at - 1))
  head_at w at left =
      here_row lines J stop d old a whole b N w at left.0 left.1 (keeps_room lines J old w b left.2.keeps.0 left.2.keeps.1 room) left.2

  -- there is no more before the first line
  pub left_later : (w : Needs) (at : ℕ) → LeftAt w at → 0 < at
  left_later w at left =
      let later : 0 < a = stops_later lines J stop a left.2.stands.stops in
      let high : a ≤ at = stand_le lines a at (row_lines left.0) left.2.stands.stands in omega arith

  pub goes_nothing : (w : Needs) (at : ℕ) → LeftAt w at → kind_at lines J stop (at - 1) ≡ Nothing
      → (at ≡ a) × IsWalked old w a b (row_lines whole) (row_marks d whole N) (row_needed whole N)
  goes_nothing w at left k =
      elim (head_at w at left) [
        | is_end e s p ↦ (s, p)
        | is_instr i M m e s g h next ↦ absurd (let f : AnInstr ≡ Nothing = sym e ∙ k in cc)
        | is_label m e s next ↦ absurd (let f : ALabel ≡ Nothing = sym e ∙ k in cc)
        | is_loop l body p back M m e s h next ↦ absurd (let f : ALoop l ≡ Nothing = sym e ∙ k in cc)
        | is_choice l p cs M m e s h next ↦ absurd (let f : AChoice (end_label l cs) ≡ Nothing = sym e ∙ k in cc)
      ]

  pub goes_label : (w : Needs) (at : ℕ) → LeftAt w at → kind_at lines J stop (at - 1) ≡ ALabel → LeftAt w (at - 1)
  goes_label w at left k =
      elim (head_at w at left) [
        | is_end e s p ↦ absurd (let f : Nothing ≡ ALabel = sym e ∙ k in cc)
        | is_instr i M m e s g h next ↦ absurd (let f : AnInstr ≡ ALabel = sym e ∙ k in cc)
        | is_label m e s next ↦ (let f : m ≡ at - 1 = omega arith in subst (λ z. LeftAt w z) f next)
        | is_loop l body p back M m e s h next ↦ absurd (let f : ALoop l ≡ ALabel = sym e ∙ k in cc)
        | is_choice l p cs M m e s h next ↦ absurd (let f : AChoice (end_label l cs) ≡ ALabel = sym e ∙ k in cc)
      ]

  pub goes_instr : (w v : Needs) (at : ℕ) → LeftAt w at → kind_at lines J stop (at - 1) ≡ AnInstr
      → ((i : Instr) → slice_get lines (at - 1) ≡ Some (done i) → AreBelow (length w.toggles) (instr_names i) → IsPassed i w v (at - 1))
      → v.depths.items ≡ set w.depths.items (at - 1) d → length v.copies.items ≡ length w.copies.items
      → ((j : ℕ) → j ≢ at - 1 → slice_get v.copies.items j ≡ slice_get w.copies.items j)
      → ((t s : ℕ) → slice_get lines (at - 1) ≡ Some (done (move t s)) → at - 1 < length w.copies.items
      → slice_get v.copies.items (at - 1) ≡ Some (not (t == s) && needed_now w.toggles s)) → LeftAt v (at - 1)
  goes_instr w v at left k passed depths size others copy =
      elim (head_at w at left) [
        | is_end e s p ↦ absurd (let f : Nothing ≡ AnInstr = sym e ∙ k in cc)
        | is_instr i M m e s g h next ↦
            (let f : m ≡ at - 1 = omega arith in
            let f' : suc (at - 1) ≡ at = omega arith in
            let r = keeps_room lines J old w b left.2.keeps.0 left.2.keeps.1 room in
            let g' : slice_get lines (at - 1) ≡ Some (done i) = subst (λ z. slice_get lines z ≡ Some (done i)) f g in
            let n = noted_at lines J w v (at - 1) d i r g' passed depths size others copy in
            let p = instr_walked w v (at - 1) d i M (subst (λ z. IsAt w z M) (sym f') h) n in
            subst (λ z. LeftAt v z) f (next v (subst (λ z. IsWalked w v z at (done i ∷ []) (mark d M ∷ []) (λ x. needed_by i M x)) (sym f) (subst (λ z. IsWalked w v (at - 1) z (done i ∷ []) (mark d M ∷ []) (λ x. needed_by i M x)) f' p))))
        | is_label m e s next ↦ absurd (let f : ALabel ≡ AnInstr = sym e ∙ k in cc)
        | is_loop l body p back M m e s h next ↦ absurd (let f : ALoop l ≡ AnInstr = sym e ∙ k in cc)
        | is_choice l p cs M m e s h next ↦ absurd (let f : AChoice (end_label l cs) ≡ AnInstr = sym e ∙ k in cc)
      ]

  pub goes_loop : (w v : Needs) (at l start : ℕ) → LeftAt w at → kind_at lines J stop (at - 1) ≡ ALoop l
      → ((a p : ℕ) (body : Code) (back : List Instr) (N : Names) → HasRoom lines J w → LoopStands lines J a l body p back (suc (at - 1)) N
      → IsAt w (suc (at - 1)) N
      → (start ≡ a) × IsWalked w v a (suc (at - 1)) (turn_lines l body p back) (turn_marks d body p back N) (at_label body p back N)) → LeftAt v start
  goes_loop w v at l start left k go =
      let later : 0 < at = left_later w at left in
      let same : suc (at - 1) ≡ at = omega arith in
      let r = keeps_room lines J old w b left.2.keeps.0 left.2.keeps.1 room in
      elim (head_at w at left) [
        | is_end e s p ↦ absurd (let f : Nothing ≡ ALoop l = sym e ∙ k in cc)
        | is_instr i M m e s g h next ↦ absurd (let f : AnInstr ≡ ALoop l = sym e ∙ k in cc)
        | is_label m e s next ↦ absurd (let f : ALabel ≡ ALoop l = sym e ∙ k in cc)
        | is_loop n body p back M m e s h next ↦
            (let f : n ≡ l = ap (λ z. loop_label z) (sym e ∙ k) in
            let s' = subst (λ z. LoopStands lines J m n body p back z M) (sym same) s in
            let s'' = subst (λ z. LoopStands lines J m z body p back (suc (at - 1)) M) f s' in
            let q = go m p body back M r s'' (subst (λ z. IsAt w z M) (sym same) h) in
            let w' = subst (λ z. IsWalked w v m z (turn_lines l body p back) (turn_marks d body p back M) (at_label body p back M)) same q.1 in
            subst (λ z. LeftAt v z) (sym q.0) (next v (subst (λ z. IsWalked w v m at (turn_lines z body p back) (turn_marks d body p back M) (at_label body p back M)) (sym f) w')))
        | is_choice n p cs M m e s h next ↦ absurd (let f : AChoice (end_label n cs) ≡ ALoop l = sym e ∙ k in cc)
      ]

  pub goes_choice : (w v : Needs) (at l start : ℕ) → LeftAt w at → kind_at lines J stop (at - 1) ≡ AChoice l
      → ((a p first : ℕ) (cs : Codes) (N : Names) → HasRoom lines J w → ChoiceStands lines J a first p cs (suc (at - 1)) N → l ≡ end_label first cs
      → IsAt w (suc (at - 1)) N
      → (start ≡ a) × IsWalked w v a (suc (at - 1)) (step_lines first (choice p cs)) (step_marks d (choice p cs) N) (needed_by_step (choice p cs) N)) → LeftAt v start
  goes_choice w v at l start left k go =
      let later : 0 < at = left_later w at left in
      let same : suc (at - 1) ≡ at = omega arith in
      let r = keeps_room lines J old w b left.2.keeps.0 left.2.keeps.1 room in
      elim (head_at w at left) [
        | is_end e s p ↦ absurd (let f : Nothing ≡ AChoice l = sym e ∙ k in cc)
        | is_instr i M m e s g h next ↦ absurd (let f : AnInstr ≡ AChoice l = sym e ∙ k in cc)
        | is_label m e s next ↦ absurd (let f : ALabel ≡ AChoice l = sym e ∙ k in cc)
        | is_loop n body p back M m e s h next ↦ absurd (let f : ALoop n ≡ AChoice l = sym e ∙ k in cc)
        | is_choice n p cs M m e s h next ↦
            (let f : end_label n cs ≡ l = ap (λ z. choice_label z) (sym e ∙ k) in
            let q = go m p n cs M r (subst (λ z. ChoiceStands lines J m n p cs z M) (sym same) s) (sym f) (subst (λ z. IsAt w z M) (sym same) h) in
            let w' = subst (λ z. IsWalked w v m z (step_lines n (choice p cs)) (step_marks d (choice p cs) M) (needed_by_step (choice p cs) M)) same q.1 in
            subst (λ z. LeftAt v z) (sym q.0) (next v w'))
      ]
