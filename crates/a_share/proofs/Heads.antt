-- What stands at the end of the row that is left.
use Rattle.std.proofs.Common.{◌≡◌, ◌≢◌, ◌<◌, ◌≤◌, ℕ, zero, suc, ◌+◌, ◌-◌, Bool, true, false, ◌||◌, List, [], ◌∷◌, ◌++◌, map, slice_get, Option, Some, None, refl, sym, ap, ◌∙◌, subst, eqb-true, eq-eqb, inl, inr, arith}
use Rattle.std.specs.Prelude.{◌==◌}
use Rattle.std.proofs.lemmas.Bool.{cases_Bool}
use Rattle.s_linear.specs.Linear.{Instr, choice, Code, Codes}
use Rattle.s_linear.specs.Lines.{Line, enter, leave, done, branch_not_zero, branch_zero, branch_equal, jump, label, code_lines, step_lines}
use Rattle.a_place.specs.Share.{Names, needed_by, needed_by_step, at_label}
use Rattle.a_place.specs.Marks.{Mark, mark, step_marks}
use Rattle.a_share.specs.Rows.{StandAt, Row, no_row, then_instr, then_label, then_loop, then_choice, then_same, row_lines, row_marks, row_needed, RowFits, turn_lines, turn_marks, end_label}
use Rattle.a_share.specs.Walking.{IsAt, IsHeldAt, KeepsFrom, IsWalked, HasRoom, Stops, at_line, at_its_label, at_a_label, LoopStands, ChoiceStands, is_stop, jump_of, line_before, before_of}
use Rattle.a_share.specs.declared.walk.Before.{Before}
use Rattle.a_share.specs.declared.walk.Before.TheVariants.{Nothing, Instr as AnInstr, Label as ALabel, Loop as ALoop, Choice as AChoice}
use Rattle.a_share.specs.declared.needs.Needs.{Needs}
use Rattle.a_share.proofs.Standing.{stand_split, stand_end, stand_le, stand_last}
use Rattle.a_share.proofs.Holding.{keeps_more}
use Rattle.a_share.proofs.Rests.{none_kept, walked_more, IsLeft}
use Rattle.a_share.proofs.Ends.{IsNoJump, IsEnded, choice_ended, before_end, row_no_jump}

module _ (lines : List Line) (J : ℕ → Bool) (stop : Option ℕ) (d : ℕ) (old : Needs) (a : ℕ) (whole : Row) (b : ℕ) (N : Names) where
  abbrev pub Left : (w : Needs) (at : ℕ) → Type 0
  Left w at = (r : Row) × (M : Names) × IsLeft lines J stop d old a whole b N w at r M

  -- the last lines of a row are walked
  pub further : (w v : Needs) (at m : ℕ) (r : Row) (M : Names) (ks : List Line) (ns : List Mark) → StandAt lines a (row_lines r) m → StandAt lines m ks at
      → Stops lines stop a → RowFits J stop r M → KeepsFrom old w b → at ≤ b
      → ((u : Needs) → IsWalked w u a at (row_lines r ++ ks) (row_marks d r M ++ ns) (row_needed r M)
      → IsWalked old u a b (row_lines whole) (row_marks d whole N) (row_needed whole N))
      → IsWalked w v m at ks ns M → Left v m
  further w v at m r M ks ns s t e f k l then p =
      let short : m ≤ at = stand_le lines m at ks t in (
        r,
        M,
        record {
          stands = record { stands = s; stops = e; fits = f };
          here = p.here;
          keeps = (k.0 ++ p.keeps.0, keeps_more old w v b at k.0 p.keeps.0 l k.1 p.keeps.1);
          low = omega arith;
          then = λ u q. then u (walked_more lines w v u a m at (row_lines r) ks (row_marks d r M) ns (row_needed r M) M s short p q (stand_end lines m at ks t));
        },
      )

  -- what stands before `at`, and how the walk goes on over it
  pub data Head (w : Needs) (at : ℕ) (kind : Before) : Type 0 where
    is_end : kind ≡ Nothing → at ≡ a → IsWalked old w a b (row_lines whole) (row_marks d whole N) (row_needed whole N) → Head w at kind
    is_instr : (i : Instr) (M : Names) (m : ℕ) → kind ≡ AnInstr → at ≡ suc m → slice_get lines m ≡ Some (done i) → IsAt w at M
        → ((v : Needs) → IsWalked w v m at (done i ∷ []) (mark d M ∷ []) (λ x. needed_by i M x) → Left v m) → Head w at kind
    is_label : (m : ℕ) → kind ≡ ALabel → at ≡ suc m → Left w m → Head w at kind
    is_loop : (l : ℕ) (body : Code) (p : ℕ) (back : List Instr) (M : Names) (m : ℕ) → kind ≡ ALoop l → LoopStands lines J m l body p back at M → IsAt w at M
        → ((v : Needs) → IsWalked w v m at (turn_lines l body p back) (turn_marks d body p back M) (at_label body p back M) → Left v m) → Head w at kind
    is_choice : (l p : ℕ) (cs : Codes) (M : Names) (m : ℕ) → kind ≡ AChoice (end_label l cs) → ChoiceStands lines J m l p cs at M → IsAt w at M
        → ((v : Needs) → IsWalked w v m at (step_lines l (choice p cs)) (step_marks d (choice p cs) M) (λ x. needed_by_step (choice p cs) M x) → Left v m)
        → Head w at kind

-- Nothing is found at a label.
pub label_held : (w : Needs) (a n : ℕ) (m : Mark) → IsHeldAt w a (label n) m
label_held w a n m = record {
  depth = λ h. absurd (h refl);
  after = λ i e. absurd cc;
  cut = λ i e. absurd cc;
  copy = λ t c e. absurd cc;
}

pub jump_held : (w : Needs) (a n : ℕ) (m : Mark) → IsHeldAt w a (jump n) m
jump_held w a n m = record {
  depth = λ h. absurd (h refl);
  after = λ i e. absurd cc;
  cut = λ i e. absurd cc;
  copy = λ t c e. absurd cc;
}

no_stop : (stop : Option ℕ) (n : ℕ) → stop ≢ Some n → is_stop stop n ≡ false
no_stop None n h = refl
no_stop (Some s) n h =
    elim (cases_Bool (s == n)) [
      | inl same ↦ absurd (h (ap Some (eqb-true s n same)))
      | inr other ↦ other
    ]

its_stop : (stop : Option ℕ) (n : ℕ) → stop ≡ Some n → is_stop stop n ≡ true
its_stop stop n h = rw h (eq-eqb n n refl)

module _ (lines : List Line) (J : ℕ → Bool) (stop : Option ℕ) where
  abbrev pub kind_at : (position : ℕ) → Before
  kind_at z = before_of J stop (slice_get lines z) (jump_of (line_before lines z))

  kind_line : (l : Line) (j : Option ℕ) → ((i : Instr) → l ≢ done i) → ((n : ℕ) → l ≢ label n) → before_of J stop (Some l) j ≡ Nothing
  kind_line (enter xs) j h k = refl
  kind_line (leave x) j h k = refl
  kind_line (done i) j h k = absurd (h i refl)
  kind_line (branch_not_zero p n) j h k = refl
  kind_line (branch_zero p n) j h k = refl
  kind_line (branch_equal p r n) j h k = refl
  kind_line (jump n) j h k = refl
  kind_line (label n) j h k = absurd (k n refl)

  kind_stop : (n s : ℕ) → is_stop stop s ≡ true → before_of J stop (Some (label n)) (Some s) ≡ Nothing
  kind_stop n s e =
      elim (cases_Bool (is_stop stop n)) [
        | inl here ↦ rw here refl
        | inr other ↦ rw (other, e) refl
      ]

  stops_kind : (c : ℕ) → Stops lines stop (suc c) → kind_at c ≡ Nothing
  stops_kind c (at_line l e i n j) = ap (λ z. before_of J stop z (jump_of (line_before lines c))) e ∙ kind_line l (jump_of (line_before lines c)) i n
  stops_kind c (at_its_label n e s) =
      ap (λ z. before_of J stop z (jump_of (line_before lines c))) e
      ∙ (let t : is_stop stop n ≡ true = its_stop stop n s in rw t refl)
  stops_kind c (at_a_label n s e f g) =
      let before : line_before lines c ≡ Some (jump s) = ap (λ z. line_before lines z) (let t : c ≡ suc c - 1 = omega arith in t) ∙ f in
      ap (λ z. before_of J stop z (jump_of (line_before lines c))) e ∙ ap (λ z. before_of J stop (Some (label n)) (jump_of z)) before
      ∙ kind_stop n s (its_stop stop s g)

  pub stops_later : (c : ℕ) → Stops lines stop c → 0 < c
  stops_later zero (at_line l e i n j) = absurd cc
  stops_later zero (at_its_label n e s) = absurd cc
  stops_later zero (at_a_label n s e f g) = absurd cc
  stops_later (suc c) s = omega arith

  kind_label : (m l : ℕ) → slice_get lines m ≡ Some (label l) → IsNoJump (line_before lines m) → is_stop stop l ≡ false → J l ≡ false → kind_at m ≡ ALabel
  kind_label m l e n s j = ap (λ z. before_of J stop z (jump_of (line_before lines m))) e ∙ ap (λ z. before_of J stop (Some (label l)) z) n ∙ rw (s, j) refl

  kind_choice : (m l : ℕ) → slice_get lines m ≡ Some (label l) → IsNoJump (line_before lines m) → is_stop stop l ≡ false → J l ≡ true → kind_at m ≡ AChoice l
  kind_choice m l e n s j = ap (λ z. before_of J stop z (jump_of (line_before lines m))) e ∙ ap (λ z. before_of J stop (Some (label l)) z) n ∙ rw (s, j) refl

  kind_loop : (m n l : ℕ) → slice_get lines (suc m) ≡ Some (label n) → slice_get lines m ≡ Some (jump l) → is_stop stop n ≡ false → is_stop stop l ≡ false
      → kind_at (suc m) ≡ ALoop l
  kind_loop m n l e f s t =
      ap (λ z. before_of J stop z (jump_of (slice_get lines m))) e ∙ ap (λ z. before_of J stop (Some (label n)) (jump_of z)) f ∙ rw (s, t) refl

module _ (lines : List Line) (J : ℕ → Bool) (stop : Option ℕ) (d : ℕ) (old : Needs) (a : ℕ) (whole : Row) (b : ℕ) (N : Names) where
  abbrev At : (w : Needs) (at : ℕ) → Row → Names → Type 0
  At w at r M = IsLeft lines J stop d old a whole b N w at r M

  abbrev HeadAt : (w : Needs) (at : ℕ) → Type 0
  HeadAt w at = Head lines J stop d old a whole b N w at (kind_at lines J stop (at - 1))

  here_end : (w : Needs) (at : ℕ) (M : Names) → At w at no_row M → HeadAt w at
  here_end w at M left =
      let same : a ≡ at = left.stands.stands in
      let later : 0 < a = stops_later lines J stop a left.stands.stops in
      let c = at - 1 in
      let next : a ≡ suc c = omega arith in
      is_end (stops_kind lines J stop c (subst (λ z. Stops lines stop z) next left.stands.stops)) (sym same)
      (left.then w (record { here = λ x k h. left.here x k (omega arith); held = tt; keeps = ([], none_kept w at) }))

  here_instr : (w : Needs) (at : ℕ) (r : Row) (i : Instr) (M : Names) → At w at (then_instr r i) M → HeadAt w at
  here_instr w at r i M left =
      let s = stand_last lines a at (row_lines r) (done i) left.stands.stands in
      let m = s.0 in
      let e : at ≡ suc m = s.3 in
      let g : slice_get lines m ≡ Some (done i) = s.2 in
      let before : at - 1 ≡ m = omega arith in
      is_instr i M m (ap (λ z. kind_at lines J stop z) before ∙ ap (λ z. before_of J stop z (jump_of (line_before lines m))) g) e g left.here
      (λ v p. further lines J stop d old a whole b N w v at m r (λ x. needed_by i M x) (done i ∷ []) (mark d M ∷ []) s.1 (g, sym e) left.stands.stops
      left.stands.fits left.keeps left.low left.then p)

  here_label : (w : Needs) (at : ℕ) (r : Row) (l : ℕ) (M : Names) → At w at (then_label r l) M → HeadAt w at
  here_label w at r l M left =
      let s = stand_last lines a at (row_lines r) (label l) left.stands.stands in
      let m = s.0 in
      let e : at ≡ suc m = s.3 in
      let g : slice_get lines m ≡ Some (label l) = s.2 in
      let before : at - 1 ≡ m = omega arith in
      let fits = left.stands.fits in
      is_label m
      (ap (λ z. kind_at lines J stop z) before
      ∙ kind_label lines J stop m l g (row_no_jump lines stop a m r left.stands.stops s.1) (no_stop stop l fits.1) fits.0)
      e
      (further lines J stop d old a whole b N w w at m r M (label l ∷ []) (mark d M ∷ []) s.1 (g, sym e) left.stands.stops fits.2 left.keeps left.low left.then
      (record {
        here = λ x k h. left.here x k (omega arith);
        held = (label_held w m l (mark d M), tt);
        keeps = ([], none_kept w at);
      }))

  here_loop : (w : Needs) (at : ℕ) (r : Row) (l : ℕ) (body : Code) (p : ℕ) (back : List Instr) (M : Names) → At w at (then_loop r l body p back) M → HeadAt w at
  here_loop w at r l body p back M left =
      let s = stand_split lines a at (row_lines r) (turn_lines l body p back) left.stands.stands in
      let m = s.0 in
      let t : StandAt lines m (turn_lines l body p back) at = s.2 in
      let u = stand_split lines (suc m) at (code_lines (2 + l) body) (branch_zero p (suc l) ∷ (map done back ++ (jump l ∷ label (suc l) ∷ []))) t.1 in
      let v = stand_split lines (suc u.0) at (map done back) (jump l ∷ label (suc l) ∷ []) u.2.1 in
      let q = v.0 in
      let e : suc (suc q) ≡ at = v.2.1.1 in
      let before : at - 1 ≡ suc q = omega arith in
      let fits = left.stands.fits in
      is_loop l body p back M m
      (ap (λ z. kind_at lines J stop z) before
      ∙ kind_loop lines J stop q (suc l) l v.2.1.0 v.2.0 (no_stop stop (suc l) fits.1) (no_stop stop l fits.0))
      (record { stands = t; own = fits.2; body_own = fits.3; unjumped = fits.4 }) left.here
      (λ n walked. further lines J stop d old a whole b N w n at m r (at_label body p back M) (turn_lines l body p back) (turn_marks d body p back M) s.1 t
      left.stands.stops fits.5 left.keeps left.low left.then walked)

  here_choice : (w : Needs) (at : ℕ) (r : Row) (l p : ℕ) (cs : Codes) (M : Names) → HasRoom lines J w → At w at (then_choice r l p cs) M → HeadAt w at
  here_choice w at r l p cs M room left =
      let s = stand_split lines a at (row_lines r) (step_lines l (choice p cs)) left.stands.stands in
      let m = s.0 in
      let t : StandAt lines m (step_lines l (choice p cs)) at = s.2 in
      let fits = left.stands.fits in
      let ended : IsEnded (step_lines l (choice p cs)) (end_label l cs) = choice_ended p l cs fits.0 in
      let u = stand_last lines m at ended.lines (label (end_label l cs)) (subst (λ z. StandAt lines m z at) ended.whole t) in
      let q = u.0 in
      let e : at ≡ suc q = u.3 in
      let before : at - 1 ≡ q = omega arith in
      let v = stand_split lines m at ended.before (jump (end_label l cs) ∷ ended.after) (subst (λ z. StandAt lines m z at) ended.jumps t) in
      is_choice l p cs M m
      (ap (λ z. kind_at lines J stop z) before
      ∙ kind_choice lines J stop q (end_label l cs) u.2
      (ap jump_of (before_end lines m q ended.lines u.1) ∙ ended.well (line_before lines m) (row_no_jump lines stop a m r left.stands.stops s.1))
      (no_stop stop (end_label l cs) fits.1) (room.jumps v.0 (end_label l cs) v.2.0))
      (record { stands = t; two = fits.0; own = fits.2; unjumped = fits.3 }) left.here
      (λ n walked. further lines J stop d old a whole b N w n at m r (λ x. needed_by_step (choice p cs) M x) (step_lines l (choice p cs)) (step_marks d (choice p cs) M)
      s.1 t left.stands.stops fits.4 left.keeps left.low left.then walked)

  pub here_row : (w : Needs) (at : ℕ) (r : Row) (M : Names) → HasRoom lines J w → At w at r M → HeadAt w at
  here_row w at no_row M room left = here_end w at M left
  here_row w at (then_instr r i) M room left = here_instr w at r i M left
  here_row w at (then_label r l) M room left = here_label w at r l M left
  here_row w at (then_loop r l body p back) M room left = here_loop w at r l body p back M left
  here_row w at (then_choice r l p cs) M room left = here_choice w at r l p cs M room left
  here_row w at (then_same r) M room left =
      here_row w at r (λ x. M x || false) room (record {
        stands = record { stands = left.stands.stands; stops = left.stands.stops; fits = left.stands.fits };
        here = λ x k h. left.here x k h ∙ sym (or_no (M x));
        keeps = left.keeps;
        low = left.low;
        then = left.then;
      })
    where
      or_no : (t : Bool) → (t || false) ≡ t
      or_no true = refl
      or_no false = refl
