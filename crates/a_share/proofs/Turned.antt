-- The walk over a loop, as the code does it.
use Rattle.std.proofs.Common.{◌≡◌, ◌≢◌, ◌<◌, ◌≤◌, ℕ, zero, suc, ◌+◌, ◌-◌, Bool, true, false, List, [], ◌∷◌, ◌++◌, map, length, drop, set, slice_get, Some, refl, sym, ap, ◌∙◌, subst, add-one, append_assoc, length-set, eqb-true, eq-eqb, inl, inr, arith}
use Rattle.std.specs.Prelude.{IsTrue, ◌==◌, ◌||◌}
use Rattle.std.proofs.lemmas.Bool.{cases_Bool}
use Rattle.g_graph.specs.WellFormed.{all_of}
use Rattle.s_linear.specs.Linear.{Instr, Code}
use Rattle.s_linear.specs.Lines.{Line, done, jump, label, branch_zero, names_below, code_labels, code_lines}
use Rattle.a_place.specs.Share.{Names, needed_by_instrs, needed_by_code, at_label, at_branch}
use Rattle.a_place.specs.Marks.{code_marks}
use Rattle.a_share.specs.Bounds.{need_at, needed_now, AreBelow}
use Rattle.a_share.specs.Changes.{HasChanged, AreTurnedOver, IsEntered}
use Rattle.a_share.specs.Rows.{StandAt, Row, no_row, row_code, row_lines, row_marks, row_needed, turn_lines, turn_marks}
use Rattle.a_share.specs.Walking.{IsAt, Keeps, IsWalked, HasRoom, Stops, at_its_label, RowStands, LoopStands, AreMovedBack, is_done, line_before}
use Rattle.a_share.specs.declared.needs.Needs.{Needs}
use Rattle.a_share.proofs.Gets.{get_set_other, drop_added}
use Rattle.a_share.proofs.Toggling.{below_append}
use Rattle.a_share.proofs.Standing.{stand_split, stand_le}
use Rattle.a_share.proofs.Holding.{keeps_room}
use Rattle.a_share.proofs.Needing.{instrs_alike, moves_alike}
use Rattle.a_share.proofs.Passing.{all_alike, keeps_after}
use Rattle.a_share.proofs.Rowed.{lines_code, fits_code, beyond}
use Rattle.a_share.proofs.Choosing.{row_walked}
use Rattle.a_share.proofs.Moving.{get_within}
use Rattle.a_share.proofs.Turning.{AreTurned, turn_walked}

pub stand_done : (lines : List Line) (a b k : ℕ) (is : List Instr) → StandAt lines a (map done is) b → a ≤ k → k < b → is_done (slice_get lines k) ≡ true
stand_done lines a b k [] s l h = absurd (let e : a ≡ b = s in omega arith)
stand_done lines a b k (i ∷ is) s l h =
    elim (cases_Bool (a == k)) [
      | inl same ↦ subst (λ z. is_done (slice_get lines z) ≡ true) (eqb-true a k same) (ap is_done s.0)
      | inr other ↦ stand_done lines (suc a) b k is s.1 (let n : a ≢ k = λ e. absurd (let f : (a == k) ≡ true = eq-eqb a k e in cc) in omega arith) h
    ]

-- where instructions begin that end before a position
pub start_is : (lines : List Line) (back to from : ℕ) (is : List Instr) → StandAt lines (suc back) (map done is) to → is_done (slice_get lines back) ≡ false
    → from ≤ to → ((k : ℕ) → from ≤ k → k < to → is_done (slice_get lines k) ≡ true) → is_done (line_before lines from) ≡ false → from ≡ suc back
start_is lines back to from is s h high within before = by_order (from - suc back) (suc back - from) refl refl
  where
    by_order : (m n : ℕ) → from - suc back ≡ m → suc back - from ≡ n → from ≡ suc back
    by_order zero zero e f = omega arith
    by_order zero (suc n) e f =
        let low : suc back ≤ to = stand_le lines (suc back) to (map done is) s in
        absurd (let t = sym h ∙ within back (omega arith) (omega arith) in cc)
    by_order (suc m) n e f = absurd (let t = sym (later from refl) ∙ before in cc)
      where
        later : (g : ℕ) → g ≡ from → is_done (line_before lines g) ≡ true
        later zero q = absurd (omega arith)
        later (suc g) q = stand_done lines (suc back) to g is s (omega arith) (omega arith)

-- where the parts of a loop stand
pub record HasParts (lines : List Line) (a l : ℕ) (body : Code) (p : ℕ) (back : List Instr) (end : ℕ) : Type 0 where
  pub branch : ℕ
  pub to : ℕ
  pub code : StandAt lines (suc a) (code_lines (2 + l) body) branch
  pub test : slice_get lines branch ≡ Some (branch_zero p (suc l))
  pub moves : StandAt lines (suc branch) (map done back) to
  pub ends : end ≡ suc to
  pub begins : slice_get lines a ≡ Some (label l)

pub parts_of : (lines : List Line) (a l : ℕ) (body : Code) (p : ℕ) (back : List Instr) (end : ℕ) → StandAt lines a (turn_lines l body p back) (suc end)
    → HasParts lines a l body p back end
parts_of lines a l body p back end s =
    let u = stand_split lines (suc a) (suc end) (code_lines (2 + l) body) (branch_zero p (suc l) ∷ (map done back ++ (jump l ∷ label (suc l) ∷ []))) s.1 in
    let v = stand_split lines (suc u.0) (suc end) (map done back) (jump l ∷ label (suc l) ∷ []) u.2.1 in
    let e : suc (suc v.0) ≡ suc end = v.2.1.1 in
    record { branch = u.0; to = v.0; code = u.1; test = u.2.0; moves = v.1; ends = omega arith; begins = s.0 }

since_below : (w0 w1 w2 : Needs) (b c : ℕ) (xs ys : List ℕ) → HasChanged w0 w1 xs b → Keeps w1 w2 c ys
    → AreBelow (length w2.toggles) (drop (length w0.changed.items) w2.changed.items)
since_below w0 w1 w2 b c xs ys h k =
    let size : length w1.toggles ≡ length w0.toggles = h.toggled.size in
    let all = below_append (length w0.toggles) xs ys h.below (subst (λ n. AreBelow n ys) size k.below) in
    let changed : w2.changed.items ≡ w0.changed.items ++ (xs ++ ys) = k.changed ∙ ap (λ z. z ++ ys) h.changed ∙ append_assoc w0.changed.items xs ys in
    subst (λ z. AreBelow (length w2.toggles) z) (sym (drop_added w0.changed.items (xs ++ ys) w2.changed.items changed))
    (subst (λ n. AreBelow n (xs ++ ys)) (sym (k.size ∙ size)) all)

-- what the code does at a loop
module _ (lines : List Line) (J : ℕ → Bool) (d l : ℕ) (body : Code) (p : ℕ) (back : List Instr) (N : Names) (a end : ℕ) (w0 w1 w2 w3 w4 : Needs)
    (start to from branch : ℕ) (room : HasRoom lines J w0) (s : LoopStands lines J a l body p back (suc end) N) (here : IsAt w0 (suc end) N) where
  pub turned_all : (ej : to ≡ end - 1) (eb : branch ≡ from - 1) → from ≤ to → ((k : ℕ) → from ≤ k → k < to → is_done (slice_get lines k) ≡ true)
      → is_done (line_before lines from) ≡ false
      → ((q n : ℕ) (is : List Instr) → slice_get lines (from - 1) ≡ Some (branch_zero q n) → StandAt lines from (map done is) to
      → IsTrue (all_of (names_below (length w0.toggles)) lines) → IsEntered q is w0 w1 (from - 1))
      → w1.depths.items ≡ set w0.depths.items (from - 1) (d + 1) → w1.copies ≡ w0.copies
      → ((c : ℕ) (r : Row) (M : Names) → HasRoom lines J w1 → RowStands lines J (Some l) c r branch M → IsAt w1 branch M
      → (start ≡ c) × IsWalked w1 w2 c branch (row_lines r) (row_marks (d + 1) r M) (row_needed r M))
      → (AreBelow (length w2.toggles) (drop (length w0.changed.items) w2.changed.items)
      → AreTurnedOver w2.toggles w3.toggles (drop (length w0.changed.items) w2.changed.items) from to)
      → w3.changed ≡ w2.changed → w3.depths ≡ w2.depths → w3.copies ≡ w2.copies
      → ((K : ℕ → Bool) (is : List Instr) (L : Names) → StandAt lines from (map done is) to → HasRoom lines K w3
      → ((x k : ℕ) → from < k → k ≤ to → need_at w3.toggles x k ≡ L x) → ((x : ℕ) → needed_now w3.toggles x ≡ L x)
      → AreMovedBack (d + 1) is L w3 w4 from to)
      → (start - 1 ≡ a) × IsWalked w0 w4 a (suc end) (turn_lines l body p back) (turn_marks d body p back N) (at_label body p back N)
  turned_all ej eb high within before entered depths1 copies1 walked turned changed3 depths3 copies3 moved =
      let parts : HasParts lines a l body p back end = parts_of lines a l body p back end s.stands in
      let br = parts.branch in
      let ends : end ≡ suc parts.to = parts.ends in
      let same_to : to ≡ parts.to = omega arith in
      let moves : StandAt lines (suc br) (map done back) to = subst (λ z. StandAt lines (suc br) (map done back) z) (sym same_to) parts.moves in
      let first : from ≡ suc br = start_is lines br to from back moves (ap is_done parts.test) high within before in
      let at_branch' : from - 1 ≡ br = omega arith in
      let same_br : branch ≡ br = omega arith in
      let next : d + 1 ≡ suc d = add-one d in
      let moves' : StandAt lines from (map done back) to = subst (λ z. StandAt lines z (map done back) to) (sym first) moves in
      let ent : IsEntered p back w0 w1 br =
      subst (λ z. IsEntered p back w0 w1 z) at_branch'
      (entered p (suc l) back (subst (λ z. slice_get lines z ≡ Some (branch_zero p (suc l))) (sym at_branch') parts.test) moves' room.names) in
      let dep1 : w1.depths.items ≡ set w0.depths.items br (suc d) = depths1 ∙ ap (λ z. set w0.depths.items z (d + 1)) at_branch' ∙ ap (λ z. set w0.depths.items br z) next in
      let within_lines : br < length lines = get_within lines br (branch_zero p (suc l)) parts.test in
      let wide : length w0.depths.items ≡ length lines = room.depths in
      let names1 = ent.changes.0 in
      let change1 : HasChanged w0 w1 names1 br = ent.changes.1 in
      let keep1 : Keeps w0 w1 (suc br) names1 =
      keeps_after w0 w1 br (suc br) names1 (omega arith) change1
      (λ i h. ap (λ z. slice_get z i) dep1 ∙ get_set_other w0.depths.items br i (suc d) (λ e. absurd (omega arith)))
      (λ i h. ap (λ z. slice_get z.items i) copies1) (ap length dep1 ∙ length-set w0.depths.items br (suc d)) (ap (λ z. length z.items) copies1) in
      let room1 = keeps_room lines J w0 w1 (suc br) names1 keep1 room in
      let low : br ≤ suc end = (let t : suc br ≤ to = stand_le lines (suc br) to (map done back) moves in omega arith) in
      let here1 : IsAt w1 br (at_branch body p back N) = λ x k h.
      all_alike w0 w1 (suc end) br N names1 low here change1.toggled x k h ∙ ent.now x
      ∙ ap (λ z. (p == x) || z) (ap (λ z. z || needed_by_instrs back (needed_now w0.toggles) x) (here x 0 (omega arith))
      ∙ ap (λ z. N x || z) (instrs_alike back (needed_now w0.toggles) N (λ y. here y 0 (omega arith)) x)
      ∙ moves_alike (at_label body p back N) N back s.own x) in
      let stop : Stops lines (Some l) (suc a) = at_its_label l parts.begins refl in
      let row : RowStands lines J (Some l) (suc a) (row_code (2 + l) body no_row) branch (at_branch body p back N) = record {
        stands = subst (λ z. StandAt lines (suc a) z branch) (sym (lines_code (2 + l) body no_row)) (subst (λ z. StandAt lines (suc a) (code_lines (2 + l) body) z) (sym same_br) parts.code);
        stops = stop;
        fits = fits_code J (Some l) (2 + l) body no_row (at_branch body p back N) s.body_own s.unjumped (beyond l (2 + l) (2 + l + code_labels body) (omega arith)) tt;
      } in
      let went = walked (suc a) (row_code (2 + l) body no_row) (at_branch body p back N) room1 row (subst (λ z. IsAt w1 z (at_branch body p back N)) (sym same_br) here1) in
      let went2 = row_walked w1 w2 (suc a) branch (d + 1) (2 + l) body (at_branch body p back N) went.1 in
      let went3 = subst (λ z. IsWalked w1 w2 (suc a) z (code_lines (2 + l) body) (code_marks (d + 1) body (at_branch body p back N)) (λ x. needed_by_code body (at_branch body p back N) x)) same_br went2 in
      let went4 = subst (λ z. IsWalked w1 w2 (suc a) br (code_lines (2 + l) body) (code_marks z body (at_branch body p back N)) (λ x. needed_by_code body (at_branch body p back N) x)) next went3 in
      let below = since_below w0 w1 w2 br br names1 went4.keeps.0 change1 went4.keeps.1 in
      let over = subst (λ z. AreTurnedOver w2.toggles w3.toggles (drop (length w0.changed.items) w2.changed.items) z to) first (turned below) in
      let room2 = keeps_room lines J w1 w2 br went4.keeps.0 went4.keeps.1 room1 in
      let room3 : HasRoom lines J w3 = record {
        names = rw (over.2.size ∙ over.1.size) room2.names;
        jumps = room2.jumps;
        depths = ap (λ z. length z.items) depths3 ∙ room2.depths;
        copies = ap (λ z. length z.items) copies3 ∙ room2.copies;
      } in
      let facts : AreTurned d l body p back N a br to w0 w1 w2 w3 w4 = record {
        before = λ x k h. here x k (omega arith);
        entered = ent;
        depths1 = dep1;
        copies1 = copies1;
        room = omega arith;
        walked = went4;
        turned = over;
        changed3 = changed3;
        depths3 = depths3;
        copies3 = copies3;
        moved = λ between now.
            (let m = moved J back (at_label body p back N) moves' room3 (λ x k h g. between x k (omega arith) g) now in
            subst (λ z. AreMovedBack z back (at_label body p back N) w3 w4 (suc br) to) next
            (subst (λ z. AreMovedBack (d + 1) back (at_label body p back N) w3 w4 z to) first m));
      } in
      let done' = turn_walked d l body p back N a br to w0 w1 w2 w3 w4 lines parts.code moves s.own facts in
      let begin : start ≡ suc a = went.0 in
      let whole : suc to ≡ end = omega arith in
      (omega arith, subst (λ z. IsWalked w0 w4 a (suc z) (turn_lines l body p back) (turn_marks d body p back N) (at_label body p back N)) whole done')
