-- The walk over all lines of a function.
use Rattle.std.proofs.Common.{◌≡◌, ◌<◌, ℕ, zero, suc, ◌+◌, ◌-◌, Bool, true, false, if◌then◌else◌, List, [], ◌∷◌, ◌++◌, length, drop, set, replicate, slice_get, Some, None, refl, sym, ap, ◌∙◌, subst, eq-eqb, inl, inr, arith}
use Rattle.std.specs.Prelude.{◌==◌, nat_le, IsTrue}
use Rattle.std.proofs.lemmas.List.{length-replicate}
use Rattle.std.proofs.lemmas.Bool.{cases_Bool}
use Rattle.g_graph.specs.WellFormed.{some_of}
use Rattle.val_core.specs.Numbers.{numbers_from}
use Rattle.s_linear.specs.Lines.{Line, enter, leave, jump, code_labels, code_lines}
use Rattle.a_place.specs.Share.{Names, needed_by_code}
use Rattle.a_place.specs.Marks.{Mark, mark, code_marks}
use Rattle.a_share.specs.Bounds.{differ, odd_of, need_at, needed_now, has_bound, is_odd_in, AreBelow, AreToggled}
use Rattle.a_share.specs.Changes.{ChangesAt}
use Rattle.a_share.specs.Rows.{StandAt, Row, no_row, row_code, row_lines, row_marks, row_needed, CodeIsUnjumped}
use Rattle.a_share.specs.Walking.{IsAt, IsHeldAt, AreHeld, IsWalked, HasRoom, at_line, RowStands, is_jump_to, FindsAll}
use Rattle.a_share.specs.declared.needs.Needs.{Needs}
use Rattle.a_share.proofs.Gets.{get_set_same, get_set_other}
use Rattle.a_share.proofs.Parity.{differ_same, odd_append}
use Rattle.a_share.proofs.Toggling.{toggled_now, below_append}
use Rattle.a_share.proofs.Standing.{stand_split, stand_end, stand_whole, line_or}
use Rattle.a_share.proofs.Holding.{still_held, held_append}
use Rattle.a_share.proofs.Passing.{all_alike, above_same}
use Rattle.a_share.proofs.Rowed.{lines_code, fits_code, StopsBeyond}
use Rattle.a_share.proofs.Choosing.{row_walked}
use Rattle.a_share.proofs.Moving.{names_at}
use Rattle.a_share.proofs.Joining.{predicate_below}
use Rattle.a_share.proofs.Unjumped.{jumps, function_unjumped}

jump_there : (l : ℕ) (ls : List Line) (i : ℕ) → slice_get ls i ≡ Some (jump l) → some_of (is_jump_to l) ls ≡ true
jump_there l [] i e = absurd cc
jump_there l (m ∷ ls) zero e =
    let same : m ≡ jump l = ap (line_or m) e in
    rw (same, eq-eqb l l refl) refl
jump_there l (m ∷ ls) (suc i) e =
    elim (cases_Bool (is_jump_to l m)) [
      | inl here ↦ rw here refl
      | inr other ↦ rw other (jump_there l ls i e)
    ]

abbrev zeros : ℕ → List ℕ
zeros n = replicate n 0

zero_there : (n i : ℕ) → i < n → slice_get (zeros n) i ≡ Some 0
zero_there zero i h = absurd (omega arith)
zero_there (suc n) zero h = refl
zero_there (suc n) (suc i) h = zero_there n i (omega arith)

enter_held : (w : Needs) (xs : List ℕ) (m : Mark) → slice_get w.depths.items 0 ≡ Some m.depth → IsHeldAt w 0 (enter xs) m
enter_held w xs m h = record {
  depth = λ e. h;
  after = λ i e. absurd cc;
  cut = λ i e. absurd cc;
  copy = λ t c e. absurd cc;
}

leave_held : (w : Needs) (a v : ℕ) (m : Mark) → slice_get w.depths.items a ≡ Some m.depth → IsHeldAt w a (leave v) m
leave_held w a v m h = record {
  depth = λ e. h;
  after = λ i e. absurd cc;
  cut = λ i e. absurd cc;
  copy = λ t c e. absurd cc;
}

no_stop_at : (l m : ℕ) → StopsBeyond None l m
no_stop_at l m n x y q = absurd cc

pub all_found : (ls : List Line) (J : ℕ → Bool) (value end start : ℕ) (w0 w1 w2 w3 w4 : Needs) → end ≡ length ls - 1
    → ((n : ℕ) → J n ≡ some_of (is_jump_to n) ls) → (value < length w0.toggles → ChangesAt w0 w1 end)
    → (value < length w0.toggles → (x : ℕ) → needed_now w1.toggles x ≡ (if value == x then true else needed_now w0.toggles x)) → w1.depths ≡ w0.depths → w1.copies ≡ w0.copies
    → ((a : ℕ) (r : Row) (N : Names) → HasRoom ls J w1 → RowStands ls J None a r end N → IsAt w1 end N
    → (start ≡ a) × IsWalked w1 w2 a end (row_lines r) (row_marks 0 r N) (row_needed r N))
    → (AreBelow (length w2.toggles) (drop 0 w2.changed.items) → AreToggled w2.toggles w3.toggles (drop 0 w2.changed.items) 0) → w3.depths ≡ w2.depths → w3.copies ≡ w2.copies
    → w4.toggles ≡ w3.toggles → w4.depths.items ≡ set w3.depths.items 0 0 → w4.copies ≡ w3.copies → FindsAll ls value w0 w4
all_found ls J value end start w0 w1 w2 w3 w4 ee jumped change now d1 c1 walked restored d3 c3 t4 d4 c4 f same own same_value fresh =
    let V : Names = λ x. f.value == x in
    let code = code_lines 0 f.code in
    let whole : StandAt ls 0 (enter (numbers_from 0 f.params) ∷ (code_lines 0 f.code ++ (leave f.value ∷ []))) (length ls) =
    subst (λ z. StandAt ls 0 z (length ls)) (sym same) (stand_whole ls) in
    let parts = stand_split ls 1 (length ls) code (leave f.value ∷ []) whole.1 in
    let last : suc parts.0 ≡ length ls = parts.2.1 in
    let at_end : parts.0 ≡ end = omega arith in
    let body : StandAt ls 1 (code_lines 0 f.code) end = subst (λ z. StandAt ls 1 (code_lines 0 f.code) z) at_end parts.1 in
    let leaves : slice_get ls end ≡ Some (leave f.value) = subst (λ z. slice_get ls z ≡ Some (leave f.value)) at_end parts.2.0 in
    let long : end ≡ 1 + length (code_lines 0 f.code) = stand_end ls 1 end (code_lines 0 f.code) body in
    let below : f.value < length w0.toggles = predicate_below (length w0.toggles) f.value (names_at (length w0.toggles) ls end (leave f.value) fresh.names leaves) in
    let inside : value < length w0.toggles = subst (λ z. z < length w0.toggles) same_value below in
    let ch = change inside in
    let none : (x k : ℕ) → need_at w0.toggles x k ≡ false = λ x k. ap (λ z. odd_of (nat_le k) z) (fresh.toggles x) in
    let now1 : (x : ℕ) → needed_now w1.toggles x ≡ V x = λ x.
    now inside x ∙ ap (λ z. if value == x then true else z) (none x 0) ∙ true_or (value == x) ∙ ap (λ z. z == x) (sym same_value) in
    let here1 : IsAt w1 end V = λ x k h. all_alike w0 w1 end end (λ y. false) ch.0 (omega arith) (λ y j g. none y j) ch.1.toggled x k h ∙ now1 x in
    let size1 : length w1.toggles ≡ length w0.toggles = ch.1.toggled.size in
    let room : HasRoom ls J w1 = record {
      names = rw size1 fresh.names;
      jumps = λ i l e. jumped l ∙ jump_there l ls i e;
      depths = ap (λ z. length z.items) d1 ∙ ap length fresh.depths ∙ length-replicate (length ls) 0;
      copies = ap (λ z. length z.items) c1 ∙ ap length fresh.copies ∙ length-replicate (length ls) false;
    } in
    let unjumped : CodeIsUnjumped J 0 f.code = function_unjumped f J (λ n. jumped n ∙ ap (jumps n) (sym same)) in
    let row : RowStands ls J None 1 (row_code 0 f.code no_row) end V = record {
      stands = subst (λ z. StandAt ls 1 z end) (sym (lines_code 0 f.code no_row)) body;
      stops = at_line (enter (numbers_from 0 f.params)) whole.0 (λ i e. absurd cc) (λ n e. absurd cc) (λ n e. absurd cc);
      fits = fits_code J None 0 f.code no_row V own unjumped (no_stop_at 0 (0 + code_labels f.code)) tt;
    } in
    let went = walked 1 (row_code 0 f.code no_row) V room row here1 in
    let went2 = row_walked w1 w2 1 end 0 0 f.code V went.1 in
    let keeps = went2.keeps.1 in
    let n1 = ch.0 in
    let n2 = went2.keeps.0 in
    let all : w2.changed.items ≡ n1 ++ n2 = keeps.changed ∙ ap (λ z. z ++ n2) (ch.1.changed ∙ ap (λ z. z ++ n1) fresh.changed) in
    let size2 : length w2.toggles ≡ length w1.toggles = keeps.size in
    let below_all : AreBelow (length w2.toggles) (n1 ++ n2) =
    subst (λ n. AreBelow n (n1 ++ n2)) (sym (size2 ∙ size1)) (below_append (length w0.toggles) n1 n2 ch.1.below (subst (λ n. AreBelow n n2) size1 keeps.below)) in
    let t : AreToggled w2.toggles w3.toggles (n1 ++ n2) 0 =
    subst (λ z. AreToggled w2.toggles w3.toggles z 0) (drop_none w2.changed.items ∙ all)
    (restored (subst (λ z. AreBelow (length w2.toggles) z) (sym (drop_none w2.changed.items ∙ all)) below_all)) in
    let now2 : (x : ℕ) → needed_now w2.toggles x ≡ is_odd_in x (n1 ++ n2) = λ x.
    keeps.now x ∙ ap (λ z. differ z (is_odd_in x n2)) (toggled_now w0.toggles w1.toggles n1 end x ch.1.toggled ∙ ap (λ z. differ z (is_odd_in x n1)) (none x 0))
    ∙ sym (odd_append (λ y. y == x) n1 n2) in
    let held4 : AreHeld w4 1 (code_lines 0 f.code) (code_marks 0 f.code V) =
    still_held w2 w4 1 end 1 (code_lines 0 f.code) (code_marks 0 f.code V) (omega arith) (omega arith)
    (record {
      need = λ x k g h. ap (λ z. need_at z x k) t4 ∙ above_same w2 w3 0 (n1 ++ n2) t x k (omega arith);
      kept = λ x c h. subst (λ z. IsTrue (has_bound z x c)) (sym t4) (t.kept x c h);
      depths = λ i g h. ap (λ z. slice_get z i) d4 ∙ get_set_other w3.depths.items 0 i 0 (λ e. absurd (omega arith)) ∙ ap (λ z. slice_get z.items i) d3;
      copies = λ i g h. ap (λ z. slice_get z.items i) c4 ∙ ap (λ z. slice_get z.items i) c3;
    })
    went2.held in
    let long0 : length w3.depths.items ≡ length ls = ap (λ z. length z.items) d3 ∙ keeps.depths_size ∙ room.depths in
    let last_depth : slice_get w4.depths.items end ≡ Some 0 =
    ap (λ z. slice_get z end) d4 ∙ get_set_other w3.depths.items 0 end 0 (λ e. absurd (omega arith)) ∙ ap (λ z. slice_get z.items end) d3 ∙ keeps.depths end (omega arith)
    ∙ ap (λ z. slice_get z.items end) d1 ∙ ap (λ z. slice_get z end) fresh.depths ∙ zero_there (length ls) end (omega arith) in
    record {
      held = (
        enter_held w4 (numbers_from 0 f.params) (mark 0 (needed_by_code f.code V)) (ap (λ z. slice_get z 0) d4 ∙ get_set_same w3.depths.items 0 0 (omega arith)),
        held_append w4 1 end (code_lines 0 f.code) (leave f.value ∷ []) (code_marks 0 f.code V) (mark 0 (λ x. false) ∷ []) long held4
            (leave_held w4 end f.value (mark 0 (λ x. false)) last_depth, tt),
      );
      even = λ x.
          ap (λ z. needed_now z x) t4 ∙ toggled_now w2.toggles w3.toggles (n1 ++ n2) 0 x t ∙ ap (λ z. differ z (is_odd_in x (n1 ++ n2))) (now2 x)
          ∙ differ_same (is_odd_in x (n1 ++ n2));
    }
  where
    true_or : (b : Bool) → (if b then true else false) ≡ b
    true_or true = refl
    true_or false = refl

    drop_none : (xs : List ℕ) → drop 0 xs ≡ xs
    drop_none [] = refl
    drop_none (x ∷ xs) = refl
