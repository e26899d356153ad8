-- Instructions that are passed one after the other, from the last on.
use Rattle.std.proofs.Common.{◌≡◌, ◌≢◌, ◌<◌, ◌≤◌, ℕ, zero, suc, ◌+◌, ◌-◌, Bool, true, not, ◌&&◌, List, [], ◌∷◌, ◌++◌, map, length, set, slice_get, Some, refl, sym, ap, ◌∙◌, subst, length-set, inl, inr, append_assoc, arith}
use Rattle.std.specs.Prelude.{◌==◌, nat_le, IsTrue}
use Rattle.std.proofs.lemmas.Bool.{and_parts}
use Rattle.std.proofs.lemmas.List.{append-nil, length-map}
use Rattle.std.proofs.lemmas.Bool.Decides.{nat_tests}
use Rattle.g_graph.specs.WellFormed.{all_of}
use Rattle.s_linear.specs.Linear.{Instr, move}
use Rattle.s_linear.specs.Lines.{Line, done, names_below, line_names, instr_names}
use Rattle.a_place.specs.Share.{Names, writes, needed_by_instrs}
use Rattle.a_place.specs.Marks.{instr_marks}
use Rattle.a_share.specs.Bounds.{differ, need_at, needed_now, is_odd_in, AreBelow, AreToggled}
use Rattle.a_share.specs.Changes.{HasChanged, ChangesAt, IsPassed, ArePassed}
use Rattle.a_share.specs.Rows.{StandAt}
use Rattle.a_share.specs.Walking.{AreHeld, Keeps, AreMovedBack, HasRoom}
use Rattle.a_share.specs.declared.needs.Needs.{Needs}
use Rattle.a_share.proofs.Gets.{get_set_same, get_set_other, take_added, drop_added}
use Rattle.a_share.proofs.Parity.{differ_assoc, differ_false, differ_twice, odd_append}
use Rattle.a_share.proofs.Toggling.{none_toggled, more_toggled, toggled_now, below_append}
use Rattle.a_share.proofs.Standing.{stand_le, stand_end, same_line}
use Rattle.a_share.proofs.Holding.{still_held, keeps_more, keeps_room}
use Rattle.a_share.proofs.Passing.{above_same, needed_alike, keeps_after, IsNoted, done_inner}
use Rattle.a_share.proofs.Rests.{none_kept}
use Rattle.a_share.proofs.Choosing.{IsRestored}

pub names_at : (n : ℕ) (ls : List Line) (p : ℕ) (l : Line) → IsTrue (all_of (names_below n) ls) → slice_get ls p ≡ Some l → AreBelow n (line_names l)
names_at n [] p l h e = absurd cc
names_at n (m ∷ ls) zero l h e =
    let same : m ≡ l = same_line (Some m) m l refl e in
    subst (λ z. AreBelow n (line_names z)) same (and_parts (names_below n m) (all_of (names_below n) ls) h).0
names_at n (m ∷ ls) (suc p) l h e = names_at n ls p l (and_parts (names_below n m) (all_of (names_below n) ls) h).1 e

pub get_within : {X : Type 0} (xs : List X) (p : ℕ) (x : X) → slice_get xs p ≡ Some x → p < length xs
get_within [] p x e = absurd cc
get_within (y ∷ xs) zero x e = omega arith
get_within (y ∷ xs) (suc p) x e = let r : p < length xs = get_within xs p x e in omega arith

pub changes_none : (w : Needs) (b : ℕ) → ChangesAt w w b
changes_none w b = ([], record { changed = sym (append-nil w.changed.items); below = refl; toggled = none_toggled w.toggles b })

pub changes_more : (a b c : Needs) (p : ℕ) → ChangesAt a b p → ChangesAt b c p → ChangesAt a c p
changes_more a b c p h k =
    let xs = h.0 in
    let ys = k.0 in
    let s : HasChanged a b xs p = h.1 in
    let t : HasChanged b c ys p = k.1 in (
      xs ++ ys,
      record {
        changed = t.changed ∙ ap (λ z. z ++ ys) s.changed ∙ append_assoc a.changed.items xs ys;
        below = below_append (length a.toggles) xs ys s.below (subst (λ n. AreBelow n ys) s.toggled.size t.below);
        toggled = more_toggled a.toggles b.toggles c.toggles xs ys p s.toggled t.toggled;
      },
    )

pub passed_none : (w : Needs) (b : ℕ) → ArePassed [] w w b
passed_none w b = record { changes = changes_none w b; now = λ x. refl }

-- one instruction more
pub passed_more : (a b c : Needs) (i : Instr) (is : List Instr) (p : ℕ) → ArePassed is a b p → IsPassed i b c p → ArePassed (i ∷ is) a c p
passed_more a b c i is p h k = record {
  changes = changes_more a b c p h.changes k.changes;
  now = λ x. k.now x ∙ needed_alike i (needed_now b.toggles) (needed_by_instrs is (needed_now a.toggles)) x (h.now x);
}

-- ---- the moves back of a loop

-- These are walked, and begin at a position.
pub record AreMoving (d : ℕ) (L : Names) (old w : Needs) (back at to : ℕ) (is : List Instr) (names : List ℕ) : Type 0 where
  pub held : AreHeld w at (map done is) (instr_marks d is L)
  pub now : (x : ℕ) → needed_now w.toggles x ≡ needed_by_instrs is L x
  pub range : (x k : ℕ) → back < k → k ≤ at → need_at w.toggles x k ≡ needed_by_instrs is L x
  pub keeps : Keeps old w to names
  pub low : (x k : ℕ) → k ≤ back → need_at w.toggles x k ≡ differ (need_at old.toggles x k) (is_odd_in x names)
  pub depths : (i : ℕ) → i < at → slice_get w.depths.items i ≡ slice_get old.depths.items i
  pub copies : (i : ℕ) → i < at → slice_get w.copies.items i ≡ slice_get old.copies.items i

pub moving_none : (d : ℕ) (L : Names) (w : Needs) (back to : ℕ) → ((x k : ℕ) → back < k → k ≤ to → need_at w.toggles x k ≡ L x)
    → ((x : ℕ) → needed_now w.toggles x ≡ L x) → AreMoving d L w w back to to [] []
moving_none d L w back to range now = record {
  held = tt;
  now = now;
  range = range;
  keeps = none_kept w to;
  low = λ x k h. sym (differ_false (need_at w.toggles x k));
  depths = λ i h. refl;
  copies = λ i h. refl;
}

pub moving_more : (d : ℕ) (L : Names) (old w v : Needs) (back p to : ℕ) (i : Instr) (is : List Instr) (names : List ℕ) → back ≤ p → suc p + length is ≡ to
    → AreMoving d L old w back (suc p) to is names → (n : IsNoted w v p d i) → AreMoving d L old v back p to (i ∷ is) (names ++ n.passed.changes.0)
moving_more d L old w v back p to i is names low end m n =
    let more = n.passed.changes.0 in
    let c : HasChanged w v more p = n.passed.changes.1 in
    let next : Keeps w v (suc p) more =
    keeps_after w v p (suc p) more (omega arith) c
    (λ j l. ap (λ z. slice_get z j) n.depths ∙ get_set_other w.depths.items p j d (λ e. absurd (omega arith)))
    (λ j l. n.others j (λ e. absurd (omega arith)))
    (ap length n.depths ∙ length-set w.depths.items p d) n.size in
    let now_v : (x : ℕ) → needed_now v.toggles x ≡ needed_by_instrs (i ∷ is) L x = λ x.
    n.passed.now x ∙ needed_alike i (needed_now w.toggles) (needed_by_instrs is L) x (m.now x) in
    let same_length : length (map done is) ≡ length is = length-map is done in
    record {
      held = (
        record {
          depth = λ e. ap (λ z. slice_get z p) n.depths ∙ get_set_same w.depths.items p d n.room;
          after = λ j e x. above_same w v p more c.toggled x (suc p) (omega arith) ∙ m.range x (suc p) (omega arith) (omega arith);
          cut = λ j e x g f. n.passed.cut x (subst (λ z. IsTrue (writes z x)) (sym (ap (λ z. done_inner z i) e)) g) (m.now x ∙ f);
          copy = λ t a e. n.copy t a (ap (λ z. done_inner z i) e) ∙ ap (λ z. Some (not (t == a) && z)) (m.now a);
        },
        still_held w v (suc p) to (suc p) (map done is) (instr_marks d is L) (omega arith) (omega arith)
            (record {
              need = λ x k g h. next.need x k g;
              kept = next.kept;
              depths = λ j g h. next.depths j g;
              copies = λ j g h. next.copies j g;
            }) m.held,
      );
      now = now_v;
      range = λ x k g h.
          (let t : nat_le k p ≡ true = grind (arith, nat_tests) in
          c.toggled.need x k ∙ rw t (ap (λ z. differ z (is_odd_in x more)) (m.range x k g (omega arith) ∙ sym (m.now x))))
          ∙ sym (toggled_now w.toggles v.toggles more p x c.toggled) ∙ now_v x;
      keeps = keeps_more old w v to (suc p) names more (omega arith) m.keeps next;
      low = λ x k h.
          (let t : nat_le k p ≡ true = grind (arith, nat_tests) in
          c.toggled.need x k ∙ rw t (ap (λ z. differ z (is_odd_in x more)) (m.low x k h)))
          ∙ differ_assoc (need_at old.toggles x k) (is_odd_in x names) (is_odd_in x more)
          ∙ ap (differ (need_at old.toggles x k)) (sym (odd_append (λ y. y == x) names more));
      depths = λ j h. ap (λ z. slice_get z j) n.depths ∙ get_set_other w.depths.items p j d (λ e. absurd (omega arith)) ∙ m.depths j (omega arith);
      copies = λ j h. n.others j (λ e. absurd (omega arith)) ∙ m.copies j (omega arith);
    }

-- All are walked, and the state goes back.
pub moved_back : (d : ℕ) (L : Names) (old w v : Needs) (back to : ℕ) (is : List Instr) (names : List ℕ) → back + length is ≡ to
    → AreMoving d L old w back back to is names → IsRestored w v (length old.changed.items) back → AreMovedBack d is L old v back to
moved_back d L old w v back to is names end m r =
    let dropped = drop_added old.changed.items names w.changed.items m.keeps.changed in
    let below : AreBelow (length w.toggles) names = subst (λ n. AreBelow n names) (sym m.keeps.size) m.keeps.below in
    let t : AreToggled w.toggles v.toggles names back =
    subst (λ z. AreToggled w.toggles v.toggles z back) dropped (r.toggled (subst (λ z. AreBelow (length w.toggles) z) (sym dropped) below)) in
    let same_length : length (map done is) ≡ length is = length-map is done in
    record {
      held =
          still_held w v back to back (map done is) (instr_marks d is L) (omega arith) (omega arith)
          (record {
            need = λ x k g h. above_same w v back names t x k g;
            kept = t.kept;
            depths = λ j g h. ap (λ z. slice_get z.items j) r.depths;
            copies = λ j g h. ap (λ z. slice_get z.items j) r.copies;
          })
          m.held;
      changed = r.changed ∙ take_added old.changed.items names w.changed.items m.keeps.changed;
      low = λ x k h.
          (let s : nat_le k back ≡ true = grind (arith, nat_tests) in
          t.need x k ∙ rw s (ap (λ z. differ z (is_odd_in x names)) (m.low x k h))) ∙ differ_twice (need_at old.toggles x k) (is_odd_in x names);
      high = λ x k h. above_same w v back names t x k (omega arith) ∙ m.keeps.need x k h;
      size = t.size ∙ m.keeps.size;
      kept = λ x c h. t.kept x c (m.keeps.kept x c h);
      depths = λ i h. ap (λ z. slice_get z.items i) r.depths ∙ elim h [ inl l ↦ m.depths i l | inr l ↦ m.keeps.depths i l ];
      copies = λ i h. ap (λ z. slice_get z.items i) r.copies ∙ elim h [ inl l ↦ m.copies i l | inr l ↦ m.keeps.copies i l ];
      depths_size = ap (λ z. length z.items) r.depths ∙ m.keeps.depths_size;
      copies_size = ap (λ z. length z.items) r.copies ∙ m.keeps.copies_size;
    }

-- ---- as the code does it

nothing_stands : (lines : List Line) (to : ℕ) (i : Instr) (is : List Instr) → StandAt lines to (map done (i ∷ is)) to → ⊥
nothing_stands lines to i is s = let h : suc to ≤ to = stand_le lines (suc to) to (map done is) s.1 in absurd (omega arith)

pub pass_first : (lines : List Line) (to b : ℕ) (w : Needs) (is : List Instr) → StandAt lines to (map done is) to → ArePassed is w w b
pass_first lines to b w [] s = passed_none w b
pass_first lines to b w (i ∷ is) s = absurd (nothing_stands lines to i is s)

pub pass_next : (lines : List Line) (b back at to : ℕ) (old w v : Needs) (is : List Instr) → back < at → at ≤ to → IsTrue (all_of (names_below (length old.toggles)) lines)
    → ((js : List Instr) → StandAt lines at (map done js) to → ArePassed js old w b)
    → ((i : Instr) → slice_get lines (at - 1) ≡ Some (done i) → AreBelow (length w.toggles) (instr_names i) → IsPassed i w v b)
    → StandAt lines (at - 1) (map done is) to → ArePassed is old v b
pass_next lines b back at to old w v [] low high names before step s = absurd (let e : at - 1 ≡ to = s in omega arith)
pass_next lines b back at to old w v (i ∷ is) low high names before step s =
    let next : suc (at - 1) ≡ at = omega arith in
    let h = before is (subst (λ z. StandAt lines z (map done is) to) next s.1) in
    let size : length w.toggles ≡ length old.toggles = h.changes.1.toggled.size in
    passed_more old w v i is b h (step i s.0 (subst (λ z. AreBelow z (instr_names i)) (sym size) (names_at (length old.toggles) lines (at - 1) (done i) names s.0)))

pub noted_at : (lines : List Line) (J : ℕ → Bool) (w v : Needs) (m d : ℕ) (i : Instr) → HasRoom lines J w → slice_get lines m ≡ Some (done i)
    → ((i : Instr) → slice_get lines m ≡ Some (done i) → AreBelow (length w.toggles) (instr_names i) → IsPassed i w v m)
    → v.depths.items ≡ set w.depths.items m d → length v.copies.items ≡ length w.copies.items
    → ((j : ℕ) → j ≢ m → slice_get v.copies.items j ≡ slice_get w.copies.items j)
    → ((t s : ℕ) → slice_get lines m ≡ Some (done (move t s)) → m < length w.copies.items
    → slice_get v.copies.items m ≡ Some (not (t == s) && needed_now w.toggles s)) → IsNoted w v m d i
noted_at lines J w v m d i r g passed depths size others copy =
    let within : m < length lines = get_within lines m (done i) g in
    let same : length w.depths.items ≡ length lines = r.depths in
    let equal : length w.copies.items ≡ length lines = r.copies in
    record {
      passed = passed i g (names_at (length w.toggles) lines m (done i) r.names g);
      depths = depths;
      size = size;
      others = others;
      copy = λ t s e. copy t s (subst (λ z. slice_get lines m ≡ Some (done z)) e g) (omega arith);
      room = omega arith;
    }

abbrev pub Moving : (d : ℕ) → Names → (old w : Needs) → (back at to : ℕ) → List Instr → Type 0
Moving d L old w back at to is = (names : List ℕ) × AreMoving d L old w back at to is names

pub move_first : (lines : List Line) (d : ℕ) (L : Names) (w : Needs) (back to : ℕ) (is : List Instr) → StandAt lines to (map done is) to
    → ((x k : ℕ) → back < k → k ≤ to → need_at w.toggles x k ≡ L x) → ((x : ℕ) → needed_now w.toggles x ≡ L x) → Moving d L w w back to to is
move_first lines d L w back to [] s range now = ([], moving_none d L w back to range now)
move_first lines d L w back to (i ∷ is) s range now = absurd (nothing_stands lines to i is s)

pub move_next : (lines : List Line) (J : ℕ → Bool) (d : ℕ) (L : Names) (old w v : Needs) (back at to : ℕ) (is : List Instr) → back < at → at ≤ to → HasRoom lines J old
    → ((js : List Instr) → StandAt lines at (map done js) to → Moving d L old w back at to js)
    → ((i : Instr) → slice_get lines (at - 1) ≡ Some (done i) → AreBelow (length w.toggles) (instr_names i) → IsPassed i w v (at - 1))
    → v.depths.items ≡ set w.depths.items (at - 1) d → length v.copies.items ≡ length w.copies.items
    → ((j : ℕ) → j ≢ at - 1 → slice_get v.copies.items j ≡ slice_get w.copies.items j)
    → ((t s : ℕ) → slice_get lines (at - 1) ≡ Some (done (move t s)) → at - 1 < length w.copies.items
    → slice_get v.copies.items (at - 1) ≡ Some (not (t == s) && needed_now w.toggles s)) → StandAt lines (at - 1) (map done is) to
    → Moving d L old v back (at - 1) to is
move_next lines J d L old w v back at to [] low high room before passed depths size others copy s = absurd (let e : at - 1 ≡ to = s in omega arith)
move_next lines J d L old w v back at to (i ∷ is) low high room before passed depths size others copy s =
    let next : suc (at - 1) ≡ at = omega arith in
    let h = before is (subst (λ z. StandAt lines z (map done is) to) next s.1) in
    let h' = subst (λ z. AreMoving d L old w back z to is h.0) (sym next) h.1 in
    let room' = keeps_room lines J old w to h.0 h.1.keeps room in
    let n = noted_at lines J w v (at - 1) d i room' s.0 passed depths size others copy in
    let ends : to ≡ suc (at - 1) + length (map done is) = stand_end lines (suc (at - 1)) to (map done is) s.1 in
    let same : length (map done is) ≡ length is = length-map is done in
    (h.0 ++ n.passed.changes.0, moving_more d L old w v back (at - 1) to i is h.0 (omega arith) (omega arith) h' n)

pub move_last : (lines : List Line) (d : ℕ) (L : Names) (old w v : Needs) (back at to : ℕ) (is : List Instr) → at ≤ back → (back ≤ to → back ≤ at)
    → StandAt lines back (map done is) to → ((js : List Instr) → StandAt lines at (map done js) to → Moving d L old w back at to js)
    → IsRestored w v (length old.changed.items) back → AreMovedBack d is L old v back to
move_last lines d L old w v back at to is high low s before r =
    let within : back ≤ to = stand_le lines back to (map done is) s in
    let over : back ≤ at = low within in
    let here : at ≡ back = omega arith in
    let h = before is (subst (λ z. StandAt lines z (map done is) to) (sym here) s) in
    let ends : to ≡ back + length (map done is) = stand_end lines back to (map done is) s in
    let same : length (map done is) ≡ length is = length-map is done in
    moved_back d L old w v back to is h.0 (omega arith) (subst (λ z. AreMoving d L old w back z to is h.0) here h.1) r

pub pass_last : (lines : List Line) (b back at to : ℕ) (old w : Needs) (is : List Instr) → at ≤ back → (back ≤ to → back ≤ at) → StandAt lines back (map done is) to
    → ((js : List Instr) → StandAt lines at (map done js) to → ArePassed js old w b) → ArePassed is old w b
pass_last lines b back at to old w is high low s before =
    let within : back ≤ to = stand_le lines back to (map done is) s in
    let over : back ≤ at = low within in
    let here : back ≡ at = omega arith in
    before is (subst (λ z. StandAt lines z (map done is) to) here s)

-- what was set aside changes nothing
pub changes_beside : (w v u : Needs) (b : ℕ) → v.toggles ≡ w.toggles → v.changed ≡ w.changed → ChangesAt v u b → ChangesAt w u b
changes_beside w v u b e f c = (
  c.0,
  record {
    changed = c.1.changed ∙ ap (λ z. z.items ++ c.0) f;
    below = subst (λ z. AreBelow (length z) c.0) e c.1.below;
    toggled = subst (λ z. AreToggled z u.toggles c.0 b) e c.1.toggled;
  },
)
