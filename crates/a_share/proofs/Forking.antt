-- The walk over a choice, as the code does it.
use Rattle.std.proofs.Common.{◌≡◌, ◌≢◌, ◌<◌, ◌≤◌, ℕ, suc, ◌+◌, ◌-◌, Bool, true, false, ◌&&◌, ◌||◌, List, [], ◌∷◌, ◌++◌, length, drop, slice_get, Some, refl, sym, ap, ◌∙◌, subst, arith}
use Rattle.std.specs.Prelude.{◌==◌}
use Rattle.s_linear.specs.Linear.{Instr, choice, Codes}
use Rattle.s_linear.specs.Lines.{Line, done, jump, label, enter, leave, branch_not_zero, branch_zero, branch_equal, line_names, step_lines, code_lines}
use Rattle.a_place.specs.Places.{among}
use Rattle.a_place.specs.Share.{Names, needed_by_code, needed_by_step}
use Rattle.a_place.specs.Marks.{step_marks, code_marks}
use Rattle.a_share.specs.Bounds.{needed_now, is_as, AreBelow, AreToggled}
use Rattle.a_share.specs.Changes.{ChangesAt}
use Rattle.a_share.specs.Rows.{StandAt, Row, no_row, row_code, row_lines, row_marks, row_needed, end_label}
use Rattle.a_share.specs.Unions.{IsUnion}
use Rattle.a_share.specs.Walk.{predicates_of}
use Rattle.a_share.specs.Walking.{IsAt, AreHeld, IsWalked, HasRoom, Stops, at_line, RowStands, ChoiceStands, is_label_line, line_before}
use Rattle.a_share.specs.declared.needs.Needs.{Needs}
use Rattle.a_share.proofs.Standing.{stand_split, stand_end, stand_last}
use Rattle.a_share.proofs.Holding.{keeps_room}
use Rattle.a_share.proofs.Moving.{names_at, get_within, changes_more}
use Rattle.a_share.proofs.Joining.{predicate_below}
use Rattle.a_share.proofs.Forks.{Forks, one_fork, more_forks, fork_lines, fork_needed, fork_count, ForksFit, AreBranches, IsForked, choice_forked}
use Rattle.a_share.proofs.Rowed.{lines_code}
use Rattle.a_share.proofs.Choosing.{IsRestored, restored, top_first, top_code, IsPlaced, top_stands, row_walked, AtFork, fork_begun, fork_next, fork_done, AreJoined}

-- a line that is a branch
branch_line : (l : Line) (p : ℕ) → predicates_of l ≡ p ∷ [] → ((i : Instr) → l ≢ done i) × ((n : ℕ) → l ≢ label n) × ((n : ℕ) → l ≢ jump n)
branch_line (enter xs) p h = absurd cc
branch_line (leave x) p h = absurd cc
branch_line (done i) p h = absurd cc
branch_line (branch_not_zero q n) p h = (λ i e. absurd cc, λ m e. absurd cc, λ m e. absurd cc)
branch_line (branch_zero q n) p h = (λ i e. absurd cc, λ m e. absurd cc, λ m e. absurd cc)
branch_line (branch_equal q r n) p h = (λ i e. absurd cc, λ m e. absurd cc, λ m e. absurd cc)
branch_line (jump n) p h = absurd cc
branch_line (label n) p h = absurd cc

-- the last of some branches stands before the codes
last_branch : (lines : List Line) (a c p : ℕ) (tests : List Line) → AreBranches p tests → 1 ≤ length tests → StandAt lines a tests c
    → (l : Line) × (line_before lines c ≡ Some l) × (predicates_of l ≡ p ∷ [])
last_branch lines a c p [] b h s = absurd (omega arith)
last_branch lines a c p (l ∷ []) b h s = (l, ap (λ z. line_before lines z) (sym s.1) ∙ s.0, b.0)
last_branch lines a c p (l ∷ m ∷ tests) b h s = last_branch lines (suc a) c p (m ∷ tests) b.1 (omega arith) s.1

first_branch : (lines : List Line) (a c p : ℕ) (tests : List Line) → AreBranches p tests → 1 ≤ length tests → StandAt lines a tests c
    → (l : Line) × (slice_get lines a ≡ Some l) × (predicates_of l ≡ p ∷ [])
first_branch lines a c p [] b h s = absurd (omega arith)
first_branch lines a c p (l ∷ tests) b h s = (l, s.0, b.0)

-- The walk over a choice has come to some code of it.
pub record AtChoice (lines : List Line) (J : ℕ → Bool) (d : ℕ) (w0 : Needs) (a first p : ℕ) (cs : Codes) (end : ℕ) (N : Names) (start : ℕ) (w : Needs)
    (more less : List ℕ) (branches : ℕ) : Type 0 where
  pub forked : IsForked J d first p cs N
  pub before : StandAt lines a forked.tests (a + length forked.tests)
  pub label_line : slice_get lines end ≡ Some (label (end_label first cs))
  pub fork : Forks
  pub needs : Names
  pub at : AtFork lines J d (end_label first cs) (a + length forked.tests) end forked.forks N w0 fork start w more less needs
  pub count : branches + fork_count fork ≡ fork_count forked.forks
  pub fits : ForksFit J (end_label first cs) fork N

stops_there : (lines : List Line) (a c p e : ℕ) (tests : List Line) → AreBranches p tests → 1 ≤ length tests → StandAt lines a tests c → Stops lines (Some e) c
stops_there lines a c p e tests b h s =
    let l = last_branch lines a c p tests b h s in
    let n = branch_line l.0 p l.2 in at_line l.0 l.1 n.0 n.1 n.2

pub choice_begun : (lines : List Line) (J : ℕ → Bool) (d : ℕ) (w0 w : Needs) (a first p : ℕ) (cs : Codes) (end : ℕ) (N : Names) (start : ℕ) (more less : List ℕ)
    → HasRoom lines J w0 → ChoiceStands lines J a first p cs (suc end) N → IsAt w0 (suc end) N
    → ((c : ℕ) (r : Row) (M : Names) → HasRoom lines J w0 → RowStands lines J (Some (end_label first cs)) c r end M → IsAt w0 end M
    → (start ≡ c) × IsWalked w0 w c end (row_lines r) (row_marks d r M) (row_needed r M))
    → ((x : ℕ) → among x more ≡ ((among x (drop (length w0.changed.items) w.changed.items) && is_as true (needed_now w.toggles x)) || among x []))
    → ((x : ℕ) → among x less ≡ ((among x (drop (length w0.changed.items) w.changed.items) && is_as false (needed_now w.toggles x)) || among x []))
    → AtChoice lines J d w0 a first p cs end N start w more less 0
choice_begun lines J d w0 w a first p cs end N start more less room s here walked am al =
    let e = end_label first cs in
    let k = choice_forked J d first p cs N s.two s.own s.unjumped in
    let t = stand_last lines a (suc end) (k.tests ++ fork_lines e k.forks) (label e) (subst (λ z. StandAt lines a z (suc end)) k.lines s.stands) in
    let at_end : t.0 ≡ end = (let q : suc end ≡ suc t.0 = t.3 in omega arith) in
    let u = stand_split lines a end k.tests (fork_lines e k.forks) (subst (λ z. StandAt lines a (k.tests ++ fork_lines e k.forks) z) at_end t.1) in
    let c = a + length k.tests in
    let same : u.0 ≡ c = stand_end lines a u.0 k.tests u.1 in
    let tests : StandAt lines a k.tests c = subst (λ z. StandAt lines a k.tests z) same u.1 in
    let codes : StandAt lines c (fork_lines e k.forks) end = subst (λ z. StandAt lines z (fork_lines e k.forks) end) same u.2 in
    let stop = stops_there lines a c p e k.tests k.branches k.some tests in
    let top = top_stands lines J e c k.forks end N k.fits stop codes in
    let here' : IsAt w0 end N = λ x m h. here x m (omega arith) in
    let went = walked top.start (row_code (top_first k.forks) (top_code k.forks) no_row) N room top.stands here' in
    let went2 = row_walked w0 w top.start end d (top_first k.forks) (top_code k.forks) N went.1 in
    let went3 = subst (λ z. IsWalked w0 w z end (code_lines (top_first k.forks) (top_code k.forks)) (code_marks d (top_code k.forks) N)
    (λ x. needed_by_code (top_code k.forks) N x)) (sym went.0) went2 in
    let length' : end ≡ top.start + length (row_lines (row_code (top_first k.forks) (top_code k.forks) no_row)) =
    stand_end lines top.start end (row_lines (row_code (top_first k.forks) (top_code k.forks) no_row)) top.stands.stands in
    let length'' : end ≡ start + length (code_lines (top_first k.forks) (top_code k.forks)) =
    length' ∙ ap (λ z. top.start + length z) (lines_code (top_first k.forks) (top_code k.forks) no_row)
    ∙ ap (λ z. z + length (code_lines (top_first k.forks) (top_code k.forks))) (sym went.0) in
    record {
      forked = k;
      before = tests;
      label_line = subst (λ z. slice_get lines z ≡ Some (label e)) at_end t.2;
      fork = k.forks;
      needs = λ x. needed_by_code (top_code k.forks) N x;
      at =
          fork_begun lines J d e c end k.forks N w0 start w more less (subst (λ z. IsPlaced lines e c k.forks z) (sym went.0) top.placed) here' went3 length'' am al;
      count = omega arith;
      fits = k.fits;
    }

no_label : (lines : List Line) (c p : ℕ) (l : Line) → line_before lines (suc c) ≡ Some l → predicates_of l ≡ p ∷ [] → is_label_line (slice_get lines c) ≡ false
no_label lines c p l e h = ap is_label_line e ∙ other l h
  where
    other : (l : Line) → predicates_of l ≡ p ∷ [] → is_label_line (Some l) ≡ false
    other (enter xs) g = refl
    other (leave x) g = refl
    other (done i) g = refl
    other (branch_not_zero q n) g = refl
    other (branch_zero q n) g = refl
    other (branch_equal q r n) g = refl
    other (jump n) g = refl
    other (label n) g = absurd cc

predicate_at : (n p : ℕ) (l : Line) → predicates_of l ≡ p ∷ [] → AreBelow n (line_names l) → p < n
predicate_at n p (enter xs) h b = absurd cc
predicate_at n p (leave x) h b = absurd cc
predicate_at n p (done i) h b = absurd cc
predicate_at n p (branch_not_zero q m) h b = predicate_below n p (subst (λ z. AreBelow n z) h b)
predicate_at n p (branch_zero q m) h b = predicate_below n p (subst (λ z. AreBelow n z) h b)
predicate_at n p (branch_equal q r m) h b = predicate_below n p (subst (λ z. AreBelow n z) h b)
predicate_at n p (jump m) h b = absurd cc
predicate_at n p (label m) h b = absurd cc

-- where a label stands before, a code is left
pub choice_next : (lines : List Line) (J : ℕ → Bool) (d : ℕ) (w0 w v u : Needs) (a first p : ℕ) (cs : Codes) (end : ℕ) (N : Names) (start start' branches : ℕ)
    (more less more' less' : List ℕ) → HasRoom lines J w0 → IsAt w0 (suc end) N → AtChoice lines J d w0 a first p cs end N start w more less branches → 2 ≤ start
    → is_label_line (slice_get lines (start - 1)) ≡ true → IsRestored w v (length w0.changed.items) (start - 1)
    → ((c : ℕ) (r : Row) (M : Names) → HasRoom lines J v → RowStands lines J (Some (end_label first cs)) c r (start - 2) M → IsAt v (start - 2) M
    → (start' ≡ c) × IsWalked v u c (start - 2) (row_lines r) (row_marks d r M) (row_needed r M))
    → ((x : ℕ) → among x more' ≡ ((among x (drop (length w0.changed.items) u.changed.items) && is_as true (needed_now u.toggles x)) || among x more))
    → ((x : ℕ) → among x less' ≡ ((among x (drop 0 less) && is_as false (needed_now u.toggles x)) || among x []))
    → AtChoice lines J d w0 a first p cs end N start' u more' less' (branches + 1)
choice_next lines J d w0 w v u a first p cs end N start start' branches more less more' less' room here at two labelled r walked am al =
    by_fork at.fork at.at at.count at.fits
  where
    by_fork : (f : Forks) → AtFork lines J d (end_label first cs) (a + length at.forked.tests) end at.forked.forks N w0 f start w more less at.needs
        → branches + fork_count f ≡ fork_count at.forked.forks → ForksFit J (end_label first cs) f N
        → AtChoice lines J d w0 a first p cs end N start' u more' less' (branches + 1)
    by_fork (one_fork l k) q count fit =
        let l = last_branch lines a (a + length at.forked.tests) p at.forked.tests at.forked.branches at.forked.some at.before in
        let same : start ≡ a + length at.forked.tests = q.placed in
        let before : a + length at.forked.tests ≡ suc (start - 1) = omega arith in
        absurd (let t = sym labelled ∙ no_label lines (start - 1) p l.0 (subst (λ z. line_before lines z ≡ Some l.0) before l.1) l.2 in cc)
    by_fork (more_forks g n l k) q count fit =
        let m = q.placed.0 in
        let at_label : start ≡ suc (suc m) = q.placed.4 in
        let after : start - 1 ≡ suc m = omega arith in
        let below : start - 2 ≡ m = omega arith in
        let r' : IsRestored w v (length w0.changed.items) (suc m) = subst (λ z. IsRestored w v (length w0.changed.items) z) after r in
        let ends : end ≡ start + length q.rest = q.ends in
        let back = restored w0 w v start end (suc m) N (λ x. needed_by_code k N x) q.names (omega arith) (omega arith) (λ x i h. here x i (omega arith)) q.here q.keeps r' in
        let stop = stops_there lines a (a + length at.forked.tests) p (end_label first cs) at.forked.tests at.forked.branches at.forked.some at.before in
        let top = top_stands lines J (end_label first cs) (a + length at.forked.tests) g m N fit.0 stop q.placed.1 in
        let room' = keeps_room lines J w0 v end [] back.keeps room in
        let here' : IsAt v m N = λ x i h. back.here x i (omega arith) in
        let went = walked top.start (row_code (top_first g) (top_code g) no_row) N room'
        (subst (λ z. RowStands lines J (Some (end_label first cs)) top.start (row_code (top_first g) (top_code g) no_row) z N) (sym below) top.stands)
        (subst (λ z. IsAt v z N) (sym below) here') in
        let went2 = row_walked v u top.start (start - 2) d (top_first g) (top_code g) N went.1 in
        let went3 = subst (λ z. IsWalked v u z (start - 2) (code_lines (top_first g) (top_code g)) (code_marks d (top_code g) N) (λ x. needed_by_code (top_code g) N x))
        (sym went.0) went2 in
        let went4 = subst (λ z. IsWalked v u start' z (code_lines (top_first g) (top_code g)) (code_marks d (top_code g) N) (λ x. needed_by_code (top_code g) N x)) below went3 in
        let length' = stand_end lines top.start m (row_lines (row_code (top_first g) (top_code g) no_row)) top.stands.stands in
        let length'' : m ≡ start' + length (code_lines (top_first g) (top_code g)) =
        length' ∙ ap (λ z. top.start + length z) (lines_code (top_first g) (top_code g) no_row)
        ∙ ap (λ z. z + length (code_lines (top_first g) (top_code g))) (sym went.0) in
        record {
          forked = at.forked;
          before = at.before;
          label_line = at.label_line;
          fork = g;
          needs = λ x. needed_by_code (top_code g) N x || at.needs x;
          at =
              fork_next lines J d (end_label first cs) (a + length at.forked.tests) end at.forked.forks N w0 g n l k start m start' w v u more less more' less' at.needs
              (λ x i h. here x i (omega arith)) q at_label r' (subst (λ z. IsPlaced lines (end_label first cs) (a + length at.forked.tests) g z) (sym went.0) top.placed) went4
              length'' am al;
          count = (let t : branches + suc (fork_count g) ≡ fork_count at.forked.forks = count in omega arith);
          fits = fit.0;
        }

-- where none does, all codes are walked
pub choice_done : (lines : List Line) (J : ℕ → Bool) (d : ℕ) (w0 w v u x z : Needs) (a first p : ℕ) (cs : Codes) (end : ℕ) (N : Names) (start branches from : ℕ)
    (more less : List ℕ) → HasRoom lines J w0 → IsAt w0 (suc end) N → AtChoice lines J d w0 a first p cs end N start w more less branches
    → (2 ≤ start → is_label_line (slice_get lines (start - 1)) ≡ false) → from ≡ start - branches → IsRestored w v (length w0.changed.items) from
    → ((S : Names) → IsUnion (length v.toggles) more less (needed_now v.toggles) S → ChangesAt v u from)
    → ((S : Names) → IsUnion (length v.toggles) more less (needed_now v.toggles) S → (y : ℕ) → needed_now u.toggles y ≡ S y) → u.depths ≡ v.depths → u.copies ≡ v.copies
    → x.toggles ≡ u.toggles → x.changed ≡ u.changed → x.copies ≡ u.copies → length x.depths.items ≡ length u.depths.items
    → ((i : ℕ) → from ≤ i → i < start → i < length u.depths.items → slice_get x.depths.items i ≡ Some d)
    → ((i : ℕ) → start ≤ i → slice_get x.depths.items i ≡ slice_get u.depths.items i)
    → ((q : ℕ) (l : Line) → slice_get lines from ≡ Some l → predicates_of l ≡ q ∷ [] → q < length x.toggles → ChangesAt x z from)
    → ((q : ℕ) (l : Line) → slice_get lines from ≡ Some l → predicates_of l ≡ q ∷ [] → q < length x.toggles → (y : ℕ)
    → needed_now z.toggles y ≡ ((q == y) || needed_now x.toggles y)) → z.depths ≡ x.depths → z.copies ≡ x.copies
    → (from ≡ a) × IsWalked w0 z a (suc end) (step_lines first (choice p cs)) (step_marks d (choice p cs) N) (λ y. needed_by_step (choice p cs) N y)
choice_done lines J d w0 w v u x z a first p cs end N start branches from more less room here at unlabelled ef r joined joined_now du cu tx hx cx sx dx ox last last_now dz cz =
    by_fork at.fork at.at at.count at.fits
  where
    unioned : (n : ℕ) (N' M S : Names) → ((y : ℕ) → N' y ≡ M y) → IsUnion n more less N' S → IsUnion n more less M S
    unioned n N' M S e t = record {
      added = t.added;
      dropped = t.dropped;
      others = λ y h g. t.others y h g ∙ e y;
      added_below = t.added_below;
      dropped_below = t.dropped_below;
    }

    by_fork : (f : Forks) → AtFork lines J d (end_label first cs) (a + length at.forked.tests) end at.forked.forks N w0 f start w more less at.needs
        → branches + fork_count f ≡ fork_count at.forked.forks → ForksFit J (end_label first cs) f N
        → (from ≡ a) × IsWalked w0 z a (suc end) (step_lines first (choice p cs)) (step_marks d (choice p cs) N) (λ y. needed_by_step (choice p cs) N y)
    by_fork (more_forks g n l k) q count fit =
        let m = q.placed.0 in
        let at_label : start ≡ suc (suc m) = q.placed.4 in
        let after : suc m ≡ start - 1 = omega arith in
        absurd (let t = sym (ap is_label_line q.placed.3) ∙ ap (λ y. is_label_line (slice_get lines y)) after ∙ unlabelled (omega arith) in cc)
    by_fork (one_fork l k) q count fit =
        let e = end_label first cs in
        let c = a + length at.forked.tests in
        let same : start ≡ c = q.placed in
        let size : length at.forked.tests ≡ fork_count at.forked.forks = at.forked.count in
        let all : branches + 0 ≡ fork_count at.forked.forks = count in
        let first' : from ≡ a = omega arith in
        let ends : end ≡ start + length q.rest = q.ends in
        let r' : IsRestored w v (length w0.changed.items) a = subst (λ y. IsRestored w v (length w0.changed.items) y) first' r in
        let back = restored w0 w v start end a N (λ y. needed_by_code k N y) q.names (omega arith) (omega arith) (λ y i h. here y i (omega arith)) q.here q.keeps r' in
        let room' = keeps_room lines J w0 v end [] back.keeps room in
        let width : length v.toggles ≡ length w0.toggles = back.keeps.size in
        let union : IsUnion (length v.toggles) more less (needed_now v.toggles) at.needs =
        unioned (length v.toggles) N (needed_now v.toggles) at.needs (λ y. sym (back.here y 0 (omega arith)))
        (subst (λ y. IsUnion y more less N at.needs) (sym width) q.union) in
        let cu' : ChangesAt v u a = subst (λ y. ChangesAt v u y) first' (joined at.needs union) in
        let branch = first_branch lines a c p at.forked.tests at.forked.branches at.forked.some at.before in
        let there : slice_get lines from ≡ Some branch.0 = subst (λ y. slice_get lines y ≡ Some branch.0) (sym first') branch.1 in
        let p_below : p < length w0.toggles = predicate_at (length w0.toggles) p branch.0 branch.2 (names_at (length w0.toggles) lines a branch.0 room.names branch.1) in
        let width_u : length u.toggles ≡ length v.toggles = cu'.1.toggled.size in
        let width_x : length x.toggles ≡ length u.toggles = ap length tx in
        let inside : p < length x.toggles = omega arith in
        let cx' : ChangesAt v x a = (
          cu'.0,
          record {
            changed = ap (λ y. y.items) hx ∙ cu'.1.changed;
            below = cu'.1.below;
            toggled = subst (λ y. AreToggled v.toggles y cu'.0 a) (sym tx) cu'.1.toggled;
          },
        ) in
        let cz' : ChangesAt x z a = subst (λ y. ChangesAt x z y) first' (last p branch.0 there branch.2 inside) in
        let wide : length lines ≡ length v.depths.items = sym room'.depths in
        let within : c ≤ length lines = (let h : end < length lines = get_within lines end (label e) at.label_line in omega arith) in
        let depth_u : length u.depths.items ≡ length v.depths.items = ap (λ y. length y.items) du in
        let facts : AreJoined v z a c d (λ y. (p == y) || fork_needed at.forked.forks N y) = record {
          changes = changes_more v x z a cx' cz';
          now = λ y. last_now p branch.0 there branch.2 inside y
              ∙ ap (λ t. (p == y) || t) (ap (λ t. needed_now t y) tx ∙ joined_now at.needs union y ∙ sym (q.needed y));
          depths = λ i g h. ap (λ y. slice_get y.items i) dz ∙ dx i (omega arith) (omega arith) (omega arith);
          others = λ i g. ap (λ y. slice_get y.items i) dz ∙ ox i (omega arith) ∙ ap (λ y. slice_get y.items i) du;
          depths_size = ap (λ y. length y.items) dz ∙ sx ∙ ap (λ y. length y.items) du;
          copies = cz ∙ cx ∙ cu;
        } in
        let at' = subst (λ y. AtFork lines J d e c end at.forked.forks N w0 (one_fork l k) y w more less at.needs) same q in
        let whole = fork_done lines J d e c end a p l k at.forked.forks N w0 w v z at.forked.tests more less at.needs here at.forked.branches refl at' r' facts in (
          first',
          record {
            here = λ y i h. whole.here y i h ∙ at.forked.needed y;
            held = subst (λ y. AreHeld z a y (step_marks d (choice p cs) N)) (sym at.forked.lines)
                (subst (λ y. AreHeld z a ((at.forked.tests ++ fork_lines e at.forked.forks) ++ (label e ∷ [])) y) (sym at.forked.marks) whole.held);
            keeps = whole.keeps;
          },
        )
