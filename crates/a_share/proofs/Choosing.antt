-- The walk over the codes of a choice.
use Rattle.std.proofs.Common.{◌≡◌, ◌<◌, ◌≤◌, ℕ, suc, ◌+◌, ◌-◌, Bool, true, false, ◌&&◌, ◌||◌, List, [], ◌∷◌, ◌++◌, length, drop, take, replicate, slice_get, Some, refl, sym, ap, ◌∙◌, subst, append_assoc, length-append, arith}
use Rattle.std.specs.Prelude.{◌==◌}
use Rattle.std.proofs.lemmas.List.{append-nil}
use Rattle.s_linear.specs.Linear.{Code}
use Rattle.s_linear.specs.Lines.{Line, jump, label, code_labels, code_lines}
use Rattle.a_place.specs.Places.{among}
use Rattle.a_place.specs.Share.{Names, needed_by_code}
use Rattle.a_place.specs.Marks.{Mark, mark, code_marks}
use Rattle.a_place.specs.Turns.{CodeHasOwnTurns}
use Rattle.a_share.specs.Bounds.{differ, needed_now, is_odd_in, is_as, AreBelow, AreToggled}
use Rattle.a_share.specs.Changes.{HasChanged, ChangesAt}
use Rattle.a_share.specs.Walk.{predicates_of}
use Rattle.a_share.specs.Rows.{StandAt, no_row, row_code, row_lines, row_marks, row_needed, CodeIsUnjumped}
use Rattle.a_share.specs.Walking.{IsAt, AreHeld, Keeps, IsWalked, Stops, at_a_label, RowStands, line_before}
use Rattle.a_share.specs.Unions.{IsUnion}
use Rattle.a_share.specs.declared.needs.Needs.{Needs}
use Rattle.a_share.proofs.Parity.{differ_twice, differ_false}
use Rattle.a_share.proofs.Toggling.{toggled_now}
use Rattle.a_share.proofs.Standing.{stand_split}
use Rattle.a_share.proofs.Holding.{IsSame, kept_same, still_held, held_append, keeps_more}
use Rattle.a_share.proofs.Passing.{all_alike, above_same, keeps_after}
use Rattle.a_share.proofs.Heads.{label_held, jump_held}
use Rattle.a_share.proofs.Rowed.{lines_code, needed_code, marks_code, fits_code, beyond}
use Rattle.a_share.proofs.Forks.{Forks, one_fork, more_forks, fork_lines, fork_marks, fork_needed, ForksFit, AreBranches}
use Rattle.a_share.proofs.Unions.{union_one, union_more}
use Rattle.a_share.proofs.Gets.{take_added, drop_added}

-- The state goes back to a mark: the names that changed since then get a bound.
pub record IsRestored (old new : Needs) (mark bound : ℕ) : Type 0 where
  pub toggled : AreBelow (length old.toggles) (drop mark old.changed.items)
      → AreToggled old.toggles new.toggles (drop mark old.changed.items) bound
  pub changed : new.changed.items ≡ take mark old.changed.items
  pub depths : new.depths ≡ old.depths
  pub copies : new.copies ≡ old.copies

-- what is known of the state after it went back
pub record IsBack (w0 w v : Needs) (b r : ℕ) (N : Names) : Type 0 where
  pub here : IsAt v r N
  pub keeps : Keeps w0 v b []
  pub same : (a c : ℕ) → r ≤ a → IsSame w v a c

pub restored : (w0 w v : Needs) (a b r : ℕ) (N M : Names) (names : List ℕ) → r ≤ a → a ≤ b → IsAt w0 b N → IsAt w a M → Keeps w0 w b names
    → IsRestored w v (length w0.changed.items) r → IsBack w0 w v b r N
restored w0 w v a b r N M names low high before here k s =
    let dropped = drop_added w0.changed.items names w.changed.items k.changed in
    let below : AreBelow (length w.toggles) names = subst (λ n. AreBelow n names) (sym k.size) k.below in
    let t : AreToggled w.toggles v.toggles names r =
    subst (λ z. AreToggled w.toggles v.toggles z r) dropped (s.toggled (subst (λ z. AreBelow (length w.toggles) z) (sym dropped) below)) in
    let back : (x : ℕ) → needed_now v.toggles x ≡ N x = λ x.
    toggled_now w.toggles v.toggles names r x t ∙ ap (λ z. differ z (is_odd_in x names)) (k.now x)
    ∙ differ_twice (needed_now w0.toggles x) (is_odd_in x names) ∙ before x 0 (omega arith) in
    record {
      here = λ x m l. all_alike w v a r M names low here t x m l ∙ back x;
      keeps = record {
        changed = s.changed ∙ take_added w0.changed.items names w.changed.items k.changed ∙ sym (append-nil w0.changed.items);
        below = refl;
        now = λ x. back x ∙ sym (before x 0 (omega arith)) ∙ sym (differ_false (needed_now w0.toggles x));
        need = λ x m l. above_same w v r names t x m (omega arith) ∙ k.need x m l;
        size = t.size ∙ k.size;
        kept = λ x c h. t.kept x c (k.kept x c h);
        depths = λ i l. ap (λ z. slice_get z.items i) s.depths ∙ k.depths i l;
        copies = λ i l. ap (λ z. slice_get z.items i) s.copies ∙ k.copies i l;
        depths_size = ap (λ z. length z.items) s.depths ∙ k.depths_size;
        copies_size = ap (λ z. length z.items) s.copies ∙ k.copies_size;
      };
      same = λ p q l. record {
        need = λ x m g h. above_same w v r names t x m (omega arith);
        kept = t.kept;
        depths = λ i g h. ap (λ z. slice_get z.items i) s.depths;
        copies = λ i g h. ap (λ z. slice_get z.items i) s.copies;
      };
    }

-- ---- the code that stands last of some

abbrev pub top_first : Forks → ℕ
top_first (one_fork l k) = l
top_first (more_forks f n l k) = l

abbrev pub top_code : Forks → Code
top_code (one_fork l k) = k
top_code (more_forks f n l k) = k

abbrev pub front_lines : (end : ℕ) → Forks → List Line
front_lines e (one_fork l k) = []
front_lines e (more_forks f n l k) = fork_lines e f ++ (jump e ∷ (label n ∷ []))

abbrev pub front_marks : (d : ℕ) → Forks → Names → List Mark
front_marks d (one_fork l k) N = []
front_marks d (more_forks f n l k) N = fork_marks d f N ++ (mark d N ∷ (mark d N ∷ []))

abbrev pub behind : Forks → Names → Names
behind (one_fork l k) N x = false
behind (more_forks f n l k) N x = fork_needed f N x

-- where it begins: where all begin, or after a jump and its label
abbrev pub IsPlaced : (lines : List Line) → (end c : ℕ) → Forks → (start : ℕ) → Type 0
IsPlaced lines e c (one_fork l k) start = start ≡ c
IsPlaced lines e c (more_forks f n l k) start =
    (m : ℕ) × StandAt lines c (fork_lines e f) m × (slice_get lines m ≡ Some (jump e)) × (slice_get lines (suc m) ≡ Some (label n)) × (start ≡ suc (suc m))

pub record HasTop (lines : List Line) (J : ℕ → Bool) (e c : ℕ) (f : Forks) (b : ℕ) (N : Names) : Type 0 where
  pub start : ℕ
  pub placed : IsPlaced lines e c f start
  pub stands : RowStands lines J (Some e) start (row_code (top_first f) (top_code f) no_row) b N

top_row : (lines : List Line) (J : ℕ → Bool) (e start l b : ℕ) (k : Code) (N : Names) → CodeHasOwnTurns k N → CodeIsUnjumped J l k → e < l → Stops lines (Some e) start
    → StandAt lines start (code_lines l k) b → RowStands lines J (Some e) start (row_code l k no_row) b N
top_row lines J e start l b k N own u h stop s = record {
  stands = subst (λ z. StandAt lines start z b) (sym (lines_code l k no_row)) s;
  stops = stop;
  fits = fits_code J (Some e) l k no_row N own u (beyond e l (l + code_labels k) h) tt;
}

pub top_stands : (lines : List Line) (J : ℕ → Bool) (e c : ℕ) (f : Forks) (b : ℕ) (N : Names) → ForksFit J e f N → Stops lines (Some e) c
    → StandAt lines c (fork_lines e f) b → HasTop lines J e c f b N
top_stands lines J e c (one_fork l k) b N fit stop s = record { start = c; placed = refl; stands = top_row lines J e c l b k N fit.0 fit.1 fit.2 stop s }
top_stands lines J e c (more_forks f n l k) b N fit stop s =
    let t = stand_split lines c b (fork_lines e f) (jump e ∷ (label n ∷ code_lines l k)) s in
    let m = t.0 in
    let before : suc (suc m) - 1 ≡ suc m = omega arith in
    record {
      start = suc (suc m);
      placed = (m, t.1, t.2.0, t.2.1.0, refl);
      stands =
          top_row lines J e (suc (suc m)) l b k N fit.1 fit.2 fit.3
          (at_a_label n e t.2.1.0 (ap (λ z. line_before lines z) before ∙ t.2.0) refl) t.2.1.1;
    }

pub row_walked : (w v : Needs) (a b d l : ℕ) (k : Code) (N : Names)
    → IsWalked w v a b (row_lines (row_code l k no_row)) (row_marks d (row_code l k no_row) N) (row_needed (row_code l k no_row) N)
    → IsWalked w v a b (code_lines l k) (code_marks d k N) (λ x. needed_by_code k N x)
row_walked w v a b d l k N p = record {
  here = λ x m h. p.here x m h ∙ ap (λ z. z x) (needed_code l k no_row N);
  held = subst (λ z. AreHeld v a z (code_marks d k N)) (lines_code l k no_row)
      (subst (λ z. AreHeld v a (row_lines (row_code l k no_row)) z) (marks_code d l k no_row N) p.held);
  keeps = p.keeps;
}

-- ---- how far the walk has come

module _ (lines : List Line) (J : ℕ → Bool) (d e c end : ℕ) (whole : Forks) (N : Names) (w0 : Needs) where
  -- The last code of these is walked, as are those behind it.
  pub record AtFork (f : Forks) (start : ℕ) (w : Needs) (more less : List ℕ) (S : Names) : Type 0 where
    pub placed : IsPlaced lines e c f start
    pub here : IsAt w start (λ x. needed_by_code (top_code f) N x)
    pub rest : List Line
    pub rest_marks : List Mark
    pub whole_lines : fork_lines e whole ≡ front_lines e f ++ rest
    pub whole_marks : fork_marks d whole N ≡ front_marks d f N ++ rest_marks
    pub held : AreHeld w start rest rest_marks
    pub ends : end ≡ start + length rest
    pub names : List ℕ
    pub keeps : Keeps w0 w end names
    pub needed : (x : ℕ) → fork_needed whole N x ≡ (behind f N x || S x)
    pub union : IsUnion (length w0.toggles) more less N S

  split_lines : (f : Forks) → fork_lines e f ≡ front_lines e f ++ code_lines (top_first f) (top_code f)
  split_lines (one_fork l k) = refl
  split_lines (more_forks f n l k) = sym (append_assoc (fork_lines e f) (jump e ∷ (label n ∷ [])) (code_lines l k))

  split_marks : (f : Forks) → fork_marks d f N ≡ front_marks d f N ++ code_marks d (top_code f) N
  split_marks (one_fork l k) = refl
  split_marks (more_forks f n l k) = sym (append_assoc (fork_marks d f N) (mark d N ∷ (mark d N ∷ [])) (code_marks d k N))

  split_needed : (f : Forks) (x : ℕ) → fork_needed f N x ≡ (behind f N x || needed_by_code (top_code f) N x)
  split_needed (one_fork l k) x = refl
  split_needed (more_forks f n l k) x = swap (needed_by_code k N x) (fork_needed f N x)
    where
      swap : (a b : Bool) → (a || b) ≡ (b || a)
      swap true true = refl
      swap true false = refl
      swap false true = refl
      swap false false = refl

  now_of : (w : Needs) (b : ℕ) (M : Names) → IsAt w b M → (names : List ℕ) → ((x : ℕ) → needed_now w.toggles x ≡ differ (needed_now w0.toggles x) (is_odd_in x names))
      → IsAt w0 end N → (x : ℕ) → M x ≡ differ (N x) (is_odd_in x names)
  now_of w b M here names now before x =
      sym (here x 0 (omega arith)) ∙ now x ∙ ap (λ z. differ z (is_odd_in x names)) (before x 0 (omega arith))

  -- the first code walked is the last one
  pub fork_begun : (start : ℕ) (w : Needs) (more less : List ℕ) → IsPlaced lines e c whole start → IsAt w0 end N
      → (k : IsWalked w0 w start end (code_lines (top_first whole) (top_code whole)) (code_marks d (top_code whole) N) (λ x. needed_by_code (top_code whole) N x))
      → end ≡ start + length (code_lines (top_first whole) (top_code whole))
      → ((x : ℕ) → among x more ≡ ((among x (drop (length w0.changed.items) w.changed.items) && is_as true (needed_now w.toggles x)) || among x []))
      → ((x : ℕ) → among x less ≡ ((among x (drop (length w0.changed.items) w.changed.items) && is_as false (needed_now w.toggles x)) || among x []))
      → AtFork whole start w more less (λ x. needed_by_code (top_code whole) N x)
  fork_begun start w more less placed before k len a b =
      let names = k.keeps.0 in
      let keeps = k.keeps.1 in
      let dropped = drop_added w0.changed.items names w.changed.items keeps.changed in
      let M : Names = λ x. needed_by_code (top_code whole) N x in
      let now : (x : ℕ) → needed_now w.toggles x ≡ M x = λ x. k.here x 0 (omega arith) in
      record {
        placed = placed;
        here = k.here;
        rest = code_lines (top_first whole) (top_code whole);
        rest_marks = code_marks d (top_code whole) N;
        whole_lines = split_lines whole;
        whole_marks = split_marks whole;
        held = k.held;
        ends = len;
        names = names;
        keeps = keeps;
        needed = split_needed whole;
        union =
            union_one (length w0.toggles) names more less N M keeps.below (now_of w start M k.here names keeps.now before)
            (λ x. a x ∙ ap (λ z. (among x z && is_as true (needed_now w.toggles x)) || among x []) dropped
            ∙ ap (λ z. (among x names && is_as true z) || among x []) (now x))
            (λ x. b x ∙ ap (λ z. (among x z && is_as false (needed_now w.toggles x)) || among x []) dropped
            ∙ ap (λ z. (among x names && is_as false z) || among x []) (now x));
      }

  or_turned : (a b s : Bool) → ((a || b) || s) ≡ (a || (b || s))
  or_turned true b s = refl
  or_turned false b s = refl

  -- one code more
  pub fork_next : (g : Forks) (n l : ℕ) (k : Code) (start m start' : ℕ) (w v u : Needs) (more less more' less' : List ℕ) (S : Names) → IsAt w0 end N
      → AtFork (more_forks g n l k) start w more less S → start ≡ suc (suc m) → IsRestored w v (length w0.changed.items) (suc m)
      → IsPlaced lines e c g start'
      → IsWalked v u start' m (code_lines (top_first g) (top_code g)) (code_marks d (top_code g) N) (λ x. needed_by_code (top_code g) N x)
      → m ≡ start' + length (code_lines (top_first g) (top_code g))
      → ((x : ℕ) → among x more' ≡ ((among x (drop (length w0.changed.items) u.changed.items) && is_as true (needed_now u.toggles x)) || among x more))
      → ((x : ℕ) → among x less' ≡ ((among x (drop 0 less) && is_as false (needed_now u.toggles x)) || among x []))
      → AtFork g start' u more' less' (λ x. needed_by_code (top_code g) N x || S x)
  fork_next g n l k start m start' w v u more less more' less' S before p at r placed q len a b =
      let top : m ≤ end = let t : end ≡ start + length p.rest = p.ends in omega arith in
      let high : start ≤ end = let t : end ≡ start + length p.rest = p.ends in omega arith in
      let low : suc m ≤ start = omega arith in
      let back = restored w0 w v start end (suc m) N (λ x. needed_by_code k N x) p.names low high before p.here p.keeps r in
      let keeps = keeps_more w0 v u end m [] q.keeps.0 top back.keeps q.keeps.1 in
      let names = q.keeps.0 in
      let dropped = drop_added w0.changed.items names u.changed.items keeps.changed in
      let M : Names = λ x. needed_by_code (top_code g) N x in
      let now : (x : ℕ) → needed_now u.toggles x ≡ M x = λ x. q.here x 0 (omega arith) in
      let step = jump e ∷ (label n ∷ []) in
      let held_v : AreHeld v start p.rest p.rest_marks =
      still_held w v start end start p.rest p.rest_marks (omega arith) (let t : end ≡ start + length p.rest = p.ends in omega arith) (back.same start end low) p.held in
      let held_u : AreHeld u start p.rest p.rest_marks =
      still_held v u start end start p.rest p.rest_marks (omega arith) (let t : end ≡ start + length p.rest = p.ends in omega arith)
      (kept_same v u m start end q.keeps.0 (omega arith) q.keeps.1) held_v in
      record {
        placed = placed;
        here = q.here;
        rest = code_lines (top_first g) (top_code g) ++ (jump e ∷ (label n ∷ p.rest));
        rest_marks = code_marks d (top_code g) N ++ (mark d N ∷ (mark d N ∷ p.rest_marks));
        whole_lines =
            p.whole_lines ∙ append_assoc (fork_lines e g) step p.rest ∙ ap (λ z. z ++ (jump e ∷ (label n ∷ p.rest))) (split_lines g)
            ∙ append_assoc (front_lines e g) (code_lines (top_first g) (top_code g)) (jump e ∷ (label n ∷ p.rest));
        whole_marks =
            p.whole_marks ∙ append_assoc (fork_marks d g N) (mark d N ∷ (mark d N ∷ [])) p.rest_marks
            ∙ ap (λ z. z ++ (mark d N ∷ (mark d N ∷ p.rest_marks))) (split_marks g)
            ∙ append_assoc (front_marks d g N) (code_marks d (top_code g) N) (mark d N ∷ (mark d N ∷ p.rest_marks));
        held =
            held_append u start' m (code_lines (top_first g) (top_code g)) (jump e ∷ (label n ∷ p.rest)) (code_marks d (top_code g) N)
            (mark d N ∷ (mark d N ∷ p.rest_marks)) len q.held
            (jump_held u m e (mark d N), (label_held u (suc m) n (mark d N), subst (λ z. AreHeld u z p.rest p.rest_marks) at held_u));
        ends =
            (let t : end ≡ start + length p.rest = p.ends in
            let s = length-append (code_lines (top_first g) (top_code g)) (jump e ∷ (label n ∷ p.rest)) in omega (arith, s));
        names = names;
        keeps = keeps;
        needed = λ x.
            p.needed x ∙ ap (λ z. z || S x) (split_needed g x) ∙ or_turned (behind g N x) (needed_by_code (top_code g) N x) (S x);
        union =
            union_more (length w0.toggles) names more less more' less' N S M keeps.below (now_of u start' M q.here names keeps.now before)
            (λ x. a x ∙ ap (λ z. (among x z && is_as true (needed_now u.toggles x)) || among x more) dropped
            ∙ ap (λ z. (among x names && is_as true z) || among x more) (now x))
            (λ x. b x ∙ ap (λ z. (among x less && is_as false z) || among x []) (now x)) p.union;
      }

-- branches with their depth
tests_held : (z : Needs) (a d p : ℕ) (N : Names) (tests : List Line) → AreBranches p tests
    → ((i : ℕ) → a ≤ i → i < a + length tests → slice_get z.depths.items i ≡ Some d) → AreHeld z a tests (replicate (length tests) (mark d N))
tests_held z a d p N [] b h = tt
tests_held z a d p N (l ∷ tests) b h = (
  record {
    depth = λ e. h a (omega arith) (omega arith);
    after = λ i e. absurd (let f : [] ≡ p ∷ [] = sym (ap predicates_of e) ∙ b.0 in cc);
    cut = λ i e. absurd (let f : [] ≡ p ∷ [] = sym (ap predicates_of e) ∙ b.0 in cc);
    copy = λ t s e. absurd (let f : [] ≡ p ∷ [] = sym (ap predicates_of e) ∙ b.0 in cc);
  },
  tests_held z (suc a) d p N tests b.1 (λ i m n. h i (omega arith) (omega arith)),
)

-- What is needed before the branches is set, and they are walked.
pub record AreJoined (v z : Needs) (a start d : ℕ) (T : Names) : Type 0 where
  pub changes : ChangesAt v z a
  pub now : (x : ℕ) → needed_now z.toggles x ≡ T x
  pub depths : (i : ℕ) → a ≤ i → i < start → slice_get z.depths.items i ≡ Some d
  pub others : (i : ℕ) → start ≤ i → slice_get z.depths.items i ≡ slice_get v.depths.items i
  pub depths_size : length z.depths.items ≡ length v.depths.items
  pub copies : z.copies ≡ v.copies

pub fork_done : (lines : List Line) (J : ℕ → Bool) (d e c end a p l : ℕ) (k : Code) (whole : Forks) (N : Names) (w0 w v z : Needs) (tests : List Line) (more less : List ℕ)
    (S : Names) → IsAt w0 (suc end) N → AreBranches p tests → c ≡ a + length tests → AtFork lines J d e c end whole N w0 (one_fork l k) c w more less S
    → IsRestored w v (length w0.changed.items) a → AreJoined v z a c d (λ x. (p == x) || fork_needed whole N x)
    → IsWalked w0 z a (suc end) ((tests ++ fork_lines e whole) ++ (label e ∷ [])) ((replicate (length tests) (mark d N) ++ fork_marks d whole N) ++ (mark d N ∷ []))
    (λ x. (p == x) || fork_needed whole N x)
fork_done lines J d e c end a p l k whole N w0 w v z tests more less S before branches place at r j =
    let ends : end ≡ c + length at.rest = at.ends in
    let low : a ≤ c = omega arith in
    let high : c ≤ end = omega arith in
    let back = restored w0 w v c end a N (λ x. needed_by_code k N x) at.names low high (λ x m h. before x m (omega arith)) at.here at.keeps r in
    let names = j.changes.0 in
    let change : HasChanged v z names a = j.changes.1 in
    let joined : Keeps v z c names =
    keeps_after v z a c names low change j.others (λ i h. ap (λ q. slice_get q.items i) j.copies) j.depths_size (ap (λ q. length q.items) j.copies) in
    let keeps = keeps_more w0 v z end c [] names high back.keeps joined in
    let size = length-append tests (fork_lines e whole) in
    let count : length (fork_lines e whole) ≡ length at.rest = ap length at.whole_lines in
    let held_v : AreHeld v c at.rest at.rest_marks = still_held w v c end c at.rest at.rest_marks (omega arith) (omega arith) (back.same c end low) at.held in
    let held_z : AreHeld z c at.rest at.rest_marks =
    still_held v z c end c at.rest at.rest_marks (omega arith) (omega arith) (kept_same v z c c end names (omega arith) joined) held_v in
    record {
      here = λ x m h. all_alike v z a a N names (omega arith) back.here change.toggled x m h ∙ j.now x;
      held =
          held_append z a end (tests ++ fork_lines e whole) (label e ∷ []) (replicate (length tests) (mark d N) ++ fork_marks d whole N) (mark d N ∷ [])
          (omega (arith, size, count))
          (held_append z a c tests (fork_lines e whole) (replicate (length tests) (mark d N)) (fork_marks d whole N) place
          (tests_held z a d p N tests branches (λ i m n. j.depths i m (omega arith)))
          (subst (λ q. AreHeld z c q (fork_marks d whole N)) (sym at.whole_lines) (subst (λ q. AreHeld z c at.rest q) (sym at.whole_marks) held_z)))
          (label_held z end e (mark d N), tt);
      keeps = (
        names,
        record {
          changed = keeps.changed;
          below = keeps.below;
          now = keeps.now;
          need = λ x m h. keeps.need x m (omega arith);
          size = keeps.size;
          kept = keeps.kept;
          depths = λ i h. keeps.depths i (omega arith);
          copies = λ i h. keeps.copies i (omega arith);
          depths_size = keeps.depths_size;
          copies_size = keeps.copies_size;
        },
      );
    }
