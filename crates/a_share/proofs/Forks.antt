-- The codes of a choice in the order in which they stand.
use Rattle.std.proofs.Common.{◌≡◌, ◌<◌, ◌≤◌, ℕ, suc, ◌+◌, Bool, true, false, ◌&&◌, ◌||◌, List, [], ◌∷◌, ◌++◌, replicate, length, refl, sym, ap, ◌∙◌, append_assoc, arith}
use Rattle.std.specs.Prelude.{◌==◌, nat_le}
use Rattle.std.proofs.lemmas.List.{append-nil}
use Rattle.std.proofs.lemmas.Bool.Decides.{nat_tests}
use Rattle.s_linear.specs.Linear.{choice, Code, Codes, no_codes, code_then}
use Rattle.s_linear.specs.Lines.{Line, branch_not_zero, jump, label, LinesOf, counted, code_labels, last_labels, last_from, others_from, branches, last_lines, labelled, before_last, choice_lines, step_lines, code_lines, codes_lines}
use Rattle.a_place.specs.Share.{Names, needed_by_code, needed_by_codes, needed_by_step, last_of}
use Rattle.a_place.specs.Marks.{Mark, mark, branch_marks, labelled_marks, choice_marks, step_marks, code_marks, codes_marks}
use Rattle.a_place.specs.Turns.{CodeHasOwnTurns, HaveOwnTurns}
use Rattle.a_share.specs.Rows.{CodeIsUnjumped, CodesAreUnjumped, end_label}
use Rattle.a_share.specs.Walk.{predicates_of}

-- The code that stands first, and each other one after a jump and its label. Labels in a code are numbered from a number on.
pub data Forks : Type 0 where
  one_fork : (first : ℕ) → Code → Forks
  more_forks : Forks → (label : ℕ) → (first : ℕ) → Code → Forks

abbrev pub fork_lines : (end : ℕ) → Forks → List Line
fork_lines e (one_fork l c) = code_lines l c
fork_lines e (more_forks f n l c) = fork_lines e f ++ (jump e ∷ (label n ∷ code_lines l c))

abbrev pub fork_marks : (depth : ℕ) → Forks → Names → List Mark
fork_marks d (one_fork l c) N = code_marks d c N
fork_marks d (more_forks f n l c) N = fork_marks d f N ++ (mark d N ∷ (mark d N ∷ code_marks d c N))

abbrev pub fork_needed : Forks → Names → Names
fork_needed (one_fork l c) N x = needed_by_code c N x
fork_needed (more_forks f n l c) N x = needed_by_code c N x || fork_needed f N x

abbrev pub fork_count : Forks → ℕ
fork_count (one_fork l c) = 0
fork_count (more_forks f n l c) = suc (fork_count f)

-- what the walk asks of the codes; `end` is the label at the end of the choice
abbrev pub ForksFit : (is_jumped : ℕ → Bool) → (end : ℕ) → Forks → Names → Type 0
ForksFit J e (one_fork l c) N = CodeHasOwnTurns c N × CodeIsUnjumped J l c × (e < l)
ForksFit J e (more_forks f n l c) N = ForksFit J e f N × CodeHasOwnTurns c N × CodeIsUnjumped J l c × (e < l)

abbrev pub AreBranches : (predicate : ℕ) → List Line → Type 0
AreBranches p [] = Unit {0}
AreBranches p (l ∷ ls) = (predicates_of l ≡ p ∷ []) × AreBranches p ls

pub record IsForked (J : ℕ → Bool) (d first p : ℕ) (cs : Codes) (N : Names) : Type 0 where
  pub tests : List Line
  pub forks : Forks
  pub lines : step_lines first (choice p cs) ≡ (tests ++ fork_lines (end_label first cs) forks) ++ (label (end_label first cs) ∷ [])
  pub marks : step_marks d (choice p cs) N ≡ (replicate (length tests) (mark d N) ++ fork_marks d forks N) ++ (mark d N ∷ [])
  pub needed : (x : ℕ) → ((p == x) || fork_needed forks N x) ≡ needed_by_step (choice p cs) N x
  pub count : length tests ≡ fork_count forks
  pub some : 1 ≤ length tests
  pub branches : AreBranches p tests
  pub fits : ForksFit J (end_label first cs) forks N

or_swap : (a b : Bool) → (a || b) ≡ (b || a)
or_swap true true = refl
or_swap true false = refl
or_swap false true = refl
or_swap false false = refl

or_assoc' : (a b c : Bool) → ((a || b) || c) ≡ (a || (b || c))
or_assoc' true b c = refl
or_assoc' false b c = refl

or_none : (a : Bool) → (a || false) ≡ a
or_none true = refl
or_none false = refl

-- ---- two codes

two_forked : (J : ℕ → Bool) (d first p : ℕ) (c k : Code) (N : Names) → HaveOwnTurns (code_then c (code_then k no_codes)) N
    → CodesAreUnjumped J (first + 2 + code_labels c) (first + 2) (code_then c (code_then k no_codes)) → IsForked J d first p (code_then c (code_then k no_codes)) N
two_forked J d first p c k N own u =
    let e : end_label first (code_then c (code_then k no_codes)) ≡ suc first = omega arith in
    record {
      tests = branch_not_zero p first ∷ [];
      forks = more_forks (one_fork (first + 2) c) first (first + 2 + code_labels c) k;
      lines = rw e refl;
      marks = refl;
      needed = λ x. ap (λ z. (p == x) || z) (or_swap (needed_by_code k N x) (needed_by_code c N x) ∙ ap (λ z. needed_by_code c N x || z) (sym (or_none (needed_by_code k N x))));
      count = refl;
      some = omega arith;
      branches = (refl, tt);
      fits = ((own.0, u.0, omega arith), own.1.0, u.1, omega arith);
    }

-- ---- more codes

-- after some forks all but the last of these codes
abbrev with_forks : (number first others : ℕ) → Codes → Forks → Forks
with_forks r first o no_codes f = f
with_forks r first o (code_then c no_codes) f = f
with_forks r first o (code_then c (code_then k ks)) f = with_forks (suc r) first (o + code_labels c) (code_then k ks) (more_forks f (first + r) o c)

with_lines : (r first o e last : ℕ) (cs : Codes) (f : Forks) → fork_lines e (with_forks r first o cs f) ≡ fork_lines e f ++ labelled r first e (codes_lines last o cs)
with_lines r first o e last no_codes f = sym (append-nil (fork_lines e f))
with_lines r first o e last (code_then c no_codes) f = sym (append-nil (fork_lines e f))
with_lines r first o e last (code_then c (code_then k no_codes)) f =
    with_lines (suc r) first (o + code_labels c) e last (code_then k no_codes) (more_forks f (first + r) o c)
    ∙ append_assoc (fork_lines e f) (jump e ∷ (label (first + r) ∷ code_lines o c)) (labelled (suc r) first e (codes_lines last (o + code_labels c) (code_then k no_codes)))
with_lines r first o e last (code_then c (code_then k (code_then i ks))) f =
    with_lines (suc r) first (o + code_labels c) e last (code_then k (code_then i ks)) (more_forks f (first + r) o c)
    ∙ append_assoc (fork_lines e f) (jump e ∷ (label (first + r) ∷ code_lines o c)) (labelled (suc r) first e (codes_lines last (o + code_labels c) (code_then k (code_then i ks))))

with_marks : (d r first o : ℕ) (cs : Codes) (f : Forks) (N : Names)
    → fork_marks d (with_forks r first o cs f) N ≡ fork_marks d f N ++ labelled_marks (mark d N) (codes_marks d cs N)
with_marks d r first o no_codes f N = sym (append-nil (fork_marks d f N))
with_marks d r first o (code_then c no_codes) f N = sym (append-nil (fork_marks d f N))
with_marks d r first o (code_then c (code_then k ks)) f N =
    with_marks d (suc r) first (o + code_labels c) (code_then k ks) (more_forks f (first + r) o c) N
    ∙ append_assoc (fork_marks d f N) (mark d N ∷ (mark d N ∷ code_marks d c N)) (labelled_marks (mark d N) (codes_marks d (code_then k ks) N))

-- the last of a code and these, and what the others need
abbrev last_code : Code → Codes → Code
last_code c no_codes = c
last_code c (code_then k ks) = last_code k ks

abbrev others_need : Code → Codes → Names → Names
others_need c no_codes N x = false
others_need c (code_then k ks) N x = needed_by_code c N x || others_need k ks N x

last_is : (last o : ℕ) (c : Code) (cs : Codes) → last_lines (codes_lines last o (code_then c cs)) ≡ code_lines last (last_code c cs)
last_is last o c no_codes = refl
last_is last o c (code_then k no_codes) = refl
last_is last o c (code_then k (code_then i ks)) = last_is last (o + code_labels c) k (code_then i ks)

last_marks : (d : ℕ) (c : Code) (cs : Codes) (N : Names) → last_of (codes_marks d (code_then c cs) N) ≡ code_marks d (last_code c cs) N
last_marks d c no_codes N = refl
last_marks d c (code_then k ks) N = last_marks d k ks N

with_needed : (r first o : ℕ) (c : Code) (cs : Codes) (f : Forks) (N : Names) (x : ℕ)
    → fork_needed (with_forks r first o (code_then c cs) f) N x ≡ (others_need c cs N x || fork_needed f N x)
with_needed r first o c no_codes f N x = refl
with_needed r first o c (code_then k ks) f N x =
    with_needed (suc r) first (o + code_labels c) k ks (more_forks f (first + r) o c) N x
    ∙ turned (others_need k ks N x) (needed_by_code c N x) (fork_needed f N x)
  where
    turned : (a b c : Bool) → (a || (b || c)) ≡ ((b || a) || c)
    turned true true c = refl
    turned true false c = refl
    turned false true c = refl
    turned false false c = refl

all_needed : (c : Code) (cs : Codes) (N : Names) (x : ℕ) → (others_need c cs N x || needed_by_code (last_code c cs) N x) ≡ needed_by_codes (code_then c cs) N x
all_needed c no_codes N x = sym (or_none (needed_by_code c N x))
all_needed c (code_then k ks) N x =
    or_assoc' (needed_by_code c N x) (others_need k ks N x) (needed_by_code (last_code k ks) N x)
    ∙ ap (λ z. needed_by_code c N x || z) (all_needed k ks N x)

with_count : (p r s first o q last : ℕ) (c : Code) (cs : Codes) (f : Forks)
    → length (branches p r first (codes_lines last o (code_then c cs))) + fork_count f ≡ fork_count (with_forks s first q (code_then c cs) f)
with_count p r s first o q last c no_codes f = omega arith
with_count p r s first o q last c (code_then k no_codes) f =
    let rest = with_count p (suc r) (suc s) first (o + code_labels c) (q + code_labels c) last k no_codes (more_forks f (first + s) q c) in omega (arith, rest)
with_count p r s first o q last c (code_then k (code_then i ks)) f =
    let rest = with_count p (suc r) (suc s) first (o + code_labels c) (q + code_labels c) last k (code_then i ks) (more_forks f (first + s) q c) in omega (arith, rest)

branches_are : (p r first : ℕ) (cs : List LinesOf) → AreBranches p (branches p r first cs)
branches_are p r first [] = tt
branches_are p r first (c ∷ []) = tt
branches_are p r first (c ∷ d ∷ cs) = (refl, branches_are p (suc r) first (d ∷ cs))

branches_marked : (p r first o last d : ℕ) (c : Code) (cs : Codes) (N : Names)
    → branch_marks (mark d N) (codes_marks d (code_then c cs) N) ≡ replicate (length (branches p r first (codes_lines last o (code_then c cs)))) (mark d N)
branches_marked p r first o last d c no_codes N = refl
branches_marked p r first o last d c (code_then k no_codes) N =
    ap (λ z. mark d N ∷ z) (branches_marked p (suc r) first (o + code_labels c) last d k no_codes N)
branches_marked p r first o last d c (code_then k (code_then i ks)) N =
    ap (λ z. mark d N ∷ z) (branches_marked p (suc r) first (o + code_labels c) last d k (code_then i ks) N)

with_fit : (J : ℕ → Bool) (e r first o last : ℕ) (c : Code) (cs : Codes) (f : Forks) (N : Names) → HaveOwnTurns (code_then c cs) N
    → CodesAreUnjumped J last o (code_then c cs) → e < o → ForksFit J e f N → ForksFit J e (with_forks r first o (code_then c cs) f) N
with_fit J e r first o last c no_codes f N own u h g = g
with_fit J e r first o last c (code_then k ks) f N own u h g =
    with_fit J e (suc r) first (o + code_labels c) last k ks (more_forks f (first + r) o c) N own.1 u.1 (omega arith) (g, own.0, u.0, h)

last_fits : (J : ℕ → Bool) (last o : ℕ) (c : Code) (cs : Codes) (N : Names) → HaveOwnTurns (code_then c cs) N → CodesAreUnjumped J last o (code_then c cs)
    → CodeHasOwnTurns (last_code c cs) N × CodeIsUnjumped J last (last_code c cs)
last_fits J last o c no_codes N own u = (own.0, u)
last_fits J last o c (code_then k ks) N own u = last_fits J last (o + code_labels c) k ks N own.1 u.1

before_counted : (last o : ℕ) (c : Code) (cs : Codes) → before_last (codes_lines last o (code_then c cs)) ≡ counted cs
before_counted last o c no_codes = refl
before_counted last o c (code_then k no_codes) = refl
before_counted last o c (code_then k (code_then i ks)) = ap suc (before_counted last (o + code_labels c) k (code_then i ks))

-- the lines and marks of more codes than two
many_lines : (p first end : ℕ) (ls : List LinesOf) (ks : List Line) → 3 ≤ length ls → first + before_last ls ≡ end
    → ks ≡ last_lines ls ++ labelled 0 first end ls → choice_lines p first ls ≡ (branches p 0 first ls ++ ks) ++ (label end ∷ [])
many_lines p first end [] ks h e f = absurd (omega arith)
many_lines p first end (a ∷ []) ks h e f = absurd (omega arith)
many_lines p first end (a ∷ b ∷ []) ks h e f = absurd (omega arith)
many_lines p first end (a ∷ b ∷ c ∷ ls) ks h e f =
    let all = a ∷ b ∷ c ∷ ls in
    rw (e, f) (ap (λ z. z ++ (label end ∷ [])) (append_assoc (branches p 0 first all) (last_lines all) (labelled 0 first end all)))

many_marks : (m : Mark) (ms : List (List Mark)) (bs ks : List Mark) → 3 ≤ length ms → bs ≡ branch_marks m ms → ks ≡ last_of ms ++ labelled_marks m ms
    → choice_marks m ms ≡ (bs ++ ks) ++ (m ∷ [])
many_marks m [] bs ks h e f = absurd (omega arith)
many_marks m (a ∷ []) bs ks h e f = absurd (omega arith)
many_marks m (a ∷ b ∷ []) bs ks h e f = absurd (omega arith)
many_marks m (a ∷ b ∷ c ∷ ms) bs ks h e f =
    let all = a ∷ b ∷ c ∷ ms in
    rw (e, f) (ap (λ z. z ++ (m ∷ [])) (append_assoc (branch_marks m all) (last_of all) (labelled_marks m all)))

lines_counted : (last o : ℕ) (cs : Codes) → length (codes_lines last o cs) ≡ counted cs
lines_counted last o no_codes = refl
lines_counted last o (code_then c no_codes) = refl
lines_counted last o (code_then c (code_then k ks)) = ap suc (lines_counted last (o + code_labels c) (code_then k ks))

marks_counted : (d : ℕ) (cs : Codes) (N : Names) → length (codes_marks d cs N) ≡ counted cs
marks_counted d no_codes N = refl
marks_counted d (code_then c cs) N = ap suc (marks_counted d cs N)

many_forked : (J : ℕ → Bool) (d first p : ℕ) (c k i : Code) (ks : Codes) (N : Names) → HaveOwnTurns (code_then c (code_then k (code_then i ks))) N
    → CodesAreUnjumped J (first + counted (code_then c (code_then k (code_then i ks))))
    (first + counted (code_then c (code_then k (code_then i ks))) + last_labels (code_then c (code_then k (code_then i ks)))) (code_then c (code_then k (code_then i ks)))
    → IsForked J d first p (code_then c (code_then k (code_then i ks))) N
many_forked J d first p c k i ks N own u =
    let rest = code_then k (code_then i ks) in
    let all = code_then c rest in
    let n = first + counted all in
    let o = n + last_labels all in
    let e = end_label first all in
    let base = one_fork n (last_code c rest) in
    let forks = with_forks 0 first o all base in
    let end : first + before_last (codes_lines n o all) ≡ e = ap (λ z. first + z) (before_counted n o c rest) ∙ omega arith in
    let lines_count : length (codes_lines n o all) ≡ counted all = lines_counted n o all in
    let marks_count : length (codes_marks d all N) ≡ counted all = marks_counted d all N in
    let count : length (branches p 0 first (codes_lines n o all)) + 0 ≡ fork_count forks = with_count p 0 0 first o o n c rest base in
    let below : e < n = omega arith in
    let under : e < o = omega arith in
    let many : nat_le 2 (counted all) ≡ true = grind (arith, nat_tests) in
    record {
      tests = branches p 0 first (codes_lines n o all);
      forks = forks;
      lines =
          many_lines p first e (codes_lines n o all) (fork_lines e forks) (omega arith) end
          (with_lines 0 first o e n all base ∙ ap (λ z. z ++ labelled 0 first e (codes_lines n o all)) (sym (last_is n o c rest)));
      marks =
          many_marks (mark d N) (codes_marks d all N) (replicate (length (branches p 0 first (codes_lines n o all))) (mark d N)) (fork_marks d forks N) (omega arith)
          (sym (branches_marked p 0 first o n d c rest N))
          (with_marks d 0 first o all base N ∙ ap (λ z. z ++ labelled_marks (mark d N) (codes_marks d all N)) (sym (last_marks d c rest N)));
      needed = λ x.
          ap (λ z. (p == x) || z) (with_needed 0 first o c rest base N x ∙ all_needed c rest N x)
          ∙ sym (ap (λ z. (z && (p == x)) || needed_by_codes all N x) many);
      count = omega (arith, count);
      some = some_count p first (codes_lines n o all) (omega arith);
      branches = branches_are p 0 first (codes_lines n o all);
      fits = (let l = last_fits J n o c rest N own u in with_fit J e 0 first o n c rest base N own u under (l.0, l.1, below));
    }
  where
    some_count : (p first : ℕ) (ls : List LinesOf) → 2 ≤ length ls → 1 ≤ length (branches p 0 first ls)
    some_count p first [] h = absurd (omega arith)
    some_count p first (a ∷ []) h = absurd (omega arith)
    some_count p first (a ∷ b ∷ ls) h = omega arith

pub choice_forked : (J : ℕ → Bool) (d first p : ℕ) (cs : Codes) (N : Names) → 2 ≤ counted cs → HaveOwnTurns cs N
    → CodesAreUnjumped J (last_from (first + counted cs) cs) (others_from (first + counted cs) cs) cs → IsForked J d first p cs N
choice_forked J d first p no_codes N h own u = absurd (omega arith)
choice_forked J d first p (code_then c no_codes) N h own u = absurd (omega arith)
choice_forked J d first p (code_then c (code_then k no_codes)) N h own u = two_forked J d first p c k N own u
choice_forked J d first p (code_then c (code_then k (code_then i ks))) N h own u = many_forked J d first p c k i ks N own u
