-- The last lines of code: none of them is a jump.
use Rattle.std.proofs.Common.{◌≡◌, ◌≢◌, ◌≤◌, ℕ, suc, ◌+◌, List, [], ◌∷◌, ◌++◌, map, Option, Some, None, refl, sym, ap, ◌∙◌, subst, append_assoc, arith}
use Rattle.s_linear.specs.Linear.{Instr, Step, plain, choice, loop, Code, no_steps, step_then, Codes, no_codes, code_then}
use Rattle.s_linear.specs.Lines.{Line, done, enter, leave, branch_not_zero, branch_zero, branch_equal, jump, label, LinesOf, counted, code_labels, step_labels, last_from, others_from, branches, last_lines, labelled, before_last, choice_lines, step_lines, code_lines, codes_lines}
use Rattle.a_share.specs.Rows.{StandAt, Row, no_row, then_instr, then_label, then_loop, then_choice, then_same, row_lines, turn_lines, end_label}
use Rattle.a_share.specs.Walking.{jump_of, line_before, Stops, at_line, at_its_label, at_a_label}

-- the last of these lines, or one before them
abbrev pub last_or : Option Line → List Line → Option Line
last_or o [] = o
last_or o (l ∷ ls) = last_or (Some l) ls

pub last_append : (o : Option Line) (xs ys : List Line) → last_or o (xs ++ ys) ≡ last_or (last_or o xs) ys
last_append o [] ys = refl
last_append o (x ∷ xs) ys = last_append (Some x) xs ys

pub before_end : (lines : List Line) (a b : ℕ) (ls : List Line) → StandAt lines a ls b → line_before lines b ≡ last_or (line_before lines a) ls
before_end lines a b [] h = ap (λ z. line_before lines z) (sym h)
before_end lines a b (l ∷ ls) h = before_end lines (suc a) b ls h.1 ∙ ap (λ z. last_or z ls) h.0

abbrev pub IsNoJump : Option Line → Type 0
IsNoJump o = jump_of o ≡ None

-- after a line that is no jump none stands at the end
abbrev pub EndsWell : List Line → Type 0
EndsWell ls = (o : Option Line) → IsNoJump o → IsNoJump (last_or o ls)

append_ends : (xs ys : List Line) → EndsWell xs → EndsWell ys → EndsWell (xs ++ ys)
append_ends xs ys p q o h = ap jump_of (last_append o xs ys) ∙ q (last_or o xs) (p o h)

-- whatever stands before, a label is no jump
pub label_ends : (xs : List Line) (n : ℕ) → EndsWell (xs ++ label n ∷ [])
label_ends xs n o h = ap jump_of (last_append o xs (label n ∷ []))

loop_ends : (xs : List Line) (n : ℕ) → EndsWell (xs ++ jump n ∷ label (suc n) ∷ [])
loop_ends xs n o h = ap jump_of (last_append o xs (jump n ∷ label (suc n) ∷ []))

none_end : EndsWell []
none_end o h = h

choice_ends : (p first : ℕ) (cs : List LinesOf) → EndsWell (choice_lines p first cs)
choice_ends p first [] = none_end
choice_ends p first (c ∷ []) = label_ends ((branches p 0 first (c ∷ []) ++ last_lines (c ∷ [])) ++ labelled 0 first (first + 0) (c ∷ [])) (first + 0)
choice_ends p first (c ∷ d ∷ []) = label_ends ((branch_not_zero p first ∷ c) ++ (jump (suc first) ∷ label first ∷ d)) (suc first)
choice_ends p first (c ∷ d ∷ e ∷ cs) =
    let all = c ∷ d ∷ e ∷ cs in
    label_ends ((branches p 0 first all ++ last_lines all) ++ labelled 0 first (first + before_last all) all) (first + before_last all)

instr_ends : (i : Instr) → EndsWell (done i ∷ [])
instr_ends i o h = refl

pub step_ends : (first : ℕ) (s : Step) → EndsWell (step_lines first s)
step_ends first (plain i) = instr_ends i
step_ends first (choice p cs) = choice_ends p first (codes_lines (last_from (first + counted cs) cs) (others_from (first + counted cs) cs) cs)
step_ends first (loop moves body p back) =
    loop_ends ((map done moves ++ (label first ∷ code_lines (2 + first) body)) ++ (branch_zero p (suc first) ∷ map done back)) first

pub code_ends : (first : ℕ) (c : Code) → EndsWell (code_lines first c)
code_ends first no_steps = none_end
code_ends first (step_then s c) =
    append_ends (step_lines first s) (code_lines (first + step_labels s) c) (step_ends first s) (code_ends (first + step_labels s) c)

turn_ends : (l : ℕ) (body : Code) (p : ℕ) (back : List Instr) → EndsWell (turn_lines l body p back)
turn_ends l body p back o h =
    ap jump_of (last_append (Some (label l)) (code_lines (2 + l) body) (branch_zero p (suc l) ∷ (map done back ++ (jump l ∷ label (suc l) ∷ [])))
    ∙ last_append (Some (branch_zero p (suc l))) (map done back) (jump l ∷ label (suc l) ∷ []))

pub row_ends : (r : Row) → EndsWell (row_lines r)
row_ends no_row = none_end
row_ends (then_instr r i) = append_ends (row_lines r) (done i ∷ []) (row_ends r) (instr_ends i)
row_ends (then_label r l) = label_ends (row_lines r) l
row_ends (then_loop r l body p back) = append_ends (row_lines r) (turn_lines l body p back) (row_ends r) (turn_ends l body p back)
row_ends (then_choice r l p cs) = append_ends (row_lines r) (step_lines l (choice p cs)) (row_ends r) (step_ends l (choice p cs))
row_ends (then_same r) = row_ends r

pub stops_no_jump : (lines : List Line) (stop : Option ℕ) (a : ℕ) → Stops lines stop a → IsNoJump (line_before lines a)
stops_no_jump lines stop a (at_line l e i n j) = ap jump_of e ∙ no_jump_line l j
  where
    no_jump_line : (l : Line) → ((n : ℕ) → l ≢ jump n) → jump_of (Some l) ≡ None
    no_jump_line (enter xs) h = refl
    no_jump_line (leave x) h = refl
    no_jump_line (done i) h = refl
    no_jump_line (branch_not_zero p n) h = refl
    no_jump_line (branch_zero p n) h = refl
    no_jump_line (branch_equal p r n) h = refl
    no_jump_line (jump n) h = absurd (h n refl)
    no_jump_line (label n) h = refl
stops_no_jump lines stop a (at_its_label n e s) = ap jump_of e
stops_no_jump lines stop a (at_a_label n s e f g) = ap jump_of e

-- no jump stands before a row's end
pub row_no_jump : (lines : List Line) (stop : Option ℕ) (a b : ℕ) (r : Row) → Stops lines stop a → StandAt lines a (row_lines r) b → IsNoJump (line_before lines b)
row_no_jump lines stop a b r s h =
    ap jump_of (before_end lines a b (row_lines r) h) ∙ row_ends r (line_before lines a) (stops_no_jump lines stop a s)

-- ---- the end of a choice

-- the lines of each code end well
abbrev pub AllEndWell : List LinesOf → Type 0
AllEndWell [] = Unit {0}
AllEndWell (c ∷ cs) = EndsWell c × AllEndWell cs

pub codes_end : (last others : ℕ) (cs : Codes) → AllEndWell (codes_lines last others cs)
codes_end last others no_codes = tt
codes_end last others (code_then c no_codes) = (code_ends last c, tt)
codes_end last others (code_then c (code_then d cs)) = (code_ends others c, codes_end last (others + code_labels c) (code_then d cs))

last_ends : (cs : List LinesOf) → AllEndWell cs → EndsWell (last_lines cs)
last_ends [] h = none_end
last_ends (c ∷ []) h = h.0
last_ends (c ∷ d ∷ cs) h = last_ends (d ∷ cs) h.1

labelled_one : (n m : ℕ) (c ls : List Line) → EndsWell c → EndsWell ls → EndsWell ((jump n ∷ label m ∷ c) ++ ls)
labelled_one n m c ls p q o h = ap jump_of (last_append (Some (label m)) c ls) ∙ q (last_or (Some (label m)) c) (p (Some (label m)) refl)

labelled_ends : (r first end : ℕ) (cs : List LinesOf) → AllEndWell cs → EndsWell (labelled r first end cs)
labelled_ends r first end [] h = none_end
labelled_ends r first end (c ∷ []) h = none_end
labelled_ends r first end (c ∷ d ∷ cs) h =
    labelled_one end (first + r) c (labelled (suc r) first end (d ∷ cs)) h.0 (labelled_ends (suc r) first end (d ∷ cs) h.1)

branch_first : (p r l : ℕ) (ls : List Line) → EndsWell ls → EndsWell (branch_equal p r l ∷ ls)
branch_first p r l ls q o h = q (Some (branch_equal p r l)) refl

branches_end : (p r first : ℕ) (cs : List LinesOf) → EndsWell (branches p r first cs)
branches_end p r first [] = none_end
branches_end p r first (c ∷ []) = none_end
branches_end p r first (c ∷ d ∷ cs) = branch_first p r (first + r) (branches p (suc r) first (d ∷ cs)) (branches_end p (suc r) first (d ∷ cs))

-- A choice of two codes or more ends with its label, which a line of it jumps to.
pub record IsEnded (ls : List Line) (n : ℕ) : Type 0 where
  pub lines : List Line
  pub whole : ls ≡ lines ++ label n ∷ []
  pub well : EndsWell lines
  pub before : List Line
  pub after : List Line
  pub jumps : ls ≡ before ++ jump n ∷ after

many_ended : (p first : ℕ) (c d e : LinesOf) (cs : List LinesOf) → AllEndWell (c ∷ d ∷ e ∷ cs)
    → IsEnded (choice_lines p first (c ∷ d ∷ e ∷ cs)) (first + before_last (c ∷ d ∷ e ∷ cs))
many_ended p first c d e cs h =
    let all = c ∷ d ∷ e ∷ cs in
    let end = first + before_last all in
    record {
      lines = (branches p 0 first all ++ last_lines all) ++ labelled 0 first end all;
      whole = refl;
      well = append_ends (branches p 0 first all ++ last_lines all) (labelled 0 first end all)
          (append_ends (branches p 0 first all) (last_lines all) (branches_end p 0 first all) (last_ends all h)) (labelled_ends 0 first end all h);
      before = branches p 0 first all ++ last_lines all;
      after = (label (first + 0) ∷ c ++ labelled 1 first end (d ∷ e ∷ cs)) ++ label end ∷ [];
      jumps = append_assoc (branches p 0 first all ++ last_lines all) (labelled 0 first end all) (label end ∷ []);
    }

two_ended : (p first : ℕ) (c d : LinesOf) → EndsWell d → IsEnded (choice_lines p first (c ∷ d ∷ [])) (suc first)
two_ended p first c d h = record {
  lines = (branch_not_zero p first ∷ c) ++ (jump (suc first) ∷ label first ∷ d);
  whole = refl;
  well = λ o e. ap jump_of (last_append (Some (branch_not_zero p first)) c (jump (suc first) ∷ label first ∷ d)) ∙ h (Some (label first)) refl;
  before = branch_not_zero p first ∷ c;
  after = (label first ∷ d) ++ label (suc first) ∷ [];
  jumps = append_assoc (branch_not_zero p first ∷ c) (jump (suc first) ∷ label first ∷ d) (label (suc first) ∷ []);
}

counted_before : (last others : ℕ) (c : Code) (cs : Codes) → before_last (codes_lines last others (code_then c cs)) ≡ counted cs
counted_before last others c no_codes = refl
counted_before last others c (code_then d no_codes) = refl
counted_before last others c (code_then d (code_then e cs)) =
    ap suc (counted_before last (others + code_labels c) d (code_then e cs))

pub choice_ended : (p first : ℕ) (cs : Codes) → 2 ≤ counted cs → IsEnded (step_lines first (choice p cs)) (end_label first cs)
choice_ended p first no_codes h = absurd (omega arith)
choice_ended p first (code_then c no_codes) h = absurd (omega arith)
choice_ended p first (code_then c (code_then d no_codes)) h =
    let n = first + 2 in
    subst (λ z. IsEnded (choice_lines p first (code_lines n c ∷ code_lines (n + code_labels c) d ∷ [])) z) (omega arith)
    (two_ended p first (code_lines n c) (code_lines (n + code_labels c) d) (code_ends (n + code_labels c) d))
choice_ended p first (code_then c (code_then d (code_then e cs))) h =
    let all = code_then c (code_then d (code_then e cs)) in
    let n = first + counted all in
    let same : first + counted (code_then d (code_then e cs)) ≡ end_label first all = omega arith in
    subst (λ z. IsEnded (step_lines first (choice p all)) z)
    (ap (λ z. first + z) (counted_before (last_from n all) (others_from n all) c (code_then d (code_then e cs))) ∙ same)
    (many_of (codes_lines (last_from n all) (others_from n all) all) (codes_end (last_from n all) (others_from n all) all)
    (counted_before (last_from n all) (others_from n all) c (code_then d (code_then e cs))))
  where
    many_of : (ls : List LinesOf) → AllEndWell ls → before_last ls ≡ suc (suc (counted cs)) → IsEnded (choice_lines p first ls) (first + before_last ls)
    many_of [] w q = absurd (omega arith)
    many_of (x ∷ []) w q = absurd (omega arith)
    many_of (x ∷ y ∷ []) w q = absurd (omega arith)
    many_of (x ∷ y ∷ z ∷ xs) w q = many_ended p first x y z xs w
