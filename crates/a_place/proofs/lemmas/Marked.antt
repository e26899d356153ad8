-- The marks of a code stand beside its lines, one beside each, and give its sites.
use Rattle.std.proofs.Common.{◌≡◌, ℕ, suc, ◌+◌, List, [], ◌∷◌, ◌++◌, length, refl, sym, ap, ◌∙◌, arith}
use Rattle.std.specs.Prelude.{false, map, ◌==◌}
use Rattle.val_core.specs.Numbers.{numbers_from}
use Rattle.std.proofs.lemmas.List.{append_assoc, append-nil}
use Rattle.s_linear.specs.Linear.{Instr, Step, plain, choice, loop, Code, no_steps, step_then, Codes, no_codes, code_then, LinearFunction}
use Rattle.s_linear.specs.Lines.{Line, enter, leave, done, branch_not_zero, branch_zero, branch_equal, jump, label, counted, step_labels, code_labels, last_from, others_from, LinesOf, branches, last_lines, labelled, before_last, choice_lines, step_lines, code_lines, codes_lines, lines}
use Rattle.a_place.specs.Share.{Names, needed_by_instrs, needed_by_code, at_label, at_branch, Site, tests, last_of, others_of, as_they_stand, branch_sites, instr_sites, step_sites, code_sites, codes_sites, sites}
use Rattle.a_place.specs.Marks.{Mark, mark, instr_marks, branch_marks, labelled_marks, choice_marks, step_marks, code_marks, codes_marks, marks, site_of, sites_at, SitesStandAtLines}

-- The first and the last line of a function stand in no loop.
abbrev pub IsFlat : Line → Mark → Type 0
IsFlat (enter xs) m = m.depth ≡ 0
IsFlat (leave v) m = m.depth ≡ 0
IsFlat l m = Unit {0}

abbrev pub AreFlat : List Line → List Mark → Type 0
AreFlat [] ms = Unit {0}
AreFlat (l ∷ ls) [] = Unit {0}
AreFlat (l ∷ ls) (m ∷ ms) = IsFlat l m × AreFlat ls ms

pub record IsMarked (ls : List Line) (ms : List Mark) (ss : List Site) : Type 0 where
  pub same : length ls ≡ length ms
  pub here : sites_at ls ms ≡ ss
  pub flat : AreFlat ls ms

marked_none : IsMarked [] [] []
marked_none = record { same = refl; here = refl; flat = tt }

-- one line more
marked_line : (l : Line) (m : Mark) (ls : List Line) (ms : List Mark) (ss : List Site) → IsFlat l m → IsMarked ls ms ss
    → IsMarked (l ∷ ls) (m ∷ ms) (site_of l m ++ ss)
marked_line l m ls ms ss f a = record { same = ap suc a.same; here = ap (λ z. site_of l m ++ z) a.here; flat = (f, a.flat) }

sites_append : (ls ks : List Line) (ms ns : List Mark) → length ls ≡ length ms → sites_at (ls ++ ks) (ms ++ ns) ≡ sites_at ls ms ++ sites_at ks ns
sites_append [] ks [] ns e = refl
sites_append [] ks (m ∷ ms) ns e = cc
sites_append (l ∷ ls) ks [] ns e = cc
sites_append (l ∷ ls) ks (m ∷ ms) ns e =
    let less : length ls ≡ length ms = omega arith in
    ap (λ z. site_of l m ++ z) (sites_append ls ks ms ns less) ∙ sym (append_assoc (site_of l m) (sites_at ls ms) (sites_at ks ns))

same_length : (ls ks : List Line) (ms ns : List Mark) → length ls ≡ length ms → length ks ≡ length ns → length (ls ++ ks) ≡ length (ms ++ ns)
same_length [] ks [] ns e f = f
same_length [] ks (m ∷ ms) ns e f = cc
same_length (l ∷ ls) ks [] ns e f = cc
same_length (l ∷ ls) ks (m ∷ ms) ns e f = let less : length ls ≡ length ms = omega arith in ap suc (same_length ls ks ms ns less f)

flat_append : (ls ks : List Line) (ms ns : List Mark) → length ls ≡ length ms → AreFlat ls ms → AreFlat ks ns → AreFlat (ls ++ ks) (ms ++ ns)
flat_append [] ks [] ns e a b = b
flat_append [] ks (m ∷ ms) ns e a b = cc
flat_append (l ∷ ls) ks [] ns e a b = cc
flat_append (l ∷ ls) ks (m ∷ ms) ns e a b = let less : length ls ≡ length ms = omega arith in (a.0, flat_append ls ks ms ns less a.1 b)

marked_append : (ls ks : List Line) (ms ns : List Mark) (ss ts : List Site) → IsMarked ls ms ss → IsMarked ks ns ts → IsMarked (ls ++ ks) (ms ++ ns) (ss ++ ts)
marked_append ls ks ms ns ss ts a b = record {
  same = same_length ls ks ms ns a.same b.same;
  here = sites_append ls ks ms ns a.same ∙ (ap (λ z. z ++ sites_at ks ns) a.here ∙ ap (λ z. ss ++ z) b.here);
  flat = flat_append ls ks ms ns a.same a.flat b.flat;
}

marked_sites : (ls : List Line) (ms : List Mark) (ss ts : List Site) → ss ≡ ts → IsMarked ls ms ss → IsMarked ls ms ts
marked_sites ls ms ss ts e a = record { same = a.same; here = a.here ∙ e; flat = a.flat }

marked_instrs : (d : ℕ) (is : List Instr) (N : Names) → IsMarked (map done is) (instr_marks d is N) (instr_sites d is N)
marked_instrs d [] N = marked_none
marked_instrs d (i ∷ is) N =
    marked_line (done i) (mark d (needed_by_instrs is N)) (map done is) (instr_marks d is N) (instr_sites d is N) tt (marked_instrs d is N)

-- ---- choices

-- the lines, the marks and the sites of one code
record Piece : Type 0 where
  line_list : List Line
  mark_list : List Mark
  site_list : List Site

abbrev lines_in : List Piece → List LinesOf
lines_in ks = map (λ k. k.line_list) ks

abbrev marks_in : List Piece → List (List Mark)
marks_in ks = map (λ k. k.mark_list) ks

abbrev sites_in : List Piece → List (List Site)
sites_in ks = map (λ k. k.site_list) ks

abbrev EachIsMarked : List Piece → Type 0
EachIsMarked [] = Unit {0}
EachIsMarked (k ∷ ks) = IsMarked k.line_list k.mark_list k.site_list × EachIsMarked ks

-- branches, one for each piece but the last
abbrev tested : (depth predicate : ℕ) → List Piece → List Site
tested d p [] = []
tested d p (k ∷ []) = []
tested d p (k ∷ l ∷ ks) = tests d p ∷ tested d p (l ∷ ks)

marked_branches : (p r first d : ℕ) (N : Names) (ks : List Piece)
    → IsMarked (branches p r first (lines_in ks)) (branch_marks (mark d N) (marks_in ks)) (tested d p ks)
marked_branches p r first d N [] = marked_none
marked_branches p r first d N (k ∷ []) = marked_none
marked_branches p r first d N (k ∷ l ∷ ks) =
    marked_line (branch_equal p r (first + r)) (mark d N) (branches p (suc r) first (lines_in (l ∷ ks))) (branch_marks (mark d N) (marks_in (l ∷ ks)))
    (tested d p (l ∷ ks)) tt (marked_branches p (suc r) first d N (l ∷ ks))

marked_last : (ks : List Piece) → EachIsMarked ks → IsMarked (last_lines (lines_in ks)) (last_of (marks_in ks)) (last_of (sites_in ks))
marked_last [] a = marked_none
marked_last (k ∷ []) a = a.0
marked_last (k ∷ l ∷ ks) a = marked_last (l ∷ ks) a.1

marked_others : (r first end d : ℕ) (N : Names) (ks : List Piece) → EachIsMarked ks
    → IsMarked (labelled r first end (lines_in ks)) (labelled_marks (mark d N) (marks_in ks)) (others_of (sites_in ks))
marked_others r first end d N [] a = marked_none
marked_others r first end d N (k ∷ []) a = marked_none
marked_others r first end d N (k ∷ l ∷ ks) a =
    marked_append (jump end ∷ label (first + r) ∷ k.line_list) (labelled (suc r) first end (lines_in (l ∷ ks))) (mark d N ∷ mark d N ∷ k.mark_list)
    (labelled_marks (mark d N) (marks_in (l ∷ ks))) k.site_list (others_of (sites_in (l ∷ ks)))
    (marked_line (jump end) (mark d N) (label (first + r) ∷ k.line_list) (mark d N ∷ k.mark_list) k.site_list tt
    (marked_line (label (first + r)) (mark d N) k.line_list k.mark_list k.site_list tt a.0))
    (marked_others (suc r) first end d N (l ∷ ks) a.1)

abbrev end_line : ℕ → List Line
end_line n = label n ∷ []

marked_end : (n d : ℕ) (N : Names) → IsMarked (end_line n) (mark d N ∷ []) []
marked_end n d N = marked_line (label n) (mark d N) [] [] [] tt marked_none

-- lines without a site at the end change no site
marked_no_more : (ls ks : List Line) (ms ns : List Mark) (ss : List Site) → IsMarked ls ms ss → IsMarked ks ns [] → IsMarked (ls ++ ks) (ms ++ ns) ss
marked_no_more ls ks ms ns ss a b =
    marked_sites (ls ++ ks) (ms ++ ns) (ss ++ []) ss (append-nil ss) (marked_append ls ks ms ns ss [] a b)

-- of a number of codes other than two
marked_many : (p first end d : ℕ) (N : Names) (ks : List Piece) → EachIsMarked ks
    → IsMarked (branches p 0 first (lines_in ks) ++ last_lines (lines_in ks) ++ labelled 0 first end (lines_in ks) ++ label end ∷ [])
    (branch_marks (mark d N) (marks_in ks) ++ last_of (marks_in ks) ++ labelled_marks (mark d N) (marks_in ks) ++ mark d N ∷ [])
    (tested d p ks ++ (last_of (sites_in ks) ++ others_of (sites_in ks)))
marked_many p first end d N ks a =
    let first_ones = marked_append (branches p 0 first (lines_in ks)) (last_lines (lines_in ks)) (branch_marks (mark d N) (marks_in ks)) (last_of (marks_in ks))
    (tested d p ks) (last_of (sites_in ks)) (marked_branches p 0 first d N ks) (marked_last ks a) in
    let all = marked_append (branches p 0 first (lines_in ks) ++ last_lines (lines_in ks)) (labelled 0 first end (lines_in ks))
    (branch_marks (mark d N) (marks_in ks) ++ last_of (marks_in ks)) (labelled_marks (mark d N) (marks_in ks)) (tested d p ks ++ last_of (sites_in ks))
    (others_of (sites_in ks)) first_ones (marked_others 0 first end d N ks a) in
    let whole = marked_no_more (branches p 0 first (lines_in ks) ++ last_lines (lines_in ks) ++ labelled 0 first end (lines_in ks)) (end_line end)
    (branch_marks (mark d N) (marks_in ks) ++ last_of (marks_in ks) ++ labelled_marks (mark d N) (marks_in ks)) (mark d N ∷ [])
    (tested d p ks ++ last_of (sites_in ks) ++ others_of (sites_in ks)) all (marked_end end d N) in
    marked_sites (branches p 0 first (lines_in ks) ++ last_lines (lines_in ks) ++ labelled 0 first end (lines_in ks) ++ label end ∷ [])
    (branch_marks (mark d N) (marks_in ks) ++ last_of (marks_in ks) ++ labelled_marks (mark d N) (marks_in ks) ++ mark d N ∷ [])
    (tested d p ks ++ last_of (sites_in ks) ++ others_of (sites_in ks)) (tested d p ks ++ (last_of (sites_in ks) ++ others_of (sites_in ks)))
    (append_assoc (tested d p ks) (last_of (sites_in ks)) (others_of (sites_in ks))) whole

marked_two : (p first d : ℕ) (N : Names) (k l : Piece) → IsMarked k.line_list k.mark_list k.site_list → IsMarked l.line_list l.mark_list l.site_list
    → IsMarked (choice_lines p first (k.line_list ∷ l.line_list ∷ [])) (choice_marks (mark d N) (k.mark_list ∷ l.mark_list ∷ []))
    (tests d p ∷ (k.site_list ++ l.site_list))
marked_two p first d N k l a b =
    marked_no_more (branch_not_zero p first ∷ k.line_list ++ jump (suc first) ∷ label first ∷ l.line_list) (end_line (suc first))
    (mark d N ∷ k.mark_list ++ mark d N ∷ mark d N ∷ l.mark_list) (mark d N ∷ []) (tests d p ∷ k.site_list ++ l.site_list)
    (marked_append (branch_not_zero p first ∷ k.line_list) (jump (suc first) ∷ label first ∷ l.line_list) (mark d N ∷ k.mark_list)
    (mark d N ∷ mark d N ∷ l.mark_list) (tests d p ∷ k.site_list) l.site_list
    (marked_line (branch_not_zero p first) (mark d N) k.line_list k.mark_list k.site_list tt a)
    (marked_line (jump (suc first)) (mark d N) (label first ∷ l.line_list) (mark d N ∷ l.mark_list) l.site_list tt
    (marked_line (label first) (mark d N) l.line_list l.mark_list l.site_list tt b)))
    (marked_end (suc first) d N)

marked_pieces : (p first d : ℕ) (N : Names) (ks : List Piece) → EachIsMarked ks
    → IsMarked (choice_lines p first (lines_in ks)) (choice_marks (mark d N) (marks_in ks))
    (tested d p ks ++ as_they_stand (sites_in ks))
marked_pieces p first d N [] a = marked_none
marked_pieces p first d N (k ∷ []) a = marked_many p first (first + 0) d N (k ∷ []) a
marked_pieces p first d N (k ∷ l ∷ []) a = marked_two p first d N k l a.0 a.1.0
marked_pieces p first d N (k ∷ l ∷ j ∷ ks) a =
    marked_many p first (first + before_last (lines_in (k ∷ l ∷ j ∷ ks))) d N (k ∷ l ∷ j ∷ ks) a

marked_choice : (p first d : ℕ) (N : Names) (ks : List Piece) (ls : List LinesOf) (ms : List (List Mark)) (ss : List (List Site)) (bs : List Site)
    → lines_in ks ≡ ls → marks_in ks ≡ ms → sites_in ks ≡ ss → tested d p ks ≡ bs → EachIsMarked ks
    → IsMarked (choice_lines p first ls) (choice_marks (mark d N) ms) (bs ++ as_they_stand ss)
marked_choice p first d N ks ls ms ss bs e f g h a = rw (e, f, g, h) at (marked_pieces p first d N ks a)

-- ---- codes

abbrev pieces : (last others d : ℕ) → Codes → Names → List Piece
pieces last others d no_codes N = []
pieces last others d (code_then c no_codes) N =
    record { line_list = code_lines last c; mark_list = code_marks d c N; site_list = code_sites d c N } ∷ []
pieces last others d (code_then c (code_then k cs)) N =
    record { line_list = code_lines others c; mark_list = code_marks d c N; site_list = code_sites d c N }
    ∷ pieces last (others + code_labels c) d (code_then k cs) N

lines_same : (last others d : ℕ) (cs : Codes) (N : Names) → lines_in (pieces last others d cs N) ≡ codes_lines last others cs
lines_same last others d no_codes N = refl
lines_same last others d (code_then c no_codes) N = refl
lines_same last others d (code_then c (code_then k cs)) N =
    ap (λ z. code_lines others c ∷ z) (lines_same last (others + code_labels c) d (code_then k cs) N)

marks_same : (last others d : ℕ) (cs : Codes) (N : Names) → marks_in (pieces last others d cs N) ≡ codes_marks d cs N
marks_same last others d no_codes N = refl
marks_same last others d (code_then c no_codes) N = refl
marks_same last others d (code_then c (code_then k cs)) N =
    ap (λ z. code_marks d c N ∷ z) (marks_same last (others + code_labels c) d (code_then k cs) N)

sites_same : (last others d : ℕ) (cs : Codes) (N : Names) → sites_in (pieces last others d cs N) ≡ codes_sites d cs N
sites_same last others d no_codes N = refl
sites_same last others d (code_then c no_codes) N = refl
sites_same last others d (code_then c (code_then k cs)) N =
    ap (λ z. code_sites d c N ∷ z) (sites_same last (others + code_labels c) d (code_then k cs) N)

branches_same : (last others d p : ℕ) (cs : Codes) (N : Names) → tested d p (pieces last others d cs N) ≡ branch_sites d p cs
branches_same last others d p no_codes N = refl
branches_same last others d p (code_then c no_codes) N = refl
branches_same last others d p (code_then c (code_then k no_codes)) N = refl
branches_same last others d p (code_then c (code_then k (code_then j cs))) N =
    ap (λ z. tests d p ∷ z) (branches_same last (others + code_labels c) d p (code_then k (code_then j cs)) N)

mutual
  marked_step : (first d : ℕ) (s : Step) (N : Names) → IsMarked (step_lines first s) (step_marks d s N) (step_sites d s N)
  marked_step first d (plain i) N = marked_line (done i) (mark d N) [] [] [] tt marked_none
  marked_step first d (choice p cs) N =
      let last = last_from (first + counted cs) cs in
      let others = others_from (first + counted cs) cs in
      marked_choice p first d N (pieces last others d cs N) (codes_lines last others cs) (codes_marks d cs N) (codes_sites d cs N) (branch_sites d p cs)
      (lines_same last others d cs N) (marks_same last others d cs N) (sites_same last others d cs N) (branches_same last others d p cs N)
      (marked_codes last others d cs N)
  marked_step first d (loop moves body p back) N =
      let L : Names = at_label body p back N in
      let B : Names = at_branch body p back N in
      marked_no_more
      (map done moves ++ label first ∷ code_lines (2 + first) body ++ branch_zero p (suc first) ∷ map done back) (jump first ∷ end_line (suc first))
      (instr_marks d moves L ++ mark d N ∷ code_marks (suc d) body B ++ mark (suc d) N ∷ instr_marks (suc d) back L) (mark d N ∷ mark d N ∷ [])
      (instr_sites d moves L ++ code_sites (suc d) body B ++ tests (suc d) p ∷ instr_sites (suc d) back L)
      (marked_append (map done moves ++ label first ∷ code_lines (2 + first) body) (branch_zero p (suc first) ∷ map done back)
      (instr_marks d moves L ++ mark d N ∷ code_marks (suc d) body B) (mark (suc d) N ∷ instr_marks (suc d) back L)
      (instr_sites d moves L ++ code_sites (suc d) body B) (tests (suc d) p ∷ instr_sites (suc d) back L)
      (marked_append (map done moves) (label first ∷ code_lines (2 + first) body) (instr_marks d moves L) (mark d N ∷ code_marks (suc d) body B)
      (instr_sites d moves L) (code_sites (suc d) body B) (marked_instrs d moves L)
      (marked_line (label first) (mark d N) (code_lines (2 + first) body) (code_marks (suc d) body B) (code_sites (suc d) body B) tt
      (marked_code (2 + first) (suc d) body B)))
      (marked_line (branch_zero p (suc first)) (mark (suc d) N) (map done back) (instr_marks (suc d) back L) (instr_sites (suc d) back L) tt
      (marked_instrs (suc d) back L)))
      (marked_line (jump first) (mark d N) (end_line (suc first)) (mark d N ∷ []) [] tt (marked_end (suc first) d N))

  marked_code : (first d : ℕ) (c : Code) (N : Names) → IsMarked (code_lines first c) (code_marks d c N) (code_sites d c N)
  marked_code first d no_steps N = marked_none
  marked_code first d (step_then s c) N =
      marked_append (step_lines first s) (code_lines (first + step_labels s) c) (step_marks d s (needed_by_code c N)) (code_marks d c N)
      (step_sites d s (needed_by_code c N)) (code_sites d c N) (marked_step first d s (needed_by_code c N)) (marked_code (first + step_labels s) d c N)

  marked_codes : (last others d : ℕ) (cs : Codes) (N : Names) → EachIsMarked (pieces last others d cs N)
  marked_codes last others d no_codes N = tt
  marked_codes last others d (code_then c no_codes) N = (marked_code last d c N, tt)
  marked_codes last others d (code_then c (code_then k cs)) N =
      (marked_code others d c N, marked_codes last (others + code_labels c) d (code_then k cs) N)

pub marked_lines : (f : LinearFunction) → IsMarked (lines f) (marks f) (sites f)
marked_lines f =
    let N : Names = λ x. f.value == x in
    let none : Names = λ x. false in
    marked_no_more (enter (numbers_from 0 f.params) ∷ code_lines 0 f.code) (leave f.value ∷ []) (mark 0 (needed_by_code f.code N) ∷ code_marks 0 f.code N)
    (mark 0 none ∷ []) (code_sites 0 f.code N)
    (marked_line (enter (numbers_from 0 f.params)) (mark 0 (needed_by_code f.code N)) (code_lines 0 f.code) (code_marks 0 f.code N) (code_sites 0 f.code N) refl
    (marked_code 0 0 f.code N))
    (marked_line (leave f.value) (mark 0 none) [] [] [] refl marked_none)

pub sites_stand_at_lines : SitesStandAtLines
sites_stand_at_lines f = (marked_lines f).here
