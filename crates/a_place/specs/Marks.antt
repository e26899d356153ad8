-- The sites of a code by its lines: what is known at each line, in the order of the lines.
use Rattle.std.specs.Prelude.{◌≡◌, ℕ, suc, ◌==◌, false, List, [], ◌∷◌, ◌++◌}
use Rattle.s_linear.specs.Linear.{Instr, Step, plain, choice, loop, Code, no_steps, step_then, Codes, no_codes, code_then, LinearFunction}
use Rattle.s_linear.specs.Lines.{Line, done, branch_not_zero, branch_zero, branch_equal, lines}
use Rattle.a_place.specs.Share.{Names, needed_by_instrs, needed_by_code, at_label, at_branch, Site, does, tests, last_of, sites}

-- in how many loops a line stands, and what is needed after it
pub record Mark : Type 0 where
  pub depth : ℕ
  pub after : Names

abbrev pub mark : (depth : ℕ) → Names → Mark
mark d N = record { depth = d; after = N }

abbrev pub instr_marks : (depth : ℕ) → List Instr → Names → List Mark
instr_marks d [] N = []
instr_marks d (i ∷ is) N = mark d (needed_by_instrs is N) ∷ instr_marks d is N

-- of branches, of which there is one for each code but the last
abbrev pub branch_marks : Mark → List (List Mark) → List Mark
branch_marks m [] = []
branch_marks m (k ∷ []) = []
branch_marks m (k ∷ l ∷ ks) = m ∷ branch_marks m (l ∷ ks)

-- of each code but the last, after a jump and a label
abbrev pub labelled_marks : Mark → List (List Mark) → List Mark
labelled_marks m [] = []
labelled_marks m (k ∷ []) = []
labelled_marks m (k ∷ l ∷ ks) = m ∷ m ∷ k ++ labelled_marks m (l ∷ ks)

-- As `choice_lines`. Nothing is asked of what stands beside jumps and labels.
abbrev pub choice_marks : Mark → List (List Mark) → List Mark
choice_marks m [] = []
choice_marks m (k ∷ l ∷ []) = m ∷ k ++ m ∷ m ∷ l ++ m ∷ []
choice_marks m ks = branch_marks m ks ++ last_of ks ++ labelled_marks m ks ++ m ∷ []

abbrev mutual
  pub step_marks : (depth : ℕ) → Step → Names → List Mark
  step_marks d (plain i) N = mark d N ∷ []
  step_marks d (choice p cs) N = choice_marks (mark d N) (codes_marks d cs N)
  step_marks d (loop enter body p back) N =
      instr_marks d enter (at_label body p back N) ++ mark d N ∷ code_marks (suc d) body (at_branch body p back N)
      ++ mark (suc d) N ∷ instr_marks (suc d) back (at_label body p back N) ++ mark d N ∷ mark d N ∷ []

  pub code_marks : (depth : ℕ) → Code → Names → List Mark
  code_marks d no_steps N = []
  code_marks d (step_then s k) N = step_marks d s (needed_by_code k N) ++ code_marks d k N

  pub codes_marks : (depth : ℕ) → Codes → Names → List (List Mark)
  codes_marks d no_codes N = []
  codes_marks d (code_then k ks) N = code_marks d k N ∷ codes_marks d ks N

abbrev pub marks : LinearFunction → List Mark
marks f = mark 0 (needed_by_code f.code (λ x. f.value == x)) ∷ code_marks 0 f.code (λ x. f.value == x) ++ mark 0 (λ x. false) ∷ []

-- the site of a line, where an instruction or a predicate stands there
abbrev pub site_of : Line → Mark → List Site
site_of (done i) m = does m.depth i m.after ∷ []
site_of (branch_not_zero p l) m = tests m.depth p ∷ []
site_of (branch_zero p l) m = tests m.depth p ∷ []
site_of (branch_equal p r l) m = tests m.depth p ∷ []
site_of l m = []

abbrev pub sites_at : List Line → List Mark → List Site
sites_at [] ms = []
sites_at (l ∷ ls) [] = []
sites_at (l ∷ ls) (m ∷ ms) = site_of l m ++ sites_at ls ms

-- The sites of a function are those of its lines, in their order.
abbrev pub SitesStandAtLines : Type 0
SitesStandAtLines = (f : LinearFunction) → sites_at (lines f) (marks f) ≡ sites f
