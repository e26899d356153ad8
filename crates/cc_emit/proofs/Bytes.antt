-- The lines of a code have no more bytes than its steps count, of each code of a choice 32 more.
use Rattle.std.proofs.Common.{◌≡◌, ℕ, suc, ◌+◌, ◌≤◌, refl, List, [], ◌∷◌, ◌++◌, map, sum_by, arith}
use Rattle.std.proofs.lemmas.List.Sums.{sum_by-cons, sum_by-append}
use Rattle.s_linear.specs.Linear.{Instr, Step, plain, choice, loop, Code, no_steps, step_then, Codes, no_codes, code_then}
use Rattle.s_linear.specs.Lines.{Line, done, branch_not_zero, branch_zero, branch_equal, jump, label, counted, step_labels, code_labels, last_from, others_from, LinesOf, branches, last_lines, labelled, before_last, choice_lines, step_lines, code_lines, codes_lines}
use Rattle.cc_emit.specs.Sizes.{instr_bytes, line_bytes}

abbrev pub bytes : List Line → ℕ
bytes ls = sum_by line_bytes ls

abbrev pub instrs_bytes : List Instr → ℕ
instrs_bytes is = sum_by instr_bytes is

-- A loop has a branch of 20 bytes and a jump of 4, and a choice for each code a branch of at most 28 and a jump.
abbrev mutual
  pub step_bytes : Step → ℕ
  step_bytes (plain i) = instr_bytes i
  step_bytes (choice p cs) = codes_bytes cs
  step_bytes (loop moves body p back) = instrs_bytes moves + code_bytes body + instrs_bytes back + 24

  pub code_bytes : Code → ℕ
  code_bytes no_steps = 0
  code_bytes (step_then s c) = step_bytes s + code_bytes c

  pub codes_bytes : Codes → ℕ
  codes_bytes no_codes = 0
  codes_bytes (code_then c cs) = 32 + code_bytes c + codes_bytes cs

abbrev all_bytes : List LinesOf → ℕ
all_bytes [] = 0
all_bytes (c ∷ cs) = 32 + bytes c + all_bytes cs

first_line : (l : Line) (ls : List Line) → bytes (l ∷ ls) ≡ line_bytes l + bytes ls
first_line l ls = sum_by-cons line_bytes l ls

append_bytes : (xs ys : List Line) → bytes (xs ++ ys) ≡ bytes xs + bytes ys
append_bytes xs ys = sum_by-append line_bytes xs ys

done_bytes : (is : List Instr) → bytes (map done is) ≡ instrs_bytes is
done_bytes [] = refl
done_bytes (i ∷ is) = omega (arith, first_line (done i) (map done is), sum_by-cons instr_bytes i is, done_bytes is)

-- ---- choices

-- the branches, the last code and the others with their jumps
parts_bytes : (p q r first end : ℕ) (cs : List LinesOf) → bytes (branches p q first cs) + bytes (last_lines cs) + bytes (labelled r first end cs) ≤ all_bytes cs
parts_bytes p q r first end [] = omega arith
parts_bytes p q r first end (c ∷ []) = omega arith
parts_bytes p q r first end (c ∷ d ∷ cs) =
    let others = labelled (suc r) first end (d ∷ cs) in
    omega (
      arith,
      first_line (branch_equal p q (first + q)) (branches p (suc q) first (d ∷ cs)),
      first_line (jump end) (label (first + r) ∷ c ++ others),
      first_line (label (first + r)) (c ++ others),
      append_bytes c others,
      parts_bytes p (suc q) (suc r) first end (d ∷ cs),
    )

more_bytes : (p first end : ℕ) (cs : List LinesOf) → bytes (branches p 0 first cs ++ last_lines cs ++ labelled 0 first end cs ++ label end ∷ []) ≤ all_bytes cs
more_bytes p first end cs =
    omega (
      arith,
      append_bytes ((branches p 0 first cs ++ last_lines cs) ++ labelled 0 first end cs) (label end ∷ []),
      append_bytes (branches p 0 first cs ++ last_lines cs) (labelled 0 first end cs),
      append_bytes (branches p 0 first cs) (last_lines cs),
      parts_bytes p 0 0 first end cs,
    )

choice_bytes : (p first : ℕ) (cs : List LinesOf) → bytes (choice_lines p first cs) ≤ all_bytes cs
choice_bytes p first [] = omega arith
choice_bytes p first (c ∷ []) = more_bytes p first (first + 0) (c ∷ [])
choice_bytes p first (c ∷ d ∷ []) =
    omega (
      arith,
      first_line (branch_not_zero p first) (c ++ jump (suc first) ∷ label first ∷ d ++ label (suc first) ∷ []),
      append_bytes (c ++ jump (suc first) ∷ label first ∷ d) (label (suc first) ∷ []),
      append_bytes c (jump (suc first) ∷ label first ∷ d),
      first_line (jump (suc first)) (label first ∷ d),
      first_line (label first) d,
    )
choice_bytes p first (c ∷ d ∷ f ∷ cs) = more_bytes p first (first + before_last (c ∷ d ∷ f ∷ cs)) (c ∷ d ∷ f ∷ cs)

-- ---- steps

mutual
  step_lines_bytes : (first : ℕ) (s : Step) → bytes (step_lines first s) ≤ step_bytes s
  step_lines_bytes first (plain i) = omega arith
  step_lines_bytes first (choice p cs) =
      let last = last_from (first + counted cs) cs in
      let others = others_from (first + counted cs) cs in
      omega (arith, choice_bytes p first (codes_lines last others cs), codes_lines_bytes last others cs)
  step_lines_bytes first (loop moves body p back) =
      let start = map done moves ++ label first ∷ code_lines (2 + first) body in
      let end = jump first ∷ label (suc first) ∷ [] in
      omega (
        arith,
        append_bytes (start ++ branch_zero p (suc first) ∷ map done back) end,
        append_bytes start (branch_zero p (suc first) ∷ map done back),
        append_bytes (map done moves) (label first ∷ code_lines (2 + first) body),
        first_line (label first) (code_lines (2 + first) body),
        first_line (branch_zero p (suc first)) (map done back),
        done_bytes moves,
        done_bytes back,
        code_lines_bytes (2 + first) body,
      )

  pub code_lines_bytes : (first : ℕ) (c : Code) → bytes (code_lines first c) ≤ code_bytes c
  code_lines_bytes first no_steps = omega arith
  code_lines_bytes first (step_then s c) =
      let rest = code_lines (first + step_labels s) c in
      omega (arith, append_bytes (step_lines first s) rest, step_lines_bytes first s, code_lines_bytes (first + step_labels s) c)

  codes_lines_bytes : (last others : ℕ) (cs : Codes) → all_bytes (codes_lines last others cs) ≤ codes_bytes cs
  codes_lines_bytes last others no_codes = omega arith
  codes_lines_bytes last others (code_then c no_codes) = omega (arith, code_lines_bytes last c)
  codes_lines_bytes last others (code_then c (code_then d ds)) =
      omega (arith, code_lines_bytes others c, codes_lines_bytes last (others + code_labels c) (code_then d ds))
