-- The labels of a code are those from its first on, each marked once.
use Rattle.std.proofs.Common.{◌≡◌, ◌<◌, ◌≤◌, ℕ, suc, ◌+◌, true, List, [], ◌∷◌, ◌++◌, map, refl, sym, ap, ◌∙◌, arith, zero-add}
use Rattle.std.proofs.lemmas.Bool.{and_from, and_parts, lt-ltb}
use Rattle.std.specs.Prelude.{◌==◌, nat_lt, IsTrue, if◌then◌else◌}
use Rattle.std.proofs.lemmas.Bool.Decides.{nat_tests}
use Rattle.g_graph.specs.WellFormed.{all_of}
use Rattle.g_graph.proofs.lemmas.Unique.{all_of_append}
use Rattle.s_linear.specs.Linear.{Instr, Step, plain, choice, loop, Code, no_steps, step_then, Codes, no_codes, code_then, LinearFunction}
use Rattle.s_linear.specs.Lines.{Line, enter, leave, done, branch_not_zero, branch_zero, branch_equal, jump, label, counted, step_labels, code_labels, codes_labels, last_labels, LinesOf, branches, last_lines, labelled, before_last, choice_lines, step_lines, code_lines, codes_lines, marks, goes_to, lines}
use Rattle.val_core.specs.Numbers.{numbers_from}

-- whether a number is below another, as 1 or 0
abbrev under : (k n : ℕ) → ℕ
under k n = if nat_lt k n then 1 else 0

one_more : (k n : ℕ) → (if n == k then 1 else 0) + under k n ≡ under k (suc n)
one_more k n = grind (arith, nat_tests)

marks_append : (k : ℕ) (xs ys : List Line) → marks k (xs ++ ys) ≡ marks k xs + marks k ys
marks_append k [] ys = sym (zero-add (marks k ys))
marks_append k (enter ns ∷ xs) ys = marks_append k xs ys
marks_append k (leave v ∷ xs) ys = marks_append k xs ys
marks_append k (done i ∷ xs) ys = marks_append k xs ys
marks_append k (branch_not_zero p l ∷ xs) ys = marks_append k xs ys
marks_append k (branch_zero p l ∷ xs) ys = marks_append k xs ys
marks_append k (branch_equal p r l ∷ xs) ys = marks_append k xs ys
marks_append k (jump l ∷ xs) ys = marks_append k xs ys
marks_append k (label n ∷ xs) ys = omega (arith, marks_append k xs ys)

marks_instrs : (k : ℕ) (is : List Instr) → marks k (map done is) ≡ 0
marks_instrs k [] = refl
marks_instrs k (i ∷ is) = marks_instrs k is

marks_branches : (k p r first : ℕ) (cs : List LinesOf) → marks k (branches p r first cs) ≡ 0
marks_branches k p r first [] = refl
marks_branches k p r first (c ∷ []) = refl
marks_branches k p r first (c ∷ d ∷ cs) = marks_branches k p (suc r) first (d ∷ cs)

-- how often the codes of a choice mark a label
abbrev all_marks : ℕ → List LinesOf → ℕ
all_marks k [] = 0
all_marks k (c ∷ cs) = marks k c + all_marks k cs

marks_labelled : (k r first end : ℕ) (cs : List LinesOf) →
    marks k (labelled r first end cs) + marks k (last_lines cs) + under k (first + r) ≡ all_marks k cs + under k (first + (r + before_last cs))
marks_labelled k r first end [] = omega (arith, ap (λ n. under k n) (at_itself r))
  where
    at_itself : (n : ℕ) → first + n ≡ first + (n + 0)
    at_itself n = omega arith
marks_labelled k r first end (c ∷ []) = omega (arith, ap (λ n. under k n) (at_itself r))
  where
    at_itself : (n : ℕ) → first + n ≡ first + (n + 0)
    at_itself n = omega arith
marks_labelled k r first end (c ∷ d ∷ cs) =
    omega (
      arith,
      one_more k (first + r),
      marks_append k c (labelled (suc r) first end (d ∷ cs)),
      marks_labelled k (suc r) first end (d ∷ cs),
      ap (λ n. under k n) (next_is r),
      ap (λ n. under k n) (end_is r (before_last (d ∷ cs))),
    )
  where
    next_is : (n : ℕ) → suc (first + n) ≡ first + suc n
    next_is n = omega arith

    end_is : (n m : ℕ) → first + (suc n + m) ≡ first + (n + suc m)
    end_is n m = omega arith

marks_more : (k p first : ℕ) (c : LinesOf) (cs : List LinesOf) →
    marks k (branches p 0 first (c ∷ cs) ++ last_lines (c ∷ cs) ++ labelled 0 first (first + before_last (c ∷ cs)) (c ∷ cs) ++ label (first + before_last (c ∷ cs))
    ∷ []) + under k first
    ≡ all_marks k (c ∷ cs) + under k (first + suc (before_last (c ∷ cs)))
marks_more k p first c cs =
    let end : ℕ = first + before_last (c ∷ cs) in
    omega (
      arith,
      marks_append k (branches p 0 first (c ∷ cs)) (last_lines (c ∷ cs)),
      marks_append k (branches p 0 first (c ∷ cs) ++ last_lines (c ∷ cs)) (labelled 0 first end (c ∷ cs)),
      marks_append k ((branches p 0 first (c ∷ cs) ++ last_lines (c ∷ cs)) ++ labelled 0 first end (c ∷ cs)) (label end ∷ []),
      marks_branches k p 0 first (c ∷ cs),
      marks_labelled k 0 first end (c ∷ cs),
      one_more k end,
      ap (λ n. under k n) (start first),
      ap (λ n. under k n) (stop first (before_last (c ∷ cs))),
      ap (λ n. under k n) (stop_next first (before_last (c ∷ cs))),
    )
  where
    start : (n : ℕ) → n ≡ n + 0
    start n = omega arith

    stop : (n m : ℕ) → n + m ≡ n + (0 + m)
    stop n m = omega arith

    stop_next : (n m : ℕ) → suc (n + m) ≡ n + suc m
    stop_next n m = omega arith

marks_choice : (k p first : ℕ) (c : LinesOf) (cs : List LinesOf) → marks k (choice_lines p first (c ∷ cs)) + under k first ≡
    all_marks k (c ∷ cs) + under k (first + suc (before_last (c ∷ cs)))
marks_choice k p first c [] = marks_more k p first c []
marks_choice k p first c (d ∷ []) =
    omega (
      arith,
      marks_append k c (jump (suc first) ∷ label first ∷ d),
      marks_append k (c ++ jump (suc first) ∷ label first ∷ d) (label (suc first) ∷ []),
      one_more k first,
      one_more k (suc first),
      ap (λ n. under k n) (two first),
    )
  where
    two : (n : ℕ) → suc (suc n) ≡ n + 2
    two n = omega arith
marks_choice k p first c (d ∷ e ∷ cs) = marks_more k p first c (d ∷ e ∷ cs)

-- ---- the codes of a choice

abbrev others_labels : Codes → ℕ
others_labels no_codes = 0
others_labels (code_then c no_codes) = 0
others_labels (code_then c (code_then d ds)) = code_labels c + others_labels (code_then d ds)

all_labels : (cs : Codes) → codes_labels cs ≡ last_labels cs + others_labels cs
all_labels no_codes = refl
all_labels (code_then c no_codes) = refl
all_labels (code_then c (code_then d ds)) = omega (arith, all_labels (code_then d ds))

lines_counted : (last others : ℕ) (c : Code) (cs : Codes) → suc (before_last (codes_lines last others (code_then c cs))) ≡ counted (code_then c cs)
lines_counted last others c no_codes = refl
lines_counted last others c (code_then d no_codes) = refl
lines_counted last others c (code_then d (code_then e es)) = ap suc (lines_counted last (others + code_labels c) d (code_then e es))

-- the labels within the codes, those of the last from `last` on and those of the others from `others` on
abbrev Marked : (k : ℕ) → Codes → Type 0
Marked k cs =
    (last others : ℕ) →
    all_marks k (codes_lines last others cs) + under k last + under k others ≡ under k (last + last_labels cs) + under k (others + others_labels cs)

-- the last of the codes stands first
last_first : (k first n marked all last others labels : ℕ) → marked + under k first ≡ all + under k (first + n) →
    all + under k (first + n) + under k (first + n + last) ≡ under k (first + n + last) + under k (first + n + last + others) → labels ≡ last + others →
    marked + under k first ≡ under k (first + (n + labels))
last_first k first n marked all last others labels a b c = omega (arith, a, b, ap (λ m. under k m) (same first n last others), ap (λ m. under k (first + (n + m))) c)
  where
    same : (a b c d : ℕ) → a + b + c + d ≡ a + (b + (c + d))
    same a b c d = omega arith

choice_marks : (k p first : ℕ) (cs : Codes) → Marked k cs → marks k (step_lines first (choice p cs)) + under k first ≡ under k (first + step_labels (choice p cs))
choice_marks k p first no_codes h = omega (arith, ap (λ n. under k n) (same first))
  where
    same : (n : ℕ) → n ≡ n + 0
    same n = omega arith
choice_marks k p first (code_then c no_codes) h =
    last_first k first 1 (marks k (step_lines first (choice p (code_then c no_codes)))) (all_marks k (code_lines (first + 1) c ∷ [])) (code_labels c) 0
    (code_labels c + 0)
    (marks_choice k p first (code_lines (first + 1) c) []) (h (first + 1) (first + 1 + code_labels c)) refl
choice_marks k p first (code_then c (code_then d no_codes)) h =
    omega (
      arith,
      marks_choice k p first (code_lines (first + 2) c) (code_lines (first + 2 + code_labels c) d ∷ []),
      h (first + 2 + code_labels c) (first + 2),
      ap (λ n. under k n) (near first (code_labels c)),
      ap (λ n. under k n) (same first (code_labels c) (code_labels d)),
    )
  where
    near : (a b : ℕ) → a + 2 + b ≡ a + 2 + (b + 0)
    near a b = omega arith

    same : (a b c : ℕ) → a + 2 + b + c ≡ a + (2 + (b + (c + 0)))
    same a b c = omega arith
choice_marks k p first (code_then c (code_then d (code_then e es))) h =
    let cs : Codes = code_then c (code_then d (code_then e es)) in
    let n : ℕ = counted cs in
    let rest : List LinesOf = codes_lines (first + n) (first + n + last_labels cs + code_labels c) (code_then d (code_then e es)) in
    let count : suc (before_last (code_lines (first + n + last_labels cs) c ∷ rest)) ≡ n =
    lines_counted (first + n) (first + n + last_labels cs) c (code_then d (code_then e es)) in
    last_first k first n (marks k (step_lines first (choice p cs))) (all_marks k (code_lines (first + n + last_labels cs) c ∷ rest)) (last_labels cs) (others_labels cs)
    (codes_labels cs)
    (marks_choice k p first (code_lines (first + n + last_labels cs) c) rest
    ∙ ap (λ m. all_marks k (code_lines (first + n + last_labels cs) c ∷ rest) + under k (first + m)) count)
    (h (first + n) (first + n + last_labels cs)) (all_labels cs)

mutual
  step_marks : (k first : ℕ) (s : Step) → marks k (step_lines first s) + under k first ≡ under k (first + step_labels s)
  step_marks k first (plain i) = omega (arith, ap (λ n. under k n) (same first))
    where
      same : (n : ℕ) → n ≡ n + 0
      same n = omega arith
  step_marks k first (choice p cs) = choice_marks k p first cs (λ last others. codes_marks k last others cs)
  step_marks k first (loop moves body p back) =
      omega (
        arith,
        marks_append k (map done moves) (label first ∷ code_lines (2 + first) body),
        marks_append k (map done moves ++ label first ∷ code_lines (2 + first) body) (branch_zero p (suc first) ∷ map done back),
        marks_append k ((map done moves ++ label first ∷ code_lines (2 + first) body) ++ branch_zero p (suc first) ∷ map done back) (jump first ∷ label (suc first) ∷ []),
        marks_instrs k moves,
        marks_instrs k back,
        one_more k first,
        one_more k (suc first),
        code_marks k (2 + first) body,
        ap (λ n. under k n) (two first),
        ap (λ n. under k n) (same first (code_labels body)),
      )
    where
      two : (n : ℕ) → suc (suc n) ≡ 2 + n
      two n = omega arith

      same : (a b : ℕ) → 2 + a + b ≡ a + (2 + b)
      same a b = omega arith

  code_marks : (k first : ℕ) (c : Code) → marks k (code_lines first c) + under k first ≡ under k (first + code_labels c)
  code_marks k first no_steps = omega (arith, ap (λ n. under k n) (same first))
    where
      same : (n : ℕ) → n ≡ n + 0
      same n = omega arith
  code_marks k first (step_then s c) =
      omega (
        arith,
        marks_append k (step_lines first s) (code_lines (first + step_labels s) c),
        step_marks k first s,
        code_marks k (first + step_labels s) c,
        ap (λ n. under k n) (same first (step_labels s) (code_labels c)),
      )
    where
      same : (a b c : ℕ) → a + b + c ≡ a + (b + c)
      same a b c = omega arith

  codes_marks : (k last others : ℕ) (cs : Codes) →
      all_marks k (codes_lines last others cs) + under k last + under k others ≡ under k (last + last_labels cs) + under k (others + others_labels cs)
  codes_marks k last others no_codes = omega (arith, ap (λ n. under k n) (same last), ap (λ n. under k n) (same others))
    where
      same : (n : ℕ) → n ≡ n + 0
      same n = omega arith
  codes_marks k last others (code_then c no_codes) = omega (arith, code_marks k last c, ap (λ n. under k n) (same others))
    where
      same : (n : ℕ) → n ≡ n + 0
      same n = omega arith
  codes_marks k last others (code_then c (code_then d ds)) =
      omega (
        arith,
        code_marks k others c,
        codes_marks k last (others + code_labels c) (code_then d ds),
        ap (λ n. under k n) (same others (code_labels c) (others_labels (code_then d ds))),
      )
    where
      same : (a b c : ℕ) → a + b + c ≡ a + (b + c)
      same a b c = omega arith

pub labels_are_marked_once : (f : LinearFunction) (k : ℕ) → marks k (lines f) ≡ (if nat_lt k (code_labels f.code) then 1 else 0)
labels_are_marked_once f k =
    omega (
      arith,
      marks_append k (enter (params f) ∷ code_lines 0 f.code) (leave f.value ∷ []),
      code_marks k 0 f.code,
      none k,
      ap (λ n. under k n) (zero-add (code_labels f.code)),
    )
  where
    none : (n : ℕ) → under n 0 ≡ 0
    none n = grind (arith, nat_tests)

    params : LinearFunction → List ℕ
    params g = numbers_from 0 g.params

-- ---- where lines go

module _ (n : ℕ) where
  abbrev Goes : List Line → Type 0
  Goes ls = all_of (goes_to (λ l. nat_lt l n)) ls ≡ true

  goes_append : (xs ys : List Line) → Goes xs → Goes ys → Goes (xs ++ ys)
  goes_append xs ys a b = all_of_append (goes_to (λ l. nat_lt l n)) xs ys ∙ and_from _ _ a b

  instrs_go : (is : List Instr) → Goes (map done is)
  instrs_go [] = refl
  instrs_go (i ∷ is) = instrs_go is

  branches_go : (p r first : ℕ) (cs : List LinesOf) → first + r + before_last cs ≤ n → Goes (branches p r first cs)
  branches_go p r first [] h = refl
  branches_go p r first (c ∷ []) h = refl
  branches_go p r first (c ∷ d ∷ cs) h = and_from _ _ (lt-ltb (first + r) n (omega arith)) (branches_go p (suc r) first (d ∷ cs) (omega arith))

  abbrev AllGo : List LinesOf → Type 0
  AllGo cs = all_of (λ c. all_of (goes_to (λ l. nat_lt l n)) c) cs ≡ true

  first_goes : (c : LinesOf) (cs : List LinesOf) → AllGo (c ∷ cs) → Goes c
  first_goes c cs h = (and_parts (all_of (goes_to (λ l. nat_lt l n)) c) (all_of (λ c. all_of (goes_to (λ l. nat_lt l n)) c) cs) h).0

  rest_goes : (c : LinesOf) (cs : List LinesOf) → AllGo (c ∷ cs) → AllGo cs
  rest_goes c cs h = (and_parts (all_of (goes_to (λ l. nat_lt l n)) c) (all_of (λ c. all_of (goes_to (λ l. nat_lt l n)) c) cs) h).1

  last_goes : (cs : List LinesOf) → AllGo cs → Goes (last_lines cs)
  last_goes [] h = refl
  last_goes (c ∷ []) h = first_goes c [] h
  last_goes (c ∷ d ∷ cs) h = last_goes (d ∷ cs) (rest_goes c (d ∷ cs) h)

  labelled_goes : (r first end : ℕ) (cs : List LinesOf) → end < n → AllGo cs → Goes (labelled r first end cs)
  labelled_goes r first end [] e h = refl
  labelled_goes r first end (c ∷ []) e h = refl
  labelled_goes r first end (c ∷ d ∷ cs) e h =
      and_from _ _ (lt-ltb end n e)
      (goes_append c (labelled (suc r) first end (d ∷ cs)) (first_goes c (d ∷ cs) h) (labelled_goes (suc r) first end (d ∷ cs) e (rest_goes c (d ∷ cs) h)))

  more_go : (p first : ℕ) (cs : List LinesOf) → first + before_last cs < n → AllGo cs →
      Goes (branches p 0 first cs ++ last_lines cs ++ labelled 0 first (first + before_last cs) cs ++ label (first + before_last cs) ∷ [])
  more_go p first cs e h =
      let end : ℕ = first + before_last cs in
      goes_append ((branches p 0 first cs ++ last_lines cs) ++ labelled 0 first end cs) (label end ∷ [])
      (goes_append (branches p 0 first cs ++ last_lines cs) (labelled 0 first end cs)
      (goes_append (branches p 0 first cs) (last_lines cs) (branches_go p 0 first cs (omega arith)) (last_goes cs h)) (labelled_goes 0 first end cs e h)) refl

  choice_goes : (p first : ℕ) (cs : List LinesOf) → first + before_last cs < n → AllGo cs → Goes (choice_lines p first cs)
  choice_goes p first [] e h = refl
  choice_goes p first (c ∷ []) e h = more_go p first (c ∷ []) e h
  choice_goes p first (c ∷ d ∷ []) e h =
      and_from _ _ (lt-ltb first n (omega arith))
      (goes_append (c ++ jump (suc first) ∷ label first ∷ d) (label (suc first) ∷ [])
      (goes_append c (jump (suc first) ∷ label first ∷ d) (first_goes c (d ∷ []) h)
      (and_from _ _ (lt-ltb (suc first) n (omega arith)) (first_goes d [] (rest_goes c (d ∷ []) h)))) refl)
  choice_goes p first (c ∷ d ∷ f ∷ cs) e h = more_go p first (c ∷ d ∷ f ∷ cs) e h

  abbrev CodesGo : Codes → Type 0
  CodesGo cs = (last others : ℕ) → last + last_labels cs ≤ n → others + others_labels cs ≤ n → AllGo (codes_lines last others cs)

  choice_step_goes : (p first : ℕ) (cs : Codes) → first + step_labels (choice p cs) ≤ n → CodesGo cs → Goes (step_lines first (choice p cs))
  choice_step_goes p first no_codes e h = refl
  choice_step_goes p first (code_then c no_codes) e h =
      choice_goes p first (code_lines (first + 1) c ∷ []) (omega arith) (h (first + 1) (first + 1) (omega arith) (omega arith))
  choice_step_goes p first (code_then c (code_then d no_codes)) e h =
      choice_goes p first (code_lines (first + 2) c ∷ code_lines (first + 2 + code_labels c) d ∷ []) (omega arith)
      (h (first + 2 + code_labels c) (first + 2) (omega arith) (omega arith))
  choice_step_goes p first (code_then c (code_then d (code_then f fs))) e h =
      let cs : Codes = code_then c (code_then d (code_then f fs)) in
      let k : ℕ = counted cs in
      let others : ℕ = first + k + last_labels cs in
      choice_goes p first (codes_lines (first + k) others cs) (omega (arith, lines_counted (first + k) others c (code_then d (code_then f fs))))
      (h (first + k) others (omega (arith, all_labels cs)) (omega (arith, all_labels cs)))

  mutual
    step_goes : (first : ℕ) (s : Step) → first + step_labels s ≤ n → Goes (step_lines first s)
    step_goes first (plain i) e = refl
    step_goes first (choice p cs) e = choice_step_goes p first cs e (λ last others a b. codes_go last others cs a b)
    step_goes first (loop moves body p back) e =
        goes_append ((map done moves ++ label first ∷ code_lines (2 + first) body) ++ branch_zero p (suc first) ∷ map done back) (jump first ∷ label (suc first) ∷ [])
        (goes_append (map done moves ++ label first ∷ code_lines (2 + first) body) (branch_zero p (suc first) ∷ map done back)
        (goes_append (map done moves) (label first ∷ code_lines (2 + first) body) (instrs_go moves) (code_goes (2 + first) body (omega arith)))
        (and_from _ _ (lt-ltb (suc first) n (omega arith)) (instrs_go back)))
        (and_from _ _ (lt-ltb first n (omega arith)) refl)

    code_goes : (first : ℕ) (c : Code) → first + code_labels c ≤ n → Goes (code_lines first c)
    code_goes first no_steps e = refl
    code_goes first (step_then s c) e =
        goes_append (step_lines first s) (code_lines (first + step_labels s) c) (step_goes first s (omega arith)) (code_goes (first + step_labels s) c (omega arith))

    codes_go : (last others : ℕ) (cs : Codes) → last + last_labels cs ≤ n → others + others_labels cs ≤ n → AllGo (codes_lines last others cs)
    codes_go last others no_codes a b = refl
    codes_go last others (code_then c no_codes) a b = and_from _ _ (code_goes last c a) refl
    codes_go last others (code_then c (code_then d ds)) a b =
        and_from _ _ (code_goes others c (omega arith)) (codes_go last (others + code_labels c) (code_then d ds) a (omega arith))

pub lines_go_to_labels : (f : LinearFunction) → IsTrue (all_of (goes_to (λ l. nat_lt l (code_labels f.code))) (lines f))
lines_go_to_labels f =
    goes_append (code_labels f.code) (code_lines 0 f.code) (leave f.value ∷ []) (code_goes (code_labels f.code) 0 f.code (omega arith)) refl
