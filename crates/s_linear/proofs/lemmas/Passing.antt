-- A test of lines holds of all lines of a code where it holds of those that its steps make.
use Rattle.std.proofs.Common.{◌≡◌, ℕ, suc, ◌+◌, ◌<◌, Bool, true, List, [], ◌∷◌, ◌++◌, map, length, refl, ap, ◌∙◌, arith}
use Rattle.std.proofs.lemmas.Bool.{and_from, and_parts}
use Rattle.g_graph.specs.WellFormed.{all_of}
use Rattle.g_graph.proofs.lemmas.Unique.{all_of_append}
use Rattle.s_linear.specs.Linear.{Step, plain, choice, loop, Code, no_steps, step_then, Codes, no_codes, code_then, LinearFunction}
use Rattle.s_linear.specs.Lines.{Line, enter, leave, done, branch_not_zero, branch_zero, branch_equal, jump, label, counted, step_labels, code_labels, last_from, others_from, LinesOf, branches, last_lines, labelled, before_last, choice_lines, step_lines, code_lines, codes_lines, lines}
use Rattle.val_core.specs.Numbers.{numbers_from}

pub length_codes : (last others : ℕ) (cs : Codes) → length (codes_lines last others cs) ≡ counted cs
length_codes last others no_codes = refl
length_codes last others (code_then k no_codes) = refl
length_codes last others (code_then k (code_then j ks)) = ap suc (length_codes last (others + code_labels k) (code_then j ks))

-- The lines that steps make pass, whatever their labels. A choice of one code has no branch.
module _ (test : Line → Bool) where
  abbrev mutual
    pub StepPasses : Step → Type 0
    StepPasses (plain i) = test (done i) ≡ true
    StepPasses (choice p cs) =
        (1 < counted cs → ((r l : ℕ) → test (branch_equal p r l) ≡ true) × ((l : ℕ) → test (branch_not_zero p l) ≡ true)) × CodesPass cs
    StepPasses (loop moves body p back) =
        (all_of test (map done moves) ≡ true) × CodePasses body × ((l : ℕ) → test (branch_zero p l) ≡ true) × (all_of test (map done back) ≡ true)

    pub CodePasses : Code → Type 0
    CodePasses no_steps = Unit {0}
    CodePasses (step_then s c) = StepPasses s × CodePasses c

    pub CodesPass : Codes → Type 0
    CodesPass no_codes = Unit {0}
    CodesPass (code_then c cs) = CodePasses c × CodesPass cs

module _ (test : Line → Bool) (jumps : (l : ℕ) → test (jump l) ≡ true) (labels : (l : ℕ) → test (label l) ≡ true) where
  abbrev Pass : List Line → Type 0
  Pass ls = all_of test ls ≡ true

  append_passes : (xs ys : List Line) → Pass xs → Pass ys → Pass (xs ++ ys)
  append_passes xs ys a b = all_of_append test xs ys ∙ and_from _ _ a b

  branches_pass : (p r first : ℕ) (cs : List LinesOf) → (1 < length cs → (r l : ℕ) → test (branch_equal p r l) ≡ true) → Pass (branches p r first cs)
  branches_pass p r first [] h = refl
  branches_pass p r first (c ∷ []) h = refl
  branches_pass p r first (c ∷ d ∷ cs) h =
      and_from _ _ (h (omega arith) r (first + r)) (branches_pass p (suc r) first (d ∷ cs) (λ two. h (omega arith)))

  abbrev AllPass : List LinesOf → Type 0
  AllPass cs = all_of (λ c. all_of test c) cs ≡ true

  first_passes : (c : LinesOf) (cs : List LinesOf) → AllPass (c ∷ cs) → Pass c
  first_passes c cs h = (and_parts (all_of test c) (all_of (λ c. all_of test c) cs) h).0

  rest_passes : (c : LinesOf) (cs : List LinesOf) → AllPass (c ∷ cs) → AllPass cs
  rest_passes c cs h = (and_parts (all_of test c) (all_of (λ c. all_of test c) cs) h).1

  last_passes : (cs : List LinesOf) → AllPass cs → Pass (last_lines cs)
  last_passes [] h = refl
  last_passes (c ∷ []) h = first_passes c [] h
  last_passes (c ∷ d ∷ cs) h = last_passes (d ∷ cs) (rest_passes c (d ∷ cs) h)

  labelled_passes : (r first end : ℕ) (cs : List LinesOf) → AllPass cs → Pass (labelled r first end cs)
  labelled_passes r first end [] h = refl
  labelled_passes r first end (c ∷ []) h = refl
  labelled_passes r first end (c ∷ d ∷ cs) h =
      and_from _ _ (jumps end) (append_passes (label (first + r) ∷ c) (labelled (suc r) first end (d ∷ cs))
      (and_from _ _ (labels (first + r)) (first_passes c (d ∷ cs) h))
      (labelled_passes (suc r) first end (d ∷ cs) (rest_passes c (d ∷ cs) h)))

  more_pass : (p first : ℕ) (cs : List LinesOf) → (1 < length cs → (r l : ℕ) → test (branch_equal p r l) ≡ true) → AllPass cs →
      Pass (branches p 0 first cs ++ last_lines cs ++ labelled 0 first (first + before_last cs) cs ++ label (first + before_last cs) ∷ [])
  more_pass p first cs e h =
      let end : ℕ = first + before_last cs in
      append_passes ((branches p 0 first cs ++ last_lines cs) ++ labelled 0 first end cs) (label end ∷ [])
      (append_passes (branches p 0 first cs ++ last_lines cs) (labelled 0 first end cs)
      (append_passes (branches p 0 first cs) (last_lines cs) (branches_pass p 0 first cs e) (last_passes cs h)) (labelled_passes 0 first end cs h))
      (and_from _ _ (labels end) refl)

  choice_passes : (p first : ℕ) (cs : List LinesOf)
      → (1 < length cs → ((r l : ℕ) → test (branch_equal p r l) ≡ true) × ((l : ℕ) → test (branch_not_zero p l) ≡ true)) → AllPass cs →
      Pass (choice_lines p first cs)
  choice_passes p first [] b h = refl
  choice_passes p first (c ∷ []) b h = more_pass p first (c ∷ []) (λ two. (b two).0) h
  choice_passes p first (c ∷ d ∷ []) b h =
      and_from _ _ ((b (omega arith)).1 first)
      (append_passes (c ++ jump (suc first) ∷ label first ∷ d) (label (suc first) ∷ [])
      (append_passes c (jump (suc first) ∷ label first ∷ d) (first_passes c (d ∷ []) h)
      (and_from _ _ (jumps (suc first)) (and_from _ _ (labels first) (first_passes d [] (rest_passes c (d ∷ []) h)))))
      (and_from _ _ (labels (suc first)) refl))
  choice_passes p first (c ∷ d ∷ f ∷ cs) b h = more_pass p first (c ∷ d ∷ f ∷ cs) (λ two. (b two).0) h

  mutual
    step_passes : (first : ℕ) (s : Step) → StepPasses test s → Pass (step_lines first s)
    step_passes first (plain i) h = and_from _ _ h refl
    step_passes first (choice p cs) h =
        let last = last_from (first + counted cs) cs in
        let others = others_from (first + counted cs) cs in
        choice_passes p first (codes_lines last others cs) (λ two. h.0 (omega (arith, two, length_codes last others cs))) (codes_pass last others cs h.1)
    step_passes first (loop moves body p back) h =
        append_passes ((map done moves ++ label first ∷ code_lines (2 + first) body) ++ branch_zero p (suc first) ∷ map done back) (jump first ∷ label (suc first) ∷ [])
        (append_passes (map done moves ++ label first ∷ code_lines (2 + first) body) (branch_zero p (suc first) ∷ map done back)
        (append_passes (map done moves) (label first ∷ code_lines (2 + first) body) h.0 (and_from _ _ (labels first) (code_passes (2 + first) body h.1)))
        (and_from _ _ (h.2 (suc first)) h.3))
        (and_from _ _ (jumps first) (and_from _ _ (labels (suc first)) refl))

    pub code_passes : (first : ℕ) (c : Code) → CodePasses test c → Pass (code_lines first c)
    code_passes first no_steps h = refl
    code_passes first (step_then s c) h = append_passes (step_lines first s) (code_lines (first + step_labels s) c) (step_passes first s h.0)
        (code_passes (first + step_labels s) c h.1)

    codes_pass : (last others : ℕ) (cs : Codes) → CodesPass test cs → AllPass (codes_lines last others cs)
    codes_pass last others no_codes h = refl
    codes_pass last others (code_then c no_codes) h = and_from _ _ (code_passes last c h.0) refl
    codes_pass last others (code_then c (code_then d ds)) h = and_from _ _ (code_passes others c h.0) (codes_pass last (others + code_labels c) (code_then d ds) h.1)

  pub lines_pass : (f : LinearFunction) → test (enter (numbers_from 0 f.params)) ≡ true → CodePasses test f.code → test (leave f.value) ≡ true →
      all_of test (lines f) ≡ true
  lines_pass f a b c =
      append_passes (enter (numbers_from 0 f.params) ∷ code_lines 0 f.code) (leave f.value ∷ []) (and_from _ _ a (code_passes 0 f.code b)) (and_from _ _ c refl)
