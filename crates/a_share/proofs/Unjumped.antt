-- Nothing jumps to the label of a choice of one code.
use Rattle.std.proofs.Common.{◌≡◌, ◌<◌, ◌≤◌, ℕ, suc, ◌+◌, Bool, true, false, ◌||◌, List, [], ◌∷◌, ◌++◌, map, ◌⊎◌, refl, sym, ap, ◌∙◌, eqb-true, inl, inr, arith}
use Rattle.std.specs.Prelude.{◌==◌}
use Rattle.std.proofs.lemmas.Bool.{cases_Bool}
use Rattle.std.proofs.lemmas.List.{append-nil}
use Rattle.g_graph.specs.WellFormed.{some_of}
use Rattle.s_linear.specs.Linear.{Instr, Step, plain, choice, loop, Code, no_steps, step_then, Codes, no_codes, code_then, LinearFunction}
use Rattle.s_linear.specs.Lines.{Line, leave, done, branch_not_zero, branch_zero, jump, label, LinesOf, counted, code_labels, step_labels, codes_labels, last_labels, last_from, others_from, branches, last_lines, labelled, before_last, choice_lines, step_lines, code_lines, codes_lines, lines}
use Rattle.a_share.specs.Rows.{StepIsUnjumped, CodeIsUnjumped, CodesAreUnjumped}
use Rattle.a_share.specs.Walking.{is_jump_to}

-- a line of these jumps to a label
abbrev pub jumps : (label : ℕ) → List Line → Bool
jumps n ls = some_of (is_jump_to n) ls

or_none : (a : Bool) → (a || false) ≡ a
or_none true = refl
or_none false = refl

or_assoc : (a b c : Bool) → ((a || b) || c) ≡ (a || (b || c))
or_assoc true b c = refl
or_assoc false b c = refl

jumps_append : (n : ℕ) (xs ys : List Line) → jumps n (xs ++ ys) ≡ (jumps n xs || jumps n ys)
jumps_append n [] ys = refl
jumps_append n (x ∷ xs) ys = ap (λ z. is_jump_to n x || z) (jumps_append n xs ys) ∙ sym (or_assoc (is_jump_to n x) (jumps n xs) (jumps n ys))

jumps_instrs : (n : ℕ) (is : List Instr) → jumps n (map done is) ≡ false
jumps_instrs n [] = refl
jumps_instrs n (i ∷ is) = jumps_instrs n is

jumps_branches : (n p r first : ℕ) (cs : List LinesOf) → jumps n (branches p r first cs) ≡ false
jumps_branches n p r first [] = refl
jumps_branches n p r first (c ∷ []) = refl
jumps_branches n p r first (c ∷ d ∷ cs) = jumps_branches n p (suc r) first (d ∷ cs)

-- a line of one of these codes jumps to a label
abbrev any_jumps : (label : ℕ) → List LinesOf → Bool
any_jumps n [] = false
any_jumps n (c ∷ cs) = jumps n c || any_jumps n cs

turned : (a b : Bool) → (a || b) ≡ (b || a)
turned true true = refl
turned true false = refl
turned false true = refl
turned false false = refl

jumps_labelled : (n r first end : ℕ) (cs : List LinesOf) → (end == n) ≡ false → (jumps n (last_lines cs) || jumps n (labelled r first end cs)) ≡ any_jumps n cs
jumps_labelled n r first end [] e = refl
jumps_labelled n r first end (c ∷ []) e = refl
jumps_labelled n r first end (c ∷ d ∷ cs) e =
    rw e
    (ap (λ z. jumps n (last_lines (d ∷ cs)) || z) (jumps_append n c (labelled (suc r) first end (d ∷ cs)))
    ∙ sym (or_assoc (jumps n (last_lines (d ∷ cs))) (jumps n c) (jumps n (labelled (suc r) first end (d ∷ cs))))
    ∙ ap (λ z. z || jumps n (labelled (suc r) first end (d ∷ cs))) (turned (jumps n (last_lines (d ∷ cs))) (jumps n c))
    ∙ or_assoc (jumps n c) (jumps n (last_lines (d ∷ cs))) (jumps n (labelled (suc r) first end (d ∷ cs)))
    ∙ ap (λ z. jumps n c || z) (jumps_labelled n (suc r) first end (d ∷ cs) e))

-- of another label than that at the end those of the codes
jumps_many : (n p first end : ℕ) (cs : List LinesOf) → (end == n) ≡ false
    → jumps n (((branches p 0 first cs ++ last_lines cs) ++ labelled 0 first end cs) ++ label end ∷ []) ≡ any_jumps n cs
jumps_many n p first end cs e =
    jumps_append n ((branches p 0 first cs ++ last_lines cs) ++ labelled 0 first end cs) (label end ∷ [])
    ∙ or_none (jumps n ((branches p 0 first cs ++ last_lines cs) ++ labelled 0 first end cs))
    ∙ jumps_append n (branches p 0 first cs ++ last_lines cs) (labelled 0 first end cs)
    ∙ ap (λ z. z || jumps n (labelled 0 first end cs)) (jumps_append n (branches p 0 first cs) (last_lines cs) ∙ ap (λ z. z || jumps n (last_lines cs)) (jumps_branches n p 0 first cs))
    ∙ jumps_labelled n 0 first end cs e

jumps_choice : (n p first : ℕ) (cs : List LinesOf) → ((first + before_last cs) == n) ≡ false → jumps n (choice_lines p first cs) ≡ any_jumps n cs
jumps_choice n p first [] e = refl
jumps_choice n p first (c ∷ []) e = jumps_many n p first (first + 0) (c ∷ []) e
jumps_choice n p first (c ∷ d ∷ []) e =
    let end : (suc first == n) ≡ false = ap (λ z. z == n) (let t : suc first ≡ first + 1 = omega arith in t) ∙ e in
    jumps_append n ((branch_not_zero p first ∷ c) ++ (jump (suc first) ∷ label first ∷ d)) (label (suc first) ∷ [])
    ∙ or_none (jumps n ((branch_not_zero p first ∷ c) ++ (jump (suc first) ∷ label first ∷ d)))
    ∙ jumps_append n c (jump (suc first) ∷ label first ∷ d) ∙ rw end (ap (λ z. jumps n c || z) (sym (or_none (jumps n d))))
jumps_choice n p first (c ∷ d ∷ f ∷ cs) e = jumps_many n p first (first + before_last (c ∷ d ∷ f ∷ cs)) (c ∷ d ∷ f ∷ cs) e

-- ---- no jump goes out of a code

-- a label is none from a number on up to another
abbrev IsBeyond : (label first end : ℕ) → Type 0
IsBeyond k first end = (l : ℕ) → first ≤ l → l < end → (l == k) ≡ false

before_count : (last o : ℕ) (c : Code) (cs : Codes) → before_last (codes_lines last o (code_then c cs)) ≡ counted cs
before_count last o c no_codes = refl
before_count last o c (code_then k no_codes) = refl
before_count last o c (code_then k (code_then i ks)) = ap suc (before_count last (o + code_labels c) k (code_then i ks))

-- how many labels all of some codes but the last have
abbrev others_labels : Codes → ℕ
others_labels no_codes = 0
others_labels (code_then c no_codes) = 0
others_labels (code_then c (code_then d cs)) = code_labels c + others_labels (code_then d cs)

last_split : (cs : Codes) → last_labels cs + others_labels cs ≡ codes_labels cs
last_split no_codes = omega arith
last_split (code_then c no_codes) = omega arith
last_split (code_then c (code_then d cs)) = let r = last_split (code_then d cs) in omega (arith, r)

-- the last of them from a number on, the others from another
abbrev AreQuiet : (k : ℕ) → Codes → Type 0
AreQuiet k cs =
    (last o : ℕ) → IsBeyond k last (last + last_labels cs) → IsBeyond k o (o + others_labels cs) → any_jumps k (codes_lines last o cs) ≡ false

quiet_choice : (k n : ℕ) (cs : Codes) → AreQuiet k cs → IsBeyond k n (n + codes_labels cs) → any_jumps k (codes_lines (last_from n cs) (others_from n cs) cs) ≡ false
quiet_choice k n no_codes go h = refl
quiet_choice k n (code_then c no_codes) go h = go n (n + code_labels c) (λ l a b. h l a (omega arith)) (λ l a b. absurd (omega arith))
quiet_choice k n (code_then c (code_then d no_codes)) go h =
    go (n + code_labels c) n (λ l a b. h l (omega arith) (omega arith)) (λ l a b. h l a (omega arith))
quiet_choice k n (code_then c (code_then d (code_then f cs))) go h =
    let all = code_then c (code_then d (code_then f cs)) in
    let r : last_labels all + others_labels all ≡ codes_labels all = last_split all in
    go n (n + last_labels all) (λ l a b. h l a (omega arith)) (λ l a b. h l (omega arith) (omega arith))

mutual
  quiet_step : (k first : ℕ) (s : Step) → IsBeyond k first (first + step_labels s) → jumps k (step_lines first s) ≡ false
  quiet_step k first (plain i) h = refl
  quiet_step k first (choice p no_codes) h = refl
  quiet_step k first (choice p (code_then c cs)) h =
      let all = code_then c cs in
      let n = first + counted all in
      let count : before_last (codes_lines (last_from n all) (others_from n all) all) ≡ counted cs = before_count (last_from n all) (others_from n all) c cs in
      jumps_choice k p first (codes_lines (last_from n all) (others_from n all) all)
      (h (first + before_last (codes_lines (last_from n all) (others_from n all) all)) (omega arith) (omega arith))
      ∙ quiet_choice k n all (λ last o a b. quiet_codes k last o (code_then c cs) a b) (λ l a b. h l (omega arith) (omega arith))
  quiet_step k first (loop moves body p back) h =
      jumps_append k ((map done moves ++ (label first ∷ code_lines (2 + first) body)) ++ (branch_zero p (suc first) ∷ map done back)) (jump first ∷ label (suc first) ∷ [])
      ∙ ap (λ z. jumps k ((map done moves ++ (label first ∷ code_lines (2 + first) body)) ++ (branch_zero p (suc first) ∷ map done back)) || z) (ap (λ z. z || false) (h first (omega arith) (omega arith)))
      ∙ or_none (jumps k ((map done moves ++ (label first ∷ code_lines (2 + first) body)) ++ (branch_zero p (suc first) ∷ map done back)))
      ∙ jumps_append k (map done moves ++ (label first ∷ code_lines (2 + first) body)) (branch_zero p (suc first) ∷ map done back)
      ∙ ap (λ z. jumps k (map done moves ++ (label first ∷ code_lines (2 + first) body)) || z) (jumps_instrs k back)
      ∙ or_none (jumps k (map done moves ++ (label first ∷ code_lines (2 + first) body)))
      ∙ jumps_append k (map done moves) (label first ∷ code_lines (2 + first) body) ∙ ap (λ z. z || jumps k (code_lines (2 + first) body)) (jumps_instrs k moves)
      ∙ quiet_code k (2 + first) body (λ l a b. h l (omega arith) (omega arith))

  quiet_code : (k first : ℕ) (c : Code) → IsBeyond k first (first + code_labels c) → jumps k (code_lines first c) ≡ false
  quiet_code k first no_steps h = refl
  quiet_code k first (step_then s c) h =
      jumps_append k (step_lines first s) (code_lines (first + step_labels s) c)
      ∙ ap (λ z. z || jumps k (code_lines (first + step_labels s) c)) (quiet_step k first s (λ l a b. h l a (omega arith)))
      ∙ quiet_code k (first + step_labels s) c (λ l a b. h l (omega arith) (omega arith))

  quiet_codes : (k last o : ℕ) (cs : Codes) → IsBeyond k last (last + last_labels cs) → IsBeyond k o (o + others_labels cs) → any_jumps k (codes_lines last o cs) ≡ false
  quiet_codes k last o no_codes h g = refl
  quiet_codes k last o (code_then c no_codes) h g = ap (λ z. z || false) (quiet_code k last c h)
  quiet_codes k last o (code_then c (code_then d cs)) h g =
      ap (λ z. z || any_jumps k (codes_lines last (o + code_labels c) (code_then d cs))) (quiet_code k o c (λ l a b. g l a (omega arith)))
      ∙ quiet_codes k last (o + code_labels c) (code_then d cs) h (λ l a b. g l (omega arith) (omega arith))

-- ---- what is jumped to in a code is jumped to in all

apart_low : (k first end : ℕ) → k < first → IsBeyond k first end
apart_low k first end h l a b =
    elim (cases_Bool (l == k)) [
      | inl same ↦ absurd (let e : l ≡ k = eqb-true l k same in omega arith)
      | inr other ↦ other
    ]

apart_high : (k first end : ℕ) → end ≤ k → IsBeyond k first end
apart_high k first end h l a b =
    elim (cases_Bool (l == k)) [
      | inl same ↦ absurd (let e : l ≡ k = eqb-true l k same in omega arith)
      | inr other ↦ other
    ]

-- labels from a number on up to another are jumped to just where these lines jump to them
abbrev AreJumped : (J : ℕ → Bool) → List Line → (first end : ℕ) → Type 0
AreJumped J ls first end = (n : ℕ) → first ≤ n → n < end → J n ≡ jumps n ls

abbrev AnyJumped : (J : ℕ → Bool) → List LinesOf → (first end : ℕ) → Type 0
AnyJumped J cs first end = (n : ℕ) → first ≤ n → n < end → J n ≡ any_jumps n cs

abbrev CodesHold : (J : ℕ → Bool) → Codes → Type 0
CodesHold J cs =
    (last o : ℕ) → (o + others_labels cs ≤ last) ⊎ (last + last_labels cs ≤ o) → AnyJumped J (codes_lines last o cs) last (last + last_labels cs)
    → AnyJumped J (codes_lines last o cs) o (o + others_labels cs) → CodesAreUnjumped J last o cs

choice_holds : (J : ℕ → Bool) (n : ℕ) (cs : Codes) → CodesHold J cs
    → AnyJumped J (codes_lines (last_from n cs) (others_from n cs) cs) n (n + codes_labels cs) → CodesAreUnjumped J (last_from n cs) (others_from n cs) cs
choice_holds J n no_codes go h = tt
choice_holds J n (code_then c no_codes) go h =
    go n (n + code_labels c) (inr (omega arith)) (λ l a b. h l a (omega arith)) (λ l a b. absurd (omega arith))
choice_holds J n (code_then c (code_then d no_codes)) go h =
    go (n + code_labels c) n (inl (omega arith)) (λ l a b. h l (omega arith) (omega arith)) (λ l a b. h l a (omega arith))
choice_holds J n (code_then c (code_then d (code_then f cs))) go h =
    let all = code_then c (code_then d (code_then f cs)) in
    let r : last_labels all + others_labels all ≡ codes_labels all = last_split all in
    go n (n + last_labels all) (inr (omega arith)) (λ l a b. h l a (omega arith)) (λ l a b. h l (omega arith) (omega arith))

not_end : (first e n : ℕ) → e < n → (e == n) ≡ false
not_end first e n h =
    elim (cases_Bool (e == n)) [
      | inl same ↦ absurd (let f : e ≡ n = eqb-true e n same in omega arith)
      | inr other ↦ other
    ]

loop_jumps : (n first : ℕ) (moves : List Instr) (body : Code) (p : ℕ) (back : List Instr) → first < n
    → jumps n (step_lines first (loop moves body p back)) ≡ jumps n (code_lines (2 + first) body)
loop_jumps n first moves body p back h =
    jumps_append n ((map done moves ++ (label first ∷ code_lines (2 + first) body)) ++ (branch_zero p (suc first) ∷ map done back)) (jump first ∷ label (suc first) ∷ [])
    ∙ ap (λ z. jumps n ((map done moves ++ (label first ∷ code_lines (2 + first) body)) ++ (branch_zero p (suc first) ∷ map done back)) || z) (ap (λ z. z || false) (not_end first first n h))
    ∙ or_none (jumps n ((map done moves ++ (label first ∷ code_lines (2 + first) body)) ++ (branch_zero p (suc first) ∷ map done back)))
    ∙ jumps_append n (map done moves ++ (label first ∷ code_lines (2 + first) body)) (branch_zero p (suc first) ∷ map done back)
    ∙ ap (λ z. jumps n (map done moves ++ (label first ∷ code_lines (2 + first) body)) || z) (jumps_instrs n back)
    ∙ or_none (jumps n (map done moves ++ (label first ∷ code_lines (2 + first) body)))
    ∙ jumps_append n (map done moves) (label first ∷ code_lines (2 + first) body) ∙ ap (λ z. z || jumps n (code_lines (2 + first) body)) (jumps_instrs n moves)

-- the label of a choice of one code
only_unjumped : (first : ℕ) (p : ℕ) (k : Code) → jumps first (step_lines first (choice p (code_then k no_codes))) ≡ false
only_unjumped first p k =
    jumps_append first (code_lines (first + 1) k ++ []) (label (first + 0) ∷ []) ∙ or_none (jumps first (code_lines (first + 1) k ++ []))
    ∙ ap (jumps first) (append-nil (code_lines (first + 1) k)) ∙ quiet_code first (first + 1) k (apart_low first (first + 1) (first + 1 + code_labels k) (omega arith))

only_inner : (n first p : ℕ) (k : Code) → jumps n (step_lines first (choice p (code_then k no_codes))) ≡ jumps n (code_lines (first + 1) k)
only_inner n first p k =
    jumps_append n (code_lines (first + 1) k ++ []) (label (first + 0) ∷ []) ∙ or_none (jumps n (code_lines (first + 1) k ++ []))
    ∙ ap (jumps n) (append-nil (code_lines (first + 1) k))

mutual
  step_unjumped : (J : ℕ → Bool) (first : ℕ) (s : Step) → AreJumped J (step_lines first s) first (first + step_labels s) → StepIsUnjumped J first s
  step_unjumped J first (plain i) h = tt
  step_unjumped J first (choice p no_codes) h = tt
  step_unjumped J first (choice p (code_then k no_codes)) h =
      let one : first + 1 ≡ suc first = omega arith in (
        h first (omega arith) (omega arith) ∙ only_unjumped first p k,
        code_unjumped J (suc first) k (λ n a b.
            h n (omega arith) (omega arith) ∙ only_inner n first p k ∙ ap (λ z. jumps n (code_lines z k)) one),
      )
  step_unjumped J first (choice p (code_then c (code_then d cs))) h =
      let all = code_then c (code_then d cs) in
      let m = first + counted all in
      let count : before_last (codes_lines (last_from m all) (others_from m all) all) ≡ counted (code_then d cs) =
      before_count (last_from m all) (others_from m all) c (code_then d cs) in
      choice_holds J m all (λ last o e a b. codes_unjumped J last o (code_then c (code_then d cs)) e a b) (λ n a b.
      h n (omega arith) (omega arith)
      ∙ jumps_choice n p first (codes_lines (last_from m all) (others_from m all) all)
      (not_end first (first + before_last (codes_lines (last_from m all) (others_from m all) all)) n (omega arith)))
  step_unjumped J first (loop moves body p back) h =
      code_unjumped J (2 + first) body (λ n a b. h n (omega arith) (omega arith) ∙ loop_jumps n first moves body p back (omega arith))

  code_unjumped : (J : ℕ → Bool) (first : ℕ) (c : Code) → AreJumped J (code_lines first c) first (first + code_labels c) → CodeIsUnjumped J first c
  code_unjumped J first no_steps h = tt
  code_unjumped J first (step_then s c) h = (
    step_unjumped J first s (λ n a b.
        h n a (omega arith) ∙ jumps_append n (step_lines first s) (code_lines (first + step_labels s) c)
        ∙ ap (λ z. jumps n (step_lines first s) || z)
        (quiet_code n (first + step_labels s) c (apart_low n (first + step_labels s) (first + step_labels s + code_labels c) b))
        ∙ or_none (jumps n (step_lines first s))),
    code_unjumped J (first + step_labels s) c (λ n a b.
        h n (omega arith) (omega arith) ∙ jumps_append n (step_lines first s) (code_lines (first + step_labels s) c)
        ∙ ap (λ z. z || jumps n (code_lines (first + step_labels s) c)) (quiet_step n first s (apart_high n first (first + step_labels s) a))),
  )

  codes_unjumped : (J : ℕ → Bool) (last o : ℕ) (cs : Codes) → (o + others_labels cs ≤ last) ⊎ (last + last_labels cs ≤ o)
      → AnyJumped J (codes_lines last o cs) last (last + last_labels cs) → AnyJumped J (codes_lines last o cs) o (o + others_labels cs) → CodesAreUnjumped J last o cs
  codes_unjumped J last o no_codes e h g = tt
  codes_unjumped J last o (code_then c no_codes) e h g = code_unjumped J last c (λ n a b. h n a b ∙ or_none (jumps n (code_lines last c)))
  codes_unjumped J last o (code_then c (code_then d cs)) e h g = (
    code_unjumped J o c (λ n a b.
        g n a (omega arith)
        ∙ ap (λ z. jumps n (code_lines o c) || z)
        (quiet_codes n last (o + code_labels c) (code_then d cs)
        (elim e [ inl f ↦ apart_low n last (last + last_labels (code_then d cs)) (omega arith) | inr f ↦ apart_high n last (last + last_labels (code_then d cs)) (omega arith) ])
        (apart_low n (o + code_labels c) (o + code_labels c + others_labels (code_then d cs)) b))
        ∙ or_none (jumps n (code_lines o c))),
    codes_unjumped J last (o + code_labels c) (code_then d cs)
        (elim e [ inl f ↦ inl (omega arith) | inr f ↦ inr (omega arith) ])
        (λ n a b.
        h n a b
        ∙ ap (λ z. z || any_jumps n (codes_lines last (o + code_labels c) (code_then d cs)))
        (quiet_code n o c (elim e [ inl f ↦ apart_high n o (o + code_labels c) (omega arith) | inr f ↦ apart_low n o (o + code_labels c) (omega arith) ])))
        (λ n a b.
        g n (omega arith) (omega arith)
        ∙ ap (λ z. z || any_jumps n (codes_lines last (o + code_labels c) (code_then d cs))) (quiet_code n o c (apart_high n o (o + code_labels c) a))),
  )

-- So it is with the lines of each function.
pub function_unjumped : (f : LinearFunction) (J : ℕ → Bool) → ((n : ℕ) → J n ≡ jumps n (lines f)) → CodeIsUnjumped J 0 f.code
function_unjumped f J h =
    code_unjumped J 0 f.code (λ n a b. h n ∙ jumps_append n (code_lines 0 f.code) (leave f.value ∷ []) ∙ or_none (jumps n (code_lines 0 f.code)))
