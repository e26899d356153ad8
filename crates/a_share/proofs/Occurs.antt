-- The names of a function are those of its lines.
use Rattle.std.proofs.Common.{◌≡◌, ◌+◌, ◌<◌, ◌≤◌, ℕ, suc, Bool, true, false, ◌&&◌, if◌then◌else◌, List, [], ◌∷◌, ◌++◌, length, flat_map, refl, sym, ap, ◌∙◌, inl, inr, arith, eq-eqb}
use Rattle.std.specs.Prelude.{◌==◌, ◌||◌, nat_le, map}
use Rattle.std.proofs.Math.Bool.{or_assoc}
use Rattle.std.proofs.lemmas.Bool.{or_cases, or_left, or_right, le-leb}
use Rattle.g_graph.specs.WellFormed.{some_of}
use Rattle.val_core.specs.Numbers.{numbers_from}
use Rattle.s_linear.specs.Linear.{Instr, Step, plain, choice, loop, Code, no_steps, step_then, Codes, no_codes, code_then, LinearFunction}
use Rattle.s_linear.specs.Lines.{Line, enter, leave, done, branch_not_zero, branch_zero, jump, label, counted, code_labels, step_labels, last_from, others_from, LinesOf, branches, last_lines, labelled, before_last, choice_lines, step_lines, code_lines, codes_lines, lines, line_names, instr_names}
use Rattle.a_place.specs.Places.{among, above, occurs, name_count}
use Rattle.a_place.specs.Share.{predicate_names, step_names, code_names, codes_names, all_names}
use Rattle.a_place.proofs.lemmas.Order.{below_above}

abbrev pub stands_in : (name : ℕ) → List Line → Bool
stands_in x ls = some_of (occurs x) ls

or_none : (b : Bool) → (b || false) ≡ b
or_none true = refl
or_none false = refl

pub some_of_append : {X : Type 0} (test : X → Bool) (xs ys : List X) → some_of test (xs ++ ys) ≡ (some_of test xs || some_of test ys)
some_of_append test [] ys = refl
some_of_append test (x ∷ xs) ys = ap (λ b. test x || b) (some_of_append test xs ys) ∙ sym (or_assoc (test x) (some_of test xs) (some_of test ys))

among_instrs : (x : ℕ) (is : List Instr) → stands_in x (map done is) ≡ among x (flat_map instr_names is)
among_instrs x [] = refl
among_instrs x (i ∷ is) =
    ap (λ b. among x (instr_names i) || b) (among_instrs x is) ∙ sym (some_of_append (λ y. y == x) (instr_names i) (flat_map instr_names is))

-- ---- choices

abbrev at_predicate : (x p : ℕ) → List LinesOf → Bool
at_predicate x p ks = nat_le 2 (length ks) && (p == x)

two_or_more : (x p n : ℕ) → (nat_le 2 (suc (suc n)) && (p == x)) ≡ (p == x)
two_or_more x p n = ap (λ b. b && (p == x)) (le-leb 2 (suc (suc n)) (omega arith))

in_two_branches : (x p r first : ℕ) (k l : LinesOf) (ks : List LinesOf) → stands_in x (branches p r first (k ∷ l ∷ ks)) ≡ (p == x)
in_two_branches x p r first k l [] = or_none (p == x || false) ∙ or_none (p == x)
in_two_branches x p r first k l (j ∷ ks) =
    ap (λ b. (p == x || false) || b) (in_two_branches x p (suc r) first l j ks) ∙ twice (p == x)
  where
    twice : (b : Bool) → ((b || false) || b) ≡ b
    twice true = refl
    twice false = refl

in_branches : (x p r first : ℕ) (ks : List LinesOf) → stands_in x (branches p r first ks) ≡ at_predicate x p ks
in_branches x p r first [] = refl
in_branches x p r first (k ∷ []) = refl
in_branches x p r first (k ∷ l ∷ ks) = in_two_branches x p r first k l ks ∙ sym (two_or_more x p (length ks))

in_others : (x r first end : ℕ) (ks : List LinesOf) → (stands_in x (last_lines ks) || stands_in x (labelled r first end ks)) ≡ some_of (stands_in x) ks
in_others x r first end [] = refl
in_others x r first end (k ∷ []) = refl
in_others x r first end (k ∷ l ∷ ks) =
    ap (λ b. stands_in x (last_lines (l ∷ ks)) || b) (some_of_append (occurs x) k (labelled (suc r) first end (l ∷ ks)))
    ∙ (turned (stands_in x (last_lines (l ∷ ks))) (stands_in x k) (stands_in x (labelled (suc r) first end (l ∷ ks)))
    ∙ ap (λ b. stands_in x k || b) (in_others x (suc r) first end (l ∷ ks)))
  where
    turned : (a b c : Bool) → (a || (b || c)) ≡ (b || (a || c))
    turned true true c = refl
    turned true false c = refl
    turned false b c = refl

in_many : (x p first end : ℕ) (ks : List LinesOf)
    → stands_in x (branches p 0 first ks ++ last_lines ks ++ labelled 0 first end ks ++ label end ∷ []) ≡ (at_predicate x p ks || some_of (stands_in x) ks)
in_many x p first end ks =
    some_of_append (occurs x) (branches p 0 first ks ++ last_lines ks ++ labelled 0 first end ks) (label end ∷ [])
    ∙ (or_none (stands_in x (branches p 0 first ks ++ last_lines ks ++ labelled 0 first end ks))
    ∙ (some_of_append (occurs x) (branches p 0 first ks ++ last_lines ks) (labelled 0 first end ks)
    ∙ (ap (λ b. b || stands_in x (labelled 0 first end ks)) (some_of_append (occurs x) (branches p 0 first ks) (last_lines ks))
    ∙ (or_assoc (stands_in x (branches p 0 first ks)) (stands_in x (last_lines ks)) (stands_in x (labelled 0 first end ks))
    ∙ (ap (λ b. b || (stands_in x (last_lines ks) || stands_in x (labelled 0 first end ks))) (in_branches x p 0 first ks)
    ∙ ap (λ b. at_predicate x p ks || b) (in_others x 0 first end ks))))))

in_two : (x p first : ℕ) (k l : LinesOf) → stands_in x (choice_lines p first (k ∷ l ∷ [])) ≡ ((p == x) || some_of (stands_in x) (k ∷ l ∷ []))
in_two x p first k l =
    some_of_append (occurs x) (branch_not_zero p first ∷ k ++ jump (suc first) ∷ label first ∷ l) (label (suc first) ∷ [])
    ∙ (or_none (stands_in x (branch_not_zero p first ∷ k ++ jump (suc first) ∷ label first ∷ l))
    ∙ (ap (λ b. (p == x || false) || b) (some_of_append (occurs x) k (jump (suc first) ∷ label first ∷ l))
    ∙ last (p == x) (stands_in x k) (stands_in x l)))
  where
    last : (a b c : Bool) → ((a || false) || (b || c)) ≡ (a || (b || (c || false)))
    last true b c = refl
    last false true c = refl
    last false false c = sym (or_none c)

in_choice : (x p first : ℕ) (ks : List LinesOf) → stands_in x (choice_lines p first ks) ≡ (at_predicate x p ks || some_of (stands_in x) ks)
in_choice x p first [] = refl
in_choice x p first (k ∷ []) = in_many x p first (first + 0) (k ∷ [])
in_choice x p first (k ∷ l ∷ []) = in_two x p first k l ∙ ap (λ b. b || some_of (stands_in x) (k ∷ l ∷ [])) (sym (two_or_more x p 0))
in_choice x p first (k ∷ l ∷ j ∷ ks) = in_many x p first (first + before_last (k ∷ l ∷ j ∷ ks)) (k ∷ l ∷ j ∷ ks)

-- ---- codes

as_many : (last others : ℕ) (cs : Codes) → length (codes_lines last others cs) ≡ counted cs
as_many last others no_codes = refl
as_many last others (code_then c no_codes) = refl
as_many last others (code_then c (code_then k cs)) = ap suc (as_many last (others + code_labels c) (code_then k cs))

predicate_stands : (x p n : ℕ) → among x (if nat_le 2 n then p ∷ [] else []) ≡ (nat_le 2 n && (p == x))
predicate_stands x p n = by_test (nat_le 2 n)
  where
    by_test : (b : Bool) → among x (if b then p ∷ [] else []) ≡ (b && (p == x))
    by_test true = or_none (p == x)
    by_test false = refl

mutual
  in_step : (x first : ℕ) (s : Step) → stands_in x (step_lines first s) ≡ among x (step_names s)
  in_step x first (plain i) = or_none (among x (instr_names i))
  in_step x first (choice p cs) =
      let last = last_from (first + counted cs) cs in
      let others = others_from (first + counted cs) cs in
      in_choice x p first (codes_lines last others cs)
      ∙ (ap (λ n. (nat_le 2 n && (p == x)) || some_of (stands_in x) (codes_lines last others cs)) (as_many last others cs)
      ∙ (ap (λ b. (nat_le 2 (counted cs) && (p == x)) || b) (in_codes x last others cs)
      ∙ (ap (λ b. b || among x (codes_names cs)) (sym (predicate_stands x p (counted cs)))
      ∙ sym (some_of_append (λ y. y == x) (predicate_names p cs) (codes_names cs)))))
  in_step x first (loop moves body p back) =
      some_of_append (occurs x) (map done moves ++ label first ∷ code_lines (2 + first) body ++ branch_zero p (suc first) ∷ map done back) (jump first ∷ label (suc first) ∷ [])
      ∙ (or_none (stands_in x (map done moves ++ label first ∷ code_lines (2 + first) body ++ branch_zero p (suc first) ∷ map done back))
      ∙ (some_of_append (occurs x) (map done moves ++ label first ∷ code_lines (2 + first) body) (branch_zero p (suc first) ∷ map done back)
      ∙ (ap (λ b. b || ((p == x || false) || stands_in x (map done back))) (some_of_append (occurs x) (map done moves) (label first ∷ code_lines (2 + first) body)
      ∙ (ap (λ b. b || stands_in x (code_lines (2 + first) body)) (among_instrs x moves)
      ∙ ap (λ b. among x (flat_map instr_names moves) || b) (in_code x (2 + first) body)))
      ∙ (ap (λ b. (among x (flat_map instr_names moves) || among x (code_names body)) || b)
      (ap (λ b. b || stands_in x (map done back)) (or_none (p == x)) ∙ ap (λ b. (p == x) || b) (among_instrs x back))
      ∙ (ap (λ b. b || ((p == x) || among x (flat_map instr_names back))) (sym (some_of_append (λ y. y == x) (flat_map instr_names moves) (code_names body)))
      ∙ sym (some_of_append (λ y. y == x) (flat_map instr_names moves ++ code_names body) (p ∷ flat_map instr_names back)))))))

  in_code : (x first : ℕ) (c : Code) → stands_in x (code_lines first c) ≡ among x (code_names c)
  in_code x first no_steps = refl
  in_code x first (step_then s c) =
      some_of_append (occurs x) (step_lines first s) (code_lines (first + step_labels s) c)
      ∙ (ap (λ b. b || stands_in x (code_lines (first + step_labels s) c)) (in_step x first s)
      ∙ (ap (λ b. among x (step_names s) || b) (in_code x (first + step_labels s) c)
      ∙ sym (some_of_append (λ y. y == x) (step_names s) (code_names c))))

  in_codes : (x last others : ℕ) (cs : Codes) → some_of (stands_in x) (codes_lines last others cs) ≡ among x (codes_names cs)
  in_codes x last others no_codes = refl
  in_codes x last others (code_then c no_codes) =
      ap (λ b. b || false) (in_code x last c) ∙ sym (some_of_append (λ y. y == x) (code_names c) [])
  in_codes x last others (code_then c (code_then k cs)) =
      ap (λ b. b || some_of (stands_in x) (codes_lines last (others + code_labels c) (code_then k cs))) (in_code x others c)
      ∙ (ap (λ b. among x (code_names c) || b) (in_codes x last (others + code_labels c) (code_then k cs))
      ∙ sym (some_of_append (λ y. y == x) (code_names c) (codes_names (code_then k cs))))

pub names_stand : (f : LinearFunction) (x : ℕ) → stands_in x (lines f) ≡ among x (all_names f)
names_stand f x =
    some_of_append (occurs x) (enter (numbers_from 0 f.params) ∷ code_lines 0 f.code) (leave f.value ∷ [])
    ∙ (ap (λ b. (among x (numbers_from 0 f.params) || b) || ((f.value == x || false) || false)) (in_code x 0 f.code)
    ∙ (last (among x (numbers_from 0 f.params)) (among x (code_names f.code)) (f.value == x)
    ∙ sym (some_of_append (λ y. y == x) (numbers_from 0 f.params) (f.value ∷ code_names f.code))))
  where
    last : (a b c : Bool) → ((a || b) || ((c || false) || false)) ≡ (a || (c || b))
    last true b c = refl
    last false true true = refl
    last false true false = refl
    last false false true = refl
    last false false false = refl

-- ---- how many names there are

above_most : (n : ℕ) (xs : List ℕ) → ((x : ℕ) → among x xs ≡ true → x < n) → above xs ≤ n
above_most n [] h = omega arith
above_most n (x ∷ xs) h =
    let here : x < n = h x (or_left (x == x) (among x xs) (same x)) in
    let rest : above xs ≤ n = above_most n xs (λ y e. h y (or_right (x == y) (among y xs) e)) in omega arith
  where
    same : (x : ℕ) → (x == x) ≡ true
    same x = eq-eqb x x refl

count_most : (n : ℕ) (ls : List Line) → ((x : ℕ) → stands_in x ls ≡ true → x < n) → name_count ls ≤ n
count_most n [] h = omega arith
count_most n (l ∷ ls) h =
    let here : above (line_names l) ≤ n = above_most n (line_names l) (λ x e. h x (or_left (occurs x l) (stands_in x ls) e)) in
    let rest : name_count ls ≤ n = count_most n ls (λ x e. h x (or_right (occurs x l) (stands_in x ls) e)) in omega arith

pub below_count : (x : ℕ) (ls : List Line) → stands_in x ls ≡ true → x < name_count ls
below_count x [] e = cc
below_count x (l ∷ ls) e =
    elim (or_cases (occurs x l) (stands_in x ls) e) [
      | inl here ↦ let h : x < above (line_names l) = below_above x (line_names l) here in omega arith
      | inr there ↦ let h : x < name_count ls = below_count x ls there in omega arith
    ]

pub counts_agree : (f : LinearFunction) → name_count (lines f) ≡ above (all_names f)
counts_agree f =
    let a : name_count (lines f) ≤ above (all_names f) =
    count_most (above (all_names f)) (lines f) (λ x e. below_above x (all_names f) (sym (names_stand f x) ∙ e)) in
    let b : above (all_names f) ≤ name_count (lines f) =
    above_most (name_count (lines f)) (all_names f) (λ x e. below_count x (lines f) (names_stand f x ∙ e)) in
    omega arith
