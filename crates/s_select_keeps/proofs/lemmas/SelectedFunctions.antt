-- A function whose lines can be selected can run.
use Rattle.std.proofs.Common.{◌≡◌, ℕ, suc, ◌+◌, ◌-◌, ◌*◌, ◌^◌, ◌<◌, ◌≤◌, true, List, [], ◌∷◌, ◌++◌, map, length, ap, ◌∙◌, arith}
use Rattle.std.proofs.lemmas.Bool.{and_parts, leb-true, ltb-true}
use Rattle.std.proofs.lemmas.Grind.{flat_map-append}
use Rattle.std.proofs.lemmas.List.Sums.{sum_by-append, sum_by-cons}
use Rattle.g_graph.specs.Plain.{PlainObject}
use Rattle.g_graph.specs.WellFormed.{all_of}
use Rattle.rv_isa.specs.Registers.{t0, t1}
use Rattle.rv_isa.specs.declared.instruction.Instr.TheVariants.{Bne}
use Rattle.rv_layout.specs.declared.item.Item.{Item}
use Rattle.rv_layout.specs.declared.item.Item.TheVariants.{Jump}
use Rattle.rv_layout.specs.Items.{item_size, items_size}
use Rattle.s_linear.specs.Frame.{PlainPlaces}
use Rattle.s_linear.specs.Linear.{Instr, const, Step, plain, choice, loop, Code, no_steps, step_then, Codes, no_codes, code_then, LinearFunction}
use Rattle.s_linear.specs.Lines.{Line, enter, leave, done, branch_not_zero, branch_zero, branch_equal, jump, label, does, counted, code_labels, step_labels, branches, last_lines, labelled, before_last, choice_lines, step_lines, code_lines, codes_lines, last_from, others_from, lines}
use Rattle.val_core.specs.Numbers.{numbers_from}
use Rattle.s_linear.specs.Operands.{has_its_object, has_its_global}
use Rattle.s_linear.proofs.lemmas.Passing.{length_codes}
use Rattle.s_select.specs.Conditions.{has_place, names_have_places, has_few_arguments, has_few_params}
use Rattle.s_select.specs.Operands.{load_immediate, in_of, load_in}
use Rattle.s_select.specs.Templates.{words, place_of, items_of, line_items}
use Rattle.s_select_keeps.specs.Codes.{InstrsFit, StepFits, CodeFits, CodesFit}
use Rattle.s_select_keeps.specs.Formats.{NumbersFit}
use Rattle.s_select_keeps.specs.Functions.{InstrCanRun}
use Rattle.s_select_keeps.specs.LaidFunctions.{is_word_constant, SelectedCanRun}

-- what the lines are asked
record LineCan (p : PlainPlaces) (objects globals : ℕ) (line : Line) : Type 0 where
  placed : names_have_places p line ≡ true
  object : does (has_its_object objects) line ≡ true
  global : does (has_its_global globals) line ≡ true
  few : does has_few_arguments line ≡ true
  word : does is_word_constant line ≡ true

number-fits : (i : Instr) → is_word_constant i ≡ true → NumbersFit (done i)
number-fits (const t w) e = ltb-true w (2 ^ 32) e
number-fits i e = tt

module _ (p : PlainPlaces) (objects globals : ℕ) where
  abbrev LinesCan : List Line → Type 0
  LinesCan [] = Unit {0}
  LinesCan (l ∷ ls) = LineCan p objects globals l × LinesCan ls

  gathered : (ls : List Line) → all_of (names_have_places p) ls ≡ true → all_of (does (has_its_object objects)) ls ≡ true
      → all_of (does (has_its_global globals)) ls ≡ true
      → all_of (does has_few_arguments) ls ≡ true → all_of (does is_word_constant) ls ≡ true → LinesCan ls
  gathered [] a b c d e = tt
  gathered (l ∷ ls) a b c d e =
      let pa = and_parts (names_have_places p l) (all_of (names_have_places p) ls) a in
      let pb = and_parts (does (has_its_object objects) l) (all_of (does (has_its_object objects)) ls) b in
      let pc = and_parts (does (has_its_global globals) l) (all_of (does (has_its_global globals)) ls) c in
      let pd = and_parts (does has_few_arguments l) (all_of (does has_few_arguments) ls) d in
      let pe = and_parts (does is_word_constant l) (all_of (does is_word_constant) ls) e in
      (record { placed = pa.0; object = pb.0; global = pc.0; few = pd.0; word = pe.0 }, gathered ls pa.1 pb.1 pc.1 pd.1 pe.1)

  left-can : (ls ms : List Line) → LinesCan (ls ++ ms) → LinesCan ls
  left-can [] ms h = tt
  left-can (l ∷ ls) ms h = (h.0, left-can ls ms h.1)

  right-can : (ls ms : List Line) → LinesCan (ls ++ ms) → LinesCan ms
  right-can [] ms h = h
  right-can (l ∷ ls) ms h = right-can ls ms h.1

  instr-can : (i : Instr) → LineCan p objects globals (done i) → InstrCanRun p objects globals i
  instr-can i h = (h.placed, h.object, h.global, number-fits i h.word, h.few)

  instrs-can : (is : List Instr) → LinesCan (map done is) → InstrsFit (InstrCanRun p objects globals) is
  instrs-can [] h = tt
  instrs-can (i ∷ is) h = (instr-can i h.0, instrs-can is h.1)

  -- a choice of two codes or more reads its predicate
  predicate-can : (x first : ℕ) (ls : List (List Line)) → LinesCan (choice_lines x first ls) → 1 < length ls → has_place p x ≡ true
  predicate-can x first [] h two = absurd (omega (arith, two))
  predicate-can x first (l ∷ []) h two = absurd (omega (arith, two))
  predicate-can x first (l ∷ k ∷ []) h two = (and_parts (has_place p x) true h.0.placed).0
  predicate-can x first (l ∷ k ∷ j ∷ ls) h two = (and_parts (has_place p x) true h.0.placed).0

  -- ---- lines whose code is short

  module _ (os : List PlainObject) where
    abbrev bytes : List Line → ℕ
    bytes ls = items_size (items_of p os ls)

    bytes-append : (ls ms : List Line) → bytes (ls ++ ms) ≡ bytes ls + bytes ms
    bytes-append ls ms = ap items_size (flat_map-append (line_items p os) ls ms) ∙ sum_by-append item_size (items_of p os ls) (items_of p os ms)

    abbrev Good : List Line → Type 0
    Good ls = LinesCan ls × (bytes ls < 2 ^ 20)

    abbrev AllGood : List (List Line) → Type 0
    AllGood [] = Unit {0}
    AllGood (l ∷ ls) = Good l × AllGood ls

    left-good : (ls ms : List Line) → Good (ls ++ ms) → Good ls
    left-good ls ms h = (left-can ls ms h.0, let e = bytes-append ls ms in let small = h.1 in omega (arith, e, small))

    right-good : (ls ms : List Line) → Good (ls ++ ms) → Good ms
    right-good ls ms h = (right-can ls ms h.0, let e = bytes-append ls ms in let small = h.1 in omega (arith, e, small))

    -- ---- choices

    labelled-good : (r first end : ℕ) (ls : List (List Line)) → Good (labelled r first end ls) → Good (last_lines ls) → AllGood ls
    labelled-good r first end [] h last = tt
    labelled-good r first end (l ∷ []) h last = (last, tt)
    labelled-good r first end (l ∷ k ∷ ls) h last =
        let rest = labelled (suc r) first end (k ∷ ls) in
        let here = right-good (jump end ∷ label (first + r) ∷ []) (l ++ rest) h in
        (left-good l rest here, labelled-good (suc r) first end (k ∷ ls) (right-good l rest here) last)

    abbrev many : (x first : ℕ) → List (List Line) → List Line
    many x first ls = branches x 0 first ls ++ last_lines ls ++ labelled 0 first (first + before_last ls) ls ++ label (first + before_last ls) ∷ []

    many-good : (x first : ℕ) (ls : List (List Line)) → Good (many x first ls) → Good (branches x 0 first ls) × AllGood ls
    many-good x first ls h =
        let end = first + before_last ls in
        let all = left-good (branches x 0 first ls ++ last_lines ls ++ labelled 0 first end ls) (label end ∷ []) h in
        let most = left-good (branches x 0 first ls ++ last_lines ls) (labelled 0 first end ls) all in (
          left-good (branches x 0 first ls) (last_lines ls) most,
          labelled-good 0 first end ls (right-good (branches x 0 first ls ++ last_lines ls) (labelled 0 first end ls) all)
              (right-good (branches x 0 first ls) (last_lines ls) most),
        )

    choice-good : (x first : ℕ) (ls : List (List Line)) → Good (choice_lines x first ls) → AllGood ls
    choice-good x first [] h = tt
    choice-good x first (l ∷ []) h = (many-good x first (l ∷ []) h).1
    choice-good x first (l ∷ k ∷ []) h =
        let all = left-good ((branch_not_zero x first ∷ l) ++ (jump (suc first) ∷ label first ∷ k)) (label (suc first) ∷ []) h in
        let one = left-good (branch_not_zero x first ∷ l) (jump (suc first) ∷ label first ∷ k) all in
        let two = right-good (branch_not_zero x first ∷ l) (jump (suc first) ∷ label first ∷ k) all in
        (right-good (branch_not_zero x first ∷ []) l one, (right-good (jump (suc first) ∷ label first ∷ []) k two, tt))
    choice-good x first (l ∷ k ∷ j ∷ ls) h = (many-good x first (l ∷ k ∷ j ∷ ls) h).1

    -- each branch has a jump at least
    with-jump : (code : List Item) (l : ℕ) → 4 ≤ items_size (code ++ Jump l ∷ [])
    with-jump code l =
        let e = sum_by-append item_size code (Jump l ∷ []) in
        let last = sum_by-cons item_size (Jump l) [] in
        omega (arith, e, last)

    branch-long : (x r l : ℕ) → 4 ≤ items_size (line_items p os (branch_equal x r l))
    branch-long x r l = with-jump (words (load_in t0 (place_of p x) ++ (load_immediate t1 r ++ Bne (in_of (place_of p x) t0) t1 8 ∷ []))) l

    branches-long : (x r first : ℕ) (ls : List (List Line)) → 4 * (length ls - 1) ≤ bytes (branches x r first ls)
    branches-long x r first [] = omega arith
    branches-long x r first (l ∷ []) = omega arith
    branches-long x r first (l ∷ k ∷ ls) =
        let branch = branch_equal x r (first + r) in
        let e = sum_by-append item_size (line_items p os branch) (items_of p os (branches x (suc r) first (k ∷ ls))) in
        let one = branch-long x r (first + r) in
        let more = branches-long x (suc r) first (k ∷ ls) in
        omega (arith, e, one, more)

    few-codes : (x first : ℕ) (ls : List (List Line)) → Good (choice_lines x first ls) → length ls < 2 ^ 32
    few-codes x first [] h = omega arith
    few-codes x first (l ∷ []) h = omega arith
    few-codes x first (l ∷ k ∷ []) h = omega arith
    few-codes x first (l ∷ k ∷ j ∷ ls) h =
        let long = branches-long x 0 first (l ∷ k ∷ j ∷ ls) in
        let short = (many-good x first (l ∷ k ∷ j ∷ ls) h).0.1 in
        omega (arith, long, short)

    -- ---- code

    mutual
      step-can : (s : Step) (first : ℕ) → Good (step_lines first s) → StepFits (InstrCanRun p objects globals) p s
      step-can (plain i) first h = instr-can i h.0.0
      step-can (choice x cs) first h =
          let later = first + counted cs in
          let ls = codes_lines (last_from later cs) (others_from later cs) cs in
          let same = length_codes (last_from later cs) (others_from later cs) cs in
          let few = few-codes x first ls h in (
            λ two. predicate-can x first ls h.0 (omega (arith, two, same)),
            omega (arith, few, same),
            codes-can cs (last_from later cs) (others_from later cs)
                (choice-good x first ls h),
          )
      step-can (loop moves body x back) first h =
          let code = code_lines (2 + first) body in
          let front = map done moves ++ (label first ∷ code) in
          let after = branch_zero x (suc first) ∷ map done back in
          let all = left-good (front ++ after) (jump first ∷ label (suc first) ∷ []) h in
          let one = left-good front after all in
          let two = right-good front after all in
          let inner = right-good (label first ∷ []) code (right-good (map done moves) (label first ∷ code) one) in (
            instrs-can moves (left-good (map done moves) (label first ∷ code) one).0,
            code-can body (2 + first) inner,
            (and_parts (has_place p x) true two.0.0.placed).0,
            instrs-can back two.0.1,
          )

      code-can : (k : Code) (first : ℕ) → Good (code_lines first k) → CodeFits (InstrCanRun p objects globals) p k
      code-can no_steps first h = tt
      code-can (step_then s k) first h =
          let rest = code_lines (first + step_labels s) k in
          (step-can s first (left-good (step_lines first s) rest h), code-can k (first + step_labels s) (right-good (step_lines first s) rest h))

      codes-can : (cs : Codes) (last others : ℕ) → AllGood (codes_lines last others cs) → CodesFit (InstrCanRun p objects globals) p cs
      codes-can no_codes last others h = tt
      codes-can (code_then k no_codes) last others h = (code-can k last h.0, tt)
      codes-can (code_then k (code_then j ks)) last others h = (code-can k others h.0, codes-can (code_then j ks) last (others + code_labels k) h.1)

    function-code : (f : LinearFunction) → Good (lines f) → CodeFits (InstrCanRun p objects globals) p f.code × (has_place p f.value ≡ true)
    function-code f h =
        let rest = right-good (enter (numbers_from 0 f.params) ∷ []) (code_lines 0 f.code ++ leave f.value ∷ []) h in
        let last = right-can (code_lines 0 f.code) (leave f.value ∷ []) rest.0 in
        (code-can f.code 0 (left-good (code_lines 0 f.code) (leave f.value ∷ []) rest), (and_parts (has_place p f.value) true last.0.placed).0)

pub selected_can_run : SelectedCanRun
selected_can_run globals f p frame can named words short range leaves = record {
  few = leb-true (length (numbers_from 0 f.params)) 8
      (and_parts (has_few_params (enter (numbers_from 0 f.params))) (all_of has_few_params (code_lines 0 f.code ++ leave f.value ∷ [])) can.params).0;
  params = good.0.placed;
  value = parts.1;
  code = parts.0;
  range = range;
  leaves = leaves;
}
  where
    good : LinesCan p (length f.objects) globals (lines f)
    good = gathered p (length f.objects) globals (lines f) can.placed can.named named can.arguments words

    parts : CodeFits (InstrCanRun p (length f.objects) globals) p f.code × (has_place p f.value ≡ true)
    parts =
        function-code p (length f.objects) globals f.objects f (
          gathered p (length f.objects) globals (lines f) can.placed can.named named can.arguments words,
          ltb-true (items_size (items_of p f.objects (lines f))) (2 ^ 20) short,
        )
