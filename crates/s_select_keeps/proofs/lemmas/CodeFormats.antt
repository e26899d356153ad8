-- The items of a function that can run are of instructions that fit their formats.
use Rattle.std.proofs.Common.{◌≡◌, ℕ, suc, ◌+◌, ◌^◌, ◌≤◌, true, List, [], ◌∷◌, ◌++◌, map, length, refl, arith}
use Rattle.std.proofs.lemmas.Bool.{le-leb}
use Rattle.g_graph.specs.Plain.{PlainObject}
use Rattle.s_linear.specs.Frame.{PlainPlaces}
use Rattle.s_linear.specs.Linear.{Instr, Step, plain, choice, loop, Code, no_steps, step_then, Codes, no_codes, code_then, LinearFunction}
use Rattle.s_linear.specs.Lines.{Line, leave, done, branch_not_zero, branch_zero, jump, label, does, counted, code_labels, step_labels, branches, last_lines, labelled, before_last, choice_lines, step_lines, code_lines, codes_lines, last_from, others_from, lines}
use Rattle.val_core.specs.Numbers.{numbers_from}
use Rattle.s_linear.proofs.lemmas.Passing.{length_codes}
use Rattle.s_select.specs.Conditions.{has_few_arguments, has_few_params}
use Rattle.s_select.specs.Templates.{items_of, line_items}
use Rattle.s_select_keeps.specs.Codes.{InstrsFit, StepFits, CodeFits, CodesFit}
use Rattle.s_select_keeps.specs.Formats.{WordsFit, IsInRange, NumbersFit}
use Rattle.s_select_keeps.specs.Functions.{InstrCanRun, FunctionCanRun}
use Rattle.s_select_keeps.proofs.Formats.{items-append}
use Rattle.s_select_keeps.proofs.LineFormats.{templates_fit}

-- what the template of a line asks
abbrev LineFits : Line → Type 0
LineFits line = NumbersFit line × (has_few_params line ≡ true) × (does has_few_arguments line ≡ true)

abbrev LinesFit : List Line → Type 0
LinesFit [] = Unit {0}
LinesFit (l ∷ ls) = LineFits l × LinesFit ls

abbrev AllLinesFit : List (List Line) → Type 0
AllLinesFit [] = Unit {0}
AllLinesFit (l ∷ ls) = LinesFit l × AllLinesFit ls

lines-append : (ls ms : List Line) → LinesFit ls → LinesFit ms → LinesFit (ls ++ ms)
lines-append [] ms h g = g
lines-append (l ∷ ls) ms h g = (h.0, lines-append ls ms h.1 g)

-- ---- choices

branches-fit : (x r first : ℕ) (ls : List (List Line)) → r + length ls ≤ 2 ^ 32 → LinesFit (branches x r first ls)
branches-fit x r first [] few = tt
branches-fit x r first (l ∷ []) few = tt
branches-fit x r first (l ∷ k ∷ ls) few = ((omega (arith, few), refl, refl), branches-fit x (suc r) first (k ∷ ls) (omega (arith, few)))

last-fit : (ls : List (List Line)) → AllLinesFit ls → LinesFit (last_lines ls)
last-fit [] h = tt
last-fit (l ∷ []) h = h.0
last-fit (l ∷ k ∷ ls) h = last-fit (k ∷ ls) h.1

labelled-fit : (r first end : ℕ) (ls : List (List Line)) → AllLinesFit ls → LinesFit (labelled r first end ls)
labelled-fit r first end [] h = tt
labelled-fit r first end (l ∷ []) h = tt
labelled-fit r first end (l ∷ k ∷ ls) h =
    ((tt, refl, refl), ((tt, refl, refl), lines-append l (labelled (suc r) first end (k ∷ ls)) h.0 (labelled-fit (suc r) first end (k ∷ ls) h.1)))

many-fit : (x first : ℕ) (ls : List (List Line)) → AllLinesFit ls → length ls ≤ 2 ^ 32
    → LinesFit (branches x 0 first ls ++ last_lines ls ++ labelled 0 first (first + before_last ls) ls ++ label (first + before_last ls) ∷ [])
many-fit x first ls h few =
    let end = first + before_last ls in
    lines-append (branches x 0 first ls ++ last_lines ls ++ labelled 0 first end ls) (label end ∷ [])
    (lines-append (branches x 0 first ls ++ last_lines ls) (labelled 0 first end ls)
    (lines-append (branches x 0 first ls) (last_lines ls) (branches-fit x 0 first ls (omega (arith, few))) (last-fit ls h))
    (labelled-fit 0 first end ls h))
    ((tt, refl, refl), tt)

choice-fit : (x first : ℕ) (ls : List (List Line)) → AllLinesFit ls → length ls ≤ 2 ^ 32 → LinesFit (choice_lines x first ls)
choice-fit x first [] h few = tt
choice-fit x first (l ∷ []) h few = many-fit x first (l ∷ []) h few
choice-fit x first (l ∷ k ∷ []) h few =
    lines-append ((branch_not_zero x first ∷ l) ++ (jump (suc first) ∷ label first ∷ k)) (label (suc first) ∷ [])
    (lines-append (branch_not_zero x first ∷ l) (jump (suc first) ∷ label first ∷ k) ((tt, refl, refl), h.0) ((tt, refl, refl), ((tt, refl, refl), h.1.0)))
    ((tt, refl, refl), tt)
choice-fit x first (l ∷ k ∷ j ∷ ls) h few = many-fit x first (l ∷ k ∷ j ∷ ls) h few

-- ---- code

module _ (p : PlainPlaces) (objects globals : ℕ) where
  abbrev Can : Instr → Type 0
  Can i = InstrCanRun p objects globals i

  instrs-fit : (is : List Instr) → InstrsFit Can is → LinesFit (map done is)
  instrs-fit [] h = tt
  instrs-fit (i ∷ is) h = ((h.0.3, refl, h.0.4), instrs-fit is h.1)

  mutual
    step-fit : (s : Step) (first : ℕ) → StepFits Can p s → LinesFit (step_lines first s)
    step-fit (plain i) first h = ((h.3, refl, h.4), tt)
    step-fit (choice x cs) first h =
        let later = first + counted cs in
        choice-fit x first (codes_lines (last_from later cs) (others_from later cs) cs) (codes-fit cs (last_from later cs) (others_from later cs) h.2)
        (let few = h.1 in let same = length_codes (last_from later cs) (others_from later cs) cs in omega (arith, few, same))
    step-fit (loop moves body x back) first h =
        lines-append ((map done moves ++ (label first ∷ code_lines (2 + first) body)) ++ (branch_zero x (suc first) ∷ map done back))
        (jump first ∷ label (suc first) ∷ [])
        (lines-append (map done moves ++ (label first ∷ code_lines (2 + first) body)) (branch_zero x (suc first) ∷ map done back)
        (lines-append (map done moves) (label first ∷ code_lines (2 + first) body) (instrs-fit moves h.0) ((tt, refl, refl), code-fit body (2 + first) h.1))
        ((tt, refl, refl), instrs-fit back h.3))
        ((tt, refl, refl), ((tt, refl, refl), tt))

    code-fit : (k : Code) (first : ℕ) → CodeFits Can p k → LinesFit (code_lines first k)
    code-fit no_steps first h = tt
    code-fit (step_then s k) first h = lines-append (step_lines first s) (code_lines (first + step_labels s) k) (step-fit s first h.0)
        (code-fit k (first + step_labels s) h.1)

    codes-fit : (cs : Codes) (last others : ℕ) → CodesFit Can p cs → AllLinesFit (codes_lines last others cs)
    codes-fit no_codes last others h = tt
    codes-fit (code_then k no_codes) last others h = (code-fit k last h.0, tt)
    codes-fit (code_then k (code_then j ks)) last others h = (code-fit k others h.0, codes-fit (code_then j ks) last (others + code_labels k) h.1)

words-of-lines : (p : PlainPlaces) (os : List PlainObject) (ls : List Line) → IsInRange p os → LinesFit ls → WordsFit (items_of p os ls)
words-of-lines p os [] range h = tt
words-of-lines p os (l ∷ ls) range h =
    items-append (line_items p os l) (items_of p os ls) (templates_fit p os l range h.0.0 h.0.1 h.0.2) (words-of-lines p os ls range h.1)

pub function-fits : (globals : ℕ) (p : PlainPlaces) (f : LinearFunction) → FunctionCanRun globals p f → WordsFit (items_of p f.objects (lines f))
function-fits globals p f can =
    words-of-lines p f.objects (lines f) can.range (
      (tt, le-leb (length (numbers_from 0 f.params)) 8 can.few, refl),
      lines-append (code_lines 0 f.code) (leave f.value ∷ []) (code-fit p (length f.objects) globals f.code 0 can.code) ((tt, refl, refl), tt),
    )
