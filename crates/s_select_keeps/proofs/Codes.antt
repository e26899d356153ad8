-- Where instructions do what they mean, so does the code of a body.
use Rattle.std.proofs.Common.{◌≡◌, ℕ, suc, ◌+◌, ◌≤◌, List, [], ◌∷◌, ◌++◌, map, Option, Some, sym, ap, subst, ◌∙◌, arith}
use Rattle.val_core.specs.Answers.{then_on}
use Rattle.g_graph.specs.Plain.{PlainObject}
use Rattle.rv_machine.specs.Standing.{Text}
use Rattle.rv_layout.specs.Layout.{Addresses}
use Rattle.s_linear.specs.Frame.{PlainPlaces}
use Rattle.s_linear.specs.Linear.{Instr, Step, plain, choice, loop, Code, no_steps, step_then, Codes, no_codes, code_then}
use Rattle.s_linear.specs.Lines.{Line, done, branch_zero, jump, label, counted, last_from, others_from, step_labels, code_labels, step_lines, code_lines, codes_lines}
use Rattle.s_linear.specs.Meaning as linear
use Rattle.s_linear.proofs.lemmas.Passing.{length_codes}
use Rattle.s_linear.specs.Meaning.{Context, instrs_run, turns, step_run, code_run, codes_runs}
use Rattle.a_place.specs.Placed.{placed_instr, placed_step, placed_code, placed_codes}
use Rattle.s_select_keeps.specs.Codes.{InstrsFit, StepFits, CodeFits, CodesFit}
use Rattle.s_select_keeps.specs.Relation.{Bases, Frame, HasWords}
use Rattle.s_select_keeps.specs.Table.{place_at, HasPlaces}
use Rattle.s_select_keeps.proofs.Choices.{AllFollow, choice-follows}
use Rattle.s_select_keeps.proofs.Follows.{Stand, LinesFollow, InstrFollows, moved, predicate-below, instrs-follow, LoopStands, turns-follow}
use Rattle.s_select_keeps.proofs.Locations.{HasPlaceIn}
use Rattle.s_select_keeps.proofs.Lines.{lines-le, lines-cut, line-cut, label-here}
use Rattle.s_select_keeps.proofs.Outcomes.{then-outcome, returns}

module _ (text : Text) (f : Frame) (sizes : ℕ → ℕ) (left : ℕ) (Inv : Bases → linear.State → Type 0) (has : HasWords text f) (addresses : Addresses)
    (labels : ℕ → Option ℕ) (p : PlainPlaces)
    (os : List PlainObject) (c : Context) (same : HasPlaces f p) (fits : Instr → Type 0)
    (instr : (i : Instr) → fits i → InstrFollows text f sizes left Inv has addresses labels p os c i) where
  abbrev At : ℕ → List Line → ℕ → Type 0
  At a ls b = Stand text f sizes left Inv has addresses labels p os c a ls b

  abbrev Follow : List Line → linear.Run → Type 0
  Follow ls run = LinesFollow text f sizes left Inv has addresses labels p os c ls run

  instrs : (is : List Instr) → InstrsFit fits is → Follow (map done is) (instrs_run c (map (placed_instr (place_at p)) is))
  instrs is fit = instrs-follow text f sizes left Inv has addresses labels p os c fits instr is fit

  plain-follows : (first : ℕ) (i : Instr) → fits i → Follow (step_lines first (plain i)) (step_run c (placed_step (place_at p) (plain i)))
  plain-follows first i fit q s b shown there low =
      let cut = line-cut text addresses labels p os s.pc b (done i) [] there in
      let end : cut.0 ≡ b = cut.2 in
      moved text f sizes left Inv has addresses labels p os c cut.0 b c.bound (linear.instr_run c (placed_instr (place_at p) i) q) s q.input end
      (instr i fit q s cut.0 shown cut.1 (omega (arith, end, low)))

  -- the variables are moved in, and the loop's parts stand one after the other
  loop-follows : (first x : ℕ) (moves back : List Instr) (body : List Line) (run : linear.Run) → InstrsFit fits moves → HasPlaceIn f p x
      → InstrsFit fits back → Follow body run
      → Follow (map done moves ++ label first ∷ body ++ branch_zero x (suc first) ∷ map done back ++ jump first ∷ label (suc first) ∷ [])
      (λ q. then_on (instrs_run c (map (placed_instr (place_at p)) moves) q) (turns c.bound run (place_at p x) (instrs_run c (map (placed_instr (place_at p)) back))))
  loop-follows first x moves back body run fit inside fit' follows q s b shown there low =
      let back_run = instrs_run c (map (placed_instr (place_at p)) back) in
      then-outcome text f sizes left Inv moved-in.0 b c.bound (instrs_run c (map (placed_instr (place_at p)) moves) q)
      (turns c.bound run (place_at p x) back_run) s q.input
      (instrs moves fit q s moved-in.0 shown moved-in.1 (let le = body-le in omega (arith, le, low)))
      (λ q' t shown' at.
      turns-follow text f sizes left Inv has addresses labels p os c x first inside body (map done back) run back_run follows
      (instrs back fit') moved-in.0 b low stands c.bound (omega arith) q' t
      shown' at)
    where
      all : (m : ℕ) × At s.pc ((map done moves ++ (label first ∷ body)) ++ (branch_zero x (suc first) ∷ map done back)) m × At m (jump first ∷ label (suc first) ∷ []) b
      all = lines-cut text addresses labels p os s.pc b ((map done moves ++ (label first ∷ body)) ++ (branch_zero x (suc first) ∷ map done back))
          (jump first ∷ label (suc first) ∷ []) there

      most : (m : ℕ) × At s.pc (map done moves ++ (label first ∷ body)) m × At m (branch_zero x (suc first) ∷ map done back) all.0
      most = lines-cut text addresses labels p os s.pc all.0 (map done moves ++ (label first ∷ body)) (branch_zero x (suc first) ∷ map done back) all.1

      moved-in : (m : ℕ) × At s.pc (map done moves) m × At m (label first ∷ body) most.0
      moved-in = lines-cut text addresses labels p os s.pc most.0 (map done moves) (label first ∷ body) most.1

      start : (labels first ≡ Some moved-in.0) × At moved-in.0 body most.0
      start = label-here text addresses labels p os moved-in.0 most.0 first body moved-in.2

      branch : (m : ℕ) × At most.0 (branch_zero x (suc first) ∷ []) m × At m (map done back) all.0
      branch = lines-cut text addresses labels p os most.0 all.0 (branch_zero x (suc first) ∷ []) (map done back) most.2

      jumped : (m : ℕ) × At all.0 (jump first ∷ []) m × At m (label (suc first) ∷ []) b
      jumped = lines-cut text addresses labels p os all.0 b (jump first ∷ []) (label (suc first) ∷ []) all.2

      end : (labels (suc first) ≡ Some jumped.0) × (jumped.0 ≡ b)
      end = label-here text addresses labels p os jumped.0 b (suc first) [] jumped.2

      stands : LoopStands text f sizes left Inv has addresses labels p os c x first inside body (map done back) run
          (instrs_run c (map (placed_instr (place_at p)) back)) follows
          (instrs back fit') moved-in.0 b
      stands = record {
        body_end = most.0;
        branch_end = branch.0;
        back_end = all.0;
        jump_end = jumped.0;
        start_is = start.0;
        end_is = end.0 ∙ ap Some end.1;
        body_stands = start.1;
        branch_stands = branch.1;
        back_stands = branch.2;
        jump_stands = jumped.1;
        order = (let e = end.1 in omega (arith, e));
      }

      body-le : moved-in.0 ≤ b
      body-le =
          let i = lines-le text addresses labels p os moved-in.0 most.0 (label first ∷ body) moved-in.2 in
          let j = lines-le text addresses labels p os most.0 all.0 (branch_zero x (suc first) ∷ map done back) most.2 in
          let k = lines-le text addresses labels p os all.0 b (jump first ∷ label (suc first) ∷ []) all.2 in
          omega (arith, i, j, k)

  mutual
    step-follows : (x : Step) (first : ℕ) → StepFits fits p x → Follow (step_lines first x) (step_run c (placed_step (place_at p) x))
    step-follows (plain i) first fit = plain-follows first i fit
    step-follows (choice x cs) first fit =
        let later = first + counted cs in
        let ls = codes_lines (last_from later cs) (others_from later cs) cs in
        let all = length_codes (last_from later cs) (others_from later cs) cs in
        let few = fit.1 in
        choice-follows text f sizes left Inv has addresses labels p os c x first ls (codes_runs c (placed_codes (place_at p) cs))
        (λ two. predicate-below text f sizes left Inv has addresses labels p os c x same (fit.0 (omega (arith, two, all))))
        (codes-follow cs (last_from later cs) (others_from later cs) fit.2)
        (omega (arith, few, all))
    step-follows (loop moves body x back) first fit =
        loop-follows first x moves back (code_lines (2 + first) body) (code_run c (placed_code (place_at p) body)) fit.0
        (predicate-below text f sizes left Inv has addresses labels p os c x same fit.2) fit.3 (code-follows body (2 + first) fit.1)

    pub code-follows : (k : Code) (first : ℕ) → CodeFits fits p k → Follow (code_lines first k) (code_run c (placed_code (place_at p) k))
    code-follows no_steps first fit q s b shown there low = returns text f sizes left Inv b c.bound q s shown there
    code-follows (step_then x k) first fit q s b shown there low =
        let rest = code_lines (first + step_labels x) k in
        let cut = lines-cut text addresses labels p os s.pc b (step_lines first x) rest there in
        let le = lines-le text addresses labels p os cut.0 b rest cut.2 in
        then-outcome text f sizes left Inv cut.0 b c.bound (step_run c (placed_step (place_at p) x) q) (code_run c (placed_code (place_at p) k)) s q.input
        (step-follows x first fit.0 q s cut.0 shown cut.1 (omega (arith, le, low)))
        (λ q' t shown' at. code-follows k (first + step_labels x) fit.1 q' t b shown' (subst (λ a. At a rest b) (sym at) cut.2) low)

    codes-follow : (cs : Codes) (last others : ℕ) → CodesFit fits p cs
        → AllFollow text f sizes left Inv has addresses labels p os c (codes_lines last others cs) (codes_runs c (placed_codes (place_at p) cs))
    codes-follow no_codes last others fit = tt
    codes-follow (code_then k no_codes) last others fit = (code-follows k last fit.0, tt)
    codes-follow (code_then k (code_then j ks)) last others fit = (code-follows k others fit.0, codes-follow (code_then j ks) last (others + code_labels k) fit.1)
