-- Where instructions do what they mean, so do lists of them and loops.
use Rattle.std.proofs.Common.{◌≡◌, ℕ, zero, suc, ◌^◌, ◌<◌, ◌≤◌, ◌==◌, if◌then◌else◌, Bool, true, false, List, [], ◌∷◌, map, Option, Some, refl, sym, subst, ◌∙◌, arith, inr}
use Rattle.val_core.specs.declared.values.Value.{Value}
use Rattle.val_core.specs.declared.values.Value.TheVariants.{Num, At, Bad}
use Rattle.val_core.specs.Answers.{Answer, Returned, then_on, on_number}
use Rattle.g_graph.specs.Plain.{PlainObject}
use Rattle.rv_machine.specs.Machine.{State}
use Rattle.rv_machine.specs.Run.{running}
use Rattle.rv_machine.specs.Standing.{Text}
use Rattle.rv_machine.proofs.lemmas.RunLaws.{run-zero}
use Rattle.rv_layout.specs.Layout.{Addresses}
use Rattle.s_linear.specs.Frame.{PlainPlaces}
use Rattle.s_linear.specs.Linear.{Instr}
use Rattle.s_linear.specs.Lines.{Line, done, branch_zero, jump}
use Rattle.s_linear.specs.Meaning as linear
use Rattle.s_linear.specs.Meaning.{Context, instr_run, instrs_run, turns}
use Rattle.a_place.specs.Placed.{placed_instr}
use Rattle.s_select.specs.Conditions.{has_place}
use Rattle.s_select.specs.Templates.{instr_items, line_items}
use Rattle.s_select_keeps.specs.Codes.{InstrsFit, LinesStand}
use Rattle.s_select_keeps.specs.Relation.{Bases, Frame, at_bases, HasWords}
use Rattle.s_select_keeps.specs.Standing.{ItemsStand}
use Rattle.s_select_keeps.specs.Steps.{Arrives}
use Rattle.s_select_keeps.specs.Table.{place_at, HasPlaces}
use Rattle.s_select_keeps.proofs.Locations.{HasPlaceIn, place-below}
use Rattle.s_select_keeps.proofs.Lines.{lines-le, line-cut, branches-zero, jumps-once}
use Rattle.s_select_keeps.proofs.Outcomes.{Outcome, Shown, words-at, before-outcome, then-outcome, weaker, returns, arrives-outcome}

module _ (text : Text) (f : Frame) (sizes : ℕ → ℕ) (left : ℕ) (Inv : Bases → linear.State → Type 0) (has : HasWords text f) (addresses : Addresses)
    (labels : ℕ → Option ℕ) (p : PlainPlaces)
    (os : List PlainObject) (c : Context) where
  abbrev pub Out : (b least : ℕ) → Answer linear.State → State → (input : List ℕ) → Type 0
  Out b least a s input = Outcome text f sizes left Inv b least a s input

  abbrev pub Stand : ℕ → List Line → ℕ → Type 0
  Stand a ls b = LinesStand text addresses labels p os a ls b

  -- lines that stand do what a run says
  abbrev pub LinesFollow : List Line → linear.Run → Type 0
  LinesFollow ls run = (q : linear.State) (s : State) (b : ℕ) → Shown text f Inv q s → Stand s.pc ls b → b < 2 ^ 32 → Out b c.bound (run q) s q.input

  -- so do the items of an instruction
  abbrev pub InstrFollows : Instr → Type 0
  InstrFollows i =
      (q : linear.State) (s : State) (b : ℕ) → Shown text f Inv q s → ItemsStand text addresses labels s.pc (instr_items p os i) b → b < 2 ^ 32
      → Out b c.bound (instr_run c (placed_instr (place_at p) i) q) s q.input

  pub moved : (b b' least : ℕ) (a : Answer linear.State) (s : State) (input : List ℕ) → b ≡ b' → Out b least a s input → Out b' least a s input
  moved b b' least a s input e h = subst (λ x. Out x least a s input) e h

  -- the place of a predicate is one of the frame's
  pub predicate-below : (x : ℕ) → HasPlaces f p → has_place p x ≡ true → HasPlaceIn f p x
  predicate-below x same e = (same, place-below p f same x e)

  -- nothing is said where there is no number
  pub on-a-number : (b least : ℕ) (v : Value) (next : ℕ → Answer linear.State) (s : State) (input : List ℕ) → ((w : ℕ) → v ≡ Num w → Out b least (next w) s input)
      → Out b least (on_number v next) s input
  on-a-number b least (Num w) next s input does = does w refl
  on-a-number b least (At n o) next s input does = inr tt
  on-a-number b least Bad next s input does = inr tt

  module _ (fits : Instr → Type 0) (instr : (i : Instr) → fits i → InstrFollows i) where
    pub instrs-follow : (is : List Instr) → InstrsFit fits is → LinesFollow (map done is) (instrs_run c (map (placed_instr (place_at p)) is))
    instrs-follow [] fit q s b shown there low = returns text f sizes left Inv b c.bound q s shown there
    instrs-follow (i ∷ is) fit q s b shown there low =
        let cut = line-cut text addresses labels p os s.pc b (done i) (map done is) there in
        let le = lines-le text addresses labels p os cut.0 b (map done is) cut.2 in
        then-outcome text f sizes left Inv cut.0 b c.bound (instr_run c (placed_instr (place_at p) i) q) (instrs_run c (map (placed_instr (place_at p)) is)) s q.input
        (instr i fit.0 q s cut.0 shown cut.1 (omega (arith, le, low)))
        (λ q' t shown' at. instrs-follow is fit.1 q' t b shown' (subst (λ a. Stand a (map done is) b) (sym at) cut.2) low)

  -- ---- loops: the body from the label on, the branch to the end, the variables back and the jump to the label

  module _ (x first : ℕ) (inside : HasPlaceIn f p x) (body back : List Line) (body_run back_run : linear.Run) (body_follows : LinesFollow body body_run)
      (back_follows : LinesFollow back back_run) where
    -- where the parts of the loop stand
    pub record LoopStands (start end : ℕ) : Type 0 where
      pub body_end : ℕ
      pub branch_end : ℕ
      pub back_end : ℕ
      pub jump_end : ℕ
      pub start_is : labels first ≡ Some start
      pub end_is : labels (suc first) ≡ Some end
      pub body_stands : Stand start body body_end
      pub branch_stands : Stand body_end (branch_zero x (suc first) ∷ []) branch_end
      pub back_stands : Stand branch_end back back_end
      pub jump_stands : Stand back_end (jump first ∷ []) jump_end
      pub order : jump_end ≤ end

    module _ (start end : ℕ) (low : end < 2 ^ 32) (h : LoopStands start end) where
      below-end : (h.body_end ≤ end) × (h.branch_end ≤ end) × (h.back_end ≤ end)
      below-end =
          let j = lines-le text addresses labels p os h.back_end h.jump_end (jump first ∷ []) h.jump_stands in
          let k = lines-le text addresses labels p os h.branch_end h.back_end back h.back_stands in
          let r = lines-le text addresses labels p os h.body_end h.branch_end (branch_zero x (suc first) ∷ []) h.branch_stands in
          let o = h.order in
          (omega (arith, j, k, r, o), omega (arith, j, k, o), omega (arith, j, o))

      start-low : start < 2 ^ 32
      start-low = let i = lines-le text addresses labels p os start h.body_end body h.body_stands in let le = below-end.0 in omega (arith, i, le, low)

      -- so many turns from the label on; each has one instruction at least
      pub turns-follow : (n : ℕ) → n ≤ c.bound → (q : linear.State) (s : State) → Shown text f Inv q s → s.pc ≡ start
          → Out end n (turns n body_run (place_at p x) back_run q) s q.input
      turns-follow zero less q s shown here =
          inr (record { state = s; count = 0; rest = q.input; enough = omega arith; reaches = record { to = run-zero text.flags (running s) q.input } })
      turns-follow (suc n) less q s shown here =
          then-outcome text f sizes left Inv h.body_end end (suc n) (body_run q)
          (λ t. on_number (t.names (place_at p x)) (λ w. if w == 0 then Returned t [] else then_on (back_run t) (turns n body_run (place_at p x) back_run))) s q.input
          (weaker text f sizes left Inv h.body_end c.bound (suc n) s q.input (body_run q) less
          (body_follows q s h.body_end shown (subst (λ a. Stand a body h.body_end) (sym here) h.body_stands) (let le = below-end.0 in omega (arith, le, low))))
          (λ q' t shown' at.
          on-a-number end (suc n) (q'.names (place_at p x)) (λ w. if w == 0 then Returned q' [] else then_on (back_run q') (turns n body_run (place_at p x) back_run)) t
          q'.input
          (λ w word.
          let cut = line-cut text addresses labels p os h.body_end h.branch_end (branch_zero x (suc first)) [] h.branch_stands in
          let last : cut.0 ≡ h.branch_end = cut.2 in
          let le = below-end.1 in
          let branch = branches-zero text addresses labels p os (at_bases f shown'.bases) (words-at text f shown'.bases has) q' t x w cut.0
          (suc first) end shown'.shows inside word (omega (arith, last, le, low)) h.end_is low
          (subst (λ a. ItemsStand text addresses labels a (line_items p os (branch_zero x (suc first))) cut.0) (sym at) cut.1) in
          tested n (w == 0) q' t shown'.bases shown'.inv cut.0 last branch
          (λ q'' u shown'' here''. turns-follow n (omega (arith, less)) q'' u shown'' here'')
          less))
        where
          -- a jump to the label, and further turns
          again : (n : ℕ) (q : linear.State) (u : State) → Shown text f Inv q u → u.pc ≡ h.back_end
              → ((q' : linear.State) (t : State) → Shown text f Inv q' t → t.pc ≡ start → Out end n (turns n body_run (place_at p x) back_run q') t q'.input)
              → Out end (suc n) (turns n body_run (place_at p x) back_run q) u q.input
          again n q u shown here more =
              let cut = line-cut text addresses labels p os h.back_end h.jump_end (jump first) [] h.jump_stands in
              let last : cut.0 ≡ h.jump_end = cut.2 in
              let o = h.order in
              let j = jumps-once text addresses labels p os (at_bases f shown.bases) q u cut.0 first start q.input shown.shows
              (subst (λ a. ItemsStand text addresses labels a (line_items p os (jump first)) cut.0) (sym here) cut.1)
              (omega (arith, last, o, low)) h.start_is start-low in
              before-outcome text f sizes left Inv [] end n (suc n) 1 u j.0 q.input q.input j.1 (omega arith) (turns n body_run (place_at p x) back_run q)
              (more q j.0 (record { bases = shown.bases; inv = shown.inv; shows = j.2 }) j.3)

          tested : (n : ℕ) (test : Bool) (q : linear.State) (t : State) (bases : Bases) → Inv bases q → (b : ℕ) → b ≡ h.branch_end
              → Arrives text (at_bases f bases) (if test then end else b) q t
              → ((q' : linear.State) (u : State) → Shown text f Inv q' u → u.pc ≡ start → Out end n (turns n body_run (place_at p x) back_run q') u q'.input)
              → suc n ≤ c.bound → Out end (suc n) (if test then Returned q [] else then_on (back_run q) (turns n body_run (place_at p x) back_run)) t q.input
          tested n true q t bases inv b last branch more less =
              arrives-outcome text f sizes left Inv end end (suc n) q t bases (Returned q []) inv branch
              (λ u shown at. returns text f sizes left Inv end (suc n) q u shown at)
          tested n false q t bases inv b last branch more less =
              arrives-outcome text f sizes left Inv b end (suc n) q t bases (then_on (back_run q) (turns n body_run (place_at p x) back_run)) inv branch
              (λ u shown at.
              then-outcome text f sizes left Inv h.back_end end (suc n) (back_run q) (turns n body_run (place_at p x) back_run) u q.input
              (weaker text f sizes left Inv h.back_end c.bound (suc n) u q.input (back_run q) less
              (back_follows q u h.back_end shown (subst (λ a. Stand a back h.back_end) (sym (at ∙ last)) h.back_stands) (let le = below-end.2 in omega (arith, le, low))))
              (λ q' v shown' here'. again n q' v shown' here' more))
