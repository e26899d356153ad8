-- Where codes do what they mean, so does a choice of them: branches lead to the code that the predicate chooses, and jumps from each
-- code to the end.
use Rattle.std.proofs.Common.{◌≡◌, ℕ, zero, suc, ◌+◌, ◌^◌, ◌<◌, ◌==◌, if◌then◌else◌, true, false, List, [], ◌∷◌, ◌++◌, length, Option, Some, sym, ap, subst, ◌∙◌, arith, inr, eq-eqb}
use Rattle.std.proofs.lemmas.Bool.{ne_eqb}
use Rattle.val_core.specs.declared.values.Value.TheVariants.{Num}
use Rattle.val_core.specs.Answers.{Answer, Returned}
use Rattle.val_core.proofs.lemmas.Answers.{then_nothing}
use Rattle.g_graph.specs.Plain.{PlainObject}
use Rattle.rv_machine.specs.Machine.{State}
use Rattle.rv_machine.specs.Standing.{Text}
use Rattle.rv_layout.specs.Layout.{Addresses}
use Rattle.s_linear.specs.Frame.{PlainPlaces}
use Rattle.s_linear.specs.Lines.{Line, branch_not_zero, branch_equal, jump, label, branches, last_lines, labelled, before_last, choice_lines}
use Rattle.s_linear.specs.Meaning as linear
use Rattle.s_linear.specs.Meaning.{Context, Run, chosen, chosen_by}
use Rattle.s_select.specs.Templates.{line_items}
use Rattle.s_select_keeps.specs.Relation.{Bases, Frame, at_bases, HasWords}
use Rattle.s_select_keeps.specs.Standing.{ItemsStand}
use Rattle.s_select_keeps.specs.Steps.{Arrives}
use Rattle.s_select_keeps.specs.Table.{place_at}
use Rattle.s_select_keeps.proofs.Follows.{Out, Stand, LinesFollow, on-a-number}
use Rattle.s_select_keeps.proofs.Locations.{HasPlaceIn}
use Rattle.s_select_keeps.proofs.Lines.{lines-le, lines-cut, line-cut, label-here, branches-not-zero, branches-equal, jumps-once}
use Rattle.s_select_keeps.proofs.Outcomes.{Shown, words-at, before-outcome, then-outcome, returns, arrives-outcome}

module _ (text : Text) (f : Frame) (sizes : ℕ → ℕ) (left : ℕ) (Inv : Bases → linear.State → Type 0) (has : HasWords text f) (addresses : Addresses)
    (labels : ℕ → Option ℕ) (p : PlainPlaces)
    (os : List PlainObject) (c : Context) where
  abbrev To : (b : ℕ) → Answer linear.State → State → (input : List ℕ) → Type 0
  To b a s input = Out text f sizes left Inv has addresses labels p os c b c.bound a s input

  abbrev At : ℕ → List Line → ℕ → Type 0
  At a ls b = Stand text f sizes left Inv has addresses labels p os c a ls b

  abbrev Follow : List Line → Run → Type 0
  Follow ls run = LinesFollow text f sizes left Inv has addresses labels p os c ls run

  -- each of these lines follows its run
  abbrev pub AllFollow : List (List Line) → List Run → Type 0
  AllFollow [] [] = Unit {0}
  AllFollow (l ∷ ls) (r ∷ rs) = Follow l r × AllFollow ls rs
  AllFollow _ _ = ⊥

  -- a run, and then the way to the end
  then-leaves : (m b : ℕ) (a : Answer linear.State) (s : State) (input : List ℕ) → To m a s input
      → ((q : linear.State) (t : State) → Shown text f Inv q t → t.pc ≡ m → To b (Returned q []) t q.input) → To b a s input
  then-leaves m b a s input h leave =
      subst (λ x. To b x s input) (then_nothing a) (then-outcome text f sizes left Inv m b c.bound a (λ t. Returned t []) s input h leave)

  -- a jump to the end
  leaves : (l a b target : ℕ) → ItemsStand text addresses labels a (line_items p os (jump l)) b → b < 2 ^ 32 → labels l ≡ Some target → target < 2 ^ 32
      → (q : linear.State) (s : State) → Shown text f Inv q s
      → s.pc ≡ a → To target (Returned q []) s q.input
  leaves l a b target there low is small q s shown here =
      let j = jumps-once text addresses labels p os (at_bases f shown.bases) q s b l target q.input shown.shows
      (subst (λ x. ItemsStand text addresses labels x (line_items p os (jump l)) b) (sym here) there) low is small in
      before-outcome text f sizes left Inv [] target c.bound c.bound 1 s j.0 q.input q.input j.1 (omega arith) (Returned q [])
      (returns text f sizes left Inv target c.bound q j.0 (record { bases = shown.bases; inv = shown.inv; shows = j.2 }) j.3)

  module _ (x first : ℕ) where
    -- ---- where the parts of a choice stand

    record Parts (ls : List (List Line)) (a b : ℕ) : Type 0 where
      m : ℕ
      n : ℕ
      tests : At a (branches x 0 first ls) m
      final : At m (last_lines ls) n
      others : At n (labelled 0 first (first + before_last ls) ls) b
      end_is : labels (first + before_last ls) ≡ Some b

    parts : (ls : List (List Line)) (a b : ℕ)
        → At a (branches x 0 first ls ++ last_lines ls ++ labelled 0 first (first + before_last ls) ls ++ label (first + before_last ls) ∷ []) b → Parts ls a b
    parts ls a b there =
        let last = first + before_last ls in
        let all = lines-cut text addresses labels p os a b (branches x 0 first ls ++ last_lines ls ++ labelled 0 first last ls) (label last ∷ []) there in
        let end = label-here text addresses labels p os all.0 b last [] all.2 in
        let most = lines-cut text addresses labels p os a all.0 (branches x 0 first ls ++ last_lines ls) (labelled 0 first last ls) all.1 in
        let some = lines-cut text addresses labels p os a most.0 (branches x 0 first ls) (last_lines ls) most.1 in
        let same : all.0 ≡ b = end.1 in
        record {
          m = some.0;
          n = most.0;
          tests = some.1;
          final = some.2;
          others = subst (λ y. At most.0 (labelled 0 first last ls) y) same most.2;
          end_is = end.0 ∙ ap Some same;
        }

  module _ (x first : ℕ) (inside : HasPlaceIn f p x) where
    -- ---- codes of a choice but the last, each with its label, and before it the jump of what stands before it

    module _ (last b : ℕ) (low : b < 2 ^ 32) (is : labels last ≡ Some b) where
      exits : (r : ℕ) (ls : List (List Line)) (g : ℕ) → At g (labelled r first last ls) b → (q : linear.State) (s : State) → Shown text f Inv q s → s.pc ≡ g
          → To b (Returned q []) s q.input
      exits r [] g there q s shown here = returns text f sizes left Inv b c.bound q s shown (here ∙ there)
      exits r (l ∷ []) g there q s shown here = returns text f sizes left Inv b c.bound q s shown (here ∙ there)
      exits r (l ∷ m ∷ ls) g there q s shown here =
          let rest = label (first + r) ∷ (l ++ labelled (suc r) first last (m ∷ ls)) in
          let cut = line-cut text addresses labels p os g b (jump last) rest there in
          let le = lines-le text addresses labels p os cut.0 b rest cut.2 in
          leaves last g cut.0 b cut.1 (omega (arith, le, low)) is low q s shown here

      -- Of the codes from number r on, the one that the predicate chooses is done.
      chosen-follows : (r v : ℕ) (ls : List (List Line)) (rs : List Run) → AllFollow ls rs → r + length ls < 2 ^ 32 → (q : linear.State) (s : State)
          → Shown text f Inv q s → (w : ℕ)
          → q.names (place_at p x) ≡ Num w → w ≡ r + v → (m n g : ℕ) → At s.pc (branches x r first ls) m → At m (last_lines ls) n → n < 2 ^ 32
          → ((q' : linear.State) (t : State) → Shown text f Inv q' t → t.pc ≡ n → To b (Returned q' []) t q'.input) → At g (labelled r first last ls) b
          → To b (chosen v rs q) s q.input
      chosen-follows r v [] [] all few q s shown w word sum m n g tests final small leave others = inr tt
      chosen-follows r v (l ∷ []) (run ∷ []) all few q s shown w word sum m n g tests final small leave others =
          then-leaves n b (run q) s q.input (all.0 q s n shown (subst (λ a. At a l n) (sym tests) final) small) leave
      chosen-follows r zero (l ∷ k ∷ ls) (run ∷ next ∷ rs) all few q s shown w word sum m n g tests final small leave others =
          let cut = line-cut text addresses labels p os s.pc m (branch_equal x r (first + r)) (branches x (suc r) first (k ∷ ls)) tests in
          let tail = labelled (suc r) first last (k ∷ ls) in
          let jumped = line-cut text addresses labels p os g b (jump last) (label (first + r) ∷ (l ++ tail)) others in
          let here = label-here text addresses labels p os jumped.0 b (first + r) (l ++ tail) jumped.2 in
          let code = lines-cut text addresses labels p os jumped.0 b l tail here.1 in
          let le = lines-le text addresses labels p os jumped.0 b (l ++ tail) here.1 in
          let le' = lines-le text addresses labels p os code.0 b tail code.2 in
          let le1 = lines-le text addresses labels p os cut.0 m (branches x (suc r) first (k ∷ ls)) cut.2 in
          let le2 = lines-le text addresses labels p os m n (last_lines (l ∷ k ∷ ls)) final in
          let branch =
          branches-equal text addresses labels p os (at_bases f shown.bases) (words-at text f shown.bases has) q s x w cut.0 (first + r) jumped.0 shown.shows inside word
          (omega (arith, le1, le2, small)) here.0 (omega (arith, le, low)) r (omega (arith, few)) cut.1 in
          let same : (w == r) ≡ true = eq-eqb w r (omega (arith, sum)) in
          let arrives = subst (λ t. Arrives text (at_bases f shown.bases) (if t then jumped.0 else cut.0) q s) same branch in
          arrives-outcome text f sizes left Inv jumped.0 b c.bound q s shown.bases (run q) shown.inv arrives
          (λ t shown' at.
          then-leaves code.0 b (run q) t q.input (all.0 q t code.0 shown' (subst (λ a. At a l code.0) (sym at) code.1) (omega (arith, le', low)))
          (exits (suc r) (k ∷ ls) code.0 code.2))
      chosen-follows r (suc v) (l ∷ k ∷ ls) (run ∷ next ∷ rs) all few q s shown w word sum m n g tests final small leave others =
          let cut = line-cut text addresses labels p os s.pc m (branch_equal x r (first + r)) (branches x (suc r) first (k ∷ ls)) tests in
          let tail = labelled (suc r) first last (k ∷ ls) in
          let jumped = line-cut text addresses labels p os g b (jump last) (label (first + r) ∷ (l ++ tail)) others in
          let here = label-here text addresses labels p os jumped.0 b (first + r) (l ++ tail) jumped.2 in
          let code = lines-cut text addresses labels p os jumped.0 b l tail here.1 in
          let le = lines-le text addresses labels p os jumped.0 b (l ++ tail) here.1 in
          let le1 = lines-le text addresses labels p os cut.0 m (branches x (suc r) first (k ∷ ls)) cut.2 in
          let le2 = lines-le text addresses labels p os m n (last_lines (l ∷ k ∷ ls)) final in
          let branch =
          branches-equal text addresses labels p os (at_bases f shown.bases) (words-at text f shown.bases has) q s x w cut.0 (first + r) jumped.0 shown.shows inside word
          (omega (arith, le1, le2, small)) here.0 (omega (arith, le, low)) r (omega (arith, few)) cut.1 in
          let other : (w == r) ≡ false = ne_eqb w r (λ e. omega (arith, sum, e)) in
          let arrives = subst (λ t. Arrives text (at_bases f shown.bases) (if t then jumped.0 else cut.0) q s) other branch in
          arrives-outcome text f sizes left Inv cut.0 b c.bound q s shown.bases (chosen v (next ∷ rs) q) shown.inv arrives
          (λ t shown' at.
          chosen-follows (suc r) v (k ∷ ls) (next ∷ rs) all.1 (omega (arith, few)) q t shown' w word (omega (arith, sum)) m n code.0
          (subst (λ a. At a (branches x (suc r) first (k ∷ ls)) m) (sym at) cut.2) final small leave code.2)
      chosen-follows r v [] (run ∷ rs) all few q s shown w word sum m n g tests final small leave others = absurd all
      chosen-follows r v (l ∷ []) [] all few q s shown w word sum m n g tests final small leave others = absurd all
      chosen-follows r v (l ∷ []) (run ∷ next ∷ rs) all few q s shown w word sum m n g tests final small leave others = absurd all.1
      chosen-follows r zero (l ∷ k ∷ ls) [] all few q s shown w word sum m n g tests final small leave others = absurd all
      chosen-follows r zero (l ∷ k ∷ ls) (run ∷ []) all few q s shown w word sum m n g tests final small leave others = absurd all.1
      chosen-follows r (suc v) (l ∷ k ∷ ls) [] all few q s shown w word sum m n g tests final small leave others = absurd all
      chosen-follows r (suc v) (l ∷ k ∷ ls) (run ∷ []) all few q s shown w word sum m n g tests final small leave others = absurd all.1

    -- of two codes the first stands where the branch is not taken
    two-follow : (l k : List Line) (run next : Run) → Follow l run → Follow k next
        → Follow (choice_lines x first (l ∷ k ∷ [])) (chosen_by (place_at p x) (run ∷ next ∷ []))
    two-follow l k run next follows follows' q s b shown there low =
        on-a-number text f sizes left Inv has addresses labels p os c b c.bound (q.names (place_at p x)) (λ w. chosen w (run ∷ next ∷ []) q) s q.input
        (λ w word. by w word)
      where
        all : (h : ℕ) × At s.pc ((branch_not_zero x first ∷ l) ++ (jump (suc first) ∷ label first ∷ k)) h × At h (label (suc first) ∷ []) b
        all = lines-cut text addresses labels p os s.pc b ((branch_not_zero x first ∷ l) ++ (jump (suc first) ∷ label first ∷ k)) (label (suc first) ∷ []) there

        end : (labels (suc first) ≡ Some all.0) × (all.0 ≡ b)
        end = label-here text addresses labels p os all.0 b (suc first) [] all.2

        end-is : labels (suc first) ≡ Some b
        end-is = end.0 ∙ ap Some end.1

        both : (h : ℕ) × At s.pc (branch_not_zero x first ∷ l) h × At h (jump (suc first) ∷ label first ∷ k) all.0
        both = lines-cut text addresses labels p os s.pc all.0 (branch_not_zero x first ∷ l) (jump (suc first) ∷ label first ∷ k) all.1

        test : (h : ℕ) × ItemsStand text addresses labels s.pc (line_items p os (branch_not_zero x first)) h × At h l both.0
        test = line-cut text addresses labels p os s.pc both.0 (branch_not_zero x first) l both.1

        over : (h : ℕ) × ItemsStand text addresses labels both.0 (line_items p os (jump (suc first))) h × At h (label first ∷ k) all.0
        over = line-cut text addresses labels p os both.0 all.0 (jump (suc first)) (label first ∷ k) both.2

        second : (labels first ≡ Some over.0) × At over.0 k all.0
        second = label-here text addresses labels p os over.0 all.0 first k over.2

        over-low : over.0 < 2 ^ 32
        over-low = let le = lines-le text addresses labels p os over.0 all.0 k second.1 in let e = end.1 in omega (arith, le, e, low)

        both-low : both.0 < 2 ^ 32
        both-low = let le = lines-le text addresses labels p os both.0 all.0 (jump (suc first) ∷ label first ∷ k) both.2 in let e = end.1 in omega (arith, le, e, low)

        test-low : test.0 < 2 ^ 32
        test-low = let le = lines-le text addresses labels p os test.0 both.0 l test.2 in let small = both-low in omega (arith, le, small)

        by : (w : ℕ) → q.names (place_at p x) ≡ Num w → To b (chosen w (run ∷ next ∷ []) q) s q.input
        by zero word =
            arrives-outcome text f sizes left Inv test.0 b c.bound q s shown.bases (run q) shown.inv
            (branches-not-zero text addresses labels p os (at_bases f shown.bases) (words-at text f shown.bases has) q s x 0 test.0 first over.0 shown.shows inside word
            test-low second.0 over-low test.1)
            (λ t shown' at.
            then-leaves both.0 b (run q) t q.input (follows q t both.0 shown' (subst (λ a. At a l both.0) (sym at) test.2) both-low)
            (leaves (suc first) both.0 over.0 b over.1 over-low end-is low))
        by (suc w) word =
            let other : (suc w == 0) ≡ false = ne_eqb (suc w) 0 (λ e. omega (arith, e)) in
            arrives-outcome text f sizes left Inv over.0 b c.bound q s shown.bases (next q) shown.inv
            (subst (λ t. Arrives text (at_bases f shown.bases) (if t then test.0 else over.0) q s) other
            (branches-not-zero text addresses labels p os (at_bases f shown.bases) (words-at text f shown.bases has) q s x
            (suc w) test.0 first over.0 shown.shows inside word test-low second.0 over-low test.1))
            (λ t shown' at. follows' q t b shown' (subst (λ a. At a k b) (sym at) (subst (λ y. At over.0 k y) end.1 second.1)) low)

  pub choice-follows : (x first : ℕ) (ls : List (List Line)) (rs : List Run) → (1 < length ls → HasPlaceIn f p x) → AllFollow ls rs → length ls < 2 ^ 32
      → Follow (choice_lines x first ls) (chosen_by (place_at p x) rs)
  choice-follows x first [] [] inside all few q s b shown there low = inr tt
  choice-follows x first (l ∷ []) (run ∷ []) inside all few q s b shown there low =
      let h = parts x first (l ∷ []) s.pc b there in
      let end : h.n ≡ b = h.others in
      let code = subst (λ y. At h.m l y) end h.final in
      all.0 q s b shown (subst (λ a. At a l b) (sym h.tests) code) low
  choice-follows x first (l ∷ k ∷ []) (run ∷ next ∷ []) inside all few q s b shown there low =
      two-follow x first (inside (omega arith)) l k run next all.0 all.1.0 q s b shown there low
  choice-follows x first (l ∷ k ∷ j ∷ ls) (run ∷ next ∷ other ∷ rs) inside all few q s b shown there low =
      let h = parts x first (l ∷ k ∷ j ∷ ls) s.pc b there in
      let last = first + before_last (l ∷ k ∷ j ∷ ls) in
      let le = lines-le text addresses labels p os h.n b (labelled 0 first last (l ∷ k ∷ j ∷ ls)) h.others in
      on-a-number text f sizes left Inv has addresses labels p os c b c.bound (q.names (place_at p x)) (λ w. chosen w (run ∷ next ∷ other ∷ rs) q) s q.input
      (λ w word.
      chosen-follows x first (inside (omega arith)) last b low h.end_is 0 w (l ∷ k ∷ j ∷ ls) (run ∷ next ∷ other ∷ rs) all (omega (arith, few)) q s shown w word
      (omega arith) h.m h.n h.n h.tests h.final (omega (arith, le, low))
      (exits x first (inside (omega arith)) last b low h.end_is 0 (l ∷ k ∷ j ∷ ls) h.n h.others) h.others)
  choice-follows x first [] (run ∷ rs) inside all few q s b shown there low = absurd all
  choice-follows x first (l ∷ []) [] inside all few q s b shown there low = absurd all
  choice-follows x first (l ∷ []) (run ∷ next ∷ rs) inside all few q s b shown there low = absurd all.1
  choice-follows x first (l ∷ k ∷ []) [] inside all few q s b shown there low = absurd all
  choice-follows x first (l ∷ k ∷ []) (run ∷ []) inside all few q s b shown there low = absurd all.1
  choice-follows x first (l ∷ k ∷ []) (run ∷ next ∷ other ∷ rs) inside all few q s b shown there low = absurd all.1.1
  choice-follows x first (l ∷ k ∷ j ∷ ls) [] inside all few q s b shown there low = absurd all
  choice-follows x first (l ∷ k ∷ j ∷ ls) (run ∷ []) inside all few q s b shown there low = absurd all.1
  choice-follows x first (l ∷ k ∷ j ∷ ls) (run ∷ next ∷ []) inside all few q s b shown there low = absurd all.1.1
