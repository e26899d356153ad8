-- The intervals of a list of lines span each code whose lines stand in it.
use Rattle.std.proofs.Common.{◌≡◌, ◌≤◌, ℕ, zero, suc, ◌+◌, true, List, [], ◌∷◌, ◌++◌, map, length, slice_get, Option, Some, None, refl, ap, ◌∙◌, inl, inr, arith, eq-eqb}
use Rattle.std.specs.Prelude.{◌==◌}
use Rattle.std.proofs.lemmas.Bool.{cases_Bool, or_left, or_right}
use Rattle.g_graph.specs.WellFormed.{some_of}
use Rattle.s_linear.specs.Linear.{Instr, const, undef, object_address, global_address, binary, unary, load, store, clear, equal_pointers, move, call, put, get, exit, Step, plain, choice, loop, Code, no_steps, step_then, Codes, no_codes, code_then}
use Rattle.s_linear.specs.Lines.{Line, done, branch_zero, jump, label, branch_not_zero, counted, code_labels, step_labels, last_from, others_from, LinesOf, branches, last_lines, labelled, before_last, choice_lines, step_lines, code_lines, codes_lines, instr_names, line_names}
use Rattle.a_place.specs.Places.{among, occurs, first, last}
use Rattle.a_place.specs.Laws.{IsAliveAt}
use Rattle.s_sequence_keeps.specs.Closed.{target_of, sources_of}
use Rattle.a_place_keeps.specs.Need.{IsIn}
use Rattle.a_place_keeps.specs.Spans.{StandAt, SpansInstr, SpansInstrs, SpansStep, SpansCode, SpansCodes}
use Rattle.a_place_keeps.specs.Laws.{IntervalsSpanCode}
use Rattle.a_place_keeps.proofs.Needs.{target_is}

-- ---- a name is alive where it occurs

is_among : (x : ℕ) (xs : List ℕ) → IsIn x xs → among x xs ≡ true
is_among x [] h = absurd h
is_among x (y ∷ ys) (inl e) = or_left (y == x) (among x ys) (eq-eqb y x e)
is_among x (y ∷ ys) (inr h) = or_right (y == x) (among x ys) (is_among x ys h)

abbrev line_or : Line → Option Line → Line
line_or l None = l
line_or l (Some m) = m

alive_among : (lines : List Line) (a : ℕ) (l : Line) (x : ℕ) → slice_get lines a ≡ Some l → among x (line_names l) ≡ true → IsAliveAt lines x a
alive_among [] a l x g o = cc
alive_among (m ∷ lines) zero l x g o =
    let there : occurs x m ≡ true = ap (λ z. occurs x z) (ap (line_or m) g) ∙ o in
    record { occurs_there = or_left (occurs x m) (some_of (occurs x) lines) there; started = rw there (omega arith); not_ended = omega arith }
alive_among (m ∷ lines) (suc a) l x g o =
    let r : IsAliveAt lines x a = alive_among lines a l x g o in
    let low : first x lines ≤ a = r.started in
    let high : a ≤ last x lines = r.not_ended in
    record {
      occurs_there = or_right (occurs x m) (some_of (occurs x) lines) r.occurs_there;
      started =
          elim (cases_Bool (occurs x m)) [
            | inl here ↦ rw here (omega arith)
            | inr other ↦ rw other (omega arith)
          ];
      not_ended = rw (r.occurs_there) (omega arith);
    }

pub alive_at : (lines : List Line) (a : ℕ) (l : Line) (x : ℕ) → slice_get lines a ≡ Some l → IsIn x (line_names l) → IsAliveAt lines x a
alive_at lines a l x g h = alive_among lines a l x g (is_among x (line_names l) h)

-- ---- lines that stand

pub stand_split : (lines : List Line) (a b : ℕ) (xs ys : List Line) → StandAt lines a (xs ++ ys) b → (m : ℕ) × StandAt lines a xs m × StandAt lines m ys b
stand_split lines a b [] ys h = (a, refl, h)
stand_split lines a b (x ∷ xs) ys h = let r = stand_split lines (suc a) b xs ys h.1 in (r.0, (h.0, r.1), r.2)

stand_le : (lines : List Line) (a b : ℕ) (ls : List Line) → StandAt lines a ls b → a ≤ b
stand_le lines a b [] h = omega arith
stand_le lines a b (l ∷ ls) h = let r : suc a ≤ b = stand_le lines (suc a) b ls h.1 in omega arith

stand_after : (l : Line) (lines : List Line) (a b : ℕ) (ls : List Line) → StandAt lines a ls b → StandAt (l ∷ lines) (suc a) ls (suc b)
stand_after l lines a b [] h = ap suc h
stand_after l lines a b (m ∷ ls) h = (h.0, stand_after l lines (suc a) b ls h.1)

pub stand_whole : (lines : List Line) → StandAt lines 0 lines (length lines)
stand_whole [] = refl
stand_whole (l ∷ lines) = (refl, stand_after l lines 0 (length lines) lines (stand_whole lines))

-- ---- instructions

target_named : (i : Instr) (x : ℕ) → target_of i ≡ Some x → IsIn x (instr_names i)
target_named (const t w) x e = inl (target_is t x e)
target_named (undef t) x e = inl (target_is t x e)
target_named (object_address t k) x e = inl (target_is t x e)
target_named (global_address t k) x e = inl (target_is t x e)
target_named (binary o t a b) x e = inl (target_is t x e)
target_named (unary o t a) x e = inl (target_is t x e)
target_named (load width t a) x e = inl (target_is t x e)
target_named (store width a v) x e = absurd cc
target_named (clear k) x e = absurd cc
target_named (equal_pointers t a b) x e = inl (target_is t x e)
target_named (move t a) x e = inl (target_is t x e)
target_named (call f t xs) x e = inl (target_is t x e)
target_named (put a) x e = absurd cc
target_named (get t) x e = inl (target_is t x e)
target_named (exit a) x e = absurd cc

source_named : (i : Instr) (x : ℕ) → IsIn x (sources_of i) → IsIn x (instr_names i)
source_named (store width a v) x s = s
source_named (clear k) x s = s
source_named (put a) x s = s
source_named (exit a) x s = s
source_named _ x s = inr s

module _ (lines : List Line) where
  spans_instr : (a : ℕ) (i : Instr) → slice_get lines a ≡ Some (done i) → SpansInstr lines a i
  spans_instr a i g = record {
    target = λ x t. alive_at lines a (done i) x g (target_named i x t);
    source = λ x s. alive_at lines a (done i) x g (source_named i x s);
  }

  spans_instrs : (a b : ℕ) (is : List Instr) → StandAt lines a (map done is) b → SpansInstrs lines a is b
  spans_instrs a b [] h = omega arith
  spans_instrs a b (i ∷ is) h = (spans_instr a i h.0, spans_instrs (suc a) b is h.1)

  -- ---- the codes of a choice

  abbrev StandWithin : (a : ℕ) → List Line → (b : ℕ) → Type 0
  StandWithin a ls b = (c : ℕ) × (d : ℕ) × (a ≤ c) × StandAt lines c ls d × (d ≤ b)

  abbrev AllStand : (a : ℕ) → List LinesOf → (b : ℕ) → Type 0
  AllStand a [] b = Unit {0}
  AllStand a (c ∷ cs) b = StandWithin a c b × AllStand a cs b

  labelled_stand : (a b r label end : ℕ) (cs : List LinesOf) → StandWithin a (last_lines cs) b → StandWithin a (labelled r label end cs) b → AllStand a cs b
  labelled_stand a b r l end [] h k = tt
  labelled_stand a b r l end (c ∷ []) h k = (h, tt)
  labelled_stand a b r l end (c ∷ d ∷ cs) h k =
      let low : a ≤ k.0 = k.2 in
      let high : k.1 ≤ b = k.4 in
      let s = stand_split lines k.0 k.1 (jump end ∷ label (l + r) ∷ c) (labelled (suc r) l end (d ∷ cs)) k.3 in
      let before : suc (suc k.0) ≤ s.0 = stand_le lines (suc (suc k.0)) s.0 c s.1.1.1 in
      let after : s.0 ≤ k.1 = stand_le lines s.0 k.1 (labelled (suc r) l end (d ∷ cs)) s.2 in
      ((suc (suc k.0), s.0, omega arith, s.1.1.1, omega arith), labelled_stand a b (suc r) l end (d ∷ cs) h (s.0, k.1, omega arith, s.2, high))

  more_stand : (a b p l : ℕ) (cs : List LinesOf)
      → StandAt lines a (branches p 0 l cs ++ last_lines cs ++ labelled 0 l (l + before_last cs) cs ++ label (l + before_last cs) ∷ []) b → AllStand a cs b
  more_stand a b p l cs h =
      let end : ℕ = l + before_last cs in
      let s = stand_split lines a b (branches p 0 l cs ++ last_lines cs ++ labelled 0 l end cs) (label end ∷ []) h in
      let t = stand_split lines a s.0 (branches p 0 l cs ++ last_lines cs) (labelled 0 l end cs) s.1 in
      let u = stand_split lines a t.0 (branches p 0 l cs) (last_lines cs) t.1 in
      let one : a ≤ u.0 = stand_le lines a u.0 (branches p 0 l cs) u.1 in
      let two : u.0 ≤ t.0 = stand_le lines u.0 t.0 (last_lines cs) u.2 in
      let three : t.0 ≤ s.0 = stand_le lines t.0 s.0 (labelled 0 l end cs) t.2 in
      let four : s.0 ≤ b = stand_le lines s.0 b (label end ∷ []) s.2 in
      labelled_stand a b 0 l end cs (u.0, t.0, one, u.2, omega arith) (t.0, s.0, omega arith, t.2, four)

  choice_stand : (a b p l : ℕ) (cs : List LinesOf) → StandAt lines a (choice_lines p l cs) b → AllStand a cs b
  choice_stand a b p l [] h = tt
  choice_stand a b p l (c ∷ []) h = more_stand a b p l (c ∷ []) h
  choice_stand a b p l (c ∷ d ∷ []) h =
      let s = stand_split lines a b (branch_not_zero p l ∷ c ++ jump (suc l) ∷ label l ∷ d) (label (suc l) ∷ []) h in
      let t = stand_split lines a s.0 (branch_not_zero p l ∷ c) (jump (suc l) ∷ label l ∷ d) s.1 in
      let one : suc a ≤ t.0 = stand_le lines (suc a) t.0 c t.1.1 in
      let two : suc (suc t.0) ≤ s.0 = stand_le lines (suc (suc t.0)) s.0 d t.2.1.1 in
      let three : s.0 ≤ b = stand_le lines s.0 b (label (suc l) ∷ []) s.2 in
      ((suc a, t.0, omega arith, t.1.1, omega arith), ((suc (suc t.0), s.0, omega arith, t.2.1.1, three), tt))
  choice_stand a b p l (c ∷ d ∷ e ∷ cs) h = more_stand a b p l (c ∷ d ∷ e ∷ cs) h

  predicate_alive : (a b p l : ℕ) (cs : List LinesOf) → 2 ≤ length cs → StandAt lines a (choice_lines p l cs) b → IsAliveAt lines p a
  predicate_alive a b p l [] n h = absurd (omega arith)
  predicate_alive a b p l (c ∷ []) n h = absurd (omega arith)
  predicate_alive a b p l (c ∷ d ∷ []) n h = alive_at lines a _ p h.0 (inl refl)
  predicate_alive a b p l (c ∷ d ∷ e ∷ cs) n h = alive_at lines a _ p h.0 (inl refl)

  length_codes : (l others : ℕ) (cs : Codes) → length (codes_lines l others cs) ≡ counted cs
  length_codes l others no_codes = refl
  length_codes l others (code_then c no_codes) = refl
  length_codes l others (code_then c (code_then d ds)) = ap suc (length_codes l (others + code_labels c) (code_then d ds))

  -- ---- code

  mutual
    spans_step : (l a b : ℕ) (s : Step) → StandAt lines a (step_lines l s) b → SpansStep lines a s b
    spans_step l a b (plain i) h = let e : suc a ≡ b = h.1 in (spans_instr a i h.0, omega arith)
    spans_step l a b (choice p cs) h =
        let n : ℕ = l + counted cs in
        let ls : List LinesOf = codes_lines (last_from n cs) (others_from n cs) cs in
        let count : length ls ≡ counted cs = length_codes (last_from n cs) (others_from n cs) cs in (
          (λ many. predicate_alive a b p l ls (omega arith) h),
          spans_codes (last_from n cs) (others_from n cs) a b cs (choice_stand a b p l ls h),
          stand_le lines a b (choice_lines p l ls) h,
        )
    spans_step l a b (loop moves body p back) h =
        let here : List Line = label l ∷ code_lines (2 + l) body in
        let next : List Line = branch_zero p (suc l) ∷ map done back in
        let s = stand_split lines a b (map done moves ++ here ++ next) (jump l ∷ label (suc l) ∷ []) h in
        let t = stand_split lines a s.0 (map done moves ++ here) next s.1 in
        let u = stand_split lines a t.0 (map done moves) here t.1 in (
          u.0,
          t.0,
          s.0,
          spans_instrs a u.0 moves u.1,
          spans_code (2 + l) (suc u.0) t.0 body u.2.1,
          alive_at lines t.0 (branch_zero p (suc l)) p t.2.0 (inl refl),
          spans_instrs (suc t.0) s.0 back t.2.1,
          stand_le lines s.0 b (jump l ∷ label (suc l) ∷ []) s.2,
        )

    pub spans_code : (l a b : ℕ) (c : Code) → StandAt lines a (code_lines l c) b → SpansCode lines a c b
    spans_code l a b no_steps h = omega arith
    spans_code l a b (step_then s c) h =
        let r = stand_split lines a b (step_lines l s) (code_lines (l + step_labels s) c) h in
        (r.0, spans_step l a r.0 s r.1, spans_code (l + step_labels s) r.0 b c r.2)

    spans_codes : (l others a b : ℕ) (cs : Codes) → AllStand a (codes_lines l others cs) b → SpansCodes lines a cs b
    spans_codes l others a b no_codes h = tt
    spans_codes l others a b (code_then c no_codes) h = ((h.0.0, h.0.1, h.0.2, spans_code l h.0.0 h.0.1 c h.0.3, h.0.4), tt)
    spans_codes l others a b (code_then c (code_then d ds)) h =
        ((h.0.0, h.0.1, h.0.2, spans_code others h.0.0 h.0.1 c h.0.3, h.0.4), spans_codes l (others + code_labels c) a b (code_then d ds) h.1)

pub intervals_span_code : IntervalsSpanCode
intervals_span_code lines code labels a b h = spans_code lines labels a b code h
