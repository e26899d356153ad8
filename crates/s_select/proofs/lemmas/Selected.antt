-- Lemmas on the items that lines select: labels, and what items ask.
use Rattle.std.proofs.Common.{◌≡◌, ℕ, ◌+◌, ◌-◌, ◌*◌, ◌<◌, ◌≤◌, ◌==◌, slice_index, refl, sym, ap, ◌∙◌, Bool, true, false, List, [], ◌∷◌, ◌++◌, if◌then◌else◌, arith}
use Rattle.std.proofs.lemmas.Bool.{and_from, and_parts, ltb-true, lt-ltb}
use Rattle.std.specs.Prelude.{◌&&◌, nat_lt}
use Rattle.g_graph.specs.Plain.{PlainObject}
use Rattle.g_graph.specs.WellFormed.{all_of}
use Rattle.g_graph.proofs.lemmas.Unique.{all_of_append}
use Rattle.val_core.specs.declared.operation.Op2.TheVariants as op
use Rattle.rv_isa.specs.Calls.{exit_call}
use Rattle.rv_isa.specs.Registers.{x0, sp, t0, t1, a0, a7}
use Rattle.rv_isa.specs.declared.instruction.Instr.{Instr}
use Rattle.rv_isa.specs.declared.instruction.Instr.TheVariants as rv
use Rattle.s_linear.specs.Frame.{PlainPlaces, saved_of, object_at, frame_size}
use Rattle.s_linear.specs.Laws.{LabelsAreMarkedOnce, LinesGoToLabels}
use Rattle.s_linear.specs.Linear as linear
use Rattle.s_linear.specs.Lines as lines
use Rattle.s_linear.specs.Lines.{Line, enter, leave, done, branch_not_zero, branch_zero, branch_equal, jump, label, does, goes_to, code_labels}
use Rattle.s_linear.specs.Operands.{has_its_callee, has_its_global}
use Rattle.rv_layout.specs.declared.item.Item.{Item}
use Rattle.rv_layout.specs.declared.item.Item.TheVariants.{Word, Mark, Jump, Call, Stub, Address}
use Rattle.rv_layout.specs.Items.{marks}
use Rattle.rv_layout.specs.Conditions.{is_marked_once, item_fits}
use Rattle.s_select.specs.declared.location.Location.TheVariants.{Register, Near, Far}
use Rattle.s_select.specs.Operands.{place_register, word_at, load_immediate, get, put, in_of, load_in, out_of, store_out}
use Rattle.s_select.specs.Templates.{words, place_of, take_frame, give_frame, put_params, get_arguments, binary_code, unary_code, load_instr, store_instr, with_two, with_one, with_none, move_between, clear_code, size_of, instr_items, line_items, items_of}
use Rattle.s_select.specs.Laws.{SelectedLabelsAreMarked, SelectedItemsFit}

-- ---- tests that each instruction passes

module _ (test : Item → Bool) (word : (i : Instr) → test (Word i) ≡ true) (stubs : (s : ℕ) → s < 2 → test (Stub s) ≡ true) where
  words_pass : (code : List Instr) → all_of test (words code) ≡ true
  words_pass [] = refl
  words_pass (i ∷ is) = and_from (test (Word i)) (all_of test (words is)) (word i) (words_pass is)

  append_passes : (xs ys : List Item) → all_of test xs ≡ true → all_of test ys ≡ true → all_of test (xs ++ ys) ≡ true
  append_passes xs ys a b = all_of_append test xs ys ∙ and_from (all_of test xs) (all_of test ys) a b

  after_words : (code : List Instr) (ys : List Item) → all_of test ys ≡ true → all_of test (words code ++ ys) ≡ true
  after_words code ys h = append_passes (words code) ys (words_pass code) h

  before_words : (i : Item) (code : List Instr) → test i ≡ true → all_of test (i ∷ words code) ≡ true
  before_words i code h = and_from (test i) (all_of test (words code)) h (words_pass code)

  one_passes : (i : Item) → test i ≡ true → all_of test (i ∷ []) ≡ true
  one_passes i h = and_from (test i) true h refl

  -- the items of an instruction that are no instructions pass
  abbrev InstrPasses : PlainPlaces → linear.Instr → Type 0
  InstrPasses p (linear.call f t xs) = test (Call f) ≡ true
  InstrPasses p (linear.global_address t k) = test (Address (out_of (place_of p t)) k) ≡ true
  InstrPasses p _ = Unit {0}

  instr_passes : (p : PlainPlaces) (os : List PlainObject) (i : linear.Instr) → InstrPasses p i → all_of test (instr_items p os i) ≡ true
  instr_passes p os (linear.const t w) h = words_pass (with_none (place_of p t) (λ rd. load_immediate rd w))
  instr_passes p os (linear.undef t) h = refl
  instr_passes p os (linear.object_address t n) h = words_pass (with_none (place_of p t) (λ rd. load_immediate t0 (object_at p.count os n) ++ rv.Add rd t0 sp ∷ []))
  instr_passes p os (linear.global_address t n) h = before_words (Address (out_of (place_of p t)) n) (store_out (place_of p t)) h
  instr_passes p os (linear.binary o t a b) h = words_pass (with_two (place_of p t) (place_of p a) (place_of p b) (binary_code o))
  instr_passes p os (linear.unary o t a) h = words_pass (with_one (place_of p t) (place_of p a) (unary_code o))
  instr_passes p os (linear.load width t a) h = words_pass (with_one (place_of p t) (place_of p a) (λ rd r. load_instr width rd r ∷ []))
  instr_passes p os (linear.store width a v) h =
      words_pass (load_in t0 (place_of p a) ++ load_in t1 (place_of p v) ++ store_instr width (in_of (place_of p a) t0) (in_of (place_of p v) t1) ∷ [])
  instr_passes p os (linear.clear n) h = words_pass (clear_code (object_at p.count os n) (size_of os n))
  instr_passes p os (linear.equal_pointers t a b) h = words_pass (with_two (place_of p t) (place_of p a) (place_of p b) (binary_code op.Eq))
  instr_passes p os (linear.move t a) h = words_pass (move_between p.temporaries (slice_index p.of t) (slice_index p.of a))
  instr_passes p os (linear.call f t xs) h =
      after_words (get_arguments p a0 xs) (Call f ∷ words (put (place_of p t) a0)) (before_words (Call f) (put (place_of p t) a0) h)
  instr_passes p os (linear.put a) h = after_words (get a0 (place_of p a)) (Stub 0 ∷ []) (one_passes (Stub 0) (stubs 0 (omega arith)))
  instr_passes p os (linear.get t) h = before_words (Stub 1) (put (place_of p t) a0) (stubs 1 (omega arith))
  instr_passes p os (linear.exit a) h = words_pass (get a0 (place_of p a) ++ rv.Addi a7 x0 exit_call ∷ rv.Ecall ∷ [])

  -- and those of a line
  abbrev LinePasses : PlainPlaces → Line → Type 0
  LinePasses p (done i) = InstrPasses p i
  LinePasses p (branch_not_zero x l) = test (Jump l) ≡ true
  LinePasses p (branch_zero x l) = test (Jump l) ≡ true
  LinePasses p (branch_equal x n l) = test (Jump l) ≡ true
  LinePasses p (jump l) = test (Jump l) ≡ true
  LinePasses p (label l) = test (Mark l) ≡ true
  LinePasses p _ = Unit {0}

  line_passes : (p : PlainPlaces) (os : List PlainObject) (line : Line) → LinePasses p line → all_of test (line_items p os line) ≡ true
  line_passes p os (enter xs) h = words_pass (take_frame (frame_size p.count os) (saved_of p.count) ++ put_params p a0 xs)
  line_passes p os (leave v) h = words_pass (get a0 (place_of p v) ++ give_frame (frame_size p.count os) (saved_of p.count))
  line_passes p os (done i) h = instr_passes p os i h
  line_passes p os (branch_not_zero x l) h =
      after_words (load_in t0 (place_of p x) ++ rv.Beq (in_of (place_of p x) t0) x0 8 ∷ []) (Jump l ∷ []) (one_passes (Jump l) h)
  line_passes p os (branch_zero x l) h =
      after_words (load_in t0 (place_of p x) ++ rv.Bne (in_of (place_of p x) t0) x0 8 ∷ []) (Jump l ∷ []) (one_passes (Jump l) h)
  line_passes p os (branch_equal x n l) h =
      after_words (load_in t0 (place_of p x) ++ (load_immediate t1 n ++ rv.Bne (in_of (place_of p x) t0) t1 8 ∷ [])) (Jump l ∷ []) (one_passes (Jump l) h)
  line_passes p os (jump l) h = one_passes (Jump l) h
  line_passes p os (label l) h = one_passes (Mark l) h

-- ---- marks

abbrev no_mark : Item → Bool
no_mark (Mark l) = false
no_mark _ = true

no_mark_word : (i : Instr) → no_mark (Word i) ≡ true
no_mark_word i = refl

no_mark_stub : (s : ℕ) → s < 2 → no_mark (Stub s) ≡ true
no_mark_stub s h = refl

marks-none : (k : ℕ) (is : List Item) → all_of no_mark is ≡ true → marks k is ≡ 0
marks-none k [] h = refl
marks-none k (Mark n ∷ is) h = absurd cc
marks-none k (Word i ∷ is) h = marks-none k is h
marks-none k (Jump l ∷ is) h = marks-none k is h
marks-none k (Call f ∷ is) h = marks-none k is h
marks-none k (Stub s ∷ is) h = marks-none k is h
marks-none k (Address r g ∷ is) h = marks-none k is h

marks-append : (k : ℕ) (xs ys : List Item) → marks k (xs ++ ys) ≡ marks k xs + marks k ys
marks-append k [] ys = omega arith
marks-append k (Mark n ∷ xs) ys =
    let rest = marks-append k xs ys in
    elim (n == k) as (λ b. (if b then 1 else 0) + marks k (xs ++ ys) ≡ (if b then 1 else 0) + marks k xs + marks k ys) [
      | true ↦ omega (arith, rest)
      | false ↦ omega (arith, rest)
    ]
marks-append k (Word i ∷ xs) ys = marks-append k xs ys
marks-append k (Jump l ∷ xs) ys = marks-append k xs ys
marks-append k (Call f ∷ xs) ys = marks-append k xs ys
marks-append k (Stub s ∷ xs) ys = marks-append k xs ys
marks-append k (Address r g ∷ xs) ys = marks-append k xs ys

-- a line that marks no label
unmarked : (k : ℕ) (p : PlainPlaces) (os : List PlainObject) (line : Line) (ys : List Item) (rest : ℕ)
    → LinePasses no_mark no_mark_word no_mark_stub p line → marks k ys ≡ rest → marks k (line_items p os line ++ ys) ≡ rest
unmarked k p os line ys rest none h =
    omega
    (arith, h, marks-append k (line_items p os line) ys, marks-none k (line_items p os line) (line_passes no_mark no_mark_word no_mark_stub p os line none))

no_mark_instr : (p : PlainPlaces) (i : linear.Instr) → InstrPasses no_mark no_mark_word no_mark_stub p i
no_mark_instr p (linear.call f t xs) = refl
no_mark_instr p (linear.global_address t k) = refl
no_mark_instr p (linear.const t w) = tt
no_mark_instr p (linear.undef t) = tt
no_mark_instr p (linear.object_address t n) = tt
no_mark_instr p (linear.binary o t a b) = tt
no_mark_instr p (linear.unary o t a) = tt
no_mark_instr p (linear.load width t a) = tt
no_mark_instr p (linear.store width a v) = tt
no_mark_instr p (linear.clear n) = tt
no_mark_instr p (linear.equal_pointers t a b) = tt
no_mark_instr p (linear.move t a) = tt
no_mark_instr p (linear.put a) = tt
no_mark_instr p (linear.get t) = tt
no_mark_instr p (linear.exit a) = tt

pub marks-items : (k : ℕ) (p : PlainPlaces) (os : List PlainObject) (ls : List Line) → marks k (items_of p os ls) ≡ lines.marks k ls
marks-items k p os [] = refl
marks-items k p os (enter xs ∷ ls) = unmarked k p os (enter xs) (items_of p os ls) (lines.marks k ls) tt (marks-items k p os ls)
marks-items k p os (leave v ∷ ls) = unmarked k p os (leave v) (items_of p os ls) (lines.marks k ls) tt (marks-items k p os ls)
marks-items k p os (done i ∷ ls) = unmarked k p os (done i) (items_of p os ls) (lines.marks k ls) (no_mark_instr p i) (marks-items k p os ls)
marks-items k p os (branch_not_zero x l ∷ ls) = unmarked k p os (branch_not_zero x l) (items_of p os ls) (lines.marks k ls) refl (marks-items k p os ls)
marks-items k p os (branch_zero x l ∷ ls) = unmarked k p os (branch_zero x l) (items_of p os ls) (lines.marks k ls) refl (marks-items k p os ls)
marks-items k p os (branch_equal x n l ∷ ls) = unmarked k p os (branch_equal x n l) (items_of p os ls) (lines.marks k ls) refl (marks-items k p os ls)
marks-items k p os (jump l ∷ ls) = marks-items k p os ls
marks-items k p os (label l ∷ ls) = ap (λ n. (if l == k then 1 else 0) + n) (marks-items k p os ls)

-- ---- jumps

marked_instr : (all : List Item) (p : PlainPlaces) (i : linear.Instr) → InstrPasses (is_marked_once all) (λ i. refl) (λ s h. refl) p i
marked_instr all p (linear.call f t xs) = refl
marked_instr all p (linear.global_address t k) = refl
marked_instr all p (linear.const t w) = tt
marked_instr all p (linear.undef t) = tt
marked_instr all p (linear.object_address t n) = tt
marked_instr all p (linear.binary o t a b) = tt
marked_instr all p (linear.unary o t a) = tt
marked_instr all p (linear.load width t a) = tt
marked_instr all p (linear.store width a v) = tt
marked_instr all p (linear.clear n) = tt
marked_instr all p (linear.equal_pointers t a b) = tt
marked_instr all p (linear.move t a) = tt
marked_instr all p (linear.put a) = tt
marked_instr all p (linear.get t) = tt
marked_instr all p (linear.exit a) = tt

-- a line that goes to labels that are marked once
marked_passes : (all : List Item) (p : PlainPlaces) (line : Line) → goes_to (λ l. marks l all == 1) line ≡ true
    → LinePasses (is_marked_once all) (λ i. refl) (λ s h. refl) p line
marked_passes all p (enter xs) h = tt
marked_passes all p (leave v) h = tt
marked_passes all p (done i) h = marked_instr all p i
marked_passes all p (branch_not_zero x l) h = h
marked_passes all p (branch_zero x l) h = h
marked_passes all p (branch_equal x n l) h = h
marked_passes all p (jump l) h = h
marked_passes all p (label l) h = refl

marked_lines : (all : List Item) (p : PlainPlaces) (os : List PlainObject) (ls : List Line)
    → all_of (goes_to (λ l. marks l all == 1)) ls ≡ true → all_of (is_marked_once all) (items_of p os ls) ≡ true
marked_lines all p os [] h = refl
marked_lines all p os (line ∷ ls) h =
    let parts = and_parts (goes_to (λ l. marks l all == 1) line) (all_of (goes_to (λ l. marks l all == 1)) ls) h in
    append_passes (is_marked_once all) (λ i. refl) (λ s h. refl) (line_items p os line) (items_of p os ls)
    (line_passes (is_marked_once all) (λ i. refl) (λ s h. refl) p os line (marked_passes all p line parts.0)) (marked_lines all p os ls parts.1)

goes_to-same : (t u : ℕ → Bool) → ((l : ℕ) → t l ≡ u l) → (line : Line) → goes_to t line ≡ goes_to u line
goes_to-same t u same (enter xs) = refl
goes_to-same t u same (leave v) = refl
goes_to-same t u same (done i) = refl
goes_to-same t u same (branch_not_zero x l) = same l
goes_to-same t u same (branch_zero x l) = same l
goes_to-same t u same (branch_equal x n l) = same l
goes_to-same t u same (jump l) = same l
goes_to-same t u same (label l) = refl

all_go-same : (t u : ℕ → Bool) → ((l : ℕ) → t l ≡ u l) → (ls : List Line) → all_of (goes_to t) ls ≡ true → all_of (goes_to u) ls ≡ true
all_go-same t u same [] h = refl
all_go-same t u same (line ∷ ls) h =
    let parts = and_parts (goes_to t line) (all_of (goes_to t) ls) h in
    and_from (goes_to u line) (all_of (goes_to u) ls) (sym (goes_to-same t u same line) ∙ parts.0) (all_go-same t u same ls parts.1)

one_if : (b : Bool) (n : ℕ) → n ≡ (if b then 1 else 0) → b ≡ (n == 1)
one_if true n e = rw e refl
one_if false n e = rw e refl

pub selected_labels_are_marked : LabelsAreMarkedOnce → LinesGoToLabels → SelectedLabelsAreMarked
selected_labels_are_marked once go f p os =
    let items = items_of p os (lines.lines f) in
    marked_lines items p os (lines.lines f)
    (all_go-same (λ l. nat_lt l (code_labels f.code)) (λ l. marks l items == 1)
    (λ l. one_if (nat_lt l (code_labels f.code)) (marks l items) (marks-items l p os (lines.lines f) ∙ once f l)) (lines.lines f) (go f))

-- ---- what items ask

fit_stub : (fs gs s : ℕ) → s < 2 → item_fits fs gs (Stub s) ≡ true
fit_stub fs gs s h = and_from (nat_lt s 2) true (lt-ltb s 2 h) refl

place_below : (q : ℕ) (b : Bool) → q < 15 → nat_lt (if b then 9 else q + 17) 32 ≡ true
place_below q true h = refl
place_below q false h = lt-ltb (q + 17) 32 (omega arith)

word_below : (offset : ℕ) (b : Bool) → nat_lt (out_of (if b then Near offset else Far offset)) 32 ≡ true
word_below offset true = refl
word_below offset false = refl

location_below : (t q : ℕ) (b : Bool) → t ≤ 4 → b ≡ nat_lt q (11 + t)
    → nat_lt (out_of (if b then Register (place_register q) else word_at (4 * (q - (11 + t))))) 32 ≡ true
location_below t q true few e = let below = ltb-true q (11 + t) (sym e) in place_below q (q == 0) (omega (arith, below, few))
location_below t q false few e = word_below (4 * (q - (11 + t))) (nat_lt (4 * (q - (11 + t))) 2048)

-- a result is written to a register
register_below : (p : PlainPlaces) (t : ℕ) → p.temporaries ≤ 4 → nat_lt (out_of (place_of p t)) 32 ≡ true
register_below p t few = location_below p.temporaries (slice_index p.of t) (nat_lt (slice_index p.of t) (11 + p.temporaries)) few refl

fit_call : (b : Bool) → b ≡ true → (((b && true) && true) && true) ≡ true
fit_call b h = rw h refl

fit_instr : (fs gs : ℕ) (p : PlainPlaces) (i : linear.Instr) → p.temporaries ≤ 4 → has_its_callee fs i ≡ true → has_its_global gs i ≡ true
    → InstrPasses (item_fits fs gs) (λ i. refl) (fit_stub fs gs) p i
fit_instr fs gs p (linear.call f t xs) few c g = fit_call (nat_lt f fs) c
fit_instr fs gs p (linear.global_address t k) few c g =
    and_from (nat_lt k gs && true) (nat_lt (out_of (place_of p t)) 32) (and_from (nat_lt k gs) true g refl) (register_below p t few)
fit_instr fs gs p (linear.const t w) few c g = tt
fit_instr fs gs p (linear.undef t) few c g = tt
fit_instr fs gs p (linear.object_address t n) few c g = tt
fit_instr fs gs p (linear.binary o t a b) few c g = tt
fit_instr fs gs p (linear.unary o t a) few c g = tt
fit_instr fs gs p (linear.load width t a) few c g = tt
fit_instr fs gs p (linear.store width a v) few c g = tt
fit_instr fs gs p (linear.clear n) few c g = tt
fit_instr fs gs p (linear.equal_pointers t a b) few c g = tt
fit_instr fs gs p (linear.move t a) few c g = tt
fit_instr fs gs p (linear.put a) few c g = tt
fit_instr fs gs p (linear.get t) few c g = tt
fit_instr fs gs p (linear.exit a) few c g = tt

fit_passes : (fs gs : ℕ) (p : PlainPlaces) (line : Line) → p.temporaries ≤ 4 → does (has_its_callee fs) line ≡ true → does (has_its_global gs) line ≡ true
    → LinePasses (item_fits fs gs) (λ i. refl) (fit_stub fs gs) p line
fit_passes fs gs p (enter xs) few c g = tt
fit_passes fs gs p (leave v) few c g = tt
fit_passes fs gs p (done i) few c g = fit_instr fs gs p i few c g
fit_passes fs gs p (branch_not_zero x l) few c g = refl
fit_passes fs gs p (branch_zero x l) few c g = refl
fit_passes fs gs p (branch_equal x n l) few c g = refl
fit_passes fs gs p (jump l) few c g = refl
fit_passes fs gs p (label l) few c g = refl

pub selected_items_fit : SelectedItemsFit
selected_items_fit fs gs p os [] few c g = refl
selected_items_fit fs gs p os (line ∷ ls) few c g =
    let callees = and_parts (does (has_its_callee fs) line) (all_of (does (has_its_callee fs)) ls) c in
    let globals = and_parts (does (has_its_global gs) line) (all_of (does (has_its_global gs)) ls) g in
    append_passes (item_fits fs gs) (λ i. refl) (fit_stub fs gs) (line_items p os line) (items_of p os ls)
    (line_passes (item_fits fs gs) (λ i. refl) (fit_stub fs gs) p os line (fit_passes fs gs p line few callees.0 globals.0))
    (selected_items_fit fs gs p os ls few callees.1 globals.1)
