-- The instructions of the template of each line fit their formats.
use Rattle.std.proofs.Common.{◌≡◌, ◌⊎◌, ℕ, suc, ◌+◌, ◌-◌, ◌*◌, ◌^◌, ◌<◌, ◌≤◌, ◌==◌, if◌then◌else◌, nat_lt, cond, Bool, true, false, IsTrue, List, [], ◌∷◌, ◌++◌, length, slice_index, refl, sym, subst, arith, inl, inr, lit<}
use Rattle.std.proofs.lemmas.Bool.{leb-true, ltb-true, cases_lt}
use Rattle.val_core.specs.declared.operation.Op2.TheVariants as op
use Rattle.g_graph.specs.Plain.{PlainObject}
use Rattle.rv_isa.specs.Calls.{exit_call}
use Rattle.rv_isa.specs.Registers.{x0, sp, t0, t1, a0, a7}
use Rattle.rv_isa.specs.Words.{FitsFormat}
use Rattle.rv_isa.specs.declared.instruction.Instr.{Instr}
use Rattle.rv_isa.specs.declared.instruction.Instr.TheVariants as rv
use Rattle.rv_machine.specs.Standing.{AllFit}
use Rattle.rv_machine.proofs.lemmas.Standing.{fits-append}
use Rattle.rv_layout.specs.declared.item.Item.TheVariants.{Jump, Call, Stub}
use Rattle.s_linear.specs.Frame.{PlainPlaces, saved_of, object_at, frame_size}
use Rattle.s_linear.specs.Linear as linear
use Rattle.s_linear.specs.Lines.{enter, leave, done, branch_not_zero, branch_zero, branch_equal, jump, label}
use Rattle.s_select.specs.Conditions.{has_few_arguments}
use Rattle.s_select.specs.declared.location.Location.TheVariants.{Near, Far}
use Rattle.s_select.specs.Operands.{location_of, load_immediate, get, put, in_of, load_in, store_out}
use Rattle.s_select.specs.Templates.{words, place_of, take_frame, give_frame, put_params, get_arguments, binary_code, unary_code, load_instr, store_instr, with_two, with_one, with_none, move_between, move_code, clear_code, size_of, instr_items, branch_items}
use Rattle.s_select_keeps.specs.Formats.{WordsFit, IsInRange, NumbersFit, TemplatesFit}
use Rattle.s_select_keeps.proofs.Formats.{words-fit, items-append, immediate-fits, IsInReach, get-fits, put-fits, load-fits, store-fits, in-fits, out-fits, binary-fits, unary-fits, place-fits, taken-fits, given-fits, two-fits, one-fits, none-fits, move-fits, load-width, store-width, clear-fits}
use Rattle.s_select_keeps.proofs.Locations.{at-register, at-word}

-- each place is within reach
reach : (t n : ℕ) → t ≤ 4 → IsInReach (location_of t n)
reach t n few = by (cases_lt n (11 + t))
  where
    word : (test : Bool) → nat_lt (4 * (n - (11 + t))) 2048 ≡ test → IsInReach (cond test (Near (4 * (n - (11 + t)))) (Far (4 * (n - (11 + t)))))
    word true e = ltb-true (4 * (n - (11 + t))) 2048 e
    word false e = tt

    by : (n < 11 + t) ⊎ (11 + t ≤ n) → IsInReach (location_of t n)
    by (inl low) = subst IsInReach (sym (at-register t n low)) (place-fits n (omega (arith, low, few)))
    by (inr high) = subst IsInReach (sym (at-word t n high)) (word (nat_lt (4 * (n - (11 + t))) 2048) refl)

module _ (p : PlainPlaces) (os : List PlainObject) (range : IsInRange p os) where
  at : (x : ℕ) → IsInReach (place_of p x)
  at x = reach p.temporaries (slice_index p.of x) range.temporaries

  arguments-fit : (r : ℕ) (xs : List ℕ) → r + length xs ≤ 32 → AllFit (get_arguments p r xs)
  arguments-fit r [] few = tt
  arguments-fit r (x ∷ xs) few =
      fits-append (get r (place_of p x)) (get_arguments p (suc r) xs) (get-fits r (place_of p x) (omega (arith, few)) (at x))
      (arguments-fit (suc r) xs (omega (arith, few)))

  params-fit : (r : ℕ) (xs : List ℕ) → r + length xs ≤ 32 → AllFit (put_params p r xs)
  params-fit r [] few = tt
  params-fit r (x ∷ xs) few =
      fits-append (put (place_of p x) r) (put_params p (suc r) xs) (put-fits (place_of p x) r (omega (arith, few)) (at x)) (params-fit (suc r) xs (omega (arith, few)))

  object-fits : (k rd : ℕ) → rd < 32 → AllFit (load_immediate t0 (object_at p.count os k) ++ rv.Add rd t0 sp ∷ [])
  unfolding FitsFormat
  object-fits k rd low =
      fits-append (load_immediate t0 (object_at p.count os k)) (rv.Add rd t0 sp ∷ []) (immediate-fits t0 (object_at p.count os k) (lit< tt) (range.objects k))
      ((lit< tt, lit< tt, low), tt)

  exit-fits : (a : ℕ) → AllFit (get a0 (place_of p a) ++ rv.Addi a7 x0 exit_call ∷ rv.Ecall ∷ [])
  unfolding FitsFormat
  exit-fits a = fits-append (get a0 (place_of p a)) (rv.Addi a7 x0 exit_call ∷ rv.Ecall ∷ []) (get-fits a0 (place_of p a) (lit< tt) (at a))
      (((lit< tt, lit< tt), lit< tt, lit< tt), (tt, tt))

  instr-fits : (i : linear.Instr) → NumbersFit (done i) → IsTrue (has_few_arguments i) → WordsFit (instr_items p os i)
  instr-fits (linear.const t w) word few =
      words-fit (with_none (place_of p t) (λ rd. load_immediate rd w))
      (none-fits (place_of p t) (λ rd. load_immediate rd w) (at t) (λ rd low. immediate-fits rd w low word))
  instr-fits (linear.undef t) word few = tt
  instr-fits (linear.object_address t k) word few =
      words-fit (with_none (place_of p t) (λ rd. load_immediate t0 (object_at p.count os k) ++ rv.Add rd t0 sp ∷ []))
      (none-fits (place_of p t) (λ rd. load_immediate t0 (object_at p.count os k) ++ rv.Add rd t0 sp ∷ []) (at t) (λ rd low. object-fits k rd low))
  instr-fits (linear.global_address t k) word few = (out-fits (place_of p t) (at t), words-fit (store_out (place_of p t)) (store-fits (place_of p t) (at t)))
  instr-fits (linear.binary o t a b) word few =
      words-fit (with_two (place_of p t) (place_of p a) (place_of p b) (binary_code o))
      (two-fits (place_of p t) (place_of p a) (place_of p b) (binary_code o) (at t) (at a) (at b) (λ rd x y r u v. binary-fits o rd x y r u v))
  instr-fits (linear.unary o t a) word few =
      words-fit (with_one (place_of p t) (place_of p a) (unary_code o))
      (one-fits (place_of p t) (place_of p a) (unary_code o) (at t) (at a) (λ rd x r u. unary-fits o rd x r u))
  instr-fits (linear.load width t a) word few =
      words-fit (with_one (place_of p t) (place_of p a) (λ rd r. load_instr width rd r ∷ []))
      (one-fits (place_of p t) (place_of p a) (λ rd r. load_instr width rd r ∷ []) (at t) (at a) (λ rd x r u. (load-width width rd x r u, tt)))
  instr-fits (linear.store width a v) word few =
      let first = load_in t0 (place_of p a) in
      let second = load_in t1 (place_of p v) in
      let last = store_instr width (in_of (place_of p a) t0) (in_of (place_of p v) t1) in
      words-fit (first ++ second ++ last ∷ [])
      (fits-append (first ++ second) (last ∷ [])
      (fits-append first second (load-fits t0 (place_of p a) (lit< tt) (at a)) (load-fits t1 (place_of p v) (lit< tt) (at v))) (
        store-width width (in_of (place_of p a) t0) (in_of (place_of p v) t1) (in-fits (place_of p a) t0 (lit< tt) (at a)) (in-fits (place_of p v) t1 (lit< tt) (at v)),
        tt,
      ))
  instr-fits (linear.clear k) word few =
      words-fit (clear_code (object_at p.count os k) (size_of os k)) (clear-fits (object_at p.count os k) (size_of os k) (range.objects k) (range.sizes k))
  instr-fits (linear.equal_pointers t a b) word few =
      words-fit (with_two (place_of p t) (place_of p a) (place_of p b) (binary_code op.Eq))
      (two-fits (place_of p t) (place_of p a) (place_of p b) (binary_code op.Eq) (at t) (at a) (at b) (λ rd x y r u v. binary-fits op.Eq rd x y r u v))
  instr-fits (linear.move t a) word few =
      words-fit (move_between p.temporaries (slice_index p.of t) (slice_index p.of a)) (by (slice_index p.of t == slice_index p.of a))
    where
      by : (same : Bool) → AllFit (if same then [] else move_code (place_of p t) (place_of p a))
      by true = tt
      by false = move-fits (place_of p t) (place_of p a) (at t) (at a)
  instr-fits (linear.call f t xs) word few =
      let less = leb-true (length xs) 8 few in
      items-append (words (get_arguments p a0 xs)) (Call f ∷ words (put (place_of p t) a0))
      (words-fit (get_arguments p a0 xs) (arguments-fit 10 xs (omega (arith, less))))
      (words-fit (put (place_of p t) a0) (put-fits (place_of p t) a0 (lit< tt) (at t)))
  instr-fits (linear.put a) word few = items-append (words (get a0 (place_of p a))) (Stub 0 ∷ [])
      (words-fit (get a0 (place_of p a)) (get-fits a0 (place_of p a) (lit< tt) (at a))) tt
  instr-fits (linear.get t) word few = words-fit (put (place_of p t) a0) (put-fits (place_of p t) a0 (lit< tt) (at t))
  instr-fits (linear.exit a) word few = words-fit (get a0 (place_of p a) ++ rv.Addi a7 x0 exit_call ∷ rv.Ecall ∷ []) (exit-fits a)

  -- a branch over a jump
  branch-fits : (x l : ℕ) (over : ℕ → List Instr) → ((r : ℕ) → r < 32 → AllFit (over r)) → WordsFit (branch_items (place_of p x) over l)
  branch-fits x l over fit =
      let first = load_in t0 (place_of p x) in
      let last = over (in_of (place_of p x) t0) in
      items-append (words (first ++ last)) (Jump l ∷ [])
      (words-fit (first ++ last) (fits-append first last (load-fits t0 (place_of p x) (lit< tt) (at x))
      (fit (in_of (place_of p x) t0) (in-fits (place_of p x) t0 (lit< tt) (at x))))) tt

  equal-fits : (n r : ℕ) → n < 2 ^ 32 → r < 32 → AllFit (load_immediate t1 n ++ rv.Bne r t1 8 ∷ [])
  unfolding FitsFormat
  equal-fits n r small low = fits-append (load_immediate t1 n) (rv.Bne r t1 8 ∷ []) (immediate-fits t1 n (lit< tt) small) (((lit< tt, lit< tt), refl, lit< tt, low), tt)

  not-zero-fits : (r : ℕ) → r < 32 → AllFit (rv.Beq r x0 8 ∷ [])
  unfolding FitsFormat
  not-zero-fits r low = (((lit< tt, lit< tt), refl, lit< tt, low), tt)

  zero-fits : (r : ℕ) → r < 32 → AllFit (rv.Bne r x0 8 ∷ [])
  unfolding FitsFormat
  zero-fits r low = (((lit< tt, lit< tt), refl, lit< tt, low), tt)

saved-few : (s : ℕ) → saved_of s ≤ 11
saved-few s = omega arith

pub templates_fit : TemplatesFit
templates_fit p os (enter xs) range word params few =
    let less = leb-true (length xs) 8 params in
    let first = take_frame (frame_size p.count os) (saved_of p.count) in
    words-fit (first ++ put_params p a0 xs)
    (fits-append first (put_params p a0 xs) (taken-fits (frame_size p.count os) (saved_of p.count) range.frame (saved-few p.count))
    (params-fit p os range 10 xs (omega (arith, less))))
templates_fit p os (leave v) range word params few =
    let last = give_frame (frame_size p.count os) (saved_of p.count) in
    words-fit (get a0 (place_of p v) ++ last)
    (fits-append (get a0 (place_of p v)) last (get-fits a0 (place_of p v) (lit< tt) (at p os range v))
    (given-fits (frame_size p.count os) (saved_of p.count) range.frame (saved-few p.count)))
templates_fit p os (done i) range word params few = instr-fits p os range i word few
templates_fit p os (branch_not_zero x l) range word params few = branch-fits p os range x l (λ r. rv.Beq r x0 8 ∷ []) (λ r low. not-zero-fits p os range r low)
templates_fit p os (branch_zero x l) range word params few = branch-fits p os range x l (λ r. rv.Bne r x0 8 ∷ []) (λ r low. zero-fits p os range r low)
templates_fit p os (branch_equal x n l) range word params few =
    branch-fits p os range x l (λ r. load_immediate t1 n ++ rv.Bne r t1 8 ∷ []) (λ r low. equal-fits p os range n r word low)
templates_fit p os (jump l) range word params few = tt
templates_fit p os (label l) range word params few = tt
