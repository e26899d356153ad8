-- Safe code does over places what it does over names.
use Rattle.std.proofs.Common.{◌≡◌, ◌≢◌, ◌⊎◌, ℕ, zero, suc, Bool, true, false, if◌then◌else◌, List, [], ◌∷◌, map, Option, Some, None, refl, sym, ap, ◌∙◌, subst, inl, inr, arith, eq-eqb, eqb-true}
use Rattle.std.specs.Prelude.{◌==◌, ◌-◌, ◌%◌, ◌^◌}
use Rattle.std.proofs.lemmas.Bool.{cases_Bool, eqb-false}
use Rattle.std.proofs.lemmas.Bool.Decides.{nat_tests}
use Rattle.val_core.specs.declared.values.Value.{Value}
use Rattle.val_core.specs.declared.values.Value.TheVariants.{Num, At, Bad}
use Rattle.val_core.specs.Values.{value1, value2}
use Rattle.val_core.specs.Memory.{pointers_equal, cleared_at}
use Rattle.val_core.specs.Memory as mem
use Rattle.val_core.specs.Events.{wrote}
use Rattle.val_core.specs.Answers.{Answer, Returned, Exited, then_on, on_number, on_defined}
use Rattle.g_mean.specs.Copies.{Same}
use Rattle.g_mean.proofs.lemmas.Copies.{same-then, Equals, equal-same}
use Rattle.s_linear.specs.Linear.{Instr, const, undef, object_address, global_address, binary, unary, load, store, clear, equal_pointers, move, call, put, get, exit, Step, plain, choice, loop, Code, no_steps, step_then, Codes, no_codes, code_then}
use Rattle.s_linear.specs.Meaning.{State, Run, Context, none_lost, names_after, written, gives, gives_memory, got, back_from, instr_run, instrs_run, chosen, turns, step_run, code_run, codes_runs}
use Rattle.a_place.specs.Placed.{placed_instr, placed_step, placed_code, placed_codes}
use Rattle.s_sequence_keeps.specs.Closed.{target_of, NameSet}
use Rattle.a_place_keeps.specs.Need.{IsIn, these, needed_by, needed_by_instrs, needed_by_step, needed_by_code, needed_by_codes, at_label, at_branch, IsMoveFrom, SafeInstr, SafeInstrs, SafeStep, SafeCode, SafeCodes}
use Rattle.a_place_keeps.specs.Laws.{Holds, losing, SafeCodeDoesTheSame}
use Rattle.a_place_keeps.proofs.Needs.{target_is, label_holds}

-- ---- answers

-- what follows on the same answer
then_equal : {A C D : Type 0} (Q : C → D → Type 0) (a b : Answer A) (next : A → Answer C) (last : A → Answer D) → a ≡ b
    → ((x : A) → Same Q (next x) (last x)) → Same Q (then_on a next) (then_on b last)
then_equal Q a b next last e g =
    same-then Equals Q a b next last (equal-same a b e) (λ x y same. subst (λ z. Same Q (next x) (last z)) same (g x))

number_equal : {C D : Type 0} (Q : C → D → Type 0) (v w : Value) (next : ℕ → Answer C) (last : ℕ → Answer D) → v ≡ w
    → ((n : ℕ) → Same Q (next n) (last n)) → Same Q (on_number v next) (on_number w last)
number_equal Q v w next last e g = subst (λ z. Same Q (on_number v next) (on_number z last)) e (itself v)
  where
    itself : (z : Value) → Same Q (on_number z next) (on_number z last)
    itself (Num n) = g n
    itself (At b o) = refl
    itself Bad = refl

defined_equal : {X C D : Type 0} (Q : C → D → Type 0) (v w : Option X) (next : X → Answer C) (last : X → Answer D) → v ≡ w
    → ((n : X) → Same Q (next n) (last n)) → Same Q (on_defined v next) (on_defined w last)
defined_equal {X = X} Q v w next last e g = subst (λ z. Same Q (on_defined v next) (on_defined z last)) e (itself v)
  where
    itself : (z : Option X) → Same Q (on_defined z next) (on_defined z last)
    itself (Some n) = g n
    itself None = refl

if_same : {A B : Type 0} (R : A → B → Type 0) (t : Bool) (a c : Answer A) (b d : Answer B) → Same R a b → Same R c d
    → Same R (if t then a else c) (if t then b else d)
if_same R true a c b d h g = h
if_same R false a c b d h g = g

-- ---- one instruction

-- what a write of a value leaves as it was: another place, or one that held the value
abbrev KeepsOthers : (f : ℕ → ℕ) (N : NameSet) (t : ℕ) (ns qs : ℕ → Value) (w : Value) → Type 0
KeepsOthers f N t ns qs w = (x : ℕ) → N x → t ≢ x → ((f t ≢ f x) ⊎ (w ≡ qs (f x))) × (ns x ≡ qs (f x))

written_same : (f : ℕ → ℕ) (N : NameSet) (t : ℕ) (ns qs : ℕ → Value) (v w : Value) → KeepsOthers f N t ns qs w → v ≡ w
    → (x : ℕ) → N x → written ns t v x ≡ written qs (f t) w (f x)
written_same f N t ns qs v w k e x n =
    elim (cases_Bool (x == t)) [
      | inl same ↦
          let there : (f x == f t) ≡ true = eq-eqb (f x) (f t) (ap f (eqb-true x t same)) in
          rw (same, there) e
      | inr other ↦
          let kept = k x n (λ z. eqb-false x t other (sym z)) in
          rw other (kept.1 ∙ sym (left kept.0))
    ]
  where
    left : (f t ≢ f x) ⊎ (w ≡ qs (f x)) → written qs (f t) w (f x) ≡ qs (f x)
    left (inl apart) = let there : (f x == f t) ≡ false = grind (arith, nat_tests) in rw there refl
    left (inr same) = elim (f x == f t) as (λ b. (if b then w else qs (f x)) ≡ qs (f x)) [
      | true ↦ same
      | false ↦ refl
    ]

module _ (f : ℕ → ℕ) (N : NameSet) where
  abbrev SameHeld : Answer State → Answer State → Type 0
  SameHeld a b = Same (Holds f N) a b

  gives_same : (t : ℕ) (s q : State) (v w : Value) → KeepsOthers f N t s.names q.names w → s.memory ≡ q.memory → s.input ≡ q.input → v ≡ w
      → SameHeld (gives s t v) (gives q (f t) w)
  gives_same t s q v w k m i e = (record { values = written_same f N t s.names q.names v w k e; memory = m; input = i }, refl)

  got_same : (t : ℕ) (s q : State) (i j : List ℕ) → ((w : Value) → KeepsOthers f N t s.names q.names w) → s.memory ≡ q.memory → s.input ≡ q.input → i ≡ j
      → SameHeld (got s t i) (got q (f t) j)
  got_same t s q i j k m r e = subst (λ z. SameHeld (got s t i) (got q (f t) z)) e (itself i)
    where
      itself : (z : List ℕ) → SameHeld (got s t z) (got q (f t) z)
      itself [] = gives_same t s q (Num (2 ^ 32 - 1)) (Num (2 ^ 32 - 1)) (k (Num (2 ^ 32 - 1))) m r refl
      itself (b ∷ z) = (record { values = written_same f N t s.names q.names (Num b) (Num b) (k (Num b)) refl; memory = m; input = refl }, refl)

args_same : (f : ℕ → ℕ) (ns qs : ℕ → Value) (xs : List ℕ) → ((x : ℕ) → IsIn x xs → ns x ≡ qs (f x)) → map ns xs ≡ map qs (map f xs)
args_same f ns qs [] h = refl
args_same f ns qs (x ∷ xs) h = λ j. h x (inl refl) j ∷ args_same f ns qs xs (λ y r. h y (inr r)) j

-- what is needed before a write and not written by it, where a move writes what its source holds
others : (f : ℕ → ℕ) (lost : ℕ → Bool) (N : NameSet) (i : Instr) (t : ℕ) (s q : State) (w : Value) → ((x : ℕ) → IsMoveFrom x i → w ≡ q.names (f x))
    → SafeInstr f lost i N → target_of i ≡ Some t → Holds f (needed_by i N) s q → KeepsOthers f N t s.names q.names w
others f lost N i t s q w moved safe only h x n ne =
    (by (safe t x only n ne).0, h.values x (inr ((λ w. ne (target_is t x (sym only ∙ w))), n)))
  where
    by : (f t ≢ f x) ⊎ IsMoveFrom x i → (f t ≢ f x) ⊎ (w ≡ q.names (f x))
    by (inl apart) = inl apart
    by (inr from) = inr (moved x from)

-- and a call of a function leaves it too
others_after : (f : ℕ → ℕ) (lost : ℕ → Bool) (N : NameSet) (g t : ℕ) (xs : List ℕ) (s q : State) (w : Value) → SafeInstr f lost (call g t xs) N
    → Holds f (needed_by (call g t xs) N) s q → KeepsOthers f N t s.names (names_after lost q.names) w
others_after f lost N g t xs s q w safe h x n ne =
    let kept : lost (f x) ≡ false = (safe t x refl n ne).1 in (
      by (safe t x refl n ne).0,
      rw kept (h.values x (inr ((λ e. ne (target_is t x e)), n))),
    )
  where
    by : (f t ≢ f x) ⊎ ⊥ → (f t ≢ f x) ⊎ (w ≡ names_after lost q.names (f x))
    by (inl apart) = inl apart
    by (inr never) = absurd never

-- what is needed before an instruction that writes no name
all_others : (f : ℕ → ℕ) (N : NameSet) (i : Instr) (s q : State) → target_of i ≡ None → Holds f (needed_by i N) s q
    → (x : ℕ) → N x → s.names x ≡ q.names (f x)
all_others f N i s q none h x n = h.values x (inr ((λ w. unequal (sym none ∙ w)), n))
  where
    unequal : ◌≡◌ {A = Option ℕ} None (Some x) → ⊥
    unequal e = cc

module _ (context : Context) (f : ℕ → ℕ) (lost : ℕ → Bool) where
  abbrev c : Context
  c = losing none_lost context

  abbrev d : Context
  d = losing lost context

  instr_same : (i : Instr) (N : NameSet) (s q : State) → SafeInstr f lost i N → Holds f (needed_by i N) s q
      → Same (Holds f N) (instr_run c i s) (instr_run d (placed_instr f i) q)
  instr_same (const t w) N s q safe h =
      gives_same f N t s q (Num (w % 2 ^ 32)) (Num (w % 2 ^ 32)) (others f lost N (const t w) t s q (Num (w % 2 ^ 32)) (λ x m. absurd m) safe refl h) h.memory h.input refl
  instr_same (undef t) N s q safe h = gives_same f N t s q Bad Bad (others f lost N (undef t) t s q Bad (λ x m. absurd m) safe refl h) h.memory h.input refl
  instr_same (object_address t k) N s q safe h =
      gives_same f N t s q (c.addresses.local k) (c.addresses.local k) (others f lost N (object_address t k) t s q (c.addresses.local k) (λ x m. absurd m) safe refl h) h.memory h.input refl
  instr_same (global_address t k) N s q safe h =
      gives_same f N t s q (c.addresses.global k) (c.addresses.global k) (others f lost N (global_address t k) t s q (c.addresses.global k) (λ x m. absurd m) safe refl h) h.memory h.input refl
  instr_same (binary o t a b) N s q safe h =
      gives_same f N t s q (value2 o (s.names a) (s.names b)) (value2 o (q.names (f a)) (q.names (f b)))
      (others f lost N (binary o t a b) t s q (value2 o (q.names (f a)) (q.names (f b))) (λ x m. absurd m) safe refl h) h.memory h.input
      (λ j. value2 o (h.values a (inl (inl refl)) j) (h.values b (inl (inr (inl refl))) j))
  instr_same (unary o t a) N s q safe h =
      gives_same f N t s q (value1 o (s.names a)) (value1 o (q.names (f a))) (others f lost N (unary o t a) t s q (value1 o (q.names (f a))) (λ x m. absurd m) safe refl h) h.memory h.input
      (λ j. value1 o (h.values a (inl (inl refl)) j))
  instr_same (load width t a) N s q safe h =
      defined_equal (Holds f N) (mem.load width (s.names a) s.memory) (mem.load width (q.names (f a)) q.memory) (gives s t) (gives q (f t))
      (λ j. mem.load width (h.values a (inl (inl refl)) j) (h.memory j))
      (λ v. gives_same f N t s q v v (others f lost N (load width t a) t s q v (λ x m. absurd m) safe refl h) h.memory h.input refl)
  instr_same (store width a v) N s q safe h =
      defined_equal (Holds f N) (mem.store width (s.names a) (s.names v) s.memory) (mem.store width (q.names (f a)) (q.names (f v)) q.memory)
      (gives_memory s) (gives_memory q)
      (λ j. mem.store width (h.values a (inl (inl refl)) j) (h.values v (inl (inr (inl refl))) j) (h.memory j))
      (λ m. (record { values = all_others f N (store width a v) s q refl h; memory = refl; input = h.input }, refl))
  instr_same (clear k) N s q safe h =
      defined_equal (Holds f N) (cleared_at (c.addresses.local k) s.memory) (cleared_at (c.addresses.local k) q.memory) (gives_memory s) (gives_memory q)
      (λ j. cleared_at (c.addresses.local k) (h.memory j))
      (λ m. (record { values = all_others f N (clear k) s q refl h; memory = refl; input = h.input }, refl))
  instr_same (equal_pointers t a b) N s q safe h =
      defined_equal (Holds f N) (pointers_equal (s.names a) (s.names b) s.memory) (pointers_equal (q.names (f a)) (q.names (f b)) q.memory)
      (λ n. gives s t (Num n)) (λ n. gives q (f t) (Num n))
      (λ j. pointers_equal (h.values a (inl (inl refl)) j) (h.values b (inl (inr (inl refl))) j) (h.memory j))
      (λ n. gives_same f N t s q (Num n) (Num n) (others f lost N (equal_pointers t a b) t s q (Num n) (λ x m. absurd m) safe refl h) h.memory h.input refl)
  instr_same (move t a) N s q safe h =
      gives_same f N t s q (s.names a) (q.names (f a)) (others f lost N (move t a) t s q (q.names (f a)) (λ x e. ap (λ n. q.names (f n)) e) safe refl h) h.memory h.input (h.values a (inl (inl refl)))
  instr_same (call g t xs) N s q safe h =
      then_equal (Holds f N) (c.call g (map s.names xs) s.memory s.input) (c.call g (map q.names (map f xs)) q.memory q.input)
      (back_from none_lost s t) (back_from lost q (f t))
      (λ j. c.call g (args_same f s.names q.names xs (λ x r. h.values x (inl r)) j) (h.memory j) (h.input j))
      (λ g'. (
        record {
          values = written_same f N t s.names (names_after lost q.names) g'.value g'.value (others_after f lost N g t xs s q g'.value safe h) refl;
          memory = refl;
          input = refl;
        },
        refl,
      ))
  instr_same (put a) N s q safe h =
      number_equal (Holds f N) (s.names a) (q.names (f a)) (λ w. Returned s (wrote (w % 256) ∷ [])) (λ w. Returned q (wrote (w % 256) ∷ []))
      (h.values a (inl (inl refl)))
      (λ w. (record { values = all_others f N (put a) s q refl h; memory = h.memory; input = h.input }, refl))
  instr_same (get t) N s q safe h = got_same f N t s q s.input q.input (λ w. others f lost N (get t) t s q w (λ x m. absurd m) safe refl h) h.memory h.input h.input
  instr_same (exit a) N s q safe h =
      number_equal (Holds f N) (s.names a) (q.names (f a)) (λ w. Exited [] (w % 256)) (λ w. Exited [] (w % 256)) (h.values a (inl (inl refl)))
      (λ w. (refl, refl))

  instrs_same : (is : List Instr) (N : NameSet) (s q : State) → SafeInstrs f lost is N → Holds f (needed_by_instrs is N) s q
      → Same (Holds f N) (instrs_run c is s) (instrs_run d (map (placed_instr f) is) q)
  instrs_same [] N s q safe h = (h, refl)
  instrs_same (i ∷ is) N s q safe h =
      same-then (Holds f (needed_by_instrs is N)) (Holds f N) (instr_run c i s) (instr_run d (placed_instr f i) q) (instrs_run c is)
      (instrs_run d (map (placed_instr f) is)) (instr_same i (needed_by_instrs is N) s q safe.0 h) (λ t u k. instrs_same is N t u safe.1 k)

-- ---- loops

fewer : (f : ℕ → ℕ) (N M : NameSet) (s q : State) → ((x : ℕ) → N x → M x) → Holds f M s q → Holds f N s q
fewer f N M s q less h = record { values = λ x n. h.values x (less x n); memory = h.memory; input = h.input }

-- what is needed at the label, after the body, and after the loop
turns_same : (f : ℕ → ℕ) (L B N : NameSet) (p : ℕ) (body body' back back' : Run) → B p → ((x : ℕ) → N x → B x)
    → ((s q : State) → Holds f L s q → Same (Holds f B) (body s) (body' q))
    → ((s q : State) → Holds f B s q → Same (Holds f L) (back s) (back' q))
    → (n : ℕ) (s q : State) → Holds f L s q → Same (Holds f N) (turns n body p back s) (turns n body' (f p) back' q)
turns_same f L B N p body body' back back' read after does returns zero s q h = refl
turns_same f L B N p body body' back back' read after does returns (suc n) s q h =
    same-then (Holds f B) (Holds f N) (body s) (body' q)
    (λ t. on_number (t.names p) (λ w. if w == 0 then Returned t [] else then_on (back t) (turns n body p back)))
    (λ u. on_number (u.names (f p)) (λ w. if w == 0 then Returned u [] else then_on (back' u) (turns n body' (f p) back')))
    (does s q h)
    (λ t u k.
    number_equal (Holds f N) (t.names p) (u.names (f p)) (λ w. if w == 0 then Returned t [] else then_on (back t) (turns n body p back))
    (λ w. if w == 0 then Returned u [] else then_on (back' u) (turns n body' (f p) back')) (k.values p read)
    (λ w.
    if_same (Holds f N) (w == 0) (Returned t []) (then_on (back t) (turns n body p back)) (Returned u []) (then_on (back' u) (turns n body' (f p) back'))
    (fewer f N B t u after k, refl)
    (same-then (Holds f L) (Holds f N) (back t) (back' u) (turns n body p back) (turns n body' (f p) back') (returns t u k)
    (λ t' u' k'. turns_same f L B N p body body' back back' read after does returns n t' u' k'))))

-- ---- code

module _ (context : Context) (f : ℕ → ℕ) (lost : ℕ → Bool) where
  abbrev by_name : Context
  by_name = losing none_lost context

  abbrev by_place : Context
  by_place = losing lost context

  mutual
    step_same : (x : Step) (N : NameSet) (s q : State) → SafeStep f lost x N → Holds f (needed_by_step x N) s q
        → Same (Holds f N) (step_run by_name x s) (step_run by_place (placed_step f x) q)
    step_same (plain i) N s q safe h =
        instr_same context f lost i N s q safe (fewer f (needed_by i N) (needed_by_step (plain i) N) s q (λ x n. n) h)
    step_same (choice p no_codes) N s q safe h = refl
    step_same (choice p (code_then k no_codes)) N s q safe h =
        code_same k N s q safe.0 (fewer f (needed_by_code k N) (needed_by_step (choice p (code_then k no_codes)) N) s q (λ x n. inr (inl n)) h)
    step_same (choice p (code_then k (code_then l ks))) N s q safe h =
        number_equal (Holds f N) (s.names p) (q.names (f p)) (λ w. chosen w (codes_runs by_name (code_then k (code_then l ks))) s)
        (λ w. chosen w (codes_runs by_place (placed_codes f (code_then k (code_then l ks)))) q) (h.values p (inl (omega arith, refl)))
        (λ w.
        codes_same (code_then k (code_then l ks)) w N s q safe
        (fewer f (needed_by_codes (code_then k (code_then l ks)) N) (needed_by_step (choice p (code_then k (code_then l ks))) N) s q (λ x n. inr n) h))
    step_same (loop moves body p back) N s q safe h =
        let L = at_label body p back N in let B = at_branch body p back N in
        same-then (Holds f L) (Holds f N) (instrs_run by_name moves s) (instrs_run by_place (map (placed_instr f) moves) q)
        (turns by_name.bound (code_run by_name body) p (instrs_run by_name back))
        (turns by_name.bound (code_run by_place (placed_code f body)) (f p) (instrs_run by_place (map (placed_instr f) back)))
        (instrs_same context f lost moves L s q safe.0 (fewer f (needed_by_instrs moves L) (needed_by_step (loop moves body p back) N) s q (λ x n. n) h))
        (λ t u k.
        turns_same f L B N p (code_run by_name body) (code_run by_place (placed_code f body)) (instrs_run by_name back) (instrs_run by_place (map (placed_instr f) back))
        (inl refl) (λ x n. inr (inl n))
        (λ t' u' k'. code_same body B t' u' safe.1 (fewer f (needed_by_code body B) L t' u' (label_holds body p back N) k'))
        (λ t' u' k'. instrs_same context f lost back L t' u' safe.2 (fewer f (needed_by_instrs back L) B t' u' (λ x n. inr (inr n)) k'))
        by_name.bound t u k)

    pub code_same : (k : Code) (N : NameSet) (s q : State) → SafeCode f lost k N → Holds f (needed_by_code k N) s q
        → Same (Holds f N) (code_run by_name k s) (code_run by_place (placed_code f k) q)
    code_same no_steps N s q safe h = (fewer f N (needed_by_code no_steps N) s q (λ x n. n) h, refl)
    code_same (step_then x k) N s q safe h =
        same-then (Holds f (needed_by_code k N)) (Holds f N) (step_run by_name x s) (step_run by_place (placed_step f x) q) (code_run by_name k) (code_run by_place (placed_code f k))
        (step_same x (needed_by_code k N) s q safe.0
        (fewer f (needed_by_step x (needed_by_code k N)) (needed_by_code (step_then x k) N) s q (λ y n. n) h))
        (λ t u r. code_same k N t u safe.1 r)

    codes_same : (ks : Codes) (w : ℕ) (N : NameSet) (s q : State) → SafeCodes f lost ks N → Holds f (needed_by_codes ks N) s q
        → Same (Holds f N) (chosen w (codes_runs by_name ks) s) (chosen w (codes_runs by_place (placed_codes f ks)) q)
    codes_same no_codes w N s q safe h = refl
    codes_same (code_then k no_codes) w N s q safe h =
        code_same k N s q safe.0 (fewer f (needed_by_code k N) (needed_by_codes (code_then k no_codes) N) s q (λ x n. inl n) h)
    codes_same (code_then k (code_then l ks)) zero N s q safe h =
        code_same k N s q safe.0 (fewer f (needed_by_code k N) (needed_by_codes (code_then k (code_then l ks)) N) s q (λ x n. inl n) h)
    codes_same (code_then k (code_then l ks)) (suc w) N s q safe h =
        codes_same (code_then l ks) w N s q safe.1
        (fewer f (needed_by_codes (code_then l ks) N) (needed_by_codes (code_then k (code_then l ks)) N) s q (λ x n. inr n) h)

pub safe_code_does_the_same : SafeCodeDoesTheSame
safe_code_does_the_same context place lost code after s q safe h = code_same context place lost code (these after) s q safe h
