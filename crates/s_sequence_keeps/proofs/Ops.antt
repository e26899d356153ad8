-- The ops without regions: a node and its instruction agree.
use Rattle.std.proofs.Common.{◌≡◌, ◌<◌, ◌≤◌, inl, inr, ℕ, zero, suc, ◌-◌, ◌%◌, ◌^◌, Bool, true, false, cond, List, [], ◌∷◌, ◌++◌, map, length, Option, None, Some, option_map, slice_get, refl, sym, ap₂, subst, arith}
use Rattle.std.proofs.Math.Nat.{mod-mod}
use Rattle.std.specs.Prelude.{replicate}
use Rattle.val_core.specs.declared.values.Value.{Value}
use Rattle.val_core.specs.declared.values.Value.TheVariants.{Num, At, Bad}
use Rattle.val_core.specs.declared.operation.Op1.{Op1}
use Rattle.val_core.specs.declared.operation.Op2.{Op2}
use Rattle.val_core.specs.Values.{IsLessDefined, value1, value2}
use Rattle.val_core.specs.Memory.{Memory as Blocks, load, store, takes_store, block_named, pointers_equal, cleared_at}
use Rattle.val_core.specs.Objects.{Addresses}
use Rattle.val_core.specs.Answers.{Answer, Returned, then_on, on_defined}
use Rattle.val_core.specs.Within.{Given}
use Rattle.val_core.proofs.lemmas.Answers.{then_nothing}
use Rattle.val_core.proofs.lemmas.Values.{keeps_less_defined1, keeps_less_defined2}
use Rattle.g_graph.specs.declared.op.Kind.{Kind}
use Rattle.g_graph.specs.declared.op.Kind.TheVariants.{Value as ValueKind, Memory, Io}
use Rattle.g_graph.specs.declared.op.Op.TheVariants.{Const, Bin, Un, Load, Store, Clear, PtrEq, Apply, Put, Exit, Get}
use Rattle.g_graph.specs.Scope.{is_of}
use Rattle.g_graph.specs.WellFormed.{some_of}
use Rattle.g_mean.specs.Data.{Datum, val, memory, input, at_port, value_at, taken}
use Rattle.g_mean.specs.Meaning as graph
use Rattle.g_mean.specs.Meaning.{Meaning, done, given, given_memory}
use Rattle.s_linear.specs.Meaning as linear
use Rattle.s_linear.specs.Meaning.{State, Context, Call, set, gives, gives_memory, written, instr_run, none_lost, back_from}
use Rattle.s_sequence.specs.Sequence.{name_at, without_states, op_instr}
use Rattle.s_sequence_keeps.specs.Agreement.{Agrees, AreLessDefined, GivesBack}
use Rattle.s_sequence_keeps.proofs.AgreeingAnswers.{agrees-then, agrees-number, agrees-defined}
use Rattle.s_sequence_keeps.proofs.Held.{IsState, state_datum, set-states, same-name, other-name, tied-less, Held, held-tied, held-state}
use Rattle.s_sequence_keeps.proofs.Running.{NodeDone}

-- calls of every function agree
abbrev pub AllCallsAgree : (ℕ → Meaning) → (ℕ → Call) → Type 0
AllCallsAgree call callees =
    (f : ℕ) (vs ws : List Value) → AreLessDefined vs ws → (m : Blocks) (i : List ℕ) → Agrees GivesBack (call f (taken vs m i)) (callees f ws m i)

-- ---- what one instruction gives

below-name : (s : State) (next : ℕ) (w : Value) (y : ℕ) → y < next → written s.names next w y ≡ s.names y
below-name s next w y h = other-name s.names next w y (λ e. omega (arith, h, e))

given-done : (next : ℕ) (s : State) (v w : Value) → IsLessDefined v w → NodeDone next next (Some ValueKind ∷ []) s (val v ∷ []) (set s next w)
given-done next s v w less =
    record {
      own = ValueKind ∷ [];
      are = refl;
      carries = (record { value = v; is = refl; less = subst (λ z. IsLessDefined v z) (sym (same-name s.names next w)) less }, tt);
      keeps = λ y h. below-name s next w y h;
      states = λ k state e. set-states k s next w;
    }

memory-done : (next : ℕ) (s : State) (m : Blocks) → NodeDone next next (Some Memory ∷ []) s (memory m ∷ []) (record { names = s.names; memory = m; input = s.input })
memory-done next s m =
    record { own = Memory ∷ []; are = refl; carries = (refl, tt); keeps = λ y h. refl; states = by }
  where
    by : (k : Kind) → IsState k → some_of (is_of k) (Some Memory ∷ []) ≡ false → state_datum k (record { names = s.names; memory = m; input = s.input }) ≡ state_datum k s
    by ValueKind state e = absurd state
    by Memory state e = absurd cc
    by Io state e = refl

input-done : (next : ℕ) (s : State) → NodeDone next next (Some Io ∷ []) s (input s.input ∷ []) s
input-done next s =
    record { own = Io ∷ []; are = refl; carries = (refl, tt); keeps = λ y h. refl; states = λ k state e. refl }

-- a value, and a new state of the input
read-done : (next : ℕ) (s : State) (v w : Value) (i : List ℕ) → IsLessDefined v w →
    NodeDone next next (Some ValueKind ∷ Some Io ∷ []) s (val v ∷ input i ∷ []) (record { names = written s.names next w; memory = s.memory; input = i })
read-done next s v w i less =
    record {
      own = ValueKind ∷ Io ∷ [];
      are = refl;
      carries = (record { value = v; is = refl; less = subst (λ z. IsLessDefined v z) (sym (same-name s.names next w)) less }, (refl, tt));
      keeps = λ y h. below-name s next w y h;
      states = by;
    }
  where
    by : (k : Kind) → IsState k → some_of (is_of k) (Some ValueKind ∷ Some Io ∷ []) ≡ false →
        state_datum k (record { names = written s.names next w; memory = s.memory; input = i }) ≡ state_datum k s
    by ValueKind state e = absurd state
    by Memory state e = refl
    by Io state e = absurd cc

back-done : (next : ℕ) (s : State) (v : Value) (g : Given Value) → IsLessDefined v g.value →
    NodeDone next next (Some ValueKind ∷ Some Memory ∷ Some Io ∷ []) s (val v ∷ memory g.memory ∷ input g.input ∷ [])
    (record { names = written s.names next g.value; memory = g.memory; input = g.input })
back-done next s v g less =
    record {
      own = ValueKind ∷ Memory ∷ Io ∷ [];
      are = refl;
      carries = (record { value = v; is = refl; less = subst (λ z. IsLessDefined v z) (sym (same-name s.names next g.value)) less }, (refl, (refl, tt)));
      keeps = λ y h. below-name s next g.value y h;
      states = by;
    }
  where
    by : (k : Kind) → IsState k → some_of (is_of k) (Some ValueKind ∷ Some Memory ∷ Some Io ∷ []) ≡ false →
        state_datum k (record { names = written s.names next g.value; memory = g.memory; input = g.input }) ≡ state_datum k s
    by ValueKind state e = absurd state
    by Memory state e = absurd cc
    by Io state e = absurd cc

-- ---- what memory does with less defined values

nothing-kept : {A B : Type 0} (f : A → B) (test : Bool) → option_map f (cond test None None) ≡ None
nothing-kept f true = refl
nothing-kept f false = refl

store-bad : (width : ℕ) (a : Value) (m : Blocks) → store width a Bad m ≡ None
store-bad width (Num w) m = refl
store-bad width Bad m = refl
store-bad width (At b o) m = nothing-kept _ (takes_store width o (block_named b m))

module _ {A B : Type 0} (R : A → B → Type 0) where
  load-agrees : (width : ℕ) (m : Blocks) (v w : Value) → IsLessDefined v w → (next : Value → Answer A) (next' : Value → Answer B) →
      ((x : Value) → Agrees R (next x) (next' x)) →
      Agrees R (on_defined (load width v m) next) (on_defined (load width w m) next')
  load-agrees width m v w (inl e) next next' go = rw e (agrees-defined R (load width w m) next next' go)
  load-agrees width m v w (inr e) next next' go = rw e tt

  store-agrees : (width : ℕ) (m : Blocks) (v w v' w' : Value) → IsLessDefined v w → IsLessDefined v' w' → (next : Blocks → Answer A) (next' : Blocks → Answer B) →
      ((x : Blocks) → Agrees R (next x) (next' x)) → Agrees R (on_defined (store width v v' m) next) (on_defined (store width w w' m) next')
  store-agrees width m v w v' w' (inl e) (inl d) next next' go = rw (e, d) (agrees-defined R (store width w w' m) next next' go)
  store-agrees width m v w v' w' (inl e) (inr d) next next' go = rw (d, store-bad width v m) tt
  store-agrees width m v w v' w' (inr e) d next next' go = rw e tt

  pointers-agree : (m : Blocks) (v w v' w' : Value) → IsLessDefined v w → IsLessDefined v' w' → (next : ℕ → Answer A) (next' : ℕ → Answer B) →
      ((x : ℕ) → Agrees R (next x) (next' x)) →
      Agrees R (on_defined (pointers_equal v v' m) next) (on_defined (pointers_equal w w' m) next')
  pointers-agree m v w v' w' (inl e) (inl d) next next' go = rw (e, d) (agrees-defined R (pointers_equal w w' m) next next' go)
  pointers-agree m v w v' w' (inl e) (inr d) next next' go = rw d (by v)
    where
      by : (v : Value) → Agrees R (on_defined (pointers_equal v Bad m) next) (on_defined (pointers_equal w w' m) next')
      by (Num n) = tt
      by (At b o) = tt
      by Bad = tt
  pointers-agree m v w v' w' (inr e) d next next' go = rw e (by v')
    where
      by : (v' : Value) → Agrees R (on_defined (pointers_equal Bad v' m) next) (on_defined (pointers_equal w w' m) next')
      by (Num n) = tt
      by (At b o) = tt
      by Bad = tt

  clear-agrees : (a : Value) (m : Blocks) (next : Blocks → Answer A) (next' : Blocks → Answer B) → ((x : Blocks) → Agrees R (next x) (next' x)) →
      Agrees R (on_defined (cleared_at a m) next) (on_defined (cleared_at a m) next')
  clear-agrees (At b o) m next next' go = go _
  clear-agrees (Num n) m next next' go = tt
  clear-agrees Bad m next next' go = tt

-- ---- the ops

module _ (n : ℕ) (callees : ℕ → Call) (addresses : Addresses) (first next : ℕ) (s : State) where
  abbrev around : Context
  around = record { bound = n; call = callees; lost = none_lost; addresses = addresses }

  abbrev Done : List (Option Kind) → List Datum → State → Type 0
  Done kinds ys t = NodeDone next next kinds s ys t

  -- the op reads data of these kinds
  module _ (ks : List Kind) (us : List Datum) (xs : List ℕ) (h : Held first next ks us xs s) where
    less-at : (p : ℕ) → slice_get ks p ≡ Some ValueKind → IsLessDefined (value_at us p) (s.names (name_at xs p))
    less-at p e = tied-less first next (at_port us p) (name_at xs p) s (held-tied first next ks us xs s h p e)

    memory-at : (p : ℕ) → slice_get ks p ≡ Some Memory → at_port us p ≡ memory s.memory
    memory-at p e = held-state Memory tt first next ks us xs s h p e

    input-at : (p : ℕ) → slice_get ks p ≡ Some Io → at_port us p ≡ input s.input
    input-at p e = held-state Io tt first next ks us xs s h p e

  pub binary-agrees : (op : Op2) (us : List Datum) (xs : List ℕ) → Held first next (ValueKind ∷ ValueKind ∷ []) us xs s →
      Agrees (Done (Some ValueKind ∷ [])) (done addresses (Bin op) us) (instr_run around (op_instr (Bin op) next xs) s)
  binary-agrees op us xs h =
      let a = less-at (ValueKind ∷ ValueKind ∷ []) us xs h 0 refl in
      let b = less-at (ValueKind ∷ ValueKind ∷ []) us xs h 1 refl in
      let less = keeps_less_defined2 op (value_at us 0) (s.names (name_at xs 0)) (value_at us 1) (s.names (name_at xs 1)) a b in
      (given-done next s (value2 op (value_at us 0) (value_at us 1)) (value2 op (s.names (name_at xs 0)) (s.names (name_at xs 1))) less, refl)

  pub unary-agrees : (op : Op1) (us : List Datum) (xs : List ℕ) → Held first next (ValueKind ∷ []) us xs s →
      Agrees (Done (Some ValueKind ∷ [])) (done addresses (Un op) us) (instr_run around (op_instr (Un op) next xs) s)
  unary-agrees op us xs h =
      let less = keeps_less_defined1 op (value_at us 0) (s.names (name_at xs 0)) (less-at (ValueKind ∷ []) us xs h 0 refl) in
      (given-done next s (value1 op (value_at us 0)) (value1 op (s.names (name_at xs 0))) less, refl)

  pub load-op-agrees : (width : ℕ) (us : List Datum) (xs : List ℕ) → Held first next (ValueKind ∷ Memory ∷ []) us xs s →
      Agrees (Done (Some ValueKind ∷ [])) (done addresses (Load width) us) (instr_run around (op_instr (Load width) next xs) s)
  load-op-agrees width us xs h =
      rw (memory-at (ValueKind ∷ Memory ∷ []) us xs h 1 refl)
      (load-agrees (Done (Some ValueKind ∷ [])) width s.memory (value_at us 0) (s.names (name_at xs 0)) (less-at (ValueKind ∷ Memory ∷ []) us xs h 0 refl)
      given (gives s next)
      (λ v. (given-done next s v v (inl refl), refl)))

  pub store-op-agrees : (width : ℕ) (us : List Datum) (xs : List ℕ) → Held first next (ValueKind ∷ ValueKind ∷ Memory ∷ []) us xs s →
      Agrees (Done (Some Memory ∷ [])) (done addresses (Store width) us) (instr_run around (op_instr (Store width) next xs) s)
  store-op-agrees width us xs h =
      rw (memory-at (ValueKind ∷ ValueKind ∷ Memory ∷ []) us xs h 2 refl)
      (store-agrees (Done (Some Memory ∷ [])) width s.memory (value_at us 0) (s.names (name_at xs 0)) (value_at us 1) (s.names (name_at xs 1))
      (less-at (ValueKind ∷ ValueKind ∷ Memory ∷ []) us xs h 0 refl) (less-at (ValueKind ∷ ValueKind ∷ Memory ∷ []) us xs h 1 refl)
      given_memory (gives_memory s) (λ m. (memory-done next s m, refl)))

  pub clear-op-agrees : (k : ℕ) (us : List Datum) (xs : List ℕ) → Held first next (Memory ∷ []) us xs s →
      Agrees (Done (Some Memory ∷ [])) (done addresses (Clear k) us) (instr_run around (op_instr (Clear k) next xs) s)
  clear-op-agrees k us xs h =
      rw (memory-at (Memory ∷ []) us xs h 0 refl)
      (clear-agrees (Done (Some Memory ∷ [])) (addresses.local k) s.memory given_memory (gives_memory s) (λ m. (memory-done next s m, refl)))

  pub pointers-op-agree : (us : List Datum) (xs : List ℕ) → Held first next (ValueKind ∷ ValueKind ∷ Memory ∷ []) us xs s →
      Agrees (Done (Some ValueKind ∷ [])) (done addresses PtrEq us) (instr_run around (op_instr PtrEq next xs) s)
  pointers-op-agree us xs h =
      rw (memory-at (ValueKind ∷ ValueKind ∷ Memory ∷ []) us xs h 2 refl)
      (pointers-agree (Done (Some ValueKind ∷ [])) s.memory (value_at us 0) (s.names (name_at xs 0)) (value_at us 1) (s.names (name_at xs 1))
      (less-at (ValueKind ∷ ValueKind ∷ Memory ∷ []) us xs h 0 refl) (less-at (ValueKind ∷ ValueKind ∷ Memory ∷ []) us xs h 1 refl)
      (λ w. given (Num w)) (λ w. gives s next (Num w)) (λ w. (given-done next s (Num w) (Num w) (inl refl), refl)))

  pub put-agrees : (us : List Datum) (xs : List ℕ) → Held first next (ValueKind ∷ Io ∷ []) us xs s →
      Agrees (Done (Some Io ∷ [])) (done addresses Put us) (instr_run around (op_instr Put next xs) s)
  put-agrees us xs h =
      rw (input-at (ValueKind ∷ Io ∷ []) us xs h 1 refl)
      (agrees-number (Done (Some Io ∷ [])) (value_at us 0) (s.names (name_at xs 0)) (less-at (ValueKind ∷ Io ∷ []) us xs h 0 refl) _ _ (λ w. (input-done next s, refl)))

  pub exit-agrees : (us : List Datum) (xs : List ℕ) → Held first next (ValueKind ∷ Io ∷ []) us xs s →
      Agrees (Done (Some Io ∷ [])) (done addresses Exit us) (instr_run around (op_instr Exit next xs) s)
  exit-agrees us xs h =
      agrees-number (Done (Some Io ∷ [])) (value_at us 0) (s.names (name_at xs 0)) (less-at (ValueKind ∷ Io ∷ []) us xs h 0 refl) _ _ (λ w. (refl, refl))

  got-agrees : (i : List ℕ) → s.input ≡ i → Agrees (Done (Some ValueKind ∷ Some Io ∷ [])) (graph.got i) (linear.got s next i)
  got-agrees [] e = (
    subst (λ j. NodeDone next next (Some ValueKind ∷ Some Io ∷ []) s (val (Num (2 ^ 32 - 1)) ∷ input [] ∷ [])
        (record { names = written s.names next (Num (2 ^ 32 - 1)); memory = s.memory; input = j })) (sym e)
        (read-done next s (Num (2 ^ 32 - 1)) (Num (2 ^ 32 - 1)) [] (inl refl)),
    refl,
  )
  got-agrees (b ∷ i) e = (read-done next s (Num b) (Num b) i (inl refl), refl)

  pub get-agrees : (us : List Datum) (xs : List ℕ) → Held first next (Io ∷ []) us xs s →
      Agrees (Done (Some ValueKind ∷ Some Io ∷ [])) (done addresses Get us) (instr_run around (op_instr Get next xs) s)
  get-agrees us xs h = rw (input-at (Io ∷ []) us xs h 0 refl) (got-agrees s.input refl)

  pub constant-agrees : (v : Value) → Agrees (Done (Some ValueKind ∷ [])) (given v) (gives s next v)
  constant-agrees v = (given-done next s v v (inl refl), refl)

  pub word-agrees : (w : ℕ) (us : List Datum) (xs : List ℕ) →
      Agrees (Done (Some ValueKind ∷ [])) (done addresses (Const w) us) (instr_run around (op_instr (Const w) next xs) s)
  word-agrees w us xs =
      subst (λ v. Agrees (Done (Some ValueKind ∷ [])) (given (Num (w % 2 ^ 32))) (gives s next (Num v))) (sym (mod-mod w (2 ^ 32))) (constant-agrees (Num (w % 2 ^ 32)))

  -- ---- a call

  -- what a call takes, of which the names hold the values
  record Takes (us : List Datum) (xs : List ℕ) : Type 0 where
    values : List Value
    is : us ≡ taken values s.memory s.input
    less : AreLessDefined values (map s.names (without_states xs))

  without-first : (x : ℕ) (xs : List ℕ) → 2 ≤ length xs → without_states (x ∷ xs) ≡ x ∷ without_states xs
  without-first x [] h = absurd (omega (arith, h))
  without-first x (y ∷ []) h = absurd (omega (arith, h))
  without-first x (y ∷ z ∷ xs) h = refl

  call-length : (count : ℕ) (us : List Datum) (xs : List ℕ) → Held first next (replicate count ValueKind ++ Memory ∷ Io ∷ []) us xs s → 2 ≤ length xs
  call-length zero (d ∷ e ∷ []) (x ∷ y ∷ []) h = omega arith
  call-length (suc count) (d ∷ us) (x ∷ xs) h = let more = call-length count us xs h.1 in omega (arith, more)
  call-length zero [] xs h = absurd h
  call-length zero (d ∷ us) [] h = absurd h
  call-length zero (d ∷ []) (x ∷ xs) h = absurd h.1
  call-length zero (d ∷ e ∷ us) (x ∷ []) h = absurd h.1
  call-length zero (d ∷ e ∷ u ∷ us) (x ∷ y ∷ xs) h = absurd h.1.1
  call-length zero (d ∷ e ∷ []) (x ∷ y ∷ z ∷ xs) h = absurd h.1.1
  call-length (suc count) [] xs h = absurd h
  call-length (suc count) (d ∷ us) [] h = absurd h

  takes : (count : ℕ) (us : List Datum) (xs : List ℕ) → Held first next (replicate count ValueKind ++ Memory ∷ Io ∷ []) us xs s → Takes us xs
  takes zero (d ∷ e ∷ []) (x ∷ y ∷ []) h = record { values = []; is = ap₂ (λ a b. a ∷ b ∷ []) h.0 h.1.0; less = tt }
  takes (suc count) (d ∷ us) (x ∷ xs) h =
      let more = takes count us xs h.1 in
      record {
        values = h.0.value ∷ more.values;
        is = ap₂ (λ a b. a ∷ b) h.0.is more.is;
        less = subst (λ ys. AreLessDefined (h.0.value ∷ more.values) (map s.names ys)) (sym (without-first x xs (call-length count us xs h.1))) (h.0.less, more.less);
      }
  takes zero [] xs h = absurd h
  takes zero (d ∷ us) [] h = absurd h
  takes zero (d ∷ []) (x ∷ xs) h = absurd h.1
  takes zero (d ∷ e ∷ us) (x ∷ []) h = absurd h.1
  takes zero (d ∷ e ∷ u ∷ us) (x ∷ y ∷ xs) h = absurd h.1.1
  takes zero (d ∷ e ∷ []) (x ∷ y ∷ z ∷ xs) h = absurd h.1.1
  takes (suc count) [] xs h = absurd h
  takes (suc count) (d ∷ us) [] h = absurd h

  pub call-agrees : (call : ℕ → Meaning) → AllCallsAgree call callees → (f count : ℕ) (us : List Datum) (xs : List ℕ) →
      Held first next (replicate count ValueKind ++ Memory ∷ Io ∷ []) us xs s →
      Agrees (Done (Some ValueKind ∷ Some Memory ∷ Some Io ∷ [])) (call f us) (instr_run around (op_instr (Apply f) next xs) s)
  call-agrees call agree f count us xs h =
      let t = takes count us xs h in
      let ws = map s.names (without_states xs) in
      rw t.is (subst (λ a. Agrees (Done (Some ValueKind ∷ Some Memory ∷ Some Io ∷ [])) a (then_on (callees f ws s.memory s.input) (back_from none_lost s next)))
      (then_nothing (call f (taken t.values s.memory s.input)))
      (agrees-then GivesBack (Done (Some ValueKind ∷ Some Memory ∷ Some Io ∷ [])) (call f (taken t.values s.memory s.input)) (callees f ws s.memory s.input)
      (λ ys. Returned ys [])
      (back_from none_lost s next) (agree f t.values ws t.less s.memory s.input) back))
    where
      back : (ys : List Datum) (g : Given Value) → GivesBack ys g → Agrees (Done (Some ValueKind ∷ Some Memory ∷ Some Io ∷ [])) (Returned ys []) (back_from none_lost s next g)
      back ys g b = (rw b.is (back-done next s b.value g b.less), refl)
