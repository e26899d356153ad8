-- What tasks of operators do, by the values that they give.
use Rattle.std.proofs.Common.{◌≡◌, ℕ, Bool, true, false, if◌then◌else◌, ◌∷◌, refl, sym, ap}
use Rattle.std.specs.Prelude.{Option, None, Some, option_map, option_and_then, unwrap_or, slice_get, slice_set}
use Rattle.val_core.specs.declared.values.Value.{Value}
use Rattle.val_core.specs.declared.values.Value.TheVariants.{Num, At, Bad}
use Rattle.val_core.specs.Memory.{Memory, store}
use Rattle.val_core.specs.Answers.{Answer, then_on, on_defined}
use Rattle.val_core.proofs.lemmas.Answers.{then_associates}
use Rattle.c_type.specs.Trees.{TypeTree}
use Rattle.c_typed.specs.declared.operator.IncDec.{IncDec}
use Rattle.c_typed.specs.Typed.{ExprTree, ProgramTree}
use Rattle.c_typed.specs.WellTyped.{type_of}
use Rattle.c_typed.specs.Objects.{access_width}
use Rattle.c_mean.specs.State.{Slot, holds, object, gives, used, converted, extended}
use Rattle.c_mean.specs.State as state
use Rattle.c_mean.specs.Expressions.{Context, in_slot, at_address, slot_spot, address_of, slot_value, spot_read, spot_written, given_word, branched, expr_run}
use Rattle.c_mean.specs.Statements.{normal}
use Rattle.c_interp_store.specs.Operators.{used_value}
use Rattle.c_interp_def.specs.Configurations.{Configuration, Reached, reaches, state_of, gives_value, with_operands}
use Rattle.c_interp_def.specs.ExprTasks.{test}
use Rattle.c_interp_def.specs.StmtTasks.{of_expr, task_run}
use Rattle.c_interp.specs.Steps.{give_run, write_run, set_run, with_memory, with_frame_slots, bit_of, converted_value, old_of, slot_read, slot_address}

-- ---- a value that is given

pub given : (w : Option Value) (y : Configuration) → then_on (on_defined w (gives (state_of y))) (gives_value y) ≡ give_run w y
given None y = refl
given (Some w) y = refl

pub used-gives : (v : Value) (y : Configuration) → then_on (used v (gives (state_of y))) (gives_value y) ≡ give_run (used_value v) y
used-gives Bad y = refl
used-gives (Num w) y = refl
used-gives (At b o) y = refl

pub used-put : (v : Value) (y : Configuration) → used v (λ u. gives_value y (record { value = u; state = state_of y })) ≡ give_run (used_value v) y
used-put Bad y = refl
used-put (Num w) y = refl
used-put (At b o) y = refl

pub bit-gives : (d : Option Bool) (y : Configuration) →
    then_on (on_defined d (λ e. if e then given_word (state_of y) 1 else given_word (state_of y) 0)) (gives_value y) ≡ give_run (option_map bit_of d) y
bit-gives None y = refl
bit-gives (Some true) y = refl
bit-gives (Some false) y = refl

pub read-gives : (t : TypeTree) (o : Option Value) (y : Configuration) →
    then_on (on_defined o (λ v. used (extended t v) (gives (state_of y)))) (gives_value y) ≡ give_run (option_and_then (λ v. used_value (extended t v)) o) y
read-gives t None y = refl
read-gives t (Some v) y = used-gives (extended t v) y

-- ---- the right operand of `&&` and `||`

pub tested : (p : ProgramTree) (n : ℕ) (c : Context) (b : ExprTree) (y : Configuration) →
    then_on (expr_run c b (state_of y)) (λ r. then_on (branched (type_of b) r.value (given_word r.state 1) (given_word r.state 0)) (gives_value y))
    ≡ then_on (then_on (expr_run c b (state_of y)) (gives_value y)) (task_run p n (of_expr (test (type_of b))))
tested p n c b y = sym (then_associates (expr_run c b (state_of y)) (gives_value y) (task_run p n (of_expr (test (type_of b)))))

-- ---- a value that is written at an address

-- the memory with the value, which becomes an operand, or another one does
abbrev pub wrote_run : TypeTree → (address w given : Value) → Configuration → Answer Reached
wrote_run t a w g y = on_defined (store (access_width t) a w y.memory) (λ m. reaches normal (with_operands (with_memory y m) (g ∷ y.operands)))

stored-gives : (o : Option Memory) (w : Value) (y : Configuration) →
    then_on (on_defined o (λ m. gives (state.with_memory (state_of y) m) w)) (gives_value y) ≡ on_defined o (λ m. reaches normal (with_operands (with_memory y m) (w ∷ y.operands)))
stored-gives None w y = refl
stored-gives (Some m) w y = refl

pub written-gives : (t : TypeTree) (a w : Value) (y : Configuration) → then_on (spot_written t (at_address a) w (state_of y)) (gives_value y) ≡ wrote_run t a w w y
written-gives t a w y = stored-gives (store (access_width t) a w y.memory) w y

pub store-gives : (t : TypeTree) (a v : Value) (y : Configuration) →
    used v (λ w. then_on (spot_written t (at_address a) w (state_of y)) (gives_value y)) ≡ write_run t a (used_value v) None y
store-gives t a Bad y = refl
store-gives t a (Num w) y = written-gives t a (Num w) y
store-gives t a (At b o) y = written-gives t a (At b o) y

used-writes : (t : TypeTree) (a v : Value) (y : Configuration) →
    then_on (used v (λ z. spot_written t (at_address a) z (state_of y))) (gives_value y) ≡ write_run t a (used_value v) None y
used-writes t a Bad y = refl
used-writes t a (Num w) y = written-gives t a (Num w) y
used-writes t a (At b o) y = written-gives t a (At b o) y

pub compound-gives : (t : TypeTree) (a : Value) (o : Option Value) (y : Configuration) →
    then_on (on_defined o (λ w. used (converted t w) (λ z. spot_written t (at_address a) z (state_of y)))) (gives_value y) ≡ write_run t a (converted_value t o) None y
compound-gives t a None y = refl
compound-gives t a (Some w) y = used-writes t a (converted t w) y

-- what `++` or `--` gives
pub given-old : (i : IncDec) (old w : Value) → (if i.gives_old then old else w) ≡ unwrap_or (old_of i old) w
given-old i old w = elim i.gives_old as (λ b. (if b then old else w) ≡ unwrap_or (if b then Some old else None) w) [ true ↦ refl | false ↦ refl ]

stored-steps : (i : IncDec) (old : Value) (o : Option Memory) (w : Value) (y : Configuration) →
    then_on (then_on (on_defined o (λ m. gives (state.with_memory (state_of y) m) w)) (λ z. gives z.state (if i.gives_old then old else w))) (gives_value y)
    ≡ on_defined o (λ m. reaches normal (with_operands (with_memory y m) (unwrap_or (old_of i old) w ∷ y.operands)))
stored-steps i old None w y = refl
stored-steps i old (Some m) w y = ap (λ v. reaches normal (with_operands (with_memory y m) (v ∷ y.operands))) (given-old i old w)

used-steps : (i : IncDec) (t : TypeTree) (a old v : Value) (y : Configuration) →
    then_on (used v (λ w. then_on (spot_written t (at_address a) w (state_of y)) (λ z. gives z.state (if i.gives_old then old else w)))) (gives_value y)
    ≡ write_run t a (used_value v) (old_of i old) y
used-steps i t a old Bad y = refl
used-steps i t a old (Num w) y = stored-steps i old (store (access_width t) a (Num w) y.memory) (Num w) y
used-steps i t a old (At b o) y = stored-steps i old (store (access_width t) a (At b o) y.memory) (At b o) y

pub step-gives : (i : IncDec) (t : TypeTree) (a old : Value) (o : Option Value) (y : Configuration) →
    then_on (on_defined o (λ v. used (converted t v) (λ w. then_on (spot_written t (at_address a) w (state_of y)) (λ z. gives z.state (if i.gives_old then old else w))))) (gives_value y)
    ≡ write_run t a (converted_value t o) (old_of i old) y
step-gives i t a old None y = refl
step-gives i t a old (Some v) y = used-steps i t a old (converted t v) y

-- ---- variables that hold a value

abbrev set_in : (slot : ℕ) → Value → Configuration → Configuration
set_in k w y = with_frame_slots y (slice_set y.frame.slots k (holds w))

pub slot-gives : (t : TypeTree) (k : ℕ) (y : Configuration) → then_on (spot_read t (in_slot k) (state_of y)) (gives_value y) ≡ give_run (slot_read (slice_get y.frame.slots k)) y
slot-gives t k y =
    elim (slice_get y.frame.slots k) as (λ o. then_on (used (slot_value o) (gives (state_of y))) (gives_value y) ≡ give_run (slot_read o) y) [
      | None ↦ refl
      | Some s ↦ elim s as (λ q. then_on (used (slot_value (Some q)) (gives (state_of y))) (gives_value y) ≡ give_run (slot_read (Some q)) y) [ holds v ↦ used-gives v y | object j ↦ refl ]
    ]

pub set-gives : (t : TypeTree) (k : ℕ) (v : Value) (y : Configuration) →
    used v (λ w. then_on (spot_written t (in_slot k) w (state_of y)) (gives_value y)) ≡ set_run k (used_value v) None y
set-gives t k Bad y = refl
set-gives t k (Num w) y = refl
set-gives t k (At b o) y = refl

used-sets : (t : TypeTree) (k : ℕ) (v : Value) (y : Configuration) →
    then_on (used v (λ z. spot_written t (in_slot k) z (state_of y))) (gives_value y) ≡ set_run k (used_value v) None y
used-sets t k Bad y = refl
used-sets t k (Num w) y = refl
used-sets t k (At b o) y = refl

pub compound-sets : (t : TypeTree) (k : ℕ) (o : Option Value) (y : Configuration) →
    then_on (on_defined o (λ w. used (converted t w) (λ z. spot_written t (in_slot k) z (state_of y)))) (gives_value y) ≡ set_run k (converted_value t o) None y
compound-sets t k None y = refl
compound-sets t k (Some w) y = used-sets t k (converted t w) y

set-steps : (i : IncDec) (t : TypeTree) (k : ℕ) (old v : Value) (y : Configuration) →
    then_on (used v (λ w. then_on (spot_written t (in_slot k) w (state_of y)) (λ z. gives z.state (if i.gives_old then old else w)))) (gives_value y)
    ≡ set_run k (used_value v) (old_of i old) y
set-steps i t k old Bad y = refl
set-steps i t k old (Num w) y = ap (λ v. reaches normal (with_operands (set_in k (Num w) y) (v ∷ y.operands))) (given-old i old (Num w))
set-steps i t k old (At b o) y = ap (λ v. reaches normal (with_operands (set_in k (At b o) y) (v ∷ y.operands))) (given-old i old (At b o))

pub step-sets : (i : IncDec) (t : TypeTree) (k : ℕ) (old : Value) (o : Option Value) (y : Configuration) →
    then_on (on_defined o (λ v. used (converted t v) (λ w. then_on (spot_written t (in_slot k) w (state_of y)) (λ z. gives z.state (if i.gives_old then old else w))))) (gives_value y)
    ≡ set_run k (converted_value t o) (old_of i old) y
step-sets i t k old None y = refl
step-sets i t k old (Some v) y = set-steps i t k old (converted t v) y

pub address-gives : (c : Context) (k : ℕ) (o : Option Slot) (y : Configuration) →
    then_on (slot_spot c k o (state_of y)) (λ r. then_on (address_of r.spot r.state) (gives_value y)) ≡ give_run (slot_address c.addresses.local o) y
address-gives c k None y = refl
address-gives c k (Some (holds v)) y = refl
address-gives c k (Some (object j)) y = refl
