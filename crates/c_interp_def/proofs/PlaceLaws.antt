-- A place is a value variable, or what follows on it follows on its address.
use Rattle.std.proofs.Common.{◌≡◌, ℕ, Option, None, Some, refl, sym, ap, ◌∙◌}
use Rattle.val_core.specs.declared.values.Value.{Value}
use Rattle.val_core.specs.declared.values.Value.TheVariants.{Num, At, Bad}
use Rattle.val_core.specs.Answers.{Answer, then_on, on_defined}
use Rattle.val_core.proofs.lemmas.Answers.{then_associates}
use Rattle.c_typed.specs.Typed.{PlaceTree, place, local, global, at, member}
use Rattle.c_mean.specs.State.{Slot, holds, object, State, Valued, used, member_address}
use Rattle.c_mean.specs.Expressions.{Context, Spot, in_slot, at_address, Located, found, slot_get, slot_spot, address_of, member_spot, expr_run, place_run}
use Rattle.c_interp_def.specs.ExprTasks.{holds_value, value_slot, address_run}
use Rattle.c_interp_def.proofs.Steps.{on}

slot-found : (c : Context) (j k : ℕ) (o : Option Slot) (s : State) → holds_value j o ≡ Some k → slot_spot c j o s ≡ found s (in_slot k)
slot-found c j k None s e = cc
slot-found c j k (Some (holds v)) s e = let same : j ≡ k = cc in ap (λ i. found s (in_slot i)) same
slot-found c j k (Some (object n)) s e = cc

-- a value variable
pub in-slot : (c : Context) (q : PlaceTree) (k : ℕ) (s : State) → value_slot s.slots q ≡ Some k → place_run c q s ≡ found s (in_slot k)
in-slot c (place t (local j)) k s e = slot-found c j k (slot_get s j) s e
in-slot c (place t (global j)) k s e = cc
in-slot c (place t (at p)) k s e = cc
in-slot c (place t (member q o)) k s e = cc

-- what follows on a place that stands at an address
abbrev pub at_value : {B : Type 0} → (Located → Answer B) → Value → State → Answer B
at_value next a s = next (record { spot = at_address a; state = s })

abbrev addressed : Located → Answer Valued
addressed x = address_of x.spot x.state

slot-at : {B : Type 0} (c : Context) (j : ℕ) (o : Option Slot) (s : State) (next : Located → Answer B) → holds_value j o ≡ None → then_on (slot_spot c j o s) next
    ≡ then_on (then_on (slot_spot c j o s) addressed) (λ r. at_value next r.value r.state)
slot-at c j None s next e = refl
slot-at c j (Some (holds v)) s next e = cc
slot-at c j (Some (object n)) s next e = refl

used-at : {B : Type 0} (v : Value) (s : State) (next : Located → Answer B) → then_on (used v (λ a. found s (at_address a))) next
    ≡ then_on (then_on (used v (λ a. found s (at_address a))) addressed) (λ r. at_value next r.value r.state)
used-at (Num w) s next = refl
used-at (At b o) s next = refl
used-at Bad s next = refl

defined-at : {B : Type 0} (v : Option Value) (s : State) (next : Located → Answer B) → then_on (on_defined v (λ a. found s (at_address a))) next
    ≡ then_on (then_on (on_defined v (λ a. found s (at_address a))) addressed) (λ r. at_value next r.value r.state)
defined-at None s next = refl
defined-at (Some v) s next = refl

member-at : {B : Type 0} (p : Spot) (o : ℕ) (s : State) (next : Located → Answer B) → then_on (member_spot p o s) next
    ≡ then_on (then_on (member_spot p o s) addressed) (λ r. at_value next r.value r.state)
member-at (in_slot k) o s next = refl
member-at (at_address a) o s next = defined-at (member_address a o s.memory) s next

-- where each result is such a place
through : {A B : Type 0} (a : Answer A) (f : A → Answer Located) (next : Located → Answer B) →
    ((x : A) → then_on (f x) next ≡ then_on (then_on (f x) addressed) (λ r. at_value next r.value r.state)) → then_on (then_on a f) next
    ≡ then_on (then_on (then_on a f) addressed) (λ r. at_value next r.value r.state)
through a f next h =
    then_associates a f next ∙ on a (λ x. then_on (f x) next) (λ x. then_on (then_on (f x) addressed) (λ r. at_value next r.value r.state)) h
    ∙ sym (then_associates a (λ x. then_on (f x) addressed) (λ r. at_value next r.value r.state)) ∙ sym (ap (λ b. then_on b (λ r. at_value next r.value r.state)) (then_associates a f addressed))

pub at-address : {B : Type 0} (c : Context) (q : PlaceTree) (s : State) (next : Located → Answer B) → value_slot s.slots q ≡ None → then_on (place_run c q s) next
    ≡ then_on (address_run c q s) (λ r. at_value next r.value r.state)
at-address c (place t (local j)) s next e = slot-at c j (slot_get s j) s next e
at-address c (place t (global j)) s next e = refl
at-address c (place t (at p)) s next e = through (expr_run c p s) (λ x. used x.value (λ a. found x.state (at_address a))) next (λ x. used-at x.value x.state next)
at-address c (place t (member q o)) s next e = through (place_run c q s) (λ x. member_spot x.spot o x.state) next (λ x. member-at x.spot o x.state next)
