-- What holds of what there is.
use Rattle.std.proofs.Common.{◌≡◌, refl}
use Rattle.std.specs.Prelude.{Option, None, Some, option_map, option_and_then, Bool, true, false, if◌then◌else◌}
use Rattle.c_check_laws.specs.TypedOperands.{IfSome}

pub and_then_holds : {A B : Type 0} → (P : A → Type 0) (Q : B → Type 0) (f : A → Option B) (o : Option A) → IfSome P o → ((x : A) → P x → IfSome Q (f x)) → IfSome Q (option_and_then f o)
and_then_holds P Q f None h k = tt
and_then_holds P Q f (Some x) h k = k x h

pub map_holds : {A B : Type 0} → (P : A → Type 0) (Q : B → Type 0) (f : A → B) (o : Option A) → IfSome P o → ((x : A) → P x → Q (f x)) → IfSome Q (option_map f o)
map_holds P Q f None h k = tt
map_holds P Q f (Some x) h k = k x h

pub if_holds : {A : Type 0} → (P : A → Type 0) (t : Bool) (o : Option A) → (t ≡ true → IfSome P o) → IfSome P (if t then o else None)
if_holds P true o h = h refl
if_holds P false o h = tt
