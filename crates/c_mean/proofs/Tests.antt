-- What the outcome of a test tells of an optional value.
use Rattle.std.specs.Prelude.{◌≡◌, ℕ, ◌≤◌, ◌<◌, ◌&&◌, nat_le, nat_lt, Bool, true, false, if◌then◌else◌, Some, None, IsSome}
use Rattle.std.proofs.Common.{refl, arith}
use Rattle.std.proofs.lemmas.Bool.Decides.{nat_tests}

pub is-not : {B : Type 0} → false ≡ true → B
is-not e = absurd cc

pub none-some : {A B : Type 0} {x : A} → None ≡ Some x → B
none-some e = absurd cc

pub some-same : {A : Type 0} {x y : A} → Some x ≡ Some y → y ≡ x
some-same e = cc

pub both : (a b : Bool) → (a && b) ≡ true → (a ≡ true) × (b ≡ true)
both true b e = (refl, e)
both false b e = is-not e

pub and : {a b : Bool} → a ≡ true → b ≡ true → (a && b) ≡ true
and p q = rw p q

-- there is a value exactly where the test holds
pub holds-where-some : {A : Type 0} (t : Bool) (x : A) → IsSome (if t then Some x else None) → t ≡ true
holds-where-some true x e = refl
holds-where-some false x e = is-not e

pub some-where-holds : {A : Type 0} {t : Bool} (x : A) → t ≡ true → IsSome (if t then Some x else None)
some-where-holds x e = rw e refl

pub is-below : (a b : ℕ) → nat_lt a b ≡ true → a < b
is-below a b e = grind (arith, nat_tests)

pub tests-below : (a b : ℕ) → a < b → nat_lt a b ≡ true
tests-below a b h = grind (arith, nat_tests)

pub is-within : (a b : ℕ) → nat_le a b ≡ true → a ≤ b
is-within a b e = grind (arith, nat_tests)

pub tests-within : (a b : ℕ) → a ≤ b → nat_le a b ≡ true
tests-within a b h = grind (arith, nat_tests)
