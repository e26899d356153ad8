-- The test of types is true exactly of equal ones.
use Rattle.std.proofs.Common.{◌≡◌, refl, ap, sym, ◌∙◌, subst}
use Rattle.std.specs.Prelude.{◌↔◌, ◌==◌, ◌&&◌, Bool, true, false, IsTrue}
use Rattle.std.proofs.lemmas.Bool.{false≢true, false_from_ne_true, and_parts, eqb-true, eq-eqb}
use Rattle.c_type.specs.declared.scalar.Scalar.{Scalar}
use Rattle.c_type.specs.declared.scalar.Scalar.TheVariants.{Char, SignedChar, UnsignedChar, Short, UnsignedShort, Int, UnsignedInt}
use Rattle.c_type.specs.Trees.{TypeTree, void_type, scalar_type, pointer_to, array_of, struct_type}
use Rattle.c_check_def.specs.Types.{same_scalar, same_type}

same_scalar-refl : (s : Scalar) → same_scalar s s ≡ true
same_scalar-refl Char = refl
same_scalar-refl SignedChar = refl
same_scalar-refl UnsignedChar = refl
same_scalar-refl Short = refl
same_scalar-refl UnsignedShort = refl
same_scalar-refl Int = refl
same_scalar-refl UnsignedInt = refl

same_scalar-true : (s t : Scalar) → same_scalar s t ≡ true → s ≡ t
same_scalar-true Char Char h = refl
same_scalar-true SignedChar SignedChar h = refl
same_scalar-true UnsignedChar UnsignedChar h = refl
same_scalar-true Short Short h = refl
same_scalar-true UnsignedShort UnsignedShort h = refl
same_scalar-true Int Int h = refl
same_scalar-true UnsignedInt UnsignedInt h = refl
same_scalar-true _ _ h = absurd (false≢true h)

pub same_type-refl : (t : TypeTree) → same_type t t ≡ true
same_type-refl void_type = refl
same_type-refl (scalar_type s) = same_scalar-refl s
same_type-refl (pointer_to t) = same_type-refl t
same_type-refl (array_of t n) = ap (λ b. b && same_type t t) (eq-eqb n n refl) ∙ same_type-refl t
same_type-refl (struct_type k) = eq-eqb k k refl

pub same_type-true : (s t : TypeTree) → same_type s t ≡ true → s ≡ t
same_type-true void_type void_type h = refl
same_type-true (scalar_type s) (scalar_type t) h = ap scalar_type (same_scalar-true s t h)
same_type-true (pointer_to s) (pointer_to t) h = ap pointer_to (same_type-true s t h)
same_type-true (array_of s m) (array_of t n) h =
    let parts = and_parts (m == n) (same_type s t) h in
    ap (λ u. array_of u m) (same_type-true s t parts.1) ∙ ap (array_of t) (eqb-true m n parts.0)
same_type-true (struct_type k) (struct_type l) h = ap struct_type (eqb-true k l h)
same_type-true _ _ h = absurd (false≢true h)

-- a test that tells equal types is this one
pub same_type-is : (b : Bool) (s t : TypeTree) → (IsTrue b ↔ (s ≡ t)) → b ≡ same_type s t
same_type-is true s t h = subst (λ u. true ≡ same_type s u) (h.0 refl) (sym (same_type-refl s))
same_type-is false s t h = sym (false_from_ne_true (same_type s t) (λ same. false≢true (h.1 (same_type-true s t same))))
