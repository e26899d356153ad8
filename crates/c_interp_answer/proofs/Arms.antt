-- What is answered of an expression, by what was answered of its operands.
use Rattle.std.proofs.Common.{◌≡◌, ℕ, ◌==◌, not, Bool, true, false, refl, sym, ap, ap₂, ◌∙◌, subst}
use Rattle.std.specs.Prelude.{Option, None, Some}
use Rattle.val_core.specs.Words.{one_if}
use Rattle.val_core.specs.declared.values.Value.{Value}
use Rattle.val_core.specs.declared.values.Value.TheVariants.{Num}
use Rattle.c_type.specs.Trees.{TypeTree}
use Rattle.c_typed.specs.declared.operator.UnaryOp.TheVariants as unary_op
use Rattle.c_typed.specs.Typed.{ExprTree, expr, FormTree, address, unary, logical_and, logical_or, conditional, PlaceTree}
use Rattle.c_typed.specs.WellTyped.{type_of}
use Rattle.c_mean.specs.State.{State}
use Rattle.c_mean.specs.Expressions.{Context, given_word}
use Rattle.c_interp_answer.specs.Answered.{IsWord, IsValue, IsAddress, HasTruth, IsTruth, IsTruthWord}
use Rattle.c_interp_answer.proofs.Known.{address-given, not-given, and-true, and-false, or-true, or-false, chosen, not-chosen}

-- ---- an expression by its type and its form

abbrev pub form_in : ExprTree → FormTree
form_in (expr t f) = f

pub whole : (e : ExprTree) (t : TypeTree) (f : FormTree) → t ≡ type_of e → form_in e ≡ f → e ≡ expr t f
whole (expr u g) t f p q = ap₂ expr (sym p) q

module _ (c : Context) (s : State) (t : TypeTree) where
  -- ---- an address

  pub address-value : (p : PlaceTree) (r : Option Value) → IsAddress c p s r → IsValue c (expr t (address p)) s r
  address-value p None e = tt
  address-value p (Some a) e = address-given c s t p a e

  -- ---- operators

  pub not-word : (a : ExprTree) (d : Bool) → IsTruth c a s (Some d) → IsWord c (expr t (unary unary_op.LogicalNot a)) s (Some (one_if (not d)))
  not-word a d h = not-given c s t a d h

  pub and-word : (a b : ExprTree) (d : Bool) (r : Option ℕ) → d ≡ true → IsTruth c a s (Some d) → IsTruthWord c b s r → IsWord c (expr t (logical_and a b)) s r
  and-word a b d None is h g = tt
  and-word a b d (Some w) is h (q, e, g) = and-true c s t a b q (subst (HasTruth c a s) is h) g ∙ ap (given_word s) (sym e)

  pub and-none : (a b : ExprTree) (d : Bool) → d ≡ false → IsTruth c a s (Some d) → IsWord c (expr t (logical_and a b)) s (Some 0)
  and-none a b d is h = and-false c s t a b (subst (HasTruth c a s) is h)

  pub or-one : (a b : ExprTree) (d : Bool) → d ≡ true → IsTruth c a s (Some d) → IsWord c (expr t (logical_or a b)) s (Some 1)
  or-one a b d is h = or-true c s t a b (subst (HasTruth c a s) is h)

  pub or-word : (a b : ExprTree) (d : Bool) (r : Option ℕ) → d ≡ false → IsTruth c a s (Some d) → IsTruthWord c b s r → IsWord c (expr t (logical_or a b)) s r
  or-word a b d None is h g = tt
  or-word a b d (Some w) is h (q, e, g) = or-false c s t a b q (subst (HasTruth c a s) is h) g ∙ ap (given_word s) (sym e)

  pub chosen-word : (q a b : ExprTree) (d : Bool) (r : Option ℕ) → d ≡ true → IsTruth c q s (Some d) → IsWord c a s r → IsWord c (expr t (conditional q a b)) s r
  chosen-word q a b d None is h g = tt
  chosen-word q a b d (Some w) is h g = chosen c s t q a b (Num w) (subst (HasTruth c q s) is h) g

  pub other-word : (q a b : ExprTree) (d : Bool) (r : Option ℕ) → d ≡ false → IsTruth c q s (Some d) → IsWord c b s r → IsWord c (expr t (conditional q a b)) s r
  other-word q a b d None is h g = tt
  other-word q a b d (Some w) is h g = not-chosen c s t q a b (Num w) (subst (HasTruth c q s) is h) g

  pub chosen-value : (q a b : ExprTree) (d : Bool) (r : Option Value) → d ≡ true → IsTruth c q s (Some d) → IsValue c a s r → IsValue c (expr t (conditional q a b)) s r
  chosen-value q a b d None is h g = tt
  chosen-value q a b d (Some v) is h g = chosen c s t q a b v (subst (HasTruth c q s) is h) g

  pub other-value : (q a b : ExprTree) (d : Bool) (r : Option Value) → d ≡ false → IsTruth c q s (Some d) → IsValue c b s r → IsValue c (expr t (conditional q a b)) s r
  other-value q a b d None is h g = tt
  other-value q a b d (Some v) is h g = not-chosen c s t q a b v (subst (HasTruth c q s) is h) g

module _ (c : Context) (s : State) (e : ExprTree) where
  -- ---- truth

  pub word-truth : (w : ℕ) → IsWord c e s (Some w) → IsTruth c e s (Some (not (w == 0)))
  word-truth w is = (Num w, is, refl)
