-- What an expression gives, by what its operands give.
use Rattle.std.proofs.Common.{◌≡◌, not, Bool, true, false, if◌then◌else◌, refl, ap, ◌∙◌}
use Rattle.std.specs.Prelude.{Some}
use Rattle.val_core.specs.Words.{one_if}
use Rattle.val_core.specs.declared.values.Value.{Value}
use Rattle.val_core.specs.Answers.{Answer, then_on, on_defined}
use Rattle.c_type.specs.Trees.{TypeTree}
use Rattle.c_typed.specs.declared.operator.UnaryOp.TheVariants as unary_op
use Rattle.c_typed.specs.Typed.{ExprTree, expr, address, unary, logical_and, logical_or, conditional, PlaceTree, place}
use Rattle.c_typed.specs.WellTyped.{type_of}
use Rattle.c_mean.specs.State.{State, Valued, gives, truth}
use Rattle.c_mean.specs.Expressions.{Context, at_address, found, address_of, given_word, unary_done, branched, expr_run, place_run}
use Rattle.c_interp_answer.specs.Answered.{HasTruth}

module _ (c : Context) (s : State) (t : TypeTree) where
  pub address-given : (p : PlaceTree) (a : Value) → place_run c p s ≡ found s (at_address a) → expr_run c (expr t (address p)) s ≡ gives s a
  address-given (place u f) a e = ap (λ q. then_on q (λ x. address_of x.spot x.state)) e

  -- ---- operators

  -- a condition of this truth decides
  by-truth : {A : Type 0} (u : TypeTree) (v : Value) (d : Bool) (a b : Answer A) → truth u v ≡ Some d → branched u v a b ≡ (if d then a else b)
  by-truth u v d a b h = ap (λ o. on_defined o (λ x. if x then a else b)) h

  pub not-given : (a : ExprTree) (d : Bool) → HasTruth c a s d → expr_run c (expr t (unary unary_op.LogicalNot a)) s ≡ given_word s (one_if (not d))
  not-given a d (v, e, h) =
      ap (λ q. then_on q (λ y. unary_done unary_op.LogicalNot t (type_of a) y.value y.state)) e
      ∙ ap (λ o. on_defined o (λ b. given_word s (one_if (not b)))) h

  abbrev tested : ExprTree → State → Answer Valued
  tested b z = then_on (expr_run c b z) (λ y. branched (type_of b) y.value (given_word y.state 1) (given_word y.state 0))

  bit : (d : Bool) → (if d then given_word s 1 else given_word s 0) ≡ given_word s (one_if d)
  bit true = refl
  bit false = refl

  tested-gives : (b : ExprTree) (d : Bool) → HasTruth c b s d → tested b s ≡ given_word s (one_if d)
  tested-gives b d (v, e, h) =
      ap (λ q. then_on q (λ y. branched (type_of b) y.value (given_word y.state 1) (given_word y.state 0))) e
      ∙ by-truth (type_of b) v d (given_word s 1) (given_word s 0) h
      ∙ bit d

  pub and-true : (a b : ExprTree) (d : Bool) → HasTruth c a s true → HasTruth c b s d → expr_run c (expr t (logical_and a b)) s ≡ given_word s (one_if d)
  and-true a b d (v, e, h) g =
      ap (λ q. then_on q (λ x. branched (type_of a) x.value (tested b x.state) (given_word x.state 0))) e
      ∙ by-truth (type_of a) v true (tested b s) (given_word s 0) h
      ∙ tested-gives b d g

  pub and-false : (a b : ExprTree) → HasTruth c a s false → expr_run c (expr t (logical_and a b)) s ≡ given_word s 0
  and-false a b (v, e, h) =
      ap (λ q. then_on q (λ x. branched (type_of a) x.value (tested b x.state) (given_word x.state 0))) e
      ∙ by-truth (type_of a) v false (tested b s) (given_word s 0) h

  pub or-true : (a b : ExprTree) → HasTruth c a s true → expr_run c (expr t (logical_or a b)) s ≡ given_word s 1
  or-true a b (v, e, h) =
      ap (λ q. then_on q (λ x. branched (type_of a) x.value (given_word x.state 1) (tested b x.state))) e
      ∙ by-truth (type_of a) v true (given_word s 1) (tested b s) h

  pub or-false : (a b : ExprTree) (d : Bool) → HasTruth c a s false → HasTruth c b s d → expr_run c (expr t (logical_or a b)) s ≡ given_word s (one_if d)
  or-false a b d (v, e, h) g =
      ap (λ q. then_on q (λ x. branched (type_of a) x.value (given_word x.state 1) (tested b x.state))) e
      ∙ by-truth (type_of a) v false (given_word s 1) (tested b s) h
      ∙ tested-gives b d g

  pub chosen : (d a b : ExprTree) (v : Value) → HasTruth c d s true → expr_run c a s ≡ gives s v → expr_run c (expr t (conditional d a b)) s ≡ gives s v
  chosen d a b w (v, e, h) g =
      ap (λ q. then_on q (λ x. branched (type_of d) x.value (expr_run c a x.state) (expr_run c b x.state))) e
      ∙ by-truth (type_of d) v true (expr_run c a s) (expr_run c b s) h
      ∙ g

  pub not-chosen : (d a b : ExprTree) (v : Value) → HasTruth c d s false → expr_run c b s ≡ gives s v → expr_run c (expr t (conditional d a b)) s ≡ gives s v
  not-chosen d a b w (v, e, h) g =
      ap (λ q. then_on q (λ x. branched (type_of d) x.value (expr_run c a x.state) (expr_run c b x.state))) e
      ∙ by-truth (type_of d) v false (expr_run c a s) (expr_run c b s) h
      ∙ g
