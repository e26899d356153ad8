-- The expressions of a greater bound extend those of a lesser one.
use Rattle.std.proofs.Common.{ℕ, List, refl}
use Rattle.val_core.specs.declared.values.Value.{Value}
use Rattle.val_core.specs.Memory.{Memory}
use Rattle.val_core.specs.Objects.{Addresses}
use Rattle.c_type.specs.Trees.{TypeTree}
use Rattle.c_typed.specs.Typed.{ExprTree, expr, FormTree, constant, read, address, unary, binary, logical_and, logical_or, conditional, comma, assign, compound, inc_dec, call, get, ExprTrees, no_exprs, expr_then, PlaceTree, place, PlaceFormTree, local, global, at, member}
use Rattle.c_typed.specs.WellTyped.{type_of}
use Rattle.c_mean.specs.State.{State}
use Rattle.c_mean.specs.Expressions.{Call, Context, given_word, expr_run, form_run, dropped_run, arguments_run, place_run, place_form_run}
use Rattle.c_mean.specs.RunLaws.{Extends}
use Rattle.c_mean.proofs.Extends.{extends-itself, extends-then, extends-used, extends-branched}

module _ (n m : ℕ) (calls calls' : ℕ → Call) (addresses : Addresses)
    (more : (f : ℕ) (vs : List Value) (k : Memory) (i : List ℕ) → Extends (calls f vs k i) (calls' f vs k i)) where
  abbrev c : Context
  c = record { bound = n; calls = calls; addresses = addresses }

  abbrev d : Context
  d = record { bound = m; calls = calls'; addresses = addresses }

  mutual
    pub expr-extends : (e : ExprTree) (s : State) → Extends (expr_run c e s) (expr_run d e s)
    expr-extends (expr t f) s = form-extends t f s

    form-extends : (t : TypeTree) (f : FormTree) (s : State) → Extends (form_run c t f s) (form_run d t f s)
    form-extends t (constant w) s = refl
    form-extends t (read p) s = extends-then _ _ _ _ (place-extends p s) (λ x. extends-itself _)
    form-extends t (address p) s = extends-then _ _ _ _ (place-extends p s) (λ x. extends-itself _)
    form-extends t (unary o e) s = extends-then _ _ _ _ (expr-extends e s) (λ x. extends-itself _)
    form-extends t (binary o a b) s = extends-then _ _ _ _ (expr-extends a s) (λ x. extends-then _ _ _ _ (expr-extends b x.state) (λ y. extends-itself _))
    form-extends t (logical_and a b) s =
        extends-then _ _ _ _ (expr-extends a s) (λ x.
        extends-branched (type_of a) x.value _ (given_word x.state 0) _ (given_word x.state 0) (extends-then _ _ _ _ (expr-extends b x.state) (λ y. extends-itself _)) refl)
    form-extends t (logical_or a b) s =
        extends-then _ _ _ _ (expr-extends a s) (λ x.
        extends-branched (type_of a) x.value (given_word x.state 1) _ (given_word x.state 1) _ refl (extends-then _ _ _ _ (expr-extends b x.state) (λ y. extends-itself _)))
    form-extends t (conditional e a b) s =
        extends-then _ _ _ _ (expr-extends e s) (λ x. extends-branched (type_of e) x.value _ _ _ _ (expr-extends a x.state) (expr-extends b x.state))
    form-extends t (comma es e) s = extends-then _ _ _ _ (dropped-extends es s) (λ x. expr-extends e x)
    form-extends t (assign p e) s = extends-then _ _ _ _ (place-extends p s) (λ x. extends-then _ _ _ _ (expr-extends e x.state) (λ y. extends-itself _))
    form-extends t (compound o p e) s =
        extends-then _ _ _ _ (place-extends p s) (λ x.
        extends-then _ _ _ _ (extends-itself _) (λ old.
        extends-then _ _ _ _ (expr-extends e old.state) (λ y. extends-itself _)))
    form-extends t (inc_dec i p) s = extends-then _ _ _ _ (place-extends p s) (λ x. extends-itself _)
    form-extends t (call f es) s =
        extends-then _ _ _ _ (arguments-extend es s) (λ x. extends-then _ _ _ _ (more f x.values x.state.memory x.state.input) (λ g. refl))
    form-extends t get s = extends-itself _

    dropped-extends : (es : ExprTrees) (s : State) → Extends (dropped_run c es s) (dropped_run d es s)
    dropped-extends no_exprs s = refl
    dropped-extends (expr_then e es) s = extends-then _ _ _ _ (expr-extends e s) (λ x. dropped-extends es x.state)

    arguments-extend : (es : ExprTrees) (s : State) → Extends (arguments_run c es s) (arguments_run d es s)
    arguments-extend no_exprs s = refl
    arguments-extend (expr_then e es) s =
        extends-then _ _ _ _ (expr-extends e s) (λ x.
        extends-used _ _ _ (λ v. extends-then _ _ _ _ (arguments-extend es x.state) (λ y. refl)))

    place-extends : (p : PlaceTree) (s : State) → Extends (place_run c p s) (place_run d p s)
    place-extends (place t f) s = place-form-extends f s

    place-form-extends : (p : PlaceFormTree) (s : State) → Extends (place_form_run c p s) (place_form_run d p s)
    place-form-extends (local k) s = extends-itself _
    place-form-extends (global k) s = refl
    place-form-extends (at e) s = extends-then _ _ _ _ (expr-extends e s) (λ x. extends-itself _)
    place-form-extends (member p o) s = extends-then _ _ _ _ (place-extends p s) (λ x. extends-itself _)
