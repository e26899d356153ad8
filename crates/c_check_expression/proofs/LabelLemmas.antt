-- Labels, step by step.
use Rattle.std.proofs.Common.{◌≡◌, ℕ, Bool, Option, Some, sym, ap, ◌∙◌}
use Rattle.std.specs.Prelude.{◌==◌, Result, Ok, Err, OnOk}
use Rattle.std.specs.List.{list_any}
use Rattle.c_ast.specs.Tree.{Tree}
use Rattle.c_check_def.specs.declared.refusal_kind.RefusalKind.TheVariants.{BadLabel}
use Rattle.c_check_def.specs.State.{State, breaks_if, after}
use Rattle.c_check_def.specs.Statements.{Labels, next_group, case_label, label, more_labels}
use Rattle.c_check_expression.specs.Labels.{group_labels}

pub on_ok : {X E : Type 0} (r : Result X E) (P : Type 0) → P → OnOk r P
on_ok (Ok a) P p = p
on_ok (Err e) P p = tt

pub case-some : (x : Labels) (offset w : ℕ) (o : Option ℕ) (b : Bool) (s t : State) → o ≡ Some w → b ≡ list_any (λ v. v == w) x.words
    → t ≡ (breaks_if b BadLabel offset s).1 → t ≡ (case_label x offset o s).1
case-some x offset w o b s t some is made = made ∙ ap (λ c. (breaks_if c BadLabel offset s).1) is ∙ ap (λ p. (case_label x offset p s).1) (sym some)

pub group-begun : (x begun y : Labels) (first more : Tree) (s t : State) → begun ≡ next_group x → y ≡ (label begun first s).0 → t ≡ (label begun first s).1
    → more_labels y more t ≡ group_labels x first more s
group-begun x begun y first more s t is value state =
    ap (λ z. more_labels z more t) value ∙ ap (more_labels (label begun first s).0 more) state ∙ ap (λ z. after (label z first s) (λ y. more_labels y more)) is
