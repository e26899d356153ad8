-- The graph of one function, from the lambda that is drawn.
use Rattle.std.proofs.Common.{◌≡◌, ℕ, List, [], Option, None, Some, Vec, Global, sym, subst}
use Rattle.std.specs.Prelude.{IfSome}
use Rattle.g_graph.specs.Plain.{PlainLambda}
use Rattle.r_rule.specs.Optimised.{PlainOptimised}
use Rattle.cc_view_source.specs.declared.arguments.Drawing.{Drawing}
use Rattle.cc_view_source.specs.Drawn.{function_named, AreAfter, AreOneShown, IsShown}

module _ (ls : List PlainLambda) (names : List (List ℕ)) (answers : List PlainOptimised) (name : List ℕ) (after : Option ℕ) (drawing : Drawing) (f : ℕ) (named : Some f ≡ function_named name names) where
  pub one_shown : (l : PlainLambda) → AreAfter ls answers f after l → (text : List ℕ) → IsShown drawing name l [] text → AreOneShown ls names answers name after drawing text
  one_shown l is text shown recipe are = record {
    there = record { function = f; named = sym named; answer = is.0; found = is.1; steps = is.2 };
    lambda = l;
    is = is.3 recipe are;
    shown = shown;
  }

  pub some_shown : (count : ℕ) → after ≡ Some count → (o : Option (Vec ℕ Global)) →
      IfSome o (λ text. (l : PlainLambda) × AreAfter ls answers f (Some count) l × IsShown drawing name l [] text.items) → IfSome o (λ text. AreOneShown ls names answers name after drawing text.items)
  some_shown count same (Some text) got = one_shown got.0 (subst (λ (k : Option ℕ). AreAfter ls answers f k got.0) (sym same) got.1) text.items got.2
  some_shown count same None got = tt
