-- What the code has of a lambda is listed as the lambda is.
use Rattle.std.proofs.Common.{◌≡◌, ℕ, ap, ◌∙◌, List}
use Rattle.g_graph.specs.Plain.{PlainObject, PlainLambda}
use Rattle.s_linear.specs.Frame.{PlainPlaces}
use Rattle.s_linear.specs.Lines.{Line}
use Rattle.a_place.specs.Places.{places}
use Rattle.cc_emit.specs.Image.{lines_of}
use Rattle.cc_listing.specs.Lines.{placed_text, function_text}

module _ (l : PlainLambda) (ls : List Line) (p : PlainPlaces) (os : List PlainObject) (is : ls ≡ lines_of l) (placed : p ≡ places ls) (are : os ≡ l.objects) where
  pub text_is : (names : List (List ℕ)) (name : List ℕ) (at : ℕ) (ws : List ℕ) → placed_text names name p os ls at ws ≡ function_text names name l at ws
  text_is names name at ws =
      ap (λ q. placed_text names name q os ls at ws) (placed ∙ ap places is)
      ∙ ap (λ o. placed_text names name (places (lines_of l)) o ls at ws) are
      ∙ ap (λ x. placed_text names name (places (lines_of l)) l.objects x at ws) is
