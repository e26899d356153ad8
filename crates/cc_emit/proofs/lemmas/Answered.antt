-- The items of answers, one after the other.
use Rattle.std.proofs.Common.{◌≡◌, ℕ, ◌+◌, ◌<◌, refl, sym, ap, ap₂, ◌∙◌, List, [], ◌∷◌, ◌++◌, map, take, length, get_or, Some, option_map, Vec}
use Rattle.std.proofs.lemmas.List.{map-append, take_more}
use Rattle.std.proofs.lemmas.Option.{slice_get-map, slice_get_read}
use Rattle.std.specs.Prelude.{slice_get}
use Rattle.r_rule.specs.Optimised.{PlainOptimised}
use Rattle.s_linear.specs.declared.frame.CodeForm.{CodeForm}
use Rattle.rv_layout.specs.declared.item.Item.{Item}
use Rattle.rv_layout.specs.Layout.{item_lists}
use Rattle.cc_emit.specs.Image.{function_items, lambdas_of}

module _ (form : CodeForm) {X : Type 0} (read : X → PlainOptimised) where
  abbrev items_to : List X → List (List Item)
  items_to ys = map (function_items form) (lambdas_of (map read ys))

  items_to-append : (ys zs : List X) → items_to (ys ++ zs) ≡ items_to ys ++ items_to zs
  items_to-append ys zs =
      ap (λ l. map (function_items form) (lambdas_of l)) (map-append read ys zs)
      ∙ ap (map (function_items form)) (map-append (λ (o : PlainOptimised). o.lambda) (map read ys) (map read zs))
      ∙ map-append (function_items form) (lambdas_of (map read ys)) (lambdas_of (map read zs))

  module _ (xs : List X) (i : ℕ) (a : X) (within : i < length xs) (is : a ≡ get_or xs i a) where
    pub answer_at : slice_get (lambdas_of (map read xs)) i ≡ Some (read a).lambda
    answer_at =
        slice_get-map (λ (o : PlainOptimised). o.lambda) (map read xs) i
        ∙ ap (option_map (λ (o : PlainOptimised). o.lambda)) (slice_get-map read xs i ∙ ap (option_map read) (slice_get_read xs (length xs) i a refl within is))

    pub items_more : {Z : Type 0} (all new : List (Vec Item Z)) (v : Vec Item Z) → item_lists all ≡ items_to (take i xs) → v.items ≡ function_items form (read a).lambda
        → new ≡ all ++ v ∷ [] → item_lists new ≡ items_to (take (i + 1) xs)
    items_more {Z} all new v before one pushed =
        ap item_lists pushed ∙ map-append (λ (f : Vec Item Z). f.items) all (v ∷ []) ∙ ap₂ (λ p q. p ++ q ∷ []) before one
        ∙ sym (ap items_to (take_more xs i a within ∙ ap (λ x. take i xs ++ x ∷ []) (sym is)) ∙ items_to-append (take i xs) (a ∷ []))
