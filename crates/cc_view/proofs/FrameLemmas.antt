-- The frames of answers, and their lambdas, one after the other.
use Rattle.std.proofs.Common.{◌≡◌, ℕ, ◌+◌, ◌<◌, refl, sym, ap, ◌∙◌, List, [], ◌∷◌, ◌++◌, map, take, length, get_or, Some, option_map}
use Rattle.std.proofs.lemmas.List.{map-append, take_more}
use Rattle.std.proofs.lemmas.Option.{slice_get-map, slice_get_read}
use Rattle.std.specs.Prelude.{slice_get}
use Rattle.g_graph.specs.Plain.{PlainLambda, PlainObject}
use Rattle.r_rule.specs.Optimised.{PlainOptimised}
use Rattle.s_linear.specs.Frame.{PlainPlaces, frame_size}
use Rattle.s_linear.specs.Lines.{Line}
use Rattle.s_linear.specs.declared.frame.CodeForm.TheVariants.{Plain}
use Rattle.a_place.specs.Places.{places}
use Rattle.cc_emit.specs.Image.{frame_of, lambdas_of, lines_of}

-- the size of the frame of a lambda, by its lines, their places and its objects
pub frame-is : (l : PlainLambda) (ls : List Line) (p : PlainPlaces) (os : List PlainObject) → ls ≡ lines_of l → p ≡ places ls → os ≡ l.objects → frame_size p.count os ≡ frame_of Plain l
frame-is l ls p os is placed are =
    ap (λ (q : PlainPlaces). frame_size q.count os) (placed ∙ ap places is) ∙ ap (λ o. frame_size (places (lines_of l)).count o) are

module _ {X : Type 0} (read : X → PlainOptimised) where
  lambdas-append : (ys zs : List X) → lambdas_of (map read (ys ++ zs)) ≡ lambdas_of (map read ys) ++ lambdas_of (map read zs)
  lambdas-append ys zs = ap lambdas_of (map-append read ys zs) ∙ map-append (λ (o : PlainOptimised). o.lambda) (map read ys) (map read zs)

  module _ (xs : List X) (i : ℕ) (a : X) (within : i < length xs) (is : a ≡ get_or xs i a) where
    pub answer_at : slice_get (lambdas_of (map read xs)) i ≡ Some (read a).lambda
    answer_at =
        slice_get-map (λ (o : PlainOptimised). o.lambda) (map read xs) i
        ∙ ap (option_map (λ (o : PlainOptimised). o.lambda)) (slice_get-map read xs i ∙ ap (option_map read) (slice_get_read xs (length xs) i a refl within is))

    pub lambdas-more : lambdas_of (map read (take (i + 1) xs)) ≡ lambdas_of (map read (take i xs)) ++ (read a).lambda ∷ []
    lambdas-more = ap (λ ys. lambdas_of (map read ys)) (take_more xs i a within ∙ ap (λ x. take i xs ++ x ∷ []) (sym is)) ∙ lambdas-append (take i xs) (a ∷ [])

    pub frames-more : map (frame_of Plain) (lambdas_of (map read (take (i + 1) xs))) ≡ map (frame_of Plain) (lambdas_of (map read (take i xs))) ++ frame_of Plain (read a).lambda ∷ []
    frames-more = ap (map (frame_of Plain)) lambdas-more ∙ map-append (frame_of Plain) (lambdas_of (map read (take i xs))) ((read a).lambda ∷ [])
