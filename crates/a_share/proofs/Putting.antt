-- A list of lists whose parts are seen through a view.
use Rattle.std.proofs.Common.{◌≡◌, ◌<◌, ℕ, List, [], ◌∷◌, ◌++◌, map, length, get_or, set, ap, sym, ◌∙◌}
use Rattle.std.proofs.lemmas.List.{map-set, get_or-map}

pub put_at : {X : Type 0} (f : X → List ℕ) (xs : List X) (i n : ℕ) (before after : X) → i < length xs → before ≡ get_or xs i before
    → f after ≡ f before ++ n ∷ [] → map f (set xs i after) ≡ set (map f xs) i (get_or (map f xs) i [] ++ n ∷ [])
put_at f xs i n before after h b a =
    map-set f xs i after ∙ ap (set (map f xs) i) (a ∙ ap (λ z. z ++ n ∷ []) (ap f b ∙ sym (get_or-map f xs i before [] h)))
