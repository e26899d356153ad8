-- How the ends of edges go on by one.
use Rattle.std.proofs.Common.{◌≡◌, List, [], ◌∷◌, ◌++◌}
use Rattle.std.proofs.lemmas.List.{map-append}
use Rattle.g_text.specs.declared.edges.Edge.{Edge}
use Rattle.g_text.specs.Drawing.{ends_of}

pub one_more : (es : List Edge) (e : Edge) → ends_of (es ++ e ∷ []) ≡ ends_of es ++ e.ends ∷ []
one_more es e = map-append (λ (x : Edge). x.ends) es (e ∷ [])
