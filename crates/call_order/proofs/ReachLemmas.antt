-- Paths of calls.
use Rattle.std.proofs.Common.{ℕ, List, [], ◌∷◌, ◌++◌, refl, sym, subst}
use Rattle.call_order.specs.Units.{Calls, IsPath, Reaches, IsMutual}

pub reaches-self : (calls : List (List ℕ)) (j : ℕ) → Reaches calls j j
reaches-self calls j = ([], refl)

pub reaches-call : (calls : List (List ℕ)) (j k : ℕ) → Calls calls j k → Reaches calls j k
reaches-call calls j k h = (k ∷ [], (h, refl))

path-append : (calls : List (List ℕ)) (path : List ℕ) (j k m : ℕ) (rest : List ℕ) → IsPath calls j path k → IsPath calls k rest m → IsPath calls j (path ++ rest) m
path-append calls [] j k m rest e h =
    let family : ℕ → Type 0 = λ x. IsPath calls x rest m in subst family (sym e) h
path-append calls (next ∷ path) j k m rest h i = (h.0, path-append calls path next k m rest h.1 i)

pub reaches-trans : (calls : List (List ℕ)) (j k m : ℕ) → Reaches calls j k → Reaches calls k m → Reaches calls j m
reaches-trans calls j k m there on = (there.0 ++ on.0, path-append calls there.0 j k m on.0 there.1 on.1)

path-keeps : (calls : List (List ℕ)) (Kept : ℕ → Type 0) → ((j k : ℕ) → Kept j → Calls calls j k → Kept k) → (path : List ℕ) (j k : ℕ) → IsPath calls j path k → Kept j → Kept k
path-keeps calls Kept step [] j k e h = subst Kept e h
path-keeps calls Kept step (next ∷ path) j k p h = path-keeps calls Kept step path next k p.1 (step j next h p.0)

-- what is kept along each call is kept along paths
pub reaches-keeps : (calls : List (List ℕ)) (Kept : ℕ → Type 0) → ((j k : ℕ) → Kept j → Calls calls j k → Kept k) → (j k : ℕ) → Reaches calls j k → Kept j → Kept k
reaches-keeps calls Kept step j k there h = path-keeps calls Kept step there.0 j k there.1 h

pub mutual-sym : (calls : List (List ℕ)) (j k : ℕ) → IsMutual calls j k → IsMutual calls k j
mutual-sym calls j k h = (h.1, h.0)

pub mutual-trans : (calls : List (List ℕ)) (j k m : ℕ) → IsMutual calls j k → IsMutual calls k m → IsMutual calls j m
mutual-trans calls j k m h i = (reaches-trans calls j k m h.0 i.0, reaches-trans calls m k j i.1 h.1)
