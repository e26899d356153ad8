-- Lists without what stands at some places. The places are counted from 0, and those that no test speaks of stay.
use Rattle.std.specs.Prelude.{ℕ, zero, suc, Bool, true, false, ◌&&◌, List, [], ◌∷◌, Option}
use Rattle.g_graph.specs.declared.op.Kind.{Kind}
use Rattle.g_graph.specs.declared.op.Kind.TheVariants.{Value}
use Rattle.g_graph.specs.Scope.{is_of}

abbrev pub stays_at : (stays : List Bool) → ℕ → Bool
stays_at [] k = true
stays_at (t ∷ ts) zero = t
stays_at (t ∷ ts) (suc k) = stays_at ts k

-- what stays
abbrev pub kept : {X : Type 0} → (stays : List Bool) → List X → List X
kept stays [] = []
kept [] (x ∷ xs) = x ∷ xs
kept (true ∷ ts) (x ∷ xs) = x ∷ kept ts xs
kept (false ∷ ts) (x ∷ xs) = kept ts xs

-- where what stays at a place is found afterwards
abbrev pub place_after : (stays : List Bool) → ℕ → ℕ
place_after [] k = k
place_after (t ∷ ts) zero = zero
place_after (true ∷ ts) (suc k) = suc (place_after ts k)
place_after (false ∷ ts) (suc k) = place_after ts k

-- only values go
abbrev pub drops_values : (stays : List Bool) → List (Option Kind) → Bool
drops_values [] ks = true
drops_values (t ∷ ts) [] = true
drops_values (true ∷ ts) (k ∷ ks) = drops_values ts ks
drops_values (false ∷ ts) (k ∷ ks) = is_of Value k && drops_values ts ks
