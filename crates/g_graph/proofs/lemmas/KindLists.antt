-- Lists of kinds that all are there.
use Rattle.std.proofs.Common.{◌≡◌, ◌||◌, List, [], ◌∷◌, map, true, Some, refl, ap}
use Rattle.g_graph.specs.declared.op.Kind.{Kind}
use Rattle.g_graph.specs.declared.op.Kind.TheVariants.{Value, Memory, Io}
use Rattle.g_graph.specs.Scope.{same_kind, is_of}
use Rattle.g_graph.specs.WellFormed.{are, kinds_of, some_of}

pub are_themselves : (ks : List Kind) → are (map Some ks) ks ≡ true
are_themselves [] = refl
are_themselves (Value ∷ ks) = are_themselves ks
are_themselves (Memory ∷ ks) = are_themselves ks
are_themselves (Io ∷ ks) = are_themselves ks

pub kinds_of_some : (js : List Kind) → kinds_of (map Some js) ≡ js
kinds_of_some [] = refl
kinds_of_some (j ∷ js) = ap (λ ks. j ∷ ks) (kinds_of_some js)

-- a kind among kinds
pub some_kind : (k : Kind) (ks : List Kind) → some_of (is_of k) (map Some ks) ≡ some_of (same_kind k) ks
some_kind k [] = refl
some_kind k (j ∷ ks) = ap (λ b. same_kind k j || b) (some_kind k ks)
