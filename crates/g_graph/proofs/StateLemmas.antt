-- Where a state comes from, asked of one origin.
use Rattle.std.proofs.Common.{◌≡◌, ℕ, Bool, refl}
use Rattle.std.specs.declared.option.Option.{Option}
use Rattle.std.specs.declared.option.Option.TheVariants.{Some, None}
use Rattle.g_graph.specs.declared.op.Kind.{Kind}
use Rattle.g_graph.specs.declared.op.Origin.{Origin}
use Rattle.g_graph.specs.declared.op.Origin.TheVariants.{Out}
use Rattle.g_graph.specs.Plain.{NodeTrees, no_nodes, node_then, id_of}
use Rattle.g_graph.specs.Signatures.{output_kinds}
use Rattle.g_graph.specs.Scope.{same_origin, last_index, origin_at, state_after}
use Rattle.g_graph.specs.WellFormed.{is_origin}

-- whether a node whose last output of a kind is this makes it so
abbrev pub is_here : (id : ℕ) → Option ℕ → Origin → (before : Bool) → Bool
is_here id None o before = before
is_here id (Some p) o before = same_origin (Out id p) o

abbrev pub is_after : Kind → NodeTrees → Origin → (before : Bool) → Bool
is_after k no_nodes o before = before
is_after k (node_then x xs) o before = is_after k xs o (is_here (id_of x) (last_index k 0 (output_kinds x) None) o before)

pub is_origin_after : (k : Kind) (xs : NodeTrees) (found : Option Origin) (o : Origin) → is_origin (state_after k xs found) o ≡ is_after k xs o (is_origin found o)
is_origin_after k no_nodes found o = refl
is_origin_after k (node_then x xs) found o = by_index (last_index k 0 (output_kinds x) None) (λ f. is_origin_after k xs f o)
  where
    by_index : (p : Option ℕ) → ((f : Option Origin) → is_origin (state_after k xs f) o ≡ is_after k xs o (is_origin f o)) →
        is_origin (state_after k xs (origin_at (λ q. Out (id_of x) q) p found)) o ≡ is_after k xs o (is_here (id_of x) p o (is_origin found o))
    by_index None h = h found
    by_index (Some p) h = h (Some (Out (id_of x) p))
