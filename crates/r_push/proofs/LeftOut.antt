-- A node that leaves: what is outside then, and what uses of it become.
use Rattle.std.proofs.Common.{◌≡◌, ◌==◌, ◌&&◌, ◌+◌, ℕ, Bool, true, false, if◌then◌else◌, List, [], ◌∷◌, ◌++◌, length, slice_get, unwrap_or, sym, ap, ◌∙◌}
use Rattle.g_graph.specs.declared.op.Origin.TheVariants.{Arg, Out}
use Rattle.r_rule.specs.declared.steps.Rule.TheVariants.{Push}
use Rattle.g_graph.specs.Plain.{NodeTree, id_of, nodes_of}
use Rattle.g_graph.specs.Replace.{node_redirected}
use Rattle.g_graph.specs.Splice.{args_to_inputs}
use Rattle.g_graph.proofs.lemmas.Splices.{joined_none}
use Rattle.r_push.specs.Walk.{growth_of, Cursor, Walking, gone}
use Rattle.r_walk.specs.Moves.{output_in}
use Rattle.r_walk.specs.declared.moves.Moves.{Moves}
use Rattle.r_push.specs.declared.leaving.Place.{Place}
use Rattle.r_push.specs.Walks.{exit_in, IsCursor, IsWalked}

pub gone_walked : (k : Cursor) (place : Place) (moves next : Moves) (w now : Walking) (x : NodeTree) (before : List NodeTree) → IsCursor k place moves →
    ((n p : ℕ) → output_in next n p ≡ (if n == id_of x then unwrap_or (slice_get (Arg (length w.inputs) ∷ []) p) (Out n p) else output_in moves n p)) →
    now.values ≡ w.values + growth_of (exit_in place.exit) → now.steps ≡ w.steps ++ record { rule = Push; node = id_of x } ∷ [] → now.inputs ≡ w.inputs ++ Out (id_of x) 0 ∷ [] →
    now.left ≡ w.left ++ node_redirected (args_to_inputs w.inputs) x ∷ [] → IsWalked (gone k w x) before before next now
gone_walked k place moves next w now x before is noted values steps inputs left = record {
  nodes = sym (joined_none (nodes_of before));
  moved = λ n p. noted n p ∙ ap (λ o. if n == id_of x then unwrap_or (slice_get (Arg (length w.inputs) ∷ []) p) (Out n p) else o) (is.moved n p);
  now_is = λ i. record { values = (values ∙ ap (λ e. w.values + growth_of e) (sym is.exit_is)) i; steps = steps i; inputs = inputs i; left = left i };
}

-- ---- tests one after the other

pub both_hold : (v a b p q : Bool) → a ≡ true → v ≡ b → a ≡ p → b ≡ q → v ≡ (p && q)
both_hold v a b p q t e f g = e ∙ g ∙ ap (λ x. x && q) (sym t ∙ f)

pub first_fails : (v a p q : Bool) → a ≡ false → v ≡ a → a ≡ p → v ≡ (p && q)
first_fails v a p q t e f = e ∙ t ∙ ap (λ x. x && q) (sym t ∙ f)
