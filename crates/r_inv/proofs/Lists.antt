-- What variables carry, by index.
use Rattle.std.proofs.Common.{◌≡◌, ◌<◌, ℕ, zero, suc, ◌+◌, ◌&&◌, ◌||◌, cond, List, [], ◌∷◌, drop, length, Option, None, Some, refl, sym, ap, subst, ◌∙◌, add-one, arith}
use Rattle.std.specs.Prelude.{slice_get, is_some, option_and_then}
use Rattle.std.proofs.lemmas.Option.{same_Some}
use Rattle.g_graph.specs.declared.op.Kind.{Kind}
use Rattle.g_graph.specs.declared.op.Kind.TheVariants.{Value}
use Rattle.g_graph.specs.declared.op.Op.{Op}
use Rattle.g_graph.specs.declared.op.Op.TheVariants.{Theta}
use Rattle.g_graph.specs.declared.op.Origin.{Origin}
use Rattle.g_graph.specs.declared.op.Origin.TheVariants.{Arg, Out}
use Rattle.g_graph.specs.Plain.{RegionTree, region, NodeTree, node, NodeTrees, RegionTrees, regions_of, args_of}
use Rattle.g_graph.specs.Scope.{is_of}
use Rattle.g_graph.specs.WellFormed.{is_origin}
use Rattle.g_graph.specs.Nodes.{node_at, is_used}
use Rattle.r_edit.specs.Carried.{passed}
use Rattle.r_inv.specs.Rule.{exits_from, variables_from, variable_carries, carried_variables, some_used, moved, inv_here}

pub exits_count : (inputs : List Origin) (rs : RegionTrees) (p : ℕ) (ks : List (Option Kind)) → length (exits_from inputs rs p ks) ≡ length ks
exits_count inputs rs p [] = refl
exits_count inputs rs p (k ∷ ks) = ap suc (exits_count inputs rs (suc p) ks)

exit_from : (inputs : List Origin) (rs : RegionTrees) (p : ℕ) (ks : List (Option Kind)) (i : ℕ) → i < length (exits_from inputs rs p ks) →
    slice_get (exits_from inputs rs p ks) i ≡ Some (passed inputs (p + i) rs)
exit_from inputs rs p [] i b = absurd (omega arith)
exit_from inputs rs p (k ∷ ks) zero b =
    let number : p ≡ p + 0 = omega arith in
    ap (λ q. Some (passed inputs q rs)) number
exit_from inputs rs p (k ∷ ks) (suc i) b =
    let number : suc p + i ≡ p + suc i = omega arith in
    exit_from inputs rs (suc p) ks i (omega arith) ∙ ap (λ q. Some (passed inputs q rs)) number

pub exit_at : (inputs : List Origin) (rs : RegionTrees) (ks : List (Option Kind)) (i : ℕ) → i < length (exits_from inputs rs 0 ks) → slice_get (exits_from inputs rs 0 ks) i ≡ Some (passed inputs i rs)
exit_at inputs rs ks i b =
    let number : 0 + i ≡ i = omega arith in
    exit_from inputs rs 0 ks i b ∙ ap (λ q. Some (passed inputs q rs)) number

variables_length : (inputs outs : List Origin) (p : ℕ) (js : List Kind) → length (variables_from inputs outs p js) ≡ length js
variables_length inputs outs p [] = refl
variables_length inputs outs p (j ∷ js) = ap suc (variables_length inputs outs (suc p) js)

pub variables_count : (inputs : List Origin) (q : RegionTree) → length (carried_variables inputs q) ≡ length (args_of q)
variables_count inputs (region own nodes outs) = variables_length inputs outs 0 own

variable_from : (inputs outs : List Origin) (nodes : NodeTrees) (own : List Kind) (p : ℕ) (js : List Kind) → ((i : ℕ) → slice_get own (p + i) ≡ slice_get js i) → (i : ℕ) →
    i < length (variables_from inputs outs p js) → slice_get (variables_from inputs outs p js) i ≡ Some (variable_carries inputs (region own nodes outs) (p + i))
variable_from inputs outs nodes own p [] h i b = absurd (omega arith)
variable_from inputs outs nodes own p (j ∷ js) h zero b =
    let number : p ≡ p + 0 = omega arith in
    λ i. Some (cond (is_of Value (sym (h 0) i) && is_origin (slice_get outs (suc (number i))) (Arg (number i))) (slice_get inputs (number i)) None)
variable_from inputs outs nodes own p (j ∷ js) h (suc i) b =
    let number : suc p + i ≡ p + suc i = omega arith in
    variable_from inputs outs nodes own (suc p) js (λ k. ap (slice_get own) (omega arith) ∙ h (suc k)) i (omega arith) ∙ ap (λ q. Some (variable_carries inputs (region own nodes outs) q)) number

pub variable_at : (inputs : List Origin) (q : RegionTree) (i : ℕ) → i < length (carried_variables inputs q) → slice_get (carried_variables inputs q) i ≡ Some (variable_carries inputs q i)
variable_at inputs (region own nodes outs) i b =
    let number : 0 + i ≡ i = omega arith in
    variable_from inputs outs nodes own 0 own (λ k. ap (slice_get own) (omega arith)) i b ∙ ap (λ q. Some (variable_carries inputs (region own nodes outs) q)) number

used_from : (n : ℕ) (r : RegionTree) (p : ℕ) (cs : List (Option Origin)) (i : ℕ) (c : Option Origin) → slice_get cs i ≡ Some c →
    some_used n r (p + i) (drop i cs) ≡ ((is_some c && is_used (Out n (p + i)) r) || some_used n r (suc (p + i)) (drop (suc i) cs))
used_from n r p [] i c e = absurd cc
used_from n r p (d ∷ cs) zero c e =
    let same : d ≡ c = same_Some d c e in
    ap (λ z. (is_some z && is_used (Out n (p + 0)) r) || some_used n r (suc (p + 0)) cs) same
used_from n r p (d ∷ cs) (suc i) c e =
    let number : p + suc i ≡ suc p + i = omega arith in
    ap (λ q. some_used n r q (drop i cs)) number ∙ used_from n r (suc p) cs i c e
    ∙ ap (λ q. (is_some c && is_used (Out n q) r) || some_used n r (suc q) (drop (suc i) cs)) (sym number)

pub used_more : (n : ℕ) (r : RegionTree) (cs : List (Option Origin)) (i : ℕ) (c : Option Origin) → slice_get cs i ≡ Some c →
    some_used n r i (drop i cs) ≡ ((is_some c && is_used (Out n i) r) || some_used n r (i + 1) (drop (i + 1) cs))
used_more n r cs i c e =
    let number : 0 + i ≡ i = omega arith in
    rw add-one (ap (λ q. some_used n r q (drop i cs)) (sym number) ∙ used_from n r 0 cs i c e ∙ ap (λ q. (is_some c && is_used (Out n q) r) || some_used n r (suc q) (drop (suc i) cs)) number)

-- ---- a node

pub theta_none : (r : RegionTree) (id : ℕ) (op : Op) (inputs : List Origin) (rs : List RegionTree) → op ≡ Theta → (length rs ≡ 1 → ⊥) → moved r (node id op inputs (regions_of rs)) ≡ None
theta_none r id op inputs rs g h = subst (λ (o : Op). moved r (node id o inputs (regions_of rs)) ≡ None) (sym g) (by rs h)
  where
    by : (qs : List RegionTree) → (length qs ≡ 1 → ⊥) → moved r (node id Theta inputs (regions_of qs)) ≡ None
    by [] k = refl
    by (q ∷ []) k = absurd (k refl)
    by (q ∷ p ∷ qs) k = refl

pub here_at : (n : ℕ) (args : List Kind) (ns : NodeTrees) (results : List Origin) (x : NodeTree) → node_at n ns ≡ Some x → moved (region args ns results) x ≡ inv_here n (region args ns results)
here_at n args ns results x e = sym (ap (option_and_then (moved (region args ns results))) e)
