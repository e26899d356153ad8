-- What is not used is not read.
use Rattle.std.proofs.Common.{◌≡◌, ℕ, zero, suc, ◌+◌, ◌==◌, Bool, true, false, not, ◌&&◌, ◌||◌, List, [], ◌∷◌, map, Option, Some, refl, sym, ap, subst, ◌∙◌, arith}
use Rattle.std.proofs.lemmas.Bool.{and_parts, or_parts, not-true}
use Rattle.g_graph.specs.declared.op.Kind.{Kind}
use Rattle.g_graph.specs.declared.op.Kind.TheVariants.{Value}
use Rattle.g_graph.specs.declared.op.Origin.{Origin}
use Rattle.g_graph.specs.declared.op.Origin.TheVariants.{Arg, Out}
use Rattle.g_graph.specs.Plain.{RegionTree, region, node, NodeTrees, no_nodes, node_then, RegionTrees, no_regions, region_then}
use Rattle.g_graph.specs.Scope.{same_kind, is_of, same_origin}
use Rattle.g_graph.specs.WellFormed.{some_of}
use Rattle.g_graph.specs.Nodes.{nodes_use, is_used}
use Rattle.g_graph.proofs.lemmas.Indexes.{same_origin_self}
use Rattle.g_graph.proofs.lemmas.Unique.{same_number}
use Rattle.r_edit.specs.Uses.{nodes_read, is_read}
use Rattle.r_edit.specs.Places.{stays_at, kept, drops_values}
use Rattle.r_edit.specs.Exits.{is_gone_output}
use Rattle.r_edit.specs.Entries.{is_gone_argument, some_reads}
use Rattle.r_edit.specs.Variables.{loop_reads}
use Rattle.r_edit.proofs.lemmas.Kept.{some_fewer}
use Rattle.r_dne.specs.Rule.{used_exits, some_uses, used_entries, others_use, used_variables}

-- ---- a region reads no origin that it does not use

module _ (gone : Origin → Bool) where
  some_unread : (os : List Origin) → ((a : Origin) → gone a ≡ true → some_of (same_origin a) os ≡ false) → some_of gone os ≡ false
  some_unread [] h = refl
  some_unread (a ∷ os) h =
      let rest = some_unread os (λ b e. (or_parts (same_origin b a) (some_of (same_origin b) os) (h b e)).1) in
      λ i. by (gone a) refl i || rest i
    where
      by : (t : Bool) → gone a ≡ t → t ≡ false
      by false e = refl
      by true e = let wrong : true ≡ false = sym (same_origin_self a) ∙ (or_parts (same_origin a a) (some_of (same_origin a) os) (h a e)).0 in absurd cc

  nodes_unread : (ns : NodeTrees) → ((a : Origin) → gone a ≡ true → nodes_use a ns ≡ false) → nodes_read gone ns ≡ false
  nodes_unread no_nodes h = refl
  nodes_unread (node_then (node id op inputs rs) ns) h =
      let first = some_unread inputs (λ a e. (or_parts (some_of (same_origin a) inputs) (nodes_use a ns) (h a e)).0) in
      let rest = nodes_unread ns (λ a e. (or_parts (some_of (same_origin a) inputs) (nodes_use a ns) (h a e)).1) in
      λ i. first i || rest i

  unread : (r : RegionTree) → ((a : Origin) → gone a ≡ true → is_used a r ≡ false) → is_read gone r ≡ false
  unread (region args nodes results) h =
      let first = nodes_unread nodes (λ a e. (or_parts (nodes_use a nodes) (some_of (same_origin a) results) (h a e)).0) in
      let rest = some_unread results (λ a e. (or_parts (nodes_use a nodes) (some_of (same_origin a) results) (h a e)).1) in
      λ i. first i || rest i

-- ---- exit variables

exit_unused : (n : ℕ) (r : RegionTree) (p : ℕ) (ks : List (Option Kind)) (j : ℕ) → stays_at (used_exits n r p ks) j ≡ false → is_used (Out n (p + j)) r ≡ false
exit_unused n r p [] j e = absurd cc
exit_unused n r p (k ∷ ks) zero e =
    let number : p + 0 ≡ p = omega arith in
    ap (λ q. is_used (Out n q) r) number ∙ (or_parts (not (is_of Value k)) (is_used (Out n p) r) e).1
exit_unused n r p (k ∷ ks) (suc j) e =
    let number : p + suc j ≡ suc p + j = omega arith in
    ap (λ q. is_used (Out n q) r) number ∙ exit_unused n r (suc p) ks j e

pub exits_are_values : (n : ℕ) (r : RegionTree) (p : ℕ) (ks : List (Option Kind)) → drops_values (used_exits n r p ks) ks ≡ true
exits_are_values n r p [] = refl
exits_are_values n r p (k ∷ ks) = by (is_of Value k) (is_used (Out n p) r) refl (exits_are_values n r (suc p) ks)
  where
    by : (v u : Bool) → is_of Value k ≡ v → drops_values (used_exits n r (suc p) ks) ks ≡ true → drops_values ((not v || u) ∷ used_exits n r (suc p) ks) (k ∷ ks) ≡ true
    by false u e h = h
    by true true e h = h
    by true false e h = λ i. e i && h i

pub exits_unread : (n : ℕ) (r : RegionTree) (ks : List (Option Kind)) → is_read (is_gone_output n (used_exits n r 0 ks)) r ≡ false
exits_unread n r ks = unread (is_gone_output n (used_exits n r 0 ks)) r (λ a e. by a e)
  where
    by : (a : Origin) → is_gone_output n (used_exits n r 0 ks) a ≡ true → is_used a r ≡ false
    by (Arg k) e = absurd cc
    by (Out m p) e =
        let both = and_parts (n == m) (not (stays_at (used_exits n r 0 ks) p)) e in
        let number : p ≡ 0 + p = omega arith in
        ap (λ q. is_used (Out q p) r) (sym (same_number n m both.0)) ∙ ap (λ q. is_used (Out n q) r) number ∙ exit_unused n r 0 ks p (not-true (stays_at (used_exits n r 0 ks) p) both.1)

-- ---- entry variables

entry_unused : (rs : RegionTrees) (k : ℕ) (js : List Kind) (i : ℕ) → stays_at (used_entries rs k js) i ≡ false → some_uses (Arg (k + i)) rs ≡ false
entry_unused rs k [] i e = absurd cc
entry_unused rs k (j ∷ js) zero e =
    let number : k + 0 ≡ k = omega arith in
    ap (λ q. some_uses (Arg q) rs) number ∙ e
entry_unused rs k (j ∷ js) (suc i) e =
    let number : k + suc i ≡ suc k + i = omega arith in
    ap (λ q. some_uses (Arg q) rs) number ∙ entry_unused rs (suc k) js i e

regions_unread : (stays : List Bool) (rs : RegionTrees) → ((k : ℕ) → stays_at stays k ≡ false → some_uses (Arg k) rs ≡ false) → some_reads stays rs ≡ false
regions_unread stays no_regions h = refl
regions_unread stays (region_then r rs) h =
    let first = unread (is_gone_argument stays) r (λ a e. by a e) in
    let rest = regions_unread stays rs (λ k e. (or_parts (is_used (Arg k) r) (some_uses (Arg k) rs) (h k e)).1) in
    λ i. first i || rest i
  where
    by : (a : Origin) → is_gone_argument stays a ≡ true → is_used a r ≡ false
    by (Arg k) e = (or_parts (is_used (Arg k) r) (some_uses (Arg k) rs) (h k (not-true (stays_at stays k) e))).0
    by (Out m p) e = absurd cc

pub entries_unread : (rs : RegionTrees) (js : List Kind) → some_reads (used_entries rs 0 js) rs ≡ false
entries_unread rs js =
    regions_unread (used_entries rs 0 js) rs
    (λ k e. let number : k ≡ 0 + k = omega arith in ap (λ q. some_uses (Arg q) rs) number ∙ entry_unused rs 0 js k e)

-- ---- loop variables

module _ (n : ℕ) (r : RegionTree) (nodes : NodeTrees) (outs : List Origin) where
  pub record VariableUnused (k : ℕ) : Type 0 where
    pub output : is_used (Out n k) r ≡ false
    pub inside : nodes_use (Arg k) nodes ≡ false
    pub others : others_use (suc k) (Arg k) outs ≡ false

  unused_of : (k : ℕ) (v : Bool) → (v || is_used (Out n k) r || nodes_use (Arg k) nodes || others_use (suc k) (Arg k) outs) ≡ false → VariableUnused k
  unused_of k v e =
      let a = or_parts (v || is_used (Out n k) r || nodes_use (Arg k) nodes) (others_use (suc k) (Arg k) outs) e in
      let b = or_parts (v || is_used (Out n k) r) (nodes_use (Arg k) nodes) a.0 in
      record { output = (or_parts v (is_used (Out n k) r) b.0).1; inside = b.1; others = a.1 }

  variable_unused : (k : ℕ) (js : List Kind) (i : ℕ) → stays_at (used_variables n r nodes outs k js) i ≡ false → VariableUnused (k + i)
  variable_unused k [] i e = absurd cc
  variable_unused k (j ∷ js) zero e =
      let number : k ≡ k + 0 = omega arith in
      subst VariableUnused number (unused_of k (not (same_kind Value j)) e)
  variable_unused k (j ∷ js) (suc i) e =
      let number : suc k + i ≡ k + suc i = omega arith in
      subst VariableUnused number (variable_unused (suc k) js i e)

  unused_at : (js : List Kind) (k : ℕ) → stays_at (used_variables n r nodes outs 0 js) k ≡ false → VariableUnused k
  unused_at js k e = let number : 0 + k ≡ k = omega arith in subst VariableUnused number (variable_unused 0 js k e)

  pub variables_are_values : (k : ℕ) (js : List Kind) → drops_values (used_variables n r nodes outs k js) (map Some js) ≡ true
  variables_are_values k [] = by (used_variables n r nodes outs k [])
    where
      by : (ts : List Bool) → drops_values ts [] ≡ true
      by [] = refl
      by (t ∷ ts) = refl
  variables_are_values k (j ∷ js) =
      by (same_kind Value j) (is_used (Out n k) r) (nodes_use (Arg k) nodes) (others_use (suc k) (Arg k) outs) refl (variables_are_values (suc k) js)
    where
      by : (v a b c : Bool) → same_kind Value j ≡ v → drops_values (used_variables n r nodes outs (suc k) js) (map Some js) ≡ true →
          drops_values ((not v || a || b || c) ∷ used_variables n r nodes outs (suc k) js) (Some j ∷ map Some js) ≡ true
      by false a b c e h = h
      by true true b c e h = h
      by true false true c e h = h
      by true false false true e h = h
      by true false false false e h = λ i. e i && h i

  pub variables_unread : (js : List Kind) → is_read (is_gone_output n (used_variables n r nodes outs 0 js)) r ≡ false
  variables_unread js = unread (is_gone_output n (used_variables n r nodes outs 0 js)) r (λ a e. by a e)
    where
      by : (a : Origin) → is_gone_output n (used_variables n r nodes outs 0 js) a ≡ true → is_used a r ≡ false
      by (Arg k) e = absurd cc
      by (Out m p) e =
          let both = and_parts (n == m) (not (stays_at (used_variables n r nodes outs 0 js) p)) e in
          ap (λ q. is_used (Out q p) r) (sym (same_number n m both.0)) ∙ (unused_at js p (not-true (stays_at (used_variables n r nodes outs 0 js) p) both.1)).output

  -- what only a result that goes uses, the results that stay do not use
  others_unused : (ts : List Bool) (os : List Origin) (own : ℕ) (o : Origin) → stays_at ts own ≡ false → others_use own o os ≡ false → some_of (same_origin o) (kept ts os) ≡ false
  others_unused ts [] own o t e = refl
  others_unused [] (a ∷ os) own o t e = absurd cc
  others_unused (true ∷ ts) (a ∷ os) zero o t e = absurd cc
  others_unused (false ∷ ts) (a ∷ os) zero o t e = some_fewer (same_origin o) ts os e
  others_unused (true ∷ ts) (a ∷ os) (suc k) o t e =
      let both = or_parts (same_origin o a) (others_use k o os) e in
      let rest = others_unused ts os k o t both.1 in
      λ i. both.0 i || rest i
  others_unused (false ∷ ts) (a ∷ os) (suc k) o t e = others_unused ts os k o t (or_parts (same_origin o a) (others_use k o os) e).1

  pub loop_unread : (own js : List Kind) → loop_reads (used_variables n r nodes outs 0 js) (region own nodes outs) ≡ false
  loop_unread own js =
      unread (is_gone_argument (used_variables n r nodes outs 0 js)) (region own nodes (kept (true ∷ used_variables n r nodes outs 0 js) outs)) (λ a e. by a e)
    where
      by : (a : Origin) → is_gone_argument (used_variables n r nodes outs 0 js) a ≡ true → is_used a (region own nodes (kept (true ∷ used_variables n r nodes outs 0 js) outs)) ≡ false
      by (Out m p) e = absurd cc
      by (Arg k) e =
          let gone = not-true (stays_at (used_variables n r nodes outs 0 js) k) e in
          let unused = unused_at js k gone in
          let results = others_unused (true ∷ used_variables n r nodes outs 0 js) outs (suc k) (Arg k) gone unused.others in
          λ i. unused.inside i || results i
