-- The lists of tests, by index.
use Rattle.std.proofs.Common.{◌≡◌, ◌<◌, ◌≤◌, ℕ, zero, suc, ◌+◌, Bool, true, false, not, ◌&&◌, ◌||◌, cond, List, []}
use Rattle.std.proofs.Common.{◌∷◌, take, drop, length, get_or, Option, None, Some, refl, sym, ap, subst, subst₂, ◌∙◌, add-one, arith}
use Rattle.std.specs.Prelude.{slice_get, is_some, option_and_then}
use Rattle.std.proofs.Math.Bool.{or_assoc}
use Rattle.g_graph.specs.declared.op.Kind.{Kind}
use Rattle.g_graph.specs.declared.op.Kind.TheVariants.{Value}
use Rattle.g_graph.specs.declared.op.Op.{Op}
use Rattle.g_graph.specs.declared.op.Op.TheVariants.{Gamma, Theta}
use Rattle.g_graph.specs.declared.op.Origin.{Origin}
use Rattle.g_graph.specs.declared.op.Origin.TheVariants.{Arg, Out}
use Rattle.g_graph.specs.Plain.{RegionTree, region, NodeTree, node, NodeTrees, RegionTrees, no_regions, region_then, regions_of, id_of, args_of, op_of, regions_in}
use Rattle.g_graph.specs.Signatures.{joined, first_args, outputs_of, output_kinds}
use Rattle.g_graph.specs.Scope.{same_kind, is_of, same_origin}
use Rattle.g_graph.specs.WellFormed.{some_of}
use Rattle.g_graph.specs.Nodes.{node_at, nodes_use, is_used}
use Rattle.r_edit.specs.InPlace.{all_stay}
use Rattle.r_edit.specs.Places.{stays_at, kept}
use Rattle.r_edit.specs.Exits.{regions_giving, exits_kept}
use Rattle.r_edit.specs.Entries.{entries_kept}
use Rattle.r_edit.proofs.lemmas.Kept.{kept_none}
use Rattle.r_edit.proofs.lemmas.PlacesInPlace.{kept_more}
use Rattle.r_dne.specs.Rule.{used_exits, some_uses, used_entries, others_use, argument_used, used_variables, variables_of, exits_of, entries_of, gamma_shrunk, shrunk, eliminated, dne_here}

-- ---- outputs

output_suc : (test : Option Kind → Bool) (ks : List (Option Kind)) (i : ℕ) → i < length ks → some_of test (drop i ks) ≡ (test (joined (slice_get ks i)) || some_of test (drop (suc i) ks))
output_suc test [] i b = absurd (omega arith)
output_suc test (k ∷ ks) zero b = refl
output_suc test (k ∷ ks) (suc i) b = output_suc test ks i (omega arith)

pub output_more : (test : Option Kind → Bool) (ks : List (Option Kind)) (i : ℕ) → i < length ks → some_of test (drop i ks) ≡ (test (joined (slice_get ks i)) || some_of test (drop (i + 1) ks))
output_more test ks i b = rw add-one (output_suc test ks i b)

-- ---- exit variables

pub exits_count : (n : ℕ) (r : RegionTree) (p : ℕ) (ks : List (Option Kind)) → length (used_exits n r p ks) ≡ length ks
exits_count n r p [] = refl
exits_count n r p (k ∷ ks) = ap suc (exits_count n r (suc p) ks)

exit_from : (n : ℕ) (r : RegionTree) (p : ℕ) (ks : List (Option Kind)) (i : ℕ) → i < length ks →
    slice_get (used_exits n r p ks) i ≡ Some (not (is_of Value (joined (slice_get ks i))) || is_used (Out n (p + i)) r)
exit_from n r p [] i b = absurd (omega arith)
exit_from n r p (k ∷ ks) zero b =
    let number : p ≡ p + 0 = omega arith in
    ap (λ q. Some (not (is_of Value k) || is_used (Out n q) r)) number
exit_from n r p (k ∷ ks) (suc i) b =
    let number : suc p + i ≡ p + suc i = omega arith in
    exit_from n r (suc p) ks i (omega arith) ∙ ap (λ q. Some (not (is_of Value (joined (slice_get ks i))) || is_used (Out n q) r)) number

pub exit_at : (n : ℕ) (r : RegionTree) (ks : List (Option Kind)) (i : ℕ) → i < length (used_exits n r 0 ks) →
    slice_get (used_exits n r 0 ks) i ≡ Some (not (is_of Value (joined (slice_get ks i))) || is_used (Out n i) r)
exit_at n r ks i b =
    let number : 0 + i ≡ i = omega arith in
    exit_from n r 0 ks i (omega (arith, b, exits_count n r 0 ks)) ∙ ap (λ q. Some (not (is_of Value (joined (slice_get ks i))) || is_used (Out n q) r)) number

-- ---- entry variables

pub entries_count : (rs : RegionTrees) (k : ℕ) (js : List Kind) → length (used_entries rs k js) ≡ length js
entries_count rs k [] = refl
entries_count rs k (j ∷ js) = ap suc (entries_count rs (suc k) js)

entry_from : (rs : RegionTrees) (k : ℕ) (js : List Kind) (i : ℕ) → i < length js → slice_get (used_entries rs k js) i ≡ Some (some_uses (Arg (k + i)) rs)
entry_from rs k [] i b = absurd (omega arith)
entry_from rs k (j ∷ js) zero b =
    let number : k ≡ k + 0 = omega arith in
    ap (λ q. Some (some_uses (Arg q) rs)) number
entry_from rs k (j ∷ js) (suc i) b =
    let number : suc k + i ≡ k + suc i = omega arith in
    entry_from rs (suc k) js i (omega arith) ∙ ap (λ q. Some (some_uses (Arg q) rs)) number

pub entry_at : (rs : RegionTrees) (js : List Kind) (i : ℕ) → i < length (used_entries rs 0 js) → slice_get (used_entries rs 0 js) i ≡ Some (some_uses (Arg i) rs)
entry_at rs js i b =
    let number : 0 + i ≡ i = omega arith in
    entry_from rs 0 js i (omega (arith, b, entries_count rs 0 js)) ∙ ap (λ q. Some (some_uses (Arg q) rs)) number

kept_suc : (test : Origin → Bool) (ts : List Bool) (os : List Origin) (i : ℕ) (d : Origin) → i < length os →
    some_of test (kept (drop i ts) (drop i os)) ≡ ((stays_at ts i && test (get_or os i d)) || some_of test (kept (drop (suc i) ts) (drop (suc i) os)))
kept_suc test ts [] i d b = absurd (omega arith)
kept_suc test ts (a ∷ os) zero d b = ap (some_of test) (kept_more ts 0 a os) ∙ by (stays_at ts 0)
  where
    by : (t : Bool) → some_of test (cond t (a ∷ kept (drop 1 ts) os) (kept (drop 1 ts) os)) ≡ ((t && test a) || some_of test (kept (drop 1 ts) os))
    by true = refl
    by false = refl
kept_suc test [] (a ∷ os) (suc i) d b = ap (some_of test) (none os i) ∙ kept_suc test [] os i d (omega arith)
  where
    none : (xs : List Origin) (j : ℕ) → kept [] (drop j xs) ≡ kept (drop j []) (drop j xs)
    none xs zero = refl
    none xs (suc j) = refl
kept_suc test (t ∷ ts) (a ∷ os) (suc i) d b = kept_suc test ts os i d (omega arith)

pub kept_some_more : (test : Origin → Bool) (ts : List Bool) (os : List Origin) (i : ℕ) (d : Origin) → i < length os →
    some_of test (kept (drop i ts) (drop i os)) ≡ ((stays_at ts i && test (get_or os i d)) || some_of test (kept (drop (i + 1) ts) (drop (i + 1) os)))
kept_some_more test ts os i d b = rw add-one (kept_suc test ts os i d b)

-- where all exit variables stay, the regions give what they gave
all_kept : {X : Type 0} (ts : List Bool) (xs : List X) → all_stay ts ≡ true → kept ts xs ≡ xs
all_kept [] xs e = kept_none xs
all_kept (true ∷ ts) [] e = refl
all_kept (true ∷ ts) (x ∷ xs) e = ap (λ ys. x ∷ ys) (all_kept ts xs e)
all_kept (false ∷ ts) xs e = absurd cc

pub all_giving : (ts : List Bool) (rs : RegionTrees) → all_stay ts ≡ true → regions_giving ts rs ≡ regions_giving [] rs
all_giving ts no_regions e = refl
all_giving ts (region_then (region args nodes results) rs) e =
    λ i. region_then (region args nodes ((all_kept ts results e ∙ sym (kept_none results)) i)) (all_giving ts rs e i)

-- ---- loop variables

pub variables_count : (n : ℕ) (r q : RegionTree) → length (variables_of n r q) ≡ length (args_of q)
variables_count n r (region own nodes outs) = from 0 own
  where
    from : (k : ℕ) (js : List Kind) → length (used_variables n r nodes outs k js) ≡ length js
    from k [] = refl
    from k (j ∷ js) = ap suc (from (suc k) js)

pub variable_at : (n : ℕ) (r q : RegionTree) (i : ℕ) → i < length (variables_of n r q) →
    slice_get (variables_of n r q) i ≡ Some (not (is_of Value (slice_get (args_of q) i)) || is_used (Out n i) r || argument_used i q)
variable_at n r (region own nodes outs) i b =
    let number : 0 + i ≡ i = omega arith in
    from 0 own i (omega (arith, b, variables_count n r (region own nodes outs)))
    ∙ ap (λ q. Some (not (is_of Value (slice_get own i)) || is_used (Out n q) r || (nodes_use (Arg q) nodes || others_use (suc q) (Arg q) outs))) number
  where
    from : (k : ℕ) (js : List Kind) (j : ℕ) → j < length js →
        slice_get (used_variables n r nodes outs k js) j ≡
        Some (not (is_of Value (slice_get js j)) || is_used (Out n (k + j)) r || (nodes_use (Arg (k + j)) nodes || others_use (suc (k + j)) (Arg (k + j)) outs))
    from k [] j b = absurd (omega arith)
    from k (x ∷ js) zero b =
        let number : k ≡ k + 0 = omega arith in
        ap Some (or_assoc (not (same_kind Value x) || is_used (Out n k) r) (nodes_use (Arg k) nodes) (others_use (suc k) (Arg k) outs))
        ∙ ap (λ q. Some (not (same_kind Value x) || is_used (Out n q) r || (nodes_use (Arg q) nodes || others_use (suc q) (Arg q) outs))) number
    from k (x ∷ js) (suc j) b =
        let number : suc k + j ≡ k + suc j = omega arith in
        from (suc k) js j (omega arith)
        ∙ ap (λ q. Some (not (is_of Value (slice_get js j)) || is_used (Out n q) r || (nodes_use (Arg q) nodes || others_use (suc q) (Arg q) outs))) number

pub others_past : (own : ℕ) (o : Origin) (os : List Origin) → length os ≤ own → some_of (same_origin o) os ≡ others_use own o os
others_past own o [] b = refl
others_past zero o (a ∷ os) b = absurd (omega arith)
others_past (suc k) o (a ∷ os) b = ap (λ t. same_origin o a || t) (others_past k o os (omega arith))

others_suc : (own : ℕ) (o : Origin) (os : List Origin) → own < length os → (some_of (same_origin o) (take own os) || some_of (same_origin o) (drop (suc own) os)) ≡ others_use own o os
others_suc own o [] b = absurd (omega arith)
others_suc zero o (a ∷ os) b = refl
others_suc (suc k) o (a ∷ os) b = or_assoc (same_origin o a) (some_of (same_origin o) (take k os)) (some_of (same_origin o) (drop (suc k) os))
    ∙ ap (λ t. same_origin o a || t) (others_suc k o os (omega arith))

pub others_at : (own : ℕ) (o : Origin) (os : List Origin) → own < length os → (some_of (same_origin o) (take own os) || some_of (same_origin o) (drop (own + 1) os)) ≡ others_use own o os
others_at own o os b = rw add-one (others_suc own o os b)

-- ---- a node

pub gamma_is : (r : RegionTree) (x : NodeTree) (rs : RegionTrees) → op_of x ≡ Gamma → regions_in x ≡ rs →
    is_some (shrunk r x) ≡ not (all_stay (used_exits (id_of x) r 0 (output_kinds x)) && all_stay (used_entries (regions_giving [] rs) 0 (first_args rs)))
gamma_is r (node id op inputs qs) rs g e =
    subst₂ (λ (o : Op) (ps : RegionTrees). is_some (shrunk r (node id o inputs qs))
    ≡ not (all_stay (used_exits id r 0 (outputs_of o qs)) && all_stay (used_entries (regions_giving [] ps) 0 (first_args ps))))
    (sym g) e (by (all_stay exits) refl)
  where
    exits : List Bool
    exits = exits_of id r qs

    same : (t : Bool) → is_some (cond t None (Some (entries_kept id (entries_of id r qs) (exits_kept id exits r)))) ≡ not t
    same true = refl
    same false = refl

    by : (t : Bool) → all_stay exits ≡ t → is_some (gamma_shrunk id r qs) ≡ not (all_stay exits && all_stay (used_entries (regions_giving [] qs) 0 (first_args qs)))
    by true a = same (all_stay exits && all_stay (entries_of id r qs)) ∙ ap (λ ps. not (all_stay exits && all_stay (used_entries ps 0 (first_args qs)))) (all_giving exits qs a)
    by false a = same (all_stay exits && all_stay (entries_of id r qs)) ∙ (λ i. not (a i && all_stay (entries_of id r qs)))
        ∙ (λ i. not (sym a i && all_stay (used_entries (regions_giving [] qs) 0 (first_args qs))))

pub theta_none : (r : RegionTree) (id : ℕ) (op : Op) (inputs : List Origin) (rs : List RegionTree) → op ≡ Theta → (length rs ≡ 1 → ⊥) → shrunk r (node id op inputs (regions_of rs)) ≡ None
theta_none r id op inputs rs g h = subst (λ (o : Op). shrunk r (node id o inputs (regions_of rs)) ≡ None) (sym g) (by rs h)
  where
    by : (qs : List RegionTree) → (length qs ≡ 1 → ⊥) → shrunk r (node id Theta inputs (regions_of qs)) ≡ None
    by [] k = refl
    by (q ∷ []) k = absurd (k refl)
    by (q ∷ p ∷ qs) k = refl

pub here_at : (n : ℕ) (args : List Kind) (ns : NodeTrees) (results : List Origin) (x : NodeTree) → node_at n ns ≡ Some x →
    eliminated (region args ns results) x ≡ dne_here n (region args ns results)
here_at n args ns results x e = sym (ap (option_and_then (eliminated (region args ns results))) e)
