-- A rule that cannot change the region that holds a node does not apply there.
use Rattle.std.proofs.Common.{◌≡◌, ◌++◌, ℕ, zero, suc, ◌==◌, ◌<◌, ◌||◌, Bool, true, false, List, [], ◌∷◌, Option, Some, None, option_map, option_and_then, length, get_or, slice_get, refl, sym, ap, subst, ◌∙◌}
use Rattle.std.specs.Prelude.{if◌then◌else◌, is_some}
use Rattle.std.proofs.lemmas.Option.{slice_get_read}
use Rattle.r_rule.specs.declared.steps.Rule.{Rule}
use Rattle.r_rule.specs.declared.steps.Rule.TheVariants.{Fold, Cne, Dne, Inv, Push, Pull, Invert, Unroll, Inline}
use Rattle.g_graph.specs.declared.op.Op.TheVariants.{Const, Undef, Local, Delta, Bin, Un, Load, Store, Clear, PtrEq, Apply, Put, Exit, Get, Gamma, Theta}
use Rattle.g_graph.specs.declared.op.Origin.TheVariants.{Out}
use Rattle.g_graph.specs.Change.{region_changed, has_node}
use Rattle.g_graph.specs.Ids.{region_ids, node_ids, nodes_ids}
use Rattle.g_graph.specs.Nodes.{node_at, node_set}
use Rattle.g_graph.specs.Plain.{RegionTree, region, NodeTree, node, NodeTrees, no_nodes, node_then, RegionTrees, no_regions, region_then, nodes_of, regions_of, nodes_in, regions_in, id_of, op_of, PlainLambda}
use Rattle.g_graph.specs.Program.{lambda_values}
use Rattle.g_graph.specs.Splice.{joined_nodes, region_spliced}
use Rattle.g_graph.specs.WellFormed.{distinct, IsWellFormed}
use Rattle.g_graph.proofs.lemmas.Change.{is_some_map}
use Rattle.g_graph.proofs.lemmas.Unique.{counts_of_distinct, same_number}
use Rattle.g_mean.specs.Copies.{IsAmong}
use Rattle.g_mean.proofs.lemmas.Copies.{among-left, among-right}
use Rattle.g_mean.proofs.lemmas.Edits.{distinct-split}
use Rattle.g_mean.proofs.lemmas.Holds.{id-among, distinct-apart}
use Rattle.r_sweep.proofs.lemmas.Regions.{holder_changed}
use Rattle.r_walk.specs.Context.{joined_regions, ChangesOnlyAt}
use Rattle.r_walk.proofs.lemmas.Contexts.{body_context, inner_context, whole_part}
use Rattle.r_walk.proofs.lemmas.Local.{not_found, ids_in}
use Rattle.r_fold.specs.Rule.{folding, folded, fold_here}
use Rattle.r_cne.specs.Rule.{earlier, cne_here}
use Rattle.r_dne.specs.Rule.{eliminated, dne_here}
use Rattle.r_inv.specs.Rule.{moved, inv_here}
use Rattle.r_invert.specs.Rule.{in_place, invert_here}
use Rattle.r_unroll.specs.Rule.{node_unrolled, unroll_here}
use Rattle.r_edit.specs.Uses.{uses_replaced}
use Rattle.g_pass.specs.Placed.{change_in, is_loop, loop_at, IsPlaced}
use Rattle.g_pass.specs.Sweep.{applied, step}

-- what was read at an index
pub item_at : {X : Type 0} (given xs : List X) (i : ℕ) (x : X) → given ≡ xs → i < length given → x ≡ get_or given i x → slice_get xs i ≡ Some x
item_at given xs i x same within read = ap (λ ys. slice_get ys i) (sym same) ∙ slice_get_read given (length given) i x refl within read

-- ---- a region of a node of a region

-- the nodes before and after one
record NodeAmong (ns : NodeTrees) (x : NodeTree) : Type 0 where
  before : NodeTrees
  after : NodeTrees
  is : ns ≡ joined_nodes before (node_then x after)

node_among : (xs : List NodeTree) (i : ℕ) (x : NodeTree) → slice_get xs i ≡ Some x → NodeAmong (nodes_of xs) x
node_among [] i x e = absurd cc
node_among (y ∷ ys) zero x e = let same : y ≡ x = cc in record { before = no_nodes; after = nodes_of ys; is = ap (λ z. node_then z (nodes_of ys)) same }
node_among (y ∷ ys) (suc i) x e = let s = node_among ys i x e in record { before = node_then y s.before; after = s.after; is = ap (node_then y) s.is }

-- the regions before and after one
record RegionAmong (rs : RegionTrees) (r : RegionTree) : Type 0 where
  before : RegionTrees
  after : RegionTrees
  is : rs ≡ joined_regions before (region_then r after)

region_among : (rs : List RegionTree) (i : ℕ) (r : RegionTree) → slice_get rs i ≡ Some r → RegionAmong (regions_of rs) r
region_among [] i r e = absurd cc
region_among (s ∷ ss) zero r e = let same : s ≡ r = cc in record { before = no_regions; after = regions_of ss; is = ap (λ z. region_then z (regions_of ss)) same }
region_among (s ∷ ss) (suc i) r e = let t = region_among ss i r e in record { before = region_then s t.before; after = t.after; is = ap (region_then s) t.is }

pub body_is_placed : (r : RegionTree) → IsPlaced r r
body_is_placed r = record { context = λ s. s; around = body_context; is = refl }

inner_placed : (r body : RegionTree) (x : NodeTree) (s : RegionTree) → IsPlaced r body → NodeAmong (nodes_in r) x → RegionAmong (regions_in x) s → IsPlaced s body
inner_placed (region args ns results) body (node id op inputs rs) s placed nodes regions = record {
  context = λ t. placed.context (region args (joined_nodes nodes.before (node_then (node id op inputs (joined_regions regions.before (region_then t regions.after))) nodes.after)) results);
  around = inner_context placed.context placed.around args nodes.before id op inputs regions.before regions.after nodes.after results;
  is = placed.is
      ∙ ap (λ ms. placed.context (region args ms results))
      (nodes.is ∙ ap (λ ss. joined_nodes nodes.before (node_then (node id op inputs ss) nodes.after)) regions.is);
}

pub region_is_placed : (r body : RegionTree) (xs : List NodeTree) (i : ℕ) (x : NodeTree) (ss : List RegionTree) (j : ℕ) (s : RegionTree) → nodes_in r ≡ nodes_of xs → slice_get xs i ≡ Some x →
    regions_in x ≡ regions_of ss → slice_get ss j ≡ Some s → IsPlaced r body → IsPlaced s body
region_is_placed r body xs i x ss j s e f g h placed =
    inner_placed r body x s placed (subst (λ ns. NodeAmong ns x) (sym e) (node_among xs i x f)) (subst (λ rs. RegionAmong rs s) (sym g) (region_among ss j s h))

-- ---- the node of an index

pub node_is_there : (xs : List NodeTree) (i : ℕ) (x : NodeTree) (n : ℕ) → slice_get xs i ≡ Some x → (id_of x == n) ≡ true → has_node n (nodes_of xs) ≡ true
node_is_there [] i x n e h = absurd cc
node_is_there (y ∷ ys) zero x n e h = let same : y ≡ x = cc in ap (λ t. t || has_node n (nodes_of ys)) (ap (λ z. id_of z == n) same ∙ h)
node_is_there (y ∷ ys) (suc i) x n e h = by (id_of y == n) (node_is_there ys i x n e h)
  where
    by : (t : Bool) → has_node n (nodes_of ys) ≡ true → (t || has_node n (nodes_of ys)) ≡ true
    by true k = refl
    by false k = k

-- ---- a change of the region that holds a node

there_among : (n : ℕ) (ns : NodeTrees) → has_node n ns ≡ true → IsAmong n (nodes_ids ns)
there_among n no_nodes e = absurd cc
there_among n (node_then x xs) e = by (id_of x == n) refl e (there_among n xs)
  where
    by : (t : Bool) → (id_of x == n) ≡ t → (t || has_node n xs) ≡ true → (has_node n xs ≡ true → IsAmong n (nodes_ids xs)) → IsAmong n (node_ids x ++ nodes_ids xs)
    by true q d h = among-left n (node_ids x) (nodes_ids xs) (subst (λ z. IsAmong z (node_ids x)) (same_number (id_of x) n q) (id-among x))
    by false q d h = among-right n (node_ids x) (nodes_ids xs) (h d)

module _ (n : ℕ) (f : RegionTree → Option RegionTree) (only : ChangesOnlyAt n f) (l : PlainLambda) (well : IsWellFormed l) (r : RegionTree) (placed : IsPlaced r l.body)
    (h : has_node n (nodes_in r) ≡ true) where
  abbrev first : List ℕ
  first = placed.around.first

  abbrev last : List ℕ
  last = placed.around.last

  all-apart : distinct ((first ++ region_ids r) ++ last) ≡ true
  all-apart = subst (λ ids. distinct ids ≡ true) (ap region_ids placed.is ∙ placed.around.numbers r) (whole_part l well).unique

  among : IsAmong n (region_ids r)
  among = subst (IsAmong n) (ids_in r) (there_among n (nodes_in r) h)

  own-apart : distinct (region_ids r) ≡ true
  own-apart = (distinct-split first (region_ids r) (distinct-split (first ++ region_ids r) last all-apart).0).1

  changed_as_here : is_some (region_changed f l.body) ≡ is_some (f r)
  changed_as_here =
      ap is_some
      (ap (region_changed f) placed.is
      ∙ placed.around.changes n f r only (λ k. distinct-apart first (region_ids r) (distinct-split (first ++ region_ids r) last all-apart).0 n k among)
      (λ k. distinct-apart (first ++ region_ids r) last all-apart n (among-right n first (region_ids r) among) k)
      ∙ ap (option_map placed.context) (holder_changed n f only r (record { has = h; once = counts_of_distinct (region_ids r) own-apart })))
      ∙ is_some_map placed.context (f r)

-- ---- the rules that are asked step by step

folds_there : (n : ℕ) → ChangesOnlyAt n (fold_here n)
folds_there n (region args nodes results) e = ap (λ o. option_and_then (λ f. folded n (region args nodes results) f) (option_and_then (folding nodes) o)) (not_found n nodes e)

replaces_there : (n : ℕ) → ChangesOnlyAt n (cne_here n)
replaces_there n (region args nodes results) e =
    ap (λ o. option_and_then (λ m. uses_replaced (Out n 0) (Out m 0) (region args nodes results)) (option_and_then (earlier nodes) o)) (not_found n nodes e)

eliminates_there : (n : ℕ) → ChangesOnlyAt n (dne_here n)
eliminates_there n (region args nodes results) e = ap (option_and_then (eliminated (region args nodes results))) (not_found n nodes e)

moves_there : (n : ℕ) → ChangesOnlyAt n (inv_here n)
moves_there n (region args nodes results) e = ap (option_and_then (moved (region args nodes results))) (not_found n nodes e)

inverts_there : (values next n : ℕ) → ChangesOnlyAt n (invert_here values next n)
inverts_there values next n (region args nodes results) e =
    ap (λ o. option_map (λ part. region_spliced n part (region args nodes results)) (option_and_then (in_place values next) o)) (not_found n nodes e)

unrolls_there : (values next n : ℕ) → ChangesOnlyAt n (unroll_here values next n)
unrolls_there values next n (region args nodes results) e =
    ap (λ o. option_map (λ y. region args (node_set n y nodes) results) (option_and_then (node_unrolled values next) o)) (not_found n nodes e)

-- what is no loop has nothing in its place
no_loop : (values next : ℕ) (x : NodeTree) → is_loop (op_of x) ≡ false → (in_place values next x ≡ None) × (node_unrolled values next x ≡ None)
no_loop values next (node id (Const w) inputs rs) e = (refl, refl)
no_loop values next (node id Undef inputs rs) e = (refl, refl)
no_loop values next (node id (Local k) inputs rs) e = (refl, refl)
no_loop values next (node id (Delta k) inputs rs) e = (refl, refl)
no_loop values next (node id (Bin op) inputs rs) e = (refl, refl)
no_loop values next (node id (Un op) inputs rs) e = (refl, refl)
no_loop values next (node id (Load width) inputs rs) e = (refl, refl)
no_loop values next (node id (Store width) inputs rs) e = (refl, refl)
no_loop values next (node id (Clear k) inputs rs) e = (refl, refl)
no_loop values next (node id PtrEq inputs rs) e = (refl, refl)
no_loop values next (node id (Apply f) inputs rs) e = (refl, refl)
no_loop values next (node id Put inputs rs) e = (refl, refl)
no_loop values next (node id Exit inputs rs) e = (refl, refl)
no_loop values next (node id Get inputs rs) e = (refl, refl)
no_loop values next (node id Gamma inputs rs) e = (refl, refl)
no_loop values next (node id Theta inputs rs) e = absurd cc

no_loop_there : (values next n : ℕ) (r : RegionTree) → is_some (loop_at n r) ≡ false → (invert_here values next n r ≡ None) × (unroll_here values next n r ≡ None)
no_loop_there values next n (region args nodes results) e = by (node_at n nodes) e
  where
    by : (o : Option NodeTree) → is_some (option_and_then (λ x. if is_loop (op_of x) then Some (region args nodes results) else None) o) ≡ false →
        (option_map (λ part. region_spliced n part (region args nodes results)) (option_and_then (in_place values next) o) ≡ None)
        × (option_map (λ y. region args (node_set n y nodes) results) (option_and_then (node_unrolled values next) o) ≡ None)
    by None e = (refl, refl)
    by (Some x) e = at_node (is_loop (op_of x)) refl e
      where
        at_node : (t : Bool) → is_loop (op_of x) ≡ t → is_some (if t then Some (region args nodes results) else None) ≡ false →
            (option_map (λ part. region_spliced n part (region args nodes results)) (in_place values next x) ≡ None)
            × (option_map (λ y. region args (node_set n y nodes) results) (node_unrolled values next x) ≡ None)
        at_node true q d = absurd cc
        at_node false q d =
            let none = no_loop values next x q in
            (ap (option_map (λ part. region_spliced n part (region args nodes results))) none.0, ap (option_map (λ y. region args (node_set n y nodes) results)) none.1)

no_step : (a : Bool) (k : PlainLambda) → a ≡ false → (if a then Some k else None) ≡ None
no_step a k e = ap (λ t. if t then Some k else None) e

-- a rule that cannot change the region that holds node n makes no step there
pub makes_no_step : (rule : Rule) (n : ℕ) (l : PlainLambda) → IsWellFormed l → (r : RegionTree) → IsPlaced r l.body → has_node n (nodes_in r) ≡ true →
    is_some (change_in rule n r) ≡ false → (callees : List PlainLambda) → step rule callees n l ≡ None
makes_no_step Fold n l well r placed h e callees = no_step _ (applied Fold n l) (changed_as_here n (fold_here n) (folds_there n) l well r placed h ∙ e)
makes_no_step Cne n l well r placed h e callees = no_step _ (applied Cne n l) (changed_as_here n (cne_here n) (replaces_there n) l well r placed h ∙ e)
makes_no_step Dne n l well r placed h e callees = no_step _ (applied Dne n l) (changed_as_here n (dne_here n) (eliminates_there n) l well r placed h ∙ e)
makes_no_step Inv n l well r placed h e callees = no_step _ (applied Inv n l) (changed_as_here n (inv_here n) (moves_there n) l well r placed h ∙ e)
makes_no_step Push n l well r placed h e callees = absurd cc
makes_no_step Pull n l well r placed h e callees = absurd cc
makes_no_step Invert n l well r placed h e callees =
    let f = invert_here (lambda_values l) l.next n in
    no_step _ (applied Invert n l) (changed_as_here n f (inverts_there (lambda_values l) l.next n) l well r placed h ∙ ap is_some (no_loop_there (lambda_values l) l.next n r e).0)
makes_no_step Unroll n l well r placed h e callees =
    let f = unroll_here (lambda_values l) l.next n in
    no_step _ (applied Unroll n l) (changed_as_here n f (unrolls_there (lambda_values l) l.next n) l well r placed h ∙ ap is_some (no_loop_there (lambda_values l) l.next n r e).1)
makes_no_step Inline n l well r placed h e callees = absurd cc
