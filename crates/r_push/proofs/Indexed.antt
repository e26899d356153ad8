-- The node that is left, found by its index, and what comes in its place in the list.
use Rattle.std.specs.Option.{option_or}
use Rattle.std.specs.Prelude.{slice_index_or, slice_set, is_some, option_and_then}
use Rattle.std.specs.List.{insert}
use Rattle.std.proofs.Common.{◌≡◌, ◌≤◌, ◌<◌, ◌+◌, ℕ, zero, suc, Bool, true, false, ◌&&◌, cond, List, [], ◌∷◌, ◌++◌, length, take, drop, Option, None, Some, option_map, refl, sym, ap, ap₂, ◌∙◌, arith}
use Rattle.std.proofs.lemmas.Bool.{and_parts}
use Rattle.std.proofs.lemmas.List.{map-append}
use Rattle.std.proofs.lemmas.Option.{same_Some, cond_some}
use Rattle.g_graph.specs.declared.op.Op.TheVariants.{Const, Undef, Local, Delta, Bin, Un, Load, Store, Clear, PtrEq, Apply, Put, Exit, Get, Gamma, Theta}
use Rattle.g_graph.specs.declared.op.Kind.TheVariants.{Value}
use Rattle.g_graph.specs.declared.op.Origin.{Origin}
use Rattle.g_graph.specs.declared.op.Origin.TheVariants.{Arg, Out}
use Rattle.g_graph.specs.Plain.{RegionTree, region, NodeTree, node, NodeTrees, node_then, RegionTrees, no_regions, region_then, nodes_of, results_of, inputs_in, has_none}
use Rattle.g_graph.specs.Nodes.{node_at, is_used}
use Rattle.g_graph.specs.Replace.{node_redirected, origin_replaced, nodes_redirected}
use Rattle.g_graph.specs.Signatures.{is_pure}
use Rattle.g_graph.specs.Splice.{args_to_inputs, joined_nodes}
use Rattle.g_graph.specs.WellFormed.{all_of}
use Rattle.g_graph.proofs.lemmas.Splices.{nodes_of_append}
use Rattle.r_edit.specs.Removal.{nodes_without}
use Rattle.r_edit.specs.Size.{may_change_size}
use Rattle.r_push.specs.Edit.{left, outer, has_no_regions, lengthened, all_lengthened, widened_by, widened, push_index}
use Rattle.r_push.specs.Rule.{names_argument, may_leave, only, leaving, leaving_one, is_invariant, carried, regions_carried, looped, placed, growth, can_count, pushed, pushed_within, nodes_pushed}

-- ---- the node, by its index

least : (v n first k : ℕ) (xs : List NodeTree) → push_index v n first (nodes_of xs) ≡ Some k → first ≤ k
least v n first k [] e = absurd cc
least v n first k (x ∷ xs) e = by (is_some (pushed_within v n x)) e (least v n (suc first) k xs)
  where
    by : (t : Bool) → cond t (Some first) (push_index v n (suc first) (nodes_of xs)) ≡ Some k → (push_index v n (suc first) (nodes_of xs) ≡ Some k → suc first ≤ k) → first ≤ k
    by true d rest = omega (arith, same_Some first k d)
    by false d rest = omega (arith, rest d)

pub record Found (v n i : ℕ) (xs : List NodeTree) : Type 0 where
  pub bound : i < length xs
  pub can : (x : NodeTree) → x ≡ slice_index_or xs i x → is_some (pushed_within v n x) ≡ true
  pub gives : (x : NodeTree) (two : NodeTrees) → x ≡ slice_index_or xs i x → pushed_within v n x ≡ Some two →
      nodes_pushed v n (nodes_of xs) ≡ Some (joined_nodes (nodes_of (take i xs)) (joined_nodes two (nodes_of (drop (suc i) xs))))

found-from : (v n first i : ℕ) (xs : List NodeTree) → push_index v n first (nodes_of xs) ≡ Some (first + i) → Found v n i xs
found-from v n first i [] e = absurd cc
found-from v n first zero (x ∷ xs) e = by (is_some (pushed_within v n x)) refl e
  where
    by : (t : Bool) → is_some (pushed_within v n x) ≡ t → cond t (Some first) (push_index v n (suc first) (nodes_of xs)) ≡ Some (first + 0) → Found v n zero (x ∷ xs)
    by true t d =
        record {
          bound = omega arith;
          can = λ y h. ap (λ z. is_some (pushed_within v n z)) h ∙ t;
          gives = λ y two h g.
              ap (λ o. option_or (option_map (λ part. joined_nodes part (nodes_of xs)) o) (option_map (node_then x) (nodes_pushed v n (nodes_of xs)))) (ap (pushed_within v n) (sym h) ∙ g);
        }
    by false t d = absurd (omega (arith, least v n (suc first) (first + 0) xs d))
found-from v n first (suc i) (x ∷ xs) e = by (pushed_within v n x) refl e (found-from v n (suc first) i xs)
  where
    by : (o : Option NodeTrees) → pushed_within v n x ≡ o → cond (is_some o) (Some first) (push_index v n (suc first) (nodes_of xs)) ≡ Some (first + suc i) →
        (push_index v n (suc first) (nodes_of xs) ≡ Some (suc first + i) → Found v n i xs) → Found v n (suc i) (x ∷ xs)
    by (Some two) o d rest = absurd (omega (arith, same_Some first (first + suc i) d))
    by None o d rest =
        let f = rest (d ∙ ap Some (omega arith)) in
        record {
          bound = omega (arith, f.bound);
          can = f.can;
          gives = λ y two h g.
              ap₂ (λ a b. option_or (option_map (λ part. joined_nodes part (nodes_of xs)) a) (option_map (node_then x) b)) o (f.gives y two h g);
        }

pub found-index : (v n i : ℕ) (xs : List NodeTree) → push_index v n 0 (nodes_of xs) ≡ Some i → Found v n i xs
found-index v n i xs e = found-from v n 0 i xs (e ∙ ap Some (omega arith))

none-from : (v n first : ℕ) (xs : List NodeTree) → push_index v n first (nodes_of xs) ≡ None → nodes_pushed v n (nodes_of xs) ≡ None
none-from v n first [] e = refl
none-from v n first (x ∷ xs) e = by (pushed_within v n x) refl e (none-from v n (suc first) xs)
  where
    by : (o : Option NodeTrees) → pushed_within v n x ≡ o → cond (is_some o) (Some first) (push_index v n (suc first) (nodes_of xs)) ≡ None →
        (push_index v n (suc first) (nodes_of xs) ≡ None → nodes_pushed v n (nodes_of xs) ≡ None) → nodes_pushed v n (node_then x (nodes_of xs)) ≡ None
    by (Some two) o d rest = absurd cc
    by None o d rest = ap₂ (λ a b. option_or (option_map (λ part. joined_nodes part (nodes_of xs)) a) (option_map (node_then x) b)) o (rest d)

pub none-index : (v n : ℕ) (xs : List NodeTree) → push_index v n 0 (nodes_of xs) ≡ None → nodes_pushed v n (nodes_of xs) ≡ None
none-index v n xs e = none-from v n 0 xs e

-- ---- the change of the node

lengthened-carried : (n : ℕ) (rs : RegionTrees) → all_lengthened n false rs ≡ regions_carried n rs
lengthened-carried n no_regions = refl
lengthened-carried n (region_then (region args nodes results) rs) = ap (region_then (carried n (region args nodes results))) (lengthened-carried n rs)

lengthened-looped : (n : ℕ) (r : RegionTree) → lengthened n true r ≡ looped n r
lengthened-looped n (region args nodes results) =
    let move = origin_replaced (Out n 0) (Arg (length args)) in
    ap (λ os. region (args ++ Value ∷ []) (nodes_without n (nodes_redirected move nodes)) os) (map-append move results (Arg (length args) ∷ []))

pub pushed-is : (n : ℕ) (x y : NodeTree) → left n x ≡ Some y → pushed n x ≡ Some (placed (outer x) y (widened n x))
pushed-is n (node id Gamma (p ∷ entries) rs) y e =
    ap (option_map (λ z. placed entries z (node id Gamma ((p ∷ entries) ++ Out n 0 ∷ []) (regions_carried n rs)))) e
    ∙ ap (λ ss. Some (placed entries y (node id Gamma ((p ∷ entries) ++ Out n 0 ∷ []) ss))) (sym (lengthened-carried n rs))
pushed-is n (node id Theta inputs (region_then r no_regions)) y e =
    ap (option_map (λ z. placed inputs z (node id Theta (inputs ++ Out n 0 ∷ []) (region_then (looped n r) no_regions)))) e
    ∙ ap (λ s. Some (placed inputs y (node id Theta (inputs ++ Out n 0 ∷ []) (region_then s no_regions)))) (sym (lengthened-looped n r))
pushed-is n (node id Gamma [] rs) y e = absurd cc
pushed-is n (node id Theta inputs no_regions) y e = absurd cc
pushed-is n (node id Theta inputs (region_then r (region_then s rs))) y e = absurd cc
pushed-is n (node id (Const w) inputs rs) y e = absurd cc
pushed-is n (node id Undef inputs rs) y e = absurd cc
pushed-is n (node id (Local k) inputs rs) y e = absurd cc
pushed-is n (node id (Delta k) inputs rs) y e = absurd cc
pushed-is n (node id (Bin o) inputs rs) y e = absurd cc
pushed-is n (node id (Un o) inputs rs) y e = absurd cc
pushed-is n (node id (Load w) inputs rs) y e = absurd cc
pushed-is n (node id (Store w) inputs rs) y e = absurd cc
pushed-is n (node id (Clear k) inputs rs) y e = absurd cc
pushed-is n (node id PtrEq inputs rs) y e = absurd cc
pushed-is n (node id (Apply f) inputs rs) y e = absurd cc
pushed-is n (node id Put inputs rs) y e = absurd cc
pushed-is n (node id Exit inputs rs) y e = absurd cc
pushed-is n (node id Get inputs rs) y e = absurd cc

pub pushed-none : (n : ℕ) (x : NodeTree) → left n x ≡ None → pushed n x ≡ None
pushed-none n (node id Gamma (p ∷ entries) rs) e = ap (option_map (λ z. placed entries z (node id Gamma ((p ∷ entries) ++ Out n 0 ∷ []) (regions_carried n rs)))) e
pushed-none n (node id Theta inputs (region_then r no_regions)) e = ap (option_map (λ z. placed inputs z (node id Theta (inputs ++ Out n 0 ∷ []) (region_then (looped n r) no_regions)))) e
pushed-none n (node id Gamma [] rs) e = refl
pushed-none n (node id Theta inputs no_regions) e = refl
pushed-none n (node id Theta inputs (region_then r (region_then s rs))) e = refl
pushed-none n (node id (Const w) inputs rs) e = refl
pushed-none n (node id Undef inputs rs) e = refl
pushed-none n (node id (Local k) inputs rs) e = refl
pushed-none n (node id (Delta k) inputs rs) e = refl
pushed-none n (node id (Bin o) inputs rs) e = refl
pushed-none n (node id (Un o) inputs rs) e = refl
pushed-none n (node id (Load w) inputs rs) e = refl
pushed-none n (node id (Store w) inputs rs) e = refl
pushed-none n (node id (Clear k) inputs rs) e = refl
pushed-none n (node id PtrEq inputs rs) e = refl
pushed-none n (node id (Apply f) inputs rs) e = refl
pushed-none n (node id Put inputs rs) e = refl
pushed-none n (node id Exit inputs rs) e = refl
pushed-none n (node id Get inputs rs) e = refl

leaving-none : (test : Origin → Bool) (n : ℕ) (r : RegionTree) (y : NodeTree) → leaving test n r ≡ Some y → has_no_regions y ≡ true
leaving-none test n (region args nodes results) y e = by (node_at n nodes) e
  where
    by : (found : Option NodeTree) → option_and_then (λ x. only (may_leave test (region args nodes results) x) x) found ≡ Some y → has_no_regions y ≡ true
    by None f = absurd cc
    by (Some (node id op inputs rs)) f =
        let may = cond_some (may_leave test (region args nodes results) (node id op inputs rs)) (node id op inputs rs) y f in
        let front = and_parts (is_pure op && has_none rs && all_of test inputs) (is_used (Out id 0) (region args nodes results)) may.0 in
        let own = and_parts (is_pure op && has_none rs) (all_of test inputs) front.0 in
        ap has_no_regions (sym may.1) ∙ (and_parts (is_pure op) (has_none rs) own.0).1

one-none : (n : ℕ) (rs : RegionTrees) (y : NodeTree) → leaving_one n rs ≡ Some y → has_no_regions y ≡ true
one-none n no_regions y e = absurd cc
one-none n (region_then r rs) y e = by (leaving names_argument n r) refl e (one-none n rs y)
  where
    by : (first : Option NodeTree) → leaving names_argument n r ≡ first → option_or first (leaving_one n rs) ≡ Some y → (leaving_one n rs ≡ Some y → has_no_regions y ≡ true) → has_no_regions y ≡ true
    by (Some z) d f rest = leaving-none names_argument n r y (d ∙ f)
    by None d f rest = rest f

pub left_none : (n : ℕ) (x y : NodeTree) → left n x ≡ Some y → has_no_regions y ≡ true
left_none n (node id Gamma (p ∷ entries) rs) y e = one-none n rs y e
left_none n (node id Theta inputs (region_then r no_regions)) y e = leaving-none (is_invariant (results_of r)) n r y e
left_none n (node id Gamma [] rs) y e = absurd cc
left_none n (node id Theta inputs no_regions) y e = absurd cc
left_none n (node id Theta inputs (region_then r (region_then s rs))) y e = absurd cc
left_none n (node id (Const w) inputs rs) y e = absurd cc
left_none n (node id Undef inputs rs) y e = absurd cc
left_none n (node id (Local k) inputs rs) y e = absurd cc
left_none n (node id (Delta k) inputs rs) y e = absurd cc
left_none n (node id (Bin o) inputs rs) y e = absurd cc
left_none n (node id (Un o) inputs rs) y e = absurd cc
left_none n (node id (Load w) inputs rs) y e = absurd cc
left_none n (node id (Store w) inputs rs) y e = absurd cc
left_none n (node id (Clear k) inputs rs) y e = absurd cc
left_none n (node id PtrEq inputs rs) y e = absurd cc
left_none n (node id (Apply f) inputs rs) y e = absurd cc
left_none n (node id Put inputs rs) y e = absurd cc
left_none n (node id Exit inputs rs) y e = absurd cc
left_none n (node id Get inputs rs) y e = absurd cc

-- what a node that is left is known by
pub within-parts : (v n : ℕ) (x : NodeTree) → is_some (pushed_within v n x) ≡ true → (can_count x ≡ true) × (is_some (pushed n x) ≡ true) × (pushed_within v n x ≡ pushed n x)
within-parts v n x e = by (may_change_size v (growth x) 0 && can_count x) refl e
  where
    by : (t : Bool) → (may_change_size v (growth x) 0 && can_count x) ≡ t → is_some (cond t (pushed n x) None) ≡ true →
        (can_count x ≡ true) × (is_some (pushed n x) ≡ true) × (pushed_within v n x ≡ pushed n x)
    by true t d = ((and_parts (may_change_size v (growth x) 0) (can_count x) t).1, d, ap (λ b. cond b (pushed n x) None) t)
    by false t d = absurd cc

-- ---- the list

pub index-insert : (xs : List NodeTree) (i : ℕ) (m d : NodeTree) → i < length xs → slice_index_or (insert xs i m) (suc i) d ≡ slice_index_or xs i d
index-insert [] i m d h = absurd (omega (arith, h))
index-insert (x ∷ xs) zero m d h = refl
index-insert (x ∷ xs) (suc i) m d h = index-insert xs i m d (omega (arith, h))

pub set-insert : (xs : List NodeTree) (i : ℕ) (m w : NodeTree) → i < length xs → slice_set (insert xs i m) (suc i) w ≡ take i xs ++ m ∷ w ∷ drop (suc i) xs
set-insert [] i m w h = absurd (omega (arith, h))
set-insert (x ∷ xs) zero m w h = refl
set-insert (x ∷ xs) (suc i) m w h = ap (λ zs. x ∷ zs) (set-insert xs i m w (omega (arith, h)))

-- all of it
pub pushed-at : (v n i : ℕ) (xs : List NodeTree) (x y m w : NodeTree) → push_index v n 0 (nodes_of xs) ≡ Some i → x ≡ slice_index_or xs i x → left n x ≡ Some y →
    m ≡ node_redirected (args_to_inputs (outer x)) y → w ≡ widened n x → nodes_pushed v n (nodes_of xs) ≡ Some (nodes_of (slice_set (insert xs i m) (suc i) w))
pushed-at v n i xs x y m w e at l moved wide =
    let f = found-index v n i xs e in
    let parts = within-parts v n x (f.can x at) in
    f.gives x (placed (outer x) y (widened n x)) at (parts.2 ∙ pushed-is n x y l)
    ∙ ap Some (ap₂ (λ a b. joined_nodes (nodes_of (take i xs)) (node_then a (node_then b (nodes_of (drop (suc i) xs))))) (sym moved) (sym wide)
    ∙ sym (nodes_of_append (take i xs) (m ∷ w ∷ drop (suc i) xs)) ∙ ap nodes_of (sym (set-insert xs i m w f.bound)))

pub left-there : (v n i : ℕ) (xs : List NodeTree) (x : NodeTree) → push_index v n 0 (nodes_of xs) ≡ Some i → x ≡ slice_index_or xs i x → left n x ≡ None → ⊥
left-there v n i xs x e at none =
    let parts = within-parts v n x ((found-index v n i xs e).can x at) in
    let wrong : false ≡ true = sym (ap is_some (pushed-none n x none)) ∙ parts.1 in
    absurd cc

pub left-some : (v n i : ℕ) (xs : List NodeTree) (x : NodeTree) → push_index v n 0 (nodes_of xs) ≡ Some i → x ≡ slice_index_or xs i x → is_some (left n x) ≡ true
left-some v n i xs x e at = by (left n x) refl
  where
    by : (o : Option NodeTree) → left n x ≡ o → is_some (left n x) ≡ true
    by (Some y) d = ap is_some d
    by None d = absurd (left-there v n i xs x e at d)

-- the same, by what the code makes
pub pushed-by : (v n i : ℕ) (xs : List NodeTree) (x m w : NodeTree) (inputs : List Origin) → push_index v n 0 (nodes_of xs) ≡ Some i → x ≡ slice_index_or xs i x →
    option_map (node_redirected (args_to_inputs (outer x))) (left n x) ≡ Some m → inputs ≡ inputs_in x ++ Out n 0 ∷ [] → w ≡ widened_by n inputs x →
    nodes_pushed v n (nodes_of xs) ≡ Some (nodes_of (slice_set (insert xs i m) (suc i) w))
pushed-by v n i xs x m w inputs e at moved more wide = by (left n x) refl moved
  where
    by : (o : Option NodeTree) → left n x ≡ o → option_map (node_redirected (args_to_inputs (outer x))) o ≡ Some m → nodes_pushed v n (nodes_of xs) ≡
        Some (nodes_of (slice_set (insert xs i m) (suc i) w))
    by None d f = absurd cc
    by (Some y) d f = pushed-at v n i xs x y m w e at d (sym (same_Some (node_redirected (args_to_inputs (outer x)) y) m f)) (wide ∙ ap (λ os. widened_by n os x) more)

same-index : (xs : List NodeTree) (i : ℕ) (x y : NodeTree) → i < length xs → x ≡ slice_index_or xs i x → y ≡ slice_index_or xs i y → x ≡ y
same-index [] i x y h e d = absurd (omega (arith, h))
same-index (z ∷ xs) zero x y h e d = e ∙ sym d
same-index (z ∷ xs) (suc i) x y h e d = same-index xs i x y (omega (arith, h)) e d

-- the node stands after the one that came before it
pub node-after : (v n i : ℕ) (xs ys : List NodeTree) (m x r : NodeTree) → push_index v n 0 (nodes_of xs) ≡ Some i → ys ≡ insert xs i m → x ≡ slice_index_or xs i x → r ≡ slice_index_or ys (i + 1) r →
    r ≡ x
node-after v n i xs ys m x r e is at after =
    let bound = (found-index v n i xs e).bound in
    let next : i + 1 ≡ suc i = omega arith in
    same-index xs i r x bound (after ∙ ap (λ k. slice_index_or ys k r) next ∙ ap (λ zs. slice_index_or zs (suc i) r) is ∙ index-insert xs i m r bound) at

pub nodes-are : (i : ℕ) (xs ys : List NodeTree) (m w : NodeTree) → ys ≡ insert xs i m → slice_set (insert xs i m) (suc i) w ≡ slice_set ys (i + 1) w
nodes-are i xs ys m w is = let next : i + 1 ≡ suc i = omega arith in λ j. slice_set (sym is j) (sym next j) w
