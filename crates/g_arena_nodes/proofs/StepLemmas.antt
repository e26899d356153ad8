-- One row, one region and one node more in what rows are made to.
use Rattle.std.proofs.Common.{◌≡◌, ℕ, suc, ◌+◌, ◌*◌, List, [], ◌∷◌, ◌++◌, length, refl, ap, sym, ◌∙◌, arith}
use Rattle.g_graph.specs.Plain.{RegionTree, NodeTree}
use Rattle.g_arena_def.specs.declared.place.Place.{Place}
use Rattle.g_arena_def.specs.Flat.{FlatRegion, FlatNode, place_in}
use Rattle.g_arena_nodes.specs.Made.{left, region_made, regions_made, regions_left, node_made, node_left, all_made, row_size, rows_size}

pub made_push : (xs : List FlatNode) (x : FlatNode) (ms : List (Place × NodeTree)) → all_made (xs ++ x ∷ []) ms ≡ all_made xs ((x.home, node_made x ms) ∷ node_left x ms)
made_push [] x ms = refl
made_push (y ∷ ys) x ms = ap (λ l. (y.home, node_made y l) ∷ node_left y l) (made_push ys x ms)

pub size_push : (xs : List FlatNode) (x : FlatNode) → rows_size (xs ++ x ∷ []) ≡ rows_size xs + row_size x
size_push [] x = omega arith
size_push (y ∷ ys) x = omega (arith, size_push ys x)

pub left_push : (n k : ℕ) (rs : List FlatRegion) (r : FlatRegion) (ms : List (Place × NodeTree)) → regions_left n k (rs ++ r ∷ []) ms ≡ left (place_in n (k + length rs)) (regions_left n k rs ms)
left_push n k [] r ms = ap (λ j. left (place_in n j) ms) (let z : k ≡ k + 0 = omega arith in z)
left_push n k (q ∷ qs) r ms =
    left_push n (suc k) qs r (left (place_in n k) ms)
    ∙ ap (λ j. left (place_in n j) (regions_left n (suc k) qs (left (place_in n k) ms))) (let z : suc k + length qs ≡ k + suc (length qs) = omega arith in z)

pub regions_push : (n k : ℕ) (rs : List FlatRegion) (r : FlatRegion) (ms : List (Place × NodeTree))
    → regions_made n k (rs ++ r ∷ []) ms ≡ regions_made n k rs ms ++ region_made r (place_in n (k + length rs)) (regions_left n k rs ms) ∷ []
regions_push n k [] r ms = ap (λ j. region_made r (place_in n j) ms ∷ []) (let z : k ≡ k + 0 = omega arith in z)
regions_push n k (q ∷ qs) r ms =
    ap (λ l. region_made q (place_in n k) ms ∷ l)
    (regions_push n (suc k) qs r (left (place_in n k) ms)
    ∙ ap (λ j. regions_made n (suc k) qs (left (place_in n k) ms) ++ region_made r (place_in n j) (regions_left n (suc k) qs (left (place_in n k) ms)) ∷ []) (let z : suc k + length qs ≡ k + suc (length qs) = omega arith in z))

pub made_length : (n k : ℕ) (rs : List FlatRegion) (ms : List (Place × NodeTree)) → length (regions_made n k rs ms) ≡ length rs
made_length n k [] ms = refl
made_length n k (r ∷ rs) ms = ap suc (made_length n (suc k) rs (left (place_in n k) ms))

-- ---- the steps of the loops

pub region_more : (n k : ℕ) (ps : List FlatRegion) (p : FlatRegion) (ms before after : List (Place × NodeTree)) (rs rs' : List RegionTree) (r : RegionTree) (q : Place)
    → rs ≡ regions_made n 0 ps ms → before ≡ regions_left n 0 ps ms → k ≡ length rs → q ≡ place_in n k → r ≡ region_made p q before → after ≡ left q before → rs' ≡ rs ++ r ∷ []
    → (rs' ≡ regions_made n 0 (ps ++ p ∷ []) ms) × (after ≡ regions_left n 0 (ps ++ p ∷ []) ms)
region_more n k ps p ms before after rs rs' r q made rest len place is took more =
    let index : k ≡ 0 + length ps = omega (arith, len, ap length made, made_length n 0 ps ms) in
    let at : q ≡ place_in n (0 + length ps) = place ∙ ap (place_in n) index in
    let same : r ≡ region_made p (place_in n (0 + length ps)) (regions_left n 0 ps ms) = is ∙ (λ i. region_made p (at i) (rest i)) in (
      more ∙ (λ i. made i ++ same i ∷ []) ∙ sym (regions_push n 0 ps p ms),
      took ∙ (λ i. left (at i) (rest i)) ∙ sym (left_push n 0 ps p ms),
    )

pub row_more : (xs ys : List FlatNode) (x : FlatNode) (ms before after : List (Place × NodeTree)) (p : Place) (y : NodeTree) (whole : List (Place × NodeTree))
    → all_made xs ms ≡ whole → xs ≡ ys ++ x ∷ [] → p ≡ x.home → y ≡ node_made x ms → before ≡ node_left x ms → after ≡ (p, y) ∷ before → all_made ys after ≡ whole
row_more xs ys x ms before after p y whole h e home made rest more =
    ap (all_made ys) (more ∙ (λ i. (home i, made i) ∷ rest i)) ∙ sym (made_push ys x ms) ∙ ap (λ l. all_made l ms) (sym e) ∙ h

pub size_more : (xs ys : List FlatNode) (x : FlatNode) (a b whole : ℕ) → a + 2 * rows_size xs ≡ whole → xs ≡ ys ++ x ∷ [] → b ≡ a + 2 * row_size x → b + 2 * rows_size ys ≡ whole
size_more xs ys x a b whole h e f = omega (arith, h, f, ap rows_size e, size_push ys x)
