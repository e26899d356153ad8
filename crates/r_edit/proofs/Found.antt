-- A copy by the numbers that are found is the copy: a closed region names only nodes of its own.
use Rattle.std.specs.Prelude.{if◌then◌else◌, ◌<◌, ◌+◌, cond, drop, get_or, unwrap_or, IsTrue}
use Rattle.std.specs.Ordering.{nat_cmp}
use Rattle.std.specs.BTreeMap.{is_at}
use Rattle.std.specs.Cmp.{unsigned_tied}
use Rattle.std.proofs.Common.{◌≡◌, ℕ, suc, ◌==◌, ◌⊎◌, Bool, true, false, List, [], ◌∷◌, map, length, Option, Some, refl, sym, ap, ap₂, ◌∙◌, inl, inr, arith}
use Rattle.std.proofs.lemmas.Bool.Decides.{nat_tests}
use Rattle.std.proofs.lemmas.List.{drop_more}
use Rattle.g_graph.specs.declared.op.Origin.{Origin}
use Rattle.g_graph.specs.declared.op.Origin.TheVariants.{Arg, Out}
use Rattle.g_graph.specs.Plain.{RegionTree, region, NodeTree, node, NodeTrees, no_nodes, node_then, RegionTrees, no_regions, region_then, nodes_of, regions_of}
use Rattle.g_graph.specs.Ids.{region_ids, nodes_ids, regions_ids}
use Rattle.g_mean.specs.Copies.{renumbered, region_copied, node_moved, nodes_moved, regions_copied, IsAmong, AreRead, NodesRead, AllClosed, IsClosed, known_after, is_argument}
use Rattle.g_mean.proofs.lemmas.Copies.{among-left, among-right}
use Rattle.r_edit.specs.Numbering.{number_from, number_among, found_or_same, region_numbered}

-- ---- lists

pub nodes_of-moved : (move : Origin → Origin) (to : ℕ → ℕ) (xs : List NodeTree) → nodes_of (map (node_moved move to) xs) ≡ nodes_moved move to (nodes_of xs)
nodes_of-moved move to [] = refl
nodes_of-moved move to (x ∷ xs) = ap (λ ys. node_then (node_moved move to x) ys) (nodes_of-moved move to xs)

pub regions_of-copied : (to : ℕ → ℕ) (rs : List RegionTree) → regions_of (map (region_copied to) rs) ≡ regions_copied to (regions_of rs)
regions_of-copied to [] = refl
regions_of-copied to (r ∷ rs) = ap (λ ss. region_then (region_copied to r) ss) (regions_of-copied to rs)

-- ---- numbers that agree

-- the numbers from an index on, one more
pub number-step : (next k n : ℕ) (ids : List ℕ) (d : ℕ) → k < length ids →
    cond (is_at (nat_cmp (get_or ids k d)) n) (Some (next + k)) (number_among (next + (k + 1)) (drop (k + 1) ids) n) ≡ number_among (next + k) (drop k ids) n
number-step next k n ids d h =
    let m = get_or ids k d in
    let more : next + (k + 1) ≡ suc (next + k) = omega arith in
    ap (λ t. cond t (Some (next + k)) (number_among (next + (k + 1)) (drop (k + 1) ids) n)) (unsigned_tied m n)
    ∙ ap (λ j. cond (m == n) (Some (next + k)) (number_among j (drop (k + 1) ids) n)) more
    ∙ ap (λ ms. number_among (next + k) ms n) (sym (drop_more ids k d h))

found-number : (next : ℕ) (ms : List ℕ) (n : ℕ) → IsAmong n ms → found_or_same (number_among next ms) n ≡ number_from next ms n
found-number next [] n h = absurd h
found-number next (m ∷ ms) n h = by (m == n) refl h (found-number (suc next) ms n)
  where
    by : (t : Bool) → (m == n) ≡ t → (n ≡ m) ⊎ IsAmong n ms → (IsAmong n ms → found_or_same (number_among (suc next) ms) n ≡ number_from (suc next) ms n) →
        unwrap_or (if t then Some next else number_among (suc next) ms n) n ≡ (if t then next else number_from (suc next) ms n)
    by true e h go = refl
    by false e (inl same) go = absurd (grind (arith, nat_tests))
    by false e (inr h) go = go h

abbrev Agree : (to other : ℕ → ℕ) → List ℕ → Type 0
Agree to other ids = (n : ℕ) → IsAmong n ids → to n ≡ other n

module _ (to other : ℕ → ℕ) where
  origins-agree : (count : ℕ) (known : List ℕ) (origins : List Origin) → AreRead (is_argument count) known origins → Agree to other known →
      map (renumbered to) origins ≡ map (renumbered other) origins
  origins-agree count known [] h k = refl
  origins-agree count known (Arg j ∷ origins) h k = ap (λ xs. Arg j ∷ xs) (origins-agree count known origins h.1 k)
  origins-agree count known (Out n p ∷ origins) h k = ap₂ (λ m xs. Out m p ∷ xs) (by h.0) (origins-agree count known origins h.1 k)
    where
      by : IsTrue false ⊎ IsAmong n known → to n ≡ other n
      by (inl e) = absurd cc
      by (inr i) = k n i

  more-agree : (id : ℕ) (known : List ℕ) → to id ≡ other id → Agree to other known → Agree to other (id ∷ known)
  more-agree id known e k n (inl same) = ap to same ∙ e ∙ ap other (sym same)
  more-agree id known e k n (inr i) = k n i

  after-agree : (known : List ℕ) (ns : NodeTrees) → Agree to other known → Agree to other (nodes_ids ns) → Agree to other (known_after known ns)
  after-agree known no_nodes k a = k
  after-agree known (node_then (node id op inputs rs) ns) k a =
      after-agree (id ∷ known) ns (more-agree id known (a id (inl refl)) k) (λ n i. a n (among-right n (id ∷ regions_ids rs) (nodes_ids ns) i))

  mutual
    pub copies-agree : (r : RegionTree) → IsClosed r → Agree to other (region_ids r) → region_copied to r ≡ region_copied other r
    copies-agree (region args nodes results) h a =
        ap₂ (λ ns os. region args ns os) (nodes-agree (length args) [] nodes h.0 (λ n i. absurd i) a)
        (origins-agree (length args) (known_after [] nodes) results h.1 (after-agree [] nodes (λ n i. absurd i) a))

    nodes-agree : (count : ℕ) (known : List ℕ) (ns : NodeTrees) → NodesRead (is_argument count) known ns → Agree to other known → Agree to other (nodes_ids ns) →
        nodes_moved (renumbered to) to ns ≡ nodes_moved (renumbered other) other ns
    nodes-agree count known no_nodes h k a = refl
    nodes-agree count known (node_then (node id op inputs rs) ns) h k a =
        let own : to id ≡ other id = a id (inl refl) in
        let reads = origins-agree count known inputs h.0.0 k in
        let within = regions-agree rs h.0.1 (λ n i. a n (among-left n (id ∷ regions_ids rs) (nodes_ids ns) (inr i))) in
        let rest = nodes-agree count (id ∷ known) ns h.1 (more-agree id known own k) (λ n i. a n (among-right n (id ∷ regions_ids rs) (nodes_ids ns) i)) in
        λ i. node_then (node (own i) op (reads i) (within i)) (rest i)

    regions-agree : (rs : RegionTrees) → AllClosed rs → Agree to other (regions_ids rs) → regions_copied to rs ≡ regions_copied other rs
    regions-agree no_regions h a = refl
    regions-agree (region_then r rs) h a =
        ap₂ (λ s ss. region_then s ss) (copies-agree r h.0 (λ n i. a n (among-left n (region_ids r) (regions_ids rs) i)))
        (regions-agree rs h.1 (λ n i. a n (among-right n (region_ids r) (regions_ids rs) i)))

-- what is found gives the copy
pub copied-by-found : (found : ℕ → Option ℕ) (next : ℕ) (r : RegionTree) → IsClosed r → ((n : ℕ) → found n ≡ number_among next (region_ids r) n) →
    region_copied (found_or_same found) r ≡ region_numbered next r
copied-by-found found next r closed same =
    copies-agree (found_or_same found) (number_from next (region_ids r)) r closed
    (λ n i. ap (λ o. unwrap_or o n) (same n) ∙ found-number next (region_ids r) n i)
