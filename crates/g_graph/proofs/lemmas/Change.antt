-- The first of a list that can be changed, as a loop looks for it.
use Rattle.std.specs.Option.{option_or}
use Rattle.std.proofs.Common.{◌≡◌, ℕ, ◌<◌, ◌+◌, zero, suc, List, [], ◌∷◌, length, take, get_or, refl, sym, ap, ◌∙◌, add-one, arith}
use Rattle.std.specs.Prelude.{Bool, true, false, ◌==◌, ◌||◌, if◌then◌else◌, is_some, MatchBool, slice_set, option_map}
use Rattle.std.proofs.lemmas.List.{set-get_or}
use Rattle.std.specs.declared.option.Option.{Option}
use Rattle.std.specs.declared.option.Option.TheVariants.{Some, None}
use Rattle.g_graph.specs.Plain.{RegionTree, region, NodeTree, node, NodeTrees, no_nodes, node_then, RegionTrees, no_regions, region_then, nodes_of, regions_of, id_of}
use Rattle.g_graph.specs.Change.{region_changed, node_changed, nodes_changed, regions_changed, some_region, some_in_node, some_in_nodes, some_in_regions, has_node, node_index}

pub region_changed_here : (f : RegionTree → Option RegionTree) (r s : RegionTree) → f r ≡ Some s → region_changed f r ≡ Some s
region_changed_here f (region args nodes results) s e = ap (λ o. option_or o (option_map (λ ns. region args ns results) (nodes_changed f nodes))) e

pub none_map : {X Y : Type 0} (g : X → Y) (o : Option X) → option_map g o ≡ None → o ≡ None
none_map g None e = refl
none_map g (Some x) e = absurd (cc)

none_first : {X : Type 0} (a b : Option X) → option_or a b ≡ None → a ≡ None
none_first None b e = refl
none_first (Some x) b e = absurd (cc)

none_second : {X : Type 0} (a b : Option X) → option_or a b ≡ None → b ≡ None
none_second None b e = e
none_second (Some x) b e = absurd (cc)

pub nodes_changed_at : (f : RegionTree → Option RegionTree) (xs : List NodeTree) (i : ℕ) (x y : NodeTree) → i < length xs → x ≡ get_or xs i x →
    nodes_changed f (nodes_of (take i xs)) ≡ None → node_changed f x ≡ Some y → nodes_changed f (nodes_of xs) ≡ Some (nodes_of (slice_set xs i y))
nodes_changed_at f [] i x y b e n h = absurd (omega arith)
nodes_changed_at f (z ∷ xs) zero x y b e n h =
    ap (λ o. option_or (option_map (λ w. node_then w (nodes_of xs)) o) (option_map (λ ys. node_then z ys) (nodes_changed f (nodes_of xs)))) (ap (node_changed f) (sym e) ∙ h)
nodes_changed_at f (z ∷ xs) (suc i) x y b e n h =
    let first = none_map (λ w. node_then w (nodes_of (take i xs))) (node_changed f z) (none_first _ _ n) in
    let rest = none_map (λ ys. node_then z ys) (nodes_changed f (nodes_of (take i xs))) (none_second _ _ n) in
    let more = nodes_changed_at f xs i x y (omega arith) e rest h in
    ap (λ o. option_or (option_map (λ w. node_then w (nodes_of xs)) o) (option_map (λ ys. node_then z ys) (nodes_changed f (nodes_of xs)))) first
    ∙ ap (option_map (λ ys. node_then z ys)) more

nodes_unchanged_suc : (f : RegionTree → Option RegionTree) (xs : List NodeTree) (i : ℕ) (x : NodeTree) → i < length xs → x ≡ get_or xs i x →
    nodes_changed f (nodes_of (take i xs)) ≡ None → node_changed f x ≡ None → nodes_changed f (nodes_of (take (suc i) xs)) ≡ None
nodes_unchanged_suc f [] i x b e n h = absurd (omega arith)
nodes_unchanged_suc f (z ∷ xs) zero x b e n h = ap (λ o. option_or (option_map (λ w. node_then w no_nodes) o) None) (ap (node_changed f) (sym e) ∙ h)
nodes_unchanged_suc f (z ∷ xs) (suc i) x b e n h =
    let first = none_map (λ w. node_then w (nodes_of (take i xs))) (node_changed f z) (none_first _ _ n) in
    let rest = none_map (λ ys. node_then z ys) (nodes_changed f (nodes_of (take i xs))) (none_second _ _ n) in
    let more = nodes_unchanged_suc f xs i x (omega arith) e rest h in
    ap (λ o. option_or (option_map (λ w. node_then w (nodes_of (take (suc i) xs))) o) (option_map (λ ys. node_then z ys) (nodes_changed f (nodes_of (take (suc i) xs))))) first
    ∙ ap (option_map (λ ys. node_then z ys)) more

pub nodes_unchanged_more : (f : RegionTree → Option RegionTree) (xs : List NodeTree) (i : ℕ) (x : NodeTree) → i < length xs → x ≡ get_or xs i x →
    nodes_changed f (nodes_of (take i xs)) ≡ None → node_changed f x ≡ None → nodes_changed f (nodes_of (take (i + 1) xs)) ≡ None
nodes_unchanged_more f xs i x b e n h = rw add-one (nodes_unchanged_suc f xs i x b e n h)

pub regions_changed_at : (f : RegionTree → Option RegionTree) (xs : List RegionTree) (i : ℕ) (x y : RegionTree) → i < length xs → x ≡ get_or xs i x →
    regions_changed f (regions_of (take i xs)) ≡ None → region_changed f x ≡ Some y → regions_changed f (regions_of xs) ≡ Some (regions_of (slice_set xs i y))
regions_changed_at f [] i x y b e n h = absurd (omega arith)
regions_changed_at f (z ∷ xs) zero x y b e n h =
    ap (λ o. option_or (option_map (λ w. region_then w (regions_of xs)) o) (option_map (λ ys. region_then z ys) (regions_changed f (regions_of xs)))) (ap (region_changed f) (sym e) ∙ h)
regions_changed_at f (z ∷ xs) (suc i) x y b e n h =
    let first = none_map (λ w. region_then w (regions_of (take i xs))) (region_changed f z) (none_first _ _ n) in
    let rest = none_map (λ ys. region_then z ys) (regions_changed f (regions_of (take i xs))) (none_second _ _ n) in
    let more = regions_changed_at f xs i x y (omega arith) e rest h in
    ap (λ o. option_or (option_map (λ w. region_then w (regions_of xs)) o) (option_map (λ ys. region_then z ys) (regions_changed f (regions_of xs)))) first
    ∙ ap (option_map (λ ys. region_then z ys)) more

regions_unchanged_suc : (f : RegionTree → Option RegionTree) (xs : List RegionTree) (i : ℕ) (x : RegionTree) → i < length xs → x ≡ get_or xs i x →
    regions_changed f (regions_of (take i xs)) ≡ None → region_changed f x ≡ None → regions_changed f (regions_of (take (suc i) xs)) ≡ None
regions_unchanged_suc f [] i x b e n h = absurd (omega arith)
regions_unchanged_suc f (z ∷ xs) zero x b e n h = ap (λ o. option_or (option_map (λ w. region_then w no_regions) o) None) (ap (region_changed f) (sym e) ∙ h)
regions_unchanged_suc f (z ∷ xs) (suc i) x b e n h =
    let first = none_map (λ w. region_then w (regions_of (take i xs))) (region_changed f z) (none_first _ _ n) in
    let rest = none_map (λ ys. region_then z ys) (regions_changed f (regions_of (take i xs))) (none_second _ _ n) in
    let more = regions_unchanged_suc f xs i x (omega arith) e rest h in
    ap (λ o. option_or (option_map (λ w. region_then w (regions_of (take (suc i) xs))) o) (option_map (λ ys. region_then z ys) (regions_changed f (regions_of (take (suc i) xs))))) first
    ∙ ap (option_map (λ ys. region_then z ys)) more

pub regions_unchanged_more : (f : RegionTree → Option RegionTree) (xs : List RegionTree) (i : ℕ) (x : RegionTree) → i < length xs → x ≡ get_or xs i x →
    regions_changed f (regions_of (take i xs)) ≡ None → region_changed f x ≡ None → regions_changed f (regions_of (take (i + 1) xs)) ≡ None
regions_unchanged_more f xs i x b e n h = rw add-one (regions_unchanged_suc f xs i x b e n h)

-- an element that stays as it is
pub set_same : {X : Type 0} (xs : List X) (i : ℕ) (x y : X) → x ≡ get_or xs i x → y ≡ x → slice_set xs i y ≡ xs
set_same xs i x y e same = ap (slice_set xs i) (same ∙ e) ∙ set-get_or xs i x

pub when_true : (P Q : Type 0) (b : Bool) → b ≡ true → MatchBool b P Q → P
when_true P Q true e h = h
when_true P Q false e h = absurd (cc)

pub when_false : (P Q : Type 0) (b : Bool) → b ≡ false → MatchBool b P Q → Q
when_false P Q false e h = h
when_false P Q true e h = absurd (cc)

pub has_node_index : (n first : ℕ) (xs : NodeTrees) → is_some (node_index n first xs) ≡ has_node n xs
has_node_index n first no_nodes = refl
has_node_index n first (node_then x xs) = by_test (id_of x == n) (has_node_index n (suc first) xs)
  where
    by_test : (t : Bool) → is_some (node_index n (suc first) xs) ≡ has_node n xs → is_some (if t then Some first else node_index n (suc first) xs) ≡ (t || has_node n xs)
    by_test true h = refl
    by_test false h = h

pub is_some_map : {X Y : Type 0} (g : X → Y) (o : Option X) → is_some (option_map g o) ≡ is_some o
is_some_map g None = refl
is_some_map g (Some x) = refl

is_some_first : {X : Type 0} (a b : Option X) → is_some (option_or a b) ≡ (is_some a || is_some b)
is_some_first None b = refl
is_some_first (Some x) b = refl

-- a region can be changed where the change can be made in it or in one nested in it
mutual
  pub region_can_change : (f : RegionTree → Option RegionTree) (r : RegionTree) → is_some (region_changed f r) ≡ some_region (λ s. is_some (f s)) r
  region_can_change f (region args nodes results) =
      is_some_first (f (region args nodes results)) (option_map (λ ns. region args ns results) (nodes_changed f nodes))
      ∙ ap (λ b. is_some (f (region args nodes results)) || b) (is_some_map (λ ns. region args ns results) (nodes_changed f nodes) ∙ nodes_can_change f nodes)

  node_can_change : (f : RegionTree → Option RegionTree) (x : NodeTree) → is_some (node_changed f x) ≡ some_in_node (λ s. is_some (f s)) x
  node_can_change f (node id op inputs rs) = is_some_map (λ ss. node id op inputs ss) (regions_changed f rs) ∙ regions_can_change f rs

  nodes_can_change : (f : RegionTree → Option RegionTree) (xs : NodeTrees) → is_some (nodes_changed f xs) ≡ some_in_nodes (λ s. is_some (f s)) xs
  nodes_can_change f no_nodes = refl
  nodes_can_change f (node_then x xs) =
      is_some_first (option_map (λ y. node_then y xs) (node_changed f x)) (option_map (λ ys. node_then x ys) (nodes_changed f xs))
      ∙ (λ i. (is_some_map (λ y. node_then y xs) (node_changed f x) ∙ node_can_change f x) i || (is_some_map (λ ys. node_then x ys) (nodes_changed f xs) ∙ nodes_can_change f xs) i)

  regions_can_change : (f : RegionTree → Option RegionTree) (rs : RegionTrees) → is_some (regions_changed f rs) ≡ some_in_regions (λ s. is_some (f s)) rs
  regions_can_change f no_regions = refl
  regions_can_change f (region_then r rs) =
      is_some_first (option_map (λ s. region_then s rs) (region_changed f r)) (option_map (λ ss. region_then r ss) (regions_changed f rs))
      ∙ (λ i. (is_some_map (λ s. region_then s rs) (region_changed f r) ∙ region_can_change f r) i || (is_some_map (λ ss. region_then r ss) (regions_changed f rs) ∙ regions_can_change f rs) i)

pub some_here : (test : RegionTree → Bool) (r : RegionTree) → test r ≡ true → true ≡ some_region test r
some_here test (region args nodes results) e = sym (ap (λ b. b || some_in_nodes test nodes) e)
