-- Two changes that agree where something is found first; what changes where nothing is found.
use Rattle.std.specs.Option.{option_or}
use Rattle.std.specs.Prelude.{is_some}
use Rattle.std.proofs.Common.{◌≡◌, ◌⊎◌, true, false, Option, None, Some, option_map, refl, sym, ap, ◌∙◌, inl, inr}
use Rattle.std.proofs.lemmas.Option.{same_Some}
use Rattle.g_graph.specs.Plain.{RegionTree, region, NodeTree, node, NodeTrees, no_nodes, node_then, RegionTrees, no_regions, region_then}
use Rattle.g_graph.specs.Change.{region_changed, node_changed, nodes_changed, regions_changed}
use Rattle.r_edit.specs.Found.{region_found, node_found, nodes_found, regions_found}
use Rattle.val_core.proofs.lemmas.Options.{or_none}

-- ---- two changes that agree where something is found

pub record Both {X Y : Type 0} (o : Option X) (a b : Option Y) : Type 0 where
  pub found : X
  pub is : o ≡ Some found
  pub result : Y
  pub left : a ≡ Some result
  pub right : b ≡ Some result

-- nothing is found or changed, or both changes give the same
abbrev pub Agree : {X Y : Type 0} → Option X → (a b : Option Y) → Type 0
Agree o a b = ((o ≡ None) × (a ≡ None) × (b ≡ None)) ⊎ Both o a b

abbrev pub Only : {X : Type 0} → X → Option X → Type 0
Only y o = (z : _) → o ≡ Some z → z ≡ y

or-agree : {X Y : Type 0} (o o' : Option X) (a b a' b' : Option Y) → Agree o a b → (o ≡ None → Agree o' a' b') → Agree (option_or o o') (option_or a a') (option_or b b')
or-agree o o' a b a' b' (inl h) go = rw (h.0, h.1, h.2) (go h.0)
or-agree o o' a b a' b' (inr h) go =
    inr (record {
      found = h.found;
      is = ap (λ x. option_or x o') h.is;
      result = h.result;
      left = ap (λ x. option_or x a') h.left;
      right = ap (λ x. option_or x b') h.right;
    })

map-agree : {X Y Z : Type 0} (w : Y → Z) (o : Option X) (a b : Option Y) → Agree o a b → Agree o (option_map w a) (option_map w b)
map-agree w o a b (inl h) = inl (h.0, ap (option_map w) h.1, ap (option_map w) h.2)
map-agree w o a b (inr h) =
    inr (record { found = h.found; is = h.is; result = w h.result; left = ap (option_map w) h.left; right = ap (option_map w) h.right })

only-first : {X : Type 0} (y : X) (o o' : Option X) → Only y (option_or o o') → Only y o
only-first y o o' only z e = only z (ap (λ x. option_or x o') e)

only-later : {X : Type 0} (y : X) (o o' : Option X) → o ≡ None → Only y (option_or o o') → Only y o'
only-later y o o' none only z e = only z (ap (λ x. option_or x o') none ∙ e)

module _ {X : Type 0} (h : RegionTree → Option X) (f g : RegionTree → Option RegionTree) (y : X) (base : (t : RegionTree) → Only y (h t) → Agree (h t) (f t) (g t)) where
  mutual
    region-agrees : (r : RegionTree) → Only y (region_found h r) → Agree (region_found h r) (region_changed f r) (region_changed g r)
    region-agrees (region args nodes results) only =
        let r = region args nodes results in
        or-agree (h r) (nodes_found h nodes) (f r) (g r) (option_map (λ ns. region args ns results) (nodes_changed f nodes)) (option_map (λ ns. region args ns results) (nodes_changed g nodes))
        (base r (only-first y (h r) (nodes_found h nodes) only))
        (λ e. map-agree (λ ns. region args ns results) (nodes_found h nodes) (nodes_changed f nodes) (nodes_changed g nodes)
        (nodes-agree nodes (only-later y (h r) (nodes_found h nodes) e only)))

    node-agrees : (x : NodeTree) → Only y (node_found h x) → Agree (node_found h x) (node_changed f x) (node_changed g x)
    node-agrees (node id op inputs rs) only =
        map-agree (λ ss. node id op inputs ss) (regions_found h rs) (regions_changed f rs) (regions_changed g rs) (regions-agree rs only)

    nodes-agree : (ns : NodeTrees) → Only y (nodes_found h ns) → Agree (nodes_found h ns) (nodes_changed f ns) (nodes_changed g ns)
    nodes-agree no_nodes only = inl (refl, refl, refl)
    nodes-agree (node_then x xs) only =
        or-agree (node_found h x) (nodes_found h xs) (option_map (λ z. node_then z xs) (node_changed f x)) (option_map (λ z. node_then z xs) (node_changed g x))
        (option_map (λ zs. node_then x zs) (nodes_changed f xs)) (option_map (λ zs. node_then x zs) (nodes_changed g xs))
        (map-agree (λ z. node_then z xs) (node_found h x) (node_changed f x) (node_changed g x) (node-agrees x (only-first y (node_found h x) (nodes_found h xs) only)))
        (λ e. map-agree (λ zs. node_then x zs) (nodes_found h xs) (nodes_changed f xs) (nodes_changed g xs)
        (nodes-agree xs (only-later y (node_found h x) (nodes_found h xs) e only)))

    regions-agree : (rs : RegionTrees) → Only y (regions_found h rs) → Agree (regions_found h rs) (regions_changed f rs) (regions_changed g rs)
    regions-agree no_regions only = inl (refl, refl, refl)
    regions-agree (region_then r rs) only =
        or-agree (region_found h r) (regions_found h rs) (option_map (λ s. region_then s rs) (region_changed f r)) (option_map (λ s. region_then s rs) (region_changed g r))
        (option_map (λ ss. region_then r ss) (regions_changed f rs)) (option_map (λ ss. region_then r ss) (regions_changed g rs))
        (map-agree (λ s. region_then s rs) (region_found h r) (region_changed f r) (region_changed g r) (region-agrees r (only-first y (region_found h r) (regions_found h rs) only)))
        (λ e. map-agree (λ ss. region_then r ss) (regions_found h rs) (regions_changed f rs) (regions_changed g rs)
        (regions-agree rs (only-later y (region_found h r) (regions_found h rs) e only)))

  -- both give one region
  pub both-change : (r : RegionTree) → region_found h r ≡ Some y → (s : RegionTree) × (region_changed f r ≡ Some s) × (region_changed g r ≡ Some s)
  both-change r e = by (region-agrees r (λ z d. same_Some z y (sym d ∙ e)))
    where
      by : Agree (region_found h r) (region_changed f r) (region_changed g r) → (s : RegionTree) × (region_changed f r ≡ Some s) × (region_changed g r ≡ Some s)
      by (inl k) =
          let none : None ≡ Some y = sym k.0 ∙ e in
          absurd cc
      by (inr k) = (k.result, k.left, k.right)

-- ---- where something changes something is found

none-of : {X : Type 0} (o : Option X) → is_some o ≡ false → o ≡ None
none-of None e = refl
none-of (Some x) e = absurd cc

module _ {X : Type 0} (h : RegionTree → Option X) (f : RegionTree → Option RegionTree) (same : (t : RegionTree) → is_some (h t) ≡ is_some (f t)) where
  mutual
    region-none : (r : RegionTree) → region_found h r ≡ None → region_changed f r ≡ None
    region-none (region args nodes results) e =
        let r = region args nodes results in
        let p = or_none (h r) (nodes_found h nodes) e in
        let here : f r ≡ None = none-of (f r) (sym (same r) ∙ ap is_some p.0) in
        ap (λ o. option_or o (option_map (λ ns. region args ns results) (nodes_changed f nodes))) here ∙ ap (option_map (λ ns. region args ns results)) (nodes-none nodes p.1)

    node-none : (x : NodeTree) → node_found h x ≡ None → node_changed f x ≡ None
    node-none (node id op inputs rs) e = ap (option_map (λ ss. node id op inputs ss)) (regions-none rs e)

    nodes-none : (ns : NodeTrees) → nodes_found h ns ≡ None → nodes_changed f ns ≡ None
    nodes-none no_nodes e = refl
    nodes-none (node_then x ns) e =
        let p = or_none (node_found h x) (nodes_found h ns) e in
        ap (λ o. option_or (option_map (λ z. node_then z ns) o) (option_map (λ zs. node_then x zs) (nodes_changed f ns))) (node-none x p.0)
        ∙ ap (option_map (λ zs. node_then x zs)) (nodes-none ns p.1)

    regions-none : (rs : RegionTrees) → regions_found h rs ≡ None → regions_changed f rs ≡ None
    regions-none no_regions e = refl
    regions-none (region_then r rs) e =
        let p = or_none (region_found h r) (regions_found h rs) e in
        ap (λ o. option_or (option_map (λ s. region_then s rs) o) (option_map (λ ss. region_then r ss) (regions_changed f rs))) (region-none r p.0)
        ∙ ap (option_map (λ ss. region_then r ss)) (regions-none rs p.1)

  pub found-where-changed : (r : RegionTree) → is_some (region_changed f r) ≡ true → is_some (region_found h r) ≡ true
  found-where-changed r e = by (region_found h r) refl
    where
      by : (o : Option X) → region_found h r ≡ o → is_some (region_found h r) ≡ true
      by (Some y) d = ap is_some d
      by None d =
          let no : false ≡ true = sym (ap is_some (region-none r d)) ∙ e in
          absurd cc
