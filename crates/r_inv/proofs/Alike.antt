-- Lists of nodes that pair off: those where a node has other uses, outputs and results than before, but the regions take the
-- same, and the other nodes give the same.
use Rattle.std.proofs.Common.{◌≡◌, ◌+◌, ◌*◌, ◌==◌, ◌&&◌, nat_lt, not, ℕ, zero, suc, Bool, true, false, Option, None, Some, option_map, List, [], ◌∷◌, map, length, refl, sym, ap, subst, ◌∙◌, arith}
use Rattle.std.specs.Prelude.{if◌then◌else◌, slice_get, option_and_then}
use Rattle.std.specs.List.{remove}
use Rattle.std.proofs.lemmas.Bool.Decides.{nat_tests}
use Rattle.g_graph.specs.declared.op.Kind.{Kind}
use Rattle.g_graph.specs.declared.op.Origin.{Origin}
use Rattle.g_graph.specs.declared.op.Origin.TheVariants.{Arg, Out}
use Rattle.g_graph.proofs.lemmas.Indexes.{same_number_true}
use Rattle.g_graph.proofs.lemmas.Unique.{same_number}
use Rattle.g_arena_def.specs.declared.place.Place.{Place}
use Rattle.g_arena_def.specs.Flat.{FlatRegion, FlatNode, Flat, place_in, is_in, same_place}
use Rattle.g_arena_def.specs.Reads.{ids, found, region_of, region_at, kind_in, output_kind}
use Rattle.g_arena_def.specs.Edits.{node_with, at_with, changed_in, inputs_at, uses_with, output_less, outputs_follow, output_removed, result_removed}
use Rattle.r_sweep.specs.Removals.{each_of, exit_removed}
use Rattle.r_sweep.proofs.lemmas.Around.{region_set}
use Rattle.r_sweep.proofs.lemmas.Kept.{IsOther}
use Rattle.r_inv.specs.Cost.{number, results_in, node_cost, nodes_cost}

-- ---- pairs

pub data Pairs (R : FlatNode → FlatNode → Type 0) : List FlatNode → List FlatNode → Type 0 where
  no_node : Pairs R [] []
  one_node : (x y : FlatNode) (xs ys : List FlatNode) → R x y → Pairs R xs ys → Pairs R (x ∷ xs) (y ∷ ys)

module _ (R : FlatNode → FlatNode → Type 0) (itself : (x : FlatNode) → R x x) (through : (x y z : FlatNode) → R x y → R y z → R x z) where
  pairs_themselves : (xs : List FlatNode) → Pairs R xs xs
  pairs_themselves [] = no_node
  pairs_themselves (x ∷ xs) = one_node x x xs xs (itself x) (pairs_themselves xs)

  one_more : (x y : FlatNode) (xs ys zs : List FlatNode) → R x y → ((ws : List FlatNode) → Pairs R ys ws → Pairs R xs ws) → Pairs R (y ∷ ys) zs → Pairs R (x ∷ xs) zs
  one_more x _ xs _ _ h f (one_node y z ys zs g q) = one_node x z xs zs (through x y z h g) (f zs q)

  pairs_through : (xs ys zs : List FlatNode) → Pairs R xs ys → Pairs R ys zs → Pairs R xs zs
  pairs_through _ _ zs no_node q = q
  pairs_through _ _ zs (one_node x y xs ys h p) q = one_more x y xs ys zs h (λ ws r. pairs_through xs ys ws p r) q

  pairs_map : (f : FlatNode → FlatNode) → ((x : FlatNode) → R x (f x)) → (xs : List FlatNode) → Pairs R xs (map f xs)
  pairs_map f h [] = no_node
  pairs_map f h (x ∷ xs) = one_node x (f x) xs (map f xs) (h x) (pairs_map f h xs)

  pub pairs_with : (n : ℕ) (f : FlatNode → FlatNode) → ((x : FlatNode) → x.id ≡ n → R x (f x)) → (xs : List FlatNode) → Pairs R xs (node_with n f xs)
  pairs_with n f h [] = no_node
  pairs_with n f h (x ∷ xs) = by (x.id == n) refl (pairs_with n f h xs)
    where
      by : (t : Bool) → (x.id == n) ≡ t → Pairs R xs (node_with n f xs) → Pairs R (x ∷ xs) (if t then f x ∷ xs else x ∷ node_with n f xs)
      by true e p = one_node x (f x) xs xs (h x (same_number x.id n e)) (pairs_themselves xs)
      by false e p = one_node x x xs (node_with n f xs) (itself x) p

  -- uses in a region that come from other origins
  pub pairs_uses : (p : Place) (g : Origin → Origin) → ((x : FlatNode) → R x (record x { inputs = map g x.inputs })) →
      ((k : ℕ) (x : FlatNode) → R x (region_set k (λ (r : FlatRegion). record r { results = map g r.results }) x)) → (a : Flat) → Pairs R a.nodes (uses_with p g a).nodes
  pairs_uses p g inputs results a = by p.node
    where
      at : (x : FlatNode) (t : Bool) → R x (if t then record x { inputs = map g x.inputs } else x)
      at x true = inputs x
      at x false = itself x

      now : List FlatNode
      now = map (inputs_at p g) a.nodes

      first : Pairs R a.nodes now
      first = pairs_map (inputs_at p g) (λ x. at x (same_place x.home p)) a.nodes

      by : (o : Option ℕ) → Pairs R a.nodes (changed_in o p.region (λ (r : FlatRegion). record r { results = map g r.results }) (record a { nodes = now })).nodes
      by None = first
      by (Some m) =
          pairs_through a.nodes now (node_with m (region_set p.region (λ (r : FlatRegion). record r { results = map g r.results })) now) first
          (pairs_with m (region_set p.region (λ (r : FlatRegion). record r { results = map g r.results })) (λ x e. results p.region x) now)

-- the body, where uses come from other origins
pub body_uses : (P : FlatRegion → Type 0) (p : Place) (g : Origin → Origin) (a : Flat) → P a.body → P (record { args = a.body.args; results = map g a.body.results }) → P (uses_with p g a).body
body_uses P p g a h k = by p.node
  where
    by : (o : Option ℕ) → P (changed_in o p.region (λ (r : FlatRegion). record r { results = map g r.results }) (record a { nodes = map (inputs_at p g) a.nodes })).body
    by None = k
    by (Some m) = h

-- ---- alike, but for the outputs and results of node n

abbrev args_in : List FlatRegion → List (List Kind)
args_in rs = map (λ (r : FlatRegion). r.args) rs

args_with : (k : ℕ) (f : FlatRegion → FlatRegion) → ((r : FlatRegion) → (f r).args ≡ r.args) → (rs : List FlatRegion) → args_in (at_with k f rs) ≡ args_in rs
args_with k f h [] = refl
args_with zero f h (r ∷ rs) = ap (λ z. z ∷ args_in rs) (h r)
args_with (suc k) f h (r ∷ rs) = ap (λ zs. r.args ∷ zs) (args_with k f h rs)

results_with : (k : ℕ) (f : FlatRegion → FlatRegion) → ((r : FlatRegion) → length (f r).results ≡ length r.results) → (rs : List FlatRegion) → results_in (at_with k f rs) ≡ results_in rs
results_with k f h [] = refl
results_with zero f h (r ∷ rs) = ap (λ z. z + results_in rs) (h r)
results_with (suc k) f h (r ∷ rs) = ap (λ z. length r.results + z) (results_with k f h rs)

counted : {X Y : Type 0} (f : X → Y) (xs : List X) → length (map f xs) ≡ length xs
counted f [] = refl
counted f (x ∷ xs) = ap suc (counted f xs)

module _ (n : ℕ) where
  pub record Alike (x y : FlatNode) : Type 0 where
    pub id : y.id ≡ x.id
    pub home : y.home ≡ x.home
    pub args : args_in y.regions ≡ args_in x.regions
    pub outputs : (x.id == n) ≡ false → y.outputs ≡ x.outputs
    pub results : (x.id == n) ≡ false → results_in y.regions ≡ results_in x.regions

  pub record AreAlike (a b : Flat) : Type 0 where
    pub body : b.body.args ≡ a.body.args
    pub nodes : Pairs Alike a.nodes b.nodes

  alike_itself : (x : FlatNode) → Alike x x
  alike_itself x = record { id = refl; home = refl; args = refl; outputs = λ e. refl; results = λ e. refl }

  alike_through : (x y z : FlatNode) → Alike x y → Alike y z → Alike x z
  alike_through x y z h g = record {
    id = g.id ∙ h.id;
    home = g.home ∙ h.home;
    args = g.args ∙ h.args;
    outputs = λ e. g.outputs (ap (λ i. i == n) h.id ∙ e) ∙ h.outputs e;
    results = λ e. g.results (ap (λ i. i == n) h.id ∙ e) ∙ h.results e;
  }

  -- a change of the node's own outputs, or of one of its results
  own_alike : (f : FlatNode → FlatNode) (x : FlatNode) → x.id ≡ n → (f x).id ≡ x.id → (f x).home ≡ x.home → args_in (f x).regions ≡ args_in x.regions → Alike x (f x)
  own_alike f x e i h g = record { id = i; home = h; args = g; outputs = λ d. absurd (differ d); results = λ d. absurd (differ d) }
    where
      differ : (x.id == n) ≡ false → ⊥
      differ d = let wrong : true ≡ false = sym (ap (λ m. x.id == m) (sym e) ∙ same_number_true x.id) ∙ d in cc

  pub alike_start : (a : Flat) → AreAlike a a
  alike_start a = record { body = refl; nodes = pairs_themselves Alike alike_itself alike_through a.nodes }

  pub alike_on : (a b c : Flat) → AreAlike a b → AreAlike b c → AreAlike a c
  alike_on a b c h g = record { body = g.body ∙ h.body; nodes = pairs_through Alike alike_itself alike_through a.nodes b.nodes c.nodes h.nodes g.nodes }

  pub alike_uses : (p : Place) (g : Origin → Origin) (a : Flat) → AreAlike a (uses_with p g a)
  alike_uses p g a = record {
    body = body_uses (λ (r : FlatRegion). r.args ≡ a.body.args) p g a refl refl;
    nodes = pairs_uses Alike alike_itself alike_through p g (λ x. record { id = refl; home = refl; args = refl; outputs = λ e. refl; results = λ e. refl })
        (λ k x. record {
          id = refl;
          home = refl;
          args = args_with k (λ (r : FlatRegion). record r { results = map g r.results }) (λ r. refl) x.regions;
          outputs = λ e. refl;
          results = λ e. results_with k (λ (r : FlatRegion). record r { results = map g r.results }) (λ r. counted g r.results) x.regions;
        }) a;
  }

  alike_with : (f : FlatNode → FlatNode) → ((x : FlatNode) → (f x).id ≡ x.id) → ((x : FlatNode) → (f x).home ≡ x.home) → ((x : FlatNode) → args_in (f x).regions ≡ args_in x.regions) → (a : Flat) →
      AreAlike a (record a { nodes = node_with n f a.nodes })
  alike_with f i h g a = record { body = refl; nodes = pairs_with Alike alike_itself alike_through n f (λ x e. own_alike f x e (i x) (h x) (g x)) a.nodes }

  pub alike_output : (k : ℕ) (x : FlatNode) (a : Flat) → found n a.nodes ≡ Some x → x.id ≡ n → AreAlike a (output_removed n k a)
  alike_output k x a e i =
      subst (AreAlike a) (sym (ap (λ o. outputs_follow o k a) e))
      (subst (λ m. AreAlike a (uses_with x.home (output_less m k (length x.outputs)) (record a { nodes = node_with m (λ (y : FlatNode). record y { outputs = remove y.outputs k }) a.nodes }))) (sym i)
      (alike_on a (record a { nodes = node_with n (λ (y : FlatNode). record y { outputs = remove y.outputs k }) a.nodes })
      (uses_with x.home (output_less n k (length x.outputs)) (record a { nodes = node_with n (λ (y : FlatNode). record y { outputs = remove y.outputs k }) a.nodes }))
      (alike_with (λ (y : FlatNode). record y { outputs = remove y.outputs k }) (λ y. refl) (λ y. refl) (λ y. refl) a)
      (alike_uses x.home (output_less n k (length x.outputs)) (record a { nodes = node_with n (λ (y : FlatNode). record y { outputs = remove y.outputs k }) a.nodes }))))

  pub alike_result : (j k : ℕ) (a : Flat) → AreAlike a (result_removed (place_in n j) k a)
  alike_result j k a =
      alike_with (region_set j (λ (r : FlatRegion). record r { results = remove r.results k })) (λ x. refl) (λ x. refl)
      (λ x. args_with j (λ (r : FlatRegion). record r { results = remove r.results k }) (λ r. refl) x.regions) a

  alike_results : (c k : ℕ) (a : Flat) → AreAlike a (each_of (λ j. result_removed (place_in n j) k) c a)
  alike_results zero k a = alike_start a
  alike_results (suc c) k a =
      alike_on a (each_of (λ j. result_removed (place_in n j) k) c a) (each_of (λ j. result_removed (place_in n j) k) (suc c) a) (alike_results c k a)
      (alike_result c k (each_of (λ j. result_removed (place_in n j) k) c a))

  pub alike_exit : (c k : ℕ) (x : FlatNode) (a : Flat) → found n a.nodes ≡ Some x → x.id ≡ n → AreAlike a (exit_removed n c k a)
  alike_exit c k x a e i = alike_on a (output_removed n k a) (exit_removed n c k a) (alike_output k x a e i) (alike_results c k (output_removed n k a))

  -- ---- what is the same then

  numbers_pairs : (xs ys : List FlatNode) → Pairs Alike xs ys → map number ys ≡ map number xs
  numbers_pairs _ _ no_node = refl
  numbers_pairs _ _ (one_node x y xs ys h p) = let r = numbers_pairs xs ys p in λ i. h.id i ∷ r i

  pub numbers_alike : (a b : Flat) → AreAlike a b → ids b ≡ ids a
  numbers_alike a b h = numbers_pairs a.nodes b.nodes h.nodes

  -- the arguments of a region
  abbrev taken : Option FlatRegion → Option (List Kind)
  taken o = option_map (λ (r : FlatRegion). r.args) o

  taken_at : (k : ℕ) (rs : List FlatRegion) → taken (slice_get rs k) ≡ slice_get (args_in rs) k
  taken_at k [] = refl
  taken_at zero (r ∷ rs) = refl
  taken_at (suc k) (r ∷ rs) = taken_at k rs

  abbrev region_in : (m k : ℕ) → List FlatNode → Option FlatRegion
  region_in m k xs = option_and_then (λ (x : FlatNode). slice_get x.regions k) (found m xs)

  taken_pairs : (m k : ℕ) (xs ys : List FlatNode) → Pairs Alike xs ys → taken (region_in m k ys) ≡ taken (region_in m k xs)
  taken_pairs m k _ _ no_node = refl
  taken_pairs m k _ _ (one_node x y xs ys h p) =
      ap (λ i. taken (option_and_then (λ (z : FlatNode). slice_get z.regions k) (if i == m then Some y else found m ys))) h.id ∙ by (x.id == m) (taken_pairs m k xs ys p)
    where
      by : (t : Bool) → taken (region_in m k ys) ≡ taken (region_in m k xs) →
          taken (option_and_then (λ (z : FlatNode). slice_get z.regions k) (if t then Some y else found m ys)) ≡ taken (option_and_then (λ (z : FlatNode). slice_get z.regions k) (if t then Some x else found m xs))
      by true r = taken_at k y.regions ∙ ap (λ z. slice_get z k) h.args ∙ sym (taken_at k x.regions)
      by false r = r

  taken_alike : (p : Place) (a b : Flat) → AreAlike a b → taken (region_at p b) ≡ taken (region_at p a)
  taken_alike p a b h = by p.node
    where
      by_body : (t : Bool) → taken (if t then Some b.body else None) ≡ taken (if t then Some a.body else None)
      by_body true = ap Some h.body
      by_body false = refl

      by : (o : Option ℕ) → taken (region_of o p.region b) ≡ taken (region_of o p.region a)
      by None = by_body (p.region == 0)
      by (Some m) = taken_pairs m p.region a.nodes b.nodes h.nodes

  -- a region that was there is there
  pub region_alike : (p : Place) (a b : Flat) → AreAlike a b → (r : FlatRegion) → region_at p a ≡ Some r → (s : FlatRegion) × (region_at p b ≡ Some s)
  region_alike p a b h r e = by (region_at p b) refl
    where
      by : (o : Option FlatRegion) → region_at p b ≡ o → (s : FlatRegion) × (region_at p b ≡ Some s)
      by None d = let wrong : None ≡ Some r.args = sym (ap taken d) ∙ taken_alike p a b h ∙ ap taken e in absurd cc
      by (Some s) d = (s, d)

  -- the kind of what is no output of node n
  argument_kind : (k : ℕ) (o : Option FlatRegion) → option_and_then (λ (r : FlatRegion). slice_get r.args k) o ≡ option_and_then (λ (js : List Kind). slice_get js k) (taken o)
  argument_kind k None = refl
  argument_kind k (Some r) = refl

  output_pairs : (p : Place) (m k : ℕ) (xs ys : List FlatNode) → (m == n) ≡ false → Pairs Alike xs ys → option_and_then (output_kind p k) (found m ys) ≡ option_and_then (output_kind p k) (found m xs)
  output_pairs p m k _ _ e no_node = refl
  output_pairs p m k _ _ e (one_node x y xs ys h q) =
      ap (λ i. option_and_then (output_kind p k) (if i == m then Some y else found m ys)) h.id ∙ by (x.id == m) refl (output_pairs p m k xs ys e q)
    where
      by : (t : Bool) → (x.id == m) ≡ t → option_and_then (output_kind p k) (found m ys) ≡ option_and_then (output_kind p k) (found m xs) →
          option_and_then (output_kind p k) (if t then Some y else found m ys) ≡ option_and_then (output_kind p k) (if t then Some x else found m xs)
      by true d r =
          let other : (x.id == n) ≡ false = ap (λ i. i == n) (same_number x.id m d) ∙ e in
          λ i. if same_place (h.home i) p then slice_get (h.outputs other i) k else None
      by false d r = r

  pub other_number : (m k : ℕ) → IsOther n (Out m k) → (m == n) ≡ false
  other_number m k h = by (m == n) (nat_lt k 0) (grind (arith, nat_tests)) h
    where
      by : (t u : Bool) → u ≡ false → (t && not u) ≡ false → t ≡ false
      by false u e f = refl
      by true true e f = absurd cc
      by true false e f = absurd cc

  pub kind_alike : (p : Place) (o : Origin) (a b : Flat) → IsOther n o → AreAlike a b → kind_in p o b ≡ kind_in p o a
  kind_alike p (Arg k) a b other h =
      argument_kind k (region_at p b) ∙ ap (option_and_then (λ (js : List Kind). slice_get js k)) (taken_alike p a b h) ∙ sym (argument_kind k (region_at p a))
  kind_alike p (Out m k) a b other h = output_pairs p m k a.nodes b.nodes (other_number m k other) h.nodes

  -- what the other nodes cost
  costs_pairs : (ns : List ℕ) (xs ys : List FlatNode) → is_in ns (Some n) ≡ false → Pairs Alike xs ys → nodes_cost ns ys ≡ nodes_cost ns xs
  costs_pairs ns _ _ e no_node = refl
  costs_pairs ns _ _ e (one_node x y xs ys h p) =
      ap (λ i. (if is_in ns (Some i) then node_cost y else 0) + nodes_cost ns ys) h.id ∙ (λ i. by (is_in ns (Some x.id)) refl i + costs_pairs ns xs ys e p i)
    where
      apart : (t : Bool) → (x.id == n) ≡ t → is_in ns (Some x.id) ≡ true → (x.id == n) ≡ false
      apart true d q = let wrong : true ≡ false = sym q ∙ ap (λ i. is_in ns (Some i)) (same_number x.id n d) ∙ e in absurd cc
      apart false d q = d

      by : (t : Bool) → is_in ns (Some x.id) ≡ t → (if t then node_cost y else 0) ≡ (if t then node_cost x else 0)
      by true q =
          let other = apart (x.id == n) refl q in
          λ i. 1 + 3 * length (h.outputs other i) + 2 * h.results other i
      by false q = refl

  pub costs_alike : (ns : List ℕ) (a b : Flat) → is_in ns (Some n) ≡ false → AreAlike a b → nodes_cost ns b.nodes ≡ nodes_cost ns a.nodes
  costs_alike ns a b e h = costs_pairs ns a.nodes b.nodes e h.nodes
