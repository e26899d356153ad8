-- What the rule leaves of the nodes before the one that it changes: their numbers, and how large they are.
use Rattle.std.proofs.Common.{◌≡◌, ◌+◌, ◌==◌, ◌&&◌, ℕ, zero, suc, Bool, true, false, Option, None, Some, option_and_then, List, [], ◌∷◌, ◌++◌, map, length, refl, sym, ap, subst, ◌∙◌}
use Rattle.std.specs.Prelude.{if◌then◌else◌}
use Rattle.std.specs.List.{remove}
use Rattle.std.proofs.lemmas.List.{length-map}
use Rattle.std.proofs.lemmas.Option.{same_Some}
use Rattle.g_graph.specs.declared.op.Op.{Op}
use Rattle.g_graph.specs.declared.op.Op.TheVariants.{Const, Undef, Local, Delta, Bin, Un, Load, Store, Clear, PtrEq, Apply, Put, Exit, Get, Gamma, Theta}
use Rattle.g_graph.specs.declared.op.Origin.{Origin}
use Rattle.r_edit.specs.InPlace.{all_stay}
use Rattle.g_arena_def.specs.declared.place.Place.{Place}
use Rattle.g_arena_def.specs.Flat.{FlatRegion, FlatNode, Flat, place_in, same_place}
use Rattle.g_arena_def.specs.Reads.{found, region_of}
use Rattle.g_arena_def.specs.Edits.{node_with, at_with, changed_in, region_with, inputs_at, uses_with, regions_gone, nodes_without, node_removed, input_removed, output_less, outputs_follow, output_removed, argument_less, arguments_follow, argument_removed, result_removed}
use Rattle.r_sweep.specs.Removals.{from_last, each_of, exit_removed, entry_removed, entries_removed, variable_removed, variables_removed}
use Rattle.r_sweep.proofs.lemmas.Around.{region_set}
use Rattle.r_sweep.specs.Measure.{region_size, regions_size, node_size, nodes_size}
use Rattle.r_sweep.proofs.lemmas.Walks.{Absent}
use Rattle.r_dne.proofs.Judged.{found_number}
use Rattle.r_dne.specs.Listed.{is_dead_in, exits_in, entries_in, without_exits, used_loops, shrunk_in, eliminated_in, dne_in}

abbrev pub number : FlatNode → ℕ
number x = x.id

-- ---- lists of the same numbers, where all nodes but those of one number are as large

module _ (n : ℕ) where
  record IsSized (x y : FlatNode) : Type 0 where
    id : y.id ≡ x.id
    size : (x.id == n) ≡ false → node_size y ≡ node_size x

  data AreSized : List FlatNode → List FlatNode → Type 0 where
    no_node : AreSized [] []
    one_node : (x y : FlatNode) (xs ys : List FlatNode) → IsSized x y → AreSized xs ys → AreSized (x ∷ xs) (y ∷ ys)

  sized_itself : (x : FlatNode) → IsSized x x
  sized_itself x = record { id = refl; size = λ e. refl }

  sized_all : (xs : List FlatNode) → AreSized xs xs
  sized_all [] = no_node
  sized_all (x ∷ xs) = one_node x x xs xs (sized_itself x) (sized_all xs)

  sized_on : (xs ys zs : List FlatNode) → AreSized xs ys → AreSized ys zs → AreSized xs zs
  sized_on _ _ zs no_node h = h
  sized_on _ _ _ (one_node x y xs ys h rest) (one_node _ z _ zs g more) =
      one_node x z xs zs (record { id = g.id ∙ h.id; size = λ e. g.size (ap (λ i. i == n) h.id ∙ e) ∙ h.size e }) (sized_on xs ys zs rest more)

  -- a change of the node
  own_changed : (g : FlatNode → FlatNode) → ((y : FlatNode) → (g y).id ≡ y.id) → (xs : List FlatNode) → AreSized xs (node_with n g xs)
  own_changed g e [] = no_node
  own_changed g e (x ∷ xs) = by (x.id == n) refl (own_changed g e xs)
    where
      by : (t : Bool) → (x.id == n) ≡ t → AreSized xs (node_with n g xs) → AreSized (x ∷ xs) (if t then g x ∷ xs else x ∷ node_with n g xs)
      by true q r = one_node x (g x) xs xs (record { id = e x; size = λ d. absurd (let s : true ≡ false = sym q ∙ d in cc) }) (sized_all xs)
      by false q r = one_node x x xs (node_with n g xs) (sized_itself x) r

  -- a change of any node that keeps how large it is
  some_changed : (m : ℕ) (g : FlatNode → FlatNode) → ((y : FlatNode) → (g y).id ≡ y.id) → ((y : FlatNode) → node_size (g y) ≡ node_size y) → (xs : List FlatNode) → AreSized xs (node_with m g xs)
  some_changed m g e f [] = no_node
  some_changed m g e f (x ∷ xs) = by (x.id == m) (some_changed m g e f xs)
    where
      by : (t : Bool) → AreSized xs (node_with m g xs) → AreSized (x ∷ xs) (if t then g x ∷ xs else x ∷ node_with m g xs)
      by true r = one_node x (g x) xs xs (record { id = e x; size = λ d. f x }) (sized_all xs)
      by false r = one_node x x xs (node_with m g xs) (sized_itself x) r

  at_sized : (k : ℕ) (h : FlatRegion → FlatRegion) → ((r : FlatRegion) → region_size (h r) ≡ region_size r) → (rs : List FlatRegion) → regions_size (at_with k h rs) ≡ regions_size rs
  at_sized k h e [] = refl
  at_sized zero h e (r ∷ rs) = ap (λ c. c + regions_size rs) (e r)
  at_sized (suc k) h e (r ∷ rs) = ap (λ c. region_size r + c) (at_sized k h e rs)

  region_changed : (p : Place) (h : FlatRegion → FlatRegion) → ((r : FlatRegion) → region_size (h r) ≡ region_size r) → (a : Flat) → AreSized a.nodes (region_with p h a).nodes
  region_changed p h e a = by p.node
    where
      by : (m : Option ℕ) → AreSized a.nodes (changed_in m p.region h a).nodes
      by None = sized_all a.nodes
      by (Some m) = some_changed m (region_set p.region h) (λ y. refl) (λ y. ap (λ c. 1 + length y.inputs + length y.outputs + c) (at_sized p.region h e y.regions)) a.nodes

  inputs_changed : (p : Place) (f : Origin → Origin) (xs : List FlatNode) → AreSized xs (map (inputs_at p f) xs)
  inputs_changed p f [] = no_node
  inputs_changed p f (x ∷ xs) = one_node x (inputs_at p f x) xs (map (inputs_at p f) xs) (by (same_place x.home p)) (inputs_changed p f xs)
    where
      by : (t : Bool) → IsSized x (if t then record x { inputs = map f x.inputs } else x)
      by true = record { id = refl; size = λ e. ap (λ c. 1 + c + length x.outputs + regions_size x.regions) (length-map x.inputs f) }
      by false = sized_itself x

  uses_changed : (p : Place) (f : Origin → Origin) (a : Flat) → AreSized a.nodes (uses_with p f a).nodes
  uses_changed p f a =
      sized_on a.nodes (map (inputs_at p f) a.nodes) (uses_with p f a).nodes (inputs_changed p f a.nodes)
      (region_changed p (λ (r : FlatRegion). record r { results = map f r.results }) (λ r. ap (λ c. 1 + length r.args + c) (length-map r.results f)) (record a { nodes = map (inputs_at p f) a.nodes }))

  -- ---- the changes

  input_goes : (k : ℕ) (a : Flat) → AreSized a.nodes (input_removed n k a).nodes
  input_goes k a = own_changed (λ (x : FlatNode). record x { inputs = remove x.inputs k }) (λ y. refl) a.nodes

  result_goes : (j k : ℕ) (a : Flat) → AreSized a.nodes (result_removed (place_in n j) k a).nodes
  result_goes j k a = own_changed (region_set j (λ (r : FlatRegion). record r { results = remove r.results k })) (λ y. refl) a.nodes

  output_goes : (k : ℕ) (a : Flat) → AreSized a.nodes (output_removed n k a).nodes
  output_goes k a = by (found n a.nodes) refl
    where
      by : (o : Option FlatNode) → found n a.nodes ≡ o → AreSized a.nodes (outputs_follow o k a).nodes
      by None e = sized_all a.nodes
      by (Some x) e =
          subst (λ m. AreSized a.nodes (uses_with x.home (output_less m k (length x.outputs)) (record a { nodes = node_with m (λ (y : FlatNode). record y { outputs = remove y.outputs k }) a.nodes })).nodes)
          (sym (found_number n x a.nodes e))
          (sized_on a.nodes (node_with n (λ (y : FlatNode). record y { outputs = remove y.outputs k }) a.nodes)
          (uses_with x.home (output_less n k (length x.outputs)) (record a { nodes = node_with n (λ (y : FlatNode). record y { outputs = remove y.outputs k }) a.nodes })).nodes
          (own_changed (λ (y : FlatNode). record y { outputs = remove y.outputs k }) (λ y. refl) a.nodes)
          (uses_changed x.home (output_less n k (length x.outputs)) (record a { nodes = node_with n (λ (y : FlatNode). record y { outputs = remove y.outputs k }) a.nodes })))

  abbrev cut : (k : ℕ) → FlatRegion → FlatRegion
  cut k r = record r { args = remove r.args k }

  argument_goes : (j k : ℕ) (a : Flat) → AreSized a.nodes (argument_removed (place_in n j) k a).nodes
  argument_goes j k a = by (region_of (Some n) j a)
    where
      by : (o : Option FlatRegion) → AreSized a.nodes (arguments_follow o (place_in n j) k a).nodes
      by None = sized_all a.nodes
      by (Some r) =
          sized_on a.nodes (node_with n (region_set j (cut k)) a.nodes) (uses_with (place_in n j) (argument_less k (length r.args)) (region_with (place_in n j) (cut k) a)).nodes
          (own_changed (region_set j (cut k)) (λ y. refl) a.nodes) (uses_changed (place_in n j) (argument_less k (length r.args)) (region_with (place_in n j) (cut k) a))

  each_goes : (step : ℕ → Flat → Flat) → ((j : ℕ) (a : Flat) → AreSized a.nodes (step j a).nodes) → (c : ℕ) (a : Flat) → AreSized a.nodes (each_of step c a).nodes
  each_goes step h zero a = sized_all a.nodes
  each_goes step h (suc c) a = sized_on a.nodes (each_of step c a).nodes (each_of step (suc c) a).nodes (each_goes step h c a) (h c (each_of step c a))

  last_goes : (step : ℕ → Flat → Flat) → ((j : ℕ) (a : Flat) → AreSized a.nodes (step j a).nodes) → (ts : List Bool) (k : ℕ) (a : Flat) → AreSized a.nodes (from_last step k ts a).nodes
  last_goes step h [] k a = sized_all a.nodes
  last_goes step h (t ∷ ts) k a = by t (last_goes step h ts (suc k) a)
    where
      by : (u : Bool) → AreSized a.nodes (from_last step (suc k) ts a).nodes → AreSized a.nodes (if u then from_last step (suc k) ts a else step k (from_last step (suc k) ts a)).nodes
      by true r = r
      by false r = sized_on a.nodes (from_last step (suc k) ts a).nodes (step k (from_last step (suc k) ts a)).nodes r (h k (from_last step (suc k) ts a))

  exit_goes : (c k : ℕ) (a : Flat) → AreSized a.nodes (exit_removed n c k a).nodes
  exit_goes c k a =
      sized_on a.nodes (output_removed n k a).nodes (exit_removed n c k a).nodes (output_goes k a) (each_goes (λ j. result_removed (place_in n j) k) (λ j b. result_goes j k b) c (output_removed n k a))

  entry_goes : (c k : ℕ) (a : Flat) → AreSized a.nodes (entry_removed n c k a).nodes
  entry_goes c k a =
      sized_on a.nodes (each_of (λ j. argument_removed (place_in n j) k) c a).nodes (entry_removed n c k a).nodes (each_goes (λ j. argument_removed (place_in n j) k) (λ j b. argument_goes j k b) c a)
      (input_goes (suc k) (each_of (λ j. argument_removed (place_in n j) k) c a))

  variable_goes : (k : ℕ) (a : Flat) → AreSized a.nodes (variable_removed n k a).nodes
  variable_goes k a =
      let b = output_removed n k a in
      let c = result_removed (place_in n 0) (suc k) b in
      let d = argument_removed (place_in n 0) k c in
      sized_on a.nodes b.nodes (variable_removed n k a).nodes (output_goes k a)
      (sized_on b.nodes c.nodes (variable_removed n k a).nodes (result_goes 0 (suc k) b) (sized_on c.nodes d.nodes (variable_removed n k a).nodes (argument_goes 0 k c) (input_goes k d)))

-- ---- the rule

gamma_sized : (a : Flat) (x : FlatNode) → AreSized x.id a.nodes (entries_removed x.id (length x.regions) (entries_in a x) (without_exits a x)).nodes
gamma_sized a x =
    sized_on x.id a.nodes (without_exits a x).nodes (entries_removed x.id (length x.regions) (entries_in a x) (without_exits a x)).nodes
    (last_goes x.id (exit_removed x.id (length x.regions)) (λ k b. exit_goes x.id (length x.regions) k b) (exits_in a x) 0 a)
    (last_goes x.id (entry_removed x.id (length x.regions)) (λ k b. entry_goes x.id (length x.regions) k b) (entries_in a x) 0 (without_exits a x))

by_test : (t : Bool) (b c : Flat) → (if t then None else Some b) ≡ Some c → b ≡ c
by_test true b c e = absurd cc
by_test false b c e = same_Some b c e

shrunk_sized : (op : Op) (rs : List FlatRegion) (a : Flat) (x : FlatNode) (b : Flat) → shrunk_in op rs a x ≡ Some b → AreSized x.id a.nodes b.nodes
shrunk_sized Gamma rs a x b e =
    subst (λ (c : Flat). AreSized x.id a.nodes c.nodes) (by_test (all_stay (exits_in a x) && all_stay (entries_in a x)) (entries_removed x.id (length x.regions) (entries_in a x) (without_exits a x)) b e) (gamma_sized a x)
shrunk_sized Theta (r ∷ []) a x b e =
    subst (λ (c : Flat). AreSized x.id a.nodes c.nodes) (by_test (all_stay (used_loops a x r 0 r.args)) (variables_removed x.id (used_loops a x r 0 r.args) a) b e)
    (last_goes x.id (variable_removed x.id) (λ k c. variable_goes x.id k c) (used_loops a x r 0 r.args) 0 a)
shrunk_sized Theta [] a x b e = absurd cc
shrunk_sized Theta (r ∷ q ∷ rs) a x b e = absurd cc
shrunk_sized (Const w) rs a x b e = absurd cc
shrunk_sized Undef rs a x b e = absurd cc
shrunk_sized (Local k) rs a x b e = absurd cc
shrunk_sized (Delta k) rs a x b e = absurd cc
shrunk_sized (Bin o) rs a x b e = absurd cc
shrunk_sized (Un o) rs a x b e = absurd cc
shrunk_sized (Load w) rs a x b e = absurd cc
shrunk_sized (Store w) rs a x b e = absurd cc
shrunk_sized (Clear k) rs a x b e = absurd cc
shrunk_sized PtrEq rs a x b e = absurd cc
shrunk_sized (Apply f) rs a x b e = absurd cc
shrunk_sized Put rs a x b e = absurd cc
shrunk_sized Exit rs a x b e = absurd cc
shrunk_sized Get rs a x b e = absurd cc

-- ---- the nodes before

-- these nodes have the same numbers, and are together as large
pub record IsFront (xs ys : List FlatNode) : Type 0 where
  pub numbers : map number ys ≡ map number xs
  pub size : nodes_size ys ≡ nodes_size xs

-- a list begins with such nodes
pub record HasFront (xs ys : List FlatNode) : Type 0 where
  pub front : List FlatNode
  pub rest : List FlatNode
  pub is : ys ≡ front ++ rest
  pub same : IsFront xs front

front_sized : (n : ℕ) (xs zs ys : List FlatNode) → Absent number n xs → AreSized n (xs ++ zs) ys → HasFront xs ys
front_sized n [] zs ys h s = record { front = []; rest = ys; is = refl; same = record { numbers = refl; size = refl } }
front_sized n (x ∷ xs) zs _ h (one_node _ y _ ys s more) =
    let f = front_sized n xs zs ys h.1 more in
    record {
      front = y ∷ f.front;
      rest = f.rest;
      is = ap (λ us. y ∷ us) f.is;
      same = record { numbers = λ i. s.id i ∷ f.same.numbers i; size = λ i. s.size h.0 i + f.same.size i };
    }

front_without : (n : ℕ) (xs : List FlatNode) (y : FlatNode) (zs : List FlatNode) → Absent number n xs → (y.id == n) ≡ true → nodes_without n (xs ++ y ∷ zs) ≡ xs ++ regions_gone (n ∷ []) zs
front_without n [] y zs h e = ap (λ t. if t then regions_gone (n ∷ []) zs else y ∷ nodes_without n zs) e
front_without n (x ∷ xs) y zs h e = ap (λ t. if t then regions_gone (n ∷ []) (xs ++ y ∷ zs) else x ∷ nodes_without n (xs ++ y ∷ zs)) h.0 ∙ ap (λ us. x ∷ us) (front_without n xs y zs h.1 e)

module _ (a b : Flat) (xs zs : List FlatNode) (y : FlatNode) (is : a.nodes ≡ xs ++ y ∷ zs) (absent : Absent number y.id xs) (self : (y.id == y.id) ≡ true) where
  eliminated_front : eliminated_in a y ≡ Some b → HasFront xs b.nodes
  eliminated_front e = by (is_dead_in a y) e
    where
      by : (t : Bool) → (if t then Some (node_removed y.id a) else shrunk_in y.op y.regions a y) ≡ Some b → HasFront xs b.nodes
      by true d = record {
        front = xs;
        rest = regions_gone (y.id ∷ []) zs;
        is = ap (λ (c : Flat). c.nodes) (sym (same_Some (node_removed y.id a) b d)) ∙ ap (nodes_without y.id) is ∙ front_without y.id xs y zs absent self;
        same = record { numbers = refl; size = refl };
      }
      by false d = front_sized y.id xs (y ∷ zs) b.nodes absent (subst (λ us. AreSized y.id us b.nodes) is (shrunk_sized y.op y.regions a y b d))

  pub dne_front : (n : ℕ) → found n a.nodes ≡ Some y → dne_in n a ≡ Some b → HasFront xs b.nodes
  dne_front n e d = eliminated_front (ap (option_and_then (eliminated_in a)) (sym e) ∙ d)
