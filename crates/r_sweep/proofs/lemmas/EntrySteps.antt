-- A node while entry variables of it go, from the last to the first: those before are as they were.
use Rattle.std.proofs.Common.{◌≡◌, ◌≤◌, ◌<◌, ◌+◌, ◌&&◌, ◌==◌, ℕ, zero, suc, Bool, true, false, Option, None, Some, option_map, List, [], ◌∷◌, map, length, refl, sym, ap, subst, ◌∙◌, arith}
use Rattle.std.specs.Prelude.{if◌then◌else◌, IsSome, is_some, slice_get, option_and_then}
use Rattle.std.specs.List.{remove}
use Rattle.std.proofs.lemmas.Bool.{and_parts}
use Rattle.std.proofs.lemmas.Bool.Decides.{nat_tests}
use Rattle.std.proofs.lemmas.Option.{same_Some}
use Rattle.g_graph.specs.declared.op.Kind.{Kind}
use Rattle.g_graph.specs.declared.op.Origin.{Origin}
use Rattle.g_graph.specs.declared.op.Origin.TheVariants.{Arg}
use Rattle.g_graph.proofs.lemmas.Unique.{same_number}
use Rattle.g_arena_def.specs.declared.place.Place.{Place}
use Rattle.g_arena_def.specs.Flat.{FlatRegion, FlatNode, Flat, place_in, same_node, same_place}
use Rattle.g_arena_def.specs.Reads.{found, times, input_uses, result_uses, uses_in}
use Rattle.g_arena_def.specs.Edits.{node_with, at_with, region_with, inputs_at, uses_with, input_removed, argument_less, arguments_follow, argument_removed}
use Rattle.r_sweep.specs.Removals.{from_last, each_of, entry_removed}
use Rattle.r_sweep.proofs.lemmas.Around.{region_set}
use Rattle.r_sweep.proofs.lemmas.Outside.{place_apart}
use Rattle.r_sweep.proofs.lemmas.Edits.{NodeAt, found_with, found_inputs, at_other}
use Rattle.r_sweep.proofs.lemmas.ExitSteps.{remove_before}
use Rattle.r_sweep.proofs.lemmas.Uses.{argument_times, uses_same, region_same}

-- ---- changes of a region of a node

abbrev pub args_gone : (k : ℕ) → FlatRegion → FlatRegion
args_gone k r = record r { args = remove r.args k }

abbrev pub results_follow : (k c : ℕ) → FlatRegion → FlatRegion
results_follow k c r = record r { results = map (argument_less k c) r.results }

-- the node, after an argument of region i went, of which there were so many
abbrev pub argument_gone : (i k c : ℕ) → FlatNode → FlatNode
argument_gone i k c y = region_set i (results_follow k c) (region_set i (args_gone k) y)

home_apart : (n i : ℕ) (y : FlatNode) → same_node y.home.node (Some n) ≡ false → same_place y.home (place_in n i) ≡ false
home_apart n i y e = place_apart n i y.home e

-- a region that is there, and what it becomes
module _ (n i k : ℕ) (y : FlatNode) (b : Flat) (h : NodeAt n y b) (r : FlatRegion) (there : slice_get y.regions i ≡ Some r) where
  abbrev c : ℕ
  c = length r.args

  pub is_followed : argument_removed (place_in n i) k b ≡ uses_with (place_in n i) (argument_less k c) (region_with (place_in n i) (args_gone k) b)
  is_followed =
      ap (λ o. arguments_follow (option_and_then (λ (x : FlatNode). slice_get x.regions i) o) (place_in n i) k b) h.there ∙ ap (λ o. arguments_follow o (place_in n i) k b) there

  pub argument_at : NodeAt n (argument_gone i k c y) (argument_removed (place_in n i) k b)
  argument_at = record {
    there = ap (λ (z : Flat). found n z.nodes) is_followed
        ∙ found_with n (region_set i (results_follow k c)) (map (inputs_at (place_in n i) (argument_less k c)) (node_with n (region_set i (args_gone k)) b.nodes)) (λ z. refl)
        ∙ ap (option_map (region_set i (results_follow k c)))
        (found_inputs n (place_in n i) (argument_less k c) (node_with n (region_set i (args_gone k)) b.nodes)
        ∙ ap (option_map (inputs_at (place_in n i) (argument_less k c))) (found_with n (region_set i (args_gone k)) b.nodes (λ z. refl) ∙ ap (option_map (region_set i (args_gone k))) h.there)
        ∙ ap (λ t. Some (if t then record y { inputs = map (argument_less k c) y.inputs; regions = at_with i (args_gone k) y.regions } else region_set i (args_gone k) y)) (home_apart n i y h.apart));
    number = h.number;
    apart = h.apart;
  }

  -- uses of an argument before
  pub argument_uses : (q : Place) (m : ℕ) → m < k → uses_in q (Arg m) (argument_removed (place_in n i) k b) ≡ uses_in q (Arg m) b
  argument_uses q m lt =
      ap (uses_in q (Arg m)) is_followed ∙ uses_same (Arg m) (argument_less k c) (argument_times k c m lt) q (place_in n i) (region_with (place_in n i) (args_gone k) b)
      ∙ region_same (Arg m) q (place_in n i) (args_gone k) (λ s. refl) b

-- ---- uses in another region of the node

module _ (o : Origin) (n i j : ℕ) (other : (i == j) ≡ false) where
  abbrev p : Place
  p = place_in n i

  abbrev q : Place
  q = place_in n j

  not_both : (s : Place) → same_place s p ≡ true → same_place s q ≡ false
  not_both s e =
      let both = and_parts (same_node s.node (Some n)) (s.region == i) e in
      let at : s.region ≡ i = same_number s.region i both.1 in
      (λ t. both.0 t && (at t == j)) ∙ other

  inputs_elsewhere : (f : Origin → Origin) (xs : List FlatNode) → input_uses q o (map (inputs_at p f) xs) ≡ input_uses q o xs
  inputs_elsewhere f [] = refl
  inputs_elsewhere f (x ∷ xs) = by (same_place x.home p) refl (inputs_elsewhere f xs)
    where
      by : (t : Bool) → same_place x.home p ≡ t → input_uses q o (map (inputs_at p f) xs) ≡ input_uses q o xs →
          input_uses q o ((if t then record x { inputs = map f x.inputs } else x) ∷ map (inputs_at p f) xs) ≡ input_uses q o (x ∷ xs)
      by true e h = (λ s. (if not_both x.home e s then times o (map f x.inputs) else 0) + h s) ∙ sym (λ s. (if not_both x.home e s then times o x.inputs else 0) + input_uses q o xs)
      by false e h = ap (λ d. (if same_place x.home q then times o x.inputs else 0) + d) h

  inputs_set : (h : FlatRegion → FlatRegion) (xs : List FlatNode) → input_uses q o (node_with n (region_set i h) xs) ≡ input_uses q o xs
  inputs_set h [] = refl
  inputs_set h (x ∷ xs) = by (x.id == n) (inputs_set h xs)
    where
      by : (t : Bool) → input_uses q o (node_with n (region_set i h) xs) ≡ input_uses q o xs → input_uses q o (if t then region_set i h x ∷ xs else x ∷ node_with n (region_set i h) xs) ≡ input_uses q o (x ∷ xs)
      by true r = refl
      by false r = ap (λ d. (if same_place x.home q then times o x.inputs else 0) + d) r

different : (i j : ℕ) → (i == j) ≡ false → i ≡ j → ⊥
different i j e s = absurd (let t : (i == i) ≡ false = ap (λ k. i == k) s ∙ e in grind (arith, nat_tests, t))

abbrev region_in : (n j : ℕ) → Flat → Option FlatRegion
region_in n j b = option_and_then (λ (x : FlatNode). slice_get x.regions j) (found n b.nodes)

-- an argument of region i goes: uses in region j
pub argument_elsewhere : (n i j k : ℕ) (y : FlatNode) (b : Flat) → NodeAt n y b → (r : FlatRegion) → slice_get y.regions i ≡ Some r → (o : Origin) → (i == j) ≡ false →
    uses_in (place_in n j) o (argument_removed (place_in n i) k b) ≡ uses_in (place_in n j) o b
argument_elsewhere n i j k y b h r there o other =
    let c = length r.args in
    let f = argument_less k c in
    let first = node_with n (region_set i (args_gone k)) b.nodes in
    let inputs : input_uses (place_in n j) o (argument_removed (place_in n i) k b).nodes ≡ input_uses (place_in n j) o b.nodes =
    ap (λ (z : Flat). input_uses (place_in n j) o z.nodes) (is_followed n i k y b h r there)
    ∙ inputs_set o n i j other (results_follow k c) (map (inputs_at (place_in n i) f) first) ∙ inputs_elsewhere o n i j other f first ∙ inputs_set o n i j other (args_gone k) b.nodes in
    let results : region_in n j (argument_removed (place_in n i) k b) ≡ region_in n j b =
    ap (option_and_then (λ (x : FlatNode). slice_get x.regions j)) (argument_at n i k y b h r there).there
    ∙ at_other i j (results_follow k c) (at_with i (args_gone k) y.regions) (different i j other) ∙ at_other i j (args_gone k) y.regions (different i j other)
    ∙ ap (option_and_then (λ (x : FlatNode). slice_get x.regions j)) (sym h.there) in
    λ t. inputs t + result_uses o (results t)

-- an input goes: uses in a region of the node
abbrev pub input_gone : (m : ℕ) → FlatNode → FlatNode
input_gone m y = record y { inputs = remove y.inputs m }

inputs_own : (o : Origin) (n j m : ℕ) (y : FlatNode) (xs : List FlatNode) → found n xs ≡ Some y → same_place y.home (place_in n j) ≡ false → input_uses (place_in n j) o (node_with n (input_gone m) xs) ≡ input_uses (place_in n j) o xs
inputs_own o n j m y [] e apart = refl
inputs_own o n j m y (x ∷ xs) e apart = by (x.id == n) e (λ d. inputs_own o n j m y xs d apart)
  where
    by : (t : Bool) → (if t then Some x else found n xs) ≡ Some y → (found n xs ≡ Some y → input_uses (place_in n j) o (node_with n (input_gone m) xs) ≡ input_uses (place_in n j) o xs) →
        input_uses (place_in n j) o (if t then input_gone m x ∷ xs else x ∷ node_with n (input_gone m) xs) ≡ input_uses (place_in n j) o (x ∷ xs)
    by true d f =
        let off : same_place x.home (place_in n j) ≡ false = ap (λ (z : FlatNode). same_place z.home (place_in n j)) (same_Some x y d) ∙ apart in
        (λ s. (if off s then times o (remove x.inputs m) else 0) + input_uses (place_in n j) o xs) ∙ sym (λ s. (if off s then times o x.inputs else 0) + input_uses (place_in n j) o xs)
    by false d f = ap (λ c. (if same_place x.home (place_in n j) then times o x.inputs else 0) + c) (f d)

pub input_at : (n m : ℕ) (y : FlatNode) (b : Flat) → NodeAt n y b → NodeAt n (input_gone m y) (input_removed n m b)
input_at n m y b h = record {
  there = found_with n (input_gone m) b.nodes (λ z. refl) ∙ ap (option_map (input_gone m)) h.there;
  number = h.number;
  apart = h.apart;
}

pub input_elsewhere : (n j m : ℕ) (y : FlatNode) (b : Flat) → NodeAt n y b → (o : Origin) → uses_in (place_in n j) o (input_removed n m b) ≡ uses_in (place_in n j) o b
input_elsewhere n j m y b h o =
    let results : region_in n j (input_removed n m b) ≡ region_in n j b =
    ap (option_and_then (λ (x : FlatNode). slice_get x.regions j)) (input_at n m y b h).there ∙ ap (option_and_then (λ (x : FlatNode). slice_get x.regions j)) (sym h.there) in
    λ t. inputs_own o n j m y b.nodes h.there (home_apart n j y h.apart) t + result_uses o (results t)

-- ---- entries

abbrev pub arg_of : (j k : ℕ) → FlatNode → Option Kind
arg_of j k x = option_and_then (λ (r : FlatRegion). slice_get r.args k) (slice_get x.regions j)

module _ (n : ℕ) (a : Flat) (c : ℕ) where
  -- the entry variables before one are as they were
  pub record EntriesAt (p : ℕ) (b : Flat) : Type 0 where
    pub node : FlatNode
    pub at : NodeAt n node b
    pub inputs : p < length node.inputs
    pub args : (j k : ℕ) → j < c → k < p → IsSome (arg_of j k node)
    pub uses : (j k : ℕ) → k < p → uses_in (place_in n j) (Arg k) b ≡ uses_in (place_in n j) (Arg k) a

  pub fewer_entries : (p q : ℕ) (b : Flat) → p ≤ q → EntriesAt q b → EntriesAt p b
  fewer_entries p q b le h = record {
    node = h.node;
    at = h.at;
    inputs = omega (arith, le, h.inputs);
    args = λ j k lt lk. h.args j k lt (omega (arith, le, lk));
    uses = λ j k lk. h.uses j k (omega (arith, le, lk));
  }

  -- a region that has an argument is there
  region_there : (j k : ℕ) (y : FlatNode) → IsSome (arg_of j k y) → (r : FlatRegion) × (slice_get y.regions j ≡ Some r)
  region_there j k y h = by (slice_get y.regions j) refl h
    where
      by : (o : Option FlatRegion) → slice_get y.regions j ≡ o → IsSome (option_and_then (λ (r : FlatRegion). slice_get r.args k) o) → (r : FlatRegion) × (slice_get y.regions j ≡ Some r)
      by None e d = absurd cc
      by (Some r) e d = (r, e)

  args_before : (i j k p : ℕ) (f : FlatRegion → FlatRegion) (rs : List FlatRegion) → k < p → ((r : FlatRegion) → (f r).args ≡ remove r.args p) →
      IsSome (option_and_then (λ (r : FlatRegion). slice_get r.args k) (slice_get rs j)) → IsSome (option_and_then (λ (r : FlatRegion). slice_get r.args k) (slice_get (at_with i f rs) j))
  args_before i j k p f [] lt e h = absurd cc
  args_before zero zero k p f (r ∷ rs) lt e h = ap is_some (ap (λ ks. slice_get ks k) (e r) ∙ remove_before k p r.args lt) ∙ h
  args_before zero (suc j) k p f (r ∷ rs) lt e h = h
  args_before (suc i) zero k p f (r ∷ rs) lt e h = h
  args_before (suc i) (suc j) k p f (r ∷ rs) lt e h = args_before i j k p f rs lt e h

  args_still : (i j k : ℕ) (f : FlatRegion → FlatRegion) (rs : List FlatRegion) → ((r : FlatRegion) → (f r).args ≡ r.args) →
      option_and_then (λ (r : FlatRegion). slice_get r.args k) (slice_get (at_with i f rs) j) ≡ option_and_then (λ (r : FlatRegion). slice_get r.args k) (slice_get rs j)
  args_still i j k f [] e = refl
  args_still zero zero k f (r ∷ rs) e = ap (λ ks. slice_get ks k) (e r)
  args_still zero (suc j) k f (r ∷ rs) e = refl
  args_still (suc i) zero k f (r ∷ rs) e = refl
  args_still (suc i) (suc j) k f (r ∷ rs) e = args_still i j k f rs e

  -- the argument of region i goes, where those of regions before it went
  pub record Going (p i : ℕ) (b : Flat) : Type 0 where
    pub before : EntriesAt p b
    pub inputs : suc p < length before.node.inputs
    pub own : (j : ℕ) → i ≤ j → j < c → IsSome (arg_of j p before.node)
    pub still : (j : ℕ) → i ≤ j → uses_in (place_in n j) (Arg p) b ≡ uses_in (place_in n j) (Arg p) a

  pub begin_entry : (p : ℕ) (b : Flat) → EntriesAt (suc p) b → Going p 0 b
  unfolding fewer_entries
  begin_entry p b h = record {
    before = fewer_entries p (suc p) b (omega arith) h;
    inputs = h.inputs;
    own = λ j le lt. h.args j p lt (omega arith);
    still = λ j le. h.uses j p (omega arith);
  }

  pub argument_goes : (p i : ℕ) (b : Flat) → i < c → Going p i b → Going p (suc i) (argument_removed (place_in n i) p b)
  argument_goes p i b lt h =
      let y = h.before.node in
      let rt = region_there i p y (h.own i (omega arith) lt) in
      let cnt = length rt.0.args in
      record {
        before = record {
          node = argument_gone i p cnt y;
          at = argument_at n i p y b h.before.at rt.0 rt.1;
          inputs = h.before.inputs;
          args = λ j k l lk. args_after j k lk (h.before.args j k l lk);
          uses = λ j k lk. argument_uses n i p y b h.before.at rt.0 rt.1 (place_in n j) k lk ∙ h.before.uses j k lk;
        };
        inputs = h.inputs;
        own = λ j le l. subst (λ o. IsSome (option_and_then (λ (r : FlatRegion). slice_get r.args p) o))
            (sym (at_other i j (results_follow p cnt) (at_with i (args_gone p) y.regions) (λ e. omega (arith, e, le)) ∙ at_other i j (args_gone p) y.regions (λ e. omega (arith, e, le))))
            (h.own j (omega (arith, le)) l);
        still = λ j le. argument_elsewhere n i j p y b h.before.at rt.0 rt.1 (Arg p) (apart j le) ∙ h.still j (omega (arith, le));
      }
    where
      apart : (j : ℕ) → suc i ≤ j → (i == j) ≡ false
      apart j le = grind (arith, nat_tests, le)

      args_after : (j k : ℕ) → k < p → IsSome (arg_of j k h.before.node) → IsSome (arg_of j k (argument_gone i p (length (region_there i p h.before.node (h.own i (omega arith) lt)).0.args) h.before.node))
      args_after j k lk d =
          let cnt = length (region_there i p h.before.node (h.own i (omega arith) lt)).0.args in
          ap is_some (args_still i j k (results_follow p cnt) (at_with i (args_gone p) h.before.node.regions) (λ r. refl)) ∙ args_before i j k p (args_gone p) h.before.node.regions lk (λ r. refl) d

  remove_count : {X : Type 0} (m : ℕ) (xs : List X) → m < length xs → suc (length (remove xs m)) ≡ length xs
  remove_count m [] h = absurd (omega (arith, h))
  remove_count zero (x ∷ xs) h = refl
  remove_count (suc m) (x ∷ xs) h = ap suc (remove_count m xs (omega (arith, h)))

  pub input_goes : (p i : ℕ) (b : Flat) → Going p i b → EntriesAt p (input_removed n (suc p) b)
  input_goes p i b h =
      let y = h.before.node in
      record {
        node = input_gone (suc p) y;
        at = input_at n (suc p) y b h.before.at;
        inputs = omega (arith, h.inputs, remove_count (suc p) y.inputs h.inputs);
        args = h.before.args;
        uses = λ j k lk. input_elsewhere n j (suc p) y b h.before.at (Arg k) ∙ h.before.uses j k lk;
      }

  -- the arguments of the first so many regions go
  pub arguments_go : (p i : ℕ) (b : Flat) → i ≤ c → EntriesAt (suc p) b → Going p i (each_of (λ j. argument_removed (place_in n j) p) i b)
  arguments_go p zero b le h = begin_entry p b h
  arguments_go p (suc i) b le h = argument_goes p i (each_of (λ j. argument_removed (place_in n j) p) i b) (omega (arith, le)) (arguments_go p i b (omega (arith, le)) h)

  pub entry_goes : (p : ℕ) (b : Flat) → EntriesAt (suc p) b → EntriesAt p (entry_removed n c p b)
  entry_goes p b h = input_goes p c (each_of (λ j. argument_removed (place_in n j) p) c b) (arguments_go p c b (omega arith) h)

  pub entries_go : (ts : List Bool) (k count : ℕ) → k + length ts ≡ count → EntriesAt count a → EntriesAt k (from_last (entry_removed n c) k ts a)
  entries_go [] k count e start = fewer_entries k count a (omega (arith, e)) start
  entries_go (t ∷ ts) k count e start = by t (entries_go ts (suc k) count (omega (arith, e)) start)
    where
      by : (u : Bool) → EntriesAt (suc k) (from_last (entry_removed n c) (suc k) ts a) → EntriesAt k (if u then from_last (entry_removed n c) (suc k) ts a else entry_removed n c k (from_last (entry_removed n c) (suc k) ts a))
      by true h = fewer_entries k (suc k) (from_last (entry_removed n c) (suc k) ts a) (omega arith) h
      by false h = entry_goes k (from_last (entry_removed n c) (suc k) ts a) h
