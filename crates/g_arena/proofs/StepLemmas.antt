-- How what is stored of a list of nodes, and the names of its uses, grow by one.
use Rattle.std.proofs.Common.{◌≡◌, ℕ, zero, suc, ◌+◌, ◌^◌, ◌<◌, Bool, true, false, ◌&&◌, ◌||◌, cond, eqb, Option, Some, List, [], ◌∷◌, ◌++◌, ◌⊎◌, inl, inr, length, map, get_or, take, refl, ap, sym, ◌∙◌, subst, append_assoc, length-append, arith}
use Rattle.std.specs.Prelude.{slice_get}
use Rattle.std.specs.List.{list_any}
use Rattle.std.specs.Iterator.{Yields}
use Rattle.std.proofs.iter.Next.{Yields-more}
use Rattle.std.proofs.lemmas.Iterator.{YieldsList}
use Rattle.std.proofs.lemmas.Iterator.Consumers.{YieldsList-so_far}
use Rattle.std.proofs.lemmas.Bool.{eqb-true, eqb-false, eq-eqb, ne_eqb, or_parts, or_from}
use Rattle.std.proofs.lemmas.List.{append-nil, map_push, length-map}
use Rattle.std.proofs.lemmas.Option.{same_Some, get_or_from_slice_get}
use Rattle.cell_lists.specs.Lists.{is_in, AreDistinct}
use Rattle.g_graph.specs.declared.op.Kind.{Kind}
use Rattle.g_graph.specs.declared.op.Origin.{Origin}
use Rattle.g_graph.specs.declared.op.Origin.TheVariants.{Arg, Out}
use Rattle.g_graph.specs.Scope.{same_origin}
use Rattle.g_arena_def.specs.declared.place.Place.{Place}
use Rattle.g_arena_def.specs.Flat.{FlatRegion, FlatNode, place_in}
use Rattle.g_arena_use.specs.declared.use_index.Use.{Use}
use Rattle.g_arena_use.specs.UseCells.{same_use, is_named, IsNamed, with_name}
use Rattle.g_arena_use.specs.Lists.{PlainList, use_in, AreNamedIn, AllNamed}
use Rattle.g_arena_use.specs.Plain.{PlainSlot, IsShort}
use Rattle.g_arena_use.proofs.SeenLemmas.{apart}
use Rattle.g_arena_use.proofs.ResultLemmas.{place_self}
use Rattle.g_arena.specs.Stores.{ids_of, args_of, AreCounted, slot_of, slots_of, inputs_list, lists_of, results_of, body_list, AreKept, IsSlotNamed, AreStored}

-- ---- the nodes

lists_long : (n k : ℕ) (rs : List FlatRegion) → length (lists_of n k rs) ≡ length rs
lists_long n k [] = refl
lists_long n k (r ∷ rs) = ap suc (lists_long n (suc k) rs)

slots_more : (k : ℕ) (xs : List FlatNode) (x : FlatNode) → slots_of k (xs ++ x ∷ []) ≡ slots_of k xs ++ slot_of (k + length (results_of xs)) x ∷ []
slots_more k [] x = ap (λ n. slot_of n x ∷ []) (omega arith)
slots_more k (y ∷ xs) x =
    let n : (k + length y.regions) + length (results_of xs) ≡ k + length (results_of (y ∷ xs)) = omega (arith, length-append (lists_of y.id 0 y.regions) (results_of xs), lists_long y.id 0 y.regions) in
    ap (λ ss. slot_of k y ∷ ss) (slots_more (k + length y.regions) xs x ∙ ap (λ m. slots_of (k + length y.regions) xs ++ slot_of m x ∷ []) n)

results_more : (xs : List FlatNode) (x : FlatNode) → results_of (xs ++ x ∷ []) ≡ results_of xs ++ lists_of x.id 0 x.regions
results_more [] x = append-nil (lists_of x.id 0 x.regions)
results_more (y ∷ xs) x = ap (λ ls. lists_of y.id 0 y.regions ++ ls) (results_more xs x) ∙ sym (append_assoc (lists_of y.id 0 y.regions) (results_of xs) (lists_of x.id 0 x.regions))

last_or_in : {A : Type 0} (xs : List A) (x : A) (i : ℕ) (y : A) → slice_get (xs ++ x ∷ []) i ≡ Some y → (slice_get xs i ≡ Some y) ⊎ (x ≡ y)
last_or_in [] x zero y e = inr (same_Some x y e)
last_or_in [] x (suc i) y e = absurd (apart y e)
last_or_in (z ∷ xs) x zero y e = inl e
last_or_in (z ∷ xs) x (suc i) y e = last_or_in xs x i y e

pub stored_more : (os : List Origin) (xs : List FlatNode) (x : FlatNode) (ss ss' : List PlainSlot) (keys keys' : List ℕ) (us us' ls ls' : List PlainList) → AreStored os xs ss keys us ls
    → ss' ≡ ss ++ slot_of (length ls) x ∷ [] → keys' ≡ keys ++ x.id ∷ [] → us' ≡ us ++ inputs_list x ∷ [] → ls' ≡ ls ++ lists_of x.id 0 x.regions → IsShort (slot_of (length ls) x)
    → AreStored os (xs ++ x ∷ []) ss' keys' us' ls'
stored_more os xs x ss ss' keys keys' us us' ls ls' s es ek eu el short =
    let n : length ls ≡ 1 + length (results_of xs) = omega (arith, ap length s.results) in
    record {
      slots = es ∙ (λ i. s.slots i ++ slot_of (n i) x ∷ []) ∙ sym (slots_more 1 xs x);
      keys = ek ∙ ap (λ ns. ns ++ x.id ∷ []) s.keys ∙ sym (map_push (λ (y : FlatNode). y.id) xs x);
      inputs = eu ∙ ap (λ ys. ys ++ inputs_list x ∷ []) s.inputs ∙ sym (map_push inputs_list xs x);
      results = el ∙ ap (λ ys. ys ++ lists_of x.id 0 x.regions) s.results ∙ ap (λ ys. body_list os ∷ ys) (sym (results_more xs x));
      short = λ i t e. by i t (last_or_in ss (slot_of (length ls) x) i t (ap (λ ts. slice_get ts i) (sym es) ∙ e));
    }
  where
    by : (i : ℕ) (t : PlainSlot) → (slice_get ss i ≡ Some t) ⊎ (slot_of (length ls) x ≡ t) → IsShort t
    by i t (inl e) = s.short i t e
    by i t (inr e) = let P : PlainSlot → Type 0 = λ y. IsShort y in subst P e short

-- a number that stands once is not among those before it
taken_out : (n k : ℕ) (ns : List ℕ) → is_in n ns ≡ false → is_in n (take k ns) ≡ false
taken_out n zero ns h = refl
taken_out n (suc k) [] h = refl
taken_out n (suc k) (m ∷ ns) h = let p = or_parts (eqb n m) (is_in n ns) h in or_from _ _ p.0 (taken_out n k ns p.1)

taken_once : (k : ℕ) (ns : List ℕ) → AreDistinct ns → AreDistinct (take k ns)
taken_once zero ns d = tt
taken_once (suc k) [] d = tt
taken_once (suc k) (n ∷ ns) d = (taken_out n k ns d.0, taken_once k ns d.1)

last_new : (ns : List ℕ) (n : ℕ) → AreDistinct (ns ++ n ∷ []) → is_in n ns ≡ false
last_new [] n d = refl
last_new (m ∷ ns) n d = or_from (eqb n m) (is_in n ns) (ne_eqb n m (λ e. eqb-false m n (last ns d.0) (sym e))) (last_new ns n d.1)
  where
    last : (ks : List ℕ) → is_in m (ks ++ n ∷ []) ≡ false → eqb m n ≡ false
    last [] h = (or_parts (eqb m n) false h).0
    last (k ∷ ks) h = last ks (or_parts (eqb m k) (is_in m (ks ++ n ∷ [])) h).1

map_take : (k : ℕ) (xs : List FlatNode) → ids_of (take k xs) ≡ take k (ids_of xs)
map_take zero xs = refl
map_take (suc k) [] = refl
map_take (suc k) (x ∷ xs) = ap (λ ns. x.id ∷ ns) (map_take k xs)

pub node_new : (all xs : List FlatNode) (x : FlatNode) (keys : List ℕ) (k : ℕ) → AreDistinct (ids_of all) → xs ++ x ∷ [] ≡ take k all → keys ≡ ids_of xs → is_in x.id keys ≡ false
node_new all xs x keys k d e q =
    let P : List ℕ → Type 0 = λ ns. AreDistinct ns in
    let once : AreDistinct (ids_of xs ++ x.id ∷ []) = subst P (sym (map_take k all) ∙ ap ids_of (sym e) ∙ map_push (λ (y : FlatNode). y.id) xs x) (taken_once k (ids_of all) d) in
    ap (is_in x.id) q ∙ last_new (ids_of xs) x.id once

-- what an iterator gave, with the item that it gives next
pub next_of : {S A B : Type 0} {steps : S → Option A → S → Type 0} {v : A → B} {s : S} {all : List B} → YieldsList steps v s all → (xs : List A) (t : S) (x : A) (u : S) → Yields steps s xs t → steps t (Some x) u
    → map v (xs ++ x ∷ []) ≡ take (length (xs ++ x ∷ [])) all
next_of {steps = steps} {s = s} e xs t x u y p = YieldsList-so_far e (xs ++ x ∷ []) u (Yields-more steps s xs t x u y p)

-- ---- the regions of a node

pub lists_more : (n k : ℕ) (rs : List FlatRegion) (r : FlatRegion) → lists_of n k (rs ++ r ∷ []) ≡ lists_of n k rs ++ record { home = place_in n (k + length rs); origins = r.results } ∷ []
lists_more n k [] r = ap (λ m. record { home = place_in n m; origins = r.results } ∷ []) (omega arith)
lists_more n k (s ∷ rs) r =
    ap (λ ls. record { home = place_in n k; origins = s.results } ∷ ls) (lists_more n (suc k) rs r ∙ ap (λ m. lists_of n (suc k) rs ++ record { home = place_in n m; origins = r.results } ∷ []) (omega arith))

pub region_more : (n : ℕ) (rs : List FlatRegion) (r : FlatRegion) (kss kss' : List (List Kind)) (ls0 ls ls' : List PlainList) (p : Place) (ks : List Kind) (k : ℕ)
    → kss ≡ args_of rs → ls ≡ ls0 ++ lists_of n 0 rs → AreCounted (args_of rs) → k ≡ length kss → p ≡ place_in n k
    → kss' ≡ kss ++ ks ∷ [] → ks ≡ r.args → ls' ≡ ls ++ record { home = p; origins = r.results } ∷ [] → length r.args < 2 ^ 32
    → (kss' ≡ args_of (rs ++ r ∷ [])) × (ls' ≡ ls0 ++ lists_of n 0 (rs ++ r ∷ [])) × AreCounted (args_of (rs ++ r ∷ []))
region_more n rs r kss kss' ls0 ls ls' p ks k ea el counted ek ep ea' ek' el' short =
    let more : args_of (rs ++ r ∷ []) ≡ args_of rs ++ r.args ∷ [] = map_push (λ (s : FlatRegion). s.args) rs r in
    let index : k ≡ 0 + length rs = omega (arith, ek, ap length ea, length-map rs (λ (s : FlatRegion). s.args)) in
    let place : p ≡ place_in n (0 + length rs) = ep ∙ ap (place_in n) index in (
      ea' ∙ (λ i. ea i ++ ek' i ∷ []) ∙ sym more,
      el' ∙ (λ i. el i ++ record { home = place i; origins = r.results } ∷ []) ∙ append_assoc ls0 (lists_of n 0 rs) (record { home = place_in n (0 + length rs); origins = r.results } ∷ []) ∙ ap (λ ms. ls0 ++ ms) (sym (lists_more n 0 rs r)),
      λ i js e. by i js (last_or_in (args_of rs) r.args i js (ap (λ xs. slice_get xs i) (sym more) ∙ e)),
    )
  where
    by : (i : ℕ) (js : List Kind) → (slice_get (args_of rs) i ≡ Some js) ⊎ (r.args ≡ js) → length js < 2 ^ 32
    by i js (inl e) = counted i js e
    by i js (inr e) = omega (arith, short, ap length e)

-- ---- names

any_more : (f : Use → Bool) (us : List Use) (v : Use) → list_any f (us ++ v ∷ []) ≡ (list_any f us || f v)
any_more f [] v = by (f v)
  where
    by : (t : Bool) → (t || false) ≡ t
    by true = refl
    by false = refl
any_more f (u ∷ us) v = ap (λ b. f u || b) (any_more f us v) ∙ by (f u)
  where
    by : (t : Bool) → (t || (list_any f us || f v)) ≡ ((t || list_any f us) || f v)
    by true = refl
    by false = refl

origin_self : (o : Origin) → same_origin o o ≡ true
origin_self (Arg k) = eq-eqb k k refl
origin_self (Out n q) = λ i. eq-eqb n n refl i && eq-eqb q q refl i

use_self : (u : Use) → same_use u u ≡ true
use_self u = λ i. place_self u.home i && origin_self u.of i

pub name_kept : (v : Use) (us ws : List Use) → ws ≡ with_name v us → AreKept us ws
name_kept v us ws q u h = ap (is_named u) q ∙ by (is_named v us)
  where
    or_true : (b : Bool) → (true || b) ≡ true
    or_true b = refl

    by : (t : Bool) → is_named u (cond t us (us ++ v ∷ [])) ≡ true
    by true = h
    by false = any_more (same_use u) us v ∙ ap (λ b. b || same_use u v) h

pub name_there : (v : Use) (us ws : List Use) → ws ≡ with_name v us → IsNamed v ws
name_there v us ws q = ap (is_named v) q ∙ by (is_named v us) refl
  where
    or_right : (b : Bool) → (b || true) ≡ true
    or_right true = refl
    or_right false = refl

    by : (t : Bool) → is_named v us ≡ t → is_named v (cond t us (us ++ v ∷ [])) ≡ true
    by true e = e
    by false e = any_more (same_use v) us v ∙ ap (λ b. list_any (same_use v) us || b) (use_self v) ∙ or_right (list_any (same_use v) us)

-- what holds of so many and of the next
pub up_to : (P : ℕ → Type 0) (k n : ℕ) → ((j : ℕ) → j < k → P j) → P k → n ≡ k + 1 → (j : ℕ) → j < n → P j
up_to P k n h p e j lt = by (eqb j k) refl
  where
    by : (t : Bool) → eqb j k ≡ t → P j
    by true q = subst P (sym (eqb-true j k q)) p
    by false q = let ne = eqb-false j k q in h j (omega (arith, lt, ne, e))

pub slot_kept : (us vs : List Use) (s : PlainSlot) → AreKept us vs → IsSlotNamed us s → IsSlotNamed vs s
slot_kept us vs s k n = record { outputs = λ q lt. k (use_in s.home (Out s.id q)) (n.outputs q lt); args = λ r j ks e lt. k (use_in (place_in s.id r) (Arg j)) (n.args r j ks e lt) }

pub origins_named : (names : List Use) (p : Place) (os : List Origin) → ((k : ℕ) (o : Origin) → slice_get os k ≡ Some o → IsNamed (use_in p o) names) → AreNamedIn names p os
origins_named names p [] h = tt
origins_named names p (o ∷ os) h = (h 0 o refl, origins_named names p os (λ k x e. h (suc k) x e))

pub lists_named : (names : List Use) (ls : List PlainList) → ((k : ℕ) (l : PlainList) → slice_get ls k ≡ Some l → AreNamedIn names l.home l.origins) → AllNamed names ls
lists_named names [] h = tt
lists_named names (l ∷ ls) h = (h 0 l refl, lists_named names ls (λ k x e. h (suc k) x e))

pub origins_kept : (us vs : List Use) (p : Place) (os : List Origin) → AreKept us vs → AreNamedIn us p os → AreNamedIn vs p os
origins_kept us vs p [] k n = tt
origins_kept us vs p (o ∷ os) k n = (k (use_in p o) n.0, origins_kept us vs p os k n.1)

pub item_there : {A : Type 0} (xs : List A) (k : ℕ) (x : A) → k < length xs → x ≡ get_or xs k x → slice_get xs k ≡ Some x
item_there [] k x lt e = absurd (omega (arith, lt))
item_there (y ∷ xs) zero x lt e = ap Some (sym e)
item_there (y ∷ xs) (suc k) x lt e = item_there xs k x (omega (arith, lt)) e

pub kept_more : (us vs ws : List Use) → AreKept us vs → AreKept vs ws → AreKept us ws
kept_more us vs ws a b u h = b u (a u h)

-- one slot more
pub slots_named : (vs ws zs : List Use) (ss : List PlainSlot) (k : ℕ) (s : PlainSlot) → slice_get ss k ≡ Some s → ((j : ℕ) → j < k → (t : PlainSlot) → slice_get ss j ≡ Some t → IsSlotNamed vs t)
    → AreKept vs ws → ((q : ℕ) → q < length s.outputs → IsNamed (use_in s.home (Out s.id q)) ws)
    → AreKept ws zs → ((r j : ℕ) (ks : List Kind) → slice_get s.regions r ≡ Some ks → j < length ks → IsNamed (use_in (place_in s.id r) (Arg j)) zs)
    → (j : ℕ) → j < k + 1 → (t : PlainSlot) → slice_get ss j ≡ Some t → IsSlotNamed zs t
slots_named vs ws zs ss k s e h a outs b args =
    let P : ℕ → Type 0 = λ j. (t : PlainSlot) → slice_get ss j ≡ Some t → IsSlotNamed zs t in
    let Q : PlainSlot → Type 0 = λ t. IsSlotNamed zs t in
    up_to P k (k + 1) (λ j lt t f. slot_kept vs zs t (kept_more vs ws zs a b) (h j lt t f))
    (λ t f. subst Q (same_Some s t (sym e ∙ f)) (record { outputs = λ q lt. b (use_in s.home (Out s.id q)) (outs q lt); args = args })) refl

-- one list more
pub list_more : (vs ws : List Use) (ls : List PlainList) (k : ℕ) (l : PlainList) → slice_get ls k ≡ Some l → ((j : ℕ) → j < k → (x : PlainList) → slice_get ls j ≡ Some x → AreNamedIn vs x.home x.origins)
    → AreKept vs ws → AreNamedIn ws l.home l.origins → (j : ℕ) → j < k + 1 → (x : PlainList) → slice_get ls j ≡ Some x → AreNamedIn ws x.home x.origins
list_more vs ws ls k l e h a n =
    let P : ℕ → Type 0 = λ j. (x : PlainList) → slice_get ls j ≡ Some x → AreNamedIn ws x.home x.origins in
    let Q : PlainList → Type 0 = λ x. AreNamedIn ws x.home x.origins in
    up_to P k (k + 1) (λ j lt x f. origins_kept vs ws x.home x.origins a (h j lt x f)) (λ x f. subst Q (same_Some l x (sym e ∙ f)) n) refl

-- one origin more
pub origin_more : (vs ws : List Use) (p : Place) (os : List Origin) (k : ℕ) (d : Origin) → ((j : ℕ) → j < k → (o : Origin) → slice_get os j ≡ Some o → IsNamed (use_in p o) vs) → ws ≡ with_name (use_in p (get_or os k d)) vs
    → (j : ℕ) → j < k + 1 → (o : Origin) → slice_get os j ≡ Some o → IsNamed (use_in p o) ws
origin_more vs ws p os k d h e =
    let P : ℕ → Type 0 = λ j. (o : Origin) → slice_get os j ≡ Some o → IsNamed (use_in p o) ws in
    let Q : Origin → Type 0 = λ o. IsNamed (use_in p o) ws in
    up_to P k (k + 1) (λ j lt o f. name_kept (use_in p (get_or os k d)) vs ws e (use_in p o) (h j lt o f)) (λ o f. subst Q (get_or_from_slice_get os k o d f) (name_there (use_in p (get_or os k d)) vs ws e)) refl
