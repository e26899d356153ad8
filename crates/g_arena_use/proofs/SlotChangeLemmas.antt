-- One slot changes, and keeps its number, its place, its results and how many regions it has: what stays indexed.
use Rattle.std.proofs.Common.{◌≡◌, ℕ, zero, suc, ◌+◌, Bool, true, false, cond, eqb, Option, Some, None, option_map, List, [], ◌∷◌, ◌⊎◌, inl, inr, length, map, set, refl, ap, sym, ◌∙◌, subst, arith}
use Rattle.std.specs.Prelude.{IsSome, is_none, option_and_then, slice_get}
use Rattle.std.proofs.lemmas.Option.{same_Some}
use Rattle.cell_lists.specs.Lists.{AreDistinct}
use Rattle.g_graph.specs.declared.op.Kind.{Kind}
use Rattle.g_graph.specs.declared.op.Origin.{Origin}
use Rattle.g_graph.specs.declared.op.Origin.TheVariants.{Arg, Out}
use Rattle.g_arena_def.specs.declared.place.Place.{Place}
use Rattle.g_arena_def.specs.Flat.{same_place}
use Rattle.g_arena_use.specs.Lists.{PlainUses, origins_at}
use Rattle.g_arena_use.specs.Plain.{PlainSlot, is_live, slot_at, numbers_of, live_slot, args_of, output_in, kind_at}
use Rattle.g_arena_use.specs.Seen.{homes_of}
use Rattle.g_arena_use.specs.Indexed.{IsOfSlot, AreIndexed}
use Rattle.g_arena_use.proofs.SeenLemmas.{apart}

pub record Same (s t : PlainSlot) : Type 0 where
  pub id : s.id ≡ t.id
  pub home : s.home ≡ t.home
  pub results : s.results ≡ t.results
  pub regions : length s.regions ≡ length t.regions
  pub gone : s.gone ≡ t.gone

same_self : (s : PlainSlot) → Same s s
same_self s = record { id = refl; home = refl; results = refl; regions = refl; gone = refl }

set_back : (ss : List PlainSlot) (at : ℕ) (t x : PlainSlot) → slice_get ss at ≡ Some x → Same t x → (i : ℕ) (s : PlainSlot) → slice_get (set ss at t) i ≡ Some s → (y : PlainSlot) × (slice_get ss i ≡ Some y) × Same s y
set_back [] at t x e h i s q = absurd (apart s q)
set_back (z ∷ ss) zero t x e h zero s q =
    let P : PlainSlot → Type 0 = λ a. Same a z in
    let Q : PlainSlot → Type 0 = λ a. Same t a in
    (z, refl, subst P (same_Some t s q) (subst Q (sym (same_Some z x e)) h))
set_back (z ∷ ss) zero t x e h (suc i) s q = (s, q, same_self s)
set_back (z ∷ ss) (suc at) t x e h zero s q = (s, q, same_self s)
set_back (z ∷ ss) (suc at) t x e h (suc i) s q = set_back ss at t x e h i s q

set_forth : (ss : List PlainSlot) (at : ℕ) (t x : PlainSlot) → slice_get ss at ≡ Some x → Same t x → (i : ℕ) (y : PlainSlot) → slice_get ss i ≡ Some y → (s : PlainSlot) × (slice_get (set ss at t) i ≡ Some s) × Same s y
set_forth [] at t x e h i y q = absurd (apart y q)
set_forth (z ∷ ss) zero t x e h zero y q =
    let Q : PlainSlot → Type 0 = λ a. Same t a in
    (t, refl, subst Q (sym (same_Some z x e) ∙ same_Some z y q) h)
set_forth (z ∷ ss) zero t x e h (suc i) y q = (y, q, same_self y)
set_forth (z ∷ ss) (suc at) t x e h zero y q = (y, q, same_self y)
set_forth (z ∷ ss) (suc at) t x e h (suc i) y q = set_forth ss at t x e h i y q

set_numbers : (ss : List PlainSlot) (at : ℕ) (t x : PlainSlot) → slice_get ss at ≡ Some x → Same t x → numbers_of (set ss at t) ≡ numbers_of ss
set_numbers [] at t x e h = refl
set_numbers (z ∷ ss) zero t x e h = ap (λ n. n ∷ numbers_of ss) (h.id ∙ ap (λ (a : PlainSlot). a.id) (sym (same_Some z x e)))
set_numbers (z ∷ ss) (suc at) t x e h = ap (λ ns. z.id ∷ ns) (set_numbers ss at t x e h)

set_homes : (ss : List PlainSlot) (at : ℕ) (t x : PlainSlot) → slice_get ss at ≡ Some x → Same t x → map (λ (s : PlainSlot). s.home) (set ss at t) ≡ map (λ (s : PlainSlot). s.home) ss
set_homes [] at t x e h = refl
set_homes (z ∷ ss) zero t x e h = ap (λ n. n ∷ map (λ (s : PlainSlot). s.home) ss) (h.home ∙ ap (λ (a : PlainSlot). a.home) (sym (same_Some z x e)))
set_homes (z ∷ ss) (suc at) t x e h = ap (λ ns. z.home ∷ ns) (set_homes ss at t x e h)

set_gone : (ss : List PlainSlot) (at : ℕ) (t x : PlainSlot) → slice_get ss at ≡ Some x → Same t x → (k : ℕ) → (slot_at (set ss at t) k).gone ≡ (slot_at ss k).gone
set_gone [] at t x e h k = refl
set_gone (z ∷ ss) zero t x e h zero = h.gone ∙ ap (λ (a : PlainSlot). a.gone) (sym (same_Some z x e))
set_gone (z ∷ ss) zero t x e h (suc k) = refl
set_gone (z ∷ ss) (suc at) t x e h zero = refl
set_gone (z ∷ ss) (suc at) t x e h (suc k) = set_gone ss at t x e h k

pub set_live : (ss : List PlainSlot) (at : ℕ) (t x : PlainSlot) → slice_get ss at ≡ Some x → Same t x → (n : ℕ) → live_slot n (set ss at t) ≡ live_slot n ss
set_live [] at t x e h n = refl
set_live (z ∷ ss) zero t x e h n =
    let q : z ≡ x = same_Some z x e in
    let i : t.id ≡ z.id = h.id ∙ ap (λ (a : PlainSlot). a.id) (sym q) in
    let g : t.gone ≡ z.gone = h.gone ∙ ap (λ (a : PlainSlot). a.gone) (sym q) in
    λ k. cond (eqb (i k) n) (cond (is_none (g k)) (Some 0) None) (option_map suc (live_slot n ss))
set_live (z ∷ ss) (suc at) t x e h n = ap (λ o. cond (eqb z.id n) (cond (is_live z) (Some 0) None) (option_map suc o)) (set_live ss at t x e h n)

of_slot : (ss : List PlainSlot) (at : ℕ) (t x : PlainSlot) → slice_get ss at ≡ Some x → Same t x → (k : ℕ) → IsOfSlot k ss → IsOfSlot k (set ss at t)
of_slot ss at t x e h k o =
    let f = set_forth ss at t x e h o.at o.slot o.there in
    record {
      at = o.at;
      slot = f.0;
      region = o.region;
      there = f.1;
      inside = omega (arith, o.inside, f.2.regions);
      own = o.own ∙ ap (λ n. n + o.region) (sym f.2.results);
    }

-- no kind comes
pub record HasNoMore (t x : PlainSlot) : Type 0 where
  pub outputs : (q : ℕ) → IsSome (slice_get t.outputs q) → IsSome (slice_get x.outputs q)
  pub args : (r q : ℕ) → IsSome (option_and_then (λ (ks : List Kind). slice_get ks q) (slice_get t.regions r)) → IsSome (option_and_then (λ (ks : List Kind). slice_get ks q) (slice_get x.regions r))

no_more_self : (s : PlainSlot) → HasNoMore s s
no_more_self s = record { outputs = λ q h. h; args = λ r q h. h }

set_no_more : (ss : List PlainSlot) (at : ℕ) (t x : PlainSlot) → slice_get ss at ≡ Some x → HasNoMore t x → (i : ℕ) → HasNoMore (slot_at (set ss at t) i) (slot_at ss i)
set_no_more [] at t x e h i = no_more_self (slot_at [] i)
set_no_more (z ∷ ss) zero t x e h zero = let Q : PlainSlot → Type 0 = λ a. HasNoMore t a in subst Q (sym (same_Some z x e)) h
set_no_more (z ∷ ss) zero t x e h (suc i) = no_more_self (slot_at ss i)
set_no_more (z ∷ ss) (suc at) t x e h zero = no_more_self z
set_no_more (z ∷ ss) (suc at) t x e h (suc i) = set_no_more ss at t x e h i

set_home_at : (ss : List PlainSlot) (at : ℕ) (t x : PlainSlot) → slice_get ss at ≡ Some x → Same t x → (k : ℕ) → (slot_at (set ss at t) k).home ≡ (slot_at ss k).home
set_home_at [] at t x e h k = refl
set_home_at (z ∷ ss) zero t x e h zero = h.home ∙ ap (λ (a : PlainSlot). a.home) (sym (same_Some z x e))
set_home_at (z ∷ ss) zero t x e h (suc k) = refl
set_home_at (z ∷ ss) (suc at) t x e h zero = refl
set_home_at (z ∷ ss) (suc at) t x e h (suc k) = set_home_at ss at t x e h k

no_kind_more : (args : List Kind) (ss : List PlainSlot) (at : ℕ) (t x : PlainSlot) → slice_get ss at ≡ Some x → Same t x → HasNoMore t x → (p : Place) (o : Origin)
    → IsSome (kind_at args p o (set ss at t)) → IsSome (kind_at args p o ss)
no_kind_more args ss at t x e h m p (Out n q) k =
    by (live_slot n ss) (let P : Option ℕ → Type 0 = λ o. IsSome (option_and_then (λ i. output_in p q (slot_at (set ss at t) i)) o) in subst P (set_live ss at t x e h n) k)
  where
    by_home : (i : ℕ) (b : Bool) → IsSome (cond b (slice_get (slot_at (set ss at t) i).outputs q) None) → IsSome (cond b (slice_get (slot_at ss i).outputs q) None)
    by_home i true g = (set_no_more ss at t x e m i).outputs q g
    by_home i false g = g

    by : (o : Option ℕ) → IsSome (option_and_then (λ i. output_in p q (slot_at (set ss at t) i)) o) → IsSome (option_and_then (λ i. output_in p q (slot_at ss i)) o)
    by None g = g
    by (Some i) g =
        let P : Place → Type 0 = λ r. IsSome (cond (same_place r p) (slice_get (slot_at (set ss at t) i).outputs q) None) in
        by_home i (same_place (slot_at ss i).home p) (subst P (set_home_at ss at t x e h i) g)
no_kind_more args ss at t x e h m p (Arg q) k = by_node p.node p.region k
  where
    by_slot : (r : ℕ) (o : Option ℕ) → IsSome (option_and_then (λ (ks : List Kind). slice_get ks q) (option_and_then (λ i. slice_get (slot_at (set ss at t) i).regions r) o))
        → IsSome (option_and_then (λ (ks : List Kind). slice_get ks q) (option_and_then (λ i. slice_get (slot_at ss i).regions r) o))
    by_slot r None g = g
    by_slot r (Some i) g = (set_no_more ss at t x e m i).args r q g

    by_node : (o : Option ℕ) (r : ℕ) → IsSome (option_and_then (λ (ks : List Kind). slice_get ks q) (args_of args o r (set ss at t))) → IsSome (option_and_then (λ (ks : List Kind). slice_get ks q) (args_of args o r ss))
    by_node None r g = g
    by_node (Some n) r g =
        let P : Option ℕ → Type 0 = λ o. IsSome (option_and_then (λ (ks : List Kind). slice_get ks q) (option_and_then (λ i. slice_get (slot_at (set ss at t) i).regions r) o)) in
        by_slot r (live_slot n ss) (subst P (set_live ss at t x e h n) g)

pub slot_indexed : (args : List Kind) (ss : List PlainSlot) (xs ls : PlainUses) (at : ℕ) (t x : PlainSlot) → AreIndexed args ss xs ls → slice_get ss at ≡ Some x → Same t x → HasNoMore t x → AreIndexed args (set ss at t) xs ls
slot_indexed args ss xs ls at t x a e h m = record {
  once = (let P : List ℕ → Type 0 = λ ns. AreDistinct ns in subst P (sym (set_numbers ss at t x e h)) a.once);
  homes = λ i s q none.
      (let b = set_back ss at t x e h i s q in
      ap (λ (p : Place). p.region) b.2.home ∙ a.homes i b.0 b.1 (sym (ap (λ (p : Place). p.node) b.2.home) ∙ none));
  inputs = record {
    homes = a.inputs.homes ∙ sym (set_homes ss at t x e h);
    left = λ k r g. a.inputs.left k r (sym (set_gone ss at t x e h k) ∙ g);
  };
  results = record {
    body = a.results.body;
    slots = λ i k s q lt.
        (let b = set_back ss at t x e h i s q in
        ap (λ n. slice_get (homes_of ls.lists) (n + k)) b.2.results ∙ a.results.slots i k b.0 b.1 (omega (arith, lt, b.2.regions)) ∙ ap (λ n. Some (record { node = Some n; region = k })) (sym b.2.id));
    only = λ k lt. by_only k (a.results.only k lt);
    apart = a.results.apart;
    left = λ i k r s q g lt.
        (let b = set_back ss at t x e h i s q in
        ap (λ n. origins_at ls.lists (n + k)) b.2.results ∙ a.results.left i k r b.0 b.1 (sym b.2.gone ∙ g) (omega (arith, lt, b.2.regions)));
  };
  named_inputs = λ p o k. a.named_inputs p o (no_kind_more args ss at t x e h m p o k);
  named_results = λ p o k. a.named_results p o (no_kind_more args ss at t x e h m p o k);
  short = a.short;
  room = a.room;
}
  where
    by_only : (k : ℕ) → (k ≡ 0) ⊎ IsOfSlot k ss → (k ≡ 0) ⊎ IsOfSlot k (set ss at t)
    by_only k (inl z) = inl z
    by_only k (inr o) = inr (of_slot ss at t x e h k o)
