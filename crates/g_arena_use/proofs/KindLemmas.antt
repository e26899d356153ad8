-- Regions and kinds: those of the nodes that are seen are those of the slots.
use Rattle.std.proofs.Common.{◌≡◌, ℕ, zero, suc, ◌+◌, Bool, true, false, cond, eqb, ltb, Option, Some, None, option_map, List, [], ◌∷◌, length, refl, ap, sym, ◌∙◌, subst, arith}
use Rattle.std.proofs.lemmas.Bool.{ltb-true, ltb-false, lt-ltb, le-ltb}
use Rattle.std.specs.Prelude.{option_and_then, slice_get}
use Rattle.cell_lists.specs.Lists.{AreDistinct}
use Rattle.g_graph.specs.declared.op.Kind.{Kind}
use Rattle.g_graph.specs.declared.op.Origin.{Origin}
use Rattle.g_graph.specs.declared.op.Origin.TheVariants.{Arg, Out}
use Rattle.g_arena_def.specs.declared.place.Place.{Place}
use Rattle.g_arena_def.specs.Flat.{FlatRegion, FlatNode, Flat}
use Rattle.g_arena_def.specs.Reads.{found, region_of, region_at, output_kind, kind_in, result_at}
use Rattle.g_arena_use.specs.Lists.{PlainList, origins_at}
use Rattle.g_arena_use.specs.Plain.{PlainSlot, slot_at, live_slot, numbers_of, number_in, results_number, args_of, output_in, kind_at}
use Rattle.g_arena_use.specs.Seen.{regions_seen, nodes_seen}
use Rattle.g_arena_use.proofs.SeenLemmas.{seen_at, found_is}

-- a region of a node
regions_at : (ls : List PlainList) (first : ℕ) (kss : List (List Kind)) (r : ℕ) → slice_get (regions_seen ls first kss) r ≡ option_map (λ args. record { args = args; results = origins_at ls (first + r) }) (slice_get kss r)
regions_at ls first [] r = refl
regions_at ls first (ks ∷ kss) zero = ap (λ n. Some (record { args = ks; results = origins_at ls n })) (let z : first ≡ first + 0 = omega arith in z)
regions_at ls first (ks ∷ kss) (suc r) =
    regions_at ls (suc first) kss r ∙ ap (λ n. option_map (λ args. record { args = args; results = origins_at ls n }) (slice_get kss r)) (let z : suc first + r ≡ first + suc r = omega arith in z)

ltb_suc : (a b : ℕ) → ltb a b ≡ ltb (suc a) (suc b)
ltb_suc a b = by (ltb a b) refl
  where
    by : (t : Bool) → ltb a b ≡ t → ltb a b ≡ ltb (suc a) (suc b)
    by true e = e ∙ sym (lt-ltb (suc a) (suc b) (omega (arith, ltb-true a b e)))
    by false e = e ∙ sym (le-ltb (suc a) (suc b) (omega (arith, ltb-false a b e)))

-- what is seen of these
pub record Sees (xs ls : List PlainList) (ss : List PlainSlot) (args : List Kind) (a : Flat) : Type 0 where
  pub long : length xs ≡ length ss
  pub once : AreDistinct (numbers_of ss)
  pub nodes : a.nodes ≡ nodes_seen xs ls ss
  pub body : a.body ≡ record { args = args; results = origins_at ls 0 }

module _ (xs ls : List PlainList) (ss : List PlainSlot) (args : List Kind) (a : Flat) (sees : Sees xs ls ss args a) where
  pub node_is : (n : ℕ) → found n a.nodes ≡ option_map (seen_at xs ls ss) (live_slot n ss)
  node_is n = ap (found n) sees.nodes ∙ found_is xs ls ss n sees.long sees.once

  -- the arguments and the results of a region
  abbrev pub both_of : Option (List Kind) → Option ℕ → Option FlatRegion
  both_of None r = None
  both_of (Some ks) None = None
  both_of (Some ks) (Some j) = Some (record { args = ks; results = origins_at ls j })

  in_slot : (s : PlainSlot) (r : ℕ) → slice_get (regions_seen ls s.results s.regions) r ≡ both_of (slice_get s.regions r) (number_in s r)
  in_slot s r = regions_at ls s.results s.regions r ∙ by s.regions r (s.results + r)
    where
      by : (kss : List (List Kind)) (r n : ℕ) → option_map (λ args. record { args = args; results = origins_at ls n }) (slice_get kss r) ≡ both_of (slice_get kss r) (cond (ltb r (length kss)) (Some n) None)
      by [] r n = refl
      by (ks ∷ kss) zero n = sym (ap (λ b. both_of (Some ks) (cond b (Some n) None)) (lt-ltb 0 (suc (length kss)) (omega arith)))
      by (ks ∷ kss) (suc r) n = by kss r n ∙ ap (λ b. both_of (slice_get kss r) (cond b (Some n) None)) (ltb_suc r (length kss))

  pub region_is : (p : Place) → region_at p a ≡ both_of (args_of args p.node p.region ss) (results_number p.node p.region ss)
  region_is p = by_node p.node p.region
    where
      by_slot : (o : Option ℕ) (r : ℕ) → option_and_then (λ (x : FlatNode). slice_get x.regions r) (option_map (seen_at xs ls ss) o)
          ≡ both_of (option_and_then (λ i. slice_get (slot_at ss i).regions r) o) (option_and_then (λ i. number_in (slot_at ss i) r) o)
      by_slot None r = refl
      by_slot (Some i) r = in_slot (slot_at ss i) r

      by_body : (t : Bool) → cond t (Some a.body) None ≡ both_of (cond t (Some args) None) (cond t (Some 0) None)
      by_body true = ap Some sees.body
      by_body false = refl

      by_node : (o : Option ℕ) (r : ℕ) → region_of o r a ≡ both_of (args_of args o r ss) (results_number o r ss)
      by_node None r = by_body (eqb r 0)
      by_node (Some n) r = ap (option_and_then (λ (x : FlatNode). slice_get x.regions r)) (node_is n) ∙ by_slot (live_slot n ss) r

  -- a region has arguments where it has results
  abbrev pub agree : Option (List Kind) → Option ℕ → Type 0
  agree None None = Unit {0}
  agree None (Some j) = ⊥
  agree (Some ks) None = ⊥
  agree (Some ks) (Some j) = Unit {0}

  in_same : (kss : List (List Kind)) (r n : ℕ) → agree (slice_get kss r) (cond (ltb r (length kss)) (Some n) None)
  in_same [] r n = let P : Bool → Type 0 = λ b. agree None (cond b (Some n) None) in subst P (sym (le-ltb r 0 (omega arith))) tt
  in_same (ks ∷ kss) zero n = let P : Bool → Type 0 = λ b. agree (Some ks) (cond b (Some n) None) in subst P (sym (lt-ltb 0 (suc (length kss)) (omega arith))) tt
  in_same (ks ∷ kss) (suc r) n = let P : Bool → Type 0 = λ b. agree (slice_get kss r) (cond b (Some n) None) in subst P (ltb_suc r (length kss)) (in_same kss r n)

  pub agrees : (o : Option ℕ) (r : ℕ) → agree (args_of args o r ss) (results_number o r ss)
  agrees None r = by_body (eqb r 0)
    where
      by_body : (t : Bool) → agree (cond t (Some args) None) (cond t (Some 0) None)
      by_body true = tt
      by_body false = tt
  agrees (Some n) r = by_slot (live_slot n ss)
    where
      by_slot : (o : Option ℕ) → agree (option_and_then (λ i. slice_get (slot_at ss i).regions r) o) (option_and_then (λ i. number_in (slot_at ss i) r) o)
      by_slot None = tt
      by_slot (Some i) = in_same (slot_at ss i).regions r ((slot_at ss i).results + r)

  pub kind_is : (p : Place) (o : Origin) → kind_in p o a ≡ kind_at args p o ss
  kind_is p (Out n q) = ap (option_and_then (output_kind p q)) (node_is n) ∙ by (live_slot n ss)
    where
      by : (o : Option ℕ) → option_and_then (output_kind p q) (option_map (seen_at xs ls ss) o) ≡ option_and_then (λ i. output_in p q (slot_at ss i)) o
      by None = refl
      by (Some i) = refl
  kind_is p (Arg k) = ap (option_and_then (λ (r : FlatRegion). slice_get r.args k)) (region_is p) ∙ by (args_of args p.node p.region ss) (results_number p.node p.region ss) (agrees p.node p.region)
    where
      by : (u : Option (List Kind)) (r : Option ℕ) → agree u r → option_and_then (λ (r : FlatRegion). slice_get r.args k) (both_of u r) ≡ option_and_then (λ ks. slice_get ks k) u
      by None None h = refl
      by None (Some j) h = refl
      by (Some ks) None h = absurd h
      by (Some ks) (Some j) h = refl

  -- the results of a region are a list
  pub result_is : (p : Place) (k : ℕ) → result_at p k a ≡ option_and_then (λ j. slice_get (origins_at ls j) k) (results_number p.node p.region ss)
  result_is p k = ap (option_and_then (λ (r : FlatRegion). slice_get r.results k)) (region_is p) ∙ by (args_of args p.node p.region ss) (results_number p.node p.region ss) (agrees p.node p.region)
    where
      by : (u : Option (List Kind)) (r : Option ℕ) → agree u r → option_and_then (λ (r : FlatRegion). slice_get r.results k) (both_of u r) ≡ option_and_then (λ j. slice_get (origins_at ls j) k) r
      by None None h = refl
      by None (Some j) h = absurd h
      by (Some ks) None h = absurd h
      by (Some ks) (Some j) h = refl
