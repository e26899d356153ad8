-- How often an origin is used in a region: in the lists that are stored as in the nodes that are seen.
use Rattle.std.proofs.Common.{◌≡◌, ℕ, zero, suc, ◌+◌, Bool, true, false, ◌&&◌, cond, eqb, Option, Some, None, List, [], ◌∷◌, refl, ap, sym, ◌∙◌, arith, true≢false}
use Rattle.std.specs.Prelude.{slice_get}
use Rattle.std.proofs.lemmas.Bool.{eqb-true, eq-eqb, eqb-false, ne_eqb}
use Rattle.std.proofs.lemmas.Option.{same_Some}
use Rattle.g_graph.specs.declared.op.Origin.{Origin}
use Rattle.g_arena_def.specs.declared.place.Place.{Place}
use Rattle.g_arena_def.specs.Flat.{same_node, same_place}
use Rattle.g_arena_def.specs.Reads.{times, times_at, input_uses}
use Rattle.g_arena_use.specs.Lists.{PlainList, origins_at, use_in, times_in, uses_of}
use Rattle.g_arena_use.specs.Plain.{PlainSlot, is_live}
use Rattle.g_arena_use.specs.Seen.{homes_of, slot_seen, nodes_seen}
use Rattle.g_arena_use.specs.Indexed.{AreInputs}
use Rattle.g_arena_use.proofs.SeenLemmas.{apart}

eqb_sym : (a b : ℕ) → eqb a b ≡ eqb b a
eqb_sym a b = by (eqb a b) refl
  where
    by : (t : Bool) → eqb a b ≡ t → eqb a b ≡ eqb b a
    by true e = e ∙ sym (eq-eqb b a (sym (eqb-true a b e)))
    by false e = e ∙ sym (ne_eqb b a (λ z. eqb-false a b e (sym z)))

same_node_sym : (o p : Option ℕ) → same_node o p ≡ same_node p o
same_node_sym None None = refl
same_node_sym None (Some m) = refl
same_node_sym (Some n) None = refl
same_node_sym (Some n) (Some m) = eqb_sym n m

pub same_place_sym : (p q : Place) → same_place p q ≡ same_place q p
same_place_sym p q = λ i. same_node_sym p.node q.node i && eqb_sym p.region q.region i

pub same_head : (p q : Place) (ps qs : List Place) → p ∷ ps ≡ q ∷ qs → (p ≡ q) × (ps ≡ qs)
same_head p q ps qs h = (cc, cc)

pub later_inputs : (x : PlainList) (xs : List PlainList) (s : PlainSlot) (ss : List PlainSlot) → AreInputs (x ∷ xs) (s ∷ ss) → AreInputs xs ss
later_inputs x xs s ss a = record { homes = (same_head _ _ _ _ a.homes).1; left = λ k r h. a.left (suc k) r h }

pub nil_cons : {A : Type 0} (x : A) (xs : List A) → [] ≡ x ∷ xs → ⊥
nil_cons x xs h = cc

pub input_uses_are : (p : Place) (o : Origin) (xs ls : List PlainList) (ss : List PlainSlot) → AreInputs xs ss → uses_of (use_in p o) xs ≡ input_uses p o (nodes_seen xs ls ss)
input_uses_are p o [] ls [] a = refl
input_uses_are p o (x ∷ xs) ls [] a = absurd (nil_cons _ _ (sym a.homes))
input_uses_are p o [] ls (s ∷ ss) a = absurd (nil_cons _ _ a.homes)
input_uses_are p o (x ∷ xs) ls (s ∷ ss) a = by_gone (input_uses_are p o xs ls ss (later_inputs x xs s ss a)) s.gone refl
  where
    home : x.home ≡ s.home
    home = (same_head _ _ _ _ a.homes).0

    here : times_in (use_in p o) x ≡ times_at p o (slot_seen x.origins ls s)
    here = ap (λ b. cond b (times o x.origins) 0) (ap (same_place p) home ∙ same_place_sym p s.home)

    none : (b : Bool) → cond {A = ℕ} b 0 0 ≡ 0
    none true = refl
    none false = refl

    by_gone : uses_of (use_in p o) xs ≡ input_uses p o (nodes_seen xs ls ss) → (g : Option ℕ) → s.gone ≡ g → times_in (use_in p o) x + uses_of (use_in p o) xs ≡ input_uses p o (nodes_seen (x ∷ xs) ls (s ∷ ss))
    by_gone rest None e =
        (λ i. here i + rest i)
        ∙ sym (ap (λ g. input_uses p o (cond (is_live (record s { gone = g })) (slot_seen x.origins ls s ∷ nodes_seen xs ls ss) (nodes_seen xs ls ss))) e)
    by_gone rest (Some r) e =
        ap (λ os. cond (same_place p x.home) (times o os) 0 + uses_of (use_in p o) xs) (a.left 0 r e)
        ∙ ap (λ n. n + uses_of (use_in p o) xs) (none (same_place p x.home)) ∙ (omega (arith, rest))
        ∙ sym (ap (λ g. input_uses p o (cond (is_live (record s { gone = g })) (slot_seen x.origins ls s ∷ nodes_seen xs ls ss) (nodes_seen xs ls ss))) e)

-- ---- results: at most one list has a place

both : (a b : Bool) → (a && b) ≡ true → (a ≡ true) × (b ≡ true)
both true b h = (refl, h)
both false b h = absurd (true≢false (sym h))

node_true : (o p : Option ℕ) → same_node o p ≡ true → o ≡ p
node_true None None h = refl
node_true None (Some m) h = absurd (true≢false (sym h))
node_true (Some n) None h = absurd (true≢false (sym h))
node_true (Some n) (Some m) h = ap Some (eqb-true n m h)

pub place_true : (p q : Place) → same_place p q ≡ true → p ≡ q
place_true p q h = let b = both _ _ h in λ i. record { node = node_true p.node q.node b.0 i; region = eqb-true p.region q.region b.1 i }

-- the lists of this place hold nothing
pub no_list_uses : (p : Place) (o : Origin) (ls : List PlainList) → ((k : ℕ) → slice_get (homes_of ls) k ≡ Some p → origins_at ls k ≡ []) → uses_of (use_in p o) ls ≡ 0
no_list_uses p o [] h = refl
no_list_uses p o (x ∷ xs) h = by (no_list_uses p o xs (λ k e. h (suc k) e)) (same_place p x.home) refl
  where
    by : uses_of (use_in p o) xs ≡ 0 → (t : Bool) → same_place p x.home ≡ t → cond t (times o x.origins) 0 + uses_of (use_in p o) xs ≡ 0
    by rest true e = omega (arith, ap (times o) (h 0 (ap Some (sym (place_true p x.home e)))), rest)
    by rest false e = omega (arith, rest)

-- one list is of this place
pub one_list_uses : (p : Place) (o : Origin) (ls : List PlainList) (j : ℕ) → slice_get (homes_of ls) j ≡ Some p → ((k : ℕ) → slice_get (homes_of ls) k ≡ Some p → k ≡ j)
    → uses_of (use_in p o) ls ≡ times o (origins_at ls j)
one_list_uses p o [] j e h = absurd (apart p e)
one_list_uses p o (x ∷ xs) zero e h =
    let none : uses_of (use_in p o) xs ≡ 0 = no_list_uses p o xs (λ k f. absurd (zero_suc k (h (suc k) f))) in
    let z : x.home ≡ p = same_Some x.home p e in
    let here : times_in (use_in p o) x ≡ times o x.origins = ap (λ q. cond (same_place p q) (times o x.origins) 0) z ∙ ap (λ b. cond b (times o x.origins) 0) (place_self p) in
    omega (arith, none, here)
  where
    zero_suc : (k : ℕ) → suc k ≡ 0 → ⊥
    zero_suc k h = omega (arith, h)

    node_self : (q : Option ℕ) → same_node q q ≡ true
    node_self None = refl
    node_self (Some n) = eq-eqb n n refl

    place_self : (q : Place) → same_place q q ≡ true
    place_self q = λ i. node_self q.node i && eq-eqb q.region q.region refl i
one_list_uses p o (x ∷ xs) (suc j) e h = by (one_list_uses p o xs j e (λ k f. let z : suc k ≡ suc j = h (suc k) f in omega (arith, z))) (same_place p x.home) refl
  where
    by : uses_of (use_in p o) xs ≡ times o (origins_at xs j) → (t : Bool) → same_place p x.home ≡ t → cond t (times o x.origins) 0 + uses_of (use_in p o) xs ≡ times o (origins_at xs j)
    by rest true f = absurd (let z : 0 ≡ suc j = h 0 (ap Some (sym (place_true p x.home f))) in omega (arith, z))
    by rest false f = omega (arith, rest)
