-- The nodes that are seen of those that are stored: a node by its number, and the neighbours of one.
use Rattle.std.proofs.Common.{◌≡◌, ℕ, zero, suc, ◌+◌, ◌<◌, ◌≤◌, Bool, true, false, ◌||◌, cond, eqb, Option, Some, None, option_map, List, [], ◌∷◌, length, map, refl, ap, sym, ◌∙◌, subst, arith, true≢false}
use Rattle.std.specs.Prelude.{is_none}
use Rattle.std.proofs.lemmas.Bool.{eqb-true, eqb-false, eq-eqb, ne_eqb, or_parts}
use Rattle.std.proofs.lemmas.Option.{same_Some}
use Rattle.cell_lists.specs.Lists.{is_in, AreDistinct, first_or, last_or, before_in, after_in}
use Rattle.g_arena_def.specs.Flat.{FlatNode}
use Rattle.g_arena_def.specs.Reads.{found}
use Rattle.g_arena_use.specs.Lists.{PlainList, origins_at}
use Rattle.g_arena_use.specs.Plain.{PlainSlot, is_live, slot_at, numbers_of, live_from, live_slot}
use Rattle.g_arena_use.specs.Seen.{slot_seen, nodes_seen}

pub apart : {A : Type 0} (x : A) → None ≡ Some x → ⊥
apart x h = cc

pub picks : {A : Type 0} (b : Bool) (x y : A) → b ≡ true → cond b x y ≡ x
picks b x y e = ap (λ t. cond t x y) e

pub skips : {A : Type 0} (b : Bool) (x y : A) → b ≡ false → cond b x y ≡ y
skips b x y e = ap (λ t. cond t x y) e

-- what is seen of a slot
abbrev pub seen_at : (inputs results : List PlainList) → List PlainSlot → ℕ → FlatNode
seen_at xs ls ss k = slot_seen (origins_at xs k) ls (slot_at ss k)

absent : (xs ls : List PlainList) (ss : List PlainSlot) (n : ℕ) → is_in n (numbers_of ss) ≡ false → found n (nodes_seen xs ls ss) ≡ None
absent xs ls [] n h = refl
absent [] ls (s ∷ ss) n h = refl
absent (x ∷ xs) ls (s ∷ ss) n h = by_live (absent xs ls ss n (or_parts (eqb n s.id) (is_in n (numbers_of ss)) h).1) (is_live s)
  where
    p : (eqb n s.id ≡ false) × (is_in n (numbers_of ss) ≡ false)
    p = or_parts _ _ h

    other : eqb s.id n ≡ false
    other = ne_eqb s.id n (λ e. eqb-false n s.id p.0 (sym e))

    by_live : found n (nodes_seen xs ls ss) ≡ None → (t : Bool) → found n (cond t (slot_seen x.origins ls s ∷ nodes_seen xs ls ss) (nodes_seen xs ls ss)) ≡ None
    by_live r true = skips (eqb s.id n) (Some (slot_seen x.origins ls s)) (found n (nodes_seen xs ls ss)) other ∙ r
    by_live r false = r

-- a node is found where its slot is
pub found_is : (xs ls : List PlainList) (ss : List PlainSlot) (n : ℕ) → length xs ≡ length ss → AreDistinct (numbers_of ss)
    → found n (nodes_seen xs ls ss) ≡ option_map (seen_at xs ls ss) (live_slot n ss)
found_is xs ls [] n e d = refl
found_is [] ls (s ∷ ss) n e d = absurd (omega (arith, e))
found_is (x ∷ xs) ls (s ∷ ss) n e d = by_live (found_is xs ls ss n (omega (arith, e)) d.1 ∙ shifted (live_slot n ss)) (is_live s) refl (eqb s.id n) refl
  where
    shifted : (o : Option ℕ) → option_map (seen_at xs ls ss) o ≡ option_map (seen_at (x ∷ xs) ls (s ∷ ss)) (option_map suc o)
    shifted None = refl
    shifted (Some k) = refl

    here : eqb s.id n ≡ true → is_in n (numbers_of ss) ≡ false
    here h = let P : ℕ → Type 0 = λ m. is_in m (numbers_of ss) ≡ false in subst P (eqb-true s.id n h) d.0

    by_live : found n (nodes_seen xs ls ss) ≡ option_map (seen_at (x ∷ xs) ls (s ∷ ss)) (option_map suc (live_slot n ss)) → (t : Bool) → is_live s ≡ t → (b : Bool) → eqb s.id n ≡ b
        → found n (cond t (slot_seen x.origins ls s ∷ nodes_seen xs ls ss) (nodes_seen xs ls ss)) ≡ option_map (seen_at (x ∷ xs) ls (s ∷ ss)) (cond b (cond t (Some 0) None) (option_map suc (live_slot n ss)))
    by_live rest true l true h = picks (eqb s.id n) (Some (slot_seen x.origins ls s)) (found n (nodes_seen xs ls ss)) h
    by_live rest true l false h = skips (eqb s.id n) (Some (slot_seen x.origins ls s)) (found n (nodes_seen xs ls ss)) h ∙ rest
    by_live rest false l true h = absent xs ls ss n (here h)
    by_live rest false l false h = rest

-- ---- the numbers of the nodes that are there, in order

abbrev pub ids_seen : List FlatNode → List ℕ
ids_seen ns = map (λ (x : FlatNode). x.id) ns

abbrev pub id_at : List PlainSlot → ℕ → ℕ
id_at ss k = (slot_at ss k).id

-- these slots are those of the list from an index on
record StandFrom (all : List PlainSlot) (base : ℕ) (ss : List PlainSlot) : Type 0 where
  at : (j : ℕ) → slot_at all (base + j) ≡ slot_at ss j

stand_later : (all : List PlainSlot) (base : ℕ) (s : PlainSlot) (ss : List PlainSlot) → StandFrom all base (s ∷ ss) → StandFrom all (suc base) ss
stand_later all base s ss f = record { at = λ j. ap (slot_at all) (let e : suc base + j ≡ base + suc j = omega arith in e) ∙ f.at (suc j) }

ids_from : (all : List PlainSlot) (base : ℕ) (xs ls : List PlainList) (ss : List PlainSlot) → length xs ≡ length ss → StandFrom all base ss
    → ids_seen (nodes_seen xs ls ss) ≡ map (id_at all) (live_from base ss)
ids_from all base xs ls [] e f = refl
ids_from all base [] ls (s ∷ ss) e f = absurd (omega (arith, e))
ids_from all base (x ∷ xs) ls (s ∷ ss) e f = by_live (ids_from all (suc base) xs ls ss (omega (arith, e)) (stand_later all base s ss f)) (is_live s)
  where
    own : s.id ≡ id_at all base
    own = sym (ap (λ (r : PlainSlot). r.id) (ap (slot_at all) (let z : base ≡ base + 0 = omega arith in z) ∙ f.at 0))

    by_live : ids_seen (nodes_seen xs ls ss) ≡ map (id_at all) (live_from (suc base) ss) → (t : Bool) → ids_seen (cond t (slot_seen x.origins ls s ∷ nodes_seen xs ls ss) (nodes_seen xs ls ss)) ≡ map (id_at all) (cond t (base ∷ live_from (suc base) ss) (live_from (suc base) ss))
    by_live rest true = λ i. own i ∷ rest i
    by_live rest false = rest

pub ids_are : (xs ls : List PlainList) (ss : List PlainSlot) → length xs ≡ length ss → ids_seen (nodes_seen xs ls ss) ≡ map (id_at ss) (live_from 0 ss)
ids_are xs ls ss e = ids_from ss 0 xs ls ss e (record { at = λ j. ap (slot_at ss) (let z : 0 + j ≡ j = omega arith in z) })

pub first_of_map : (f : ℕ → ℕ) (ks : List ℕ) → first_or None (map f ks) ≡ option_map f (first_or None ks)
first_of_map f [] = refl
first_of_map f (k ∷ ks) = refl

last_from : (f : ℕ → ℕ) (o : Option ℕ) (ks : List ℕ) → last_or (option_map f o) (map f ks) ≡ option_map f (last_or o ks)
last_from f o [] = refl
last_from f o (k ∷ ks) = last_from f (Some k) ks

pub last_of_map : (f : ℕ → ℕ) (ks : List ℕ) → last_or None (map f ks) ≡ option_map f (last_or None ks)
last_of_map f ks = last_from f None ks

-- f takes no two of these to one
abbrev pub AreApart : (ℕ → ℕ) → ℕ → List ℕ → Type 0
AreApart f c ks = (k : ℕ) → is_in k ks ≡ true → eqb (f c) (f k) ≡ eqb c k

in_later : (k j : ℕ) (ks : List ℕ) → is_in k ks ≡ true → is_in k (j ∷ ks) ≡ true
in_later k j ks h = ap (λ b. eqb k j || b) h ∙ or_true (eqb k j)
  where
    or_true : (b : Bool) → (b || true) ≡ true
    or_true true = refl
    or_true false = refl

in_first : (k : ℕ) (ks : List ℕ) → is_in k (k ∷ ks) ≡ true
in_first k ks = ap (λ b. b || is_in k ks) (eq-eqb k k refl)

pub after_of_map : (f : ℕ → ℕ) (c : ℕ) (ks : List ℕ) → AreApart f c ks → after_in (f c) (map f ks) ≡ option_map f (after_in c ks)
after_of_map f c [] a = refl
after_of_map f c (k ∷ ks) a = ap (λ b. cond b (first_or None (map f ks)) (after_in (f c) (map f ks))) (a k (in_first k ks)) ∙ by_test (after_of_map f c ks (λ j h. a j (in_later j k ks h))) (eqb c k)
  where
    by_test : after_in (f c) (map f ks) ≡ option_map f (after_in c ks) → (t : Bool) → cond t (first_or None (map f ks)) (after_in (f c) (map f ks)) ≡ option_map f (cond t (first_or None ks) (after_in c ks))
    by_test r true = first_of_map f ks
    by_test r false = r

before_from : (f : ℕ → ℕ) (c : ℕ) (o : Option ℕ) (ks : List ℕ) → AreApart f c ks → before_in (option_map f o) (f c) (map f ks) ≡ option_map f (before_in o c ks)
before_from f c o [] a = refl
before_from f c o (k ∷ ks) a = ap (λ b. cond b (option_map f o) (before_in (Some (f k)) (f c) (map f ks))) (a k (in_first k ks)) ∙ by_test (before_from f c (Some k) ks (λ j h. a j (in_later j k ks h))) (eqb c k)
  where
    by_test : before_in (Some (f k)) (f c) (map f ks) ≡ option_map f (before_in (Some k) c ks) → (t : Bool) → cond t (option_map f o) (before_in (Some (f k)) (f c) (map f ks)) ≡ option_map f (cond t o (before_in (Some k) c ks))
    by_test r true = refl
    by_test r false = r

pub before_of_map : (f : ℕ → ℕ) (c : ℕ) (ks : List ℕ) → AreApart f c ks → before_in None (f c) (map f ks) ≡ option_map f (before_in None c ks)
before_of_map f c ks a = before_from f c None ks a

-- numbers that stand once tell slots apart
in_list : (ss : List PlainSlot) (k : ℕ) → k < length ss → is_in (id_at ss k) (numbers_of ss) ≡ true
in_list [] k lt = absurd (omega arith)
in_list (s ∷ ss) zero lt = in_first s.id (numbers_of ss)
in_list (s ∷ ss) (suc k) lt = in_later (id_at ss k) s.id (numbers_of ss) (in_list ss k (omega arith))

pub same_slot : (ss : List PlainSlot) (j k : ℕ) → AreDistinct (numbers_of ss) → j < length ss → k < length ss → id_at ss j ≡ id_at ss k → j ≡ k
same_slot [] j k d p q e = absurd (omega arith)
same_slot (s ∷ ss) zero zero d p q e = refl
same_slot (s ∷ ss) zero (suc k) d p q e =
    let P : ℕ → Type 0 = λ n. is_in n (numbers_of ss) ≡ false in
    absurd (true≢false (sym (in_list ss k (omega arith)) ∙ subst P e d.0))
same_slot (s ∷ ss) (suc j) zero d p q e =
    let P : ℕ → Type 0 = λ n. is_in n (numbers_of ss) ≡ false in
    absurd (true≢false (sym (in_list ss j (omega arith)) ∙ subst P (sym e) d.0))
same_slot (s ∷ ss) (suc j) (suc k) d p q e = ap suc (same_slot ss j k d.1 (omega arith) (omega arith) e)

live_within : (base : ℕ) (ss : List PlainSlot) (k : ℕ) → is_in k (live_from base ss) ≡ true → (base ≤ k) × (k < base + length ss)
live_within base [] k h = absurd (true≢false (sym h))
live_within base (s ∷ ss) k h = by_live (λ g. let r = live_within (suc base) ss k g in (omega (arith, r.0), omega (arith, r.1))) (is_live s) h
  where
    by_head : (is_in k (live_from (suc base) ss) ≡ true → (base ≤ k) × (k < base + suc (length ss))) → (t : Bool) → eqb k base ≡ t → (t || is_in k (live_from (suc base) ss)) ≡ true → (base ≤ k) × (k < base + suc (length ss))
    by_head rest true e g = let z : k ≡ base = eqb-true k base e in (omega (arith, z), omega (arith, z))
    by_head rest false e g = rest g

    by_live : (is_in k (live_from (suc base) ss) ≡ true → (base ≤ k) × (k < base + suc (length ss))) → (t : Bool) → is_in k (cond t (base ∷ live_from (suc base) ss) (live_from (suc base) ss)) ≡ true → (base ≤ k) × (k < base + suc (length ss))
    by_live rest true g = by_head rest (eqb k base) refl g
    by_live rest false g = rest g

pub ids_apart : (ss : List PlainSlot) (c : ℕ) → AreDistinct (numbers_of ss) → c < length ss → AreApart (id_at ss) c (live_from 0 ss)
ids_apart ss c d lt k h = by_test (eqb c k) refl
  where
    inside : k < length ss
    inside = omega (arith, (live_within 0 ss k h).1)

    by_test : (t : Bool) → eqb c k ≡ t → eqb (id_at ss c) (id_at ss k) ≡ t
    by_test true e = eq-eqb (id_at ss c) (id_at ss k) (ap (id_at ss) (eqb-true c k e))
    by_test false e = ne_eqb (id_at ss c) (id_at ss k) (λ z. eqb-false c k e (same_slot ss c k d lt inside z))

-- the slot of a number
pub record IsSlotOf (n : ℕ) (ss : List PlainSlot) (k : ℕ) : Type 0 where
  pub inside : k < length ss
  pub own : id_at ss k ≡ n
  pub live : (slot_at ss k).gone ≡ None

pub slot_is : (n : ℕ) (ss : List PlainSlot) (k : ℕ) → live_slot n ss ≡ Some k → IsSlotOf n ss k
slot_is n [] k h = absurd (apart k h)
slot_is n (s ∷ ss) k h = by_own (λ a p. slot_is n ss a p) (eqb s.id n) refl k h
  where
    none_live : (o : Option ℕ) → is_none o ≡ true → o ≡ None
    none_live None h = refl
    none_live (Some r) h = absurd (true≢false (sym h))

    one_more : (o : Option ℕ) (k : ℕ) → option_map suc o ≡ Some k → (j : ℕ) × (o ≡ Some j) × (k ≡ suc j)
    one_more None k h = absurd (apart k h)
    one_more (Some j) k h = (j, refl, sym (same_Some _ _ h))

    by_live : (t : Bool) → is_live s ≡ t → eqb s.id n ≡ true → (k : ℕ) → cond t (Some 0) None ≡ Some k → IsSlotOf n (s ∷ ss) k
    by_live true l e k h =
        let P : ℕ → Type 0 = λ j. IsSlotOf n (s ∷ ss) j in
        subst P (same_Some 0 k h) (record { inside = omega arith; own = eqb-true s.id n e; live = none_live s.gone l })
    by_live false l e k h = absurd (apart k h)

    by_own : ((a : ℕ) → live_slot n ss ≡ Some a → IsSlotOf n ss a) → (t : Bool) → eqb s.id n ≡ t → (k : ℕ) → cond t (cond (is_live s) (Some 0) None) (option_map suc (live_slot n ss)) ≡ Some k → IsSlotOf n (s ∷ ss) k
    by_own ih true e k h = by_live (is_live s) refl e k h
    by_own ih false e k h =
        let m = one_more (live_slot n ss) k h in
        let r = ih m.0 m.1 in
        let P : ℕ → Type 0 = λ j. IsSlotOf n (s ∷ ss) j in
        subst P (sym m.2) (record { inside = omega (arith, r.inside); own = r.own; live = r.live })
