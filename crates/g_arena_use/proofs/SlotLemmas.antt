-- Slots in a list: one by its number, those that are there, and one that changes.
use Rattle.std.proofs.Common.{◌≡◌, ℕ, zero, suc, ◌+◌, ◌^◌, ◌<◌, ◌≤◌, Bool, true, false, ◌&&◌, ◌||◌, cond, eqb, Option, Some, None, option_map, List, [], ◌∷◌, ◌++◌, ◌⊎◌, inl, inr, length, get_or, set, take, drop, refl, ap, sym, ◌∙◌, subst, length-append, length-take, length-drop, length-set, arith, true≢false}
use Rattle.std.specs.Prelude.{slice_get, IfSome}
use Rattle.std.specs.List.{position, position_from, remove}
use Rattle.std.proofs.lemmas.Bool.{eqb-true, eqb-false, eq-eqb, ne_eqb}
use Rattle.std.proofs.lemmas.Iterator.Adapters.{position_from-zero}
use Rattle.std.proofs.lemmas.Option.{same_Some}
use Rattle.cell_lists.specs.Lists.{is_in, IsFree, first_or, last_or, before_in, after_in, without}
use Rattle.g_graph.specs.declared.op.Kind.{Kind}
use Rattle.g_arena_use.specs.Plain.{PlainSlot, is_live, slot_at, numbers_of, live_from, live_slot, all_live, IsShort, AreShort, IsThere, id_at, number_index, slot_gone, output_gone, argument_gone, counted, in_order}

pub apart : {A : Type 0} (x : A) → None ≡ Some x → ⊥
apart x h = cc

pub one_more : (o : Option ℕ) (k : ℕ) → option_map suc o ≡ Some k → (j : ℕ) × (o ≡ Some j) × (k ≡ suc j)
one_more None k h = absurd (apart k h)
one_more (Some j) k h = (j, refl, sym (same_Some _ _ h))

both : (a b : Bool) → (a && b) ≡ true → (a ≡ true) × (b ≡ true)
both true b h = (refl, h)
both false b h = absurd (true≢false (sym h))

eqb_sym : (a b : ℕ) → eqb a b ≡ eqb b a
eqb_sym a b = by (eqb a b) refl
  where
    by : (t : Bool) → eqb a b ≡ t → eqb a b ≡ eqb b a
    by true e = e ∙ sym (eq-eqb b a (sym (eqb-true a b e)))
    by false e = e ∙ sym (ne_eqb b a (λ z. eqb-false a b e (sym z)))

-- ---- a slot by its number

add_zero : (o : Option ℕ) → option_map (λ n. n + 0) o ≡ o
add_zero None = refl
add_zero (Some n) = ap Some (omega arith)

add_more : (i : ℕ) (o : Option ℕ) → option_map (λ n. n + (i + 1)) o ≡ option_map (λ n. n + i) (option_map suc o)
add_more i None = refl
add_more i (Some n) = ap Some (omega arith)

index_from : (n i : ℕ) (ss : List PlainSlot) → position_from (eqb n) i (numbers_of ss) ≡ option_map (λ k. k + i) (number_index n ss)
index_from n i [] = refl
index_from n i (s ∷ ss) =
    ap (λ b. cond b (Some i) (position_from (eqb n) (i + 1) (numbers_of ss))) (eqb_sym n s.id) ∙ by_test (eqb s.id n) (index_from n (i + 1) ss)
  where
    by_test : (t : Bool) → position_from (eqb n) (i + 1) (numbers_of ss) ≡ option_map (λ k. k + (i + 1)) (number_index n ss)
        → cond t (Some i) (position_from (eqb n) (i + 1) (numbers_of ss)) ≡ option_map (λ k. k + i) (cond t (Some 0) (option_map suc (number_index n ss)))
    by_test true ih = ap Some (omega arith)
    by_test false ih = ih ∙ add_more i (number_index n ss)

pub index_is : (n : ℕ) (ss : List PlainSlot) → position (eqb n) (numbers_of ss) ≡ number_index n ss
index_is n ss = position_from-zero (eqb n) (numbers_of ss) ∙ index_from n 0 ss ∙ add_zero (number_index n ss)

pub index_within : (n : ℕ) (ss : List PlainSlot) (k : ℕ) → number_index n ss ≡ Some k → k < length ss
index_within n [] k h = absurd (apart k h)
index_within n (s ∷ ss) k h = by_test (eqb s.id n) (λ j g. index_within n ss j g) h
  where
    by_test : (t : Bool) → ((j : ℕ) → number_index n ss ≡ Some j → j < length ss) → cond t (Some 0) (option_map suc (number_index n ss)) ≡ Some k → k < suc (length ss)
    by_test true ih h = let z : 0 ≡ k = same_Some _ _ h in omega (arith, z)
    by_test false ih h = let m = one_more (number_index n ss) k h in omega (arith, ih m.0 m.1, m.2)

pub live_by : (n : ℕ) (ss : List PlainSlot) (k : ℕ) → number_index n ss ≡ Some k → live_slot n ss ≡ cond (is_live (slot_at ss k)) (Some k) None
live_by n [] k h = absurd (apart k h)
live_by n (s ∷ ss) k h = by_test (eqb s.id n) (λ j g. live_by n ss j g) h
  where
    shifted : (j : ℕ) (b : Bool) → option_map suc (cond b (Some j) None) ≡ cond b (Some (suc j)) None
    shifted j true = refl
    shifted j false = refl

    by_test : (t : Bool) → ((j : ℕ) → number_index n ss ≡ Some j → live_slot n ss ≡ cond (is_live (slot_at ss j)) (Some j) None) → cond t (Some 0) (option_map suc (number_index n ss)) ≡ Some k
        → cond t (cond (is_live s) (Some 0) None) (option_map suc (live_slot n ss)) ≡ cond (is_live (slot_at (s ∷ ss) k)) (Some k) None
    by_test true ih h = ap (λ j. cond (is_live (slot_at (s ∷ ss) j)) (Some j) None) (same_Some _ _ h)
    by_test false ih h =
        let m = one_more (number_index n ss) k h in
        ap (option_map suc) (ih m.0 m.1) ∙ shifted m.0 (is_live (slot_at ss m.0)) ∙ ap (λ j. cond (is_live (slot_at (s ∷ ss) j)) (Some j) None) (sym m.2)

pub live_none : (n : ℕ) (ss : List PlainSlot) → number_index n ss ≡ None → live_slot n ss ≡ None
live_none n [] h = refl
live_none n (s ∷ ss) h = by_test (eqb s.id n) (live_none n ss) h
  where
    none_of : (o : Option ℕ) → option_map suc o ≡ None → o ≡ None
    none_of None h = refl
    none_of (Some j) h = absurd (apart (suc j) (sym h))

    by_test : (t : Bool) → (number_index n ss ≡ None → live_slot n ss ≡ None) → cond t (Some 0) (option_map suc (number_index n ss)) ≡ None → cond t (cond (is_live s) (Some 0) None) (option_map suc (live_slot n ss)) ≡ None
    by_test true ih h = absurd (apart 0 (sym h))
    by_test false ih h = ap (option_map suc) (ih (none_of (number_index n ss) h))

-- ---- those that are there

later : (k j : ℕ) (ks : List ℕ) → is_in k ks ≡ true → is_in k (j ∷ ks) ≡ true
later k j ks h = ap (λ b. eqb k j || b) h ∙ or_true (eqb k j)
  where
    or_true : (b : Bool) → (b || true) ≡ true
    or_true true = refl
    or_true false = refl

live_from_in : (base k : ℕ) (ss : List PlainSlot) → k < length ss → is_live (slot_at ss k) ≡ true → is_in (base + k) (live_from base ss) ≡ true
live_from_in base k [] lt l = absurd (omega arith)
live_from_in base zero (s ∷ ss) lt l =
    ap (λ b. is_in (base + 0) (cond b (base ∷ live_from (suc base) ss) (live_from (suc base) ss))) l
    ∙ ap (λ b. b || is_in (base + 0) (live_from (suc base) ss)) (eq-eqb (base + 0) base (omega arith))
live_from_in base (suc k) (s ∷ ss) lt l =
    let r = live_from_in (suc base) k ss (omega arith) l in
    let e : base + suc k ≡ suc base + k = omega arith in
    ap (λ n. is_in n (live_from base (s ∷ ss))) e ∙ by (is_live s) r
  where
    by : (b : Bool) → is_in (suc base + k) (live_from (suc base) ss) ≡ true → is_in (suc base + k) (cond b (base ∷ live_from (suc base) ss) (live_from (suc base) ss)) ≡ true
    by true r = later (suc base + k) base (live_from (suc base) ss) r
    by false r = r

pub live_in : (k : ℕ) (ss : List PlainSlot) → k < length ss → is_live (slot_at ss k) ≡ true → is_in k (live_from 0 ss) ≡ true
live_in k ss lt l = ap (λ n. is_in n (live_from 0 ss)) (let z : k ≡ 0 + k = omega arith in z) ∙ live_from_in 0 k ss lt l

in_live : (base : ℕ) (ss : List PlainSlot) (k : ℕ) → is_in k (live_from base ss) ≡ true → (j : ℕ) × (k ≡ base + j) × IsThere j ss
in_live base [] k h = absurd (true≢false (sym h))
in_live base (s ∷ ss) k h = by_live (is_live s) refl h (λ g. more (in_live (suc base) ss k g))
  where
    more : ((j : ℕ) × (k ≡ suc base + j) × IsThere j ss) → (j : ℕ) × (k ≡ base + j) × IsThere j (s ∷ ss)
    more r = (suc r.0, omega (arith, r.1), record { inside = omega (arith, r.2.inside); live = r.2.live })

    by_first : (t : Bool) → eqb k base ≡ t → is_live s ≡ true → (t || is_in k (live_from (suc base) ss)) ≡ true → (is_in k (live_from (suc base) ss) ≡ true → (j : ℕ) × (k ≡ base + j) × IsThere j (s ∷ ss))
        → (j : ℕ) × (k ≡ base + j) × IsThere j (s ∷ ss)
    by_first true e l h go = (0, (let z : k ≡ base = eqb-true k base e in omega (arith, z)), record { inside = omega arith; live = l })
    by_first false e l h go = go h

    by_live : (t : Bool) → is_live s ≡ t → is_in k (cond t (base ∷ live_from (suc base) ss) (live_from (suc base) ss)) ≡ true → (is_in k (live_from (suc base) ss) ≡ true → (j : ℕ) × (k ≡ base + j) × IsThere j (s ∷ ss))
        → (j : ℕ) × (k ≡ base + j) × IsThere j (s ∷ ss)
    by_live true l h go = by_first (eqb k base) refl l h go
    by_live false l h go = go h

is_there : (ss : List PlainSlot) (k : ℕ) → is_in k (live_from 0 ss) ≡ true → IsThere k ss
is_there ss k h =
    let r = in_live 0 ss k h in
    let P : ℕ → Type 0 = λ n. IsThere n ss in
    subst P (let z : r.0 ≡ k = omega (arith, r.1) in z) r.2

first_in : (ks : List ℕ) (k : ℕ) → first_or None ks ≡ Some k → is_in k ks ≡ true
first_in [] k h = absurd (apart k h)
first_in (j ∷ ks) k h = ap (λ b. b || is_in k ks) (eq-eqb k j (sym (same_Some _ _ h)))

last_in : (o : Option ℕ) (ks : List ℕ) (k : ℕ) → last_or o ks ≡ Some k → (o ≡ Some k) ⊎ (is_in k ks ≡ true)
last_in o [] k h = inl h
last_in o (j ∷ ks) k h =
    elim (last_in (Some j) ks k h) [
      | inl e ↦ inr (ap (λ b. b || is_in k ks) (eq-eqb k j (sym (same_Some _ _ e))))
      | inr e ↦ inr (later k j ks e)
    ]

after_is_in : (c : ℕ) (ks : List ℕ) (k : ℕ) → after_in c ks ≡ Some k → is_in k ks ≡ true
after_is_in c [] k h = absurd (apart k h)
after_is_in c (j ∷ ks) k h = by (eqb c j) (λ g. after_is_in c ks k g) h
  where
    by : (t : Bool) → (after_in c ks ≡ Some k → is_in k ks ≡ true) → cond t (first_or None ks) (after_in c ks) ≡ Some k → is_in k (j ∷ ks) ≡ true
    by true go h = later k j ks (first_in ks k h)
    by false go h = later k j ks (go h)

before_is_in : (o : Option ℕ) (c : ℕ) (ks : List ℕ) (k : ℕ) → before_in o c ks ≡ Some k → (o ≡ Some k) ⊎ (is_in k ks ≡ true)
before_is_in o c [] k h = absurd (apart k h)
before_is_in o c (j ∷ ks) k h = by (eqb c j) (λ g. before_is_in (Some j) c ks k g) h
  where
    by : (t : Bool) → (before_in (Some j) c ks ≡ Some k → (Some j ≡ Some k) ⊎ (is_in k ks ≡ true)) → cond t o (before_in (Some j) c ks) ≡ Some k → (o ≡ Some k) ⊎ (is_in k (j ∷ ks) ≡ true)
    by true go h = inl h
    by false go h =
        elim (go h) [
          | inl e ↦ inr (ap (λ b. b || is_in k ks) (eq-eqb k j (sym (same_Some _ _ e))))
          | inr e ↦ inr (later k j ks e)
        ]

none_some : {A : Type 0} (k : ℕ) → (None ≡ Some k) ⊎ A → A
none_some k (inl e) = absurd (apart k e)
none_some k (inr a) = a

pub first_there : (ss : List PlainSlot) (o : Option ℕ) → o ≡ first_or None (live_from 0 ss) → IfSome o (λ at. IsThere at ss)
first_there ss None h = tt
first_there ss (Some k) h = is_there ss k (first_in (live_from 0 ss) k (sym h))

pub last_there : (ss : List PlainSlot) (o : Option ℕ) → o ≡ last_or None (live_from 0 ss) → IfSome o (λ at. IsThere at ss)
last_there ss None h = tt
last_there ss (Some k) h = is_there ss k (none_some k (last_in None (live_from 0 ss) k (sym h)))

pub after_there : (ss : List PlainSlot) (c : ℕ) (o : Option ℕ) → o ≡ after_in c (live_from 0 ss) → IfSome o (λ at. IsThere at ss)
after_there ss c None h = tt
after_there ss c (Some k) h = is_there ss k (after_is_in c (live_from 0 ss) k (sym h))

pub before_there : (ss : List PlainSlot) (c : ℕ) (o : Option ℕ) → o ≡ before_in None c (live_from 0 ss) → IfSome o (λ at. IsThere at ss)
before_there ss c None h = tt
before_there ss c (Some k) h = is_there ss k (none_some k (before_is_in None c (live_from 0 ss) k (sym h)))

pub live_all : (base : ℕ) (ss : List PlainSlot) → all_live ss ≡ true → live_from base ss ≡ counted base (length ss)
live_all base [] h = refl
live_all base (s ∷ ss) h =
    let p = both (is_live s) (all_live ss) h in
    ap (λ b. cond b (base ∷ live_from (suc base) ss) (live_from (suc base) ss)) p.0 ∙ ap (λ ks. base ∷ ks) (live_all (suc base) ss p.1)

counted_more_from : (base n : ℕ) → counted base (suc n) ≡ counted base n ++ (base + n) ∷ []
counted_more_from base zero = ap (λ k. k ∷ []) (let z : base ≡ base + 0 = omega arith in z)
counted_more_from base (suc n) = ap (λ ks. base ∷ ks) (counted_more_from (suc base) n ∙ ap (λ k. counted (suc base) n ++ k ∷ []) (let z : suc base + n ≡ base + suc n = omega arith in z))

pub counted_more : (n : ℕ) → counted 0 n ++ n ∷ [] ≡ counted 0 (n + 1)
counted_more n =
    ap (λ k. counted 0 n ++ k ∷ []) (let z : n ≡ 0 + n = omega arith in z) ∙ sym (counted_more_from 0 n) ∙ ap (counted 0) (let z : suc n ≡ n + 1 = omega arith in z)

not_counted : (base n c : ℕ) → base + n ≤ c → is_in c (counted base n) ≡ false
not_counted base zero c le = refl
not_counted base (suc n) c le =
    ap (λ b. b || is_in c (counted (suc base) n)) (ne_eqb c base (λ z. omega (arith, z, le))) ∙ not_counted (suc base) n c (omega (arith, le))

pub counted_free : (slots n : ℕ) → IsFree n (in_order slots n)
counted_free slots n zero = not_counted 0 n n (omega arith)
counted_free slots n (suc k) = refl

-- ---- one slot changes

pub slot_there : (ss : List PlainSlot) (k : ℕ) → k < length ss → slice_get ss k ≡ Some (slot_at ss k)
slot_there [] k lt = absurd (omega arith)
slot_there (s ∷ ss) zero lt = refl
slot_there (s ∷ ss) (suc k) lt = slot_there ss k (omega arith)

pub numbers_same : (ss : List PlainSlot) (k : ℕ) (t : PlainSlot) → t.id ≡ id_at ss k → numbers_of (set ss k t) ≡ numbers_of ss
numbers_same [] k t e = refl
numbers_same (s ∷ ss) zero t e = ap (λ n. n ∷ numbers_of ss) e
numbers_same (s ∷ ss) (suc k) t e = ap (λ ns. s.id ∷ ns) (numbers_same ss k t e)

pub live_same : (base : ℕ) (ss : List PlainSlot) (k : ℕ) (t : PlainSlot) → is_live t ≡ is_live (slot_at ss k) → live_from base (set ss k t) ≡ live_from base ss
live_same base [] k t e = refl
live_same base (s ∷ ss) zero t e = ap (λ b. cond b (base ∷ live_from (suc base) ss) (live_from (suc base) ss)) e
live_same base (s ∷ ss) (suc k) t e = ap (λ ks. cond (is_live s) (base ∷ ks) ks) (live_same (suc base) ss k t e)

gone_from : (base k r : ℕ) (ss : List PlainSlot) → k < length ss → is_live (slot_at ss k) ≡ true → live_from base (set ss k (slot_gone r (slot_at ss k))) ≡ without (base + k) (live_from base ss)
gone_from base k r [] lt l = absurd (omega arith)
gone_from base zero r (s ∷ ss) lt l =
    sym (ap (λ b. without (base + 0) (cond b (base ∷ live_from (suc base) ss) (live_from (suc base) ss))) l
    ∙ ap (λ b. cond b (live_from (suc base) ss) (base ∷ without (base + 0) (live_from (suc base) ss))) (eq-eqb (base + 0) base (omega arith)))
gone_from base (suc k) r (s ∷ ss) lt l =
    let g = gone_from (suc base) k r ss (omega arith) l in
    let e : suc base + k ≡ base + suc k = omega arith in
    ap (λ ks. cond (is_live s) (base ∷ ks) ks) (g ∙ ap (λ n. without n (live_from (suc base) ss)) e) ∙ by (is_live s)
  where
    by : (b : Bool) → cond b (base ∷ without (base + suc k) (live_from (suc base) ss)) (without (base + suc k) (live_from (suc base) ss)) ≡ without (base + suc k) (cond b (base ∷ live_from (suc base) ss) (live_from (suc base) ss))
    by true = sym (ap (λ b. cond b (live_from (suc base) ss) (base ∷ without (base + suc k) (live_from (suc base) ss))) (ne_eqb (base + suc k) base (λ z. omega (arith, z))))
    by false = refl

pub live_gone : (k r : ℕ) (ss : List PlainSlot) → k < length ss → is_live (slot_at ss k) ≡ true → live_from 0 (set ss k (slot_gone r (slot_at ss k))) ≡ without k (live_from 0 ss)
live_gone k r ss lt l = gone_from 0 k r ss lt l ∙ ap (λ n. without n (live_from 0 ss)) (let z : 0 + k ≡ k = omega arith in z)

pub short_set : (ss : List PlainSlot) (k : ℕ) (t : PlainSlot) → AreShort ss → IsShort t → AreShort (set ss k t)
short_set [] k t h f j s e = absurd (apart s e)
short_set (x ∷ ss) zero t h f zero s e = let P : PlainSlot → Type 0 = λ y. IsShort y in subst P (same_Some t s e) f
short_set (x ∷ ss) zero t h f (suc j) s e = h (suc j) s e
short_set (x ∷ ss) (suc k) t h f zero s e = h zero s e
short_set (x ∷ ss) (suc k) t h f (suc j) s e = short_set ss k t (λ i y g. h (suc i) y g) f j s e

remove_le : {A : Type 0} (xs : List A) (k : ℕ) → length (remove xs k) ≤ length xs
remove_le xs k = omega (arith, length-append (take k xs) (drop (suc k) xs), length-take k xs, length-drop (suc k) xs)

pub short_output : (q : ℕ) (s : PlainSlot) → IsShort s → IsShort (output_gone q s)
short_output q s h = record { outputs = omega (arith, h.outputs, remove_le s.outputs q); regions = h.regions; args = h.args; results = h.results }

args_set : (kss : List (List Kind)) (r : ℕ) (ks : List Kind) → ((j : ℕ) (is : List Kind) → slice_get kss j ≡ Some is → length is < 2 ^ 32) → length ks < 2 ^ 32
    → (j : ℕ) (is : List Kind) → slice_get (set kss r ks) j ≡ Some is → length is < 2 ^ 32
args_set [] r ks h f j is e = absurd (apart is e)
args_set (x ∷ kss) zero ks h f zero is e = let P : List Kind → Type 0 = λ y. length y < 2 ^ 32 in subst P (same_Some ks is e) f
args_set (x ∷ kss) zero ks h f (suc j) is e = h (suc j) is e
args_set (x ∷ kss) (suc r) ks h f zero is e = h zero is e
args_set (x ∷ kss) (suc r) ks h f (suc j) is e = args_set kss r ks (λ i y g. h (suc i) y g) f j is e

few_at : (kss : List (List Kind)) (r : ℕ) → ((j : ℕ) (is : List Kind) → slice_get kss j ≡ Some is → length is < 2 ^ 32) → length (get_or kss r []) < 2 ^ 32
few_at [] r h = omega arith
few_at (x ∷ kss) zero h = h 0 x refl
few_at (x ∷ kss) (suc r) h = few_at kss r (λ i y g. h (suc i) y g)

pub short_argument : (r k : ℕ) (s : PlainSlot) → IsShort s → IsShort (argument_gone r k s)
short_argument r k s h = record {
  outputs = h.outputs;
  regions = omega (arith, h.regions, length-set s.regions r (remove (get_or s.regions r []) k));
  args = args_set s.regions r (remove (get_or s.regions r []) k) h.args (omega (arith, remove_le (get_or s.regions r []) k, few_at s.regions r h.args));
  results = omega (arith, h.results, length-set s.regions r (remove (get_or s.regions r []) k));
}

pub short_gone : (r : ℕ) (s : PlainSlot) → IsShort s → IsShort (slot_gone r s)
short_gone r s h = record { outputs = h.outputs; regions = h.regions; args = h.args; results = h.results }
