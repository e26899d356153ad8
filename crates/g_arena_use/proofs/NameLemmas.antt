-- Uses by their numbers: what cells hold is told by the numbers as by the uses.
use Rattle.std.proofs.Common.{◌≡◌, ℕ, zero, suc, ◌+◌, ◌<◌, Bool, true, false, ◌&&◌, ◌||◌, eqb, cond, Option, Some, None, option_map, List, [], ◌∷◌, ◌++◌, length, map, replicate, get_or, set, refl, ap, sym, ◌∙◌, subst, arith, true≢false}
use Rattle.std.specs.Prelude.{slice_get}
use Rattle.std.specs.List.{list_any, position, position_from}
use Rattle.std.proofs.lemmas.Iterator.Adapters.{position_from-zero}
use Rattle.std.proofs.lemmas.Bool.{eqb-true, eqb-false, eq-eqb, ne_eqb, or_parts, or_from, false_from_ne_true}
use Rattle.std.proofs.lemmas.List.{length-map, length-set, get_or-set_same, get_or-set_other}
use Rattle.std.proofs.Math.ListN.{get_or-map}
use Rattle.std.proofs.lemmas.Option.{same_Some}
use Rattle.cell_lists.specs.Keys.{Keys, no_keys, is_key, key_at, with_key, with_moved as keys_moved, count_of as key_count, first_of as key_first}
use Rattle.g_graph.specs.declared.op.Origin.{Origin}
use Rattle.g_graph.specs.declared.op.Origin.TheVariants.{Arg, Out}
use Rattle.g_graph.specs.Scope.{same_origin}
use Rattle.g_graph.proofs.lemmas.Indexes.{same_origin_self}
use Rattle.g_graph.proofs.lemmas.Moved.{same_origin_true}
use Rattle.g_arena_def.specs.declared.place.Place.{Place}
use Rattle.g_arena_def.specs.Flat.{same_node, same_place}
use Rattle.g_arena_use.specs.declared.use_index.Use.{Use}
use Rattle.g_arena_use.specs.contracts.use_index.UsePartialEq.TheImpl.{eq-value}
use Rattle.g_arena_use.specs.UseCells.{UseCells, same_use, is_named, with_name, number_of, no_uses, is_use, count_of, first_of, cell_at, with_use, with_moved}
use Rattle.g_arena_use.specs.Named.{AreOnce, name_of, uses_named, AreNamed}

pub both : (a b : Bool) → (a && b) ≡ true → (a ≡ true) × (b ≡ true)
both true b h = (refl, h)
both false b h = absurd (true≢false (sym h))

same_node_true : (o p : Option ℕ) → same_node o p ≡ true → o ≡ p
same_node_true None None h = refl
same_node_true None (Some m) h = absurd (true≢false (sym h))
same_node_true (Some n) None h = absurd (true≢false (sym h))
same_node_true (Some n) (Some m) h = ap Some (eqb-true n m h)

same_node_self : (o : Option ℕ) → same_node o o ≡ true
same_node_self None = refl
same_node_self (Some n) = eq-eqb n n refl

pub same_place_true : (p q : Place) → same_place p q ≡ true → p ≡ q
same_place_true p q h =
    let b = both _ _ h in
    λ i. record { node = same_node_true p.node q.node b.0 i; region = eqb-true p.region q.region b.1 i }

pub same_place_self : (p : Place) → same_place p p ≡ true
same_place_self p = ap (λ b. b && eqb p.region p.region) (same_node_self p.node) ∙ eq-eqb p.region p.region refl

pub same_use_true : (u v : Use) → same_use u v ≡ true → u ≡ v
same_use_true u v h =
    let b = both _ _ h in
    λ i. record { home = same_place_true u.home v.home b.0 i; of = same_origin_true u.of v.of b.1 i }

pub same_use_self : (u : Use) → same_use u u ≡ true
same_use_self u = ap (λ b. b && same_origin u.of u.of) (same_place_self u.home) ∙ same_origin_self u.of

-- the use of a number, and no other use, is that use
pub apart : {A : Type 0} (x : A) → None ≡ Some x → ⊥
apart x h = cc

pub one_more : (o : Option ℕ) (k : ℕ) → option_map suc o ≡ Some k → (j : ℕ) × (o ≡ Some j) × (k ≡ suc j)
one_more None k h = absurd (apart k h)
one_more (Some j) k h = (j, refl, sym (same_Some _ _ h))

not_among : (u : Use) (vs : List Use) (j : ℕ) (v : Use) → is_named u vs ≡ false → slice_get vs j ≡ Some v → same_use u v ≡ false
not_among u [] j v h e = absurd (apart v e)
not_among u (w ∷ ws) zero v h e = ap (λ x. same_use u x) (sym (same_Some _ _ e)) ∙ (or_parts _ _ h).0
not_among u (w ∷ ws) (suc j) v h e = not_among u ws j v (or_parts _ _ h).1 e

-- a use with a number is that of no other number
key_is : (u : Use) (vs : List Use) (k j : ℕ) (v : Use) → AreOnce vs → number_of u vs ≡ Some k → slice_get vs j ≡ Some v → same_use u v ≡ eqb j k
key_is u [] k j v d n e = absurd (apart v e)
key_is u (w ∷ ws) k j v d n e = by_test (same_use u w) refl (λ a b p q. key_is u ws a b v d.1 p q) k j n e
  where
    by_test : (t : Bool) → same_use u w ≡ t → ((a b : ℕ) → number_of u ws ≡ Some a → slice_get ws b ≡ Some v → same_use u v ≡ eqb b a) → (k j : ℕ) → cond t (Some 0) (option_map suc (number_of u ws)) ≡ Some k → slice_get (w ∷ ws) j ≡ Some v → same_use u v ≡ eqb j k
    by_test true q ih k zero n e =
        let z : 0 ≡ k = same_Some _ _ n in
        ap (λ x. same_use u x) (sym (same_Some _ _ e)) ∙ q ∙ sym (eq-eqb 0 k z)
    by_test true q ih k (suc j) n e =
        let z : 0 ≡ k = same_Some _ _ n in
        let P : Use → Type 0 = λ x. is_named x ws ≡ false in
        not_among u ws j v (subst P (sym (same_use_true u w q)) d.0) e ∙ sym (ne_eqb (suc j) k (λ r. omega (arith, r, z)))
    by_test false q ih k zero n e =
        let m = one_more (number_of u ws) k n in
        let z : k ≡ suc m.0 = m.2 in
        ap (λ x. same_use u x) (sym (same_Some _ _ e)) ∙ q ∙ sym (ne_eqb 0 k (λ r. omega (arith, r, z)))
    by_test false q ih k (suc j) n e =
        let m = one_more (number_of u ws) k n in
        ih m.0 j m.1 e ∙ shifted j m.0 ∙ ap (λ x. eqb (suc j) x) (sym m.2)
      where
        shifted : (a b : ℕ) → eqb a b ≡ eqb (suc a) (suc b)
        shifted a b = by_equal (eqb a b) refl
          where
            by_equal : (t : Bool) → eqb a b ≡ t → eqb a b ≡ eqb (suc a) (suc b)
            by_equal true e = e ∙ sym (eq-eqb (suc a) (suc b) (ap suc (eqb-true a b e)))
            by_equal false e = e ∙ sym (ne_eqb (suc a) (suc b) (λ z. eqb-false a b e (omega (arith, z))))

number_within : (u : Use) (vs : List Use) (k : ℕ) → number_of u vs ≡ Some k → k < length vs
number_within u [] k n = absurd (apart k n)
number_within u (w ∷ ws) k n = by_test (same_use u w) (λ a p. number_within u ws a p) k n
  where
    by_test : (t : Bool) → ((a : ℕ) → number_of u ws ≡ Some a → a < length ws) → (k : ℕ) → cond t (Some 0) (option_map suc (number_of u ws)) ≡ Some k → k < suc (length ws)
    by_test true ih k n = let z : 0 ≡ k = same_Some _ _ n in omega (arith, z)
    by_test false ih k n = let m = one_more (number_of u ws) k n in omega (arith, ih m.0 m.1, m.2)

name_within : (vs : List Use) (j : ℕ) → j < length vs → (v : Use) × (slice_get vs j ≡ Some v)
name_within [] j lt = absurd (omega arith)
name_within (w ∷ ws) zero lt = (w, refl)
name_within (w ∷ ws) (suc j) lt = name_within ws j (omega arith)

-- a number gives its use
name_of_number : (u : Use) (vs : List Use) (k : ℕ) → number_of u vs ≡ Some k → slice_get vs k ≡ Some u
name_of_number u [] k n = absurd (apart k n)
name_of_number u (w ∷ ws) k n = by_test (same_use u w) refl (λ a p. name_of_number u ws a p) k n
  where
    by_test : (t : Bool) → same_use u w ≡ t → ((a : ℕ) → number_of u ws ≡ Some a → slice_get ws a ≡ Some u) → (k : ℕ) → cond t (Some 0) (option_map suc (number_of u ws)) ≡ Some k → slice_get (w ∷ ws) k ≡ Some u
    by_test true q ih k n = ap (λ j. slice_get (w ∷ ws) j) (sym (same_Some _ _ n)) ∙ ap Some (sym (same_use_true u w q))
    by_test false q ih k n =
        let m = one_more (number_of u ws) k n in
        ap (λ j. slice_get (w ∷ ws) j) m.2 ∙ ih m.0 m.1

-- a cell holds the use where it holds the number
abbrev pub AllWithin : List Use → List (Option ℕ) → Type 0
AllWithin names xs = (c k : ℕ) → get_or xs c None ≡ Some k → k < length names

use_is_key : (u : Use) (names : List Use) (k : ℕ) (o : Option ℕ) → AreOnce names → number_of u names ≡ Some k → ((j : ℕ) → o ≡ Some j → j < length names)
    → is_use u (name_of names o) ≡ is_key k o
use_is_key u names k None d n within = refl
use_is_key u names k (Some j) d n within =
    let v = name_within names j (within j refl) in
    ap (is_use u) v.1 ∙ key_is u names k j v.0 d n v.1

no_use_is : (u : Use) (names : List Use) (o : Option ℕ) → is_named u names ≡ false → is_use u (name_of names o) ≡ false
no_use_is u names None h = refl
no_use_is u names (Some j) h = by (slice_get names j) refl
  where
    by : (r : Option Use) → slice_get names j ≡ r → is_use u (slice_get names j) ≡ false
    by None e = ap (is_use u) e
    by (Some v) e = ap (is_use u) e ∙ not_among u names j v h e

pub counts_same : (u : Use) (names : List Use) (k : ℕ) (xs : List (Option ℕ)) → AreOnce names → number_of u names ≡ Some k → AllWithin names xs
    → key_count k xs ≡ count_of u (map (name_of names) xs)
counts_same u names k [] d n w = refl
counts_same u names k (x ∷ xs) d n w =
    let e = use_is_key u names k x d n (λ j q. w 0 j q) in
    let t = counts_same u names k xs d n (λ c j q. w (suc c) j q) in
    λ i. cond (sym e i) 1 0 + t i

pub counts_none : (u : Use) (names : List Use) (xs : List (Option ℕ)) → is_named u names ≡ false → 0 ≡ count_of u (map (name_of names) xs)
counts_none u names [] h = refl
counts_none u names (x ∷ xs) h =
    let e = no_use_is u names x h in
    let t = counts_none u names xs h in
    t ∙ sym (ap (λ b. cond b 1 0 + count_of u (map (name_of names) xs)) e ∙ omega arith)

pub firsts_same : (u : Use) (names : List Use) (k : ℕ) (xs : List (Option ℕ)) → AreOnce names → number_of u names ≡ Some k → AllWithin names xs
    → key_first k xs ≡ first_of u (map (name_of names) xs)
firsts_same u names k [] d n w = refl
firsts_same u names k (x ∷ xs) d n w =
    let e = use_is_key u names k x d n (λ j q. w 0 j q) in
    let t = firsts_same u names k xs d n (λ c j q. w (suc c) j q) in
    λ i. cond (sym e i) (Some 0) (option_map suc (t i))

pub firsts_none : (u : Use) (names : List Use) (xs : List (Option ℕ)) → is_named u names ≡ false → None ≡ first_of u (map (name_of names) xs)
firsts_none u names [] h = refl
firsts_none u names (x ∷ xs) h =
    let e = no_use_is u names x h in
    let t = firsts_none u names xs h in
    ap (option_map suc) t ∙ sym (ap (λ b. cond b (Some 0) (option_map suc (first_of u (map (name_of names) xs)))) e)

pub named_none : (u : Use) (vs : List Use) → number_of u vs ≡ None → is_named u vs ≡ false
named_none u [] n = refl
named_none u (w ∷ ws) n = by_test (same_use u w) (λ p. named_none u ws p) n
  where
    some_first : (k : ℕ) → Some k ≡ None → ⊥
    some_first k h = cc

    none_of : (o : Option ℕ) → option_map suc o ≡ None → o ≡ None
    none_of None h = refl
    none_of (Some j) h = absurd (apart (suc j) (sym h))

    by_test : (t : Bool) → (number_of u ws ≡ None → is_named u ws ≡ false) → cond t (Some 0) (option_map suc (number_of u ws)) ≡ None → (t || is_named u ws) ≡ false
    by_test true ih n = absurd (some_first 0 n)
    by_test false ih n = ih (none_of (number_of u ws) n)

-- the map of cells after a write
map_set : {A B : Type 0} (f : A → B) (xs : List A) (i : ℕ) (y : A) → map f (set xs i y) ≡ set (map f xs) i (f y)
map_set f [] i y = refl
map_set f (x ∷ xs) zero y = refl
map_set f (x ∷ xs) (suc i) y = ap (λ ys. f x ∷ ys) (map_set f xs i y)

-- what is stored, and what contracts see of it
pub record AreHeld (names : List Use) (s : Keys) (v : UseCells) : Type 0 where
  pub is : AreNamed names s
  pub seen : uses_named names s ≡ v

module _ (names : List Use) (s : Keys) (v : UseCells) (held : AreHeld names s v) where
  names_same : names ≡ v.names
  names_same = ap (λ (r : UseCells). r.names) held.seen

  cells_same : map (name_of names) s.cells ≡ v.cells
  cells_same = ap (λ (r : UseCells). r.cells) held.seen

  pub cell_in : (c : ℕ) → c < length v.cells → c < length s.cells
  cell_in c h = omega (arith, h, ap length cells_same, length-map s.cells (name_of names))

  pub number_in : (u : Use) (k : ℕ) → Some k ≡ number_of u names → k < s.count
  number_in u k n = omega (arith, number_within u names k (sym n), held.is.count)

  pub number_there : (u : Use) → None ≡ number_of u names → is_named u v.names ≡ true → ⊥
  number_there u n h = true≢false (sym h ∙ ap (is_named u) (sym names_same) ∙ named_none u names (sym n))

  pub key_free : (c : ℕ) → cell_at v c ≡ None → key_at s c ≡ None
  key_free c h = by (key_at s c) refl
    where
      at : name_of names (key_at s c) ≡ None
      at = sym (get_or-map (name_of names) s.cells c None) ∙ ap (λ xs. get_or xs c None) cells_same ∙ h

      by : (o : Option ℕ) → key_at s c ≡ o → key_at s c ≡ None
      by None e = e
      by (Some k) e =
          let n = name_within names k (held.is.within c k e) in
          absurd (apart n.0 (sym at ∙ ap (name_of names) e ∙ n.1))

  pub set_held : (c k : ℕ) (u : Use) (s' : Keys) → c < length v.cells → Some k ≡ number_of u names → s' ≡ with_key s c (Some k) → AreHeld names s' (with_use v c (Some u))
  set_held c k u s' lt n f = record {
    is = record {
      once = held.is.once;
      count = ap (λ (r : Keys). r.count) f ∙ held.is.count;
      within = λ b j e. by_test b j (eqb b c) refl (sym (ap (λ (r : Keys). key_at r b) f) ∙ e);
    };
    seen = λ i. record {
      names = names_same i;
      cells = (ap (λ (r : Keys). map (name_of names) r.cells) f ∙ map_set (name_of names) s.cells c (Some k) ∙ (λ j. set (cells_same j) c (name_of_number u names k (sym n) j))) i;
    };
  }
    where
      by_test : (b j : ℕ) (t : Bool) → eqb b c ≡ t → get_or (set s.cells c (Some k)) b None ≡ Some j → j < length names
      by_test b j true q e =
          let z : k ≡ j = same_Some _ _ (sym (get_or-set_same s.cells c (Some k) None (cell_in c lt)) ∙ ap (λ x. get_or (set s.cells c (Some k)) x None) (sym (eqb-true b c q)) ∙ e) in
          omega (arith, z, number_within u names k (sym n))
      by_test b j false q e = held.is.within b j (sym (get_or-set_other s.cells c b (Some k) None (eqb-false b c q)) ∙ e)

  pub clear_held : (c : ℕ) (s' : Keys) → c < length v.cells → s' ≡ with_key s c None → AreHeld names s' (with_use v c None)
  clear_held c s' lt f = record {
    is = record {
      once = held.is.once;
      count = ap (λ (r : Keys). r.count) f ∙ held.is.count;
      within = λ b j e. by_test b j (eqb b c) refl (sym (ap (λ (r : Keys). key_at r b) f) ∙ e);
    };
    seen = λ i. record {
      names = names_same i;
      cells = (ap (λ (r : Keys). map (name_of names) r.cells) f ∙ map_set (name_of names) s.cells c None ∙ ap (λ xs. set xs c None) cells_same) i;
    };
  }
    where
      by_test : (b j : ℕ) (t : Bool) → eqb b c ≡ t → get_or (set s.cells c None) b None ≡ Some j → j < length names
      by_test b j true q e =
          absurd (apart j (sym (get_or-set_same s.cells c None None (cell_in c lt)) ∙ ap (λ x. get_or (set s.cells c None) x None) (sym (eqb-true b c q)) ∙ e))
      by_test b j false q e = held.is.within b j (sym (get_or-set_other s.cells c b None None (eqb-false b c q)) ∙ e)

  pub move_held : (c d : ℕ) (s' : Keys) → c < length v.cells → d < length v.cells → s' ≡ keys_moved s c d → AreHeld names s' (with_moved v c d)
  move_held c d s' ltc ltd f = record {
    is = record {
      once = held.is.once;
      count = ap (λ (r : Keys). r.count) f ∙ held.is.count;
      within = λ b j e. by_test b j (eqb b c) refl (sym (ap (λ (r : Keys). key_at r b) f) ∙ e);
    };
    seen = λ i. record {
      names = names_same i;
      cells = (ap (λ (r : Keys). map (name_of names) r.cells) f ∙ map_set (name_of names) (set s.cells d (key_at s c)) c None
          ∙ ap (λ xs. set xs c None) (map_set (name_of names) s.cells d (key_at s c))
          ∙ (λ j. set (set (cells_same j) d ((sym (get_or-map (name_of names) s.cells c None) ∙ ap (λ xs. get_or xs c None) cells_same) j)) c None)) i;
    };
  }
    where
      ltc' : c < length (set s.cells d (key_at s c))
      ltc' = omega (arith, cell_in c ltc, length-set s.cells d (key_at s c))

      by_other : (b j : ℕ) (t : Bool) → eqb b d ≡ t → get_or (set s.cells d (key_at s c)) b None ≡ Some j → j < length names
      by_other b j true q e =
          held.is.within c j (sym (get_or-set_same s.cells d (key_at s c) None (cell_in d ltd)) ∙ ap (λ x. get_or (set s.cells d (key_at s c)) x None) (sym (eqb-true b d q)) ∙ e)
      by_other b j false q e = held.is.within b j (sym (get_or-set_other s.cells d b (key_at s c) None (eqb-false b d q)) ∙ e)

      by_test : (b j : ℕ) (t : Bool) → eqb b c ≡ t → get_or (set (set s.cells d (key_at s c)) c None) b None ≡ Some j → j < length names
      by_test b j true q e =
          absurd (apart j (sym (get_or-set_same (set s.cells d (key_at s c)) c None None ltc') ∙ ap (λ x. get_or (set (set s.cells d (key_at s c)) c None) x None) (sym (eqb-true b c q)) ∙ e))
      by_test b j false q e = by_other b j (eqb b d) refl (sym (get_or-set_other (set s.cells d (key_at s c)) c b None None (eqb-false b c q)) ∙ e)

  pub count_held : (u : Use) (k n : ℕ) → Some k ≡ number_of u names → n ≡ key_count k s.cells → n ≡ count_of u v.cells
  count_held u k n e h = h ∙ counts_same u names k s.cells held.is.once (sym e) (λ c j q. held.is.within c j q) ∙ ap (count_of u) cells_same

  pub count_not : (u : Use) → None ≡ number_of u names → 0 ≡ count_of u v.cells
  count_not u e = counts_none u names s.cells (named_none u names (sym e)) ∙ ap (count_of u) cells_same

  pub first_held : (u : Use) (k : ℕ) (o : Option ℕ) → Some k ≡ number_of u names → o ≡ key_first k s.cells → o ≡ first_of u v.cells
  first_held u k o e h = h ∙ firsts_same u names k s.cells held.is.once (sym e) (λ c j q. held.is.within c j q) ∙ ap (first_of u) cells_same

  pub first_not : (u : Use) → None ≡ number_of u names → None ≡ first_of u v.cells
  first_not u e = firsts_none u names s.cells (named_none u names (sym e)) ∙ ap (first_of u) cells_same

-- names that stand once, one more
in_more : (u v : Use) (us : List Use) → is_named u us ≡ false → same_use u v ≡ false → is_named u (us ++ v ∷ []) ≡ false
in_more u v [] h k = or_from _ _ k refl
in_more u v (w ∷ ws) h k = let p = or_parts _ _ h in or_from _ _ p.0 (in_more u v ws p.1 k)

not_same : (u v : Use) → same_use u v ≡ false → same_use v u ≡ false
not_same u v h = false_from_ne_true _ (λ t. true≢false (sym (same_use_self u) ∙ ap (λ x. same_use u x) (sym (same_use_true v u t)) ∙ h))

once_more : (u : Use) (us : List Use) → AreOnce us → is_named u us ≡ false → AreOnce (us ++ u ∷ [])
once_more u [] d h = (refl, tt)
once_more u (w ∷ ws) d h = let p = or_parts _ _ h in (in_more w u ws d.0 (not_same u w p.0), once_more u ws d.1 p.1)

pub once_with : (u : Use) (us : List Use) → AreOnce us → AreOnce (with_name u us)
once_with u us d = by_test (is_named u us) refl
  where
    by_test : (t : Bool) → is_named u us ≡ t → AreOnce (cond t us (us ++ u ∷ []))
    by_test true e = d
    by_test false e = once_more u us d e

none-held : (names : List Use) (n : ℕ) → map (name_of names) (replicate n None) ≡ replicate n None
none-held names zero = refl
none-held names (suc n) = ap (λ xs. None ∷ xs) (none-held names n)

none-key : (n c k : ℕ) → get_or {A = Option ℕ} (replicate n None) c None ≡ Some k → ⊥
none-key zero c k h = apart k h
none-key (suc n) zero k h = apart k h
none-key (suc n) (suc c) k h = none-key n c k h

pub new_held : (names : List Use) (s : Keys) (n m : ℕ) → AreOnce names → n ≡ length names → s ≡ no_keys n m → AreHeld names s (no_uses names m)
new_held names s n m d e f = record {
  is = record {
    once = d;
    count = ap (λ (r : Keys). r.count) f ∙ e;
    within = λ c k h. absurd (none-key m c k (sym (ap (λ (r : Keys). key_at r c) f) ∙ h));
  };
  seen = λ i. record { names = names; cells = (ap (λ (r : Keys). map (name_of names) r.cells) f ∙ none-held names m) i };
}

-- a use is another where the code finds them equal
pub same_test : (u v : Use) → eq-value.it u v ≡ same_use u v
same_test u v = by u.home.node v.home.node u.home.region v.home.region u.of v.of
  where
    by : (o p : Option ℕ) (r s : ℕ) (a b : Origin)
        → eq-value.it (record { home = record { node = o; region = r }; of = a }) (record { home = record { node = p; region = s }; of = b }) ≡ ((same_node o p && eqb r s) && same_origin a b)
    by None None r s (Arg j) (Arg k) = refl
    by None None r s (Arg j) (Out m q) = refl
    by None None r s (Out n j) (Arg k) = refl
    by None None r s (Out n j) (Out m q) = refl
    by None (Some y) r s (Arg j) (Arg k) = refl
    by None (Some y) r s (Arg j) (Out m q) = refl
    by None (Some y) r s (Out n j) (Arg k) = refl
    by None (Some y) r s (Out n j) (Out m q) = refl
    by (Some x) None r s (Arg j) (Arg k) = refl
    by (Some x) None r s (Arg j) (Out m q) = refl
    by (Some x) None r s (Out n j) (Arg k) = refl
    by (Some x) None r s (Out n j) (Out m q) = refl
    by (Some x) (Some y) r s (Arg j) (Arg k) = refl
    by (Some x) (Some y) r s (Arg j) (Out m q) = refl
    by (Some x) (Some y) r s (Out n j) (Arg k) = refl
    by (Some x) (Some y) r s (Out n j) (Out m q) = refl

add_zero : (o : Option ℕ) → option_map (λ n. n + 0) o ≡ o
add_zero None = refl
add_zero (Some n) = ap Some (omega arith)

add_more : (i : ℕ) (o : Option ℕ) → option_map (λ n. n + (i + 1)) o ≡ option_map (λ n. n + i) (option_map suc o)
add_more i None = refl
add_more i (Some n) = ap Some (omega arith)

number_from : (u : Use) (i : ℕ) (vs : List Use) → position_from (eq-value.it u) i vs ≡ option_map (λ n. n + i) (number_of u vs)
number_from u i [] = refl
number_from u i (v ∷ vs) =
    ap (λ b. cond b (Some i) (position_from (eq-value.it u) (i + 1) vs)) (same_test u v) ∙ by_test (same_use u v) (number_from u (i + 1) vs)
  where
    by_test : (t : Bool) → position_from (eq-value.it u) (i + 1) vs ≡ option_map (λ n. n + (i + 1)) (number_of u vs)
        → cond t (Some i) (position_from (eq-value.it u) (i + 1) vs) ≡ option_map (λ n. n + i) (cond t (Some 0) (option_map suc (number_of u vs)))
    by_test true ih = ap Some (omega arith)
    by_test false ih = ih ∙ add_more i (number_of u vs)

pub position_is : (u : Use) (vs : List Use) → position (eq-value.it u) vs ≡ number_of u vs
position_is u vs = position_from-zero (eq-value.it u) vs ∙ number_from u 0 vs ∙ add_zero (number_of u vs)

pub any_is : (u : Use) (vs : List Use) → list_any (eq-value.it u) vs ≡ is_named u vs
any_is u [] = refl
any_is u (v ∷ vs) = let h = same_test u v in let r = any_is u vs in λ i. h i || r i
