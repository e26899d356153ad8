-- Lists and their cells: what stands around a list, how often a use stands in the cells, and where the first one is.
use Rattle.std.proofs.Common.{◌≡◌, ℕ, zero, suc, ◌+◌, ◌-◌, ◌<◌, ◌≤◌, Bool, true, false, ◌&&◌, ◌||◌, cond, Option, Some, None, option_map, List, [], ◌∷◌, ◌++◌, ◌⊎◌, inl, inr, length, map, replicate, get_or, set, refl, ap, sym, ◌∙◌, subst, append_assoc, length-append, arith}
use Rattle.std.specs.Prelude.{slice_get}
use Rattle.std.proofs.lemmas.Bool.{or_from}
use Rattle.std.proofs.lemmas.List.{length-map, length-replicate, get_or-replicate, get_or_append_left, get_or-append-add}
use Rattle.std.proofs.lemmas.Option.{same_Some}
use Rattle.g_graph.specs.declared.op.Origin.{Origin}
use Rattle.g_graph.specs.Scope.{same_origin}
use Rattle.g_graph.specs.WellFormed.{some_of}
use Rattle.g_arena_def.specs.declared.place.Place.{Place}
use Rattle.g_arena_def.specs.Flat.{same_place}
use Rattle.g_arena_def.specs.Reads.{times}
use Rattle.g_arena_def.specs.Edits.{first_with}
use Rattle.g_arena_use.specs.declared.use_index.Use.{Use}
use Rattle.g_arena_use.specs.UseCells.{is_use, count_of, first_of}
use Rattle.g_arena_use.specs.Lists.{use_in, uses_of, has_use, use_moved}
use Rattle.g_arena_use.specs.Sites.{PlainSite, list_seen, held, site_cells, cells_of, AreLaid, owners_from}
use Rattle.g_arena_use.proofs.NameLemmas.{apart, one_more, both}

pub picks : {A : Type 0} (b : Bool) (x y : A) → b ≡ true → cond b x y ≡ x
picks b x y e = ap (λ t. cond t x y) e

pub skips : {A : Type 0} (b : Bool) (x y : A) → b ≡ false → cond b x y ≡ y
skips b x y e = ap (λ t. cond t x y) e

pub right_false : (a b : Bool) → a ≡ true → (a && b) ≡ false → b ≡ false
right_false a b e h = ap (λ t. t && b) (sym e) ∙ h

held_length : (p : Place) (xs : List Origin) → length (held p xs) ≡ length xs
held_length p xs = length-map xs (λ o. Some (use_in p o))

pub site_length : (s : PlainSite) → length s.origins ≤ s.room → length (site_cells s) ≡ s.room
site_length s h =
    omega (arith, length-append (held s.home s.origins) (replicate (s.room - length s.origins) None), held_length s.home s.origins, length-replicate {A = Option Use} (s.room - length s.origins) None)

-- ---- what stands around a list

pub record Changed (base k : ℕ) (ss : List PlainSite) (at : ℕ) (t : PlainSite) (before after : List (Option Use)) : Type 0 where
  pub cells : cells_of (set ss at t) ≡ before ++ (site_cells t ++ after)
  pub laid : AreLaid base (set ss at t)
  pub owners : owners_from k (set ss at t) ≡ owners_from k ss

pub record Around (base k : ℕ) (ss : List PlainSite) (at : ℕ) (s : PlainSite) : Type 0 where
  pub before : List (Option Use)
  pub after : List (Option Use)
  pub start : base + length before ≡ s.cell
  pub fits : length s.origins ≤ s.room
  pub cells : cells_of ss ≡ before ++ (site_cells s ++ after)
  pub changed : (t : PlainSite) → t.cell ≡ s.cell → t.room ≡ s.room → length t.origins ≤ t.room → Changed base k ss at t before after

pub around : (base k : ℕ) (ss : List PlainSite) (at : ℕ) (s : PlainSite) → AreLaid base ss → slice_get ss at ≡ Some s → Around base k ss at s
around base k [] at s l e = absurd (apart s e)
around base k (x ∷ ss) zero s l e =
    let P : PlainSite → Type 0 = λ y. Around base k (x ∷ ss) zero y in
    subst P (same_Some x s e) (record {
      before = [];
      after = cells_of ss;
      start = omega (arith, l.0);
      fits = l.1;
      cells = refl;
      changed = λ t c r f. record {
        cells = refl;
        laid = (c ∙ l.0, f, (let Q : ℕ → Type 0 = λ n. AreLaid (base + n) ss in subst Q (sym r) l.2));
        owners = ap (λ n. replicate n k ++ owners_from (suc k) ss) r;
      };
    })
around base k (x ∷ ss) (suc at) s l e =
    let r = around (base + x.room) (suc k) ss at s l.2 e in
    record {
      before = site_cells x ++ r.before;
      after = r.after;
      start = omega (arith, length-append (site_cells x) r.before, site_length x l.1, r.start);
      fits = r.fits;
      cells = ap (λ c. site_cells x ++ c) r.cells ∙ sym (append_assoc (site_cells x) r.before (site_cells s ++ r.after));
      changed = λ t c q f. record {
        cells = ap (λ d. site_cells x ++ d) (r.changed t c q f).cells ∙ sym (append_assoc (site_cells x) r.before (site_cells t ++ r.after));
        laid = (l.0, l.1, (r.changed t c q f).laid);
        owners = ap (λ o. replicate x.room k ++ o) (r.changed t c q f).owners;
      };
    }

pub owners_length : (base k : ℕ) (ss : List PlainSite) → AreLaid base ss → length (owners_from k ss) ≡ length (cells_of ss)
owners_length base k [] l = refl
owners_length base k (s ∷ ss) l =
    omega (arith, length-append (replicate s.room k) (owners_from (suc k) ss), length-replicate s.room k, length-append (site_cells s) (cells_of ss), site_length s l.1, owners_length (base + s.room) (suc k) ss l.2)

-- ---- how often a use stands in the cells

count_append : (u : Use) (xs ys : List (Option Use)) → count_of u (xs ++ ys) ≡ count_of u xs + count_of u ys
count_append u [] ys = omega arith
count_append u (x ∷ xs) ys = omega (arith, count_append u xs ys)

count_none : (u : Use) (n : ℕ) → count_of u (replicate n None) ≡ 0
count_none u zero = refl
count_none u (suc n) = omega (arith, count_none u n)

count_held : (u : Use) (p : Place) (xs : List Origin) → count_of u (held p xs) ≡ cond (same_place u.home p) (times u.of xs) 0
count_held u p xs = by_place (same_place u.home p) refl xs
  where
    by_place : (t : Bool) → same_place u.home p ≡ t → (xs : List Origin) → count_of u (held p xs) ≡ cond t (times u.of xs) 0
    by_place true e [] = refl
    by_place true e (x ∷ xs) = let h = by_place true e xs in λ i. cond ((ap (λ b. b && same_origin u.of x) e) i) 1 0 + h i
    by_place false e [] = refl
    by_place false e (x ∷ xs) = let h = by_place false e xs in λ i. cond ((ap (λ b. b && same_origin u.of x) e) i) 1 0 + h i

pub counts : (u : Use) (ss : List PlainSite) → count_of u (cells_of ss) ≡ uses_of u (map list_seen ss)
counts u [] = refl
counts u (s ∷ ss) =
    omega (arith, count_append u (site_cells s) (cells_of ss), count_append u (held s.home s.origins) (replicate (s.room - length s.origins) None), count_none u (s.room - length s.origins), count_held u s.home s.origins, counts u ss)

-- ---- where the first use is

first_append : (u : Use) (xs ys : List (Option Use)) (r : ℕ) → first_of u (xs ++ ys) ≡ Some r
    → (first_of u xs ≡ Some r) ⊎ ((j : ℕ) × (first_of u xs ≡ None) × (first_of u ys ≡ Some j) × (r ≡ length xs + j))
first_append u [] ys r e = inr (r, refl, e, omega arith)
first_append u (x ∷ xs) ys r e = by_test (is_use u x) (λ a p. first_append u xs ys a p) r e
  where
    by_test : (t : Bool) → ((a : ℕ) → first_of u (xs ++ ys) ≡ Some a → (first_of u xs ≡ Some a) ⊎ ((j : ℕ) × (first_of u xs ≡ None) × (first_of u ys ≡ Some j) × (a ≡ length xs + j))) → (r : ℕ) → cond t (Some 0) (option_map suc (first_of u (xs ++ ys))) ≡ Some r
        → (cond t (Some 0) (option_map suc (first_of u xs)) ≡ Some r) ⊎ ((j : ℕ) × (cond t (Some 0) (option_map suc (first_of u xs)) ≡ None) × (first_of u ys ≡ Some j) × (r ≡ suc (length xs) + j))
    by_test true ih r e = inl e
    by_test false ih r e =
        let m = one_more (first_of u (xs ++ ys)) r e in
        elim (ih m.0 m.1) [
          | inl h ↦ inl (ap (option_map suc) h ∙ ap Some (sym m.2))
          | inr h ↦ inr (h.0, ap (option_map suc) h.1, h.2, omega (arith, h.3, m.2))
        ]

first_none : (u : Use) (n : ℕ) → first_of u (replicate n None) ≡ None
first_none u zero = refl
first_none u (suc n) = ap (option_map suc) (first_none u n)

record FirstHeld (u : Use) (p : Place) (xs : List Origin) (r : ℕ) : Type 0 where
  home : same_place u.home p ≡ true
  within : r < length xs
  some : some_of (same_origin u.of) xs ≡ true
  moved : (to : Origin) → first_with u.of to xs ≡ set xs r to

first_held : (u : Use) (p : Place) (xs : List Origin) (r : ℕ) → first_of u (held p xs) ≡ Some r → FirstHeld u p xs r
first_held u p [] r e = absurd (apart r e)
first_held u p (x ∷ xs) r e = by_test (same_place u.home p && same_origin u.of x) refl (λ a q. first_held u p xs a q) r e
  where
    by_test : (t : Bool) → (same_place u.home p && same_origin u.of x) ≡ t → ((a : ℕ) → first_of u (held p xs) ≡ Some a → FirstHeld u p xs a) → (r : ℕ) → cond t (Some 0) (option_map suc (first_of u (held p xs))) ≡ Some r → FirstHeld u p (x ∷ xs) r
    by_test true q ih r e =
        let b = both _ _ q in
        let P : ℕ → Type 0 = λ n. FirstHeld u p (x ∷ xs) n in
        subst P (same_Some 0 r e) (record {
          home = b.0;
          within = omega arith;
          some = ap (λ t. t || some_of (same_origin u.of) xs) b.1;
          moved = λ to. picks (same_origin u.of x) (to ∷ xs) (x ∷ first_with u.of to xs) b.1;
        })
    by_test false q ih r e =
        let m = one_more (first_of u (held p xs)) r e in
        let h = ih m.0 m.1 in
        let n = right_false (same_place u.home p) (same_origin u.of x) h.home q in
        let P : ℕ → Type 0 = λ n. FirstHeld u p (x ∷ xs) n in
        subst P (sym m.2) (record {
          home = h.home;
          within = omega (arith, h.within);
          some = ap (λ t. t || some_of (same_origin u.of) xs) n ∙ h.some;
          moved = λ to. skips (same_origin u.of x) (to ∷ xs) (x ∷ first_with u.of to xs) n ∙ ap (λ ys. x ∷ ys) (h.moved to);
        })

none_of : (o : Option ℕ) → option_map suc o ≡ None → o ≡ None
none_of None h = refl
none_of (Some j) h = absurd (apart (suc j) (sym h))

some_first : (k : ℕ) → Some k ≡ None → ⊥
some_first k h = cc

none_held : (u : Use) (p : Place) (xs : List Origin) → same_place u.home p ≡ true → first_of u (held p xs) ≡ None → some_of (same_origin u.of) xs ≡ false
none_held u p [] q e = refl
none_held u p (x ∷ xs) q e = by_test (same_origin u.of x) refl (λ h. none_held u p xs q h) (sym (ap (λ b. cond (b && same_origin u.of x) (Some 0) (option_map suc (first_of u (held p xs)))) q) ∙ e)
  where
    by_test : (t : Bool) → same_origin u.of x ≡ t → (first_of u (held p xs) ≡ None → some_of (same_origin u.of) xs ≡ false) → cond (same_origin u.of x) (Some 0) (option_map suc (first_of u (held p xs))) ≡ None
        → (same_origin u.of x || some_of (same_origin u.of) xs) ≡ false
    by_test true o ih e = absurd (some_first 0 (sym (picks (same_origin u.of x) (Some 0) (option_map suc (first_of u (held p xs))) o) ∙ e))
    by_test false o ih e = or_from _ _ o (ih (none_of _ (sym (skips (same_origin u.of x) (Some 0) (option_map suc (first_of u (held p xs))) o) ∙ e)))

held_none : (u : Use) (p : Place) (xs : List Origin) → first_of u (held p xs) ≡ None → (same_place u.home p && some_of (same_origin u.of) xs) ≡ false
held_none u p xs e = by_place (same_place u.home p) refl
  where
    by_place : (t : Bool) → same_place u.home p ≡ t → (t && some_of (same_origin u.of) xs) ≡ false
    by_place false q = refl
    by_place true q = none_held u p xs q e

grown : (u : Use) (xs ys : List (Option Use)) (j : ℕ) → first_of u xs ≡ Some j → first_of u (xs ++ ys) ≡ Some j
grown u [] ys j h = absurd (apart j h)
grown u (x ∷ xs) ys j h = by_test (is_use u x) (λ a p. grown u xs ys a p) j h
  where
    by_test : (t : Bool) → ((a : ℕ) → first_of u xs ≡ Some a → first_of u (xs ++ ys) ≡ Some a) → (j : ℕ) → cond t (Some 0) (option_map suc (first_of u xs)) ≡ Some j → cond t (Some 0) (option_map suc (first_of u (xs ++ ys))) ≡ Some j
    by_test true ih j h = h
    by_test false ih j h = let m = one_more (first_of u xs) j h in ap (option_map suc) (ih m.0 m.1) ∙ ap Some (sym m.2)

pub record FirstSite (u : Use) (to : Origin) (base k : ℕ) (ss : List PlainSite) (r : ℕ) : Type 0 where
  pub at : ℕ
  pub site : PlainSite
  pub index : ℕ
  pub there : slice_get ss at ≡ Some site
  pub owner : get_or (owners_from k ss) r 0 ≡ k + at
  pub place : base + r ≡ site.cell + index
  pub within : index < length site.origins
  pub home : same_place u.home site.home ≡ true
  pub moved : use_moved u to (map list_seen ss) ≡ map list_seen (set ss at (record site { origins = set site.origins index to }))

no_held : (u : Use) (s : PlainSite) → first_of u (site_cells s) ≡ None → first_of u (held s.home s.origins) ≡ None
no_held u s e = by (first_of u (held s.home s.origins)) refl
  where
    by : (o : Option ℕ) → first_of u (held s.home s.origins) ≡ o → first_of u (held s.home s.origins) ≡ None
    by None h = h
    by (Some j) h = absurd (apart j (sym e ∙ grown u (held s.home s.origins) (replicate (s.room - length s.origins) None) j h))

pub first_site : (u : Use) (to : Origin) (base k : ℕ) (ss : List PlainSite) (r : ℕ) → AreLaid base ss → first_of u (cells_of ss) ≡ Some r → FirstSite u to base k ss r
first_site u to base k [] r l e = absurd (apart r e)
first_site u to base k (s ∷ ss) r l e =
    elim (first_append u (site_cells s) (cells_of ss) r e) [
      | inl h ↦ elim (first_append u (held s.home s.origins) (replicate (s.room - length s.origins) None) r h) [
        | inl g ↦ here (first_held u s.home s.origins r g)
        | inr g ↦ absurd (apart g.0 (sym (first_none u (s.room - length s.origins)) ∙ g.2))
      ]
      | inr h ↦ later h.0 h.3 (held_none u s.home s.origins (no_held u s h.1)) (first_site u to (base + s.room) (suc k) ss h.0 l.2 h.2)
    ]
  where
    here : FirstHeld u s.home s.origins r → FirstSite u to base k (s ∷ ss) r
    here f =
        let lt : r < s.room = omega (arith, f.within, l.1) in
        let ltl : r < length (replicate s.room k) = omega (arith, lt, length-replicate s.room k) in
        record {
          at = 0;
          site = s;
          index = r;
          there = refl;
          owner = get_or_append_left (replicate s.room k) (owners_from (suc k) ss) 0 r ltl ∙ get_or-replicate s.room r k 0 lt ∙ (omega arith);
          place = omega (arith, l.0);
          within = f.within;
          home = f.home;
          moved =
              picks (has_use u (list_seen s)) (record (list_seen s) { origins = first_with u.of to s.origins } ∷ map list_seen ss) (list_seen s ∷ use_moved u to (map list_seen ss)) ((λ i. f.home i && f.some i))
              ∙ ap (λ (xs : List Origin). record { home = s.home; origins = xs } ∷ map list_seen ss) (f.moved to);
        }

    later : (j : ℕ) → r ≡ length (site_cells s) + j → has_use u (list_seen s) ≡ false → FirstSite u to (base + s.room) (suc k) ss j → FirstSite u to base k (s ∷ ss) r
    later j q n f =
        let long = site_length s l.1 in
        let z : r ≡ length (replicate s.room k) + j = omega (arith, q, long, length-replicate s.room k) in
        record {
          at = suc f.at;
          site = f.site;
          index = f.index;
          there = f.there;
          owner = ap (λ n. get_or (replicate s.room k ++ owners_from (suc k) ss) n 0) z ∙ get_or-append-add (replicate s.room k) (owners_from (suc k) ss) j 0 ∙ f.owner ∙ (omega arith);
          place = omega (arith, q, long, f.place);
          within = f.within;
          home = f.home;
          moved =
              skips (has_use u (list_seen s)) (record (list_seen s) { origins = first_with u.of to s.origins } ∷ map list_seen ss) (list_seen s ∷ use_moved u to (map list_seen ss)) n
              ∙ ap (λ ls. list_seen s ∷ ls) f.moved;
        }

-- ---- where no cell holds a use, none moves

none_left : (u : Use) (xs ys : List (Option Use)) → first_of u (xs ++ ys) ≡ None → first_of u xs ≡ None
none_left u xs ys e = by (first_of u xs) refl
  where
    by : (o : Option ℕ) → first_of u xs ≡ o → first_of u xs ≡ None
    by None h = h
    by (Some j) h = absurd (apart j (sym e ∙ grown u xs ys j h))

none_right : (u : Use) (xs ys : List (Option Use)) → first_of u (xs ++ ys) ≡ None → first_of u ys ≡ None
none_right u [] ys e = e
none_right u (x ∷ xs) ys e = by_test (is_use u x) (λ h. none_right u xs ys h) e
  where
    by_test : (t : Bool) → (first_of u (xs ++ ys) ≡ None → first_of u ys ≡ None) → cond t (Some 0) (option_map suc (first_of u (xs ++ ys))) ≡ None → first_of u ys ≡ None
    by_test true ih e = absurd (some_first 0 e)
    by_test false ih e = ih (none_of (first_of u (xs ++ ys)) e)

pub none_moved : (u : Use) (to : Origin) (ss : List PlainSite) → first_of u (cells_of ss) ≡ None → use_moved u to (map list_seen ss) ≡ map list_seen ss
none_moved u to [] e = refl
none_moved u to (s ∷ ss) e =
    let n = held_none u s.home s.origins (no_held u s (none_left u (site_cells s) (cells_of ss) e)) in
    skips (has_use u (list_seen s)) (record (list_seen s) { origins = first_with u.of to s.origins } ∷ map list_seen ss) (list_seen s ∷ use_moved u to (map list_seen ss)) n
    ∙ ap (λ ls. list_seen s ∷ ls) (none_moved u to ss (none_right u (site_cells s) (cells_of ss) e))
