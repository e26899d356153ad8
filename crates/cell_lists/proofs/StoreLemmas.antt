-- What is stored once a cell has come to a list, or has gone from one.
use Rattle.std.proofs.Common.{◌≡◌, ◌≢◌, ℕ, zero, suc, ◌+◌, ◌-◌, ◌<◌, ◌≤◌, true, false, eqb, Option, Some, None, List, [], ◌∷◌, ◌++◌, length, map, replicate, refl, ap, sym, ◌∙◌, subst, inl, inr, arith, length-append, append-nil}
use Rattle.std.specs.Prelude.{slice_get, slice_set, slice_index_or}
use Rattle.std.specs.Option.{option_or, option_map}
use Rattle.std.proofs.lemmas.Bool.{eqb-true, or_parts, or_cases, or_left, or_right, true≢false, cases_eq, false_from_ne_true}
use Rattle.std.proofs.lemmas.List.{length-set, length-map, length-replicate, get_or_past}
use Rattle.std.proofs.lemmas.Option.{same_Some, get_or_from_slice_get, slice_get-get_or, slice_get-map, slice_get_within, slice_get_cases, slice_get_read}
use Rattle.std.proofs.lemmas.List.Folds.{list_any-append}
use Rattle.cell_lists.specs.declared.links.Link.{Link}
use Rattle.cell_lists.specs.declared.links.Ends.{Ends}
use Rattle.cell_lists.specs.Lists.{AreDistinct, Lists, no_cells, is_in, list_at, first_or, last_or, before_in, after_in, without, fall, falls, IsFree, IsListed, pushed, removed, replaced, other_for}
use Rattle.cell_lists.specs.Linked.{no_link, IsCell, after_set, before_set, end_without, with_last, without_cell, with_other, Linked, cells_of, ends_of, IsLinked, AreLinked, lists_seen}
use Rattle.cell_lists.proofs.ListLemmas.{slice_get-set_same, slice_get-set_other, PartsAt, parts_at, without-outside, last_or-append, last_of_in, first_of_in, distinct_parts, distinct_apart, distinct_pushed, distinct_without, distinct_replaced, others-outside, others-at, falls-append, falls_behind, falls-first, falls-le, falls-lt, length_distinct, map_set_at}
use Rattle.cell_lists.proofs.LinkLemmas.{outside, outside-after, outside-before, ended, begun, joined, front, back, owned, walked}

-- a list that is linked is seen, and stored, as it is
pub seen_as : (links : List Link) (k : ℕ) (e : Ends) (xs : List ℕ) → e ≡ ends_of xs → Linked links k None None xs → cells_of links e ≡ xs
seen_as links k e xs h l = rw h (walked links k None xs l)

pub stored_as : (links : List Link) (k : ℕ) (e : Ends) (xs : List ℕ) → e ≡ ends_of xs → Linked links k None None xs → AreDistinct xs → IsLinked links k e
stored_as links k e xs h l d =
    let s = sym (seen_as links k e xs h l) in
    let P : List ℕ → Type 0 = λ ys. Linked links k None None ys in
    record { linked = subst P s l; ends = h ∙ ap ends_of s; distinct = subst AreDistinct s d }

-- a list whose links stand elsewhere too
pub record IsKept (links links' : List Link) (k : ℕ) (e : Ends) : Type 0 where
  pub linked : IsLinked links' k e
  pub seen : cells_of links' e ≡ cells_of links e

pub kept : (links links' : List Link) (k : ℕ) (e : Ends) → IsLinked links k e → Linked links' k None None (cells_of links e) → IsKept links links' k e
kept links links' k e h l = record {
  linked = stored_as links' k e (cells_of links e) h.ends l h.distinct;
  seen = seen_as links' k e (cells_of links e) h.ends l;
}

-- the link of a cell names a list
pub record Names (links : List Link) (c k : ℕ) : Type 0 where
  pub link : Link
  pub at : slice_get links c ≡ Some link
  pub list : link.list ≡ k

pub names : (links : List Link) (k : ℕ) (e : Ends) (c : ℕ) → IsLinked links k e → is_in c (cells_of links e) ≡ true → Names links c k
names links k e c h i =
    let p = owned links k None None (cells_of links e) c h.linked i in
    record { link = p.0; at = p.1; list = p.2 }

-- so it is outside each other list
pub apart : (links : List Link) (j k : ℕ) (e : Ends) (c : ℕ) → IsLinked links j e → Names links c k → j ≢ k → is_in c (cells_of links e) ≡ false
apart links j k e c h n ne =
    false_from_ne_true _ (λ t.
    let m = names links j e c h t in
    ne (sym m.list ∙ ap (λ (r : Link). r.list) (same_Some m.link n.link (sym m.at ∙ n.at)) ∙ n.list))

-- the list of a number is that which its ends and the links show
pub seen_at : (links : List Link) (lists : List Ends) (k : ℕ) (e : Ends) → slice_get lists k ≡ Some e → list_at (lists_seen links lists) k ≡ cells_of links e
seen_at links lists k e h =
    get_or_from_slice_get (map (cells_of links) lists) k (cells_of links e) []
    (slice_get-map (cells_of links) lists k ∙ ap (option_map (cells_of links)) h)

length-after : (links : List Link) (o to : Option ℕ) → length (after_set links o to) ≡ length links
length-after links None to = refl
length-after links (Some x) to = length-set links x _

length-before : (links : List Link) (o to : Option ℕ) → length (before_set links o to) ≡ length links
length-before links None to = refl
length-before links (Some x) to = length-set links x _

seen_same : (n m : ℕ) (xs ys : List (List ℕ)) → n ≡ m → xs ≡ ys → let a : Lists = record { cells = n; lists = xs } in let b : Lists = record { cells = m; lists = ys } in a ≡ b
seen_same n m xs ys p q = λ i. record { cells = p i; lists = q i }

-- a list to which a cell is added
with_last-of : (xs : List ℕ) (c : ℕ) → with_last (ends_of xs) c ≡ ends_of (xs ++ c ∷ [])
with_last-of xs c =
    let f = first_is xs in
    let l = last_or-append None xs (c ∷ []) in
    let n : length xs + 1 ≡ length (xs ++ c ∷ []) = omega (arith, length-append xs (c ∷ [])) in
    let m : falls None xs + fall (last_or None xs) (Some c) ≡ falls None (xs ++ c ∷ []) = omega (arith, falls-append None xs (c ∷ [])) in
    λ i. record { first = f i; last = sym l i; len = n i; falls = m i }
  where
    first_is : (ys : List ℕ) → option_or (first_or None ys) (Some c) ≡ first_or None (ys ++ c ∷ [])
    first_is [] = refl
    first_is (y ∷ ys) = refl

abbrev pub pushed_links : List Link → ℕ → Ends → ℕ → List Link
pushed_links links k e c = slice_set (after_set links e.last (Some c)) c (record { list = k; before = e.last; after = None })

abbrev pub IsPushed : List Link → ℕ → Ends → ℕ → Type 0
IsPushed links k e c =
    IsLinked (pushed_links links k e c) k (with_last e c) × (cells_of (pushed_links links k e c) (with_last e c) ≡ cells_of links e ++ c ∷ [])

pushed_here : (links : List Link) (k : ℕ) (e : Ends) (c : ℕ) → IsLinked links k e → is_in c (cells_of links e) ≡ false → c < length links → IsPushed links k e c
pushed_here links k e c h free within =
    let xs = cells_of links e in
    let l = ap (λ (r : Ends). r.last) h.ends in
    let p : Linked (after_set links e.last (Some c)) k None (Some c) xs =
    let P : Option ℕ → Type 0 = λ o. Linked (after_set links o (Some c)) k None (Some c) xs in
    subst P (sym l) (ended links k None None (Some c) xs h.distinct h.linked) in
    let inside : c < length (after_set links e.last (Some c)) = omega (arith, length-after links e.last (Some c)) in
    let here = slice_get-set_same (after_set links e.last (Some c)) c (record { list = k; before = e.last; after = None }) _ (slice_get-get_or _ c no_link inside) in
    let P : Option ℕ → Type 0 = λ o. slice_get (pushed_links links k e c) c ≡ Some (record { list = k; before = o; after = None }) in
    let q = joined (pushed_links links k e c) k None None xs (c ∷ [])
    (outside _ k None (Some c) xs c _ free p)
    (subst P l here, tt) in
    let s = ap (λ r. with_last r c) h.ends ∙ with_last-of xs c in
    (stored_as _ k _ (xs ++ c ∷ []) s q (distinct_pushed xs c h.distinct free), seen_as _ k _ (xs ++ c ∷ []) s q)

pushed_there : (links : List Link) (j k : ℕ) (f e : Ends) (c : ℕ) → IsLinked links j f → IsLinked links k e → j ≢ k → is_in c (cells_of links f) ≡ false → IsKept links (pushed_links links k e c) j f
pushed_there links j k f e c hf he ne free =
    let xs = cells_of links f in
    kept links (pushed_links links k e c) j f hf
    (outside _ j None None xs c _ free
    (outside-after links j None None xs e.last (Some c)
    (λ x q. apart links j k f x hf (names links k e x he (last_of_in x (cells_of links e) (sym (ap (λ (r : Ends). r.last) he.ends) ∙ q))) ne)
    hf.linked))

pub pushed_linked : (links : List Link) (lists : List Ends) (k : ℕ) (e : Ends) (c : ℕ) → AreLinked links lists → slice_get lists k ≡ Some e → c < length links → IsFree c (lists_seen links lists) →
    AreLinked (pushed_links links k e c) (slice_set lists k (with_last e c))
pushed_linked links lists k e c h at within free j f p =
    elim (cases_eq j k) [
      | inl q ↦
          let r : with_last e c ≡ f =
          same_Some _ _ (sym (slice_get-set_same lists k (with_last e c) e at) ∙ ap (slice_get (slice_set lists k (with_last e c))) (sym q) ∙ p) in
          let P : ℕ → Type 0 = λ n. IsLinked (pushed_links links k e c) n f in
          let Q : Ends → Type 0 = λ x. IsLinked (pushed_links links k e c) k x in
          subst P (sym q) (subst Q r (pushed_here links k e c (h k e at) (sym (ap (is_in c) (seen_at links lists k e at)) ∙ free k) within).0)
      | inr ne ↦
          let at' = sym (slice_get-set_other lists k j (with_last e c) ne) ∙ p in
          (pushed_there links j k f e c (h j f at') (h k e at) ne (sym (ap (is_in c) (seen_at links lists j f at')) ∙ free j)).linked
    ]

pub pushed_seen : (links : List Link) (lists : List Ends) (k : ℕ) (e : Ends) (c : ℕ) → AreLinked links lists → slice_get lists k ≡ Some e → c < length links → IsFree c (lists_seen links lists) →
    lists_seen (pushed_links links k e c) (slice_set lists k (with_last e c)) ≡ pushed (lists_seen links lists) k c
pushed_seen links lists k e c h at within free =
    let here = (pushed_here links k e c (h k e at) (sym (ap (is_in c) (seen_at links lists k e at)) ∙ free k) within).1 in
    let now = seen_at links lists k e at in
    let same = here ∙ ap (λ ys. ys ++ c ∷ []) (sym now) in
    seen_same _ _ _ _
    (length-set (after_set links e.last (Some c)) c _ ∙ length-after links e.last (Some c))
    (map_set_at (cells_of (pushed_links links k e c)) (cells_of links) lists k (with_last e c) _ same
    (λ j f ne at'.
    (pushed_there links j k f e c (h j f at') (h k e at) ne (sym (ap (is_in c) (seen_at links lists j f at')) ∙ free j)).seen))

-- a list from which a cell goes
last_some : (x : ℕ) (xs : List ℕ) → (y : ℕ) × (last_or (Some x) xs ≡ Some y)
last_some x [] = (x, refl)
last_some x (y ∷ ys) = last_some y ys

abbrev link_between : ℕ → (xs ys : List ℕ) → Link
link_between k xs ys = record { list = k; before = last_or None xs; after = first_or None ys }

first_without : (c : ℕ) (xs ys : List ℕ) → end_without (first_or None (xs ++ c ∷ ys)) (last_or None xs) (first_or None ys) ≡ first_or None (xs ++ ys)
first_without c [] ys = refl
first_without c (x ∷ xs) ys = let p = last_some x xs in rw p.1 refl

last_without : (c : ℕ) (xs ys : List ℕ) → end_without (last_or None (xs ++ c ∷ ys)) (first_or None ys) (last_or None xs) ≡ last_or None (xs ++ ys)
last_without c xs [] = sym (ap (last_or None) (append-nil xs))
last_without c xs (y ∷ ys) = last_or-append None xs (c ∷ y ∷ ys) ∙ sym (last_or-append None xs (y ∷ ys))

-- the falls at a cell, and without it
pub falls-at : (c : ℕ) (xs ys : List ℕ) → falls None (xs ++ c ∷ ys) ≡ falls None xs + (fall (last_or None xs) (Some c) + (fall (Some c) (first_or None ys) + falls_behind ys))
falls-at c xs ys =
    omega (arith, falls-append None xs (c ∷ ys), falls-first (Some c) ys)

falls-without : (xs ys : List ℕ) → falls None (xs ++ ys) ≡ falls None xs + (fall (last_or None xs) (first_or None ys) + falls_behind ys)
falls-without xs ys = omega (arith, falls-append None xs ys, falls-first (last_or None xs) ys)

without_cell-of : (k c : ℕ) (xs ys : List ℕ) → without_cell (ends_of (xs ++ c ∷ ys)) c (link_between k xs ys) ≡ ends_of (xs ++ ys)
without_cell-of k c xs ys =
    let f = first_without c xs ys in
    let l = last_without c xs ys in
    let n : length (xs ++ c ∷ ys) - 1 ≡ length (xs ++ ys) = omega (arith, length-append xs (c ∷ ys), length-append xs ys) in
    let m : falls None (xs ++ c ∷ ys) - fall (last_or None xs) (Some c) - fall (Some c) (first_or None ys) + fall (last_or None xs) (first_or None ys) ≡ falls None (xs ++ ys) =
    omega (arith, falls-at c xs ys, falls-without xs ys) in
    λ i. record { first = f i; last = l i; len = n i; falls = m i }

abbrev pub removed_links : List Link → Link → List Link
removed_links links link = before_set (after_set links link.before link.after) link.after link.before

cut : (links : List Link) (k c : ℕ) (xs ys : List ℕ) → Linked links k None None (xs ++ c ∷ ys) → AreDistinct (xs ++ c ∷ ys) → Linked (removed_links links (link_between k xs ys)) k None None (xs ++ ys)
cut links k c xs ys l d =
    let b = last_or None xs in
    let a = first_or None ys in
    let ds = distinct_parts xs (c ∷ ys) d in
    let fr = front links k None None xs (c ∷ ys) l in
    let bk = back links k None None xs (c ∷ ys) l in
    joined (removed_links links (link_between k xs ys)) k None None xs ys
    (outside-before (after_set links b a) k None a xs a b
    (λ x q. false_from_ne_true _ (λ t.
    true≢false (sym (first_of_in x ys q) ∙ (or_parts _ _ (distinct_apart x xs (c ∷ ys) d t)).1)))
    (ended links k None (Some c) a xs ds.0 fr))
    (begun (after_set links b a) k (Some c) b None ys ds.1.1
    (outside-after links k (Some c) None ys b a
    (λ x q. (or_parts _ _ (distinct_apart x xs (c ∷ ys) d (last_of_in x xs q))).1)
    bk.1))

-- a cell in a list: where it stands, and its link
pub record Stands (links : List Link) (k : ℕ) (e : Ends) (c : ℕ) (link : Link) : Type 0 where
  pub parts : PartsAt c (cells_of links e)
  pub ends : e ≡ ends_of (parts.front ++ c ∷ parts.back)
  pub neighbours : link ≡ link_between k parts.front parts.back
  pub linked : Linked links k None None (parts.front ++ c ∷ parts.back)
  pub distinct : AreDistinct (parts.front ++ c ∷ parts.back)

pub stands : (links : List Link) (k : ℕ) (e : Ends) (c : ℕ) (link : Link) → IsLinked links k e → is_in c (cells_of links e) ≡ true → slice_get links c ≡ Some link → Stands links k e c link
stands links k e c link h i at =
    let p = parts_at c (cells_of links e) i in
    let P : List ℕ → Type 0 = λ ys. Linked links k None None ys in
    let l = subst P p.is h.linked in
    record {
      parts = p;
      ends = h.ends ∙ ap ends_of p.is;
      neighbours = same_Some _ _ (sym at ∙ (back links k None None p.front (c ∷ p.back) l).0);
      linked = l;
      distinct = subst AreDistinct p.is h.distinct;
    }

abbrev pub IsRemoved : List Link → ℕ → Ends → ℕ → Link → Type 0
IsRemoved links k e c link =
    IsLinked (removed_links links link) k (without_cell e c link) × (cells_of (removed_links links link) (without_cell e c link) ≡ without c (cells_of links e))

removed_here : (links : List Link) (k : ℕ) (e : Ends) (c : ℕ) (link : Link) → Stands links k e c link → IsRemoved links k e c link
removed_here links k e c link s =
    let xs = s.parts.front in
    let ys = s.parts.back in
    let P : Link → Type 0 = λ r. Linked (removed_links links r) k None None (xs ++ ys) in
    let l = subst P (sym s.neighbours) (cut links k c xs ys s.linked s.distinct) in
    let q = ap (λ r. without_cell r c link) s.ends ∙ ap (without_cell (ends_of (xs ++ c ∷ ys)) c) s.neighbours ∙ without_cell-of k c xs ys in
    (stored_as _ k _ (xs ++ ys) q l (distinct_without xs ys c s.distinct), seen_as _ k _ (xs ++ ys) q l ∙ sym s.parts.rest)

-- the neighbours of a cell are in its list
before_in_list : (links : List Link) (k : ℕ) (e : Ends) (c : ℕ) (link : Link) → Stands links k e c link → (x : ℕ) → link.before ≡ Some x → is_in x (cells_of links e) ≡ true
before_in_list links k e c link s x q =
    let h = last_of_in x s.parts.front (sym (ap (λ (r : Link). r.before) s.neighbours) ∙ q) in
    ap (is_in x) s.parts.is ∙ in_front x s.parts.front (c ∷ s.parts.back) h
  where
    in_front : (x : ℕ) (xs ys : List ℕ) → is_in x xs ≡ true → is_in x (xs ++ ys) ≡ true
    in_front x xs ys h = list_any-append (λ y. eqb x y) xs ys ∙ or_left _ _ h

after_in_list : (links : List Link) (k : ℕ) (e : Ends) (c : ℕ) (link : Link) → Stands links k e c link → (x : ℕ) → link.after ≡ Some x → is_in x (cells_of links e) ≡ true
after_in_list links k e c link s x q =
    let h = first_of_in x s.parts.back (sym (ap (λ (r : Link). r.after) s.neighbours) ∙ q) in
    ap (is_in x) s.parts.is ∙ list_any-append (λ y. eqb x y) s.parts.front (c ∷ s.parts.back) ∙ or_right _ _ (or_right _ _ h)

removed_there : (links : List Link) (j k : ℕ) (f e : Ends) (c : ℕ) (link : Link) → IsLinked links j f → IsLinked links k e → j ≢ k → Stands links k e c link →
    IsKept links (removed_links links link) j f
removed_there links j k f e c link hf he ne s =
    let xs = cells_of links f in
    kept links (removed_links links link) j f hf
    (outside-before (after_set links link.before link.after) j None None xs link.after link.before
    (λ x q. apart links j k f x hf (names links k e x he (after_in_list links k e c link s x q)) ne)
    (outside-after links j None None xs link.before link.after
    (λ x q. apart links j k f x hf (names links k e x he (before_in_list links k e c link s x q)) ne)
    hf.linked))

-- a cell that is in the list of a number
pub record IsInList (links : List Link) (lists : List Ends) (c k : ℕ) : Type 0 where
  pub ends : Ends
  pub at : slice_get lists k ≡ Some ends
  pub linked : IsLinked links k ends
  pub has : is_in c (cells_of links ends) ≡ true

pub in_list : (links : List Link) (lists : List Ends) (c k : ℕ) → AreLinked links lists → is_in c (list_at (lists_seen links lists) k) ≡ true → IsInList links lists c k
in_list links lists c k h i =
    elim (slice_get_cases lists k).1 [
      | inl p ↦ record {
        ends = p.0;
        at = p.2;
        linked = h k p.0 p.2;
        has = sym (ap (is_in c) (seen_at links lists k p.0 p.2)) ∙ i;
      }
      | inr p ↦
          let none : list_at (lists_seen links lists) k ≡ [] =
          get_or_past (map (cells_of links) lists) k [] (omega (arith, length-map lists (cells_of links), p.0)) in
          absurd (true≢false (sym i ∙ ap (is_in c) none))
    ]

-- it is a cell
pub within : (links : List Link) (lists : List Ends) (c k : ℕ) → IsInList links lists c k → c < length links
within links lists c k p =
    let n = names links k p.ends c p.linked p.has in
    slice_get_within links c n.link n.at

-- and its link names the list
pub in_named : (links : List Link) (lists : List Ends) (c k : ℕ) (link : Link) → IsInList links lists c k → slice_get links c ≡ Some link → IsInList links lists c link.list
in_named links lists c k link p at =
    let n = names links k p.ends c p.linked p.has in
    let P : ℕ → Type 0 = λ j. IsInList links lists c j in
    subst P (sym n.list ∙ ap (λ (r : Link). r.list) (same_Some n.link link (sym n.at ∙ at))) p

-- a cell in its list, with what is stored of both
pub record IsStored (links : List Link) (lists : List Ends) (c : ℕ) (link : Link) (e : Ends) : Type 0 where
  pub at : slice_get lists link.list ≡ Some e
  pub linked : IsLinked links link.list e
  pub has : is_in c (cells_of links e) ≡ true
  pub stands : Stands links link.list e c link

pub stored : (links : List Link) (lists : List Ends) (c : ℕ) (link : Link) (e : Ends) → IsInList links lists c link.list → slice_get links c ≡ Some link → slice_get lists link.list ≡ Some e →
    IsStored links lists c link e
stored links lists c link e p at ends_at =
    let q = same_Some p.ends e (sym p.at ∙ ends_at) in
    let P : Ends → Type 0 = λ r. IsLinked links link.list r in
    let Q : Ends → Type 0 = λ r. is_in c (cells_of links r) ≡ true in
    let h = subst P q p.linked in
    let i = subst Q q p.has in
    record { at = ends_at; linked = h; has = i; stands = stands links link.list e c link h i at }

-- the neighbours are cells
pub before_within : (links : List Link) (lists : List Ends) (c : ℕ) (link : Link) (e : Ends) → IsStored links lists c link e → IsCell links link.before
before_within links lists c link e s = by_neighbour link.before refl
  where
    by_neighbour : (o : Option ℕ) → link.before ≡ o → IsCell links o
    by_neighbour None q = tt
    by_neighbour (Some x) q =
        let n = names links link.list e x s.linked (before_in_list links link.list e c link s.stands x q) in
        slice_get_within links x n.link n.at

pub removed_linked : (links : List Link) (lists : List Ends) (c : ℕ) (link : Link) (e : Ends) → AreLinked links lists → IsStored links lists c link e →
    AreLinked (removed_links links link) (slice_set lists link.list (without_cell e c link))
removed_linked links lists c link e h s j f p =
    elim (cases_eq j link.list) [
      | inl q ↦
          let r : without_cell e c link ≡ f =
          same_Some _ _ (sym (slice_get-set_same lists link.list (without_cell e c link) e s.at) ∙ ap (slice_get (slice_set lists link.list (without_cell e c link))) (sym q) ∙ p) in
          let P : ℕ → Type 0 = λ n. IsLinked (removed_links links link) n f in
          let Q : Ends → Type 0 = λ x. IsLinked (removed_links links link) link.list x in
          subst P (sym q) (subst Q r (removed_here links link.list e c link s.stands).0)
      | inr ne ↦
          let at' = sym (slice_get-set_other lists link.list j (without_cell e c link) ne) ∙ p in
          (removed_there links j link.list f e c link (h j f at') s.linked ne s.stands).linked
    ]

map-map : {A B C : Type 0} (g : B → C) (f : A → B) (xs : List A) → map (λ x. g (f x)) xs ≡ map g (map f xs)
map-map g f [] = refl
map-map g f (x ∷ xs) = ap (λ ys. g (f x) ∷ ys) (map-map g f xs)

set_same : {A : Type 0} (xs : List A) (i : ℕ) (x : A) → slice_get xs i ≡ Some x → slice_set xs i x ≡ xs
set_same [] i x h = refl
set_same (y ∷ ys) zero x h = ap (λ z. z ∷ ys) (sym (same_Some _ _ h))
set_same (y ∷ ys) (suc i) x h = ap (λ zs. y ∷ zs) (set_same ys i x h)

pub removed_seen : (links : List Link) (lists : List Ends) (c : ℕ) (link : Link) (e : Ends) → AreLinked links lists → IsStored links lists c link e →
    lists_seen (removed_links links link) (slice_set lists link.list (without_cell e c link)) ≡ removed (lists_seen links lists) c
removed_seen links lists c link e h s =
    let g : Ends → List ℕ = λ r. without c (cells_of links r) in
    let owner = names links link.list e c s.linked s.has in
    seen_same _ _ _ _
    (length-before (after_set links link.before link.after) link.after link.before ∙ length-after links link.before link.after)
    (map_set_at (cells_of (removed_links links link)) g lists link.list (without_cell e c link) (g e) (removed_here links link.list e c link s.stands).1
    (λ j f ne at.
    (removed_there links j link.list f e c link (h j f at) s.linked ne s.stands).seen
    ∙ sym (without-outside c (cells_of links f) (apart links j link.list f c (h j f at) owner ne)))
    ∙ set_same (map g lists) link.list (g e) (slice_get-map g lists link.list ∙ ap (option_map g) s.at)
    ∙ map-map (without c) (cells_of links) lists)

-- what a read of a list, or of a cell, gives
pub list_read : (links : List Link) (lists : List Ends) (s : Lists) (k : ℕ) (e : Ends) → lists_seen links lists ≡ s → AreLinked links lists → k < length s.lists → e ≡ slice_index_or lists k e →
    slice_get lists k ≡ Some e
list_read links lists s k e view h lt q =
    let n : k < length lists = omega (arith, length-map lists (cells_of links), ap (λ (t : Lists). length t.lists) view) in
    slice_get_read lists (length lists) k e refl n q

pub ends_read : (links : List Link) (lists : List Ends) (s : Lists) (k : ℕ) (e : Ends) → lists_seen links lists ≡ s → AreLinked links lists → k < length s.lists → e ≡ slice_index_or lists k e → e
    ≡ ends_of (list_at s k)
ends_read links lists s k e view h lt q =
    let at = list_read links lists s k e view h lt q in
    (h k e at).ends ∙ ap ends_of (sym (seen_at links lists k e at)) ∙ ap (λ (t : Lists). ends_of (list_at t k)) view

pub distinct_read : (links : List Link) (lists : List Ends) (s : Lists) (k : ℕ) (e : Ends) → lists_seen links lists ≡ s → AreLinked links lists → k < length s.lists → e ≡ slice_index_or lists k e →
    AreDistinct (list_at s k)
distinct_read links lists s k e view h lt q =
    let at = list_read links lists s k e view h lt q in
    subst AreDistinct (sym (seen_at links lists k e at) ∙ ap (λ (t : Lists). list_at t k) view) (h k e at).distinct

pub cell_in_list : (links : List Link) (lists : List Ends) (s : Lists) (c k : ℕ) → lists_seen links lists ≡ s → AreLinked links lists → is_in c (list_at s k) ≡ true → IsInList links lists c k
cell_in_list links lists s c k view h i = in_list links lists c k h (ap (λ (t : Lists). is_in c (list_at t k)) view ∙ i)

pub link_read : (links : List Link) (c : ℕ) (link : Link) → c < length links → link ≡ slice_index_or links c link → slice_get links c ≡ Some link
link_read links c link lt q = slice_get_read links (length links) c link refl lt q

pub record AreNeighbours (s : Lists) (k c : ℕ) (link : Link) : Type 0 where
  pub before : link.before ≡ before_in None c (list_at s k)
  pub after : link.after ≡ after_in c (list_at s k)

pub neighbours_read : (links : List Link) (lists : List Ends) (s : Lists) (c k : ℕ) (link : Link) → lists_seen links lists ≡ s → AreLinked links lists → is_in c (list_at s k) ≡ true → link
    ≡ slice_index_or links c link → AreNeighbours s k c link
neighbours_read links lists s c k link view h i q =
    let p = cell_in_list links lists s c k view h i in
    let at = link_read links c link (within links lists c k p) q in
    let t = stands links k p.ends c link p.linked p.has at in
    let seen = sym (seen_at links lists k p.ends p.at) ∙ ap (λ (r : Lists). list_at r k) view in
    record {
      before = ap (λ (r : Link). r.before) t.neighbours ∙ sym (t.parts.before None) ∙ ap (before_in None c) seen;
      after = ap (λ (r : Link). r.after) t.neighbours ∙ sym t.parts.after ∙ ap (after_in c) seen;
    }

-- a list in which another cell stands for one
last_with : (xs ys : List ℕ) (c d : ℕ) → end_without (last_or None (xs ++ c ∷ ys)) (first_or None ys) (Some d) ≡ last_or None (xs ++ d ∷ ys)
last_with xs [] c d = sym (last_or-append None xs (d ∷ []))
last_with xs (y ∷ ys) c d = last_or-append None xs (c ∷ y ∷ ys) ∙ sym (last_or-append None xs (d ∷ y ∷ ys))

first_with : (xs ys : List ℕ) (c d : ℕ) → end_without (first_or None (xs ++ c ∷ ys)) (last_or None xs) (Some d) ≡ first_or None (xs ++ d ∷ ys)
first_with [] ys c d = refl
first_with (x ∷ xs) ys c d = let p = last_some x xs in rw p.1 refl

with_other-of : (k c d : ℕ) (xs ys : List ℕ) → with_other (ends_of (xs ++ c ∷ ys)) c d (link_between k xs ys) ≡ ends_of (xs ++ d ∷ ys)
with_other-of k c d xs ys =
    let f = first_with xs ys c d in
    let l = last_with xs ys c d in
    let n : length (xs ++ c ∷ ys) ≡ length (xs ++ d ∷ ys) = omega (arith, length-append xs (c ∷ ys), length-append xs (d ∷ ys)) in
    let m : falls None (xs ++ c ∷ ys) - fall (last_or None xs) (Some c) - fall (Some c) (first_or None ys) + fall (last_or None xs) (Some d) + fall (Some d) (first_or None ys)
    ≡ falls None (xs ++ d ∷ ys) =
    omega (arith, falls-at c xs ys, falls-at d xs ys) in
    λ i. record { first = f i; last = l i; len = n i; falls = m i }

abbrev pub replaced_links : List Link → Link → ℕ → List Link
replaced_links links link d = slice_set (before_set (after_set links link.before (Some d)) link.after (Some d)) d link

exchanged : (links : List Link) (k c d : ℕ) (xs ys : List ℕ) → Linked links k None None (xs ++ c ∷ ys) → AreDistinct (xs ++ c ∷ ys) → is_in d (xs ++ c ∷ ys) ≡ false → d < length links →
    Linked (replaced_links links (link_between k xs ys) d) k None None (xs ++ d ∷ ys)
exchanged links k c d xs ys l e free lt =
    let b = last_or None xs in
    let a = first_or None ys in
    let links' = after_set links b (Some d) in
    let links'' = before_set links' a (Some d) in
    let ds = distinct_parts xs (c ∷ ys) e in
    let out = or_parts _ _ (sym (list_any-append (λ y. eqb d y) xs (c ∷ ys)) ∙ free) in
    let fr = front links k None None xs (c ∷ ys) l in
    let bk = back links k None None xs (c ∷ ys) l in
    let inside : d < length links'' = omega (arith, length-before links' a (Some d), length-after links b (Some d)) in
    joined (replaced_links links (link_between k xs ys) d) k None None xs (d ∷ ys)
    (outside links'' k None (Some d) xs d _ out.0
    (outside-before links' k None (Some d) xs a (Some d)
    (λ x q. false_from_ne_true _ (λ t.
    true≢false (sym (first_of_in x ys q) ∙ (or_parts _ _ (distinct_apart x xs (c ∷ ys) e t)).1)))
    (ended links k None (Some c) (Some d) xs ds.0 fr))) (
      slice_get-set_same links'' d (link_between k xs ys) _ (slice_get-get_or links'' d no_link inside),
      outside links'' k (Some d) None ys d _ (or_parts _ _ out.1).1
          (begun links' k (Some c) (Some d) None ys ds.1.1
          (outside-after links k (Some c) None ys b (Some d)
          (λ x q. (or_parts _ _ (distinct_apart x xs (c ∷ ys) e (last_of_in x xs q))).1)
          bk.1)),
    )

abbrev pub IsReplaced : List Link → ℕ → Ends → ℕ → ℕ → Link → Type 0
IsReplaced links k e c d link =
    IsLinked (replaced_links links link d) k (with_other e c d link) × (cells_of (replaced_links links link d) (with_other e c d link) ≡ map (other_for c d) (cells_of links e))

replaced_here : (links : List Link) (k : ℕ) (e : Ends) (c d : ℕ) (link : Link) → Stands links k e c link → is_in d (cells_of links e) ≡ false → d < length links → IsReplaced links k e c d link
replaced_here links k e c d link s free lt =
    let xs = s.parts.front in
    let ys = s.parts.back in
    let free' : is_in d (xs ++ c ∷ ys) ≡ false = ap (is_in d) (sym s.parts.is) ∙ free in
    let P : Link → Type 0 = λ r. Linked (replaced_links links r d) k None None (xs ++ d ∷ ys) in
    let l = subst P (sym s.neighbours) (exchanged links k c d xs ys s.linked s.distinct free' lt) in
    let q = ap (λ r. with_other r c d link) s.ends ∙ ap (with_other (ends_of (xs ++ c ∷ ys)) c d) s.neighbours ∙ with_other-of k c d xs ys in
    let seen = sym (ap (map (other_for c d)) s.parts.is ∙ others-at c d xs ys s.parts.apart (distinct_parts xs (c ∷ ys) s.distinct).1.0) in
    (stored_as _ k _ (xs ++ d ∷ ys) q l (distinct_replaced xs ys c d s.distinct free'), seen_as _ k _ (xs ++ d ∷ ys) q l ∙ seen)

replaced_there : (links : List Link) (j k : ℕ) (f e : Ends) (c d : ℕ) (link : Link) → IsLinked links j f → IsLinked links k e → j ≢ k → Stands links k e c link → is_in d (cells_of links f)
    ≡ false → IsKept links (replaced_links links link d) j f
replaced_there links j k f e c d link hf he ne s free =
    let xs = cells_of links f in
    kept links (replaced_links links link d) j f hf
    (outside (before_set (after_set links link.before (Some d)) link.after (Some d)) j None None xs d _ free
    (outside-before (after_set links link.before (Some d)) j None None xs link.after (Some d)
    (λ x q. apart links j k f x hf (names links k e x he (after_in_list links k e c link s x q)) ne)
    (outside-after links j None None xs link.before (Some d)
    (λ x q. apart links j k f x hf (names links k e x he (before_in_list links k e c link s x q)) ne)
    hf.linked)))

replaced_linked : (links : List Link) (lists : List Ends) (c d : ℕ) (link : Link) (e : Ends) → AreLinked links lists → IsStored links lists c link e → IsFree d (lists_seen links lists) →
    d < length links → AreLinked (replaced_links links link d) (slice_set lists link.list (with_other e c d link))
replaced_linked links lists c d link e h s free lt j f p =
    elim (cases_eq j link.list) [
      | inl q ↦
          let r : with_other e c d link ≡ f =
          same_Some _ _ (sym (slice_get-set_same lists link.list (with_other e c d link) e s.at) ∙ ap (slice_get (slice_set lists link.list (with_other e c d link))) (sym q) ∙ p) in
          let P : ℕ → Type 0 = λ n. IsLinked (replaced_links links link d) n f in
          let Q : Ends → Type 0 = λ x. IsLinked (replaced_links links link d) link.list x in
          subst P (sym q) (subst Q r (replaced_here links link.list e c d link s.stands (sym (ap (is_in d) (seen_at links lists link.list e s.at)) ∙ free link.list) lt).0)
      | inr ne ↦
          let at' = sym (slice_get-set_other lists link.list j (with_other e c d link) ne) ∙ p in
          (replaced_there links j link.list f e c d link (h j f at') s.linked ne s.stands (sym (ap (is_in d) (seen_at links lists j f at')) ∙ free j)).linked
    ]

replaced_seen : (links : List Link) (lists : List Ends) (c d : ℕ) (link : Link) (e : Ends) → AreLinked links lists → IsStored links lists c link e → IsFree d (lists_seen links lists) →
    d < length links → lists_seen (replaced_links links link d) (slice_set lists link.list (with_other e c d link)) ≡ replaced (lists_seen links lists) c d
replaced_seen links lists c d link e h s free lt =
    let g : Ends → List ℕ = λ r. map (other_for c d) (cells_of links r) in
    let owner = names links link.list e c s.linked s.has in
    let links' = before_set (after_set links link.before (Some d)) link.after (Some d) in
    seen_same _ _ _ _
    (length-set links' d link ∙ length-before (after_set links link.before (Some d)) link.after (Some d) ∙ length-after links link.before (Some d))
    (map_set_at (cells_of (replaced_links links link d)) g lists link.list (with_other e c d link) (g e)
    (replaced_here links link.list e c d link s.stands (sym (ap (is_in d) (seen_at links lists link.list e s.at)) ∙ free link.list) lt).1
    (λ j f ne at.
    (replaced_there links j link.list f e c d link (h j f at) s.linked ne s.stands (sym (ap (is_in d) (seen_at links lists j f at)) ∙ free j)).seen
    ∙ sym (others-outside c d (cells_of links f) (apart links j link.list f c (h j f at) owner ne)))
    ∙ set_same (map g lists) link.list (g e) (slice_get-map g lists link.list ∙ ap (option_map g) s.at)
    ∙ map-map (map (other_for c d)) (cells_of links) lists)

-- lists as they are stored
pub record AreStored (links : List Link) (lists : List Ends) (s : Lists) : Type 0 where
  pub linked : AreLinked links lists
  pub seen : lists_seen links lists ≡ s

-- lists without cells
map-replicate : {A B : Type 0} (f : A → B) (n : ℕ) (x : A) → map f (replicate n x) ≡ replicate n (f x)
map-replicate f zero x = refl
map-replicate f (suc n) x = ap (λ ys. f x ∷ ys) (map-replicate f n x)

pub new_seen : (links : List Link) (lists : List Ends) (n m : ℕ) → links ≡ replicate m no_link → lists ≡ replicate n (ends_of []) → lists_seen links lists ≡ no_cells n m
new_seen links lists n m p q =
    seen_same _ _ _ _ (ap length p ∙ length-replicate m no_link) (ap (map (cells_of links)) q ∙ map-replicate (cells_of links) n (ends_of []))

-- before a cell comes to a list
pub last_within : (links : List Link) (lists : List Ends) (k : ℕ) (e : Ends) → AreLinked links lists → slice_get lists k ≡ Some e → IsCell links e.last
last_within links lists k e h at = by_last e.last refl
  where
    by_last : (o : Option ℕ) → e.last ≡ o → IsCell links o
    by_last None q = tt
    by_last (Some x) q =
        let l = h k e at in
        let n = names links k e x l (last_of_in x (cells_of links e) (sym (ap (λ (r : Ends). r.last) l.ends) ∙ q)) in
        slice_get_within links x n.link n.at

pub few_falls : (links : List Link) (lists : List Ends) (k : ℕ) (e : Ends) → AreLinked links lists → slice_get lists k ≡ Some e → e.falls ≤ e.len
few_falls links lists k e h at =
    let q = (h k e at).ends in
    omega (arith, ap (λ (r : Ends). r.falls) q, ap (λ (r : Ends). r.len) q, falls-le None (cells_of links e))

pub room : (links : List Link) (lists : List Ends) (k : ℕ) (e : Ends) (c : ℕ) → AreLinked links lists → slice_get lists k ≡ Some e → c < length links → IsFree c (lists_seen links lists) →
    e.len + 1 ≤ length links
room links lists k e c h at lt free =
    let l = h k e at in
    let xs = cells_of links e in
    let outer = sym (ap (is_in c) (seen_at links lists k e at)) ∙ free k in
    let below : (q : ℕ) → is_in q (xs ++ c ∷ []) ≡ true → q < length links = λ q i.
    elim (or_cases _ _ (sym (list_any-append (λ y. eqb q y) xs (c ∷ [])) ∙ i)) [
      | inl t ↦ let n = names links k e q l t in slice_get_within links q n.link n.at
      | inr t ↦
          elim (or_cases (eqb q c) false t) [
            | inl u ↦ let P : ℕ → Type 0 = λ m. m < length links in subst P (sym (eqb-true q c u)) lt
            | inr u ↦ absurd (true≢false (sym u))
          ]
    ] in
    omega (arith, ap (λ (r : Ends). r.len) l.ends, length-append xs (c ∷ []), length_distinct (xs ++ c ∷ []) (length links) (distinct_pushed xs c l.distinct outer) below)

-- a cell has come to a list
pub push_done : (links : List Link) (lists : List Ends) (s : Lists) (k : ℕ) (e : Ends) (c : ℕ) (links' : List Link) (e' : Ends) → AreStored links lists s → k < length s.lists → c < s.cells →
    IsFree c s → e ≡ slice_index_or lists k e → links' ≡ after_set links e.last (Some c) → e' ≡ with_last e c →
    AreStored (slice_set links' c (record { list = k; before = e.last; after = None })) (slice_set lists k e') (pushed s k c)
push_done links lists s k e c links' e' h lt in_s free read p q =
    let P : List Link → Type 0 = λ ls. AreStored (slice_set ls c (record { list = k; before = e.last; after = None })) (slice_set lists k e') (pushed s k c) in
    let Q : Ends → Type 0 = λ r. AreStored (pushed_links links k e c) (slice_set lists k r) (pushed s k c) in
    let at = list_read links lists s k e h.seen h.linked lt read in
    let inside : c < length links = omega (arith, ap (λ (t : Lists). t.cells) h.seen) in
    let F : Lists → Type 0 = λ t. IsFree c t in
    let free' = subst F (sym h.seen) free in
    subst P (sym p) (subst Q (sym q) (record {
      linked = pushed_linked links lists k e c h.linked at inside free';
      seen = pushed_seen links lists k e c h.linked at inside free' ∙ ap (λ (t : Lists). pushed t k c) h.seen;
    }))

-- a cell has gone from its list
pub remove_done : (links : List Link) (lists : List Ends) (s : Lists) (c : ℕ) (link : Link) (e : Ends) (links' links'' : List Link) (e' : Ends) → AreStored links lists s →
    IsStored links lists c link e → links' ≡ after_set links link.before link.after → links'' ≡ before_set links' link.after link.before → e' ≡ without_cell e c link →
    AreStored links'' (slice_set lists link.list e') (removed s c)
remove_done links lists s c link e links' links'' e' h t p q r =
    let P : List Link → Type 0 = λ ls. AreStored ls (slice_set lists link.list e') (removed s c) in
    let Q : Ends → Type 0 = λ x. AreStored (removed_links links link) (slice_set lists link.list x) (removed s c) in
    subst P (sym (q ∙ ap (λ ls. before_set ls link.after link.before) p)) (subst Q (sym r) (record {
      linked = removed_linked links lists c link e h.linked t;
      seen = removed_seen links lists c link e h.linked t ∙ ap (λ (x : Lists). removed x c) h.seen;
    }))

-- before it goes: it is a cell, with a list; its list has a cell, and falls enough
pub link_of : (links : List Link) (lists : List Ends) (s : Lists) (c : ℕ) (link : Link) → AreStored links lists s → IsListed c s → link ≡ slice_index_or links c link → IsInList links lists c link.list
link_of links lists s c link h listed read =
    let p = cell_in_list links lists s c listed.0 h.seen h.linked listed.1 in
    in_named links lists c listed.0 link p (link_read links c link (within links lists c listed.0 p) read)

pub stored_at : (links : List Link) (lists : List Ends) (s : Lists) (c : ℕ) (link : Link) → AreStored links lists s → IsListed c s → link ≡ slice_index_or links c link → (e : Ends)
    × IsStored links lists c link e
stored_at links lists s c link h listed read =
    let p = link_of links lists s c link h listed read in
    (p.ends, stored links lists c link p.ends p (link_read links c link (within links lists c link.list p) read) p.at)

pub stored_of : (links : List Link) (lists : List Ends) (s : Lists) (c : ℕ) (link : Link) (e : Ends) → AreStored links lists s → IsListed c s → link ≡ slice_index_or links c link → e
    ≡ slice_index_or lists link.list e → IsStored links lists c link e
stored_of links lists s c link e h listed read read' =
    let p = link_of links lists s c link h listed read in
    let at = link_read links c link (within links lists c link.list p) read in
    stored links lists c link e p at (slice_get_read lists (length lists) link.list e refl (slice_get_within lists link.list p.ends p.at) read')

pub has_cell : (links : List Link) (lists : List Ends) (c : ℕ) (link : Link) (e : Ends) → IsStored links lists c link e → 0 < e.len
has_cell links lists c link e t =
    let s = t.stands in
    omega (arith, ap (λ (r : Ends). r.len) s.ends, length-append s.parts.front (c ∷ s.parts.back))

pub has_falls : (links : List Link) (lists : List Ends) (c : ℕ) (link : Link) (e : Ends) → IsStored links lists c link e → fall link.before (Some c) + fall (Some c) link.after ≤ e.falls
has_falls links lists c link e t =
    let s = t.stands in
    omega (
      arith,
      ap (λ (r : Ends). r.falls) s.ends,
      falls-at c s.parts.front s.parts.back,
      ap (λ (r : Link). fall r.before (Some c)) s.neighbours,
      ap (λ (r : Link). fall (Some c) r.after)
          s.neighbours,
    )

-- before another cell stands for it, too
pub after_within_with : (links : List Link) (lists : List Ends) (c : ℕ) (link : Link) (e : Ends) (to : Option ℕ) → IsStored links lists c link e → IsCell (after_set links link.before to) link.after
after_within_with links lists c link e to s = by_neighbour link.after refl
  where
    by_neighbour : (o : Option ℕ) → link.after ≡ o → IsCell (after_set links link.before to) o
    by_neighbour None q = tt
    by_neighbour (Some x) q =
        let n = names links link.list e x s.linked (after_in_list links link.list e c link s.stands x q) in
        omega (arith, slice_get_within links x n.link n.at, length-after links link.before to)

pub room_for_other : (links : List Link) (lists : List Ends) (s : Lists) (c d : ℕ) (link : Link) (e : Ends) → AreStored links lists s → IsStored links lists c link e → d < s.cells → IsFree d s →
    e.falls + 2 ≤ length links
room_for_other links lists s c d link e h t lt free =
    let q = t.linked.ends in
    let F : Lists → Type 0 = λ r. IsFree d r in
    let inside : d < length links = omega (arith, ap (λ (r : Lists). r.cells) h.seen) in
    omega (
      arith,
      ap (λ (r : Ends). r.falls) q,
      ap (λ (r : Ends). r.len) q,
      falls-lt (cells_of links e),
      has_cell links lists c link e t,
      room links lists link.list e d h.linked t.at inside
          (subst F (sym h.seen) free),
    )

-- the length of the links stays
pub length-links : (links links' links'' : List Link) (o p q r : Option ℕ) → links' ≡ after_set links o p → links'' ≡ before_set links' q r → length links'' ≡ length links
length-links links links' links'' o p q r e f = ap length f ∙ length-before links' q r ∙ ap length e ∙ length-after links o p

pub replace_done : (links : List Link) (lists : List Ends) (s : Lists) (c d : ℕ) (link : Link) (e : Ends) (links' links'' : List Link) (e' : Ends) → AreStored links lists s →
    IsStored links lists c link e → d < s.cells → IsFree d s → links' ≡ after_set links link.before (Some d) → links'' ≡ before_set links' link.after (Some d) → e' ≡ with_other e c d link →
    AreStored (slice_set links'' d link) (slice_set lists link.list e') (replaced s c d)
replace_done links lists s c d link e links' links'' e' h t lt free p q r =
    let P : List Link → Type 0 = λ ls. AreStored (slice_set ls d link) (slice_set lists link.list e') (replaced s c d) in
    let Q : Ends → Type 0 = λ x. AreStored (replaced_links links link d) (slice_set lists link.list x) (replaced s c d) in
    let F : Lists → Type 0 = λ x. IsFree d x in
    let inside : d < length links = omega (arith, ap (λ (x : Lists). x.cells) h.seen) in
    let free' = subst F (sym h.seen) free in
    subst P (sym (q ∙ ap (λ ls. before_set ls link.after (Some d)) p)) (subst Q (sym r) (record {
      linked = replaced_linked links lists c d link e h.linked t free' inside;
      seen = replaced_seen links lists c d link e h.linked t free' inside ∙ ap (λ (x : Lists). replaced x c d) h.seen;
    }))
