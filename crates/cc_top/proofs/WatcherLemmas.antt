-- Watchers that are given rows one after the other.
use Rattle.std.proofs.Common.{◌≡◌, ◌<◌, ◌≤◌, ◌+◌, ℕ, zero, suc, Bool, true, false, List, [], ◌∷◌, ◌++◌, take, length, slice_set, slice_index_or, Option, Some, None, refl, sym, ap, subst, ◌∙◌, append_assoc, append-nil, take_all, take-suc, drop, drop-cons, find, arith}
use Rattle.std.specs.List.{AllZip}
use Rattle.std.specs.Str.{bytes_eq}
use Rattle.cc_watch.specs.Rows.{PlainRow}
use Rattle.cc_top.specs.Watchers.{HasGained, AllHaveGained, AllHaveBegun, IsReportOf, watcher_named}

-- ---- one element after the other

module _ {W : Type 0} where
  -- The elements below an index are related, and the others are the same.
  abbrev pub Below : (R : W → W → Type 0) → ℕ → List W → List W → Type 0
  Below R zero before now = now ≡ before
  Below R (suc i) [] [] = Unit {0}
  Below R (suc i) [] (n ∷ ns) = ⊥
  Below R (suc i) (b ∷ bs) [] = ⊥
  Below R (suc i) (b ∷ bs) (n ∷ ns) = R b n × Below R i bs ns

  module _ (R : W → W → Type 0) where
    pub below-next : (i : ℕ) (before now : List W) (d x : W) → i < length now → Below R i before now → R (slice_index_or now i d) x → Below R (suc i) before (slice_set now i x)
    below-next zero before [] d x inside is r = absurd (omega (arith, inside))
    below-next zero before (n ∷ ns) d x inside is r = subst (λ ws. Below R 1 ws (x ∷ ns)) is (r, refl)
    below-next (suc i) [] [] d x inside h r = absurd (omega (arith, inside))
    below-next (suc i) [] (n ∷ ns) d x inside h r = absurd h
    below-next (suc i) (b ∷ bs) [] d x inside h r = absurd h
    below-next (suc i) (b ∷ bs) (n ∷ ns) d x inside h r = (h.0, below-next i bs ns d x (omega (arith, inside)) h.1 r)

    pub below-more : (i : ℕ) (before now : List W) (d x : W) → i < length now → Below R i before now → R (slice_index_or now i d) x → Below R (i + 1) before (slice_set now i x)
    below-more i before now d x inside h r =
        let next : suc i ≡ i + 1 = omega arith in
        subst (λ k. Below R k before (slice_set now i x)) next (below-next i before now d x inside h r)

    pub below-all : (i : ℕ) (before now : List W) → length now ≤ i → Below R i before now → AllZip R before now
    below-all zero before [] short is = subst (λ ws. AllZip R ws []) is tt
    below-all zero before (n ∷ ns) short is = absurd (omega (arith, short))
    below-all (suc i) [] [] short h = tt
    below-all (suc i) [] (n ∷ ns) short h = absurd h
    below-all (suc i) (b ∷ bs) [] short h = absurd h
    below-all (suc i) (b ∷ bs) (n ∷ ns) short h = (h.0, below-all i bs ns (omega (arith, short)) h.1)

  pub all-same : (S : W → W → Type 0) → ((w : W) → S w w) → (ws : List W) → AllZip S ws ws
  all-same S same [] = tt
  all-same S same (w ∷ ws) = (same w, all-same S same ws)

  -- The elements below an index are related by one relation, and the others by another, in which the element there was
  -- exchanged.
  module _ (R S : W → W → Type 0) (same : (w : W) → S w w) where
    pub below-set : (i : ℕ) (before now : List W) (d x : W) → i < length now → Below R i before now → S (slice_index_or now i d) x →
        AllZip R (take i before) (take i (slice_set now i x)) × AllZip S (drop i before) (drop i (slice_set now i x))
    below-set zero before [] d x inside is s = absurd (omega (arith, inside))
    below-set zero [] (n ∷ ns) d x inside is s = absurd (clash is) where
      clash : n ∷ ns ≡ [] → ⊥
      clash e = cc
    below-set zero (b ∷ bs) (n ∷ ns) d x inside is s = (tt, subst (λ ws. AllZip S ws (x ∷ ns)) is (s, all-same S same ns))
    below-set (suc i) [] [] d x inside h s = absurd (omega (arith, inside))
    below-set (suc i) [] (n ∷ ns) d x inside h s = absurd h
    below-set (suc i) (b ∷ bs) [] d x inside h s = absurd h
    below-set (suc i) (b ∷ bs) (n ∷ ns) d x inside h s =
        let later = below-set i bs ns d x (omega (arith, inside)) h.1 s in
        ((h.0, later.0), later.1)

  pub all-take : (R : W → W → Type 0) (i : ℕ) (us vs : List W) → AllZip R us vs → AllZip R (take i us) (take i vs)
  all-take R zero [] [] h = tt
  all-take R zero [] (v ∷ vs) h = absurd h
  all-take R zero (u ∷ us) [] h = absurd h
  all-take R zero (u ∷ us) (v ∷ vs) h = tt
  all-take R (suc i) [] [] h = tt
  all-take R (suc i) [] (v ∷ vs) h = absurd h
  all-take R (suc i) (u ∷ us) [] h = absurd h
  all-take R (suc i) (u ∷ us) (v ∷ vs) h = (h.0, all-take R i us vs h.1)

  pub all-drop : (R : W → W → Type 0) (i : ℕ) (us vs : List W) → AllZip R us vs → AllZip R (drop i us) (drop i vs)
  all-drop R zero [] [] h = tt
  all-drop R zero [] (v ∷ vs) h = absurd h
  all-drop R zero (u ∷ us) [] h = absurd h
  all-drop R zero (u ∷ us) (v ∷ vs) h = h
  all-drop R (suc i) [] [] h = tt
  all-drop R (suc i) [] (v ∷ vs) h = absurd h
  all-drop R (suc i) (u ∷ us) [] h = absurd h
  all-drop R (suc i) (u ∷ us) (v ∷ vs) h = all-drop R i us vs h.1

  pub all-then : (R S T : W → W → Type 0) → ((u v w : W) → R u v → S v w → T u w) → (us vs ws : List W) → AllZip R us vs → AllZip S vs ws → AllZip T us ws
  all-then R S T both [] [] [] h k = tt
  all-then R S T both [] [] (w ∷ ws) h k = absurd k
  all-then R S T both [] (v ∷ vs) ws h k = absurd h
  all-then R S T both (u ∷ us) [] ws h k = absurd h
  all-then R S T both (u ∷ us) (v ∷ vs) [] h k = absurd k
  all-then R S T both (u ∷ us) (v ∷ vs) (w ∷ ws) h k = (both u v w h.0 k.0, all-then R S T both us vs ws h.1 k.1)

-- ---- the first of a name

module _ {A : Type 0} (f : A → Bool) (xs : List A) (i : ℕ) (x : A) (inside : i < length xs) (at : slice_index_or xs i x ≡ x) where
  from-here : drop i xs ≡ x ∷ drop (suc i) xs
  from-here = drop-cons xs i x inside ∙ ap (λ y. y ∷ drop (suc i) xs) at

  pub found-first : f x ≡ true → Some x ≡ find f (drop i xs)
  found-first is = sym (ap (find f) from-here ∙ rw is refl)

  pub found-later : f x ≡ false → find f (drop (i + 1) xs) ≡ find f (drop i xs)
  found-later is =
      let next : suc i ≡ i + 1 = omega arith in
      subst (λ k. find f (drop k xs) ≡ find f (drop i xs)) next (sym (ap (find f) from-here ∙ rw is refl))

-- ---- rows

module _ {W : Type 0} (named : W → List ℕ) (stands_for : W → List PlainRow → Type 0) (text_of : W → List PlainRow → List ℕ) where
  abbrev pub Gained : List PlainRow → W → W → Type 0
  Gained = HasGained named stands_for text_of

  abbrev pub AllBegun : List PlainRow → (before after : List W) → Type 0
  AllBegun = AllHaveBegun named stands_for text_of

  pub gained-none : (w : W) → Gained [] w w
  gained-none w = record { stands = λ L h. subst (stands_for w) (sym (append-nil L)) h; name = refl; texts = λ L. refl }

  pub gained-more : (first more : List PlainRow) (u v w : W) → Gained first u v → Gained more v w → Gained (first ++ more) u w
  gained-more first more u v w g h = record {
    stands = λ L is. subst (stands_for w) (append_assoc L first more) (h.stands (L ++ first) (g.stands L is));
    name = h.name ∙ g.name;
    texts = λ L. h.texts L ∙ g.texts L;
  }

  -- The watchers below an index were given the row, and the one at the index was not.
  pub begun-below : (row : PlainRow) (i : ℕ) (before now : List W) (d x : W) → i < length now → Below (Gained (row ∷ [])) i before now → Gained [] (slice_index_or now i d) x →
      AllBegun (row ∷ []) before (slice_set now i x)
  begun-below row i before now d x inside h none =
      let set = below-set (Gained (row ∷ [])) (Gained []) gained-none i before now d x inside h none in
      record { row = 0; inside = omega arith; ahead = i; first = set.0; others = set.1 }

  -- one more of the rows
  module _ (rows : List PlainRow) (i : ℕ) (row : PlainRow) (inside : i < length rows) (at : slice_index_or rows i row ≡ row) where
    so-far : take (suc i) rows ≡ take i rows ++ row ∷ []
    so-far = take-suc rows i row inside ∙ ap (λ r. take i rows ++ r ∷ []) at

    gained-suc : (u v w : W) → Gained (take i rows) u v → Gained (row ∷ []) v w → Gained (take (suc i) rows) u w
    gained-suc u v w g h = subst (λ rs. Gained rs u w) (sym so-far) (gained-more (take i rows) (row ∷ []) u v w g h)

    pub gained-next : (u v w : W) → Gained (take i rows) u v → Gained (row ∷ []) v w → Gained (take (i + 1) rows) u w
    gained-next u v w g h =
        let next : suc i ≡ i + 1 = omega arith in
        subst (λ k. Gained (take k rows) u w) next (gained-suc u v w g h)

    pub begun-next : (us vs ws : List W) → AllHaveGained named stands_for text_of (take i rows) us vs → AllBegun (row ∷ []) vs ws → AllBegun rows us ws
    begun-next us vs ws h begun = by_row begun.row begun.inside begun.first begun.others where
      one-more : (u v w : W) → Gained (take i rows) u v → Gained (row ∷ []) v w → Gained (take (suc i) rows) u w
      one-more = gained-suc

      no-more : (u v w : W) → Gained (take i rows) u v → Gained [] v w → Gained (take i rows) u w
      no-more u v w g k = subst (λ rs. Gained rs u w) (append-nil (take i rows)) (gained-more (take i rows) [] u v w g k)

      by_row : (k : ℕ) → k < 1 → AllHaveGained named stands_for text_of (take (suc k) (row ∷ [])) (take begun.ahead vs) (take begun.ahead ws) →
          AllHaveGained named stands_for text_of (take k (row ∷ [])) (drop begun.ahead vs) (drop begun.ahead ws) → AllBegun rows us ws
      by_row zero small first others = record {
        row = i;
        inside = inside;
        ahead = begun.ahead;
        first = all-then _ _ _ one-more _ _ _ (all-take _ begun.ahead us vs h) first;
        others = all-then _ _ _ no-more _ _ _ (all-drop _ begun.ahead us vs h) others;
      }
      by_row (suc k) small first others = absurd (omega (arith, small))

  pub gained-all : (rows : List PlainRow) (i : ℕ) (us vs : List W) → length rows ≤ i → AllHaveGained named stands_for text_of (take i rows) us vs → AllHaveGained named stands_for text_of rows us vs
  gained-all rows i us vs short h = subst (λ rs. AllHaveGained named stands_for text_of rs us vs) (take_all i rows short) h

  -- ---- the watcher of a name is the same after as before

  abbrev pub FoundAfter : List PlainRow → List ℕ → W → List W → Type 0
  FoundAfter rows name w after = (v : W) × (watcher_named named name after ≡ Some v) × Gained rows w v

  pub found-after : (rows : List PlainRow) (name : List ℕ) (w : W) (before after : List W) → AllHaveGained named stands_for text_of rows before after → watcher_named named name before ≡ Some w →
      FoundAfter rows name w after
  found-after rows name w [] [] h is = absurd (clash is) where
    clash : None ≡ Some w → ⊥
    clash e = cc
  found-after rows name w [] (v ∷ vs) h is = absurd h
  found-after rows name w (u ∷ us) [] h is = absurd h
  found-after rows name w (u ∷ us) (v ∷ vs) h is = by_test (bytes_eq (named u) name) refl is (found-after rows name w us vs h.1) where
    one : Some u ≡ Some w → u ≡ w
    one e = cc

    by_test : (t : Bool) → bytes_eq (named u) name ≡ t → watcher_named named name (u ∷ us) ≡ Some w → (watcher_named named name us ≡ Some w → FoundAfter rows name w vs) →
        FoundAfter rows name w (v ∷ vs)
    by_test true same is rest =
        let there : bytes_eq (named v) name ≡ true = ap (λ n. bytes_eq n name) h.0.name ∙ same in
        (v, rw there refl, subst (λ x. Gained rows x v) (one (rw same at is)) h.0)
    by_test false other is rest =
        let there : bytes_eq (named v) name ≡ false = ap (λ n. bytes_eq n name) h.0.name ∙ other in
        let found = rest (rw other at is) in
        (found.0, rw there found.1, found.2)

  abbrev pub Report : Option (List ℕ) → List PlainRow → List W → List ℕ → Type 0
  Report = IsReportOf named stands_for text_of

  -- a report after the rows were given
  pub report-gained : (report : Option (List ℕ)) (rows : List PlainRow) (before after : List W) (text : List ℕ) → AllHaveGained named stands_for text_of rows before after →
      Report report [] after text → Report report rows before text
  report-gained None rows before after text h is = is
  report-gained (Some name) rows before after text h is = λ w found L stood.
      let later = found-after rows name w before after h found in
      is later.0 later.1 (L ++ rows) (later.2.stands L stood) ∙ later.2.texts ((L ++ rows) ++ []) ∙ ap (text_of w) (append-nil (L ++ rows))
