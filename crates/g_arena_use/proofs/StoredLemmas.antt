-- Lists with an index of their uses, as stored and as seen: what is read of them, and what a change leaves.
use Rattle.std.proofs.Common.{◌≡◌, ℕ, zero, suc, ◌+◌, ◌-◌, ◌<◌, ◌≤◌, Bool, true, false, cond, Option, Some, None, List, [], ◌∷◌, ◌++◌, length, map, replicate, get_or, set, take, drop, refl, ap, sym, ◌∙◌, subst, append_assoc, length-append, length-set, length-drop, arith}
use Rattle.std.specs.Prelude.{slice_get}
use Rattle.std.specs.List.{remove}
use Rattle.std.proofs.lemmas.List.{length-map, length-replicate, length-take-le, map-set, map-append, set-append_left, set-append_right, get_or_default, take-append-drop, drop_more, replicate-append-replicate, get_or-map}
use Rattle.std.proofs.lemmas.Option.{get_or_from_slice_get, slice_get-get_or, same_Some}
use Rattle.g_graph.specs.declared.op.Origin.{Origin}
use Rattle.g_graph.specs.declared.op.Origin.TheVariants.{Arg}
use Rattle.g_arena_def.specs.declared.place.Place.{Place}
use Rattle.g_arena_def.specs.Edits.{at_with}
use Rattle.g_arena_use.specs.declared.use_index.Use.{Use}
use Rattle.g_arena_use.specs.UseCells.{UseCells, IsNamed, is_use, count_of, first_of, with_use, written, with_written, closed, with_closed}
use Rattle.g_arena_use.specs.Lists.{PlainList, PlainUses, no_list, origins_at, use_in, uses_of, use_moved, without, emptied, AreNamedIn}
use Rattle.g_arena_use.specs.Sites.{PlainSite, list_seen, held, site_cells, cells_of, AreLaid, owners_from}
use Rattle.g_arena_use.specs.declared.use_lists.UseLists.TheInside.{Inside}
use Rattle.g_arena_use.specs.Held.{uses_seen, AreIndexed}
use Rattle.g_arena_use.proofs.NameLemmas.{apart, same_place_true}
use Rattle.g_arena_use.proofs.CellLemmas.{written_in, gap_in}
use Rattle.g_arena_use.proofs.SiteLemmas.{Around, around, owners_length, site_length, counts, FirstSite, first_site, none_moved}

pub record Stored (sites : List PlainSite) (owners : List ℕ) (u : UseCells) (v : PlainUses) : Type 0 where
  pub laid : AreLaid 0 sites
  pub owned : owners ≡ owners_from 0 sites
  pub cells : u.cells ≡ cells_of sites
  pub names : u.names ≡ v.names
  pub lists : map list_seen sites ≡ v.lists
  pub room : length owners ≡ v.room

-- the same of the fields of lists with an index
pub stored : (a : Inside) (v : PlainUses) → AreIndexed a → uses_seen a ≡ v → Stored a.sites.items a.owners.items a.uses v
stored a v h e = record {
  laid = h.laid;
  owned = h.owners;
  cells = h.cells;
  names = ap (λ (r : PlainUses). r.names) e;
  lists = ap (λ (r : PlainUses). r.lists) e;
  room = ap (λ (r : PlainUses). r.room) e;
}

pub indexed : (a : Inside) (v : PlainUses) → Stored a.sites.items a.owners.items a.uses v → AreIndexed a
indexed a v s = record { laid = s.laid; owners = s.owned; cells = s.cells }

pub seen : (sites : List PlainSite) (owners : List ℕ) (u : UseCells) (v : PlainUses) → Stored sites owners u v → record { names = u.names; lists = map list_seen sites; room = length owners } ≡ v
seen sites owners u v s = λ i. record { names = s.names i; lists = s.lists i; room = s.room i }

-- a use in a list of which each has a name
pub named_at : (names : List Use) (p : Place) (xs : List Origin) (k : ℕ) (d : Origin) → AreNamedIn names p xs → k < length xs → IsNamed (use_in p (get_or xs k d)) names
named_at names p [] k d h lt = absurd (omega arith)
named_at names p (x ∷ xs) zero d h lt = h.0
named_at names p (x ∷ xs) (suc k) d h lt = named_at names p xs k d h.1 (omega arith)

at_of : (ss : List PlainSite) (at : ℕ) (s t : PlainSite) (f : PlainList → PlainList) → slice_get ss at ≡ Some s → list_seen t ≡ f (list_seen s) → map list_seen (set ss at t) ≡ at_with at f (map list_seen ss)
at_of [] at s t f e h = absurd (apart s e)
at_of (x ∷ ss) zero s t f e h = ap (λ l. l ∷ map list_seen ss) (h ∙ ap (λ (o : Option PlainSite). f (list_seen (get_it o))) (sym e))
  where
    get_it : Option PlainSite → PlainSite
    get_it None = s
    get_it (Some y) = y
at_of (x ∷ ss) (suc at) s t f e h = ap (λ ls. list_seen x ∷ ls) (at_of ss at s t f e h)

count_le : (used : Use) (xs : List (Option Use)) → count_of used xs ≤ length xs
count_le used [] = omega arith
count_le used (x ∷ xs) = by (is_use used x) (count_le used xs)
  where
    by : (t : Bool) → count_of used xs ≤ length xs → cond t 1 0 + count_of used xs ≤ suc (length xs)
    by true h = omega (arith, h)
    by false h = omega (arith, h)

module _ (sites : List PlainSite) (owners : List ℕ) (u : UseCells) (v : PlainUses) (is : Stored sites owners u v) where
  pub lists_length : length v.lists ≡ length sites
  lists_length = sym (ap length is.lists) ∙ length-map sites list_seen

  pub read : (at : ℕ) (x : PlainSite) → at < length v.lists → x ≡ get_or sites at x → slice_get sites at ≡ Some x
  read at x lt e = slice_get-get_or sites at x (omega (arith, lt, lists_length)) ∙ ap Some (sym e)

  pub list_is : (at : ℕ) (x : PlainSite) → at < length v.lists → x ≡ get_or sites at x → x.origins ≡ origins_at v.lists at
  list_is at x lt e =
      ap (λ (s : PlainSite). s.origins) e
      ∙ ap (λ (l : PlainList). l.origins) (sym (get_or-map list_seen sites at x no_list (omega (arith, lt, lists_length))))
      ∙ ap (λ ls. origins_at ls at) is.lists

  pub read_same : (at : ℕ) (x y : PlainSite) → at < length v.lists → x ≡ get_or sites at x → y ≡ get_or sites at y → x ≡ y
  read_same at x y lt e h = same_Some x y (sym (read at x lt e) ∙ read at y lt h)

  pub origin_in : (at index : ℕ) (x : PlainSite) → at < length v.lists → x ≡ get_or sites at x → index < length (origins_at v.lists at) → index < length x.origins
  origin_in at index x lt e there = omega (arith, there, ap length (list_is at x lt e))

  pub count_is : (used : Use) (n : ℕ) → n ≡ count_of used u.cells → n ≡ uses_of used v.lists
  count_is used n e = e ∙ ap (count_of used) is.cells ∙ counts used sites ∙ ap (uses_of used) is.lists

  cells_length : length u.cells ≡ length owners
  cells_length = ap length is.cells ∙ sym (owners_length 0 0 sites is.laid) ∙ sym (ap length is.owned)

  pub count_most : (used : Use) (n : ℕ) → n ≡ count_of used u.cells → n ≤ v.room
  count_most used n e = omega (arith, e, count_le used u.cells, cells_length, is.room)

  pub around_at : (at : ℕ) (s : PlainSite) → slice_get sites at ≡ Some s → Around 0 0 sites at s
  around_at at s e = around 0 0 sites at s is.laid e

  -- the cells of a list are there
  pub cells_in : (at : ℕ) (s : PlainSite) → slice_get sites at ≡ Some s → s.cell + length s.origins ≤ length u.cells
  cells_in at s e =
      let a = around_at at s e in
      omega (arith, ap length is.cells, ap length a.cells, length-append a.before (site_cells s ++ a.after), length-append (site_cells s) a.after, site_length s a.fits, a.start, a.fits)

  pub cells_owned : (at : ℕ) (s : PlainSite) → slice_get sites at ≡ Some s → s.cell + length s.origins ≤ length owners
  cells_owned at s e = omega (arith, cells_in at s e, cells_length)

  -- ---- the first of some uses moves

  pub find : (used : Use) (to : Origin) (cell : ℕ) → Some cell ≡ first_of used u.cells → FirstSite used to 0 0 sites cell
  find used to cell e = first_site used to 0 0 sites cell is.laid (ap (first_of used) (sym is.cells) ∙ sym e)

  pub found_in : (used : Use) (to : Origin) (cell : ℕ) → Some cell ≡ first_of used u.cells → cell < length owners
  found_in used to cell e =
      let f = find used to cell e in
      omega (arith, cells_owned f.at f.site f.there, f.place, f.within)

  pub owner_is : (used : Use) (to : Origin) (cell x : ℕ) (e : Some cell ≡ first_of used u.cells) → x ≡ get_or owners cell x → x ≡ (find used to cell e).at
  owner_is used to cell x e h =
      let f = find used to cell e in
      h ∙ get_or_default owners cell x 0 (found_in used to cell e) ∙ ap (λ os. get_or os cell 0) is.owned ∙ f.owner ∙ (omega arith)

  pub owner_in : (used : Use) (to : Origin) (cell x : ℕ) (e : Some cell ≡ first_of used u.cells) → x ≡ get_or owners cell x → x < length sites
  owner_in used to cell x e h =
      let f = find used to cell e in
      omega (arith, owner_is used to cell x e h, in_list sites f.at f.site f.there)
    where
      in_list : (ss : List PlainSite) (at : ℕ) (s : PlainSite) → slice_get ss at ≡ Some s → at < length ss
      in_list [] at s e = absurd (apart s e)
      in_list (y ∷ ss) zero s e = omega arith
      in_list (y ∷ ss) (suc at) s e = omega (arith, in_list ss at s e)

  pub site_is : (used : Use) (to : Origin) (cell x : ℕ) (s : PlainSite) (e : Some cell ≡ first_of used u.cells) → x ≡ get_or owners cell x → s ≡ get_or sites x s → s ≡ (find used to cell e).site
  site_is used to cell x s e h g =
      let f = find used to cell e in
      g ∙ get_or_from_slice_get sites x f.site s (ap (slice_get sites) (owner_is used to cell x e h) ∙ f.there)

  -- the list that the cell is in has the use at the index of the cell
  pub site_in : (used : Use) (to : Origin) (cell x : ℕ) (s : PlainSite) (e : Some cell ≡ first_of used u.cells) → x ≡ get_or owners cell x → s ≡ get_or sites x s
      → (s.cell ≤ cell) × (cell - s.cell < length s.origins)
  site_in used to cell x s e h g =
      let f = find used to cell e in
      let P : PlainSite → Type 0 = λ y. (y.cell ≤ cell) × (cell - y.cell < length y.origins) in
      subst P (sym (site_is used to cell x s e h g)) (omega (arith, f.place), omega (arith, f.place, f.within))

  pub same_site : (used : Use) (to : Origin) (cell x : ℕ) (s t : PlainSite) (e : Some cell ≡ first_of used u.cells) → x ≡ get_or owners cell x → s ≡ get_or sites x s → t ≡ get_or sites x t → s ≡ t
  same_site used to cell x s t e h g k = site_is used to cell x s e h g ∙ sym (site_is used to cell x t e h k)

  pub cell_there : (used : Use) (to : Origin) (cell : ℕ) → Some cell ≡ first_of used u.cells → cell < length u.cells
  cell_there used to cell e = omega (arith, found_in used to cell e, cells_length)

  pub not_found : (used : Use) (to : Origin) → None ≡ first_of used u.cells → v ≡ record v { lists = use_moved used to v.lists }
  not_found used to e =
      let same : v.lists ≡ use_moved used to v.lists = sym (ap (use_moved used to) (sym is.lists) ∙ none_moved used to sites (ap (first_of used) (sym is.cells) ∙ sym e) ∙ is.lists) in
      λ i. record v { lists = same i }

  pub moved_is : (used : Use) (to : Origin) (cell x : ℕ) (s : PlainSite) (e : Some cell ≡ first_of used u.cells) → x ≡ get_or owners cell x → s ≡ get_or sites x s
      → (sites' : List PlainSite) (u' : UseCells) → sites' ≡ set sites x (record s { origins = set s.origins (cell - s.cell) to }) → u' ≡ with_use u cell (Some (use_in used.home to))
      → Stored sites' owners u' (record v { lists = use_moved used to v.lists })
  moved_is used to cell x s e h g sites' u' p q =
      let f = find used to cell e in
      let a = around_at f.at f.site f.there in
      let same_home : used.home ≡ f.site.home = same_place_true used.home f.site.home f.home in
      let t : PlainSite = record f.site { origins = set f.site.origins f.index to } in
      let index : cell - f.site.cell ≡ f.index = omega (arith, f.place) in
      let o = owner_is used to cell x e h in
      let i = site_is used to cell x s e h g in
      let whole : sites' ≡ set sites f.at t =
      p ∙ (λ j. set sites (o j) (record (i j) { origins = set (i j).origins (cell - (i j).cell) to }))
      ∙ ap (λ n. set sites f.at (record f.site { origins = set f.site.origins n to })) index in
      let ch = a.changed t refl refl (omega (arith, length-set f.site.origins f.index to, a.fits)) in
      let hl : length (held f.site.home f.site.origins) ≡ length f.site.origins = length-map f.site.origins (λ y. Some (use_in f.site.home y)) in
      let sl = site_length f.site a.fits in
      let value : Option Use = Some (use_in f.site.home to) in
      let pad : ℕ = f.site.room - length f.site.origins in
      let in_site : f.index < length (site_cells f.site) = omega (arith, sl, a.fits, f.within) in
      let in_held : f.index < length (held f.site.home f.site.origins) = omega (arith, hl, f.within) in
      let one : set (site_cells f.site) f.index (Some (use_in f.site.home to)) ≡ site_cells t =
      set-append_left (held f.site.home f.site.origins) (replicate (f.site.room - length f.site.origins) None) f.index (Some (use_in f.site.home to)) in_held
      ∙ (λ j. (sym (map-set (λ y. Some (use_in f.site.home y)) f.site.origins f.index to)) j ++ replicate (f.site.room - (sym (length-set f.site.origins f.index to)) j) None) in
      let row : set (cells_of sites) cell (Some (use_in used.home to)) ≡ cells_of (set sites f.at t) =
      (λ j. set (a.cells j) cell (Some (use_in (same_home j) to)))
      ∙ set-append_right a.before (site_cells f.site ++ a.after) (length a.before) cell (Some (use_in f.site.home to)) refl (omega (arith, a.start, f.place))
      ∙ ap (λ n. a.before ++ set (site_cells f.site ++ a.after) n (Some (use_in f.site.home to))) (omega (arith, a.start, f.place))
      ∙ ap (λ r. a.before ++ r) (set-append_left (site_cells f.site) a.after f.index (Some (use_in f.site.home to)) in_site)
      ∙ ap (λ r. a.before ++ (r ++ a.after)) one
      ∙ sym ch.cells in
      record {
        laid = (let P : List PlainSite → Type 0 = λ ss. AreLaid 0 ss in subst P (sym whole) ch.laid);
        owned = is.owned ∙ sym ch.owners ∙ ap (owners_from 0) (sym whole);
        cells = ap (λ (r : UseCells). r.cells) q ∙ ap (λ l. set l cell (Some (use_in used.home to))) is.cells ∙ row ∙ ap cells_of (sym whole);
        names = ap (λ (r : UseCells). r.names) q ∙ is.names;
        lists = ap (map list_seen) whole ∙ sym f.moved ∙ ap (use_moved used to) is.lists;
        room = is.room;
      }

  -- ---- an origin goes

  pub removed_is : (at index : ℕ) (s : PlainSite) → slice_get sites at ≡ Some s → index < length s.origins
      → (n : ℕ) → n ≡ length s.origins - (index + 1)
      → (sites' : List PlainSite) (u' : UseCells) → sites' ≡ set sites at (record s { origins = remove s.origins index }) → u' ≡ with_closed u (s.cell + index) n
      → Stored sites' owners u' (record v { lists = at_with at (without index) v.lists })
  removed_is at index s e lt n m sites' u' p q =
      let a = around_at at s e in
      let d : Origin = get_or s.origins index (Origin_at s.origins) in
      let t : PlainSite = record s { origins = remove s.origins index } in
      let front : length (take index s.origins) ≡ index = length-take-le index s.origins (omega arith) in
      let back : length (drop (suc index) s.origins) ≡ n = omega (arith, length-drop (suc index) s.origins, m) in
      let less : length (remove s.origins index) + 1 ≡ length s.origins = omega (arith, length-append (take index s.origins) (drop (suc index) s.origins), front, length-drop (suc index) s.origins) in
      let ch = a.changed t refl refl (omega (arith, less, a.fits)) in
      let whole : s.origins ≡ take index s.origins ++ d ∷ drop (suc index) s.origins =
      sym (take-append-drop index s.origins) ∙ ap (λ r. take index s.origins ++ r) (drop_more s.origins index (Origin_at s.origins) lt ∙ ap (λ k. d ∷ drop k s.origins) (let z : index + 1 ≡ suc index = omega arith in z)) in
      let f : Origin → Option Use = λ o. Some (use_in s.home o) in
      let pad : List (Option Use) = replicate (s.room - length s.origins) None in
      let split : cells_of sites ≡ (a.before ++ held s.home (take index s.origins)) ++ f d ∷ (held s.home (drop (suc index) s.origins) ++ (pad ++ a.after)) =
      a.cells
      ∙ ap (λ r. a.before ++ ((map f r ++ pad) ++ a.after)) whole
      ∙ ap (λ r. a.before ++ ((r ++ pad) ++ a.after)) (map-append f (take index s.origins) (d ∷ drop (suc index) s.origins))
      ∙ (simp append_assoc) in
      let gap = gap_in (a.before ++ held s.home (take index s.origins)) (held s.home (drop (suc index) s.origins)) (pad ++ a.after) (f d) None (s.cell + index) n
      (omega (arith, length-append a.before (held s.home (take index s.origins)), length-map (take index s.origins) f, front, a.start))
      (length-map (drop (suc index) s.origins) f ∙ back) in
      let more : None ∷ replicate (s.room - length s.origins) None ≡ replicate {A = Option Use} (s.room - length (remove s.origins index)) None =
      ap (λ k. replicate k None) (let z : suc (s.room - length s.origins) ≡ s.room - length (remove s.origins index) = omega (arith, less, a.fits) in z) in
      let join : (a.before ++ held s.home (take index s.origins)) ++ (held s.home (drop (suc index) s.origins) ++ None ∷ (pad ++ a.after)) ≡ cells_of (set sites at t) =
      (simp append_assoc)
      ∙ ap (λ r. a.before ++ (held s.home (take index s.origins) ++ (held s.home (drop (suc index) s.origins) ++ (r ++ a.after)))) more
      ∙ sym (ch.cells ∙ ap (λ r. a.before ++ ((r ++ replicate (s.room - length (remove s.origins index)) None) ++ a.after)) (map-append f (take index s.origins) (drop (suc index) s.origins)) ∙ (simp append_assoc)) in
      record {
        laid = (let P : List PlainSite → Type 0 = λ ss. AreLaid 0 ss in subst P (sym p) ch.laid);
        owned = is.owned ∙ sym ch.owners ∙ ap (owners_from 0) (sym p);
        cells = ap (λ (r : UseCells). r.cells) q ∙ ap (closed (s.cell + index) n) (is.cells ∙ split) ∙ gap ∙ join ∙ ap cells_of (sym p);
        names = ap (λ (r : UseCells). r.names) q ∙ is.names;
        lists = ap (map list_seen) p ∙ at_of sites at s t (without index) e refl ∙ ap (at_with at (without index)) is.lists;
        room = is.room;
      }
    where
      Origin_at : List Origin → Origin
      Origin_at xs = Arg 0

  -- ---- all origins of a list go

  pub cleared_is : (at : ℕ) (s : PlainSite) → slice_get sites at ≡ Some s
      → (n : ℕ) → n ≡ length s.origins
      → (sites' : List PlainSite) (u' : UseCells) → sites' ≡ set sites at (record s { origins = [] }) → u' ≡ with_written u s.cell (replicate n None)
      → Stored sites' owners u' (record v { lists = at_with at emptied v.lists })
  cleared_is at s e n m sites' u' p q =
      let a = around_at at s e in
      let t : PlainSite = record s { origins = [] } in
      let ch = a.changed t refl refl (omega arith) in
      let f : Origin → Option Use = λ o. Some (use_in s.home o) in
      let pad : List (Option Use) = replicate (s.room - length s.origins) None in
      let split : cells_of sites ≡ a.before ++ (held s.home s.origins ++ (pad ++ a.after)) = a.cells ∙ (simp append_assoc) in
      let all : replicate n None ++ replicate (s.room - length s.origins) None ≡ replicate {A = Option Use} (s.room - 0) None =
      replicate-append-replicate n (s.room - length s.origins) None ∙ ap (λ k. replicate k None) (omega (arith, m, a.fits)) in
      record {
        laid = (let P : List PlainSite → Type 0 = λ ss. AreLaid 0 ss in subst P (sym p) ch.laid);
        owned = is.owned ∙ sym ch.owners ∙ ap (owners_from 0) (sym p);
        cells =
            ap (λ (r : UseCells). r.cells) q ∙ ap (written s.cell (replicate n None)) (is.cells ∙ split)
            ∙ written_in a.before (held s.home s.origins) (pad ++ a.after) (replicate n None) s.cell (omega (arith, a.start)) (length-map s.origins f ∙ sym m ∙ sym (length-replicate {A = Option Use} n None))
            ∙ ap (λ r. a.before ++ r) (sym (append_assoc (replicate n None) pad a.after))
            ∙ ap (λ r. a.before ++ (r ++ a.after)) all
            ∙ sym ch.cells ∙ ap cells_of (sym p);
        names = ap (λ (r : UseCells). r.names) q ∙ is.names;
        lists = ap (map list_seen) p ∙ at_of sites at s t emptied e refl ∙ ap (at_with at emptied) is.lists;
        room = is.room;
      }
