-- Lists that are stored one after another, and the index that is made of them.
use Rattle.std.proofs.Common.{◌≡◌, ℕ, zero, suc, ◌+◌, ◌-◌, ◌≤◌, Option, Some, None, List, [], ◌∷◌, ◌++◌, length, map, replicate, take, drop, refl, ap, sym, ◌∙◌, subst, append_assoc, length-append, arith}
use Rattle.std.specs.Prelude.{slice_get}
use Rattle.std.proofs.lemmas.List.{length-map, length-replicate, replicate-append-replicate, append-nil, map_push}
use Rattle.std.proofs.lemmas.Option.{same_Some}
use Rattle.g_arena_use.specs.declared.use_index.Use.{Use}
use Rattle.g_arena_use.specs.UseCells.{UseCells, with_written}
use Rattle.g_arena_use.specs.Lists.{PlainList, use_in, origins_in, made_of, AreNamedIn, AllNamed}
use Rattle.g_arena_use.specs.Sites.{PlainSite, list_seen, held, site_cells, cells_of, AreLaid, AreFull, owners_from}
use Rattle.g_arena_use.proofs.NameLemmas.{apart}
use Rattle.g_arena_use.proofs.CellLemmas.{written_in}
use Rattle.g_arena_use.proofs.SiteLemmas.{site_length, owners_length}
use Rattle.g_arena_use.proofs.StoredLemmas.{Stored}

pub record Made (sites : List PlainSite) (owners : List ℕ) (lists : List PlainList) : Type 0 where
  pub laid : AreLaid 0 sites
  pub full : AreFull sites
  pub owned : owners ≡ owners_from 0 sites
  pub seen : map list_seen sites ≡ lists

laid_more : (first k : ℕ) (ss : List PlainSite) (s : PlainSite) → AreLaid first ss → s.cell ≡ first + length (owners_from k ss) → length s.origins ≤ s.room → AreLaid first (ss ++ s ∷ [])
laid_more first k [] s l e f = (omega (arith, e), f, tt)
laid_more first k (x ∷ ss) s l e f =
    (l.0, l.1, laid_more (first + x.room) (suc k) ss s l.2 (omega (arith, e, length-append (replicate x.room k) (owners_from (suc k) ss), length-replicate x.room k)) f)

full_more : (ss : List PlainSite) (s : PlainSite) → AreFull ss → s.room ≡ length s.origins → AreFull (ss ++ s ∷ [])
full_more [] s h e = (e, tt)
full_more (x ∷ ss) s h e = (h.0, full_more ss s h.1 e)

owners_more : (k : ℕ) (ss : List PlainSite) (s : PlainSite) → owners_from k (ss ++ s ∷ []) ≡ owners_from k ss ++ replicate s.room (k + length ss)
owners_more k [] s = append-nil (replicate s.room k) ∙ ap (replicate s.room) (omega arith)
owners_more k (x ∷ ss) s =
    ap (λ os. replicate x.room k ++ os) (owners_more (suc k) ss s)
    ∙ sym (append_assoc (replicate x.room k) (owners_from (suc k) ss) (replicate s.room (suc k + length ss)))
    ∙ ap (λ n. (replicate x.room k ++ owners_from (suc k) ss) ++ replicate s.room n) (omega arith)

pub made_more : (sites sites' : List PlainSite) (owners owners' : List ℕ) (lists : List PlainList) (l : PlainList) → Made sites owners lists
    → sites' ≡ sites ++ record { home = l.home; origins = l.origins; cell = length owners; room = length l.origins } ∷ []
    → owners' ≡ owners ++ replicate (length l.origins) (length sites)
    → Made sites' owners' (lists ++ l ∷ [])
made_more sites sites' owners owners' lists l m e f =
    let s : PlainSite = record { home = l.home; origins = l.origins; cell = length owners; room = length l.origins } in
    record {
      laid = (let P : List PlainSite → Type 0 = λ ss. AreLaid 0 ss in subst P (sym e) (laid_more 0 0 sites s m.laid (ap length m.owned ∙ (omega arith)) (omega arith)));
      full = (let P : List PlainSite → Type 0 = λ ss. AreFull ss in subst P (sym e) (full_more sites s m.full refl));
      owned = f ∙ ap (λ os. os ++ replicate (length l.origins) (length sites)) m.owned ∙ ap (λ n. owners_from 0 sites ++ replicate (length l.origins) n) (omega arith) ∙ sym (owners_more 0 sites s) ∙ sym (ap (owners_from 0) e);
      seen = ap (map list_seen) e ∙ map_push list_seen sites s ∙ ap (λ ls. ls ++ l ∷ []) m.seen;
    }

pub made_room : (sites : List PlainSite) (owners : List ℕ) (lists : List PlainList) → Made sites owners lists → length owners ≡ origins_in lists
made_room sites owners lists m = ap length m.owned ∙ total 0 sites m.full ∙ ap origins_in m.seen
  where
    total : (k : ℕ) (ss : List PlainSite) → AreFull ss → length (owners_from k ss) ≡ origins_in (map list_seen ss)
    total k [] h = refl
    total k (x ∷ ss) h = omega (arith, length-append (replicate x.room k) (owners_from (suc k) ss), length-replicate x.room k, h.0, total (suc k) ss h.1)

pub made_cells : (sites : List PlainSite) (owners : List ℕ) (lists : List PlainList) → Made sites owners lists → length owners ≡ length (cells_of sites)
made_cells sites owners lists m = ap length m.owned ∙ owners_length 0 0 sites m.laid

pub made_stored : (names : List Use) (sites : List PlainSite) (owners : List ℕ) (lists : List PlainList) (u : UseCells) → Made sites owners lists → u ≡ record { names = names; cells = cells_of sites }
    → Stored sites owners u (made_of names lists)
made_stored names sites owners lists u m e = record {
  laid = m.laid;
  owned = m.owned;
  cells = ap (λ (r : UseCells). r.cells) e;
  names = ap (λ (r : UseCells). r.names) e;
  lists = m.seen;
  room = made_room sites owners lists m;
}

-- ---- the index of them

full_at : (ss : List PlainSite) (at : ℕ) (s : PlainSite) → AreFull ss → slice_get ss at ≡ Some s → s.room ≡ length s.origins
full_at [] at s h e = absurd (apart s e)
full_at (x ∷ ss) zero s h e = let P : PlainSite → Type 0 = λ y. y.room ≡ length y.origins in subst P (same_Some x s e) h.0
full_at (x ∷ ss) (suc at) s h e = full_at ss at s h.1 e

start_at : (first : ℕ) (ss : List PlainSite) (at : ℕ) (s : PlainSite) → AreLaid first ss → slice_get ss at ≡ Some s
    → (s.cell ≡ first + length (cells_of (take at ss))) × (length (cells_of (take at ss)) + s.room ≤ length (cells_of ss))
start_at first [] at s l e = absurd (apart s e)
start_at first (x ∷ ss) zero s l e =
    let P : PlainSite → Type 0 = λ y. (y.cell ≡ first + 0) × (0 + y.room ≤ length (cells_of (x ∷ ss))) in
    subst P (same_Some x s e) (omega (arith, l.0), omega (arith, length-append (site_cells x) (cells_of ss), site_length x l.1))
start_at first (x ∷ ss) (suc at) s l e =
    let r = start_at (first + x.room) ss at s l.2 e in
    let n = length-append (site_cells x) (cells_of (take at ss)) in
    let m = length-append (site_cells x) (cells_of ss) in
    let h = site_length x l.1 in
    (omega (arith, r.0, n, h), omega (arith, r.1, n, m))

cells_next : (ss : List PlainSite) (at : ℕ) (s : PlainSite) → slice_get ss at ≡ Some s → cells_of (take (suc at) ss) ≡ cells_of (take at ss) ++ site_cells s
cells_next [] at s e = absurd (apart s e)
cells_next (x ∷ ss) zero s e = append-nil (site_cells x) ∙ ap site_cells (same_Some x s e)
cells_next (x ∷ ss) (suc at) s e = ap (λ c. site_cells x ++ c) (cells_next ss at s e) ∙ sym (append_assoc (site_cells x) (cells_of (take at ss)) (site_cells s))

cells_more : (ss : List PlainSite) (at : ℕ) (s : PlainSite) → slice_get ss at ≡ Some s → cells_of (take (at + 1) ss) ≡ cells_of (take at ss) ++ site_cells s
cells_more ss at s e = ap (λ n. cells_of (take n ss)) (let z : at + 1 ≡ suc at = omega arith in z) ∙ cells_next ss at s e

pub named_in : (names : List Use) (ss : List PlainSite) (at : ℕ) (s : PlainSite) → AllNamed names (map list_seen ss) → slice_get ss at ≡ Some s → AreNamedIn names s.home s.origins
named_in names [] at s h e = absurd (apart s e)
named_in names (x ∷ ss) zero s h e = let P : PlainSite → Type 0 = λ y. AreNamedIn names y.home y.origins in subst P (same_Some x s e) h.0
named_in names (x ∷ ss) (suc at) s h e = named_in names ss at s h.1 e

-- the index once the first lists are in it
abbrev pub part_of : List Use → List PlainSite → (cells at : ℕ) → UseCells
part_of names ss n at = record { names = names; cells = cells_of (take at ss) ++ replicate (n - length (cells_of (take at ss))) None }

pub part_within : (names : List Use) (ss : List PlainSite) (n at : ℕ) → n ≤ length (part_of names ss n at).cells
part_within names ss n at =
    omega (arith, length-append (cells_of (take at ss)) (replicate (n - length (cells_of (take at ss))) None), length-replicate {A = Option Use} (n - length (cells_of (take at ss))) None)

pub part_ends : (ss : List PlainSite) (n at : ℕ) (s : PlainSite) → AreLaid 0 ss → n ≡ length (cells_of ss) → slice_get ss at ≡ Some s → s.cell + length s.origins ≤ n
part_ends ss n at s l e f =
    let b = start_at 0 ss at s l f in
    omega (arith, b.0, b.1, fits_at 0 ss at s l f, e)
  where
    fits_at : (first : ℕ) (ss : List PlainSite) (at : ℕ) (s : PlainSite) → AreLaid first ss → slice_get ss at ≡ Some s → length s.origins ≤ s.room
    fits_at first [] at s l e = absurd (apart s e)
    fits_at first (x ∷ ss) zero s l e = let P : PlainSite → Type 0 = λ y. length y.origins ≤ y.room in subst P (same_Some x s e) l.1
    fits_at first (x ∷ ss) (suc at) s l e = fits_at (first + x.room) ss at s l.2 e

pub part_more : (names : List Use) (ss : List PlainSite) (n at : ℕ) (s : PlainSite) (u : UseCells) → AreLaid 0 ss → AreFull ss → n ≡ length (cells_of ss) → slice_get ss at ≡ Some s
    → u ≡ with_written (part_of names ss n at) s.cell (held s.home s.origins) → u ≡ part_of names ss n (at + 1)
part_more names ss n at s u l h e f g =
    let b = start_at 0 ss at s l f in
    let k : ℕ = length s.origins in
    let front : List (Option Use) = cells_of (take at ss) in
    let rest : ℕ = n - length (cells_of (take at ss)) in
    let room : s.room ≡ length s.origins = full_at ss at s h f in
    let hl : length (held s.home s.origins) ≡ length s.origins = length-map s.origins (λ o. Some (use_in s.home o)) in
    let parts : replicate {A = Option Use} (n - length (cells_of (take at ss))) None ≡ replicate (length s.origins) None ++ replicate (n - length (cells_of (take at ss)) - length s.origins) None =
    sym (replicate-append-replicate (length s.origins) (n - length (cells_of (take at ss)) - length s.origins) None ∙ ap (λ m. replicate m None) (omega (arith, b.1, e, room))) in
    let site : site_cells s ≡ held s.home s.origins = ap (λ m. held s.home s.origins ++ replicate m None) (let z : s.room - length s.origins ≡ 0 = omega (arith, room) in z) ∙ append-nil (held s.home s.origins) in
    let more : cells_of (take (at + 1) ss) ≡ cells_of (take at ss) ++ held s.home s.origins = cells_more ss at s f ∙ ap (λ c. cells_of (take at ss) ++ c) site in
    let left : n - length (cells_of (take at ss)) - length s.origins ≡ n - length (cells_of (take (at + 1) ss)) =
    omega (arith, ap length more, length-append (cells_of (take at ss)) (held s.home s.origins), hl) in
    g ∙ (λ i. record {
      names = names;
      cells = (
          ap (λ r. take s.cell (front ++ r) ++ (held s.home s.origins ++ drop (s.cell + length (held s.home s.origins)) (front ++ r))) parts
          ∙ written_in front (replicate (length s.origins) None) (replicate (n - length (cells_of (take at ss)) - length s.origins) None) (held s.home s.origins) s.cell (omega (arith, b.0)) (length-replicate {A = Option Use} (length s.origins) None ∙ sym hl)
          ∙ sym (append_assoc front (held s.home s.origins) (replicate (n - length (cells_of (take at ss)) - length s.origins) None))
          ∙ (λ j. (sym more) j ++ replicate (left j) None)) i;
    })
