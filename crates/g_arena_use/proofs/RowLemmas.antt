-- Cells in a row of the index of uses: what writing them one after another, and moving them on, comes to.
use Rattle.std.proofs.Common.{◌≡◌, ℕ, suc, ◌+◌, ◌<◌, ◌≤◌, Option, Some, None, List, [], ◌∷◌, ◌++◌, length, replicate, get_or, set, take, drop, ap, sym, ◌∙◌, arith}
use Rattle.std.proofs.lemmas.List.{length-take-le, length-drop, replicate_more, set_split, take_more, map_push}
use Rattle.g_graph.specs.declared.op.Origin.{Origin}
use Rattle.g_arena_def.specs.declared.place.Place.{Place}
use Rattle.g_arena_use.specs.declared.use_index.Use.{Use}
use Rattle.g_arena_use.specs.UseCells.{UseCells, with_use, with_moved, written, with_written, with_closed}
use Rattle.g_arena_use.specs.Lists.{use_in}
use Rattle.g_arena_use.specs.Sites.{held}
use Rattle.g_arena_use.proofs.CellLemmas.{write_step, gap_step}

pub written_more : (s t r : UseCells) (c n : ℕ) (ws : List (Option Use)) (v : Option Use) → s ≡ with_written t c ws → n ≡ c + length ws → n < length t.cells → r ≡ with_use s n v → r ≡ with_written t c (ws ++ v ∷ [])
written_more s t r c n ws v e f lt g =
    let fits : c + length ws < length t.cells = omega (arith, f, lt) in
    g ∙ ap (λ x. with_use x n v) e ∙ (λ i. record { names = t.names; cells = (ap (λ m. set (written c ws t.cells) m v) f ∙ write_step t.cells ws c v None fits) i })

pub held_more : (p : Place) (xs : List Origin) (k : ℕ) (d : Origin) → k < length xs → held p (take k xs) ++ Some (use_in p (get_or xs k d)) ∷ [] ≡ held p (take (k + 1) xs)
held_more p xs k d lt = sym (map_push (λ o. Some (use_in p o)) (take k xs) (get_or xs k d)) ∙ ap (held p) (sym (take_more xs k d lt))

pub none_more : (n : ℕ) → replicate n None ++ None ∷ [] ≡ replicate {A = Option Use} (n + 1) None
none_more n = replicate_more n None

-- ---- cells that move on

pub closed_none : (s t : UseCells) (c : ℕ) → c < length s.cells → t ≡ with_use s c None → t ≡ with_closed s c 0
closed_none s t c lt e =
    e ∙ (λ i. record { names = s.names; cells = (set_split s.cells c None lt ∙ ap (λ n. take c s.cells ++ None ∷ drop n s.cells) (let z : suc c ≡ c + 1 = omega arith in z)) i })

pub closed_more : (s t r : UseCells) (c i from to : ℕ) → s ≡ with_closed t c i → to ≡ c + i → from ≡ c + i + 1 → from < length t.cells → r ≡ with_moved s from to → r ≡ with_closed t c (i + 1)
closed_more s t r c i from to e f g lt h =
    let few : c ≤ length t.cells = omega (arith, g, lt) in
    let front : length (take c t.cells) ≡ c = length-take-le c t.cells few in
    let inside : i < length (drop (c + 1) t.cells) = omega (arith, length-drop (c + 1) t.cells, g, lt) in
    h ∙ ap (λ x. with_moved x from to) e
    ∙ (λ j. record { names = t.names; cells = (gap_step (take c t.cells) (drop (c + 1) t.cells) i from to None None inside (omega (arith, front, f)) (omega (arith, front, g))) j })
