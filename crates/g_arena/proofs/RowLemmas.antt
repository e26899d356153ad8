-- The rows of an arena: one more, and their numbers.
use Rattle.std.proofs.Common.{◌≡◌, ℕ, ◌+◌, ◌<◌, Bool, true, false, cond, eqb, List, [], ◌∷◌, ◌++◌, length, map, get_or, drop, refl, ap, sym, ◌∙◌, append_assoc, arith}
use Rattle.std.proofs.lemmas.Bool.{or_parts, or_from}
use Rattle.std.proofs.lemmas.List.{drop_more}
use Rattle.cell_lists.specs.Lists.{is_in, AreDistinct}
use Rattle.g_arena_def.specs.Flat.{FlatNode, place_in}
use Rattle.g_arena_nodes.specs.Made.{HasNumbersOnce}
use Rattle.g_arena_use.specs.Lists.{PlainList, no_list, origins_at}
use Rattle.g_arena_use.specs.Plain.{PlainSlot, no_slot, slot_at, is_live, numbers_of}
use Rattle.g_arena_use.specs.Seen.{slot_seen, nodes_seen}
use Rattle.g_arena_use.specs.Indexed.{AreResults}
use Rattle.g_arena_use.proofs.ReadLemmas.{home_at}
use Rattle.g_arena.specs.Rows.{HaveResults, with_row}

pub row_more : (xs ls : List PlainList) (ss : List PlainSlot) (k : ℕ) (rows : List FlatNode) → k < length xs → length xs ≡ length ss
    → with_row (is_live (slot_at ss k)) (slot_seen (origins_at xs k) ls (slot_at ss k)) rows ++ nodes_seen (drop (k + 1) xs) ls (drop (k + 1) ss) ≡ rows ++ nodes_seen (drop k xs) ls (drop k ss)
row_more xs ls ss k rows lt e =
    by (is_live (slot_at ss k)) refl ∙ sym (λ i. rows ++ nodes_seen (drop_more xs k no_list lt i) ls (drop_more ss k no_slot (omega (arith, lt, e)) i))
  where
    by : (t : Bool) → is_live (slot_at ss k) ≡ t → with_row t (slot_seen (origins_at xs k) ls (slot_at ss k)) rows ++ nodes_seen (drop (k + 1) xs) ls (drop (k + 1) ss)
        ≡ rows ++ nodes_seen (get_or xs k no_list ∷ drop (k + 1) xs) ls (get_or ss k no_slot ∷ drop (k + 1) ss)
    by true q =
        append_assoc rows (slot_seen (origins_at xs k) ls (slot_at ss k) ∷ []) (nodes_seen (drop (k + 1) xs) ls (drop (k + 1) ss))
        ∙ sym (ap (λ b. rows ++ cond b (slot_seen (origins_at xs k) ls (slot_at ss k) ∷ nodes_seen (drop (k + 1) xs) ls (drop (k + 1) ss)) (nodes_seen (drop (k + 1) xs) ls (drop (k + 1) ss))) q)
    by false q = sym (ap (λ b. rows ++ cond b (slot_seen (origins_at xs k) ls (slot_at ss k) ∷ nodes_seen (drop (k + 1) xs) ls (drop (k + 1) ss)) (nodes_seen (drop (k + 1) xs) ls (drop (k + 1) ss))) q)

-- the numbers of what is seen are among those of the slots
abbrev ids_of : List FlatNode → List ℕ
ids_of ns = map (λ (x : FlatNode). x.id) ns

not_seen : (n : ℕ) (xs ls : List PlainList) (ss : List PlainSlot) → is_in n (numbers_of ss) ≡ false → is_in n (ids_of (nodes_seen xs ls ss)) ≡ false
not_seen n [] ls [] h = refl
not_seen n (x ∷ xs) ls [] h = refl
not_seen n [] ls (s ∷ ss) h = refl
not_seen n (x ∷ xs) ls (s ∷ ss) h = let p = or_parts (eqb n s.id) (is_in n (numbers_of ss)) h in by (is_live s) p.0 (not_seen n xs ls ss p.1)
  where
    by : (t : Bool) → eqb n s.id ≡ false → is_in n (ids_of (nodes_seen xs ls ss)) ≡ false → is_in n (ids_of (cond t (slot_seen x.origins ls s ∷ nodes_seen xs ls ss) (nodes_seen xs ls ss))) ≡ false
    by true e r = or_from _ _ e r
    by false e r = r

pub seen_once : (xs ls : List PlainList) (ss : List PlainSlot) → AreDistinct (numbers_of ss) → HasNumbersOnce (nodes_seen xs ls ss)
seen_once [] ls [] d = tt
seen_once (x ∷ xs) ls [] d = tt
seen_once [] ls (s ∷ ss) d = tt
seen_once (x ∷ xs) ls (s ∷ ss) d = by (is_live s) (not_seen s.id xs ls ss d.0) (seen_once xs ls ss d.1)
  where
    by : (t : Bool) → is_in s.id (ids_of (nodes_seen xs ls ss)) ≡ false → HasNumbersOnce (nodes_seen xs ls ss) → HasNumbersOnce (cond t (slot_seen x.origins ls s ∷ nodes_seen xs ls ss) (nodes_seen xs ls ss))
    by true e r = (e, r)
    by false e r = r

pub have_results : (ls : List PlainList) (ss : List PlainSlot) → AreResults ls ss → HaveResults ls ss
have_results ls ss a k s e r lt = home_at ls (s.results + r) (place_in s.id r) (a.slots k r s e lt)
