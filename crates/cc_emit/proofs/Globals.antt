-- The links of a program's globals stand within them, apart.
use Rattle.std.proofs.Common.{◌≡◌, ℕ, ◌+◌, ◌%◌, ◌≤◌, ◌==◌, refl, Bool, true, false, List, [], ◌∷◌, map, length, inl, inr, eq-eqb, arith}
use Rattle.std.specs.Prelude.{◌⊎◌, ◌&&◌, ◌||◌, not, nat_le, nat_lt}
use Rattle.std.proofs.lemmas.Bool.{and_from, and_parts, leb-true, le-leb, or_left, or_right}
use Rattle.val_core.specs.declared.leaf.Leaf.{Leaf}
use Rattle.g_graph.specs.declared.link.Link.{Link}
use Rattle.g_graph.specs.Program.{link_fits}
use Rattle.g_graph.specs.WellFormed.{all_of, some_of, distinct, is_width, leaves_fit}
use Rattle.g_graph.proofs.lemmas.Unique.{all_of_holds, same_number}
use Rattle.rv_layout.specs.Conditions.{link_has_global, link_is_within, are_apart, links_are_apart}
use Rattle.cc_emit.specs.Laws.{GlobalsFit}
use Rattle.cc_emit.proofs.Placed.{or_cases}

-- ---- leaves

record FirstLeaf (size from : ℕ) (l : Leaf) (ls : List Leaf) : Type 0 where
  start : from ≤ l.offset
  end : l.offset + l.width ≤ size
  rest : leaves_fit size (l.offset + l.width) ls ≡ true

first_leaf : (size from : ℕ) (l : Leaf) (ls : List Leaf) → leaves_fit size from (l ∷ ls) ≡ true → FirstLeaf size from l ls
first_leaf size from l ls h =
    let last = and_parts (nat_le from l.offset && nat_le (l.offset + l.width) size && is_width l.width && (l.offset % l.width == 0))
    (leaves_fit size (l.offset + l.width) ls) h in
    let aligned = and_parts (nat_le from l.offset && nat_le (l.offset + l.width) size && is_width l.width) (l.offset % l.width == 0) last.0 in
    let width = and_parts (nat_le from l.offset && nat_le (l.offset + l.width) size) (is_width l.width) aligned.0 in
    let ends = and_parts (nat_le from l.offset) (nat_le (l.offset + l.width) size) width.0 in
    record { start = leb-true from l.offset ends.0; end = leb-true (l.offset + l.width) size ends.1; rest = last.1 }

-- a leaf of width 4 begins there
stands : ℕ → Leaf → Bool
stands o l = (l.offset == o) && (l.width == 4)

record Stands (o : ℕ) (l : Leaf) : Type 0 where
  offset : l.offset ≡ o
  width : l.width ≡ 4

stands_there : (o : ℕ) (l : Leaf) → stands o l ≡ true → Stands o l
unfolding stands
stands_there o l h =
    let parts = and_parts (l.offset == o) (l.width == 4) h in
    record { offset = same_number l.offset o parts.0; width = same_number l.width 4 parts.1 }

record IsInside (size from o : ℕ) : Type 0 where
  start : from ≤ o
  end : o + 4 ≤ size

inside : (size from : ℕ) (ls : List Leaf) (o : ℕ) → leaves_fit size from ls ≡ true → some_of (stands o) ls ≡ true → IsInside size from o
inside size from [] o fits there = absurd cc
inside size from (l ∷ ls) o fits there =
    let f = first_leaf size from l ls fits in
    or_cases (stands o l) (some_of (stands o) ls) (IsInside size from o) there
    (λ e. let s = stands_there o l e in record { start = omega arith; end = omega arith })
    (λ e. let r = inside size (l.offset + l.width) ls o f.rest e in record { start = omega arith; end = omega arith })

apart : (size from : ℕ) (ls : List Leaf) (a b : ℕ) → (a ≡ b → ⊥) → leaves_fit size from ls ≡ true → some_of (stands a) ls ≡ true → some_of (stands b) ls ≡ true
    → (a + 4 ≤ b) ⊎ (b + 4 ≤ a)
apart size from [] a b differ fits ha hb = absurd cc
apart size from (l ∷ ls) a b differ fits ha hb =
    let f = first_leaf size from l ls fits in
    or_cases (stands a l) (some_of (stands a) ls) ((a + 4 ≤ b) ⊎ (b + 4 ≤ a)) ha
    (λ e. or_cases (stands b l) (some_of (stands b) ls) ((a + 4 ≤ b) ⊎ (b + 4 ≤ a)) hb
    (λ k. let s = stands_there a l e in let t = stands_there b l k in absurd (differ (omega arith)))
    (λ k. let s = stands_there a l e in let r = inside size (l.offset + l.width) ls b f.rest k in inl (omega arith)))
    (λ e. or_cases (stands b l) (some_of (stands b) ls) ((a + 4 ≤ b) ⊎ (b + 4 ≤ a)) hb
    (λ k. let s = stands_there b l k in let r = inside size (l.offset + l.width) ls a f.rest e in inr (omega arith))
    (λ k. apart size (l.offset + l.width) ls a b differ f.rest e k))

-- ---- links

not_or : (x y : Bool) → not (x || y) ≡ true → x ≡ true → ⊥
not_or true y h e = absurd cc
not_or false y h e = absurd cc

not_first : (a b : ℕ) (ns : List ℕ) → not (some_of (λ k. a == k) (b ∷ ns)) ≡ true → a ≡ b → ⊥
not_first a b ns h e = not_or (a == b) (some_of (λ k. a == k) ns) h (eq-eqb a b e)

drop_or : (x y : Bool) → not (x || y) ≡ true → not y ≡ true
drop_or true y h = absurd cc
drop_or false y h = h

not_rest : (a b : ℕ) (ns : List ℕ) → not (some_of (λ k. a == k) (b ∷ ns)) ≡ true → not (some_of (λ k. a == k) ns) ≡ true
not_rest a b ns h = drop_or (a == b) (some_of (λ k. a == k) ns) h

apart_true : (l m : Link) → (l.at + 4 ≤ m.at) ⊎ (m.at + 4 ≤ l.at) → are_apart l m ≡ true
apart_true l m h =
    elim h [
      | inl a ↦ or_left (nat_le (l.at + 4) m.at) (nat_le (m.at + 4) l.at) (le-leb (l.at + 4) m.at a)
      | inr b ↦ or_right (nat_le (l.at + 4) m.at) (nat_le (m.at + 4) l.at) (le-leb (m.at + 4) l.at b)
    ]

module _ (globals size : ℕ) (leaves : List Leaf) (fits : leaves_fit size 0 leaves ≡ true) where
  unfolded : (k : Link) → link_fits globals leaves k ≡ true → some_of (stands k.at) leaves ≡ true
  unfolding stands
  unfolded k h = (and_parts _ (nat_lt k.delta globals) h).0

  from_one : (l : Link) → link_fits globals leaves l ≡ true → (ms : List Link) → all_of (link_fits globals leaves) ms ≡ true
      → not (some_of (λ k. l.at == k) (map (λ (k : Link). k.at) ms)) ≡ true → all_of (are_apart l) ms ≡ true
  from_one l h [] a d = refl
  from_one l h (m ∷ ms) a d =
      let parts = and_parts (link_fits globals leaves m) (all_of (link_fits globals leaves) ms) a in
      and_from (are_apart l m) (all_of (are_apart l) ms)
      (apart_true l m (apart size 0 leaves l.at m.at (λ e. not_first l.at m.at (map (λ (k : Link). k.at) ms) d e) fits (unfolded l h) (unfolded m parts.0)))
      (from_one l h ms parts.1 (not_rest l.at m.at (map (λ (k : Link). k.at) ms) d))

  links_apart : (ls : List Link) → all_of (link_fits globals leaves) ls ≡ true → distinct (map (λ (k : Link). k.at) ls) ≡ true → links_are_apart ls ≡ true
  links_apart [] a d = refl
  links_apart (l ∷ ls) a d =
      let parts = and_parts (link_fits globals leaves l) (all_of (link_fits globals leaves) ls) a in
      let ds = and_parts (not (some_of (λ m. l.at == m) (map (λ (k : Link). k.at) ls))) (distinct (map (λ (k : Link). k.at) ls)) d in
      and_from (all_of (are_apart l) ls) (links_are_apart ls) (from_one l parts.0 ls parts.1 ds.0) (links_apart ls parts.1 ds.1)

pub globals_fit : GlobalsFit
globals_fit globals d g =
    and_from (all_of (link_has_global globals) d.links && all_of (link_is_within (length d.bytes)) d.links) (links_are_apart d.links)
    (and_from (all_of (link_has_global globals) d.links) (all_of (link_is_within (length d.bytes)) d.links)
    (all_of_holds (link_fits globals d.leaves) (link_has_global globals) (λ k h. (and_parts _ (nat_lt k.delta globals) h).1) d.links g.links)
    (all_of_holds (link_fits globals d.leaves) (link_is_within (length d.bytes))
    (λ k h. le-leb (k.at + 4) (length d.bytes) (inside (length d.bytes) 0 d.leaves k.at g.leaves (unfolded globals (length d.bytes) d.leaves g.leaves k h)).end)
    d.links g.links))
    (links_apart globals (length d.bytes) d.leaves g.leaves d.links g.links g.apart)
