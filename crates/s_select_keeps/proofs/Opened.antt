-- The blocks of a call's objects: they get addresses in the free stack as the call begins, and are dead once it has ended.
use Rattle.std.proofs.Common.{◌≡◌, ◌≢◌, ◌⊎◌, ℕ, zero, suc, ◌+◌, ◌-◌, ◌%◌, ◌^◌, ◌<◌, ◌≤◌, ◌==◌, nat_le, nat_lt, ◌&&◌, ◌||◌, if◌then◌else◌, Bool, true, false, cond, List, [], ◌∷◌, ◌++◌, map, length, slice_get, Some, None, refl, sym, ap, subst, ◌∙◌, arith, inl, inr, eqb-true}
use Rattle.std.specs.List.{list_any}
use Rattle.std.proofs.lemmas.Bool.{cases_lt, and_parts, leb-true, le-leb, lt-leb, le-ltb, lt-ltb, both_ways}
use Rattle.std.proofs.lemmas.List.{length-append}
use Rattle.std.proofs.lemmas.Option.{same_Some, slice_get_within}
use Rattle.val_core.specs.declared.leaf.Leaf.{Leaf}
use Rattle.val_core.specs.declared.values.BlockName.{BlockName}
use Rattle.val_core.specs.declared.values.Value.{Value}
use Rattle.val_core.specs.declared.values.Value.TheVariants.{At}
use Rattle.val_core.specs.Memory.{Memory, Block, new_cell, new_block, is_at, value_at, load, dead, closed}
use Rattle.val_core.specs.MemoryLaws.{NewBlocksKeepLoads, ClosedBlocksKeepLoads}
use Rattle.val_core.specs.Objects.{word_of, opened}
use Rattle.g_graph.specs.Plain.{PlainObject, shapes_of}
use Rattle.g_graph.specs.WellFormed.{is_width, leaves_fit}
use Rattle.g_graph.proofs.lemmas.Elements.{get-added}
use Rattle.rv_machine.specs.Memory.{Bytes, load_bytes, has_flag, to_read, to_write, IsWidth}
use Rattle.s_select_keeps.specs.Relation.{Bases, Extends, Shows, Lives, Fellow, LivesAlike, IsLive, IsOutside, has_leaf, LeafFits, BlockFits, AreLaidOut, ShowsMemory}
use Rattle.s_select_keeps.proofs.lemmas.Blocks.{ValueAt, value-there, memory-same}
use Rattle.s_select_keeps.proofs.Extended.{shows-more}

-- ---- leaves of an object

widths : (w : ℕ) → is_width w ≡ true → IsWidth w
widths w e = by (w == 1) (w == 2) (w == 4) refl refl refl e
  where
    by : (a b c : Bool) → (w == 1) ≡ a → (w == 2) ≡ b → (w == 4) ≡ c → is_width w ≡ true → IsWidth w
    by true b c one two four h = inl (eqb-true w 1 one)
    by false true c one two four h = inr (inl (eqb-true w 2 two))
    by false false true one two four h = inr (inr (eqb-true w 4 four))
    by false false false one two four h = absurd (let g : is_width w ≡ false = rw one rw two rw four refl in both_ways (is_width w) g h)

-- a leaf within an object, and no earlier than it begins
record LeafWithin (size first width offset : ℕ) : Type 0 where
  is_width : IsWidth width
  aligned : offset % width ≡ 0
  from : first ≤ offset
  within : offset + width ≤ size

record LeafParts (size from : ℕ) (l : Leaf) (ls : List Leaf) : Type 0 where
  here : LeafWithin size from l.width l.offset
  more : leaves_fit size (l.offset + l.width) ls ≡ true

leaf-parts : (size from : ℕ) (l : Leaf) (ls : List Leaf) → leaves_fit size from (l ∷ ls) ≡ true → LeafParts size from l ls
leaf-parts size from l ls e =
    let a = and_parts (nat_le from l.offset && nat_le (l.offset + l.width) size && is_width l.width && (l.offset % l.width == 0))
    (leaves_fit size (l.offset + l.width) ls) e in
    let b = and_parts (nat_le from l.offset && nat_le (l.offset + l.width) size && is_width l.width) (l.offset % l.width == 0) a.0 in
    let c = and_parts (nat_le from l.offset && nat_le (l.offset + l.width) size) (is_width l.width) b.0 in
    let d = and_parts (nat_le from l.offset) (nat_le (l.offset + l.width) size) c.0 in
    record {
      here = record {
        is_width = widths l.width c.1;
        aligned = eqb-true (l.offset % l.width) 0 b.1;
        from = leb-true from l.offset d.0;
        within = leb-true (l.offset + l.width) size d.1;
      };
      more = a.1;
    }

leaf-fits : (size from width offset : ℕ) (ls : List Leaf) → leaves_fit size from ls ≡ true → list_any (is_at width offset) (map new_cell ls) ≡ true
    → LeafWithin size from width offset
leaf-fits size from width offset [] fit has = absurd cc
leaf-fits size from width offset (l ∷ ls) fit has =
    by (leaf-parts size from l ls fit) ((l.offset == offset) && (l.width == width)) refl
    (leaf-fits size (l.offset + l.width) width offset ls (leaf-parts size from l ls fit).more) has
  where
    by : (parts : LeafParts size from l ls) (test : Bool) → ((l.offset == offset) && (l.width == width)) ≡ test
        → (list_any (is_at width offset) (map new_cell ls) ≡ true → LeafWithin size (l.offset + l.width) width offset)
        → (test || list_any (is_at width offset) (map new_cell ls)) ≡ true → LeafWithin size from width offset
    by parts true e later h =
        let two = and_parts (l.offset == offset) (l.width == width) e in
        subst (λ o. LeafWithin size from width o) (eqb-true l.offset offset two.0)
        (subst (λ w. LeafWithin size from w l.offset) (eqb-true l.width width two.1) parts.here)
    by parts false e later h =
        let rest = later h in
        let first = parts.here.from in
        let second = rest.from in
        record { is_width = rest.is_width; aligned = rest.aligned; from = omega (arith, first, second); within = rest.within }

abbrev AreApart : (w o w' o' : ℕ) → Type 0
AreApart w o w' o' = ((w ≡ w') × (o ≡ o')) ⊎ (o + w ≤ o') ⊎ (o' + w' ≤ o)

leaves-apart : (size from w o w' o' : ℕ) (ls : List Leaf) → leaves_fit size from ls ≡ true → list_any (is_at w o) (map new_cell ls) ≡ true
    → list_any (is_at w' o') (map new_cell ls) ≡ true
    → AreApart w o w' o'
leaves-apart size from w o w' o' [] fit has has' = absurd cc
leaves-apart size from w o w' o' (l ∷ ls) fit has has' =
    by ((l.offset == o) && (l.width == w)) ((l.offset == o') && (l.width == w')) refl refl
    (leaves-apart size (l.offset + l.width) w o w' o' ls (leaf-parts size from l ls fit).more) has has'
  where
    parts : LeafParts size from l ls
    parts = leaf-parts size from l ls fit

    first : (v p : ℕ) → ((l.offset == p) && (l.width == v)) ≡ true → (l.offset ≡ p) × (l.width ≡ v)
    first v p e = let two = and_parts (l.offset == p) (l.width == v) e in (eqb-true l.offset p two.0, eqb-true l.width v two.1)

    later : (v p : ℕ) → list_any (is_at v p) (map new_cell ls) ≡ true → l.offset + l.width ≤ p
    later v p h = (leaf-fits size (l.offset + l.width) v p ls parts.more h).from

    by : (test test' : Bool) → ((l.offset == o) && (l.width == w)) ≡ test → ((l.offset == o') && (l.width == w')) ≡ test'
        → (list_any (is_at w o) (map new_cell ls) ≡ true → list_any (is_at w' o') (map new_cell ls) ≡ true → AreApart w o w' o')
        → (test || list_any (is_at w o) (map new_cell ls)) ≡ true
        → (test' || list_any (is_at w' o') (map new_cell ls)) ≡ true → AreApart w o w' o'
    by true true e e' rest h h' = let a = first w o e in let b = first w' o' e' in inl (sym a.1 ∙ b.1, sym a.0 ∙ b.0)
    by true false e e' rest h h' = let a = first w o e in let b = later w' o' h' in let at = a.0 in let wide = a.1 in inr (inl (omega (arith, at, wide, b)))
    by false true e e' rest h h' = let a = later w o h in let b = first w' o' e' in let at = b.0 in let wide = b.1 in inr (inr (omega (arith, at, wide, a)))
    by false false e e' rest h h' = rest h h'

-- ---- lists in two parts

in-two : {X : Type 0} (xs ys : List X) (n : ℕ) (x : X) → slice_get (xs ++ ys) n ≡ Some x → ((slice_get xs n ≡ Some x) × (n < length xs))
    ⊎ ((j : ℕ) × (n ≡ length xs + j) × (slice_get ys j ≡ Some x))
in-two [] ys n x e = inr (n, omega arith, e)
in-two (a ∷ xs) ys zero x e = inl (e, omega arith)
in-two {X} (a ∷ xs) ys (suc n) x e = by (in-two xs ys n x e)
  where
    by : ((slice_get xs n ≡ Some x) × (n < length xs)) ⊎ ((j : ℕ) × (n ≡ length xs + j) × (slice_get ys j ≡ Some x))
        → ((slice_get (a ∷ xs) (suc n) ≡ Some x) × (suc n < length (a ∷ xs))) ⊎ ((j : ℕ) × (suc n ≡ length (a ∷ xs) + j) × (slice_get ys j ≡ Some x))
    by (inl h) = let low = h.1 in inl (h.0, omega (arith, low))
    by (inr h) = let at = h.1 in inr (h.0, omega (arith, at), h.2)

pub in-back : {X : Type 0} (xs ys : List X) (j : ℕ) (x : X) → slice_get ys j ≡ Some x → slice_get (xs ++ ys) (length xs + j) ≡ Some x
in-back [] ys j x e = let at : j ≡ 0 + j = omega arith in subst (λ n. slice_get ys n ≡ Some x) at e
in-back (a ∷ xs) ys j x e = let at : suc (length xs + j) ≡ suc (length xs) + j = omega arith in
    subst (λ n. slice_get (a ∷ (xs ++ ys)) n ≡ Some x) at (in-back xs ys j x e)

-- ---- opened

-- what the object of a new block is
new-there : (os : List PlainObject) (j : ℕ) (b : Block) → slice_get (opened (shapes_of os)) j ≡ Some b → (o : PlainObject) × (slice_get os j ≡ Some o)
    × (b ≡ new_block (word_of o.size) o.leaves)
new-there [] j b e = absurd cc
new-there (o ∷ os) zero b e = (o, refl, sym (same_Some (new_block (word_of o.size) o.leaves) b e))
new-there (o ∷ os) (suc j) b e = new-there os j b e

pub new-is : (os : List PlainObject) (j : ℕ) (o : PlainObject) → slice_get os j ≡ Some o
    → slice_get (opened (shapes_of os)) j ≡ Some (new_block (word_of o.size) o.leaves)
new-is [] j o e = absurd cc
new-is (x ∷ os) zero o e = ap (λ (y : PlainObject). Some (new_block (word_of y.size) y.leaves)) (same_Some x o e)
new-is (x ∷ os) (suc j) o e = new-is os j o e

length-opened : (os : List PlainObject) → length (opened (shapes_of os)) ≡ length os
length-opened [] = refl
length-opened (o ∷ os) = ap suc (length-opened os)

length-all : (m : Memory) (os : List PlainObject) → length (m ++ opened (shapes_of os)) ≡ length m + length os
length-all m os = let h = length-append m (opened (shapes_of os)) in let k = length-opened os in omega (arith, h, k)

-- a new block holds nothing
no-value : (width offset : ℕ) (ls : List Leaf) → value_at width offset (map new_cell ls) ≡ None
no-value width offset [] = refl
no-value width offset (l ∷ ls) = by ((l.offset == offset) && (l.width == width)) (no-value width offset ls)
  where
    by : (test : Bool) → value_at width offset (map new_cell ls) ≡ None → cond test None (value_at width offset (map new_cell ls)) ≡ None
    by true rest = refl
    by false rest = rest

-- So many blocks from a number on have these addresses, and all others those that they had.
abbrev pub opened_bases : Bases → (first count : ℕ) → (at : ℕ → ℕ) → Bases
opened_bases bases first count at n = if nat_le first n && nat_lt n (first + count) then at (n - first) else bases n

base-old : (bases : Bases) (first count : ℕ) (at : ℕ → ℕ) (n : ℕ) → n < first → opened_bases bases first count at n ≡ bases n
base-old bases first count at n low = let e : nat_le first n ≡ false = lt-leb first n low in rw e refl

pub base-new : (bases : Bases) (first count : ℕ) (at : ℕ → ℕ) (j : ℕ) → j < count → opened_bases bases first count at (first + j) ≡ at j
base-new bases first count at j low =
    let e : nat_le first (first + j) ≡ true = le-leb first (first + j) (omega arith) in
    let d : nat_lt (first + j) (first + count) ≡ true = lt-ltb (first + j) (first + count) (omega (arith, low)) in
    let k : first + j - first ≡ j = omega arith in
    rw e rw d (ap at k)

base-past : (bases : Bases) (first count : ℕ) (at : ℕ → ℕ) (n : ℕ) → first + count ≤ n → opened_bases bases first count at n ≡ bases n
base-past bases first count at n past =
    let e : nat_le first n ≡ true = le-leb first n (omega (arith, past)) in
    let d : nat_lt n (first + count) ≡ false = le-ltb n (first + count) past in
    rw e rw d refl

-- Objects have room at these addresses, one after the other, between two addresses of the stack.
pub record ObjectsFit (flags : ℕ → ℕ) (os : List PlainObject) (at : ℕ → ℕ) (base top : ℕ) : Type 0 where
  pub low : 0 < base
  pub high : top < 2 ^ 32
  pub readable : (a : ℕ) → base ≤ a → a < top → has_flag (flags a) to_read ≡ true
  pub writable : (a : ℕ) → base ≤ a → a < top → has_flag (flags a) to_write ≡ true
  pub from : (k : ℕ) (o : PlainObject) → slice_get os k ≡ Some o → base ≤ at k
  pub to : (k : ℕ) (o : PlainObject) → slice_get os k ≡ Some o → at k + o.size + 4 ≤ top
  pub aligned : (k : ℕ) (o : PlainObject) → slice_get os k ≡ Some o → at k % 4 ≡ 0
  pub order : (j k : ℕ) (o u : PlainObject) → slice_get os j ≡ Some o → slice_get os k ≡ Some u → j < k → at j + o.size + 4 ≤ at k
  pub leaves : (k : ℕ) (o : PlainObject) → slice_get os k ≡ Some o → leaves_fit o.size 0 o.leaves ≡ true

module _ (flags : ℕ → ℕ) (bases : Bases) (m : Memory) (os : List PlainObject) (at : ℕ → ℕ) (base top : ℕ) (fit : ObjectsFit flags os at base top)
    (fresh : (n : ℕ) → length m ≤ n → bases n ≡ 0) (free : (a : ℕ) → base ≤ a → a < top → IsOutside bases m a) (laid : AreLaidOut flags bases m) where
  abbrev all : Memory
  all = m ++ opened (shapes_of os)

  abbrev more : Bases
  more = opened_bases bases (length m) (length os) at

  pub opened-extends : Extends bases more
  opened-extends n above = elim (cases_lt n (length m)) [
    | inl low ↦ base-old bases (length m) (length os) at n low
    | inr past ↦ let none = fresh n past in absurd (omega (arith, none, above))
  ]

  pub opened-fresh : (n : ℕ) → length all ≤ n → more n ≡ 0
  opened-fresh n past =
      let size = length-all m os in
      base-past bases (length m) (length os) at n (omega (arith, size, past)) ∙ fresh n (omega (arith, size, past))

  -- a block that lives is one of before, or an object's
  record Old (n : ℕ) (b : Block) : Type 0 where
    was : Lives m n b
    base_is : more n ≡ bases n

  record New (n : ℕ) (b : Block) : Type 0 where
    j : ℕ
    object : PlainObject
    there : slice_get os j ≡ Some object
    number : n ≡ length m + j
    size : b.size ≡ object.size
    cells : b.cells ≡ map new_cell object.leaves
    base_is : more n ≡ at j

  size-low : (k : ℕ) (o : PlainObject) → slice_get os k ≡ Some o → word_of o.size ≡ o.size
  size-low k o there = let to = fit.to k o there in let high = fit.high in omega (arith, to, high)

  which : (n : ℕ) (b : Block) → Lives all n b → Old n b ⊎ New n b
  which n b lives = by (in-two m (opened (shapes_of os)) n b lives.there)
    where
      by : ((slice_get m n ≡ Some b) × (n < length m)) ⊎ ((j : ℕ) × (n ≡ length m + j) × (slice_get (opened (shapes_of os)) j ≡ Some b)) → Old n b ⊎ New n b
      by (inl h) = inl (record { was = record { there = h.0; live = lives.live }; base_is = base-old bases (length m) (length os) at n h.1 })
      by (inr h) =
          let o = new-there os h.0 b h.2 in
          inr
          (record {
            j = h.0;
            object = o.0;
            there = o.1;
            number = h.1;
            size = ap (λ k. k.size) o.2 ∙ size-low h.0 o.0 o.1;
            cells = ap (λ k. k.cells) o.2;
            base_is = ap more h.1 ∙ base-new bases (length m) (length os) at h.0 (slice_get_within os h.0 o.0 o.1);
          })

  new-has : (n width offset : ℕ) (b : Block) (h : New n b) → has_leaf width offset b ≡ true → list_any (is_at width offset) (map new_cell h.object.leaves) ≡ true
  new-has n width offset b h has = ap (list_any (is_at width offset)) (sym h.cells) ∙ has

  opened-leaves : (n width offset : ℕ) (b : Block) → Lives all n b → has_leaf width offset b ≡ true → LeafFits (more n) b.size width offset
  opened-leaves n width offset b lives has = by (which n b lives)
    where
      even : (a w o : ℕ) → IsWidth w → a % 4 ≡ 0 → o % w ≡ 0 → (a + o) % w ≡ 0
      even a w o (inl one) four e = subst (λ k. (a + o) % k ≡ 0) (sym one) (omega arith)
      even a w o (inr (inl two)) four e = let d : o % 2 ≡ 0 = subst (λ k. o % k ≡ 0) two e in subst (λ k. (a + o) % k ≡ 0) (sym two) (omega (arith, four, d))
      even a w o (inr (inr wide)) four e = let d : o % 4 ≡ 0 = subst (λ k. o % k ≡ 0) wide e in subst (λ k. (a + o) % k ≡ 0) (sym wide) (omega (arith, four, d))

      by : Old n b ⊎ New n b → LeafFits (more n) b.size width offset
      by (inl h) = subst (λ x. LeafFits x b.size width offset) (sym h.base_is) (laid.leaves n width offset b h.was has)
      by (inr h) =
          let l = leaf-fits h.object.size 0 width offset h.object.leaves (fit.leaves h.j h.object h.there) (new-has n width offset b h has) in
          let within = l.within in
          let size = h.size in
          record {
            is_width = l.is_width;
            aligned = ap (λ x. (x + offset) % width) h.base_is ∙ even (at h.j) width offset l.is_width (fit.aligned h.j h.object h.there) l.aligned;
            within = omega (arith, within, size);
          }

  opened-leaves-apart : (n w o w' o' : ℕ) (b : Block) → Lives all n b → has_leaf w o b ≡ true → has_leaf w' o' b ≡ true → AreApart w o w' o'
  opened-leaves-apart n w o w' o' b lives has has' = by (which n b lives)
    where
      by : Old n b ⊎ New n b → AreApart w o w' o'
      by (inl h) = laid.leaves_apart n w o w' o' b h.was has has'
      by (inr h) = leaves-apart h.object.size 0 w o w' o' h.object.leaves (fit.leaves h.j h.object h.there) (new-has n w o b h has) (new-has n w' o' b h has')

  opened-fit : (n : ℕ) (b : Block) → Lives all n b → BlockFits flags (more n) b
  opened-fit n b lives = by (which n b lives)
    where
      by : Old n b ⊎ New n b → BlockFits flags (more n) b
      by (inl h) = subst (λ x. BlockFits flags x b) (sym h.base_is) (laid.blocks_fit n b h.was)
      by (inr h) =
          let is = h.base_is in
          let size = h.size in
          let from = fit.from h.j h.object h.there in
          let to = fit.to h.j h.object h.there in
          let low = fit.low in
          let high = fit.high in
          record {
            low = omega (arith, is, from, low);
            high = omega (arith, is, size, to, high);
            aligned = ap (λ x. x % 4) is ∙ fit.aligned h.j h.object h.there;
            readable = λ i below. fit.readable (more n + i) (omega (arith, is, from)) (omega (arith, is, size, to, below));
            writable = λ unfixed i below. fit.writable (more n + i) (omega (arith, is, from)) (omega (arith, is, size, to, below));
          }

  abbrev BlocksApart : (n k : ℕ) (b c : Block) → Type 0
  BlocksApart n k b c = (more n + b.size + 4 ≤ more k) ⊎ (more k + c.size + 4 ≤ more n)

  -- an object lies in the free stack, where no block of before is
  old-new : (n k : ℕ) (b c : Block) → Old n b → New k c → BlocksApart n k b c
  old-new n k b c h g = elim (cases_lt (more n) (more k + c.size + 4)) [
    | inr past ↦ inr past
    | inl before ↦ elim (cases_lt (more k) (more n + b.size + 4)) [
      | inr past ↦ inl past
      | inl over ↦ elim (cases_lt (more n) (more k)) [
        | inl low ↦ absurd (clash (more k) (omega arith) (omega arith) (omega (arith, low)) over)
        | inr high ↦ absurd (clash (more n) high before (omega arith) (omega arith))
      ]
    ]
  ]
    where
      clash : (a : ℕ) → more k ≤ a → a < more k + c.size + 4 → more n ≤ a → a < more n + b.size + 4 → ⊥
      clash a from below from' below' =
          let is = g.base_is in
          let same = h.base_is in
          let size = g.size in
          let start = fit.from g.j g.object g.there in
          let end = fit.to g.j g.object g.there in
          free a (omega (arith, is, start, from)) (omega (arith, is, size, end, below))
          (record { number = n; block = b; lives = h.was; low = omega (arith, same, from'); high = omega (arith, same, below') })

  swapped : (n k : ℕ) (b c : Block) → BlocksApart k n c b → BlocksApart n k b c
  swapped n k b c (inl e) = inr e
  swapped n k b c (inr e) = inl e

  opened-apart : (n k : ℕ) (b c : Block) → Lives all n b → Lives all k c → n ≢ k → BlocksApart n k b c
  opened-apart n k b c lives lives' ne = by (which n b lives) (which k c lives')
    where
      by : Old n b ⊎ New n b → Old k c ⊎ New k c → BlocksApart n k b c
      by (inl h) (inl g) =
          subst (λ x. (x + b.size + 4 ≤ more k) ⊎ (more k + c.size + 4 ≤ x)) (sym h.base_is)
          (subst (λ y. (bases n + b.size + 4 ≤ y) ⊎ (y + c.size + 4 ≤ bases n)) (sym g.base_is) (laid.apart n k b c h.was g.was ne))
      by (inl h) (inr g) = old-new n k b c h g
      by (inr h) (inl g) = swapped n k b c (old-new k n c b g h)
      by (inr h) (inr g) = elim (cases_lt h.j g.j) [
        | inl less ↦
            let o = fit.order h.j g.j h.object g.object h.there g.there less in
            let is = h.base_is in
            let is' = g.base_is in
            let size = h.size in
            inl (omega (arith, o, is, is', size))
        | inr more_or_same ↦
            let number = h.number in
            let number' = g.number in
            let o = fit.order g.j h.j g.object h.object g.there h.there (omega (arith, more_or_same, number, number', ne)) in
            let is = h.base_is in
            let is' = g.base_is in
            let size = g.size in
            inr (omega (arith, o, is, is', size))
      ]

  pub opened-laid : AreLaidOut flags more all
  opened-laid = record { leaves = opened-leaves; leaves_apart = opened-leaves-apart; blocks_fit = opened-fit; apart = opened-apart }

  -- an address of a block that lives now is one of before, or an object's
  pub opened-live : (a : ℕ) → IsLive more all a → IsLive bases m a ⊎ ((k : ℕ) × (o : PlainObject) × (slice_get os k ≡ Some o) × (at k ≤ a) × (a < at k + o.size + 4))
  opened-live a live = by (which live.number live.block live.lives)
    where
      by : Old live.number live.block ⊎ New live.number live.block → IsLive bases m a
          ⊎ ((k : ℕ) × (o : PlainObject) × (slice_get os k ≡ Some o) × (at k ≤ a) × (a < at k + o.size + 4))
      by (inl h) =
          let is = h.base_is in
          let low = live.low in
          let high = live.high in
          inl (record { number = live.number; block = live.block; lives = h.was; low = omega (arith, is, low); high = omega (arith, is, high) })
      by (inr h) =
          let is = h.base_is in
          let size = h.size in
          let low = live.low in
          let high = live.high in
          inr (h.j, h.object, h.there, omega (arith, is, low), omega (arith, is, size, high))

  pub opened-shown : NewBlocksKeepLoads → (mem mem' : Bytes) → ((a : ℕ) → IsLive bases m a → mem' a ≡ mem a) → ShowsMemory flags bases m mem
      → ShowsMemory flags more all mem'
  opened-shown keep mem mem' same shows = record { laid = opened-laid; values = values }
    where
      before : ShowsMemory flags bases m mem'
      before = memory-same flags bases m mem mem' same shows

      values : (width offset : ℕ) (b : BlockName) (v : Value) → load width (At b offset) all ≡ Some v → Shows more v (load_bytes mem' (more b.number + offset) width)
      values width offset b v loaded = by (which b.number there.block there.lives)
        where
          there : ValueAt width offset b all v
          there = value-there width offset b all v loaded

          by : Old b.number there.block ⊎ New b.number there.block → Shows more v (load_bytes mem' (more b.number + offset) width)
          by (inl h) =
              let was : load width (At b offset) m ≡ Some v = sym (keep width offset b m (opened (shapes_of os)) (slice_get_within m b.number there.block h.was.there))
              ∙ loaded in
              subst (λ x. Shows more v (load_bytes mem' (x + offset) width)) (sym h.base_is)
              (shows-more bases more opened-extends v (load_bytes mem' (bases b.number + offset) width) (before.values width offset b v was))
          by (inr h) =
              let none : value_at width offset there.block.cells ≡ None = ap (value_at width offset) h.cells ∙ no-value width offset h.object.leaves in
              let has = there.has in
              absurd (let e : None ≡ Some v = sym none ∙ has in cc)

-- ---- closed

closed-there : (first count : ℕ) (m : Memory) (n : ℕ) (b : Block) → slice_get (closed first count m) n ≡ Some b → b.live ≡ true → (slice_get m n ≡ Some b)
    × ((n < first) ⊎ (first + count ≤ n))
closed-there first count [] n b e live = absurd cc
closed-there (suc first) count (k ∷ m) zero b e live = (e, inl (omega arith))
closed-there (suc first) count (k ∷ m) (suc n) b e live = by (closed-there first count m n b e live)
  where
    by : (slice_get m n ≡ Some b) × ((n < first) ⊎ (first + count ≤ n)) → (slice_get m n ≡ Some b) × ((suc n < suc first) ⊎ (suc first + count ≤ suc n))
    by (there, inl low) = (there, inl (omega (arith, low)))
    by (there, inr past) = (there, inr (omega (arith, past)))
closed-there zero zero (k ∷ m) n b e live = (e, inr (omega arith))
closed-there zero (suc count) (k ∷ m) zero b e live =
    let is : dead k ≡ b = same_Some (dead k) b e in
    let no : false ≡ b.live = ap (λ x. x.live) is in
    absurd (both_ways b.live (sym no) live)
closed-there zero (suc count) (k ∷ m) (suc n) b e live = by (closed-there zero count m n b e live)
  where
    by : (slice_get m n ≡ Some b) × ((n < 0) ⊎ (0 + count ≤ n)) → (slice_get m n ≡ Some b) × ((suc n < 0) ⊎ (0 + suc count ≤ suc n))
    by (there, inl low) = absurd (omega (arith, low))
    by (there, inr past) = (there, inr (omega (arith, past)))

closed-front : (first count : ℕ) (m : Memory) (n : ℕ) → n < first → slice_get (closed first count m) n ≡ slice_get m n
closed-front first count [] n low = refl
closed-front zero count (k ∷ m) n low = absurd (omega (arith, low))
closed-front (suc first) count (k ∷ m) zero low = refl
closed-front (suc first) count (k ∷ m) (suc n) low = closed-front first count m n (omega (arith, low))

pub length-closed : (first count : ℕ) (m : Memory) → length (closed first count m) ≡ length m
length-closed first count [] = refl
length-closed (suc first) count (k ∷ m) = ap suc (length-closed first count m)
length-closed zero zero (k ∷ m) = refl
length-closed zero (suc count) (k ∷ m) = ap suc (length-closed zero count m)

-- the blocks that live after a call are those before it
pub closed-alike : (m : Memory) (os : List PlainObject) (k : Memory) → LivesAlike (m ++ opened (shapes_of os)) k → LivesAlike m (closed (length m) (length os) k)
closed-alike m os k h = record { forth = forth; back = back }
  where
    forth : (n : ℕ) (b : Block) → Lives m n b → Fellow (closed (length m) (length os) k) n b
    forth n b lives =
        let f = h.forth n b (record { there = get-added m (opened (shapes_of os)) n b lives.there; live = lives.live }) in
        record {
          block = f.block;
          there = record { there = closed-front (length m) (length os) k n (slice_get_within m n b lives.there) ∙ f.there.there; live = f.there.live };
          shape = f.shape;
          fixed = f.fixed;
        }

    back : (n : ℕ) (b : Block) → Lives (closed (length m) (length os) k) n b → Fellow m n b
    back n b lives = by (in-two m (opened (shapes_of os)) n f.block f.there.there)
      where
        was : (slice_get k n ≡ Some b) × ((n < length m) ⊎ (length m + length os ≤ n))
        was = closed-there (length m) (length os) k n b lives.there lives.live

        f : Fellow (m ++ opened (shapes_of os)) n b
        f = h.back n b (record { there = was.0; live = lives.live })

        never : (n < length m) ⊎ (length m + length os ≤ n) → (j : ℕ) → n ≡ length m + j → j < length os → ⊥
        never (inl low) j at inside = omega (arith, low, at)
        never (inr past) j at inside = omega (arith, past, at, inside)

        by : ((slice_get m n ≡ Some f.block) × (n < length m)) ⊎ ((j : ℕ) × (n ≡ length m + j) × (slice_get (opened (shapes_of os)) j ≡ Some f.block)) → Fellow m n b
        by (inl g) = record { block = f.block; there = record { there = g.0; live = f.there.live }; shape = f.shape; fixed = f.fixed }
        by (inr g) = let o = new-there os g.0 f.block g.2 in absurd (never was.1 g.0 g.1 (slice_get_within os g.0 o.0 o.1))

pub closed-shown : ClosedBlocksKeepLoads → (flags : ℕ → ℕ) (bases : Bases) (mem : Bytes) (first count : ℕ) (k : Memory) → ShowsMemory flags bases k mem
    → ShowsMemory flags bases (closed first count k) mem
closed-shown keep flags bases mem first count k shows = record {
  laid = record {
    leaves = λ n width offset b lives has. shows.laid.leaves n width offset b (was n b lives) has;
    leaves_apart = λ n w o w' o' b lives has has'. shows.laid.leaves_apart n w o w' o' b (was n b lives) has has';
    blocks_fit = λ n b lives. shows.laid.blocks_fit n b (was n b lives);
    apart = λ n p b c lives lives' ne. shows.laid.apart n p b c (was n b lives) (was p c lives') ne;
  };
  values = values;
}
  where
    was : (n : ℕ) (b : Block) → Lives (closed first count k) n b → Lives k n b
    was n b lives = record { there = (closed-there first count k n b lives.there lives.live).0; live = lives.live }

    values : (width offset : ℕ) (b : BlockName) (v : Value) → load width (At b offset) (closed first count k) ≡ Some v
        → Shows bases v (load_bytes mem (bases b.number + offset) width)
    values width offset b v loaded =
        let there = value-there width offset b (closed first count k) v loaded in
        let apart = (closed-there first count k b.number there.block there.lives.there there.lives.live).1 in
        shows.values width offset b v (sym (keep width offset first count b k apart) ∙ loaded)
