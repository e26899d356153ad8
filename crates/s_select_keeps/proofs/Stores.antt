-- A store on the machine keeps memory shown.
use Rattle.std.proofs.Common.{◌≡◌, ◌≢◌, ◌⊎◌, ℕ, ◌+◌, ◌*◌, ◌%◌, ◌^◌, ◌<◌, ◌≤◌, ◌==◌, ◌&&◌, ◌||◌, not, Bool, true, false, cond, List, [], ◌∷◌, map, Option, None, Some, option_map, slice_get, refl, sym, ap, ap₂, subst, ◌∙◌, arith, inl, inr, eqb-true}
use Rattle.std.specs.Prelude.{option_and_then}
use Rattle.std.specs.List.{list_any}
use Rattle.std.proofs.Math.Nat.{mod-le}
use Rattle.std.proofs.lemmas.Bool.{cases_Bool, eqb-false}
use Rattle.std.proofs.lemmas.Option.{slice_get-map, same_Some}
use Rattle.val_core.specs.declared.leaf.Leaf.{Leaf}
use Rattle.val_core.specs.declared.values.BlockName.{BlockName}
use Rattle.val_core.specs.declared.values.Value.{Value}
use Rattle.val_core.specs.declared.values.Value.TheVariants.{Num, At, Bad}
use Rattle.val_core.specs.Memory.{Cell, Memory, Block, shape_of, is_at, takes_store, block_named, block_changed, written, kept, load, store}
use Rattle.val_core.specs.MemoryLaws.{Apart, LoadAfterStore, LoadElsewhere, StoreKeepsBlocks}
use Rattle.rv_machine.specs.Memory.{Bytes, load_bytes, store_bytes, IsWidth}
use Rattle.rv_machine.specs.MemoryLaws.{AreDisjoint}
use Rattle.rv_machine.proofs.lemmas.Stores.{stored_is_loaded}
use Rattle.rv_machine.proofs.lemmas.Stores as bytes
use Rattle.s_select_keeps.specs.Relation.{Bases, Shows, Lives, Fellow, LivesAlike, IsLive, has_leaf, LeafFits, BlockFits, AreLaidOut, ShowsMemory}
use Rattle.s_select_keeps.proofs.lemmas.Blocks.{leaf-of-value, ValueAt, value-there, leaf-there}
use Rattle.s_select_keeps.proofs.Operands.{shows-word}

-- ---- memories of the same blocks, but for what they hold

pub record SameBlocks (m m' : Memory) : Type 0 where
  pub shapes : map shape_of m ≡ map shape_of m'
  pub lives : map (λ k. k.live) m ≡ map (λ k. k.live) m'
  pub fixed : map (λ k. k.fixed) m ≡ map (λ k. k.fixed) m'

pub same-back : (m m' : Memory) → SameBlocks m m' → SameBlocks m' m
same-back m m' h = record { shapes = sym h.shapes; lives = sym h.lives; fixed = sym h.fixed }

mapped : {A B : Type 0} (g : A → B) (xs ys : List A) (n : ℕ) (x : A) → map g xs ≡ map g ys → slice_get xs n ≡ Some x → option_map g (slice_get ys n) ≡ Some (g x)
mapped g xs ys n x e there = sym (slice_get-map g ys n) ∙ sym (ap (λ l. slice_get l n) e) ∙ slice_get-map g xs n ∙ ap (option_map g) there

pub fellow : (m m' : Memory) → SameBlocks m m' → (n : ℕ) (b : Block) → Lives m n b → Fellow m' n b
fellow m m' h n b lives =
    by (slice_get m' n) refl (mapped shape_of m m' n b h.shapes lives.there) (mapped (λ k. k.live) m m' n b h.lives lives.there)
    (mapped (λ k. k.fixed) m m' n b h.fixed lives.there)
  where
    by : (found : Option Block) → slice_get m' n ≡ found → option_map shape_of found ≡ Some (shape_of b) → option_map (λ k. k.live) found ≡ Some b.live
        → option_map (λ k. k.fixed) found ≡ Some b.fixed → Fellow m' n b
    by None there s l x = absurd cc
    by (Some k) there s l x =
        let shape : shape_of k ≡ shape_of b = cc in
        let live : k.live ≡ b.live = cc in
        let fixed : k.fixed ≡ b.fixed = cc in
        record { block = k; there = record { there = there; live = live ∙ lives.live }; shape = shape; fixed = fixed }

pub alike : (m m' : Memory) → SameBlocks m m' → LivesAlike m m'
alike m m' h = record { forth = fellow m m' h; back = fellow m' m (same-back m m' h) }

pub alike-back : (m m' : Memory) → LivesAlike m m' → LivesAlike m' m
alike-back m m' h = record { forth = h.back; back = h.forth }

-- leaves are those of the shape
abbrev leaf-in : (width offset : ℕ) → List Leaf → Bool
leaf-in width offset ls = list_any (λ l. (l.offset == offset) && (l.width == width)) ls

leaves-of-shape : (width offset : ℕ) (cs : List Cell) → list_any (is_at width offset) cs ≡ leaf-in width offset (map (λ c. c.leaf) cs)
leaves-of-shape width offset [] = refl
leaves-of-shape width offset (c ∷ cs) = ap (λ t. is_at width offset c || t) (leaves-of-shape width offset cs)

pub leaf-same : (width offset : ℕ) (b c : Block) → shape_of b ≡ shape_of c → has_leaf width offset c ≡ true → has_leaf width offset b ≡ true
leaf-same width offset b c e has =
    leaves-of-shape width offset b.cells ∙ ap (λ s. leaf-in width offset s.leaves) e ∙ sym (leaves-of-shape width offset c.cells) ∙ has

pub laid-same : (flags : ℕ → ℕ) (bases : Bases) (m m' : Memory) → LivesAlike m m' → AreLaidOut flags bases m → AreLaidOut flags bases m'
laid-same flags bases m m' h laid = record { leaves = leaves; leaves_apart = leaves_apart; blocks_fit = blocks_fit; apart = apart }
  where
    was : (n : ℕ) (b : Block) → Lives m' n b → Fellow m n b
    was n b lives = h.back n b lives

    size : (n : ℕ) (b : Block) (lives : Lives m' n b) → (was n b lives).block.size ≡ b.size
    size n b lives = ap (λ s. s.size) (was n b lives).shape

    leaves : (n width offset : ℕ) (b : Block) → Lives m' n b → has_leaf width offset b ≡ true → LeafFits (bases n) b.size width offset
    leaves n width offset b lives has =
        let k = was n b lives in
        subst (λ z. LeafFits (bases n) z width offset) (size n b lives) (laid.leaves n width offset k.block k.there (leaf-same width offset k.block b k.shape has))

    leaves_apart : (n w o w' o' : ℕ) (b : Block) → Lives m' n b → has_leaf w o b ≡ true → has_leaf w' o' b ≡ true → ((w ≡ w') × (o ≡ o')) ⊎ (o + w ≤ o') ⊎ (o' + w' ≤ o)
    leaves_apart n w o w' o' b lives has has' =
        let k = was n b lives in
        laid.leaves_apart n w o w' o' k.block k.there (leaf-same w o k.block b k.shape has) (leaf-same w' o' k.block b k.shape has')

    blocks_fit : (n : ℕ) (b : Block) → Lives m' n b → BlockFits flags (bases n) b
    blocks_fit n b lives =
        let k = was n b lives in
        let fit = laid.blocks_fit n k.block k.there in
        let same = size n b lives in
        let high = fit.high in
        record {
          low = fit.low;
          high = omega (arith, high, same);
          aligned = fit.aligned;
          readable = λ j below. fit.readable j (omega (arith, below, same));
          writable = λ free j below. fit.writable (k.fixed ∙ free) j (omega (arith, below, same));
        }

    apart : (n p : ℕ) (b c : Block) → Lives m' n b → Lives m' p c → n ≢ p → (bases n + b.size + 4 ≤ bases p) ⊎ (bases p + c.size + 4 ≤ bases n)
    apart n p b c lives lives' ne = by (laid.apart n p (was n b lives).block (was p c lives').block (was n b lives).there (was p c lives').there ne)
      where
        by : (bases n + (was n b lives).block.size + 4 ≤ bases p) ⊎ (bases p + (was p c lives').block.size + 4 ≤ bases n) → (bases n + b.size + 4 ≤ bases p)
            ⊎ (bases p + c.size + 4 ≤ bases n)
        by (inl before) = let same = size n b lives in inl (omega (arith, before, same))
        by (inr after) = let same = size p c lives' in inr (omega (arith, after, same))

-- the same addresses are live
pub live-same : (bases : Bases) (m m' : Memory) → LivesAlike m m' → (a : ℕ) → IsLive bases m a → IsLive bases m' a
live-same bases m m' h a live =
    let k = h.forth live.number live.block live.lives in
    let size : k.block.size ≡ live.block.size = ap (λ s. s.size) k.shape in
    let high = live.high in
    record { number = live.number; block = k.block; lives = k.there; low = live.low; high = omega (arith, high, size) }

-- ---- where a store goes

-- a leaf of a block that lives and is not fixed, and what it keeps
pub record StoredAt (width offset : ℕ) (b : BlockName) (v : Value) (m : Memory) : Type 0 where
  pub block : Block
  pub lives : Lives m b.number block
  pub size : block.size ≡ b.size
  pub free : block.fixed ≡ false
  pub leaf : has_leaf width offset block ≡ true
  pub part : Value
  pub keeps : kept width v ≡ Some part

pub stored-there : (width offset : ℕ) (b : BlockName) (v : Value) (m m' : Memory) → store width (At b offset) v m ≡ Some m' → StoredAt width offset b v m
stored-there width o b v m m' e = by (slice_get m b.number) refl (taken (takes_store width o (block_named b m)) refl e)
    (part (takes_store width o (block_named b m)) (kept width v) refl e)
  where
    taken : (takes : Bool) → takes_store width o (block_named b m) ≡ takes
        → option_map (λ u. block_changed b.number (written width o u) m) (cond takes (kept width v) None) ≡ Some m'
        → takes_store width o (block_named b m) ≡ true
    taken true is h = is
    taken false is h = absurd cc

    part : (takes : Bool) (found : Option Value) → kept width v ≡ found → option_map (λ u. block_changed b.number (written width o u) m) (cond takes found None) ≡ Some m'
        → (u : Value) × (kept width v ≡ Some u)
    part true (Some u) is h = (u, is)
    part true None is h = absurd cc
    part false found is h = absurd cc

    parts : (live fixed here : Bool) → (live && not fixed && here) ≡ true → (live ≡ true) × (fixed ≡ false) × (here ≡ true)
    parts true false true h = (refl, refl, refl)
    parts true false false h = absurd cc
    parts true true here h = absurd cc
    parts false fixed here h = absurd cc

    sized : (k : Block) → slice_get m b.number ≡ Some k → (test : Bool) → (k.size == b.size) ≡ test → takes_store width o (cond test (Some k) None) ≡ true
        → (u : Value) × (kept width v ≡ Some u) → StoredAt width o b v m
    sized k there true same takes keeps =
        let p = parts k.live k.fixed (has_leaf width o k) takes in
        record { block = k; lives = record { there = there; live = p.0 }; size = eqb-true k.size b.size same; free = p.1; leaf = p.2; part = keeps.0; keeps = keeps.1 }
    sized k there false other takes keeps = absurd cc

    by : (found : Option Block) → slice_get m b.number ≡ found → takes_store width o (option_and_then (λ k. cond (k.size == b.size) (Some k) None) found) ≡ true
        → (u : Value) × (kept width v ≡ Some u) → StoredAt width o b v m
    by None there takes keeps = absurd cc
    by (Some k) there takes keeps = sized k there (k.size == b.size) refl takes keeps

-- what a leaf keeps of a value, the low bytes of what shows it show
part-shown : (bases : Bases) (width x : ℕ) (v u : Value) → kept width v ≡ Some u → Shows bases v x → Shows bases u (x % 2 ^ (8 * width))
part-shown bases width x (Num w) u e h =
    let is : Num (w % 2 ^ (8 * width)) ≡ u = cc in
    let less = mod-le w (2 ^ (8 * width)) in
    let low = h.1 in
    subst (λ z. Shows bases z (x % 2 ^ (8 * width))) is (ap (λ n. n % 2 ^ (8 * width)) h.0, omega (arith, less, low))
part-shown bases width x (At b o) u e h = by (width == 4) refl e
  where
    by : (test : Bool) → (width == 4) ≡ test → cond test (Some (At b o)) None ≡ Some u → Shows bases u (x % 2 ^ (8 * width))
    by true same k =
        let four : width ≡ 4 = eqb-true width 4 same in
        let is : At b o ≡ u = cc in
        let bits : 8 * width ≡ 32 = omega (arith, four) in
        subst (λ z. Shows bases z (x % 2 ^ (8 * width))) is (subst (λ n. Shows bases (At b o) (x % 2 ^ n)) (sym bits) (shows-word bases (At b o) x h))
    by false other k = absurd cc
part-shown bases width x Bad u e h = absurd cc

abbrev offset-of : Value → ℕ
offset-of (At b o) = o
offset-of _ = 0

abbrev number-of : Value → ℕ
number-of (At b o) = b.number
number-of _ = 0

width-above : (w : ℕ) → IsWidth w → 0 < w
width-above w (inl e) = omega (arith, e)
width-above w (inr (inl e)) = omega (arith, e)
width-above w (inr (inr e)) = omega (arith, e)

module _ (after : LoadAfterStore) (elsewhere : LoadElsewhere) (keeps : StoreKeepsBlocks) where
  pub same-blocks : (width : ℕ) (x v : Value) (m m' : Memory) → store width x v m ≡ Some m' → SameBlocks m m'
  same-blocks width x v m m' e = let h = keeps width x v m m' e in record { shapes = sym h.0; lives = sym h.1; fixed = sym h.2 }

  pub store-shown : (flags : ℕ → ℕ) (bases : Bases) (mem : Bytes) (width offset x : ℕ) (b : BlockName) (v : Value) (m m' : Memory) → ShowsMemory flags bases m mem
      → store width (At b offset) v m ≡ Some m' → Shows bases v x → ShowsMemory flags bases m' (store_bytes mem (bases b.number + offset) x width)
  store-shown flags bases mem width o x b v m m' shows e word = record { laid = laid; values = values }
    where
      laid : AreLaidOut flags bases m'
      laid = laid-same flags bases m m' (alike m m' (same-blocks width (At b o) v m m' e)) shows.laid

      target : StoredAt width o b v m
      target = stored-there width o b v m m' e

      now : load width (At b o) m' ≡ Some target.part
      now = after width (At b o) v m m' e ∙ target.keeps

      there : ValueAt width o b m' target.part
      there = value-there width o b m' target.part now

      leaf : LeafFits (bases b.number) there.block.size width o
      leaf = leaf-there flags bases m' laid width o b target.part there

      Loads : (w p : ℕ) (c : BlockName) (y : Value) → Type 0
      Loads w p c y = Shows bases y (load_bytes (store_bytes mem (bases b.number + o) x width) (bases c.number + p) w)

      -- another leaf, whose bytes are elsewhere
      other : (w p : ℕ) (c : BlockName) (y : Value) → load w (At c p) m' ≡ Some y → Apart width (At b o) w (At c p)
          → AreDisjoint (bases c.number + p) w (bases b.number + o) width → Loads w p c y
      other w p c y loaded apart disjoint =
          let was : load w (At c p) m ≡ Some y = sym (elsewhere width w (At b o) (At c p) v m m' apart e) ∙ loaded in
          subst (Shows bases y) (sym (bytes.load_elsewhere mem (bases b.number + o) x width (bases c.number + p) w disjoint)) (shows.values w p c y was)

      -- in the block that is stored to
      here : (w p : ℕ) (c : BlockName) (y : Value) → load w (At c p) m' ≡ Some y → (found : ValueAt w p c m' y) → b.number ≡ c.number
          → ((width ≡ w) × (o ≡ p)) ⊎ (o + width ≤ p) ⊎ (p + w ≤ o) → Loads w p c y
      here w p c y loaded found number (inl same) =
          let block : there.block ≡ found.block = same_Some there.block found.block (sym there.lives.there ∙ ap (slice_get m') number ∙ found.lives.there) in
          let size : b.size ≡ c.size = sym there.size ∙ ap (λ k. k.size) block ∙ found.size in
          let name : b ≡ c = ap₂ (λ n s. record { number = n; size = s }) number size in
          let value : Some target.part ≡ Some y = sym now ∙ (λ i. load (same.0 i) (At (name i) (same.1 i)) m') ∙ loaded in
          let is : target.part ≡ y = cc in
          let stored = stored_is_loaded mem (bases b.number + o) x width in
          let moved : load_bytes (store_bytes mem (bases b.number + o) x width) (bases b.number + o) width ≡ load_bytes (store_bytes mem (bases b.number + o) x width)
          (bases c.number + p) w =
          λ i. load_bytes (store_bytes mem (bases b.number + o) x width) (bases (number i) + same.1 i) (same.0 i) in
          let part = subst (λ z. Shows bases z (x % 2 ^ (8 * width))) is (part-shown bases width x v target.part target.keeps word) in
          subst (Shows bases y) (sym stored ∙ moved) part
      here w p c y loaded found number (inr (inl before)) =
          let base = ap bases number in
          let wide = width-above width leaf.is_width in
          other w p c y loaded (inl (λ equal. let at : o ≡ p = ap offset-of equal in absurd (omega (arith, at, before, wide)))) (inr (omega (arith, before, base)))
      here w p c y loaded found number (inr (inr below)) =
          let base = ap bases number in
          let wide = width-above w (leaf-there flags bases m' laid w p c y found).is_width in
          other w p c y loaded (inl (λ equal. let at : o ≡ p = ap offset-of equal in absurd (omega (arith, at, below, wide)))) (inl (omega (arith, below, base)))

      -- in another block
      apart : (w p : ℕ) (c : BlockName) (y : Value) → load w (At c p) m' ≡ Some y → (found : ValueAt w p c m' y) → b.number ≢ c.number → Loads w p c y
      apart w p c y loaded found ne =
          let within = leaf.within in
          let inside = (leaf-there flags bases m' laid w p c y found).within in
          other w p c y loaded (inl (λ equal. ne (ap number-of equal)))
          (sides (laid.apart b.number c.number there.block found.block there.lives found.lives ne) within inside)
        where
          sides : (bases b.number + there.block.size + 4 ≤ bases c.number) ⊎ (bases c.number + found.block.size + 4 ≤ bases b.number) → o + width ≤ there.block.size
              → p + w ≤ found.block.size
              → AreDisjoint (bases c.number + p) w (bases b.number + o) width
          sides (inl before) within inside = inr (omega (arith, before, within))
          sides (inr after) within inside = inl (omega (arith, after, inside))

      values : (w p : ℕ) (c : BlockName) (y : Value) → load w (At c p) m' ≡ Some y → Loads w p c y
      values w p c y loaded =
          let found = value-there w p c m' y loaded in
          elim (cases_Bool (b.number == c.number)) [
            | inl same ↦
                let number : b.number ≡ c.number = eqb-true b.number c.number same in
                let block : found.block ≡ there.block = same_Some found.block there.block (sym found.lives.there ∙ ap (slice_get m') (sym number) ∙ there.lives.there) in
                here w p c y loaded found number
                (laid.leaves_apart b.number width o w p there.block there.lives (leaf-of-value width o there.block.cells target.part there.has)
                (subst (λ k. has_leaf w p k ≡ true) block (leaf-of-value w p found.block.cells y found.has)))
            | inr differ ↦ apart w p c y loaded found (eqb-false b.number c.number differ)
          ]
