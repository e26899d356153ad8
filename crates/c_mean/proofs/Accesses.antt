-- Accesses to memory have a value exactly at leaves.
use Rattle.std.specs.Prelude.{◌≡◌, ◌==◌, ◌&&◌, ◌||◌, ℕ, not, Bool, true, false, if◌then◌else◌, List, [], ◌∷◌, find, Option, Some, None, IsSome, option_map}
use Rattle.std.proofs.Common.{refl, sym, ap, ◌∙◌, arith}
use Rattle.std.proofs.lemmas.Bool.Decides.{nat_tests}
use Rattle.std.specs.List.{list_any}
use Rattle.val_core.specs.declared.values.Value.{Value}
use Rattle.val_core.specs.declared.values.Value.TheVariants.{Num, At, Bad}
use Rattle.val_core.specs.Memory.{Memory, Block, Cell, block_named, is_at, value_at, read_block, takes_store, kept, load, store}
use Rattle.c_mean.proofs.Tests.{is-not, none-some, some-same, both, holds-where-some}
use Rattle.c_mean.specs.DefinedLaws.{IsAtLeaf, MayBeKept, LoadsFindLeaves, StoresFindLeaves}

-- ---- the first leaf

module _ (width offset : ℕ) where
  abbrev Holds : List Cell → Value → Type 0
  Holds cs v = (c : Cell) × (find (is_at width offset) cs ≡ Some c) × (c.value ≡ Some v)

  holds : (cs : List Cell) (v : Value) → value_at width offset cs ≡ Some v → Holds cs v
  holds [] v e = none-some e
  holds (c ∷ cs) v e = by_test (is_at width offset c) refl e (holds cs v) where
    by_test : (t : Bool) → is_at width offset c ≡ t → (if t then c.value else value_at width offset cs) ≡ Some v → (value_at width offset cs ≡ Some v → Holds cs v) → Holds (c ∷ cs) v
    by_test true is e later = (c, rw is refl, e)
    by_test false is e later = let h = later e in (h.0, rw is h.1, h.2)

  value-of : (cs : List Cell) (c : Cell) → find (is_at width offset) cs ≡ Some c → value_at width offset cs ≡ c.value
  value-of [] c e = none-some e
  value-of (d ∷ cs) c e = by_test (is_at width offset d) refl e (value-of cs c) where
    by_test : (t : Bool) → is_at width offset d ≡ t → (if t then Some d else find (is_at width offset) cs) ≡ Some c → (find (is_at width offset) cs ≡ Some c → value_at width offset cs ≡ c.value) →
        value_at width offset (d ∷ cs) ≡ c.value
    by_test true is e later = rw is (ap (λ x. x.value) (sym (some-same e)))
    by_test false is e later = rw is (later e)

  there : (cs : List Cell) → list_any (is_at width offset) cs ≡ true → (c : Cell) × (find (is_at width offset) cs ≡ Some c)
  there [] e = is-not e
  there (c ∷ cs) e = by_test (is_at width offset c) refl e (there cs) where
    by_test : (t : Bool) → is_at width offset c ≡ t → (t || list_any (is_at width offset) cs) ≡ true →
        (list_any (is_at width offset) cs ≡ true → (d : Cell) × (find (is_at width offset) cs ≡ Some d)) → (d : Cell) × (find (is_at width offset) (c ∷ cs) ≡ Some d)
    by_test true is e later = (c, rw is refl)
    by_test false is e later = let h = later e in (h.0, rw is h.1)

  is-there : (cs : List Cell) (c : Cell) → find (is_at width offset) cs ≡ Some c → list_any (is_at width offset) cs ≡ true
  is-there [] c e = none-some e
  is-there (d ∷ cs) c e = by_test (is_at width offset d) refl e (is-there cs c) where
    by_test : (t : Bool) → is_at width offset d ≡ t → (if t then Some d else find (is_at width offset) cs) ≡ Some c →
        (find (is_at width offset) cs ≡ Some c → list_any (is_at width offset) cs ≡ true) →
        list_any (is_at width offset) (d ∷ cs) ≡ true
    by_test true is e later = rw is refl
    by_test false is e later = rw is (later e)

-- ---- loads

abbrev Loads : (width : ℕ) → (x : Value) → Memory → Value → Type 0
Loads width x m v = (k : Block) × (c : Cell) × IsAtLeaf width x m k c × (c.value ≡ Some v)

loads : (width : ℕ) (x : Value) (m : Memory) (v : Value) → load width x m ≡ Some v → Loads width x m v
loads width (Num a) m v e = none-some e
loads width Bad m v e = none-some e
loads width (At b o) m v e = by_block (block_named b m) refl e where
  by_live : (k : Block) → block_named b m ≡ Some k → (t : Bool) → k.live ≡ t → (if t then value_at width o k.cells else None) ≡ Some v → Loads width (At b o) m v
  by_live k at true live e =
      let h = holds width o k.cells v e in
      (k, h.0, record { name = b; offset = o; address = refl; block = at; live = live; leaf = h.1 }, h.2)
  by_live k at false live e = none-some e

  by_block : (o' : Option Block) → block_named b m ≡ o' → read_block width o o' ≡ Some v → Loads width (At b o) m v
  by_block None at e = none-some e
  by_block (Some k) at e = by_live k at k.live refl e

is-loaded : (width : ℕ) (x : Value) (m : Memory) (v : Value) → Loads width x m v → load width x m ≡ Some v
is-loaded width x m v (k, c, leaf, value) =
    rw leaf.address (rw leaf.block (rw leaf.live (value-of width leaf.offset k.cells c leaf.leaf ∙ value)))

pub loads_find_leaves : LoadsFindLeaves
loads_find_leaves width x m v = (loads width x m v, is-loaded width x m v)

-- ---- stores

may-be-kept : (width : ℕ) (v : Value) → IsSome (kept width v) → MayBeKept width v
may-be-kept width (Num w) e = tt
may-be-kept width (At b o) e = let h = holds-where-some (width == 4) (At b o) e in grind (arith, nat_tests)
may-be-kept width Bad e = is-not e

is-kept : (width : ℕ) (v : Value) → MayBeKept width v → IsSome (kept width v)
is-kept width (Num w) h = refl
is-kept width (At b o) h = rw h refl
is-kept width Bad h = absurd h

abbrev Stores : (width : ℕ) → (x v : Value) → Memory → Type 0
Stores width x v m = (k : Block) × (c : Cell) × IsAtLeaf width x m k c × (k.fixed ≡ false) × MayBeKept width v

some-mapped : {A B : Type 0} (f : A → B) (o : Option A) → IsSome (option_map f o) → IsSome o
some-mapped f None e = is-not e
some-mapped f (Some x) e = refl

mapped-some : {A B : Type 0} (f : A → B) (o : Option A) → IsSome o → IsSome (option_map f o)
mapped-some f None e = is-not e
mapped-some f (Some x) e = refl

chosen : {A : Type 0} (t : Bool) (o : Option A) → IsSome (if t then o else None) → (t ≡ true) × IsSome o
chosen true o e = (refl, e)
chosen false o e = is-not e

is-false : (t : Bool) → not t ≡ true → t ≡ false
is-false true e = is-not e
is-false false e = refl

stores : (width : ℕ) (x v : Value) (m : Memory) → IsSome (store width x v m) → Stores width x v m
stores width (Num a) v m e = is-not e
stores width Bad v m e = is-not e
stores width (At b o) v m e =
    let h = chosen (takes_store width o (block_named b m)) (kept width v) (some-mapped _ _ e) in
    by_block (block_named b m) refl h.0 (may-be-kept width v h.1) where
      by_block : (o' : Option Block) → block_named b m ≡ o' → takes_store width o o' ≡ true → MayBeKept width v → Stores width (At b o) v m
      by_block None at e may = is-not e
      by_block (Some k) at e may =
          let h = both (k.live && not k.fixed) (list_any (is_at width o) k.cells) e in
          let g = both k.live (not k.fixed) h.0 in
          let leaf = there width o k.cells h.1 in
          (k, leaf.0, record { name = b; offset = o; address = refl; block = at; live = g.0; leaf = leaf.1 }, is-false k.fixed g.1, may)

is-stored : (width : ℕ) (x v : Value) (m : Memory) → Stores width x v m → IsSome (store width x v m)
is-stored width x v m (k, c, leaf, fixed, may) =
    rw leaf.address (rw leaf.block (
    mapped-some _ _ (rw leaf.live (rw fixed (rw (is-there width leaf.offset k.cells c leaf.leaf) (is-kept width v may))))))

pub stores_find_leaves : StoresFindLeaves
stores_find_leaves width x v m = (stores width x v m, is-stored width x v m)
