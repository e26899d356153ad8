-- What is loaded from memory stands in blocks that live.
use Rattle.std.proofs.Common.{◌≡◌, ◌⊎◌, ℕ, ◌+◌, ◌<◌, ◌≤◌, ◌==◌, Bool, true, false, ◌||◌, cond, List, [], ◌∷◌, Option, None, Some, slice_get, refl, sym, subst, arith, eqb-true, inl, inr}
use Rattle.std.proofs.lemmas.Bool.{cases_lt}
use Rattle.std.specs.Prelude.{option_and_then}
use Rattle.std.specs.List.{list_any}
use Rattle.val_core.specs.declared.values.BlockName.{BlockName}
use Rattle.val_core.specs.declared.values.Value.{Value}
use Rattle.val_core.specs.declared.values.Value.TheVariants.{Num, At, Bad}
use Rattle.val_core.specs.Memory.{Cell, Memory, Block, is_at, value_at, read_block, load}
use Rattle.rv_machine.specs.Memory.{Bytes, load_bytes}
use Rattle.rv_machine.proofs.lemmas.Stores.{load-agrees}
use Rattle.s_select_keeps.specs.Relation.{Bases, Shows, Lives, IsLive, LeafFits, AreLaidOut, ShowsMemory}

-- an address that is not among so many from one on stands before these or after them
pub before-or-after : (n at width : ℕ) → (at ≤ n → n < at + width → ⊥) → (n < at) ⊎ (at + width ≤ n)
before-or-after n at width never =
    elim (cases_lt n at) [
      | inl before ↦ inl before
      | inr from ↦
          elim (cases_lt n (at + width)) [
            | inl inside ↦ absurd (never from inside)
            | inr beyond ↦ inr beyond
          ]
    ]

-- a value stands at a leaf
pub leaf-of-value : (width offset : ℕ) (cs : List Cell) (v : Value) → value_at width offset cs ≡ Some v → list_any (is_at width offset) cs ≡ true
leaf-of-value width offset [] v e = absurd (let f : None ≡ Some v = e in cc)
leaf-of-value width offset (c ∷ cs) v e = by (is_at width offset c) e (leaf-of-value width offset cs v)
  where
    by : (test : Bool) → cond test c.value (value_at width offset cs) ≡ Some v → (value_at width offset cs ≡ Some v → list_any (is_at width offset) cs ≡ true)
        → (test || list_any (is_at width offset) cs) ≡ true
    by true h more = refl
    by false h more = more h

-- a value that is loaded stands at a leaf of a block that lives
pub record ValueAt (width offset : ℕ) (b : BlockName) (blocks : Memory) (v : Value) : Type 0 where
  pub block : Block
  pub lives : Lives blocks b.number block
  pub size : block.size ≡ b.size
  pub has : value_at width offset block.cells ≡ Some v

pub value-there : (width offset : ℕ) (b : BlockName) (blocks : Memory) (v : Value) → load width (At b offset) blocks ≡ Some v → ValueAt width offset b blocks v
value-there width o b blocks v e = by (slice_get blocks b.number) refl e
  where
    live : (k : Block) → slice_get blocks b.number ≡ Some k → k.size ≡ b.size → (test : Bool) → k.live ≡ test → cond test (value_at width o k.cells) None ≡ Some v
        → ValueAt width o b blocks v
    live k there size true lives has = record { block = k; lives = record { there = there; live = lives }; size = size; has = has }
    live k there size false lives has = absurd (let f : None ≡ Some v = has in cc)

    sized : (k : Block) → slice_get blocks b.number ≡ Some k → (test : Bool) → (k.size == b.size) ≡ test → read_block width o (cond test (Some k) None) ≡ Some v
        → ValueAt width o b blocks v
    sized k there true same has = live k there (eqb-true k.size b.size same) k.live refl has
    sized k there false other has = absurd (let f : None ≡ Some v = has in cc)

    by : (found : Option Block) → slice_get blocks b.number ≡ found → read_block width o (option_and_then (λ k. cond (k.size == b.size) (Some k) None) found) ≡ Some v
        → ValueAt width o b blocks v
    by None there has = absurd (let f : None ≡ Some v = has in cc)
    by (Some k) there has = sized k there (k.size == b.size) refl has

-- what is loaded from is an address
pub address-there : (width : ℕ) (x : Value) (blocks : Memory) (v : Value) → load width x blocks ≡ Some v → (b : BlockName) × (offset : ℕ) × (x ≡ At b offset)
address-there width (Num w) blocks v e = absurd (let f : None ≡ Some v = e in cc)
address-there width Bad blocks v e = absurd (let f : None ≡ Some v = e in cc)
address-there width (At b o) blocks v e = (b, o, refl)

-- the leaf that a value stands at
pub leaf-there : (flags : ℕ → ℕ) (bases : Bases) (blocks : Memory) → AreLaidOut flags bases blocks → (width offset : ℕ) (b : BlockName) (v : Value)
    → (h : ValueAt width offset b blocks v)
    → LeafFits (bases b.number) h.block.size width offset
leaf-there flags bases blocks laid width offset b v h = laid.leaves b.number width offset h.block h.lives (leaf-of-value width offset h.block.cells v h.has)

-- memory is shown where the bytes of blocks that live are as they were
pub memory-same : (flags : ℕ → ℕ) (bases : Bases) (blocks : Memory) (mem mem' : Bytes) → ((a : ℕ) → IsLive bases blocks a → mem' a ≡ mem a)
    → ShowsMemory flags bases blocks mem
    → ShowsMemory flags bases blocks mem'
memory-same flags bases blocks mem mem' same h = record { laid = h.laid; values = values }
  where
    values : (width offset : ℕ) (b : BlockName) (v : Value) → load width (At b offset) blocks ≡ Some v → Shows bases v (load_bytes mem' (bases b.number + offset) width)
    values width offset b v loaded =
        let there = value-there width offset b blocks v loaded in
        let within = (leaf-there flags bases blocks h.laid width offset b v there).within in
        let bytes = load-agrees mem mem' (bases b.number + offset) width (λ j below.
        same (bases b.number + offset + j) (record {
          number = b.number;
          block = there.block;
          lives = there.lives;
          low = omega arith;
          high = omega (arith, within, below);
        })) in
        subst (Shows bases v) (sym bytes) (h.values width offset b v loaded)
