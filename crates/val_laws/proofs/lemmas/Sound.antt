-- Memory stays sound.
use Rattle.std.proofs.Common.{ℕ, zero, suc, ◌*◌, ◌^◌, ◌==◌, Bool, true, false, cond, List, [], ◌∷◌, map, slice_get, Option, None, Some, option_map, option_and_then, arith, lit<}
use Rattle.std.proofs.Math.Nat.{mod-le}
use Rattle.std.specs.Option.{IfSome}
use Rattle.val_core.specs.Values.{IsSound}
use Rattle.val_core.specs.declared.values.BlockName.{BlockName}
use Rattle.val_core.specs.declared.values.Value.{Value}
use Rattle.val_core.specs.declared.values.Value.TheVariants.{Num, At, Bad}
use Rattle.val_core.specs.Memory.{Cell, Block, Memory, block_named, block_changed, is_at, value_at, read_block, takes_store, kept, cell_written, written, zeroed, cell_zeroed, AreSoundCells, IsSoundMemory}
use Rattle.val_core.specs.MemoryLaws.{LoadIsSound, StoreIsSound, ClearIsSound, ClosedIsSound}
use Rattle.val_laws.proofs.Stores.{stored}

pick : {X : Type 0} (test : Bool) (P : Option X → Type 0) (x y : Option X) → P x → P y → P (cond test x y)
pick true P x y p q = p
pick false P x y p q = q

value-sound : (w o : ℕ) (cs : List Cell) → AreSoundCells cs → IfSome (value_at w o cs) IsSound
value-sound w o [] s = tt
value-sound w o (c ∷ cs) s = pick (is_at w o c) (λ x. IfSome x IsSound) c.value (value_at w o cs) s.0 (value-sound w o cs s.1)

block-sound : (n : ℕ) (m : Memory) → IsSoundMemory m → IfSome (slice_get m n) (λ k. AreSoundCells k.cells)
block-sound n [] s = tt
block-sound zero (k ∷ m) s = s.0
block-sound (suc n) (k ∷ m) s = block-sound n m s.1

named-sound : (b : BlockName) (found : Option Block) → IfSome found (λ k. AreSoundCells k.cells) →
    IfSome (option_and_then (λ k. cond (k.size == b.size) (Some k) None) found) (λ k. AreSoundCells k.cells)
named-sound b None s = tt
named-sound b (Some k) s = pick (k.size == b.size) (λ x. IfSome x (λ j. AreSoundCells j.cells)) (Some k) None s tt

read-sound : (w o : ℕ) (found : Option Block) → IfSome found (λ k. AreSoundCells k.cells) → IfSome (read_block w o found) IsSound
read-sound w o None s = tt
read-sound w o (Some k) s = pick k.live (λ x. IfSome x IsSound) (value_at w o k.cells) None (value-sound w o k.cells s) tt

pub load_is_sound : LoadIsSound
load_is_sound w (Num a) m s = tt
load_is_sound w Bad m s = tt
load_is_sound w (At b o) m s =
    read-sound w o (block_named b m) (named-sound b (slice_get m b.number) (block-sound b.number m s))

changed-sound : (n : ℕ) (f : Block → Block) (m : Memory) → ((k : Block) → AreSoundCells k.cells → AreSoundCells (f k).cells) → IsSoundMemory m → IsSoundMemory (block_changed n f m)
changed-sound n f [] h s = tt
changed-sound zero f (k ∷ m) h s = (h k s.0, s.1)
changed-sound (suc n) f (k ∷ m) h s = (s.0, changed-sound n f m h s.1)

cell-sound : (test : Bool) (v : Value) (c : Cell) → IsSound v → IfSome c.value IsSound → IfSome (cond test (record c { value = Some v }) c).value IsSound
cell-sound true v c h s = h
cell-sound false v c h s = s

written-sound : (w o : ℕ) (v : Value) (cs : List Cell) → IsSound v → AreSoundCells cs → AreSoundCells (map (cell_written w o v) cs)
written-sound w o v [] h s = tt
written-sound w o v (c ∷ cs) h s = (cell-sound (is_at w o c) v c h s.0, written-sound w o v cs h s.1)

kept-sound : (w : ℕ) (v : Value) → IsSound v → IfSome (kept w v) IsSound
kept-sound w (Num n) s = let h = mod-le n (2 ^ (8 * w)) in omega (arith, h, s)
kept-sound w (At b o) s = pick (w == 4) (λ x. IfSome x IsSound) (Some (At b o)) None s tt
kept-sound w Bad s = tt

stored-sound : (w o : ℕ) (b : BlockName) (m : Memory) (part : Option Value) → IfSome part IsSound → IsSoundMemory m → IfSome (option_map (stored w o b m) part) IsSoundMemory
stored-sound w o b m None h s = tt
stored-sound w o b m (Some u) h s = changed-sound b.number (written w o u) m (λ k t. written-sound w o u k.cells h t) s

pub store_is_sound : StoreIsSound
store_is_sound w (Num a) v m s t = tt
store_is_sound w Bad v m s t = tt
store_is_sound w (At b o) v m s t =
    stored-sound w o b m (cond (takes_store w o (block_named b m)) (kept w v) None)
    (pick (takes_store w o (block_named b m)) (λ x. IfSome x IsSound) (kept w v) None (kept-sound w v t) tt) s

zeroed-sound : (cs : List Cell) → AreSoundCells (map cell_zeroed cs)
zeroed-sound [] = tt
zeroed-sound (c ∷ cs) = (lit< tt, zeroed-sound cs)

pub clear_is_sound : ClearIsSound
clear_is_sound b m s = changed-sound b.number zeroed m (λ k t. zeroed-sound k.cells) s

pub closed_is_sound : ClosedIsSound
closed_is_sound first count [] s = tt
closed_is_sound zero zero (k ∷ m) s = s
closed_is_sound zero (suc count) (k ∷ m) s = (s.0, closed_is_sound zero count m s.1)
closed_is_sound (suc first) count (k ∷ m) s = (s.0, closed_is_sound first count m s.1)
