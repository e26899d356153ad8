-- The laws of stores.
use Rattle.std.proofs.Common.{◌≡◌, ℕ, ◌==◌, ◌&&◌, not, Bool, true, false, cond, map, Option, None, Some, option_map, option_and_then, refl, sym, ap, ap₂, ◌∙◌, inl, inr, eqb-true}
use Rattle.std.proofs.lemmas.Bool.{eqb-false}
use Rattle.std.specs.List.{list_any}
use Rattle.val_core.specs.declared.values.BlockName.{BlockName}
use Rattle.val_core.specs.declared.values.Value.{Value}
use Rattle.val_core.specs.declared.values.Value.TheVariants.{Num, At, Bad}
use Rattle.val_core.specs.Memory.{Block, Memory, block_named, block_changed, is_at, value_at, read_block, takes_store, load, kept, store, written, shape_of}
use Rattle.val_core.specs.MemoryLaws.{Apart, LoadAfterStore, LoadElsewhere, StoreTwice, StoresCommute, StoreKeepsBlocks, DeadIsUndefined, FixedIsUndefined}
use Rattle.val_laws.proofs.Blocks.{changed-twice, changed-refine, changed-apart, map-changed, named-changed, named-other, sizes-agree}
use Rattle.val_laws.proofs.Cells.{Elsewhere, value-same, value-other, written-twice, written-apart, shape-written, takes-written}

-- what the memory is once a store is made of the part that is kept
abbrev pub stored : (width offset : ℕ) → BlockName → Memory → Value → Memory
stored width offset b m u = block_changed b.number (written width offset u) m

-- a store that is defined
pub record IsStored (width offset : ℕ) (b : BlockName) (v : Value) (m m' : Memory) : Type 0 where
  pub takes : takes_store width offset (block_named b m) ≡ true
  pub part : Value
  pub keeps : kept width v ≡ Some part
  pub after : m' ≡ stored width offset b m part

stored-by : (w o : ℕ) (b : BlockName) (v : Value) (m m' : Memory) (takes : Bool) (part : Option Value) → takes_store w o (block_named b m) ≡ takes → kept w v ≡ part →
    option_map (stored w o b m) (cond takes part None) ≡ Some m' → IsStored w o b v m m'
stored-by w o b v m m' true (Some u) takes keeps is = record { takes = takes; part = u; keeps = keeps; after = cc }
stored-by w o b v m m' true None takes keeps is = cc
stored-by w o b v m m' false part takes keeps is = cc

pub is_stored : (w o : ℕ) (b : BlockName) (v : Value) (m m' : Memory) → store w (At b o) v m ≡ Some m' → IsStored w o b v m m'
is_stored w o b v m m' is = stored-by w o b v m m' _ _ refl refl is

-- a store at a block takes one part of what decides it from the memory, and the other from the value
abbrev pub store_by : (w o : ℕ) → BlockName → Memory → (takes : Bool) → (part : Option Value) → Option Memory
store_by w o b m takes part = option_map (stored w o b m) (cond takes part None)

-- the block is there where a store is taken
named-of-takes : (w o : ℕ) (found : Option Block) → takes_store w o found ≡ true → (k : Block) × (found ≡ Some k)
named-of-takes w o (Some k) is = (k, refl)
named-of-takes w o None is = cc

-- whether a store is taken does not change with other stores
pub takes-stored : (w o w' p : ℕ) (b c : BlockName) (u : Value) (m : Memory) → takes_store w' p (block_named c (stored w o b m u)) ≡ takes_store w' p (block_named c m)
takes-stored w o w' p b c u m = by_number (b.number == c.number) refl where
  by_number : (test : Bool) → (b.number == c.number) ≡ test → takes_store w' p (block_named c (stored w o b m u)) ≡ takes_store w' p (block_named c m)
  by_number true same =
      ap (λ n. takes_store w' p (block_named c (block_changed n (written w o u) m))) (eqb-true b.number c.number same)
      ∙ ap (takes_store w' p) (named-changed c (written w o u) m (λ k. refl))
      ∙ takes-written w o w' p u (block_named c m)
  by_number false differ =
      ap (takes_store w' p) (named-other b.number c (written w o u) m (eqb-false b.number c.number differ))

-- ---- load after store

read-same : (w o : ℕ) (u : Value) (found : Option Block) → takes_store w o found ≡ true → read_block w o (option_map (written w o u) found) ≡ Some u
read-same w o u None takes = cc
read-same w o u (Some k) takes = of_parts k.live k.fixed (list_any (is_at w o) k.cells) refl refl takes where
  of_parts : (live fixed here : Bool) → k.live ≡ live → list_any (is_at w o) k.cells ≡ here → (live && not fixed && here) ≡ true →
      cond k.live (value_at w o (written w o u k).cells) None ≡ Some u
  of_parts true false true alive here is = ap (λ l. cond l (value_at w o (written w o u k).cells) None) alive ∙ value-same w o u k.cells here
  of_parts true false false alive here is = cc
  of_parts true true here alive is' is = cc
  of_parts false fixed here alive is' is = cc

pub load_after_store : LoadAfterStore
load_after_store w (Num a) v m m' is = cc
load_after_store w Bad v m m' is = cc
load_after_store w (At b o) v m m' is =
    let s = is_stored w o b v m m' is in
    ap (load w (At b o)) s.after
    ∙ ap (read_block w o) (named-changed b (written w o s.part) m (λ k. refl))
    ∙ read-same w o s.part (block_named b m) s.takes
    ∙ sym s.keeps

read-other : (w o w' p : ℕ) (u : Value) (found : Option Block) → Elsewhere w o w' p → read_block w' p (option_map (written w o u) found) ≡ read_block w' p found
read-other w o w' p u None apart = refl
read-other w o w' p u (Some k) apart = ap (λ x. cond k.live x None) (value-other w o w' p u k.cells apart)

-- two places of one block are apart by their offsets or widths
same-name : (b c : BlockName) → b.number ≡ c.number → b.size ≡ c.size → b ≡ c
same-name b c n s = ap₂ (λ x y. record { number = x; size = y }) n s

elsewhere-of : (w w' o p : ℕ) (b c : BlockName) → Apart w (At b o) w' (At c p) → b ≡ c → Elsewhere w o w' p
elsewhere-of w w' o p b c (inl ne) same = inl (λ e. ne (ap₂ At same e))
elsewhere-of w w' o p b c (inr ne) same = inr ne

-- where the block's number is the same, the block that is stored in has the other name, or nothing has it
read-elsewhere : (w o w' p : ℕ) (b c : BlockName) (u : Value) (m : Memory) (k : Block) (found : Option Block) → Apart w (At b o) w' (At c p) → b.number ≡ c.number → block_named b m ≡ Some k →
    block_named c m ≡ found →
    read_block w' p (option_map (written w o u) found) ≡ read_block w' p found
read-elsewhere w o w' p b c u m k None apart n is is' = refl
read-elsewhere w o w' p b c u m k (Some j) apart n is is' =
    read-other w o w' p u (Some j) (elsewhere-of w w' o p b c apart (same-name b c n (sizes-agree b c k j m n is is')))

load-stored : (w o w' p : ℕ) (b c : BlockName) (u : Value) (m : Memory) → Apart w (At b o) w' (At c p) → takes_store w o (block_named b m) ≡ true →
    load w' (At c p) (stored w o b m u) ≡ load w' (At c p) m
load-stored w o w' p b c u m apart takes = by_number (b.number == c.number) refl where
  by_number : (test : Bool) → (b.number == c.number) ≡ test → load w' (At c p) (stored w o b m u) ≡ load w' (At c p) m
  by_number true same =
      let n = eqb-true b.number c.number same in
      let k = named-of-takes w o (block_named b m) takes in
      ap (λ i. read_block w' p (block_named c (block_changed i (written w o u) m))) n
      ∙ ap (read_block w' p) (named-changed c (written w o u) m (λ j. refl))
      ∙ read-elsewhere w o w' p b c u m k.0 (block_named c m) apart n k.1 refl
  by_number false differ = ap (read_block w' p) (named-other b.number c (written w o u) m (eqb-false b.number c.number differ))

pub load_elsewhere : LoadElsewhere
load_elsewhere w w' (Num a) a' v m m' apart is = cc
load_elsewhere w w' Bad a' v m m' apart is = cc
load_elsewhere w w' (At b o) (Num a') v m m' apart is = refl
load_elsewhere w w' (At b o) Bad v m m' apart is = refl
load_elsewhere w w' (At b o) (At c p) v m m' apart is =
    let s = is_stored w o b v m m' is in
    ap (load w' (At c p)) s.after ∙ load-stored w o w' p b c s.part m apart s.takes

-- ---- two stores

stored-twice : (w o : ℕ) (b : BlockName) (u v : Value) (m : Memory) → stored w o b (stored w o b m u) v ≡ stored w o b m v
stored-twice w o b u v m =
    changed-twice b.number (written w o v) (written w o u) m
    ∙ changed-refine b.number (λ k. written w o v (written w o u k)) (written w o v) m (written-twice w o u v)

pub store_twice : StoreTwice
store_twice w (Num a) v x m m' is = refl
store_twice w Bad v x m m' is = refl
store_twice w (At b o) v x m m' is =
    let s = is_stored w o b v m m' is in
    ap (store w (At b o) x) s.after
    ∙ ap (λ t. store_by w o b (stored w o b m s.part) t (kept w x)) (takes-stored w o w o b b s.part m)
    ∙ again (cond (takes_store w o (block_named b m)) (kept w x) None) s.part where
      again : (part : Option Value) (u : Value) → option_map (stored w o b (stored w o b m u)) part ≡ option_map (stored w o b m) part
      again None u = refl
      again (Some y) u = ap Some (stored-twice w o b u y m)

stored-apart : (w o w' p : ℕ) (b c : BlockName) (u v : Value) (m : Memory) → Apart w (At b o) w' (At c p) → takes_store w o (block_named b m) ≡ true → takes_store w' p (block_named c m) ≡ true →
    stored w' p c (stored w o b m u) v ≡ stored w o b (stored w' p c m v) u
stored-apart w o w' p b c u v m apart takes takes' = by_number (b.number == c.number) refl where
  by_number : (test : Bool) → (b.number == c.number) ≡ test → stored w' p c (stored w o b m u) v ≡ stored w o b (stored w' p c m v) u
  by_number true same =
      let n = eqb-true b.number c.number same in
      let k = named-of-takes w o (block_named b m) takes in
      let j = named-of-takes w' p (block_named c m) takes' in
      let here = elsewhere-of w w' o p b c apart (same-name b c n (sizes-agree b c k.0 j.0 m n k.1 j.1)) in
      ap (λ i. block_changed i (written w' p v) (block_changed b.number (written w o u) m)) (sym n)
      ∙ changed-twice b.number (written w' p v) (written w o u) m
      ∙ changed-refine b.number _ (λ x. written w o u (written w' p v x)) m (λ x. written-apart w o w' p u v x here)
      ∙ sym (changed-twice b.number (written w o u) (written w' p v) m)
      ∙ ap (λ i. block_changed b.number (written w o u) (block_changed i (written w' p v) m)) n
  by_number false differ = changed-apart c.number b.number (written w' p v) (written w o u) m (λ e. eqb-false b.number c.number differ (sym e))

-- both orders, by whether each store is taken and what it keeps
either-order : (w o w' p : ℕ) (b c : BlockName) (m : Memory) (v v' : Value) (t t' : Bool) (part part' : Option Value) → Apart w (At b o) w' (At c p) →
    takes_store w o (block_named b m) ≡ t → takes_store w' p (block_named c m) ≡ t' →
    option_and_then (λ n. store_by w' p c n (takes_store w' p (block_named c n)) part') (store_by w o b m t part)
    ≡ option_and_then (λ n. store_by w o b n (takes_store w o (block_named b n)) part) (store_by w' p c m t' part')
either-order w o w' p b c m v v' true true (Some u) (Some u') apart takes takes' =
    ap (λ t. store_by w' p c (stored w o b m u) t (Some u')) (takes-stored w o w' p b c u m ∙ takes')
    ∙ ap Some (stored-apart w o w' p b c u u' m apart takes takes')
    ∙ ap (λ t. store_by w o b (stored w' p c m u') t (Some u)) (sym (takes-stored w' p w o c b u' m ∙ takes))
either-order w o w' p b c m v v' true true (Some u) None apart takes takes' =
    ap (λ t. store_by w' p c (stored w o b m u) t None) (takes-stored w o w' p b c u m ∙ takes')
either-order w o w' p b c m v v' true true None (Some u') apart takes takes' =
    ap (λ t. store_by w o b (stored w' p c m u') t None) (sym (takes-stored w' p w o c b u' m ∙ takes))
either-order w o w' p b c m v v' true true None None apart takes takes' = refl
either-order w o w' p b c m v v' true false (Some u) part' apart takes takes' =
    ap (λ t. store_by w' p c (stored w o b m u) t part') (takes-stored w o w' p b c u m ∙ takes')
either-order w o w' p b c m v v' true false None part' apart takes takes' = refl
either-order w o w' p b c m v v' false true part (Some u') apart takes takes' =
    ap (λ t. store_by w o b (stored w' p c m u') t part) (sym (takes-stored w' p w o c b u' m ∙ takes))
either-order w o w' p b c m v v' false true part None apart takes takes' = refl
either-order w o w' p b c m v v' false false part part' apart takes takes' = refl

nowhere : (found : Option Memory) → option_and_then {T = Memory} {U = Memory} (λ n. None) found ≡ None
nowhere None = refl
nowhere (Some m) = refl

pub stores_commute : StoresCommute
stores_commute w w' (Num a) a' v v' m apart = sym (nowhere (store w' a' v' m))
stores_commute w w' Bad a' v v' m apart = sym (nowhere (store w' a' v' m))
stores_commute w w' (At b o) (Num a') v v' m apart = nowhere (store w (At b o) v m)
stores_commute w w' (At b o) Bad v v' m apart = nowhere (store w (At b o) v m)
stores_commute w w' (At b o) (At c p) v v' m apart =
    either-order w o w' p b c m v v' _ _ (kept w v) (kept w' v') apart refl refl

-- ---- what a store keeps, and where it is not defined

pub store_keeps_blocks : StoreKeepsBlocks
store_keeps_blocks w (Num a) v m m' is = cc
store_keeps_blocks w Bad v m m' is = cc
store_keeps_blocks w (At b o) v m m' is =
    let s = is_stored w o b v m m' is in
    let f = written w o s.part in (
      ap (map shape_of) s.after ∙ map-changed shape_of b.number f m (shape-written w o s.part),
      ap (map (λ k. k.live)) s.after ∙ map-changed (λ k. k.live) b.number f m (λ k. refl),
      ap (map (λ k. k.fixed)) s.after ∙ map-changed (λ k. k.fixed) b.number f m (λ k. refl),
    )

and-false : (b : Bool) → (b && false) ≡ false
and-false true = refl
and-false false = refl

pub dead_is_undefined : DeadIsUndefined
dead_is_undefined w o b k v m is dead = (
  ap (read_block w o) is ∙ ap (λ l. cond l (value_at w o k.cells) None) dead,
  ap (λ t. store_by w o b m t (kept w v)) (ap (takes_store w o) is ∙ ap (λ l. l && not k.fixed && list_any (is_at w o) k.cells) dead),
)

pub fixed_is_undefined : FixedIsUndefined
fixed_is_undefined w o b k v m is fixed =
    ap (λ t. store_by w o b m t (kept w v))
    (ap (takes_store w o) is ∙ ap (λ f. k.live && not f && list_any (is_at w o) k.cells) fixed ∙ ap (λ t. t && list_any (is_at w o) k.cells) (and-false k.live))
