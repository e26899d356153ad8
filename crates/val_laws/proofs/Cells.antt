-- The leaves of one block.
use Rattle.std.proofs.Common.{◌≡◌, ◌≢◌, ℕ, ◌==◌, ◌&&◌, ◌||◌, ◌⊎◌, not, Bool, true, false, cond, List, [], ◌∷◌, map, Option, None, Some, option_map, refl, sym, ap, ap₂, ◌∙◌, inl, inr, arith}
use Rattle.std.specs.List.{list_any}
use Rattle.std.proofs.lemmas.Bool.Decides.{nat_tests}
use Rattle.val_core.specs.declared.values.Value.{Value}
use Rattle.val_core.specs.Memory.{Cell, Block, is_at, value_at, takes_store, cell_written, written, shape_of}

-- another offset or another width
abbrev pub Elsewhere : (width offset width' offset' : ℕ) → Type 0
Elsewhere width offset width' offset' = (offset ≢ offset') ⊎ (width ≢ width')

pub not-both : (w o w' p : ℕ) (c : Cell) → Elsewhere w o w' p → is_at w o c ≡ true → is_at w' p c ≡ false
not-both w o w' p c (inl ne) here = grind (arith, nat_tests)
not-both w o w' p c (inr ne) here = grind (arith, nat_tests)

pub swapped : (w o w' p : ℕ) → Elsewhere w o w' p → Elsewhere w' p w o
swapped w o w' p (inl ne) = inl (λ e. ne (sym e))
swapped w o w' p (inr ne) = inr (λ e. ne (sym e))

-- what is written at one leaf, by the outcome of the test
written-at : (w o : ℕ) (v : Value) (c : Cell) (test : Bool) → is_at w o c ≡ test → cell_written w o v c ≡ cond test (record c { value = Some v }) c
written-at w o v c test is = ap (λ t. cond t (record c { value = Some v }) c) is

leaf-kept : (test : Bool) (v : Value) (c : Cell) → (cond test (record c { value = Some v }) c).leaf ≡ c.leaf
leaf-kept true v c = refl
leaf-kept false v c = refl

pub leaf-written : (w o : ℕ) (v : Value) (c : Cell) → (cell_written w o v c).leaf ≡ c.leaf
leaf-written w o v c = leaf-kept (is_at w o c) v c

pub at-written : (w o w' p : ℕ) (v : Value) (c : Cell) → is_at w' p (cell_written w o v c) ≡ is_at w' p c
at-written w o w' p v c = ap (λ l. (l.offset == p) && (l.width == w')) (leaf-written w o v c)

pub any-written : (w o w' p : ℕ) (v : Value) (cs : List Cell) → list_any (is_at w' p) (map (cell_written w o v) cs) ≡ list_any (is_at w' p) cs
any-written w o w' p v [] = refl
any-written w o w' p v (c ∷ cs) = ap₂ (λ a b. a || b) (at-written w o w' p v c) (any-written w o w' p v cs)

-- a leaf that is there holds what was written at it
value-same-step : (w o : ℕ) (v : Value) (c : Cell) (cs : List Cell) (test : Bool) → is_at w o c ≡ test →
    (cond test true (list_any (is_at w o) cs) ≡ true) →
    (list_any (is_at w o) cs ≡ true → value_at w o (map (cell_written w o v) cs) ≡ Some v) →
    value_at w o (map (cell_written w o v) (c ∷ cs)) ≡ Some v
value-same-step w o v c cs true is here rest =
    ap (λ t. cond t (cell_written w o v c).value (value_at w o (map (cell_written w o v) cs))) (at-written w o w o v c ∙ is)
    ∙ ap (λ x. x.value) (written-at w o v c true is)
value-same-step w o v c cs false is here rest =
    ap (λ t. cond t (cell_written w o v c).value (value_at w o (map (cell_written w o v) cs))) (at-written w o w o v c ∙ is)
    ∙ rest here

or-cond : (a b : Bool) → (a || b) ≡ cond a true b
or-cond true b = refl
or-cond false b = refl

pub value-same : (w o : ℕ) (v : Value) (cs : List Cell) → list_any (is_at w o) cs ≡ true → value_at w o (map (cell_written w o v) cs) ≡ Some v
value-same w o v [] here = cc
value-same w o v (c ∷ cs) here =
    value-same-step w o v c cs (is_at w o c) refl (sym (or-cond (is_at w o c) (list_any (is_at w o) cs)) ∙ here) (value-same w o v cs)

-- and every other one what it held
value-kept : (w o w' p : ℕ) (v : Value) (c : Cell) (rest : Option Value) (test : Bool) → is_at w' p c ≡ test → Elsewhere w o w' p →
    cond test (cell_written w o v c).value rest ≡ cond test c.value rest
value-kept w o w' p v c rest true is apart =
    ap (λ x. x.value) (written-at w o v c false (not-both w' p w o c (swapped w o w' p apart) is))
value-kept w o w' p v c rest false is apart = refl

pub value-other : (w o w' p : ℕ) (v : Value) (cs : List Cell) → Elsewhere w o w' p → value_at w' p (map (cell_written w o v) cs) ≡ value_at w' p cs
value-other w o w' p v [] apart = refl
value-other w o w' p v (c ∷ cs) apart =
    ap₂ (λ t r. cond t (cell_written w o v c).value r) (at-written w o w' p v c) (value-other w o w' p v cs apart)
    ∙ value-kept w o w' p v c (value_at w' p cs) (is_at w' p c) refl apart

-- of two writes at one leaf the later counts
twice-at : (w o : ℕ) (u v : Value) (c : Cell) (test : Bool) → is_at w o c ≡ test →
    cond test (record (cond test (record c { value = Some u }) c) { value = Some v }) (cond test (record c { value = Some u }) c) ≡ cond test (record c { value = Some v }) c
twice-at w o u v c true is = refl
twice-at w o u v c false is = refl

cell-twice : (w o : ℕ) (u v : Value) (c : Cell) → cell_written w o v (cell_written w o u c) ≡ cell_written w o v c
cell-twice w o u v c =
    ap (λ t. cond t (record (cell_written w o u c) { value = Some v }) (cell_written w o u c)) (at-written w o w o u c)
    ∙ twice-at w o u v c (is_at w o c) refl

cells-twice : (w o : ℕ) (u v : Value) (cs : List Cell) → map (cell_written w o v) (map (cell_written w o u) cs) ≡ map (cell_written w o v) cs
cells-twice w o u v [] = refl
cells-twice w o u v (c ∷ cs) = ap₂ (λ x xs. x ∷ xs) (cell-twice w o u v c) (cells-twice w o u v cs)

pub written-twice : (w o : ℕ) (u v : Value) (k : Block) → written w o v (written w o u k) ≡ written w o v k
written-twice w o u v k = ap (λ cs. record k { cells = cs }) (cells-twice w o u v k.cells)

-- writes at two leaves may be made in either order
apart-at : (w o w' p : ℕ) (u v : Value) (c : Cell) (t t' : Bool) → (t ≡ true → t' ≡ false) →
    cond t' (record (cond t (record c { value = Some u }) c) { value = Some v }) (cond t (record c { value = Some u }) c)
    ≡ cond t (record (cond t' (record c { value = Some v }) c) { value = Some u }) (cond t' (record c { value = Some v }) c)
apart-at w o w' p u v c true true differ = absurd (cc (differ refl))
apart-at w o w' p u v c true false differ = refl
apart-at w o w' p u v c false true differ = refl
apart-at w o w' p u v c false false differ = refl

cell-apart : (w o w' p : ℕ) (u v : Value) (c : Cell) → Elsewhere w o w' p → cell_written w' p v (cell_written w o u c) ≡ cell_written w o u (cell_written w' p v c)
cell-apart w o w' p u v c apart =
    ap (λ t. cond t (record (cell_written w o u c) { value = Some v }) (cell_written w o u c)) (at-written w o w' p u c)
    ∙ apart-at w o w' p u v c (is_at w o c) (is_at w' p c) (not-both w o w' p c apart)
    ∙ ap (λ t. cond t (record (cell_written w' p v c) { value = Some u }) (cell_written w' p v c)) (sym (at-written w' p w o v c))

cells-apart : (w o w' p : ℕ) (u v : Value) (cs : List Cell) → Elsewhere w o w' p → map (cell_written w' p v) (map (cell_written w o u) cs) ≡ map (cell_written w o u) (map (cell_written w' p v) cs)
cells-apart w o w' p u v [] apart = refl
cells-apart w o w' p u v (c ∷ cs) apart =
    ap₂ (λ x xs. x ∷ xs) (cell-apart w o w' p u v c apart) (cells-apart w o w' p u v cs apart)

pub written-apart : (w o w' p : ℕ) (u v : Value) (k : Block) → Elsewhere w o w' p → written w' p v (written w o u k) ≡ written w o u (written w' p v k)
written-apart w o w' p u v k apart = ap (λ cs. record k { cells = cs }) (cells-apart w o w' p u v k.cells apart)

-- the leaves stay
leaves-written : (w o : ℕ) (v : Value) (cs : List Cell) → map (λ c. c.leaf) (map (cell_written w o v) cs) ≡ map (λ c. c.leaf) cs
leaves-written w o v [] = refl
leaves-written w o v (c ∷ cs) = ap₂ (λ l ls. l ∷ ls) (leaf-written w o v c) (leaves-written w o v cs)

pub shape-written : (w o : ℕ) (v : Value) (k : Block) → shape_of (written w o v k) ≡ shape_of k
shape-written w o v k = ap (λ ls. record { size = k.size; leaves = ls }) (leaves-written w o v k.cells)

-- whether a block takes a store does not change with what it holds
pub takes-written : (w o w' p : ℕ) (v : Value) (found : Option Block) → takes_store w' p (option_map (written w o v) found) ≡ takes_store w' p found
takes-written w o w' p v None = refl
takes-written w o w' p v (Some k) = ap (λ here. k.live && not k.fixed && here) (any-written w o w' p v k.cells)
