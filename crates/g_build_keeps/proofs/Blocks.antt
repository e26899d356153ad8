-- The blocks of the objects of a function: they are those of the source, and what objects begin with stands within them.
use Rattle.std.proofs.Common.{◌≡◌, ◌≤◌, inl, inr, ℕ, zero, suc, ◌+◌, ◌%◌, ◌^◌, List, [], ◌∷◌, map, length, refl, sym, ap, ◌∙◌, subst, arith}
use Rattle.std.specs.Prelude.{Bool, true, false, cond, take, Some, slice_get}
use Rattle.std.specs.List.{filter}
use Rattle.std.proofs.lemmas.List.Sums.{sum_by-cons}
use Rattle.val_core.specs.declared.leaf.Leaf.{Leaf}
use Rattle.val_core.specs.declared.values.BlockName.{BlockName}
use Rattle.val_core.specs.declared.values.Value.{Value}
use Rattle.val_core.specs.Memory.{BlockShape}
use Rattle.val_core.specs.Objects.{word_of, block_address, address_in}
use Rattle.c_type.specs.Layout.{Definitions, size, leaves, IsLaidOut}
use Rattle.c_type.specs.LayoutLaws.{AreInOrder, LeavesAreInOrder}
use Rattle.c_type.specs.WellDefined.{AreDefinitions}
use Rattle.c_typed.specs.Typed.{ElementTrees, no_elements, value_then, characters_then, VariableTree}
use Rattle.c_typed.specs.WellTyped.{Scope, type_of, HasLeaf, AreCharactersAt, ElementsFit, VariableFits, VariablesFit}
use Rattle.c_typed.specs.Objects.{object_number}
use Rattle.c_mean.specs.Run.{shape_of, objects_of}
use Rattle.g_build_def.specs.Functions.{object_made, objects_made}
use Rattle.g_mean.specs.Meaning.{Context}
use Rattle.g_mean.specs.Calls.{sizes_of}
use Rattle.g_build_keeps.proofs.Unary.{some-inj}
use Rattle.g_build_keeps.proofs.Objects.{CharactersWithin, AreWithin}
use Rattle.g_build_keeps.proofs.Induction.{ObjectsFit}
use Rattle.g_build_keeps.proofs.lemmas.Leaves.{order_rises}
use Rattle.g_graph.specs.Plain.{shapes_of}

-- ---- the same blocks

abbrev is_object : VariableTree → Bool
is_object v = v.is_object

shapes-of : (defs : Definitions) (xs : List VariableTree) → shapes_of (map (object_made defs) xs) ≡ map (shape_of defs) xs
shapes-of defs [] = refl
shapes-of defs (x ∷ xs) = ap (λ zs. shape_of defs x ∷ zs) (shapes-of defs xs)

sizes-of : (defs : Definitions) (xs : List VariableTree) → sizes_of (map (object_made defs) xs) ≡ map (λ (o : BlockShape). o.size) (map (shape_of defs) xs)
sizes-of defs [] = refl
sizes-of defs (x ∷ xs) = ap (λ zs. size defs x.type ∷ zs) (sizes-of defs xs)

counts-of : (defs : Definitions) (xs : List VariableTree) → length (map (object_made defs) xs) ≡ length (map (shape_of defs) xs)
counts-of defs [] = refl
counts-of defs (x ∷ xs) = ap suc (counts-of defs xs)

module _ (defs : Definitions) (vs : List VariableTree) where
  pub same-shapes : shapes_of (objects_made defs vs) ≡ objects_of defs vs
  same-shapes = shapes-of defs (filter is_object vs)

  pub same-sizes : sizes_of (objects_made defs vs) ≡ map (λ (o : BlockShape). o.size) (objects_of defs vs)
  same-sizes = sizes-of defs (filter is_object vs)

  pub same-count : length (objects_made defs vs) ≡ length (objects_of defs vs)
  same-count = counts-of defs (filter is_object vs)

-- ---- the size of an object

object-size : (defs : Definitions) (vs : List VariableTree) (n : ℕ) (v : VariableTree) → slice_get vs n ≡ Some v → v.is_object ≡ true →
    slice_get (sizes_of (objects_made defs vs)) (object_number vs n) ≡ Some (size defs v.type)
object-size defs [] n v e o = absurd cc
object-size defs (x ∷ vs) zero v e o = by x.is_object (ap is_object (some-inj e) ∙ o)
  where
    by : (b : Bool) → b ≡ true → slice_get (sizes_of (map (object_made defs) (cond b (x ∷ filter is_object vs) (filter is_object vs)))) 0 ≡ Some (size defs v.type)
    by true z = ap (λ (y : VariableTree). Some (size defs y.type)) (some-inj e)
    by false z = absurd cc
object-size defs (x ∷ vs) (suc n) v e o =
    subst (λ k. slice_get (sizes_of (objects_made defs (x ∷ vs))) k ≡ Some (size defs v.type)) (sym (sum_by-cons (λ (y : VariableTree). cond y.is_object 1 0) x (take n vs)))
    (by x.is_object (object-size defs vs n v e o))
  where
    by : (b : Bool) → slice_get (sizes_of (objects_made defs vs)) (object_number vs n) ≡ Some (size defs v.type) →
        slice_get (sizes_of (map (object_made defs) (cond b (x ∷ filter is_object vs) (filter is_object vs)))) (cond b 1 0 + object_number vs n) ≡ Some (size defs v.type)
    by true z =
        let one : suc (object_number vs n) ≡ 1 + object_number vs n = omega arith in
        subst (λ k. slice_get (sizes_of (map (object_made defs) (x ∷ filter is_object vs))) k ≡ Some (size defs v.type)) one z
    by false z = let same : object_number vs n ≡ 0 + object_number vs n = omega arith in subst (λ k. slice_get (sizes_of (objects_made defs vs)) k ≡ Some (size defs v.type)) same z

-- ---- elements stand within it

leaf-within : (low high : ℕ) (ls : List Leaf) (o w : ℕ) → AreInOrder low high ls → HasLeaf ls o w → o ≤ high
leaf-within low high [] o w h k = absurd k
leaf-within low high (l ∷ ls) o w h (inl k) = let r = order_rises (l.offset + l.width) high ls h.1 in let same = k.0 in omega (arith, r, same)
leaf-within low high (l ∷ ls) o w h (inr k) = leaf-within (l.offset + l.width) high ls o w h.1 k

module _ (ls : List Leaf) (most : ℕ) (within : (o w : ℕ) → HasLeaf ls o w → o ≤ most) where
  characters-within : (o : ℕ) (cs : List ℕ) → AreCharactersAt ls o cs → CharactersWithin most o cs
  characters-within o [] h = tt
  characters-within o (b ∷ bs) h = let low = h.1 in (within o 1 h.0, omega (arith, low), characters-within (suc o) bs h.2)

  elements-within : (g : Scope) (es : ElementTrees) (from : ℕ) → ElementsFit g ls from es → AreWithin most es
  elements-within g no_elements from h = tt
  elements-within g (value_then o e es) from h = (within o (size g.structs (type_of e)) h.3, elements-within g es (o + size g.structs (type_of e)) h.4)
  elements-within g (characters_then o cs es) from h = (characters-within o cs h.1, elements-within g es (o + length cs) h.2)

variable-fits : (defs : Definitions) (vs : List VariableTree) (n : ℕ) (v : VariableTree) → slice_get vs n ≡ Some v → VariablesFit defs vs → VariableFits defs v
variable-fits defs [] n v e h = absurd cc
variable-fits defs (x ∷ vs) zero v e h = subst (VariableFits defs) (some-inj e) h.0
variable-fits defs (x ∷ vs) (suc n) v e h = variable-fits defs vs n v e h.1

-- Each object has the elements that it may begin with.
pub objects-fit : LeavesAreInOrder → (g : Scope) (d : Context) (base : ℕ) → AreDefinitions g.structs → VariablesFit g.structs g.variables →
    d.addresses.local ≡ address_in base (sizes_of (objects_made g.structs g.variables)) → ObjectsFit g d
objects-fit law g d base good fits address k v there o h same es typed = (
  block,
  ap (λ (a : ℕ → Value). a (object_number g.variables k)) address ∙ ap (block_address (base + object_number g.variables k)) (object-size g.structs g.variables k v there o),
  elements-within (leaves g.structs v.type) block.size (λ o w i. subst (λ n. o ≤ n) small (leaf-within 0 (0 + size g.structs v.type) (leaves g.structs v.type) o w order i)) h es 0 typed,
)
  where
    laid : IsLaidOut g.structs v.type
    laid = (variable-fits g.structs g.variables k v there fits).0

    block : BlockName
    block = record { number = base + object_number g.variables k; size = word_of (size g.structs v.type) }

    order : AreInOrder 0 (0 + size g.structs v.type) (leaves g.structs v.type)
    order = law g.structs good v.type laid.complete 0 (0, omega arith)

    small : 0 + size g.structs v.type ≡ size g.structs v.type % 2 ^ 32
    small = let low = laid.small in omega (arith, low)
