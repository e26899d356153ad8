-- The types that declarators and type names declare (ISO/IEC 9899:2011, 6.7.6, 6.7.7), and which of them may not be.
use Rattle.std.specs.Prelude.{ℕ, zero, suc, ◌&&◌, ◌||◌, not, nat_le, Bool, true, false, if◌then◌else◌, List, [], ◌∷◌, Option, None, Some, option_map, option_and_then}
use Rattle.std.specs.List.{list_any}
use Rattle.base.specs.Limits.{most_type_bytes}
use Rattle.c_type.specs.Trees.{TypeTree, void_type, pointer_to, array_of, struct_type}
use Rattle.c_type.specs.Layout.{Definitions, is_complete, size}
use Rattle.c_check_def.specs.declared.dimension.Dimension.{Dimension}
use Rattle.c_check_def.specs.declared.dimension.Dimension.TheVariants as dimension
use Rattle.c_check_def.specs.declared.refusal_kind.RefusalKind.TheVariants.{Unknown, BadType}
use Rattle.c_check_def.specs.State.{MaybeType, Elaborated, ◌>>=◌, pure, state, broken_at, if_some}
use Rattle.c_check_def.specs.Specifiers.{Specified}

-- the size of a dimension, unless it breaks a rule
abbrev pub MaybeSize : Type 0
MaybeSize = Option ℕ

-- ---- parts of a type

abbrev pub pointers_to : TypeTree → (stars : ℕ) → TypeTree
pointers_to t zero = t
pointers_to t (suc n) = pointer_to (pointers_to t n)

abbrev pub array_by : MaybeSize → TypeTree → MaybeType
array_by n t = option_map (array_of t) n

-- an array of arrays, outermost dimension first
abbrev pub arrays_of : MaybeType → List MaybeSize → MaybeType
arrays_of t [] = t
arrays_of t (n ∷ ns) = option_and_then (array_by n) (arrays_of t ns)

-- An array whose dimension is left empty has no elements yet, and so is incomplete.
abbrev pub size_of_dimension : Dimension → MaybeSize
size_of_dimension dimension.Empty = Some 0
size_of_dimension (dimension.Sized n) = n

abbrev pub sizes_of : List Dimension → List MaybeSize
sizes_of [] = []
sizes_of (d ∷ ds) = size_of_dimension d ∷ sizes_of ds

abbrev pub is_empty : Dimension → Bool
is_empty dimension.Empty = true
is_empty (dimension.Sized n) = false

abbrev pub first_is_empty : List Dimension → Bool
first_is_empty [] = false
first_is_empty (d ∷ ds) = is_empty d

abbrev pub other_is_empty : List Dimension → Bool
other_is_empty [] = false
other_is_empty (d ∷ ds) = list_any is_empty ds

-- ---- types that may not be declared

abbrev pub is_void : TypeTree → Bool
is_void void_type = true
is_void t = false

abbrev pub is_struct : TypeTree → Bool
is_struct (struct_type tag) = true
is_struct t = false

-- a complete type of too many bytes
abbrev pub is_large : Definitions → TypeTree → Bool
is_large defs t = is_complete defs t && not (nat_le (size defs t) most_type_bytes)

-- where an array has no elements yet, it would have one at least
abbrev pub with_elements : TypeTree → TypeTree
with_elements (array_of t zero) = array_of t 1
with_elements t = t

abbrev pub type_if : (wrong : Bool) → (offset : ℕ) → TypeTree → Elaborated MaybeType
type_if wrong offset t = if wrong then broken_at BadType offset else pure (Some t)

abbrev pub small_type : (offset : ℕ) → TypeTree → Elaborated MaybeType
small_type offset t = do
  s ← state
  type_if (is_large s.structs (with_elements t)) offset t

-- a type, unless a dimension is left empty where none may be
abbrev pub unless_empty : (wrong : Bool) → (offset : ℕ) → MaybeType → Elaborated MaybeType
unless_empty wrong offset t = if wrong then broken_at BadType offset else pure t

-- ---- the type before the name and its stars

-- A tag stands alone only where it is declared.
abbrev pub unstarred : (undeclared : Option ℕ) → TypeTree → Elaborated MaybeType
unstarred None t = pure (Some t)
unstarred (Some tag) t = broken_at Unknown tag

-- There is no pointer to void.
abbrev pub starred : Specified → (stars : ℕ) → (offset : ℕ) → Elaborated MaybeType
starred x zero offset = unstarred x.undeclared x.type
starred x (suc n) offset = type_if (is_void x.type) offset (pointers_to x.type (suc n))

-- ---- type names

abbrev pub named_type : (offset : ℕ) → Specified → (stars : ℕ) → List MaybeSize → Elaborated MaybeType
named_type offset x stars ns = do
  t ← starred x stars offset
  if_some (arrays_of t ns) (small_type offset)

-- ---- variables and members: objects

abbrev pub is_object_of : Definitions → TypeTree → Bool
is_object_of defs void_type = false
is_object_of defs (struct_type tag) = is_complete defs (struct_type tag)
is_object_of defs t = true

-- The elements have a complete type, and only the first dimension is left empty, where that may be.
abbrev pub object_type : (may_be_empty : Bool) → (offset : ℕ) → Specified → (stars : ℕ) → List Dimension → Elaborated MaybeType
object_type may_be_empty offset x stars ds = do
  s ← state
  u ← starred x stars offset
  t ← if_some u (λ t. type_if (not (is_object_of s.structs t)) offset t)
  v ← if_some (arrays_of t (sizes_of ds)) (small_type offset)
  unless_empty (other_is_empty ds || (first_is_empty ds && not may_be_empty)) offset v

-- ---- parameters: an array is a pointer to its elements

-- No parameter is a struct, but elements of an array may be, and are complete where that has more dimensions.
abbrev pub is_param_of : Definitions → TypeTree → List Dimension → Bool
is_param_of defs void_type ds = false
is_param_of defs (struct_type tag) [] = false
is_param_of defs (struct_type tag) (d ∷ []) = true
is_param_of defs (struct_type tag) (d ∷ e ∷ ds) = is_complete defs (struct_type tag)
is_param_of defs t ds = true

-- the tag of elements may be undeclared
abbrev pub elements_specified : Specified → List Dimension → Specified
elements_specified x [] = x
elements_specified x (d ∷ ds) = record { type = x.type; undeclared = None }

-- the type of the elements, where all dimensions are known
abbrev pub elements_type : MaybeType → MaybeSize → List Dimension → MaybeType
elements_type t n ds = option_and_then (λ m. arrays_of t (sizes_of ds)) n

abbrev pub adjusted : (offset : ℕ) → MaybeType → List Dimension → Elaborated MaybeType
adjusted offset t [] = pure t
adjusted offset t (d ∷ ds) = do
  u ← if_some (elements_type t (size_of_dimension d) ds) (small_type offset)
  pure (option_map pointer_to u)

abbrev pub param_type : (offset : ℕ) → Specified → (stars : ℕ) → List Dimension → Elaborated MaybeType
param_type offset x stars ds = do
  s ← state
  u ← starred (elements_specified x ds) stars offset
  t ← if_some u (λ t. type_if (not (is_param_of s.structs t ds)) offset t)
  v ← adjusted offset t ds
  unless_empty (other_is_empty ds) offset v

-- ---- results of functions

abbrev pub result_type : (offset : ℕ) → Specified → (stars : ℕ) → Elaborated MaybeType
result_type offset x stars = do
  t ← starred x stars offset
  if_some t (λ t. type_if (is_struct t) offset t)
