-- The types of variables are laid out where no rule is broken, but for arrays whose initialiser gives the length.
use Rattle.std.proofs.Common.{◌≡◌, ◌≤◌, ◌⊎◌, inl, inr, ℕ, zero, suc, Bool, true, false, List, [], ◌∷◌, ◌++◌, refl, sym, ap, ◌∙◌, subst, arith}
use Rattle.std.specs.Prelude.{◌==◌, ◌&&◌, ◌||◌, not, nat_le, Option, None, Some, option_and_then, if◌then◌else◌}
use Rattle.std.specs.List.{list_any}
use Rattle.std.proofs.lemmas.Bool.{false≢true, and_parts}
use Rattle.std.proofs.lemmas.Bool.Decides.{nat_tests}
use Rattle.base.specs.Limits.{most_type_bytes}
use Rattle.c_ast.specs.Productions as l
use Rattle.c_ast.specs.Tree.{Tree, Node, Cons}
use Rattle.c_type.specs.Trees.{TypeTree, void_type, scalar_type, pointer_to, array_of, struct_type}
use Rattle.c_type.specs.Layout.{Definitions, is_complete, size, IsLaidOut}
use Rattle.c_check_def.specs.declared.dimension.Dimension.{Dimension}
use Rattle.c_check_def.specs.declared.dimension.Dimension.TheVariants as dimension
use Rattle.c_check_def.specs.declared.refusal_kind.RefusalKind.TheVariants.{NotConstant}
use Rattle.c_check_def.specs.State.{MaybeType, State, if_some, or_broken}
use Rattle.c_check_def.specs.Leaves.{begin_of}
use Rattle.c_check_def.specs.Specifiers.{Specified, specified_type}
use Rattle.c_check_def.specs.DeclaredTypes.{MaybeSize, pointers_to, array_by, arrays_of, sizes_of, is_empty, first_is_empty, other_is_empty, is_void, is_large, with_elements, type_if, small_type, unless_empty, unstarred, starred, is_object_of, object_type}
use Rattle.c_check_def.specs.Operands.{Term, term_constant}
use Rattle.c_check_def.specs.Expressions as expressions
use Rattle.c_check_def.specs.Expressions.{size_by, expression}
use Rattle.c_check_def.specs.Declarators.{open_dimension, open_dimensions}
use Rattle.c_check_laws.proofs.lemmas.Steps.{type_if_steps, small_type_steps, starred_steps, if_some_steps}
use Rattle.c_check_laws.proofs.lemmas.StatementSteps.{open_dimension_steps, unless_empty_steps}

-- ---- named types are no arrays

abbrev pub IsNoArray : TypeTree → Type 0
IsNoArray (array_of t n) = ⊥
IsNoArray t = Unit {0}

pub specified_no_array : (t : Tree) (s : State) → IsNoArray (specified_type t s).0.type
specified_no_array (Node l.Signed (Cons sign (Cons base more))) s = tt
specified_no_array (Node l.StructTag (Cons word (Cons tag more))) s = tt
specified_no_array t s = tt

-- ---- one step after another, where no rule is broken

-- a type that is there, and what is known of it
pub record TypeThere (P : TypeTree → Type 0) (t : MaybeType) : Type 0 where
  pub type : TypeTree
  pub there : t ≡ Some type
  pub holds : P type

pub starred_typed : (x : Specified) (stars offset : ℕ) (s : State) → IsNoArray x.type → (starred x stars offset s).1.broken ≡ None → TypeThere IsNoArray (starred x stars offset s).0
starred_typed x zero offset s h clean = by_tag x.undeclared clean
  where
    by_tag : (u : Option ℕ) → (unstarred u x.type s).1.broken ≡ None → TypeThere IsNoArray (unstarred u x.type s).0
    by_tag None q = record { type = x.type; there = refl; holds = h }
    by_tag (Some tag) q = absurd (cc)
starred_typed x (suc n) offset s h clean = by_test (is_void x.type) clean
  where
    by_test : (b : Bool) → (type_if b offset (pointers_to x.type (suc n)) s).1.broken ≡ None → TypeThere IsNoArray (type_if b offset (pointers_to x.type (suc n)) s).0
    by_test true q = absurd (cc)
    by_test false q = record { type = pointers_to x.type (suc n); there = refl; holds = tt }

pub object_is_complete : (defs : Definitions) (t : TypeTree) → IsNoArray t → is_object_of defs t ≡ true → is_complete defs t ≡ true
object_is_complete defs void_type h e = absurd (false≢true e)
object_is_complete defs (scalar_type s) h e = refl
object_is_complete defs (pointer_to t) h e = refl
object_is_complete defs (array_of t n) h e = absurd h
object_is_complete defs (struct_type tag) h e = e

-- ---- dimensions

-- a size of at least one
abbrev pub IsSize : MaybeSize → Type 0
IsSize None = ⊥
IsSize (Some n) = 1 ≤ n

abbrev pub DimensionFits : Dimension → Type 0
DimensionFits dimension.Empty = Unit {0}
DimensionFits (dimension.Sized n) = IsSize n

abbrev pub DimensionsFit : List Dimension → Type 0
DimensionsFit [] = Unit {0}
DimensionsFit (d ∷ ds) = DimensionFits d × DimensionsFit ds

dimensions_append : (ds : List Dimension) (d : Dimension) → DimensionsFit ds → DimensionFits d → DimensionsFit (ds ++ d ∷ [])
dimensions_append [] d h k = (k, tt)
dimensions_append (c ∷ ds) d h k = (h.0, dimensions_append ds d h.1 k)

size_by_fits : (w : ℕ) (n : ℕ) → size_by w ≡ Some n → 1 ≤ n
size_by_fits w n e = by_test (nat_le 1 w && nat_le w most_type_bytes) refl e
  where
    by_test : (b : Bool) → (nat_le 1 w && nat_le w most_type_bytes) ≡ b → (if b then Some w else None) ≡ Some n → 1 ≤ n
    by_test true q r =
        let low = (and_parts (nat_le 1 w) (nat_le w most_type_bytes) q).0 in
        let same : w ≡ n = cc in
        grind (arith, nat_tests, low, same)
    by_test false q r = absurd (cc)

pub size_fits : (offset : ℕ) (a : Term) (s : State) → (expressions.size offset a s).1.broken ≡ None → IsSize (expressions.size offset a s).0
size_fits offset a s clean = by_word (term_constant a) clean
  where
    by_size : (o : MaybeSize) → ((n : ℕ) → o ≡ Some n → 1 ≤ n) → (or_broken NotConstant offset o s).1.broken ≡ None → IsSize (or_broken NotConstant offset o s).0
    by_size None k q = absurd (cc)
    by_size (Some n) k q = k n refl

    by_word : (w : Option ℕ) → (or_broken NotConstant offset (option_and_then size_by w) s).1.broken ≡ None → IsSize (or_broken NotConstant offset (option_and_then size_by w) s).0
    by_word None q = absurd (cc)
    by_word (Some w) q = by_size (size_by w) (size_by_fits w) q

pub open_dimensions_fit : (t : Tree) (s : State) → (open_dimensions t s).1.broken ≡ None → DimensionsFit (open_dimensions t s).0
open_dimensions_fit (Node (l.More k) (Cons before (Cons opening (Cons bound none)))) s clean =
    let ds = open_dimensions before s in
    dimensions_append ds.0 (open_dimension bound ds.1).0 (open_dimensions_fit before s ((open_dimension_steps bound ds.1).broken clean)) (one bound ds.1 clean)
  where
    one : (t : Tree) (s : State) → (open_dimension t s).1.broken ≡ None → DimensionFits (open_dimension t s).0
    one (Node (l.Present k) (Cons bound none)) s q = let a = expression bound s in size_fits (begin_of bound) a.0 a.1 q
    one t s q = tt
open_dimensions_fit t s clean = tt

-- ---- arrays

sized_type : (defs : Definitions) (t : TypeTree) (ds : List Dimension) → DimensionsFit ds → list_any is_empty ds ≡ false → is_complete defs t ≡ true →
    TypeThere (λ u. is_complete defs u ≡ true) (arrays_of (Some t) (sizes_of ds))
sized_type defs t [] h e c = record { type = t; there = refl; holds = c }
sized_type defs t (dimension.Empty ∷ ds) h e c = absurd (false≢true (sym e))
sized_type defs t (dimension.Sized None ∷ ds) h e c = absurd h.0
sized_type defs t (dimension.Sized (Some n) ∷ ds) h e c =
    let r = sized_type defs t ds h.1 e c in
    let some : not (n == 0) ≡ true = grind (arith, nat_tests, h.0) in
    record { type = array_of r.type n; there = ap (option_and_then (array_by (Some n))) r.there; holds = λ i. some i && r.holds i }

allowed : (b : Bool) → (not b) ≡ false → b ≡ true
allowed true h = refl
allowed false h = absurd (false≢true (sym h))

-- a complete type, or an array that has no elements yet, where that may be
pub record Open (defs : Definitions) (may : Bool) (u : TypeTree) : Type 0 where
  pub may_be : may ≡ true
  pub element : TypeTree
  pub array : u ≡ array_of element 0
  pub complete : is_complete defs element ≡ true

dimensioned : (defs : Definitions) (may : Bool) (t : TypeTree) (ds : List Dimension) → DimensionsFit ds → (other_is_empty ds || (first_is_empty ds && not may)) ≡ false → is_complete defs t ≡ true →
    TypeThere (λ u. (is_complete defs u ≡ true) ⊎ Open defs may u) (arrays_of (Some t) (sizes_of ds))
dimensioned defs may t [] h e c = record { type = t; there = refl; holds = inl c }
dimensioned defs may t (d ∷ ds) h e c = by_other (list_any is_empty ds) refl e
  where
    first : (d : Dimension) → DimensionFits d → list_any is_empty ds ≡ false → (is_empty d && not may) ≡ false →
        TypeThere (λ u. (is_complete defs u ≡ true) ⊎ Open defs may u) (arrays_of (Some t) (sizes_of (d ∷ ds)))
    first dimension.Empty k none m =
        let r = sized_type defs t ds h.1 none c in
        record {
          type = array_of r.type 0;
          there = ap (option_and_then (array_by (Some 0))) r.there;
          holds = inr
              (record { may_be = allowed may m; element = r.type; array = refl; complete = r.holds });
        }
    first (dimension.Sized None) k none m = absurd k
    first (dimension.Sized (Some n)) k none m =
        let r = sized_type defs t ds h.1 none c in
        let some : not (n == 0) ≡ true = grind (arith, nat_tests, k) in
        record { type = array_of r.type n; there = ap (option_and_then (array_by (Some n))) r.there; holds = inl (λ i. some i && r.holds i) }

    by_other : (b : Bool) → list_any is_empty ds ≡ b → (b || (is_empty d && not may)) ≡ false → TypeThere (λ u. (is_complete defs u ≡ true) ⊎ Open defs may u) (arrays_of (Some t) (sizes_of (d ∷ ds)))
    by_other true q m = absurd (false≢true (sym m))
    by_other false q m = first d h.0 q m

-- ---- sizes

not_large : (defs : Definitions) (t : TypeTree) → is_complete defs t ≡ true → is_large defs t ≡ false → IsLaidOut defs t
not_large defs t c e = record { complete = c; small = by_size (nat_le (size defs t) most_type_bytes) refl (sym (ap (λ b. b && not (nat_le (size defs t) most_type_bytes)) c) ∙ e) }
  where
    by_size : (b : Bool) → nat_le (size defs t) most_type_bytes ≡ b → (not b) ≡ false → size defs t ≤ most_type_bytes
    by_size true q m = grind (arith, nat_tests, q)
    by_size false q m = absurd (false≢true (sym m))

complete_elements : (defs : Definitions) (t : TypeTree) → is_complete defs t ≡ true → with_elements t ≡ t
complete_elements defs void_type c = refl
complete_elements defs (scalar_type s) c = refl
complete_elements defs (pointer_to t) c = refl
complete_elements defs (array_of t zero) c = absurd (false≢true c)
complete_elements defs (array_of t (suc n)) c = refl
complete_elements defs (struct_type tag) c = refl

-- a type that is laid out, or an array whose elements are, where the initialiser gives the length
pub record OpenLaid (defs : Definitions) (may : Bool) (u : TypeTree) : Type 0 where
  pub may_be : may ≡ true
  pub element : TypeTree
  pub array : u ≡ array_of element 0
  pub one : IsLaidOut defs (array_of element 1)

abbrev pub LaidOrOpen : Definitions → Bool → TypeTree → Type 0
LaidOrOpen defs may u = IsLaidOut defs u ⊎ OpenLaid defs may u

pub small_typed : (defs : Definitions) (may : Bool) (offset : ℕ) (u : TypeTree) (s : State) → s.structs ≡ defs → (is_complete defs u ≡ true) ⊎ Open defs may u →
    (small_type offset u s).1.broken ≡ None →
    TypeThere (LaidOrOpen defs may) (small_type offset u s).0
small_typed defs may offset u s same h clean = by_test (is_large s.structs (with_elements u)) refl clean
  where
    laid : is_large s.structs (with_elements u) ≡ false → (is_complete defs u ≡ true) ⊎ Open defs may u → LaidOrOpen defs may u
    laid e (inl c) = inl (not_large defs u c (ap (is_large defs) (sym (complete_elements defs u c)) ∙ ap (λ d. is_large d (with_elements u)) (sym same) ∙ e))
    laid e (inr o) =
        let whole : is_complete defs (array_of o.element 1) ≡ true = o.complete in
        inr (record {
          may_be = o.may_be;
          element = o.element;
          array = o.array;
          one = not_large defs (array_of o.element 1) whole (ap (λ t. is_large defs (with_elements t)) (sym o.array) ∙ ap (λ d. is_large d (with_elements u)) (sym same) ∙ e);
        })

    by_test : (b : Bool) → is_large s.structs (with_elements u) ≡ b → (type_if b offset u s).1.broken ≡ None → TypeThere (LaidOrOpen defs may) (type_if b offset u s).0
    by_test true q r = absurd (cc)
    by_test false q r = record { type = u; there = refl; holds = laid q h }

-- The type of a variable or member is laid out, or an array whose initialiser gives the length.
pub object_type_typed : (may : Bool) (offset : ℕ) (x : Specified) (stars : ℕ) (ds : List Dimension) (s : State) → IsNoArray x.type → DimensionsFit ds →
    (object_type may offset x stars ds s).1.broken ≡ None →
    TypeThere (LaidOrOpen s.structs may) (object_type may offset x stars ds s).0
object_type_typed may offset x stars ds s base fit clean =
    let wrong = other_is_empty ds || (first_is_empty ds && not may) in
    let u = starred x stars offset s in
    let t = if_some u.0 (λ t. type_if (not (is_object_of s.structs t)) offset t) u.1 in
    let v = if_some (arrays_of t.0 (sizes_of ds)) (small_type offset) t.1 in
    let cv = (unless_empty_steps wrong offset v.0 v.1).broken clean in
    let st = if_some_steps u.0 (λ t. type_if (not (is_object_of s.structs t)) offset t) (λ t. type_if_steps (not (is_object_of s.structs t)) offset t) u.1 in
    let sv = if_some_steps (arrays_of t.0 (sizes_of ds)) (small_type offset) (small_type_steps offset) t.1 in
    let ct = sv.broken cv in
    let cu = st.broken ct in
    let su = starred_steps x stars offset s in
    let a = starred_typed x stars offset s base cu in
    let b : TypeThere (λ u. is_complete s.structs u ≡ true) t.0 =
    element u.0 u.1 su.structs a ct in
    let right : wrong ≡ false = not_empty wrong offset v.0 v.1 clean in
    let c = dimensioned s.structs may b.type ds fit right b.holds in
    let d : TypeThere (LaidOrOpen s.structs may) v.0 =
    arrayed (arrays_of t.0 (sizes_of ds)) t.1 (st.structs ∙ su.structs) (record { type = c.type; there = ap (λ t. arrays_of t (sizes_of ds)) b.there ∙ c.there; holds = c.holds }) cv in
    given wrong v.0 v.1 right d
  where
    element : (u : MaybeType) (q : State) → q.structs ≡ s.structs → TypeThere IsNoArray u → (if_some u (λ t. type_if (not (is_object_of s.structs t)) offset t) q).1.broken ≡ None →
        TypeThere (λ u. is_complete s.structs u ≡ true) (if_some u (λ t. type_if (not (is_object_of s.structs t)) offset t) q).0
    element None q same a c = let none = a.there in absurd (cc)
    element (Some t) q same a c =
        let is : t ≡ a.type = let e = a.there in cc in
        by_test (is_object_of s.structs t) refl (subst IsNoArray (sym is) a.holds) c
      where
        by_test : (b : Bool) → is_object_of s.structs t ≡ b → IsNoArray t → (type_if (not b) offset t q).1.broken ≡ None →
            TypeThere (λ u. is_complete s.structs u ≡ true) (type_if (not b) offset t q).0
        by_test true e n r = record { type = t; there = refl; holds = object_is_complete s.structs t n e }
        by_test false e n r = absurd (cc)

    not_empty : (wrong : Bool) (offset : ℕ) (t : MaybeType) (s : State) → (unless_empty wrong offset t s).1.broken ≡ None → wrong ≡ false
    not_empty true offset t s c = absurd (cc)
    not_empty false offset t s c = refl

    arrayed : (u : MaybeType) (q : State) → q.structs ≡ s.structs → TypeThere (λ u. (is_complete s.structs u ≡ true) ⊎ Open s.structs may u) u → (if_some u (small_type offset) q).1.broken ≡ None →
        TypeThere (LaidOrOpen s.structs may) (if_some u (small_type offset) q).0
    arrayed None q same a c = let none = a.there in absurd (cc)
    arrayed (Some t) q same a c =
        let is : t ≡ a.type = let e = a.there in cc in
        small_typed s.structs may offset t q same (subst (λ u. (is_complete s.structs u ≡ true) ⊎ Open s.structs may u) (sym is) a.holds) c

    given : (wrong : Bool) (t : MaybeType) (q : State) → wrong ≡ false → TypeThere (LaidOrOpen s.structs may) t → TypeThere (LaidOrOpen s.structs may) (unless_empty wrong offset t q).0
    given true t q e h = absurd (false≢true (sym e))
    given false t q e h = h
