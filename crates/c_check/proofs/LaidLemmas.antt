-- The type of a member that breaks no rule is laid out, whatever is broken before it.
use Rattle.std.proofs.Common.{◌≡◌, ◌≤◌, ℕ, zero, suc, Bool, true, false, List, [], ◌∷◌, ◌++◌, map, Option, None, Some, refl, sym, ap, ◌∙◌, arith}
use Rattle.std.specs.Prelude.{◌==◌, ◌&&◌, ◌||◌, not, nat_le, if◌then◌else◌}
use Rattle.std.specs.Option.{option_and_then}
use Rattle.std.proofs.lemmas.Bool.{false≢true, and_parts}
use Rattle.std.proofs.lemmas.Bool.Decides.{nat_tests}
use Rattle.base.specs.Limits.{most_type_bytes}
use Rattle.c_ast.specs.Productions as l
use Rattle.c_ast.specs.Tree.{Tree, Node, Cons}
use Rattle.c_type.specs.Trees.{TypeTree, void_type, scalar_type, pointer_to, array_of, struct_type}
use Rattle.c_type.specs.Layout.{Definitions, is_complete, size, IsLaidOut}
use Rattle.c_check_def.specs.declared.dimension.Dimension.TheVariants as dimension
use Rattle.c_check_def.specs.declared.refusal_kind.RefusalKind.TheVariants.{NotConstant}
use Rattle.c_check_def.specs.State.{MaybeType, State, if_some, or_broken}
use Rattle.c_check_def.specs.Leaves.{begin_of}
use Rattle.c_check_def.specs.Specifiers.{Specified}
use Rattle.c_check_def.specs.DeclaredTypes.{MaybeSize, pointers_to, array_by, arrays_of, sizes_of, is_void, is_large, with_elements, other_is_empty, first_is_empty, type_if, small_type, unless_empty, unstarred, starred, is_object_of, object_type}
use Rattle.c_check_def.specs.Operands.{term_constant}
use Rattle.c_check_def.specs.Expressions as expressions
use Rattle.c_check_def.specs.Expressions.{size_by, expression, dimensions}
use Rattle.c_check_laws.proofs.lemmas.Steps.{starred_steps, type_if_steps, if_some_steps}
use Rattle.c_check_laws.proofs.lemmas.Types.{IsNoArray, object_is_complete}
use Rattle.c_check.specs.MemberLists.{LaidIfSome}

-- ---- sizes of at least one

abbrev SizeIfSome : MaybeSize → Type 0
SizeIfSome None = Unit {0}
SizeIfSome (Some n) = 1 ≤ n

abbrev pub AllSizes : List MaybeSize → Type 0
AllSizes [] = Unit {0}
AllSizes (n ∷ ns) = SizeIfSome n × AllSizes ns

sizes-more : (ns : List MaybeSize) (n : MaybeSize) → AllSizes ns → SizeIfSome n → AllSizes (ns ++ n ∷ [])
sizes-more [] n h k = (k, tt)
sizes-more (m ∷ ns) n h k = (h.0, sizes-more ns n h.1 k)

word-size : (w : ℕ) → SizeIfSome (size_by w)
word-size w = by_test (nat_le 1 w && nat_le w most_type_bytes) refl
  where
    by_test : (b : Bool) → (nat_le 1 w && nat_le w most_type_bytes) ≡ b → SizeIfSome (if b then Some w else None)
    by_test true h = let low = (and_parts (nat_le 1 w) (nat_le w most_type_bytes) h).0 in grind (arith, nat_tests, low)
    by_test false h = tt

constant-size : (w : Option ℕ) → SizeIfSome (option_and_then size_by w)
constant-size None = tt
constant-size (Some w) = word-size w

or-size : (offset : ℕ) (n : MaybeSize) (s : State) → SizeIfSome n → SizeIfSome (or_broken NotConstant offset n s).0
or-size offset None s h = tt
or-size offset (Some n) s h = h

pub dimensions-sizes : (t : Tree) (s : State) → AllSizes (dimensions t s).0
dimensions-sizes (Node (l.More k) (Cons before (Cons opening (Cons bound none)))) s =
    let ns = dimensions before s in
    let a = expression bound ns.1 in
    sizes-more ns.0 (expressions.size (begin_of bound) a.0 a.1).0 (dimensions-sizes before s)
    (or-size (begin_of bound) (option_and_then size_by (term_constant a.0)) a.1 (constant-size (term_constant a.0)))
dimensions-sizes t s = tt

-- ---- from the type before the stars on

abbrev NoArrayIfSome : MaybeType → Type 0
NoArrayIfSome None = Unit {0}
NoArrayIfSome (Some t) = IsNoArray t

starred-no-array : (x : Specified) (stars offset : ℕ) (s : State) → IsNoArray x.type → NoArrayIfSome (starred x stars offset s).0
starred-no-array x zero offset s h = by_tag x.undeclared
  where
    by_tag : (u : Option ℕ) → NoArrayIfSome (unstarred u x.type s).0
    by_tag None = h
    by_tag (Some tag) = tt
starred-no-array x (suc n) offset s h = by_test (is_void x.type)
  where
    by_test : (b : Bool) → NoArrayIfSome (type_if b offset (pointers_to x.type (suc n)) s).0
    by_test true = tt
    by_test false = tt

abbrev CompleteIfSome : Definitions → MaybeType → Type 0
CompleteIfSome defs None = Unit {0}
CompleteIfSome defs (Some t) = is_complete defs t ≡ true

module _ (defs : Definitions) (offset : ℕ) where
  object-if : (u : MaybeType) (s : State) → NoArrayIfSome u → CompleteIfSome defs (if_some u (λ t. type_if (not (is_object_of defs t)) offset t) s).0
  object-if None s h = tt
  object-if (Some t) s h = by_test (is_object_of defs t) refl
    where
      by_test : (b : Bool) → is_object_of defs t ≡ b → CompleteIfSome defs (type_if (not b) offset t s).0
      by_test true e = object_is_complete defs t h e
      by_test false e = tt

  array-complete : (n : MaybeSize) (t : MaybeType) → SizeIfSome n → CompleteIfSome defs t → CompleteIfSome defs (option_and_then (array_by n) t)
  array-complete n None h c = tt
  array-complete None (Some t) h c = tt
  array-complete (Some n) (Some t) h c = let some : not (n == 0) ≡ true = grind (arith, nat_tests, h) in λ i. some i && c i

  arrays-complete : (ns : List MaybeSize) (t : MaybeType) → AllSizes ns → CompleteIfSome defs t → CompleteIfSome defs (arrays_of t (sizes_of (map dimension.Sized ns)))
  arrays-complete [] t h c = c
  arrays-complete (n ∷ ns) t h c = array-complete n (arrays_of t (sizes_of (map dimension.Sized ns))) h.0 (arrays-complete ns t h.1 c)

  not-large : (t : TypeTree) → is_complete defs t ≡ true → is_large defs t ≡ false → IsLaidOut defs t
  not-large t c e = record { complete = c; small = by_size (nat_le (size defs t) most_type_bytes) refl (sym (ap (λ b. b && not (nat_le (size defs t) most_type_bytes)) c) ∙ e) }
    where
      by_size : (b : Bool) → nat_le (size defs t) most_type_bytes ≡ b → (not b) ≡ false → size defs t ≤ most_type_bytes
      by_size true q m = grind (arith, nat_tests, q)
      by_size false q m = absurd (false≢true (sym m))

  elements-same : (t : TypeTree) → is_complete defs t ≡ true → with_elements t ≡ t
  elements-same void_type c = refl
  elements-same (scalar_type s) c = refl
  elements-same (pointer_to t) c = refl
  elements-same (array_of t zero) c = absurd (false≢true c)
  elements-same (array_of t (suc n)) c = refl
  elements-same (struct_type tag) c = refl

  small-laid : (t : MaybeType) (s : State) → s.structs ≡ defs → CompleteIfSome defs t → LaidIfSome defs (if_some t (small_type offset) s).0
  small-laid None s same c = tt
  small-laid (Some t) s same c = by_test (is_large s.structs (with_elements t)) refl
    where
      by_test : (b : Bool) → is_large s.structs (with_elements t) ≡ b → LaidIfSome defs (type_if b offset t s).0
      by_test true e = tt
      by_test false e = not-large t c (ap (is_large defs) (sym (elements-same t c)) ∙ ap (λ d. is_large d (with_elements t)) (sym same) ∙ e)

  unless-laid : (wrong : Bool) (t : MaybeType) (s : State) → LaidIfSome defs t → LaidIfSome defs (unless_empty wrong offset t s).0
  unless-laid true t s h = tt
  unless-laid false t s h = h

-- the type of a member whose name is at this offset
pub object-laid : (offset : ℕ) (x : Specified) (stars : ℕ) (ns : List MaybeSize) (s : State) → IsNoArray x.type → AllSizes ns →
    LaidIfSome s.structs (object_type false offset x stars (map dimension.Sized ns) s).0
object-laid offset x stars ns s base sizes =
    let defs = s.structs in
    let ds = map dimension.Sized ns in
    let u = starred x stars offset s in
    let t = if_some u.0 (λ t. type_if (not (is_object_of defs t)) offset t) u.1 in
    let v = if_some (arrays_of t.0 (sizes_of ds)) (small_type offset) t.1 in
    let same : t.1.structs ≡ defs =
    (if_some_steps u.0 (λ t. type_if (not (is_object_of defs t)) offset t) (λ t. type_if_steps (not (is_object_of defs t)) offset t) u.1).structs ∙ (starred_steps x stars offset s).structs in
    unless-laid defs offset (other_is_empty ds || (first_is_empty ds && not false)) v.0 v.1
    (small-laid defs offset (arrays_of t.0 (sizes_of ds)) t.1 same
    (arrays-complete defs offset ns t.0 sizes (object-if defs offset u.0 u.1 (starred-no-array x stars offset s base))))
