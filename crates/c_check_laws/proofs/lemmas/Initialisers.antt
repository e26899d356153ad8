-- The values of an initialiser are typed, and stand at the leaves of what they begin.
use Rattle.std.proofs.Common.{◌≡◌, ◌≤◌, ◌<◌, inl, inr, ℕ, ◌+◌, ◌*◌, ◌^◌, zero, suc, Bool, true, false, List, [], ◌∷◌, ◌++◌, length, refl, sym, ap, ◌∙◌, subst, arith}
use Rattle.std.specs.Prelude.{nat_le, All, Option, None, Some, option_map, if◌then◌else◌}
use Rattle.std.proofs.lemmas.Bool.{false≢true}
use Rattle.std.proofs.lemmas.Bool.Decides.{nat_tests}
use Rattle.std.proofs.lemmas.List.Elements.{All-nil, All-append, All-head, All-tail}
use Rattle.val_core.specs.declared.leaf.Leaf.{Leaf}
use Rattle.c_lex.specs.declared.token.TokenKind.{TokenKind}
use Rattle.c_lex.specs.declared.token.TokenKind.TheVariants as kind
use Rattle.c_ast.specs.Productions as l
use Rattle.c_ast.specs.Tree as tree
use Rattle.c_ast.specs.Tree.{Tree, Node, Cons}
use Rattle.c_type.specs.declared.scalar.Scalar.{Scalar}
use Rattle.c_type.specs.declared.scalar.Scalar.TheVariants.{Char, SignedChar, UnsignedChar}
use Rattle.c_type.specs.Trees.{TypeTree, scalar_type, pointer_to, array_of}
use Rattle.c_type.specs.Layout.{Definitions, is_complete, scalar_size, size, leaves_at, repeated}
use Rattle.c_type.specs.WellDefined.{AreDefinitions}
use Rattle.c_typed.specs.Typed.{ExprTree, ElementTrees, no_elements, value_then, characters_then}
use Rattle.c_typed.specs.WellTyped.{Scope, IsScalar, type_of, ExprIsTyped, HasLeaf, AreCharactersAt, ElementsFit}
use Rattle.c_check_def.specs.declared.operand.Operand.{Operand}
use Rattle.c_check_def.specs.declared.refusal_kind.RefusalKind.TheVariants.{NotConstant, BadInitialiser}
use Rattle.c_check_def.specs.State.{State, breaks_if, broken_at, if_some, pure}
use Rattle.c_check_def.specs.Leaves.{offset_of, begin_of, characters_of, characters_by}
use Rattle.c_check_def.specs.Operands.{Term}
use Rattle.c_check_def.specs.Calls.{passed}
use Rattle.c_check_def.specs.Expressions.{more_characters, expression}
use Rattle.c_check_def.specs.Initialisers.{Elements, joined, both_joined, value_at, converted, value_read, value, is_character, character_array, characters, string_for, sets_to_zero, count_in, part_type, part_offset, part_of, part_at, parts_of, takes, list_for, initialiser, elements}
use Rattle.c_check_def.specs.CheckLaws.{IsInRange}
use Rattle.c_check_laws.specs.TypedOperands.{IfSome, ObjectsFit}
use Rattle.c_check_laws.proofs.Options.{map_holds}
use Rattle.c_check_laws.proofs.lemmas.States.{Ending, Fits, fits_back, At, at_step, objects_fit, structs_at}
use Rattle.c_check_laws.proofs.lemmas.Steps.{expression_steps, if_some_steps}
use Rattle.c_check_laws.proofs.lemmas.StatementSteps.{value_read_steps, list_for_steps, initialiser_steps, elements_steps}
use Rattle.c_check_laws.proofs.lemmas.Terms.{TermFits, InRange, or_broken_holds}
use Rattle.c_check_laws.proofs.lemmas.Expressions.{expression_typed}
use Rattle.c_check_laws.proofs.lemmas.Statements.{ResultOf, result_typed}
use Rattle.c_check_laws.proofs.lemmas.Parts.{Layouts, part_leaf, parts_end, part_size, part_at_index, parts_rise, parts_within}

-- ---- elements between two offsets

abbrev pub ElementsWithin : Scope → List Leaf → (from end : ℕ) → ElementTrees → Type 0
ElementsWithin c ls from end no_elements = from ≤ end
ElementsWithin c ls from end (value_then offset e es) =
    (from ≤ offset) × ExprIsTyped c e × IsScalar (type_of e) × HasLeaf ls offset (size c.structs (type_of e))
    × ElementsWithin c ls (offset + size c.structs (type_of e)) end es
ElementsWithin c ls from end (characters_then offset cs es) = (from ≤ offset) × AreCharactersAt ls offset cs × ElementsWithin c ls (offset + length cs) end es

pub within_fits : (c : Scope) (ls : List Leaf) (from end : ℕ) (es : ElementTrees) → ElementsWithin c ls from end es → ElementsFit c ls from es
within_fits c ls from end no_elements h = tt
within_fits c ls from end (value_then offset e es) h = (h.0, h.1, h.2, h.3, within_fits c ls (offset + size c.structs (type_of e)) end es h.4)
within_fits c ls from end (characters_then offset cs es) h = (h.0, h.1, within_fits c ls (offset + length cs) end es h.2)

within_from : (c : Scope) (ls : List Leaf) (low from end : ℕ) (es : ElementTrees) → low ≤ from → ElementsWithin c ls from end es → ElementsWithin c ls low end es
within_from c ls low from end no_elements b h = omega (arith, b, h)
within_from c ls low from end (value_then offset e es) b h = (omega (arith, b, h.0), h.1, h.2, h.3, h.4)
within_from c ls low from end (characters_then offset cs es) b h = (omega (arith, b, h.0), h.1, h.2)

within_to : (c : Scope) (ls : List Leaf) (from end high : ℕ) (es : ElementTrees) → end ≤ high → ElementsWithin c ls from end es → ElementsWithin c ls from high es
within_to c ls from end high no_elements b h = omega (arith, b, h)
within_to c ls from end high (value_then offset e es) b h = (h.0, h.1, h.2, h.3, within_to c ls (offset + size c.structs (type_of e)) end high es b h.4)
within_to c ls from end high (characters_then offset cs es) b h = (h.0, h.1, within_to c ls (offset + length cs) end high es b h.2)

within_joined : (c : Scope) (ls : List Leaf) (from middle end : ℕ) (xs ys : ElementTrees) → ElementsWithin c ls from middle xs → ElementsWithin c ls middle end ys →
    ElementsWithin c ls from end (joined xs ys)
within_joined c ls from middle end no_elements ys h k = within_from c ls from middle end ys h k
within_joined c ls from middle end (value_then offset e xs) ys h k = (h.0, h.1, h.2, h.3, within_joined c ls (offset + size c.structs (type_of e)) middle end xs ys h.4 k)
within_joined c ls from middle end (characters_then offset cs xs) ys h k = (h.0, h.1, within_joined c ls (offset + length cs) middle end xs ys h.2 k)

-- leaves that are all among others
abbrev AreAmong : List Leaf → List Leaf → Type 0
AreAmong ls ms = (o w : ℕ) → HasLeaf ls o w → HasLeaf ms o w

characters_among : (ls ms : List Leaf) (o : ℕ) (cs : List ℕ) → AreAmong ls ms → AreCharactersAt ls o cs → AreCharactersAt ms o cs
characters_among ls ms o [] a h = tt
characters_among ls ms o (c ∷ cs) a h = (a o 1 h.0, h.1, characters_among ls ms (suc o) cs a h.2)

within_among : (c : Scope) (ls ms : List Leaf) (from end : ℕ) (es : ElementTrees) → AreAmong ls ms → ElementsWithin c ls from end es → ElementsWithin c ms from end es
within_among c ls ms from end no_elements a h = h
within_among c ls ms from end (value_then offset e es) a h =
    (h.0, h.1, h.2, a offset (size c.structs (type_of e)) h.3, within_among c ls ms (offset + size c.structs (type_of e)) end es a h.4)
within_among c ls ms from end (characters_then offset cs es) a h = (h.0, characters_among ls ms offset cs a h.1, within_among c ls ms (offset + length cs) end es a h.2)

-- ---- a value

-- one value of this type
pub record IsValue (c : Scope) (u : TypeTree) (at : ℕ) (es : ElementTrees) : Type 0 where
  pub value : ExprTree
  pub alone : es ≡ value_then at value no_elements
  pub fits : ResultOf c u value

converted_fits : (c : Scope) (u : TypeTree) (at offset : ℕ) (a : Operand) (s : State) → ObjectsFit c → TermFits c (Some a) → IfSome (IsValue c u at) (converted (Some u) at offset a s).0
converted_fits c u at offset a s fit ty =
    or_broken_holds (IsValue c u at) BadInitialiser offset (option_map (value_at at) (passed u a)) s
    (map_holds (ResultOf c u) (IsValue c u at) (value_at at) (passed u a) (result_typed c u a fit ty) (λ v k. record { value = v; alone = refl; fits = k }))

value_read_fits : (c : Scope) (is_static : Bool) (u : TypeTree) (at offset : ℕ) (a : Term) (s : State) → ObjectsFit c → TermFits c a →
    IfSome (IsValue c u at) (value_read is_static (Some u) at offset a s).0
value_read_fits c is_static u at offset a s fit ty = by_test _ _ (by_term a (breaks_if _ NotConstant offset s).1 ty)
  where
    by_term : (a : Term) (q : State) → TermFits c a → IfSome (IsValue c u at) (if_some a (converted (Some u) at offset) q).0
    by_term None q k = tt
    by_term (Some x) q k = converted_fits c u at offset x q fit k

    by_test : (wrong : Bool) (o : Elements) → IfSome (IsValue c u at) o → IfSome (IsValue c u at) (if wrong then None else o)
    by_test true o h = tt
    by_test false o h = h

pub value_fits : (e : Ending) (c : Scope) (is_static : Bool) (u : TypeTree) (at : ℕ) (x : Tree) (s : State) → InRange x → At e c s → Fits e (value is_static (Some u) at x s).1 →
    IfSome (IsValue c u at) (value is_static (Some u) at x s).0
value_fits e c is_static u at x s r h fit =
    let a = expression x s in
    let fa = fits_back e a.1 _ (value_read_steps is_static (Some u) at (begin_of x) a.0 a.1) fit in
    let ha = at_step e c s a.1 (expression_steps x s) h in
    value_read_fits c is_static u at (begin_of x) a.0 a.1 (objects_fit e c a.1 ha fa) (expression_typed e c x s r h fa)

scalar_leaf : (defs : Definitions) (u : TypeTree) (at : ℕ) → IsScalar u → HasLeaf (leaves_at defs u at) at (size defs u)
scalar_leaf defs (scalar_type s) at h = inl (refl, refl)
scalar_leaf defs (pointer_to t) at h = inl (refl, refl)
scalar_leaf defs u at h = absurd h

value_within : (c : Scope) (u : TypeTree) (at : ℕ) (es : ElementTrees) → IsValue c u at es → ElementsWithin c (leaves_at c.structs u at) at (at + size c.structs u) es
value_within c u at es h =
    let k = h.fits in
    let same = ap (size c.structs) k.type in
    subst (ElementsWithin c (leaves_at c.structs u at) at (at + size c.structs u)) (sym h.alone)
    (omega arith, k.typed, subst IsScalar (sym k.type) k.scalar, subst (HasLeaf (leaves_at c.structs u at) at) (sym same) (scalar_leaf c.structs u at k.scalar), omega (arith, same))

values_within : (c : Scope) (u : TypeTree) (at : ℕ) (o : Elements) → IfSome (IsValue c u at) o → IfSome (ElementsWithin c (leaves_at c.structs u at) at (at + size c.structs u)) o
values_within c u at None h = tt
values_within c u at (Some es) h = value_within c u at es h

-- ---- strings

abbrev pub AreBytes : List ℕ → Type 0
AreBytes = All (λ c. c < 2 ^ 8)

characters_in_range : (t : Tree) → InRange t → AreBytes (characters_of t)
characters_in_range (tree.Leaf x) h = by_kind x.kind h
  where
    by_kind : (k : TokenKind) → IsInRange k → AreBytes (characters_by k)
    by_kind (kind.Text cs) h = h
    by_kind k h = All-nil (λ c. c < 2 ^ 8)
characters_in_range t h = All-nil (λ c. c < 2 ^ 8)

more_in_range : (t : Tree) → InRange t → AreBytes (more_characters t)
more_in_range (Node (l.More k) (Cons before (Cons x more))) h =
    All-append (λ c. c < 2 ^ 8) (more_characters before) (characters_of x) (more_in_range before h.0) (characters_in_range x h.1.0)
more_in_range t h = All-nil (λ c. c < 2 ^ 8)

pub string_in_range : (x xs : Tree) → InRange x → InRange xs → AreBytes (characters_of x ++ more_characters xs)
string_in_range x xs h k = All-append (λ c. c < 2 ^ 8) (characters_of x) (more_characters xs) (characters_in_range x h) (more_in_range xs k)

-- bytes at leaves of which there is one at each place
pub bytes_at : (ls : List Leaf) (at i n : ℕ) (cs : List ℕ) → ((j : ℕ) → j < n → HasLeaf ls (at + j) 1) → i + length cs ≤ n → AreBytes cs → AreCharactersAt ls (at + i) cs
bytes_at ls at i n [] leaf b h = tt
bytes_at ls at i n (c ∷ cs) leaf b h =
    let next : at + suc i ≡ suc (at + i) = omega arith in (
      leaf i (omega (arith, b)),
      All-head (λ c. c < 2 ^ 8) c cs h,
      subst (λ o. AreCharactersAt ls o cs) next (bytes_at ls at (suc i) n cs leaf (omega (arith, b)) (All-tail (λ c. c < 2 ^ 8) c cs h)),
    )

byte_leaf : (n at i : ℕ) → i < n → HasLeaf (repeated n 1 at (λ o. record { offset = o; width = 1 } ∷ [])) (at + i) 1
byte_leaf zero at i below = absurd (omega (arith, below))
byte_leaf (suc n) at zero below = inl (omega arith, refl)
byte_leaf (suc n) at (suc i) below =
    let next : at + 1 + i ≡ at + suc i = omega arith in
    inr (subst (λ o. HasLeaf (repeated n 1 (at + 1) (λ o. record { offset = o; width = 1 } ∷ [])) o 1) next (byte_leaf n (at + 1) i (omega (arith, below))))

-- an array of characters has leaves of one byte
pub record IsBytes (defs : Definitions) (u : TypeTree) (n : ℕ) : Type 0 where
  pub leaf : (at i : ℕ) → i < n → HasLeaf (leaves_at defs u at) (at + i) 1
  pub bytes : size defs u ≡ n

pub bytes_array : (defs : Definitions) (s : Scalar) (n : ℕ) → scalar_size s ≡ 1 → IsBytes defs (array_of (scalar_type s) n) n
bytes_array defs s n e = record {
  leaf = λ at i below. subst (λ w. HasLeaf (repeated n w at (λ o. record { offset = o; width = w } ∷ [])) (at + i) 1) (sym e) (byte_leaf n at i below);
  bytes = ap (λ w. n * w) e ∙ omega arith;
}

one_byte : (s : Scalar) → is_character s ≡ true → scalar_size s ≡ 1
one_byte Char h = refl
one_byte SignedChar h = refl
one_byte UnsignedChar h = refl
one_byte s h = absurd (false≢true h)

character_bytes : (defs : Definitions) (u : TypeTree) (n : ℕ) → character_array u ≡ Some n → IsBytes defs u n
character_bytes defs (array_of (scalar_type s) m) n e = by_test (is_character s) refl e
  where
    by_test : (b : Bool) → is_character s ≡ b → (if b then Some m else None) ≡ Some n → IsBytes defs (array_of (scalar_type s) m) n
    by_test true q r = let same : m ≡ n = cc in subst (IsBytes defs (array_of (scalar_type s) m)) same (bytes_array defs s m (one_byte s q))
    by_test false q r = absurd (cc)
character_bytes defs u n e = absurd (cc)

characters_fit : (c : Scope) (u : TypeTree) (at offset n : ℕ) (cs : List ℕ) (s : State) → IsBytes c.structs u n → AreBytes cs →
    IfSome (ElementsWithin c (leaves_at c.structs u at) at (at + size c.structs u)) (characters at offset cs n s).0
characters_fit c u at offset n cs s b h = by_test (nat_le (length cs) n) refl
  where
    by_test : (t : Bool) → nat_le (length cs) n ≡ t →
        IfSome (ElementsWithin c (leaves_at c.structs u at) at (at + size c.structs u)) ((if t then pure (Some (characters_then at cs no_elements)) else broken_at BadInitialiser offset) s).0
    by_test true q =
        let room : length cs ≤ n = grind (arith, nat_tests, q) in
        let start : at + 0 ≡ at = omega arith in (
          omega arith,
          subst (λ o. AreCharactersAt (leaves_at c.structs u at) o cs) start (bytes_at (leaves_at c.structs u at) at 0 n cs (b.leaf at) (omega (arith, room)) h),
          omega
              (arith, room, b.bytes),
        )
    by_test false q = tt

-- ---- lists

both_within : (c : Scope) (ls : List Leaf) (from middle end : ℕ) (xs ys : Elements) → IfSome (ElementsWithin c ls from middle) xs → IfSome (ElementsWithin c ls middle end) ys →
    IfSome (ElementsWithin c ls from end) (both_joined xs ys)
both_within c ls from middle end None ys h k = tt
both_within c ls from middle end (Some xs) None h k = tt
both_within c ls from middle end (Some xs) (Some ys) h k = within_joined c ls from middle end xs ys h k

-- what a list begins has so many parts
taken : (o : Option ℕ) (count : ℕ) → takes o count ≡ true → (n : ℕ) × (o ≡ Some n) × (count ≤ n)
taken None count h = absurd (false≢true h)
taken (Some n) count h = (n, refl, grind (arith, nat_tests, h))

list_holds : (P : ElementTrees → Type 0) (defs : Definitions) (u : TypeTree) (offset count : ℕ) (o : Elements) (q : State) → q.structs ≡ defs →
    ((n : ℕ) → parts_of defs u ≡ Some n → count ≤ n → IfSome P o) →
    IfSome P (if_some o (list_for (Some u) offset count) q).0
list_holds P defs u offset count None q same h = tt
list_holds P defs u offset count (Some es) q same h = by_test (takes (parts_of q.structs u) count) refl
  where
    by_test : (b : Bool) → takes (parts_of q.structs u) count ≡ b → IfSome P ((if b then pure (Some es) else broken_at BadInitialiser offset) q).0
    by_test true e = let r = taken (parts_of defs u) count (sym (ap (λ d. takes (parts_of d u) count) same) ∙ e) in h r.0 r.1 r.2
    by_test false e = tt

-- elements of a part within the whole
part_within : (c : Scope) → AreDefinitions c.structs → (u : TypeTree) (at i : ℕ) (t : TypeTree) (o : Elements) → part_type c.structs u i ≡ Some t →
    IfSome (ElementsWithin c (leaves_at c.structs t (at + part_offset c.structs u i)) (at + part_offset c.structs u i) (at + part_offset c.structs u i + size c.structs t)) o →
    IfSome (ElementsWithin c (leaves_at c.structs u at) (at + part_offset c.structs u i) (at + parts_end c.structs u (suc i))) o
part_within c good u at i t None e h = tt
part_within c good u at i t (Some es) e h =
    let ends : part_size c.structs (part_type c.structs u i) ≡ size c.structs t = ap (part_size c.structs) e in
    within_to c (leaves_at c.structs u at) (at + part_offset c.structs u i) (at + part_offset c.structs u i + size c.structs t) (at + parts_end c.structs u (suc i)) es (omega (arith, ends))
    (within_among c (leaves_at c.structs t (at + part_offset c.structs u i)) (leaves_at c.structs u at) (at + part_offset c.structs u i) (at + part_offset c.structs u i + size c.structs t) es
    (λ o w k. part_leaf c.structs good u at i t o w e k) h)

after_start : (c : Scope) (ls : List Leaf) (low from end : ℕ) (o : Elements) → low ≤ from → IfSome (ElementsWithin c ls from end) o → IfSome (ElementsWithin c ls low end) o
after_start c ls low from end None b h = tt
after_start c ls low from end (Some es) b h = within_from c ls low from end es b h

all_within : (c : Scope) (ls : List Leaf) (from end high : ℕ) (o : Elements) → end ≤ high → IfSome (ElementsWithin c ls from end) o → IfSome (ElementsWithin c ls from high) o
all_within c ls from end high None b h = tt
all_within c ls from end high (Some es) b h = within_to c ls from end high es b h

-- ---- initialisers and lists of them

-- where part of what is begun stands, and its type, as they are of these definitions
part_moved : (e : Ending) (c : Scope) (is_static : Bool) (u t : TypeTree) (at i low high : ℕ) (x : Tree) (q : State) (ls : List Leaf) → q.structs ≡ c.structs → part_type c.structs u i ≡ Some t →
    (Fits e (initialiser is_static (Some t) (at + part_offset c.structs u i) x q).1 → IfSome (ElementsWithin c ls low high) (initialiser is_static (Some t) (at + part_offset c.structs u i) x q).0) →
    Fits e (initialiser is_static (part_of q.structs (Some u) i) (at + part_at q.structs (Some u) i) x q).1 →
    IfSome (ElementsWithin c ls low high) (initialiser is_static (part_of q.structs (Some u) i) (at + part_at q.structs (Some u) i) x q).0
part_moved e c is_static u t at i low high x q ls same there h =
    subst (λ d. Fits e (initialiser is_static (part_of d (Some u) i) (at + part_at d (Some u) i) x q).1 →
    IfSome (ElementsWithin c ls low high) (initialiser is_static (part_of d (Some u) i) (at + part_at d (Some u) i) x q).0)
    (sym same)
    (subst (λ m. Fits e (initialiser is_static m (at + part_offset c.structs u i) x q).1 → IfSome (ElementsWithin c ls low high) (initialiser is_static m (at + part_offset c.structs u i) x q).0)
    (sym there) h)

mutual
  -- Elements of an object stand within it.
  pub initialiser_fits : (y : Layouts) (e : Ending) (c : Scope) → AreDefinitions c.structs → (is_static : Bool) (u : TypeTree) (at : ℕ) (x : Tree) (s : State) → is_complete c.structs u ≡ true →
      InRange x → At e c s → Fits e (initialiser is_static (Some u) at x s).1 →
      IfSome (ElementsWithin c (leaves_at c.structs u at) at (at + size c.structs u)) (initialiser is_static (Some u) at x s).0
  initialiser_fits y e c good is_static u at (Node l.InitList (Cons opening (Cons items closing))) s w r h fit =
      by_test (sets_to_zero (Some u) items) fit (λ n p b f. elements_fits y e c good is_static u n at items s w p b r.1.0 h f)
    where
      by_test : (b : Bool) →
          Fits e ((if b then pure (Some no_elements) else (λ s. (if_some (elements is_static (Some u) at items s).0 (list_for (Some u) (offset_of opening) (count_in items))
          (elements is_static (Some u) at items s).1))) s).1 →
          ((n : ℕ) → parts_of c.structs u ≡ Some n → count_in items ≤ n → Fits e (elements is_static (Some u) at items s).1 →
          IfSome (ElementsWithin c (leaves_at c.structs u at) at (at + parts_end c.structs u (count_in items))) (elements is_static (Some u) at items s).0) →
          IfSome (ElementsWithin c (leaves_at c.structs u at) at (at + size c.structs u))
          ((if b then pure (Some no_elements) else (λ s. (if_some (elements is_static (Some u) at items s).0 (list_for (Some u) (offset_of opening) (count_in items))
          (elements is_static (Some u) at items s).1))) s).0
      by_test true f k = omega arith
      by_test false f k =
          let q = elements is_static (Some u) at items s in
          let fq = fits_back e q.1 _ (if_some_steps q.0 (list_for (Some u) (offset_of opening) (count_in items)) (list_for_steps (Some u) (offset_of opening) (count_in items)) q.1) f in
          let same = (elements_steps is_static (Some u) at items s).structs ∙ structs_at e c s h in
          list_holds (ElementsWithin c (leaves_at c.structs u at) at (at + size c.structs u)) c.structs u (offset_of opening) (count_in items) q.0 q.1 same (λ n p b.
          let room = parts_within c.structs good y.members u n (count_in items) w p b in
          all_within c (leaves_at c.structs u at) at (at + parts_end c.structs u (count_in items)) (at + size c.structs u) q.0 (omega (arith, room)) (k n p b fq))
  initialiser_fits y e c good is_static u at (Node l.Text (Cons x (Cons xs none))) s w r h fit = by_array (character_array u) refl fit
    where
      by_array : (m : Option ℕ) → character_array u ≡ m → Fits e (string_for is_static (Some u) at (Node l.Text (Cons x (Cons xs none))) (characters_of x ++ more_characters xs) m s).1 →
          IfSome (ElementsWithin c (leaves_at c.structs u at) at (at + size c.structs u))
          (string_for is_static (Some u) at (Node l.Text (Cons x (Cons xs none))) (characters_of x ++ more_characters xs) m s).0
      by_array None q f = values_within c u at _ (value_fits e c is_static u at (Node l.Text (Cons x (Cons xs none))) s r h f)
      by_array (Some n) q f = characters_fit c u at (begin_of (Node l.Text (Cons x (Cons xs none)))) n (characters_of x ++ more_characters xs) s (character_bytes c.structs u n q)
          (string_in_range x xs r.0 r.1.0)
  initialiser_fits y e c good is_static u at x s w r h fit = values_within c u at _ (value_fits e c is_static u at x s r h fit)

  elements_fits : (y : Layouts) (e : Ending) (c : Scope) → AreDefinitions c.structs → (is_static : Bool) (u : TypeTree) (n at : ℕ) (x : Tree) (s : State) → is_complete c.structs u ≡ true →
      parts_of c.structs u ≡ Some n → count_in x ≤ n → InRange x → At e c s → Fits e (elements is_static (Some u) at x s).1 →
      IfSome (ElementsWithin c (leaves_at c.structs u at) at (at + parts_end c.structs u (count_in x))) (elements is_static (Some u) at x s).0
  elements_fits y e c good is_static u n at (Node l.InitFirst (Cons x none)) s w p b r h fit =
      let k = part_at_index c.structs good u n 0 w p b in
      let from = at + part_offset c.structs u 0 in
      after_start c (leaves_at c.structs u at) at from (at + parts_end c.structs u 1) _ (omega arith)
      (part_moved e c is_static u k.type at 0 from (at + parts_end c.structs u 1) x s (leaves_at c.structs u at) (structs_at e c s h) k.there (λ f.
      part_within c good u at 0 k.type _ k.there (initialiser_fits y e c good is_static k.type from x s k.complete r.0 h f)) fit)
  elements_fits y e c good is_static u n at (Node l.InitComma (Cons before more)) s w p b r h fit = elements_fits y e c good is_static u n at before s w p b r.0 h fit
  elements_fits y e c good is_static u n at (Node l.InitNext (Cons before (Cons x none))) s w p b r h fit =
      let q = elements is_static (Some u) at before s in
      let i = count_in before in
      let k = part_at_index c.structs good u n i w p b in
      let from = at + part_offset c.structs u i in
      let steps = elements_steps is_static (Some u) at before s in
      let fq = fits_back e q.1 _ (initialiser_steps is_static (part_of q.1.structs (Some u) i) (at + part_at q.1.structs (Some u) i) x q.1) fit in
      let hq = at_step e c s q.1 steps h in
      let earlier = elements_fits y e c good is_static u n at before s w p (omega (arith, b)) r.0 h fq in
      let here = part_moved e c is_static u k.type at i from (at + parts_end c.structs u (suc i)) x q.1 (leaves_at c.structs u at) (structs_at e c q.1 hq) k.there (λ f.
      part_within c good u at i k.type _ k.there (initialiser_fits y e c good is_static k.type from x q.1 k.complete r.1.0 hq f)) fit in
      let rise = parts_rise c.structs good y.widths u n i p b in
      both_within c (leaves_at c.structs u at) at (at + parts_end c.structs u i) (at + parts_end c.structs u (suc i)) q.0 _ earlier
      (after_start c (leaves_at c.structs u at) (at + parts_end c.structs u i) from (at + parts_end c.structs u (suc i)) _ (omega (arith, rise)) here)
  elements_fits y e c good is_static u n at x s w p b r h fit = omega arith

-- ---- scalars begin with one value

pub initialiser_value : (e : Ending) (c : Scope) (is_static : Bool) (u : TypeTree) (at : ℕ) (x : Tree) (s : State) → IsScalar u → InRange x → At e c s →
    Fits e (initialiser is_static (Some u) at x s).1 → IfSome (IsValue c u at) (initialiser is_static (Some u) at x s).0
initialiser_value e c is_static (scalar_type t) at (Node l.InitList (Cons opening (Cons items closing))) s k r h fit =
    by_elements (elements is_static (Some (scalar_type t)) at items s).0 (elements is_static (Some (scalar_type t)) at items s).1
  where
    by_elements : (o : Elements) (q : State) → IfSome (IsValue c (scalar_type t) at) (if_some o (list_for (Some (scalar_type t)) (offset_of opening) (count_in items)) q).0
    by_elements None q = tt
    by_elements (Some es) q = tt
initialiser_value e c is_static (pointer_to t) at (Node l.InitList (Cons opening (Cons items closing))) s k r h fit =
    by_elements (elements is_static (Some (pointer_to t)) at items s).0 (elements is_static (Some (pointer_to t)) at items s).1
  where
    by_elements : (o : Elements) (q : State) → IfSome (IsValue c (pointer_to t) at) (if_some o (list_for (Some (pointer_to t)) (offset_of opening) (count_in items)) q).0
    by_elements None q = tt
    by_elements (Some es) q = tt
initialiser_value e c is_static (scalar_type t) at (Node l.Text (Cons x (Cons xs none))) s k r h fit = value_fits e c is_static (scalar_type t) at (Node l.Text (Cons x (Cons xs none))) s r h fit
initialiser_value e c is_static (pointer_to t) at (Node l.Text (Cons x (Cons xs none))) s k r h fit = value_fits e c is_static (pointer_to t) at (Node l.Text (Cons x (Cons xs none))) s r h fit
initialiser_value e c is_static (scalar_type t) at x s k r h fit = value_fits e c is_static (scalar_type t) at x s r h fit
initialiser_value e c is_static (pointer_to t) at x s k r h fit = value_fits e c is_static (pointer_to t) at x s r h fit
initialiser_value e c is_static u at x s k r h fit = absurd k
