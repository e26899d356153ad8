-- Initialisers (ISO/IEC 9899:2011, 6.7.9): the values that are written, each at its offset in the object. An initialiser at
-- file scope is constant.
use Rattle.std.specs.Prelude.{ℕ, zero, suc, ◌+◌, ◌*◌, ◌%◌, ◌^◌, ◌==◌, ◌&&◌, ◌||◌, not, nat_le, nat_lt, Bool, true, false, if◌then◌else◌, List, [], ◌∷◌, ◌++◌, length, Option, None, Some, option_map, option_and_then, is_some, slice_get, unwrap_or}
use Rattle.c_lex.specs.declared.token.TokenKind.{TokenKind}
use Rattle.c_lex.specs.declared.token.TokenKind.TheVariants as kind
use Rattle.c_ast.specs.Productions as l
use Rattle.c_ast.specs.Tree.{Tree, Leaf, Node, Cons}
use Rattle.c_type.specs.declared.scalar.Scalar.{Scalar}
use Rattle.c_type.specs.declared.scalar.Scalar.TheVariants.{Char, SignedChar, UnsignedChar}
use Rattle.c_type.specs.Trees.{TypeTree, scalar_type, pointer_to, array_of, struct_type}
use Rattle.c_type.specs.Layout as layout
use Rattle.c_type.specs.Layout.{Definitions, scalar_size}
use Rattle.c_typed.specs.Typed.{ExprTree, expr, place, global, address, ElementTrees, no_elements, value_then, characters_then, WrittenTree, word_at, link_at, characters_at, InitialTree, no_initial, initial_value, initial_elements}
use Rattle.c_check_def.specs.declared.operand.Operand.{Operand}
use Rattle.c_check_def.specs.declared.operand.Operand.TheVariants.{Place, Value}
use Rattle.c_check_def.specs.Constants.{expr_word}
use Rattle.c_check_def.specs.declared.refusal_kind.RefusalKind.TheVariants.{NotConstant, BadInitialiser}
use Rattle.c_check_def.specs.State.{MaybeType, Global, Elaborated, ◌>>=◌, ◌>>◌, pure, state, breaks_if, broken_at, or_broken, if_some}
use Rattle.c_check_def.specs.Leaves.{offset_of, begin_of, characters_of}
use Rattle.c_check_def.specs.Operands.{Term, term_constant}
use Rattle.c_check_def.specs.Calls.{passed}
use Rattle.c_check_def.specs.Expressions.{expression, more_characters}

-- what is written, unless a rule is broken
abbrev pub Elements : Type 0
Elements = Option ElementTrees

abbrev pub joined : ElementTrees → ElementTrees → ElementTrees
joined no_elements ys = ys
joined (value_then object_offset e xs) ys = value_then object_offset e (joined xs ys)
joined (characters_then object_offset cs xs) ys = characters_then object_offset cs (joined xs ys)

abbrev pub both_joined : Elements → Elements → Elements
both_joined xs ys = option_and_then (λ es. option_map (joined es) ys) xs

-- ---- constants at file scope (6.6p7)

abbrev pub is_variable : Option Global → Bool
is_variable None = false
is_variable (Some g) = g.is_variable

-- the name of an array, a string, or the address of a variable
abbrev pub is_address : List Global → Operand → Bool
is_address gs (Place (place (array_of t n) (global k)) is_const) = true
is_address gs (Value (expr t (address (place u (global k))))) = is_variable (slice_get gs k)
is_address gs a = false

abbrev pub is_address_term : List Global → Term → Bool
is_address_term gs None = false
is_address_term gs (Some a) = is_address gs a

abbrev pub is_constant : List Global → Term → Bool
is_constant gs a = is_some (term_constant a) || is_address_term gs a

-- ---- a value, at an offset of the object

abbrev pub value_at : (object_offset : ℕ) → ExprTree → ElementTrees
value_at object_offset e = value_then object_offset e no_elements

-- against no type it is only read
abbrev pub converted : MaybeType → (object_offset : ℕ) → (offset : ℕ) → Operand → Elaborated Elements
converted None object_offset offset a = pure (Some no_elements)
converted (Some t) object_offset offset a = or_broken BadInitialiser offset (option_map (value_at object_offset) (passed t a))

abbrev pub value_read : (is_static : Bool) → MaybeType → (object_offset : ℕ) → (offset : ℕ) → Term → Elaborated Elements
value_read is_static t object_offset offset a = do
  s ← state
  let wrong = is_static && not (is_constant s.globals a)
  breaks_if wrong NotConstant offset
  es ← if_some a (converted t object_offset offset)
  pure (if wrong then None else es)

abbrev pub value : (is_static : Bool) → MaybeType → (object_offset : ℕ) → Tree → Elaborated Elements
value is_static t object_offset x = do
  a ← expression x
  value_read is_static t object_offset (begin_of x) a

-- ---- strings initialise arrays of characters

abbrev pub is_character : Scalar → Bool
is_character Char = true
is_character SignedChar = true
is_character UnsignedChar = true
is_character s = false

-- the length of an array of characters
abbrev pub character_array : TypeTree → Option ℕ
character_array (array_of (scalar_type s) n) = if is_character s then Some n else None
character_array t = None

-- It may lack the closing zero.
abbrev pub characters : (object_offset : ℕ) → (offset : ℕ) → List ℕ → (length : ℕ) → Elaborated Elements
characters object_offset offset cs n = if nat_le (length cs) n then pure (Some (characters_then object_offset cs no_elements)) else broken_at BadInitialiser offset

abbrev pub string_for : (is_static : Bool) → MaybeType → (object_offset : ℕ) → Tree → List ℕ → Option ℕ → Elaborated Elements
string_for is_static t object_offset x cs None = value is_static t object_offset x
string_for is_static t object_offset x cs (Some n) = characters object_offset (begin_of x) cs n

-- ---- lists

-- The list `{0}` sets the whole object to zero.
abbrev pub is_zero_by : TokenKind → Bool
is_zero_by (kind.Number w unsigned) = w == 0 && not unsigned
is_zero_by k = false

abbrev pub is_zero : Tree → Bool
is_zero (Node l.Number (Cons (Leaf x) none)) = is_zero_by x.kind
is_zero t = false

abbrev pub is_zero_list : Tree → Bool
is_zero_list (Node l.InitFirst (Cons x none)) = is_zero x
is_zero_list (Node l.InitComma (Cons (Node l.InitFirst (Cons x none)) more)) = is_zero x
is_zero_list t = false

-- how many initialisers a list has
abbrev pub count_in : Tree → ℕ
count_in (Node l.InitFirst children) = 1
count_in (Node l.InitComma (Cons before more)) = count_in before
count_in (Node l.InitNext (Cons before more)) = suc (count_in before)
count_in t = 0

-- The element of this index in an object of this type, if it has one, and where it stands in it.
abbrev pub part_type : Definitions → TypeTree → (index : ℕ) → MaybeType
part_type defs (array_of t n) i = if nat_lt i n then Some t else None
part_type defs (struct_type tag) i = slice_get (layout.members defs tag) i
part_type defs t i = None

abbrev pub part_offset : Definitions → TypeTree → (index : ℕ) → ℕ
part_offset defs (array_of t n) i = i * layout.size defs t
part_offset defs (struct_type tag) i = layout.offset defs tag i
part_offset defs t i = 0

abbrev pub part_of : Definitions → MaybeType → (index : ℕ) → MaybeType
part_of defs t i = option_and_then (λ u. part_type defs u i) t

abbrev pub part_at : Definitions → MaybeType → (index : ℕ) → ℕ
part_at defs None i = 0
part_at defs (Some t) i = part_offset defs t i

-- how many elements an object of this type has, where a list may begin it
abbrev pub parts_of : Definitions → TypeTree → Option ℕ
parts_of defs (array_of t n) = Some n
parts_of defs (struct_type tag) = Some (length (layout.members defs tag))
parts_of defs t = None

abbrev pub takes : Option ℕ → (count : ℕ) → Bool
takes None count = false
takes (Some n) count = nat_le count n

-- A list has no more elements than the object.
abbrev pub list_for : MaybeType → (offset count : ℕ) → ElementTrees → Elaborated Elements
list_for None offset count es = pure (Some es)
list_for (Some t) offset count es = do
  s ← state
  if takes (parts_of s.structs t) count then pure (Some es) else broken_at BadInitialiser offset

abbrev pub is_list_type : TypeTree → Bool
is_list_type (array_of t n) = true
is_list_type (struct_type tag) = true
is_list_type t = false

abbrev pub sets_to_zero : MaybeType → Tree → Bool
sets_to_zero None items = false
sets_to_zero (Some t) items = is_list_type t && is_zero_list items

-- an initialiser, and the elements of a list, of an object that begins at an offset
abbrev mutual
  pub initialiser : (is_static : Bool) → MaybeType → (object_offset : ℕ) → Tree → Elaborated Elements
  initialiser is_static t object_offset (Node l.InitList (Cons opening (Cons items closing))) =
      if sets_to_zero t items then pure (Some no_elements) else do
        xs ← elements is_static t object_offset items
        if_some xs (list_for t (offset_of opening) (count_in items))
  initialiser is_static t object_offset (Node l.Text (Cons x (Cons xs none))) =
      string_for is_static t object_offset (Node l.Text (Cons x (Cons xs none))) (characters_of x ++ more_characters xs) (option_and_then character_array t)
  initialiser is_static t object_offset x = value is_static t object_offset x

  pub elements : (is_static : Bool) → MaybeType → (object_offset : ℕ) → Tree → Elaborated Elements
  elements is_static t object_offset (Node l.InitFirst (Cons x none)) = do
    s ← state
    initialiser is_static (part_of s.structs t 0) (object_offset + part_at s.structs t 0) x
  elements is_static t object_offset (Node l.InitComma (Cons before more)) = elements is_static t object_offset before
  elements is_static t object_offset (Node l.InitNext (Cons before (Cons x none))) = do
    xs ← elements is_static t object_offset before
    s ← state
    ys ← initialiser is_static (part_of s.structs t (count_in before)) (object_offset + part_at s.structs t (count_in before)) x
    pure (both_joined xs ys)
  elements is_static t object_offset x = pure (Some no_elements)

-- ---- an array whose first dimension is left empty has as many elements as its list, or as its string with a zero

abbrev pub completed_by : Tree → (element : TypeTree) → Option ℕ → MaybeType
completed_by (Node l.InitList (Cons opening (Cons items closing))) t n = Some (array_of t (count_in items))
completed_by (Node l.Text (Cons x (Cons xs none))) t (Some n) = Some (array_of t (suc (length (characters_of x ++ more_characters xs))))
completed_by x t n = Some (array_of t 0)

abbrev pub completed : Tree → TypeTree → MaybeType
completed x (array_of t zero) = completed_by x t (character_array (array_of t zero))
completed x t = Some t

-- ---- what a variable begins with

abbrev pub initial_of : ElementTrees → TypeTree → InitialTree
initial_of (value_then object_offset e no_elements) (scalar_type s) = initial_value e
initial_of (value_then object_offset e no_elements) (pointer_to t) = initial_value e
initial_of es t = initial_elements es

abbrev pub initial : Elements → MaybeType → InitialTree
initial (Some es) (Some t) = initial_of es t
initial es t = no_initial

-- what is written in a global: words, the addresses of globals, and characters
abbrev pub written_value : (object_offset : ℕ) → ExprTree → WrittenTree
written_value object_offset (expr (scalar_type s) f) = word_at object_offset (scalar_size s) (unwrap_or (expr_word (expr (scalar_type s) f)) 0 % 2 ^ (8 * scalar_size s))
written_value object_offset (expr t (address (place u (global k)))) = link_at object_offset k
written_value object_offset e = word_at object_offset 4 0

abbrev pub written_of : ElementTrees → List WrittenTree
written_of no_elements = []
written_of (value_then object_offset e es) = written_value object_offset e ∷ written_of es
written_of (characters_then object_offset cs es) = characters_at object_offset cs ∷ written_of es

abbrev pub written : Elements → List WrittenTree
written None = []
written (Some es) = written_of es
