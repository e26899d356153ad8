-- Which form an initialiser has, and what each form begins.
use Rattle.std.specs.Prelude.{ℕ, suc, length, ◌+◌, not, Bool, true, false, List, ◌++◌, Option, None, Some}
use Rattle.c_ast.specs.Productions as l
use Rattle.c_ast.specs.Tree.{Tree, Node, Cons}
use Rattle.c_type.specs.Layout.{Definitions}
use Rattle.c_check_def.specs.State.{MaybeType, Elaborated}
use Rattle.c_check_def.specs.Leaves.{characters_of, begin_of}
use Rattle.c_check_def.specs.Initialisers.{Elements, characters, value, initialiser, part_of, part_at, parts_of, takes}
use Rattle.c_check_def.specs.Expressions.{more_characters}

-- the characters of string literals
abbrev pub text_in : Tree → Option (List ℕ)
text_in (Node l.Text (Cons x (Cons xs none))) = Some (characters_of x ++ more_characters xs)
text_in t = None

abbrev pub is_list : Tree → Bool
is_list (Node l.InitList children) = true
is_list t = false

-- ---- expressions: a string begins an array of characters, and anything else is a value

abbrev pub begun : (is_static : Bool) → MaybeType → (object_offset : ℕ) → Tree → Option (List ℕ) → Option ℕ → Elaborated Elements
begun is_static t object_offset x (Some cs) (Some n) = characters object_offset (begin_of x) cs n
begun is_static t object_offset x cs n = value is_static t object_offset x

-- ---- lists

-- one element of an object
abbrev pub element : (is_static : Bool) → MaybeType → (object_offset index : ℕ) → Tree → Elaborated Elements
element is_static t object_offset i x = λ s. initialiser is_static (part_of s.structs t i) (object_offset + part_at s.structs t i) x s

-- whether there are more elements than an object of this type has
abbrev pub lacks_room : Definitions → MaybeType → (count : ℕ) → Bool
lacks_room defs None count = false
lacks_room defs (Some t) count = not (takes (parts_of defs t) count)

-- ---- the length that a string gives an array of characters

abbrev pub text_length : Option (List ℕ) → Option ℕ → ℕ
text_length (Some cs) (Some n) = suc (length cs)
text_length cs n = 0
