-- The keywords of C11 (ISO 9899:2011, 6.4.1), and how each is written.
use Rattle.std.specs.Prelude.{ℕ, Bool, true, false, List, [], ◌∷◌, Option, codes, find}
use Rattle.std.specs.Str.{bytes_eq}
use Rattle.c_lex.specs.declared.keyword.Keyword.{Keyword}
use Rattle.c_lex.specs.declared.keyword.Keyword.TheVariants as keyword

abbrev pub keyword_spelling : Keyword → List ℕ
keyword_spelling keyword.Break = codes "break"
keyword_spelling keyword.Case = codes "case"
keyword_spelling keyword.Char = codes "char"
keyword_spelling keyword.Const = codes "const"
keyword_spelling keyword.Continue = codes "continue"
keyword_spelling keyword.Default = codes "default"
keyword_spelling keyword.Do = codes "do"
keyword_spelling keyword.Else = codes "else"
keyword_spelling keyword.For = codes "for"
keyword_spelling keyword.If = codes "if"
keyword_spelling keyword.Int = codes "int"
keyword_spelling keyword.Return = codes "return"
keyword_spelling keyword.Short = codes "short"
keyword_spelling keyword.Signed = codes "signed"
keyword_spelling keyword.Sizeof = codes "sizeof"
keyword_spelling keyword.Static = codes "static"
keyword_spelling keyword.Struct = codes "struct"
keyword_spelling keyword.Switch = codes "switch"
keyword_spelling keyword.Unsigned = codes "unsigned"
keyword_spelling keyword.Void = codes "void"
keyword_spelling keyword.While = codes "while"
keyword_spelling keyword.Auto = codes "auto"
keyword_spelling keyword.Double = codes "double"
keyword_spelling keyword.Enum = codes "enum"
keyword_spelling keyword.Extern = codes "extern"
keyword_spelling keyword.Float = codes "float"
keyword_spelling keyword.Goto = codes "goto"
keyword_spelling keyword.Inline = codes "inline"
keyword_spelling keyword.Long = codes "long"
keyword_spelling keyword.Register = codes "register"
keyword_spelling keyword.Restrict = codes "restrict"
keyword_spelling keyword.Typedef = codes "typedef"
keyword_spelling keyword.Union = codes "union"
keyword_spelling keyword.Volatile = codes "volatile"
keyword_spelling keyword.Alignas = codes "_Alignas"
keyword_spelling keyword.Alignof = codes "_Alignof"
keyword_spelling keyword.Atomic = codes "_Atomic"
keyword_spelling keyword.Bool = codes "_Bool"
keyword_spelling keyword.Complex = codes "_Complex"
keyword_spelling keyword.Generic = codes "_Generic"
keyword_spelling keyword.Imaginary = codes "_Imaginary"
keyword_spelling keyword.Noreturn = codes "_Noreturn"
keyword_spelling keyword.StaticAssert = codes "_Static_assert"
keyword_spelling keyword.ThreadLocal = codes "_Thread_local"

abbrev pub all_keywords : List Keyword
all_keywords =
    keyword.Break ∷ keyword.Case ∷ keyword.Char ∷ keyword.Const ∷ keyword.Continue ∷ keyword.Default ∷
    keyword.Do ∷ keyword.Else ∷ keyword.For ∷ keyword.If ∷ keyword.Int ∷ keyword.Return ∷ keyword.Short ∷
    keyword.Signed ∷ keyword.Sizeof ∷ keyword.Static ∷ keyword.Struct ∷ keyword.Switch ∷ keyword.Unsigned ∷
    keyword.Void ∷ keyword.While ∷ keyword.Auto ∷ keyword.Double ∷ keyword.Enum ∷ keyword.Extern ∷
    keyword.Float ∷ keyword.Goto ∷ keyword.Inline ∷ keyword.Long ∷ keyword.Register ∷ keyword.Restrict ∷
    keyword.Typedef ∷ keyword.Union ∷ keyword.Volatile ∷ keyword.Alignas ∷ keyword.Alignof ∷ keyword.Atomic ∷
    keyword.Bool ∷ keyword.Complex ∷ keyword.Generic ∷ keyword.Imaginary ∷ keyword.Noreturn ∷
    keyword.StaticAssert ∷ keyword.ThreadLocal ∷ []

-- the keyword that is written so
abbrev pub keyword_of : List ℕ → Option Keyword
keyword_of bytes = find (λ k. bytes_eq (keyword_spelling k) bytes) all_keywords

-- the keywords that the compiled language has not
abbrev pub is_left_out : Keyword → Bool
is_left_out keyword.Break = false
is_left_out keyword.Case = false
is_left_out keyword.Char = false
is_left_out keyword.Const = false
is_left_out keyword.Continue = false
is_left_out keyword.Default = false
is_left_out keyword.Do = false
is_left_out keyword.Else = false
is_left_out keyword.For = false
is_left_out keyword.If = false
is_left_out keyword.Int = false
is_left_out keyword.Return = false
is_left_out keyword.Short = false
is_left_out keyword.Signed = false
is_left_out keyword.Sizeof = false
is_left_out keyword.Static = false
is_left_out keyword.Struct = false
is_left_out keyword.Switch = false
is_left_out keyword.Unsigned = false
is_left_out keyword.Void = false
is_left_out keyword.While = false
is_left_out _ = true
