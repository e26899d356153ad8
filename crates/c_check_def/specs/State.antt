-- What is known at a point of a program, and the steps that go on from it.
use Rattle.std.specs.Prelude.{ℕ, Bool, false, List, [], ◌∷◌, ◌++◌, length, slice_get, slice_set, Option, None, Some, is_some, unwrap_or, option_and_then, if◌then◌else◌}
use Rattle.c_type.specs.Trees.{TypeTree}
use Rattle.c_type.specs.Layout.{Definitions}
use Rattle.c_typed.specs.Typed.{WrittenTree, FunctionTree}
use Rattle.c_check_scope.specs.Scopes.{Name, Scopes, meaning, is_declared, with_declaration, outer}
use Rattle.c_check_scope.specs.Tags.{Tags, tag_number, declared_tag, with_named_tag}
use Rattle.c_check_scope.specs.Members.{Members}
use Rattle.c_check_def.specs.declared.meaning.Meaning.{Meaning}
use Rattle.c_check_def.specs.declared.refusal_kind.RefusalKind.{RefusalKind}
use Rattle.c_check_def.specs.declared.refusal_kind.RefusalKind.TheVariants.{Redeclared}
use Rattle.c_check_def.specs.declared.refusal_kind.Broken.{Broken}
use Rattle.c_check_def.specs.Refusals.{first_of_both}

-- a type, unless it breaks a rule
abbrev pub MaybeType : Type 0
MaybeType = Option TypeTree

-- a function that is declared
pub record Declared : Type 0 where
  pub result : MaybeType
  pub params : List MaybeType
  pub is_defined : Bool

-- a variable at file scope or a string literal; a variable that is being declared has no type yet
pub record Global : Type 0 where
  pub offset : ℕ
  pub type : MaybeType
  pub is_variable : Bool
  pub fixed : Bool
  pub written : List WrittenTree

-- a variable of a function, whether its address is taken, and whether its name was used
pub record Variable : Type 0 where
  pub type : MaybeType
  pub is_taken : Bool
  pub is_named : Bool

pub record State : Type 0 where
  -- the first broken rule so far
  pub broken : Option Broken
  -- what names mean; tags; the definitions of structs, and the names of their members
  pub scopes : Scopes Meaning
  pub tags : Tags
  pub structs : Definitions
  pub members : Members
  -- the names of the functions that the file defines anywhere, and the functions that are declared so far
  pub defined : List Name
  pub declared : List Declared
  pub globals : List Global
  -- of the function so far: its variables by number, and the numbers of those in scope by slot
  pub variables : List Variable
  pub slots : List ℕ
  -- the functions that are defined so far
  pub functions : List FunctionTree

-- ---- steps

-- what is made of a state, and the state after it
abbrev pub Elaborated : Type 0 → Type 0
Elaborated A = State → A × State

abbrev pub after : {A B : Type 0} → A × State → (A → Elaborated B) → B × State
after r f = f r.0 r.1

infixl 10 ◌>>=◌
abbrev pub ◌>>=◌ : {A B : Type 0} → Elaborated A → (A → Elaborated B) → Elaborated B
m >>= f = λ s. after (m s) f

infixl 10 ◌>>◌
abbrev pub ◌>>◌ : {A B : Type 0} → Elaborated A → Elaborated B → Elaborated B
m >> n = λ s. n (m s).1

abbrev pub pure : {A : Type 0} → A → Elaborated A
pure a = λ s. (a, s)

abbrev pub state : Elaborated State
state = λ s. (s, s)

abbrev pub change : (State → State) → Elaborated (Unit {0})
change f = λ s. (tt, f s)

-- ---- broken rules

abbrev pub breaks : RefusalKind → (offset : ℕ) → Elaborated (Unit {0})
breaks rule offset = change (λ s. record s { broken = Some (first_of_both s.broken (record { rule = rule; offset = offset })) })

abbrev pub breaks_if : Bool → RefusalKind → (offset : ℕ) → Elaborated (Unit {0})
breaks_if wrong rule offset = if wrong then breaks rule offset else pure tt

-- nothing, where a rule is broken
abbrev pub broken_at : {A : Type 0} → RefusalKind → (offset : ℕ) → Elaborated (Option A)
broken_at rule offset = breaks rule offset >> pure None

-- what there is, or else the rule is broken
abbrev pub or_broken : {A : Type 0} → RefusalKind → (offset : ℕ) → Option A → Elaborated (Option A)
or_broken rule offset None = broken_at rule offset
or_broken rule offset (Some a) = pure (Some a)

-- What has a broken rule within it has nothing to go on with.
abbrev pub if_some : {A B : Type 0} → Option A → (A → Elaborated (Option B)) → Elaborated (Option B)
if_some None f = pure None
if_some (Some a) f = f a

-- ---- names

-- what a name means here
abbrev pub meaning_of : Name → Elaborated (Option Meaning)
meaning_of name = λ s. (meaning s.scopes name, s)

-- A second declaration in one scope breaks a rule.
abbrev pub declare : Name → (offset : ℕ) → Meaning → Elaborated (Unit {0})
declare name offset m = do
  s ← state
  breaks_if (is_declared s.scopes name) Redeclared offset
  change (λ s. record s { scopes = with_declaration s.scopes name m })

-- what stands in a scope of its own
abbrev pub within_scope : {A : Type 0} → Elaborated A → Elaborated A
within_scope m = do
  s ← state
  change (λ s. record s { scopes = [] ∷ s.scopes })
  a ← m
  change (λ t. record t { scopes = outer t.scopes; slots = s.slots })
  pure a

-- ---- tags

-- A tag that is named has a number, which it gets where it is new.
abbrev pub tag_of : Name → Elaborated ℕ
tag_of name = do
  s ← state
  change (λ s. record s { tags = with_named_tag s.tags name })
  pure (tag_number s.tags name)

-- whether a tag is declared here
abbrev pub is_tag : Name → Elaborated Bool
is_tag name = λ s. (is_some (declared_tag s.tags name), s)

-- ---- variables of a function

abbrev pub changed_by : {A : Type 0} → (A → A) → Option A → ℕ → List A → List A
changed_by f None k xs = xs
changed_by f (Some a) k xs = slice_set xs k (f a)

-- a list whose element of this number is changed
abbrev pub changed : {A : Type 0} → (A → A) → ℕ → List A → List A
changed f k xs = changed_by f (slice_get xs k) k xs

-- the number of the variable in a slot
abbrev pub variable_in : List ℕ → (slot : ℕ) → ℕ
variable_in slots slot = unwrap_or (slice_get slots slot) 0

abbrev pub change_variable : (slot : ℕ) → (Variable → Variable) → Elaborated (Unit {0})
change_variable slot f = change (λ s. record s { variables = changed f (variable_in s.slots slot) s.variables })

-- the type of the variable in a slot
abbrev pub variable_type : (slot : ℕ) → Elaborated MaybeType
variable_type slot = λ s. (option_and_then (λ (v : Variable). v.type) (slice_get s.variables (variable_in s.slots slot)), s)

-- one more variable, with the next number and in the next slot
abbrev pub add_variable : MaybeType → Elaborated ℕ
add_variable t = do
  s ← state
  change (λ s. record s { variables = s.variables ++ record { type = t; is_taken = false; is_named = false } ∷ []; slots = s.slots ++ length s.variables ∷ [] })
  pure (length s.slots)

-- ---- globals

abbrev pub global_type : (number : ℕ) → Elaborated MaybeType
global_type k = λ s. (option_and_then (λ (g : Global). g.type) (slice_get s.globals k), s)

-- one more global, with the next number
abbrev pub add_global : Global → Elaborated ℕ
add_global g = do
  s ← state
  change (λ s. record s { globals = s.globals ++ g ∷ [] })
  pure (length s.globals)

abbrev pub change_global : (number : ℕ) → (Global → Global) → Elaborated (Unit {0})
change_global k f = change (λ s. record s { globals = changed f k s.globals })
