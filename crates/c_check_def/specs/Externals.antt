-- Declarations at file scope (ISO/IEC 9899:2011, 6.9).
use Rattle.std.specs.Prelude.{ℕ, suc, ◌==◌, ◌&&◌, ◌||◌, not, nat_le, Bool, true, false, if◌then◌else◌, List, [], ◌∷◌, ◌++◌, map, length, Option, None, Some, option_map, option_and_then, is_some, slice_get, unwrap_or}
use Rattle.std.specs.List.{list_any}
use Rattle.base.specs.Limits.{most_type_bytes}
use Rattle.c_ast.specs.Productions as l
use Rattle.c_ast.specs.Tree.{Tree, Node, Nil, Cons}
use Rattle.c_type.specs.Trees.{TypeTree, void_type}
use Rattle.c_type.specs.Layout.{Definition, Definitions, is_defined, struct_size}
use Rattle.c_typed.specs.Typed.{VariableTree, FunctionTree, ItemTrees}
use Rattle.c_check_def.specs.Types.{is_scalar, same_type}
use Rattle.c_check_scope.specs.Scopes.{Name, same_name, with_declaration}
use Rattle.c_check_scope.specs.Tags.{tag_number, with_declared_tag}
use Rattle.c_check_scope.specs.Members.{with_members}
use Rattle.c_check_def.specs.declared.refusal_kind.RefusalKind.TheVariants.{Redeclared, BadType}
use Rattle.c_check_def.specs.declared.meaning.Meaning.{Meaning}
use Rattle.c_check_def.specs.declared.meaning.Meaning.TheVariants as means
use Rattle.c_check_def.specs.State.{MaybeType, Declared, Variable, State, Elaborated, ◌>>=◌, ◌>>◌, pure, state, change, breaks, breaks_if, meaning_of, declare, within_scope, changed, add_variable}
use Rattle.c_check_def.specs.Leaves.{offset_of, end_of, begin_of, name_of, count_of, is_present}
use Rattle.c_check_def.specs.Specifiers.{Specified, specified_type, tagged}
use Rattle.c_check_def.specs.declared.dimension.Dimension.TheVariants as dimension
use Rattle.c_check_def.specs.DeclaredTypes.{object_type, param_type, result_type}
use Rattle.c_check_def.specs.Expressions.{dimensions}
use Rattle.c_check_def.specs.Declarators.{open_dimensions, is_fixed, global_declarator, more_globals}
use Rattle.c_check_def.specs.Statements.{items}

-- ---- struct definitions (6.7.2.1)

pub record Member : Type 0 where
  pub name : Name
  pub type : MaybeType

abbrev pub has_member : List Member → Name → Bool
has_member xs name = list_any (λ (x : Member). same_name x.name name) xs

abbrev pub member : Specified → List Member → Tree → Elaborated (List Member)
member x xs (Node l.Member (Cons stars (Cons name (Cons bounds none)))) = do
  ns ← dimensions bounds
  t ← object_type false (offset_of name) x (count_of stars) (map dimension.Sized ns)
  breaks_if (has_member xs (name_of name)) Redeclared (offset_of name)
  pure (xs ++ record { name = name_of name; type = t } ∷ [])
member x xs t = pure xs

abbrev pub more_member : Specified → List Member → Tree → Elaborated (List Member)
more_member x xs (Node (l.More k) (Cons before (Cons comma (Cons t none)))) = do
  ys ← more_member x xs before
  member x ys t
more_member x xs t = pure xs

abbrev pub members : List Member → Tree → Elaborated (List Member)
members xs (Node l.Members (Cons qualifier (Cons specifier (Cons first (Cons more none))))) = do
  x ← specified_type specifier
  ys ← member x xs first
  more_member x ys more
members xs t = pure xs

abbrev pub more_members : List Member → Tree → Elaborated (List Member)
more_members xs (Node (l.More k) (Cons before (Cons t none))) = do
  ys ← more_members xs before
  members ys t
more_members xs t = pure xs

-- the types of members that all have one
abbrev pub types_of : List Member → Option (List TypeTree)
types_of [] = Some []
types_of (x ∷ xs) = option_and_then (λ t. option_map (λ ts. t ∷ ts) (types_of xs)) x.type

abbrev pub is_large_struct : Definitions → Definition → Bool
is_large_struct defs d = not (nat_le (struct_size (d ∷ defs) d.tag) most_type_bytes)

abbrev pub with_struct : Definition → List Member → State → State
with_struct d xs s = record s { structs = d ∷ s.structs; members = with_members s.members d.tag (map (λ (x : Member). x.name) xs) }

-- A struct is defined where no rule is broken.
abbrev pub defined : (tag offset : ℕ) → List Member → Option (List TypeTree) → Elaborated (Unit {0})
defined tag offset xs None = pure tt
defined tag offset xs (Some ts) = do
  s ← state
  breaks_if (is_large_struct s.structs (record { tag = tag; members = ts })) BadType offset
  change (λ s. if is_some s.broken then s else with_struct (record { tag = tag; members = ts }) xs s)

abbrev pub declare_tag : Name → Elaborated ℕ
declare_tag name = do
  change (λ s. record s { tags = with_declared_tag s.tags name })
  s ← state
  pure (tag_number s.tags name)

-- A tag is declared before its members.
abbrev pub struct : Name → (offset : ℕ) → Tree → Elaborated (Unit {0})
struct name offset (Node l.StructMembers (Cons opening (Cons first (Cons more none)))) = do
  tag ← declare_tag name
  s ← state
  breaks_if (is_defined s.structs tag) Redeclared offset
  xs ← members [] first
  ys ← more_members xs more
  defined tag offset ys (types_of ys)
struct name offset t = do
  tag ← declare_tag name
  pure tt

-- ---- parameters (6.7.6.3)

pub record Param : Type 0 where
  pub name : Option Name
  -- of the name, or of the first token
  pub offset : ℕ
  pub type : MaybeType
  pub is_const : Bool

abbrev pub param_name : Tree → Option Name
param_name (Node (l.Present k) (Cons name none)) = Some (name_of name)
param_name t = None

abbrev pub param_offset : (begins : ℕ) → Tree → ℕ
param_offset begins (Node (l.Present k) (Cons name none)) = offset_of name
param_offset begins t = begins

abbrev pub declare_if : Option Name → (offset : ℕ) → Meaning → Elaborated (Unit {0})
declare_if None offset m = pure tt
declare_if (Some name) offset m = declare name offset m

abbrev pub param_at : (offset : ℕ) → (is_const : Bool) → (specifier stars name bounds : Tree) → Elaborated Param
param_at offset is_const specifier stars name bounds = do
  x ← specified_type specifier
  ds ← open_dimensions bounds
  t ← param_type offset x (count_of stars) ds
  slot ← add_variable t
  declare_if (param_name name) offset (means.Variable slot (is_fixed is_const (count_of stars)))
  pure (record { name = param_name name; offset = offset; type = t; is_const = is_fixed is_const (count_of stars) })

abbrev pub param : Tree → Elaborated (List Param)
param (Node l.Param (Cons qualifier (Cons specifier (Cons stars (Cons name (Cons bounds none)))))) = do
  p ← param_at (param_offset (begin_of (Cons qualifier (Cons specifier Nil))) name) (is_present qualifier) specifier stars name bounds
  pure (p ∷ [])
param t = pure []

abbrev pub more_params : Tree → Elaborated (List Param)
more_params (Node (l.More k) (Cons before (Cons comma (Cons t none)))) = do
  ps ← more_params before
  p ← param t
  pure (ps ++ p)
more_params t = pure []

-- a lone `void` means that there are none
abbrev pub is_lone_void : Tree → Bool
is_lone_void (Node l.Param (Cons (Node (l.Absent c) q) (Cons (Node l.Void v) (Cons (Node (l.Empty s) n) (Cons (Node (l.Absent p) a) (Cons (Node (l.Empty d) b) none)))))) = true
is_lone_void t = false

abbrev pub params : Tree → Elaborated (List Param)
params (Node (l.Present k) (Cons first (Cons more none))) =
    if is_lone_void first && count_of more == 0 then pure [] else do
      p ← param first
      ps ← more_params more
      pure (p ++ ps)
params t = pure []

-- ---- functions may be declared again, with the same types, and defined once

abbrev pub agree : MaybeType → MaybeType → Bool
agree (Some t) (Some u) = same_type t u
agree t u = true

abbrev pub all_agree : List MaybeType → List MaybeType → Bool
all_agree [] [] = true
all_agree (t ∷ ts) (u ∷ us) = agree t u && all_agree ts us
all_agree ts us = false

abbrev pub may_follow : Option Declared → Declared → Bool
may_follow None f = false
may_follow (Some g) f = agree g.result f.result && all_agree g.params f.params && not (g.is_defined && f.is_defined)

abbrev pub declared_again : Declared → Declared → Declared
declared_again f g = record g { is_defined = g.is_defined || f.is_defined }

abbrev pub function_meant : Name → (offset : ℕ) → Declared → Option Meaning → Elaborated (Unit {0})
function_meant name offset f None = do
  s ← state
  change (λ s. record s { declared = s.declared ++ f ∷ []; scopes = with_declaration s.scopes name (means.Function (length s.declared)) })
function_meant name offset f (Some (means.Function k)) = do
  s ← state
  breaks_if (not (may_follow (slice_get s.declared k) f)) Redeclared offset
  change (λ s. record s { declared = changed (declared_again f) k s.declared })
function_meant name offset f (Some m) = breaks Redeclared offset

abbrev pub declare_function : Name → (offset : ℕ) → Declared → Elaborated (Unit {0})
declare_function name offset f = do
  m ← meaning_of name
  function_meant name offset f m

-- ---- definitions of functions (6.9.1)

-- the parameters are in scope, the first in slot 0
abbrev pub bind : Name → Meaning → Elaborated (Unit {0})
bind name m = change (λ s. record s { scopes = with_declaration s.scopes name m })

abbrev pub bind_if : Option Name → Meaning → Elaborated (Unit {0})
bind_if None m = pure tt
bind_if (Some name) m = bind name m

abbrev pub bind_params : (slot : ℕ) → List Param → Elaborated (Unit {0})
bind_params slot [] = pure tt
bind_params slot (p ∷ ps) = do
  change (λ s. record s { slots = s.slots ++ slot ∷ [] })
  bind_if p.name (means.Variable slot p.is_const)
  bind_params (suc slot) ps

-- each parameter of a definition has a name
abbrev pub name_params : List Param → Elaborated (Unit {0})
name_params [] = pure tt
name_params (p ∷ ps) = do
  breaks_if (not (is_some p.name)) BadType p.offset
  name_params ps

-- A variable is an object where its address is taken or it is no scalar.
abbrev pub variable_tree : Variable → VariableTree
variable_tree v = record { type = unwrap_or v.type void_type; is_object = v.is_taken || not (is_scalar (unwrap_or v.type void_type)) }

abbrev pub function_tree : Name → (offset starts ends : ℕ) → MaybeType → (params : ℕ) → List Variable → ItemTrees → FunctionTree
function_tree name offset starts ends t n vs body =
    record { name = name; at = offset; starts = starts; ends = ends; result = unwrap_or t void_type; params = n; variables = map variable_tree vs; body = body }

abbrev pub function_body : Name → (offset starts : ℕ) → MaybeType → List Param → Tree → Elaborated (Unit {0})
function_body name offset starts t ps (Node l.Block (Cons opening (Cons xs (Cons closing none)))) = do
  name_params ps
  body ← within_scope (do
    bind_params 0 ps
    items (record { may_break = false; may_continue = false; result = t }) xs)
  change (λ s. record s { functions = s.functions ++ function_tree name offset starts (end_of closing) t (length ps) s.variables body ∷ [] })
function_body name offset starts t ps x = pure tt

abbrev pub is_block : Tree → Bool
is_block (Node l.Block children) = true
is_block t = false

-- The name is in scope after the parameters.
abbrev pub function : (starts : ℕ) → Specified → (stars : ℕ) → Name → (offset : ℕ) → (params body : Tree) → Elaborated (Unit {0})
function starts x stars name offset xs body = do
  t ← result_type offset x stars
  ps ← within_scope (params xs)
  declare_function name offset (record { result = t; params = map (λ (p : Param). p.type) ps; is_defined = is_block body })
  function_body name offset starts t ps body
  change (λ s. record s { variables = [] })

-- ---- what stands after the type

abbrev pub after_name : (starts : ℕ) → Specified → (is_const : Bool) → (stars : ℕ) → Name → (offset : ℕ) → Tree → Elaborated (Unit {0})
after_name starts x is_const stars name offset (Node l.Function (Cons opening (Cons xs (Cons closing (Cons body none))))) =
    function starts x stars name offset xs body
after_name starts x is_const stars name offset (Node l.Globals (Cons bounds (Cons begun (Cons more none)))) = do
  global_declarator x is_const stars name offset bounds begun
  more_globals x is_const more
after_name starts x is_const stars name offset t = pure tt

abbrev pub after_type : (starts : ℕ) → Specified → (is_const : Bool) → Tree → Elaborated (Unit {0})
after_type starts x is_const (Node l.Declared (Cons stars (Cons name (Cons rest none)))) =
    after_name starts x is_const (count_of stars) (name_of name) (offset_of name) rest
after_type starts x is_const t = pure tt

abbrev pub after_tag : (starts : ℕ) → Name → (offset : ℕ) → Tree → Elaborated (Unit {0})
after_tag starts name offset (Node l.Declared children) = do
  x ← tagged name offset
  after_type starts x false (Node l.Declared children)
after_tag starts name offset t = struct name offset t

abbrev pub external : Tree → Elaborated (Unit {0})
external (Node l.Static (Cons word (Cons qualifier (Cons specifier (Cons rest none))))) = do
  x ← specified_type specifier
  after_type (offset_of word) x (is_present qualifier) rest
external (Node l.Const (Cons word (Cons specifier (Cons rest none)))) = do
  x ← specified_type specifier
  after_type (offset_of word) x true rest
external (Node l.Plain (Cons specifier (Cons rest none))) = do
  x ← specified_type specifier
  after_type (begin_of specifier) x false rest
external (Node l.Struct (Cons word (Cons tag (Cons rest none)))) = after_tag (offset_of word) (name_of tag) (offset_of tag) rest
external t = pure tt
