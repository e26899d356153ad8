-- External declarations add globals in the order of the tokens.
use Rattle.std.proofs.Common.{◌≡◌, ℕ, Bool, true, false, List, [], ◌++◌, refl, ◌∙◌}
use Rattle.std.specs.Prelude.{◌==◌, ◌&&◌, is_some, map, Option, None, Some, if◌then◌else◌}
use Rattle.c_lex.specs.declared.token.Token.{Token}
use Rattle.c_ast.specs.Productions as l
use Rattle.c_ast.specs.Tree.{Tree, Leaf, Node, Nil, Cons}
use Rattle.c_type.specs.Trees.{TypeTree}
use Rattle.c_type.specs.Layout.{is_defined}
use Rattle.c_typed.specs.Typed.{ItemTrees}
use Rattle.c_check_scope.specs.Scopes.{Name}
use Rattle.c_check_def.specs.declared.meaning.Meaning.TheVariants as means
use Rattle.c_check_def.specs.declared.dimension.Dimension.TheVariants as dimension
use Rattle.c_check_def.specs.declared.refusal_kind.RefusalKind.TheVariants.{Redeclared, BadType}
use Rattle.c_check_def.specs.State.{MaybeType, Declared, State, Elaborated, pure, breaks_if, within_scope, add_variable}
use Rattle.c_check_def.specs.Leaves.{offset_of, begin_of, name_of, count_of, is_present}
use Rattle.c_check_def.specs.Specifiers.{Specified, specified_type, tagged}
use Rattle.c_check_def.specs.DeclaredTypes.{object_type, param_type, result_type}
use Rattle.c_check_def.specs.Expressions.{dimensions}
use Rattle.c_check_def.specs.Declarators.{open_dimensions, is_fixed, global_declarator}
use Rattle.c_check_def.specs.Statements.{Jumps, items}
use Rattle.c_check_def.specs.Externals.{Member, has_member, member, more_member, members, more_members, types_of, is_large_struct, with_struct, defined, declare_tag, struct, Param, param_name, param_offset, param, more_params, is_lone_void, params, declare_function, bind_params, name_params, function_body, is_block, function, after_name, after_type, after_tag, external}
use Rattle.c_check_def.specs.Check.{externals}
use Rattle.c_check_laws.proofs.lemmas.Later.{entered}
use Rattle.c_check_laws.proofs.lemmas.Quiet.{Quiet, breaks_if_quiet, tagged_quiet, specified_type_quiet, object_type_quiet, param_type_quiet, declare_if_quiet, declare_function_quiet}
use Rattle.c_check_laws.proofs.lemmas.Params.{result_type_quiet}
use Rattle.c_check_laws.proofs.lemmas.FunctionBodies.{name_params_quiet, bind_out}
use Rattle.c_check_laws.proofs.Order.{KeepsOrder, over, same, between, then_quiet, in_turn, past, node, grouped, Named}
use Rattle.c_check_laws.proofs.OrderExpressions.{dimensions_order}
use Rattle.c_check_laws.proofs.OrderDeclarations.{open_dimensions_order, global_declarator_order, more_globals_order}
use Rattle.c_check_laws.proofs.OrderStatements.{scope_order, items_order}

-- ---- members of structs

member_order : (x : Specified) (xs : List Member) (t : Tree) (s : State) → Named t → KeepsOrder t s (member x xs t s).1
member_order x xs (Node l.Member (Cons stars (Cons name (Cons bounds none)))) s r =
    let ns = dimensions bounds s in
    let t = object_type false (offset_of name) x (count_of stars) (map dimension.Sized ns.0) ns.1 in
    node (past (past (in_turn (dimensions_order bounds s r.1.1.0)
    (same (breaks_if_quiet (has_member xs (name_of name)) Redeclared (offset_of name) t.1 ∙ object_type_quiet false (offset_of name) x (count_of stars) (map dimension.Sized ns.0) ns.1)))))
member_order x xs t s r = over

more_member_order : (x : Specified) (xs : List Member) (t : Tree) (s : State) → Named t → KeepsOrder t s (more_member x xs t s).1
more_member_order x xs (Node (l.More k) (Cons before (Cons comma (Cons t none)))) s r =
    let ys = more_member x xs before s in node (in_turn (more_member_order x xs before s r.0) (past (in_turn (member_order x ys.0 t ys.1 r.1.1.0) over)))
more_member_order x xs t s r = over

members_order : (xs : List Member) (t : Tree) (s : State) → Named t → KeepsOrder t s (members xs t s).1
members_order xs (Node l.Members (Cons qualifier (Cons specifier (Cons first (Cons more none))))) s r =
    let x = specified_type specifier s in
    let ys = member x.0 xs first x.1 in
    node (past (in_turn (same (specified_type_quiet specifier s)) (in_turn (member_order x.0 xs first x.1 r.1.1.0) (in_turn (more_member_order x.0 ys.0 more ys.1 r.1.1.1.0) over))))
members_order xs t s r = over

more_members_order : (xs : List Member) (t : Tree) (s : State) → Named t → KeepsOrder t s (more_members xs t s).1
more_members_order xs (Node (l.More k) (Cons before (Cons t none))) s r =
    let ys = more_members xs before s in node (in_turn (more_members_order xs before s r.0) (in_turn (members_order ys.0 t ys.1 r.1.0) over))
more_members_order xs t s r = over

defined_quiet : (tag offset : ℕ) (xs : List Member) (ts : Option (List TypeTree)) → Quiet (defined tag offset xs ts)
defined_quiet tag offset xs None s = refl
defined_quiet tag offset xs (Some ts) s =
    let b = breaks_if (is_large_struct s.structs (record { tag = tag; members = ts })) BadType offset s in
    by_test (is_some b.1.broken) b.1 ∙ breaks_if_quiet (is_large_struct s.structs (record { tag = tag; members = ts })) BadType offset s
  where
    by_test : (t : Bool) (u : State) → (if t then u else with_struct (record { tag = tag; members = ts }) xs u).globals ≡ u.globals
    by_test true u = refl
    by_test false u = refl

struct_order : (name : Name) (offset : ℕ) (t : Tree) (s : State) → Named t → KeepsOrder t s (struct name offset t s).1
struct_order name offset (Node l.StructMembers (Cons opening (Cons first (Cons more none)))) s r =
    let tag = declare_tag name s in
    let b = breaks_if (is_defined tag.1.structs tag.0) Redeclared offset tag.1 in
    let xs = members [] first b.1 in
    let ys = more_members xs.0 more xs.1 in
    node (past (in_turn (between (breaks_if_quiet (is_defined tag.1.structs tag.0) Redeclared offset tag.1) (members_order [] first b.1 r.1.0) refl)
    (in_turn (more_members_order xs.0 more xs.1 r.1.1.0) (same (defined_quiet tag.0 offset ys.0 (types_of ys.0) ys.1)))))
struct_order name offset t s r = same refl

-- ---- parameters

param_order : (t : Tree) (s : State) → Named t → KeepsOrder t s (param t s).1
param_order (Node l.Param (Cons qualifier (Cons specifier (Cons stars (Cons name (Cons bounds none)))))) s r =
    let offset = param_offset (begin_of (Cons qualifier (Cons specifier Nil))) name in
    let x = specified_type specifier s in
    let ds = open_dimensions bounds x.1 in
    let t = param_type offset x.0 (count_of stars) ds.0 ds.1 in
    let slot = add_variable t.0 t.1 in
    node (past (in_turn (same (specified_type_quiet specifier s)) (past (past (in_turn (open_dimensions_order bounds x.1 r.1.1.1.1.0)
    (same (declare_if_quiet (param_name name) offset (means.Variable slot.0 (is_fixed (is_present qualifier) (count_of stars))) slot.1
    ∙ param_type_quiet offset x.0 (count_of stars) ds.0 ds.1)))))))
param_order t s r = over

more_params_order : (t : Tree) (s : State) → Named t → KeepsOrder t s (more_params t s).1
more_params_order (Node (l.More k) (Cons before (Cons comma (Cons t none)))) s r =
    let ps = more_params before s in node (in_turn (more_params_order before s r.0) (past (in_turn (param_order t ps.1 r.1.1.0) over)))
more_params_order t s r = over

params_order : (t : Tree) (s : State) → Named t → KeepsOrder t s (params t s).1
params_order (Node (l.Present k) (Cons first (Cons more none))) s r = by_test (is_lone_void first && count_of more == 0)
  where
    by_test : (b : Bool) → KeepsOrder (Node (l.Present k) (Cons first (Cons more none))) s
        ((if b then pure [] else (λ s. ((param first s).0 ++ (more_params more (param first s).1).0, (more_params more (param first s).1).1))) s).1
    by_test true = over
    by_test false = let p = param first s in node (in_turn (param_order first s r.0) (in_turn (more_params_order more p.1 r.1.0) over))
params_order t s r = over

-- ---- functions

function_body_order : (name : Name) (offset starts : ℕ) (t : MaybeType) (ps : List Param) (x : Tree) (s : State) → Named x → KeepsOrder x s (function_body name offset starts t ps x s).1
function_body_order name offset starts t ps (Node l.Block (Cons opening (Cons xs (Cons closing none)))) s r =
    let n = (name_params ps s).1 in
    let j : Jumps = record { may_break = false; may_continue = false; result = t } in
    let inner : Elaborated ItemTrees = λ s. items j xs (bind_params 0 ps s).1 in
    let b = (bind_params 0 ps (entered n)).1 in
    let body : KeepsOrder xs (entered n) (inner (entered n)).1 = between (bind_out 0 ps (entered n)).globals (items_order j xs b r.1.0) refl in
    node (past (in_turn (between (name_params_quiet ps s) (scope_order inner n body) refl) over))
function_body_order name offset starts t ps x s r = over

function_order : (starts : ℕ) (x : Specified) (stars : ℕ) (name : Name) (offset : ℕ) (xs closing body more : Tree) (s : State) → Named xs → Named body →
    KeepsOrder (Cons xs (Cons closing (Cons body more))) s (function starts x stars name offset xs body s).1
function_order starts x stars name offset xs closing body more s r w =
    let t = result_type offset x stars s in
    let ps = within_scope (params xs) t.1 in
    let f : Declared = record { result = t.0; params = map (λ (p : Param). p.type) ps.0; is_defined = is_block body } in
    let d = declare_function name offset f ps.1 in
    in_turn (between (result_type_quiet offset x stars s) (scope_order (params xs) t.1 (params_order xs (entered t.1) r)) (declare_function_quiet name offset f ps.1))
    (past (in_turn (then_quiet (function_body_order name offset starts t.0 ps.0 body d.1 w) refl) over))

-- ---- declarations

after_name_order : (starts : ℕ) (x : Specified) (is_const : Bool) (stars : ℕ) (name : Name) (token : Token) (t none : Tree) (s : State) → Named t →
    KeepsOrder (Cons (Leaf token) (Cons t none)) s (after_name starts x is_const stars name token.at t s).1
after_name_order starts x is_const stars name token (Node l.Function (Cons opening (Cons xs (Cons closing (Cons body more))))) none s r =
    past (in_turn (node (past (function_order starts x stars name token.at xs closing body more s r.1.0 r.1.1.1.0))) over)
after_name_order starts x is_const stars name token (Node l.Globals (Cons bounds (Cons begun (Cons more semicolon)))) none s r =
    let g = global_declarator x is_const stars name token.at bounds begun s in
    grouped (global_declarator_order x is_const stars name token bounds begun s r.0 r.1.0) (more_globals_order x is_const more g.1 r.1.1.0)
after_name_order starts x is_const stars name token t none s r = over

after_type_order : (starts : ℕ) (x : Specified) (is_const : Bool) (t : Tree) (s : State) → Named t → KeepsOrder t s (after_type starts x is_const t s).1
after_type_order starts x is_const (Node l.Declared (Cons stars (Cons (Leaf token) (Cons rest none)))) s r =
    node (past (after_name_order starts x is_const (count_of stars) (name_of (Leaf token)) token rest none s r.1.0))
after_type_order starts x is_const (Node l.Declared (Cons stars (Cons name (Cons rest none)))) s r = absurd r.0
after_type_order starts x is_const t s r = over

after_tag_order : (starts : ℕ) (name : Name) (offset : ℕ) (t : Tree) (s : State) → Named t → KeepsOrder t s (after_tag starts name offset t s).1
after_tag_order starts name offset (Node l.Declared children) s r =
    let x = tagged name offset s in between (tagged_quiet name offset s) (after_type_order starts x.0 false (Node l.Declared children) x.1 r) refl
after_tag_order starts name offset t s r = struct_order name offset t s r

specified_then : (starts : ℕ) (is_const : Bool) (specifier rest none : Tree) (s : State) → Named rest →
    KeepsOrder (Cons specifier (Cons rest none)) s (after_type starts (specified_type specifier s).0 is_const rest (specified_type specifier s).1).1
specified_then starts is_const specifier rest none s r =
    let x = specified_type specifier s in in_turn (same (specified_type_quiet specifier s)) (in_turn (after_type_order starts x.0 is_const rest x.1 r) over)

external_order : (t : Tree) (s : State) → Named t → KeepsOrder t s (external t s).1
external_order (Node l.Static (Cons word (Cons qualifier (Cons specifier (Cons rest none))))) s r =
    node (past (past (specified_then (offset_of word) (is_present qualifier) specifier rest none s r.1.1.1.0)))
external_order (Node l.Const (Cons word (Cons specifier (Cons rest none)))) s r = node (past (specified_then (offset_of word) true specifier rest none s r.1.1.0))
external_order (Node l.Plain (Cons specifier (Cons rest none))) s r = node (specified_then (begin_of specifier) false specifier rest none s r.1.0)
external_order (Node l.Struct (Cons word (Cons tag (Cons rest none)))) s r =
    node (past (past (in_turn (after_tag_order (offset_of word) (name_of tag) (offset_of tag) rest s r.1.1.0) over)))
external_order t s r = over

pub externals_order : (t : Tree) (s : State) → Named t → KeepsOrder t s (externals t s).1
externals_order (Node (l.More k) (Cons before (Cons t none))) s r =
    let a = externals before s in node (in_turn (externals_order before s r.0) (in_turn (by_test (is_some a.1.broken) a.1) over))
  where
    by_test : (b : Bool) (u : State) → KeepsOrder t u ((if b then pure tt else external t) u).1
    by_test true u = over
    by_test false u = external_order t u r.1.0
externals_order t s r = over
