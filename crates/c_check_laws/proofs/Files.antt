-- Where the rules are broken that external declarations break.
use Rattle.std.proofs.Common.{ℕ, suc, Bool, true, false, List, [], ◌∷◌, ◌++◌, refl}
use Rattle.std.specs.Prelude.{◌==◌, ◌&&◌, not, slice_get, is_some, map, Option, None, Some, if◌then◌else◌}
use Rattle.std.proofs.lemmas.Bool.{false≢true}
use Rattle.c_ast.specs.Productions as l
use Rattle.c_ast.specs.Nonterminals as class
use Rattle.c_ast.specs.Tree.{Tree, Leaf, Node, Nil, Cons}
use Rattle.c_ast.specs.Grammar as grammar
use Rattle.c_type.specs.Trees.{TypeTree}
use Rattle.c_type.specs.Layout.{is_defined}
use Rattle.c_typed.specs.Typed.{ItemTrees}
use Rattle.c_check_scope.specs.Scopes.{Name}
use Rattle.c_check_def.specs.declared.meaning.Meaning.{Meaning}
use Rattle.c_check_def.specs.declared.meaning.Meaning.TheVariants as means
use Rattle.c_check_def.specs.declared.dimension.Dimension.TheVariants as dimension
use Rattle.c_check_def.specs.declared.refusal_kind.RefusalKind.TheVariants.{Redeclared, BadType}
use Rattle.c_check_def.specs.State.{MaybeType, Declared, State, Elaborated, pure, breaks_if, meaning_of, within_scope, add_variable}
use Rattle.c_check_def.specs.Leaves.{offset_of, begin_of, name_of, count_of, is_present}
use Rattle.c_check_def.specs.Specifiers.{Specified, specified_type, tagged}
use Rattle.c_check_def.specs.DeclaredTypes.{object_type, param_type, result_type}
use Rattle.c_check_def.specs.Expressions.{dimensions}
use Rattle.c_check_def.specs.Declarators.{open_dimensions, is_fixed, global_declarator}
use Rattle.c_check_def.specs.Statements.{items}
use Rattle.c_check_def.specs.Externals.{Member, has_member, member, more_member, members, more_members, types_of, is_large_struct, with_struct, defined, declare_tag, struct, Param, param_name, param_offset, declare_if, param_at, param, more_params, is_lone_void, params, may_follow, function_meant, declare_function, bind_if, bind_params, name_params, function_body, is_block, function, after_name, after_type, after_tag, external}
use Rattle.c_check_def.specs.Check.{externals}
use Rattle.c_check_laws.proofs.TreePlaces.{AllAt, begins, begins_after}
use Rattle.c_check_laws.proofs.Inside.{Within, within_same, within_nothing, within_then, Inside, TagWithin, breaks_inside, breaks_if_inside, object_type_inside, param_type_inside, result_type_inside, declare_inside}
use Rattle.c_check_laws.proofs.Expressions.{Placed, placed, PlacedSizes, placed_sizes, tagged_within, specified_within, specified_inside, dimensions_inside}
use Rattle.c_check_laws.proofs.Declarations.{PlacedBounds, PlacedBegun, PlacedDecls, placed_bounds, placed_begun, placed_decls, open_dimensions_inside, global_declarator_inside, more_globals_inside}
use Rattle.c_check_laws.proofs.Statements.{PlacedItems, placed_items, items_inside, scope_inside}

module _ (P : ℕ → Type 0) where
  -- ---- what the checker reads the offsets of

  abbrev PlacedMember : Tree → Type 0
  PlacedMember (Node l.Member (Cons stars (Cons name (Cons bounds none)))) = P (offset_of name) × PlacedSizes P bounds
  PlacedMember t = Unit {0}

  abbrev PlacedMoreMember : Tree → Type 0
  PlacedMoreMember (Node (l.More k) (Cons before (Cons comma (Cons t none)))) = PlacedMoreMember before × PlacedMember t
  PlacedMoreMember t = Unit {0}

  abbrev PlacedMembers : Tree → Type 0
  PlacedMembers (Node l.Members (Cons qualifier (Cons specifier (Cons first (Cons more none))))) = Placed P specifier × PlacedMember first × PlacedMoreMember more
  PlacedMembers t = Unit {0}

  abbrev PlacedMoreMembers : Tree → Type 0
  PlacedMoreMembers (Node (l.More k) (Cons before (Cons t none))) = PlacedMoreMembers before × PlacedMembers t
  PlacedMoreMembers t = Unit {0}

  abbrev PlacedParam : Tree → Type 0
  PlacedParam (Node l.Param (Cons qualifier (Cons specifier (Cons stars (Cons name (Cons bounds none)))))) =
      P (param_offset (begin_of (Cons qualifier (Cons specifier Nil))) name) × Placed P specifier × PlacedBounds P bounds
  PlacedParam t = Unit {0}

  abbrev PlacedMoreParams : Tree → Type 0
  PlacedMoreParams (Node (l.More k) (Cons before (Cons comma (Cons t none)))) = PlacedMoreParams before × PlacedParam t
  PlacedMoreParams t = Unit {0}

  abbrev PlacedParams : Tree → Type 0
  PlacedParams (Node (l.Present k) (Cons first (Cons more none))) = PlacedParam first × PlacedMoreParams more
  PlacedParams t = Unit {0}

  abbrev PlacedBody : Tree → Type 0
  PlacedBody (Node l.Block (Cons opening (Cons xs (Cons closing none)))) = PlacedItems P xs
  PlacedBody t = Unit {0}

  abbrev PlacedAfterName : Tree → Type 0
  PlacedAfterName (Node l.Function (Cons opening (Cons xs (Cons closing (Cons body none))))) = PlacedParams xs × PlacedBody body
  PlacedAfterName (Node l.Globals (Cons bounds (Cons begun (Cons more none)))) = PlacedBounds P bounds × PlacedBegun P begun × PlacedDecls P more
  PlacedAfterName t = Unit {0}

  abbrev PlacedAfterType : Tree → Type 0
  PlacedAfterType (Node l.Declared (Cons stars (Cons name (Cons rest none)))) = P (offset_of name) × PlacedAfterName rest
  PlacedAfterType t = Unit {0}

  abbrev PlacedAfterTag : Tree → Type 0
  PlacedAfterTag (Node l.Declared children) = PlacedAfterType (Node l.Declared children)
  PlacedAfterTag (Node l.StructMembers (Cons opening (Cons first (Cons more none)))) = PlacedMembers first × PlacedMoreMembers more
  PlacedAfterTag t = Unit {0}

  abbrev PlacedExternal : Tree → Type 0
  PlacedExternal (Node l.Static (Cons word (Cons qualifier (Cons specifier (Cons rest none))))) = Placed P specifier × PlacedAfterType rest
  PlacedExternal (Node l.Const (Cons word (Cons specifier (Cons rest none)))) = Placed P specifier × PlacedAfterType rest
  PlacedExternal (Node l.Plain (Cons specifier (Cons rest none))) = Placed P specifier × PlacedAfterType rest
  PlacedExternal (Node l.Struct (Cons word (Cons tag (Cons rest none)))) = P (offset_of tag) × PlacedAfterTag rest
  PlacedExternal t = Unit {0}

  abbrev PlacedExternals : Tree → Type 0
  PlacedExternals (Node (l.More k) (Cons before (Cons t none))) = PlacedExternals before × PlacedExternal t
  PlacedExternals t = Unit {0}

  -- ---- members of structs

  member_inside : (x : Specified) (xs : List Member) (t : Tree) (s : State) → TagWithin P x → PlacedMember t → Within P s (member x xs t s).1
  member_inside x xs (Node l.Member (Cons stars (Cons name (Cons bounds none)))) s q r =
      let ns = dimensions bounds s in
      let t = object_type false (offset_of name) x (count_of stars) (map dimension.Sized ns.0) ns.1 in
      within_then P s ns.1 _ (dimensions_inside P bounds s r.1)
      (within_then P ns.1 t.1 _ (object_type_inside P false (offset_of name) x (count_of stars) (map dimension.Sized ns.0) r.0 q ns.1)
      (breaks_if_inside P (has_member xs (name_of name)) Redeclared (offset_of name) r.0 t.1))
  member_inside x xs t s q r = within_nothing P s

  more_member_inside : (x : Specified) (xs : List Member) (t : Tree) (s : State) → TagWithin P x → PlacedMoreMember t → Within P s (more_member x xs t s).1
  more_member_inside x xs (Node (l.More k) (Cons before (Cons comma (Cons t none)))) s q r =
      let ys = more_member x xs before s in within_then P s ys.1 _ (more_member_inside x xs before s q r.0) (member_inside x ys.0 t ys.1 q r.1)
  more_member_inside x xs t s q r = within_nothing P s

  members_inside : (xs : List Member) (t : Tree) (s : State) → PlacedMembers t → Within P s (members xs t s).1
  members_inside xs (Node l.Members (Cons qualifier (Cons specifier (Cons first (Cons more none))))) s r =
      let x = specified_type specifier s in
      let ys = member x.0 xs first x.1 in
      let q = specified_within P specifier s r.0 in
      within_then P s x.1 _ (specified_inside P specifier s) (within_then P x.1 ys.1 _ (member_inside x.0 xs first x.1 q r.1) (more_member_inside x.0 ys.0 more ys.1 q r.2))
  members_inside xs t s r = within_nothing P s

  more_members_inside : (xs : List Member) (t : Tree) (s : State) → PlacedMoreMembers t → Within P s (more_members xs t s).1
  more_members_inside xs (Node (l.More k) (Cons before (Cons t none))) s r =
      let ys = more_members xs before s in within_then P s ys.1 _ (more_members_inside xs before s r.0) (members_inside ys.0 t ys.1 r.1)
  more_members_inside xs t s r = within_nothing P s

  defined_inside : (tag offset : ℕ) (xs : List Member) (ts : Option (List TypeTree)) → P offset → Inside P (defined tag offset xs ts)
  defined_inside tag offset xs None p s = within_nothing P s
  defined_inside tag offset xs (Some ts) p s =
      let b = breaks_if (is_large_struct s.structs (record { tag = tag; members = ts })) BadType offset s in
      within_then P s b.1 _ (breaks_if_inside P (is_large_struct s.structs (record { tag = tag; members = ts })) BadType offset p s) (by_test (is_some b.1.broken) b.1)
    where
      by_test : (t : Bool) (u : State) → Within P u (if t then u else with_struct (record { tag = tag; members = ts }) xs u)
      by_test true u = within_nothing P u
      by_test false u = within_same P u _ refl

  struct_inside : (name : Name) (offset : ℕ) (t : Tree) (s : State) → P offset → PlacedAfterTag t → Within P s (struct name offset t s).1
  struct_inside name offset (Node l.StructMembers (Cons opening (Cons first (Cons more none)))) s p r =
      let tag = declare_tag name s in
      let b = breaks_if (is_defined tag.1.structs tag.0) Redeclared offset tag.1 in
      let xs = members [] first b.1 in
      let ys = more_members xs.0 more xs.1 in
      within_then P s tag.1 _ (within_same P s tag.1 refl)
      (within_then P tag.1 b.1 _ (breaks_if_inside P (is_defined tag.1.structs tag.0) Redeclared offset p tag.1)
      (within_then P b.1 xs.1 _ (members_inside [] first b.1 r.0)
      (within_then P xs.1 ys.1 _ (more_members_inside xs.0 more xs.1 r.1) (defined_inside tag.0 offset ys.0 (types_of ys.0) p ys.1))))
  struct_inside name offset t s p r = within_same P s _ refl

  -- ---- parameters

  -- each parameter is at such an offset
  abbrev AreParams : List Param → Type 0
  AreParams [] = Unit {0}
  AreParams (p ∷ ps) = P p.offset × AreParams ps

  both_params : (xs ys : List Param) → AreParams xs → AreParams ys → AreParams (xs ++ ys)
  both_params [] ys a b = b
  both_params (x ∷ xs) ys a b = (a.0, both_params xs ys a.1 b)

  declare_if_inside : (name : Option Name) (offset : ℕ) (m : Meaning) → P offset → Inside P (declare_if name offset m)
  declare_if_inside None offset m p s = within_nothing P s
  declare_if_inside (Some name) offset m p s = declare_inside P name offset m p s

  param_at_inside : (offset : ℕ) (is_const : Bool) (specifier stars name bounds : Tree) (s : State) → P offset → Placed P specifier → PlacedBounds P bounds →
      Within P s (param_at offset is_const specifier stars name bounds s).1
  param_at_inside offset is_const specifier stars name bounds s p r b =
      let x = specified_type specifier s in
      let ds = open_dimensions bounds x.1 in
      let t = param_type offset x.0 (count_of stars) ds.0 ds.1 in
      let slot = add_variable t.0 t.1 in
      within_then P s x.1 _ (specified_inside P specifier s)
      (within_then P x.1 ds.1 _ (open_dimensions_inside P bounds x.1 b)
      (within_then P ds.1 t.1 _ (param_type_inside P offset x.0 (count_of stars) ds.0 p (specified_within P specifier s r) ds.1)
      (within_then P t.1 slot.1 _ (within_same P t.1 slot.1 refl)
      (declare_if_inside (param_name name) offset (means.Variable slot.0 (is_fixed is_const (count_of stars))) p slot.1))))

  param_inside : (t : Tree) (s : State) → PlacedParam t → Within P s (param t s).1
  param_inside (Node l.Param (Cons qualifier (Cons specifier (Cons stars (Cons name (Cons bounds none)))))) s r =
      param_at_inside (param_offset (begin_of (Cons qualifier (Cons specifier Nil))) name) (is_present qualifier) specifier stars name bounds s r.0 r.1 r.2
  param_inside t s r = within_nothing P s

  param_is : (t : Tree) (s : State) → PlacedParam t → AreParams (param t s).0
  param_is (Node l.Param (Cons qualifier (Cons specifier (Cons stars (Cons name (Cons bounds none)))))) s r = (r.0, tt)
  param_is t s r = tt

  more_params_inside : (t : Tree) (s : State) → PlacedMoreParams t → Within P s (more_params t s).1
  more_params_inside (Node (l.More k) (Cons before (Cons comma (Cons t none)))) s r =
      let ps = more_params before s in within_then P s ps.1 _ (more_params_inside before s r.0) (param_inside t ps.1 r.1)
  more_params_inside t s r = within_nothing P s

  more_params_are : (t : Tree) (s : State) → PlacedMoreParams t → AreParams (more_params t s).0
  more_params_are (Node (l.More k) (Cons before (Cons comma (Cons t none)))) s r =
      let ps = more_params before s in both_params ps.0 _ (more_params_are before s r.0) (param_is t ps.1 r.1)
  more_params_are t s r = tt

  -- the parameters, unless they are a lone `void`
  abbrev all_params : Tree → Tree → Elaborated (List Param)
  all_params first more = λ s. let p = param first s in let ps = more_params more p.1 in (p.0 ++ ps.0, ps.1)

  params_inside : (t : Tree) (s : State) → PlacedParams t → Within P s (params t s).1
  params_inside (Node (l.Present k) (Cons first (Cons more none))) s r = by_test (is_lone_void first && count_of more == 0)
    where
      by_test : (b : Bool) → Within P s ((if b then pure [] else all_params first more) s).1
      by_test true = within_nothing P s
      by_test false = let p = param first s in within_then P s p.1 _ (param_inside first s r.0) (more_params_inside more p.1 r.1)
  params_inside t s r = within_nothing P s

  params_are : (t : Tree) (s : State) → PlacedParams t → AreParams (params t s).0
  params_are (Node (l.Present k) (Cons first (Cons more none))) s r = by_test (is_lone_void first && count_of more == 0)
    where
      by_test : (b : Bool) → AreParams ((if b then pure [] else all_params first more) s).0
      by_test true = tt
      by_test false = let p = param first s in both_params p.0 _ (param_is first s r.0) (more_params_are more p.1 r.1)
  params_are t s r = tt

  -- ---- functions

  function_meant_inside : (name : Name) (offset : ℕ) (f : Declared) (m : Option Meaning) → P offset → Inside P (function_meant name offset f m)
  function_meant_inside name offset f None p s = within_same P s _ refl
  function_meant_inside name offset f (Some (means.Function k)) p s =
      let b = breaks_if (not (may_follow (slice_get s.declared k) f)) Redeclared offset s in
      within_then P s b.1 _ (breaks_if_inside P (not (may_follow (slice_get s.declared k) f)) Redeclared offset p s) (within_same P b.1 _ refl)
  function_meant_inside name offset f (Some (means.Variable slot is_const)) p s = breaks_inside P Redeclared offset p s
  function_meant_inside name offset f (Some (means.Global k is_const)) p s = breaks_inside P Redeclared offset p s

  declare_function_inside : (name : Name) (offset : ℕ) (f : Declared) → P offset → Inside P (declare_function name offset f)
  declare_function_inside name offset f p s = function_meant_inside name offset f (meaning_of name s).0 p s

  bind_if_inside : (name : Option Name) (m : Meaning) → Inside P (bind_if name m)
  bind_if_inside None m s = within_nothing P s
  bind_if_inside (Some name) m s = within_same P s _ refl

  bind_params_inside : (slot : ℕ) (ps : List Param) → Inside P (bind_params slot ps)
  bind_params_inside slot [] s = within_nothing P s
  bind_params_inside slot (p ∷ ps) s =
      let e : State = record s { slots = s.slots ++ slot ∷ [] } in
      let b = bind_if p.name (means.Variable slot p.is_const) e in
      within_then P s e _ (within_same P s e refl) (within_then P e b.1 _ (bind_if_inside p.name (means.Variable slot p.is_const) e) (bind_params_inside (suc slot) ps b.1))

  name_params_inside : (ps : List Param) → AreParams ps → Inside P (name_params ps)
  name_params_inside [] h s = within_nothing P s
  name_params_inside (p ∷ ps) h s =
      let b = breaks_if (not (is_some p.name)) BadType p.offset s in
      within_then P s b.1 _ (breaks_if_inside P (not (is_some p.name)) BadType p.offset h.0 s) (name_params_inside ps h.1 b.1)

  function_body_inside : (name : Name) (offset starts : ℕ) (t : MaybeType) (ps : List Param) (x : Tree) (s : State) → AreParams ps → PlacedBody x →
      Within P s (function_body name offset starts t ps x s).1
  function_body_inside name offset starts t ps (Node l.Block (Cons opening (Cons xs (Cons closing none)))) s h r =
      let n = name_params ps s in
      let inner : Elaborated ItemTrees = λ s. items (record { may_break = false; may_continue = false; result = t }) xs (bind_params 0 ps s).1 in
      let b = within_scope inner n.1 in
      within_then P s n.1 _ (name_params_inside ps h s)
      (within_then P n.1 b.1 _
      (scope_inside P inner (λ e.
      within_then P e (bind_params 0 ps e).1 _ (bind_params_inside 0 ps e) (items_inside P (record { may_break = false; may_continue = false; result = t }) xs (bind_params 0 ps e).1 r)) n.1)
      (within_same P b.1 _ refl))
  function_body_inside name offset starts t ps x s h r = within_nothing P s

  function_inside : (starts : ℕ) (x : Specified) (stars : ℕ) (name : Name) (offset : ℕ) (xs body : Tree) (s : State) → P offset → TagWithin P x → PlacedParams xs → PlacedBody body →
      Within P s (function starts x stars name offset xs body s).1
  function_inside starts x stars name offset xs body s p q r b =
      let t = result_type offset x stars s in
      let ps = within_scope (params xs) t.1 in
      let e : State = record t.1 { scopes = [] ∷ t.1.scopes } in
      let f : Declared = record { result = t.0; params = map (λ (p : Param). p.type) ps.0; is_defined = is_block body } in
      let d = declare_function name offset f ps.1 in
      let g = function_body name offset starts t.0 ps.0 body d.1 in
      within_then P s t.1 _ (result_type_inside P offset x stars p q s)
      (within_then P t.1 ps.1 _ (scope_inside P (params xs) (λ e. params_inside xs e r) t.1)
      (within_then P ps.1 d.1 _ (declare_function_inside name offset f p ps.1)
      (within_then P d.1 g.1 _ (function_body_inside name offset starts t.0 ps.0 body d.1 (params_are xs e r) b) (within_same P g.1 _ refl))))

  -- ---- declarations

  after_name_inside : (starts : ℕ) (x : Specified) (is_const : Bool) (stars : ℕ) (name : Name) (offset : ℕ) (t : Tree) (s : State) → P offset → TagWithin P x → PlacedAfterName t →
      Within P s (after_name starts x is_const stars name offset t s).1
  after_name_inside starts x is_const stars name offset (Node l.Function (Cons opening (Cons xs (Cons closing (Cons body none))))) s p q r =
      function_inside starts x stars name offset xs body s p q r.0 r.1
  after_name_inside starts x is_const stars name offset (Node l.Globals (Cons bounds (Cons begun (Cons more none)))) s p q r =
      let g = global_declarator x is_const stars name offset bounds begun s in
      within_then P s g.1 _ (global_declarator_inside P x is_const stars name offset bounds begun s p q r.0 r.1) (more_globals_inside P x is_const more g.1 q r.2)
  after_name_inside starts x is_const stars name offset t s p q r = within_nothing P s

  after_type_inside : (starts : ℕ) (x : Specified) (is_const : Bool) (t : Tree) (s : State) → TagWithin P x → PlacedAfterType t → Within P s (after_type starts x is_const t s).1
  after_type_inside starts x is_const (Node l.Declared (Cons stars (Cons name (Cons rest none)))) s q r =
      after_name_inside starts x is_const (count_of stars) (name_of name) (offset_of name) rest s r.0 q r.1
  after_type_inside starts x is_const t s q r = within_nothing P s

  after_tag_inside : (starts : ℕ) (name : Name) (offset : ℕ) (t : Tree) (s : State) → P offset → PlacedAfterTag t → Within P s (after_tag starts name offset t s).1
  after_tag_inside starts name offset (Node l.Declared children) s p r =
      let x = tagged name offset s in
      within_then P s x.1 _ (within_same P s x.1 refl) (after_type_inside starts x.0 false (Node l.Declared children) x.1 (tagged_within P name offset s p) r)
  after_tag_inside starts name offset t s p r = struct_inside name offset t s p r

  specified_then : (starts : ℕ) (is_const : Bool) (specifier rest : Tree) (s : State) → Placed P specifier → PlacedAfterType rest →
      Within P s (after_type starts (specified_type specifier s).0 is_const rest (specified_type specifier s).1).1
  specified_then starts is_const specifier rest s p r =
      let x = specified_type specifier s in
      within_then P s x.1 _ (specified_inside P specifier s) (after_type_inside starts x.0 is_const rest x.1 (specified_within P specifier s p) r)

  pub external_inside : (t : Tree) (s : State) → PlacedExternal t → Within P s (external t s).1
  external_inside (Node l.Static (Cons word (Cons qualifier (Cons specifier (Cons rest none))))) s r = specified_then (offset_of word) (is_present qualifier) specifier rest s r.0 r.1
  external_inside (Node l.Const (Cons word (Cons specifier (Cons rest none)))) s r = specified_then (offset_of word) true specifier rest s r.0 r.1
  external_inside (Node l.Plain (Cons specifier (Cons rest none))) s r = specified_then (begin_of specifier) false specifier rest s r.0 r.1
  external_inside (Node l.Struct (Cons word (Cons tag (Cons rest none)))) s r = after_tag_inside (offset_of word) (name_of tag) (offset_of tag) rest s r.0 r.1
  external_inside t s r = within_nothing P s

  pub externals_inside : (t : Tree) (s : State) → PlacedExternals t → Within P s (externals t s).1
  externals_inside (Node (l.More k) (Cons before (Cons t none))) s r =
      let a = externals before s in
      within_then P s a.1 _ (externals_inside before s r.0) (by_test (is_some a.1.broken) a.1)
    where
      by_test : (b : Bool) (u : State) → Within P u ((if b then pure tt else external t) u).1
      by_test true u = within_nothing P u
      by_test false u = external_inside t u r.1
  externals_inside t s r = within_nothing P s

  -- ---- what the grammar says of these places

  placed_member : (t : Tree) → grammar.Fits (grammar.One class.Member) t → AllAt P t → PlacedMember t
  unfolding grammar.Fits grammar.symbols_of grammar.rule
  placed_member (Node l.Member (Cons stars (Cons (Leaf name) (Cons bounds none)))) h a = (a.1.0, placed_sizes P bounds h.2.1.1.0 a.1.1.0)
  placed_member (Node l.Member (Cons stars (Cons name (Cons bounds none)))) h a = absurd (assumption)
  placed_member t h a = tt

  placed_more_member : (t : Tree) → grammar.Fits (grammar.One (class.Many l.MoreMember)) t → AllAt P t → PlacedMoreMember t
  unfolding grammar.Fits grammar.allowed grammar.symbols_of grammar.rule grammar.repeated class.includes class.same_nonterminal class.nonterminal_number class.repeated_number
  placed_more_member (Node (l.More l.MoreMember) (Cons before (Cons (Leaf comma) (Cons t none)))) h a = (placed_more_member before h.2.0 a.0, placed_member t h.2.1.1.0 a.1.1.0)
  placed_more_member (Node (l.More l.MoreMember) (Cons before (Cons comma (Cons t none)))) h a = absurd (assumption)
  placed_more_member (Node (l.More l.MoreMember) children) h a = tt
  placed_more_member (Node (l.More k) children) h a = absurd (false≢true h.0)
  placed_more_member t h a = tt

  placed_members : (t : Tree) → grammar.Fits (grammar.One class.Members) t → AllAt P t → PlacedMembers t
  unfolding grammar.Fits grammar.symbols_of grammar.rule
  placed_members (Node l.Members (Cons qualifier (Cons specifier (Cons first (Cons more none))))) h a =
      (placed P (grammar.One class.Spec) specifier h.2.1.0 a.1.0, placed_member first h.2.1.1.0 a.1.1.0, placed_more_member more h.2.1.1.1.0 a.1.1.1.0)
  placed_members t h a = tt

  placed_more_members : (t : Tree) → grammar.Fits (grammar.One (class.Many l.MoreMembers)) t → AllAt P t → PlacedMoreMembers t
  unfolding grammar.Fits grammar.allowed grammar.symbols_of grammar.rule grammar.repeated class.includes class.same_nonterminal class.nonterminal_number class.repeated_number
  placed_more_members (Node (l.More l.MoreMembers) (Cons before (Cons t none))) h a = (placed_more_members before h.2.0 a.0, placed_members t h.2.1.0 a.1.0)
  placed_more_members (Node (l.More l.MoreMembers) children) h a = tt
  placed_more_members (Node (l.More k) children) h a = absurd (false≢true h.0)
  placed_more_members t h a = tt

  -- the name of a parameter that has one, or else its first token
  placed_name : (begins : ℕ) (t : Tree) → grammar.Fits (grammar.One (class.Opt l.ParamName)) t → P begins → AllAt P t → P (param_offset begins t)
  unfolding grammar.Fits grammar.allowed grammar.symbols_of grammar.rule grammar.optional class.includes class.same_nonterminal class.nonterminal_number class.optional_number
  placed_name begins (Node (l.Present l.ParamName) (Cons (Leaf name) none)) h p a = a.0
  placed_name begins (Node (l.Present l.ParamName) children) h p a = absurd (assumption)
  placed_name begins (Node (l.Present k) children) h p a = absurd (false≢true h.0)
  placed_name begins t h p a = p

  placed_param : (t : Tree) → grammar.Fits (grammar.One class.Param) t → AllAt P t → PlacedParam t
  unfolding grammar.Fits grammar.symbols_of grammar.rule
  placed_param (Node l.Param (Cons qualifier (Cons specifier (Cons stars (Cons name (Cons bounds none)))))) h a = (
    placed_name (begin_of (Cons qualifier (Cons specifier Nil))) name h.2.1.1.1.0 (begins_after P class.Spec qualifier specifier refl h.2.1.0 a.0 a.1.0) a.1.1.1.0,
    placed P (grammar.One class.Spec) specifier h.2.1.0 a.1.0,
    placed_bounds P bounds h.2.1.1.1.1.0 a.1.1.1.1.0,
  )
  placed_param t h a = tt

  placed_more_params : (t : Tree) → grammar.Fits (grammar.One (class.Many l.MoreParams)) t → AllAt P t → PlacedMoreParams t
  unfolding grammar.Fits grammar.allowed grammar.symbols_of grammar.rule grammar.repeated class.includes class.same_nonterminal class.nonterminal_number class.repeated_number
  placed_more_params (Node (l.More l.MoreParams) (Cons before (Cons (Leaf comma) (Cons t none)))) h a = (placed_more_params before h.2.0 a.0, placed_param t h.2.1.1.0 a.1.1.0)
  placed_more_params (Node (l.More l.MoreParams) (Cons before (Cons comma (Cons t none)))) h a = absurd (assumption)
  placed_more_params (Node (l.More l.MoreParams) children) h a = tt
  placed_more_params (Node (l.More k) children) h a = absurd (false≢true h.0)
  placed_more_params t h a = tt

  placed_params : (t : Tree) → grammar.Fits (grammar.One (class.Opt l.Params)) t → AllAt P t → PlacedParams t
  unfolding grammar.Fits grammar.allowed grammar.symbols_of grammar.rule grammar.optional class.includes class.same_nonterminal class.nonterminal_number class.optional_number
  placed_params (Node (l.Present l.Params) (Cons first (Cons more none))) h a = (placed_param first h.2.0 a.0, placed_more_params more h.2.1.0 a.1.0)
  placed_params (Node (l.Present l.Params) children) h a = tt
  placed_params (Node (l.Present k) children) h a = absurd (false≢true h.0)
  placed_params t h a = tt

  placed_body : (t : Tree) → grammar.Fits (grammar.One class.Body) t → AllAt P t → PlacedBody t
  unfolding grammar.Fits grammar.symbols_of grammar.rule
  placed_body (Node l.Block (Cons (Leaf opening) (Cons xs (Cons closing none)))) h a = placed_items P xs h.2.1.0 a.1.0
  placed_body (Node l.Block (Cons opening (Cons xs (Cons closing none)))) h a = absurd (assumption)
  placed_body t h a = tt

  placed_after_name : (t : Tree) → grammar.Fits (grammar.One class.AfterName) t → AllAt P t → PlacedAfterName t
  unfolding grammar.Fits grammar.symbols_of grammar.rule
  placed_after_name (Node l.Function (Cons (Leaf opening) (Cons xs (Cons (Leaf closing) (Cons body none))))) h a = (placed_params xs h.2.1.0 a.1.0, placed_body body h.2.1.1.1.0 a.1.1.1.0)
  placed_after_name (Node l.Function (Cons opening (Cons xs (Cons closing (Cons body none))))) h a = absurd (assumption)
  placed_after_name (Node l.Globals (Cons bounds (Cons begun (Cons more none)))) h a =
      (placed_bounds P bounds h.2.0 a.0, placed_begun P begun h.2.1.0 a.1.0, placed_decls P more h.2.1.1.0 a.1.1.0)
  placed_after_name t h a = tt

  placed_after_type : (c : class.Nonterminal) (t : Tree) → grammar.Fits (grammar.One c) t → AllAt P t → PlacedAfterType t
  unfolding grammar.Fits grammar.symbols_of grammar.rule
  placed_after_type c (Node l.Declared (Cons stars (Cons (Leaf name) (Cons rest none)))) h a = (a.1.0, placed_after_name rest h.2.1.1.0 a.1.1.0)
  placed_after_type c (Node l.Declared (Cons stars (Cons name (Cons rest none)))) h a = absurd (assumption)
  placed_after_type c t h a = tt

  placed_after_tag : (t : Tree) → grammar.Fits (grammar.One class.AfterTag) t → AllAt P t → PlacedAfterTag t
  unfolding grammar.Fits grammar.symbols_of grammar.rule
  placed_after_tag (Node l.Declared children) h a = placed_after_type class.AfterTag (Node l.Declared children) h a
  placed_after_tag (Node l.StructMembers (Cons (Leaf opening) (Cons first (Cons more none)))) h a = (placed_members first h.2.1.0 a.1.0, placed_more_members more h.2.1.1.0 a.1.1.0)
  placed_after_tag (Node l.StructMembers (Cons opening (Cons first (Cons more none)))) h a = absurd (assumption)
  placed_after_tag t h a = tt

  pub placed_external : (t : Tree) → grammar.Fits (grammar.One class.External) t → AllAt P t → PlacedExternal t
  unfolding grammar.Fits grammar.symbols_of grammar.rule
  placed_external (Node l.Static (Cons (Leaf word) (Cons qualifier (Cons specifier (Cons rest none))))) h a =
      (placed P (grammar.One class.Spec) specifier h.2.1.1.0 a.1.1.0, placed_after_type class.AfterType rest h.2.1.1.1.0 a.1.1.1.0)
  placed_external (Node l.Static (Cons word (Cons qualifier (Cons specifier (Cons rest none))))) h a = absurd (assumption)
  placed_external (Node l.Const (Cons (Leaf word) (Cons specifier (Cons rest none)))) h a =
      (placed P (grammar.One class.Spec) specifier h.2.1.0 a.1.0, placed_after_type class.AfterType rest h.2.1.1.0 a.1.1.0)
  placed_external (Node l.Const (Cons word (Cons specifier (Cons rest none)))) h a = absurd (assumption)
  placed_external (Node l.Plain (Cons specifier (Cons rest none))) h a =
      (placed P (grammar.One class.PlainSpec) specifier h.2.0 a.0, placed_after_type class.AfterType rest h.2.1.0 a.1.0)
  placed_external (Node l.Struct (Cons (Leaf word) (Cons (Leaf tag) (Cons rest none)))) h a = (a.1.0, placed_after_tag rest h.2.1.1.0 a.1.1.0)
  placed_external (Node l.Struct (Cons word (Cons tag (Cons rest none)))) h a = absurd (assumption)
  placed_external t h a = tt

  pub placed_externals : (t : Tree) → grammar.Fits (grammar.One (class.Many l.Externals)) t → AllAt P t → PlacedExternals t
  unfolding grammar.Fits grammar.allowed grammar.symbols_of grammar.rule grammar.repeated class.includes class.same_nonterminal class.nonterminal_number class.repeated_number
  placed_externals (Node (l.More l.Externals) (Cons before (Cons t none))) h a = (placed_externals before h.2.0 a.0, placed_external t h.2.1.0 a.1.0)
  placed_externals (Node (l.More l.Externals) children) h a = tt
  placed_externals (Node (l.More k) children) h a = absurd (false≢true h.0)
  placed_externals t h a = tt
