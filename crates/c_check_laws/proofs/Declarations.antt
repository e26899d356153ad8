-- Where the rules are broken that declarations of variables break, with their initialisers.
use Rattle.std.proofs.Common.{ℕ, ◌+◌, Bool, true, false, List, [], ◌++◌, refl}
use Rattle.std.specs.Prelude.{Option, None, Some, option_and_then, if◌then◌else◌}
use Rattle.std.proofs.lemmas.Bool.{false≢true}
use Rattle.c_ast.specs.Productions as l
use Rattle.c_ast.specs.Nonterminals as class
use Rattle.c_ast.specs.Tree.{Tree, Leaf, Node, Cons}
use Rattle.c_ast.specs.Grammar as grammar
use Rattle.c_typed.specs.Typed as typed
use Rattle.c_check_scope.specs.Scopes.{Name}
use Rattle.c_check_def.specs.declared.meaning.Meaning.TheVariants as means
use Rattle.c_check_def.specs.State.{MaybeType, State, pure, if_some, declare, add_variable, add_global, change_global}
use Rattle.c_check_def.specs.Leaves.{offset_of, begin_of, name_of, characters_of, count_of, is_present}
use Rattle.c_check_def.specs.Specifiers.{Specified, specified_type}
use Rattle.c_check_def.specs.DeclaredTypes.{object_type, small_type}
use Rattle.c_check_def.specs.Expressions.{more_characters, expression}
use Rattle.c_check_def.specs.Initialisers.{value, character_array, string_for, sets_to_zero, count_in, part_of, part_at, list_for, initialiser, elements, completed}
use Rattle.c_check_def.specs.Declarators.{open_dimension, open_dimensions, is_fixed, completed_type, initialise_global, global_declarator, global_declared, more_globals, initialise_variable, variable_declarator, declarator, more_declarators, locals}
use Rattle.c_check_laws.proofs.TreePlaces.{AllAt, begins}
use Rattle.c_check_laws.proofs.Inside.{Within, within_same, within_nothing, within_then, TagWithin, if_some_inside, small_type_inside, object_type_inside, size_inside, value_read_inside, characters_inside, list_for_inside, declare_inside}
use Rattle.c_check_laws.proofs.Expressions.{Placed, placed, specified_within, specified_inside, expression_inside}

module _ (P : ℕ → Type 0) where
  -- ---- what the checker reads the offsets of

  abbrev mutual
    pub PlacedInit : Tree → Type 0
    PlacedInit (Node l.InitList (Cons opening (Cons items closing))) = P (offset_of opening) × PlacedElements items
    PlacedInit x = P (begin_of x) × Placed P x

    PlacedElements : Tree → Type 0
    PlacedElements (Node l.InitFirst (Cons x none)) = PlacedInit x
    PlacedElements (Node l.InitComma (Cons before more)) = PlacedElements before
    PlacedElements (Node l.InitNext (Cons before (Cons x none))) = PlacedElements before × PlacedInit x
    PlacedElements t = Unit {0}

  -- what a variable begins with
  abbrev pub PlacedBegun : Tree → Type 0
  PlacedBegun (Node (l.Present o) (Cons equal (Cons x none))) = PlacedInit x
  PlacedBegun t = Unit {0}

  abbrev pub PlacedSize : Tree → Type 0
  PlacedSize (Node (l.Present k) (Cons bound none)) = P (begin_of bound) × Placed P bound
  PlacedSize t = Unit {0}

  -- dimensions, of which the first may be left empty
  abbrev pub PlacedBounds : Tree → Type 0
  PlacedBounds (Node (l.More k) (Cons before (Cons opening (Cons bound none)))) = PlacedBounds before × PlacedSize bound
  PlacedBounds t = Unit {0}

  abbrev pub PlacedDecl : Tree → Type 0
  PlacedDecl (Node l.Decl (Cons stars (Cons name (Cons bounds (Cons begun none))))) = P (offset_of name) × PlacedBounds bounds × PlacedBegun begun
  PlacedDecl t = Unit {0}

  abbrev pub PlacedDecls : Tree → Type 0
  PlacedDecls (Node (l.More k) (Cons before (Cons comma (Cons t none)))) = PlacedDecls before × PlacedDecl t
  PlacedDecls t = Unit {0}

  abbrev pub PlacedLocals : Tree → Type 0
  PlacedLocals (Node l.Locals (Cons qualifier (Cons specifier (Cons first (Cons more none))))) = Placed P specifier × PlacedDecl first × PlacedDecls more
  PlacedLocals t = Unit {0}

  -- ---- initialisers

  value_inside : (is_static : Bool) (t : MaybeType) (n : ℕ) (x : Tree) (s : State) → P (begin_of x) → Placed P x → Within P s (value is_static t n x s).1
  value_inside is_static t n x s p r = let a = expression x s in within_then P s a.1 _ (expression_inside P x s r) (value_read_inside P is_static t n (begin_of x) a.0 p a.1)

  string_for_inside : (is_static : Bool) (t : MaybeType) (n : ℕ) (x : Tree) (cs : List ℕ) (m : Option ℕ) (s : State) → P (begin_of x) → Placed P x →
      Within P s (string_for is_static t n x cs m s).1
  string_for_inside is_static t n x cs None s p r = value_inside is_static t n x s p r
  string_for_inside is_static t n x cs (Some m) s p r = characters_inside P n (begin_of x) cs m p s

  mutual
    pub initialiser_inside : (is_static : Bool) (t : MaybeType) (n : ℕ) (x : Tree) (s : State) → PlacedInit x → Within P s (initialiser is_static t n x s).1
    initialiser_inside is_static t n (Node l.InitList (Cons opening (Cons items closing))) s r =
        by_test (sets_to_zero t items) (elements_inside is_static t n items s r.1)
      where
        by_test : (b : Bool) → Within P s (elements is_static t n items s).1 →
            Within P s ((if b then pure (Some typed.no_elements) else (λ s. (if_some (elements is_static t n items s).0 (list_for t (offset_of opening) (count_in items))
            (elements is_static t n items s).1))) s).1
        by_test true h = within_nothing P s
        by_test false h =
            let q = elements is_static t n items s in
            within_then P s q.1 _ h (if_some_inside P q.0 (list_for t (offset_of opening) (count_in items)) (λ es. list_for_inside P t (offset_of opening) (count_in items) es r.0) q.1)
    initialiser_inside is_static t n (Node l.Text (Cons x (Cons xs none))) s r =
        string_for_inside is_static t n (Node l.Text (Cons x (Cons xs none))) (characters_of x ++ more_characters xs) (option_and_then character_array t) s r.0 r.1
    initialiser_inside is_static t n x s r = value_inside is_static t n x s r.0 r.1

    elements_inside : (is_static : Bool) (t : MaybeType) (n : ℕ) (x : Tree) (s : State) → PlacedElements x → Within P s (elements is_static t n x s).1
    elements_inside is_static t n (Node l.InitFirst (Cons x none)) s r = initialiser_inside is_static (part_of s.structs t 0) (n + part_at s.structs t 0) x s r
    elements_inside is_static t n (Node l.InitComma (Cons before more)) s r = elements_inside is_static t n before s r
    elements_inside is_static t n (Node l.InitNext (Cons before (Cons x none))) s r =
        let xs = elements is_static t n before s in
        within_then P s xs.1 _ (elements_inside is_static t n before s r.0)
        (initialiser_inside is_static (part_of xs.1.structs t (count_in before)) (n + part_at xs.1.structs t (count_in before)) x xs.1 r.1)
    elements_inside is_static t n x s r = within_nothing P s

  -- ---- declarators

  open_dimension_inside : (t : Tree) (s : State) → PlacedSize t → Within P s (open_dimension t s).1
  open_dimension_inside (Node (l.Present k) (Cons bound none)) s r =
      let a = expression bound s in within_then P s a.1 _ (expression_inside P bound s r.1) (size_inside P (begin_of bound) a.0 r.0 a.1)
  open_dimension_inside t s r = within_nothing P s

  pub open_dimensions_inside : (t : Tree) (s : State) → PlacedBounds t → Within P s (open_dimensions t s).1
  open_dimensions_inside (Node (l.More k) (Cons before (Cons opening (Cons bound none)))) s r =
      let ds = open_dimensions before s in within_then P s ds.1 _ (open_dimensions_inside before s r.0) (open_dimension_inside bound ds.1 r.1)
  open_dimensions_inside t s r = within_nothing P s

  completed_type_inside : (offset : ℕ) (x : Tree) (t : MaybeType) (s : State) → P offset → Within P s (completed_type offset x t s).1
  completed_type_inside offset x t s p = if_some_inside P (option_and_then (completed x) t) (small_type offset) (λ u. small_type_inside P offset u p) s

  initialise_global_inside : (k offset : ℕ) (t : MaybeType) (x : Tree) (s : State) → P offset → PlacedBegun x → Within P s (initialise_global k offset t x s).1
  initialise_global_inside k offset t (Node (l.Present o) (Cons equal (Cons x none))) s p r =
      let es = initialiser true (option_and_then (completed x) t) 0 x s in
      let u = completed_type offset x t es.1 in
      within_then P s es.1 _ (initialiser_inside true (option_and_then (completed x) t) 0 x s r) (within_then P es.1 u.1 _ (completed_type_inside offset x t es.1 p) (within_same P u.1 _ refl))
  initialise_global_inside k offset t x s p r = within_nothing P s

  pub global_declarator_inside : (x : Specified) (is_const : Bool) (stars : ℕ) (name : Name) (offset : ℕ) (bounds begun : Tree) (s : State) → P offset → TagWithin P x → PlacedBounds bounds →
      PlacedBegun begun → Within P s (global_declarator x is_const stars name offset bounds begun s).1
  global_declarator_inside x is_const stars name offset bounds begun s p q b i =
      let k = add_global (record { offset = offset; type = None; is_variable = true; fixed = is_fixed is_const stars; written = [] }) s in
      let ds = open_dimensions bounds k.1 in
      let t = object_type (is_present begun) offset x stars ds.0 ds.1 in
      let g = change_global k.0 (λ g. record g { type = t.0 }) t.1 in
      let d = declare name offset (means.Global k.0 (is_fixed is_const stars)) g.1 in
      within_then P s k.1 _ (within_same P s k.1 refl)
      (within_then P k.1 ds.1 _ (open_dimensions_inside bounds k.1 b)
      (within_then P ds.1 t.1 _ (object_type_inside P (is_present begun) offset x stars ds.0 p q ds.1)
      (within_then P t.1 g.1 _ (within_same P t.1 g.1 refl)
      (within_then P g.1 d.1 _ (declare_inside P name offset (means.Global k.0 (is_fixed is_const stars)) p g.1) (initialise_global_inside k.0 offset t.0 begun d.1 p i)))))

  global_declared_inside : (x : Specified) (is_const : Bool) (t : Tree) (s : State) → TagWithin P x → PlacedDecl t → Within P s (global_declared x is_const t s).1
  global_declared_inside x is_const (Node l.Decl (Cons stars (Cons name (Cons bounds (Cons begun none))))) s q r =
      global_declarator_inside x is_const (count_of stars) (name_of name) (offset_of name) bounds begun s r.0 q r.1 r.2
  global_declared_inside x is_const t s q r = within_nothing P s

  pub more_globals_inside : (x : Specified) (is_const : Bool) (t : Tree) (s : State) → TagWithin P x → PlacedDecls t → Within P s (more_globals x is_const t s).1
  more_globals_inside x is_const (Node (l.More k) (Cons before (Cons comma (Cons t none)))) s q r =
      let b = more_globals x is_const before s in within_then P s b.1 _ (more_globals_inside x is_const before s q r.0) (global_declared_inside x is_const t b.1 q r.1)
  more_globals_inside x is_const t s q r = within_nothing P s

  initialise_variable_inside : (slot offset : ℕ) (t : MaybeType) (x : Tree) (s : State) → P offset → PlacedBegun x → Within P s (initialise_variable slot offset t x s).1
  initialise_variable_inside slot offset t (Node (l.Present o) (Cons equal (Cons x none))) s p r =
      let es = initialiser false (option_and_then (completed x) t) 0 x s in
      let u = completed_type offset x t es.1 in
      within_then P s es.1 _ (initialiser_inside false (option_and_then (completed x) t) 0 x s r) (within_then P es.1 u.1 _ (completed_type_inside offset x t es.1 p) (within_same P u.1 _ refl))
  initialise_variable_inside slot offset t x s p r = within_nothing P s

  variable_declarator_inside : (x : Specified) (is_const : Bool) (stars : ℕ) (name : Name) (offset : ℕ) (bounds begun : Tree) (s : State) → P offset → TagWithin P x → PlacedBounds bounds →
      PlacedBegun begun → Within P s (variable_declarator x is_const stars name offset bounds begun s).1
  variable_declarator_inside x is_const stars name offset bounds begun s p q b i =
      let ds = open_dimensions bounds s in
      let t = object_type (is_present begun) offset x stars ds.0 ds.1 in
      let slot = add_variable t.0 t.1 in
      let d = declare name offset (means.Variable slot.0 (is_fixed is_const stars)) slot.1 in
      within_then P s ds.1 _ (open_dimensions_inside bounds s b)
      (within_then P ds.1 t.1 _ (object_type_inside P (is_present begun) offset x stars ds.0 p q ds.1)
      (within_then P t.1 slot.1 _ (within_same P t.1 slot.1 refl)
      (within_then P slot.1 d.1 _ (declare_inside P name offset (means.Variable slot.0 (is_fixed is_const stars)) p slot.1) (initialise_variable_inside slot.0 offset t.0 begun d.1 p i))))

  declarator_inside : (x : Specified) (is_const : Bool) (t : Tree) (s : State) → TagWithin P x → PlacedDecl t → Within P s (declarator x is_const t s).1
  declarator_inside x is_const (Node l.Decl (Cons stars (Cons name (Cons bounds (Cons begun none))))) s q r =
      variable_declarator_inside x is_const (count_of stars) (name_of name) (offset_of name) bounds begun s r.0 q r.1 r.2
  declarator_inside x is_const t s q r = within_nothing P s

  more_declarators_inside : (x : Specified) (is_const : Bool) (t : Tree) (s : State) → TagWithin P x → PlacedDecls t → Within P s (more_declarators x is_const t s).1
  more_declarators_inside x is_const (Node (l.More k) (Cons before (Cons comma (Cons t none)))) s q r =
      let b = more_declarators x is_const before s in within_then P s b.1 _ (more_declarators_inside x is_const before s q r.0) (declarator_inside x is_const t b.1 q r.1)
  more_declarators_inside x is_const t s q r = within_nothing P s

  pub locals_inside : (t : Tree) (s : State) → PlacedLocals t → Within P s (locals t s).1
  locals_inside (Node l.Locals (Cons qualifier (Cons specifier (Cons first (Cons more none))))) s r =
      let x = specified_type specifier s in
      let d = declarator x.0 (is_present qualifier) first x.1 in
      let q = specified_within P specifier s r.0 in
      within_then P s x.1 _ (specified_inside P specifier s)
      (within_then P x.1 d.1 _ (declarator_inside x.0 (is_present qualifier) first x.1 q r.1) (more_declarators_inside x.0 (is_present qualifier) more d.1 q r.2))
  locals_inside t s r = within_nothing P s

  -- ---- what the grammar says of these places

  -- an initialiser is a list, or an expression, which has a token
  expression_first : (t : Tree) → grammar.Fits (grammar.One class.Init) t → AllAt P t → P (begin_of t) × Placed P t
  expression_first t h a = (begins P class.Init t refl h a, placed P (grammar.One class.Init) t h a)

  mutual
    unfolding grammar.Fits grammar.symbols_of grammar.rule

    pub placed_init : (t : Tree) → grammar.Fits (grammar.One class.Init) t → AllAt P t → PlacedInit t
    placed_init (Node l.InitList (Cons (Leaf opening) (Cons items closing))) h a = (a.0, placed_elements class.InitItems items h.2.1.0 a.1.0)
    placed_init (Node l.InitList (Cons opening (Cons items closing))) h a = absurd (assumption)
    placed_init t h a = expression_first t h a

    placed_elements : (c : class.Nonterminal) (t : Tree) → grammar.Fits (grammar.One c) t → AllAt P t → PlacedElements t
    placed_elements c (Node l.InitFirst (Cons x none)) h a = placed_init x h.2.0 a.0
    placed_elements c (Node l.InitComma (Cons before more)) h a = placed_elements class.InitEnded before h.2.0 a.0
    placed_elements c (Node l.InitNext (Cons before (Cons x none))) h a = (placed_elements class.InitOpen before h.2.0 a.0, placed_init x h.2.1.0 a.1.0)
    placed_elements c t h a = tt

  pub placed_begun : (t : Tree) → grammar.Fits (grammar.One (class.Opt l.Initialiser)) t → AllAt P t → PlacedBegun t
  unfolding grammar.Fits grammar.allowed grammar.symbols_of grammar.rule grammar.optional class.includes class.same_nonterminal class.nonterminal_number class.optional_number
  placed_begun (Node (l.Present l.Initialiser) (Cons (Leaf equal) (Cons x none))) h a = placed_init x h.2.1.0 a.1.0
  placed_begun (Node (l.Present l.Initialiser) (Cons equal (Cons x none))) h a = absurd (assumption)
  placed_begun (Node (l.Present l.Initialiser) children) h a = tt
  placed_begun (Node (l.Present k) children) h a = absurd (false≢true h.0)
  placed_begun t h a = tt

  placed_size : (t : Tree) → grammar.Fits (grammar.One (class.Opt l.Size)) t → AllAt P t → PlacedSize t
  unfolding grammar.Fits grammar.allowed grammar.symbols_of grammar.rule grammar.optional class.includes class.same_nonterminal class.nonterminal_number class.optional_number
  placed_size (Node (l.Present l.Size) (Cons bound none)) h a = (begins P class.Cond bound refl h.2.0 a.0, placed P (grammar.One class.Cond) bound h.2.0 a.0)
  placed_size (Node (l.Present l.Size) children) h a = tt
  placed_size (Node (l.Present k) children) h a = absurd (false≢true h.0)
  placed_size t h a = tt

  pub placed_bounds : (t : Tree) → grammar.Fits (grammar.One (class.Many l.OpenDimensions)) t → AllAt P t → PlacedBounds t
  unfolding grammar.Fits grammar.allowed grammar.symbols_of grammar.rule grammar.repeated class.includes class.same_nonterminal class.nonterminal_number class.repeated_number
  placed_bounds (Node (l.More l.OpenDimensions) (Cons before (Cons (Leaf opening) (Cons bound none)))) h a = (placed_bounds before h.2.0 a.0, placed_size bound h.2.1.1.0 a.1.1.0)
  placed_bounds (Node (l.More l.OpenDimensions) (Cons before (Cons opening (Cons bound none)))) h a = absurd (assumption)
  placed_bounds (Node (l.More l.OpenDimensions) children) h a = tt
  placed_bounds (Node (l.More k) children) h a = absurd (false≢true h.0)
  placed_bounds t h a = tt

  pub placed_decl : (t : Tree) → grammar.Fits (grammar.One class.Decl) t → AllAt P t → PlacedDecl t
  unfolding grammar.Fits grammar.symbols_of grammar.rule
  placed_decl (Node l.Decl (Cons stars (Cons (Leaf name) (Cons bounds (Cons begun none))))) h a = (a.1.0, placed_bounds bounds h.2.1.1.0 a.1.1.0, placed_begun begun h.2.1.1.1.0 a.1.1.1.0)
  placed_decl (Node l.Decl (Cons stars (Cons name (Cons bounds (Cons begun none))))) h a = absurd (assumption)
  placed_decl t h a = tt

  pub placed_decls : (t : Tree) → grammar.Fits (grammar.One (class.Many l.MoreDecls)) t → AllAt P t → PlacedDecls t
  unfolding grammar.Fits grammar.allowed grammar.symbols_of grammar.rule grammar.repeated class.includes class.same_nonterminal class.nonterminal_number class.repeated_number
  placed_decls (Node (l.More l.MoreDecls) (Cons before (Cons (Leaf comma) (Cons t none)))) h a = (placed_decls before h.2.0 a.0, placed_decl t h.2.1.1.0 a.1.1.0)
  placed_decls (Node (l.More l.MoreDecls) (Cons before (Cons comma (Cons t none)))) h a = absurd (assumption)
  placed_decls (Node (l.More l.MoreDecls) children) h a = tt
  placed_decls (Node (l.More k) children) h a = absurd (false≢true h.0)
  placed_decls t h a = tt

  pub placed_locals : (c : class.Nonterminal) (t : Tree) → grammar.Fits (grammar.One c) t → AllAt P t → PlacedLocals t
  unfolding grammar.Fits grammar.symbols_of grammar.rule
  placed_locals c (Node l.Locals (Cons qualifier (Cons specifier (Cons first (Cons more none))))) h a =
      (placed P (grammar.One class.Spec) specifier h.2.1.0 a.1.0, placed_decl first h.2.1.1.0 a.1.1.0, placed_decls more h.2.1.1.1.0 a.1.1.1.0)
  placed_locals c t h a = tt
