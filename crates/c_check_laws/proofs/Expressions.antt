-- Where the rules are broken that an expression breaks.
use Rattle.std.proofs.Common.{◌≡◌, ℕ, Bool, true, false, [], ◌∷◌, refl, subst}
use Rattle.std.specs.Prelude.{is_some, Option, None, Some, option_map, if◌then◌else◌}
use Rattle.std.proofs.lemmas.Bool.{false≢true}
use Rattle.c_ast.specs.Productions as l
use Rattle.c_ast.specs.Nonterminals as class
use Rattle.c_ast.specs.Tree.{Tree, Leaf, Node, Nil, Cons}
use Rattle.c_ast.specs.Grammar as grammar
use Rattle.c_check_def.specs.OperandValues.{operand_type}
use Rattle.c_check_scope.specs.Scopes.{Name}
use Rattle.c_check_scope.specs.Tags.{declared_tag}
use Rattle.c_check_def.specs.State.{State}
use Rattle.c_check_def.specs.Leaves.{offset_of, begin_of, name_of, selection_op_of, inc_dec_op_of, unary_op_of, binary_op_of, assign_op_of, count_of}
use Rattle.c_check_def.specs.Specifiers.{specified_type, tagged}
use Rattle.c_check_def.specs.Operands.{Sequence, first_of}
use Rattle.c_check_def.specs.Calls.{called_name, called_term}
use Rattle.c_check_def.specs.Expressions.{expression, expressions, more_expressions, arguments, more_arguments, type_name, dimensions}
use Rattle.c_check_laws.proofs.TreePlaces.{AllAt, begins, begins_after}
use Rattle.c_check_laws.proofs.Inside.{Within, within_same, within_nothing, within_then, TagWithin, named_inside, binary_inside, conditional_inside, indexed_inside, cast_inside, measured_inside, unary_inside, stepped_inside, assigned_inside, selected_inside, comma_inside, called_name_inside, called_inside, named_type_inside, size_inside}

module _ (P : ℕ → Type 0) where
  -- ---- what the checker reads the offsets of stands at such an offset

  abbrev mutual
    pub Placed : Tree → Type 0
    Placed (Node l.Name (Cons x more)) = P (offset_of x)
    Placed (Node l.Index (Cons array (Cons opening (Cons index more)))) = Placed array × P (offset_of opening) × Placed index
    Placed (Node l.Call (Cons function (Cons opening (Cons xs more)))) = Placed function × P (offset_of opening) × Placed xs
    Placed (Node l.Dot (Cons object (Cons o (Cons x more)))) = Placed object × P (offset_of o) × P (offset_of x)
    Placed (Node l.Arrow (Cons object (Cons o (Cons x more)))) = Placed object × P (offset_of o) × P (offset_of x)
    Placed (Node l.PostIncrement (Cons operand (Cons o more))) = Placed operand × P (offset_of o)
    Placed (Node l.Increment (Cons o (Cons operand more))) = P (offset_of o) × Placed operand
    Placed (Node l.Unary (Cons o (Cons operand more))) = P (offset_of o) × Placed operand
    Placed (Node l.Sizeof (Cons word (Cons operand more))) = P (offset_of word) × Placed operand
    Placed (Node l.Cast (Cons opening (Cons target (Cons closing (Cons operand more))))) = P (offset_of opening) × Placed target × Placed operand
    Placed (Node (l.Binary level) (Cons left (Cons o (Cons right more)))) = Placed left × P (offset_of o) × Placed right
    Placed (Node l.Conditional (Cons condition (Cons question (Cons middle (Cons colon (Cons otherwise more)))))) =
        Placed condition × P (offset_of question) × Placed middle × Placed otherwise
    Placed (Node l.Assignment (Cons target (Cons o (Cons value more)))) = Placed target × P (offset_of o) × Placed value
    Placed (Node l.Expr (Cons first (Cons more none))) = Placed first × PlacedMore more
    Placed (Node l.TypeName (Cons qualifier (Cons specifier (Cons stars (Cons sizes none))))) =
        P (begin_of (Cons qualifier (Cons specifier Nil))) × Placed specifier × PlacedSizes sizes
    Placed (Node l.StructTag (Cons word (Cons tag more))) = P (offset_of tag)
    Placed (Node p children) = Placed children
    Placed (Cons t ts) = Placed t × Placed ts
    Placed t = Unit {0}

    -- the operands after commas
    pub PlacedMore : Tree → Type 0
    PlacedMore (Node (l.More k) (Cons before (Cons o (Cons element none)))) = PlacedMore before × P (offset_of o) × Placed element
    PlacedMore t = Unit {0}

    -- sizes in brackets
    pub PlacedSizes : Tree → Type 0
    PlacedSizes (Node (l.More k) (Cons before (Cons opening (Cons bound none)))) = PlacedSizes before × P (begin_of bound) × Placed bound
    PlacedSizes t = Unit {0}

  -- ---- specifiers

  tag_within : (declared : Bool) (offset o : ℕ) → P offset → (if declared then None else Some offset) ≡ Some o → P o
  tag_within true offset o p e = absurd (cc)
  tag_within false offset o p e = let same : offset ≡ o = cc in let Q : ℕ → Type 0 = P in subst Q same p

  pub tagged_within : (name : Name) (offset : ℕ) (s : State) → P offset → TagWithin P (tagged name offset s).0
  tagged_within name offset s p = λ o e. tag_within (is_some (declared_tag s.tags name)) offset o p e

  pub specified_within : (t : Tree) (s : State) → Placed t → TagWithin P (specified_type t s).0
  specified_within (Node l.StructTag (Cons word (Cons tag more))) s r = tagged_within (name_of tag) (offset_of tag) s r
  specified_within (Node l.Void children) s r = λ o e. absurd (cc)
  specified_within (Node l.Signed (Cons sign (Cons base more))) s r = λ o e. absurd (cc)
  specified_within t s r = λ o e. absurd (cc)

  pub specified_inside : (t : Tree) (s : State) → Within P s (specified_type t s).1
  specified_inside (Node l.StructTag (Cons word (Cons tag more))) s = within_same P s _ refl
  specified_inside (Node l.Signed (Cons sign (Cons base more))) s = within_nothing P s
  specified_inside t s = within_nothing P s

  -- ---- expressions

  mutual
    pub expression_inside : (t : Tree) (s : State) → Placed t → Within P s (expression t s).1
    expression_inside (Node l.Name (Cons x more)) s r = named_inside P (name_of x) (offset_of x) r s
    expression_inside (Node l.Number (Cons x more)) s r = within_nothing P s
    expression_inside (Node l.Character (Cons x more)) s r = within_nothing P s
    expression_inside (Node l.Text (Cons x (Cons xs more))) s r = within_same P s _ refl
    expression_inside (Node l.Paren (Cons opening (Cons inner more))) s r = expressions_inside inner s r.1.0
    expression_inside (Node l.Index (Cons array (Cons opening (Cons index more)))) s r =
        let a = expression array s in
        let i = expressions index a.1 in
        within_then P s a.1 _ (expression_inside array s r.0) (within_then P a.1 i.1 _ (expressions_inside index a.1 r.2) (indexed_inside P (offset_of opening) a.0 i.0 r.1 i.1))
    expression_inside (Node l.Call (Cons (Node l.Name (Cons x none)) (Cons opening (Cons xs more)))) s r =
        let f = called_name (name_of x) (offset_of x) s in
        let es = arguments xs f.1 in
        within_then P s f.1 _ (called_name_inside P (name_of x) (offset_of x) r.0 s)
        (within_then P f.1 es.1 _ (arguments_inside xs f.1 r.2) (called_inside P (offset_of opening) f.0 es.0 r.1 es.1))
    expression_inside (Node l.Call (Cons function (Cons opening (Cons xs more)))) s r =
        let f = expression function s in
        let es = arguments xs f.1 in
        within_then P s f.1 _ (expression_inside function s r.0) (within_then P f.1 es.1 _ (arguments_inside xs f.1 r.2) (called_inside P (offset_of opening) (called_term f.0) es.0 r.1 es.1))
    expression_inside (Node l.Dot (Cons object (Cons o (Cons x more)))) s r =
        let a = expression object s in
        within_then P s a.1 _ (expression_inside object s r.0) (selected_inside P (selection_op_of o) (offset_of o) (name_of x) (offset_of x) a.0 r.1 r.2 a.1)
    expression_inside (Node l.Arrow (Cons object (Cons o (Cons x more)))) s r =
        let a = expression object s in
        within_then P s a.1 _ (expression_inside object s r.0) (selected_inside P (selection_op_of o) (offset_of o) (name_of x) (offset_of x) a.0 r.1 r.2 a.1)
    expression_inside (Node l.PostIncrement (Cons operand (Cons o more))) s r =
        let a = expression operand s in within_then P s a.1 _ (expression_inside operand s r.0) (stepped_inside P (inc_dec_op_of o) (offset_of o) true a.0 r.1 a.1)
    expression_inside (Node l.Increment (Cons o (Cons operand more))) s r =
        let a = expression operand s in within_then P s a.1 _ (expression_inside operand s r.1) (stepped_inside P (inc_dec_op_of o) (offset_of o) false a.0 r.0 a.1)
    expression_inside (Node l.Unary (Cons o (Cons operand more))) s r =
        let a = expression operand s in within_then P s a.1 _ (expression_inside operand s r.1) (unary_inside P (unary_op_of o) (offset_of o) a.0 r.0 a.1)
    expression_inside (Node l.Sizeof (Cons word (Cons (Node l.SizeofType (Cons opening (Cons operand none))) more))) s r =
        let t = type_name operand s in within_then P s t.1 _ (type_name_inside operand s r.1.1.0) (measured_inside P (offset_of word) t.0 r.0 t.1)
    expression_inside (Node l.Sizeof (Cons word (Cons operand more))) s r =
        let a = expression operand s in within_then P s a.1 _ (expression_inside operand s r.1) (measured_inside P (offset_of word) (option_map operand_type a.0) r.0 a.1)
    expression_inside (Node l.Cast (Cons opening (Cons target (Cons closing (Cons operand more))))) s r =
        let t = type_name target s in
        let a = expression operand t.1 in
        within_then P s t.1 _ (type_name_inside target s r.1) (within_then P t.1 a.1 _ (expression_inside operand t.1 r.2) (cast_inside P (offset_of opening) t.0 a.0 r.0 a.1))
    expression_inside (Node (l.Binary level) (Cons left (Cons o (Cons right more)))) s r =
        let a = expression left s in
        let b = expression right a.1 in
        within_then P s a.1 _ (expression_inside left s r.0) (within_then P a.1 b.1 _ (expression_inside right a.1 r.2) (binary_inside P (binary_op_of o) (offset_of o) a.0 b.0 r.1 b.1))
    expression_inside (Node l.Conditional (Cons condition (Cons question (Cons middle (Cons colon (Cons otherwise more)))))) s r =
        let c = expression condition s in
        let a = expressions middle c.1 in
        let b = expression otherwise a.1 in
        within_then P s c.1 _ (expression_inside condition s r.0) (within_then P c.1 a.1 _ (expressions_inside middle c.1 r.2)
        (within_then P a.1 b.1 _ (expression_inside otherwise a.1 r.3) (conditional_inside P (offset_of question) c.0 a.0 b.0 r.1 b.1)))
    expression_inside (Node l.Assignment (Cons target (Cons o (Cons value more)))) s r =
        let a = expression target s in
        let b = expression value a.1 in
        within_then P s a.1 _ (expression_inside target s r.0) (within_then P a.1 b.1 _ (expression_inside value a.1 r.2) (assigned_inside P (assign_op_of o) (offset_of o) a.0 b.0 r.1 b.1))
    expression_inside t s r = within_nothing P s

    pub expressions_inside : (t : Tree) (s : State) → Placed t → Within P s (expressions t s).1
    expressions_inside (Node l.Expr (Cons first (Cons more none))) s r =
        let a = expression first s in within_then P s a.1 _ (expression_inside first s r.0) (more_expressions_inside (option_map first_of a.0) more a.1 r.1)
    expressions_inside t s r = within_nothing P s

    more_expressions_inside : (first : Option Sequence) (t : Tree) (s : State) → PlacedMore t → Within P s (more_expressions first t s).1
    more_expressions_inside first (Node (l.More k) (Cons before (Cons o (Cons element none)))) s r =
        let x = more_expressions first before s in
        let b = expression element x.1 in
        within_then P s x.1 _ (more_expressions_inside first before s r.0) (within_then P x.1 b.1 _ (expression_inside element x.1 r.2) (comma_inside P (offset_of o) x.0 b.0 r.1 b.1))
    more_expressions_inside first t s r = within_nothing P s

    arguments_inside : (t : Tree) (s : State) → Placed t → Within P s (arguments t s).1
    arguments_inside (Node (l.Present k) (Cons first (Cons more none))) s r =
        let a = expression first s in within_then P s a.1 _ (expression_inside first s r.0) (more_arguments_inside more a.1 r.1.0)
    arguments_inside t s r = within_nothing P s

    more_arguments_inside : (t : Tree) (s : State) → Placed t → Within P s (more_arguments t s).1
    more_arguments_inside (Node (l.More k) (Cons before (Cons o (Cons element none)))) s r =
        let xs = more_arguments before s in within_then P s xs.1 _ (more_arguments_inside before s r.0) (expression_inside element xs.1 r.1.1.0)
    more_arguments_inside t s r = within_nothing P s

    type_name_inside : (t : Tree) (s : State) → Placed t → Within P s (type_name t s).1
    type_name_inside (Node l.TypeName (Cons qualifier (Cons specifier (Cons stars (Cons sizes none))))) s r =
        let x = specified_type specifier s in
        let ns = dimensions sizes x.1 in
        within_then P s x.1 _ (specified_inside specifier s) (within_then P x.1 ns.1 _ (dimensions_inside sizes x.1 r.2)
        (named_type_inside P (begin_of (Cons qualifier (Cons specifier Nil))) x.0 (count_of stars) ns.0 r.0 (specified_within specifier s r.1) ns.1))
    type_name_inside t s r = within_nothing P s

    pub dimensions_inside : (t : Tree) (s : State) → PlacedSizes t → Within P s (dimensions t s).1
    dimensions_inside (Node (l.More k) (Cons before (Cons opening (Cons bound none)))) s r =
        let ns = dimensions before s in
        let a = expression bound ns.1 in
        within_then P s ns.1 _ (dimensions_inside before s r.0) (within_then P ns.1 a.1 _ (expression_inside bound ns.1 r.2) (size_inside P (begin_of bound) a.0 r.1 a.1))
    dimensions_inside t s r = within_nothing P s

  -- ---- what the grammar says of these places

  mutual
    unfolding grammar.Fits grammar.allowed grammar.symbols_of grammar.rule grammar.repeated class.includes class.same_nonterminal class.nonterminal_number class.level_number class.repeated_number
        class.optional_number

    pub placed : (f : grammar.Form) (t : Tree) → grammar.Fits f t → AllAt P t → Placed t
    placed (grammar.One c) (Node l.Name (Cons (Leaf x) more)) h a = a.0
    placed (grammar.One c) (Node l.Name children) h a = absurd (assumption)
    placed (grammar.One c) (Node l.Index (Cons array (Cons (Leaf opening) (Cons index more)))) h a =
        (placed (grammar.One class.Postfix) array h.2.0 a.0, a.1.0, placed (grammar.One class.Expr) index h.2.1.1.0 a.1.1.0)
    placed (grammar.One c) (Node l.Index (Cons array (Cons opening (Cons index more)))) h a = absurd (assumption)
    placed (grammar.One c) (Node l.Call (Cons function (Cons (Leaf opening) (Cons xs more)))) h a =
        (placed (grammar.One class.Postfix) function h.2.0 a.0, a.1.0, placed (grammar.One (class.Opt l.Arguments)) xs h.2.1.1.0 a.1.1.0)
    placed (grammar.One c) (Node l.Call (Cons function (Cons opening (Cons xs more)))) h a = absurd (assumption)
    placed (grammar.One c) (Node l.Dot (Cons object (Cons (Leaf o) (Cons (Leaf x) more)))) h a = (placed (grammar.One class.Postfix) object h.2.0 a.0, a.1.0, a.1.1.0)
    placed (grammar.One c) (Node l.Dot (Cons object (Cons o (Cons x more)))) h a = absurd (assumption)
    placed (grammar.One c) (Node l.Arrow (Cons object (Cons (Leaf o) (Cons (Leaf x) more)))) h a = (placed (grammar.One class.Postfix) object h.2.0 a.0, a.1.0, a.1.1.0)
    placed (grammar.One c) (Node l.Arrow (Cons object (Cons o (Cons x more)))) h a = absurd (assumption)
    placed (grammar.One c) (Node l.PostIncrement (Cons operand (Cons (Leaf o) more))) h a = (placed (grammar.One class.Postfix) operand h.2.0 a.0, a.1.0)
    placed (grammar.One c) (Node l.PostIncrement (Cons operand (Cons o more))) h a = absurd (assumption)
    placed (grammar.One c) (Node l.Increment (Cons (Leaf o) (Cons operand more))) h a = (a.0, placed (grammar.One class.Unary) operand h.2.1.0 a.1.0)
    placed (grammar.One c) (Node l.Increment (Cons o (Cons operand more))) h a = absurd (assumption)
    placed (grammar.One c) (Node l.Unary (Cons (Leaf o) (Cons operand more))) h a = (a.0, placed (grammar.One class.Cast) operand h.2.1.0 a.1.0)
    placed (grammar.One c) (Node l.Unary (Cons o (Cons operand more))) h a = absurd (assumption)
    placed (grammar.One c) (Node l.Sizeof (Cons (Leaf word) (Cons operand more))) h a = (a.0, placed (grammar.One class.SizeofOperand) operand h.2.1.0 a.1.0)
    placed (grammar.One c) (Node l.Sizeof (Cons word (Cons operand more))) h a = absurd (assumption)
    placed (grammar.One c) (Node l.Cast (Cons (Leaf opening) (Cons target (Cons (Leaf closing) (Cons operand more))))) h a =
        (a.0, placed (grammar.One class.TypeName) target h.2.1.0 a.1.0, placed (grammar.One class.Cast) operand h.2.1.1.1.0 a.1.1.1.0)
    placed (grammar.One c) (Node l.Cast (Cons opening (Cons target (Cons closing (Cons operand more))))) h a = absurd (assumption)
    placed (grammar.One c) (Node (l.Binary level) (Cons left (Cons (Leaf o) (Cons right more)))) h a =
        (placed (grammar.One (class.Binary level)) left h.2.0 a.0, a.1.0, placed (grammar.One (grammar.tighter level)) right h.2.1.1.0 a.1.1.0)
    placed (grammar.One c) (Node (l.Binary level) (Cons left (Cons o (Cons right more)))) h a = absurd (assumption)
    placed (grammar.One c) (Node l.Conditional (Cons condition (Cons (Leaf question) (Cons middle (Cons (Leaf colon) (Cons otherwise more)))))) h a = (
      placed (grammar.One (class.Binary l.LogicalOr)) condition h.2.0 a.0,
      a.1.0,
      placed (grammar.One class.Expr) middle h.2.1.1.0 a.1.1.0,
      placed (grammar.One class.Cond) otherwise h.2.1.1.1.1.0 a.1.1.1.1.0,
    )
    placed (grammar.One c) (Node l.Conditional (Cons condition (Cons question (Cons middle (Cons colon (Cons otherwise more)))))) h a = absurd (assumption)
    placed (grammar.One c) (Node l.Assignment (Cons target (Cons (Leaf o) (Cons value more)))) h a =
        (placed (grammar.One class.Unary) target h.2.0 a.0, a.1.0, placed (grammar.One class.Assign) value h.2.1.1.0 a.1.1.0)
    placed (grammar.One c) (Node l.Assignment (Cons target (Cons o (Cons value more)))) h a = absurd (assumption)
    placed (grammar.One c) (Node l.Expr (Cons first (Cons more none))) h a = (placed (grammar.One class.Assign) first h.2.0 a.0, placed_more more h.2.1.0 a.1.0)
    placed (grammar.One c) (Node l.TypeName (Cons qualifier (Cons specifier (Cons stars (Cons sizes none))))) h a = (
      begins_after P class.Spec qualifier specifier refl h.2.1.0 a.0 a.1.0,
      placed (grammar.One class.Spec) specifier h.2.1.0 a.1.0,
      placed_sizes sizes h.2.1.1.1.0 a.1.1.1.0,
    )
    placed (grammar.One c) (Node l.StructTag (Cons (Leaf word) (Cons (Leaf tag) more))) h a = a.1.0
    placed (grammar.One c) (Node l.StructTag (Cons word (Cons tag more))) h a = absurd (assumption)
    placed (grammar.One c) (Node p children) h a = placed (grammar.All (grammar.symbols_of p)) children h.2 a
    placed (grammar.All []) Nil h a = tt
    placed (grammar.All (grammar.T s ∷ ss)) (Cons (Leaf x) children) h a = (tt, placed (grammar.All ss) children h.1 a.1)
    placed (grammar.All (grammar.N c ∷ ss)) (Cons t children) h a = (placed (grammar.One c) t h.0 a.0, placed (grammar.All ss) children h.1 a.1)
    placed f t h a = absurd h

    pub placed_more : (t : Tree) → grammar.Fits (grammar.One (class.Many l.MoreAssigns)) t → AllAt P t → PlacedMore t
    placed_more (Node (l.More l.MoreAssigns) (Cons before (Cons (Leaf o) (Cons element none)))) h a = (placed_more before h.2.0 a.0, a.1.0, placed (grammar.One class.Assign) element h.2.1.1.0 a.1.1.0)
    placed_more (Node (l.More l.MoreAssigns) (Cons before (Cons o (Cons element none)))) h a = absurd (assumption)
    placed_more (Node (l.More l.MoreAssigns) children) h a = tt
    placed_more (Node (l.More k) children) h a = absurd (false≢true h.0)
    placed_more t h a = tt

    pub placed_sizes : (t : Tree) → grammar.Fits (grammar.One (class.Many l.Dimensions)) t → AllAt P t → PlacedSizes t
    placed_sizes (Node (l.More l.Dimensions) (Cons before (Cons (Leaf opening) (Cons bound none)))) h a =
        (placed_sizes before h.2.0 a.0, begins P class.Cond bound refl h.2.1.1.0 a.1.1.0, placed (grammar.One class.Cond) bound h.2.1.1.0 a.1.1.0)
    placed_sizes (Node (l.More l.Dimensions) (Cons before (Cons opening (Cons bound none)))) h a = absurd (assumption)
    placed_sizes (Node (l.More l.Dimensions) children) h a = tt
    placed_sizes (Node (l.More k) children) h a = absurd (false≢true h.0)
    placed_sizes t h a = tt
