-- Where the rules are broken that statements break.
use Rattle.std.proofs.Common.{ℕ, true, false, [], ◌∷◌, refl}
use Rattle.std.specs.Prelude.{if◌then◌else◌}
use Rattle.std.proofs.lemmas.Bool.{false≢true}
use Rattle.c_ast.specs.Productions as l
use Rattle.c_ast.specs.Nonterminals as class
use Rattle.c_ast.specs.Tree.{Tree, Leaf, Node, Cons}
use Rattle.c_ast.specs.Grammar as grammar
use Rattle.c_typed.specs.Typed as typed
use Rattle.c_check_def.specs.declared.refusal_kind.RefusalKind.TheVariants.{NotConstant, BadLabel, BadReturn}
use Rattle.c_check_def.specs.State.{MaybeType, State, Elaborated, or_broken, within_scope}
use Rattle.c_check_def.specs.Leaves.{offset_of, begin_of}
use Rattle.c_check_def.specs.Operands.{term_constant}
use Rattle.c_check_def.specs.Expressions.{expression, expressions}
use Rattle.c_check_def.specs.Statements.{Jumps, in_loop, in_switch, condition, subject, condition_clause, value_clause, gives_none, returned, Labels, next_group, label, more_labels, Groups, for_start, statement, items, groups, group}
use Rattle.c_check_laws.proofs.TreePlaces.{AllAt, begins}
use Rattle.c_check_laws.proofs.Inside.{Within, within_same, within_nothing, within_then, Inside, breaks_if_inside, or_broken_inside, if_some_inside, whole_inside, condition_inside, subject_inside, jump_inside, case_label_inside}
use Rattle.c_check_laws.proofs.Expressions.{Placed, placed, expression_inside, expressions_inside}
use Rattle.c_check_laws.proofs.Declarations.{PlacedLocals, placed_locals, locals_inside}

module _ (P : ℕ → Type 0) where
  -- ---- what the checker reads the offsets of

  -- an expression that may stand
  abbrev pub PlacedClause : Tree → Type 0
  PlacedClause (Node (l.Present k) (Cons x none)) = P (begin_of x) × Placed P x
  PlacedClause t = Unit {0}

  abbrev PlacedLabel : Tree → Type 0
  PlacedLabel (Node l.Case (Cons word (Cons value (Cons colon none)))) = P (offset_of word) × P (begin_of value) × Placed P value
  PlacedLabel (Node l.Default (Cons word (Cons colon none))) = P (offset_of word)
  PlacedLabel t = Unit {0}

  abbrev PlacedLabels : Tree → Type 0
  PlacedLabels (Node (l.More k) (Cons before (Cons t none))) = PlacedLabels before × PlacedLabel t
  PlacedLabels t = Unit {0}

  abbrev PlacedStart : Tree → Type 0
  PlacedStart (Node l.ForClause (Cons x (Cons semicolon none))) = PlacedClause x
  PlacedStart t = PlacedLocals P t

  abbrev mutual
    pub PlacedStmt : Tree → Type 0
    PlacedStmt (Node l.Expression (Cons x (Cons semicolon none))) = P (begin_of x) × Placed P x
    PlacedStmt (Node l.Block (Cons opening (Cons xs (Cons closing none)))) = PlacedItems xs
    PlacedStmt (Node l.If (Cons word (Cons opening (Cons x (Cons closing (Cons t none)))))) = P (offset_of word) × Placed P x × PlacedStmt t
    PlacedStmt (Node l.IfElse (Cons before (Cons word (Cons t none)))) = PlacedStmt before × PlacedStmt t
    PlacedStmt (Node l.While (Cons word (Cons opening (Cons x (Cons closing (Cons t none)))))) = P (offset_of word) × Placed P x × PlacedStmt t
    PlacedStmt (Node l.DoWhile (Cons word (Cons t (Cons until (Cons opening (Cons x more)))))) = PlacedStmt t × P (offset_of until) × Placed P x
    PlacedStmt (Node l.For (Cons word (Cons opening (Cons start (Cons x (Cons semicolon (Cons y (Cons closing (Cons t none))))))))) =
        P (offset_of word) × PlacedStart start × PlacedClause x × PlacedClause y × PlacedStmt t
    PlacedStmt (Node l.Break (Cons word more)) = P (offset_of word)
    PlacedStmt (Node l.Continue (Cons word more)) = P (offset_of word)
    PlacedStmt (Node l.Return (Cons word (Cons x more))) = P (offset_of word) × PlacedClause x
    PlacedStmt (Node l.Switch (Cons word (Cons opening (Cons x (Cons closing (Cons begin (Cons gs more))))))) = P (offset_of word) × Placed P x × PlacedGroups gs
    PlacedStmt t = Unit {0}

    -- statements and declarations, or statements alone
    pub PlacedItems : Tree → Type 0
    PlacedItems (Node (l.More k) (Cons before (Cons (Node l.Locals children) none))) = PlacedItems before × PlacedLocals P (Node l.Locals children)
    PlacedItems (Node (l.More k) (Cons before (Cons t none))) = PlacedItems before × PlacedStmt t
    PlacedItems t = Unit {0}

    PlacedGroups : Tree → Type 0
    PlacedGroups (Node (l.More k) (Cons before (Cons t none))) = PlacedGroups before × PlacedGroup t
    PlacedGroups t = Unit {0}

    PlacedGroup : Tree → Type 0
    PlacedGroup (Node l.Group (Cons first (Cons more (Cons t (Cons ts none))))) = PlacedLabel first × PlacedLabels more × PlacedStmt t × PlacedItems ts
    PlacedGroup t = Unit {0}

  -- ---- parts of statements

  condition_clause_inside : (offset : ℕ) (t : Tree) (s : State) → P offset → PlacedClause t → Within P s (condition_clause offset t s).1
  condition_clause_inside offset (Node (l.Present k) (Cons x none)) s p r =
      let a = expressions x s in within_then P s a.1 _ (expressions_inside P x s r.1) (condition_inside P offset a.0 p a.1)
  condition_clause_inside offset t s p r = within_nothing P s

  value_clause_inside : (t : Tree) (s : State) → PlacedClause t → Within P s (value_clause t s).1
  value_clause_inside (Node (l.Present k) (Cons x none)) s r =
      let a = expressions x s in within_then P s a.1 _ (expressions_inside P x s r.1) (whole_inside P (begin_of x) a.0 r.0 a.1)
  value_clause_inside t s r = within_nothing P s

  returned_inside : (t : MaybeType) (offset : ℕ) (x : Tree) (s : State) → P offset → PlacedClause x → Within P s (returned t offset x s).1
  returned_inside t offset (Node (l.Present k) (Cons x none)) s p r =
      let a = expressions x s in
      within_then P s a.1 _ (expressions_inside P x s r.1) (if_some_inside P t _ (λ u. if_some_inside P a.0 _ (λ y. or_broken_inside P _ offset _ p)) a.1)
  returned_inside t offset x s p r = breaks_if_inside P (if gives_none t then false else true) BadReturn offset p s

  label_inside : (x : Labels) (t : Tree) (s : State) → PlacedLabel t → Within P s (label x t s).1
  label_inside x (Node l.Case (Cons word (Cons value (Cons colon none)))) s r =
      let a = expression value s in
      let w = or_broken NotConstant (begin_of value) (term_constant a.0) a.1 in
      within_then P s a.1 _ (expression_inside P value s r.2)
      (within_then P a.1 w.1 _ (or_broken_inside P NotConstant (begin_of value) (term_constant a.0) r.1 a.1) (case_label_inside P x (offset_of word) w.0 r.0 w.1))
  label_inside x (Node l.Default (Cons word (Cons colon none))) s r = breaks_if_inside P x.has_default BadLabel (offset_of word) r s
  label_inside x t s r = within_nothing P s

  more_labels_inside : (x : Labels) (t : Tree) (s : State) → PlacedLabels t → Within P s (more_labels x t s).1
  more_labels_inside x (Node (l.More k) (Cons before (Cons t none))) s r =
      let y = more_labels x before s in within_then P s y.1 _ (more_labels_inside x before s r.0) (label_inside y.0 t y.1 r.1)
  more_labels_inside x t s r = within_nothing P s

  for_start_inside : (t : Tree) (s : State) → PlacedStart t → Within P s (for_start t s).1
  for_start_inside (Node l.ForClause (Cons x (Cons semicolon none))) s r = value_clause_inside x s r
  for_start_inside t s r = locals_inside P t s r

  -- what stands in a scope of its own
  pub scope_inside : {A : Type 0} → (m : Elaborated A) → Inside P m → Inside P (within_scope m)
  scope_inside m h s =
      let e : State = record s { scopes = [] ∷ s.scopes } in
      within_then P s e _ (within_same P s e refl) (within_then P e (m e).1 _ (h e) (within_same P (m e).1 _ refl))

  -- ---- statements

  mutual
    pub statement_inside : (j : Jumps) (t : Tree) (s : State) → PlacedStmt t → Within P s (statement j t s).1
    statement_inside j (Node l.Null children) s r = within_nothing P s
    statement_inside j (Node l.Expression (Cons x (Cons semicolon none))) s r =
        let a = expressions x s in within_then P s a.1 _ (expressions_inside P x s r.1) (whole_inside P (begin_of x) a.0 r.0 a.1)
    statement_inside j (Node l.Block (Cons opening (Cons xs (Cons closing none)))) s r = scope_inside (items j xs) (λ e. items_inside j xs e r) s
    statement_inside j (Node l.If (Cons word (Cons opening (Cons x (Cons closing (Cons t none)))))) s r =
        let a = expressions x s in
        let c = condition (offset_of word) a.0 a.1 in
        within_then P s a.1 _ (expressions_inside P x s r.1) (within_then P a.1 c.1 _ (condition_inside P (offset_of word) a.0 r.0 a.1) (statement_inside j t c.1 r.2))
    statement_inside j (Node l.IfElse (Cons before (Cons word (Cons t none)))) s r =
        let a = statement j before s in within_then P s a.1 _ (statement_inside j before s r.0) (statement_inside j t a.1 r.1)
    statement_inside j (Node l.While (Cons word (Cons opening (Cons x (Cons closing (Cons t none)))))) s r =
        let a = expressions x s in
        let c = condition (offset_of word) a.0 a.1 in
        within_then P s a.1 _ (expressions_inside P x s r.1) (within_then P a.1 c.1 _ (condition_inside P (offset_of word) a.0 r.0 a.1) (statement_inside (in_loop j) t c.1 r.2))
    statement_inside j (Node l.DoWhile (Cons word (Cons t (Cons until (Cons opening (Cons x more)))))) s r =
        let b = statement (in_loop j) t s in
        let a = expressions x b.1 in
        within_then P s b.1 _ (statement_inside (in_loop j) t s r.0)
        (within_then P b.1 a.1 _ (expressions_inside P x b.1 r.2) (condition_inside P (offset_of until) a.0 r.1 a.1))
    statement_inside j (Node l.For (Cons word (Cons opening (Cons start (Cons x (Cons semicolon (Cons y (Cons closing (Cons t none))))))))) s r =
        let e : State = record s { scopes = [] ∷ s.scopes } in
        let is = for_start start e in
        let c = condition_clause (offset_of word) x is.1 in
        let step = value_clause y c.1 in
        let b = statement (in_loop j) t step.1 in
        within_then P s e _ (within_same P s e refl)
        (within_then P e is.1 _ (for_start_inside start e r.1)
        (within_then P is.1 c.1 _ (condition_clause_inside (offset_of word) x is.1 r.0 r.2)
        (within_then P c.1 step.1 _ (value_clause_inside y c.1 r.3)
        (within_then P step.1 b.1 _ (statement_inside (in_loop j) t step.1 r.4) (within_same P b.1 _ refl)))))
    statement_inside j (Node l.Break (Cons word more)) s r = jump_inside P j.may_break (offset_of word) typed.break r s
    statement_inside j (Node l.Continue (Cons word more)) s r = jump_inside P j.may_continue (offset_of word) typed.continue r s
    statement_inside j (Node l.Return (Cons word (Cons x more))) s r = returned_inside j.result (offset_of word) x s r.0 r.1
    statement_inside j (Node l.Switch (Cons word (Cons opening (Cons x (Cons closing (Cons begin (Cons gs more))))))) s r =
        let a = expressions x s in
        let e = subject (offset_of word) a.0 a.1 in
        within_then P s a.1 _ (expressions_inside P x s r.1) (within_then P a.1 e.1 _ (subject_inside P (offset_of word) a.0 r.0 a.1) (groups_inside (in_switch j) gs e.1 r.2))
    statement_inside j t s r = within_nothing P s

    pub items_inside : (j : Jumps) (t : Tree) (s : State) → PlacedItems t → Within P s (items j t s).1
    items_inside j (Node (l.More k) (Cons before (Cons (Node l.Locals children) none))) s r =
        let is = items j before s in within_then P s is.1 _ (items_inside j before s r.0) (locals_inside P (Node l.Locals children) is.1 r.1)
    items_inside j (Node (l.More k) (Cons before (Cons t none))) s r =
        let is = items j before s in within_then P s is.1 _ (items_inside j before s r.0) (statement_inside j t is.1 r.1)
    items_inside j t s r = within_nothing P s

    groups_inside : (j : Jumps) (t : Tree) (s : State) → PlacedGroups t → Within P s (groups j t s).1
    groups_inside j (Node (l.More k) (Cons before (Cons t none))) s r =
        let x = groups j before s in within_then P s x.1 _ (groups_inside j before s r.0) (group_inside j x.0 t x.1 r.1)
    groups_inside j t s r = within_nothing P s

    group_inside : (j : Jumps) (x : Groups) (t : Tree) (s : State) → PlacedGroup t → Within P s (group j x t s).1
    group_inside j x (Node l.Group (Cons first (Cons more (Cons t (Cons ts none))))) s r =
        let y = label (next_group x.labels) first s in
        let z = more_labels y.0 more y.1 in
        let b = statement j t z.1 in
        within_then P s y.1 _ (label_inside (next_group x.labels) first s r.0)
        (within_then P y.1 z.1 _ (more_labels_inside y.0 more y.1 r.1) (within_then P z.1 b.1 _ (statement_inside j t z.1 r.2) (items_inside j ts b.1 r.3)))
    group_inside j x t s r = within_nothing P s

  -- ---- what the grammar says of these places

  placed_clause : (t : Tree) → grammar.Fits (grammar.One (class.Opt l.Clause)) t → AllAt P t → PlacedClause t
  unfolding grammar.Fits grammar.allowed grammar.symbols_of grammar.rule grammar.optional class.includes class.same_nonterminal class.nonterminal_number class.optional_number
  placed_clause (Node (l.Present l.Clause) (Cons x none)) h a = (begins P class.Expr x refl h.2.0 a.0, placed P (grammar.One class.Expr) x h.2.0 a.0)
  placed_clause (Node (l.Present l.Clause) children) h a = tt
  placed_clause (Node (l.Present k) children) h a = absurd (false≢true h.0)
  placed_clause t h a = tt

  placed_label : (t : Tree) → grammar.Fits (grammar.One class.GroupLabel) t → AllAt P t → PlacedLabel t
  unfolding grammar.Fits grammar.symbols_of grammar.rule
  placed_label (Node l.Case (Cons (Leaf word) (Cons value (Cons colon none)))) h a =
      (a.0, begins P class.Cond value refl h.2.1.0 a.1.0, placed P (grammar.One class.Cond) value h.2.1.0 a.1.0)
  placed_label (Node l.Case (Cons word (Cons value (Cons colon none)))) h a = absurd (assumption)
  placed_label (Node l.Default (Cons (Leaf word) (Cons colon none))) h a = a.0
  placed_label (Node l.Default (Cons word (Cons colon none))) h a = absurd (assumption)
  placed_label t h a = tt

  placed_labels : (t : Tree) → grammar.Fits (grammar.One (class.Many l.MoreLabels)) t → AllAt P t → PlacedLabels t
  unfolding grammar.Fits grammar.allowed grammar.symbols_of grammar.rule grammar.repeated class.includes class.same_nonterminal class.nonterminal_number class.repeated_number
  placed_labels (Node (l.More l.MoreLabels) (Cons before (Cons t none))) h a = (placed_labels before h.2.0 a.0, placed_label t h.2.1.0 a.1.0)
  placed_labels (Node (l.More l.MoreLabels) children) h a = tt
  placed_labels (Node (l.More k) children) h a = absurd (false≢true h.0)
  placed_labels t h a = tt

  placed_start : (t : Tree) → grammar.Fits (grammar.One class.ForFirst) t → AllAt P t → PlacedStart t
  unfolding grammar.Fits grammar.symbols_of grammar.rule
  placed_start (Node l.ForClause (Cons x (Cons semicolon none))) h a = placed_clause x h.2.0 a.0
  placed_start t h a = placed_locals P class.ForFirst t h a

  mutual
    unfolding grammar.Fits grammar.allowed grammar.symbols_of grammar.rule grammar.repeated class.includes class.same_nonterminal class.nonterminal_number class.repeated_number

    pub placed_stmt : (c : class.Nonterminal) (t : Tree) → grammar.Fits (grammar.One c) t → AllAt P t → PlacedStmt t
    placed_stmt c (Node l.Expression (Cons x (Cons semicolon none))) h a = (begins P class.Expr x refl h.2.0 a.0, placed P (grammar.One class.Expr) x h.2.0 a.0)
    placed_stmt c (Node l.Block (Cons (Leaf opening) (Cons xs (Cons closing none)))) h a = placed_items xs h.2.1.0 a.1.0
    placed_stmt c (Node l.Block (Cons opening (Cons xs (Cons closing none)))) h a = absurd (assumption)
    placed_stmt c (Node l.If (Cons (Leaf word) (Cons (Leaf opening) (Cons x (Cons (Leaf closing) (Cons t none)))))) h a =
        (a.0, placed P (grammar.One class.Expr) x h.2.1.1.0 a.1.1.0, placed_stmt class.Stmt t h.2.1.1.1.1.0 a.1.1.1.1.0)
    placed_stmt c (Node l.If (Cons word (Cons opening (Cons x (Cons closing (Cons t none)))))) h a = absurd (assumption)
    placed_stmt c (Node l.IfElse (Cons before (Cons (Leaf word) (Cons t none)))) h a = (placed_stmt class.IfPart before h.2.0 a.0, placed_stmt class.Stmt t h.2.1.1.0 a.1.1.0)
    placed_stmt c (Node l.IfElse (Cons before (Cons word (Cons t none)))) h a = absurd (assumption)
    placed_stmt c (Node l.While (Cons (Leaf word) (Cons (Leaf opening) (Cons x (Cons (Leaf closing) (Cons t none)))))) h a =
        (a.0, placed P (grammar.One class.Expr) x h.2.1.1.0 a.1.1.0, placed_stmt class.Stmt t h.2.1.1.1.1.0 a.1.1.1.1.0)
    placed_stmt c (Node l.While (Cons word (Cons opening (Cons x (Cons closing (Cons t none)))))) h a = absurd (assumption)
    placed_stmt c (Node l.DoWhile (Cons (Leaf word) (Cons t (Cons (Leaf until) (Cons (Leaf opening) (Cons x more)))))) h a =
        (placed_stmt class.Stmt t h.2.1.0 a.1.0, a.1.1.0, placed P (grammar.One class.Expr) x h.2.1.1.1.1.0 a.1.1.1.1.0)
    placed_stmt c (Node l.DoWhile (Cons word (Cons t (Cons until (Cons opening (Cons x more)))))) h a = absurd (assumption)
    placed_stmt c (Node l.For (Cons (Leaf word) (Cons (Leaf opening) (Cons start (Cons x (Cons (Leaf semicolon) (Cons y (Cons (Leaf closing) (Cons t none))))))))) h a = (
      a.0,
      placed_start start h.2.1.1.0 a.1.1.0,
      placed_clause x h.2.1.1.1.0 a.1.1.1.0,
      placed_clause y h.2.1.1.1.1.1.0 a.1.1.1.1.1.0,
      placed_stmt class.Stmt t h.2.1.1.1.1.1.1.1.0 a.1.1.1.1.1.1.1.0,
    )
    placed_stmt c (Node l.For (Cons word (Cons opening (Cons start (Cons x (Cons semicolon (Cons y (Cons closing (Cons t none))))))))) h a = absurd (assumption)
    placed_stmt c (Node l.Break (Cons (Leaf word) more)) h a = a.0
    placed_stmt c (Node l.Break (Cons word more)) h a = absurd (assumption)
    placed_stmt c (Node l.Continue (Cons (Leaf word) more)) h a = a.0
    placed_stmt c (Node l.Continue (Cons word more)) h a = absurd (assumption)
    placed_stmt c (Node l.Return (Cons (Leaf word) (Cons x more))) h a = (a.0, placed_clause x h.2.1.0 a.1.0)
    placed_stmt c (Node l.Return (Cons word (Cons x more))) h a = absurd (assumption)
    placed_stmt c (Node l.Switch (Cons (Leaf word) (Cons (Leaf opening) (Cons x (Cons (Leaf closing) (Cons (Leaf begin) (Cons gs more))))))) h a =
        (a.0, placed P (grammar.One class.Expr) x h.2.1.1.0 a.1.1.0, placed_groups gs h.2.1.1.1.1.1.0 a.1.1.1.1.1.0)
    placed_stmt c (Node l.Switch (Cons word (Cons opening (Cons x (Cons closing (Cons begin (Cons gs more))))))) h a = absurd (assumption)
    placed_stmt c t h a = tt

    pub placed_items : (t : Tree) → grammar.Fits (grammar.One (class.Many l.Items)) t → AllAt P t → PlacedItems t
    placed_items (Node (l.More l.Items) (Cons before (Cons (Node l.Locals children) none))) h a = (placed_items before h.2.0 a.0, placed_locals P class.Item (Node l.Locals children) h.2.1.0 a.1.0)
    placed_items (Node (l.More l.Items) (Cons before (Cons t none))) h a = (placed_items before h.2.0 a.0, placed_stmt class.Item t h.2.1.0 a.1.0)
    placed_items (Node (l.More l.Items) children) h a = tt
    placed_items (Node (l.More k) children) h a = absurd (false≢true h.0)
    placed_items t h a = tt

    placed_stmts : (t : Tree) → grammar.Fits (grammar.One (class.Many l.MoreStmts)) t → AllAt P t → PlacedItems t
    placed_stmts (Node (l.More l.MoreStmts) (Cons before (Cons (Node l.Locals children) none))) h a = (placed_stmts before h.2.0 a.0, placed_locals P class.Stmt (Node l.Locals children) h.2.1.0 a.1.0)
    placed_stmts (Node (l.More l.MoreStmts) (Cons before (Cons t none))) h a = (placed_stmts before h.2.0 a.0, placed_stmt class.Stmt t h.2.1.0 a.1.0)
    placed_stmts (Node (l.More l.MoreStmts) children) h a = tt
    placed_stmts (Node (l.More k) children) h a = absurd (false≢true h.0)
    placed_stmts t h a = tt

    placed_groups : (t : Tree) → grammar.Fits (grammar.One (class.Many l.Groups)) t → AllAt P t → PlacedGroups t
    placed_groups (Node (l.More l.Groups) (Cons before (Cons t none))) h a = (placed_groups before h.2.0 a.0, placed_group t h.2.1.0 a.1.0)
    placed_groups (Node (l.More l.Groups) children) h a = tt
    placed_groups (Node (l.More k) children) h a = absurd (false≢true h.0)
    placed_groups t h a = tt

    placed_group : (t : Tree) → grammar.Fits (grammar.One class.Group) t → AllAt P t → PlacedGroup t
    placed_group (Node l.Group (Cons first (Cons more (Cons t (Cons ts none))))) h a =
        (placed_label first h.2.0 a.0, placed_labels more h.2.1.0 a.1.0, placed_stmt class.Stmt t h.2.1.1.0 a.1.1.0, placed_stmts ts h.2.1.1.1.0 a.1.1.1.0)
    placed_group t h a = tt
