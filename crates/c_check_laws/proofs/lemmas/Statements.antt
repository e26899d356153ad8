-- What the checker makes of a statement is typed, where that is so of declarations.
use Rattle.std.proofs.Common.{◌≡◌, ◌≤◌, ℕ, Bool, true, false, refl, sym, ap, ◌∙◌, subst, arith}
use Rattle.std.specs.Prelude.{slice_get, Option, None, Some, if◌then◌else◌}
use Rattle.std.proofs.lemmas.Bool.{false≢true}
use Rattle.c_ast.specs.Productions as l
use Rattle.c_ast.specs.Tree.{Tree, Node, Cons}
use Rattle.c_type.specs.Trees.{TypeTree, void_type, scalar_type, pointer_to}
use Rattle.c_type.specs.WellDefined.{AreDefinitions}
use Rattle.c_typed.specs.Typed as typed
use Rattle.c_typed.specs.Typed.{ExprTree, StmtTree, ItemTrees, no_items, stmt_then, declare_then, VariableTree}
use Rattle.c_typed.specs.WellTyped as well
use Rattle.c_typed.specs.WellTyped.{Scope, extended, IsScalar, IsPromoted, IsBegunAs, type_of, ExprIsTyped, OptionalIsTyped, IsOptionalCondition, InitialFits, initial_scope, AreStatements, StmtIsTyped, ItemsAreTyped}
use Rattle.c_typed.specs.StmtViews.{optional_of}
use Rattle.c_check_def.specs.declared.operand.Operand.{Operand}
use Rattle.c_check_def.specs.OperandValues.{value_of}
use Rattle.c_check_def.specs.Types.{is_unsigned}
use Rattle.c_check_def.specs.Conversions.{converts, may_convert, converted}
use Rattle.c_check_def.specs.Operators.{condition_of, plus_by}
use Rattle.c_check_def.specs.declared.refusal_kind.RefusalKind.TheVariants.{BadOperands, BadReturn, BadJump}
use Rattle.c_check_def.specs.State.{Variable, State, or_broken, if_some}
use Rattle.c_check_def.specs.Leaves.{offset_of, begin_of}
use Rattle.c_check_def.specs.DeclaredTypes.{is_void}
use Rattle.c_check_def.specs.Operands.{Term}
use Rattle.c_check_def.specs.Calls.{passed}
use Rattle.c_check_def.specs.Expressions.{expressions}
use Rattle.c_check_def.specs.Declarators.{items_joined, locals}
use Rattle.c_check_def.specs.Statements.{Jumps, in_loop, in_switch, whole, condition, integer_of, subject, condition_clause, value_clause, value_stmt, if_stmt, with_else, do_stmt, switch_stmt, return_stmt, returned, next_group, label, more_labels, Groups, value_items, for_start, statement, items, groups, group}
use Rattle.c_check_laws.specs.TypedOperands.{IfSome, ObjectsFit}
use Rattle.c_check_laws.proofs.Options.{and_then_holds, if_holds}
use Rattle.c_check_laws.proofs.Values.{value_typed, unsigned_promoted, ScalarValue, ValueOf, promoted_typed, converts_typed}
use Rattle.c_check_laws.proofs.Binary.{condition_typed}
use Rattle.c_check_laws.proofs.lemmas.States.{Ending, Fits, fits_back, At, at_step, objects_fit, step_then}
use Rattle.c_check_laws.proofs.lemmas.Steps.{expressions_steps, or_broken_steps, if_some_steps}
use Rattle.c_check_laws.proofs.lemmas.Terms.{TermFits, InRange, or_broken_holds}
use Rattle.c_check_laws.proofs.lemmas.Expressions.{expressions_typed}
use Rattle.c_check_laws.proofs.lemmas.Later.{more_at, Later, step_still, fits_before, at_still, HasScope, still_has_scope, entered, left, at_entered}
use Rattle.c_check_laws.proofs.lemmas.StatementSteps.{StatementsOnly, WellShaped, whole_steps, condition_steps, subject_steps, condition_clause_steps, value_clause_steps, for_start_later, label_steps, more_labels_steps, statement_still, items_later, items_still, groups_still, group_still, locals_later}
use Rattle.c_check_laws.proofs.lemmas.Labels.{not_wrong, one_if_true, labels_begin, label_fits, more_labels_fit, GroupsFit, grouped_fits, no_groups_fit}

-- ---- what the end says in a function

-- what fits, and the types of variables; struct definitions are well formed
pub record Ends (e : Ending) (s : State) : Type 0 where
  pub fits : Fits e s
  pub shows : e.hides ≡ false
  pub structs : AreDefinitions s.structs
  pub types : (k : ℕ) (v : Variable) (t : TypeTree) → slice_get s.variables k ≡ Some v → v.type ≡ Some t → (w : VariableTree) × (slice_get e.variables k ≡ Some w) × (w.type ≡ t)

pub ends_before : (e : Ending) (s t : State) → Later s t → Ends e t → Ends e s
ends_before e s t a h = record {
  fits = fits_before e s t h.shows a h.fits;
  shows = h.shows;
  structs = subst AreDefinitions a.structs h.structs;
  types = λ k v u there type. let r = more_at s.variables t.variables k v a.variables there in h.types k r.later u r.there (r.type ∙ type);
}

ends_left : (e : Ending) (s t : State) → Ends e (left s t) → Ends e t
ends_left e s t h = record {
  fits = record { clean = h.fits.clean; globals = h.fits.globals; variables = h.fits.variables; unnamed = λ q slot last. absurd (false≢true (sym h.shows ∙ q)) };
  shows = h.shows;
  structs = h.structs;
  types = h.types;
}

-- items lead from one scope to another
abbrev ItemsLead : Scope → well.Jumps → ItemTrees → Scope → Type 0
ItemsLead c q no_items d = c ≡ d
ItemsLead c q (stmt_then s is) d = StmtIsTyped c q s × ItemsLead c q is d
ItemsLead c q (declare_then x is) d =
    (v : VariableTree) × (slice_get c.variables x.variable ≡ Some v)
    × ((t : TypeTree) × IsBegunAs v.type t × InitialFits (initial_scope x.names_itself c v t) v x.initial) × ItemsLead (extended c v) q is d

pub lead_joined : (c d k : Scope) (q : well.Jumps) (xs ys : ItemTrees) → ItemsLead c q xs d → ItemsLead d q ys k → ItemsLead c q (items_joined xs ys) k
lead_joined c d k q no_items ys a b = subst (λ c. ItemsLead c q ys k) (sym a) b
lead_joined c d k q (stmt_then s xs) ys a b = (a.0, lead_joined c d k q xs ys a.1 b)
lead_joined c d k q (declare_then x xs) ys a b = (a.0, a.1, a.2, lead_joined (extended c a.0) d k q xs ys a.3 b)

pub lead_typed : (c d : Scope) (q : well.Jumps) (is : ItemTrees) → ItemsLead c q is d → ItemsAreTyped c q is
lead_typed c d q no_items a = tt
lead_typed c d q (stmt_then s is) a = (a.0, lead_typed c d q is a.1)
lead_typed c d q (declare_then x is) a = (a.0, a.1, a.2, lead_typed (extended c a.0) d q is a.3)

pub record ItemsOut (e : Ending) (c : Scope) (q : well.Jumps) (is : ItemTrees) (t : State) : Type 0 where
  pub scope : Scope
  pub lead : ItemsLead c q is scope
  pub here : At e scope t

-- declarations in blocks are typed
abbrev pub LocalsAreTyped : Ending → Type 0
LocalsAreTyped e =
    (c : Scope) (q : well.Jumps) (t : Tree) (s : State) → InRange t → WellShaped t → HasScope s → At e c s → Ends e (locals t s).1 → ItemsOut e c q (locals t s).0 (locals t s).1

-- ---- expressions in statements

whole_typed : (c : Scope) (offset : ℕ) (a : Term) (s : State) → ObjectsFit c → TermFits c a → IfSome (ExprIsTyped c) (whole offset a s).0
whole_typed c offset None s fit ty = tt
whole_typed c offset (Some a) s fit ty = or_broken_holds (ExprIsTyped c) BadOperands offset (value_of a) s (value_typed c a fit ty)

condition_holds : (c : Scope) (offset : ℕ) (a : Term) (s : State) → ObjectsFit c → TermFits c a → IfSome (ScalarValue c) (condition offset a s).0
condition_holds c offset None s fit ty = tt
condition_holds c offset (Some a) s fit ty = or_broken_holds (ScalarValue c) BadOperands offset (condition_of a) s (condition_typed c a fit ty)

-- a value of a promoted type
record PromotedValue (c : Scope) (e : ExprTree) : Type 0 where
  typed : ExprIsTyped c e
  promoted : IsPromoted (type_of e)

integer_typed : (c : Scope) (t : TypeTree) (e : ExprTree) → ExprIsTyped c e → type_of e ≡ t → IfSome (PromotedValue c) (plus_by t e)
integer_typed c (scalar_type s) e ty h = let p = promoted_typed c s e ty h in record { typed = p.typed; promoted = subst IsPromoted (sym p.type) (unsigned_promoted (is_unsigned s)) }
integer_typed c t e ty h = tt

subject_typed : (c : Scope) (offset : ℕ) (a : Term) (s : State) → ObjectsFit c → TermFits c a → IfSome (PromotedValue c) (subject offset a s).0
subject_typed c offset None s fit ty = tt
subject_typed c offset (Some a) s fit ty =
    or_broken_holds (PromotedValue c) BadOperands offset (integer_of a) s
    (and_then_holds (ExprIsTyped c) (PromotedValue c) (λ e. plus_by (type_of e) e) (value_of a) (value_typed c a fit ty) (λ e te. integer_typed c (type_of e) e te refl))

condition_clause_typed : (e : Ending) (c : Scope) (offset : ℕ) (t : Tree) (s : State) → InRange t → At e c s → Fits e (condition_clause offset t s).1 →
    IfSome (ScalarValue c) (condition_clause offset t s).0
condition_clause_typed e c offset (Node (l.Present k) (Cons x none)) s r h fit =
    let a = expressions x s in
    let fa = fits_back e a.1 _ (condition_steps offset a.0 a.1) fit in
    let ha = at_step e c s a.1 (expressions_steps x s) h in
    condition_holds c offset a.0 a.1 (objects_fit e c a.1 ha fa) (expressions_typed e c x s r.0 h fa)
condition_clause_typed e c offset t s r h fit = tt

value_clause_typed : (e : Ending) (c : Scope) (t : Tree) (s : State) → InRange t → At e c s → Fits e (value_clause t s).1 → IfSome (ExprIsTyped c) (value_clause t s).0
value_clause_typed e c (Node (l.Present k) (Cons x none)) s r h fit =
    let a = expressions x s in
    let fa = fits_back e a.1 _ (whole_steps (begin_of x) a.0 a.1) fit in
    let ha = at_step e c s a.1 (expressions_steps x s) h in
    whole_typed c (begin_of x) a.0 a.1 (objects_fit e c a.1 ha fa) (expressions_typed e c x s r.0 h fa)
value_clause_typed e c t s r h fit = tt

optional_condition : (c : Scope) (o : Option ExprTree) → IfSome (ScalarValue c) o → IsOptionalCondition c (optional_of o)
optional_condition c None h = tt
optional_condition c (Some e) h = (h.typed, h.scalar)

optional_value : (c : Scope) (o : Option ExprTree) → IfSome (ExprIsTyped c) o → OptionalIsTyped c (optional_of o)
optional_value c None h = tt
optional_value c (Some e) h = h

-- ---- statements of expressions

-- the jumps that the checker allows are those that are typed
pub record JumpsAre (j : Jumps) (q : well.Jumps) : Type 0 where
  pub breaks : j.may_break ≡ q.may_break
  pub continues : j.may_continue ≡ q.may_continue
  pub result : j.result ≡ Some q.result

loop_jumps : (j : Jumps) (q : well.Jumps) → JumpsAre j q → JumpsAre (in_loop j) (well.in_loop q)
loop_jumps j q h = record { breaks = refl; continues = refl; result = h.result }

switch_jumps : (j : Jumps) (q : well.Jumps) → JumpsAre j q → JumpsAre (in_switch j) (well.in_switch q)
switch_jumps j q h = record { breaks = refl; continues = h.continues; result = h.result }

value_stmt_typed : (c : Scope) (q : well.Jumps) (o : Option ExprTree) → IfSome (ExprIsTyped c) o → StmtIsTyped c q (value_stmt o)
value_stmt_typed c q None h = tt
value_stmt_typed c q (Some e) h = h

if_stmt_typed : (c : Scope) (q : well.Jumps) (o : Option ExprTree) (s : StmtTree) → IfSome (ScalarValue c) o → StmtIsTyped c q s → StmtIsTyped c q (if_stmt o s)
if_stmt_typed c q None s h k = tt
if_stmt_typed c q (Some e) s h k = ((h.typed, h.scalar), k, tt)

with_else_typed : (c : Scope) (q : well.Jumps) (s t : StmtTree) → StmtIsTyped c q s → StmtIsTyped c q t → StmtIsTyped c q (with_else s t)
with_else_typed c q (typed.if_else d s none) t h k = (h.0, h.1, k)
with_else_typed c q s t h k = h

do_stmt_typed : (c : Scope) (q : well.Jumps) (s : StmtTree) (o : Option ExprTree) → StmtIsTyped c (well.in_loop q) s → IfSome (ScalarValue c) o → StmtIsTyped c q (do_stmt s o)
do_stmt_typed c q s None h k = tt
do_stmt_typed c q s (Some e) h k = (h, (k.typed, k.scalar))

switch_stmt_typed : (c : Scope) (q : well.Jumps) (o : Option ExprTree) (x : Groups) → IfSome (PromotedValue c) o → GroupsFit c (well.in_switch q) x → StmtIsTyped c q (switch_stmt o x.groups)
switch_stmt_typed c q None x h g = tt
switch_stmt_typed c q (Some e) x h g =
    (h.typed, h.promoted, g.typed, subst well.AreWords (sym g.words) g.are_words, subst well.AreDistinct (sym g.words) g.distinct, least x.labels.has_default g.defaults)
  where
    least : (b : Bool) → well.defaults x.groups ≡ one_if_true b → well.defaults x.groups ≤ 1
    least true e = omega (arith, e)
    least false e = omega (arith, e)

scalar_target : (s t : TypeTree) (e : ExprTree) → may_convert s t e ≡ true → IsScalar t
scalar_target s (scalar_type t) e h = tt
scalar_target s (pointer_to t) e h = tt
scalar_target (scalar_type s) t e h = absurd (false≢true h)
scalar_target (pointer_to s) t e h = absurd (false≢true h)
scalar_target s t e h = absurd (false≢true h)

-- a value of the result's type
pub record ResultOf (c : Scope) (t : TypeTree) (e : ExprTree) : Type 0 where
  pub typed : ExprIsTyped c e
  pub type : type_of e ≡ t
  pub scalar : IsScalar t

pub result_typed : (c : Scope) (t : TypeTree) (a : Operand) → ObjectsFit c → TermFits c (Some a) → IfSome (ResultOf c t) (passed t a)
result_typed c t a fit ty =
    and_then_holds (ExprIsTyped c) (ResultOf c t) (converts t) (value_of a) (value_typed c a fit ty) (λ e te.
    if_holds (ResultOf c t) (may_convert (type_of e) t e) (Some (converted t e)) (λ m.
    let v = subst (IfSome (ValueOf c t)) (ap (λ b. if b then Some (converted t e) else None) m)
    (converts_typed c t e te) in record { typed = v.typed; type = v.type; scalar = scalar_target (type_of e) t e m }))

return_stmt_typed : (c : Scope) (q : well.Jumps) (o : Option ExprTree) → IfSome (ResultOf c q.result) o → StmtIsTyped c q (return_stmt o)
return_stmt_typed c q None h = tt
return_stmt_typed c q (Some e) h = (h.typed, h.type, h.scalar)

is_void_type : (t : TypeTree) → (if is_void t then false else true) ≡ false → t ≡ void_type
is_void_type void_type h = refl
is_void_type t h = absurd (false≢true (sym h))

returned_typed : (e : Ending) (c : Scope) (q : well.Jumps) (offset : ℕ) (x : Tree) (s : State) → InRange x → At e c s → Fits e (returned (Some q.result) offset x s).1 →
    StmtIsTyped c q (returned (Some q.result) offset x s).0
returned_typed e c q offset (Node (l.Present k) (Cons x none)) s r h fit =
    let a = expressions x s in
    let fa = fits_back e a.1 _ (if_some_steps a.0 _ (λ y. or_broken_steps BadReturn offset (passed q.result y)) a.1) fit in
    let ha = at_step e c s a.1 (expressions_steps x s) h in
    by_term a.0 a.1 (objects_fit e c a.1 ha fa) (expressions_typed e c x s r.0 h fa)
  where
    by_term : (a : Term) (u : State) → ObjectsFit c → TermFits c a → StmtIsTyped c q (return_stmt (if_some a (λ y. or_broken BadReturn offset (passed q.result y)) u).0)
    by_term None u fit ty = tt
    by_term (Some a) u fit ty =
        return_stmt_typed c q (or_broken BadReturn offset (passed q.result a) u).0
        (or_broken_holds (ResultOf c q.result) BadReturn offset (passed q.result a) u (result_typed c q.result a fit ty))
returned_typed e c q offset x s r h fit = is_void_type q.result (not_wrong (if is_void q.result then false else true) BadReturn offset s fit.clean)

-- ---- statements

allowed : (t : Bool) → (if t then false else true) ≡ false → t ≡ true
allowed true h = refl
allowed false h = absurd (false≢true (sym h))

for_start_typed : (e : Ending) → LocalsAreTyped e → (c : Scope) (q : well.Jumps) (t : Tree) (s : State) → InRange t → WellShaped t → HasScope s → At e c s → Ends e (for_start t s).1 →
    ItemsOut e c q (for_start t s).0 (for_start t s).1
for_start_typed e ls c q (Node l.ForClause (Cons x (Cons semicolon none))) s r w g h ends =
    by_value (value_clause x s).0 (value_clause_typed e c x s r.0 h ends.fits)
  where
    by_value : (o : Option ExprTree) → IfSome (ExprIsTyped c) o → ItemsOut e c q (value_items o) (value_clause x s).1
    by_value None k = record { scope = c; lead = refl; here = at_step e c s (value_clause x s).1 (value_clause_steps x s) h }
    by_value (Some v) k = record { scope = c; lead = (k, refl); here = at_step e c s (value_clause x s).1 (value_clause_steps x s) h }
for_start_typed e ls c q t s r w g h ends = ls c q t s r w g h ends

statements_joined : (xs ys : ItemTrees) → AreStatements xs → AreStatements ys → AreStatements (items_joined xs ys)
statements_joined no_items ys a b = b
statements_joined (stmt_then s xs) ys a b = statements_joined xs ys a b
statements_joined (declare_then x xs) ys a b = absurd a

items_are_statements : (j : Jumps) (t : Tree) (s : State) → StatementsOnly t → AreStatements (items j t s).0
items_are_statements j (Node (l.More k) (Cons before (Cons (Node l.Locals children) none))) s o = absurd o
items_are_statements j (Node (l.More k) (Cons before (Cons t none))) s o = statements_joined (items j before s).0 _ (items_are_statements j before s o) tt
items_are_statements j t s o = tt

mutual
  statement_typed : (e : Ending) → LocalsAreTyped e → (c : Scope) (j : Jumps) (q : well.Jumps) (t : Tree) (s : State) → InRange t → WellShaped t → HasScope s → JumpsAre j q → At e c s →
      Ends e (statement j t s).1 → StmtIsTyped c q (statement j t s).0
  statement_typed e ls c j q (Node l.Null children) s r w g m h ends = tt
  statement_typed e ls c j q (Node l.Expression (Cons x (Cons semicolon none))) s r w g m h ends =
      let a = expressions x s in
      let fa = fits_back e a.1 _ (whole_steps (begin_of x) a.0 a.1) ends.fits in
      let ha = at_step e c s a.1 (expressions_steps x s) h in
      value_stmt_typed c q (whole (begin_of x) a.0 a.1).0 (whole_typed c (begin_of x) a.0 a.1 (objects_fit e c a.1 ha fa) (expressions_typed e c x s r.0 h fa))
  statement_typed e ls c j q (Node l.Block (Cons opening (Cons xs (Cons closing none)))) s r w g m h ends =
      let o = items_typed e ls c j q xs (entered s) r.1.0 w.1.0 refl m (at_entered e c s h) (ends_left e s (items j xs (entered s)).1 ends) in
      lead_typed c o.scope q (items j xs (entered s)).0 o.lead
  statement_typed e ls c j q (Node l.If (Cons word (Cons opening (Cons x (Cons closing (Cons t none)))))) s r w g m h ends =
      let a = expressions x s in
      let d = condition (offset_of word) a.0 a.1 in
      let step = step_then s a.1 d.1 (expressions_steps x s) (condition_steps (offset_of word) a.0 a.1) in
      let gd = still_has_scope s d.1 step.scopes g in
      let ed = ends_before e d.1 _ (statement_still j t d.1 w.1.1.1.1.0 gd).later ends in
      let fa = fits_back e a.1 d.1 (condition_steps (offset_of word) a.0 a.1) ed.fits in
      let ha = at_step e c s a.1 (expressions_steps x s) h in
      if_stmt_typed c q d.0 (statement j t d.1).0 (condition_holds c (offset_of word) a.0 a.1 (objects_fit e c a.1 ha fa) (expressions_typed e c x s r.1.1.0 h fa))
      (statement_typed e ls c j q t d.1 r.1.1.1.1.0 w.1.1.1.1.0 gd m (at_step e c s d.1 step h) ends)
  statement_typed e ls c j q (Node l.IfElse (Cons before (Cons word (Cons t none)))) s r w g m h ends =
      let a = statement j before s in
      let first = statement_still j before s w.0 g in
      let ga = still_has_scope s a.1 first.scopes g in
      let ea = ends_before e a.1 _ (statement_still j t a.1 w.1.1.0 ga).later ends in
      with_else_typed c q a.0 (statement j t a.1).0 (statement_typed e ls c j q before s r.0 w.0 g m h ea)
      (statement_typed e ls c j q t a.1 r.1.1.0 w.1.1.0 ga m (at_still e c s a.1 first h) ends)
  statement_typed e ls c j q (Node l.While (Cons word (Cons opening (Cons x (Cons closing (Cons t none)))))) s r w g m h ends =
      let a = expressions x s in
      let d = condition (offset_of word) a.0 a.1 in
      let step = step_then s a.1 d.1 (expressions_steps x s) (condition_steps (offset_of word) a.0 a.1) in
      let gd = still_has_scope s d.1 step.scopes g in
      let ed = ends_before e d.1 _ (statement_still (in_loop j) t d.1 w.1.1.1.1.0 gd).later ends in
      let fa = fits_back e a.1 d.1 (condition_steps (offset_of word) a.0 a.1) ed.fits in
      let ha = at_step e c s a.1 (expressions_steps x s) h in (
        optional_condition c d.0 (condition_holds c (offset_of word) a.0 a.1 (objects_fit e c a.1 ha fa) (expressions_typed e c x s r.1.1.0 h fa)),
        tt,
        statement_typed e ls c (in_loop j) (well.in_loop q) t d.1 r.1.1.1.1.0 w.1.1.1.1.0 gd (loop_jumps j q m) (at_step e c s d.1 step h) ends,
      )
  statement_typed e ls c j q (Node l.DoWhile (Cons word (Cons t (Cons until (Cons opening (Cons x more)))))) s r w g m h ends =
      let b = statement (in_loop j) t s in
      let a = expressions x b.1 in
      let still = statement_still (in_loop j) t s w.1.0 g in
      let fa = fits_back e a.1 _ (condition_steps (offset_of until) a.0 a.1) ends.fits in
      let eb = ends_before e b.1 _ (step_still b.1 _ (step_then b.1 a.1 _ (expressions_steps x b.1) (condition_steps (offset_of until) a.0 a.1))).later ends in
      let hb = at_still e c s b.1 still h in
      let ha = at_step e c b.1 a.1 (expressions_steps x b.1) hb in
      do_stmt_typed c q b.0 (condition (offset_of until) a.0 a.1).0
      (statement_typed e ls c (in_loop j) (well.in_loop q) t s r.1.0 w.1.0 g (loop_jumps j q m) h eb)
      (condition_holds c (offset_of until) a.0 a.1 (objects_fit e c a.1 ha fa) (expressions_typed e c x b.1 r.1.1.1.1.0 hb fa))
  statement_typed e ls c j q (Node l.For (Cons word (Cons opening (Cons start (Cons x (Cons semicolon (Cons y (Cons closing (Cons t none))))))))) s r w g m h ends =
      let is = for_start start (entered s) in
      let d = condition_clause (offset_of word) x is.1 in
      let step = value_clause y d.1 in
      let b = statement (in_loop j) t step.1 in
      let begun = for_start_later start (entered s) in
      let gi = begun.scope refl in
      let sd = condition_clause_steps (offset_of word) x is.1 in
      let sy = value_clause_steps y d.1 in
      let both = step_then is.1 d.1 step.1 sd sy in
      let gy = still_has_scope is.1 step.1 both.scopes gi in
      let eb = ends_left e s b.1 ends in
      let ey = ends_before e step.1 b.1 (statement_still (in_loop j) t step.1 w.1.1.1.1.1.1.1.0 gy).later eb in
      let fd = fits_back e d.1 step.1 sy ey.fits in
      let ei = ends_before e is.1 step.1 (step_still is.1 step.1 both).later ey in
      let o = for_start_typed e ls c q start (entered s) r.1.1.0 w.1.1.0 refl (at_entered e c s h) ei in
      let hd = at_step e o.scope is.1 d.1 sd o.here in
      let hy = at_step e o.scope d.1 step.1 sy hd in
      let body = statement_typed e ls o.scope (in_loop j) (well.in_loop q) t step.1 r.1.1.1.1.1.1.1.0 w.1.1.1.1.1.1.1.0 gy (loop_jumps j q m) hy eb in
      let turn : StmtIsTyped o.scope q (typed.loop (optional_of d.0) (optional_of step.0) b.0) = (
        optional_condition o.scope d.0 (condition_clause_typed e o.scope (offset_of word) x is.1 r.1.1.1.0 o.here fd),
        optional_value o.scope step.0 (value_clause_typed e o.scope y d.1 r.1.1.1.1.1.0 hd ey.fits),
        body,
      ) in
      lead_typed c o.scope q (items_joined is.0 (stmt_then (typed.loop (optional_of d.0) (optional_of step.0) b.0) no_items)) (lead_joined c o.scope o.scope q is.0 _ o.lead (turn, refl))
  statement_typed e ls c j q (Node l.Break (Cons word more)) s r w g m h ends =
      sym m.breaks ∙ allowed j.may_break (not_wrong (if j.may_break then false else true) BadJump (offset_of word) s ends.fits.clean)
  statement_typed e ls c j q (Node l.Continue (Cons word more)) s r w g m h ends =
      sym m.continues ∙ allowed j.may_continue (not_wrong (if j.may_continue then false else true) BadJump (offset_of word) s ends.fits.clean)
  statement_typed e ls c j q (Node l.Return (Cons word (Cons x more))) s r w g m h ends =
      subst (λ t. Fits e (returned t (offset_of word) x s).1 → StmtIsTyped c q (returned t (offset_of word) x s).0) (sym m.result) (returned_typed e c q (offset_of word) x s r.1.0 h) ends.fits
  statement_typed e ls c j q (Node l.Switch (Cons word (Cons opening (Cons x (Cons closing (Cons begin (Cons gs more))))))) s r w g m h ends =
      let a = expressions x s in
      let d = subject (offset_of word) a.0 a.1 in
      let step = step_then s a.1 d.1 (expressions_steps x s) (subject_steps (offset_of word) a.0 a.1) in
      let gd = still_has_scope s d.1 step.scopes g in
      let ed = ends_before e d.1 _ (groups_still (in_switch j) gs d.1 w.1.1.1.1.1.0 gd).later ends in
      let fa = fits_back e a.1 d.1 (subject_steps (offset_of word) a.0 a.1) ed.fits in
      let ha = at_step e c s a.1 (expressions_steps x s) h in
      switch_stmt_typed c q d.0 (groups (in_switch j) gs d.1).0 (subject_typed c (offset_of word) a.0 a.1 (objects_fit e c a.1 ha fa) (expressions_typed e c x s r.1.1.0 h fa))
      (groups_typed e ls c (in_switch j) (well.in_switch q) gs d.1 r.1.1.1.1.1.0 w.1.1.1.1.1.0 gd (switch_jumps j q m) (at_step e c s d.1 step h) ends)
  statement_typed e ls c j q t s r w g m h ends = tt

  pub items_typed : (e : Ending) → LocalsAreTyped e → (c : Scope) (j : Jumps) (q : well.Jumps) (t : Tree) (s : State) → InRange t → WellShaped t → HasScope s → JumpsAre j q → At e c s →
      Ends e (items j t s).1 → ItemsOut e c q (items j t s).0 (items j t s).1
  items_typed e ls c j q (Node (l.More k) (Cons before (Cons (Node l.Locals children) none))) s r w g m h ends =
      let is = items j before s in
      let first = items_later j before s w.0 g in
      let ei = ends_before e is.1 _ (locals_later (Node l.Locals children) is.1) ends in
      let o = items_typed e ls c j q before s r.0 w.0 g m h ei in
      let p = ls o.scope q (Node l.Locals children) is.1 r.1.0 w.1.0 (first.scope g) o.here ends in
      record { scope = p.scope; lead = lead_joined c o.scope p.scope q is.0 (locals (Node l.Locals children) is.1).0 o.lead p.lead; here = p.here }
  items_typed e ls c j q (Node (l.More k) (Cons before (Cons t none))) s r w g m h ends =
      let is = items j before s in
      let first = items_later j before s w.0 g in
      let gi = first.scope g in
      let still = statement_still j t is.1 w.1.0 gi in
      let ei = ends_before e is.1 _ still.later ends in
      let o = items_typed e ls c j q before s r.0 w.0 g m h ei in
      let a = statement_typed e ls o.scope j q t is.1 r.1.0 w.1.0 gi m o.here ends in
      record { scope = o.scope; lead = lead_joined c o.scope o.scope q is.0 _ o.lead (a, refl); here = at_still e o.scope is.1 _ still o.here }
  items_typed e ls c j q t s r w g m h ends = record { scope = c; lead = refl; here = h }

  groups_typed : (e : Ending) → LocalsAreTyped e → (c : Scope) (j : Jumps) (q : well.Jumps) (t : Tree) (s : State) → InRange t → WellShaped t → HasScope s → JumpsAre j q → At e c s →
      Ends e (groups j t s).1 → GroupsFit c q (groups j t s).0
  groups_typed e ls c j q (Node (l.More k) (Cons before (Cons t none))) s r w g m h ends =
      let x = groups j before s in
      let first = groups_still j before s w.0 g in
      let gx = still_has_scope s x.1 first.scopes g in
      let ex = ends_before e x.1 _ (group_still j x.0 t x.1 w.1.0 gx).later ends in
      group_typed e ls c j q x.0 t x.1 r.1.0 w.1.0 gx m (at_still e c s x.1 first h) ends (groups_typed e ls c j q before s r.0 w.0 g m h ex)
  groups_typed e ls c j q t s r w g m h ends = no_groups_fit c q

  group_typed : (e : Ending) → LocalsAreTyped e → (c : Scope) (j : Jumps) (q : well.Jumps) (x : Groups) (t : Tree) (s : State) → InRange t → WellShaped t → HasScope s → JumpsAre j q → At e c s →
      Ends e (group j x t s).1 → GroupsFit c q x → GroupsFit c q (group j x t s).0
  group_typed e ls c j q x (Node l.Group (Cons first (Cons more (Cons t (Cons ts none))))) s r w g m h ends k =
      let y = label (next_group x.labels) first s in
      let z = more_labels y.0 more y.1 in
      let b = statement j t z.1 in
      let is = items j ts b.1 in
      let sy = label_steps (next_group x.labels) first s in
      let sz = more_labels_steps y.0 more y.1 in
      let a = step_still s z.1 (step_then s y.1 z.1 sy sz) in
      let gz = still_has_scope s z.1 a.scopes g in
      let d = statement_still j t z.1 w.1 gz in
      let gb = still_has_scope z.1 b.1 d.scopes gz in
      let rest = items_still j ts b.1 w.0 w.2 gb in
      let eb = ends_before e b.1 is.1 rest.later ends in
      let ez = ends_before e z.1 b.1 d.later eb in
      let fy = fits_back e y.1 z.1 sz ez.fits in
      let hy = at_step e c s y.1 sy h in
      let hz = at_step e c y.1 z.1 sz hy in
      let hb = at_still e c z.1 b.1 d hz in
      let ly = label_fits e c x.labels (next_group x.labels) first s r.0 h fy (labels_begin x.labels k.distinct k.are_words) in
      let lz = more_labels_fit e c x.labels y.0 more y.1 r.1.0 hy ez.fits ly in
      let o = items_typed e ls c j q ts b.1 r.1.1.1.0 w.2 gb m hb ends in
      grouped_fits c q x z.0 (stmt_then b.0 is.0) k lz (items_are_statements j ts b.1 w.0)
      (statement_typed e ls c j q t z.1 r.1.1.0 w.1 gz m hz eb, lead_typed c o.scope q is.0 o.lead)
  group_typed e ls c j q x t s r w g m h ends k = k
