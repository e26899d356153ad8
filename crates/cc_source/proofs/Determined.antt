-- A source is accepted as one program, or refused for one reason.
use Rattle.std.proofs.Common.{◌≡◌, ◌≢◌, ℕ, List, length, refl, sym, ap, ◌∙◌, subst}
use Rattle.std.specs.Prelude.{None, Result, Ok, Err}
use Rattle.c_lex.specs.Tokens.{lexed}
use Rattle.c_ast.specs.Spelling.{tokens_of}
use Rattle.c_ast.specs.Tree.{Tree}
use Rattle.c_parse.specs.Refusal.{Answers, Agree, OneAnswer, ShapedIsAccepted}
use Rattle.c_parse.specs.Refusal as tree_of
use Rattle.c_parse.specs.declared.fault.ParseFault.{ParseFault}
use Rattle.c_parse.specs.declared.fault.ParseFault.TheVariants as parser
use Rattle.c_typed.specs.Typed.{ProgramTree}
use Rattle.c_check_def.specs.declared.refusal_kind.RefusalKind.{RefusalKind}
use Rattle.c_check_def.specs.declared.refusal_kind.RefusalKind.TheVariants as rule
use Rattle.c_check_def.specs.Check.{check}
use Rattle.c_check_def.specs.Refusals.{Refusal, rule_broken, no_main, above_limit}
use Rattle.c_check.specs.Faults as checks
use Rattle.c_check.specs.declared.fault.CheckFault.{CheckFault}
use Rattle.c_check.specs.declared.fault.CheckFault.TheVariants as checker
use Rattle.g_build.specs.Answer.{limit_named}
use Rattle.g_build.specs.Passed.{limit_passed}
use Rattle.g_build.specs.declared.omega.BuildFault.{BuildFault}
use Rattle.g_build.specs.declared.omega.BuildFault.TheVariants as build
use Rattle.cc_source.specs.Accepted.{HasTree, Checks, Accepts, Refuses, OneProgram, OneFault, AcceptedIsNotRefused}
use Rattle.cc_source.specs.declared.fault.CompileFault.TheVariants as fault

-- ---- one answer

one_value : {T E : Type 0} (r : Result T E) (x y : T) → r ≡ Ok x → r ≡ Ok y → x ≡ y
one_value r x y a b = cc

one_error : {T E : Type 0} (r : Result T E) (e f : E) → r ≡ Err e → r ≡ Err f → e ≡ f
one_error r e f a b = cc

not_both : {T E : Type 0} (r : Result T E) (x : T) (e : E) → r ≡ Ok x → r ≡ Err e → ⊥
not_both r x e a b = absurd cc

-- ---- one tree, one program

one_tree : (source : List ℕ) (t u : Tree) → HasTree source t → HasTree source u → u ≡ t
one_tree source t u a b = a.tree.only u b.tree.shaped (b.tree.spells ∙ one_value (lexed source) b.tokens a.tokens b.lexed a.lexed)

one_checked : (source : List ℕ) (p q : ProgramTree) → Checks source p → Checks source q → p ≡ q
one_checked source p q a b =
    let same = ap (λ t. check t (length source)) (one_tree source b.tree a.tree b.has_tree a.has_tree) in
    one_value (check b.tree (length source)) p q (sym same ∙ a.checked) b.checked

pub one_program : OneProgram
one_program source p q a b = one_checked source p q a.checks b.checks

-- ---- the parser

one_syntax : (e f : ParseFault) → e ≢ parser.NoMemory → f ≢ parser.NoMemory → Agree (Err e) (Err f) → e ≡ f
one_syntax parser.NoMemory f some other h = absurd (some refl)
one_syntax (parser.LeftOut at) (parser.LeftOut b) some other h = h
one_syntax (parser.LeftOut at) (parser.TooDeep b) some other h = h
one_syntax (parser.LeftOut at) (parser.Syntax b) some other h = h
one_syntax (parser.LeftOut at) parser.NoMemory some other h = absurd (other refl)
one_syntax (parser.TooDeep at) (parser.LeftOut b) some other h = h
one_syntax (parser.TooDeep at) (parser.TooDeep b) some other h = h
one_syntax (parser.TooDeep at) (parser.Syntax b) some other h = h
one_syntax (parser.TooDeep at) parser.NoMemory some other h = absurd (other refl)
one_syntax (parser.Syntax at) (parser.LeftOut b) some other h = h
one_syntax (parser.Syntax at) (parser.TooDeep b) some other h = h
one_syntax (parser.Syntax at) (parser.Syntax b) some other h = h
one_syntax (parser.Syntax at) parser.NoMemory some other h = absurd (other refl)

-- where there is a tree the parser refuses nothing
has_no_syntax : ShapedIsAccepted → (source : List ℕ) (t : Tree) (e : ParseFault) → HasTree source t → Refuses (fault.Parse e) source → ⊥
has_no_syntax shaped source t e has h = by_fault e h.0 (shaped t (length source) (Err e) has.tree.shaped answers)
  where
    answers : Answers (tokens_of t) (length source) (Err e)
    answers = subst (λ ts. Answers ts (length source) (Err e)) (one_value (lexed source) h.1.0 has.tokens h.1.1 has.lexed ∙ sym has.tree.spells) h.1.2

    by_fault : (f : ParseFault) → f ≢ parser.NoMemory → tree_of.Accepts t (Err f) → ⊥
    by_fault (parser.LeftOut at) some bad = bad
    by_fault (parser.TooDeep at) some bad = bad
    by_fault (parser.Syntax at) some bad = bad
    by_fault parser.NoMemory some bad = some refl

-- ---- the checker

abbrev of_rule : RefusalKind → ℕ → CheckFault
of_rule rule.Unknown at = checker.Unknown at
of_rule rule.Redeclared at = checker.Redeclared at
of_rule rule.NotAssignable at = checker.NotAssignable at
of_rule rule.BadOperands at = checker.BadOperands at
of_rule rule.BadCall at = checker.BadCall at
of_rule rule.NotConstant at = checker.NotConstant at
of_rule rule.BadInitialiser at = checker.BadInitialiser at
of_rule rule.BadType at = checker.BadType at
of_rule rule.BadReturn at = checker.BadReturn at
of_rule rule.BadJump at = checker.BadJump at
of_rule rule.BadLabel at = checker.BadLabel at

abbrev fault_of : Refusal → CheckFault
fault_of (rule_broken b) = of_rule b.rule b.offset
fault_of (no_main at) = checker.NoMain at
fault_of (above_limit q at count) = checker.Limit at (checks.quantity_number q) count

-- what a fault of the checker says of its answer
abbrev IsRefused : CheckFault → Result ProgramTree Refusal → Type 0
IsRefused e answer = (r : Refusal) × (answer ≡ Err r) × (fault_of r ≡ e)

refused : (e : CheckFault) (answer : Result ProgramTree Refusal) → e ≢ checker.NoMemory → checks.Refuses e answer → IsRefused e answer
refused (checker.Unknown at) answer some h = (rule_broken (record { rule = rule.Unknown; offset = at }), h, refl)
refused (checker.Redeclared at) answer some h = (rule_broken (record { rule = rule.Redeclared; offset = at }), h, refl)
refused (checker.NotAssignable at) answer some h = (rule_broken (record { rule = rule.NotAssignable; offset = at }), h, refl)
refused (checker.BadOperands at) answer some h = (rule_broken (record { rule = rule.BadOperands; offset = at }), h, refl)
refused (checker.BadCall at) answer some h = (rule_broken (record { rule = rule.BadCall; offset = at }), h, refl)
refused (checker.NotConstant at) answer some h = (rule_broken (record { rule = rule.NotConstant; offset = at }), h, refl)
refused (checker.BadInitialiser at) answer some h = (rule_broken (record { rule = rule.BadInitialiser; offset = at }), h, refl)
refused (checker.BadType at) answer some h = (rule_broken (record { rule = rule.BadType; offset = at }), h, refl)
refused (checker.BadReturn at) answer some h = (rule_broken (record { rule = rule.BadReturn; offset = at }), h, refl)
refused (checker.BadJump at) answer some h = (rule_broken (record { rule = rule.BadJump; offset = at }), h, refl)
refused (checker.BadLabel at) answer some h = (rule_broken (record { rule = rule.BadLabel; offset = at }), h, refl)
refused (checker.NoMain at) answer some h = (no_main at, h, refl)
refused (checker.Limit at which count) answer some h = (above_limit h.0 at count, h.2, ap (λ n. checker.Limit at n count) (sym h.1))
refused checker.NoMemory answer some h = absurd (some refl)

one_refusal : (e f : CheckFault) (answer : Result ProgramTree Refusal) → IsRefused e answer → IsRefused f answer → e ≡ f
one_refusal e f answer a b = sym a.2 ∙ ap fault_of (one_error answer a.0 b.0 a.1 b.1) ∙ b.2

-- the answer of the checker on the tree that there is
refused_at : (source : List ℕ) (t : Tree) (e : CheckFault) → HasTree source t → Refuses (fault.Check e) source → IsRefused e (check t (length source))
refused_at source t e has h =
    subst (λ u. IsRefused e (check u (length source))) (one_tree source t h.1.0 has h.1.1) (refused e (check h.1.0 (length source)) h.0 h.1.2)

has_no_refusal : (source : List ℕ) (p : ProgramTree) (e : CheckFault) → Checks source p → Refuses (fault.Check e) source → ⊥
has_no_refusal source p e checked h =
    let r = refused_at source checked.tree e checked.has_tree h in
    not_both (check checked.tree (length source)) p r.0 checked.checked r.1

-- ---- the limits of values

one_limit : (e f : BuildFault) → e ≢ build.NoMemory → f ≢ build.NoMemory → limit_named {O = Unit {0}} (Err e) ≡ limit_named {O = Unit {0}} (Err f) → e ≡ f
one_limit (build.Limit a) (build.Limit b) some other h = let same : a ≡ b = cc in ap build.Limit same
one_limit (build.Limit a) build.NoMemory some other h = absurd (other refl)
one_limit build.NoMemory f some other h = absurd (some refl)

-- the limit that is passed in the program that there is
named_at : (source : List ℕ) (p : ProgramTree) (e : BuildFault) → Checks source p → Refuses (fault.Build e) source → limit_named {O = Unit {0}} (Err e) ≡ limit_passed p.functions
named_at source p e checked h = h.1.2 ∙ ap (λ (q : ProgramTree). limit_passed q.functions) (one_checked source h.1.0 p h.1.1 checked)

has_no_limit : (source : List ℕ) (p : ProgramTree) (e : BuildFault) → Accepts source p → Refuses (fault.Build e) source → ⊥
has_no_limit source p e accepted h = by_fault e h.0 (named_at source p e accepted.checks h ∙ accepted.within)
  where
    by_fault : (f : BuildFault) → f ≢ build.NoMemory → limit_named {O = Unit {0}} (Err f) ≡ None → ⊥
    by_fault (build.Limit limit) some q = absurd cc
    by_fault build.NoMemory some q = some refl

-- ---- the laws

pub accepted_not_refused : ShapedIsAccepted → AcceptedIsNotRefused
accepted_not_refused shaped source p (fault.Lex e) some a h = not_both (lexed source) a.checks.has_tree.tokens e a.checks.has_tree.lexed h
accepted_not_refused shaped source p (fault.Parse e) some a h = has_no_syntax shaped source a.checks.tree e a.checks.has_tree h
accepted_not_refused shaped source p (fault.Check e) some a h = has_no_refusal source p e a.checks h
accepted_not_refused shaped source p (fault.Build e) some a h = has_no_limit source p e a h
accepted_not_refused shaped source p fault.NoMemory some a h = some refl

pub one_fault : OneAnswer → ShapedIsAccepted → OneFault
one_fault answer shaped source (fault.Lex e) (fault.Lex f) some other a b = ap fault.Lex (one_error (lexed source) e f a b)
one_fault answer shaped source (fault.Lex e) (fault.Parse f) some other a b = absurd (not_both (lexed source) b.1.0 e b.1.1 a)
one_fault answer shaped source (fault.Lex e) (fault.Check f) some other a b = absurd (not_both (lexed source) b.1.1.tokens e b.1.1.lexed a)
one_fault answer shaped source (fault.Lex e) (fault.Build f) some other a b = absurd (not_both (lexed source) b.1.1.has_tree.tokens e b.1.1.has_tree.lexed a)
one_fault answer shaped source (fault.Parse e) (fault.Lex f) some other a b = absurd (not_both (lexed source) a.1.0 f a.1.1 b)
one_fault answer shaped source (fault.Parse e) (fault.Parse f) some other a b =
    let same = subst (λ ts. Answers ts (length source) (Err f)) (one_value (lexed source) b.1.0 a.1.0 b.1.1 a.1.1) b.1.2 in
    ap fault.Parse (one_syntax e f a.0 b.0 (answer a.1.0 (length source) (Err e) (Err f) a.1.2 same))
one_fault answer shaped source (fault.Parse e) (fault.Check f) some other a b = absurd (has_no_syntax shaped source b.1.0 e b.1.1 a)
one_fault answer shaped source (fault.Parse e) (fault.Build f) some other a b = absurd (has_no_syntax shaped source b.1.1.tree e b.1.1.has_tree a)
one_fault answer shaped source (fault.Check e) (fault.Lex f) some other a b = absurd (not_both (lexed source) a.1.1.tokens f a.1.1.lexed b)
one_fault answer shaped source (fault.Check e) (fault.Parse f) some other a b = absurd (has_no_syntax shaped source a.1.0 f a.1.1 b)
one_fault answer shaped source (fault.Check e) (fault.Check f) some other a b =
    ap fault.Check (one_refusal e f (check a.1.0 (length source)) (refused_at source a.1.0 e a.1.1 a) (refused_at source a.1.0 f a.1.1 b))
one_fault answer shaped source (fault.Check e) (fault.Build f) some other a b = absurd (has_no_refusal source b.1.0 e b.1.1 a)
one_fault answer shaped source (fault.Build e) (fault.Lex f) some other a b = absurd (not_both (lexed source) a.1.1.has_tree.tokens f a.1.1.has_tree.lexed b)
one_fault answer shaped source (fault.Build e) (fault.Parse f) some other a b = absurd (has_no_syntax shaped source a.1.1.tree f a.1.1.has_tree b)
one_fault answer shaped source (fault.Build e) (fault.Check f) some other a b = absurd (has_no_refusal source a.1.0 f a.1.1 b)
one_fault answer shaped source (fault.Build e) (fault.Build f) some other a b =
    ap fault.Build (one_limit e f a.0 b.0 (named_at source a.1.0 e a.1.1 a ∙ sym (named_at source a.1.0 f a.1.1 b)))
one_fault answer shaped source fault.NoMemory f some other a b = absurd (some refl)
one_fault answer shaped source e fault.NoMemory some other a b = absurd (other refl)
