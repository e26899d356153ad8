-- The names of functions that a file defines.
use Rattle.std.proofs.Common.{◌≡◌, ℕ, ◌+◌, ◌<◌, Bool, List, [], ◌∷◌, length, take, get_or, Option, None, Some, refl, ap, ◌∙◌}
use Rattle.std.specs.Prelude.{if◌then◌else◌}
use Rattle.c_ast.specs.declared.external.Body.{Body}
use Rattle.c_ast.specs.declared.external.Body.TheVariants as body
use Rattle.c_ast.specs.declared.external.External.{External}
use Rattle.c_ast.specs.declared.external.External.TheVariants as e
use Rattle.c_ast.specs.declared.external.Function.{Function}
use Rattle.c_ast.specs.declared.external.Globals.{Globals}
use Rattle.c_ast.specs.declared.external.StructBody.{StructBody}
use Rattle.c_ast.specs.declared.external.Structure.{Structure}
use Rattle.c_ast.specs.declared.specifier.Spec.{Spec}
use Rattle.c_ast.specs.declared.specifier.Spec.TheVariants as spec
use Rattle.c_ast.specs.declared.token.Span.{Span}
use Rattle.c_ast.specs.Externals.{specified, declared_with, body_tree, external_tree, struct_rest}
use Rattle.c_ast.specs.Nodes.{many}
use Rattle.c_ast.specs.Productions as l
use Rattle.c_ast.specs.Statements.{block_tree}
use Rattle.c_ast.specs.Tree.{Tree}
use Rattle.c_ast.proofs.lemmas.Lists.{many-none}
use Rattle.c_check_expression.proofs.lemmas.Lists.{many_next}
use Rattle.c_check_scope.specs.Scopes.{Name}
use Rattle.c_check_def.specs.Externals.{is_block}
use Rattle.c_check_def.specs.Check.{defined_in, defined_by, defined_after_type, with_defined}

by_specifiers : (storage qualifier : Option Span) (x : Spec) (rest : Tree) → defined_by (declared_with storage qualifier x rest) ≡ defined_after_type rest
by_specifiers (Some a) qualifier x rest = refl
by_specifiers None (Some a) x rest = refl
by_specifiers None None (spec.Struct k t) rest = refl
by_specifiers None None x rest = refl

abbrev name_if : Bool → Name → Option Name
name_if b name = if b then Some name else None

by_body : (f : Function) (b : Body) → f.body ≡ b → defined_by (external_tree (e.Function f)) ≡ name_if (is_block (body_tree b)) f.name.name
unfolding external_tree specified body_tree block_tree
by_body f (body.Prototype a) h = by_specifiers f.specifiers.storage f.specifiers.qualifier f.specifiers.spec _ ∙ rw h refl
by_body f (body.Block x) h = by_specifiers f.specifiers.storage f.specifiers.qualifier f.specifiers.spec _ ∙ rw h refl

pub defined_function : (f : Function) → defined_by (external_tree (e.Function f)) ≡ name_if (is_block (body_tree f.body)) f.name.name
defined_function f = by_body f f.body refl

pub defined_globals : (x : Globals) → defined_by (external_tree (e.Globals x)) ≡ None
unfolding external_tree specified
defined_globals x = by_specifiers x.specifiers.storage x.specifiers.qualifier x.specifiers.spec _

by_rest : (x : Option StructBody) (a : Span) → defined_after_type (struct_rest x a) ≡ None
by_rest None a = refl
by_rest (Some x) a = refl

pub defined_struct : (x : Structure) → defined_by (external_tree (e.Struct x)) ≡ None
unfolding external_tree
defined_struct x = by_rest x.body x.semicolon

pub ruleset defined = (defined_function, defined_globals, defined_struct)

-- ---- one more declaration

pub defined-begun : defined_in (many l.Externals (λ x. external_tree x ∷ []) []) ≡ []
defined-begun = ap defined_in (many-none l.Externals (λ x. external_tree x ∷ []))

pub defined-after : (xs : List External) (i : ℕ) (x : External) → i < length xs → x ≡ get_or xs i x →
    defined_in (many l.Externals (λ y. external_tree y ∷ []) (take (i + 1) xs))
    ≡ with_defined (defined_in (many l.Externals (λ y. external_tree y ∷ []) (take i xs))) (defined_by (external_tree x))
defined-after xs i x below is = ap defined_in (many_next l.Externals (λ y. external_tree y ∷ []) xs i x below is)
