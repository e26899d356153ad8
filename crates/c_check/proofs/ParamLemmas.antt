-- Parameters, one more, and a parameter from its parts on.
use Rattle.std.proofs.Common.{◌≡◌, ℕ, Bool, List, [], ◌∷◌, ◌++◌, length, Option, None, Some, is_some, refl, sym, ap, ◌∙◌}
use Rattle.std.specs.Option.{option_map}
use Rattle.c_lex.specs.declared.punct.Punct.TheVariants as m
use Rattle.c_ast.specs.declared.external.Param.{Param as ParamItem}
use Rattle.c_ast.specs.declared.list.Next.{Next}
use Rattle.c_ast.specs.declared.token.Identifier.{Identifier}
use Rattle.c_ast.specs.Productions as l
use Rattle.c_ast.specs.Tree.{Tree, Nil, Cons}
use Rattle.c_ast.specs.Nodes.{many, opt, mark, name}
use Rattle.c_ast.specs.Expressions.{next}
use Rattle.c_ast.specs.Declarations.{open_dimensions as dimension_trees}
use Rattle.c_ast.specs.Externals.{param as param_tree}
use Rattle.c_ast.specs.Specifiers.{constant, spec_tree}
use Rattle.c_ast.proofs.lemmas.Lists.{many-none, many-snoc}
use Rattle.c_check_expression.proofs.lemmas.Lists.{count_many}
use Rattle.c_check_scope.specs.Scopes.{Name}
use Rattle.c_check_def.specs.State.{State}
use Rattle.c_check_def.specs.Leaves.{begin_of, is_present}
use Rattle.c_check_def.specs.Specifiers.{Specified, specified_type}
use Rattle.c_check_def.specs.declared.dimension.Dimension.{Dimension}
use Rattle.c_check_def.specs.Declarators.{open_dimensions, is_fixed}
use Rattle.c_check_def.specs.Externals.{Param, param, param_name, param_offset, more_params}
use Rattle.c_check.specs.Params.{param_typed, param_specified}

-- ---- repetitions

pub params-none : (s : State) → more_params (many l.MoreParams (next param_tree) []) s ≡ ([], s)
params-none s = ap (λ t. more_params t s) (many-none l.MoreParams (next param_tree))

pub params-more : (xs : List (Next ParamItem)) (x : Next ParamItem) (s : State) →
    let r = more_params (many l.MoreParams (next param_tree) xs) s in
    more_params (many l.MoreParams (next param_tree) (xs ++ x ∷ [])) s ≡ (r.0 ++ (param (param_tree x.element) r.1).0, (param (param_tree x.element) r.1).1)
params-more xs x s = ap (λ t. more_params t s) (many-snoc l.MoreParams (next param_tree) xs x)

-- ---- one parameter

name-is : (x : Option Identifier) → param_name (opt l.ParamName (λ i. name i ∷ []) x) ≡ option_map (λ (i : Identifier). i.name) x
name-is None = refl
name-is (Some i) = refl

abbrev pub begin_offset : ParamItem → ℕ
begin_offset x = param_offset (begin_of (Cons (constant x.qualifier) (Cons (spec_tree x.spec) Nil))) (opt l.ParamName (λ i. name i ∷ []) x.name)

abbrev made : ParamItem → (is_const : Bool) → (stars : ℕ) → Option Name → Specified → State → List Param × State
made x b n o y s = let p = param_specified (begin_offset x) y b n o (dimension_trees x.dimensions) s in (p.0 ∷ [], p.1)

-- from its type specifier on
pub param-of : (x : ParamItem) (s s1 : State) (y : Specified) → y ≡ (specified_type (spec_tree x.spec) s).0 → s1 ≡ (specified_type (spec_tree x.spec) s).1 →
    param (param_tree x) s ≡ made x (is_some x.qualifier) (length x.stars) (option_map (λ (i : Identifier). i.name) x.name) y s1
unfolding param_tree param_specified param_typed
param-of x s s1 y p q =
    let z = specified_type (spec_tree x.spec) s in
    let named = opt l.ParamName (λ i. name i ∷ []) x.name in
    let n = count_many l.Stars (λ span. mark m.Star span ∷ []) x.stars in
    let present : is_present (constant x.qualifier) ≡ is_some x.qualifier = elim x.qualifier as (λ q. is_present (constant q) ≡ is_some q) [
      | None ↦ refl
      | Some a ↦ refl
    ] in
    let whole : param (param_tree x) s ≡ made x (is_present (constant x.qualifier)) (length x.stars) (param_name named) z.0 z.1 =
    ap (λ n. made x (is_present (constant x.qualifier)) n (param_name named) z.0 z.1) n in
    whole ∙ ap (λ b. made x b (length x.stars) (param_name named) z.0 z.1) present
    ∙ ap (λ o. made x (is_some x.qualifier) (length x.stars) o z.0 z.1) (name-is x.name)
    ∙ ap (λ y. made x (is_some x.qualifier) (length x.stars) (option_map (λ (i : Identifier). i.name) x.name) y z.1) (sym p)
    ∙ ap (made x (is_some x.qualifier) (length x.stars) (option_map (λ (i : Identifier). i.name) x.name) y) (sym q)

-- from its dimensions on
pub specified-typed : (offset : ℕ) (y : Specified) (b : Bool) (n : ℕ) (o : Option Name) (bounds : Tree) (s s1 : State) (ds : List Dimension) →
    ds ≡ (open_dimensions bounds s).0 → s1 ≡ (open_dimensions bounds s).1 → param_specified offset y b n o bounds s ≡ param_typed offset y (is_fixed b n) n o ds s1
unfolding param_specified
specified-typed offset y b n o bounds s s1 ds p q =
    ap (λ ds. param_typed offset y (is_fixed b n) n o ds (open_dimensions bounds s).1) (sym p) ∙ ap (param_typed offset y (is_fixed b n) n o ds) (sym q)
