-- Whether parameters are a lone `void`.
use Rattle.std.proofs.Common.{◌≡◌, ℕ, ◌==◌, Bool, true, false, List, [], ◌∷◌, ◌++◌, fold, Option, None, Some, IsTrue, ◌↔◌, refl, sym, ap, ◌∙◌, arith, eqb-true}
use Rattle.std.specs.Prelude.{◌&&◌, if◌then◌else◌}
use Rattle.std.proofs.lemmas.Bool.{false≢true, and_parts}
use Rattle.c_lex.specs.declared.punct.Punct.TheVariants as m
use Rattle.c_ast.specs.declared.declaration.OpenDimension.{OpenDimension}
use Rattle.c_ast.specs.declared.external.Param.{Param as ParamItem}
use Rattle.c_ast.specs.declared.external.Params.{Params}
use Rattle.c_ast.specs.declared.list.Next.{Next}
use Rattle.c_ast.specs.declared.specifier.Base.{Base}
use Rattle.c_ast.specs.declared.specifier.Base.TheVariants as base
use Rattle.c_ast.specs.declared.specifier.Spec.{Spec}
use Rattle.c_ast.specs.declared.specifier.Spec.TheVariants as spec
use Rattle.c_ast.specs.declared.token.Identifier.{Identifier}
use Rattle.c_ast.specs.declared.token.Span.{Span}
use Rattle.c_ast.specs.Productions as l
use Rattle.c_ast.specs.Productions.{Repeated}
use Rattle.c_ast.specs.Tree.{Tree, Node, Nil, Cons}
use Rattle.c_ast.specs.Nodes.{many, one_more, none_of, opt, mark, name}
use Rattle.c_ast.specs.Expressions.{next}
use Rattle.c_ast.specs.Specifiers.{constant, base_tree, spec_tree}
use Rattle.c_ast.specs.Declarations.{open_dimension}
use Rattle.c_ast.specs.Externals.{AreNone, param as param_tree, params as params_tree}
use Rattle.c_check_expression.proofs.lemmas.Lists.{count_many}
use Rattle.c_check_def.specs.Leaves.{count_of}
use Rattle.c_check_def.specs.State.{State, pure}
use Rattle.c_check_def.specs.Externals.{Param, is_lone_void, param, more_params, params}

-- a repetition of at least one
abbrev IsMore : Tree → Type 0
IsMore (Node (l.More k) children) = Unit {0}
IsMore t = ⊥

fold-more : {X : Type 0} (k : Repeated) (element : X → List Tree) (xs : List X) (t : Tree) → IsMore t → IsMore (fold (one_more k element) t xs)
fold-more k element [] t h = h
fold-more k element (x ∷ xs) t h = fold-more k element xs (one_more k element t x) tt

many-more : {X : Type 0} (k : Repeated) (element : X → List Tree) (x : X) (xs : List X) → IsMore (many k element (x ∷ xs))
unfolding many
many-more k element x xs = fold-more k element xs (one_more k element (none_of k) x) tt

-- a parameter of these parts
abbrev param_node : (qualifier specifier stars name bounds : Tree) → Tree
param_node q s n a b = Node l.Param (Cons q (Cons s (Cons n (Cons a (Cons b Nil)))))

not-starred : (span : Span) (n a b : Tree) → IsMore n → is_lone_void (param_node (constant None) (spec_tree (spec.Void span)) n a b) ≡ false
not-starred span (Node (l.More k) c) a b h = refl
not-starred span t a b h = absurd h

not-array : (span : Span) (b : Tree) → IsMore b →
    is_lone_void (param_node (constant None) (spec_tree (spec.Void span)) (none_of l.Stars) (opt {X = Identifier} l.ParamName (λ i. name i ∷ []) None) b) ≡ false
not-array span (Node (l.More k) c) h = refl
not-array span t h = absurd h

not-void : (x : Base) (n a b : Tree) → is_lone_void (param_node (constant None) (base_tree x) n a b) ≡ false
not-void (base.Char span) n a b = refl
not-void (base.Int span) n a b = refl
not-void (base.Short short int) n a b = refl

abbrev void_param : Span → ParamItem
void_param span = record { qualifier = None; spec = spec.Void span; stars = []; name = None; dimensions = [] }

-- A parameter that the definition takes for a lone `void` is one.
lone-is : (q : Option Span) (s : Spec) (n : List Span) (a : Option Identifier) (b : List OpenDimension) →
    is_lone_void (param_node (constant q) (spec_tree s) (many l.Stars (λ span. mark m.Star span ∷ []) n) (opt l.ParamName (λ i. name i ∷ []) a) (many l.OpenDimensions open_dimension b)) ≡ true →
    (span : Span) × (◌≡◌ {A = ParamItem} (record { qualifier = q; spec = s; stars = n; name = a; dimensions = b }) (void_param span))
unfolding many
lone-is (Some q) s n a b h = absurd (cc)
lone-is None (spec.Plain x) n a b h = absurd (false≢true (sym (not-void x _ _ _) ∙ h))
lone-is None (spec.Struct keyword tag) n a b h = absurd (cc)
lone-is None (spec.Signed sign span x) n a b h = absurd (cc)
lone-is None (spec.Void span) (x ∷ n) a b h = absurd (false≢true (sym (not-starred span _ _ _ (many-more l.Stars (λ span. mark m.Star span ∷ []) x n)) ∙ h))
lone-is None (spec.Void span) [] (Some a) b h = absurd (cc)
lone-is None (spec.Void span) [] None (x ∷ b) h = absurd (false≢true (sym (not-array span _ (many-more l.OpenDimensions open_dimension x b)) ∙ h))
lone-is None (spec.Void span) [] None [] h = (span, refl)

void-lone : (span : Span) → is_lone_void (param_tree (void_param span)) ≡ true
unfolding param_tree many
void-lone span = refl

nothing-more : (xs : List (Next ParamItem)) → (count_of (many l.MoreParams (next param_tree) xs) == 0) ≡ true → xs ≡ []
nothing-more [] h = refl
nothing-more (x ∷ xs) h =
    let n = count_many l.MoreParams (next param_tree) (x ∷ xs) in
    let none = eqb-true (count_of (many l.MoreParams (next param_tree) (x ∷ xs))) 0 h in
    absurd (omega (arith, n, none))

abbrev pub lone : Params → Bool
lone p = is_lone_void (param_tree p.first) && (count_of (many l.MoreParams (next param_tree) p.more) == 0)

none-lone : (p : Params) → AreNone p → lone p ≡ true
none-lone p h =
    ap lone h.1 ∙ ap (λ b. b && (count_of (many l.MoreParams (next param_tree) []) == 0)) (void-lone h.0)
    ∙ ap (λ (n : ℕ). n == 0) (count_many l.MoreParams (next param_tree) [])

lone-none : (p : Params) → lone p ≡ true → AreNone p
unfolding param_tree
lone-none p h =
    let x = p.first in
    let parts = and_parts (is_lone_void (param_tree x)) (count_of (many l.MoreParams (next param_tree) p.more) == 0) h in
    let r = lone-is x.qualifier x.spec x.stars x.name x.dimensions parts.0 in
    let e = nothing-more p.more parts.1 in
    (r.0, λ i. record { first = r.1 i; more = e i })

-- The test of the code is that of the definition.
pub lone-test : (p : Params) (b : Bool) → IsTrue b ↔ AreNone p → lone p ≡ b
lone-test p true h = none-lone p (h.0 refl)
lone-test p false h = by_test (lone p) refl
  where
    by_test : (c : Bool) → lone p ≡ c → c ≡ false
    by_test true e = absurd (false≢true (h.1 (lone-none p e)))
    by_test false e = refl

-- ---- the parameters, where they are a lone `void`, and where not

abbrev each : Params → State → List Param × State
each p s = let a = param (param_tree p.first) s in let b = more_params (many l.MoreParams (next param_tree) p.more) a.1 in (a.0 ++ b.0, b.1)

pub lone-params : (p : Params) (s : State) → lone p ≡ true → params (params_tree (Some p)) s ≡ ([], s)
lone-params p s h = ap (λ (b : Bool). (if b then pure [] else each p) s) h

pub each-params : (p : Params) (s : State) → lone p ≡ false → params (params_tree (Some p)) s ≡ each p s
each-params p s h = ap (λ (b : Bool). (if b then pure [] else each p) s) h
