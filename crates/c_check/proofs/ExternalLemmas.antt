-- What the definition says of each declaration at file scope.
use Rattle.std.proofs.Common.{◌≡◌, ℕ, ◌+◌, ◌<◌, Bool, false, true, List, [], ◌∷◌, length, take, get_or, Option, None, Some, is_some, refl, sym, ap, ◌∙◌}
use Rattle.std.proofs.lemmas.Option.{same_Some}
use Rattle.std.specs.Prelude.{unwrap_or}
use Rattle.c_lex.specs.declared.keyword.Keyword.TheVariants as w
use Rattle.c_lex.specs.declared.punct.Punct.TheVariants as m
use Rattle.c_ast.specs.declared.declaration.Declarator.{Declarator}
use Rattle.c_ast.specs.declared.external.External.{External}
use Rattle.c_ast.specs.declared.external.External.TheVariants as e
use Rattle.c_ast.specs.declared.external.Function.{Function}
use Rattle.c_ast.specs.declared.external.Globals.{Globals}
use Rattle.c_ast.specs.declared.external.StructBody.{StructBody}
use Rattle.c_ast.specs.declared.external.Structure.{Structure}
use Rattle.c_ast.specs.declared.list.Next.{Next}
use Rattle.c_ast.specs.declared.specifier.Spec.{Spec}
use Rattle.c_ast.specs.declared.specifier.Spec.TheVariants as spec
use Rattle.c_ast.specs.declared.token.Span.{Span}
use Rattle.c_ast.specs.Declarations as trees
use Rattle.c_ast.specs.Externals.{specified, declared_with, struct_rest, params as params_tree, body_tree, function_rest, external_tree}
use Rattle.c_ast.specs.Nodes.{node, mark, word, name, many}
use Rattle.c_ast.specs.Productions as l
use Rattle.c_ast.specs.Specifiers.{constant, stars, spec_tree}
use Rattle.c_ast.specs.Spelling.{spelled, start_of}
use Rattle.c_ast.specs.Tree.{Tree, Nil}
use Rattle.c_ast.proofs.lemmas.Lists.{many-none}
use Rattle.c_check_expression.proofs.lemmas.Lists.{count_many, many_next}
use Rattle.c_check_scope.specs.Scopes.{Name}
use Rattle.c_check_def.specs.Leaves.{offset_of, name_of, count_of, is_present}
use Rattle.c_check_def.specs.State.{State, after}
use Rattle.c_check_def.specs.Specifiers.{Specified, specified_type}
use Rattle.c_check_def.specs.Declarators.{global_declarator, more_globals}
use Rattle.c_check_def.specs.Externals.{struct, function, after_name, external}
use Rattle.c_check_def.specs.Check.{externals}
use Rattle.c_check.specs.Functions.{unless_broken}

-- ---- specifiers

abbrev declared : (stars name rest : Tree) → Tree
declared a n rest = node l.Declared (a ∷ n ∷ rest ∷ [])

abbrev following : (at : ℕ) → Bool → (stars name rest : Tree) → Specified → State → Unit {0} × State
following at is_const a n rest y = after_name at y is_const (count_of a) (name_of n) (offset_of n) rest

by_specifiers : (storage qualifier : Option Span) (x : Spec) (a n rest : Tree) (at : ℕ) (s : State) → start_of (declared_with storage qualifier x Nil) ≡ Some at →
    external (declared_with storage qualifier x (declared a n rest)) s ≡ after (specified_type (spec_tree x) s) (following at (is_some qualifier) a n rest)
unfolding spelled
by_specifiers (Some k) q x a n rest at s h =
    let present : is_present (constant q) ≡ is_some q = elim q as (λ q. is_present (constant q) ≡ is_some q) [
      | None ↦ refl
      | Some a ↦ refl
    ] in
    ap (λ b. after (specified_type (spec_tree x) s) (following k.at b a n rest)) present
    ∙ ap (λ o. after (specified_type (spec_tree x) s) (following o (is_some q) a n rest)) (same_Some k.at at h)
by_specifiers None (Some k) x a n rest at s h = ap (λ o. after (specified_type (spec_tree x) s) (following o true a n rest)) (same_Some k.at at h)
by_specifiers None None (spec.Struct k t) a n rest at s h = ap (λ o. after (specified_type (spec_tree (spec.Struct k t)) s) (following o false a n rest)) (same_Some k.at at h)
by_specifiers None None (spec.Void k) a n rest at s h = ap (λ o. after (specified_type (spec_tree (spec.Void k)) s) (following o false a n rest)) (same_Some k.at at h)
by_specifiers None None (spec.Plain b) a n rest at s h =
    ap (λ o. after (specified_type (spec_tree (spec.Plain b)) s) (following (unwrap_or o 0) false a n rest)) h
by_specifiers None None (spec.Signed k b c) a n rest at s h =
    ap (λ o. after (specified_type (spec_tree (spec.Signed k b c)) s) (following (unwrap_or o 0) false a n rest)) h

-- ---- structs

by_rest : (x : Structure) (y : Option StructBody) (s : State) → external (node l.Struct (word w.Struct x.keyword ∷ name x.tag ∷ struct_rest y x.semicolon ∷ [])) s
    ≡ struct x.tag.name x.tag.span.at (struct_rest y x.semicolon) s
by_rest x None s = refl
by_rest x (Some b) s = refl

pub external_struct : (x : Structure) (s : State) → external (external_tree (e.Struct x)) s ≡ struct x.tag.name x.tag.span.at (struct_rest x.body x.semicolon) s
unfolding external_tree
external_struct x s = by_rest x x.body s

-- ---- functions

abbrev made_function : Function → (at stars : ℕ) → Specified → State → Unit {0} × State
made_function x at n y = function at y n x.name.name x.name.span.at (params_tree x.params) (body_tree x.body)

pub function_from : (x : Function) (at : ℕ) (s t : State) (y : Specified) → ((r : Tree) → start_of (specified x.specifiers r) ≡ Some at)
    → y ≡ (specified_type (spec_tree x.specifiers.spec) s).0 → t ≡ (specified_type (spec_tree x.specifiers.spec) s).1
    → made_function x at (length x.stars) y t ≡ external (external_tree (e.Function x)) s
unfolding external_tree specified
function_from x at s t y h value state =
    let r = specified_type (spec_tree x.specifiers.spec) s in
    ap (λ z. made_function x at (length x.stars) z t) value ∙ ap (made_function x at (length x.stars) r.0) state
    ∙ ap (λ n. made_function x at n r.0 r.1) (sym (count_many l.Stars (λ span. mark m.Star span ∷ []) x.stars))
    ∙ sym (by_specifiers x.specifiers.storage x.specifiers.qualifier x.specifiers.spec (stars x.stars) (name x.name) (function_rest x) at s (h Nil))

-- ---- variables

abbrev declared_globals : (bounds begun more semicolon : Tree) → Tree
declared_globals bounds begun more semicolon = node l.Globals (bounds ∷ begun ∷ more ∷ semicolon ∷ [])

abbrev all_globals : Bool → (stars : ℕ) → Name → (offset : ℕ) → (bounds begun more : Tree) → Specified → State → Unit {0} × State
all_globals b n x at bounds begun more y s = more_globals y b more (global_declarator y b n x at bounds begun s).1

by_storage : (storage qualifier : Option Span) (x : Spec) (a n bounds begun more semicolon : Tree) (s : State) →
    external (declared_with storage qualifier x (declared a n (declared_globals bounds begun more semicolon))) s
    ≡ after (specified_type (spec_tree x) s) (all_globals (is_some qualifier) (count_of a) (name_of n) (offset_of n) bounds begun more)
by_storage (Some k) q x a n bounds begun more semicolon s =
    let present : is_present (constant q) ≡ is_some q = elim q as (λ q. is_present (constant q) ≡ is_some q) [
      | None ↦ refl
      | Some a ↦ refl
    ] in
    ap (λ b. after (specified_type (spec_tree x) s) (all_globals b (count_of a) (name_of n) (offset_of n) bounds begun more)) present
by_storage None (Some k) x a n bounds begun more semicolon s = refl
by_storage None None (spec.Struct k t) a n bounds begun more semicolon s = refl
by_storage None None (spec.Void k) a n bounds begun more semicolon s = refl
by_storage None None (spec.Plain b) a n bounds begun more semicolon s = refl
by_storage None None (spec.Signed k b c) a n bounds begun more semicolon s = refl

abbrev made_globals : Globals → Bool → (stars : ℕ) → List (Next Declarator) → Specified → State → Unit {0} × State
made_globals x b n more =
    all_globals b n x.first.name.name x.first.name.span.at (trees.open_dimensions x.first.dimensions) (trees.initializer x.first.initializer) (trees.more_declarators more)

abbrev first_global : Globals → Bool → Specified → State → Unit {0} × State
first_global x b y =
    global_declarator y b (length x.first.stars) x.first.name.name x.first.name.span.at (trees.open_dimensions x.first.dimensions) (trees.initializer x.first.initializer)

pub globals_from : (x : Globals) (s t u : State) (y : Specified) (b : Bool) (more : List (Next Declarator))
    → y ≡ (specified_type (spec_tree x.specifiers.spec) s).0 → t ≡ (specified_type (spec_tree x.specifiers.spec) s).1 → b ≡ is_some x.specifiers.qualifier → more ≡ x.more
    → u ≡ (first_global x b y t).1 → more_globals y b (trees.more_declarators more) u ≡ external (external_tree (e.Globals x)) s
unfolding external_tree specified
globals_from x s t u y b more value state fixed same first =
    let r = specified_type (spec_tree x.specifiers.spec) s in
    let n = length x.first.stars in
    ap (more_globals y b (trees.more_declarators more)) first ∙ ap (λ m. made_globals x b n m y t) same ∙ ap (λ c. made_globals x c n x.more y t) fixed
    ∙ ap (λ z. made_globals x (is_some x.specifiers.qualifier) n x.more z t) value ∙ ap (made_globals x (is_some x.specifiers.qualifier) n x.more r.0) state
    ∙ ap (λ k. made_globals x (is_some x.specifiers.qualifier) k x.more r.0 r.1) (sym (count_many l.Stars (λ span. mark m.Star span ∷ []) x.first.stars))
    ∙ sym (by_storage x.specifiers.storage x.specifiers.qualifier x.specifiers.spec (stars x.first.stars) (name x.first.name) (trees.open_dimensions x.first.dimensions)
    (trees.initializer x.first.initializer) (trees.more_declarators x.more) (mark m.Semicolon x.semicolon) s)

-- ---- one more declaration

pub externals-begun : (s : State) → externals (many l.Externals (λ x. external_tree x ∷ []) []) s ≡ (tt, s)
externals-begun s = ap (λ t. externals t s) (many-none l.Externals (λ x. external_tree x ∷ []))

pub externals-after : (xs : List External) (i : ℕ) (x : External) (s : State) → i < length xs → x ≡ get_or xs i x →
    externals (many l.Externals (λ y. external_tree y ∷ []) (take (i + 1) xs)) s
    ≡ unless_broken (external_tree x) (externals (many l.Externals (λ y. external_tree y ∷ []) (take i xs)) s).1
externals-after xs i x s below is = ap (λ t. externals t s) (many_next l.Externals (λ y. external_tree y ∷ []) xs i x below is)
