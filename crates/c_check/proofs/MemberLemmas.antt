-- Members, one more, and a member from its type on.
use Rattle.std.proofs.Common.{◌≡◌, ℕ, false, List, [], ◌∷◌, ◌++◌, length, map, refl, sym, ap, ◌∙◌}
use Rattle.c_lex.specs.declared.punct.Punct.TheVariants as m
use Rattle.c_ast.specs.declared.external.Member.{Member as MemberItem}
use Rattle.c_ast.specs.declared.external.Members.{Members}
use Rattle.c_ast.specs.declared.list.Next.{Next}
use Rattle.c_ast.specs.Productions as l
use Rattle.c_ast.specs.Nodes.{mark}
use Rattle.c_ast.specs.Expressions.{next, dimensions as dimension_trees}
use Rattle.c_ast.specs.Externals.{member as member_tree, members as members_tree, more_members as member_trees}
use Rattle.c_ast.specs.Specifiers.{spec_tree}
use Rattle.c_ast.proofs.lemmas.Lists.{many-none, many-snoc}
use Rattle.c_check_expression.proofs.lemmas.Lists.{count_many}
use Rattle.c_check_scope.specs.Scopes.{Name}
use Rattle.c_check_def.specs.declared.dimension.Dimension.{Dimension}
use Rattle.c_check_def.specs.declared.dimension.Dimension.TheVariants as dimension
use Rattle.c_check_def.specs.State.{MaybeType, State}
use Rattle.c_check_def.specs.Specifiers.{Specified, specified_type}
use Rattle.c_check_def.specs.DeclaredTypes.{MaybeSize, object_type}
use Rattle.c_check_def.specs.Expressions.{dimensions}
use Rattle.c_check_def.specs.Externals.{Member, member, more_member, members, more_members}
use Rattle.c_check.specs.Structs.{member_typed, members_trees}

-- ---- repetitions

pub member-none : (x : Specified) (xs : List Member) (s : State) → more_member x xs (member_trees []) s ≡ (xs, s)
member-none x xs s = ap (λ t. more_member x xs t s) (many-none l.MoreMember (next member_tree))

pub member-more : (x : Specified) (xs : List Member) (ms : List (Next MemberItem)) (y : Next MemberItem) (s : State) →
    let r = more_member x xs (member_trees ms) s in
    more_member x xs (member_trees (ms ++ y ∷ [])) s ≡ member x r.0 (member_tree y.element) r.1
member-more x xs ms y s = ap (λ t. more_member x xs t s) (many-snoc l.MoreMember (next member_tree) ms y)

pub members-none : (xs : List Member) (s : State) → more_members xs (members_trees []) s ≡ (xs, s)
members-none xs s = ap (λ t. more_members xs t s) (many-none l.MoreMembers (λ y. members_tree y ∷ []))

pub members-more : (xs : List Member) (ms : List Members) (y : Members) (s : State) →
    let r = more_members xs (members_trees ms) s in
    more_members xs (members_trees (ms ++ y ∷ [])) s ≡ members r.0 (members_tree y) r.1
members-more xs ms y s = ap (λ t. more_members xs t s) (many-snoc l.MoreMembers (λ y. members_tree y ∷ []) ms y)

-- ---- one member, from its type on

abbrev typed : (at : ℕ) → Specified → List Member → Name → (stars : ℕ) → List Dimension → State → List Member × State
typed at x xs name n ds s = let t = object_type false at x n ds s in member_typed xs name at t.0 t.1

pub member-of : (x : Specified) (xs : List Member) (y : MemberItem) (s s1 : State) (ns : List MaybeSize) (ds : List Dimension) (n : ℕ) (t : MaybeType) (s2 : State) →
    ns ≡ (dimensions (dimension_trees y.dimensions) s).0 → s1 ≡ (dimensions (dimension_trees y.dimensions) s).1 → ds ≡ map dimension.Sized ns → n ≡ length y.stars →
    t ≡ (object_type false y.name.span.at x n ds s1).0 → s2 ≡ (object_type false y.name.span.at x n ds s1).1 →
    member x xs (member_tree y) s ≡ member_typed xs y.name.name y.name.span.at t s2
unfolding member_tree
member-of x xs y s s1 ns ds n t s2 p q r e f g =
    let at = y.name.span.at in
    let name = y.name.name in
    let d = dimensions (dimension_trees y.dimensions) s in
    let count = count_many l.Stars (λ span. mark m.Star span ∷ []) y.stars in
    let whole : member x xs (member_tree y) s ≡ typed at x xs name (length y.stars) (map dimension.Sized d.0) d.1 =
    ap (λ n. typed at x xs name n (map dimension.Sized d.0) d.1) count in
    whole ∙ ap (λ ns. typed at x xs name (length y.stars) (map dimension.Sized ns) d.1) (sym p)
    ∙ ap (typed at x xs name (length y.stars) (map dimension.Sized ns)) (sym q)
    ∙ ap (λ ds. typed at x xs name (length y.stars) ds s1) (sym r)
    ∙ ap (λ n. typed at x xs name n ds s1) (sym e)
    ∙ ap (λ t. member_typed xs name at t (object_type false at x n ds s1).1) (sym f)
    ∙ ap (member_typed xs name at t) (sym g)

-- ---- the members of one type

pub members-of : (xs : List Member) (y : Members) (s s1 : State) (x : Specified) (ys : List Member) (s2 : State) →
    x ≡ (specified_type (spec_tree y.spec) s).0 → s1 ≡ (specified_type (spec_tree y.spec) s).1 →
    ys ≡ (member x xs (member_tree y.first) s1).0 → s2 ≡ (member x xs (member_tree y.first) s1).1 →
    members xs (members_tree y) s ≡ more_member x ys (member_trees y.more) s2
unfolding members_tree
members-of xs y s s1 x ys s2 p q e f =
    let z = specified_type (spec_tree y.spec) s in
    let step : Specified → State → List Member × State = λ x s. let r = member x xs (member_tree y.first) s in more_member x r.0 (member_trees y.more) r.1 in
    let whole : members xs (members_tree y) s ≡ step z.0 z.1 = refl in
    whole ∙ ap (λ x. step x z.1) (sym p) ∙ ap (step x) (sym q)
    ∙ ap (λ ys. more_member x ys (member_trees y.more) (member x xs (member_tree y.first) s1).1) (sym e)
    ∙ ap (more_member x ys (member_trees y.more)) (sym f)
