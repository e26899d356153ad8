-- What members keep: that their types are laid out, and, where no rule is broken at the end, that their names are distinct.
use Rattle.std.proofs.Common.{◌≡◌, ◌≤◌, ◌<◌, ℕ, Bool, true, false, List, [], ◌∷◌, ◌++◌, length, map, None, refl, sym, ap, ◌∙◌, subst, arith, length-append}
use Rattle.c_ast.specs.Productions as l
use Rattle.c_ast.specs.Tree.{Tree, Node, Cons}
use Rattle.c_ast.specs.Externals.{member as member_tree, members as members_tree, more_members as member_trees}
use Rattle.c_ast.specs.declared.external.Member.{Member as MemberItem}
use Rattle.c_ast.specs.declared.external.Members.{Members}
use Rattle.c_ast.specs.Expressions.{dimensions as dimension_trees}
use Rattle.c_ast.specs.Specifiers.{spec_tree, stars}
use Rattle.c_type.specs.Layout.{is_defined}
use Rattle.c_check_def.specs.declared.dimension.Dimension.TheVariants as dimension
use Rattle.c_check_def.specs.declared.refusal_kind.RefusalKind.TheVariants.{Redeclared}
use Rattle.c_check_def.specs.State.{State, breaks_if}
use Rattle.c_check_def.specs.Leaves.{offset_of, name_of, count_of}
use Rattle.c_check_def.specs.Specifiers.{Specified, specified_type}
use Rattle.c_check_def.specs.DeclaredTypes.{object_type}
use Rattle.c_check_def.specs.Expressions.{dimensions}
use Rattle.c_check_def.specs.Externals.{Member, has_member, member, more_member, members, more_members}
use Rattle.c_check_laws.proofs.lemmas.States.{Step, stay, step_then}
use Rattle.c_check_laws.proofs.lemmas.Steps.{breaks_if_steps, dimensions_steps, specified_type_steps}
use Rattle.c_check_laws.proofs.lemmas.StatementSteps.{object_type_steps}
use Rattle.c_check_laws.proofs.lemmas.Types.{IsNoArray, specified_no_array}
use Rattle.c_check.specs.MemberLists.{names_of, name_set, LaidIfSome, AllLaid, AreReady}
use Rattle.c_check.specs.Structs.{members_trees}
use Rattle.c_check.proofs.NameLemmas.{distinct-more}
use Rattle.c_check.proofs.TypeLemmas.{laid-more}
use Rattle.c_check.proofs.LaidLemmas.{dimensions-sizes, object-laid}

record Kept (s : State) (xs ys : List Member) (t : State) : Type 0 where
  step : Step s t
  distinct : t.broken ≡ None → name_set xs ≡ names_of xs → name_set ys ≡ names_of ys
  laid : AllLaid s.structs xs → AllLaid s.structs ys
  longer : length xs ≤ length ys

kept-stay : (s : State) (xs : List Member) → Kept s xs xs s
kept-stay s xs = record { step = stay s; distinct = λ clean d. d; laid = λ h. h; longer = omega arith }

kept-then : (s t u : State) (xs ys zs : List Member) → Kept s xs ys t → Kept t ys zs u → Kept s xs zs u
kept-then s t u xs ys zs a b = record {
  step = step_then s t u a.step b.step;
  distinct = λ clean d. b.distinct clean (a.distinct (b.step.broken clean) d);
  laid = λ h. subst (λ defs. AllLaid defs zs) a.step.structs (b.laid (subst (λ defs. AllLaid defs ys) (sym a.step.structs) (a.laid h)));
  longer = let h = a.longer in let k = b.longer in omega (arith, h, k);
}

-- a rule that is broken, or else the test is false
broken-test : (wrong : Bool) (offset : ℕ) (s : State) → (breaks_if wrong Redeclared offset s).1.broken ≡ None → wrong ≡ false
broken-test true offset s h = absurd (cc)
broken-test false offset s h = refl

member-kept : (x : Specified) (xs : List Member) (t : Tree) (s : State) → IsNoArray x.type → Kept s xs (member x xs t s).0 (member x xs t s).1
member-kept x xs (Node l.Member (Cons starred (Cons name (Cons bounds none)))) s base =
    let at = offset_of name in
    let ns = dimensions bounds s in
    let t = object_type false at x (count_of starred) (map dimension.Sized ns.0) ns.1 in
    let wrong = has_member xs (name_of name) in
    let first = dimensions_steps bounds s in
    let last : Member = record { name = name_of name; type = t.0 } in
    record {
      step = step_then s ns.1 _ first (step_then ns.1 t.1 _ (object_type_steps false at x (count_of starred) (map dimension.Sized ns.0) ns.1) (breaks_if_steps wrong Redeclared at t.1));
      distinct = λ clean d. distinct-more xs last d (broken-test wrong at t.1 clean);
      laid = λ h. laid-more s.structs xs last h (subst (λ defs. LaidIfSome defs t.0) first.structs (object-laid at x (count_of starred) ns.0 ns.1 base (dimensions-sizes bounds s)));
      longer = let n = length-append xs (last ∷ []) in omega (arith, n);
    }
member-kept x xs t s base = kept-stay s xs

more-member-kept : (x : Specified) (xs : List Member) (t : Tree) (s : State) → IsNoArray x.type → Kept s xs (more_member x xs t s).0 (more_member x xs t s).1
more-member-kept x xs (Node (l.More k) (Cons before (Cons comma (Cons t none)))) s base =
    let ys = more_member x xs before s in
    kept-then s ys.1 _ xs ys.0 _ (more-member-kept x xs before s base) (member-kept x ys.0 t ys.1 base)
more-member-kept x xs t s base = kept-stay s xs

kept-after : (s t u : State) (xs ys : List Member) → Step s t → Kept t xs ys u → Kept s xs ys u
kept-after s t u xs ys a b = record {
  step = step_then s t u a b.step;
  distinct = b.distinct;
  laid = λ h. subst (λ defs. AllLaid defs ys) a.structs (b.laid (subst (λ defs. AllLaid defs xs) (sym a.structs) h));
  longer = b.longer;
}

members-kept : (xs : List Member) (t : Tree) (s : State) → Kept s xs (members xs t s).0 (members xs t s).1
members-kept xs (Node l.Members (Cons qualifier (Cons specifier (Cons first (Cons more none))))) s =
    let x = specified_type specifier s in
    let ys = member x.0 xs first x.1 in
    let base = specified_no_array specifier s in
    kept-after s x.1 _ xs _ (specified_type_steps specifier s)
    (kept-then x.1 ys.1 _ xs ys.0 _ (member-kept x.0 xs first x.1 base) (more-member-kept x.0 ys.0 more ys.1 base))
members-kept xs t s = kept-stay s xs

more-members-kept : (xs : List Member) (t : Tree) (s : State) → Kept s xs (more_members xs t s).0 (more_members xs t s).1
more-members-kept xs (Node (l.More k) (Cons before (Cons t none))) s =
    let ys = more_members xs before s in
    kept-then s ys.1 _ xs ys.0 _ (more-members-kept xs before s) (members-kept ys.0 t ys.1)
more-members-kept xs t s = kept-stay s xs

-- ---- the first members are at least one

member-some : (x : Specified) (xs : List Member) (y : MemberItem) (s : State) → 0 < length (member x xs (member_tree y) s).0
unfolding member_tree
member-some x xs y s =
    let ns = dimensions (dimension_trees y.dimensions) s in
    let t = object_type false y.name.span.at x (count_of (stars y.stars)) (map dimension.Sized ns.0) ns.1 in
    let last : Member = record { name = y.name.name; type = t.0 } in
    let n = length-append xs (last ∷ []) in
    let some : 0 < length (xs ++ last ∷ []) = omega (arith, n) in
    some

members-some : (first : Members) (s : State) → 0 < length (members [] (members_tree first) s).0
unfolding members_tree
members-some first s =
    let x = specified_type (spec_tree first.spec) s in
    let ys = member x.0 [] (member_tree first.first) x.1 in
    let some : 0 < length ys.0 = member-some x.0 [] first.first x.1 in
    let base = specified_no_array (spec_tree first.spec) s in
    let more = (more-member-kept x.0 ys.0 (member_trees first.more) ys.1 base).longer in
    omega (arith, some, more)

-- ---- a struct

-- What is known where the members of a struct end.
pub members-ready : (tag offset : ℕ) (first : Members) (more : List Members) (s s1 s2 s3 : State) (xs ys : List Member) →
    s1 ≡ (breaks_if (is_defined s.structs tag) Redeclared offset s).1 → xs ≡ (members [] (members_tree first) s1).0 → s2 ≡ (members [] (members_tree first) s1).1 →
    ys ≡ (more_members xs (members_trees more) s2).0 → s3 ≡ (more_members xs (members_trees more) s2).1 → AreReady s3 tag ys
members-ready tag offset first more s s1 s2 s3 xs ys e1 ex e2 ey e3 =
    let wrong = is_defined s.structs tag in
    let a : Kept s1 [] xs s2 =
    subst (λ zs. Kept s1 [] zs s2) (sym ex) (subst (λ t. Kept s1 [] (members [] (members_tree first) s1).0 t) (sym e2) (members-kept [] (members_tree first) s1)) in
    let b : Kept s2 xs ys s3 =
    subst (λ zs. Kept s2 xs zs s3) (sym ey) (subst (λ t. Kept s2 xs (more_members xs (members_trees more) s2).0 t) (sym e3) (more-members-kept xs (members_trees more) s2)) in
    let c = kept-then s1 s2 s3 [] xs ys a b in
    let begun : Step s s1 = subst (Step s) (sym e1) (breaks_if_steps wrong Redeclared offset s) in
    let some : 0 < length xs = subst (λ (zs : List Member). 0 < length zs) (sym ex) (members-some first s1) in
    record {
      laid_out = subst (λ defs. AllLaid defs ys) (sym c.step.structs) (c.laid tt);
      some = let h = b.longer in omega (arith, some, h);
      new = λ clean.
          ap (λ defs. is_defined defs tag) (c.step.structs ∙ begun.structs)
          ∙ broken-test wrong offset s (ap (λ (t : State). t.broken) (sym e1) ∙ c.step.broken clean);
      distinct = λ clean. c.distinct clean refl;
    }
