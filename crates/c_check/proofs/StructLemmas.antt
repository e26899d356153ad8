-- A struct by the names and types of its members, and each part of its definition.
use Rattle.std.proofs.Common.{◌≡◌, ℕ, Bool, true, false, List, [], is_some, refl, sym, ap, ◌∙◌, eq-eqb}
use Rattle.std.specs.Prelude.{nat_le, not, if◌then◌else◌}
use Rattle.std.proofs.lemmas.Bool.{false≢true}
use Rattle.base.specs.Limits.{most_type_bytes}
use Rattle.c_ast.specs.Tree.{Tree}
use Rattle.c_type.specs.Trees.{TypeTree}
use Rattle.c_type.specs.Layout.{Definition, Definitions, is_defined, struct_size}
use Rattle.c_type.specs.LaidUpTo.{struct_bytes}
use Rattle.c_check_scope.specs.Scopes.{Name}
use Rattle.c_check_def.specs.declared.refusal_kind.RefusalKind.TheVariants.{Redeclared, BadType}
use Rattle.c_check_def.specs.State.{State, breaks_if}
use Rattle.c_check_def.specs.Externals.{Member, types_of, is_large_struct, members, more_members, defined}
use Rattle.c_check.specs.Structs.{are_large, with_names, struct_of, struct_tagged}

pub large-is : (defs : Definitions) (tag : ℕ) (ts : List TypeTree) → is_large_struct defs (record { tag = tag; members = ts }) ≡ are_large defs ts
large-is defs tag ts = ap (λ (b : Bool). not (nat_le (if b then struct_bytes defs ts else struct_size defs tag) most_type_bytes)) (eq-eqb tag tag refl)

-- ---- where a rule is broken, and where none is

module _ (tag offset : ℕ) (names : List Name) (ts : List TypeTree) (s s1 : State) (large : Bool) where
  abbrev definition : Definition
  definition = record { tag = tag; members = ts }

  abbrev then_defined : State → State
  then_defined t = if is_some t.broken then t else with_names definition names t

  checked : large ≡ are_large s.structs ts → s1 ≡ (breaks_if large BadType offset s).1 → then_defined s1 ≡ (struct_of tag offset names ts s).1
  checked e h = ap then_defined (h ∙ ap (λ b. (breaks_if b BadType offset s).1) (e ∙ sym (large-is s.structs tag ts)))

  pub struct-broken : large ≡ are_large s.structs ts → s1 ≡ (breaks_if large BadType offset s).1 → is_some s1.broken ≡ true → s1 ≡ (struct_of tag offset names ts s).1
  struct-broken e h broken = sym (ap (λ (b : Bool). if b then s1 else with_names definition names s1) broken) ∙ checked e h

  pub struct-whole : (t : State) (fits : Bool) → large ≡ are_large s.structs ts → s1 ≡ (breaks_if large BadType offset s).1 → is_some s1.broken ≡ false →
      fits ≡ not (is_large_struct s1.structs definition) → t ≡ (if fits then with_names definition names s1 else s1) → t ≡ (struct_of tag offset names ts s).1
  struct-whole t fits e h clean f d = by_large large refl
    where
      by_large : (b : Bool) → large ≡ b → t ≡ (struct_of tag offset names ts s).1
      by_large true q =
          let whole : s1 ≡ (breaks_if true BadType offset s).1 = h ∙ ap (λ b. (breaks_if b BadType offset s).1) q in
          let some : is_some s1.broken ≡ true = ap (λ (t : State). is_some t.broken) whole in
          absurd (false≢true (sym clean ∙ some))
      by_large false q =
          let same : s1 ≡ s = h ∙ ap (λ b. (breaks_if b BadType offset s).1) q in
          let small : is_large_struct s1.structs definition ≡ false = ap (λ (t : State). is_large_struct t.structs definition) same ∙ large-is s.structs tag ts ∙ sym e ∙ q in
          let fit : fits ≡ true = f ∙ ap not small in
          d ∙ ap (λ (b : Bool). if b then with_names definition names s1 else s1) fit
          ∙ sym (ap (λ (b : Bool). if b then s1 else with_names definition names s1) clean) ∙ checked e h

-- ---- the members one after the other

pub struct-steps : (tag offset : ℕ) (first more : Tree) (s s1 s2 s3 : State) (xs ys : List Member) →
    s1 ≡ (breaks_if (is_defined s.structs tag) Redeclared offset s).1 → xs ≡ (members [] first s1).0 → s2 ≡ (members [] first s1).1 →
    ys ≡ (more_members xs more s2).0 → s3 ≡ (more_members xs more s2).1 → (defined tag offset ys (types_of ys) s3).1 ≡ (struct_tagged tag offset first more s).1
struct-steps tag offset first more s s1 s2 s3 xs ys e1 ex e2 ey e3 =
    let last : List Member × State → State = λ r. (defined tag offset r.0 (types_of r.0) r.1).1 in
    let x = members [] first s1 in
    ap (λ z. last (z, s3)) ey ∙ ap (λ t. last ((more_members xs more s2).0, t)) e3
    ∙ ap (λ z. last (more_members z more s2)) ex ∙ ap (λ t. last (more_members x.0 more t)) e2
    ∙ ap (λ t. let r = members [] first t in last (more_members r.0 more r.1)) e1
