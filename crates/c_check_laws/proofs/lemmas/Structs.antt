-- Struct definitions follow the earlier ones.
use Rattle.std.proofs.Common.{◌≡◌, ◌≤◌, ◌<◌, inl, inr, ℕ, suc, Bool, true, false, List, [], ◌∷◌, ◌++◌, length, map, refl, sym, ap, ◌∙◌, subst, arith}
use Rattle.std.specs.Prelude.{not, nat_le, Option, None, Some, option_map, option_and_then, is_some, if◌then◌else◌}
use Rattle.std.proofs.lemmas.Bool.{false≢true}
use Rattle.std.proofs.lemmas.Bool.Decides.{nat_tests}
use Rattle.base.specs.Limits.{most_type_bytes}
use Rattle.c_ast.specs.Productions as l
use Rattle.c_ast.specs.Tree.{Tree, Node, Cons}
use Rattle.c_type.specs.Trees.{TypeTree}
use Rattle.c_type.specs.Layout.{Definition, Definitions, is_defined, struct_size, IsLaidOut}
use Rattle.c_type.specs.WellDefined.{AreLaidOut, Follows}
use Rattle.c_check_scope.specs.Scopes.{Name}
use Rattle.c_check_def.specs.declared.dimension.Dimension.TheVariants as dimension
use Rattle.c_check_def.specs.declared.refusal_kind.RefusalKind.TheVariants.{Redeclared, BadType}
use Rattle.c_check_def.specs.State.{State, breaks_if}
use Rattle.c_check_def.specs.Leaves.{offset_of, begin_of, name_of, count_of}
use Rattle.c_check_def.specs.Specifiers.{Specified, specified_type}
use Rattle.c_check_def.specs.DeclaredTypes.{MaybeSize, object_type}
use Rattle.c_check_def.specs.Expressions as expressions
use Rattle.c_check_def.specs.Expressions.{expression, dimensions}
use Rattle.c_check_def.specs.Externals.{Member, has_member, member, more_member, members, more_members, types_of, is_large_struct, with_struct, defined, declare_tag, struct}
use Rattle.c_check_laws.proofs.lemmas.States.{same_self, Step, stay, step_then}
use Rattle.c_check_laws.proofs.lemmas.Steps.{breaks_if_steps, expression_steps, size_steps, specified_type_steps, dimensions_steps}
use Rattle.c_check_laws.proofs.lemmas.StatementSteps.{object_type_steps}
use Rattle.c_check_laws.proofs.lemmas.Terms.{InRange}
use Rattle.c_check_laws.proofs.lemmas.Labels.{not_wrong}
use Rattle.c_check_laws.proofs.lemmas.Types.{IsNoArray, specified_no_array, IsSize, DimensionsFit, size_fits, object_type_typed, LaidOrOpen}
use Rattle.c_check_laws.proofs.lemmas.Quiet.{breaks_if_quiet, specified_type_quiet, object_type_quiet}
use Rattle.c_check_laws.proofs.lemmas.Texts.{Texts, same_globals, no_texts, texts_then, dimensions_texts}
use Rattle.c_check_laws.proofs.lemmas.File.{Onward, still_declared, known_later, file_more, File, Moved, moved_then, moved_step}

-- ---- members

dimensions_append : (ns : List MaybeSize) (n : MaybeSize) → DimensionsFit (map dimension.Sized ns) → IsSize n → DimensionsFit (map dimension.Sized (ns ++ n ∷ []))
dimensions_append [] n h k = (k, tt)
dimensions_append (m ∷ ns) n h k = (h.0, dimensions_append ns n h.1 k)

dimensions_fit : (t : Tree) (s : State) → (dimensions t s).1.broken ≡ None → DimensionsFit (map dimension.Sized (dimensions t s).0)
dimensions_fit (Node (l.More k) (Cons before (Cons opening (Cons bound none)))) s clean =
    let ns = dimensions before s in
    let a = expression bound ns.1 in
    let ca = (size_steps (begin_of bound) a.0 a.1).broken clean in
    dimensions_append ns.0 (expressions.size (begin_of bound) a.0 a.1).0 (dimensions_fit before s ((expression_steps bound ns.1).broken ca)) (size_fits (begin_of bound) a.0 a.1 clean)
dimensions_fit t s clean = tt

-- members whose types are laid out
abbrev AreLaidMembers : Definitions → List Member → Type 0
AreLaidMembers defs [] = Unit {0}
AreLaidMembers defs (x ∷ xs) = ((t : TypeTree) × (x.type ≡ Some t) × IsLaidOut defs t) × AreLaidMembers defs xs

members_append : (defs : Definitions) (xs : List Member) (x : Member) → AreLaidMembers defs xs → (t : TypeTree) × (x.type ≡ Some t) × IsLaidOut defs t → AreLaidMembers defs (xs ++ x ∷ [])
members_append defs [] x h k = (k, tt)
members_append defs (y ∷ xs) x h k = (h.0, members_append defs xs x h.1 k)

-- what members lead to
record MembersOut (s : State) (xs : List Member) (ys : List Member) (t : State) : Type 0 where
  step : Step s t
  texts : Texts s t
  more : length xs ≤ length ys
  laid : t.broken ≡ None → AreLaidMembers s.structs xs → AreLaidMembers t.structs ys

members_stay : (s : State) (xs : List Member) → MembersOut s xs xs s
members_stay s xs = record { step = stay s; texts = no_texts s; more = omega arith; laid = λ clean h. h }

members_then : (r s t : State) (xs ys zs : List Member) → MembersOut r xs ys s → MembersOut s ys zs t → MembersOut r xs zs t
members_then r s t xs ys zs a b = record {
  step = step_then r s t a.step b.step;
  texts = texts_then r s t a.texts b.texts;
  more = let m = a.more in let n = b.more in omega (arith, m, n);
  laid = λ clean h. b.laid clean (a.laid (b.step.broken clean) h);
}

after_step : (r s t : State) (xs ys : List Member) → Step r s → Texts r s → MembersOut s xs ys t → MembersOut r xs ys t
after_step r s t xs ys a b c = members_then r s t xs xs ys (record { step = a; texts = b; more = omega arith; laid = λ clean h. subst (λ d. AreLaidMembers d xs) (sym a.structs) h }) c

one_more : (xs : List Member) (x : Member) → length xs ≤ length (xs ++ x ∷ [])
one_more [] x = omega arith
one_more (y ∷ xs) x = let n = one_more xs x in omega (arith, n)

member_out : (x : Specified) (xs : List Member) (t : Tree) (s : State) → IsNoArray x.type → InRange t → MembersOut s xs (member x xs t s).0 (member x xs t s).1
member_out x xs (Node l.Member (Cons stars (Cons name (Cons bounds none)))) s base r =
    let ns = dimensions bounds s in
    let ds = map dimension.Sized ns.0 in
    let t = object_type false (offset_of name) x (count_of stars) ds ns.1 in
    let wrong = has_member xs (name_of name) in
    let b = (breaks_if wrong Redeclared (offset_of name) t.1).1 in
    let sn = dimensions_steps bounds s in
    let st = object_type_steps false (offset_of name) x (count_of stars) ds ns.1 in
    let sb = breaks_if_steps wrong Redeclared (offset_of name) t.1 in
    record {
      step = step_then s ns.1 b sn (step_then ns.1 t.1 b st sb);
      texts = texts_then s ns.1 b (dimensions_texts bounds s r.1.1.0)
          (same_globals ns.1 b (breaks_if_quiet wrong Redeclared (offset_of name) t.1 ∙ object_type_quiet false (offset_of name) x (count_of stars) ds ns.1));
      more = one_more xs _;
      laid = λ clean h.
          let ct = sb.broken clean in
          let k = object_type_typed false (offset_of name) x (count_of stars) ds ns.1 base (dimensions_fit bounds s (st.broken ct)) ct in
          let same = sym (sb.structs ∙ st.structs) in
          subst (λ d. AreLaidMembers d (xs ++ record { name = name_of name; type = t.0 } ∷ [])) same
          (members_append ns.1.structs xs _ (subst (λ d. AreLaidMembers d xs) (sym sn.structs) h) (k.type, k.there, by_laid ns.1.structs k.type k.holds));
    }
  where
    by_laid : (defs : Definitions) (u : TypeTree) → LaidOrOpen defs false u → IsLaidOut defs u
    by_laid defs u (inl laid) = laid
    by_laid defs u (inr o) = absurd (false≢true o.may_be)
member_out x xs t s base r = members_stay s xs

more_member_out : (x : Specified) (xs : List Member) (t : Tree) (s : State) → IsNoArray x.type → InRange t → MembersOut s xs (more_member x xs t s).0 (more_member x xs t s).1
more_member_out x xs (Node (l.More k) (Cons before (Cons comma (Cons t none)))) s base r =
    let ys = more_member x xs before s in members_then s ys.1 _ xs ys.0 _ (more_member_out x xs before s base r.0) (member_out x ys.0 t ys.1 base r.1.1.0)
more_member_out x xs t s base r = members_stay s xs

members_out : (xs : List Member) (t : Tree) (s : State) → InRange t → MembersOut s xs (members xs t s).0 (members xs t s).1
members_out xs (Node l.Members (Cons qualifier (Cons specifier (Cons first (Cons more none))))) s r =
    let x = specified_type specifier s in
    let base = specified_no_array specifier s in
    let ys = member x.0 xs first x.1 in
    after_step s x.1 _ xs _ (specified_type_steps specifier s) (same_globals s x.1 (specified_type_quiet specifier s))
    (members_then x.1 ys.1 _ xs ys.0 _ (member_out x.0 xs first x.1 base r.1.1.0) (more_member_out x.0 ys.0 more ys.1 base r.1.1.1.0))
members_out xs t s r = members_stay s xs

more_members_out : (xs : List Member) (t : Tree) (s : State) → InRange t → MembersOut s xs (more_members xs t s).0 (more_members xs t s).1
more_members_out xs (Node (l.More k) (Cons before (Cons t none))) s r =
    let ys = more_members xs before s in members_then s ys.1 _ xs ys.0 _ (more_members_out xs before s r.0) (members_out ys.0 t ys.1 r.1.0)
more_members_out xs t s r = members_stay s xs

-- a list of members begins with one
abbrev pub HasFirst : Tree → Type 0
HasFirst (Node l.Members (Cons qualifier (Cons specifier (Cons (Node l.Member (Cons stars (Cons name (Cons bounds none)))) (Cons more rest))))) = Unit {0}
HasFirst t = ⊥

first_member : (t : Tree) (s : State) → HasFirst t → InRange t → 1 ≤ length (members [] t s).0
first_member (Node l.Members (Cons qualifier (Cons specifier (Cons (Node l.Member (Cons stars (Cons name (Cons bounds none)))) (Cons more rest))))) s h r =
    let x = specified_type specifier s in
    let ys = member x.0 [] (Node l.Member (Cons stars (Cons name (Cons bounds none)))) x.1 in
    (more_member_out x.0 ys.0 more ys.1 (specified_no_array specifier s) r.1.1.1.0).more
first_member t s h r = absurd h

-- ---- the definition

-- the types of members that have them
typed_members : (defs : Definitions) (xs : List Member) → AreLaidMembers defs xs → (ts : List TypeTree) × (types_of xs ≡ Some ts) × AreLaidOut defs ts × (length ts ≡ length xs)
typed_members defs [] h = ([], refl, tt, refl)
typed_members defs (x ∷ xs) h =
    let r = typed_members defs xs h.1 in
    let t = h.0 in (
      t.0 ∷ r.0,
      ap (option_and_then (λ t. option_map (λ ts. t ∷ ts) (types_of xs))) t.1 ∙ ap (option_map (λ ts. t.0 ∷ ts)) r.1,
      (t.2, r.2),
      ap suc r.3,
    )

-- a state with one more definition
with_struct_onward : (d : Definition) (xs : List Member) (s : State) → Onward s (with_struct d xs s)
with_struct_onward d xs s = record {
  broken = λ h. h;
  structs = (d ∷ [], refl);
  defined = refl;
  globals = λ k g h. h;
  declared = λ k f h. still_declared f s.declared k h;
  functions = λ k f h. h;
  names = λ clean name m h. h;
}

with_struct_file : (d : Definition) (xs : List Member) (s : State) → Follows s.structs d → File s → File (with_struct d xs s)
with_struct_file d xs s follows h =
    file_more s (with_struct d xs s)
    (record {
      scopes = refl;
      variables = h.variables;
      slots = h.slots;
      declared = refl;
      texts = same_globals s (with_struct d xs s) refl;
      structs = (d ∷ [], refl);
      good = (follows, h.structs);
    })
    (λ k f q. known_later s (with_struct d xs s) f refl refl (h.functions k f q)) h

small_struct : (defs : Definitions) (d : Definition) → is_large_struct defs d ≡ false → struct_size (d ∷ defs) d.tag ≤ most_type_bytes
small_struct defs d e = by_size (nat_le (struct_size (d ∷ defs) d.tag) most_type_bytes) refl e
  where
    by_size : (b : Bool) → nat_le (struct_size (d ∷ defs) d.tag) most_type_bytes ≡ b → not b ≡ false → struct_size (d ∷ defs) d.tag ≤ most_type_bytes
    by_size true q m = grind (arith, nat_tests, q)
    by_size false q m = absurd (false≢true (sym m))

defined_moved : (tag offset : ℕ) (xs : List Member) (o : Option (List TypeTree)) (s : State) → ((ts : List TypeTree) → o ≡ Some ts → s.broken ≡ None → (0 < length ts) × AreLaidOut s.structs ts) →
    (s.broken ≡ None → is_defined s.structs tag ≡ false) → Moved s (defined tag offset xs o s).1
defined_moved tag offset xs None s h new = moved_step s s (stay s) (no_texts s)
defined_moved tag offset xs (Some ts) s h new =
    let d : Definition = record { tag = tag; members = ts } in
    let wrong = is_large_struct s.structs d in
    let b = (breaks_if wrong BadType offset s).1 in
    let steps = breaks_if_steps wrong BadType offset s in
    moved_then s b _ (moved_step s b steps (same_globals s b (breaks_if_quiet wrong BadType offset s)))
    (by_broken b (is_some b.broken) refl (λ clean.
    let cs = steps.broken clean in
    let k = h ts refl cs in
    let same = sym steps.structs in
    subst (λ defs. Follows defs d) same (record { new = new cs; some = k.0; laid_out = k.1; small = small_struct s.structs d (not_wrong wrong BadType offset s clean) })))
  where
    by_broken : (b : State) (o : Bool) → is_some b.broken ≡ o → (b.broken ≡ None → Follows b.structs (record { tag = tag; members = ts })) →
        Moved b (if o then b else with_struct (record { tag = tag; members = ts }) xs b)
    by_broken b true q k = moved_step b b (stay b) (no_texts b)
    by_broken b false q k = record {
      broken = λ h. h;
      go = λ clean f.
          (with_struct_onward (record { tag = tag; members = ts }) xs b, with_struct_file (record { tag = tag; members = ts }) xs b (k clean) f, refl);
    }

-- what follows a tag has members, or none
abbrev IsStruct : Tree → Type 0
IsStruct (Node l.StructMembers (Cons opening (Cons first (Cons more none)))) = HasFirst first
IsStruct t = Unit {0}

declare_tag_steps : (name : Name) (s : State) → Step s (declare_tag name s).1
declare_tag_steps name s = record {
  broken = λ q. q;
  scopes = refl;
  slots = refl;
  structs = refl;
  members = refl;
  declared = refl;
  defined = refl;
  functions = refl;
  globals = λ k g q. q;
  variables = same_self s.variables;
}

pub struct_moved : (name : Name) (offset : ℕ) (t : Tree) (s : State) → IsStruct t → InRange t → Moved s (struct name offset t s).1
struct_moved name offset (Node l.StructMembers (Cons opening (Cons first (Cons more none)))) s h r =
    let d = declare_tag name s in
    let wrong = is_defined d.1.structs d.0 in
    let b = (breaks_if wrong Redeclared offset d.1).1 in
    let sb = breaks_if_steps wrong Redeclared offset d.1 in
    let xs = members [] first b in
    let ys = more_members xs.0 more xs.1 in
    let mx = members_out [] first b r.1.0 in
    let my = more_members_out xs.0 more xs.1 r.1.1.0 in
    let both = members_then b xs.1 ys.1 [] xs.0 ys.0 mx my in
    let steps = step_then s d.1 b (declare_tag_steps name s) sb in
    let start = moved_step s b steps (same_globals s b (breaks_if_quiet wrong Redeclared offset d.1)) in
    let count : 0 < length ys.0 = let one = first_member first b h r.1.0 in let m = my.more in omega (arith, one, m) in
    let end = defined_moved d.0 offset ys.0 (types_of ys.0) ys.1 (λ ts e clean.
    let k = typed_members ys.1.structs ys.0 (both.laid clean tt) in
    let same : k.0 ≡ ts = let two : Some k.0 ≡ Some ts = sym k.1 ∙ e in cc in
    let len = ap length (sym same) ∙ k.3 in
    (omega (arith, count, len), subst (AreLaidOut ys.1.structs) same k.2)) (λ clean.
    ap (λ defs. is_defined defs d.0) (both.step.structs ∙ sb.structs) ∙ not_wrong wrong Redeclared offset d.1 (both.step.broken clean)) in
    moved_then s b _ start (moved_then b ys.1 _ (moved_step b ys.1 both.step both.texts) end)
struct_moved name offset t s h r = moved_step s _ (declare_tag_steps name s) (same_globals s _ refl)
