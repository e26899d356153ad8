-- External declarations lead from one state of a file to the next.
use Rattle.std.proofs.Common.{◌≡◌, ◌≤◌, ℕ, Bool, true, false, [], refl, sym, ap, ◌∙◌, arith}
use Rattle.std.specs.Prelude.{slice_get, Option, None, is_some, if◌then◌else◌}
use Rattle.std.proofs.lemmas.Bool.{false≢true}
use Rattle.c_ast.specs.Productions as l
use Rattle.c_ast.specs.Tree.{Tree, Node, Cons}
use Rattle.c_check_scope.specs.Scopes.{Name}
use Rattle.c_check_def.specs.State.{State, pure}
use Rattle.c_check_def.specs.Leaves.{offset_of, begin_of, name_of, count_of, is_present}
use Rattle.c_check_def.specs.Specifiers.{Specified, specified_type, tagged}
use Rattle.c_check_def.specs.Externals.{after_name, after_type, after_tag, external}
use Rattle.c_check_def.specs.Check.{defined_after_type, defined_by, with_defined, defined_in, externals}
use Rattle.c_check_laws.proofs.lemmas.States.{stay}
use Rattle.c_check_laws.proofs.lemmas.Steps.{tagged_steps, specified_type_steps}
use Rattle.c_check_laws.proofs.lemmas.Terms.{InRange}
use Rattle.c_check_laws.proofs.lemmas.StatementSteps.{WellShaped}
use Rattle.c_check_laws.proofs.lemmas.Types.{IsNoArray, specified_no_array}
use Rattle.c_check_laws.proofs.lemmas.Parts.{Layouts}
use Rattle.c_check_laws.proofs.lemmas.Quiet.{tagged_quiet, specified_type_quiet}
use Rattle.c_check_laws.proofs.lemmas.Texts.{same_globals, no_texts}
use Rattle.c_check_laws.proofs.lemmas.GoesLocals.{declarations}
use Rattle.c_check_laws.proofs.lemmas.File.{Onward, onward_step, onward_then, File, Moved, moved_then, moved_step}
use Rattle.c_check_laws.proofs.lemmas.Structs.{HasFirst, struct_moved}
use Rattle.c_check_laws.proofs.lemmas.GlobalDeclared.{global_declarator_moved, more_globals_moved}
use Rattle.c_check_laws.proofs.lemmas.FunctionMoved.{names_of, AreTyped, ExternalOut, moved_out, IsBody, defined_name, function_moves}
use Rattle.c_check_laws.proofs.lemmas.FunctionBodies.{Ended}

-- ---- shapes

-- bodies are blocks with items, and lists of members begin with one
abbrev pub FileShaped : Tree → Type 0
FileShaped (Node l.Function (Cons opening (Cons xs (Cons closing (Cons body none))))) = IsBody body
FileShaped (Node l.StructMembers (Cons opening (Cons first (Cons more none)))) = HasFirst first
FileShaped (Node p children) = FileShaped children
FileShaped (Cons t ts) = FileShaped t × FileShaped ts
FileShaped t = Unit {0}

-- ---- one declaration

-- steps before a declaration
after_moved : (name : Option Name) (r s t : State) → Moved r s → ExternalOut name s t → ExternalOut name r t
after_moved name r s t a b = record {
  broken = λ clean. a.broken (b.broken clean);
  go = λ clean h.
      let p = a.go (b.broken clean) h in
      let q = b.go clean p.1 in
      (onward_then r s t p.0 q.0, q.1, q.2 ∙ ap (λ fs. with_defined (names_of fs) name) p.2);
  typed = λ z e clean h onward k. let p = a.go (b.broken clean) h in b.typed z e clean p.1 onward (λ j f q. k j f (ap (λ fs. slice_get fs j) (sym p.2) ∙ q));
}

-- the function that follows a name, if one is defined
abbrev defined_after : Tree → Tree → Option Name
defined_after name (Node l.Function (Cons opening (Cons xs (Cons closing (Cons body none))))) = defined_name (name_of name) body
defined_after name t = None

after_name_out : (y : Layouts) (starts : ℕ) (x : Specified) (is_const : Bool) (stars : ℕ) (name t : Tree) (s : State) → IsNoArray x.type → InRange t → WellShaped t → FileShaped t →
    declarations t ≤ 200000 →
    ExternalOut (defined_after name t) s (after_name starts x is_const stars (name_of name) (offset_of name) t s).1
after_name_out y starts x is_const stars name (Node l.Function (Cons opening (Cons xs (Cons closing (Cons body none))))) s base r w f few =
    function_moves y starts x stars (name_of name) (offset_of name) xs body s base r.1.0 r.1.1.1.0 w.1.1.1.0 f (omega (arith, few))
after_name_out y starts x is_const stars name (Node l.Globals (Cons bounds (Cons begun (Cons more none)))) s base r w f few =
    let g = global_declarator_moved y x is_const stars (name_of name) (offset_of name) bounds begun s base r.0 r.1.0 w.0 in
    moved_out s _ (moved_then s _ _ g (more_globals_moved y x is_const more _ base r.1.1.0 w.1))
after_name_out y starts x is_const stars name t s base r w f few = moved_out s s (moved_step s s (stay s) (no_texts s))

after_type_out : (y : Layouts) (starts : ℕ) (x : Specified) (is_const : Bool) (t : Tree) (s : State) → IsNoArray x.type → InRange t → WellShaped t → FileShaped t → declarations t ≤ 200000 →
    ExternalOut (defined_after_type t) s (after_type starts x is_const t s).1
after_type_out y starts x is_const (Node l.Declared (Cons stars
    (Cons name (Cons (Node l.Function (Cons opening (Cons xs (Cons closing (Cons (Node l.Block children) none))))) more)))) s base r w f few =
    after_name_out y starts x is_const (count_of stars) name (Node l.Function (Cons opening (Cons xs (Cons closing (Cons (Node l.Block children) none))))) s base r.1.1.0 w.1.1.0 f.1.1.0
    (omega (arith, few))
after_type_out y starts x is_const (Node l.Declared (Cons stars (Cons name (Cons (Node l.Function (Cons opening (Cons xs (Cons closing (Cons body none))))) more)))) s base r w f few =
    after_name_out y starts x is_const (count_of stars) name (Node l.Function (Cons opening (Cons xs (Cons closing (Cons body none))))) s base r.1.1.0 w.1.1.0 f.1.1.0 (omega (arith, few))
after_type_out y starts x is_const (Node l.Declared (Cons stars (Cons name (Cons rest none)))) s base r w f few =
    after_name_out y starts x is_const (count_of stars) name rest s base r.1.1.0 w.1.1.0 f.1.1.0 (omega (arith, few))
after_type_out y starts x is_const t s base r w f few = moved_out s s (moved_step s s (stay s) (no_texts s))

after_tag_out : (y : Layouts) (starts : ℕ) (tag t : Tree) (s : State) → InRange t → WellShaped t → FileShaped t → declarations t ≤ 200000 →
    ExternalOut (defined_after_type t) s (after_tag starts (name_of tag) (offset_of tag) t s).1
after_tag_out y starts tag (Node l.Declared children) s r w f few =
    let x = tagged (name_of tag) (offset_of tag) s in
    after_moved (defined_after_type (Node l.Declared children)) s x.1 _
    (moved_step s x.1 (tagged_steps (name_of tag) (offset_of tag) s) (same_globals s x.1 (tagged_quiet (name_of tag) (offset_of tag) s)))
    (after_type_out y starts x.0 false (Node l.Declared children) x.1 tt r w f few)
after_tag_out y starts tag (Node l.StructMembers (Cons opening (Cons first (Cons more none)))) s r w f few =
    moved_out s _ (struct_moved (name_of tag) (offset_of tag) (Node l.StructMembers (Cons opening (Cons first (Cons more none)))) s f r)
after_tag_out y starts tag t s r w f few = moved_out s _ (struct_moved (name_of tag) (offset_of tag) t s tt r)

specified_out : (y : Layouts) (starts : ℕ) (is_const : Bool) (specifier rest : Tree) (s : State) → InRange rest → WellShaped rest → FileShaped rest → declarations rest ≤ 200000 →
    ExternalOut (defined_after_type rest) s (after_type starts (specified_type specifier s).0 is_const rest (specified_type specifier s).1).1
specified_out y starts is_const specifier rest s r w f few =
    let x = specified_type specifier s in
    after_moved (defined_after_type rest) s x.1 _ (moved_step s x.1 (specified_type_steps specifier s) (same_globals s x.1 (specified_type_quiet specifier s)))
    (after_type_out y starts x.0 is_const rest x.1 (specified_no_array specifier s) r w f few)

external_out : (y : Layouts) (t : Tree) (s : State) → InRange t → WellShaped t → FileShaped t → declarations t ≤ 200000 → ExternalOut (defined_by t) s (external t s).1
external_out y (Node l.Static (Cons word (Cons qualifier (Cons specifier (Cons rest none))))) s r w f few =
    specified_out y (offset_of word) (is_present qualifier) specifier rest s r.1.1.1.0 w.1.1.1.0 f.1.1.1.0 (omega (arith, few))
external_out y (Node l.Const (Cons word (Cons specifier (Cons rest none)))) s r w f few = specified_out y (offset_of word) true specifier rest s r.1.1.0 w.1.1.0 f.1.1.0 (omega (arith, few))
external_out y (Node l.Plain (Cons specifier (Cons rest none))) s r w f few = specified_out y (begin_of specifier) false specifier rest s r.1.0 w.1.0 f.1.0 (omega (arith, few))
external_out y (Node l.Struct (Cons word (Cons tag (Cons rest none)))) s r w f few = after_tag_out y (offset_of word) tag rest s r.1.1.0 w.1.1.0 f.1.1.0 (omega (arith, few))
external_out y t s r w f few = moved_out s s (moved_step s s (stay s) (no_texts s))

-- ---- all of them

pub record FileOut (t : Tree) (s r : State) : Type 0 where
  pub broken : r.broken ≡ None → s.broken ≡ None
  pub go : r.broken ≡ None → File s → Onward s r × File r × (names_of s.functions ≡ [] → names_of r.functions ≡ defined_in t)
  pub typed : (z : State) → Ended z → r.broken ≡ None → File s → Onward r z → AreTyped z s.functions → AreTyped z r.functions

pub externals_out : (y : Layouts) (t : Tree) (s : State) → InRange t → WellShaped t → FileShaped t → declarations t ≤ 200000 → FileOut t s (externals t s).1
externals_out y (Node (l.More k) (Cons before (Cons t none))) s r w f few =
    let a = externals before s in
    by_broken (is_some a.1.broken) refl (externals_out y before s r.0 w.0 f.0 (omega (arith, few))) (external_out y t a.1 r.1.0 w.1.0 f.1.0 (omega (arith, few)))
  where
    by_broken : (b : Bool) → is_some (externals before s).1.broken ≡ b → FileOut before s (externals before s).1 →
        ExternalOut (defined_by t) (externals before s).1 (external t (externals before s).1).1 →
        FileOut (Node (l.More k) (Cons before (Cons t none))) s ((if b then pure tt else external t) (externals before s).1).1
    by_broken true e a b = record {
      broken = λ clean. a.broken clean;
      go = λ clean h. absurd (false≢true (sym (ap is_some clean) ∙ e));
      typed = λ z ends clean h onward k. a.typed z ends clean h onward k;
    }
    by_broken false e a b = record {
      broken = λ clean. a.broken (b.broken clean);
      go = λ clean h.
          let p = a.go (b.broken clean) h in
          let q = b.go clean p.1 in
          (onward_then s _ _ p.0 q.0, q.1, λ none. q.2 ∙ ap (λ ns. with_defined ns (defined_by t)) (p.2 none));
      typed = λ z ends clean h onward k.
          let p = a.go (b.broken clean) h in
          let q = b.go clean p.1 in
          b.typed z ends clean p.1 onward (a.typed z ends (b.broken clean) h (onward_then _ _ z q.0 onward) k);
    }
externals_out y t s r w f few = record { broken = λ q. q; go = λ clean h. (onward_step s s (stay s), h, λ q. q); typed = λ z e clean h onward k. k }
