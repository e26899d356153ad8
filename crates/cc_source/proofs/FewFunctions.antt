-- The functions that a file defines have few groups in each `switch`.
use Rattle.std.proofs.Common.{◌≡◌, ◌≤◌, ◌<◌, ℕ, zero, suc, ◌^◌, Bool, true, false, List, [], ◌∷◌, ◌++◌, length, map, refl, sym, ◌∙◌, subst, arith}
use Rattle.std.specs.Prelude.{slice_get, not, Option, None, Some, is_some, if◌then◌else◌}
use Rattle.c_ast.specs.Productions as l
use Rattle.c_ast.specs.Tree.{Tree, Node, Cons}
use Rattle.c_typed.specs.Typed.{FunctionTree}
use Rattle.c_check_scope.specs.Scopes.{Name, meaning}
use Rattle.c_check_def.specs.declared.meaning.Meaning.{Meaning}
use Rattle.c_check_def.specs.declared.meaning.Meaning.TheVariants as means
use Rattle.c_check_def.specs.declared.refusal_kind.RefusalKind.TheVariants.{Redeclared}
use Rattle.c_check_def.specs.State.{Declared, State, pure}
use Rattle.c_check_def.specs.Leaves.{offset_of, begin_of, end_of, name_of, count_of, is_present}
use Rattle.c_check_def.specs.Specifiers.{Specified, specified_type, tagged}
use Rattle.c_check_def.specs.DeclaredTypes.{result_type}
use Rattle.c_check_def.specs.Statements.{Jumps, items}
use Rattle.c_check_def.specs.Externals.{Param, params, may_follow, function_meant, declare_function, bind_params, name_params, function_tree, is_block, function, after_name, after_type, after_tag, external}
use Rattle.c_check_def.specs.Check.{externals}
use Rattle.c_check_laws.proofs.lemmas.States.{stay}
use Rattle.c_check_laws.proofs.lemmas.Steps.{breaks_if_steps, tagged_steps, specified_type_steps}
use Rattle.c_check_laws.proofs.lemmas.Terms.{InRange}
use Rattle.c_check_laws.proofs.lemmas.Later.{entered, left}
use Rattle.c_check_laws.proofs.lemmas.StatementSteps.{WellShaped, items_later}
use Rattle.c_check_laws.proofs.lemmas.Types.{IsNoArray, specified_no_array}
use Rattle.c_check_laws.proofs.lemmas.Parts.{Layouts}
use Rattle.c_check_laws.proofs.lemmas.Quiet.{tagged_quiet, specified_type_quiet}
use Rattle.c_check_laws.proofs.lemmas.Texts.{same_globals, no_texts}
use Rattle.c_check_laws.proofs.lemmas.GoesLocals.{declarations}
use Rattle.c_check_laws.proofs.lemmas.File.{File, Moved, moved_then, moved_step}
use Rattle.c_check_laws.proofs.lemmas.Structs.{struct_moved}
use Rattle.c_check_laws.proofs.lemmas.GlobalDeclared.{global_declarator_moved, more_globals_moved}
use Rattle.c_check_laws.proofs.lemmas.Params.{result_type_steps, params_out}
use Rattle.c_check_laws.proofs.lemmas.FunctionBodies.{name_params_steps, bind_out}
use Rattle.c_check_laws.proofs.lemmas.FunctionMoved.{function_moves}
use Rattle.c_check_laws.proofs.lemmas.FileSteps.{FileShaped, FileOut, externals_out}
use Rattle.g_build_keeps.specs.Groups.{ItemsHaveFewGroups}
use Rattle.cc_source.proofs.GroupShapes.{groups_in}
use Rattle.cc_source.proofs.FewGroups.{items_few}

-- ---- functions

abbrev pub AllFew : List FunctionTree → Type 0
AllFew fs = (k : ℕ) (f : FunctionTree) → slice_get fs k ≡ Some f → ItemsHaveFewGroups f.body

few_append : (fs : List FunctionTree) (f : FunctionTree) → AllFew fs → ItemsHaveFewGroups f.body → AllFew (fs ++ f ∷ [])
few_append [] f h k zero g e = let same : f ≡ g = cc in subst (λ (x : FunctionTree). ItemsHaveFewGroups x.body) same k
few_append [] f h k (suc n) g e = absurd cc
few_append (x ∷ fs) f h k zero g e = h zero g e
few_append (x ∷ fs) f h k (suc n) g e = few_append fs f (λ m y q. h (suc m) y q) k n g e

meant_same : (name : Name) (offset : ℕ) (f : Declared) (m : Option Meaning) (s : State) → (function_meant name offset f m s).1.functions ≡ s.functions
meant_same name offset f None s = refl
meant_same name offset f (Some (means.Function k)) s = (breaks_if_steps (not (may_follow (slice_get s.declared k) f)) Redeclared offset s).functions
meant_same name offset f (Some (means.Variable slot b)) s = (breaks_if_steps true Redeclared offset s).functions
meant_same name offset f (Some (means.Global k b)) s = (breaks_if_steps true Redeclared offset s).functions

module _ (starts : ℕ) (x : Specified) (stars : ℕ) (name : Name) (offset : ℕ) (xs : Tree) (is_defined : Bool) (s : State) where
  -- the state where the function is declared
  abbrev declared_state : State
  declared_state =
      let t = result_type offset x stars s in
      let q = params xs (entered t.1) in
      (declare_function name offset (record { result = t.0; params = map (λ (p : Param). p.type) q.0; is_defined = is_defined }) (left t.1 q.1)).1

  declared_same : InRange xs → declared_state.functions ≡ s.functions
  declared_same r =
      let t = result_type offset x stars s in
      let q = params xs (entered t.1) in
      let f : Declared = record { result = t.0; params = map (λ (p : Param). p.type) q.0; is_defined = is_defined } in
      meant_same name offset f (meaning (left t.1 q.1).scopes name) (left t.1 q.1) ∙ (params_out xs (entered t.1) r).later.functions ∙ (result_type_steps offset x stars s).functions

function_few : (starts : ℕ) (x : Specified) (stars : ℕ) (name : Name) (offset : ℕ) (xs body : Tree) (s : State) → InRange xs → WellShaped body → groups_in body < 2 ^ 32 → AllFew s.functions →
    AllFew (function starts x stars name offset xs body s).1.functions
function_few starts x stars name offset xs (Node l.Block (Cons opening (Cons is (Cons closing none)))) s r w few h =
    let t = result_type offset x stars s in
    let ps = (params xs (entered t.1)).0 in
    let d = declared_state starts x stars name offset xs true s in
    let n = (name_params ps d).1 in
    let b = (bind_params 0 ps (entered n)).1 in
    let j : Jumps = record { may_break = false; may_continue = false; result = t.0 } in
    let i = items j is b in
    let bound = bind_out 0 ps (entered n) in
    let same = (items_later j is b w.1.0 (bound.later.scope refl)).functions ∙ bound.later.functions ∙ (name_params_steps ps d).functions ∙ declared_same starts x stars name offset xs true s r in
    few_append i.1.functions (function_tree name offset starts (end_of closing) t.0 (length ps) i.1.variables i.0) (subst AllFew (sym same) h) (items_few j is b (omega (arith, few)))
function_few starts x stars name offset xs body s r w few h = subst AllFew (sym (declared_same starts x stars name offset xs (is_block body) s r)) h

-- ---- one declaration

record FewOut (s t : State) : Type 0 where
  broken : t.broken ≡ None → s.broken ≡ None
  few : t.broken ≡ None → File s → AllFew s.functions → AllFew t.functions

moved_few : (s t : State) → Moved s t → FewOut s t
moved_few s t a = record { broken = a.broken; few = λ clean h k. subst AllFew (sym (a.go clean h).2) k }

after_moved : (r s t : State) → Moved r s → FewOut s t → FewOut r t
after_moved r s t a b =
    record {
      broken = λ clean. a.broken (b.broken clean);
      few = λ clean h k. let p = a.go (b.broken clean) h in b.few clean p.1 (subst AllFew (sym p.2) k);
    }

after_name_few : (y : Layouts) (starts : ℕ) (x : Specified) (is_const : Bool) (stars : ℕ) (name t : Tree) (s : State) → IsNoArray x.type → InRange t → WellShaped t → FileShaped t →
    declarations t ≤ 200000 →
    groups_in t < 2 ^ 32 → FewOut s (after_name starts x is_const stars (name_of name) (offset_of name) t s).1
after_name_few y starts x is_const stars name (Node l.Function (Cons opening (Cons xs (Cons closing (Cons body none))))) s base r w f few groups =
    record {
      broken = (function_moves y starts x stars (name_of name) (offset_of name) xs body s base r.1.0 r.1.1.1.0 w.1.1.1.0 f (omega (arith, few))).broken;
      few = λ clean h k. function_few starts x stars (name_of name) (offset_of name) xs body s r.1.0 w.1.1.1.0 (omega (arith, groups)) k;
    }
after_name_few y starts x is_const stars name (Node l.Globals (Cons bounds (Cons begun (Cons more none)))) s base r w f few groups =
    let g = global_declarator_moved y x is_const stars (name_of name) (offset_of name) bounds begun s base r.0 r.1.0 w.0 in
    moved_few s _ (moved_then s _ _ g (more_globals_moved y x is_const more _ base r.1.1.0 w.1))
after_name_few y starts x is_const stars name t s base r w f few groups = moved_few s s (moved_step s s (stay s) (no_texts s))

after_type_few : (y : Layouts) (starts : ℕ) (x : Specified) (is_const : Bool) (t : Tree) (s : State) → IsNoArray x.type → InRange t → WellShaped t → FileShaped t → declarations t ≤ 200000 →
    groups_in t < 2 ^ 32 →
    FewOut s (after_type starts x is_const t s).1
after_type_few y starts x is_const (Node l.Declared (Cons stars (Cons name (Cons rest none)))) s base r w f few groups =
    after_name_few y starts x is_const (count_of stars) name rest s base r.1.1.0 w.1.1.0 f.1.1.0 (omega (arith, few)) (omega (arith, groups))
after_type_few y starts x is_const t s base r w f few groups = moved_few s s (moved_step s s (stay s) (no_texts s))

after_tag_few : (y : Layouts) (starts : ℕ) (tag t : Tree) (s : State) → InRange t → WellShaped t → FileShaped t → declarations t ≤ 200000 → groups_in t < 2 ^ 32 →
    FewOut s (after_tag starts (name_of tag) (offset_of tag) t s).1
after_tag_few y starts tag (Node l.Declared children) s r w f few groups =
    let x = tagged (name_of tag) (offset_of tag) s in
    after_moved s x.1 _ (moved_step s x.1 (tagged_steps (name_of tag) (offset_of tag) s) (same_globals s x.1 (tagged_quiet (name_of tag) (offset_of tag) s)))
    (after_type_few y starts x.0 false (Node l.Declared children) x.1 tt r w f few groups)
after_tag_few y starts tag (Node l.StructMembers (Cons opening (Cons first (Cons more none)))) s r w f few groups =
    moved_few s _ (struct_moved (name_of tag) (offset_of tag) (Node l.StructMembers (Cons opening (Cons first (Cons more none)))) s f r)
after_tag_few y starts tag t s r w f few groups = moved_few s _ (struct_moved (name_of tag) (offset_of tag) t s tt r)

specified_few : (y : Layouts) (starts : ℕ) (is_const : Bool) (specifier rest : Tree) (s : State) → InRange rest → WellShaped rest → FileShaped rest → declarations rest ≤ 200000 →
    groups_in rest < 2 ^ 32 →
    FewOut s (after_type starts (specified_type specifier s).0 is_const rest (specified_type specifier s).1).1
specified_few y starts is_const specifier rest s r w f few groups =
    let x = specified_type specifier s in
    after_moved s x.1 _ (moved_step s x.1 (specified_type_steps specifier s) (same_globals s x.1 (specified_type_quiet specifier s)))
    (after_type_few y starts x.0 is_const rest x.1 (specified_no_array specifier s) r w f few groups)

external_few : (y : Layouts) (t : Tree) (s : State) → InRange t → WellShaped t → FileShaped t → declarations t ≤ 200000 → groups_in t < 2 ^ 32 → FewOut s (external t s).1
external_few y (Node l.Static (Cons word (Cons qualifier (Cons specifier (Cons rest none))))) s r w f few groups =
    specified_few y (offset_of word) (is_present qualifier) specifier rest s r.1.1.1.0 w.1.1.1.0 f.1.1.1.0 (omega (arith, few)) (omega (arith, groups))
external_few y (Node l.Const (Cons word (Cons specifier (Cons rest none)))) s r w f few groups =
    specified_few y (offset_of word) true specifier rest s r.1.1.0 w.1.1.0 f.1.1.0 (omega (arith, few)) (omega (arith, groups))
external_few y (Node l.Plain (Cons specifier (Cons rest none))) s r w f few groups =
    specified_few y (begin_of specifier) false specifier rest s r.1.0 w.1.0 f.1.0 (omega (arith, few)) (omega (arith, groups))
external_few y (Node l.Struct (Cons word (Cons tag (Cons rest none)))) s r w f few groups =
    after_tag_few y (offset_of word) tag rest s r.1.1.0 w.1.1.0 f.1.1.0 (omega (arith, few)) (omega (arith, groups))
external_few y t s r w f few groups = moved_few s s (moved_step s s (stay s) (no_texts s))

-- ---- all of them

not-some : {A : Type 0} → (x : Option A) → is_some x ≡ false → x ≡ None
not-some None e = refl
not-some (Some y) e = absurd cc

pub externals_few : (y : Layouts) (t : Tree) (s : State) → InRange t → WellShaped t → FileShaped t → declarations t ≤ 200000 → groups_in t < 2 ^ 32 → File s → AllFew s.functions →
    (externals t s).1.broken ≡ None → AllFew (externals t s).1.functions
externals_few y (Node (l.More k) (Cons before (Cons t none))) s r w f few groups file h clean =
    let a = externals before s in
    by (is_some a.1.broken) refl (externals_out y before s r.0 w.0 f.0 (omega (arith, few))) (externals_few y before s r.0 w.0 f.0 (omega (arith, few)) (omega (arith, groups)) file h)
    (external_few y t a.1 r.1.0 w.1.0 f.1.0 (omega (arith, few)) (omega (arith, groups))) clean
  where
    by : (b : Bool) → is_some (externals before s).1.broken ≡ b → FileOut before s (externals before s).1 → ((externals before s).1.broken ≡ None → AllFew (externals before s).1.functions) →
        FewOut (externals before s).1 (external t (externals before s).1).1 → ((if b then pure tt else external t) (externals before s).1).1.broken ≡ None →
        AllFew ((if b then pure tt else external t) (externals before s).1).1.functions
    by true e before_out before_few out clean = before_few clean
    by false e before_out before_few out clean = let ok = not-some (externals before s).1.broken e in out.few clean (before_out.go ok file).1 (before_few ok)
externals_few y t s r w f few groups file h clean = h
