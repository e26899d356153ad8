-- Parameters add slots after those that are there.
use Rattle.std.proofs.Common.{◌≡◌, ℕ, suc, Bool, true, false, [], ◌∷◌, ◌++◌, List, length, take, refl, Option, None, Some}
use Rattle.std.specs.Prelude.{◌==◌, ◌&&◌, if◌then◌else◌}
use Rattle.c_ast.specs.Productions as l
use Rattle.c_ast.specs.Tree.{Tree, Node, Nil, Cons}
use Rattle.c_check_scope.specs.Scopes.{Name, is_declared}
use Rattle.c_check_def.specs.declared.refusal_kind.RefusalKind.TheVariants.{Redeclared}
use Rattle.c_check_def.specs.declared.meaning.Meaning.{Meaning}
use Rattle.c_check_def.specs.declared.meaning.Meaning.TheVariants as means
use Rattle.c_check_def.specs.State.{MaybeType, State, pure, add_variable}
use Rattle.c_check_def.specs.Leaves.{begin_of, count_of, is_present}
use Rattle.c_check_def.specs.Specifiers.{specified_type}
use Rattle.c_check_def.specs.DeclaredTypes.{param_type}
use Rattle.c_check_def.specs.Declarators.{open_dimensions, is_fixed}
use Rattle.c_check_def.specs.Externals.{Param, declare_if, param_name, param_offset, param_at, param, more_params, is_lone_void, params, bind_if, bind_params}
use Rattle.c_check_laws.proofs.lemmas.States.{step_then}
use Rattle.c_check_laws.proofs.lemmas.Steps.{breaks_if_steps, specified_type_steps}
use Rattle.c_check_laws.proofs.lemmas.StatementSteps.{open_dimensions_steps}
use Rattle.c_check_statement.proofs.lemmas.Slots.{Adds, adds_none, adds_then, keeps_slots, items_adds, entered}
use Rattle.c_check.specs.Functions.{body_items}
use Rattle.c_check_laws.proofs.lemmas.Params.{param_type_steps}

-- ---- types of parameters

-- ---- parameters in scope

declare_if_adds : (name : Option Name) (offset : ℕ) (m : Meaning) (s : State) → Adds s (declare_if name offset m s).1
declare_if_adds None offset m s = adds_none s s refl
declare_if_adds (Some name) offset m s = adds_none s _ (breaks_if_steps (is_declared s.scopes name) Redeclared offset s).slots

param_at_adds : (offset : ℕ) (is_const : Bool) (specifier stars name bounds : Tree) (s : State) → Adds s (param_at offset is_const specifier stars name bounds s).1
param_at_adds offset is_const specifier stars name bounds s =
    let x = specified_type specifier s in
    let ds = open_dimensions bounds x.1 in
    let t = param_type offset x.0 (count_of stars) ds.0 ds.1 in
    let k = add_variable t.0 t.1 in
    let to_type = step_then s x.1 t.1 (specified_type_steps specifier s) (step_then x.1 ds.1 t.1 (open_dimensions_steps bounds x.1) (param_type_steps offset x.0 (count_of stars) ds.0 ds.1)) in
    adds_then s t.1 _ (adds_none s t.1 to_type.slots)
    (adds_then t.1 k.1 _ (record { more = length t.1.variables ∷ []; slots = refl }) (declare_if_adds (param_name name) offset (means.Variable k.0 (is_fixed is_const (count_of stars))) k.1))

param_adds : (t : Tree) (s : State) → Adds s (param t s).1
param_adds (Node l.Param (Cons qualifier (Cons specifier (Cons stars (Cons name (Cons bounds none)))))) s =
    param_at_adds (param_offset (begin_of (Cons qualifier (Cons specifier Nil))) name) (is_present qualifier) specifier stars name bounds s
param_adds t s = adds_none s s refl

more_params_adds : (t : Tree) (s : State) → Adds s (more_params t s).1
more_params_adds (Node (l.More k) (Cons before (Cons comma (Cons t none)))) s =
    let ps = more_params before s in adds_then s ps.1 _ (more_params_adds before s) (param_adds t ps.1)
more_params_adds t s = adds_none s s refl

params_adds : (t : Tree) (s : State) → Adds s (params t s).1
params_adds (Node (l.Present k) (Cons first (Cons more none))) s = by_test (is_lone_void first && count_of more == 0)
  where
    both : State → List Param × State
    both s = let p = param first s in let ps = more_params more p.1 in (p.0 ++ ps.0, ps.1)

    by_test : (b : Bool) → Adds s ((if b then pure [] else both) s).1
    by_test true = adds_none s s refl
    by_test false = let p = param first s in adds_then s p.1 _ (param_adds first s) (more_params_adds more p.1)
params_adds t s = adds_none s s refl

pub params_leave : (t : Tree) (s : State) → take (length s.slots) (params t (entered s)).1.slots ≡ s.slots
params_leave t s = keeps_slots (entered s) (params t (entered s)).1 (params_adds t (entered s))

-- ---- bodies of functions

bind_if_adds : (name : Option Name) (m : Meaning) (s : State) → Adds s (bind_if name m s).1
bind_if_adds None m s = adds_none s s refl
bind_if_adds (Some name) m s = adds_none s _ refl

bind_params_adds : (slot : ℕ) (ps : List Param) (s : State) → Adds s (bind_params slot ps s).1
bind_params_adds slot [] s = adds_none s s refl
bind_params_adds slot (p ∷ ps) s =
    let t = record s { slots = s.slots ++ slot ∷ [] } in
    let u = bind_if p.name (means.Variable slot p.is_const) t in
    adds_then s t _ (record { more = slot ∷ []; slots = refl }) (adds_then t u.1 _ (bind_if_adds p.name (means.Variable slot p.is_const) t) (bind_params_adds (suc slot) ps u.1))

body_adds : (t : MaybeType) (ps : List Param) (xs : Tree) (s : State) → Adds s (body_items t ps xs s).1
body_adds t ps xs s =
    let b = bind_params 0 ps s in
    adds_then s b.1 _ (bind_params_adds 0 ps s) (items_adds (record { may_break = false; may_continue = false; result = t }) xs b.1)

pub body_leave : (t : MaybeType) (ps : List Param) (xs : Tree) (s : State) → take (length s.slots) (body_items t ps xs (entered s)).1.slots ≡ s.slots
body_leave t ps xs s = keeps_slots (entered s) (body_items t ps xs (entered s)).1 (body_adds t ps xs (entered s))
