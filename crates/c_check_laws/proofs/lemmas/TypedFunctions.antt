-- The body of a function is typed in the scope of its parameters.
use Rattle.std.proofs.Common.{◌≡◌, ◌<◌, ℕ, ◌+◌, ◌^◌, zero, suc, Bool, true, false, List, [], ◌∷◌, ◌++◌, length, map, take, refl, sym, ap, ◌∙◌, subst, arith}
use Rattle.std.specs.Prelude.{slice_get, not, ◌||◌, Option, None, Some, unwrap_or, option_and_then}
use Rattle.std.proofs.Math.ListN.{get_or}
use Rattle.std.proofs.lemmas.Bool.{false≢true}
use Rattle.std.proofs.lemmas.Option.{slice_get-get_or}
use Rattle.c_ast.specs.Tree.{Tree}
use Rattle.c_type.specs.Trees.{TypeTree, void_type}
use Rattle.c_type.specs.Layout.{is_complete, IsLaidOut}
use Rattle.c_type.specs.WellDefined.{AreDefinitions}
use Rattle.c_typed.specs.Typed.{VariableTree}
use Rattle.c_typed.specs.WellTyped as well
use Rattle.c_typed.specs.WellTyped.{int, IsScalarOrVoid, ItemsAreTyped, signature_of, scope_of, FunctionIsTyped}
use Rattle.c_typed.specs.Objects.{object_by}
use Rattle.c_check_def.specs.Types.{is_scalar}
use Rattle.c_check_scope.specs.Scopes.{Name}
use Rattle.c_check_def.specs.State.{MaybeType, Global, Variable, State}
use Rattle.c_check_def.specs.Statements.{Jumps, items}
use Rattle.c_check_def.specs.Externals.{Param, variable_tree, function_tree}
use Rattle.c_check_def.specs.Check.{global_tree, program_of}
use Rattle.c_check_laws.proofs.lemmas.States.{is_object_then, type_now, slots_in, scope_in, Fits}
use Rattle.c_check_laws.proofs.lemmas.Terms.{InRange}
use Rattle.c_check_laws.proofs.lemmas.Later.{AreMore, more_at, more_length}
use Rattle.c_check_laws.proofs.lemmas.StatementSteps.{WellShaped, items_later}
use Rattle.c_check_laws.proofs.lemmas.Statements.{Ends, lead_typed, items_typed}
use Rattle.c_check_laws.proofs.lemmas.Parts.{Layouts}
use Rattle.c_check_laws.proofs.lemmas.Definitions.{laid_after}
use Rattle.c_check_laws.proofs.lemmas.Declared.{locals_typed}
use Rattle.c_check_laws.proofs.lemmas.Widened.{widened, items_wider}
use Rattle.c_check_laws.proofs.lemmas.GoesLocals.{declarations}
use Rattle.c_check_laws.proofs.lemmas.GoesStatements.{items_goes}
use Rattle.c_check_laws.proofs.lemmas.File.{Onward}
use Rattle.c_check_laws.proofs.lemmas.Names.{get_map}
use Rattle.c_check_laws.proofs.lemmas.FunctionBodies.{ending_of, Ended, params_length, tree_type, params_scalar, map_length, all_fit, range, slots_range, Entry, entry_slots, entry_param, entry_named, entry_laid, entry_names}

pub map_back : {A B : Type 0} → (f : A → B) (xs : List A) (k : ℕ) (y : B) → slice_get (map f xs) k ≡ Some y → (x : A) × (slice_get xs k ≡ Some x) × (y ≡ f x)
map_back f [] k y h = absurd (cc)
map_back f (x ∷ xs) zero y h = (x, refl, let same : f x ≡ y = cc in sym same)
map_back f (x ∷ xs) (suc k) y h = map_back f xs k y h

-- the end of the body
end_fits : (z t : State) → t.broken ≡ None → ((k : ℕ) (g : Global) → slice_get t.globals k ≡ Some g → slice_get z.globals k ≡ Some g) →
    Fits (ending_of (program_of z) (map variable_tree t.variables)) t
end_fits z t clean keeps = record {
  clean = clean;
  globals = λ k g u there type.
      get_map (λ g. g.type) (map global_tree z.globals) k (global_tree g) (get_map global_tree z.globals k g (keeps k g there)) ∙ ap (λ o. Some (unwrap_or o void_type)) type;
  variables = λ k v there.
      let e = ending_of (program_of z) (map variable_tree t.variables) in
      let object : is_object_then e k ≡ (v.is_taken || not (is_scalar (unwrap_or v.type void_type))) = ap object_by (get_map variable_tree t.variables k v there) in
      record {
        taken = λ q. object ∙ or_left v.is_taken (not (is_scalar (unwrap_or v.type void_type))) q;
        shape = λ u q n. object ∙ or_right v.is_taken (not (is_scalar (unwrap_or v.type void_type))) (ap not (ap (λ o. is_scalar (unwrap_or o void_type)) q ∙ n));
      };
  unnamed = λ q slot last. absurd (false≢true q);
}
  where
    or_left : (a b : Bool) → a ≡ true → (a || b) ≡ true
    or_left true b e = refl
    or_left false b e = absurd (false≢true e)

    or_right : (a b : Bool) → b ≡ true → (a || b) ≡ true
    or_right true b e = refl
    or_right false b e = e

-- the slots of the parameters
param_slots : (z n t : State) (ps : List Param) (vs : List Variable) → Entry ps n t → AreMore t.variables vs →
    slots_in (ending_of (program_of z) (map variable_tree vs)) t.variables t.slots ≡ take (length ps) (map variable_tree vs)
param_slots z n t ps vs h more =
    let e = ending_of (program_of z) (map variable_tree vs) in
    ap (slots_in e t.variables) (entry_slots ps n t h)
    ∙ slots_range e t.variables 0 (length ps) (λ i a b.
    let len = ap length h.bound.variables ∙ params_length ps n.variables h.params in
    let v = get_or t.variables i (record { type = None; is_taken = false; is_named = false }) in
    let there : slice_get t.variables i ≡ Some v = slice_get-get_or t.variables i _ (omega (arith, b, len)) in
    let u = entry_param ps n t h i v there in
    let w = more_at t.variables vs i v more there in
    let now : type_now t.variables i ≡ u.0 = ap (λ x. type_in x) there ∙ ap (λ o. unwrap_or o int) u.1 in
    (variable_tree w.later, get_map variable_tree vs i w.later w.there, now ∙ sym (tree_type w.later u.0 (w.type ∙ u.1))))
  where
    type_in : Option Variable → TypeTree
    type_in x = unwrap_or (option_and_then (λ (v : Variable). v.type) x) int

pub body_typed : (y : Layouts) (n t z : State) (ps : List Param) (xs : Tree) (r : MaybeType) (u : TypeTree) (name : Name) (offset starts ends : ℕ) → Ended z → Onward n z → Entry ps n t → r ≡ Some u →
    IsScalarOrVoid u → InRange xs → WellShaped xs → (items (record { may_break = false; may_continue = false; result = r }) xs t).1.broken ≡ None →
    ((k : ℕ) (g : Global) → slice_get (items (record { may_break = false; may_continue = false; result = r }) xs t).1.globals k ≡ Some g → slice_get z.globals k ≡ Some g) →
    length ps + declarations xs < 2 ^ 32 →
    FunctionIsTyped (program_of z)
    (function_tree name offset starts ends r (length ps) (items (record { may_break = false; may_continue = false; result = r }) xs t).1.variables
    (items (record { may_break = false; may_continue = false; result = r }) xs t).0)
body_typed y n t z ps xs r u name offset starts ends e onward h result scalar range shape clean keeps few =
    let j : Jumps = record { may_break = false; may_continue = false; result = r } in
    let i = items j xs t in
    let vs = i.1.variables in
    let f = function_tree name offset starts ends r (length ps) vs i.0 in
    let p = program_of z in
    let d = ending_of p (map variable_tree vs) in
    let c = scope_in d t in
    let q : well.Jumps = record { may_break = false; may_continue = false; result = f.result } in
    let scope = h.bound.later.scope refl in
    let later = items_later j xs t shape scope in
    let goes = items_goes j xs t range shape scope in
    let sound = goes.sound clean (entry_named ps n t h) (entry_laid ps n t h) in
    let structs : i.1.structs ≡ t.structs = later.structs in
    let first : t.structs ≡ n.structs = h.bound.later.structs in
    let good : AreDefinitions t.structs = subst AreDefinitions (sym first) h.core.structs in
    let is : f.result ≡ u = ap (λ o. unwrap_or o void_type) result in
    let ends_here : Ends d i.1 = record {
      fits = end_fits z i.1 clean keeps;
      shows = refl;
      structs = subst AreDefinitions (sym structs) good;
      types = λ k v w there type. (variable_tree v, get_map variable_tree vs k v there, tree_type v w type);
    } in
    let o = items_typed d (locals_typed y d) c j q xs t range shape scope (record { breaks = refl; continues = refl; result = result ∙ ap Some (sym is) })
    (record { scope = refl; names = entry_names ps n t z (map variable_tree vs) e onward h }) ends_here in
    let body : ItemsAreTyped c q i.0 = lead_typed c o.scope q i.0 o.lead in
    let ds = onward.structs.0 in
    let whole : z.structs ≡ ds ++ t.structs = onward.structs.1 ∙ ap (λ defs. ds ++ defs) (sym first) in
    let all = subst AreDefinitions whole e.structs in
    let wide = items_wider ds c q i.0 all (λ k v there.
    let b = map_back variable_tree vs k v there in
    let laid = sound.1 k b.0 b.1 in
    subst (λ w. is_complete t.structs w ≡ true) (sym (ap (λ (v : VariableTree). v.type) b.2 ∙ tree_type b.0 laid.0 laid.1))
    (subst (λ defs. is_complete defs laid.0 ≡ true) structs laid.2.complete)) body in
    let same : widened ds c ≡ scope_of p f =
    λ i. record {
      structs = sym whole i;
      functions = map signature_of p.functions;
      globals = map (λ g. g.type) p.globals;
      variables = map variable_tree vs;
      slots = param_slots z n t ps vs h later.variables i;
    } in
    let more : AreMore n.variables vs = subst (λ us. AreMore us vs) h.bound.variables later.variables in
    let len = params_length ps n.variables h.params in
    let first_len = ap length h.bound.variables in
    let tree_len = map_length variable_tree vs in
    let less = more_length t.variables vs later.variables in
    let count = goes.few in
    record {
      gives = subst IsScalarOrVoid (sym is) scalar;
      params = omega (arith, len, first_len, tree_len, less);
      takes = params_scalar ps n.variables vs h.params more;
      variables = subst (λ defs. well.VariablesFit defs (map variable_tree vs)) (sym whole) (all_fit (ds ++ t.structs) vs (λ k v there.
          let laid = sound.1 k v there in
          (laid.0, laid.1, laid_after t.structs ds all laid.0 (subst (λ defs. IsLaidOut defs laid.0) structs laid.2))));
      few = omega (arith, few, len, first_len, tree_len, count);
      body = subst (λ c. ItemsAreTyped c q i.0) same wide;
    }
