-- A function is counted from its parameters on.
use Rattle.std.proofs.Common.{◌≡◌, ℕ, suc, ◌+◌, ◌^◌, ◌-◌, Bool, true, false, List, [], ◌∷◌, ◌++◌, append_assoc, refl, sym, ap, ◌∙◌, arith}
use Rattle.std.specs.Prelude.{min, if◌then◌else◌}
use Rattle.c_typed.specs.Typed.{VariableTree, FunctionTree}
use Rattle.c_typed.specs.WellTyped.{params_of}
use Rattle.g_graph.specs.Count.{saturated}
use Rattle.g_build_def.specs.Exits.{body_jumps}
use Rattle.g_build_def.specs.Functions.{function_values}
use Rattle.g_build_count.specs.Values.{more_carried, items_values, straight_values, objects_of, params_values, value_params, entered_values}
use Rattle.g_build_count.proofs.HasDeclarations.{no_more}
use Rattle.g_build_count.proofs.Near.{Near, near_itself, near_saturated, near_add, more_near, items_near, straight_near}
use Rattle.g_build_count.proofs.HasFunctions.{values_counted}

entered_near : {c d : ℕ} → Near c d → (f : FunctionTree) (j : Bool) (ps : List VariableTree) (os : List Bool) → Near (entered_values f j ps c os) (entered_values f j ps d os)
entered_near h f true [] os = near_add (near_itself 4) (items_near h f.variables os f.body)
entered_near h f false [] os = straight_near h f.variables os f.body
entered_near h f j (p ∷ ps) os = near_add (near_itself (if p.is_object then 4 else 0)) (entered_near (more_near h p.is_object) f j ps (os ++ p.is_object ∷ []))

-- one parameter more
pub entered_step : (f : FunctionTree) (j : Bool) (c d : ℕ) (os ps : List Bool) (p : VariableTree) (rest all : List VariableTree) (b : Bool) (total v u w : ℕ) →
    all ≡ p ∷ rest → b ≡ p.is_object → d ≡ saturated (more_carried b c) → ps ≡ os ++ b ∷ [] → saturated (total + entered_values f j all c os) ≡ w →
    v ≡ (if b then 4 else 0) → u ≡ min (total + v) (2 ^ 64 - 1) → saturated (u + entered_values f j rest d ps) ≡ w
entered_step f j c d os ps p rest all b total v u w e o h g inv hv hu =
    let two : entered_values f j all c os ≡ (if b then 4 else 0) + entered_values f j rest (more_carried b c) (os ++ b ∷ []) =
    ap (λ xs. entered_values f j xs c os) e ∙ ap (λ x. (if x then 4 else 0) + entered_values f j rest (more_carried x c) (os ++ x ∷ [])) (sym o) in
    let four : entered_values f j rest d ps ≡ entered_values f j rest (saturated (more_carried b c)) (os ++ b ∷ []) =
    ap (λ n. entered_values f j rest n ps) h ∙ ap (entered_values f j rest (saturated (more_carried b c))) g in
    let near = (entered_near (near_saturated (more_carried b c)) f j rest (os ++ b ∷ [])).equal in
    omega (arith, two, four, near, inv, hv, hu)

-- ---- in the plain form

-- what follows the parameters
abbrev after_params : FunctionTree → Bool → ℕ → List Bool → ℕ
after_params f j c os = if j then 4 + items_values f.variables c os f.body else straight_values f.variables c os f.body

entered_last : (f : FunctionTree) (j : Bool) (c d : ℕ) (os ps : List Bool) → c ≡ d → os ≡ ps → entered_values f j [] c os ≡ 0 + after_params f j d ps
entered_last f j c d os ps e g = let q = ap (λ n. after_params f j n os) e ∙ ap (after_params f j d) g in omega (arith, q)

more_counted : (b : Bool) (n c : ℕ) → n + more_carried b c ≡ (if b then n else suc n) + c
more_counted true n c = refl
more_counted false n c = omega arith

entered_counted : (f : FunctionTree) (j : Bool) (ps : List VariableTree) (c : ℕ) (os : List Bool) →
    entered_values f j ps c os ≡ params_values ps + after_params f j (value_params ps + c) (os ++ objects_of ps)
entered_counted f j [] c os = entered_last f j c (0 + c) os (os ++ []) (omega arith) (sym (no_more os))
entered_counted f j (p ∷ ps) c os =
    let b : Bool = p.is_object in
    let rest = entered_counted f j ps (more_carried b c) (os ++ b ∷ []) in
    let one : after_params f j (value_params ps + more_carried b c) ((os ++ b ∷ []) ++ objects_of ps) ≡ after_params f j (value_params (p ∷ ps) + c) (os ++ objects_of (p ∷ ps)) =
    ap (λ n. after_params f j n ((os ++ b ∷ []) ++ objects_of ps)) (more_counted b (value_params ps) c)
    ∙ ap (after_params f j (value_params (p ∷ ps) + c)) (append_assoc os (b ∷ []) (objects_of ps)) in
    omega (arith, rest, one)

pub count_is : (f : FunctionTree) → 6 + f.params + entered_values f (body_jumps f.body) (params_of f) (if body_jumps f.body then 4 else 2) [] ≡ function_values f
count_is f =
    let ps : List VariableTree = params_of f in
    let counted = entered_counted f (body_jumps f.body) ps (if body_jumps f.body then 4 else 2) [] in
    let chosen : after_params f (body_jumps f.body) (value_params ps + (if body_jumps f.body then 4 else 2)) (objects_of ps)
    ≡ (if body_jumps f.body
    then 4 + items_values f.variables (value_params ps + 4) (objects_of ps) f.body
    else straight_values f.variables (value_params ps + 2) (objects_of ps) f.body) =
    elim (body_jumps f.body)
    as (λ b. after_params f b (value_params ps + (if b then 4 else 2)) (objects_of ps)
    ≡ (if b
    then 4 + items_values f.variables (value_params ps + 4) (objects_of ps) f.body
    else straight_values f.variables (value_params ps + 2) (objects_of ps) f.body))
    [ true ↦ refl | false ↦ refl ] in
    let given = values_counted f in
    omega (arith, counted, chosen, given)
