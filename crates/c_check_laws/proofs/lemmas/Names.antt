-- Names at file scope, and the functions that they mean.
use Rattle.std.proofs.Common.{◌≡◌, ℕ, zero, suc, Bool, true, false, cond, List, [], ◌∷◌, map, refl, sym, ap, ◌∙◌}
use Rattle.std.specs.Prelude.{slice_get, Option, None, Some, is_some, unwrap_or}
use Rattle.std.specs.Map.{lookup}
use Rattle.std.specs.Option.{option_or}
use Rattle.std.proofs.Math.ListN.{get_or}
use Rattle.std.proofs.lemmas.Bool.{false≢true}
use Rattle.std.proofs.lemmas.List.Quantifiers.{position-Some}
use Rattle.std.proofs.lemmas.Option.{slice_get-get_or}
use Rattle.c_type.specs.Trees.{TypeTree, void_type}
use Rattle.c_typed.specs.WellTyped.{Signature}
use Rattle.c_check_scope.specs.Scopes.{Name, Scope, same_name, meaning, is_declared, with_declaration}
use Rattle.c_check_scope.specs.Names.{number_of}
use Rattle.c_check_def.specs.declared.meaning.Meaning.{Meaning}
use Rattle.c_check_def.specs.declared.meaning.Meaning.TheVariants as means
use Rattle.c_check_def.specs.State.{MaybeType, Declared, State}
use Rattle.c_check_laws.proofs.lemmas.States.{AllTypes}
use Rattle.c_check_scope.proofs.lemmas.Latest.{same-equal, same-self}

-- a name that is declared keeps its meaning where another is declared
pub kept_meaning : (x : Scope Meaning) (name : Name) (m : Meaning) (asked : Name) (n : Meaning) → is_declared (x ∷ []) name ≡ false → meaning (x ∷ []) asked ≡ Some n →
    meaning (with_declaration (x ∷ []) name m) asked ≡ Some n
kept_meaning x name m asked n new h = by_test (same_name asked name) refl
  where
    clash : (o : Option Meaning) → is_some o ≡ false → option_or o None ≡ Some n → ⊥
    clash None e q = cc
    clash (Some o) e q = false≢true (sym e)

    by_test : (b : Bool) → same_name asked name ≡ b → option_or (cond b (Some m) (lookup (same_name asked) x)) None ≡ Some n
    by_test true e = absurd (clash (lookup (same_name name) x) new (ap (λ k. option_or (lookup (same_name k) x) None) (sym (same-equal asked name e)) ∙ h))
    by_test false e = h

-- where a name had no meaning, all others keep theirs
pub kept_new : (x : Scope Meaning) (name : Name) (m : Meaning) (asked : Name) (n : Meaning) → meaning (x ∷ []) name ≡ None → meaning (x ∷ []) asked ≡ Some n →
    meaning (with_declaration (x ∷ []) name m) asked ≡ Some n
kept_new x name m asked n new h = by_test (same_name asked name) refl
  where
    by_test : (b : Bool) → same_name asked name ≡ b → option_or (cond b (Some m) (lookup (same_name asked) x)) None ≡ Some n
    by_test true e = absurd (let both : None ≡ Some n = sym new ∙ ap (meaning (x ∷ [])) (sym (same-equal asked name e)) ∙ h in cc)
    by_test false e = h

-- the name that is declared has its new meaning
pub new_meaning : (x : Scope Meaning) (name : Name) (m : Meaning) → meaning (with_declaration (x ∷ []) name m) name ≡ Some m
new_meaning x name m = ap (λ b. option_or (cond b (Some m) (lookup (same_name name) x)) None) (same-self name)

-- ---- numbers of names

pub name_at : (names : List Name) (name : Name) (n : ℕ) → number_of names name ≡ Some n → slice_get names n ≡ Some name
name_at names name n h =
    let r = position-Some (same_name name) names n [] h in
    slice_get-get_or names n [] r.0 ∙ ap Some (sym (same-equal name (get_or names n []) r.1))

pub get_map : {A B : Type 0} → (f : A → B) (xs : List A) (k : ℕ) (x : A) → slice_get xs k ≡ Some x → slice_get (map f xs) k ≡ Some (f x)
get_map f [] k x h = absurd (cc)
get_map f (y ∷ xs) zero x h = let same : y ≡ x = cc in ap (λ z. Some (f z)) same
get_map f (y ∷ xs) (suc k) x h = get_map f xs k x h

-- ---- the signatures of the functions that names mean now

abbrev signature_by : Option Declared → Signature
signature_by None = record { result = void_type; params = [] }
signature_by (Some f) = record { result = unwrap_or f.result void_type; params = map (λ t. unwrap_or t void_type) f.params }

abbrev signature_meant : List Declared → Option Meaning → Signature
signature_meant ds (Some (means.Function k)) = signature_by (slice_get ds k)
signature_meant ds m = record { result = void_type; params = [] }

pub signature_now : State → Name → Signature
signature_now s name = signature_meant s.declared (meaning s.scopes name)

unwrapped : (ps : List MaybeType) (ts : List TypeTree) → AllTypes ps ts → map (λ t. unwrap_or t void_type) ps ≡ ts
unwrapped [] [] h = refl
unwrapped [] (t ∷ ts) h = absurd h
unwrapped (p ∷ ps) [] h = absurd h
unwrapped (p ∷ ps) (t ∷ ts) h = λ i. unwrap_or (h.0 i) void_type ∷ unwrapped ps ts h.1 i

pub signature_is : (s : State) (name : Name) (k : ℕ) (f : Declared) (t : TypeTree) (ts : List TypeTree) → meaning s.scopes name ≡ Some (means.Function k) → slice_get s.declared k ≡ Some f →
    f.result ≡ Some t → AllTypes f.params ts → signature_now s name ≡ record { result = t; params = ts }
unfolding signature_now
signature_is s name k f t ts m there result params =
    ap (signature_meant s.declared) m
    ∙ ap signature_by there
    ∙ (λ i. record { result = unwrap_or (result i) void_type; params = unwrapped f.params ts params i })
