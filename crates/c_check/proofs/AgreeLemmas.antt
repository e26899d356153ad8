-- Whether the types of two declarations agree, from each on.
use Rattle.std.proofs.Common.{◌≡◌, suc, Bool, true, false, List, [], ◌∷◌, length, map, refl, ap, ◌∙◌}
use Rattle.std.specs.Prelude.{◌&&◌}
use Rattle.c_check_def.specs.State.{MaybeType}
use Rattle.c_check_def.specs.Externals.{Param, agree, all_agree}

abbrev types : List Param → List MaybeType
types ps = map (λ (p : Param). p.type) ps

pub agree-lengths : (ts : List MaybeType) (ps : List Param) → (length ts ≡ length ps → ⊥) → all_agree ts (types ps) ≡ false
agree-lengths [] [] h = absurd (h refl)
agree-lengths [] (p ∷ ps) h = refl
agree-lengths (t ∷ ts) [] h = refl
agree-lengths (t ∷ ts) (p ∷ ps) h = ap (λ b. agree t p.type && b) (agree-lengths ts ps (λ e. h (ap suc e))) ∙ and-false (agree t p.type)
  where
    and-false : (b : Bool) → (b && false) ≡ false
    and-false true = refl
    and-false false = refl
