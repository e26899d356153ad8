-- A sweep so far: the steps at the first so many numbers are made, and the rest is left.
use Rattle.std.proofs.Common.{◌≡◌, ℕ, zero, suc, List, [], ◌∷◌, ◌++◌, take, drop, refl, ap, sym, ◌∙◌}
use Rattle.std.specs.declared.option.Option.{Option}
use Rattle.r_sweep_def.specs.Swept.{Change}
use Rattle.r_sweep_def.specs.Listed.{Listed, stepped_in, swept_in}
use Rattle.g_arena_def.specs.Flat.{Flat}

-- one more
pub record Split {X : Type 0} (k : ℕ) (xs : List X) (y : X) (ys : List X) : Type 0 where
  pub rest : drop (suc k) xs ≡ ys
  pub done : take (suc k) xs ≡ take k xs ++ y ∷ []

pub split : {X : Type 0} (k : ℕ) (xs : List X) (y : X) (ys : List X) → drop k xs ≡ y ∷ ys → Split k xs y ys
split zero [] y ys e = absurd cc
split zero (x ∷ xs) y ys e = record { rest = cc; done = let s : x ≡ y = cc in ap (λ z. z ∷ []) s }
split (suc k) [] y ys e = absurd cc
split (suc k) (x ∷ xs) y ys e = let s = split k xs y ys e in record { rest = s.rest; done = ap (λ zs. x ∷ zs) s.done }

none_left : {X : Type 0} (k : ℕ) (xs : List X) → drop k xs ≡ [] → take k xs ≡ xs
none_left zero [] e = refl
none_left zero (x ∷ xs) e = absurd cc
none_left (suc k) [] e = refl
none_left (suc k) (x ∷ xs) e = ap (λ zs. x ∷ zs) (none_left k xs e)

module _ (c : Change) (step : ℕ → Flat → Option Flat) where
  one_more : (ns : List ℕ) (n : ℕ) (s : Listed) → swept_in c step (ns ++ n ∷ []) s ≡ stepped_in c n (swept_in c step ns s) (step n (swept_in c step ns s).nodes)
  one_more [] n s = refl
  one_more (m ∷ ns) n s = one_more ns n (stepped_in c m s (step m s.nodes))

  module _ (order : List ℕ) (start : Listed) where
    pub record SweptTo (now : Listed) (rest : List ℕ) : Type 0 where
      pub count : ℕ
      pub rest_is : drop count order ≡ rest
      pub swept : now ≡ swept_in c step (take count order) start

    pub begins : SweptTo start order
    begins = record { count = 0; rest_is = refl; swept = refl }

    pub goes_on : (now next : Listed) (n : ℕ) (rest : List ℕ) → SweptTo now (n ∷ rest) → next ≡ stepped_in c n now (step n now.nodes) → SweptTo next rest
    goes_on now next n rest s e =
        let p = split s.count order n rest s.rest_is in
        record {
          count = suc s.count;
          rest_is = p.rest;
          swept = e ∙ ap (λ t. stepped_in c n t (step n t.nodes)) s.swept ∙ sym (one_more (take s.count order) n start) ∙ ap (λ ns. swept_in c step ns start) (sym p.done);
        }

    pub ends : (now : Listed) → SweptTo now [] → now ≡ swept_in c step order start
    ends now s = s.swept ∙ ap (λ ns. swept_in c step ns start) (none_left s.count order s.rest_is)
