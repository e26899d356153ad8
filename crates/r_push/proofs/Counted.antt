-- What the code counts and tests, by the definitions.
use Rattle.std.proofs.Common.{◌≡◌, ◌≢◌, slice_index_or, ℕ, false, List, [], ◌∷◌, length, None, refl, sym, ap, arith}
use Rattle.g_graph.specs.Plain.{RegionTree, regions_of}
use Rattle.r_push.specs.Edit.{left_only}
use Rattle.r_push.specs.Rule.{leaving_loop, leaves_only}

pub only_none : (n : ℕ) (rs : List RegionTree) → length rs ≢ 1 → leaves_only n (regions_of rs) ≡ false
only_none n [] e = refl
only_none n (r ∷ []) e = absurd (e refl)
only_none n (r ∷ s ∷ rs) e = refl

pub left_only_none : (n : ℕ) (rs : List RegionTree) → length rs ≢ 1 → left_only n (regions_of rs) ≡ None
left_only_none n [] e = refl
left_only_none n (r ∷ []) e = absurd (e refl)
left_only_none n (r ∷ s ∷ rs) e = refl

pub left-only-one : (n : ℕ) (rs : List RegionTree) (r : RegionTree) → length rs ≡ 1 → r ≡ slice_index_or rs 0 r → left_only n (regions_of rs) ≡ leaving_loop n r
left-only-one n [] r e d = absurd cc
left-only-one n (s ∷ []) r e d = ap (leaving_loop n) (sym d)
left-only-one n (s ∷ t ∷ rs) r e d = absurd (omega (arith, e))
