-- The leaves of a type are in ascending order of offset.
use Rattle.std.proofs.Common.{◌≡◌, ℕ, ◌+◌, ◌<◌, ◌≤◌, suc, List, [], ◌∷◌, refl, inl, inr, arith}
use Rattle.std.specs.Prelude.{true, IsTrue}
use Rattle.std.proofs.lemmas.Bool.Decides.{nat_tests}
use Rattle.val_core.specs.declared.leaf.Leaf.{Leaf}
use Rattle.c_type.specs.LayoutLaws.{IsWidth, AreInOrder}
use Rattle.c_interp_store.specs.Ascending.{ascends, leaf_offset}

positive : (w : ℕ) → IsWidth w → 0 < w
positive w (inl e) = omega arith
positive w (inr (inl e)) = omega arith
positive w (inr (inr e)) = omega arith

pub leaves_ascend : (low high from : ℕ) (ls : List Leaf) → AreInOrder low high ls → from ≤ low → IsTrue (ascends leaf_offset from ls)
leaves_ascend low high from [] h le = refl
leaves_ascend low high from (l ∷ ls) h le =
    let a = h.0.above in
    let w = positive l.width h.0.width in
    let r : ascends leaf_offset (suc l.offset) ls ≡ true = leaves_ascend (l.offset + l.width) high (suc l.offset) ls h.1 (omega (arith, w)) in
    let f : from ≤ l.offset = omega (arith, a, le) in
    grind (arith, nat_tests)
