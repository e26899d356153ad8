-- An expression of a list is no larger than the list.
use Rattle.std.proofs.Common.{◌≡◌, ℕ, zero, suc, ◌<◌, ◌≤◌, List, [], ◌∷◌, length, get_or, ap, arith}
use Rattle.c_typed.specs.Typed.{ExprTree, exprs_of, expr_size, exprs_size}

pub item_size : (es : List ExprTree) (i : ℕ) (e : ExprTree) → i < length es → e ≡ get_or es i e → expr_size e ≤ exprs_size (exprs_of es)
item_size [] i e h q = absurd (omega (arith, h))
item_size (x ∷ es) zero e h q = let s = ap expr_size q in omega (arith, s)
item_size (x ∷ es) (suc i) e h q = let s = item_size es i e (omega (arith, h)) q in omega (arith, s)
