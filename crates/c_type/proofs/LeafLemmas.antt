-- Leaves of elements and members, one after the other.
use Rattle.std.proofs.Common.{◌≡◌, ℕ, zero, suc, ◌+◌, ◌*◌, ◌<◌, ◌≤◌, List, ◌++◌, sym, ap, ap₂, ◌∙◌, ◌-◌, arith, append_assoc, append-nil, suc-mul, mul-le-mul_right}
use Rattle.val_core.specs.declared.leaf.Leaf.{Leaf}
use Rattle.c_type.specs.Layout.{repeated}

-- one more element
more : (n s at : ℕ) (f : ℕ → List Leaf) → repeated (suc n) s at f ≡ repeated n s at f ++ f (at + n * s)
more zero s at f =
    let z : at + 0 * s ≡ at = omega arith in
    append-nil (f at) ∙ ap f (sym z)
more (suc n) s at f =
    let e : (at + s) + n * s ≡ at + suc n * s = let m = suc-mul n s in omega (arith, m) in
    ap (λ r. f at ++ r) (more n s (at + s) f ∙ ap (λ k. repeated n s (at + s) f ++ f k) e)
    ∙ sym (append_assoc (f at) (repeated n s (at + s) f) (f (at + suc n * s)))

-- of the elements after the first
pub repeated-next : (i s at : ℕ) (f : ℕ → List Leaf) → 0 < i → repeated i s (at + s) f ≡ repeated (i - 1) s (at + s) f ++ f (at + i * s)
repeated-next zero s at f h = absurd (omega arith)
repeated-next (suc i) s at f h =
    let e : suc i - 1 ≡ i = omega arith in
    let k : (at + s) + i * s ≡ at + suc i * s = let m = suc-mul i s in omega (arith, m) in
    more i s (at + s) f ∙ ap₂ (λ n o. repeated n s (at + s) f ++ f o) (sym e) k

-- an element ends where all of them end, or before
pub within-elements : (i n s : ℕ) → i < n → i * s + s ≤ n * s
within-elements i n s h =
    let e = suc-mul i s in
    let k : suc i * s ≤ n * s = mul-le-mul_right s (omega arith) in
    omega (arith, e, k)
