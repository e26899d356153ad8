-- Operations that give one of their operands.
use Rattle.std.proofs.Common.{◌≡◌, ℕ, ◌+◌, ◌-◌, ◌*◌, ◌%◌, ◌^◌, ◌<◌, ◌≤◌, nat_le, true, Some, refl, ap, subst, ◌∙◌, inl, inr, arith, ℤ, pos, negsuc}
use Rattle.std.specs.Int.{int_shr, w32}
use Rattle.std.specs.Int.Bits.{or_zero_l, or_zero_r, xor_zero_l, xor_zero_r}
use Rattle.std.proofs.lemmas.Int.{of_z-to_z}
use Rattle.std.proofs.lemmas.Bool.Decides.{nat_tests}
use Rattle.std.proofs.Math.Nat.{div-one}
use Rattle.val_core.specs.declared.operation.Op2.{Op2}
use Rattle.val_core.specs.declared.operation.Op2.TheVariants.{Add, Sub, Mul, Or, Xor, Sll, Srl, Sra}
use Rattle.val_core.specs.declared.values.BlockName.{BlockName}
use Rattle.val_core.specs.declared.values.Value.{Value}
use Rattle.val_core.specs.declared.values.Value.TheVariants.{Num, At, Bad}
use Rattle.val_core.specs.Words.{word2, signed, word}
use Rattle.val_core.specs.Values.{address, value2, IsLessDefined, IsSound}
use Rattle.val_core.proofs.lemmas.Values.{bad-left, bad-right}
use Rattle.r_fold.specs.Rule.{left_neutral, right_neutral}

address-within : (b : BlockName) (o : ℕ) → o ≤ b.size → address b o ≡ At b o
address-within b o h = let t : nat_le o b.size ≡ true = grind (arith, nat_tests) in rw t

shift-none : (z : ℤ) → int_shr z 0 ≡ z
shift-none (pos n) = ap pos (div-one n)
shift-none (negsuc n) = ap negsuc (div-one n)

-- a word that an operation with a neutral one leaves as it is
left-word : (op : Op2) (k w : ℕ) → left_neutral op ≡ Some k → w < 2 ^ 32 → word2 op k w ≡ w
left-word Add k w e h = let zero : 0 ≡ k = cc in subst (λ z. (z + w) % 2 ^ 32 ≡ w) zero (omega arith)
left-word Or k w e h = let zero : 0 ≡ k = cc in subst (λ z. word2 Or z w ≡ w) zero (or_zero_l w)
left-word Xor k w e h = let zero : 0 ≡ k = cc in subst (λ z. word2 Xor z w ≡ w) zero (xor_zero_l w)
left-word Mul k w e h = let one : 1 ≡ k = cc in subst (λ z. z * w % 2 ^ 32 ≡ w) one (omega arith)
left-word _ k w e h = absurd cc

right-word : (op : Op2) (k w : ℕ) → right_neutral op ≡ Some k → w < 2 ^ 32 → word2 op w k ≡ w
right-word Add k w e h = let zero : 0 ≡ k = cc in subst (λ z. (w + z) % 2 ^ 32 ≡ w) zero (omega arith)
right-word Sub k w e h = let zero : 0 ≡ k = cc in subst (λ z. (w + (2 ^ 32 - z)) % 2 ^ 32 ≡ w) zero (omega arith)
right-word Or k w e h = let zero : 0 ≡ k = cc in subst (λ z. word2 Or w z ≡ w) zero (or_zero_r w)
right-word Xor k w e h = let zero : 0 ≡ k = cc in subst (λ z. word2 Xor w z ≡ w) zero (xor_zero_r w)
right-word Mul k w e h = let one : 1 ≡ k = cc in subst (λ z. w * z % 2 ^ 32 ≡ w) one (omega arith)
right-word Sll k w e h = let zero : 0 ≡ k = cc in subst (λ z. word2 Sll w z ≡ w) zero (omega arith)
right-word Srl k w e h = let zero : 0 ≡ k = cc in subst (λ z. word2 Srl w z ≡ w) zero (div-one w)
right-word Sra k w e h =
    let zero : 0 ≡ k = cc in subst (λ z. word2 Sra w z ≡ w) zero (ap word (shift-none (signed w)) ∙ of_z-to_z w32 w h)
right-word _ k w e h = absurd cc

-- an address that it leaves as it is, or makes meaningless
left-address : (op : Op2) (k : ℕ) (b : BlockName) (o : ℕ) → left_neutral op ≡ Some k → IsSound (At b o) → IsLessDefined (value2 op (Num k) (At b o)) (At b o)
left-address Add k b o e s =
    let zero : 0 ≡ k = cc in
    let same : (o + 0) % 2 ^ 32 ≡ o = omega arith in
    inl (subst (λ z. address b ((o + z) % 2 ^ 32) ≡ At b o) zero (ap (address b) same ∙ address-within b o s.0))
left-address Or k b o e s = inr refl
left-address Xor k b o e s = inr refl
left-address Mul k b o e s = inr refl
left-address _ k b o e s = absurd cc

right-address : (op : Op2) (k : ℕ) (b : BlockName) (o : ℕ) → right_neutral op ≡ Some k → IsSound (At b o) → IsLessDefined (value2 op (At b o) (Num k)) (At b o)
right-address Add k b o e s =
    let zero : 0 ≡ k = cc in
    let same : (o + 0) % 2 ^ 32 ≡ o = omega arith in
    inl (subst (λ z. address b ((o + z) % 2 ^ 32) ≡ At b o) zero (ap (address b) same ∙ address-within b o s.0))
right-address Sub k b o e s =
    let zero : 0 ≡ k = cc in
    let same : (o + (2 ^ 32 - 0)) % 2 ^ 32 ≡ o = omega arith in
    inl (subst (λ z. address b ((o + (2 ^ 32 - z)) % 2 ^ 32) ≡ At b o) zero (ap (address b) same ∙ address-within b o s.0))
right-address Or k b o e s = inr refl
right-address Xor k b o e s = inr refl
right-address Mul k b o e s = inr refl
right-address Sll k b o e s = inr refl
right-address Srl k b o e s = inr refl
right-address Sra k b o e s = inr refl
right-address _ k b o e s = absurd cc

pub left-less : (op : Op2) (k : ℕ) (v : Value) → left_neutral op ≡ Some k → IsSound v → IsLessDefined (value2 op (Num k) v) v
left-less op k (Num w) e s = inl (ap Num (left-word op k w e s))
left-less op k (At b o) e s = left-address op k b o e s
left-less op k Bad e s = inr (bad-right op (Num k))

pub right-less : (op : Op2) (k : ℕ) (v : Value) → right_neutral op ≡ Some k → IsSound v → IsLessDefined (value2 op v (Num k)) v
right-less op k (Num w) e s = inl (ap Num (right-word op k w e s))
right-less op k (At b o) e s = right-address op k b o e s
right-less op k Bad e s = inr (bad-left op (Num k))
