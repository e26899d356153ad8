-- What the instructions of an operation compute shows what the operation gives.
use Rattle.std.proofs.Common.{◌≡◌, ℕ, ◌+◌, ◌-◌, ◌%◌, ◌^◌, ◌<◌, ◌≤◌, ◌==◌, nat_le, nat_lt, Bool, true, false, cond, refl, ap, ap₂, ◌∙◌, arith, leb-true, eqb-true, inl, inr}
use Rattle.std.proofs.lemmas.Bool.{and_parts, cases_lt, lt-ltb, le-ltb}
use Rattle.val_core.specs.Words.{one_if}
use Rattle.val_core.specs.declared.values.BlockName.{BlockName}
use Rattle.val_core.specs.declared.values.Value.{Value}
use Rattle.val_core.specs.declared.values.Value.TheVariants.{Num, At, Bad}
use Rattle.val_core.specs.Values.{same_block, value1, value2}
use Rattle.val_core.specs.declared.operation.Op1.{Op1}
use Rattle.val_core.specs.declared.operation.Op2.{Op2}
use Rattle.val_core.specs.declared.operation.Op2.TheVariants.{Add, Sub, Sltu}
use Rattle.val_core.proofs.lemmas.Words.{gives_word1, gives_word2}
use Rattle.s_select_keeps.specs.Computed.{computed1, computed2}
use Rattle.s_select_keeps.specs.Relation.{Bases, Shows}
use Rattle.s_select_keeps.proofs.Words.{same1, same2}

address-shown : (bases : Bases) (b : BlockName) (offset x : ℕ) (test : Bool) → nat_le offset b.size ≡ test → 0 < bases b.number → bases b.number + b.size < 2 ^ 32
    → (offset ≤ b.size → x ≡ bases b.number + offset) → Shows bases (cond test (At b offset) Bad) x
address-shown bases b offset x true within low high is =
    let inside = leb-true offset b.size within in
    record { is = is inside; within = inside; low = low; high = high }
address-shown bases b offset x false outside low high is = tt

same-number : (b c : BlockName) → same_block b c ≡ true → b.number ≡ c.number
same-number b c e = eqb-true b.number c.number (and_parts (b.number == c.number) (b.size == c.size) e).0

-- of two addresses in one block
number-shown : (bases : Bases) (b c : BlockName) (n x : ℕ) (test : Bool) → same_block b c ≡ test → n < 2 ^ 32 → (b.number ≡ c.number → x ≡ n)
    → Shows bases (cond test (Num n) Bad) x
number-shown bases b c n x true e low is = (is (same-number b c e), low)
number-shown bases b c n x false e low is = tt

one-if-low : (test : Bool) → one_if test < 2 ^ 32
one-if-low true = omega arith
one-if-low false = omega arith

-- offsets are ordered as addresses are
offsets-ordered : (base o p : ℕ) → nat_lt (base + o) (base + p) ≡ nat_lt o p
offsets-ordered base o p =
    elim (cases_lt o p) [
      | inl less ↦ lt-ltb (base + o) (base + p) (omega (arith, less)) ∙ (let e = lt-ltb o p less in rw e refl)
      | inr more ↦ le-ltb (base + o) (base + p) (omega (arith, more)) ∙ (let e = le-ltb o p more in rw e refl)
    ]

pub shows2 : (bases : Bases) (op : Op2) (x y : Value) (a b : ℕ) → Shows bases x a → Shows bases y b → Shows bases (value2 op x y) (computed2 op a b)
shows2 bases op (Num v) (Num w) a b p q =
    (ap₂ (computed2 op) p.0 q.0 ∙ same2 op v w p.1 q.1, gives_word2 op v w p.1 q.1)
shows2 bases Add (At k o) (Num w) a b p q =
    let is = p.is in
    let same = q.0 in
    let high = p.high in
    address-shown bases k ((o + w) % 2 ^ 32) ((a + b) % 2 ^ 32) (nat_le ((o + w) % 2 ^ 32) k.size) refl p.low p.high (λ inside. omega (arith, is, same, high, inside))
shows2 bases Add (Num w) (At k o) a b p q =
    let is = q.is in
    let same = p.0 in
    let high = q.high in
    address-shown bases k ((o + w) % 2 ^ 32) ((a + b) % 2 ^ 32) (nat_le ((o + w) % 2 ^ 32) k.size) refl q.low q.high (λ inside. omega (arith, is, same, high, inside))
shows2 bases Sub (At k o) (Num w) a b p q =
    let is = p.is in
    let same = q.0 in
    let low = q.1 in
    let high = p.high in
    address-shown bases k ((o + (2 ^ 32 - w)) % 2 ^ 32) ((a + (2 ^ 32 - b)) % 2 ^ 32) (nat_le ((o + (2 ^ 32 - w)) % 2 ^ 32) k.size) refl p.low p.high
    (λ inside. omega (arith, is, same, low, high, inside))
shows2 bases Sub (At k o) (At c r) a b p q =
    let is = p.is in
    let is' = q.is in
    let within = p.within in
    let within' = q.within in
    let high = p.high in
    let high' = q.high in
    number-shown bases k c ((o + (2 ^ 32 - r)) % 2 ^ 32) ((a + (2 ^ 32 - b)) % 2 ^ 32) (same_block k c) refl (omega arith)
    (λ same. let base : bases k.number ≡ bases c.number = ap bases same in omega (arith, is, is', within, within', high, high', base))
shows2 bases Sltu (At k o) (At c r) a b p q =
    number-shown bases k c (one_if (nat_lt o r)) (one_if (nat_lt a b)) (same_block k c) refl (one-if-low (nat_lt o r))
    (λ same.
    let left : a ≡ bases k.number + o = p.is in
    let right : b ≡ bases k.number + r = q.is ∙ ap (λ n. n + r) (ap bases (let back : c.number ≡ k.number = omega (arith, same) in back)) in
    ap₂ (λ m n. one_if (nat_lt m n)) left right ∙ ap one_if (offsets-ordered (bases k.number) o r))
shows2 bases _ _ _ a b p q = tt

pub shows1 : (bases : Bases) (op : Op1) (x : Value) (a : ℕ) → Shows bases x a → Shows bases (value1 op x) (computed1 op a)
shows1 bases op (Num v) a p = (ap (computed1 op) p.0 ∙ same1 op v p.1, gives_word1 op v p.1)
shows1 bases op (At b o) a p = tt
shows1 bases op Bad a p = tt
