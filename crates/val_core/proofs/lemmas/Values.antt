-- Operations keep nearness and soundness.
use Rattle.std.proofs.Common.{◌≡◌, ℕ, ◌^◌, ◌<◌, nat_le, Bool, true, false, cond, refl, ap, ap₂, ◌∙◌, inl, inr, arith, leb-true}
use Rattle.val_core.specs.Words.{word2}
use Rattle.val_core.specs.Values.{BlockName, Value, Num, At, Bad, same_block, value2, value1, IsSound}
use Rattle.val_core.specs.ValueLaws.{KeepsLessDefined2, KeepsLessDefined1, KeepsSound2, KeepsSound1}
use Rattle.val_core.specs.declared.operation.Op2.{Op2}
use Rattle.val_core.specs.declared.operation.Op2.TheVariants.{Add, Sub, Sltu}
use Rattle.val_core.proofs.lemmas.Words.{gives_word2, gives_word1}

pub bad-left : (op : Op2) (y : Value) → value2 op Bad y ≡ Bad
bad-left op y = refl

pub bad-right : (op : Op2) (x : Value) → value2 op x Bad ≡ Bad
bad-right op (Num a) = refl
bad-right op Bad = refl
bad-right Add (At b o) = refl
bad-right Sub (At b o) = refl
bad-right Sltu (At b o) = refl
bad-right _ (At b o) = refl

pub keeps_less_defined2 : KeepsLessDefined2
keeps_less_defined2 op x x' y y' (inr e) k = inr (ap (λ v. value2 op v y) e ∙ bad-left op y)
keeps_less_defined2 op x x' y y' (inl d) (inr e) = inr (ap (value2 op x) e ∙ bad-right op x)
keeps_less_defined2 op x x' y y' (inl d) (inl e) = inl (ap₂ (value2 op) d e)

pub keeps_less_defined1 : KeepsLessDefined1
keeps_less_defined1 op x x' (inl e) = inl (ap (value1 op) e)
keeps_less_defined1 op x x' (inr e) = inr (ap (value1 op) e)

address-sound : (b : BlockName) (offset : ℕ) (test : Bool) → nat_le offset b.size ≡ test → b.size < 2 ^ 32 → IsSound (cond test (At b offset) Bad)
address-sound b offset true within size = (leb-true offset b.size within, size)
address-sound b offset false outside size = tt

choice-sound : (test : Bool) (n : ℕ) → n < 2 ^ 32 → IsSound (cond test (Num n) Bad)
choice-sound true n h = h
choice-sound false n h = tt

pub keeps_sound2 : KeepsSound2
keeps_sound2 op (Num a) (Num b) p q = gives_word2 op a b p q
keeps_sound2 Add (At b o) (Num w) p q = address-sound b _ _ refl p.1
keeps_sound2 Add (Num w) (At b o) p q = address-sound b _ _ refl q.1
keeps_sound2 Sub (At b o) (Num w) p q = address-sound b _ _ refl p.1
keeps_sound2 Sub (At b o) (At c r) p q = choice-sound (same_block b c) (word2 Sub o r) (omega arith)
keeps_sound2 Sltu (At b o) (At c r) p q =
    choice-sound (same_block b c) (word2 Sltu o r)
    (let fits : o < 2 ^ 32 = omega arith in let fits' : r < 2 ^ 32 = omega arith in gives_word2 Sltu o r fits fits')
keeps_sound2 _ _ _ p q = tt

pub keeps_sound1 : KeepsSound1
keeps_sound1 op (Num a) p = gives_word1 op a p
keeps_sound1 op (At b o) p = tt
keeps_sound1 op Bad p = tt
