-- Pieces that are pushed one after the other.
use Rattle.std.proofs.Common.{◌≡◌, ap, ◌∙◌, ℕ, List, ◌++◌, append_assoc}

more : (out x y t t' : List ℕ) → t ≡ out ++ x → t' ≡ t ++ y → t' ≡ out ++ (x ++ y)
more out x y t t' had is = is ∙ ap (λ z. z ++ y) had ∙ append_assoc out x y

pub two : (out a b t : List ℕ) → t ≡ out ++ a → t ++ b ≡ out ++ (a ++ b)
two out a b t first = ap (λ z. z ++ b) first ∙ append_assoc out a b

pub three : (out a b c t1 t2 : List ℕ) → t1 ≡ out ++ a → t2 ≡ t1 ++ b → t2 ++ c ≡ out ++ (a ++ b ++ c)
three out a b c t1 t2 first second = two out (a ++ b) c t2 (more out a b t1 t2 first second)

pub five : (out a b c d e t1 t2 t3 t4 : List ℕ) → t1 ≡ out ++ a → t2 ≡ t1 ++ b → t3 ≡ t2 ++ c → t4 ≡ t3 ++ d
    → t4 ++ e ≡ out ++ (a ++ b ++ c ++ d ++ e)
five out a b c d e t1 t2 t3 t4 first second third fourth =
    let after_two = more out a b t1 t2 first second in
    let after_three = more out (a ++ b) c t2 t3 after_two third in
    two out (a ++ b ++ c ++ d) e t4 (more out (a ++ b ++ c) d t3 t4 after_three fourth)
