-- Values are the same by a view where they are equal, and only there.
use Rattle.std.proofs.Common.{◌≡◌, true, ◌&&◌, ◌==◌, sym, ap, ◌∙◌, arith}
use Rattle.std.proofs.lemmas.Bool.{and_parts, eqb-true}
use Rattle.std.proofs.lemmas.Bool.Decides.{nat_tests}
use Rattle.val_core.specs.Views.{View, same_by}

pub same_itself : {A : Type 0} (view : View A) (a : A) → same_by view a a ≡ true
same_itself view a =
    let p = view.numbers a in
    let first : (p.0 == p.0) ≡ true = grind (arith, nat_tests) in
    let second : (p.1 == p.1) ≡ true = grind (arith, nat_tests) in
    λ i. first i && second i

pub same_equal : {A : Type 0} (view : View A) (a b : A) → same_by view a b ≡ true → a ≡ b
same_equal view a b same =
    let p = view.numbers a in
    let q = view.numbers b in
    let both = and_parts (p.0 == q.0) (p.1 == q.1) same in
    let numbers : p ≡ q = λ i. (eqb-true p.0 q.0 both.0 i, eqb-true p.1 q.1 both.1 i) in
    sym (view.read_back a) ∙ ap view.value numbers ∙ view.read_back b
