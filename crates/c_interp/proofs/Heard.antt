-- What is heard of an answer that ends, and of one that is not known to its end.
use Rattle.std.proofs.Common.{◌≡◌, ℕ, ◌+◌, List, [], ◌∷◌, ◌++◌, length, take, drop, refl, sym, ap, ◌∙◌, arith}
use Rattle.std.proofs.lemmas.List.{append-nil}
use Rattle.val_core.specs.Events.{Event, wrote, took, met, output}
use Rattle.val_core.specs.Answers.{Answer, Returned, Cut, Exited, Undefined, before, events}
use Rattle.val_core.proofs.lemmas.Answers.{before-is, before_twice, events-added}
use Rattle.val_core.proofs.lemmas.Events.{output_appends}
use Rattle.c_mean.specs.Run.{Ending, exit, cut, undefined, Heard, taken, heard_as}
use Rattle.c_interp_def.specs.CallLaws.{IsHeardAs}

pub heard-equal : {A : Type 0} (a b : Answer A) → a ≡ b → IsHeardAs a b
heard-equal a b e i o = ap (λ c. heard_as i (before o c)) e

-- the same events came before both
pub heard-after : {A B : Type 0} (o : List Event) (a : Answer A) (b : Answer B) → IsHeardAs a b → IsHeardAs (before o a) (before o b)
heard-after o a b p i q = ap (heard_as i) (before_twice q o a) ∙ p i (q ++ o) ∙ sym (ap (heard_as i) (before_twice q o b))

pub heard-once : {A : Type 0} (o q : List Event) (a : Answer A) → IsHeardAs (before o (before q a)) (before (o ++ q) a)
heard-once o q a = heard-equal (before o (before q a)) (before (o ++ q) a) (before_twice o q a)

pub taken-append : (o p : List Event) → taken (o ++ p) ≡ taken o + taken p
taken-append [] p = omega arith
taken-append (wrote b ∷ o) p = taken-append o p
taken-append (took b ∷ o) p = let h = taken-append o p in omega (arith, h)
taken-append (met s ∷ o) p = taken-append o p

drop-first : (xs ys : List ℕ) → drop (length xs) (xs ++ ys) ≡ ys
drop-first [] ys = refl
drop-first (x ∷ xs) ys = drop-first xs ys

take-first : (xs ys : List ℕ) → take (length xs) (xs ++ ys) ≡ xs
take-first [] ys = refl
take-first (x ∷ xs) ys = ap (λ l. x ∷ l) (take-first xs ys)

abbrev pub heard_with : List ℕ → List ℕ → Ending → Heard
heard_with w rest e = record { output = w; rest = rest; ending = e }

-- what is left of an input of which so many bytes were taken
pub rest-is : (did : List Event) (bytes rest : List ℕ) → taken did ≡ length bytes → drop (taken did) (bytes ++ rest) ≡ rest
rest-is did bytes rest e = ap (λ k. drop k (bytes ++ rest)) e ∙ drop-first bytes rest

pub heard-exit : (A : Type 0) (did : List Event) (bytes rest : List ℕ) (status : ℕ) → taken did ≡ length bytes →
    heard_as (bytes ++ rest) (before did (let a : Answer A = Exited [] status in a)) ≡ heard_with (output did) rest (exit status)
heard-exit A did bytes rest status e =
    let a : Answer A = Exited [] status in
    ap (heard_as (bytes ++ rest)) (before-is did a)
    ∙ ap (λ l. heard_with (output l) (drop (taken l) (bytes ++ rest)) (exit status)) (append-nil did)
    ∙ ap (λ r. heard_with (output did) r (exit status)) (rest-is did bytes rest e)

pub heard-cut : (A : Type 0) (did : List Event) (bytes rest : List ℕ) → taken did ≡ length bytes →
    heard_as (bytes ++ rest) (before did (let a : Answer A = Cut [] in a)) ≡ heard_with (output did) rest cut
heard-cut A did bytes rest e =
    let a : Answer A = Cut [] in
    ap (heard_as (bytes ++ rest)) (before-is did a)
    ∙ ap (λ l. heard_with (output l) (drop (taken l) (bytes ++ rest)) cut) (append-nil did)
    ∙ ap (λ r. heard_with (output did) r cut) (rest-is did bytes rest e)

pub heard-undefined : (A : Type 0) (did : List Event) (bytes rest : List ℕ) → taken did ≡ length bytes →
    heard_as (bytes ++ rest) (before did (let a : Answer A = Undefined [] in a)) ≡ heard_with (output did) rest undefined
heard-undefined A did bytes rest e =
    let a : Answer A = Undefined [] in
    ap (heard_as (bytes ++ rest)) (before-is did a)
    ∙ ap (λ l. heard_with (output l) (drop (taken l) (bytes ++ rest)) undefined) (append-nil did)
    ∙ ap (λ r. heard_with (output did) r undefined) (rest-is did bytes rest e)

pub heard-returned : {A : Type 0} (did : List Event) (bytes rest : List ℕ) (x : A) → taken did ≡ length bytes →
    heard_as (bytes ++ rest) (before did (Returned x [])) ≡ heard_with (output did) rest undefined
heard-returned did bytes rest x e =
    ap (heard_as (bytes ++ rest)) (before-is did (Returned x []))
    ∙ ap (λ l. heard_with (output l) (drop (taken l) (bytes ++ rest)) undefined) (append-nil did)
    ∙ ap (λ r. heard_with (output did) r undefined) (rest-is did bytes rest e)

-- ---- what came first

output-heard : {A : Type 0} (i : List ℕ) (a : Answer A) → (heard_as i a).output ≡ output (events a)
output-heard i (Returned x o) = refl
output-heard i (Cut o) = refl
output-heard i (Exited o s) = refl
output-heard i (Undefined o) = refl

-- what was written first of all
pub written-first : {A : Type 0} (i : List ℕ) (o : List Event) (a : Answer A) → take (length (output o)) ((heard_as i (before o a)).output) ≡ output o
written-first i o a =
    ap (take (length (output o))) (output-heard i (before o a) ∙ ap (λ b. output (events b)) (before-is o a) ∙ ap output (events-added o a) ∙ output_appends o (events a))
    ∙ take-first (output o) (output (events a))
