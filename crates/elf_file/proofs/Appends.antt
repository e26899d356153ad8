-- A list that grows at its end.
use Rattle.std.proofs.Common.{◌≡◌, ℕ, List, ◌++◌, ◌∙◌, ap, append_assoc}

pub record Grew (start more now : List ℕ) : Type 0 where
  pub is : now ≡ start ++ more

pub first : {start now : List ℕ} (next : List ℕ) → now ≡ start ++ next → Grew start next now
first next e = record { is = e }

pub then_more : {start more before now : List ℕ} (next : List ℕ) → Grew start more before → now ≡ before ++ next → Grew start (more ++ next) now
then_more {start} {more} next had e = record { is = e ∙ ap (λ l. l ++ next) had.is ∙ append_assoc start more next }
