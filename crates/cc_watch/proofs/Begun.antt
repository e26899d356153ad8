-- What extends a longer beginning extends a shorter one.
use Rattle.std.proofs.Common.{◌≡◌, ℕ, List, ◌++◌, ap, ◌∙◌, append_assoc}
use Rattle.cc_watch.specs.Texts.{Extends}

pub extends_after : (first text before after : List ℕ) → before ≡ first ++ text → Extends before after → Extends first after
extends_after first text before after is (more, grown) = (text ++ more, grown ∙ ap (λ bs. bs ++ more) is ∙ append_assoc first text more)
