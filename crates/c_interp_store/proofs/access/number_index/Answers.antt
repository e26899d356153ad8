use Rattle.std.proofs.Common.{rules}
use Rattle.std.proofs.lemmas.List.Sorted.{answers_always}
use Rattle.c_interp_store.specs.Blocks.{number_of}
use Rattle.c_interp_store.proofs.Ascending.{found, absent}
use Rattle.c_interp_store.proofs.access.number_index.Goals as goal

pub returns-in-Ok-clause-some : goal.returns-in-Ok-clause-some
returns-in-Ok-clause-some c =
    let facts = c.in-Ok.ensures in
    found number_of _ _ _ facts.bound (facts.position number_of (answers_always _ _ _ (λ f a r g called. search rules)))

pub returns-in-Err-clause-none : goal.returns-in-Err-clause-none
returns-in-Err-clause-none c =
    let facts = c.in-Err.ensures in
    absent number_of _ _ _ (facts.position number_of (answers_always _ _ _ (λ f a r g called. search rules)))
