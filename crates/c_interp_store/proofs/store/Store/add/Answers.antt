use Rattle.std.proofs.Common.{ℕ, sym, subst, ◌∷◌, [], ◌++◌, length, length-append, zero-add}
use Rattle.std.proofs.lemmas.Result.{on_ok_weaker}
use Rattle.val_core.specs.Objects.{word_of}
use Rattle.c_interp_store.specs.Blocks.{whole_block}
use Rattle.c_interp_store.specs.Holding.{Holds}
use Rattle.c_interp_store.proofs.store.Store.add.Goals as goal

pub returns : goal.returns
returns c =
    let k = whole_block (word_of c.args.size) c.args.fixed c.args.cells.items in
    on_ok_weaker c.push.result
    (λ grown m h. subst (λ (n : ℕ). Holds c.push.new.self (record { first = 0; count = n } ∷ []) (m ++ k ∷ [])) (sym (length-append m (k ∷ []))) (grown 0 (length m) [] m (zero-add (length m)) h))
    c.push.ensures.grown
