-- After the last word fewer than four bytes are left.
use Rattle.std.proofs.Common.{◌++◌, ◌*◌, ap, sym, ◌∙◌, append-nil, arith}
use Rattle.cc_listing.proofs.WordLemmas.{no_more_words}
use Rattle.cc_listing.proofs.words.words_in.Goals as goal

pub returns : goal.returns
returns c =
    sym (append-nil c.loop-index.words.items)
    ∙ ap (λ xs. c.loop-index.words.items ++ xs)
    (sym (no_more_words c.args.bytes.now (4 * c.loop-index.index) (omega (arith, c.loop-index-test.false, c.loop-index.auto.index-end))))
    ∙ c.loop-index.invariant
