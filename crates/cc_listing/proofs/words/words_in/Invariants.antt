-- With the words that are left, the words of all bytes.
use Rattle.std.proofs.Common.{◌≡◌, ◌++◌, ◌*◌, drop}
use Rattle.cc_listing.specs.Words.{words_in}
use Rattle.cc_listing.proofs.words.words_in.Given as goal

-- with what is left, all of them
abbrev pub invariant-loop-index : goal.invariant-loop-index
invariant-loop-index l = l.words.items ++ words_in (drop (4 * l.index) l.bytes) ≡ words_in l.bytes
