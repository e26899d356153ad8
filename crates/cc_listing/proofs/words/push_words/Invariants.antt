-- With the lines of the words that are left, those of all words.
use Rattle.std.proofs.Common.{◌≡◌, ◌++◌, ◌+◌, ◌*◌, drop}
use Rattle.cc_listing.specs.Words.{words_text}
use Rattle.cc_listing.proofs.words.push_words.Given as goal

-- what is left comes after what is written
abbrev pub invariant-loop-word : goal.invariant-loop-word
invariant-loop-word l = record {
  text : l.out.items ++ words_text l.callee l.here (drop l.word-index l.words) ≡ l.fn.out.items ++ words_text l.callee l.at l.words;
  here : l.here ≡ l.at + 4 * l.word-index;
}
