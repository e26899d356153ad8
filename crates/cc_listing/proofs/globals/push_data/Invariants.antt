-- With the words that are left, all words are written.
use Rattle.std.proofs.Common.{◌≡◌, ◌++◌, ◌≤◌, drop}
use Rattle.cc_listing.specs.Globals.{data_text}
use Rattle.cc_listing.proofs.globals.push_data.Given as goal

-- what is left comes after what is written
abbrev pub invariant-loop-word : goal.invariant-loop-word
invariant-loop-word l = record {
  text : l.out.items ++ data_text l.zeros (drop l.word-index l.words) ≡ l.fn.out.items ++ data_text 0 l.words;
  few : l.zeros ≤ l.word-index;
}
