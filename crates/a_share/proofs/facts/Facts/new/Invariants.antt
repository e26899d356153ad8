-- What holds before each turn of the loops of `new`.
use Rattle.std.proofs.Common.{◌≡◌, ◌<◌, ℕ, false, map, slice_index_or, vec_len}
use Rattle.s_linear.specs.Views.{line_of}
use Rattle.a_share.specs.Sound.{segments_in}
use Rattle.a_share.specs.Tables.{is_long_in}
use Rattle.a_share.proofs.facts.Facts.new.Given as goal

abbrev pub invariant-loop-name : goal.invariant-loop-name
invariant-loop-name l = record {
  count : vec_len l.long ≡ l.name;
  long : (x : ℕ) → x < l.name → slice_index_or l.long.items x false ≡ is_long_in x (map line_of l.lines) (segments_in l.walk x);
}
