-- What holds before each turn of the loops of `partners`.
use Rattle.std.proofs.Common.{◌≡◌, ◌<◌, ℕ, [], ◌++◌, length, map, drop, flat_map, slice_index_or}
use Rattle.s_linear.specs.Views.{line_of}
use Rattle.a_share.specs.Tables.{ends_of, line_at}
use Rattle.a_share.proofs.facts.partners.Given as goal

abbrev pub invariant-loop-position : goal.invariant-loop-position
invariant-loop-position l = record {
  count : length l.partners ≡ l.count;
  partners : (x : ℕ) → x < l.count → slice_index_or l.partners x [] ++ flat_map (λ i. ends_of x (line_at (map line_of l.lines) i)) (drop l.position-index l.position-items)
      ≡ flat_map (λ i. ends_of x (line_at (map line_of l.lines) i)) l.position-items;
}
