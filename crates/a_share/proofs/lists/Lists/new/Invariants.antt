-- What holds before each turn of the loops of `new`.
use Rattle.std.proofs.Common.{◌≡◌, [], map, replicate}
use Rattle.a_share.proofs.lists.Lists.new.Given as goal

abbrev pub invariant-loop : goal.invariant-loop
invariant-loop l = map (λ list. list.items) l.lists.items ≡ replicate l.counter []
