-- What holds before each turn of the loops of `having`.
use Rattle.std.proofs.Common.{◌≡◌, ◌+◌, ◌≤◌, drop}
use Rattle.a_share.specs.Giving.{having}
use Rattle.a_share.proofs.giving.Giving.having.Given as goal

abbrev pub invariant-loop-name : goal.invariant-loop-name
invariant-loop-name l = record {
  few : l.count ≤ l.name-index;
  all : l.count + having l.self l.place (drop l.name-index l.names) ≡ having l.self l.place l.names;
}
