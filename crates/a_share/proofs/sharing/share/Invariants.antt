-- What holds before each turn of the loops of `share`.
use Rattle.std.proofs.Common.{[], take}
use Rattle.a_share.specs.Giving.{IsGiving, IsReady, given_by}
use Rattle.a_share.proofs.sharing.share.Given as goal

abbrev pub invariant-loop-name : goal.invariant-loop-name
invariant-loop-name l = record {
  ready : IsReady l.facts l.giving;
  giving : IsGiving l.facts (given_by l.facts (take l.name-index l.name-items) []) l.giving;
}
