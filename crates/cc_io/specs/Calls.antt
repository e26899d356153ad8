-- The calls of a value in memory that are to fail.
use Rattle.std.specs.Prelude.{◌≡◌, Contains}
use Rattle.cc_io.specs.Faults.{raised}
use Rattle.cc_io.specs.declared.failing.FailingCalls.{FailingCalls}

-- the next call is one of those that are to fail
abbrev pub NextFails : FailingCalls → Type 0
NextFails calls = Contains calls.listed.items calls.made

-- one more call was made, and the list is as it was
pub record CountsCall (old new : FailingCalls) : Type 0 where
  pub listed : new.listed.items ≡ old.listed.items
  pub made : new.made ≡ raised old.made
