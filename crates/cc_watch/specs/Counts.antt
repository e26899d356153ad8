-- What a counter stands for: its twelve sums are those of the rows, modulo 2^32.
use Rattle.std.specs.Prelude.{◌≡◌, ◌%◌, ◌^◌, List, length, slice_index, sum_by}
use Rattle.r_rule.specs.declared.steps.Rule.{Rule}
use Rattle.cc_watch.specs.Rows.{PlainRow}
use Rattle.r_rule.specs.Names.{rule_place}
use Rattle.cc_watch.specs.Texts.{applied}
use Rattle.cc_watch.specs.declared.counter.Counter.{Counter}

pub record HasSums (c : Counter) (rows : List PlainRow) : Type 0 where
  pub functions : c.functions ≡ length rows % 2 ^ 32
  pub applied : (k : Rule) → slice_index c.applied (rule_place k) ≡ applied k rows % 2 ^ 32
  pub before : c.before ≡ sum_by (λ r. r.before) rows % 2 ^ 32
  pub after : c.after ≡ sum_by (λ r. r.after) rows % 2 ^ 32
