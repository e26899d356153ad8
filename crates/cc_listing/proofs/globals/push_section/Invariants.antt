-- With the globals that are left, all are written.
use Rattle.std.proofs.Common.{◌≡◌, ◌++◌, drop}
use Rattle.cc_listing.specs.Globals.{section_text}
use Rattle.cc_listing.proofs.globals.push_section.Given as goal

-- what is left comes after what is written
abbrev pub invariant-loop-number : goal.invariant-loop-number
invariant-loop-number l =
    l.out.items ++ section_text l.names l.fixed l.number (drop l.number l.deltas) l.rest
    ≡ l.fn.out.items ++ section_text l.names l.fixed 0 l.deltas l.words
