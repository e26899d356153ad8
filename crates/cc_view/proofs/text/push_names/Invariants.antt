-- The loop over the functions: the names of those before are written.
use Rattle.std.proofs.Common.{◌≡◌, ◌++◌, take}
use Rattle.cc_view.specs.Explanation.{names_text}
use Rattle.cc_view.proofs.text.push_names.Given as goal

-- the names so far are written
abbrev pub invariant-loop-function : goal.invariant-loop-function
invariant-loop-function l = l.out.items ≡ l.fn.out.items ++ names_text l.names (take l.function-index l.functions)
