use Rattle.std.proofs.Common.{◌≡◌, ◌++◌, length}
use Rattle.g_pass.proofs.Texts.{begun}
use Rattle.g_pass.proofs.recipe.sweeps.Given as goal

-- the names so far stand in front of what is left
abbrev pub invariant-loop : goal.invariant-loop
invariant-loop l = record {
  text : l.text ≡ begun l.recipe ++ l.left;
  count : length l.recipe ≡ l.counter;
}
