use Rattle.std.proofs.Common.{◌≡◌, ◌++◌, take, flat_map, codes}
use Rattle.g_text.specs.Texts.{leaf_text}
use Rattle.g_text.proofs.writing.push_leaves.Given as goal

-- the leaves so far are written
abbrev pub invariant-loop-leaf : goal.invariant-loop-leaf
invariant-loop-leaf l = l.out.items ≡ l.fn.out.items ++ codes " leaves" ++ flat_map leaf_text (take l.leaf-index l.leaves)
