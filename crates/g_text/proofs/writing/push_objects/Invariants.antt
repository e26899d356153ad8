use Rattle.std.proofs.Common.{◌≡◌, ◌++◌, drop}
use Rattle.g_text.specs.Texts.{objects_text}
use Rattle.g_text.proofs.writing.push_objects.Given as goal

-- what is left comes after what is written
abbrev pub invariant-loop-index : goal.invariant-loop-index
invariant-loop-index l = l.out.items ++ objects_text l.index (drop l.index l.objects) ≡ l.fn.out.items ++ objects_text 0 l.objects
