use Rattle.std.proofs.Common.{◌≡◌, ◌++◌, take}
use Rattle.g_text.specs.Texts.{origins_text}
use Rattle.g_text.proofs.writing.push_origins.Given as goal

-- the origins so far are written
abbrev pub invariant-loop-origin : goal.invariant-loop-origin
invariant-loop-origin l = l.out.items ≡ l.fn.out.items ++ origins_text (take l.origin-index l.origins)
