use Rattle.std.proofs.Common.{◌≡◌, ◌≤◌, ◌∷◌, [], drop}
use Rattle.c_ast.specs.Nesting.{depth_of}
use Rattle.c_parse_tokens.proofs.lemmas.FirstDeep.{first_deep}
use Rattle.c_parse_tokens.proofs.nesting.first_too_deep.Given as goal

-- The tokens that are left are searched from the counters so far.
abbrev pub invariant-loop-i : goal.invariant-loop-i
invariant-loop-i l =
    (first_deep l.counters (drop l.i l.tokens) ≡ first_deep (0 ∷ []) l.tokens) × (depth_of l.counters ≤ 200)
