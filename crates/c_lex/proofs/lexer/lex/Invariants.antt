use Rattle.std.proofs.Common.{◌≡◌, ◌≤◌, ◌-◌, length, drop}
use Rattle.c_lex.specs.Tokens.{tokens_from, tokens_then, lexed}
use Rattle.c_lex.proofs.lexer.lex.Given as goal

abbrev pub invariant-loop-at : goal.invariant-loop-at
invariant-loop-at l = record {
  within : l.at ≤ length l.source;
  read : tokens_then l.tokens.items (tokens_from (length l.tokens.items) l.at 0 (drop l.at l.source)) ≡ lexed l.source;
}

abbrev pub decreases-loop-at : goal.decreases-loop-at
decreases-loop-at l = length l.source - l.at
