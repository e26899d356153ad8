use Rattle.c_lex.proofs.Driver.{next_within, counted_gives}
use Rattle.std.proofs.Common.{sym, subst, Result}
use Rattle.c_lex.specs.Results.{Gives}
use Rattle.c_lex.specs.Lexemes.{lexeme_at}
use Rattle.c_lex.specs.Tokens.{counted}
use Rattle.c_lex.specs.declared.lexeme.Lexeme.{Lexeme}
use Rattle.c_lex.specs.declared.fault.LexFault.{LexFault}
use Rattle.c_lex.proofs.lexer.next_lexeme.Goals as goal

pub returns-clause-within : goal.returns-clause-within
returns-clause-within c =
    let text = c.args.text.now in
    let gives = counted_gives c.args.count c.args.at c.lexeme_at.result (lexeme_at c.args.at text) c.lexeme_at.ensures in
    next_within c.args.count c.args.at text c.counted.result c.requires.some (subst (λ (r : Result Lexeme LexFault). Gives (λ i. i) r (counted c.args.count c.args.at (lexeme_at c.args.at text)))
    (sym c.counted.ensures) gives)
