use Rattle.std.proofs.Common.{◌≡◌, ◌+◌, ◌-◌, [], ◌∷◌, length, take, drop, Ok, sym, ap, ◌∙◌, arith}
use Rattle.std.proofs.lemmas.List.{take_rest, length-take, length-drop, length-append}
use Rattle.c_lex.specs.declared.lexeme.Lexeme.TheVariants as lexeme
use Rattle.c_lex.specs.Lexemes.{lexeme_at}
use Rattle.c_lex.specs.Tokens.{counted, lexed, tokens_then, tokens_from}
use Rattle.c_lex.proofs.Driver.{too_long, begins, goes_on_trivia, goes_on_token, ends}
use Rattle.c_lex.proofs.Whole.{lexed_reads}
use Rattle.c_lex.proofs.lexer.lex.Goals as goal

pub returns-then-source-gt-MOST_SOURCE_BYTES-clause-exact : goal.returns-then-source-gt-MOST_SOURCE_BYTES-clause-exact
returns-then-source-gt-MOST_SOURCE_BYTES-clause-exact c = too_long c.args.source.now c.if-source-gt-MOST_SOURCE_BYTES.true

pub loop-at-init : goal.loop-at-init
loop-at-init c = record {
  within = c.include_len-at.ensures.within;
  read = begins c.args.source.now c.new-tokens.result.items c.include_len-at.result c.if-source-gt-MOST_SOURCE_BYTES.false c.new-tokens.ensures.items c.include_len-at.ensures.bytes;
}

pub loop-at-preserved-in-Trivia : goal.loop-at-preserved-in-Trivia
loop-at-preserved-in-Trivia c =
    let text = c.args.source.now in
    let at = c.loop-at.at in
    let rest = take (length text - at) (drop at text) in
    let len : length rest ≡ length text - at = omega (arith, length-take (length text - at) (drop at text), length-drop at text) in
    let count : c.len.result ≡ length c.loop-at.tokens.items = omega (arith, c.loop-at.tokens.ok.0) in
    let scanned : counted (length c.loop-at.tokens.items) at (lexeme_at at rest) ≡ Ok (lexeme.Trivia c.in-Trivia.n) = ap (λ n. counted n at (lexeme_at at rest)) (sym count)
    ∙ c.in_ok-n.ensures.scanned ∙ ap Ok c.in-Trivia.is in
    let fits = rw c.in-Trivia.is at c.in_ok-n.ensures.within in
    record {
      within = omega (arith, fits.1);
      read = goes_on_trivia c.loop-at.tokens.items (length c.loop-at.tokens.items) at c.in-Trivia.n text rest (lexed text) (take_rest text at) scanned fits.0 (omega arith) c.loop-at.invariant.read;
    }

pub loop-at-preserved : goal.loop-at-preserved
loop-at-preserved c =
    let text = c.args.source.now in
    let at = c.loop-at.at in
    let rest = take (length text - at) (drop at text) in
    let len : length rest ≡ length text - at = omega (arith, length-take (length text - at) (drop at text), length-drop at text) in
    let count : c.len.result ≡ length c.loop-at.tokens.items = omega (arith, c.loop-at.tokens.ok.0) in
    let scanned : counted (length c.loop-at.tokens.items) at (lexeme_at at rest) ≡ Ok (lexeme.Token c.in-Token.kind c.in-Token.n) = ap (λ n. counted n at (lexeme_at at rest)) (sym count)
    ∙ c.in_ok-n.ensures.scanned ∙ ap Ok c.in-Token.is in
    let fits = rw c.in-Token.is at c.in_ok-n.ensures.within in
    let made = c.in_ok-push-in-Token.ensures.items in
    let more : length c.push.new.self.items ≡ length c.loop-at.tokens.items + 1 = ap length made
    ∙ omega (arith, length-append c.loop-at.tokens.items (record { kind = c.in-Token.kind; at = at; end = at + c.in-Token.n } ∷ [])) in
    record {
      within = omega (arith, fits.1);
      read = ap (λ n. tokens_then c.push.new.self.items (tokens_from n (at + c.in-Token.n) 0 (drop (at + c.in-Token.n) text))) more
          ∙ goes_on_token c.loop-at.tokens.items c.push.new.self.items (length c.loop-at.tokens.items) at c.in-Token.n c.in-Token.kind text rest (lexed text) made
          (take_rest text at) scanned fits.0 (omega arith) c.loop-at.invariant.read;
    }

pub returns-clause-few : goal.returns-clause-few
returns-clause-few c =
    let text = c.args.source.now in
    let ts = c.loop-at.tokens.items in
    let whole : lexed text ≡ Ok ts = ends ts (length ts) c.loop-at.at text (lexed text) c.loop-at-test.false c.loop-at.invariant.read in
    omega (arith, (lexed_reads text ts whole).0, c.loop-at.tokens.ok.0)
