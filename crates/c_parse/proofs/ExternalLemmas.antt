-- Steps of the reader at declarations at file scope.
use Rattle.std.proofs.Common.{◌≡◌, ℕ, Bool, true, false, List, [], ◌∷◌, Option, Some, None, refl}
use Rattle.c_lex.specs.declared.punct.Punct.TheVariants as m
use Rattle.c_lex.specs.declared.token.Token.{Token}
use Rattle.c_lex.specs.declared.token.TokenKind.{TokenKind}
use Rattle.c_lex.specs.declared.token.TokenKind.TheVariants as kind
use Rattle.c_ast.specs.declared.specifier.Spec.{Spec}
use Rattle.c_ast.specs.declared.specifier.Spec.TheVariants as spec
use Rattle.c_ast.specs.Nonterminals.{Block, Body, AfterTag, AfterType}
use Rattle.c_ast.specs.Externals.{plain_with}
use Rattle.c_ast.specs.Productions as production
use Rattle.c_ast.specs.Nodes.{node}
use Rattle.c_ast.specs.Specifiers.{spec_tree}
use Rattle.c_ast.specs.Terminals.{Mark, is, mark_number}
use Rattle.c_ast.specs.Tree.{Tree}
use Rattle.c_ast.proofs.lemmas.Lists.{grows}
use Rattle.c_ast.specs.Reader.{read}
use Rattle.c_ast.specs.PredictSets.{head, typed, at, start, next, after_tag}
use Rattle.c_parse_tokens.specs.Ahead.{is_struct}
use Rattle.c_parse.proofs.FlatReads.{rows}
use Rattle.c_parse.proofs.PlainReads.{plain_reads}
use Rattle.c_parse_tokens.proofs.lemmas.Reads.{repeats}
use Rattle.c_parse_tokens.proofs.lemmas.SameNonterminal.{read_same}

pub plain-with : (s : Spec) (rest : Tree) → is_struct s ≡ false → plain_with s rest ≡ node production.Plain (spec_tree s ∷ rest ∷ [])
plain-with (spec.Void a) rest e = refl
plain-with (spec.Plain b) rest e = refl
plain-with (spec.Struct k t) rest e = cc
plain-with (spec.Signed s a b) rest e = refl

start_body : (h : Option TokenKind) (b : Bool) → at (is (Mark m.Semicolon)) h ≡ false → start Body h b ≡ start Block h b
unfolding start
start_body h b e = rw e

pub body-block : (n : ℕ) (ts : List Token) → at (is (Mark m.Semicolon)) (head ts) ≡ false → read n Body ts ≡ read n Block ts
unfolding next
body-block n ts e = read_same Body Block n ts (start_body (head ts) (typed ts) e) (λ l h. refl)

start_tag : (h : Option TokenKind) (b : Bool) → at (is (Mark m.Semicolon)) h ≡ false → at (is (Mark m.LBrace)) h ≡ false → start AfterTag h b ≡ start AfterType h b
unfolding start after_tag is mark_number
start_tag None b e d = refl
start_tag (Some (kind.Punct m.Semicolon)) b e d = cc
start_tag (Some (kind.Punct m.LBrace)) b e d = cc
start_tag (Some (kind.Punct p)) b e d = refl
start_tag (Some k) b e d = refl

pub tag-type : (n : ℕ) (ts : List Token) → at (is (Mark m.Semicolon)) (head ts) ≡ false → at (is (Mark m.LBrace)) (head ts) ≡ false →
    read n AfterTag ts ≡ read n AfterType ts
unfolding next
tag-type n ts e d = read_same AfterTag AfterType n ts (start_tag (head ts) (typed ts) e d) (λ l h. refl)

start_semicolon : (h : Option TokenKind) (b : Bool) → at (is (Mark m.Semicolon)) h ≡ true → start AfterTag h b ≡ Some production.StructName
unfolding start after_tag is mark_number
start_semicolon None b e = cc
start_semicolon (Some (kind.Punct m.Semicolon)) b e = refl
start_semicolon (Some (kind.Punct p)) b e = cc
start_semicolon (Some k) b e = cc

start_brace : (h : Option TokenKind) (b : Bool) → at (is (Mark m.LBrace)) h ≡ true → start AfterTag h b ≡ Some production.StructMembers
unfolding start after_tag is mark_number
start_brace None b e = cc
start_brace (Some (kind.Punct m.LBrace)) b e = refl
start_brace (Some (kind.Punct p)) b e = cc
start_brace (Some k) b e = cc

pub tag-semicolon : (ts : List Token) → at (is (Mark m.Semicolon)) (head ts) ≡ true → start AfterTag (head ts) (typed ts) ≡ Some production.StructName
tag-semicolon ts e = start_semicolon (head ts) (typed ts) e

pub tag-brace : (ts : List Token) → at (is (Mark m.LBrace)) (head ts) ≡ true → start AfterTag (head ts) (typed ts) ≡ Some production.StructMembers
tag-brace ts e = start_brace (head ts) (typed ts) e

pub ruleset externals = (repeats, rows, plain_reads, grows, plain-with, body-block, tag-type, tag-semicolon, tag-brace)
