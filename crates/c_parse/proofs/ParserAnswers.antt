-- From what the reader of the grammar says of the tokens to the parser's answer.
use Rattle.std.specs.Prelude.{◌≡◌, ℕ, ◌+◌, ◌*◌, ◌≤◌, List, [], ◌∷◌, length, None, Ok, Err}
use Rattle.std.proofs.Common.{refl, sym, ap, ◌∙◌, subst}
use Rattle.c_lex.specs.declared.token.Token.{Token}
use Rattle.c_ast.specs.declared.external.Unit as ast
use Rattle.c_ast.specs.Nonterminals.{Many}
use Rattle.c_ast.specs.Productions.{Externals}
use Rattle.c_ast.specs.Externals.{unit_tree}
use Rattle.c_ast.specs.Nesting.{depth}
use Rattle.c_ast.specs.Shape.{FollowsGrammar}
use Rattle.c_ast.specs.Spelling.{kinds, tokens_of}
use Rattle.c_ast.specs.Tree.{Tree}
use Rattle.c_ast.specs.Beginnings.{WrongFrom}
use Rattle.c_ast.specs.Laws.{Says}
use Rattle.c_ast.specs.Reader.{ReadResult, Read, SyntaxError, OutOfFuel, read}
use Rattle.c_ast.proofs.lemmas.GrammarLaws.{reader_is_exact}
use Rattle.c_parse_tokens.specs.LeftOut.{first_left_out}
use Rattle.c_parse.specs.Refusal.{Answers}
use Rattle.c_parse_tokens.specs.Reading.{offset_of}
use Rattle.c_parse.specs.declared.fault.ParseFault.TheVariants as fault

-- The tokens have passed both scans, and the reader's bound is high enough for them.
pub record Passed (n : ℕ) (ts : List Token) : Type 0 where
  pub enough : 16 * length ts + 16 ≤ n
  pub kept : first_left_out ts ≡ None
  pub shallow : depth (kinds ts) ≤ 200

says : (n : ℕ) (ts : List Token) (o : ReadResult) → Passed n ts → read n (Many Externals) ts ≡ o → Says ts o
says n ts o p e = subst (Says ts) e (reader_is_exact n ts p.enough)

wrong : (n : ℕ) (ts rest : List Token) (end : ℕ) → Passed n ts → WrongFrom ts rest → Answers ts end (Err (fault.Syntax (offset_of rest end)))
wrong n ts rest end p w = (p.kept, p.shallow, record { rest = rest; wrong = w; at = refl })

-- a tree and no tokens after it
read_whole : (n : ℕ) (ts : List Token) (u : ast.Unit) (end : ℕ) → Passed n ts → read n (Many Externals) ts ≡ Read (unit_tree u) [] → Answers ts end (Ok u)
read_whole n ts u end p e =
    let s : FollowsGrammar (unit_tree u) × (tokens_of (unit_tree u) ≡ ts) × ((v : Tree) → FollowsGrammar v → tokens_of v ≡ ts → v ≡ unit_tree u) =
    says n ts (Read (unit_tree u) []) p e in (
      p.kept,
      record {
        shaped = (s.0, subst (λ (z : List Token). depth (kinds z) ≤ 200) (sym s.1) p.shallow);
        spells = s.1;
        only = λ v h. s.2 v h.0;
      },
    )

pub read_ended : (n : ℕ) (ts start rest : List Token) (u : ast.Unit) (end : ℕ) → Passed n ts → start ≡ ts → read n (Many Externals) start ≡ Read (unit_tree u) rest → rest ≡ [] → Answers ts end (Ok u)
read_ended n ts start rest u end p same e none =
    read_whole n ts u end p (ap (read n (Many Externals)) (sym same) ∙ e ∙ ap (Read (unit_tree u)) none)

-- a tree and tokens after it
pub read_part : (n : ℕ) (ts : List Token) (t : Tree) (x : Token) (rest : List Token) (end : ℕ) → Passed n ts → read n (Many Externals) ts ≡ Read t (x ∷ rest) →
    Answers ts end (Err (fault.Syntax (offset_of (x ∷ rest) end)))
read_part n ts t x rest end p e = wrong n ts (x ∷ rest) end p (says n ts (Read t (x ∷ rest)) p e)

-- no tree
pub read_none : (n : ℕ) (ts rest : List Token) (end : ℕ) → Passed n ts → read n (Many Externals) ts ≡ SyntaxError rest → Answers ts end (Err (fault.Syntax (offset_of rest end)))
read_none n ts rest end p e = wrong n ts rest end p (says n ts (SyntaxError rest) p e)

pub never_deep : (n : ℕ) (ts : List Token) → Passed n ts → read n (Many Externals) ts ≡ OutOfFuel → ⊥
never_deep n ts p e = says n ts OutOfFuel p e

pub ruleset parser_answers = (read_ended, read_part, read_none, never_deep)
