-- What is reported for a source. Each definition on the line under `refusal_of` is one that it computes with.
use Rattle.std.specs.Prelude.{◌≡◌, ℕ, List, [], ◌++◌, length, codes, Option, None, Some, Result, Ok, Err}
use Rattle.c_lex.specs.declared.token.Token.{Token}
use Rattle.c_lex.specs.declared.fault.LexFault.{LexFault}
use Rattle.c_lex.specs.Tokens.{lexed}
use Rattle.c_ast.specs.Nonterminals.{Many}
use Rattle.c_ast.specs.Productions.{Externals}
use Rattle.c_ast.specs.Tree.{Tree, Nil}
use Rattle.c_ast.specs.Reader.{ReadResult, Read, read}
use Rattle.c_lex.specs.Lexemes as clexLexemes
use Rattle.c_lex.specs.Numbers as clexNumbers
use Rattle.c_lex.specs.Quoted as clexQuoted
use Rattle.c_lex.specs.Tokens as clexTokens
use Rattle.c_lex.specs.Trivia as clexTrivia
use Rattle.c_ast.specs.Tree as castTree
use Rattle.c_ast.specs.Declarations as castDeclarations
use Rattle.c_ast.specs.Expressions as castExpressions
use Rattle.c_ast.specs.Externals as castExternals
use Rattle.c_ast.specs.Grammar as castGrammar
use Rattle.c_ast.specs.Nodes as castNodes
use Rattle.c_ast.specs.Nonterminals as castNonterminals
use Rattle.c_ast.specs.Operators as castOperators
use Rattle.c_ast.specs.Spelling as castSpelling
use Rattle.c_ast.specs.Statements as castStatements
use Rattle.c_ast.specs.Terminals as castTerminals
use Rattle.c_ast.specs.Beginnings as cgrammarBeginnings
use Rattle.c_ast.specs.PredictSets as cgrammarPredictSets
use Rattle.c_ast.specs.Reader as cgrammarReader
use Rattle.c_typed.specs.Typed.{ProgramTree}
use Rattle.c_check_def.specs.declared.refusal_kind.RefusalKind.{RefusalKind}
use Rattle.c_check_def.specs.declared.refusal_kind.Quantity.{Quantity}
use Rattle.c_check_def.specs.Refusals.{Refusal, rule_broken, above_limit}
use Rattle.c_check_def.specs.Check.{check}

abbrev pub tokens_in : Result (List Token) LexFault → List Token
tokens_in (Ok ts) = ts
tokens_in (Err e) = []

abbrev pub tree_in : ReadResult → Tree
tree_in (Read t ts) = t
tree_in r = Nil

-- the tree of a source
abbrev pub tree_of : List ℕ → Tree
tree_of cs = tree_in (read 300 (Many Externals) (tokens_in (lexed cs)))

abbrev pub refusal_in : Result ProgramTree Refusal → Option Refusal
refusal_in (Ok p) = None
refusal_in (Err r) = Some r

unfoldable pub refusal_of : List ℕ → Option Refusal
unfolding clexLexemes.identifier_at clexLexemes.slash_at clexLexemes.start_of clexLexemes.lexeme_of clexNumbers.digits_at clexNumbers.constant_at clexNumbers.number_at
    clexQuoted.simple_escape clexQuoted.escape_at clexQuoted.character_at clexQuoted.char_at clexQuoted.string_at clexTokens.lexed clexTrivia.comment_at clexTrivia.line_comment
    clexTrivia.past_include castTree.bare castDeclarations.inits castDeclarations.init_tree castDeclarations.declarator castDeclarations.locals_tree castExpressions.expr_tree
    castExpressions.list_children castExpressions.dimension_children castExpressions.type_tree castExternals.member castExternals.members castExternals.param castExternals.body_tree
    castExternals.specified castExternals.external_tree castGrammar.repeated castGrammar.optional castGrammar.tighter castGrammar.rule castGrammar.symbols_of castGrammar.allowed
    castGrammar.waits castGrammar.else_fits castGrammar.Fits castNodes.many castNonterminals.level_number castNonterminals.repeated_number castNonterminals.optional_number
    castNonterminals.nonterminal_number castNonterminals.same_nonterminal castNonterminals.includes castOperators.selection_production castOperators.selection_mark castOperators.inc_dec_mark
    castOperators.unary_mark castOperators.binary_mark castOperators.binary_level castOperators.assign_mark castOperators.selection_of castOperators.inc_dec_of castOperators.unary_of
    castOperators.binary_of castOperators.assign_of castSpelling.spelled castStatements.start_tree castStatements.label_tree
    castStatements.stmt_tree castStatements.item_tree castStatements.block_tree castStatements.else_children castStatements.group_tree castTerminals.keyword_number castTerminals.mark_number
    castTerminals.operator_level castTerminals.is_assign_mark castTerminals.is_unary_mark castTerminals.is_inc_dec_mark castTerminals.is_of_level castTerminals.is cgrammarBeginnings.Begins
    cgrammarPredictSets.begins_base cgrammarPredictSets.begins_type cgrammarPredictSets.begins_external cgrammarPredictSets.begins_expr cgrammarPredictSets.begins_init
    cgrammarPredictSets.typed cgrammarPredictSets.keyword_stmt cgrammarPredictSets.stmt cgrammarPredictSets.item cgrammarPredictSets.base cgrammarPredictSets.plain_spec
    cgrammarPredictSets.spec cgrammarPredictSets.external cgrammarPredictSets.after_tag cgrammarPredictSets.group_label cgrammarPredictSets.parenthesis cgrammarPredictSets.operand_mark
    cgrammarPredictSets.operand cgrammarPredictSets.initialiser cgrammarPredictSets.begins_optional cgrammarPredictSets.start cgrammarPredictSets.begins_repeated
    cgrammarPredictSets.mark_suffix cgrammarPredictSets.suffix cgrammarPredictSets.left cgrammarPredictSets.operation cgrammarPredictSets.operand_next cgrammarPredictSets.init_next
    cgrammarPredictSets.stmt_next cgrammarPredictSets.next cgrammarReader.production_of cgrammarReader.token cgrammarReader.one cgrammarReader.children cgrammarReader.begun
    cgrammarReader.first cgrammarReader.later cgrammarReader.goes_on cgrammarReader.turns cgrammarReader.step cgrammarReader.read
refusal_of cs = refusal_in (check (tree_of cs) (length cs))

-- a source in two parts, of which the rule is reported where the second begins
abbrev pub Tells : RefusalKind → (before following : List ℕ) → Type 0
Tells rule before following = refusal_of (before ++ following) ≡ Some (rule_broken (record { rule = rule; offset = length before }))

-- a limit that is passed where the second part begins
abbrev pub Counts : Quantity → (count : ℕ) → (before following : List ℕ) → Type 0
Counts q n before following = refusal_of (before ++ following) ≡ Some (above_limit q (length before) n)

-- a source that is accepted, with a `main`
abbrev pub IsAccepted : List ℕ → Type 0
IsAccepted cs = refusal_of (cs ++ codes " int main(void) { return 0; }") ≡ None
