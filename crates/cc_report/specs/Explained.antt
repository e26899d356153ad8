-- What is said of a source that is refused.
use Rattle.std.specs.Prelude.{ℕ, List, ◌++◌, codes, decimal}
use Rattle.cc_report.specs.declared.refusal.RefusalKind.{RefusalKind}
use Rattle.cc_report.specs.declared.refusal.RefusalKind.TheVariants.{BadByte, OpenComment, OpenText, BadText, TooWide, LongName, Directive, ManyTokens, BadNumber, LongSource, LeftOut, TooDeep, Syntax, Unknown, Redeclared, NotAssignable, BadOperands, BadCall, NotConstant, BadInitialiser, BadType, BadReturn, BadJump, NoMain, Limit, BadLabel}
use Rattle.cc_report.specs.declared.refusal.Refusal.{Refusal}
use Rattle.cc_report.specs.Refusal.{name_of, number_of}
use Rattle.cc_report.specs.Excerpt.{column, excerpt}

-- when the rule is broken, and where, as docs/REPORTS.md has it
unfoldable pub sentence_of : RefusalKind → List ℕ
sentence_of BadByte = codes "a byte begins no token, blank or comment: it"
sentence_of OpenComment = codes "a `/*` has no end: its start"
sentence_of OpenText = codes "the line or the source ends before the closing quote: the opening one"
sentence_of BadText = codes "an escape is unknown or above 255, or a character constant is not one character: its start"
sentence_of TooWide = codes "a decimal constant without suffix is above 2147483647, or any constant above 4294967295: its start"
sentence_of LongName = codes "a name has more than 63 bytes: its start"
sentence_of Directive = codes "a `#` is not part of a line `#include <stdio.h>` or `#include <stdlib.h>`: it"
sentence_of ManyTokens = codes "there are more than 200,000 tokens: the start of the first one too many"
sentence_of BadNumber = codes "a number is none of the constants of the language: its start"
sentence_of LongSource = codes "the source has more than 1,048,576 bytes: byte 1,048,576"
sentence_of LeftOut = codes "a keyword of C is none of the language: it"
sentence_of TooDeep = codes "the nesting is deeper than 200: the first token after which it is"
sentence_of Syntax = codes "no program goes on with a token, or the source ends before a program does: that token, or the end of the source"
sentence_of Unknown = codes "a name, tag or member is not declared, or a called function is nowhere defined: the name"
sentence_of Redeclared = codes "a name is declared twice in one scope, or a function with other types: the second name"
sentence_of NotAssignable = codes "the target is constant or no object, or has no address: the operator"
sentence_of BadOperands = codes "the operator does not take operands of these types: it, or the keyword of a condition"
sentence_of BadCall = codes "what is called is no function, or takes other arguments: the `(`; or a function is not called: its name"
sentence_of NotConstant = codes "an expression is no constant where one must stand, or no size of an array: its first token"
sentence_of BadInitialiser = codes "an initialiser does not fit what it begins: its first token, or the `{` of a list with too many elements"
sentence_of BadType = codes "an object, a parameter or a result may not have its type, or the type has too many bytes: the name"
sentence_of BadReturn = codes "a `return` has a value that the function does not give, or none: the `return`"
sentence_of BadJump = codes "there is nothing that a `break` or `continue` could leave or go on with: it"
sentence_of NoMain = codes "no `main` is defined as `int main(void)`: the end of the source"
sentence_of (Limit which count) = codes "a limit is passed: see below"
sentence_of BadLabel = codes "a label of a `switch` has the value of another, or is a second `default`: the `case` or `default`"

-- the section of docs/LANGUAGE.md that has the rule
unfoldable pub section_of : RefusalKind → List ℕ
section_of BadByte = codes "Tokens"
section_of OpenComment = codes "Tokens"
section_of OpenText = codes "Tokens"
section_of BadText = codes "Tokens"
section_of TooWide = codes "Tokens"
section_of LongName = codes "Tokens"
section_of Directive = codes "Tokens"
section_of ManyTokens = codes "Tokens"
section_of BadNumber = codes "Tokens"
section_of LongSource = codes "Tokens"
section_of LeftOut = codes "Keywords"
section_of TooDeep = codes "Nesting"
section_of Syntax = codes "Grammar"
section_of Unknown = codes "Names"
section_of Redeclared = codes "Names"
section_of NotAssignable = codes "Expressions"
section_of BadOperands = codes "Expressions"
section_of BadCall = codes "Expressions"
section_of NotConstant = codes "Types"
section_of BadInitialiser = codes "Initialisers"
section_of BadType = codes "Types"
section_of BadReturn = codes "Statements"
section_of BadJump = codes "Statements"
section_of NoMain = codes "Names"
section_of (Limit which count) = codes "Limits of programs"
section_of BadLabel = codes "Statements"

-- what is counted with a limit
abbrev pub count_text : RefusalKind → List ℕ
count_text (Limit which count) = codes " which " ++ decimal which ++ codes " count " ++ decimal count
count_text kind = codes ""

-- the name and the number of a refusal, and where it is
abbrev pub place_text : Refusal → (column : ℕ) → List ℕ
place_text refusal column =
    name_of refusal.kind ++ codes " " ++ decimal (number_of refusal.kind) ++ codes " line " ++ decimal refusal.line ++ codes " column " ++ decimal column

abbrev pub rule_text : RefusalKind → List ℕ
rule_text kind = sentence_of kind ++ codes "\ndocs/LANGUAGE.md, " ++ section_of kind ++ codes "\n"

-- The refusal of a source at an offset: its name, number and place, the line with a caret, the rule, and where to read on.
unfoldable pub refusal_text : Refusal → (source : List ℕ) → (at : ℕ) → List ℕ
refusal_text refusal source at =
    place_text refusal (column source at) ++ (count_text refusal.kind ++ (codes "\n" ++ (excerpt source at ++ rule_text refusal.kind)))
