mod FlatReads
mod PlainReads
mod DeclarationLemmas
mod StatementLemmas
mod ExternalLemmas
mod LeftOutLaws
mod AnswerLaws
mod ParserAnswers
