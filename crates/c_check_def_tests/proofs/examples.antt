-- Worked rows, from source to refusal.
mod Source
mod NameRows
mod ExpressionRows
mod DeclarationRows
mod StatementRows
mod LimitRows
