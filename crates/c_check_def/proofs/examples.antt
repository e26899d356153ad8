mod Terms
mod ConstantRows
mod OperandRows
