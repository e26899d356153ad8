mod OperatorRows
