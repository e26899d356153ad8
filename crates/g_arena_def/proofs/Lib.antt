mod OneLambda
