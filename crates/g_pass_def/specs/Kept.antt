-- When a list of lambdas is kept by another: what a user of the one may rely on when the other comes in its place.
use Rattle.std.specs.Prelude.{◌≡◌, ℕ, List, length, Some, slice_get}
use Rattle.g_graph.specs.Plain.{PlainLambda}
use Rattle.g_graph.specs.Program.{lambda_values}
use Rattle.r_edit.specs.Size.{IsNoLarger}
use Rattle.r_edit.specs.Steps.{MayStandForAll, KeepsInterface}

-- a lambda has the number, parameters and objects of the other, and is no larger, or small
pub record KeepsShape (l k : PlainLambda) : Type 0 where
  pub interface : KeepsInterface l k
  pub values : IsNoLarger (lambda_values l) (lambda_values k)

-- The lambdas `ks` keep `ls`: they may stand for them, and each keeps the shape of the one in its place.
pub record IsKeptBy (ls ks : List PlainLambda) : Type 0 where
  pub stands : MayStandForAll ls ks
  pub count : length ks ≡ length ls
  pub each : (f : ℕ) (l k : PlainLambda) → slice_get ls f ≡ Some l → slice_get ks f ≡ Some k → KeepsShape l k
