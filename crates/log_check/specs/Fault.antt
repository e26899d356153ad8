-- Where what a log says of functions is wrong for the first time.
use Rattle.std.specs.Prelude.{◌≡◌, ◌≢◌, ℕ, suc, ◌+◌, ◌<◌, ◌⊎◌, List, [], length, take, None, Some, slice_get, slice_index, slice_index_or}
use Rattle.r_rule.specs.declared.steps.Step.{Step}
use Rattle.g_graph.specs.Plain.{PlainLambda}
use Rattle.g_graph.specs.Program.{lambda_values}
use Rattle.g_pass_order.specs.Calls.{IsOrder}
use Rattle.g_pass_def.specs.Answers.{lambda_of}
use Rattle.g_pass_def.specs.Sweep.{replayed}
use Rattle.g_pass_def.specs.Replayed.{lambdas_at}
use Rattle.g_pass.specs.Sweep.{rules}
use Rattle.log_check.specs.Log.{PlainPart}
use Rattle.log_check.specs.Right.{part_at, AreRightUntil}
use Rattle.log_check.specs.declared.replay_fault.ReplayFault.{ReplayFault}
use Rattle.log_check.specs.declared.replay_fault.ReplayFault.TheVariants.{BadCount, BadStep, NoMemory}

-- ---- one function

-- The first n steps can be made, and the next one does not apply.
pub record StopsAfter (callees : List PlainLambda) (steps : List Step) (l : PlainLambda) (n : ℕ) : Type 0 where
  pub lambda : PlainLambda
  pub step : Step
  pub made : replayed rules callees (take n steps) l ≡ Some lambda
  pub next : slice_get steps n ≡ Some step
  pub stops : rules.step step.rule callees step.node lambda ≡ None

-- the line of the step at which they stop, where the one of the function is given
pub record IsStepFault (callees : List PlainLambda) (steps : List Step) (l : PlainLambda) (line at : ℕ) : Type 0 where
  pub index : ℕ
  pub line_is : at ≡ line + suc index
  pub after : StopsAfter callees steps l index

-- what is wrong of the steps alone
abbrev pub StepsFail : (callees : List PlainLambda) → (steps : List Step) → (l : PlainLambda) → (line : ℕ) → ReplayFault → Type 0
StepsFail callees steps l line (BadCount at) = ⊥
StepsFail callees steps l line (BadStep at) = IsStepFault callees steps l line at
StepsFail callees steps l line NoMemory = Unit {0}

-- The count before the steps is the lambda's, all steps can be made, and the count after them is another one than theirs.
pub record CountsAnother (callees : List PlainLambda) (l : PlainLambda) (p : PlainPart) : Type 0 where
  pub before : p.before ≡ lambda_values l
  pub lambda : PlainLambda
  pub made : replayed rules callees p.steps l ≡ Some lambda
  pub other : p.after ≢ lambda_values lambda

-- What is wrong of a function: the count before its steps, else a step, else the count after them. A count is told by the
-- function's line.
abbrev pub IsFunctionFault : (callees : List PlainLambda) → (l : PlainLambda) → PlainPart → ReplayFault → Type 0
IsFunctionFault callees l p (BadCount at) = (at ≡ p.line) × ((p.before ≢ lambda_values l) ⊎ CountsAnother callees l p)
IsFunctionFault callees l p (BadStep at) = (p.before ≡ lambda_values l) × IsStepFault callees p.steps l p.line at
IsFunctionFault callees l p NoMemory = Unit {0}

-- ---- all functions, by rank, and within a rank by number

-- this is wrong of a function, and nothing of those that are taken before it
pub record IsFirstFault (ls : List PlainLambda) (log : List PlainPart) (fault : ReplayFault) : Type 0 where
  pub ranks : List ℕ
  pub deps : List (List ℕ)
  pub order : IsOrder ls ranks deps
  pub function : ℕ
  pub inside : function < length ls
  pub lambdas : List PlainLambda
  pub before : AreRightUntil ls ranks deps log (slice_index ranks function) function lambdas
  pub wrong : IsFunctionFault (lambdas_at lambdas (slice_index_or deps function [])) (lambda_of ls function) (part_at log function) fault

-- want of memory may come in place of any answer
abbrev pub IsReplayFault : (ls : List PlainLambda) → (log : List PlainPart) → ReplayFault → Type 0
IsReplayFault ls log NoMemory = Unit {0}
IsReplayFault ls log fault = IsFirstFault ls log fault
