-- Rebuilds of a session.
use Rattle.std.specs.Prelude.{◌≡◌, ℕ, Bool, Option, None, Some, List, [], count_by, option_map}
use Rattle.r_rule.specs.declared.steps.Rule.{Rule}
use Rattle.g_graph.specs.Plain.{PlainLambda}
use Rattle.r_rule.specs.Optimised.{PlainOptimised}
use Rattle.g_build_def.specs.Functions.{graph}
use Rattle.s_linear.specs.declared.frame.CodeForm.{CodeForm}
use Rattle.g_pass_order.specs.Calls.{IsOrder}
use Rattle.g_pass_def.specs.Answers.{AreAnswers}
use Rattle.g_pass.specs.Sweep.{rules}
use Rattle.g_pass_work.specs.Stale.{AreStale}
use Rattle.c_typed.specs.Typed.{ProgramTree}
use Rattle.cc_source.specs.Accepted.{Accepts}
use Rattle.cc_compile.specs.Compiled.{IsImageUnder}
use Rattle.cc_session.specs.Accepted.{PlainAccepted}
use Rattle.cc_session.specs.Session.{PlainKept, PlainSession, lambdas_of, deps_of, IsKept}

-- the lambdas of a source with their deps; where there is no source there are none
pub record HasDeps (source : List ℕ) (ls : List PlainLambda) (deps : List (List ℕ)) : Type 0 where
  pub program : ProgramTree
  pub accepted : Accepts source program
  pub lambdas_are : ls ≡ graph program
  pub ranks : List ℕ
  pub order : IsOrder ls ranks deps

abbrev pub HadDeps : Option (List ℕ) → List PlainLambda → (deps : List (List ℕ)) → Type 0
HadDeps None ls deps = (ls ≡ []) × (deps ≡ [])
HadDeps (Some source) ls deps = HasDeps source ls deps

-- so many functions of a source are stale against the last one
pub record AreStaleSince (last : Option (List ℕ)) (source : List ℕ) (jobs : ℕ) : Type 0 where
  pub old : List PlainLambda
  pub old_deps : List (List ℕ)
  pub had : HadDeps last old old_deps
  pub new : List PlainLambda
  pub deps : List (List ℕ)
  pub has : HasDeps source new deps
  pub stale : List Bool
  pub are_stale : AreStale old old_deps new deps stale
  pub count : jobs ≡ count_by (λ (b : Bool). b) stale

-- The bytes are the image of the session's source under its recipe in its form, and so many functions were stale.
pub record IsRebuilt (session : PlainSession) (bytes : List ℕ) (jobs : ℕ) : Type 0 where
  pub program : ProgramTree
  pub accepted : Accepts session.source program
  pub image : IsImageUnder session.recipe session.form program bytes
  pub are_stale : AreStaleSince session.last session.source jobs

-- ---- the parts of a rebuild

-- These lambdas have this order, these of them are stale against those that are kept, and the recipe makes these answers.
pub record AreRemade (recipe : List Rule) (last : Option PlainKept) (ls : List PlainLambda) (deps : List (List ℕ)) (stale : List Bool) (answers : List PlainOptimised) : Type 0 where
  pub ranks : List ℕ
  pub order : IsOrder ls ranks deps
  pub are_stale : AreStale (lambdas_of last) (deps_of last) ls deps stale
  pub answered : AreAnswers rules recipe ls answers

abbrev pub last_source : Option PlainKept → Option (List ℕ)
last_source last = option_map (λ (k : PlainKept). k.source) last

-- what the parts of a session give
pub record IsRebuiltFrom (now : PlainAccepted) (recipe : List Rule) (form : CodeForm) (last : Option PlainKept) (bytes : List ℕ) (jobs : ℕ) (kept : PlainKept) : Type 0 where
  pub image : IsImageUnder recipe form now.program bytes
  pub are_stale : AreStaleSince (last_source last) now.source jobs
  pub source_is : kept.source ≡ now.source
  pub is_kept : IsKept recipe kept
  pub form_is : kept.form ≡ form
