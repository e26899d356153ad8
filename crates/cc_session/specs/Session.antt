-- What contracts see of a session, what is kept in it, and what an edit does to it.
use Rattle.std.specs.Prelude.{◌≡◌, ℕ, Option, None, Some, List, [], refl}
use Rattle.std.specs.Coded.{Coded, code_by, coded×, coded_list, coded_option, coded_ℕ}
use Rattle.r_rule.specs.declared.steps.Rule.{Rule}
use Rattle.r_rule.specs.contracts.steps.Rule as rule
use Rattle.g_graph.specs.Plain.{PlainLambda}
use Rattle.r_rule.specs.Optimised.{PlainOptimised}
use Rattle.g_graph.specs.Codes.{coded_lambda}
use Rattle.r_rule.specs.Optimised.{coded_optimised}
use Rattle.g_build_def.specs.Functions.{graph}
use Rattle.s_linear.specs.declared.frame.CodeForm.{CodeForm}
use Rattle.s_linear.specs.contracts.frame.CodeForm as code_form
use Rattle.g_pass_def.specs.Answers.{AreAnswers}
use Rattle.g_pass.specs.Sweep.{rules}
use Rattle.c_typed.specs.Typed.{ProgramTree}
use Rattle.cc_source.specs.Accepted.{Accepts}
use Rattle.cc_compile.specs.Compiled.{IsImageUnder}
use Rattle.cc_session.specs.declared.fault.EditFault.{EditFault}
use Rattle.cc_session.specs.Accepted.{PlainAccepted}
use Rattle.cc_session.specs.Edits.{IsEdited, IsEditRefused}

-- the source, the rules of the recipe, the form, and the source of the last rebuild
pub record PlainSession : Type 0 where
  pub source : List ℕ
  pub recipe : List Rule
  pub form : CodeForm
  pub last : Option (List ℕ)

abbrev pub coded_session : Coded PlainSession
coded_session =
    code_by (List ℕ × (List Rule × (CodeForm × Option (List ℕ))))
    (coded× (coded_list coded_ℕ) (coded× (coded_list rule.the_row.coded) (coded× code_form.the_row.coded (coded_option (coded_list coded_ℕ)))))
    (λ s. (s.source, (s.recipe, (s.form, s.last)))) (λ p. record { source = p.0; recipe = p.1.0; form = p.1.1.0; last = p.1.1.1 }) (λ _. refl)

-- what is kept of the last rebuild: its source, the lambdas of its program, their deps and their answers, the form, and the image
pub record PlainKept : Type 0 where
  pub source : List ℕ
  pub lambdas : List PlainLambda
  pub deps : List (List ℕ)
  pub answers : List PlainOptimised
  pub form : CodeForm
  pub image : List ℕ

abbrev pub coded_kept : Coded PlainKept
coded_kept =
    code_by (List ℕ × (List PlainLambda × (List (List ℕ) × (List PlainOptimised × (CodeForm × List ℕ)))))
    (coded× (coded_list coded_ℕ)
    (coded× (coded_list coded_lambda) (coded× (coded_list (coded_list coded_ℕ)) (coded× (coded_list coded_optimised) (coded× code_form.the_row.coded (coded_list coded_ℕ))))))
    (λ k. (k.source, (k.lambdas, (k.deps, (k.answers, (k.form, k.image))))))
    (λ p. record { source = p.0; lambdas = p.1.0; deps = p.1.1.0; answers = p.1.1.1.0; form = p.1.1.1.1.0; image = p.1.1.1.1.1 }) (λ _. refl)

-- the lambdas, deps and answers that are kept; none where there was no rebuild
abbrev pub lambdas_of : Option PlainKept → List PlainLambda
lambdas_of None = []
lambdas_of (Some k) = k.lambdas

abbrev pub deps_of : Option PlainKept → List (List ℕ)
deps_of None = []
deps_of (Some k) = k.deps

abbrev pub answers_of : Option PlainKept → List PlainOptimised
answers_of None = []
answers_of (Some k) = k.answers

-- A source is accepted, as some program.
abbrev pub IsAcceptedSource : List ℕ → Type 0
IsAcceptedSource source = (p : ProgramTree) × Accepts source p

-- what is kept is what the recipe made of the source, in the form that is kept
pub record IsKept (recipe : List Rule) (kept : PlainKept) : Type 0 where
  pub program : ProgramTree
  pub accepted : Accepts kept.source program
  pub lambdas_are : kept.lambdas ≡ graph program
  pub answered : AreAnswers rules recipe kept.lambdas kept.answers
  pub deps_are : answered.deps ≡ kept.deps
  pub image_is : IsImageUnder recipe kept.form program kept.image

abbrev pub IsLast : (recipe : List Rule) → Option PlainKept → Type 0
IsLast recipe None = Unit {0}
IsLast recipe (Some kept) = IsKept recipe kept

abbrev pub IsLastForm : (form : CodeForm) → Option PlainKept → Type 0
IsLastForm form None = Unit {0}
IsLastForm form (Some kept) = kept.form ≡ form

-- the image that is kept, which is that of this source
pub record IsImageKept (last : Option PlainKept) (source image : List ℕ) : Type 0 where
  pub kept : PlainKept
  pub last_is : last ≡ Some kept
  pub source_is : kept.source ≡ source
  pub image_is : image ≡ kept.image

-- The source is accepted as its program, and what is kept of the last rebuild, where there was one, is of the recipe and the form.
pub record IsSession (now : PlainAccepted) (recipe : List Rule) (form : CodeForm) (last : Option PlainKept) : Type 0 where
  pub accepted : Accepts now.source now.program
  pub is_last : IsLast recipe last
  pub is_form : IsLastForm form last

-- ---- edits

-- A session with this source accepted has it edited, and nothing else is changed.
pub record Replaces (old : PlainSession) (name text : List ℕ) (new : PlainSession) : Type 0 where
  pub before : PlainAccepted
  pub source_was : before.source ≡ old.source
  pub accepted : Accepts old.source before.program
  pub after : PlainAccepted
  pub edited : IsEdited before name text after
  pub new_is : new ≡ record { source = after.source; recipe = old.recipe; form = old.form; last = old.last }

-- why an edit is refused
pub record IsReplaceRefused (e : EditFault) (old : PlainSession) (name text : List ℕ) : Type 0 where
  pub before : PlainAccepted
  pub source_was : before.source ≡ old.source
  pub accepted : Accepts old.source before.program
  pub refused : IsEditRefused e before name text
