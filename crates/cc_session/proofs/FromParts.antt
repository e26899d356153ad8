-- What a rebuild gives, from its parts.
use Rattle.std.proofs.Common.{◌≡◌, ◌<◌, ◌^◌, ◌∙◌, ℕ, Bool, List, slice_get, refl, sym, subst, arith}
use Rattle.std.specs.Prelude.{Option, None, Some, count_by}
use Rattle.r_rule.specs.declared.steps.Rule.{Rule}
use Rattle.g_graph.specs.Plain.{PlainLambda}
use Rattle.r_rule.specs.Optimised.{PlainOptimised}
use Rattle.g_graph.specs.Program.{lambda_values}
use Rattle.g_build_def.specs.Functions as built
use Rattle.s_linear.specs.declared.frame.CodeForm.{CodeForm}
use Rattle.g_pass_order.specs.Calls.{IsOrder}
use Rattle.g_pass_order.specs.Laws.{OrdersAreUnique}
use Rattle.g_pass_def.specs.Answers.{AreAnswers}
use Rattle.g_pass.specs.Sweep.{rules}
use Rattle.c_typed.specs.Typed.{ProgramTree}
use Rattle.cc_source.specs.Accepted.{Accepts}
use Rattle.cc_emit.specs.Image.{file_of_program, lambdas_of, CanEmit}
use Rattle.cc_compile.specs.Compiled.{IsImageUnder}
use Rattle.cc_session.specs.Accepted.{PlainAccepted}
use Rattle.cc_session.specs.Session as session
use Rattle.cc_session.specs.Session.{PlainKept, IsKept, IsLast, IsSession}
use Rattle.cc_session.specs.Rebuilds.{AreRemade, AreStaleSince, HadDeps, IsRebuiltFrom, last_source}

-- the lambdas of a program that can be put in an image have few values
pub small : (p : ProgramTree) → CanEmit (built.omega p) (built.graph p) → (f : ℕ) (l : PlainLambda) → slice_get (built.graph p) f ≡ Some l → lambda_values l < 2 ^ 32
small p can f l e = omega (arith, (can.limits.each f l e).values)

had-deps : (recipe : List Rule) (last : Option PlainKept) → IsLast recipe last → HadDeps (last_source last) (session.lambdas_of last) (session.deps_of last)
had-deps recipe None it = (refl, refl)
had-deps recipe (Some k) it = record {
  program = it.program;
  accepted = it.accepted;
  lambdas_are = it.lambdas_are;
  ranks = it.answered.ranks;
  order = subst (λ (ds : List (List ℕ)). IsOrder k.lambdas it.answered.ranks ds) it.deps_are it.answered.order;
}

module _ (unique : OrdersAreUnique) (now : PlainAccepted) (recipe : List Rule) (form : CodeForm) (last : Option PlainKept) (is : IsSession now recipe form last)
    (deps : List (List ℕ)) (stale : List Bool) (answers : List PlainOptimised) (made : AreRemade recipe last (built.graph now.program) deps stale answers) where
  stale-since : (jobs : ℕ) → jobs ≡ count_by (λ (b : Bool). b) stale → AreStaleSince (last_source last) now.source jobs
  stale-since jobs count = record {
    old = session.lambdas_of last;
    old_deps = session.deps_of last;
    had = had-deps recipe last is.is_last;
    new = built.graph now.program;
    deps = deps;
    has = record { program = now.program; accepted = is.accepted; lambdas_are = refl; ranks = made.ranks; order = made.order };
    stale = stale;
    are_stale = made.are_stale;
    count = count;
  }

  image-of : (bytes : List ℕ) → bytes ≡ file_of_program form (built.omega now.program) (lambdas_of answers) → IsImageUnder recipe form now.program bytes
  image-of bytes file = record { answers = answers; made = made.answered; file = file }

  is-kept : (source : List ℕ) (ls : List PlainLambda) (own : List ℕ) → source ≡ now.source → ls ≡ built.graph now.program →
      own ≡ file_of_program form (built.omega now.program) (lambdas_of answers) → IsKept recipe (record { source = source; lambdas = ls; deps = deps; answers = answers; form = form; image = own })
  is-kept source ls own source-is ls-are file =
      let all = subst (λ (xs : List PlainLambda). AreAnswers rules recipe xs answers) (sym ls-are) made.answered in
      let order = subst (λ (xs : List PlainLambda). IsOrder xs made.ranks deps) (sym ls-are) made.order in
      record {
        program = now.program;
        accepted = subst (λ (text : List ℕ). Accepts text now.program) (sym source-is) is.accepted;
        lambdas_are = ls-are;
        answered = all;
        deps_are = (unique ls all.ranks made.ranks all.deps deps all.order order).1;
        image_is = image-of own file;
      }

  pub rebuilt : (bytes : List ℕ) (jobs : ℕ) (source : List ℕ) (ls : List PlainLambda) (own : List ℕ) →
      bytes ≡ file_of_program form (built.omega now.program) (lambdas_of answers) → jobs ≡ count_by (λ (b : Bool). b) stale → source ≡ now.source → ls ≡ built.graph now.program →
      own ≡ bytes → IsRebuiltFrom now recipe form last bytes jobs (record { source = source; lambdas = ls; deps = deps; answers = answers; form = form; image = own })
  rebuilt bytes jobs source ls own file count source-is ls-are own-is = record {
    image = image-of bytes file;
    are_stale = stale-since jobs count;
    source_is = source-is;
    is_kept = is-kept source ls own source-is ls-are (own-is ∙ file);
    form_is = refl;
  }
