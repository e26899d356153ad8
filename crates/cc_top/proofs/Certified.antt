-- The log of a compiled source certifies its image.
use Rattle.std.specs.Prelude.{option_map, unwrap_or, None}
use Rattle.std.specs.List.{AllByRecursion}
use Rattle.std.proofs.Common.{◌≡◌, ◌≤◌, ◌<◌, ℕ, zero, suc, List, [], ◌∷◌, length, Some, slice_get, refl, sym, ap, subst, ◌∙◌, arith}
use Rattle.std.proofs.lemmas.Option.{same_Some, slice_get-map}
use Rattle.base.specs.Limits.{most_sweeps}
use Rattle.c_typed.specs.Typed.{FunctionTree, ProgramTree}
use Rattle.c_typed.specs.WellTyped.{IsWellTyped}
use Rattle.c_check_def.specs.Limits.{above_limits}
use Rattle.r_rule.specs.declared.steps.Rule.{Rule}
use Rattle.g_graph.specs.Lists.{IsComplete}
use Rattle.g_graph.specs.Plain.{PlainLambda}
use Rattle.r_rule.specs.Optimised.{PlainOptimised}
use Rattle.g_graph.specs.Program.{lambda_values}
use Rattle.g_build.specs.Passed.{limit_passed}
use Rattle.g_build_def.specs.Functions as built
use Rattle.g_build_def.specs.Functions.{graph, lambdas_made}
use Rattle.g_build_keeps.specs.BuiltLaws.{WellTypedAreBuilt}
use Rattle.g_build_keeps.specs.NumberLaws.{NumbersAreFew}
use Rattle.g_pass_order.specs.Calls.{no_lambda}
use Rattle.g_pass_order.specs.Laws.{OrdersAreRanked}
use Rattle.g_pass_def.specs.Answers.{AreAnswers, lambdas_of}
use Rattle.g_pass_def.specs.Laws.{AnswersAreReplayed}
use Rattle.g_pass_def.specs.Replayed.{AreReplayed}
use Rattle.g_pass_def.proofs.lemmas.Answers.{made-of}
use Rattle.g_pass.specs.Sweep.{rules}
use Rattle.g_pass.specs.MeaningLaws.{AnswersKeepLists}
use Rattle.g_pass.specs.StepLaws.{AnswersHaveFewSteps}
use Rattle.c_check_laws.specs.NamesLaws.{IsName, FunctionsHaveNames}
use Rattle.s_linear.specs.declared.frame.CodeForm.{CodeForm}
use Rattle.cc_emit.specs.Image.{CanEmit, file_of_program}
use Rattle.cc_watch.specs.Rows.{PlainRow}
use Rattle.cc_watch.specs.Texts.{log_text}
use Rattle.cc_source.specs.SourceLaws.{CheckedAreWellTyped, TokensAreInRange}
use Rattle.cc_source.specs.Laws.{KeptListsCanBeEmitted, ProgramsCanBeEmitted}
use Rattle.cc_source.proofs.lemmas.Small.{graph_may_grow}
use Rattle.cc_compile.specs.Compiled.{IsImageUnder, rows_of}
use Rattle.log_check.specs.Log.{IsLogOf, most_log_bytes, parts_of}
use Rattle.log_check.specs.Right.{AreRight}
use Rattle.log_check.specs.Judgement.{IsRead, IsCertified, Certifies}
use Rattle.cc_top.specs.CompileLaws.{LogsCertifyImages}
use Rattle.cc_top.proofs.Rows.{Fits, AllFit, all_fit, rows_fit, log_bytes, parts_are_rows, names_are, steps_are, counts_are}

-- ---- lists by index

each_of : {X : Type 0} (P : X → Type 0) (xs : List X) → AllByRecursion P xs → (j : ℕ) (x : X) → slice_get xs j ≡ Some x → P x
each_of P [] h j x e = absurd cc
each_of P (y ∷ xs) h zero x e = subst P (same_Some y x e) h.0
each_of P (y ∷ xs) h (suc j) x e = each_of P xs h.1 j x e

inside : {X : Type 0} (xs : List X) (j : ℕ) (x : X) → slice_get xs j ≡ Some x → j < length xs
inside [] j x e = absurd cc
inside (y ∷ xs) zero x e = omega arith
inside (y ∷ xs) (suc j) x e = let rest = inside xs j x e in omega (arith, rest)

graph_length : (p : ProgramTree) (n : ℕ) (fs : List FunctionTree) → length fs ≡ length (lambdas_made p n fs)
graph_length p n [] = refl
graph_length p n (f ∷ fs) = ap suc (graph_length p (suc n) fs)

-- ---- what the log says

module _ (ranked : OrdersAreRanked) (few_steps : AnswersHaveFewSteps) (few_numbers : NumbersAreFew) (kept : AnswersKeepLists) (programs : ProgramsCanBeEmitted) (lists : KeptListsCanBeEmitted)
    (replayed : AnswersAreReplayed) (p : ProgramTree) (typed : IsWellTyped p) (checked : above_limits p ≡ None) (within : limit_passed p.functions ≡ None)
    (named : AllByRecursion (λ (f : FunctionTree). IsName f.name) p.functions) (complete : IsComplete (graph p)) (recipe : List Rule) (sweeps : length recipe ≤ most_sweeps)
    (answers : List PlainOptimised) (made : AreAnswers rules recipe (graph p) answers) where
  can : CanEmit (built.omega p) (graph p)
  can = programs p typed checked within

  can_made : CanEmit (built.omega p) (lambdas_of answers)
  can_made = lists p typed checked within (lambdas_of answers) (kept recipe (graph p) answers complete made)

  -- the count before the steps is that of the lambda
  before_is : (j : ℕ) (l : PlainLambda) (a : PlainOptimised) → slice_get (graph p) j ≡ Some l → slice_get answers j ≡ Some a → a.before ≡ lambda_values l
  before_is j l a at is =
      let one = made-of ranked rules recipe (graph p) answers made j (inside (graph p) j l at) in
      ap (λ (x : PlainOptimised). x.before) (sym (same_Some _ a (sym one.is ∙ is))) ∙ ap (λ o. lambda_values (unwrap_or o no_lambda)) at

  function_fits : (j : ℕ) (f : FunctionTree) (l : PlainLambda) (a : PlainOptimised) → slice_get p.functions j ≡ Some f → slice_get (graph p) j ≡ Some l → slice_get answers j ≡ Some a →
      Fits recipe f l a
  function_fits j f l a there at is = record {
    name = each_of (λ (g : FunctionTree). IsName g.name) p.functions named j f there;
    before = before_is j l a at is;
    values = (can.limits.each j l at).values;
    after = (can_made.limits.each j a.lambda (slice_get-map (λ (o : PlainOptimised). o.lambda) answers j ∙ ap (λ o. option_map (λ (x : PlainOptimised). x.lambda) o) is)).values;
    steps =
        few_steps recipe (graph p) answers complete (λ k m e. omega (arith, few_numbers p k m e, (can.limits.each k m e).values)) made j l a at is;
  }

  fit : AllFit recipe p.functions (graph p) answers
  fit = all_fit recipe p.functions (graph p) answers (graph_length p 0 p.functions) made.count function_fits

  short : length (log_text (rows_of p answers)) ≤ most_log_bytes
  short =
      omega (
        arith,
        log_bytes recipe p.functions (graph p) answers sweeps fit,
        graph_may_grow p within,
        can.limits.functions,
      )

  read : IsRead (log_text (rows_of p answers)) (parts_of (rows_of p answers))
  read =
      let same = parts_are_rows 1 (rows_of p answers) in
      record {
        short = short;
        text = subst (λ rows. IsLogOf rows (log_text (rows_of p answers))) (sym same) (record { rows_are = rows_fit recipe p.functions (graph p) answers fit; text = refl });
        lines = ap parts_of (sym same);
      }

  right : AreRight (graph p) (parts_of (rows_of p answers)) (lambdas_of answers)
  right = record {
    replayed =
        subst (λ steps. AreReplayed rules (graph p) steps (lambdas_of answers)) (sym (steps_are recipe p.functions (graph p) answers fit 1))
        (replayed rules recipe (graph p) answers made);
    counts = counts_are recipe p.functions (graph p) answers fit 1;
  }

  pub certified : (form : CodeForm) (bytes : List ℕ) (image : IsImageUnder recipe form p bytes) → image.answers ≡ answers → IsCertified p form (log_text (rows_of p answers)) bytes
  certified form bytes image same = record {
    functions = parts_of (rows_of p answers);
    read = read;
    named = names_are recipe p.functions (graph p) answers fit 1;
    lambdas = lambdas_of answers;
    right = right;
    file = image.file ∙ ap (λ (xs : List PlainOptimised). file_of_program form (built.omega p) (lambdas_of xs)) same;
  }

pub logs_certify_images : TokensAreInRange → CheckedAreWellTyped → FunctionsHaveNames → WellTypedAreBuilt → NumbersAreFew → ProgramsCanBeEmitted → KeptListsCanBeEmitted → OrdersAreRanked →
    AnswersAreReplayed → AnswersKeepLists → AnswersHaveFewSteps → LogsCertifyImages
logs_certify_images in_range checked_typed have_names built few_numbers programs lists ranked replayed kept few_steps source bytes p accepted recipe sweeps form image rows compiled =
    let checks = accepted.checks in
    let has = checks.has_tree in
    let typed = checked_typed source bytes has.tokens has.lexed checks.tree has.tree.shaped.0 has.tree.spells (length source) p checks.checked in
    let named = have_names source has.tokens has.lexed (in_range source bytes has.tokens has.lexed) checks.tree has.tree.shaped.0 has.tree.spells (length source) p checks.checked in
    subst (λ (xs : List PlainRow). Certifies source form (log_text xs) image) (sym compiled.1)
    (record {
      program = p;
      accepted = accepted;
      certified =
          certified ranked few_steps few_numbers kept programs lists replayed p typed.0 typed.1 accepted.within named (built p typed.0).complete recipe sweeps
          compiled.0.answers compiled.0.made form image compiled.0 refl;
    })
