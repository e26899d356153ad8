-- The rows of functions, of their lambdas and of what a recipe makes of these, function by function.
use Rattle.std.specs.Prelude.{zip}
use Rattle.std.specs.List.{AllByRecursion, sum_by}
use Rattle.std.proofs.Common.{◌≡◌, ◌≤◌, ◌<◌, ◌+◌, ◌*◌, ℕ, zero, suc, List, [], ◌∷◌, map, length, length-append, Some, slice_get, refl, ap, le_trans, arith}
use Rattle.std.proofs.lemmas.List.Sums.{sum_by-cons}
use Rattle.std.proofs.lemmas.Nat.{mul-le}
use Rattle.base.specs.Limits.{most_lambda_values, most_grown_values, most_sweeps}
use Rattle.c_typed.specs.Typed.{FunctionTree}
use Rattle.r_rule.specs.declared.steps.Rule.{Rule}
use Rattle.g_graph.specs.Plain.{PlainLambda}
use Rattle.r_rule.specs.Optimised.{PlainOptimised}
use Rattle.g_graph.specs.Program.{lambda_values}
use Rattle.g_pass_def.specs.Answers.{lambda_of, lambdas_of}
use Rattle.g_pass.specs.StepLaws.{AreFewSteps}
use Rattle.c_check_laws.specs.NamesLaws.{IsName}
use Rattle.cc_watch.specs.Rows.{PlainRow}
use Rattle.cc_watch.specs.Texts.{row_text, log_text}
use Rattle.cc_compile.specs.Compiled.{row_of}
use Rattle.log_check.specs.Log.{IsRow, PlainPart, parts_from, row_of_part}
use Rattle.log_check.specs.Right.{part_at, HasCounts}
use Rattle.cc_top.proofs.Texts.{row_length}

abbrev pub rows_from : List FunctionTree → (answers : List PlainOptimised) → List PlainRow
rows_from fs outs = map (λ (q : FunctionTree × PlainOptimised). row_of q.0 q.1) (zip fs outs)

-- what is known of a function, its lambda, and what a recipe makes of it
pub record Fits (recipe : List Rule) (f : FunctionTree) (l : PlainLambda) (a : PlainOptimised) : Type 0 where
  pub name : IsName f.name
  pub before : a.before ≡ lambda_values l
  pub values : lambda_values l ≤ most_lambda_values
  pub after : lambda_values a.lambda ≤ most_lambda_values
  pub steps : AreFewSteps recipe l a.steps

abbrev pub AllFit : List Rule → List FunctionTree → List PlainLambda → List PlainOptimised → Type 0
AllFit recipe [] [] [] = Unit {0}
AllFit recipe (f ∷ fs) (l ∷ ls) (a ∷ outs) = Fits recipe f l a × AllFit recipe fs ls outs
AllFit recipe _ _ _ = ⊥

pub all_fit : (recipe : List Rule) (fs : List FunctionTree) (ls : List PlainLambda) (outs : List PlainOptimised) → length fs ≡ length ls → length outs ≡ length ls →
    ((j : ℕ) (f : FunctionTree) (l : PlainLambda) (a : PlainOptimised) → slice_get fs j ≡ Some f → slice_get ls j ≡ Some l → slice_get outs j ≡ Some a → Fits recipe f l a) →
    AllFit recipe fs ls outs
all_fit recipe [] [] [] d e each = tt
all_fit recipe (f ∷ fs) (l ∷ ls) (a ∷ outs) d e each =
    (each 0 f l a refl refl refl, all_fit recipe fs ls outs (omega (arith, d)) (omega (arith, e)) (λ j g m b. each (suc j) g m b))
all_fit recipe [] (l ∷ ls) outs d e each = absurd (omega (arith, d))
all_fit recipe (f ∷ fs) [] outs d e each = absurd (omega (arith, d))
all_fit recipe [] [] (a ∷ outs) d e each = absurd (omega (arith, e))
all_fit recipe (f ∷ fs) (l ∷ ls) [] d e each = absurd (omega (arith, e))

-- ---- the rows

row_fits : (recipe : List Rule) (f : FunctionTree) (l : PlainLambda) (a : PlainOptimised) → Fits recipe f l a → IsRow (row_of f a)
row_fits recipe f l a h = record {
  head = record {
    name = h.name.0;
    short = h.name.1;
    before = omega (arith, h.before, h.values);
    after = omega (arith, h.after);
  };
  steps = h.steps.numbers;
}

pub rows_fit : (recipe : List Rule) (fs : List FunctionTree) (ls : List PlainLambda) (outs : List PlainOptimised) → AllFit recipe fs ls outs → AllByRecursion IsRow (rows_from fs outs)
rows_fit recipe [] [] [] h = tt
rows_fit recipe (f ∷ fs) (l ∷ ls) (a ∷ outs) h = (row_fits recipe f l a h.0, rows_fit recipe fs ls outs h.1)
rows_fit recipe [] [] (a ∷ outs) h = absurd h
rows_fit recipe [] (l ∷ ls) outs h = absurd h
rows_fit recipe (f ∷ fs) [] outs h = absurd h
rows_fit recipe (f ∷ fs) (l ∷ ls) [] h = absurd h

-- twice the bytes of a function's lines
row_bytes : (recipe : List Rule) (f : FunctionTree) (l : PlainLambda) (a : PlainOptimised) → length recipe ≤ most_sweeps → Fits recipe f l a →
    2 * length (row_text (row_of f a)) ≤ 190 + 512 * (most_grown_values + lambda_values l)
row_bytes recipe f l a sweeps h =
    let most = most_grown_values + lambda_values l in
    let few : 2 * length a.steps ≤ most_sweeps * most = le_trans h.steps.few (mul-le (length recipe) most most_sweeps most sweeps (omega arith)) in
    omega (arith, row_length (row_of f a) (row_fits recipe f l a h), few)

pub log_bytes : (recipe : List Rule) (fs : List FunctionTree) (ls : List PlainLambda) (outs : List PlainOptimised) → length recipe ≤ most_sweeps → AllFit recipe fs ls outs →
    2 * length (log_text (rows_from fs outs)) ≤ 190 * length ls + 512 * (most_grown_values * length ls + sum_by lambda_values ls)
log_bytes recipe [] [] [] sweeps h = omega arith
log_bytes recipe (f ∷ fs) (l ∷ ls) (a ∷ outs) sweeps h =
    omega (
      arith,
      row_bytes recipe f l a sweeps h.0,
      log_bytes recipe fs ls outs sweeps h.1,
      length-append (row_text (row_of f a)) (log_text (rows_from fs outs)),
      sum_by-cons lambda_values l ls,
    )
log_bytes recipe [] [] (a ∷ outs) sweeps h = absurd h
log_bytes recipe [] (l ∷ ls) outs sweeps h = absurd h
log_bytes recipe (f ∷ fs) [] outs sweeps h = absurd h
log_bytes recipe (f ∷ fs) (l ∷ ls) [] sweeps h = absurd h

-- ---- the rows with the numbers of their lines

pub parts_are_rows : (line : ℕ) (rows : List PlainRow) → map row_of_part (parts_from line rows) ≡ rows
parts_are_rows line [] = refl
parts_are_rows line (r ∷ rows) = ap (λ rest. r ∷ rest) (parts_are_rows (line + suc (length r.steps)) rows)

pub names_are : (recipe : List Rule) (fs : List FunctionTree) (ls : List PlainLambda) (outs : List PlainOptimised) → AllFit recipe fs ls outs → (line : ℕ) →
    map (λ (p : PlainPart). p.name) (parts_from line (rows_from fs outs)) ≡ map (λ (f : FunctionTree). f.name) fs
names_are recipe [] [] [] h line = refl
names_are recipe (f ∷ fs) (l ∷ ls) (a ∷ outs) h line = ap (λ rest. f.name ∷ rest) (names_are recipe fs ls outs h.1 (line + suc (length a.steps)))
names_are recipe [] [] (a ∷ outs) h line = absurd h
names_are recipe [] (l ∷ ls) outs h line = absurd h
names_are recipe (f ∷ fs) [] outs h line = absurd h
names_are recipe (f ∷ fs) (l ∷ ls) [] h line = absurd h

pub steps_are : (recipe : List Rule) (fs : List FunctionTree) (ls : List PlainLambda) (outs : List PlainOptimised) → AllFit recipe fs ls outs → (line : ℕ) →
    map (λ (p : PlainPart). p.steps) (parts_from line (rows_from fs outs)) ≡ map (λ (a : PlainOptimised). a.steps) outs
steps_are recipe [] [] [] h line = refl
steps_are recipe (f ∷ fs) (l ∷ ls) (a ∷ outs) h line = ap (λ rest. a.steps ∷ rest) (steps_are recipe fs ls outs h.1 (line + suc (length a.steps)))
steps_are recipe [] [] (a ∷ outs) h line = absurd h
steps_are recipe [] (l ∷ ls) outs h line = absurd h
steps_are recipe (f ∷ fs) [] outs h line = absurd h
steps_are recipe (f ∷ fs) (l ∷ ls) [] h line = absurd h

pub counts_are : (recipe : List Rule) (fs : List FunctionTree) (ls : List PlainLambda) (outs : List PlainOptimised) → AllFit recipe fs ls outs → (line j : ℕ) → j < length ls →
    HasCounts (part_at (parts_from line (rows_from fs outs)) j) (lambda_of ls j) (lambda_of (lambdas_of outs) j)
counts_are recipe [] [] [] h line j inside = absurd (omega (arith, inside))
counts_are recipe (f ∷ fs) (l ∷ ls) (a ∷ outs) h line zero inside = record { before = h.0.before; after = refl }
counts_are recipe (f ∷ fs) (l ∷ ls) (a ∷ outs) h line (suc j) inside = counts_are recipe fs ls outs h.1 (line + suc (length a.steps)) j (omega (arith, inside))
counts_are recipe [] [] (a ∷ outs) h line j inside = absurd h
counts_are recipe [] (l ∷ ls) outs h line j inside = absurd h
counts_are recipe (f ∷ fs) [] outs h line j inside = absurd h
counts_are recipe (f ∷ fs) (l ∷ ls) [] h line j inside = absurd h
