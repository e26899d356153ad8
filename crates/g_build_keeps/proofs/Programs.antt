-- Calls within calls, and what it means for a program: its graph has its meaning where bodies do the same.
use Rattle.std.proofs.Common.{◌≡◌, ◌≤◌, ℕ, zero, suc, ◌+◌, ◌*◌, List, [], ◌∷◌, map, inl, refl, sym, ap, ◌∙◌, subst, arith}
use Rattle.std.specs.Prelude.{◌==◌, length, slice_get, Option, Some, option_map}
use Rattle.val_core.specs.declared.values.Value.{Value}
use Rattle.val_core.specs.Memory.{Memory as Blocks}
use Rattle.val_core.specs.Values.{IsSound}
use Rattle.val_core.specs.Refinement.{Direction, Forward, Backward, exactly, Refines}
use Rattle.val_core.specs.Answers.{Answer, IsUndefined}
use Rattle.val_core.specs.Within.{Given}
use Rattle.val_core.proofs.lemmas.Objects.{addresses_are_sound}
use Rattle.val_core.proofs.lemmas.Refinement.{exactly-goes, exactly-output, exactly-depth, refines-active, forward-within, backward-within, backward-defined, backward-no-deeper}
use Rattle.c_typed.specs.Typed.{FunctionTree, ProgramTree}
use Rattle.c_mean.specs.Expressions.{Call}
use Rattle.c_mean.specs.Run.{body_run, function_run, nested, call_run, global_sizes, global_address}
use Rattle.g_build_def.specs.Functions.{lambda_made, graph}
use Rattle.g_build_def.proofs.lemmas.Programs.{lambdas_stand_at_their_numbers}
use Rattle.g_mean.specs.Data.{Datum, val, memory, input, taken}
use Rattle.g_mean.specs.Meaning.{Meaning}
use Rattle.g_mean.specs.Calls.{entered, applied, lambda_at}
use Rattle.g_mean.specs.LessDefined.{AreSound, IsLessDefinedDatum}
use Rattle.g_mean.specs.Refining.{MeaningRefines}
use Rattle.g_mean.proofs.lemmas.Equal.{exactly-compares}
use Rattle.g_mean.proofs.lemmas.LessDefined.{less-kept}
use Rattle.g_mean.proofs.lemmas.Regions.{less-cut, far-cut}
use Rattle.g_mean.proofs.lemmas.Bounds.{applied-more}
use Rattle.g_build_keeps.specs.Laws.{GivesBack, HasMeaning}
use Rattle.g_build_keeps.proofs.Claims.{BoundsFit}

-- calls of each function do the same, on as many arguments as it has parameters and on sound data
abbrev pub CallsFit : Direction → ProgramTree → (ℕ → Call) → (ℕ → Meaning) → Type 0
CallsFit w p calls call =
    (f : ℕ) (t : FunctionTree) → slice_get p.functions f ≡ Some t → (vs : List Value) → length vs ≡ t.params → (m : Blocks) (i : List ℕ) → AreSound (taken vs m i) →
    Refines exactly w GivesBack (calls f vs m i) (call f (taken vs m i))

abbrev pub CallsAreSound : (ℕ → Meaning) → Type 0
CallsAreSound call = (f : ℕ) → MeaningRefines exactly Forward IsLessDefinedDatum (call f) (call f)

-- The body of each function does the same within bounds that fit, where calls do.
abbrev pub BodiesFit : ProgramTree → Type 0
BodiesFit p =
    (w : Direction) (near far : ℕ) → BoundsFit w near far → (calls : ℕ → Call) (call : ℕ → Meaning) → CallsFit w p calls call → CallsAreSound call → (f : ℕ) (t : FunctionTree) →
    slice_get p.functions f ≡ Some t → (vs : List Value) → length vs ≡ t.params → (m : Blocks) (i : List ℕ) → AreSound (taken vs m i) →
    Refines exactly w GivesBack (body_run p near calls (global_address p) (f == p.main) t vs m i) (entered far call (global_address p) (Some (lambda_made p f t)) (taken vs m i))

module _ (p : ProgramTree) (bodies : BodiesFit p) where
  abbrev global : ℕ → Value
  global k = global_address p k

  global-sound : (k : ℕ) → IsSound (global k)
  global-sound k = addresses_are_sound 0 (global_sizes p) k

  applied-sound : (n : ℕ) → CallsAreSound (applied (graph p) global n)
  applied-sound n f =
      applied-more exactly exactly-compares Forward IsLessDefinedDatum less-kept (graph p) global (λ k. (inl refl, global-sound k, global-sound k)) n n (omega arith) f

  -- one call more
  active-fits : (w : Direction) (near depth far : ℕ) → BoundsFit w near far → CallsFit w p (nested p global near depth) (applied (graph p) global far) →
      CallsFit w p (nested p global near (suc depth)) (applied (graph p) global (suc far))
  active-fits w near depth far fits calls f t there vs count m i sound =
      refines-active exactly exactly-goes GivesBack w f (function_run p near (nested p global near depth) global (f == p.main) (slice_get p.functions f) vs m i)
      (entered far (applied (graph p) global far) global (slice_get (graph p) f) (taken vs m i))
      (subst (λ x. Refines exactly w GivesBack (function_run p near (nested p global near depth) global (f == p.main) x vs m i)
      (entered far (applied (graph p) global far) global (slice_get (graph p) f) (taken vs m i)))
      (sym there)
      (subst (λ l. Refines exactly w GivesBack (body_run p near (nested p global near depth) global (f == p.main) t vs m i) (entered far (applied (graph p) global far) global l (taken vs m i)))
      (sym lambda)
      (bodies w near far fits (nested p global near depth) (applied (graph p) global far) calls (applied-sound far) f t there vs count m i sound)))
    where
      lambda : slice_get (graph p) f ≡ Some (lambda_made p f t)
      lambda = lambdas_stand_at_their_numbers p f ∙ ap (option_map (lambda_made p f)) there

  pub forward-fits : (near depth far : ℕ) → suc near + depth ≤ far → CallsFit Forward p (nested p global near depth) (applied (graph p) global far)
  forward-fits near zero far le f t there vs count m i sound = less-cut exactly exactly-compares Forward GivesBack 0 (omega arith) (applied (graph p) global far f (taken vs m i))
  forward-fits near (suc depth) zero le f t there vs count m i sound = absurd (omega (arith, le))
  forward-fits near (suc depth) (suc far) le f t there vs count m i sound =
      active-fits Forward near depth far (omega (arith, le)) (forward-fits near depth far (omega (arith, le))) f t there vs count m i sound

  pub backward-fits : (near depth far : ℕ) → far ≤ depth → far ≤ suc near → CallsFit Backward p (nested p global near depth) (applied (graph p) global far)
  backward-fits near depth zero le low f t there vs count m i sound = far-cut exactly exactly-compares Backward GivesBack 0 (omega arith) (nested p global near depth f vs m i)
  backward-fits near zero (suc far) le low f t there vs count m i sound = absurd (omega (arith, le))
  backward-fits near (suc depth) (suc far) le low f t there vs count m i sound =
      active-fits Backward near depth far (omega (arith, low)) (backward-fits near depth far (omega (arith, le)) (omega (arith, low))) f t there vs count m i sound

  taken-sound : (vs : List Value) (m : Blocks) (i : List ℕ) → AreSound (map val vs) → AreSound (memory m ∷ input i ∷ []) → AreSound (taken vs m i)
  taken-sound [] m i h k = k
  taken-sound (v ∷ vs) m i h k = (h.0, taken-sound vs m i h.1 k)

  -- the graph has the meaning of the program
  pub graph-has-meaning : HasMeaning p (graph p)
  graph-has-meaning f vs m i call right n =
      record {
        forward = (2 * n + 1, forward-within exactly exactly-output GivesBack (run n) (ev (2 * n + 1)) (forth n) (right n) (defined (2 * n + 1)));
        back = (n, backward-within exactly exactly-output GivesBack (run n) (ev n) (backward n) (right n));
        no_deeper = λ sizes. (n, backward-no-deeper exactly exactly-depth GivesBack (run n) (ev n) (backward n) (right n) sizes);
      }
    where
      run : ℕ → Answer (Given (Option Value))
      run k = call_run p global k f vs m i

      ev : ℕ → Answer (List Datum)
      ev k = lambda_at k (graph p) global f (taken vs m i)

      sound : AreSound (taken vs m i)
      sound = taken-sound vs m i call.values (call.memory, (call.input, tt))

      forth : (k : ℕ) → Refines exactly Forward GivesBack (run k) (ev (2 * k + 1))
      forth k = forward-fits k (suc k) (suc (2 * k + 1)) (omega arith) f call.function call.there vs call.count m i sound

      backward : (k : ℕ) → Refines exactly Backward GivesBack (run k) (ev k)
      backward k = backward-fits k (suc k) (suc k) (omega arith) (omega arith) f call.function call.there vs call.count m i sound

      defined : (k : ℕ) → IsUndefined (ev k) → ⊥
      defined k = backward-defined exactly GivesBack (run k) (ev k) (backward k) (right k)
