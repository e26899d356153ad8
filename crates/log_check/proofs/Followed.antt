-- Steps that follow others, and where they stop.
use Rattle.std.proofs.Common.{◌≡◌, ◌<◌, ◌≤◌, ◌+◌, ℕ, zero, suc, List, [], ◌∷◌, ◌++◌, length, take, drop, None, Some, slice_get, sym, ap, subst, ◌∙◌, arith, length-take, length-drop, get_or-take, get_or-drop, refl}
use Rattle.std.specs.Prelude.{option_and_then, Option}
use Rattle.std.proofs.lemmas.List.{length-take-le, take-take}
use Rattle.std.proofs.lemmas.Option.{slice_get_within, slice_get-get_or, get_or_from_slice_get}
use Rattle.std.proofs.Math.Seq.{take-add}
use Rattle.r_rule.specs.declared.steps.Step.{Step}
use Rattle.g_graph.specs.Plain.{PlainLambda}
use Rattle.g_pass_def.specs.Sweep.{replayed}
use Rattle.g_pass.specs.Sweep.{rules}
use Rattle.log_check.specs.Fault.{StopsAfter, StepsFail}
use Rattle.log_check.specs.declared.replay_fault.ReplayFault.{ReplayFault}
use Rattle.log_check.specs.declared.replay_fault.ReplayFault.TheVariants.{BadCount, BadStep, NoMemory}

-- after some steps come the others
replayed-append : (callees : List PlainLambda) (steps more : List Step) (l k : PlainLambda) → replayed rules callees steps l ≡ Some k →
    replayed rules callees (steps ++ more) l ≡ replayed rules callees more k
replayed-append callees [] more l k made = let here : l ≡ k = cc in ap (replayed rules callees more) here
replayed-append callees (s ∷ steps) more l k made = goes-on (rules.step s.rule callees s.node l) (λ x e. replayed-append callees steps more x k e) made
  where
    goes-on : (o : Option PlainLambda) → ((x : PlainLambda) → replayed rules callees steps x ≡ Some k → replayed rules callees (steps ++ more) x ≡ replayed rules callees more k) →
        option_and_then (replayed rules callees steps) o ≡ Some k → option_and_then (replayed rules callees (steps ++ more)) o ≡ replayed rules callees more k
    goes-on None rest e = absurd cc
    goes-on (Some x) rest e = rest x e

-- one series more
pub series-more : (callees : List PlainLambda) (steps rest : List Step) (l k j : PlainLambda) (m n : ℕ) → rest ≡ drop m steps → replayed rules callees (take m steps) l ≡ Some k →
    replayed rules callees (take n rest) k ≡ Some j → replayed rules callees (take (m + n) steps) l ≡ Some j
series-more callees steps rest l k j m n is so_far next =
    let all : take (m + n) steps ≡ take m steps ++ take n rest = take-add m n steps ∙ ap (λ xs. take m steps ++ take n xs) (sym is) in
    subst (λ xs. replayed rules callees xs l ≡ Some j) (sym all) (replayed-append callees (take m steps) (take n rest) l k so_far ∙ next)

-- ---- where a series stops

step-later : (steps : List Step) (m n : ℕ) (s : Step) → slice_get (drop m steps) n ≡ Some s → slice_get steps (m + n) ≡ Some s
step-later steps m n s e =
    let within : n < length (drop m steps) = slice_get_within (drop m steps) n s e in
    let inside : m + n < length steps = omega (arith, within, length-drop m steps) in
    slice_get-get_or steps (m + n) s inside ∙ ap (λ x. Some x) (sym (get_or-drop m steps n s) ∙ get_or_from_slice_get (drop m steps) n s s e)

step-in-front : (steps : List Step) (m n : ℕ) (s : Step) → m ≤ length steps → slice_get (take m steps) n ≡ Some s → (n < m) × (slice_get steps n ≡ Some s)
step-in-front steps m n s long e =
    let within : n < length (take m steps) = slice_get_within (take m steps) n s e in
    let low : n < m = omega (arith, within, length-take m steps) in (
      low,
      slice_get-get_or steps n s (omega (arith, low, long)) ∙ ap (λ x. Some x) (sym (get_or-take m steps n s low) ∙ get_or_from_slice_get (take m steps) n s s e),
    )

-- a fault of what follows some steps is one of all
pub fails-later : (callees : List PlainLambda) (steps rest : List Step) (l k : PlainLambda) (line m : ℕ) (e : ReplayFault) → rest ≡ drop m steps →
    replayed rules callees (take m steps) l ≡ Some k → StepsFail callees rest k (line + m) e → StepsFail callees steps l line e
fails-later callees steps rest l k line m (BadCount at) is so_far fails = fails
fails-later callees steps rest l k line m NoMemory is so_far fails = fails
fails-later callees steps rest l k line m (BadStep at) is so_far fails =
    let stop : StopsAfter callees (drop m steps) k fails.index = subst (λ xs. StopsAfter callees xs k fails.index) is fails.after in
    record {
      index = m + fails.index;
      line_is = omega (arith, fails.line_is);
      after = record {
        lambda = stop.lambda;
        step = stop.step;
        made = series-more callees steps (drop m steps) l k stop.lambda m fails.index refl so_far stop.made;
        next = step-later steps m fails.index stop.step stop.next;
        stops = stop.stops;
      };
    }

-- and so is one of the first steps
fails-in-front : (callees : List PlainLambda) (steps : List Step) (l : PlainLambda) (line m : ℕ) (e : ReplayFault) → m ≤ length steps →
    StepsFail callees (take m steps) l line e → StepsFail callees steps l line e
fails-in-front callees steps l line m (BadCount at) long fails = fails
fails-in-front callees steps l line m NoMemory long fails = fails
fails-in-front callees steps l line m (BadStep at) long fails =
    let stop = fails.after in
    let first = step-in-front steps m fails.index stop.step long stop.next in
    record {
      index = fails.index;
      line_is = fails.line_is;
      after = record {
        lambda = stop.lambda;
        step = stop.step;
        made = subst (λ xs. replayed rules callees xs l ≡ Some stop.lambda) (take-take fails.index m steps (omega (arith, first.0))) stop.made;
        next = first.1;
        stops = stop.stops;
      };
    }

-- ---- one series, of which nothing is made at once

as-it-was : (callees : List PlainLambda) (steps : List Step) (l k : PlainLambda) (n : ℕ) → n ≤ 0 → replayed rules callees (take n steps) l ≡ Some k → k ≡ l
as-it-was callees steps l k zero none made = cc
as-it-was callees steps l k (suc n) none made = absurd (omega (arith, none))

pub made-to-its-end : (callees : List PlainLambda) (steps : List Step) (l k j : PlainLambda) (m n swept : ℕ) → m ≤ length steps → swept ≤ 0 →
    replayed rules callees (take swept steps) l ≡ Some k → (n ≡ length (take m steps)) × (replayed rules callees (take m steps) k ≡ Some j) →
    replayed rules callees (take n steps) l ≡ Some j
made-to-its-end callees steps l k j m n swept long none so_far made =
    let all : m ≡ n = sym (made.0 ∙ length-take-le m steps long) in
    subst (λ x. replayed rules callees (take n steps) x ≡ Some j) (as-it-was callees steps l k swept none so_far)
    (subst (λ i. replayed rules callees (take i steps) k ≡ Some j) all made.1)

pub fails-within : (callees : List PlainLambda) (steps : List Step) (l k : PlainLambda) (line m swept : ℕ) (e : ReplayFault) → m ≤ length steps → swept ≤ 0 →
    replayed rules callees (take swept steps) l ≡ Some k → StepsFail callees (take m steps) k line e → StepsFail callees steps l line e
fails-within callees steps l k line m swept e long none so_far fails =
    subst (λ x. StepsFail callees steps x line e) (as-it-was callees steps l k swept none so_far) (fails-in-front callees steps k line m e long fails)
