-- Steps keep lists of lambdas, and compose.
use Rattle.std.specs.Prelude.{slice_set, unwrap_or}
use Rattle.std.proofs.Common.{◌≡◌, ◌≢◌, ℕ, zero, suc, ◌+◌, ◌*◌, true, List, [], ◌∷◌, length, Option, None, Some, slice_get, refl, sym, ap, subst, ◌∙◌, inl, inr, arith}
use Rattle.std.proofs.Math.Nat.{le_trans}
use Rattle.std.proofs.lemmas.Option.{same_Some}
use Rattle.val_core.specs.Answers.{Answer, Returned, Cut, Exited, Undefined, IsUndefined}
use Rattle.val_core.specs.Within.{Fails, behaviour, Within}
use Rattle.val_core.proofs.lemmas.Within.{fails-within, within_composes}
use Rattle.g_graph.specs.Plain.{RegionTree, PlainLambda}
use Rattle.g_graph.specs.Ids.{region_ids}
use Rattle.g_graph.specs.Count.{region_values}
use Rattle.g_graph.specs.Change.{region_changed, lambda_changed}
use Rattle.g_graph.specs.Lists.{RegionOps, Calls, NamesGlobal}
use Rattle.g_graph.specs.Program.{lambda_values}
use Rattle.g_graph.specs.WellFormed.{region_fits, every_region, well_formed, IsWellFormed}
use Rattle.g_graph.proofs.lemmas.Complete.{complete_set, program_set}
use Rattle.g_graph.proofs.lemmas.Nests.{changed_well_formed_within}
use Rattle.g_graph.proofs.lemmas.Nodes.{KeptWithin}
use Rattle.g_graph.proofs.lemmas.Numbers.{Numbered}
use Rattle.g_graph.proofs.lemmas.Ops.{changed_ops}
use Rattle.g_mean.specs.Data.{Datum}
use Rattle.g_mean.specs.LessDefined.{Paired, IsLessDefinedDatum}
use Rattle.g_mean.specs.Edits.{IsEdited, KeepsMeaning}
use Rattle.g_mean.specs.Replacement.{Replaces, IsKeptWithinTwice}
use Rattle.g_mean.proofs.lemmas.Exchange.{edits_keep_meaning}
use Rattle.g_mean.proofs.lemmas.Programs.{programs_keep_meaning}
use Rattle.g_mean.proofs.lemmas.Replacement.{lambdas_keep_meaning}
use Rattle.g_mean.proofs.lemmas.LocalRefinement.{pairs-compose}
use Rattle.g_mean.proofs.lemmas.Edits.{lambdas-itself}
use Rattle.r_edit.specs.Size.{IsNoLarger}
use Rattle.r_edit.proofs.lemmas.Size.{resized_lambdas_are_no_larger}
use Rattle.r_edit.specs.Steps.{WithinBothWays, AreKeptBothWays, MayStandForAll, KeepsInterface, HasEach, MayStandFor, IsSafeChange, IsApartFrom}
use Rattle.r_edit.specs.Steps.{SafeChangesAreSteps, EditsKeepInterface, NoStepIsAStep, StepsCompose, ListsStandForThemselves, ListsCompose}

-- ---- runs within each other

undefined-fails : {A : Type 0} (a : Answer A) → IsUndefined a → behaviour a ≡ Fails
undefined-fails (Undefined o) h = refl
undefined-fails (Returned x o) h = absurd h
undefined-fails (Cut o) h = absurd h
undefined-fails (Exited o s) h = absurd h

-- ---- families of runs

twice-kept : (near far : ℕ → Answer (List Datum)) → IsKeptWithinTwice near far → AreKeptBothWays near far
twice-kept near far h right =
    record {
      forward = λ n. (2 * n + 2, (h right n).forward);
      back = λ n. (2 * n + 2, (h right n).back);
      no_deeper = λ n. (2 * n + 2, (h right n).no_deeper);
    }

-- where the nearer family is defined, so is the farther one
far-defined : (near far : ℕ → Answer (List Datum)) → WithinBothWays near far → (n : ℕ) → IsUndefined (far n) → ⊥
far-defined near far h n wrong =
    let back = h.back n in
    fails-within (λ ys xs. Paired IsLessDefinedDatum xs ys) (behaviour (near back.0))
    (subst (λ b. Within (λ ys xs. Paired IsLessDefinedDatum xs ys) b (behaviour (near back.0))) (undefined-fails (far n) wrong) back.1)

kept-composes : (near mid far : ℕ → Answer (List Datum)) → AreKeptBothWays near mid → AreKeptBothWays mid far → AreKeptBothWays near far
kept-composes near mid far h k right =
    let first = h right in
    let second = k (far-defined near mid first) in
    record {
      forward = λ n.
          let a = first.forward n in
          let b = second.forward a.0 in (
            b.0,
            within_composes (Paired IsLessDefinedDatum) (Paired IsLessDefinedDatum) (Paired IsLessDefinedDatum) pairs-compose (behaviour (near n)) (behaviour (mid a.0))
                (behaviour (far b.0)) a.1 b.1,
          );
      back = λ n.
          let b = second.back n in
          let a = first.back b.0 in (
            a.0,
            within_composes (λ ys xs. Paired IsLessDefinedDatum xs ys) (λ ys xs. Paired IsLessDefinedDatum xs ys) (λ ys xs. Paired IsLessDefinedDatum xs ys)
                (λ zs ys xs f g. pairs-compose xs ys zs g f) (behaviour (far n)) (behaviour (mid b.0)) (behaviour (near a.0)) b.1 a.1,
          );
      no_deeper = λ n.
          let b = second.no_deeper n in
          let a = first.no_deeper b.0 in
          (a.0, λ sizes. le_trans (b.1 sizes) (a.1 sizes));
    }

-- ---- lists of lambdas

pub lists_stand_for_themselves : ListsStandForThemselves
lists_stand_for_themselves ls =
    record {
      functions = λ global f xs globals sound. twice-kept _ _ (lambdas_keep_meaning ls ls (lambdas-itself (Replaces ls ls) ls) global f xs globals sound);
      program = λ omega i deltas bytes. twice-kept _ _ (programs_keep_meaning ls ls (lambdas-itself (Replaces ls ls) ls) omega i deltas bytes);
      complete = λ c. c;
      image = λ omega p. p;
    }

pub lists_compose : ListsCompose
lists_compose ls ks js h k =
    record {
      functions = λ global f xs globals sound. kept-composes _ _ _ (h.functions global f xs globals sound) (k.functions global f xs globals sound);
      program = λ omega i deltas bytes. kept-composes _ _ _ (h.program omega i deltas bytes) (k.program omega i deltas bytes);
      complete = λ c. k.complete (h.complete c);
      image = λ omega p. k.image omega (h.image omega p);
    }

set-itself : (ls : List PlainLambda) (f : ℕ) (l : PlainLambda) → slice_get ls f ≡ Some l → ls ≡ slice_set ls f l
set-itself [] f l e = refl
set-itself (j ∷ ls) zero l e = ap (λ k. k ∷ ls) (same_Some j l e)
set-itself (j ∷ ls) (suc f) l e = ap (λ ks. j ∷ ks) (set-itself ls f l e)

set-again : (ls : List PlainLambda) (f : ℕ) (k j : PlainLambda) → slice_set (slice_set ls f k) f j ≡ slice_set ls f j
set-again [] f k j = refl
set-again (l ∷ ls) zero k j = refl
set-again (l ∷ ls) (suc f) k j = ap (λ ks. l ∷ ks) (set-again ls f k j)

pub set-there : (ls : List PlainLambda) (f : ℕ) (l k : PlainLambda) → slice_get ls f ≡ Some l → slice_get (slice_set ls f k) f ≡ Some k
set-there [] f l k e = absurd cc
set-there (j ∷ ls) zero l k e = refl
set-there (j ∷ ls) (suc f) l k e = set-there ls f l k e

pub set-elsewhere : (ls : List PlainLambda) (f g : ℕ) (k : PlainLambda) → g ≢ f → slice_get (slice_set ls f k) g ≡ slice_get ls g
set-elsewhere [] f g k n = refl
set-elsewhere (l ∷ ls) zero zero k n = absurd (n refl)
set-elsewhere (l ∷ ls) zero (suc g) k n = refl
set-elsewhere (l ∷ ls) (suc f) zero k n = refl
set-elsewhere (l ∷ ls) (suc f) (suc g) k n = set-elsewhere ls f g k (λ e. n (ap suc e))

each-set : (held ls : List PlainLambda) (f : ℕ) (k : PlainLambda) → IsApartFrom f held → HasEach held ls → HasEach held (slice_set ls f k)
each-set [] ls f k apart each = tt
each-set (c ∷ held) ls f k apart each = (set-elsewhere ls f c.number k apart.0 ∙ each.0, each-set held ls f k apart.1 each.1)

-- ---- one lambda for another

interface-composes : (l k j : PlainLambda) → KeepsInterface l k → KeepsInterface k j → KeepsInterface l j
interface-composes l k j h g =
    record { number = g.number ∙ h.number; params = g.params ∙ h.params; objects = g.objects ∙ h.objects }

pub no-larger-composes : (a b c : ℕ) → IsNoLarger a b → IsNoLarger b c → IsNoLarger a c
no-larger-composes a b c h (inl e) = inl e
no-larger-composes a b c (inl d) (inr e) = inl (le_trans e d)
no-larger-composes a b c (inr d) (inr e) = inr (le_trans e d)

pub edits_keep_interface : EditsKeepInterface
edits_keep_interface here l k edited =
    record { number = sym edited.number; params = sym edited.params; objects = sym edited.objects }

module _ (here : RegionTree → Option RegionTree) (l k : PlainLambda) (well : IsWellFormed l) (now : IsWellFormed k) (edited : IsEdited here l k) (safe : IsSafeChange here l) where
  meaning : KeepsMeaning l k
  meaning = edits_keep_meaning here l k well edited safe.replaces

  calls : (ls : List PlainLambda) → RegionOps (Calls ls) l.body → RegionOps (Calls ls) k.body
  calls ls h = subst (RegionOps (Calls ls)) (sym edited.body) (changed_ops (Calls ls) here (safe.calls ls) l h)

  names : (globals : ℕ) → RegionOps (NamesGlobal globals) l.body → RegionOps (NamesGlobal globals) k.body
  names globals h = subst (RegionOps (NamesGlobal globals)) (sym edited.body) (changed_ops (NamesGlobal globals) here (safe.names globals) l h)

  pub changed_stands_for : (held : List PlainLambda) → MayStandFor held l k
  changed_stands_for held =
      record {
        interface = edits_keep_interface here l k edited;
        well_formed = now;
        values = subst (λ r. IsNoLarger (lambda_values l) (region_values r)) (sym edited.body) (resized_lambdas_are_no_larger here l safe.resized);
        lists = λ ls at each. record {
          functions = λ global f xs globals sound. twice-kept _ _ (meaning.functions ls l.number at global f xs globals sound);
          program = λ omega i deltas bytes. twice-kept _ _ (meaning.program ls l.number at omega i deltas bytes);
          complete = λ c. complete_set l k now (sym edited.number) (sym edited.params) calls ls l.number at c;
          image = λ omega p. program_set l k now (sym edited.number) (sym edited.params) calls names omega ls l.number at p;
        };
      }

pub safe_changes_are_steps : SafeChangesAreSteps
safe_changes_are_steps here l k well now edited safe held = changed_stands_for here l k well now edited safe held

-- A lambda stays well formed where no changed region has numbers but its own.
pub kept_well_formed : (here : RegionTree → Option RegionTree) (l : PlainLambda) →
    ((r s : RegionTree) → here r ≡ Some s → every_region (region_fits (length l.objects)) r ≡ true → Numbered l.next (region_ids r) → KeptWithin (length l.objects) r s) →
    IsWellFormed l → IsWellFormed (lambda_changed here l)
kept_well_formed here l keeps w = by_change (region_changed here l.body) refl
  where
    by_change : (o : Option RegionTree) → region_changed here l.body ≡ o → well_formed (record l { body = unwrap_or o l.body }) ≡ true
    by_change None e = w
    by_change (Some s) e =
        changed_well_formed_within here l s (record { kept = λ r t q fits numbers. (keeps r t q fits numbers).kept })
        (λ r t q fits numbers. (keeps r t q fits numbers).fewer) e w

-- A safe change is a step where the lambda stays well formed, with the same next number.
pub changed_is_a_step : (here : RegionTree → Option RegionTree) (l : PlainLambda) → IsWellFormed l → IsWellFormed (lambda_changed here l) → IsSafeChange here l → (held : List PlainLambda) →
    MayStandFor held l (lambda_changed here l)
changed_is_a_step here l well stays safe held = changed_stands_for here l (lambda_changed here l) well stays (record { number = refl; params = refl; objects = refl; body = refl }) safe held

pub no_step_is_a_step : NoStepIsAStep
no_step_is_a_step held l well =
    record {
      interface = record { number = refl; params = refl; objects = refl };
      well_formed = well;
      values = inr (omega arith);
      lists = λ ls at each. subst (λ ks. MayStandForAll ls ks) (set-itself ls l.number l at) (lists_stand_for_themselves ls);
    }

pub steps_compose : StepsCompose
steps_compose held l k j apart first second =
    record {
      interface = interface-composes l k j first.interface second.interface;
      well_formed = second.well_formed;
      values = no-larger-composes _ _ _ first.values second.values;
      lists = λ ls at each. in-list ls at each;
    }
  where
    in-list : (ls : List PlainLambda) → slice_get ls l.number ≡ Some l → HasEach held ls → MayStandForAll ls (slice_set ls l.number j)
    in-list ls at each =
        let ks = slice_set ls l.number k in
        let there : slice_get ks k.number ≡ Some k = subst (λ n. slice_get ks n ≡ Some k) (sym first.interface.number) (set-there ls l.number l k at) in
        let next = second.lists ks there (each-set held ls l.number k apart each) in
        let same : slice_set ks k.number j ≡ slice_set ls l.number j =
        ap (λ n. slice_set ks n j) first.interface.number ∙ set-again ls l.number k j in
        lists_compose ls ks (slice_set ls l.number j) (first.lists ls at each) (subst (λ js. MayStandForAll ks js) same next)
