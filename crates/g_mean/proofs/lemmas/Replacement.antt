-- The replacement law, by induction on the lesser bound.
use Rattle.std.proofs.Common.{ℕ, zero, suc, ◌+◌, ◌*◌, ◌≤◌, List, slice_get, refl, inl, arith, le_trans, le_refl}
use Rattle.val_core.specs.declared.values.Value.{Value}
use Rattle.val_core.specs.Values.{IsSound}
use Rattle.val_core.specs.Refinement.{Direction, Forward, Backward, Refines, no_deeper}
use Rattle.val_core.specs.Answers.{Answer}
use Rattle.val_core.proofs.lemmas.Refinement.{refines-active, forward-within, backward-within, backward-defined, backward-no-deeper, no_deeper-output, no_deeper-depth}
use Rattle.g_graph.specs.Plain.{RegionTree, PlainObject, PlainLambda}
use Rattle.g_mean.specs.Data.{Datum, val}
use Rattle.g_mean.specs.Calls.{inside, entered, applied, region_at, lambda_at}
use Rattle.g_mean.specs.LessDefined.{Paired, AreSound, IsLessDefinedDatum}
use Rattle.g_mean.specs.Refining.{InOrder, MeaningRefines, RegionRefines, SameBut, LambdasSameBut}
use Rattle.g_mean.specs.Replacement.{lesser, IsTwice, Linked, Replaces, IsKeptWithinTwice, LambdasKeepMeaning, RegionsKeepMeaning}
use Rattle.g_mean.proofs.lemmas.Regions.{both-cut, less-cut, far-cut, region-refines}
use Rattle.g_mean.proofs.lemmas.Equal.{no_deeper-compares}
use Rattle.g_mean.proofs.lemmas.LessDefined.{less-kept}
use Rattle.g_mean.proofs.lemmas.Calls.{found-same, entered-refines}
use Rattle.g_mean.proofs.lemmas.Bounds.{sound-pairs}

twice-order : (direction : Direction) (more n m : ℕ) → IsTwice direction more n m → InOrder direction n m
twice-order Forward more n m h = omega arith
twice-order Backward more n m h = omega arith

twice-below : (direction : Direction) (n m : ℕ) → IsTwice direction 1 (suc n) (suc m) → IsTwice direction 2 n m
twice-below Forward n m h = omega arith
twice-below Backward n m h = omega arith

twice-less : (direction : Direction) (n m : ℕ) → IsTwice direction 2 n m → IsTwice direction 1 n m
twice-less Forward n m h = omega arith
twice-less Backward n m h = omega arith

lesser-below : (direction : Direction) (n m b : ℕ) → lesser direction (suc n) (suc m) ≤ suc b → lesser direction n m ≤ b
lesser-below Forward n m b h = omega arith
lesser-below Backward n m b h = omega arith

lesser-none : (direction : Direction) (n m : ℕ) → lesser direction (suc n) (suc m) ≤ 0 → ⊥
lesser-none Forward n m h = omega arith
lesser-none Backward n m h = omega arith

module _ (ls ks : List PlainLambda) (same : LambdasSameBut (Replaces ls ks) ls ks) (direction : Direction) (global : ℕ → Value) (globals : (k : ℕ) → IsSound (global k)) where
  base : (r s : RegionTree) → Replaces ls ks r s → RegionRefines no_deeper direction IsLessDefinedDatum (Linked direction ls ks global) r s
  base r s h = h.at direction global

  less-global : (k : ℕ) → IsLessDefinedDatum (val (global k)) (val (global k))
  less-global k = (inl refl, globals k, globals k)

  calls-refines : (b n m : ℕ) → lesser direction n m ≤ b → IsTwice direction 1 n m → (f : ℕ) → MeaningRefines no_deeper direction IsLessDefinedDatum (applied ls global n f) (applied ks global m f)
  calls-refines b zero zero small twice f = record { on = λ xs ys near. both-cut no_deeper no_deeper-compares direction (Paired IsLessDefinedDatum) }
  calls-refines b zero (suc m) small twice f =
      record {
        on = λ xs ys near. less-cut no_deeper no_deeper-compares direction (Paired IsLessDefinedDatum) m (twice-order direction 1 0 (suc m) twice) (applied ks global (suc m) f ys);
      }
  calls-refines b (suc n) zero small twice f =
      record {
        on = λ xs ys near. far-cut no_deeper no_deeper-compares direction (Paired IsLessDefinedDatum) n (twice-order direction 1 (suc n) 0 twice) (applied ls global (suc n) f xs);
      }
  calls-refines zero (suc n) (suc m) small twice f = absurd (lesser-none direction n m small)
  calls-refines (suc b) (suc n) (suc m) small twice f =
      let two = twice-below direction n m twice in
      let less = lesser-below direction n m b small in
      let linked : (os : List PlainObject) (k : List _) → Linked direction ls ks global (inside n (applied ls global n) global os k) (inside m (applied ks global m) global os k)
      = λ os k. record {
        twice = two;
        near_global = λ j. refl;
        far_global = λ j. refl;
        near_call = λ j xs. refl;
        far_call = λ j xs. refl;
        nested = λ i j small' twice' f'. calls-refines b i j
            (le_trans small' less) twice' f';
      } in
      let body = entered-refines no_deeper no_deeper-compares direction IsLessDefinedDatum less-kept (Replaces ls ks) (Linked direction ls ks global) base n m (twice-order direction 2 n m two)
      (applied ls global n) (applied ks global m) (λ j. calls-refines b n m less (twice-less direction n m two) j) global less-global linked (slice_get ls f) (slice_get ks f)
      (found-same (Replaces ls ks) ls ks same f) in
      record {
        on = λ xs ys near. refines-active no_deeper no_deeper-compares.goes (Paired IsLessDefinedDatum) direction f (entered n (applied ls global n) global (slice_get ls f) xs)
            (entered m (applied ks global m) global (slice_get ks f) ys) (body.on xs ys near);
      }

  regions-refines : (r s : RegionTree) → SameBut (Replaces ls ks) r s → (local : ℕ → Value) → ((k : ℕ) → IsSound (local k)) → (n m : ℕ) → IsTwice direction 2 n m →
      (xs : List Datum) → AreSound xs → Refines no_deeper direction (Paired IsLessDefinedDatum) (region_at n ls r xs (record { local = local; global = global }))
      (region_at m ks s xs (record { local = local; global = global }))
  regions-refines r s alike local locals n m twice xs sound =
      (region-refines no_deeper no_deeper-compares direction IsLessDefinedDatum less-kept (Replaces ls ks) (Linked direction ls ks global) base
      (record { bound = n; call = applied ls global n; addresses = record { local = local; global = global } })
      (record { bound = m; call = applied ks global m; addresses = record { local = local; global = global } })
      (record {
        bounds = twice-order direction 2 n m twice;
        calls = λ f. calls-refines (lesser direction n m) n m (le_refl _) (twice-less direction n m twice) f;
        locals = λ k. (inl refl, locals k, locals k);
        globals = less-global;
      })
      (record {
        twice = twice;
        near_global = λ k. refl;
        far_global = λ k. refl;
        near_call = λ f us. refl;
        far_call = λ f us. refl;
        nested = λ i j small twice' f. calls-refines (lesser direction n m) i j small twice' f;
      }) r s alike).on xs xs (sound-pairs xs sound)

-- ---- families of runs

pub kept-within : (near far : ℕ → Answer (List Datum)) → ((direction : Direction) (n m : ℕ) → IsTwice direction 2 n m → Refines no_deeper direction (Paired IsLessDefinedDatum) (near n) (far m)) →
    IsKeptWithinTwice near far
kept-within near far like right n =
    let more = 2 * n + 2 in
    let most = 2 * more + 2 in
    let back = like Backward more n (le_refl _) in
    record {
      forward = forward-within no_deeper no_deeper-output (Paired IsLessDefinedDatum) (near n) (far more) (like Forward n more (le_refl _)) (right n)
          (λ wrong. backward-defined no_deeper (Paired IsLessDefinedDatum) (near most) (far more) (like Backward most more (le_refl _)) (right most) wrong);
      back = backward-within no_deeper no_deeper-output (Paired IsLessDefinedDatum) (near more) (far n) back (right more);
      no_deeper = λ sizes. backward-no-deeper no_deeper no_deeper-depth (Paired IsLessDefinedDatum) (near more) (far n) back (right more) sizes;
    }

twice-above : (direction : Direction) (n m : ℕ) → IsTwice direction 2 n m → IsTwice direction 1 (suc n) (suc m)
twice-above Forward n m h = omega arith
twice-above Backward n m h = omega arith

pub lambda-refines : (ls ks : List PlainLambda) → LambdasSameBut (Replaces ls ks) ls ks → (direction : Direction) (global : ℕ → Value) → ((k : ℕ) → IsSound (global k)) → (f n m : ℕ) →
    IsTwice direction 2 n m → (xs : List Datum) → AreSound xs → Refines no_deeper direction (Paired IsLessDefinedDatum) (lambda_at n ls global f xs) (lambda_at m ks global f xs)
lambda-refines ls ks same direction global globals f n m twice xs sound =
    (calls-refines ls ks same direction global globals (lesser direction (suc n) (suc m)) (suc n) (suc m) (le_refl _) (twice-above direction n m twice) f).on xs xs (sound-pairs xs sound)

pub lambdas_keep_meaning : LambdasKeepMeaning
lambdas_keep_meaning ls ks same global f xs globals sound =
    kept-within (λ n. lambda_at n ls global f xs) (λ n. lambda_at n ks global f xs) (λ direction n m twice. lambda-refines ls ks same direction global globals f n m twice xs sound)

pub regions_keep_meaning : RegionsKeepMeaning
regions_keep_meaning ls ks same r s alike addresses xs locals globals sound =
    kept-within (λ n. region_at n ls r xs addresses) (λ n. region_at n ks s xs addresses)
    (λ direction n m twice. regions-refines ls ks same direction addresses.global globals r s alike addresses.local locals n m twice xs sound)
