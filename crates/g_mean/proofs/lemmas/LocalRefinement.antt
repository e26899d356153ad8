-- Refinements replace regions, and bodies replace calls.
use Rattle.std.proofs.Common.{◌≡◌, ℕ, zero, suc, ◌≤◌, ◌⊎◌, List, [], ◌∷◌, ◌++◌, length, slice_get, Some, refl, sym, ap, subst, ◌∙◌, inl, inr, arith, le_refl}
use Rattle.val_core.specs.declared.values.Value.{Value}
use Rattle.val_core.specs.declared.values.Value.TheVariants.{Bad}
use Rattle.val_core.specs.Values.{IsSound}
use Rattle.val_core.specs.Memory.{Memory, closed}
use Rattle.val_core.specs.Events.{Event, output, called, IsPrefixOf}
use Rattle.val_core.specs.Answers.{Answer, Returned, Cut, Exited, Undefined, then_on, active, Gives}
use Rattle.val_core.specs.Refinement.{Direction, Forward, Backward, Refines, exactly, no_deeper}
use Rattle.val_core.specs.Objects.{opened}
use Rattle.val_core.proofs.lemmas.Events.{called_keeps_output, called_deepens}
use Rattle.val_core.proofs.lemmas.Refinement.{refines-less-goes, no_deeper-uncalled}
use Rattle.g_graph.specs.Plain.{RegionTree, PlainLambda}
use Rattle.g_mean.specs.Data.{Datum, val, memory, input, at_port, with_memory, changed_at, on_memory}
use Rattle.g_mean.specs.Meaning.{Context, region_meaning}
use Rattle.g_mean.specs.Calls.{inside, entered, applied}
use Rattle.g_mean.specs.LessDefined.{Paired, AreSound, IsLessDefinedDatum}
use Rattle.g_mean.specs.Refining.{InOrder, MeaningRefines, ContextRefines}
use Rattle.g_mean.specs.Replacement.{lesser, IsTwice, Linked}
use Rattle.g_mean.specs.LocalRefinement.{RefinesLocally, IsSoundContext, LocalRefinementsReplace, BodiesReplaceCalls}
use Rattle.g_mean.proofs.lemmas.Regions.{less-cut, region-refines}
use Rattle.g_mean.proofs.lemmas.Equal.{exactly-compares, no_deeper-compares}
use Rattle.g_mean.proofs.lemmas.LessDefined.{less-kept}
use Rattle.g_mean.proofs.lemmas.Calls.{same-itself}
use Rattle.g_mean.proofs.lemmas.Bounds.{Never, Always, never-refines, sound-pairs, pairs-sound, applied-more, refines-sound}

-- ---- less defined data compose

less-composes : (x y z : Datum) → IsLessDefinedDatum x y → IsLessDefinedDatum y z → IsLessDefinedDatum x z
less-composes x y z h k = (by h.0 k.0, h.1, k.2)
  where
    by : (x ≡ y) ⊎ (x ≡ val Bad) → (y ≡ z) ⊎ (y ≡ val Bad) → (x ≡ z) ⊎ (x ≡ val Bad)
    by (inr e) d = inr e
    by (inl e) (inl d) = inl (e ∙ d)
    by (inl e) (inr d) = inr (e ∙ d)

pub pairs-compose : (xs ys zs : List Datum) → Paired IsLessDefinedDatum xs ys → Paired IsLessDefinedDatum ys zs → Paired IsLessDefinedDatum xs zs
pairs-compose [] [] [] h k = tt
pairs-compose (x ∷ xs) (y ∷ ys) (z ∷ zs) h k = (less-composes x y z h.0 k.0, pairs-compose xs ys zs h.1 k.1)
pairs-compose [] [] (z ∷ zs) h k = absurd k
pairs-compose [] (y ∷ ys) zs h k = absurd h
pairs-compose (x ∷ xs) [] zs h k = absurd h
pairs-compose (x ∷ xs) (y ∷ ys) [] h k = absurd k

-- what refines to the refinement refines to what it refines
refined-refines : (direction : Direction) (a b c : Answer (List Datum)) → RefinesLocally (Paired IsLessDefinedDatum) a b → Refines no_deeper direction (Paired IsLessDefinedDatum) b c →
    Refines no_deeper direction (Paired IsLessDefinedDatum) a c
refined-refines direction (Undefined o) b c h k = tt
refined-refines direction (Returned x o) (Returned y p) (Returned z q) h k =
    (pairs-compose x y z h.0 k.0, subst (λ e. no_deeper.Same e q) (sym h.1) k.1)
refined-refines Backward (Returned x o) (Returned y p) (Cut q) h k = subst (λ e. no_deeper.FarIsPrefix e q) (sym h.1) k
refined-refines Forward (Returned x o) (Returned y p) (Cut q) h k = absurd k
refined-refines direction (Returned x o) (Returned y p) (Exited q t) h k = absurd k
refined-refines direction (Returned x o) (Returned y p) (Undefined q) h k = absurd k
refined-refines direction (Cut o) (Cut p) c h k = subst (λ e. Refines no_deeper direction (Paired IsLessDefinedDatum) (Cut e) c) (sym h) k
refined-refines direction (Exited o s) (Exited p t) c h k =
    subst (λ e. Refines no_deeper direction (Paired IsLessDefinedDatum) (Exited e s) c) (sym h.0) (subst (λ u. Refines no_deeper direction (Paired IsLessDefinedDatum) (Exited p u) c) (sym h.1) k)
refined-refines direction (Returned x o) (Cut p) c h k = absurd h
refined-refines direction (Returned x o) (Exited p t) c h k = absurd h
refined-refines direction (Returned x o) (Undefined p) c h k = absurd h
refined-refines direction (Cut o) (Returned y p) c h k = absurd h
refined-refines direction (Cut o) (Exited p t) c h k = absurd h
refined-refines direction (Cut o) (Undefined p) c h k = absurd h
refined-refines direction (Exited o s) (Returned y p) c h k = absurd h
refined-refines direction (Exited o s) (Cut p) c h k = absurd h
refined-refines direction (Exited o s) (Undefined p) c h k = absurd h

-- ---- refinements replace

calls-sound : (ls : List PlainLambda) (global : ℕ → Value) → ((k : ℕ) → IsSound (global k)) → (n f : ℕ) (xs : List Datum) → AreSound xs → Gives AreSound (applied ls global n f xs)
calls-sound ls global globals n f xs s =
    refines-sound (applied ls global n f xs) (applied ls global n f xs)
    ((applied-more exactly exactly-compares Forward IsLessDefinedDatum less-kept ls global (λ j. (inl refl, globals j, globals j)) n n (le_refl n) f).on xs xs (sound-pairs xs s))

context-sound : (direction : Direction) (ls ks : List PlainLambda) (global : ℕ → Value) (c d : Context) → ContextRefines no_deeper direction IsLessDefinedDatum c d →
    Linked direction ls ks global c d → IsSoundContext c
context-sound direction ls ks global c d a l =
    record {
      locals = λ k. (a.locals k).1;
      globals = λ k. (a.globals k).1;
      calls = λ f xs s. subst (λ b. Gives AreSound b) (sym (l.near_call f xs)) (calls-sound ls global (λ k. subst IsSound (l.near_global k) (a.globals k).1) c.bound f xs s);
    }

pub local_refinements_replace : LocalRefinementsReplace
local_refinements_replace ls ks r s h =
    record {
      at = λ direction global. record {
        at = λ c d a l. record {
          on = λ xs ys near.
              refined-refines direction (region_meaning c r xs) (region_meaning c s xs) (region_meaning d s ys)
              (h c xs (context-sound direction ls ks global c d a l) (pairs-sound xs ys near))
              ((region-refines no_deeper no_deeper-compares direction IsLessDefinedDatum less-kept Never Always
              (never-refines no_deeper no_deeper-compares direction IsLessDefinedDatum less-kept) c d a tt s s (same-itself Never s)).on xs ys near);
        };
      };
    }

-- ---- bodies replace calls

-- a call that the farther side does not make
uncalled-far : (f : ℕ) (o p : List Event) → no_deeper.FarIsPrefix o p → no_deeper.FarIsPrefix (called f o) p
uncalled-far f o p h =
    (subst (λ z. IsPrefixOf (output p) z) (sym (called_keeps_output f o)) h.0, λ sizes. let a = h.1 sizes in let b = called_deepens sizes f o in omega (arith, a, b))

uncalled-refines : (direction : Direction) (f : ℕ) (a b : Answer (List Datum)) → Refines no_deeper direction (Paired IsLessDefinedDatum) a b →
    Refines no_deeper direction (Paired IsLessDefinedDatum) (active f a) b
uncalled-refines direction f (Undefined o) b h = tt
uncalled-refines direction f (Returned x o) (Returned y p) h = (h.0, no_deeper-uncalled f o p h.1)
uncalled-refines direction f (Exited o s) (Exited p t) h = (no_deeper-uncalled f o p h.0, h.1)
uncalled-refines Forward f (Cut o) (Returned y p) h = subst (λ z. IsPrefixOf z (output p)) (sym (called_keeps_output f o)) h
uncalled-refines Forward f (Cut o) (Cut p) h = subst (λ z. IsPrefixOf z (output p)) (sym (called_keeps_output f o)) h
uncalled-refines Forward f (Cut o) (Exited p t) h = subst (λ z. IsPrefixOf z (output p)) (sym (called_keeps_output f o)) h
uncalled-refines Forward f (Cut o) (Undefined p) h = tt
uncalled-refines Backward f (Returned x o) (Cut p) h = uncalled-far f o p h
uncalled-refines Backward f (Exited o s) (Cut p) h = uncalled-far f o p h
uncalled-refines Backward f (Cut o) (Cut p) h = uncalled-far f o p h
uncalled-refines direction f _ _ h = absurd h

append-nothing : (m : Memory) → m ++ [] ≡ m
append-nothing [] = refl
append-nothing (k ∷ m) = ap (λ l. k ∷ l) (append-nothing m)

closed-nothing : (first : ℕ) (m : Memory) → closed first 0 m ≡ m
closed-nothing first [] = refl
closed-nothing zero (k ∷ m) = refl
closed-nothing (suc first) (k ∷ m) = ap (λ l. k ∷ l) (closed-nothing first m)

same-memory : (f : Memory → Memory) → ((m : Memory) → f m ≡ m) → (x : Datum) → with_memory f x ≡ x
same-memory f h (memory m) = ap memory (h m)
same-memory f h (val v) = refl
same-memory f h (input i) = refl

changed-nothing : (n : ℕ) (f : Datum → Datum) → ((x : Datum) → f x ≡ x) → (xs : List Datum) → changed_at n f xs ≡ xs
changed-nothing n f h [] = refl
changed-nothing zero f h (x ∷ xs) = ap (λ y. y ∷ xs) (h x)
changed-nothing (suc n) f h (x ∷ xs) = ap (λ ys. x ∷ ys) (changed-nothing n f h xs)

bound-below : (direction : Direction) (n m : ℕ) → IsTwice direction 2 (suc n) m → InOrder direction n m
bound-below Forward n m h = omega arith
bound-below Backward n m h = omega arith

small-below : (direction : Direction) (n m : ℕ) → lesser direction n m ≤ lesser direction (suc n) m
small-below Forward n m = omega arith
small-below Backward n m = le_refl m

twice-below : (direction : Direction) (n m : ℕ) → IsTwice direction 2 (suc n) m → IsTwice direction 1 n m
twice-below Forward n m h = omega arith
twice-below Backward n m h = omega arith

pub none-less : (direction : Direction) (m : ℕ) → IsTwice direction 2 0 m → (b : Answer (List Datum)) → Refines no_deeper direction (Paired IsLessDefinedDatum) (Cut []) b
none-less Forward zero h b = absurd (omega arith)
none-less Forward (suc m) h b = less-cut no_deeper no_deeper-compares Forward (Paired IsLessDefinedDatum) m (omega arith) b
none-less Backward m h b = absurd (omega arith)

module _ (ls ks : List PlainLambda) (direction : Direction) (global : ℕ → Value) (c d : Context) (a : ContextRefines no_deeper direction IsLessDefinedDatum c d)
    (l : Linked direction ls ks global c d) where
  body-refines : (n : ℕ) → InOrder direction n d.bound → ((f : ℕ) → MeaningRefines no_deeper direction IsLessDefinedDatum (applied ls global n f) (d.call f)) →
      (params : ℕ) (r : RegionTree) (m : Memory) (xs ys : List Datum) → Paired IsLessDefinedDatum xs ys →
      Refines no_deeper direction (Paired IsLessDefinedDatum)
      (then_on (region_meaning (inside n (applied ls global n) global [] m) r (changed_at params (with_memory (λ k. k ++ opened [])) xs))
      (λ us. Returned (changed_at 1 (with_memory (closed (length m) 0)) us) []))
      (region_meaning d r ys)
  body-refines n order calls params r m xs ys near =
      let inner = inside n (applied ls global n) global [] m in
      let context : ContextRefines no_deeper direction IsLessDefinedDatum inner d
      = record {
        bounds = order;
        calls = calls;
        locals = λ k. (inr refl, tt, (a.locals k).2);
        globals = λ k. subst (λ v. IsLessDefinedDatum (val v) (val (d.addresses.global k))) (l.near_global k)
            (a.globals k);
      } in
      let opens = changed-nothing params (with_memory (λ k. k ++ opened [])) (same-memory (λ k. k ++ opened []) append-nothing) xs in
      let whole = region-refines no_deeper no_deeper-compares direction IsLessDefinedDatum less-kept Never Always
      (never-refines no_deeper no_deeper-compares direction IsLessDefinedDatum less-kept) inner d context tt r r (same-itself Never r) in
      refines-less-goes no_deeper no_deeper-compares.goes direction (Paired IsLessDefinedDatum) (Paired IsLessDefinedDatum)
      (region_meaning inner r (changed_at params (with_memory (λ k. k ++ opened [])) xs)) (region_meaning d r ys) (changed_at 1 (with_memory (closed (length m) 0)))
      (whole.on (changed_at params (with_memory (λ k. k ++ opened [])) xs) ys (subst (λ zs. Paired IsLessDefinedDatum zs ys) (sym opens) near))
      (λ us vs h. subst (λ zs. Paired IsLessDefinedDatum zs vs) (sym (changed-nothing 1 (with_memory (closed (length m) 0)) (same-memory (closed (length m) 0) (closed-nothing (length m))) us)) h)

  memory-refines : (x : Datum) (next : Memory → Answer (List Datum)) (b : Answer (List Datum)) → ((m : Memory) → Refines no_deeper direction (Paired IsLessDefinedDatum) (next m) b) →
      Refines no_deeper direction (Paired IsLessDefinedDatum) (on_memory x next) b
  memory-refines (memory m) next b h = h m
  memory-refines (val v) next b h = tt
  memory-refines (input i) next b h = tt

  entered-refines : (n : ℕ) → InOrder direction n d.bound → ((f : ℕ) → MeaningRefines no_deeper direction IsLessDefinedDatum (applied ls global n f) (d.call f)) → (k : PlainLambda) →
      k.objects ≡ [] → (xs ys : List Datum) → Paired IsLessDefinedDatum xs ys →
      Refines no_deeper direction (Paired IsLessDefinedDatum) (entered n (applied ls global n) global (Some k) xs) (region_meaning d k.body ys)
  entered-refines n order calls k none xs ys near =
      subst (λ os. Refines no_deeper direction (Paired IsLessDefinedDatum)
      (entered n (applied ls global n) global (Some (record { number = k.number; params = k.params; objects = os; body = k.body; next = k.next })) xs) (region_meaning d k.body ys)) (sym none)
      (memory-refines (at_port xs k.params) _ (region_meaning d k.body ys) (λ m. body-refines n order calls k.params k.body m xs ys near))

  call-refines : (n : ℕ) → n ≡ c.bound → (f : ℕ) (k : PlainLambda) → slice_get ls f ≡ Some k → k.objects ≡ [] → (xs ys : List Datum) → Paired IsLessDefinedDatum xs ys →
      Refines no_deeper direction (Paired IsLessDefinedDatum) (applied ls global n f xs) (region_meaning d k.body ys)
  call-refines zero e f k found none xs ys near =
      none-less direction d.bound (subst (λ n. IsTwice direction 2 n d.bound) (sym e) l.twice) (region_meaning d k.body ys)
  call-refines (suc n) e f k found none xs ys near =
      let twice = subst (λ n. IsTwice direction 2 n d.bound) (sym e) l.twice in
      let calls : (j : ℕ) → MeaningRefines no_deeper direction IsLessDefinedDatum (applied ls global n j) (d.call j)
      = λ j. record {
        on = λ us vs h. subst (λ b. Refines no_deeper direction (Paired IsLessDefinedDatum) (applied ls global n j us) b) (sym (l.far_call j vs))
            ((l.nested n d.bound (subst (λ i. lesser direction n d.bound ≤ lesser direction i d.bound) e (small-below direction n d.bound)) (twice-below direction n d.bound twice) j).on us vs h);
      } in
      uncalled-refines direction f (entered n (applied ls global n) global (slice_get ls f) xs) (region_meaning d k.body ys)
      (subst (λ z. Refines no_deeper direction (Paired IsLessDefinedDatum) (entered n (applied ls global n) global z xs) (region_meaning d k.body ys)) (sym found)
      (entered-refines n (bound-below direction n d.bound twice) calls k none xs ys near))

pub bodies_replace_calls : BodiesReplaceCalls
bodies_replace_calls ls ks direction global c d a l f k found none xs ys near =
    subst (λ b. Refines no_deeper direction (Paired IsLessDefinedDatum) b (region_meaning d k.body ys)) (sym (l.near_call f xs))
    (call-refines ls ks direction global c d a l c.bound refl f k found none xs ys near)
