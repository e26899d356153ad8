-- Whether an origin is among some, where outputs moved, and where an opened region came.
use Rattle.std.specs.Prelude.{◌||◌}
use Rattle.std.proofs.Common.{◌≡◌, ℕ, zero, suc, ◌+◌, ◌==◌, ◌⊎◌, Bool, true, false, cond, List, [], ◌∷◌, ◌++◌, map, slice_get, Option, None, Some, option_map, unwrap_or, refl, sym, ap, ap₂, subst, ◌∙◌, inl, inr, arith}
use Rattle.std.proofs.lemmas.Bool.Decides.{nat_tests}
use Rattle.std.proofs.lemmas.Option.{slice_get-map}
use Rattle.g_graph.specs.declared.op.Origin.{Origin}
use Rattle.g_graph.specs.declared.op.Origin.TheVariants.{Arg, Out}
use Rattle.g_graph.specs.Ids.{nodes_ids, regions_ids}
use Rattle.g_graph.specs.Plain.{node, NodeTrees, no_nodes, node_then}
use Rattle.g_graph.specs.Scope.{same_origin}
use Rattle.g_graph.specs.Splice.{args_to_inputs, outputs_to_results}
use Rattle.g_graph.proofs.lemmas.Indexes.{same_origin_self}
use Rattle.g_graph.proofs.lemmas.Moved.{same_origin_true}
use Rattle.g_mean.specs.Copies.{IsAmong, IsRead, AreRead, NodesRead}
use Rattle.g_mean.proofs.lemmas.Copies.{among-right}
use Rattle.r_walk.specs.Walk.{is_in, inputs_of_nodes, results_used}

pub both_ways : (s t : Bool) → (s ≡ true → t ≡ true) → (t ≡ true → s ≡ true) → s ≡ t
both_ways true t f g = sym (f refl)
both_ways false true f g = g refl
both_ways false false f g = refl

pub in_append : (xs ys : List Origin) (o : Origin) → is_in (xs ++ ys) o ≡ (is_in xs o || is_in ys o)
in_append [] ys o = refl
in_append (x ∷ xs) ys o = by (same_origin o x) (in_append xs ys o)
  where
    by : (t : Bool) → is_in (xs ++ ys) o ≡ (is_in xs o || is_in ys o) → (t || is_in (xs ++ ys) o) ≡ ((t || is_in xs o) || is_in ys o)
    by true e = refl
    by false e = e

-- ---- origins that became others

pub same_moved : (n p : ℕ) (f : Origin → Origin) → ((a : Origin) → f a ≡ Out n p → a ≡ Out n p) → f (Out n p) ≡ Out n p → (o : Origin) → same_origin (Out n p) (f o) ≡ same_origin (Out n p) o
same_moved n p f apart fresh o = both_ways (same_origin (Out n p) (f o)) (same_origin (Out n p) o) forth back
  where
    forth : same_origin (Out n p) (f o) ≡ true → same_origin (Out n p) o ≡ true
    forth e = subst (λ a. same_origin (Out n p) a ≡ true) (sym (apart o (sym (same_origin_true (Out n p) (f o) e)))) (same_origin_self (Out n p))

    back : same_origin (Out n p) o ≡ true → same_origin (Out n p) (f o) ≡ true
    back e =
        subst (λ a. same_origin (Out n p) a ≡ true) (sym (ap f (sym (same_origin_true (Out n p) o e)) ∙ fresh)) (same_origin_self (Out n p))

pub in_moved : (n p : ℕ) (f : Origin → Origin) → ((a : Origin) → f a ≡ Out n p → a ≡ Out n p) → f (Out n p) ≡ Out n p → (os : List Origin) → is_in (map f os) (Out n p) ≡ is_in os (Out n p)
in_moved n p f apart fresh [] = refl
in_moved n p f apart fresh (o ∷ os) = ap₂ (λ s t. s || t) (same_moved n p f apart fresh o) (in_moved n p f apart fresh os)

pub in_mapped : (f : Origin → Origin) (a : Origin) (os : List Origin) → is_in os a ≡ true → is_in (map f os) (f a) ≡ true
in_mapped f a [] e = absurd cc
in_mapped f a (o ∷ os) e = by (same_origin a o) refl e (in_mapped f a os)
  where
    or_true : (s : Bool) → (s || true) ≡ true
    or_true true = refl
    or_true false = refl

    by : (t : Bool) → same_origin a o ≡ t → (t || is_in os a) ≡ true → (is_in os a ≡ true → is_in (map f os) (f a) ≡ true) → (same_origin (f a) (f o) || is_in (map f os) (f a)) ≡ true
    by true d h g = ap (λ b. same_origin (f a) (f b) || is_in (map f os) (f a)) (sym (same_origin_true a o d)) ∙ ap (λ t. t || is_in (map f os) (f a)) (same_origin_self (f a))
    by false d h g = ap (λ t. same_origin (f a) (f o) || t) (g h) ∙ or_true (same_origin (f a) (f o))

-- ---- what is not read

pub not_read : (S : Origin → Bool) (known : List ℕ) (n p : ℕ) → S (Out n p) ≡ false → (IsAmong n known → ⊥) → (os : List Origin) → AreRead S known os → is_in os (Out n p) ≡ false
not_read S known n p unread h [] r = refl
not_read S known n p unread h (o ∷ os) r = ap₂ (λ s t. s || t) (other (same_origin (Out n p) o) refl) (not_read S known n p unread h os r.1)
  where
    other : (t : Bool) → same_origin (Out n p) o ≡ t → t ≡ false
    other false e = refl
    other true e = by (subst (IsRead S known) (sym (same_origin_true (Out n p) o e)) r.0)
      where
        by : (S (Out n p) ≡ true) ⊎ IsAmong n known → true ≡ false
        by (inl d) = absurd (let z : true ≡ false = sym d ∙ unread in cc)
        by (inr g) = absurd (h g)

pub nodes_not_read : (S : Origin → Bool) (known : List ℕ) (n p : ℕ) → S (Out n p) ≡ false → (IsAmong n known → ⊥) → (ns : NodeTrees) → (IsAmong n (nodes_ids ns) → ⊥) → NodesRead S known ns →
    is_in (inputs_of_nodes ns) (Out n p) ≡ false
nodes_not_read S known n p unread h no_nodes g r = refl
nodes_not_read S known n p unread h (node_then (node m op ins rs) ns) g r =
    in_append ins (inputs_of_nodes ns) (Out n p)
    ∙ ap₂ (λ s t. s || t) (not_read S known n p unread h ins r.0.0) (nodes_not_read S (m ∷ known) n p unread more ns (λ k. g (among-right n (m ∷ regions_ids rs) (nodes_ids ns) k)) r.1)
  where
    more : IsAmong n (m ∷ known) → ⊥
    more (inl e) = g (inl e)
    more (inr k) = h k

-- ---- the results of an opened region that are used

-- one of these results is an output, and that of its place is used
record IsGiven (uses : List Origin) (id port : ℕ) (os : List Origin) (n p : ℕ) : Type 0 where
  place : ℕ
  is : slice_get os place ≡ Some (Out n p)
  used : is_in uses (Out id (port + place)) ≡ true

later : (uses : List Origin) (id port : ℕ) (o : Origin) (os : List Origin) (n p : ℕ) → IsGiven uses id (suc port) os n p → IsGiven uses id port (o ∷ os) n p
later uses id port o os n p g =
    record { place = suc g.place; is = g.is; used = subst (λ q. is_in uses (Out id q) ≡ true) (omega arith) g.used }

given_of : (uses : List Origin) (id port : ℕ) (os : List Origin) (n p : ℕ) → is_in (results_used uses id port os) (Out n p) ≡ true → IsGiven uses id port os n p
given_of uses id port [] n p e = absurd cc
given_of uses id port (o ∷ os) n p e = by (is_in uses (Out id port)) refl e (given_of uses id (suc port) os n p)
  where
    here : (t : Bool) → same_origin (Out n p) o ≡ t → is_in uses (Out id port) ≡ true → (t || is_in (results_used uses id (suc port) os) (Out n p)) ≡ true → (is_in (results_used uses id (suc port) os) (Out n p) ≡ true → IsGiven uses id (suc port) os n p) → IsGiven uses id port (o ∷ os) n p
    here true d u h rest =
        record {
          place = 0;
          is = ap Some (sym (same_origin_true (Out n p) o d));
          used = subst (λ q. is_in uses (Out id q) ≡ true) (omega arith) u;
        }
    here false d u h rest = later uses id port o os n p (rest h)

    by : (t : Bool) → is_in uses (Out id port) ≡ t → is_in (cond t (o ∷ results_used uses id (suc port) os) (results_used uses id (suc port) os)) (Out n p) ≡ true →
        (is_in (results_used uses id (suc port) os) (Out n p) ≡ true → IsGiven uses id (suc port) os n p) → IsGiven uses id port (o ∷ os) n p
    by true d h rest = here (same_origin (Out n p) o) refl d h rest
    by false d h rest = later uses id port o os n p (rest h)

given_in : (uses : List Origin) (id port : ℕ) (os : List Origin) (n p place : ℕ) → slice_get os place ≡ Some (Out n p) → is_in uses (Out id (port + place)) ≡ true →
    is_in (results_used uses id port os) (Out n p) ≡ true
given_in uses id port [] n p place e u = absurd cc
given_in uses id port (o ∷ os) n p zero e u =
    let same : o ≡ Out n p = cc in
    let here : is_in uses (Out id port) ≡ true = subst (λ q. is_in uses (Out id q) ≡ true) (omega arith) u in
    ap (λ t. is_in (cond t (o ∷ results_used uses id (suc port) os) (results_used uses id (suc port) os)) (Out n p)) here
    ∙ ap (λ a. same_origin (Out n p) a || is_in (results_used uses id (suc port) os) (Out n p)) same
    ∙ ap (λ t. t || is_in (results_used uses id (suc port) os) (Out n p)) (same_origin_self (Out n p))
given_in uses id port (o ∷ os) n p (suc place) e u =
    by (is_in uses (Out id port)) (given_in uses id (suc port) os n p place e (subst (λ q. is_in uses (Out id q) ≡ true) (omega arith) u))
  where
    or_true : (s t : Bool) → t ≡ true → (s || t) ≡ true
    or_true true t h = refl
    or_true false t h = h

    by : (t : Bool) → is_in (results_used uses id (suc port) os) (Out n p) ≡ true →
        is_in (cond t (o ∷ results_used uses id (suc port) os) (results_used uses id (suc port) os)) (Out n p) ≡ true
    by true h = or_true (same_origin (Out n p) o) (is_in (results_used uses id (suc port) os) (Out n p)) h
    by false h = h

-- The node's outputs become the region's results, which have these inputs for arguments: an output of the region's nodes is
-- then read exactly where the output is used that it became.
module _ (id : ℕ) (inputs gives : List Origin) (n p : ℕ) (other : n ≡ id → ⊥) (apart : (a : Origin) → args_to_inputs inputs a ≡ Out n p → a ≡ Out n p) where
  abbrev given : List Origin
  given = map (args_to_inputs inputs) gives

  abbrev now : Origin → Origin
  now = outputs_to_results id given

  -- an origin that is such an output now
  record IsNow (os : List Origin) : Type 0 where
    place : ℕ
    is : slice_get gives place ≡ Some (Out n p)
    read : is_in os (Out id place) ≡ true

  next_now : (o : Origin) (os : List Origin) → IsNow os → IsNow (o ∷ os)
  next_now o os h = record { place = h.place; is = h.is; read = ap (λ t. same_origin (Out id h.place) o || t) h.read ∙ or_true (same_origin (Out id h.place) o) }
    where
      or_true : (s : Bool) → (s || true) ≡ true
      or_true true = refl
      or_true false = refl

  from-given : (q : ℕ) (a : Option Origin) → slice_get gives q ≡ a → unwrap_or (option_map (args_to_inputs inputs) a) (Out id q) ≡ Out n p → slice_get gives q ≡ Some (Out n p)
  from-given q None e d = absurd (other (let z : Out id q ≡ Out n p = d in cc))
  from-given q (Some a) e d = e ∙ ap Some (apart a d)

  now_first : (o : Origin) (os : List Origin) → is_in (o ∷ os) (Out n p) ≡ false → now o ≡ Out n p → IsNow (o ∷ os)
  now_first (Arg k) os unread e = absurd cc
  now_first (Out m q) os unread e = by (m == id) refl e
    where
      itself : m ≡ id → IsNow (Out m q ∷ os)
      itself d = record {
        place = q;
        is = from-given q (slice_get gives q) refl (ap (λ a. unwrap_or a (Out id q)) (sym (slice_get-map (args_to_inputs inputs) gives q)) ∙ at-id);
        read = ap (λ k. same_origin (Out id q) (Out k q) || is_in os (Out id q)) d ∙ ap (λ t. t || is_in os (Out id q)) (same_origin_self (Out id q));
      }
        where
          test : (m == id) ≡ true
          test = grind (arith, nat_tests)

          at-id : unwrap_or (slice_get given q) (Out id q) ≡ Out n p
          at-id = ap (λ k. unwrap_or (slice_get given q) (Out k q)) (sym d) ∙ ap (λ t. cond t (unwrap_or (slice_get given q) (Out m q)) (Out m q)) (sym test) ∙ e

      by : (t : Bool) → (m == id) ≡ t → cond t (unwrap_or (slice_get given q) (Out m q)) (Out m q) ≡ Out n p → IsNow (Out m q ∷ os)
      by true d f = itself (grind (arith, nat_tests))
      by false d f =
          absurd (let z : true ≡ false = sym (ap (λ t. t || is_in os (Out n p)) (same_origin_self (Out n p))) ∙ ap (λ a. same_origin (Out n p) a || is_in os (Out n p)) (sym f) ∙ unread in cc)

  rest_not : (s t : Bool) → (s || t) ≡ false → t ≡ false
  rest_not true t e = absurd cc
  rest_not false t e = e

  now_of : (os : List Origin) → is_in os (Out n p) ≡ false → is_in (map now os) (Out n p) ≡ true → IsNow os
  now_of [] unread e = absurd cc
  now_of (o ∷ os) unread e = by (same_origin (Out n p) (now o)) refl e (now_of os (rest_not (same_origin (Out n p) o) (is_in os (Out n p)) unread))
    where
      by : (t : Bool) → same_origin (Out n p) (now o) ≡ t → (t || is_in (map now os) (Out n p)) ≡ true → (is_in (map now os) (Out n p) ≡ true → IsNow os) → IsNow (o ∷ os)
      by true d f rest = now_first o os unread (sym (same_origin_true (Out n p) (now o) d))
      by false d f rest = next_now o os (rest f)

  now_at : (q : ℕ) → slice_get gives q ≡ Some (Out n p) → now (Out id q) ≡ Out n p
  now_at q e =
      ap (λ t. cond t (unwrap_or (slice_get given q) (Out id q)) (Out id q)) test
      ∙ ap (λ a. unwrap_or a (Out id q)) (slice_get-map (args_to_inputs inputs) gives q ∙ ap (option_map (args_to_inputs inputs)) e)
    where
      test : (id == id) ≡ true
      test = grind (arith, nat_tests)

  pub used_now : (uses os : List Origin) → is_in os (Out n p) ≡ false → ((q : ℕ) → is_in uses (Out id q) ≡ is_in os (Out id q)) →
      is_in (results_used uses id 0 gives) (Out n p) ≡ is_in (map now os) (Out n p)
  used_now uses os unread same = both_ways (is_in (results_used uses id 0 gives) (Out n p)) (is_in (map now os) (Out n p)) forth back
    where
      forth : is_in (results_used uses id 0 gives) (Out n p) ≡ true → is_in (map now os) (Out n p) ≡ true
      forth e =
          let g = given_of uses id 0 gives n p e in
          subst (λ a. is_in (map now os) a ≡ true) (now_at g.place g.is) (in_mapped now (Out id g.place) os (sym (same g.place) ∙ subst (λ q. is_in uses (Out id q) ≡ true) (omega arith) g.used))

      back : is_in (map now os) (Out n p) ≡ true → is_in (results_used uses id 0 gives) (Out n p) ≡ true
      back e =
          let h = now_of os unread e in
          given_in uses id 0 gives n p h.place h.is (subst (λ q. is_in uses (Out id q) ≡ true) (omega arith) (same h.place ∙ h.read))
