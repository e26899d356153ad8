-- Regions that are equal but for regions that refine, refine.
use Rattle.std.proofs.Common.{◌≡◌, ℕ, zero, suc, ◌==◌, Bool, true, false, cond, List, [], ◌∷◌, map, refl, sym, subst, inl, inr, arith}
use Rattle.val_core.specs.declared.values.Value.{Value}
use Rattle.val_core.specs.declared.values.Value.TheVariants.{Num, At, Bad}
use Rattle.val_core.specs.Memory.{Memory}
use Rattle.val_core.specs.Refinement.{Direction, Forward, Backward, Comparison, Refines}
use Rattle.val_core.specs.Answers.{Answer, Returned, Cut, Exited, Undefined, on_number}
use Rattle.val_core.proofs.lemmas.Refinement.{refines-then}
use Rattle.g_graph.specs.declared.op.Op.{Op}
use Rattle.g_graph.specs.declared.op.Op.TheVariants.{Apply, Gamma, Theta}
use Rattle.g_graph.specs.Plain.{RegionTree, region, NodeTree, node, NodeTrees, no_nodes, node_then, RegionTrees, no_regions, region_then, id_of}
use Rattle.g_mean.specs.Data.{Datum, val, memory, input, at_port, value_of, on_memory}
use Rattle.g_mean.specs.Meaning.{Meaning, Context, chosen, branched, again, turns, looped, act, Outputs, no_outputs, extended, read, region_meaning, node_run, nodes_run, meanings}
use Rattle.g_mean.specs.LessDefined.{Paired}
use Rattle.g_mean.specs.Refining.{Compares, InOrder, MeaningRefines, ContextRefines, RegionRefines, SameBut, NodeSameBut, NodesSameBut, RegionsSameBut}
use Rattle.g_mean.proofs.lemmas.Kept.{IsKept, paired-at, OutputsRefine, reads-refines}

pub pick : {X : Type 0} (R : X → X → Type 0) (test : Bool) (a b x y : X) → R a b → R x y → R (cond test a x) (cond test b y)
pick R true a b x y h k = h
pick R false a b x y h k = k

-- ---- the side that is cut first

cut-less : {A B : Type 0} (cmp : Comparison) → Compares cmp → (R : A → B → Type 0) (b : Answer B) → Refines cmp Forward R (Cut []) b
cut-less cmp g R (Returned y r) = g.goes.near_more [] [] r (g.near [] [] g.goes.nothing)
cut-less cmp g R (Cut r) = g.goes.near_more [] [] r (g.near [] [] g.goes.nothing)
cut-less cmp g R (Exited r t) = g.goes.near_more [] [] r (g.near [] [] g.goes.nothing)
cut-less cmp g R (Undefined r) = tt

cut-far : {A B : Type 0} (cmp : Comparison) → Compares cmp → (R : A → B → Type 0) (a : Answer A) → Refines cmp Backward R a (Cut [])
cut-far cmp g R (Returned x q) = g.goes.far_more [] q [] (g.far [] [] g.goes.nothing)
cut-far cmp g R (Cut q) = g.goes.far_more [] q [] (g.far [] [] g.goes.nothing)
cut-far cmp g R (Exited q s) = g.goes.far_more [] q [] (g.far [] [] g.goes.nothing)
cut-far cmp g R (Undefined q) = tt

pub both-cut : {A B : Type 0} (cmp : Comparison) → Compares cmp → (direction : Direction) (R : A → B → Type 0) → Refines cmp direction R (Cut []) (Cut [])
both-cut cmp g Forward R = cut-less cmp g R (Cut [])
both-cut cmp g Backward R = cut-far cmp g R (Cut [])

pub less-cut : {A B : Type 0} (cmp : Comparison) → Compares cmp → (direction : Direction) (R : A → B → Type 0) (m : ℕ) → InOrder direction 0 (suc m) → (b : Answer B) →
    Refines cmp direction R (Cut []) b
less-cut cmp g Forward R m h b = cut-less cmp g R b
less-cut cmp g Backward R m h b = absurd (omega arith)

pub far-cut : {A B : Type 0} (cmp : Comparison) → Compares cmp → (direction : Direction) (R : A → B → Type 0) (n : ℕ) → InOrder direction (suc n) 0 → (a : Answer A) →
    Refines cmp direction R a (Cut [])
far-cut cmp g Forward R n h a = absurd (omega arith)
far-cut cmp g Backward R n h a = cut-far cmp g R a

pub order-below : (direction : Direction) (n m : ℕ) → InOrder direction (suc n) (suc m) → InOrder direction n m
order-below Forward n m h = omega arith
order-below Backward n m h = omega arith

module _ (cmp : Comparison) (g : Compares cmp) (direction : Direction) (N : Datum → Datum → Type 0) (k : IsKept N) where
  pub extended-refines : (o p : Outputs) → OutputsRefine N o p → (id : ℕ) (xs ys : List Datum) → Paired N xs ys → OutputsRefine N (extended o id xs) (extended p id ys)
  extended-refines o p h id xs ys near n q =
      pick N (id == n) (at_port xs q) (at_port ys q) (o n q) (p n q) (paired-at N k xs ys near q) (h n q)

  -- ---- what follows on a number or a memory

  on_number-by : {A B : Type 0} (R : A → B → Type 0) (u v : Value) → ((w : ℕ) → u ≡ Num w → v ≡ Num w) → (f : ℕ → Answer A) (h : ℕ → Answer B) → ((w : ℕ) → Refines cmp direction R (f w) (h w)) →
      Refines cmp direction R (on_number u f) (on_number v h)
  on_number-by R (Num w) v e f h like = subst (λ u. Refines cmp direction R (f w) (on_number u h)) (sym (e w refl)) (like w)
  on_number-by R (At b o) v e f h like = tt
  on_number-by R Bad v e f h like = tt

  pub on_number-refines : {A B : Type 0} (R : A → B → Type 0) (x y : Datum) → N x y → (f : ℕ → Answer A) (h : ℕ → Answer B) → ((w : ℕ) → Refines cmp direction R (f w) (h w)) →
      Refines cmp direction R (on_number (value_of x) f) (on_number (value_of y) h)
  on_number-refines R x y near f h like = on_number-by R (value_of x) (value_of y) (k.number x y near) f h like

  on_memory-by : {A B : Type 0} (R : A → B → Type 0) (x y : Datum) → ((m : Memory) → x ≡ memory m → y ≡ memory m) → (f : Memory → Answer A) (h : Memory → Answer B) →
      ((m : Memory) → Refines cmp direction R (f m) (h m)) → Refines cmp direction R (on_memory x f) (on_memory y h)
  on_memory-by R (memory m) y e f h like = subst (λ u. Refines cmp direction R (f m) (on_memory u h)) (sym (e m refl)) (like m)
  on_memory-by R (val v) y e f h like = tt
  on_memory-by R (input i) y e f h like = tt

  pub on_memory-refines : {A B : Type 0} (R : A → B → Type 0) (x y : Datum) → N x y → (f : Memory → Answer A) (h : Memory → Answer B) → ((m : Memory) → Refines cmp direction R (f m) (h m)) →
      Refines cmp direction R (on_memory x f) (on_memory y h)
  on_memory-refines R x y near f h like = on_memory-by R x y (k.state x y near) f h like

  -- ---- one node

  abbrev MeaningsRefine : List Meaning → List Meaning → Type 0
  MeaningsRefine [] [] = Unit {0}
  MeaningsRefine (m ∷ ms) (n ∷ ns) = MeaningRefines cmp direction N m n × MeaningsRefine ms ns
  MeaningsRefine _ _ = ⊥

  chosen-refines : (w : ℕ) (ms ns : List Meaning) → MeaningsRefine ms ns → (xs ys : List Datum) → Paired N xs ys → Refines cmp direction (Paired N) (chosen w ms xs) (chosen w ns ys)
  chosen-refines w [] ns h xs ys near = tt
  chosen-refines w (m ∷ []) (n ∷ []) h xs ys near = h.0.on xs ys near
  chosen-refines zero (m ∷ l ∷ ms) (n ∷ j ∷ ns) h xs ys near = h.0.on xs ys near
  chosen-refines (suc w) (m ∷ l ∷ ms) (n ∷ j ∷ ns) h xs ys near = chosen-refines w (l ∷ ms) (j ∷ ns) h.1 xs ys near
  chosen-refines w (m ∷ []) (n ∷ j ∷ ns) h xs ys near = absurd h.1
  chosen-refines w (m ∷ l ∷ ms) (n ∷ []) h xs ys near = absurd h.1
  chosen-refines w (m ∷ ms) [] h xs ys near = absurd h

  branched-refines : (ms ns : List Meaning) → MeaningsRefine ms ns → MeaningRefines cmp direction N (branched ms) (branched ns)
  branched-refines ms ns h = record { on = λ xs ys near. by xs ys near }
    where
      by : (xs ys : List Datum) → Paired N xs ys → Refines cmp direction (Paired N) (branched ms xs) (branched ns ys)
      by [] ys near = tt
      by (p ∷ xs) (q ∷ ys) near =
          on_number-refines (Paired N) p q near.0 (λ w. chosen w ms xs) (λ w. chosen w ns ys) (λ w. chosen-refines w ms ns h xs ys near.1)
      by (p ∷ xs) [] near = absurd near

  again-refines : (next next' : Meaning) → MeaningRefines cmp direction N next next' → (xs ys : List Datum) → Paired N xs ys → Refines cmp direction (Paired N) (again next xs) (again next' ys)
  again-refines next next' h [] ys near = tt
  again-refines next next' h (p ∷ xs) (q ∷ ys) near =
      on_number-refines (Paired N) p q near.0 (λ w. cond (w == 0) (Returned xs []) (next xs)) (λ w. cond (w == 0) (Returned ys []) (next' ys))
      (λ w. pick (λ a b. Refines cmp direction (Paired N) a b) (w == 0) (Returned xs []) (Returned ys []) (next xs) (next' ys) (near.1, g.goes.nothing) (h.on xs ys near.1))
  again-refines next next' h (p ∷ xs) [] near = absurd near

  turns-by : (body body' : Meaning) → MeaningRefines cmp direction N body body' → (n m : ℕ) → InOrder direction n m → MeaningRefines cmp direction N (turns n body) (turns m body')
  turns-by body body' h zero zero order = record { on = λ xs ys near. both-cut cmp g direction (Paired N) }
  turns-by body body' h zero (suc m) order = record { on = λ xs ys near. less-cut cmp g direction (Paired N) m order (turns (suc m) body' ys) }
  turns-by body body' h (suc n) zero order = record { on = λ xs ys near. far-cut cmp g direction (Paired N) n order (turns (suc n) body xs) }
  turns-by body body' h (suc n) (suc m) order =
      let rest = turns-by body body' h n m (order-below direction n m order) in
      record {
        on = λ xs ys near. refines-then cmp g.goes (Paired N) (Paired N) direction (body xs) (body' ys) (again (turns n body)) (again (turns m body')) (h.on xs ys near)
            (λ us vs near'. again-refines (turns n body) (turns m body') rest us vs near');
      }

  looped-refines : (n m : ℕ) → InOrder direction n m → (ms ns : List Meaning) → MeaningsRefine ms ns → MeaningRefines cmp direction N (looped n ms) (looped m ns)
  looped-refines n m order [] ns h = record { on = λ xs ys near. tt }
  looped-refines n m order (b ∷ ms) (c ∷ ns) h = record { on = λ xs ys near. (turns-by b c h.0 n m order).on xs ys near }
  looped-refines n m order (b ∷ ms) [] h = absurd h

  pub act-refines : (c d : Context) → ContextRefines cmp direction N c d → (op : Op) (ms ns : List Meaning) → MeaningsRefine ms ns → (xs ys : List Datum) → Paired N xs ys →
      Refines cmp direction (Paired N) (act c op ms xs) (act d op ns ys)
  act-refines c d a (Apply f) ms ns h xs ys near = (a.calls f).on xs ys near
  act-refines c d a Gamma ms ns h xs ys near = (branched-refines ms ns h).on xs ys near
  act-refines c d a Theta ms ns h xs ys near = (looped-refines c.bound d.bound a.bounds ms ns h).on xs ys near
  act-refines c d a op ms ns h xs ys near =
      k.plain cmp g direction c.addresses d.addresses (record { locals = a.locals; globals = a.globals }) op xs ys near

  -- ---- regions

  module _ (P : RegionTree → RegionTree → Type 0) (Q : Context → Context → Type 0) (base : (r s : RegionTree) → P r s → RegionRefines cmp direction N Q r s) (c d : Context)
      (a : ContextRefines cmp direction N c d) (q : Q c d) where
    extended-at : (x y : NodeTree) → NodeSameBut P x y → (o p : Outputs) → OutputsRefine N o p → (us vs : List Datum) → Paired N us vs →
        OutputsRefine N (extended o (id_of x) us) (extended p (id_of y) vs)
    extended-at (node id op inputs rs) (node id' op' inputs' rs') h o p like us vs near =
        subst (λ i. OutputsRefine N (extended o id us) (extended p i vs)) h.0 (extended-refines o p like id us vs near)

    mutual
      pub region-refines : (r s : RegionTree) → SameBut P r s → MeaningRefines cmp direction N (region_meaning c r) (region_meaning d s)
      region-refines (region args nodes results) (region args' nodes' results') (inl p) =
          (base (region args nodes results) (region args' nodes' results') p).at c d a q
      region-refines (region args nodes results) (region args' nodes' results') (inr h) =
          record {
            on = λ xs ys near.
                refines-then cmp g.goes (OutputsRefine N) (Paired N) direction (nodes_run c nodes xs no_outputs) (nodes_run d nodes' ys no_outputs)
                (λ o. Returned (map (read xs o) results) []) (λ o. Returned (map (read ys o) results') [])
                (nodes-refines nodes nodes' h.1 xs ys near no_outputs no_outputs (λ n p. k.nothing))
                (λ o p like. (subst (λ rs. Paired N (map (read xs o) results) (map (read ys p) rs)) h.2 (reads-refines N k xs ys near o p like results), g.goes.nothing));
          }

      pub nodes-refines : (ns ms : NodeTrees) → NodesSameBut P ns ms → (xs ys : List Datum) → Paired N xs ys → (o p : Outputs) → OutputsRefine N o p →
          Refines cmp direction (OutputsRefine N) (nodes_run c ns xs o) (nodes_run d ms ys p)
      nodes-refines no_nodes no_nodes h xs ys near o p like = (like, g.goes.nothing)
      nodes-refines (node_then x ns) (node_then y ms) h xs ys near o p like =
          refines-then cmp g.goes (Paired N) (OutputsRefine N) direction (node_run c x xs o) (node_run d y ys p)
          (λ us. nodes_run c ns xs (extended o (id_of x) us)) (λ us. nodes_run d ms ys (extended p (id_of y) us))
          (node-refines x y h.0 xs ys near o p like)
          (λ us vs near'. nodes-refines ns ms h.1 xs ys near (extended o (id_of x) us) (extended p (id_of y) vs) (extended-at x y h.0 o p like us vs near'))
      nodes-refines no_nodes (node_then y ms) h xs ys near o p like = absurd h
      nodes-refines (node_then x ns) no_nodes h xs ys near o p like = absurd h

      pub node-refines : (x y : NodeTree) → NodeSameBut P x y → (xs ys : List Datum) → Paired N xs ys → (o p : Outputs) → OutputsRefine N o p →
          Refines cmp direction (Paired N) (node_run c x xs o) (node_run d y ys p)
      node-refines (node id op inputs rs) (node id' op' inputs' rs') h xs ys near o p like =
          subst (λ z. Refines cmp direction (Paired N) (act c op (meanings c rs) (map (read xs o) inputs)) (act d z (meanings d rs') (map (read ys p) inputs'))) h.1
          (subst (λ is. Refines cmp direction (Paired N) (act c op (meanings c rs) (map (read xs o) inputs)) (act d op (meanings d rs') (map (read ys p) is))) h.2
          (act-refines c d a op (meanings c rs) (meanings d rs') (regions-refines rs rs' h.3) (map (read xs o) inputs) (map (read ys p) inputs) (reads-refines N k xs ys near o p like inputs)))

      pub regions-refines : (rs ss : RegionTrees) → RegionsSameBut P rs ss → MeaningsRefine (meanings c rs) (meanings d ss)
      regions-refines no_regions no_regions h = tt
      regions-refines (region_then r rs) (region_then s ss) h = (region-refines r s h.0, regions-refines rs ss h.1)
      regions-refines no_regions (region_then s ss) h = absurd h
      regions-refines (region_then r rs) no_regions h = absurd h
