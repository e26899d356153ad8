-- Moved nodes, and loops with other variables.
use Rattle.std.proofs.Common.{◌≡◌, ℕ, zero, suc, ◌==◌, Bool, true, cond, List, [], ◌∷◌, ◌++◌, map, refl, sym, subst, inl, inr}
use Rattle.val_core.specs.declared.values.Value.{Value}
use Rattle.val_core.specs.declared.values.Value.TheVariants.{Num, At, Bad}
use Rattle.val_core.specs.Answers.{Answer, Returned, on_number}
use Rattle.val_core.specs.Refinement.{Direction, Refines, no_deeper}
use Rattle.val_core.proofs.lemmas.Refinement.{refines-then}
use Rattle.g_graph.specs.declared.op.Op.{Op}
use Rattle.g_graph.specs.declared.op.Op.TheVariants.{Const, Undef, Local, Delta, Bin, Un, Load, Store, Clear, PtrEq, Apply, Put, Exit, Get, Gamma, Theta}
use Rattle.g_graph.specs.declared.op.Origin.{Origin}
use Rattle.g_graph.specs.Plain.{node, NodeTrees, no_nodes, node_then}
use Rattle.g_graph.specs.Ids.{nodes_ids, regions_ids}
use Rattle.g_graph.specs.Signatures.{is_pure}
use Rattle.g_mean.specs.Data.{Datum, value_of}
use Rattle.g_mean.specs.Meaning.{Meaning, Context, act, again, turns, Outputs, no_outputs, extended, read, nodes_run, meanings}
use Rattle.g_mean.specs.LessDefined.{Paired, IsLessDefinedDatum}
use Rattle.g_mean.specs.Refining.{ContextRefines}
use Rattle.g_mean.specs.Copies.{IsAmong, AreRead, known_after, NodesRead, CanMove, nodes_moved, regions_copied}
use Rattle.g_mean.specs.Moves.{GivesTheSame, PureNodesGiveTheSame, ReadLessDefined, MovedNodesRefine, MovedRegionsRefine, IsTurned, LoopsRefine}
use Rattle.g_mean.proofs.lemmas.Kept.{paired-at}
use Rattle.g_mean.proofs.lemmas.Regions.{pick, both-cut, less-cut, far-cut, order-below, act-refines, regions-refines}
use Rattle.g_mean.proofs.lemmas.Equal.{no_deeper-compares}
use Rattle.g_mean.proofs.lemmas.LessDefined.{less-kept}
use Rattle.g_mean.proofs.lemmas.Calls.{regions-itself}
use Rattle.g_mean.proofs.lemmas.Bounds.{Never, Always, never-refines}
use Rattle.g_mean.proofs.lemmas.Copies.{among-left, among-right, among-more, fewer, read-more, regions-same}

-- ---- pure nodes

pure-same : (op : Op) → is_pure op ≡ true → (c : Context) (ms ms' : List Meaning) (us : List Datum) → GivesTheSame (act c op ms us) (act c op ms' us)
pure-same (Const w) e c ms ms' us = record { value = _; first = refl; second = refl }
pure-same Undef e c ms ms' us = record { value = _; first = refl; second = refl }
pure-same (Local k) e c ms ms' us = record { value = _; first = refl; second = refl }
pure-same (Delta k) e c ms ms' us = record { value = _; first = refl; second = refl }
pure-same (Bin op) e c ms ms' us = record { value = _; first = refl; second = refl }
pure-same (Un op) e c ms ms' us = record { value = _; first = refl; second = refl }
pure-same (Load w) e c ms ms' us = absurd cc
pure-same (Store w) e c ms ms' us = absurd cc
pure-same (Clear k) e c ms ms' us = absurd cc
pure-same PtrEq e c ms ms' us = absurd cc
pure-same (Apply f) e c ms ms' us = absurd cc
pure-same Put e c ms ms' us = absurd cc
pure-same Exit e c ms ms' us = absurd cc
pure-same Get e c ms ms' us = absurd cc
pure-same Gamma e c ms ms' us = absurd cc
pure-same Theta e c ms ms' us = absurd cc

pub pure_nodes_give_the_same : PureNodesGiveTheSame
pure_nodes_give_the_same op pure c id id' inputs inputs' rs rs' xs ys o q e =
    subst (λ us. GivesTheSame (act c op (meanings c rs) (map (read xs o) inputs)) (act c op (meanings c rs') us)) e
    (pure-same op pure c (meanings c rs) (meanings c rs') (map (read xs o) inputs))

-- ---- moved nodes

module _ (direction : Direction) (c d : Context) (a : ContextRefines no_deeper direction IsLessDefinedDatum c d) (S : Origin → Bool) (move : Origin → Origin) (to : ℕ → ℕ) (all : List ℕ)
    (can : CanMove S move to all) (xs ys : List Datum) where
  pub reads-less : (known : List ℕ) (o q : Outputs) → ReadLessDefined S known move xs ys o q → (origins : List Origin) → AreRead S known origins →
      Paired IsLessDefinedDatum (map (read xs o) origins) (map (read ys q) (map move origins))
  reads-less known o q near [] h = tt
  reads-less known o q near (b ∷ origins) h = (near b h.0, reads-less known o q near origins h.1)

  moved-refines : (ns : NodeTrees) (known : List ℕ) → ((n : ℕ) → IsAmong n known → IsAmong n all) → ((n : ℕ) → IsAmong n (nodes_ids ns) → IsAmong n all) → NodesRead S known ns → (o q : Outputs) →
      ReadLessDefined S known move xs ys o q → Refines no_deeper direction (ReadLessDefined S (known_after known ns) move xs ys) (nodes_run c ns xs o) (nodes_run d (nodes_moved move to ns) ys q)
  moved-refines no_nodes known within rest read o q near = (near, no_deeper-compares.goes.nothing)
  moved-refines (node_then (node id op inputs rs) ns) known within rest reads o q near =
      let here : IsAmong id ((id ∷ regions_ids rs) ++ nodes_ids ns) = inl refl in
      let first = rest id here in
      let one = fewer to (regions_ids rs) all (λ n h. rest n (among-left n (id ∷ regions_ids rs) (nodes_ids ns) (inr h))) can.one in
      let copies = regions-same to rs reads.0.1 one d in
      let alike = regions-refines no_deeper no_deeper-compares direction IsLessDefinedDatum less-kept Never Always
      (never-refines no_deeper no_deeper-compares direction IsLessDefinedDatum less-kept) c d a tt rs rs (regions-itself Never rs) in
      refines-then no_deeper no_deeper-compares.goes (Paired IsLessDefinedDatum) (ReadLessDefined S (known_after (id ∷ known) ns) move xs ys) direction
      (act c op (meanings c rs) (map (read xs o) inputs)) (act d op (meanings d (regions_copied to rs)) (map (read ys q) (map move inputs)))
      (λ us. nodes_run c ns xs (extended o id us)) (λ us. nodes_run d (nodes_moved move to ns) ys (extended q (to id) us))
      (subst (λ ms. Refines no_deeper direction (Paired IsLessDefinedDatum) (act c op (meanings c rs) (map (read xs o) inputs)) (act d op ms (map (read ys q) (map move inputs)))) copies
      (act-refines no_deeper no_deeper-compares direction IsLessDefinedDatum less-kept c d a op (meanings c rs) (meanings d rs) alike (map (read xs o) inputs) (map (read ys q) (map move inputs))
      (reads-less known o q near inputs reads.0.0)))
      (λ us vs pairs. moved-refines ns (id ∷ known) (among-more all id known first within) (λ n h. rest n (among-right n (id ∷ regions_ids rs) (nodes_ids ns) h)) reads.1 (extended o id us)
      (extended q (to id) vs) (read-more IsLessDefinedDatum S move to all can xs ys known within id first o q near us vs (λ p. paired-at IsLessDefinedDatum less-kept us vs pairs p)))

pub moved_nodes_refine : MovedNodesRefine
moved_nodes_refine direction c d a S move to ns can reads xs ys o q near =
    moved-refines direction c d a S move to (nodes_ids ns) can xs ys ns [] (λ n h. absurd h) (λ n h. h) reads o q near

pub moved_regions_refine : MovedRegionsRefine
moved_regions_refine direction c d a S move to args args' ns results can reads gives xs ys near =
    refines-then no_deeper no_deeper-compares.goes (ReadLessDefined S (known_after [] ns) move xs ys) (Paired IsLessDefinedDatum) direction
    (nodes_run c ns xs no_outputs) (nodes_run d (nodes_moved move to ns) ys no_outputs)
    (λ o. Returned (map (read xs o) results) []) (λ q. Returned (map (read ys q) (map move results)) [])
    (moved_nodes_refine direction c d a S move to ns can reads xs ys no_outputs no_outputs near)
    (λ o q h. (reads-less direction c d a S move to (nodes_ids ns) can xs ys (known_after [] ns) o q h results gives, no_deeper-compares.goes.nothing))

-- ---- loops

number-refines : (direction : Direction) (R : List Datum → List Datum → Type 0) (u v : Value) → ((w : ℕ) → u ≡ Num w → v ≡ Num w) → (f h : ℕ → Answer (List Datum)) →
    ((w : ℕ) → Refines no_deeper direction R (f w) (h w)) → Refines no_deeper direction R (on_number u f) (on_number v h)
number-refines direction R (Num w) v e f h like = subst (λ u. Refines no_deeper direction R (f w) (on_number u h)) (sym (e w refl)) (like w)
number-refines direction R (At b o) v e f h like = tt
number-refines direction R Bad v e f h like = tt

again-turned : (direction : Direction) (R : List Datum → List Datum → Type 0) (next next' : Meaning) → ((xs ys : List Datum) → R xs ys → Refines no_deeper direction R (next xs) (next' ys)) →
    (xs ys : List Datum) → IsTurned R xs ys → Refines no_deeper direction R (again next xs) (again next' ys)
again-turned direction R next next' h [] ys near = tt
again-turned direction R next next' h (p ∷ xs) (q ∷ ys) near =
    number-refines direction R (value_of p) (value_of q) near.0 (λ w. cond (w == 0) (Returned xs []) (next xs)) (λ w. cond (w == 0) (Returned ys []) (next' ys))
    (λ w. pick (λ x y. Refines no_deeper direction R x y) (w == 0) (Returned xs []) (Returned ys []) (next xs) (next' ys) (near.1, no_deeper-compares.goes.nothing) (h xs ys near.1))
again-turned direction R next next' h (p ∷ xs) [] near = absurd near

pub loops_refine : (R : List Datum → List Datum → Type 0) → LoopsRefine R
loops_refine R direction zero zero order body body' h xs ys near = both-cut no_deeper no_deeper-compares direction R
loops_refine R direction zero (suc m) order body body' h xs ys near =
    less-cut no_deeper no_deeper-compares direction R m order (turns (suc m) body' ys)
loops_refine R direction (suc n) zero order body body' h xs ys near =
    far-cut no_deeper no_deeper-compares direction R n order (turns (suc n) body xs)
loops_refine R direction (suc n) (suc m) order body body' h xs ys near =
    refines-then no_deeper no_deeper-compares.goes (IsTurned R) R direction (body xs) (body' ys) (again (turns n body)) (again (turns m body')) (h xs ys near)
    (λ us vs near'. again-turned direction R (turns n body) (turns m body') (λ ws zs k. loops_refine R direction n m (order-below direction n m order) body body' h ws zs k) us vs near')
