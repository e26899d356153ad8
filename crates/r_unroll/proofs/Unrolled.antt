-- What an unrolled region does.
use Rattle.std.specs.Prelude.{◌+◌, ◌==◌}
use Rattle.std.proofs.Common.{◌≡◌, ℕ, suc, Bool, true, false, cond, List, [], ◌∷◌, map, length, refl, sym, ap, subst, ◌∙◌, arith}
use Rattle.std.proofs.Math.Path.{fun_ext}
use Rattle.std.proofs.lemmas.List.{length-map}
use Rattle.val_core.specs.declared.values.Value.TheVariants.{Num}
use Rattle.val_core.specs.Answers.{Answer, Returned, then_on, on_number, Gives}
use Rattle.val_core.proofs.lemmas.Answers.{then_associates, then_nothing, then_on_given}
use Rattle.g_graph.specs.declared.op.Kind.{Kind}
use Rattle.g_graph.specs.declared.op.Op.TheVariants.{Gamma}
use Rattle.g_graph.specs.declared.op.Origin.{Origin}
use Rattle.g_graph.specs.declared.op.Origin.TheVariants.{Arg, Out}
use Rattle.g_graph.specs.Plain.{RegionTree, region, NodeTree, node, NodeTrees, no_nodes, node_then, no_regions, region_then}
use Rattle.g_mean.specs.Data.{Datum, val}
use Rattle.g_mean.specs.Meaning.{Meaning, Context, chosen, branched, Outputs, no_outputs, extended, read, region_meaning, nodes_run}
use Rattle.g_mean.proofs.lemmas.Copies.{extended-same}
use Rattle.g_mean.proofs.lemmas.Splices.{joined-run}
use Rattle.r_edit.specs.Origins.{origins_from}
use Rattle.r_edit.proofs.lemmas.Consecutive.{all-from}
use Rattle.r_edit.proofs.lemmas.Loops.{then-number, at-port, gives-results, chosen-two}
use Rattle.r_edit.specs.Numbering.{region_numbered}
use Rattle.r_edit.proofs.lemmas.Copies.{numbered_copies_mean_the_same}
use Rattle.r_unroll.specs.Rule.{stopping, unrolled}
use Rattle.r_unroll.specs.Laws.{second_turn, IsLoopRegion, UnrolledRegionsTakeTwoTurns}

-- ---- the region that stops

stops : (c : Context) (id : ℕ) (args : List Kind) (ys : List Datum) → length ys ≡ length args → region_meaning c (stopping id args) ys ≡ Returned (val (Num 0) ∷ ys) []
stops c id args ys e =
    let q = extended no_outputs id (val (Num 0) ∷ []) in
    λ i. Returned (extended-same no_outputs id (val (Num 0) ∷ []) id 0 refl i
    ∷ (ap (λ count. map (read ys q) (origins_from Arg 0 count)) (sym e) ∙ all-from (read ys q) Arg ys (at-port ys)) i) []

-- ---- the Gamma

module _ (c : Context) (next : ℕ) (xs : List Datum) (count : ℕ) where
  -- what the region gives once the Gamma has given this
  abbrev after_choice : Outputs → List Datum → Answer (List Datum)
  after_choice o ys = then_on (Returned (extended o next ys) []) (λ q. Returned (map (read xs q) (origins_from (Out next) 0 count)) [])

  choice-given : (o : Outputs) (ys : List Datum) → length ys ≡ count → after_choice o ys ≡ Returned ys []
  choice-given o ys e =
      ap (λ n. Returned (map (read xs (extended o next ys)) (origins_from (Out next) 0 n)) []) (sym e)
      ∙ ap (λ zs. Returned zs []) (all-from (read xs (extended o next ys)) (Out next) ys (λ k y d. extended-same o next ys next k refl ∙ at-port ys k y d))

  choice-nothing : (o : Outputs) (a : Answer (List Datum)) → Gives (λ ys. length ys ≡ count) a → then_on a (after_choice o) ≡ a
  choice-nothing o a h =
      then_on_given a (after_choice o) (λ ys. Returned ys []) (λ ys did e. choice-given o ys (subst (Gives (λ zs. length zs ≡ count)) e h)) ∙ then_nothing a

module _ (c : Context) (next : ℕ) (args : List Kind) (nodes : NodeTrees) (results : List Origin) (loop : IsLoopRegion (region args nodes results)) (xs : List Datum) where
  abbrev body : RegionTree
  body = region args nodes results

  abbrev once : Meaning
  once = region_meaning c body

  abbrev choices : List Meaning
  choices = region_meaning c (stopping (suc next) args) ∷ region_meaning c (region_numbered (next + 2) body) ∷ []

  choice : (o : Outputs) (us : List Datum) → length us ≡ length results → then_on (branched choices us) (after_choice c next xs (length results) o) ≡ second_turn once us
  choice o [] e = absurd (omega (arith, e, loop.results))
  choice o (p ∷ ys) e =
      then-number _ (λ w. chosen w choices ys) (after_choice c next xs (length results) o) ∙ ap (on_number _) (fun_ext (λ w. each w))
    where
      stop-count : length ys ≡ length args
      stop-count = omega (arith, e, loop.results)

      each : (w : ℕ) → then_on (chosen w choices ys) (after_choice c next xs (length results) o) ≡ cond (w == 0) (Returned (val (Num 0) ∷ ys) []) (once ys)
      each w =
          ap (λ a. then_on a (after_choice c next xs (length results) o))
          (chosen-two w (region_meaning c (stopping (suc next) args)) (region_meaning c (region_numbered (next + 2) body)) ys
          ∙ (λ i. cond (w == 0) (stops c (suc next) args ys stop-count i) (numbered_copies_mean_the_same (next + 2) body loop.closed c i ys)))
          ∙ choice-nothing c next xs (length results) o (cond (w == 0) (Returned (val (Num 0) ∷ ys) []) (once ys)) (by (w == 0))
        where
          by : (t : Bool) → Gives (λ zs. length zs ≡ length results) (cond t (Returned (val (Num 0) ∷ ys) []) (once ys))
          by true = e
          by false = gives-results c args nodes results ys

  abbrev last : NodeTree
  last = node next Gamma results (region_then (stopping (suc next) args) (region_then (region_numbered (next + 2) body) no_regions))

  abbrev given : Outputs → Answer (List Datum)
  given q = Returned (map (read xs q) (origins_from (Out next) 0 (length results))) []

  two-turns : region_meaning c (unrolled next body) xs ≡ then_on (once xs) (second_turn once)
  two-turns =
      ap (λ a. then_on a given) (joined-run c nodes (node_then last no_nodes) xs no_outputs)
      ∙ then_associates (nodes_run c nodes xs no_outputs) (nodes_run c (node_then last no_nodes) xs) given
      ∙ ap (then_on (nodes_run c nodes xs no_outputs)) (fun_ext (λ o. then_associates (branched choices (map (read xs o) results)) (λ ys. Returned (extended o next ys) []) given
      ∙ choice o (map (read xs o) results) (length-map results (read xs o))))
      ∙ sym (then_associates (nodes_run c nodes xs no_outputs) (λ o. Returned (map (read xs o) results) []) (second_turn once))

pub unrolled_regions_take_two_turns : UnrolledRegionsTakeTwoTurns
unrolled_regions_take_two_turns next (region args nodes results) loop c xs = two-turns c next args nodes results loop xs
