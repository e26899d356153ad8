-- A part in the place of a node that it refines as far as the node's outputs are read.
use Rattle.std.proofs.Common.{◌≡◌, ℕ, ◌⊎◌, Bool, true, false, List, [], ◌∷◌, ◌++◌, map, length, refl, sym, subst, subst₂, inl, inr}
use Rattle.std.proofs.lemmas.Bool.{or_parts}
use Rattle.val_core.specs.Answers.{Answer, Returned, Cut, Exited, Undefined, Gives}
use Rattle.val_core.specs.Refinement.{Direction, Refines, no_deeper}
use Rattle.val_core.proofs.lemmas.Refinement.{refines-then, refines-gives}
use Rattle.g_graph.specs.declared.op.Kind.{Kind}
use Rattle.g_graph.specs.declared.op.Origin.{Origin}
use Rattle.g_graph.specs.declared.op.Origin.TheVariants.{Arg, Out}
use Rattle.g_graph.specs.Plain.{region, NodeTree, node, NodeTrees, no_nodes, node_then}
use Rattle.g_graph.specs.Ids.{node_ids, nodes_ids}
use Rattle.g_graph.specs.WellFormed.{some_of, distinct}
use Rattle.g_graph.specs.Replace.{nodes_redirected}
use Rattle.g_graph.specs.Splice.{joined_nodes}
use Rattle.g_graph.proofs.lemmas.Splices.{nodes_ids-joined}
use Rattle.g_mean.specs.Data.{Datum}
use Rattle.g_mean.specs.Meaning.{Context, Outputs, no_outputs, read, region_meaning, nodes_run}
use Rattle.g_mean.specs.LessDefined.{Paired, IsLessDefinedDatum}
use Rattle.g_mean.specs.Refining.{MeaningRefines, ContextRefines}
use Rattle.g_mean.specs.Copies.{IsAmong, IsRead, AreRead, NodesRead, known_after, is_argument}
use Rattle.g_mean.specs.Moves.{ReadLessDefined}
use Rattle.g_mean.specs.Holds.{HaveRun}
use Rattle.g_mean.proofs.lemmas.Kept.{OutputsRefine}
use Rattle.g_mean.proofs.lemmas.Regions.{nodes-refines}
use Rattle.g_mean.proofs.lemmas.Equal.{no_deeper-compares}
use Rattle.g_mean.proofs.lemmas.LessDefined.{less-kept}
use Rattle.g_mean.proofs.lemmas.Calls.{nodes-itself}
use Rattle.g_mean.proofs.lemmas.Bounds.{Never, Always, never-refines}
use Rattle.g_mean.proofs.lemmas.Copies.{among-split, redirected-moved}
use Rattle.g_mean.proofs.lemmas.Moves.{reads-less, moved_nodes_refine}
use Rattle.g_mean.proofs.lemmas.Edits.{distinct-split}
use Rattle.g_mean.proofs.lemmas.Holds.{holds-from}
use Rattle.g_mean.proofs.lemmas.Splices.{joined-run, joined-read}
use Rattle.r_edit.specs.Uses.{nodes_read}
use Rattle.r_edit.specs.Parts.{CanPlace, PlacedPartsRefine}

module _ (direction : Direction) (c d : Context) (context : ContextRefines no_deeper direction IsLessDefinedDatum c d) (args : List Kind) (before : NodeTrees) (x : NodeTree) (after : NodeTrees)
    (results : List Origin) (part : NodeTrees) (S : Origin → Bool) (move : Origin → Origin) (can : CanPlace args before x after results S move)
    (part_refines : (xs ys : List Datum) (o q : Outputs) → Paired IsLessDefinedDatum xs ys → OutputsRefine IsLessDefinedDatum o q → HaveRun c xs o before →
    Refines no_deeper direction (ReadLessDefined S [] move xs ys) (nodes_run c (node_then x no_nodes) xs o) (nodes_run d part ys q)) where
  abbrev LaterLess : List Datum → List Datum → Outputs → Outputs → Type 0
  LaterLess xs ys = ReadLessDefined S (known_after [] after) move xs ys

  abbrev follow : NodeTrees
  follow = nodes_redirected move after

  before_run : (xs : List Datum) (a : Answer Outputs) → nodes_run c before xs no_outputs ≡ a → Gives (λ o. HaveRun c xs o before) a
  before_run xs (Returned o did) e =
      holds-from (length args) c before [] xs no_outputs o did (joined-read (is_argument (length args)) [] before (node_then x after) can.closed.0).0 (λ n h k. h)
      (distinct-split (nodes_ids before) (node_ids x ++ nodes_ids after) (subst (λ zs. distinct zs ≡ true) (nodes_ids-joined before (node_then x after)) can.unique)).0 e
  before_run xs (Cut o) e = tt
  before_run xs (Exited o s) e = tt
  before_run xs (Undefined o) e = tt

  -- the node and what follows it
  later_refines : (xs ys : List Datum) → Paired IsLessDefinedDatum xs ys → (o q : Outputs) → OutputsRefine IsLessDefinedDatum o q → HaveRun c xs o before →
      Refines no_deeper direction (LaterLess xs ys) (nodes_run c (node_then x after) xs o) (nodes_run d (joined_nodes part follow) ys q)
  later_refines xs ys near o q like have =
      subst₂ (λ a b. Refines no_deeper direction (LaterLess xs ys) a b) (sym (joined-run c (node_then x no_nodes) after xs o)) (sym (joined-run d part follow ys q))
      (refines-then no_deeper no_deeper-compares.goes (ReadLessDefined S [] move xs ys) (LaterLess xs ys) direction (nodes_run c (node_then x no_nodes) xs o) (nodes_run d part ys q)
      (nodes_run c after xs) (nodes_run d follow ys) (part_refines xs ys o q near like have)
      (λ o' q' h. subst (λ ns. Refines no_deeper direction (LaterLess xs ys) (nodes_run c after xs o') (nodes_run d ns ys q')) (redirected-moved move after)
      (moved_nodes_refine direction c d context S move (λ n. n) after can.moves can.reads xs ys o' q' h)))

  all_refine : (xs ys : List Datum) → Paired IsLessDefinedDatum xs ys → Refines no_deeper direction (LaterLess xs ys)
      (nodes_run c (joined_nodes before (node_then x after)) xs no_outputs) (nodes_run d (joined_nodes before (joined_nodes part follow)) ys no_outputs)
  all_refine xs ys near =
      subst₂ (λ a b. Refines no_deeper direction (LaterLess xs ys) a b) (sym (joined-run c before (node_then x after) xs no_outputs))
      (sym (joined-run d before (joined_nodes part follow) ys no_outputs))
      (refines-then no_deeper no_deeper-compares.goes (λ o q. HaveRun c xs o before × OutputsRefine IsLessDefinedDatum o q) (LaterLess xs ys) direction
      (nodes_run c before xs no_outputs) (nodes_run d before ys no_outputs) (nodes_run c (node_then x after) xs) (nodes_run d (joined_nodes part follow) ys)
      (refines-gives no_deeper direction (λ o. HaveRun c xs o before) (OutputsRefine IsLessDefinedDatum) (nodes_run c before xs no_outputs) (nodes_run d before ys no_outputs)
      (before_run xs (nodes_run c before xs no_outputs) refl)
      (nodes-refines no_deeper no_deeper-compares direction IsLessDefinedDatum less-kept Never Always
      (never-refines no_deeper no_deeper-compares direction IsLessDefinedDatum less-kept) c d context tt before before (nodes-itself Never before) xs ys near no_outputs no_outputs
      (λ n p. less-kept.nothing)))
      (λ o q h. later_refines xs ys near o q h.1 h.0))

  placed_refines : MeaningRefines no_deeper direction IsLessDefinedDatum (region_meaning c (region args (joined_nodes before (node_then x after)) results))
      (region_meaning d (region args (joined_nodes before (joined_nodes part follow)) (map move results)))
  placed_refines =
      record {
        on = λ xs ys near.
            refines-then no_deeper no_deeper-compares.goes (LaterLess xs ys) (Paired IsLessDefinedDatum) direction
            (nodes_run c (joined_nodes before (node_then x after)) xs no_outputs) (nodes_run d (joined_nodes before (joined_nodes part follow)) ys no_outputs)
            (λ o. Returned (map (read xs o) results) []) (λ q. Returned (map (read ys q) (map move results)) [])
            (all_refine xs ys near)
            (λ o q h. (reads-less direction c d context S move (λ n. n) (nodes_ids after) can.moves xs ys (known_after [] after) o q h results can.gives, no_deeper-compares.goes.nothing));
      }

pub placed_parts_refine : PlacedPartsRefine
placed_parts_refine direction c d context args before x after results part S move can part_refines =
    placed_refines direction c d context args before x after results part S move can part_refines

-- ---- what is read where some origins are not

module _ (count : ℕ) (S gone : Origin → Bool) (extra : List ℕ) (arguments : (k : ℕ) → gone (Arg k) ≡ false → S (Arg k) ≡ true)
    (outputs : (n p : ℕ) → IsAmong n extra → gone (Out n p) ≡ false → S (Out n p) ≡ true) where
  one_unread : (known : List ℕ) (a : Origin) → IsRead (is_argument count) (known ++ extra) a → gone a ≡ false → IsRead S known a
  one_unread known (Arg k) h e = inl (arguments k e)
  one_unread known (Out n p) (inl t) e = absurd cc
  one_unread known (Out n p) (inr m) e = by (among-split n known extra m)
    where
      by : IsAmong n known ⊎ IsAmong n extra → IsRead S known (Out n p)
      by (inl j) = inr j
      by (inr j) = inl (outputs n p j e)

  pub all_unread : (known : List ℕ) (origins : List Origin) → AreRead (is_argument count) (known ++ extra) origins → some_of gone origins ≡ false → AreRead S known origins
  all_unread known [] h e = tt
  all_unread known (a ∷ origins) h e =
      let both = or_parts (gone a) (some_of gone origins) e in
      (one_unread known a h.0 both.0, all_unread known origins h.1 both.1)

  pub nodes_unread : (known : List ℕ) (ns : NodeTrees) → NodesRead (is_argument count) (known ++ extra) ns → nodes_read gone ns ≡ false → NodesRead S known ns
  nodes_unread known no_nodes h e = tt
  nodes_unread known (node_then (node id op inputs rs) ns) h e =
      let both = or_parts (some_of gone inputs) (nodes_read gone ns) e in
      ((all_unread known inputs h.0.0 both.0, h.0.1), nodes_unread (id ∷ known) ns h.1 both.1)
