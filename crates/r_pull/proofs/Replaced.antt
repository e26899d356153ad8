-- The changed region means what the region meant, and fits.
use Rattle.std.proofs.Common.{◌≡◌, ◌≤◌, ◌<◌, ℕ, Bool, true, false, List, [], ◌∷◌, ◌++◌, map, length, Some, refl, sym, ap, subst, ◌∙◌, arith}
use Rattle.std.proofs.Math.Path.{fun_ext}
use Rattle.std.proofs.lemmas.Bool.{false_from_ne_true}
use Rattle.val_core.specs.Answers.{Returned, then_on}
use Rattle.val_core.proofs.lemmas.Answers.{then_on_given}
use Rattle.g_graph.specs.declared.op.Kind.{Kind}
use Rattle.g_graph.specs.declared.op.Kind.TheVariants.{Value}
use Rattle.g_graph.specs.declared.op.Op.{Op}
use Rattle.g_graph.specs.declared.op.Op.TheVariants.{Gamma}
use Rattle.g_graph.specs.declared.op.Origin.{Origin}
use Rattle.g_graph.specs.declared.op.Origin.TheVariants.{Out}
use Rattle.g_graph.specs.Plain.{RegionTree, region, NodeTree, node, NodeTrees, node_then, RegionTrees, no_regions}
use Rattle.g_graph.specs.Ids.{node_ids, nodes_ids, regions_ids}
use Rattle.g_graph.specs.Signatures.{is_pure, first_args, output_kinds}
use Rattle.g_graph.specs.Scope.{known}
use Rattle.g_graph.specs.WellFormed.{kinds_of, distinct}
use Rattle.g_graph.specs.Change.{has_node}
use Rattle.g_graph.specs.Splice.{joined_nodes}
use Rattle.g_graph.proofs.lemmas.Nodes.{NodeFits, are_kinds, has_times, own_times}
use Rattle.g_graph.proofs.lemmas.Splices.{nodes_ids-joined}
use Rattle.g_graph.proofs.lemmas.Unique.{times, times_append}
use Rattle.g_mean.specs.Data.{Datum, val, at_port}
use Rattle.g_mean.specs.Meaning.{Context, act, Outputs, no_outputs, extended, read, region_meaning, node_run, nodes_run}
use Rattle.g_mean.specs.Copies.{IsAmong, is_argument, NodesRead, AllClosed, IsClosed}
use Rattle.g_mean.specs.Holds.{HasRun, HaveRun}
use Rattle.g_mean.specs.Moves.{GivesTheSame}
use Rattle.g_mean.proofs.lemmas.Edits.{distinct-split}
use Rattle.g_mean.proofs.lemmas.Holds.{holds-from}
use Rattle.g_mean.proofs.lemmas.Inside.{as-many}
use Rattle.g_mean.proofs.lemmas.Moves.{pure_nodes_give_the_same}
use Rattle.g_mean.proofs.lemmas.Splices.{joined-run, joined-read}
use Rattle.r_edit.specs.Places.{stays_at, kept}
use Rattle.r_edit.specs.Entries.{some_reads, regions_taking}
use Rattle.r_edit.proofs.lemmas.Invariant.{given_is}
use Rattle.r_edit.proofs.lemmas.Meant.{has-run}
use Rattle.r_edit.proofs.lemmas.Pure.{pure-outputs}
use Rattle.r_pull.specs.Rule.{other_entries, regions_filled}
use Rattle.r_pull.proofs.Carried.{FirstOutputs, late-stays, gone-port}
use Rattle.r_pull.proofs.Means.{gamma-means}
use Rattle.r_pull.proofs.PulledFit.{first-output, first-outputs}

-- ---- the Gamma, where the node stands before it

module _ (objects : ℕ) (args : List Kind) (front : NodeTrees) (n : ℕ) (op : Op) (inputs : List Origin) (middle : NodeTrees) (gamma : ℕ) (p : Origin) (entries : List Origin) (rs : RegionTrees)
    (after : NodeTrees) (results : List Origin) (pure : is_pure op ≡ true) where
  abbrev x : NodeTree
  x = node n op inputs no_regions

  abbrev before : NodeTrees
  before = joined_nodes front (node_then x middle)

  abbrev g : NodeTree
  g = node gamma Gamma (p ∷ entries) rs

  abbrev whole : RegionTree
  whole = region args (joined_nodes before (node_then g after)) results

  abbrev stays : List Bool
  stays = other_entries n entries

  value : output_kinds x ≡ Some Value ∷ []
  value = pure-outputs op pure no_regions

  module _ (here : NodeFits objects args before g after) where
    none-in-middle : has_node n middle ≡ false
    none-in-middle =
        false_from_ne_true (has_node n middle)
        (λ t.
        omega (
          arith,
          here.once n,
          has_times n middle t,
          ap (times n) (nodes_ids-joined front (node_then x middle)),
          times_append n (nodes_ids front) (node_ids x ++ nodes_ids middle),
          times_append n (node_ids x) (nodes_ids middle),
          own,
        ))
      where
        own : 1 ≤ times n (node_ids x)
        own = own_times x

    pub own-kind : (q : ℕ) (k : Kind) → known args before (Out n q) ≡ Some k → (q ≡ 0) × (k ≡ Value)
    own-kind q k e = first-output args front x middle value none-in-middle q k e

    inputs_are : map (known args before) (p ∷ entries) ≡ map Some (Value ∷ first_args rs)
    inputs_are = are_kinds (map (known args before) (p ∷ entries)) (Value ∷ first_args rs) here.inputs

    pub entries_are : map (known args before) entries ≡ map Some (first_args rs)
    entries_are = tail-same (known args before p) (Some Value) (map (known args before) entries) (map Some (first_args rs)) inputs_are
      where
        tail-same : {X : Type 0} (a b : X) (xs ys : List X) → a ∷ xs ≡ b ∷ ys → xs ≡ ys
        tail-same a b xs ys e = cc

    first : FirstOutputs n entries
    first = first-outputs n (known args before) own-kind entries (first_args rs) entries_are

    many : length entries ≡ length (first_args rs)
    many = let all = as-many (known args before) (p ∷ entries) (Value ∷ first_args rs) here.inputs in omega (arith, all)

    module _ (next : ℕ) (carried : List Origin) (whole-carried : some_reads stays rs ≡ true → carried ≡ inputs) (closed : AllClosed rs)
        (fresh : (m : ℕ) → next ≤ m → IsAmong m (regions_ids rs) → ⊥) where
      -- with copies and without the entries that go
      abbrev y : NodeTree
      y = node gamma Gamma (kept (true ∷ stays) ((p ∷ entries) ++ carried)) (regions_taking stays (regions_filled stays next (length entries) op carried rs))

      node-same : (c : Context) (xs : List Datum) (o : Outputs) → HaveRun c xs o before → node_run c y xs o ≡ node_run c g xs o
      node-same c xs o have =
          gamma-means c stays op carried next gamma p entries rs xs o given.value (late-stays n entries) (first_args rs) (kinds_of (output_kinds g)) many closed here.regions fresh carries copy-runs
        where
          given : GivesTheSame (node_run c x xs o) (node_run c x xs o)
          given = pure_nodes_give_the_same op pure c n n inputs inputs no_regions no_regions xs xs o o refl

          ran : HasRun c xs o x
          ran = has-run c xs o front x middle have

          carried-is : o n 0 ≡ val given.value
          carried-is = ran.outputs 0 ∙ ap (λ us. at_port us 0) (given_is ran.results (val given.value ∷ []) ran.did [] (sym ran.run ∙ given.first))

          carries : (k : ℕ) → k < length entries → stays_at stays k ≡ false → at_port (map (read xs o) entries) k ≡ val given.value
          carries k b t = gone-port n (read xs o) (val given.value) carried-is entries first k b t

          copy-runs : some_reads stays rs ≡ true → act c op [] (map (read xs o) carried) ≡ Returned (val given.value ∷ []) []
          copy-runs e = ap (λ is. act c op [] (map (read xs o) is)) (whole-carried e) ∙ given.first

      pub region-same : IsClosed whole → distinct (nodes_ids (joined_nodes before (node_then g after))) ≡ true → (c : Context) →
          region_meaning c (region args (joined_nodes before (node_then y after)) results) ≡ region_meaning c whole
      region-same all unique c = fun_ext (λ xs. ap (λ a. then_on a (λ o. Returned (map (read xs o) results) [])) (runs-same xs))
        where
          reads : NodesRead (is_argument (length args)) [] before
          reads = (joined-read (is_argument (length args)) [] before (node_then g after) all.0).0

          earlier : distinct (nodes_ids before) ≡ true
          earlier =
              (distinct-split (nodes_ids before) (node_ids g ++ nodes_ids after) (subst (λ zs. distinct zs ≡ true) (nodes_ids-joined before (node_then g after)) unique)).0

          runs-same : (xs : List Datum) → nodes_run c (joined_nodes before (node_then y after)) xs no_outputs ≡ nodes_run c (joined_nodes before (node_then g after)) xs no_outputs
          runs-same xs =
              joined-run c before (node_then y after) xs no_outputs
              ∙ then_on_given (nodes_run c before xs no_outputs) (nodes_run c (node_then y after) xs) (nodes_run c (node_then g after) xs)
              (λ o did e. ap (λ a. then_on a (λ us. nodes_run c after xs (extended o gamma us)))
              (node-same c xs o (holds-from (length args) c before [] xs no_outputs o did reads (λ m h k. h) earlier e)))
              ∙ sym (joined-run c before (node_then g after) xs no_outputs)
