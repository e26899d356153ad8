-- Exit variables of a Gamma go, and then entry variables.
use Rattle.std.proofs.Common.{Bool, List, [], map, length, refl, sym, ap, subst, append-nil, ◌∙◌}
use Rattle.val_core.specs.Answers.{Answer, Returned, Cut, Exited, Undefined, then_on}
use Rattle.val_core.specs.Events.{Event}
use Rattle.val_core.specs.Refinement.{Direction, Forward, Backward, Refines, no_deeper}
use Rattle.val_core.proofs.lemmas.Answers.{before-is}
use Rattle.g_graph.specs.declared.op.Op.TheVariants.{Gamma}
use Rattle.g_graph.specs.Plain.{region, node, node_then, RegionTrees, no_regions, region_then}
use Rattle.g_graph.specs.Replace.{nodes_redirected}
use Rattle.g_graph.specs.Splice.{joined_nodes}
use Rattle.g_graph.proofs.lemmas.Indexes.{same_number_true}
use Rattle.g_mean.specs.Meaning.{read, node_run}
use Rattle.g_mean.specs.LessDefined.{Paired, IsLessDefinedDatum}
use Rattle.g_mean.specs.Copies.{known_after, is_argument, AllClosed}
use Rattle.g_mean.specs.Replacement.{Replaces}
use Rattle.g_mean.proofs.lemmas.Inside.{node-here, regions-closed}
use Rattle.r_edit.specs.Places.{kept}
use Rattle.r_edit.specs.Exits.{regions_giving, node_giving, output_after}
use Rattle.r_edit.specs.Entries.{node_taking, nodes_taking}
use Rattle.r_edit.specs.Laws.{UnreadExitsAndEntriesGo}
use Rattle.r_edit.proofs.lemmas.Placed.{not_before}
use Rattle.r_edit.proofs.lemmas.Exits.{branched_gives, giving_joined, placed_replace}
use Rattle.r_edit.proofs.lemmas.Entries.{node_takes, taking_joined}
use Rattle.r_edit.proofs.lemmas.Variables.{kept_reads}

-- an answer whose results are changed by `f` refines where it refines but for `f`
returned_refines : {A B C : Type 0} (direction : Direction) (R : B → C → Type 0) (f : A → B) (x : A) (o : List Event) (b : Answer C) → Refines no_deeper direction R (Returned (f x) o) b →
    Refines no_deeper direction (λ u v. R (f u) v) (Returned x o) b
returned_refines direction R f x o (Returned y p) h = h
returned_refines Forward R f x o (Cut p) h = absurd h
returned_refines Backward R f x o (Cut p) h = h
returned_refines direction R f x o (Exited p s) h = absurd h
returned_refines direction R f x o (Undefined p) h = absurd h

mapped_refines : {A B C : Type 0} (direction : Direction) (R : B → C → Type 0) (f : A → B) (a : Answer A) (b : Answer C) → Refines no_deeper direction R (then_on a (λ x. Returned (f x) [])) b →
    Refines no_deeper direction (λ u v. R (f u) v) a b
mapped_refines direction R f (Returned x o) b h =
    returned_refines direction R f x o b (subst (λ c. Refines no_deeper direction R c b) (before-is o (Returned (f x) []) ∙ ap (Returned (f x)) (append-nil o)) h)
mapped_refines direction R f (Undefined o) b h = tt
mapped_refines Forward R f (Cut o) (Returned y p) h = h
mapped_refines Forward R f (Cut o) (Cut p) h = h
mapped_refines Forward R f (Cut o) (Exited p s) h = h
mapped_refines Forward R f (Cut o) (Undefined p) h = h
mapped_refines Backward R f (Cut o) (Returned y p) h = absurd h
mapped_refines Backward R f (Cut o) (Cut p) h = h
mapped_refines Backward R f (Cut o) (Exited p s) h = absurd h
mapped_refines Backward R f (Cut o) (Undefined p) h = absurd h
mapped_refines direction R f (Exited o s) (Returned y p) h = absurd h
mapped_refines Forward R f (Exited o s) (Cut p) h = absurd h
mapped_refines Backward R f (Exited o s) (Cut p) h = h
mapped_refines direction R f (Exited o s) (Exited p t) h = h
mapped_refines direction R f (Exited o s) (Undefined p) h = absurd h

-- regions that give less stay closed
giving_closed : (stays : List Bool) (rs : RegionTrees) → AllClosed rs → AllClosed (regions_giving stays rs)
giving_closed stays no_regions h = tt
giving_closed stays (region_then (region args nodes results) rs) h =
    ((h.0.0, kept_reads (is_argument (length args)) (known_after [] nodes) stays results h.0.1), giving_closed stays rs h.1)

pub unread_exits_and_entries_go : UnreadExitsAndEntriesGo
unread_exits_and_entries_go ls ks l args before id inputs rs after results exits entries part unread unused =
    let x = node id Gamma inputs rs in
    let here = node-here l args before x after results part in
    let follow = nodes_redirected (output_after id exits) after in
    let none = not_before (length l.objects) args before x after here in
    let first = giving_joined exits id before x after none (same_number_true id) in
    let second = taking_joined entries id before (node_giving exits x) follow none (same_number_true id) in
    let closed = giving_closed exits rs (regions-closed l args before id Gamma inputs rs after results part) in
    subst (λ ns. Replaces ls ks (region args (joined_nodes before (node_then x after)) results) (region args ns (map (output_after id exits) results)))
    (sym (ap (nodes_taking id entries) first ∙ second))
    (placed_replace exits l args before id inputs rs after results part unread (node_taking entries (node_giving exits x)) refl
    (λ direction c d context xs ys o q near like.
    mapped_refines direction (Paired IsLessDefinedDatum) (kept exits) (node_run c x xs o) (node_run d (node_taking entries (node_giving exits x)) ys q)
    (subst (λ a. Refines no_deeper direction (Paired IsLessDefinedDatum) a (node_run d (node_taking entries (node_giving exits x)) ys q)) (branched_gives exits c rs (map (read xs o) inputs))
    (node_takes entries direction c d context id inputs (regions_giving exits rs) closed unused xs ys o q near like))) ls ks)
