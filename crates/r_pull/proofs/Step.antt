-- The rule is a step.
use Rattle.std.specs.Prelude.{unwrap_or}
use Rattle.std.proofs.Common.{◌≡◌, ◌+◌, ℕ, ◌⊎◌, true, ◌&&◌, List, [], ◌∷◌, length, Option, None, Some, refl, sym, ap, subst, ◌∙◌, inl, inr, arith}
use Rattle.std.proofs.lemmas.Bool.{and_parts}
use Rattle.g_graph.specs.declared.op.Kind.{Kind}
use Rattle.g_graph.specs.declared.op.Op.{Op}
use Rattle.g_graph.specs.declared.op.Op.TheVariants.{Gamma}
use Rattle.g_graph.specs.declared.op.Origin.{Origin}
use Rattle.g_graph.specs.Plain.{RegionTree, region, NodeTree, node, NodeTrees, node_then, no_regions, PlainLambda}
use Rattle.g_graph.specs.Ids.{region_ids}
use Rattle.g_graph.specs.Change.{region_changed}
use Rattle.g_graph.specs.Lists.{Calls, NamesGlobal}
use Rattle.g_graph.specs.Nodes.{node_at}
use Rattle.g_graph.specs.Program.{lambda_values}
use Rattle.g_graph.specs.Splice.{joined_nodes}
use Rattle.g_graph.specs.WellFormed.{well_formed, body_fits, numbers_fit, region_fits, every_region, IsWellFormed}
use Rattle.g_graph.proofs.lemmas.Found.{found_at}
use Rattle.g_graph.proofs.lemmas.Nests.{changed_well_formed, numbers_numbered}
use Rattle.g_graph.proofs.lemmas.Numbers.{Numbered}
use Rattle.g_mean.specs.Copies.{IsAmong, known_after, is_argument}
use Rattle.g_mean.specs.Edits.{IsPartOf, IsEdited}
use Rattle.g_mean.specs.Replacement.{Replaces}
use Rattle.g_mean.proofs.lemmas.Closed.{region-closed}
use Rattle.g_mean.proofs.lemmas.Splices.{joined-read}
use Rattle.r_edit.specs.Uses.{nodes_read, is_output_of}
use Rattle.r_edit.specs.Removal.{nodes_without}
use Rattle.r_edit.proofs.lemmas.Steps.{safe_changes_are_steps}
use Rattle.r_edit.proofs.lemmas.Swapped.{RegionStays}
use Rattle.r_pull.specs.Rule.{copies_of, gamma_pulled, pull_here, copies_here, copies_at, lambda_pulled}
use Rattle.r_pull.specs.Laws.{PullReplaces, PullIsAStep}
use Rattle.r_pull.proofs.Answered.{numbered-more, Answers, region_silent, region_answers}
use Rattle.r_pull.proofs.Kept.{gamma-kept, gamma-replaces}
use Rattle.r_pull.proofs.PulledOps.{here-ops}
use Rattle.r_pull.proofs.Resized.{result-is, pulled-ids, pull_resizes}
use Rattle.r_pull.proofs.Unread.{uses-known, known-has, found-before}
use Rattle.r_pull.proofs.User.{PulledAt, pulled-at, none-copied}

-- ---- the region

-- the node stands before the Gamma
record Before (n : ℕ) (op : Op) (inputs : List Origin) (before : NodeTrees) : Type 0 where
  pub front : NodeTrees
  pub middle : NodeTrees
  pub is : before ≡ joined_nodes front (node_then (node n op inputs no_regions) middle)

module _ (l : PlainLambda) (values n : ℕ) (args : List Kind) (ns : NodeTrees) (results : List Origin) (s : RegionTree) (at : PulledAt values l.next n args ns results s)
    (part : IsPartOf l (region args ns results)) where
  abbrev g : NodeTree
  g = node at.gamma Gamma (at.predicate ∷ at.entries) at.regions

  part-here : IsPartOf l (region args (joined_nodes at.user.before (node_then g at.user.after)) results)
  part-here = subst (λ ms. IsPartOf l (region args ms results)) at.user.is part

  before : Before n at.op at.inputs at.user.before
  before =
      let reads = (joined-read (is_argument (length args)) [] at.user.before (node_then g at.user.after) part-here.closed.0).1.0.0 in
      let known = uses-known (length args) n (known_after [] at.user.before) (at.predicate ∷ at.entries) reads at.user.uses in
      let found = found_at n at.user.before (node at.id at.op at.inputs no_regions)
      (found-before n at.user.before (node_then g at.user.after) (node at.id at.op at.inputs no_regions) (has (known-has [] at.user.before n known)) (ap (node_at n) (sym at.user.is) ∙ at.at)) in
      record {
        front = found.before;
        middle = found.after;
        is = found.is ∙ ap (λ k. joined_nodes found.before (node_then (node k at.op at.inputs no_regions) found.after)) found.number;
      }
    where
      has : {A : Type 0} → IsAmong n [] ⊎ A → A
      has (inl h) = absurd h
      has (inr t) = t

  abbrev Whole : NodeTrees → RegionTree
  Whole front = region args (joined_nodes front (node_then g at.user.after)) results

  abbrev Result : NodeTrees → RegionTree
  Result front = region args (nodes_without n (joined_nodes front (node_then (gamma_pulled l.next n (record { op = at.op; inputs = at.inputs; entries = at.entries; regions = at.regions }) g)
      at.user.after))) results

  pub region-kept : RegionStays (length l.objects) (region args ns results) s
  region-kept =
      subst (λ ms. RegionStays (length l.objects) (region args ms results) s) (sym at.user.is)
      (subst (λ t. RegionStays (length l.objects) (Whole at.user.before) t) (sym (result-is values l.next n args ns results s at))
      (subst (λ front. RegionStays (length l.objects) (Whole front) (Result front)) (sym before.is)
      (gamma-kept l args before.front n at.op at.inputs before.middle at.gamma at.predicate at.entries at.regions at.user.after results at.pure
      (subst (λ front. IsPartOf l (Whole front)) before.is part-here) (ap (nodes_read (is_output_of n)) (sym before.is) ∙ at.user.none_before) at.user.none_after at.no_predicate at.no_result)))

  pub region-replaces : (ls ks : List PlainLambda) → Replaces ls ks (region args ns results) s
  region-replaces ls ks =
      subst (λ ms. Replaces ls ks (region args ms results) s) (sym at.user.is)
      (subst (λ t. Replaces ls ks (Whole at.user.before) t) (sym (result-is values l.next n args ns results s at))
      (subst (λ front. Replaces ls ks (Whole front) (Result front)) (sym before.is)
      (gamma-replaces l args before.front n at.op at.inputs before.middle at.gamma at.predicate at.entries at.regions at.user.after results at.pure
      (subst (λ front. IsPartOf l (Whole front)) before.is part-here) (ap (nodes_read (is_output_of n)) (sym before.is) ∙ at.user.none_before) at.user.none_after at.no_predicate at.no_result
      ls ks)))

pub pull_replaces : PullReplaces
pull_replaces ls ks values n l (region args ns results) s part e =
    region-replaces l values n args ns results s (pulled-at values l.next n args ns results s e) part ls ks

-- ---- the lambda

abbrev here : ℕ → PlainLambda → RegionTree → Option RegionTree
here n l = pull_here (lambda_values l) l.next n

here-keeps : (n : ℕ) (l : PlainLambda) (r s : RegionTree) → here n l r ≡ Some s → every_region (region_fits (length l.objects)) r ≡ true → Numbered l.next (region_ids r) →
    RegionStays (length l.objects) r s
here-keeps n l (region args ns results) s e fits numbers =
    region-kept l (lambda_values l) n args ns results s (pulled-at (lambda_values l) l.next n args ns results s e)
    (record { fits = fits; closed = region-closed (length l.objects) (region args ns results) fits; unique = numbers.unique; below = numbers.below })

here-answers : (values next n : ℕ) (r s : RegionTree) → pull_here values next n r ≡ Some s → Answers next (copies_here values next n r) (region_ids r) (region_ids s)
here-answers values next n (region args ns results) s e =
    let at = pulled-at values next n args ns results s e in
    record { count = copies_of n at.pull; gives = at.copies; ids = pulled-ids values next n args ns results s at }

answers : (n : ℕ) (l : PlainLambda) (s : RegionTree) → region_changed (here n l) l.body ≡ Some s → Answers l.next (copies_at l n) (region_ids l.body) (region_ids s)
answers n l s e =
    region_answers l.next (here n l) (copies_here (lambda_values l) l.next n) (here-answers (lambda_values l) l.next n) (none-copied (lambda_values l) l.next n) l.body s e

silent : (n : ℕ) (l : PlainLambda) → region_changed (here n l) l.body ≡ None → copies_at l n ≡ None
silent n l e =
    region_silent l.next (here n l) (copies_here (lambda_values l) l.next n) (here-answers (lambda_values l) l.next n) (none-copied (lambda_values l) l.next n) l.body e

numbers-of : (l : PlainLambda) → IsWellFormed l → numbers_fit l ≡ true
numbers-of l w =
    let nest = every_region (region_fits (length l.objects)) l.body in
    let front = (and_parts (body_fits l && numbers_fit l && nest) _ w).0 in
    (and_parts (body_fits l) (numbers_fit l) (and_parts (body_fits l && numbers_fit l) nest front).0).1

pub pull_well_formed : (n : ℕ) (l : PlainLambda) → IsWellFormed l → IsWellFormed (lambda_pulled n l)
pull_well_formed n l w = by_change (region_changed (here n l) l.body) refl
  where
    by_change : (o : Option RegionTree) → region_changed (here n l) l.body ≡ o → well_formed (record l { body = unwrap_or o l.body; next = l.next + unwrap_or (copies_at l n) 0 }) ≡ true
    by_change None e =
        let same : l.next ≡ l.next + unwrap_or (copies_at l n) 0 = sym (ap (λ o. l.next + unwrap_or o 0) (silent n l e) ∙ omega arith) in
        subst (λ k. well_formed (record l { next = k }) ≡ true) same w
    by_change (Some s) e =
        let h = answers n l s e in
        let next : l.next + h.count ≡ l.next + unwrap_or (copies_at l n) 0 = ap (λ o. l.next + unwrap_or o 0) (sym h.gives) in
        let now = numbered-more l.next h.count (region_ids l.body) (region_ids s) h.ids (numbers_numbered l (numbers-of l w)) in
        subst (λ k. well_formed (record l { body = s; next = k }) ≡ true) next
        (changed_well_formed (here n l) l s (l.next + h.count) (record
        { kept = λ r t q fits numbers. let h = here-keeps n l r t q fits numbers in record { args = h.args; results = h.results; inside = h.inside } }) e w (λ i. now.unique i && now.below i))

edited : (n : ℕ) (l : PlainLambda) → IsEdited (here n l) l (lambda_pulled n l)
edited n l = record { number = refl; params = refl; objects = refl; body = refl }

pub pull_is_a_step : PullIsAStep
pull_is_a_step held n l well =
    safe_changes_are_steps (here n l) l (lambda_pulled n l) well (pull_well_formed n l well) (edited n l)
    (record {
      replaces = λ ls ks r s part e. pull_replaces ls ks (lambda_values l) n l r s part e;
      calls = λ ls r s e h. here-ops (Calls ls) (λ m k d. d) (lambda_values l) l.next n r s e h;
      names = λ globals r s e h. here-ops (NamesGlobal globals) (λ m k d. d) (lambda_values l) l.next n r s e h;
      resized = λ r s e. pull_resizes (lambda_values l) l.next n r s e;
    }) held
