-- What the rule makes of a node is what it says of it.
use Rattle.std.specs.Prelude.{◌||◌, is_some, option_and_then}
use Rattle.std.proofs.Common.{◌≡◌, ℕ, zero, suc, ◌+◌, ◌⊎◌, Bool, true, false, cond, List, [], ◌∷◌, ◌++◌, map, length, Option, None, Some, option_map, unwrap_or, refl, sym, ap, ap₂, subst, ◌∙◌, inl, inr, arith}
use Rattle.std.proofs.lemmas.List.{append-nil}
use Rattle.val_core.specs.declared.operation.Op2.{Op2}
use Rattle.val_core.specs.declared.operation.Op1.{Op1}
use Rattle.val_core.specs.Words.{word1, word2}
use Rattle.g_graph.specs.declared.op.Kind.{Kind}
use Rattle.g_graph.specs.declared.op.Op.TheVariants.{Const, Bin, Un, Gamma, Theta}
use Rattle.g_graph.specs.declared.op.Origin.{Origin}
use Rattle.g_graph.specs.declared.op.Origin.TheVariants.{Arg, Out}
use Rattle.g_graph.specs.Change.{region_changed, has_node}
use Rattle.g_graph.specs.Ids.{region_ids, node_ids, nodes_ids, regions_ids}
use Rattle.g_graph.specs.Nodes.{constant, is_used}
use Rattle.g_graph.specs.Plain.{RegionTree, region, NodeTree, node, NodeTrees, no_nodes, node_then, RegionTrees, no_regions, region_then, id_of, op_of, inputs_in, regions_in, PlainLambda}
use Rattle.g_graph.specs.Replace.{node_redirected, nodes_redirected, region_redirected, origin_replaced}
use Rattle.g_graph.specs.Splice.{args_to_inputs, outputs_to_results, joined_nodes}
use Rattle.g_graph.specs.WellFormed.{IsWellFormed}
use Rattle.g_mean.specs.Copies.{IsAmong, AreRead, NodesRead, known_after, is_argument}
use Rattle.g_mean.specs.Edits.{IsPartOf}
use Rattle.g_mean.proofs.lemmas.Copies.{among-left}
use Rattle.g_mean.proofs.lemmas.Holds.{id-among}
use Rattle.g_mean.proofs.lemmas.Inside.{inputs-read}
use Rattle.g_mean.proofs.lemmas.Splices.{joined-read}
use Rattle.r_fold.specs.Rule.{Folded, word, input, replacement, left_neutral, right_neutral, is_word, bin_folded, chosen_region, chosen_place, gamma_folded, folding, folded, fold_here, applies, fold}
use Rattle.r_walk.specs.Context.{ChangesOnlyAt, IsContext}
use Rattle.r_walk.specs.Laws.{IsOutputAmong, AreOutputsAmong, region_at, region_with, Becomes, Opens, IsSaid}
use Rattle.r_walk.specs.Walk.{Part, stays, becomes, opened, is_in, inputs_of_nodes, results_from}
use Rattle.r_walk.proofs.lemmas.Local.{not_found, found_here, set_at, replaced_at, absent, part_of, inside_it, not_before, not_inside, not_in_before, changed_at, unchanged_at, gone}
use Rattle.r_walk.proofs.lemmas.Moves.{nodes_redirected-joined, inputs-joined}
use Rattle.r_walk.proofs.lemmas.Uses.{in_append, not_read, nodes_not_read}
use Rattle.r_fold.specs.Asked as asked
use Rattle.r_fold.specs.WalkLaws.{fold_change, FoldIsLocal}
use Rattle.r_fold.proofs.Read.{among_known, folding_known, read_outputs, replaced_is, all_unmoved, nodes_unmoved, nodes_use_is, regions_of_it}

only_there : (n : ℕ) → ChangesOnlyAt n (fold_here n)
only_there n (region args nodes results) e = ap (λ o. option_and_then (λ f. folded n (region args nodes results) f) (option_and_then (folding nodes) o)) (not_found n nodes e)

not-there : (n : ℕ) (l : PlainLambda) → (IsAmong n (region_ids l.body) → ⊥) → applies l n ≡ false
not-there n l h = ap is_some (absent l n (fold_here n) (only_there n) h)

-- ---- what comes of an operation is a word, or one of its operands

abbrev IsOfOperands : (a b : Origin) → Folded → Type 0
IsOfOperands a b (word w) = Unit {0}
IsOfOperands a b (input c) = (c ≡ a) ⊎ (c ≡ b)
IsOfOperands a b (replacement r inputs) = ⊥

of_neutral : (l r : Bool) (a b : Origin) (f : Folded) → cond l (Some (input b)) (cond r (Some (input a)) None) ≡ Some f → IsOfOperands a b f
of_neutral true r a b f e = let same : input b ≡ f = cc in subst (IsOfOperands a b) same (inr refl)
of_neutral false true a b f e = let same : input a ≡ f = cc in subst (IsOfOperands a b) same (inl refl)
of_neutral false false a b f e = absurd cc

of_operands : (op : Op2) (a b : Origin) (u v : Option ℕ) (f : Folded) → bin_folded op a b u v ≡ Some f → IsOfOperands a b f
of_operands op a b (Some u) (Some v) f e = let same : word (word2 op u v) ≡ f = cc in subst (IsOfOperands a b) same tt
of_operands op a b None v f e = of_neutral (is_word (left_neutral op) None) (is_word (right_neutral op) v) a b f e
of_operands op a b (Some u) None f e = of_neutral (is_word (left_neutral op) (Some u)) (is_word (right_neutral op) None) a b f e

chosen_there : (w : ℕ) (rs : RegionTrees) (r : RegionTree) → chosen_region w rs ≡ Some r → region_at (chosen_place w rs) rs ≡ Some r
chosen_there w no_regions r e = absurd cc
chosen_there w (region_then s no_regions) r e = e
chosen_there zero (region_then s (region_then t rs)) r e = e
chosen_there (suc w) (region_then s (region_then t rs)) r e = chosen_there w (region_then t rs) r e

-- ---- a node

module _ (l : PlainLambda) (context : RegionTree → RegionTree) (args : List Kind) (before : NodeTrees) (x : NodeTree) (after : NodeTrees) (results uses : List Origin) (around : IsContext context)
    (well : IsWellFormed l) (at : l.body ≡ context (region args (joined_nodes before (node_then x after)) results))
    (same : (p : ℕ) → is_in uses (Out (id_of x) p) ≡ is_in (inputs_of_nodes after ++ results) (Out (id_of x) p)) where
  abbrev here : RegionTree
  here = region args (joined_nodes before (node_then x after)) results

  abbrev Says : Part → Type 0
  Says p = IsSaid fold_change l context args before x after results p

  first : has_node (id_of x) before ≡ false
  first = not_before l context args before x after results around well at

  part : IsPartOf l (region args (joined_nodes before (node_then x after)) results)
  part = part_of l context args before x after results around well at

  apart : IsAmong (id_of x) (nodes_ids before) → ⊥
  apart = not_in_before l context args before x after results around well at (id_of x) (id-among x)

  not_known : IsAmong (id_of x) (known_after [] before) → ⊥
  not_known h = apart (among_known before (id_of x) h)

  reads : AreRead (is_argument (length args)) (known_after [] before) (inputs_in x)
  reads = by x part
    where
      by : (y : NodeTree) → IsPartOf l (region args (joined_nodes before (node_then y after)) results) → AreRead (is_argument (length args)) (known_after [] before) (inputs_in y)
      by (node id op ins rs) h = inputs-read l args before id op ins rs after results h

  before-reads : NodesRead (is_argument (length args)) [] before
  before-reads = (joined-read (is_argument (length args)) [] before (node_then x after) part.closed.0).0

  here-is : fold_here (id_of x) here ≡ option_and_then (λ f. folded (id_of x) here f) (folding before x)
  here-is =
      ap (λ o. option_and_then (λ f. folded (id_of x) here f) (option_and_then (folding (joined_nodes before (node_then x after))) o)) (found_here args before x after results first)
      ∙ ap (option_and_then (λ f. folded (id_of x) here f)) (folding_known (length args) before (node_then x after) x reads)

  stays_so : fold_here (id_of x) here ≡ None → applies l (id_of x) ≡ false
  stays_so e = ap is_some (unchanged_at l context args before x after results around well at (fold_here (id_of x)) (only_there (id_of x)) e)

  not_folded : folding before x ≡ None → applies l (id_of x) ≡ false
  not_folded e = stays_so (here-is ∙ ap (option_and_then (λ f. folded (id_of x) here f)) e)

  -- the region with these nodes in its place
  module _ (nodes : NodeTrees) (outs : List Origin) (e : fold_here (id_of x) here ≡ Some (region_with args before (id_of x) nodes outs after results)) where
    abbrev now : RegionTree
    now = context (region_with args before (id_of x) nodes outs after results)

    changed-body : region_changed (fold_here (id_of x)) l.body ≡ Some now
    changed-body =
        changed_at l context args before x after results around well at (fold_here (id_of x)) (only_there (id_of x)) (region_with args before (id_of x) nodes outs after results) e

    applies-so : applies l (id_of x) ≡ true
    applies-so = ap is_some changed-body

    fold-is : fold (id_of x) l ≡ record l { body = now }
    fold-is = ap (λ o. record l { body = unwrap_or o l.body }) changed-body

    comes : AreOutputsAmong (nodes_ids before ++ node_ids x ++ nodes_ids nodes) outs → ((n : ℕ) → IsAmong n (nodes_ids nodes) → IsAmong n (node_ids x)) →
        ((n : ℕ) → IsAmong n (regions_ids (regions_in x)) → IsAmong n (nodes_ids nodes) → ⊥) → Becomes fold_change l context args before x after results nodes outs 0
    comes known numbers inner = record {
      applies = applies-so;
      changed = fold-is ∙ (let same-next : l.next ≡ l.next + 0 = omega arith in λ i. record l { body = now; next = same-next i });
      known = known;
      numbers = λ n less h. numbers n h;
      inert = λ n h. ap (λ k. applies k n) fold-is
          ∙ not-there n (record l { body = now })
          (gone l context args before x after results around well at nodes outs n (inside_it l context args before x after results around well at n h) (inner n h));
    }

  word_comes : (w : ℕ) → folding before x ≡ Some (word w) → Says (asked.part_of before uses x (Some (word w)))
  word_comes w e = comes (node_then (node (id_of x) (Const w) [] no_regions) no_nodes) [] changed tt numbers inner
    where
      changed : fold_here (id_of x) here ≡ Some (region_with args before (id_of x) (node_then (node (id_of x) (Const w) [] no_regions) no_nodes) [] after results)
      changed = here-is ∙ ap (option_and_then (λ f. folded (id_of x) here f)) e ∙ ap Some (set_at args before x after results first (node (id_of x) (Const w) [] no_regions))

      numbers : (n : ℕ) → IsAmong n (id_of x ∷ []) → IsAmong n (node_ids x)
      numbers n (inl d) = subst (λ m. IsAmong m (node_ids x)) (sym d) (id-among x)
      numbers n (inr h) = absurd h

      inner : (n : ℕ) → IsAmong n (regions_ids (regions_in x)) → IsAmong n (id_of x ∷ []) → ⊥
      inner n h (inl d) = not_inside l context args before x after results around well at (subst (λ m. IsAmong m (regions_ids (regions_in x))) d h)
      inner n h (inr k) = absurd k

  -- the region where uses of the output are uses of another origin
  abbrev redirected : Origin → RegionTree
  redirected a = region_with args before (id_of x) (node_then x no_nodes) (a ∷ []) after results

  replaced-here : (a : Origin) → region_redirected (origin_replaced (Out (id_of x) 0) a) here ≡ redirected a
  replaced-here a =
      ap (λ f. region args (nodes_redirected f (joined_nodes before (node_then x after))) (map f results)) same-f
      ∙ ap (λ ns. region args ns (map g results))
      (nodes_redirected-joined g before (node_then x after)
      ∙ ap₂ joined_nodes (nodes_unmoved (length args) (id_of x) (a ∷ []) [] (λ h. h) before apart before-reads) (ap (λ y. node_then y (nodes_redirected g after)) (itself x reads not_known)))
    where
      g : Origin → Origin
      g = outputs_to_results (id_of x) (a ∷ [])

      same-f : origin_replaced (Out (id_of x) 0) a ≡ outputs_to_results (id_of x) (a ∷ [])
      same-f = λ i o. replaced_is (id_of x) a o i

      itself : (y : NodeTree) → AreRead (is_argument (length args)) (known_after [] before) (inputs_in y) → (IsAmong (id_of x) (known_after [] before) → ⊥) →
          node_redirected (outputs_to_results (id_of x) (a ∷ [])) y ≡ y
      itself (node id op ins rs) r h = ap (λ is. node id op is rs) (all_unmoved (length args) (id_of x) (a ∷ []) (known_after [] before) h ins r)

  -- the output is used in the region where later nodes or the results use it
  used-here : is_used (Out (id_of x) 0) here ≡ is_in uses (Out (id_of x) 0)
  used-here =
      ap (λ t. t || is_in results (Out (id_of x) 0))
      (nodes_use_is (Out (id_of x) 0) (joined_nodes before (node_then x after))
      ∙ ap (λ os. is_in os (Out (id_of x) 0)) (inputs-joined before (node_then x after))
      ∙ in_append (inputs_of_nodes before) (inputs_of_nodes (node_then x after)) (Out (id_of x) 0)
      ∙ ap₂ (λ s t. s || t) (nodes_not_read (is_argument (length args)) [] (id_of x) 0 refl (λ h. h) before apart before-reads) (own x reads))
      ∙ sym (in_append (inputs_of_nodes after) results (Out (id_of x) 0)) ∙ sym (same 0)
    where
      own : (y : NodeTree) → AreRead (is_argument (length args)) (known_after [] before) (inputs_in y) →
          is_in (inputs_of_nodes (node_then y after)) (Out (id_of x) 0) ≡ is_in (inputs_of_nodes after) (Out (id_of x) 0)
      own (node id op ins rs) r =
          in_append ins (inputs_of_nodes after) (Out (id_of x) 0)
          ∙ ap (λ t. t || is_in (inputs_of_nodes after) (Out (id_of x) 0)) (not_read (is_argument (length args)) (known_after [] before) (id_of x) 0 refl not_known ins r)

  input_comes : (a : Origin) → folding before x ≡ Some (input a) → IsOutputAmong (nodes_ids before) a → ((n : ℕ) → IsAmong n (regions_ids (regions_in x)) → ⊥) →
      node (id_of x) (op_of x) (inputs_in x) no_regions ≡ x → Says (asked.part_of before uses x (Some (input a)))
  input_comes a e there none alone = by (is_in uses (Out (id_of x) 0)) refl
    where
      so : fold_here (id_of x) here ≡ cond (is_in uses (Out (id_of x) 0)) (Some (region_redirected (origin_replaced (Out (id_of x) 0) a) here)) None
      so = here-is ∙ ap (option_and_then (λ f. folded (id_of x) here f)) e ∙ ap (λ t. cond t (Some (region_redirected (origin_replaced (Out (id_of x) 0) a) here)) None) used-here

      known : (o : Origin) → IsOutputAmong (nodes_ids before) o → IsOutputAmong (nodes_ids before ++ node_ids x ++ (node_ids x ++ [])) o
      known o h = by-origin o h
        where
          by-origin : (o : Origin) → IsOutputAmong (nodes_ids before) o → IsOutputAmong (nodes_ids before ++ node_ids x ++ (node_ids x ++ [])) o
          by-origin (Arg k) h = tt
          by-origin (Out n p) h = among-left n (nodes_ids before ++ node_ids x) (node_ids x ++ []) (among-left n (nodes_ids before) (node_ids x) h)

      numbers : (n : ℕ) → IsAmong n (node_ids x ++ []) → IsAmong n (node_ids x)
      numbers n h = subst (IsAmong n) (append-nil (node_ids x)) h

      by : (t : Bool) → is_in uses (Out (id_of x) 0) ≡ t → Says (cond t (becomes (node_then (node (id_of x) (op_of x) (inputs_in x) no_regions) no_nodes) (a ∷ []) 0) stays)
      by true d =
          subst (λ y. Says (becomes (node_then y no_nodes) (a ∷ []) 0)) (sym alone)
          (comes (node_then x no_nodes) (a ∷ [])
          (so ∙ ap (λ t. cond t (Some (region_redirected (origin_replaced (Out (id_of x) 0) a) here)) None) d ∙ ap Some (replaced-here a))
          (known a there, tt) numbers (λ n h k. none n h))
      by false d = stays_so (so ∙ ap (λ t. cond t (Some (region_redirected (origin_replaced (Out (id_of x) 0) a) here)) None) d)

  -- a region of the node comes
  opens : (which : ℕ) (inputs : List Origin) (from : ℕ) (own : List Kind) (nodes : NodeTrees) (gives outs : List Origin) → region_at which (regions_in x) ≡ Some (region own nodes gives) →
      map (args_to_inputs inputs) outs ≡ results_from from inputs gives → folding before x ≡ Some (replacement (region own nodes outs) inputs) → AreOutputsAmong (nodes_ids before) inputs →
      Opens fold_change l context args before x after results which inputs from
  opens which inputs from own nodes gives outs is given e known = record {
    own = own;
    nodes = nodes;
    gives = gives;
    is = is;
    applies = applies-so (nodes_redirected (args_to_inputs inputs) nodes) (results_from from inputs gives) changed;
    changed = fold-is (nodes_redirected (args_to_inputs inputs) nodes) (results_from from inputs gives) changed;
    known = known;
  }
    where
      changed : fold_here (id_of x) here ≡ Some (region_with args before (id_of x) (nodes_redirected (args_to_inputs inputs) nodes) (results_from from inputs gives) after results)
      changed =
          here-is ∙ ap (option_and_then (λ f. folded (id_of x) here f)) e
          ∙ ap Some (replaced_at args before x after results first (region_redirected (args_to_inputs inputs) (region own nodes outs)))
          ∙ ap (λ os. Some (region_with args before (id_of x) (nodes_redirected (args_to_inputs inputs) nodes) os after results)) given

-- ---- by the node's op

module _ (l : PlainLambda) (context : RegionTree → RegionTree) (args : List Kind) (before : NodeTrees) (after : NodeTrees) (results uses : List Origin) (around : IsContext context) (well : IsWellFormed l) where
  abbrev IsHere : NodeTree → Type 0
  IsHere x = l.body ≡ context (region args (joined_nodes before (node_then x after)) results)

  abbrev HasUses : NodeTree → Type 0
  HasUses x = (p : ℕ) → is_in uses (Out (id_of x) p) ≡ is_in (inputs_of_nodes after ++ results) (Out (id_of x) p)

  abbrev SaysOf : NodeTree → Type 0
  SaysOf x = IsSaid fold_change l context args before x after results (asked.part_of before uses x (folding before x))

  -- inputs that are read stand before it
  there : (os : List Origin) → AreRead (is_argument (length args)) (known_after [] before) os → AreOutputsAmong (nodes_ids before) os
  there os r = read_outputs (length args) (known_after [] before) (nodes_ids before) (among_known before) os r

  none_folds : (x : NodeTree) → IsHere x → HasUses x → folding before x ≡ None → SaysOf x
  none_folds x at same e =
      subst (λ f. IsSaid fold_change l context args before x after results (asked.part_of before uses x f)) (sym e) (not_folded l context args before x after results uses around well at same e)

  said_plain : (id : ℕ) (op : Op2) (a b : Origin) → IsHere (node id (Bin op) (a ∷ b ∷ []) no_regions) → HasUses (node id (Bin op) (a ∷ b ∷ []) no_regions) → SaysOf (node id (Bin op) (a ∷ b ∷ []) no_regions)
  said_plain id op a b at same = by (folding before x) refl
    where
      x : NodeTree
      x = node id (Bin op) (a ∷ b ∷ []) no_regions

      reads-x : AreRead (is_argument (length args)) (known_after [] before) (a ∷ b ∷ [])
      reads-x = reads l context args before (node id (Bin op) (a ∷ b ∷ []) no_regions) after results uses around well at same

      known : AreOutputsAmong (nodes_ids before) (a ∷ b ∷ [])
      known = there (a ∷ b ∷ []) reads-x

      none : (n : ℕ) → IsAmong n [] → ⊥
      none n h = h

      of : (f : Folded) → IsOfOperands a b f → folding before (node id (Bin op) (a ∷ b ∷ []) no_regions) ≡ Some f →
          IsSaid fold_change l context args before (node id (Bin op) (a ∷ b ∷ []) no_regions) after results (asked.part_of before uses (node id (Bin op) (a ∷ b ∷ []) no_regions) (Some f))
      of (word w) h e = word_comes l context args before (node id (Bin op) (a ∷ b ∷ []) no_regions) after results uses around well at same w e
      of (input c) (inl d) e = input_comes l context args before (node id (Bin op) (a ∷ b ∷ []) no_regions) after results uses around well at same c e (subst (IsOutputAmong (nodes_ids before)) (sym d) known.0) none refl
      of (input c) (inr d) e = input_comes l context args before (node id (Bin op) (a ∷ b ∷ []) no_regions) after results uses around well at same c e (subst (IsOutputAmong (nodes_ids before)) (sym d) known.1.0) none refl
      of (replacement r inputs) h e = absurd h

      by : (f : Option Folded) → folding before (node id (Bin op) (a ∷ b ∷ []) no_regions) ≡ f →
          IsSaid fold_change l context args before (node id (Bin op) (a ∷ b ∷ []) no_regions) after results (asked.part_of before uses (node id (Bin op) (a ∷ b ∷ []) no_regions) f)
      by None e = not_folded l context args before (node id (Bin op) (a ∷ b ∷ []) no_regions) after results uses around well at same e
      by (Some f) e = of f (of_operands op a b (constant before a) (constant before b) f e) e

  said_bin : (id : ℕ) (op : Op2) (a b : Origin) (rs : RegionTrees) → IsHere (node id (Bin op) (a ∷ b ∷ []) rs) → HasUses (node id (Bin op) (a ∷ b ∷ []) rs) → SaysOf (node id (Bin op) (a ∷ b ∷ []) rs)
  said_bin id op a b no_regions at same = said_plain id op a b at same
  said_bin id op a b (region_then r rs) at same =
      absurd
      (let e : false ≡ true =
      regions_of_it l args before (node id (Bin op) (a ∷ b ∷ []) (region_then r rs)) after results
      (part l context args before (node id (Bin op) (a ∷ b ∷ []) (region_then r rs)) after results uses around well at same) in
      cc)

  said_un : (id : ℕ) (op : Op1) (a : Origin) (rs : RegionTrees) → IsHere (node id (Un op) (a ∷ []) rs) → HasUses (node id (Un op) (a ∷ []) rs) → SaysOf (node id (Un op) (a ∷ []) rs)
  said_un id op a rs at same = by (constant before a) refl
    where
      by : (u : Option ℕ) → constant before a ≡ u →
          IsSaid fold_change l context args before (node id (Un op) (a ∷ []) rs) after results (asked.part_of before uses (node id (Un op) (a ∷ []) rs) (option_map (λ v. word (word1 op v)) u))
      by None e = not_folded l context args before (node id (Un op) (a ∷ []) rs) after results uses around well at same (ap (option_map (λ v. word (word1 op v))) e)
      by (Some u) e = word_comes l context args before (node id (Un op) (a ∷ []) rs) after results uses around well at same (word1 op u) (ap (option_map (λ v. word (word1 op v))) e)

  said_gamma : (id : ℕ) (p : Origin) (entries : List Origin) (rs : RegionTrees) → IsHere (node id Gamma (p ∷ entries) rs) → HasUses (node id Gamma (p ∷ entries) rs) → SaysOf (node id Gamma (p ∷ entries) rs)
  said_gamma id p entries rs at same = by (constant before p) refl
    where
      known : AreOutputsAmong (nodes_ids before) entries
      known = there entries (reads l context args before (node id Gamma (p ∷ entries) rs) after results uses around well at same).1

      chosen : (w : ℕ) → constant before p ≡ Some w → (r : Option RegionTree) → chosen_region w rs ≡ r → SaysOf (node id Gamma (p ∷ entries) rs)
      chosen w e None d =
          none_folds (node id Gamma (p ∷ entries) rs) at same (ap (gamma_folded rs entries) e ∙ ap (option_map (λ r. replacement r entries)) d)
      chosen w e (Some (region own nodes gives)) d =
          subst (λ f. IsSaid fold_change l context args before (node id Gamma (p ∷ entries) rs) after results (asked.part_of before uses (node id Gamma (p ∷ entries) rs) f)) (sym is)
          (subst (λ u. IsSaid fold_change l context args before (node id Gamma (p ∷ entries) rs) after results (opened (chosen_place (unwrap_or u 0) rs) entries 0)) (sym e)
          (opens l context args before (node id Gamma (p ∷ entries) rs) after results uses around well at same (chosen_place w rs) entries 0 own nodes gives gives
          (chosen_there w rs (region own nodes gives) d) refl is known))
        where
          is : folding before (node id Gamma (p ∷ entries) rs) ≡ Some (replacement (region own nodes gives) entries)
          is = ap (gamma_folded rs entries) e ∙ ap (option_map (λ r. replacement r entries)) d

      by : (u : Option ℕ) → constant before p ≡ u → SaysOf (node id Gamma (p ∷ entries) rs)
      by None e = none_folds (node id Gamma (p ∷ entries) rs) at same (ap (gamma_folded rs entries) e)
      by (Some w) e = chosen w e (chosen_region w rs) refl

  said_theta : (id : ℕ) (inputs : List Origin) (r : RegionTree) → IsHere (node id Theta inputs (region_then r no_regions)) → HasUses (node id Theta inputs (region_then r no_regions)) →
      SaysOf (node id Theta inputs (region_then r no_regions))
  said_theta id inputs (region own nodes []) at same = none_folds (node id Theta inputs (region_then (region own nodes []) no_regions)) at same refl
  said_theta id inputs (region own nodes (p ∷ gives)) at same = by (is_word (Some 0) (constant nodes p)) refl
    where
      by : (t : Bool) → is_word (Some 0) (constant nodes p) ≡ t → SaysOf (node id Theta inputs (region_then (region own nodes (p ∷ gives)) no_regions))
      by false e =
          none_folds (node id Theta inputs (region_then (region own nodes (p ∷ gives)) no_regions)) at same (ap (λ t. cond t (Some (replacement (region own nodes gives) inputs)) None) e)
      by true e =
          let is : folding before (node id Theta inputs (region_then (region own nodes (p ∷ gives)) no_regions)) ≡ Some (replacement (region own nodes gives) inputs) =
          ap (λ t. cond t (Some (replacement (region own nodes gives) inputs)) None) e in
          subst
          (λ f. IsSaid fold_change l context args before (node id Theta inputs (region_then (region own nodes (p ∷ gives)) no_regions)) after results
          (asked.part_of before uses (node id Theta inputs (region_then (region own nodes (p ∷ gives)) no_regions)) f)) (sym is)
          (opens l context args before (node id Theta inputs (region_then (region own nodes (p ∷ gives)) no_regions)) after results uses around well at same 0 inputs 1 own nodes (p ∷ gives) gives refl refl is
          (there inputs (reads l context args before (node id Theta inputs (region_then (region own nodes (p ∷ gives)) no_regions)) after results uses around well at same)))

  said_of : (x : NodeTree) → IsHere x → HasUses x → SaysOf x
  said_of (node id (Bin op) [] rs) at same = none_folds (node id (Bin op) [] rs) at same refl
  said_of (node id (Bin op) (a ∷ []) rs) at same = none_folds (node id (Bin op) (a ∷ []) rs) at same refl
  said_of (node id (Bin op) (a ∷ b ∷ []) rs) at same = said_bin id op a b rs at same
  said_of (node id (Bin op) (a ∷ b ∷ c ∷ os) rs) at same = none_folds (node id (Bin op) (a ∷ b ∷ c ∷ os) rs) at same refl
  said_of (node id (Un op) [] rs) at same = none_folds (node id (Un op) [] rs) at same refl
  said_of (node id (Un op) (a ∷ []) rs) at same = said_un id op a rs at same
  said_of (node id (Un op) (a ∷ b ∷ os) rs) at same = none_folds (node id (Un op) (a ∷ b ∷ os) rs) at same refl
  said_of (node id Gamma [] rs) at same = none_folds (node id Gamma [] rs) at same refl
  said_of (node id Gamma (p ∷ entries) rs) at same = said_gamma id p entries rs at same
  said_of (node id Theta inputs no_regions) at same = none_folds (node id Theta inputs no_regions) at same refl
  said_of (node id Theta inputs (region_then r no_regions)) at same = said_theta id inputs r at same
  said_of (node id Theta inputs (region_then r (region_then s rs))) at same = none_folds (node id Theta inputs (region_then r (region_then s rs))) at same refl
  said_of (node id op inputs rs) at same = none_folds (node id op inputs rs) at same refl

pub fold_is_local : ((n : ℕ) (l : PlainLambda) → IsWellFormed l → IsWellFormed (fold n l)) → FoldIsLocal
fold_is_local keeps = record {
  keeps = λ l n well may. keeps n l well;
  absent = λ l n h. not-there n l h;
  said = λ l context args before x after results uses around well at same. said_of l context args before after results uses around well x at same;
}
