-- Folding keeps meaning.
use Rattle.std.proofs.Common.{◌≡◌, ℕ, zero, suc, ◌==◌, ◌⊎◌, Bool, true, false, cond, List, [], ◌∷◌, map, length, Option, None, Some, option_map, option_and_then, refl, sym, ap, ap₂, subst, subst₂, ◌∙◌, inl, inr, arith}
use Rattle.std.proofs.lemmas.Bool.Decides.{nat_tests}
use Rattle.std.proofs.lemmas.Option.{same_Some, cond_some}
use Rattle.val_core.specs.declared.operation.Op2.{Op2}
use Rattle.val_core.specs.declared.operation.Op1.{Op1}
use Rattle.val_core.specs.declared.values.Value.{Value}
use Rattle.val_core.specs.declared.values.Value.TheVariants.{Num}
use Rattle.val_core.specs.Words.{word1, word2}
use Rattle.val_core.specs.Values.{value1, value2}
use Rattle.val_core.specs.Answers.{Returned, on_number}
use Rattle.val_core.specs.Refinement.{Direction, Forward, Backward, Refines, no_deeper}
use Rattle.val_core.proofs.lemmas.Words.{gives_word1, gives_word2}
use Rattle.val_core.proofs.lemmas.Values.{keeps_sound2}
use Rattle.g_graph.specs.declared.op.Kind.{Kind}
use Rattle.g_graph.specs.declared.op.Op.{Op}
use Rattle.g_graph.specs.declared.op.Op.TheVariants.{Const, Undef, Local, Delta, Bin, Un, Load, Store, Clear, PtrEq, Apply, Put, Exit, Get, Gamma, Theta}
use Rattle.g_graph.specs.declared.op.Origin.{Origin}
use Rattle.g_graph.specs.declared.op.Origin.TheVariants.{Out}
use Rattle.g_graph.specs.Plain.{RegionTree, region, NodeTree, node, NodeTrees, no_nodes, node_then, RegionTrees, no_regions, region_then, PlainLambda}
use Rattle.g_graph.specs.Ids.{nodes_ids}
use Rattle.g_graph.specs.WellFormed.{distinct}
use Rattle.g_graph.specs.Replace.{region_redirected, origin_replaced}
use Rattle.g_graph.specs.Splice.{args_to_inputs, joined_nodes, region_spliced}
use Rattle.g_mean.specs.Data.{Datum, val, value_of}
use Rattle.g_mean.specs.Meaning.{Context, chosen, again, turns, no_outputs, read, nodes_run, region_meaning, meanings}
use Rattle.g_mean.specs.LessDefined.{Paired, IsLessDefinedDatum}
use Rattle.g_mean.specs.Refining.{MeaningRefines, ContextRefines}
use Rattle.g_mean.specs.Copies.{IsClosed}
use Rattle.g_mean.specs.Edits.{IsPartOf}
use Rattle.g_mean.specs.Replacement.{IsTwice, Linked, Replaces}
use Rattle.g_mean.proofs.lemmas.LocalRefinement.{none-less}
use Rattle.g_mean.proofs.lemmas.Kept.{reads-refines}
use Rattle.g_mean.proofs.lemmas.LessDefined.{less-kept, value-sound}
use Rattle.g_mean.proofs.lemmas.Equal.{no_deeper-compares}
use Rattle.g_graph.specs.Nodes.{node_at, node_set, constant, is_used}
use Rattle.r_fold.specs.Rule.{is_word, left_neutral, right_neutral, Folded, word, input, replacement, bin_folded, gamma_folded, theta_folded, chosen_region, folding, folded}
use Rattle.g_graph.proofs.lemmas.Splices.{joined_none}
use Rattle.g_graph.proofs.lemmas.Found.{Found, found_at, constant_small}
use Rattle.g_mean.proofs.lemmas.Constants.{constant-holds}
use Rattle.r_fold.proofs.Neutral.{left-less, right-less}
use Rattle.g_mean.proofs.lemmas.Inside.{inputs-read, regions-closed, inner-unique}
use Rattle.r_fold.proofs.Fits.{gamma-fits, theta-fits}
use Rattle.g_mean.proofs.lemmas.Instead.{input-holds, word-replaces, input-replaces, replacement-replaces}
use Rattle.val_core.proofs.lemmas.Answers.{then_associates, then_on_given}
use Rattle.g_mean.proofs.lemmas.Regions.{region-refines}
use Rattle.r_fold.specs.Laws.{FoldReplaces}
use Rattle.g_mean.proofs.lemmas.Calls.{same-itself}
use Rattle.g_mean.proofs.lemmas.Bounds.{Never, Always, never-refines}
use Rattle.g_mean.proofs.lemmas.Holds.{holds-from}

-- ---- what was found

some-mapped : {X Y : Type 0} (g : X → Y) (found : Option X) (y : Y) → option_map g found ≡ Some y → (x : X) × (found ≡ Some x) × (g x ≡ y)
some-mapped g None y e = absurd cc
some-mapped g (Some x) y e = (x, refl, cc)

word-test : (x u : Option ℕ) → is_word x u ≡ true → (k : ℕ) × (x ≡ Some k) × (u ≡ Some k)
word-test None u t = absurd cc
word-test (Some k) None t = absurd cc
word-test (Some k) (Some u) t = let same : u ≡ k = grind (arith, nat_tests) in (k, refl, ap Some same)

-- of two tests one holds
either-input : (s t : Bool) (a b : Origin) (f : Folded) → cond s (Some (input b)) (cond t (Some (input a)) None) ≡ Some f → ((s ≡ true) × (input b ≡ f)) ⊎ ((t ≡ true) × (input a ≡ f))
either-input true t a b f e = inl (refl, cc)
either-input false true a b f e = inr (refl, cc)
either-input false false a b f e = absurd cc

-- ---- regions that mean the same

chosen-is : (c : Context) (w : ℕ) (rs : RegionTrees) (r : RegionTree) → chosen_region w rs ≡ Some r → (us : List Datum) → chosen w (meanings c rs) us ≡ region_meaning c r us
chosen-is c w no_regions r e us = absurd cc
chosen-is c w (region_then s no_regions) r e us = let same : s ≡ r = cc in ap (λ z. region_meaning c z us) same
chosen-is c zero (region_then s (region_then t rs)) r e us = let same : s ≡ r = cc in ap (λ z. region_meaning c z us) same
chosen-is c (suc w) (region_then s (region_then t rs)) r e us = chosen-is c w (region_then t rs) r e us

itself-refines : (direction : Direction) (c d : Context) → ContextRefines no_deeper direction IsLessDefinedDatum c d → (r : RegionTree) →
    MeaningRefines no_deeper direction IsLessDefinedDatum (region_meaning c r) (region_meaning d r)
itself-refines direction c d context r =
    region-refines no_deeper no_deeper-compares direction IsLessDefinedDatum less-kept Never Always (never-refines no_deeper no_deeper-compares direction IsLessDefinedDatum less-kept) c d context
    tt r r (same-itself Never r)

-- a region that is repeated while a constant 0 is not 0 runs once
once-is : (c : Context) (n : ℕ) (own : List Kind) (ns : NodeTrees) (p : Origin) (gives : List Origin) → IsClosed (region own ns (p ∷ gives)) → distinct (nodes_ids ns) ≡ true →
    constant ns p ≡ Some 0 → (us : List Datum) → turns (suc n) (region_meaning c (region own ns (p ∷ gives))) us ≡ region_meaning c (region own ns gives) us
once-is c n own ns p gives closed unique zero-word us =
    then_associates (nodes_run c ns us no_outputs) (λ o. Returned (read us o p ∷ map (read us o) gives) []) (again (turns n (region_meaning c (region own ns (p ∷ gives)))))
    ∙ then_on_given (nodes_run c ns us no_outputs) (λ o. again (turns n (region_meaning c (region own ns (p ∷ gives)))) (read us o p ∷
    map (read us o) gives)) (λ o. Returned (map (read us o) gives) [])
    (λ o did e.
    let have = holds-from (length own) c ns [] us no_outputs o did closed.0 (λ m h k. h) unique e in
    let held = constant-holds c (length own) us o ns no_nodes p 0 have closed.1.0 (subst (λ ms. constant ms p ≡ Some 0) (sym (joined_none ns)) zero-word) in
    ap (λ d. on_number (value_of d) (λ w. cond (w == 0) (Returned (map (read us o) gives) []) (turns n (region_meaning c (region own ns (p ∷ gives))) (map (read us o) gives)))) held.0)

-- at a bound of 0 the nearer side is cut, and the farther side has none
once-by : (direction : Direction) (c d : Context) → ContextRefines no_deeper direction IsLessDefinedDatum c d → (n : ℕ) → IsTwice direction 2 n d.bound →
    (own : List Kind) (ns : NodeTrees) (p : Origin) (gives : List Origin) → IsClosed (region own ns (p ∷ gives)) → distinct (nodes_ids ns) ≡ true → constant ns p ≡ Some 0 → (us vs : List Datum) →
    Paired IsLessDefinedDatum us vs → Refines no_deeper direction (Paired IsLessDefinedDatum) (turns n (region_meaning c (region own ns (p ∷ gives))) us) (region_meaning d (region own ns gives) vs)
once-by Forward c d context zero twice own ns p gives closed unique e us vs pairs = none-less Forward d.bound twice (region_meaning d (region own ns gives) vs)
once-by Backward c d context zero twice own ns p gives closed unique e us vs pairs = absurd (omega arith)
once-by direction c d context (suc n) twice own ns p gives closed unique e us vs pairs =
    subst (λ a. Refines no_deeper direction (Paired IsLessDefinedDatum) a (region_meaning d (region own ns gives) vs)) (sym (once-is c n own ns p gives closed unique e us))
    ((itself-refines direction c d context (region own ns gives)).on us vs pairs)

once-refines : (direction : Direction) (c d : Context) → ContextRefines no_deeper direction IsLessDefinedDatum c d → (ls ks : List PlainLambda) (global : ℕ → Value) →
    Linked direction ls ks global c d → (own : List Kind) (ns : NodeTrees) (p : Origin) (gives : List Origin) → IsClosed (region own ns (p ∷ gives)) → distinct (nodes_ids ns) ≡ true →
    constant ns p ≡ Some 0 → (us vs : List Datum) → Paired IsLessDefinedDatum us vs → Refines no_deeper direction (Paired IsLessDefinedDatum) (turns c.bound (region_meaning c (region own ns (p ∷
    gives))) us) (region_meaning d (region own ns gives) vs)
once-refines direction c d context ls ks global linked own ns p gives closed unique e us vs pairs =
    once-by direction c d context c.bound linked.twice own ns p gives closed unique e us vs pairs

-- ---- a node that folds

module _ (ls ks : List PlainLambda) (l : PlainLambda) (args : List Kind) (before : NodeTrees) (id : ℕ) (after : NodeTrees) (results : List Origin) where
  abbrev context_node : NodeTree → NodeTrees
  context_node x = joined_nodes before (node_then x after)

  abbrev whole : NodeTree → RegionTree
  whole x = region args (context_node x) results

  abbrev with_word : ℕ → RegionTree
  with_word w = whole (node id (Const w) [] no_regions)

  -- an operation on two constants
  bin-words : (op : Op2) (a b : Origin) (rs : RegionTrees) → IsPartOf l (whole (node id (Bin op) (a ∷ b ∷ []) rs)) → (u v : ℕ) →
      constant (context_node (node id (Bin op) (a ∷ b ∷ []) rs)) a ≡ Some u → constant (context_node (node id (Bin op) (a ∷ b ∷ []) rs)) b ≡ Some v →
      Replaces ls ks (whole (node id (Bin op) (a ∷ b ∷ []) rs)) (with_word (word2 op u v))
  bin-words op a b rs well u v eu region_at =
      let x = node id (Bin op) (a ∷ b ∷ []) rs in
      let reads = inputs-read l args before id (Bin op) (a ∷ b ∷ []) rs after results well in
      word-replaces ls ks l args before x after results well (word2 op u v) (gives_word2 op u v (constant_small (context_node x) a u eu) (constant_small (context_node x) b v region_at))
      (λ c xs o have.
      let hu = input-holds ls ks l args before x after results well c xs o a u have reads.0 eu in
      let hv = input-holds ls ks l args before x after results well c xs o b v have reads.1.0 region_at in
      ap₂ (λ d e. Returned (val (value2 op (value_of d) (value_of e)) ∷ []) []) hu.0 hv.0)

  un-word : (op : Op1) (a : Origin) (rs : RegionTrees) → IsPartOf l (whole (node id (Un op) (a ∷ []) rs)) → (u : ℕ) → constant (context_node (node id (Un op) (a ∷ []) rs)) a ≡ Some u →
      Replaces ls ks (whole (node id (Un op) (a ∷ []) rs)) (with_word (word1 op u))
  un-word op a rs well u e =
      let x = node id (Un op) (a ∷ []) rs in
      let reads = inputs-read l args before id (Un op) (a ∷ []) rs after results well in
      word-replaces ls ks l args before x after results well (word1 op u) (gives_word1 op u (constant_small (context_node x) a u e))
      (λ c xs o have.
      let hu = input-holds ls ks l args before x after results well c xs o a u have reads.0 e in
      ap (λ d. Returned (val (value1 op (value_of d)) ∷ []) []) hu.0)

  -- one operand is neutral
  left-input : (op : Op2) (a b : Origin) (rs : RegionTrees) → IsPartOf l (whole (node id (Bin op) (a ∷ b ∷ []) rs)) → (k : ℕ) → left_neutral op ≡ Some k →
      constant (context_node (node id (Bin op) (a ∷ b ∷ []) rs)) a ≡ Some k → Replaces ls ks (whole (node id (Bin op) (a ∷ b ∷
      []) rs)) (region_redirected (origin_replaced (Out id 0) b) (whole (node id (Bin op) (a ∷ b ∷ []) rs)))
  left-input op a b rs well k neutral e =
      let x = node id (Bin op) (a ∷ b ∷ []) rs in
      let reads = inputs-read l args before id (Bin op) (a ∷ b ∷ []) rs after results well in
      input-replaces ls ks l args before x after results well b reads.1.0
      (λ c xs o have sound.
      let held = input-holds ls ks l args before x after results well c xs o a k have reads.0 e in
      record {
        value = value2 op (Num k) (value_of (read xs o b));
        run = ap (λ d. Returned (val (value2 op (value_of d) (value_of (read xs o b))) ∷ []) []) held.0;
        less = left-less op k (value_of (read xs o b)) neutral (value-sound (read xs o b) sound);
        sound = keeps_sound2 op (Num k) (value_of (read xs o b)) held.1 (value-sound (read xs o b) sound);
      })

  right-input : (op : Op2) (a b : Origin) (rs : RegionTrees) → IsPartOf l (whole (node id (Bin op) (a ∷ b ∷ []) rs)) → (k : ℕ) → right_neutral op ≡ Some k →
      constant (context_node (node id (Bin op) (a ∷ b ∷ []) rs)) b ≡ Some k → Replaces ls ks (whole (node id (Bin op) (a ∷ b ∷
      []) rs)) (region_redirected (origin_replaced (Out id 0) a) (whole (node id (Bin op) (a ∷ b ∷ []) rs)))
  right-input op a b rs well k neutral e =
      let x = node id (Bin op) (a ∷ b ∷ []) rs in
      let reads = inputs-read l args before id (Bin op) (a ∷ b ∷ []) rs after results well in
      input-replaces ls ks l args before x after results well a reads.0
      (λ c xs o have sound.
      let held = input-holds ls ks l args before x after results well c xs o b k have reads.1.0 e in
      record {
        value = value2 op (value_of (read xs o a)) (Num k);
        run = ap (λ d. Returned (val (value2 op (value_of (read xs o a)) (value_of d)) ∷ []) []) held.0;
        less = right-less op k (value_of (read xs o a)) neutral (value-sound (read xs o a) sound);
        sound = keeps_sound2 op (value_of (read xs o a)) (Num k) (value-sound (read xs o a) sound) held.1;
      })

  -- the region that a constant chooses
  gamma-replacement : (p : Origin) (entries : List Origin) (rs : RegionTrees) → IsPartOf l (whole (node id Gamma (p ∷ entries) rs)) → (w : ℕ) →
      constant (context_node (node id Gamma (p ∷ entries) rs)) p ≡ Some w → (own : List Kind) (ns : NodeTrees) (gives : List Origin) → chosen_region w rs ≡ Some (region own ns gives) →
      Replaces ls ks (whole (node id Gamma (p ∷ entries) rs)) (region_spliced id (region_redirected (args_to_inputs entries) (region own ns gives)) (whole (node id Gamma (p ∷ entries) rs)))
  gamma-replacement p entries rs well w e own ns gives chosen_it =
      let x = node id Gamma (p ∷ entries) rs in
      let reads = inputs-read l args before id Gamma (p ∷ entries) rs after results well in
      replacement-replaces ls ks l args before x after results well own ns gives entries (gamma-fits l args before id p entries rs after results well w own ns gives chosen_it)
      (λ direction global c d context linked xs ys o q less refines have.
      let held = input-holds ls ks l args before x after results well c xs o p w have reads.0 e in
      let us = map (read xs o) entries in
      let runs = ap (λ z. on_number (value_of z) (λ v. chosen v (meanings c rs) us)) held.0 ∙ chosen-is c w rs (region own ns gives) chosen_it us in
      subst (λ a. Refines no_deeper direction (Paired IsLessDefinedDatum) a (region_meaning d (region own ns gives) (map (read ys q) entries))) (sym runs)
      ((itself-refines direction c d context (region own ns gives)).on us (map (read ys q) entries) (reads-refines IsLessDefinedDatum less-kept xs ys less o q refines entries)))

  -- a region that runs once
  theta-replacement : (own : List Kind) (ns : NodeTrees) (p : Origin) (gives inputs : List Origin) → IsPartOf l (whole (node id Theta inputs (region_then (region own ns (p ∷ gives)) no_regions))) →
      constant ns p ≡ Some 0 → Replaces ls ks (whole (node id Theta inputs (region_then (region own ns (p ∷
      gives)) no_regions))) (region_spliced id (region_redirected (args_to_inputs inputs) (region own ns gives)) (whole (node id Theta inputs (region_then (region own ns (p ∷ gives)) no_regions))))
  theta-replacement own ns p gives inputs well e =
      let rs = region_then (region own ns (p ∷ gives)) no_regions in
      let x = node id Theta inputs rs in
      let closed = (regions-closed l args before id Theta inputs rs after results well).0 in
      let unique = inner-unique l args before id Theta inputs own ns (p ∷ gives) after results well in
      replacement-replaces ls ks l args before x after results well own ns gives inputs (theta-fits l args before id inputs own ns p gives after results well)
      (λ direction global c d context linked xs ys o q less refines have.
      let us = map (read xs o) inputs in
      let vs = map (read ys q) inputs in
      let pairs = reads-refines IsLessDefinedDatum less-kept xs ys less o q refines inputs in
      once-refines direction c d context ls ks global linked own ns p gives closed unique e us vs pairs)

  -- ---- whatever folds

  -- the change that a constant makes, and the one that another origin makes
  word-change : (x : NodeTree) → ((y : NodeTree) → node_set id y (context_node x) ≡ context_node y) → (w : ℕ) → Replaces ls ks (whole x) (with_word w) → (f : Folded) → word w ≡ f →
      (s : RegionTree) → folded id (whole x) f ≡ Some s → Replaces ls ks (whole x) s
  word-change x first w h f e s d =
      let same : folded id (whole x) (word w) ≡ Some s = ap (folded id (whole x)) e ∙ d in
      let is : region args (node_set id (node id (Const w) [] no_regions) (context_node x)) results ≡ s = cc in
      subst (λ z. Replaces ls ks (whole x) z) (ap (λ ns. region args ns results) (sym (first (node id (Const w) [] no_regions))) ∙ is) h

  input-change : (x : NodeTree) (a : Origin) → Replaces ls ks (whole x) (region_redirected (origin_replaced (Out id 0) a) (whole x)) → (f : Folded) → input a ≡ f → (s : RegionTree) →
      folded id (whole x) f ≡ Some s → Replaces ls ks (whole x) s
  input-change x a h f e s d =
      subst (λ z. Replaces ls ks (whole x) z) (cond_some (is_used (Out id 0) (whole x)) (region_redirected (origin_replaced (Out id 0) a) (whole x)) s (ap (folded id (whole x)) e ∙ d)).1 h

  replacement-change : (x : NodeTree) (r : RegionTree) (inputs : List Origin) → Replaces ls ks (whole x) (region_spliced id (region_redirected (args_to_inputs inputs) r) (whole x)) → (f : Folded) →
      replacement r inputs ≡ f → (s : RegionTree) → folded id (whole x) f ≡ Some s → Replaces ls ks (whole x) s
  replacement-change x r inputs h f e s d =
      let same : Some (region_spliced id (region_redirected (args_to_inputs inputs) r) (whole x)) ≡ Some s = ap (folded id (whole x)) e ∙ d in
      subst (λ z. Replaces ls ks (whole x) z) (same_Some _ _ same) h

  inputs-replace : (op : Op2) (a b : Origin) (rs : RegionTrees) → IsPartOf l (whole (node id (Bin op) (a ∷ b ∷ []) rs)) → (u v : Option ℕ) →
      constant (context_node (node id (Bin op) (a ∷ b ∷ []) rs)) a ≡ u → constant (context_node (node id (Bin op) (a ∷ b ∷ []) rs)) b ≡ v →
      (f : Folded) → ((is_word (left_neutral op) u ≡ true) × (input b ≡ f)) ⊎ ((is_word (right_neutral op) v ≡ true) × (input a ≡ f)) → (s : RegionTree) →
      folded id (whole (node id (Bin op) (a ∷ b ∷ []) rs)) f ≡ Some s → Replaces ls ks (whole (node id (Bin op) (a ∷ b ∷ []) rs)) s
  inputs-replace op a b rs well u v eu region_at f (inl h) s d =
      let k = word-test (left_neutral op) u h.0 in
      input-change (node id (Bin op) (a ∷ b ∷ []) rs) b (left-input op a b rs well k.0 k.1 (eu ∙ k.2)) f h.1 s d
  inputs-replace op a b rs well u v eu region_at f (inr h) s d =
      let k = word-test (right_neutral op) v h.0 in
      input-change (node id (Bin op) (a ∷ b ∷ []) rs) a (right-input op a b rs well k.0 k.1 (region_at ∙ k.2)) f h.1 s d

  bin-replaces : (op : Op2) (a b : Origin) (rs : RegionTrees) → IsPartOf l (whole (node id (Bin op) (a ∷ b ∷ []) rs)) →
      ((y : NodeTree) → node_set id y (context_node (node id (Bin op) (a ∷ b ∷ []) rs)) ≡ context_node y) →
      (u v : Option ℕ) → constant (context_node (node id (Bin op) (a ∷ b ∷ []) rs)) a ≡ u → constant (context_node (node id (Bin op) (a ∷ b ∷ []) rs)) b ≡ v →
      (f : Folded) → bin_folded op a b u v ≡ Some f → (s : RegionTree) → folded id (whole (node id (Bin op) (a ∷ b ∷ []) rs)) f ≡ Some s → Replaces ls ks (whole (node id (Bin op) (a ∷ b ∷ []) rs)) s
  bin-replaces op a b rs well first (Some u) (Some v) eu region_at f e s d =
      word-change (node id (Bin op) (a ∷ b ∷ []) rs) first (word2 op u v) (bin-words op a b rs well u v eu region_at) f (same_Some _ _ e) s d
  bin-replaces op a b rs well first None v eu region_at f e s d =
      inputs-replace op a b rs well None v eu region_at f (either-input (is_word (left_neutral op) None) (is_word (right_neutral op) v) a b f e) s d
  bin-replaces op a b rs well first (Some u) None eu region_at f e s d =
      inputs-replace op a b rs well (Some u) None eu region_at f (either-input (is_word (left_neutral op) (Some u)) (is_word (right_neutral op) None) a b f e) s d

  theta-replaces : (r : RegionTree) (ins : List Origin) → IsPartOf l (whole (node id Theta ins (region_then r no_regions))) → (f : Folded) → theta_folded r ins ≡ Some f → (s : RegionTree) →
      folded id (whole (node id Theta ins (region_then r no_regions))) f ≡ Some s → Replaces ls ks (whole (node id Theta ins (region_then r no_regions))) s
  theta-replaces (region own ns []) ins well f e s d = absurd cc
  theta-replaces (region own ns (p ∷ gives)) ins well f e s d =
      let found = cond_some (is_word (Some 0) (constant ns p)) (replacement (region own ns gives) ins) f e in
      let k = word-test (Some 0) (constant ns p) found.0 in
      replacement-change (node id Theta ins (region_then (region own ns (p ∷ gives)) no_regions)) (region own ns gives) ins (theta-replacement own ns p gives ins well (k.2 ∙ sym k.1)) f found.1 s d

  gamma-replaces : (p : Origin) (entries : List Origin) (rs : RegionTrees) → IsPartOf l (whole (node id Gamma (p ∷ entries) rs)) → (u : Option ℕ) →
      constant (context_node (node id Gamma (p ∷ entries) rs)) p ≡ u → (f : Folded) → gamma_folded rs entries u ≡ Some f → (s : RegionTree) →
      folded id (whole (node id Gamma (p ∷ entries) rs)) f ≡ Some s → Replaces ls ks (whole (node id Gamma (p ∷ entries) rs)) s
  gamma-replaces p entries rs well None eu f e s d = absurd cc
  gamma-replaces p entries rs well (Some w) eu f e s d =
      let found = some-mapped (λ r. replacement r entries) (chosen_region w rs) f e in
      by found.0 found.1 found.2
    where
      by : (r : RegionTree) → chosen_region w rs ≡ Some r → replacement r entries ≡ f → Replaces ls ks (whole (node id Gamma (p ∷ entries) rs)) s
      by (region own ns gives) chosen_it is =
          replacement-change (node id Gamma (p ∷ entries) rs) (region own ns gives) entries (gamma-replacement p entries rs well w eu own ns gives chosen_it) f is s d

  node-replaces : (op : Op) (ins : List Origin) (rs : RegionTrees) → IsPartOf l (whole (node id op ins rs)) → ((y : NodeTree) → node_set id y (context_node (node id op ins rs)) ≡ context_node y) →
      (f : Folded) → folding (context_node (node id op ins rs)) (node id op ins rs) ≡ Some f → (s : RegionTree) → folded id (whole (node id op ins rs)) f ≡ Some s →
      Replaces ls ks (whole (node id op ins rs)) s
  node-replaces (Bin op) (a ∷ b ∷ []) rs well first f e s d =
      bin-replaces op a b rs well first (constant (context_node (node id (Bin op) (a ∷ b ∷ []) rs)) a) (constant (context_node (node id (Bin op) (a ∷ b ∷ []) rs)) b) refl refl f e s d
  node-replaces (Un op) (a ∷ []) rs well first f e s d =
      let found = some-mapped (λ u. word (word1 op u)) (constant (context_node (node id (Un op) (a ∷ []) rs)) a) f e in
      word-change (node id (Un op) (a ∷ []) rs) first (word1 op found.0) (un-word op a rs well found.0 found.1) f found.2 s d
  node-replaces Gamma (p ∷ entries) rs well first f e s d =
      gamma-replaces p entries rs well (constant (context_node (node id Gamma (p ∷ entries) rs)) p) refl f e s d
  node-replaces Theta ins (region_then r no_regions) well first f e s d = theta-replaces r ins well f e s d
  node-replaces (Bin op) [] rs well first f e s d = absurd cc
  node-replaces (Bin op) (a ∷ []) rs well first f e s d = absurd cc
  node-replaces (Bin op) (a ∷ b ∷ c ∷ ins) rs well first f e s d = absurd cc
  node-replaces (Un op) [] rs well first f e s d = absurd cc
  node-replaces (Un op) (a ∷ b ∷ ins) rs well first f e s d = absurd cc
  node-replaces Gamma [] rs well first f e s d = absurd cc
  node-replaces Theta ins no_regions well first f e s d = absurd cc
  node-replaces Theta ins (region_then r (region_then q rs)) well first f e s d = absurd cc
  node-replaces (Const w) ins rs well first f e s d = absurd cc
  node-replaces Undef ins rs well first f e s d = absurd cc
  node-replaces (Local k) ins rs well first f e s d = absurd cc
  node-replaces (Delta k) ins rs well first f e s d = absurd cc
  node-replaces (Load w) ins rs well first f e s d = absurd cc
  node-replaces (Store w) ins rs well first f e s d = absurd cc
  node-replaces (Clear k) ins rs well first f e s d = absurd cc
  node-replaces PtrEq ins rs well first f e s d = absurd cc
  node-replaces (Apply g) ins rs well first f e s d = absurd cc
  node-replaces Put ins rs well first f e s d = absurd cc
  node-replaces Exit ins rs well first f e s d = absurd cc
  node-replaces Get ins rs well first f e s d = absurd cc

-- ---- a region

region-replaces : (ls ks : List PlainLambda) (l : PlainLambda) (n : ℕ) (args : List Kind) (ns : NodeTrees) (results : List Origin) → IsPartOf l (region args ns results) → (x : NodeTree) →
    Found n ns x → (f : Folded) → folding ns x ≡ Some f → (s : RegionTree) → folded n (region args ns results) f ≡ Some s → Replaces ls ks (region args ns results) s
region-replaces ls ks l n args ns results well (node i op ins rs) found f e s d =
    let is = found.is in
    let fold_it = subst (λ ms. folding ms (node i op ins rs) ≡ Some f) is e in
    let changed = subst₂ (λ m ms. folded m (region args ms results) f ≡ Some s) (sym found.number) is d in
    let sets = λ (y : NodeTree). subst₂ (λ m ms. node_set m y ms ≡ joined_nodes found.before (node_then y found.after)) (sym found.number) is (found.first y) in
    subst (λ ms. Replaces ls ks (region args ms results) s) (sym is)
    (node-replaces ls ks l args found.before i found.after results op ins rs (subst (λ ms. IsPartOf l (region args ms results)) is well) sets f fold_it s changed)

pub fold_replaces : FoldReplaces
fold_replaces ls ks n l (region args ns results) s well e = by (node_at n ns) refl e
  where
    by-node : (x : NodeTree) → node_at n ns ≡ Some x → (found : Option Folded) → folding ns x ≡ found → option_and_then (λ f. folded n (region args ns results) f) found ≡ Some s →
        Replaces ls ks (region args ns results) s
    by-node x at None h d = absurd cc
    by-node x at (Some f) h d = region-replaces ls ks l n args ns results well x (found_at n ns x at) f h s d

    by : (found : Option NodeTree) → node_at n ns ≡ found → option_and_then (λ f. folded n (region args ns results) f) (option_and_then (folding ns) found) ≡ Some s →
        Replaces ls ks (region args ns results) s
    by None h d = absurd cc
    by (Some x) h d = by-node x h (folding ns x) refl d
