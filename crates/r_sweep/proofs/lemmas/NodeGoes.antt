-- A node that goes with its regions.
use Rattle.std.proofs.Common.{◌≡◌, ◌≤◌, ℕ, suc, ◌==◌, ◌||◌, true, false, Option, None, Some, List, [], ◌∷◌, ◌++◌, length, refl, sym, ap, subst, ◌∙◌, arith, append_assoc}
use Rattle.std.specs.Prelude.{if◌then◌else◌}
use Rattle.std.proofs.lemmas.Bool.{or_from, or_right}
use Rattle.g_graph.specs.Plain.{region, node, NodeTrees, no_nodes, node_then, RegionTrees, no_regions, region_then, PlainLambda}
use Rattle.g_graph.specs.Ids.{region_ids, nodes_ids, regions_ids}
use Rattle.g_graph.specs.Signatures.{outputs_of}
use Rattle.g_graph.specs.WellFormed.{kinds_of}
use Rattle.g_graph.specs.Splice.{joined_nodes}
use Rattle.g_graph.proofs.lemmas.Indexes.{same_number_true}
use Rattle.g_graph.proofs.lemmas.Unique.{times, times_append}
use Rattle.g_mean.specs.Silent.{GivesNoState}
use Rattle.g_arena_def.specs.declared.place.Place.{Place}
use Rattle.g_arena_def.specs.Flat.{FlatRegion, FlatNode, place_in, regions_flat, in_nodes, in_regions, flat_of, same_node, is_in}
use Rattle.g_arena_def.specs.Edits.{regions_gone, nodes_without, node_removed}
use Rattle.r_edit.specs.Uses.{is_read, is_output_of}
use Rattle.r_edit.specs.Removal.{region_without}
use Rattle.r_edit.proofs.lemmas.Removal.{without_joined, without_kept}
use Rattle.r_sweep.proofs.lemmas.Outside.{times_head, at_most_first, AreOutside, nodes_outside}
use Rattle.r_sweep.proofs.lemmas.Regions.{IsAlike}
use Rattle.r_sweep.proofs.lemmas.Around.{with_nodes, other_node}
use Rattle.r_sweep.proofs.lemmas.Blocks.{Within, in_nodes-joined, place, node_now, here_once, not_before, place_other, counts, start_laid}
use Rattle.r_sweep.proofs.lemmas.Kept.{alike_by, Fitting, here, none_first}

-- ---- nodes that went

-- none of these numbers is this one
abbrev Avoids : Option ℕ → List ℕ → Type 0
Avoids o ns = (m : ℕ) → 1 ≤ times m ns → same_node o (Some m) ≡ false

in_more : (o : Option ℕ) (n : ℕ) (gone : List ℕ) → is_in gone o ≡ true → is_in (n ∷ gone) o ≡ true
in_more None n gone e = absurd cc
in_more (Some m) n gone e = or_right (m == n) (is_in gone (Some m)) e

in_none : (o : Option ℕ) (n : ℕ) (gone : List ℕ) → is_in gone o ≡ false → same_node o (Some n) ≡ false → is_in (n ∷ gone) o ≡ false
in_none None n gone e h = refl
in_none (Some m) n gone e h = or_from (m == n) (is_in gone (Some m)) h e

avoids_left : (o : Option ℕ) (xs ys : List ℕ) → Avoids o (xs ++ ys) → Avoids o xs
avoids_left o xs ys h m e = h m (omega (arith, e, times_append m xs ys))

avoids_right : (o : Option ℕ) (xs ys : List ℕ) → Avoids o (xs ++ ys) → Avoids o ys
avoids_right o xs ys h m e = h m (omega (arith, e, times_append m xs ys))

avoids_first : (o : Option ℕ) (n : ℕ) (ns : List ℕ) → Avoids o (n ∷ ns) → same_node o (Some n) ≡ false
avoids_first o n ns h = h n (omega (arith, times_head n ns))

avoids_rest : (o : Option ℕ) (n : ℕ) (ns : List ℕ) → Avoids o (n ∷ ns) → Avoids o ns
avoids_rest o n ns h m e = h m (omega (arith, e, at_most_first m n ns))

-- the numbers of nodes that went, once these have gone too
record Gone (gone ids : List ℕ) (xs rest : List FlatNode) : Type 0 where
  now : List ℕ
  is : regions_gone gone (xs ++ rest) ≡ regions_gone now rest
  more : (o : Option ℕ) → is_in gone o ≡ true → is_in now o ≡ true
  no_more : (o : Option ℕ) → is_in gone o ≡ false → Avoids o ids → is_in now o ≡ false

mutual
  nodes_gone : (p : Place) (gone : List ℕ) (ns : NodeTrees) (rest : List FlatNode) → is_in gone p.node ≡ true → Gone gone (nodes_ids ns) (in_nodes p ns) rest
  nodes_gone p gone no_nodes rest h = record { now = gone; is = refl; more = λ o e. e; no_more = λ o e a. e }
  nodes_gone p gone (node_then (node id op inputs rs) xs) rest h =
      let x : FlatNode = record { id = id; op = op; inputs = inputs; outputs = kinds_of (outputs_of op rs); regions = regions_flat rs; home = p } in
      let a = in_gone id 0 (id ∷ gone) rs (in_nodes p xs ++ rest) (ap (λ t. t || is_in gone (Some id)) (same_number_true id)) in
      let b = nodes_gone p a.now xs rest (a.more p.node (in_more p.node id gone h)) in
      record {
        now = b.now;
        is =
            ap (λ t. if t then regions_gone (id ∷ gone) ((in_regions id 0 rs ++ in_nodes p xs) ++ rest) else x ∷ ((in_regions id 0 rs ++ in_nodes p xs) ++ rest)) h
            ∙ ap (regions_gone (id ∷ gone)) (append_assoc (in_regions id 0 rs) (in_nodes p xs) rest) ∙ a.is ∙ b.is;
        more = λ o e. b.more o (a.more o (in_more o id gone e));
        no_more = λ o e v.
            let own = avoids_left o (id ∷ regions_ids rs) (nodes_ids xs) v in
            b.no_more o (a.no_more o (in_none o id gone e (avoids_first o id (regions_ids rs) own)) (avoids_rest o id (regions_ids rs) own))
            (avoids_right o (id ∷ regions_ids rs) (nodes_ids xs) v);
      }

  in_gone : (n k : ℕ) (gone : List ℕ) (rs : RegionTrees) (rest : List FlatNode) → is_in gone (Some n) ≡ true → Gone gone (regions_ids rs) (in_regions n k rs) rest
  in_gone n k gone no_regions rest h = record { now = gone; is = refl; more = λ o e. e; no_more = λ o e a. e }
  in_gone n k gone (region_then (region args ns results) rs) rest h =
      let a = nodes_gone (place_in n k) gone ns (in_regions n (suc k) rs ++ rest) h in
      let b = in_gone n (suc k) a.now rs rest (a.more (Some n) h) in
      record {
        now = b.now;
        is = ap (regions_gone gone) (append_assoc (in_nodes (place_in n k) ns) (in_regions n (suc k) rs) rest) ∙ a.is ∙ b.is;
        more = λ o e. b.more o (a.more o e);
        no_more = λ o e v. b.no_more o (a.no_more o e (avoids_left o (nodes_ids ns) (regions_ids rs) v)) (avoids_right o (nodes_ids ns) (regions_ids rs) v);
      }

-- nodes the first of which stands in no region that went
abbrev StaysAt : (gone : List ℕ) → List FlatNode → Type 0
StaysAt gone [] = Unit {0}
StaysAt gone (x ∷ xs) = is_in gone x.home.node ≡ false

stays_at : (gone : List ℕ) (xs : List FlatNode) → StaysAt gone xs → regions_gone gone xs ≡ xs
stays_at gone [] h = refl
stays_at gone (x ∷ xs) h = ap (λ t. if t then regions_gone (x.id ∷ gone) xs else x ∷ xs) h

-- ---- the first node of a number

without_past : (m : ℕ) (xs ys : List FlatNode) → AreOutside m xs → nodes_without m (xs ++ ys) ≡ xs ++ nodes_without m ys
without_past m [] ys h = refl
without_past m (x ∷ xs) ys h = ap (λ t. if t then regions_gone (m ∷ []) (xs ++ ys) else x ∷ nodes_without m (xs ++ ys)) h.0.0 ∙ ap (λ zs. x ∷ zs) (without_past m xs ys h.1)

module _ (n : ℕ) (l : PlainLambda) (w : Within n l) where
  -- what stands behind the regions of the node is in none of them
  avoiding : (gone : List ℕ) → ((o : Option ℕ) → is_in (n ∷ []) o ≡ false → Avoids o (regions_ids w.regions) → is_in gone o ≡ false) →
      StaysAt gone (in_nodes (place n l w) w.after ++ w.around.after)
  avoiding gone h = by w.after (w.around.outside)
    where
      none : (o : Option ℕ) → ((m : ℕ) → 1 ≤ times m (region_ids w.around.here) → same_node o (Some m) ≡ false) → is_in gone o ≡ false
      none o f =
          h o (in_none o n [] (nothing o) (f n (here_once n l w))) (λ m e. f m (omega (arith, e, counts n l w m, at_most_first m n (regions_ids w.regions))))
        where
          nothing : (q : Option ℕ) → is_in [] q ≡ false
          nothing None = refl
          nothing (Some m) = refl

      behind : (xs : List FlatNode) → ((m : ℕ) → 1 ≤ times m (region_ids w.around.here) → AreOutside m xs) → StaysAt gone xs
      behind [] f = tt
      behind (x ∷ xs) f = none x.home.node (λ m e. (f m e).0.1)

      by : (ends : NodeTrees) → ((m : ℕ) → 1 ≤ times m (region_ids w.around.here) → (r : FlatRegion) → AreOutside m (w.around.before r) × AreOutside m w.around.after) →
          StaysAt gone (in_nodes (place n l w) ends ++ w.around.after)
      by no_nodes f = behind w.around.after (λ m e. (f m e (record { args = w.args; results = w.results })).1)
      by (node_then (node id op inputs rs) ends) f =
          none w.around.place.node (λ m e. other_node w.around.place.node m (region_ids w.around.here) w.around.own e)

  pub node_goes : (well : Fitting n l w) → GivesNoState (node n w.op w.inputs w.regions) → is_read (is_output_of n) w.around.here ≡ false →
      node_removed n (flat_of l) ≡ flat_of (record l { body = w.around.fill (region_without n w.around.here) })
  node_goes well silent unread =
      let p = place n l w in
      let own = node n w.op w.inputs w.regions in
      let r : FlatRegion = record { args = w.args; results = w.results } in
      let x = node_now n l w (kinds_of (outputs_of w.op w.regions)) w.inputs w.regions in
      let bs = in_nodes p w.before in
      let xs = in_nodes p w.after ++ w.around.after in
      let inner = in_regions n 0 w.regions in
      let whole = region w.args (joined_nodes w.before (node_then own w.after)) w.results in
      let left = region w.args (joined_nodes w.before w.after) w.results in
      let now : left ≡ region_without n whole =
      ap (λ ns. region w.args ns w.results) (sym (without_joined n w.before own w.after (none_first n l w well) (same_number_true n))) in
      let fit = without_kept (length l.objects) w.args w.before own w.after w.results (here n l w well) well.region silent (subst (λ s. is_read (is_output_of n) s ≡ false) w.is unread) in
      let alike : IsAlike w.around.here left = alike_by whole (region_without n whole) w.around.here left w.is now (length l.objects) fit in
      let gone = in_gone n 0 (n ∷ []) w.regions xs (ap (λ t. t || false) (same_number_true n)) in
      let cut : nodes_without n (x ∷ (inner ++ xs)) ≡ xs =
      ap (λ t. if t then regions_gone (n ∷ []) (inner ++ xs) else x ∷ nodes_without n (inner ++ xs)) (same_number_true n) ∙ gone.is ∙ stays_at gone.now xs (avoiding gone.now gone.no_more) in
      ap (node_removed n) (start_laid n l w)
      ∙ ap (with_nodes l (w.around.body r))
      (without_past n (w.around.before r) (bs ++ (x ∷ (inner ++ xs))) (w.around.outside n (here_once n l w) r).0
      ∙ ap (λ ys. w.around.before r ++ ys) (without_past n bs (x ∷ (inner ++ xs)) (nodes_outside n p w.before (not_before n l w) (place_other n l w)) ∙ ap (λ ys. bs ++ ys) cut)
      ∙ ap (λ ys. w.around.before r ++ ys) (sym (append_assoc bs (in_nodes p w.after) w.around.after) ∙ ap (λ ys. ys ++ w.around.after) (sym (in_nodes-joined p w.before w.after))))
      ∙ sym (w.around.flat_is left alike) ∙ ap (λ s. flat_of (record l { body = w.around.fill s })) (now ∙ ap (region_without n) (sym w.is))
