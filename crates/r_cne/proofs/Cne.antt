-- Common node elimination keeps meaning and what is well formed.
use Rattle.std.specs.Prelude.{option_and_then}
use Rattle.std.proofs.Common.{◌≡◌, ℕ, ◌==◌, ◌⊎◌, Bool, true, false, cond, List, [], ◌∷◌, length, Option, None, Some, refl, sym, ap, subst, subst₂, ◌∙◌, inl, inr, arith}
use Rattle.std.proofs.lemmas.Bool.Decides.{nat_tests}
use Rattle.g_graph.specs.declared.op.Kind.{Kind}
use Rattle.g_graph.specs.declared.op.Kind.TheVariants.{Value as ValueKind}
use Rattle.g_graph.specs.declared.op.Op.{Op}
use Rattle.g_graph.specs.declared.op.Origin.{Origin}
use Rattle.g_graph.specs.declared.op.Origin.TheVariants.{Out}
use Rattle.g_graph.specs.Plain.{RegionTree, region, NodeTree, node, NodeTrees, no_nodes, node_then, RegionTrees, id_of, PlainLambda}
use Rattle.g_graph.specs.Ids.{region_ids, nodes_ids}
use Rattle.g_graph.specs.Scope.{known}
use Rattle.g_graph.specs.WellFormed.{region_fits, every_region, IsWellFormed}
use Rattle.g_graph.specs.Nodes.{node_at}
use Rattle.g_graph.specs.Splice.{joined_nodes}
use Rattle.g_graph.specs.Program.{lambda_values}
use Rattle.g_graph.specs.Lists.{RegionOps, Calls, NamesGlobal}
use Rattle.g_graph.proofs.lemmas.Found.{Found, found_at}
use Rattle.g_graph.proofs.lemmas.Nodes.{NodeFits, node_fits_here, KeptWithin}
use Rattle.g_graph.proofs.lemmas.Numbers.{Numbered}
use Rattle.g_graph.proofs.lemmas.Unique.{times}
use Rattle.g_mean.specs.Data.{Datum, value_of}
use Rattle.g_mean.specs.Meaning.{Context, Outputs}
use Rattle.g_mean.specs.LessDefined.{IsSoundDatum}
use Rattle.g_mean.specs.Copies.{IsAmong, known_after}
use Rattle.g_mean.specs.Holds.{HasRun, HaveRun}
use Rattle.g_mean.specs.Edits.{IsPartOf}
use Rattle.g_mean.specs.Replacement.{Replaces}
use Rattle.g_mean.proofs.lemmas.Instead.{input-replaces}
use Rattle.r_edit.specs.Lookup.{first_of}
use Rattle.r_edit.specs.Uses.{uses_replaced}
use Rattle.r_edit.specs.Size.{IsResized}
use Rattle.r_edit.proofs.lemmas.Fewer.{uses-resized}
use Rattle.r_edit.specs.Steps.{IsSafeChange}
use Rattle.r_edit.proofs.lemmas.Steps.{kept_well_formed, changed_is_a_step}
use Rattle.r_edit.proofs.lemmas.Lookup.{Among, first_before}
use Rattle.r_edit.proofs.lemmas.Uses.{replaced_is, uses_kept, known_value, uses_ops}
use Rattle.r_edit.proofs.lemmas.Meant.{has-run}
use Rattle.r_cne.specs.Rule.{is_common, other_than, earlier, cne_here, cne}
use Rattle.r_cne.specs.Laws.{CneReplaces, CneIsAStep}
use Rattle.r_cne.proofs.Common.{gives_value, ran_gives}

-- ---- the earlier node

other_is : (n m : ℕ) (found : Option ℕ) → other_than n found ≡ Some m → (found ≡ Some m) × (n ≡ m → ⊥)
other_is n m None e = absurd cc
other_is n m (Some k) e = by_test (k == n) refl e
  where
    by_test : (t : Bool) → (k == n) ≡ t → cond t None (Some k) ≡ Some m → (Some k ≡ Some m) × (n ≡ m → ⊥)
    by_test true t d = absurd cc
    by_test false t d =
        let same : k ≡ m = cc in
        (d, λ f. grind (arith, nat_tests, same, f, t))

-- what is found before a node, with equal op and inputs
earlier_among : (before : NodeTrees) (id : ℕ) (op : Op) (inputs : List Origin) (rs : RegionTrees) (after : NodeTrees) (m : ℕ) →
    earlier (joined_nodes before (node_then (node id op inputs rs) after)) (node id op inputs rs) ≡ Some m → (is_common op ≡ true) × Among op inputs m before
earlier_among before id op inputs rs after m e =
    let ns = joined_nodes before (node_then (node id op inputs rs) after) in
    let is = cond-other (is_common op) (other_than id (first_of op inputs ns)) e in
    let found = other_is id m (first_of op inputs ns) is.1 in
    (is.0, by found.1 (first_before op inputs before id rs after m found.0))
  where
    cond-other : (t : Bool) (a : Option ℕ) → cond t a None ≡ Some m → (t ≡ true) × (a ≡ Some m)
    cond-other true a d = (refl, d)
    cond-other false a d = absurd cc

    by : (id ≡ m → ⊥) → Among op inputs m before ⊎ (id ≡ m) → Among op inputs m before
    by apart (inl a) = a
    by apart (inr f) = absurd (apart f)

-- ---- what it gave

pub known_node : (known : List ℕ) (before : NodeTrees) (y : NodeTree) (after : NodeTrees) → IsAmong (id_of y) (known_after known (joined_nodes before (node_then y after)))
known_node known no_nodes y after = stays (id_of y ∷ known) after (inl refl)
  where
    stays : (ks : List ℕ) (ns : NodeTrees) → IsAmong (id_of y) ks → IsAmong (id_of y) (known_after ks ns)
    stays ks no_nodes h = h
    stays ks (node_then x ns) h = stays (id_of x ∷ ks) ns (inr h)
known_node known (node_then x before) y after = known_node (id_of x ∷ known) before y after

-- ---- the region

module _ (args : List Kind) (before : NodeTrees) (id : ℕ) (op : Op) (inputs : List Origin) (rs : RegionTrees) (after : NodeTrees) (results : List Origin) (m : ℕ) (common : is_common op ≡ true)
    (among : Among op inputs m before) where
  abbrev here : NodeTree
  here = node id op inputs rs

  abbrev other : NodeTree
  other = node m op inputs among.regions

  abbrev whole : RegionTree
  whole = region args (joined_nodes before (node_then here after)) results

  other_ran : (c : Context) (xs : List Datum) (o : Outputs) → HaveRun c xs o before → HasRun c xs o other
  other_ran c xs o have = has-run c xs o among.before other among.after (subst (λ ns. HaveRun c xs o ns) among.is have)

  other_known : IsAmong m (known_after [] before)
  other_known = subst (λ ns. IsAmong m (known_after [] ns)) (sym among.is) (known_node [] among.before other among.after)

  instead_replaces : (ls ks : List PlainLambda) (l : PlainLambda) → IsPartOf l whole → (s : RegionTree) → uses_replaced (Out id 0) (Out m 0) whole ≡ Some s → Replaces ls ks whole s
  instead_replaces ls ks l part s e =
      subst (λ t. Replaces ls ks whole t) (replaced_is (Out id 0) (Out m 0) whole s e)
      (input-replaces ls ks l args before here after results part (Out m 0) (inr other_known)
      (λ c xs o have sound.
      let g = ran_gives c xs o m op inputs among.regions common (other_ran c xs o have) in
      record {
        value = g.value;
        run = g.run id rs;
        less = inl (ap value_of (sym g.output));
        sound = subst IsSoundDatum g.output sound;
      }))

  instead_kept : (objects : ℕ) → NodeFits objects args before here after → every_region (region_fits objects) whole ≡ true → (s : RegionTree) →
      uses_replaced (Out id 0) (Out m 0) whole ≡ Some s → KeptWithin objects whole s
  instead_kept objects fits inside s e =
      uses_kept objects args before here after results fits inside (gives_value id op inputs rs common) (Out m 0)
      (subst (λ ns. known args ns (Out m 0) ≡ Some ValueKind) (sym among.is)
      (known_value args among.before other among.after (gives_value m op inputs among.regions common)
      (omega (arith, fits.once m, ap (λ ns. times m (nodes_ids ns)) among.is)))) s e

-- ---- the change

-- the node of a changed region and the earlier one
pub record Changed (n : ℕ) (args : List Kind) (ns : NodeTrees) (results : List Origin) (s : RegionTree) : Type 0 where
  pub before : NodeTrees
  pub op : Op
  pub inputs : List Origin
  pub regions : RegionTrees
  pub after : NodeTrees
  pub is : ns ≡ joined_nodes before (node_then (node n op inputs regions) after)
  pub first : ℕ
  pub common : is_common op ≡ true
  pub among : Among op inputs first before
  pub gives : uses_replaced (Out n 0) (Out first 0) (region args ns results) ≡ Some s

changed_by : (n : ℕ) (args : List Kind) (ns : NodeTrees) (results : List Origin) (s : RegionTree) (x : NodeTree) → Found n ns x → (m : ℕ) → earlier ns x ≡ Some m →
    uses_replaced (Out n 0) (Out m 0) (region args ns results) ≡ Some s → Changed n args ns results s
changed_by n args ns results s (node id op inputs rs) found m e d =
    let is : ns ≡ joined_nodes found.before (node_then (node n op inputs rs) found.after) = found.is ∙ ap (λ k. joined_nodes found.before (node_then (node k op inputs rs) found.after)) found.number in
    let at = subst₂ (λ k ms. earlier ms (node k op inputs rs) ≡ Some m) found.number is e in
    let found_it = earlier_among found.before n op inputs rs found.after m at in
    record {
      before = found.before;
      op = op;
      inputs = inputs;
      regions = rs;
      after = found.after;
      is = is;
      first = m;
      common = found_it.0;
      among = found_it.1;
      gives = d;
    }

pub changed_at : (n : ℕ) (args : List Kind) (ns : NodeTrees) (results : List Origin) (s : RegionTree) → cne_here n (region args ns results) ≡ Some s → Changed n args ns results s
changed_at n args ns results s e = by_node (node_at n ns) refl e
  where
    by_other : (x : NodeTree) → node_at n ns ≡ Some x → (other : Option ℕ) → earlier ns x ≡ other →
        option_and_then (λ m. uses_replaced (Out n 0) (Out m 0) (region args ns results)) other ≡ Some s → Changed n args ns results s
    by_other x at None h d = absurd cc
    by_other x at (Some m) h d = changed_by n args ns results s x (found_at n ns x at) m h d

    by_node : (x : Option NodeTree) → node_at n ns ≡ x → option_and_then (λ m. uses_replaced (Out n 0) (Out m 0) (region args ns results)) (option_and_then (earlier ns) x) ≡ Some s →
        Changed n args ns results s
    by_node None at d = absurd cc
    by_node (Some x) at d = by_other x at (earlier ns x) refl d

pub cne_replaces : CneReplaces
cne_replaces ls ks n l (region args ns results) s part e =
    let at = changed_at n args ns results s e in
    subst (λ ms. Replaces ls ks (region args ms results) s) (sym at.is)
    (instead_replaces args at.before n at.op at.inputs at.regions at.after results at.first at.common at.among ls ks l (subst (λ ms. IsPartOf l (region args ms results)) at.is part) s
    (subst (λ ms. uses_replaced (Out n 0) (Out at.first 0) (region args ms results) ≡ Some s) at.is at.gives))

cne_here_keeps : (objects next n : ℕ) (r s : RegionTree) → cne_here n r ≡ Some s → every_region (region_fits objects) r ≡ true → Numbered next (region_ids r) → KeptWithin objects r s
cne_here_keeps objects next n (region args ns results) s e fits numbers =
    let at = changed_at n args ns results s e in
    let whole = subst (λ ms. every_region (region_fits objects) (region args ms results) ≡ true) at.is fits in
    let here = node_fits_here objects next args at.before (node n at.op at.inputs at.regions) at.after results whole (subst (λ ms. Numbered next (nodes_ids ms)) at.is numbers) in
    subst (λ ms. KeptWithin objects (region args ms results) s) (sym at.is)
    (instead_kept args at.before n at.op at.inputs at.regions at.after results at.first at.common at.among objects here whole s
    (subst (λ ms. uses_replaced (Out n 0) (Out at.first 0) (region args ms results) ≡ Some s) at.is at.gives))

cne_here_ops : (p : Op → ℕ → Type 0) (n : ℕ) (r s : RegionTree) → cne_here n r ≡ Some s → RegionOps p r → RegionOps p s
cne_here_ops p n (region args ns results) s e h =
    let at = changed_at n args ns results s e in
    uses_ops p (Out n 0) (Out at.first 0) (region args ns results) s at.gives h

-- ---- the size

cne_resizes : (values n : ℕ) (r s : RegionTree) → cne_here n r ≡ Some s → IsResized values r s
cne_resizes values n (region args ns results) s e =
    let at = changed_at n args ns results s e in
    uses-resized values (Out n 0) (Out at.first 0) (region args ns results) s at.gives

-- ---- the step

pub cne_is_safe : (n : ℕ) (l : PlainLambda) → IsSafeChange (cne_here n) l
cne_is_safe n l =
    record {
      replaces = λ ls ks r s part e. cne_replaces ls ks n l r s part e;
      calls = λ ls r s e h. cne_here_ops (Calls ls) n r s e h;
      names = λ globals r s e h. cne_here_ops (NamesGlobal globals) n r s e h;
      resized = λ r s e. cne_resizes (lambda_values l) n r s e;
    }

pub cne_stays : (n : ℕ) (l : PlainLambda) → IsWellFormed l → IsWellFormed (cne n l)
cne_stays n l well = kept_well_formed (cne_here n) l (λ r s e fits numbers. cne_here_keeps (length l.objects) l.next n r s e fits numbers) well

pub cne_is_a_step : CneIsAStep
cne_is_a_step held n l well = changed_is_a_step (cne_here n) l well (cne_stays n l well) (cne_is_safe n l) held
