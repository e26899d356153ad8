-- Regions that fit and have the numbers from a first one on, in pre-order, and what is made of them.
use Rattle.std.specs.Prelude.{◌==◌, ◌&&◌, ◌||◌}
use Rattle.std.proofs.Common.{◌≡◌, ◌<◌, ◌≤◌, ◌+◌, ℕ, zero, suc, Bool, true, false, List, [], ◌∷◌, ◌++◌, append-nil, map, length, Some, refl, sym, ap, subst, ◌∙◌, inl, inr, arith}
use Rattle.g_graph.specs.declared.op.Kind.{Kind}
use Rattle.g_graph.specs.declared.op.Kind.TheVariants.{Value, Memory, Io}
use Rattle.g_graph.specs.declared.op.Op.TheVariants.{Gamma, Theta}
use Rattle.g_graph.specs.Plain.{RegionTree, region, node, NodeTrees, no_nodes, node_then, no_regions, region_then, args_of}
use Rattle.g_graph.specs.Change.{has_node}
use Rattle.g_graph.specs.Ids.{region_ids, nodes_ids, regions_ids}
use Rattle.g_graph.specs.Replace.{nodes_redirected}
use Rattle.g_graph.specs.Scope.{same_kind, is_of, known}
use Rattle.g_graph.specs.Signatures.{result_kinds}
use Rattle.g_graph.specs.Splice.{args_to_inputs}
use Rattle.g_graph.specs.WellFormed.{some_of, are, same, kinds_of, distinct, one_state_each, region_fits, every_region}
use Rattle.g_graph.proofs.lemmas.KindLists.{are_themselves, kinds_of_some, some_kind}
use Rattle.g_graph.proofs.lemmas.Redirects.{nodes_ids-redirected}
use Rattle.g_graph.proofs.lemmas.Splices.{nodes_ids-joined}
use Rattle.g_graph.proofs.lemmas.Unique.{same_number}
use Rattle.g_mean.specs.Copies.{IsAmong}
use Rattle.g_mean.proofs.lemmas.Copies.{among-right}
use Rattle.r_edit.proofs.lemmas.AddedFit.{fits-parts}
use Rattle.r_edit.specs.Numbering.{node_count, region_numbered}
use Rattle.val_core.specs.Numbers.{numbers_from}
use Rattle.r_edit.proofs.lemmas.Fits.{copies_fit}
use Rattle.r_edit.proofs.lemmas.Numbering.{copies_are_numbered}
use Rattle.r_invert.specs.Compose.{in_sequence, alone}
use Rattle.r_invert.proofs.AloneFits.{NodeAsks, alone-kinds, alone-fits}
use Rattle.r_invert.proofs.Sequence.{HaveStates, sequence-kinds, sequence-fits}

-- ---- numbers

pub numbers-joined : (a j k : ℕ) → numbers_from a j ++ numbers_from (a + j) k ≡ numbers_from a (j + k)
numbers-joined a zero k =
    let same : a + 0 ≡ a = omega arith in
    let all : k ≡ 0 + k = omega arith in
    ap (λ m. numbers_from m k) same ∙ ap (numbers_from a) all
numbers-joined a (suc j) k =
    let next : a + suc j ≡ suc a + j = omega arith in
    let all : suc (j + k) ≡ suc j + k = omega arith in
    ap (λ m. a ∷ (numbers_from (suc a) j ++ numbers_from m k)) next ∙ ap (λ ns. a ∷ ns) (numbers-joined (suc a) j k) ∙ ap (numbers_from a) all

pub among-numbers : (n a k : ℕ) → IsAmong n (numbers_from a k) → (a ≤ n) × (n < a + k)
among-numbers n a zero h = absurd h
among-numbers n a (suc k) (inl e) = (omega (arith, e), omega (arith, e))
among-numbers n a (suc k) (inr h) = let r = among-numbers n (suc a) k h in (omega (arith, r.0), omega (arith, r.1))

pub has-among : (n : ℕ) (ns : NodeTrees) → has_node n ns ≡ true → IsAmong n (nodes_ids ns)
has-among n no_nodes e = absurd cc
has-among n (node_then (node id op inputs rs) ns) e = by (id == n) refl e (λ k. has-among n ns k)
  where
    by : (t : Bool) → (id == n) ≡ t → (t || has_node n ns) ≡ true → (has_node n ns ≡ true → IsAmong n (nodes_ids ns)) → IsAmong n ((id ∷ regions_ids rs) ++ nodes_ids ns)
    by true q d go = inl (sym (same_number id n q))
    by false q d go = among-right n (id ∷ regions_ids rs) (nodes_ids ns) (go d)

-- ---- regions

-- a region that fits, takes and gives these kinds, and whose numbers are unique
pub record Part (objects : ℕ) (args outs : List Kind) (r : RegionTree) : Type 0 where
  pub fits : every_region (region_fits objects) r ≡ true
  pub unique : distinct (region_ids r) ≡ true
  pub takes : args_of r ≡ args
  pub gives : result_kinds r ≡ map Some outs

-- a region that fits, takes and gives these kinds, and has so many numbers from a first one on
pub record Piece (objects first count : ℕ) (args outs : List Kind) (r : RegionTree) : Type 0 where
  pub fits : every_region (region_fits objects) r ≡ true
  pub ids : region_ids r ≡ numbers_from first count
  pub takes : args_of r ≡ args
  pub gives : result_kinds r ≡ map Some outs

pub numbered-piece : (objects first : ℕ) (args outs : List Kind) (r : RegionTree) → Part objects args outs r → Piece objects first (node_count r) args outs (region_numbered first r)
numbered-piece objects first args outs r h =
    let copy = copies_fit objects first r in
    record {
      fits = copy.inside ∙ h.fits;
      ids = copies_are_numbered first r h.unique;
      takes = copy.args ∙ h.takes;
      gives = copy.results ∙ h.gives;
    }

first-once : (objects first count : ℕ) (args outs : List Kind) (r : RegionTree) → Piece objects first count args outs r → one_state_each (map Some args) ≡ true
first-once objects first count args outs (region own ns results) h = ap (λ ks. one_state_each (map Some ks)) (sym h.takes) ∙ (fits-parts objects own ns results h.fits).first

second-once : (objects first count : ℕ) (args outs : List Kind) (r : RegionTree) → Piece objects first count args outs r → one_state_each (map Some outs) ≡ true
second-once objects first count args outs (region own ns results) h = ap one_state_each (sym h.gives) ∙ (fits-parts objects own ns results h.fits).second

-- ---- one after another

pub apart-pieces : (a j k : ℕ) (ns ms : List ℕ) → ns ≡ numbers_from a j → ms ≡ numbers_from (a + j) k → (n : ℕ) → IsAmong n ns → IsAmong n ms → ⊥
apart-pieces a j k ns ms e d n h g =
    let low = among-numbers n a j (subst (λ xs. IsAmong n xs) e h) in
    let high = among-numbers n (a + j) k (subst (λ xs. IsAmong n xs) d g) in
    omega (arith, low.1, high.0)

pub sequence-piece : (objects a j k : ℕ) (args mids outs : List Kind) (r s : RegionTree) → Piece objects a j args mids r → Piece objects (a + j) k mids outs s → HaveStates (map Some outs) →
    Piece objects a (j + k) args outs (in_sequence r s)
sequence-piece objects a j k args mids outs (region own ns results) (region others ms gets) r s states =
    let first = fits-parts objects own ns results r.fits in
    let second = fits-parts objects others ms gets s.fits in
    let kinds : map (known own ns) results ≡ map Some others = r.gives ∙ ap (map Some) (sym s.takes) in
    let apart = λ (n : ℕ) (h : has_node n ns ≡ true) (g : has_node n ms ≡ true). apart-pieces a j k (nodes_ids ns) (nodes_ids ms) r.ids s.ids n (has-among n ns h) (has-among n ms g) in
    record {
      fits = sequence-fits objects own ns results others ms gets apart first second kinds
          (record { memory = ap (some_of (is_of Memory)) s.gives ∙ states.memory; io = ap (some_of (is_of Io)) s.gives ∙ states.io });
      ids = nodes_ids-joined ns (nodes_redirected (args_to_inputs results) ms)
          ∙ (λ i. r.ids i ++ (nodes_ids-redirected (args_to_inputs results) ms ∙ s.ids) i) ∙ numbers-joined a j k;
      takes = r.takes;
      gives = sequence-kinds objects own ns results others ms gets apart first second kinds ∙ s.gives;
    }

-- ---- a Gamma of two regions, and a Theta

gamma-asks : (objects id : ℕ) (es outs : List Kind) (z b : RegionTree) → args_of z ≡ es → args_of b ≡ es → result_kinds z ≡ map Some outs → result_kinds b ≡ map Some outs →
    NodeAsks objects id Gamma (Value ∷ es) outs (region_then z (region_then b no_regions))
gamma-asks objects id es outs z b za ba zg bg =
    record {
      inputs = λ count. ap (λ ks. Value ∷ ks) za;
      outputs = zg;
      shape = λ is. refl;
      regions = λ is.
          let one : (r : RegionTree) → args_of r ≡ es → result_kinds r ≡ map Some outs → (same (args_of r) (args_of z) && are (result_kinds r) (kinds_of (result_kinds z))) ≡ true
          = λ r a g. (λ i. same (a i) (za i) && are (g i) (kinds_of (zg i)))
          ∙ (λ i. are_themselves es i && are (map Some outs) (kinds_of_some outs i)) ∙ are_themselves outs in
          λ i. one z za zg i && (one b ba bg i && true);
      theta = λ is. refl;
      width = λ is. refl;
      object = λ is. refl;
    }

pub gamma-piece : (objects a j k : ℕ) (es outs : List Kind) (z b : RegionTree) → Piece objects (suc a) j es outs z → Piece objects (suc a + j) k es outs b → HaveStates (map Some outs) →
    Piece objects a (suc (j + k)) (Value ∷ es) outs (alone a Gamma (Value ∷ es) (length outs) (region_then z (region_then b no_regions)))
gamma-piece objects a j k es outs z b h g states =
    let rs = region_then z (region_then b no_regions) in
    let asks = gamma-asks objects a es outs z b h.takes g.takes h.gives g.gives in
    let first = first-once objects (suc a) j es outs z h in
    let second = second-once objects (suc a) j es outs z h in
    record {
      fits = alone-fits objects a Gamma (Value ∷ es) outs rs asks first second states (λ i. h.fits i && (g.fits i && true));
      ids = append-nil (a ∷ (region_ids z ++ (region_ids b ++ []))) ∙ (λ i. a ∷ (h.ids i ++ (append-nil (region_ids b) ∙ g.ids) i)) ∙ ap (λ ns. a ∷ ns) (numbers-joined (suc a) j k);
      takes = refl;
      gives = alone-kinds objects a Gamma (Value ∷ es) outs rs asks first second;
    }

theta-asks : (objects id : ℕ) (es : List Kind) (r : RegionTree) → args_of r ≡ es → result_kinds r ≡ map Some (Value ∷ es) → HaveStates (map Some es) →
    NodeAsks objects id Theta es es (region_then r no_regions)
theta-asks objects id es r a g states =
    record {
      inputs = λ count. a;
      outputs = ap (map Some) a;
      shape = λ is. refl;
      regions = λ is. (λ i. are (g i) (Value ∷ a i) && true) ∙ (λ i. are_themselves (Value ∷ es) i && true);
      theta = λ is. (λ i. (some_of (same_kind Memory) (a i) && some_of (same_kind Io) (a i)) && true)
          ∙ (λ i. ((sym (some_kind Memory es) ∙ states.memory) i && (sym (some_kind Io es) ∙ states.io) i) && true);
      width = λ is. refl;
      object = λ is. refl;
    }

pub theta-piece : (objects a j : ℕ) (es : List Kind) (r : RegionTree) → Piece objects (suc a) j es (Value ∷ es) r → HaveStates (map Some es) →
    Piece objects a (suc j) es es (alone a Theta es (length es) (region_then r no_regions))
theta-piece objects a j es r h states =
    let asks = theta-asks objects a es r h.takes h.gives states in
    let first = first-once objects (suc a) j es (Value ∷ es) r h in
    record {
      fits = alone-fits objects a Theta es es (region_then r no_regions) asks first first states (λ i. h.fits i && true);
      ids = append-nil (a ∷ (region_ids r ++ [])) ∙ ap (λ ns. a ∷ ns) (append-nil (region_ids r) ∙ h.ids);
      takes = refl;
      gives = alone-kinds objects a Theta es es (region_then r no_regions) asks first first;
    }
