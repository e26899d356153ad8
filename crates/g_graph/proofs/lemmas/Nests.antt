-- The numbers of a nest where one region of it is changed: those of the region are exchanged, and all others stay.
use Rattle.std.specs.Option.{option_or}
use Rattle.std.proofs.Common.{◌≡◌, ◌≤◌, ◌+◌, ℕ, ◌++◌, Bool, true, ◌&&◌, List, [], ◌∷◌, length, refl, sym, ap, ◌∙◌, subst, append_assoc, append-nil, replicate, arith}
use Rattle.std.specs.Prelude.{◌==◌, nat_lt, count_by, option_map}
use Rattle.std.specs.declared.option.Option.{Option}
use Rattle.std.specs.declared.option.Option.TheVariants.{Some, None}
use Rattle.std.proofs.lemmas.Bool.{and_parts}
use Rattle.g_graph.specs.declared.op.Kind.TheVariants.{Value, Memory, Io}
use Rattle.g_graph.specs.Plain.{RegionTree, region, NodeTree, node, NodeTrees, no_nodes, node_then, RegionTrees, no_regions, region_then, PlainLambda}
use Rattle.g_graph.specs.Ids.{region_ids, node_ids, nodes_ids, regions_ids}
use Rattle.g_graph.specs.Change.{region_changed, node_changed, nodes_changed, regions_changed}
use Rattle.g_graph.specs.WellFormed.{all_of, distinct, leaves_fit, are, same, region_fits, every_region, every_in_node, every_in_nodes, every_in_regions, body_fits, numbers_fit, well_formed, IsWellFormed}
use Rattle.g_graph.proofs.lemmas.Unique.{times_append, all_of_append}
use Rattle.g_graph.proofs.lemmas.Numbers.{Numbered, numbered_left, numbered_right, numbered_fewer}
use Rattle.g_graph.proofs.NestLemmas.{KeepsRegion, region_changed_kept}

pub record Exchanged (objects : ℕ) (f : RegionTree → Option RegionTree) (is js : List ℕ) : Type 0 where
  pub old : RegionTree
  pub new : RegionTree
  pub here : f old ≡ Some new
  pub fits : every_region (region_fits objects) old ≡ true
  pub before : List ℕ
  pub after : List ℕ
  pub old_ids : is ≡ (before ++ region_ids old) ++ after
  pub new_ids : js ≡ (before ++ region_ids new) ++ after

following : (objects : ℕ) (f : RegionTree → Option RegionTree) (ks is js : List ℕ) → Exchanged objects f is js → Exchanged objects f (ks ++ is) (ks ++ js)
following objects f ks is js e = record {
  old = e.old;
  new = e.new;
  here = e.here;
  fits = e.fits;
  before = ks ++ e.before;
  after = e.after;
  old_ids = ap (λ xs. ks ++ xs) e.old_ids ∙ sym (append_assoc ks (e.before ++ region_ids e.old) e.after) ∙ ap (λ xs. xs ++ e.after) (sym (append_assoc ks e.before (region_ids e.old)));
  new_ids = ap (λ xs. ks ++ xs) e.new_ids ∙ sym (append_assoc ks (e.before ++ region_ids e.new) e.after) ∙ ap (λ xs. xs ++ e.after) (sym (append_assoc ks e.before (region_ids e.new)));
}

followed : (objects : ℕ) (f : RegionTree → Option RegionTree) (ks is js : List ℕ) → Exchanged objects f is js → Exchanged objects f (is ++ ks) (js ++ ks)
followed objects f ks is js e = record {
  old = e.old;
  new = e.new;
  here = e.here;
  fits = e.fits;
  before = e.before;
  after = e.after ++ ks;
  old_ids = ap (λ xs. xs ++ ks) e.old_ids ∙ append_assoc (e.before ++ region_ids e.old) e.after ks;
  new_ids = ap (λ xs. xs ++ ks) e.new_ids ∙ append_assoc (e.before ++ region_ids e.new) e.after ks;
}

mutual
  pub region_changed_ids : (objects : ℕ) (f : RegionTree → Option RegionTree) (r s : RegionTree) → region_changed f r ≡ Some s → every_region (region_fits objects) r ≡ true →
      Exchanged objects f (region_ids r) (region_ids s)
  region_changed_ids objects f (region args nodes results) s e own =
      by_cases (f (region args nodes results)) (nodes_changed f nodes) refl refl e
      (λ ms q. nodes_changed_ids objects f nodes ms q (and_parts (region_fits objects (region args nodes results)) (every_in_nodes (region_fits objects) nodes) own).1)
    where
      by_cases : (o : Option RegionTree) (p : Option NodeTrees) → f (region args nodes results) ≡ o → nodes_changed f nodes ≡ p →
          option_or o (option_map (λ ns. region args ns results) p) ≡ Some s → ((ms : NodeTrees) → nodes_changed f nodes ≡ Some ms → Exchanged objects f (nodes_ids nodes) (nodes_ids ms)) →
          Exchanged objects f (nodes_ids nodes) (region_ids s)
      by_cases (Some t) p a b c h = record {
        old = region args nodes results;
        new = s;
        here = a ∙ c;
        fits = own;
        before = [];
        after = [];
        old_ids = sym (append-nil (nodes_ids nodes));
        new_ids = sym (append-nil (region_ids s));
      }
      by_cases None (Some ms) a b c h =
          let same : region args ms results ≡ s = cc in
          subst (λ t. Exchanged objects f (nodes_ids nodes) (region_ids t)) same (h ms b)
      by_cases None None a b c h = absurd (cc)

  node_changed_ids : (objects : ℕ) (f : RegionTree → Option RegionTree) (x y : NodeTree) → node_changed f x ≡ Some y → every_in_node (region_fits objects) x ≡ true →
      Exchanged objects f (node_ids x) (node_ids y)
  node_changed_ids objects f (node id op inputs rs) y e own = by_cases (regions_changed f rs) refl e (λ ss q. regions_changed_ids objects f rs ss q own)
    where
      by_cases : (o : Option RegionTrees) → regions_changed f rs ≡ o → option_map (λ ss. node id op inputs ss) o ≡ Some y →
          ((ss : RegionTrees) → regions_changed f rs ≡ Some ss → Exchanged objects f (regions_ids rs) (regions_ids ss)) → Exchanged objects f (id ∷ regions_ids rs) (node_ids y)
      by_cases (Some ss) a c h =
          let same : node id op inputs ss ≡ y = cc in
          subst (λ t. Exchanged objects f (id ∷ regions_ids rs) (node_ids t)) same (following objects f (id ∷ []) (regions_ids rs) (regions_ids ss) (h ss a))
      by_cases None a c h = absurd (cc)

  nodes_changed_ids : (objects : ℕ) (f : RegionTree → Option RegionTree) (ns ms : NodeTrees) → nodes_changed f ns ≡ Some ms → every_in_nodes (region_fits objects) ns ≡ true →
      Exchanged objects f (nodes_ids ns) (nodes_ids ms)
  nodes_changed_ids objects f no_nodes ms e own = absurd (cc)
  nodes_changed_ids objects f (node_then x xs) ms e own =
      by_cases (node_changed f x) (nodes_changed f xs) refl refl e
      (λ y q. node_changed_ids objects f x y q (and_parts (every_in_node (region_fits objects) x) (every_in_nodes (region_fits objects) xs) own).0)
      (λ ys q. nodes_changed_ids objects f xs ys q (and_parts (every_in_node (region_fits objects) x) (every_in_nodes (region_fits objects) xs) own).1)
    where
      by_cases : (o : Option NodeTree) (p : Option NodeTrees) → node_changed f x ≡ o → nodes_changed f xs ≡ p →
          option_or (option_map (λ y. node_then y xs) o) (option_map (λ ys. node_then x ys) p) ≡ Some ms →
          ((y : NodeTree) → node_changed f x ≡ Some y → Exchanged objects f (node_ids x) (node_ids y)) →
          ((ys : NodeTrees) → nodes_changed f xs ≡ Some ys → Exchanged objects f (nodes_ids xs) (nodes_ids ys)) →
          Exchanged objects f (node_ids x ++ nodes_ids xs) (nodes_ids ms)
      by_cases (Some y) p a b c h g =
          let same : node_then y xs ≡ ms = cc in
          subst (λ t. Exchanged objects f (node_ids x ++ nodes_ids xs) (nodes_ids t)) same (followed objects f (nodes_ids xs) (node_ids x) (node_ids y) (h y a))
      by_cases None (Some ys) a b c h g =
          let same : node_then x ys ≡ ms = cc in
          subst (λ t. Exchanged objects f (node_ids x ++ nodes_ids xs) (nodes_ids t)) same (following objects f (node_ids x) (nodes_ids xs) (nodes_ids ys) (g ys b))
      by_cases None None a b c h g = absurd (cc)

  regions_changed_ids : (objects : ℕ) (f : RegionTree → Option RegionTree) (rs ss : RegionTrees) → regions_changed f rs ≡ Some ss → every_in_regions (region_fits objects) rs ≡ true →
      Exchanged objects f (regions_ids rs) (regions_ids ss)
  regions_changed_ids objects f no_regions ss e own = absurd (cc)
  regions_changed_ids objects f (region_then r rs) ss e own =
      by_cases (region_changed f r) (regions_changed f rs) refl refl e
      (λ s q. region_changed_ids objects f r s q (and_parts (every_region (region_fits objects) r) (every_in_regions (region_fits objects) rs) own).0)
      (λ ts q. regions_changed_ids objects f rs ts q (and_parts (every_region (region_fits objects) r) (every_in_regions (region_fits objects) rs) own).1)
    where
      by_cases : (o : Option RegionTree) (p : Option RegionTrees) → region_changed f r ≡ o → regions_changed f rs ≡ p →
          option_or (option_map (λ s. region_then s rs) o) (option_map (λ ts. region_then r ts) p) ≡ Some ss →
          ((s : RegionTree) → region_changed f r ≡ Some s → Exchanged objects f (region_ids r) (region_ids s)) →
          ((ts : RegionTrees) → regions_changed f rs ≡ Some ts → Exchanged objects f (regions_ids rs) (regions_ids ts)) →
          Exchanged objects f (region_ids r ++ regions_ids rs) (regions_ids ss)
      by_cases (Some s) p a b c h g =
          let same : region_then s rs ≡ ss = cc in
          subst (λ t. Exchanged objects f (region_ids r ++ regions_ids rs) (regions_ids t)) same (followed objects f (regions_ids rs) (region_ids r) (region_ids s) (h s a))
      by_cases None (Some ts) a b c h g =
          let same : region_then r ts ≡ ss = cc in
          subst (λ t. Exchanged objects f (region_ids r ++ regions_ids rs) (regions_ids t)) same (following objects f (region_ids r) (regions_ids rs) (regions_ids ts) (g ts b))
      by_cases None None a b c h g = absurd (cc)

-- how often a number stands in the whole changes as it does in the region
pub exchanged_counts : (objects : ℕ) (f : RegionTree → Option RegionTree) (is js : List ℕ) (e : Exchanged objects f is js) (n : ℕ) →
    count_by (λ m. m == n) js + count_by (λ m. m == n) (region_ids e.old) ≡ count_by (λ m. m == n) is + count_by (λ m. m == n) (region_ids e.new)
exchanged_counts objects f is js e n =
    omega (
      arith,
      ap (count_by (λ m. m == n)) e.old_ids,
      ap (count_by (λ m. m == n)) e.new_ids,
      times_append n (e.before ++ region_ids e.old) e.after,
      times_append n (e.before ++ region_ids e.new) e.after,
      times_append n e.before (region_ids e.old),
      times_append n e.before (region_ids e.new),
    )

-- a test of all numbers holds where it held, and of the region's new ones
pub exchanged_all : (objects : ℕ) (f : RegionTree → Option RegionTree) (is js : List ℕ) (test : ℕ → Bool) (e : Exchanged objects f is js) → all_of test is ≡ true →
    all_of test (region_ids e.new) ≡ true →
    all_of test js ≡ true
exchanged_all objects f is js test e all new =
    let whole : (all_of test (e.before ++ region_ids e.old) && all_of test e.after) ≡ true = sym (all_of_append test (e.before ++ region_ids e.old) e.after) ∙ ap (all_of test) (sym e.old_ids) ∙ all in
    let front : (all_of test e.before && all_of test (region_ids e.old)) ≡ true =
    sym (all_of_append test e.before (region_ids e.old)) ∙ (and_parts (all_of test (e.before ++ region_ids e.old)) (all_of test e.after) whole).0 in
    ap (all_of test) e.new_ids ∙ all_of_append test (e.before ++ region_ids e.new) e.after
    ∙ (λ i. (all_of_append test e.before (region_ids e.new) ∙ (λ j. (and_parts (all_of test e.before) (all_of test (region_ids e.old)) front).0 j && new j)) i
    && (and_parts (all_of test (e.before ++ region_ids e.old)) (all_of test e.after) whole).1 i)

pub numbers_numbered : (l : PlainLambda) → numbers_fit l ≡ true → Numbered l.next (region_ids l.body)
numbers_numbered l e = record {
  unique = (and_parts (distinct (region_ids l.body)) (all_of (λ n. nat_lt n l.next) (region_ids l.body)) e).0;
  below = (and_parts (distinct (region_ids l.body)) (all_of (λ n. nat_lt n l.next) (region_ids l.body)) e).1;
}

-- the lambda stays well formed where the change of the region does, and numbers are unique and below the next
pub changed_well_formed : (f : RegionTree → Option RegionTree) (l : PlainLambda) (s : RegionTree) (next : ℕ) → KeepsRegion (length l.objects) l.next f → region_changed f l.body ≡ Some s →
    well_formed l ≡ true → numbers_fit (record l { body = s; next = next }) ≡ true → well_formed (record l { body = s; next = next }) ≡ true
changed_well_formed f l s next k e w numbers =
    let body = body_fits l in
    let nest = every_region (region_fits (length l.objects)) l.body in
    let objects = all_of (λ o. leaves_fit o.size 0 o.leaves) l.objects in
    let front = (and_parts (body && numbers_fit l && nest) objects w).0 in
    let own = (and_parts (body && numbers_fit l) nest front).0 in
    let kept = region_changed_kept (length l.objects) l.next f k l.body s e (and_parts (body && numbers_fit l) nest front).1 (numbers_numbered l (and_parts body (numbers_fit l) own).1) in
    let body_kept : body_fits (record l { body = s; next = next }) ≡ true =
    (λ i. same (kept.args i) (replicate l.params Value ++ Memory ∷ Io ∷ []) && are (kept.results i) (Value ∷ Memory ∷ Io ∷ [])) ∙ (and_parts body (numbers_fit l) own).0 in
    λ i. body_kept i && numbers i && kept.inside i && (and_parts (body && numbers_fit l && nest) objects w).1 i

-- It stays well formed, with the same next number, where the changed region has no numbers but those that it had.
pub changed_well_formed_within : (f : RegionTree → Option RegionTree) (l : PlainLambda) (s : RegionTree) → KeepsRegion (length l.objects) l.next f →
    ((r t : RegionTree) → f r ≡ Some t → every_region (region_fits (length l.objects)) r ≡ true → Numbered l.next (region_ids r) → (n : ℕ) →
    count_by (λ m. m == n) (region_ids t) ≤ count_by (λ m. m == n) (region_ids r)) →
    region_changed f l.body ≡ Some s → well_formed l ≡ true → well_formed (record l { body = s }) ≡ true
changed_well_formed_within f l s k fewer e w =
    let nest = every_region (region_fits (length l.objects)) l.body in
    let objects = all_of (λ o. leaves_fit o.size 0 o.leaves) l.objects in
    let front = (and_parts (body_fits l && numbers_fit l && nest) objects w).0 in
    let old = numbers_numbered l (and_parts (body_fits l) (numbers_fit l) (and_parts (body_fits l && numbers_fit l) nest front).0).1 in
    let x = region_changed_ids (length l.objects) f l.body s e (and_parts (body_fits l && numbers_fit l) nest front).1 in
    let whole : Numbered l.next ((x.before ++ region_ids x.old) ++ x.after) = subst (λ ns. Numbered l.next ns) x.old_ids old in
    let here = numbered_right l.next x.before (region_ids x.old) (numbered_left l.next (x.before ++ region_ids x.old) x.after whole) in
    let now =
    numbered_fewer l.next (region_ids l.body) (region_ids s)
    (λ n. omega (arith, exchanged_counts (length l.objects) f (region_ids l.body) (region_ids s) x n, fewer x.old x.new x.here x.fits here n)) old in
    changed_well_formed f l s l.next k e w (λ i. now.unique i && now.below i)

pub regions_of_well_formed : (l : PlainLambda) → IsWellFormed l → every_region (region_fits (length l.objects)) l.body ≡ true
regions_of_well_formed l w =
    (and_parts (body_fits l && numbers_fit l) (every_region (region_fits (length l.objects)) l.body)
    ((and_parts (body_fits l && numbers_fit l && every_region (region_fits (length l.objects)) l.body) (all_of (λ o. leaves_fit o.size 0 o.leaves) l.objects) w).0)).1
