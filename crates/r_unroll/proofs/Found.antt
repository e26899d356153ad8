-- The loop that is found first is the one that the change unrolls.
use Rattle.std.specs.Option.{option_or}
use Rattle.std.specs.Prelude.{◌==◌, option_and_then, unwrap_or, ◌-◌, is_some}
use Rattle.std.proofs.Common.{◌≡◌, ℕ, ◌+◌, Bool, true, false, cond, List, [], ◌∷◌, ◌++◌, length, length-append, Option, None, Some, option_map, refl, sym, ap, subst, ◌∙◌, inl, inr, arith}
use Rattle.std.proofs.lemmas.List.{length-map}
use Rattle.std.proofs.lemmas.Option.{cond_some, same_Some}
use Rattle.g_graph.specs.declared.op.Op.TheVariants.{Theta}
use Rattle.g_graph.specs.declared.op.Origin.{Origin}
use Rattle.g_graph.specs.declared.op.Origin.TheVariants.{Out}
use Rattle.g_graph.specs.Plain.{RegionTree, region, NodeTree, node, NodeTrees, no_nodes, node_then, RegionTrees, no_regions, region_then, id_of, regions_in, results_of, PlainLambda}
use Rattle.g_graph.specs.Change.{region_changed}
use Rattle.g_graph.specs.Ids.{region_ids, nodes_ids, node_ids}
use Rattle.g_graph.specs.Nodes.{node_at, node_set}
use Rattle.g_graph.specs.Program.{lambda_values}
use Rattle.g_graph.specs.Splice.{joined_nodes}
use Rattle.g_graph.specs.WellFormed.{region_fits, every_region}
use Rattle.g_graph.proofs.lemmas.Found.{found_at}
use Rattle.g_graph.proofs.lemmas.Nests.{region_changed_ids}
use Rattle.g_graph.proofs.lemmas.Splices.{nodes_ids-joined}
use Rattle.g_mean.specs.Copies.{NodeReads, NodesRead, AllClosed, IsClosed, is_argument}
use Rattle.r_edit.specs.Found.{region_found, node_found, nodes_found, regions_found}
use Rattle.r_edit.proofs.lemmas.Found.{Agree, Only, both-change, found-where-changed}
use Rattle.r_edit.specs.Numbering.{number_from, node_count, region_numbered}
use Rattle.r_edit.proofs.lemmas.Numbering.{copied-ids}
use Rattle.r_edit.proofs.lemmas.Loops.{loop_node}
use Rattle.r_edit.specs.Origins.{origins_from}
use Rattle.r_unroll.specs.Rule.{followed_by, second_turn_of, unrolled, may_unroll, node_unrolled, unroll_here, lambda_unrolled}
use Rattle.r_unroll.specs.Edit.{loop_body, loop_at, node_followed, followed_at}
use Rattle.r_unroll.proofs.Counted.{here_found}

-- ---- what is found is closed

record FoundIn (h : RegionTree → Option RegionTree) (y : RegionTree) : Type 0 where
  holder : RegionTree
  closed : IsClosed holder
  here : h holder ≡ Some y

module _ (h : RegionTree → Option RegionTree) (y : RegionTree) where
  mutual
    region-found : (r : RegionTree) → IsClosed r → region_found h r ≡ Some y → FoundIn h y
    region-found (region args nodes results) c e = by (h (region args nodes results)) refl e (λ d. nodes-found (is_argument (length args)) [] nodes c.0 d)
      where
        by : (o : Option RegionTree) → h (region args nodes results) ≡ o → option_or o (nodes_found h nodes) ≡ Some y → (nodes_found h nodes ≡ Some y → FoundIn h y) → FoundIn h y
        by None d e go = go e
        by (Some z) d e go = record { holder = region args nodes results; closed = c; here = d ∙ e }

    node-found : (S : Origin → Bool) (known : List ℕ) (x : NodeTree) → NodeReads S known x → node_found h x ≡ Some y → FoundIn h y
    node-found S known (node id op inputs rs) c e = regions-found rs c.1 e

    nodes-found : (S : Origin → Bool) (known : List ℕ) (ns : NodeTrees) → NodesRead S known ns → nodes_found h ns ≡ Some y → FoundIn h y
    nodes-found S known no_nodes c e = absurd cc
    nodes-found S known (node_then x ns) c e =
        by (node_found h x) refl e (λ d. node-found S known x c.0 d) (λ d. nodes-found S (id_of x ∷ known) ns c.1 d)
      where
        by : (o : Option RegionTree) → node_found h x ≡ o → option_or o (nodes_found h ns) ≡ Some y → (node_found h x ≡ Some y → FoundIn h y) → (nodes_found h ns ≡ Some y → FoundIn h y) → FoundIn h y
        by None d e one go = go e
        by (Some z) d e one go = one (d ∙ e)

    regions-found : (rs : RegionTrees) → AllClosed rs → regions_found h rs ≡ Some y → FoundIn h y
    regions-found no_regions c e = absurd cc
    regions-found (region_then r rs) c e = by (region_found h r) refl e (λ d. region-found r c.0 d) (λ d. regions-found rs c.1 d)
      where
        by : (o : Option RegionTree) → region_found h r ≡ o → option_or o (regions_found h rs) ≡ Some y → (region_found h r ≡ Some y → FoundIn h y) → (regions_found h rs ≡ Some y → FoundIn h y) →
            FoundIn h y
        by None d e one go = go e
        by (Some z) d e one go = one (d ∙ e)

-- ---- the loop

-- the regions of a node of a closed region are closed
within : (S : Origin → Bool) (known : List ℕ) (ns : NodeTrees) (n : ℕ) (x : NodeTree) → NodesRead S known ns → node_at n ns ≡ Some x → AllClosed (regions_in x)
within S known no_nodes n x c e = absurd cc
within S known (node_then z ns) n x c e = by (id_of z == n) e (λ d. within S (id_of z ∷ known) ns n x c.1 d)
  where
    own : (w : NodeTree) → NodeReads S known w → AllClosed (regions_in w)
    own (node id op inputs rs) h = h.1

    by : (t : Bool) → cond t (Some z) (node_at n ns) ≡ Some x → (node_at n ns ≡ Some x → AllClosed (regions_in x)) → AllClosed (regions_in x)
    by true d go = subst (λ w. AllClosed (regions_in w)) (same_Some z x d) (own z c.0)
    by false d go = go d

record IsLoop (values next : ℕ) (x : NodeTree) (y : RegionTree) : Type 0 where
  id : ℕ
  inputs : List Origin
  is : x ≡ loop_node id inputs y
  can : may_unroll values next y ≡ true

is-loop : (values next : ℕ) (x : NodeTree) (y : RegionTree) → loop_body values next x ≡ Some y → IsLoop values next x y
is-loop values next (node id Theta inputs (region_then r no_regions)) y e =
    let c = cond_some (may_unroll values next r) r y e in
    record { id = id; inputs = inputs; is = ap (loop_node id inputs) c.1; can = ap (may_unroll values next) (sym c.1) ∙ c.0 }
is-loop values next (node id Theta inputs no_regions) y e = absurd cc
is-loop values next (node id Theta inputs (region_then r (region_then t rs))) y e = absurd cc
is-loop values next (node id _ inputs rs) y e = absurd cc

pub record FoundLoop (values next : ℕ) (y : RegionTree) : Type 0 where
  pub closed : IsClosed y
  pub can : may_unroll values next y ≡ true

loop-found : (values next n : ℕ) (t : RegionTree) (y : RegionTree) → IsClosed t → loop_at values next n t ≡ Some y → FoundLoop values next y
loop-found values next n (region args nodes results) y c e = by (node_at n nodes) refl e
  where
    by : (o : Option NodeTree) → node_at n nodes ≡ o → option_and_then (loop_body values next) o ≡ Some y → FoundLoop values next y
    by None d f = absurd cc
    by (Some x) d f =
        let loop = is-loop values next x y f in
        let inner = within (is_argument (length args)) [] nodes n (loop_node loop.id loop.inputs y) c.0 (d ∙ ap Some loop.is) in
        record { closed = inner.0; can = loop.can }

pub found-loop : (values next n : ℕ) (r y : RegionTree) → IsClosed r → region_found (loop_at values next n) r ≡ Some y → FoundLoop values next y
found-loop values next n r y c e =
    let at = region-found (loop_at values next n) y r c e in
    loop-found values next n at.holder y at.closed at.here

-- ---- the change with what was made of the loop

abbrev pub made : (values next n : ℕ) → RegionTree → RegionTree → Option RegionTree
made values next n y = followed_at values next n (second_turn_of next y) (origins_from (Out next) 0 (length (results_of y)))

module _ (values next n : ℕ) (y : RegionTree) where
  abbrev last : NodeTree
  last = second_turn_of next y

  abbrev outs : List Origin
  outs = origins_from (Out next) 0 (length (results_of y))

  base : (t : RegionTree) → Only y (loop_at values next n t) → Agree (loop_at values next n t) (unroll_here values next n t) (made values next n y t)
  base (region args nodes results) only = by (node_at n nodes) only
    where
      with_node : NodeTree → RegionTree
      with_node x = region args (node_set n x nodes) results

      test : (id : ℕ) (inputs : List Origin) (r : RegionTree) (t : Bool) → Only y (cond t (Some r) None) →
          Agree (cond t (Some r) None) (option_map with_node (cond t (Some (loop_node id inputs (unrolled next r))) None))
          (option_map with_node (cond t (Some (loop_node id inputs (followed_by last outs r))) None))
      test id inputs r true only =
          inr (record {
            found = r;
            is = refl;
            result = with_node (loop_node id inputs (unrolled next r));
            left = refl;
            right = ap (λ z. Some (with_node (loop_node id inputs (followed_by (second_turn_of next z) (origins_from (Out next) 0 (length (results_of z))) r)))) (sym (only r refl));
          })
      test id inputs r false only = inl (refl, refl, refl)

      by : (o : Option NodeTree) → Only y (option_and_then (loop_body values next) o) →
          Agree (option_and_then (loop_body values next) o) (option_map with_node (option_and_then (node_unrolled values next) o))
          (option_map with_node (option_and_then (node_followed values next last outs) o))
      by None only = inl (refl, refl, refl)
      by (Some (node id Theta inputs (region_then r no_regions))) only = test id inputs r (may_unroll values next r) only
      by (Some (node id Theta inputs no_regions)) only = inl (refl, refl, refl)
      by (Some (node id Theta inputs (region_then r (region_then t rs)))) only = inl (refl, refl, refl)
      by (Some (node id _ inputs rs)) only = inl (refl, refl, refl)

  pub made-changes : (r : RegionTree) → region_found (loop_at values next n) r ≡ Some y →
      (s : RegionTree) × (region_changed (unroll_here values next n) r ≡ Some s) × (region_changed (made values next n y) r ≡ Some s)
  made-changes r e = both-change (loop_at values next n) (unroll_here values next n) (made values next n y) y base r e

-- where the rule applies something is found
pub found-some : (values next n : ℕ) (r : RegionTree) → is_some (region_changed (unroll_here values next n) r) ≡ true → is_some (region_found (loop_at values next n) r) ≡ true
found-some values next n r e = found-where-changed (loop_at values next n) (unroll_here values next n) (here_found values next n) r e

-- ---- numbers in number

joined-count : (xs ys : NodeTrees) → length (nodes_ids (joined_nodes xs ys)) ≡ length (nodes_ids xs) + length (nodes_ids ys)
joined-count xs ys = ap length (nodes_ids-joined xs ys) ∙ length-append (nodes_ids xs) (nodes_ids ys)

turn-count : (next : ℕ) (r : RegionTree) → length (node_ids (second_turn_of next r)) ≡ 2 + node_count r
turn-count next (region args nodes results) =
    let r = region args nodes results in
    omega (
      arith,
      length-append (region_ids (region_numbered (next + 2) r)) [],
      ap length (copied-ids (number_from (next + 2) (region_ids r)) r),
      length-map (region_ids r) (number_from (next + 2) (region_ids r)),
    )

module _ (values next n : ℕ) (last : NodeTree) (outs : List Origin) where
  loop-count : (before : NodeTrees) (id : ℕ) (inputs : List Origin) (r : RegionTree) (after : NodeTrees) →
      length (nodes_ids (joined_nodes before (node_then (loop_node id inputs r) after))) ≡ length (nodes_ids before) + 1 + length (region_ids r) + length (nodes_ids after)
  loop-count before id inputs r after =
      omega (
        arith,
        joined-count before (node_then (loop_node id inputs r) after),
        length-append (id ∷ (region_ids r ++ [])) (nodes_ids after),
        length-append (region_ids r) [],
      )

  followed-count : (r : RegionTree) → length (region_ids (followed_by last outs r)) ≡ length (region_ids r) + length (node_ids last)
  followed-count (region args nodes results) = omega (arith, joined-count nodes (node_then last no_nodes), length-append (node_ids last) [])

  counted : (x z : NodeTree) (before after : NodeTrees) → node_followed values next last outs x ≡ Some z →
      length (nodes_ids (joined_nodes before (node_then z after))) ≡ length (nodes_ids (joined_nodes before (node_then x after))) + length (node_ids last)
  counted (node id Theta inputs (region_then r no_regions)) z before after e =
      let c = cond_some (may_unroll values next r) (loop_node id inputs (followed_by last outs r)) z e in
      omega (
        arith,
        ap (λ w. length (nodes_ids (joined_nodes before (node_then w after)))) (sym c.1),
        loop-count before id inputs (followed_by last outs r) after,
        loop-count before id inputs r after,
        followed-count r,
      )
  counted (node id Theta inputs no_regions) z before after e = absurd cc
  counted (node id Theta inputs (region_then r (region_then t rs))) z before after e = absurd cc
  counted (node id _ inputs rs) z before after e = absurd cc

  here-count : (r s : RegionTree) → followed_at values next n last outs r ≡ Some s → node_count s ≡ node_count r + length (node_ids last)
  here-count (region args nodes results) s e = by (node_at n nodes) refl e
    where
      by-node : (x : NodeTree) → node_at n nodes ≡ Some x → (o : Option NodeTree) → node_followed values next last outs x ≡ o →
          option_map (λ y. region args (node_set n y nodes) results) o ≡ Some s → node_count s ≡ length (nodes_ids nodes) + length (node_ids last)
      by-node x d None c f = absurd cc
      by-node x d (Some z) c f =
          let at = found_at n nodes x d in
          omega (
            arith,
            ap node_count (sym (same_Some (region args (node_set n z nodes) results) s f)),
            ap (λ ns. length (nodes_ids ns)) (at.first z),
            ap (λ ns. length (nodes_ids ns)) at.is,
            counted x z at.before at.after c,
          )

      by : (o : Option NodeTree) → node_at n nodes ≡ o →
          option_map (λ y. region args (node_set n y nodes) results) (option_and_then (node_followed values next last outs) o) ≡ Some s →
          node_count s ≡ length (nodes_ids nodes) + length (node_ids last)
      by None d f = absurd cc
      by (Some x) d f = by-node x d (node_followed values next last outs x) refl f

  changed-count : (objects : ℕ) (r s : RegionTree) → region_changed (followed_at values next n last outs) r ≡ Some s → every_region (region_fits objects) r ≡ true →
      node_count s ≡ node_count r + length (node_ids last)
  changed-count objects r s e fits =
      let x = region_changed_ids objects (followed_at values next n last outs) r s e fits in
      omega (
        arith,
        here-count x.old x.new x.here,
        ap length x.old_ids,
        ap length x.new_ids,
        length-append (x.before ++ region_ids x.old) x.after,
        length-append (x.before ++ region_ids x.new) x.after,
        length-append x.before (region_ids x.old),
        length-append x.before (region_ids x.new),
      )

-- The lambda that comes where the first loop that is found is given what was made of it.
pub unroll-made : (n : ℕ) (l : PlainLambda) (y : RegionTree) → every_region (region_fits (length l.objects)) l.body ≡ true → region_found (loop_at (lambda_values l) l.next n) l.body ≡ Some y →
    lambda_unrolled n l ≡ record l { body = unwrap_or (region_changed (made (lambda_values l) l.next n y) l.body) l.body; next = l.next + 2 + node_count y }
unroll-made n l y fits e =
    let c = made-changes (lambda_values l) l.next n y l.body e in
    let count = changed-count (lambda_values l) l.next n (second_turn_of l.next y) (origins_from (Out l.next) 0 (length (results_of y))) (length l.objects) l.body c.0 c.2 fits in
    let next : l.next + (node_count c.0 - node_count l.body) ≡ l.next + 2 + node_count y = omega (arith, count, turn-count l.next y) in
    (λ i. record l { body = unwrap_or (c.1 i) l.body; next = l.next + (node_count (unwrap_or (c.1 i) l.body) - node_count l.body) })
    ∙ (λ i. record l { body = unwrap_or (sym c.2 i) l.body; next = next i })
