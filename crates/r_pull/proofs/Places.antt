-- What the rule answers at a node in a body: what the region that holds the node answers.
use Rattle.std.specs.Option.{option_or}
use Rattle.std.proofs.Common.{◌≡◌, ℕ, ◌==◌, ◌||◌, ◌⊎◌, Bool, true, false, List, [], ◌∷◌, ◌++◌, Option, None, Some, refl, sym, ap, ap₂, subst, ◌∙◌, inl, inr}
use Rattle.g_graph.specs.declared.op.Kind.{Kind}
use Rattle.g_graph.specs.declared.op.Op.{Op}
use Rattle.g_graph.specs.declared.op.Origin.{Origin}
use Rattle.g_graph.specs.Change.{has_node}
use Rattle.g_graph.specs.Ids.{region_ids, nodes_ids, regions_ids}
use Rattle.g_graph.specs.Plain.{RegionTree, region, NodeTree, node, NodeTrees, no_nodes, node_then, RegionTrees, no_regions, region_then, nodes_in}
use Rattle.g_graph.specs.Splice.{joined_nodes}
use Rattle.g_graph.proofs.lemmas.Indexes.{has_node-joined}
use Rattle.g_graph.proofs.lemmas.Splices.{nodes_ids-joined}
use Rattle.g_graph.proofs.lemmas.Unique.{same_number}
use Rattle.g_mean.specs.Copies.{IsAmong}
use Rattle.g_mean.proofs.lemmas.Copies.{among-left, among-right, among-split}
use Rattle.r_pull.specs.Rule.{region_answer, node_answer, nodes_answer, regions_answer}
use Rattle.r_walk.specs.Context.{joined_regions, IsContext}
use Rattle.r_walk.proofs.lemmas.Contexts.{has_none, body_context, inner_context, regions_ids-joined}

-- only a region that itself holds node n answers
abbrev pub AnswersOnlyAt : (n : ℕ) → (RegionTree → Option ℕ) → Type 0
AnswersOnlyAt n f = (r : RegionTree) → has_node n (nodes_in r) ≡ false → f r ≡ None

abbrev pub hollow : RegionTree
hollow = region [] no_nodes []

-- A node that is not around a region has the answer of that region.
pub record IsPlace (context : RegionTree → RegionTree) : Type 0 where
  pub is : IsContext context
  pub answers : (n : ℕ) (f : RegionTree → Option ℕ) (r : RegionTree) → AnswersOnlyAt n f → (IsAmong n (region_ids (context hollow)) → ⊥) → region_answer f (context r) ≡ region_answer f r

pub or_none : (o : Option ℕ) → option_or o None ≡ o
or_none None = refl
or_none (Some k) = refl

module _ (n : ℕ) (f : RegionTree → Option ℕ) (only : AnswersOnlyAt n f) where
  mutual
    silent : (r : RegionTree) → (IsAmong n (region_ids r) → ⊥) → region_answer f r ≡ None
    silent (region args nodes results) h = ap₂ option_or (only (region args nodes results) (has_none n nodes h)) (nodes_silent nodes h)

    pub nodes_silent : (ns : NodeTrees) → (IsAmong n (nodes_ids ns) → ⊥) → nodes_answer f ns ≡ None
    nodes_silent no_nodes h = refl
    nodes_silent (node_then (node id op inputs rs) ns) h =
        ap₂ option_or (regions_silent rs (λ k. h (inr (among-left n (regions_ids rs) (nodes_ids ns) k)))) (nodes_silent ns (λ k. h (among-right n (id ∷ regions_ids rs) (nodes_ids ns) k)))

    pub regions_silent : (rs : RegionTrees) → (IsAmong n (regions_ids rs) → ⊥) → regions_answer f rs ≡ None
    regions_silent no_regions h = refl
    regions_silent (region_then r rs) h =
        ap₂ option_or (silent r (λ k. h (among-left n (region_ids r) (regions_ids rs) k))) (regions_silent rs (λ k. h (among-right n (region_ids r) (regions_ids rs) k)))

  pub nodes_answer_within : (before : NodeTrees) (x : NodeTree) (after : NodeTrees) → (IsAmong n (nodes_ids before) → ⊥) → (IsAmong n (nodes_ids after) → ⊥) →
      nodes_answer f (joined_nodes before (node_then x after)) ≡ node_answer f x
  nodes_answer_within no_nodes x after h k = ap (option_or (node_answer f x)) (nodes_silent after k) ∙ or_none (node_answer f x)
  nodes_answer_within (node_then (node id op inputs rs) before) x after h k =
      ap₂ option_or (regions_silent rs (λ j. h (inr (among-left n (regions_ids rs) (nodes_ids before) j))))
      (nodes_answer_within before x after (λ j. h (among-right n (id ∷ regions_ids rs) (nodes_ids before) j)) k)

  regions_answer_within : (done : RegionTrees) (r : RegionTree) (rest : RegionTrees) → (IsAmong n (regions_ids done) → ⊥) → (IsAmong n (regions_ids rest) → ⊥) →
      regions_answer f (joined_regions done (region_then r rest)) ≡ region_answer f r
  regions_answer_within no_regions r rest h k = ap (option_or (region_answer f r)) (regions_silent rest k) ∙ or_none (region_answer f r)
  regions_answer_within (region_then d done) r rest h k =
      ap₂ option_or (silent d (λ j. h (among-left n (region_ids d) (regions_ids done) j)))
      (regions_answer_within done r rest (λ j. h (among-right n (region_ids d) (regions_ids done) j)) k)

-- ---- the body, and a region of a node

pub body_place : IsPlace (λ r. r)
body_place = record { is = body_context; answers = λ n f r only h. refl }

module _ (context : RegionTree → RegionTree) (around : IsPlace context) (args : List Kind) (before : NodeTrees) (id : ℕ) (op : Op) (inputs : List Origin)
    (done rest : RegionTrees) (after : NodeTrees) (results : List Origin) where
  abbrev with_region : RegionTree → RegionTree
  with_region r = region args (joined_nodes before (node_then (node id op inputs (joined_regions done (region_then r rest))) after)) results

  around_ids : (r : RegionTree) → region_ids (context r) ≡ around.is.first ++ region_ids r ++ around.is.last
  around_ids = around.is.numbers

  module _ (n : ℕ) (f : RegionTree → Option ℕ) (r : RegionTree) (only : AnswersOnlyAt n f) (absent : IsAmong n (region_ids (context (with_region hollow))) → ⊥) where
    not_within : IsAmong n (region_ids (with_region hollow)) → ⊥
    not_within j =
        absent (subst (IsAmong n) (sym (around_ids (with_region hollow)))
        (among-left n (around.is.first ++ region_ids (with_region hollow)) around.is.last (among-right n around.is.first (region_ids (with_region hollow)) j)))

    not_around : IsAmong n (region_ids (context hollow)) → ⊥
    not_around j = absent (subst (IsAmong n) (sym (around_ids (with_region hollow))) (wider (among-split n (around.is.first ++ []) around.is.last (subst (IsAmong n) (around_ids hollow) j))))
      where
        front : IsAmong n around.is.first ⊎ IsAmong n [] → IsAmong n (around.is.first ++ region_ids (with_region hollow))
        front (inl i) = among-left n around.is.first (region_ids (with_region hollow)) i
        front (inr i) = absurd i

        wider : IsAmong n (around.is.first ++ []) ⊎ IsAmong n around.is.last → IsAmong n ((around.is.first ++ region_ids (with_region hollow)) ++ around.is.last)
        wider (inl i) = among-left n (around.is.first ++ region_ids (with_region hollow)) around.is.last (front (among-split n around.is.first [] i))
        wider (inr i) = among-right n (around.is.first ++ region_ids (with_region hollow)) around.is.last i

    in_nodes : IsAmong n (nodes_ids before ++ ((id ∷ regions_ids (joined_regions done (region_then hollow rest))) ++ nodes_ids after)) → ⊥
    in_nodes j = not_within (subst (IsAmong n) (sym (nodes_ids-joined before (node_then (node id op inputs (joined_regions done (region_then hollow rest))) after))) j)

    not_before : IsAmong n (nodes_ids before) → ⊥
    not_before j = in_nodes (among-left n (nodes_ids before) _ j)

    in_rest : IsAmong n ((id ∷ regions_ids (joined_regions done (region_then hollow rest))) ++ nodes_ids after) → ⊥
    in_rest j = in_nodes (among-right n (nodes_ids before) _ j)

    not_after : IsAmong n (nodes_ids after) → ⊥
    not_after j = in_rest (among-right n (id ∷ regions_ids (joined_regions done (region_then hollow rest))) (nodes_ids after) j)

    in_regions : IsAmong n (regions_ids done ++ regions_ids rest) → ⊥
    in_regions j =
        in_rest (inr (among-left n (regions_ids (joined_regions done (region_then hollow rest))) (nodes_ids after) (subst (IsAmong n) (sym (regions_ids-joined done (region_then hollow rest))) j)))

    not_it : (id == n) ≡ false
    not_it = by (id == n) refl
      where
        by : (t : Bool) → (id == n) ≡ t → t ≡ false
        by true q = absurd (in_rest (inl (sym (same_number id n q))))
        by false q = refl

    none_itself : has_node n (nodes_in (with_region r)) ≡ false
    none_itself =
        has_node-joined n before (node_then (node id op inputs (joined_regions done (region_then r rest))) after)
        ∙ (λ i. has_none n before not_before i || (not_it i || has_none n after not_after i))

    inner_answer : region_answer f (context (with_region r)) ≡ region_answer f r
    inner_answer =
        around.answers n f (with_region r) only not_around
        ∙ ap₂ option_or (only (with_region r) none_itself)
        (nodes_answer_within n f only before (node id op inputs (joined_regions done (region_then r rest))) after not_before not_after
        ∙ regions_answer_within n f only done r rest (λ j. in_regions (among-left n (regions_ids done) (regions_ids rest) j)) (λ j. in_regions (among-right n (regions_ids done) (regions_ids rest) j)))

  pub inner_place : IsPlace (λ r. context (region args (joined_nodes before (node_then (node id op inputs (joined_regions done (region_then r rest))) after)) results))
  inner_place = record {
    is = inner_context context around.is args before id op inputs done rest after results;
    answers = λ n f r only h. inner_answer n f r only h;
  }
