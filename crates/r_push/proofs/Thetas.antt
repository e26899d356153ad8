-- A Theta that a node leaves gives what it gave, where one more loop variable carries what the node gives.
use Rattle.std.proofs.Common.{◌≡◌, ℕ, zero, suc, ◌==◌, Bool, true, false, cond, List, [], ◌∷◌, ◌++◌, map, length, slice_get, Option, None, Some, refl, sym, ap, ap₂, subst, subst₂, ◌∙◌}
use Rattle.std.proofs.lemmas.Bool.{and_parts}
use Rattle.std.proofs.lemmas.List.{map-append, length-map}
use Rattle.val_core.specs.declared.values.Value.{Value as Word}
use Rattle.val_core.specs.declared.values.Value.TheVariants.{Num, At, Bad}
use Rattle.val_core.specs.Answers.{Returned, on_number}
use Rattle.g_graph.specs.declared.op.Kind.{Kind}
use Rattle.g_graph.specs.declared.op.Kind.TheVariants.{Value}
use Rattle.g_graph.specs.declared.op.Op.{Op}
use Rattle.g_graph.specs.declared.op.Op.TheVariants.{Theta}
use Rattle.g_graph.specs.declared.op.Origin.{Origin}
use Rattle.g_graph.specs.declared.op.Origin.TheVariants.{Arg, Out}
use Rattle.g_graph.specs.Plain.{region, NodeTree, node, NodeTrees, node_then, RegionTrees, no_regions, region_then}
use Rattle.g_graph.specs.Ids.{nodes_ids}
use Rattle.g_graph.specs.WellFormed.{all_of, distinct, is_origin}
use Rattle.g_graph.specs.Replace.{origin_replaced}
use Rattle.g_graph.specs.Splice.{joined_nodes}
use Rattle.g_graph.proofs.lemmas.Moved.{same_origin_true}
use Rattle.g_mean.specs.Data.{Datum, val, value_of, at_port}
use Rattle.g_mean.specs.Meaning.{Context, Meaning, act, again, turns, Outputs, no_outputs, extended, read, region_meaning, node_run, nodes_run, meanings}
use Rattle.g_mean.specs.Copies.{IsAmong, AreRead, is_argument, IsClosed, Same}
use Rattle.g_mean.proofs.lemmas.Copies.{same-then}
use Rattle.g_mean.proofs.lemmas.Splices.{get-port}
use Rattle.r_edit.specs.Added.{result_added, input_added}
use Rattle.r_edit.proofs.lemmas.Added.{last-port}
use Rattle.r_push.specs.Rule.{names_argument, is_invariant, looped}
use Rattle.r_push.proofs.Taken.{carried-is, taken-same, taken_nodes}
use Rattle.r_push.proofs.LeavingNode.{Leaves, Gives}
use Rattle.r_push.proofs.Gammas.{reads-carried}

-- the same data, and the value after them
abbrev pub Followed : Word → List Datum → List Datum → Type 0
Followed v zs ws = ws ≡ zs ++ val v ∷ []

-- ---- arguments that stay

pub invariant-arguments : (outs : List Origin) (inputs : List Origin) → all_of (is_invariant outs) inputs ≡ true → all_of names_argument inputs ≡ true
invariant-arguments outs [] e = refl
invariant-arguments outs (Arg k ∷ inputs) e = invariant-arguments outs inputs (and_parts (is_invariant outs (Arg k)) (all_of (is_invariant outs) inputs) e).1
invariant-arguments outs (Out n p ∷ inputs) e = absurd cc

invariant-get : (rest : List Origin) (k : ℕ) → is_origin (slice_get rest k) (Arg k) ≡ true → slice_get rest k ≡ Some (Arg k)
invariant-get rest k e = by (slice_get rest k) refl e
  where
    by : (found : Option Origin) → slice_get rest k ≡ found → is_origin found (Arg k) ≡ true → slice_get rest k ≡ Some (Arg k)
    by None d t = absurd cc
    by (Some o) d t = d ∙ ap Some (same_origin_true o (Arg k) t)

-- what the node reads is the same in the next turn
next-reads : (us : List Datum) (o q r : Outputs) (p : Origin) (rest : List Origin) (inputs : List Origin) → all_of (is_invariant (p ∷ rest)) inputs ≡ true →
    map (read (map (read us o) rest) q) inputs ≡ map (read us r) inputs
next-reads us o q r p rest [] e = refl
next-reads us o q r p rest (Out n i ∷ inputs) e = absurd cc
next-reads us o q r p rest (Arg k ∷ inputs) e =
    let both = and_parts (is_invariant (p ∷ rest) (Arg k)) (all_of (is_invariant (p ∷ rest)) inputs) e in
    ap₂ (λ z zs. z ∷ zs) (get-port (read us o) rest k (Arg k) (invariant-get rest k both.0)) (next-reads us o q r p rest inputs both.1)

next-gives : (c : Context) (n : ℕ) (op : Op) (inputs : List Origin) (rs : RegionTrees) (us : List Datum) (o : Outputs) (p : Origin) (rest : List Origin) (v : Word) →
    all_of (is_invariant (p ∷ rest)) inputs ≡ true → Gives c us (node n op inputs rs) v → Gives c (map (read us o) rest) (node n op inputs rs) v
next-gives c n op inputs rs us o p rest v all gives =
    record { on = λ q. ap (act c op (meanings c rs)) (next-reads us o q no_outputs p rest inputs all) ∙ gives.on no_outputs }

-- ---- the loop

module _ (c : Context) (n : ℕ) (v : Word) (own : List Kind) (nodes : NodeTrees) (p : Origin) (rest : List Origin) (y : NodeTree) (closed : IsClosed (region own nodes (p ∷ rest)))
    (unique : distinct (nodes_ids nodes) ≡ true) (count : length rest ≡ length own) (at : Leaves (is_invariant (p ∷ rest)) n nodes y) where
  abbrev body : Meaning
  body = region_meaning c (region own nodes (p ∷ rest))

  abbrev further : Meaning
  further = region_meaning c (looped n (region own nodes (p ∷ rest)))

  -- what a turn gives
  record Turned (us xs ys : List Datum) : Type 0 where
    pub outputs : Outputs
    pub near : xs ≡ map (read us outputs) (p ∷ rest)
    pub far : Followed v xs ys

  turn-same : (us : List Datum) → length us ≡ length own → Gives c us y v → Same (Turned us) (body us) (further (us ++ val v ∷ []))
  turn-same us many gives =
      let x = node n at.op at.inputs at.regions in
      let outs = p ∷ rest in
      let closed' = subst (λ ns. IsClosed (region own ns outs)) at.is closed in
      let unique' = subst (λ ns. distinct (nodes_ids ns) ≡ true) at.is unique in
      let more = us ++ val v ∷ [] in
      let far = taken_nodes own at.before n at.op at.inputs at.regions at.after outs closed' unique' in
      let move = origin_replaced (Out n 0) (Arg (length own)) in
      let runs = taken-same own at.before n at.op at.inputs at.regions at.after outs closed' unique' c us v many (λ o. ap (λ z. node_run c z us o) (sym at.node_is) ∙ gives.on o) in
      let ends = map move outs ++ Arg (length own) ∷ [] in
      let last : at_port more (length own) ≡ val v = ap (at_port more) (sym many) ∙ last-port us (val v) in
      let far_is : region_meaning c (region (own ++ Value ∷ []) far ends) more ≡ further more =
      ap (λ r. region_meaning c (result_added (Arg (length own)) r) more) (sym (carried-is own at.before n at.op at.inputs at.regions at.after outs closed' unique'))
      ∙ ap (λ ns. region_meaning c (looped n (region own ns outs)) more) (sym at.is) in
      subst₂ (λ a b. Same (Turned us) a b) (ap (λ ns. region_meaning c (region own ns outs) us) (sym at.is)) far_is
      (same-then (λ o q. map (read more q) (map move outs) ≡ map (read us o) outs) (Turned us) (nodes_run c (joined_nodes at.before (node_then x at.after)) us no_outputs)
      (nodes_run c far more no_outputs)
      (λ o. Returned (map (read us o) outs) []) (λ q. Returned (map (read more q) ends) []) runs
      (λ o q h. (record { outputs = o; near = refl; far = map-append (read more q) (map move outs) (Arg (length own) ∷ []) ∙ ap₂ (λ zs z. zs ++ z ∷ []) h last }, refl)))

  again-same : (m : ℕ) → ((us : List Datum) → length us ≡ length own → Gives c us y v → Same (Followed v) (turns m body us) (turns m further (us ++ val v ∷ []))) →
      (us : List Datum) (o : Outputs) → Gives c us y v → (d : Datum) →
      Same (Followed v) (again (turns m body) (d ∷ map (read us o) rest)) (again (turns m further) (d ∷ map (read us o) rest ++ val v ∷ []))
  again-same m turn us o gives d = by (value_of d)
    where
      next : List Datum
      next = map (read us o) rest

      gives_next : Gives c next y v
      gives_next =
          subst (λ z. Gives c next z v) (sym at.node_is) (next-gives c n at.op at.inputs at.regions us o p rest v at.all (subst (λ z. Gives c us z v) at.node_is gives))

      by_test : (t : Bool) → Same (Followed v) (cond t (Returned next []) (turns m body next)) (cond t (Returned (next ++ val v ∷ []) []) (turns m further (next ++ val v ∷ [])))
      by_test true = (refl, refl)
      by_test false = turn next (length-map rest (read us o) ∙ count) gives_next

      by : (w : Word) → Same (Followed v) (on_number w (λ u. cond (u == 0) (Returned next []) (turns m body next)))
          (on_number w (λ u. cond (u == 0) (Returned (next ++ val v ∷ []) []) (turns m further (next ++ val v ∷ []))))
      by (Num u) = by_test (u == 0)
      by (At b k) = refl
      by Bad = refl

  pub turns-same : (m : ℕ) (us : List Datum) → length us ≡ length own → Gives c us y v → Same (Followed v) (turns m body us) (turns m further (us ++ val v ∷ []))
  turns-same zero us many gives = refl
  turns-same (suc m) us many gives =
      same-then (Turned us) (Followed v) (body us) (further (us ++ val v ∷ [])) (again (turns m body)) (again (turns m further)) (turn-same us many gives)
      (λ xs ys h.
      subst₂ (λ a b. Same (Followed v) (again (turns m body) a) (again (turns m further) b)) (sym h.near) (ap (λ zs. zs ++ val v ∷ []) (sym h.near) ∙ sym h.far)
      (again-same m (λ vs e g. turns-same m vs e g) us h.outputs gives (read us h.outputs p)))

  -- ---- the node

  pub theta-same : (known : List ℕ) (all : ℕ) (ys : List Datum) (q : Outputs) (id : ℕ) (inputs : List Origin) → (IsAmong n known → ⊥) → AreRead (is_argument all) known inputs → length inputs ≡
      length own →
      Gives c (map (read ys q) inputs) y v →
      Same (Followed v) (node_run c (node id Theta inputs (region_then (region own nodes (p ∷ rest)) no_regions)) ys q)
      (node_run c (input_added (Out n 0) (node id Theta inputs (region_then (looped n (region own nodes (p ∷ rest))) no_regions))) ys (extended q n (val v ∷ [])))
  theta-same known all ys q id inputs out reads many gives =
      subst (λ zs. Same (Followed v) (turns c.bound body (map (read ys q) inputs)) (turns c.bound further zs)) (sym (reads-carried all known ys q n v out inputs reads))
      (turns-same c.bound (map (read ys q) inputs) (length-map inputs (read ys q) ∙ many) gives)
