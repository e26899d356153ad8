-- What the region of a loop does that may be inverted.
use Rattle.std.proofs.Common.{◌≡◌, ℕ, true, List, [], ◌∷◌, map, length, Some, refl, sym, ap, ◌∙◌}
use Rattle.std.proofs.Math.Path.{fun_ext}
use Rattle.std.proofs.lemmas.Bool.{and_parts}
use Rattle.val_core.specs.declared.values.Value.TheVariants.{Num}
use Rattle.val_core.specs.Events.{Event}
use Rattle.val_core.specs.Answers.{Answer, Returned, then_on}
use Rattle.val_core.proofs.lemmas.Answers.{then_associates, then_on_given}
use Rattle.g_graph.specs.declared.op.Kind.{Kind}
use Rattle.g_graph.specs.declared.op.Kind.TheVariants.{Value}
use Rattle.g_graph.specs.declared.op.Origin.{Origin}
use Rattle.g_graph.specs.Plain.{RegionTree, region, NodeTrees, no_nodes, node_then}
use Rattle.g_graph.specs.Ids.{nodes_ids}
use Rattle.g_graph.specs.Nodes.{constant}
use Rattle.g_graph.specs.Scope.{known}
use Rattle.g_graph.specs.Splice.{outputs_to_results, joined_nodes}
use Rattle.g_graph.specs.WellFormed.{all_of, distinct, is_last, region_fits, every_region}
use Rattle.g_graph.proofs.lemmas.Splices.{joined_none}
use Rattle.g_mean.specs.Data.{Datum, val}
use Rattle.g_mean.specs.Meaning.{Meaning, Context, Outputs, no_outputs, extended, read, branched, region_meaning, nodes_run}
use Rattle.g_mean.specs.Copies.{is_argument, known_after}
use Rattle.g_mean.proofs.lemmas.Closed.{region-closed}
use Rattle.g_mean.proofs.lemmas.Constants.{constant-holds}
use Rattle.g_mean.proofs.lemmas.Copies.{extended-same}
use Rattle.g_mean.proofs.lemmas.Holds.{run_nodes_hold}
use Rattle.g_mean.proofs.lemmas.Splices.{joined-run, get-read, get-port}
use Rattle.r_edit.proofs.lemmas.AddedFit.{fits-parts}
use Rattle.r_invert.specs.Laws.{either}
use Rattle.r_invert.specs.Rule.{is_output_of, giving, word_given}
use Rattle.r_invert.proofs.Chosen.{output_kind, Chosen, chosen-at}
use Rattle.r_invert.proofs.Forms.{ending}
use Rattle.r_invert.proofs.Looped.{branched-two}
use Rattle.r_invert.proofs.Turns.{with_word, either-then, either-same}

-- ---- a region of the last node

module _ (objects : ℕ) (c : Context) (g : ℕ) (predicate : Origin) (variables : List Origin) (ks : List Kind) (ns : NodeTrees) (os : List Origin) (exits js : List Kind) (u : ℕ)
    (fits : every_region (region_fits objects) (region ks ns os) ≡ true) (unique : distinct (nodes_ids ns) ≡ true) (kinds : map (known ks ns) os ≡ map Some exits)
    (outputs : all_of (is_output_of g) (predicate ∷ variables) ≡ true) (results : map (output_kind exits) (predicate ∷ variables) ≡ map Some (Value ∷ js))
    (word : word_given g predicate (region ks ns os) ≡ Some u) (xs : List Datum) (o : Outputs) (es : List Datum) where
  abbrev became : Origin → Origin
  became = outputs_to_results g os

  -- what follows the last node
  abbrev given : List Datum → Answer (List Datum)
  given us = Returned (map (read xs (extended o g us)) (predicate ∷ variables)) []

  lasts : all_of (is_last ks ns) os ≡ true
  lasts = (fits-parts objects ks ns os fits).last

  one-read : (q : Outputs) (a : Origin) (k : Kind) → Chosen ks ns os g a k → read xs (extended o g (map (read es q) os)) a ≡ read es q (became a)
  one-read q a k h =
      ap (read xs (extended o g (map (read es q) os))) h.is ∙ extended-same o g (map (read es q) os) g h.port refl ∙ get-port (read es q) os h.port h.origin h.there
      ∙ ap (read es q) (sym h.becomes)

  all-read : (q : Outputs) (vs : List Origin) (is : List Kind) → all_of (is_output_of g) vs ≡ true → map (output_kind exits) vs ≡ map Some is →
      map (read xs (extended o g (map (read es q) os))) vs ≡ map (read es q) (map became vs)
  all-read q [] [] t e = refl
  all-read q [] (i ∷ is) t e = absurd cc
  all-read q (v ∷ vs) [] t e = absurd cc
  all-read q (v ∷ vs) (i ∷ is) t e =
      let tests = and_parts (is_output_of g v) (all_of (is_output_of g) vs) t in
      let first : output_kind exits v ≡ Some i = cc in
      let others : map (output_kind exits) vs ≡ map Some is = cc in
      λ n. one-read q v i (chosen-at ks ns os exits kinds lasts g v i tests.0 first) n ∷ all-read q vs is tests.1 others n

  word-read : (q : Outputs) (did : List Event) → nodes_run c ns es no_outputs ≡ Returned q did → read es q (became predicate) ≡ val (Num u)
  word-read q did e =
      let first : output_kind exits predicate ≡ Some Value = cc in
      let at = chosen-at ks ns os exits kinds lasts g predicate Value (and_parts (is_output_of g predicate) (all_of (is_output_of g) variables) outputs).0 first in
      let closed = region-closed objects (region ks ns os) fits in
      let have = run_nodes_hold c ks ns os es q did closed unique e in
      let known = get-read (is_argument (length ks)) (known_after [] ns) os closed.1 at.port at.origin at.there in
      ap (read es q) at.becomes
      ∙ (constant-holds c (length ks) es q ns no_nodes at.origin u have known (ap (λ ms. constant ms at.origin) (joined_none ns) ∙ ap (constant ns) (sym at.becomes) ∙ word)).0

  pub region-given : then_on (region_meaning c (region ks ns os) es) given ≡ with_word u (region_meaning c (giving g variables (region ks ns os))) es
  region-given =
      let run = nodes_run c ns es no_outputs in
      then_associates run (λ q. Returned (map (read es q) os) []) given
      ∙ then_on_given run (λ q. given (map (read es q) os)) (λ q. Returned (val (Num u) ∷ map (read es q) (map became variables)) [])
      (λ q did e i. Returned ((all-read q (predicate ∷ variables) (Value ∷ js) outputs results ∙ ap (λ d. d ∷ map (read es q) (map became variables)) (word-read q did e)) i) [])
      ∙ sym (then_associates run (λ q. Returned (map (read es q) (map became variables)) []) (λ us. Returned (val (Num u) ∷ us) []))

-- ---- the region of the loop

pub turn-is : (c : Context) (args : List Kind) (before : NodeTrees) (g : ℕ) (inputs results : List Origin) (z b : RegionTree) (stop go : Meaning) →
    ((xs : List Datum) (o : Outputs) (es : List Datum) → then_on (region_meaning c z es) (λ us. Returned (map (read xs (extended o g us)) results) []) ≡ stop es) →
    ((xs : List Datum) (o : Outputs) (es : List Datum) → then_on (region_meaning c b es) (λ us. Returned (map (read xs (extended o g us)) results) []) ≡ go es) → (xs : List Datum) →
    region_meaning c (region args (joined_nodes before (node_then (ending g inputs z b) no_nodes)) results) xs ≡ then_on (region_meaning c (region args before inputs) xs) (either stop go)
turn-is c args before g inputs results z b stop go h k xs =
    let run = nodes_run c before xs no_outputs in
    let last = λ (o : Outputs). Returned (map (read xs o) results) [] in
    let zs = region_meaning c z in
    let bs = region_meaning c b in
    ap (λ a. then_on a last) (joined-run c before (node_then (ending g inputs z b) no_nodes) xs no_outputs)
    ∙ then_associates run (nodes_run c (node_then (ending g inputs z b) no_nodes) xs) last
    ∙ ap (then_on run)
    (fun_ext (λ o.
    let given = λ (us : List Datum). Returned (map (read xs (extended o g us)) results) [] in
    then_associates (branched (zs ∷ bs ∷ []) (map (read xs o) inputs)) (λ us. Returned (extended o g us) []) last
    ∙ ap (λ a. then_on a given) (branched-two zs bs (map (read xs o) inputs))
    ∙ either-then zs bs given (map (read xs o) inputs)
    ∙ either-same (λ us. then_on (zs us) given) (λ us. then_on (bs us) given) stop go (h xs o) (k xs o) (map (read xs o) inputs)))
    ∙ sym (then_associates run (λ o. Returned (map (read xs o) inputs) []) (either stop go))
