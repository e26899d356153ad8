-- What nodes do: those that read the same elsewhere, and one among others.
use Rattle.std.proofs.Common.{◌≡◌, Bool, List, [], ◌∷◌, map, refl, sym, ap, ap₂, subst}
use Rattle.val_core.specs.Answers.{Answer, Returned, then_on}
use Rattle.g_graph.specs.declared.op.Origin.{Origin}
use Rattle.g_graph.specs.Plain.{NodeTree, node, NodeTrees, no_nodes, node_then}
use Rattle.g_graph.specs.Ids.{nodes_ids}
use Rattle.g_graph.specs.Replace.{nodes_redirected}
use Rattle.g_graph.specs.Splice.{joined_nodes}
use Rattle.g_mean.specs.Data.{Datum}
use Rattle.g_mean.specs.Meaning.{Context, Outputs, read, nodes_run}
use Rattle.g_mean.specs.Holds.{HasRun, HaveRun}
use Rattle.g_mean.specs.Copies.{AreRead, NodesRead, known_after, CanMove, Same, ReadSame}
use Rattle.g_mean.proofs.lemmas.Copies.{Equals, reads-same, redirected-moved, same-then, same-equal, copied_nodes_mean_the_same}

-- nodes and then the results of their region
abbrev run_to : Context → NodeTrees → (results : List Origin) → List Datum → Outputs → Answer (List Datum)
run_to c ns results xs o = then_on (nodes_run c ns xs o) (λ q. Returned (map (read xs q) results) [])

pub moved-runs-same : (S : Origin → Bool) (move : Origin → Origin) (ns : NodeTrees) (results : List Origin) → CanMove S move (λ n. n) (nodes_ids ns) → NodesRead S [] ns →
    AreRead S (known_after [] ns) results →
    (c : Context) (xs ys : List Datum) (o q : Outputs) → ReadSame S [] move xs ys o q → run_to c (nodes_redirected move ns) (map move results) ys q ≡ run_to c ns results xs o
moved-runs-same S move ns results can reads gives c xs ys o q same =
    let known = known_after [] ns in
    let runs = subst (λ ms. Same (ReadSame S known move xs ys) (nodes_run c ns xs o) (nodes_run c ms ys q)) (redirected-moved move ns)
    (copied_nodes_mean_the_same S move (λ n. n) ns can reads c xs ys o q same) in
    sym (same-equal (run_to c ns results xs o) (run_to c (nodes_redirected move ns) (map move results) ys q)
    (same-then (ReadSame S known move xs ys) Equals (nodes_run c ns xs o) (nodes_run c (nodes_redirected move ns) ys q)
    (λ p. Returned (map (read xs p) results) []) (λ p. Returned (map (read ys p) (map move results)) []) runs
    (λ p r h. (sym (reads-same S known move xs ys p r h results gives), refl))))

-- ---- two changes of inputs, one after the other

pub map-twice : (f g : Origin → Origin) (os : List Origin) → map f (map g os) ≡ map (λ o. f (g o)) os
map-twice f g [] = refl
map-twice f g (o ∷ os) = ap (λ rest. f (g o) ∷ rest) (map-twice f g os)

pub redirected-twice : (f g : Origin → Origin) (ns : NodeTrees) → nodes_redirected f (nodes_redirected g ns) ≡ nodes_redirected (λ o. f (g o)) ns
redirected-twice f g no_nodes = refl
redirected-twice f g (node_then (node id op inputs rs) ns) =
    ap₂ (λ os ms. node_then (node id op os rs) ms) (map-twice f g inputs) (redirected-twice f g ns)

-- where all of these have run, so has the one among them
pub has-run : (c : Context) (xs : List Datum) (o : Outputs) (before : NodeTrees) (x : NodeTree) (after : NodeTrees) → HaveRun c xs o (joined_nodes before (node_then x after)) → HasRun c xs o x
has-run c xs o no_nodes x after h = h.0
has-run c xs o (node_then z before) x after h = has-run c xs o before x after h.1
