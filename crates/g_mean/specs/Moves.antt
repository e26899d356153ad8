-- Nodes whose inputs come from elsewhere.
use Rattle.std.specs.Prelude.{◌≡◌, ℕ, Bool, true, List, [], ◌∷◌, map}
use Rattle.val_core.specs.declared.values.Value.{Value}
use Rattle.val_core.specs.declared.values.Value.TheVariants.{Num}
use Rattle.val_core.specs.Answers.{Answer, Returned}
use Rattle.val_core.specs.Refinement.{Direction, Refines, no_deeper}
use Rattle.g_graph.specs.declared.op.Kind.{Kind}
use Rattle.g_graph.specs.declared.op.Op.{Op}
use Rattle.g_graph.specs.declared.op.Origin.{Origin}
use Rattle.g_graph.specs.Plain.{region, node, NodeTrees, RegionTrees}
use Rattle.g_graph.specs.Signatures.{is_pure}
use Rattle.g_graph.specs.Ids.{nodes_ids}
use Rattle.g_mean.specs.Data.{Datum, val, value_of}
use Rattle.g_mean.specs.Meaning.{Meaning, Context, turns, Outputs, no_outputs, read, region_meaning, node_run, nodes_run}
use Rattle.g_mean.specs.LessDefined.{Paired, IsLessDefinedDatum}
use Rattle.g_mean.specs.Refining.{InOrder, ContextRefines}
use Rattle.g_mean.specs.Copies.{IsRead, AreRead, known_after, NodesRead, CanMove, nodes_moved}

-- ---- pure nodes

-- A pure node gives one value, and that is the same for every node of its op whose inputs carry the same.
pub record GivesTheSame (a b : Answer (List Datum)) : Type 0 where
  pub value : Value
  pub first : a ≡ Returned (val value ∷ []) []
  pub second : b ≡ Returned (val value ∷ []) []

abbrev pub PureNodesGiveTheSame : Type 0
PureNodesGiveTheSame =
    (op : Op) → is_pure op ≡ true → (c : Context) (id id' : ℕ) (inputs inputs' : List Origin) (rs rs' : RegionTrees) (xs ys : List Datum) (o q : Outputs) →
    map (read xs o) inputs ≡ map (read ys q) inputs' →
    GivesTheSame (node_run c (node id op inputs rs) xs o) (node_run c (node id' op inputs' rs') ys q)

-- ---- nodes in another place

-- what these nodes read is less defined than what their moved inputs carry
abbrev pub ReadLessDefined : (S : Origin → Bool) → List ℕ → (move : Origin → Origin) → (xs ys : List Datum) → Outputs → Outputs → Type 0
ReadLessDefined S known move xs ys o q = (a : Origin) → IsRead S known a → IsLessDefinedDatum (read xs o a) (read ys q (move a))

-- Nodes and moved nodes refine where what they read is less defined, and then so is what follows them.
abbrev pub MovedNodesRefine : Type 0
MovedNodesRefine =
    (direction : Direction) (c d : Context) → ContextRefines no_deeper direction IsLessDefinedDatum c d →
    (S : Origin → Bool) (move : Origin → Origin) (to : ℕ → ℕ) (ns : NodeTrees) → CanMove S move to (nodes_ids ns) → NodesRead S [] ns →
    (xs ys : List Datum) (o q : Outputs) → ReadLessDefined S [] move xs ys o q →
    Refines no_deeper direction (ReadLessDefined S (known_after [] ns) move xs ys) (nodes_run c ns xs o) (nodes_run d (nodes_moved move to ns) ys q)

-- A region and its moved nodes with moved results refine where the arguments that are read are less defined. An argument that
-- is not read may be anything, or not be there.
abbrev pub MovedRegionsRefine : Type 0
MovedRegionsRefine =
    (direction : Direction) (c d : Context) → ContextRefines no_deeper direction IsLessDefinedDatum c d →
    (S : Origin → Bool) (move : Origin → Origin) (to : ℕ → ℕ) (args args' : List Kind) (ns : NodeTrees) (results : List Origin) →
    CanMove S move to (nodes_ids ns) → NodesRead S [] ns → AreRead S (known_after [] ns) results →
    (xs ys : List Datum) → ReadLessDefined S [] move xs ys no_outputs no_outputs →
    Refines no_deeper direction (Paired IsLessDefinedDatum) (region_meaning c (region args ns results) xs) (region_meaning d (region args' (nodes_moved move to ns) (map move results)) ys)

-- ---- loop variables

-- a predicate that is a number is the same, and the loop variables relate as `R` says
abbrev pub IsTurned : (List Datum → List Datum → Type 0) → List Datum → List Datum → Type 0
IsTurned R [] ys = Unit {0}
IsTurned R (p ∷ xs) [] = ⊥
IsTurned R (p ∷ xs) (q ∷ ys) = ((w : ℕ) → value_of p ≡ Num w → value_of q ≡ Num w) × R xs ys

-- Two loops refine where their bodies keep a relation of their variables, which may be other ones.
abbrev pub LoopsRefine : (R : List Datum → List Datum → Type 0) → Type 0
LoopsRefine R =
    (direction : Direction) (n m : ℕ) → InOrder direction n m → (body body' : Meaning) →
    ((xs ys : List Datum) → R xs ys → Refines no_deeper direction (IsTurned R) (body xs) (body' ys)) →
    (xs ys : List Datum) → R xs ys → Refines no_deeper direction R (turns n body xs) (turns m body' ys)
