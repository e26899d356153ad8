-- The node that leaves: it gives one value, on the arguments alone, and inside and outside the same.
use Rattle.std.specs.Prelude.{option_and_then, unwrap_or}
use Rattle.std.proofs.Common.{◌≡◌, ◌<◌, ℕ, zero, suc, Bool, true, ◌&&◌, List, [], ◌∷◌, map, length, slice_get, Option, None, Some, refl, sym, ap, ap₂, ◌∙◌, inl, inr, arith}
use Rattle.std.proofs.lemmas.Bool.{and_parts}
use Rattle.std.proofs.lemmas.Option.{cond_some}
use Rattle.val_core.specs.declared.values.Value.{Value as Word}
use Rattle.val_core.specs.Answers.{Returned}
use Rattle.g_graph.specs.declared.op.Kind.{Kind}
use Rattle.g_graph.specs.declared.op.Op.{Op}
use Rattle.g_graph.specs.declared.op.Origin.{Origin}
use Rattle.g_graph.specs.declared.op.Origin.TheVariants.{Arg, Out}
use Rattle.g_graph.specs.Plain.{region, NodeTree, node, NodeTrees, node_then, RegionTrees, has_none}
use Rattle.g_graph.specs.Signatures.{is_pure}
use Rattle.g_graph.specs.WellFormed.{all_of}
use Rattle.g_graph.specs.Nodes.{node_at, is_used}
use Rattle.g_graph.specs.Splice.{args_to_inputs, joined_nodes}
use Rattle.g_graph.proofs.lemmas.Found.{found_at}
use Rattle.g_mean.specs.Data.{Datum, val, at_port}
use Rattle.g_mean.specs.Meaning.{Context, act, Outputs, no_outputs, read, node_run, meanings}
use Rattle.g_mean.specs.Copies.{IsRead, AreRead, is_argument}
use Rattle.g_mean.proofs.lemmas.Moves.{pure_nodes_give_the_same}
use Rattle.g_mean.proofs.lemmas.Splices.{get-port}
use Rattle.r_edit.proofs.lemmas.Added.{argument-less}
use Rattle.r_push.specs.Rule.{names_argument, may_leave, only, leaving}

-- ---- in its region

pub record Leaves (test : Origin → Bool) (n : ℕ) (nodes : NodeTrees) (y : NodeTree) : Type 0 where
  pub before : NodeTrees
  pub op : Op
  pub inputs : List Origin
  pub regions : RegionTrees
  pub after : NodeTrees
  pub node_is : y ≡ node n op inputs regions
  pub is : nodes ≡ joined_nodes before (node_then (node n op inputs regions) after)
  pub pure : is_pure op ≡ true
  pub all : all_of test inputs ≡ true

pub leaves : (test : Origin → Bool) (n : ℕ) (args : List Kind) (nodes : NodeTrees) (results : List Origin) (y : NodeTree) → leaving test n (region args nodes results) ≡ Some y → Leaves test n nodes y
leaves test n args nodes results y e = by (node_at n nodes) refl e
  where
    by : (found : Option NodeTree) → node_at n nodes ≡ found → option_and_then (λ x. only (may_leave test (region args nodes results) x) x) found ≡ Some y → Leaves test n nodes y
    by None d f = absurd cc
    by (Some (node id op inputs rs)) d f =
        let found = found_at n nodes (node id op inputs rs) d in
        let may = cond_some (may_leave test (region args nodes results) (node id op inputs rs)) (node id op inputs rs) y f in
        let front = and_parts (is_pure op && has_none rs && all_of test inputs) (is_used (Out id 0) (region args nodes results)) may.0 in
        let own = and_parts (is_pure op && has_none rs) (all_of test inputs) front.0 in
        record {
          before = found.before;
          op = op;
          inputs = inputs;
          regions = rs;
          after = found.after;
          node_is = sym may.1 ∙ ap (λ m. node m op inputs rs) found.number;
          is = found.is ∙ ap (λ m. joined_nodes found.before (node_then (node m op inputs rs) found.after)) found.number;
          pure = (and_parts (is_pure op) (has_none rs) own.0).0;
          all = own.1;
        }

-- ---- what it gives

-- the value that the node gives on data, whatever the map of outputs is
pub record Gives (c : Context) (us : List Datum) (y : NodeTree) (v : Word) : Type 0 where
  pub on : (o : Outputs) → node_run c y us o ≡ Returned (val v ∷ []) []

pub same-arguments : (us : List Datum) (o q : Outputs) (inputs : List Origin) → all_of names_argument inputs ≡ true → map (read us o) inputs ≡ map (read us q) inputs
same-arguments us o q [] e = refl
same-arguments us o q (Arg k ∷ inputs) e = ap (λ zs. at_port us k ∷ zs) (same-arguments us o q inputs e)
same-arguments us o q (Out n p ∷ inputs) e = absurd cc

there : {X : Type 0} (xs : List X) (k : ℕ) → k < length xs → (x : X) × (slice_get xs k ≡ Some x)
there [] k h = absurd (omega (arith, h))
there (x ∷ xs) zero h = (x, refl)
there (x ∷ xs) (suc k) h = there xs k (omega (arith, h))

-- the arguments are data of the inputs outside
pub outside-same : (count : ℕ) (known : List ℕ) (ys : List Datum) (o q : Outputs) (entries : List Origin) → length entries ≡ count → (inputs : List Origin) → all_of names_argument inputs ≡ true →
    AreRead (is_argument count) known inputs → map (read (map (read ys q) entries) o) inputs ≡ map (read ys q) (map (args_to_inputs entries) inputs)
outside-same count known ys o q entries e [] all reads = refl
outside-same count known ys o q entries e (Out n p ∷ inputs) all reads = absurd cc
outside-same count known ys o q entries e (Arg k ∷ inputs) all reads =
    ap₂ (λ z zs. z ∷ zs) (by reads.0) (outside-same count known ys o q entries e inputs all reads.1)
  where
    by : IsRead (is_argument count) known (Arg k) → at_port (map (read ys q) entries) k ≡ read ys q (unwrap_or (slice_get entries k) (Arg k))
    by (inl t) =
        let found = there entries k (omega (arith, argument-less count k t, e)) in
        get-port (read ys q) entries k found.0 found.1 ∙ ap (λ s. read ys q (unwrap_or s (Arg k))) (sym found.1)
    by (inr h) = absurd h

-- the node gives one value, and so it does outside
pub record GivesBoth (c : Context) (us : List Datum) (y : NodeTree) (ys : List Datum) (q : Outputs) (z : NodeTree) : Type 0 where
  pub value : Word
  pub inside : Gives c us y value
  pub outside : node_run c z ys q ≡ Returned (val value ∷ []) []

pub gives-both : (c : Context) (count n : ℕ) (known : List ℕ) (op : Op) (inputs : List Origin) (rs : RegionTrees) → is_pure op ≡ true → all_of names_argument inputs ≡ true →
    AreRead (is_argument count) known inputs → (ys : List Datum) (q : Outputs) (entries : List Origin) → length entries ≡ count →
    GivesBoth c (map (read ys q) entries) (node n op inputs rs) ys q (node n op (map (args_to_inputs entries) inputs) rs)
gives-both c count n known op inputs rs pure all reads ys q entries e =
    let us = map (read ys q) entries in
    let both = pure_nodes_give_the_same op pure c n n inputs (map (args_to_inputs entries) inputs) rs rs us ys no_outputs q (outside-same count known ys no_outputs q entries e inputs all reads) in
    record {
      value = both.value;
      inside = record { on = λ o. ap (act c op (meanings c rs)) (same-arguments us o no_outputs inputs all) ∙ both.first };
      outside = both.second;
    }
