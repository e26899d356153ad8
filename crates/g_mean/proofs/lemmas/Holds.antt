-- Nodes that have run hold in the last map.
use Rattle.std.proofs.Common.{◌≡◌, ℕ, ◌==◌, Bool, true, false, not, ◌||◌, List, [], ◌∷◌, ◌++◌, map, length, refl, sym, ap, ap₂, subst, ◌∙◌, inl, inr, arith}
use Rattle.std.proofs.lemmas.Bool.{and_parts}
use Rattle.std.proofs.lemmas.Bool.Decides.{nat_tests}
use Rattle.val_core.specs.Events.{Event}
use Rattle.val_core.specs.Answers.{Answer, Returned, Cut, Exited, Undefined, then_on}
use Rattle.val_core.proofs.lemmas.Answers.{added, before-is}
use Rattle.g_graph.specs.declared.op.Origin.{Origin}
use Rattle.g_graph.specs.declared.op.Origin.TheVariants.{Arg, Out}
use Rattle.g_graph.specs.Plain.{NodeTree, node, NodeTrees, no_nodes, node_then, id_of}
use Rattle.g_graph.specs.Ids.{node_ids, nodes_ids, regions_ids}
use Rattle.g_graph.specs.WellFormed.{some_of, distinct}
use Rattle.g_mean.specs.Data.{Datum, at_port}
use Rattle.g_mean.specs.Meaning.{Context, act, Outputs, no_outputs, extended, read, node_run, nodes_run, meanings}
use Rattle.g_mean.specs.Copies.{IsAmong, IsRead, AreRead, is_argument, NodesRead}
use Rattle.g_mean.specs.Holds.{HaveRun, RunNodesHold}
use Rattle.g_mean.proofs.lemmas.Copies.{among-left, among-right, extended-same, extended-other}
use Rattle.g_mean.proofs.lemmas.Edits.{distinct-split}

-- ---- what was given

pub record WasGiven {A B : Type 0} (a : Answer A) (next : A → Answer B) (y : B) : Type 0 where
  pub first : A
  pub did : List Event
  pub rest : List Event
  pub is : a ≡ Returned first did
  pub follows : next first ≡ Returned y rest

given-added : {B : Type 0} (o : List Event) (b : Answer B) (y : B) (did : List Event) → added o b ≡ Returned y did → (rest : List Event) × (b ≡ Returned y rest)
given-added o (Returned z q) y did e = let same : z ≡ y = cc in (q, ap (λ w. Returned w q) same)
given-added o (Cut q) y did e = absurd cc
given-added o (Exited q s) y did e = absurd cc
given-added o (Undefined q) y did e = absurd cc

pub was-given : {A B : Type 0} (a : Answer A) (next : A → Answer B) (y : B) (did : List Event) → then_on a next ≡ Returned y did → WasGiven a next y
was-given (Returned x o) next y did e =
    let h = given-added o (next x) y did (sym (before-is o (next x)) ∙ e) in
    record { first = x; did = o; rest = h.0; is = refl; follows = h.1 }
was-given (Cut o) next y did e = absurd cc
was-given (Exited o s) next y did e = absurd cc
was-given (Undefined o) next y did e = absurd cc

-- ---- numbers

pub none-among : (n : ℕ) (ns : List ℕ) → not (some_of (λ m. n == m) ns) ≡ true → IsAmong n ns → ⊥
none-among n [] t h = h
none-among n (m ∷ ns) t (inl e) = none-first (n == m) (some_of (λ k. n == k) ns) t (grind (arith, nat_tests))
  where
    none-first : (a b : Bool) → not (a || b) ≡ true → a ≡ true → ⊥
    none-first true b e d = absurd cc
    none-first false b e d = absurd cc
none-among n (m ∷ ns) t (inr h) = none-among n ns (none-rest (n == m) (some_of (λ k. n == k) ns) t) h
  where
    none-rest : (a b : Bool) → not (a || b) ≡ true → not b ≡ true
    none-rest true b e = absurd cc
    none-rest false b e = e

pub among-none : (n : ℕ) (ns : List ℕ) → (IsAmong n ns → ⊥) → not (some_of (λ m. n == m) ns) ≡ true
among-none n [] h = refl
among-none n (m ∷ ns) h = both (n == m) (some_of (λ k. n == k) ns) (grind (arith, nat_tests, λ (e : n ≡ m). h (inl e))) (among-none n ns (λ k. h (inr k)))
  where
    both : (a b : Bool) → a ≡ false → not b ≡ true → not (a || b) ≡ true
    both true b e d = absurd cc
    both false b e d = d

pub id-among : (x : NodeTree) → IsAmong (id_of x) (node_ids x)
id-among (node id op inputs rs) = inl refl

-- the first of unique numbers is not among the others
pub distinct-apart : (xs ys : List ℕ) → distinct (xs ++ ys) ≡ true → (n : ℕ) → IsAmong n xs → IsAmong n ys → ⊥
distinct-apart [] ys t n h k = h
distinct-apart (x ∷ xs) ys t n (inl e) k =
    let p = and_parts (not (some_of (λ m. x == m) (xs ++ ys))) (distinct (xs ++ ys)) t in
    none-among x (xs ++ ys) p.0 (among-right x xs ys (subst (λ z. IsAmong z ys) e k))
distinct-apart (x ∷ xs) ys t n (inr h) k =
    let p = and_parts (not (some_of (λ m. x == m) (xs ++ ys))) (distinct (xs ++ ys)) t in
    distinct-apart xs ys p.1 n h k

-- ---- the map

-- an output of no node that runs stays as it was
pub unchanged : (c : Context) (ns : NodeTrees) (xs : List Datum) (o q : Outputs) (did : List Event) → nodes_run c ns xs o ≡ Returned q did → (n : ℕ) → (IsAmong n (nodes_ids ns) → ⊥) → (p : ℕ) →
    q n p ≡ o n p
unchanged c no_nodes xs o q did e n apart p = let same : o ≡ q = cc in ap (λ f. f n p) (sym same)
unchanged c (node_then x ns) xs o q did e n apart p =
    let h = was-given (node_run c x xs o) (λ us. nodes_run c ns xs (extended o (id_of x) us)) q did e in
    unchanged c ns xs (extended o (id_of x) h.first) q h.rest h.follows n (λ k. apart (among-right n (node_ids x) (nodes_ids ns) k)) p
    ∙ extended-other o (id_of x) h.first n p (λ d. apart (among-left n (node_ids x) (nodes_ids ns) (subst (λ z. IsAmong z (node_ids x)) d (id-among x))))

read-unchanged : (count : ℕ) (known : List ℕ) (xs : List Datum) (o q : Outputs) → ((n : ℕ) → IsAmong n known → (p : ℕ) → q n p ≡ o n p) → (origins : List Origin) →
    AreRead (is_argument count) known origins → map (read xs o) origins ≡ map (read xs q) origins
read-unchanged count known xs o q same [] h = refl
read-unchanged count known xs o q same (Arg k ∷ origins) h =
    ap (λ zs. at_port xs k ∷ zs) (read-unchanged count known xs o q same origins h.1)
read-unchanged count known xs o q same (Out n p ∷ origins) h =
    ap₂ (λ z zs. z ∷ zs) (by h.0) (read-unchanged count known xs o q same origins h.1)
  where
    by : IsRead (is_argument count) known (Out n p) → o n p ≡ q n p
    by (inl e) = absurd cc
    by (inr k) = sym (same n k p)

pub holds-from : (count : ℕ) (c : Context) (ns : NodeTrees) (known : List ℕ) (xs : List Datum) (o q : Outputs) (did : List Event) → NodesRead (is_argument count) known ns →
    ((n : ℕ) → IsAmong n known → IsAmong n (nodes_ids ns) → ⊥) → distinct (nodes_ids ns) ≡ true → nodes_run c ns xs o ≡ Returned q did → HaveRun c xs q ns
holds-from count c no_nodes known xs o q did reads apart unique e = tt
holds-from count c (node_then (node id op inputs rs) ns) known xs o q did reads apart unique e =
    let ids = id ∷ regions_ids rs in
    let d = distinct-split ids (nodes_ids ns) unique in
    let h = was-given (node_run c (node id op inputs rs) xs o) (λ us. nodes_run c ns xs (extended o id us)) q did e in
    let same = λ (n : ℕ) (k : IsAmong n known) (p : ℕ). unchanged c (node_then (node id op inputs rs) ns) xs o q did e n (λ j. apart n k j) p in
    let again = ap (act c op (meanings c rs)) (sym (read-unchanged count known xs o q same inputs reads.0.0)) in
    let later = unchanged c ns xs (extended o id h.first) q h.rest h.follows id (distinct-apart ids (nodes_ids ns) unique id (inl refl)) in (
      record {
        results = h.first;
        did = h.did;
        run = again ∙ h.is;
        outputs = λ p. later p ∙ extended-same o id h.first id p refl;
      },
      holds-from count c ns (id ∷ known) xs (extended o id h.first) q h.rest reads.1
          (newer ids known ns (λ n k j. apart n k (among-right n ids (nodes_ids ns) j)) (λ n k. distinct-apart ids (nodes_ids ns) unique n k) id (inl refl)) d.1 h.follows,
    )
  where
    newer : (ids known : List ℕ) (ns : NodeTrees) → ((n : ℕ) → IsAmong n known → IsAmong n (nodes_ids ns) → ⊥) → ((n : ℕ) → IsAmong n ids → IsAmong n (nodes_ids ns) → ⊥) → (id : ℕ) →
        IsAmong id ids → (n : ℕ) → IsAmong n (id ∷ known) → IsAmong n (nodes_ids ns) → ⊥
    newer ids known ns apart first id here n (inl e) j = first id here (subst (λ z. IsAmong z (nodes_ids ns)) e j)
    newer ids known ns apart first id here n (inr k) j = apart n k j

pub run_nodes_hold : RunNodesHold
run_nodes_hold c args ns results xs o did closed unique e =
    holds-from (length args) c ns [] xs no_outputs o did closed.0 (λ n h k. h) unique e
