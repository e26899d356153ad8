-- What holds between the nodes of a region while the region and its linear code run.
use Rattle.std.proofs.Common.{◌≡◌, ◌⊎◌, ◌<◌, ◌≤◌, inl, inr, ℕ, ◌+◌, ◌==◌, Bool, true, false, not, ◌||◌, cond, List, [], ◌∷◌, ◌++◌, map, slice_get, Option, None, Some, refl, sym, ap, subst, ◌∙◌, arith}
use Rattle.std.specs.Prelude.{take}
use Rattle.std.proofs.lemmas.Bool.{and_parts}
use Rattle.g_graph.specs.declared.op.Kind.{Kind}
use Rattle.g_graph.specs.declared.op.Kind.TheVariants.{Value as ValueKind, Memory, Io}
use Rattle.g_graph.specs.declared.op.Op.{Op}
use Rattle.g_graph.specs.declared.op.Origin.{Origin}
use Rattle.g_graph.specs.declared.op.Origin.TheVariants.{Arg, Out}
use Rattle.g_graph.specs.Plain.{region, NodeTree, node, NodeTrees, no_nodes, RegionTrees, nodes_of, id_of}
use Rattle.g_graph.specs.Signatures.{joined, outputs_of, output_kinds, kind_after, result_kinds}
use Rattle.g_graph.specs.Scope.{is_of, known, last_index, origin_at, state_after, last_state}
use Rattle.g_graph.specs.WellFormed.{all_of, some_of, is_last, gives, returns_state}
use Rattle.g_graph.specs.Change.{has_node}
use Rattle.g_graph.proofs.lemmas.Indexes.{same_number_true, index_kind, index_none, GivesState, KeepsState, state_cases, last_gives}
use Rattle.g_graph.proofs.lemmas.Unique.{same_number, equal_back}
use Rattle.g_graph.proofs.lemmas.SpliceKept.{some_at}
use Rattle.g_mean.specs.Data.{Datum, at_port}
use Rattle.g_mean.specs.Meaning.{Outputs, no_outputs, extended, read}
use Rattle.g_mean.proofs.lemmas.Kinds.{joined-some, after-more}
use Rattle.s_linear.specs.Meaning.{State}
use Rattle.s_sequence.specs.Sequence.{values_in, value_args, Names, no_names, outputs_at, named, name_of}
use Rattle.s_sequence_keeps.proofs.Held.{IsState, state_datum, Tied, tied-wider, tied-kept, Held, Carries, carries-tied, carries-state, take-values}

-- what an origin carries, where there is one
abbrev carried : List Datum → Outputs → Option Origin → Datum → Datum
carried xs o None d = d
carried xs o (Some a) d = read xs o a

-- Nodes of a region have run, and their steps. Each value is held by its name, the state is what the last state of each
-- kind carries, and names below those of the region are as they were.
pub record Running (args : List Kind) (base : ℕ) (xs : List Datum) (start : State) (earlier : NodeTrees) (names : Names) (next : ℕ) (o : Outputs)
    (s : State) : Type 0 where
  pub least : base ≤ next
  pub values : (a : Origin) → known args earlier a ≡ Some ValueKind → Tied base next (read xs o a) (name_of args base names a) s
  pub states : (k : Kind) → IsState k → carried xs o (last_state k args earlier) (state_datum k start) ≡ state_datum k s
  pub keeps : (y : ℕ) → y < base → s.names y ≡ start.names y

-- What the step of a node did, which has outputs of these kinds: they are held from a name on.
pub record NodeDone (next at : ℕ) (kinds : List (Option Kind)) (start : State) (ys : List Datum) (s : State) : Type 0 where
  pub own : List Kind
  pub are : kinds ≡ map Some own
  pub carries : Carries own ys at s
  pub keeps : (y : ℕ) → y < next → s.names y ≡ start.names y
  pub states : (k : Kind) → IsState k → some_of (is_of k) kinds ≡ false → state_datum k s ≡ state_datum k start

-- ---- one more node

state-more : (k : Kind) (before : List NodeTree) (x : NodeTree) (found : Option Origin) →
    state_after k (nodes_of (before ++ x ∷ [])) found ≡ origin_at (λ p. Out (id_of x) p) (last_index k 0 (output_kinds x) None) (state_after k (nodes_of before) found)
state-more k [] x found = refl
state-more k (y ∷ before) x found = state-more k before x (origin_at (λ p. Out (id_of y) p) (last_index k 0 (output_kinds y) None) found)

-- an argument carries the same whatever the outputs are
argument-carried : (xs : List Datum) (o q : Outputs) (l : Option ℕ) (d : Datum) → carried xs o (origin_at Arg l None) d ≡ carried xs q (origin_at Arg l None) d
argument-carried xs o q None d = refl
argument-carried xs o q (Some p) d = refl

apart : (id n : ℕ) (earlier : NodeTrees) → has_node id earlier ≡ false → has_node n earlier ≡ true → (id == n) ≡ false
apart id n earlier none has = by (id == n) refl
  where
    by : (test : Bool) → (id == n) ≡ test → (id == n) ≡ false
    by true e =
        let same = same_number id n e in
        let here : has_node id earlier ≡ true = subst (λ z. has_node z earlier ≡ true) (sym same) has in
        absurd cc
    by false e = e

-- a node of another number leaves what the last state carries
carried-extended : (k : Kind) (args : List Kind) (xs : List Datum) (earlier : NodeTrees) (o : Outputs) (id : ℕ) (ys : List Datum) (d : Datum) →
    has_node id earlier ≡ false →
    carried xs (extended o id ys) (last_state k args earlier) d ≡ carried xs o (last_state k args earlier) d
carried-extended k args xs earlier o id ys d none = by (state_cases k earlier)
  where
    first : Option Origin
    first = origin_at Arg (last_index k 0 (map Some args) None) None

    by : GivesState k earlier ⊎ KeepsState k earlier → carried xs (extended o id ys) (state_after k earlier first) d ≡ carried xs o (state_after k earlier first) d
    by (inl g) =
        rw (g.from first) (ap (λ b. cond b (at_port ys g.port) (o g.number g.port)) (apart id g.number earlier none g.has))
    by (inr r) = rw (r.from first) (argument-carried xs (extended o id ys) o (last_index k 0 (map Some args) None) d)

-- ---- a region begins

pub started : (args : List Kind) (base : ℕ) (xs : List Datum) (s : State) → Carries args xs base s →
    Running args base xs s no_nodes no_names (base + value_args args) no_outputs s
started args base xs s h =
    record {
      least = omega arith;
      values = from;
      states = λ k state. by k state (last_index k 0 (map Some args) None) refl;
      keeps = λ y low. refl;
    }
  where
    from : (a : Origin) → known args no_nodes a ≡ Some ValueKind → Tied base (base + value_args args) (read xs no_outputs a) (name_of args base no_names a) s
    from (Arg p) e = carries-tied args xs base s h p e
    from (Out n p) e = absurd cc

    by : (k : Kind) → IsState k → (l : Option ℕ) → last_index k 0 (map Some args) None ≡ l →
        carried xs no_outputs (origin_at Arg l None) (state_datum k s) ≡ state_datum k s
    by k state None e = refl
    by k state (Some p) e = carries-state k state args xs base s h p (some_at args p k (index_kind k (map Some args) p e).0)

-- ---- a node is done

pub advanced : (args : List Kind) (base : ℕ) (xs : List Datum) (start : State) (before : List NodeTree) (names : Names) (next : ℕ) (o : Outputs) (s : State) →
    Running args base xs start (nodes_of before) names next o s → (id : ℕ) (op : Op) (inputs : List Origin) (rs : RegionTrees) →
    has_node id (nodes_of before) ≡ false → (last : ℕ) →
    next ≤ outputs_at next rs → outputs_at next rs + values_in (outputs_of op rs) ≤ last → (ys : List Datum) (t : State) →
    NodeDone next (outputs_at next rs) (outputs_of op rs) s ys t →
    Running args base xs start (nodes_of (before ++ node id op inputs rs ∷ [])) (named (node id op inputs rs) next names) last (extended o id ys) t
advanced args base xs start before names next o s r id op inputs rs fresh last low high ys t done =
    let bottom = r.least in
    record {
      least = omega (arith, bottom, low, high);
      values = from;
      states = λ k state. rw (state-more k before x (first k)) (by k state (last_index k 0 (outputs_of op rs) None) refl);
      keeps = λ y h. done.keeps y (omega (arith, bottom, h)) ∙ r.keeps y h;
    }
  where
    x : NodeTree
    x = node id op inputs rs

    first : Kind → Option Origin
    first k = origin_at Arg (last_index k 0 (map Some args) None) None

    wider : next ≤ last
    wider = omega (arith, low, high)

    old : (d : Datum) (y : ℕ) → Tied base next d y s → Tied base last d y t
    old d y h = tied-wider base next base last d y y t (omega arith) wider refl (tied-kept base next d y s t done.keeps h)

    new : (p : ℕ) → joined (slice_get (outputs_of op rs) p) ≡ Some ValueKind →
        Tied base last (at_port ys p) (outputs_at next rs + values_in (take p (outputs_of op rs))) t
    new p e =
        let here : slice_get done.own p ≡ Some ValueKind = joined-some done.own p ValueKind (subst (λ ks. joined (slice_get ks p) ≡ Some ValueKind) done.are e) in
        let h = carries-tied done.own ys (outputs_at next rs) t done.carries p here in
        let taken : values_in (take p (outputs_of op rs)) ≡ value_args (take p done.own) = ap (λ ks. values_in (take p ks)) done.are ∙ take-values done.own p in
        let all : values_in (outputs_of op rs) ≡ value_args done.own = ap values_in done.are in
        let bottom = r.least in
        tied-wider (outputs_at next rs) (outputs_at next rs + value_args done.own) base last (at_port ys p) (outputs_at next rs + value_args (take p done.own))
        (outputs_at next rs + values_in (take p (outputs_of op rs))) t (omega (arith, bottom, low)) (omega (arith, all, high))
        (ap (λ m. outputs_at next rs + m) (sym taken)) h

    at : (n p : ℕ) (test : Bool) → cond test (joined (slice_get (outputs_of op rs) p)) (kind_after (nodes_of before) n p None) ≡ Some ValueKind →
        Tied base last (cond test (at_port ys p) (o n p)) (cond test (outputs_at next rs + values_in (take p (outputs_of op rs))) (names n p)) t
    at n p true e = new p e
    at n p false e = old (o n p) (names n p) (r.values (Out n p) e)

    from : (a : Origin) → known args (nodes_of (before ++ x ∷ [])) a ≡ Some ValueKind →
        Tied base last (read xs (extended o id ys) a) (name_of args base (named x next names) a) t
    from (Arg p) e = old (at_port xs p) (base + value_args (take p args)) (r.values (Arg p) e)
    from (Out n p) e =
        subst (λ b. Tied base last (extended o id ys n p) (cond b (outputs_at next rs + values_in (take p (outputs_of op rs))) (names n p)) t) (equal_back id n)
        (at n p (id == n) (sym (after-more before x n p None) ∙ e))

    by : (k : Kind) → IsState k → (l : Option ℕ) → last_index k 0 (outputs_of op rs) None ≡ l →
        carried xs (extended o id ys) (origin_at (λ p. Out id p) l (last_state k args (nodes_of before))) (state_datum k start) ≡ state_datum k t
    by k state None e =
        carried-extended k args xs (nodes_of before) o id ys (state_datum k start) fresh ∙ r.states k state
        ∙ sym (done.states k state (index_none k (outputs_of op rs) e))
    by k state (Some p) e =
        let here : slice_get (map Some done.own) p ≡ Some (Some k) = subst (λ ks. slice_get ks p ≡ Some (Some k)) done.are (index_kind k (outputs_of op rs) p e).0 in
        ap (λ b. cond b (at_port ys p) (o id p)) (same_number_true id) ∙ carries-state k state done.own ys (outputs_at next rs) t done.carries p
        (some_at done.own p k here)

-- ---- what origins carry

state-carried : (args : List Kind) (base : ℕ) (xs : List Datum) (start : State) (earlier : NodeTrees) (names : Names) (next : ℕ) (o : Outputs) (s : State) →
    Running args base xs start earlier names next o s → (k : Kind) → IsState k → (a : Origin) → known args earlier a ≡ Some k → is_last args earlier a ≡ true →
    read xs o a ≡ state_datum k s
state-carried args base xs start earlier names next o s r k state a e last = by (last_gives k args earlier a e last)
  where
    by : (k ≡ ValueKind) ⊎ (last_state k args earlier ≡ Some a) → read xs o a ≡ state_datum k s
    by (inl same) = absurd (subst IsState same state)
    by (inr is) = ap (λ l. carried xs o l (state_datum k start)) (sym is) ∙ r.states k state

pub held : (args : List Kind) (base : ℕ) (xs : List Datum) (start : State) (earlier : NodeTrees) (names : Names) (next : ℕ) (o : Outputs) (s : State) →
    Running args base xs start earlier names next o s → (origins : List Origin) (ks : List Kind) → map (known args earlier) origins ≡ map Some ks →
    all_of (is_last args earlier) origins ≡ true →
    Held base next ks (map (read xs o) origins) (map (name_of args base names) origins) s
held args base xs start earlier names next o s r [] [] e last = tt
held args base xs start earlier names next o s r [] (k ∷ ks) e last = absurd cc
held args base xs start earlier names next o s r (a ∷ origins) [] e last = absurd cc
held args base xs start earlier names next o s r (a ∷ origins) (ValueKind ∷ ks) e last =
    let first : known args earlier a ≡ Some ValueKind = cc in
    let rest : map (known args earlier) origins ≡ map Some ks = cc in (
      r.values a first,
      held args base xs start earlier names next o s r origins ks rest
          (and_parts (is_last args earlier a) (all_of (is_last args earlier) origins) last).1,
    )
held args base xs start earlier names next o s r (a ∷ origins) (Memory ∷ ks) e last =
    let first : known args earlier a ≡ Some Memory = cc in
    let rest : map (known args earlier) origins ≡ map Some ks = cc in
    let both = and_parts (is_last args earlier a) (all_of (is_last args earlier) origins) last in
    (state-carried args base xs start earlier names next o s r Memory tt a first both.0, held args base xs start earlier names next o s r origins ks rest both.1)
held args base xs start earlier names next o s r (a ∷ origins) (Io ∷ ks) e last =
    let first : known args earlier a ≡ Some Io = cc in
    let rest : map (known args earlier) origins ≡ map Some ks = cc in
    let both = and_parts (is_last args earlier a) (all_of (is_last args earlier) origins) last in
    (state-carried args base xs start earlier names next o s r Io tt a first both.0, held args base xs start earlier names next o s r origins ks rest both.1)

-- ---- a region without a state as its result leaves the state

pub state-left : (args : List Kind) (base : ℕ) (xs : List Datum) (start : State) → Carries args xs base start →
    (nodes : NodeTrees) (names : Names) (next : ℕ) (o : Outputs) (s : State) →
    Running args base xs start nodes names next o s → (k : Kind) → IsState k → (results : List Origin) → returns_state k (region args nodes results) ≡ true →
    some_of (is_of k) (result_kinds (region args nodes results)) ≡ false → state_datum k s ≡ state_datum k start
state-left args base xs start h nodes names next o s r k state results returns none = by (state_cases k nodes)
  where
    first : Option Origin
    first = origin_at Arg (last_index k 0 (map Some args) None) None

    none-given : (a b : Bool) → (not a || b) ≡ true → b ≡ false → a ≡ true → ⊥
    none-given false b e d f = cc
    none-given true true e d f = cc
    none-given true false e d f = cc

    by : GivesState k nodes ⊎ KeepsState k nodes → state_datum k s ≡ state_datum k start
    by (inl g) = absurd (none-given (gives k nodes) (some_of (is_of k) (result_kinds (region args nodes results))) returns none g.given)
    by (inr q) =
        let now : carried xs o (state_after k nodes first) (state_datum k start) ≡ state_datum k s = r.states k state in
        let was : carried xs no_outputs first (state_datum k start) ≡ state_datum k start = (started args base xs start h).states k state in
        sym now ∙ ap (λ l. carried xs o l (state_datum k start)) (q.from first) ∙ argument-carried xs o no_outputs (last_index k 0 (map Some args) None)
        (state_datum k start) ∙ was
