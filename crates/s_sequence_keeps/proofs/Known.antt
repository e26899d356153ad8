-- The names of a region's origins are written: over the ops, the branches of a choice, and a loop.
use Rattle.std.proofs.Common.{◌≡◌, ◌<◌, inl, ℕ, ◌+◌, ◌-◌, ◌==◌, Bool, true, false, cond, List, [], ◌∷◌, ◌++◌, map, length, slice_get, Option, None, Some, refl, sym, ap, subst, ◌∙◌, arith}
use Rattle.std.specs.Prelude.{take}
use Rattle.g_graph.specs.declared.op.Kind.{Kind}
use Rattle.g_graph.specs.declared.op.Kind.TheVariants.{Value, Memory, Io}
use Rattle.g_graph.specs.declared.op.Op.{Op}
use Rattle.g_graph.specs.declared.op.Op.TheVariants.{Const, Undef, Local, Delta, Bin, Un, Load, Store, Clear, PtrEq, Apply, Put, Exit, Get, Gamma, Theta}
use Rattle.g_graph.specs.declared.op.Origin.{Origin}
use Rattle.g_graph.specs.declared.op.Origin.TheVariants.{Arg, Out}
use Rattle.g_graph.specs.Plain.{RegionTree, region, NodeTree, node, NodeTrees, no_nodes, RegionTrees, no_regions, region_then, nodes_of, args_of}
use Rattle.g_graph.specs.Signatures.{joined, inputs_of, outputs_of, kind_after, result_kinds}
use Rattle.g_graph.specs.Scope.{known}
use Rattle.g_graph.specs.WellFormed.{are}
use Rattle.g_graph.proofs.lemmas.Nodes.{are_kinds}
use Rattle.g_graph.proofs.lemmas.Unique.{equal_back}
use Rattle.g_mean.proofs.lemmas.Kinds.{joined-some, after-more}
use Rattle.val_core.proofs.lemmas.Numbers.{length_numbers}
use Rattle.s_linear.specs.Linear.{Instr, Step, plain, Code, no_steps}
use Rattle.val_core.specs.Numbers.{numbers_from}
use Rattle.s_sequence.specs.Sequence.{values_in, value_args, kept, Names, no_names, nodes_names, outputs_at, named, nodes_named, name_of, name_at, moves, op_instr, instrs_then, nodes_code, node_step, branch_code, loop_step}
use Rattle.g_mean.proofs.lemmas.Kinds.{NodeTests}
use Rattle.s_sequence_keeps.specs.Closed.{target_of, sources_of, NameSet, none_written, AreIn, after_instrs, after_step, after_code, StepIsClosed, CodeIsClosed}
use Rattle.s_sequence_keeps.proofs.Held.{take-values}
use Rattle.s_sequence_keeps.proofs.Nodes.{is_simple}
use Rattle.s_sequence_keeps.proofs.Written.{Grows, instrs-grow, instrs-then-closed, instrs-then-after, nodes-then-closed, nodes-then-after, moves-closed, moves-write, same-targets, numbers-in, AreKnown, kept-in, known-at, without-states-in, value-place}

-- the name of each value that a region's origin carries is written
abbrev pub OriginsKnown : (args : List Kind) (base : ℕ) (names : Names) (earlier : NodeTrees) → NameSet → Type 0
OriginsKnown args base names earlier D = (a : Origin) → known args earlier a ≡ Some Value → D (name_of args base names a)

-- A step reads what is written, and writes the names of the values among its outputs.
pub record StepWrites (D : NameSet) (step : Step) (at : ℕ) (kinds : List (Option Kind)) : Type 0 where
  pub own : List Kind
  pub are : kinds ≡ map Some own
  pub reads : StepIsClosed D step
  pub outputs : (k : ℕ) → k < value_args own → after_step D step (at + k)

abbrev pub NodeWrites : NameSet → (args : List Kind) (base : ℕ) (names : Names) (next : ℕ) → NodeTree → Type 0
NodeWrites D args base names next (node id op inputs rs) = StepWrites D (node_step args base names next (node id op inputs rs)) (outputs_at next rs) (outputs_of op rs)

-- the nodes of a region, where its arguments are written
abbrev pub KnownClaim : RegionTree → Type 1
KnownClaim (region args nodes results) =
    (base : ℕ) (E : NameSet) → OriginsKnown args base no_names no_nodes E →
    CodeIsClosed E (nodes_code args base no_names (base + value_args args) nodes no_steps)
    × OriginsKnown args base (nodes_named nodes (base + value_args args) no_names) nodes
    (after_code E (nodes_code args base no_names (base + value_args args) nodes no_steps))

-- ---- origins

pub arguments-known : (args : List Kind) (base : ℕ) (E : NameSet) → ((k : ℕ) → k < value_args args → E (base + k)) → OriginsKnown args base no_names no_nodes E
arguments-known args base E h (Arg p) e = h (value_args (take p args)) (subst (λ m. m < value_args args) (take-values args p) (value-place args p e))
arguments-known args base E h (Out n p) e = absurd cc

pub list-known : (args : List Kind) (base : ℕ) (names : Names) (earlier : NodeTrees) (D : NameSet) → OriginsKnown args base names earlier D →
    (origins : List Origin) (ks : List Kind) →
    map (known args earlier) origins ≡ map Some ks → AreKnown D ks (map (name_of args base names) origins)
list-known args base names earlier D h [] [] e = tt
list-known args base names earlier D h [] (k ∷ ks) e = absurd cc
list-known args base names earlier D h (a ∷ origins) [] e = absurd cc
list-known args base names earlier D h (a ∷ origins) (Value ∷ ks) e =
    let first : known args earlier a ≡ Some Value = cc in
    let rest : map (known args earlier) origins ≡ map Some ks = cc in
    (h a first, list-known args base names earlier D h origins ks rest)
list-known args base names earlier D h (a ∷ origins) (Memory ∷ ks) e =
    let rest : map (known args earlier) origins ≡ map Some ks = cc in
    list-known args base names earlier D h origins ks rest
list-known args base names earlier D h (a ∷ origins) (Io ∷ ks) e =
    let rest : map (known args earlier) origins ≡ map Some ks = cc in
    list-known args base names earlier D h origins ks rest

-- one more node
pub known-more : (args : List Kind) (base : ℕ) (names : Names) (before : List NodeTree) (D : NameSet) → OriginsKnown args base names (nodes_of before) D →
    (next : ℕ) (x : NodeTree) →
    Grows D (after_step D (node_step args base names next x)) → NodeWrites D args base names next x →
    OriginsKnown args base (named x next names) (nodes_of (before ++ x ∷ [])) (after_step D (node_step args base names next x))
known-more args base names before D h next (node id op inputs rs) grows w = from
  where
    E : NameSet
    E = after_step D (node_step args base names next (node id op inputs rs))

    new : (p : ℕ) → joined (slice_get (outputs_of op rs) p) ≡ Some Value → E (outputs_at next rs + values_in (take p (outputs_of op rs)))
    new p e =
        let here : slice_get w.own p ≡ Some Value = joined-some w.own p Value (subst (λ ks. joined (slice_get ks p) ≡ Some Value) w.are e) in
        subst (λ ks. E (outputs_at next rs + values_in (take p ks))) (sym w.are) (w.outputs (values_in (take p (map Some w.own))) (value-place w.own p here))

    at : (n p : ℕ) (test : Bool) → cond test (joined (slice_get (outputs_of op rs) p)) (kind_after (nodes_of before) n p None) ≡ Some Value →
        E (cond test (outputs_at next rs + values_in (take p (outputs_of op rs))) (names n p))
    at n p true e = new p e
    at n p false e = grows (names n p) (h (Out n p) e)

    from : (a : Origin) → known args (nodes_of (before ++ node id op inputs rs ∷ [])) a ≡ Some Value → E (name_of args base (named (node id op inputs rs) next names) a)
    from (Arg p) e = grows (base + value_args (take p args)) (h (Arg p) e)
    from (Out n p) e =
        subst (λ b. E (cond b (outputs_at next rs + values_in (take p (outputs_of op rs))) (names n p))) (equal_back id n)
        (at n p (id == n) (sym (after-more before (node id op inputs rs) n p None) ∙ e))

-- ---- ops without regions

module _ (D : NameSet) (next : ℕ) where
  one-value : (i : Instr) → target_of i ≡ Some next → AreIn D (sources_of i) → (own : List Kind) → value_args own ≡ 1 →
      StepWrites D (plain i) (outputs_at next no_regions) (map Some own)
  one-value i target h own one =
      record {
        own = own;
        are = refl;
        reads = h;
        outputs = λ k low. let same : next ≡ next + 0 + k = omega (arith, low, one) in inl (target ∙ ap Some same);
      }

  no-value : (i : Instr) → AreIn D (sources_of i) → (own : List Kind) → value_args own ≡ 0 → StepWrites D (plain i) (outputs_at next no_regions) (map Some own)
  no-value i h own none =
      record { own = own; are = refl; reads = h; outputs = λ k low. absurd (omega (arith, low, none)) }

module _ (args : List Kind) (base : ℕ) (names : Names) (earlier : NodeTrees) (D : NameSet) (h : OriginsKnown args base names earlier D) (next : ℕ) where
  inputs-known : (inputs : List Origin) (ks : List Kind) → are (map (known args earlier) inputs) ks ≡ true → AreKnown D ks (map (name_of args base names) inputs)
  inputs-known inputs ks fit = list-known args base names earlier D h inputs ks (are_kinds (map (known args earlier) inputs) ks fit)

  at : (inputs : List Origin) (ks : List Kind) → are (map (known args earlier) inputs) ks ≡ true → (p : ℕ) → slice_get ks p ≡ Some Value →
      D (name_at (map (name_of args base names) inputs) p)
  at inputs ks fit p e = known-at D ks (map (name_of args base names) inputs) (inputs-known inputs ks fit) p e

  pub op-writes : (id : ℕ) (op : Op) (inputs : List Origin) (rs : RegionTrees) → is_simple op ≡ true → NodeTests args earlier (node id op inputs rs) →
      NodeWrites D args base names next (node id op inputs rs)
  op-writes id Gamma inputs rs simple t = absurd cc
  op-writes id Theta inputs rs simple t = absurd cc
  op-writes id (Const w) inputs no_regions simple t = one-value D next (op_instr (Const w) next (map (name_of args base names) inputs)) refl tt (Value ∷ []) refl
  op-writes id Undef inputs no_regions simple t = one-value D next (op_instr Undef next (map (name_of args base names) inputs)) refl tt (Value ∷ []) refl
  op-writes id (Local k) inputs no_regions simple t = one-value D next (op_instr (Local k) next (map (name_of args base names) inputs)) refl tt (Value ∷ []) refl
  op-writes id (Delta k) inputs no_regions simple t = one-value D next (op_instr (Delta k) next (map (name_of args base names) inputs)) refl tt (Value ∷ []) refl
  op-writes id (Bin op) inputs no_regions simple t =
      one-value D next (op_instr (Bin op) next (map (name_of args base names) inputs)) refl
      (at inputs (Value ∷ Value ∷ []) t.inputs 0 refl, (at inputs (Value ∷ Value ∷ []) t.inputs 1 refl, tt)) (Value ∷ []) refl
  op-writes id (Un op) inputs no_regions simple t =
      one-value D next (op_instr (Un op) next (map (name_of args base names) inputs)) refl (at inputs (Value ∷ []) t.inputs 0 refl, tt) (Value ∷ []) refl
  op-writes id (Load w) inputs no_regions simple t =
      one-value D next (op_instr (Load w) next (map (name_of args base names) inputs)) refl (at inputs (Value ∷ Memory ∷ []) t.inputs 0 refl, tt) (Value ∷ []) refl
  op-writes id (Store w) inputs no_regions simple t =
      no-value D next (op_instr (Store w) next (map (name_of args base names) inputs))
      (at inputs (Value ∷ Value ∷ Memory ∷ []) t.inputs 0 refl, (at inputs (Value ∷ Value ∷ Memory ∷ []) t.inputs 1 refl, tt)) (Memory ∷ []) refl
  op-writes id (Clear k) inputs no_regions simple t = no-value D next (op_instr (Clear k) next (map (name_of args base names) inputs)) tt (Memory ∷ []) refl
  op-writes id PtrEq inputs no_regions simple t =
      one-value D next (op_instr PtrEq next (map (name_of args base names) inputs)) refl
      (at inputs (Value ∷ Value ∷ Memory ∷ []) t.inputs 0 refl, (at inputs (Value ∷ Value ∷ Memory ∷ []) t.inputs 1 refl, tt)) (Value ∷ []) refl
  op-writes id Put inputs no_regions simple t =
      no-value D next (op_instr Put next (map (name_of args base names) inputs)) (at inputs (Value ∷ Io ∷ []) t.inputs 0 refl, tt) (Io ∷ []) refl
  op-writes id Exit inputs no_regions simple t =
      no-value D next (op_instr Exit next (map (name_of args base names) inputs)) (at inputs (Value ∷ Io ∷ []) t.inputs 0 refl, tt) (Io ∷ []) refl
  op-writes id Get inputs no_regions simple t = one-value D next (op_instr Get next (map (name_of args base names) inputs)) refl tt (Value ∷ Io ∷ []) refl
  op-writes id (Apply f) inputs no_regions simple t =
      one-value D next (op_instr (Apply f) next (map (name_of args base names) inputs)) refl
      (without-states-in D (length inputs - 2) (map (name_of args base names) inputs) (inputs-known inputs (inputs_of (Apply f) (length inputs) no_regions) t.inputs))
      (Value ∷ Memory ∷ Io ∷ []) refl
  op-writes id op inputs (region_then r rs) simple t = let has = t.has in absurd cc

-- ---- a branch of a choice

pub branch-writes : (D : NameSet) (r : RegionTree) → KnownClaim r → (gives : List Kind) → result_kinds r ≡ map Some gives → (out base : ℕ) (entries : List ℕ) →
    AreKnown D (args_of r) entries →
    CodeIsClosed D (branch_code entries out base r) × ((k : ℕ) → k < value_args gives → after_code D (branch_code entries out base r) (out + k))
branch-writes D (region args nodes results) claim gives kinds out base entries h = (
  instrs-then-closed D (moves base moved) body (moves-closed D base moved entered.0)
      (nodes-then-closed E args base no_names (base + value_args args) nodes ends inside.0
      (instrs-then-closed F (moves out exits) no_steps (moves-closed F out exits left.0) tt)),
  λ k low.
      instrs-then-after D (moves base moved) body (out + k)
      (nodes-then-after E args base no_names (base + value_args args) nodes ends (out + k)
      (instrs-then-after F (moves out exits) no_steps (out + k) (moves-write F out exits k (let e = left.1 in omega (arith, low, e))))),
)
  where
    moved : List ℕ
    moved = kept (map Some args) entries

    found : List ℕ
    found = map (name_of args base (nodes_named nodes (base + value_args args) no_names)) results

    exits : List ℕ
    exits = kept (result_kinds (region args nodes results)) found

    ends : Code
    ends = instrs_then (moves out exits) no_steps

    body : Code
    body = nodes_code args base no_names (base + value_args args) nodes ends

    entered : AreIn D (kept (map Some args) entries) × (length (kept (map Some args) entries) ≡ value_args args)
    entered = kept-in D args entries h

    E : NameSet
    E = after_instrs D (moves base (kept (map Some args) entries))

    F : NameSet
    F = after_code E (nodes_code args base no_names (base + value_args args) nodes no_steps)

    inside : CodeIsClosed E (nodes_code args base no_names (base + value_args args) nodes no_steps)
        × OriginsKnown args base (nodes_named nodes (base + value_args args) no_names) nodes F
    inside =
        claim base E (arguments-known args base E (λ k low. moves-write D base (kept (map Some args) entries) k (let e = entered.1 in omega (arith, low, e))))

    left : AreIn F (kept (result_kinds (region args nodes results)) found) × (length (kept (result_kinds (region args nodes results)) found) ≡ value_args gives)
    left =
        subst (λ ks. AreIn F (kept ks found) × (length (kept ks found) ≡ value_args gives)) (sym kinds)
        (kept-in F gives found (list-known args base (nodes_named nodes (base + value_args args) no_names) nodes F inside.1 results gives kinds))

-- ---- a loop

pub loop-writes : (D : NameSet) (r : RegionTree) → KnownClaim r → result_kinds r ≡ map Some (Value ∷ args_of r) → (next : ℕ) (entries : List ℕ) →
    AreKnown D (args_of r) entries →
    StepWrites D (loop_step entries next r) (outputs_at next (region_then r no_regions)) (map Some (args_of r))
loop-writes D (region args nodes []) claim kinds next entries h = absurd cc
loop-writes D (region args nodes (predicate ∷ results)) claim kinds next entries h =
    record {
      own = args;
      are = refl;
      reads = (
        moves-closed D next moved entered.0,
        nodes-then-closed E args next no_names (next + value_args args) nodes ends inside.0
            (instrs-then-closed F (moves top exits) no_steps (moves-closed F top exits left.0) tt),
        nodes-then-after E args next no_names (next + value_args args) nodes ends (name_of args next all predicate)
            (instrs-then-after F (moves top exits) no_steps (name_of args next all predicate)
            (instrs-grow F (moves top exits) (name_of args next all predicate) known-all.0)),
        moves-closed (after_code E body) next (numbers_from top (value_args args)) (numbers-in (after_code E body) top (value_args args) written),
        same-targets next (numbers_from top (value_args args)) moved (length_numbers top (value_args args) ∙ sym entered.1),
      );
      outputs = λ k low. let same : top + k ≡ next + (value_args args + nodes_names nodes) + k = omega arith in inl (subst (after_code E body) same (written k low));
    }
  where
    all : Names
    all = nodes_named nodes (next + value_args args) no_names

    top : ℕ
    top = next + value_args args + nodes_names nodes

    moved : List ℕ
    moved = kept (map Some args) entries

    found : List ℕ
    found = map (name_of args next (nodes_named nodes (next + value_args args) no_names)) results

    exits : List ℕ
    exits = kept (map Some args) found

    ends : Code
    ends = instrs_then (moves top exits) no_steps

    body : Code
    body = nodes_code args next no_names (next + value_args args) nodes ends

    entered : AreIn D (kept (map Some args) entries) × (length (kept (map Some args) entries) ≡ value_args args)
    entered = kept-in D args entries h

    E : NameSet
    E = after_instrs none_written (moves next (kept (map Some args) entries))

    F : NameSet
    F = after_code E (nodes_code args next no_names (next + value_args args) nodes no_steps)

    inside : CodeIsClosed E (nodes_code args next no_names (next + value_args args) nodes no_steps)
        × OriginsKnown args next (nodes_named nodes (next + value_args args) no_names) nodes F
    inside =
        claim next E (arguments-known args next E (λ k low. moves-write none_written next (kept (map Some args) entries) k (let e = entered.1 in omega (arith, low, e))))

    known-all : F (name_of args next (nodes_named nodes (next + value_args args) no_names) predicate) × AreKnown F args found
    known-all = list-known args next (nodes_named nodes (next + value_args args) no_names) nodes F inside.1 (predicate ∷ results) (Value ∷ args) kinds

    left : AreIn F (kept (map Some args) found) × (length (kept (map Some args) found) ≡ value_args args)
    left = kept-in F args found known-all.1

    written : (k : ℕ) → k < value_args args → after_code E body (top + k)
    written k low =
        nodes-then-after E args next no_names (next + value_args args) nodes ends (top + k)
        (instrs-then-after F (moves top exits) no_steps (top + k) (moves-write F top exits k (let e = left.1 in omega (arith, low, e))))
