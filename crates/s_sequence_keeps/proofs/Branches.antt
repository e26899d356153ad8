-- The regions of a Gamma: a region and its branch agree.
use Rattle.std.proofs.Common.{◌≡◌, ◌⊎◌, ◌≤◌, inl, inr, ℕ, ◌+◌, true, ◌&&◌, List, [], ◌∷◌, map, Some, refl, ap, ◌∙◌, arith}
use Rattle.std.proofs.lemmas.Bool.{and_parts}
use Rattle.val_core.specs.Answers.{Returned}
use Rattle.g_graph.specs.declared.op.Kind.{Kind}
use Rattle.g_graph.specs.declared.op.Kind.TheVariants.{Memory, Io}
use Rattle.g_graph.specs.declared.op.Kind.TheVariants as kind
use Rattle.g_graph.specs.Plain.{RegionTree, region, RegionTrees, no_regions, region_then, args_of}
use Rattle.g_graph.specs.Signatures.{result_kinds}
use Rattle.g_graph.specs.Scope.{is_of}
use Rattle.g_graph.specs.WellFormed.{some_of, nodes_fit, results_are_last, returns_state, region_has_one_state_each, region_fits}
use Rattle.g_mean.specs.Data.{Datum}
use Rattle.g_mean.specs.Meaning as graph
use Rattle.g_mean.specs.Meaning.{Outputs, no_outputs, read, nodes_run, region_meaning}
use Rattle.s_linear.specs.Linear.{Code, no_steps}
use Rattle.s_linear.specs.Meaning as linear
use Rattle.s_linear.specs.Meaning.{State, code_run}
use Rattle.s_sequence.specs.Sequence.{value_args, kept, Names, no_names, nodes_names, region_names, last_names, outputs_at, bases_from, bases, nodes_named, name_of, moves, instrs_then, nodes_code, branch_code}
use Rattle.s_sequence_keeps.specs.Agreement.{Agrees}
use Rattle.s_sequence_keeps.proofs.AgreeingAnswers.{agrees-then}
use Rattle.s_sequence_keeps.proofs.Held.{IsState, moved, moves-then, moved-below, moved-states, Held, Carries, moves-carry}
use Rattle.s_sequence_keeps.proofs.Running.{Running, NodeDone, held, state-left}
use Rattle.s_sequence_keeps.proofs.Claims.{RegionClaim, nodes-then}

-- ---- the tests of a region

pub record RegionTests (objects : ℕ) (r : RegionTree) : Type 0 where
  pub nodes : nodes_fit objects r ≡ true
  pub last : results_are_last r ≡ true
  pub returns : (k : Kind) → IsState k → returns_state k r ≡ true

pub region-tests : (objects : ℕ) (r : RegionTree) → region_fits objects r ≡ true → RegionTests objects r
region-tests objects r t =
    let p = and_parts (nodes_fit objects r && results_are_last r && returns_state Memory r && returns_state Io r) (region_has_one_state_each r) t in
    let q = and_parts (nodes_fit objects r && results_are_last r && returns_state Memory r) (returns_state Io r) p.0 in
    let u = and_parts (nodes_fit objects r && results_are_last r) (returns_state Memory r) q.0 in
    let v = and_parts (nodes_fit objects r) (results_are_last r) u.0 in
    record { nodes = v.0; last = v.1; returns = by u.1 q.1 }
  where
    by : returns_state Memory r ≡ true → returns_state Io r ≡ true → (k : Kind) → IsState k → returns_state k r ≡ true
    by m i kind.Value state = absurd state
    by m i kind.Memory state = m
    by m i kind.Io state = i

-- ---- one branch

-- where the names of a branch begin: apart from those of the outputs, and not below those of the node
abbrev BaseFits : (next out count base : ℕ) → RegionTree → Type 0
BaseFits next out count base r = (next ≤ base) × ((base + region_names r ≤ out) ⊎ (out + count ≤ base))

pub branch-agrees : (c : graph.Context) (d : linear.Context) (objects : ℕ) (r : RegionTree) → RegionClaim c d r → region_fits objects r ≡ true → (gives : List Kind) →
    result_kinds r ≡ map Some gives →
    (first next out base : ℕ) → BaseFits next out (value_args gives) base r → next ≤ out → (entries : List ℕ) (xs : List Datum) (s : State) →
    Held first next (args_of r) xs entries s →
    Agrees (NodeDone next out (map Some gives) s) (region_meaning c r xs) (code_run d (branch_code entries out base r) s)
branch-agrees c d objects (region args nodes results) claim fits gives kinds first next out base place low entries xs s h =
    rw (
      moves-then d base (kept (map Some args) entries) (nodes_code args base no_names (base + value_args args) nodes ends) s,
      nodes-then d args base no_names (base + value_args args) nodes ends begun,
    )
    (agrees-then (Running args base xs begun nodes all top) (NodeDone next out (map Some gives) s) (nodes_run c nodes xs no_outputs)
    (code_run d (nodes_code args base no_names (base + value_args args) nodes no_steps) begun) (λ o. Returned (map (read xs o) results) []) (code_run d ends)
    (claim base xs begun carries) after)
  where
    r : RegionTree
    r = region args nodes results

    tests : RegionTests objects (region args nodes results)
    tests = region-tests objects (region args nodes results) fits

    begun : State
    begun = moved base (kept (map Some args) entries) s

    top : ℕ
    top = base + value_args args + nodes_names nodes

    all : Names
    all = nodes_named nodes (base + value_args args) no_names

    found : List ℕ
    found = map (name_of args base all) results

    ends : Code
    ends = instrs_then (moves out (kept (result_kinds (region args nodes results)) found)) no_steps

    carries : Carries args xs base begun
    carries = moves-carry first next args xs entries base s (inr place.0) h

    away : (base + region_names (region args nodes results) ≤ out) ⊎ (out + value_args gives ≤ base) → (out + value_args gives ≤ base) ⊎ (top ≤ out)
    away (inl a) = inr (omega (arith, a))
    away (inr a) = inl a

    after : (o : Outputs) (t : State) → Running args base xs begun nodes all top o t →
        Agrees (NodeDone next out (map Some gives) s) (Returned (map (read xs o) results) []) (code_run d ends t)
    after o t run =
        let results-held = held args base xs begun nodes all top o t run results gives kinds tests.last in
        let low-base = place.0 in
        rw (moves-then d out (kept (result_kinds (region args nodes results)) found) no_steps t) (
          record {
            own = gives;
            are = refl;
            carries = rw kinds (moves-carry base top gives (map (read xs o) results) found out t (away place.1) results-held);
            keeps = λ y below.
                moved-below out (kept (result_kinds (region args nodes results)) found) t y (omega (arith, below, low)) ∙ run.keeps y (omega (arith, below, low-base))
                ∙ moved-below base (kept (map Some args) entries) s y (omega (arith, below, low-base));
            states = λ k state none.
                moved-states k out (kept (result_kinds (region args nodes results)) found) t
                ∙ state-left args base xs begun carries nodes all top o t run k state results (tests.returns k state) (ap (some_of (is_of k)) kinds ∙ none)
                ∙ moved-states k base (kept (map Some args) entries) s;
          },
          refl,
        )

-- ---- where branches begin

abbrev pub AllFit : (next out count : ℕ) → List ℕ → RegionTrees → Type 0
AllFit next out count [] no_regions = Unit {0}
AllFit next out count (b ∷ bs) (region_then r rs) = BaseFits next out count b r × AllFit next out count bs rs
AllFit next out count _ _ = ⊥

from-fit : (next out count at : ℕ) (rs : RegionTrees) → out + count ≤ at → next ≤ at → next + last_names rs ≤ out → AllFit next out count (bases_from next at rs) rs
from-fit next out count at no_regions h k l = tt
from-fit next out count at (region_then r no_regions) h k l = ((omega arith, inl l), tt)
from-fit next out count at (region_then r (region_then q rs)) h k l =
    ((k, inr h), from-fit next out count (at + region_names r) (region_then q rs) (omega (arith, h)) (omega (arith, k)) l)

pub bases-fit : (next count : ℕ) (rs : RegionTrees) → AllFit next (outputs_at next rs) count (bases next count rs) rs
bases-fit next count no_regions = tt
bases-fit next count (region_then r no_regions) = ((omega arith, inl (omega arith)), tt)
bases-fit next count (region_then r (region_then q no_regions)) = ((omega arith, inl (omega arith)), ((omega arith, inr (omega arith)), tt))
bases-fit next count (region_then r (region_then q (region_then u rs))) =
    from-fit next (next + last_names (region_then r (region_then q (region_then u rs)))) count
    (next + last_names (region_then r (region_then q (region_then u rs))) + count)
    (region_then r (region_then q (region_then u rs))) (omega arith) (omega arith) (omega arith)
