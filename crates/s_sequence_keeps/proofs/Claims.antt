-- What is claimed of a region's nodes and their code, and code that stands after the nodes.
use Rattle.std.proofs.Common.{◌≡◌, ℕ, zero, suc, ◌+◌, List, [], ◌∷◌, refl, sym, ◌∙◌}
use Rattle.val_core.specs.Objects.{Addresses}
use Rattle.val_core.specs.declared.values.Value.{Value}
use Rattle.val_core.specs.Values.{IsLessDefined}
use Rattle.val_core.specs.Answers.{Undefined, then_on, on_number}
use Rattle.val_core.proofs.lemmas.Answers.{then_associates, then_on_given}
use Rattle.g_graph.specs.declared.op.Kind.{Kind}
use Rattle.g_graph.specs.Plain.{RegionTree, region, NodeTree, node, NodeTrees, no_nodes, node_then}
use Rattle.g_graph.specs.Signatures.{outputs_of}
use Rattle.g_mean.specs.Data.{Datum}
use Rattle.g_mean.specs.Meaning as graph
use Rattle.g_mean.specs.Meaning.{Meaning, no_outputs, nodes_run}
use Rattle.s_linear.specs.Linear.{Code, no_steps}
use Rattle.s_linear.specs.Meaning as linear
use Rattle.s_linear.specs.Meaning.{State, Run, Call, none_lost, step_run, code_run}
use Rattle.s_sequence.specs.Sequence.{value_args, Names, no_names, nodes_names, node_names, outputs_at, named, nodes_named, nodes_code, node_step}
use Rattle.s_sequence_keeps.specs.Agreement.{Agrees}
use Rattle.s_sequence_keeps.proofs.AgreeingAnswers.{agrees-number, agrees-unread}
use Rattle.s_sequence_keeps.proofs.Held.{Carries}
use Rattle.s_sequence_keeps.proofs.Running.{Running, NodeDone}

-- what stands around a region and around its code
abbrev pub graph_context : ℕ → (ℕ → Meaning) → Addresses → graph.Context
graph_context n call addresses = record { bound = n; call = call; addresses = addresses }

abbrev pub code_context : ℕ → (ℕ → Call) → Addresses → linear.Context
code_context n callees addresses = record { bound = n; call = callees; lost = none_lost; addresses = addresses }

-- code after that of nodes is done after them
pub nodes-then : (d : linear.Context) (args : List Kind) (base : ℕ) (names : Names) (next : ℕ) (ns : NodeTrees) (k : Code) (s : State) →
    code_run d (nodes_code args base names next ns k) s ≡ then_on (code_run d (nodes_code args base names next ns no_steps) s) (code_run d k)
nodes-then d args base names next no_nodes k s = refl
nodes-then d args base names next (node_then x ns) k s =
    then_on_given (step_run d (node_step args base names next x) s) (code_run d (nodes_code args base (named x next names) (next + node_names x) ns k))
    (λ t. then_on (code_run d (nodes_code args base (named x next names) (next + node_names x) ns no_steps) t) (code_run d k))
    (λ t o e. nodes-then d args base (named x next names) (next + node_names x) ns k t)
    ∙ sym (then_associates (step_run d (node_step args base names next x) s) (code_run d (nodes_code args base (named x next names) (next + node_names x) ns no_steps))
    (code_run d k))

-- what the step of a node did
abbrev pub StepDone : NodeTree → (next : ℕ) → State → List Datum → State → Type 0
StepDone (node id op inputs rs) next s ys t = NodeDone next (outputs_at next rs) (outputs_of op rs) s ys t

-- The nodes of a region and their code agree, wherever the names of the region begin.
abbrev pub RegionClaim : graph.Context → linear.Context → RegionTree → Type 0
RegionClaim c d (region args nodes results) =
    (base : ℕ) (xs : List Datum) (s : State) → Carries args xs base s →
    Agrees (Running args base xs s nodes (nodes_named nodes (base + value_args args) no_names) (base + value_args args + nodes_names nodes))
    (nodes_run c nodes xs no_outputs)
    (code_run d (nodes_code args base no_names (base + value_args args) nodes no_steps) s)

-- ---- choices

-- each meaning and the run in its place agree
abbrev pub AllAgree : (List Datum → State → Type 0) → List Datum → State → List Meaning → List Run → Type 0
AllAgree R xs s [] [] = Unit {0}
AllAgree R xs s (m ∷ ms) (r ∷ rs) = Agrees R (m xs) (r s) × AllAgree R xs s ms rs
AllAgree R xs s _ _ = ⊥

chosen-agree : (R : List Datum → State → Type 0) (xs : List Datum) (s : State) (w : ℕ) (ms : List Meaning) (rs : List Run) → AllAgree R xs s ms rs →
    Agrees R (graph.chosen w ms xs) (linear.chosen w rs s)
chosen-agree R xs s w [] [] h = tt
chosen-agree R xs s w (m ∷ []) (r ∷ []) h = h.0
chosen-agree R xs s zero (m ∷ l ∷ ms) (r ∷ q ∷ rs) h = h.0
chosen-agree R xs s (suc w) (m ∷ l ∷ ms) (r ∷ q ∷ rs) h = chosen-agree R xs s w (l ∷ ms) (q ∷ rs) h.1
chosen-agree R xs s w (m ∷ []) (r ∷ q ∷ rs) h = absurd h.1
chosen-agree R xs s w (m ∷ l ∷ ms) (r ∷ []) h = absurd h.1
chosen-agree R xs s w [] (r ∷ rs) h = absurd h
chosen-agree R xs s w (m ∷ ms) [] h = absurd h

-- A Gamma of one region reads its predicate, and the choice of one code does not.
pub chosen-by-agree : (R : List Datum → State → Type 0) (xs : List Datum) (s : State) (v : Value) (p : ℕ) → IsLessDefined v (s.names p) →
    (ms : List Meaning) (rs : List Run) → AllAgree R xs s ms rs →
    Agrees R (on_number v (λ w. graph.chosen w ms xs)) (linear.chosen_by p rs s)
chosen-by-agree R xs s v p less [] [] h = agrees-unread R v (λ w. Undefined []) (Undefined []) (λ w. tt)
chosen-by-agree R xs s v p less (m ∷ []) (r ∷ []) h = agrees-unread R v (λ w. m xs) (r s) (λ w. h.0)
chosen-by-agree R xs s v p less (m ∷ l ∷ ms) (r ∷ q ∷ rs) h =
    agrees-number R v (s.names p) less (λ w. graph.chosen w (m ∷ l ∷ ms) xs) (λ w. linear.chosen w (r ∷ q ∷ rs) s)
    (λ w. chosen-agree R xs s w (m ∷ l ∷ ms) (r ∷ q ∷ rs) h)
chosen-by-agree R xs s v p less (m ∷ []) (r ∷ q ∷ rs) h = absurd h.1
chosen-by-agree R xs s v p less (m ∷ l ∷ ms) (r ∷ []) h = absurd h.1
chosen-by-agree R xs s v p less [] (r ∷ rs) h = absurd h
chosen-by-agree R xs s v p less (m ∷ ms) [] h = absurd h
