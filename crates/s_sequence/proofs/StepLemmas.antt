-- The step of a node by its op.
use Rattle.std.proofs.Common.{◌≡◌, ℕ, ◌+◌, List, [], ◌∷◌, ◌++◌, map, refl, ap, sym, subst, ◌∙◌, arith}
use Rattle.std.specs.Prelude.{slice_get}
use Rattle.std.specs.declared.option.Option.TheVariants.{Some}
use Rattle.g_graph.specs.declared.op.Kind.{Kind}
use Rattle.g_graph.specs.declared.op.Origin.{Origin}
use Rattle.g_graph.specs.declared.op.Op.{Op}
use Rattle.g_graph.specs.declared.op.Op.TheVariants.{Gamma, Theta}
use Rattle.g_graph.specs.Plain.{RegionTree, NodeTree, node, RegionTrees, no_regions, region_then, regions_of}
use Rattle.g_graph.specs.Signatures.{op_outputs, outputs_of}
use Rattle.s_linear.specs.Linear.{Step, plain, choice, undef}
use Rattle.s_linear.specs.Lines.{done, step_lines}
use Rattle.s_sequence.specs.declared.scope.Scope.{Scope}
use Rattle.s_sequence.specs.Sequence.{values_in, value_args, Names, name_of, outputs_at, bases, node_names, op_instr, node_step, branch_codes, loop_step}
use Rattle.s_sequence.specs.Scope.{name_in, names_in}
use Rattle.s_sequence.specs.Ports.{ports_from}
use Rattle.s_sequence.specs.Writer.{PlainWriter}
use Rattle.s_sequence.specs.Shape.{HasShape, NodeShaped}
use Rattle.s_sequence.specs.Written.{StepWritten, own_labels, node_labels, node_ports}
use Rattle.s_sequence.proofs.NodeLemmas.{names_same}

-- a choice by the first of these names
abbrev choice_from : (next : ℕ) → RegionTrees → List ℕ → Step
choice_from next rs [] = plain (undef 0)
choice_from next rs (p ∷ entries) = choice p (branch_codes entries (outputs_at next rs) (bases next (values_in (outputs_of Gamma rs)) rs) rs)

module _ (scope : Scope) (old new : PlainWriter) where
  same : (inputs : List Origin) (args : List Kind) (base : ℕ) → scope.args ≡ ports_from base (map Some args) →
      map (name_in scope) inputs ≡ map (name_of args base (names_in scope)) inputs
  same inputs args base h = λ i. map (λ o. names_same scope args base h o i) inputs

  pub gamma_written : (id : ℕ) (inputs : List Origin) (rs : RegionTrees) (names : List ℕ) (predicate : ℕ) (entries : List ℕ) → names ≡ map (name_in scope) inputs →
      names ≡ predicate ∷ entries →
      new.lines ≡ old.lines ++ step_lines old.label (choice predicate
      (branch_codes entries (outputs_at old.next rs) (bases old.next (values_in (outputs_of Gamma rs)) rs) rs)) →
      StepWritten old new scope (node id Gamma inputs rs)
  gamma_written id [] rs names predicate entries e f g args base h = let none : [] ≡ predicate ∷ entries = sym e ∙ f in absurd (cc)
  gamma_written id (p ∷ es) rs names predicate entries e f g args base h =
      g ∙ ap (λ zs. old.lines ++ step_lines old.label (choice_from old.next rs zs)) (sym f ∙ e ∙ same (p ∷ es) args base h)

  pub theta_written : (id : ℕ) (inputs : List Origin) (r : RegionTree) (names : List ℕ) → names ≡ map (name_in scope) inputs →
      new.lines ≡ old.lines ++ step_lines old.label (loop_step names old.next r) →
      StepWritten old new scope (node id Theta inputs (region_then r no_regions))
  theta_written id inputs r names e g args base h = g ∙ ap (λ zs. old.lines ++ step_lines old.label (loop_step zs old.next r)) (e ∙ same inputs args base h)

  pub plain_written : (id : ℕ) (op : Op) (inputs : List Origin) → (op ≡ Gamma → ⊥) →
      new.lines ≡ old.lines ++ done (op_instr op old.next (map (name_in scope) inputs)) ∷ [] →
      StepWritten old new scope (node id op inputs no_regions)
  plain_written id op inputs other g args base h =
      g ∙ ap (λ zs. old.lines ++ done (op_instr op old.next zs) ∷ []) (same inputs args base h) ∙ ap (λ s. old.lines ++ step_lines old.label s)
      (sym (plain_step op id inputs args base (names_in scope) old.next other))
    where
      plain_step : (op : Op) (id : ℕ) (inputs : List Origin) (args : List Kind) (base : ℕ) (names : Names) (next : ℕ) → (op ≡ Gamma → ⊥) →
          node_step args base names next (node id op inputs no_regions) ≡ plain (op_instr op next (map (name_of args base names) inputs))
      plain_step Gamma id inputs args base names next other = absurd (other refl)
      plain_step op id inputs args base names next other = refl

pub only_region : (inputs : List Origin) (xs : List RegionTree) (r : RegionTree) → HasShape Theta inputs (regions_of xs) → Some r ≡ slice_get xs 0 → xs ≡ r ∷ []
only_region inputs [] r h e = absurd h
only_region inputs (a ∷ []) r h e = let same : r ≡ a = cc in ap (λ x. x ∷ []) (sym same)
only_region inputs (a ∷ b ∷ xs) r h e = absurd h

no_region : (op : Op) (inputs : List Origin) (rs : RegionTrees) → (op ≡ Gamma → ⊥) → (op ≡ Theta → ⊥) → HasShape op inputs rs → no_regions ≡ rs
no_region Gamma inputs rs g t h = absurd (g refl)
no_region Theta inputs rs g t h = absurd (t refl)
no_region op inputs no_regions g t h = refl
no_region op inputs (region_then r rs) g t h = absurd h

pub plain_node : (x : NodeTree) (id : ℕ) (op : Op) (inputs : List Origin) (rs : RegionTrees) → node id op inputs rs ≡ x → (op ≡ Gamma → ⊥) →
    (op ≡ Theta → ⊥) → NodeShaped x →
    node id op inputs no_regions ≡ x
plain_node x id op inputs rs e g t h = let own : NodeShaped (node id op inputs rs) = subst NodeShaped (sym e) h in
    ap (node id op inputs) (no_region op inputs rs g t own.0) ∙ e

plain_outputs : (op : Op) → outputs_of op no_regions ≡ map Some (op_outputs op)
plain_outputs op = by_op op
  where
    by_op : (o : Op) → outputs_of o no_regions ≡ map Some (op_outputs o)
    by_op Gamma = refl
    by_op o = refl

plain_label : (op : Op) → (op ≡ Theta → ⊥) → own_labels op no_regions ≡ 0
plain_label Theta t = absurd (t refl)
plain_label op t = refl

pub plain_names : (id : ℕ) (op : Op) (inputs : List Origin) → node_names (node id op inputs no_regions) ≡ value_args (op_outputs op)
plain_names id op inputs = omega (arith, ap values_in (plain_outputs op))

pub plain_labels : (id : ℕ) (op : Op) (inputs : List Origin) → (op ≡ Theta → ⊥) → node_labels (node id op inputs no_regions) ≡ 0
plain_labels id op inputs t = omega (arith, plain_label op t)

pub plain_ports : (id : ℕ) (op : Op) (inputs : List Origin) (next : ℕ) → node_ports next (node id op inputs no_regions) ≡ ports_from next (map Some (op_outputs op))
plain_ports id op inputs next = ap (λ ks. ports_from (next + 0) ks) (plain_outputs op) ∙ ap (λ n. ports_from n (map Some (op_outputs op))) (same_next next)
  where
    same_next : (n : ℕ) → n + 0 ≡ n
    same_next n = omega arith
