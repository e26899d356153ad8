-- What the outputs of a node are in one of its regions.
use Rattle.std.specs.Prelude.{◌&&◌, unwrap_or}
use Rattle.std.proofs.Common.{◌≡◌, ℕ, true, cond, List, [], ◌∷◌, map, Option, None, Some, slice_get, refl, ap, ◌∙◌}
use Rattle.std.proofs.lemmas.Bool.{and_parts}
use Rattle.g_graph.specs.declared.op.Kind.{Kind}
use Rattle.g_graph.specs.declared.op.Origin.{Origin}
use Rattle.g_graph.specs.declared.op.Origin.TheVariants.{Arg, Out}
use Rattle.g_graph.specs.Plain.{NodeTrees}
use Rattle.g_graph.specs.Scope.{known}
use Rattle.g_graph.specs.Signatures.{joined}
use Rattle.g_graph.specs.Splice.{outputs_to_results}
use Rattle.g_graph.specs.WellFormed.{all_of, is_last}
use Rattle.g_graph.proofs.lemmas.Unique.{same_number}
use Rattle.g_mean.proofs.lemmas.Kinds.{joined-some}
use Rattle.r_invert.specs.Rule.{is_output_of}
use Rattle.r_invert.proofs.Sequence.{entry-at}

-- an output of a node of these kinds
abbrev pub output_kind : List Kind → Origin → Option Kind
output_kind ks (Arg j) = None
output_kind ks (Out n j) = joined (slice_get (map Some ks) j)

pub record Chosen (args : List Kind) (ns : NodeTrees) (rs : List Origin) (g : ℕ) (o : Origin) (k : Kind) : Type 0 where
  pub port : ℕ
  pub is : o ≡ Out g port
  pub origin : Origin
  pub there : slice_get rs port ≡ Some origin
  pub kind : known args ns origin ≡ Some k
  pub last : is_last args ns origin ≡ true
  pub becomes : outputs_to_results g rs o ≡ origin

pub chosen-at : (args : List Kind) (ns : NodeTrees) (rs : List Origin) (ks : List Kind) → map (known args ns) rs ≡ map Some ks → all_of (is_last args ns) rs ≡ true → (g : ℕ) (o : Origin) (k : Kind) →
    is_output_of g o ≡ true → output_kind ks o ≡ Some k → Chosen args ns rs g o k
chosen-at args ns rs ks kinds lasts g (Arg j) k t e = absurd cc
chosen-at args ns rs ks kinds lasts g (Out n j) k t e =
    let at = entry-at args ns rs ks kinds lasts j k (joined-some ks j k e) in
    record {
      port = j;
      is = ap (λ m. Out m j) (same_number n g t);
      origin = at.origin;
      there = at.there;
      kind = at.kind;
      last = at.last;
      becomes = ap (λ s. cond s (unwrap_or (slice_get rs j) (Out n j)) (Out n j)) t ∙ ap (λ s. unwrap_or s (Out n j)) at.there;
    }

pub all-chosen : (args : List Kind) (ns : NodeTrees) (rs : List Origin) (ks : List Kind) → map (known args ns) rs ≡ map Some ks → all_of (is_last args ns) rs ≡ true → (g : ℕ) (os : List Origin)
    (js : List Kind) → all_of (is_output_of g) os ≡ true → map (output_kind ks) os ≡ map Some js →
    (map (known args ns) (map (outputs_to_results g rs) os) ≡ map Some js) × (all_of (is_last args ns) (map (outputs_to_results g rs) os) ≡ true)
all-chosen args ns rs ks kinds lasts g [] [] t e = (refl, refl)
all-chosen args ns rs ks kinds lasts g [] (j ∷ js) t e = absurd cc
all-chosen args ns rs ks kinds lasts g (o ∷ os) [] t e = absurd cc
all-chosen args ns rs ks kinds lasts g (o ∷ os) (j ∷ js) t e =
    let tests = and_parts (is_output_of g o) (all_of (is_output_of g) os) t in
    let first : output_kind ks o ≡ Some j = cc in
    let others : map (output_kind ks) os ≡ map Some js = cc in
    let one = chosen-at args ns rs ks kinds lasts g o j tests.0 first in
    let rest = all-chosen args ns rs ks kinds lasts g os js tests.1 others in (
      λ i. (ap (known args ns) one.becomes ∙ one.kind) i ∷ rest.0 i,
      λ i. (ap (is_last args ns) one.becomes ∙ one.last) i && rest.1 i,
    )
