-- What a region of the Gamma reads: its arguments that stay, and new ones after them.
use Rattle.std.proofs.Common.{◌≡◌, ◌≤◌, ◌<◌, ℕ, zero, suc, Bool, true, false, ◌&&◌, List, [], ◌∷◌, ◌++◌, map, length, refl, sym, ap, ◌∙◌, inl, inr, append_assoc, arith}
use Rattle.std.proofs.lemmas.Bool.{or_parts}
use Rattle.std.proofs.lemmas.List.{length-append}
use Rattle.g_graph.specs.declared.op.Origin.{Origin}
use Rattle.g_graph.specs.declared.op.Origin.TheVariants.{Arg, Out}
use Rattle.g_graph.specs.Plain.{node, NodeTrees, no_nodes, node_then}
use Rattle.g_graph.specs.WellFormed.{some_of}
use Rattle.g_mean.specs.Data.{Datum, at_port}
use Rattle.g_mean.specs.Meaning.{Outputs, read}
use Rattle.g_mean.specs.Copies.{IsRead, AreRead, NodesRead, is_argument}
use Rattle.r_edit.specs.Uses.{nodes_read, is_output_of}
use Rattle.r_edit.specs.Places.{stays_at, kept, place_after}
use Rattle.r_edit.specs.Entries.{argument_after, is_gone_argument}
use Rattle.r_edit.proofs.lemmas.Exits.{kept_port}
use Rattle.r_edit.proofs.lemmas.Kept.{is_not}
use Rattle.r_pull.specs.Rule.{other_entries, args_from}

-- ---- data with more after them

pub middle-port : (front : List Datum) (v : Datum) (vs : List Datum) → at_port (front ++ v ∷ vs) (length front) ≡ v
middle-port [] v vs = refl
middle-port (u ∷ front) v vs = middle-port front v vs

pub front-port : (us vs : List Datum) (k : ℕ) → k < length us → at_port (us ++ vs) k ≡ at_port us k
front-port [] vs k b = absurd (omega (arith, b))
front-port (u ∷ us) vs zero b = refl
front-port (u ∷ us) vs (suc k) b = front-port us vs k (omega (arith, b))

-- the arguments after the first ones are these data
pub reads-from : (stays : List Bool) (o : Outputs) (front vs : List Datum) (inputs : List Origin) → length inputs ≡ length vs → ((k : ℕ) → length front ≤ k → stays_at stays k ≡ true) →
    map (read (kept stays (front ++ vs)) o) (map (argument_after stays) (args_from (length front) inputs)) ≡ vs
reads-from stays o front [] [] e late = refl
reads-from stays o front (v ∷ vs) [] e late = absurd (omega (arith, e))
reads-from stays o front [] (a ∷ inputs) e late = absurd (omega (arith, e))
reads-from stays o front (v ∷ vs) (a ∷ inputs) e late =
    let whole : (front ++ v ∷ []) ++ vs ≡ front ++ v ∷ vs = append_assoc front (v ∷ []) vs in
    let next : length (front ++ v ∷ []) ≡ suc (length front) = omega (arith, length-append front (v ∷ [])) in
    let first : at_port (kept stays (front ++ v ∷ vs)) (place_after stays (length front)) ≡ v =
    kept_port stays (front ++ v ∷ vs) (length front) (late (length front) (omega arith)) ∙ middle-port front v vs in
    let rest = reads-from stays o (front ++ v ∷ []) vs inputs (omega (arith, e)) (λ k b. late k (omega (arith, b, next))) in
    let moved : map (read (kept stays ((front ++ v ∷ []) ++ vs)) o) (map (argument_after stays) (args_from (length (front ++ v ∷ [])) inputs))
    ≡ map (read (kept stays (front ++ v ∷ vs)) o) (map (argument_after stays) (args_from (suc (length front)) inputs)) =
    λ i. map (read (kept stays (whole i)) o) (map (argument_after stays) (args_from (next i) inputs)) in
    λ i. first i ∷ (sym moved ∙ rest) i

-- ---- which entries stay

pub late-stays : (n : ℕ) (entries : List Origin) (k : ℕ) → length entries ≤ k → stays_at (other_entries n entries) k ≡ true
late-stays n [] k b = refl
late-stays n (a ∷ entries) zero b = absurd (omega (arith, b))
late-stays n (a ∷ entries) (suc k) b = late-stays n entries k (omega (arith, b))

-- an entry that uses the node uses its first output
abbrev pub FirstOutputs : (n : ℕ) → List Origin → Type 0
FirstOutputs n [] = Unit {0}
FirstOutputs n (a ∷ entries) = (is_output_of n a ≡ true → a ≡ Out n 0) × FirstOutputs n entries

-- and so it is what that output is
pub gone-port : (n : ℕ) (f : Origin → Datum) (v : Datum) → f (Out n 0) ≡ v → (entries : List Origin) → FirstOutputs n entries → (k : ℕ) → k < length entries →
    stays_at (other_entries n entries) k ≡ false → at_port (map f entries) k ≡ v
gone-port n f v e [] h k b t = absurd (omega (arith, b))
gone-port n f v e (a ∷ entries) h zero b t = ap f (h.0 (is_not (is_output_of n a) t)) ∙ e
gone-port n f v e (a ∷ entries) h (suc k) b t = gone-port n f v e entries h.1 k (omega (arith, b)) t

-- ---- a region that reads no argument that goes

module _ (count : ℕ) (stays : List Bool) where
  -- arguments that are there and stay
  abbrev pub staying : Origin → Bool
  staying (Arg k) = is_argument count (Arg k) && stays_at stays k
  staying (Out n p) = false

  one-stays : (known : List ℕ) (a : Origin) → IsRead (is_argument count) known a → is_gone_argument stays a ≡ false → IsRead staying known a
  one-stays known (Arg k) (inl t) u = inl (λ i. t i && is_not (stays_at stays k) u i)
  one-stays known (Arg k) (inr h) u = absurd h
  one-stays known (Out n p) (inl t) u = absurd cc
  one-stays known (Out n p) (inr h) u = inr h

  pub all-stay : (known : List ℕ) (os : List Origin) → AreRead (is_argument count) known os → some_of (is_gone_argument stays) os ≡ false → AreRead staying known os
  all-stay known [] r u = tt
  all-stay known (a ∷ os) r u =
      let both = or_parts (is_gone_argument stays a) (some_of (is_gone_argument stays) os) u in
      (one-stays known a r.0 both.0, all-stay known os r.1 both.1)

  pub nodes-stay : (known : List ℕ) (ns : NodeTrees) → NodesRead (is_argument count) known ns → nodes_read (is_gone_argument stays) ns ≡ false → NodesRead staying known ns
  nodes-stay known no_nodes r u = tt
  nodes-stay known (node_then (node id op inputs rs) ns) r u =
      let both = or_parts (some_of (is_gone_argument stays) inputs) (nodes_read (is_gone_argument stays) ns) u in
      ((all-stay known inputs r.0.0 both.0, r.0.1), nodes-stay (id ∷ known) ns r.1 both.1)
