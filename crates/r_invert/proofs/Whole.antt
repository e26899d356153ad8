-- The inverted loop fits, and has the numbers from the next one on.
use Rattle.std.proofs.Common.{◌≡◌, ◌+◌, ℕ, suc, List, ◌∷◌, map, length, Some, sym, ap, subst, ◌∙◌, arith}
use Rattle.std.proofs.lemmas.List.{length-map}
use Rattle.g_graph.specs.declared.op.Kind.{Kind}
use Rattle.g_graph.specs.declared.op.Kind.TheVariants.{Value}
use Rattle.g_graph.specs.declared.op.Op.TheVariants.{Gamma, Theta}
use Rattle.g_graph.specs.Plain.{RegionTree, region, no_regions, region_then, args_of, results_of}
use Rattle.g_graph.specs.Signatures.{result_kinds}
use Rattle.g_graph.specs.Scope.{known}
use Rattle.r_edit.specs.Numbering.{node_count, region_numbered}
use Rattle.r_invert.specs.Compose.{alone}
use Rattle.r_invert.specs.Rule.{Parts, turn, remaining, choice, inverted, new_nodes}
use Rattle.r_invert.proofs.Pieces.{Part, Piece, numbered-piece, sequence-piece, gamma-piece, theta-piece}
use Rattle.r_invert.proofs.Sequence.{HaveStates}

-- the parts of a loop with these variables, whose last node has these entries
pub record PartsFit (objects : ℕ) (args es : List Kind) (p : Parts) : Type 0 where
  pub test : Part objects args (Value ∷ es) p.test
  pub stop : Part objects es args p.stop
  pub go : Part objects es args p.go
  pub variables : HaveStates (map Some args)
  pub entries : HaveStates (map Some es)

pub results-count : (r : RegionTree) (outs : List Kind) → result_kinds r ≡ map Some outs → length (results_of r) ≡ length outs
results-count (region args nodes results) outs e = sym (length-map results (known args nodes)) ∙ ap length e ∙ length-map outs Some

module _ (objects : ℕ) (args es : List Kind) (p : Parts) (h : PartsFit objects args es p) where
  more : HaveStates (map Some (Value ∷ es))
  more = record { memory = h.entries.memory; io = h.entries.io }

  pub turn-piece : (first : ℕ) → Piece objects first (node_count p.go + node_count p.test) es (Value ∷ es) (turn first p)
  turn-piece first =
      sequence-piece objects first (node_count p.go) (node_count p.test) es args (Value ∷ es) (region_numbered first p.go) (region_numbered (first + node_count p.go) p.test)
      (numbered-piece objects first es args p.go h.go) (numbered-piece objects (first + node_count p.go) args (Value ∷ es) p.test h.test) more

  pub loop-piece : (first : ℕ) →
      Piece objects first (suc (node_count p.go + node_count p.test)) es es (alone first Theta (args_of p.go) (length (args_of p.go)) (region_then (turn (suc first) p) no_regions))
  loop-piece first =
      subst (λ ks. Piece objects first (suc (node_count p.go + node_count p.test)) es es (alone first Theta ks (length ks) (region_then (turn (suc first) p) no_regions))) (sym h.go.takes)
      (theta-piece objects first (node_count p.go + node_count p.test) es (turn (suc first) p) (turn-piece (suc first)) h.entries)

  pub stop-piece : (first : ℕ) → Piece objects first (node_count p.stop) es args (region_numbered first p.stop)
  stop-piece first = numbered-piece objects first es args p.stop h.stop

  abbrev loop_count : ℕ
  loop_count = node_count p.go + node_count p.test

  pub last-piece : (first : ℕ) → Piece objects (first + suc loop_count) (node_count p.stop) es args (region_numbered (suc first + loop_count) p.stop)
  last-piece first =
      let here : suc first + loop_count ≡ first + suc loop_count = omega arith in
      subst (λ m. Piece objects m (node_count p.stop) es args (region_numbered (suc first + loop_count) p.stop)) here (stop-piece (suc first + loop_count))

  pub remaining-piece : (first : ℕ) → Piece objects first (suc loop_count + node_count p.stop) es args (remaining first p)
  remaining-piece first =
      sequence-piece objects first (suc loop_count) (node_count p.stop) es es args
      (alone first Theta (args_of p.go) (length (args_of p.go)) (region_then (turn (suc first) p) no_regions)) (region_numbered (suc first + loop_count) p.stop)
      (loop-piece first) (last-piece first) h.variables

  pub choice-piece : (first : ℕ) → Piece objects first (suc (node_count p.stop + (suc loop_count + node_count p.stop))) (Value ∷ es) args (choice first p)
  choice-piece first =
      let regions = region_then (region_numbered (suc first) p.stop) (region_then (remaining (suc first + node_count p.stop) p) no_regions) in
      subst (λ n. Piece objects first (suc (node_count p.stop + (suc loop_count + node_count p.stop))) (Value ∷ es) args (alone first Gamma (Value ∷ args_of p.stop) n regions))
      (sym (results-count p.stop args h.stop.gives))
      (subst (λ ks. Piece objects first (suc (node_count p.stop + (suc loop_count + node_count p.stop))) (Value ∷ es) args (alone first Gamma (Value ∷ ks) (length args) regions)) (sym h.stop.takes)
      (gamma-piece objects first (node_count p.stop) (suc loop_count + node_count p.stop) es args (region_numbered (suc first) p.stop) (remaining (suc first + node_count p.stop) p)
      (stop-piece (suc first)) (remaining-piece (suc first + node_count p.stop)) h.variables))

  pub inverted-piece : (next : ℕ) → Piece objects next (new_nodes p) args args (inverted next p)
  inverted-piece next =
      let count : node_count p.test + suc (node_count p.stop + (suc loop_count + node_count p.stop)) ≡ new_nodes p = omega arith in
      subst (λ n. Piece objects next n args args (inverted next p)) count
      (sequence-piece objects next (node_count p.test) (suc (node_count p.stop + (suc loop_count + node_count p.stop))) args (Value ∷ es) args
      (region_numbered next p.test) (choice (next + node_count p.test) p)
      (numbered-piece objects next args (Value ∷ es) p.test h.test) (choice-piece (next + node_count p.test)) h.variables)
