-- The lines of moves before a code.
use Rattle.std.proofs.Common.{◌≡◌, ℕ, ◌+◌, List, [], ◌∷◌, ◌++◌, map, suc, refl, ap, sym, ◌∙◌, append_assoc, append-nil, add-zero, add-one, add_comm, arith}
use Rattle.std.specs.declared.option.Option.TheVariants.{Some}
use Rattle.g_graph.specs.declared.op.Kind.{Kind}
use Rattle.g_graph.specs.declared.op.Origin.{Origin}
use Rattle.g_graph.specs.Plain.{RegionTree, region, args_of, results_of}
use Rattle.g_graph.specs.Signatures.{result_kinds}
use Rattle.s_linear.specs.Linear.{Instr, Code, no_steps}
use Rattle.s_linear.specs.Lines.{Line, done, label, jump, branch_zero, code_lines, step_lines}
use Rattle.val_core.specs.Numbers.{numbers_from}
use Rattle.s_sequence.specs.declared.scope.Scope.{Scope}
use Rattle.s_sequence.specs.Sequence.{value_args, kept, moves, instrs_then, loop_results, predicate_name, no_names, nodes_named, nodes_names, name_of, nodes_code, branch_code, loop_step, region_names}
use Rattle.s_sequence.specs.Scope.{port_in, name_in, kind_in}
use Rattle.s_sequence.specs.Written.{region_port, region_code, entered_code}

pub instrs_lines : (first : ℕ) (is : List Instr) (k : Code) → code_lines first (instrs_then is k) ≡ map done is ++ code_lines first k
instrs_lines first [] k = refl
instrs_lines first (i ∷ is) k = ap (λ n. done i ∷ code_lines n (instrs_then is k)) (add-zero first) ∙ ap (λ ls. done i ∷ ls) (instrs_lines first is k)

module _ (base : ℕ) (scope : Scope) where
  names_are : (r : RegionTree) (results : List Origin) → ((o : Origin) → port_in scope o ≡ region_port base r o) →
      map (name_in scope) results ≡ map (λ o. (region_port base r o).name) results
  names_are r results ports = λ i. map (λ o. (ports o i).name) results

  pub kinds_written : (r : RegionTree) (results : List Origin) → results ≡ results_of r → ((o : Origin) → port_in scope o ≡ region_port base r o) →
      map (kind_in scope) results ≡ result_kinds r
  kinds_written (region args nodes rs) results e ports = ap (map (kind_in scope)) e ∙ (λ i. map (λ o. (ports o i).kind) rs)

  pub branch_written : (r : RegionTree) (results : List Origin) → results ≡ results_of r → ((o : Origin) → port_in scope o ≡ region_port base r o) →
      (entries : List ℕ) (outputs k0 k1 : ℕ) (l0 l1 l2 : List Line) →
      ((k : Code) → l1 ++ code_lines k1 k ≡ l0 ++ code_lines k0 (entered_code entries base r k)) →
      l2 ≡ l1 ++ map done (moves outputs (kept (map (kind_in scope) results) (map (name_in scope) results))) →
      l2 ≡ l0 ++ code_lines k0 (branch_code entries outputs base r)
  branch_written (region args nodes rs) results e ports entries outputs k0 k1 l0 l1 l2 into out =
      let r : RegionTree = region args nodes rs in
      let exits : List Instr = moves outputs (kept (result_kinds r) (map (λ o. (region_port base r o).name) rs)) in
      out ∙ ap (λ ks. l1 ++ map done (moves outputs (kept ks (map (name_in scope) results)))) (kinds_written r results e ports)
      ∙ ap (λ xs. l1 ++ map done (moves outputs (kept (result_kinds r) xs))) (ap (map (name_in scope)) e ∙ names_are r rs ports)
      ∙ ap (λ ls. l1 ++ ls) (sym (append-nil (map done exits)) ∙ sym (instrs_lines k1 exits no_steps)) ∙ into (instrs_then exits no_steps)

-- the moves into a region, and its nodes
pub entered_written : (r : RegionTree) (args : List Kind) → args ≡ args_of r → (entries : List ℕ) (base k0 : ℕ) (l0 l1 : List Line) →
    l1 ≡ l0 ++ map done (moves base (kept (map Some args) entries)) → (k : Code) →
    l1 ++ code_lines k0 (region_code base r k) ≡ l0 ++ code_lines k0 (entered_code entries base r k)
entered_written (region own_args nodes rs) args e entries base k0 l0 l1 f k =
    let moved : List Instr = moves base (kept (map Some own_args) entries) in
    ap (λ ls. ls ++ code_lines k0 (region_code base (region own_args nodes rs) k)) (f ∙ ap (λ zs. l0 ++ map done (moves base (kept (map Some zs) entries))) e)
    ∙ append_assoc l0 (map done moved) (code_lines k0 (region_code base (region own_args nodes rs) k)) ∙ ap (λ ls. l0 ++ ls)
    (sym (instrs_lines k0 moved (region_code base (region own_args nodes rs) k)))

-- a loop: moves in, its label, its nodes, and its end
pub loop_written : (r : RegionTree) (args : List Kind) (results : List Origin) (names : List ℕ) (scope : Scope) → args ≡ args_of r → results ≡ results_of r →
    names ≡ map (name_in scope) results →
    (entries : List ℕ) (base k0 : ℕ) (l0 l1 l2 l3 l4 : List Line) (k3 n3 : ℕ) →
    l1 ≡ l0 ++ map done (moves base (kept (map Some args) entries)) → l2 ≡ l1 ++ label k0 ∷ [] →
    ((k : Code) → l3 ++ code_lines k3 k ≡ l2 ++ code_lines (k0 + 2) (region_code base r k)) → n3 ≡ base + region_names r →
    ((o : Origin) → port_in scope o ≡ region_port base r o) →
    l4 ≡ ((l3 ++ map done (moves n3 (loop_results args names))) ++ branch_zero (predicate_name names) (k0 + 1)
    ∷ map done (moves base (numbers_from n3 (value_args args)))) ++ jump k0 ∷ label
    (k0 + 1) ∷ [] →
    l4 ≡ l0 ++ step_lines k0 (loop_step entries base r)
loop_written (region own_args nodes rs) args results names scope e f g entries base k0 l0 l1 l2 l3 l4 k3 n3 moved marked body next ports end =
    let r : RegionTree = region own_args nodes rs in
    let own : List ℕ = map (name_of own_args base (nodes_named nodes (base + value_args own_args) no_names)) rs in
    let outputs : ℕ = base + value_args own_args + nodes_names nodes in
    let same : names ≡ own = g ∙ ap (map (name_in scope)) f ∙ names_are base scope r rs ports in
    let place : n3 ≡ outputs = omega (arith, next) in
    let first : ℕ → List ℕ → List Kind → List Instr = λ n ns ks. moves n (loop_results ks ns) in
    let tail : ℕ → ℕ → List ℕ → List Kind → List Line = λ n s ns ks. branch_zero (predicate_name ns) s ∷ map done (moves base (numbers_from n (value_args ks))) in
    let whole : List Line → ℕ → ℕ → List ℕ → List Kind → List Line = λ ls n s ns ks. ((ls ++ map done (first n ns ks)) ++ tail n s ns ks) ++ jump k0 ∷ label s ∷ [] in
    let into : List Instr = moves base (kept (map Some own_args) entries) in
    let inside : Code = nodes_code own_args base no_names (base + value_args own_args) nodes (instrs_then (first outputs own own_args) no_steps) in
    let reached : l3 ++ map done (first outputs own own_args) ≡ ((l0 ++ map done into) ++ label k0 ∷ []) ++ code_lines (2 + k0) inside =
    ap (λ ls. l3 ++ ls) (sym (append-nil (map done (first outputs own own_args))) ∙ sym (instrs_lines k3 (first outputs own own_args) no_steps))
    ∙ body (instrs_then (first outputs own own_args) no_steps)
    ∙ ap (λ ls. ls ++ code_lines (k0 + 2) inside) (marked
    ∙ ap (λ ls. ls ++ label k0 ∷ []) (moved ∙ ap (λ zs. l0 ++ map done (moves base (kept (map Some zs) entries))) e))
    ∙ ap (λ m. ((l0 ++ map done into) ++ label k0 ∷ []) ++ code_lines m inside) (add_comm k0 2) in
    end ∙ ap (λ ks. whole l3 n3 (k0 + 1) names ks) e ∙ ap (λ ns. whole l3 n3 (k0 + 1) ns own_args) same ∙ ap (λ n. whole l3 n (k0 + 1) own own_args) place
    ∙ ap (λ s. whole l3 outputs s own own_args) (add-one k0)
    ∙ ap (λ ls. (ls ++ tail outputs (suc k0) own own_args) ++ jump k0 ∷ label (suc k0) ∷ []) reached
    ∙ regrouped l0 (map done into) (code_lines (2 + k0) inside) (tail outputs (suc k0) own own_args) (label k0) (jump k0 ∷ label (suc k0) ∷ [])
  where
    regrouped : (a b c d : List Line) (x : Line) (z : List Line) → (((a ++ b) ++ x ∷ []) ++ c) ++ d ++ z ≡ a ++ (((b ++ x ∷ c) ++ d) ++ z)
    regrouped a b c d x z = simp append_assoc
