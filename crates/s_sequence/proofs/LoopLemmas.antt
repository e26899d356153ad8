-- The lines of the end of a loop.
use Rattle.std.proofs.Common.{◌≡◌, ℕ, ◌+◌, ◌-◌, List, [], ◌∷◌, ◌++◌, map, ap, ◌∙◌, sym, append_assoc}
use Rattle.g_graph.specs.declared.op.Kind.{Kind}
use Rattle.s_linear.specs.Lines.{Line, done, branch_zero, jump, label}
use Rattle.val_core.specs.Numbers.{numbers_from}
use Rattle.s_sequence.specs.Sequence.{value_args, moves, loop_results, predicate_name}

grouped : (old a c : List Line) (b j l : Line) → (((old ++ (a ++ b ∷ [])) ++ c) ++ j ∷ []) ++ l ∷ [] ≡ ((old ++ a) ++ b ∷ c) ++ j ∷ l ∷ []
grouped old a c b j l =
    append_assoc ((old ++ (a ++ b ∷ [])) ++ c) (j ∷ []) (l ∷ [])
    ∙ ap (λ zs. (zs ++ c) ++ j ∷ l ∷ []) (sym (append_assoc old a (b ∷ [])))
    ∙ ap (λ zs. zs ++ j ∷ l ∷ []) (append_assoc (old ++ a) (b ∷ []) c)

pub turn_lines : (args : List Kind) (results : List ℕ) (base label_ at from to : ℕ) (old one two three four : List Line) → from ≡ at → to - from ≡ value_args args →
    one ≡ old ++ (map done (moves from (loop_results args results)) ++ branch_zero (predicate_name results) (label_ + 1) ∷ []) →
    two ≡ one ++ map done (moves base (numbers_from from (to - from))) → three ≡ two ++ jump label_ ∷ [] → four ≡ three ++ label (label_ + 1) ∷ [] →
    four ≡ ((old ++ map done (moves at (loop_results args results))) ++ branch_zero (predicate_name results) (label_ + 1)
    ∷ map done (moves base (numbers_from at (value_args args))))
    ++ jump label_ ∷ label (label_ + 1) ∷ []
turn_lines args results base first at from to old one two three four e n f g h k =
    k ∙ ap (λ zs. zs ++ label (first + 1) ∷ []) (h ∙ ap (λ zs. zs ++ jump first ∷ []) (g ∙ ap (λ zs. zs ++ map done (moves base (numbers_from from (to - from)))) f))
    ∙ grouped old (map done (moves from (loop_results args results))) (map done (moves base (numbers_from from (to - from))))
    (branch_zero (predicate_name results) (first + 1)) (jump first)
    (label (first + 1))
    ∙ ap (λ m. ((old ++ map done (moves from (loop_results args results))) ++ branch_zero (predicate_name results) (first + 1)
    ∷ map done (moves base (numbers_from from m))) ++ jump first ∷ label
    (first + 1) ∷ []) n
    ∙ ap (λ m. ((old ++ map done (moves m (loop_results args results))) ++ branch_zero (predicate_name results) (first + 1)
    ∷ map done (moves base (numbers_from m (value_args args)))) ++ jump
    first ∷ label (first + 1) ∷ []) e
