-- The labels that a group of a `switch` begins with, their words in a list and in a set, and how the logic stores them.
use Rattle.std.specs.Prelude.{◌≡◌, ℕ, ◌==◌, Bool, List, refl}
use Rattle.std.specs.List.{list_any}
use Rattle.std.specs.Coded.{Coded, code_by, coded×, coded_ℕ, coded_bool, coded_list}
use Rattle.c_ast.specs.Tree.{Tree}
use Rattle.c_check_def.specs.State.{Elaborated, ◌>>=◌}
use Rattle.c_check_def.specs.Statements.{Labels, next_group, label, more_labels}

-- the labels of the next group
abbrev pub group_labels : Labels → (first more : Tree) → Elaborated Labels
group_labels x first more = do
  y ← label (next_group x) first
  more_labels y more

-- the same words are among both, a list and a set
abbrev pub HaveSame : List ℕ → List ℕ → Type 0
HaveSame ks ws = (w : ℕ) → list_any (λ k. w == k) ks ≡ list_any (λ v. v == w) ws

-- how the logic stores labels
abbrev pub coded_labels : Coded Labels
coded_labels =
    code_by (List ℕ × (Bool × (List ℕ × Bool))) (coded× (coded_list coded_ℕ) (coded× coded_bool (coded× (coded_list coded_ℕ) coded_bool)))
    (λ x. (x.words, (x.has_default, (x.cases, x.is_default))))
    (λ p. record { words = p.0; has_default = p.1.0; cases = p.1.1.0; is_default = p.1.1.1 }) (λ _. refl)
