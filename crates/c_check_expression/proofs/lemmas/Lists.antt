-- Repetitions of a tree: their first elements and one more, and how many there are.
use Rattle.std.proofs.Common.{◌≡◌, ℕ, ◌+◌, List, [], ◌∷◌, length, take, get_or, Some, ◌<◌, ap, sym, ◌∙◌, fold, arith}
use Rattle.std.proofs.lemmas.Option.{slice_get-get_or}
use Rattle.c_ast.specs.Productions.{Repeated}
use Rattle.c_ast.specs.Tree.{Tree}
use Rattle.c_ast.specs.Nodes.{many, one_more, none_of}
use Rattle.c_ast.proofs.lemmas.Lists.{many-take, many-none}
use Rattle.c_check_def.specs.Leaves.{count_of}

count_from : {X : Type 0} (k : Repeated) (element : X → List Tree) (xs : List X) (before : Tree) → count_of (fold (one_more k element) before xs) ≡ count_of before + length xs
count_from k element [] before = omega arith
count_from k element (x ∷ xs) before = count_from k element xs (one_more k element before x) ∙ omega arith

pub count_many : {X : Type 0} (k : Repeated) (element : X → List Tree) (xs : List X) → count_of (many k element xs) ≡ length xs
unfolding many
count_many k element xs = count_from k element xs (none_of k) ∙ omega arith

pub many_next : {X : Type 0} (k : Repeated) (element : X → List Tree) (xs : List X) (i : ℕ) (x : X) → i < length xs → x ≡ get_or xs i x →
    many k element (take (i + 1) xs) ≡ one_more k element (many k element (take i xs)) x
many_next k element xs i x below is = many-take k element xs i x (slice_get-get_or xs i x below ∙ ap Some (sym is))

pub ruleset grows = (many-none)

pub ruleset counts = (count_many)
