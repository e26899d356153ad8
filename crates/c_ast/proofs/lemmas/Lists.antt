-- Repetitions grow at their end.
use Rattle.std.proofs.Common.{◌≡◌, ℕ, ◌+◌, zero, suc, List, [], ◌∷◌, ◌++◌, Some, refl, ◌∙◌, ap, fold, map, take, slice_get, arith}
use Rattle.std.proofs.lemmas.Grind.{fold-append}
use Rattle.c_ast.specs.Productions.{Repeated}
use Rattle.c_ast.specs.Productions as production
use Rattle.c_ast.specs.Tree.{Tree}
use Rattle.c_ast.specs.Nodes.{many, one_more, none_of, node}

pub many-none : {X : Type 0} (k : Repeated) (element : X → List Tree) → many k element [] ≡ none_of k
unfolding many
many-none k element = refl

pub many-snoc : {X : Type 0} (k : Repeated) (element : X → List Tree) (xs : List X) (x : X) →
    many k element (xs ++ x ∷ []) ≡ one_more k element (many k element xs) x
unfolding many
many-snoc k element xs x = fold-append _ _ xs (x ∷ [])

-- elements that are made from others
many_from : {X Y : Type 0} (k : Repeated) (element : Y → List Tree) (g : X → Y) (whole : X → List Tree) →
    ((x : X) → element (g x) ≡ whole x) → (xs : List X) (before : Tree) →
    fold (one_more k element) before (map g xs) ≡ fold (one_more k whole) before xs
many_from k element g whole same [] before = refl
many_from k element g whole same (x ∷ xs) before =
    many_from k element g whole same xs (one_more k element before (g x))
    ∙ ap (λ (children : List Tree). fold (one_more k whole) (node (production.More k) (before ∷ children)) xs) (same x)

pub many-map : {X Y : Type 0} (k : Repeated) (element : Y → List Tree) (g : X → Y) (whole : X → List Tree) →
    ((x : X) → element (g x) ≡ whole x) → (xs : List X) → many k element (map g xs) ≡ many k whole xs
unfolding many
many-map k element g whole same xs = many_from k element g whole same xs (none_of k)

-- the first i + 1 elements are the first i and one more
pub many-take : {X : Type 0} (k : Repeated) (element : X → List Tree) (xs : List X) (i : ℕ) (x : X) → slice_get xs i ≡ Some x →
    many k element (take (i + 1) xs) ≡ one_more k element (many k element (take i xs)) x
many-take k element xs i x h = ap (many k element) (take_next xs i x h) ∙ many-snoc k element (take i xs) x
  where
    take_next : {X : Type 0} (xs : List X) (i : ℕ) (x : X) → slice_get xs i ≡ Some x → take (i + 1) xs ≡ take i xs ++ x ∷ []
    take_next [] i x h = cc h
    take_next (y ∷ ys) zero x h = cc h
    take_next (y ∷ ys) (suc i) x h = let e : suc i + 1 ≡ suc (i + 1) = omega arith in rw e (ap (λ zs. y ∷ zs) (take_next ys i x h))

pub ruleset grows = (many-none, many-snoc)
