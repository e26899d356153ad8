-- Trees of one list are one list.
use Rattle.std.proofs.Common.{◌≡◌, suc, List, [], ◌∷◌, length, refl, ap}
use Rattle.g_graph.specs.Plain.{RegionTree, NodeTree, nodes_of, regions_of, count_of}

pub nodes_of_same : (xs ys : List NodeTree) → nodes_of xs ≡ nodes_of ys → xs ≡ ys
nodes_of_same [] [] e = refl
nodes_of_same [] (y ∷ ys) e = absurd (cc)
nodes_of_same (x ∷ xs) [] e = absurd (cc)
nodes_of_same (x ∷ xs) (y ∷ ys) e =
    let first : x ≡ y = cc in
    let rest : nodes_of xs ≡ nodes_of ys = cc in
    λ i. first i ∷ nodes_of_same xs ys rest i

pub regions_of_same : (xs ys : List RegionTree) → regions_of xs ≡ regions_of ys → xs ≡ ys
regions_of_same [] [] e = refl
regions_of_same [] (y ∷ ys) e = absurd (cc)
regions_of_same (x ∷ xs) [] e = absurd (cc)
regions_of_same (x ∷ xs) (y ∷ ys) e =
    let first : x ≡ y = cc in
    let rest : regions_of xs ≡ regions_of ys = cc in
    λ i. first i ∷ regions_of_same xs ys rest i

pub count_is : (xs : List RegionTree) → count_of (regions_of xs) ≡ length xs
count_is [] = refl
count_is (x ∷ xs) = ap suc (count_is xs)
