-- Parts of a construction that take as many numbers as they make nodes.
use Rattle.std.proofs.Common.{◌≡◌, ℕ, suc, ◌+◌, List, [], ◌∷◌, ◌++◌, length, length-append, ap, ◌∙◌, arith}
use Rattle.g_graph.specs.declared.op.Origin.{Origin}
use Rattle.g_graph.specs.declared.op.Op.{Op}
use Rattle.g_graph.specs.Plain.{NodeTree, nodes_of, regions_of}
use Rattle.g_graph.specs.Ids.{nodes_ids, regions_ids}
use Rattle.g_graph.proofs.lemmas.Splices.{nodes_of_append, nodes_ids-joined}
use Rattle.g_build_def.specs.Writer.{Carried, Point, Built, bind, one_node, Extra, inside, regions_made, choices, choice, choice_one_first, repeat}

-- the next number after these nodes has risen by how many they are
abbrev pub Counts : {A : Type 0} → (s : Point) → Built A → Type 0
Counts s b = b.after.next ≡ s.next + length (nodes_ids (nodes_of b.nodes))

abbrev pub Keeps : {A : Type 0} → (Point → Built A) → Type 0
Keeps f = (s : Point) → Counts s (f s)

-- no node
pub counted_here : (s : Point) → s.next ≡ s.next + 0
counted_here s = omega arith

count_append : (xs ys : List NodeTree) → length (nodes_ids (nodes_of (xs ++ ys))) ≡ length (nodes_ids (nodes_of xs)) + length (nodes_ids (nodes_of ys))
count_append xs ys =
    ap (λ ns. length (nodes_ids ns)) (nodes_of_append xs ys) ∙ ap length (nodes_ids-joined (nodes_of xs) (nodes_of ys))
    ∙ length-append (nodes_ids (nodes_of xs)) (nodes_ids (nodes_of ys))

pub bind_counted : {A B : Type 0} → (s : Point) (a : Built A) (f : A → Point → Built B) → Counts s a → ((v : A) → Keeps (f v)) → Counts s (bind a f)
bind_counted s a f h k =
    let b = f a.value a.after in
    let rest : Counts a.after b = k a.value a.after in
    omega (arith, h, rest, count_append a.nodes b.nodes)

-- a node without regions
pub node_counted : {A : Type 0} → (s : Point) (o : Op) (inputs : List Origin) (v : A) (m i : Origin) → Counts s (one_node s o inputs v m i)
node_counted s o inputs v m i = omega arith

-- ---- regions

-- functions of which each counts its nodes
abbrev pub EachKeeps : {A : Type 0} → List (Point → Built A) → Type 0
EachKeeps [] = Unit {0}
EachKeeps (f ∷ fs) = Keeps f × EachKeeps fs

regions_counted : {A : Type 0} → (x : Extra A) (k : Carried) (n : ℕ) (fs : List (Point → Built A)) → EachKeeps fs →
    (regions_made x k n fs).next ≡ n + length (regions_ids (regions_of (regions_made x k n fs).regions))
regions_counted x k n [] h = omega arith
regions_counted x k n (f ∷ fs) h =
    let b = f (inside k n) in
    let first : b.after.next ≡ n + length (nodes_ids (nodes_of b.nodes)) = h.0 (inside k n) in
    let rest = regions_made x k b.after.next fs in
    let later : rest.next ≡ b.after.next + length (regions_ids (regions_of rest.regions)) = regions_counted x k b.after.next fs h.1 in
    omega (arith, first, later, length-append (nodes_ids (nodes_of b.nodes)) (regions_ids (regions_of rest.regions)))

pub choices_counted : {A : Type 0} → (x : Extra A) (s : Point) (p : Origin) (fs : List (Point → Built A)) → EachKeeps fs → Counts s (choices x s p fs)
choices_counted x s p fs h =
    let r = regions_made x s.carried (suc s.next) fs in
    let inner : r.next ≡ suc s.next + length (regions_ids (regions_of r.regions)) = regions_counted x s.carried (suc s.next) fs h in
    omega (arith, inner, length-append (s.next ∷ regions_ids (regions_of r.regions)) [])

pub choice_counted : {A : Type 0} → (x : Extra A) (s : Point) (p : Origin) (f g : Point → Built A) → Keeps f → Keeps g → Counts s (choice x s p f g)
choice_counted x s p f g h k = choices_counted x s p (f ∷ g ∷ []) (h, (k, tt))

pub choice_one_first_counted : {A : Type 0} → (x : Extra A) (s : Point) (p : Origin) (f g : Point → Built A) → Keeps f → Keeps g → Counts s (choice_one_first x s p f g)
choice_one_first_counted x s p f g h k =
    let one = g (inside s.carried (suc s.next)) in
    let first : one.after.next ≡ suc s.next + length (nodes_ids (nodes_of one.nodes)) = k (inside s.carried (suc s.next)) in
    let zero = f (inside s.carried one.after.next) in
    let second : zero.after.next ≡ one.after.next + length (nodes_ids (nodes_of zero.nodes)) = h (inside s.carried one.after.next) in
    let zs = nodes_ids (nodes_of zero.nodes) in
    let ns = nodes_ids (nodes_of one.nodes) in
    omega (arith, first, second, length-append (s.next ∷ (zs ++ (ns ++ []))) [], length-append zs (ns ++ []), length-append ns [])

pub repeat_counted : (s : Point) (f : Point → Built Origin) → Keeps f → Counts s (repeat s f)
repeat_counted s f h =
    let b = f (inside s.carried (suc s.next)) in
    let inner : b.after.next ≡ suc s.next + length (nodes_ids (nodes_of b.nodes)) = h (inside s.carried (suc s.next)) in
    let is = nodes_ids (nodes_of b.nodes) in
    omega (arith, inner, length-append (s.next ∷ (is ++ [])) [], length-append is [])
