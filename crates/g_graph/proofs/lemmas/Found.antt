-- Nodes that are found by their numbers, and constants.
use Rattle.std.proofs.Common.{◌≡◌, ◌<◌, ◌+◌, ◌%◌, ◌^◌, ℕ, zero, suc, ◌==◌, ◌||◌, Bool, true, false, cond, List, [], ◌∷◌, Option, None, Some, option_and_then, refl, sym, ap, subst, ◌∙◌, arith, lit<, mod-lt}
use Rattle.std.specs.Prelude.{if◌then◌else◌, slice_set}
use Rattle.std.proofs.lemmas.Bool.{or_parts}
use Rattle.std.proofs.lemmas.Bool.Decides.{nat_tests}
use Rattle.std.proofs.lemmas.Option.{same_Some}
use Rattle.g_graph.specs.declared.op.Op.{Op}
use Rattle.g_graph.specs.declared.op.Op.TheVariants.{Const, Undef, Local, Delta, Bin, Un, Load, Store, Clear, PtrEq, Apply, Put, Exit, Get, Gamma, Theta}
use Rattle.g_graph.specs.declared.op.Origin.{Origin}
use Rattle.g_graph.specs.declared.op.Origin.TheVariants.{Arg, Out}
use Rattle.g_graph.specs.Plain.{NodeTree, node, NodeTrees, no_nodes, node_then, nodes_of, id_of}
use Rattle.g_graph.specs.Change.{has_node, node_index}
use Rattle.g_graph.specs.Splice.{joined_nodes}
use Rattle.g_graph.specs.Nodes.{node_at, node_set, op_word, const_word, constant}
use Rattle.g_graph.proofs.lemmas.Splices.{node_index_least}

-- ---- a node that is found

pub found_node : (n : ℕ) (ns : NodeTrees) (x : NodeTree) → node_at n ns ≡ Some x → has_node n ns ≡ true
found_node n no_nodes x e = absurd (cc)
found_node n (node_then y ns) x e = by_test (id_of y == n) e (found_node n ns x)
  where
    by_test : (t : Bool) → (if t then Some y else node_at n ns) ≡ Some x → (node_at n ns ≡ Some x → has_node n ns ≡ true) → (t || has_node n ns) ≡ true
    by_test true q h = refl
    by_test false q h = h q

pub node_at-joined : (n : ℕ) (before : NodeTrees) (x : NodeTree) (after : NodeTrees) → has_node n before ≡ false → (id_of x == n) ≡ true → node_at n (joined_nodes before (node_then x after)) ≡ Some x
node_at-joined n no_nodes x after b h = ap (λ t. if t then Some x else node_at n after) h
node_at-joined n (node_then y before) x after b h =
    ap (λ t. if t then Some y else node_at n (joined_nodes before (node_then x after))) (or_parts (id_of y == n) (has_node n before) b).0
    ∙ node_at-joined n before x after (or_parts (id_of y == n) (has_node n before) b).1 h

-- the nodes before and after the first of a number
pub record Found (n : ℕ) (ns : NodeTrees) (x : NodeTree) : Type 0 where
  pub before : NodeTrees
  pub after : NodeTrees
  pub is : ns ≡ joined_nodes before (node_then x after)
  pub number : id_of x ≡ n
  pub first : (y : NodeTree) → node_set n y ns ≡ joined_nodes before (node_then y after)

found_by : (n : ℕ) (z : NodeTree) (ns : NodeTrees) (x : NodeTree) → ((y : NodeTree) → node_at n ns ≡ Some y → Found n ns y) → (test : Bool) → (id_of z == n) ≡ test →
    cond test (Some z) (node_at n ns) ≡ Some x → Found n (node_then z ns) x
found_by n z ns x h true t d =
    let same : z ≡ x = cc in
    let number : id_of z ≡ n = grind (arith, nat_tests) in
    record {
      before = no_nodes;
      after = ns;
      is = ap (λ w. node_then w ns) same;
      number = ap id_of (sym same) ∙ number;
      first = λ y. rw t;
    }
found_by n z ns x h false t d =
    let rest = h x d in
    record {
      before = node_then z rest.before;
      after = rest.after;
      is = ap (node_then z) rest.is;
      number = rest.number;
      first = λ y. rw t (ap (node_then z) (rest.first y));
    }

pub found_at : (n : ℕ) (ns : NodeTrees) (x : NodeTree) → node_at n ns ≡ Some x → Found n ns x
found_at n no_nodes x e = absurd (cc)
found_at n (node_then z ns) x e = found_by n z ns x (λ y d. found_at n ns y d) (id_of z == n) refl e

-- ---- a node that is replaced

pub node_set_none : (n first : ℕ) (y : NodeTree) (xs : NodeTrees) → node_index n first xs ≡ None → node_set n y xs ≡ xs
node_set_none n first y no_nodes e = refl
node_set_none n first y (node_then x xs) e = by_test (id_of x == n) e (node_set_none n (suc first) y xs)
  where
    by_test : (t : Bool) → (if t then Some first else node_index n (suc first) xs) ≡ None → (node_index n (suc first) xs ≡ None → node_set n y xs ≡ xs) →
        (if t then node_then y xs else node_then x (node_set n y xs)) ≡ node_then x xs
    by_test true e h = absurd (cc)
    by_test false e h = ap (node_then x) (h e)

node_set_from : (n first p : ℕ) (y : NodeTree) (xs : List NodeTree) → node_index n first (nodes_of xs) ≡ Some (first + p) → node_set n y (nodes_of xs) ≡ nodes_of (slice_set xs p y)
node_set_from n first p y [] e = absurd (cc)
node_set_from n first zero y (x ∷ xs) e = by_test (id_of x == n) e
  where
    by_test : (t : Bool) → (if t then Some first else node_index n (suc first) (nodes_of xs)) ≡ Some (first + 0) →
        (if t then node_then y (nodes_of xs) else node_then x (node_set n y (nodes_of xs))) ≡ node_then y (nodes_of xs)
    by_test true e = refl
    by_test false e = absurd (omega (arith, node_index_least n (suc first) (first + 0) (nodes_of xs) e))
node_set_from n first (suc p) y (x ∷ xs) e = by_test (id_of x == n) e (node_set_from n (suc first) p y xs)
  where
    by_test : (t : Bool) → (if t then Some first else node_index n (suc first) (nodes_of xs)) ≡ Some (first + suc p) →
        (node_index n (suc first) (nodes_of xs) ≡ Some (suc first + p) → node_set n y (nodes_of xs) ≡ nodes_of (slice_set xs p y)) →
        (if t then node_then y (nodes_of xs) else node_then x (node_set n y (nodes_of xs))) ≡ node_then x (nodes_of (slice_set xs p y))
    by_test true e h = absurd (omega (arith, same_Some first (first + suc p) e))
    by_test false e h = ap (node_then x) (h (e ∙ ap Some (omega arith)))

pub node_set_at : (n p : ℕ) (y : NodeTree) (xs : List NodeTree) → node_index n 0 (nodes_of xs) ≡ Some p → node_set n y (nodes_of xs) ≡ nodes_of (slice_set xs p y)
node_set_at n p y xs e = node_set_from n 0 p y xs (e ∙ ap Some (omega arith))

-- ---- a constant is a word

word_small : (op : Op) (u : ℕ) → op_word op ≡ Some u → u < 2 ^ 32
word_small (Const w) u e =
    let same : w % 2 ^ 32 ≡ u = cc in
    subst (λ z. z < 2 ^ 32) same (mod-lt w (lit< tt))
word_small Undef u e = absurd (cc)
word_small (Local k) u e = absurd (cc)
word_small (Delta k) u e = absurd (cc)
word_small (Bin op) u e = absurd (cc)
word_small (Un op) u e = absurd (cc)
word_small (Load k) u e = absurd (cc)
word_small (Store k) u e = absurd (cc)
word_small (Clear k) u e = absurd (cc)
word_small PtrEq u e = absurd (cc)
word_small (Apply f) u e = absurd (cc)
word_small Put u e = absurd (cc)
word_small Exit u e = absurd (cc)
word_small Get u e = absurd (cc)
word_small Gamma u e = absurd (cc)
word_small Theta u e = absurd (cc)

found_small : (found : Option NodeTree) (u : ℕ) → option_and_then const_word found ≡ Some u → u < 2 ^ 32
found_small None u e = absurd (cc)
found_small (Some (node id op inputs rs)) u e = word_small op u e

pub constant_small : (ns : NodeTrees) (a : Origin) (u : ℕ) → constant ns a ≡ Some u → u < 2 ^ 32
constant_small ns (Arg k) u e = absurd (cc)
constant_small ns (Out n p) u e = by (p == 0) e
  where
    by : (test : Bool) → cond test (option_and_then const_word (node_at n ns)) None ≡ Some u → u < 2 ^ 32
    by true d = found_small (node_at n ns) u d
    by false d = absurd (cc)
