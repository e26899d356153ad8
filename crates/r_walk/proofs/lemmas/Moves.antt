-- Origins where outputs moved: one list of moves after another, and moves at a node whose region is opened.
use Rattle.std.proofs.Common.{◌≡◌, ℕ, zero, suc, ◌==◌, ◌⊎◌, Bool, true, false, cond, List, [], ◌∷◌, ◌++◌, map, slice_get, unwrap_or, refl, sym, ap, ap₂, subst, ◌∙◌, inl, inr, arith}
use Rattle.std.proofs.lemmas.List.{append_assoc, append-nil, map-append}
use Rattle.std.proofs.lemmas.Bool.Decides.{nat_tests}
use Rattle.g_graph.specs.declared.op.Origin.{Origin}
use Rattle.g_graph.specs.declared.op.Origin.TheVariants.{Arg, Out}
use Rattle.g_graph.specs.Plain.{node, NodeTrees, no_nodes, node_then}
use Rattle.g_graph.specs.Replace.{nodes_redirected}
use Rattle.g_graph.specs.Splice.{args_to_inputs, joined_nodes}
use Rattle.g_mean.specs.Copies.{IsAmong}
use Rattle.r_walk.specs.Walk.{Moved, output_now, origin_now, inputs_of_nodes}

-- ---- which outputs moved

-- a number is one of a list, or not
pub decided : (n : ℕ) (ns : List ℕ) → IsAmong n ns ⊎ (IsAmong n ns → ⊥)
decided n [] = inr (λ h. h)
decided n (m ∷ ns) = by (n == m) refl (decided n ns)
  where
    by : (t : Bool) → (n == m) ≡ t → IsAmong n ns ⊎ (IsAmong n ns → ⊥) → ((n ≡ m) ⊎ IsAmong n ns) ⊎ ((n ≡ m) ⊎ IsAmong n ns → ⊥)
    by true e d = inl (inl (grind (arith, nat_tests)))
    by false e (inl h) = inl (inr h)
    by false e (inr h) = inr (λ k. neither k)
      where
        neither : (n ≡ m) ⊎ IsAmong n ns → ⊥
        neither (inl d) = absurd (grind (arith, nat_tests))
        neither (inr j) = h j

-- outputs of these nodes alone moved
abbrev pub AreOf : (ns : List ℕ) → List Moved → Type 0
AreOf ns [] = Unit {0}
AreOf ns (m ∷ ms) = IsAmong m.node ns × AreOf ns ms

pub of_more : (ns ks : List ℕ) → ((n : ℕ) → IsAmong n ns → IsAmong n ks) → (ms : List Moved) → AreOf ns ms → AreOf ks ms
of_more ns ks h [] d = tt
of_more ns ks h (m ∷ ms) d = (h m.node d.0, of_more ns ks h ms d.1)

pub of_both : (ns : List ℕ) (ms ds : List Moved) → AreOf ns ms → AreOf ns ds → AreOf ns (ms ++ ds)
of_both ns [] ds a b = b
of_both ns (m ∷ ms) ds a b = (a.0, of_both ns ms ds a.1 b)

-- no output of these nodes moved yet, and no other origin became one
pub record IsAhead (ms : List Moved) (inputs : List Origin) (ns : List ℕ) : Type 0 where
  pub fresh : (n p : ℕ) → IsAmong n ns → output_now ms n p ≡ Out n p
  pub apart : (o : Origin) (n p : ℕ) → IsAmong n ns → origin_now ms inputs o ≡ Out n p → o ≡ Out n p

pub ahead_less : (ms : List Moved) (inputs : List Origin) (ns ks : List ℕ) → ((n : ℕ) → IsAmong n ks → IsAmong n ns) → IsAhead ms inputs ns → IsAhead ms inputs ks
ahead_less ms inputs ns ks h a = record { fresh = λ n p k. a.fresh n p (h n k); apart = λ o n p k e. a.apart o n p (h n k) e }

-- ---- lookups

out_node : (n m p q : ℕ) → Out n p ≡ Out m q → n ≡ m
out_node n m p q e = cc

pub argument_now : (ms : List Moved) (k : ℕ) → origin_now ms [] (Arg k) ≡ Arg k
argument_now ms zero = refl
argument_now ms (suc k) = refl

pub nothing_moved : (o : Origin) → origin_now [] [] o ≡ o
nothing_moved (Arg k) = argument_now [] k
nothing_moved (Out n p) = refl

pub not_moved : (ns : List ℕ) (ms ds : List Moved) (n p : ℕ) → AreOf ns ds → (IsAmong n ns → ⊥) → output_now (ds ++ ms) n p ≡ output_now ms n p
not_moved ns ms [] n p d h = refl
not_moved ns ms (m ∷ ds) n p d h = by (n == m.node) refl (not_moved ns ms ds n p d.1 h)
  where
    by : (t : Bool) → (n == m.node) ≡ t → output_now (ds ++ ms) n p ≡ output_now ms n p → cond t (unwrap_or (slice_get m.outputs p) (Out n p)) (output_now (ds ++ ms) n p) ≡ output_now ms n p
    by true e q = absurd (h (subst (λ k. IsAmong k ns) (sym (same e)) d.0))
      where
        same : (n == m.node) ≡ true → n ≡ m.node
        same q = grind (arith, nat_tests)
    by false e q = q

pub none_moved : (ns : List ℕ) (ds : List Moved) (n p : ℕ) → AreOf ns ds → (IsAmong n ns → ⊥) → output_now ds n p ≡ Out n p
none_moved ns ds n p d h = ap (λ ms. output_now ms n p) (sym (append-nil ds)) ∙ not_moved ns [] ds n p d h

pub moved_first : (ms ds : List Moved) (n p : ℕ) → output_now ms n p ≡ Out n p → output_now (ds ++ ms) n p ≡ output_now ds n p
moved_first ms [] n p e = e
moved_first ms (m ∷ ds) n p e = ap (λ o. cond (n == m.node) (unwrap_or (slice_get m.outputs p) (Out n p)) o) (moved_first ms ds n p e)

-- ---- one list of moves after another

pub both_moves : (ms ds : List Moved) (inputs : List Origin) (ns : List ℕ) → IsAhead ms inputs ns → AreOf ns ds → (o : Origin) →
    origin_now (ds ++ ms) inputs o ≡ origin_now ds [] (origin_now ms inputs o)
both_moves ms ds inputs ns a d (Arg k) = by (args_to_inputs inputs (Arg k)) refl
  where
    by : (b : Origin) → args_to_inputs inputs (Arg k) ≡ b → b ≡ origin_now ds [] b
    by (Arg j) e = sym (argument_now ds j)
    by (Out n p) e = sym (none_moved ns ds n p d (λ h. absurd (let q : Arg k ≡ Out n p = a.apart (Arg k) n p h e in cc)))
both_moves ms ds inputs ns a d (Out n p) = by (decided n ns)
  where
    by_value : (b : Origin) → output_now ms n p ≡ b → (IsAmong n ns → ⊥) → b ≡ origin_now ds [] b
    by_value (Arg j) e h = sym (argument_now ds j)
    by_value (Out m q) e h = sym (none_moved ns ds m q d (λ k. h (subst (λ z. IsAmong z ns) (sym (out_node n m p q (a.apart (Out n p) m q k e))) k)))

    by : IsAmong n ns ⊎ (IsAmong n ns → ⊥) → output_now (ds ++ ms) n p ≡ origin_now ds [] (output_now ms n p)
    by (inl h) = moved_first ms ds n p (a.fresh n p h) ∙ ap (λ b. origin_now ds [] b) (sym (a.fresh n p h))
    by (inr h) = not_moved ns ms ds n p d h ∙ by_value (output_now ms n p) refl h

-- ---- nodes and lists of origins

pub origins_twice : (f g h : Origin → Origin) → ((o : Origin) → h o ≡ g (f o)) → (os : List Origin) → map g (map f os) ≡ map h os
origins_twice f g h e [] = refl
origins_twice f g h e (o ∷ os) = ap₂ (λ a os. a ∷ os) (sym (e o)) (origins_twice f g h e os)

pub nodes_twice : (f g h : Origin → Origin) → ((o : Origin) → h o ≡ g (f o)) → (ns : NodeTrees) → nodes_redirected g (nodes_redirected f ns) ≡ nodes_redirected h ns
nodes_twice f g h e no_nodes = refl
nodes_twice f g h e (node_then (node id op inputs rs) ns) = ap₂ (λ is xs. node_then (node id op is rs) xs) (origins_twice f g h e inputs) (nodes_twice f g h e ns)

pub nodes_redirected-joined : (f : Origin → Origin) (xs ys : NodeTrees) → nodes_redirected f (joined_nodes xs ys) ≡ joined_nodes (nodes_redirected f xs) (nodes_redirected f ys)
nodes_redirected-joined f no_nodes ys = refl
nodes_redirected-joined f (node_then (node id op inputs rs) xs) ys = ap (λ ns. node_then (node id op (map f inputs) rs) ns) (nodes_redirected-joined f xs ys)

pub inputs-joined : (xs ys : NodeTrees) → inputs_of_nodes (joined_nodes xs ys) ≡ inputs_of_nodes xs ++ inputs_of_nodes ys
inputs-joined no_nodes ys = refl
inputs-joined (node_then (node id op inputs rs) xs) ys = ap (λ os. inputs ++ os) (inputs-joined xs ys) ∙ sym (append_assoc inputs (inputs_of_nodes xs) (inputs_of_nodes ys))

pub inputs-redirected : (f : Origin → Origin) (ns : NodeTrees) → inputs_of_nodes (nodes_redirected f ns) ≡ map f (inputs_of_nodes ns)
inputs-redirected f no_nodes = refl
inputs-redirected f (node_then (node id op inputs rs) ns) = ap (λ os. map f inputs ++ os) (inputs-redirected f ns) ∙ sym (map-append f inputs (inputs_of_nodes ns))
