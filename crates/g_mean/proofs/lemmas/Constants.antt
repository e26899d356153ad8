-- An origin that is a constant carries its word, where the nodes so far have run.
use Rattle.std.proofs.Common.{◌≡◌, ℕ, zero, suc, ◌%◌, ◌^◌, ◌<◌, ◌==◌, ◌⊎◌, true, false, cond, List, [], ◌∷◌, None, Some, option_and_then, sym, ap, subst, ◌∙◌, inl, inr, arith, eq-eqb, lit<, mod-lt}
use Rattle.std.proofs.Math.Dec.{eqb-suc-zero}
use Rattle.std.proofs.lemmas.Bool.{cases_Bool}
use Rattle.std.proofs.lemmas.Bool.Decides.{nat_tests}
use Rattle.val_core.specs.declared.values.Value.TheVariants.{Num}
use Rattle.val_core.specs.Answers.{Returned}
use Rattle.g_graph.specs.declared.op.Op.TheVariants.{Const, Undef, Local, Delta, Bin, Un, Load, Store, Clear, PtrEq, Apply, Put, Exit, Get, Gamma, Theta}
use Rattle.g_graph.specs.declared.op.Origin.{Origin}
use Rattle.g_graph.specs.declared.op.Origin.TheVariants.{Arg, Out}
use Rattle.g_graph.specs.Plain.{NodeTree, node, NodeTrees, no_nodes, node_then, id_of}
use Rattle.g_graph.specs.Splice.{joined_nodes}
use Rattle.g_mean.specs.Data.{Datum, val, at_port}
use Rattle.g_mean.specs.Meaning.{Context, Outputs, read}
use Rattle.g_mean.specs.Copies.{IsAmong, IsRead, is_argument, known_after}
use Rattle.g_mean.specs.Holds.{HasRun, HaveRun}
use Rattle.g_graph.specs.Nodes.{node_at, const_word, constant}

-- a known node is found, and has run
pub record Ran (c : Context) (xs : List Datum) (o : Outputs) (n : ℕ) (ns : NodeTrees) : Type 0 where
  pub found : NodeTree
  pub is : (ms : NodeTrees) → node_at n (joined_nodes ns ms) ≡ Some found
  pub number : id_of found ≡ n
  pub run : HasRun c xs o found

known-ran : (c : Context) (xs : List Datum) (o : Outputs) (known : List ℕ) (ns : NodeTrees) (n : ℕ) → HaveRun c xs o ns → IsAmong n (known_after known ns) → IsAmong n known ⊎ Ran c xs o n ns
known-ran c xs o known no_nodes n have h = inl h
known-ran c xs o known (node_then x ns) n have h = by (known-ran c xs o (id_of x ∷ known) ns n have.1 h)
  where
    here : id_of x ≡ n → Ran c xs o n (node_then x ns)
    here e = let t : (id_of x == n) ≡ true = eq-eqb (id_of x) n e in record { found = x; is = λ ms. rw t; number = e; run = have.0 }

    later : Ran c xs o n ns → Ran c xs o n (node_then x ns)
    later r = by-test (cases_Bool (id_of x == n))
      where
        by-test : ((id_of x == n) ≡ true) ⊎ ((id_of x == n) ≡ false) → Ran c xs o n (node_then x ns)
        by-test (inl t) = here (grind (arith, nat_tests))
        by-test (inr t) = record { found = r.found; is = λ ms. rw t (r.is ms); number = r.number; run = r.run }

    by : IsAmong n (id_of x ∷ known) ⊎ Ran c xs o n ns → IsAmong n known ⊎ Ran c xs o n (node_then x ns)
    by (inl (inl e)) = inr (here (sym e))
    by (inl (inr k)) = inl k
    by (inr r) = inr (later r)

-- a Const that has run gives its word
const-gives : (c : Context) (xs : List Datum) (o : Outputs) (x : NodeTree) (u : ℕ) → const_word x ≡ Some u → HasRun c xs o x → (o (id_of x) 0 ≡ val (Num u)) × (u < 2 ^ 32)
const-gives c xs o (node id (Const w) inputs rs) u e h =
    let results : val (Num (w % 2 ^ 32)) ∷ [] ≡ h.results = same _ _ _ _ h.run in
    let word : w % 2 ^ 32 ≡ u = cc in
    (h.outputs 0 ∙ ap (λ ys. at_port ys 0) (sym results) ∙ ap (λ z. val (Num z)) word, subst (λ z. z < 2 ^ 32) word (mod-lt w (lit< tt)))
  where
    same : (ys zs : List Datum) (p q : List _) → Returned ys p ≡ Returned zs q → ys ≡ zs
    same ys zs p q e = cc
const-gives c xs o (node id Undef inputs rs) u e h = absurd cc
const-gives c xs o (node id (Local k) inputs rs) u e h = absurd cc
const-gives c xs o (node id (Delta k) inputs rs) u e h = absurd cc
const-gives c xs o (node id (Bin op) inputs rs) u e h = absurd cc
const-gives c xs o (node id (Un op) inputs rs) u e h = absurd cc
const-gives c xs o (node id (Load k) inputs rs) u e h = absurd cc
const-gives c xs o (node id (Store k) inputs rs) u e h = absurd cc
const-gives c xs o (node id (Clear k) inputs rs) u e h = absurd cc
const-gives c xs o (node id PtrEq inputs rs) u e h = absurd cc
const-gives c xs o (node id (Apply f) inputs rs) u e h = absurd cc
const-gives c xs o (node id Put inputs rs) u e h = absurd cc
const-gives c xs o (node id Exit inputs rs) u e h = absurd cc
const-gives c xs o (node id Get inputs rs) u e h = absurd cc
const-gives c xs o (node id Gamma inputs rs) u e h = absurd cc
const-gives c xs o (node id Theta inputs rs) u e h = absurd cc

-- Where the nodes so far have run, an origin that is a constant, and which they know, carries its word.
pub constant-holds : (c : Context) (count : ℕ) (xs : List Datum) (o : Outputs) (ns ms : NodeTrees) (a : Origin) (u : ℕ) → HaveRun c xs o ns → IsRead (is_argument count) (known_after [] ns) a →
    constant (joined_nodes ns ms) a ≡ Some u → (read xs o a ≡ val (Num u)) × (u < 2 ^ 32)
constant-holds c count xs o ns ms (Arg k) u have r e = absurd cc
constant-holds c count xs o ns ms (Out n p) u have (inl t) e = absurd cc
constant-holds c count xs o ns ms (Out n (suc p)) u have (inr h) e =
    let d = subst (λ test. cond test (option_and_then const_word (node_at n (joined_nodes ns ms))) None ≡ Some u) (eqb-suc-zero p) e in absurd cc
constant-holds c count xs o ns ms (Out n zero) u have (inr h) e = by (known-ran c xs o [] ns n have h)
  where
    by : IsAmong n [] ⊎ Ran c xs o n ns → (o n 0 ≡ val (Num u)) × (u < 2 ^ 32)
    by (inl k) = absurd k
    by (inr r) =
        let word : const_word r.found ≡ Some u = sym (ap (option_and_then const_word) (r.is ms)) ∙ e in
        let gives = const-gives c xs o r.found u word r.run in
        (ap (λ z. o z 0) (sym r.number) ∙ gives.0, gives.1)
