-- A region with one more argument, which it does not read.
use Rattle.std.proofs.Common.{◌≡◌, ◌≢◌, ◌<◌, ℕ, zero, suc, true, List, [], ◌∷◌, ◌++◌, map, length, refl, sym, ap, subst, ◌∙◌, inl, inr, arith}
use Rattle.std.proofs.lemmas.Bool.Decides.{nat_tests}
use Rattle.val_core.specs.Answers.{Returned}
use Rattle.g_graph.specs.declared.op.Kind.{Kind}
use Rattle.g_graph.specs.declared.op.Origin.{Origin}
use Rattle.g_graph.specs.declared.op.Origin.TheVariants.{Arg, Out}
use Rattle.g_graph.specs.Plain.{region, NodeTrees}
use Rattle.g_graph.specs.Ids.{nodes_ids}
use Rattle.g_graph.proofs.lemmas.Redirects.{all_unmoved, nodes_unmoved}
use Rattle.g_mean.specs.Data.{Datum, at_port}
use Rattle.g_mean.specs.Meaning.{Context, Outputs, no_outputs, read, region_meaning, nodes_run}
use Rattle.g_mean.specs.Copies.{IsAmong, known_after, is_argument, IsClosed, CanMove, Same, ReadSame}
use Rattle.g_mean.proofs.lemmas.Copies.{Equals, reads-same, redirected-moved, same-then, same-equal, copied_nodes_mean_the_same}
use Rattle.r_edit.specs.Added.{arg_added}

-- ---- data with one more

pub added-port : (us : List Datum) (x : Datum) (k : ℕ) → k < length us → at_port (us ++ x ∷ []) k ≡ at_port us k
added-port [] x k h = absurd (omega (arith, h))
added-port (u ∷ us) x zero h = refl
added-port (u ∷ us) x (suc k) h = added-port us x k (omega (arith, h))

pub last-port : (us : List Datum) (x : Datum) → at_port (us ++ x ∷ []) (length us) ≡ x
last-port [] x = refl
last-port (u ∷ us) x = last-port us x

pub argument-less : (count k : ℕ) → is_argument count (Arg k) ≡ true → k < count
argument-less count k t = grind (arith, nat_tests)

-- arguments stay where they are
pub arguments-move : (count : ℕ) (ids : List ℕ) → CanMove (is_argument count) (λ o. o) (λ n. n) ids
arguments-move count ids = record { one = λ m n h k e. e; outputs = λ n p h. refl; apart = apart; fresh = fresh }
  where
    apart : (a : Origin) (n p : ℕ) → is_argument count a ≡ true → a ≡ Out n p → IsAmong n ids → ⊥
    apart (Arg k) n p t e h = absurd cc
    apart (Out i j) n p t e h = absurd cc

    fresh : (a : Origin) (n p m : ℕ) → is_argument count a ≡ true → a ≡ Out n p → IsAmong m ids → n ≢ m
    fresh (Arg k) n p m t e h = absurd cc
    fresh (Out i j) n p m t e h = absurd cc

pub arguments-same : (count : ℕ) (us : List Datum) (x : Datum) → length us ≡ count → ReadSame (is_argument count) [] (λ o. o) us (us ++ x ∷ []) no_outputs no_outputs
arguments-same count us x e (Arg k) (inl t) = added-port us x k (omega (arith, argument-less count k t, e))
arguments-same count us x e (Arg k) (inr h) = absurd h
arguments-same count us x e (Out n p) (inl t) = absurd cc
arguments-same count us x e (Out n p) (inr h) = absurd h

-- The region means what it meant, whatever the last datum is.
pub arg_added_means : (c : Context) (k : Kind) (args : List Kind) (nodes : NodeTrees) (results : List Origin) → IsClosed (region args nodes results) → (us : List Datum) (x : Datum) →
    length us ≡ length args → region_meaning c (arg_added k (region args nodes results)) (us ++ x ∷ []) ≡ region_meaning c (region args nodes results) us
arg_added_means c k args nodes results closed us x e =
    let S = is_argument (length args) in
    let more = us ++ x ∷ [] in
    let known = known_after [] nodes in
    let runs = subst (λ ns. Same (ReadSame S known (λ o. o) us more) (nodes_run c nodes us no_outputs) (nodes_run c ns more no_outputs))
    (redirected-moved (λ o. o) nodes ∙ nodes_unmoved (λ o. o) (λ o. refl) nodes)
    (copied_nodes_mean_the_same S (λ o. o) (λ n. n) nodes (arguments-move (length args) (nodes_ids nodes)) closed.0 c us more no_outputs no_outputs (arguments-same (length args) us x e)) in
    let ends = λ (o q : Outputs) (h : ReadSame S known (λ a. a) us more o q). sym (reads-same S known (λ a. a) us more o q h results closed.1)
    ∙ ap (map (read more q)) (all_unmoved (λ a. a) (λ a. refl) results) in
    sym (same-equal (region_meaning c (region args nodes results) us) (region_meaning c (arg_added k (region args nodes results)) more)
    (same-then (ReadSame S known (λ o. o) us more) Equals (nodes_run c nodes us no_outputs) (nodes_run c nodes more no_outputs)
    (λ o. Returned (map (read us o) results) []) (λ q. Returned (map (read more q) results) []) runs (λ o q h. (ends o q h, refl))))
