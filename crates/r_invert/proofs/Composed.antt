-- What a region does that is made of others.
use Rattle.std.specs.Prelude.{nat_lt, unwrap_or}
use Rattle.std.proofs.Common.{◌≡◌, ◌≢◌, ◌⊎◌, ◌<◌, inl, inr, ℕ, Bool, true, List, [], map, length, Some, slice_get, get_or, refl, sym, ap, subst, ◌∙◌, arith}
use Rattle.std.proofs.Math.Path.{fun_ext}
use Rattle.std.proofs.lemmas.Bool.Decides.{nat_tests}
use Rattle.std.proofs.lemmas.Option.{slice_get-get_or}
use Rattle.val_core.specs.Answers.{Answer, Returned, then_on, Gives}
use Rattle.val_core.proofs.lemmas.Answers.{then_associates, then_nothing, then_on_given}
use Rattle.g_graph.specs.declared.op.Kind.{Kind}
use Rattle.g_graph.specs.declared.op.Op.{Op}
use Rattle.g_graph.specs.declared.op.Origin.{Origin}
use Rattle.g_graph.specs.declared.op.Origin.TheVariants.{Arg, Out}
use Rattle.g_graph.specs.Plain.{region, NodeTrees, RegionTrees}
use Rattle.g_graph.specs.Ids.{nodes_ids}
use Rattle.g_graph.specs.Replace.{nodes_redirected}
use Rattle.g_graph.specs.Splice.{args_to_inputs}
use Rattle.g_mean.specs.Data.{Datum}
use Rattle.g_mean.specs.Meaning.{Context, act, Outputs, no_outputs, extended, read, region_meaning, nodes_run, meanings}
use Rattle.g_mean.specs.Copies.{IsAmong, IsRead, known_after, is_argument, IsClosed, CanMove, Same, ReadSame}
use Rattle.g_mean.proofs.lemmas.Copies.{same-then, same-equal, Equals, extended-same, copied_nodes_mean_the_same, reads-same, redirected-moved}
use Rattle.g_mean.proofs.lemmas.Splices.{joined-run, known-among, get-read, get-port}
use Rattle.r_edit.specs.Origins.{origins_from}
use Rattle.r_edit.proofs.lemmas.Consecutive.{all-from}
use Rattle.r_edit.proofs.lemmas.Loops.{at-port}
use Rattle.r_invert.specs.Compose.{in_sequence, alone}

-- ---- one after another

module _ (c : Context) (args : List Kind) (ns : NodeTrees) (results : List Origin) (own : List Kind) (ms : NodeTrees) (gets : List Origin) (first : IsClosed (region args ns results))
    (second : IsClosed (region own ms gets)) (count : length own ≡ length results) (apart : (n : ℕ) → IsAmong n (nodes_ids ns) → IsAmong n (nodes_ids ms) → ⊥) where
  abbrev move : Origin → Origin
  move = args_to_inputs results

  abbrev S : Origin → Bool
  S a = is_argument (length own) a

  placed : (k : ℕ) → nat_lt k (length own) ≡ true → (b : Origin) × (slice_get results k ≡ Some b) × (move (Arg k) ≡ b)
  placed k h =
      let there = slice_get-get_or results k (Arg k) (within (length own) k h count) in
      (get_or results k (Arg k), there, ap (λ z. unwrap_or z (Arg k)) there)
    where
      within : (n k : ℕ) → nat_lt k n ≡ true → n ≡ length results → k < length results
      within n k h e = grind (arith, nat_tests)

  result-among : (k : ℕ) (b : Origin) (n p : ℕ) → slice_get results k ≡ Some b → b ≡ Out n p → IsAmong n (nodes_ids ns)
  result-among k b n p e f = by (subst (λ z. IsRead (is_argument (length args)) (known_after [] ns) z) f (get-read (is_argument (length args)) (known_after [] ns) results first.1 k b e))
    where
      among : IsAmong n [] ⊎ IsAmong n (nodes_ids ns) → IsAmong n (nodes_ids ns)
      among (inl k) = absurd k
      among (inr k) = k

      by : IsRead (is_argument (length args)) (known_after [] ns) (Out n p) → IsAmong n (nodes_ids ns)
      by (inl t) = absurd cc
      by (inr h) = among (known-among [] ns n h)

  moves : CanMove S move (λ n. n) (nodes_ids ms)
  moves = record { one = λ m n h k e. e; outputs = λ n p h. refl; apart = others; fresh = fresh }
    where
      others : (a : Origin) (n p : ℕ) → S a ≡ true → a ≡ Out n p → IsAmong n (nodes_ids ms) → ⊥
      others (Arg k) n p t e h = absurd cc
      others (Out m q) n p t e h = absurd cc

      fresh : (a : Origin) (n p m : ℕ) → S a ≡ true → move a ≡ Out n p → IsAmong m (nodes_ids ms) → n ≢ m
      fresh (Out i q) n p m t e h f = absurd cc
      fresh (Arg k) n p m t e h f =
          let found = placed k t in
          apart m (subst (λ z. IsAmong z (nodes_ids ns)) f (result-among k found.0 n p found.1 (sym found.2 ∙ e))) h

  reads : (xs : List Datum) (q : Outputs) → ReadSame S [] move (map (read xs q) results) xs no_outputs q
  reads xs q (Arg k) (inl t) =
      let found = placed k t in
      ap (read xs q) found.2 ∙ sym (get-port (read xs q) results k found.0 found.1)
  reads xs q (Arg k) (inr h) = absurd h
  reads xs q (Out n p) (inl t) = absurd cc
  reads xs q (Out n p) (inr h) = absurd h

  -- the second region, where the first one gave this map
  second-there : (xs : List Datum) (q : Outputs) → then_on (nodes_run c (nodes_redirected move ms) xs q) (λ r. Returned (map (read xs r) (map move gets)) [])
      ≡ region_meaning c (region own ms gets) (map (read xs q) results)
  second-there xs q =
      let vs = map (read xs q) results in
      let nodes =
      subst (λ ks. Same (ReadSame S (known_after [] ms) move vs xs) (nodes_run c ms vs no_outputs) (nodes_run c ks xs q)) (redirected-moved move ms)
      (copied_nodes_mean_the_same S move (λ n. n) ms moves second.0 c vs xs no_outputs q (reads xs q)) in
      sym
      (same-equal (region_meaning c (region own ms gets) vs) (then_on (nodes_run c (nodes_redirected move ms) xs q) (λ r. Returned (map (read xs r) (map move gets)) []))
      (same-then (ReadSame S (known_after [] ms) move vs xs) Equals (nodes_run c ms vs no_outputs) (nodes_run c (nodes_redirected move ms) xs q)
      (λ o. Returned (map (read vs o) gets) []) (λ r. Returned (map (read xs r) (map move gets)) []) nodes
      (λ o r h. (sym (reads-same S (known_after [] ms) move vs xs o r h gets second.1), refl))))

  pub sequence-means : (xs : List Datum) →
      region_meaning c (in_sequence (region args ns results) (region own ms gets)) xs ≡ then_on (region_meaning c (region args ns results) xs) (region_meaning c (region own ms gets))
  sequence-means xs =
      let last = λ (r : Outputs). Returned (map (read xs r) (map move gets)) [] in
      ap (λ a. then_on a last) (joined-run c ns (nodes_redirected move ms) xs no_outputs)
      ∙ then_associates (nodes_run c ns xs no_outputs) (nodes_run c (nodes_redirected move ms) xs) last
      ∙ ap (then_on (nodes_run c ns xs no_outputs)) (fun_ext (λ q. second-there xs q))
      ∙ sym (then_associates (nodes_run c ns xs no_outputs) (λ q. Returned (map (read xs q) results) []) (region_meaning c (region own ms gets)))

-- ---- one node

module _ (c : Context) (id : ℕ) (op : Op) (args : List Kind) (count : ℕ) (rs : RegionTrees) (xs : List Datum) (long : length xs ≡ length args) where
  abbrev given : List Datum → Answer (List Datum)
  given ys = Returned (map (read xs (extended no_outputs id ys)) (origins_from (Out id) 0 count)) []

  all-inputs : map (read xs no_outputs) (origins_from Arg 0 (length args)) ≡ xs
  all-inputs = ap (λ n. map (read xs no_outputs) (origins_from Arg 0 n)) (sym long) ∙ all-from (read xs no_outputs) Arg xs (at-port xs)

  all-given : (ys : List Datum) → length ys ≡ count → given ys ≡ Returned ys []
  all-given ys e =
      ap (λ n. Returned (map (read xs (extended no_outputs id ys)) (origins_from (Out id) 0 n)) []) (sym e)
      ∙ ap (λ zs. Returned zs []) (all-from (read xs (extended no_outputs id ys)) (Out id) ys (λ k y d. extended-same no_outputs id ys id k refl ∙ at-port ys k y d))

  all-answered : (a : Answer (List Datum)) → Gives (λ ys. length ys ≡ count) a → then_on a given ≡ a
  all-answered a h =
      then_on_given a given (λ ys. Returned ys []) (λ ys did e. all-given ys (subst (Gives (λ zs. length zs ≡ count)) e h)) ∙ then_nothing a

  pub alone-means : Gives (λ ys. length ys ≡ count) (act c op (meanings c rs) xs) → region_meaning c (alone id op args count rs) xs ≡ act c op (meanings c rs) xs
  alone-means h =
      let run = act c op (meanings c rs) (map (read xs no_outputs) (origins_from Arg 0 (length args))) in
      then_associates run (λ ys. Returned (extended no_outputs id ys) []) (λ o. Returned (map (read xs o) (origins_from (Out id) 0 count)) [])
      ∙ ap (λ us. then_on (act c op (meanings c rs) us) given) all-inputs ∙ all-answered (act c op (meanings c rs) xs) h
