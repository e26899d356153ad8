-- The Gamma means what it meant.
use Rattle.std.proofs.Common.{◌≡◌, ◌≢◌, ◌≤◌, ◌<◌, ◌+◌, ℕ, zero, suc, Bool, true, false, ◌&&◌, ◌||◌, cond, List, [], ◌∷◌, ◌++◌, map, length, replicate, refl, sym, ap, ap₂, subst, ◌∙◌, inl, inr, arith}
use Rattle.std.proofs.Math.Path.{fun_ext}
use Rattle.std.proofs.lemmas.Bool.{and_parts, or_parts}
use Rattle.std.proofs.lemmas.List.{length-map, map-append}
use Rattle.val_core.specs.declared.values.Value.{Value as Word}
use Rattle.val_core.specs.Answers.{Returned, on_number, then_on}
use Rattle.g_graph.specs.declared.op.Kind.{Kind}
use Rattle.g_graph.specs.declared.op.Kind.TheVariants.{Value}
use Rattle.g_graph.specs.declared.op.Op.{Op}
use Rattle.g_graph.specs.declared.op.Op.TheVariants.{Gamma}
use Rattle.g_graph.specs.declared.op.Origin.{Origin}
use Rattle.g_graph.specs.declared.op.Origin.TheVariants.{Arg, Out}
use Rattle.g_graph.specs.Plain.{RegionTree, region, node, NodeTrees, node_then, RegionTrees, no_regions, region_then, args_of}
use Rattle.g_graph.specs.Ids.{region_ids, nodes_ids, regions_ids}
use Rattle.g_graph.specs.Signatures.{result_kinds}
use Rattle.g_graph.specs.Replace.{nodes_redirected}
use Rattle.g_graph.specs.WellFormed.{some_of, all_regions, same, are}
use Rattle.g_graph.proofs.lemmas.Nodes.{same_kinds}
use Rattle.g_mean.specs.Data.{Datum, val, value_of, at_port}
use Rattle.g_mean.specs.Meaning.{Context, chosen, act, Outputs, no_outputs, extended, read, region_meaning, node_run, nodes_run, meanings}
use Rattle.g_mean.specs.Copies.{IsAmong, known_after, is_argument, IsClosed, AllClosed, CanMove, ReadSame}
use Rattle.g_mean.proofs.lemmas.Copies.{among-left, among-right, extended-same}
use Rattle.r_edit.specs.Uses.{nodes_read, is_read}
use Rattle.r_edit.specs.Places.{stays_at, kept, place_after}
use Rattle.r_edit.specs.Entries.{argument_after, is_gone_argument, some_reads, regions_taking}
use Rattle.r_edit.specs.InPlace.{region_taking}
use Rattle.r_edit.proofs.lemmas.Added.{argument-less}
use Rattle.r_edit.proofs.lemmas.Exits.{kept_port}
use Rattle.r_edit.proofs.lemmas.Kept.{kept_map}
use Rattle.r_edit.proofs.lemmas.Meant.{moved-runs-same, map-twice, redirected-twice}
use Rattle.r_pull.specs.Rule.{args_from, copy_used, region_filled, copies_in, regions_filled}
use Rattle.r_pull.proofs.Carried.{front-port, reads-from, staying, all-stay, nodes-stay}

-- the regions with copies, without the arguments that go
abbrev pub regions_pulled : (stays : List Bool) → (copy first : ℕ) → Op → (inputs : List Origin) → RegionTrees → RegionTrees
regions_pulled stays copy first op inputs no_regions = no_regions
regions_pulled stays copy first op inputs (region_then r rs) =
    region_then (region_taking stays (region_filled stays copy first op inputs r)) (regions_pulled stays (copy + copies_in stays r) first op inputs rs)

taking-one : (stays : List Bool) (r : RegionTree) (rs : RegionTrees) → regions_taking stays (region_then r rs) ≡ region_then (region_taking stays r) (regions_taking stays rs)
taking-one stays (region args nodes results) rs = refl

pub pulled-is : (stays : List Bool) (copy first : ℕ) (op : Op) (inputs : List Origin) (rs : RegionTrees) →
    regions_taking stays (regions_filled stays copy first op inputs rs) ≡ regions_pulled stays copy first op inputs rs
pulled-is stays copy first op inputs no_regions = refl
pulled-is stays copy first op inputs (region_then r rs) =
    taking-one stays (region_filled stays copy first op inputs r) (regions_filled stays (copy + copies_in stays r) first op inputs rs)
    ∙ ap (region_then (region_taking stays (region_filled stays copy first op inputs r))) (pulled-is stays (copy + copies_in stays r) first op inputs rs)

-- ---- a region

module _ (c : Context) (stays : List Bool) (op : Op) (inputs : List Origin) (us vs : List Datum) (many : length inputs ≡ length vs) (late : (k : ℕ) → length us ≤ k → stays_at stays k ≡ true) where
  abbrev now : List Datum
  now = kept stays (us ++ vs)

  abbrev after : Origin → Origin
  after = argument_after stays

  stays-port : (k : ℕ) → k < length us → stays_at stays k ≡ true → at_port now (place_after stays k) ≡ at_port us k
  stays-port k b t = kept_port stays (us ++ vs) k t ∙ front-port us vs k b

  module _ (args : List Kind) (nodes : NodeTrees) (results : List Origin) (closed : IsClosed (region args nodes results)) (long : length us ≡ length args) where
    abbrev r : RegionTree
    r = region args nodes results

    unread-moves : CanMove (staying (length args) stays) after (λ n. n) (nodes_ids nodes)
    unread-moves = record { one = λ m n h k e. e; outputs = λ n p h. refl; apart = apart; fresh = fresh }
      where
        apart : (a : Origin) (n p : ℕ) → staying (length args) stays a ≡ true → a ≡ Out n p → IsAmong n (nodes_ids nodes) → ⊥
        apart (Arg k) n p t e h = absurd cc
        apart (Out i j) n p t e h = absurd cc

        fresh : (a : Origin) (n p m : ℕ) → staying (length args) stays a ≡ true → after a ≡ Out n p → IsAmong m (nodes_ids nodes) → n ≢ m
        fresh (Arg k) n p m t e h f = absurd cc
        fresh (Out i j) n p m t e h f = absurd cc

    unread-same : ReadSame (staying (length args) stays) [] after us now no_outputs no_outputs
    unread-same (Arg k) (inl t) =
        let both = and_parts (is_argument (length args) (Arg k)) (stays_at stays k) t in
        stays-port k (omega (arith, argument-less (length args) k both.0, long)) both.1
    unread-same (Arg k) (inr h) = absurd h
    unread-same (Out n p) (inl t) = absurd cc
    unread-same (Out n p) (inr h) = absurd h

    pub unread-means : is_read (is_gone_argument stays) r ≡ false → region_meaning c (region_taking stays (region (args ++ replicate (length inputs) Value) nodes results)) now ≡ region_meaning c r us
    unread-means unread =
        let parts = or_parts (nodes_read (is_gone_argument stays) nodes) (some_of (is_gone_argument stays) results) unread in
        moved-runs-same (staying (length args) stays) after nodes results unread-moves (nodes-stay (length args) stays [] nodes closed.0 parts.0)
        (all-stay (length args) stays (known_after [] nodes) results closed.1 parts.1) c us now no_outputs no_outputs unread-same

    module _ (copy : ℕ) (apart : IsAmong copy (nodes_ids nodes) → ⊥) (v : Word)
        (run : act c op [] (map (read now no_outputs) (map after (args_from (length us) inputs))) ≡ Returned (val v ∷ []) [])
        (carries : (k : ℕ) → k < length us → stays_at stays k ≡ false → at_port us k ≡ val v) where
      abbrev used : Origin → Origin
      used = copy_used stays copy

      abbrev move : Origin → Origin
      move o = after (used o)

      abbrev first : Outputs
      first = extended no_outputs copy (val v ∷ [])

      read-moves : CanMove (is_argument (length args)) move (λ n. n) (nodes_ids nodes)
      read-moves = record { one = λ m n h k e. e; outputs = λ n p h. refl; apart = other; fresh = fresh }
        where
          other : (a : Origin) (n p : ℕ) → is_argument (length args) a ≡ true → a ≡ Out n p → IsAmong n (nodes_ids nodes) → ⊥
          other (Arg k) n p t e h = absurd cc
          other (Out i j) n p t e h = absurd cc

          fresh : (a : Origin) (n p m : ℕ) → is_argument (length args) a ≡ true → move a ≡ Out n p → IsAmong m (nodes_ids nodes) → n ≢ m
          fresh (Out i j) n p m t e h f = absurd cc
          fresh (Arg k) n p m t e h f = by (stays_at stays k) e
            where
              by : (s : Bool) → after (cond s (Arg k) (Out copy 0)) ≡ Out n p → ⊥
              by true d = absurd cc
              by false d = let same : copy ≡ n = cc in apart (subst (λ z. IsAmong z (nodes_ids nodes)) (sym (same ∙ f)) h)

      read-same : ReadSame (is_argument (length args)) [] move us now no_outputs first
      read-same (Arg k) (inl t) = by (stays_at stays k) refl
        where
          within : k < length us
          within = omega (arith, argument-less (length args) k t, long)

          by : (s : Bool) → stays_at stays k ≡ s → read now first (after (cond s (Arg k) (Out copy 0))) ≡ at_port us k
          by true e = stays-port k within e
          by false e = extended-same no_outputs copy (val v ∷ []) copy 0 refl ∙ sym (carries k within e)
      read-same (Arg k) (inr h) = absurd h
      read-same (Out n p) (inl t) = absurd cc
      read-same (Out n p) (inr h) = absurd h

      abbrev ms : NodeTrees
      ms = nodes_redirected after (nodes_redirected used nodes)

      abbrev outs : List Origin
      outs = map after (map used results)

      pub read-means : region_meaning c (region_taking stays (region (args ++ replicate (length inputs) Value)
          (node_then (node copy op (args_from (length us) inputs) no_regions) (nodes_redirected used nodes)) (map used results))) now
          ≡ region_meaning c r us
      read-means =
          ap (λ a. then_on (then_on a (λ ws. nodes_run c ms now (extended no_outputs copy ws))) (λ o. Returned (map (read now o) outs) [])) run
          ∙ ap₂ (λ ns os. then_on (nodes_run c ns now first) (λ o. Returned (map (read now o) os) [])) (redirected-twice after used nodes) (map-twice after used results)
          ∙ moved-runs-same (is_argument (length args)) move nodes results read-moves closed.0 closed.1 c us now no_outputs first read-same

  -- ---- the regions

  module _ (v : Word) (carries : (k : ℕ) → k < length us → stays_at stays k ≡ false → at_port us k ≡ val v) where
    -- what a copy gives
    abbrev CopyRuns : Type 0
    CopyRuns = act c op [] (map (read now no_outputs) (map after (args_from (length us) inputs))) ≡ Returned (val v ∷ []) []

    one-means : (copy : ℕ) (r : RegionTree) → IsClosed r → length us ≡ length (args_of r) → (IsAmong copy (region_ids r) → ⊥) → (is_read (is_gone_argument stays) r ≡ true → CopyRuns) →
        region_meaning c (region_taking stays (region_filled stays copy (length us) op inputs r)) now ≡ region_meaning c r us
    one-means copy (region args nodes results) closed long apart run = by (is_read (is_gone_argument stays) (region args nodes results)) refl
      where
        by : (t : Bool) → is_read (is_gone_argument stays) (region args nodes results) ≡ t →
            region_meaning c (region_taking stays (cond t (region (args ++ replicate (length inputs) Value)
            (node_then (node copy op (args_from (length us) inputs) no_regions) (nodes_redirected (copy_used stays copy) nodes)) (map (copy_used stays copy) results))
            (region (args ++ replicate (length inputs) Value) nodes results))) now ≡ region_meaning c (region args nodes results) us
        by true e = read-means args nodes results closed long copy apart v (run e) carries
        by false e = unread-means args nodes results closed long e

    module _ (firsts : List Kind) (ks : List Kind) (long : length us ≡ length firsts) where
      abbrev Fit : RegionTrees → Type 0
      Fit rs = all_regions (λ r. same (args_of r) firsts && are (result_kinds r) ks) rs ≡ true

      first-long : (r : RegionTree) (rs : RegionTrees) → Fit (region_then r rs) → length us ≡ length (args_of r)
      first-long r rs fit =
          let parts = and_parts (same (args_of r) firsts && are (result_kinds r) ks) (all_regions (λ q. same (args_of q) firsts && are (result_kinds q) ks) rs) fit in
          long ∙ sym (ap length (same_kinds (args_of r) firsts (and_parts (same (args_of r) firsts) (are (result_kinds r) ks) parts.0).0))

      rest-fit : (r : RegionTree) (rs : RegionTrees) → Fit (region_then r rs) → Fit rs
      rest-fit r rs fit = (and_parts (same (args_of r) firsts && are (result_kinds r) ks) (all_regions (λ q. same (args_of q) firsts && are (result_kinds q) ks) rs) fit).1

      first-reads : (t s : Bool) → t ≡ true → (t || s) ≡ true
      first-reads true s e = refl
      first-reads false s e = absurd cc

      rest-reads : (t s : Bool) → s ≡ true → (t || s) ≡ true
      rest-reads true s e = refl
      rest-reads false s e = e

      pub chosen-means : (w copy : ℕ) (rs : RegionTrees) → AllClosed rs → Fit rs → ((m : ℕ) → copy ≤ m → IsAmong m (regions_ids rs) → ⊥) → (some_reads stays rs ≡ true → CopyRuns) →
          chosen w (meanings c (regions_pulled stays copy (length us) op inputs rs)) now ≡ chosen w (meanings c rs) us
      chosen-means w copy no_regions closed fit fresh run = refl
      chosen-means w copy (region_then r no_regions) closed fit fresh run =
          one-means copy r closed.0 (first-long r no_regions fit) (λ h. fresh copy (omega arith) (among-left copy (region_ids r) [] h))
          (λ e. run (first-reads (is_read (is_gone_argument stays) r) false e))
      chosen-means zero copy (region_then r (region_then q rs)) closed fit fresh run =
          one-means copy r closed.0 (first-long r (region_then q rs) fit) (λ h. fresh copy (omega arith) (among-left copy (region_ids r) (regions_ids (region_then q rs)) h))
          (λ e. run (first-reads (is_read (is_gone_argument stays) r) (some_reads stays (region_then q rs)) e))
      chosen-means (suc w) copy (region_then r (region_then q rs)) closed fit fresh run =
          chosen-means w (copy + copies_in stays r) (region_then q rs) closed.1 (rest-fit r (region_then q rs) fit)
          (λ m b h. fresh m (omega (arith, b)) (among-right m (region_ids r) (regions_ids (region_then q rs)) h))
          (λ e. run (rest-reads (is_read (is_gone_argument stays) r) (some_reads stays (region_then q rs)) e))

-- ---- the Gamma

-- on its entries that stay and on the inputs
pub gamma-means : (c : Context) (stays : List Bool) (op : Op) (carried : List Origin) (copy id : ℕ) (p : Origin) (entries : List Origin) (rs : RegionTrees) (xs : List Datum) (o : Outputs) (v : Word) →
    ((k : ℕ) → length entries ≤ k → stays_at stays k ≡ true) → (firsts ks : List Kind) → length entries ≡ length firsts → AllClosed rs →
    all_regions (λ r. same (args_of r) firsts && are (result_kinds r) ks) rs ≡ true → ((m : ℕ) → copy ≤ m → IsAmong m (regions_ids rs) → ⊥) →
    ((k : ℕ) → k < length entries → stays_at stays k ≡ false → at_port (map (read xs o) entries) k ≡ val v) →
    (some_reads stays rs ≡ true → act c op [] (map (read xs o) carried) ≡ Returned (val v ∷ []) []) →
    node_run c (node id Gamma (kept (true ∷ stays) ((p ∷ entries) ++ carried)) (regions_taking stays (regions_filled stays copy (length entries) op carried rs))) xs o
    ≡ node_run c (node id Gamma (p ∷ entries) rs) xs o
gamma-means c stays op carried copy id p entries rs xs o v late firsts ks long closed fit fresh carries run =
    (λ i. on_number (value_of (read xs o p)) (λ w. chosen w (meanings c (regions i)) (given i)))
    ∙ ap (on_number (value_of (read xs o p))) (fun_ext (λ w.
    chosen-means c stays op carried us vs many late' v (λ k b. carries k (omega (arith, b, count))) firsts ks (count ∙ long) w copy rs closed fit fresh
    (λ e. ap (act c op []) (reads-from stays no_outputs us vs carried many late') ∙ run e)))
  where
    us : List Datum
    us = map (read xs o) entries

    vs : List Datum
    vs = map (read xs o) carried

    many : length carried ≡ length vs
    many = sym (length-map carried (read xs o))

    count : length us ≡ length entries
    count = length-map entries (read xs o)

    late' : (k : ℕ) → length us ≤ k → stays_at stays k ≡ true
    late' k b = late k (omega (arith, b, count))

    given : map (read xs o) (kept stays (entries ++ carried)) ≡ kept stays (us ++ vs)
    given = kept_map stays (read xs o) (entries ++ carried) ∙ ap (kept stays) (map-append (read xs o) entries carried)

    regions : regions_taking stays (regions_filled stays copy (length entries) op carried rs) ≡ regions_pulled stays copy (length us) op carried rs
    regions = pulled-is stays copy (length entries) op carried rs ∙ ap (λ first. regions_pulled stays copy first op carried rs) (sym count)
