-- Changes of one list as changes of the nodes that are seen, and what stays indexed.
use Rattle.std.proofs.Common.{◌≡◌, ℕ, zero, suc, ◌+◌, ◌<◌, Bool, true, false, ◌&&◌, ◌||◌, cond, eqb, ltb, Option, Some, None, option_map, List, [], ◌∷◌, length, refl, ap, sym, ◌∙◌, subst, arith, true≢false}
use Rattle.std.specs.Prelude.{option_and_then, slice_get}
use Rattle.std.specs.List.{remove}
use Rattle.std.proofs.lemmas.Bool.{ltb-true}
use Rattle.std.proofs.lemmas.List.{length-map}
use Rattle.std.proofs.lemmas.Option.{same_Some}
use Rattle.g_graph.specs.declared.op.Kind.{Kind}
use Rattle.g_graph.specs.declared.op.Origin.{Origin}
use Rattle.g_graph.specs.Scope.{same_origin}
use Rattle.g_graph.specs.WellFormed.{some_of}
use Rattle.g_arena_def.specs.declared.place.Place.{Place}
use Rattle.g_arena_def.specs.Flat.{FlatNode, Flat, body_place, place_in, same_place}
use Rattle.g_arena_def.specs.Reads.{found, region_at, times, input_uses, result_uses}
use Rattle.g_arena_def.specs.Edits.{at_with, changed_in, region_with, first_with, uses_at, input_changed}
use Rattle.g_arena_use.specs.declared.use_index.Use.{Use}
use Rattle.g_arena_use.specs.Lists.{PlainList, PlainUses, origins_at, use_in, has_use, use_moved}
use Rattle.g_arena_use.specs.Plain.{PlainSlot, is_live, slot_at, live_slot, number_in, results_number, args_of}
use Rattle.g_arena_use.specs.Seen.{homes_of, slot_seen, nodes_seen}
use Rattle.g_arena_use.specs.Indexed.{AreInputs, AreResults, AreIndexed}
use Rattle.g_arena_use.proofs.SeenLemmas.{apart, picks, skips, seen_at, slot_is}
use Rattle.g_arena_use.proofs.KindLemmas.{node_is, region_is, both_of}
use Rattle.g_arena_use.proofs.UseLemmas.{later_inputs, same_head, nil_cons, same_place_sym}
use Rattle.g_arena_use.proofs.EditLemmas.{list_edited}
use Rattle.g_arena_use.proofs.ResultLemmas.{IsOnly, moved_one, origins_same, origins_edited, results_edited, results_outside, results_inside}
use Rattle.g_arena_use.proofs.ReadLemmas.{Shown, inputs_long, sees, placed, slot_there, home_at}

-- ---- what stays indexed

-- the lists keep their places, and what was empty is so
pub record AreKept (ls ls' : List PlainList) : Type 0 where
  pub homes : homes_of ls' ≡ homes_of ls
  pub empty : (k : ℕ) → origins_at ls k ≡ [] → origins_at ls' k ≡ []

pub kept_same : (ls : List PlainList) → AreKept ls ls
kept_same ls = record { homes = refl; empty = λ k e. e }

kept_long : (ls ls' : List PlainList) → AreKept ls ls' → length ls' ≡ length ls
kept_long ls ls' k = sym (length-map ls' (λ (l : PlainList). l.home)) ∙ ap length k.homes ∙ length-map ls (λ (l : PlainList). l.home)

inputs_kept : (xs xs' : List PlainList) (ss : List PlainSlot) → AreInputs xs ss → AreKept xs xs' → AreInputs xs' ss
inputs_kept xs xs' ss a k = record { homes = k.homes ∙ a.homes; left = λ i r e. k.empty i (a.left i r e) }

results_kept : (ls ls' : List PlainList) (ss : List PlainSlot) → AreResults ls ss → AreKept ls ls' → AreResults ls' ss
results_kept ls ls' ss a k = record {
  body = ap (λ ps. slice_get ps 0) k.homes ∙ a.body;
  slots = λ i n s e lt. ap (λ ps. slice_get ps (s.results + n)) k.homes ∙ a.slots i n s e lt;
  only = λ n lt. a.only n (omega (arith, lt, kept_long ls ls' k));
  apart = λ i n p e f. a.apart i n p (ap (λ ps. slice_get ps i) (sym k.homes) ∙ e) (ap (λ ps. slice_get ps n) (sym k.homes) ∙ f);
  left = λ i n r s e g lt. k.empty (s.results + n) (a.left i n r s e g lt);
}

pub indexed_kept : (args : List Kind) (ss : List PlainSlot) (xs ls : PlainUses) (us ts : List PlainList) → AreIndexed args ss xs ls → AreKept xs.lists us → AreKept ls.lists ts
    → AreIndexed args ss (record xs { lists = us }) (record ls { lists = ts })
indexed_kept args ss xs ls us ts a k q = record {
  once = a.once;
  homes = a.homes;
  inputs = inputs_kept xs.lists us ss a.inputs k;
  results = results_kept ls.lists ts ss a.results q;
  named_inputs = a.named_inputs;
  named_results = a.named_results;
  short = a.short;
  room = a.room;
}

edited_homes : (g : List Origin → List Origin) (j : ℕ) (ls : List PlainList) → homes_of (at_with j (list_edited g) ls) ≡ homes_of ls
edited_homes g j [] = refl
edited_homes g zero (l ∷ ls) = refl
edited_homes g (suc j) (l ∷ ls) = ap (λ ps. l.home ∷ ps) (edited_homes g j ls)

edited_empty : (g : List Origin → List Origin) (j : ℕ) (ls : List PlainList) → g [] ≡ [] → (k : ℕ) → origins_at ls k ≡ [] → origins_at (at_with j (list_edited g) ls) k ≡ []
edited_empty g j [] n k e = refl
edited_empty g zero (l ∷ ls) n zero e = ap g e ∙ n
edited_empty g zero (l ∷ ls) n (suc k) e = e
edited_empty g (suc j) (l ∷ ls) n zero e = e
edited_empty g (suc j) (l ∷ ls) n (suc k) e = edited_empty g j ls n k e

pub edited_kept : (g : List Origin → List Origin) (j : ℕ) (ls : List PlainList) → g [] ≡ [] → AreKept ls (at_with j (list_edited g) ls)
edited_kept g j ls n = record { homes = edited_homes g j ls; empty = edited_empty g j ls n }

moved_homes : (u : Use) (to : Origin) (ls : List PlainList) → homes_of (use_moved u to ls) ≡ homes_of ls
moved_homes u to [] = refl
moved_homes u to (l ∷ ls) = by (has_use u l) (moved_homes u to ls)
  where
    by : (t : Bool) → homes_of (use_moved u to ls) ≡ homes_of ls → homes_of (cond t (record l { origins = first_with u.of to l.origins } ∷ ls) (l ∷ use_moved u to ls)) ≡ l.home ∷ homes_of ls
    by true r = refl
    by false r = ap (λ ps. l.home ∷ ps) r

moved_empty : (u : Use) (to : Origin) (ls : List PlainList) (k : ℕ) → origins_at ls k ≡ [] → origins_at (use_moved u to ls) k ≡ []
moved_empty u to [] k e = refl
moved_empty u to (l ∷ ls) k e = by (has_use u l) k e (λ i f. moved_empty u to ls i f)
  where
    by : (t : Bool) (k : ℕ) → origins_at (l ∷ ls) k ≡ [] → ((i : ℕ) → origins_at ls i ≡ [] → origins_at (use_moved u to ls) i ≡ [])
        → origins_at (cond t (record l { origins = first_with u.of to l.origins } ∷ ls) (l ∷ use_moved u to ls)) k ≡ []
    by true zero e go = ap (first_with u.of to) e
    by true (suc k) e go = e
    by false zero e go = e
    by false (suc k) e go = go k e

pub moved_kept : (u : Use) (to : Origin) (ls : List PlainList) → AreKept ls (use_moved u to ls)
moved_kept u to ls = record { homes = moved_homes u to ls; empty = moved_empty u to ls }

pub remove_nil : (k : ℕ) → remove {X = Origin} [] k ≡ []
remove_nil zero = refl
remove_nil (suc k) = refl

-- ---- the first use of an origin as an input

pub inputs_move : (p : Place) (from to : Origin) (xs ls : List PlainList) (ss : List PlainSlot) → AreInputs xs ss
    → nodes_seen (use_moved (use_in p from) to xs) ls ss ≡ input_changed p from to (nodes_seen xs ls ss)
inputs_move p from to [] ls [] a = refl
inputs_move p from to (x ∷ xs) ls [] a = absurd (nil_cons _ _ (sym a.homes))
inputs_move p from to [] ls (s ∷ ss) a = absurd (nil_cons _ _ a.homes)
inputs_move p from to (x ∷ xs) ls (s ∷ ss) a = by_gone s.gone refl (inputs_move p from to xs ls ss (later_inputs x xs s ss a))
  where
    test : has_use (use_in p from) x ≡ uses_at p from (slot_seen x.origins ls s)
    test = ap (λ b. b && some_of (same_origin from) x.origins) (ap (same_place p) (same_head _ _ _ _ a.homes).0 ∙ same_place_sym p s.home)

    by_use : (t : Bool) → has_use (use_in p from) x ≡ t → is_live s ≡ true → nodes_seen (use_moved (use_in p from) to xs) ls ss ≡ input_changed p from to (nodes_seen xs ls ss)
        → nodes_seen (cond t (record x { origins = first_with from to x.origins } ∷ xs) (x ∷ use_moved (use_in p from) to xs)) ls (s ∷ ss) ≡ input_changed p from to (nodes_seen (x ∷ xs) ls (s ∷ ss))
    by_use true e l r =
        picks (is_live s) (slot_seen (first_with from to x.origins) ls s ∷ nodes_seen xs ls ss) (nodes_seen xs ls ss) l
        ∙ sym (picks (uses_at p from (slot_seen x.origins ls s)) (slot_seen (first_with from to x.origins) ls s ∷ nodes_seen xs ls ss) (slot_seen x.origins ls s ∷ input_changed p from to (nodes_seen xs ls ss)) (sym test ∙ e))
        ∙ ap (input_changed p from to) (sym (picks (is_live s) (slot_seen x.origins ls s ∷ nodes_seen xs ls ss) (nodes_seen xs ls ss) l))
    by_use false e l r =
        picks (is_live s) (slot_seen x.origins ls s ∷ nodes_seen (use_moved (use_in p from) to xs) ls ss) (nodes_seen (use_moved (use_in p from) to xs) ls ss) l
        ∙ ap (λ ns. slot_seen x.origins ls s ∷ ns) r
        ∙ sym (skips (uses_at p from (slot_seen x.origins ls s)) (slot_seen (first_with from to x.origins) ls s ∷ nodes_seen xs ls ss) (slot_seen x.origins ls s ∷ input_changed p from to (nodes_seen xs ls ss)) (sym test ∙ e))
        ∙ ap (input_changed p from to) (sym (picks (is_live s) (slot_seen x.origins ls s ∷ nodes_seen xs ls ss) (nodes_seen xs ls ss) l))

    live : (o : Option ℕ) → s.gone ≡ o → o ≡ None → is_live s ≡ true
    live o e n = ap (λ (g : Option ℕ). is_live (record s { gone = g })) (e ∙ n)

    gone : (r : ℕ) → s.gone ≡ Some r → is_live s ≡ false
    gone r e = ap (λ (g : Option ℕ). is_live (record s { gone = g })) e

    unused : (r : ℕ) → s.gone ≡ Some r → has_use (use_in p from) x ≡ false
    unused r e = ap (λ os. same_place p x.home && some_of (same_origin from) os) (a.left 0 r e) ∙ none (same_place p x.home)
      where
        none : (b : Bool) → (b && false) ≡ false
        none true = refl
        none false = refl

    by_gone : (o : Option ℕ) → s.gone ≡ o → nodes_seen (use_moved (use_in p from) to xs) ls ss ≡ input_changed p from to (nodes_seen xs ls ss)
        → nodes_seen (use_moved (use_in p from) to (x ∷ xs)) ls (s ∷ ss) ≡ input_changed p from to (nodes_seen (x ∷ xs) ls (s ∷ ss))
    by_gone None e r = by_use (has_use (use_in p from) x) refl (live None e refl) r
    by_gone (Some k) e r =
        ap (λ b. nodes_seen (cond b (record x { origins = first_with from to x.origins } ∷ xs) (x ∷ use_moved (use_in p from) to xs)) ls (s ∷ ss)) (unused k e)
        ∙ skips (is_live s) (slot_seen x.origins ls s ∷ nodes_seen (use_moved (use_in p from) to xs) ls ss) (nodes_seen (use_moved (use_in p from) to xs) ls ss) (gone k e)
        ∙ r ∙ ap (input_changed p from to) (sym (skips (is_live s) (slot_seen x.origins ls s ∷ nodes_seen xs ls ss) (nodes_seen xs ls ss) (gone k e)))

-- an origin is an input where it is used as one
times_some : (o : Origin) (xs : List Origin) → 0 < times o xs → some_of (same_origin o) xs ≡ true
times_some o [] lt = absurd (omega arith)
times_some o (x ∷ xs) lt = by (same_origin o x) (times_some o xs) lt
  where
    by : (t : Bool) → (0 < times o xs → some_of (same_origin o) xs ≡ true) → 0 < cond t 1 0 + times o xs → (t || some_of (same_origin o) xs) ≡ true
    by true go lt = refl
    by false go lt = go (omega (arith, lt))

times_none : (o : Origin) (xs : List Origin) → times o xs ≡ 0 → some_of (same_origin o) xs ≡ false
times_none o [] e = refl
times_none o (x ∷ xs) e = by (same_origin o x) (times_none o xs) e
  where
    by : (t : Bool) → (times o xs ≡ 0 → some_of (same_origin o) xs ≡ false) → cond t 1 0 + times o xs ≡ 0 → (t || some_of (same_origin o) xs) ≡ false
    by true go e = absurd (omega (arith, e))
    by false go e = go (omega (arith, e))

pub inputs_some : (p : Place) (o : Origin) (ns : List FlatNode) → 0 < input_uses p o ns → some_of (uses_at p o) ns ≡ true
inputs_some p o [] lt = absurd (omega arith)
inputs_some p o (x ∷ ns) lt = by (same_place x.home p) (some_of (same_origin o) x.inputs) (times_some o x.inputs) (times_none o x.inputs) (inputs_some p o ns) lt
  where
    by : (b t : Bool) → (0 < times o x.inputs → t ≡ true) → (times o x.inputs ≡ 0 → t ≡ false) → (0 < input_uses p o ns → some_of (uses_at p o) ns ≡ true) → 0 < cond b (times o x.inputs) 0 + input_uses p o ns
        → ((b && t) || some_of (uses_at p o) ns) ≡ true
    by true true f g go lt = refl
    by true false f g go lt = by_none (times o x.inputs) refl
      where
        by_none : (n : ℕ) → times o x.inputs ≡ n → some_of (uses_at p o) ns ≡ true
        by_none zero e = go (omega (arith, lt, e))
        by_none (suc n) e = absurd (true≢false (sym (f (omega (arith, e)))))
    by false t f g go lt = go (omega (arith, lt))

pub inputs_none : (p : Place) (o : Origin) (ns : List FlatNode) → input_uses p o ns ≡ 0 → some_of (uses_at p o) ns ≡ false
inputs_none p o [] e = refl
inputs_none p o (x ∷ ns) e = by (same_place x.home p) (inputs_none p o ns) e
  where
    by : (b : Bool) → (input_uses p o ns ≡ 0 → some_of (uses_at p o) ns ≡ false) → cond b (times o x.inputs) 0 + input_uses p o ns ≡ 0 → ((b && some_of (same_origin o) x.inputs) || some_of (uses_at p o) ns) ≡ false
    by true go e = ap (λ t. t || some_of (uses_at p o) ns) (times_none o x.inputs (omega (arith, e))) ∙ go (omega (arith, e))
    by false go e = go (omega (arith, e))

-- ---- the results of a region

module _ (args : List Kind) (ss : List PlainSlot) (xs ls : PlainUses) (v : Flat) (h : Shown args ss xs ls v) where
  pub only_at : (p : Place) (j : ℕ) → Some j ≡ results_number p.node p.region ss → IsOnly p j ls.lists
  only_at p j e = record { there = placed args ss xs ls v h p j e; alone = λ k q. h.is.results.apart k j p q (placed args ss xs ls v h p j e) }

  -- a node's input
  pub input_there : (n at k : ℕ) (x : FlatNode) → Some at ≡ live_slot n ss → found n v.nodes ≡ Some x → k < length x.inputs → k < length (origins_at xs.lists at)
  input_there n at k x e f lt =
      let q : x ≡ seen_at xs.lists ls.lists ss at = same_Some x (seen_at xs.lists ls.lists ss at) (sym f ∙ node_is xs.lists ls.lists ss args v (sees args ss xs ls v h) n ∙ ap (option_map (seen_at xs.lists ls.lists ss)) (sym e)) in
      omega (arith, lt, ap (λ (y : FlatNode). length y.inputs) q)

  pub no_node : (n : ℕ) (x : FlatNode) → None ≡ live_slot n ss → found n v.nodes ≡ Some x → ⊥
  no_node n x e f = apart x (ap (option_map (seen_at xs.lists ls.lists ss)) e ∙ sym (node_is xs.lists ls.lists ss args v (sees args ss xs ls v h) n) ∙ f)

  module _ (g : List Origin → List Origin) where
    in_body : nodes_seen xs.lists (at_with 0 (list_edited g) ls.lists) ss ≡ nodes_seen xs.lists ls.lists ss
    in_body =
        results_outside g 0 xs.lists ls.lists ss
        (λ i r s e lt z. other s.id r (sym (h.is.results.slots i r s e lt) ∙ ap (slice_get (homes_of ls.lists)) z ∙ h.is.results.body))
      where
        other : (n r : ℕ) → Some (place_in n r) ≡ Some body_place → ⊥
        other n r e = apart n (sym (ap (λ (p : Place). p.node) (same_Some (place_in n r) body_place e)))

    body_changes : (r : ℕ) → record v { body = record { args = args; results = origins_at (at_with 0 (list_edited g) ls.lists) 0 }; nodes = nodes_seen xs.lists (at_with 0 (list_edited g) ls.lists) ss }
        ≡ region_with (record { node = None; region = r }) (results_edited g) v
    body_changes r =
        let fits : 0 < length ls.lists = home_at ls.lists 0 body_place h.is.results.body in
        let b : record { args = args; results = origins_at (at_with 0 (list_edited g) ls.lists) 0 } ≡ results_edited g v.body =
        ap (λ os. record { args = args; results = os }) (origins_edited g 0 ls.lists fits) ∙ ap (results_edited g) (sym h.body) in
        let n : nodes_seen xs.lists (at_with 0 (list_edited g) ls.lists) ss ≡ v.nodes = in_body ∙ sym h.nodes in
        λ i. record v { body = b i; nodes = n i }

    node_changes : (n r i j : ℕ) → live_slot n ss ≡ Some i → r < length (slot_at ss i).regions → j ≡ (slot_at ss i).results + r
        → record v { body = record { args = args; results = origins_at (at_with j (list_edited g) ls.lists) 0 }; nodes = nodes_seen xs.lists (at_with j (list_edited g) ls.lists) ss }
        ≡ region_with (record { node = Some n; region = r }) (results_edited g) v
    node_changes n r i j l lt own =
        let s = slot_is n ss i l in
        let there : slice_get (homes_of ls.lists) j ≡ Some (place_in n r) =
        ap (slice_get (homes_of ls.lists)) own ∙ h.is.results.slots i r (slot_at ss i) (slot_there ss i s.inside) lt ∙ ap (λ m. Some (place_in m r)) s.own in
        let other : j ≡ 0 → ⊥ = λ z. apart n (ap (λ (p : Place). p.node) (same_Some body_place (place_in n r) (sym h.is.results.body ∙ ap (slice_get (homes_of ls.lists)) (sym z) ∙ there))) in
        let only : (k q : ℕ) (t : PlainSlot) → slice_get ss k ≡ Some t → q < length t.regions → t.results + q ≡ j → t.id ≡ n =
        λ k q t e few z.
        same_Some t.id n (ap (λ (p : Place). p.node) (same_Some (place_in t.id q) (place_in n r) (sym (h.is.results.slots k q t e few) ∙ ap (slice_get (homes_of ls.lists)) z ∙ there))) in
        let ns = results_inside g j n i r xs.lists ls.lists ss (inputs_long args ss xs ls v h) h.is.once l (sym own) lt (home_at ls.lists j (place_in n r) there) only in
        let b : record { args = args; results = origins_at (at_with j (list_edited g) ls.lists) 0 } ≡ v.body = ap (λ os. record { args = args; results = os }) (origins_same g j 0 ls.lists other) ∙ sym h.body in
        let m = ns ∙ ap (λ ys. (changed_in (Some n) r (results_edited g) (record v { nodes = ys })).nodes) (sym h.nodes) in
        λ k. record v { body = b k; nodes = m k }

    abbrev Changes : ℕ → Option ℕ → ℕ → Type 0
    Changes j o r = record v { body = record { args = args; results = origins_at (at_with j (list_edited g) ls.lists) 0 }; nodes = nodes_seen xs.lists (at_with j (list_edited g) ls.lists) ss } ≡ region_with (record { node = o; region = r }) (results_edited g) v

    pub results_change : (p : Place) (j : ℕ) → Some j ≡ results_number p.node p.region ss
        → record v { body = record { args = args; results = origins_at (at_with j (list_edited g) ls.lists) 0 }; nodes = nodes_seen xs.lists (at_with j (list_edited g) ls.lists) ss } ≡ region_with p (results_edited g) v
    results_change p j e = by_node p.node p.region e
      where
        by_body : (r : ℕ) (t : Bool) → Some j ≡ cond t (Some 0) None → Changes j None r
        by_body r true e = let P : ℕ → Type 0 = λ k. Changes k None r in subst P (sym (same_Some j 0 e)) (body_changes r)
        by_body r false e = absurd (apart j (sym e))

        by_index : (n r i : ℕ) → live_slot n ss ≡ Some i → (t : Bool) → ltb r (length (slot_at ss i).regions) ≡ t → Some j ≡ cond t (Some ((slot_at ss i).results + r)) None → Changes j (Some n) r
        by_index n r i l true q e = node_changes n r i j l (ltb-true r (length (slot_at ss i).regions) q) (same_Some j ((slot_at ss i).results + r) e)
        by_index n r i l false q e = absurd (apart j (sym e))

        by_slot : (n r : ℕ) (o : Option ℕ) → live_slot n ss ≡ o → Some j ≡ option_and_then (λ i. number_in (slot_at ss i) r) o → Changes j (Some n) r
        by_slot n r None l e = absurd (apart j (sym e))
        by_slot n r (Some i) l e = by_index n r i l (ltb r (length (slot_at ss i).regions)) refl e

        by_node : (o : Option ℕ) (r : ℕ) → Some j ≡ results_number o r ss → Changes j o r
        by_node None r e = by_body r (eqb r 0) e
        by_node (Some n) r e = by_slot n r (live_slot n ss) refl e

  -- the first use of an origin as a result, where it is one
  pub results_move : (p : Place) (from to : Origin) → 0 < result_uses from (region_at p v)
      → record v { body = record { args = args; results = origins_at (use_moved (use_in p from) to ls.lists) 0 }; nodes = nodes_seen xs.lists (use_moved (use_in p from) to ls.lists) ss }
      ≡ region_with p (results_edited (first_with from to)) v
  results_move p from to lt = by (results_number p.node p.region ss) refl
    where
      none : results_number p.node p.region ss ≡ None → ⊥
      none e =
          let z : result_uses from (region_at p v) ≡ 0 = ap (result_uses from) (region_is xs.lists ls.lists ss args v (sees args ss xs ls v h) p) ∙ by_args (args_of args p.node p.region ss) (results_number p.node p.region ss) e in
          omega (arith, z, lt)
        where
          by_args : (u : Option (List Kind)) (o : Option ℕ) → o ≡ None → result_uses from (both_of xs.lists ls.lists ss args v (sees args ss xs ls v h) u o) ≡ 0
          by_args None o q = refl
          by_args (Some ks) None q = refl
          by_args (Some ks) (Some j) q = absurd (apart j (sym q))

      by : (o : Option ℕ) → results_number p.node p.region ss ≡ o
          → record v { body = record { args = args; results = origins_at (use_moved (use_in p from) to ls.lists) 0 }; nodes = nodes_seen xs.lists (use_moved (use_in p from) to ls.lists) ss }
          ≡ region_with p (results_edited (first_with from to)) v
      by None e = absurd (none e)
      by (Some j) e =
          ap (λ ts. record v { body = record { args = args; results = origins_at ts 0 }; nodes = nodes_seen xs.lists ts ss }) (moved_one (use_in p from) to j ls.lists (only_at p j (sym e)))
          ∙ results_change (first_with from to) p j (sym e)
