-- An argument of a region goes, and what names a later one follows.
use Rattle.std.proofs.Common.{◌≡◌, ℕ, zero, suc, ◌<◌, Bool, true, false, cond, eqb, Option, Some, None, option_map, List, [], ◌∷◌, length, get_or, set, take, drop, refl, ap, sym, ◌∙◌, subst, length-set, length-append, length-take, length-drop, arith, true≢false}
use Rattle.std.specs.Prelude.{IsSome, is_none, option_and_then, slice_get}
use Rattle.std.specs.List.{remove}
use Rattle.std.proofs.lemmas.Bool.{eqb-true}
use Rattle.std.proofs.lemmas.Option.{same_Some}
use Rattle.g_graph.specs.declared.op.Kind.{Kind}
use Rattle.g_graph.specs.declared.op.Origin.{Origin}
use Rattle.g_graph.specs.declared.op.Origin.TheVariants.{Arg, Out}
use Rattle.g_arena_def.specs.declared.place.Place.{Place}
use Rattle.g_arena_def.specs.Flat.{FlatRegion, FlatNode, Flat}
use Rattle.g_arena_def.specs.Reads.{region_at}
use Rattle.g_arena_def.specs.Edits.{node_with, at_with, region_with, uses_with, argument_less, arguments_follow, argument_removed}
use Rattle.g_arena_use.specs.Lists.{PlainList, PlainUses, origins_at, all_renamed}
use Rattle.g_arena_use.specs.Plain.{PlainSlot, slot_at, live_slot, args_of, results_number, kind_at, argument_gone}
use Rattle.g_arena_use.specs.Seen.{regions_seen, slot_seen, nodes_seen}
use Rattle.g_arena_use.specs.Indexed.{AreIndexed}
use Rattle.g_arena_use.proofs.SeenLemmas.{apart, slot_is}
use Rattle.g_arena_use.proofs.KindLemmas.{region_is, both_of, agree, agrees}
use Rattle.g_arena_use.proofs.EditLemmas.{slot_changes}
use Rattle.g_arena_use.proofs.ReadLemmas.{Shown, inputs_long, sees, slot_there, some_within}
use Rattle.g_arena_use.proofs.ChangeLemmas.{indexed_kept, kept_same}
use Rattle.g_arena_use.proofs.FollowLemmas.{renamed_kept, uses_follow, inputs_shown}
use Rattle.g_arena_use.proofs.SlotChangeLemmas.{Same, HasNoMore, slot_indexed}
use Rattle.g_arena_use.proofs.OutputLemmas.{removed_some}

-- a region loses an argument
abbrev pub argument_edited : ℕ → FlatRegion → FlatRegion
argument_edited k r = record r { args = remove r.args k }

regions_less : (ls : List PlainList) (first r k : ℕ) (kss : List (List Kind)) → regions_seen ls first (set kss r (remove (get_or kss r []) k)) ≡ at_with r (argument_edited k) (regions_seen ls first kss)
regions_less ls first r k [] = refl
regions_less ls first zero k (ks ∷ kss) = refl
regions_less ls first (suc r) k (ks ∷ kss) = ap (λ rs. record { args = ks; results = origins_at ls first } ∷ rs) (regions_less ls (suc first) r k kss)

argument_same : (r k : ℕ) (s : PlainSlot) → Same (argument_gone r k s) s
argument_same r k s = record { id = refl; home = refl; results = refl; regions = length-set s.regions r (remove (get_or s.regions r []) k); gone = refl }

kinds_less : (kss : List (List Kind)) (r k : ℕ) (j q : ℕ) → IsSome (option_and_then (λ (ks : List Kind). slice_get ks q) (slice_get (set kss r (remove (get_or kss r []) k)) j)) → IsSome (option_and_then (λ (ks : List Kind). slice_get ks q) (slice_get kss j))
kinds_less [] r k j q h = h
kinds_less (ks ∷ kss) zero k zero q h = removed_some ks k q h
kinds_less (ks ∷ kss) zero k (suc j) q h = h
kinds_less (ks ∷ kss) (suc r) k zero q h = h
kinds_less (ks ∷ kss) (suc r) k (suc j) q h = kinds_less kss r k j q h

argument_no_more : (r k : ℕ) (s : PlainSlot) → HasNoMore (argument_gone r k s) s
argument_no_more r k s = record { outputs = λ q h. h; args = λ j q h. kinds_less s.regions r k j q h }

body_no_more : (args : List Kind) (k : ℕ) (ss : List PlainSlot) (p : Place) (o : Origin) → IsSome (kind_at (remove args k) p o ss) → IsSome (kind_at args p o ss)
body_no_more args k ss p (Out n q) h = h
body_no_more args k ss p (Arg q) h = by_node p.node p.region h
  where
    by_body : (t : Bool) → IsSome (option_and_then (λ (ks : List Kind). slice_get ks q) (cond t (Some (remove args k)) None)) → IsSome (option_and_then (λ (ks : List Kind). slice_get ks q) (cond t (Some args) None))
    by_body true h = removed_some args k q h
    by_body false h = h

    by_node : (o : Option ℕ) (r : ℕ) → IsSome (option_and_then (λ (ks : List Kind). slice_get ks q) (args_of (remove args k) o r ss)) → IsSome (option_and_then (λ (ks : List Kind). slice_get ks q) (args_of args o r ss))
    by_node None r h = by_body (eqb r 0) h
    by_node (Some n) r h = h

body_less : (args : List Kind) (k : ℕ) (ss : List PlainSlot) (xs ls : PlainUses) → AreIndexed args ss xs ls → AreIndexed (remove args k) ss xs ls
body_less args k ss xs ls a = record {
  once = a.once;
  homes = a.homes;
  inputs = a.inputs;
  results = a.results;
  named_inputs = λ p o h. a.named_inputs p o (body_no_more args k ss p o h);
  named_results = λ p o h. a.named_results p o (body_no_more args k ss p o h);
  short = omega (arith, a.short, length-append (take k args) (drop (suc k) args), length-take k args, length-drop (suc k) args);
  room = a.room;
}

renamed_indexed : (args : List Kind) (ss : List PlainSlot) (xs ls : PlainUses) → AreIndexed args ss xs ls → (p : Place) (f : Origin → Origin)
    → AreIndexed args ss (record xs { lists = all_renamed p f xs.lists }) (record ls { lists = all_renamed p f ls.lists })
renamed_indexed args ss xs ls a p f = indexed_kept args ss xs ls (all_renamed p f xs.lists) (all_renamed p f ls.lists) a (renamed_kept p f xs.lists) (renamed_kept p f ls.lists)

renamed_inputs : (args : List Kind) (ss : List PlainSlot) (xs ls : PlainUses) → AreIndexed args ss xs ls → (p : Place) (f : Origin → Origin)
    → AreIndexed args ss (record xs { lists = all_renamed p f xs.lists }) ls
renamed_inputs args ss xs ls a p f = indexed_kept args ss xs ls (all_renamed p f xs.lists) ls.lists a (renamed_kept p f xs.lists) (kept_same ls.lists)

-- what follows, once the argument went
follows : (args : List Kind) (ss : List PlainSlot) (xs ls : PlainUses) (v : Flat) → Shown args ss xs ls v → (p : Place) (f : Origin → Origin) → (p.node ≡ None → p.region ≡ 0)
    → record v { body = record { args = args; results = origins_at (all_renamed p f ls.lists) 0 }; nodes = nodes_seen (all_renamed p f xs.lists) (all_renamed p f ls.lists) ss } ≡ uses_with p f v
follows args ss xs ls v h p f own = uses_follow args ss xs ls v h p f own (inputs_shown args ss xs ls v h p f (renamed_inputs args ss xs ls h.is p f))

-- arguments that are counted
pub args_there : (u : Option (List Kind)) (n : ℕ) → Some n ≡ option_map (λ (ks : List Kind). length ks) u → (ks : List Kind) × (u ≡ Some ks) × (n ≡ length ks)
args_there None n h = absurd (apart n (sym h))
args_there (Some ks) n h = (ks, refl, same_Some n (length ks) h)

pub no_args : (u : Option (List Kind)) → None ≡ option_map (λ (ks : List Kind). length ks) u → u ≡ None
no_args None h = refl
no_args (Some ks) h = absurd (apart (length ks) h)

there_at : (ks : List Kind) (q : ℕ) → q < length ks → IsSome (slice_get ks q)
there_at [] q lt = absurd (omega arith)
there_at (k ∷ ks) zero lt = refl
there_at (k ∷ ks) (suc q) lt = there_at ks q (omega arith)

pub argument_kind : (args : List Kind) (ss : List PlainSlot) (p : Place) (ks : List Kind) (q : ℕ) → args_of args p.node p.region ss ≡ Some ks → q < length ks → IsSome (kind_at args p (Arg q) ss)
argument_kind args ss p ks q e lt = let P : Option (List Kind) → Type 0 = λ u. IsSome (option_and_then (λ (is : List Kind). slice_get is q) u) in subst P (sym e) (there_at ks q lt)

pub argument_in : (args : List Kind) (ss : List PlainSlot) (p : Place) (ks : List Kind) (q : ℕ) → args_of args p.node p.region ss ≡ Some ks → IsSome (kind_at args p (Arg q) ss) → q < length ks
argument_in args ss p ks q e h = let P : Option (List Kind) → Type 0 = λ u. IsSome (option_and_then (λ (is : List Kind). slice_get is q) u) in some_within ks q (subst P e h)

pub no_argument : (args : List Kind) (ss : List PlainSlot) (p : Place) (q : ℕ) → args_of args p.node p.region ss ≡ None → IsSome (kind_at args p (Arg q) ss) → ⊥
no_argument args ss p q e h = let P : Option (List Kind) → Type 0 = λ u. IsSome (option_and_then (λ (is : List Kind). slice_get is q) u) in true≢false (sym (subst P e h))

pub body_of : (args : List Kind) (ss : List PlainSlot) (r : ℕ) (ks : List Kind) → args_of args None r ss ≡ Some ks → (r ≡ 0) × (ks ≡ args)
body_of args ss r ks e = by (eqb r 0) refl e
  where
    by : (t : Bool) → eqb r 0 ≡ t → cond t (Some args) None ≡ Some ks → (r ≡ 0) × (ks ≡ args)
    by true q e = (eqb-true r 0 q, sym (same_Some args ks e))
    by false q e = absurd (apart ks e)

pub region_of_slot : (args : List Kind) (ss : List PlainSlot) (n r at : ℕ) (ks : List Kind) → Some at ≡ live_slot n ss → args_of args (Some n) r ss ≡ Some ks → slice_get (slot_at ss at).regions r ≡ Some ks
region_of_slot args ss n r at ks l e = ap (option_and_then (λ i. slice_get (slot_at ss i).regions r)) l ∙ e

pub no_slot_args : (args : List Kind) (ss : List PlainSlot) (n r : ℕ) → None ≡ live_slot n ss → args_of args (Some n) r ss ≡ None
no_slot_args args ss n r l = ap (option_and_then (λ i. slice_get (slot_at ss i).regions r)) (sym l)

module _ (args : List Kind) (ss : List PlainSlot) (xs ls : PlainUses) (v : Flat) (h : Shown args ss xs ls v) where
  -- the region is there, with these arguments
  pub region_there : (p : Place) (ks : List Kind) → args_of args p.node p.region ss ≡ Some ks → (r : FlatRegion) × (region_at p v ≡ Some r) × (r.args ≡ ks)
  region_there p ks e = by (results_number p.node p.region ss) (args_of args p.node p.region ss) e (agrees xs.lists ls.lists ss args v (sees args ss xs ls v h) p.node p.region) (region_is xs.lists ls.lists ss args v (sees args ss xs ls v h) p)
    where
      by : (o : Option ℕ) (u : Option (List Kind)) → u ≡ Some ks → agree xs.lists ls.lists ss args v (sees args ss xs ls v h) u o → region_at p v ≡ both_of xs.lists ls.lists ss args v (sees args ss xs ls v h) u o
          → (r : FlatRegion) × (region_at p v ≡ Some r) × (r.args ≡ ks)
      by o None q a f = absurd (apart ks q)
      by None (Some is) q a f = absurd a
      by (Some j) (Some is) q a f = (record { args = is; results = origins_at ls.lists j }, f, same_Some is ks q)

  pub removed_is : (p : Place) (k : ℕ) (ks : List Kind) → args_of args p.node p.region ss ≡ Some ks → uses_with p (argument_less k (length ks)) (region_with p (argument_edited k) v) ≡ argument_removed p k v
  removed_is p k ks e =
      let r = region_there p ks e in
      ap (λ (is : List Kind). uses_with p (argument_less k (length is)) (region_with p (argument_edited k) v)) (sym r.2) ∙ ap (λ o. arguments_follow o p k v) (sym r.1)

  -- an argument of the body
  shown_body : (k r : ℕ) → Shown (remove args k) ss xs ls (region_with (record { node = None; region = r }) (argument_edited k) v)
  shown_body k r = record { is = body_less args k ss xs ls h.is; nodes = h.nodes; body = ap (argument_edited k) h.body }

  pub body_goes : (k : ℕ) (f : Origin → Origin) → record v {
    body = record { args = remove args k; results = origins_at (all_renamed (record { node = None; region = 0 }) f ls.lists) 0 };
    nodes = nodes_seen (all_renamed (record { node = None; region = 0 }) f xs.lists) (all_renamed (record { node = None; region = 0 }) f ls.lists) ss;
  } ≡ uses_with (record { node = None; region = 0 }) f (region_with (record { node = None; region = 0 }) (argument_edited k) v)
  body_goes k f = follows (remove args k) ss xs ls (region_with (record { node = None; region = 0 }) (argument_edited k) v) (shown_body k 0) (record { node = None; region = 0 }) f (λ e. refl)

  pub body_indexed : (k : ℕ) (p : Place) (f : Origin → Origin) → AreIndexed (remove args k) ss (record xs { lists = all_renamed p f xs.lists }) (record ls { lists = all_renamed p f ls.lists })
  body_indexed k p f = renamed_indexed (remove args k) ss xs ls (body_less args k ss xs ls h.is) p f

  -- an argument of a region of a node
  module _ (n r at : ℕ) (live : Some at ≡ live_slot n ss) where
    inside : at < length ss
    inside = (slot_is n ss at (sym live)).inside

    less : (k : ℕ) → AreIndexed args (set ss at (argument_gone r k (slot_at ss at))) xs ls
    less k = slot_indexed args ss xs ls at (argument_gone r k (slot_at ss at)) (slot_at ss at) h.is (slot_there ss at inside) (argument_same r k (slot_at ss at)) (argument_no_more r k (slot_at ss at))

    shown_node : (k : ℕ) → Shown args (set ss at (argument_gone r k (slot_at ss at))) xs ls (region_with (record { node = Some n; region = r }) (argument_edited k) v)
    shown_node k = record {
      is = less k;
      nodes =
          ap (node_with n (λ (x : FlatNode). record x { regions = at_with r (argument_edited k) x.regions })) h.nodes
          ∙ sym (slot_changes (λ (x : FlatNode). record x { regions = at_with r (argument_edited k) x.regions }) xs.lists ls.lists ss n at (argument_gone r k (slot_at ss at)) (inputs_long args ss xs ls v h) (sym live)
          (ap is_none (slot_is n ss at (sym live)).live)
          (λ os i. record (slot_seen os ls.lists (slot_at ss at)) { regions = regions_less ls.lists (slot_at ss at).results r k (slot_at ss at).regions i }));
      body = h.body;
    }

    pub node_goes : (k : ℕ) (f : Origin → Origin) → record v {
      body = record { args = args; results = origins_at (all_renamed (record { node = Some n; region = r }) f ls.lists) 0 };
      nodes = nodes_seen (all_renamed (record { node = Some n; region = r }) f xs.lists) (all_renamed (record { node = Some n; region = r }) f ls.lists) (set ss at (argument_gone r k (slot_at ss at)));
    } ≡ uses_with (record { node = Some n; region = r }) f (region_with (record { node = Some n; region = r }) (argument_edited k) v)
    node_goes k f =
        follows args (set ss at (argument_gone r k (slot_at ss at))) xs ls (region_with (record { node = Some n; region = r }) (argument_edited k) v) (shown_node k) (record { node = Some n; region = r }) f (λ e. absurd (apart n (sym e)))

    pub node_indexed : (k : ℕ) (p : Place) (f : Origin → Origin)
        → AreIndexed args (set ss at (argument_gone r k (slot_at ss at))) (record xs { lists = all_renamed p f xs.lists }) (record ls { lists = all_renamed p f ls.lists })
    node_indexed k p f = renamed_indexed args (set ss at (argument_gone r k (slot_at ss at))) xs ls (less k) p f
