-- An output of a node goes, and what names a later one follows.
use Rattle.std.proofs.Common.{◌≡◌, ℕ, zero, suc, ◌<◌, Bool, cond, Option, Some, None, option_map, List, [], ◌∷◌, length, set, take, drop, refl, ap, sym, ◌∙◌, subst, length-append, length-take, length-drop, arith, true≢false}
use Rattle.std.specs.Prelude.{IsSome, is_none, option_and_then, slice_get}
use Rattle.std.specs.List.{remove}
use Rattle.std.proofs.lemmas.Option.{same_Some}
use Rattle.g_graph.specs.declared.op.Kind.{Kind}
use Rattle.g_graph.specs.declared.op.Origin.{Origin}
use Rattle.g_graph.specs.declared.op.Origin.TheVariants.{Out}
use Rattle.g_arena_def.specs.declared.place.Place.{Place}
use Rattle.g_arena_def.specs.Flat.{FlatNode, Flat}
use Rattle.g_arena_def.specs.Reads.{found}
use Rattle.g_arena_def.specs.Edits.{node_with, uses_with, output_less, outputs_follow, output_removed}
use Rattle.g_arena_use.specs.Lists.{PlainUses, origins_at, all_renamed}
use Rattle.g_arena_use.specs.Plain.{PlainSlot, slot_at, live_slot, output_in, kind_at, output_gone}
use Rattle.g_arena_use.specs.Seen.{nodes_seen}
use Rattle.g_arena_use.specs.Indexed.{AreIndexed}
use Rattle.g_arena_use.proofs.SeenLemmas.{seen_at, slot_is}
use Rattle.g_arena_use.proofs.KindLemmas.{node_is}
use Rattle.g_arena_use.proofs.ResultLemmas.{place_self}
use Rattle.g_arena_use.proofs.EditLemmas.{slot_changes}
use Rattle.g_arena_use.proofs.ReadLemmas.{Shown, inputs_long, sees, slot_there}
use Rattle.g_arena_use.proofs.ChangeLemmas.{indexed_kept}
use Rattle.g_arena_use.proofs.FollowLemmas.{renamed_kept, uses_follow, inputs_shown}
use Rattle.g_arena_use.proofs.SlotChangeLemmas.{Same, HasNoMore, slot_indexed}

some_there : {A : Type 0} (xs : List A) (k : ℕ) → k < length xs → IsSome (slice_get xs k)
some_there [] k lt = absurd (omega arith)
some_there (x ∷ xs) zero lt = refl
some_there (x ∷ xs) (suc k) lt = some_there xs k (omega arith)

there_some : {A : Type 0} (xs : List A) (k : ℕ) → IsSome (slice_get xs k) → k < length xs
there_some [] k h = absurd (true≢false (sym h))
there_some (x ∷ xs) zero h = omega arith
there_some (x ∷ xs) (suc k) h = omega (arith, there_some xs k h)

pub removed_some : {A : Type 0} (xs : List A) (k q : ℕ) → IsSome (slice_get (remove xs k) q) → IsSome (slice_get xs q)
removed_some xs k q h = some_there xs q (omega (arith, there_some (remove xs k) q h, length-append (take k xs) (drop (suc k) xs), length-take k xs, length-drop (suc k) xs))

output_same : (k : ℕ) (s : PlainSlot) → Same (output_gone k s) s
output_same k s = record { id = refl; home = refl; results = refl; regions = refl; gone = refl }

output_no_more : (k : ℕ) (s : PlainSlot) → HasNoMore (output_gone k s) s
output_no_more k s = record { outputs = λ q h. removed_some s.outputs k q h; args = λ r q h. h }

module _ (args : List Kind) (ss : List PlainSlot) (xs ls : PlainUses) (v : Flat) (h : Shown args ss xs ls v) (n at : ℕ) (live : Some at ≡ live_slot n ss) where
  inside : at < length ss
  inside = (slot_is n ss at (sym live)).inside

  pub kind_there : (q : ℕ) → q < length (slot_at ss at).outputs → IsSome (kind_at args (slot_at ss at).home (Out n q) ss)
  kind_there q lt =
      let P : Option ℕ → Type 0 = λ o. IsSome (option_and_then (λ i. output_in (slot_at ss at).home q (slot_at ss i)) o) in
      let Q : Bool → Type 0 = λ b. IsSome (cond b (slice_get (slot_at ss at).outputs q) None) in
      subst P live (subst Q (sym (place_self (slot_at ss at).home)) (some_there (slot_at ss at).outputs q lt))

  pub port_there : (k : ℕ) (x : FlatNode) → found n v.nodes ≡ Some x → k < length x.outputs → k < length (slot_at ss at).outputs
  port_there k x f lt =
      let q : x ≡ seen_at xs.lists ls.lists ss at = same_Some x (seen_at xs.lists ls.lists ss at) (sym f ∙ node_is xs.lists ls.lists ss args v (sees args ss xs ls v h) n ∙ ap (option_map (seen_at xs.lists ls.lists ss)) (sym live)) in
      omega (arith, lt, ap (λ (y : FlatNode). length y.outputs) q)

  module _ (k : ℕ) (f : Origin → Origin) where
    pub output_indexed : AreIndexed args (set ss at (output_gone k (slot_at ss at))) (record xs { lists = all_renamed (slot_at ss at).home f xs.lists }) (record ls { lists = all_renamed (slot_at ss at).home f ls.lists })
    output_indexed =
        let p : Place = (slot_at ss at).home in
        slot_indexed args ss (record xs { lists = all_renamed p f xs.lists }) (record ls { lists = all_renamed p f ls.lists }) at (output_gone k (slot_at ss at)) (slot_at ss at)
        (indexed_kept args ss xs ls (all_renamed p f xs.lists) (all_renamed p f ls.lists) h.is (renamed_kept p f xs.lists) (renamed_kept p f ls.lists))
        (slot_there ss at inside) (output_same k (slot_at ss at)) (output_no_more k (slot_at ss at))

    less : AreIndexed args (set ss at (output_gone k (slot_at ss at))) xs ls
    less = slot_indexed args ss xs ls at (output_gone k (slot_at ss at)) (slot_at ss at) h.is (slot_there ss at inside) (output_same k (slot_at ss at)) (output_no_more k (slot_at ss at))

    less_renamed : AreIndexed args (set ss at (output_gone k (slot_at ss at))) (record xs { lists = all_renamed (slot_at ss at).home f xs.lists }) ls
    less_renamed =
        let p : Place = (slot_at ss at).home in
        slot_indexed args ss (record xs { lists = all_renamed p f xs.lists }) ls at (output_gone k (slot_at ss at)) (slot_at ss at)
        (indexed_kept args ss xs ls (all_renamed p f xs.lists) ls.lists h.is (renamed_kept p f xs.lists) (record { homes = refl; empty = λ i e. e }))
        (slot_there ss at inside) (output_same k (slot_at ss at)) (output_no_more k (slot_at ss at))

    -- the nodes without the output
    abbrev without_output : FlatNode → FlatNode
    without_output x = record x { outputs = remove x.outputs k }

    shown_less : Shown args (set ss at (output_gone k (slot_at ss at))) xs ls (record v { nodes = node_with n without_output v.nodes })
    shown_less = record {
      is = less;
      nodes =
          ap (node_with n without_output) h.nodes
          ∙ sym (slot_changes without_output xs.lists ls.lists ss n at (output_gone k (slot_at ss at)) (inputs_long args ss xs ls v h) (sym live) (ap is_none (slot_is n ss at (sym live)).live) (λ os. refl));
      body = h.body;
    }

    pub output_follows : record v {
      body = record { args = args; results = origins_at (all_renamed (slot_at ss at).home f ls.lists) 0 };
      nodes = nodes_seen (all_renamed (slot_at ss at).home f xs.lists) (all_renamed (slot_at ss at).home f ls.lists) (set ss at (output_gone k (slot_at ss at)));
    } ≡ uses_with (slot_at ss at).home f (record v { nodes = node_with n without_output v.nodes })
    output_follows =
        let p : Place = (slot_at ss at).home in
        uses_follow args (set ss at (output_gone k (slot_at ss at))) xs ls (record v { nodes = node_with n without_output v.nodes }) shown_less p f
        (h.is.homes at (slot_at ss at) (slot_there ss at inside))
        (inputs_shown args (set ss at (output_gone k (slot_at ss at))) xs ls (record v { nodes = node_with n without_output v.nodes }) shown_less p f less_renamed)

  pub output_goes : (k : ℕ) → record v {
    body = record { args = args; results = origins_at (all_renamed (slot_at ss at).home (output_less n k (length (slot_at ss at).outputs)) ls.lists) 0 };
    nodes = nodes_seen (all_renamed (slot_at ss at).home (output_less n k (length (slot_at ss at).outputs)) xs.lists) (all_renamed (slot_at ss at).home (output_less n k (length (slot_at ss at).outputs)) ls.lists) (set ss at (output_gone k (slot_at ss at)));
  } ≡ output_removed n k v
  output_goes k =
      let own : (slot_at ss at).id ≡ n = (slot_is n ss at (sym live)).own in
      let there : found n v.nodes ≡ Some (seen_at xs.lists ls.lists ss at) = node_is xs.lists ls.lists ss args v (sees args ss xs ls v h) n ∙ ap (option_map (seen_at xs.lists ls.lists ss)) (sym live) in
      output_follows k (output_less n k (length (slot_at ss at).outputs))
      ∙ ap (λ m. uses_with (slot_at ss at).home (output_less m k (length (slot_at ss at).outputs)) (record v { nodes = node_with m (λ (y : FlatNode). record y { outputs = remove y.outputs k }) v.nodes })) (sym own)
      ∙ ap (λ o. outputs_follow o k v) (sym there)
