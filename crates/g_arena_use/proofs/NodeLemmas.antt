-- Nodes with their index, as stored: what is read of them, and what a change leaves.
use Rattle.std.proofs.Common.{◌≡◌, ℕ, ◌<◌, true, false, cond, eqb, Option, Some, None, List, [], length, get_or, set, ap, sym, ◌∙◌, subst, length-set}
use Rattle.std.specs.List.{position}
use Rattle.std.proofs.Math.ListN.{get_or-map}
use Rattle.std.proofs.lemmas.List.{get_or_default, length-map}
use Rattle.cell_lists.specs.Lists.{Lists, list_at, is_in, AreDistinct, removed, without}
use Rattle.g_arena_use.specs.Plain.{PlainSlot, no_slot, is_live, slot_at, numbers_of, live_from, live_slot, all_live, IsShort, AreShort, number_index, went_at, node_went, is_index, slot_gone, counted, in_order}
use Rattle.g_arena_use.specs.declared.nodes.Nodes.TheInside.{Inside}
use Rattle.g_arena_use.specs.Numbered.{AreNumbered}
use Rattle.g_arena_use.proofs.SlotLemmas.{index_is, index_within, live_by, live_none, live_in, live_all, slot_there, numbers_same, live_same, live_gone, short_set, short_gone}

pub record Numbered (ss : List PlainSlot) (ns : List ℕ) (o : Lists) : Type 0 where
  pub keys : ns ≡ numbers_of ss
  pub once : AreDistinct (numbers_of ss)
  pub cells : o.cells ≡ length ss
  pub lists : length o.lists ≡ 1
  pub order : list_at o 0 ≡ live_from 0 ss
  pub short : AreShort ss

pub numbered : (a : Inside) → AreNumbered a → Numbered a.slots.items a.numbers.keys a.order
numbered a n = record { keys = n.keys; once = n.once; cells = n.cells; lists = n.lists; order = n.order; short = n.short }

pub are_numbered : (a : Inside) → Numbered a.slots.items a.numbers.keys a.order → AreNumbered a
are_numbered a n = record { keys = n.keys; once = n.once; cells = n.cells; lists = n.lists; order = n.order; short = n.short }

pub slot_is : (ss : List PlainSlot) (at : ℕ) (x : PlainSlot) → at < length ss → x ≡ get_or ss at x → x ≡ slot_at ss at
slot_is ss at x lt e = e ∙ get_or_default ss at x no_slot lt

pub short_at : (ss : List PlainSlot) (at : ℕ) (x : PlainSlot) → AreShort ss → at < length ss → x ≡ get_or ss at x → IsShort x
short_at ss at x h lt e = h at x (slot_there ss at lt ∙ ap Some (sym (slot_is ss at x lt e)))

-- ---- a node by its number

pub index_of : (ss : List PlainSlot) (keys : List ℕ) (n : ℕ) (o : Option ℕ) → keys ≡ numbers_of ss → o ≡ position (eqb n) keys → o ≡ number_index n ss
index_of ss keys n o e h = h ∙ ap (position (eqb n)) e ∙ index_is n ss

pub index_in : (ss : List PlainSlot) (keys : List ℕ) (n at : ℕ) → keys ≡ numbers_of ss → Some at ≡ position (eqb n) keys → at < length ss
index_in ss keys n at e h = index_within n ss at (sym (index_of ss keys n (Some at) e h))

pub found_live : (ss : List PlainSlot) (keys : List ℕ) (n at : ℕ) (x : PlainSlot) → keys ≡ numbers_of ss → Some at ≡ position (eqb n) keys → x ≡ get_or ss at x → is_live x ≡ true → Some at ≡ live_slot n ss
found_live ss keys n at x e h q l =
    sym (live_by n ss at (sym (index_of ss keys n (Some at) e h)) ∙ ap (λ y. cond (is_live y) (Some at) None) (sym (slot_is ss at x (index_in ss keys n at e h) q)) ∙ ap (λ b. cond b (Some at) None) l)

pub found_gone : (ss : List PlainSlot) (keys : List ℕ) (n at : ℕ) (x : PlainSlot) → keys ≡ numbers_of ss → Some at ≡ position (eqb n) keys → x ≡ get_or ss at x → is_live x ≡ false → None ≡ live_slot n ss
found_gone ss keys n at x e h q l =
    sym (live_by n ss at (sym (index_of ss keys n (Some at) e h)) ∙ ap (λ y. cond (is_live y) (Some at) None) (sym (slot_is ss at x (index_in ss keys n at e h) q)) ∙ ap (λ b. cond b (Some at) None) l)

pub not_found : (ss : List PlainSlot) (keys : List ℕ) (n : ℕ) → keys ≡ numbers_of ss → None ≡ position (eqb n) keys → None ≡ live_slot n ss
not_found ss keys n e h = sym (live_none n ss (sym (index_of ss keys n None e h)))

pub went_is : (ss : List PlainSlot) (keys : List ℕ) (n at root : ℕ) (x : PlainSlot) → keys ≡ numbers_of ss → Some at ≡ position (eqb n) keys → x ≡ get_or ss at x → is_index root x.gone ≡ node_went root ss (Some n)
went_is ss keys n at root x e h q =
    ap (λ (y : PlainSlot). is_index root y.gone) (slot_is ss at x (index_in ss keys n at e h) q) ∙ ap (went_at root ss) (index_of ss keys n (Some at) e h)

pub none_went : (ss : List PlainSlot) (keys : List ℕ) (n root : ℕ) → keys ≡ numbers_of ss → None ≡ position (eqb n) keys → false ≡ node_went root ss (Some n)
none_went ss keys n root e h = ap (went_at root ss) (index_of ss keys n None e h)

-- ---- the order

pub listed : (ss : List PlainSlot) (o : Lists) (vs : List PlainSlot) (at : ℕ) → list_at o 0 ≡ live_from 0 ss → ss ≡ vs → at < length vs → is_live (slot_at vs at) ≡ true → is_in at (list_at o 0) ≡ true
listed ss o vs at e v lt l = ap (is_in at) (e ∙ ap (live_from 0) v) ∙ live_in at vs lt l

-- ---- a change

pub slot_changed : (ss : List PlainSlot) (ns : List ℕ) (o : Lists) (at : ℕ) (x t : PlainSlot) → Numbered ss ns o → at < length ss → x ≡ get_or ss at x → t.id ≡ x.id → is_live t ≡ is_live x → (IsShort x → IsShort t) → Numbered (set ss at t) ns o
slot_changed ss ns o at x t n lt q same live short =
    let e : x ≡ slot_at ss at = slot_is ss at x lt q in
    let numbers = numbers_same ss at t (same ∙ ap (λ (y : PlainSlot). y.id) e) in
    record {
      keys = n.keys ∙ sym numbers;
      once = (let P : List ℕ → Type 0 = λ ks. AreDistinct ks in subst P (sym numbers) n.once);
      cells = n.cells ∙ sym (length-set ss at t);
      lists = n.lists;
      order = n.order ∙ sym (live_same 0 ss at t (live ∙ ap is_live e));
      short = short_set ss at t n.short (short (short_at ss at x n.short lt q));
    }

pub node_gone : (ss : List PlainSlot) (ns : List ℕ) (o o' : Lists) (at root : ℕ) (x t : PlainSlot) → Numbered ss ns o → at < length ss → x ≡ get_or ss at x → is_live (slot_at ss at) ≡ true → t ≡ slot_gone root x → o' ≡ removed o at
    → Numbered (set ss at t) ns o'
node_gone ss ns o o' at root x t n lt q l e f =
    let h : t ≡ slot_gone root (slot_at ss at) = e ∙ ap (slot_gone root) (slot_is ss at x lt q) in
    let numbers = numbers_same ss at t (ap (λ (y : PlainSlot). y.id) h) in
    record {
      keys = n.keys ∙ sym numbers;
      once = (let P : List ℕ → Type 0 = λ ks. AreDistinct ks in subst P (sym numbers) n.once);
      cells = ap (λ (r : Lists). r.cells) f ∙ n.cells ∙ sym (length-set ss at t);
      lists = ap (λ (r : Lists). length r.lists) f ∙ length-map o.lists (without at) ∙ n.lists;
      order = ap (λ (r : Lists). list_at r 0) f ∙ get_or-map (without at) o.lists 0 [] ∙ ap (without at) n.order ∙ sym (live_gone at root ss lt l) ∙ ap (λ y. live_from 0 (set ss at y)) (sym h);
      short = short_set ss at t n.short (let P : PlainSlot → Type 0 = λ y. IsShort y in subst P (sym e) (short_gone root x (short_at ss at x n.short lt q)));
    }

pub new_numbered : (ss : List PlainSlot) (keys : List ℕ) (order : Lists) (count : ℕ) → keys ≡ numbers_of ss → AreDistinct (numbers_of ss) → all_live ss ≡ true → AreShort ss → count ≡ length ss → order ≡ in_order count count
    → Numbered ss keys order
new_numbered ss keys order count k d l h n e = record {
  keys = k;
  once = d;
  cells = ap (λ (o : Lists). o.cells) e ∙ n;
  lists = ap (λ (o : Lists). length o.lists) e;
  order = ap (λ (o : Lists). list_at o 0) e ∙ ap (counted 0) n ∙ sym (live_all 0 ss l);
  short = h;
}
