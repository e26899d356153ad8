-- What the code finds and counts, by the definitions.
use Rattle.std.specs.Prelude.{option_and_then, slice_index_or, slice_set}
use Rattle.std.specs.Option.{option_or}
use Rattle.std.proofs.Common.{◌≡◌, ◌≢◌, ◌≤◌, ◌<◌, ◌+◌, ◌*◌, ◌-◌, ◌^◌, ℕ, zero, suc, ◌==◌, nat_le, not, ◌&&◌, ◌||◌, cond}
use Rattle.std.proofs.Common.{Bool, true, false, List, [], ◌∷◌, drop, length, Option, None, Some, option_map, refl, sym, ap, ◌∙◌, arith}
use Rattle.std.proofs.Math.Nat.{mul-le-mul_left, suc-mul}
use Rattle.std.proofs.lemmas.Bool.{and_parts}
use Rattle.std.proofs.lemmas.Bool.Decides.{nat_tests}
use Rattle.std.proofs.lemmas.Option.{same_Some}
use Rattle.g_graph.specs.declared.op.Kind.{Kind}
use Rattle.g_graph.specs.declared.op.Op.{Op}
use Rattle.g_graph.specs.declared.op.Op.TheVariants.{Const, Undef, Local, Delta, Bin, Un, Load, Store, Clear, PtrEq, Apply, Put, Exit, Get, Gamma, Theta}
use Rattle.g_graph.specs.declared.op.Origin.{Origin}
use Rattle.g_graph.specs.Plain.{RegionTree, region, NodeTree, node, NodeTrees, no_nodes, node_then, RegionTrees, no_regions, region_then, nodes_of, regions_of, nodes_in, has_none}
use Rattle.g_graph.specs.Signatures.{is_pure}
use Rattle.g_graph.specs.WellFormed.{some_of}
use Rattle.r_edit.specs.Uses.{is_read, is_output_of, nodes_read}
use Rattle.r_edit.specs.Entries.{is_gone_argument, some_reads}
use Rattle.r_edit.specs.Size.{may_change_size}
use Rattle.r_pull.specs.declared.find.Found.{Found}
use Rattle.r_pull.specs.Rule.{node_uses, only_user, user_changed, copies, Pull, stays_of, inputs_carried, copies_of, other_entries, gone_among}
use Rattle.r_pull.specs.Rule.{more_args, added, gone, most_next, fits, into, pull_of, pull_at, copies_here, region_answer, nodes_answer}
use Rattle.r_pull.specs.Edit.{takes, where_takes, user_of, pull_into, first_user, user_index, pull_seen, IsCounted}

-- ---- the node and its user

into-seen : (n id : ℕ) (op : Op) (inputs : List Origin) (rs : RegionTrees) (g : NodeTree) → into n op inputs g ≡ option_map (pull_into (node id op inputs rs)) (where_takes n g)
into-seen n id op inputs rs (node gamma Gamma (p ∷ entries) qs) = by (is_output_of n p)
  where
    by : (t : Bool) → cond t None (Some (record { op = op; inputs = inputs; entries = entries; regions = qs })) ≡
        option_map (pull_into (node id op inputs rs)) (cond (not t) (Some (node gamma Gamma (p ∷ entries) qs)) None)
    by true = refl
    by false = refl
into-seen n id op inputs rs (node gamma Gamma [] qs) = refl
into-seen n id op inputs rs (node gamma (Const w) is qs) = refl
into-seen n id op inputs rs (node gamma Undef is qs) = refl
into-seen n id op inputs rs (node gamma (Local k) is qs) = refl
into-seen n id op inputs rs (node gamma (Delta k) is qs) = refl
into-seen n id op inputs rs (node gamma (Bin b) is qs) = refl
into-seen n id op inputs rs (node gamma (Un b) is qs) = refl
into-seen n id op inputs rs (node gamma (Load w) is qs) = refl
into-seen n id op inputs rs (node gamma (Store w) is qs) = refl
into-seen n id op inputs rs (node gamma (Clear k) is qs) = refl
into-seen n id op inputs rs (node gamma PtrEq is qs) = refl
into-seen n id op inputs rs (node gamma (Apply f) is qs) = refl
into-seen n id op inputs rs (node gamma Put is qs) = refl
into-seen n id op inputs rs (node gamma Exit is qs) = refl
into-seen n id op inputs rs (node gamma Get is qs) = refl
into-seen n id op inputs rs (node gamma Theta is qs) = refl

pub pull_seen_of : (n : ℕ) (r : RegionTree) (x : NodeTree) → pull_of n r x ≡ option_map (pull_into x) (user_of n r x)
pull_seen_of n (region args nodes results) (node id op inputs rs) = by (is_pure op && has_none rs && not (some_of (is_output_of n) results)) (only_user n nodes)
  where
    by : (t : Bool) (user : Option NodeTree) → cond t (option_and_then (into n op inputs) user) None ≡
        option_map (pull_into (node id op inputs rs)) (cond t (option_and_then (where_takes n) user) None)
    by false user = refl
    by true None = refl
    by true (Some g) = into-seen n id op inputs rs g

-- the user that is found is the only one
pub user_is_only : (n : ℕ) (args : List Kind) (nodes : NodeTrees) (results : List Origin) (x g : NodeTree) → user_of n (region args nodes results) x ≡ Some g → only_user n nodes ≡ Some g
user_is_only n args nodes results (node id op inputs rs) g e = by (is_pure op && has_none rs && not (some_of (is_output_of n) results)) (only_user n nodes) e
  where
    by-takes : (y : NodeTree) (t : Bool) → cond t (Some y) None ≡ Some g → Some y ≡ Some g
    by-takes y true d = d
    by-takes y false d = absurd cc

    by : (t : Bool) (user : Option NodeTree) → cond t (option_and_then (where_takes n) user) None ≡ Some g → user ≡ Some g
    by false user d = absurd cc
    by true None d = absurd cc
    by true (Some y) d = by-takes y (takes n y) d

-- the only user is the first one
pub only_is_first : (n : ℕ) (ns : NodeTrees) (g : NodeTree) → only_user n ns ≡ Some g → first_user n ns ≡ Some g
only_is_first n no_nodes g e = absurd cc
only_is_first n (node_then x ns) g e = by (node_uses n x) (nodes_read (is_output_of n) ns) e (only_is_first n ns g)
  where
    by : (t u : Bool) → cond t (cond u None (Some x)) (only_user n ns) ≡ Some g → (only_user n ns ≡ Some g → first_user n ns ≡ Some g) → cond t (Some x) (first_user n ns) ≡ Some g
    by true true d rest = absurd cc
    by true false d rest = d
    by false u d rest = rest d

-- of the first user that is changed the change alone tells
pub changed_alike : (n : ℕ) (f h : NodeTree → NodeTree) (ns : NodeTrees) → ((g : NodeTree) → first_user n ns ≡ Some g → f g ≡ h g) → user_changed n f ns ≡ user_changed n h ns
changed_alike n f h no_nodes same = refl
changed_alike n f h (node_then x ns) same = by (node_uses n x) same (changed_alike n f h ns)
  where
    by : (t : Bool) → ((g : NodeTree) → cond t (Some x) (first_user n ns) ≡ Some g → f g ≡ h g) →
        (((g : NodeTree) → first_user n ns ≡ Some g → f g ≡ h g) → user_changed n f ns ≡ user_changed n h ns) →
        cond t (node_then (f x) ns) (node_then x (user_changed n f ns)) ≡ cond t (node_then (h x) ns) (node_then x (user_changed n h ns))
    by true alike rest = ap (λ y. node_then y ns) (alike x refl)
    by false alike rest = ap (node_then x) (rest alike)

-- ---- the user, by its index

least : (n first k : ℕ) (xs : List NodeTree) → user_index n first (nodes_of xs) ≡ Some k → first ≤ k
least n first k [] e = absurd cc
least n first k (x ∷ xs) e = by (node_uses n x) e (least n (suc first) k xs)
  where
    by : (t : Bool) → cond t (Some first) (user_index n (suc first) (nodes_of xs)) ≡ Some k → (user_index n (suc first) (nodes_of xs) ≡ Some k → suc first ≤ k) → first ≤ k
    by true d rest = omega (arith, same_Some first k d)
    by false d rest = omega (arith, rest d)

pub record UserAt (n i : ℕ) (xs : List NodeTree) : Type 0 where
  pub bound : i < length xs
  pub first : (x : NodeTree) → x ≡ slice_index_or xs i x → first_user n (nodes_of xs) ≡ Some x
  pub changed : (f : NodeTree → NodeTree) (x y : NodeTree) → x ≡ slice_index_or xs i x → y ≡ f x → nodes_of (slice_set xs i y) ≡ user_changed n f (nodes_of xs)

user-from : (n first i : ℕ) (xs : List NodeTree) → user_index n first (nodes_of xs) ≡ Some (first + i) → UserAt n i xs
user-from n first i [] e = absurd cc
user-from n first zero (x ∷ xs) e = by (node_uses n x) refl e
  where
    by : (t : Bool) → node_uses n x ≡ t → cond t (Some first) (user_index n (suc first) (nodes_of xs)) ≡ Some (first + 0) → UserAt n zero (x ∷ xs)
    by true t d =
        record {
          bound = omega arith;
          first = λ y h. ap (λ u. cond u (Some x) (first_user n (nodes_of xs))) t ∙ ap Some (sym h);
          changed = λ f y z h g.
              ap (λ w. node_then w (nodes_of xs)) (g ∙ ap f h)
              ∙ sym (ap (λ u. cond u (node_then (f x) (nodes_of xs)) (node_then x (user_changed n f (nodes_of xs)))) t);
        }
    by false t d = absurd (omega (arith, least n (suc first) (first + 0) xs d))
user-from n first (suc i) (x ∷ xs) e = by (node_uses n x) refl e (user-from n (suc first) i xs)
  where
    by : (t : Bool) → node_uses n x ≡ t → cond t (Some first) (user_index n (suc first) (nodes_of xs)) ≡ Some (first + suc i) →
        (user_index n (suc first) (nodes_of xs) ≡ Some (suc first + i) → UserAt n i xs) → UserAt n (suc i) (x ∷ xs)
    by true t d rest = absurd (omega (arith, same_Some first (first + suc i) d))
    by false t d rest =
        let u = rest (d ∙ ap Some (omega arith)) in
        record {
          bound = omega (arith, u.bound);
          first = λ y h. ap (λ v. cond v (Some x) (first_user n (nodes_of xs))) t ∙ u.first y h;
          changed = λ f y z h g.
              ap (node_then x) (u.changed f y z h g)
              ∙ sym (ap (λ v. cond v (node_then (f x) (nodes_of xs)) (node_then x (user_changed n f (nodes_of xs)))) t);
        }

pub user-at : (n i : ℕ) (xs : List NodeTree) → user_index n 0 (nodes_of xs) ≡ Some i → UserAt n i xs
user-at n i xs e = user-from n 0 i xs (e ∙ ap Some (omega arith))

none-from : (n first : ℕ) (f : NodeTree → NodeTree) (xs : List NodeTree) → user_index n first (nodes_of xs) ≡ None → user_changed n f (nodes_of xs) ≡ nodes_of xs
none-from n first f [] e = refl
none-from n first f (x ∷ xs) e = by (node_uses n x) e (none-from n (suc first) f xs)
  where
    by : (t : Bool) → cond t (Some first) (user_index n (suc first) (nodes_of xs)) ≡ None → (user_index n (suc first) (nodes_of xs) ≡ None → user_changed n f (nodes_of xs) ≡ nodes_of xs) →
        cond t (node_then (f x) (nodes_of xs)) (node_then x (user_changed n f (nodes_of xs))) ≡ node_then x (nodes_of xs)
    by true d rest = absurd cc
    by false d rest = ap (node_then x) (rest d)

pub none-used : (n : ℕ) (f : NodeTree → NodeTree) (xs : List NodeTree) → user_index n 0 (nodes_of xs) ≡ None → user_changed n f (nodes_of xs) ≡ nodes_of xs
none-used n f xs e = none-from n 0 f xs e

-- ---- numbers

pub has_none_of : (rs : List RegionTree) → has_none (regions_of rs) ≡ (length rs == 0)
has_none_of [] = refl
has_none_of (r ∷ rs) = grind (arith, nat_tests)

one-more : (k : ℕ) → true ≡ nat_le 1 (1 + k)
one-more k = grind (arith, nat_tests)

-- where no region takes a copy no argument that goes is read
read-copies : (stays : List Bool) (rs : RegionTrees) → some_reads stays rs ≡ nat_le 1 (copies stays rs)
read-copies stays no_regions = refl
read-copies stays (region_then r rs) = by (is_read (is_gone_argument stays) r) (read-copies stays rs)
  where
    by : (t : Bool) → some_reads stays rs ≡ nat_le 1 (copies stays rs) → t || some_reads stays rs ≡ nat_le 1 (cond t 1 0 + copies stays rs)
    by true e = one-more (copies stays rs)
    by false e = e ∙ ap (nat_le 1) (omega arith)

pub none_carried : (n : ℕ) (h : Pull) → copies_of n h ≡ 0 → inputs_carried n h ≡ []
none_carried n h e = ap (λ t. cond t h.inputs []) (read-copies (stays_of n h) h.regions ∙ ap (nat_le 1) e)

pub all_carried : (n : ℕ) (h : Pull) → copies_of n h ≢ 0 → inputs_carried n h ≡ h.inputs
all_carried n h e = ap (λ t. cond t h.inputs []) (read-copies (stays_of n h) h.regions ∙ some)
  where
    some : nat_le 1 (copies_of n h) ≡ true
    some = grind (arith, nat_tests, e)

pub record Suffices (next n : ℕ) (h : Pull) : Type 0 where
  pub numbers : next + copies_of n h ≤ most_next
  pub index : length h.entries + length h.inputs ≤ 4294967296

pub fits_suffices : (values next n : ℕ) (h : Pull) → fits values next n h ≡ true → Suffices next n h
fits_suffices values next n h e =
    let change = may_change_size values (added n h) (gone n h) in
    let number = nat_le (next + copies_of n h) most_next in
    let index = nat_le (length h.entries + length h.inputs) (2 ^ 32) in
    let front = and_parts (change && number) index e in
    let low = (and_parts change number front.0).1 in
    record { numbers = grind (arith, nat_tests, low); index = grind (arith, nat_tests, front.1) }

-- the tests in the order of the code
pub fits_in_order : (values next n : ℕ) (h : Pull) → fits values next n h ≡
    cond (nat_le (length h.entries + length h.inputs) (2 ^ 32)) (cond (nat_le (next + copies_of n h) most_next) (may_change_size values (added n h) (gone n h)) false) false
fits_in_order values next n h =
    by (may_change_size values (added n h) (gone n h)) (nat_le (next + copies_of n h) most_next) (nat_le (length h.entries + length h.inputs) (2 ^ 32))
  where
    by : (a b c : Bool) → (a && b && c) ≡ cond c (cond b a false) false
    by true true true = refl
    by true true false = refl
    by true false true = refl
    by true false false = refl
    by false true true = refl
    by false true false = refl
    by false false true = refl
    by false false false = refl

-- ---- sums

swapped : (a b : ℕ) → a + b ≡ b + a
swapped a b = omega arith

pub more_args_times : (more : ℕ) (rs : List RegionTree) → more_args more (regions_of rs) ≡ length rs * more
more_args_times more [] = omega arith
more_args_times more (r ∷ rs) = ap (λ k. more + k) (more_args_times more rs) ∙ swapped more (length rs * more) ∙ sym (suc-mul (length rs) more)

pub product_small : (count more : ℕ) → count < 18446744073709551616 → more ≤ 4294967296 → count * more < 1329227995784915872903807060280344576
product_small count more c m =
    let wide : count * more ≤ count * 4294967296 = mul-le-mul_left count m in
    omega (arith, wide, c)

pub none_gone : (stays : List Bool) → gone_among stays 0 ≡ 0
none_gone [] = refl
none_gone (true ∷ stays) = refl
none_gone (false ∷ stays) = refl

none-more : (k : ℕ) → k ≡ 0 + k
none-more k = omega arith

next-of : (k : ℕ) → suc k ≡ 1 + k
next-of k = omega arith

pub gone_step : (n : ℕ) (entries : List Origin) (k rest : ℕ) (a : Origin) → k < length entries → a ≡ slice_index_or entries k a → rest ≢ 0 →
    gone_among (other_entries n (drop k entries)) rest ≡ cond (is_output_of n a) 1 0 + gone_among (other_entries n (drop (suc k) entries)) (rest - 1)
gone_step n [] k rest a h e z = absurd (omega (arith, h))
gone_step n (b ∷ entries) (suc k) rest a h e z = gone_step n entries k rest a (omega (arith, h)) e z
gone_step n (b ∷ entries) zero zero a h e z = absurd (z refl)
gone_step n (b ∷ entries) zero (suc rest) a h e z =
    ap (λ c. gone_among (not (is_output_of n c) ∷ other_entries n entries) (suc rest)) (sym e) ∙ by (is_output_of n a)
    ∙ ap (λ k. cond (is_output_of n a) 1 0 + gone_among (other_entries n entries) k) (omega arith)
  where
    by : (t : Bool) → gone_among (not t ∷ other_entries n entries) (suc rest) ≡ cond t 1 0 + gone_among (other_entries n entries) rest
    by true = next-of (gone_among (other_entries n entries) rest)
    by false = none-more (gone_among (other_entries n entries) rest)

-- ---- the first region

pub answer_here : (v next n : ℕ) (r : RegionTree) (c : ℕ) → copies_here v next n r ≡ Some c → region_answer (copies_here v next n) r ≡ Some c
answer_here v next n (region args nodes results) c e = ap (λ o. option_or o (nodes_answer (copies_here v next n) nodes)) e

pub answer_within : (v next n : ℕ) (r : RegionTree) → copies_here v next n r ≡ None → region_answer (copies_here v next n) r ≡ nodes_answer (copies_here v next n) (nodes_in r)
answer_within v next n (region args nodes results) e = ap (λ o. option_or o (nodes_answer (copies_here v next n) nodes)) e

pub seen_count : (next n v : ℕ) (r : RegionTree) (f : Found) → IsCounted next n f.copies (pull_seen f) → Some (pull_seen f) ≡ pull_at v next n r → Some f.copies ≡ copies_here v next n r
seen_count next n v r f h e = ap Some h.copies ∙ ap (option_map (copies_of n)) e
