-- The node that moves, the only node that uses it, and what is found of both.
use Rattle.std.specs.Prelude.{option_and_then}
use Rattle.std.proofs.Common.{◌≡◌, ℕ, Bool, true, false, not, ◌&&◌, ◌||◌, cond, List, [], ◌∷◌, Option, None, Some, option_map, refl, sym, ap, subst, ◌∙◌}
use Rattle.std.proofs.lemmas.Bool.{and_parts, not-true}
use Rattle.std.proofs.lemmas.Option.{same_Some}
use Rattle.g_graph.specs.declared.op.Kind.{Kind}
use Rattle.g_graph.specs.declared.op.Op.{Op}
use Rattle.g_graph.specs.declared.op.Op.TheVariants.{Const, Undef, Local, Delta, Bin, Un, Load, Store, Clear, PtrEq, Apply, Put, Exit, Get, Gamma, Theta}
use Rattle.g_graph.specs.declared.op.Origin.{Origin}
use Rattle.g_graph.specs.Plain.{RegionTree, region, NodeTree, node, NodeTrees, no_nodes, node_then, RegionTrees, no_regions, region_then, has_none}
use Rattle.g_graph.specs.Signatures.{is_pure}
use Rattle.g_graph.specs.WellFormed.{some_of}
use Rattle.g_graph.specs.Nodes.{node_at}
use Rattle.g_graph.specs.Splice.{joined_nodes}
use Rattle.r_edit.specs.Uses.{nodes_read, is_output_of}
use Rattle.r_pull.specs.Rule.{node_uses, only_user, user_changed, Pull, copies_of, fits, into, pull_of, where_fits, pull_at, region_pulled, pull_here, copies_here}

-- ---- the user

pub record User (n : ℕ) (ns : NodeTrees) (g : NodeTree) : Type 0 where
  pub before : NodeTrees
  pub after : NodeTrees
  pub is : ns ≡ joined_nodes before (node_then g after)
  pub none_before : nodes_read (is_output_of n) before ≡ false
  pub none_after : nodes_read (is_output_of n) after ≡ false
  pub uses : node_uses n g ≡ true
  pub changed : (f : NodeTree → NodeTree) → user_changed n f ns ≡ joined_nodes before (node_then (f g) after)

user-first : (n : ℕ) (x : NodeTree) (ns : NodeTrees) (g : NodeTree) → node_uses n x ≡ true → (read : Bool) → nodes_read (is_output_of n) ns ≡ read → cond read None (Some x) ≡ Some g →
    User n (node_then x ns) g
user-first n x ns g u true e d = absurd cc
user-first n x ns g u false e d =
    let same : x ≡ g = cc in
    subst (λ y. User n (node_then x ns) y) same
    (record {
      before = no_nodes;
      after = ns;
      is = refl;
      none_before = refl;
      none_after = e;
      uses = u;
      changed = λ f. ap (λ t. cond t (node_then (f x) ns) (node_then x (user_changed n f ns))) u;
    })

pub user-of : (n : ℕ) (ns : NodeTrees) (g : NodeTree) → only_user n ns ≡ Some g → User n ns g
user-of n no_nodes g e = absurd cc
user-of n (node_then (node id op inputs rs) ns) g e = by (some_of (is_output_of n) inputs) refl e (λ d. user-of n ns g d)
  where
    x : NodeTree
    x = node id op inputs rs

    by : (t : Bool) → some_of (is_output_of n) inputs ≡ t → cond t (cond (nodes_read (is_output_of n) ns) None (Some x)) (only_user n ns) ≡ Some g → (only_user n ns ≡ Some g → User n ns g) →
        User n (node_then x ns) g
    by true u d rest = user-first n x ns g u (nodes_read (is_output_of n) ns) refl d
    by false u d rest =
        let h = rest d in
        record {
          before = node_then x h.before;
          after = h.after;
          is = ap (node_then x) h.is;
          none_before = λ i. u i || h.none_before i;
          none_after = h.none_after;
          uses = h.uses;
          changed = λ f. ap (λ t. cond t (node_then (f x) ns) (node_then x (user_changed n f ns))) u ∙ ap (node_then x) (h.changed f);
        }

-- ---- what a change is

pub record PulledAt (values next n : ℕ) (args : List Kind) (ns : NodeTrees) (results : List Origin) (s : RegionTree) : Type 0 where
  pub id : ℕ
  pub op : Op
  pub inputs : List Origin
  pub pure : is_pure op ≡ true
  pub at : node_at n ns ≡ Some (node id op inputs no_regions)
  pub no_result : some_of (is_output_of n) results ≡ false
  pub gamma : ℕ
  pub predicate : Origin
  pub entries : List Origin
  pub regions : RegionTrees
  pub user : User n ns (node gamma Gamma (predicate ∷ entries) regions)
  pub no_predicate : is_output_of n predicate ≡ false
  pub pull : Pull
  pub pull_is : pull ≡ record { op = op; inputs = inputs; entries = entries; regions = regions }
  pub can : fits values next n pull ≡ true
  pub gives : region_pulled next n (region args ns results) pull ≡ s
  pub copies : copies_here values next n (region args ns results) ≡ Some (copies_of n pull)
  pub found : pull_at values next n (region args ns results) ≡ Some pull

-- the user is a Gamma
record Into (n : ℕ) (op : Op) (inputs : List Origin) (g : NodeTree) (h : Pull) : Type 0 where
  pub gamma : ℕ
  pub predicate : Origin
  pub entries : List Origin
  pub regions : RegionTrees
  pub is : g ≡ node gamma Gamma (predicate ∷ entries) regions
  pub no_predicate : is_output_of n predicate ≡ false
  pub pull_is : h ≡ record { op = op; inputs = inputs; entries = entries; regions = regions }

into-is : (n : ℕ) (op : Op) (inputs : List Origin) (g : NodeTree) (h : Pull) → into n op inputs g ≡ Some h → Into n op inputs g h
into-is n op inputs (node id Gamma (p ∷ entries) rs) h e = by (is_output_of n p) refl e
  where
    by : (t : Bool) → is_output_of n p ≡ t → cond t None (Some (record { op = op; inputs = inputs; entries = entries; regions = rs })) ≡ Some h → Into n op inputs (node id Gamma (p ∷ entries) rs) h
    by true u d = absurd cc
    by false u d =
        record { gamma = id; predicate = p; entries = entries; regions = rs; is = refl; no_predicate = u; pull_is = sym (same_Some _ h d) }
into-is n op inputs (node id Gamma [] rs) h e = absurd cc
into-is n op inputs (node id (Const w) is rs) h e = absurd cc
into-is n op inputs (node id Undef is rs) h e = absurd cc
into-is n op inputs (node id (Local k) is rs) h e = absurd cc
into-is n op inputs (node id (Delta k) is rs) h e = absurd cc
into-is n op inputs (node id (Bin b) is rs) h e = absurd cc
into-is n op inputs (node id (Un b) is rs) h e = absurd cc
into-is n op inputs (node id (Load w) is rs) h e = absurd cc
into-is n op inputs (node id (Store w) is rs) h e = absurd cc
into-is n op inputs (node id (Clear k) is rs) h e = absurd cc
into-is n op inputs (node id PtrEq is rs) h e = absurd cc
into-is n op inputs (node id (Apply f) is rs) h e = absurd cc
into-is n op inputs (node id Put is rs) h e = absurd cc
into-is n op inputs (node id Exit is rs) h e = absurd cc
into-is n op inputs (node id Get is rs) h e = absurd cc
into-is n op inputs (node id Theta is rs) h e = absurd cc

no-regions : (rs : RegionTrees) → has_none rs ≡ true → rs ≡ no_regions
no-regions no_regions e = refl
no-regions (region_then r rs) e = absurd cc

module _ (values next n : ℕ) (args : List Kind) (ns : NodeTrees) (results : List Origin) where
  abbrev whole : RegionTree
  whole = region args ns results

  abbrev Gives : Option Pull → RegionTree → Type 0
  Gives found s = option_map (region_pulled next n whole) found ≡ Some s

  -- of the node that is found, its user, and what is pulled
  by-fits : (id : ℕ) (op : Op) (inputs : List Origin) (rs : RegionTrees) (s : RegionTree) → node_at n ns ≡ Some (node id op inputs rs) →
      (is_pure op && has_none rs && not (some_of (is_output_of n) results)) ≡ true → (g : NodeTree) → only_user n ns ≡ Some g → (h : Pull) → into n op inputs g ≡ Some h →
      (t : Bool) → fits values next n h ≡ t → Gives (cond t (Some h) None) s → copies_here values next n whole ≡ option_map (copies_of n) (cond t (Some h) None) →
      PulledAt values next n args ns results s
  by-fits id op inputs rs s at test g user h found false e d c = absurd cc
  by-fits id op inputs rs s at test g user h found true e d c =
      let i = into-is n op inputs g h found in
      let pure_none = and_parts (is_pure op && has_none rs) (not (some_of (is_output_of n) results)) test in
      let both = and_parts (is_pure op) (has_none rs) pure_none.0 in
      record {
        id = id;
        op = op;
        inputs = inputs;
        pure = both.0;
        at = at ∙ ap (λ qs. Some (node id op inputs qs)) (no-regions rs both.1);
        no_result = not-true (some_of (is_output_of n) results) pure_none.1;
        gamma = i.gamma;
        predicate = i.predicate;
        entries = i.entries;
        regions = i.regions;
        user = subst (λ y. User n ns y) i.is (user-of n ns g user);
        no_predicate = i.no_predicate;
        pull = h;
        pull_is = i.pull_is;
        can = e;
        gives = same_Some (region_pulled next n whole h) s d;
        copies = c;
        found = ap (λ o. option_and_then (where_fits values next n) (option_and_then (pull_of n whole) o)) at
            ∙ ap (λ t. option_and_then (where_fits values next n) (cond t (option_and_then (into n op inputs) (only_user n ns)) None)) test
            ∙ ap (λ o. option_and_then (where_fits values next n) (option_and_then (into n op inputs) o)) user ∙ ap (option_and_then (where_fits values next n)) found
            ∙ ap (λ t. cond t (Some h) None) e;
      }

  by-into : (id : ℕ) (op : Op) (inputs : List Origin) (rs : RegionTrees) (s : RegionTree) → node_at n ns ≡ Some (node id op inputs rs) →
      (is_pure op && has_none rs && not (some_of (is_output_of n) results)) ≡ true → (g : NodeTree) → only_user n ns ≡ Some g → (found : Option Pull) → into n op inputs g ≡ found →
      Gives (option_and_then (where_fits values next n) found) s → copies_here values next n whole ≡ option_map (copies_of n) (option_and_then (where_fits values next n) found) →
      PulledAt values next n args ns results s
  by-into id op inputs rs s at test g user None e d c = absurd cc
  by-into id op inputs rs s at test g user (Some h) e d c = by-fits id op inputs rs s at test g user h e (fits values next n h) refl d c

  by-user : (id : ℕ) (op : Op) (inputs : List Origin) (rs : RegionTrees) (s : RegionTree) → node_at n ns ≡ Some (node id op inputs rs) →
      (is_pure op && has_none rs && not (some_of (is_output_of n) results)) ≡ true → (user : Option NodeTree) → only_user n ns ≡ user →
      Gives (option_and_then (where_fits values next n) (option_and_then (into n op inputs) user)) s →
      copies_here values next n whole ≡ option_map (copies_of n) (option_and_then (where_fits values next n) (option_and_then (into n op inputs) user)) → PulledAt values next n args ns results s
  by-user id op inputs rs s at test None e d c = absurd cc
  by-user id op inputs rs s at test (Some g) e d c = by-into id op inputs rs s at test g e (into n op inputs g) refl d c

  by-test : (id : ℕ) (op : Op) (inputs : List Origin) (rs : RegionTrees) (s : RegionTree) → node_at n ns ≡ Some (node id op inputs rs) → (t : Bool) →
      (is_pure op && has_none rs && not (some_of (is_output_of n) results)) ≡ t →
      Gives (option_and_then (where_fits values next n) (cond t (option_and_then (into n op inputs) (only_user n ns)) None)) s →
      copies_here values next n whole ≡ option_map (copies_of n) (option_and_then (where_fits values next n) (cond t (option_and_then (into n op inputs) (only_user n ns)) None)) →
      PulledAt values next n args ns results s
  by-test id op inputs rs s at false e d c = absurd cc
  by-test id op inputs rs s at true e d c = by-user id op inputs rs s at e (only_user n ns) refl d c

  by-node : (found : Option NodeTree) → node_at n ns ≡ found → (s : RegionTree) → Gives (option_and_then (where_fits values next n) (option_and_then (pull_of n whole) found)) s →
      copies_here values next n whole ≡ option_map (copies_of n) (option_and_then (where_fits values next n) (option_and_then (pull_of n whole) found)) → PulledAt values next n args ns results s
  by-node None e s d c = absurd cc
  by-node (Some (node id op inputs rs)) e s d c =
      by-test id op inputs rs s e (is_pure op && has_none rs && not (some_of (is_output_of n) results)) refl d c

  pub pulled-at : (s : RegionTree) → pull_here values next n whole ≡ Some s → PulledAt values next n args ns results s
  pulled-at s e = by-node (node_at n ns) refl s e refl

-- where the rule changes no region it makes no copies
pub none-copied : (values next n : ℕ) (r : RegionTree) → pull_here values next n r ≡ None → copies_here values next n r ≡ None
none-copied values next n r e = by (pull_at values next n r) e
  where
    by : (found : Option Pull) → option_map (region_pulled next n r) found ≡ None → option_map (copies_of n) found ≡ None
    by None d = refl
    by (Some h) d = absurd cc
