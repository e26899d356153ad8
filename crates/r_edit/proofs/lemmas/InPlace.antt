-- The edits made in place are the defined ones.
use Rattle.std.proofs.Common.{◌≡◌, ℕ, zero, suc, ◌+◌, ◌==◌, Bool, true, false, cond, List, [], ◌∷◌, ◌++◌, map, take, drop, length, get_or, Option, None, Some, refl, sym, ap, ◌∙◌, add-one, arith}
use Rattle.std.specs.Prelude.{◌&&◌, slice_get, slice_set}
use Rattle.std.proofs.lemmas.Option.{same_Some}
use Rattle.g_graph.specs.declared.op.Op.{Op}
use Rattle.g_graph.specs.declared.op.Origin.{Origin}
use Rattle.g_graph.specs.Plain.{RegionTree, region, NodeTree, node, NodeTrees, no_nodes, node_then, no_regions, region_then, nodes_of, regions_of, id_of}
use Rattle.g_graph.specs.Change.{node_index}
use Rattle.g_graph.specs.Replace.{node_redirected, nodes_redirected}
use Rattle.g_graph.proofs.lemmas.Redirects.{nodes_of-redirected}
use Rattle.g_graph.proofs.lemmas.Splices.{node_index_least}
use Rattle.r_edit.specs.Exits.{regions_giving, node_giving, output_after, nodes_giving}
use Rattle.r_edit.specs.Entries.{regions_taking, node_taking, nodes_taking}
use Rattle.r_edit.specs.Variables.{node_looping, nodes_looping}
use Rattle.r_edit.specs.Carried.{output_carried, staying, nodes_carrying}
use Rattle.r_edit.specs.InPlace.{all_stay, nodes_edited, redirected_after, region_giving, region_taking}

-- ---- a node, by its index

module _ (n : ℕ) (f : NodeTree → NodeTree) where
  pub edited_none : (first : ℕ) (ns : NodeTrees) → node_index n first ns ≡ None → nodes_edited n f ns ≡ ns
  edited_none first no_nodes e = refl
  edited_none first (node_then x ns) e = by (id_of x == n) e (edited_none (suc first) ns)
    where
      by : (t : Bool) → cond t (Some first) (node_index n (suc first) ns) ≡ None → (node_index n (suc first) ns ≡ None → nodes_edited n f ns ≡ ns) →
          cond t (node_then (f x) ns) (node_then x (nodes_edited n f ns)) ≡ node_then x ns
      by true e h = absurd cc
      by false e h = ap (node_then x) (h e)

  edited_from : (first p : ℕ) (xs : List NodeTree) (y d : NodeTree) → node_index n first (nodes_of xs) ≡ Some (first + p) → y ≡ f (get_or xs p d) →
      nodes_edited n f (nodes_of xs) ≡ nodes_of (slice_set xs p y)
  edited_from first p [] y d e v = absurd cc
  edited_from first zero (x ∷ xs) y d e v = by (id_of x == n) e
    where
      by : (t : Bool) → cond t (Some first) (node_index n (suc first) (nodes_of xs)) ≡ Some (first + 0) →
          cond t (node_then (f x) (nodes_of xs)) (node_then x (nodes_edited n f (nodes_of xs))) ≡ node_then y (nodes_of xs)
      by true e = ap (λ z. node_then z (nodes_of xs)) (sym v)
      by false e = absurd (omega (arith, node_index_least n (suc first) (first + 0) (nodes_of xs) e))
  edited_from first (suc p) (x ∷ xs) y d e v = by (id_of x == n) e (λ q. edited_from (suc first) p xs y d q v)
    where
      by : (t : Bool) → cond t (Some first) (node_index n (suc first) (nodes_of xs)) ≡ Some (first + suc p) →
          (node_index n (suc first) (nodes_of xs) ≡ Some (suc first + p) → nodes_edited n f (nodes_of xs) ≡ nodes_of (slice_set xs p y)) →
          cond t (node_then (f x) (nodes_of xs)) (node_then x (nodes_edited n f (nodes_of xs))) ≡ node_then x (nodes_of (slice_set xs p y))
      by true e h = absurd (omega (arith, same_Some first (first + suc p) e))
      by false e h = ap (node_then x) (h (e ∙ ap Some (omega arith)))

  pub edited_at : (p : ℕ) (xs : List NodeTree) (x y d : NodeTree) → node_index n 0 (nodes_of xs) ≡ Some p → x ≡ get_or xs p d → y ≡ f x → nodes_of (slice_set xs p y) ≡ nodes_edited n f (nodes_of xs)
  edited_at p xs x y d e v w = sym (edited_from 0 p xs y d (e ∙ ap Some (omega arith)) (w ∙ ap f v))

module _ (n : ℕ) (f : Origin → Origin) where
  pub after_none : (first : ℕ) (ns : NodeTrees) → node_index n first ns ≡ None → redirected_after n f ns ≡ ns
  after_none first no_nodes e = refl
  after_none first (node_then x ns) e = by (id_of x == n) e (after_none (suc first) ns)
    where
      by : (t : Bool) → cond t (Some first) (node_index n (suc first) ns) ≡ None → (node_index n (suc first) ns ≡ None → redirected_after n f ns ≡ ns) →
          cond t (node_then x (nodes_redirected f ns)) (node_then x (redirected_after n f ns)) ≡ node_then x ns
      by true e h = absurd cc
      by false e h = ap (node_then x) (h e)

  after_from : (first p : ℕ) (xs : List NodeTree) → node_index n first (nodes_of xs) ≡ Some (first + p) →
      redirected_after n f (nodes_of xs) ≡ nodes_of (take (suc p) xs ++ map (node_redirected f) (drop (suc p) xs))
  after_from first p [] e = absurd cc
  after_from first zero (x ∷ xs) e = by (id_of x == n) e
    where
      by : (t : Bool) → cond t (Some first) (node_index n (suc first) (nodes_of xs)) ≡ Some (first + 0) →
          cond t (node_then x (nodes_redirected f (nodes_of xs))) (node_then x (redirected_after n f (nodes_of xs))) ≡ node_then x (nodes_of (map (node_redirected f) xs))
      by true e = ap (node_then x) (sym (nodes_of-redirected f xs))
      by false e = absurd (omega (arith, node_index_least n (suc first) (first + 0) (nodes_of xs) e))
  after_from first (suc p) (x ∷ xs) e = by (id_of x == n) e (after_from (suc first) p xs)
    where
      by : (t : Bool) → cond t (Some first) (node_index n (suc first) (nodes_of xs)) ≡ Some (first + suc p) →
          (node_index n (suc first) (nodes_of xs) ≡ Some (suc first + p) → redirected_after n f (nodes_of xs) ≡ nodes_of (take (suc p) xs ++ map (node_redirected f) (drop (suc p) xs))) →
          cond t (node_then x (nodes_redirected f (nodes_of xs))) (node_then x (redirected_after n f (nodes_of xs))) ≡
          node_then x (nodes_of (take (suc p) xs ++ map (node_redirected f) (drop (suc p) xs)))
      by true e h = absurd (omega (arith, same_Some first (first + suc p) e))
      by false e h = ap (node_then x) (h (e ∙ ap Some (omega arith)))

  pub after_at : (p : ℕ) (xs : List NodeTree) → node_index n 0 (nodes_of xs) ≡ Some p →
      redirected_after n f (nodes_of xs) ≡ nodes_of (take (p + 1) xs ++ map (node_redirected f) (drop (p + 1) xs))
  after_at p xs e = rw add-one (after_from 0 p xs (e ∙ ap Some (omega arith)))

-- ---- a node and what follows it

module _ (n : ℕ) (f : NodeTree → NodeTree) (g : Origin → Origin) (same_id : (x : NodeTree) → id_of (f x) ≡ id_of x) where
  -- the head of a list whose tail is edited
  edited_then : (x : NodeTree) (ns all : NodeTrees) (t : Bool) → (id_of x == n) ≡ t → all ≡ redirected_after n g (nodes_edited n f ns) →
      cond t (node_then (f x) (nodes_redirected g ns)) (node_then x all) ≡ redirected_after n g (cond t (node_then (f x) ns) (node_then x (nodes_edited n f ns)))
  edited_then x ns all true e h =
      let here : (id_of (f x) == n) ≡ true = ap (λ k. k == n) (same_id x) ∙ e in
      sym (ap (λ t. cond t (node_then (f x) (nodes_redirected g ns)) (node_then (f x) (redirected_after n g ns))) here)
  edited_then x ns all false e h =
      ap (node_then x) h ∙ sym (ap (λ t. cond t (node_then x (nodes_redirected g (nodes_edited n f ns))) (node_then x (redirected_after n g (nodes_edited n f ns)))) e)

giving_id : (stays : List Bool) (x : NodeTree) → id_of (node_giving stays x) ≡ id_of x
giving_id stays (node id op inputs rs) = refl

pub giving_is : (n : ℕ) (stays : List Bool) (ns : NodeTrees) → redirected_after n (output_after n stays) (nodes_edited n (node_giving stays) ns) ≡ nodes_giving n stays ns
giving_is n stays no_nodes = refl
giving_is n stays (node_then x ns) =
    sym (edited_then n (node_giving stays) (output_after n stays) (giving_id stays) x ns (nodes_giving n stays ns) (id_of x == n) refl (sym (giving_is n stays ns)))

looping_id : (stays : List Bool) (x : NodeTree) → id_of (node_looping stays x) ≡ id_of x
looping_id stays (node id op inputs no_regions) = refl
looping_id stays (node id op inputs (region_then r no_regions)) = refl
looping_id stays (node id op inputs (region_then r (region_then s rs))) = refl

pub looping_is : (n : ℕ) (stays : List Bool) (ns : NodeTrees) → redirected_after n (output_after n stays) (nodes_edited n (node_looping stays) ns) ≡ nodes_looping n stays ns
looping_is n stays no_nodes = refl
looping_is n stays (node_then x ns) =
    sym (edited_then n (node_looping stays) (output_after n stays) (looping_id stays) x ns (nodes_looping n stays ns) (id_of x == n) refl (sym (looping_is n stays ns)))

pub taking_is : (n : ℕ) (stays : List Bool) (ns : NodeTrees) → nodes_edited n (node_taking stays) ns ≡ nodes_taking n stays ns
taking_is n stays no_nodes = refl
taking_is n stays (node_then x ns) = ap (λ ms. cond (id_of x == n) (node_then (node_taking stays x) ns) (node_then x ms)) (taking_is n stays ns)

pub carrying_is : (n : ℕ) (cs : List (Option Origin)) (ns : NodeTrees) →
    redirected_after n (output_carried n cs (staying cs)) (nodes_edited n (node_giving (staying cs)) ns) ≡ nodes_carrying n cs ns
carrying_is n cs no_nodes = refl
carrying_is n cs (node_then x ns) =
    sym (edited_then n (node_giving (staying cs)) (output_carried n cs (staying cs)) (giving_id (staying cs)) x ns (nodes_carrying n cs ns) (id_of x == n) refl (sym (carrying_is n cs ns)))

-- ---- the regions of a node

pub regions_giving_is : (stays : List Bool) (rs : List RegionTree) → regions_of (map (region_giving stays) rs) ≡ regions_giving stays (regions_of rs)
regions_giving_is stays [] = refl
regions_giving_is stays (region args nodes results ∷ rs) = ap (region_then (region_giving stays (region args nodes results))) (regions_giving_is stays rs)

pub regions_taking_is : (stays : List Bool) (rs : List RegionTree) → regions_of (map (region_taking stays) rs) ≡ regions_taking stays (regions_of rs)
regions_taking_is stays [] = refl
regions_taking_is stays (region args nodes results ∷ rs) = ap (region_then (region_taking stays (region args nodes results))) (regions_taking_is stays rs)

-- ---- tests, one after another

stay_suc : (ts : List Bool) (i : ℕ) (t : Bool) → slice_get ts i ≡ Some t → all_stay (drop i ts) ≡ (t && all_stay (drop (suc i) ts))
stay_suc [] i t e = absurd cc
stay_suc (s ∷ ts) zero t e = ap (λ u. u && all_stay ts) (same_Some s t e)
stay_suc (s ∷ ts) (suc i) t e = stay_suc ts i t e

pub stay_more : (ts : List Bool) (i : ℕ) (t : Bool) → slice_get ts i ≡ Some t → all_stay (drop i ts) ≡ (t && all_stay (drop (i + 1) ts))
stay_more ts i t e = rw add-one (stay_suc ts i t e)

take_suc : {X : Type 0} (xs : List X) (i : ℕ) (x : X) → slice_get xs i ≡ Some x → take (suc i) xs ≡ take i xs ++ x ∷ []
take_suc [] i x e = absurd cc
take_suc (y ∷ xs) zero x e = ap (λ z. z ∷ []) (same_Some y x e)
take_suc (y ∷ xs) (suc i) x e = ap (λ ys. y ∷ ys) (take_suc xs i x e)

pub take_get : {X : Type 0} (xs : List X) (i : ℕ) (x : X) → slice_get xs i ≡ Some x → take (i + 1) xs ≡ take i xs ++ x ∷ []
take_get xs i x e = rw add-one (take_suc xs i x e)

-- ---- a Theta with its one region

pub not_looping : (stays : List Bool) (id : ℕ) (op : Op) (inputs : List Origin) (rs : List RegionTree) → (length rs ≡ 1 → ⊥) →
    node_looping stays (node id op inputs (regions_of rs)) ≡ node id op inputs (regions_of rs)
not_looping stays id op inputs [] h = refl
not_looping stays id op inputs (r ∷ []) h = absurd (h refl)
not_looping stays id op inputs (r ∷ s ∷ rs) h = refl
