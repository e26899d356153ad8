-- What is written after a node is written, or moved.
use Rattle.std.proofs.Common.{◌≡◌, ℕ, Bool, true, false, cond, List, [], ◌∷◌, ◌++◌, length, slice_get, slice_set, Option, None, Some, option_map, refl, sym, ap, ap₂, ◌∙◌, arith}
use Rattle.std.proofs.lemmas.Option.{same_Some}
use Rattle.g_graph.specs.declared.op.Origin.{Origin}
use Rattle.r_rule.specs.declared.steps.Rule.TheVariants.{Pull}
use Rattle.g_graph.specs.Plain.{NodeTree, id_of, inputs_in}
use Rattle.r_pull.specs.Rule as rule
use Rattle.r_pull.specs.Rule.{fits, where_fits, gamma_pulled, copies_of, added, gone}
use Rattle.r_pull.specs.Edit.{pull_into, moved_of, gamma_after}
use Rattle.r_pull.specs.declared.into.Moved.{Moved}
use Rattle.r_pull.specs.Walk.{pull_behind, put, put_where}
use Rattle.r_pull.specs.declared.users.User.TheVariants.{Entries}
use Rattle.r_pull.specs.declared.users.Users.{Users}
use Rattle.r_pull.specs.Behind.{behind, can_leave, IsWritten}
use Rattle.r_pull.specs.Users.{both_use, node_user, user_among, user_in, AreUsers, carried_with, user_after}
use Rattle.r_pull.proofs.After.{node_behind, users_written, users_moved, own_inputs}
use Rattle.r_pull.proofs.Written.{Used, used_at, stays_behind, moves_behind, changed_entry}
use Rattle.r_walk.specs.Walk.{Walking, stepped}

some_is_none : {X : Type 0} (y : X) → Some y ≡ None → ⊥
some_is_none y e = absurd cc

module _ (x : NodeTree) (results : List Origin) (ws : List NodeTree) (w : Walking) (users : Users) (are : AreUsers users results ws) where
  -- it is written
  module _ (ws' : List NodeTree) (users' : Users) (nodes : ws' ≡ ws ++ x ∷ []) (noted : (n : ℕ) → user_in users' n ≡ both_use (user_in users n) (node_user n (length ws) x)) where
    stayed : pull_behind x results (behind ws w) ≡ None → IsWritten results (put_where x results (behind ws w)) ws' users' w
    stayed none =
        record {
          is = ap (λ vs. behind vs w) nodes ∙ ap (λ ns. record { nodes = ns; now = w }) (node_behind ws x) ∙ ap (put x (behind ws w)) (sym none);
          users_are = λ n. noted n ∙ ap (λ u. both_use u (node_user n (length ws) x)) (are n) ∙ users_written results ws x n ∙ ap (λ vs. user_among results vs n) (sym nodes);
        }

    -- where no Gamma takes it
    pub untaken : ((j : ℕ) → user_in users (id_of x) ≡ Entries j → can_leave x ≡ true → ⊥) → IsWritten results (put_where x results (behind ws w)) ws' users' w
    untaken h = stayed (stays_behind x results ws w (λ j e leaves. h j (are (id_of x) ∙ e) leaves))

  -- ---- the Gamma of a place

  get_there : (earlier : List NodeTree) (g : NodeTree) (later : List NodeTree) → slice_get (earlier ++ g ∷ later) (length earlier) ≡ Some g
  get_there [] g later = refl
  get_there (y ∷ ys) g later = get_there ys g later

  set_there : (earlier : List NodeTree) (g : NodeTree) (later : List NodeTree) (y : NodeTree) → slice_set (earlier ++ g ∷ later) (length earlier) y ≡ earlier ++ y ∷ later
  set_there [] g later y = refl
  set_there (z ∷ zs) g later y = ap (λ ys. z ∷ ys) (set_there zs g later y)

  module _ (place : ℕ) (user : user_in users (id_of x) ≡ Entries place) (leaves : can_leave x ≡ true) where
    used : Used (id_of x) results ws place
    used = used_at (id_of x) results ws place (sym (are (id_of x)) ∙ user)

    at_place : length used.entry.earlier ≡ place
    at_place = omega (arith, used.entry.place)

    found : slice_get ws place ≡ Some used.entry.gamma
    found = ap₂ slice_get used.entry.is (sym at_place) ∙ get_there used.entry.earlier used.entry.gamma used.entry.later

    set_at : (y : NodeTree) → slice_set ws place y ≡ used.entry.earlier ++ y ∷ used.entry.later
    set_at y = ap₂ (λ vs k. slice_set vs k y) used.entry.is (sym at_place) ∙ set_there used.entry.earlier used.entry.gamma used.entry.later y

    -- there is one
    pub is_there : slice_get ws place ≡ None → ⊥
    is_there none = some_is_none used.entry.gamma (sym found ∙ none)

    module _ (g : NodeTree) (at : slice_get ws place ≡ Some g) where
      same_gamma : g ≡ used.entry.gamma
      same_gamma = same_Some g used.entry.gamma (sym at ∙ found)

      moves_is : pull_behind x results (behind ws w) ≡ where_fits w.values w.next (id_of x) (pull_into x g)
      moves_is = moves_behind x results ws w place used leaves ∙ ap (λ y. where_fits w.values w.next (id_of x) (pull_into x y)) (sym same_gamma)

      abbrev pulled : rule.Pull
      pulled = pull_into x used.entry.gamma

      none_fits : (o : Option rule.Pull) → None ≡ option_map (moved_of (id_of x)) o → o ≡ None
      none_fits None e = refl
      none_fits (Some h) e = absurd cc

      -- it does not fit, and is written
      pub kept : (users' : Users) (ws' ws'' : List NodeTree) → None ≡ option_map (moved_of (id_of x)) (where_fits w.values w.next (id_of x) (pull_into x g)) →
          ws' ≡ slice_set ws place (gamma_after w.next (id_of x) (where_fits w.values w.next (id_of x) (pull_into x g)) g) → ws'' ≡ ws' ++ x ∷ [] →
          ((n : ℕ) → user_in users' n ≡ both_use (user_in users n) (node_user n (length ws') x)) → IsWritten results (put_where x results (behind ws w)) ws'' users' w
      kept users' ws' ws'' e changed nodes noted =
          let none = none_fits (where_fits w.values w.next (id_of x) (pull_into x g)) e in
          let same : ws' ≡ ws =
          changed ∙ ap (λ o. slice_set ws place (gamma_after w.next (id_of x) o g)) none ∙ ap (slice_set ws place) same_gamma ∙ set_at used.entry.gamma ∙ sym used.entry.is in
          stayed ws'' users' (nodes ∙ ap (λ vs. vs ++ x ∷ []) same) (λ n. noted n ∙ ap (λ vs. both_use (user_in users n) (node_user n (length vs) x)) same) (moves_is ∙ none)

      -- it moved
      pub moved : (m : Moved) (users' : Users) (ws' : List NodeTree) (w' : Walking) → Some m ≡ option_map (moved_of (id_of x)) (where_fits w.values w.next (id_of x) (pull_into x g)) →
          ws' ≡ slice_set ws place (gamma_after w.next (id_of x) (where_fits w.values w.next (id_of x) (pull_into x g)) g) →
          ((n : ℕ) → user_in users' n ≡ user_after (id_of x) place (carried_with m.copies (inputs_in x)) n (user_in users n)) →
          w' ≡ stepped Pull (id_of x) m.gone m.added m.copies w → IsWritten results (put_where x results (behind ws w)) ws' users' w'
      moved m users' ws' w' e changed noted now = by (fits w.values w.next (id_of x) (pull_into x g)) refl
        where
          by : (t : Bool) → fits w.values w.next (id_of x) (pull_into x g) ≡ t → IsWritten results (put_where x results (behind ws w)) ws' users' w'
          by false q = absurd (some_is_none m (e ∙ ap (λ t. option_map (moved_of (id_of x)) (cond t (Some (pull_into x g)) None)) q))
          by true q =
              let fitting : where_fits w.values w.next (id_of x) (pull_into x g) ≡ Some pulled = ap (λ t. cond t (Some (pull_into x g)) None) q ∙ ap (λ y. Some (pull_into x y)) same_gamma in
              let counts : m ≡ moved_of (id_of x) pulled = same_Some m (moved_of (id_of x) pulled) (e ∙ ap (option_map (moved_of (id_of x))) fitting) in
              let nodes : ws' ≡ used.entry.earlier ++ gamma_pulled w.next (id_of x) pulled used.entry.gamma ∷ used.entry.later =
              changed ∙ ap (λ o. slice_set ws place (gamma_after w.next (id_of x) o g)) fitting ∙ ap (λ y. slice_set ws place (gamma_pulled w.next (id_of x) pulled y)) same_gamma
              ∙ set_at (gamma_pulled w.next (id_of x) pulled used.entry.gamma) in
              record {
                is = ap₂ behind nodes (now ∙ ap (λ (k : Moved). stepped Pull (id_of x) k.gone k.added k.copies w) counts)
                    ∙ ap (λ ns. record { nodes = ns; now = stepped Pull (id_of x) (gone (id_of x) pulled) (added (id_of x) pulled) (copies_of (id_of x) pulled) w })
                    (sym (changed_entry (id_of x) 0 place ws used.entry (gamma_pulled w.next (id_of x) pulled)))
                    ∙ ap (put x (behind ws w)) (sym (moves_is ∙ fitting));
                users_are = λ k. noted k ∙ ap (user_after (id_of x) place (carried_with m.copies (inputs_in x)) k) (are k)
                    ∙ users_moved w.next (id_of x) place x results ws used m.copies (ap (λ (j : Moved). j.copies) counts) (own_inputs x used.entry.gamma) k ∙ ap (λ vs. user_among results vs k) (sym nodes);
              }
