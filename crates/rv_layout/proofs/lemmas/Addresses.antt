-- Lemmas on the addresses of functions and globals.
use Rattle.std.proofs.Common.{◌≡◌, ℕ, zero, suc, ◌+◌, ◌<◌, ◌≤◌, refl, ap, sym, subst, ◌∙◌, IsTrue, true, false, List, [], ◌∷◌, if◌then◌else◌, length, slice_index, arith}
use Rattle.g_graph.specs.WellFormed.{all_of}
use Rattle.g_graph.specs.Plain.{PlainDelta}
use Rattle.rv_layout.specs.declared.item.Item.{Item}
use Rattle.rv_layout.specs.Items.{items_size}
use Rattle.rv_layout.specs.Globals.{global_room, globals_from}
use Rattle.rv_layout.specs.Layout.{Addresses, functions_at, functions_from, fixed_address, data_address, addresses_of}
use Rattle.rv_layout.specs.Conditions.{function_fits, global_fits}

pub length-functions_from : (at : ℕ) (fs : List (List Item)) → length (functions_from at fs) ≡ length fs
length-functions_from at [] = refl
length-functions_from at (f ∷ fs) = ap suc (length-functions_from (at + items_size f) fs)

pub length-globals_from : (fixed other : ℕ) (ds : List PlainDelta) → length (globals_from fixed other ds) ≡ length ds
length-globals_from fixed other [] = refl
length-globals_from fixed other (d ∷ ds) =
    elim d.fixed as (λ b. length (if b then fixed ∷ globals_from (fixed + global_room d) other ds else other ∷ globals_from fixed (other + global_room d) ds)
    ≡ suc (length ds)) [
      | true ↦ ap suc (length-globals_from (fixed + global_room d) other ds)
      | false ↦ ap suc (length-globals_from fixed (other + global_room d) ds)
    ]

-- no function stands before the first
functions_from-le : (at : ℕ) (fs : List (List Item)) (k : ℕ) → k < length fs → at ≤ slice_index (functions_from at fs) k
functions_from-le at [] k h = absurd (omega arith)
functions_from-le at (f ∷ fs) zero h = omega arith
functions_from-le at (f ∷ fs) (suc k) h =
    let rest : at + items_size f ≤ slice_index (functions_from (at + items_size f) fs) k = functions_from-le (at + items_size f) fs k (omega arith) in
    omega arith

-- ---- what holds of addresses, where they are those of functions and globals

pub function_count : (a : Addresses) (fs : List (List Item)) (ds : List PlainDelta) → a ≡ addresses_of fs ds → length a.functions ≡ length fs
function_count a fs ds e = ap (λ (x : Addresses). length x.functions) e ∙ length-functions_from functions_at fs

global_count : (a : Addresses) (fs : List (List Item)) (ds : List PlainDelta) → a ≡ addresses_of fs ds → length a.globals ≡ length ds
global_count a fs ds e = ap (λ (x : Addresses). length x.globals) e ∙ length-globals_from (fixed_address fs) (data_address fs ds + 8) ds

pub main_after : (a : Addresses) (fs : List (List Item)) (ds : List PlainDelta) (main : ℕ) → a ≡ addresses_of fs ds → main < length fs
    → functions_at ≤ slice_index a.functions main
main_after a fs ds main e h = subst (λ (x : Addresses). functions_at ≤ slice_index x.functions main) (sym e) (functions_from-le functions_at fs main h)

pub functions_fit : (a : Addresses) (fs : List (List Item)) (ds : List PlainDelta) → a ≡ addresses_of fs ds
    → IsTrue (all_of (function_fits (length fs) (length ds)) fs) → IsTrue (all_of (function_fits (length a.functions) (length a.globals)) fs)
functions_fit a fs ds e h =
    subst (λ n. IsTrue (all_of (function_fits n (length a.globals)) fs)) (sym (function_count a fs ds e))
    (subst (λ n. IsTrue (all_of (function_fits (length fs) n) fs)) (sym (global_count a fs ds e)) h)

pub globals_fit : (a : Addresses) (fs : List (List Item)) (ds : List PlainDelta) (xs : List ℕ) → xs ≡ a.globals → a ≡ addresses_of fs ds
    → IsTrue (all_of (global_fits (length ds)) ds) → IsTrue (all_of (global_fits (length xs)) ds)
globals_fit a fs ds xs same e h = subst (λ n. IsTrue (all_of (global_fits n) ds)) (sym (ap length same ∙ global_count a fs ds e)) h
