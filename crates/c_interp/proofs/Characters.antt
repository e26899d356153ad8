-- Characters that are stored one after the other.
use Rattle.std.proofs.Common.{◌≡◌, ℕ, ◌+◌, ◌<◌, ◌≤◌, Bool, true, false, List, ◌∷◌, length, drop, get_or, drop-cons, add-one, refl, sym, ap, ◌∙◌, subst}
use Rattle.std.specs.Prelude.{Option, None, Some, option_and_then}
use Rattle.std.proofs.lemmas.Bool.{false≢true}
use Rattle.std.proofs.lemmas.List.{drop_all}
use Rattle.val_core.specs.declared.values.Value.{Value}
use Rattle.val_core.specs.declared.values.Value.TheVariants.{Num}
use Rattle.val_core.specs.Memory.{Memory, store}
use Rattle.c_mean.specs.State.{bytes_into}
use Rattle.c_mean.specs.Statements.{characters_stored}
use Rattle.c_interp_store.specs.declared.store.Store.{Store}
use Rattle.c_interp_store.specs.Holding.{Opened, Holds, IsChanged}
use Rattle.c_interp.specs.Steps.{IsSomeHeld}

-- the character at an index, and those after it
character-at : (cs : List ℕ) (i : ℕ) → i < length cs → drop i cs ≡ get_or cs i 0 ∷ drop (i + 1) cs
character-at cs i lt = drop-cons cs i 0 lt ∙ ap (λ k. get_or cs i 0 ∷ drop k cs) (sym (add-one i))

-- one of them is stored, and then the others
one-stored : (object to : Value) (at next : ℕ) (cs : List ℕ) (i x : ℕ) (m : Memory) → i < length cs → x ≡ get_or cs i 0 → to ≡ bytes_into object at → next ≡ at + 1 →
    characters_stored object at (drop i cs) m ≡ option_and_then (characters_stored object next (drop (i + 1) cs)) (store 1 to (Num x) m)
one-stored object to at next cs i x m lt x_is there is =
    ap (λ l. characters_stored object at l m) (character-at cs i lt)
    ∙ ap (λ k. option_and_then (characters_stored object k (drop (i + 1) cs)) (store 1 (bytes_into object at) (Num (get_or cs i 0)) m)) (sym (is ∙ add-one at))
    ∙ ap (λ a. option_and_then (characters_stored object next (drop (i + 1) cs)) (store 1 a (Num (get_or cs i 0)) m)) (sym there)
    ∙ ap (λ y. option_and_then (characters_stored object next (drop (i + 1) cs)) (store 1 to (Num y) m)) (sym x_is)

-- what is left of them in a memory that the store holds
abbrev pub AreLeft : (object : Value) (at : ℕ) (left : List ℕ) → List Opened → Store → Option Memory → Type 0
AreLeft object at left calls s all = (k : Memory) × Holds s calls k × (all ≡ characters_stored object at left k)

pub characters_more : (object to : Value) (at next : ℕ) (cs : List ℕ) (i x : ℕ) (calls : List Opened) (s t : Store) (d : Bool) (all : Option Memory) → i < length cs → x ≡ get_or cs i 0 → to ≡ bytes_into object at → next ≡ at + 1 → d ≡ true →
    ((m : Memory) → Holds s calls m → IsChanged calls (store 1 to (Num x) m) t d) →
    AreLeft object at (drop i cs) calls s all → AreLeft object next (drop (i + 1) cs) calls t all
characters_more object to at next cs i x calls s t d all lt x_is there is done changes (k, holds, e) = by (store 1 to (Num x) k) refl (changes k holds)
  where
    by : (o : Option Memory) → store 1 to (Num x) k ≡ o → IsChanged calls o t d → AreLeft object next (drop (i + 1) cs) calls t all
    by None q h = absurd (false≢true (sym h ∙ done))
    by (Some j) q h = (j, h.1, e ∙ one-stored object to at next cs i x k lt x_is there is ∙ ap (option_and_then (characters_stored object next (drop (i + 1) cs))) q)

pub characters_not : (object to : Value) (at : ℕ) (cs : List ℕ) (i x : ℕ) (calls : List Opened) (s t : Store) (d : Bool) (all : Option Memory) → i < length cs → x ≡ get_or cs i 0 → to ≡ bytes_into object at → d ≡ false →
    ((m : Memory) → Holds s calls m → IsChanged calls (store 1 to (Num x) m) t d) →
    AreLeft object at (drop i cs) calls s all → all ≡ None
characters_not object to at cs i x calls s t d all lt x_is there done changes (k, holds, e) = by (store 1 to (Num x) k) refl (changes k holds)
  where
    by : (o : Option Memory) → store 1 to (Num x) k ≡ o → IsChanged calls o t d → all ≡ None
    by None q h = e ∙ one-stored object to at (at + 1) cs i x k lt x_is there refl ∙ ap (option_and_then (characters_stored object (at + 1) (drop (i + 1) cs))) q
    by (Some j) q h = absurd (false≢true (sym done ∙ h.0))

pub characters_done : (object : Value) (at : ℕ) (cs : List ℕ) (i : ℕ) (calls : List Opened) (s : Store) (all : Option Memory) → length cs ≤ i → AreLeft object at (drop i cs) calls s all → IsSomeHeld calls all s
characters_done object at cs i calls s all past (k, holds, e) =
    let P : Option Memory → Type 0 = λ o. IsSomeHeld calls o s in subst P (sym (e ∙ ap (λ l. characters_stored object at l k) (drop_all i cs past))) holds
