-- How a change of one block shows at the others.
use Rattle.std.proofs.Common.{◌≡◌, ◌≢◌, ℕ, zero, suc, ◌==◌, Bool, true, false, cond, [], ◌∷◌, map, slice_get, Option, None, Some, option_map, option_and_then, refl, sym, ap, ◌∙◌, arith}
use Rattle.std.proofs.lemmas.Bool.Decides.{nat_tests}
use Rattle.val_core.specs.declared.values.BlockName.{BlockName}
use Rattle.val_core.specs.Memory.{Block, Memory, block_named, block_changed}

pub get-changed-same : (n : ℕ) (f : Block → Block) (m : Memory) → slice_get (block_changed n f m) n ≡ option_map f (slice_get m n)
get-changed-same n f [] = refl
get-changed-same zero f (k ∷ m) = refl
get-changed-same (suc n) f (k ∷ m) = get-changed-same n f m

pub get-changed-other : (n i : ℕ) (f : Block → Block) (m : Memory) → n ≢ i → slice_get (block_changed n f m) i ≡ slice_get m i
get-changed-other n i f [] ne = refl
get-changed-other zero zero f (k ∷ m) ne = absurd (ne refl)
get-changed-other zero (suc i) f (k ∷ m) ne = refl
get-changed-other (suc n) zero f (k ∷ m) ne = refl
get-changed-other (suc n) (suc i) f (k ∷ m) ne = get-changed-other n i f m (λ e. ne (ap suc e))

pub changed-twice : (n : ℕ) (f g : Block → Block) (m : Memory) → block_changed n f (block_changed n g m) ≡ block_changed n (λ k. f (g k)) m
changed-twice n f g [] = refl
changed-twice zero f g (k ∷ m) = refl
changed-twice (suc n) f g (k ∷ m) = ap (λ r. k ∷ r) (changed-twice n f g m)

pub changed-refine : (n : ℕ) (f g : Block → Block) (m : Memory) → ((k : Block) → f k ≡ g k) → block_changed n f m ≡ block_changed n g m
changed-refine n f g [] e = refl
changed-refine zero f g (k ∷ m) e = ap (λ j. j ∷ m) (e k)
changed-refine (suc n) f g (k ∷ m) e = ap (λ r. k ∷ r) (changed-refine n f g m e)

pub changed-apart : (n i : ℕ) (f g : Block → Block) (m : Memory) → n ≢ i → block_changed n f (block_changed i g m) ≡ block_changed i g (block_changed n f m)
changed-apart n i f g [] ne = refl
changed-apart zero zero f g (k ∷ m) ne = absurd (ne refl)
changed-apart zero (suc i) f g (k ∷ m) ne = refl
changed-apart (suc n) zero f g (k ∷ m) ne = refl
changed-apart (suc n) (suc i) f g (k ∷ m) ne = ap (λ r. k ∷ r) (changed-apart n i f g m (λ e. ne (ap suc e)))

pub map-changed : {X : Type 0} (p : Block → X) (n : ℕ) (f : Block → Block) (m : Memory) → ((k : Block) → p (f k) ≡ p k) → map p (block_changed n f m) ≡ map p m
map-changed p n f [] e = refl
map-changed p zero f (k ∷ m) e = ap (λ x. x ∷ map p m) (e k)
map-changed p (suc n) f (k ∷ m) e = ap (λ r. p k ∷ r) (map-changed p n f m e)

sized-changed : (b : BlockName) (f : Block → Block) (k : Block) (test : Bool) → (f k).size ≡ k.size → (k.size == b.size) ≡ test →
    cond ((f k).size == b.size) (Some (f k)) None ≡ option_map f (cond test (Some k) None)
sized-changed b f k true same is = ap (λ s. cond (s == b.size) (Some (f k)) None) same ∙ ap (λ t. cond t (Some (f k)) None) is
sized-changed b f k false same is = ap (λ s. cond (s == b.size) (Some (f k)) None) same ∙ ap (λ t. cond t (Some (f k)) None) is

pub named-in : (b : BlockName) (f : Block → Block) (found : Option Block) → ((k : Block) → (f k).size ≡ k.size) →
    option_and_then (λ k. cond (k.size == b.size) (Some k) None) (option_map f found)
    ≡ option_map f (option_and_then (λ k. cond (k.size == b.size) (Some k) None) found)
named-in b f None same = refl
named-in b f (Some k) same =
    sized-changed b f k (k.size == b.size) (same k) refl

-- a change that keeps sizes changes the block of its name
pub named-changed : (b : BlockName) (f : Block → Block) (m : Memory) → ((k : Block) → (f k).size ≡ k.size) →
    block_named b (block_changed b.number f m) ≡ option_map f (block_named b m)
named-changed b f m same =
    ap (option_and_then (λ k. cond (k.size == b.size) (Some k) None)) (get-changed-same b.number f m)
    ∙ named-in b f (slice_get m b.number) same

-- and no other
pub named-other : (n : ℕ) (c : BlockName) (f : Block → Block) (m : Memory) → n ≢ c.number → block_named c (block_changed n f m) ≡ block_named c m
named-other n c f m ne = ap (option_and_then (λ k. cond (k.size == c.size) (Some k) None)) (get-changed-other n c.number f m ne)

-- two names of one number that name blocks are one name
size-named : (b : BlockName) (found k : Block) → cond (found.size == b.size) (Some found) None ≡ Some k → found.size ≡ b.size
size-named b found k is = grind (arith, nat_tests)

sizes-in : (b c : BlockName) (found : Option Block) (k j : Block) →
    option_and_then (λ x. cond (x.size == b.size) (Some x) None) found ≡ Some k →
    option_and_then (λ x. cond (x.size == c.size) (Some x) None) found ≡ Some j → b.size ≡ c.size
sizes-in b c None k j p q = cc
sizes-in b c (Some x) k j p q = sym (size-named b x k p) ∙ size-named c x j q

pub sizes-agree : (b c : BlockName) (k j : Block) (m : Memory) → b.number ≡ c.number → block_named b m ≡ Some k → block_named c m ≡ Some j → b.size ≡ c.size
sizes-agree b c k j m same p q =
    sizes-in b c (slice_get m b.number) k j p
    (ap (λ n. option_and_then (λ x. cond (x.size == c.size) (Some x) None) (slice_get m n)) same ∙ q)
