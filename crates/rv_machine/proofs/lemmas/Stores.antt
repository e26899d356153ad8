-- Bytes that are stored and loaded.
use Rattle.std.proofs.Common.{◌≡◌, ◌≢◌, ℕ, zero, suc, ◌+◌, ◌*◌, ◌/◌, ◌%◌, ◌^◌, ◌<◌, refl, sym, ap, ◌∙◌, arith, inl, inr, eq-eqb}
use Rattle.std.proofs.lemmas.Bool.{ne_eqb}
use Rattle.std.proofs.lemmas.Nat.{mod-pow-add}
use Rattle.rv_machine.specs.Memory.{Bytes, put_at, load_bytes, store_bytes}
use Rattle.rv_machine.specs.MemoryLaws.{StoredIsLoaded, StoreLeavesOthers, LoadElsewhere}

put-other : (mem : Bytes) (a n x : ℕ) → x ≢ a → put_at mem a n x ≡ mem x
put-other mem a n x other = rw (ne_eqb x a other) refl

put-same : (mem : Bytes) (a n : ℕ) → put_at mem a n a ≡ n
put-same mem a n = rw (eq-eqb a a refl) refl

pub store_leaves_others : StoreLeavesOthers
unfolding store_bytes
store_leaves_others mem a n zero x apart = refl
store_leaves_others mem a n (suc k) x (inl before) =
    store_leaves_others (put_at mem a (n % 256)) (suc a) (n / 256) k x (inl (omega arith))
    ∙ put-other mem a (n % 256) x (omega arith)
store_leaves_others mem a n (suc k) x (inr after) =
    store_leaves_others (put_at mem a (n % 256)) (suc a) (n / 256) k x (inr (omega arith))
    ∙ put-other mem a (n % 256) x (omega arith)

pub load-agrees : (mem mem' : Bytes) (a k : ℕ) → ((j : ℕ) → j < k → mem' (a + j) ≡ mem (a + j)) → load_bytes mem' a k ≡ load_bytes mem a k
unfolding load_bytes
load-agrees mem mem' a zero same = refl
load-agrees mem mem' a (suc k) same =
    let here : mem' a ≡ mem a = ap mem' (omega arith) ∙ same 0 (omega arith) ∙ ap mem (omega arith) in
    let rest : load_bytes mem' (suc a) k ≡ load_bytes mem (suc a) k =
    load-agrees mem mem' (suc a) k (λ j below. ap mem' (omega arith) ∙ same (suc j) (omega arith) ∙ ap mem (omega arith)) in
    rw here rw rest refl

pub load_elsewhere : LoadElsewhere
load_elsewhere mem a n k b j (inl before) =
    load-agrees mem (store_bytes mem a n k) b j (λ i below. store_leaves_others mem a n k (b + i) (inl (omega arith)))
load_elsewhere mem a n k b j (inr after) =
    load-agrees mem (store_bytes mem a n k) b j (λ i below. store_leaves_others mem a n k (b + i) (inr (omega arith)))

split : (n k : ℕ) → n % 256 + 256 * (n / 256 % 2 ^ (8 * k)) ≡ n % 2 ^ (8 * suc k)
split n k =
    let same : 8 * suc k ≡ 8 * k + 8 = omega arith in
    let part : n % 2 ^ (8 * k + 8) ≡ (n / 256 % 2 ^ (8 * k)) * 256 + n % 256 = mod-pow-add n (8 * k) 8 in
    let turned : n % 256 + 256 * (n / 256 % 2 ^ (8 * k)) ≡ (n / 256 % 2 ^ (8 * k)) * 256 + n % 256 = omega arith in
    turned ∙ sym part ∙ ap (λ e. n % 2 ^ e) (sym same)

pub stored_is_loaded : StoredIsLoaded
unfolding store_bytes load_bytes
stored_is_loaded mem a n zero = omega arith
stored_is_loaded mem a n (suc k) =
    let rest : Bytes = put_at mem a (n % 256) in
    let here : store_bytes rest (suc a) (n / 256) k a ≡ n % 256 =
    store_leaves_others rest (suc a) (n / 256) k a (inl (omega arith)) ∙ put-same mem a (n % 256) in
    rw here rw (stored_is_loaded rest (suc a) (n / 256) k) (split n k)
