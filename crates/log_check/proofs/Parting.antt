-- Two lists part at one place at most, and no list from itself.
use Rattle.std.proofs.Common.{◌≡◌, ◌≢◌, ◌<◌, ◌≤◌, ℕ, List, length, None, Some, slice_get, slice_index, sym, ap, ◌∙◌, inl, inr, arith}
use Rattle.std.specs.Prelude.{unwrap_or, get_or}
use Rattle.std.proofs.lemmas.Bool.{cases_eq, cases_lt}
use Rattle.std.proofs.lemmas.List.{ext_get_or}
use Rattle.std.proofs.lemmas.Option.{slice_get-get_or, slice_get_past, unwrap_or-slice_get}
use Rattle.log_check.specs.Parting.{PartAt}

pub part-once : {X : Type 0} (xs ys : List X) (m n : ℕ) → PartAt xs ys m → PartAt xs ys n → m ≡ n
part-once xs ys m n h g =
    elim (cases_eq m n) [
      | inl same ↦ same
      | inr other ↦
          elim (cases_lt m n) [ inl low ↦ absurd (h.other (g.same m low)) | inr high ↦ absurd (g.other (h.same n (omega (arith, high, other)))) ]
    ]

pub never-apart : {X : Type 0} (xs ys : List X) (n : ℕ) → xs ≡ ys → PartAt xs ys n → ⊥
never-apart xs ys n same h = h.other (ap (λ zs. slice_get zs n) same)

-- ---- lists that have the same elements as far as both go

-- where one of them ends they part
pub ends-apart : {X : Type 0} (xs ys : List X) (n : ℕ) → ((j : ℕ) → j < n → slice_get xs j ≡ slice_get ys j) → length xs ≤ n → n < length ys → (d : X) → PartAt xs ys n
ends-apart xs ys n same short long d =
    record {
      same = same;
      other = λ e. let clash : None ≡ Some (get_or ys n d) = sym (slice_get_past xs n short) ∙ (e ∙ slice_get-get_or ys n d long) in absurd cc;
    }

pub ends-before : {X : Type 0} (xs ys : List X) (n : ℕ) → ((j : ℕ) → j < n → slice_get xs j ≡ slice_get ys j) → length ys ≤ n → n < length xs → (d : X) → PartAt xs ys n
ends-before xs ys n same short long d =
    record {
      same = same;
      other = λ e. let clash : Some (get_or xs n d) ≡ None = sym (slice_get-get_or xs n d long) ∙ (e ∙ slice_get_past ys n short) in absurd cc;
    }

-- two of one length are one
pub same-to-end : {X : Type 0} (xs ys : List X) (d : X) → length xs ≡ length ys → ((j : ℕ) → j < length xs → slice_get xs j ≡ slice_get ys j) → xs ≡ ys
same-to-end xs ys d long same =
    ext_get_or d xs ys long (λ j h. sym (unwrap_or-slice_get xs j d) ∙ (ap (λ o. unwrap_or o d) (same j h) ∙ unwrap_or-slice_get ys j d))

-- ---- bytes

pub same_here : (xs ys : List ℕ) (n : ℕ) → n < length xs → n < length ys → slice_index xs n ≡ slice_index ys n → slice_get xs n ≡ slice_get ys n
same_here xs ys n inside within e = slice_get-get_or xs n 0 inside ∙ (ap (λ x. Some x) e ∙ sym (slice_get-get_or ys n 0 within))

pub bytes_apart : (xs ys : List ℕ) (n : ℕ) → ((j : ℕ) → j < n → slice_get xs j ≡ slice_get ys j) → n < length xs → n < length ys → slice_index xs n ≢ slice_index ys n → PartAt xs ys n
bytes_apart xs ys n same inside within other =
    record {
      same = same;
      other = λ e.
          let both : Some (slice_index xs n) ≡ Some (slice_index ys n) = sym (slice_get-get_or xs n 0 inside) ∙ (e ∙ slice_get-get_or ys n 0 within) in
          other (let equal : slice_index xs n ≡ slice_index ys n = cc in equal);
    }

pub ends_differ : (xs ys : List ℕ) → ((j : ℕ) → j < length xs → slice_get xs j ≡ slice_get ys j) → length xs < length ys → PartAt xs ys (length xs)
ends_differ xs ys same low = ends-apart xs ys (length xs) same (omega arith) low 0

pub goes_past : (xs ys : List ℕ) (n : ℕ) → ((j : ℕ) → j < n → slice_get xs j ≡ slice_get ys j) → length ys ≤ n → n < length xs → PartAt xs ys n
goes_past xs ys n same short long = ends-before xs ys n same short long 0

pub same_bytes : (xs ys : List ℕ) → length xs ≡ length ys → ((j : ℕ) → j < length xs → slice_get xs j ≡ slice_get ys j) → xs ≡ ys
same_bytes xs ys long same = same-to-end xs ys 0 long same
