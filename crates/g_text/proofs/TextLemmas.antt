-- How the texts go on by one.
use Rattle.std.proofs.Common.{◌≡◌, refl, sym, ap, ◌∙◌, ℕ, zero, suc, ◌+◌, ◌<◌, List, [], ◌∷◌, ◌++◌, take, flat_map, codes, slice_get, length, arith, append-nil, append_assoc}
use Rattle.std.specs.declared.option.Option.{Option}
use Rattle.g_graph.specs.declared.op.Kind.{Kind}
use Rattle.g_graph.specs.Signatures.{joined}
use Rattle.g_text.specs.Texts.{blanks, kind_text}

-- two blanks more
pub blanks_next : (n : ℕ) → blanks n ++ codes "  " ≡ blanks (suc n)
blanks_next zero = refl
blanks_next (suc n) = ap (λ t. codes "  " ++ t) (blanks_next n)

-- a letter more
pub letters_next : (ks : List (Option Kind)) (i : ℕ) → i < length ks → flat_map kind_text (take i ks) ++ kind_text (joined (slice_get ks i)) ≡ flat_map kind_text (take (suc i) ks)
letters_next [] i h = absurd (omega arith)
letters_next (k ∷ ks) zero h = sym (append-nil (kind_text k))
letters_next (k ∷ ks) (suc i) h =
    append_assoc (kind_text k) (flat_map kind_text (take i ks)) (kind_text (joined (slice_get ks i))) ∙ ap (λ t. kind_text k ++ t) (letters_next ks i (omega arith))

pub blanks_more : (n : ℕ) → blanks n ++ codes "  " ≡ blanks (n + 1)
blanks_more n =
    let next : suc n ≡ n + 1 = omega arith in
    blanks_next n ∙ ap blanks next

pub letters_more : (ks : List (Option Kind)) (i : ℕ) → i < length ks → flat_map kind_text (take i ks) ++ kind_text (joined (slice_get ks i)) ≡ flat_map kind_text (take (i + 1) ks)
letters_more ks i h =
    let next : suc i ≡ i + 1 = omega arith in
    letters_next ks i h ∙ ap (λ n. flat_map kind_text (take n ks)) next
