-- What a word's instruction, or its absence, says of the word.
use Rattle.std.proofs.Common.{◌≡◌, ℕ, ◌<◌, ◌^◌, ◌↔◌, Option, Some, None, IsNone, IsFalse, IfSome, is_some, List, [], ◌∷◌, refl, inl, inr}
use Rattle.std.specs.List.{list_any}
use Rattle.std.proofs.lemmas.Bool.{cases_Bool}
use Rattle.rv_isa.specs.Words.{word_of}
use Rattle.rv_isa.specs.Encodings.{Pattern, matches, encodings, first_match, some_encoding_matches, decoded}
use Rattle.rv_isa.specs.RoundTrip.{SomeIfMatched}
use Rattle.rv_isa.specs.declared.instruction.Instr.{Instr}
use Rattle.rv_isa.proofs.DecodedEncodes.{decoded_encodes}

any_match :
    (listed : List (Pattern × (ℕ → Instr))) (w : ℕ)
    → is_some (first_match listed w) ≡ list_any (λ encoding. matches encoding.0 w) listed
any_match [] w = refl
any_match (encoding ∷ others) w =
    elim (cases_Bool (matches encoding.0 w)) [
      | inl matched ↦ rw matched refl
      | inr unmatched ↦ rw unmatched (any_match others w)
    ]

pub some_if_matched : SomeIfMatched
unfolding decoded
some_if_matched w = any_match encodings w

pub none_if_unmatched :
    (w : ℕ) (found : Option Instr) → found ≡ decoded w
    → IsNone found ↔ IsFalse (some_encoding_matches w)
none_if_unmatched w found is = rw is (rw (some_if_matched w) ((λ h. h), (λ h. h)))

pub encoding_encodes : (w : ℕ) (i : Instr) → w < 2 ^ 32 → Some i ≡ decoded w → word_of i ≡ w
encoding_encodes w i fits is =
    let e : decoded w ≡ Some i = cc in
    (decoded_encodes w i fits e).0

pub encodes_found :
    (w : ℕ) (found : Option Instr) → w < 2 ^ 32 → found ≡ decoded w
    → IfSome found (λ i. word_of i ≡ w)
encodes_found w None fits is = tt
encodes_found w (Some i) fits is = encoding_encodes w i fits is
