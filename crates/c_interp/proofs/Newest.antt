-- The newest operand, in whose place another value stands.
use Rattle.std.proofs.Common.{◌≡◌, ℕ, ◌+◌, ◌-◌, List, [], ◌∷◌, ◌++◌, length, ap, ◌∙◌, arith}
use Rattle.std.proofs.lemmas.List.{length-append}
use Rattle.std.proofs.Math.ListN.{set}
use Rattle.std.proofs.Math.Seq.{set-append_seam}
use Rattle.val_core.specs.declared.values.Value.{Value}

pub newest_set : (old few : List Value) (v w : Value) (count : ℕ) → old ≡ few ++ w ∷ [] → count ≡ length old → set old (count - 1) v ≡ few ++ v ∷ []
newest_set old few v w count e is =
    let size : length (few ++ w ∷ []) ≡ length few + 1 = length-append few (w ∷ []) in
    let last : count - 1 ≡ length few = omega (arith, size, is, ap length e) in
    ap (λ k. set old k v) last ∙ ap (λ l. set l (length few) v) e ∙ set-append_seam few w [] v
