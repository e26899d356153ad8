-- Reading the characters of a text one after the other.
use Rattle.std.proofs.Common.{◌≡◌, ℕ, zero, suc, ◌+◌, ◌-◌, ◌<◌, List, [], ◌∷◌, ◌++◌, length, drop, Option, Some, None, refl, sym, ap, ◌∙◌, append_assoc, arith}
use Rattle.std.specs.Option.{option_map, option_and_then}
use Rattle.std.proofs.lemmas.List.{drop_all, drop-drop, length-drop}
use Rattle.c_lex.specs.Quoted.{character_at, characters, with_first, only}

pub characters_skip : (k : ℕ) (t : List ℕ) → characters k t ≡ characters 0 (drop k t)
characters_skip zero [] = refl
characters_skip (suc k) [] = refl
characters_skip zero (b ∷ bs) = refl
characters_skip (suc k) (b ∷ bs) = characters_skip k bs

pub characters_step : (t : List ℕ) (v n : ℕ) → 0 < n → character_at t ≡ Some (v, n) → 0 < length t → characters 0 t ≡ with_first v (characters 0 (drop n t))
characters_step [] v n pos e h = absurd (omega arith)
characters_step (b ∷ bs) v zero pos e h = absurd (omega arith)
characters_step (b ∷ bs) v (suc m) pos e h =
    let less : suc m - 1 ≡ m = omega arith in
    ap (λ o. option_and_then (λ c. with_first c.0 (characters (c.1 - 1) bs)) o) e ∙ ap (λ k. with_first v (characters k bs)) less ∙ ap (with_first v) (characters_skip m bs)

pub characters_none : (t : List ℕ) → character_at t ≡ None → 0 < length t → characters 0 t ≡ None
characters_none [] e h = absurd (omega arith)
characters_none (b ∷ bs) e h = ap (λ o. option_and_then (λ c. with_first c.0 (characters (c.1 - 1) bs)) o) e

only_pair : (v w : ℕ) (cs : Option (List ℕ)) → option_and_then only (with_first v (with_first w cs)) ≡ None
only_pair v w None = refl
only_pair v w (Some cs) = refl

only_after : (v : ℕ) (bs : List ℕ) (o : Option (ℕ × ℕ)) → option_and_then only (with_first v (option_and_then (λ c. with_first c.0 (characters (c.1 - 1) bs)) o)) ≡ None
only_after v bs None = refl
only_after v bs (Some c) = only_pair v c.0 (characters (c.1 - 1) bs)

only_more : (v : ℕ) (t : List ℕ) → 0 < length t → option_and_then only (with_first v (characters 0 t)) ≡ None
only_more v [] h = absurd (omega arith)
only_more v (b ∷ bs) h = only_after v bs (character_at (b ∷ bs))

-- ---- the only character

pub only_none : (t : List ℕ) → character_at t ≡ None → option_and_then only (characters 0 t) ≡ None
only_none [] e = refl
only_none (b ∷ bs) e = ap (option_and_then only) (characters_none (b ∷ bs) e (omega arith))

pub only_whole : (t : List ℕ) (v n : ℕ) → 0 < n → character_at t ≡ Some (v, n) → n ≡ length t → option_and_then only (characters 0 t) ≡ Some v
only_whole t v n pos e whole =
    let rest : drop n t ≡ [] = drop_all n t (omega arith) in
    ap (option_and_then only) (characters_step t v n pos e (omega arith) ∙ ap (λ r. with_first v (characters 0 r)) rest)

pub only_part : (t : List ℕ) (v n : ℕ) → 0 < n → character_at t ≡ Some (v, n) → n < length t → option_and_then only (characters 0 t) ≡ None
only_part t v n pos e part =
    ap (option_and_then only) (characters_step t v n pos e (omega arith)) ∙ only_more v (drop n t) (omega (arith, length-drop n t))

-- ---- all characters

-- these characters, and then the others
abbrev pub then_characters : List ℕ → Option (List ℕ) → Option (List ℕ)
then_characters cs others = option_map (λ rest. cs ++ rest) others

regroup : (cs : List ℕ) (v : ℕ) (o : Option (List ℕ)) → then_characters cs (with_first v o) ≡ then_characters (cs ++ v ∷ []) o
regroup cs v None = refl
regroup cs v (Some rest) = ap Some (sym (append_assoc cs (v ∷ []) rest))

pub characters_push : (cs ds : List ℕ) (v n at : ℕ) (text : List ℕ) (all : Option (List ℕ)) → ds ≡ cs ++ v ∷ [] → 0 < n → character_at (drop at text) ≡ Some (v, n) → at < length text →
    then_characters cs (characters 0 (drop at text)) ≡ all → then_characters ds (characters 0 (drop (at + n) text)) ≡ all
characters_push cs ds v n at text all is pos e h inv =
    let more : drop n (drop at text) ≡ drop (at + n) text = drop-drop n at text in
    let step = characters_step (drop at text) v n pos e (omega (arith, length-drop at text)) in
    ap (λ xs. then_characters xs (characters 0 (drop (at + n) text))) is ∙ sym (regroup cs v (characters 0 (drop (at + n) text)))
    ∙ ap (λ r. then_characters cs (with_first v (characters 0 r))) (sym more) ∙ ap (then_characters cs) (sym step) ∙ inv
