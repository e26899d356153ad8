-- Cells in a row that come to hold others, and lists of them that are joined.
use Rattle.std.proofs.Common.{◌≡◌, ℕ, ◌+◌, ◌<◌, ◌≤◌, List, [], ◌∷◌, ◌++◌, length, get_or, set, take, drop, ap, sym, ◌∙◌, append_assoc, length-append, arith}
use Rattle.std.proofs.lemmas.List.{length-take-le, drop_more, take_more, set_at, get_or_at, take_at, drop_at, length_push}

-- one more is written behind those that were
pub write_step : {A : Type 0} (xs ws : List A) (c : ℕ) (v d : A) → c + length ws < length xs
    → set (take c xs ++ (ws ++ drop (c + length ws) xs)) (c + length ws) v ≡ take c xs ++ ((ws ++ v ∷ []) ++ drop (c + length (ws ++ v ∷ [])) xs)
write_step xs ws c v d lt =
    let few : c ≤ length xs = omega arith in
    let t : length (take c xs ++ ws) ≡ c + length ws = omega (arith, length-append (take c xs) ws, length-take-le c xs few) in
    let index : c + length (ws ++ v ∷ []) ≡ c + length ws + 1 = omega (arith, length_push ws v) in
    ap (λ r. set (take c xs ++ (ws ++ r)) (c + length ws) v) (drop_more xs (c + length ws) d lt)
    ∙ ap (λ l. set l (c + length ws) v) (sym (append_assoc (take c xs) ws (get_or xs (c + length ws) d ∷ drop (c + length ws + 1) xs)))
    ∙ set_at (take c xs ++ ws) (get_or xs (c + length ws) d) (drop (c + length ws + 1) xs) v (c + length ws) t
    ∙ append_assoc (take c xs) ws (v ∷ drop (c + length ws + 1) xs)
    ∙ ap (λ r. take c xs ++ r) (sym (append_assoc ws (v ∷ []) (drop (c + length ws + 1) xs)))
    ∙ ap (λ k. take c xs ++ ((ws ++ v ∷ []) ++ drop k xs)) (sym index)

-- what is written in place of as many
pub written_in : {A : Type 0} (ps ms ss us : List A) (c : ℕ) → length ps ≡ c → length ms ≡ length us
    → take c (ps ++ (ms ++ ss)) ++ (us ++ drop (c + length us) (ps ++ (ms ++ ss))) ≡ ps ++ (us ++ ss)
written_in ps ms ss us c e f =
    let long : length (ps ++ ms) ≡ c + length us = omega (arith, length-append ps ms) in
    ap (λ l. l ++ (us ++ drop (c + length us) (ps ++ (ms ++ ss)))) (take_at ps (ms ++ ss) c e)
    ∙ ap (λ l. ps ++ (us ++ drop (c + length us) l)) (sym (append_assoc ps ms ss))
    ∙ ap (λ l. ps ++ (us ++ l)) (drop_at (ps ++ ms) ss (c + length us) long)

-- the gap moves by one
pub gap_step : {A : Type 0} (ps xs : List A) (i from to : ℕ) (o d : A) → i < length xs → to ≡ length ps + i → from ≡ length ps + i + 1
    → set (set (ps ++ (take i xs ++ o ∷ drop i xs)) to (get_or (ps ++ (take i xs ++ o ∷ drop i xs)) from d)) from o ≡ ps ++ (take (i + 1) xs ++ o ∷ drop (i + 1) xs)
gap_step {A} ps xs i from to o d lt e f =
    let few : i ≤ length xs = omega arith in
    let y : A = get_or xs i d in
    let rest : List A = drop (i + 1) xs in
    let front : List A = ps ++ take i xs in
    let long : length (ps ++ take i xs) ≡ to = omega (arith, length-append ps (take i xs), length-take-le i xs few, e) in
    let longer : length ((ps ++ take i xs) ++ o ∷ []) ≡ from = omega (arith, length_push (ps ++ take i xs) o, long, e, f) in
    let longer_y : length ((ps ++ take i xs) ++ get_or xs i d ∷ []) ≡ from = omega (arith, length_push (ps ++ take i xs) (get_or xs i d), long, e, f) in
    let cells : ps ++ (take i xs ++ o ∷ drop i xs) ≡ (ps ++ take i xs) ++ o ∷ (get_or xs i d ∷ drop (i + 1) xs) =
    ap (λ r. ps ++ (take i xs ++ o ∷ r)) (drop_more xs i d lt) ∙ sym (append_assoc ps (take i xs) (o ∷ (get_or xs i d ∷ drop (i + 1) xs))) in
    let read : get_or ((ps ++ take i xs) ++ o ∷ (get_or xs i d ∷ drop (i + 1) xs)) from d ≡ get_or xs i d =
    ap (λ l. get_or l from d) (sym (append_assoc (ps ++ take i xs) (o ∷ []) (get_or xs i d ∷ drop (i + 1) xs)))
    ∙ get_or_at ((ps ++ take i xs) ++ o ∷ []) (get_or xs i d) (drop (i + 1) xs) d from longer in
    ap (λ l. set (set l to (get_or l from d)) from o) cells
    ∙ ap (λ z. set (set (front ++ o ∷ (y ∷ rest)) to z) from o) read
    ∙ ap (λ l. set l from o) (set_at front o (y ∷ rest) y to long)
    ∙ ap (λ l. set l from o) (sym (append_assoc front (y ∷ []) (y ∷ rest)))
    ∙ set_at (front ++ y ∷ []) y rest o from longer_y
    ∙ ap (λ l. l ++ o ∷ rest) (append_assoc ps (take i xs) (y ∷ []) ∙ ap (λ l. ps ++ l) (sym (take_more xs i d lt)))
    ∙ append_assoc ps (take (i + 1) xs) (o ∷ rest)

-- where a gap comes to stand
pub gap_in : {A : Type 0} (ps ms ss : List A) (y o : A) (c n : ℕ) → length ps ≡ c → length ms ≡ n
    → take c (ps ++ y ∷ (ms ++ ss)) ++ (take n (drop (c + 1) (ps ++ y ∷ (ms ++ ss))) ++ o ∷ drop n (drop (c + 1) (ps ++ y ∷ (ms ++ ss)))) ≡ ps ++ (ms ++ o ∷ ss)
gap_in ps ms ss y o c n e f =
    let behind : drop (c + 1) (ps ++ y ∷ (ms ++ ss)) ≡ ms ++ ss =
    ap (drop (c + 1)) (sym (append_assoc ps (y ∷ []) (ms ++ ss))) ∙ drop_at (ps ++ y ∷ []) (ms ++ ss) (c + 1) (omega (arith, length_push ps y, e)) in
    ap (λ l. l ++ (take n (drop (c + 1) (ps ++ y ∷ (ms ++ ss))) ++ o ∷ drop n (drop (c + 1) (ps ++ y ∷ (ms ++ ss))))) (take_at ps (y ∷ (ms ++ ss)) c e)
    ∙ ap (λ l. ps ++ (take n l ++ o ∷ drop n l)) behind
    ∙ ap (λ l. ps ++ (l ++ o ∷ drop n (ms ++ ss))) (take_at ms ss n f)
    ∙ ap (λ l. ps ++ (ms ++ o ∷ l)) (drop_at ms ss n f)
