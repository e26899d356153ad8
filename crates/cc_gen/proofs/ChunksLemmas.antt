-- Bytes that are gathered for a sink and handed on.
use Rattle.std.proofs.Common.{◌≡◌, ◌≤◌, ℕ, ◌+◌, ◌-◌, List, [], ◌++◌, length, take, drop, Option, None, Some, is_some, unwrap_or, Result, Ok, Err, OnOk, OnErr, refl, sym, ap, subst, ◌∙◌, arith, length-append}
use Rattle.std.proofs.lemmas.Bool.{false≢true}
use Rattle.std.proofs.lemmas.List.{take-append-le, take-append-drop, drop-drop, length-take, take_all, drop_all}
use Rattle.std.proofs.Math.Seq.{take-append-add, take-append_seam}
use Rattle.cc_io.specs.Sink.{append}
use Rattle.cc_io.proofs.lemmas.Sink.{append-append, append-none}
use Rattle.cc_gen.specs.Chunks.{held_length}
use Rattle.cc_gen.specs.Pieces.{HoldsPrefix}

-- n more bytes of those that are gathered are handed on
pub sent-more : (before now : Option (List ℕ)) (xs : List ℕ) (sent n : ℕ) → now ≡ append before (take n (drop sent xs))
    → append now (drop (sent + n) xs) ≡ append before (drop sent xs)
sent-more before now xs sent n wrote =
    ap (λ held. append held (drop (sent + n) xs)) wrote
    ∙ append-append before (take n (drop sent xs)) (drop (sent + n) xs)
    ∙ ap (append before) (ap (λ rest. take n (drop sent xs) ++ rest) (sym (drop-drop n sent xs)) ∙ take-append-drop n (drop sent xs))

-- without the bytes that were not handed on, a prefix is held still
pub unsent : (text : List ℕ) (first now : Option (List ℕ)) (rest : List ℕ) → held_length first ≤ held_length now
    → HoldsPrefix text first (append now rest) → HoldsPrefix text first now
unsent text None None rest grown h = record { count = 0; within = omega arith; held = refl }
unsent text None (Some now) rest grown h = absurd (false≢true (sym (ap (λ o. is_some o) h.held)))
unsent text (Some old) None rest grown h = absurd (false≢true (ap (λ o. is_some o) h.held))
unsent text (Some old) (Some now) rest grown h =
    let n : ℕ = length now - length old in
    let whole : now ++ rest ≡ old ++ take h.count text = ap (λ o. unwrap_or o []) h.held in
    let lengths : length (now ++ rest) ≡ length (old ++ take h.count text) = ap (λ (xs : List ℕ). length xs) whole in
    let fits : n ≤ length (take h.count text) = omega (arith, grown, lengths, length-append now rest, length-append old (take h.count text)) in
    let long : length now ≡ length old + n = omega (arith, grown) in
    record {
      count = n;
      within = omega (arith, fits, length-take h.count text);
      held = ap Some
          (sym (take-append_seam now rest)
          ∙ ap (take (length now)) whole
          ∙ ap (λ k. take k (old ++ take h.count text)) long
          ∙ take-append-add old (take h.count text) n
          ∙ ap (λ bytes. old ++ bytes) (sym (take-append-le n (take h.count text) (drop h.count text) fits) ∙ ap (take n) (take-append-drop h.count text)));
    }

-- where nothing is gathered
pub none-gathered : (held : Option (List ℕ)) (xs : List ℕ) (sent : ℕ) → length xs ≡ 0 → append held (drop sent xs) ≡ held
none-gathered held xs sent none = ap (append held) (drop_all sent xs (omega (arith, none))) ∙ append-none held

pub some-sent : (first before now : Option (List ℕ)) (xs text : List ℕ) (sent : ℕ) → before ≡ first
    → held_length first ≤ held_length now → HoldsPrefix text before (append now (drop sent xs)) → HoldsPrefix text first now
some-sent first before now xs text sent same grown h =
    let P : Option (List ℕ) → Type 0 = λ held. HoldsPrefix text held (append now (drop sent xs)) in
    unsent text first now (drop sent xs) grown (subst P same h)

-- all of a text was gathered, and all is handed on or some of it is not
pub all-sent : {T E : Type 0} (r : Result T E) (first before now : Option (List ℕ)) (xs text : List ℕ) (sent : ℕ) → before ≡ first
    → append now (drop sent xs) ≡ append before text → OnOk r (length xs ≡ 0) → OnOk r (now ≡ append first text)
all-sent (Ok x) first before now xs text sent same held none =
    sym (none-gathered now xs sent none) ∙ held ∙ ap (λ h. append h text) same
all-sent (Err e) first before now xs text sent same held none = tt

pub not-all-sent : {T E : Type 0} (r : Result T E) (first before now : Option (List ℕ)) (xs text : List ℕ) (sent : ℕ) → before ≡ first
    → append now (drop sent xs) ≡ append before text → held_length first ≤ held_length now → OnErr r (HoldsPrefix text first now)
not-all-sent (Ok x) first before now xs text sent same held grown = tt
not-all-sent (Err e) first before now xs text sent same held grown =
    some-sent first before now xs text sent same grown (record {
      count = length text;
      within = omega arith;
      held = held ∙ ap (append before) (sym (take_all (length text) text (omega arith)));
    })
