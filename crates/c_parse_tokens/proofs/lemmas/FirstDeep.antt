-- The first token after which the nesting is too deep, found from left to right.
use Rattle.std.specs.Prelude.{◌≡◌, ℕ, ◌+◌, ◌-◌, ◌<◌, ◌≤◌, nat_le, if◌then◌else◌, Bool, true, false, List, [], ◌∷◌, ◌++◌, length, Option, Some, None, MatchOption}
use Rattle.std.specs.List.{sum}
use Rattle.std.proofs.Common.{refl, sym, ap, ◌∙◌, subst, arith, suc, drop, take, get_or, add-one, drop-cons}
use Rattle.std.proofs.lemmas.Bool.Decides.{nat_tests}
use Rattle.std.proofs.Math.ListN.{drop_of_length-le}
use Rattle.std.proofs.lemmas.List.Sums.{sum_by-cons}
use Rattle.std.proofs.lemmas.Slice.{between_to_end}
use Rattle.c_lex.specs.declared.token.Token.{Token}
use Rattle.c_lex.specs.declared.token.TokenKind.{TokenKind}
use Rattle.c_lex.specs.declared.token.TokenKind.TheVariants as kind
use Rattle.c_lex.specs.declared.keyword.Keyword.TheVariants as word
use Rattle.c_lex.specs.declared.punct.Punct.{Punct}
use Rattle.c_lex.specs.declared.punct.Punct.TheVariants as mark
use Rattle.c_ast.specs.Nesting.{popped, ended, after_mark, after_token, depth_of, deepest, depth}
use Rattle.c_ast.specs.Spelling.{kinds}
use Rattle.c_parse_tokens.specs.TooDeep.{FirstTooDeep}

-- ---- what follows a token matters by its head alone

ended_head : (x : TokenKind) (r s : List TokenKind) (c : List ℕ) → ended (x ∷ r) c ≡ ended (x ∷ s) c
ended_head (kind.Keyword word.Else) r s c = refl
ended_head x r s (top ∷ below) = refl
ended_head x r s [] = refl

mark_head : (p : Punct) (x : TokenKind) (r s : List TokenKind) (c : List ℕ) → after_mark p (x ∷ r) c ≡ after_mark p (x ∷ s) c
mark_head mark.RBrace x r s c = ended_head x r s (popped c)
mark_head mark.Semicolon x r s c = ended_head x r s c
mark_head mark.Comma x r s c = ended_head x r s c
mark_head _ x r s c = refl

pub token_head : (k x : TokenKind) (r s : List TokenKind) (c : List ℕ) → after_token k (x ∷ r) c ≡ after_token k (x ∷ s) c
token_head (kind.Punct p) x r s c = mark_head p x r s c
token_head _ x r s c = refl

-- ---- at the end of the tokens a construct has ended

pub sum-cons : (x : ℕ) (xs : List ℕ) → sum (x ∷ xs) ≡ x + sum xs
sum-cons x xs = sum_by-cons (λ y. y) x xs

ended_lower : (rest : List TokenKind) (c : List ℕ) → depth_of (ended [] c) ≤ depth_of (ended rest c)
ended_lower (kind.Keyword word.Else ∷ rest) (top ∷ below) = omega (arith, sum-cons top below, sum-cons 0 below)
ended_lower rest (top ∷ below) = omega (arith, sum-cons top below, sum-cons 0 below)
ended_lower (kind.Keyword word.Else ∷ rest) [] = omega arith
ended_lower rest [] = omega arith

mark_lower : (p : Punct) (rest : List TokenKind) (c : List ℕ) → depth_of (after_mark p [] c) ≤ depth_of (after_mark p rest c)
mark_lower mark.RBrace rest c = ended_lower rest (popped c)
mark_lower mark.Semicolon rest c = ended_lower rest c
mark_lower mark.Comma rest c = ended_lower rest c
mark_lower _ rest c = omega arith

pub token_lower : (k : TokenKind) (rest : List TokenKind) (c : List ℕ) → depth_of (after_token k [] c) ≤ depth_of (after_token k rest c)
token_lower (kind.Punct p) rest c = mark_lower p rest c
token_lower _ rest c = omega arith

-- ---- where a construct ends the depth does not grow

ended_bound : (rest : List TokenKind) (c : List ℕ) → depth_of (ended rest c) ≤ depth_of c
ended_bound (kind.Keyword word.Else ∷ rest) (top ∷ below) = omega arith
ended_bound rest (top ∷ below) = omega (arith, sum-cons top below, sum-cons 0 below)
ended_bound (kind.Keyword word.Else ∷ rest) [] = omega arith
ended_bound rest [] = omega arith

popped_bound : (c : List ℕ) → depth_of (popped c) ≤ depth_of c
popped_bound [] = omega arith
popped_bound (top ∷ []) = omega arith
popped_bound (top ∷ next ∷ below) = omega (arith, sum-cons top (next ∷ below))

mark_deep : (p : Punct) (rest : List TokenKind) (c : List ℕ) (n : ℕ) → depth_of c ≤ n → n < depth_of (after_mark p rest c) → n < depth_of (after_mark p [] c)
mark_deep mark.RBrace rest c n h d = omega (arith, ended_bound rest (popped c), popped_bound c)
mark_deep mark.Semicolon rest c n h d = omega (arith, ended_bound rest c)
mark_deep mark.Comma rest c n h d = omega (arith, ended_bound rest c)
mark_deep _ rest c n h d = d

token_deep : (k : TokenKind) (rest : List TokenKind) (c : List ℕ) (n : ℕ) → depth_of c ≤ n → n < depth_of (after_token k rest c) → n < depth_of (after_token k [] c)
token_deep (kind.Punct p) rest c n h d = mark_deep p rest c n h d
token_deep _ rest c n h d = d

-- ---- the search

small : (n : ℕ) → nat_le n 200 ≡ true → n ≤ 200
small n e = grind (arith, nat_tests)

large : (n : ℕ) → nat_le n 200 ≡ false → 200 < n
large n e = grind (arith, nat_tests)

passes : (n : ℕ) → n ≤ 200 → nat_le n 200 ≡ true
passes n e = grind (arith, nat_tests)

fails : (n : ℕ) → 200 < n → nat_le n 200 ≡ false
fails n e = grind (arith, nat_tests)

-- the offset of the first token after which the depth is above 200, from these counters on
unfoldable pub first_deep : List ℕ → List Token → Option ℕ
first_deep c [] = None
first_deep c (t ∷ ts) =
    if nat_le (depth_of (after_token t.kind (kinds ts) c)) 200
    then first_deep (after_token t.kind (kinds ts) c) ts
    else Some t.at

-- from these counters on
pub record DeepAt (c : List ℕ) (ts : List Token) (offset : ℕ) : Type 0 where
  pub before : List Token
  pub token : Token
  pub rest : List Token
  pub split : ts ≡ before ++ token ∷ rest
  pub at : offset ≡ token.at
  pub shallow : deepest c (kinds before) ≤ 200
  pub deep : 200 < deepest c (kinds (before ++ token ∷ []))

abbrev pub Found : List ℕ → List Token → Option ℕ → Type 0
Found c ts o = MatchOption o (deepest c (kinds ts) ≤ 200) (DeepAt c ts)

-- the counters after a token, and the depth, do not hang on where the tokens after it end
shallow_more : (t : Token) (before rest : List Token) (c d : List ℕ) → d ≡ after_token t.kind (kinds (before ++ rest)) c → depth_of d ≤ 200 → deepest d (kinds before) ≤ 200 →
    deepest c (kinds (t ∷ before)) ≤ 200
shallow_more t [] rest c d e h s =
    let low = token_lower t.kind (kinds rest) c in
    let same : depth_of d ≡ depth_of (after_token t.kind (kinds rest) c) = ap depth_of e in
    omega arith
shallow_more t (x ∷ before) rest c d e h s =
    let same : after_token t.kind (kinds (x ∷ before)) c ≡ d = token_head t.kind x.kind (kinds before) (kinds (before ++ rest)) c ∙ sym e in
    rw same (omega arith)

deep_more : (t : Token) (x : Token) (before rest : List Token) (c d : List ℕ) → d ≡ after_token t.kind (kinds (x ∷ rest)) c → 200 < deepest d (kinds (x ∷ before)) →
    200 < deepest c (kinds (t ∷ x ∷ before))
deep_more t x before rest c d e h =
    let same : after_token t.kind (kinds (x ∷ before)) c ≡ d = token_head t.kind x.kind (kinds before) (kinds rest) c ∙ sym e in
    rw same (omega arith)

found_here : (t : Token) (ts : List Token) (c : List ℕ) → depth_of c ≤ 200 → 200 < depth_of (after_token t.kind (kinds ts) c) → DeepAt c (t ∷ ts) t.at
found_here t ts c h d =
    let alone = token_deep t.kind (kinds ts) c 200 h d in
    record { before = []; token = t; rest = ts; split = refl; at = refl; shallow = omega arith; deep = omega arith }

found_after : (t : Token) (ts : List Token) (c d : List ℕ) (offset : ℕ) → d ≡ after_token t.kind (kinds ts) c → depth_of d ≤ 200 → (before : List Token) (token : Token) (rest : List Token) →
    ts ≡ before ++ token ∷ rest → offset ≡ token.at → deepest d (kinds before) ≤ 200 → 200 < deepest d (kinds (before ++ token ∷ [])) → DeepAt c (t ∷ ts) offset
found_after t ts c d offset e h [] token rest split at shallow deep = record {
  before = t ∷ [];
  token = token;
  rest = rest;
  split = ap (λ us. t ∷ us) split;
  at = at;
  shallow = shallow_more t [] (token ∷ rest) c d (e ∙ ap (λ us. after_token t.kind (kinds us) c) split) h shallow;
  deep = deep_more t token [] rest c d (e ∙ ap (λ us. after_token t.kind (kinds us) c) split) deep;
}
found_after t ts c d offset e h (x ∷ before) token rest split at shallow deep = record {
  before = t ∷ x ∷ before;
  token = token;
  rest = rest;
  split = ap (λ us. t ∷ us) split;
  at = at;
  shallow = shallow_more t (x ∷ before) (token ∷ rest) c d (e ∙ ap (λ us. after_token t.kind (kinds us) c) split) h shallow;
  deep = deep_more t x (before ++ token ∷ []) (before ++ token ∷ rest) c d (e ∙ ap (λ us. after_token t.kind (kinds us) c) split) deep;
}

none_after : (t : Token) (ts : List Token) (c d : List ℕ) → d ≡ after_token t.kind (kinds ts) c → depth_of d ≤ 200 → deepest d (kinds ts) ≤ 200 → deepest c (kinds (t ∷ ts)) ≤ 200
none_after t ts c d e h s = let same = sym e in rw same (omega arith)

found_more : (t : Token) (ts : List Token) (c d : List ℕ) → d ≡ after_token t.kind (kinds ts) c → depth_of d ≤ 200 → (o : Option ℕ) → Found d ts o → Found c (t ∷ ts) o
found_more t ts c d e h None f = none_after t ts c d e h f
found_more t ts c d e h (Some offset) f =
    found_after t ts c d offset e h f.before f.token f.rest f.split f.at f.shallow f.deep

found_by : (t : Token) (ts : List Token) (c : List ℕ) → depth_of c ≤ 200 → (b : Bool) → nat_le (depth_of (after_token t.kind (kinds ts) c)) 200 ≡ b →
    (depth_of (after_token t.kind (kinds ts) c) ≤ 200 → Found (after_token t.kind (kinds ts) c) ts (first_deep (after_token t.kind (kinds ts) c) ts)) →
    Found c (t ∷ ts) (if b then first_deep (after_token t.kind (kinds ts) c) ts else Some t.at)
found_by t ts c h true e again =
    let low : depth_of (after_token t.kind (kinds ts) c) ≤ 200 = small _ e in
    found_more t ts c (after_token t.kind (kinds ts) c) refl low (first_deep (after_token t.kind (kinds ts) c) ts) (again low)
found_by t ts c h false e again = found_here t ts c h (large _ e)

pub finds : (c : List ℕ) (ts : List Token) → depth_of c ≤ 200 → Found c ts (first_deep c ts)
unfolding first_deep
finds c [] h = omega arith
finds c (t ∷ ts) h =
    found_by t ts c h (nat_le (depth_of (after_token t.kind (kinds ts) c)) 200) refl (λ low. finds (after_token t.kind (kinds ts) c) ts low)

-- ---- step by step

first_deep-end : (c : List ℕ) → first_deep c [] ≡ None
unfolding first_deep
first_deep-end c = refl

first_deep-more : (c : List ℕ) (t : Token) (ts : List Token) → depth_of (after_token t.kind (kinds ts) c) ≤ 200 → first_deep c (t ∷ ts) ≡ first_deep (after_token t.kind (kinds ts) c) ts
unfolding first_deep
first_deep-more c t ts h = let e : nat_le (depth_of (after_token t.kind (kinds ts) c)) 200 ≡ true = passes _ h in rw e refl

first_deep-here : (c : List ℕ) (t : Token) (ts : List Token) → 200 < depth_of (after_token t.kind (kinds ts) c) → first_deep c (t ∷ ts) ≡ Some t.at
unfolding first_deep
first_deep-here c t ts h = let e : nat_le (depth_of (after_token t.kind (kinds ts) c)) 200 ≡ false = fails _ h in rw e refl

-- ---- as the contract says it

from_start : (ts : List Token) (o : Option ℕ) → first_deep (0 ∷ []) ts ≡ o → MatchOption o (depth (kinds ts) ≤ 200) (λ offset. FirstTooDeep ts offset)
from_start ts None e = subst (Found (0 ∷ []) ts) e (finds (0 ∷ []) ts (omega arith))
from_start ts (Some offset) e =
    let f : DeepAt (0 ∷ []) ts offset = subst (Found (0 ∷ []) ts) e (finds (0 ∷ []) ts (omega arith)) in
    record { before = f.before; token = f.token; rest = f.rest; split = f.split; at = f.at; shallow = f.shallow; deep = f.deep }

-- ---- along the tokens

next_at : (all : List Token) (i : ℕ) (t : Token) → t ≡ get_or all i t → i < length all → drop i all ≡ t ∷ drop (i + 1) all
next_at all i t e h = rw (add-one) (drop-cons all i t h ∙ ap (λ x. x ∷ drop (suc i) all) (sym e))

-- what a slice up to the end is
passed : (all : List Token) (n : ℕ) (k : TokenKind) (c d : List ℕ) → d ≡ after_token k (kinds (take (length all - n) (drop n all))) c → d ≡ after_token k (kinds (drop n all)) c
passed all n k c d e = e ∙ ap (λ x. after_token k (kinds x) c) (between_to_end all n (length all) (omega arith))

pub scan_more : (all : List Token) (i : ℕ) (t : Token) (c d : List ℕ) → t ≡ get_or all i t → i < length all → first_deep c (drop i all) ≡ first_deep (0 ∷ []) all →
    d ≡ after_token t.kind (kinds (take (length all - (i + 1)) (drop (i + 1) all))) c → depth_of d ≤ 200 → first_deep d (drop (i + 1) all) ≡ first_deep (0 ∷ []) all
scan_more all i t c d e h s f low =
    let g = passed all (i + 1) t.kind c d f in
    ap (λ x. first_deep x (drop (i + 1) all)) g
    ∙ sym (first_deep-more c t (drop (i + 1) all) (subst (λ (x : List ℕ). depth_of x ≤ 200) g low))
    ∙ ap (first_deep c) (sym (next_at all i t e h)) ∙ s

pub scan_here : (all : List Token) (i : ℕ) (t : Token) (c d : List ℕ) → t ≡ get_or all i t → i < length all → first_deep c (drop i all) ≡ first_deep (0 ∷ []) all →
    d ≡ after_token t.kind (kinds (take (length all - (i + 1)) (drop (i + 1) all))) c → 200 < depth_of d → FirstTooDeep all t.at
scan_here all i t c d e h s f large =
    let g = passed all (i + 1) t.kind c d f in
    from_start all (Some t.at)
    (sym s ∙ ap (first_deep c) (next_at all i t e h) ∙ first_deep-here c t (drop (i + 1) all) (subst (λ (x : List ℕ). 200 < depth_of x) g large))

pub scan_end : (all : List Token) (i : ℕ) (c : List ℕ) → length all ≤ i → first_deep c (drop i all) ≡ first_deep (0 ∷ []) all → depth (kinds all) ≤ 200
scan_end all i c h s = from_start all None (sym s ∙ ap (first_deep c) (drop_of_length-le all h) ∙ first_deep-end c)
