-- The conditions on the tables, for every nonterminal, production and token.
use Rattle.std.specs.Prelude.{◌≡◌, ◌⊎◌, drop, ◌≤◌, Bool, true, false, not, ◌&&◌, ◌||◌, List, [], ◌∷◌, Option, Some, None, nat_le}
use Rattle.std.specs.List.{list_all}
use Rattle.std.proofs.Common.{refl, sym, ap, inl, inr, subst}
use Rattle.std.proofs.lemmas.Bool.{not-true, not_from_false, leb-true, and_parts, and_from, or_left, or_right, or_cases}
use Rattle.c_lex.specs.declared.token.TokenKind.{TokenKind}
use Rattle.c_ast.specs.Nonterminals.{Nonterminal}
use Rattle.c_ast.specs.Productions.{Production}
use Rattle.c_ast.specs.Productions as production
use Rattle.c_lex.specs.declared.token.TokenKind.TheVariants as kind
use Rattle.c_ast.specs.Terminals.{Terminal, is}
use Rattle.c_ast.specs.Grammar.{Symbol, T, N, symbols_of, allowed}
use Rattle.c_ast.specs.PredictSets.{at, start, next, begins_type}
use Rattle.c_ast.proofs.lemmas.CheckedLists.{In, all_in, all_kept, in_kept, refuted, conj3, conj5, kept}
use Rattle.c_ast.proofs.Enumerations.{Payload, same_if_else, kinds, heads, labels, nonterminals, payload, head_payload, same_production, kind_in, head_in, flag_in, production_in, nonterminal_in, same_production-true}
use Rattle.c_ast.proofs.Follow.{first_nonterminal, without_front, is_suffix, front, rest_of, is_read, is_nullable, all_nullable, begins, ahead, follows_kind, follows, is_else, ends, precedence}
use Rattle.c_ast.proofs.Checks.{good_start, good_next, sits, good_begin, begins_checked, good_look, takes_it, same_choice, looks_checked, good_ranks, ranks_checked, stops, is_choice, alternatives, suffixes, read_nonterminals, flags, good_row, is_nonterminal, starts_checked, nexts_checked, stops_checked, chosen_checked, inner_checked, ends_checked, before_checked, rows_checked, firsts_checked, nonempty_checked, tails_checked, goes, ifs_checked, elses_checked}

production_among : (c : Nonterminal) (l : Production) → allowed c l ≡ true → In l (alternatives c)
production_among c l a = in_kept (allowed c) l labels a (production_in l)

suffix_among : (c : Nonterminal) (n : Production) → allowed c n ≡ true → is_suffix n ≡ true → In n (suffixes c)
suffix_among c n a s = in_kept is_suffix n (alternatives c) s (production_among c n a)

nonterminal_among : (c : Nonterminal) → is_read c ≡ true → In c read_nonterminals
nonterminal_among c r = in_kept is_read c nonterminals r (nonterminal_in c)

-- ---- beginning

good_start_of : (c : Nonterminal) (h : Option TokenKind) (b : Bool) → good_start c (start c h b) ≡ true
good_start_of c h b =
    all_in (λ b. good_start c (start c h b)) b flags (flag_in b)
    (all_in (λ h. list_all (λ b. good_start c (start c h b)) flags) h (heads (head_payload h)) (head_in h)
    (all_in (λ c. list_all (λ h. list_all (λ b. good_start c (start c h b)) flags) (heads (head_payload h))) c nonterminals (nonterminal_in c) (starts_checked (head_payload h))))

-- what a production with which a nonterminal begins is
pub start_is : (c : Nonterminal) (h : Option TokenKind) (b : Bool) (l : Production) → start c h b ≡ Some l → (allowed c l ≡ true) × (is_suffix l ≡ false) × (is_read c ≡ true)
start_is c h b l e =
    let g = conj3 (allowed c l) (not (is_suffix l)) (is_read c) (subst (λ (o : Option Production). good_start c o ≡ true) e (good_start_of c h b)) in
    (g.0, not-true (is_suffix l) g.1, g.2)

is_choice-true : (l : Production) (o : Option Production) → is_choice l o ≡ true → o ≡ Some l
is_choice-true l None h = absurd (cc h)
is_choice-true l (Some n) h = ap Some (same_production-true n l h)

good_begin_of : (c : Nonterminal) (l : Production) → is_read c ≡ true → allowed c l ≡ true → is_suffix l ≡ false → (y z : Payload) → good_begin y z c l (symbols_of l) ≡ true
good_begin_of c l r a s y z =
    all_kept (λ l. good_begin y z c l (symbols_of l)) (λ l. not (is_suffix l)) l (alternatives c) (production_among c l a) (not_from_false (is_suffix l) s)
    (all_in (λ c. list_all (λ l. good_begin y z c l (symbols_of l)) (kept (λ l. not (is_suffix l)) (alternatives c))) c read_nonterminals (nonterminal_among c r) (begins_checked y z))

-- an empty production
pub begins_empty : (c : Nonterminal) (l : Production) → is_read c ≡ true → allowed c l ≡ true → is_suffix l ≡ false → symbols_of l ≡ [] → (h : Option TokenKind) (b : Bool) → sits c l h ≡ true →
    start c h b ≡ Some l
begins_empty c l r a s e h b g =
    is_choice-true l (start c h b)
    (all_in (λ b. is_choice l (start c h b)) b flags (flag_in b)
    (all_kept (λ h. list_all (λ b. is_choice l (start c h b)) flags) (sits c l) h (heads (head_payload h)) (head_in h) g
    (subst (λ (symbols : List Symbol). good_begin (head_payload h) (head_payload h) c l symbols ≡ true) e (good_begin_of c l r a s (head_payload h) (head_payload h)))))

-- one that begins with a terminal
pub begins_token : (c : Nonterminal) (l : Production) → is_read c ≡ true → allowed c l ≡ true → is_suffix l ≡ false → (s : Terminal) (symbols : List Symbol) → symbols_of l ≡ T s ∷ symbols →
    (k : TokenKind) (h : Option TokenKind) → is s k ≡ true → (at (ahead symbols) h || all_nullable symbols) ≡ true → start c (Some k) (at begins_type h) ≡ Some l
begins_token c l r a s t symbols e k h i g =
    is_choice-true l (start c (Some k) (at begins_type h))
    (all_kept (λ h. is_choice l (start c (Some k) (at begins_type h))) (λ h. at (ahead symbols) h || all_nullable symbols) h (heads (head_payload h)) (head_in h) g
    (all_kept (λ k. list_all (λ h. is_choice l (start c (Some k) (at begins_type h))) (kept (λ h. at (ahead symbols) h
    || all_nullable symbols) (heads (head_payload h)))) (is t) k (kinds (payload k)) (kind_in k) i
    (subst (λ (symbols : List Symbol). good_begin (payload k) (head_payload h) c l symbols ≡ true) e (good_begin_of c l r a s (payload k) (head_payload h)))))

good_begin_nonterminal : (c : Nonterminal) (l : Production) → is_read c ≡ true → allowed c l ≡ true → is_suffix l ≡ false → (d : Nonterminal) (symbols : List Symbol) → symbols_of l ≡ N d ∷ symbols →
    (k : TokenKind) → (not (all_nullable (N d ∷ symbols)) ≡ true) × (list_all (λ k. list_all (λ b. is_choice l (start c (Some k) b)) flags) (kept (ahead (N d ∷ symbols)) (kinds (payload k))) ≡ true)
good_begin_nonterminal c l r a s d symbols e k =
    and_parts (not (all_nullable (N d ∷ symbols))) (list_all (λ k. list_all (λ b. is_choice l (start c (Some k) b)) flags) (kept (ahead (N d ∷ symbols)) (kinds (payload k))))
    (subst (λ (symbols : List Symbol). good_begin (payload k) (payload k) c l symbols ≡ true) e (good_begin_of c l r a s (payload k) (payload k)))

-- one that begins with a nonterminal
pub begins_nonterminal : (c : Nonterminal) (l : Production) → is_read c ≡ true → allowed c l ≡ true → is_suffix l ≡ false → (d : Nonterminal) (symbols : List Symbol) → symbols_of l ≡ N d ∷ symbols →
    (k : TokenKind) (b : Bool) → ahead (N d ∷ symbols) k ≡ true → start c (Some k) b ≡ Some l
begins_nonterminal c l r a s d symbols e k b g =
    is_choice-true l (start c (Some k) b)
    (all_in (λ b. is_choice l (start c (Some k) b)) b flags (flag_in b)
    (all_kept (λ k. list_all (λ b. is_choice l (start c (Some k) b)) flags) (ahead (N d ∷ symbols)) k (kinds (payload k)) (kind_in k) g (good_begin_nonterminal c l r a s d symbols e k).1))

pub begins_filled : (c : Nonterminal) (l : Production) → is_read c ≡ true → allowed c l ≡ true → is_suffix l ≡ false → (d : Nonterminal) (symbols : List Symbol) → symbols_of l ≡ N d ∷ symbols →
    all_nullable (N d ∷ symbols) ≡ false
begins_filled c l r a s d symbols e = not-true (all_nullable (N d ∷ symbols)) (good_begin_nonterminal c l r a s d symbols e (kind.Char 0)).0

-- ---- going on

good_next_of : (c : Nonterminal) (l : Production) (h : Option TokenKind) → is_read c ≡ true → allowed c l ≡ true → good_next c l h (next c l h) ≡ true
good_next_of c l h r a =
    all_in (λ h. good_next c l h (next c l h)) h (heads (head_payload h)) (head_in h)
    (all_in (λ l. list_all (λ h. good_next c l h (next c l h)) (heads (head_payload h))) l (alternatives c) (production_among c l a)
    (all_in (λ c. list_all (λ l. list_all (λ h. good_next c l h (next c l h)) (heads (head_payload h))) (alternatives c)) c read_nonterminals (nonterminal_among c r) (nexts_checked (head_payload h))))

pub record GoesOn (c : Nonterminal) (l : Production) (h : Option TokenKind) (n : Production) : Type 0 where
  pub inside : allowed c n ≡ true
  pub suffix : is_suffix n ≡ true
  pub after : allowed (front n) l ≡ true
  pub ahead : at (ahead (rest_of n)) h ≡ true
  pub nearest : n ≡ production.IfElse → l ≡ production.If

either : (a b : Bool) → (not a || b) ≡ true → a ≡ true → b ≡ true
either true b h e = h
either false b h e = absurd (cc e)

if_else : (l n : Production) → (not (same_production n production.IfElse) || same_production l production.If) ≡ true → n ≡ production.IfElse → l ≡ production.If
if_else l n h e =
    same_production-true l production.If (either (same_production n production.IfElse) (same_production l production.If) h (subst (λ (x : Production). same_production x production.IfElse ≡ true)
    (sym e) same_if_else))

-- what a production that goes on after a tree is
pub next_is : (c : Nonterminal) (l : Production) (h : Option TokenKind) (n : Production) → is_read c ≡ true → allowed c l ≡ true → next c l h ≡ Some n → GoesOn c l h n
next_is c l h n r a e =
    let g = conj5 (allowed c n) (is_suffix n) (allowed (front n) l) (at (ahead (rest_of n)) h) (not (same_production n production.IfElse)
    || same_production l production.If) (subst (λ (o : Option Production). good_next c l h o ≡ true) e (good_next_of c l h r a)) in
    record { inside = g.0; suffix = g.1; after = g.2; ahead = g.3; nearest = if_else l n g.4 }

stops_of : (c : Nonterminal) (l : Production) (h : Option TokenKind) → is_read c ≡ true → allowed c l ≡ true → follows c h ≡ true → stops l h (next c l h) ≡ true
stops_of c l h r a f =
    all_kept (λ h. stops l h (next c l h)) (follows c) h (heads (head_payload h)) (head_in h) f
    (all_in (λ l. list_all (λ h. stops l h (next c l h)) (kept (follows c) (heads (head_payload h)))) l (alternatives c) (production_among c l a)
    (all_in (λ c. list_all (λ l. list_all (λ h. stops l h (next c l h)) (kept (follows c) (heads (head_payload h)))) (alternatives c)) c read_nonterminals (nonterminal_among c r) (stops_checked
    (head_payload h))))

-- what may follow ends a tree
pub next_stops : (c : Nonterminal) (l : Production) (h : Option TokenKind) → is_read c ≡ true → allowed c l ≡ true → follows c h ≡ true → (is_else h ≡ true → l ≡ production.If → ⊥) → next c l h ≡ None
next_stops c l h r a f w = go (next c l h) (stops_of c l h r a f)
  where
    go : (o : Option Production) → stops l h o ≡ true → o ≡ None
    go None s = refl
    go (Some n) s = let g = and_parts (same_production l production.If) (is_else h) s in absurd (w g.1 (same_production-true l production.If g.0))

-- what may go on does
pub next_chosen : (c : Nonterminal) (l n : Production) (k : TokenKind) → is_read c ≡ true → allowed c n ≡ true → is_suffix n ≡ true → allowed (front n) l ≡ true → ahead (rest_of n) k ≡ true →
    next c l (Some k) ≡ Some n
next_chosen c l n k r a s b f =
    is_choice-true n (next c l (Some k))
    (all_in (λ l. is_choice n (next c l (Some k))) l (alternatives (front n)) (production_among (front n) l b)
    (all_kept (λ k. list_all (λ l. is_choice n (next c l (Some k))) (alternatives (front n))) (ahead (rest_of n)) k (kinds (payload k)) (kind_in k) f
    (all_in (λ n. list_all (λ k. list_all (λ l. is_choice n (next c l (Some k))) (alternatives (front n))) (kept (ahead (rest_of n)) (kinds (payload k)))) n (suffixes c) (suffix_among c n a s)
    (all_in (λ c. list_all (λ n. list_all (λ k. list_all (λ l. is_choice n (next c l (Some k))) (alternatives (front n))) (kept (ahead (rest_of n)) (kinds (payload k)))) (suffixes c)) c
    read_nonterminals (nonterminal_among c r) (chosen_checked (payload k))))))

-- the tree before is one of the nonterminal
pub inner_is : (c : Nonterminal) (l n : Production) → is_read c ≡ true → allowed c n ≡ true → is_suffix n ≡ true → allowed (front n) l ≡ true → allowed c l ≡ true
inner_is c l n r a s b =
    all_in (allowed c) l (alternatives (front n)) (production_among (front n) l b)
    (all_in (λ n. list_all (allowed c) (alternatives (front n))) n (suffixes c) (suffix_among c n a s)
    (all_in (λ c. list_all (λ n. list_all (allowed c) (alternatives (front n))) (suffixes c)) c read_nonterminals (nonterminal_among c r) (inner_checked (payload (kind.Char 0)))))

goes-some : (o : Option Production) → goes o ≡ true → o ≡ None → ⊥
goes-some None g e = cc g
goes-some (Some n) g e = cc e

-- `else` after an `if` goes on
pub if_is : (c : Nonterminal) (h : Option TokenKind) → is_read c ≡ true → allowed c production.If ≡ true → is_else h ≡ true → next c production.If h ≡ None → ⊥
if_is c h r a e =
    goes-some (next c production.If h)
    (all_kept (λ h. goes (next c production.If h)) is_else h (heads (head_payload h)) (head_in h) e
    (all_kept (λ c. list_all (λ h. goes (next c production.If h)) (kept is_else (heads (head_payload h)))) (λ c. allowed c production.If) c read_nonterminals (nonterminal_among c r) a (ifs_checked
    (head_payload h))))

pub else_is : (n : Production) (k : TokenKind) → is_suffix n ≡ true → ahead (rest_of n) k ≡ true → is_else (Some k) ≡ true → n ≡ production.IfElse
else_is n k s f e =
    same_production-true n production.IfElse (either (is_else (Some k)) (same_production n production.IfElse)
    (all_kept (λ k. not (is_else (Some k)) || same_production n production.IfElse) (ahead (rest_of n)) k (kinds (payload k)) (kind_in k) f
    (all_kept (λ n. list_all (λ k. not (is_else (Some k)) || same_production n production.IfElse) (kept (ahead (rest_of n)) (kinds (payload k)))) is_suffix n labels (production_in n) s
    (elses_checked (payload k)))) e)

-- ---- ends

pub ends_is : (c : Nonterminal) (l : Production) (h : Option TokenKind) → is_read c ≡ true → allowed c l ≡ true → follows c h ≡ true → ends (rest_of l) h ≡ true
ends_is c l h r a f =
    all_kept (ends (rest_of l)) (follows c) h (heads (head_payload h)) (head_in h) f
    (all_in (λ l. list_all (ends (rest_of l)) (kept (follows c) (heads (head_payload h)))) l (alternatives c) (production_among c l a)
    (all_in (λ c. list_all (λ l. list_all (ends (rest_of l)) (kept (follows c) (heads (head_payload h)))) (alternatives c)) c read_nonterminals (nonterminal_among c r) (ends_checked (head_payload
    h))))

pub before_is : (l n : Production) (k : TokenKind) → is_suffix n ≡ true → ahead (rest_of n) k ≡ true → allowed (front n) l ≡ true → ends (rest_of l) (Some k) ≡ true
before_is l n k s f b =
    all_in (λ l. ends (rest_of l) (Some k)) l (alternatives (front n)) (production_among (front n) l b)
    (all_kept (λ k. list_all (λ l. ends (rest_of l) (Some k)) (alternatives (front n))) (ahead (rest_of n)) k (kinds (payload k)) (kind_in k) f
    (all_kept (λ n. list_all (λ k. list_all (λ l. ends (rest_of l) (Some k)) (alternatives (front n))) (kept (ahead (rest_of n)) (kinds (payload k)))) is_suffix n labels (production_in n) s
    (before_checked (payload k))))

-- ---- sequences

unfoldable pub Row : List Symbol → Type 0
Row symbols = (y : Payload) → good_row y symbols ≡ true

pub row_is : (l : Production) → Row (rest_of l)
unfolding Row
row_is l y = all_in (λ l. good_row y (rest_of l)) l labels (production_in l) (rows_checked y)

pub row_token : (s : Terminal) (symbols : List Symbol) → Row (T s ∷ symbols) → Row symbols
unfolding Row
row_token s symbols g y = g y

good_row_nonterminal : (c : Nonterminal) (symbols : List Symbol) → Row (N c ∷ symbols) → (y : Payload) → (is_read c ≡ true) × (list_all (λ k. follows_kind c k && not (is_else (Some k))) (kept (ahead
    symbols) (kinds y)) ≡ true) × (good_row y symbols ≡ true)
unfolding Row
good_row_nonterminal c symbols g y =
    conj3 (is_read c) (list_all (λ k. follows_kind c k && not (is_else (Some k))) (kept (ahead symbols) (kinds y))) (good_row y symbols) (g y)

pub row_read : (c : Nonterminal) (symbols : List Symbol) → Row (N c ∷ symbols) → is_read c ≡ true
row_read c symbols g = (good_row_nonterminal c symbols g (payload (kind.Char 0))).0

pub row_rest : (c : Nonterminal) (symbols : List Symbol) → Row (N c ∷ symbols) → Row symbols
unfolding Row
row_rest c symbols g y = (good_row_nonterminal c symbols g y).2

pub row_follows : (c : Nonterminal) (symbols : List Symbol) → Row (N c ∷ symbols) → (k : TokenKind) → ahead symbols k ≡ true → (follows c (Some k) ≡ true) × (is_else (Some k) ≡ false)
unfolding follows
row_follows c symbols g k f =
    let h = and_parts (follows_kind c k) (not (is_else (Some k))) (all_kept (λ k. follows_kind c k && not (is_else (Some k))) (ahead symbols) k (kinds (payload k)) (kind_in k) f
    (good_row_nonterminal c symbols g (payload k)).1) in
    (h.0, not-true (is_else (Some k)) h.1)

-- ---- first tokens

pub first_is : (c : Nonterminal) (l : Production) (k : TokenKind) → allowed c l ≡ true → ahead (symbols_of l) k ≡ true → begins c k ≡ true
first_is c l k a f =
    all_kept (begins c) (ahead (symbols_of l)) k (kinds (payload k)) (kind_in k) f
    (all_in (λ l. list_all (begins c) (kept (ahead (symbols_of l)) (kinds (payload k)))) l (alternatives c) (production_among c l a)
    (all_in (λ c. list_all (λ l. list_all (begins c) (kept (ahead (symbols_of l)) (kinds (payload k)))) (alternatives c)) c nonterminals (nonterminal_in c) (firsts_checked (payload k))))

pub nonempty_is : (c : Nonterminal) (l : Production) → is_nullable c ≡ false → allowed c l ≡ true → all_nullable (symbols_of l) ≡ false
nonempty_is c l n a =
    not-true (all_nullable (symbols_of l))
    (all_in (λ l. not (all_nullable (symbols_of l))) l (alternatives c) (production_among c l a)
    (all_kept (λ c. list_all (λ l. not (all_nullable (symbols_of l))) (alternatives c)) (λ c. not (is_nullable c)) c nonterminals (nonterminal_in c) (not_from_false (is_nullable c) n)
    (nonempty_checked (payload (kind.Char 0)))))

tail_of : (n : Production) → is_suffix n ≡ true → (is_nonterminal (symbols_of n) ≡ true) × (not (all_nullable (rest_of n)) ≡ true)
tail_of n s =
    and_parts (is_nonterminal (symbols_of n)) (not (all_nullable (rest_of n)))
    (all_kept (λ n. is_nonterminal (symbols_of n) && not (all_nullable (rest_of n))) is_suffix n labels (production_in n) s (tails_checked (payload (kind.Char 0))))

-- what a production that goes on is made of
pub front_is : (n : Production) → is_suffix n ≡ true → symbols_of n ≡ N (front n) ∷ rest_of n
unfolding front rest_of
front_is n s = go (symbols_of n) (is_suffix n) s (tail_of n s).0
  where
    go : (symbols : List Symbol) (b : Bool) → b ≡ true → is_nonterminal symbols ≡ true → symbols ≡ N (first_nonterminal symbols) ∷ without_front b symbols
    go [] b e c = absurd (cc c)
    go (T s ∷ symbols) b e c = absurd (cc c)
    go (N d ∷ symbols) false e c = absurd (cc e)
    go (N d ∷ symbols) true e c = refl

pub rest_is : (l : Production) → is_suffix l ≡ false → rest_of l ≡ symbols_of l
unfolding rest_of
rest_is l s = rw s refl

pub rest_filled : (n : Production) → is_suffix n ≡ true → all_nullable (rest_of n) ≡ false
rest_filled n s = not-true (all_nullable (rest_of n)) (tail_of n s).1

pub drop_front : (n : Production) → is_suffix n ≡ true → drop 1 (symbols_of n) ≡ rest_of n
unfolding rest_of
drop_front n s = rw s refl

-- ---- looking further, and ranks

good_look_of : (c : Nonterminal) (k : TokenKind) → good_look k (start c (Some k) false) (start c (Some k) true) ≡ true
good_look_of c k =
    all_in (λ k. good_look k (start c (Some k) false) (start c (Some k) true)) k (kinds (payload k)) (kind_in k)
    (all_in (λ c. list_all (λ k. good_look k (start c (Some k) false) (start c (Some k) true)) (kinds (payload k))) c nonterminals (nonterminal_in c) (looks_checked (payload k)))

same_choice-true : (a b : Option Production) → same_choice a b ≡ true → a ≡ b
same_choice-true None None e = refl
same_choice-true None (Some n) e = absurd (cc e)
same_choice-true (Some l) None e = absurd (cc e)
same_choice-true (Some l) (Some n) e = ap Some (same_production-true l n e)

pub look_is : (c : Nonterminal) (k : TokenKind) → (start c (Some k) false ≡ start c (Some k) true) ⊎ ((takes_it k (start c (Some k) false) ≡ true) × (takes_it k (start c (Some k) true) ≡ true))
look_is c k = go (or_cases (same_choice (start c (Some k) false) (start c (Some k) true)) (takes_it k (start c (Some k) false) && takes_it k (start c (Some k) true)) (good_look_of c k))
  where
    go : (same_choice (start c (Some k) false) (start c (Some k) true) ≡ true) ⊎ ((takes_it k (start c (Some k) false) && takes_it k (start c (Some k) true)) ≡ true) →
        (start c (Some k) false ≡ start c (Some k) true) ⊎ ((takes_it k (start c (Some k) false) ≡ true) × (takes_it k (start c (Some k) true) ≡ true))
    go (inl e) = inl (same_choice-true (start c (Some k) false) (start c (Some k) true) e)
    go (inr e) = inr (and_parts (takes_it k (start c (Some k) false)) (takes_it k (start c (Some k) true)) e)

ranks_of : (c : Nonterminal) → is_read c ≡ true → (nat_le (precedence c) 10 ≡ true) × (list_all (λ l. good_ranks (precedence c) (rest_of l)) (alternatives c) ≡ true)
ranks_of c r =
    and_parts (nat_le (precedence c) 10) (list_all (λ l. good_ranks (precedence c) (rest_of l)) (alternatives c))
    (all_in (λ c. nat_le (precedence c) 10 && list_all (λ l. good_ranks (precedence c) (rest_of l)) (alternatives c)) c read_nonterminals (nonterminal_among c r) (ranks_checked (payload (kind.Char
    0))))

pub rank_low : (c : Nonterminal) → is_read c ≡ true → precedence c ≤ 10
rank_low c r = leb-true (precedence c) 10 (ranks_of c r).0

pub ranks_are : (c : Nonterminal) (l : Production) → is_read c ≡ true → allowed c l ≡ true → good_ranks (precedence c) (rest_of l) ≡ true
ranks_are c l r a = all_in (λ l. good_ranks (precedence c) (rest_of l)) l (alternatives c) (production_among c l a) (ranks_of c r).1

-- ---- what may stand after a tree

-- what may follow the nonterminal, or what goes on after the production
unfoldable pub Sits : Nonterminal → Production → Option TokenKind → Type 0
Sits c l h =
    (follows c h ≡ true) ⊎ ((n : Production) × (allowed c n ≡ true) × (is_suffix n ≡ true) × (allowed (front n) l ≡ true) × (at (ahead (rest_of n)) h ≡ true))

pub sits_from : (c : Nonterminal) (l : Production) (h : Option TokenKind) → Sits c l h → sits c l h ≡ true
unfolding Sits
sits_from c l h (inl f) = or_left (follows c h) (not (list_all (λ n. not (allowed (front n) l && at (ahead (rest_of n)) h)) (suffixes c))) f
sits_from c l h (inr g) =
    or_right (follows c h) (not (list_all (λ n. not (allowed (front n) l && at (ahead (rest_of n)) h)) (suffixes c)))
    (refuted (list_all (λ n. not (allowed (front n) l && at (ahead (rest_of n)) h)) (suffixes c))
    (λ a. let no_one = all_in (λ n. not (allowed (front n) l && at (ahead (rest_of n)) h)) g.0 (suffixes c) (suffix_among c g.0 g.1 g.2) a in
    cc (not-true (allowed (front g.0) l && at (ahead (rest_of g.0)) h) no_one, and_from (allowed (front g.0) l) (at (ahead (rest_of g.0)) h) g.3 g.4)))

pub sits_ends : (c : Nonterminal) (l : Production) (h : Option TokenKind) → is_read c ≡ true → allowed c l ≡ true → Sits c l h → ends (rest_of l) h ≡ true
unfolding Sits
sits_ends c l h r a (inl f) = ends_is c l h r a f
sits_ends c l None r a (inr g) = absurd (cc g.4)
sits_ends c l (Some k) r a (inr g) = before_is l g.0 k g.2 g.4 g.3
