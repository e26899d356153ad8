-- The conditions on the tables, computed over all nonterminals, productions and token kinds.
use Rattle.std.specs.Prelude.{◌≡◌, ℕ, Bool, true, false, not, ◌&&◌, ◌||◌, List, [], ◌∷◌, Option, Some, None, nat_lt, nat_le}
use Rattle.std.specs.List.{list_all}
use Rattle.std.proofs.Common.{refl}
use Rattle.c_lex.specs.declared.token.TokenKind.{TokenKind}
use Rattle.c_ast.specs.Nonterminals.{Nonterminal, includes, nonterminal_number, level_number, repeated_number, optional_number, same_nonterminal}
use Rattle.c_ast.specs.Productions.{Production}
use Rattle.c_ast.specs.Productions as production
use Rattle.c_ast.specs.Terminals.{is, keyword_number, mark_number, is_of_level, operator_level, is_assign_mark, is_unary_mark, is_inc_dec_mark}
use Rattle.c_ast.specs.Grammar.{Symbol, T, N, rule, symbols_of, allowed, repeated, optional, tighter}
use Rattle.c_ast.specs.PredictSets.{at, begins_base, begins_type, begins_external, begins_expr, begins_init, keyword_stmt, stmt, item, base, plain_spec, spec, external, after_tag, group_label, parenthesis, operand_mark, operand, initialiser, begins_optional, start, begins_repeated, mark_suffix, suffix, left, operation, operand_next, init_next, stmt_next, next}
use Rattle.c_ast.proofs.lemmas.CheckedLists.{kept}
use Rattle.c_ast.proofs.Enumerations.{Payload, kinds, heads, labels, nonterminals, production_number, same_production}
use Rattle.c_ast.proofs.Follow.{is_suffix, front, rest_of, is_read, is_nullable, all_nullable, begins, ahead, follows_kind, follows, is_else, ends, precedence}

abbrev pub alternatives : Nonterminal → List Production
alternatives c = kept (allowed c) labels

abbrev pub suffixes : Nonterminal → List Production
suffixes c = kept is_suffix (alternatives c)

abbrev pub read_nonterminals : List Nonterminal
read_nonterminals = kept is_read nonterminals

abbrev pub flags : List Bool
flags = false ∷ true ∷ []

-- A production with which a nonterminal begins is one of its own, and takes no tree before it.
abbrev pub good_start : Nonterminal → Option Production → Bool
good_start c None = true
good_start c (Some l) = allowed c l && not (is_suffix l) && is_read c

pub starts_checked : (y : Payload) → list_all (λ c. list_all (λ h. list_all (λ b. good_start c (start c h b)) flags) (heads y)) nonterminals ≡ true
unfolding rule symbols_of allowed includes nonterminal_number level_number repeated_number optional_number same_nonterminal repeated optional tighter is keyword_number mark_number
    is_of_level operator_level is_assign_mark is_unary_mark is_inc_dec_mark begins_base begins_type begins_external begins_expr begins_init keyword_stmt stmt item base plain_spec spec
    external after_tag group_label parenthesis operand_mark operand initialiser begins_optional start begins_repeated mark_suffix suffix left operation operand_next init_next stmt_next next
    is_suffix front rest_of is_read is_nullable all_nullable begins ahead follows_kind follows ends precedence production_number same_production
starts_checked y = refl

-- A production that goes on takes the tree before it, and may begin with the token ahead.
abbrev pub good_next : Nonterminal → Production → Option TokenKind → Option Production → Bool
good_next c l h None = true
good_next c l h (Some n) =
    allowed c n && is_suffix n && allowed (front n) l && at (ahead (rest_of n)) h && (not (same_production n production.IfElse) || same_production l production.If)

pub nexts_checked : (y : Payload) → list_all (λ c. list_all (λ l. list_all (λ h. good_next c l h (next c l h)) (heads y)) (alternatives c)) read_nonterminals ≡ true
unfolding rule symbols_of allowed includes nonterminal_number level_number repeated_number optional_number same_nonterminal repeated optional tighter is keyword_number mark_number
    is_of_level operator_level is_assign_mark is_unary_mark is_inc_dec_mark begins_base begins_type begins_external begins_expr begins_init keyword_stmt stmt item base plain_spec spec
    external after_tag group_label parenthesis operand_mark operand initialiser begins_optional start begins_repeated mark_suffix suffix left operation operand_next init_next stmt_next next
    is_suffix front rest_of is_read is_nullable all_nullable begins ahead follows_kind follows ends precedence production_number same_production
nexts_checked y = refl

-- None goes on before what may follow the nonterminal, but an `else` after an `if`.
abbrev pub stops : Production → Option TokenKind → Option Production → Bool
stops l h None = true
stops l h (Some n) = same_production l production.If && is_else h

pub stops_checked : (y : Payload) → list_all (λ c. list_all (λ l. list_all (λ h. stops l h (next c l h)) (kept (follows c) (heads y))) (alternatives c)) read_nonterminals ≡ true
unfolding rule symbols_of allowed includes nonterminal_number level_number repeated_number optional_number same_nonterminal repeated optional tighter is keyword_number mark_number
    is_of_level operator_level is_assign_mark is_unary_mark is_inc_dec_mark begins_base begins_type begins_external begins_expr begins_init keyword_stmt stmt item base plain_spec spec
    external after_tag group_label parenthesis operand_mark operand initialiser begins_optional start begins_repeated mark_suffix suffix left operation operand_next init_next stmt_next next
    is_suffix front rest_of is_read is_nullable all_nullable begins ahead follows_kind follows ends precedence production_number same_production
stops_checked y = refl

abbrev pub is_choice : Production → Option Production → Bool
is_choice l None = false
is_choice l (Some n) = same_production n l

-- Where a production may go on, it does.

pub chosen_checked : (y : Payload) → list_all (λ c. list_all (λ n. list_all (λ k. list_all (λ l. is_choice n (next c l (Some k))) (alternatives (front n))) (kept (ahead (rest_of n)) (kinds y)))
    (suffixes c)) read_nonterminals ≡ true
unfolding rule symbols_of allowed includes nonterminal_number level_number repeated_number optional_number same_nonterminal repeated optional tighter is keyword_number mark_number
    is_of_level operator_level is_assign_mark is_unary_mark is_inc_dec_mark begins_base begins_type begins_external begins_expr begins_init keyword_stmt stmt item base plain_spec spec
    external after_tag group_label parenthesis operand_mark operand initialiser begins_optional start begins_repeated mark_suffix suffix left operation operand_next init_next stmt_next next
    is_suffix front rest_of is_read is_nullable all_nullable begins ahead follows_kind follows ends precedence production_number same_production
chosen_checked y = refl

-- The first symbol of a production that goes on is a tree of the nonterminal too.

pub inner_checked : (y : Payload) → list_all (λ c. list_all (λ n. list_all (λ l. allowed c l) (alternatives (front n))) (suffixes c)) read_nonterminals ≡ true
unfolding rule symbols_of allowed includes nonterminal_number level_number repeated_number optional_number same_nonterminal repeated optional tighter is keyword_number mark_number
    is_of_level operator_level is_assign_mark is_unary_mark is_inc_dec_mark begins_base begins_type begins_external begins_expr begins_init keyword_stmt stmt item base plain_spec spec
    external after_tag group_label parenthesis operand_mark operand initialiser begins_optional start begins_repeated mark_suffix suffix left operation operand_next init_next stmt_next next
    is_suffix front rest_of is_read is_nullable all_nullable begins ahead follows_kind follows ends precedence production_number same_production
inner_checked y = refl

-- What may follow a nonterminal may follow each of its productions.

pub ends_checked : (y : Payload) → list_all (λ c. list_all (λ l. list_all (ends (rest_of l)) (kept (follows c) (heads y))) (alternatives c)) read_nonterminals ≡ true
unfolding rule symbols_of allowed includes nonterminal_number level_number repeated_number optional_number same_nonterminal repeated optional tighter is keyword_number mark_number
    is_of_level operator_level is_assign_mark is_unary_mark is_inc_dec_mark begins_base begins_type begins_external begins_expr begins_init keyword_stmt stmt item base plain_spec spec
    external after_tag group_label parenthesis operand_mark operand initialiser begins_optional start begins_repeated mark_suffix suffix left operation operand_next init_next stmt_next next
    is_suffix front rest_of is_read is_nullable all_nullable begins ahead follows_kind follows ends precedence production_number same_production
ends_checked y = refl

-- So may what goes on after a production.

pub before_checked : (y : Payload) → list_all (λ n. list_all (λ k. list_all (λ l. ends (rest_of l) (Some k)) (alternatives (front n))) (kept (ahead (rest_of n)) (kinds y))) (kept is_suffix labels) ≡
    true
unfolding rule symbols_of allowed includes nonterminal_number level_number repeated_number optional_number same_nonterminal repeated optional tighter is keyword_number mark_number
    is_of_level operator_level is_assign_mark is_unary_mark is_inc_dec_mark begins_base begins_type begins_external begins_expr begins_init keyword_stmt stmt item base plain_spec spec
    external after_tag group_label parenthesis operand_mark operand initialiser begins_optional start begins_repeated mark_suffix suffix left operation operand_next init_next stmt_next next
    is_suffix front rest_of is_read is_nullable all_nullable begins ahead follows_kind follows ends precedence production_number same_production
before_checked y = refl

-- What stands after a nonterminal in a production may follow it.
abbrev pub good_row : Payload → List Symbol → Bool
good_row y [] = true
good_row y (T s ∷ symbols) = good_row y symbols
good_row y (N c ∷ symbols) =
    is_read c && list_all (λ k. follows_kind c k && not (is_else (Some k))) (kept (ahead symbols) (kinds y)) && good_row y symbols

pub rows_checked : (y : Payload) → list_all (λ l. good_row y (rest_of l)) labels ≡ true
unfolding rule symbols_of allowed includes nonterminal_number level_number repeated_number optional_number same_nonterminal repeated optional tighter is keyword_number mark_number
    is_of_level operator_level is_assign_mark is_unary_mark is_inc_dec_mark begins_base begins_type begins_external begins_expr begins_init keyword_stmt stmt item base plain_spec spec
    external after_tag group_label parenthesis operand_mark operand initialiser begins_optional start begins_repeated mark_suffix suffix left operation operand_next init_next stmt_next next
    is_suffix front rest_of is_read is_nullable all_nullable begins ahead follows_kind follows ends precedence production_number same_production
rows_checked y = refl

-- What a production may begin with, its nonterminal may begin with.

pub firsts_checked : (y : Payload) → list_all (λ c. list_all (λ l. list_all (begins c) (kept (ahead (symbols_of l)) (kinds y))) (alternatives c)) nonterminals ≡ true
unfolding rule symbols_of allowed includes nonterminal_number level_number repeated_number optional_number same_nonterminal repeated optional tighter is keyword_number mark_number
    is_of_level operator_level is_assign_mark is_unary_mark is_inc_dec_mark begins_base begins_type begins_external begins_expr begins_init keyword_stmt stmt item base plain_spec spec
    external after_tag group_label parenthesis operand_mark operand initialiser begins_optional start begins_repeated mark_suffix suffix left operation operand_next init_next stmt_next next
    is_suffix front rest_of is_read is_nullable all_nullable begins ahead follows_kind follows ends precedence production_number same_production
firsts_checked y = refl

-- Only the empty productions of repetitions and options are empty.

pub nonempty_checked : (y : Payload) → list_all (λ c. list_all (λ l. not (all_nullable (symbols_of l))) (alternatives c)) (kept (λ c. not (is_nullable c)) nonterminals) ≡ true
unfolding rule symbols_of allowed includes nonterminal_number level_number repeated_number optional_number same_nonterminal repeated optional tighter is keyword_number mark_number
    is_of_level operator_level is_assign_mark is_unary_mark is_inc_dec_mark begins_base begins_type begins_external begins_expr begins_init keyword_stmt stmt item base plain_spec spec
    external after_tag group_label parenthesis operand_mark operand initialiser begins_optional start begins_repeated mark_suffix suffix left operation operand_next init_next stmt_next next
    is_suffix front rest_of is_read is_nullable all_nullable begins ahead follows_kind follows ends precedence production_number same_production
nonempty_checked y = refl

abbrev pub is_nonterminal : List Symbol → Bool
is_nonterminal (N c ∷ symbols) = true
is_nonterminal _ = false

-- After the tree before it a production takes a token.

pub tails_checked : (y : Payload) → list_all (λ n. is_nonterminal (symbols_of n) && not (all_nullable (rest_of n))) (kept is_suffix labels) ≡ true
unfolding rule symbols_of allowed includes nonterminal_number level_number repeated_number optional_number same_nonterminal repeated optional tighter is keyword_number mark_number
    is_of_level operator_level is_assign_mark is_unary_mark is_inc_dec_mark begins_base begins_type begins_external begins_expr begins_init keyword_stmt stmt item base plain_spec spec
    external after_tag group_label parenthesis operand_mark operand initialiser begins_optional start begins_repeated mark_suffix suffix left operation operand_next init_next stmt_next next
    is_suffix front rest_of is_read is_nullable all_nullable begins ahead follows_kind follows ends precedence production_number same_production
tails_checked y = refl

-- what may stand after a tree of the production l in a nonterminal
abbrev pub sits : Nonterminal → Production → Option TokenKind → Bool
sits c l h = follows c h || not (list_all (λ n. not (allowed (front n) l && at (ahead (rest_of n)) h)) (suffixes c))

-- Where a nonterminal may begin with a production, it does.
abbrev pub good_begin : Payload → Payload → Nonterminal → Production → List Symbol → Bool
good_begin y z c l [] = list_all (λ h. list_all (λ b. is_choice l (start c h b)) flags) (kept (sits c l) (heads y))
good_begin y z c l (T s ∷ symbols) =
    list_all (λ k. list_all (λ h. is_choice l (start c (Some k) (at begins_type h))) (kept (λ h. at (ahead symbols) h || all_nullable symbols) (heads z))) (kept (is s) (kinds y))
good_begin y z c l (N d ∷ symbols) =
    not (all_nullable (N d ∷ symbols)) && list_all (λ k. list_all (λ b. is_choice l (start c (Some k) b)) flags) (kept (ahead (N d ∷ symbols)) (kinds y))

pub begins_checked : (y z : Payload) → list_all (λ c. list_all (λ l. good_begin y z c l (symbols_of l)) (kept (λ l. not (is_suffix l)) (alternatives c))) read_nonterminals ≡ true
unfolding rule symbols_of allowed includes nonterminal_number level_number repeated_number optional_number same_nonterminal repeated optional tighter is keyword_number mark_number
    is_of_level operator_level is_assign_mark is_unary_mark is_inc_dec_mark begins_base begins_type begins_external begins_expr begins_init keyword_stmt stmt item base plain_spec spec
    external after_tag group_label parenthesis operand_mark operand initialiser begins_optional start begins_repeated mark_suffix suffix left operation operand_next init_next stmt_next next
    is_suffix front rest_of is_read is_nullable all_nullable begins ahead follows_kind follows ends precedence production_number same_production
begins_checked y z = refl

abbrev pub takes : TokenKind → List Symbol → Bool
takes k (T s ∷ symbols) = is s k
takes k _ = false

abbrev pub takes_it : TokenKind → Option Production → Bool
takes_it k None = false
takes_it k (Some l) = takes k (symbols_of l)

abbrev pub same_choice : Option Production → Option Production → Bool
same_choice None None = true
same_choice None (Some n) = false
same_choice (Some l) None = false
same_choice (Some l) (Some n) = same_production l n

-- A choice that hangs on the token after the next one is between productions that take the next one.
abbrev pub good_look : TokenKind → Option Production → Option Production → Bool
good_look k a b = same_choice a b || (takes_it k a && takes_it k b)

pub looks_checked : (y : Payload) → list_all (λ c. list_all (λ k. good_look k (start c (Some k) false) (start c (Some k) true)) (kinds y)) nonterminals ≡ true
unfolding rule symbols_of allowed includes nonterminal_number level_number repeated_number optional_number same_nonterminal repeated optional tighter is keyword_number mark_number
    is_of_level operator_level is_assign_mark is_unary_mark is_inc_dec_mark begins_base begins_type begins_external begins_expr begins_init keyword_stmt stmt item base plain_spec spec
    external after_tag group_label parenthesis operand_mark operand initialiser begins_optional start begins_repeated mark_suffix suffix left operation operand_next init_next stmt_next next
    is_suffix front rest_of is_read is_nullable all_nullable begins ahead follows_kind follows ends precedence production_number same_production
looks_checked y = refl

-- What a production reads before it takes a token has a lower precedence.
abbrev pub good_ranks : ℕ → List Symbol → Bool
good_ranks r [] = true
good_ranks r (T s ∷ symbols) = true
good_ranks r (N c ∷ symbols) = nat_lt (precedence c) r && good_ranks r symbols

pub ranks_checked : (y : Payload) → list_all (λ c. nat_le (precedence c) 10 && list_all (λ l. good_ranks (precedence c) (rest_of l)) (alternatives c)) read_nonterminals ≡ true
unfolding rule symbols_of allowed includes nonterminal_number level_number repeated_number optional_number same_nonterminal repeated optional tighter is keyword_number mark_number
    is_of_level operator_level is_assign_mark is_unary_mark is_inc_dec_mark begins_base begins_type begins_external begins_expr begins_init keyword_stmt stmt item base plain_spec spec
    external after_tag group_label parenthesis operand_mark operand initialiser begins_optional start begins_repeated mark_suffix suffix left operation operand_next init_next stmt_next next
    is_suffix front rest_of is_read is_nullable all_nullable begins ahead follows_kind follows ends precedence production_number same_production
ranks_checked y = refl

abbrev pub goes : Option Production → Bool
goes None = false
goes (Some n) = true

-- An `else` after an `if` goes on.

pub ifs_checked : (y : Payload) → list_all (λ c. list_all (λ h. goes (next c production.If h)) (kept is_else (heads y))) (kept (λ c. allowed c production.If) read_nonterminals) ≡ true
unfolding rule symbols_of allowed includes nonterminal_number level_number repeated_number optional_number same_nonterminal repeated optional tighter is keyword_number mark_number
    is_of_level operator_level is_assign_mark is_unary_mark is_inc_dec_mark begins_base begins_type begins_external begins_expr begins_init keyword_stmt stmt item base plain_spec spec
    external after_tag group_label parenthesis operand_mark operand initialiser begins_optional start begins_repeated mark_suffix suffix left operation operand_next init_next stmt_next next
    is_suffix front rest_of is_read is_nullable all_nullable begins ahead follows_kind follows ends precedence production_number same_production
ifs_checked y = refl

-- Only an `if` goes on with an `else`.
pub elses_checked : (y : Payload) → list_all (λ n. list_all (λ k. not (is_else (Some k)) || same_production n production.IfElse) (kept (ahead (rest_of n)) (kinds y))) (kept is_suffix labels) ≡ true
unfolding rule symbols_of allowed includes nonterminal_number level_number repeated_number optional_number same_nonterminal repeated optional tighter is keyword_number mark_number
    is_of_level operator_level is_assign_mark is_unary_mark is_inc_dec_mark begins_base begins_type begins_external begins_expr begins_init keyword_stmt stmt item base plain_spec spec
    external after_tag group_label parenthesis operand_mark operand initialiser begins_optional start begins_repeated mark_suffix suffix left operation operand_next init_next stmt_next next
    is_suffix front rest_of is_read is_nullable all_nullable begins ahead follows_kind follows ends precedence production_number same_production
elses_checked y = refl
