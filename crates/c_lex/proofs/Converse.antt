-- What stands in a source is what the definition gives.
use Rattle.std.proofs.Common.{◌≡◌, ◌⊎◌, ℕ, suc, ◌+◌, ◌-◌, ◌<◌, ◌≤◌, Bool, true, false, cond, not, ltb, ◌||◌, List, [], ◌∷◌, ◌++◌, length, take, drop, Option, Some, None, Result, Ok, Err, codes, refl, sym, ap, ◌∙◌, subst, arith, inl, inr, add-zero, zero-add}
use Rattle.std.specs.Prelude.{slice_index, slice_range}
use Rattle.std.specs.Option.{ok_or, option_map_or}
use Rattle.std.specs.List.{list_all, prefix_len}
use Rattle.std.proofs.lemmas.Bool.{cases_lt, ltb-false, lt-ltb, le-ltb, not-true}
use Rattle.std.proofs.lemmas.List.{length-take-le, length-drop, length-append, take-append-drop, drop_all, drop-drop, append-nil}
use Rattle.base.specs.Limits.{most_source_bytes, most_tokens}
use Rattle.c_lex.specs.Results.{◌>>=◌}
use Rattle.c_lex.specs.Classes.{is_line_end, is_inner_blank}
use Rattle.c_lex.specs.Trivia.{comment_at, comment_end, line_comment, include_len, past_include, ends_line}
use Rattle.c_lex.specs.Lexemes.{lexeme_at, lexeme_of, start_of, slash_at}
use Rattle.c_lex.specs.Tokens.{tokens_from, counted, tokens_then, lexed}
use Rattle.c_lex.specs.Grammar.{IsToken, IsTrivia, IsLineStart, IsBlockComment, IsLineComment, IsIncludeLine, Reads, done, trivia, token, Stands, Spells, begins_comment, TokensAreLongest}
use Rattle.c_lex.specs.Faults.{IsLongest, IsFaulty, FaultsAreFirst}
use Rattle.c_lex.specs.declared.fault.LexFault.{LexFault}
use Rattle.c_lex.specs.declared.fault.LexFault.TheVariants as fault
use Rattle.c_lex.specs.declared.lexeme.Lexeme.TheVariants as lexeme
use Rattle.c_lex.specs.declared.token.Token.{Token}
use Rattle.c_lex.proofs.Lengths.{chosen}
use Rattle.c_lex.proofs.Driver.{step, stops, skipped, tokens_then_none, too_long}
use Rattle.c_lex.proofs.TriviaLaws.{closes, closes_front}
use Rattle.c_lex.proofs.Reading.{run_before, run_whole}
use Rattle.c_lex.proofs.Complete.{on_line, token_lexeme}
use Rattle.c_lex.proofs.Lines.{IsInside, no_start, no_line_after, token_starts, token_no_blank, token_no_hash, token_on_line, comment_on_line, blank_starts, line_starts, line_free, include_found, include_blank, include_empty, include_on_line, none_some, no_include_len, first_is, at_offset, front_is, next_text, range_parts, begins_none, slash_none, line_none, blank_inside, block_last}
use Rattle.c_lex.proofs.Covered.{AreBlankBetween, IsUncovered, none_uncovered, uncovered_from}
use Rattle.c_lex.proofs.FaultFound.{fault_found}
use Rattle.c_lex.proofs.Whole.{lexed_reads, lexed_faulty}

-- ---- tokens

record IsSplit (source : List ℕ) (t : Token) : Type 0 where
  b : ℕ
  bs : List ℕ
  m : ℕ
  split : drop t.at source ≡ b ∷ bs
  size : t.at + suc m ≡ t.end
  within : suc m ≤ length (b ∷ bs)
  longest : IsLongest (b ∷ bs) (suc m) t.kind

split_token : (source : List ℕ) (t : Token) → Stands source t → IsSplit source t
split_token source t h =
    let offset = at_offset source t.at (omega (arith, h.some, h.within)) in
    let m : ℕ = t.end - t.at - 1 in
    let size : t.at + suc m ≡ t.end = omega (arith, h.some) in
    let n_is : t.end - t.at ≡ suc m = omega (arith, h.some) in
    let len : length (offset.b ∷ offset.bs) ≡ length source - t.at = ap length (sym offset.split) ∙ length-drop t.at source in
    let bytes : slice_range source t.at t.end ≡ take (suc m) (offset.b ∷ offset.bs) = ap (λ k. take k (drop t.at source)) n_is ∙ ap (take (suc m)) offset.split in
    record {
      b = offset.b;
      bs = offset.bs;
      m = m;
      split = offset.split;
      size = size;
      within = omega (arith, h.within, h.some);
      longest = record {
        no_comment = ap begins_comment (sym offset.split) ∙ h.no_comment;
        token = subst (λ (u : List ℕ). IsToken u) bytes h.token;
        spells = subst (λ (u : List ℕ). Spells u t.kind) bytes h.spells;
        longest = λ i more fits is.
            let end_is : t.at + i - t.at ≡ i = omega arith in
            let there : take i (offset.b ∷ offset.bs) ≡ slice_range source t.at (t.at + i) = ap (take i) (sym offset.split) ∙ ap (λ k. take k (drop t.at source)) (sym end_is) in
            h.longest (t.at + i) (omega arith) (omega (arith, h.some, h.within)) (subst (λ (u : List ℕ). IsToken u) there is);
      };
    }

token_none : (source : List ℕ) (t : Token) → IsSplit source t → past_include (drop t.at source) ≡ None
token_none source t h =
    let starts = token_starts h.b (take h.m h.bs) h.longest.token in
    begins_none source t.at h.b h.bs h.split (token_no_blank h.b starts) (token_no_hash h.b starts)

-- ---- no include line is read but from the start of its line

-- No include line that begins at the start of an earlier line goes on here.
abbrev Never : List ℕ → ℕ → Type 0
Never source at = (start : ℕ) → start < at → IsLineStart source start → AreBlankBetween source start at → (rest : List ℕ) → past_include (drop at source) ≡ Some rest → ⊥

left_of : (x : Bool) → (x || false) ≡ true → x ≡ true
left_of true f = refl
left_of false f = absurd cc

-- one more blank
blank_too : (source : List ℕ) (start at b : ℕ) (bs : List ℕ) → drop at source ≡ b ∷ bs → is_inner_blank b ≡ true → AreBlankBetween source start at → AreBlankBetween source start (at + 1)
blank_too source start at b bs split blank blanks k low high =
    elim (cases_lt k at) [
      | inl less ↦ blanks k low less
      | inr le ↦
          let same : k ≡ at = omega arith in
          ap (λ i. is_inner_blank (slice_index source i)) same ∙ ap is_inner_blank (first_is source at b bs split) ∙ blank
    ]

never_blank : (source : List ℕ) (at b : ℕ) (bs : List ℕ) (t : Bool) → drop at source ≡ b ∷ bs → is_inner_blank b ≡ t → (is_line_end b || is_inner_blank b) ≡ true → Never source (at + 1) →
    Never source at
never_blank source at b bs true split blank is ih start before line blanks rest e =
    let next : past_include (drop (at + 1) source) ≡ Some rest = ap past_include (next_text source at b bs split) ∙ sym (include_blank b bs blank) ∙ sym (ap past_include split) ∙ e in
    ih start (omega arith) line (blank_too source start at b bs split blank blanks) rest next
never_blank source at b bs false split blank is ih start before line blanks rest e =
    let ends : is_line_end b ≡ true = left_of (is_line_end b) (ap (λ t. is_line_end b || t) (sym blank) ∙ is) in
    none_some rest (past_include (drop at source)) (line_none source at b bs split ends) e

never_trivia : (source : List ℕ) (at end : ℕ) → at < end → end ≤ length source → IsTrivia source at end → Never source end → Never source at
never_trivia source at end less within (inl h) ih start before line blanks rest e =
    let offset = at_offset source at (omega arith) in
    let first = first_is source at offset.b offset.bs offset.split in
    let is : (is_line_end offset.b || is_inner_blank offset.b) ≡ true = ap (λ c. is_line_end c || is_inner_blank c) (sym first) ∙ h.1 in
    never_blank source at offset.b offset.bs (is_inner_blank offset.b) offset.split refl is (subst (λ (i : ℕ). Never source i) h.0 ih) start before line blanks rest e
never_trivia source at end less within (inr (inl h)) ih start before line blanks rest e =
    let offset = at_offset source at (omega arith) in
    none_some rest (past_include (drop at source)) (slash_none source at offset.b offset.bs offset.split (front_is source at end 47 (42 ∷ (h.inner ++ codes "*/")) less h.spelled)) e
never_trivia source at end less within (inr (inr (inl h))) ih start before line blanks rest e =
    let offset = at_offset source at (omega arith) in
    none_some rest (past_include (drop at source)) (slash_none source at offset.b offset.bs offset.split (front_is source at end 47 (47 ∷ h.inner) less h.spelled)) e
never_trivia source at end less within (inr (inr (inr h))) ih start before line blanks rest e =
    let blank = blanks (at - 1) (omega arith) (omega arith) in
    let free : is_line_end (slice_index source (at - 1)) ≡ false = not-true (is_line_end (slice_index source (at - 1))) (line_free is_inner_blank (slice_index source (at - 1)) refl blank) in
    no_start source at (omega arith) free h.0

never : (source : List ℕ) (to at : ℕ) (ts : List Token) → IsUncovered source to → Reads source to at ts → Never source at
never source to at _ uncovered (done _ e) start before line blanks rest is =
    subst (λ (i : ℕ). IsUncovered source i) (sym e) uncovered start (omega arith) line blanks rest is
never source to at ts uncovered (trivia _ end _ less within g r) start before line blanks rest is =
    never_trivia source at end less within g (never source to end ts uncovered r) start before line blanks rest is
never source to _ _ uncovered (token t ts stands r) start before line blanks rest is = none_some rest (past_include (drop t.at source)) (token_none source t (split_token source t stands)) is

-- ---- comments and blanks

comment_found : (at : ℕ) (inner more : List ℕ) → ((m : ℕ) → m < length inner → closes (drop m (inner ++ codes "*/")) ≡ false) →
    comment_end at ((inner ++ codes "*/") ++ more) ≡ Some (at + length inner + 2)
comment_found at [] more none = let size : at + 2 ≡ at + 0 + 2 = omega arith in ap Some size
comment_found at (x ∷ xs) more none =
    let text : List ℕ = (xs ++ codes "*/") ++ more in
    let long : 2 ≤ length (x ∷ (xs ++ codes "*/")) = omega (arith, length-append xs (codes "*/")) in
    let here : closes (x ∷ text) ≡ false = closes_front (x ∷ (xs ++ codes "*/")) more long ∙ none 0 (omega arith) in
    let size : at + 1 + length xs + 2 ≡ at + length (x ∷ xs) + 2 = omega arith in
    ap (λ t. cond t (Some (at + 2)) (comment_end (at + 1) text)) here ∙ comment_found (at + 1) xs more (λ m h. none (suc m) (omega arith)) ∙ ap Some size

block_lexeme : (at : ℕ) (inner more : List ℕ) → ((m : ℕ) → m < length inner → closes (drop m (inner ++ codes "*/")) ≡ false) →
    lexeme_at at (codes "/*" ++ ((inner ++ codes "*/") ++ more)) ≡ Ok (lexeme.Trivia (length inner + 4))
unfolding lexeme_of start_of slash_at comment_at
block_lexeme at inner more none =
    let size : 0 + length inner + 2 + 2 ≡ length inner + 4 = omega arith in
    ap (λ o. ok_or o (fault.OpenComment at) >>= λ m. Ok (lexeme.Trivia (m + 2))) (comment_found 0 inner more none) ∙ ap (λ n. Ok (lexeme.Trivia n)) size

block_trivia : (at n : ℕ) (rest : List ℕ) → n ≤ length rest → IsBlockComment (take n rest) → lexeme_at at rest ≡ Ok (lexeme.Trivia n)
block_trivia at n rest within h =
    let more = drop n rest in
    let whole : rest ≡ codes "/*" ++ ((h.inner ++ codes "*/") ++ more) = sym (take-append-drop n rest) ∙ ap (λ (t : List ℕ). t ++ more) h.spelled in
    let len : length (h.inner ++ codes "*/") ≡ length h.inner + 2 = length-append h.inner (codes "*/") in
    let size : length h.inner + 4 ≡ n = omega (arith, ap length h.spelled, length-take-le n rest within) in
    ap (lexeme_at at) whole ∙ block_lexeme at h.inner more h.first ∙ ap (λ m. Ok (lexeme.Trivia m)) size

run_until : (p : ℕ → Bool) (xs more : List ℕ) → list_all p xs ≡ true → ((y : ℕ) (ys : List ℕ) → more ≡ y ∷ ys → p y ≡ false) → prefix_len p (xs ++ more) ≡ length xs
run_until p xs [] all stop = ap (prefix_len p) (append-nil xs) ∙ run_whole p xs all
run_until p xs (y ∷ ys) all stop = run_before p xs y ys all (stop y ys refl)

line_lexeme : (at : ℕ) (inner more : List ℕ) → on_line inner ≡ true → ends_line more ≡ true → lexeme_at at (codes "//" ++ (inner ++ more)) ≡ Ok (lexeme.Trivia (length inner + 2))
unfolding lexeme_of start_of slash_at line_comment
line_lexeme at inner more all ends =
    ap (λ n. Ok (lexeme.Trivia (n + 2))) (run_until (λ b. not (is_line_end b)) inner more all (λ y ys e. ap not (sym (ap ends_line e) ∙ ends)))

line_trivia : (at n : ℕ) (rest : List ℕ) → n ≤ length rest → IsLineComment (take n rest) (drop n rest) → lexeme_at at rest ≡ Ok (lexeme.Trivia n)
line_trivia at n rest within h =
    let more = drop n rest in
    let whole : rest ≡ codes "//" ++ (h.inner ++ more) = sym (take-append-drop n rest) ∙ ap (λ (t : List ℕ). t ++ more) h.spelled in
    let size : length h.inner + 2 ≡ n = omega (arith, ap length h.spelled, length-take-le n rest within) in
    ap (lexeme_at at) whole ∙ line_lexeme at h.inner more h.on_line h.ends ∙ ap (λ m. Ok (lexeme.Trivia m)) size

blank_trivia : (at b : ℕ) (bs : List ℕ) → is_inner_blank b ≡ true → lexeme_at at (b ∷ bs) ≡ Ok (lexeme.Trivia 1)
unfolding lexeme_of
blank_trivia at b bs blank = ap (λ s. lexeme_of s at (b ∷ bs)) (blank_starts b blank)

end_trivia : (at b : ℕ) (bs : List ℕ) → is_line_end b ≡ true → lexeme_at at (b ∷ bs) ≡ Ok (lexeme.Trivia (include_len bs + 1))
unfolding lexeme_of
end_trivia at b bs line = ap (λ s. lexeme_of s at (b ∷ bs)) (line_starts b line)

-- ---- one step

-- From this offset on the definition reads these tokens, and goes on from the offset `to`.
abbrev Gets : List ℕ → ℕ → List Token → ℕ → Type 0
Gets source to ts at =
    (count : ℕ) → count + length ts ≤ most_tokens → tokens_from count at 0 (drop at source) ≡ tokens_then ts (tokens_from (count + length ts) to 0 (drop to source))

trivia_gets : (source : List ℕ) (to : ℕ) (ts : List Token) (at n : ℕ) → at < length source → 0 < n → lexeme_at at (drop at source) ≡ Ok (lexeme.Trivia n) → Gets source to ts (at + n) →
    Gets source to ts at
trivia_gets source to ts at n less some scanned next count few =
    let text = drop at source in
    let more : drop n text ≡ drop (at + n) source = drop-drop n at source in
    let passes : counted count at (lexeme_at at text) ≡ Ok (lexeme.Trivia n) = ap (counted count at) scanned in
    step count at text (lexeme.Trivia n) passes some (omega (arith, length-drop at source)) ∙ ap (tokens_from count (at + n) 0) more ∙ next count few

then_then : (t : Token) (ts : List Token) (o : Result (List Token) LexFault) → tokens_then (t ∷ []) (tokens_then ts o) ≡ tokens_then (t ∷ ts) o
then_then t ts (Ok more) = refl
then_then t ts (Err f) = refl

token_gets : (source : List ℕ) (to : ℕ) (t : Token) (ts : List Token) → IsSplit source t → Gets source to ts t.end → Gets source to (t ∷ ts) t.at
token_gets source to t ts h next count few =
    let text = drop t.at source in
    let n : ℕ = suc h.m in
    let scanned : lexeme_at t.at text ≡ Ok (lexeme.Token t.kind n) = ap (lexeme_at t.at) h.split ∙ token_lexeme t.at h.b h.bs h.m t.kind h.within h.longest in
    let below : ltb count most_tokens ≡ true = lt-ltb count most_tokens (omega arith) in
    let passes : counted count t.at (lexeme_at t.at text) ≡ Ok (lexeme.Token t.kind n) = ap (counted count t.at) scanned
    ∙ ap (λ b. cond b (Ok (lexeme.Token t.kind n)) (Err (fault.ManyTokens t.at))) below in
    let some : 0 < length text = omega (arith, ap length h.split) in
    let more : drop n text ≡ drop (t.at + n) source = drop-drop n t.at source in
    let size : count + 1 + length ts ≡ count + suc (length ts) = omega arith in
    step count t.at text (lexeme.Token t.kind n) passes (omega arith) some
    ∙ ap (λ (u : List ℕ). tokens_then (record { kind = t.kind; at = t.at; end = t.at + n } ∷ []) (tokens_from (count + 1) (t.at + n) 0 u)) more
    ∙ ap (λ e. tokens_then (record { kind = t.kind; at = t.at; end = e } ∷ []) (tokens_from (count + 1) e 0 (drop e source))) h.size
    ∙ ap (tokens_then (t ∷ [])) (next (count + 1) (omega arith))
    ∙ then_then t ts (tokens_from (count + 1 + length ts) to 0 (drop to source))
    ∙ ap (λ c. tokens_then (t ∷ ts) (tokens_from c to 0 (drop to source))) size

-- ---- up to an offset

record IsReached (source : List ℕ) (to : ℕ) (ts : List Token) (at : ℕ) : Type 0 where
  inside : IsInside source at → Gets source to ts at
  at_start : IsLineStart source at → Gets source to ts (at + include_len (drop at source))

reached_by : (source : List ℕ) (to : ℕ) (ts : List Token) (at : ℕ) → (IsLineStart source at → include_len (drop at source) ≡ 0) → Gets source to ts at → IsReached source to ts at
reached_by source to ts at none gets = record {
  inside = λ _. gets;
  at_start = λ starts.
      let zero_is = none starts in
      let there : at ≡ at + include_len (drop at source) = omega arith in
      subst (λ (i : ℕ). Gets source to ts i) there gets;
}

first_reached : (source : List ℕ) (to : ℕ) (ts : List Token) (at : ℕ) → past_include (drop at source) ≡ None → Gets source to ts at → IsReached source to ts at
first_reached source to ts at none gets = reached_by source to ts at (λ _. no_include_len (drop at source) none) gets

-- a line that begins with no include line, as none goes on
no_include : (line : List ℕ) → ((rest : List ℕ) → past_include line ≡ Some rest → ⊥) → include_len line ≡ 0
no_include line none = by_rest (past_include line) refl
  where
    by_rest : (o : Option (List ℕ)) → past_include line ≡ o → include_len line ≡ 0
    by_rest None e = no_include_len line e
    by_rest (Some rest) e = absurd (none rest e)

blank_reached : (source : List ℕ) (to : ℕ) (ts : List Token) (at b : ℕ) (bs : List ℕ) (t : Bool) → at < length source → drop at source ≡ b ∷ bs → is_inner_blank b ≡ t →
    (is_line_end b || is_inner_blank b) ≡ true → Never source (at + 1) → IsReached source to ts (at + 1) → IsReached source to ts at
blank_reached source to ts at b bs true less split blank is none rest =
    let inside = blank_inside source at b bs split blank in
    let gets = trivia_gets source to ts at 1 less (omega arith) (ap (lexeme_at at) split ∙ blank_trivia at b bs blank) (rest.inside inside) in
    let next : (r : List ℕ) → past_include (drop at source) ≡ Some r → past_include (drop (at + 1) source) ≡ Some r = λ r e.
    ap past_include (next_text source at b bs split) ∙ sym (include_blank b bs blank) ∙ sym (ap past_include split) ∙ e in
    let here : AreBlankBetween source at (at + 1) = blank_too source at at b bs split blank (λ k low high. absurd (omega arith)) in
    reached_by source to ts at (λ starts. no_include (drop at source) (λ r e. none at (omega arith) starts here r (next r e))) gets
blank_reached source to ts at b bs false less split blank is none rest =
    let line : is_line_end b ≡ true = left_of (is_line_end b) (ap (λ t. is_line_end b || t) (sym blank) ∙ is) in
    let back : at + 1 - 1 ≡ at = omega arith in
    let starts : IsLineStart source (at + 1) = inr (omega arith, ap (λ i. is_line_end (slice_index source i)) back ∙ ap is_line_end (first_is source at b bs split) ∙ line) in
    let i = include_len bs in
    let len : include_len (drop (at + 1) source) ≡ i = ap include_len (next_text source at b bs split) in
    let there : at + 1 + include_len (drop (at + 1) source) ≡ at + (i + 1) = omega arith in
    let next : Gets source to ts (at + (i + 1)) = subst (λ (j : ℕ). Gets source to ts j) there (rest.at_start starts) in
    first_reached source to ts at (line_none source at b bs split line) (trivia_gets source to ts at (i + 1) less (omega arith) (ap (lexeme_at at) split ∙ end_trivia at b bs line) next)

trivia_reached : (source : List ℕ) (to : ℕ) (ts : List Token) (at end : ℕ) → at < end → end ≤ length source → IsTrivia source at end → Never source end → IsReached source to ts end →
    IsReached source to ts at
trivia_reached source to ts at end less within (inl h) none rest =
    let offset = at_offset source at (omega arith) in
    let first = first_is source at offset.b offset.bs offset.split in
    let is : (is_line_end offset.b || is_inner_blank offset.b) ≡ true = ap (λ c. is_line_end c || is_inner_blank c) (sym first) ∙ h.1 in
    blank_reached source to ts at offset.b offset.bs (is_inner_blank offset.b) (omega arith) offset.split refl is (subst (λ (i : ℕ). Never source i) h.0 none) (subst (λ
    (i : ℕ). IsReached source to ts i) h.0 rest)
trivia_reached source to ts at end less within (inr (inl h)) none rest =
    let offset = at_offset source at (omega arith) in
    let r = range_parts source at end less within in
    let n = r.0 in
    let fits : at + n ≤ length source = omega (arith, r.1) in
    let comment : IsBlockComment (take n (drop at source)) = subst (λ (u : List ℕ). IsBlockComment u) r.4 h in
    let inside : IsInside source (at + n) = no_start source (at + n) (omega (arith, r.2)) (ap is_line_end (block_last source at n r.2 fits comment).1) in
    let next : Gets source to ts (at + n) = subst (λ (i : ℕ). Gets source to ts i) (sym r.1) (rest.inside (subst (λ (i : ℕ). IsInside source i) r.1 inside)) in
    let gets = trivia_gets source to ts at n (omega arith) r.2 (block_trivia at n (drop at source) r.3 comment) next in
    first_reached source to ts at (slash_none source at offset.b offset.bs offset.split (front_is source at end 47 (42 ∷ (h.inner ++ codes "*/")) less h.spelled)) gets
trivia_reached source to ts at end less within (inr (inr (inl h))) none rest =
    let offset = at_offset source at (omega arith) in
    let r = range_parts source at end less within in
    let n = r.0 in
    let fits : at + n ≤ length source = omega (arith, r.1) in
    let comment : IsLineComment (take n (drop at source)) (drop n (drop at source)) =
    subst (λ (u : List ℕ). IsLineComment u (drop n (drop at source))) r.4 (subst (λ (u : List ℕ). IsLineComment (slice_range source at end) u) (sym r.5) h) in
    let inside : IsInside source (at + n) = no_line_after source at n r.2 fits (comment_on_line (take n (drop at source)) (drop n (drop at source)) comment) in
    let next : Gets source to ts (at + n) = subst (λ (i : ℕ). Gets source to ts i) (sym r.1) (rest.inside (subst (λ (i : ℕ). IsInside source i) r.1 inside)) in
    let gets = trivia_gets source to ts at n (omega arith) r.2 (line_trivia at n (drop at source) r.3 comment) next in
    first_reached source to ts at (slash_none source at offset.b offset.bs offset.split (front_is source at end 47 (47 ∷ h.inner) less h.spelled)) gets
trivia_reached source to ts at end less within (inr (inr (inr h))) none rest =
    let r = range_parts source at end less within in
    let n = r.0 in
    let line : IsIncludeLine (take n (drop at source)) (drop n (drop at source)) =
    subst (λ (u : List ℕ). IsIncludeLine u (drop n (drop at source))) r.4 (subst (λ (u : List ℕ). IsIncludeLine (slice_range source at end) u) (sym r.5) h.1) in
    let found : past_include (drop at source) ≡ Some (drop n (drop at source)) = ap past_include (sym (take-append-drop n (drop at source)))
    ∙ include_found (take n (drop at source)) (drop n (drop at source)) line in
    let size : length (drop at source) - length (drop n (drop at source)) ≡ n = omega (arith, length-drop n (drop at source), r.3) in
    let len : include_len (drop at source) ≡ n = ap (λ o. option_map_or (λ rest. length (drop at source) - length rest) o 0) found ∙ size in
    let inside : IsInside source (at + n) = no_line_after source at n r.2 (omega (arith, r.1)) (include_on_line (take n (drop at source)) (drop n (drop at source)) line) in
    let gets : Gets source to ts end = rest.inside (subst (λ (i : ℕ). IsInside source i) r.1 inside) in
    let there : end ≡ at + include_len (drop at source) = omega (arith, r.1) in
    record {
      inside = λ no_line. absurd (no_line h.0);
      at_start = λ _. subst (λ (i : ℕ). Gets source to ts i) there gets;
    }

end_reached : (source : List ℕ) (to : ℕ) → IsUncovered source to → IsReached source to [] to
end_reached source to uncovered = reached_by source to [] to (λ starts. no_include (drop to source) (λ r e. uncovered to (omega arith) starts (λ k low high. absurd (omega arith)) r e)) (λ count few.
    ap (λ c. tokens_from c to 0 (drop to source)) (sym (add-zero count)) ∙ sym (tokens_then_none (tokens_from (count + 0) to 0 (drop to source))))

reached : (source : List ℕ) (to at : ℕ) (ts : List Token) → to ≤ length source → IsUncovered source to → Reads source to at ts → IsReached source to ts at
reached source to at _ within uncovered (done _ e) = subst (λ (i : ℕ). IsReached source to [] i) (sym e) (end_reached source to uncovered)
reached source to at ts within uncovered (trivia _ end _ less fits g r) =
    trivia_reached source to ts at end less fits g (never source to end ts uncovered r) (reached source to end ts within uncovered r)
reached source to _ _ within uncovered (token t ts stands r) =
    let h = split_token source t stands in
    let n : ℕ = suc h.m in
    let fits : t.at + n ≤ length source = omega (arith, h.size, stands.within) in
    let bytes : take n (drop t.at source) ≡ take n (h.b ∷ h.bs) = ap (take n) h.split in
    let free : on_line (take n (drop t.at source)) ≡ true = ap on_line bytes ∙ token_on_line (take n (h.b ∷ h.bs)) h.longest.token in
    let inside : IsInside source (t.at + n) = no_line_after source t.at n (omega arith) fits free in
    let next : Gets source to ts t.end = (reached source to t.end ts within uncovered r).inside (subst (λ (i : ℕ). IsInside source i) h.size inside) in
    first_reached source to (t ∷ ts) t.at (token_none source t h) (token_gets source to t ts h next)

-- what the definition gives of a source that is read up to an offset
lexed_up_to : (source : List ℕ) (to : ℕ) (ts : List Token) → length source ≤ most_source_bytes → length ts ≤ most_tokens → to ≤ length source → IsUncovered source to → Reads source to 0 ts →
    lexed source ≡ tokens_then ts (tokens_from (length ts) to 0 (drop to source))
unfolding lexed
lexed_up_to source to ts short few within uncovered reads =
    let i = include_len source in
    let gets : Gets source to ts (0 + i) = (reached source to 0 ts within uncovered reads).at_start (inl refl) in
    let fits : ltb most_source_bytes (length source) ≡ false = le-ltb most_source_bytes (length source) short in
    ap (λ t. cond t (Err (fault.LongSource most_source_bytes)) (tokens_from 0 0 i source)) fits
    ∙ skipped 0 0 i source ∙ ap (λ j. tokens_from 0 (0 + i) 0 (drop j source)) (sym (zero-add i)) ∙ gets 0 (omega arith)
    ∙ ap (λ c. tokens_then ts (tokens_from c to 0 (drop to source))) (zero-add (length ts))

-- ---- a whole source

short_source : (source : List ℕ) (ts : List Token) → lexed source ≡ Ok ts → length source ≤ most_source_bytes
unfolding lexed
short_source source ts e =
    elim (chosen (ltb most_source_bytes (length source)) (Err (fault.LongSource most_source_bytes)) (tokens_from 0 0 (include_len source) source) (Ok ts) e) [
      | inl (_, f) ↦ absurd cc
      | inr (short, _) ↦ ltb-false most_source_bytes (length source) short
    ]

reads_lexed : (source : List ℕ) (ts : List Token) → length source ≤ most_source_bytes → length ts ≤ most_tokens → Reads source (length source) 0 ts → lexed source ≡ Ok ts
reads_lexed source ts short few reads =
    let none : drop (length source) source ≡ [] = drop_all (length source) source (omega arith) in
    let uncovered = none_uncovered source (length source) (ap past_include none ∙ include_empty) in
    lexed_up_to source (length source) ts short few (omega arith) uncovered reads
    ∙ ap (λ (t : List ℕ). tokens_then ts (tokens_from (length ts) (length source) 0 t)) none ∙ ap Ok (append-nil ts)

pub tokens_are_longest : TokensAreLongest
tokens_are_longest source ts = (
  λ e. (short_source source ts e, (lexed_reads source ts e).0, (lexed_reads source ts e).1),
  λ h. reads_lexed source ts h.0 h.1 h.2,
)

-- ---- a fault

faulty_lexed : (source : List ℕ) (f : LexFault) → IsFaulty source f → lexed source ≡ Err f
faulty_lexed source f h =
    let text = drop h.offset source in
    let found = fault_found text (length h.tokens) h.offset f h.fault in
    let less : h.offset < length source = omega (arith, found.0, length-drop h.offset source) in
    lexed_up_to source h.offset h.tokens h.short h.few (omega arith) (uncovered_from source h.offset less h.outside) h.reads
    ∙ ap (tokens_then h.tokens) (stops (length h.tokens) h.offset text f found.1 found.0)

pub faults_are_first : FaultsAreFirst
faults_are_first source f = (lexed_faulty source f, by_cause)
  where
    by_cause : ((most_source_bytes < length source) × (f ≡ fault.LongSource most_source_bytes)) ⊎ IsFaulty source f → lexed source ≡ Err f
    by_cause (inl h) = too_long source h.0 ∙ ap Err (sym h.1)
    by_cause (inr h) = faulty_lexed source f h
