-- Keywords and punctuators are equal where their numbers are.
use Rattle.std.proofs.Common.{◌≡◌, true, ◌==◌, List, [], ◌∷◌, refl, sym, ap, ◌∙◌}
use Rattle.std.proofs.lemmas.Bool.{eqb-true}
use Rattle.c_lex.specs.declared.keyword.Keyword.{Keyword}
use Rattle.c_lex.specs.declared.keyword.Keyword.TheVariants as w
use Rattle.c_lex.specs.declared.punct.Punct.{Punct}
use Rattle.c_lex.specs.declared.punct.Punct.TheVariants as m
use Rattle.c_ast.specs.Terminals.{mark_number, keyword_number}
use Rattle.c_ast.proofs.lemmas.CheckedLists.{nth}

other_words : List Keyword
other_words =
    w.Case ∷ w.Char ∷ w.Const ∷ w.Continue ∷ w.Default ∷ w.Do ∷ w.Else ∷ w.For ∷ w.If ∷ w.Int ∷ w.Return ∷ w.Short ∷
    w.Signed ∷ w.Sizeof ∷ w.Static ∷ w.Struct ∷ w.Switch ∷ w.Unsigned ∷ w.Void ∷ w.While ∷ w.Auto ∷ w.Double ∷
    w.Enum ∷ w.Extern ∷ w.Float ∷ w.Goto ∷ w.Inline ∷ w.Long ∷ w.Register ∷ w.Restrict ∷ w.Typedef ∷ w.Union ∷
    w.Volatile ∷ w.Alignas ∷ w.Alignof ∷ w.Atomic ∷ w.Bool ∷ w.Complex ∷ w.Generic ∷ w.Imaginary ∷ w.Noreturn ∷
    w.StaticAssert ∷ w.ThreadLocal ∷ []

other_marks : List Punct
other_marks =
    m.RParen ∷ m.LBracket ∷ m.RBracket ∷ m.LBrace ∷ m.RBrace ∷ m.Semicolon ∷ m.Comma ∷ m.Dot ∷ m.Arrow ∷ m.PlusPlus ∷
    m.MinusMinus ∷ m.Amp ∷ m.Star ∷ m.Plus ∷ m.Minus ∷ m.Tilde ∷ m.Bang ∷ m.Slash ∷ m.Percent ∷ m.ShiftLeft ∷
    m.ShiftRight ∷ m.Less ∷ m.Greater ∷ m.LessEqual ∷ m.GreaterEqual ∷ m.EqualEqual ∷ m.BangEqual ∷ m.Caret ∷ m.Pipe ∷
    m.AmpAmp ∷ m.PipePipe ∷ m.Question ∷ m.Colon ∷ m.Equal ∷ m.StarEqual ∷ m.SlashEqual ∷ m.PercentEqual ∷
    m.PlusEqual ∷ m.MinusEqual ∷ m.ShiftLeftEqual ∷ m.ShiftRightEqual ∷ m.AmpEqual ∷ m.CaretEqual ∷ m.PipeEqual ∷ []

word_at : (k : Keyword) → nth w.Break other_words (keyword_number k) ≡ k
unfolding keyword_number other_words
word_at w.Break = refl
word_at k = refl

mark_at : (p : Punct) → nth m.LParen other_marks (mark_number p) ≡ p
unfolding mark_number other_marks
mark_at m.LParen = refl
mark_at p = refl

pub same_word : (j k : Keyword) → (keyword_number j == keyword_number k) ≡ true → j ≡ k
same_word j k h = sym (word_at j) ∙ ap (nth w.Break other_words) (eqb-true (keyword_number j) (keyword_number k) h) ∙ word_at k

pub same_mark : (p q : Punct) → (mark_number p == mark_number q) ≡ true → p ≡ q
same_mark p q h = sym (mark_at p) ∙ ap (nth m.LParen other_marks) (eqb-true (mark_number p) (mark_number q) h) ∙ mark_at q
