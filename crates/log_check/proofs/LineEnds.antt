-- Texts that begin with a line, and texts that do not.
use Rattle.std.specs.Prelude.{codes, decimal}
use Rattle.std.proofs.Common.{◌≡◌, ◌≢◌, ℕ, List, [], ◌∷◌, ◌++◌, refl, sym, ap, subst, ◌∙◌, append_assoc, arith}
use Rattle.r_rule.specs.Names.{rule_name}
use Rattle.r_rule.specs.declared.steps.Step.{Step}
use Rattle.cc_watch.specs.Rows.{PlainRow}
use Rattle.cc_watch.specs.Texts.{head_text, step_text}
use Rattle.log_check.specs.Log.{IsHead, IsStep}
use Rattle.log_check.specs.Lines.{head_line, step_line}
use Rattle.log_check.specs.Pieces.{HasNo, pair_text, named_text}
use Rattle.log_check.proofs.Splits.{has_no_append, has_one, split_once, decimal_has_no, name_has_no, rule_has_no, function_has_no}
use Rattle.log_check.proofs.Words.{head_line_is}

pub head_has_no : (r : PlainRow) → IsHead r → HasNo 10 (head_line r)
head_has_no r head =
    subst (HasNo 10) (sym (head_line_is r))
    (has_no_append 10 (codes "function") (32 ∷ named_text r.name r.before r.after) (function_has_no 10 (omega arith)) (
      (λ e. omega (arith, e)),
      has_no_append 10 r.name (32 ∷ pair_text r.before r.after) (name_has_no 10 refl r.name head.name) (
        (λ e. omega (arith, e)),
        has_no_append 10 (decimal r.before) (32 ∷ decimal r.after) (decimal_has_no 10 r.before (omega arith) head.before)
            ((λ e. omega (arith, e)), decimal_has_no 10 r.after (omega arith) head.after),
      ),
    ))

pub step_has_no : (s : Step) → IsStep s → HasNo 10 (step_line s)
step_has_no s small =
    has_no_append 10 (rule_name s.rule) (32 ∷ decimal s.node) (rule_has_no 10 (omega arith) s.rule) ((λ e. omega (arith, e)), decimal_has_no 10 s.node (omega arith) small)

-- a text that begins with a line is split behind it
ended : (text line rest known more : List ℕ) → text ≡ line ++ (10 ∷ rest) → HasNo 10 line → HasNo 10 known → text ≡ (known ++ (10 ∷ [])) ++ more → line ≡ known
ended text line rest known more parts h g e =
    (split_once 10 line known rest more h g (sym parts ∙ (e ∙ append_assoc known (10 ∷ []) more))).0

not_ended : (text known more : List ℕ) → HasNo 10 text → text ≡ (known ++ (10 ∷ [])) ++ more → ⊥
not_ended text known more h e = has_one 10 known more (subst (HasNo 10) (e ∙ append_assoc known (10 ∷ []) more) h)

begins : (text line rest known : List ℕ) → text ≡ line ++ (10 ∷ rest) → line ≡ known → text ≡ (known ++ (10 ∷ [])) ++ rest
begins text line rest known parts e = parts ∙ (ap (λ t. t ++ (10 ∷ rest)) e ∙ sym (append_assoc known (10 ∷ []) rest))

-- ---- function lines

pub begins_with_head : (text line rest : List ℕ) (r : PlainRow) → text ≡ line ++ (10 ∷ rest) → line ≡ head_line r → text ≡ head_text r ++ rest
begins_with_head text line rest r parts e = begins text line rest (head_line r) parts e

pub no_head_end : (text : List ℕ) (r : PlainRow) (after : List ℕ) → HasNo 10 text → text ≢ head_text r ++ after
no_head_end text r after h e = not_ended text (head_line r) after h e

pub no_head_line : (text line rest : List ℕ) (r : PlainRow) (after : List ℕ) → text ≡ line ++ (10 ∷ rest) → HasNo 10 line → IsHead r → line ≢ head_line r → text ≢ head_text r ++ after
no_head_line text line rest r after parts h head other e = other (ended text line rest (head_line r) after parts h (head_has_no r head) e)

-- ---- step lines

pub begins_with_step : (text line rest : List ℕ) (s : Step) → text ≡ line ++ (10 ∷ rest) → line ≡ step_line s → text ≡ step_text s ++ rest
begins_with_step text line rest s parts e = begins text line rest (step_line s) parts e

step_end : (s : Step) (after : List ℕ) → step_text s ++ after ≡ (step_line s ++ (10 ∷ [])) ++ after
step_end s after = refl

pub no_step_end : (text : List ℕ) (s : Step) (after : List ℕ) → HasNo 10 text → text ≢ step_text s ++ after
no_step_end text s after h e = not_ended text (step_line s) after h (e ∙ step_end s after)

pub no_step_line : (text line rest : List ℕ) (s : Step) (after : List ℕ) → text ≡ line ++ (10 ∷ rest) → HasNo 10 line → IsStep s → line ≢ step_line s → text ≢ step_text s ++ after
no_step_line text line rest s after parts h small other e =
    other (ended text line rest (step_line s) after parts h (step_has_no s small) (e ∙ step_end s after))
