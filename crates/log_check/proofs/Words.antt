-- Lines that are none of a log's, by the word at which they differ from each.
use Rattle.std.specs.Prelude.{codes, decimal}
use Rattle.std.proofs.Common.{◌≡◌, ◌≢◌, ◌<◌, ◌^◌, ℕ, List, ◌∷◌, ◌++◌, refl, sym, ap, subst, ◌∙◌, append_assoc, arith}
use Rattle.r_rule.specs.Names.{rule_name}
use Rattle.r_rule.specs.declared.steps.Step.{Step}
use Rattle.cc_watch.specs.Rows.{PlainRow}
use Rattle.log_check.specs.Log.{IsHead}
use Rattle.log_check.specs.Lines.{head_line, step_line}
use Rattle.log_check.specs.Pieces.{HasNo, pair_text, named_text}
use Rattle.log_check.proofs.Splits.{has_one, split_once, decimal_has_no, name_has_no, rule_has_no, function_has_no}

-- ---- pairs of numbers

pub no_pair_split : (text : List ℕ) (before after : ℕ) → HasNo 32 text → text ≢ pair_text before after
no_pair_split text before after h e = has_one 32 (decimal before) (decimal after) (subst (HasNo 32) e h)

pair_parts : (text a b : List ℕ) (before after : ℕ) → text ≡ a ++ (32 ∷ b) → HasNo 32 a → before < 2 ^ 32 → text ≡ pair_text before after → (a ≡ decimal before) × (b ≡ decimal after)
pair_parts text a b before after parts h small e =
    split_once 32 a (decimal before) b (decimal after) h (decimal_has_no 32 before (omega arith) small) (sym parts ∙ e)

pub no_pair_first : (text a b : List ℕ) (before after : ℕ) → text ≡ a ++ (32 ∷ b) → HasNo 32 a → before < 2 ^ 32 → a ≢ decimal before → text ≢ pair_text before after
no_pair_first text a b before after parts h small other e = other (pair_parts text a b before after parts h small e).0

pub no_pair_second : (text a b : List ℕ) (before after : ℕ) → text ≡ a ++ (32 ∷ b) → HasNo 32 a → before < 2 ^ 32 → b ≢ decimal after → text ≢ pair_text before after
no_pair_second text a b before after parts h small other e = other (pair_parts text a b before after parts h small e).1

-- ---- a name before them

pub no_name_split : (text : List ℕ) (r : PlainRow) → HasNo 32 text → text ≢ named_text r.name r.before r.after
no_name_split text r h e = has_one 32 r.name (pair_text r.before r.after) (subst (HasNo 32) e h)

named_parts : (text a b : List ℕ) (r : PlainRow) → text ≡ a ++ (32 ∷ b) → HasNo 32 a → IsHead r → text ≡ named_text r.name r.before r.after →
    (a ≡ r.name) × (b ≡ pair_text r.before r.after)
named_parts text a b r parts h head e =
    split_once 32 a r.name b (pair_text r.before r.after) h (name_has_no 32 refl r.name head.name) (sym parts ∙ e)

pub no_name_first : (text a b : List ℕ) (r : PlainRow) → text ≡ a ++ (32 ∷ b) → HasNo 32 a → IsHead r → a ≢ r.name → text ≢ named_text r.name r.before r.after
no_name_first text a b r parts h head other e = other (named_parts text a b r parts h head e).0

pub no_name_second : (text a b : List ℕ) (r : PlainRow) → text ≡ a ++ (32 ∷ b) → HasNo 32 a → IsHead r → b ≢ pair_text r.before r.after → text ≢ named_text r.name r.before r.after
no_name_second text a b r parts h head other e = other (named_parts text a b r parts h head e).1

-- ---- the word `function` before them

pub head_line_is : (r : PlainRow) → head_line r ≡ codes "function" ++ (32 ∷ named_text r.name r.before r.after)
head_line_is r = ap (λ t. codes "function " ++ t) (append_assoc r.name (32 ∷ decimal r.before) (32 ∷ decimal r.after))

pub is_head : (line word rest : List ℕ) (r : PlainRow) → line ≡ word ++ (32 ∷ rest) → word ≡ codes "function" → rest ≡ named_text r.name r.before r.after → line ≡ head_line r
is_head line word rest r parts first second =
    parts ∙ (ap (λ w. w ++ (32 ∷ rest)) first ∙ (ap (λ t. codes "function" ++ (32 ∷ t)) second ∙ sym (head_line_is r)))

pub no_head_split : (line : List ℕ) (r : PlainRow) → HasNo 32 line → line ≢ head_line r
no_head_split line r h e = has_one 32 (codes "function") (named_text r.name r.before r.after) (subst (HasNo 32) (e ∙ head_line_is r) h)

head_parts : (line word rest : List ℕ) (r : PlainRow) → line ≡ word ++ (32 ∷ rest) → HasNo 32 word → line ≡ head_line r →
    (word ≡ codes "function") × (rest ≡ named_text r.name r.before r.after)
head_parts line word rest r parts h e =
    split_once 32 word (codes "function") rest (named_text r.name r.before r.after) h (function_has_no 32 (omega arith)) (sym parts ∙ (e ∙ head_line_is r))

pub no_head_word : (line word rest : List ℕ) (r : PlainRow) → line ≡ word ++ (32 ∷ rest) → HasNo 32 word → word ≢ codes "function" → line ≢ head_line r
no_head_word line word rest r parts h other e = other (head_parts line word rest r parts h e).0

pub no_head_rest : (line word rest : List ℕ) (r : PlainRow) → line ≡ word ++ (32 ∷ rest) → HasNo 32 word → rest ≢ named_text r.name r.before r.after → line ≢ head_line r
no_head_rest line word rest r parts h other e = other (head_parts line word rest r parts h e).1

-- ---- steps

pub no_step_split : (line : List ℕ) (s : Step) → HasNo 32 line → line ≢ step_line s
no_step_split line s h e = has_one 32 (rule_name s.rule) (decimal s.node) (subst (HasNo 32) e h)

step_parts : (line word rest : List ℕ) (s : Step) → line ≡ word ++ (32 ∷ rest) → HasNo 32 word → line ≡ step_line s → (word ≡ rule_name s.rule) × (rest ≡ decimal s.node)
step_parts line word rest s parts h e = split_once 32 word (rule_name s.rule) rest (decimal s.node) h (rule_has_no 32 (omega arith) s.rule) (sym parts ∙ e)

pub no_step_rule : (line word rest : List ℕ) (s : Step) → line ≡ word ++ (32 ∷ rest) → HasNo 32 word → word ≢ rule_name s.rule → line ≢ step_line s
no_step_rule line word rest s parts h other e = other (step_parts line word rest s parts h e).0

pub no_step_node : (line word rest : List ℕ) (s : Step) → line ≡ word ++ (32 ∷ rest) → HasNo 32 word → rest ≢ decimal s.node → line ≢ step_line s
no_step_node line word rest s parts h other e = other (step_parts line word rest s parts h e).1
