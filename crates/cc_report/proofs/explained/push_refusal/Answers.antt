use Rattle.std.proofs.Common.{◌≡◌, ◌++◌, ℕ, List, refl, ap, ◌∙◌, append_assoc, codes}
use Rattle.std.proofs.lemmas.Result.{on_ok_weaker}
use Rattle.cc_report.specs.declared.refusal.Refusal.{Refusal}
use Rattle.cc_report.specs.Excerpt.{column, excerpt}
use Rattle.cc_report.specs.Explained.{count_text, place_text, refusal_text, rule_text}
use Rattle.cc_report.proofs.explained.push_refusal.Goals as goal

-- five texts, one after the other
five : (o o1 o2 o3 o4 o5 a b c d e : List ℕ) → o1 ≡ o ++ a → o2 ≡ o1 ++ b → o3 ≡ o2 ++ c → o4 ≡ o3 ++ d → o5 ≡ o4 ++ e → o5 ≡ o ++ (a ++ (b ++ (c ++ (d ++ e))))
five o o1 o2 o3 o4 o5 a b c d e first second third fourth fifth =
    fifth ∙ ap (λ x. x ++ e) (fourth ∙ ap (λ x. x ++ d) (third ∙ ap (λ x. x ++ c) (second ∙ ap (λ x. x ++ b) first))) ∙ simp append_assoc

-- the text of a refusal is five texts
parts : (r : Refusal) (s : List ℕ) (at : ℕ) →
    place_text r (column s at) ++ (count_text r.kind ++ (codes "\n" ++ (excerpt s at ++ rule_text r.kind))) ≡ refusal_text r s at
unfolding refusal_text
parts r s at = refl

pub returns : goal.returns
returns c =
    let r = c.args.refusal.now in
    let s = c.args.source.now in
    let first = c.in_ok-push_place.ensures ∙ ap (λ n. c.args.out.now.items ++ place_text r n) c.column.ensures in
    on_ok_weaker c.push_rule.result
    (λ last.
    five c.args.out.now.items c.push_place.new.out.items c.push_count.new.out.items c.push.new.out.items c.push_excerpt.new.out.items c.push_rule.new.out.items
    (place_text r (column s c.args.at)) (count_text r.kind) (codes "\n") (excerpt s c.args.at) (rule_text r.kind) first c.in_ok-push_count.ensures c.in_ok-push.ensures c.in_ok-push_excerpt.ensures
    last
    ∙ ap (λ text. c.args.out.now.items ++ text) (parts r s c.args.at))
    c.push_rule.ensures
