-- Parts whose value is dropped.
use Rattle.std.proofs.Common.{◌≡◌, ◌++◌, append_assoc, sym, ap, ◌∙◌}
use Rattle.std.proofs.lemmas.List.{append-nil}
use Rattle.g_build_def.specs.Writer.{Point, Built, bind, dropped}
use Rattle.g_build_expression.specs.Work.{Work, made}

pub dropped_made : {A : Type 0} → (w : Work) (b : Built A) → made w (dropped b) ≡ made w b
dropped_made w b = ap (λ ns. record { enclosing = w.enclosing; nodes = w.nodes ++ ns; point = b.after }) (append-nil b.nodes)

-- one part, and then another, whatever it gives
pub then_made : {A B : Type 0} → (w w1 : Work) (a : Built A) (f : Point → Built B) → w1 ≡ made w a → made w (bind a (λ _ t. f t)) ≡ made w1 (f w1.point)
then_made w w1 a f e =
    sym (ap (λ u. made u (f u.point)) e ∙ ap (λ ns. record { enclosing = w.enclosing; nodes = ns; point = (f a.after).after }) (append_assoc w.nodes a.nodes (f a.after).nodes))
