-- Parts of a construction, one after the other.
use Rattle.std.proofs.Common.{◌≡◌, append_assoc, ap, ◌∙◌}
use Rattle.std.specs.Prelude.{Result, Ok, Err, OnOk, IfOk}
use Rattle.std.proofs.lemmas.List.{append-nil}
use Rattle.g_build_def.specs.Writer.{Point, Built, given, bind}
use Rattle.g_build_expression.specs.Work.{Work, made, moved_to}

pub moved_made : {A : Type 0} → (w : Work) (v : A) (p : Point) → made w (given v p) ≡ moved_to w p
moved_made w v p = ap (λ ns. record { enclosing = w.enclosing; nodes = ns; point = p }) (append-nil w.nodes)

pub made_given : {A : Type 0} → (w : Work) (v : A) → made w (given v w.point) ≡ w
made_given w v = moved_made w v w.point

-- a part was made, and this is what it gave
pub record Makes {A : Type 0} (w : Work) (b : Built A) (u : Work) (v : A) : Type 0 where
  pub work : u ≡ made w b
  pub value : v ≡ b.value

-- one part and then another
pub bind_makes : {A B : Type 0} → (w w1 w2 : Work) (a : Built A) (f : A → Point → Built B) (v : A) (u : B) → Makes w a w1 v → Makes w1 (f v w1.point) w2 u → Makes w (bind a f) w2 u
bind_makes {A} {B} w w1 w2 a f v u h k =
    let same : f v w1.point ≡ f a.value a.after = ap (λ x. f x w1.point) h.value ∙ ap (λ x. f a.value x.point) h.work in
    record {
      work =
          k.work ∙ ap (made w1) same ∙ ap (λ x. made x (f a.value a.after)) h.work
          ∙ ap (λ ns. record { enclosing = w.enclosing; nodes = ns; point = (f a.value a.after).after }) (append_assoc w.nodes a.nodes (f a.value a.after).nodes);
      value = k.value ∙ ap (λ (x : Built B). x.value) same;
    }

-- ---- results

pub on_ok : {T E : Type 0} → (r : Result T E) (P Q : Type 0) → OnOk r P → (P → Q) → OnOk r Q
on_ok (Ok x) P Q h f = f h
on_ok (Err e) P Q h f = tt

pub if_ok : {T E : Type 0} → (r : Result T E) (P Q : T → Type 0) → IfOk r P → ((x : T) → P x → Q x) → IfOk r Q
if_ok (Ok x) P Q h f = f x h
if_ok (Err e) P Q h f = tt
