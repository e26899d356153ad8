-- What is known of an answer that is there, or is not.
use Rattle.std.proofs.Common.{Option, None, Some, IfSome, IfNone}

pub on_none : {A : Type 0} (P : Type 0) (o : Option A) → P → IfNone o P
on_none P None h = h
on_none P (Some x) h = tt

pub some_more : {A : Type 0} (o : Option A) (P Q : A → Type 0) → ((x : A) → P x → Q x) → IfSome o P → IfSome o Q
some_more None P Q more h = tt
some_more (Some x) P Q more h = more x h

pub none_more : {A : Type 0} (o : Option A) (P Q : Type 0) → (P → Q) → IfNone o P → IfNone o Q
none_more None P Q more h = more h
none_more (Some x) P Q more h = tt
