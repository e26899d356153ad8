-- What a call has to say of a content holds where that content is unknown.
use Rattle.std.proofs.Common.{ℕ, Result, Ok, Err, IfOk, OnErr}

pub if_ok-always : {E : Type 0} (r : Result ℕ E) (P : ℕ → Type 0) → ((n : ℕ) → P n) → IfOk r P
if_ok-always (Ok n) P all = all n
if_ok-always (Err e) P all = tt

pub on_err-always : {T E P : Type 0} (r : Result T E) → P → OnErr r P
on_err-always (Ok x) p = tt
on_err-always (Err e) p = p
