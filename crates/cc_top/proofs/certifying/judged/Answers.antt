use Rattle.std.proofs.Common.{◌<◌, ◌^◌, refl, inl}
use Rattle.std.proofs.lemmas.List.Elements.{All-from_get_or}
use Rattle.cc_top.proofs.certifying.judged.Goals as goal

pub returns-in-Ok-clause-judged : goal.returns-in-Ok-clause-judged
returns-in-Ok-clause-judged c =
    let told = c.in-Ok.ensures.certified in inl (refl, record { certifies = told.0; meaning = told.1 })

pub returns-in-Ok-clause-bytes : goal.returns-in-Ok-clause-bytes
returns-in-Ok-clause-bytes c = All-from_get_or (λ b. b < 2 ^ 8) c.args.source.now 0 (λ k within. (c.type_inv.source k).fits)

pub returns-in-Err-clause-bytes : goal.returns-in-Err-clause-bytes
returns-in-Err-clause-bytes c = All-from_get_or (λ b. b < 2 ^ 8) c.args.source.now 0 (λ k within. (c.type_inv.source k).fits)
