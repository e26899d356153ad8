use Rattle.std.proofs.Common.{◌≡◌, ◌++◌, take, map, flat_map, codes}
use Rattle.std.specs.declared.option.Option.TheVariants.{Some}
use Rattle.g_text.specs.Texts.{kind_text}
use Rattle.g_text.proofs.writing.push_args.Given as goal

-- the letters so far are written
abbrev pub invariant-loop-kind : goal.invariant-loop-kind
invariant-loop-kind l = l.out.items ≡ l.fn.out.items ++ codes " " ++ flat_map kind_text (map Some (take l.kind-index l.args))
