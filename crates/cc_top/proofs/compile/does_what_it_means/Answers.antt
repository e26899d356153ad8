use Rattle.std.proofs.Common.{◌^◌, ◌<◌, sym, subst}
use Rattle.std.proofs.lemmas.List.Elements.{All-from_get_or}
use Rattle.cc_emit.specs.Image.{lambdas_of}
use Rattle.cc_source.specs.Meaning.{KeepsMeaning}
use Rattle.cc_top.proofs.compile.does_what_it_means.Goals as goal

pub returns : goal.returns
returns c =
    let source = c.args.source.now in
    let bytes = All-from_get_or (λ b. b < 2 ^ 8) source 0 (λ k within. (c.type_inv.source k).fits) in
    let h = c.requires in
    let image = h.2.0 in
    record {
      image = record {
        program = h.0;
        accepted = h.1;
        image = image;
        meaning =
            subst (KeepsMeaning c.args.form h.0 (lambdas_of image.answers)) (sym image.file)
            (c.recipes_keep_meaning.ensures c.args.form source bytes h.0 h.1 c.args.recipe.now image.answers image.made);
      };
      counted = h.3;
      listed = h.2.1;
    }
