use Rattle.std.proofs.Common.{rules, ap, ◌∙◌}
use Rattle.std.specs.String.{string_bytes}
use Rattle.cc_io.specs.Files.{put_file}
use Rattle.cc_io.specs.FileMap.{file_set}
use Rattle.cc_io.proofs.FileMapLemmas.{file_set-put}
use Rattle.cc_io.proofs.file_map.put.Goals as goal

pub returns-in-Some-clause-ok : goal.returns-in-Some-clause-ok
returns-in-Some-clause-ok c =
    file_set-put c.args.name.now c.args.files.now (c.get_mut.follows.lender c.args.bytes) c.args.bytes ((c.get_mut.follows.holds c.args.bytes).3 (search rules))

pub returns-in_ok-insert-in-None-clause-ok : goal.returns-in_ok-insert-in-None-clause-ok
returns-in_ok-insert-in-None-clause-ok c =
    let key = c.in_ok-from_str-in-None.field-0 in
    file_set-put (string_bytes key) c.get_mut.follows.lender-at-none c.insert.new.self c.args.bytes c.in_ok-insert-in-None.ensures.updates
    ∙ ap (λ name. put_file name c.args.bytes.items (file_set c.get_mut.follows.lender-at-none)) c.in_ok-from_str-in-None.ensures.ok
    ∙ ap (λ files. put_file c.args.name.now c.args.bytes.items (file_set files)) c.get_mut.follows.holds-at-none
