use Rattle.std.proofs.Common.{rules, ap, ◌∙◌, option_map, drop}
use Rattle.std.specs.String.{string_bytes}
use Rattle.cc_io.specs.Files.{content}
use Rattle.cc_io.specs.FileMap.{file_set}
use Rattle.cc_io.proofs.FileNamesLemmas.{NamesFit-put}
use Rattle.cc_io.proofs.OpenLemmas.{left-put}
use Rattle.cc_io.proofs.mem_files.MemFiles.insert.Goals as goal

pub invariant_of-self-2 : goal.invariant_of-self-2
invariant_of-self-2 c =
    let read : _ = c.args.self.now.read_names_fit in
    let write : _ = c.args.self.now.write_names_fit in
    record {
      read_names_fit = NamesFit-put c.put.result _ _ _ _ _ _ read c.make_room.ensures.no_less (search rules) c.put.ensures.ok c.put.ensures.err;
      write_names_fit = NamesFit-put c.put.result _ _ _ _ _ _ write c.make_room-2.ensures.no_less (search rules) c.put.ensures.ok c.put.ensures.err;
    }

pub returns-clause-left : goal.returns-clause-left
returns-clause-left c = λ differ.
    let read_at = c.args.self.now.read_at in
    let files = file_set c.put.new.files in
    ap (λ read. option_map (λ at. drop at (content read files)) read_at) c.make_room.ensures.same
    ∙ left-put c.put.result (string_bytes c.args.self.now.read_name) c.args.name.now read_at c.args.bytes.items (file_set c.args.self.now.files) files c.put.ensures.ok c.put.ensures.err differ
