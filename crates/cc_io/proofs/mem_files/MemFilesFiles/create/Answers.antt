use Rattle.cc_io.specs.MemFiles.{files_of}
use Rattle.cc_io.proofs.FileNamesLemmas.{put-some}
use Rattle.cc_io.proofs.mem_files.MemFilesFiles.create.Goals as goal

pub set_name-requires : goal.set_name-requires
set_name-requires c =
    let name = c.args.name.now in
    c.insert.new.self.write_names_fit name (put-some c.insert.result name _ _ (files_of c.insert.new.self) c.insert.ensures.ok c.if-is_err.ensures.value)
