use Rattle.std.proofs.Common.{rules}
use Rattle.std.specs.String.{string_bytes}
use Rattle.cc_io.specs.Files.{content}
use Rattle.cc_io.specs.MemFiles.{files_of}
use Rattle.cc_io.proofs.OpenLemmas.{left-read}
use Rattle.cc_io.proofs.mem_files.MemFilesFiles.read.Goals as goal

pub returns-clause-bytes : goal.returns-clause-bytes
returns-clause-bytes c =
    let held = content (string_bytes c.args.self.now.read_name) (files_of c.args.self.now) in
    left-read c.args.self.now.read_at c.unwrap-at.result c.read_at-n.result held _ (search rules) (search rules)
