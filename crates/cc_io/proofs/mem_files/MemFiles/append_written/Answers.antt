use Rattle.std.proofs.Common.{Some, ap, ◌∙◌}
use Rattle.std.specs.String.{string_bytes}
use Rattle.cc_io.specs.FileMap.{file_set}
use Rattle.cc_io.proofs.FileNamesLemmas.{NamesFit-append}
use Rattle.cc_io.proofs.OpenLemmas.{left-append, written-some}
use Rattle.cc_io.proofs.mem_files.MemFiles.append_written.Goals as goal

pub invariant_of-self : goal.invariant_of-self
invariant_of-self c = record {
  read_names_fit = NamesFit-append c.append.result _ _ _ _ _ c.args.self.now.read_names_fit c.append.ensures.ok c.append.ensures.err;
  write_names_fit = NamesFit-append c.append.result _ _ _ _ _ c.args.self.now.write_names_fit c.append.ensures.ok c.append.ensures.err;
}

pub returns-clause-left : goal.returns-clause-left
returns-clause-left c = λ differ.
    let read = string_bytes c.args.self.now.read_name in
    left-append c.append.result read c.as_str.result.now c.args.self.now.read_at c.args.piece.now (file_set c.args.self.now.files)
    (file_set c.append.new.files) c.append.ensures.ok c.append.ensures.err
    (λ same. differ (same ∙ ap Some c.as_str.ensures.value ∙ written-some c.args.self.now.is_written (string_bytes c.args.self.now.write_name) c.requires))
