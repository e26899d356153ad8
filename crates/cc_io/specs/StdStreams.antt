-- What the adapters of the standard streams show of themselves.
use Rattle.std.specs.Prelude.{ℕ}
use Rattle.cc_io.specs.declared.std_streams.StdSource.{StdSource}
use Rattle.cc_io.specs.declared.std_streams.StdSink.{StdSink}

-- the reader of a source, and its count of faults
abbrev pub reader_of : {R : Type 0} → StdSource R → R
reader_of source = source.reader

abbrev pub source_faults : {R : Type 0} → StdSource R → ℕ
source_faults source = source.faults

-- the writer of a sink, and its count of faults
abbrev pub writer_of : {W : Type 0} → StdSink W → W
writer_of sink = sink.writer

abbrev pub sink_faults : {W : Type 0} → StdSink W → ℕ
sink_faults sink = sink.faults
