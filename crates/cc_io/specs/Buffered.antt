-- What buffers show of themselves: what is gathered for a sink, and what was read ahead of a source.
use Rattle.std.specs.Prelude.{ℕ, Bool, List, Option, drop}
use Rattle.std.specs.List.{slice_range}
use Rattle.cc_io.specs.Source.{prepend}
use Rattle.cc_io.specs.Sink.{append}
use Rattle.cc_io.specs.declared.buffered_sink.BufferedSink.{BufferedSink}
use Rattle.cc_io.specs.declared.buffered_source.BufferedSource.{BufferedSource}

-- the sink that bytes are handed to
abbrev pub sink_behind : {S : Type 0} → BufferedSink S → S
sink_behind b = b.sink

-- the bytes that were taken and not yet handed over
abbrev pub gathered : {S : Type 0} → BufferedSink S → List ℕ
gathered b = drop b.sent b.buffer.items

-- all that was taken, where it is known what the sink behind holds
abbrev pub held_with : {S : Type 0} → (S → Option (List ℕ)) → BufferedSink S → Option (List ℕ)
held_with held b = append (held (sink_behind b)) (gathered b)

-- whether the sink behind has failed
abbrev pub has_failed : {S : Type 0} → BufferedSink S → Bool
has_failed b = b.has_failed

-- the count of faults
abbrev pub faults_of : {S : Type 0} → BufferedSink S → ℕ
faults_of b = b.faults

-- the source that bytes are read from
abbrev pub source_behind : {S : Type 0} → BufferedSource S → S
source_behind b = b.source

-- the bytes that were read and not yet given
abbrev pub read_ahead : {S : Type 0} → BufferedSource S → List ℕ
read_ahead b = slice_range b.buffer b.at b.end

-- all that is left, where it is known what the source behind has left
abbrev pub left_with : {S : Type 0} → (S → Option (List ℕ)) → BufferedSource S → Option (List ℕ)
left_with left b = prepend (read_ahead b) (left (source_behind b))
