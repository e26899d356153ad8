-- What the forms in memory show of themselves.
use Rattle.std.specs.Prelude.{ℕ, ◌-◌, List, drop, vec_len}
use Rattle.std.specs.Vec.{vec_capacity}
use Rattle.cc_io.specs.declared.failing.FailingCalls.{FailingCalls}
use Rattle.cc_io.specs.declared.mem_source.NoFailSource.{NoFailSource}
use Rattle.cc_io.specs.declared.mem_source.MemSource.{MemSource}
use Rattle.cc_io.specs.declared.mem_sink.MemSink.{MemSink}

-- the bytes that are left
abbrev pub bytes_left : NoFailSource → List ℕ
bytes_left source = drop source.at source.content.items

-- of a source: the bytes that are left
abbrev pub source_left : MemSource → List ℕ
source_left source = bytes_left source.rest

-- of a source: the calls that are to fail, and how many were made
abbrev pub source_calls : MemSource → FailingCalls
source_calls source = source.calls

-- of a source: its count of faults
abbrev pub source_faults : MemSource → ℕ
source_faults source = source.faults

-- of a sink: all that was appended
abbrev pub sink_held : MemSink → List ℕ
sink_held sink = sink.bytes.items

-- of a sink: how many bytes more it holds without taking memory
abbrev pub sink_room : MemSink → ℕ
sink_room sink = vec_capacity sink.bytes - vec_len sink.bytes

-- of a sink: the calls that are to fail, and how many were made
abbrev pub sink_calls : MemSink → FailingCalls
sink_calls sink = sink.calls

-- of a sink: its count of faults
abbrev pub sink_faults : MemSink → ℕ
sink_faults sink = sink.faults
