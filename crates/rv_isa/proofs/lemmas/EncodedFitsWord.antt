-- The word of an instruction has 32 bits.
use Rattle.std.proofs.Common.{arith, lit<}
use Rattle.rv_isa.specs.Words.{word_of, FitsFormat}
use Rattle.rv_isa.specs.RoundTrip.{EncodedFitsWord}
use Rattle.rv_isa.specs.declared.instruction.Instr.TheVariants.{Ecall}

pub encoded_fits_word : EncodedFitsWord
unfolding word_of FitsFormat
encoded_fits_word Ecall fits = lit< tt
encoded_fits_word _ fits = omega arith
