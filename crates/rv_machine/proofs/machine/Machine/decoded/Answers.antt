use Rattle.rv_machine.specs.View.{flags_in, state_of}
use Rattle.rv_machine.proofs.Decoded.{text_fetched}
use Rattle.rv_machine.proofs.machine.Machine.decoded.Goals as goal

pub returns-in-Some : goal.returns-in-Some
returns-in-Some c =
    let m = c.args.self.now in
    text_fetched (flags_in m) (state_of m) m.memory.text.at m.memory.text.words.items c.in-Some.word m.memory.decoded c.in-Some.ensures
