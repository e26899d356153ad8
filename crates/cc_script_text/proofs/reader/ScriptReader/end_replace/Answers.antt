use Rattle.cc_script_text.specs.declared.command.Command.TheVariants.{Replace}
use Rattle.cc_script_text.proofs.reader.ScriptReader.end_replace.Goals as goal

pub returns-in-Err-clause-fault : goal.returns-in-Err-clause-fault
returns-in-Err-clause-fault g c = c.in-Err.ensures.fault (Replace c.args.name.now c.args.text.items)
