-- The endings of the code.
use Rattle.rv_machine.specs.Machine.{exit, stack, stuck}
use Rattle.rv_machine.specs.Machine as plain
use Rattle.rv_machine.specs.declared.stop.Ending.{Ending}
use Rattle.rv_machine.specs.declared.stop.Ending.TheVariants as ending
use Rattle.rv_machine.specs.declared.stop.Stop.{Stop}
use Rattle.rv_machine.specs.declared.stop.Stop.TheVariants.{Exit, Stack, Stuck}

abbrev pub ending_of : Ending → plain.Ending
ending_of (ending.Exit status) = exit status
ending_of ending.Stack = stack
ending_of (ending.Stuck pc why) = stuck pc why

abbrev pub stop_for : Ending → Stop
stop_for (ending.Exit status) = Exit status
stop_for ending.Stack = Stack
stop_for (ending.Stuck pc why) = Stuck pc why
