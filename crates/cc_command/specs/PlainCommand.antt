-- The plain form of a parsed command.
use Rattle.std.specs.Prelude.{◌≤◌, option_map}
use Rattle.base.specs.Limits.{most_workers}
use Rattle.cc_command.specs.Command.{Command, accept, build, run, generate, check, session, interpret}
use Rattle.cc_command.specs.declared.arguments.Command.{Command as Parsed}
use Rattle.cc_command.specs.declared.arguments.Command.TheVariants.{Accept, Build, Run, Generate, Check, Session, Interpret}

-- the plain form of a parsed command
abbrev pub plain_command : Parsed → Command
plain_command Accept = accept
plain_command (Build source image recipe workers report form) = build source.now image.now recipe.now workers (option_map (λ s. s.now) report) form
plain_command (Run image steps) = run image.now steps
plain_command (Generate start functions out) = generate start functions out.now
plain_command (Check source log image form) = check source.now log.now image.now form
plain_command (Session source image recipe workers form) = session source.now image.now recipe.now workers form
plain_command (Interpret source bound) = interpret source.now bound

-- a build or a session is by 1 to the most workers, and a source is run within a bound of 1 to 1,000,000
abbrev pub IsInRange : Parsed → Type 0
IsInRange (Build source image recipe workers report form) = (1 ≤ workers) × (workers ≤ most_workers)
IsInRange (Session source image recipe workers form) = (1 ≤ workers) × (workers ≤ most_workers)
IsInRange (Interpret source bound) = (1 ≤ bound) × (bound ≤ 1000000)
IsInRange _ = Unit {0}
