-- The words of a command as the code keeps them.
use Rattle.gateway_run.specs.Commands.{BindWords, Command, bind, check, routes}
use Rattle.gateway_run.specs.declared.command.Bind.{Bind}
use Rattle.gateway_run.specs.declared.command.Command.{Command as WordCommand}
use Rattle.gateway_run.specs.declared.command.Command.TheVariants as words

-- the texts of the three words
abbrev pub bind_view : Bind → BindWords
bind_view b = record { set = b.set.now; method = b.method.now; target = b.target.now }

-- the command
abbrev pub command_view : WordCommand → Command
command_view (words.Bind b) = bind (bind_view b)
command_view (words.Check set) = check set.now
command_view (words.Routes set) = routes set.now
