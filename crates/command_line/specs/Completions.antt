-- The words by which a shell completes a command line.
use Rattle.std.specs.Prelude.{ℕ, List, [], codes}
use Rattle.command_line.specs.declared.argument.Form.{Form}
use Rattle.command_line.specs.declared.argument.Form.TheVariants as forms
use Rattle.command_line.specs.declared.completions.Shell.{Shell}
use Rattle.command_line.specs.declared.completions.Shell.TheVariants as shells

-- the name of a shell
abbrev pub shell_name : Shell → List ℕ
shell_name shells.Bash = codes "bash"
shell_name shells.Zsh = codes "zsh"
shell_name shells.Fish = codes "fish"

-- what the value of an argument is called; a flag has none
abbrev pub value_name : Form → List ℕ
value_name forms.Flag = []
value_name (forms.Valued name kind) = name.now
value_name (forms.Preset name kind preset) = name.now
value_name (forms.Positional name) = name.now
value_name (forms.Among name words) = name.now
value_name (forms.Positionals name) = name.now

-- what is before the name of an argument where it is written
abbrev pub dashes : Form → List ℕ
dashes forms.Flag = codes "--"
dashes (forms.Valued name kind) = codes "--"
dashes (forms.Preset name kind preset) = codes "--"
dashes (forms.Positional name) = []
dashes (forms.Among name words) = []
dashes (forms.Positionals name) = []
