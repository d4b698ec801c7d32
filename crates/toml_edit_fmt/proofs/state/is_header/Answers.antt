-- No line has an opening bracket there.
use Rattle.toml_edit_fmt.proofs.StateLaws.{header-opened}
use Rattle.toml_edit_fmt.proofs.state.is_header.Goals as goal

pub returns-in-HeaderOpen : goal.returns-in-HeaderOpen
returns-in-HeaderOpen c = λ s start is. header-opened s start _ c.args.statement.now is c.in-HeaderOpen.is
