-- Each byte has its escape.
use Rattle.std.proofs.Common.{sym, ap, arith}
use Rattle.json.specs.Print.{escape_byte}
use Rattle.toml_edit_io.proofs.Puts.{put_same}
use Rattle.toml_edit_json.proofs.Printing.{numbered-escape}
use Rattle.toml_edit_json.proofs.runs.put_escape.Goals as goal

pub returns-in-34 : goal.returns-in-34
unfolding escape_byte
returns-in-34 g c = put_same _ _ _ _ c.put.ensures (sym (ap escape_byte c.in-34.is))

pub returns-in-92 : goal.returns-in-92
unfolding escape_byte
returns-in-92 g c = put_same _ _ _ _ c.put-in-92.ensures (sym (ap escape_byte c.in-92.is))

pub returns-in-8 : goal.returns-in-8
unfolding escape_byte
returns-in-8 g c = put_same _ _ _ _ c.put-in-8.ensures (sym (ap escape_byte c.in-8.is))

pub returns-in-12 : goal.returns-in-12
unfolding escape_byte
returns-in-12 g c = put_same _ _ _ _ c.put-in-12.ensures (sym (ap escape_byte c.in-12.is))

pub returns-in-10 : goal.returns-in-10
unfolding escape_byte
returns-in-10 g c = put_same _ _ _ _ c.put-in-10.ensures (sym (ap escape_byte c.in-10.is))

pub returns-in-13 : goal.returns-in-13
unfolding escape_byte
returns-in-13 g c = put_same _ _ _ _ c.put-in-13.ensures (sym (ap escape_byte c.in-13.is))

pub returns-in-9 : goal.returns-in-9
unfolding escape_byte
returns-in-9 g c = put_same _ _ _ _ c.put-in-9.ensures (sym (ap escape_byte c.in-9.is))

pub returns-in_default : goal.returns-in_default
returns-in_default g c = put_same _ _ _ _ c.put_numbered.ensures (numbered-escape c.args.byte c.requires
    (grind (arith, c.in_default), grind (arith, c.in_default), grind (arith, c.in_default), grind (arith, c.in_default), grind (arith, c.in_default), grind (arith, c.in_default), grind (arith, c.in_default)))
