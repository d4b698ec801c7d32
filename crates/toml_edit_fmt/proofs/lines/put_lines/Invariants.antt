-- What is written, and what is left of the lines, are all lines laid out.
use Rattle.std.proofs.Common.{length}
use denote.Text.{Utf8}
use denote.Shadow.{shadow}
use Rattle.toml_edit_fmt_laws.specs.Laying.{laid_lines}
use Rattle.toml_edit_fmt.specs.RulesView.{rules_of}
use Rattle.toml_edit_fmt.proofs.LineLaws.{IsLaid}
use Rattle.toml_edit_fmt.proofs.lines.put_lines.Given as goal

abbrev pub invariant-lines : goal.invariant-lines
invariant-lines l = record {
  rest_text : shadow (Utf8 l.rest);
  is : IsLaid l.fn.page l.indent l.is_end (laid_lines (rules_of l.fn.page.rules) l.is_start l.is_end l.indent l.fn.text)
      l.rest l.page l.left l.end;
}

abbrev pub decreases-lines : goal.decreases-lines
decreases-lines l = length l.rest
