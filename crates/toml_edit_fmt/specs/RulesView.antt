-- The rules as the definitions have them.
use Rattle.toml_edit_fmt_laws.specs.Rules as laws
use Rattle.toml_edit_fmt.specs.declared.rules.Indentation as indentations
use Rattle.toml_edit_fmt.specs.declared.rules.Indentation.TheVariants.{AsItIs, Flush, ByDepth}
use Rattle.toml_edit_fmt.specs.declared.rules.Comments as comments
use Rattle.toml_edit_fmt.specs.declared.rules.Comments.TheVariants as comment
use Rattle.toml_edit_fmt.specs.declared.rules.Arrays as arrays
use Rattle.toml_edit_fmt.specs.declared.rules.Arrays.TheVariants as array
use Rattle.toml_edit_fmt.specs.declared.rules.Commas as commas
use Rattle.toml_edit_fmt.specs.declared.rules.Commas.TheVariants as comma
use Rattle.toml_edit_fmt.specs.declared.rules.Rules as rules

abbrev pub indentation_of : indentations.Indentation → laws.Indentation
indentation_of AsItIs = laws.as_it_is
indentation_of Flush = laws.flush
indentation_of ByDepth = laws.by_depth

abbrev pub comments_of : comments.Comments → laws.Comments
comments_of comment.AsTheyAre = laws.as_they_are
comments_of (comment.Apart n) = laws.apart n
comments_of (comment.Aligned n) = laws.aligned n

abbrev pub arrays_of : arrays.Arrays → laws.Arrays
arrays_of array.AsTheyAre = laws.arrays_stay
arrays_of array.Kept = laws.kept
arrays_of array.Collapsed = laws.collapsed

abbrev pub commas_of : commas.Commas → laws.Commas
commas_of comma.AsTheyAre = laws.commas_stay
commas_of comma.Always = laws.always
commas_of comma.Never = laws.never

abbrev pub rules_of : rules.Rules → laws.Rules
rules_of r =
    record {
      equals = r.equals;
      dots = r.dots;
      comments = comments_of r.comments;
      blank_lines = r.blank_lines;
      indentation = indentation_of r.indentation;
      unit = r.unit;
      arrays = arrays_of r.arrays;
      rows = r.rows;
      commas = commas_of r.commas;
      bracket_space = r.bracket_space;
      brace_space = r.brace_space;
      width = r.width;
      inline_tables = r.inline_tables;
      returns = r.returns;
      keys = r.keys;
      left_alone = r.left_alone;
    }
