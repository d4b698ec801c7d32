-- Lines that are laid out with an indentation or as they are, and gaps with comments that are aligned.
use Rattle.std.specs.Prelude.{ℕ, suc, Bool, true, false, ◌||◌, if◌then◌else◌, List, [], ◌++◌, drop, Option, Some, None, is_none, is_some}
use Rattle.toml_edit_model.specs.Comments.{first_comment, first_line, lines, words}
use Rattle.toml_edit_model.specs.Text.{Text, joined, one}
use Rattle.toml_edit_fmt_laws.specs.Rules.{Comments, as_they_are, apart, aligned, Rules, Indentation, as_it_is, flush, by_depth, units}
use Rattle.toml_edit_fmt_laws.specs.Laying.{indented, is_whole_line, laid_lines, line_break, whole_lines}
use Rattle.toml_edit_fmt.specs.PageView.{Bit, letters, comment_bits}
use Rattle.toml_edit_fmt.specs.declared.lines.Gap as code
use Rattle.toml_edit_fmt.specs.declared.lines.Gap.TheVariants.{First, Next, Comma, Last, Only}

-- a line moved in, if there is a depth
abbrev pub laid_line : Rules → Option ℕ → Text → Text
laid_line r None l = l
laid_line r (Some depth) l = indented (units r depth) l

-- with one, white space after the last newline is no line
abbrev pub is_kept : Option ℕ → Text → Bool
is_kept indent l = is_none indent || is_whole_line l

abbrev pub laid_of : Option ℕ → List Text → List Text
laid_of None ls = ls
laid_of (Some depth) ls = whole_lines ls

-- lines at a depth stay as they are unless there is a rule for them
abbrev pub indent_as : Indentation → ℕ → Option ℕ
indent_as as_it_is depth = None
indent_as flush depth = Some depth
indent_as by_depth depth = Some depth

-- ---- what is after something on its line

abbrev pub rest_bits : Comments → Option ℕ → Text → List Bit
rest_bits as_they_are list t = one (letters t)
rest_bits (apart n) list t =
    if is_some (first_comment t) then comment_bits (apart n) list (words t) else one (letters (words t))
rest_bits (aligned n) list t =
    if is_some (first_comment t) then comment_bits (aligned n) list (words t)
    else one (letters (words t))

-- ---- gaps

-- nothing is before, in the brackets, or after
abbrev pub is_at_start : code.Gap → Bool
is_at_start First = true
is_at_start Only = true
is_at_start Next = false
is_at_start Comma = false
is_at_start Last = false

abbrev pub is_at_end : code.Gap → Bool
is_at_end Last = true
is_at_end Only = true
is_at_end First = false
is_at_end Next = false
is_at_end Comma = false

-- the list of which a member is on the line before
abbrev pub list_before : ℕ → code.Gap → Option ℕ
list_before depth Next = Some (suc depth)
list_before depth Last = Some (suc depth)
list_before depth First = None
list_before depth Comma = None
list_before depth Only = None

-- the comment on the first line, if there is one
abbrev pub beside_bits : Comments → Option ℕ → Text → List Bit
beside_bits c list t = if is_some (first_comment t) then rest_bits c list (first_line t) else []

-- a newline and the other lines, so far in
abbrev pub below_text : Rules → Bool → Bool → ℕ → Text → Text
below_text r is_start is_end depth t =
    line_break r t ++ laid_lines r is_start is_end (Some depth) (joined (drop 1 (lines t)))

abbrev pub gap_bits : Rules → ℕ → code.Gap → Text → List Bit
gap_bits r depth g t =
    beside_bits r.comments (list_before depth g) t
    ++ one (letters (line_break r t
    ++ (laid_lines r (is_at_start g) (is_at_end g) (Some (suc depth)) (joined (drop 1 (lines t)))
    ++ units r (if is_at_end g then depth else suc depth))))
