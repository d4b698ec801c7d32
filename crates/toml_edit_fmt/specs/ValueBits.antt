-- The bits of a value that is laid out, part by part as it is written.
use Rattle.std.specs.Prelude.{◌≡◌, ◌^◌, ℕ, zero, suc, ◌+◌, Bool, true, false, not, ◌&&◌, ◌||◌, nat_lt, if◌then◌else◌, List, [], ◌∷◌, ◌++◌, codes, length}
use Rattle.std.specs.Prelude.{Option, Some, None, is_none}
use Rattle.toml_edit_model.specs.Comments.{comments}
use Rattle.toml_edit_model.specs.Print.{one_space}
use Rattle.toml_edit_model.specs.Syntax.{Segment, Frame, Value, scalar, array, inline_table, Elements, no_elements, element, Pairs}
use Rattle.toml_edit_model.specs.Syntax.{no_pairs, pair, Header, Statement, key_line, header, has_elements, has_pairs, path_text, comma_text, opening_brackets, closing_brackets}
use Rattle.toml_edit_model.specs.Text.{Text, one}
use Rattle.toml_edit_fmt_laws.specs.Rules.{Rules, Commas, commas_stay, always, never, line_depth, header_depth, units}
use Rattle.toml_edit_fmt_laws.specs.Laying.{is_broken, leading, header_leading, usual_pad}
use Rattle.toml_edit_fmt_laws.specs.Formatted.{Layout, untouched, on_one_line, line_by_line, in_rows, array_layout, inline_layout, beside_equals, has_comments, laid_path, inner_depth, inner_room, used_before, laid_frame}
use Rattle.toml_edit_fmt_laws.specs.Formatted.{State, stays, reached, leading_of}
use Rattle.toml_edit_fmt.specs.PageView.{Bit, letters}
use Rattle.toml_edit_fmt.specs.LinesView.{gap_bits, rest_bits}
use Rattle.toml_edit_fmt.specs.declared.lines.Gap.TheVariants.{First, Next, Comma, Last, Only}

-- a key and the sign `=`, with what is beside it
abbrev pub head_text : Rules → Frame → Text
head_text r f =
    path_text (laid_path r f.path)
    ++ (beside_equals r f.before_equals ++ (codes "=" ++ beside_equals r f.after_equals))

-- ---- between brackets

-- An array or an inline table: its layout, how far its line is in, what is inside of its brackets on
-- one line, and whether anything is in it.
pub record Listed : Type 0 where
  pub layout : Layout
  pub depth : ℕ
  pub edge : Text
  pub has_any : Bool

abbrev pub before_bits_as : Layout → Rules → Listed → Bool → Text → List Bit
before_bits_as untouched r x is_first t = one (letters t)
before_bits_as on_one_line r x is_first t = one (letters (if is_first then x.edge else one_space))
before_bits_as line_by_line r x is_first t = gap_bits r x.depth (if is_first then First else Next) t
before_bits_as in_rows r x is_first t =
    if is_first || is_broken t then gap_bits r x.depth (if is_first then First else Next) t
    else one (letters one_space)

-- before a member
abbrev pub before_bits : Rules → Listed → Bool → Text → List Bit
before_bits r x = before_bits_as x.layout r x

abbrev pub ahead_of_comma : Layout → Rules → Listed → Text → List Bit
ahead_of_comma untouched r x t = one (letters t)
ahead_of_comma on_one_line r x t = []
ahead_of_comma line_by_line r x t = if has_comments t then gap_bits r x.depth Comma t else []
ahead_of_comma in_rows r x t = if has_comments t then gap_bits r x.depth Comma t else []

-- a comma, if there is one, and what is before it
abbrev pub comma_bits : Rules → Listed → Text → Bool → List Bit
comma_bits r x t comma = ahead_of_comma x.layout r x t ++ one (letters (comma_text comma))

-- after a member, where another one follows
abbrev pub after_bits : Rules → Listed → Option Text → List Bit
after_bits r x None = []
after_bits r x (Some t) = comma_bits r x t true

-- the texts before the last comma and before the bracket: without a comma all is before the bracket
abbrev pub before_last : Option Text → Bool → Text
before_last (Some t) true = t
before_last (Some t) false = []
before_last None comma = []

abbrev pub inner_text : Option Text → Bool → Text → Text
inner_text (Some t) true inner = inner
inner_text (Some t) false inner = t ++ inner
inner_text None comma inner = inner

abbrev pub comma_as : Commas → Bool → Bool → Text → Bool
comma_as commas_stay has_any comma t = comma
comma_as always has_any comma t = has_any
comma_as never has_any comma t = has_comments t

abbrev pub last_comma_as : Layout → Rules → Listed → Bool → Text → Bool
last_comma_as untouched r x comma t = comma
last_comma_as on_one_line r x comma t = false
last_comma_as line_by_line r x comma t = comma_as r.commas x.has_any comma t
last_comma_as in_rows r x comma t = comma_as r.commas x.has_any comma t

abbrev pub inner_bits : Layout → Rules → Listed → Text → List Bit
inner_bits untouched r x t = one (letters t)
inner_bits on_one_line r x t = one (letters x.edge)
inner_bits line_by_line r x t = gap_bits r x.depth (if x.has_any then Last else Only) t
inner_bits in_rows r x t = gap_bits r x.depth (if x.has_any then Last else Only) t

-- the end, up to the bracket, where this is after the last member
abbrev pub close_bits : Rules → Listed → Option Text → Bool → Text → Text → List Bit
close_bits r x after comma inner bracket =
    comma_bits r x (before_last after comma) (last_comma_as x.layout r x comma (before_last after comma))
    ++ (inner_bits x.layout r x (inner_text after comma inner) ++ one (letters bracket))

abbrev pub edge_text : Bool → Bool → Text
edge_text has_any has_space = if has_any && has_space then one_space else []

module _ (r : Rules) where
  abbrev mutual
    -- of a value that stands so far in, and finds so much of its line used, if it may be broken
    pub value_bits : ℕ → Option ℕ → Value → List Bit
    value_bits depth room (scalar s t) = one (letters t)
    value_bits depth room (array es comma t) =
        letters (codes "[")
        ∷ elements_bits (record {
          layout = array_layout r depth room es comma t;
          depth = depth;
          edge = edge_text (has_elements es) r.bracket_space;
          has_any = has_elements es;
        }) None comma t es
    value_bits depth room (inline_table ps comma t) =
        letters (codes "{")
        ∷ pairs_bits (record {
          layout = inline_layout r ps t;
          depth = depth;
          edge = edge_text (has_pairs ps) r.brace_space;
          has_any = has_pairs ps;
        }) None comma t ps

    -- of the members that are left, and the bracket, where this is after the one before
    pub elements_bits : Listed → Option Text → Bool → Text → Elements → List Bit
    elements_bits x after comma t no_elements = close_bits r x after comma t (codes "]")
    elements_bits x after comma t (element a v es) =
        after_bits r x after
        ++ (before_bits r x (is_none after) a.before
        ++ (value_bits (inner_depth x.layout x.depth) (inner_room r x.layout x.depth) v
        ++ elements_bits x (Some a.after) comma t es))

    pub pairs_bits : Listed → Option Text → Bool → Text → Pairs → List Bit
    pairs_bits x after comma t no_pairs = close_bits r x after comma t (codes "}")
    pairs_bits x after comma t (pair f v ps) =
        after_bits r x after
        ++ (before_bits r x (is_none after) f.leading
        ++ (letters (head_text r f)
        ∷ value_bits (inner_depth x.layout x.depth) None v
        ++ pairs_bits x (Some f.trailing) comma t ps))

  -- ---- statements

  abbrev pub header_text : Header → Text
  header_text h =
      opening_brackets h.is_array
      ++ ((if r.dots then [] else h.opening) ++ (path_text (laid_path r h.path)
      ++ ((if r.dots then [] else h.closing) ++ closing_brackets h.is_array)))

  -- of a statement up to its newline
  abbrev pub statement_bits : State → Statement → List Bit
  statement_bits st (key_line f v end) =
      let depth = line_depth r st.keys in
      let before = leading r st.is_start depth f.leading in
      letters (before ++ head_text r f)
      ∷ value_bits depth (Some (used_before (laid_frame r before [] f))) v
      ++ rest_bits r.comments (Some depth) f.trailing
  statement_bits st (header h end) =
      letters (header_leading r st.is_start (header_depth r (length h.path)) h.leading ++ header_text h)
      ∷ rest_bits r.comments None h.trailing

-- ---- counts

-- a number of columns, if it can be counted
abbrev pub counted : ℕ → Option ℕ
counted n = if nat_lt n (2 ^ 64) then Some n else None
