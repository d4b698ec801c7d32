-- The formatted form of a document: its statements one after another, each laid out by what is known
-- before it.
use Rattle.std.specs.Prelude.{ℕ, zero, suc, Bool, true, false, not, ◌+◌, ◌==◌, ◌&&◌, ◌||◌, nat_lt, if◌then◌else◌, List, [], ◌∷◌, ◌++◌, codes, length, map, take}
use Rattle.std.specs.Prelude.{Option, Some, None}
use Rattle.std.specs.List.{list_any}
use Rattle.toml_edit_model.specs.Comments.{comments, end_of_words, words}
use Rattle.toml_edit_model.specs.DefaultSpelling.{is_bare_key}
use Rattle.toml_edit_model.specs.Paths.{Path, to_element}
use Rattle.toml_edit_model.specs.Print.{one_space}
use Rattle.toml_edit_model.specs.Syntax.{Segment, Frame, Value, scalar, array, inline_table, Elements, no_elements, element, Pairs}
use Rattle.toml_edit_model.specs.Syntax.{no_pairs, pair, Statement, key_line, header, Document, has_elements, has_pairs, path_text}
use Rattle.toml_edit_model.specs.Text.{Text, is_empty, same_text}
use Rattle.toml_edit_fmt_laws.specs.Rules.{Rules, Arrays, arrays_stay, kept, collapsed, Commas, commas_stay, always, never, units, line_depth, header_depth}
use Rattle.toml_edit_fmt_laws.specs.Laying.{columns, last_line, is_broken, leading, header_leading, final_text, line_rest, usual_pad, gap, before_comma}

-- ---- keys, which are bare where they can be, if so asked

abbrev pub laid_spelling : Rules → Segment → Text
laid_spelling r s = if r.keys && is_bare_key s.key then s.key else s.spelled

abbrev pub laid_segment : Rules → Segment → Segment
laid_segment r s =
    record {
      before = if r.dots then [] else s.before;
      key = s.key;
      spelled = laid_spelling r s;
      after = if r.dots then [] else s.after;
    }

abbrev pub laid_path : Rules → List Segment → List Segment
laid_path r p = map (laid_segment r) p

-- ---- how wide a value is on one line, as it is spelled

-- the keys with dots between them
abbrev pub path_width : Rules → List Segment → ℕ
path_width r [] = 0
path_width r (s ∷ []) = columns (laid_spelling r s)
path_width r (s ∷ q ∷ rest) = columns (laid_spelling r s) + (1 + path_width r (q ∷ rest))

-- inside of brackets that are not empty, with a space at both ends or none
abbrev pub bracket_width : Bool → Bool → ℕ
bracket_width has_any has_space = if has_any && has_space then 4 else 2

module _ (r : Rules) where
  abbrev mutual
    pub flat_width : Value → ℕ
    flat_width (scalar s t) = columns t
    flat_width (array es comma t) = bracket_width (has_elements es) r.bracket_space + elements_width es
    flat_width (inline_table ps comma t) = bracket_width (has_pairs ps) r.brace_space + pairs_width ps

    -- one space is after each comma
    pub elements_width : Elements → ℕ
    elements_width no_elements = 0
    elements_width (element a v no_elements) = flat_width v
    elements_width (element a v (element b w es)) = flat_width v + (2 + elements_width (element b w es))

    -- and one on both sides of each `=`
    pub pairs_width : Pairs → ℕ
    pairs_width no_pairs = 0
    pairs_width (pair f v no_pairs) = path_width r f.path + (3 + flat_width v)
    pairs_width (pair f v (pair g w ps)) =
        path_width r f.path + (5 + (flat_width v + pairs_width (pair g w ps)))

abbrev pub is_over : Option ℕ → ℕ → Bool
is_over None n = false
is_over (Some most) n = nat_lt most n

-- too wide on a line that has so much before, if it may be broken there
abbrev pub is_too_wide : Rules → Option ℕ → ℕ → Bool
is_too_wide r None n = false
is_too_wide r (Some used) n = is_over r.width (used + n)

-- ---- what is between brackets

pub data Layout : Type 0 where
  untouched : Layout
  on_one_line : Layout
  line_by_line : Layout
  -- with the lines that it had
  in_rows : Layout

abbrev pub has_broken_elements : Elements → Bool
has_broken_elements no_elements = false
has_broken_elements (element a v es) =
    (is_broken a.before || is_broken a.after) || has_broken_elements es

abbrev pub has_broken_pairs : Pairs → Bool
has_broken_pairs no_pairs = false
has_broken_pairs (pair f v ps) =
    (is_broken f.leading || is_broken f.trailing) || has_broken_pairs ps

abbrev pub has_comments : Text → Bool
has_comments t = not (is_empty (comments t))

abbrev pub elements_have_comments : Elements → Bool
elements_have_comments no_elements = false
elements_have_comments (element a v es) =
    (has_comments a.before || has_comments a.after) || elements_have_comments es

-- An array in rows has scalars alone, each on one line, and no newline before a comma.
abbrev pub is_short_scalar : Value → Bool
is_short_scalar (scalar s t) = not (is_broken t)
is_short_scalar _ = false

abbrev pub are_short : Bool → Elements → Bool
are_short comma no_elements = true
are_short comma (element a v es) =
    is_short_scalar v && (not ((comma || has_elements es) && is_broken a.after) && are_short comma es)

-- the elements after the first: one is on another line than the one before, and one on the same
abbrev pub has_break : Elements → Bool
has_break no_elements = false
has_break (element a v es) = is_broken a.before || has_break es

abbrev pub has_joint : Elements → Bool
has_joint no_elements = false
has_joint (element a v es) = not (is_broken a.before) || has_joint es

-- each row has room, where the last one has so much before, and each begins with so much
abbrev pub rows_fit : Rules → ℕ → ℕ → Bool → Elements → Bool
rows_fit r indent used is_first no_elements = true
rows_fit r indent used is_first (element a v es) =
    let before = if is_first || is_broken a.before then indent else used + 1 in
    let here = before + flat_width r v + 1 in
    not (is_over r.width here) && rows_fit r indent here false es

abbrev pub after_first : Elements → Elements
after_first no_elements = no_elements
after_first (element a v es) = es

abbrev pub is_in_rows : Rules → ℕ → Bool → Elements → Bool
is_in_rows r depth comma es =
    (r.rows && are_short comma es)
    && ((has_break (after_first es) && has_joint (after_first es))
    && rows_fit r (length (units r (suc depth))) 0 true es)

-- Line by line if so asked; where nothing is between the brackets, if there is a comment.
abbrev pub open_if : Bool → Bool → Text → Layout
open_if has_any is_asked t =
    if (if has_any then is_asked else has_comments t) then line_by_line else on_one_line

abbrev pub rows_if : Bool → Layout → Layout
rows_if is_asked line_by_line = if is_asked then in_rows else line_by_line
rows_if is_asked l = l

abbrev pub array_layout_as : Arrays → Rules → ℕ → Option ℕ → Elements → Bool → Text → Layout
array_layout_as arrays_stay r depth room es comma t = untouched
array_layout_as kept r depth room es comma t =
    rows_if (is_in_rows r depth comma es) (open_if (has_elements es)
    ((has_broken_elements es || is_broken t) || is_too_wide r room (flat_width r (array es comma t))) t)
array_layout_as collapsed r depth room es comma t =
    rows_if (is_in_rows r depth comma es) (open_if (has_elements es)
    ((elements_have_comments es || has_comments t) || is_too_wide r room (flat_width r (array es comma t))) t)

abbrev pub array_layout : Rules → ℕ → Option ℕ → Elements → Bool → Text → Layout
array_layout r = array_layout_as r.arrays r

abbrev pub inline_layout : Rules → Pairs → Text → Layout
inline_layout r ps t =
    if r.inline_tables then open_if (has_pairs ps) (has_broken_pairs ps || is_broken t) t else untouched

-- the comma after the last of several lines, where there was one after this text or none
abbrev pub open_comma : Commas → Bool → Bool → Text → Bool
open_comma commas_stay has_any comma t = comma
open_comma always has_any comma t = has_any
open_comma never has_any comma t = comma && has_comments t

abbrev pub laid_comma : Rules → Layout → Bool → Bool → Text → Bool
laid_comma r untouched has_any comma t = comma
laid_comma r on_one_line has_any comma t = false
laid_comma r line_by_line has_any comma t = open_comma r.commas has_any comma t
laid_comma r in_rows has_any comma t = open_comma r.commas has_any comma t

-- before an element or a pair: after another one, whose comment is after so many spaces, or first,
-- where this is inside of the bracket on one line
abbrev pub before_part : Rules → Layout → ℕ → Bool → ℕ → Text → Text → Text
before_part r untouched pad is_first depth inside t = t
before_part r on_one_line pad is_first depth inside t = if is_first then inside else one_space
before_part r line_by_line pad is_first depth inside t = gap r pad is_first false (suc depth) (suc depth) t
before_part r in_rows pad is_first depth inside t =
    if is_first || is_broken t then gap r pad is_first false (suc depth) (suc depth) t else one_space

-- After one, where a comma follows. Where none follows, the text goes before the bracket.
abbrev pub after_part : Rules → Layout → Bool → ℕ → Text → Text
after_part r untouched comma depth t = t
after_part r on_one_line comma depth t = []
after_part r line_by_line comma depth t = if comma then before_comma r (suc depth) t else []
after_part r in_rows comma depth t = if comma then before_comma r (suc depth) t else []

-- before the bracket, where this is after the last member: a comma is between both, or none
abbrev pub before_bracket : Rules → Layout → ℕ → Bool → ℕ → Text → Bool → Text → Text → Text
before_bracket r untouched pad has_any depth inside comma last t = t
before_bracket r on_one_line pad has_any depth inside comma last t = inside
before_bracket r line_by_line pad has_any depth inside comma last t =
    gap r pad (not has_any) true (suc depth) depth (if comma then t else last ++ t)
before_bracket r in_rows pad has_any depth inside comma last t =
    gap r pad (not has_any) true (suc depth) depth (if comma then t else last ++ t)

-- what is after the last member
abbrev pub last_after : Elements → Text
last_after no_elements = []
last_after (element a v no_elements) = a.after
last_after (element a v (element b w es)) = last_after (element b w es)

abbrev pub last_trailing : Pairs → Text
last_trailing no_pairs = []
last_trailing (pair f v no_pairs) = f.trailing
last_trailing (pair f v (pair g w ps)) = last_trailing (pair g w ps)

-- where the values inside stand: how far in, and how much of their line is used, if it may be broken
abbrev pub inner_depth : Layout → ℕ → ℕ
inner_depth line_by_line depth = suc depth
inner_depth in_rows depth = suc depth
inner_depth untouched depth = depth
inner_depth on_one_line depth = depth

abbrev pub inner_room : Rules → Layout → ℕ → Option ℕ
inner_room r line_by_line depth = Some (length (units r (suc depth)))
inner_room r in_rows depth = Some (length (units r (suc depth)))
inner_room r untouched depth = None
inner_room r on_one_line depth = None

-- An array or an inline table that is laid out.
pub record Inside : Type 0 where
  pub layout : Layout
  pub path : Path
  pub depth : ℕ
  -- inside of a bracket on one line
  pub edge : Text
  -- a comma was after the last member, and one is
  pub had_comma : Bool
  pub comma : Bool
  -- the text before the bracket: without a comma it is the last member's
  pub last : Text
  pub close : Text

-- It is the last member's, unless all stays.
abbrev pub last_text : Layout → Bool → Text → Text
last_text untouched apart t = []
last_text _ apart t = if apart then [] else t

abbrev pub close_text : Layout → Bool → Text → Text
close_text untouched apart t = t
close_text _ apart t = if apart then t else []

-- of a value at this path, so far in, with so many spaces before the comment of its last member, of
-- which this is after it
abbrev pub inside : Rules → Layout → Path → ℕ → Bool → Bool → ℕ → Bool → Text → Text → Inside
inside r l p depth has_any has_space pad comma after t =
    let edge = if has_any && has_space then one_space else [] in
    let ends = laid_comma r l has_any comma after in
    let close = before_bracket r l pad has_any depth edge (comma || not has_any) after t in
    record {
      layout = l;
      path = p;
      depth = depth;
      edge = edge;
      had_comma = comma;
      comma = ends;
      last = last_text l (ends || not has_any) close;
      close = close_text l (ends || not has_any) close;
    }

-- ---- pairs

abbrev pub beside_equals : Rules → Text → Text
beside_equals r t = if r.equals then one_space else t

-- a pair with these texts around it
abbrev pub laid_frame : Rules → Text → Text → Frame → Frame
laid_frame r before after f =
    record {
      leading = before;
      path = laid_path r f.path;
      before_equals = beside_equals r f.before_equals;
      after_equals = beside_equals r f.after_equals;
      trailing = after;
    }

-- how much of its line a value finds used
abbrev pub used_before : Frame → ℕ
used_before f =
    columns (last_line f.leading ++ (path_text f.path ++ (f.before_equals ++ (codes "=" ++ f.after_equals))))

-- ---- values, where the comment on the line of the member at a path is after so many spaces

abbrev pub elements_count : Elements → ℕ
elements_count no_elements = 0
elements_count (element a v es) = suc (elements_count es)

abbrev pub pairs_count : Pairs → ℕ
pairs_count no_pairs = 0
pairs_count (pair f v ps) = suc (pairs_count ps)

-- the spaces before the comment of the last of so many members, or after an opening bracket
abbrev pub last_pad : Rules → (Path → ℕ) → Path → ℕ → ℕ
last_pad r pad p zero = usual_pad r.comments
last_pad r pad p (suc n) = pad (to_element p n)

abbrev pub in_array : Rules → (Path → ℕ) → Path → ℕ → Option ℕ → Elements → Bool → Text → Inside
in_array r pad p depth room es comma t =
    inside r (array_layout r depth room es comma t) p depth (has_elements es) r.bracket_space
    (last_pad r pad p (elements_count es)) comma (last_after es) t

abbrev pub in_inline : Rules → (Path → ℕ) → Path → ℕ → Pairs → Bool → Text → Inside
in_inline r pad p depth ps comma t =
    inside r (inline_layout r ps t) p depth (has_pairs ps) r.brace_space
    (last_pad r pad p (pairs_count ps)) comma (last_trailing ps) t

module _ (r : Rules) (pad : Path → ℕ) where
  abbrev mutual
    -- of the value at a path, which stands so far in
    pub laid_value : Path → ℕ → Option ℕ → Value → Value
    laid_value p depth room (scalar s t) = scalar s t
    laid_value p depth room (array es comma t) =
        let x = in_array r pad p depth room es comma t in
        array (laid_elements x 0 (usual_pad r.comments) es) x.comma x.close
    laid_value p depth room (inline_table ps comma t) =
        let x = in_inline r pad p depth ps comma t in
        inline_table (laid_pairs x 0 (usual_pad r.comments) ps) x.comma x.close

    -- of the members from this number on, where the comment before them is after so many spaces
    pub laid_elements : Inside → ℕ → ℕ → Elements → Elements
    laid_elements x i spaces_before no_elements = no_elements
    laid_elements x i spaces_before (element a v es) =
        element (record {
          before = before_part r x.layout spaces_before (i == 0) x.depth x.edge a.before;
          after = after_part r x.layout (x.had_comma || has_elements es) x.depth a.after
              ++ (if has_elements es then [] else x.last);
        }) (laid_value (to_element x.path i) (inner_depth x.layout x.depth) (inner_room r x.layout x.depth) v)
        (laid_elements x (suc i) (pad (to_element x.path i)) es)

    pub laid_pairs : Inside → ℕ → ℕ → Pairs → Pairs
    laid_pairs x i spaces_before no_pairs = no_pairs
    laid_pairs x i spaces_before (pair f v ps) =
        pair (laid_frame r (before_part r x.layout spaces_before (i == 0) x.depth x.edge f.leading)
        (after_part r x.layout (x.had_comma || has_pairs ps) x.depth f.trailing
        ++ (if has_pairs ps then [] else x.last)) f)
        (laid_value (to_element x.path i) (inner_depth x.layout x.depth) None v)
        (laid_pairs x (suc i) (pad (to_element x.path i)) ps)

-- ---- the state between statements

-- how many keys the header has that the next statement is below
abbrev pub keys_below : ℕ → Statement → ℕ
keys_below keys (key_line f v end) = keys
keys_below keys (header h end) = length h.path

abbrev pub leading_of : Statement → Text
leading_of (key_line f v end) = f.leading
leading_of (header h end) = h.leading

pub record State : Type 0 where
  -- no statement is before
  pub is_start : Bool
  -- of the header above
  pub keys : ℕ
  -- a comment has put formatting off
  pub is_off : Bool
  -- a tool has written the text
  pub is_generated : Bool

abbrev pub start : State
start = record { is_start = true; keys = 0; is_off = false; is_generated = false }

-- a text without the white space at its ends
abbrev pub unspaced : Text → Text
unspaced t = words (take (end_of_words t) t)

-- ` fmt: off` and ` fmt: on`, with any white space around the words
abbrev pub turned : Bool → Text → Bool
turned is_off body =
    if same_text (unspaced body) (codes "fmt: off") then true
    else if same_text (unspaced body) (codes "fmt: on") then false
    else is_off

abbrev pub off_after : Bool → List Text → Bool
off_after is_off [] = is_off
off_after is_off (body ∷ rest) = off_after (turned is_off body) rest

-- the one text is at the front of the other, and somewhere in it
abbrev pub begins_with : Text → Text → Bool
begins_with [] t = true
begins_with (c ∷ s) [] = false
begins_with (c ∷ s) (d ∷ t) = (c == d) && begins_with s t

abbrev pub has_part : Text → Text → Bool
has_part s [] = is_empty s
has_part s (c ∷ t) = begins_with s (c ∷ t) || has_part s t

-- the state after this was read before a statement, or at the end
abbrev pub reached : Rules → State → Text → State
reached r st t =
    if not r.left_alone then st
    else record st {
      is_off = off_after st.is_off (comments t);
      is_generated = st.is_generated || (st.is_start && list_any (has_part (codes "@generated")) (comments t));
    }

abbrev pub stays : State → Bool
stays st = st.is_off || st.is_generated

abbrev pub after : Rules → State → Statement → State
after r st s =
    record (reached r st (leading_of s)) { is_start = false; keys = keys_below st.keys s }

-- ---- statements

-- The comments of the members of a statement are after so many spaces, and its own at the empty path.
module _ (r : Rules) where
  abbrev pub laid_statement : (Path → ℕ) → State → Statement → Statement
  laid_statement pad st (key_line f v end) =
      let depth = line_depth r st.keys in
      let frame = laid_frame r (leading r st.is_start depth f.leading) (line_rest r (pad []) f.trailing) f in
      key_line frame (laid_value r pad [] depth (Some (used_before frame)) v) end
  laid_statement pad st (header h end) =
      header (record {
        leading = header_leading r st.is_start (header_depth r (length h.path)) h.leading;
        is_array = h.is_array;
        opening = if r.dots then [] else h.opening;
        path = laid_path r h.path;
        closing = if r.dots then [] else h.closing;
        trailing = line_rest r (usual_pad r.comments) h.trailing;
      }) end

  abbrev pub lay : (Path → ℕ) → State → Statement → Statement
  lay pad st s = if stays (reached r st (leading_of s)) then s else laid_statement pad st s

  -- of the statements from this number on
  abbrev pub laid_statements : (ℕ → Path → ℕ) → ℕ → State → List Statement → List Statement
  laid_statements pad n st [] = []
  laid_statements pad n st (s ∷ rest) =
      lay (pad n) st s ∷ laid_statements pad (suc n) (after r st s) rest

  abbrev pub state_after : State → List Statement → State
  state_after st [] = st
  state_after st (s ∷ rest) = state_after (after r st s) rest

  abbrev pub laid_final : State → Text → Text
  laid_final st t = if stays (reached r st t) then t else final_text r st.is_start t

  -- the formatted document, by the spaces before comments that are aligned
  abbrev pub laid_document : (ℕ → Path → ℕ) → Document → Document
  laid_document pad d =
      record {
        has_mark = d.has_mark;
        statements = laid_statements pad 0 start d.statements;
        final = laid_final (state_after start d.statements) d.final;
      }
