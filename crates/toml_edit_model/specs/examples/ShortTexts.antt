-- Worked texts of at most one line, and of a line and a header: what `WholeTexts` has of longer ones.
use Rattle.std.specs.Prelude.{◌≡◌, refl, false, [], ◌∷◌, codes, None, Some}
use Rattle.std.specs.Fmt.{digits}
use Rattle.std.proofs.Common.{lit<, inl, inr}
use Rattle.toml_edit_model.specs.Text.{newline}
use Rattle.toml_edit_model.specs.Scalars.{string, datetime}
use Rattle.toml_edit_model.specs.Spelling.{quotes, one_quote, hexadecimal}
use Rattle.toml_edit_model.specs.Syntax.{scalar, array, inline_table, no_elements, element, no_pairs, pair, key_line, Document, IsCut}
use Rattle.toml_edit_model.specs.Accepted.{is_accepted}
use Rattle.toml_edit_model.specs.Meaning.{meaning}
use Rattle.toml_edit_model.specs.Normal.{normal_text, normal}
use Rattle.toml_edit_model.specs.Shown.{shown_meaning}
use Rattle.toml_edit_model.specs.Print.{print}
use Rattle.toml_edit_model.specs.Tree.{span, leaf, list, inline, table, no_items, item, no_slots, slot, Tree}
use Rattle.toml_edit_model.specs.examples.Parts.{spelled_as, bare, int, line, head, document, a, b, d, one_value}
use Rattle.toml_edit_model.specs.examples.Texts.{reads, all_hold, empty, open_end, t_key}
use Rattle.toml_edit_model.specs.examples.Cuts.{empty_trivia, empty_end, empty_final, lf_end, space_trivia, bare_key, a_is, t_is, one_is}
use Rattle.toml_edit_model.specs.examples.Cuts.{frame_is, head_is, cut}
use Rattle.toml_edit_model.specs.examples.TreesOfTexts.{none, decor, last, number, by_header, spanned_tree}
use Rattle.toml_edit_model.specs.Settled.{is_settled}
use Rattle.toml_edit_model.specs.examples.WholeTexts.{HasTree}

-- ---- short texts

-- the empty text
pub tree_empty : HasTree empty [] (spanned_tree no_slots none)
tree_empty = (
  record { root = refl; slots = tt; trailing = refl },
  record {
    root = refl;
    slots = tt;
    trailing = refl;
  },
)

-- `a = 1` at the end of the text
pub tree_open_end : HasTree open_end (codes "a = 1")
    (spanned_tree (slot (last (codes "a") (span 0 1) none (span 1 2))
    (number 1 (span 4 5) (span 3 4) none) no_slots) none)
tree_open_end = (
  record { root = refl; slots = (refl, (refl, (refl, refl, refl)), tt); trailing = refl },
  record { root = refl; slots = (refl, (refl, (refl, refl, refl)), tt); trailing = refl },
)

-- `'k' = 'v' # c` at the end of the text
abbrev pub quoted_line : Document
quoted_line =
    document (key_line (record {
      leading = [];
      path = spelled_as (codes "k") (codes "'k'") ∷ [];
      before_equals = codes " ";
      after_equals = codes " ";
      trailing = codes " # c";
    })
    (scalar (string (codes "v")) (codes "'v'")) [] ∷ [])

pub cuts_quoted_line : IsCut quoted_line (codes "'k' = 'v' # c")
cuts_quoted_line = (
  (
    (
      (
        record {
          leading = empty_trivia;
          segments = ((refl, refl), tt);
          before_equals = refl;
          after_equals = refl;
          trailing = (codes " ", codes "# c", refl, inr (codes " c", refl, refl), refl);
        },
        record { begins = refl; ends = refl; spelled = (inr (inr (refl, refl)), tt) },
      ),
      inl (inr (refl, refl)),
      inr (refl, refl),
    ),
    empty_final,
  ),
  refl,
)

reads_quoted_line : reads quoted_line (codes "'k' = 'v' # c") (codes "'k' = 'v' # c\n") ≡ all_hold
unfolding print normal normal_text is_settled meaning shown_meaning is_accepted
reads_quoted_line = refl

pub tree_quoted_line : HasTree quoted_line (codes "'k' = 'v' # c")
    (spanned_tree (slot (last (codes "k") (span 0 3) none (span 3 4))
    (leaf (string (codes "v")) (Some (span 6 9)) (decor (span 5 6) (span 9 13))) no_slots) none)
tree_quoted_line = (
  record { root = refl; slots = (refl, (refl, (refl, refl, refl)), tt); trailing = refl },
  record { root = refl; slots = (refl, (refl, (refl, refl, refl)), tt); trailing = refl },
)

-- `a=1`, `[b]`
abbrev pub tight : Document
tight =
    document (key_line (record {
      leading = [];
      path = a ∷ [];
      before_equals = [];
      after_equals = [];
      trailing = [];
    }) one_value newline ∷ head false (b ∷ []) ∷ [])

pub cuts_tight : IsCut tight (codes "a=1\n[b]\n")
cuts_tight =
    cut tight.statements (
      (
        (
          record {
            leading = empty_trivia;
            segments = a_is.1;
            before_equals = refl;
            after_equals = refl;
            trailing = empty_end;
          },
          a_is.0,
        ),
        one_is,
        lf_end,
      ),
      (head_is false _ (bare_key (codes "b") refl refl), tt),
    )

reads_tight : reads tight (codes "a=1\n[b]\n") (codes "a=1\n[b]\n") ≡ all_hold
unfolding print normal normal_text is_settled meaning shown_meaning is_accepted
reads_tight = refl

abbrev pub tight_spans : Tree
tight_spans =
    spanned_tree (slot (last (codes "a") (span 0 1) none none) (number 1 (span 2 3) none none)
    (slot (last (codes "b") (span 5 6) none none)
    (table (by_header 1 (Some (4, 7))) no_slots) no_slots)) none

pub tree_tight : HasTree tight (codes "a=1\n[b]\n") tight_spans
tree_tight = (
  record {
    root = refl;
    slots = (refl, (refl, (refl, refl, refl)), (refl, (tt, refl, tt), tt));
    trailing = refl;
  },
  record {
    root = refl;
    slots = (refl, (refl, (refl, refl, refl)), (refl, (tt, refl, tt), tt));
    trailing = refl;
  },
)

-- ---- values

-- seven quotes: a string of several lines that is one quote
abbrev pub seven_quotes : Document
seven_quotes =
    document (line (bare (codes "s") ∷ []) (scalar (string (codes "\"")) (codes "\"\"\"\"\"\"\""))
    ∷ [])

pub cuts_seven_quotes : IsCut seven_quotes (codes "s = \"\"\"\"\"\"\"\n")
cuts_seven_quotes =
    cut seven_quotes.statements (
      (
        frame_is _ (bare_key (codes "s") refl refl),
        inr
            (inl (None, quotes one_quote ∷ [], (tt, tt), refl, λ _. refl, refl, refl)),
        lf_end,
      ),
      tt,
    )

reads_seven_quotes : reads seven_quotes (codes "s = \"\"\"\"\"\"\"\n")
    (codes "s = \"\"\"\"\"\"\"\n") ≡ all_hold
unfolding print normal normal_text is_settled meaning shown_meaning is_accepted
reads_seven_quotes = refl

-- `t = 23:59:60`
abbrev pub leap_second : Document
leap_second =
    document (line (t_key ∷ []) (scalar (datetime (record {
      date = None;
      time = Some (record { hour = 23; minute = 59; second = Some 60; nanosecond = None });
      offset = None;
    })) (codes "23:59:60")) ∷ [])

pub cuts_leap_second : IsCut leap_second (codes "t = 23:59:60\n")
cuts_leap_second =
    cut leap_second.statements (
      (frame_is _ t_is, (lit< tt, lit< tt, codes ":60", (lit< tt, [], refl, refl), refl), lf_end),
      tt,
    )

reads_leap_second : reads leap_second (codes "t = 23:59:60\n") (codes "t = 23:59:60\n") ≡ all_hold
unfolding print normal normal_text is_settled meaning shown_meaning is_accepted
reads_leap_second = refl

-- `d = 2024-02-29 07:32`
abbrev pub leap_day : Document
leap_day =
    document (line (d ∷ []) (scalar (datetime (record {
      date = Some (record { year = 2024; month = 2; day = 29 });
      time = Some (record { hour = 7; minute = 32; second = None; nanosecond = None });
      offset = None;
    })) (codes "2024-02-29 07:32")) ∷ [])

pub cuts_leap_day : IsCut leap_day (codes "d = 2024-02-29 07:32\n")
cuts_leap_day =
    cut leap_day.statements (
      (
        frame_is _ (bare_key (codes "d") refl refl),
        (
          codes "2024-02-29",
          codes "07:32",
          [],
          32,
          (lit< tt, lit< tt, lit< tt, refl),
          refl,
          (lit< tt, lit< tt, [], refl, refl),
          refl,
          refl,
        ),
        lf_end,
      ),
      tt,
    )

reads_leap_day : reads leap_day (codes "d = 2024-02-29 07:32\n") (codes "d = 2024-02-29 07:32\n")
    ≡ all_hold
unfolding print normal normal_text is_settled meaning shown_meaning is_accepted
reads_leap_day = refl

-- `a = 0x10 # c`
abbrev pub hexadecimal_line : Document
hexadecimal_line =
    document (key_line (record {
      leading = [];
      path = a ∷ [];
      before_equals = codes " ";
      after_equals = codes " ";
      trailing = codes " # c";
    }) (int 16 (codes "0x10")) newline ∷ [])

pub cuts_hexadecimal_line : IsCut hexadecimal_line (codes "a = 0x10 # c\n")
cuts_hexadecimal_line =
    cut hexadecimal_line.statements (
      (
        (
          record {
            leading = empty_trivia;
            segments = a_is.1;
            before_equals = refl;
            after_equals = refl;
            trailing = (codes " ", codes "# c", refl, inr (codes " c", refl, refl), refl);
          },
          a_is.0,
        ),
        inr (
          hexadecimal,
          (false, 0x31) ∷ (false, 0x30)
              ∷ [],
          (refl, (refl, (refl, tt))),
          refl,
          refl,
        ),
        lf_end,
      ),
      tt,
    )

reads_hexadecimal_line : reads hexadecimal_line (codes "a = 0x10 # c\n") (codes "a = 0x10 # c\n")
    ≡ all_hold
unfolding print normal normal_text is_settled meaning shown_meaning is_accepted
reads_hexadecimal_line = refl

abbrev pub hexadecimal_spans : Tree
hexadecimal_spans =
    spanned_tree (slot (last (codes "a") (span 0 1) none (span 1 2))
    (number 16 (span 4 8) (span 3 4) (span 8 12)) no_slots) none

pub tree_hexadecimal_line : HasTree hexadecimal_line (codes "a = 0x10 # c\n") hexadecimal_spans
tree_hexadecimal_line = (
  record { root = refl; slots = (refl, (refl, (refl, refl, refl)), tt); trailing = refl },
  record { root = refl; slots = (refl, (refl, (refl, refl, refl)), tt); trailing = refl },
)

-- a tree of spans prints by default: `a = 16`, and what holds no text is the empty text in both
-- forms
prints_spans : print hexadecimal_spans ≡ codes "a = 16\n"
unfolding digits print
prints_spans = refl

prints_tight_spans : print tight_spans ≡ codes "a=1\n[b]\n"
unfolding digits print
prints_tight_spans = refl

-- `t = [{a = 1}, [ ]]`
abbrev pub mixed_values : Document
mixed_values =
    document (line (t_key ∷ []) (array (element (record { before = []; after = [] })
    (inline_table (pair (record {
      leading = [];
      path = a ∷ [];
      before_equals = codes " ";
      after_equals = codes " ";
      trailing = [];
    }) one_value no_pairs) false [])
    (element (record { before = codes " "; after = [] })
    (array no_elements false (codes " ")) no_elements)) false []) ∷ [])

pub cuts_mixed_values : IsCut mixed_values (codes "t = [{a = 1}, [ ]]\n")
cuts_mixed_values =
    cut mixed_values.statements (
      (
        frame_is _ t_is,
        (
          (empty_trivia, inr refl),
          (
            empty_trivia,
            empty_trivia,
            (
              (empty_trivia, inr refl),
              (
                (
                  record {
                    leading = empty_trivia;
                    segments = a_is.1;
                    before_equals = refl;
                    after_equals = refl;
                    trailing = empty_trivia;
                  },
                  a_is.0,
                ),
                one_is,
                tt,
              ),
            ),
            (space_trivia, empty_trivia, ((space_trivia, inl refl), tt), tt),
          ),
        ),
        lf_end,
      ),
      tt,
    )

reads_mixed_values : reads mixed_values (codes "t = [{a = 1}, [ ]]\n")
    (codes "t = [{a = 1}, [ ]]\n") ≡ all_hold
unfolding print normal normal_text is_settled meaning shown_meaning is_accepted
reads_mixed_values = refl

pub tree_mixed_values : HasTree mixed_values (codes "t = [{a = 1}, [ ]]\n")
    (spanned_tree (slot (last (codes "t") (span 0 1) none (span 1 2))
    (list (record {
      decor = decor (span 3 4) none;
      comma = false;
      trailing = none;
      extent = Some (4, 18);
    })
    (item (inline (record {
      decor = decor none none;
      is_dotted = false;
      comma = false;
      trailing = none;
      extent = Some (5, 12);
    })
    (slot (last (codes "a") (span 6 7) none (span 7 8))
    (number 1 (span 10 11) (span 9 10) none) no_slots))
    (item (list (record {
      decor = decor (span 13 14) none;
      comma = false;
      trailing = span 15 16;
      extent = Some (14, 17);
    }) no_items) no_items))) no_slots) none)
tree_mixed_values = (
  record {
    root = refl;
    slots = (refl, (refl, (refl, ((refl, (refl, (refl, refl, refl), tt)), ((refl, tt), tt)))), tt);
    trailing = refl;
  },
  record {
    root = refl;
    slots = (refl, (refl, (refl, ((refl, (refl, (refl, refl, refl), tt)), ((refl, tt), tt)))), tt);
    trailing = refl;
  },
)
