-- More worked tokens: each escape, forms of numbers, dates and times with their parts, default
-- spellings.
use Rattle.std.specs.Prelude.{◌≡◌, refl, pos, negsuc, Bool, true, false, List, [], ◌∷◌, codes, Option, Some, None}
use Rattle.std.specs.Fmt.{digits}
use Rattle.std.proofs.Common.{lit<, inl, inr}
use Rattle.toml_edit_model.specs.Text.{same_text}
use Rattle.toml_edit_model.specs.Trivia.{lf, crlf}
use Rattle.toml_edit_model.specs.Scalars.{string, integer, float, boolean, datetime, Date, zulu, shift}
use Rattle.toml_edit_model.specs.Spelling.{plain, letter, numbered, in_line, next_line, quotes, one_quote, two_quotes, joint, white}
use Rattle.toml_edit_model.specs.Spelling.{line_break, plus, minus, unsigned, hexadecimal, SpellsBasic, SpellsMultilineBasic}
use Rattle.toml_edit_model.specs.Spelling.{SpellsMultilineLiteral, SpellsInteger, IsFloat, SpellsDatetime}
use Rattle.toml_edit_model.specs.DefaultSpelling.{default_spelling, key_spelling}
use Rattle.toml_edit_model.specs.examples.Parts.{all_true}
use Rattle.toml_edit_model.specs.examples.Tokens.{time, plus_is_a_sign}

-- ---- escapes

-- `"\e"` is U+001B
escape : SpellsBasic (0x1B ∷ []) (codes "\"\\e\"")
unfolding lib.Utf8.encode
escape = (letter 0x65 ∷ [], (refl, tt), refl, refl)

-- `"\b\t\n\f\r\"\\"`
letters : SpellsBasic (0x08 ∷ 0x09 ∷ 0x0A ∷ 0x0C ∷ 0x0D ∷ 0x22 ∷ 0x5C ∷ [])
    (codes "\"\\b\\t\\n\\f\\r\\\"\\\\\"")
unfolding lib.Utf8.encode
letters = (
  letter 0x62 ∷ letter 0x74 ∷ letter 0x6E ∷ letter 0x66 ∷ letter 0x72 ∷ letter 0x22 ∷ letter 0x5C
      ∷ [],
  (refl, (refl, (refl, (refl, (refl, (refl, (refl, tt))))))),
  refl,
  refl,
)

-- `"\xe9\u00E9\U0001F600"`: U+00E9 twice, and U+1F600
by_digits : SpellsBasic (0xC3 ∷ 0xA9 ∷ 0xC3 ∷ 0xA9 ∷ 0xF0 ∷ 0x9F ∷ 0x98 ∷ 0x80 ∷ [])
    (codes "\"\\xe9\\u00E9\\U0001F600\"")
unfolding lib.Utf8.encode
by_digits = (
  numbered 0x78 (codes "e9") ∷ numbered 0x75 (codes "00E9") ∷ numbered 0x55 (codes "0001F600") ∷ [],
  ((lit< tt, refl, refl, refl), ((lit< tt, refl, refl, refl), ((lit< tt, refl, refl, refl), tt))),
  refl,
  refl,
)

-- ---- strings of several lines

-- `"""`, CR LF, `"" a`, CR LF, `"""""`: the first newline is dropped, the second stays; two quotes
-- are inside and two at the end
quotes_inside : SpellsMultilineBasic (codes "\"\" a\r\n\"\"")
    (codes "\"\"\"\r\n\"\" a\r\n\"\"\"\"\"")
quotes_inside = (
  Some crlf,
  quotes two_quotes ∷ in_line (plain 0x20) ∷ in_line (plain 0x61) ∷ next_line crlf
      ∷ quotes two_quotes ∷ [],
  (tt, (refl, (refl, (tt, (tt, tt))))),
  refl,
  λ e. absurd cc,
  refl,
  refl,
)

-- `'''a''b'`, and `'''`
apostrophes_inside : SpellsMultilineLiteral (codes "a''b'") (codes "'''a''b''''")
apostrophes_inside = (
  None,
  in_line 0x61 ∷ quotes two_quotes ∷ in_line 0x62 ∷ quotes one_quote ∷ [],
  (refl, (tt, (refl, (tt, tt)))),
  refl,
  λ _. refl,
  refl,
  refl,
)

-- a backslash, white space and two newlines, then a word
long_joint : SpellsMultilineBasic (codes "b") (codes "\"\"\"\\ \n\r\n\tb\"\"\"")
long_joint = (
  None,
  joint (codes " \n\r\n\t") ∷ in_line (plain 0x62) ∷ [],
  (
    (
      white 32 ∷ line_break lf ∷ line_break crlf ∷ white 9
          ∷ [],
      (refl, (tt, (tt, (refl, tt)))),
      refl,
      refl,
    ),
    (refl, tt),
  ),
  refl,
  λ _. refl,
  refl,
  refl,
)

-- ---- numbers

zero_with_sign : SpellsInteger (pos 0) (codes "-0")
zero_with_sign = inl (minus, (false, 0x30) ∷ [], ((refl, (refl, tt)), tt, refl), refl)

capital_digits : SpellsInteger (pos 57005) (codes "0xdE_aD")
capital_digits =
    inr (
      hexadecimal,
      (false, 0x64) ∷ (false, 0x45) ∷ (true, 0x61) ∷ (false, 0x44)
          ∷ [],
      (refl, (refl, (refl, (refl, (refl, tt))))),
      refl,
      refl,
    )

-- a float of any magnitude, and one with a fraction and an exponent
great : IsFloat (codes "1e400")
great =
    inl (
      unsigned,
      (false, 0x31) ∷ [],
      codes "1",
      codes "e400",
      ((refl, (refl, tt)), tt, refl),
      inr (inl (
        0x65,
        unsigned,
        (false, 0x34) ∷ (false, 0x30) ∷ (false, 0x30)
            ∷ [],
        refl,
        (refl, (refl, (refl, (refl, tt)))),
        refl,
      )),
      refl,
    )

both_parts : IsFloat (codes "-0.5E+1")
both_parts =
    inl (
      minus,
      (false, 0x30) ∷ [],
      codes "-0",
      codes ".5E+1",
      ((refl, (refl, tt)), tt, refl),
      inr (inr (
        codes ".5",
        codes "E+1",
        ((false, 0x35) ∷ [], (refl, (refl, tt)), refl),
        (0x45, plus, (false, 0x31) ∷ [], refl, (refl, (refl, tt)), refl),
        refl,
      )),
      refl,
    )

infinity : IsFloat (codes "-inf")
infinity = inr (minus, inl refl)

-- ---- dates and times

-- `07:32:00.5`: half a second
half_second : SpellsDatetime
    (record { date = None; time = Some (time 7 32 (Some 0) (Some 500000000)); offset = None })
    (codes "07:32:00.5")
half_second = (
  lit< tt,
  lit< tt,
  codes ":00.5",
  (
    lit< tt,
    codes ".5",
    (codes "5", refl, refl, refl, refl),
    refl,
  ),
  refl,
)

abbrev day : Option Date
day = Some (record { year = 1979; month = 5; day = 27 })

-- `1979-05-27t07:32z`
small_marks : SpellsDatetime
    (record { date = day; time = Some (time 7 32 None None); offset = Some zulu })
    (codes "1979-05-27t07:32z")
small_marks = (
  codes "1979-05-27",
  codes "07:32",
  codes "z",
  0x74,
  (lit< tt, lit< tt, lit< tt, refl),
  refl,
  (lit< tt, lit< tt, [], refl, refl),
  inr refl,
  refl,
)

-- `1979-05-27T07:32:00+24:00` spells an offset of 1440 minutes, which is out of range
long_offset : SpellsDatetime
    (record {
      date = day;
      time = Some (time 7 32 (Some 0) None);
      offset = Some (shift (pos 1440));
    }) (codes "1979-05-27T07:32:00+24:00")
long_offset = (
  codes "1979-05-27",
  codes "07:32:00",
  codes "+24:00",
  0x54,
  (lit< tt, lit< tt, lit< tt, refl),
  refl,
  (lit< tt, lit< tt, codes ":00", (lit< tt, [], refl, refl), refl),
  (plus, 24, 0, plus_is_a_sign, lit< tt, lit< tt, refl, refl),
  refl,
)

-- ---- default spellings

abbrev defaults : List Bool
defaults =
    same_text (key_spelling (codes "a-b_1")) (codes "a-b_1")
    ∷ same_text (key_spelling (codes "a\"b")) (codes "'a\"b'")
    ∷ same_text (key_spelling (codes "a\nb")) (codes "\"a\\nb\"")
    ∷ same_text (key_spelling (codes "it's \"x\"")) (codes "\"it's \\\"x\\\"\"")
    ∷ same_text (default_spelling (string [])) (codes "\"\"")
    ∷ same_text (default_spelling (string (codes "\t"))) (codes "\"\t\"")
    ∷ same_text (default_spelling (string (codes "\\, world"))) (codes "'\\, world'")
    ∷ same_text (default_spelling (string (0x00 ∷ 0x08 ∷ 0x0C ∷ 0x0D ∷ 0x1B ∷ 0x7F ∷ [])))
    (codes "\"\\u0000\\b\\f\\r\\u001B\\u007F\"")
    ∷ same_text (default_spelling (string (codes "a\r\n\"\\")))
    (codes "\"\"\"\na\\r\n\\\"\\\\\"\"\"")
    ∷ same_text (default_spelling (integer (negsuc 41))) (codes "-42")
    ∷ same_text (default_spelling (integer (pos 0))) (codes "0")
    ∷ same_text (default_spelling (float (codes "1e06"))) (codes "1e06")
    ∷ same_text (default_spelling (boolean false)) (codes "false")
    ∷ same_text (default_spelling (datetime (record { date = day; time = None; offset = None })))
    (codes "1979-05-27")
    ∷ same_text (default_spelling
    (datetime (record { date = None; time = Some (time 0 0 (Some 60) (Some 0)); offset = None })))
    (codes "00:00:60.0")
    ∷ same_text (default_spelling
    (datetime (record {
      date = None;
      time = Some (time 0 0 (Some 0) (Some 1000));
      offset = None;
    }))) (codes "00:00:00.000001")
    ∷ same_text (default_spelling
    (datetime (record {
      date = day;
      time = Some (time 7 32 None None);
      offset = Some (shift (negsuc 89));
    }))) (codes "1979-05-27T07:32-01:30")
    ∷ []

defaults_hold : all_true defaults ≡ true
unfolding digits
defaults_hold = refl
