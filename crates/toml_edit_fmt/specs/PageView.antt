-- What a page holds, and how it grows.
use Rattle.std.specs.Prelude.{◌≡◌, ℕ, ◌-◌, Bool, false, Option, Some, None, ◌==◌, ◌&&◌, max, if◌then◌else◌, List, [], ◌∷◌, ◌++◌, map, flat_map, string_bytes}
use Rattle.toml_edit_model.specs.Text.{Text, one}
use Rattle.toml_edit_fmt_laws.specs.Rules.{Comments, as_they_are, apart, aligned, spaces}
use Rattle.toml_edit_fmt_laws.specs.Laying.{columns, last_line}
use Rattle.toml_edit_fmt_laws.specs.Aligned.{newlines}
use Rattle.toml_edit_fmt.specs.RulesView.{comments_of}
use Rattle.toml_edit_fmt.specs.declared.page.Part as code
use Rattle.toml_edit_fmt.specs.declared.page.Page.{Page}

-- A part of what is written: a text, or the place of a comment that is aligned with others of its list
-- at this depth.
pub data Bit : Type 0 where
  letters : Text → Bit
  place : ℕ → Bit

-- a text, and after it the place of a comment, after so many columns and in a list at this depth
pub record Part : Type 0 where
  pub text : Text
  pub columns : ℕ
  pub depth : ℕ

-- The text so far: the parts whose places have no spaces yet, and the text after them.
pub record Written : Type 0 where
  pub run : List Part
  pub text : Text

abbrev pub part_of : code.Part → Part
part_of p = record { text = string_bytes p.text; columns = p.columns; depth = p.depth }

abbrev pub parts_of : List code.Part → List Part
parts_of ps = map part_of ps

abbrev pub written : Page → Written
written p = record { run = parts_of p.run.items; text = string_bytes p.text }

-- ---- runs

-- the last place is of a list at this depth, and on the line right above
abbrev pub is_last_above : ℕ → Text → List Part → Bool
is_last_above depth t [] = false
is_last_above depth t (p ∷ []) = (p.depth == depth) && (newlines t == 1)
is_last_above depth t (p ∷ q ∷ ps) = is_last_above depth t (q ∷ ps)

abbrev pub goes_on : ℕ → Written → Bool
goes_on depth w = is_last_above depth w.text w.run

-- the columns of the longest
abbrev pub most_columns : List Part → ℕ
most_columns [] = 0
most_columns (p ∷ ps) = max p.columns (most_columns ps)

-- the spaces after it
abbrev pub spaces_apart : Comments → ℕ
spaces_apart as_they_are = 0
spaces_apart (apart n) = 0
spaces_apart (aligned n) = n

abbrev pub padded : ℕ → ℕ → Part → Text
padded most n p = p.text ++ (spaces (most - p.columns) ++ spaces n)

abbrev pub run_ended : Comments → List Part → Text → Text
run_ended c ps t = flat_map (padded (most_columns ps) (spaces_apart c)) ps ++ t

abbrev pub ended : Comments → Written → Written
ended c w = record { run = []; text = run_ended c w.run w.text }

-- ---- growth

abbrev pub marked : ℕ → Written → Written
marked depth w =
    record {
      run = w.run ++ one (record { text = w.text; columns = columns (last_line w.text); depth = depth });
      text = [];
    }

abbrev pub grown_by : Comments → Bit → Written → Written
grown_by c (letters t) w = record w { text = w.text ++ t }
grown_by c (place depth) w = marked depth (if goes_on depth w then w else ended c w)

abbrev pub grown : Comments → List Bit → Written → Written
grown c [] w = w
grown c (b ∷ bs) w = grown c bs (grown_by c b w)

-- the bits of a comment after something on its line, which may be a member of a list
abbrev pub comment_bits : Comments → Option ℕ → Text → List Bit
comment_bits as_they_are list t = one (letters t)
comment_bits (apart n) list t = one (letters (spaces n ++ t))
comment_bits (aligned n) None t = one (letters (spaces n ++ t))
comment_bits (aligned n) (Some depth) t = place depth ∷ letters t ∷ []

-- A page that has grown by these, and no other way.
pub record Grows (bits : List Bit) (old new : Page) : Type 0 where
  pub source : new.source ≡ old.source
  pub rules : new.rules ≡ old.rules
  pub written : written new ≡ grown (comments_of old.rules.comments) bits (written old)

-- by a text
pub record Gains (t : Text) (old new : Page) : Type 0 where
  pub source : new.source ≡ old.source
  pub rules : new.rules ≡ old.rules
  pub text : string_bytes new.text ≡ string_bytes old.text ++ t
  pub run : new.run ≡ old.run
