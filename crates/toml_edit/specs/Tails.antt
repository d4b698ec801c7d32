-- The end of a text that may be a newline.
use Rattle.std.specs.Prelude.{ℕ, [], ◌∷◌, ◌==◌, if◌then◌else◌}
use Rattle.toml_edit_model.specs.Text.{Text, carriage_return, line_feed}
use Rattle.toml_edit.specs.declared.tail.Tail.{Tail}
use Rattle.toml_edit.specs.declared.tail.Tail.TheVariants.{Nothing, Return, Feed, Both}

-- the tail after a line feed more
abbrev pub after_feed : Tail → Tail
after_feed Nothing = Feed
after_feed Return = Both
after_feed Feed = Feed
after_feed Both = Feed

-- the tail after a byte more
abbrev pub tail_step : Tail → ℕ → Tail
tail_step t c =
    if c == carriage_return then Return else (if c == line_feed then after_feed t else Nothing)

-- the tail after these bytes more
abbrev pub tail_after : Tail → Text → Tail
tail_after t [] = t
tail_after t (c ∷ cs) = tail_after (tail_step t c) cs

-- the tail as a text
abbrev pub tail_text : Tail → Text
tail_text Nothing = []
tail_text Return = carriage_return ∷ []
tail_text Feed = line_feed ∷ []
tail_text Both = carriage_return ∷ line_feed ∷ []
