-- What a contract sees of raw texts: the text or the span, when two are equal, and what a hash
-- takes in.
use Rattle.std.specs.Prelude.{ℕ, Bool, true, false, ◌&&◌, ◌==◌, List, ◌++◌, Option, None, Some}
use Rattle.std.specs.declared.ops.Range.{Range}
use Rattle.std.specs.Hash as fed
use Rattle.toml_edit_model.specs.Text.{Text, same_text}
use Rattle.toml_edit_model.specs.Tree.{Raw, owned, span}
use Rattle.toml_edit_text.specs.Packed.{is_short}

-- the text, unless it is a span
abbrev pub text_of : Raw → Option Text
text_of (owned t) = Some t
text_of (span i j) = None

-- it takes no memory: a short text, or a span
abbrev pub is_free_raw : Raw → Bool
is_free_raw (owned t) = is_short t
is_free_raw (span i j) = true

-- the span, unless it is a text
abbrev pub range_of : Raw → Option (Range ℕ)
range_of (owned t) = None
range_of (span i j) = Some (record { start = i; end = j })

-- they are one text, or one span
abbrev pub same_raw : Raw → Raw → Bool
same_raw (owned s) (owned t) = same_text s t
same_raw (span i j) (span k l) = i == k && j == l
same_raw _ _ = false

-- a mark of the kind, and then the text or the two places
abbrev pub raw_hash_input : Raw → List (List ℕ)
raw_hash_input (owned t) = fed.u8 0 ++ fed.str t
raw_hash_input (span i j) = fed.u8 1 ++ (fed.usize i ++ fed.usize j)
