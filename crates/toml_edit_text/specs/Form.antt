-- What a contract sees of a `PackedText`, and what holds of its fields.
use Rattle.std.specs.Prelude.{ℕ, ◌+◌, ◌*◌, ◌^◌, string_bytes}
use Rattle.toml_edit_text.specs.Packed.{Packed, held, span, unset}
use Rattle.toml_edit_text.specs.Block.{IsBlock}
use Rattle.toml_edit_text.specs.Leaked.{IsLeaked}
use Rattle.toml_edit_text.specs.SharedText.{shown_part, IsShown}
use Rattle.toml_edit_text.specs.declared.packed_text.Form.{Form}
use Rattle.toml_edit_text.specs.declared.packed_text.Form.TheVariants.{Unset, Short, Part, Long, Whole, Kept, Span}

-- the length or the place that has these parts
abbrev pub joined : ℕ → ℕ → ℕ → ℕ
joined high middle low = 2 ^ 48 * high + (2 ^ 32 * middle + low)

abbrev pub packed_view : Form → Packed
packed_view Unset = unset
packed_view (Short t) = held t
packed_view (Part len start source) = held (shown_part source start len)
packed_view (Long len block) = held block.strip.items
packed_view (Whole t) = held (string_bytes t.value)
packed_view (Kept high middle low kept) = held kept.shown.items
packed_view (Span high middle low j) = span (joined high middle low) j

abbrev pub IsWhole : Form → Type 0
IsWhole Unset = Unit {0}
IsWhole (Short t) = Unit {0}
IsWhole (Part len start source) = IsShown source start len
IsWhole (Long len block) = IsBlock block len
IsWhole (Whole t) = Unit {0}
IsWhole (Kept high middle low kept) = IsLeaked kept (joined high middle low)
IsWhole (Span high middle low j) = Unit {0}
