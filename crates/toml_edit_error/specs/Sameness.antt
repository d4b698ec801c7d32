-- When reports are equal, and what a hash takes in of them.
use Rattle.std.specs.Prelude.{ℕ, Bool, ◌&&◌, ◌==◌, List, ◌++◌}
use Rattle.std.specs.Option.{option_eq}
use Rattle.std.specs.Hash as fed
use Rattle.toml_edit_model.specs.Text.{same_text}
use Rattle.toml_edit_error.specs.Report.{Report}

-- they begin and end alike
abbrev pub same_span : ℕ × ℕ → ℕ × ℕ → Bool
same_span a b = a.0 == b.0 && a.1 == b.1

-- their messages, their spans and their texts are equal
abbrev pub same_report : Report → Report → Bool
same_report a b =
    same_text a.message b.message
    && (option_eq same_span a.span b.span && same_text a.input b.input)

abbrev pub span_hash_input : ℕ × ℕ → List (List ℕ)
span_hash_input s = fed.usize s.0 ++ fed.usize s.1

-- the message, the span and the text
abbrev pub report_hash_input : Report → List (List ℕ)
report_hash_input r = fed.str r.message ++ (fed.option span_hash_input r.span ++ fed.str r.input)
