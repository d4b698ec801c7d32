-- The first word is the option, or there is none.
use Rattle.std.proofs.Common.{◌∙◌, ◌-◌, ◌∷◌, ap, drop, length, map, string_bytes, sym, take}
use Rattle.toml_edit_files.specs.Requests.{asks_help}
use Rattle.toml_edit_files.proofs.OperandLaws.{first-of, no-of}
use Rattle.toml_edit_files.proofs.request.asks_help.Goals as goal

pub returns-in-len1-up : goal.returns-in-len1-up
returns-in-len1-up c =
    let words = c.args.words.now in let more = map string_bytes (take (length words - 1) (drop 1 words)) in
    c.is_help_option.ensures
    ∙ sym (ap asks_help (first-of string_bytes words c.first-item.result c.in-len1-up.len_at_least c.first-item.is
    ∙ ap (λ t. t ∷ more) (sym c.as_str.ensures.value)))

pub returns-in-empty : goal.returns-in-empty
returns-in-empty c = sym (ap asks_help (no-of string_bytes c.args.words.now c.in-empty.len_below))
