use Rattle.std.proofs.Common.{◌≡◌, ◌∙◌, length, rules}
use Rattle.std.specs.Str.{chars}
use Rattle.std.proofs.lemmas.Str.{chars_from_encodes}
use Rattle.toml_edit_error.proofs.Characters.{characters-chars}
use Rattle.toml_edit_error.proofs.place.char_count.Goals as goal

pub returns : goal.returns
returns c =
    let count : c.count.result ≡ length (chars c.args.text.now) = search (rules, chars_from_encodes) in
    count ∙ characters-chars c.args.text.now c.utf8.text
