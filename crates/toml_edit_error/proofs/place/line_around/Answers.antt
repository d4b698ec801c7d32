-- The line is the first one of the text from where it begins.
use Rattle.std.proofs.Common.{◌≡◌, ◌-◌, ap, ◌∙◌, take, drop}
use Rattle.toml_edit_model.specs.Excerpt.{first_line, last_line_size}
use Rattle.toml_edit_error.specs.Place.{cut_of}
use Rattle.toml_edit_error.proofs.Cuts.{line_from}
use Rattle.toml_edit_error.proofs.place.line_around.Goals as goal

pub returns : goal.returns
returns c =
    let t = c.args.text.now in
    let k = cut_of t c.args.byte in
    let from : c.line_start-start.result ≡ k - last_line_size (take k t) =
    c.line_start-start.ensures.start ∙ ap (λ n. n - last_line_size (take n t)) c.byte_within.ensures.cut in
    c.first_line.ensures
    ∙ ap first_line (c.range_from.ensures.value ∙ ap (λ n. drop n t) from)
    ∙ line_from t c.args.byte
