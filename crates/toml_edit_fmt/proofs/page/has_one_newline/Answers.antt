-- The bytes that pass are counted.
use Rattle.std.proofs.Common.{rules, ◌≡◌, ◌==◌, ap, sym, ◌∙◌, count_by}
use Rattle.std.proofs.lemmas.List.Sums.{length-filter}
use Rattle.toml_edit_model.specs.Text.{line_feed}
use Rattle.toml_edit_fmt.proofs.page.has_one_newline.Goals as goal

pub returns : goal.returns
returns c =
    let count : c.count.result ≡ count_by (λ b. b == line_feed) c.args.bytes.now = search rules in
    ap (λ n. n == 1) (count ∙ sym (length-filter (λ b. b == line_feed) c.args.bytes.now))
