-- The events that pass are counted.
use Rattle.std.proofs.Common.{rules, ◌≡◌, ◌≤◌, ◌∙◌, count_by, length, subst, sym, ℕ}
use Rattle.std.proofs.lemmas.List.Sums.{count_by-le-length}
use Rattle.toml_edit_fmt.proofs.StateLaws.{header-keys, is_key}
use Rattle.toml_edit_fmt.proofs.state.key_count.Goals as goal

pub returns-clause-keys : goal.returns-clause-keys
returns-clause-keys c =
    let count : c.count.result ≡ count_by is_key c.args.header.now = search rules in
    λ h start is. count ∙ header-keys h start c.args.header.now is

pub returns-clause-within : goal.returns-clause-within
returns-clause-within c =
    let count : c.count.result ≡ count_by is_key c.args.header.now = search rules in
    subst (λ (n : ℕ). n ≤ length c.args.header.now) (sym count) (count_by-le-length is_key c.args.header.now)
