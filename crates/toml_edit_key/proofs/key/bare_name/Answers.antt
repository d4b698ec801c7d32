-- A text that begins bare is the only name that it spells.
use Rattle.std.proofs.Common.{◌≡◌, true, get_or, sym, ap, ◌∙◌}
use Rattle.toml_edit_model.specs.Spelling.{is_bare_byte}
use Rattle.toml_edit_key.proofs.BareSpellings.{bare_is_name}
use Rattle.toml_edit_key.proofs.key.bare_name.Goals as goal

pub returns-in_ok-from_str : goal.returns-in_ok-from_str
returns-in_ok-from_str c =
    λ k spelled. let bare : is_bare_byte (get_or c.args.text.now c.args.start 0) ≡ true =
    ap is_bare_byte (sym c.byte_at.ensures) ∙ sym c.is_bare.ensures ∙ c.if-is_bare.true in
    c.in_ok-from_str.ensures.ok ∙ c.range.ensures.value ∙ sym (bare_is_name c.args.text.now k c.args.start c.args.end bare spelled)
