-- The key of a slot.
use Rattle.std.proofs.Common.{option_map, sym, ap, ◌∙◌}
use Rattle.std.specs.Option.{option_copied}
use Rattle.toml_edit_model.specs.Slots.{lookup_key}
use Rattle.toml_edit_table_like.proofs.FoundLaws.{key-read}
use Rattle.toml_edit_table_like.proofs.table_ref.TableRef.key.Goals as goal

pub returns-in_err-key : goal.returns-in_err-key
returns-in_err-key c =
    let k = c.args.key.now in
    ap option_copied c.from_residual.ensures ∙ ap (option_map (λ p. p.0.now)) (sym c.in_err-key.was)
    ∙ key-read k c.as_slots.result.now c.get_key_value.result c.get_key_value.ensures.slot
    ∙ ap (lookup_key k) c.as_slots.ensures

pub returns : goal.returns
returns c =
    let k = c.args.key.now in
    ap (option_map (λ p. p.0.now)) (sym c.in_ok-key.was)
    ∙ key-read k c.as_slots.result.now c.get_key_value.result c.get_key_value.ensures.slot
    ∙ ap (lookup_key k) c.as_slots.ensures
