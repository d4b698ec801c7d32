-- The key of a slot.
use Rattle.std.proofs.Common.{option_map, sym, ap, ◌∙◌}
use Rattle.std.specs.Option.{option_copied}
use Rattle.toml_edit_model.specs.Slots.{lookup_key}
use Rattle.toml_edit_table_like.specs.Shown.{shown}
use Rattle.toml_edit_table_like.proofs.FoundLaws.{key-read}
use Rattle.toml_edit_table_like.proofs.like.AnyTable.key.Goals as goal

pub returns-in_err-key : goal.returns-in_err-key
returns-in_err-key g c =
    let t = c.args.self.now in
    let k = c.args.key.now in
    ap option_copied c.from_residual.ensures ∙ ap (option_map (λ p. p.0.now)) (sym c.in_err-key.was)
    ∙ key-read k c.as_slots.result.now c.get_key_value.result c.get_key_value.ensures.slot
    ∙ ap (lookup_key k) (ap shown c.as_slots.ensures ∙ sym (g.Self.HasSlots.shows t))

pub returns : goal.returns
returns g c =
    let t = c.args.self.now in
    let k = c.args.key.now in
    ap (option_map (λ p. p.0.now)) (sym c.in_ok-key.was)
    ∙ key-read k c.as_slots.result.now c.get_key_value.result c.get_key_value.ensures.slot
    ∙ ap (lookup_key k) (ap shown c.as_slots.ensures ∙ sym (g.Self.HasSlots.shows t))
