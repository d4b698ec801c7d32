-- The key of a text, to be changed.
use Rattle.std.proofs.Common.{sym, ap, ◌∙◌}
use Rattle.toml_edit_model.specs.Slots.{lookup_key}
use Rattle.toml_edit_table_like.proofs.SlotLaws.{key-at, key-none}
use Rattle.toml_edit_table_like.proofs.like.TableLike.key_mut.Goals as goal

pub returns-in-Some : goal.returns-in-Some
returns-in-Some g c =
    let k = c.args.key.now in
    let t = c.args.self.now in
    sym c.key_at_mut.ensures.key ∙ key-at k (g.Self.HasSlots.entries t) c.in-Some.at (sym c.in-Some.ensures.place) c.in-Some.ensures.within
    ∙ sym (ap (lookup_key k) (g.Self.HasSlots.shows t))

pub returns-in-None : goal.returns-in-None
returns-in-None g c =
    let k = c.args.key.now in
    let t = c.args.self.now in
    key-none k (g.Self.HasSlots.entries t) (sym c.in-None.ensures.place) ∙ sym (ap (lookup_key k) (g.Self.HasSlots.shows t))
