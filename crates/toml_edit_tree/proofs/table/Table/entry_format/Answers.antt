-- The entry of a key.
use Rattle.std.proofs.Common.{◌≡◌, [], ◌∷◌, ◌++◌, Some, None, rules, refl, sym, ap, ◌∙◌}
use Rattle.toml_edit_slots.specs.Slots.{place}
use Rattle.toml_edit_tree.specs.SlotsOf.{slots_of}
use Rattle.toml_edit_tree.specs.declared.table.Table.{out-Table}
use Rattle.toml_edit_tree.proofs.SlotsLaws.{made_fields}
use Rattle.toml_edit_tree.proofs.TableEntryLaws.{item-new, item-present, key-new, key-present, leaves-new, leaves-present}
use Rattle.toml_edit_tree.proofs.table.Table.entry_format.Goals as goal

pub returns-in-Some : goal.returns-in-Some
returns-in-Some c =
    let k = c.args.key.now in
    let t = c.args.self.now in
    let es = (out-Table t).slots in
    let at = c.in-Some.at in
    let here : place k.name es ≡ Some at = ap (λ u. place u es) (sym c.get.ensures.name) ∙ sym c.in-Some.ensures.place in (
      (refl, λ w. refl, tt),
      record {
        refused = tt;
        same_table = refl;
        entry = record {
          table = refl;
          item = item-present k t at here c.in-Some.ensures.within;
          key = key-present k t at here c.in-Some.ensures.within;
          leaves = leaves-present k t at here c.place_of.ensures.apart;
          keeps = λ x. made_fields t _;
        };
      },
    )

pub returns-in-Ok : goal.returns-in-Ok
returns-in-Ok c =
    let k = c.args.key.now in
    let t = c.args.self.now in
    let es = (out-Table t).slots in
    let is : c.in-Ok.key ≡ k = c.in-Ok.ensures in
    let none : place k.name es ≡ None = ap (λ u. place u es) (sym c.get.ensures.name) ∙ search rules in (
      (refl, λ w. refl, tt),
      record {
        refused = tt;
        same_table = refl;
        entry = record {
          table = refl;
          item = item-new k t none;
          key = ap Some is ∙ key-new k t none;
          leaves = λ x. ap (λ y. slots_of (record t { slots = es ++ record { key = y; item = x } ∷ [] })) is ∙ leaves-new k t none x;
          keeps = λ x. made_fields t _;
        };
      },
    )
