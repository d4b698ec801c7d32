-- `set_at_with_headers` below keys that are missing.
use Rattle.std.proofs.Common.{◌≡◌, refl, sym, ◌∙◌, ap, subst, true, List, [], ◌∷◌, ◌++◌, None}
use Rattle.toml_edit_model.specs.Mode.{Mode}
use Rattle.toml_edit_model.specs.Paths.{to_key}
use Rattle.toml_edit_model.specs.Tree.{Key, Node, table, SlotsAreWellMade, Tree}
use Rattle.toml_edit_model.specs.HeaderOrder.{Visit}
use Rattle.toml_edit_model.specs.Keys.{cleared_key, names}
use Rattle.toml_edit_model.specs.Slots.{Slot, keyed, lookup_slot}
use Rattle.toml_edit_model.specs.Lists.{slot_list, slots_from}
use Rattle.toml_edit_model.specs.Text.{one}
use Rattle.toml_edit_laws.specs.Locality.{root_visit, edited}
use Rattle.toml_edit_laws.proofs.locality.Sound.{steady-parts}
use Rattle.toml_edit_edit_laws.specs.Commands.{change_slot, done, mapped, with_slots}
use Rattle.toml_edit_edit_laws.specs.CommandLaws.{NamesTable}
use Rattle.toml_edit_edit_laws.specs.Headed.{headed_below, set_at_with_headers, set_headed_below}
use Rattle.toml_edit_edit_laws.specs.HeaderAdds.{OneTableMore, SetAddsTable, last_table}
use Rattle.toml_edit_edit_laws.proofs.commands.Going.{goes-down-tables}
use Rattle.toml_edit_edit_laws.proofs.commands.Setting.{done-is}
use Rattle.toml_edit_edit_laws.proofs.headers.Adding.{one-table-more}

-- a slot more, with the new tables
adds-tables : (t u : Tree) (path : List Key) (w : Visit) (k j : Key) (more : List Key) (v : Node) → SlotsAreWellMade t.slots
    → (named : NamesTable t (names path) w) → lookup_slot k.name (slot_list w.slots) ≡ None
    → set_at_with_headers (path ++ (k ∷ j ∷ more)) v t ≡ done u
    → u ≡ edited named.way (λ ss. ss ++ one (keyed (cleared_key k) (headed_below (j ∷ more) v))) t
adds-tables t u path w k j more v made named is_new set =
    let g : List (Slot Node) → List (Slot Node) = λ ss. ss ++ (keyed (cleared_key k) (headed_below (j ∷ more) v) ∷ []) in
    let here : set_headed_below v (k ∷ j ∷ more) (table w.fields w.slots) ≡ done (table w.fields (slots_from (g (slot_list w.slots)))) =
    ap (λ o. mapped (λ xs. table w.fields (slots_from xs)) (change_slot true k (set_headed_below v (j ∷ more)) (slot_list w.slots) o)) is_new in
    let along = goes-down-tables (λ x. x) true (set_headed_below v) (k ∷ j ∷ more) (λ x rest f ss. refl) (λ x rest e xs. refl) g named.way path
    (root_visit t) w made named.goes named.leads here in
    done-is u (edited named.way g t) (sym set ∙ ap (mapped (with_slots t)) along)

pub set_adds_table : (mode : Mode) → SetAddsTable mode
set_adds_table mode t u path w k j more v made steady plain named is_new set =
    subst (λ (x : Tree). OneTableMore mode t x (to_key w.path k.name) (last_table w.path w.keys k j more v))
    (sym (adds-tables t u path w k j more v made named is_new set))
    (one-table-more mode t named.way w k j more v made (steady-parts mode t steady) named.leads is_new plain)
