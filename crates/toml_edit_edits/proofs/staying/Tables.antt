-- Where a path leads to a table.
use Rattle.std.proofs.Common.{◌≡◌, refl, sym, ◌∙◌, ap, subst, true, false, List, [], ◌∷◌, ◌++◌, append-nil, length, Some, inl, inr}
use Rattle.std.specs.Prelude.{◌⊎◌}
use Rattle.toml_edit_model.specs.Mode.{Mode}
use Rattle.toml_edit_model.specs.Text.{Text}
use Rattle.toml_edit_model.specs.Paths.{to_key, to_element}
use Rattle.toml_edit_model.specs.Keys.{new_key}
use Rattle.toml_edit_model.specs.Tree.{Node, TableFields, table, tables, Slots, SlotsAreWellMade, IsWellMade, Tree}
use Rattle.toml_edit_model.specs.HeaderOrder.{Visit, visit_of}
use Rattle.toml_edit_model.specs.Fits.{is_steady_in}
use Rattle.toml_edit_model.specs.Slots.{Slot, keyed, lookup_slot}
use Rattle.toml_edit_model.specs.Lists.{slot_list}
use Rattle.toml_edit_laws.specs.Locality.{Turn, into_table, into_element, Leads, root_visit, edited, element_count}
use Rattle.toml_edit_laws.proofs.locality.Slots.{slots_under}
use Rattle.toml_edit_edit_laws.specs.Commands.{done, mapped, item_at, root_item, with_slots}
use Rattle.toml_edit_edit_laws.specs.CommandLaws.{Goes, NamesTable}
use Rattle.toml_edit_edit_laws.proofs.commands.Going.{goes-along, made-goes}
use Rattle.toml_edit_edit_laws.proofs.commands.Setting.{done-is}
use Rattle.toml_edit_edit_laws.proofs.path_calls.Spots.{GoesOn, at_slot, at_element, in_value, Spot, spot}
use Rattle.toml_edit_paths.specs.Calls.{replaced_at, replaced_below}
use Rattle.toml_edit_edits.proofs.staying.Words.{StaysWithin}
use Rattle.toml_edit_edits.proofs.staying.Values.{inside-value}

-- ---- ways that go on

pub goes-join : (way more : List Turn) (path q : List Text) → Goes way path → Goes more q → Goes (way ++ more) (path ++ q)
goes-join [] more [] q h g = g
goes-join [] more (j ∷ path) q h g = absurd h
goes-join (into_table k ∷ way) more [] q h g = absurd h
goes-join (into_table k ∷ way) more (j ∷ path) q h g = (h.0, goes-join way more path q h.1 g)
goes-join (into_element k i ∷ way) more [] q h g = absurd h
goes-join (into_element k i ∷ way) more (j ∷ []) q h g = absurd h
goes-join (into_element k i ∷ way) more (j ∷ x ∷ path) q h g = (h.0, h.1, goes-join way more path q h.2 g)

pub leads-join : (way more : List Turn) (s v w : Visit) → Leads way s v → Leads more v w → Leads (way ++ more) s w
leads-join [] more s v w h g = subst (λ (x : Visit). Leads more x w) (sym h) g
leads-join (into_table k ∷ way) more s v w (l, f, ss, eq, rest) g =
    (l, f, ss, eq, leads-join way more (visit_of (to_key s.path l.name) (s.keys ++ (l ∷ [])) false f ss) v w rest g)
leads-join (into_element k i ∷ way) more s v w (l, e, xs, before, f, ss, after, eq, items, place, rest) g = (
  l,
  e,
  xs,
  before,
  f,
  ss,
  after,
  eq,
  items,
  place,
  leads-join way more (visit_of (to_element (to_key s.path l.name) (element_count before)) (s.keys ++ (l ∷ [])) true f ss) v w rest g,
)

-- ---- a table on the walk, or inside a value

pub record OnWalk (t : Tree) (path : List Text) (f : TableFields) (ss : Slots) : Type 0 where
  pub visit : Visit
  pub named : NamesTable t path visit
  pub fields : visit.fields ≡ f
  pub slots : visit.slots ≡ ss

abbrev pub InsideValue : Mode → Tree → List Text → Type 0
InsideValue mode t path = (u : Tree) (m : Node) → IsWellMade m → replaced_at path m t ≡ done u → StaysWithin mode t u path

module _ (mode : Mode) (t : Tree) (made : SlotsAreWellMade t.slots) (steady : is_steady_in mode t ≡ true) (path : List Text)
    (f : TableFields) (ss : Slots) where
  turned : (p : Spot (root_visit t) path (table f ss)) (inner : List Text) → p.inner ≡ inner → GoesOn p.top (table f ss) inner
      → OnWalk t path f ss ⊎ InsideValue mode t path
  turned p [] is (at_slot same) =
      let w = p.visit in
      let v : Visit = visit_of (to_key w.path p.key.name) (w.keys ++ (p.key ∷ [])) false f ss in
      let there : lookup_slot p.segment (slot_list w.slots) ≡ Some (keyed p.key (table f ss)) = p.there ∙ ap (λ n. Some (keyed p.key n)) same in
      let ends : p.front ++ (p.segment ∷ []) ≡ path = ap (λ (q : List Text). p.front ++ (p.segment ∷ q)) (sym is) ∙ sym p.path_is in
      let turn : List Turn = into_table p.segment ∷ [] in
      inl (record {
        visit = v;
        named = record {
          way = p.way ++ turn;
          goes = subst (Goes (p.way ++ turn)) ends (goes-join p.way turn p.front (p.segment ∷ []) p.goes (refl, tt));
          leads = leads-join p.way turn (root_visit t) w v p.leads (p.key, f, ss, there, refl);
        };
        fields = refl;
        slots = refl;
      })
  turned p (x ∷ []) is (at_element y e) =
      let w = p.visit in
      let i = length e.before in
      let v : Visit = visit_of (to_element (to_key w.path p.key.name) (element_count e.before)) (w.keys ++ (p.key ∷ [])) true e.fields e.slots in
      let there : lookup_slot p.segment (slot_list w.slots) ≡ Some (keyed p.key (tables e.extent e.items)) =
      p.there ∙ ap (λ n. Some (keyed p.key n)) e.is in
      let ends : p.front ++ (p.segment ∷ y ∷ []) ≡ path = ap (λ (q : List Text). p.front ++ (p.segment ∷ q)) (sym is) ∙ sym p.path_is in
      let turn : List Turn = into_element p.segment i ∷ [] in
      let found : table f ss ≡ table e.fields e.slots = e.found_is in
      inl (record {
        visit = v;
        named = record {
          way = p.way ++ turn;
          goes = subst (Goes (p.way ++ turn)) ends (goes-join p.way turn p.front (p.segment ∷ y ∷ []) p.goes (refl, e.number, tt));
          leads = leads-join p.way turn (root_visit t) w v p.leads (p.key, e.extent, e.items, e.before, e.fields, e.slots, e.after, there, e.parts, refl, refl);
        };
        fields = cc;
        slots = cc;
      })
  turned p (x ∷ inner) is (in_value y more value) =
      inr (λ u m w put. inside-value mode t u made steady path (table f ss) m p put w value y more is)

pub table-lands : (mode : Mode) (t : Tree) → SlotsAreWellMade t.slots → is_steady_in mode t ≡ true → (path : List Text)
    (f : TableFields) (ss : Slots) → item_at path t ≡ Some (table f ss) → OnWalk t path f ss ⊎ InsideValue mode t path
table-lands mode t made steady [] f ss there =
    inl (record { visit = root_visit t; named = record { way = []; goes = tt; leads = refl }; fields = cc; slots = cc })
table-lands mode t made steady (k ∷ rest) f ss there =
    let p : Spot (root_visit t) (k ∷ rest) (table f ss) = spot (table f ss) k rest (root_visit t) there in
    turned mode t made steady (k ∷ rest) f ss p p.inner refl p.on

-- ---- other slots in a table on the walk

pub table-left : (t u : Tree) (path : List Text) (v : Visit) (g : List (Slot Node) → List (Slot Node)) → SlotsAreWellMade t.slots
    → (named : NamesTable t path v) → replaced_at path (table v.fields (slots_under g v.slots)) t ≡ done u → u ≡ edited named.way g t
table-left t u path v g made named put =
    let m : Node = table v.fields (slots_under g v.slots) in
    let along = goes-along new_key false (λ q. replaced_below q m) [] (λ k q x. refl) g named.way path (root_visit t) v made
    (made-goes named.way path named.goes) named.leads refl in
    done-is u (edited named.way g t)
    (sym put ∙ ap (λ q. mapped (with_slots t) (replaced_below q m (root_item t))) (sym (append-nil path)) ∙ ap (mapped (with_slots t)) along)

-- the same, where the table has these fields and slots
pub walk-left : (t u : Tree) (path : List Text) (f : TableFields) (ss : Slots) (g : List (Slot Node) → List (Slot Node)) → SlotsAreWellMade t.slots
    → (w : OnWalk t path f ss) → replaced_at path (table f (slots_under g ss)) t ≡ done u → u ≡ edited w.named.way g t
walk-left t u path f ss g made w put =
    table-left t u path w.visit g made w.named
    (ap (λ x. replaced_at path (table x (slots_under g w.visit.slots)) t) w.fields ∙ ap (λ x. replaced_at path (table f (slots_under g x)) t) w.slots ∙ put)
