-- A header is added to slots, or clashes with them.
use Rattle.std.proofs.Common.{◌≡◌, refl, ◌∙◌, ap, ℕ, Bool, true, false, List, [], ◌∷◌, Option, Some, None}
use Rattle.std.specs.Prelude.{not, ◌&&◌, if◌then◌else◌, is_some}
use Rattle.toml_edit_model.specs.Mode.{Mode}
use Rattle.toml_edit_model.specs.Text.{is_empty}
use Rattle.toml_edit_model.specs.Syntax.{Segment}
use Rattle.toml_edit_model.specs.Paths.{Path, to_key, Mention, Source, mention_of, elements_at, in_last, passing_role, header_mentions}
use Rattle.toml_edit_model.specs.Paths.{next_start}
use Rattle.toml_edit_model.specs.Tree.{Node, nothing, leaf, list, inline, table, tables, Items, no_items, item, Slots, no_slots}
use Rattle.toml_edit_model.specs.TreeOf.{spanned_in, key_at, key_extent, made_by_path}
use Rattle.toml_edit_laws.specs.FlatTree.{with_slot}
use Rattle.toml_edit_laws.specs.InlineTree.{node_at, with_node}
use Rattle.toml_edit_laws.specs.TableTree.{without_slot, headed_table, change_last, pass_below, open_table, open_element, add_header}
use Rattle.toml_edit_laws.specs.TableClash.{clash_in_last, pass_clash, table_clash, element_clash, header_clash}
use Rattle.toml_edit_laws.proofs.clashes.TableClash.{in_way}
use Rattle.toml_edit_laws.proofs.common.OptionSteps.{is_some-map, is_none}
use Rattle.toml_edit_laws.proofs.mentions.RoleTests.{opening_role}

-- ---- a header goes on where nothing stands in its way

clash-empty : (is_array : Bool) (ms : List (Mention Source)) → header_clash is_array ms no_slots ≡ None
clash-empty is_array [] = refl
clash-empty true (m ∷ []) = refl
clash-empty false (m ∷ []) = refl
clash-empty is_array (m ∷ r ∷ rest) = refl

change-clash : (way : Mention Source × Node) (change : Slots → Option Slots) (further : Slots → Option (Mention Source × Node)) (xs : Items)
    → ((us : Slots) → is_some (change us) ≡ is_none (further us)) → is_some (change_last change xs) ≡ is_none (clash_in_last way further xs)
change-clash way change further no_items h = refl
change-clash way change further (item (table f inner) no_items) h =
    is_some-map (λ (changed : Slots). item (table f changed) no_items) (change inner) ∙ h inner
change-clash way change further (item n no_items) h = refl
change-clash way change further (item n (item x xs)) h =
    is_some-map (item n) (change_last change (item x xs)) ∙ change-clash way change further (item x xs) h

module _ (mode : Mode) where
  add-clash : (is_array : Bool) (m : Mention Source) (rest : List (Mention Source)) (ss : Slots)
      → is_some (add_header mode is_array (m ∷ rest) ss) ≡ is_none (header_clash is_array (m ∷ rest) ss)
  add-clash true m [] ss = by_node (node_at m.segment.key ss)
    where
      by_node : (o : Option Node) → is_some (open_element mode m ss o) ≡ is_none (element_clash m o)
      by_node None = refl
      by_node (Some nothing) = refl
      by_node (Some (leaf s x d)) = refl
      by_node (Some (list f xs)) = refl
      by_node (Some (inline f us)) = refl
      by_node (Some (table f us)) = refl
      by_node (Some (tables x xs)) = refl
  add-clash false m [] ss = by_node (node_at m.segment.key ss)
    where
      by_node : (o : Option Node) → is_some (open_table mode m ss o) ≡ is_none (table_clash m o)
      by_node None = refl
      by_node (Some nothing) = refl
      by_node (Some (leaf s x d)) = refl
      by_node (Some (list f xs)) = refl
      by_node (Some (inline f us)) = refl
      by_node (Some (tables x xs)) = refl
      by_node (Some (table f us)) =
          by_fields (f.is_implicit && not f.is_dotted) (with_slot (without_slot m.segment.key ss) (key_at (spanned_in mode) m)
          (headed_table mode m us))
        where
          by_fields : (b : Bool) (opened : Slots) → is_some (if b then Some opened else None)
              ≡ is_none (if b then None else Some (in_way m (table f us)))
          by_fields true opened = refl
          by_fields false opened = refl
  add-clash is_array m (r ∷ rest) ss = by_node (node_at m.segment.key ss) (add-clash is_array r rest)
    where
      by_node : (o : Option Node) → ((us : Slots) → is_some (add_header mode is_array (r ∷ rest) us)
          ≡ is_none (header_clash is_array (r ∷ rest) us))
          → is_some (pass_below mode m (add_header mode is_array (r ∷ rest)) ss o)
          ≡ is_none (pass_clash m (header_clash is_array (r ∷ rest)) o)
      by_node None ih =
          is_some-map
          (λ (inner : Slots). with_slot ss (key_at (spanned_in mode) m)
          (table (made_by_path (spanned_in mode) false (key_extent (spanned_in mode) m)) inner))
          (add_header mode is_array (r ∷ rest) no_slots)
          ∙ ih no_slots ∙ ap is_none (clash-empty is_array (r ∷ rest))
      by_node (Some nothing) ih = refl
      by_node (Some (leaf s x d)) ih = refl
      by_node (Some (list f xs)) ih = refl
      by_node (Some (inline f us)) ih = refl
      by_node (Some (table f inner)) ih =
          is_some-map (λ (changed : Slots). with_node m.segment.key (table f changed) ss) (add_header mode is_array (r ∷ rest) inner)
          ∙ ih inner
      by_node (Some (tables x xs)) ih =
          is_some-map (λ (changed : Items). with_node m.segment.key (tables x changed) ss)
          (change_last (add_header mode is_array (r ∷ rest)) xs)
          ∙ change-clash (m, tables x xs) (add_header mode is_array (r ∷ rest)) (header_clash is_array (r ∷ rest)) xs ih

  -- A header is added, or clashes.
  pub header_or_clash : (is_array : Bool) (source : Source) (arrays : List Path) (start : ℕ) (segments : List Segment) (ss : Slots)
      → is_empty segments ≡ false
      → is_some (add_header mode is_array (header_mentions source arrays (opening_role is_array) start [] segments) ss)
      ≡ is_none (header_clash is_array (header_mentions source arrays (opening_role is_array) start [] segments) ss)
  header_or_clash is_array source arrays start [] ss keyed = absurd cc
  header_or_clash is_array source arrays start (g ∷ []) ss keyed =
      add-clash is_array (mention_of source start (to_key [] g.key) (opening_role is_array) g) [] ss
  header_or_clash is_array source arrays start (g ∷ h ∷ rest) ss keyed =
      let here = to_key [] g.key in
      let count = elements_at arrays here in
      add-clash is_array (mention_of source start here (passing_role count) g)
      (header_mentions source arrays (opening_role is_array) (next_start start g) (in_last count here) (h ∷ rest)) ss
